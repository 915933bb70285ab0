-- Typed flat code overwrites no reference: which registers are NULL at each line is what its label says.
use Rattle.sharc_typed_laws.proofs.{Imports.{◌≡◌, ◌≢◌, ℕ, ◌+◌, ◌<◌, ◌≤◌, ◌==◌, ◌⊎◌, inl, inr, ⊎_elim, Bool, true, false, length, Option, Some, None, refl, sym, ap, ◌∙◌, subst, arith, nat_tests, nat_lt, cases_lt, none-some, same_Some, slice_get_within, if◌then◌else◌, put, Code, Cell, Register, Parameter, Width, function_of, Op, Flat, flat_function, Targets, StaticType, Empty, Refers, Unknown, Entry, EntryMentions, Number, Label, Labels, Less, LessEntry, IsFree, fill, empty, forgets, forgotten, some_names, set_number, IsVacant, Passes, called_label, entry_label, handed_label, moved_copy, unlocked_label, without_base_of, FlatLabels, IsTypedFlat, TypedLine}}
use Rattle.sharc_code.specs.declared.instr.Cell.TheVariants as cells
use Rattle.sharc_code.specs.declared.instr.Register.TheVariants as registers
use Rattle.sharc_code.specs.declared.instr.Width.TheVariants.{Char, Int, Long}
use Rattle.sharc_flat.specs.Framed.{IsFlat, Leads}
use Rattle.sharc_flat.specs.declared.op.Op.TheVariants as op
use Rattle.sharc_guard.specs.Level.{Slot, free, full, Fits, Slots, with_slot, with_moved, without_cell, slot_of, without_handed, result_slot, Enters, Calls as CallsLevel, Resumes, Leaves, Level, Takes, IsLevel}
use Rattle.sharc_invariant.specs.Typed.{IsRef}

-- ---- what a label says of a register
abbrev slot_in : Entry → Slot
slot_in Empty = free
slot_in (Refers s) = full
slot_in Unknown = full

abbrev slots_in : Label → Slots
slots_in l = λ r. slot_in (l.env r)

abbrev is_given : Entry → Bool
is_given Empty = false
is_given (Refers s) = true
is_given Unknown = true

given_is : (e : Entry) → result_slot (is_given e) ≡ slot_in e
given_is Empty = refl
given_is (Refers s) = refl
given_is Unknown = refl

low : (s : Slot) → Fits free s
low free = tt
low full = tt

self : (s : Slot) → Fits s s
self free = tt
self full = tt

high : (s : Slot) → Fits s full
high free = tt
high full = tt

through : (a b c : Slot) → Fits a b → Fits b c → Fits a c
through free b c h k = low c
through full full c h k = k
through full free c h k = absurd h

only_full : (s : Slot) → Fits full s → s ≡ full
only_full free h = absurd h
only_full full h = refl

full_in : (e : Entry) → e ≢ Empty → slot_in e ≡ full
full_in Empty ne = absurd (ne refl)
full_in (Refers s) ne = refl
full_in Unknown ne = refl

fits_less : (l : Label) (r : ℕ) (old new : Entry) → LessEntry l r old new → Fits (slot_in old) (slot_in new)
fits_less l r old Empty h = subst (λ e. Fits (slot_in e) free) (sym h) tt
fits_less l r old (Refers s) h = high (slot_in old)
fits_less l r old Unknown h = high (slot_in old)

fits_passes : (l : Label) (a b : ℕ) (given want : Entry) → Passes l a b given want → Fits (slot_in given) (slot_in want)
fits_passes l a b given Empty h = subst (λ e. Fits (slot_in e) free) (sym h) tt
fits_passes l a b given (Refers t) h = high (slot_in given)
fits_passes l a b given Unknown h = high (slot_in given)

-- ---- what it says behind a change
put_slot : (f : ℕ → Entry) (r : ℕ) (e : Entry) (k : ℕ) → Fits (with_slot (λ q. slot_in (f q)) r (slot_in e) k) (slot_in (put f r e k))
put_slot f r e k = elim (k == r) as (λ b. Fits (if b then slot_in e else slot_in (f k)) (slot_in (if b then e else f k))) [ true ↦ self (slot_in e) | false ↦ self (slot_in (f k)) ]

moved_slot : (g : ℕ → Entry) (r from q : ℕ) → Fits (with_moved (λ q. slot_in (g q)) r from q) (slot_in (put (put g from Empty) r (g from) q))
moved_slot g r from q = elim (q == r) as (λ b. Fits (if b then slot_in (g from) else with_slot (λ q. slot_in (g q)) from free q) (slot_in (if b then g from else put g from Empty q))) [
  | true ↦ self (slot_in (g from))
  | false ↦ put_slot g from Empty q
]

ne_eq : (m n : ℕ) → (m ≡ n → ⊥) → (n == m) ≡ false
ne_eq m n ne = grind (arith, nat_tests)

settled_slot : (g : ℕ → Entry) (to from : ℕ) → (to ≡ from → ⊥) → (q : ℕ) → Fits (with_moved (λ q. slot_in (g q)) to from q) (slot_in (put (put (put g to Empty) from Empty) to (put g to Empty from) q))
settled_slot g to from ne q = elim (q == to) as (λ b. Fits (if b then slot_in (g from) else with_slot (λ q. slot_in (g q)) from free q)
    (slot_in (if b then put g to Empty from else (if q == from then Empty else (if b then Empty else g q))))) [
      | true ↦ subst (λ b. Fits (slot_in (g from)) (slot_in (if b then Empty else g from))) (sym (ne_eq to from ne)) (self (slot_in (g from)))
      | false ↦ put_slot g from Empty q
    ]

forgets_slot : (r : ℕ) (e : Entry) → slot_in (forgotten r e) ≡ slot_in e
forgets_slot r Empty = refl
forgets_slot r (Refers s) = elim (some_names r s.locks) as (λ b. slot_in (if b then Unknown else Refers s) ≡ full) [ true ↦ refl | false ↦ refl ]
forgets_slot r Unknown = refl

given_slot : (g : ℕ → Entry) (r : ℕ) (s : StaticType) (q : ℕ) → Fits (slot_in (g q)) (slot_in (put (put g r Empty) r (Refers s) q))
given_slot g r s q = elim (q == r) as (λ b. Fits (slot_in (g q)) (slot_in (if b then Refers s else (if b then Empty else g q)))) [ true ↦ high (slot_in (g q)) | false ↦ self (slot_in (g q)) ]

stored_slot : (g : ℕ → Entry) (r : ℕ) (e : Entry) (q : ℕ) → Fits (with_slot (λ q. slot_in (g q)) r free q) (slot_in (put (put (put g r Empty) r e) r Empty q))
stored_slot g r e q = elim (q == r) as (λ b. Fits (if b then free else slot_in (g q)) (slot_in (if b then Empty else (if b then e else (if b then Empty else g q))))) [ true ↦ tt | false ↦ self (slot_in (g q)) ]

popped_slot : (g : ℕ → Entry) (r q : ℕ) → Fits (with_slot (λ q. slot_in (g q)) r free q) (slot_in (put (λ q. forgotten r (g q)) r Empty q))
popped_slot g r q = elim (q == r) as (λ b. Fits (if b then free else slot_in (g q)) (slot_in (if b then Empty else forgotten r (g q)))) [
  | true ↦ tt
  | false ↦ subst (λ s. Fits (slot_in (g q)) s) (sym (forgets_slot r (g q))) (self (slot_in (g q)))
]

-- ---- flat code
abbrev frame_of : Option ℕ → ℕ
frame_of None = 0
frame_of (Some f) = f

-- no two functions have one entry, and what is handed to a thread is more than NULL
module _ (x : Targets) (code : Code) (fl : FlatLabels) (flat : Flat) (dropped : ℕ → Bool) (t : IsTypedFlat x code dropped fl flat) (is_flat : IsFlat flat)
    (callee : (f g : ℕ) → f < length code.functions.items → g < length flat.functions → (function_of code f).entry ≡ (function_of code g).entry → f ≡ g)
    (takes : (f : ℕ) → f < length flat.functions → (flat_function flat f).parameter ≡ Parameter.Reference → (fl.lines.signature f).takes 0 ≢ Empty) where
  abbrev ls : Labels
  ls = fl.lines

  abbrev owner : ℕ → ℕ
  owner n = frame_of (ls.at n).function

  abbrev gives : ℕ → Bool
  gives f = is_given (ls.signature f).result

  abbrev table : ℕ → Slots
  table n = slots_in (ls.at n)

  -- a line leads to lines of its function
  inside : (n to : ℕ) (k : Label) → n < length flat.lines → to ≤ length flat.lines → k.function ≡ (ls.at n).function → Less k (ls.at to) → (to < length flat.lines) × (owner to ≡ owner n)
  inside n to k lt le fn less =
      let is = t.functions.owned n lt in
      let same : (ls.at to).function ≡ (ls.at n).function = less.function ∙ fn in (
        ⊎_elim (λ within. within)
            (λ (past : length flat.lines ≤ to).
            let end : to ≡ length flat.lines = omega (arith, le, past) in
            let none : (ls.at to).function ≡ None = ap (λ q. (ls.at q).function) end ∙ ap (λ (l : Label). l.function) t.functions.end in
            absurd (none-some is.0 (sym none ∙ same ∙ is.1)))
            (cases_lt to (length flat.lines)),
        ap frame_of same,
      )

  -- ---- one line
  module _ (n : ℕ) (lt : n < length flat.lines) where
    abbrev l : Label
    l = ls.at n

    abbrev f : ℕ
    f = owner n

    owned : l.function ≡ Some f
    owned = let is = t.functions.owned n lt in is.1 ∙ ap Some (sym (ap frame_of is.1))

    on : n + 1 ≤ length flat.lines
    on = omega (arith, lt)

    enters : (to : ℕ) (s : Slots) (k : Label) → to ≤ length flat.lines → ((q : ℕ) → Fits (s q) (slots_in k q)) → k.function ≡ l.function → Less k (ls.at to) → Enters flat owner gives table f s to
    enters to s k le fits fn less = record {
      inside = (inside n to k lt le fn less).0;
      owned = (inside n to k lt le fn less).1;
      fits = λ q. through (s q) (slots_in k q) (table to q) (fits q) (fits_less k q (k.env q) ((ls.at to).env q) (less.env q));
    }

    -- the same registers hold references
    same : (to : ℕ) → to ≤ length flat.lines → (k : Label) → k.env ≡ l.env → k.function ≡ l.function → Less k (ls.at to) → Enters flat owner gives table f (slots_in l) to
    same to le k env fn less = enters to (slots_in l) k le (λ q. subst (λ e. Fits (slot_in (l.env q)) (slot_in (e q))) (sym env) (self (slot_in (l.env q)))) fn less

    -- one more holds one, or one less
    puts : (to : ℕ) → to ≤ length flat.lines → (r : ℕ) (e : Entry) (k : Label) → k.env ≡ put l.env r e → k.function ≡ l.function → Less k (ls.at to) → Enters flat owner gives table f (with_slot (slots_in l) r (slot_in e)) to
    puts to le r e k env fn less = enters to (with_slot (slots_in l) r (slot_in e)) k le
        (λ q. subst (λ g. Fits (with_slot (slots_in l) r (slot_in e) q) (slot_in (g q))) (sym env) (put_slot l.env r e q)) fn less

    -- where it may be forgotten that a register is NULL
    lowered : (to : ℕ) → to ≤ length flat.lines → (r : ℕ) (k : Label) → k.env ≡ l.env → k.function ≡ l.function → Less k (ls.at to) → Enters flat owner gives table f (with_slot (slots_in l) r free) to
    lowered to le r k env fn less = enters to (with_slot (slots_in l) r free) k le
        (λ q. subst (λ g. Fits (with_slot (slots_in l) r free q) (slot_in (g q))) (sym env)
        (elim (q == r) as (λ b. Fits (if b then free else slot_in (l.env q)) (slot_in (l.env q))) [ true ↦ low (slot_in (l.env q)) | false ↦ self (slot_in (l.env q)) ])) fn less

    -- what goes from one register to another
    moves : (r from : ℕ) (k : Label) → k.env ≡ put (put l.env from Empty) r (l.env from) → k.function ≡ l.function → Less k (ls.at (n + 1)) → Enters flat owner gives table f (with_moved (slots_in l) r from) (n + 1)
    moves r from k env fn less = enters (n + 1) (with_moved (slots_in l) r from) k on
        (λ q. subst (λ g. Fits (with_moved (slots_in l) r from q) (slot_in (g q))) (sym env) (moved_slot l.env r from q)) fn less

    vacant : (r : ℕ) → l.env r ≡ Empty → slots_in l r ≡ free
    vacant r e = ap slot_in e

    abbrev T : Op → Type 0
    T o = TypedLine x code ls (length flat.lines) (dropped n) (fl.replaced n) n l (ls.at (n + 1)) o

    abbrev L : Op → Type 0
    L o = Level flat owner gives table n f (slots_in l) o

    by_pop : (r : ℕ) → (IsFree l r × Less (empty l r) (ls.at (n + 1))) ⊎ Less (empty (forgets l r) r) (ls.at (n + 1)) → L (op.Pop r)
    by_pop r (inl a) = puts (n + 1) on r Empty _ refl refl a.1
    by_pop r (inr a) = enters (n + 1) (with_slot (slots_in l) r free) _ on (λ q. popped_slot l.env r q) refl a

    by_move : (r from : ℕ) → ((r ≡ from) × Less l (ls.at (n + 1)))
        ⊎ (IsVacant code l r × IsRef code l from × (r ≢ from) × IsFree l from × (EntryMentions (l.env from) from → ⊥) × Less (fill (empty l from) r (l.env from) (moved_copy l r from) (l.known from)) (ls.at (n + 1)))
        → L (op.MoveReference r from)
    by_move r from (inl a) = inl (a.0, same (n + 1) on l refl refl a.1)
    by_move r from (inr a) = inr (vacant r a.0.empty, a.2, moves r from _ refl refl a.5)

    locked : (c : Cell) → Less (record (without_base_of l c) { room = false }) (ls.at (n + 1)) → Enters flat owner gives table f (without_cell (slots_in l) c) (n + 1)
    locked (cells.Global g i) h = same (n + 1) on _ refl refl h
    locked (cells.GlobalAt g i) h = same (n + 1) on _ refl refl h
    locked (cells.Object r i) h = puts (n + 1) on r Empty _ refl refl h
    locked (cells.ObjectAt r i) h = puts (n + 1) on r Empty _ refl refl h

    unlocked : (r : ℕ) (c : Cell) → Less (unlocked_label l r c) (ls.at (n + 1)) → Enters flat owner gives table f (with_slot (slots_in l) r (slot_of (slots_in l) c)) (n + 1)
    unlocked r (cells.Global g i) h = lowered (n + 1) on r _ refl refl h
    unlocked r (cells.GlobalAt g i) h = lowered (n + 1) on r _ refl refl h
    unlocked r (cells.Object b i) h = puts (n + 1) on r (l.env b) _ refl refl h
    unlocked r (cells.ObjectAt b i) h = puts (n + 1) on r (l.env b) _ refl refl h

    hands : (i : ℕ) (from : Register) (v : Number) → Less (set_number (handed_label l from) i v) (ls.at (n + 1)) → Enters flat owner gives table f (without_handed (slots_in l) from) (n + 1)
    hands i (registers.Int a) v h = same (n + 1) on _ refl refl h
    hands i (registers.Reference a) v h = puts (n + 1) on a Empty _ refl refl h

    -- ---- calls and returns
    is_below : (a b : ℕ) → a < b → nat_lt a b ≡ true
    is_below a b lt = grind (arith, nat_tests)

    not_below : (a : ℕ) → nat_lt a a ≡ false
    not_below a = grind (arith, nat_tests)

    eq_self : (a : ℕ) → (a == a) ≡ true
    eq_self a = grind (arith, nat_tests)

    call : (g ints refs : ℕ) → g < length flat.functions → ((p : ℕ) → Passes l refs (refs + p) (l.env (refs + p)) ((ls.signature g).takes p)) → Less (called_label ls l g ints refs) (ls.at (n + 1))
        → CallsLevel flat owner gives table g (slots_in l) refs × Resumes flat owner gives table f (slots_in l) refs (n + 1) g
    call g ints refs known passes less =
        let entry = (t.functions.entries g known).1 in
        let led = inside n (n + 1) (called_label ls l g ints refs) lt on refl less in (
          record {
            known = known;
            fits = λ k. through (slot_in (l.env (refs + k))) (slot_in ((ls.signature g).takes k)) (table (flat_function flat g).entry k)
                (fits_passes l refs (refs + k) (l.env (refs + k)) ((ls.signature g).takes k) (passes k))
                (fits_less (entry_label ls g) k ((ls.signature g).takes k) ((ls.at (flat_function flat g).entry).env k) (entry.env k));
          },
          record {
            inside = led.0;
            owned = led.1;
            below = λ k few. let q : (called_label ls l g ints refs).env k ≡ l.env k = rw (is_below k refs few) refl in
                subst (λ e. Fits (slot_in e) (table (n + 1) k)) q (fits_less (called_label ls l g ints refs) k ((called_label ls l g ints refs).env k) ((ls.at (n + 1)).env k) (less.env k));
            result = let q : (called_label ls l g ints refs).env refs ≡ (ls.signature g).result = rw (not_below refs, eq_self refs) refl in
                subst (λ s. Fits s (table (n + 1) refs)) (ap slot_in q ∙ sym (given_is (ls.signature g).result))
                (fits_less (called_label ls l g ints refs) refs ((called_label ls l g ints refs).env refs) ((ls.at (n + 1)).env refs) (less.env refs));
          },
        )

    leaves : (g : ℕ) → g ≡ f → LessEntry l 0 (l.env 0) (ls.signature g).result → ((r : ℕ) → r ≢ 0 → l.env r ≡ Empty) → Leaves flat owner gives table f (slots_in l)
    leaves g own result others = record {
      result = subst (λ (c : ℕ). Fits (slot_in (l.env 0)) (result_slot (gives c))) own (subst (Fits (slot_in (l.env 0))) (sym (given_is (ls.signature g).result)) (fits_less l 0 (l.env 0) (ls.signature g).result result));
      others = λ k some. ap slot_in (others k (λ e. omega (arith, e, some)));
    }

    -- ---- each operation
    level : (o : Op) → T o → Leads flat n o → L o
    level op.Enter h w = same (n + 1) on l refl refl h
    level op.BlockEnd h w = same (n + 1) on l refl refl h
    level (op.Constant i v) h w = same (n + 1) on _ refl refl h.2
    level (op.Move i from) h w = ⊎_elim (λ a. same (n + 1) on _ refl refl a.2) (λ a. same (n + 1) on _ refl refl a.3.2) h
    level (op.Compute Int o i a b spot) h w = (tt, same (n + 1) on _ refl refl h.1.2)
    level (op.Compute Long o i a b spot) h w = (tt, same (n + 1) on _ refl refl h.1.2)
    level (op.Compute Char o i a b spot) h w = absurd w.0
    level (op.Negate Int i a spot) h w = (tt, same (n + 1) on _ refl refl h.2)
    level (op.Negate Long i a spot) h w = (tt, same (n + 1) on _ refl refl h.2)
    level (op.Negate Char i a spot) h w = absurd w.0
    level (op.Complement i a) h w = same (n + 1) on _ refl refl h.2.2
    level (op.IsFalse i a) h w = same (n + 1) on _ refl refl h.2
    level (op.SameReference i a b) h w = same (n + 1) on _ refl refl h.2
    level (op.ChkWidth width i spot) h w = ⊎_elim (λ a. same (n + 1) on _ refl refl a.1) (λ a. same (n + 1) on _ refl refl a.2) h
    level (op.Skip over) h w = same (n + 1 + over) h.1.0 _ refl refl h.1.1
    level (op.SkipIfZero i over) h w = (same (n + 1 + over) h.1.0 _ refl refl h.1.1, same (n + 1) on _ refl refl h.2)
    level (op.SkipIfNull r over) h w = (
      ⊎_elim (λ a. lowered (n + 1 + over) a.0 r _ refl refl a.1) (λ a. puts (n + 1 + over) a.1.0 r Empty _ refl refl a.1.1) h.1,
      same (n + 1) on _ refl refl h.2,
    )
    level (op.Jump to) h w = same to h.1.0 _ refl refl h.1.1
    level (op.Call g ints refs spot) h w =
        let is : h.1.0 ≡ g = callee h.1.0 g h.1.1.is w.0 h.1.1.entry in
        call g ints refs w.0 (subst (λ c. (p : ℕ) → Passes l refs (refs + p) (l.env (refs + p)) ((ls.signature c).takes p)) is h.1.1.passes)
        (subst (λ c. Less (called_label ls l c ints refs) (ls.at (n + 1))) is h.1.2)
    level (op.Return spot) h w = leaves h.1.0 (same_Some h.1.0 f (sym h.1.1 ∙ owned)) h.1.2.result h.1.2.empty
    level (op.Null r) h w = (vacant r h.1.empty, same (n + 1) on _ refl refl h.2)
    level (op.Local r from) h w = (vacant r h.1.empty, puts (n + 1) on r (l.env from) _ refl refl h.3)
    level (op.MoveReference r from) h w = by_move r from h.1
    level (op.Pop r) h w = by_pop r h.2
    level (op.Settle to from) h w = (h.apart, enters (n + 1) (with_moved (slots_in l) to from) _ on (λ q. settled_slot l.env to from h.apart q) refl h.next)
    level (op.ChkNull r spot) h w = same (n + 1) on _ refl refl h.1
    level (op.ChkPositive i spot) h w = same (n + 1) on _ refl refl h.1
    level (op.ChkHeld cell spot) h w = same (n + 1) on _ refl refl h.2
    level (op.ChkNotHeld cell spot) h w = same (n + 1) on _ refl refl h.2
    level (op.ChkRoom spot) h w = same (n + 1) on _ refl refl h.1
    level (op.Bounds i r cells field spot) h w = same (n + 1) on _ refl refl h.5.2
    level (op.GlobalBounds i elements cells field spot) h w = same (n + 1) on _ refl refl h.3.2
    level (op.Load i cell spot) h w = same (n + 1) on _ refl refl h.next
    level (op.Store i cell spot) h w = same (n + 1) on _ refl refl h.next
    level (op.LoadRef r cell spot) h w = (vacant r h.register.empty, puts (n + 1) on r (Refers h.type) _ refl refl h.next)
    level (op.StoreRef r cell spot) h w = enters (n + 1) (with_slot (slots_in l) r free) _ on (λ q. stored_slot l.env r (Refers (fl.replaced n)) q) refl h.next
    level (op.LoadGuard cell spot) h w = same (n + 1) on _ refl refl h.next
    level (op.New r count cells spot) h w = (vacant r h.register.empty, puts (n + 1) on r (Refers h.type) _ refl refl h.next)
    level (op.TakeCell r cell spot) h w = (vacant r h.register.empty, puts (n + 1) on r (Refers h.type) _ refl refl h.next)
    level (op.TakeLocal r from spot) h w = (vacant r h.1.empty, h.3, moves r from _ refl refl h.6)
    level (op.Give r cells spot) h w = enters (n + 1) (slots_in l) _ on (λ q. given_slot l.env r h.given q) refl h.next
    level (op.Free r layout spot) h w = puts (n + 1) on r Empty _ refl refl h.next
    level (op.Lock cell spot) h w = locked cell h.4
    level (op.Unlock r cell spot) h w = (vacant r h.1.empty, unlocked r cell h.3)
    level (op.Spawn i g from spot) h w = hands i from _ h.6
    level (op.Join i spot) h w = same (n + 1) on l refl refl h.1
    level (op.Print i spot) h w = same (n + 1) on _ refl refl h.1
    -- what is done with a condition variable
    level _ h w = same (n + 1) on _ refl refl h.2

  -- ---- the whole
  takes_by : (p : Parameter) (s : Slots) → (p ≡ Parameter.Reference → s 0 ≡ full) → Takes flat owner gives table s p
  takes_by Parameter.None s h = tt
  takes_by Parameter.Int s h = tt
  takes_by Parameter.Reference s h = h refl

  pub level_flat : IsLevel flat
  level_flat = record {
    owner = owner;
    gives = gives;
    slots = table;
    entries = λ f few.
        let less = (t.functions.entries f few).1 in
        let at = (flat_function flat f).entry in
        let first = (ls.signature f).takes 0 in
        record {
          inside = is_flat.entries f few;
          owned = ap frame_of less.function;
          takes = takes_by (flat_function flat f).parameter (table at)
              (λ is. only_full (table at 0) (subst (λ s. Fits s (table at 0)) (full_in first (takes f few is)) (fits_less (entry_label ls f) 0 first ((ls.at at).env 0) (less.env 0))));
        };
    each = λ n o at. level n (slice_get_within flat.lines n o at) o (t.lines n o at) (is_flat.each n o at);
  }
