-- A variable that is declared in a block.
use Rattle.sharc_typed_laws.proofs.{Imports.{◌≡◌, ℕ, ◌+◌, ◌<◌, ◌≤◌, Bool, true, false, cond, List, [], ◌∷◌, ◌++◌, Option, Some, None, refl, sym, ap, ◌∙◌, subst, ⊎_elim, arith, pos, false≢true, cases_eq, nat_eq, Declaration, Right, Kind, declared_kind, holds, Register, Width, Int, put, put_same, put_other, put_all, Sharing, is_reference, Op, Slot, Context, slot_of, slot_kind, int_count, ref_count, register_from, register_of, width_of, settle_code, with_variable, right_code, zero_code, initial_code, local_code, StaticType, Refers, Number, Anything, Exactly, Within, Label, LessNumber, EntryMentions, fill, set_number, ints_in, refs_in, less_entry_refl, less_number_refl, Mark, Setting, Way, AreOpen, LeadsAmong, RegistersStand, AreLow, mark, Typing, IsTypeIn, Keeps, BeginsReference, BeginsInteger, Begins, declared_label, InitialTypable, StandsBefore, before, LocalsAreTyped, or_false, eq_refl}, Fitting.{fits_same, fits_by}, Standing.{less_by, scoped_frame, stands_number, stands_fill}, Parts.{At, then_do, post, none, constant_at}, Accessed.Frame, Variables.assign_free_at, Expressing.{bare_frame, in_frame, null_at, bare_number}, Simple.{reference_kept, Comes, rights, settled}}
use Rattle.sharc_names.specs.Kinds.{is_pointer}

pub zero_fits : (w : Width) → holds w (pos 0) ≡ true
zero_fits Int = refl
zero_fits _ = refl

no_number : (v : Number) → v ≡ Exactly (pos 0) → v ≡ Anything → ⊥
no_number v a b = let e : Exactly (pos 0) ≡ Anything = sym a ∙ b in cc

module _ (z : Setting) (f : ℕ) (ways : List Way) (y : Typing) (c : Context) (low : AreLow (y.named c) (ref_count c.scope)) (l : Label) (here : StandsBefore y c f l) where
  abbrev i : ℕ
  i = int_count c.scope

  abbrev r : ℕ
  r = ref_count c.scope

  abbrev Q : Mark → List Op → Mark → Type 0
  Q = LeadsAmong z f ways

  joins : (s m e : Mark) (xs ys : List Op) → Q s xs m → Q m ys e → Q s (xs ++ ys) e
  joins s m e xs ys = then_do z f (AreOpen z ways) (y.named c) r low i s m e xs ys

  at : At z f (AreOpen z ways) (y.named c) r low i i r l
  at = record { stands = here.stands.stands; owned = here.stands.owned }

  frame : Frame z f (AreOpen z ways) y c low i i r l
  frame = bare_frame z f ways y c low i i r l here.stands here.bare

  -- the same registers, under the names of a scope with one more
  renamed : (d : Context) → ((q : ℕ) → q < ref_count c.scope → y.named d q ≡ y.named c q) → (ints refs : ℕ) (k : Label) → RegistersStand (y.named c) ints refs k → RegistersStand (y.named d) ints refs k
  renamed d names ints refs k h = record {
    closed = h.closed;
    free = h.free;
    full = h.full;
    alone = h.alone;
    copies = h.copies;
    known = h.known;
    paths = λ q p m. let w = h.paths q p m in (w.0, names p (low p w.1) ∙ w.1);
    numbers = h.numbers;
    bases = h.bases;
    nothing_passed = h.nothing_passed;
    no_room = h.no_room;
  }

  -- ---- a reference that is NULL
  after_reference : (d : Context) (s : StaticType) → Keeps y c d → BeginsReference y c d s → IsTypeIn z f y c s → StandsBefore y d f (fill l r (Refers s) r false)
  after_reference d s keeps begins type =
      let k = fill l r (Refers s) r false in
      let more = begins.refs in
      let many = begins.ints in
      let alone = here.bare in record {
        stands = record {
          stands = subst (λ n. RegistersStand (y.named d) n (ref_count d.scope) k) (sym many) (subst (λ n. RegistersStand (y.named d) i n k) (sym more) (renamed d keeps.names i (r + 1) k (stands_fill (y.named c) i r l at.stands s r false type (omega arith))));
          owned = at.owned;
          holds = record {
            references = λ q lt. ⊎_elim (λ (e : q ≡ r). ap (put l.env r (Refers s)) e ∙ put_same l.env r (Refers s) ∙ ap Refers (sym (ap (y.pointer d) e ∙ begins.pointer)))
                (λ (ne : q ≡ r → ⊥). let old : q < r = omega (arith, lt, more, ne) in put_other l.env r q (Refers s) ne ∙ here.stands.holds.references q old ∙ ap Refers (sym (keeps.pointers q old))) (cases_eq q r);
            copies = λ q lt. same q;
            integers = λ j lt. let old : j < i = omega (arith, lt, many) in here.stands.holds.integers j old ∙ ap Within (sym (keeps.widths j old));
          };
          high = omega arith;
          wide = omega arith;
          early = omega arith;
        };
        bare = (same, known alone.1, alone.2);
      }
    where
      same : (q : ℕ) → put l.same r r q ≡ q
      same q = ⊎_elim (λ (e : q ≡ r). ap (put l.same r r) e ∙ put_same l.same r r ∙ sym e) (λ (ne : q ≡ r → ⊥). put_other l.same r q r ne ∙ here.bare.0 q) (cases_eq q r)

      known : ((q : ℕ) → l.known q ≡ true → ⊥) → (q : ℕ) → put l.known r false q ≡ true → ⊥
      known h q e = ⊎_elim (λ (w : q ≡ r). false≢true (sym (put_same l.known r false) ∙ ap (put l.known r false) (sym w) ∙ e)) (λ (ne : q ≡ r → ⊥). h q (sym (put_other l.known r q false ne) ∙ e)) (cases_eq q r)

  -- ---- an integer that is 0
  after_integer : (d : Context) (w : Width) → Keeps y c d → BeginsInteger y c d w → StandsBefore y d f (set_number l i (Within w))
  after_integer d w keeps begins =
      let k = set_number l i (Within w) in
      let more = begins.ints in
      let many = begins.refs in record {
        stands = record {
          stands = subst (λ n. RegistersStand (y.named d) n (ref_count d.scope) k) (sym more) (subst (λ n. RegistersStand (y.named d) (i + 1) n k) (sym many) (renamed d keeps.names (i + 1) r k (stands_number (y.named c) i r l at.stands (Within w) (λ q h. absurd h))));
          owned = at.owned;
          holds = record {
            references = λ q lt. let old : q < r = omega (arith, lt, many) in here.stands.holds.references q old ∙ ap Refers (sym (keeps.pointers q old));
            copies = λ q lt. let old : q < r = omega (arith, lt, many) in here.stands.holds.copies q old;
            integers = λ j lt. ⊎_elim (λ (e : j ≡ i). ap (put l.ints i (Within w)) e ∙ put_same l.ints i (Within w) ∙ ap Within (sym (ap (y.width d) e ∙ begins.width)))
                (λ (ne : j ≡ i → ⊥). let old : j < i = omega (arith, lt, more, ne) in put_other l.ints i j (Within w) ne ∙ here.stands.holds.integers j old ∙ ap Within (sym (keeps.widths j old))) (cases_eq j i);
          };
          high = omega arith;
          wide = omega arith;
          early = omega arith;
        };
        bare = bare_number z f ways y c low l i (Within w) tt here.bare;
      }

  zeroed : (w : Width) → Q (before c l) (Op.Constant i (pos 0) ∷ []) (mark (set_number l i (Within w)) (i + 1) (i + 1))
  zeroed w =
      let a = set_number l i (Exactly (pos 0)) in
      let b = set_number l i (Within w) in
      post z f (AreOpen z ways) (y.named c) r low i (before c l) (mark a i (i + 1)) (mark b (i + 1) (i + 1)) (Op.Constant i (pos 0) ∷ [])
      (fits_by z.targets (mark a i (i + 1)) (mark b (i + 1) (i + 1))
      (less_by a b refl (λ q. less_entry_refl a q (l.env q)) (λ q. refl) (λ q e. e)
      (λ j. put_all (λ j x. LessNumber (put l.ints i (Exactly (pos 0)) j) x) l.ints i (Within w) (subst (λ x. LessNumber x (Within w)) (sym (put_same l.ints i (Exactly (pos 0)))) (zero_fits w)) (λ j ne. subst (λ x. LessNumber x (l.ints j)) (sym (put_other l.ints i j (Exactly (pos 0)) ne)) (less_number_refl (l.ints j))) j)
      tt at.stands.nothing_passed (λ e. e))
      (λ q. refl) (omega arith) (omega arith) (λ j n low high e. absurd (no_such j low high)))
      (λ h. scoped_frame (y.named c) (i + 1) r b (stands_number (y.named c) i r l at.stands (Within w) (λ q h. absurd h)) (ints_in z.code (Some f)) (refs_in z.code (Some f)) h.few (missing h.numbers))
      (constant_at z f (AreOpen z ways) (y.named c) r low i i r l at (pos 0))
    where
      no_such : (j : ℕ) → i + 1 ≤ j → j < i + 1 → ⊥
      no_such j a b = omega (arith, a, b)

      missing : ((j : ℕ) → ints_in z.code (Some f) ≤ j → put l.ints i (Exactly (pos 0)) j ≡ Anything) → (j : ℕ) → ints_in z.code (Some f) ≤ j → put l.ints i (Within w) j ≡ Anything
      missing h j ge = ⊎_elim (λ (e : j ≡ i). absurd (no_number (put l.ints i (Exactly (pos 0)) j) (ap (put l.ints i (Exactly (pos 0))) e ∙ put_same l.ints i (Exactly (pos 0))) (h j ge))) (λ (ne : j ≡ i → ⊥). put_other l.ints i j (Within w) ne ∙ sym (put_other l.ints i j (Exactly (pos 0)) ne) ∙ h j ge) (cases_eq j i)

-- ---- its register
-- the first one of its bank that is free
abbrev IsNext : Context → Bool → Register → Type 0
IsNext c is_ref (Register.Int j) = (is_ref ≡ false) × (j ≡ int_count c.scope)
IsNext c is_ref (Register.Reference q) = (is_ref ≡ true) × (q ≡ ref_count c.scope)

choose : (b p : Bool) (o : Option Bool) (u v w : Register) → cond b (Some p) o ≡ None → (o ≡ None → v ≡ w) → cond b u v ≡ w
choose true p o u v w h k = absurd (cc)
choose false p o u v w h k = k h

abbrev next_of : Bool → ℕ → ℕ → Register
next_of is_ref i r = cond is_ref (Register.Reference r) (Register.Int i)

after_one : (x p : Bool) (i r n m : ℕ) (a b : Register) → a ≡ next_of x (i + m) (r + 1 + n) → b ≡ next_of x (i + 1 + m) (r + n) → cond p a b ≡ next_of x (i + cond p m (m + 1)) (r + cond p (n + 1) n)
after_one x true i r n m a b h k = let e : r + 1 + n ≡ r + (n + 1) = omega arith in h ∙ ap (next_of x (i + m)) e
after_one x false i r n m a b h k = let e : i + 1 + m ≡ i + (m + 1) = omega arith in k ∙ ap (λ j. next_of x j (r + n)) e

next_from : (scope : List Slot) (x : Slot) (i r : ℕ) → slot_kind scope x.token ≡ None → register_from i r (scope ++ x ∷ []) x.token ≡ next_of x.is_pointer (i + int_count scope) (r + ref_count scope)
next_from [] x i r h =
    let a : i ≡ i + 0 = omega arith in
    let b : r ≡ r + 0 = omega arith in
    ap (λ z. cond z (next_of x.is_pointer i r) (cond x.is_pointer (Register.Int i) (Register.Int (i + 1)))) (eq_refl x.token) ∙ ap (λ j. next_of x.is_pointer j r) a ∙ ap (next_of x.is_pointer (i + 0)) b
next_from (a ∷ rest) x i r h = choose (nat_eq a.token x.token) a.is_pointer (slot_kind rest x.token) (next_of a.is_pointer i r)
    (cond a.is_pointer (register_from i (r + 1) (rest ++ x ∷ []) x.token) (register_from (i + 1) r (rest ++ x ∷ []) x.token)) (next_of x.is_pointer (i + int_count (a ∷ rest)) (r + ref_count (a ∷ rest))) h
    (λ k. after_one x.is_pointer a.is_pointer i r (ref_count rest) (int_count rest) (register_from i (r + 1) (rest ++ x ∷ []) x.token) (register_from (i + 1) r (rest ++ x ∷ []) x.token)
    (next_from rest x i (r + 1) k) (next_from rest x (i + 1) r k))

is_next : (c : Context) (d : Declaration) → slot_kind c.scope d.name.site.token ≡ None → IsNext c (is_reference (declared_kind d.written)) (register_of (with_variable c d).scope d.name.site.token)
is_next c d fresh = subst (IsNext c (is_reference (declared_kind d.written))) (sym (next_from c.scope (slot_of d) 0 0 fresh)) (by (is_pointer (declared_kind d.written)) (or_false (is_pointer (declared_kind d.written))))
  where
    by : (b : Bool) → is_reference (declared_kind d.written) ≡ b → IsNext c (is_reference (declared_kind d.written)) (next_of b (0 + int_count c.scope) (0 + ref_count c.scope))
    by true is = (is, omega arith)
    by false is = (is, omega arith)

-- ---- what it begins with
-- no type that is known names its register
abbrev IsUnnamed : Context → Label → Bool → Type 0
IsUnnamed c k is_ref = is_ref ≡ true → (q : ℕ) → EntryMentions (k.env q) (ref_count c.scope) → ⊥

begun : (z : Setting) (f : ℕ) (ways : List Way) (y : Typing) (c d : Context) (low : AreLow (y.named d) (ref_count d.scope)) (k : Label) → StandsBefore y d f k → (kind : Kind) (s : StaticType) (w : Width) → w ≡ width_of kind → Begins y c d s w (is_reference kind) → IsTypeIn z f y c s → IsTypeIn z f y d s
    → IsUnnamed c k (is_reference kind) → (x : Register) → IsNext c (is_reference kind) x → (xs : List Op) → Comes z f ways y d low (int_count d.scope) (int_count d.scope) (ref_count d.scope) k kind s xs (is_reference kind)
    → LeadsAmong z f ways (before d k) (xs ++ settle_code (int_count d.scope) (ref_count d.scope) x) (before d k)
begun z f ways y c d low k here kind s w width begins type again unnamed (Register.Int j) next xs v =
    let frame : Frame z f (AreOpen z ways) y d low (int_count d.scope) (int_count d.scope) (ref_count d.scope) k = bare_frame z f ways y d low (int_count d.scope) (int_count d.scope) (ref_count d.scope) k here.stands here.bare in
    let b : BeginsInteger y c d w = subst (Begins y c d s w) next.0 begins in
    let many = b.ints in
    let at = next.1 in
    settled z f ways y d low (int_count d.scope) (int_count d.scope) (ref_count d.scope) k frame here.bare (omega arith) kind s (Register.Int j) xs again (next.0, omega (arith, many, at), ap (y.width d) next.1 ∙ b.width ∙ width) v
begun z f ways y c d low k here kind s w width begins type again unnamed (Register.Reference q) next xs v =
    let i = int_count d.scope in
    let r = ref_count d.scope in
    let frame : Frame z f (AreOpen z ways) y d low i i r k = bare_frame z f ways y d low (int_count d.scope) (int_count d.scope) (ref_count d.scope) k here.stands here.bare in
    let b : BeginsReference y c d s = subst (Begins y c d s w) next.0 begins in
    let u = subst (Comes z f ways y d low i i r k kind s xs) next.0 v in
    let a = here.bare in
    let many = b.refs in
    let at = next.1 in
    let lt : q < r = omega (arith, many, at) in
    then_do z f (AreOpen z ways) (y.named d) r low i (before d k) (mark (fill k r (Refers s) u.copy false) i i) (before d k) xs (Op.Settle q r ∷ []) (reference_kept z f ways y d low i i r k here.bare s xs u)
    (assign_free_at z f (AreOpen z ways) (y.named d) r low i i r k frame.at frame.high s u.copy false q i (in_frame z f ways y d low i i r k frame s again) lt (frame.holds.references q lt ∙ ap Refers (ap (y.pointer d) at ∙ b.pointer))
    (λ m. let old = (type q m).0 in omega (arith, old, at)) (λ p m. unnamed next.0 p (subst (EntryMentions (k.env p)) at m)) (a.0 q) (λ p e. sym (a.0 p) ∙ e) (a.1 q) (λ j b. a.2 j q b))

initials : (z : Setting) (f : ℕ) (ways : List Way) (y : Typing) (c : Context) (declared : Declaration) → slot_kind c.scope declared.name.site.token ≡ None → (low : AreLow (y.named (with_variable c declared)) (ref_count (with_variable c declared).scope)) (k : Label)
    → StandsBefore y (with_variable c declared) f k → (s : StaticType) → Begins y c (with_variable c declared) s (width_of (declared_kind declared.written)) (is_reference (declared_kind declared.written)) → IsTypeIn z f y c s → IsTypeIn z f y (with_variable c declared) s
    → IsUnnamed c k (is_reference (declared_kind declared.written)) → (x : Option Right) → InitialTypable z f y (with_variable c declared) declared s x
    → LeadsAmong z f ways (before (with_variable c declared) k) (initial_code (with_variable c declared) declared x) (before (with_variable c declared) k)
initials z f ways y c declared fresh low k here s begins type again unnamed None h =
    let d = with_variable c declared in
    none z f (AreOpen z ways) (y.named d) (ref_count d.scope) low (int_count d.scope) (before d k) (before d k) (fits_same z.targets (before d k)) (λ h. h)
initials z f ways y c declared fresh low k here s begins type again unnamed (Some x) h =
    let d = with_variable c declared in
    let kind = declared_kind declared.written in
    let i = int_count d.scope in
    let r = ref_count d.scope in
    let frame : Frame z f (AreOpen z ways) y d low i i r k = bare_frame z f ways y d low (int_count d.scope) (int_count d.scope) (ref_count d.scope) k here.stands here.bare in
    by (λ mode. begun z f ways y c d low k here kind s (width_of kind) refl begins type again unnamed (register_of d.scope declared.name.site.token) (is_next c declared fresh) (right_code d i r kind mode x)
    (rights z f ways y d low i i r k frame kind mode s x h))
  where
    by : ((mode : Sharing) → LeadsAmong z f ways (before (with_variable c declared) k) (right_code (with_variable c declared) (int_count (with_variable c declared).scope) (ref_count (with_variable c declared).scope) (declared_kind declared.written) mode x
        ++ settle_code (int_count (with_variable c declared).scope) (ref_count (with_variable c declared).scope) (register_of (with_variable c declared).scope declared.name.site.token)) (before (with_variable c declared) k))
        → LeadsAmong z f ways (before (with_variable c declared) k) (initial_code (with_variable c declared) declared (Some x)) (before (with_variable c declared) k)
    by q = q _

pub locals_typed : LocalsAreTyped
locals_typed z f ways y c low l here local s low_with h = let v = by (is_reference (declared_kind local.declaration.written)) refl h.begins (local_code c local) refl in record { stands = v.0; leads = v.1 }
  where
    d : Context
    d = with_variable c local.declaration

    w : Width
    w = width_of (declared_kind local.declaration.written)

    rest : (k : Label) → StandsBefore y d f k → IsUnnamed c k (is_reference (declared_kind local.declaration.written)) → LeadsAmong z f ways (before d k) (initial_code d local.declaration local.initial) (before d k)
    rest k stands unnamed = initials z f ways y c local.declaration h.fresh low_with k stands s h.begins h.type h.again unnamed local.initial h.initial

    by : (b : Bool) → is_reference (declared_kind local.declaration.written) ≡ b → Begins y c d s w b → (code : List Op) → code ≡ zero_code b (int_count c.scope) (ref_count c.scope) ++ initial_code d local.declaration local.initial
        → StandsBefore y d f (declared_label c l s w b) × LeadsAmong z f ways (before c l) code (before d (declared_label c l s w b))
    by true kind begins code is =
        let k = declared_label c l s w true in
        let r = ref_count c.scope in
        let stands = after_reference z f ways y c low l here d s h.keeps begins h.type in
        let unnamed : IsUnnamed c k (is_reference (declared_kind local.declaration.written)) = λ _ q m. put_all (λ q e. EntryMentions e r → ⊥) l.env r (Refers s) (λ m. let old = (h.type r m).0 in omega (arith, old)) (λ q _ m. let old = (here.stands.stands.paths q r m).0 in omega (arith, old)) q m in (
          stands,
          subst (λ os. LeadsAmong z f ways (before c l) os (before d k)) (sym is)
              (joins z f ways y c low l here (before c l) (before d k) (before d k) (Op.Null (ref_count c.scope) ∷ []) (initial_code d local.declaration local.initial)
              (subst (λ n. LeadsAmong z f ways (before c l) (Op.Null (ref_count c.scope) ∷ []) (mark k n n)) (sym begins.ints) (null_at z f ways y c low (int_count c.scope) (int_count c.scope) (ref_count c.scope) l (frame z f ways y c low l here) s h.type))
              (rest k stands unnamed)),
        )
    by false kind begins code is =
        let k = declared_label c l s w false in
        let stands = after_integer z f ways y c low l here d w h.keeps begins in (
          stands,
          subst (λ os. LeadsAmong z f ways (before c l) os (before d k)) (sym is)
              (joins z f ways y c low l here (before c l) (before d k) (before d k) (Op.Constant (int_count c.scope) (pos 0) ∷ []) (initial_code d local.declaration local.initial)
              (subst (λ n. LeadsAmong z f ways (before c l) (Op.Constant (int_count c.scope) (pos 0) ∷ []) (mark k n n)) (sym begins.ints) (zeroed z f ways y c low l here w))
              (rest k stands (λ e. absurd (false≢true (sym kind ∙ e))))),
        )
