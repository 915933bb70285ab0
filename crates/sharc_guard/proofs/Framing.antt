-- The guarded code of framed flat code is well formed.
use Rattle.sharc_guard.proofs.{Imports.{within as get_inside, slice_get-get_or, ◌≡◌, ℕ, zero, suc, ◌+◌, ◌-◌, ◌*◌, ◌^◌, ◌<◌, ◌≤◌, max, Bool, false, List, [], ◌∷◌, ◌++◌, length, map, fold, refl, sym, ap, ◌∙◌, subst, ⊎_elim, arith, Some, nat_lt, slice_get, lt-ltb, le-ltb, cases_lt, length-append, length-map, if◌then◌else◌, Function, Parameter, PlaceMode, Dynamic, LockedGlobal, LockedSibling, LockedThrough, LockedLoaded, GlobalCells, Cell, Register, Char, Instr, IsInGlobal, Op, Spot, Flat, function_of, OpWrites, InLine, OpLeads, IsFramed, WritesWithin, BaseWithin, HandedWithin, HasFewCells, IsBody, IsAtPlace, IsEntry, IsGuarded, Program, function_at, expand, head, body, tail, own, width, offset, place, expanded, guarded, entered_at, check_under}, Placing.{HasAt, entered_is, part_is, width_is, stands, place_next}, Walking.{IsIdle, idle_length, bodied}}
use Rattle.sharc_guard.specs.Form.{Leads, HasParameter}
use Rattle.sharc_flat.specs.Framed as Framed

-- ---- the line of a place
line_from : (ℕ → Bool) → ℕ → List Op → ℕ → ℕ
line_from dropped k [] pos = k
line_from dropped k (o ∷ os) pos = if nat_lt pos (width (dropped k) k o) then k else line_from dropped (k + 1) os (pos - width (dropped k) k o)

line_is : (dropped : ℕ → Bool) (k : ℕ) (lines : List Op) (n j : ℕ) (o : Op) → slice_get lines n ≡ Some o → j < width (dropped (k + n)) (k + n) o → line_from dropped k lines (offset dropped k lines n + j) ≡ k + n
unfolding line_from
line_is dropped k [] n j o e lt = absurd (cc)
line_is dropped k (x ∷ os) zero j o e lt =
    let same : o ≡ x = cc in
    let z : k + 0 ≡ k = omega arith in
    let l : j < width (dropped k) k x = subst (λ n. j < width (dropped n) n x) z (subst (λ o. j < width (dropped (k + 0)) (k + 0) o) same lt) in
    let p0 : 0 + j ≡ j = omega arith in
    rw p0 (rw (lt-ltb j (width (dropped k) k x) l) (sym z))
line_is dropped k (x ∷ os) (suc n) j o e lt =
    let q : k + suc n ≡ k + 1 + n = omega arith in
    let l : j < width (dropped (k + 1 + n)) (k + 1 + n) o = subst (λ n. j < width (dropped n) n o) q lt in
    let h = line_is dropped (k + 1) os n j o e l in
    let w = width (dropped k) k x in
    let far : width (dropped k) k x ≤ w + offset dropped (k + 1) os n + j = omega arith in
    let rest : w + offset dropped (k + 1) os n + j - w ≡ offset dropped (k + 1) os n + j = omega arith in
    rw (le-ltb (w + offset dropped (k + 1) os n + j) (width (dropped k) k x) far) (ap (line_from dropped (k + 1) os) rest ∙ h ∙ sym q)

pub record IsIn (dropped : ℕ → Bool) (k : ℕ) (lines : List Op) (pos : ℕ) : Type 0 where
  pub line : ℕ
  pub op_is : Op
  pub at : slice_get lines line ≡ Some op_is
  pub step : ℕ
  pub within : step < width (dropped (k + line)) (k + line) op_is
  pub pos_is : pos ≡ offset dropped k lines line + step

pub there_is : (pl : ℕ → ℕ) (dropped : ℕ → Bool) (k : ℕ) (lines : List Op) (pos : ℕ) → pos < length (expanded pl dropped k lines) → IsIn dropped k lines pos
there_is pl dropped k [] pos lt = absurd (omega arith)
there_is pl dropped k (o ∷ os) pos lt = ⊎_elim
    (λ (l : pos < width (dropped k) k o).
    let z : k ≡ k + 0 = omega arith in
    record { line = 0; op_is = o; at = refl; step = pos; within = subst (λ n. pos < width (dropped n) n o) z l; pos_is = omega arith })
    (λ (le : width (dropped k) k o ≤ pos).
    let n = length-append (expand pl (dropped k) k o) (expanded pl dropped (k + 1) os) in
    let w = width_is pl (dropped k) k o in
    let h = there_is pl dropped (k + 1) os (pos - width (dropped k) k o) (omega arith) in
    let q : k + 1 + h.line ≡ k + suc h.line = omega arith in
    let e = h.pos_is in
    record { line = suc h.line; op_is = h.op_is; at = h.at; step = h.step; within = subst (λ n. h.step < width (dropped n) n h.op_is) q h.within; pos_is = omega arith })
    (cases_lt pos (width (dropped k) k o))

-- ---- statements of lists
abbrev pub AllIn : (Instr → Type 0) → List Instr → Type 0
AllIn P [] = Unit {0}
AllIn P (i ∷ is) = P i × AllIn P is

pub all_append : (P : Instr → Type 0) (xs ys : List Instr) → AllIn P xs → AllIn P ys → AllIn P (xs ++ ys)
all_append P [] ys h k = k
all_append P (x ∷ xs) ys h k = (h.0, all_append P xs ys h.1 k)

pub all_at : (P : Instr → Type 0) (xs : List Instr) (j : ℕ) (i : Instr) → AllIn P xs → slice_get xs j ≡ Some i → P i
all_at P [] j i h e = absurd (cc)
all_at P (x ∷ xs) zero i h e = let s : x ≡ i = cc in subst P s h.0
all_at P (x ∷ xs) (suc j) i h e = all_at P xs j i h.1 e

pub has_at : (g : List Instr) (pc : ℕ) (is : List Instr) (j : ℕ) → HasAt g pc is → j < length is → slice_get g (pc + j) ≡ slice_get is j
has_at g pc [] j h lt = absurd (omega arith)
has_at g pc (i ∷ is) zero h lt = let z : pc + 0 ≡ pc = omega arith in ap (slice_get g) z ∙ h.0
has_at g pc (i ∷ is) (suc j) h lt = let z : pc + suc j ≡ pc + 1 + j = omega arith in ap (slice_get g) z ∙ has_at g (pc + 1) is j h.1 (omega arith)

-- a statement that leads to the next one alone
abbrev IsPlain : Instr → Type 0
IsPlain (Instr.Jump to) = ⊥
IsPlain (Instr.JumpIfZero r to) = ⊥
IsPlain (Instr.JumpIfNull r to) = ⊥
IsPlain (Instr.Call f i r site) = ⊥
IsPlain (Instr.Return site) = ⊥
IsPlain (Instr.Start site) = ⊥
IsPlain Instr.Exit = ⊥
IsPlain _ = Unit {0}

plain_leads : (p : Program) (owner : ℕ → ℕ) (pc : ℕ) (i : Instr) → IsPlain i → IsBody p owner (owner pc) (pc + 1) → Leads p owner pc i
plain_leads p owner pc (Instr.Jump to) k b = absurd k
plain_leads p owner pc (Instr.JumpIfZero r to) k b = absurd k
plain_leads p owner pc (Instr.JumpIfNull r to) k b = absurd k
plain_leads p owner pc (Instr.Call f i r site) k b = absurd k
plain_leads p owner pc (Instr.Return site) k b = absurd k
plain_leads p owner pc (Instr.Start site) k b = absurd k
plain_leads p owner pc Instr.Exit k b = absurd k
plain_leads p owner pc _ k b = b

-- ---- what the statements of an operation write
abbrev Good : ℕ → ℕ → Instr → Type 0
Good ints refs i = WritesWithin ints refs i × HasFewCells i

check_all : (P : Instr → Type 0) (drop : Bool) (dynamic : Instr) (spot : Spot) (n : ℕ) (mode : PlaceMode) → P dynamic → ((c : Cell) → P (Instr.ChkLock c n)) → P (Instr.ChkLockLoaded n) → AllIn P (check_under drop dynamic spot n mode)
check_all P false dynamic spot n Dynamic d l m = (d, tt)
check_all P drop dynamic spot n (LockedGlobal g place) d l m = (l _, tt)
check_all P drop dynamic spot n (LockedSibling field mutex) d l m = (l _, tt)
check_all P drop dynamic spot n (LockedThrough r place) d l m = (l _, tt)
check_all P drop dynamic spot n LockedLoaded d l m = (m, tt)
check_all P _ dynamic spot n _ d l m = tt

pub head_all : (P : Instr → Type 0) (drop : Bool) (n : ℕ) (o : Op) → ((c : Cell) → P (Instr.ChkRead c n)) → ((c : Cell) → P (Instr.ChkWrite c n)) → ((c : Cell) → P (Instr.ChkLock c n)) → P (Instr.ChkLockLoaded n)
    → ((r : ℕ) → P (Instr.TestSole r n)) → ((r c : ℕ) → P (Instr.Clear r c)) → AllIn P (head drop n o)
head_all P drop n (Op.Load i cell spot) rd wr l m s c = check_all P drop (Instr.ChkRead cell n) spot n spot.mode (rd cell) l m
head_all P drop n (Op.Store i cell spot) rd wr l m s c = check_all P drop (Instr.ChkWrite cell n) spot n spot.mode (wr cell) l m
head_all P drop n (Op.LoadRef r cell spot) rd wr l m s c = check_all P false (Instr.ChkRead cell n) spot n spot.mode (rd cell) l m
head_all P drop n (Op.StoreRef r cell spot) rd wr l m s c = check_all P false (Instr.ChkWrite cell n) spot n spot.mode (wr cell) l m
head_all P drop n (Op.TakeCell r cell spot) rd wr l m s c = check_all P false (Instr.ChkWrite cell n) spot n spot.mode (wr cell) l m
head_all P drop n (Op.Give r cells spot) rd wr l m s c = (s r, (c r cells, tt))
head_all P drop n (Op.Free r layout spot) rd wr l m s c = (s r, tt)
head_all P drop n _ rd wr l m s c = tt

base_within : (refs : ℕ) (c : Cell) → Framed.BaseWithin refs c → BaseWithin refs c
base_within refs (Cell.Global g place) h = tt
base_within refs (Cell.GlobalAt g i) h = tt
base_within refs _ h = h

handed_within : (refs : ℕ) (r : Register) → Framed.HandedWithin refs r → HandedWithin refs r
handed_within refs (Register.Int i) h = tt
handed_within refs (Register.Reference r) h = h

in_global : (globals : List GlobalCells) (g place : ℕ) → IsInGlobal globals g place → Framed.IsInGlobal globals g place
in_global globals g place h = record { known = h.known; low = h.low; high = h.high }

own_good : (pl : ℕ → ℕ) (n ints refs : ℕ) (o : Op) → OpWrites ints refs o → AllIn (Good ints refs) (own (body pl n o))
own_good pl n ints refs Op.Enter w = tt
own_good pl n ints refs Op.BlockEnd w = tt
own_good pl n ints refs (Op.Compute Char operator i a b spot) w = ((w, tt), tt)
own_good pl n ints refs (Op.Negate Char i a spot) w = ((w, tt), tt)
own_good pl n ints refs (Op.Call f i r spot) w = let a = w.0 in let b = w.1 in (((omega arith, omega arith), tt), tt)
own_good pl n ints refs (Op.Settle x from) w = ((w.0, tt), tt)
own_good pl n ints refs (Op.GlobalBounds i elements cells field spot) w = ((w.0, w.1), tt)
own_good pl n ints refs (Op.LoadRef r cell spot) w = ((tt, tt), tt)
own_good pl n ints refs (Op.Lock cell spot) w = ((base_within refs cell w, tt), tt)
own_good pl n ints refs (Op.Spawn i f from spot) w = (((w.0, handed_within refs from w.1), tt), tt)
own_good pl n ints refs _ w = ((w, tt), tt)

tail_good : (ints refs : ℕ) (o : Op) → OpWrites ints refs o → AllIn (Good ints refs) (tail o)
tail_good ints refs (Op.LoadRef r cell spot) w = ((w, tt), tt)
tail_good ints refs (Op.StoreRef r cell spot) w = ((w, tt), tt)
tail_good ints refs (Op.Settle x from) w = ((w, tt), tt)
tail_good ints refs _ w = tt

expand_good : (pl : ℕ → ℕ) (drop : Bool) (n ints refs : ℕ) (o : Op) → OpWrites ints refs o → AllIn (Good ints refs) (expand pl drop n o)
expand_good pl drop n ints refs o w =
    all_append (Good ints refs) (head drop n o ++ own (body pl n o)) (tail o)
    (all_append (Good ints refs) (head drop n o) (own (body pl n o)) (head_all (Good ints refs) drop n o (λ c. (tt, tt)) (λ c. (tt, tt)) (λ c. (tt, tt)) (tt, tt) (λ r. (tt, tt)) (λ r c. (tt, tt))) (own_good pl n ints refs o w))
    (tail_good ints refs o w)

-- ---- the operations of which each statement leads on
abbrev Straight : Op → Type 0
Straight (Op.Skip k) = ⊥
Straight (Op.SkipIfZero i k) = ⊥
Straight (Op.SkipIfNull r k) = ⊥
Straight (Op.Jump to) = ⊥
Straight (Op.Call f ints refs spot) = ⊥
Straight (Op.Return spot) = ⊥
Straight _ = Unit {0}

own_plain : (pl : ℕ → ℕ) (n : ℕ) (o : Op) → Straight o → AllIn IsPlain (own (body pl n o))
own_plain pl n Op.Enter w = tt
own_plain pl n Op.BlockEnd w = tt
own_plain pl n (Op.Compute Char operator i a b spot) w = (tt, tt)
own_plain pl n (Op.Negate Char i a spot) w = (tt, tt)
own_plain pl n (Op.Skip k) w = absurd w
own_plain pl n (Op.SkipIfZero i k) w = absurd w
own_plain pl n (Op.SkipIfNull r k) w = absurd w
own_plain pl n (Op.Jump to) w = absurd w
own_plain pl n (Op.Call f ints refs spot) w = absurd w
own_plain pl n (Op.Return spot) w = absurd w
own_plain pl n _ w = (tt, tt)

tail_plain : (o : Op) → AllIn IsPlain (tail o)
tail_plain (Op.LoadRef r cell spot) = (tt, tt)
tail_plain (Op.StoreRef r cell spot) = (tt, tt)
tail_plain (Op.Settle x from) = (tt, tt)
tail_plain _ = tt

expand_plain : (pl : ℕ → ℕ) (drop : Bool) (n : ℕ) (o : Op) → Straight o → AllIn IsPlain (expand pl drop n o)
expand_plain pl drop n o w =
    all_append IsPlain (head drop n o ++ own (body pl n o)) (tail o)
    (all_append IsPlain (head drop n o) (own (body pl n o)) (head_all IsPlain drop n o (λ c. tt) (λ c. tt) (λ c. tt) tt (λ r. tt) (λ r c. tt)) (own_plain pl n o w))
    (tail_plain o)

fold_same : (f : Function → ℕ) (pl : ℕ → ℕ) (s : ℕ) (xs : List Function) → ((x : Function) → f (entered_at pl x) ≡ f x) → fold (λ most x. max most (f x)) s (map (entered_at pl) xs) ≡ fold (λ most x. max most (f x)) s xs
fold_same f pl s [] h = refl
fold_same f pl s (x ∷ xs) h = ap (λ k. fold (λ most x. max most (f x)) (max s k) (map (entered_at pl) xs)) (h x) ∙ fold_same f pl (max s (f x)) xs h

module _ (flat : Flat) (dropped : ℕ → Bool) (framed : IsFramed flat) where
  abbrev p : Program
  p = guarded dropped flat

  abbrev pl : ℕ → ℕ
  pl = place dropped flat.lines

  abbrev owner : ℕ → ℕ
  owner pc = framed.owner (line_from dropped 0 flat.lines (pc - 2))

  -- the registers of a function are those that flat code has
  ints_same : (f : ℕ) → (function_at p f).ints ≡ (function_of flat f).ints
  ints_same = part_is dropped flat (λ (g : Function). g.ints) (λ g. refl)

  refs_same : (f : ℕ) → (function_at p f).refs ≡ (function_of flat f).refs
  refs_same = part_is dropped flat (λ (g : Function). g.refs) (λ g. refl)

  -- ---- places of a line
  owner_is : (n j : ℕ) (o : Op) → slice_get flat.lines n ≡ Some o → j < width (dropped n) n o → owner (pl n + j) ≡ framed.owner n
  owner_is n j o e lt =
      let z : 0 + n ≡ n = omega arith in
      let h = line_is dropped 0 flat.lines n j o e (subst (λ k. j < width (dropped k) k o) (sym z) lt) in
      let q : 2 + offset dropped 0 flat.lines n + j - 2 ≡ offset dropped 0 flat.lines n + j = omega arith in
      ap framed.owner (ap (line_from dropped 0 flat.lines) q ∙ h ∙ z)

  statement_there : (n j : ℕ) (o : Op) → slice_get flat.lines n ≡ Some o → j < width (dropped n) n o → slice_get p.statements (pl n + j) ≡ slice_get (expand pl (dropped n) n o) j
  statement_there n j o e lt = let w = width_is pl (dropped n) n o in has_at p.statements (pl n) (expand pl (dropped n) n o) j (stands dropped flat n o e) (omega arith)

  in_body : (n j : ℕ) (o : Op) → slice_get flat.lines n ≡ Some o → j < width (dropped n) n o → IsBody p owner (framed.owner n) (pl n + j)
  in_body n j o e lt =
      let w = width_is pl (dropped n) n o in
      let i = slice_get-get_or (expand pl (dropped n) n o) j Instr.Exit (omega arith) in
      record {
        behind = omega arith;
        inside = get_inside p.statements (pl n + j) _ (statement_there n j o e lt ∙ i);
        owned = owner_is n j o e lt;
      }

  -- where a line goes there is a statement of its function
  begins : (fuel n : ℕ) → n < length flat.lines → length flat.lines ≤ n + fuel → IsBody p owner (framed.owner n) (pl n)
  begins zero n lt le = absurd (omega arith)
  begins (suc fuel) n lt le = at_line (_, slice_get-get_or flat.lines n Op.Enter lt) (λ k e. begins fuel (n + 1) k (omega arith))
    where
      at_line : (o : Op) × (slice_get flat.lines n ≡ Some o) → (n + 1 < length flat.lines → framed.owner (n + 1) ≡ framed.owner n → IsBody p owner (framed.owner (n + 1)) (pl (n + 1))) → IsBody p owner (framed.owner n) (pl n)
      at_line s rec = by_kind s.0 s.1
        where
          enters : (o : Op) → slice_get flat.lines n ≡ Some o → IsIdle o → IsBody p owner (framed.owner n) (pl n)
          enters o e k =
              let next = idle_leads o k (framed.each n o e).leads in
              let w = place_next dropped flat n o e in
              let w1 = idle_length pl (dropped n) n o k in
              let w2 : pl (n + 1) ≡ pl n = omega arith in
              subst (IsBody p owner (framed.owner n)) w2 (subst (λ f. IsBody p owner f (pl (n + 1))) next.owned (rec next.inside next.owned))
            where
              idle_leads : (o : Op) → IsIdle o → OpLeads flat framed.owner n o → InLine flat framed.owner (framed.owner n) (n + 1)
              idle_leads Op.Enter k h = h
              idle_leads Op.BlockEnd k h = h
              idle_leads _ k h = absurd k

          some : (o : Op) → slice_get flat.lines n ≡ Some o → (i : Instr) → body pl n o ≡ Some i → IsBody p owner (framed.owner n) (pl n)
          some o e i b =
              let n1 = length-append (head (dropped n) n o ++ own (body pl n o)) (tail o) in
              let n2 = length-append (head (dropped n) n o) (own (body pl n o)) in
              let n3 : length (own (body pl n o)) ≡ 1 = ap (λ b. length (own b)) b in
              let w = width_is pl (dropped n) n o in
              let z : pl n + 0 ≡ pl n = omega arith in
              subst (IsBody p owner (framed.owner n)) z (in_body n 0 o e (omega arith))

          by_kind : (o : Op) → slice_get flat.lines n ≡ Some o → IsBody p owner (framed.owner n) (pl n)
          by_kind o e = ⊎_elim (λ (k : IsIdle o). enters o e k) (λ (k : (i : Instr) × (body pl n o ≡ Some i)). some o e k.0 k.1) (bodied pl n o)

  line_begins : (f n : ℕ) → InLine flat framed.owner f n → IsBody p owner f (pl n)
  line_begins f n h = subst (λ f. IsBody p owner f (pl n)) h.owned (begins (length flat.lines) n h.inside (omega arith))

  -- ---- where statements lead
  abbrev LeadAll : ℕ → List Instr → Type 0
  LeadAll pc [] = Unit {0}
  LeadAll pc (i ∷ is) = Leads p owner pc i × LeadAll (pc + 1) is

  lead_at : (pc : ℕ) (is : List Instr) (j : ℕ) (i : Instr) → LeadAll pc is → slice_get is j ≡ Some i → Leads p owner (pc + j) i
  lead_at pc [] j i h e = absurd (cc)
  lead_at pc (x ∷ is) zero i h e = let s : x ≡ i = cc in let z : pc ≡ pc + 0 = omega arith in subst (λ n. Leads p owner n i) z (subst (Leads p owner pc) s h.0)
  lead_at pc (x ∷ is) (suc j) i h e = let z : pc + 1 + j ≡ pc + suc j = omega arith in subst (λ n. Leads p owner n i) z (lead_at (pc + 1) is j i h.1 e)

  plain_all : (n j : ℕ) (o : Op) (e : slice_get flat.lines n ≡ Some o) (is : List Instr) → AllIn IsPlain is → j + length is ≡ width (dropped n) n o → InLine flat framed.owner (framed.owner n) (n + 1) → LeadAll (pl n + j) is
  plain_all n j o e [] h k next = tt
  plain_all n j o e (i ∷ is) h k next =
      (plain_leads p owner (pl n + j) i h.0 (subst (λ f. IsBody p owner f (pl n + j + 1)) (sym (owner_is n j o e (omega arith))) (follow is k)), subst (λ q. LeadAll q is) there (plain_all n (j + 1) o e is h.1 (omega arith) next))
    where
      there : pl n + (j + 1) ≡ pl n + j + 1
      there = omega arith

      follow : (is : List Instr) → j + suc (length is) ≡ width (dropped n) n o → IsBody p owner (framed.owner n) (pl n + j + 1)
      follow [] k =
          let w = width_is pl (dropped n) n o in
          let q = place_next dropped flat n o e in
          let z : pl (n + 1) ≡ pl n + j + 1 = omega arith in
          subst (IsBody p owner (framed.owner n)) z (line_begins (framed.owner n) (n + 1) next)
      follow (y ∷ ys) k =
          let z : pl n + (j + 1) ≡ pl n + j + 1 = omega arith in
          subst (IsBody p owner (framed.owner n)) z (in_body n (j + 1) o e (omega arith))

  -- the place of a one-statement line is that of the line
  at_line_owner : (n : ℕ) (o : Op) → slice_get flat.lines n ≡ Some o → 0 < width (dropped n) n o → owner (pl n) ≡ framed.owner n
  at_line_owner n o e lt = let z : pl n + 0 ≡ pl n = omega arith in ap owner (sym z) ∙ owner_is n 0 o e lt

  next_there : (n : ℕ) (o : Op) → slice_get flat.lines n ≡ Some o → width (dropped n) n o ≡ 1 → InLine flat framed.owner (framed.owner n) (n + 1) → IsBody p owner (owner (pl n)) (pl n + 1)
  next_there n o e k next =
      let w = width_is pl (dropped n) n o in
      let q = place_next dropped flat n o e in
      let z : pl (n + 1) ≡ pl n + 1 = omega arith in
      subst (λ f. IsBody p owner f (pl n + 1)) (sym (at_line_owner n o e (omega arith))) (subst (IsBody p owner (framed.owner n)) z (line_begins (framed.owner n) (n + 1) next))

  to_line : (n to : ℕ) (o : Op) → slice_get flat.lines n ≡ Some o → width (dropped n) n o ≡ 1 → InLine flat framed.owner (framed.owner n) to → IsBody p owner (owner (pl n)) (pl to)
  to_line n to o e k there = subst (λ f. IsBody p owner f (pl to)) (sym (at_line_owner n o e (omega arith))) (line_begins (framed.owner n) to there)

  straight_all : (n : ℕ) (o : Op) (e : slice_get flat.lines n ≡ Some o) → Straight o → InLine flat framed.owner (framed.owner n) (n + 1) → LeadAll (pl n) (expand pl (dropped n) n o)
  straight_all n o e w next =
      let z : pl n + 0 ≡ pl n = omega arith in
      let k = width_is pl (dropped n) n o in
      subst (λ q. LeadAll q (expand pl (dropped n) n o)) z (plain_all n 0 o e (expand pl (dropped n) n o) (expand_plain pl (dropped n) n o w) (omega arith) next)

  lead_all : (n : ℕ) (o : Op) (e : slice_get flat.lines n ≡ Some o) → OpLeads flat framed.owner n o → LeadAll (pl n) (expand pl (dropped n) n o)
  lead_all n (Op.Skip k) e h = (to_line n (n + 1 + k) (Op.Skip k) e refl h, tt)
  lead_all n (Op.SkipIfZero i k) e h = ((to_line n (n + 1 + k) (Op.SkipIfZero i k) e refl h.0, next_there n (Op.SkipIfZero i k) e refl h.1), tt)
  lead_all n (Op.SkipIfNull r k) e h = ((to_line n (n + 1 + k) (Op.SkipIfNull r k) e refl h.0, next_there n (Op.SkipIfNull r k) e refl h.1), tt)
  lead_all n (Op.Jump to) e h = (to_line n to (Op.Jump to) e refl h, tt)
  lead_all n (Op.Call f ints refs spot) e h =
      let l = length-map flat.functions (entered_at pl) in
      let lf = h.0 in
      ((omega arith, next_there n (Op.Call f ints refs spot) e refl h.1), tt)
  lead_all n (Op.Return spot) e h = (tt, tt)
  lead_all n Op.Enter e h = straight_all n Op.Enter e tt h
  lead_all n Op.BlockEnd e h = straight_all n Op.BlockEnd e tt h
  lead_all n o e h = straight_all n o e tt h

  -- ---- the whole
  each_place : (pc : ℕ) (i : Instr) → 2 ≤ pc → slice_get p.statements pc ≡ Some i → IsAtPlace p owner pc i
  each_place pc i le e =
      let n0 = get_inside p.statements pc i e in
      let w = there_is pl dropped 0 flat.lines (pc - 2) (omega arith) in
      let n = w.line in
      let o = w.op_is in
      let z : 0 + n ≡ n = omega arith in
      let lt : w.step < width (dropped n) n o = subst (λ k. w.step < width (dropped k) k o) z w.within in
      let q = w.pos_is in
      let here : pc ≡ pl n + w.step = omega arith in
      let at : slice_get (expand pl (dropped n) n o) w.step ≡ Some i = sym (statement_there n w.step o w.at lt) ∙ ap (slice_get p.statements) (sym here) ∙ e in
      let f = framed.each n o w.at in
      let ow : owner pc ≡ framed.owner n = ap owner here ∙ owner_is n w.step o w.at lt in
      let good = all_at (Good (function_of flat (framed.owner n)).ints (function_of flat (framed.owner n)).refs) (expand pl (dropped n) n o) w.step i (expand_good pl (dropped n) n (function_of flat (framed.owner n)).ints (function_of flat (framed.owner n)).refs o f.writes) at in
      let ints : (function_at p (owner pc)).ints ≡ (function_of flat (framed.owner n)).ints = ints_same (owner pc) ∙ ap (λ f. (function_of flat f).ints) ow in
      let refs : (function_at p (owner pc)).refs ≡ (function_of flat (framed.owner n)).refs = refs_same (owner pc) ∙ ap (λ f. (function_of flat f).refs) ow in
      record {
        writes = subst (λ k. WritesWithin k (function_at p (owner pc)).refs i) (sym ints) (subst (λ k. WritesWithin (function_of flat (framed.owner n)).ints k i) (sym refs) good.0);
        leads = subst (λ pc. Leads p owner pc i) (sym here) (lead_at (pl n) (expand pl (dropped n) n o) w.step i (lead_all n o w.at f.leads) at);
        few = good.1;
      }

  entry_there : (f : ℕ) → f < length p.functions → IsEntry p owner f
  entry_there f lt =
      let l = length-map flat.functions (entered_at pl) in
      let lf : f < length flat.functions = omega arith in
      let en = framed.entries f lf in
      let same = entered_is dropped flat f lf in
      record {
        body = subst (λ (fn : Function). IsBody p owner f fn.entry) (sym same) (line_begins f (function_of flat f).entry en.0);
        parameter = subst (λ (fn : Function). HasParameter fn fn.parameter) (sym same) (moved_parameter (function_of flat f) (function_of flat f).parameter en.1);
      }
    where
      moved_parameter : (fn : Function) (q : Parameter) → Framed.HasParameter fn q → HasParameter (entered_at pl fn) q
      moved_parameter fn Parameter.None h = tt
      moved_parameter fn _ h = h

  pub is_guarded : IsGuarded p
  is_guarded = record {
    owner = owner;
    start = 0;
    starts = refl;
    exits = refl;
    entries = entry_there;
    each = each_place;
    frames = record {
      ints = subst (λ k. 256 * k < 2 ^ 32) (sym (fold_same (λ f. f.ints) pl 0 flat.functions (λ x. refl))) framed.few_ints;
      refs = subst (λ k. 256 * k < 2 ^ 32) (sym (fold_same (λ f. f.refs) pl 0 flat.functions (λ x. refl))) framed.few_refs;
    };
    apart = λ g h place a b. framed.apart g h place (in_global flat.globals g place a) (in_global flat.globals h place b);
  }
