-- The parts of flattened code: which integer registers name two cells of one element at each of their lines.
use Rattle.sharc_compile_laws.proofs.{Imports.{◌≡◌, inl, inr, ⊎_elim, ℕ, ◌+◌, ◌-◌, ◌<◌, ◌≤◌, Bool, true, false, cond, List, [], ◌∷◌, ◌++◌, length, drop, refl, ap, sym, ◌∙◌, subst, arith, length-append, append_assoc, Option, Some, None, codes, bytes_eq, false≢true, Site, Span, Identifier, FieldOperator, Dot, Arrow, BinaryOperator, LogicalOr, LogicalAnd, NotEqual, PlaceCall, Lock, Unlock, Free, Negate, Not, Complement, Dereference, ValueCall, Join, Print, span_of, Expression, identifier, constant, parentheses, call, spawn, on_value, on_place, cast, index, field, unary, binary, Arguments, no_arguments, argument, Named, Kind, is_array, is_integer, element_kind, declared_kinds, GlobalCells, Use, Register, Int, Reference, word_of, named_at, kind_at, global_at, parameters_named, is_behind_pointer, LockPath, Sharing, locked, cell_in, element_cells, field_place, field_place_named, global_elements, number_named, Op, Spot, Flat, At, function_of, first_cell, cell_at, Lvalue, Context, register_of, at_site, Target, variable, in_global, in_global_at, in_object, in_object_at, named_target, target, own_field, global_of, has_base, base_width, index_width, cell_of, guard_cell, field_of, guard_field, beside_named, beside_field, mode_beside, mode_named, place_mode, lock_beside, spot_of, bounds_code, index_code, pointee_code, guard_code, drop_base, settle_base, copy_code, cell_value_code, value_code, settle_code, cell_store_code, store_code, cell_take_code, take_code, width_code, is_ref, target_of, mode_of, what_names, lvalue_in, named_code, truth_code, differ_code, compare_code, logical_code, either_code, binary_code, behind_int, behind_ref, wait_code, condition_code, with_words, argument_words, called_code, passed_code, spawn_code, value_call_code, unlocked_code, place_call_code, cast_code, guard_of, taken_guard, field_code, expression_code, arguments_code, place_code, is_cell, IsBeside, LockStands, Knowledge}, Ties.{Tie, copied, scaled, beside, register_in, Ties, In, Fit, fit_same, fit_through, Apart, Kept, Bounded, AllHold, Next, Needs}}
use Rattle.sharc_flat_lemmas.proofs.Flow as flow

-- ---- what is known after a place is found: of its element, where its mutex is beside it
abbrev pub place_ties : List GlobalCells → Target → Option ℕ → ℕ → Ties
place_ties globals (in_object_at n) (Some mutex) i = beside i n mutex ∷ []
place_ties globals (in_global_at g n) (Some mutex) i = beside i (first_cell globals g + n) (first_cell globals g + mutex) ∷ []
place_ties globals _ guard i = []

-- only registers below this one
abbrev pub Low : ℕ → Ties → Type 0
Low i s = (x : Tie) → In s x → register_in x + 1 < i

pub low_more : (i j : ℕ) (s : Ties) → i ≤ j → Low i s → Low j s
low_more i j s le h x y = let z = h x y in omega (arith, le, z)

pub low_place : (globals : List GlobalCells) (t : Target) (guard : Option ℕ) (i : ℕ) (s : Ties) → Low i s → Low (i + index_width t guard) (place_ties globals t guard i ++ s)
low_place globals (in_global_at g n) (Some mutex) i s h x (inl e) = let z = ap register_in e in omega (arith, z)
low_place globals (in_global_at g n) (Some mutex) i s h x (inr y) = let z = h x y in omega (arith, z)
low_place globals (in_object_at n) (Some mutex) i s h x (inl e) = let z = ap register_in e in omega (arith, z)
low_place globals (in_object_at n) (Some mutex) i s h x (inr y) = let z = h x y in omega (arith, z)
low_place globals _ _ i s h x y = let z = h x y in omega (arith, z)

pub in_right : (a b : Ties) → Fit (a ++ b) b
in_right [] b x h = h
in_right (y ∷ rest) b x h = inr (in_right rest b x h)

in_left : (a b : Ties) → Fit (a ++ b) a
in_left [] b x h = absurd h
in_left (y ∷ rest) b x (inl e) = inl e
in_left (y ∷ rest) b x (inr h) = inr (in_left rest b x h)

-- what is named by a name is no element
named_plain : (globals : List GlobalCells) (n : Named) (f : ℕ) (guard : Option ℕ) (i : ℕ) → place_ties globals (named_target n f) guard i ≡ []
named_plain globals (Named.Field x) f guard i = refl
named_plain globals _ f guard i = refl

module _ (flat : Flat) where
  abbrev G : List GlobalCells
  G = flat.globals

  -- ---- the mutex of an access

  lock_cells : (m : At) (i r mutex : ℕ) (t : Target) → is_cell t ≡ true → AllHold flat (place_ties G t (Some mutex) i) m
      → cell_at G m (guard_cell G mutex i r t) ≡ record { object = (cell_at G m (cell_of G i r t)).object; cell = (cell_at G m (cell_of G i r t)).cell - field_of t + mutex }
  lock_cells m i r mutex (variable x) c h = absurd (false≢true c)
  lock_cells m i r mutex (in_global g n) c h =
      let z : first_cell G g + mutex - first_cell G g ≡ first_cell G g + n - first_cell G g - n + mutex = omega arith in
      ap (cell_in (cell_at G m (cell_of G i r (in_global g n))).object) z
  lock_cells m i r mutex (in_object n) c h = let z : mutex ≡ n - n + mutex = omega arith in ap (cell_in (cell_at G m (cell_of G i r (in_object n))).object) z
  lock_cells m i r mutex (in_global_at g n) c h =
      let w = h (beside i (first_cell G g + n) (first_cell G g + mutex)) (inl refl) in
      let F = first_cell G g in
      let a : word_of (m.ints (m.int_base + i)) ≡ w.0 + (F + n) = ap word_of w.1 in
      let b : word_of (m.ints (m.int_base + (i + 1))) ≡ w.0 + (F + mutex) = ap word_of w.2 in
      let z : word_of (m.ints (m.int_base + (i + 1))) - F ≡ word_of (m.ints (m.int_base + i)) - F - n + mutex = omega (arith, a, b) in
      ap (cell_in (cell_at G m (cell_of G i r (in_global_at g n))).object) z
  lock_cells m i r mutex (in_object_at n) c h =
      let w = h (beside i n mutex) (inl refl) in
      let a : word_of (m.ints (m.int_base + i)) ≡ w.0 + n = ap word_of w.1 in
      let b : word_of (m.ints (m.int_base + (i + 1))) ≡ w.0 + mutex = ap word_of w.2 in
      let z : word_of (m.ints (m.int_base + (i + 1))) ≡ word_of (m.ints (m.int_base + i)) - n + mutex = omega (arith, a, b) in
      ap (cell_in (cell_at G m (cell_of G i r (in_object_at n))).object) z

  module _ (c : Context) (same : c.globals ≡ flat.globals) where
    beside_named_stands : (m : At) (i r : ℕ) (t : Target) (spot : Spot) → is_cell t ≡ true → (l : LockPath) (what : Named) (second : Option (List ℕ)) → AllHold flat (place_ties G t (beside_named c.program.typed l what) i) m
        → spot.lock ≡ lock_beside G i r t (beside_named c.program.typed l what) → IsBeside flat m (cell_of G i r t) spot (mode_named c (field_of t) l what second)
    beside_named_stands m i r t spot is l (Named.Field token) second h e = by (is_behind_pointer c.program.typed l)
      where
        by : (b : Bool) → IsBeside flat m (cell_of G i r t) spot (mode_beside b (field_of t) (field_place c.program.typed token))
        by true = tt
        by false = λ none. ap (cell_at G m) e ∙ lock_cells m i r (field_place c.program.typed token) t is h
    beside_named_stands m i r t spot is l (Named.Variable x) (Some y) h e = tt
    beside_named_stands m i r t spot is l _ _ h e = tt

    stands_by : (m : At) (i r : ℕ) (t : Target) (spot : Spot) → is_cell t ≡ true → (mode : Sharing) → AllHold flat (place_ties G t (beside_field c.program.typed mode) i) m → spot.lock ≡ lock_beside G i r t (beside_field c.program.typed mode)
        → IsBeside flat m (cell_of G i r t) spot (place_mode c (field_of t) mode)
    stands_by m i r t spot is (locked l) h e = beside_named_stands m i r t spot is l (named_at c.program.typed l.first) l.second h e
    stands_by m i r t spot is _ h e = tt

    access_stands : (m : At) (i r : ℕ) (site : Site) (lvalue : Lvalue) (use_made : Use) (t : Target) → is_cell t ≡ true → (mode : Sharing) → AllHold flat (place_ties c.globals t (beside_field c.program.typed mode) i) m
        → IsBeside flat m (cell_of c.globals i r t) (spot_of c i r site lvalue use_made mode t) (spot_of c i r site lvalue use_made mode t).mode
    access_stands m i r site lvalue use_made t is mode h =
        subst (λ z. IsBeside flat m (cell_of z i r t) (spot_of c i r site lvalue use_made mode t) (place_mode c (field_of t) mode)) (sym same)
        (stands_by m i r t (spot_of c i r site lvalue use_made mode t) is mode (subst (λ z. AllHold flat (place_ties z t (beside_field c.program.typed mode) i) m) same h) (ap (λ z. lock_beside z i r t (beside_field c.program.typed mode)) same))

  -- ---- pieces
  abbrev pub tied : Knowledge
  tied = record {
    St = Ties;
    Fit = Fit;
    same = fit_same;
    through = fit_through;
    Own = λ q. Unit {0};
    Needs = Needs flat;
    Far = Fit;
    far = λ s t h. h;
    far_through = fit_through;
    Plain = λ s. Unit {0};
    PlainNull = λ s r. Unit {0};
    cleared = λ s r. s;
    noted = λ s r. s;
    on_zero = λ table pc s i n plain a b. record { next = (a.1, b.1); stands = λ m h. tt };
    on_null = λ table pc s r n plain a b. record { next = (a.1, b.1); stands = λ m h. tt };
    on_skip = λ table pc s n plain a. record { next = a.1; stands = λ m h. tt };
  }

  abbrev pub Piece : ((ℕ → Ties) → Type 0) → Ties → ℕ → List Op → Ties → Type 0
  Piece = flow.Piece tied

  -- each function begins with nothing known
  abbrev pub Entries : (ℕ → Ties) → Type 0
  Entries table = (g : ℕ) → table (function_of flat g).entry ≡ []

  abbrev pub P : Ties → List Op → Ties → Type 0
  P s os e = (pc : ℕ) → Piece Entries s pc os e

  pub then_do : (s m e : Ties) (xs ys : List Op) → P s xs m → P m ys e → P s (xs ++ ys) e
  then_do s m e xs ys p q = λ pc. flow.joins tied Entries s m e pc xs ys (p pc) (q (pc + length xs))

  pub nothing : (s e : Ties) → Fit s e → P s [] e
  nothing s e h = λ pc. flow.nothing tied Entries s pc e h

  pub one : (s : Ties) (o : Op) (e : Ties) → ((table : ℕ → Ties) (pc : ℕ) → Entries table → Fit e (table (pc + 1)) → Needs flat table pc s o) → P s (o ∷ []) e
  one s o e l = λ pc. flow.line tied Entries s pc o e (λ table d own end. l table pc d end)

  -- one that writes no integer, and no access
  quiet : (s : Ties) (o : Op) → ((table : ℕ → Ties) (pc : ℕ) → Fit s (table (pc + 1)) → Next flat table pc s o) → ((m : At) → LockStands flat m o) → P s (o ∷ []) s
  quiet s o n l = one s o s (λ table pc d fit. record { next = n table pc fit; stands = λ m h. l m })

  -- one that writes this integer
  apart_low : (i j : ℕ) (s : Ties) → Low i s → i ≤ j → (x : Tie) → In s x → Apart j x
  apart_low i j s low le x y = let z = low x y in record { first = λ e. omega (arith, e, z, le); second = λ e. omega (arith, e, z, le) }

  kept_low : (i j : ℕ) (s e t : Ties) → Low i s → i ≤ j → Fit s e → Fit e t → Kept s j t
  kept_low i j s e t low le a b x y = let z = a x (b x y) in (z, apart_low i j s low le x z)

  before : (s : Ties) (o : Op) (os : List Op) (e : Ties) → P s (o ∷ []) s → P s os e → P s (o ∷ os) e
  before s o os e p q = then_do s s e (o ∷ []) os p q

  choose : (b : Bool) (s e : Ties) (xs ys : List Op) → P s xs e → P s ys e → P s (cond b xs ys) e
  choose true s e xs ys p q = p
  choose false s e xs ys p q = q

  empty : (s : Ties) → P s [] s
  empty s = nothing s s (fit_same s)

  over : (s : Ties) (i : ℕ) (xs ys : List Op) → P s xs s → P s ys s → P s (Op.SkipIfZero i (length xs) ∷ (xs ++ ys)) s
  over s i xs ys p q = λ pc. flow.over tied Entries s s s pc i xs ys tt (fit_same s) (p (pc + 1)) (q (pc + 1 + length xs))

  over_null : (s : Ties) (r : ℕ) (o : Op) → P s (o ∷ []) s → P s (Op.SkipIfNull r 1 ∷ o ∷ []) s
  over_null s r o p = λ pc. flow.over_null tied Entries s s s pc r o tt (fit_same s) (fit_same s) (p (pc + 1))

  forget : (s t e : Ties) (os : List Op) → P s os (t ++ e) → P s os e
  forget s t e os p = λ pc. flow.wider_end tied Entries s pc os (t ++ e) e (in_right t e) (p pc)

  -- ---- code that writes no integer register before this one, where nothing more is known after it
  abbrev pub R : ℕ → List Op → Type 0
  R i os = (s : Ties) → Low i s → P s os s

  pub both : (i : ℕ) (xs ys : List Op) → R i xs → R i ys → R i (xs ++ ys)
  both i xs ys p q = λ s low. then_do s s s xs ys (p s low) (q s low)

  pub up : (i j : ℕ) (os : List Op) → i ≤ j → R j os → R i os
  up i j os le p = λ s low. p s (low_more i j s le low)

  pub none : (i : ℕ) → R i []
  none i = λ s low. empty s

  pub plain : (i : ℕ) (o : Op) → ((table : ℕ → Ties) (pc : ℕ) (s : Ties) → Fit s (table (pc + 1)) → Next flat table pc s o) → ((m : At) → LockStands flat m o) → R i (o ∷ [])
  plain i o n l = λ s low. quiet s o (λ table pc fit. n table pc s fit) l

  pub sets : (i j : ℕ) (o : Op) → i ≤ j → ((table : ℕ → Ties) (pc : ℕ) (s : Ties) → Kept s j (table (pc + 1)) → Next flat table pc s o) → ((m : At) → LockStands flat m o) → R i (o ∷ [])
  sets i j o le n l = λ s low. one s o s (λ table pc d fit. record { next = n table pc s (kept_low i j s s (table (pc + 1)) low le (fit_same s) fit); stands = λ m h. l m })

  pub moves : (i j from : ℕ) → i ≤ j → R i (Op.Move j from ∷ [])
  moves i j from le = λ s low. one s (Op.Move j from) s (λ table pc d fit. record { next = λ x y. inl (kept_low i j s s (table (pc + 1)) low le (fit_same s) fit x y); stands = λ m h. tt })

  choose_r : (i : ℕ) (b : Bool) (xs ys : List Op) → R i xs → R i ys → R i (cond b xs ys)
  choose_r i true xs ys p q = p
  choose_r i false xs ys p q = q

  pub pops : (i r : ℕ) → R i (Op.Pop r ∷ [])
  pops i r = plain i (Op.Pop r) (λ table pc s f. f) (λ m. tt)

  falses : (i : ℕ) → R i (Op.IsFalse i i ∷ [])
  falses i = sets i i (Op.IsFalse i i) (omega arith) (λ table pc s k. k) (λ m. tt)

  pub enters : (i : ℕ) (os : List Op) → R i os → R i (Op.Enter ∷ os)
  enters i os p = both i (Op.Enter ∷ []) os (plain i Op.Enter (λ table pc s f. f) (λ m. tt)) p

  enters_to : (s e : Ties) (os : List Op) → P s os e → P s (Op.Enter ∷ os) e
  enters_to s e os p = then_do s s e (Op.Enter ∷ []) os (quiet s Op.Enter (λ table pc f. f) (λ m. tt)) p

  drops : (i r : ℕ) (t : Target) → R i (drop_base r t)
  drops i r t = choose_r i (has_base t) (Op.Pop r ∷ []) [] (pops i r) (none i)

  settles : (i r : ℕ) (t : Target) → R i (settle_base r t)
  settles i r t = choose_r i (has_base t) (Op.Settle r (r + 1) ∷ []) [] (plain i (Op.Settle r (r + 1)) (λ table pc s f. f) (λ m. tt)) (none i)

  copies : (i r : ℕ) (x : Register) → R i (copy_code i r x)
  copies i r (Int x) = moves i i x (omega arith)
  copies i r (Reference x) = plain i (Op.Local r x) (λ table pc s f. f) (λ m. tt)

  pub truths : (b : Bool) (i r : ℕ) → R i (truth_code b i r)
  truths true i r =
      both i (Op.Null (r + 1) ∷ []) _ (plain i (Op.Null (r + 1)) (λ table pc s f. f) (λ m. tt))
      (both i (Op.SameReference i r (r + 1) ∷ []) _ (sets i i (Op.SameReference i r (r + 1)) (omega arith) (λ table pc s k. k) (λ m. tt)) (both i (Op.Pop r ∷ []) (Op.IsFalse i i ∷ []) (pops i r) (falses i)))
  truths false i r = none i

  pub widths : (i j : ℕ) (kind : Kind) (site : Site) → R i (width_code j kind site)
  widths i j kind site = choose_r i (is_integer kind) (Op.ChkWidth _ j _ ∷ []) [] (plain i (Op.ChkWidth _ j _) (λ table pc s f. f) (λ m. tt)) (none i)

  passes : (i j : ℕ) (ks : List Kind) (site : Site) → R i (passed_code j ks site)
  passes i j [] site = none i
  passes i j (k ∷ rest) site = widths i j k site

  differs : (o : BinaryOperator) (i : ℕ) → R i (differ_code o i)
  differs NotEqual i = falses i
  differs _ i = none i

  compares : (o : BinaryOperator) (i r : ℕ) → R i (compare_code o i r)
  compares o i r =
      both i (Op.SameReference i r (r + 1) ∷ []) _ (sets i i (Op.SameReference i r (r + 1)) (omega arith) (λ table pc s k. k) (λ m. tt))
      (both i (differ_code o i) (Op.Pop r ∷ Op.Pop (r + 1) ∷ []) (differs o i) (both i (Op.Pop r ∷ []) (Op.Pop (r + 1) ∷ []) (pops i r) (pops i (r + 1))))

  logicals : (i : ℕ) (xs ys : List Op) → R i xs → R i ys → R i (logical_code i xs ys)
  logicals i xs ys p q = both i xs _ p (λ s low. over s i ys (Op.IsFalse i i ∷ Op.IsFalse i i ∷ []) (q s low) (both i (Op.IsFalse i i ∷ []) (Op.IsFalse i i ∷ []) (falses i) (falses i) s low))

  eithers : (i : ℕ) (xs ys : List Op) → R i xs → R i ys → R i (either_code i xs ys)
  eithers i xs ys p q =
      let F = Op.IsFalse i i in
      let count : length (ys ++ F ∷ []) ≡ length ys + 1 = length-append ys (F ∷ []) in
      let same : Op.SkipIfZero i (length (ys ++ F ∷ [])) ∷ ((ys ++ F ∷ []) ++ F ∷ []) ≡ Op.SkipIfZero i (length ys + 1) ∷ (ys ++ (F ∷ F ∷ [])) =
      ap (λ n. Op.SkipIfZero i n ∷ ((ys ++ F ∷ []) ++ F ∷ [])) count ∙ ap (λ l. Op.SkipIfZero i (length ys + 1) ∷ l) (append_assoc ys (F ∷ []) (F ∷ [])) in
      both i xs _ p (both i (F ∷ []) (Op.SkipIfZero i (length ys + 1) ∷ (ys ++ (F ∷ F ∷ []))) (falses i) (subst (R i) same (λ s low. over s i (ys ++ F ∷ []) (F ∷ []) (both i ys (F ∷ []) q (falses i) s low) (falses i s low))))

  pointees : (i r : ℕ) (site : Site) (xs : List Op) → R i xs → R i (pointee_code r site xs)
  pointees i r site xs p = both i xs (Op.ChkNull r (at_site site) ∷ []) p (plain i (Op.ChkNull r (at_site site)) (λ table pc s f. f) (λ m. tt))

  values_called : (w : ValueCall) (i : ℕ) (spot : Spot) → R i (value_call_code w i spot)
  values_called Join i spot = plain i (Op.Join i spot) (λ table pc s f. f) (λ m. tt)
  values_called Print i spot = plain i (Op.Print i spot) (λ table pc s f. f) (λ m. tt)

  spawns : (b : Bool) (i r g : ℕ) (spot : Spot) → R i (spawn_code b i r g spot)
  spawns b i r g spot = sets i i (Op.Spawn i g _ spot) (omega arith) (λ table pc s k. k) (λ m. tt)

  q1 : (i : ℕ) (o : Op) (os : List Op) → R i (o ∷ []) → R i os → R i (o ∷ os)
  q1 i o os p q = both i (o ∷ []) os p q

  waits : (i r : ℕ) (spot a b : Spot) → R i (wait_code r spot a b)
  waits i r spot a b =
      q1 i (Op.ChkNull r spot) _ (plain i (Op.ChkNull r spot) (λ table pc s f. f) (λ m. tt))
      (q1 i (Op.ChkNull (r + 1) spot) _ (plain i (Op.ChkNull (r + 1) spot) (λ table pc s f. f) (λ m. tt))
      (q1 i (Op.ChkHeld _ spot) _ (plain i (Op.ChkHeld _ spot) (λ table pc s f. f) (λ m. tt))
      (q1 i (Op.CondEnter _ spot) _ (plain i (Op.CondEnter _ spot) (λ table pc s f. f) (λ m. tt))
      (q1 i (Op.Unlock (r + 2) _ spot) _ (plain i (Op.Unlock (r + 2) _ spot) (λ table pc s f. f) (λ m. tt))
      (q1 i (Op.CondWait _ a) _ (plain i (Op.CondWait _ a) (λ table pc s f. f) (λ m. tt))
      (q1 i (Op.Lock _ b) _ (plain i (Op.Lock _ b) (λ table pc s f. f) (λ m. tt)) (both i (Op.Pop r ∷ []) (Op.Pop (r + 1) ∷ []) (pops i r) (pops i (r + 1)))))))))

  waked : (i r : ℕ) (o : Op) (spot : Spot) → R i (o ∷ []) → R i (Op.ChkNull r spot ∷ o ∷ Op.Pop r ∷ [])
  waked i r o spot p = q1 i (Op.ChkNull r spot) _ (plain i (Op.ChkNull r spot) (λ table pc s f. f) (λ m. tt)) (q1 i o (Op.Pop r ∷ []) p (pops i r))

  conditions : (i r : ℕ) (spot : Spot) (name : List ℕ) (all : Arguments) → R i (condition_code r spot name all)
  conditions i r spot name all =
      choose_r i (bytes_eq name (codes "wait")) _ _ (waits i r spot (with_words spot (argument_words 0 all)) (with_words spot (argument_words 1 all)))
      (choose_r i (bytes_eq name (codes "signal")) _ _ (waked i r _ spot (plain i _ (λ table pc s f. f) (λ m. tt))) (waked i r _ spot (plain i _ (λ table pc s f. f) (λ m. tt))))

  calls : (i r : ℕ) (spot : Spot) (n : Named) (name : List ℕ) (all : Arguments) → R i (called_code i r spot n name all)
  calls i r spot (Named.Function k) name all = λ s low. one s (Op.Call k i r spot) s (λ table pc d fit. record { next = (d k, λ x y. let z = fit x y in (z, low x z)); stands = λ m h. tt })
  calls i r spot Named.Known name all = conditions i r spot name all
  calls i r spot _ name all = none i

  sides : (b : Bool) (i r : ℕ) (o : BinaryOperator) (xs : List Op) (ys : ℕ → ℕ → List Op) (final : Op) → R i xs → ((j r2 : ℕ) → R j (ys j r2)) → R i (final ∷ []) → R i (xs ++ (ys (behind_int b i) (behind_ref b r) ++ cond b (compare_code o i r) (final ∷ [])))
  sides true i r o xs ys final p q l = both i xs _ p (both i (ys i (r + 1)) _ (q i (r + 1)) (compares o i r))
  sides false i r o xs ys final p q l = both i xs _ p (both i (ys (i + 1) r) (final ∷ []) (up i (i + 1) (ys (i + 1) r) (omega arith) (q (i + 1) r)) l)

  binaries : (c : Context) (i r : ℕ) (site : Site) (o : BinaryOperator) (a b : Expression) (xs : List Op) (ys : ℕ → ℕ → List Op) → R i xs → ((j r2 : ℕ) → R j (ys j r2)) → R i (binary_code c i r site o a b xs ys)
  binaries c i r site LogicalAnd a b xs ys p q = logicals i (xs ++ truth_code (is_ref c a) i r) (ys i r ++ truth_code (is_ref c b) i r) (both i xs _ p (truths (is_ref c a) i r)) (both i (ys i r) _ (q i r) (truths (is_ref c b) i r))
  binaries c i r site LogicalOr a b xs ys p q = eithers i (xs ++ truth_code (is_ref c a) i r) (ys i r ++ truth_code (is_ref c b) i r) (both i xs _ p (truths (is_ref c a) i r)) (both i (ys i r) _ (q i r) (truths (is_ref c b) i r))
  binaries c i r site j a b xs ys p q = sides (is_ref c a) i r j xs ys _ p q (sets i i (Op.Compute _ _ i i (i + 1) _) (omega arith) (λ table pc s k. k) (λ m. tt))

  -- ---- places, and their accesses
  module _ (c : Context) (same : c.globals ≡ flat.globals) where
    abbrev pub T : Target → Option ℕ → ℕ → Ties
    T t guard i = place_ties c.globals t guard i

    -- the mode of what is named, and what is known of its element
    abbrev pub M : Target → Sharing → ℕ → Ties
    M t mode i = T t (beside_field c.program.typed mode) i

    guards : (s : Ties) (i r : ℕ) (site : Site) (lvalue : Lvalue) (t : Target) (g : Option ℕ) → P s (guard_code c i r site lvalue t g) s
    guards s i r site lvalue t None = empty s
    guards s i r site lvalue t (Some mutex) = quiet s (Op.LoadGuard _ _) (λ table pc f. f) (λ m. tt)

    held_left : (a b : Ties) (m : At) → AllHold flat (a ++ b) m → AllHold flat a m
    held_left a b m h x y = h x (in_left a b x y)

    -- an access of a cell, behind the load of what guards it
    accessed : (i r : ℕ) (site : Site) (lvalue : Lvalue) (use_made : Use) (mode : Sharing) (t : Target) → is_cell t ≡ true → (s : Ties) (o : Op) (rest : List Op) → ((table : ℕ → Ties) (pc : ℕ) → Fit s (table (pc + 1)) → Next flat table pc (M t mode i ++ s) o)
        → ((m : At) → IsBeside flat m (cell_of c.globals i r t) (spot_of c i r site lvalue use_made mode t) (spot_of c i r site lvalue use_made mode t).mode → LockStands flat m o) → P s rest s
        → P (M t mode i ++ s) (guard_code c i r site lvalue t (guard_field c.program.typed mode) ++ (o ∷ rest)) s
    accessed i r site lvalue use_made mode t is s o rest next stands p =
        let A = M t mode i in
        then_do (A ++ s) (A ++ s) s (guard_code c i r site lvalue t (guard_field c.program.typed mode)) (o ∷ rest) (guards (A ++ s) i r site lvalue t (guard_field c.program.typed mode))
        (then_do (A ++ s) s s (o ∷ []) rest (one (A ++ s) o s (λ table pc d fit. record { next = next table pc fit; stands = λ m h. stands m (access_stands c same m i r site lvalue use_made t is mode (held_left A s m h)) })) p)

    -- where it writes no integer
    left : (t : Target) (mode : Sharing) (i : ℕ) (s : Ties) (table : ℕ → Ties) (pc : ℕ) → Fit s (table (pc + 1)) → Fit (M t mode i ++ s) (table (pc + 1))
    left t mode i s table pc fit = fit_through (M t mode i ++ s) s (table (pc + 1)) (in_right (M t mode i) s) fit

    cell_values : (i r : ℕ) (site : Site) (lvalue : Lvalue) (mode : Sharing) (b : Bool) (t : Target) → is_cell t ≡ true → (s : Ties) → Low i s → P (M t mode i ++ s) (cell_value_code c i r site lvalue mode b t) s
    cell_values i r site lvalue mode true t is s low = accessed i r site lvalue Use.Read mode t is s (Op.LoadRef (r + base_width t) _ _) (settle_base r t) (left t mode i s) (λ m h. h) (settles i r t s low)
    cell_values i r site lvalue mode false t is s low =
        accessed i r site lvalue Use.Read mode t is s (Op.Load i _ _) (drop_base r t) (λ table pc fit x y. let z = fit x y in (in_right (M t mode i) s x z, apart_low i i s low (omega arith) x z)) (λ m h. h) (drops i r t s low)

    values : (i r : ℕ) (site : Site) (lvalue : Lvalue) (mode : Sharing) (b : Bool) (t : Target) (s : Ties) → Low i s → P (M t mode i ++ s) (value_code c i r site lvalue mode b t) s
    values i r site lvalue mode b (variable x) s low = copies i r (register_of c.scope x) s low
    values i r site lvalue mode b k s low = cell_values i r site lvalue mode b k refl s low

    cell_takes : (i r : ℕ) (site : Site) (lvalue : Lvalue) (mode : Sharing) (form : Option ℕ → Use) (t : Target) → is_cell t ≡ true → (s : Ties) → Low i s → P (M t mode i ++ s) (cell_take_code c i r site lvalue mode form t) s
    cell_takes i r site lvalue mode form t is s low = accessed i r site lvalue (form None) mode t is s (Op.TakeCell (r + base_width t) _ _) (settle_base r t) (left t mode i s) (λ m h. h) (settles i r t s low)

    takes : (i r : ℕ) (site : Site) (lvalue : Lvalue) (mode : Sharing) (form : Option ℕ → Use) (t : Target) (s : Ties) → Low i s → P (M t mode i ++ s) (take_code c i r site lvalue mode form t) s
    takes i r site lvalue mode form (variable x) s low = quiet s (Op.TakeLocal r _ _) (λ table pc f. f) (λ m. tt)
    takes i r site lvalue mode form k s low = cell_takes i r site lvalue mode form k refl s low

    cell_stores : (i r vi vr : ℕ) (site : Site) (lvalue : Lvalue) (mode : Sharing) (b : Bool) (t : Target) → is_cell t ≡ true → (s : Ties) → Low i s → P (M t mode i ++ s) (cell_store_code c i r vi vr site lvalue mode b t) s
    cell_stores i r vi vr site lvalue mode true t is s low = accessed i r site lvalue Use.Write mode t is s (Op.StoreRef vr _ _) (drop_base r t) (left t mode i s) (λ m h. h) (drops i r t s low)
    cell_stores i r vi vr site lvalue mode false t is s low = accessed i r site lvalue Use.Write mode t is s (Op.Store vi _ _) (drop_base r t) (left t mode i s) (λ m h. h) (drops i r t s low)

    -- a store into a variable leaves nothing known
    pub stores : (i r vi vr : ℕ) (site : Site) (lvalue : Lvalue) (mode : Sharing) (b : Bool) (t : Target) → P (M t mode i ++ []) (store_code c i r vi vr site lvalue mode b t) []
    stores i r vi vr site lvalue mode b (variable x) = by (register_of c.scope x)
      where
        by : (y : Register) → P [] (settle_code vi vr y) []
        by (Int k) = one [] (Op.Move k vi) [] (λ table pc d fit. record { next = λ x y. absurd (fit x y); stands = λ m h. tt })
        by (Reference k) = quiet [] (Op.Settle k vr) (λ table pc f. f) (λ m. tt)
    stores i r vi vr site lvalue mode b k = cell_stores i r vi vr site lvalue mode b k refl [] (λ x y. absurd y)

    -- ---- an index
    second_ties : (Option ℕ) → ℕ → ℕ → (ℕ → ℕ) → Ties
    second_ties None i n off = []
    second_ties (Some mutex) i n off = beside i (off n) (off mutex) ∷ []

    bounded : (s : Ties) (i n cells : ℕ) (off : ℕ → ℕ) (bounds : ℕ → ℕ → Op) (guard : Option ℕ) → Low i s → ((table : ℕ → Ties) (pc : ℕ) (s : Ties) (j k : ℕ) → Bounded s j cells (off k) (table (pc + 1)) → Next flat table pc s (bounds j k))
        → ((m : At) (j k : ℕ) → LockStands flat m (bounds j k)) → P s (bounds_code bounds i n guard) (second_ties guard i n off ++ s)
    unfolding second_ties
    bounded s i n cells off bounds None low need free = one s (bounds i n) s (λ table pc d fit. record { next = need table pc s i n (λ x y. inl (kept_low i i s s (table (pc + 1)) low (omega arith) (fit_same s) fit x y)); stands = λ m h. free m i n })
    bounded s i n cells off bounds (Some mutex) low need free =
        let A = copied i ∷ s in
        let B = scaled i cells (off n) ∷ s in
        let C = beside i (off n) (off mutex) ∷ s in
        then_do s A C (Op.Move (i + 1) i ∷ []) (bounds i n ∷ bounds (i + 1) mutex ∷ [])
        (one s (Op.Move (i + 1) i) A (λ table pc d fit. record { next = λ x y. ⊎_elim (λ e. inr (sym e, refl)) (λ h. inl (h, apart_low i (i + 1) s low (omega arith) x h)) (fit x y); stands = λ m h. tt }))
        (then_do A B C (bounds i n ∷ []) (bounds (i + 1) mutex ∷ [])
        (one A (bounds i n) B (λ table pc d fit. record {
          next = need table pc A i n (λ x y. ⊎_elim (λ e. inr (inl (sym e, inl refl))) (λ h. inl (inr h, apart_low i i s low (omega arith) x h)) (fit x y));
          stands = λ m h. free m i n;
        }))
        (one B (bounds (i + 1) mutex) C (λ table pc d fit. record {
          next = need table pc B (i + 1) mutex (λ x y. ⊎_elim (λ e. inr (inr (record { before = i; field = off n; is = sym e; after = refl; known = inl refl }))) (λ h. inl (inr h, apart_low i (i + 1) s low (omega arith) x h)) (fit x y));
          stands = λ m h. free m (i + 1) mutex;
        })))

    index_by : (b : Bool) (s : Ties) (i r : ℕ) (x : Target) (y : Target) (guard : Option ℕ) (A B : Ties) (xs ys zs ws : List Op) (number : ℕ → List Op) (o : Op) → Low i s → A ≡ T x guard i → B ≡ T y guard i → R i xs → R i ys → ((d : ℕ) → R i (number d)) → R i (o ∷ []) → P s zs (A ++ s)
        → P s ws (B ++ s) → P s (cond b (xs ++ (number r ++ zs)) (ys ++ (o ∷ (number (r + 1) ++ ws)))) (T (cond b x y) guard i ++ s)
    index_by true s i r x y guard A B xs ys zs ws number o low a b p q n k z w = then_do s s (T x guard i ++ s) xs _ (p s low) (then_do s s (T x guard i ++ s) (number r) zs (n r s low) (subst (λ u. P s zs (u ++ s)) a z))
    index_by false s i r x y guard A B xs ys zs ws number o low a b p q n k z w =
        then_do s s (T y guard i ++ s) ys _ (q s low) (then_do s s (T y guard i ++ s) (o ∷ []) _ (k s low) (then_do s s (T y guard i ++ s) (number (r + 1)) ws (n (r + 1) s low) (subst (λ u. P s ws (u ++ s)) b w)))

    global_ties : (g n : ℕ) (guard : Option ℕ) (i : ℕ) → second_ties guard i n (λ k. first_cell c.globals g + k) ≡ T (in_global_at g n) guard i
    unfolding second_ties
    global_ties g n None i = refl
    global_ties g n (Some mutex) i = refl

    object_ties : (n : ℕ) (guard : Option ℕ) (i : ℕ) → second_ties guard i n (λ k. k) ≡ T (in_object_at n) guard i
    unfolding second_ties
    object_ties n None i = refl
    object_ties n (Some mutex) i = refl

    indexes : (s : Ties) (i r : ℕ) (site : Site) (f2 guard : Option ℕ) (a : Expression) (xs ys : List Op) (number : ℕ → List Op) → Low i s → R i xs → R i ys → ((d : ℕ) → R i (number d))
        → P s (index_code c i r site f2 guard a xs ys number) (T (cond (is_array (kind_at c.program.typed a)) (in_global_at (global_of (target c.program.typed None a)) (own_field f2 0)) (in_object_at (own_field f2 0))) guard i ++ s)
    indexes s i r site f2 guard a xs ys number low p q n =
        let g = global_of (target c.program.typed None a) in
        let cells = element_cells c.program.typed (element_kind (kind_at c.program.typed a)) in
        let of_array : ℕ → ℕ → Op = λ i n. Op.GlobalBounds i (global_elements (global_at c.program.typed g)) cells (first_cell c.globals g + n) (at_site site) in
        let of_pointer : ℕ → ℕ → Op = λ i n. Op.Bounds i r cells n (at_site site) in
        let k = own_field f2 0 in
        index_by (is_array (kind_at c.program.typed a)) s i r (in_global_at g k) (in_object_at k) guard (second_ties guard i k (λ z. first_cell c.globals g + z)) (second_ties guard i k (λ z. z)) xs ys (bounds_code of_array i k guard) (bounds_code of_pointer i k guard) number
        (Op.ChkNull r (at_site site)) low (global_ties g k guard i) (object_ties k guard i) p q n (plain i (Op.ChkNull r (at_site site)) (λ table pc s f. f) (λ m. tt))
        (bounded s i k cells (λ z. first_cell c.globals g + z) of_array guard low (λ table pc s j k h. h) (λ m j k. tt)) (bounded s i k cells (λ z. z) of_pointer guard low (λ table pc s j k h. h) (λ m j k. tt))

    names : (i r : ℕ) (site : Site) (lvalue : Lvalue) (mode : Sharing) (b : Bool) (n : Named) → R i (named_code c i r site lvalue mode b n)
    names i r site lvalue mode b (Named.Variable x) = λ s low. values i r site lvalue mode b (variable x) s low
    names i r site lvalue mode b (Named.Global x) = λ s low. values i r site lvalue mode b (in_global x 0) s low
    names i r site lvalue mode b _ = none i

    unlocked : (i r : ℕ) (t : Target) → R i (unlocked_code r t)
    unlocked i r t = choose_r i (has_base t) (Op.Pop (r + 1) ∷ Op.Pop r ∷ []) [] (both i (Op.Pop (r + 1) ∷ []) (Op.Pop r ∷ []) (pops i (r + 1)) (pops i r)) (none i)

    place_calls : (i r : ℕ) (s1 : Span) (w : PlaceCall) (a : Expression) (xs : List Op) → ((s : Ties) → Low i s → P s xs (T (target_of c a) (taken_guard c w a) i ++ s)) → R i (place_call_code c i r s1 w a xs)
    place_calls i r s1 Lock a xs p = λ s low.
        then_do s s s xs _ (forget s (T (target_of c a) None i) s xs (p s low))
        (q1 i (Op.ChkNotHeld _ _) _ (plain i (Op.ChkNotHeld _ _) (λ table pc s f. f) (λ m. tt)) (q1 i (Op.ChkRoom _) _ (plain i (Op.ChkRoom _) (λ table pc s f. f) (λ m. tt)) (plain i (Op.Lock _ _) (λ table pc s f. f) (λ m. tt))) s low)
    place_calls i r s1 Unlock a xs p = λ s low.
        then_do s s s xs _ (forget s (T (target_of c a) None i) s xs (p s low))
        (q1 i (Op.ChkHeld _ _) _ (plain i (Op.ChkHeld _ _) (λ table pc s f. f) (λ m. tt)) (q1 i (Op.Unlock _ _ _) _ (plain i (Op.Unlock _ _ _) (λ table pc s f. f) (λ m. tt)) (unlocked i r (target_of c a))) s low)
    place_calls i r s1 Free a xs p = λ s low.
        let A = T (target_of c a) (guard_of c a) i in
        then_do s (A ++ s) s xs _ (p s low)
        (then_do (A ++ s) s s (take_code c i r (span_of a).first (lvalue_in c a) (mode_of c a) Use.Free (target_of c a)) _ (takes i r (span_of a).first (lvalue_in c a) (mode_of c a) Use.Free (target_of c a) s low)
        (over_null s r (Op.Free r _ _) (plain i (Op.Free r _ _) (λ table pc s f. f) (λ m. tt) s low)))

    casts : (i r : ℕ) (s1 : Span) (a : Expression) (xs : List Op) → ((s : Ties) → Low i s → P s xs (T (target_of c a) (guard_of c a) i ++ s)) → R i (cast_code c i r s1 a xs)
    casts i r s1 a xs p = λ s low.
        let A = T (target_of c a) (guard_of c a) i in
        then_do s (A ++ s) s xs _ (p s low)
        (then_do (A ++ s) s s (take_code c i r (span_of a).first (lvalue_in c a) (mode_of c a) Use.Cast (target_of c a)) _ (takes i r (span_of a).first (lvalue_in c a) (mode_of c a) Use.Cast (target_of c a) s low)
        (over_null s r (Op.Give r _ _) (plain i (Op.Give r _ _) (λ table pc s f. f) (λ m. tt) s low)))

    field_in : (s : Ties) (i r : ℕ) (site : Site) (f2 guard : Option ℕ) (s1 : Span) (a : Expression) (w : FieldOperator) (n : Identifier) (place : Option ℕ → List Op) (pointer : List Op) → ((z : Option ℕ) → P s (place z) (T (target c.program.typed z a) guard i ++ s)) → P s pointer s
        → P s (field_code c r site f2 w n place pointer) (T (target c.program.typed f2 (field s1 a w n)) guard i ++ s)
    field_in s i r site f2 guard s1 a Dot n place pointer px py = px (Some (own_field f2 (field_place_named c.program.typed (what_names c n.site.token))))
    field_in s i r site f2 guard s1 a Arrow n place pointer px py = then_do s s s pointer (Op.ChkNull r (at_site site) ∷ []) py (quiet s (Op.ChkNull r (at_site site)) (λ table pc f. f) (λ m. tt))

    later : (b : Bool) (i : ℕ) → i ≤ behind_int b i
    later true i = omega arith
    later false i = omega arith

    -- ---- the whole
    mutual
      pub expressions : (i r : ℕ) (e : Expression) → R i (expression_code c i r e)
      expressions i r (identifier s1 x) = enters i _ (names i r x.site (lvalue_in c (identifier s1 x)) (mode_of c (identifier s1 x)) (is_ref c (identifier s1 x)) (what_names c x.site.token))
      expressions i r (constant s1 k) = enters i _ (choose_r i (is_ref c (constant s1 k)) (Op.Null r ∷ []) (Op.Constant i _ ∷ []) (plain i (Op.Null r) (λ table pc s f. f) (λ m. tt)) (sets i i (Op.Constant i _) (omega arith) (λ table pc s k. k) (λ m. tt)))
      expressions i r (parentheses s1 a) = enters i (expression_code c i r a) (expressions i r a)
      expressions i r (call s1 x all) =
          enters i _ (both i (arguments_code c i r (declared_kinds (parameters_named c.program.typed (what_names c x.site.token))) all) _ (arguments i r (declared_kinds (parameters_named c.program.typed (what_names c x.site.token))) all)
          (calls i r (at_site s1.first) (what_names c x.site.token) x.text all))
      expressions i r (spawn s1 x a) =
          enters i _ (both i (expression_code c i r a) _ (expressions i r a)
          (both i (passed_code i (declared_kinds (parameters_named c.program.typed (what_names c x.site.token))) (span_of a).first) _ (passes i i (declared_kinds (parameters_named c.program.typed (what_names c x.site.token))) (span_of a).first)
          (spawns (is_ref c a) i r (number_named (what_names c x.site.token)) (at_site s1.first))))
      expressions i r (on_value s1 w a) = enters i _ (both i (expression_code c i r a) _ (expressions i r a) (values_called w i (at_site s1.first)))
      expressions i r (on_place s1 w a) = enters i _ (place_calls i r s1 w a (place_code c i r (span_of a).first None (taken_guard c w a) a) (λ s low. places s i r (span_of a).first None (taken_guard c w a) a low))
      expressions i r (cast s1 t a) = enters i _ (casts i r s1 a (place_code c i r (span_of a).first None (guard_of c a) a) (λ s low. places s i r (span_of a).first None (guard_of c a) a low))
      expressions i r (index s1 a n) = λ s low.
          let e = index s1 a n in
          let A = T (target_of c e) (guard_of c e) i in
          enters_to s s _
          (then_do s (A ++ s) s (index_code c i r s1.first None (guard_of c e) a (place_code c i r s1.first None None a) (expression_code c i r a) (λ d. expression_code c i d n)) _
          (indexes s i r s1.first None (guard_of c e) a (place_code c i r s1.first None None a) (expression_code c i r a) (λ d. expression_code c i d n) low
          (λ s low. forget s (T (target c.program.typed None a) None i) s (place_code c i r s1.first None None a) (places s i r s1.first None None a low)) (expressions i r a) (λ d. expressions i d n))
          (values i r s1.first (lvalue_in c e) (mode_of c e) (is_ref c e) (target_of c e) s low))
      expressions i r (field s1 a w n) = λ s low.
          let e = field s1 a w n in
          let A = T (target_of c e) (guard_of c e) i in
          enters_to s s _
          (then_do s (A ++ s) s (field_code c r s1.first None w n (λ z. place_code c i r s1.first z (guard_of c e) a) (expression_code c i r a)) _
          (field_in s i r s1.first None (guard_of c e) s1 a w n (λ z. place_code c i r s1.first z (guard_of c e) a) (expression_code c i r a) (λ z. places s i r s1.first z (guard_of c e) a low) (expressions i r a s low))
          (values i r s1.first (lvalue_in c e) (mode_of c e) (is_ref c e) (target_of c e) s low))
      expressions i r (unary s1 Negate a) = enters i _ (both i (expression_code c i r a) _ (expressions i r a) (sets i i (Op.Negate _ i i _) (omega arith) (λ table pc s k. k) (λ m. tt)))
      expressions i r (unary s1 Not a) = enters i _ (both i (expression_code c i r a) _ (expressions i r a) (both i (truth_code (is_ref c a) i r) (Op.IsFalse i i ∷ []) (truths (is_ref c a) i r) (falses i)))
      expressions i r (unary s1 Complement a) = enters i _ (both i (expression_code c i r a) _ (expressions i r a) (sets i i (Op.Complement i i) (omega arith) (λ table pc s k. k) (λ m. tt)))
      expressions i r (unary s1 Dereference a) =
          let e = unary s1 Dereference a in
          enters i _ (both i (pointee_code r s1.first (expression_code c i r a)) _ (pointees i r s1.first (expression_code c i r a) (expressions i r a)) (λ s low. values i r s1.first (lvalue_in c e) (mode_of c e) (is_ref c e) (target_of c e) s low))
      expressions i r (binary s1 o site a b) = enters i _ (binaries c i r site o a b (expression_code c i r a) (λ i2 r2. expression_code c i2 r2 b) (expressions i r a) (λ j r2. expressions j r2 b))

      arguments : (i r : ℕ) (ks : List Kind) (all : Arguments) → R i (arguments_code c i r ks all)
      arguments i r ks no_arguments = none i
      arguments i r ks (argument a rest) =
          let j = behind_int (is_ref c a) i in
          both i (expression_code c i r a) _ (expressions i r a)
          (both i (passed_code i ks (span_of a).first) _ (passes i i ks (span_of a).first) (up i j (arguments_code c j (behind_ref (is_ref c a) r) (drop 1 ks) rest) (later (is_ref c a) i) (arguments j (behind_ref (is_ref c a) r) (drop 1 ks) rest)))

      pub places : (s : Ties) (i r : ℕ) (site : Site) (f2 guard : Option ℕ) (e : Expression) → Low i s → P s (place_code c i r site f2 guard e) (T (target c.program.typed f2 e) guard i ++ s)
      places s i r site f2 guard (identifier s1 x) low =
          enters_to s (T (target c.program.typed f2 (identifier s1 x)) guard i ++ s) []
          (subst (λ u. P s [] (u ++ s)) (sym (named_plain c.globals (named_at c.program.typed x.site.token) (own_field f2 0) guard i)) (empty s))
      places s i r site f2 guard (parentheses s1 a) low = enters_to s (T (target c.program.typed f2 a) guard i ++ s) (place_code c i r site f2 guard a) (places s i r site f2 guard a low)
      places s i r site f2 guard (index s1 a n) low =
          enters_to s (T (target c.program.typed f2 (index s1 a n)) guard i ++ s) _
          (indexes s i r site f2 guard a (place_code c i r site None None a) (expression_code c i r a) (λ d. expression_code c i d n) low
          (λ s low. forget s (T (target c.program.typed None a) None i) s (place_code c i r site None None a) (places s i r site None None a low)) (expressions i r a) (λ d. expressions i d n))
      places s i r site f2 guard (field s1 a w n) low =
          enters_to s (T (target c.program.typed f2 (field s1 a w n)) guard i ++ s) _
          (field_in s i r site f2 guard s1 a w n (λ z. place_code c i r site z guard a) (expression_code c i r a) (λ z. places s i r site z guard a low) (expressions i r a s low))
      places s i r site f2 guard (unary s1 Dereference a) low = enters_to s s _ (pointees i r site (expression_code c i r a) (expressions i r a) s low)
      places s i r site f2 guard _ low = enters_to s s [] (empty s)
