-- Forward jumps of the code of an expression stay in it, or lead directly after it, and it has no other jumps.
use Rattle.sharc_flat.proofs.Imports.{◌≡◌, ℕ, ◌+◌, ◌≤◌, Bool, true, false, cond, List, [], ◌∷◌, ◌++◌, length, drop, Option, Some, None, refl, arith, length-append, codes, ◌||◌, bytes_eq, Site, Span, Identifier, FieldOperator, Dot, Arrow, BinaryOperator, LogicalOr, LogicalAnd, Equal, NotEqual, Less, Greater, LessOrEqual, GreaterOrEqual, ShiftLeft, ShiftRight, PlaceCall, Lock, Unlock, Free, UnaryOperator, Negate, Not, Complement, Dereference, ValueCall, Join, Print, span_of, Expression, identifier, constant, parentheses, call, spawn, on_value, on_place, cast, index, field, unary, binary, Arguments, no_arguments, argument, Named, int, long, is_long, promoted, common, Kind, is_array, is_integer, element_kind, declared_kinds, Width, Use, Register, Int, Reference, kind_at, global_at, Resolution, named_at, parameters_named, Sharing, element_cells, field_place_named, global_elements, number_named, Op, Spot, first_cell, Either, Lvalue, Context, register_of, at_site, width_of, Target, in_global, target, own_field, has_base, global_of, guard_field, guard_code, drop_base, settle_base, copy_code, cell_value_code, value_code, cell_take_code, take_code, bounds_code, index_code, pointee_code, width_code, kind_of, is_ref, target_of, mode_of, what_names, constant_code, named_code, drop_code, truth_code, differ_code, compare_code, logical_code, either_code, unary_code, binary_code, behind_int, behind_ref, wait_code, condition_code, called_code, passed_code, spawn_code, value_call_code, unlocked_code, place_call_code, cast_code, guard_of, taken_guard, field_code, unary_place_code, lvalue_code, expression_code, arguments_code, place_code, lvalue_in, with_words, argument_words}
use Rattle.sharc_flat.specs.Places.{variable}

-- nothing is computed in a `char`
abbrev pub Wide : Width → Type 0
Wide Width.Char = ⊥
Wide _ = Unit {0}

wide_by : (b : Bool) → Wide (width_of (cond b long int))
wide_by true = tt
wide_by false = tt

wide_promoted : (kind : Kind) → Wide (width_of (promoted kind))
wide_promoted kind = wide_by (is_long kind)

wide_common : (a b : Kind) → Wide (width_of (common a b))
wide_common a b = wide_by (is_long a || is_long b)

-- ---- which functions the calls in an expression name
abbrev pub KnownName : (ℕ → Type 0) → Named → Type 0
KnownName F (Named.Function f) = F f
KnownName F _ = Unit {0}

abbrev pub ByAccess : FieldOperator → Type 0 → Type 0 → Type 0
ByAccess Dot A B = A
ByAccess Arrow A B = B

abbrev mutual
  pub Knows : (ℕ → Type 0) → Resolution → Expression → Type 0
  Knows F r (parentheses s a) = Knows F r a
  Knows F r (call s f all) = KnownName F (named_at r f.site.token) × KnowsAll F r all
  Knows F r (spawn s f a) = Knows F r a
  Knows F r (on_value s w a) = Knows F r a
  Knows F r (on_place s w a) = KnowsPlace F r a
  Knows F r (cast s t a) = KnowsPlace F r a
  Knows F r (index s a n) = Either (is_array (kind_at r a)) (KnowsPlace F r a) (Knows F r a) × Knows F r n
  Knows F r (field s a w n) = ByAccess w (KnowsPlace F r a) (Knows F r a)
  Knows F r (unary s o a) = Knows F r a
  Knows F r (binary s o at a b) = Knows F r a × Knows F r b
  Knows F r _ = Unit {0}

  pub KnowsAll : (ℕ → Type 0) → Resolution → Arguments → Type 0
  KnowsAll F r no_arguments = Unit {0}
  KnowsAll F r (argument a rest) = Knows F r a × KnowsAll F r rest

  -- as a place that is found
  pub KnowsPlace : (ℕ → Type 0) → Resolution → Expression → Type 0
  KnowsPlace F r (parentheses s a) = KnowsPlace F r a
  KnowsPlace F r (index s a n) = Either (is_array (kind_at r a)) (KnowsPlace F r a) (Knows F r a) × Knows F r n
  KnowsPlace F r (field s a w n) = ByAccess w (KnowsPlace F r a) (Knows F r a)
  KnowsPlace F r (unary s Dereference a) = Knows F r a
  KnowsPlace F r _ = Unit {0}

pub either_map : {A B C D : Type 0} (b : Bool) → (A → C) → (B → D) → Either b A B → Either b C D
either_map true f g h = f h
either_map false f g h = g h

access_map : {A B C D : Type 0} (w : FieldOperator) → (A → C) → (B → D) → ByAccess w A B → ByAccess w C D
access_map Dot f g h = f h
access_map Arrow f g h = g h

module _ (A F : ℕ → Type 0) where
  -- an operation with this many after it: a jump leads over them at most, or to one of these places
  abbrev pub OpStays : ℕ → Op → Type 0
  OpStays rest (Op.Skip k) = k ≤ rest
  OpStays rest (Op.SkipIfZero i k) = k ≤ rest
  OpStays rest (Op.SkipIfNull r k) = k ≤ rest
  OpStays rest (Op.Jump to) = A to
  OpStays rest (Op.Compute width o i a b spot) = Wide width
  OpStays rest (Op.Negate width i a spot) = Wide width
  OpStays rest (Op.Call f i r spot) = F f
  OpStays rest (Op.Settle x from) = x ≡ from → ⊥
  OpStays rest _ = Unit {0}

  abbrev pub Stays : List Op → Type 0
  Stays [] = Unit {0}
  Stays (o ∷ os) = OpStays (length os) o × Stays os

  longer : (o : Op) (m n : ℕ) → m ≤ n → OpStays m o → OpStays n o
  longer (Op.Compute a b c d e f) m n le h = h
  longer (Op.Negate a b c d) m n le h = h
  longer (Op.Skip a) m n le h = omega arith
  longer (Op.SkipIfZero a b) m n le h = omega arith
  longer (Op.SkipIfNull a b) m n le h = omega arith
  longer (Op.Jump a) m n le h = h
  longer (Op.Call a b c d) m n le h = h
  longer (Op.Settle a b) m n le h = h
  longer _ m n le h = tt

  pub joins : (xs ys : List Op) → Stays xs → Stays ys → Stays (xs ++ ys)
  joins [] ys a b = b
  joins (o ∷ os) ys a b = (longer o (length os) (length (os ++ ys)) (omega (arith, length-append os ys)) a.0, joins os ys a.1 b)

  pub choose : (b : Bool) (xs ys : List Op) → Stays xs → Stays ys → Stays (cond b xs ys)
  choose true xs ys a b = a
  choose false xs ys a b = b

  module _ (c : Context) where
    pub guards : (i r : ℕ) (site : Site) (lvalue : Lvalue) (t : Target) (g : Option ℕ) → Stays (guard_code c i r site lvalue t g)
    guards i r site lvalue t None = tt
    guards i r site lvalue t (Some mutex) = (tt, tt)

    pub drops_base : (r : ℕ) (t : Target) → Stays (drop_base r t)
    drops_base r t = choose (has_base t) (Op.Pop r ∷ []) [] (tt, tt) tt

    settles_base : (r : ℕ) (t : Target) → Stays (settle_base r t)
    settles_base r t = choose (has_base t) (Op.Settle r (r + 1) ∷ []) [] ((λ e. absurd (omega arith)), tt) tt

    copies : (i r : ℕ) (x : Register) → Stays (copy_code i r x)
    copies i r (Int x) = (tt, tt)
    copies i r (Reference x) = (tt, tt)

    cell_values : (i r : ℕ) (site : Site) (lvalue : Lvalue) (mode : Sharing) (b : Bool) (t : Target) → Stays (cell_value_code c i r site lvalue mode b t)
    cell_values i r site lvalue mode true t = joins (guard_code c i r site lvalue t (guard_field c.program.typed mode)) _ (guards i r site lvalue t (guard_field c.program.typed mode)) (tt, settles_base r t)
    cell_values i r site lvalue mode false t = joins (guard_code c i r site lvalue t (guard_field c.program.typed mode)) _ (guards i r site lvalue t (guard_field c.program.typed mode)) (tt, drops_base r t)

    values : (i r : ℕ) (site : Site) (lvalue : Lvalue) (mode : Sharing) (b : Bool) (t : Target) → Stays (value_code c i r site lvalue mode b t)
    values i r site lvalue mode b (variable x) = copies i r (register_of c.scope x)
    values i r site lvalue mode b k = cell_values i r site lvalue mode b k

    cell_takes : (i r : ℕ) (site : Site) (lvalue : Lvalue) (mode : Sharing) (form : Option ℕ → Use) (t : Target) → Stays (cell_take_code c i r site lvalue mode form t)
    cell_takes i r site lvalue mode form t = joins (guard_code c i r site lvalue t (guard_field c.program.typed mode)) _ (guards i r site lvalue t (guard_field c.program.typed mode)) (tt, settles_base r t)

    takes : (i r : ℕ) (site : Site) (lvalue : Lvalue) (mode : Sharing) (form : Option ℕ → Use) (t : Target) → Stays (take_code c i r site lvalue mode form t)
    takes i r site lvalue mode form (variable x) = (tt, tt)
    takes i r site lvalue mode form k = cell_takes i r site lvalue mode form k

    pub widths_stay : (i : ℕ) (kind : Kind) (site : Site) → Stays (width_code i kind site)
    widths_stay i kind site = choose (is_integer kind) _ [] (tt, tt) tt

    names : (i r : ℕ) (site : Site) (lvalue : Lvalue) (mode : Sharing) (b : Bool) (n : Named) → Stays (named_code c i r site lvalue mode b n)
    names i r site lvalue mode b (Named.Variable x) = values i r site lvalue mode b (variable x)
    names i r site lvalue mode b (Named.Global g) = values i r site lvalue mode b (in_global g 0)
    names i r site lvalue mode b _ = tt

    pub truths_stay : (b : Bool) (i r : ℕ) → Stays (truth_code b i r)
    truths_stay true i r = (tt, (tt, (tt, (tt, tt))))
    truths_stay false i r = tt

    differs : (o : BinaryOperator) (i : ℕ) → Stays (differ_code o i)
    differs NotEqual i = (tt, tt)
    differs _ i = tt

    compares : (o : BinaryOperator) (i r : ℕ) → Stays (compare_code o i r)
    compares o i r = (tt, joins (differ_code o i) (Op.Pop r ∷ Op.Pop (r + 1) ∷ []) (differs o i) (tt, (tt, tt)))

    logicals : (i : ℕ) (xs ys : List Op) → Stays xs → Stays ys → Stays (logical_code i xs ys)
    logicals i xs ys a b = joins xs _ a (omega (arith, length-append ys (Op.IsFalse i i ∷ Op.IsFalse i i ∷ [])), joins ys (Op.IsFalse i i ∷ Op.IsFalse i i ∷ []) b (tt, (tt, tt)))

    eithers : (i : ℕ) (xs ys : List Op) → Stays xs → Stays ys → Stays (either_code i xs ys)
    eithers i xs ys a b = joins xs _ a (tt, (omega (arith, length-append ys (Op.IsFalse i i ∷ Op.IsFalse i i ∷ [])), joins ys (Op.IsFalse i i ∷ Op.IsFalse i i ∷ []) b (tt, (tt, tt))))

    pointees : (r : ℕ) (site : Site) (xs : List Op) → Stays xs → Stays (pointee_code r site xs)
    pointees r site xs a = joins xs (Op.ChkNull r (at_site site) ∷ []) a (tt, tt)

    unaries : (i r : ℕ) (s : Span) (o : UnaryOperator) (a : Expression) (xs : List Op) → Stays xs → Stays (unary_code c i r s o a xs)
    unaries i r s Negate a xs h = joins xs _ h (wide_promoted (kind_of c a), tt)
    unaries i r s Not a xs h = joins xs _ h (joins (truth_code (is_ref c a) i r) (Op.IsFalse i i ∷ []) (truths_stay (is_ref c a) i r) (tt, tt))
    unaries i r s Complement a xs h = joins xs _ h (tt, tt)
    unaries i r s Dereference a xs h = joins (pointee_code r s.first xs) _ (pointees r s.first xs h) (values i r s.first (lvalue_in c (unary s Dereference a)) (mode_of c (unary s Dereference a)) (is_ref c (unary s Dereference a)) (target_of c (unary s Dereference a)))

    plain_binary : (i r : ℕ) (at : Site) (o : BinaryOperator) (a b : Expression) (xs : List Op) (ys : ℕ → ℕ → List Op) (last : Op) → Stays (last ∷ []) → Stays xs → ((i r : ℕ) → Stays (ys i r))
        → Stays (xs ++ (ys (behind_int (is_ref c a) i) (behind_ref (is_ref c a) r) ++ cond (is_ref c a) (compare_code o i r) (last ∷ [])))
    plain_binary i r at o a b xs ys last l h k = joins xs _ h (joins (ys (behind_int (is_ref c a) i) (behind_ref (is_ref c a) r)) _ (k _ _) (choose (is_ref c a) (compare_code o i r) (last ∷ []) (compares o i r) l))

    binaries : (i r : ℕ) (at : Site) (o : BinaryOperator) (a b : Expression) (xs : List Op) (ys : ℕ → ℕ → List Op) → Stays xs → ((i r : ℕ) → Stays (ys i r)) → Stays (binary_code c i r at o a b xs ys)
    binaries i r at LogicalAnd a b xs ys h k = logicals i (xs ++ truth_code (is_ref c a) i r) (ys i r ++ truth_code (is_ref c b) i r) (joins xs _ h (truths_stay (is_ref c a) i r)) (joins (ys i r) _ (k i r) (truths_stay (is_ref c b) i r))
    binaries i r at LogicalOr a b xs ys h k = eithers i (xs ++ truth_code (is_ref c a) i r) (ys i r ++ truth_code (is_ref c b) i r) (joins xs _ h (truths_stay (is_ref c a) i r)) (joins (ys i r) _ (k i r) (truths_stay (is_ref c b) i r))
    binaries i r at Equal a b xs ys h k = plain_binary i r at Equal a b xs ys _ (tt, tt) h k
    binaries i r at NotEqual a b xs ys h k = plain_binary i r at NotEqual a b xs ys _ (tt, tt) h k
    binaries i r at Less a b xs ys h k = plain_binary i r at Less a b xs ys _ (tt, tt) h k
    binaries i r at Greater a b xs ys h k = plain_binary i r at Greater a b xs ys _ (tt, tt) h k
    binaries i r at LessOrEqual a b xs ys h k = plain_binary i r at LessOrEqual a b xs ys _ (tt, tt) h k
    binaries i r at GreaterOrEqual a b xs ys h k = plain_binary i r at GreaterOrEqual a b xs ys _ (tt, tt) h k
    binaries i r at ShiftLeft a b xs ys h k = plain_binary i r at ShiftLeft a b xs ys _ (wide_promoted (kind_of c a), tt) h k
    binaries i r at ShiftRight a b xs ys h k = plain_binary i r at ShiftRight a b xs ys _ (wide_promoted (kind_of c a), tt) h k
    binaries i r at j a b xs ys h k = plain_binary i r at j a b xs ys _ (wide_common (kind_of c a) (kind_of c b), tt) h k

    waits : (r : ℕ) (spot a b : Spot) → Stays (wait_code r spot a b)
    waits r spot a b = (tt, (tt, (tt, (tt, (tt, (tt, (tt, (tt, (tt, tt)))))))))

    conditions : (r : ℕ) (spot : Spot) (name : List ℕ) (all : Arguments) → Stays (condition_code r spot name all)
    conditions r spot name all = choose (bytes_eq name (codes "wait")) (wait_code r spot (with_words spot (argument_words 0 all)) (with_words spot (argument_words 1 all))) _ (waits r spot (with_words spot (argument_words 0 all)) (with_words spot (argument_words 1 all))) (choose (bytes_eq name (codes "signal")) _ _ (tt, (tt, (tt, tt))) (tt, (tt, (tt, tt))))

    calls_stay : (i r : ℕ) (spot : Spot) (n : Named) (name : List ℕ) (all : Arguments) → KnownName F n → Stays (called_code i r spot n name all)
    calls_stay i r spot (Named.Function f) name all h = (h, tt)
    calls_stay i r spot Named.Known name all h = conditions r spot name all
    calls_stay i r spot _ name all h = tt

    passes_stay : (i : ℕ) (kinds : List Kind) (site : Site) → Stays (passed_code i kinds site)
    passes_stay i [] site = tt
    passes_stay i (kind ∷ rest) site = widths_stay i kind site

    value_calls : (w : ValueCall) (i : ℕ) (spot : Spot) → Stays (value_call_code w i spot)
    value_calls Join i spot = (tt, tt)
    value_calls Print i spot = (tt, tt)

    place_calls : (i r : ℕ) (s : Span) (w : PlaceCall) (a : Expression) (xs : List Op) → Stays xs → Stays (place_call_code c i r s w a xs)
    place_calls i r s Lock a xs h = joins xs _ h (tt, (tt, (tt, tt)))
    place_calls i r s Unlock a xs h = joins xs _ h (tt, (tt, choose (has_base (target_of c a)) (Op.Pop (r + 1) ∷ Op.Pop r ∷ []) [] (tt, (tt, tt)) tt))
    place_calls i r s Free a xs h = joins xs _ h (joins (take_code c i r (span_of a).first (lvalue_in c a) (mode_of c a) Use.Free (target_of c a)) _
        (takes i r (span_of a).first (lvalue_in c a) (mode_of c a) Use.Free (target_of c a)) (omega arith, (tt, tt)))

    casts : (i r : ℕ) (s : Span) (a : Expression) (xs : List Op) → Stays xs → Stays (cast_code c i r s a xs)
    casts i r s a xs h = joins xs _ h (joins (take_code c i r (span_of a).first (lvalue_in c a) (mode_of c a) Use.Cast (target_of c a)) _
        (takes i r (span_of a).first (lvalue_in c a) (mode_of c a) Use.Cast (target_of c a)) (omega arith, (tt, tt)))

    bounded : (bounds : ℕ → ℕ → Op) (i n : ℕ) (guard : Option ℕ) → ((i n k : ℕ) → OpStays k (bounds i n)) → Stays (bounds_code bounds i n guard)
    bounded bounds i n None h = (h i n 0, tt)
    bounded bounds i n (Some mutex) h = (tt, (h i n 1, (h (i + 1) mutex 0, tt)))

    indexes_by : (b : Bool) (r : ℕ) (xs ys zs ws : List Op) (number : ℕ → List Op) (o : Op) → OpStays (length (number (r + 1) ++ ws)) o → Either b (Stays xs) (Stays ys) → ((d : ℕ) → Stays (number d)) → Stays zs → Stays ws
        → Stays (cond b (xs ++ (number r ++ zs)) (ys ++ (o ∷ (number (r + 1) ++ ws))))
    indexes_by true r xs ys zs ws number o k h n z w = joins xs _ h (joins (number r) zs (n r) z)
    indexes_by false r xs ys zs ws number o k h n z w = joins ys _ h (k, joins (number (r + 1)) ws (n (r + 1)) w)

    indexes : (i r : ℕ) (site : Site) (f guard : Option ℕ) (a : Expression) (xs ys : List Op) (number : ℕ → List Op) → Either (is_array (kind_at c.program.typed a)) (Stays xs) (Stays ys) → ((d : ℕ) → Stays (number d)) → Stays (index_code c i r site f guard a xs ys number)
    indexes i r site f guard a xs ys number h n =
        let of_array : ℕ → ℕ → Op = λ i n. Op.GlobalBounds i (global_elements (global_at c.program.typed (global_of (target c.program.typed None a)))) (element_cells c.program.typed (element_kind (kind_at c.program.typed a))) (first_cell c.globals (global_of (target c.program.typed None a)) + n) (at_site site) in
        let of_pointer : ℕ → ℕ → Op = λ i n. Op.Bounds i r (element_cells c.program.typed (element_kind (kind_at c.program.typed a))) n (at_site site) in
        indexes_by (is_array (kind_at c.program.typed a)) r xs ys (bounds_code of_array i (own_field f 0) guard) (bounds_code of_pointer i (own_field f 0) guard) number (Op.ChkNull r (at_site site)) tt h n
        (bounded of_array i (own_field f 0) guard (λ i n k. tt)) (bounded of_pointer i (own_field f 0) guard (λ i n k. tt))

    fields : (r : ℕ) (site : Site) (f : Option ℕ) (w : FieldOperator) (n : Identifier) (place : Option ℕ → List Op) (pointer : List Op) → ByAccess w ((g : Option ℕ) → Stays (place g)) (Stays pointer) → Stays (field_code c r site f w n place pointer)
    fields r site f Dot n place pointer h = h (Some (own_field f (field_place_named c.program.typed (what_names c n.site.token))))
    fields r site f Arrow n place pointer h = pointees r site pointer h

    unary_places : (r : ℕ) (site : Site) (o : UnaryOperator) (xs : List Op) → Stays xs → Stays (unary_place_code r site o xs)
    unary_places r site Dereference xs h = pointees r site xs h
    unary_places r site _ xs h = tt

    lvalues : (i r : ℕ) (e : Expression) → Stays (lvalue_code c i r e)
    lvalues i r e = values i r (span_of e).first (lvalue_in c e) (mode_of c e) (is_ref c e) (target_of c e)

    abbrev R : Resolution
    R = c.program.typed

    mutual
      pub expressions_stay : (i r : ℕ) (e : Expression) → Knows F R e → Stays (expression_code c i r e)
      expressions_stay i r (identifier s x) h = (tt, names i r x.site (lvalue_in c (identifier s x)) (mode_of c (identifier s x)) (is_ref c (identifier s x)) (what_names c x.site.token))
      expressions_stay i r (constant s k) h = (tt, choose (is_ref c (constant s k)) _ _ (tt, tt) (tt, tt))
      expressions_stay i r (parentheses s a) h = (tt, expressions_stay i r a h)
      expressions_stay i r (call s f all) h = (
        tt,
        joins (arguments_code c i r (declared_kinds (parameters_named c.program.typed (what_names c f.site.token))) all) _
            (arguments_stay i r (declared_kinds (parameters_named c.program.typed (what_names c f.site.token))) all h.1) (calls_stay i r (at_site s.first) (what_names c f.site.token) f.text all h.0),
      )
      expressions_stay i r (spawn s f a) h = (
        tt,
        joins (expression_code c i r a) _ (expressions_stay i r a h)
            (joins (passed_code i (declared_kinds (parameters_named c.program.typed (what_names c f.site.token))) (span_of a).first) _
            (passes_stay i (declared_kinds (parameters_named c.program.typed (what_names c f.site.token))) (span_of a).first) (tt, tt)),
      )
      expressions_stay i r (on_value s w a) h = (tt, joins (expression_code c i r a) _ (expressions_stay i r a h) (value_calls w i (at_site s.first)))
      expressions_stay i r (on_place s w a) h = (tt, place_calls i r s w a (place_code c i r (span_of a).first None (taken_guard c w a) a) (places_stay i r (span_of a).first None (taken_guard c w a) a h))
      expressions_stay i r (cast s t a) h = (tt, casts i r s a (place_code c i r (span_of a).first None (guard_of c a) a) (places_stay i r (span_of a).first None (guard_of c a) a h))
      expressions_stay i r (index s a n) h = (
        tt,
        joins (index_code c i r s.first None (guard_of c (index s a n)) a (place_code c i r s.first None None a) (expression_code c i r a) (λ d. expression_code c i d n)) _
            (indexes i r s.first None (guard_of c (index s a n)) a (place_code c i r s.first None None a) (expression_code c i r a) (λ d. expression_code c i d n)
            (either_map (is_array (kind_at R a)) (λ (k : KnowsPlace F R a). places_stay i r s.first None None a k) (λ (k : Knows F R a). expressions_stay i r a k) h.0) (λ d. expressions_stay i d n h.1))
            (lvalues i r (index s a n)),
      )
      expressions_stay i r (field s a w n) h = (
        tt,
        joins (field_code c r s.first None w n (λ f. place_code c i r s.first f (guard_of c (field s a w n)) a) (expression_code c i r a)) _
            (fields r s.first None w n (λ f. place_code c i r s.first f (guard_of c (field s a w n)) a) (expression_code c i r a)
            (access_map w (λ (k : KnowsPlace F R a) (g : Option ℕ). places_stay i r s.first g (guard_of c (field s a w n)) a k) (λ (k : Knows F R a). expressions_stay i r a k) h))
            (lvalues i r (field s a w n)),
      )
      expressions_stay i r (unary s o a) h = (tt, unaries i r s o a (expression_code c i r a) (expressions_stay i r a h))
      expressions_stay i r (binary s o at a b) h = (tt, binaries i r at o a b (expression_code c i r a) (λ i2 r2. expression_code c i2 r2 b) (expressions_stay i r a h.0) (λ i2 r2. expressions_stay i2 r2 b h.1))

      arguments_stay : (i r : ℕ) (kinds : List Kind) (all : Arguments) → KnowsAll F R all → Stays (arguments_code c i r kinds all)
      arguments_stay i r kinds no_arguments h = tt
      arguments_stay i r kinds (argument a rest) h = joins (expression_code c i r a) _ (expressions_stay i r a h.0)
          (joins (passed_code i kinds (span_of a).first) _ (passes_stay i kinds (span_of a).first) (arguments_stay (behind_int (is_ref c a) i) (behind_ref (is_ref c a) r) (drop 1 kinds) rest h.1))

      pub places_stay : (i r : ℕ) (site : Site) (f guard : Option ℕ) (e : Expression) → KnowsPlace F R e → Stays (place_code c i r site f guard e)
      places_stay i r site f guard (parentheses s a) h = (tt, places_stay i r site f guard a h)
      places_stay i r site f guard (index s a n) h = (
        tt,
        indexes i r site f guard a (place_code c i r site None None a) (expression_code c i r a) (λ d. expression_code c i d n)
            (either_map (is_array (kind_at R a)) (λ (k : KnowsPlace F R a). places_stay i r site None None a k) (λ (k : Knows F R a). expressions_stay i r a k) h.0) (λ d. expressions_stay i d n h.1),
      )
      places_stay i r site f guard (field s a w n) h = (
        tt,
        fields r site f w n (λ g. place_code c i r site g guard a) (expression_code c i r a)
            (access_map w (λ (k : KnowsPlace F R a) (g : Option ℕ). places_stay i r site g guard a k) (λ (k : Knows F R a). expressions_stay i r a k) h),
      )
      places_stay i r site f guard (unary s Dereference a) h = (tt, unary_places r site Dereference (expression_code c i r a) (expressions_stay i r a h))
      places_stay i r site f guard _ h = (tt, tt)
