-- What the code of a function spawns is what its expressions spawn, and it waits where it enters a condition.
use Rattle.sharc_flat_laws.proofs.Imports.{◌≡◌, ℕ, ◌+◌, Bool, true, false, cond, List, [], ◌∷◌, ◌++◌, length, drop, Option, Some, None, take, codes, AllByRecursion, refl, ap, Site, Span, Identifier, FieldOperator, Dot, Arrow, BinaryOperator, LogicalOr, LogicalAnd, NotEqual, PlaceCall, Unlock, Free, UnaryOperator, Not, Dereference, ValueCall, Join, Print, span_of, Expression, identifier, constant, parentheses, call, spawn, on_value, on_place, cast, index, field, unary, binary, Arguments, no_arguments, argument, Right, value, malloc, Simple, assign, does_call, Local, First, nothing, declares, does, Statement, empty, block, declare, simple, jump, return, if_then, if_then_else, while, for, Statements, no_statements, statement, Function, Declaration, Jump, Break, Continue, expressions, in_arguments, in_option, in_right, in_simple, in_local, in_first, in_statement, in_statements, expressions_in, Named, Kind, is_array, is_integer, element_kind, declared_kinds, declared_kind, Use, Register, Reference, GlobalCells, kind_at, global_at, Resolution, named_at, parameters_named, Sharing, private, pointed, Assignment, written, row_at, declared_row, element_cells, field_place_named, global_elements, number_named, is_reference, Op, Spot, first_cell, Lvalue, Context, register_of, at_site, ref_count, pops, ends_from, leaves, Target, variable, in_global, target, own_field, has_base, global_of, guard_field, guard_code, drop_base, settle_base, copy_code, cell_value_code, value_code, cell_take_code, take_code, bounds_code, index_code, pointee_code, width_code, base_width, index_width, settle_code, cell_store_code, store_code, kind_of, is_ref, target_of, mode_of, what_names, named_code, truth_code, differ_code, compare_code, logical_code, either_code, unary_code, binary_code, behind_int, behind_ref, wait_code, condition_code, called_code, passed_code, value_call_code, place_call_code, cast_code, guard_of, taken_guard, field_code, unary_place_code, lvalue_code, expression_code, arguments_code, place_code, lvalue_in, with_words, argument_words, elements_code, right_code, simple_code, with_variable, ints_of, refs_of, zero_code, initial_code, local_code, first_code, step_code, test_code, turn_code, jump_code, result_code, return_code, turns_code, body_at, behind_statement, behind_statements, statement_code, statements_code, in_function, around_body, function_code, declared_lvalue, functions_code, Slot}
use Rattle.std.specs.Str.{bytes_eq}
use Rattle.sharc_tree.specs.{declared.tree.expression.PlaceCall.TheVariants.Lock, Measures.in_head}
use Rattle.sharc_code.specs.declared.instr.Register.TheVariants.{Int}
use Rattle.sharc_flat.specs.Flattened.{behind_first, Around, opened, looping}
use Rattle.sharc_flat_laws.specs.Tables.{IsWaited}

-- ---- what operations spawn, and what comes after them
abbrev pub OpMeets : (ℕ → Type 0) → (ℕ → Type 0) → Op → List Op → Type 0
OpMeets Q L (Op.Spawn i f from spot) os = Q f
OpMeets Q L (Op.GlobalBounds i elements cells n spot) os = L n
OpMeets Q L (Op.CondEnter c spot) os = IsWaited c os
OpMeets Q L _ os = Unit {0}

abbrev pub AllMeet : (ℕ → Type 0) → (ℕ → Type 0) → List Op → Type 0
AllMeet Q L [] = Unit {0}
AllMeet Q L (o ∷ os) = OpMeets Q L o os × AllMeet Q L os

meets_more : (Q L : ℕ → Type 0) (o : Op) (xs ys : List Op) → OpMeets Q L o xs → OpMeets Q L o (xs ++ ys)
meets_more Q L (Op.Spawn i f from spot) xs ys h = h
meets_more Q L (Op.GlobalBounds i elements cells n spot) xs ys h = h
meets_more Q L (Op.CondEnter c spot) xs ys h = record { register = h.register; mutex = h.mutex; unlock_spot = h.unlock_spot; wait_spot = h.wait_spot; rest = h.rest ++ ys; is = ap (λ l. l ++ ys) h.is }
meets_more Q L _ xs ys h = tt

-- what is said of each expression says what a spawn starts, and where the cells of an array are
module _ (Q L : ℕ → Type 0) (X : Resolution → Expression → Type 0) (spawned : (r : Resolution) (s : Span) (f : Identifier) (a : Expression) → X r (spawn s f a) → Q (number_named (named_at r f.site.token))) where
  abbrev S : List Op → Type 0
  S = AllMeet Q L

  abbrev E : Context → List Expression → Type 0
  E c es = AllByRecursion (X c.program.typed) es

  abbrev pub ArraysLow : Context → Type 0
  ArraysLow c = (a : Expression) → E c (expressions a) → is_array (kind_at c.program.typed a) ≡ true → (n : ℕ) → L (first_cell c.globals (global_of (target c.program.typed None a)) + n)

  left : (c : Context) (xs ys : List Expression) → E c (xs ++ ys) → E c xs
  left c [] ys h = tt
  left c (x ∷ xs) ys h = (h.0, left c xs ys h.1)

  right : (c : Context) (xs ys : List Expression) → E c (xs ++ ys) → E c ys
  right c [] ys h = h
  right c (x ∷ xs) ys h = right c xs ys h.1

  joins : (xs ys : List Op) → S xs → S ys → S (xs ++ ys)
  joins [] ys a b = b
  joins (o ∷ os) ys a b = (meets_more Q L o os ys a.0, joins os ys a.1 b)

  choose : (b : Bool) (xs ys : List Op) → S xs → S ys → S (cond b xs ys)
  choose true xs ys a b = a
  choose false xs ys a b = b

  truths : (b : Bool) (i r : ℕ) → S (truth_code b i r)
  truths true i r = (tt, (tt, (tt, (tt, tt))))
  truths false i r = tt

  differs : (o : BinaryOperator) (i : ℕ) → S (differ_code o i)
  differs NotEqual i = (tt, tt)
  differs o i = tt

  compares : (o : BinaryOperator) (i r : ℕ) → S (compare_code o i r)
  compares o i r = (tt, joins (differ_code o i) (Op.Pop r ∷ Op.Pop (r + 1) ∷ []) (differs o i) (tt, (tt, tt)))

  logicals : (i : ℕ) (xs ys : List Op) → S xs → S ys → S (logical_code i xs ys)
  logicals i xs ys a b = joins xs _ a (tt, joins ys (Op.IsFalse i i ∷ Op.IsFalse i i ∷ []) b (tt, (tt, tt)))

  eithers : (i : ℕ) (xs ys : List Op) → S xs → S ys → S (either_code i xs ys)
  eithers i xs ys a b = joins xs _ a (tt, (tt, joins ys (Op.IsFalse i i ∷ Op.IsFalse i i ∷ []) b (tt, (tt, tt))))

  pointees : (r : ℕ) (site : Site) (xs : List Op) → S xs → S (pointee_code r site xs)
  pointees r site xs a = joins xs (Op.ChkNull r (at_site site) ∷ []) a (tt, tt)

  waits : (r : ℕ) (spot a b : Spot) → S (wait_code r spot a b)
  waits r spot a b = (tt, (tt, (tt, (record { register = r + 2; mutex = _; unlock_spot = spot; wait_spot = a; rest = _; is = refl }, (tt, (tt, (tt, (tt, (tt, tt)))))))))

  conditions : (r : ℕ) (spot : Spot) (name : List ℕ) (all : Arguments) → S (condition_code r spot name all)
  conditions r spot name all = choose (bytes_eq name (codes "wait")) (wait_code r spot (with_words spot (argument_words 0 all)) (with_words spot (argument_words 1 all))) _ (waits r spot (with_words spot (argument_words 0 all)) (with_words spot (argument_words 1 all)))
      (choose (bytes_eq name (codes "signal")) _ _ (tt, (tt, (tt, tt))) (tt, (tt, (tt, tt))))

  calls : (i r : ℕ) (spot : Spot) (n : Named) (name : List ℕ) (all : Arguments) → S (called_code i r spot n name all)
  calls i r spot (Named.Function f) name all = (tt, tt)
  calls i r spot Named.Known name all = conditions r spot name all
  calls i r spot _ name all = tt

  widths : (i : ℕ) (kind : Kind) (site : Site) → S (width_code i kind site)
  widths i kind site = choose (is_integer kind) _ [] (tt, tt) tt

  passes : (i : ℕ) (kinds : List Kind) (site : Site) → S (passed_code i kinds site)
  passes i [] site = tt
  passes i (kind ∷ rest) site = widths i kind site

  value_calls : (w : ValueCall) (i : ℕ) (spot : Spot) → S (value_call_code w i spot)
  value_calls Join i spot = (tt, tt)
  value_calls Print i spot = (tt, tt)

  fields : (c : Context) (r : ℕ) (site : Site) (f : Option ℕ) (w : FieldOperator) (n : Identifier) (place : Option ℕ → List Op) (pointer : List Op) → ((g : Option ℕ) → S (place g)) → S pointer → S (field_code c r site f w n place pointer)
  fields c r site f Dot n place pointer h k = h (Some (own_field f (field_place_named c.program.typed (what_names c n.site.token))))
  fields c r site f Arrow n place pointer h k = pointees r site pointer k

  unary_places : (r : ℕ) (site : Site) (o : UnaryOperator) (xs : List Op) → S xs → S (unary_place_code r site o xs)
  unary_places r site Dereference xs h = pointees r site xs h
  unary_places r site _ xs h = tt

  -- ---- accesses
  module _ (c : Context) where
    guards : (i r : ℕ) (site : Site) (lvalue : Lvalue) (t : Target) (g : Option ℕ) → S (guard_code c i r site lvalue t g)
    guards i r site lvalue t None = tt
    guards i r site lvalue t (Some mutex) = (tt, tt)

    drops_base : (r : ℕ) (t : Target) → S (drop_base r t)
    drops_base r t = choose (has_base t) (Op.Pop r ∷ []) [] (tt, tt) tt

    settles_base : (r : ℕ) (t : Target) → S (settle_base r t)
    settles_base r t = choose (has_base t) (Op.Settle r (r + 1) ∷ []) [] (tt, tt) tt

    copies : (i r : ℕ) (x : Register) → S (copy_code i r x)
    copies i r (Int x) = (tt, tt)
    copies i r (Reference x) = (tt, tt)

    cell_values : (i r : ℕ) (site : Site) (lvalue : Lvalue) (mode : Sharing) (b : Bool) (t : Target) → S (cell_value_code c i r site lvalue mode b t)
    cell_values i r site lvalue mode true t = joins (guard_code c i r site lvalue t (guard_field c.program.typed mode)) _ (guards i r site lvalue t (guard_field c.program.typed mode)) (tt, settles_base r t)
    cell_values i r site lvalue mode false t = joins (guard_code c i r site lvalue t (guard_field c.program.typed mode)) _ (guards i r site lvalue t (guard_field c.program.typed mode)) (tt, drops_base r t)

    values : (i r : ℕ) (site : Site) (lvalue : Lvalue) (mode : Sharing) (b : Bool) (t : Target) → S (value_code c i r site lvalue mode b t)
    values i r site lvalue mode b (variable x) = copies i r (register_of c.scope x)
    values i r site lvalue mode b k = cell_values i r site lvalue mode b k

    cell_takes : (i r : ℕ) (site : Site) (lvalue : Lvalue) (mode : Sharing) (form : Option ℕ → Use) (t : Target) → S (cell_take_code c i r site lvalue mode form t)
    cell_takes i r site lvalue mode form t = joins (guard_code c i r site lvalue t (guard_field c.program.typed mode)) _ (guards i r site lvalue t (guard_field c.program.typed mode)) (tt, settles_base r t)

    takes : (i r : ℕ) (site : Site) (lvalue : Lvalue) (mode : Sharing) (form : Option ℕ → Use) (t : Target) → S (take_code c i r site lvalue mode form t)
    takes i r site lvalue mode form (variable x) = (tt, tt)
    takes i r site lvalue mode form k = cell_takes i r site lvalue mode form k

    settles : (i r : ℕ) (x : Register) → S (settle_code i r x)
    settles i r (Int x) = (tt, tt)
    settles i r (Reference x) = (tt, tt)

    cell_stores : (i r vi vr : ℕ) (site : Site) (lvalue : Lvalue) (mode : Sharing) (b : Bool) (t : Target) → S (cell_store_code c i r vi vr site lvalue mode b t)
    cell_stores i r vi vr site lvalue mode true t = joins (guard_code c i r site lvalue t (guard_field c.program.typed mode)) _ (guards i r site lvalue t (guard_field c.program.typed mode)) (tt, drops_base r t)
    cell_stores i r vi vr site lvalue mode false t = joins (guard_code c i r site lvalue t (guard_field c.program.typed mode)) _ (guards i r site lvalue t (guard_field c.program.typed mode)) (tt, drops_base r t)

    stores : (i r vi vr : ℕ) (site : Site) (lvalue : Lvalue) (mode : Sharing) (b : Bool) (t : Target) → S (store_code c i r vi vr site lvalue mode b t)
    stores i r vi vr site lvalue mode b (variable x) = settles vi vr (register_of c.scope x)
    stores i r vi vr site lvalue mode b k = cell_stores i r vi vr site lvalue mode b k

    names : (i r : ℕ) (site : Site) (lvalue : Lvalue) (mode : Sharing) (b : Bool) (n : Named) → S (named_code c i r site lvalue mode b n)
    names i r site lvalue mode b (Named.Variable x) = values i r site lvalue mode b (variable x)
    names i r site lvalue mode b (Named.Global g) = values i r site lvalue mode b (in_global g 0)
    names i r site lvalue mode b _ = tt

    unaries : (i r : ℕ) (s : Span) (o : UnaryOperator) (a : Expression) (xs : List Op) → S xs → S (unary_code c i r s o a xs)
    unaries i r s Not a xs h = joins xs _ h (joins (truth_code (is_ref c a) i r) (Op.IsFalse i i ∷ []) (truths (is_ref c a) i r) (tt, tt))
    unaries i r s Dereference a xs h = joins (pointee_code r s.first xs) _ (pointees r s.first xs h) (values i r s.first (lvalue_in c (unary s Dereference a)) (mode_of c (unary s Dereference a)) (is_ref c (unary s Dereference a)) (target_of c (unary s Dereference a)))
    unaries i r s _ a xs h = joins xs _ h (tt, tt)

    binaries : (i r : ℕ) (at : Site) (o : BinaryOperator) (a b : Expression) (xs : List Op) (ys : ℕ → ℕ → List Op) → S xs → ((i r : ℕ) → S (ys i r)) → S (binary_code c i r at o a b xs ys)
    binaries i r at LogicalAnd a b xs ys h k = logicals i (xs ++ truth_code (is_ref c a) i r) (ys i r ++ truth_code (is_ref c b) i r) (joins xs _ h (truths (is_ref c a) i r)) (joins (ys i r) _ (k i r) (truths (is_ref c b) i r))
    binaries i r at LogicalOr a b xs ys h k = eithers i (xs ++ truth_code (is_ref c a) i r) (ys i r ++ truth_code (is_ref c b) i r) (joins xs _ h (truths (is_ref c a) i r)) (joins (ys i r) _ (k i r) (truths (is_ref c b) i r))
    binaries i r at o a b xs ys h k = joins xs _ h (joins (ys (behind_int (is_ref c a) i) (behind_ref (is_ref c a) r)) _ (k _ _) (choose (is_ref c a) (compare_code o i r) _ (compares o i r) (tt, tt)))

    place_calls : (i r : ℕ) (s : Span) (w : PlaceCall) (a : Expression) (xs : List Op) → S xs → S (place_call_code c i r s w a xs)
    place_calls i r s Lock a xs h = joins xs _ h (tt, (tt, (tt, tt)))
    place_calls i r s Unlock a xs h = joins xs _ h (tt, (tt, choose (has_base (target_of c a)) (Op.Pop (r + 1) ∷ Op.Pop r ∷ []) [] (tt, (tt, tt)) tt))
    place_calls i r s Free a xs h = joins xs _ h (joins (take_code c i r (span_of a).first (lvalue_in c a) (mode_of c a) Use.Free (target_of c a)) _
        (takes i r (span_of a).first (lvalue_in c a) (mode_of c a) Use.Free (target_of c a)) (tt, (tt, tt)))

    casts : (i r : ℕ) (s : Span) (a : Expression) (xs : List Op) → S xs → S (cast_code c i r s a xs)
    casts i r s a xs h = joins xs _ h (joins (take_code c i r (span_of a).first (lvalue_in c a) (mode_of c a) Use.Cast (target_of c a)) _
        (takes i r (span_of a).first (lvalue_in c a) (mode_of c a) Use.Cast (target_of c a)) (tt, (tt, tt)))

    lvalues : (i r : ℕ) (e : Expression) → S (lvalue_code c i r e)
    lvalues i r e = values i r (span_of e).first (lvalue_in c e) (mode_of c e) (is_ref c e) (target_of c e)

  bounded : (bounds : ℕ → ℕ → Op) (i n : ℕ) (guard : Option ℕ) → ((i n : ℕ) (os : List Op) → OpMeets Q L (bounds i n) os) → S (bounds_code bounds i n guard)
  bounded bounds i n None h = (h i n _, tt)
  bounded bounds i n (Some mutex) h = (tt, (h i n _, (h (i + 1) mutex _, tt)))

  indexes_by : (b : Bool) (r : ℕ) (xs ys zs ws : List Op) (number : ℕ → List Op) (o : Op) → ((os : List Op) → OpMeets Q L o os) → S xs → S ys → ((d : ℕ) → S (number d)) → (b ≡ true → S zs) → S ws
      → S (cond b (xs ++ (number r ++ zs)) (ys ++ (o ∷ (number (r + 1) ++ ws))))
  indexes_by true r xs ys zs ws number o k h h2 n z w = joins xs _ h (joins (number r) zs (n r) (z refl))
  indexes_by false r xs ys zs ws number o k h h2 n z w = joins ys _ h2 (k _, joins (number (r + 1)) ws (n (r + 1)) w)

  -- ---- expressions
  module _ (c : Context) (low : ArraysLow c) where
    indexes : (i r : ℕ) (site : Site) (f guard : Option ℕ) (a : Expression) (xs ys : List Op) (number : ℕ → List Op) → E c (expressions a) → S xs → S ys → ((d : ℕ) → S (number d)) → S (index_code c i r site f guard a xs ys number)
    indexes i r site f guard a xs ys number known h h2 n =
        let of_array : ℕ → ℕ → Op = λ i n. Op.GlobalBounds i (global_elements (global_at c.program.typed (global_of (target c.program.typed None a)))) (element_cells c.program.typed (element_kind (kind_at c.program.typed a))) (first_cell c.globals (global_of (target c.program.typed None a)) + n) (at_site site) in
        let of_pointer : ℕ → ℕ → Op = λ i n. Op.Bounds i r (element_cells c.program.typed (element_kind (kind_at c.program.typed a))) n (at_site site) in
        indexes_by (is_array (kind_at c.program.typed a)) r xs ys (bounds_code of_array i (own_field f 0) guard) (bounds_code of_pointer i (own_field f 0) guard) number (Op.ChkNull r (at_site site)) (λ os. tt) h h2 n
        (λ e. bounded of_array i (own_field f 0) guard (λ i n os. low a known e n)) (bounded of_pointer i (own_field f 0) guard (λ i n os. tt))

    mutual
      pub expressions_meet : (i r : ℕ) (e : Expression) → E c (expressions e) → S (expression_code c i r e)
      expressions_meet i r (identifier s x) h = (tt, names c i r x.site (lvalue_in c (identifier s x)) (mode_of c (identifier s x)) (is_ref c (identifier s x)) (what_names c x.site.token))
      expressions_meet i r (constant s k) h = (tt, choose (is_ref c (constant s k)) _ _ (tt, tt) (tt, tt))
      expressions_meet i r (parentheses s a) h = (tt, expressions_meet i r a h.1)
      expressions_meet i r (call s f all) h = (
        tt,
        joins (arguments_code c i r (declared_kinds (parameters_named c.program.typed (what_names c f.site.token))) all) _
            (arguments_meet i r (declared_kinds (parameters_named c.program.typed (what_names c f.site.token))) all h.1) (calls i r (at_site s.first) (what_names c f.site.token) f.text all),
      )
      expressions_meet i r (spawn s f a) h = (
        tt,
        joins (expression_code c i r a) _ (expressions_meet i r a h.1)
            (joins (passed_code i (declared_kinds (parameters_named c.program.typed (what_names c f.site.token))) (span_of a).first) _
            (passes i (declared_kinds (parameters_named c.program.typed (what_names c f.site.token))) (span_of a).first) (spawned c.program.typed s f a h.0, tt)),
      )
      expressions_meet i r (on_value s w a) h = (tt, joins (expression_code c i r a) _ (expressions_meet i r a h.1) (value_calls w i (at_site s.first)))
      expressions_meet i r (on_place s w a) h = (tt, place_calls c i r s w a (place_code c i r (span_of a).first None (taken_guard c w a) a) (places_meet i r (span_of a).first None (taken_guard c w a) a h.1))
      expressions_meet i r (cast s t a) h = (tt, casts c i r s a (place_code c i r (span_of a).first None (guard_of c a) a) (places_meet i r (span_of a).first None (guard_of c a) a h.1))
      expressions_meet i r (index s a n) h = (
        tt,
        joins (index_code c i r s.first None (guard_of c (index s a n)) a (place_code c i r s.first None None a) (expression_code c i r a) (λ d. expression_code c i d n)) _
            (indexes i r s.first None (guard_of c (index s a n)) a (place_code c i r s.first None None a) (expression_code c i r a) (λ d. expression_code c i d n)
            (left c (expressions a) (expressions n) h.1) (places_meet i r s.first None None a (left c (expressions a) (expressions n) h.1)) (expressions_meet i r a (left c (expressions a) (expressions n) h.1)) (λ d. expressions_meet i d n (right c (expressions a) (expressions n) h.1)))
            (lvalues c i r (index s a n)),
      )
      expressions_meet i r (field s a w n) h = (
        tt,
        joins (field_code c r s.first None w n (λ f. place_code c i r s.first f (guard_of c (field s a w n)) a) (expression_code c i r a)) _
            (fields c r s.first None w n (λ f. place_code c i r s.first f (guard_of c (field s a w n)) a) (expression_code c i r a) (λ g. places_meet i r s.first g (guard_of c (field s a w n)) a h.1) (expressions_meet i r a h.1))
            (lvalues c i r (field s a w n)),
      )
      expressions_meet i r (unary s o a) h = (tt, unaries c i r s o a (expression_code c i r a) (expressions_meet i r a h.1))
      expressions_meet i r (binary s o at a b) h = (tt, binaries c i r at o a b (expression_code c i r a) (λ i2 r2. expression_code c i2 r2 b) (expressions_meet i r a (left c (expressions a) (expressions b) h.1)) (λ i2 r2. expressions_meet i2 r2 b (right c (expressions a) (expressions b) h.1)))

      arguments_meet : (i r : ℕ) (kinds : List Kind) (all : Arguments) → E c (in_arguments all) → S (arguments_code c i r kinds all)
      arguments_meet i r kinds no_arguments h = tt
      arguments_meet i r kinds (argument a rest) h = joins (expression_code c i r a) _ (expressions_meet i r a (left c (expressions a) (in_arguments rest) h))
          (joins (passed_code i kinds (span_of a).first) _ (passes i kinds (span_of a).first) (arguments_meet (behind_int (is_ref c a) i) (behind_ref (is_ref c a) r) (drop 1 kinds) rest (right c (expressions a) (in_arguments rest) h)))

      pub places_meet : (i r : ℕ) (site : Site) (f guard : Option ℕ) (e : Expression) → E c (expressions e) → S (place_code c i r site f guard e)
      places_meet i r site f guard (parentheses s a) h = (tt, places_meet i r site f guard a h.1)
      places_meet i r site f guard (index s a n) h = (
        tt,
        indexes i r site f guard a (place_code c i r site None None a) (expression_code c i r a) (λ d. expression_code c i d n) (left c (expressions a) (expressions n) h.1) (places_meet i r site None None a (left c (expressions a) (expressions n) h.1)) (expressions_meet i r a (left c (expressions a) (expressions n) h.1)) (λ d. expressions_meet i d n (right c (expressions a) (expressions n) h.1)),
      )
      places_meet i r site f guard (field s a w n) h = (
        tt,
        fields c r site f w n (λ g. place_code c i r site g guard a) (expression_code c i r a) (λ g. places_meet i r site g guard a h.1) (expressions_meet i r a h.1),
      )
      places_meet i r site f guard (unary s o a) h = (tt, unary_places r site o (expression_code c i r a) (expressions_meet i r a h.1))
      places_meet i r site f guard _ h = (tt, tt)

    -- ---- simple statements
    counts : (i r : ℕ) (n : Option Expression) → E c (in_option expressions n) → S (elements_code c i r n)
    counts i r None h = (tt, tt)
    counts i r (Some n) h = expressions_meet i r n h

    rights : (i r : ℕ) (kind : Kind) (mode : Sharing) (x : Right) → E c (in_right x) → S (right_code c i r kind mode x)
    rights i r kind mode (value e) h = joins (expression_code c i r e) _ (expressions_meet i r e h) (widths i kind (span_of e).first)
    rights i r kind mode (malloc s n w) h = (tt, joins (elements_code c i r n) _ (counts i r n h) (tt, (tt, tt)))

    simples : (i r : ℕ) (x : Simple) → E c (in_simple x) → S (simple_code c i r x)
    simples i r (assign s u x) h = joins (place_code c i r (span_of u).first None (guard_of c u) u) _ (places_meet i r (span_of u).first None (guard_of c u) u (left c (expressions u) (in_right x) h))
        (joins (right_code c (i + index_width (target_of c u) (guard_of c u)) (r + base_width (target_of c u)) (kind_of c u) (pointed c.program (row_at c.program.typed u)) x) _
        (rights (i + index_width (target_of c u) (guard_of c u)) (r + base_width (target_of c u)) (kind_of c u) (pointed c.program (row_at c.program.typed u)) x (right c (expressions u) (in_right x) h))
        (stores c i r (i + index_width (target_of c u) (guard_of c u)) (r + base_width (target_of c u)) (span_of u).first (lvalue_in c u) (mode_of c u) (is_ref c u) (target_of c u)))
    simples i r (does_call e) h = joins (expression_code c i r e) _ (expressions_meet i r e h) (choose (is_ref c e) (Op.Pop r ∷ []) [] (tt, tt) tt)

    steps : (x : Option Simple) → E c (in_option in_simple x) → S (step_code c x)
    steps None h = tt
    steps (Some x) h = simples (ints_of c) (refs_of c) x h

    turns : (e : Option Expression) (over : ℕ) → E c (in_option expressions e) → S (turn_code c e over)
    turns None over h = tt
    turns (Some e) over h = joins (test_code c e) _ (joins (expression_code c (ints_of c) (refs_of c) e) _ (expressions_meet (ints_of c) (refs_of c) e h) (truths (is_ref c e) (ints_of c) (refs_of c))) (tt, tt)

  -- ---- statements
  zeros : (b : Bool) (i r : ℕ) → S (zero_code b i r)
  zeros b i r = choose b _ _ (tt, tt) (tt, tt)

  pops_meet : (r : ℕ) (xs : List Slot) → S (pops r xs)
  pops_meet r [] = tt
  pops_meet r (x ∷ rest) = choose x.is_pointer (Op.Pop r ∷ pops (r + 1) rest) (pops r rest) (tt, pops_meet (r + 1) rest) (pops_meet r rest)

  ends_meet : (scope : List Slot) (n : ℕ) → S (ends_from scope n)
  ends_meet scope n = pops_meet (ref_count (take n scope)) (drop n scope)

  leaves_meet : (scope : List Slot) (ns : List ℕ) → S (leaves scope ns)
  leaves_meet scope [] = tt
  leaves_meet scope (n ∷ outer) = joins (ends_from scope n) _ (ends_meet scope n) (leaves_meet (take n scope) outer)

  initials : (c : Context) → ArraysLow c → (d : Declaration) (x : Option Right) → E c (in_option in_right x) → S (initial_code c d x)
  initials c low d None h = tt
  initials c low d (Some x) h = joins (right_code c (ints_of c) (refs_of c) (declared_kind d.written) (pointed c.program (Some (declared_row c.program.typed written d.name.site.token))) x) _
      (rights c low (ints_of c) (refs_of c) (declared_kind d.written) (pointed c.program (Some (declared_row c.program.typed written d.name.site.token))) x h)
      (stores c 0 0 (ints_of c) (refs_of c) d.name.site (declared_lvalue d) private (is_reference (declared_kind d.written)) (variable d.name.site.token))

  locals : (c : Context) → ArraysLow c → (l : Local) → E c (in_local l) → S (local_code c l)
  locals c low l h = joins (zero_code (is_reference (declared_kind l.declaration.written)) (ints_of c) (refs_of c)) _ (zeros (is_reference (declared_kind l.declaration.written)) (ints_of c) (refs_of c))
      (initials (with_variable c l.declaration) low l.declaration l.initial h)

  firsts : (c : Context) → ArraysLow c → (x : First) → E c (in_first x) → S (first_code c x)
  firsts c low nothing h = tt
  firsts c low (declares l) h = (tt, locals c low l h)
  firsts c low (does x) h = simples c low (ints_of c) (refs_of c) x h

  first_low : (c : Context) (x : First) → ArraysLow c → ArraysLow (behind_first c x)
  first_low c (does x) h = h
  first_low c _ h = h

  first_named : (c : Context) (x : First) (es : List Expression) → E c es → E (behind_first c x) es
  first_named c (does x) es h = h
  first_named c _ es h = h

  statement_low : (c : Context) (x : Statement) → ArraysLow c → ArraysLow (behind_statement c x)
  statement_low c (empty s) h = h
  statement_low c _ h = h

  statement_named : (c : Context) (x : Statement) (es : List Expression) → E c es → E (behind_statement c x) es
  statement_named c (empty s) es h = h
  statement_named c _ es h = h

  returns_meet : (c : Context) → ArraysLow c → (a : Around) (site : Site) (e : Option Expression) → E c (in_option expressions e) → S (return_code c a site e)
  returns_meet c low a site None h = joins (leaves c.scope (a.inside ++ a.outside)) _ (leaves_meet c.scope (a.inside ++ a.outside)) (joins (zero_code (is_reference a.result) 0 0) _ (zeros (is_reference a.result) 0 0) (tt, tt))
  returns_meet c low a site (Some e) h = joins (expression_code c (ints_of c) (refs_of c) e) _ (expressions_meet c low (ints_of c) (refs_of c) e h)
      (joins (width_code (ints_of c) a.result (span_of e).first) _ (widths (ints_of c) a.result (span_of e).first)
      (joins (leaves c.scope (a.inside ++ a.outside)) _ (leaves_meet c.scope (a.inside ++ a.outside))
      (joins (result_code (is_reference a.result) (ints_of c) (refs_of c)) _ (choose (is_reference a.result) _ _ (tt, tt) (tt, tt)) (tt, tt))))

  jumps : (c : Context) (a : Around) (j : Jump) → S (jump_code c a j)
  jumps c a Break = joins (leaves c.scope a.inside) _ (leaves_meet c.scope a.inside) (tt, tt)
  jumps c a Continue = joins (leaves c.scope a.inside) _ (leaves_meet c.scope a.inside) (tt, tt)

  loops : (pc : ℕ) (step T B : List Op) → S step → S T → S B → S (turns_code pc step T B)
  loops pc step T B h t k = (tt, (tt, (tt, joins T _ t (joins B _ k (joins step _ h (tt, tt))))))

  mutual
    statements_meet : (c : Context) → ArraysLow c → (a : Around) (pc : ℕ) (x : Statement) → E c (in_statement x) → S (statement_code c a pc x)
    statements_meet c low a pc (empty s) h = (tt, tt)
    statements_meet c low a pc (block s all) h = (
      tt,
      joins (statements_code c (opened c a) (pc + 1) all ++ ends_from (behind_statements c all).scope (length c.scope)) (Op.BlockEnd ∷ [])
          (joins (statements_code c (opened c a) (pc + 1) all) _ (all_meet c low (opened c a) (pc + 1) all h) (ends_meet (behind_statements c all).scope (length c.scope))) (tt, tt),
    )
    statements_meet c low a pc (declare s l) h = (tt, locals c low l h)
    statements_meet c low a pc (simple s x) h = (tt, simples c low (ints_of c) (refs_of c) x h)
    statements_meet c low a pc (jump s j) h = (tt, jumps c a j)
    statements_meet c low a pc (return s e) h = (tt, returns_meet c low a s.first e h)
    statements_meet c low a pc (if_then s e x) h =
        let B = statement_code c a (pc + 1 + length (turn_code c (Some e) 0)) x in
        (tt, joins (turn_code c (Some e) (length B)) B (turns c low (Some e) (length B) (left c (expressions e) (in_statement x) h)) (statements_meet c low a (pc + 1 + length (turn_code c (Some e) 0)) x (right c (expressions e) (in_statement x) h)))
    statements_meet c low a pc (if_then_else s e x y) h =
        let at = pc + 1 + length (turn_code c (Some e) 0) in
        let X = statement_code c a at x in
        let Y = statement_code c a (at + length X + 1) y in
        let of_first = left c (expressions e ++ in_statement x) (in_statement y) h in (
          tt,
          joins (turn_code c (Some e) (length X + 1)) (X ++ (Op.Skip (length Y) ∷ Y)) (turns c low (Some e) (length X + 1) (left c (expressions e) (in_statement x) of_first))
              (joins X _ (statements_meet c low a at x (right c (expressions e) (in_statement x) of_first)) (tt, statements_meet c low a (at + length X + 1) y (right c (expressions e ++ in_statement x) (in_statement y) h))),
        )
    statements_meet c low a pc (while s e x) h =
        let at = body_at (pc + 1) (turn_code c (Some e)) in
        let a1 = looping a (pc + 1 + 1) (pc + 1 + 2) in
        let B = statement_code c a1 at x in
        (tt, loops (pc + 1) [] (turn_code c (Some e) (length B + 0 + 1)) B tt (turns c low (Some e) (length B + 0 + 1) (left c (expressions e) (in_statement x) h)) (statements_meet c low a1 at x (right c (expressions e) (in_statement x) h)))
    statements_meet c low a pc (for s hd x) h =
        let F = first_code c hd.first in
        let c1 = behind_first c hd.first in
        let low1 = first_low c hd.first low in
        let p1 = pc + 1 + length F in
        let step = step_code c1 hd.step in
        let at = body_at p1 (turn_code c1 hd.test) in
        let a1 = looping (opened c a) (p1 + 1) (p1 + 2) in
        let B = statement_code c1 a1 at x in
        let T = turn_code c1 hd.test (length B + length step + 1) in
        let of_head = left c (in_head hd) (in_statement x) h in
        let of_body = first_named c hd.first (in_statement x) (right c (in_head hd) (in_statement x) h) in
        let of_front = left c (in_first hd.first ++ in_option expressions hd.test) (in_option in_simple hd.step) of_head in
        let of_test = first_named c hd.first (in_option expressions hd.test) (right c (in_first hd.first) (in_option expressions hd.test) of_front) in
        let of_step = first_named c hd.first (in_option in_simple hd.step) (right c (in_first hd.first ++ in_option expressions hd.test) (in_option in_simple hd.step) of_head) in (
          tt,
          joins (F ++ turns_code p1 step T B) _
              (joins F _ (firsts c low hd.first (left c (in_first hd.first) (in_option expressions hd.test) of_front))
              (loops p1 step T B (steps c1 low1 hd.step of_step) (turns c1 low1 hd.test (length B + length step + 1) of_test) (statements_meet c1 low1 a1 at x of_body)))
              (ends_meet c1.scope (length c.scope)),
        )

    all_meet : (c : Context) → ArraysLow c → (a : Around) (pc : ℕ) (all : Statements) → E c (in_statements all) → S (statements_code c a pc all)
    all_meet c low a pc no_statements h = tt
    all_meet c low a pc (statement x rest) h = joins (statement_code c a pc x) _ (statements_meet c low a pc x (left c (in_statement x) (in_statements rest) h))
        (all_meet (behind_statement c x) (statement_low c x low) a (pc + length (statement_code c a pc x)) rest (statement_named c x (in_statements rest) (right c (in_statement x) (in_statements rest) h)))

  -- ---- functions
  function_meets : (m : Assignment) (globals : List GlobalCells) (pc : ℕ) (f : Function) → ArraysLow (in_function m globals f) → AllByRecursion (X m.typed) (expressions_in f) → S (function_code m globals pc f)
  function_meets m globals pc f low h =
      let c = in_function m globals f in (
        tt,
        joins (statements_code c (around_body f) (pc + 1) f.statements) _ (all_meet c low (around_body f) (pc + 1) f.statements h)
            (joins (ends_from (behind_statements c f.statements).scope 0) _ (ends_meet (behind_statements c f.statements).scope 0)
            (joins (zero_code (is_reference (declared_kind f.result)) 0 0) _ (zeros (is_reference (declared_kind f.result)) 0 0) (tt, tt))),
      )

  pub functions_meet : (m : Assignment) (globals : List GlobalCells) (pc : ℕ) (fs : List Function) → ((f : Function) → ArraysLow (in_function m globals f)) → AllByRecursion (λ f. AllByRecursion (X m.typed) (expressions_in f)) fs
      → S (functions_code m globals pc fs)
  functions_meet m globals pc [] low h = tt
  functions_meet m globals pc (f ∷ rest) low h =
      joins (function_code m globals pc f) _ (function_meets m globals pc f (low f) h.0) (functions_meet m globals (pc + length (function_code m globals pc f)) rest low h.1)
