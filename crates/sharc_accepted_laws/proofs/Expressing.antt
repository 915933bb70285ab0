-- The rows of expressions and of what is declared: how many targets they have, and that the first one's shape is one of the program.
use Rattle.sharc_accepted_laws.proofs.{Imports.{◌≡◌, ℕ, zero, suc, ◌+◌, ◌-◌, ◌<◌, ◌≤◌, ◌==◌, eqb-true, Bool, true, false, cond, List, [], ◌∷◌, length, map, take, drop, refl, ap, sym, ◌∙◌, subst, arith, Option, Some, None, Contains, eqb-false, AllByRecursion, Base, Mode, Declaration, WrittenType, Identifier, Dot, Arrow, Constant, Number, Character, Null, NumberType, GlobalDefinition, GlobalForm, Array, expressions, in_function, Expression, Function, Named, Role, Kind, object, array, is_array, declared_kind, int, global_kind, Entity, Numbered, declared, cast_entity, result_of, entities_in, entity_at, positions_of, first_depth, constant_kind, number_kind, Resolution, named_at, declaration_at, globals_in, functions_in, structs_in, kind_at, Callee, of_program, of_conditions, Common, both_shorter, HasType, IsMemberOf, IsFound, EachTypeFound, MeetsConstraints, OneType, Assignment, position_count, base_of, PathReading, written, Targets, no_row, deeper, targets_from, entity_row, declared_row, global_row, named_row, result_row, called_row, behind, constant_row, reading_through, base_use, row_at, modes_of, IsEntity, IsRowOf, ExpressionsFound, VariablesFound, ResultsFound, Form, form_of, row_shape, shapes, stars_in, same_some, none_some, front, of_each, to_each, place_there}, Fits.entity_there, TargetForms.{mode_form, row_forms, row_length, same_forms}, Found.{IsThere, is_there, field_found, global_found}, Numbers.shapes_closed, Settling.{positioned, dropped_length}, TargetWalk.{CastFound, declaration_found, function_casts, function_closed, result_found}, Laying.named_there as struct_there, StaticSiblings.found_there as member_there}
use Rattle.sharc_names.specs.Kinds as kinds
use Rattle.sharc_ctype_laws.specs.Constraints as typing

-- ---- one level further
tail_forms : (count first : ℕ) (modes : List Mode) → first + suc count ≤ length modes → (f : Form) × (map mode_form (take (suc count) (drop first modes)) ≡ f ∷ map mode_form (take count (drop (first + 1) modes)))
tail_forms count zero (x ∷ rest) low = (mode_form x, refl)
tail_forms count (suc n) (x ∷ rest) low = let w = tail_forms count n rest (omega (arith, low)) in let e : suc (n + 1) ≡ suc n + 1 = omega arith in (w.0, w.1 ∙ ap (λ k. w.0 ∷ map mode_form (take count (drop k (x ∷ rest)))) e)
tail_forms count _ [] low = absurd (omega (arith, low))

closed_at : (m : Assignment) (b : Base) (f : Form) (below : List Form) → 0 < length below → Contains (shapes m) (record { base = b; forms = f ∷ below }) → Contains (shapes m) (record { base = b; forms = below })
closed_at m b f [] some has = absurd (omega (arith, some))
closed_at m b f (g ∷ below) some has = shapes_closed m b f g below has

module _ (m : Assignment) where
  abbrev made : ℕ → ℕ → PathReading → Targets
  made first count how = record { first = first; count = count; reading = how }

  deeper_by : (b : Base) (n first count : ℕ) (how : PathReading) → count ≡ n + 1 → IsRowOf m (object b (n + 1)) (made first count how) → IsRowOf m (object b n) (made (first + 1) (count - 1) how)
  deeper_by b n first count how many w =
      record {
        ends = omega (arith, w.ends, many);
        count = omega (arith, many);
        there = λ some. below (omega (arith, some, many));
      }
    where
      below : 0 < count - 1 → Contains (shapes m) (row_shape m b (made (first + 1) (count - 1) how))
      below some =
          let e : suc (count - 1) ≡ count = omega (arith, some) in
          let t = tail_forms (count - 1) first m.modes (omega (arith, w.ends, e)) in
          let whole : map mode_form (take count (drop first m.modes)) ≡ t.0 ∷ map mode_form (take (count - 1) (drop (first + 1) m.modes)) = ap (λ k. map mode_form (take k (drop first m.modes))) (sym e) ∙ t.1 in
          let size : length (map mode_form (take (count - 1) (drop (first + 1) m.modes))) ≡ count - 1 = sym (ap length (row_forms m (made (first + 1) (count - 1) how))) ∙ row_length m (made (first + 1) (count - 1) how) (omega (arith, w.ends, e)) in
          let positive : 0 < count = omega (arith, some) in
          subst (λ fs. Contains (shapes m) (record { base = b; forms = fs })) (sym (row_forms m (made (first + 1) (count - 1) how)))
          (closed_at m b t.0 (map mode_form (take (count - 1) (drop (first + 1) m.modes))) (omega (arith, size, some))
          (subst (λ fs. Contains (shapes m) (record { base = b; forms = fs })) (row_forms m (made first count how) ∙ whole) (w.there positive)))

  deeper_row : (b : Base) (n : ℕ) (row : Targets) → IsRowOf m (object b (n + 1)) row → IsRowOf m (object b n) (deeper row)
  deeper_row b n row w = by (row.count == 0) refl
    where
      by : (z : Bool) → (row.count == 0) ≡ z → IsRowOf m (object b n) (cond z row (made (row.first + 1) (row.count - 1) row.reading))
      by true none = let e = eqb-true row.count 0 none in let many = w.count in absurd (omega (arith, e, many))
      by false some = deeper_by b n row.first row.count row.reading w.count w

  none_of : (k : Kind) → stars_in k ≡ 0 → IsRowOf m k no_row
  none_of k none = record { ends = omega arith; count = sym none; there = λ some. absurd (omega (arith, some)) }

  same_kind : (j k : Kind) (row : Targets) → base_of j ≡ base_of k → stars_in j ≡ stars_in k → IsRowOf m j row → IsRowOf m k row
  same_kind j k row b s w = record { ends = w.ends; count = w.count ∙ s; there = λ some. subst (λ x. Contains (shapes m) (row_shape m x row)) b (w.there some) }

  -- ---- entities
  record IsPart (n : Numbered) : Type 0 where
    first : ℕ
    count : ℕ
    is : (how : PathReading) → entity_row how (Some n) ≡ record { first = first; count = count; reading = how }
    ends : first + count ≤ length m.modes
    many : count ≡ length n.entity.written.ctype.levels - 1

  part_of : length m.modes ≡ position_count m.typed → (n : Numbered) → IsEntity m n → IsPart n
  part_of size n is_entity = by n.entity.role refl
    where
      ends : n.first + positions_of n.entity ≤ length m.modes
      ends = let e = (positioned (entities_in m.typed.program.items) 0 n is_entity).ends in omega (arith, e, size)

      counted : positions_of n.entity ≡ length n.entity.written.ctype.levels - first_depth n.entity.role
      counted = dropped_length (first_depth n.entity.role) n.entity.written.ctype.levels

      plain : (w : Role) → n.entity.role ≡ w → first_depth w ≡ 1 → ((how : PathReading) → targets_from w (made n.first (positions_of n.entity) how) ≡ made n.first (positions_of n.entity) how) → IsPart n
      plain w e depth is =
          let size = counted in
          let same : first_depth n.entity.role ≡ 1 = ap first_depth e ∙ depth in
          record { first = n.first; count = positions_of n.entity; is = λ how. ap (λ z. targets_from z (made n.first (positions_of n.entity) how)) e ∙ is how; ends = ends; many = omega (arith, size, same) }

      below : n.entity.role ≡ Role.Global → (b : Bool) → (positions_of n.entity == 0) ≡ b → IsPart n
      below e true none =
          let zero_is = eqb-true (positions_of n.entity) 0 none in
          let size = counted in
          let same : first_depth n.entity.role ≡ 0 = ap first_depth e in
          record {
            first = n.first;
            count = positions_of n.entity;
            is = λ how. ap (λ z. targets_from z (made n.first (positions_of n.entity) how)) e ∙ ap (λ z. cond z (made n.first (positions_of n.entity) how) (made (n.first + 1) (positions_of n.entity - 1) how)) none;
            ends = ends;
            many = omega (arith, size, same, zero_is);
          }
      below e false some =
          let low = eqb-false (positions_of n.entity) 0 some in
          let size = counted in
          let last = ends in
          let same : first_depth n.entity.role ≡ 0 = ap first_depth e in
          record {
            first = n.first + 1;
            count = positions_of n.entity - 1;
            is = λ how. ap (λ z. targets_from z (made n.first (positions_of n.entity) how)) e ∙ ap (λ z. cond z (made n.first (positions_of n.entity) how) (made (n.first + 1) (positions_of n.entity - 1) how)) some;
            ends = omega (arith, last, low);
            many = omega (arith, size, same);
          }

      by : (w : Role) → n.entity.role ≡ w → IsPart n
      by Role.Global e = below e (positions_of n.entity == 0) refl
      by k e = plain k e refl (λ how. refl)

  module _ (size : length m.modes ≡ position_count m.typed) (all : AllByRecursion (IsFound m.typed) (entities_in m.typed.program.items)) where
    abbrev r : Resolution
    r = m.typed

    entity_row_of : (n : Numbered) → IsEntity m n → (how : PathReading) → IsRowOf m (declared_kind n.entity.written) (entity_row how (Some n))
    entity_row_of n is_entity how = subst (IsRowOf m (declared_kind n.entity.written)) (sym (p.is how)) (record { ends = p.ends; count = p.many; there = there })
      where
        p : IsPart n
        p = part_of size n is_entity

        many : 0 < p.count → 0 < length (map form_of (modes_of m (entity_row written (Some n))))
        many some =
            let e : length (map form_of (modes_of m (entity_row written (Some n)))) ≡ p.count = ap (λ row. length (map form_of (modes_of m row))) (p.is written) ∙ row_length m (made p.first p.count written) p.ends in
            omega (arith, e, some)

        there : 0 < p.count → Contains (shapes m) (row_shape m n.entity.written.ctype.base (made p.first p.count how))
        there some =
            subst (λ fs. Contains (shapes m) (record { base = n.entity.written.ctype.base; forms = fs })) (ap (λ row. map form_of (modes_of m row)) (p.is written) ∙ same_forms m p.first p.count written how)
            (entity_there m n is_entity (many some))

    there_row : (e : Entity) → IsThere m e → (how : PathReading) → IsRowOf m (declared_kind e.written) (entity_row how (entity_at r e.token e.last))
    there_row e t how =
        subst (λ o. IsRowOf m (declared_kind e.written) (entity_row how o)) (sym t.found)
        (subst (λ (w : WrittenType). IsRowOf m (declared_kind w) (entity_row how (Some t.numbered))) t.written (entity_row_of t.numbered t.is_entity how))

    -- ---- what is declared
    pub variable_row : (token : ℕ) (d : Declaration) → declaration_at r token ≡ Some d → (how : PathReading) → IsRowOf m (declared_kind d.written) (declared_row r how token)
    variable_row token d is how =
        let w = declaration_found r all token d is in
        subst (λ t. IsRowOf m (declared_kind d.written) (declared_row r how t)) w.token_is
        (there_row (declared w.declared_there.what d) (is_there m (declared w.declared_there.what d) w.declared_there.found) how)

    pub function_row : (f : Function) → Contains (functions_in r.program.items) f → IsRowOf m (declared_kind f.result) (declared_row r written f.name.site.token)
    function_row f has = there_row (result_of f) (is_there m (result_of f) (result_found r all f has)) written

    global_row_of : (g : GlobalDefinition) → Contains (globals_in r.program.items) g → (how : PathReading) → IsRowOf m (global_kind g.form (declared_kind g.declaration.written)) (declared_row r how g.declaration.name.site.token)
    global_row_of g has how = by g.form
      where
        plain : IsRowOf m (declared_kind g.declaration.written) (declared_row r how g.declaration.name.site.token)
        plain = there_row (declared Role.Global g.declaration) (global_found m all g has) how

        by : (form : GlobalForm) → IsRowOf m (global_kind form (declared_kind g.declaration.written)) (declared_row r how g.declaration.name.site.token)
        by (Array at count) = same_kind (declared_kind g.declaration.written) (array g.declaration.written.ctype.base _) _ refl refl plain
        by _ = plain

    -- ---- members
    member_row : (x name : List ℕ) (d : Declaration) (token : ℕ) (how : PathReading) → IsMemberOf r x name d → named_at r token ≡ Named.Field d.name.site.token → IsRowOf m (declared_kind d.written) (named_row r how (named_at r token))
    member_row x name d token how (s, is_struct, is_field) names =
        subst (λ w. IsRowOf m (declared_kind d.written) (named_row r how w)) (sym names)
        (there_row (declared Role.Field d) (field_found m all s d (struct_there (structs_in r.program.items) x s is_struct) (member_there s.fields name d is_field)) how)

    -- ---- calls
    callee_row : (i : Identifier) (parameters : List Kind) (k : Kind) → Callee r i parameters k → IsRowOf m k (called_row r (named_at r i.site.token))
    callee_row _ _ _ (of_program {i} {n} f names at text other) =
        subst (λ w. IsRowOf m (declared_kind f.result) (called_row r w)) (sym names)
        (subst (λ o. IsRowOf m (declared_kind f.result) (result_row r o)) (sym at) (function_row f (place_there (functions_in r.program.items) n f at)))
    callee_row _ _ _ (of_conditions {i} c names text) = subst (λ w. IsRowOf m kinds.void (called_row r w)) (sym names) (none_of kinds.void refl)

    name_row : (i : Identifier) (parameters : List Kind) (k : Kind) → Callee r i parameters k → IsRowOf m kinds.function (named_row r written (named_at r i.site.token))
    name_row _ _ _ (of_program {i} {n} f names at text other) = subst (λ w. IsRowOf m kinds.function (named_row r written w)) (sym names) (none_of kinds.function refl)
    name_row _ _ _ (of_conditions {i} c names text) = subst (λ w. IsRowOf m kinds.function (named_row r written w)) (sym names) (none_of kinds.function refl)

    -- ---- expressions
    from : (k : Kind) (x row : Targets) → Some x ≡ Some row → IsRowOf m k x → IsRowOf m k row
    from k x row is w = subst (IsRowOf m k) (same_some x row is) w

    common_plain : (a b t : Kind) → Common a b t → stars_in t ≡ 0
    common_plain a b _ (both_shorter x y) = refl
    common_plain a b _ _ = refl

    constant_row_of : (c : Constant) (row : Targets) → constant_row c ≡ Some row → IsRowOf m (constant_kind c) row
    constant_row_of (Number n) row is = from (constant_kind (Number n)) no_row row is (none_of (constant_kind (Number n)) (plain n.number_type))
      where
        plain : (t : NumberType) → stars_in (number_kind t) ≡ 0
        plain NumberType.Int = refl
        plain NumberType.Long = refl
    constant_row_of (Character b) row is = from int no_row row is (none_of int refl)
    constant_row_of Null row is = absurd (none_some row is)

    behind_of : (b : Base) (n : ℕ) (o : Option Targets) → ((x : Targets) → o ≡ Some x → IsRowOf m (object b (n + 1)) x) → (row : Targets) → behind o ≡ Some row → IsRowOf m (object b n) row
    behind_of b n None all row is = absurd (none_some row is)
    behind_of b n (Some x) all row is = from (object b n) (deeper x) row is (deeper_row b n x (all x refl))

    module _ (kinds_are : (e : Expression) (k : Kind) → HasType r e k → kind_at r e ≡ k) where
      expression_row : (e : Expression) (k : Kind) → HasType r e k → AllByRecursion (CastFound r) (expressions e) → (row : Targets) → row_at r e ≡ Some row → IsRowOf m k row
      expression_row _ _ (typing.a_variable {s} {i} {token} {d} names at text) casts row is =
          from (declared_kind d.written) _ row is (subst (λ w. IsRowOf m (declared_kind d.written) (named_row r written w)) (sym names) (variable_row token d at written))
      expression_row _ _ (typing.a_global {s} {i} {n} {g} names at text) casts row is =
          from _ _ row is (subst (λ w. IsRowOf m (global_kind g.form (declared_kind g.declaration.written)) (named_row r written w)) (sym names)
          (subst (λ o. IsRowOf m (global_kind g.form (declared_kind g.declaration.written)) (global_row r written o)) (sym at) (global_row_of g (place_there (globals_in r.program.items) n g at) written)))
      expression_row _ _ (typing.a_function {s} {i} callee) casts row is = from kinds.function _ row is (name_row i _ _ callee)
      expression_row _ _ (typing.a_constant {s} {c}) casts row is = constant_row_of c row is
      expression_row _ _ (typing.in_parentheses {s} {a} {k} h) casts row is = expression_row a k h casts.1 row is
      expression_row _ _ (typing.element_of_pointer {s} {a} {i} {b} {n} ha hi integer) casts row is =
          behind_of b n (row_at r a) (λ x at. expression_row a (object b (n + 1)) ha (front (CastFound r) (expressions a) (expressions i) casts.1) x at) row
          (subst (λ z. cond z (row_at r a) (behind (row_at r a)) ≡ Some row) (ap is_array (kinds_are a (object b (n + 1)) ha)) is)
      expression_row _ _ (typing.element_of_array {s} {a} {i} {b} {n} ha hi integer) casts row is =
          same_kind (array b n) (object b n) row refl refl
          (expression_row a (array b n) ha (front (CastFound r) (expressions a) (expressions i) casts.1) row
          (subst (λ z. cond z (row_at r a) (behind (row_at r a)) ≡ Some row) (ap is_array (kinds_are a (array b n) ha)) is))
      expression_row _ _ (typing.a_call {s} {f} callee types) casts row is = from _ _ row is (callee_row f _ _ callee)
      expression_row _ _ (typing.a_field {s} {a} {x} {name} {d} h member names) casts row is =
          from (declared_kind d.written) _ row is (member_row x name.text d name.site.token (reading_through (base_use r Dot a)) member names)
      expression_row _ _ (typing.a_field_behind {s} {a} {x} {name} {d} h member names) casts row is =
          from (declared_kind d.written) _ row is (member_row x name.text d name.site.token (reading_through (base_use r Arrow a)) member names)
      expression_row _ _ (typing.negated {t} h integer common) casts row is = from t no_row row is (none_of t (common_plain _ _ t common))
      expression_row _ _ (typing.complemented {t} h integer common) casts row is = from t no_row row is (none_of t (common_plain _ _ t common))
      expression_row _ _ (typing.pointed_to {s} {a} {b} {n} h) casts row is = behind_of b n (row_at r a) (λ x at. expression_row a (object b (n + 1)) h casts.1 x at) row is
      expression_row _ _ (typing.arithmetic {t} class ha hb ia ib common) casts row is = from t no_row row is (none_of t (common_plain _ _ t common))
      expression_row _ _ (typing.shifted {t} class ha hb ia ib common) casts row is = from t no_row row is (none_of t (common_plain _ _ t common))
      expression_row _ _ (typing.spawned callee types) casts row is = from int no_row row is (none_of int refl)
      expression_row _ _ (typing.printed_or_joined h integer) casts row is = from kinds.void no_row row is (none_of kinds.void refl)
      expression_row _ _ (typing.locked lvalue h) casts row is = from kinds.void no_row row is (none_of kinds.void refl)
      expression_row _ _ (typing.unlocked lvalue h) casts row is = from kinds.void no_row row is (none_of kinds.void refl)
      expression_row _ _ (typing.freed lvalue h pointer) casts row is = from kinds.void no_row row is (none_of kinds.void refl)
      expression_row _ _ (typing.a_cast {s} {t} {a} lvalue h pointer) casts row is = from (declared_kind t) _ row is (there_row (cast_entity s t) (is_there m (cast_entity s t) casts.0) written)
      expression_row _ _ _ casts row is = from int no_row row is (none_of int refl)

-- ---- each expression of a function
pub expressions_found : EachTypeFound → MeetsConstraints → OneType → ExpressionsFound
expressions_found found meets one m resolved placed low size e at row is =
    let all = found m.typed resolved placed low in
    let types : HasType m.typed e (kind_at m.typed e) = of_each (λ x. HasType m.typed x (kind_at m.typed x)) (in_function at.owner) e
    (of_each (λ f. AllByRecursion (λ x. HasType m.typed x (kind_at m.typed x)) (in_function f)) (functions_in m.typed.program.items) at.owner (meets m.typed resolved placed low) at.stands) at.inside in
    let casts = function_casts m.typed all at.owner at.stands in
    expression_row m size all (one m.typed resolved placed low) e (kind_at m.typed e) types
    (to_each (CastFound m.typed) (expressions e) (λ x has. of_each (CastFound m.typed) (in_function at.owner) x casts (function_closed at.owner e x at.inside has))) row is

pub variables_found : EachTypeFound → VariablesFound
variables_found found m resolved placed low size token d is how = variable_row m size (found m.typed resolved placed low) token d is how

pub results_found : EachTypeFound → ResultsFound
results_found found m resolved placed low size f has = function_row m size (found m.typed resolved placed low) f has
