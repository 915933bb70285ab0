-- Types that are written in a typed program, and those of its expressions, have known structs, and no pointer leads to
-- `void`.
use Rattle.sharc_suggest_laws.proofs.{Imports.{◌≡◌, ℕ, zero, suc, slice_get, ◌+◌, ◌-◌, ◌==◌, Bool, true, false, cond, List, [], ◌∷◌, ◌++◌, length, Option, Some, None, refl, eqb-true, arith, and_parts, AllByRecursion, Base, Declaration, WrittenType, NumberType, GlobalDefinition, GlobalForm, Plain, Array, Initial, Constant, Number, Character, Null, UnaryOperator, Not, Dereference, expressions, Function, Expression, identifier, constant, parentheses, call, spawn, on_value, on_place, cast, index, field, unary, binary, Arguments, no_arguments, argument, Right, value, malloc, Simple, assign, does_call, Local, First, nothing, declares, does, Head, Statement, Statements, no_statements, statement, Item, structure, global, function, TypeNotAllowed, Named, Scope, Role, Kind, object, array, null, int, long, is_long, stars_of, declared_kind, element_kind, global_kind, StructTable, look_up, is_known, holds_void, is_allowed, allowed_there, type_notes, OperatorClass, Shift, Arithmetic, Standing, AsValue, AsLvalue, number_kind, constant_kind, unary_result, class_of, binary_result, count, notes_at, notes_of_all, sizes_notes, heads_notes, no_heads, fields_notes, parameters_notes, item_notes, items_notes, in_body, main_missing, file_scope, notes_about, Resolution, named_at, globals_in, functions_in, declarations_in, declared_at, variable_kind, global_kind_of, result_kind_of, named_kind, called_kind, kind_at, Around, opened, looping, with_names, count_notes, right_notes, simple_notes, initial_notes, local_notes, return_notes, first_notes, in_head, tests_notes, step_notes, head_notes, notes_in, notes_in_all, base_of, Giving, items_givings, joint, each, Entity, declared as declared_entity, casts, in_arguments as argument_expressions, in_option as option_expressions, in_right as right_expressions, in_simple as simple_expressions, local_entities, first_entities, head_entities, statement_entities, statements_entities, item_entities, entities_in, map}, Bases.{Have, both_casts, HaveCasts, HoldInAll, in_all, AreDeclared, IsGiven, first_casts}, Noted.{Clean, left, right, well}, Retyped.base_known}
use Rattle.sharc_tree.specs.Tree as tree
use Rattle.sharc_names.specs.Kinds as kinds
use Rattle.sharc_ctype.specs.{Expressions.wanted, Statements.{declared, behind_first, after}}

-- ---- a type whose struct is known, and that is no pointer to `void`

abbrev pub stars_in : Kind → ℕ
stars_in (object b n) = n
stars_in (array b n) = n
stars_in _ = 0

abbrev pub IsBare : Base → ℕ → Type 0
IsBare Base.Void stars = stars ≡ 0
IsBare _ stars = Unit {0}

pub record IsSound (structs : StructTable) (k : Kind) : Type 0 where
  pub known : is_known structs (base_of k) ≡ true
  pub bare : IsBare (base_of k) (stars_in k)

abbrev pub IsSoundType : StructTable → WrittenType → Type 0
IsSoundType structs w = IsSound structs (declared_kind w)

abbrev AreSound : StructTable → List Entity → Type 0
AreSound structs l = Have (IsSoundType structs) l

bare_by : (what : Role) (b : Base) (stars : ℕ) → is_allowed what b stars ≡ true → IsBare b stars
bare_by what Base.Void stars h = eqb-true stars 0 (and_parts (stars == 0) (holds_void what) h).0
bare_by what _ stars h = tt

type_sound : (scope : Scope) (siblings : List Declaration) (what : Role) (w : WrittenType) → Clean (type_notes scope siblings what w) → IsSoundType scope.structs w
type_sound scope siblings what w h = record {
  known = base_known scope.structs w.base.token w.ctype.base (left _ _ (left _ _ h));
  bare = bare_by what w.ctype.base (stars_of w) (well (allowed_there what w) w.span.first.token TypeNotAllowed (right _ _ (left _ _ h)));
}

-- ---- what is written in a program without a fault

two : (structs : StructTable) (a b : List Entity) → AreSound structs a → AreSound structs b → AreSound structs (a ++ b)
two structs a b f g = joint (λ (e : Entity). IsSoundType structs e.written) a b f g

mutual
  in_expression : (σ : Scope) (stands : Standing) (e : Expression) → Clean (notes_at stands σ e) → AreSound σ.structs (casts (expressions e))
  in_expression σ stands (parentheses s a) h = in_expression σ stands a h
  in_expression σ stands (call s f all) h = in_arguments σ (wanted (count all) (look_up σ.names f.text)) all (right _ _ h)
  in_expression σ stands (spawn s f a) h = in_expression σ AsValue a (left _ _ (left _ _ (left _ _ h)))
  in_expression σ stands (on_value s w a) h = in_expression σ AsValue a (left _ _ h)
  in_expression σ stands (on_place s w a) h = in_expression σ AsLvalue a (left _ _ (left _ _ h))
  in_expression σ stands (cast s t a) h =
      let heads = left _ _ (left _ _ h) in
      (type_sound σ [] Role.Cast t (left (type_notes σ [] Role.Cast t) _ heads), in_expression σ AsLvalue a (right (type_notes σ [] Role.Cast t) _ heads))
  in_expression σ stands (index s a i) h =
      both_casts (IsSoundType σ.structs) (expressions a) (expressions i) (in_expression σ AsValue a (left _ _ (left _ _ (left _ _ h)))) (in_expression σ AsValue i (right _ _ (left _ _ h)))
  in_expression σ stands (field s a w n) h = in_expression σ AsValue a (left _ _ (left _ _ h))
  in_expression σ stands (unary s o a) h = in_expression σ AsValue a (left _ _ h)
  in_expression σ stands (binary s o at a b) h =
      both_casts (IsSoundType σ.structs) (expressions a) (expressions b) (in_expression σ AsValue a (left _ _ (left _ _ (left _ _ (left _ _ h))))) (in_expression σ AsValue b (right _ _ (left _ _ (left _ _ h))))
  in_expression σ stands _ h = tt

  in_arguments : (σ : Scope) (wanting : List Kind) (all : Arguments) → Clean (notes_of_all σ wanting all) → AreSound σ.structs (casts (argument_expressions all))
  in_arguments σ wanting no_arguments h = tt
  in_arguments σ wanting (argument a rest) h =
      both_casts (IsSoundType σ.structs) (expressions a) (argument_expressions rest) (in_expression σ AsValue a (left _ _ (left _ _ (left _ _ h)))) (in_arguments σ _ rest (right _ _ h))

in_count : (σ : Scope) (e : Option Expression) → Clean (count_notes σ e) → AreSound σ.structs (casts (option_expressions expressions e))
in_count σ None h = tt
in_count σ (Some e) h = in_expression σ AsValue e (left _ _ h)

in_right : (σ : Scope) (want : Option Kind) (x : Right) → Clean (right_notes σ want x) → AreSound σ.structs (casts (right_expressions x))
in_right σ want (value e) h = in_expression σ AsValue e (left _ _ (left _ _ h))
in_right σ want (malloc s n t) h = in_count σ n (left _ _ (left _ _ h))

in_simple : (σ : Scope) (x : Simple) → Clean (simple_notes σ x) → AreSound σ.structs (casts (simple_expressions x))
in_simple σ (assign s u x) h = both_casts (IsSoundType σ.structs) (expressions u) (right_expressions x) (in_expression σ AsLvalue u (left _ _ (left _ _ (left _ _ h)))) (in_right σ _ x (right _ _ h))
in_simple σ (does_call e) h = in_expression σ AsValue e h

in_initial : (σ : Scope) (d : Declaration) (x : Option Right) → Clean (initial_notes σ d x) → AreSound σ.structs (casts (option_expressions right_expressions x))
in_initial σ d None h = tt
in_initial σ d (Some x) h = in_right σ _ x (right _ _ h)

in_local : (surroundings : Around) (σ : Scope) (l : Local) → Clean (local_notes surroundings σ l) → AreSound σ.structs (local_entities l)
in_local surroundings σ l h = (
  type_sound σ [] Role.Local l.declaration.written (left _ _ (left _ _ h)),
  in_initial (with_names σ (declared surroundings.block l.declaration σ.names)) l.declaration l.initial (right _ _ h),
)

in_first : (surroundings : Around) (σ : Scope) (f : First) → Clean (first_notes surroundings σ f) → AreSound σ.structs (first_entities f)
in_first surroundings σ nothing h = tt
in_first surroundings σ (declares l) h = in_local surroundings σ l h
in_first surroundings σ (does x) h = in_simple σ x h

in_tests : (σ : Scope) (e : Option Expression) → Clean (tests_notes σ e) → AreSound σ.structs (casts (option_expressions expressions e))
in_tests σ None h = tt
in_tests σ (Some e) h = in_expression σ AsValue e (left _ _ h)

in_step : (σ : Scope) (x : Option Simple) → Clean (step_notes σ x) → AreSound σ.structs (casts (option_expressions simple_expressions x))
in_step σ None h = tt
in_step σ (Some x) h = in_simple σ x h

in_for_head : (surroundings : Around) (σ : Scope) (x : Head) → Clean (head_notes surroundings σ x) → AreSound σ.structs (head_entities x)
in_for_head surroundings σ x h =
    let inner : Scope = in_head surroundings σ x in
    two σ.structs (first_entities x.first ++ casts (option_expressions expressions x.test)) (casts (option_expressions simple_expressions x.step))
    (two σ.structs (first_entities x.first) (casts (option_expressions expressions x.test)) (in_first surroundings σ x.first (left _ _ (left _ _ h))) (in_tests inner x.test (right _ _ (left _ _ h))))
    (in_step inner x.step (right _ _ h))

in_returned : (surroundings : Around) (σ : Scope) (word : ℕ) (e : Option Expression) → Clean (return_notes surroundings σ word e) → AreSound σ.structs (casts (option_expressions expressions e))
in_returned surroundings σ word None h = tt
in_returned surroundings σ word (Some e) h = in_expression σ AsValue e (right _ _ (left _ _ (left _ _ h)))

mutual
  in_statement : (surroundings : Around) (σ : Scope) (s : Statement) → Clean (notes_in surroundings σ s) → AreSound σ.structs (statement_entities s)
  in_statement surroundings σ (tree.block s all) h = in_statements (opened surroundings σ.names) σ all h
  in_statement surroundings σ (tree.declare s l) h = in_local surroundings σ l h
  in_statement surroundings σ (tree.simple s x) h = in_simple σ x h
  in_statement surroundings σ (tree.return s e) h = in_returned surroundings σ s.first.token e h
  in_statement surroundings σ (tree.if_then s e a) h =
      two σ.structs (casts (expressions e)) (statement_entities a) (in_expression σ AsValue e (left _ _ (left _ _ h))) (in_statement (opened surroundings σ.names) σ a (right _ _ h))
  in_statement surroundings σ (tree.if_then_else s e a b) h =
      two σ.structs (casts (expressions e) ++ statement_entities a) (statement_entities b)
      (two σ.structs (casts (expressions e)) (statement_entities a) (in_expression σ AsValue e (left _ _ (left _ _ (left _ _ h)))) (in_statement (opened surroundings σ.names) σ a (right _ _ (left _ _ h))))
      (in_statement (opened surroundings σ.names) σ b (right _ _ h))
  in_statement surroundings σ (tree.while s e a) h =
      two σ.structs (casts (expressions e)) (statement_entities a) (in_expression σ AsValue e (left _ _ (left _ _ h))) (in_statement (looping (opened surroundings σ.names)) σ a (right _ _ h))
  in_statement surroundings σ (tree.for s x a) h =
      let outer : Around = opened surroundings σ.names in
      two σ.structs (head_entities x) (statement_entities a) (in_for_head outer σ x (left _ _ h))
      (in_statement (looping (opened outer (behind_first outer σ.names x.first))) (in_head outer σ x) a (right _ _ h))
  in_statement surroundings σ _ h = tt

  in_statements : (surroundings : Around) (σ : Scope) (all : Statements) → Clean (notes_in_all surroundings σ all) → AreSound σ.structs (statements_entities all)
  in_statements surroundings σ no_statements h = tt
  in_statements surroundings σ (statement a rest) h =
      two σ.structs (statement_entities a) (statements_entities rest) (in_statement surroundings σ a (left _ _ h)) (in_statements surroundings (with_names σ (after surroundings σ.names a)) rest (right _ _ h))

in_fields : (σ : Scope) (all earlier ds : List Declaration) → Clean (fields_notes σ all earlier ds) → AreSound σ.structs (map (declared_entity Role.Field) ds)
in_fields σ all earlier [] h = tt
in_fields σ all earlier (d ∷ rest) h = (type_sound σ all Role.Field d.written (left _ _ (left _ _ h)), in_fields σ all (earlier ++ d ∷ []) rest (right _ _ h))

in_parameters : (block before : ℕ) (σ : Scope) (ds : List Declaration) → Clean (parameters_notes block before σ ds) → AreSound σ.structs (map (declared_entity Role.Parameter) ds)
in_parameters block before σ [] h = tt
in_parameters block before σ (d ∷ rest) h =
    (type_sound σ [] Role.Parameter d.written (left _ _ (left _ _ (left _ _ h))), in_parameters block (before + 1) (with_names σ (declared block d σ.names)) rest (right _ _ h))

in_item : (file : Scope) (i : Item) → Clean (item_notes file i) → AreSound file.structs (item_entities i)
in_item file (structure s) h = in_fields file s.fields [] s.fields h
in_item file (global g) h = (type_sound file [] Role.Global g.declaration.written (left _ _ (left _ _ h)), tt)
in_item file (function f) h = (
  type_sound file [] Role.Result f.result (left _ _ (left _ _ (left _ _ h))),
  two file.structs (map (declared_entity Role.Parameter) f.parameters) (statements_entities f.statements) (in_parameters (length file.names) 0 file f.parameters (right _ _ (left _ _ (left _ _ h))))
      (in_statements (record { result = declared_kind f.result; in_loop = false; block = length file.names }) (in_body file f) f.statements (right _ _ (left _ _ h))),
)

in_items : (file : Scope) (items : List Item) → Clean (items_notes file items) → AreSound file.structs (entities_in items)
in_items file [] h = tt
in_items file (i ∷ rest) h = two file.structs (item_entities i) (entities_in rest) (in_item file i (left _ _ h)) (in_items file rest (right _ _ h))

types_sound : (r : Resolution) → Clean (notes_about r.program) → Have (IsSoundType (file_scope r.program.items).structs) (entities_in r.program.items)
types_sound r clean =
    let file : Scope = file_scope r.program.items in
    in_items file r.program.items (right (heads_notes no_heads r.program.items) (items_notes file r.program.items) (left _ (sizes_notes file.structs 0 r.program.items) (left _ (main_missing (length r.program.tokens.list) file.names) clean)))

-- ---- the type of an expression

of_declaration : (structs : StructTable) (ds : List Declaration) (token : ℕ) → AreDeclared (IsSoundType structs) ds → IsSound structs (variable_kind (declared_at ds token))
of_declaration structs [] token all = record { known = refl; bare = refl }
of_declaration structs (d ∷ rest) token all = by (d.name.site.token == token) (of_declaration structs rest token all.1)
  where
    by : (b : Bool) → IsSound structs (variable_kind (declared_at rest token)) → IsSound structs (variable_kind (cond b (Some d) (declared_at rest token)))
    by true more = all.0
    by false more = more

array_sound : (structs : StructTable) (k : Kind) (f : GlobalForm) → IsSound structs k → IsSound structs (global_kind f k)
array_sound structs k Plain h = h
array_sound structs (object b n) (Array at count) h = record { known = h.known; bare = h.bare }
array_sound structs (array b n) (Array at count) h = h
array_sound structs null (Array at count) h = h
array_sound structs kinds.function (Array at count) h = h
array_sound structs k (Initial at minus c) h = h

of_global : (structs : StructTable) (gs : List GlobalDefinition) (n : ℕ) → AllByRecursion (λ (g : GlobalDefinition). IsSoundType structs g.declaration.written) gs → IsSound structs (global_kind_of (slice_get gs n))
of_global structs [] n all = record { known = refl; bare = refl }
of_global structs (g ∷ rest) zero all = array_sound structs (declared_kind g.declaration.written) g.form all.0
of_global structs (g ∷ rest) (suc n) all = of_global structs rest n all.1

of_result : (structs : StructTable) (fs : List Function) (n : ℕ) → AllByRecursion (λ (f : Function). IsSoundType structs f.result) fs → IsSound structs (result_kind_of (slice_get fs n))
of_result structs [] n all = record { known = refl; bare = refl }
of_result structs (f ∷ rest) zero all = all.0
of_result structs (f ∷ rest) (suc n) all = of_result structs rest n all.1

name_sound : (structs : StructTable) (r : Resolution) → HoldInAll (IsSoundType structs) r.program.items → (n : Named) → IsSound structs (named_kind r n)
name_sound structs r all (Named.Global n) = of_global structs (globals_in r.program.items) n all.globals
name_sound structs r all (Named.Variable token) = of_declaration structs (declarations_in r.program.items) token all.declarations
name_sound structs r all (Named.Field token) = of_declaration structs (declarations_in r.program.items) token all.declarations
name_sound structs r all _ = record { known = refl; bare = refl }

called_sound : (structs : StructTable) (r : Resolution) → HoldInAll (IsSoundType structs) r.program.items → (n : Named) → IsSound structs (called_kind r n)
called_sound structs r all (Named.Function n) = of_result structs (functions_in r.program.items) n all.results
called_sound structs r all (Named.Variable token) = record { known = refl; bare = refl }
called_sound structs r all (Named.Field token) = record { known = refl; bare = refl }
called_sound structs r all _ = record { known = refl; bare = refl }

either_sound : (structs : StructTable) (b : Bool) → IsSound structs (cond b long int)
either_sound structs true = record { known = refl; bare = tt }
either_sound structs false = record { known = refl; bare = tt }

number_sound : (structs : StructTable) (w : NumberType) → IsSound structs (number_kind w)
number_sound structs NumberType.Int = record { known = refl; bare = tt }
number_sound structs NumberType.Long = record { known = refl; bare = tt }

constant_sound : (structs : StructTable) (c : Constant) → IsSound structs (constant_kind c)
constant_sound structs (Number n) = number_sound structs n.number_type
constant_sound structs (Character byte) = record { known = refl; bare = tt }
constant_sound structs Null = record { known = refl; bare = refl }

bare_below : (b : Base) (n : ℕ) → IsBare b n → IsBare b (n - 1)
bare_below Base.Void n h = omega (arith, h)
bare_below _ n h = tt

element_sound : (structs : StructTable) (k : Kind) → IsSound structs k → IsSound structs (element_kind k)
element_sound structs (object b n) h = record { known = h.known; bare = bare_below b n h.bare }
element_sound structs (array b n) h = record { known = h.known; bare = h.bare }
element_sound structs _ h = h

unary_sound : (structs : StructTable) (o : UnaryOperator) (k : Kind) → IsSound structs k → IsSound structs (unary_result o k)
unary_sound structs Not k h = record { known = refl; bare = tt }
unary_sound structs Dereference k h = element_sound structs k h
unary_sound structs _ k h = either_sound structs (is_long k)

binary_sound : (structs : StructTable) (o : OperatorClass) (j k : Kind) → IsSound structs (binary_result o j k)
binary_sound structs Shift j k = either_sound structs (is_long j)
binary_sound structs Arithmetic j k = either_sound structs _
binary_sound structs _ j k = record { known = refl; bare = tt }

kind_sound : (structs : StructTable) (r : Resolution) → HoldInAll (IsSoundType structs) r.program.items → (e : Expression) → HaveCasts (IsSoundType structs) (expressions e) → IsSound structs (kind_at r e)
kind_sound structs r all (identifier s i) h = name_sound structs r all (named_at r i.site.token)
kind_sound structs r all (constant s c) h = constant_sound structs c
kind_sound structs r all (parentheses s a) h = kind_sound structs r all a h
kind_sound structs r all (call s f args) h = called_sound structs r all (named_at r f.site.token)
kind_sound structs r all (spawn s f a) h = record { known = refl; bare = tt }
kind_sound structs r all (cast s t a) h = h.0
kind_sound structs r all (index s a i) h = element_sound structs (kind_at r a) (kind_sound structs r all a (first_casts (IsSoundType structs) (expressions a) (expressions i) h))
kind_sound structs r all (field s a w n) h = name_sound structs r all (named_at r n.site.token)
kind_sound structs r all (unary s o a) h = unary_sound structs o (kind_at r a) (kind_sound structs r all a h)
kind_sound structs r all (binary s o at a b) h = binary_sound structs (class_of o) (kind_at r a) (kind_at r b)
kind_sound structs r all _ h = record { known = refl; bare = refl }

-- what is given in a typed program has such a type
abbrev pub IsGivenSound : Resolution → Giving → Type 0
IsGivenSound r g = IsSound (file_scope r.program.items).structs (kind_at r g.given)

pub given_sound : (r : Resolution) → Clean (notes_about r.program) → AllByRecursion (IsGivenSound r) (items_givings r.program.items)
given_sound r clean =
    let structs : StructTable = (file_scope r.program.items).structs in
    let all : HoldInAll (IsSoundType structs) r.program.items = in_all (IsSoundType structs) r (types_sound r clean) in
    each (IsGiven (IsSoundType structs)) (IsGivenSound r) (λ g h. kind_sound structs r all g.given h) (items_givings r.program.items) all.given
