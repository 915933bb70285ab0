-- What holds of all that has a type holds of the fields, variables, globals and results of a program, and of the casts
-- in its functions.
use Rattle.sharc_suggest_laws.proofs.Imports.{◌≡◌, Bool, true, false, List, [], ◌∷◌, ◌++◌, map, refl, AllByRecursion, Declaration, GlobalDefinition, StructDefinition, expressions, in_option, in_right, in_simple, in_first, in_statement, in_statements, in_function, Expression, cast, First, nothing, declares, does, Head, Statement, Statements, no_statements, statement, Function, Item, structure, global, function, Role, Entity, declared, cast_entity, casts, first_entities, head_entities, statement_entities, statements_entities, result_of, item_entities, entities_in, structs_in, globals_in, functions_in, declarations_of, declarations_in, first_locals, locals_in, locals_in_all, front, back, joint}
use Rattle.sharc_tree.specs.Measures.{in_head}
use Rattle.sharc_tree.specs.Tree as tree

-- ---- of the casts among expressions

abbrev pub IsCastOf : (Entity → Type 0) → Expression → Type 0
IsCastOf P (cast s t a) = P (cast_entity s t)
IsCastOf P _ = Unit {0}

of_casts : (P : Entity → Type 0) (l : List Expression) → AllByRecursion P (casts l) → AllByRecursion (IsCastOf P) l
of_casts P [] h = tt
of_casts P (cast s t a ∷ rest) h = (h.0, of_casts P rest h.1)
of_casts P (_ ∷ rest) h = (tt, of_casts P rest h)

-- ---- of the casts and the locals of statements

abbrev pub IsLocalOf : (Entity → Type 0) → Declaration → Type 0
IsLocalOf P d = P (declared Role.Local d)

pub record InBody (P : Entity → Type 0) (es : List Expression) (ds : List Declaration) : Type 0 where
  pub casts : AllByRecursion (IsCastOf P) es
  pub locals : AllByRecursion (IsLocalOf P) ds

both_in : (P : Entity → Type 0) (a b : List Expression) (x y : List Declaration) → InBody P a x → InBody P b y → InBody P (a ++ b) (x ++ y)
both_in P a b x y f g = record { casts = joint (IsCastOf P) a b f.casts g.casts; locals = joint (IsLocalOf P) x y f.locals g.locals }

only_casts : (P : Entity → Type 0) (l : List Expression) → AllByRecursion P (casts l) → InBody P l []
only_casts P l h = record { casts = of_casts P l h; locals = tt }

first_in : (P : Entity → Type 0) (f : First) → AllByRecursion P (first_entities f) → InBody P (in_first f) (first_locals f)
first_in P nothing h = record { casts = tt; locals = tt }
first_in P (declares l) h = record { casts = of_casts P (in_option in_right l.initial) h.1; locals = (h.0, tt) }
first_in P (does x) h = only_casts P (in_simple x) h

head_in : (P : Entity → Type 0) (h : Head) → AllByRecursion P (head_entities h) → InBody P (in_head h) (first_locals h.first)
head_in P h all =
    let test : List Expression = in_option expressions h.test in
    let step : List Expression = in_option in_simple h.step in
    let heads = front P (first_entities h.first ++ casts test) (casts step) all in
    let first : InBody P (in_first h.first) (first_locals h.first) = first_in P h.first (front P (first_entities h.first) (casts test) heads) in
    record {
      casts = joint (IsCastOf P) (in_first h.first ++ test) step
          (joint (IsCastOf P) (in_first h.first) test first.casts (of_casts P test (back P (first_entities h.first) (casts test) heads)))
          (of_casts P step (back P (first_entities h.first ++ casts test) (casts step) all));
      locals = first.locals;
    }

mutual
  statement_in : (P : Entity → Type 0) (s : Statement) → AllByRecursion P (statement_entities s) → InBody P (in_statement s) (locals_in s)
  statement_in P (tree.block s all) h = statements_in P all h
  statement_in P (tree.declare s l) h = record { casts = of_casts P (in_option in_right l.initial) h.1; locals = (h.0, tt) }
  statement_in P (tree.simple s x) h = only_casts P (in_simple x) h
  statement_in P (tree.return s e) h = only_casts P (in_option expressions e) h
  statement_in P (tree.if_then s e a) h =
      both_in P (expressions e) (in_statement a) [] (locals_in a) (only_casts P (expressions e) (front P (casts (expressions e)) (statement_entities a) h)) (statement_in P a (back P (casts (expressions e)) (statement_entities a) h))
  statement_in P (tree.if_then_else s e a b) h =
      let heads = front P (casts (expressions e) ++ statement_entities a) (statement_entities b) h in
      both_in P (expressions e ++ in_statement a) (in_statement b) (locals_in a) (locals_in b)
      (both_in P (expressions e) (in_statement a) [] (locals_in a) (only_casts P (expressions e) (front P (casts (expressions e)) (statement_entities a) heads)) (statement_in P a (back P (casts (expressions e)) (statement_entities a) heads)))
      (statement_in P b (back P (casts (expressions e) ++ statement_entities a) (statement_entities b) h))
  statement_in P (tree.while s e a) h =
      both_in P (expressions e) (in_statement a) [] (locals_in a) (only_casts P (expressions e) (front P (casts (expressions e)) (statement_entities a) h)) (statement_in P a (back P (casts (expressions e)) (statement_entities a) h))
  statement_in P (tree.for s x a) h =
      both_in P (in_head x) (in_statement a) (first_locals x.first) (locals_in a) (head_in P x (front P (head_entities x) (statement_entities a) h)) (statement_in P a (back P (head_entities x) (statement_entities a) h))
  statement_in P _ h = record { casts = tt; locals = tt }

  statements_in : (P : Entity → Type 0) (all : Statements) → AllByRecursion P (statements_entities all) → InBody P (in_statements all) (locals_in_all all)
  statements_in P no_statements h = record { casts = tt; locals = tt }
  statements_in P (statement a rest) h =
      both_in P (in_statement a) (in_statements rest) (locals_in a) (locals_in_all rest) (statement_in P a (front P (statement_entities a) (statements_entities rest) h)) (statements_in P rest (back P (statement_entities a) (statements_entities rest) h))

-- ---- of a program

abbrev pub is_global : Role → Bool
is_global Role.Global = true
is_global _ = false

-- a declaration has it in its role, which is not that of a global
abbrev pub IsDeclaredAs : (Entity → Type 0) → Declaration → Type 0
IsDeclaredAs P d = (what : Role) × (is_global what ≡ false) × P (declared what d)

as_declared : (P : Entity → Type 0) (what : Role) → is_global what ≡ false → (ds : List Declaration) → AllByRecursion P (map (declared what) ds) → AllByRecursion (IsDeclaredAs P) ds
as_declared P what other [] h = tt
as_declared P what other (d ∷ rest) h = ((what, other, h.0), as_declared P what other rest h.1)

as_fields : (P : Entity → Type 0) (ds : List Declaration) → AllByRecursion P (map (declared Role.Field) ds) → AllByRecursion (λ (d : Declaration). P (declared Role.Field d)) ds
as_fields P [] h = tt
as_fields P (d ∷ rest) h = (h.0, as_fields P rest h.1)

as_locals : (P : Entity → Type 0) (ds : List Declaration) → AllByRecursion (IsLocalOf P) ds → AllByRecursion (IsDeclaredAs P) ds
as_locals P [] h = tt
as_locals P (d ∷ rest) h = ((Role.Local, refl, h.0), as_locals P rest h.1)

abbrev pub HasFields : (Entity → Type 0) → StructDefinition → Type 0
HasFields P s = AllByRecursion (λ (d : Declaration). P (declared Role.Field d)) s.fields

pub record IsHeldBy (P : Entity → Type 0) (items : List Item) : Type 0 where
  pub fields : AllByRecursion (HasFields P) (structs_in items)
  pub declarations : AllByRecursion (IsDeclaredAs P) (declarations_in items)
  pub globals : AllByRecursion (λ (g : GlobalDefinition). P (declared Role.Global g.declaration)) (globals_in items)
  pub results : AllByRecursion (λ (f : Function). P (result_of f)) (functions_in items)
  pub bodies : AllByRecursion (λ (f : Function). InBody P (in_function f) (locals_in_all f.statements)) (functions_in items)

pub held_by : (P : Entity → Type 0) (items : List Item) → AllByRecursion P (entities_in items) → IsHeldBy P items
held_by P [] h = record { fields = tt; declarations = tt; globals = tt; results = tt; bodies = tt }
held_by P (structure s ∷ rest) h =
    let more : IsHeldBy P rest = held_by P rest (back P (item_entities (structure s)) (entities_in rest) h) in
    let own = front P (item_entities (structure s)) (entities_in rest) h in
    record {
      fields = (as_fields P s.fields own, more.fields);
      declarations = joint (IsDeclaredAs P) s.fields (declarations_in rest) (as_declared P Role.Field refl s.fields own) more.declarations;
      globals = more.globals;
      results = more.results;
      bodies = more.bodies;
    }
held_by P (global g ∷ rest) h =
    let more : IsHeldBy P rest = held_by P rest (back P (item_entities (global g)) (entities_in rest) h) in
    record { fields = more.fields; declarations = more.declarations; globals = (h.0, more.globals); results = more.results; bodies = more.bodies }
held_by P (function f ∷ rest) h =
    let more : IsHeldBy P rest = held_by P rest (back P (item_entities (function f)) (entities_in rest) h) in
    let own = front P (item_entities (function f)) (entities_in rest) h in
    let parameters : List Entity = map (declared Role.Parameter) f.parameters in
    let body : InBody P (in_function f) (locals_in_all f.statements) = statements_in P f.statements (back P parameters (statements_entities f.statements) own.1) in
    record {
      fields = more.fields;
      declarations = joint (IsDeclaredAs P) (declarations_of (function f)) (declarations_in rest)
          (joint (IsDeclaredAs P) f.parameters (locals_in_all f.statements) (as_declared P Role.Parameter refl f.parameters (front P parameters (statements_entities f.statements) own.1)) (as_locals P (locals_in_all f.statements) body.locals))
          more.declarations;
      globals = more.globals;
      results = (own.0, more.results);
      bodies = (body, more.bodies);
    }
