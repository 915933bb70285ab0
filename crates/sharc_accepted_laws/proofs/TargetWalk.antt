-- What a function declares and casts to is found by its tokens.
use Rattle.sharc_accepted_laws.proofs.{Imports.{◌≡◌, ⊎_elim, ℕ, ◌==◌, eqb-true, Bool, true, false, cond, List, [], ◌∷◌, ◌++◌, map, refl, sym, subst, Option, Some, None, Contains, AllByRecursion, Declaration, expressions, in_arguments, in_option, in_right, in_simple, in_local, in_first, in_head, in_statement, in_statements, in_function, Expression, Arguments, no_arguments, argument, Right, value, malloc, Simple, assign, does_call, First, nothing, declares, does, Head, Statement, Statements, no_statements, statement, Function, Item, structure, global, function, Role, Entity, declared, casts, first_entities, head_entities, statement_entities, statements_entities, result_of, function_entities, entities_in, Resolution, functions_in, declarations_of, declarations_in, declared_at, declaration_at, first_locals, locals_in_all, IsFound, EachTypeFound, IsOwn, IsCastFound, HasOwn, OwnAreFound, same_some, none_some, front, back, both, head_there, head_or_tail, of_each, to_each, tail_there, none_there, left_there, right_there, either_there}, TargetForms.skipped, TargetLists.each_mapped}
use Rattle.sharc_tree.specs.Tree as tree
use Rattle.sharc_ctype.specs.Statements.{locals_in}

module _ (r : Resolution) where
  abbrev Found : List Entity → Type 0
  Found list = AllByRecursion (IsFound r) list

  abbrev pub CastFound : Expression → Type 0
  CastFound = IsCastFound r

  abbrev IsLocalFound : Declaration → Type 0
  IsLocalFound d = IsFound r (declared Role.Local d)

  -- ---- casts
  casts_of : (list : List Expression) → Found (casts list) → AllByRecursion CastFound list
  casts_of [] h = tt
  casts_of (tree.cast s t a ∷ rest) h = (h.0, casts_of rest h.1)
  casts_of (tree.identifier s i ∷ rest) h = (tt, casts_of rest h)
  casts_of (tree.constant s c ∷ rest) h = (tt, casts_of rest h)
  casts_of (tree.parentheses s a ∷ rest) h = (tt, casts_of rest h)
  casts_of (tree.call s f all ∷ rest) h = (tt, casts_of rest h)
  casts_of (tree.spawn s f a ∷ rest) h = (tt, casts_of rest h)
  casts_of (tree.on_value s w a ∷ rest) h = (tt, casts_of rest h)
  casts_of (tree.on_place s w a ∷ rest) h = (tt, casts_of rest h)
  casts_of (tree.index s a i ∷ rest) h = (tt, casts_of rest h)
  casts_of (tree.field s a w n ∷ rest) h = (tt, casts_of rest h)
  casts_of (tree.unary s o a ∷ rest) h = (tt, casts_of rest h)
  casts_of (tree.binary s o at a b ∷ rest) h = (tt, casts_of rest h)

  first_casts : (x : First) → Found (first_entities x) → AllByRecursion CastFound (in_first x)
  first_casts nothing h = tt
  first_casts (declares l) h = casts_of (in_local l) h.1
  first_casts (does x) h = casts_of (in_simple x) h

  head_casts : (x : Head) → Found (head_entities x) → AllByRecursion CastFound (in_head x)
  head_casts x h =
      let f = first_entities x.first in
      let t = casts (in_option expressions x.test) in
      let s = casts (in_option in_simple x.step) in
      both CastFound (in_first x.first ++ in_option expressions x.test) (in_option in_simple x.step)
      (both CastFound (in_first x.first) (in_option expressions x.test) (first_casts x.first (front (IsFound r) f t (front (IsFound r) (f ++ t) s h))) (casts_of (in_option expressions x.test) (back (IsFound r) f t (front (IsFound r) (f ++ t) s h))))
      (casts_of (in_option in_simple x.step) (back (IsFound r) (f ++ t) s h))

  mutual
    statement_casts : (a : Statement) → Found (statement_entities a) → AllByRecursion CastFound (in_statement a)
    statement_casts (tree.block s all) h = statements_casts all h
    statement_casts (tree.declare s l) h = casts_of (in_local l) h.1
    statement_casts (tree.simple s x) h = casts_of (in_simple x) h
    statement_casts (tree.return s e) h = casts_of (in_option expressions e) h
    statement_casts (tree.if_then s e a) h = both CastFound (expressions e) (in_statement a) (casts_of (expressions e) (front (IsFound r) (casts (expressions e)) (statement_entities a) h)) (statement_casts a (back (IsFound r) (casts (expressions e)) (statement_entities a) h))
    statement_casts (tree.if_then_else s e a b) h =
        let left = front (IsFound r) (casts (expressions e) ++ statement_entities a) (statement_entities b) h in
        both CastFound (expressions e ++ in_statement a) (in_statement b)
        (both CastFound (expressions e) (in_statement a) (casts_of (expressions e) (front (IsFound r) (casts (expressions e)) (statement_entities a) left)) (statement_casts a (back (IsFound r) (casts (expressions e)) (statement_entities a) left)))
        (statement_casts b (back (IsFound r) (casts (expressions e) ++ statement_entities a) (statement_entities b) h))
    statement_casts (tree.while s e a) h = both CastFound (expressions e) (in_statement a) (casts_of (expressions e) (front (IsFound r) (casts (expressions e)) (statement_entities a) h)) (statement_casts a (back (IsFound r) (casts (expressions e)) (statement_entities a) h))
    statement_casts (tree.for s x a) h = both CastFound (in_head x) (in_statement a) (head_casts x (front (IsFound r) (head_entities x) (statement_entities a) h)) (statement_casts a (back (IsFound r) (head_entities x) (statement_entities a) h))
    statement_casts _ h = tt

    statements_casts : (all : Statements) → Found (statements_entities all) → AllByRecursion CastFound (in_statements all)
    statements_casts no_statements h = tt
    statements_casts (statement a rest) h = both CastFound (in_statement a) (in_statements rest) (statement_casts a (front (IsFound r) (statement_entities a) (statements_entities rest) h)) (statements_casts rest (back (IsFound r) (statement_entities a) (statements_entities rest) h))

  -- ---- locals
  first_declared : (x : First) → Found (first_entities x) → AllByRecursion IsLocalFound (first_locals x)
  first_declared (declares l) h = (h.0, tt)
  first_declared _ h = tt

  head_first : (x : Head) → Found (head_entities x) → Found (first_entities x.first)
  head_first x h =
      let t = casts (in_option expressions x.test) in
      front (IsFound r) (first_entities x.first) t (front (IsFound r) (first_entities x.first ++ t) (casts (in_option in_simple x.step)) h)

  mutual
    statement_declared : (a : Statement) → Found (statement_entities a) → AllByRecursion IsLocalFound (locals_in a)
    statement_declared (tree.block s all) h = statements_declared all h
    statement_declared (tree.declare s l) h = (h.0, tt)
    statement_declared (tree.if_then s e a) h = statement_declared a (back (IsFound r) (casts (expressions e)) (statement_entities a) h)
    statement_declared (tree.if_then_else s e a b) h =
        both IsLocalFound (locals_in a) (locals_in b)
        (statement_declared a (back (IsFound r) (casts (expressions e)) (statement_entities a) (front (IsFound r) (casts (expressions e) ++ statement_entities a) (statement_entities b) h)))
        (statement_declared b (back (IsFound r) (casts (expressions e) ++ statement_entities a) (statement_entities b) h))
    statement_declared (tree.while s e a) h = statement_declared a (back (IsFound r) (casts (expressions e)) (statement_entities a) h)
    statement_declared (tree.for s x a) h =
        both IsLocalFound (first_locals x.first) (locals_in a) (first_declared x.first (head_first x (front (IsFound r) (head_entities x) (statement_entities a) h))) (statement_declared a (back (IsFound r) (head_entities x) (statement_entities a) h))
    statement_declared _ h = tt

    statements_declared : (all : Statements) → Found (statements_entities all) → AllByRecursion IsLocalFound (locals_in_all all)
    statements_declared no_statements h = tt
    statements_declared (statement a rest) h =
        both IsLocalFound (locals_in a) (locals_in_all rest) (statement_declared a (front (IsFound r) (statement_entities a) (statements_entities rest) h)) (statements_declared rest (back (IsFound r) (statement_entities a) (statements_entities rest) h))

  -- ---- functions
  function_in : (items : List Item) → Found (entities_in items) → (f : Function) → Contains (functions_in items) f → Found (function_entities f)
  function_in [] all f has = absurd (none_there f has)
  function_in (structure s ∷ rest) all f has = function_in rest (back (IsFound r) (map (declared Role.Field) s.fields) (entities_in rest) all) f has
  function_in (global g ∷ rest) all f has = function_in rest all.1 f has
  function_in (function x ∷ rest) all f has =
      ⊎_elim (λ is. subst (λ z. Found (function_entities z)) is (front (IsFound r) (function_entities x) (entities_in rest) all)) (λ later. function_in rest (back (IsFound r) (function_entities x) (entities_in rest) all) f later)
      (head_or_tail x f (functions_in rest) has)

  pub function_casts : Found (entities_in r.program.items) → (f : Function) → Contains (functions_in r.program.items) f → AllByRecursion CastFound (in_function f)
  function_casts all f has = statements_casts f.statements (back (IsFound r) (result_of f ∷ map (declared Role.Parameter) f.parameters) (statements_entities f.statements) (function_in r.program.items all f has))

  pub result_found : Found (entities_in r.program.items) → (f : Function) → Contains (functions_in r.program.items) f → IsFound r (result_of f)
  result_found all f has = (front (IsFound r) (result_of f ∷ map (declared Role.Parameter) f.parameters) (statements_entities f.statements) (function_in r.program.items all f has)).0

  own_parameters : (ds : List Declaration) → Found (map (declared Role.Parameter) ds) → AllByRecursion (IsOwn r) ds
  own_parameters [] h = tt
  own_parameters (d ∷ rest) h = (record { what = Role.Parameter; is_local = refl; found = h.0 }, own_parameters rest h.1)

  own_locals : (ds : List Declaration) → AllByRecursion IsLocalFound ds → AllByRecursion (IsOwn r) ds
  own_locals [] h = tt
  own_locals (d ∷ rest) h = (record { what = Role.Local; is_local = refl; found = h.0 }, own_locals rest h.1)

  function_own : Found (entities_in r.program.items) → (f : Function) → Contains (functions_in r.program.items) f → HasOwn r f
  function_own all f has =
      let here = function_in r.program.items all f has in
      let heads = result_of f ∷ map (declared Role.Parameter) f.parameters in
      let head = front (IsFound r) heads (statements_entities f.statements) here in
      record {
        variables = both (IsOwn r) f.parameters (locals_in_all f.statements) (own_parameters f.parameters head.1)
            (own_locals (locals_in_all f.statements) (statements_declared f.statements (back (IsFound r) heads (statements_entities f.statements) here)));
        cast_types = function_casts all f has;
      }

  -- ---- declarations: fields, parameters and locals
  pub record IsDeclared (d : Declaration) : Type 0 where
    pub what : Role
    pub plain : skipped what ≡ 0
    pub found : IsFound r (declared what d)

  in_item : (i : Item) (rest : List Item) → Found (entities_in (i ∷ rest)) → (d : Declaration) → Contains (declarations_of i) d → IsDeclared d
  in_item (structure s) rest all d has =
      record { what = Role.Field; plain = refl; found = of_each (λ (z : Declaration). IsFound r (declared Role.Field z)) s.fields d (each_mapped (IsFound r) (declared Role.Field) s.fields (front (IsFound r) (map (declared Role.Field) s.fields) (entities_in rest) all)) has }
  in_item (global g) rest all d has = absurd (none_there d has)
  in_item (function f) rest all d has =
      let here = front (IsFound r) (function_entities f) (entities_in rest) all in
      let head = front (IsFound r) (result_of f ∷ map (declared Role.Parameter) f.parameters) (statements_entities f.statements) here in
      ⊎_elim (λ l. record { what = Role.Parameter; plain = refl; found = of_each (λ (z : Declaration). IsFound r (declared Role.Parameter z)) f.parameters d (each_mapped (IsFound r) (declared Role.Parameter) f.parameters head.1) l })
      (λ l. record { what = Role.Local; plain = refl; found = of_each IsLocalFound (locals_in_all f.statements) d (statements_declared f.statements (back (IsFound r) (result_of f ∷ map (declared Role.Parameter) f.parameters) (statements_entities f.statements) here)) l })
      (either_there f.parameters (locals_in_all f.statements) d has)

  item_back : (i : Item) (rest : List Item) → Found (entities_in (i ∷ rest)) → Found (entities_in rest)
  item_back (structure s) rest all = back (IsFound r) (map (declared Role.Field) s.fields) (entities_in rest) all
  item_back (global g) rest all = all.1
  item_back (function f) rest all = back (IsFound r) (function_entities f) (entities_in rest) all

  in_items : (items : List Item) → Found (entities_in items) → (d : Declaration) → Contains (declarations_in items) d → IsDeclared d
  in_items [] all d has = absurd (none_there d has)
  in_items (i ∷ rest) all d has = ⊎_elim (λ l. in_item i rest all d l) (λ l. in_items rest (item_back i rest all) d l) (either_there (declarations_of i) (declarations_in rest) d has)

  record IsAtToken (list : List Declaration) (token : ℕ) (d : Declaration) : Type 0 where
    has : Contains list d
    is : d.name.site.token ≡ token

  at_token : (list : List Declaration) (token : ℕ) (d : Declaration) → declared_at list token ≡ Some d → IsAtToken list token d
  at_token [] token d is = absurd (none_some d is)
  at_token (x ∷ rest) token d is = by (x.name.site.token == token) refl is (at_token rest token d)
    where
      by : (b : Bool) → (x.name.site.token == token) ≡ b → cond b (Some x) (declared_at rest token) ≡ Some d → (declared_at rest token ≡ Some d → IsAtToken rest token d) → IsAtToken (x ∷ rest) token d
      by true e is more = subst (IsAtToken (x ∷ rest) token) (same_some x d is) (record { has = head_there x rest; is = eqb-true x.name.site.token token e })
      by false e is more = let w = more is in record { has = tail_there x d rest w.has; is = w.is }

  pub record IsDeclaredAt (token : ℕ) (d : Declaration) : Type 0 where
    pub declared_there : IsDeclared d
    pub token_is : d.name.site.token ≡ token

  pub declaration_found : Found (entities_in r.program.items) → (token : ℕ) (d : Declaration) → declaration_at r token ≡ Some d → IsDeclaredAt token d
  declaration_found all token d is = let w = at_token (declarations_in r.program.items) token d is in record { declared_there = in_items r.program.items all d w.has; token_is = w.is }

pub own_found : EachTypeFound → OwnAreFound
own_found found r resolved placed low = to_each (HasOwn r) (functions_in r.program.items) (function_own r (found r resolved placed low))

-- ---- with an expression of a function those below it are
abbrev pub IsClosed : List Expression → Type 0
IsClosed list = (e x : Expression) → Contains list e → Contains (expressions e) x → Contains list x

none_closed : IsClosed []
none_closed e x has at = absurd (none_there e has)

both_closed : (a b : List Expression) → IsClosed a → IsClosed b → IsClosed (a ++ b)
both_closed a b left right e x has at = ⊎_elim (λ l. left_there a b x (left e x l at)) (λ l. right_there a b x (right e x l at)) (either_there a b e has)

over_closed : (t : Expression) (rest : List Expression) → expressions t ≡ t ∷ rest → IsClosed rest → IsClosed (t ∷ rest)
over_closed t rest is below e x has at =
    ⊎_elim (λ same. subst (λ l. Contains l x) is (subst (λ z. Contains (expressions z) x) (sym same) at)) (λ later. tail_there t x rest (below e x later at)) (head_or_tail t e rest has)

mutual
  expressions_closed : (t : Expression) → IsClosed (expressions t)
  expressions_closed (tree.parentheses s a) = over_closed (tree.parentheses s a) (expressions a) refl (expressions_closed a)
  expressions_closed (tree.call s f all) = over_closed (tree.call s f all) (in_arguments all) refl (arguments_closed all)
  expressions_closed (tree.spawn s f a) = over_closed (tree.spawn s f a) (expressions a) refl (expressions_closed a)
  expressions_closed (tree.on_value s w a) = over_closed (tree.on_value s w a) (expressions a) refl (expressions_closed a)
  expressions_closed (tree.on_place s w a) = over_closed (tree.on_place s w a) (expressions a) refl (expressions_closed a)
  expressions_closed (tree.cast s t a) = over_closed (tree.cast s t a) (expressions a) refl (expressions_closed a)
  expressions_closed (tree.index s a i) = over_closed (tree.index s a i) (expressions a ++ expressions i) refl (both_closed (expressions a) (expressions i) (expressions_closed a) (expressions_closed i))
  expressions_closed (tree.field s a w n) = over_closed (tree.field s a w n) (expressions a) refl (expressions_closed a)
  expressions_closed (tree.unary s o a) = over_closed (tree.unary s o a) (expressions a) refl (expressions_closed a)
  expressions_closed (tree.binary s o at a b) = over_closed (tree.binary s o at a b) (expressions a ++ expressions b) refl (both_closed (expressions a) (expressions b) (expressions_closed a) (expressions_closed b))
  expressions_closed k = over_closed k [] refl none_closed

  arguments_closed : (all : Arguments) → IsClosed (in_arguments all)
  arguments_closed no_arguments = none_closed
  arguments_closed (argument a rest) = both_closed (expressions a) (in_arguments rest) (expressions_closed a) (arguments_closed rest)

option_closed : (e : Option Expression) → IsClosed (in_option expressions e)
option_closed None = none_closed
option_closed (Some e) = expressions_closed e

right_closed : (x : Right) → IsClosed (in_right x)
right_closed (value e) = expressions_closed e
right_closed (malloc s n t) = option_closed n

simple_closed : (x : Simple) → IsClosed (in_simple x)
simple_closed (assign s u x) = both_closed (expressions u) (in_right x) (expressions_closed u) (right_closed x)
simple_closed (does_call e) = expressions_closed e

simples_closed : (x : Option Simple) → IsClosed (in_option in_simple x)
simples_closed None = none_closed
simples_closed (Some x) = simple_closed x

local_closed : (x : Option Right) → IsClosed (in_option in_right x)
local_closed None = none_closed
local_closed (Some x) = right_closed x

first_closed : (x : First) → IsClosed (in_first x)
first_closed nothing = none_closed
first_closed (declares l) = local_closed l.initial
first_closed (does x) = simple_closed x

head_closed : (x : Head) → IsClosed (in_head x)
head_closed x = both_closed (in_first x.first ++ in_option expressions x.test) (in_option in_simple x.step) (both_closed (in_first x.first) (in_option expressions x.test) (first_closed x.first) (option_closed x.test)) (simples_closed x.step)

mutual
  statement_closed : (a : Statement) → IsClosed (in_statement a)
  statement_closed (tree.block s all) = statements_closed all
  statement_closed (tree.declare s l) = local_closed l.initial
  statement_closed (tree.simple s x) = simple_closed x
  statement_closed (tree.return s e) = option_closed e
  statement_closed (tree.if_then s e a) = both_closed (expressions e) (in_statement a) (expressions_closed e) (statement_closed a)
  statement_closed (tree.if_then_else s e a b) = both_closed (expressions e ++ in_statement a) (in_statement b) (both_closed (expressions e) (in_statement a) (expressions_closed e) (statement_closed a)) (statement_closed b)
  statement_closed (tree.while s e a) = both_closed (expressions e) (in_statement a) (expressions_closed e) (statement_closed a)
  statement_closed (tree.for s x a) = both_closed (in_head x) (in_statement a) (head_closed x) (statement_closed a)
  statement_closed _ = none_closed

  statements_closed : (all : Statements) → IsClosed (in_statements all)
  statements_closed no_statements = none_closed
  statements_closed (statement a rest) = both_closed (in_statement a) (in_statements rest) (statement_closed a) (statements_closed rest)

pub function_closed : (f : Function) → IsClosed (in_function f)
function_closed f = statements_closed f.statements
