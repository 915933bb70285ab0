-- Functions: what their first registers hold, what they give, and their statements.
use Rattle.sharc_accepted_laws.proofs.{Imports.{◌≡◌, ℕ, zero, suc, ◌<◌, Bool, true, false, cond, List, [], ◌∷◌, ◌++◌, length, nat_lt, slice_get, refl, ap, sym, ◌∙◌, subst, arith, ltb-true, ltb-false, Option, Some, None, AllByRecursion, LowItems, LowStatements, in_function, Function, Item, structure, global, function, Named, declared_kind, GlobalCells, Resolution, functions_in, function_at, declaration_at, variable_kind, IsFair, function_transfers, IsItself, AllFair, ArePlain, EachNamesItself, EachNamesOwn, MeetsConstraints, MeetsStatements, is_reference, Assignment, written, declared_row, modes_of, IsFunction, parameters_scope, width_of, Context, ref_count, TypedSuits, Empty, Refers, Anything, Within, Signature, Setting, type_by, label_of, GivesBackBy, FunctionTypable, held_at, ResultLaws, AllStand, DeclaredStands, FunctionStands, FunctionsStand, pointers, variable_entry, entry_named, result_type, VariablesFound, typing, function_signature, setting_of, IsSet, IsPlaceIn, AreExpressionsTypable, none_some, back, of_each, to_each, place_there}, Assigned.Laws, Fresh.{StatementsFresh, fresh_functions}, Locals.in_each, Members.own_elements, Stated.{Does, Own, AllGiven, statements_are, signature_is, result_is}, Wholes.{Facts, facts_of}, StaticRegisters.{pointer_count, split}}
use Rattle.sharc_ctype.specs.Statements as ctype
use Rattle.sharc_ctype_laws.specs.Rules.{MeetsRules}
use Rattle.sharc_check.specs.Constructs.{locals_in_all}
use Rattle.sharc_flat.specs.Flattened as flat
use Rattle.sharc_typed_laws.specs.Places.{IsNamed}

-- ---- lists
no_more : {A : Type 0} (list : List A) (k : ℕ) → k < length list → slice_get list k ≡ None → ⊥
no_more [] k low is = omega (arith, low)
no_more (x ∷ rest) zero low is = none_some x (sym is)
no_more (x ∷ rest) (suc k) low is = no_more rest k (omega (arith, low)) is

low_functions : (items : List Item) → LowItems items → AllByRecursion (λ f. LowStatements f.statements) (functions_in items)
low_functions [] h = tt
low_functions (structure s ∷ rest) h = low_functions rest h.1
low_functions (global g ∷ rest) h = low_functions rest h.1
low_functions (function f ∷ rest) h = (h.0.2, low_functions rest h.1)

-- the laws of C types that are used
pub record TypeLaws : Type 0 where
  pub constraints : MeetsConstraints
  pub statements : MeetsStatements
  pub itself : EachNamesItself
  pub own : EachNamesOwn
  pub plain : ArePlain
  pub fair : AllFair

module _ (laws : Laws) (types : TypeLaws) (results : ResultLaws) (variables : VariablesFound) (suits : TypedSuits) (stand : FunctionsStand) (m : Assignment) (globals : List GlobalCells) (z : Setting) (alone : ℕ → Bool)
    (set : IsSet m globals z.code alone) (setting : z ≡ setting_of m globals z.code alone z.lines) (n : ℕ) (g : Function) (at : function_at m.typed n ≡ Some g) (typable : AreExpressionsTypable z alone n g) where
  abbrev r : Resolution
  r = m.typed

  abbrev c : Context
  c = flat.in_function m globals g

  there : IsFunction m g
  there = place_there (functions_in m.typed.program.items) n g at

  stands : FunctionStands m globals g
  stands = stand m set.accepted globals g there

  here : IsPlaceIn z alone n g (flat.in_function m globals g)
  here = record { set = set; setting = setting; function = at; closed = stands.parameters }

  facts : (d : Context) → IsPlaceIn z alone n g d → Facts d.program.typed g
  facts d h = facts_of types.constraints types.itself types.own types.plain d.program h.set.accepted n g h.function

  signature : z.signature n ≡ function_signature (flat.in_function m globals g) (alone n) g
  signature = signature_is laws results variables z alone n g typable facts (flat.in_function m globals g) here

  -- ---- at the entry
  -- the type of a parameter names parameters that are held
  variable_named : (q : ℕ) → IsNamed (held_at (flat.in_function m globals g)) (ref_count (parameters_scope g.parameters)) (typing.pointer (flat.in_function m globals g) q)
  variable_named q = by (slice_get (pointers (parameters_scope g.parameters)) q) refl
    where
      by : (o : Option ℕ) → slice_get (pointers (parameters_scope g.parameters)) q ≡ o → IsNamed (held_at (flat.in_function m globals g)) (ref_count (parameters_scope g.parameters)) (type_by (entry_named (flat.in_function m globals g) o))
      by None is p mentions = absurd mentions
      by (Some x) is p mentions =
          let s = split (parameters_scope g.parameters) q x is in
          let modes = modes_of m (declared_row m.typed written x) in
          let before : AllStand m s.before modes = subst (DeclaredStands m s.before) s.token (stands.parameters s.before s.after s.slot s.whole) in
          let all : AllStand m (parameters_scope g.parameters) modes = subst (λ l. AllStand m l modes) (sym s.whole) (laws.scopes.still m s.before (s.slot ∷ s.after) modes before) in
          laws.held.types (flat.in_function m globals g) (variable_kind (declaration_at m.typed x)) modes p (laws.held.declared m set.accepted x) all mentions

  takes_is : (q : ℕ) → variable_entry (flat.in_function m globals g) q ≡ (label_of typing (flat.in_function m globals g) n).env q
  takes_is q = by (nat_lt q (ref_count (parameters_scope g.parameters))) refl
    where
      some : q < ref_count (parameters_scope g.parameters) → (o : Option ℕ) → slice_get (pointers (parameters_scope g.parameters)) q ≡ o
          → entry_named (flat.in_function m globals g) o ≡ Refers (type_by (entry_named (flat.in_function m globals g) o))
      some low None is = absurd (no_more (pointers (parameters_scope g.parameters)) q (let k = pointer_count (parameters_scope g.parameters) in omega (arith, low, k)) is)
      some low (Some x) is = refl

      by : (b : Bool) → nat_lt q (ref_count (parameters_scope g.parameters)) ≡ b → variable_entry (flat.in_function m globals g) q ≡ cond b (Refers (typing.pointer (flat.in_function m globals g) q)) Empty
      by true is = some (ltb-true q (ref_count (parameters_scope g.parameters)) is) (slice_get (pointers (parameters_scope g.parameters)) q) refl
      by false is = laws.scopes.others (flat.in_function m globals g) q (ltb-false q (ref_count (parameters_scope g.parameters)) is)

  -- ---- what it gives
  gives_is : (b : Bool) → is_reference (declared_kind g.result) ≡ b → GivesBackBy z n typing (declared_kind g.result) b
  gives_is true is = (
    result_type (flat.in_function m globals g) g,
    results.none (flat.in_function m globals g) set.accepted g there,
    result_is laws results variables z alone n g typable facts (flat.in_function m globals g) here is,
    ap (λ (x : Signature). x.result_int) signature ∙ ap (λ b. cond b Anything (Within (width_of (declared_kind g.result)))) is,
  )
  gives_is false is = (
    ap (λ (x : Signature). x.result) signature ∙ ap (λ b. cond b (Refers (result_type (flat.in_function m globals g) g)) Empty) is,
    ap (λ (x : Signature). x.result_int) signature ∙ ap (λ b. cond b Anything (Within (width_of (declared_kind g.result)))) is,
  )

  -- ---- its statements
  given : AllGiven g m false g.statements
  given = record {
    inside = own_elements (in_function g);
    meets = of_each (MeetsRules m.typed) (functions_in m.typed.program.items) g (types.statements m.typed set.accepted.resolved set.accepted.placed set.accepted.low) there;
    low = of_each (λ f. LowStatements f.statements) (functions_in m.typed.program.items) g (low_functions m.typed.program.items set.accepted.low) there;
    transfers = to_each (Does g m) (function_transfers m.typed g) (λ t has. record {
      among = has;
      fair = of_each (IsFair m.typed) (function_transfers m.typed g) t (of_each (λ f. AllByRecursion (IsFair m.typed) (function_transfers m.typed f)) (functions_in m.typed.program.items) g (types.fair m.typed set.accepted.resolved set.accepted.placed set.accepted.low) there) has;
    });
    locals = to_each (Own g m) (locals_in_all g.statements) (λ l has. record {
      among = has;
      itself = of_each (λ l. IsItself m.typed Named.Variable l.declaration) (locals_in_all g.statements) l
          (in_each (IsItself m.typed Named.Variable) g.statements (back (IsItself m.typed Named.Variable) g.parameters (ctype.locals_in_all g.statements)
          (of_each (λ f. AllByRecursion (IsItself m.typed Named.Variable) (f.parameters ++ ctype.locals_in_all f.statements)) (functions_in m.typed.program.items) g (types.itself m.typed set.accepted.resolved set.accepted.placed set.accepted.low).variables there))) has;
    });
  }

  pub function_typable : FunctionTypable z n typing (flat.in_function m globals g) g
  function_typable = record {
    variables = λ q low. variable_named q;
    takes = λ q. ap (λ (x : Signature). x.takes q) signature ∙ takes_is q;
    takes_ints = λ j. ap (λ (x : Signature). x.takes_ints j) signature;
    gives = gives_is (is_reference (declared_kind g.result)) refl;
    statements = statements_are laws results variables z alone n g typable facts (flat.in_function m globals g) here false g.statements stands.statements
        (of_each (λ f. (d : Context) → d.scope ≡ parameters_scope f.parameters → StatementsFresh d f.statements) (functions_in m.typed.program.items) g (fresh_functions m.typed.program.tokens.list m.typed.program.items set.accepted.placed.items) there
        (flat.in_function m globals g) refl)
        (suits m set.accepted.resolved set.accepted.placed set.accepted.low set.accepted.least set.accepted.well globals n g at) given;
  }
