-- Functions with which a thread begins.
use Rattle.sharc_accepted_laws.proofs.{Imports.{◌≡◌, ◌≢◌, ℕ, zero, suc, ◌<◌, ◌||◌, Bool, true, false, cond, List, [], ◌∷◌, length, refl, ap, sym, ◌∙◌, subst, arith, slice_get, Option, Some, Contains, false≢true, ltb-true, ne_eqb, Base, Declaration, Function, Kind, object, void, is_pointer, is_null, declared_kind, GlobalCells, Parameter, Spawns, function_at, functions_in, declaration_at, variable_kind, IsThread, AllFair, EachNamesItself, SpawnsThreads, is_reference, pointed, Assignment, base_of, RowLaws, written, deeper, declared_row, modes_of, Sharing, private, RulesAreMet, parameters_scope, parameter_of, context_in as in_function, Context, Empty, Refers, EntryMentions, row_of, globals_target, IsShared, IsAccepted, IsClosedScope, BeginsAlone, SpawnedBegin, variable_type, pointers, entry_named, variable_entry, NumbersFound, VariablesFound, Shape, shape_of, stars_in, number, starts_private, targets_of, same_some, head_there, place_there}, Given.parameter_declared, StaticRegisters.names_lower}
use Rattle.sharc_invariant.specs.Types.{Targets, is_private}

-- a row whose target is not private
not_globals : (x : Targets) (target : ℕ) → target < length x.rows → (row_of x target).is_private ≡ false → is_private x (record { target = target; locks = [] }) ≡ false
not_globals x target low is =
    let apart : target ≡ globals_target x → ⊥ = λ e. omega (arith, e, low) in
    ap (λ b. elim b as (λ b. Bool) [ true ↦ true | false ↦ (row_of x target).is_private ]) (ne_eqb target (globals_target x) apart) ∙ is

starts_shared : (m : Assignment) (first : Sharing) (below : List Sharing) → (first ≡ private → ⊥) → (b : Base) → starts_private (shape_of b (first ∷ below)).forms ≡ false
starts_shared m private below none b = absurd (none refl)
starts_shared m _ below none b = refl

stars_some : (k : Kind) → is_pointer k ≡ true → 0 < stars_in k
stars_some (object b n) h = ltb-true 0 n h
stars_some _ h = absurd (false≢true h)

no_reference : (k : Kind) → k ≡ void → is_reference k ≡ false
no_reference k e = ap is_reference e

module _ (rows : RowLaws) (numbers_found : NumbersFound) (variables_found : VariablesFound) (threads : SpawnsThreads) (rules : RulesAreMet) (all_fair : AllFair) (themselves : EachNamesItself)
    (m : Assignment) (a : IsAccepted m) (globals : List GlobalCells) (n k : ℕ) (f : Function) (spawned : Spawns m.typed n k) (at : function_at m.typed k ≡ Some f) (scope : IsClosedScope m (parameters_scope f.parameters)) where
  abbrev c : Context
  c = in_function m globals f

  thread : IsThread m.typed k f
  thread =
      let t = threads m.typed a.resolved a.placed a.low n k spawned in
      subst (IsThread m.typed k) (same_some t.0 f (sym t.1.callable.at ∙ at)) t.1

  abbrev d : Declaration
  d = thread.parameter

  abbrev token : ℕ
  token = thread.parameter.name.site.token

  one : f.parameters ≡ thread.parameter ∷ []
  one = thread.parameters

  among : Contains f.parameters thread.parameter
  among = subst (λ ds. Contains ds thread.parameter) (sym one) (head_there thread.parameter [])

  is_declared : declaration_at m.typed thread.parameter.name.site.token ≡ Some thread.parameter
  is_declared = parameter_declared rules all_fair themselves m a f (place_there (functions_in m.typed.program.items) k f at) thread.parameter among

  -- its registers
  entry_at : (p : ℕ) (b : Bool) → is_pointer (declared_kind thread.parameter.written) ≡ b
      → variable_entry c p ≡ entry_named c (slice_get (cond b (thread.parameter.name.site.token ∷ []) []) p)
  entry_at p b is = ap (λ ds. entry_named c (slice_get (pointers (parameters_scope ds)) p)) one ∙ ap (λ z. entry_named c (slice_get (cond z (thread.parameter.name.site.token ∷ []) []) p)) is

  others : (p : ℕ) → p ≢ 0 → variable_entry c p ≡ Empty
  others zero apart = absurd (apart refl)
  others (suc p) apart = by (is_pointer (declared_kind thread.parameter.written)) refl
    where
      by : (b : Bool) → is_pointer (declared_kind thread.parameter.written) ≡ b → variable_entry c (suc p) ≡ Empty
      by true is = entry_at (suc p) true is
      by false is = entry_at (suc p) false is

  -- what is no reference is in no register
  reference : parameter_of f.parameters ≢ Parameter.Reference → variable_entry c 0 ≡ Empty
  reference none = by (is_pointer (declared_kind thread.parameter.written)) refl
    where
      by : (b : Bool) → is_pointer (declared_kind thread.parameter.written) ≡ b → variable_entry c 0 ≡ Empty
      by true is = absurd (none (ap parameter_of one ∙ ap (λ z. cond (z || is_null (declared_kind thread.parameter.written)) Parameter.Reference Parameter.Int) is))
      by false is = entry_at 0 false is

  closed : (q : ℕ) → EntryMentions (variable_entry c 0) q → ⊥
  closed q h = let low = names_lower c 0 q scope h in omega (arith, low)

  -- M7
  pointer_shared : is_pointer (declared_kind thread.parameter.written) ≡ true → IsShared (targets_of m) (Refers (variable_type c thread.parameter.name.site.token))
  pointer_shared pointer =
      let row = declared_row m.typed written thread.parameter.name.site.token in
      let fits = variables_found m a.resolved a.placed a.low a.least.modes thread.parameter.name.site.token thread.parameter is_declared written in
      let stars = stars_some (declared_kind thread.parameter.written) pointer in
      let some : 0 < row.count = omega (arith, stars, fits.count) in
      let first = rows.begins m row some fits.ends in
      let shape : Shape = shape_of (base_of (declared_kind thread.parameter.written)) (modes_of m row) in
      let found = numbers_found m shape (fits.there some) in
      let shared : pointed m (Some row) ≡ private → ⊥ = λ e. ((rules m).0 a.well).m7.parameters n k f thread.parameter (modes_of m (deeper row)) spawned at among (first ∙ ap (λ q. q ∷ modes_of m (deeper row)) e) in
      let plain : starts_private shape.forms ≡ false = ap (λ modes. starts_private (shape_of (base_of (declared_kind thread.parameter.written)) modes).forms) first ∙ starts_shared m (pointed m (Some row)) (modes_of m (deeper row)) shared (base_of (declared_kind thread.parameter.written)) in
      subst (λ (o : Option Declaration). is_private (targets_of m) (record { target = number m (shape_of (base_of (variable_kind o)) (modes_of m row)); locks = [] }) ≡ false) (sym is_declared)
      (not_globals (targets_of m) (number m shape) found.inside (ap (λ (r : _). r.is_private) found.row ∙ plain))

  shared : IsShared (targets_of m) (variable_entry c 0)
  shared = by (is_pointer (declared_kind thread.parameter.written)) refl
    where
      by : (b : Bool) → is_pointer (declared_kind thread.parameter.written) ≡ b → IsShared (targets_of m) (variable_entry c 0)
      by true is = subst (IsShared (targets_of m)) (sym (entry_at 0 true is)) (pointer_shared is)
      by false is = subst (IsShared (targets_of m)) (sym (entry_at 0 false is)) tt

  begins_alone : BeginsAlone m globals f
  begins_alone = record { result = no_reference (declared_kind f.result) thread.result; others = others; reference = reference; closed = closed; shared = shared }

pub spawned_begin : RowLaws → NumbersFound → VariablesFound → SpawnsThreads → RulesAreMet → AllFair → EachNamesItself → SpawnedBegin
spawned_begin rows numbers_found variables_found threads rules all_fair themselves m a globals n k f spawned at scope = begins_alone rows numbers_found variables_found threads rules all_fair themselves m a globals n k f spawned at scope
