-- New threads.
use Rattle.sharc_accepted_laws.proofs.{Imports.{◌≡◌, ℕ, nat_lt, eq-eqb, Bool, true, false, cond, [], ◌∷◌, map, slice_get, refl, ap, sym, ◌∙◌, subst, Some, IsSomeAnd, Contains, or_left, AllByRecursion, list_any, Span, Declaration, Identifier, in_function, Expression, Arguments, no_arguments, argument, spawn, value, Function, Named, Kind, void, is_pointer, declared_kind, declared_kinds, Code, function_of, Parameter, of_all, Names, spawns, Spawns, Resolution, named_at, functions_in, function_at, declaration_at, variable_kind, variable, parameters_of, parameters_named, passed, IsThread, HaveTypes, one_more, Assignable, SpawnsByName, number_named, Assignment, IsFunction, IsCall, kind_of, is_ref, parameters_scope, context_in, parameter_of, width_of, Context, slot_of, int_count, IsScalar, Suits, ArgumentsSuit, Refers, Anything, Within, Signature, LessNumber, EntryMentions, IsShared, Setting, Handed, SpawnTyped, IsOf, argument_type, IsAccepted, BeginsAlone, width_named, integers, typing, function_signature, signature_by, is_numbered, is_spawned, is_main, is_start, setting_of, IsSet, head_there, of_each, place_there, passes_by as any_passes}, Arguments.{parameters_declared, passes_scalar}, Calls.{of_all_there, alone_is, narrower_same}, Facts.{Laws, expression_of, has_type}, Forms.{pointer_no_integer, pointer_reference, integer_no_reference, to_integer, passes_of, spawn_typed, function_parameters}}
use Rattle.sharc_check.specs.Constructs as constructs
use Rattle.sharc_flat.specs.Suits.{Passes}
use Rattle.sharc_invariant.specs.Typed as typed

module _ (laws : Laws) (c : Context) (code : Code) (alone : ℕ → Bool) (lines : ℕ) (set : IsSet c.program c.globals code alone) (n : ℕ) (g : Function) where
  abbrev m : Assignment
  m = c.program

  abbrev r : Resolution
  r = c.program.typed

  abbrev z : Setting
  z = setting_of c.program c.globals code alone lines

  a : IsAccepted m
  a = set.accepted

  from_list : (x : Expression) (want : Kind) → HaveTypes r (argument x no_arguments) (want ∷ []) → Assignable want (kind_of c x)
  from_list x want (one_more {k = k} t fits more) = subst (Assignable want) (sym (laws.one_type r a.resolved a.placed a.low x k t)) fits

  module _ (s : Span) (i : Identifier) (x : Expression) (at : IsOf c n g (spawn s i x)) where
    abbrev e : Expression
    e = spawn s i x

    abbrev all : Arguments
    all = argument x no_arguments

    -- ---- the function
    named_function : (k : ℕ) × (named_at r i.site.token ≡ Named.Function k)
    named_function =
        of_each (SpawnsByName r) (in_function g) e
        (of_each (λ f. AllByRecursion (SpawnsByName r) (in_function f)) (functions_in r.program.items) g (laws.name_functions r a.resolved a.placed a.low) (place_there (functions_in r.program.items) n g at.function)) at.parts.0

    abbrev k : ℕ
    k = named_function.0

    token_there : Contains (of_all spawns (in_function g)) i.site.token
    token_there = of_all_there spawns (in_function g) e i.site.token at.parts.0 (head_there i.site.token [])

    spawns_it : Spawns r n k
    spawns_it = subst (λ o. IsSomeAnd o (λ f. Names r (Named.Function k) (of_all spawns (in_function f)))) (sym at.function) (i.site.token, token_there, named_function.1)

    thread : (f : Function) × IsThread r k f
    thread = laws.spawn_threads r a.resolved a.placed a.low n k spawns_it

    abbrev f : Function
    f = thread.0

    there : function_at r k ≡ Some f
    there = thread.1.callable.at

    function_there : IsFunction m f
    function_there = place_there (functions_in r.program.items) k f there

    abbrev d : Declaration
    d = thread.1.parameter

    only : f.parameters ≡ d ∷ []
    only = thread.1.parameters

    -- ---- what it is handed
    parameters_are : parameters_named r (named_at r i.site.token) ≡ f.parameters
    parameters_are = ap (parameters_named r) named_function.1 ∙ ap parameters_of there

    is_call : IsCall m f.parameters all
    is_call = subst (λ ds. IsCall m ds all) parameters_are (constructs.spawned (expression_of laws c code alone lines set n g e at))

    assigned : Assignable (declared_kind d.written) (kind_of c x)
    assigned =
        let t = spawn_typed r s i x (kind_of c e) (has_type laws c code alone lines set n g e at) in
        from_list x (declared_kind d.written) (subst (HaveTypes r all) (function_parameters r i (t.0 ∷ []) void k f t.1 named_function.1 there ∙ ap declared_kinds only) t.2)

    handed_passes : Passes (declared_kind d.written) (kind_of c x)
    handed_passes = passes_of (declared_kind d.written) (kind_of c x) assigned

    -- it is a value
    pub handed_scalar : IsScalar (kind_of c x)
    handed_scalar = passes_scalar (declared_kind d.written) (kind_of c x) handed_passes

    passed_there : Contains (passed f.parameters all) record { receiver = variable d; source = value x }
    passed_there = subst (λ ds. Contains (passed ds all) record { receiver = variable d; source = value x }) (sym only) (head_there record { receiver = variable d; source = value x } [])

    signature_is : z.signature k ≡ function_signature (context_in m c.globals f) (alone k) f
    signature_is = ap (signature_by m c.globals (alone k)) there

    begins : BeginsAlone m c.globals f
    begins = laws.spawned_begin m a c.globals n k f spawns_it there (laws.functions_stand m a c.globals f function_there).parameters

    handed_by : Suits c x → (b : Bool) → is_ref c x ≡ b → Handed z n typing c (declared_kind d.written ∷ []) x k b
    handed_by suits true ref =
        let pointer : is_pointer (declared_kind d.written) ≡ true = sym handed_passes.0 ∙ ref in
        let standing = laws.calling.stand c a f function_there all (subst (λ ds. ArgumentsSuit c (declared_kinds ds) all) (sym only) (suits, handed_passes, tt)) in
        let fits = laws.arguments_fit c a f.parameters all d x is_call passed_there pointer in
        let parameter : (function_of code k).parameter ≡ Parameter.Reference =
        (set.rows k f there).parameter ∙ ap parameter_of only ∙ ap (λ b. cond b Parameter.Reference Parameter.Int) (pointer_reference (declared_kind d.written) pointer) in (
          argument_type c f.parameters all d,
          fits.goes,
          fits.names standing,
          pointer_no_integer (declared_kind d.written) pointer,
          parameter,
          λ q h. begins.closed q (subst (λ (y : Signature). EntryMentions (y.takes 0) q) signature_is h),
          λ q l. subst (λ (y : Signature). typed.Passes l q q (Refers (argument_type c f.parameters all d)) (y.takes 0)) (sym signature_is)
              (laws.threads c a n k f spawns_it there (laws.functions_stand m a c.globals f function_there).parameters d only x is_call pointer l q q),
          subst (λ (y : Signature). IsShared z.targets (y.takes 0)) (sym signature_is) begins.shared,
        )
    handed_by suits false other =
        let number = to_integer (declared_kind d.written) (kind_of c x) assigned other in
        let none : is_pointer (declared_kind d.written) ≡ false = sym handed_passes.0 ∙ other in
        let parameter : (function_of code k).parameter ≡ Parameter.Int =
        (set.rows k f there).parameter ∙ ap parameter_of only ∙ ap (λ b. cond b Parameter.Reference Parameter.Int) (integer_no_reference (declared_kind d.written) number) in
        (handed_passes.1 none, number, parameter, subst (λ (y : Signature). LessNumber (Within (width_of (declared_kind d.written))) (y.takes_ints 0)) (sym signature_is) (number_by (nat_lt 0 (int_count (parameters_scope f.parameters)))))
      where
        declared : declaration_at r d.name.site.token ≡ Some d
        declared = (subst (AllByRecursion (λ d. declaration_at r d.name.site.token ≡ Some d)) only (parameters_declared laws.themselves m a f function_there)).0

        width : width_named (context_in m c.globals f) (slice_get (integers (parameters_scope f.parameters)) 0) ≡ width_of (declared_kind d.written)
        width =
            ap (λ ds. width_named (context_in m c.globals f) (slice_get (integers (map slot_of ds)) 0)) only
            ∙ ap (λ b. width_named (context_in m c.globals f) (slice_get (cond b [] (d.name.site.token ∷ [])) 0)) (sym handed_passes.0 ∙ other)
            ∙ ap (λ o. width_of (variable_kind o)) declared

        number_by : (b : Bool) → LessNumber (Within (width_of (declared_kind d.written))) (cond b (Within (typing.width (context_in m c.globals f) 0)) Anything)
        number_by true = subst (λ w. LessNumber (Within (width_of (declared_kind d.written))) (Within w)) (sym width) (narrower_same (width_of (declared_kind d.written)))
        number_by false = tt

    -- ---- the start
    starts : is_start r k ≡ true
    starts =
        or_left (is_spawned r k) (is_main (function_at r k))
        (any_passes (λ f. list_any (λ token. is_numbered k (named_at r token)) (of_all spawns (in_function f))) (functions_in r.program.items) g (place_there (functions_in r.program.items) n g at.function)
        (any_passes (λ token. is_numbered k (named_at r token)) (of_all spawns (in_function g)) i.site.token token_there (ap (is_numbered k) named_function.1 ∙ eq-eqb k k refl)))

    spawn_by : Suits c x → SpawnTyped z n typing c x k (declared_kind d.written ∷ [])
    spawn_by suits = record {
      is = (set.rows k f there).low;
      starts = starts;
      shared = alone_is m c.globals (alone k) (function_at r k) ∙ set.alone_are.spawned n k spawns_it;
      handed = handed_by suits (is_ref c x) refl;
    }

    pub spawn_is_typed : Suits c x → SpawnTyped z n typing c x (number_named (named_at r i.site.token)) (declared_kinds (parameters_named r (named_at r i.site.token)))
    spawn_is_typed suits =
        subst (λ j. SpawnTyped z n typing c x j (declared_kinds (parameters_named r (named_at r i.site.token)))) (sym (ap number_named named_function.1))
        (subst (SpawnTyped z n typing c x k) (sym (ap declared_kinds (parameters_are ∙ only))) (spawn_by suits))
