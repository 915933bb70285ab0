-- What a new thread is handed: its type names nothing of a frame, so it passes wherever it stands.
use Rattle.std.specs.Prelude.{◌≡◌, ℕ, [], ◌∷◌, Some, true}
use Rattle.sharc_tree.specs.declared.tree.declaration.Declaration.{Declaration}
use Rattle.sharc_tree.specs.Tree.{Expression, Function, argument, no_arguments}
use Rattle.sharc_names.specs.Kinds.{is_pointer, declared_kind}
use Rattle.sharc_ctype.specs.{Reaches.Spawns, Resolved.function_at}
use Rattle.sharc_check.specs.Constructs.{IsCall}
use Rattle.sharc_flat.specs.{Flattened.{parameters_scope, in_function}, Scope.Context}
use Rattle.sharc_invariant.specs.{Labels.{Refers, Label}, Typed.Passes}
use Rattle.sharc_accepted_laws.specs.{Calls.argument_type, StaticLaws.IsAccepted, Scopes.IsClosedScope}
use Rattle.sharc_accepted_laws.specs.Static.{variable_entry}

-- with the argument of a spawn
abbrev pub ThreadsPass : Type 0
ThreadsPass = (c : Context) → IsAccepted c.program → (n k : ℕ) (g : Function) → Spawns c.program.typed n k
    → function_at c.program.typed k ≡ Some g → IsClosedScope c.program (parameters_scope g.parameters)
    → (d : Declaration) → g.parameters ≡ d ∷ [] → (a : Expression)
    → IsCall c.program g.parameters (argument a no_arguments) → is_pointer (declared_kind d.written) ≡ true
    → (l : Label) (r q : ℕ) → Passes l r q (Refers (argument_type c g.parameters (argument a no_arguments) d))
    (variable_entry (in_function c.program c.globals g) 0)
