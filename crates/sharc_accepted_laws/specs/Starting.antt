-- Functions with which a thread begins: what they take is shared, and its type names nothing of another frame.
use Rattle.std.specs.Prelude.{◌≡◌, ◌≢◌, ℕ, false, List, Some}
use Rattle.sharc_tree.specs.Tree.{Function}
use Rattle.sharc_names.specs.Kinds.{declared_kind}
use Rattle.sharc_code.specs.declared.code.GlobalCells.{GlobalCells}
use Rattle.sharc_code.specs.declared.code.Parameter.TheVariants as parameters
use Rattle.sharc_ctype.specs.{Reaches.Spawns, Resolved.function_at}
use Rattle.sharc_meaning.specs.State.{is_reference}
use Rattle.sharc_mode.specs.Moded.{Assignment}
use Rattle.sharc_flat.specs.Flattened.{parameters_scope, parameter_of, in_function}
use Rattle.sharc_invariant.specs.{Labels.{Empty, EntryMentions}, Typed.IsShared}
use Rattle.sharc_accepted_laws.specs.{StaticLaws.IsAccepted, Scopes.IsClosedScope, Static.variable_entry}
use Rattle.sharc_accepted_laws.specs.Targets.{targets_of}

-- what the registers of such a function hold at its entry
pub record BeginsAlone (m : Assignment) (globals : List GlobalCells) (f : Function) : Type 0 where
  pub result : is_reference (declared_kind f.result) ≡ false
  pub others : (p : ℕ) → p ≢ 0 → variable_entry (in_function m globals f) p ≡ Empty
  pub reference : parameter_of f.parameters ≢ parameters.Reference → variable_entry (in_function m globals f) 0 ≡ Empty
  pub closed : (q : ℕ) → EntryMentions (variable_entry (in_function m globals f) 0) q → ⊥
  pub shared : IsShared (targets_of m) (variable_entry (in_function m globals f) 0)

-- one that is spawned anywhere
abbrev pub SpawnedBegin : Type 0
SpawnedBegin = (m : Assignment) → IsAccepted m
    → (globals : List GlobalCells) (n k : ℕ) (f : Function) → Spawns m.typed n k → function_at m.typed k ≡ Some f
    → IsClosedScope m (parameters_scope f.parameters) → BeginsAlone m globals f
