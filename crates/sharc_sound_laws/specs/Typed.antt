-- The code that is built of a source is typed, by the targets of the program that the source is.
use Rattle.std.specs.Prelude.{ℕ, List}
use Rattle.sharc_invariant.specs.{Labels.Labels, Typed.IsWellTyped}
use Rattle.sharc_accepted_laws.specs.{Accepted.IsSourceProgram, Targets.targets_of}
use Rattle.sharc_build.specs.{declared.building.Built.Built, Built.IsBuilt}

abbrev pub BuiltIsTyped : Type 0
BuiltIsTyped = (source : List ℕ) (built : Built) → IsBuilt source built
    → (ls : Labels) × IsWellTyped (targets_of built.checked) built.code ls

-- of a program that is as the laws of the code of sources ask
abbrev pub BuiltIsSource : Type 0
BuiltIsSource = (source : List ℕ) (built : Built) → IsBuilt source built → IsSourceProgram built.checked
