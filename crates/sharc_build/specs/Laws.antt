-- What the program that a source is meets.
use Rattle.std.specs.Prelude.{ℕ, List}
use Rattle.sharc_mode.specs.Moded.{Assignment}
use Rattle.sharc_check.specs.Rules.{MeetsRules}
use Rattle.sharc_flat_laws.specs.Typed.{IsTypedProgram}
use Rattle.sharc_front_end.specs.Front.{IsFront}

-- it is typed, and well-moded if its modes are accepted
abbrev pub FrontsAreTyped : Type 0
FrontsAreTyped = (source : List ℕ) (m : Assignment) → IsFront source m → MeetsRules m → IsTypedProgram m
