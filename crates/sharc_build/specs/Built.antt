-- What is built of a source: the checked code of the program that it is, or the reason why there is none.
use Rattle.std.specs.Prelude.{ℕ, Bool, List, Result, Ok, Err}
use Rattle.sharc_mode.specs.{declared.error.ModeError.ModeError, Moded.Assignment}
use Rattle.sharc_check.specs.{Rules.MeetsRules, Checks.IsRefused, Named.TellNamed}
use Rattle.sharc_code.specs.Ranges.{NumbersFit}
use Rattle.sharc_front_end.specs.{Compiled.IsCompiled, Front.{IsFront, IsSourceFault}}
use Rattle.sharc_build.specs.{declared.building.Built.Built, declared.building.BuildFault.BuildFault}
use Rattle.sharc_build.specs.declared.building.BuildFault.TheVariants.{Source, Modes, Memory}

-- It is this program, with its least modes, which meet the rules M1 to M11; and this is its code, whose numbers are in
-- the ranges that the machine asks for. So the code is faithful to the program (`built_is_faithful` of
-- sharc_sound_laws), and what every interleaving of it keeps is said by the laws of sharc_sound_laws.
pub record IsBuilt (source : List ℕ) (built : Built) : Type 0 where
  pub front : IsFront source built.checked
  pub accepted : MeetsRules built.checked
  pub compiled : IsCompiled built.checked built.code
  pub numbers : NumbersFit built.code

-- it is this program, which breaks the rules, in all these cases
pub record IsIllModed (source : List ℕ) (m : Assignment) (errors : List ModeError) (named : List Bool) : Type 0 where
  pub front : IsFront source m
  pub refused : IsRefused m errors
  pub paths : TellNamed m named

-- the first fault of the first stage that has one, or all the cases of M1 to M11
abbrev pub IsUnbuilt : List ℕ → BuildFault → Type 0
IsUnbuilt source (Source fault) = IsSourceFault source fault
IsUnbuilt source (Modes m errors named) = IsIllModed source m errors named
IsUnbuilt source Memory = Unit {0}

abbrev pub Builds : List ℕ → Result Built BuildFault → Type 0
Builds source (Ok built) = IsBuilt source built
Builds source (Err fault) = IsUnbuilt source fault
