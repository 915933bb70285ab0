-- What the checker answers.
use Rattle.std.specs.{Prelude.{◌≡◌, List, []}, declared.result.Result.Result}
use Rattle.std.specs.declared.result.Result.TheVariants.{Ok, Err}
use Rattle.sharc_mode.specs.{declared.error.ModeError.ModeError, Moded.Assignment, WellModed.AreModeErrors}
use Rattle.sharc_check.specs.{Rules.MeetsRules, declared.answer.CheckFault.CheckFault}
use Rattle.sharc_check.specs.{declared.answer.CheckFault.TheVariants.{Modes, Memory}, Named.TellNamed, Orders.IsInOrder}

-- all the cases that arise, each once, in order
pub record AreAll (m : Assignment) (errors : List ModeError) : Type 0 where
  pub found : List ModeError
  pub arise : AreModeErrors m found
  pub ordered : IsInOrder found errors

-- there are some, and the program does not meet the rules
pub record IsRefused (m : Assignment) (errors : List ModeError) : Type 0 where
  pub all : AreAll m errors
  pub some : ¬ (errors ≡ [])
  pub breaks_rules : ¬ (MeetsRules m)

-- it is accepted or refused as it is, and in any case handed back; with the errors comes which variables and globals
-- lock paths name
abbrev pub Checks : Assignment → Result Assignment CheckFault → Type 0
Checks m (Ok c) = (c ≡ m) × MeetsRules m
Checks m (Err (Modes back errors named)) = (back ≡ m) × IsRefused m errors × TellNamed m named
Checks m (Err (Memory back)) = back ≡ m
