-- Where the pointer cells of a freed object are emptied, the program gives them up.
use Rattle.std.specs.Prelude.{ℕ, Bool, true, false, ◌≡◌, ◌+◌, List, [], ◌∷◌, ◌++◌, slice_index}
use Rattle.sharc_meaning.specs.{declared.given.GivenUp.GivenUp, declared.given.GivenUp.TheVariants.Emptied}
use Rattle.sharc_meaning.specs.Meaning.{Asked}
use Rattle.sharc_code.specs.{declared.code.Code.Code, declared.instr.Instr.TheVariants.Free, declared.state.Stage.Stage}
use Rattle.sharc_code.specs.declared.state.Stage.TheVariants.{Empties, Lowers, FreeLooks, FreeClears, Uncounts}
use Rattle.sharc_code.specs.Machine.{Machine, instr_at}

-- the stage is one of a Free, before the Freed of the object
abbrev pub is_emptying : Stage → Bool
is_emptying (Empties i elements) = true
is_emptying (Lowers i elements found) = true
is_emptying (FreeLooks done elements) = true
is_emptying (FreeClears done elements seen) = true
is_emptying (Uncounts elements) = true
is_emptying _ = false

-- the thread is at a Free, and the program gives up the pointer cells of the object that is freed, last of all
pub record IsEmptying (code : Code) (a : Asked) (at : Machine) : Type 0 where
  pub register : ℕ
  pub layout : ℕ
  pub site : ℕ
  pub next : instr_at code at.at.pc ≡ Free register layout site
  pub before : List GivenUp
  pub given_is : a.given_up ≡ before ++ Emptied (slice_index at.refs (at.at.refs + register)) ∷ []
