-- The turns of a path that a bound on its length counts.
use Rattle.std.specs.Prelude.{ℕ, ◌+◌, ◌==◌, ◌||◌, Bool, true, false, not, List, [], ◌∷◌, if◌then◌else◌}
use Rattle.sharc_word.specs.{declared.step.WordOp.WordOp, declared.step.WordOp.TheVariants.Cas}
use Rattle.sharc_heap.specs.{declared.stage.NewTurn.NewTurn, declared.stage.NewTurn.TheVariants.Do}
use Rattle.sharc_heap.specs.{declared.stage.NewStage.NewStage, declared.stage.NewStage.TheVariants.Cell, State.turn_of}
use Rattle.sharc_code.specs.{declared.code.Code.Code, declared.shape.Shape.Shape, declared.state.TurnState.TurnState}
use Rattle.sharc_code.specs.{declared.state.TurnState.TheVariants.Tries, declared.state.Stage.Stage}
use Rattle.sharc_code.specs.declared.state.Stage.TheVariants.{Looks, Clears, Makes, Empties, Lowers, FreeLooks}
use Rattle.sharc_code.specs.declared.state.Stage.TheVariants.{FreeClears, Withdraws, WithdrawsFrom, Wakes}
use Rattle.sharc_code.specs.{Machine.Machine, Path.{turn, after, machine_after}}

abbrev pub is_failed_try : TurnState → Bool
is_failed_try Tries = true
is_failed_try _ = false

-- a Cas that found another word than the one that it was to replace
abbrev pub is_failed_cas : WordOp → ℕ → Bool
is_failed_cas (Cas expected new) found = not (found == expected)
is_failed_cas _ found = false

abbrev pub fails_in_new : NewTurn → ℕ → Bool
fails_in_new (Do step) found = is_failed_cas step.op found
fails_in_new _ found = false

-- a New clears one cell of its block
abbrev pub clears_cell : NewStage → Bool
clears_cell (Cell cell) = true
clears_cell _ = false

-- a failed Cas of a New or of a CondSignal, or one repetition of a New, Clear, Free or Exit over cells or granules,
-- with the failed Cas of Exit
abbrev pub repeats : Stage → ℕ → Bool
repeats (Makes state) found = clears_cell state.stage || fails_in_new (turn_of state) found
repeats (Wakes seen) found = not (found == seen)
repeats (Looks done all) found = true
repeats (Clears done all seen) found = true
repeats (Empties i elements) found = true
repeats (Lowers i elements of) found = true
repeats (FreeLooks done elements) found = true
repeats (FreeClears done elements seen) found = true
repeats (Withdraws row) found = true
repeats (WithdrawsFrom row seen) found = true
repeats _ found = false

-- a bound on the length of a path leaves out its failed tries, and these
abbrev pub is_left_out : Code → Shape → Machine → ℕ → Bool
is_left_out code s m found = is_failed_try (after (turn code s m) found).at.state || repeats m.own.stage found

-- the turns of a path that are not left out
abbrev pub paced_in : Code → Shape → Machine → List ℕ → ℕ
paced_in code s m [] = 0
paced_in code s m (found ∷ earlier) =
    paced_in code s m earlier + (if is_left_out code s (machine_after code s m earlier) found then 0 else 1)
