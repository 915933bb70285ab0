-- How far an instruction of several turns has come, and which words its next step may ask for.
use Rattle.std.specs.Prelude.{ℕ, ◌≡◌, ◌<◌, Option, Some, None}
use Rattle.sharc_word.specs.declared.step.TheConstants.{THREADS}
use Rattle.sharc_code.specs.{declared.shape.Shape.Shape, declared.state.Stage.Stage}
use Rattle.sharc_code.specs.declared.state.Stage.TheVariants.{Makes, Names, Hands, Begins}
use Rattle.sharc_code.specs.Layout.{granules, first_cell}

-- the words for which the stage's next step may ask are there: a New has the first cell and the end of this shape, and
-- a Spawn the number of a thread
abbrev pub IsStageOf : Shape → Stage → Type 0
IsStageOf s (Makes state) = (state.arguments.first ≡ first_cell s) × (state.arguments.end ≡ granules s)
IsStageOf s (Names n) = n < THREADS
IsStageOf s (Hands n) = n < THREADS
IsStageOf s (Begins n) = n < THREADS
IsStageOf s _ = Unit {0}

-- the number of the thread that a Spawn is about to start, from the turn on that drew it
abbrev pub drawn_of : Stage → Option ℕ
drawn_of (Names n) = Some n
drawn_of (Hands n) = Some n
drawn_of (Begins n) = Some n
drawn_of _ = None

-- the number of the thread whose state the next turn sets to 1
abbrev pub begins_of : Stage → Option ℕ
begins_of (Begins n) = Some n
begins_of _ = None
