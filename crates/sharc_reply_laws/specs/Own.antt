-- Whose the source events of a run are: a turn tells events of its own thread.
use Rattle.std.specs.Prelude.{◌≡◌, ◌==◌, ℕ, List, filter, map, reverse}
use Rattle.sharc_code.specs.{declared.code.Code.Code, declared.shape.Shape.Shape, Runs.{Turn, said_by}, Whole.Erase}
use Rattle.sharc_reply_laws.specs.Prints.{events_in}

-- so those of a thread, among the events of all, are what its own turns tell
abbrev pub TurnsTellOwn : Type 0
TurnsTellOwn = (code : Code) (s : Shape) (run : List Turn) (thread : ℕ) → filter (λ e. e.thread == thread)
    (events_in code s run) ≡ reverse (map (λ said. said.told) (said_by thread (Erase code s run)))
