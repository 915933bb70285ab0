use Rattle.std.proofs.Common.{List}
use Rattle.sharc_code.specs.{declared.shape.Shape.Shape, Runs.Turn, Whole.place_after}
use Rattle.sharc_seq.specs.Walk.{StandsAt}
use Rattle.sharc_history.specs.Lasts.{AreLastsUpTo}
use Rattle.sharc_history.proofs.last.lasts.Given as goal

abbrev pub invariant-loop-number : goal.invariant-loop-number
invariant-loop-number l = (s : Shape) (turns : List Turn) → StandsAt l.code s turns l.walk → AreLastsUpTo l.code s (place_after l.code s turns) l.number l.lasts.items
