-- Pieces of code, the paths through each, and how it is written down.
use Rattle.std.specs.Prelude.{List, [], ◌∷◌, ◌++◌}
use Rattle.sharc_dataflow.specs.declared.step.Step.{Step}
use Rattle.sharc_dataflow.specs.Flow.{Act, Reads, Nulls, Writes, To, Next, Broken, Continued, Ends, Piece, Goes, Does}
use Rattle.sharc_dataflow.specs.Flow.{Then, Either, Caught, Loop}
use Rattle.sharc_dataflow.specs.declared.step.Step.TheVariants as steps

-- Code goes somewhere, or does one thing; or it is a piece and then another, one of two, a piece whose continue leads
-- to its end, or a piece that is gone through again and again until a break.
pub data Code : Type 0 where
  goes_to : To → Code
  acts : Act → Code
  first_then : Code → Code → Code
  one_of : Code → Code → Code
  catches : Code → Code
  repeats : Code → Code

abbrev pub paths : Code → Piece
paths (goes_to t) = Goes t
paths (acts a) = Does a
paths (first_then a b) = Then (paths a) (paths b)
paths (one_of a b) = Either (paths a) (paths b)
paths (catches a) = Caught (paths a)
paths (repeats a) = Loop (paths a)

abbrev pub steps_to : To → List Step
steps_to Next = []
steps_to Broken = steps.Break ∷ []
steps_to Continued = steps.Continue ∷ []
steps_to Ends = steps.Return ∷ []

abbrev pub step_of : Act → Step
step_of (Reads x r) = steps.Read x r
step_of (Nulls x k) = steps.Null x k
step_of (Writes x) = steps.Write x

-- the steps of a piece
abbrev pub listing : Code → List Step
listing (goes_to t) = steps_to t
listing (acts a) = step_of a ∷ []
listing (first_then a b) = listing a ++ listing b
listing (one_of a b) = steps.Fork ∷ (listing a ++ steps.Other ∷ (listing b ++ steps.Join ∷ []))
listing (catches a) = steps.Catch ∷ (listing a ++ steps.Caught ∷ [])
listing (repeats a) = steps.Head ∷ (listing a ++ steps.Again ∷ [])
