-- The steps after an `if`, and of a turn of a loop before its body and after its step. It retraces the code.
use Rattle.std.specs.Prelude.{List, [], ◌∷◌, ◌++◌, Option, Some, None}
use Rattle.sharc_dataflow.specs.{declared.step.Step.Step, Code.{Code, listing}}
use Rattle.sharc_dataflow.specs.declared.step.Step.TheVariants as steps

abbrev pub if_ends : List Step
if_ends = steps.Other ∷ (steps.Join ∷ [])

abbrev pub body_begins : List Step
body_begins = steps.Fork ∷ (steps.Break ∷ (steps.Other ∷ (steps.Catch ∷ [])))

abbrev pub tested_loop_ends : List Step
tested_loop_ends = steps.Join ∷ (steps.Again ∷ [])

abbrev pub turn_begins : Option Code → List Step
turn_begins None = steps.Catch ∷ []
turn_begins (Some test) = listing test ++ body_begins

abbrev pub turn_ends : {A : Type 0} → Option A → List Step
turn_ends None = steps.Again ∷ []
turn_ends (Some test) = tested_loop_ends
