-- How the warnings are gathered, variable by variable. It retraces the code: what is answered is said in Uses.
use Rattle.std.specs.Prelude.{ℕ, List, [], ◌∷◌, ◌++◌, None}
use Rattle.sharc_dataflow.specs.{declared.step.Step.Step, declared.way.FlowWarning.FlowWarning, Code.Code, Sums.warns}
use Rattle.sharc_dataflow.specs.declared.step.Step.TheVariants as steps

-- the variables that the steps null

abbrev pub nulled_at : Step → List ℕ
nulled_at (steps.Null x k) = x ∷ []
nulled_at _ = []

abbrev pub all_nulled : List Step → List ℕ
all_nulled [] = []
all_nulled (a ∷ rest) = nulled_at a ++ all_nulled rest

-- the warnings about some variables
abbrev pub all_warns : Code → List ℕ → List FlowWarning
all_warns c [] = []
all_warns c (x ∷ rest) = warns x c None ++ all_warns c rest
