use Rattle.sharc_wants_laws.proofs.{Imports.{◌∷◌}, Alone.passed_alone}
use Rattle.sharc_wants_laws.proofs.sole.passed_are_alone.Goals as goal

pub returns : goal.returns
returns c = λ x code s ls wt fits small test earlier checked register passes.
    passed_alone c.runs_stay.ensures.from_the_beginning c.runs_stand.ensures c.runs_report.ensures.tests x code s ls wt fits small test earlier
    ((c.run_laws.ensures.checked code s (test ∷ earlier)).0 checked) register passes
