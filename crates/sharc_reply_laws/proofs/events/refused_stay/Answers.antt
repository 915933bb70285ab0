use Rattle.sharc_reply_laws.proofs.{Imports.{◌∷◌, ◌++◌}, Testing.{checks_stay, tests_stay}}
use Rattle.sharc_reply_laws.proofs.events.refused_stay.Goals as goal

pub returns-clause-checks : goal.returns-clause-checks
returns-clause-checks c = λ code s later check earlier checked is off.
    checks_stay code s check earlier later ((c.run_laws.ensures.checked code s (later ++ check ∷ earlier)).0 checked) is off

pub returns-clause-tests : goal.returns-clause-tests
returns-clause-tests c = λ code s later test earlier checked register site is other.
    tests_stay code s test earlier register site is other later ((c.run_laws.ensures.checked code s (later ++ test ∷ earlier)).0 checked)
