use Rattle.sharc_invariant.proofs.{Conflicts.runs_conflict, Tested.runs_test}
use Rattle.sharc_invariant.proofs.laws.runs_report.Goals as goal

pub returns-clause-conflicts : goal.returns-clause-conflicts
returns-clause-conflicts c = runs_conflict c.thread_laws.ensures.outcomes c.shadow_laws.ensures c.runs_stay.ensures.from_the_beginning

pub returns-clause-tests : goal.returns-clause-tests
returns-clause-tests c = runs_test c.runs_stay.ensures.from_the_beginning
