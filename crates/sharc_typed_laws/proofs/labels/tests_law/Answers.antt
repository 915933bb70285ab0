use Rattle.sharc_typed_laws.proofs.Law.{tests_typed}
use Rattle.sharc_typed_laws.proofs.labels.tests_law.Goals as goal

pub returns : goal.returns
returns c = tests_typed
