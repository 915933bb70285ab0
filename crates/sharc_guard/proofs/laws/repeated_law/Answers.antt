use Rattle.sharc_guard.proofs.Repeating.{drops_repeated, check_stands}
use Rattle.sharc_guard.proofs.laws.repeated_law.Goals as goal

pub returns-clause-drops : goal.returns-clause-drops
returns-clause-drops c = drops_repeated

pub returns-clause-stands : goal.returns-clause-stands
returns-clause-stands c = check_stands
