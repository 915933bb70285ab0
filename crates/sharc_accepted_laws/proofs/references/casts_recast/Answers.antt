use Rattle.sharc_accepted_laws.proofs.Recasting as recasting
use Rattle.sharc_accepted_laws.proofs.references.casts_recast.Goals as goal

pub returns : goal.returns
returns c = recasting.casts_recast c.row_laws.ensures c.numbers_found.ensures c.expressions_found.ensures c.one_type.ensures c.rules_are_met.ensures c.meets_constraints.ensures
