use Rattle.sharc_accepted_laws.proofs.Taking as taking
use Rattle.sharc_accepted_laws.proofs.typability.taking_laws.Goals as goal

pub returns : goal.returns
returns c = taking.taking_laws c.meets_constraints.ensures c.one_type.ensures c.held_laws.ensures c.scope_laws.ensures c.expressions_found.ensures c.pointees_fit.ensures c.layouts_are.ensures c.casts_recast.ensures
