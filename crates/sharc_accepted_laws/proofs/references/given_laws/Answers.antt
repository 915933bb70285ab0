use Rattle.sharc_accepted_laws.proofs.Given as given
use Rattle.sharc_accepted_laws.proofs.references.given_laws.Goals as goal

pub returns : goal.returns
returns c = given.given_laws c.rules_are_met.ensures c.all_fair.ensures c.each_names_itself.ensures
