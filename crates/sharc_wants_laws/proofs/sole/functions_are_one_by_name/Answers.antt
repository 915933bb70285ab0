use Rattle.sharc_wants_laws.proofs.Seeing.{same_function}
use Rattle.sharc_wants_laws.proofs.sole.functions_are_one_by_name.Goals as goal

pub returns : goal.returns
returns c = λ r resolved placed low. same_function r (c.each_names_itself.ensures r resolved placed low)
