use Rattle.sharc_ctype_laws.proofs.OnceNamed.{one_function_of_name}
use Rattle.sharc_ctype_laws.proofs.laws.one_function_of_name.Goals as goal

pub returns : goal.returns
returns c = one_function_of_name
