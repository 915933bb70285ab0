use Rattle.sharc_suggest_laws.proofs.Stay.{names_stay_where_typed}
use Rattle.sharc_suggest_laws.proofs.laws.names_stay_where_typed.Goals as goal

pub returns : goal.returns
returns c = names_stay_where_typed c.each_name_once.ensures c.only_names.ensures c.each_type_found.ensures
