use Rattle.sharc_suggest_laws.proofs.Repaired.{repairs_where_typed}
use Rattle.sharc_suggest_laws.proofs.laws.repairs_where_typed.Goals as goal

pub returns : goal.returns
returns c = repairs_where_typed c.each_name_once.ensures c.only_names.ensures c.each_type_found.ensures c.same_kinds.ensures
