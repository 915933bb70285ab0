use Rattle.sharc_suggest_laws.proofs.Gone.{gone_where_expected}
use Rattle.sharc_suggest_laws.proofs.laws.gone_where_expected.Goals as goal

pub returns : goal.returns
returns c = gone_where_expected
