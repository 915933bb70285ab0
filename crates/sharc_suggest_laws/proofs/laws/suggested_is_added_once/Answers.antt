use Rattle.sharc_suggest_laws.proofs.Added.{suggested_is_added_once}
use Rattle.sharc_suggest_laws.proofs.laws.suggested_is_added_once.Goals as goal

pub returns : goal.returns
returns c = suggested_is_added_once
