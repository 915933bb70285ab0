use Rattle.sharc_suggest.proofs.LawLemmas.{suggestions}
use Rattle.sharc_suggest.proofs.laws.suggest_laws.Goals as goal

pub returns : goal.returns
returns c = suggestions
