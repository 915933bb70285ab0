use Rattle.sharc_suggest_laws.proofs.Expected.{cast_has_expected}
use Rattle.sharc_suggest_laws.proofs.laws.cast_has_expected.Goals as goal

pub returns : goal.returns
returns c = cast_has_expected
