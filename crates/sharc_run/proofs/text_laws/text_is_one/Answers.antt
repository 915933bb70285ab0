use Rattle.sharc_run.proofs.OneText.{one_text}
use Rattle.sharc_run.proofs.text_laws.text_is_one.Goals as goal

pub returns : goal.returns
returns c = one_text
