use Rattle.sharc_mode.proofs.LawLemmas.{settled_mode, settled_reason, inferred, one}
use Rattle.sharc_mode.proofs.laws.mode_laws.Goals as goal

pub returns : goal.returns
returns c = record {
  settled = λ m least p within mode is. (settled_mode m least p within mode is, settled_reason m least p within mode is);
  inferred = λ m least p within is. inferred m least p within is;
  one = λ m a b are others. one m a b are others;
}
