use Rattle.sharc_wants_laws.proofs.Followed.{code_followed}
use Rattle.sharc_wants_laws.proofs.follow.followed_law.Goals as goal

pub returns : goal.returns
returns c = code_followed
