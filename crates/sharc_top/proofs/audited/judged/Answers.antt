use Rattle.sharc_top.proofs.Judging.{judges_by}
use Rattle.sharc_top.proofs.audited.judged.Goals as goal

pub returns : goal.returns
returns c = judges_by _ _ _ _ _ c.in_ok-verdict.verdict c.moded.ensures.rules c.in_ok-verdict.ensures c.status_of.ensures c.in_ok-text.ensures
