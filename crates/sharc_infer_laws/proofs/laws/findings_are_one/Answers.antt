use Rattle.sharc_infer_laws.proofs.{Imports.finding_at, Findings.one_finding}
use Rattle.sharc_infer_laws.proofs.laws.findings_are_one.Goals as goal

pub returns : goal.returns
returns c = λ f a b left right p free. one_finding f p (finding_at a p) (finding_at b p) (left.each p free) (right.each p free)
