use Rattle.sharc_infer.proofs.{Imports.{None, ap, ◌∙◌, get_or_default, finding_at, Private, mode_found, settled_of}, PositionLemmas.{size_more, each_more}}
use Rattle.sharc_infer.proofs.assigned.modes.Goals as goal

pub loop-position-preserved : goal.loop-position-preserved
loop-position-preserved c =
    let settled = c.args.settled.now in
    let findings = c.args.findings.now in
    let n = c.loop-position.position in
    let had = c.loop-position.invariant in
    let item = c.index-settled-position.is ∙ get_or_default settled n c.index-settled-position.result None c.loop-position-test.true in
    let at = c.in_ok-mode_found.ensures ∙ ap (λ s. mode_found s (finding_at findings n)) item in
    record {
      size = size_more c.loop-position.modes.items c.push.new.self.items n c.in_ok-mode_found.field-0 had.size c.in_ok-push.ensures.items;
      each = each_more (λ p. mode_found (settled_of settled p) (finding_at findings p)) Private c.loop-position.modes.items c.push.new.self.items n c.in_ok-mode_found.field-0 had.size c.in_ok-push.ensures.items at had.each;
    }
