use Rattle.std.proofs.Common.{◌≡◌, List, ap, sym, subst, ◌∙◌}
use Rattle.sharc_ctype.specs.Resolved.{Resolution}
use Rattle.sharc_mode.specs.Moded.{Assignment}
use Rattle.sharc_audit.specs.{declared.audit.Verdict.Verdict, declared.line.EventLine.EventLine, Audited.Audits}
use Rattle.sharc_audit.specs.declared.audit.Verdict.TheVariants as verdict
use Rattle.sharc_traced.specs.{declared.cut.EventPrefix.EventPrefix, Cut.{HasLines, IsFront}}
use Rattle.sharc_traced.proofs.Cutting.{fuel_front, refused_front}
use Rattle.sharc_traced.proofs.cut.front_of.Goals as goal

pub returns-in-Fuel : goal.returns-in-Fuel
returns-in-Fuel c =
    let m : Assignment = c.args.checked.now in
    let typed : c.typed.result.now ≡ m.typed = c.typed.ensures ∙ ap (λ (x : Assignment). x.typed) c.moded.ensures.moded in
    let lines : List EventLine = c.in_ok-lines.lines.items in
    let has : HasLines m.typed c.args.events.now lines c.in_ok-lines.cut = subst (λ (r : Resolution). HasLines r c.args.events.now lines c.in_ok-lines.cut) typed c.in_ok-lines.ensures in
    let audits : Audits m 65536 lines (verdict.Fuel c.in-Fuel.n) =
    subst (λ (v : Verdict). Audits m 65536 lines v) c.in-Fuel.is (subst (λ (l : List EventLine). Audits m 65536 l c.in_ok-audit.field-0) c.of-lines.ensures c.in_ok-audit.ensures) in
    subst (λ (f : EventPrefix). IsFront m c.args.events.now f) (sym c.before-in-Fuel.ensures) (fuel_front m c.args.events.now lines c.in_ok-lines.cut has c.in-Fuel.n audits)

pub returns : goal.returns
returns c =
    let m : Assignment = c.args.checked.now in
    let typed : c.typed.result.now ≡ m.typed = c.typed.ensures ∙ ap (λ (x : Assignment). x.typed) c.moded.ensures.moded in
    let lines : List EventLine = c.in_ok-lines.lines.items in
    let has : HasLines m.typed c.args.events.now lines c.in_ok-lines.cut = subst (λ (r : Resolution). HasLines r c.args.events.now lines c.in_ok-lines.cut) typed c.in_ok-lines.ensures in
    let audits : Audits m 65536 lines (verdict.Fails c.in-Fails.n c.in-Fails.fault) =
    subst (λ (v : Verdict). Audits m 65536 lines v) c.in-Fails.is (subst (λ (l : List EventLine). Audits m 65536 l c.in_ok-audit.field-0) c.of-lines.ensures c.in_ok-audit.ensures) in
    subst (λ (f : EventPrefix). IsFront m c.args.events.now f) (sym c.before-in-Fails.ensures) (refused_front m c.args.events.now lines c.in_ok-lines.cut has c.in-Fails.n c.in-Fails.fault audits)
