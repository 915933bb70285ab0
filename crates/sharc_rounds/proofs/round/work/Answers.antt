use Rattle.std.proofs.{Common.{◌≡◌, get_or, set, sym, ◌∙◌, subst, arith}, lemmas.List.{get_or-set_same}}
use Rattle.sharc_bus.specs.Bus.{SeatView}
use Rattle.sharc_rounds.specs.{declared.worker.Worker.Worker, declared.stint.TheConstants.QUANTUM, Round.{MayAllRun, HaveAllRun}}
use Rattle.sharc_rounds.proofs.round.work.Goals as goal
use Rattle.sharc_lemmas.proofs.Lists.{any_default}

pub run_by_parts-requires-clause-may : goal.run_by_parts-requires-clause-may
run_by_parts-requires-clause-may g c =
    let code = c.args.lent.now.code.now in
    let s = c.args.lent.now.shape.now in
    let first : Worker SeatView = c.index_mut.result.now in
    subst (λ (w : Worker SeatView). MayAllRun code s c.args.lent.now.limit c.args.lent.now.shared.now QUANTUM w) (sym c.index_mut.ensures.value) (c.requires.may 0 first c.requires.some)

pub returns-in-CallerByParts-clause-each : goal.returns-in-CallerByParts-clause-each
returns-in-CallerByParts-clause-each g c = λ w d low.
    let code = c.args.lent.now.code.now in
    let s = c.args.lent.now.shape.now in
    let all = c.args.crew.now.items in
    let first : Worker SeatView = c.index_mut.result.now in
    let new : Worker SeatView = c.run_by_parts.new.self in
    let P = HaveAllRun code s c.args.lent.now.limit in
    let one = c.requires.alone c.in-CallerByParts.is in
    let e : 0 ≡ w = omega (arith, low, one) in
    let was : first ≡ get_or all 0 d = c.index_mut.ensures.value ∙ any_default all 0 first d c.requires.some in
    let is : get_or (set all 0 new) 0 d ≡ new = get_or-set_same all 0 new d c.requires.some in
    subst (λ k. P (get_or all k d) (get_or (set all 0 new) k d)) e
    (subst (λ y. P (get_or all 0 d) y) (sym is) (subst (λ x. P x new) was c.run_by_parts.ensures))
