use Rattle.sharc_dataflow.proofs.{Imports.{subst, sym, ap, ◌∙◌, drop_all, narrowed, IsSame, view_piece, view_pieces, view_narrowing}, Narrows.whole_same}
use Rattle.sharc_dataflow.proofs.narrow.narrowed.Goals as goal

pub returns : goal.returns
returns c = λ d is.
    let first = c.args.variables.first in
    let last = c.args.variables.last in
    let end = c.loop-step.narrowed in
    subst (λ l. IsSame first last l d) (sym c.in_ok-kept.ensures)
    (whole_same first last d c.args.steps.now (view_piece end.now) (view_pieces end.waiting.items) is
    (sym (ap (λ l. narrowed first last l (view_narrowing end)) (sym (drop_all c.loop-step.step-index c.args.steps.now c.loop-step-test.false)) ∙ c.loop-step.invariant)))
