use Rattle.sharc_dataflow.proofs.{Imports.{◌++◌, ◌∙◌, sym, ap, subst, Contains, all_nulled, all_warns, AreBetween}, Found.adds_uses, Halved.about_these}
use Rattle.sharc_dataflow.proofs.uses.nulled_reads.Goals as goal

pub returns : goal.returns
returns c = λ d is.
    let list = c.in_ok-list.list.items in
    let before = c.args.found.items in
    let after = c.in_ok-told.told.items in
    adds_uses d list before after
    (λ x h. c.in_ok-list.ensures x (subst (λ s. Contains (all_nulled s) x) (sym is) h))
    (about_these c.all_between.result.first c.all_between.result.last d c.in_ok-matter.matter.items list before after
    (subst (AreBetween c.all_between.result.first c.all_between.result.last) c.as_slice.ensures.value c.all_between.ensures)
    (c.in_ok-matter.ensures d is)
    (λ e s. c.in_ok-told.ensures e (c.as_slice-3.ensures.value ∙ s) ∙ ap (λ l. before ++ all_warns e l) c.as_slice-2.ensures.value))
