use Rattle.sharc_dataflow.proofs.{Imports.{◌++◌, ◌/◌, length, take, sym, ap, ◌∙◌, take-append-drop}, Halved.{about_these, about_both}}
use Rattle.sharc_dataflow.proofs.uses.+about_all.Goals as goal

pub returns-in_ok-found-in-len2-up-2 : goal.returns-in_ok-found-in-len2-up-2
returns-in_ok-found-in-len2-up-2 k c = λ d is.
    let list = c.args.list.now in
    let half = length list / 2 in
    let these = c.split_at.result.0.now in
    let others = c.split_at.result.1.now in
    let before = c.args.found.items in
    let found = c.in_ok-found-in-len2-up.found.items in
    let after = c.in_ok-found-in-len2-up-2.found.items in
    about_both d list these others before found after
    (sym (ap (λ z. z ++ others) c.split_at.ensures.front ∙ ap (λ z. take half list ++ z) c.split_at.ensures.back ∙ take-append-drop half list))
    (about_these c.all_between.result.first c.all_between.result.last d c.in_ok-matter-in-len2-up.matter.items these before found c.all_between.ensures (c.in_ok-matter-in-len2-up.ensures d is)
    (λ e s. c.in_ok-found-in-len2-up.ensures e (c.as_slice.ensures.value ∙ s)))
    (about_these c.all_between-in-len2-up.result.first c.all_between-in-len2-up.result.last d c.in_ok-matter-in-len2-up-2.matter.items others found after c.all_between-in-len2-up.ensures (c.in_ok-matter-in-len2-up-2.ensures d is)
    (λ e s. c.in_ok-found-in-len2-up-2.ensures e (c.as_slice-in-len2-up.ensures.value ∙ s)))
