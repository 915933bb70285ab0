use Rattle.sharc_dataflow.proofs.{Imports.{◌∙◌, None, sym, ap, subst, first_each, AreFirsts}, OrderLemmas.are_firsts}
use Rattle.sharc_dataflow.proofs.ordered.firsts.Goals as goal

pub returns : goal.returns
returns c = subst (AreFirsts c.args.found.items) (sym (c.in_ok-firsts.ensures ∙ ap (first_each None) c.as_slice.ensures.value)) (are_firsts c.args.found.items c.put_in_order.new.found.items c.in_ok-put_in_order.ensures)
