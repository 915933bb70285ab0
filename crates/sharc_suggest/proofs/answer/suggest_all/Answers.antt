use Rattle.sharc_suggest.proofs.{Imports.IfOk-weaker, CallLemmas.all_suggested}
use Rattle.sharc_suggest.proofs.answer.suggest_all.Goals as goal

pub returns : goal.returns
returns c = IfOk-weaker c.all_found.result _ _ (λ answer is. record {
  casts = c.in_ok-casts.casts.items;
  are = c.in_ok-casts.ensures;
  says = all_suggested c.in_ok-casts.casts.items c.as_slice.result.now answer.items c.in_ok-first.first.entries c.args.errors.now c.as_slice-2.result.now c.as_slice.ensures.value c.as_slice-2.ensures c.in_ok-first.ensures is;
}) c.all_found.ensures
