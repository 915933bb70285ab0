use Rattle.sharc_run.proofs.Imports.{rules, subst, answers_always, IsPermutation, IsStableByKey, nat_cmp, place_of}
use Rattle.sharc_run.proofs.printed.prints_in_order.Goals as goal

pub returns : goal.returns
returns c = record {
  all = subst (λ l. IsPermutation l c.sort_by_key.new.self.items) c.in_ok-prints.ensures c.in_ok-sort_by_key.ensures.permutation;
  in_order = c.in_ok-sort_by_key.ensures.sorted place_of (answers_always _ _ _ (λ f a r g h. search rules));
  ties = subst (λ l. IsStableByKey place_of nat_cmp l c.sort_by_key.new.self.items) c.in_ok-prints.ensures (c.in_ok-sort_by_key.ensures.stable place_of (answers_always _ _ _ (λ f a r g h. search rules)));
}
