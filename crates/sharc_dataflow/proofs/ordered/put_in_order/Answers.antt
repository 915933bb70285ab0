use Rattle.sharc_dataflow.proofs.Imports.{rules, answers_always, read_and_since}
use Rattle.sharc_dataflow.proofs.ordered.put_in_order.Goals as goal

pub returns : goal.returns
returns c = record {
  each_once = c.in_ok-sort_by_key.ensures.permutation;
  in_order = c.in_ok-sort_by_key.ensures.sorted read_and_since (answers_always _ _ _ (λ f a r g h. search rules));
}
