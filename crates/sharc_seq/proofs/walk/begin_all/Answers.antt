use Rattle.sharc_seq.proofs.walk.begin_all.Goals as goal

pub returns : goal.returns
returns c = record {
  count = c.begin.ensures.count;
  each = c.in_ok-begin.ensures.each;
  numbers = c.in_ok-list_started.ensures;
}
