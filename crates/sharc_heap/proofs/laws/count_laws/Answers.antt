use Rattle.sharc_heap.proofs.Counts.{raise_counts, lower_counts, test_leaves}
use Rattle.sharc_heap.proofs.laws.count_laws.Goals as goal

pub returns : goal.returns
returns c = record { raise = raise_counts; lower = lower_counts; test = test_leaves }
