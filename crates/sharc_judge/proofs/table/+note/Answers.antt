use Rattle.std.proofs.Common.{rules}
use Rattle.sharc_judge.proofs.Noting.{on_ok, noted_first, first_and_rest}
use Rattle.sharc_judge.proofs.table.+note.Goals as goal

pub returns-in_ok-insert-in-len1-up : goal.returns-in_ok-insert-in-len1-up
returns-in_ok-insert-in-len1-up t c = on_ok c.note.result (λ more q. noted_first c.args.topics.now _ _ q _ _ _ _ (first_and_rest c.args.topics.now _ c.in-len1-up.len_at_least (search rules)) (c.in_ok-insert-in-len1-up.ensures.updates.0 q) (more q)) c.note.ensures
