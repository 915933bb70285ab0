use Rattle.sharc_run.proofs.Imports.{◌≡◌, ◌++◌, take, flat_map, thread_line}
use Rattle.sharc_run.proofs.text.put_threads.Given as goal

abbrev pub invariant-loop-t : goal.invariant-loop-t
invariant-loop-t l = l.text.items ≡ l.fn.text.items ++ flat_map (thread_line l.code l.words l.threads) (take l.t-index l.threads)
