use Rattle.sharc_meaning_tests.proofs.Imports.{◌≡◌, ◌++◌, in_thread_all}
use Rattle.sharc_meaning_tests.proofs.listed.push_thread.Given as goal

abbrev pub invariant-loop-which : goal.invariant-loop-which
invariant-loop-which l = l.list.items ≡ l.fn.list.items ++ in_thread_all l.thread l.which
