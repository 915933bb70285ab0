use Rattle.sharc_run.proofs.Imports.{◌≡◌, drop, find, was_refused_first}
use Rattle.sharc_run.proofs.other.first_refused.Given as goal

abbrev pub invariant-loop-t : goal.invariant-loop-t
invariant-loop-t l = find (was_refused_first l.c) (drop l.t-index l.threads) ≡ find (was_refused_first l.c) l.threads
