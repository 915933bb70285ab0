use Rattle.sharc_run.proofs.Imports.{◌≡◌, drop, find, wrote_before}
use Rattle.sharc_run.proofs.other.first_writer.Given as goal

abbrev pub invariant-loop-t : goal.invariant-loop-t
invariant-loop-t l = find (wrote_before l.c l.thread) (drop l.t-index l.threads) ≡ find (wrote_before l.c l.thread) l.threads
