use Rattle.sharc_run.proofs.Imports.{◌≡◌, drop, find, has_number}
use Rattle.sharc_run.proofs.other.with_number.Given as goal

abbrev pub invariant-loop-t : goal.invariant-loop-t
invariant-loop-t l = find (has_number l.number) (drop l.t-index l.threads) ≡ find (has_number l.number) l.threads
