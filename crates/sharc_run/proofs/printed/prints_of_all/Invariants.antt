use Rattle.sharc_run.proofs.Imports.{◌≡◌, take, flat_map, prints_of}
use Rattle.sharc_run.proofs.printed.prints_of_all.Given as goal

abbrev pub invariant-loop-t : goal.invariant-loop-t
invariant-loop-t l = l.prints.items ≡ flat_map prints_of (take l.t-index l.threads)
