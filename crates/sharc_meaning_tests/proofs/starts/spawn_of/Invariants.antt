use Rattle.sharc_meaning_tests.proofs.Imports.{◌≡◌, drop, find, spawns}
use Rattle.sharc_meaning_tests.proofs.starts.spawn_of.Given as goal

abbrev pub invariant-loop-e : goal.invariant-loop-e
invariant-loop-e l = find (spawns l.thread) (drop l.e-index l.events) ≡ find (spawns l.thread) l.events
