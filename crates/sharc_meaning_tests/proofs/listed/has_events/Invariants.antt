use Rattle.sharc_meaning_tests.proofs.Imports.{◌≡◌, drop, list_any, is_of}
use Rattle.sharc_meaning_tests.proofs.listed.has_events.Given as goal

abbrev pub invariant-loop-e : goal.invariant-loop-e
invariant-loop-e l = list_any (is_of l.thread) (drop l.e-index l.events) ≡ list_any (is_of l.thread) l.events
