use Rattle.sharc_meaning_tests.proofs.Imports.{◌≡◌, drop, list_any, is_passed}
use Rattle.sharc_meaning_tests.proofs.listed.any_passed.Given as goal

abbrev pub invariant-loop-e : goal.invariant-loop-e
invariant-loop-e l = list_any (is_passed l.typed l.number l.thread) (drop l.e-index l.events) ≡ list_any (is_passed l.typed l.number l.thread) l.events
