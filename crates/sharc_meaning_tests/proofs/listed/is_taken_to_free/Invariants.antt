use Rattle.sharc_meaning_tests.proofs.Imports.{◌≡◌, take, is_taken_to_free}
use Rattle.sharc_meaning_tests.proofs.listed.is_taken_to_free.Given as goal

abbrev pub invariant-loop-e : goal.invariant-loop-e
invariant-loop-e l = l.taken ≡ is_taken_to_free (take l.e-index l.events) l.number
