use Rattle.sharc_meaning_tests.proofs.Imports.{◌≡◌, take, events_of, answers_of}
use Rattle.sharc_meaning_tests.proofs.starts.answers_to.Given as goal

abbrev pub invariant-loop-e : goal.invariant-loop-e
invariant-loop-e l = l.answers.items ≡ answers_of (events_of l.thread (take l.e-index l.events))
