use Rattle.sharc_meaning_tests.proofs.Imports.{◌≡◌, ◌≤◌, take, count_by, refers}
use Rattle.sharc_meaning_tests.proofs.starts.count_of.Given as goal

abbrev pub invariant-loop-value : goal.invariant-loop-value
invariant-loop-value l = record { counted : l.count ≡ count_by (refers l.number) (take l.value-index l.held); few : l.count ≤ l.value-index }
