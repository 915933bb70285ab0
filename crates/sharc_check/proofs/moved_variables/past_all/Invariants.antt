use Rattle.sharc_check.proofs.Imports.{◌≡◌, drop, fold, past, past_all}
use Rattle.sharc_check.proofs.moved_variables.past_all.Given as goal

abbrev pub invariant-loop-note : goal.invariant-loop-note
invariant-loop-note l = fold past l.limit (drop l.note-index l.notes) ≡ past_all l.notes
