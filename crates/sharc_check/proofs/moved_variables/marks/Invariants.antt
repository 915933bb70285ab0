use Rattle.sharc_check.proofs.Imports.{◌≡◌, drop, fold, marked, marks}
use Rattle.sharc_check.proofs.moved_variables.marks.Given as goal

abbrev pub invariant-loop-note : goal.invariant-loop-note
invariant-loop-note l = fold marked l.flags.items (drop l.note-index l.notes) ≡ marks l.notes
