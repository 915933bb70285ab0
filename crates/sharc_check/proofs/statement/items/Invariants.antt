use Rattle.sharc_check.proofs.Imports.{◌≡◌, ◌++◌, drop, view_items, items_notes}
use Rattle.sharc_check.proofs.statement.items.Given as goal

abbrev pub invariant-loop-one : goal.invariant-loop-one
invariant-loop-one l = l.notes.items ++ items_notes l.program (view_items (drop l.one-index l.items)) ≡ l.fn.notes.items ++ items_notes l.program (view_items l.items)
