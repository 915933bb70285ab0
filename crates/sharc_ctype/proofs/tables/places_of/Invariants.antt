use Rattle.sharc_ctype.proofs.Imports.{◌≡◌, ◌++◌, drop, view_items, places_of}
use Rattle.sharc_ctype.proofs.tables.places_of.Given as goal

abbrev pub invariant-loop-i : goal.invariant-loop-i
invariant-loop-i l = l.places.items ++ places_of l.form l.i (view_items (drop l.i l.items)) ≡ places_of l.form 0 (view_items l.items)
