use Rattle.sharc_schedule.proofs.Imports.{◌≡◌, ◌++◌, drop, places_text}
use Rattle.sharc_schedule.proofs.write.put_places.Given as goal

abbrev pub invariant-loop-i : goal.invariant-loop-i
invariant-loop-i l = l.text.items ++ places_text (drop l.i l.places) ≡ l.fn.text.items ++ places_text l.places
