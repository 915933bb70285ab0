use Rattle.sharc_schedule.proofs.{Imports.{◌≡◌, ◌≤◌, List, Code, Shape, Turn, place_after, is_enabled, StandsAt}, Placing.passed}
use Rattle.sharc_schedule.proofs.places.place_of.Given as goal

abbrev pub invariant-loop-n : goal.invariant-loop-n
invariant-loop-n l = record {
  few : l.place ≤ l.n;
  is : (code : Code) (s : Shape) (turns : List Turn) → StandsAt code s turns l.walk → l.place ≡ passed (is_enabled code s l.limit (place_after code s turns)) l.n;
}
