use Rattle.sharc_flatten.proofs.Imports.{◌≤◌, length, drop, structs_in, HasFields}
use Rattle.sharc_flatten.proofs.source.places_of.Given as goal

abbrev pub decreases-loop-left : goal.decreases-loop-left
decreases-loop-left l = l.left

abbrev pub invariant-loop-left : goal.invariant-loop-left
invariant-loop-left l = record {
  few : l.left ≤ length (structs_in l.typed.program.items);
  fields : HasFields (drop l.left (structs_in l.typed.program.items)) l.places;
}
