use Rattle.sharc_flatten.proofs.{Imports.{◌≤◌, length}, StructLemmas.HasFrom}
use Rattle.sharc_flatten.proofs.source.enter_fields.Given as goal

abbrev pub decreases-loop-left : goal.decreases-loop-left
decreases-loop-left l = l.left

abbrev pub invariant-loop-left : goal.invariant-loop-left
invariant-loop-left l = record {
  few : l.left ≤ length l.fields;
  places : HasFrom l.fields l.left l.initial.places l.places;
}
