use Rattle.sharc_flatten.proofs.Imports.{◌≤◌, ◌+◌, length, drop, structs_in, HasCells, HasLayouts}
use Rattle.sharc_flatten.proofs.source.structs_of.Given as goal

abbrev pub decreases-loop-left : goal.decreases-loop-left
decreases-loop-left l = l.left

abbrev pub invariant-loop-left : goal.invariant-loop-left
invariant-loop-left l = record {
  few : l.left ≤ length (structs_in l.typed.program.items);
  cells : HasCells (drop l.left (structs_in l.typed.program.items)) l.structs;
  layouts : HasLayouts (l.left + 2) (length (structs_in l.typed.program.items) + 2) (drop l.left (structs_in l.typed.program.items)) l.structs;
}
