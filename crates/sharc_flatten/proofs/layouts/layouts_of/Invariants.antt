use Rattle.sharc_flatten.proofs.Imports.{◌≡◌, ◌++◌, length, drop, structs_in, layouts_from, layouts_of, all_pointers, pointers_of}
use Rattle.sharc_flatten.proofs.layouts.layouts_of.Given as goal

abbrev pub invariant-loop-number : goal.invariant-loop-number
invariant-loop-number l = record {
  list : l.all.list.items ++ layouts_from (length l.all.pointers.items) (drop l.number (structs_in l.typed.program.items)) ≡ layouts_of l.typed;
  pointers : l.all.pointers.items ++ all_pointers (drop l.number (structs_in l.typed.program.items)) ≡ pointers_of l.typed;
}
