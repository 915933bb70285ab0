use Rattle.sharc_flatten.proofs.Imports.{◌≡◌, ◌++◌, drop, pointers_among}
use Rattle.sharc_flatten.proofs.layouts.add_pointers.Given as goal

abbrev pub invariant-loop-field : goal.invariant-loop-field
invariant-loop-field l = l.pointers.items ++ pointers_among l.number (drop l.field-index l.fields) ≡ l.fn.pointers.items ++ pointers_among 0 l.fields
