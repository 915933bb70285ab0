use Rattle.sharc_flatten.proofs.Imports.{◌≡◌, map, take, slot_of}
use Rattle.sharc_flatten.proofs.walk.begin.Given as goal

abbrev pub invariant-loop-declaration : goal.invariant-loop-declaration
invariant-loop-declaration l = l.slots.items ≡ map slot_of (take l.declaration-index l.parameters)
