use Rattle.sharc_ctype.proofs.Imports.{◌≡◌, ◌++◌, take}
use Rattle.sharc_ctype.proofs.gather.add_all.Given as goal

abbrev pub invariant-loop-declaration : goal.invariant-loop-declaration
invariant-loop-declaration l = l.declared ≡ l.fn.declared ++ take l.declaration-index l.list
