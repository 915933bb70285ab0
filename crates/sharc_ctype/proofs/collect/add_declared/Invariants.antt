use Rattle.sharc_ctype.proofs.Imports.{◌≡◌, ◌++◌, drop, map, declared}
use Rattle.sharc_ctype.proofs.collect.add_declared.Given as goal

abbrev pub invariant-loop-declaration : goal.invariant-loop-declaration
invariant-loop-declaration l = l.entities ++ map (declared l.role) (drop l.declaration-index l.list) ≡ l.fn.entities ++ map (declared l.role) l.list
