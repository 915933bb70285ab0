use Rattle.sharc_suggest_laws.proofs.Imports.{◌≡◌, ◌++◌, replicate, None}
use Rattle.sharc_suggest_laws.proofs.modes.add_none.Given as goal

abbrev pub invariant-loop-made : goal.invariant-loop-made
invariant-loop-made l = l.list.items ≡ l.fn.list.items ++ replicate l._made None
