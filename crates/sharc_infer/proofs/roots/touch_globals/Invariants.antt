use Rattle.sharc_infer.proofs.Imports.{◌≡◌, touched_below}
use Rattle.sharc_infer.proofs.roots.touch_globals.Given as goal

abbrev pub invariant-loop-global : goal.invariant-loop-global
invariant-loop-global l = l.roots.items ≡ touched_below l.typed l.reached l.global l.fn.roots.items
