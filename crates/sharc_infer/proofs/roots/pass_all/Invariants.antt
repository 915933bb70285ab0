use Rattle.sharc_infer.proofs.Imports.{◌≡◌, passed_below}
use Rattle.sharc_infer.proofs.roots.pass_all.Given as goal

abbrev pub invariant-loop-function : goal.invariant-loop-function
invariant-loop-function l = l.roots.items ≡ passed_below l.typed l.reached l.function l.fn.roots.items
