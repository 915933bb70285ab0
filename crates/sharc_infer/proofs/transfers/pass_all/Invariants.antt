use Rattle.sharc_infer.proofs.Imports.{◌≡◌, ◌++◌, drop, view_arguments, passed, given}
use Rattle.sharc_infer.proofs.transfers.pass_all.Given as goal

abbrev pub invariant-loop-i : goal.invariant-loop-i
invariant-loop-i l = l.links.items ++ given l.typed l.function (passed (drop l.i l.parameters) (view_arguments (drop l.i l.all))) ≡ l.fn.links.items ++ given l.typed l.function (passed l.parameters (view_arguments l.all))
