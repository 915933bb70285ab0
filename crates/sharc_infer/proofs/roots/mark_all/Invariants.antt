use Rattle.sharc_infer.proofs.Imports.{◌≡◌, drop, mark_all}
use Rattle.sharc_infer.proofs.roots.mark_all.Given as goal

abbrev pub invariant-loop-parameter : goal.invariant-loop-parameter
invariant-loop-parameter l = mark_all l.typed l.function (drop l.parameter-index l.parameters) l.roots.items ≡ mark_all l.typed l.function l.parameters l.fn.roots.items
