use Rattle.sharc_flatten.proofs.Imports.{◌≡◌, ℕ, ◌<◌, Some, slice_get, Op, IsFew}
use Rattle.sharc_flatten.proofs.sizes.cells_fit.Given as goal

abbrev pub invariant-loop-op : goal.invariant-loop-op
invariant-loop-op l = (n : ℕ) (o : Op) → n < l.op-index → slice_get l.lines n ≡ Some o → IsFew o
