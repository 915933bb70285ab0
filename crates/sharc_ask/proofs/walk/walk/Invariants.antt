use Rattle.sharc_ask.proofs.Imports.{◌+◌, ◌*◌, Result, RunEnd, Known, view_state, RustValue as Value, size, stack_of, Comes, load}
use Rattle.sharc_ask.proofs.walk.walk.Given as goal

abbrev pub invariant-loop-stack : goal.invariant-loop-stack
invariant-loop-stack l = record {
  so_far : (r : Result Value RunEnd) (after : Known) → Comes l.program l.at (stack_of l.stack) (view_state l.st) r after → Comes l.program l.fn.begun (stack_of l.fn.left) (view_state l.fn.st) r after;
}

abbrev pub decreases-loop-stack : goal.decreases-loop-stack
decreases-loop-stack l = 64 * l.st.fuel + size l.at.plan + load (stack_of l.stack)
