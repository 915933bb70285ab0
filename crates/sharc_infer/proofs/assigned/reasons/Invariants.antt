use Rattle.sharc_infer.proofs.Imports.{◌≡◌, ℕ, ◌<◌, length, finding_at, reason_of, settled_of, root_of}
use Rattle.sharc_infer.proofs.assigned.reasons.Given as goal

abbrev pub invariant-loop-position : goal.invariant-loop-position
invariant-loop-position l = record {
  size : length l.reasons.items ≡ l.position;
  each : (p : ℕ) → p < l.position → root_of l.reasons.items p ≡ reason_of (settled_of l.settled p) (finding_at l.findings p) (root_of l.roots p);
}
