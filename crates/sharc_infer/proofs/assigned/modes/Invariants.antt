use Rattle.sharc_infer.proofs.Imports.{◌≡◌, ℕ, ◌<◌, length, get_or as slice_index_or, Private, finding_at, mode_found, settled_of}
use Rattle.sharc_infer.proofs.assigned.modes.Given as goal

abbrev pub invariant-loop-position : goal.invariant-loop-position
invariant-loop-position l = record {
  size : length l.modes.items ≡ l.position;
  each : (p : ℕ) → p < l.position → slice_index_or l.modes.items p Private ≡ mode_found (settled_of l.settled p) (finding_at l.findings p);
}
