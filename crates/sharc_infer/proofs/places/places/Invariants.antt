use Rattle.sharc_infer.proofs.Imports.{◌≡◌, ℕ, ◌<◌, length, place_at, place_of, settled_of, root_of}
use Rattle.sharc_infer.proofs.places.places.Given as goal

abbrev pub invariant-loop-position : goal.invariant-loop-position
invariant-loop-position l = record {
  size : length l.places.items ≡ l.position;
  each : (p : ℕ) → p < l.position → place_at l.places.items p ≡ place_of (settled_of l.settled p) (root_of l.roots p);
}
