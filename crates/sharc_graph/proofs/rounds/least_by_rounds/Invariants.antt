use Rattle.sharc_graph.proofs.Imports.{◌≡◌, ℕ, ◌<◌, true, length, finding_at, flow_of, place_at, is_unwritten, IsInferred}
use Rattle.sharc_graph.proofs.rounds.least_by_rounds.Given as goal

abbrev pub invariant-loop-position : goal.invariant-loop-position
invariant-loop-position l = record {
  size : length l.findings.items ≡ l.position;
  each : (position : ℕ) → position < l.position → is_unwritten (place_at l.places position) ≡ true → IsInferred (flow_of l.places l.links) position (finding_at l.findings.items position);
}
