use Rattle.std.proofs.Common.{◌≡◌, ◌≤◌, take}
use Rattle.sharc_rounds.specs.Shares.{behind_last}
use Rattle.sharc_rounds.proofs.worker.workers_needed.Given as goal

abbrev pub invariant-loop-n : goal.invariant-loop-n
invariant-loop-n l = record {
  behind : l.behind ≡ behind_last (take l.n l.seats);
  few : l.behind ≤ l.n;
}
