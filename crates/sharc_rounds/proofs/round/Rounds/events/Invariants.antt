use Rattle.std.proofs.Common.{◌≡◌, take}
use Rattle.sharc_rounds.specs.Pace.{events_of}
use Rattle.sharc_rounds.proofs.round.Rounds.events.Given as goal

abbrev pub invariant-loop-n : goal.invariant-loop-n
invariant-loop-n l = l.all ≡ events_of (take l.n l.self.threads.seats.items)
