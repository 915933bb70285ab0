use Rattle.std.proofs.Common.{◌≡◌, take}
use Rattle.sharc_rounds.specs.Pace.{events_at_hands}
use Rattle.sharc_rounds.proofs.parts.Worker+BusSeat.events.Given as goal

abbrev pub invariant-loop-n : goal.invariant-loop-n
invariant-loop-n l = l.all ≡ events_at_hands (take l.n l.self.hands.items)
