use Rattle.sharc_schedule.proofs.Imports.{◌≡◌, ◌≤◌, true, List, Turn, place_after, is_enabled, enabled, StandsAt, events_left, GoesAt, HurriedOn, IsGoing, place_in}
use Rattle.sharc_schedule.proofs.places.Going.hurry_on.Given as goal

abbrev pub invariant-turns : goal.invariant-turns
invariant-turns l = record {
  going : IsGoing l.code l.shape l.limit l.self;
  went : (turns : List Turn) → GoesAt l.code l.shape l.limit turns l.fn.self → HurriedOn l.code l.shape l.limit l.t turns true l.self;
  on : (turns : List Turn) → StandsAt l.code l.shape turns l.self.walk → is_enabled l.code l.shape l.limit (place_after l.code l.shape turns) l.t ≡ true;
  place : (turns : List Turn) → StandsAt l.code l.shape turns l.self.walk → l.place ≡ place_in l.t (enabled l.code l.shape l.limit (place_after l.code l.shape turns));
  left : events_left l.limit l.self.walk ≤ events_left l.limit l.fn.self.walk;
}

abbrev pub decreases-turns : goal.decreases-turns
decreases-turns l = events_left l.limit l.self.walk
