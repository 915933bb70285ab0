-- Two passes over the steps of code, for one variable: back over them for what holds at the end of a loop's turn, then
-- forward for the warnings. It retraces the code.
use Rattle.std.specs.Prelude.{ℕ, List, [], ◌∷◌, ◌++◌, Option, None, nat_eq}
use Rattle.sharc_dataflow.specs.{declared.step.Step.Step, declared.way.Ways.Ways}
use Rattle.sharc_dataflow.specs.{declared.way.StandingNullings.StandingNullings}
use Rattle.sharc_dataflow.specs.{declared.way.FlowWarning.FlowWarning, Flow.{Broken, Continued, Ends}}
use Rattle.sharc_dataflow.specs.Code.{Code, goes_to, acts, first_then, one_of, catches, repeats}
use Rattle.sharc_dataflow.specs.Sums.{lower, behind, free, only, goes_of, then_of, either_of, caught_of, loop_of}
use Rattle.sharc_dataflow.specs.Sums.{nulled, written, ways, warn_read}
use Rattle.sharc_dataflow.specs.declared.step.Step.TheVariants as steps

-- the last of a list, and the others
abbrev pub last_or : {A : Type 0} → A → List A → A
last_or d [] = d
last_or d (a ∷ []) = a
last_or d (a ∷ (b ∷ l)) = last_or d (b ∷ l)

abbrev pub front : {A : Type 0} → List A → List A
front [] = []
front (a ∷ []) = []
front (a ∷ (b ∷ l)) = a ∷ front (b ∷ l)

-- what holds at the end of a turn of each loop, the last loop first
abbrev pub heads : ℕ → Code → List (Option ℕ)
heads x (goes_to t) = []
heads x (acts a) = []
heads x (first_then a b) = heads x b ++ heads x a
heads x (one_of a b) = heads x b ++ heads x a
heads x (catches a) = heads x a
heads x (repeats a) = heads x a ++ (ways x a).next.least ∷ []

-- ---- back

-- what the steps from here to the end of the innermost open piece do, what those after the open pieces do, and what
-- holds at the end of turns
pub record Summing : Type 0 where
  pub now : Ways
  pub waiting : List Ways
  pub heads : List (Option ℕ)

abbrev pub summing : Ways → List Ways → List (Option ℕ) → Summing
summing w waiting hs = record { now = w; waiting = waiting; heads = hs }

abbrev pub nothing : Ways
nothing = only free

abbrev pub does_before : Ways → Summing → Summing
does_before w s = record { now = then_of w s.now; waiting = s.waiting; heads = s.heads }

abbrev pub ends_piece : Summing → Summing
ends_piece s = record { now = nothing; waiting = s.waiting ++ s.now ∷ []; heads = s.heads }

abbrev pub begins_either : Summing → Summing
begins_either s = record {
  now = then_of (either_of s.now (last_or nothing s.waiting)) (last_or nothing (front s.waiting));
  waiting = front (front s.waiting);
  heads = s.heads;
}

abbrev pub begins_caught : Summing → Summing
begins_caught s =
    record { now = then_of (caught_of s.now) (last_or nothing s.waiting); waiting = front s.waiting; heads = s.heads }

abbrev pub begins_loop : Summing → Summing
begins_loop s = record {
  now = then_of (loop_of s.now) (last_or nothing s.waiting);
  waiting = front s.waiting;
  heads = s.heads ++ s.now.next.least ∷ [];
}

abbrev pub back : ℕ → Step → Summing → Summing
back x (steps.Read y r) s = s
back x (steps.Null y k) s = does_before (only (nulled (nat_eq y x) k)) s
back x (steps.Write y) s = does_before (only (written (nat_eq y x))) s
back x steps.Break s = does_before (goes_of Broken) s
back x steps.Continue s = does_before (goes_of Continued) s
back x steps.Return s = does_before (goes_of Ends) s
back x steps.Fork s = begins_either s
back x steps.Other s = ends_piece s
back x steps.Join s = ends_piece s
back x steps.Catch s = begins_caught s
back x steps.Caught s = ends_piece s
back x steps.Head s = begins_loop s
back x steps.Again s = ends_piece s

abbrev pub summed : ℕ → List Step → Summing → Summing
summed x [] s = s
summed x (a ∷ rest) s = back x a (summed x rest s)

abbrev pub sum_start : Summing
sum_start = record { now = nothing; waiting = []; heads = [] }

-- ---- forth

-- what holds here and at the exits, what held at the exits and beginnings of the open pieces, what holds at the end of
-- the turns of the loops to come, and the warnings
pub record Telling : Type 0 where
  pub stand : StandingNullings
  pub waiting : List (Option ℕ)
  pub heads : List (Option ℕ)
  pub found : List FlowWarning

abbrev pub telling : StandingNullings → List (Option ℕ) → List (Option ℕ) → List FlowWarning → Telling
telling s waiting hs found = record { stand = s; waiting = waiting; heads = hs; found = found }

abbrev pub stands_at : Option ℕ → StandingNullings → StandingNullings
stands_at v s = record { next = v; broken = s.broken; continued = s.continued }

abbrev pub breaks : StandingNullings → StandingNullings
breaks s = record { next = None; broken = lower s.broken s.next; continued = s.continued }

abbrev pub continues : StandingNullings → StandingNullings
continues s = record { next = None; broken = s.broken; continued = lower s.continued s.next }

abbrev pub catching : StandingNullings → StandingNullings
catching s = record { next = s.next; broken = s.broken; continued = None }

abbrev pub is_caught : Option ℕ → StandingNullings → StandingNullings
is_caught before s = record { next = lower s.next s.continued; broken = s.broken; continued = lower before s.continued }

abbrev pub turning : Option ℕ → StandingNullings → StandingNullings
turning least s = record { next = lower s.next least; broken = None; continued = None }

abbrev pub leaves_loop : List (Option ℕ) → StandingNullings → StandingNullings
leaves_loop waiting s =
    record { next = s.broken; broken = last_or None (front waiting); continued = last_or None waiting }

abbrev pub forth : ℕ → Step → Telling → Telling
forth x (steps.Read y r) t = record {
  stand = t.stand;
  waiting = t.waiting;
  heads = t.heads;
  found = t.found ++ warn_read (nat_eq y x) r t.stand.next;
}
forth x (steps.Null y k) t = record {
  stand = stands_at (behind (nulled (nat_eq y x) k) t.stand.next) t.stand;
  waiting = t.waiting;
  heads = t.heads;
  found = t.found;
}
forth x (steps.Write y) t = record {
  stand = stands_at (behind (written (nat_eq y x)) t.stand.next) t.stand;
  waiting = t.waiting;
  heads = t.heads;
  found = t.found;
}
forth x steps.Break t = record { stand = breaks t.stand; waiting = t.waiting; heads = t.heads; found = t.found }
forth x steps.Continue t = record { stand = continues t.stand; waiting = t.waiting; heads = t.heads; found = t.found }
forth x steps.Return t =
    record { stand = stands_at None t.stand; waiting = t.waiting; heads = t.heads; found = t.found }
forth x steps.Fork t =
    record { stand = t.stand; waiting = t.waiting ++ t.stand.next ∷ []; heads = t.heads; found = t.found }
forth x steps.Other t = record {
  stand = stands_at (last_or None t.waiting) t.stand;
  waiting = front t.waiting ++ t.stand.next ∷ [];
  heads = t.heads;
  found = t.found;
}
forth x steps.Join t = record {
  stand = stands_at (lower (last_or None t.waiting) t.stand.next) t.stand;
  waiting = front t.waiting;
  heads = t.heads;
  found = t.found;
}
forth x steps.Catch t =
    record { stand = catching t.stand; waiting = t.waiting ++ t.stand.continued ∷ []; heads = t.heads; found = t.found }
forth x steps.Caught t = record {
  stand = is_caught (last_or None t.waiting) t.stand;
  waiting = front t.waiting;
  heads = t.heads;
  found = t.found;
}
forth x steps.Head t = record {
  stand = turning (last_or None t.heads) t.stand;
  waiting = (t.waiting ++ t.stand.broken ∷ []) ++ t.stand.continued ∷ [];
  heads = front t.heads;
  found = t.found;
}
forth x steps.Again t = record {
  stand = leaves_loop t.waiting t.stand;
  waiting = front (front t.waiting);
  heads = t.heads;
  found = t.found;
}

abbrev pub told : ℕ → List Step → Telling → Telling
told x [] t = t
told x (a ∷ rest) t = told x rest (forth x a t)

abbrev pub nowhere : StandingNullings
nowhere = record { next = None; broken = None; continued = None }

abbrev pub tell_start : List (Option ℕ) → List FlowWarning → Telling
tell_start hs found = record { stand = nowhere; waiting = []; heads = hs; found = found }
