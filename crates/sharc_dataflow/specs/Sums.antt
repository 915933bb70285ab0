-- What a piece of code does to one variable, computed. It retraces the code: what is answered is said by paths, in Flow
-- and Uses.
use Rattle.std.specs.Prelude.{ℕ, List, [], ◌∷◌, ◌++◌, Option, Some, None, Bool, true, false, min, nat_eq, ◌&&◌, ◌||◌}
use Rattle.sharc_dataflow.specs.{declared.way.Way.Way, declared.way.Ways.Ways, declared.way.FlowWarning.FlowWarning}
use Rattle.sharc_dataflow.specs.Flow.{Act, Reads, Nulls, Writes, To, Next, Broken, Continued, Ends}
use Rattle.sharc_dataflow.specs.Code.{Code, goes_to, acts, first_then, one_of, catches, repeats}

-- the lower of two tokens
abbrev pub lower : Option ℕ → Option ℕ → Option ℕ
lower None o = o
lower (Some a) None = Some a
lower (Some a) (Some b) = Some (min a b)

-- what holds after, where v holds before
abbrev pub kept : Bool → Option ℕ → Option ℕ
kept true v = v
kept false v = None

abbrev pub behind : Way → Option ℕ → Option ℕ
behind w v = lower w.least (kept w.clear v)

abbrev pub free : Way
free = record { least = None; clear = true }

abbrev pub closed : Way
closed = record { least = None; clear = false }

-- the one way and then the other
abbrev pub follow : Way → Way → Way
follow p q = record { least = behind q p.least; clear = p.clear && q.clear }

-- the one way or the other
abbrev pub either : Way → Way → Way
either p q = record { least = lower p.least q.least; clear = p.clear || q.clear }

abbrev pub way : Ways → To → Way
way s Next = s.next
way s Broken = s.broken
way s Continued = s.continued
way s Ends = closed

abbrev pub only : Way → Ways
only w = record { next = w; broken = closed; continued = closed }

abbrev pub goes_of : To → Ways
goes_of Next = only free
goes_of Broken = record { next = closed; broken = free; continued = closed }
goes_of Continued = record { next = closed; broken = closed; continued = free }
goes_of Ends = only closed

abbrev pub then_of : Ways → Ways → Ways
then_of a b = record {
  next = follow a.next b.next;
  broken = either a.broken (follow a.next b.broken);
  continued = either a.continued (follow a.next b.continued);
}

abbrev pub either_of : Ways → Ways → Ways
either_of a b = record {
  next = either a.next b.next;
  broken = either a.broken b.broken;
  continued = either a.continued b.continued;
}

abbrev pub caught_of : Ways → Ways
caught_of a = record { next = either a.next a.continued; broken = a.broken; continued = a.continued }

-- any number of turns, and then one that breaks
abbrev pub loop_of : Ways → Ways
loop_of a = only (follow (record { least = a.next.least; clear = true }) a.broken)

abbrev pub nulled : Bool → ℕ → Way
nulled true k = record { least = Some k; clear = true }
nulled false k = free

abbrev pub written : Bool → Way
written true = closed
written false = free

-- what an action does
abbrev pub way_of_act : ℕ → Act → Way
way_of_act x (Reads y r) = free
way_of_act x (Nulls y k) = nulled (nat_eq y x) k
way_of_act x (Writes y) = written (nat_eq y x)

-- what a piece of code does to the variable x
abbrev pub ways : ℕ → Code → Ways
ways x (goes_to t) = goes_of t
ways x (acts a) = only (way_of_act x a)
ways x (first_then a b) = then_of (ways x a) (ways x b)
ways x (one_of a b) = either_of (ways x a) (ways x b)
ways x (catches a) = caught_of (ways x a)
ways x (repeats a) = loop_of (ways x a)

-- the warnings in a piece of code, by what holds before it
abbrev pub Warns : Type 0
Warns = Option ℕ → List FlowWarning

abbrev pub quiet : Warns
quiet v = []

abbrev pub warned_of : Option ℕ → ℕ → List FlowWarning
warned_of None r = []
warned_of (Some k) r = record { read = r; since = k } ∷ []

abbrev pub warn_read : Bool → ℕ → Warns
warn_read true r v = warned_of v r
warn_read false r v = []

abbrev pub warn_then : Ways → Warns → Warns → Warns
warn_then a wa wb v = wa v ++ wb (behind a.next v)

abbrev pub warn_either : Warns → Warns → Warns
warn_either wa wb v = wa v ++ wb v

abbrev pub warn_loop : Ways → Warns → Warns
warn_loop a wa v = wa (lower v a.next.least)

abbrev pub warn_act : ℕ → Act → Warns
warn_act x (Reads y r) = warn_read (nat_eq y x) r
warn_act x (Nulls y k) = quiet
warn_act x (Writes y) = quiet

abbrev pub warns : ℕ → Code → Warns
warns x (goes_to t) = quiet
warns x (acts a) = warn_act x a
warns x (first_then a b) = warn_then (ways x a) (warns x a) (warns x b)
warns x (one_of a b) = warn_either (warns x a) (warns x b)
warns x (catches a) = warns x a
warns x (repeats a) = warn_loop (ways x a) (warns x a)
