-- Who makes a round where several workers are busy, by how fast the rounds so far were.
use Rattle.std.specs.Prelude.{ℕ, ◌+◌, ◌-◌, ◌*◌, ◌/◌, ◌%◌, ◌^◌, Bool, true, false, List, Option, Some, None, min}
use Rattle.std.specs.Prelude.{if◌then◌else◌, nat_le, nat_lt, sum_by}
use Rattle.sharc_code.specs.declared.state.Wait.{Wait}
use Rattle.sharc_code.specs.declared.state.Wait.TheVariants.{Mutex, Join, Cond}
use Rattle.sharc_cpu.specs.Thread.{ThreadView}
use Rattle.sharc_bus.specs.Bus.{SeatView}
use Rattle.sharc_rounds.specs.declared.pace.{Pace.Pace, Speed.Speed, Makers.Makers}
use Rattle.sharc_rounds.specs.declared.pace.TheConstants.{FIRST, APART, MOST_APART, CALM}
use Rattle.sharc_rounds.specs.declared.hand.Hand.{Hand}
use Rattle.sharc_rounds.specs.declared.busy.Busy.{Busy}
use Rattle.sharc_rounds.specs.declared.busy.Busy.TheVariants.{Nobody, One, Several}
use Rattle.sharc_rounds.specs.declared.parts.TheConstants.{PART}
use Rattle.sharc_rounds.specs.declared.pace.Makers.TheVariants.{Workers, Caller, CallerByParts}

-- a sum, or the most that a number of 64 bits can be
abbrev pub at_most_64_bits : ℕ → ℕ
at_most_64_bits sum = min sum (2 ^ 64 - 1)

-- whether a speed, which is events for each nanosecond, is at least eight ninths of another
abbrev pub keeps_up : Speed → Speed → Bool
keeps_up one other =
    let less = one.events * other.nanoseconds in
    let more = other.events * one.nanoseconds in
    nat_le (more - more / 9) less

-- these; but the others, where these have gone on for more than so many times as long as the others took
abbrev pub or_others : Makers → Makers → ℕ → ℕ → ℕ → Makers
or_others these others times took since = if nat_lt (took * times) since then others else these

-- how the caller makes a round, where so many ended since a thread waited for another
abbrev pub caller_for : ℕ → Makers
caller_for calm = if nat_lt calm CALM then CallerByParts else Caller

-- the caller, until it has gone on for some time; else who is faster, or the others. The workers are faster only where
-- they are so by more than an eighth
abbrev pub next_makers_of : Makers → Option Speed → Option Speed → ℕ → ℕ → Makers
next_makers_of how None workers apart since = how
next_makers_of how (Some caller) None apart since = or_others how Workers FIRST caller.nanoseconds since
next_makers_of how (Some caller) (Some workers) apart since =
    if keeps_up caller workers
    then or_others how Workers apart workers.nanoseconds since
    else or_others Workers how APART caller.nanoseconds since

abbrev pub next_makers : Pace → Makers
next_makers pace = next_makers_of (caller_for pace.calm) pace.caller pace.workers pace.apart pace.since

-- who makes a round, by how many workers are busy and whether the time is told: where it is not, the gate may hold a
-- thread until another has made a step
abbrev pub makers_for : Pace → Busy → Option ℕ → Makers
makers_for pace Several (Some time) = next_makers pace
makers_for pace Several None = Workers
makers_for pace One (Some time) = caller_for pace.calm
makers_for pace One None = Caller
makers_for pace Nobody (Some time) = caller_for pace.calm
makers_for pace Nobody None = Caller

-- how fast a round of so many events was, if it was told when it began and ended
abbrev pub speed_of : ℕ → Option ℕ → Option ℕ → Option Speed
speed_of events (Some begun) (Some ended) = Some record { events = events; nanoseconds = ended - begun }
speed_of events (Some begun) None = None
speed_of events None ended = None

abbrev pub three_quarters : ℕ → ℕ
three_quarters n = n - n / 4

-- with one more round, what was before it counts a quarter less
abbrev pub speed_with : Option Speed → Speed → Speed
speed_with None round = round
speed_with (Some before) round = record {
  events = at_most_64_bits (three_quarters before.events + round.events);
  nanoseconds = at_most_64_bits (three_quarters before.nanoseconds + round.nanoseconds);
}

-- how long those who made the last rounds have gone on, when a round more took so long: others begin anew
abbrev pub since_with : Makers → Makers → ℕ → ℕ → ℕ
since_with Workers Workers since took = at_most_64_bits (since + took)
since_with Workers last since took = took
since_with makers Workers since took = took
since_with makers last since took = at_most_64_bits (since + took)

-- how fast the workers were, if they made the last round too: what they made longer ago were other turns
abbrev pub workers_lately : Option Speed → Makers → Option Speed
workers_lately workers Workers = workers
workers_lately workers last = None

-- for how many times the time of their last rounds the workers are left alone, where these were so fast
abbrev pub apart_with : Option Speed → Speed → ℕ → ℕ
apart_with None workers apart = APART
apart_with (Some caller) workers apart =
    if keeps_up caller workers then (if nat_lt apart MOST_APART then apart * 2 else MOST_APART) else APART

abbrev pub pace_of_workers : Pace → Speed → ℕ → Pace
pace_of_workers pace workers took = record {
  caller = pace.caller;
  workers = Some workers;
  last = Workers;
  since = since_with Workers pace.last pace.since took;
  apart = apart_with pace.caller workers pace.apart;
  calm = pace.calm;
}

abbrev pub pace_of_caller : Pace → Makers → Speed → Pace
pace_of_caller pace makers round = record {
  caller = Some (speed_with pace.caller round);
  workers = pace.workers;
  last = makers;
  since = since_with makers pace.last pace.since round.nanoseconds;
  apart = pace.apart;
  calm = pace.calm;
}

abbrev pub pace_with : Pace → Makers → Speed → Pace
pace_with pace Workers round =
    pace_of_workers pace (speed_with (workers_lately pace.workers pace.last) round) round.nanoseconds
pace_with pace CallerByParts round = pace_of_caller pace CallerByParts round
pace_with pace Caller round = pace_of_caller pace Caller round

-- how many rounds ended since a thread waited for another at the end of one
abbrev pub calm_with : Pace → Bool → Pace
calm_with pace waited = record {
  caller = pace.caller;
  workers = pace.workers;
  last = pace.last;
  since = pace.since;
  apart = pace.apart;
  calm = if waited then 0 else at_most_64_bits (pace.calm + 1);
}

-- a round counts where several workers were busy and the time was told
abbrev pub pace_after : Pace → Busy → Makers → Option Speed → Pace
pace_after pace Several makers (Some round) = pace_with pace makers round
pace_after pace Several makers None = pace
pace_after pace One makers round = pace
pace_after pace Nobody makers round = pace

-- the turns of the part of a quantum behind one of so many: more than the least
abbrev pub next_part : ℕ → ℕ
next_part turns = PART + turns % PART + 1

-- the events that the thread at a place has made
abbrev pub made_by : Option ThreadView → ℕ
made_by None = 0
made_by (Some thread) = thread.made

abbrev pub made_at : Option (Hand SeatView) → ℕ
made_at None = 0
made_at (Some hand) = made_by hand.seat

-- the events of threads in a table, and of those of a worker
abbrev pub events_of : List (Option ThreadView) → ℕ
events_of seats = at_most_64_bits (sum_by made_by seats)

abbrev pub events_at_hands : List (Option (Hand SeatView)) → ℕ
events_at_hands hands = at_most_64_bits (sum_by made_at hands)

-- whether a thread waits for what another may do at any time: a mutex or a condition
abbrev pub waits_for_another : Option Wait → Bool
waits_for_another None = false
waits_for_another (Some (Mutex word site)) = true
waits_for_another (Some (Join number site)) = false
waits_for_another (Some (Cond word site)) = true

abbrev pub waits_on : Option ThreadView → Bool
waits_on None = false
waits_on (Some thread) = waits_for_another thread.wait
