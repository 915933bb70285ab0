-- What a quantum over a port of a bus makes of a thread and of its seat.
use Rattle.std.proofs.{Common.{◌≡◌, ℕ, ◌+◌, ◌<◌, ◌≤◌, ◌==◌, Bool, true, false, List, [], ◌∷◌, ◌++◌, length, Option, Some, None, refl, sym, ap, ◌∙◌, subst, arith}, lemmas.List.{append-nil, length-append}}
use Rattle.std.specs.Prelude.{if◌then◌else◌}
use Rattle.sharc_word.specs.{declared.step.WordEvent.WordEvent, Place.{PortState, LeadsInEvents, place_of_events}, Laws.PlaceLaws}
use Rattle.sharc_code.specs.{declared.code.Code.Code, declared.shape.Shape.Shape, declared.state.TurnState.TurnState, declared.state.TurnState.TheVariants.{Runs, Tries, Stopped, Ended}, Machine.{Machine, Turn, Local, Asks}, Path.{may_go, turn, machine_after, events_of_turn, events_of_path, made_in}}
use Rattle.sharc_cpu.specs.{Thread.{ThreadView, IsThread}, Quantum.{IsQuantum, pause_of}, declared.quantum.Pause.Pause, declared.quantum.Pause.TheVariants.{Ran, Spent}}
use Rattle.sharc_bus.specs.Bus.{BusView, SeatView}
use Rattle.sharc_rounds.specs.{declared.hand.Hand.Hand, Laws.{IdleStay, QuantaAreMade}, Round.{Seat, MadeOver, HasRun, MayRunAt, HasRunAt, KeepsRoom, KeepsRoomAt, goes_on}}
use Rattle.sharc_lemmas.proofs.Numbers.{below}

ran_or_spent : (b : Bool) → b ≡ false → (if b then Spent else Ran) ≡ Ran
ran_or_spent true e = cc
ran_or_spent false e = refl

none_ran : (state : TurnState) (made limit : ℕ) → may_go state ≡ true → made < limit → pause_of state 0 made limit ≡ Ran
none_ran Ended made limit may h = cc
none_ran Stopped made limit may h = cc
none_ran Runs made limit may h = ran_or_spent (made == limit) (below made limit h)
none_ran Tries made limit may h = ran_or_spent (made == limit) (below made limit h)

-- a turn has one word event at most
turn_few : (thread : ℕ) (turn : Turn) (found : ℕ) → length (events_of_turn thread turn found) ≤ 1
turn_few thread (Local m) found = omega arith
turn_few thread (Asks step go) found = omega arith

-- and a path no more of them than turns
events_few : (code : Code) (s : Shape) (m : Machine) (founds : List ℕ) → length (events_of_path code s m founds) ≤ length founds
events_few code s m [] = omega arith
events_few code s m (found ∷ earlier) =
    let now = machine_after code s m earlier in
    omega (arith, length-append (events_of_path code s m earlier) (events_of_turn m.own.number (turn code s now) found), events_few code s m earlier, turn_few m.own.number (turn code s now) found)

-- ---- quanta
-- a thread that is gone or stopped stays as it is
pub made_none : IdleStay
made_none code s limit thread is within off = record {
  thread = is;
  founds = [];
  path = tt;
  machine = refl;
  events_are = refl;
  number = refl;
  made = omega arith;
  within = within;
  some = λ on. absurd (let e : true ≡ false = sym on ∙ off in cc);
}

module _ (laws : PlaceLaws) (code : Code) (s : Shape) (limit : ℕ) (serves : ℕ → Type 0) (turns : ℕ) (some : 0 < turns) (old new : ThreadView) (before after : List WordEvent) (pause : Pause)
    (q : IsQuantum serves LeadsInEvents code s turns limit old new (place_of_events before) (place_of_events after) pause) where
  no_turn : q.goes.founds ≡ [] → may_go old.machine.at.state ≡ true → old.made < limit → ⊥
  no_turn e may low =
      let none : q.turns ≡ 0 = q.goes.turns_are ∙ ap (λ (xs : List ℕ). length xs) e in
      let same : new.machine ≡ old.machine = q.goes.machine ∙ ap (machine_after code s old.machine) e in
      let made : new.made ≡ old.made = omega (arith, q.made, q.goes.made_are ∙ ap (made_in code s old.machine) e) in
      let is : pause ≡ pause_of old.machine.at.state 0 old.made limit =
      q.pause_is ∙ ap (λ (m : Machine). pause_of m.at.state q.turns new.made limit) same ∙ ap (λ (n : ℕ). pause_of old.machine.at.state n new.made limit) none ∙ ap (λ (n : ℕ). pause_of old.machine.at.state 0 n limit) made in
      let most : q.turns ≡ turns = q.ran (is ∙ none_ran old.machine.at.state old.made limit may low) in
      omega (arith, none, most, some)

  events_after : serves old.machine.own.number → after ≡ before ++ events_of_path code s old.machine q.goes.founds
  events_after serves =
      let led : place_of_events after ≡ place_of_events (before ++ events_of_path code s old.machine q.goes.founds) =
      (laws.events (place_of_events before) (place_of_events after) (events_of_path code s old.machine q.goes.founds)).0 (q.goes.led serves) in
      ap (λ (p : PortState). p.events) led

  made_over : IsThread code s new → new.machine.own.number ≡ old.machine.own.number → serves old.machine.own.number → MadeOver code s limit turns old new before after
  made_over thread number serves = record {
    events = events_of_path code s old.machine q.goes.founds;
    made = record {
      thread = thread;
      founds = q.goes.founds;
      path = q.goes.path;
      machine = q.goes.machine;
      events_are = refl;
      number = number;
      made = q.made ∙ ap (λ n. old.made + n) q.goes.made_are;
      within = q.within;
      some = λ on low e. no_turn e on low;
    };
    events_are = events_after serves;
    few = omega (arith, events_few code s old.machine q.goes.founds, q.goes.turns_are, q.few);
  }

-- what a thread did under a lower limit that lets it come forward too, it did under this one
widened : (code : Code) (s : Shape) (most limit turns : ℕ) (old new : ThreadView) (before after : List WordEvent) → most ≤ limit → (old.made < limit → old.made < most)
    → MadeOver code s most turns old new before after → MadeOver code s limit turns old new before after
widened code s most limit turns old new before after less more h = record {
  events = h.events;
  made = record {
    thread = h.made.thread;
    founds = h.made.founds;
    path = h.made.path;
    machine = h.made.machine;
    events_are = h.made.events_are;
    number = h.made.number;
    made = h.made.made;
    within = omega (arith, less, h.made.within);
    some = λ on low. h.made.some on (more low);
  };
  events_are = h.events_are;
  few = h.few;
}

pub quanta_made : PlaceLaws → QuantaAreMade
quanta_made laws code s most limit turns number old new before after pause some less more q thread same serves =
    widened code s most limit turns old new before after less more
    (made_over laws code s most (λ (t : ℕ). t ≡ number) turns some old new before after pause q thread same serves)

-- ---- hands
module _ (code : Code) (s : Shape) (limit : ℕ) where
  idle : (thread : ThreadView) (port : SeatView) → IsThread code s thread → thread.made ≤ limit → may_go thread.machine.at.state ≡ false
      → HasRun code s limit record { seat = Some thread; port = port } record { seat = Some thread; port = port }
  idle thread port is within off = record {
    events = [];
    made = made_none code s limit thread is within off;
    bus_is = refl;
    number = refl;
    events_are = sym (append-nil port.events);
  }

  -- and so does a place with none
  pub nobody : (seat : Seat) (port : SeatView) → seat ≡ None → HasRun code s limit record { seat = seat; port = port } record { seat = None; port = port }
  nobody seat port e = subst (λ (x : Seat). HasRun code s limit record { seat = x; port = port } record { seat = None; port = port }) (sym e) record {
    events = [];
    made = refl;
    bus_is = refl;
    number = refl;
    events_are = sym (append-nil port.events);
  }

  -- at a place where none goes on, all stays as it is
  idle_at : (bus : BusView) (turns : ℕ) (seat : Seat) (port : SeatView) → MayRunAt code s limit bus turns (Some record { seat = seat; port = port }) → goes_on (Some record { seat = seat; port = port }) ≡ false
      → HasRun code s limit record { seat = seat; port = port } record { seat = seat; port = port }
  idle_at bus turns (Some thread) port may off = idle thread port may.may.thread_is may.may.within off
  idle_at bus turns None port may off = nobody None port refl

  pub stays : (bus : BusView) (turns : ℕ) (hand : Option (Hand SeatView)) → MayRunAt code s limit bus turns hand → goes_on hand ≡ false → HasRunAt code s limit hand hand
  stays bus turns None may off = tt
  stays bus turns (Some hand) may off = idle_at bus turns hand.seat hand.port may off

-- ---- room
same_room : (turns : ℕ) (seat : Seat) → KeepsRoom turns seat seat
same_room turns None = tt
same_room turns (Some thread) = λ more h on. let r = h on in omega (arith, r)

pub same_room_at : (turns : ℕ) (hand : Option (Hand SeatView)) → KeepsRoomAt turns hand hand
same_room_at turns None = tt
same_room_at turns (Some hand) = same_room turns hand.seat

-- at no place there is nothing to keep
pub no_room : (turns : ℕ) (old new : Seat) → old ≡ None → KeepsRoom turns old new
no_room turns None new e = tt
no_room turns (Some old) new e = absurd (let f : Some old ≡ None = e in cc)

pub room_left : (turns : ℕ) (old new : ThreadView) → may_go old.machine.at.state ≡ true → old.room ≤ new.room + turns → KeepsRoom turns (Some old) (Some new)
room_left turns old new on left = λ more h off. let r = h on in omega (arith, r, left)
