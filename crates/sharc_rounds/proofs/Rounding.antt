-- The hands of a round: all may run where a round begins, and what they have made is a round.
use Rattle.std.proofs.{Common.{◌≡◌, ℕ, ◌+◌, ◌%◌, ◌<◌, ◌≤◌, Some, None, List, [], ◌++◌, length, get_or, sym, ap, ◌∙◌, subst, arith}, lemmas.List.{length-map, get_or-map}, lemmas.Nat.mod_below}
use Rattle.std.specs.List.{All}
use Rattle.sharc_word.specs.{declared.step.WordEvent.WordEvent, declared.step.TheConstants.THREADS}
use Rattle.sharc_code.specs.{declared.code.Code.Code, declared.shape.Shape.Shape, Machine.Machine, Path.{IsPath, machine_after, events_of_path, made_in, may_go}}
use Rattle.sharc_bus.specs.Bus.{BusView, SeatView, AreSeatsOf, OneHistory, lists_of}
use Rattle.sharc_rounds.specs.{declared.hand.Hand.Hand, declared.worker.Worker.Worker, declared.stint.TheConstants.QUANTUM, Round.{Seat, MadeQuantum, MadeQuantumAt, MayTurnAt, MayRun, HasRun, MayBegin, MayBeginAt, HasRoom, HasRoomAt, MadeRound, HaveAllRun, hand_at}}
use Rattle.sharc_rounds.proofs.{Places.at_place, Dealing.{has_at, has_run}}
use Rattle.sharc_cpu.specs.Thread.{ThreadView}
use Rattle.sharc_lemmas.proofs.Lists.{any_default}

abbrev hand_of : Seat → SeatView → Hand SeatView
hand_of seat port = record { seat = seat; port = port }

-- what a quantum made of a thread with room it made of the thread
one_without : (code : Code) (s : Shape) (limit turns : ℕ) (old room new : ThreadView) (events : List WordEvent) → HasRoom turns old room → MadeQuantum code s limit room new events → MadeQuantum code s limit old new events
one_without code s limit turns old room new events h q = record {
  thread = q.thread;
  founds = q.founds;
  path = subst (λ (m : Machine). IsPath code s m q.founds) h.machine q.path;
  machine = q.machine ∙ ap (λ (m : Machine). machine_after code s m q.founds) h.machine;
  events_are = q.events_are ∙ ap (λ (m : Machine). events_of_path code s m q.founds) h.machine;
  number = q.number ∙ ap (λ (m : Machine). m.own.number) h.machine;
  made = q.made ∙ ap (λ n. n + made_in code s room.machine q.founds) h.made ∙ ap (λ (m : Machine). old.made + made_in code s m q.founds) h.machine;
  within = q.within;
  some = λ on low. q.some (ap (λ (m : Machine). may_go m.at.state) h.machine ∙ on) (subst (λ n. n < limit) (sym h.made) low);
}

pub without_room : (code : Code) (s : Shape) (limit turns : ℕ) (old room new : Seat) (events : List WordEvent) → HasRoomAt turns old room → MadeQuantumAt code s limit room new events → MadeQuantumAt code s limit old new events
without_room code s limit turns (Some old) (Some room) (Some new) events h q = one_without code s limit turns old room new events h q
without_room code s limit turns (Some old) (Some room) None events h q = absurd q
without_room code s limit turns (Some old) None new events h q = absurd h
without_room code s limit turns None (Some room) new events h q = absurd h
without_room code s limit turns None None (Some new) events h q = absurd q
without_room code s limit turns None None None events h q = q

-- a thread with room may make a quantum
pub fits_at : (code : Code) (s : Shape) (limit turns n number : ℕ) (old room : Seat) → number ≡ n → MayBeginAt code s limit n old → HasRoomAt turns old room → MayTurnAt code s limit turns room number
fits_at code s limit turns n number (Some old) (Some room) e may h = record {
  thread_is = h.thread code s may.thread_is;
  number_is = e ∙ sym may.number ∙ ap (λ (m : Machine). m.own.number) (sym h.machine);
  within = subst (λ k. k ≤ limit) (sym h.made) may.within;
  room = λ on. h.room (ap (λ (m : Machine). may_go m.at.state) (sym h.machine) ∙ on);
}
fits_at code s limit turns n number (Some old) None e may h = absurd h
fits_at code s limit turns n number None (Some room) e may h = absurd h
fits_at code s limit turns n number None None e may h = tt

module _ (code : Code) (s : Shape) (limit : ℕ) (bus : BusView) (old seats : List Seat) (ports : List SeatView)
    (begin : MayBegin code s limit old) (count : length seats ≡ length old) (room : (n : ℕ) → n < length old → HasRoomAt QUANTUM (get_or old n None) (get_or seats n None))
    (are : AreSeatsOf bus ports) (as_many : bus.ports ≡ THREADS) (fresh : All (λ (p : SeatView). p.events ≡ []) ports) where
  pub fit : (n : ℕ) (hand : Hand SeatView) → n < THREADS → hand ≡ hand_of (get_or seats n hand.seat) (get_or ports n hand.port) → MayRun code s limit bus QUANTUM hand
  fit n hand low is = subst (MayRun code s limit bus QUANTUM) (sym is) (
      let port : SeatView = get_or ports n hand.port in
      let within : n < length old = omega (arith, low, begin.count) in
      let there : n < length ports = omega (arith, low, are.all, as_many) in
      let same : get_or seats n None ≡ get_or seats n hand.seat = any_default seats n None hand.seat (omega (arith, within, count)) in
      let here : MayRun code s limit bus QUANTUM (hand_of (get_or seats n hand.seat) port) = record {
        bus_is = are.bus_is n hand.port there;
        may = subst (λ (x : Seat). MayTurnAt code s limit QUANTUM x port.number) same
            (fits_at code s limit QUANTUM n port.number (get_or old n None) (get_or seats n None) (are.number_is n hand.port there) (begin.each n within) (room n within));
      } in
      here)

  module _ (new : List Seat) (backs : List SeatView) (new_count : length new ≡ THREADS) (back_count : length backs ≡ THREADS)
      (ran : (n : ℕ) (a : Seat) (p : SeatView) (b : Seat) (q : SeatView) → n < THREADS → HasRun code s limit (hand_of (get_or seats n a) (get_or ports n p)) (hand_of (get_or new n b) (get_or backs n q))) where
    nobody : SeatView
    nobody = record { bus = bus.id; number = 0; events = [] }

    pub are_back : AreSeatsOf bus backs
    are_back = record {
      all = back_count ∙ sym as_many;
      bus_is = λ n d low.
          let h = ran n None d None d (omega (arith, low, back_count)) in
          h.bus_is ∙ are.bus_is n d (omega (arith, low, back_count, are.all, as_many));
      number_is = λ n d low.
          let h = ran n None d None d (omega (arith, low, back_count)) in
          h.number ∙ are.number_is n d (omega (arith, low, back_count, are.all, as_many));
    }

    pub round_made : (words now : List ℕ) → OneHistory words (lists_of backs) now → MadeRound code s limit words now old new
    round_made words now history = record {
      count = new_count ∙ sym begin.count;
      lists = lists_of backs;
      as_many = length-map backs (λ (p : SeatView). p.events) ∙ back_count ∙ sym begin.count;
      history = history;
      each = λ n low.
          let below : n < THREADS = omega (arith, low, begin.count) in
          let h = ran n None nobody None nobody below in
          let none : (get_or ports n nobody).events ≡ [] = fresh n nobody (omega (arith, below, are.all, as_many)) in
          let events : h.events ≡ get_or (lists_of backs) n [] =
          ap (λ es. es ++ h.events) (sym none) ∙ sym h.events_are ∙ sym (get_or-map (λ (p : SeatView). p.events) backs n nobody [] (omega (arith, below, back_count))) in
          subst (MadeQuantumAt code s limit (get_or old n None) (get_or new n None)) events
          (without_room code s limit QUANTUM (get_or old n None) (get_or seats n None) (get_or new n None) h.events (room n low) h.made);
    }

-- ---- through the workers
module _ (code : Code) (s : Shape) (limit : ℕ) (count : ℕ) (workers after : List (Worker SeatView)) (seats : List Seat) (ports : List SeatView)
    (some : 0 < count) (many : length workers ≡ count) (same : length after ≡ length workers)
    (dealt : (n : ℕ) (d : Worker SeatView) (a : Seat) (p : SeatView) → n < THREADS → hand_at workers (n % count) n d ≡ Some (hand_of (get_or seats n a) (get_or ports n p)))
    (all_ran : (w : ℕ) (d : Worker SeatView) → w < length workers → HaveAllRun code s limit (get_or workers w d) (get_or after w d)) where
  far : (n : ℕ) → n % count < length workers
  far n = omega (arith, mod_below n count some, many)

  as_many_after : length after ≡ count
  as_many_after = same ∙ many

  pub has_hand : (n : ℕ) (d : Worker SeatView) (a : Seat) (p : SeatView) → n < THREADS → (hand : Hand SeatView) × (hand_at after (n % length after) n d ≡ Some hand)
  has_hand n d a p low =
      subst (λ k. (hand : Hand SeatView) × (hand_at after (n % k) n d ≡ Some hand)) (sym as_many_after)
      (has_at code s limit (hand_at workers (n % count) n d) (hand_at after (n % count) n d) (hand_of (get_or seats n a) (get_or ports n p)) (dealt n d a p low) (all_ran (n % count) d (far n) n))

  pub through : (new : List Seat) (backs : List SeatView)
      → ((n : ℕ) (d : Worker SeatView) (a : Seat) (p : SeatView) → n < THREADS → hand_at after (n % length after) n d ≡ Some (hand_of (get_or new n a) (get_or backs n p)))
      → (n : ℕ) (a : Seat) (p : SeatView) (b : Seat) (q : SeatView) → n < THREADS → HasRun code s limit (hand_of (get_or seats n a) (get_or ports n p)) (hand_of (get_or new n b) (get_or backs n q))
  through new backs gathered n a p b q low =
      let d : Worker SeatView = (at_place workers 0 (omega (arith, some, many))).one in
      has_run code s limit (hand_at workers (n % count) n d) (hand_at after (n % count) n d) (hand_of (get_or seats n a) (get_or ports n p)) (hand_of (get_or new n b) (get_or backs n q))
      (dealt n d a p low) (subst (λ k. hand_at after (n % k) n d ≡ Some (hand_of (get_or new n b) (get_or backs n q))) as_many_after (gathered n d b q low)) (all_ran (n % count) d (far n) n)
