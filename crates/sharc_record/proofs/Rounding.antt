-- The hands of a round: all may run where a round begins, and what they have made is a round.
use Rattle.sharc_record.proofs.{Imports.{◌≡◌, ℕ, ◌+◌, ◌%◌, ◌<◌, Some, None, List, [], ◌++◌, length, get_or, sym, ap, ◌∙◌, subst, arith, length-map, get_or-map, mod_below, THREADS, Code, Shape, OneHistory, SharedView, SeatView, AreSeatsOf, lists_of, Hand, Worker, MayRun, HasRun, HasRoomAt, HaveAllRun, hand_at, Seat, MadeQuantumAt, MayBegin, MadeRound, any_default, QUANTUM, QuantumLaws, MayTurnAt}, Places.at_place, Dealing.{has_at, has_run}}
use Rattle.std.specs.List.{All}

abbrev hand_of : Seat → SeatView → Hand SeatView
hand_of seat port = record { seat = seat; port = port }

module _ (laws : QuantumLaws) (code : Code) (s : Shape) (limit : ℕ) (shared : SharedView) (old seats : List Seat) (ports : List SeatView)
    (begin : MayBegin code s limit old) (count : length seats ≡ length old) (room : (n : ℕ) → n < length old → HasRoomAt QUANTUM (get_or old n None) (get_or seats n None))
    (are : AreSeatsOf shared ports) (as_many : shared.ports ≡ THREADS) (fresh : All (λ (p : SeatView). p.events ≡ []) ports) where
  pub fit : (n : ℕ) (hand : Hand SeatView) → n < THREADS → hand ≡ hand_of (get_or seats n hand.seat) (get_or ports n hand.port) → MayRun code s limit shared hand
  fit n hand low is = subst (MayRun code s limit shared) (sym is) (
      let port : SeatView = get_or ports n hand.port in
      let within : n < length old = omega (arith, low, begin.count) in
      let there : n < length ports = omega (arith, low, are.all, as_many) in
      let same : get_or seats n None ≡ get_or seats n hand.seat = any_default seats n None hand.seat (omega (arith, within, count)) in
      let here : MayRun code s limit shared (hand_of (get_or seats n hand.seat) port) = record {
        id_is = are.id_is n hand.port there;
        count_is = are.count_is n hand.port there;
        may = subst (λ (x : Seat). MayTurnAt code s limit QUANTUM x port.number) same
            (laws.may code s limit QUANTUM n port.number (get_or old n None) (get_or seats n None) (are.number_is n hand.port there) (begin.each n within) (room n within));
      } in
      here)

  module _ (new : List Seat) (backs : List SeatView) (new_count : length new ≡ THREADS) (back_count : length backs ≡ THREADS)
      (ran : (n : ℕ) (a : Seat) (p : SeatView) (b : Seat) (q : SeatView) → n < THREADS → HasRun code s limit (hand_of (get_or seats n a) (get_or ports n p)) (hand_of (get_or new n b) (get_or backs n q))) where
    pub nobody : SeatView
    nobody = record { id = shared.id; count = 0; number = 0; events = [] }

    pub are_back : AreSeatsOf shared backs
    are_back = record {
      all = back_count ∙ sym as_many;
      id_is = λ n d low.
          let h = ran n None d None d (omega (arith, low, back_count)) in
          h.id_is ∙ are.id_is n d (omega (arith, low, back_count, are.all, as_many));
      count_is = λ n d low.
          let h = ran n None d None d (omega (arith, low, back_count)) in
          h.count_is ∙ are.count_is n d (omega (arith, low, back_count, are.all, as_many));
      number_is = λ n d low.
          let h = ran n None d None d (omega (arith, low, back_count)) in
          h.number ∙ are.number_is n d (omega (arith, low, back_count, are.all, as_many));
    }

    abbrev pub round_made : (words now : List ℕ) → OneHistory words (lists_of backs) now → MadeRound code s limit words now old new
    round_made words now history = record {
      count = new_count ∙ sym begin.count;
      lists = lists_of backs;
      as_many = length-map backs (λ (p : SeatView). p.events) ∙ back_count ∙ sym begin.count;
      history = history;
      each = λ n low.
          let below : n < THREADS = omega (arith, low, begin.count) in
          let h = ran n None nobody None nobody below in
          let none : (get_or ports n nobody).events ≡ [] = fresh n nobody (omega (arith, below, are.all, as_many)) in
          let events : h.events ≡ get_or (lists_of backs) n [] =
          ap (λ es. es ++ h.events) (sym none) ∙ sym h.events_are ∙ sym (get_or-map (λ (p : SeatView). p.events) backs n nobody [] (omega (arith, below, back_count))) in
          subst (MadeQuantumAt code s limit (get_or old n None) (get_or new n None)) events
          (laws.without_room code s limit QUANTUM (get_or old n None) (get_or seats n None) (get_or new n None) h.events (room n low) h.made);
    }

-- ---- through the workers
module _ (code : Code) (s : Shape) (limit : ℕ) (count : ℕ) (workers after : List (Worker SeatView)) (seats : List Seat) (ports : List SeatView)
    (some : 0 < count) (many : length workers ≡ count) (same : length after ≡ length workers)
    (dealt : (n : ℕ) (d : Worker SeatView) (a : Seat) (p : SeatView) → n < THREADS → hand_at workers (n % count) n d ≡ Some (hand_of (get_or seats n a) (get_or ports n p)))
    (all_ran : (w : ℕ) (d : Worker SeatView) → w < length workers → HaveAllRun code s limit (get_or workers w d) (get_or after w d)) where
  far : (n : ℕ) → n % count < length workers
  far n = omega (arith, mod_below n count some, many)

  as_many_after : length after ≡ count
  as_many_after = same ∙ many

  pub has_hand : (n : ℕ) (d : Worker SeatView) (a : Seat) (p : SeatView) → n < THREADS → (hand : Hand SeatView) × (hand_at after (n % length after) n d ≡ Some hand)
  has_hand n d a p low =
      subst (λ k. (hand : Hand SeatView) × (hand_at after (n % k) n d ≡ Some hand)) (sym as_many_after)
      (has_at code s limit (hand_at workers (n % count) n d) (hand_at after (n % count) n d) (hand_of (get_or seats n a) (get_or ports n p)) (dealt n d a p low) (all_ran (n % count) d (far n) n))

  pub through : (new : List Seat) (backs : List SeatView)
      → ((n : ℕ) (d : Worker SeatView) (a : Seat) (p : SeatView) → n < THREADS → hand_at after (n % length after) n d ≡ Some (hand_of (get_or new n a) (get_or backs n p)))
      → (n : ℕ) (a : Seat) (p : SeatView) (b : Seat) (q : SeatView) → n < THREADS → HasRun code s limit (hand_of (get_or seats n a) (get_or ports n p)) (hand_of (get_or new n b) (get_or backs n q))
  through new backs gathered n a p b q low =
      let d : Worker SeatView = (at_place workers 0 (omega (arith, some, many))).one in
      has_run code s limit (hand_at workers (n % count) n d) (hand_at after (n % count) n d) (hand_of (get_or seats n a) (get_or ports n p)) (hand_of (get_or new n b) (get_or backs n q))
      (dealt n d a p low) (subst (λ k. hand_at after (n % k) n d ≡ Some (hand_of (get_or new n b) (get_or backs n q))) as_many_after (gathered n d b q low)) (all_ran (n % count) d (far n) n)
