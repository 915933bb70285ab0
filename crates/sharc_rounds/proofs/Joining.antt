-- Two stints of a thread, one after the other, are one; and who may make the second.
use Rattle.std.proofs.{Common.{◌≡◌, ℕ, ◌+◌, ◌-◌, ◌*◌, ◌≤◌, Bool, true, false, List, [], ◌∷◌, ◌++◌, Option, Some, None, get_or, refl, sym, ap, ◌∙◌, subst, append_assoc, arith}, lemmas.List.append-nil}
use Rattle.std.specs.Prelude.{if◌then◌else◌, nat_le}
use Rattle.sharc_word.specs.declared.step.WordEvent.{WordEvent}
use Rattle.sharc_code.specs.{declared.code.Code.Code, declared.shape.Shape.Shape, Machine.Machine, Path.{turn, after, events_of_turn, may_go, counted, machine_after, events_of_path, made_in, IsPath}}
use Rattle.sharc_cpu.specs.Thread.{ThreadView}
use Rattle.sharc_bus.specs.Bus.{BusView, SeatView}
use Rattle.sharc_rounds.specs.{declared.hand.Hand.Hand, declared.stint.TheConstants.KEPT, declared.worker.Worker.Worker, Shares.first_turns, Round.{Seat, MadeQuantum, MadeQuantumAt, MayTurnAt, KeepsRoom, MayRun, MayRunAt, MayAllRun, HasRun, HasRunAt, HaveAllRun, KeepsRoomAt, KeepAllRoom}}

-- ---- paths
module _ (code : Code) (s : Shape) (m : Machine) (earlier : List ℕ) where
  machine_join : (later : List ℕ) → machine_after code s m (later ++ earlier) ≡ machine_after code s (machine_after code s m earlier) later
  machine_join [] = refl
  machine_join (f ∷ later) = ap (λ (x : Machine). after (turn code s x) f) (machine_join later)

  path_join : (later : List ℕ) → IsPath code s m earlier → IsPath code s (machine_after code s m earlier) later → IsPath code s m (later ++ earlier)
  path_join [] p q = p
  path_join (f ∷ later) p q = (path_join later p q.0, subst (λ (x : Machine). may_go x.at.state ≡ true) (sym (machine_join later)) q.1)

  events_join : (later : List ℕ) → (machine_after code s m earlier).own.number ≡ m.own.number → events_of_path code s m (later ++ earlier) ≡ events_of_path code s m earlier ++ events_of_path code s (machine_after code s m earlier) later
  events_join [] same = sym (append-nil (events_of_path code s m earlier))
  events_join (f ∷ later) same =
      ap (λ (es : List WordEvent). es ++ events_of_turn m.own.number (turn code s (machine_after code s m (later ++ earlier))) f) (events_join later same)
      ∙ ap (λ (x : Machine). (events_of_path code s m earlier ++ events_of_path code s (machine_after code s m earlier) later) ++ events_of_turn m.own.number (turn code s x) f) (machine_join later)
      ∙ ap (λ (n : ℕ). (events_of_path code s m earlier ++ events_of_path code s (machine_after code s m earlier) later) ++ events_of_turn n (turn code s (machine_after code s (machine_after code s m earlier) later)) f) (sym same)
      ∙ append_assoc (events_of_path code s m earlier) (events_of_path code s (machine_after code s m earlier) later) _

  made_join : (later : List ℕ) → made_in code s m (later ++ earlier) ≡ made_in code s m earlier + made_in code s (machine_after code s m earlier) later
  made_join [] = omega arith
  made_join (f ∷ later) =
      let e = made_join later in
      let st : counted (machine_after code s m ((f ∷ later) ++ earlier)).at.state ≡ counted (machine_after code s (machine_after code s m earlier) (f ∷ later)).at.state = ap (λ (x : Machine). counted x.at.state) (machine_join (f ∷ later)) in
      omega (arith, e, st)

none_behind : (later earlier : List ℕ) → later ++ earlier ≡ [] → earlier ≡ []
none_behind [] earlier e = e
none_behind (f ∷ later) earlier e = absurd (let g : f ∷ (later ++ earlier) ≡ [] = e in cc)

-- ---- goes
some_or_fewer : (b : Bool) (turns kept : ℕ) → (if b then turns else turns - kept) ≤ turns
some_or_fewer true turns kept = omega arith
some_or_fewer false turns kept = omega arith

-- the first go of a stint has no more turns than the stint
pub first_few : (turns : ℕ) → first_turns turns ≤ turns
first_few turns = some_or_fewer (nat_le turns (2 * KEPT)) turns KEPT

-- fewer turns leave the room that more leave
pub room_of_more : (few turns : ℕ) (old new : Seat) → few ≤ turns → KeepsRoom few old new → KeepsRoom turns old new
room_of_more few turns (Some old) (Some new) le h = λ more room. h more (λ on. let r = room on in omega (arith, r, le))
room_of_more few turns (Some old) None le h = tt
room_of_more few turns None new le h = tt

module _ (code : Code) (s : Shape) (limit : ℕ) where
  -- ---- threads
  made_both : (old mid new : ThreadView) (first second : List WordEvent) → MadeQuantum code s limit old mid first → MadeQuantum code s limit mid new second → MadeQuantum code s limit old new (first ++ second)
  made_both old mid new first second q r =
      let is = q.machine in
      let path : IsPath code s (machine_after code s old.machine q.founds) r.founds = subst (λ (m : Machine). IsPath code s m r.founds) is r.path in
      let number : (machine_after code s old.machine q.founds).own.number ≡ old.machine.own.number = ap (λ (m : Machine). m.own.number) (sym is) ∙ q.number in
      let more : made_in code s mid.machine r.founds ≡ made_in code s (machine_after code s old.machine q.founds) r.founds = ap (λ (m : Machine). made_in code s m r.founds) is in
      let both = made_join code s old.machine q.founds r.founds in
      record {
        thread = r.thread;
        founds = r.founds ++ q.founds;
        path = path_join code s old.machine q.founds r.founds q.path path;
        machine = r.machine ∙ ap (λ (m : Machine). machine_after code s m r.founds) is ∙ sym (machine_join code s old.machine q.founds r.founds);
        events_are = ap (λ (es : List WordEvent). es ++ second) q.events_are
            ∙ ap (λ (es : List WordEvent). events_of_path code s old.machine q.founds ++ es) (r.events_are ∙ ap (λ (m : Machine). events_of_path code s m r.founds) is)
            ∙ sym (events_join code s old.machine q.founds r.founds number);
        number = r.number ∙ q.number;
        made = omega (arith, r.made, q.made, more, both);
        within = r.within;
        some = λ on low e. q.some on low (none_behind r.founds q.founds e);
      }

  made_both_at : (old mid new : Seat) (first second : List WordEvent) → MadeQuantumAt code s limit old mid first → MadeQuantumAt code s limit mid new second → MadeQuantumAt code s limit old new (first ++ second)
  made_both_at (Some old) (Some mid) (Some new) first second q r = made_both old mid new first second q r
  made_both_at (Some old) (Some mid) None first second q r = absurd r
  made_both_at (Some old) None new first second q r = absurd q
  made_both_at None (Some mid) new first second q r = absurd q
  made_both_at None None (Some new) first second q r = absurd r
  made_both_at None None None first second q r = ap (λ (es : List WordEvent). es ++ second) q ∙ r

  -- ---- hands
  pub has_both : (old mid new : Hand SeatView) → HasRun code s limit old mid → HasRun code s limit mid new → HasRun code s limit old new
  has_both old mid new h k = record {
    events = h.events ++ k.events;
    made = made_both_at old.seat mid.seat new.seat h.events k.events h.made k.made;
    bus_is = k.bus_is ∙ h.bus_is;
    number = k.number ∙ h.number;
    events_are = k.events_are ∙ ap (λ (es : List WordEvent). es ++ k.events) h.events_are ∙ append_assoc old.port.events h.events k.events;
  }

  -- two goes keep the room that both together leave
  room_both_at : (turns more both : ℕ) (old mid new : Seat) (events : List WordEvent) → both ≡ turns + more → MadeQuantumAt code s limit old mid events → KeepsRoom turns old mid → KeepsRoom more mid new → KeepsRoom both old new
  room_both_at turns more both (Some old) (Some mid) (Some new) events e q h k = λ rest room. k rest (h (more + rest) (λ on. let r = room on in omega (arith, r, e)))
  room_both_at turns more both (Some old) None new events e q h k = absurd q
  room_both_at turns more both (Some old) (Some mid) None events e q h k = tt
  room_both_at turns more both None mid new events e q h k = tt

  pub room_both : (turns more both : ℕ) (old mid new : Hand SeatView) → both ≡ turns + more → HasRun code s limit old mid → KeepsRoom turns old.seat mid.seat → KeepsRoom more mid.seat new.seat → KeepsRoom both old.seat new.seat
  room_both turns more both old mid new e r h k = room_both_at turns more both old.seat mid.seat new.seat r.events e r.made h k

  has_both_at : (old mid new : Option (Hand SeatView)) → HasRunAt code s limit old mid → HasRunAt code s limit mid new → HasRunAt code s limit old new
  has_both_at (Some old) (Some mid) (Some new) h k = has_both old mid new h k
  has_both_at (Some old) (Some mid) None h k = absurd k
  has_both_at (Some old) None new h k = absurd h
  has_both_at None (Some mid) new h k = absurd h
  has_both_at None None (Some new) h k = absurd k
  has_both_at None None None h k = tt

  pub have_both : (old mid new : Worker SeatView) → HaveAllRun code s limit old mid → HaveAllRun code s limit mid new → HaveAllRun code s limit old new
  have_both old mid new h k = λ n. has_both_at (get_or old.hands.items n None) (get_or mid.hands.items n None) (get_or new.hands.items n None) (h n) (k n)

  -- ---- who may make more turns
  module _ (bus : BusView) where
    may_at_seat : (turns more number : ℕ) (old new : Seat) (events : List WordEvent) → MayTurnAt code s limit (turns + more) old number → MadeQuantumAt code s limit old new events → KeepsRoom turns old new → MayTurnAt code s limit more new number
    may_at_seat turns more number (Some old) (Some new) events may q keeps = record { thread_is = q.thread; number_is = may.number_is ∙ sym q.number; within = q.within; room = keeps more may.room }
    may_at_seat turns more number (Some old) None events may q keeps = tt
    may_at_seat turns more number None (Some new) events may q keeps = absurd q
    may_at_seat turns more number None None events may q keeps = tt

    may_more : (turns more : ℕ) (old new : Hand SeatView) → MayRun code s limit bus (turns + more) old → HasRun code s limit old new → KeepsRoom turns old.seat new.seat → MayRun code s limit bus more new
    may_more turns more old new may h keeps = record {
      bus_is = h.bus_is ∙ may.bus_is;
      may = subst (MayTurnAt code s limit more new.seat) (sym h.number) (may_at_seat turns more old.port.number old.seat new.seat h.events may.may h.made keeps);
    }

    -- behind a go a hand may make the turns that are left
    pub may_rest : (turns both : ℕ) (old new : Hand SeatView) → turns ≤ both → MayRun code s limit bus both old → HasRun code s limit old new → KeepsRoom turns old.seat new.seat → MayRun code s limit bus (both - turns) new
    may_rest turns both old new le may h keeps =
        let e : both ≡ turns + (both - turns) = omega (arith, le) in
        may_more turns (both - turns) old new (subst (λ k. MayRun code s limit bus k old) e may) h keeps

    may_more_at : (turns more : ℕ) (old new : Option (Hand SeatView)) → MayRunAt code s limit bus (turns + more) old → HasRunAt code s limit old new → KeepsRoomAt turns old new → MayRunAt code s limit bus more new
    may_more_at turns more (Some old) (Some new) may h keeps = may_more turns more old new may h keeps
    may_more_at turns more (Some old) None may h keeps = tt
    may_more_at turns more None (Some new) may h keeps = absurd h
    may_more_at turns more None None may h keeps = tt

    -- behind a stint all may make those that are left
    pub all_may_more : (turns more both : ℕ) (old new : Worker SeatView) → both ≡ turns + more → MayAllRun code s limit bus both old → HaveAllRun code s limit old new → KeepAllRoom turns old new → MayAllRun code s limit bus more new
    all_may_more turns more both old new e may h keeps = λ n.
        may_more_at turns more (get_or old.hands.items n None) (get_or new.hands.items n None) (subst (λ k. MayRunAt code s limit bus k (get_or old.hands.items n None)) e (may n)) (h n) (keeps n)

    fewer_at_seat : (few turns number : ℕ) (seat : Seat) → few ≤ turns → MayTurnAt code s limit turns seat number → MayTurnAt code s limit few seat number
    fewer_at_seat few turns number (Some thread) le may = record { thread_is = may.thread_is; number_is = may.number_is; within = may.within; room = λ on. let r = may.room on in omega (arith, r, le) }
    fewer_at_seat few turns number None le may = tt

    fewer_at : (few turns : ℕ) (hand : Option (Hand SeatView)) → few ≤ turns → MayRunAt code s limit bus turns hand → MayRunAt code s limit bus few hand
    fewer_at few turns None le may = tt
    fewer_at few turns (Some hand) le may = record { bus_is = may.bus_is; may = fewer_at_seat few turns hand.port.number hand.seat le may.may }

    -- who may make so many turns may make fewer
    pub all_fewer : (few turns : ℕ) (worker : Worker SeatView) → few ≤ turns → MayAllRun code s limit bus turns worker → MayAllRun code s limit bus few worker
    all_fewer few turns worker le may = λ n. fewer_at few turns (get_or worker.hands.items n None) le (may n)
