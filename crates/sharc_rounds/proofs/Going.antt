-- Rounds go on: the run grows by a round, and the events that are left become fewer.
use Rattle.std.proofs.{Common.{◌≡◌, ◌≢◌, [], ◌<◌, ◌≤◌, ◌++◌, ⊎_elim, true, false, ℕ, List, None, length, get_or, refl, sym, ap, ◌∙◌, subst, arith}, lemmas.Bool.cases_lt}
use Rattle.std.specs.Prelude.{◌||◌, nat_lt}
use Rattle.sharc_word.specs.{declared.step.TheConstants.THREADS, Laws.HistoryLaws}
use Rattle.sharc_code.specs.{declared.code.Code.Code, declared.shape.Shape.Shape, Laws.RunLaws, Opening.opening_words, Path.may_go, Runs.{Turn, IsRun, at, opening_of, is_started, turns_of, word_events}, StandingLaws.StandingLaws, Waits.waits_now, Whole.{one_thread, bounds, place_after}}
use Rattle.sharc_threads.specs.{Ends.{Standing, is_enabled}, Laws.TableLaws, Seats.{AreSeats, HasBegun, left, may_turn_at}}
use Rattle.sharc_rounds.specs.{Round.{Seat, MadeRound}, Laws.{StandsAt, GoneOn, RoundsGoOn, RoundsKeepLength}}
use Rattle.sharc_rounds.proofs.Growing.{merged, turns, run_on, words_then, bound_then, were_started, seats_then, made_turn, no_event}
use Rattle.sharc_lemmas.proofs.{Bools.{not_true, both}, Numbers.lt_true}

pub next_length : HistoryLaws → RoundsKeepLength
next_length laws code s limit words now old new round = ap (λ (ws : List ℕ). length ws) round.history.words_are ∙ laws.count words round.history.history

module _ (run_laws : RunLaws) (standing : StandingLaws) (tables : TableLaws) (code : Code) (s : Shape) (limit : ℕ) (few : limit ≤ 100000000)
    (earlier : List Turn) (words now : List ℕ) (seats mid : List Seat) (r : StandsAt code s limit earlier words seats) (made : MadeRound code s limit words now seats mid) where
  abbrev pub before : Standing
  before = place_after code s earlier

  abbrev pub both_rounds : (x : MadeRound code s limit before.words now seats mid) × (x.history.history ≡ made.history.history)
  both_rounds = subst (λ (ws : List ℕ). (x : MadeRound code s limit ws now seats mid) × (x.history.history ≡ made.history.history)) r.words_are (made, refl)

  abbrev pub round : MadeRound code s limit before.words now seats mid
  round = both_rounds.0

  abbrev pub more : List Turn
  more = turns code s before seats mid r.seats_are limit few now round run_laws r.few

  abbrev pub then_ : Standing
  then_ = at bounds (one_thread code s) before more

  more_events : word_events more ≡ made.history.history
  more_events = (merged code s before seats mid r.seats_are limit few now round run_laws r.few).events ∙ both_rounds.1

  run_more : IsRun bounds (one_thread code s) before more
  run_more = run_on code s before seats mid r.seats_are limit few now round run_laws r.few

  words_more : then_.words ≡ now
  words_more = words_then code s before seats mid r.seats_are limit few now round run_laws r.few

  place_is : place_after code s (more ++ earlier) ≡ then_
  place_is = run_laws.places_join bounds code s (opening_of bounds (one_thread code s) (opening_words code s)) more earlier

  mid_seats : AreSeats code s then_.threads then_.made before.started mid
  mid_seats = seats_then code s before seats mid r.seats_are limit few now round run_laws r.few

  module _ (new : List Seat) (count : length new ≡ length mid) (each : (t : ℕ) → t < THREADS → HasBegun code s now t (get_or mid t None) (get_or new t None)) where
    started_now : (t : ℕ) → (is_started bounds now t || before.started t) ≡ then_.started t
    started_now t =
        ap (λ (ws : List ℕ). is_started bounds ws t || before.started t) (sym words_more)
        ∙ sym (standing.told code s earlier more run_more (were_started code s before seats mid r.seats_are limit few now round run_laws r.few) t)

    are_seats : AreSeats code s then_.threads then_.made then_.started new
    are_seats = tables.same code s then_.threads then_.made (λ t. is_started bounds now t || before.started t) then_.started new started_now
        (tables.begin code s then_.threads then_.made before.started now mid new mid_seats count each).0

    stands : StandsAt code s limit (more ++ earlier) now new
    stands = record {
      run = (run_laws.join bounds code s (opening_of bounds (one_thread code s) (opening_words code s)) more earlier).1 (r.run, run_more);
      few = λ t. subst (λ (g : Standing). g.made t ≤ limit) (sym place_is) (bound_then code s before seats mid r.seats_are limit few now round run_laws r.few t);
      words_are = sym words_more ∙ ap (λ (g : Standing). g.words) (sym place_is);
      seats_are = subst (λ (g : Standing). AreSeats code s g.threads g.made g.started new) (sym place_is) are_seats;
    }

    fewer : ((t : ℕ) × (may_turn_at words limit (get_or seats t None) ≡ true)) → left limit new < left limit seats
    fewer one = ⊎_elim (λ less. less) (λ (more_left : left limit seats ≤ left limit new). absurd (stops more_left)) (cases_lt (left limit new) (left limit seats))
      where
        stops : left limit seats ≤ left limit new → ⊥
        stops more_left =
            let t = one.0 in
            let enabled : is_enabled code s limit before t ≡ true = sym (tables.enabled code s limit before words seats record { words_are = r.words_are; are = r.seats_are } t) ∙ one.1 in
            let started = both (before.started t) _ enabled in
            let going = both (may_go (before.threads t).at.state) _ started.1 in
            let low = both (nat_lt (before.made t) limit) _ going.1 in
            let off : waits_now code s before.words (before.threads t) ≡ false = not_true (waits_now code s before.words (before.threads t)) low.1 in
            let some : turns_of t more ≢ [] = made_turn code s before seats mid r.seats_are limit few now round run_laws r.few t started.0 going.0 (lt_true (before.made t) limit low.0) in
            let same : left limit new ≡ left limit mid = (tables.begin code s then_.threads then_.made before.started now mid new mid_seats count each).1 limit in
            let none = no_event code s before seats mid r.seats_are limit few now round run_laws r.few (omega (arith, more_left, same)) in
            let waits : waits_now code s before.words (before.threads t) ≡ true = (standing.idle code s before more run_more none).waits t some in
            let e : true ≡ false = sym waits ∙ off in cc

    pub gone_on : GoneOn code s limit earlier words now seats new made.history.history
    gone_on = record { more = more; stands = stands; events_are = more_events; fewer = fewer }

pub goes_on : RunLaws → StandingLaws → TableLaws → RoundsGoOn
goes_on run_laws standing tables code s limit earlier words now seats mid new few r made count each = gone_on run_laws standing tables code s limit few earlier words now seats mid r made new count each
