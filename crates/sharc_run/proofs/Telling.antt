-- The words and the threads of a run that ended determine its outcome.
use Rattle.sharc_run.proofs.{Imports.{◌≡◌, ℕ, suc, Bool, true, false, not, List, [], ◌∷◌, refl, sym, ap, ◌∙◌, subst, arith, ◌&&◌, ◌||◌, if◌then◌else◌, All, Any, list_any, THREADS, Code, Shape, TurnState, may_go, Turn, waits_now, held_up, place_after, IsStuck, IsOn, ThreadView, is_stop, Standing, IsAt, AreStarted, is_end, Outcome, Done, Reported, Stopped, Stuck, Limit, has_reported, was_stopped, has_gone, IsSpent, NoneStopped, HasOutcome, reported, stopped, stuck, limited, done, is_on, goes_on, OutcomeIsTold}, Listed.{number_of, head_at, rest_at, find_number, none_at, IsOne, one_in, at, was_started, is_listed, waits_all}}
use Rattle.sharc_run.proofs.Listed as listed

-- ---- states
off_where_gone : (c : TurnState) → is_end c ≡ true → may_go c ≡ false
off_where_gone TurnState.Runs e = cc
off_where_gone TurnState.Tries e = cc
off_where_gone TurnState.Stopped e = refl
off_where_gone TurnState.Ended e = refl

on_unless : (c : TurnState) → is_end c ≡ false → is_stop c ≡ false → may_go c ≡ true
on_unless TurnState.Runs e f = refl
on_unless TurnState.Tries e f = refl
on_unless TurnState.Stopped e f = cc
on_unless TurnState.Ended e f = cc

both_true : (a b : Bool) → (a && not b) ≡ true → (a ≡ true) × (b ≡ false)
both_true true true e = cc
both_true true false e = (refl, refl)
both_true false b e = cc

none_on : (xs : List ThreadView) → All (λ t. has_gone t ≡ true) xs → list_any is_on xs ≡ false
none_on [] all = refl
none_on (x ∷ xs) all =
    ap (λ b. b || list_any is_on xs) (off_where_gone x.machine.at.state (all 0 x (omega arith)))
    ∙ none_on xs (λ k d low. all (suc k) d (omega (arith, low)))

-- ---- the choice
abbrev chosen : Bool → Bool → Bool → Bool → Outcome
chosen a b c d = if a then Reported else (if b then Stopped else (if not c then Done else (if d then Limit else Stuck)))

module _ (code : Code) (s : Shape) (turns : List Turn) (threads : List ThreadView) (fits : s.threads ≡ THREADS) (are : AreStarted code s (place_after code s turns) threads) where
  abbrev g : Standing
  g = place_after code s turns

  -- what a thread waits for is what its machine does
  any_same : (xs : List ThreadView) → All (IsAt code s g) xs → list_any (goes_on g.words) xs ≡ list_any (listed.goes_on code s g) xs
  any_same [] all = refl
  any_same (x ∷ xs) all =
      ap (λ w. (may_go x.machine.at.state && not (held_up g.words (number_of x) w)) || list_any (goes_on g.words) xs) (head_at code s g x xs all).thread.waits
      ∙ ap (λ b. listed.goes_on code s g x || b) (any_same xs (rest_at code s g x xs all))

  -- some thread is on
  some_on : (t : ℕ) → IsOn g t → list_any is_on threads ≡ true
  some_on t on = by (list_any is_on threads) refl
    where
      by : (b : Bool) → list_any is_on threads ≡ b → b ≡ true
      by true e = refl
      by false e =
          let found = find_number code s g is_on t threads are.each e (is_listed code s turns threads fits are t on.0) in
          let off : may_go (g.threads t).at.state ≡ false = ap (λ m. may_go m.at.state) (sym (found.at.machine ∙ ap g.threads found.number)) ∙ found.fails in
          sym off ∙ on.1

  -- where all that are on wait, none goes on
  none_goes : IsStuck code s g → list_any (goes_on g.words) threads ≡ false
  none_goes is = by (list_any (listed.goes_on code s g) threads) refl
    where
      waits : (one : IsOne (listed.goes_on code s g) threads) → waits_now code s g.words one.thread.machine ≡ true
      waits one =
          let here = subst (IsAt code s g) one.is (at code s turns threads fits are one.place one.thread one.low) in
          let n = number_of one.thread in
          let started = subst (λ (t : ThreadView). g.started (number_of t) ≡ true) one.is (was_started code s turns threads fits are one.place one.thread one.low) in
          let goes = both_true (may_go one.thread.machine.at.state) (waits_now code s g.words one.thread.machine) one.passes in
          ap (λ m. waits_now code s g.words m) here.machine ∙ is.all n (started, ap (λ m. may_go m.at.state) (sym here.machine) ∙ goes.0)

      by : (b : Bool) → list_any (listed.goes_on code s g) threads ≡ b → list_any (goes_on g.words) threads ≡ false
      by true e =
          let one = one_in (listed.goes_on code s g) threads e in
          absurd (let h : true ≡ false = sym (waits one) ∙ (both_true (may_go one.thread.machine.at.state) (waits_now code s g.words one.thread.machine) one.passes).1 in cc)
      by false e = any_same threads are.each ∙ e

  -- a thread that made its events is on
  spent_on : (limit : ℕ) → NoneStopped threads → Any (IsSpent limit) threads → (t : ℕ) × IsOn g t
  spent_on limit none any =
      let x = any.1 in
      let low = any.2 in
      let is = any.3 in
      let spent = any.4 in
      let here = subst (IsAt code s g) is (at code s turns threads fits are any.0 x low) in
      let unstopped : was_stopped x ≡ false = subst (λ t. was_stopped t ≡ false) is (none_at was_stopped threads any.0 x none.unstopped low) in
      let started = subst (λ (t : ThreadView). g.started (number_of t) ≡ true) is (was_started code s turns threads fits are any.0 x low) in
      (number_of x, (started, ap (λ m. may_go m.at.state) (sym here.machine) ∙ on_unless x.machine.at.state spent.on unstopped))

  -- one goes on where the run is not stuck
  one_goes : ¬ IsStuck code s g → (t : ℕ) × IsOn g t → list_any (goes_on g.words) threads ≡ true
  one_goes unstuck some = any_same threads are.each ∙ by (list_any (listed.goes_on code s g) threads) refl
    where
      by : (b : Bool) → list_any (listed.goes_on code s g) threads ≡ b → b ≡ true
      by true e = refl
      by false e = absurd (unstuck record { some = some; all = waits_all code s turns threads fits are e })

  -- ---- the outcome
  chosen_is : (a b c d : Bool) → list_any has_reported threads ≡ a → list_any was_stopped threads ≡ b → list_any is_on threads ≡ c → list_any (goes_on g.words) threads ≡ d
      → chosen a b c d ≡ chosen (list_any has_reported threads) (list_any was_stopped threads) (list_any is_on threads) (list_any (goes_on g.words) threads)
  chosen_is a b c d p q r t = λ i. chosen (sym p i) (sym q i) (sym r i) (sym t i)

  pub is_told : (limit : ℕ) (outcome : Outcome) → HasOutcome code s limit g threads outcome
      → outcome ≡ chosen (list_any has_reported threads) (list_any was_stopped threads) (list_any is_on threads) (list_any (goes_on g.words) threads)
  is_told limit Reported (reported e) = chosen_is true _ _ _ e refl refl refl
  is_told limit Stopped (stopped e f) = chosen_is false true _ _ e f refl refl
  is_told limit Stuck (stuck none is) = chosen_is false false true false none.unreported none.unstopped (some_on is.some.0 is.some.1) (none_goes is)
  is_told limit Limit (limited none unstuck any) =
      let some = spent_on limit none any in
      chosen_is false false true true none.unreported none.unstopped (some_on some.0 some.1) (one_goes unstuck some)
  is_told limit Done (done none all) = chosen_is false false false _ none.unreported none.unstopped (none_on threads all) refl

pub told : OutcomeIsTold
told code s limit turns threads outcome fits are has = is_told code s turns threads fits are limit outcome has
