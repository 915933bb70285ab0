-- How a run ended, from where its threads are.
use Rattle.sharc_run.proofs.{Imports.{◌≡◌, ℕ, Bool, true, false, not, List, [], ◌∷◌, refl, sym, ap, ◌∙◌, subst, arith, Result, Ok, Err, IfOk, nat_lt, ◌&&◌, if◌then◌else◌, Any, list_any, THREADS, Code, Shape, may_go, Turn, waits_now, place_after, IsStuck, ThreadView, End, Standing, is_enabled, AllAreDone, EndIs, IsAt, AreStarted, Reported, Stopped, has_reported, was_stopped, IsSpent, NoneStopped, HasOutcome, by_end, outcome_of, reported, stopped, stuck, limited, done, Ran, IsEnd, AreAllowed, IsRunText, AreChosen, and_first, le_false}, Listed.{number_of, on_from, goes_on, spent_when, IsOne, one_in, at, was_started, all_gone, not_stuck}}

-- ---- the end
module _ (code : Code) (s : Shape) (limit : ℕ) (turns : List Turn) (threads : List ThreadView) (fits : s.threads ≡ THREADS) (are : AreStarted code s (place_after code s turns) threads)
    (over : (t : ℕ) → is_enabled code s limit (place_after code s turns) t ≡ false) where
  abbrev g : Standing
  g = place_after code s turns

  spent_one : IsOne (goes_on code s g) threads → Any (IsSpent limit) threads
  spent_one one =
      let here = subst (IsAt code s g) one.is (at code s turns threads fits are one.place one.thread one.low) in
      let n = number_of one.thread in
      let is_true = subst (λ (t : ThreadView). g.started (number_of t) ≡ true) one.is (was_started code s turns threads fits are one.place one.thread one.low) in
      let goes = and_first (may_go one.thread.machine.at.state) (not (waits_now code s g.words one.thread.machine)) one.passes in
      let passes : (may_go (g.threads n).at.state && not (waits_now code s g.words (g.threads n))) ≡ true = ap (λ m. may_go m.at.state && not (waits_now code s g.words m)) (sym here.machine) ∙ one.passes in
      let less : nat_lt (g.made n) limit ≡ false =
      spent_when (g.started n) (may_go (g.threads n).at.state) (nat_lt (g.made n) limit) (waits_now code s g.words (g.threads n)) is_true passes (over n) in
      (one.place, one.thread, one.low, one.is, record { on = on_from one.thread.machine.at.state goes; made = let h = le_false (g.made n) limit less in let e = here.made in omega (arith, h, e) })

  one_spent : ¬ AllAreDone g → ¬ IsStuck code s g → Any (IsSpent limit) threads
  one_spent undone unstuck = by (list_any (goes_on code s g) threads) refl
    where
      by : (b : Bool) → list_any (goes_on code s g) threads ≡ b → Any (IsSpent limit) threads
      by true e = spent_one (one_in (goes_on code s g) threads e)
      by false e = absurd (not_stuck code s turns threads fits are e undone unstuck)

  unstopped : (end : End) → EndIs code s g end → NoneStopped threads → HasOutcome code s limit g threads (by_end end)
  unstopped End.AllDone is none = done none (all_gone code s turns threads fits are is none.unstopped)
  unstopped End.Stuck is none = stuck none is
  unstopped End.Budget is none = limited none is.1 (one_spent is.0 is.1)

  pub has_outcome : (end : End) → EndIs code s g end → HasOutcome code s limit g threads (outcome_of threads end)
  has_outcome end is = by (list_any has_reported threads) (list_any was_stopped threads) refl refl
    where
      by : (a b : Bool) → list_any has_reported threads ≡ a → list_any was_stopped threads ≡ b → HasOutcome code s limit g threads (if a then Reported else (if b then Stopped else by_end end))
      by true b e f = reported e
      by false true e f = stopped e f
      by false false e f = unstopped end is record { unreported = e; unstopped = f }

  pub are_allowed : AreAllowed threads
  are_allowed = λ k d low. (at code s turns threads fits are k d low).thread.number

  pub ended : (end : End) → EndIs code s g end → (words : List ℕ) (these : List ThreadView) → words ≡ g.words → these ≡ threads → (ran : Ran)
      → IsRunText code words these ran.text.items → ran.outcome ≡ outcome_of these end → IsEnd code s limit g ran
  ended end is words these same_words same_threads ran text outcome = record {
    threads = threads;
    started = are;
    text = subst (λ w. IsRunText code w threads ran.text.items) same_words (subst (λ xs. IsRunText code words xs ran.text.items) same_threads text);
    outcome = subst (HasOutcome code s limit g threads) (sym (outcome ∙ ap (λ xs. outcome_of xs end) same_threads)) (has_outcome end is);
  }

-- ---- answers
pub both_ok : {X E : Type 0} (r : Result X E) (A B C : X → Type 0) → ((x : X) → A x → B x → C x) → IfOk r A → IfOk r B → IfOk r C
both_ok (Ok x) A B C f a b = f x a b
both_ok (Err e) A B C f a b = a

-- what a chooser answers is answered by one that answers as much
pub chosen_as : (A B : ℕ → ℕ → ℕ → Type 0) → ((number count place : ℕ) → A number count place → B number count place) → (code : Code) (s : Shape) (limit : ℕ) (turns : List Turn)
    → AreChosen A code s limit turns → AreChosen B code s limit turns
chosen_as A B weaker code s limit [] are = are
chosen_as A B weaker code s limit (turn ∷ earlier) are = (
  chosen_as A B weaker code s limit earlier are.0,
  record { place = are.1.place; answered = weaker _ _ _ are.1.answered; within = are.1.within; is = are.1.is },
)
