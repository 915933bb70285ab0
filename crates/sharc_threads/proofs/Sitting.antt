-- What the places of a table say of where the run is.
use Rattle.sharc_threads.proofs.Imports.{◌≡◌, ℕ, ◌<◌, ◌≤◌, Bool, true, false, not, List, length, get_or, Option, Some, None, sym, ap, ◌∙◌, subst, arith, ⊎_elim, cases_lt, true_or_false, get_or_past, nat_lt, ◌&&◌, is_some, THREADS, Code, Shape, Machine, may_go, held_up, wait_of, waits_now, IsOn, IsStuck, ThreadView, Standing, is_enabled, AllAreDone, Sits, IsSeat, AreSeats, AreOf, is_on_at, waits_at, may_turn_at, has_number, waits}

-- a number that is none has no thread
pub past : (seats : List (Option ThreadView)) (t : ℕ) → length seats ≤ t → get_or seats t None ≡ None
past seats t high = get_or_past seats t None high

-- ---- one place
module _ (code : Code) (s : Shape) (g : Standing) (t : ℕ) where
  on_is : (x : Option ThreadView) → IsSeat code s g.threads g.made g.started t x → is_on_at x ≡ true → IsOn g t
  on_is None is on = absurd (let e : false ≡ true = on in cc)
  on_is (Some thread) is on = (is.0, ap (λ (m : Machine). may_go m.at.state) (sym is.1.machine) ∙ on)

  is_on : (x : Option ThreadView) → IsSeat code s g.threads g.made g.started t x → IsOn g t → is_on_at x ≡ true
  is_on None is on = absurd (let e : false ≡ true = sym is.0 ∙ on.0 in cc)
  is_on (Some thread) is on = ap (λ (m : Machine). may_go m.at.state) is.1.machine ∙ on.1

  waits_are : (words : List ℕ) (thread : ThreadView) → words ≡ g.words → Sits code s g.threads g.made t thread → waits words thread ≡ waits_now code s g.words (g.threads t)
  waits_are words thread same is =
      ap (held_up words thread.machine.own.number) is.thread_is.waits ∙ ap (λ (m : Machine). held_up words m.own.number (wait_of code s m)) is.machine ∙ ap (λ (ws : List ℕ). waits_now code s ws (g.threads t)) same

  waits_at_are : (words : List ℕ) (x : Option ThreadView) → words ≡ g.words → IsSeat code s g.threads g.made g.started t x → IsOn g t → waits_at words x ≡ waits_now code s g.words (g.threads t)
  waits_at_are words None same is on = absurd (let e : false ≡ true = sym is.0 ∙ on.0 in cc)
  waits_at_are words (Some thread) same is on = waits_are words thread same is.1

  pub not_started : (limit : ℕ) → g.started t ≡ false → is_enabled code s limit g t ≡ false
  not_started limit e = ap (λ b. b && (may_go (g.threads t).at.state && (nat_lt (g.made t) limit && not (waits_now code s g.words (g.threads t))))) e

  enabled_at : (words : List ℕ) (limit : ℕ) (x : Option ThreadView) → words ≡ g.words → IsSeat code s g.threads g.made g.started t x → may_turn_at words limit x ≡ is_enabled code s limit g t
  enabled_at words limit None same is = sym (not_started limit is.0)
  enabled_at words limit (Some thread) same is =
      ap (λ (m : Machine). may_go m.at.state && (nat_lt thread.made limit && not (waits words thread))) is.1.machine
      ∙ ap (λ n. may_go (g.threads t).at.state && (nat_lt n limit && not (waits words thread))) is.1.made_is
      ∙ ap (λ b. may_go (g.threads t).at.state && (nat_lt (g.made t) limit && not b)) (waits_are words thread same is.1)
      ∙ ap (λ b. b && (may_go (g.threads t).at.state && (nat_lt (g.made t) limit && not (waits_now code s g.words (g.threads t))))) (sym is.0)

-- ---- all places
number_at : (code : Code) (s : Shape) (threads : ℕ → Machine) (made : ℕ → ℕ) (started : ℕ → Bool) (t : ℕ) (x : Option ThreadView) → IsSeat code s threads made started t x → has_number x
number_at code s threads made started t None is = tt
number_at code s threads made started t (Some thread) is = is.1.thread_is.number

pub numbers : (code : Code) (s : Shape) (threads : ℕ → Machine) (made : ℕ → ℕ) (started : ℕ → Bool) (seats : List (Option ThreadView))
    → AreSeats code s threads made started seats → (t : ℕ) → has_number (get_or seats t None)
numbers code s threads made started seats are t =
    ⊎_elim
    (λ (low : t < THREADS). number_at code s threads made started t (get_or seats t None) (are.each t low))
    (λ (high : THREADS ≤ t). subst has_number (sym (past seats t (omega (arith, high, are.count)))) tt)
    (cases_lt t THREADS)

there_at : (code : Code) (s : Shape) (threads : ℕ → Machine) (made : ℕ → ℕ) (started : ℕ → Bool) (t : ℕ) (x : Option ThreadView) → IsSeat code s threads made started t x → is_some x ≡ started t
there_at code s threads made started t None is = sym is.0
there_at code s threads made started t (Some thread) is = sym is.0

pub there : (code : Code) (s : Shape) (threads : ℕ → Machine) (made : ℕ → ℕ) (started : ℕ → Bool) (seats : List (Option ThreadView))
    → AreSeats code s threads made started seats → (t : ℕ) → is_some (get_or seats t None) ≡ started t
there code s threads made started seats are t =
    ⊎_elim
    (λ (low : t < THREADS). there_at code s threads made started t (get_or seats t None) (are.each t low))
    (λ (high : THREADS ≤ t). ap is_some (past seats t (omega (arith, high, are.count))) ∙ sym (true_or_false (started t) (λ e. let low = are.few t e in omega (arith, low, high))))
    (cases_lt t THREADS)

module _ (code : Code) (s : Shape) (g : Standing) (words : List ℕ) (seats : List (Option ThreadView)) (of : AreOf code s g words seats) where
  on_at : (t : ℕ) → is_on_at (get_or seats t None) ≡ true → IsOn g t
  on_at t on =
      ⊎_elim
      (λ (low : t < THREADS). on_is code s g t (get_or seats t None) (of.are.each t low) on)
      (λ (high : THREADS ≤ t). absurd (let e : false ≡ true = sym (ap is_on_at (past seats t (omega (arith, high, of.are.count)))) ∙ on in cc))
      (cases_lt t THREADS)

  pub done_all : ((t : ℕ) → is_on_at (get_or seats t None) ≡ false) → AllAreDone g
  done_all done t e =
      true_or_false (may_go (g.threads t).at.state)
      (λ may. let x : true ≡ false = sym (is_on code s g t (get_or seats t None) (of.are.each t (of.are.few t e)) (e, may)) ∙ done t in cc)

  pub stuck : (t : ℕ) → is_on_at (get_or seats t None) ≡ true → ((k : ℕ) → is_on_at (get_or seats k None) ≡ true → waits_at words (get_or seats k None) ≡ true) → IsStuck code s g
  stuck t on wait = record {
    some = (t, on_at t on);
    all = λ k e.
        let is = of.are.each k (of.are.few k e.0) in
        sym (waits_at_are code s g k words (get_or seats k None) of.words_are is e) ∙ wait k (is_on code s g k (get_or seats k None) is e);
  }

  pub not_done : (t : ℕ) → is_on_at (get_or seats t None) ≡ true → ¬ AllAreDone g
  not_done t on all = let h = on_at t on in let x : true ≡ false = sym h.1 ∙ all t h.0 in cc

  pub not_stuck : (t : ℕ) → is_on_at (get_or seats t None) ≡ true → waits_at words (get_or seats t None) ≡ false → ¬ IsStuck code s g
  not_stuck t on goes is =
      let h = on_at t on in
      let x : true ≡ false = sym (is.all t h) ∙ sym (waits_at_are code s g t words (get_or seats t None) of.words_are (of.are.each t (of.are.few t h.0)) h) ∙ goes in
      cc

  pub enabled_is : (limit t : ℕ) → may_turn_at words limit (get_or seats t None) ≡ is_enabled code s limit g t
  enabled_is limit t =
      ⊎_elim
      (λ (low : t < THREADS). enabled_at code s g t words limit (get_or seats t None) of.words_are (of.are.each t low))
      (λ (high : THREADS ≤ t).
      ap (may_turn_at words limit) (past seats t (omega (arith, high, of.are.count)))
      ∙ sym (not_started code s g t limit (true_or_false (g.started t) (λ e. let low = of.are.few t e in omega (arith, low, high)))))
      (cases_lt t THREADS)
