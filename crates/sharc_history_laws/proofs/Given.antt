-- What a thread was given to begin with, its function and its argument, no turn writes once the thread is started.
use Rattle.sharc_history_laws.proofs.{Imports.{◌≡◌, ℕ, ◌<◌, ◌≢◌, List, Option, Some, None, refl, sym, ap, ◌∙◌, subst, arith, get_or-set_other, slice_index, THREADS, WordStep, WordEvent, word_after, words_after_step, Code, Instr, Shape, state_word, function_word, argument_word, Machine, StepTurn as Act, Local, Asks, instr_at, turn, asked_by, words_now, World, Heap, StageStands, inl, inr, Stage, Names, Hands, drawn_of, Aim, TurnAim, TurnsAim}, Tables.step_leaves, Aims.{drawn_is, typed_aim}}
use Rattle.sharc_code.specs.Runs as Runs

-- a step that leaves its word, or is on another than these two of thread n
pub data SparesGiven (n : ℕ) (step : WordStep) : Type 0 where
  Leaves : ((v : ℕ) → word_after step.op v ≡ v) → SparesGiven n step
  Elsewhere : (step.word ≡ function_word n → ⊥) → (step.word ≡ argument_word n → ⊥) → SparesGiven n step

abbrev pub TurnSpares : ℕ → Act → Type 0
TurnSpares n (Local y) = Unit {0}
TurnSpares n (Asks step go) = SparesGiven n step

module _ (aims : TurnsAim) (s : Shape) (n : ℕ) (few : n < THREADS) (code : Code) (elements : ℕ → ℕ) (w : World) (heap : Heap) (words : List ℕ) (t : ℕ) (m : Machine) (started : slice_index words (state_word n) ≢ 0) where
  abbrev Stands : Instr → Type 0
  Stands i = StageStands code s elements w heap words t m i m.own.stage

  -- a thread that is being spawned is another
  apart : (i : Instr) (stage : Stage) (k : ℕ) → Stands i → m.own.stage ≡ stage → drawn_of stage ≡ Some k → k ≡ n → ⊥
  apart i stage k h at drawn same = started (ap (λ k. slice_index words (state_word k)) (sym same) ∙ (drawn_is code s elements w heap words t m i stage k h at drawn).1)

  spared : (i : Instr) (step : WordStep) → Stands i → Aim s i m step → SparesGiven n step
  spared i step h (Aim.Looks keeps) = Leaves keeps
  spared i step h (Aim.Draws spawns at) = Elsewhere (λ e. omega (arith, at, e)) (λ e. omega (arith, at, e))
  spared i step h (Aim.Prints prints at) = Elsewhere (λ e. omega (arith, at, e)) (λ e. omega (arith, at, e))
  spared i step h (Aim.Names k is at) = Elsewhere (λ e. apart i (Names k) k h is refl (omega (arith, at, e))) (λ e. omega (arith, at, e))
  spared i step h (Aim.Hands k is at) = Elsewhere (λ e. omega (arith, at, e)) (λ e. apart i (Hands k) k h is refl (omega (arith, at, e)))
  spared i step h (Aim.Begins k spawns is at op) = Elsewhere (λ e. omega (arith, at, e)) (λ e. omega (arith, at, e))
  spared i step h (Aim.Returns exits at op) = Elsewhere (λ e. omega (arith, at, e)) (λ e. omega (arith, at, e))
  spared i step h (Aim.Ends exits at op) = Elsewhere (λ e. omega (arith, at, e)) (λ e. omega (arith, at, e))
  spared i step h (Aim.Shadows granule changes at) = Elsewhere (λ e. omega (arith, at, e, few)) (λ e. omega (arith, at, e, few))
  spared i step h (Aim.Stores (inl low)) = Elsewhere (λ e. omega (arith, low, e)) (λ e. omega (arith, low, e))
  spared i step h (Aim.Stores (inr high)) = Elsewhere (λ e. omega (arith, high, e, few)) (λ e. omega (arith, high, e, few))

  by_turn : (i : Instr) (y : Act) → Stands i → TurnAim s i m y → TurnSpares n y
  by_turn i (Local y) h aim = tt
  by_turn i (Asks step go) h aim = spared i step h aim

  pub spares_given : Stands (instr_at code m.at.pc) → TurnSpares n (turn code s m)
  spares_given h = by_turn (instr_at code m.at.pc) (turn code s m) h (typed_aim code s elements w heap words t m aims (instr_at code m.at.pc) h)

-- so both words stay
module _ (n : ℕ) (words : List ℕ) where
  abbrev Stay : List ℕ → Type 0
  Stay words' = (slice_index words' (function_word n) ≡ slice_index words (function_word n)) × (slice_index words' (argument_word n) ≡ slice_index words (argument_word n))

  step_stays : (step : WordStep) → SparesGiven n step → Stay (words_after_step words step)
  step_stays step (Leaves keeps) = (step_leaves words step (function_word n) keeps, step_leaves words step (argument_word n) keeps)
  step_stays step (Elsewhere a b) = (
    get_or-set_other words step.word (function_word n) (word_after step.op (slice_index words step.word)) 0 (λ e. a (sym e)),
    get_or-set_other words step.word (argument_word n) (word_after step.op (slice_index words step.word)) 0 (λ e. b (sym e)),
  )

  pub given_stays : (event : Option WordEvent) (a : Act) → Runs.step_of event ≡ asked_by a → TurnSpares n a → Stay (words_now words event)
  given_stays None a asks h = (refl, refl)
  given_stays (Some e) (Local y) asks h = absurd (let f : Some e.step ≡ None = asks in cc)
  given_stays (Some e) (Asks step go) asks h = let same : e.step ≡ step = cc in step_stays e.step (subst (SparesGiven n) (sym same) h)
