-- What each turn is to the state words and to the number of the next thread, and what it makes of the number that a Spawn has drawn.
use Rattle.sharc_history_laws.proofs.{Imports.{◌≡◌, ℕ, ◌+◌, ◌<◌, Bool, true, false, ◌==◌, nat_lt, length, Option, Some, None, if◌then◌else◌, refl, sym, ap, ◌∙◌, arith, Decides-ltb, Trap, THREADS, WordOp, WordStep, word_after, Code, Register, Instr, Shape, Stage, Makes, Names, Hands, Begins, Withdraws, WithdrawsFrom, Leaves, TurnOutcome, Stays, Rested, Begun, Refused, Gone, own_after, MayComeOut, ComesOut, has_stage, is_exit, is_ended, state_word, next_thread_word, Machine, Own, StepTurn as Turn, act, spawn, withdraws, exit, at_stage, numbered, trapped, Local, Asks, step_of, instr_at, after, turn, asked_by, counted, IsStageOf, drawn_of, yes, inl, inr, Aim, BuildsIn, TurnAim, ThreadLaws}, Outcomes.unended}
use Rattle.sharc_code.specs.Aims.{is_spawn}

-- ---- words that say something of a thread
-- a step that leaves them
pub record LeavesThem (step : WordStep) : Type 0 where
  pub next : step.word ≡ next_thread_word → (v : ℕ) → word_after step.op v ≡ v
  pub states : (t : ℕ) → t < THREADS → step.word ≡ state_word t → (v : ℕ) → word_after step.op v ≡ v

abbrev pub Elsewhere : Option WordStep → Type 0
Elsewhere None = Unit {0}
Elsewhere (Some step) = LeavesThem step

apart : (step : WordStep) → (step.word ≡ next_thread_word → ⊥) → ((t : ℕ) → t < THREADS → step.word ≡ state_word t → ⊥) → LeavesThem step
apart step unnumbered unstated = record { next = λ e. absurd (unnumbered e); states = λ t low e. absurd (unstated t low e) }

loads : (word : ℕ) → LeavesThem (step_of word WordOp.Load)
loads word = record { next = λ e v. refl; states = λ t low e v. refl }

leaves : (s : Shape) (i : Instr) (m : Machine) (step : WordStep) → is_spawn i ≡ false → is_exit i ≡ false → Aim s i m step → LeavesThem step
leaves s i m step single stays (Aim.Looks keeps) = record { next = λ e. keeps; states = λ t low e. keeps }
leaves s i m step single stays (Aim.Draws spawns at) = absurd (yes (sym spawns ∙ single))
leaves s i m step single stays (Aim.Prints prints at) = apart step (λ e. omega (arith, at, e)) (λ t low e. omega (arith, at, e))
leaves s i m step single stays (Aim.Names n is at) = apart step (λ e. omega (arith, at, e)) (λ t low e. omega (arith, at, e))
leaves s i m step single stays (Aim.Hands n is at) = apart step (λ e. omega (arith, at, e)) (λ t low e. omega (arith, at, e))
leaves s i m step single stays (Aim.Begins n spawns is at op) = absurd (yes (sym spawns ∙ single))
leaves s i m step single stays (Aim.Returns exits at op) = absurd (yes (sym exits ∙ stays))
leaves s i m step single stays (Aim.Ends exits at op) = absurd (yes (sym exits ∙ stays))
leaves s i m step single stays (Aim.Shadows granule changes at) = apart step (λ e. omega (arith, at, e)) (λ t low e. omega (arith, at, e, low))
leaves s i m step single stays (Aim.Stores (inl small)) = apart step (λ e. omega (arith, small, e)) (λ t low e. omega (arith, small, e))
leaves s i m step single stays (Aim.Stores (inr high)) = apart step (λ e. omega (arith, high, e)) (λ t low e. omega (arith, high, e, low))

away : (s : Shape) (i : Instr) (m : Machine) (t : Turn) → is_spawn i ≡ false → is_exit i ≡ false → TurnAim s i m t → Elsewhere (asked_by t)
away s i m (Local x) single stays h = tt
away s i m (Asks step go) single stays h = leaves s i m step single stays h

builds : (s : Shape) (stage : Stage) → IsStageOf s stage → BuildsIn s stage
builds s (Makes view) is = is.0
builds s _ is = tt

-- ---- where a turn leads
-- no number was drawn, and the thread has not ended
pub record Plain (m x : Machine) : Type 0 where
  pub drawn : (n : ℕ) → drawn_of x.own.stage ≡ Some n → drawn_of m.own.stage ≡ Some n
  pub on : is_ended x.at.state ≡ false

-- this number was drawn, or the thread has stopped
pub record Drew (found : ℕ) (x : Machine) : Type 0 where
  pub drawn : (n : ℕ) → drawn_of x.own.stage ≡ Some n → (n ≡ found) × (n < THREADS)
  pub on : is_ended x.at.state ≡ false
  pub counts : counted x.at.state ≡ 1

-- a Spawn is over
pub record Spawned (x : Machine) : Type 0 where
  pub drawn : drawn_of x.own.stage ≡ None
  pub on : is_ended x.at.state ≡ false

pub data Sort (m : Machine) (t : Turn) : Type 0 where
  Ordinary : Elsewhere (asked_by t) → ((found : ℕ) → Plain m (after t found)) → Sort m t
  Draws : asked_by t ≡ Some (step_of next_thread_word (WordOp.Add 1)) → ((found : ℕ) → Drew found (after t found)) → Sort m t
  Starts : (n : ℕ) → drawn_of m.own.stage ≡ Some n → asked_by t ≡ Some (step_of (state_word n) (WordOp.Swap 1)) → ((found : ℕ) → Spawned (after t found)) → Sort m t
  Returns : asked_by t ≡ Some (step_of (state_word m.own.number) (WordOp.Swap 2)) → ((found : ℕ) → Plain m (after t found)) → Sort m t
  Ends : asked_by t ≡ Some (step_of (state_word m.own.number) (WordOp.Swap 3)) → ((found : ℕ) → is_ended (after t found).at.state ≡ true) → ((found : ℕ) → drawn_of (after t found).own.stage ≡ None) → Sort m t

-- ---- other turns than those of a Spawn and an Exit
no_number : (i : Instr) (stage : Stage) → is_spawn i ≡ false → has_stage i stage ≡ true → drawn_of stage ≡ None
no_number (Instr.Spawn r f from site) stage single has = absurd (yes single)
no_number _ (Names n) single has = absurd (yes (sym has))
no_number _ (Hands n) single has = absurd (yes (sym has))
no_number _ (Begins n) single has = absurd (yes (sym has))
no_number _ _ single has = refl

module _ (s : Shape) (i : Instr) (found : ℕ) (m x : Machine) (out : ComesOut s i found m x) (single : is_spawn i ≡ false) where
  undrawn : (n : ℕ) (o : TurnOutcome) → MayComeOut s i m found o → drawn_of (own_after o m.own).stage ≡ Some n → drawn_of m.own.stage ≡ Some n
  undrawn n (Stays stage) may e = let none = no_number i stage single may.0 in absurd (cc)
  undrawn n (Rested heads) may e = absurd (cc)
  undrawn n (Begun function) may e = absurd (cc)
  undrawn n (Refused function site) may e = absurd (cc)
  undrawn n Gone may e = absurd (cc)
  undrawn n _ may e = e

  plain : is_exit i ≡ false → Plain m x
  plain other = record { drawn = λ n e. undrawn n out.outcome out.may (ap (λ (o : Own). drawn_of o.stage) (sym out.own) ∙ e); on = unended s i found m x out other }

module _ (turns : ThreadLaws) (code : Code) (s : Shape) (m : Machine) where
  -- a Spawn
  at_numbered : (site n : ℕ) → drawn_of m.own.stage ≡ None → Drew n (numbered m site n)
  at_numbered site n undrawn = by (nat_lt n THREADS) refl
    where
      by : (b : Bool) → nat_lt n THREADS ≡ b → Drew n (if b then at_stage m (Names n) else trapped m Trap.ThreadLimit site)
      by true e = record { drawn = λ k is. let same : n ≡ k = cc in (sym same, let low = (Decides-ltb n THREADS).0 e in omega arith); on = refl; counts = refl }
      by false e = record { drawn = λ k is. absurd (let f : None ≡ Some k = sym undrawn ∙ is in cc); on = refl; counts = refl }

  at_spawn : (r function : ℕ) (from : Register) (site : ℕ) (stage : Stage) → m.own.stage ≡ stage → Sort m (spawn m r function from site stage)
  at_spawn r function from site (Names n) is = Ordinary (apart _ (λ e. omega (arith, e)) (λ t low e. omega (arith, e))) (λ found. record { drawn = λ k e. ap drawn_of is ∙ e; on = refl })
  at_spawn r function from site (Hands n) is = Ordinary (apart _ (λ e. omega (arith, e)) (λ t low e. omega (arith, e))) (λ found. record { drawn = λ k e. ap drawn_of is ∙ e; on = refl })
  at_spawn r function from site (Begins n) is = Starts n (ap drawn_of is) refl (λ found. record { drawn = refl; on = refl })
  at_spawn r function from site _ is = Draws refl (λ found. at_numbered site found (ap drawn_of is))

  -- an Exit
  staged : (stage : Stage) → drawn_of stage ≡ None → Plain m (at_stage m stage)
  staged stage none = record { drawn = λ n e. absurd (let f : None ≡ Some n = sym none ∙ e in cc); on = refl }

  at_withdraw : (row : ℕ) → Plain m (withdraws m row)
  at_withdraw row = elim (nat_lt row (length m.own.table.order)) as (λ b. Plain m (if b then at_stage m (Withdraws row) else at_stage m Leaves)) [ true ↦ staged _ refl | false ↦ staged _ refl ]

  at_exit : (stage : Stage) → Sort m (exit s m stage)
  at_exit (Withdraws row) = Ordinary (loads _) (λ found. staged _ refl)
  at_exit (WithdrawsFrom row seen) = Ordinary (apart _ (λ e. omega (arith, e)) (λ t low e. omega (arith, low, e)))
      (λ found. elim (found == seen) as (λ b. Plain m (if b then withdraws m (row + 1) else at_stage m (WithdrawsFrom row found))) [ true ↦ at_withdraw (row + 1) | false ↦ staged _ refl ])
  at_exit Leaves = Ends refl (λ found. refl) (λ found. refl)
  at_exit _ = Returns refl (λ found. at_withdraw 0)

  -- the others
  at_other : (i : Instr) → is_spawn i ≡ false → is_exit i ≡ false → IsStageOf s m.own.stage → Sort m (act code s i m)
  at_other i single stays is = Ordinary
      (away s i m (act code s i m) single stays (turns.aims code s i m (builds s m.own.stage is)))
      (λ found. plain s i found m (after (act code s i m) found) (turns.outcomes code s i m found) single stays)

  at_instr : (i : Instr) → IsStageOf s m.own.stage → Sort m (act code s i m)
  at_instr (Instr.Spawn r function from site) is = at_spawn r function from site m.own.stage refl
  at_instr Instr.Exit is = at_exit m.own.stage
  at_instr i is = at_other i refl refl is

  pub sorted : IsStageOf s m.own.stage → Sort m (turn code s m)
  sorted = at_instr (instr_at code m.at.pc)
