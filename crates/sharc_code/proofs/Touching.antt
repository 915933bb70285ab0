-- What a turn does to the state word of a thread: it leaves the word, starts the thread, or is a turn of the thread itself.
use Rattle.sharc_code.proofs.{Imports.{◌≡◌, ℕ, ◌<◌, ◌⊎◌, Some, inl, inr, refl, ap, ◌∙◌, arith, THREADS, WordOp, WordStep, word_after, Code, Instr, Shape, Stage, Makes, state_word, Machine, Act as Turn, Local, Asks, act, instr_at, turn, IsStageOf, begins_of, Aim, BuildsIn, TurnAim}, Aims.aims}

-- what an operation that this thread makes on the state word of thread t is: it leaves every word, it starts t, or t is this thread
pub data OnState (m : Machine) (t : ℕ) (op : WordOp) : Type 0 where
  Leaves_it : ((v : ℕ) → word_after op v ≡ v) → OnState m t op
  Starts_it : begins_of m.own.stage ≡ Some t → op ≡ WordOp.Swap 1 → OnState m t op
  Ends_it : m.own.number ≡ t → op ≡ WordOp.Swap 2 → OnState m t op
  Leaves_for_good : m.own.number ≡ t → op ≡ WordOp.Swap 3 → OnState m t op

abbrev pub Touches : Machine → ℕ → Turn → Type 0
Touches m t (Local x) = Unit {0}
Touches m t (Asks step go) = step.word ≡ state_word t → OnState m t step.op

module _ (s : Shape) (m : Machine) (t : ℕ) (low : t < THREADS) where
  touches_step : (i : Instr) (step : WordStep) → Aim s i m step → step.word ≡ state_word t → OnState m t step.op
  touches_step i step (Aim.Looks keeps) e = Leaves_it keeps
  touches_step i step (Aim.Draws spawns at) e = absurd (omega (arith, at, e))
  touches_step i step (Aim.Prints prints at) e = absurd (omega (arith, at, e))
  touches_step i step (Aim.Names n is at) e = absurd (omega (arith, at, e))
  touches_step i step (Aim.Hands n is at) e = absurd (omega (arith, at, e))
  touches_step i step (Aim.Begins n spawns is at op) e = Starts_it (ap begins_of is ∙ ap (λ k. Some k) (let same : n ≡ t = omega (arith, at, e) in same)) op
  touches_step i step (Aim.Returns exits at op) e = Ends_it (omega (arith, at, e)) op
  touches_step i step (Aim.Ends exits at op) e = Leaves_for_good (omega (arith, at, e)) op
  touches_step i step (Aim.Shadows granule changes at) e = absurd (omega (arith, at, e, low))
  touches_step i step (Aim.Stores (inl small)) e = absurd (omega (arith, small, e))
  touches_step i step (Aim.Stores (inr high)) e = absurd (omega (arith, high, e, low))

  touches_turn : (i : Instr) (a : Turn) → TurnAim s i m a → Touches m t a
  touches_turn i (Local x) h = tt
  touches_turn i (Asks step go) h = touches_step i step h

builds : (s : Shape) (stage : Stage) → IsStageOf s stage → BuildsIn s stage
builds s (Makes view) is = is.0
builds s _ is = tt

pub touches : (code : Code) (s : Shape) (m : Machine) (t : ℕ) → t < THREADS → IsStageOf s m.own.stage → Touches m t (turn code s m)
touches code s m t low is =
    touches_turn s m t low (instr_at code m.at.pc) (turn code s m) (aims code s m (builds s m.own.stage is) (instr_at code m.at.pc))
