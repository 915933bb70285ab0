-- What a turn does to shadow words and to the notes of its thread: nothing, but for checks, for the Swaps of a Clear or a Free, and for an Exit.
use Rattle.sharc_invariant.proofs.{Imports.{◌≡◌, ℕ, ◌+◌, ◌*◌, ◌<◌, ◌≤◌, false, refl, ap, ◌∙◌, subst, arith, THREADS, WordStep, word_after, Kind, Read, Write, Code, Cell, Instr, Shape, Stage, Makes, Names, Hands, Begins, Withdraws, WithdrawsFrom, Leaves, granules, first_cell, first_shadow, TurnOutcome, Notes, own_after, MayComeOut, ComesOut, check_of, is_exit, Machine, Own, StepTurn as Turn, Local, Asks, act, is_ended, is_withdrawing, shadow_at, inl, inr, sym, yes, changes_shadow, Aim, BuildsIn, TurnAim, aims}, Ends.{calm_then, unended}}

-- ---- words that are no shadow words
abbrev pub IsOff : Shape → ℕ → Type 0
IsOff s word = (p : ℕ) → p < granules s → word ≡ shadow_at s p → ⊥

off_low : (s : Shape) (word : ℕ) → word < first_shadow → IsOff s word
off_low s word lt p lp e = omega arith

off_high : (s : Shape) (word : ℕ) → first_cell s ≤ word → IsOff s word
off_high s word le p lp e = omega arith

-- ---- a turn that leaves shadow words and notes
abbrev pub LeavesShadows : Shape → WordStep → Type 0
LeavesShadows s step = (p : ℕ) → p < granules s → step.word ≡ shadow_at s p → (v : ℕ) → word_after step.op v ≡ v

-- the thread has the notes that it had, and did not withdraw
pub record KeepsNotes (m m' : Machine) : Type 0 where
  pub table : m'.own.table ≡ m.own.table
  pub stage : is_withdrawing m'.own.stage ≡ false
  pub ended : is_ended m'.at.state ≡ false

-- what a turn asks for leaves the shadow words
abbrev pub LeavesWords : Shape → Turn → Type 0
LeavesWords s (Local m) = Unit {0}
LeavesWords s (Asks step go) = LeavesShadows s step

-- a stage whose next turn is no Swap of a shadow word, and which is none of an Exit
abbrev pub IsFit : Shape → Stage → Type 0
IsFit s (Makes v) = v.arguments.first ≡ first_cell s
IsFit s (Names n) = n < THREADS
IsFit s (Hands n) = n < THREADS
IsFit s (Begins n) = n < THREADS
IsFit s (Withdraws row) = ⊥
IsFit s (WithdrawsFrom row seen) = ⊥
IsFit s Leaves = ⊥
IsFit s _ = Unit {0}

pub fit_calm : (s : Shape) (stage : Stage) → IsFit s stage → is_withdrawing stage ≡ false
fit_calm s (Withdraws row) h = absurd h
fit_calm s (WithdrawsFrom row seen) h = absurd h
fit_calm s Leaves h = absurd h
fit_calm s _ h = refl

-- the turn changes no shadow word, and the instruction is no Exit
abbrev pub IsPlain : Instr → Stage → Type 0
IsPlain i stage = (changes_shadow i stage ≡ false) × (is_exit i ≡ false)

-- it leaves the notes
module _ (s : Shape) (i : Instr) (found : ℕ) (m x : Machine) (out : ComesOut s i found m x) (calm : is_withdrawing m.own.stage ≡ false) where
  no_check : (stage : Stage) (kind : Kind) (cell : Cell) (site : ℕ) → IsPlain (check_of kind cell site) stage → ⊥
  no_check stage Read cell site p = yes p.0
  no_check stage Write cell site p = yes p.0

  pub keeps_notes : IsPlain i m.own.stage → KeepsNotes m x
  keeps_notes p = record {
    table = ap (λ (o : Own). o.table) out.own ∙ by out.outcome out.may;
    stage = calm_then s i found m x out calm p.1;
    ended = unended s i found m x out calm p.1;
  }
    where
      by : (o : TurnOutcome) → MayComeOut s i m found o → (own_after o m.own).table ≡ m.own.table
      by (Notes granule kind note) may = absurd (no_check m.own.stage kind may.0 note.site (subst (λ j. IsPlain j m.own.stage) may.1 p))
      by _ may = refl

-- what its turn asks for leaves the shadow words
builds : (s : Shape) (stage : Stage) → IsFit s stage → BuildsIn s stage
builds s (Makes view) h = h
builds s _ h = tt

module _ (s : Shape) (i : Instr) (m : Machine) (is : IsFit s m.own.stage) (plain : IsPlain i m.own.stage) where
  -- a Spawn writes words of a thread that there is
  of_thread : (n word k : ℕ) → n < THREADS → word ≡ 4 + k + 3 * n → k < 3 → IsOff s word
  of_thread n word k lt at few = off_low s word (omega (arith, lt, at, few))

  leaves_step : (step : WordStep) → Aim s i m step → LeavesShadows s step
  leaves_step step (Aim.Looks keeps) p lp e = keeps
  leaves_step step (Aim.Draws spawns at) p lp e = absurd (off_low s step.word (omega (arith, at)) p lp e)
  leaves_step step (Aim.Prints prints at) p lp e = absurd (off_low s step.word (omega (arith, at)) p lp e)
  leaves_step step (Aim.Names n stage at) p lp e = absurd (of_thread n step.word 1 (subst (IsFit s) stage is) (omega (arith, at)) (omega arith) p lp e)
  leaves_step step (Aim.Hands n stage at) p lp e = absurd (of_thread n step.word 2 (subst (IsFit s) stage is) (omega (arith, at)) (omega arith) p lp e)
  leaves_step step (Aim.Begins n spawns stage at op) p lp e = absurd (of_thread n step.word 0 (subst (IsFit s) stage is) (omega (arith, at)) (omega arith) p lp e)
  leaves_step step (Aim.Returns exits at op) p lp e = absurd (yes (sym exits ∙ plain.1))
  leaves_step step (Aim.Ends exits at op) p lp e = absurd (yes (sym exits ∙ plain.1))
  leaves_step step (Aim.Shadows granule changes at) p lp e = absurd (yes (sym changes ∙ plain.0))
  leaves_step step (Aim.Stores (inl small)) p lp e = absurd (off_low s step.word (omega (arith, small)) p lp e)
  leaves_step step (Aim.Stores (inr high)) p lp e = absurd (off_high s step.word high p lp e)

  leaves_turn : (a : Turn) → TurnAim s i m a → LeavesWords s a
  leaves_turn (Local x) h = tt
  leaves_turn (Asks step go) h = leaves_step step h

pub leaves : (code : Code) (s : Shape) (m : Machine) (i : Instr) → IsFit s m.own.stage → IsPlain i m.own.stage → LeavesWords s (act code s i m)
leaves code s m i is plain = leaves_turn s i m is plain (act code s i m) (aims code s m (builds s m.own.stage is) i)
