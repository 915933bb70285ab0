-- What each turn is to the word of prints, to the prints of its thread, and to what the source prints.
use Rattle.sharc_reply_laws.proofs.Imports.{◌≡◌, ℕ, ℤ, true, false, Option, Some, None, if◌then◌else◌, refl, arith, SourceEvent, WordStep, word_after, Code, Instr, Shape, PrintAt, Stage, Looks, Makes, Names, Hands, Begins, prints_word, Machine, act, int, place, word, Local, Asks, after, asked_by, said, IsStageOf, printed_by, inl, inr, sym, ap, ◌∙◌, yes, Own, TurnOutcome, own_after, MayComeOut, ComesOut, ThreadLaws, Aim, BuildsIn, TurnAim, Act, IsSaidBy, tells}
use Rattle.sharc_code.specs.{Machine.Turn, Outcomes.is_print}

-- ---- what is printed
-- by the event that a turn tells
abbrev pub printed_of : Option SourceEvent → Option ℤ
printed_of None = None
printed_of (Some e) = printed_by e.act

-- by a turn of this instruction, which found this
abbrev pub print_of : Instr → Machine → ℕ → Option PrintAt
print_of (Instr.Print r site) m found = Some record { place = found; value = int m r }
print_of _ m found = None

-- a step that leaves the word of prints as it is
pub record LeavesIt (step : WordStep) : Type 0 where
  pub same : step.word ≡ prints_word → (v : ℕ) → word_after step.op v ≡ v

abbrev pub Elsewhere : Option WordStep → Type 0
Elsewhere None = Unit {0}
Elsewhere (Some step) = LeavesIt step

apart : (step : WordStep) → (step.word ≡ prints_word → ⊥) → LeavesIt step
apart step other = record { same = λ e. absurd (other e) }

leaves : (s : Shape) (i : Instr) (m : Machine) (step : WordStep) → is_print i ≡ false → Aim s i m step → LeavesIt step
leaves s i m step other (Aim.Looks keeps) = record { same = λ e. keeps }
leaves s i m step other (Aim.Draws spawns at) = apart step (λ e. omega (arith, at, e))
leaves s i m step other (Aim.Prints prints at) = absurd (yes (sym prints ∙ other))
leaves s i m step other (Aim.Names n is at) = apart step (λ e. omega (arith, at, e))
leaves s i m step other (Aim.Hands n is at) = apart step (λ e. omega (arith, at, e))
leaves s i m step other (Aim.Begins n spawns is at op) = apart step (λ e. omega (arith, at, e))
leaves s i m step other (Aim.Returns exits at op) = apart step (λ e. omega (arith, at, e))
leaves s i m step other (Aim.Ends exits at op) = apart step (λ e. omega (arith, at, e))
leaves s i m step other (Aim.Shadows granule changes at) = apart step (λ e. omega (arith, at, e))
leaves s i m step other (Aim.Stores (inl small)) = apart step (λ e. omega (arith, small, e))
leaves s i m step other (Aim.Stores (inr high)) = apart step (λ e. omega (arith, high, e))

steps : (s : Shape) (i : Instr) (m : Machine) (t : Turn) → is_print i ≡ false → TurnAim s i m t → Elsewhere (asked_by t)
steps s i m (Local x) other h = tt
steps s i m (Asks step go) other h = leaves s i m step other h

builds : (s : Shape) (stage : Stage) → IsStageOf s stage → BuildsIn s stage
builds s (Makes view) is = is.0
builds s _ is = tt

-- ---- the prints of the thread
kept : (s : Shape) (i : Instr) (found : ℕ) (m x : Machine) → ComesOut s i found m x → is_print i ≡ false → x.own.prints ≡ m.own.prints
kept s i found m x out other = ap (λ (o : Own). o.prints) out.own ∙ by out.outcome out.may
  where
    by : (o : TurnOutcome) → MayComeOut s i m found o → (own_after o m.own).prints ≡ m.own.prints
    by (TurnOutcome.Prints print) may = absurd (yes (sym may ∙ other))
    by _ may = refl

-- ---- what a turn tells
module _ (code : Code) (s : Shape) (m : Machine) where
  -- the turn leaves the word of prints, and the thread its prints
  pub record IsQuiet (t : Turn) : Type 0 where
    pub step : Elsewhere (asked_by t)
    pub kept : (found : ℕ) → (after t found).own.prints ≡ m.own.prints

  -- the instruction prints nothing, or it is a Print
  pub data Sort (i : Instr) : Type 0 where
    Quiet : ((found : ℕ) → print_of i m found ≡ None) → IsQuiet (act code s i m) → ((found elements : ℕ) → printed_of (said code i m found elements) ≡ None) → Sort i
    Prints : (r site : ℕ) → i ≡ Instr.Print r site → Sort i

  tells_none : (i : Instr) (told : Option SourceEvent) → IsSaidBy i m told → is_print i ≡ false → printed_of told ≡ None
  tells_none i None h other = refl
  tells_none i (Some e) h other = of e.act h.1
    where
      of : (a : Act) → tells a i ≡ true → printed_by a ≡ None
      of (Act.Print v) w = absurd (yes (sym w ∙ other))
      of _ w = refl

  -- ---- each instruction
  pub sorted : ThreadLaws → (i : Instr) → IsStageOf s m.own.stage → Sort i
  sorted turns (Instr.Print r site) is = Prints r site refl
  sorted turns i is = Quiet (λ found. refl)
      (record { step = steps s i m (act code s i m) refl (turns.aims code s i m (builds s m.own.stage is)); kept = λ found. kept s i found m (after (act code s i m) found) (turns.outcomes code s i m found) refl })
      (λ found elements. tells_none i (said code i m found elements) (turns.tells code i m found elements) refl)
