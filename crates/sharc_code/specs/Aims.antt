-- Which word a turn asks for: one of ten kinds, each of certain instructions.
use Rattle.std.specs.Prelude.{ℕ, ◌≡◌, ◌<◌, ◌≤◌, ◌⊎◌, Bool, true, false}
use Rattle.sharc_word.specs.{declared.step.WordStep.WordStep, Words.word_after}
use Rattle.sharc_word.specs.declared.step.WordOp.TheVariants as ops
use Rattle.sharc_code.specs.{declared.code.Code.Code, declared.instr.Instr.Instr, declared.shape.Shape.Shape}
use Rattle.sharc_code.specs.declared.instr.Instr.TheVariants as instrs
use Rattle.sharc_code.specs.declared.state.Stage.{Stage}
use Rattle.sharc_code.specs.declared.state.Stage.TheVariants as stages
use Rattle.sharc_code.specs.Layout.{first_cell, next_thread_word, prints_word, state_word, function_word, argument_word}
use Rattle.sharc_code.specs.{Layout.shadow_word, Machine.{Machine, Turn, Local, Asks, act}}
use Rattle.sharc_code.specs.Outcomes.{is_exit, is_print}

abbrev pub is_spawn : Instr → Bool
is_spawn (instrs.Spawn r function from site) = true
is_spawn _ = false

-- the next turn of the instruction changes a shadow word
abbrev pub changes_shadow : Instr → Stage → Bool
changes_shadow (instrs.ChkRead cell site) stage = true
changes_shadow (instrs.ChkWrite cell site) stage = true
changes_shadow (instrs.Clear r cells) (stages.Clears done all seen) = true
changes_shadow (instrs.Free r layout site) (stages.FreeClears done all seen) = true
changes_shadow instrs.Exit (stages.WithdrawsFrom row seen) = true
changes_shadow _ _ = false

-- ---- aims
pub data Aim (s : Shape) (i : Instr) (m : Machine) (step : WordStep) : Type 0 where
  -- any word, which it leaves as it is
  Looks : ((v : ℕ) → word_after step.op v ≡ v) → Aim s i m step
  -- the number of the next thread, and that of the next print
  Draws : is_spawn i ≡ true → step.word ≡ next_thread_word → Aim s i m step
  Prints : is_print i ≡ true → step.word ≡ prints_word → Aim s i m step
  -- the words of the thread that a Spawn is about to start
  Names : (n : ℕ) → m.own.stage ≡ stages.Names n → step.word ≡ function_word n → Aim s i m step
  Hands : (n : ℕ) → m.own.stage ≡ stages.Hands n → step.word ≡ argument_word n → Aim s i m step
  Begins : (n : ℕ) → is_spawn i ≡ true → m.own.stage ≡ stages.Begins n → step.word ≡ state_word n
      → step.op ≡ ops.Swap 1 → Aim s i m step
  -- the thread's own state, when it has returned and when it ends
  Returns : is_exit i ≡ true → step.word ≡ state_word m.own.number → step.op ≡ ops.Swap 2 → Aim s i m step
  Ends : is_exit i ≡ true → step.word ≡ state_word m.own.number → step.op ≡ ops.Swap 3 → Aim s i m step
  -- a shadow word
  Shadows : (granule : ℕ) → changes_shadow i m.own.stage ≡ true → step.word ≡ shadow_word s granule → Aim s i m step
  -- the top of the heap, a cell, a count or a length; what is not there is word 0
  Stores : (step.word < next_thread_word) ⊎ (first_cell s ≤ step.word) → Aim s i m step

abbrev pub TurnAim : Shape → Instr → Machine → Turn → Type 0
TurnAim s i m (Local new) = Unit {0}
TurnAim s i m (Asks step go) = Aim s i m step

-- a New builds in this shape
abbrev pub BuildsIn : Shape → Stage → Type 0
BuildsIn s (stages.Makes view) = view.arguments.first ≡ first_cell s
BuildsIn s _ = Unit {0}

abbrev pub TurnsAim : Type 0
TurnsAim = (code : Code) (s : Shape) (i : Instr) (m : Machine) → BuildsIn s m.own.stage
    → TurnAim s i m (act code s i m)
