-- Turns that tell nothing: those that ask for no step, and failed tries.
use Rattle.std.proofs.Common.{◌≡◌, ℕ, zero, suc, ◌==◌, ◌||◌, Bool, true, false, nat_lt, Option, None, if◌then◌else◌, refl, sym, ap, ◌∙◌}
use Rattle.std.specs.Prelude.{ℤ, pos, negsuc}
use Rattle.sharc_tree.specs.declared.trap.Trap.TheVariants as traps
use Rattle.sharc_tree.specs.declared.event.SourceEvent.{SourceEvent}
use Rattle.sharc_word.specs.declared.step.TheConstants.{THREADS}
use Rattle.sharc_word.specs.declared.step.WordOp.TheVariants as ops
use Rattle.sharc_heap.specs.{State.NewView, Stages.turn_of_stage, declared.stage.NewStage.NewStage, declared.stage.NewStage.TheVariants.Length}
use Rattle.sharc_locks.specs.Waiters.{waits_in}
use Rattle.sharc_code.specs.{declared.code.Code.Code, declared.code.Layout.Layout, declared.shape.Shape.Shape, declared.instr.Cell.Cell, declared.instr.Register.Register, declared.instr.Instr.Instr, declared.instr.Instr.TheVariants.{Load, New, TakeLocal, Free, Lock, Spawn, Join, Start, Exit, CondWait, CondSignal}, declared.state.Stage.Stage, declared.state.Stage.TheVariants.{Makes, Uncounts, Begins, Enters, Withdraws, Wakes}, declared.state.TurnState.TheVariants.Tries, Layout.state_word, Machine.{Machine, Turn, Local, Asks, act, instr_at, step_of, int, ref, word, elements_of, test, goes, move_ref, new, asks_new, free, layout_at, spawn, start, exit, signal, fails, trapped, joined, join}, Outcomes.{ComesOut, MayComeOut, TurnOutcome, TurnsComeOut, is_trying, state_after}, Path.{turn, after, asked_by}, Says.{says, said, take_local, new_event, in_new, in_free, in_spawn, in_start, in_exit, in_signal}}
use Rattle.sharc_schedule.specs.Schedule.{is_try}

-- ---- turns that ask for no step
module _ (code : Code) (s : Shape) (m : Machine) (elements : ℕ) where
  take_silent : (n site : ℕ) (x : Machine) → asked_by (test s n x) ≡ None → take_local code m site n elements ≡ None
  take_silent zero site x h = refl
  take_silent (suc n) site x h = cc

  new_silent : (stage : NewStage) (state : NewView) (r cells site : ℕ) → asked_by (asks_new m r site state (turn_of_stage state.arguments stage)) ≡ None → new_event code m site cells state stage ≡ None
  new_silent (Length header) state r cells site h = cc
  new_silent _ state r cells site h = refl

  made_silent : (stage : Stage) (r count cells site : ℕ) → asked_by (new s m r count cells site stage) ≡ None → in_new code m site cells stage ≡ None
  made_silent (Makes state) r count cells site h = new_silent state.stage state r cells site h
  made_silent _ r count cells site h = refl

  free_silent : (stage : Stage) (r site : ℕ) (l : Layout) → asked_by (free code s m r l stage) ≡ None → in_free code m r site elements stage ≡ None
  free_silent (Uncounts all) r site l h = cc
  free_silent _ r site l h = refl

  spawn_silent : (stage : Stage) (r function : ℕ) (from : Register) (site : ℕ) → asked_by (spawn m r function from site stage) ≡ None → in_spawn code m function from site elements stage ≡ None
  spawn_silent (Begins n) r function from site h = cc
  spawn_silent _ r function from site h = refl

  start_silent : (stage : Stage) (site : ℕ) → asked_by (start code m site stage) ≡ None → in_start code m 0 elements stage ≡ None
  start_silent (Enters function) site h = cc
  start_silent _ site h = refl

  exit_silent : (stage : Stage) → asked_by (exit s m stage) ≡ None → in_exit code m stage ≡ None
  exit_silent (Withdraws row) h = cc
  exit_silent _ h = cc

  signal_silent : (stage : Stage) (cell : Cell) (site : ℕ) → asked_by (signal m (word s m cell) stage) ≡ None → in_signal code m cell site 0 stage ≡ None
  signal_silent (Wakes seen) cell site h = cc
  signal_silent _ cell site h = cc

  said_silent : (i : Instr) → asked_by (act code s i m) ≡ None → said code i m 0 elements ≡ None
  said_silent (TakeLocal r from site) h = take_silent (ref m from) site (goes (move_ref m r from)) h
  said_silent (New r count cells site) h = made_silent m.own.stage r (elements_of (int m count)) cells site h
  said_silent (Free r layout site) h = free_silent m.own.stage r site (layout_at code layout) h
  said_silent (Spawn r function from site) h = spawn_silent m.own.stage r function from site h
  said_silent (Start site) h = start_silent m.own.stage site h
  said_silent Exit h = exit_silent m.own.stage h
  said_silent (CondSignal cell site) h = signal_silent m.own.stage cell site h
  said_silent _ h = cc

  pub local_silent : asked_by (turn code s m) ≡ None → says code m 0 elements ≡ None
  local_silent = said_silent (instr_at code m.at.pc)

-- ---- failed tries
-- the machine was not left by one
abbrev Untried : Machine → Type 0
Untried x = is_try x.at.state ≡ false

unless_tried : {A : Type 0} (x : Machine) → Untried x → x.at.state ≡ Tries → A
unless_tried x untried h = absurd (let e : true ≡ false = ap is_try (sym h) ∙ untried in cc)

-- a try where the test does not hold, or where it does
told_unless : {A : Type 0} (b : Bool) (x y : Machine) (e : Option A) → (if b then x else y).at.state ≡ Tries → Untried x → (if b then e else None) ≡ None
told_unless true x y e h untried = unless_tried x untried h
told_unless false x y e h untried = refl

told_if_not : {A : Type 0} (b : Bool) (x y : Machine) (e : Option A) → (if b then x else y).at.state ≡ Tries → Untried y → (if b then None else e) ≡ None
told_if_not true x y e h untried = refl
told_if_not false x y e h untried = unless_tried y untried h

module _ (code : Code) (s : Shape) (m : Machine) (found elements : ℕ) where
  abbrev next : Turn → Machine
  next t = after t found

  joined_untried : (b c : Bool) (site : ℕ) (e : Option SourceEvent) → (if b then trapped m traps.NoSuchThread site else (if c then fails m else goes m)).at.state ≡ Tries → (if b || c then None else e) ≡ None
  joined_untried true c site e h = refl
  joined_untried false true site e h = refl
  joined_untried false false site e h = unless_tried (goes m) refl h

  join_low : (b : Bool) (n site : ℕ) (e : Option SourceEvent) → (next (if b then Asks (step_of (state_word n) ops.Load) (joined m site) else Local (trapped m traps.NoSuchThread site))).at.state ≡ Tries
      → (if found == 0 || (found == 1 || found == 2) then None else e) ≡ None
  join_low true n site e h = joined_untried (found == 0) (found == 1 || found == 2) site e h
  join_low false n site e h = unless_tried (trapped m traps.NoSuchThread site) refl h

  join_untried : (z : ℤ) (site : ℕ) (e : Option SourceEvent) → (next (join m z site)).at.state ≡ Tries → (if found == 0 || (found == 1 || found == 2) then None else e) ≡ None
  join_untried (pos n) site e h = join_low (nat_lt n THREADS) n site e h
  join_untried (negsuc n) site e h = unless_tried (trapped m traps.NoSuchThread site) refl h

  -- the instruction is one of those that try
  tries : (i : Instr) → ComesOut s i found m (next (act code s i m)) → (next (act code s i m)).at.state ≡ Tries → is_trying i ≡ true
  tries i out h = by out.outcome out.may (sym h ∙ out.state)
    where
      by : (o : TurnOutcome) → MayComeOut s i m found o → Tries ≡ state_after o → is_trying i ≡ true
      by TurnOutcome.Fails may e = may
      by _ may e = absurd (cc)

  said_untried : (i : Instr) → is_trying i ≡ true → (next (act code s i m)).at.state ≡ Tries → said code i m found elements ≡ None
  said_untried (Lock cell site) is h = told_unless (found == 0) _ (fails m) _ h refl
  said_untried (Join r site) is h = join_untried (int m r) site _ h
  said_untried (CondWait cell site) is h = told_if_not (waits_in found m.own.number) (fails m) (goes m) _ h refl
  said_untried _ is h = absurd (cc)

  pub try_silent : TurnsComeOut → (next (turn code s m)).at.state ≡ Tries → says code m found elements ≡ None
  try_silent outs h = let i = instr_at code m.at.pc in said_untried i (tries i (outs code s i m found) h) h
