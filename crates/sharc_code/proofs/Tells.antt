-- Which acts an instruction tells, and of which thread.
use Rattle.sharc_code.proofs.Imports.{◌≡◌, ℕ, zero, suc, Bool, true, false, Option, if◌then◌else◌, refl, ◌||◌, ◌==◌, SourceEvent, NewView, NewStage, waits_in, Code, Cell, Register, Instr, Stage, Makes, Uncounts, Begins, Enters, Withdraws, WithdrawsFrom, Wakes, Leaves, Machine, ref, said, take_local, nobody, in_signal, in_exit, in_spawn, in_start, in_free, in_new, new_event, IsSaidBy, is_condition, is_threading}

either : (i : Instr) (m : Machine) (b : Bool) (x y : Option SourceEvent) → IsSaidBy i m x → IsSaidBy i m y → IsSaidBy i m (if b then x else y)
either i m true x y h k = h
either i m false x y h k = k

module _ (code : Code) (m : Machine) where
  of_local : (i : Instr) (site number elements : ℕ) → IsSaidBy i m (take_local code m site number elements)
  of_local i site zero elements = tt
  of_local i site (suc k) elements = (refl, refl)

  of_new_stage : (i : Instr) (site cells : ℕ) (v : NewView) (stage : NewStage) → IsSaidBy i m (new_event code m site cells v stage)
  of_new_stage i site cells v (NewStage.Length header) = (refl, refl)
  of_new_stage i site cells v _ = tt

  of_new : (i : Instr) (site cells : ℕ) (stage : Stage) → IsSaidBy i m (in_new code m site cells stage)
  of_new i site cells (Makes v) = of_new_stage i site cells v v.stage
  of_new i site cells _ = tt

  of_free : (i : Instr) (r site elements : ℕ) (stage : Stage) → IsSaidBy i m (in_free code m r site elements stage)
  of_free i r site elements (Uncounts all) = (refl, refl)
  of_free i r site elements _ = tt

  of_spawn : (i : Instr) → is_threading i ≡ true → (function : ℕ) (from : Register) (site elements : ℕ) (stage : Stage) → IsSaidBy i m (in_spawn code m function from site elements stage)
  of_spawn i is function from site elements (Begins n) = (refl, is)
  of_spawn i is function from site elements _ = tt

  of_start : (i : Instr) (found elements : ℕ) (stage : Stage) → IsSaidBy i m (in_start code m found elements stage)
  of_start i found elements (Enters function) = (refl, refl)
  of_start i found elements _ = tt

  of_exit : (stage : Stage) → IsSaidBy Instr.Exit m (in_exit code m stage)
  of_exit (Withdraws row) = tt
  of_exit (WithdrawsFrom row seen) = tt
  of_exit Leaves = (refl, refl)
  of_exit _ = (refl, refl)

  of_nobody : (i : Instr) → is_condition i ≡ true → (c : Cell) (site found : ℕ) → IsSaidBy i m (nobody code m c site found)
  of_nobody i is c site zero = (refl, is)
  of_nobody i is c site (suc n) = tt

  of_signal : (i : Instr) → is_condition i ≡ true → (c : Cell) (site found : ℕ) (stage : Stage) → IsSaidBy i m (in_signal code m c site found stage)
  of_signal i is c site found (Wakes seen) = either i m (found == seen) _ _ (refl, is) (of_nobody i is c site found)
  of_signal i is c site found _ = of_nobody i is c site found

  pub told_by : (i : Instr) (found elements : ℕ) → IsSaidBy i m (said code i m found elements)
  told_by (Instr.Load r c site) found elements = (refl, refl)
  told_by (Instr.Store r c site) found elements = (refl, refl)
  told_by (Instr.LoadRef c site) found elements = (refl, refl)
  told_by (Instr.Exchange r c site) found elements = (refl, refl)
  told_by (Instr.TakeCell r c site) found elements = (refl, refl)
  told_by (Instr.TakeLocal r from site) found elements = of_local (Instr.TakeLocal r from site) site (ref m from) elements
  told_by (Instr.Give r site) found elements = (refl, refl)
  told_by (Instr.New r count cells site) found elements = of_new (Instr.New r count cells site) site cells m.own.stage
  told_by (Instr.Free r layout site) found elements = of_free (Instr.Free r layout site) r site elements m.own.stage
  told_by (Instr.Lock c site) found elements = either (Instr.Lock c site) m (found == 0) _ _ (refl, refl) tt
  told_by (Instr.Unlock r c site) found elements = (refl, refl)
  told_by (Instr.Spawn r function from site) found elements = of_spawn (Instr.Spawn r function from site) refl function from site elements m.own.stage
  told_by (Instr.Join r site) found elements = either (Instr.Join r site) m (found == 0 || (found == 1 || found == 2)) _ _ tt (refl, refl)
  told_by (Instr.Print r site) found elements = (refl, refl)
  told_by (Instr.Start site) found elements = of_start (Instr.Start site) found elements m.own.stage
  told_by Instr.Exit found elements = of_exit m.own.stage
  told_by (Instr.CondEnter c site) found elements = (refl, refl)
  told_by (Instr.CondWait c site) found elements = either (Instr.CondWait c site) m (waits_in found m.own.number) _ _ tt (refl, refl)
  told_by (Instr.CondSignal c site) found elements = of_signal (Instr.CondSignal c site) refl c site found m.own.stage
  told_by (Instr.CondBroadcast c site) found elements = (refl, refl)
  told_by _ found elements = tt
