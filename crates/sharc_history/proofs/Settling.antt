-- What a turn tells does not depend on whether the turn before was a failed try.
use Rattle.std.proofs.Common.{◌≡◌, ℕ, zero, suc, ◌==◌, ◌+◌, Bool, true, false, Option, None, List, if◌then◌else◌, refl, sym, ap, ◌∙◌}
use Rattle.std.specs.Prelude.{ℤ, pos}
use Rattle.sharc_tree.specs.{declared.event.Act.Act, declared.event.CellAt.CellAt, declared.event.CellMode.CellMode, declared.event.SourceEvent.SourceEvent}
use Rattle.sharc_tree.specs.declared.event.Act.TheVariants as acts
use Rattle.sharc_tree.specs.declared.event.Taken.TheVariants as takens
use Rattle.sharc_heap.specs.{State.NewView, declared.stage.NewStage.NewStage, declared.stage.NewStage.TheVariants.Length}
use Rattle.sharc_locks.specs.Waiters.{lowest_of, waits_in}
use Rattle.sharc_code.specs.{declared.code.Code.Code, declared.code.PlaceMode.PlaceMode, declared.code.PlaceMode.TheVariants.LockedLoaded, declared.instr.Cell.Cell, declared.instr.Cell.TheVariants.Object, declared.instr.Instr.Instr, declared.instr.Instr.TheVariants.{Load, Store, LoadRef, Exchange, New, TakeCell, TakeLocal, Give, Free, Lock, Unlock, Spawn, Start, Exit, CondEnter, CondWait, CondSignal, CondBroadcast}, declared.instr.Register.Register, declared.state.Stage.Stage, declared.state.Stage.TheVariants.{Makes, Uncounts, Begins, Enters, Leaves, Wakes}, Machine.{Machine, instr_at, int, ref}, Says.{access, argument_of, cell_at, elements_in, event, event_at, in_exit, in_free, in_new, in_signal, in_spawn, in_start, kind_of, made_cell, mode_of, new_event, nobody, of_argument, place_at, reference, said, says, speaks_of, take_local}, ThreadLaws.settled}
use Rattle.sharc_code.specs.declared.instr.Register.TheVariants as registers

module _ (code : Code) (m : Machine) where
  abbrev n : Machine
  n = settled m

  cell_settled : (c : Cell) → cell_at code n c ≡ cell_at code m c
  cell_settled (Object r cell) = refl
  cell_settled _ = refl

  mode_settled : (cell : CellAt) (mode : PlaceMode) → mode_of code n cell mode ≡ mode_of code m cell mode
  mode_settled cell LockedLoaded = refl
  mode_settled cell _ = refl

  access_settled : (site : ℕ) (cell : Cell) (answer : ℤ) (of : CellAt → CellMode → Act) → access code n site cell answer of ≡ access code m site cell answer of
  access_settled site cell answer of =
      ap (λ (mode : CellMode). event m (place_at code site).site answer (of (cell_at code n cell) mode)) (mode_settled (cell_at code n cell) (place_at code site).mode)
      ∙ ap (λ (c : CellAt). event m (place_at code site).site answer (of c (mode_of code m c (place_at code site).mode))) (cell_settled cell)

  of_cell_settled : (site : ℕ) (cell : Cell) (answer : ℤ) (of : CellAt → Act) → event_at code n site answer (of (cell_at code n cell)) ≡ event_at code m site answer (of (cell_at code m cell))
  of_cell_settled site cell answer of = ap (λ (c : CellAt). event_at code m site answer (of c)) (cell_settled cell)

  of_mode_settled : (site : ℕ) (answer : ℤ) (of : CellMode → Act) → event_at code n site answer (of (mode_of code n (made_cell 0 0) (place_at code site).mode)) ≡ event_at code m site answer (of (mode_of code m (made_cell 0 0) (place_at code site).mode))
  of_mode_settled site answer of = ap (λ (mode : CellMode). event_at code m site answer (of mode)) (mode_settled (made_cell 0 0) (place_at code site).mode)

  take_settled : (site number elements : ℕ) → take_local code n site number elements ≡ take_local code m site number elements
  take_settled site zero elements = refl
  take_settled site (suc number) elements = refl

  new_settled : (site cells : ℕ) (state : NewView) (stage : NewStage) → new_event code n site cells state stage ≡ new_event code m site cells state stage
  new_settled site cells state (Length header) = of_mode_settled site (reference header state.arguments.elements) (acts.New cells state.arguments.elements)
  new_settled site cells state _ = refl

  made_settled : (site cells : ℕ) (stage : Stage) → in_new code n site cells stage ≡ in_new code m site cells stage
  made_settled site cells (Makes state) = new_settled site cells state state.stage
  made_settled site cells _ = refl

  free_settled : (r site elements : ℕ) (stage : Stage) → in_free code n r site elements stage ≡ in_free code m r site elements stage
  free_settled r site elements (Uncounts all) = refl
  free_settled r site elements _ = refl

  argument_settled : (from : Register) (elements : ℕ) → argument_of n from elements ≡ argument_of m from elements
  argument_settled (registers.Int r) elements = refl
  argument_settled (registers.Reference r) elements = refl

  spawn_settled : (function : ℕ) (from : Register) (site elements : ℕ) (stage : Stage) → in_spawn code n function from site elements stage ≡ in_spawn code m function from site elements stage
  spawn_settled function from site elements (Begins thread) = ap (λ (v : ℤ). event_at code m site (pos thread) (acts.Spawn function v)) (argument_settled from elements)
  spawn_settled function from site elements _ = refl

  start_settled : (found elements : ℕ) (stage : Stage) → in_start code n found elements stage ≡ in_start code m found elements stage
  start_settled found elements (Enters function) = refl
  start_settled found elements _ = refl

  exit_settled : (stage : Stage) → in_exit code n stage ≡ in_exit code m stage
  exit_settled Leaves = refl
  exit_settled _ = refl

  nobody_settled : (cell : Cell) (site found : ℕ) → nobody code n cell site found ≡ nobody code m cell site found
  nobody_settled cell site zero = of_cell_settled site cell (pos 0) acts.Signal
  nobody_settled cell site (suc found) = refl

  one_or : (b : Bool) (x y z w : Option SourceEvent) → x ≡ y → z ≡ w → (if b then x else z) ≡ (if b then y else w)
  one_or true x y z w p q = p
  one_or false x y z w p q = q

  signal_settled : (cell : Cell) (site found : ℕ) (stage : Stage) → in_signal code n cell site found stage ≡ in_signal code m cell site found stage
  signal_settled cell site found (Wakes seen) = one_or (found == seen) _ _ _ _ (of_cell_settled site cell (pos (lowest_of seen + 1)) acts.Signal) (nobody_settled cell site found)
  signal_settled cell site found _ = nobody_settled cell site found

  said_settled : (i : Instr) (found elements : ℕ) → said code i n found elements ≡ said code i m found elements
  said_settled (Load r cell site) found elements = access_settled site cell _ acts.Read
  said_settled (Store r cell site) found elements = access_settled site cell (pos 0) (λ at mode. acts.Write at mode (int m r))
  said_settled (LoadRef cell site) found elements = access_settled site cell (reference found elements) acts.Read
  said_settled (Exchange r cell site) found elements = access_settled site cell (pos 0) (λ at mode. acts.Write at mode (reference (ref m r) elements))
  said_settled (TakeCell r cell site) found elements = access_settled site cell (reference found elements) (λ at mode. acts.Take (takens.Cell at mode) (kind_of (place_at code site).at))
  said_settled (TakeLocal r from site) found elements = take_settled site (ref m from) elements
  said_settled (Give r site) found elements = of_mode_settled site (pos 0) (acts.Give (reference (ref m r) elements))
  said_settled (New r count cells site) found elements = made_settled site cells m.own.stage
  said_settled (Free r layout site) found elements = free_settled r site elements m.own.stage
  said_settled (Lock cell site) found elements = ap (λ (e : Option SourceEvent). if found == 0 then e else None) (of_cell_settled site cell (pos 0) acts.Lock)
  said_settled (Unlock r cell site) found elements = of_cell_settled site cell (pos 0) acts.Unlock
  said_settled (Spawn r function from site) found elements = spawn_settled function from site elements m.own.stage
  said_settled (Start site) found elements = start_settled found elements m.own.stage
  said_settled Exit found elements = exit_settled m.own.stage
  said_settled (CondEnter cell site) found elements = of_cell_settled site cell (pos 0) acts.Enter
  said_settled (CondWait cell site) found elements = ap (λ (e : Option SourceEvent). if waits_in found m.own.number then None else e) (of_cell_settled site cell (pos 0) acts.Woken)
  said_settled (CondSignal cell site) found elements = signal_settled cell site found m.own.stage
  said_settled (CondBroadcast cell site) found elements = of_cell_settled site cell (pos 0) acts.Broadcast
  said_settled _ found elements = refl

  -- ---- the object of which it speaks
  of_argument_settled : (from : Register) → of_argument n from ≡ of_argument m from
  of_argument_settled (registers.Int r) = refl
  of_argument_settled (registers.Reference r) = refl

  speaks_settled : (i : Instr) (found : ℕ) → speaks_of i n found ≡ speaks_of i m found
  speaks_settled (Spawn r function from site) found = of_argument_settled from
  speaks_settled _ found = refl

-- what a machine tells with the elements of these events
abbrev pub told_from : Code → List SourceEvent → ℕ → Machine → Option SourceEvent
told_from code events found m = says code m found (elements_in events (speaks_of (instr_at code m.at.pc) m found))

told_settled : (code : Code) (events : List SourceEvent) (found : ℕ) (m : Machine) → told_from code events found (settled m) ≡ told_from code events found m
told_settled code events found m =
    ap (λ k. says code (settled m) found (elements_in events k)) (speaks_settled code m (instr_at code m.at.pc) found)
    ∙ said_settled code m (instr_at code m.at.pc) found (elements_in events (speaks_of (instr_at code m.at.pc) m found))

pub told_alike : (code : Code) (events : List SourceEvent) (found : ℕ) (m n : Machine) → settled m ≡ settled n → told_from code events found m ≡ told_from code events found n
told_alike code events found m n same = sym (told_settled code events found m) ∙ ap (told_from code events found) same ∙ told_settled code events found n
