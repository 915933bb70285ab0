-- A readonly pointer cell of an object that no thread has alone is written by no turn of typed code.
use Rattle.sharc_history_laws.proofs.{Imports.{◌≡◌, ℕ, ◌+◌, ◌<◌, true, false, Some, refl, sym, ◌∙◌, subst, Code, Cell, Instr, Shape, Empties, Fits, Machine, instr_at, ref, turn, Global, Targets, Field, Content, Integer, MutexWord, Waiters, Pointer, field_in, mode_at, is_pointer, Labels, IsWellTyped, Fine, Accesses, IsSole, World, CanBy, lang_of, Closing, State, GateStands, OnHold, object_of_cell, number_in, IsOn, CellsAreThere, PointersAreThere, AccessesAreAllowed, single}, Single.rests_hold, Sparing.{SparesTurn, is_value}, Touches.written_cell, Stands.{there, gate, reads_ref}}
use Rattle.sharc_invariant.specs.{Types.CellMode, Words.cell_at}
use Rattle.sharc_history_laws.proofs.Sparing as Sparing

pub pointer_value : (c : Content) → is_pointer c ≡ true → is_value c ≡ true
pointer_value (Integer w) e = refl
pointer_value (Pointer f) e = refl
pointer_value MutexWord e = absurd (let f : false ≡ true = e in cc)
pointer_value Waiters e = absurd (let f : false ≡ true = e in cc)

pub writes_single : (i : Instr) (c : Cell) → written_cell i ≡ Some c → single i ≡ true
writes_single (Instr.Store r d site) c e = refl
writes_single (Instr.Exchange r d site) c e = refl
writes_single (Instr.TakeCell r d site) c e = refl
writes_single _ c e = absurd (cc)

-- a Free that empties an object has it alone
pub emptying : (x : Targets) (code : Code) (s : Shape) (ls : Labels) (wt : IsWellTyped x code ls) (fits : Fits code s) (g : Global Machine) (world : World) (st : State x code s ls g world) (t : ℕ) (on : IsOn g t) (hold : OnHold (g.threads t).own.stage) (o r layout site : ℕ)
    → instr_at code (g.threads t).at.pc ≡ Instr.Free r layout site → ref (g.threads t) r ≡ o → Closing world o
emptying x code s ls wt fits g world st t on hold o r layout site is e =
    let m = g.threads t in
    let fine = subst (Fine x code ls m.at.pc (ls.at m.at.pc)) is (wt.fine m.at.pc) in
    let win : world.win t ≡ IsSole (m.at.refs + r) = subst (GateStands s world t m) fine.0.1 (gate x code s ls wt fits g world st t on hold) in
    (t, (m.at.refs + r, (win, sym (reads_ref x code s ls wt fits g world st t on hold r) ∙ e)))

module _ (there_laws : CellsAreThere) (pointer_laws : PointersAreThere) (rights : AccessesAreAllowed) (x : Targets) (code : Code) (s : Shape) (ls : Labels) (wt : IsWellTyped x code ls) (fits : Fits code s) (g : Global Machine) (world : World) (st : State x code s ls g world) (t : ℕ) (on : IsOn g t)
    (o j : ℕ) (live : (world.obj o).live ≡ true) (inside : j < st.cells o) (pointer : is_pointer (field_in x (world.obj o).ty j).holds ≡ true) (readonly : mode_at x (world.obj o).ty j ≡ CellMode.Readonly) where
  abbrev m : Machine
  m = g.threads t

  hold_written : (c : Cell) → written_cell (instr_at code (g.threads t).at.pc) ≡ Some c → OnHold (g.threads t).own.stage
  hold_written c is = rests_hold code s st.elements world st.heap g.words t m (instr_at code m.at.pc) m.own.stage (writes_single (instr_at code m.at.pc) c is) ((st.threads t).runs on.0 on.1).stage

  written : (c : Cell) → written_cell (instr_at code (g.threads t).at.pc) ≡ Some c → (site : ℕ) (f : Field) → Accesses x code ls (ls.at (g.threads t).at.pc) true c site f → object_of_cell (g.threads t) c ≡ o → number_in (g.threads t) c ≡ j → Closing world o
  written c is site f k eo ej =
      let hold = hold_written c is in
      let th = there x code s ls wt fits g world st t on hold there_laws c f k.cell in
      let right = rights x code s ls wt fits g world st t on hold true c site f k in
      let a = subst (λ p. CanBy (lang_of x) world t true p (number_in m c) (mode_at x (world.obj p).ty (number_in m c))) (th.base ∙ eo) right.can in
      let b = subst (λ i. CanBy (lang_of x) world t true o i (mode_at x (world.obj o).ty i)) ej a in
      let q : true ≡ false = subst (CanBy (lang_of x) world t true o j) readonly b in
      absurd (let z : true ≡ false = q in cc)

  emptied : (r layout site q all : ℕ) → instr_at code (g.threads t).at.pc ≡ Instr.Free r layout site → (g.threads t).own.stage ≡ Empties q all → ref (g.threads t) r ≡ o → Closing world o
  emptied r layout site q all is at e = emptying x code s ls wt fits g world st t on (subst OnHold (sym at) tt) o r layout site is e

  pub spares : SparesTurn (cell_at s o j) (Closing world o) (turn code s (g.threads t))
  spares = Sparing.spares there_laws pointer_laws x code s ls wt fits g world st t on o j live inside (pointer_value (field_in x (world.obj o).ty j).holds pointer) (Closing world o) written emptied
