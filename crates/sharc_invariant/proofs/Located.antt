-- A cell that an instruction names, whose base is not NULL, is there.
use Rattle.sharc_invariant.proofs.{Imports.{◌≡◌, ℕ, ◌+◌, Bool, true, false, cond, sym, ap, ◌∙◌, subst, slice_index, ◌==◌, Code, Cell, Shape, Fits, Machine, instr_at, ref, is_of_null, Global, put_same, Targets, Field, Label, Labels, knows, IsWellTyped, HasField, IsAccess as Accesses, RegisterOf, World, Right, in_ref, lang_of, State, Runs, TopStands, GateStands, OnHold, base_of_cell, number_in, IsThere, IsOn}, TurnAt.thread_at, Quiet.{label_held, freed_held}, Steps.knows_top, Cells.cell_there, Rights.right}

module _ (x : Targets) (code : Code) (s : Shape) (ls : Labels) (wt : IsWellTyped x code ls) (fits : Fits code s) (g : Global Machine) (world : World) (st : State x code s ls g world) (t : ℕ) (on : IsOn g t) (hold : OnHold (g.threads t).own.stage) where
  open thread_at st t use {m, here, view}

  rn : Runs x code s ls st.elements world st.heap g t (g.threads t)
  rn = (st.threads t).runs on.0 on.1

  top : TopStands x t view (g.threads t).at.refs (g.threads t).at.ints rn.names here
  top = subst (TopStands x t view m.at.refs m.at.ints rn.names) (label_held here (instr_at code m.at.pc) m.own.stage hold) rn.top

  reads : (r : ℕ) → ref (g.threads t) r ≡ in_ref world (RegisterOf t ((g.threads t).at.refs + r))
  reads r = sym (st.sim.regs t (m.at.refs + r) ∙ ap (λ b. cond b 0 (slice_index m.refs (m.at.refs + r))) (freed_held (instr_at code m.at.pc) m.own.stage m.at.refs (m.at.refs + r) hold))

  some_ref : (r : ℕ) → (ref (g.threads t) r == 0) ≡ false → in_ref world (RegisterOf t ((g.threads t).at.refs + r)) ≡ 0 → ⊥
  some_ref r some z = let e : ref m r ≡ 0 = reads r ∙ z in let k : (ref m r == 0) ≡ true = ap (λ n. n == 0) e in cc

  known_top : (r : ℕ) → (ref (g.threads t) r == 0) ≡ false → TopStands x t view (g.threads t).at.refs (g.threads t).at.ints rn.names (knows here r)
  known_top r some = knows_top x t view m.at.refs m.at.ints rn.names here r (some_ref r some) top

  pub located : (c : Cell) (f : Field) → HasField x code here c f → is_of_null (g.threads t) c ≡ false → IsThere x s st.cells world t (g.threads t) c f
  located (Cell.Object r i) f field some =
      cell_there x code s ls wt fits g world st t m rn.names (knows here r) (known_top r some) reads (Cell.Object r i) f record { field = field; base = put_same here.known r true }
  located (Cell.ObjectAt r i) f field some =
      cell_there x code s ls wt fits g world st t m rn.names (knows here r) (known_top r some) reads (Cell.ObjectAt r i) f record { field = field; base = put_same here.known r true }
  located k f field some = cell_there x code s ls wt fits g world st t m rn.names here top reads k f record { field = field; base = tt }

  gate_now : GateStands s world t (g.threads t) here.gate
  gate_now = subst (λ (l : Label). GateStands s world t m l.gate) (label_held here (instr_at code m.at.pc) m.own.stage hold) rn.gate

  pub allowed : (write : Bool) (c : Cell) (site : ℕ) (f : Field) → Accesses x code ls here write c site f → Right (lang_of x) world t write (base_of_cell (g.threads t) c) (number_in (g.threads t) c)
  allowed write c site f a = right x code s ls wt fits g world st t (st.begins.few t on.0) rn.names here top reads rn.below gate_now write c f a.cell a.may
