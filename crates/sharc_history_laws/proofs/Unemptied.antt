-- No Free empties the object of a cell at which a thread is whose gate is no sole reference.
use Rattle.sharc_history_laws.proofs.{Imports.{◌≡◌, ℕ, ◌+◌, ◌≢◌, true, false, refl, ap, ◌∙◌, slice_index, Code, Cell, Shape, Stage, Links, Fits, Machine, Global, Targets, Labels, IsWellTyped, IsNotSole, World, Closing, State, OnHold, object_of_cell, IsOn, StateStands, is_clearing}, Emptying.IsEmptied, Shared.{closing_own, some_closing, not_sole}, Stands.gate, Unwritten.emptying}

pub on_hold : (stage : Stage) → is_clearing stage ≡ true → OnHold stage
on_hold (Links all) e = absurd (let z : false ≡ true = e in cc)
on_hold _ e = tt

module _ (state_law : StateStands) (x : Targets) (code : Code) (s : Shape) (ls : Labels) (wt : IsWellTyped x code ls) (fits : Fits code s) (g : Global Machine) (world : World) (st : State x code s ls g world) (t : ℕ) (on : IsOn g t) (hold : OnHold (g.threads t).own.stage)
    (k : Cell) (apart : IsNotSole (ls.at (g.threads t).at.pc).gate) where
  abbrev m : Machine
  m = g.threads t

  register_of_cell : (k : Cell) → object_of_cell (g.threads t) k ≢ 0 → (q : ℕ) × (slice_index (g.threads t).refs q ≡ object_of_cell (g.threads t) k)
  register_of_cell (Cell.Global q p) nz = absurd (nz refl)
  register_of_cell (Cell.GlobalAt q p) nz = absurd (nz refl)
  register_of_cell (Cell.Object q p) nz = (m.at.refs + q, refl)
  register_of_cell (Cell.ObjectAt q p) nz = (m.at.refs + q, refl)

  -- nobody has it alone
  not_alone : Closing world (object_of_cell (g.threads t) k) → ⊥
  not_alone c =
      let n = object_of_cell m k in
      let q = register_of_cell k (some_closing state_law x code s ls wt fits g world st n c) in
      let mine : t ≡ c.0 = closing_own state_law x code s ls wt fits g world st n c t q.0 hold q.1 in
      not_sole s world t m (ls.at m.at.pc).gate apart (gate x code s ls wt fits g world st t on hold) c.1.0 (ap world.win mine ∙ c.1.1.0)

  pub not_emptied : IsEmptied code g (object_of_cell (g.threads t) k) → ⊥
  not_emptied z =
      let u = z.0 in
      let y = z.1.1 in
      not_alone (emptying x code s ls wt fits g world st u (z.1.0, y.on) (on_hold (g.threads u).own.stage y.emptying) (object_of_cell m k) y.register y.layout y.site y.is_free y.object)
