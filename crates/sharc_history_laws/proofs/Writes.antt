-- Which word a turn of typed code writes: one below the blocks, a count, a cell of a live object, or one of a block that the thread builds.
use Rattle.sharc_history_laws.proofs.{Imports.{◌≡◌, ℕ, ◌+◌, ◌*◌, ◌<◌, ◌≤◌, true, ◌∙◌, WordStep, word_after, Code, Shape, Fits, granule_at, first_cell, Machine, StepTurn as Turn, Local, Asks, ref, layout_at, pointer_cell, turn, Global, Targets, Labels, IsWellTyped, World, Heap, Built, State, object_of_cell, number_in, IsOn, CellsAreThere, PointersAreThere, ObjectState}, Stands.there, Touches.{Touched, Touches, touches}}
use Rattle.sharc_invariant.specs.Words.{cell_at}

pub data Wrote (s : Shape) (obj : ℕ → ObjectState) (cells : ℕ → ℕ) (heap : Heap) (t : ℕ) (step : WordStep) : Type 0 where
  Leaves : ((v : ℕ) → word_after step.op v ≡ v) → Wrote s obj cells heap t step
  Low : step.word < first_cell s → Wrote s obj cells heap t step
  CountOf : (h : ℕ) → step.word ≡ first_cell s + 2 * h → Wrote s obj cells heap t step
  InCell : (o j : ℕ) → (obj o).live ≡ true → j < cells o → step.word ≡ cell_at s o j → Wrote s obj cells heap t step
  InBlock : (b : ℕ) → heap.state b ≡ Built t → first_cell s + 2 * b ≤ step.word → step.word < first_cell s + 2 * (b + heap.size b) → Wrote s obj cells heap t step

abbrev pub Writes : Shape → (ℕ → ObjectState) → (ℕ → ℕ) → Heap → ℕ → Turn → Type 0
Writes s obj cells heap t (Local x) = Unit {0}
Writes s obj cells heap t (Asks step go) = Wrote s obj cells heap t step

module _ (there_laws : CellsAreThere) (pointer_laws : PointersAreThere) (x : Targets) (code : Code) (s : Shape) (ls : Labels) (wt : IsWellTyped x code ls) (fits : Fits code s) (g : Global Machine) (world : World) (st : State x code s ls g world) (t : ℕ) (on : IsOn g t) where
  wrote : (step : WordStep) → Touched x code s ls g world st.cells st.heap t step → Wrote s world.obj st.cells st.heap t step
  wrote step (Touched.Same same) = Leaves same
  wrote step (Touched.Low lt) = Low lt
  wrote step (Touched.CountOf h live e) = CountOf (granule_at s h) e
  wrote step (Touched.OnCell c f hold k why e) =
      let th = there x code s ls wt fits g world st t on hold there_laws c f k in
      InCell (object_of_cell (g.threads t) c) (number_in (g.threads t) c) th.live th.number (e ∙ th.word_is)
  wrote step (Touched.Clearing r layout site j all is at live inside e) = InCell (ref (g.threads t) r) (pointer_cell code (layout_at code layout) j) live inside e
  wrote step (Touched.InBlock b built low high) = InBlock b built low high

  by_turn : (y : Turn) → Touches x code s ls g world st.cells st.heap t y → Writes s world.obj st.cells st.heap t y
  by_turn (Local y) h = tt
  by_turn (Asks step go) h = wrote step h

  pub writes : Writes s world.obj st.cells st.heap t (turn code s (g.threads t))
  writes = by_turn (turn code s (g.threads t)) (touches pointer_laws x code s ls wt fits g world st t on)
