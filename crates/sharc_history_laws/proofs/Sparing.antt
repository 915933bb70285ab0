-- A cell of a live object that is no mutex is written by no turn of typed code but that of an instruction that writes this cell, or of a Free that empties it.
use Rattle.sharc_history_laws.proofs.{Imports.{◌≡◌, ℕ, ◌+◌, ◌*◌, ◌<◌, ◌≤◌, ◌≢◌, Bool, true, false, nat_lt, Some, refl, sym, ap, ◌∙◌, arith, ⊎_elim, cases_eq, cases_lt, nat_tests, WordStep, word_after, Code, Cell, Instr, Shape, Empties, Fits, granules, granule_at, count_word, first_cell, Machine, StepTurn as Turn, Local, Asks, ref, word, layout_at, instr_at, pointer_cell, turn, Global, Targets, Field, Content, Integer, MutexWord, Waiters, Pointer, field_in, Labels, IsWellTyped, HasCell, Accesses, World, Built, Live, State, OnHold, object_of_cell, number_in, IsOn, CellsAreThere, PointersAreThere, lt_of_le-ne}, Stands.there, Finds.same_object, Touches.{Change, Touched, Touches, is_mutex, some_size, touches, waited_cell, written_cell}}
use Rattle.sharc_invariant.specs.Words.{cell_at}

-- a step that leaves its word, or is on another one than this, where this does not hold
pub data Spares (target : ℕ) (P : Type 0) (step : WordStep) : Type 0 where
  Leaves : ((v : ℕ) → word_after step.op v ≡ v) → Spares target P step
  Elsewhere : (step.word ≡ target → ⊥) → Spares target P step
  Had : P → Spares target P step

-- ---- what cells hold, and who writes them
abbrev pub is_value : Content → Bool
is_value (Integer w) = true
is_value (Pointer f) = true
is_value _ = false

abbrev pub holds_waiters : Content → Bool
holds_waiters Waiters = true
holds_waiters _ = false

value_other : (c : Content) → is_value c ≡ true → is_mutex c ≡ false
value_other (Integer w) e = refl
value_other (Pointer f) e = refl
value_other MutexWord e = absurd (let z : false ≡ true = e in cc)
value_other Waiters e = absurd (let z : false ≡ true = e in cc)

abbrev pub SparesTurn : ℕ → Type 0 → Turn → Type 0
SparesTurn target P (Local x) = Unit {0}
SparesTurn target P (Asks step go) = Spares target P step

-- ---- the turn of an instruction
module _ (there_laws : CellsAreThere) (pointer_laws : PointersAreThere) (x : Targets) (code : Code) (s : Shape) (ls : Labels) (wt : IsWellTyped x code ls) (fits : Fits code s) (g : Global Machine) (world : World) (st : State x code s ls g world) (t : ℕ) (on : IsOn g t)
    (o j : ℕ) (live : (world.obj o).live ≡ true) (inside : j < st.cells o) (other : is_mutex (field_in x (world.obj o).ty j).holds ≡ false) (P : Type 0)
    (written : (c : Cell) → written_cell (instr_at code (g.threads t).at.pc) ≡ Some c → (site : ℕ) (f : Field) → Accesses x code ls (ls.at (g.threads t).at.pc) true c site f → object_of_cell (g.threads t) c ≡ o → number_in (g.threads t) c ≡ j → P)
    (waited : (c : Cell) → waited_cell (instr_at code (g.threads t).at.pc) ≡ Some c → OnHold (g.threads t).own.stage → (f : Field) → HasCell x code (ls.at (g.threads t).at.pc) c f → f.holds ≡ Waiters → object_of_cell (g.threads t) c ≡ o → number_in (g.threads t) c ≡ j → P)
    (emptied : (r layout site q all : ℕ) → instr_at code (g.threads t).at.pc ≡ Instr.Free r layout site → (g.threads t).own.stage ≡ Empties q all → ref (g.threads t) r ≡ o → P) where
  abbrev m : Machine
  m = g.threads t

  -- another cell of an object
  other_cell : (p i : ℕ) → (world.obj p).live ≡ true → i < st.cells p → ((p ≡ o) → (i ≡ j) → ⊥) → cell_at s p i ≡ cell_at s o j → ⊥
  other_cell p i lp lt ne e =
      let same = same_object there_laws x code s ls wt fits g world st p o i j lp live lt inside e in
      ne same (omega arith)

  -- a count
  other_count : (h : ℕ) → (world.obj h).live ≡ true → count_word s h ≡ cell_at s o j → ⊥
  other_count h lh e =
      let low = st.apart.headers h lh in
      let at : granule_at s h ≡ h = let q : nat_lt h (granules s) ≡ true = grind (arith, nat_tests) in rw q refl in
      ⊎_elim
      (λ (less : o < h). let a = st.apart.apart o h live lh less in omega arith)
      (λ (ge : h ≤ o). omega arith)
      (cases_lt o h)

  -- a word of a block that the thread builds
  other_block : (b at : ℕ) → st.heap.state b ≡ Built t → first_cell s + 2 * b ≤ at → at < first_cell s + 2 * (b + st.heap.size b) → at ≡ cell_at s o j → ⊥
  other_block b at built low up e =
      let nb = some_size pointer_laws x code s ls wt fits g world st t on b built in
      let first = (st.heap_stands.kept.blocks.within b nb).0 in
      ⊎_elim
      (λ (z : o ≡ 0). let c = ap st.cells z ∙ st.globals_cells in omega arith)
      (λ (nz : o ≡ 0 → ⊥).
      let state : st.heap.state o ≡ Live = (st.heap_stands.live o nz).0 live in
      let no' : st.heap.size o ≢ 0 = λ z. let q = st.heap_stands.kept.blocks.known o z in let f : Live ≡ Rattle.sharc_invariant.specs.Blocks.Unused = sym state ∙ q in cc in
      let room = st.heap_stands.room o nz live in
      ⊎_elim
      (λ (same : b ≡ o). let f : Built t ≡ Live = sym built ∙ ap st.heap.state same ∙ state in absurd (let g : Built t ≡ Live = f in cc))
      (λ (ne : b ≡ o → ⊥). ⊎_elim
      (λ (less : b < o). let a = st.heap_stands.kept.blocks.apart b o nb no' less in omega arith)
      (λ (ge : o ≤ b). let a = st.heap_stands.kept.blocks.apart o b no' nb (lt_of_le-ne ge (λ z. ne (sym z))) in omega arith)
      (cases_lt b o))
      (cases_eq b o))
      (cases_eq o 0)

  -- a cell that an instruction names
  apart : (c : Cell) (f : Field) → OnHold (g.threads t).own.stage → HasCell x code (ls.at (g.threads t).at.pc) c f → (object_of_cell (g.threads t) c ≡ o → number_in (g.threads t) c ≡ j → ⊥) → word s (g.threads t) c ≡ cell_at s o j → ⊥
  apart c f hold k ne e =
      let th = there x code s ls wt fits g world st t on hold there_laws c f k in
      other_cell (object_of_cell m c) (number_in m c) th.live th.number ne (sym th.word_is ∙ e)

  here : (c : Cell) (f : Field) → OnHold (g.threads t).own.stage → HasCell x code (ls.at (g.threads t).at.pc) c f → Change x code ls (g.threads t) c f → object_of_cell (g.threads t) c ≡ o → number_in (g.threads t) c ≡ j → P
  here c f hold k (Change.ByWrite is site a) eo ej = written c is site f a eo ej
  here c f hold k (Change.ByLock mutex) eo ej =
      let th = there x code s ls wt fits g world st t on hold there_laws c f k in
      let q : is_mutex f.holds ≡ false = ap (λ (f : Field). is_mutex f.holds) (sym th.field) ∙ ap (λ n. is_mutex (field_in x (world.obj n).ty (number_in m c)).holds) eo ∙ ap (λ n. is_mutex (field_in x (world.obj o).ty n).holds) ej ∙ other in
      absurd (let z : true ≡ false = sym mutex ∙ q in cc)
  here c f hold k (Change.ByWaiter is waiters) eo ej = waited c is hold f k waiters eo ej

  on_cell : (c : Cell) (f : Field) → OnHold (g.threads t).own.stage → HasCell x code (ls.at (g.threads t).at.pc) c f → Change x code ls (g.threads t) c f → (step : WordStep) → step.word ≡ word s (g.threads t) c → Spares (cell_at s o j) P step
  on_cell c f hold k why step e = ⊎_elim
      (λ (eo : object_of_cell m c ≡ o). ⊎_elim
      (λ (ej : number_in m c ≡ j). Had (here c f hold k why eo ej))
      (λ (ne : number_in m c ≡ j → ⊥). Elsewhere (λ q. apart c f hold k (λ eo ej. ne ej) (sym e ∙ q)))
      (cases_eq (number_in m c) j))
      (λ (ne : object_of_cell m c ≡ o → ⊥). Elsewhere (λ q. apart c f hold k (λ eo ej. ne eo) (sym e ∙ q)))
      (cases_eq (object_of_cell m c) o)

  spared : (step : WordStep) → Touched x code s ls g world st.cells st.heap t step → Spares (cell_at s o j) P step
  spared step (Touched.Same same) = Leaves same
  spared step (Touched.Low lt) = Elsewhere (λ e. omega arith)
  spared step (Touched.CountOf h lh e) = Elsewhere (λ q. other_count h lh (sym e ∙ q))
  spared step (Touched.OnCell c f hold k why e) = on_cell c f hold k why step e
  spared step (Touched.Clearing r layout site q all is at lp within e) = ⊎_elim
      (λ (eo : ref m r ≡ o). Had (emptied r layout site q all is at eo))
      (λ (ne : ref m r ≡ o → ⊥). Elsewhere (λ z. other_cell (ref m r) (pointer_cell code (layout_at code layout) q) lp within (λ eo ej. ne eo) (sym e ∙ z)))
      (cases_eq (ref m r) o)
  spared step (Touched.InBlock b built low up) = Elsewhere (λ e. other_block b step.word built low up e)

  by_turn : (y : Turn) → Touches x code s ls g world st.cells st.heap t y → SparesTurn (cell_at s o j) P y
  by_turn (Local y) h = tt
  by_turn (Asks step go) h = spared step h

  pub spares_cell : SparesTurn (cell_at s o j) P (turn code s (g.threads t))
  spares_cell = by_turn (turn code s (g.threads t)) (touches pointer_laws x code s ls wt fits g world st t on)

-- ---- a cell that holds a value
module _ (there_laws : CellsAreThere) (pointer_laws : PointersAreThere) (x : Targets) (code : Code) (s : Shape) (ls : Labels) (wt : IsWellTyped x code ls) (fits : Fits code s) (g : Global Machine) (world : World) (st : State x code s ls g world) (t : ℕ) (on : IsOn g t)
    (o j : ℕ) (live : (world.obj o).live ≡ true) (inside : j < st.cells o) (value : is_value (field_in x (world.obj o).ty j).holds ≡ true) (P : Type 0) where
  -- no waiters are in it
  no_waiters : (c : Cell) → waited_cell (instr_at code (g.threads t).at.pc) ≡ Some c → OnHold (g.threads t).own.stage → (f : Field) → HasCell x code (ls.at (g.threads t).at.pc) c f → f.holds ≡ Waiters → object_of_cell (g.threads t) c ≡ o → number_in (g.threads t) c ≡ j → P
  no_waiters c is hold f k waiters eo ej =
      let m = g.threads t in
      let th = there x code s ls wt fits g world st t on hold there_laws c f k in
      let q : is_value f.holds ≡ true = ap (λ (f : Field). is_value f.holds) (sym th.field) ∙ ap (λ n. is_value (field_in x (world.obj n).ty (number_in m c)).holds) eo ∙ ap (λ n. is_value (field_in x (world.obj o).ty n).holds) ej ∙ value in
      absurd (let z : true ≡ false = sym q ∙ ap is_value waiters in cc)

  pub spares : ((c : Cell) → written_cell (instr_at code (g.threads t).at.pc) ≡ Some c → (site : ℕ) (f : Field) → Accesses x code ls (ls.at (g.threads t).at.pc) true c site f → object_of_cell (g.threads t) c ≡ o → number_in (g.threads t) c ≡ j → P)
      → ((r layout site q all : ℕ) → instr_at code (g.threads t).at.pc ≡ Instr.Free r layout site → (g.threads t).own.stage ≡ Empties q all → ref (g.threads t) r ≡ o → P)
      → SparesTurn (cell_at s o j) P (turn code s (g.threads t))
  spares written emptied = spares_cell there_laws pointer_laws x code s ls wt fits g world st t on o j live inside (value_other (field_in x (world.obj o).ty j).holds value) P written no_waiters emptied
