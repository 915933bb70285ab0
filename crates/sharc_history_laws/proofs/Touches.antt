-- Which word a turn of typed code is on: one below the blocks, a count of a live object, a cell, or a word of a block that the thread builds.
use Rattle.sharc_history_laws.proofs.{Imports.{◌≡◌, ℕ, ℤ, pos, negsuc, zero, suc, ◌+◌, ◌*◌, ◌/◌, ◌<◌, ◌≤◌, ◌≢◌, Bool, true, false, nat_lt, List, Option, Some, None, if◌then◌else◌, refl, sym, ap, ◌∙◌, subst, arith, nat_tests, slice_index, ◌==◌, Trap, THREADS, WordOp, WordStep, word_after, NewView, told, word_number, turn_of_stage, NewArguments, NewStage, Code, Cell, Register, Instr, Shape, Stage, Looks, Clears, Makes, Empties, Lowers, FreeLooks, FreeClears, Uncounts, Links, Names, Hands, Begins, Enters, Withdraws, WithdrawsFrom, Leaves as Leaving, Wakes, Fits, granules, words_of, cell_word, cell_of, shadow_word, count_word, length_word, first_cell, first_shadow, state_word, Machine, StepTurn as Turn, Local, Asks, step_of, act, int, ref, word, raise, lower, test, new, asks_new, new_state, elements_of, clear, free, layout_at, spawn, join, start, exit, signal, goes, set_ref, accessed, move_ref, joined, trapped, instr_at, pointer_cell, turn, Global, Targets, Field, Content, MutexWord, Waiters, Labels, IsWellTyped, Fine, HasCell, Accesses, World, In, RegisterOf, in_ref, Staged, CellOf, IsLoaded, WinOk, base_of, staged_of, lang_of, Heap, Built, State, Runs, StageStands, BuildsAt, all_pointers, OnHold, number_in, GateStands, base_of_cell, IsOn, PointersAreThere, single}, TurnAt.thread_at, Single.rests_hold, Stands.{sole_ref, live_ref, target_ref, register_is, live_slot, known_ref, gate}}
use Rattle.sharc_invariant.specs.Words.{cell_at}

abbrev pub is_mutex : Content → Bool
is_mutex MutexWord = true
is_mutex _ = false

-- the cell with waiters that the instruction changes
abbrev pub waited_cell : Instr → Option Cell
waited_cell (Instr.CondEnter c site) = Some c
waited_cell (Instr.CondSignal c site) = Some c
waited_cell (Instr.CondBroadcast c site) = Some c
waited_cell _ = None

-- the cell that the instruction writes
abbrev pub written_cell : Instr → Option Cell
written_cell (Instr.Store r c site) = Some c
written_cell (Instr.Exchange r c site) = Some c
written_cell (Instr.TakeCell r c site) = Some c
written_cell _ = None

-- how an instruction changes a cell that it names
pub data Change (x : Targets) (code : Code) (ls : Labels) (m : Machine) (c : Cell) (f : Field) : Type 0 where
  ByWrite : written_cell (instr_at code m.at.pc) ≡ Some c → (site : ℕ) → Accesses x code ls (ls.at m.at.pc) true c site f → Change x code ls m c f
  ByLock : is_mutex f.holds ≡ true → Change x code ls m c f
  ByWaiter : waited_cell (instr_at code m.at.pc) ≡ Some c → f.holds ≡ Waiters → Change x code ls m c f

pub data Touched (x : Targets) (code : Code) (s : Shape) (ls : Labels) (g : Global Machine) (world : World) (cells : ℕ → ℕ) (heap : Heap) (t : ℕ) (step : WordStep) : Type 0 where
  Same : ((v : ℕ) → word_after step.op v ≡ v) → Touched x code s ls g world cells heap t step
  Low : step.word < first_cell s → Touched x code s ls g world cells heap t step
  CountOf : (h : ℕ) → (world.obj h).live ≡ true → step.word ≡ count_word s h → Touched x code s ls g world cells heap t step
  OnCell : (c : Cell) (f : Field) → OnHold (g.threads t).own.stage → HasCell x code (ls.at (g.threads t).at.pc) c f → Change x code ls (g.threads t) c f → step.word ≡ word s (g.threads t) c → Touched x code s ls g world cells heap t step
  Clearing : (r layout site q all : ℕ) → instr_at code (g.threads t).at.pc ≡ Instr.Free r layout site → (g.threads t).own.stage ≡ Empties q all → (world.obj (ref (g.threads t) r)).live ≡ true → pointer_cell code (layout_at code layout) q < cells (ref (g.threads t) r)
      → step.word ≡ cell_at s (ref (g.threads t) r) (pointer_cell code (layout_at code layout) q) → Touched x code s ls g world cells heap t step
  InBlock : (b : ℕ) → heap.state b ≡ Built t → first_cell s + 2 * b ≤ step.word → step.word < first_cell s + 2 * (b + heap.size b) → Touched x code s ls g world cells heap t step

abbrev pub Touches : Targets → Code → Shape → Labels → Global Machine → World → (ℕ → ℕ) → Heap → ℕ → Turn → Type 0
Touches x code s ls g world cells heap t (Local y) = Unit {0}
Touches x code s ls g world cells heap t (Asks step go) = Touched x code s ls g world cells heap t step

module _ (pointer_laws : PointersAreThere) (x : Targets) (code : Code) (s : Shape) (ls : Labels) (wt : IsWellTyped x code ls) (fits : Fits code s) (g : Global Machine) (world : World) (st : State x code s ls g world) (t : ℕ) (on : IsOn g t) where
  open thread_at st t use {m, here}

  abbrev Touching : WordStep → Type 0
  Touching = Touched x code s ls g world st.cells st.heap t

  abbrev Turns : Turn → Type 0
  Turns = Touches x code s ls g world st.cells st.heap t

  of_shadow : (granule : ℕ) (op : WordOp) → Touching (step_of (shadow_word s granule) op)
  of_shadow granule op = Low (shadow_low granule)
    where
      at_low : (b : Bool) (n : ℕ) → (b ≡ true → n < granules s) → first_shadow + (if b then n else 0) < first_cell s
      at_low true n h = let lt = h refl in omega arith
      at_low false n h = omega arith

      shadow_low : (granule : ℕ) → shadow_word s granule < first_cell s
      shadow_low granule = at_low (nat_lt granule (granules s)) granule (λ e. grind (arith, nat_tests))

  of_count : (h : ℕ) (op : WordOp) → (world.obj h).live ≡ true → Touching (step_of (count_word s h) op)
  of_count h op live = CountOf h live refl

  to_raise : (h : ℕ) (y : Machine) → (h ≢ 0 → (world.obj h).live ≡ true) → Turns (raise s h y)
  to_raise zero y live = tt
  to_raise (suc h) y live = of_count (suc h) _ (live (λ e. omega arith))

  to_lower : (h : ℕ) (y : Machine) → (h ≢ 0 → (world.obj h).live ≡ true) → Turns (lower s h y)
  to_lower zero y live = tt
  to_lower (suc h) y live = of_count (suc h) _ (live (λ e. omega arith))

  to_test : (h : ℕ) (y : Machine) → (h ≢ 0 → (world.obj h).live ≡ true) → Turns (test s h y)
  to_test zero y live = tt
  to_test (suc h) y live = of_count (suc h) _ (live (λ e. omega arith))

  to_clear : (y : Machine) (h cells : ℕ) (stage : Stage) → Turns (clear s y h cells stage)
  to_clear y h cells (Looks done all) = Same (λ v. refl)
  to_clear y h cells (Clears done all seen) = of_shadow _ _
  to_clear y h cells _ = Same (λ v. refl)

  to_join : (y : Machine) (z : ℤ) (site : ℕ) → Turns (join y z site)
  to_join y (pos n) site = elim (nat_lt n THREADS) as (λ b. Turns (if b then Asks (step_of (state_word n) WordOp.Load) (joined y site) else Local (trapped y Trap.NoSuchThread site))) [
    | true ↦ Same (λ v. refl)
    | false ↦ tt
  ]
  to_join y (negsuc n) site = tt

  to_start : (y : Machine) (site : ℕ) (stage : Stage) → Turns (start code y site stage)
  to_start y site (Enters function) = Same (λ v. refl)
  to_start y site _ = Same (λ v. refl)

  to_exit : (y : Machine) (stage : Stage) → y.own.number < THREADS → Turns (exit s y stage)
  to_exit y (Withdraws row) lt = Same (λ v. refl)
  to_exit y (WithdrawsFrom row seen) lt = of_shadow _ _
  to_exit y Leaving lt = Low (omega (arith, lt))
  to_exit y _ lt = Low (omega (arith, lt))

  to_spawn : (y : Machine) (r function : ℕ) (from : Register) (site : ℕ) (stage : Stage) → ((n : ℕ) → stage ≡ Names n → n < THREADS) → ((n : ℕ) → stage ≡ Hands n → n < THREADS) → ((n : ℕ) → stage ≡ Begins n → n < THREADS)
      → Turns (spawn y r function from site stage)
  to_spawn y r function from site (Names n) a b c = let lt = a n refl in Low (omega arith)
  to_spawn y r function from site (Hands n) a b c = let lt = b n refl in Low (omega arith)
  to_spawn y r function from site (Begins n) a b c = let lt = c n refl in Low (omega arith)
  to_spawn y r function from site _ a b c = Low (omega arith)

  to_signal : (y : Machine) (word : ℕ) (stage : Stage) → ((op : WordOp) → Touching (step_of word op)) → Turns (signal y word stage)
  to_signal y word (Wakes seen) h = h _
  to_signal y word _ h = Same (λ v. refl)

  abbrev rn : Runs x code s ls st.elements world st.heap g t (g.threads t)
  rn = (st.threads t).runs on.0 on.1

  low_number : (g.threads t).own.number < THREADS
  low_number = let a = st.begins.few t on.0 in let b = (st.threads t).has.number in omega arith

  -- a block that is built has granules
  pub some_size : (b : ℕ) → st.heap.state b ≡ Built t → st.heap.size b ≢ 0
  some_size b built z = let e = st.heap_stands.kept.blocks.known b z in let f : Built t ≡ Rattle.sharc_invariant.specs.Blocks.Unused = sym built ∙ e in cc

  in_block : (b c word k : ℕ) → word ≡ c + 2 * b + k → st.heap.size b ≢ 0 → k ≤ 1 → word < c + 2 * (b + st.heap.size b)
  in_block b c word k e nz le = by (st.heap.size b) refl
    where
      by : (n : ℕ) → st.heap.size b ≡ n → word < c + 2 * (b + st.heap.size b)
      by zero z = absurd (nz z)
      by (suc n) z = omega arith

  -- a New
  number_of_block : (word : ℕ) (op : WordOp) (a : NewArguments) (b : ℕ) → a.first ≡ first_cell s → st.heap.state b ≡ Built t → first_cell s + 2 * b ≤ word → word < first_cell s + 2 * (b + st.heap.size b) → Touching (step_of (word_number a word) op)
  number_of_block word op a b e built low high =
      elim (nat_lt word (a.first + 2 * a.end)) as (λ c. Touching (step_of (if c then word else 0) op)) [
        | true ↦ InBlock b built low high
        | false ↦ Low (omega arith)
      ]

  to_stage : (y : Machine) (r site : ℕ) (state : NewView) (words : List ℕ) (stage : NewStage) → state.arguments.first ≡ first_cell s → BuildsAt words st.heap t state stage
      → Turns (asks_new y r site state (turn_of_stage state.arguments stage))
  to_stage y r site state words (NewStage.Cell cell) e h =
      let a = state.arguments in
      let size = h.2 in let room = h.0 in let lt = h.3 in
      number_of_block (a.first + 2 * a.head + 2 + cell) _ a a.head e h.1 (omega arith) (omega arith)
  to_stage y r site state words (NewStage.Move top moved) e h = Low (omega arith)
  to_stage y r site state words (NewStage.Count header) e h =
      let a = state.arguments in
      let size = h.2 in let nz = some_size header h.1 in
      number_of_block (a.first + 2 * header) _ a header e h.1 (omega arith) (in_block header (first_cell s) (a.first + 2 * header) 0 (omega arith) nz (omega arith))
  to_stage y r site state words (NewStage.Length header) e h =
      let a = state.arguments in
      let nz = some_size header h.1 in
      number_of_block (a.first + 2 * header + 1) _ a header e h.1 (omega arith) (in_block header (first_cell s) (a.first + 2 * header + 1) 1 (omega arith) nz (omega arith))
  to_stage y r site state words _ e h = absurd h

  -- what the thread has is live
  live_in_register : (i : ℕ) → OnHold (g.threads t).own.stage → slice_index (g.threads t).refs i ≢ 0 → (world.obj (slice_index (g.threads t).refs i)).live ≡ true
  live_in_register i hold nz =
      let e = register_is x code s ls wt fits g world st t i hold in
      subst (λ p. (world.obj p).live ≡ true) e (live_slot x code s ls wt fits g world st (In (RegisterOf t i)) (λ z. nz (sym e ∙ z)))

  -- of an instruction of one turn, whose stage rests
  rest : (i : Instr) → instr_at code (g.threads t).at.pc ≡ i → single i ≡ true → OnHold (g.threads t).own.stage
  rest i is one = rests_hold code s st.elements world st.heap g.words t m i m.own.stage one (subst (λ i. StageStands code s st.elements world st.heap g.words t m i m.own.stage) is rn.stage)

  to_new : (r count cells site : ℕ) (stage : Stage) → StageStands code s st.elements world st.heap g.words t (g.threads t) (Instr.New r count cells site) stage → Turns (new s (g.threads t) r (elements_of (int (g.threads t) count)) cells site stage)
  to_new r count cells site (Makes v) h = to_stage m r site v g.words v.stage (ap (λ (a : NewArguments). a.first) h.0) h.1
  to_new r count cells site _ h = let a = new_state s m (elements_of (int m count)) cells in begin (a.arguments.head == 0) (told a 0)
    where
      begin : (b : Bool) (v : NewView) → Turns (asks_new (g.threads t) r site v (turn_of_stage v.arguments (if b then NewStage.Top else NewStage.Link)))
      begin true v = Same (λ n. refl)
      begin false v = Same (λ n. refl)

  to_free : (r layout site : ℕ) (stage : Stage) → instr_at code (g.threads t).at.pc ≡ Instr.Free r layout site → (g.threads t).own.stage ≡ stage → StageStands code s st.elements world st.heap g.words t (g.threads t) (Instr.Free r layout site) stage
      → Turns (free code s (g.threads t) r (layout_at code layout) stage)
  to_free r layout site (Empties j all) is at h =
      let hold : OnHold m.own.stage = subst OnHold (sym at) tt in
      let fine = subst (Fine x code ls m.at.pc here) is (wt.fine m.at.pc) in
      let nz = sole_ref x code s ls wt fits g world st t on hold r fine.0.0 fine.0.1 in
      let live = live_ref x code s ls wt fits g world st t on hold r nz in
      let ty = fine.3.0 in
      let o = ref m r in
      let lt : j < all_pointers code layout (st.elements o) = subst (λ n. j < all_pointers code layout n) h.0.0 h.1 in
      let inside = pointer_laws x code s ls wt fits g world st o layout ty.target j nz live (target_ref x code s ls wt fits g world st t on hold r ty fine.3.1 nz) fine.3.2 lt in
      Clearing r layout site j all is at live inside (cell_number o (pointer_cell code (layout_at code layout) j) live inside)
    where
      cell_number : (o j : ℕ) → (world.obj o).live ≡ true → j < st.cells o → cell_word s (cell_of o j) ≡ cell_at s o j
      cell_number o j live lt =
          let w = first_cell s + cell_of o j in
          let inside = st.apart.within o (j / 2) live (omega arith) in
          let below : w < words_of s = omega arith in
          let e : nat_lt w (words_of s) ≡ true = grind (arith, nat_tests) in
          let q : cell_word s (cell_of o j) ≡ w = rw e refl in
          q ∙ (let z : w ≡ cell_at s o j = omega arith in z)
  to_free r layout site (Lowers i all found) is at h =
      let e : in_ref world (Staged t) ≡ found = st.sim.staged t ∙ ap staged_of at in
      of_count found _ (subst (λ p. (world.obj p).live ≡ true) e (live_slot x code s ls wt fits g world st (In (Staged t)) (λ z. h.1 (sym e ∙ z))))
  to_free r layout site (FreeLooks done all) is at h = Same (λ v. refl)
  to_free r layout site (FreeClears done all seen) is at h = of_shadow _ _
  to_free r layout site (Uncounts all) is at h =
      let hold : OnHold m.own.stage = subst OnHold (sym at) tt in
      let fine = subst (Fine x code ls m.at.pc here) is (wt.fine m.at.pc) in
      let nz = sole_ref x code s ls wt fits g world st t on hold r fine.0.0 fine.0.1 in
      of_count (ref m r) _ (live_ref x code s ls wt fits g world st t on hold r nz)
  to_free r layout site (Links all) is at h =
      let b = ref m r in
      let nz = some_size b h.0 in
      let w = st.heap_stands.kept.blocks.within b nz in
      let top = st.heap_stands.within in
      let lt : b < granules s = some_low b (st.heap.size b) nz (omega arith) in
      InBlock b h.0 (above b lt) (below b lt nz)
    where
      some_low : (b n : ℕ) → n ≢ 0 → b + n ≤ granules s → b < granules s
      some_low b zero nz le = absurd (nz refl)
      some_low b (suc n) nz le = omega arith

      number : (b : ℕ) → b < granules s → length_word s b ≡ first_cell s + 2 * b + 1
      number b lt = let e : nat_lt b (granules s) ≡ true = grind (arith, nat_tests) in rw e refl

      above : (b : ℕ) → b < granules s → first_cell s + 2 * b ≤ length_word s b
      above b lt = let e = number b lt in omega arith

      below : (b : ℕ) → b < granules s → st.heap.size b ≢ 0 → length_word s b < first_cell s + 2 * (b + st.heap.size b)
      below b lt nz = by (st.heap.size b) nz
        where
          by : (n : ℕ) → n ≢ 0 → length_word s b < first_cell s + 2 * (b + n)
          by zero z = absurd (z refl)
          by (suc n) z = let e = number b lt in omega arith
  to_free r layout site _ is at h = Same (λ v. refl)

  spawn_low : (n : ℕ) → (g.threads t).own.stage ≡ Names n → (r f : ℕ) (from : Register) (site : ℕ) → instr_at code (g.threads t).at.pc ≡ Instr.Spawn r f from site → n < THREADS
  spawn_low n e r f from site is = (subst (StageStands code s st.elements world st.heap g.words t m (Instr.Spawn r f from site)) e (subst (λ i. StageStands code s st.elements world st.heap g.words t m i m.own.stage) is rn.stage)).few

  hand_low : (n : ℕ) → (g.threads t).own.stage ≡ Hands n → (r f : ℕ) (from : Register) (site : ℕ) → instr_at code (g.threads t).at.pc ≡ Instr.Spawn r f from site → n < THREADS
  hand_low n e r f from site is = (subst (StageStands code s st.elements world st.heap g.words t m (Instr.Spawn r f from site)) e (subst (λ i. StageStands code s st.elements world st.heap g.words t m i m.own.stage) is rn.stage)).0.few

  begin_low : (n : ℕ) → (g.threads t).own.stage ≡ Begins n → (r f : ℕ) (from : Register) (site : ℕ) → instr_at code (g.threads t).at.pc ≡ Instr.Spawn r f from site → n < THREADS
  begin_low n e r f from site is = (subst (StageStands code s st.elements world st.heap g.words t m (Instr.Spawn r f from site)) e (subst (λ i. StageStands code s st.elements world st.heap g.words t m i m.own.stage) is rn.stage)).0.few

  -- what was loaded is live
  live_pending : (r : ℕ) → (hold : OnHold (g.threads t).own.stage) → instr_at code (g.threads t).at.pc ≡ Instr.RaiseLoaded r → (g.threads t).pending ≢ 0 → (world.obj (g.threads t).pending).live ≡ true
  live_pending r hold is nz =
      let f = subst (Fine x code ls m.at.pc here) is (wt.fine m.at.pc) in
      let win : world.win t ≡ IsLoaded (base_of_cell m f.1.0) (number_in m f.1.0) m.pending = subst (GateStands s world t m) f.1.3 (gate x code s ls wt fits g world st t on hold) in
      let ok = subst (WinOk (lang_of x) world t) win (st.inv.wins t) in
      subst (λ p. (world.obj p).live ≡ true) ok.1 (live_slot x code s ls wt fits g world st (CellOf (base_of world t (base_of_cell m f.1.0)) (number_in m f.1.0)) (λ z. nz (sym ok.1 ∙ z)))

  -- the fields that accesses are to
  fine_of : (i : Instr) → instr_at code (g.threads t).at.pc ≡ i → Fine x code ls (g.threads t).at.pc here i
  fine_of i is = subst (Fine x code ls m.at.pc here) is (wt.fine m.at.pc)

  to_cell : (c : Cell) (f : Field) (op : WordOp) → OnHold (g.threads t).own.stage → HasCell x code here c f → Change x code ls (g.threads t) c f → Touching (step_of (word s (g.threads t) c) op)
  to_cell c f op hold k why = OnCell c f hold k why refl

  by_instr : (i : Instr) → instr_at code (g.threads t).at.pc ≡ i → Turns (act code s i (g.threads t))
  by_instr (Instr.Bounds r base count field site) is = Same (λ v. refl)
  by_instr (Instr.ChkRead c site) is = of_shadow _ _
  by_instr (Instr.ChkWrite c site) is = of_shadow _ _
  by_instr (Instr.Load r c site) is = Same (λ v. refl)
  by_instr (Instr.Store r c site) is = let i = Instr.Store r c site in let f = fine_of i is in to_cell c f.0 _ (rest i is refl) f.2.cell (ByWrite (ap written_cell is) site f.2)
  by_instr (Instr.LoadRef c site) is = Same (λ v. refl)
  by_instr (Instr.Exchange r c site) is = let i = Instr.Exchange r c site in let f = fine_of i is in to_cell c f.1.0 _ (rest i is refl) f.1.2.cell (ByWrite (ap written_cell is) site f.1.2)
  by_instr (Instr.Raise r from) is = let hold = rest (Instr.Raise r from) is refl in
      to_raise (ref m from) (goes (set_ref m r (ref m from))) (live_in_register (m.at.refs + from) hold)
  by_instr (Instr.RaiseLoaded r) is = let hold = rest (Instr.RaiseLoaded r) is refl in
      to_raise m.pending (goes (accessed (set_ref m r m.pending))) (live_pending r hold is)
  by_instr (Instr.Lower r) is = let hold = rest (Instr.Lower r) is refl in
      to_lower (ref m r) (goes (set_ref m r 0)) (live_in_register (m.at.refs + r) hold)
  by_instr (Instr.New r count cells site) is = to_new r count cells site m.own.stage (subst (λ i. StageStands code s st.elements world st.heap g.words t m i m.own.stage) is rn.stage)
  by_instr (Instr.TakeCell r c site) is = let i = Instr.TakeCell r c site in let f = fine_of i is in to_cell c f.1.0 _ (rest i is refl) f.1.2.cell (ByWrite (ap written_cell is) site f.1.2)
  by_instr (Instr.TakeLocal r from site) is = let hold = rest (Instr.TakeLocal r from site) is refl in
      to_test (ref m from) (goes (move_ref m r from)) (live_in_register (m.at.refs + from) hold)
  by_instr (Instr.TestSole r site) is =
      let hold = rest (Instr.TestSole r site) is refl in
      let f = fine_of (Instr.TestSole r site) is in
      of_count (ref m r) _ (live_ref x code s ls wt fits g world st t on hold r (known_ref x code s ls wt fits g world st t on hold r f.2))
  by_instr (Instr.Clear r cells) is = to_clear m (ref m r) cells m.own.stage
  by_instr (Instr.Give r site) is =
      let hold = rest (Instr.Give r site) is refl in
      let f = fine_of (Instr.Give r site) is in
      of_count (ref m r) _ (live_ref x code s ls wt fits g world st t on hold r (sole_ref x code s ls wt fits g world st t on hold r true f.0))
  by_instr (Instr.Free r layout site) is = to_free r layout site m.own.stage is refl (subst (λ i. StageStands code s st.elements world st.heap g.words t m i m.own.stage) is rn.stage)
  by_instr (Instr.Lock c site) is = let i = Instr.Lock c site in let f = fine_of i is in to_cell c f.2.0 _ (rest i is refl) f.2.1 (ByLock (ap is_mutex f.2.2))
  by_instr (Instr.Unlock r c site) is = let i = Instr.Unlock r c site in let f = fine_of i is in to_cell c f.2.0 _ (rest i is refl) f.2.1 (ByLock (ap is_mutex f.2.2))
  by_instr (Instr.Spawn r f from site) is = to_spawn m r f from site m.own.stage (λ n e. spawn_low n e r f from site is) (λ n e. hand_low n e r f from site is) (λ n e. begin_low n e r f from site is)
  by_instr (Instr.Join r site) is = to_join m (int m r) site
  by_instr (Instr.Print r site) is = Low (omega arith)
  by_instr (Instr.Start site) is = to_start m site m.own.stage
  by_instr Instr.Exit is = to_exit m m.own.stage low_number
  by_instr (Instr.CondEnter c site) is = let i = Instr.CondEnter c site in let f = fine_of i is in to_cell c f.1.0 _ (rest i is refl) f.1.1 (ByWaiter (ap waited_cell is) f.1.2)
  by_instr (Instr.CondWait c site) is = Same (λ v. refl)
  by_instr (Instr.CondSignal c site) is = let f = fine_of (Instr.CondSignal c site) is in
      to_signal m (word s m c) m.own.stage (λ op. to_cell c f.1.0 op (signal_hold m.own.stage (subst (λ i. StageStands code s st.elements world st.heap g.words t m i m.own.stage) is rn.stage)) f.1.1 (ByWaiter (ap waited_cell is) f.1.2))
    where
      signal_hold : (stage : Stage) → StageStands code s st.elements world st.heap g.words t (g.threads t) (Instr.CondSignal c site) stage → OnHold stage
      signal_hold (Links all) h = absurd h
      signal_hold _ h = tt
  by_instr (Instr.CondBroadcast c site) is = let i = Instr.CondBroadcast c site in let f = fine_of i is in to_cell c f.1.0 _ (rest i is refl) f.1.1 (ByWaiter (ap waited_cell is) f.1.2)
  by_instr _ is = tt

  pub touches : Turns (turn code s (g.threads t))
  touches = by_instr (instr_at code m.at.pc) refl
