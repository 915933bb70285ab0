-- What a turn of typed code finds is consistent.
use Rattle.sharc_history_laws.proofs.{Imports.{◌≡◌, ℕ, zero, suc, ◌+◌, ◌*◌, ◌/◌, ◌<◌, ◌≤◌, ◌≢◌, true, false, Some, refl, sym, ap, ◌∙◌, subst, ⊎_elim, arith, mul-le-mul_right, cases_eq, cases_lt, nat_tests, All-contains_itself, slice_index, slice_index_or, nat_lt, ◌==◌, THREADS, WordStep, NewStage, NewView, Code, Parameter, Cell, Instr, Shape, Stage, Rests, Makes, Enters, word_of, Fits, granules, first_cell, cell_of, length_word, function_word, argument_word, state_word, Machine, act, instr_at, ref, int, place, object, word, is_held, is_of_null, function_of, turn, asked_by, IsInGlobal, Global, Elements, IsNumber, IsApart, IsThere, IsMutex, IsLock, IsFree, IsHeld, IsLength, IsNewIn, IsNewAt, IsArgument, IsArgumentAt, MayFind, Targets, ObjectType, Field, FieldType, Content, cells_of, field_in, is_pointer, is_mutex, type_at, Loaded, OfGlobal, Labels, IsWellTyped, Fine, HasField, HasCell, PointsToMutex, RegisterOf, ArgumentOf, In, Slot, CellOf, IsLoaded, World, WinOk, in_ref, length_at, lang_of, if_reference, is_unread, argument_of, Built, Live, State, Runs, StageStands, GateStands, NumberStands, BuildsAt, OnHold, object_of_cell, number_in, base_of_cell, refs_at, types_at, IsOn, CellsAreThere, not_true, lt_of_le-ne, single}, TurnAt.thread_at, Gates.{LoadedStands, no_pending}, Single.rests_hold, Stands.{register_is, live_slot, live_low, top, gate, known_ref, some_base, there, live_ref, target_ref}}
use Rattle.sharc_invariant.specs.{Types.Content.Pointer, Words.cell_at}

module _ (there_laws : CellsAreThere) (x : Targets) (code : Code) (s : Shape) (ls : Labels) (wt : IsWellTyped x code ls) (fits : Fits code s) (g : Global Machine) (world : World) (st : State x code s ls g world) where
  -- what a slot holds has a number of 32 bits
  pub low_slot : (a : Slot) → IsNumber (world.slots a).reference
  low_slot a = ⊎_elim
      (λ (z : (world.slots a).reference ≡ 0). omega arith)
      (λ (nz : (world.slots a).reference ≡ 0 → ⊥). let lt = live_low x code s ls wt fits g world st (world.slots a).reference (live_slot x code s ls wt fits g world st a nz) in omega arith)
      (cases_eq (world.slots a).reference 0)

  -- no two live objects share a cell's word
  pub same_object : (o p i j : ℕ) → (world.obj o).live ≡ true → (world.obj p).live ≡ true → i < st.cells o → j < st.cells p → cell_at s o i ≡ cell_at s p j → o ≡ p
  same_object o p i j lo lp lt lu e = ⊎_elim
      (λ (same : o ≡ p). same)
      (λ (ne : o ≡ p → ⊥). ⊎_elim
      (λ (less : o < p). let a = st.apart.apart o p lo lp less in absurd (omega arith))
      (λ (ge : p ≤ o). let a = st.apart.apart p o lp lo (lt_of_le-ne ge (λ z. ne (sym z))) in absurd (omega arith))
      (cases_lt o p))
      (cases_eq o p)

  -- a mutex shares its word with none of another object that a thread holds
  pub is_apart : (t o j : ℕ) → (world.obj o).live ≡ true → j < st.cells o → IsApart s (g.threads t).own.held o (2 * (o + 1) + j)
  is_apart t o j live lt =
      let held = (g.threads t).own.held in
      record {
        inside = let a = st.apart.within o (j / 2) live (omega arith) in omega arith;
        apart = λ k d low e.
            let h = slice_index_or held k d in
            let q = st.locks.logged t h (All-contains_itself held k d low) in
            same_object h.object o q.0 j q.1.1 live q.1.2 lt (sym q.1.0 ∙ e ∙ (let z : first_cell s + (2 * (o + 1) + j) ≡ cell_at s o j = omega arith in z));
      }

  module _ (t : ℕ) (on : IsOn g t) where
    open thread_at st t use {m, here}

    abbrev rn : Runs x code s ls st.elements world st.heap g t (g.threads t)
    rn = (st.threads t).runs on.0 on.1

    rest : (i : Instr) → instr_at code (g.threads t).at.pc ≡ i → single i ≡ true → OnHold (g.threads t).own.stage
    rest i is one = rests_hold code s st.elements world st.heap g.words t m i m.own.stage one (subst (λ i. StageStands code s st.elements world st.heap g.words t m i m.own.stage) is rn.stage)

    fine : (i : Instr) → instr_at code (g.threads t).at.pc ≡ i → Fine x code ls (g.threads t).at.pc here i
    fine i is = subst (Fine x code ls m.at.pc here) is (wt.fine m.at.pc)

    -- ---- cells
    number_cell : (hold : OnHold (g.threads t).own.stage) (c : Cell) (f : Field) → HasCell x code here c f → is_pointer f.holds ≡ true → IsNumber (slice_index g.words (word s (g.threads t) c))
    number_cell hold c f k ptr =
        let th = there x code s ls wt fits g world st t on hold there_laws c f k in
        let o = object_of_cell m c in
        let j = number_in m c in
        let slot : (world.slots (CellOf o j)).reference ≡ slice_index g.words (cell_at s o j) = st.sim.pointers o j th.live th.number (ap (λ (f : Field). is_pointer f.holds) th.field ∙ ptr) in
        subst IsNumber (slot ∙ ap (slice_index g.words) (sym th.word_is)) (low_slot (CellOf o j))

    positive : (n : ℕ) → (n == 0) ≡ false → 0 < n
    positive n e = ⊎_elim (λ (z : n ≡ 0). absurd (let f : (n == 0) ≡ true = ap (λ k. k == 0) z in cc)) (λ (ne : n ≡ 0 → ⊥). above n ne) (cases_eq n 0)
      where
        above : (n : ℕ) → (n ≡ 0 → ⊥) → 0 < n
        above zero ne = absurd (ne refl)
        above (suc k) ne = omega arith

    pub is_there : (hold : OnHold (g.threads t).own.stage) (c : Cell) (f : Field) → HasField x code here c f → is_of_null (g.threads t) c ≡ false → IsThere code (g.threads t) c
    is_there hold (Cell.Global h p) f k some = let q = k.0 in record { known = q.is; low = q.from; high = q.until }
    is_there hold (Cell.GlobalAt h i) f k some =
        let nm : NumberStands x st.elements (refs_at (Rattle.sharc_invariant.specs.State.view_of st.elements world t m) m.at.refs) (types_at (Rattle.sharc_invariant.specs.State.view_of st.elements world t m) m.at.refs) rn.names (int m i) (OfGlobal k.0 k.1 k.2 k.3) =
        subst (NumberStands x st.elements (refs_at (Rattle.sharc_invariant.specs.State.view_of st.elements world t m) m.at.refs) (types_at (Rattle.sharc_invariant.specs.State.view_of st.elements world t m) m.at.refs) rn.names (int m i)) k.4 ((top x code s ls wt fits g world st t on hold 0 (suc i)).numbers i (omega arith)) in
        let p = k.0 + nm.0 * k.1 in
        let q = (k.5 nm.0 nm.1).0 in
        let pl : word_of (int m i) ≡ p = ap word_of nm.2 in
        subst (IsInGlobal code.globals.items h) (sym pl) (record { known = q.is; low = q.from; high = q.until })
    is_there hold (Cell.Object r i) f k some = positive (ref m r) some
    is_there hold (Cell.ObjectAt r i) f k some = positive (ref m r) some

    pub object_is : (c : Cell) → object (g.threads t) c ≡ object_of_cell (g.threads t) c
    object_is (Cell.Global h p) = refl
    object_is _ = refl

    pub mutex_at : (hold : OnHold (g.threads t).own.stage) (c : Cell) (f : Field) → HasField x code here c f → is_of_null (g.threads t) c ≡ false → IsMutex code s (g.threads t) c
    mutex_at hold c f k some =
        let th = there_laws x code s ls wt fits g world st t on hold c f k some in
        let o = object_of_cell m c in
        record {
          there = is_there hold c f k some;
          apart = subst (λ n. IsApart s m.own.held n (place m c)) (sym (object_is c)) (subst (IsApart s m.own.held o) (sym th.place_is) (is_apart t o (number_in m c) th.live th.number));
        }

    pub mutex_cell : (hold : OnHold (g.threads t).own.stage) (c : Cell) (f : Field) → HasCell x code here c f → IsMutex code s (g.threads t) c
    mutex_cell hold c f k = mutex_at hold c f k.field (some_base x code s ls wt fits g world st t on hold c k.base)

    some_ref : (r : ℕ) → 0 < ref (g.threads t) r → (ref (g.threads t) r == 0) ≡ false
    some_ref r lt = grind (arith, nat_tests)

    lock_at : (hold : OnHold (g.threads t).own.stage) (c : Cell) (f : Field) → HasField x code here c f → IsLock code s (g.threads t) c
    lock_at hold (Cell.Global h p) f k = mutex_at hold (Cell.Global h p) f k refl
    lock_at hold (Cell.GlobalAt h i) f k = mutex_at hold (Cell.GlobalAt h i) f k refl
    lock_at hold (Cell.Object r i) f k = λ lt. mutex_at hold (Cell.Object r i) f k (some_ref r lt)
    lock_at hold (Cell.ObjectAt r i) f k = λ lt. mutex_at hold (Cell.ObjectAt r i) f k (some_ref r lt)

    -- the mutex to which a pointer that was loaded refers
    pub pending_apart : (hold : OnHold (g.threads t).own.stage) (c : Cell) (f : Field) → world.win t ≡ IsLoaded (base_of_cell (g.threads t) c) (number_in (g.threads t) c) (g.threads t).pending → HasCell x code here c f → PointsToMutex x f
        → 0 < (g.threads t).pending → IsApart s (g.threads t).own.held (g.threads t).pending (cell_of (g.threads t).pending 0)
    pending_apart hold c f win k points lt =
        let th = there x code s ls wt fits g world st t on hold there_laws c f k in
        let o = object_of_cell m c in
        let j = number_in m c in
        let v = m.pending in
        let ok : WinOk (lang_of x) world t (IsLoaded (base_of_cell m c) j v) = subst (WinOk (lang_of x) world t) win (st.inv.wins t) in
        let slot : (world.slots (CellOf o j)).reference ≡ v = ap (λ o. (world.slots (CellOf o j)).reference) (sym th.base) ∙ ok.1 in
        let some : (world.slots (CellOf o j)).reference ≢ 0 = λ z. let e : v ≡ 0 = sym slot ∙ z in omega arith in
        let fit = st.inv.words.fits (CellOf o j) some in
        let live : (world.obj v).live ≡ true = subst (λ n. (world.obj n).live ≡ true) slot fit.live in
        let ty : (world.obj v).ty ≡ type_at x (world.obj o).ty o j = subst (λ n. (world.obj n).ty ≡ type_at x (world.obj o).ty o j) slot (fit.typed ∙ st.inv.words.cells o j th.live) in
        let target : (world.obj v).ty.target ≡ points.to.target = ap (λ (y : ObjectType). y.target) ty ∙ ap (λ (f : Field). (Rattle.sharc_invariant.specs.Types.type_in (world.obj o).ty o j f.holds).target) th.field ∙ ap (λ (h : Content). (Rattle.sharc_invariant.specs.Types.type_in (world.obj o).ty o j h).target) points.holds in
        let nz : v ≢ 0 = λ e. omega arith in
        let whole = st.whole v nz live in
        let size : st.cells v ≡ st.elements v * cells_of x points.to.target = whole.1 ∙ ap (λ k. st.elements v * cells_of x k) target in
        let more : 1 * cells_of x points.to.target ≤ st.elements v * cells_of x points.to.target = mul-le-mul_right (cells_of x points.to.target) whole.0 in
        let first = points.some in
        is_apart t v 0 live (omega arith)

    loaded_apart : (hold : OnHold (g.threads t).own.stage) (c : Cell) (f : Field) → here.gate ≡ Loaded c → HasCell x code here c f → PointsToMutex x f → 0 < (g.threads t).pending → IsApart s (g.threads t).own.held (g.threads t).pending (cell_of (g.threads t).pending 0)
    loaded_apart hold c f gt k points lt = pending_apart hold c f (subst (GateStands s world t m) gt (gate x code s ls wt fits g world st t on hold)) k points lt

    -- ---- a New
    fresh_at : (hold : OnHold (g.threads t).own.stage) → (g.threads t).pending ≡ 0 → (v : NewView) (stage : NewStage) → BuildsAt g.words st.heap t v stage → IsNewIn (g.threads t) stage
    fresh_at hold none v (NewStage.Length header) h =
        let built : st.heap.state header ≡ Built t = h.1 in
        let no_live : (world.obj header).live ≡ true → header ≢ 0 → ⊥ = λ live nz. let e : Built t ≡ Live = sym built ∙ (st.heap_stands.live header nz).0 live in cc in
        let nzs : st.heap.size header ≢ 0 = λ z. let e = st.heap_stands.kept.blocks.known header z in let f : Built t ≡ Rattle.sharc_invariant.specs.Blocks.Unused = sym built ∙ e in cc in
        let w = st.heap_stands.kept.blocks.within header nzs in
        let below = st.heap_stands.within in
        let a = wt.globals.few in let b = fits.globals in let c = fits.most in
        record {
          number = omega arith;
          fresh = λ lt has. ⊎_elim
              (λ z. let e : in_ref world (RegisterOf t z.0) ≡ header = register_is x code s ls wt fits g world st t z.0 hold ∙ z.1 in
              no_live (subst (λ o. (world.obj o).live ≡ true) e (live_slot x code s ls wt fits g world st (In (RegisterOf t z.0)) (λ q. let r : header ≡ 0 = sym e ∙ q in omega arith))) (λ q. omega arith))
              (λ (z : m.pending ≡ header). let e : header ≡ 0 = sym z ∙ none in omega arith)
              has;
        }
    fresh_at hold none v _ h = tt

    new_at : (r count cells site : ℕ) → (g.threads t).pending ≡ 0 → (stage : Stage) → (g.threads t).own.stage ≡ stage → StageStands code s st.elements world st.heap g.words t (g.threads t) (Instr.New r count cells site) stage → IsNewAt (g.threads t) stage
    new_at r count cells site none (Makes v) e h = fresh_at (subst OnHold (sym e) tt) none v v.stage h.1
    new_at r count cells site none _ e h = tt

    -- ---- the beginning of a thread
    low_t : t < THREADS
    low_t = st.begins.few t on.0

    unread_is : (stage : Stage) → (g.threads t).own.stage ≡ stage → Rattle.sharc_invariant.specs.Words.is_first stage ≡ true → (g.threads t).at.pc ≡ 0 → slice_index g.words (state_word t) ≡ 1
    unread_is stage e first pc =
        let a : (m.at.pc == 0) ≡ true = ap (λ n. n == 0) pc in
        let b : Rattle.sharc_invariant.specs.Words.is_first m.own.stage ≡ true = ap Rattle.sharc_invariant.specs.Words.is_first e ∙ first in
        st.firsts.unread t low_t on.0 (rw (a, b, is_unread) refl)

    start_pc : (site : ℕ) → instr_at code (g.threads t).at.pc ≡ Instr.Start site → (g.threads t).at.pc ≡ 0
    start_pc site is = ⊎_elim (λ (z : m.at.pc ≡ 0). z) (λ z. let e : Instr.Start site ≡ Instr.Exit = sym is ∙ z in absurd (cc)) (wt.placed m.at.pc (fine (Instr.Start site) is).1)

    argument_low : (function : ℕ) → (p : Parameter) → (function_of code function).parameter ≡ p → slice_index g.words (function_word t) ≡ function → slice_index g.words (state_word t) ≡ 1 → is_unread (g.threads t) ≡ true
        → (found : ℕ) → found ≡ slice_index g.words (argument_word t) → IsArgument p found
    argument_low function Parameter.Reference e is one unread found found_is =
        let a : nat_lt t THREADS ≡ true = let lt = low_t in grind (arith, nat_tests) in
        let b : (slice_index g.words (state_word t) == 1) ≡ true = ap (λ n. n == 1) one in
        let par : (function_of code (slice_index g.words (function_word t))).parameter ≡ Parameter.Reference = ap (λ f. (function_of code f).parameter) is ∙ e in
        let q : argument_of code g t ≡ slice_index g.words (argument_word t) = rw (a, b, unread, argument_of) (ap (λ p. if_reference p (slice_index g.words (argument_word t))) par) in
        subst IsNumber (st.sim.args t ∙ q ∙ sym found_is) (low_slot (In (ArgumentOf t)))
    argument_low function Parameter.None e is one unread found found_is = tt
    argument_low function Parameter.Int e is one unread found found_is = tt

    module _ (T : Elements) (tab : (o : ℕ) → o ≢ 0 → (world.obj o).live ≡ true → T o ≡ slice_index g.words (length_at s o)) (pend : LoadedStands ls (g.threads t))
        (found : ℕ) (is_found : (step : WordStep) → asked_by (turn code s (g.threads t)) ≡ Some step → found ≡ slice_index g.words step.word) where
      found_at : (i : Instr) → instr_at code (g.threads t).at.pc ≡ i → (step : WordStep) → asked_by (act code s i (g.threads t)) ≡ Some step → found ≡ slice_index g.words step.word
      found_at i is step e = is_found step (ap (λ i. asked_by (act code s i m)) is ∙ e)

      none_loaded : (i : Instr) → instr_at code (g.threads t).at.pc ≡ i → Rattle.sharc_history_laws.proofs.Gates.takes_loaded i ≡ false → (g.threads t).pending ≡ 0
      none_loaded i is e = no_pending x code s ls m i e (fine i is) pend

      -- the length of an object
      length_is : (base cells field : ℕ) → ref (g.threads t) base ≢ 0 → (world.obj (ref (g.threads t) base)).live ≡ true → (world.obj (ref (g.threads t) base)).ty.target ≡ (world.obj (ref (g.threads t) base)).ty.target
          → cells ≡ cells_of x (world.obj (ref (g.threads t) base)).ty.target → field < cells → found ≡ slice_index g.words (length_word s (ref (g.threads t) base)) → IsLength T (ref (g.threads t) base) cells field found
      length_is base cells field nz live same count lt e =
          let o = ref m base in
          let low = st.apart.headers o live in
          let at : length_word s o ≡ length_at s o = let q : nat_lt o (granules s) ≡ true = grind (arith, nat_tests) in rw (q, length_word) refl in
          let found_is : found ≡ slice_index g.words (length_at s o) = e ∙ ap (slice_index g.words) at in
          let el : found ≡ st.elements o = found_is ∙ sym (st.sim.lengths o nz live) in
          let whole = st.whole o nz live in
          let all : found * cells ≡ st.cells o = ap (λ n. n * cells) el ∙ ap (λ c. st.elements o * c) count ∙ sym whole.1 in
          let room = st.heap_stands.room o nz live in
          let nzs : st.heap.size o ≢ 0 = λ z. let q = st.heap_stands.kept.blocks.known o z in let f : Live ≡ Rattle.sharc_invariant.specs.Blocks.Unused = sym ((st.heap_stands.live o nz).0 live) ∙ q in cc in
          let w = st.heap_stands.kept.blocks.within o nzs in
          let top = st.heap_stands.within in
          let a = wt.globals.few in let b = fits.globals in let c = fits.most in
          let more : 1 * cells ≤ found * cells = mul-le-mul_right cells (let q = whole.0 in omega arith) in
          record {
            some = above o nz;
            elements = found_is ∙ sym (tab o nz live);
            few = omega arith;
          }
        where
          above : (n : ℕ) → n ≢ 0 → 0 < n
          above zero ne = absurd (ne refl)
          above (suc k) ne = omega arith

      start_found : (site : ℕ) → instr_at code (g.threads t).at.pc ≡ Instr.Start site → (stage : Stage) → (g.threads t).own.stage ≡ stage → StageStands code s st.elements world st.heap g.words t (g.threads t) (Instr.Start site) stage → IsArgumentAt code stage found
      start_found site is (Enters function) e h =
          let at : (argument_word m.own.number) ≡ argument_word t = ap argument_word (st.threads t).has.number in
          let found_is : found ≡ slice_index g.words (argument_word t) = found_at (Instr.Start site) is (Rattle.sharc_code.specs.Machine.step_of (argument_word m.own.number) Rattle.sharc_word.specs.declared.step.WordOp.TheVariants.Load) (ap (λ y. asked_by (Rattle.sharc_code.specs.Machine.start code m site y)) e) ∙ ap (slice_index g.words) at in
          let pc = start_pc site is in
          let a : (m.at.pc == 0) ≡ true = ap (λ n. n == 0) pc in
          let b : Rattle.sharc_invariant.specs.Words.is_first m.own.stage ≡ true = ap Rattle.sharc_invariant.specs.Words.is_first e in
          argument_low function (function_of code function).parameter refl h (unread_is (Enters function) e refl pc) (rw (a, b, is_unread) refl) found found_is
      start_found site is Rests e h =
          let at : (function_word m.own.number) ≡ function_word t = ap function_word (st.threads t).has.number in
          let found_is : found ≡ slice_index g.words (function_word t) = found_at (Instr.Start site) is (Rattle.sharc_code.specs.Machine.step_of (function_word m.own.number) Rattle.sharc_word.specs.declared.step.WordOp.TheVariants.Load) (ap (λ y. asked_by (Rattle.sharc_code.specs.Machine.start code m site y)) e) ∙ ap (slice_index g.words) at in
          let one = unread_is Rests e refl (start_pc site is) in
          let may = wt.starts (slice_index g.words (function_word t)) (st.begins.function t low_t one) in
          let lt = may.is in omega arith
      start_found site is _ e h = absurd h

      free_at : (c : Cell) (site : ℕ) → instr_at code (g.threads t).at.pc ≡ Instr.Lock c site → found ≡ 0 → IsFree code s (g.threads t) c
      free_at c site is z =
          let i = Instr.Lock c site in
          let f = fine i is in
          let hold = rest i is refl in
          let th = there x code s ls wt fits g world st t on hold there_laws c f.2.0 f.2.1 in
          let o = object_of_cell m c in
          let j = number_in m c in
          let mutex : is_mutex (field_in x (world.obj o).ty j).holds ≡ true = ap (λ (f : Field). is_mutex f.holds) th.field ∙ ap is_mutex f.2.2 in
          let w : world.mutex o j ≡ 0 = st.sim.mutexes o j th.live th.number mutex ∙ ap (slice_index g.words) (sym th.word_is) ∙ sym (found_at i is (Rattle.sharc_code.specs.Machine.step_of (word s m c) (Rattle.sharc_word.specs.declared.step.WordOp.TheVariants.Cas 0 (m.own.number + 1))) refl) ∙ z in
          record {
            mutex = mutex_cell hold c f.2.0 f.2.1;
            other = not_true (is_held m (word s m c)) (λ e. let q : world.mutex o j ≡ suc t = (st.locks.held t o j low_t th.live th.number mutex).1 (ap (is_held m) (sym th.word_is) ∙ e) in omega arith);
            room = rn.room f.1;
          }

      held_at : (r : ℕ) (c : Cell) (site : ℕ) → instr_at code (g.threads t).at.pc ≡ Instr.Unlock r c site → IsHeld code s (g.threads t) c
      held_at r c site is =
          let i = Instr.Unlock r c site in
          let f = fine i is in
          let hold = rest i is refl in
          record {
            mutex = mutex_cell hold c f.2.0 f.2.1;
            own = (subst (GateStands s world t m) f.0 (gate x code s ls wt fits g world st t on hold)).1;
          }

      bounds_at : (r base cells field site : ℕ) → instr_at code (g.threads t).at.pc ≡ Instr.Bounds r base cells field site → IsLength T (ref (g.threads t) base) cells field found
      bounds_at r base cells field site is =
          let i = Instr.Bounds r base cells field site in
          let f = fine i is in
          let hold = rest i is refl in
          let nz = known_ref x code s ls wt fits g world st t on hold base f.3 in
          let live = live_ref x code s ls wt fits g world st t on hold base nz in
          let target = target_ref x code s ls wt fits g world st t on hold base f.4.0 f.4.1 nz in
          length_is base cells field nz live refl (f.4.2 ∙ ap (cells_of x) (sym target)) f.4.3 (found_at i is (Rattle.sharc_code.specs.Machine.step_of (length_word s (ref m base)) Rattle.sharc_word.specs.declared.step.WordOp.TheVariants.Load) refl)

      points : (f : Field) (to : FieldType) → f.holds ≡ Pointer to → is_pointer f.holds ≡ true
      points f to e = ap is_pointer e

      by_instr : (i : Instr) → instr_at code (g.threads t).at.pc ≡ i → MayFind code s T (g.threads t) found i
      by_instr (Instr.Bounds r base cells field site) is = bounds_at r base cells field site is
      by_instr (Instr.LoadRef c site) is =
          let i = Instr.LoadRef c site in
          let f = fine i is in
          subst IsNumber (sym (found_at i is (Rattle.sharc_code.specs.Machine.step_of (word s m c) Rattle.sharc_word.specs.declared.step.WordOp.TheVariants.Load) refl)) (number_cell (rest i is refl) c f.0 f.2.cell (points f.0 f.1 f.3))
      by_instr (Instr.Exchange r c site) is =
          let i = Instr.Exchange r c site in
          let f = fine i is in
          subst IsNumber (sym (found_at i is (Rattle.sharc_code.specs.Machine.step_of (word s m c) (Rattle.sharc_word.specs.declared.step.WordOp.TheVariants.Swap (ref m r))) refl)) (number_cell (rest i is refl) c f.1.0 f.1.2.cell (points f.1.0 f.1.3.to f.1.3.holds))
      by_instr (Instr.TakeCell r c site) is =
          let i = Instr.TakeCell r c site in
          let f = fine i is in
          subst IsNumber (sym (found_at i is (Rattle.sharc_code.specs.Machine.step_of (word s m c) (Rattle.sharc_word.specs.declared.step.WordOp.TheVariants.Swap 0)) refl)) (number_cell (rest i is refl) c f.1.0 f.1.2.cell (points f.1.0 f.1.3.to f.1.3.holds))
      by_instr (Instr.New r count cells site) is = new_at r count cells site (none_loaded (Instr.New r count cells site) is refl) m.own.stage refl (subst (λ i. StageStands code s st.elements world st.heap g.words t m i m.own.stage) is rn.stage)
      by_instr (Instr.Start site) is = start_found site is m.own.stage refl (subst (λ i. StageStands code s st.elements world st.heap g.words t m i m.own.stage) is rn.stage)
      by_instr (Instr.ChkHeld c site) is = let i = Instr.ChkHeld c site in let f = fine i is in mutex_cell (rest i is refl) c f.1.0 f.1.1
      by_instr (Instr.ChkNotHeld c site) is = let i = Instr.ChkNotHeld c site in let f = fine i is in mutex_cell (rest i is refl) c f.1.0 f.1.1
      by_instr (Instr.ChkLock c site) is = let i = Instr.ChkLock c site in let f = fine i is in lock_at (rest i is refl) c f.1.0 f.1.1
      by_instr (Instr.ChkLockLoaded site) is = let i = Instr.ChkLockLoaded site in let f = fine i is in λ lt. loaded_apart (rest i is refl) f.0 f.1 f.2 f.3 f.4 lt
      by_instr (Instr.Lock c site) is = λ z. free_at c site is z
      by_instr (Instr.Unlock r c site) is = held_at r c site is
      by_instr _ is = tt

      pub finds : MayFind code s T (g.threads t) found (instr_at code (g.threads t).at.pc)
      finds = by_instr (instr_at code m.at.pc) refl
