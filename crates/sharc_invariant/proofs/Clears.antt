-- The granules of an object that a thread has alone are cleared.
use Rattle.sharc_invariant.proofs.{Imports.{◌≡◌, ℕ, ℤ, zero, suc, ◌+◌, ◌*◌, ◌/◌, ◌^◌, ◌<◌, ◌≤◌, ◌≢◌, Bool, true, false, List, Some, None, refl, sym, ap, ◌∙◌, subst, ⊎_elim, arith, cases_eq, length-set, fun_ext, length, slice_index, slice_set, min, ◌==◌, THREADS, ShadowLaws, epoch_of, cleared_of, Code, Shape, Stage, Rests, Looks, Clears, granules, first_cell, Machine, instr_at, ref, largest, Turn, Global, put, MayTurn, one_thread, bounds, Instr, put_same, put_other, put_all, GranuleState, Passed, cleared, sum_to, Targets, Gate, Label, Labels, Leads, gated, SoleGate, IsWellTyped, IsUnpassed, RegisterOf, In, Slot, World, Sole, in_ref, WorldInvariant, Heap, Kept, Built, InBlock, lang_of, conc_of, Shows, Reads, staged_of, made_turn, KeepsOthers, State, View, view_of, TopStands, FramesStand, PassStands, GateStands, StageStands, refs_at, size_of_run, suc_times, StaticType, Refers, EntryStands, types_at, ObjectType}, TurnAt.turn_at, Effects.{sole_at, only_slot}, Frames.{Agrees, Low, less_stands, frames_agree}, Accesses.gate_top, Own.runs_at, Quiet.{heap_now, label_held}, Changes.KeepsLow, Walks.{IsWalk, walk_hold, walk_register, walk_state, walked, conc_walked}, Stores.{index_put, arena, MayStore}, Listed.store_ok, Sums.sum_one, Others.loses}

-- ---- numbers
pub cleared_small : (v : ℕ) → cleared_of v < 2 ^ 64
unfolding cleared_of
cleared_small v = omega arith

pub in_cells : (a d : ℕ) → d < (min a largest + 1) / 2 → 2 * d < a
in_cells a d h = omega arith

pub sum_bound : (n c : ℕ) (f : ℕ → ℕ) → ((j : ℕ) → f j ≤ c) → sum_to n f ≤ n * c
sum_bound zero c f h = omega arith
sum_bound (suc n) c f h = let a = sum_bound n c f h in let b = h n in let e = suc_times n c in omega arith

-- one more turn of a thread
pub sum_more : (f : ℕ → ℕ) (t c : ℕ) → t < THREADS → sum_to THREADS (put f t (f t + c)) ≡ sum_to THREADS f + c
sum_more f t c lt =
    let a = sum_one THREADS t f (put f t (f t + c)) lt (λ j ne. put_other f t j (f t + c) ne) in
    let b = put_same f t (f t + c) in
    omega arith

-- the epochs never come round
pub epochs_low : (f : ℕ → ℕ) → ((j : ℕ) → f j ≤ 100000000) → sum_to THREADS f + 1 < 2 ^ 32
epochs_low f h = let a = sum_bound THREADS 100000000 f h in omega arith

-- ---- a granule
pub cleared_reads : (laws : ShadowLaws) (v seen : ℕ) (rn wn : ℕ → ℕ → ℕ) (p : ℕ) (y : GranuleState) → Reads v rn wn p y → epoch_of seen ≡ y.epoch → y.epoch + 1 < 2 ^ 32 → Reads (cleared_of seen) rn wn p (cleared y)
cleared_reads laws v seen rn wn p y r e low =
    let c = laws.clears seen in
    record {
      epoch = (let z : suc y.epoch ≡ epoch_of (cleared_of seen) = omega arith in z);
      wrote = sym c.written;
      has = λ u. sym (c.threads u);
      read_note = r.read_note;
      write_note = r.write_note;
    }

-- a word is stored, a shadow word also with another epoch
pub part_words : (x : Targets) (code : Code) (s : Shape) (ls : Labels) (g : Global Machine) (world : World) (st : State x code s ls g world) (k v : ℕ) → MayStore s st.heap k → k < length g.words → v < 2 ^ 64
    → KeepsLow g.words (slice_set g.words k v) × Kept (arena s) (record st.heap { words = λ i. slice_index (slice_set g.words k v) i })
part_words x code s ls g world st k v may lt small =
    let at = index_put g.words k v lt in
    let kept0 : Kept (arena s) (record st.heap { words = put st.heap.words k v }) = store_ok (arena s) st.heap st.heap_stands.kept k v may.below may.listed in
    let f : put st.heap.words k v ≡ (λ i. slice_index (slice_set g.words k v) i) = fun_ext (λ i. ap (λ (h : ℕ → ℕ). put h k v i) (fun_ext st.heap_stands.words) ∙ sym (at i)) in (
      record {
        count = length-set g.words k v;
        low = λ j l _. at j ∙ put_other (λ i. slice_index g.words i) k j v (λ e. let h = may.high in omega arith);
        are_words = λ j. subst (λ n. n < 2 ^ 64) (sym (at j)) (put_all (λ j y. y < 2 ^ 64) (λ i. slice_index g.words i) k v small (λ j _. st.are_words j) j);
      },
      subst (λ h. Kept (arena s) (record st.heap { words = h })) f kept0,
    )

-- ---- the stages
pub clear_cases : (code : Code) (s : Shape) (elements : ℕ → ℕ) (w : World) (heap : Heap) (words : List ℕ) (t : ℕ) (m : Machine) (r n : ℕ) (C : Stage → Type 0) → C Rests
    → ((done all : ℕ) → StageStands code s elements w heap words t m (Instr.Clear r n) (Looks done all) → C (Looks done all))
    → ((done all seen : ℕ) → StageStands code s elements w heap words t m (Instr.Clear r n) (Clears done all seen) → C (Clears done all seen))
    → (y : Stage) → StageStands code s elements w heap words t m (Instr.Clear r n) y → C y
clear_cases code s elements w heap words t m r n C a b c Rests h = a
clear_cases code s elements w heap words t m r n C a b c (Looks done all) h = b done all h
clear_cases code s elements w heap words t m r n C a b c (Clears done all seen) h = c done all seen h
clear_cases code s elements w heap words t m r n C a b c _ h = absurd h

-- the object that a thread walks over, which a register has alone
pub record Walked (world : World) (m : Machine) (r o : ℕ) : Type 0 where
  pub reads : ref m r ≡ o
  pub nz : o ≢ 0
  pub is_live : (world.obj o).live ≡ true

module _ (x : Targets) (code : Code) (s : Shape) (ls : Labels) (wt : IsWellTyped x code ls) (g : Global Machine) (world : World) (st : State x code s ls g world) (tr : Turn)
    (may : MayTurn bounds (one_thread code s) g tr) (walk : IsWalk (g.threads tr.thread).own.stage) (begun : ((g.threads tr.thread).at.pc == 0) ≡ false)
    (r : ℕ) (win : world.win tr.thread ≡ Sole ((g.threads tr.thread).at.refs + r)) (unpassed : IsUnpassed (ls.at (g.threads tr.thread).at.pc) r) where
  open turn_at st tr use {t, m, here, base, view}

  abbrev pub object : ℕ
  object = in_ref world (RegisterOf tr.thread ((g.threads tr.thread).at.refs + r))

  abbrev names : ℕ → ℤ
  names = ((st.threads tr.thread).runs may.started may.next.runs).names

  pub walk_top : TopStands x tr.thread view (g.threads tr.thread).at.refs (g.threads tr.thread).at.ints names here
  walk_top = subst (TopStands x t view base m.at.ints names) (label_held here (instr_at code m.at.pc) m.own.stage (walk_hold m.own.stage walk)) ((st.threads t).runs may.started may.next.runs).top

  pub alone : (q : Slot) → (q ≡ In (RegisterOf tr.thread ((g.threads tr.thread).at.refs + r)) → ⊥) → (world.slots q).reference ≡ object → ⊥
  alone = only_slot (size_of_run code s) (lang_of x) world st.inv t (base + r) win

  pub walks_over : Walked world (g.threads tr.thread) r object
  walks_over =
      let some = (sole_at (size_of_run code s) (lang_of x) world st.inv t (base + r) win).0 in
      record {
        reads = sym (st.sim.regs t (base + r) ∙ walk_register x code s ls wt g world st t may.started may.next.runs begun walk (base + r));
        nz = some;
        is_live = (st.inv.words.fits (In (RegisterOf t (base + r))) some).live;
      }

  pub walked_target : (ty : StaticType) → (ls.at (g.threads tr.thread).at.pc).env r ≡ Refers ty → (world.obj object).ty.target ≡ ty.target
  walked_target ty known =
      let typed = subst (EntryStands (refs_at view base) (types_at view base) r) known ((walk_top (suc r) 0).env r (omega arith)) walks_over.nz in
      ap (λ (y : ObjectType). y.target) (st.inv.words.fits (In (RegisterOf t (base + r))) walks_over.nz).typed ∙ ap (λ (y : ObjectType). y.target) typed

  -- where granules of the object change alone, and the words are these
  module _ (G : ℕ → ℕ → GranuleState) (off : (q h : ℕ) → (q ≡ object → ⊥) → G q h ≡ world.gran q h) (words : List ℕ) (kw : KeepsLow g.words words)
      (kept : Kept (record { first = 1 + s.globals; words = first_cell s }) (record st.heap { words = λ i. slice_index words i }))
      (within : (u b j : ℕ) → st.heap.state b ≡ Built u → InBlock (record { first = 1 + s.globals; words = first_cell s }) st.heap b j → slice_index words j ≡ slice_index g.words j)
      (inv : WorldInvariant (size_of_run code s) (lang_of x) (record world { gran = G })) (sim : Shows x s st.cells st.elements (record (conc_of code g) { words = λ j. slice_index words j }) (record world { gran = G }))
      (epochs : (i : ℕ) → i < granules s → epoch_of (slice_index words (97 + i)) ≤ sum_to THREADS (put g.made tr.thread (g.made tr.thread + 1))) where
    abbrev pub world' : World
    world' = record world { gran = G }

    abbrev view' : View
    view' = view_of st.elements (record world { gran = G }) tr.thread (g.threads tr.thread)

    -- another object
    kept_pass : (q h u : ℕ) (b : Bool) → (q ≡ object → ⊥) → Passed (world.gran q h) u b → Passed (G q h) u b
    kept_pass q h u b ne z = subst (λ y. Passed y u b) (sym (off q h ne)) z

    others : KeepsOthers s world world' st.heap (heap_now st.heap words) g.words words tr.thread
    others = record {
      regs = λ u _ q. refl;
      win = λ u _. refl;
      passed = λ u ne q h b c z. kept_pass q h u b
          (⊎_elim (λ (e : q ≡ 0) k. walks_over.nz (sym k ∙ e)) (λ c k. alone (In (RegisterOf u c.0)) (λ z. ne (cc)) (c.1.0 ∙ k)) c) z;
      sole = λ u ne q e h. loses (off (in_ref world (RegisterOf u q)) h (λ k. alone (In (RegisterOf u q)) (λ z. ne (cc)) k));
      cells = λ u _ q _ n. refl;
      built = λ u _ b e. (e, refl);
      within = λ u _ b e j n. within u b j e n;
    }

    top' : TopStands x tr.thread view' (g.threads tr.thread).at.refs (g.threads tr.thread).at.ints names here
    top' a b =
        let h = walk_top a b in
        record {
          env = h.env;
          same = h.same;
          known = h.known;
          numbers = h.numbers;
          passed = λ p w.
              elim p.base as (λ c. p.base ≡ c → PassStands world.gran t (refs_at view base) p c → PassStands G t (refs_at view base) p c) [
                | None ↦ λ e k. kept_pass 0 (p.cell / 2) t p.write (λ z. walks_over.nz (sym z)) k
                | Some c ↦ λ e k nz. kept_pass (refs_at view base c) (p.cell / 2) t p.write
                    (λ z. ⊎_elim (λ (q : c ≡ r). unpassed p w (e ∙ ap (λ c. Some c) q)) (λ (ne : c ≡ r → ⊥). alone (In (RegisterOf t (base + c))) (λ y. ne (let q : base + c ≡ base + r = cc in omega arith)) z) (cases_eq c r)) (k nz)
              ] refl (h.passed p w);
        }

    below' : (pc : ℕ) (y : Stage) → FramesStand x code ls tr.thread view' (walked x code s ls wt g world st tr.thread may.started may.next.runs begun walk pc y) here.function
    below' pc y =
        let m' = walked x code s ls wt g world st t may.started may.next.runs begun walk pc y in
        let a : Agrees t view view' (Low base) (Low m.at.ints) = record {
          refs = λ j _. refl;
          types = λ j _. refl;
          vals = λ j _. refl;
          elements = λ j _. refl;
          passed = λ q h b c z. kept_pass q h t b
              (⊎_elim (λ (e : q ≡ 0) k. walks_over.nz (sym k ∙ e))
              (λ (c : (i : ℕ) × (Low base i × ((view.refs i ≡ q) × (q ≢ 0)))) k. alone (In (RegisterOf t c.0)) (λ y. let q : c.0 ≡ base + r = cc in let lt : c.0 < base = c.1.0 in omega arith) (c.1.1.0 ∙ k)) c) z;
        } in
        frames_agree x code ls t view view' m m' a refl refl refl refl here.function ((st.threads t).runs may.started may.next.runs).below

    -- it stays, at a stage
    pub stays_on : (y : Stage) → IsWalk y → staged_of y ≡ staged_of (g.threads tr.thread).own.stage → StageStands code s st.elements world' (heap_now st.heap words) words tr.thread (g.threads tr.thread) (instr_at code (g.threads tr.thread).at.pc) y → g.made tr.thread + 1 ≤ 100000000
        → State x code s ls (made_turn g tr.thread words (walked x code s ls wt g world st tr.thread may.started may.next.runs begun walk (g.threads tr.thread).at.pc y)) world'
    stays_on y wy same stage few =
        let rn = (st.threads t).runs may.started may.next.runs in
        let i = instr_at code m.at.pc in
        let hl = label_held here i y (walk_hold y wy) in
        let gt : GateStands s world t m here.gate = subst (λ (l : Label). GateStands s world t m l.gate) (label_held here i m.own.stage (walk_hold m.own.stage walk)) rn.gate in
        walk_state x code s ls wt g world st t may.started may.next.runs begun walk m.at.pc y wy begun words kw world' kept refl refl others (λ u. refl) inv
        (subst (λ c. Shows x s st.cells st.elements c world') (sym (conc_walked x code s ls wt g world st t may.started may.next.runs begun walk m.at.pc y wy begun words kw same)) sim) epochs
        (record {
          names = rn.names;
          top = subst (TopStands x t view' base m.at.ints names) (sym hl) top';
          below = below' m.at.pc y;
          gate = subst (λ (l : Label). GateStands s world' t (walked x code s ls wt g world st t may.started may.next.runs begun walk m.at.pc y) l.gate) (sym hl) (moved_gate here.gate gt);
          stage = stage;
          room = rn.room;
        }) few
      where
        moved_gate : (k : Gate) → GateStands s world tr.thread (g.threads tr.thread) k → GateStands s world' tr.thread (walked x code s ls wt g world st tr.thread may.started may.next.runs begun walk (g.threads tr.thread).at.pc y) k
        moved_gate k h = h

    -- it goes on
    pub goes_on : (c : Bool) → staged_of (g.threads tr.thread).own.stage ≡ 0 → Leads ls ((g.threads tr.thread).at.pc + 1) (gated here (SoleGate r true)) → (((g.threads tr.thread).at.pc + 1 == 0) ≡ false) → g.made tr.thread + 1 ≤ 100000000
        → State x code s ls (made_turn g tr.thread words (walked x code s ls wt g world st tr.thread may.started may.next.runs begun walk ((g.threads tr.thread).at.pc + 1) Rests)) world'
    goes_on c none' leads begun' few =
        let pc = m.at.pc + 1 in
        let m' = walked x code s ls wt g world st t may.started may.next.runs begun walk pc Rests in
        walk_state x code s ls wt g world st t may.started may.next.runs begun walk pc Rests tt begun' words kw world' kept refl refl others (λ u. refl) inv
        (subst (λ c. Shows x s st.cells st.elements c world') (sym (conc_walked x code s ls wt g world st t may.started may.next.runs begun walk pc Rests tt begun' words kw (sym none'))) sim) epochs
        (runs_at x code s ls st.elements world' (heap_now st.heap words) (made_turn g t words m') t m' names refl
        (less_stands x t view' base m.at.ints names (gated here (SoleGate r true)) (ls.at pc) leads (gate_top x t view' base m.at.ints names here (SoleGate r true) top'))
        (subst (FramesStand x code ls t view' m') (sym leads.function) (below' pc Rests))
        (subst (GateStands s world' t m') (sym leads.gate) win)
        (λ q. ((st.threads t).runs may.started may.next.runs).room (leads.room q))) few
