-- The turns of a New before its last: the world stays, and a word of the thread's own block or the top may change.
use Rattle.sharc_invariant.proofs.{Imports.{◌≡◌, ℕ, zero, suc, ◌+◌, ◌^◌, ◌<◌, ◌≤◌, ◌≢◌, Bool, true, false, cond, List, Option, None, Some, refl, sym, ap, ◌∙◌, subst, ⊎_elim, arith, cases_order, length-set, fun_ext, length, slice_index, slice_set, ◌==◌, THREADS, note_of, epoch_of, Kind, Read, Write, Code, Shape, StateOf, RunsOn, Tries, Stopped, Ended, Stop, Stage, Rests, Makes, Fits as FitsShape, granules, top_word, Machine, instr_at, may_go, counted, Turn, Global, put, MayTurn, one_thread, bounds, Instr, put_other, put_all, sum_to, Targets, Label, Labels, Fine, IsWellTyped, World, Shut, Heap, Kept, Built, InBlock, IsListed, conc_of, Shows, head_of, is_ended, has_withdrawn, note_number, noted_by, register_of, staged_of, made_turn, KeepsOthers, StopStands, State, StageStands, SpawnsNow, FramesStand, GateStands, HeapStands, TopStands, label_now}, TurnAt.{turn_at, turn_stands}, Listed.{store_ok, within_block, in_use}, Others.OnHold, Quiet.{heap_now, put_self, sum_up, label_held, freed_held, locks_same, heap_stays, sizes_kept}, Changes.{KeepsPart, KeepsLower, conc_now, changed_state}, Stores.{index_put, arena}, Heaps.{apart_stored, built_size, block_word, low_block, built_dead}, Plain.others_stay, Own.begun_in}

abbrev pub IsMaking : Stage → Type 0
IsMaking Rests = Unit {0}
IsMaking (Makes v) = Unit {0}
IsMaking _ = ⊥

-- at such a stage no block is to be linked, nothing is staged, no thread is named and nothing is withdrawn
pub making_calm : (y : Stage) → IsMaking y → record { hold : OnHold y; staged : staged_of y ≡ 0; spawns : (n : ℕ) → SpawnsNow y n → ⊥; withdrawn : (order : List ℕ) (b : Bool) (p : ℕ) → has_withdrawn y order b p ≡ b }
making_calm Rests h = record { hold = tt; staged = refl; spawns = λ n z. z; withdrawn = λ order b p. refl }
making_calm (Makes v) h = record { hold = tt; staged = refl; spawns = λ n z. z; withdrawn = λ order b p. refl }
making_calm _ h = absurd h

module _ (x : Targets) (code : Code) (s : Shape) (ls : Labels) (wt : IsWellTyped x code ls) (fits : FitsShape code s) (g : Global Machine) (world : World) (st : State x code s ls g world) (tr : Turn)
    (may : MayTurn bounds (one_thread code s) g tr) (r count cells site : ℕ) (is : instr_at code (g.threads tr.thread).at.pc ≡ Instr.New r count cells site) (making : IsMaking (g.threads tr.thread).own.stage) where
  open turn_at st tr use {t, m, here, view}
  open turn_stands st tr may use {rn}

  pub new_fine : Fine x code ls (g.threads tr.thread).at.pc here (Instr.New r count cells site)
  new_fine = subst (Fine x code ls m.at.pc here) is (wt.fine m.at.pc)

  pub new_begun : (pc : ℕ) → (ls.at pc).function ≡ here.function → (pc == 0) ≡ false
  new_begun = begun_in x code ls wt m.at.pc (λ site' z. let q : Instr.New r count cells site ≡ Instr.Start site' = sym is ∙ z in cc) (λ z. let q : Instr.New r count cells site ≡ Instr.Exit = sym is ∙ z in cc)

  now_here : label_now here (instr_at code (g.threads tr.thread).at.pc) (g.threads tr.thread).own.stage ≡ here
  now_here = label_held here (instr_at code m.at.pc) m.own.stage (making_calm m.own.stage making).hold

  pub new_top : TopStands x tr.thread view (g.threads tr.thread).at.refs (g.threads tr.thread).at.ints rn.names here
  new_top = subst (TopStands x t view m.at.refs m.at.ints rn.names) now_here rn.top

  pub new_shut : world.win tr.thread ≡ Shut
  new_shut = subst (GateStands s world t m) new_fine.0 (subst (λ (l : Label). GateStands s world t m l.gate) now_here rn.gate)

  pub new_going : is_ended (g.threads tr.thread).at.state ≡ false
  new_going = elim (g.threads tr.thread).at.state as (λ y. may_go y ≡ true → is_ended y ≡ false) [ RunsOn ↦ λ e. refl | Tries ↦ λ e. refl | Stopped ↦ λ e. refl | Ended ↦ λ e. absurd (cc) ] may.next.runs

  pub new_register : (i : ℕ) → register_of code (g.threads tr.thread) i ≡ slice_index (g.threads tr.thread).refs i
  new_register i = ap (λ b. cond b 0 (slice_index m.refs i)) (freed_held (instr_at code m.at.pc) m.own.stage m.at.refs i (making_calm m.own.stage making).hold)

  pub new_noted : (y : Stage) → IsMaking y → (q : StateOf) → is_ended q ≡ false → (kind : Kind) (p : ℕ)
      → cond (has_withdrawn y (g.threads tr.thread).own.table.order (is_ended q) p) 0 (note_number (note_of (g.threads tr.thread).own.table p kind)) ≡ noted_by (g.threads tr.thread) kind p
  new_noted y my q e kind p =
      let f : Bool → ℕ = λ b. cond b 0 (note_number (note_of m.own.table p kind)) in
      ap f ((making_calm y my).withdrawn m.own.table.order (is_ended q) p ∙ e ∙ sym new_going ∙ sym ((making_calm m.own.stage making).withdrawn m.own.table.order (is_ended m.at.state) p))

  -- the machine behind such a turn
  abbrev pub with_stage : StateOf → Stage → Option Stop → Machine
  with_stage q y z = record (g.threads tr.thread) { at = record (g.threads tr.thread).at { state = q }; own = record (g.threads tr.thread).own { stage = y; stop = z } }

  module _ (q : StateOf) (y : Stage) (z : Option Stop) (making' : IsMaking y) (goes : is_ended q ≡ false) (words : List ℕ) (kw : KeepsLower g.words words) where
    abbrev m' : Machine
    m' = with_stage q y z

    abbrev now : Global Machine
    now = made_turn g tr.thread words (with_stage q y z)

    own : KeepsPart (g.threads tr.thread) (with_stage q y z)
    own = record {
      sizes = sizes_kept (g.threads tr.thread) (with_stage q y z) (st.threads t).has.table refl refl refl refl;
      held = refl;
      heads = refl;
      spawns = λ n h. absurd ((making_calm y making').spawns n h);
      begun_before = new_begun m.at.pc refl;
      begun = new_begun m.at.pc refl;
    }

    conc_is : conc_of code now ≡ record (conc_of code g) { words = λ j. slice_index words j }
    conc_is =
        let rs = fun_ext (put_self (λ u. register_of code (g.threads u)) t (register_of code m')
        (fun_ext (λ j. ap (λ b. cond b 0 (slice_index m.refs j)) (freed_held (instr_at code m.at.pc) y m.at.refs j (making_calm y making').hold) ∙ sym (new_register j)))) in
        let sg = fun_ext (put_self (λ u. staged_of (g.threads u).own.stage) t (staged_of y) ((making_calm y making').staged ∙ sym (making_calm m.own.stage making).staged)) in
        let n : (kind : Kind) → put (λ u. noted_by (g.threads u) kind) t (noted_by m' kind) ≡ (λ u. noted_by (g.threads u) kind) = λ kind. fun_ext (put_self (λ u. noted_by (g.threads u) kind) t (noted_by m' kind) (fun_ext (new_noted y making' q goes kind))) in
        let a = n Read in
        let b = n Write in
        conc_now x code s ls wt g world st t may.started words m' own kw ∙ (λ i. record (conc_of code g) { words = λ j. slice_index words j; regs = rs i; staged = sg i; read_notes = a i; write_notes = b i })

    pub builds_state : (heap' : Heap) → KeepsOthers s world world st.heap heap' g.words words tr.thread → HeapStands s st.cells now world.obj heap'
        → Shows x s st.cells st.elements (record (conc_of code g) { words = λ j. slice_index words j }) world → ((i : ℕ) → i < granules s → slice_index words (97 + i) ≡ slice_index g.words (97 + i))
        → (may_go q ≡ true → StageStands code s st.elements world heap' words tr.thread (with_stage q y z) (Instr.New r count cells site) y) → g.made tr.thread + counted q ≤ 100000000
        → State x code s ls now world
    builds_state heap' others stands sim same stage few =
        let hl = label_held here (instr_at code m.at.pc) y (making_calm y making').hold in
        let below : FramesStand x code ls t view m' here.function = elim here.function as (λ f. FramesStand x code ls t view m f → FramesStand x code ls t view m' f) [ None ↦ λ h. h | Some f ↦ λ h. h ] rn.below in
        changed_state x code s ls wt g world st t may.started words m' own kw st.cells st.elements heap' world others (λ u. refl) (λ u i _. refl)
        st.inv (subst (λ c. Shows x s st.cells st.elements c world) (sym conc_is) sim) st.apart stands (locks_same x code s ls g world st t words m' refl world refl refl) refl refl st.rows st.whole
        (λ i lt. let a = st.epochs i lt in let b = sum_up THREADS g.made t (counted q) in subst (λ v. epoch_of v ≤ sum_to THREADS (put g.made t (g.made t + counted q))) (sym (same i lt)) (omega arith))
        (λ go. record {
          names = rn.names;
          top = subst (TopStands x t view m.at.refs m.at.ints rn.names) (sym hl) new_top;
          below = below;
          gate = subst (λ (l : Label). GateStands s world t m' l.gate) (sym hl) (subst (GateStands s world t m') (sym new_fine.0) new_shut);
          stage = subst (λ i. StageStands code s st.elements world heap' words t m' i y) (sym is) (stage go);
          room = rn.room;
        })
        (λ _. subst (StopStands world t m') (sym new_fine.0) new_shut) few

  -- ---- a word of a block that the thread builds
  module _ (b k v : ℕ) (built : st.heap.state b ≡ Built tr.thread) (inside : InBlock (arena s) st.heap b k) (small : v < 2 ^ 64) (long : k < length g.words) where
    abbrev stored : List ℕ
    stored = slice_set g.words k v

    some : st.heap.size b ≢ 0
    some = built_size s st.cells g world.obj st.heap st.heap_stands st.globals_cells b t built

    low_b : (b ≢ 0) × (b + st.heap.size b ≤ granules s)
    low_b = low_block s st.cells g world.obj st.heap st.heap_stands st.globals_cells b some

    pub own_at : (i : ℕ) → slice_index stored i ≡ put (λ i. slice_index g.words i) k v i
    own_at = index_put g.words k v long

    pub own_off : (i : ℕ) → i ≢ k → slice_index stored i ≡ slice_index g.words i
    own_off i ne = own_at i ∙ put_other (λ i. slice_index g.words i) k i v ne

    high : 97 + granules s + 2 ≤ k
    high = let a = inside.0 in let z = low_b.0 in let p : 1 ≤ b = pos b z in omega arith
      where
        pos : (n : ℕ) → n ≢ 0 → 1 ≤ n
        pos zero h = absurd (h refl)
        pos (suc n) h = omega arith

    pub own_low : KeepsLower g.words stored
    own_low = record {
      count = length-set g.words k v;
      low = λ i l _ _. own_off i (λ e. let h = high in omega arith);
      are_words = λ i. subst (λ n. n < 2 ^ 64) (sym (own_at i)) (put_all (λ i y. y < 2 ^ 64) (λ i. slice_index g.words i) k v small (λ i _. st.are_words i) i);
    }

    pub own_kept : Kept (arena s) (heap_now st.heap stored)
    own_kept =
        let not_listed : IsListed (st.heap.state b) → ⊥ = λ h. subst IsListed built h in
        let kept0 = store_ok (arena s) st.heap st.heap_stands.kept k v (in_use (arena s) st.heap st.heap_stands.kept b k some inside) (within_block (arena s) st.heap st.heap_stands.kept b k some not_listed inside) in
        let e : put st.heap.words k v ≡ (λ i. slice_index stored i) = fun_ext (λ i. ap (λ (h : ℕ → ℕ). put h k v i) (fun_ext st.heap_stands.words) ∙ sym (own_at i)) in
        subst (λ h. Kept (arena s) (record st.heap { words = h })) e kept0

    pub own_others : (u h i : ℕ) → u ≢ tr.thread → st.heap.state h ≡ Built u → InBlock (arena s) st.heap h i → slice_index stored i ≡ slice_index g.words i
    own_others u h i ne e n = own_off i (λ z.
        let nh = built_size s st.cells g world.obj st.heap st.heap_stands st.globals_cells h u e in
        let n0 = n.0 in let n1 = n.1 in let k0 = inside.0 in let k1 = inside.1 in
        ⊎_elim (λ (q : h ≡ b). let p : Built u ≡ Built t = sym e ∙ ap st.heap.state q ∙ built in ne (cc))
        (⊎_elim (λ (q : h < b). let a = st.heap_stands.kept.blocks.apart h b nh some q in omega arith) (λ (q : b < h). let a = st.heap_stands.kept.blocks.apart b h some nh q in omega arith))
        (cases_order h b))

    pub own_epochs : (i : ℕ) → i < granules s → slice_index stored (97 + i) ≡ slice_index g.words (97 + i)
    own_epochs i lt = own_off (97 + i) (λ e. let h = high in omega arith)

    pub own_sim : Shows x s st.cells st.elements (record (conc_of code g) { words = λ j. slice_index stored j }) world
    own_sim =
        let is_apart = block_word s st.cells g world.obj st.heap st.heap_stands st.globals_cells b k some (λ l. built_dead s st.cells g world.obj st.heap st.heap_stands st.globals_cells b t built l low_b.0) inside in
        subst (λ h. Shows x s st.cells st.elements (record (conc_of code g) { words = h }) world) (sym (fun_ext own_at)) (apart_stored x s st.cells st.elements (conc_of code g) world st.sim st.apart k v is_apart)

    -- it stays where it was, at the next stage
    pub own_state : (y : Stage) → IsMaking y → ((n : ℕ) → head_of (with_stage RunsOn y (g.threads tr.thread).own.stop) n ≡ head_of (g.threads tr.thread) n)
        → StageStands code s st.elements world (heap_now st.heap stored) stored tr.thread (with_stage RunsOn y (g.threads tr.thread).own.stop) (Instr.New r count cells site) y → g.made tr.thread + 1 ≤ 100000000
        → State x code s ls (made_turn g tr.thread stored (with_stage RunsOn y (g.threads tr.thread).own.stop)) world
    own_state y my heads stage few =
        let m' = with_stage RunsOn y m.own.stop in
        builds_state RunsOn y m.own.stop my refl stored own_low (heap_now st.heap stored)
        (others_stay s world st.heap g.words stored t (λ u ne h e i n. own_others u h i ne e n))
        (heap_stays s st.cells g world.obj world.obj st.heap t stored m' st.heap_stands refl own_kept (own_off top_word (λ e. let z = high in omega arith)) heads)
        own_sim own_epochs (λ _. stage) few
