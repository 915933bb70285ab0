-- The last turn of a Free: the block of the dead object goes to the thread's list.
use Rattle.sharc_invariant.proofs.{Imports.{◌≡◌, ℕ, suc, ◌+◌, ◌*◌, ◌^◌, ◌<◌, ◌≤◌, ◌≢◌, true, false, cond, List, None, Some, refl, sym, ap, ◌∙◌, subst, ⊎_elim, arith, cases_eq, cases_order, get_or-set_same, get_or-set_other, length-set, fun_ext, length, slice_index, slice_set, ◌==◌, THREADS, Swap, ShadowLaws, note_of, epoch_of, Kind, Read, Write, Code, Layout, Instr, Shape, Stage, Rests, Empties, Lowers, FreeLooks, FreeClears, Uncounts, Links, RunsOn, Tries, Stopped, Ended, Fits as FitsShape, granules, top_word, length_word, Machine, step_of, instr_at, ref, layout_at, size_of, free_size, free_head, freed_machine, may_go, Turn, Global, put, MayTurn, after_turn, one_thread, bounds, put_same, put_other, put_all, sum_to, Targets, Label, Labels, empty, Fine, IsWellTyped, World, Shut, put2, Heap, Kept, Built, Live, Listed, pushed, conc_of, Shows, head_of, head_with, making_of, is_freed, is_ended, has_withdrawn, note_number, noted_by, register_of, staged_of, length_at, made_turn, KeepsOthers, State, Runs, view_of, StageStands, FramesStand, GateStands, HeapStands, TopStands, label_now, block_for, IsSmall, Turned, changes_objects, objects_now, frees_object, ne_eq, eq_refl, set_null}, TurnAt.{turn_at, turn_stands}, Listed.{push_ok, put2_same, put2_other}, Quiet.{put_self, locks_same, sizes_kept}, Changes.{KeepsPart, KeepsLower, conc_now, changed_state}, Turns.{asks_turn, room_of, unseen}, Stores.{index_put, arena}, Clears.sum_more, Frames.less_stands, Own.{runs_at, closed_less}, Heaps.{size_power, same_power, apart_stored, built_size, block_word, low_block, listed_size, built_dead}, Frees.{free_fine, free_begun, free_act, free_first, free_looks_turn, free_swaps}, Empties.{free_empties, free_lowers}, Uncounted.free_uncounts, Walks.IsWalk, Owned.unchanged, Sweeps.length_is, Plain.others_heap}

-- the size of the list is that of the block for the cells
size_for : (all c : ℕ) → size_of (Rattle.sharc_heap.specs.Block.block_of (Rattle.sharc_code.specs.Machine.all_cells all c)) ≡ size_of (block_for (all * c))
unfolding block_for
size_for all c = refl

module _ (x : Targets) (code : Code) (s : Shape) (ls : Labels) (wt : IsWellTyped x code ls) (fits : FitsShape code s) (laws : ShadowLaws) (g : Global Machine) (world : World) (st : State x code s ls g world) (tr : Turn)
    (may : MayTurn bounds (one_thread code s) g tr) (r layout site : ℕ) (is : instr_at code (g.threads tr.thread).at.pc ≡ Instr.Free r layout site) (all : ℕ) (at_stage_is : (g.threads tr.thread).own.stage ≡ Links all) where
  open turn_at st tr use {t, m, here, base, view}
  open turn_stands st tr may use {rn, low_t as on_t}

  abbrev k : ℕ
  k = (g.threads tr.thread).at.refs + r

  abbrev lay : Layout
  lay = layout_at code layout

  -- the block
  abbrev b : ℕ
  b = ref (g.threads tr.thread) r

  f : Fine x code ls (g.threads tr.thread).at.pc here (Instr.Free r layout site)
  f = free_fine x code s ls wt laws g world st tr may r layout site is

  stage_now : StageStands code s st.elements world st.heap g.words tr.thread (g.threads tr.thread) (Instr.Free r layout site) (Links all)
  stage_now = subst (StageStands code s st.elements world st.heap g.words t m (Instr.Free r layout site)) at_stage_is (subst (λ i. StageStands code s st.elements world st.heap g.words t m i m.own.stage) is rn.stage)

  is_label : label_now here (instr_at code (g.threads tr.thread).at.pc) (g.threads tr.thread).own.stage ≡ empty here r
  is_label = ap (λ i. label_now here i m.own.stage) is ∙ ap (label_now here (Instr.Free r layout site)) at_stage_is

  tp : TopStands x tr.thread view (g.threads tr.thread).at.refs (g.threads tr.thread).at.ints rn.names (empty here r)
  tp = subst (TopStands x t view base m.at.ints rn.names) is_label rn.top

  shut : world.win tr.thread ≡ Shut
  shut = subst (λ (l : Label). GateStands s world t m l.gate) is_label rn.gate

  some : st.heap.size b ≢ 0
  some = built_size s st.cells g world.obj st.heap st.heap_stands st.globals_cells b t stage_now.0

  -- the list
  abbrev j : ℕ
  j = (st.heap_stands.powers b some).0

  abbrev size : ℕ
  size = st.heap.size b

  low_j : j < 16
  low_j = (st.heap_stands.powers b some).1.0

  size_is : st.heap.size b ≡ 2 ^ (j + 1)
  size_is = (st.heap_stands.powers b some).1.1

  number_is : free_size lay all ≡ j
  number_is = size_for all lay.cells ∙ ap size_of (sym stage_now.2 ∙ size_is) ∙ size_power j (let z = low_j in omega arith)

  abbrev old : ℕ
  old = st.heap.heads tr.thread (st.heap.size b)

  head_is : free_head (g.threads tr.thread) lay all ≡ old
  head_is = ap (slice_index m.own.heads) number_is ∙ sym (st.heap_stands.heads t j on_t low_j ∙ ap (λ y. head_with (making_of y) m.own.heads j) at_stage_is) ∙ ap (st.heap.heads t) (sym size_is)

  old_low : old < 2 ^ 64
  old_low = ⊎_elim (λ z. let e = z.1 in omega arith)
      (λ z. let n = listed_size s st.cells g world.obj st.heap st.heap_stands st.globals_cells old t (st.heap.deep t size) z.0 in let w = low_block s st.cells g world.obj st.heap st.heap_stands st.globals_cells old n in let w1 = w.1 in
      let a = fits.most in let c = fits.globals in let d = wt.globals.few in omega arith)
      (st.heap_stands.kept.lists.head t size)

  abbrev at : ℕ
  at = length_at s b

  abbrev words : List ℕ
  words = slice_set g.words (length_at s b) old

  abbrev m' : Machine
  m' = freed_machine (g.threads tr.thread) r lay all

  low_b : (b ≢ 0) × (b + st.heap.size b ≤ granules s)
  low_b = low_block s st.cells g world.obj st.heap st.heap_stands st.globals_cells b some

  word_is : length_word s b ≡ length_at s b
  word_is = length_is s b (let l = low_b.1 in let n = some in omega arith)

  done : (after_turn bounds (one_thread code s) g tr ≡ made_turn g tr.thread words m') × (length_at s b < length g.words)
  done =
      let d = asks_turn code s g tr may (step_of (length_word s b) (Swap (free_head m lay all))) (λ found. m') (free_act x code s ls wt laws g world st tr may r layout site is (Links all) at_stage_is) in
      (d.0 ∙ ap (λ v. made_turn g t (slice_set g.words (length_word s b) v) m') head_is ∙ ap (λ k. made_turn g t (slice_set g.words k old) m') word_is, subst (λ k. k < length g.words) word_is d.1)

  abbrev now : Global Machine
  now = made_turn g tr.thread words m'

  in_words : (i : ℕ) → slice_index words i ≡ put (λ i. slice_index g.words i) (length_at s b) old i
  in_words = index_put g.words at old done.1

  off : (i : ℕ) → i ≢ length_at s b → slice_index words i ≡ slice_index g.words i
  off i ne = in_words i ∙ put_other (λ i. slice_index g.words i) at i old ne

  low : KeepsLower g.words words
  low = record {
    count = length-set g.words at old;
    low = λ i l _ _. off i (λ e. omega arith);
    are_words = λ i. subst (λ n. n < 2 ^ 64) (sym (in_words i)) (put_all (λ i y. y < 2 ^ 64) (λ i. slice_index g.words i) at old old_low (λ i _. st.are_words i) i);
  }

  begun : ((g.threads tr.thread).at.pc == 0) ≡ false
  begun = free_begun x code s ls wt laws g world st tr may r layout site is m.at.pc refl

  begun' : ((g.threads tr.thread).at.pc + 1 == 0) ≡ false
  begun' = free_begun x code s ls wt laws g world st tr may r layout site is (m.at.pc + 1) f.4.function

  own : KeepsPart (g.threads tr.thread) m'
  own = record {
    sizes = sizes_kept (g.threads tr.thread) m' (st.threads t).has.table refl (length-set m.refs k 0) refl refl;
    held = refl;
    heads = length-set m.own.heads (free_size lay all) b;
    spawns = λ n h. absurd h;
    begun_before = begun;
    begun = begun';
  }

  -- the heap
  abbrev heap1 : Heap
  heap1 = pushed (arena s) st.heap tr.thread b

  abbrev heap' : Heap
  heap' = record heap1 { words = λ i. slice_index words i }

  kept' : Kept (arena s) heap'
  kept' =
      let e : put st.heap.words at old ≡ (λ i. slice_index words i) = fun_ext (λ i. ap (λ (h : ℕ → ℕ). put h at old i) (fun_ext st.heap_stands.words) ∙ sym (in_words i)) in
      subst (λ h. Kept (arena s) (record heap1 { words = h })) e (push_ok (arena s) st.heap st.heap_stands.kept t b some stage_now.0)

  head_now : (u n : ℕ) → u < THREADS → n < 16 → put2 st.heap.heads tr.thread size b u (2 ^ (n + 1)) ≡ head_of (now.threads u) n
  head_now u n lu ln = put_all (λ u (y : Machine). u < THREADS → put2 st.heap.heads t size b u (2 ^ (n + 1)) ≡ head_of y n) g.threads t m'
      (λ _. ⊎_elim
      (λ (e : n ≡ j).
      let l = (st.threads t).has.heads in
      let z : 2 ^ (n + 1) ≡ size = ap (λ n. 2 ^ (n + 1)) e ∙ sym size_is in
      let k1 : free_size lay all ≡ n = number_is ∙ sym e in
      ap (put2 st.heap.heads t size b t) z ∙ put2_same st.heap.heads t size b ∙ sym (ap (λ q. slice_index (slice_set m.own.heads q b) n) k1 ∙ get_or-set_same m.own.heads n b 0 (omega arith)))
      (λ (ne : n ≡ j → ⊥).
      let lj = low_j in
      let away : 2 ^ (n + 1) ≡ size → ⊥ = λ e. ne (same_power n j (omega arith) (omega arith) (e ∙ size_is)) in
      let stays = st.heap_stands.heads t n on_t ln ∙ ap (λ y. head_with (making_of y) m.own.heads n) at_stage_is in
      sym (put2_other st.heap.heads t size b t (2 ^ (n + 1)) (λ _ e. away e)) ∙ stays ∙ sym (get_or-set_other m.own.heads (free_size lay all) n b 0 (λ e. ne (e ∙ number_is))))
      (cases_eq n j))
      (λ u ne lu. sym (put2_other st.heap.heads t size b u (2 ^ (n + 1)) (λ e _. ne e)) ∙ st.heap_stands.heads u n lu ln) u lu

  not_b : (o : ℕ) → o ≢ 0 → (world.obj o).live ≡ true → o ≡ b → ⊥
  not_b o nz l e = built_dead s st.cells g world.obj st.heap st.heap_stands st.globals_cells o t (ap st.heap.state e ∙ stage_now.0) l nz

  stands : HeapStands s st.cells now world.obj heap'
  stands =
      let q = st.heap_stands in
      let x' = Listed t (suc (st.heap.deep t size)) in
      record {
        kept = kept';
        words = λ i. refl;
        top = q.top ∙ sym (off top_word (λ e. omega arith));
        within = q.within;
        heads = head_now;
        powers = q.powers;
        live = λ o nz. (
          (λ l. put_other st.heap.state b o x' (not_b o nz l) ∙ (q.live o nz).0 l),
          (λ e. ⊎_elim
              (λ (i : o ≡ b). let z : x' ≡ Live = sym (put_same st.heap.state b x') ∙ ap (put st.heap.state b x') (sym i) ∙ e in absurd (cc))
              (λ (ne : o ≡ b → ⊥). (q.live o nz).1 (sym (put_other st.heap.state b o x' ne) ∙ e)) (cases_eq o b)),
        );
        room = q.room;
        sizes = q.sizes;
      }

  -- another block that is built
  other_built : (u h : ℕ) → u ≢ tr.thread → st.heap.state h ≡ Built u → h ≡ b → ⊥
  other_built u h ne e z = let q : Built t ≡ Built u = sym stage_now.0 ∙ ap st.heap.state (sym z) ∙ e in ne (cc)

  others : KeepsOthers s world world st.heap heap' g.words words tr.thread
  others = others_heap s world st.heap heap' g.words words t
      (λ u ne h e. (put_other st.heap.state b h (Listed t (suc (st.heap.deep t size))) (other_built u h ne e) ∙ e, refl))
      (λ u ne h e i n. off i (λ z.
      let nh = built_size s st.cells g world.obj st.heap st.heap_stands st.globals_cells h u e in
      let n0 = n.0 in let n1 = n.1 in let so = some in
      ⊎_elim (λ (q : h ≡ b). other_built u h ne e q)
      (⊎_elim (λ (q : h < b). let a = st.heap_stands.kept.blocks.apart h b nh some q in omega arith) (λ (q : b < h). let a = st.heap_stands.kept.blocks.apart b h some nh q in omega arith))
      (cases_order h b)))

  -- what is seen of the thread
  same_regs : (i : ℕ) → register_of code m' i ≡ register_of code (g.threads tr.thread) i
  same_regs i =
      let old_is : register_of code m i ≡ cond (i == base + r) 0 (slice_index m.refs i) = ap (λ ins. cond (is_freed ins m.own.stage base i) 0 (slice_index m.refs i)) is ∙ ap (λ y. cond (is_freed (Instr.Free r layout site) y base i) 0 (slice_index m.refs i)) at_stage_is in
      (no_freed (instr_at code (m.at.pc + 1)) i) ∙ ⊎_elim
      (λ (e : i ≡ k). ap (slice_index (slice_set m.refs k 0)) e ∙ set_zero m.refs k ∙ sym (ap (λ c. cond c 0 (slice_index m.refs i)) (ap (λ i. i == k) e ∙ eq_refl k)))
      (λ (ne : i ≡ k → ⊥). get_or-set_other m.refs k i 0 0 ne ∙ sym (ap (λ c. cond c 0 (slice_index m.refs i)) (ne_eq i k ne)))
      (cases_eq i k) ∙ sym old_is
    where
      no_freed : (ins : Instr) (i : ℕ) → cond (is_freed ins Rests base i) 0 (slice_index (slice_set (g.threads tr.thread).refs k 0) i) ≡ slice_index (slice_set (g.threads tr.thread).refs k 0) i
      no_freed (Instr.Free a c d) i = refl
      no_freed _ i = refl

      set_zero : (l : List ℕ) (n : ℕ) → slice_index (slice_set l n 0) n ≡ 0
      set_zero l n = set_null l n

  conc_is : conc_of code now ≡ record (conc_of code g) { words = λ i. slice_index words i }
  conc_is =
      let rs = fun_ext (put_self (λ u. register_of code (g.threads u)) t (register_of code m') (fun_ext same_regs)) in
      let sg = fun_ext (put_self (λ u. staged_of (g.threads u).own.stage) t 0 (sym (ap staged_of at_stage_is))) in
      let going : is_ended m.at.state ≡ false = elim m.at.state as (λ y. may_go y ≡ true → is_ended y ≡ false) [ RunsOn ↦ λ e. refl | Tries ↦ λ e. refl | Stopped ↦ λ e. refl | Ended ↦ λ e. absurd (cc) ] may.next.runs in
      let noted : (kind : Kind) (p : ℕ) → noted_by m' kind p ≡ noted_by m kind p = λ kind p.
      let N : Stage → ℕ = λ y. cond (has_withdrawn y m.own.table.order (is_ended m.at.state) p) 0 (note_number (note_of m.own.table p kind)) in
      ap (λ e. cond e 0 (note_number (note_of m.own.table p kind))) (sym going) ∙ ap N (sym at_stage_is) in
      let n : (kind : Kind) → put (λ u. noted_by (g.threads u) kind) t (noted_by m' kind) ≡ (λ u. noted_by (g.threads u) kind) = λ kind. fun_ext (put_self (λ u. noted_by (g.threads u) kind) t (noted_by m' kind) (fun_ext (noted kind))) in
      let a = n Read in
      let c = n Write in
      conc_now x code s ls wt g world st t may.started words m' own low ∙ (λ i. record (conc_of code g) { words = λ j. slice_index words j; regs = rs i; staged = sg i; read_notes = a i; write_notes = c i })

  sim : Shows x s st.cells st.elements (conc_of code now) world
  sim =
      let nz = low_b.0 in
      let is_apart = block_word s st.cells g world.obj st.heap st.heap_stands st.globals_cells b at some (λ l. not_b b nz l refl) (let n = some in (omega arith, omega arith)) in
      let sim1 = apart_stored x s st.cells st.elements (conc_of code g) world st.sim st.apart at old is_apart in
      subst (λ c. Shows x s st.cells st.elements c world) (sym (conc_is ∙ ap (λ (h : ℕ → ℕ). record (conc_of code g) { words = h }) (fun_ext in_words))) sim1

  runs_now : Runs x code s ls st.elements world heap' now tr.thread m'
  runs_now =
      let view' = view_of st.elements world t m' in
      let leads = f.4 in
      let gate' = closed_less (ls.at (m.at.pc + 1)).gate leads.gate in
      let below : FramesStand x code ls t view' m' here.function = elim here.function as (λ f. FramesStand x code ls t view m f → FramesStand x code ls t view' m' f) [ None ↦ λ h. h | Some f ↦ λ h. h ] rn.below in
      runs_at x code s ls st.elements world heap' now t m' rn.names refl
      (less_stands x t view' base m.at.ints rn.names (empty here r) (ls.at (m.at.pc + 1)) leads tp)
      (subst (FramesStand x code ls t view' m') (sym leads.function) below)
      (subst (GateStands s world t m') (sym gate') shut)
      (λ q. rn.room (leads.room q))

  pub free_links : Turned x code s ls g world tr
  free_links =
      let later : (i : ℕ) → i < granules s → epoch_of (slice_index words (97 + i)) ≤ sum_to THREADS (put g.made t (g.made t + 1)) =
      λ i lt. let a = st.epochs i lt in let c = sum_more g.made t 1 on_t in
      subst (λ v. epoch_of v ≤ sum_to THREADS (put g.made t (g.made t + 1))) (sym (off (97 + i) (λ e. omega arith))) (omega arith) in
      unseen x code s ls g world tr _ done.0 (changed_state x code s ls wt g world st t may.started words m' own low st.cells st.elements heap' world others (λ u. refl) (λ u q _. refl)
      st.inv sim st.apart stands (locks_same x code s ls g world st t words m' refl world refl refl) refl refl st.rows st.whole later (λ _. runs_now) (λ q. absurd (cc))
      (room_of code s g tr may words m' done.0))

-- ---- all turns of a Free
module _ (x : Targets) (code : Code) (s : Shape) (ls : Labels) (wt : IsWellTyped x code ls) (fits : FitsShape code s) (few : IsSmall code s) (laws : ShadowLaws) (g : Global Machine) (world : World) (st : State x code s ls g world) (tr : Turn)
    (may : MayTurn bounds (one_thread code s) g tr) (r layout site : ℕ) (is : instr_at code (g.threads tr.thread).at.pc ≡ Instr.Free r layout site) where
  abbrev Done : Type 0
  Done = (k : Turned x code s ls g world tr) × (k.0.obj ≡ objects_now code s ls g tr world.obj)

  -- no object changes
  plain : frees_object (g.threads tr.thread).own.stage ≡ false → Turned x code s ls g world tr → Done
  plain e k = unchanged x code s ls g world tr (ap (λ i. changes_objects i (g.threads tr.thread)) is ∙ e) k

  by_stage : (y : Stage) → (g.threads tr.thread).own.stage ≡ y → StageStands code s st.elements world st.heap g.words tr.thread (g.threads tr.thread) (Instr.Free r layout site) y → Done
  by_stage Rests e h = plain (ap frees_object e) (free_first x code s ls wt laws g world st tr may r layout site is (subst IsWalk (sym e) tt) e)
  by_stage (Empties i all) e h = plain (ap frees_object e) (free_empties x code s ls wt fits few laws g world st tr may r layout site is (subst IsWalk (sym e) tt) i all h e)
  by_stage (Lowers i all found) e h = plain (ap frees_object e) (free_lowers x code s ls wt fits few laws g world st tr may r layout site is (subst IsWalk (sym e) tt) i all found h e)
  by_stage (FreeLooks done all) e h = plain (ap frees_object e) (free_looks_turn x code s ls wt laws g world st tr may r layout site is (subst IsWalk (sym e) tt) done all h e)
  by_stage (FreeClears done all seen) e h = plain (ap frees_object e) (free_swaps x code s ls wt laws g world st tr may r layout site is (subst IsWalk (sym e) tt) done all seen h e)
  by_stage (Uncounts all) e h = free_uncounts x code s ls wt fits laws g world st tr may r layout site is all e
  by_stage (Links all) e h = plain (ap frees_object e) (free_links x code s ls wt fits laws g world st tr may r layout site is all e)
  by_stage _ e h = absurd h

  pub Free_keeps : Done
  Free_keeps =
      let rn = (st.threads tr.thread).runs may.started may.next.runs in
      by_stage (g.threads tr.thread).own.stage refl (subst (λ i. StageStands code s st.elements world st.heap g.words tr.thread (g.threads tr.thread) i (g.threads tr.thread).own.stage) is rn.stage)
