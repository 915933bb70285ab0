-- The turns of a Free that empty the pointers of its object, and lower what they held.
use Rattle.sharc_invariant.proofs.{Imports.{◌≡◌, ℕ, zero, suc, ◌+◌, ◌-◌, ◌*◌, ◌%◌, ◌^◌, ◌<◌, ◌≤◌, ◌≢◌, true, false, cond, List, None, Some, refl, sym, ap, ◌∙◌, subst, ⊎_elim, arith, ltb-true, ◌/◌, cases_eq, nat_tests, fun_ext, length, slice_index, slice_set, nat_lt, min, ◌==◌, THREADS, Swap, Sub, word_after, ShadowLaws, epoch_of, lower_of, Code, Layout, Shape, Stage, Empties, Lowers, FreeLooks, Uncounts, Fits as FitsShape, granules, words_of, first_cell, cell_word, cell_of, count_word, Machine, step_of, instr_at, ref, at_stage, largest, empties, emptied, layout_at, fields, pointer_cell, counted, Turn, Global, put, MayTurn, after_turn, one_thread, bounds, Instr, put_other, sum_to, Targets, ObjectType, type_at, Label, Labels, Fine, IsWellTyped, RegisterOf, ArgumentOf, Staged, Slot, In, TypedReference, CellOf, World, Sole, WorldInvariant, in_ref, place, null, none, set_slot, swap, drop, Built, InBlock, Kept, lang_of, conc_of, Shows, cell_at, count_at, staged_of, store, made_turn, KeepsOthers, Silently, State, view_of, StageStands, FramesStand, TopStands, GateStands, AreEmpty, Emptying, all_pointers, label_now, IsSmall, size_of_run, Turned, not_less}, TurnAt.{turn_at, turn_stands}, Effects.{set_slot_ok, empty_ok, drop_ok, count_pos, place_same, place_other, slot_cases}, Small.total_low, Quiet.{heap_now, label_held}, Changes.KeepsLow, Walks.{IsWalk, walk_hold, walk_state, walked, conc_held}, Turns.asks_turn, Stores.{index_put, arena, cell_store, count_store, stored_within}, Seen.{cell_stored, count_stored, staged_stored}, Counts.count_is, Clears.{part_words, sum_more, alone, walk_top, walks_over, walked_target}, Emptied.{pointer_there, some_cells}, Loads.lang_laws, Frees.{few_of, empties_counted, at_free, granules_split, free_fine, free_win, free_cells, free_begun, free_act}, Others.loses}
use Rattle.sharc_invariant.specs.World.{Free}

emptied_next : (i p : ℕ) → i ≤ p → p < 2 ^ 63 → nat_lt i (min p largest) ≡ false → i ≡ p
emptied_next i p le low e = let a = not_less i (min p largest) e in omega arith

emptied_more : (i p : ℕ) → nat_lt i (min p largest) ≡ true → i < p
emptied_more i p e = let a = ltb-true i (min p largest) e in omega arith

few_pointers : (e f c : ℕ) → e * c < 2 ^ 20 → 1 ≤ c → f < 2 ^ 32 → e * f < 2 ^ 63
few_pointers e f c a b h = let q : e ≤ e * c = grind arith in let p : e * f ≤ 2 ^ 20 * f = grind arith in omega arith

cells_small : (c o n : ℕ) → ((q : ℕ) → 2 * q < c → o + 1 + q < n) → c ≤ 2 * n
cells_small zero o n h = omega arith
cells_small (suc c) o n h = let a = h (c / 2) (omega arith) in omega arith

-- the word of a cell
pub cell_word_is : (s : Shape) (o c : ℕ) → o + 1 + c / 2 < granules s → cell_word s (cell_of o c) ≡ cell_at s o c
cell_word_is s o c lt =
    let w = first_cell s + cell_of o c in
    let e : nat_lt w (words_of s) ≡ true = grind (arith, nat_tests) in
    let q : cell_word s (cell_of o c) ≡ w = rw e refl in
    q ∙ (let z : w ≡ cell_at s o c = omega arith in z)

pub none_below : (i : ℕ) → i < 0 → ⊥
none_below i lt = omega arith

module _ (x : Targets) (code : Code) (s : Shape) (ls : Labels) (wt : IsWellTyped x code ls) (fits : FitsShape code s) (few : IsSmall code s) (laws : ShadowLaws) (g : Global Machine) (world : World) (st : State x code s ls g world) (tr : Turn)
    (may : MayTurn bounds (one_thread code s) g tr) (r layout site : ℕ) (is : instr_at code (g.threads tr.thread).at.pc ≡ Instr.Free r layout site) (walk : IsWalk (g.threads tr.thread).own.stage) where
  open turn_at st tr use {t, m, here, base, view}
  open turn_stands st tr may use {rn, low_t as on_t}

  abbrev k : ℕ
  k = (g.threads tr.thread).at.refs + r

  abbrev o : ℕ
  o = in_ref world (RegisterOf tr.thread ((g.threads tr.thread).at.refs + r))

  abbrev lay : Layout
  lay = layout_at code layout

  f : Fine x code ls (g.threads tr.thread).at.pc here (Instr.Free r layout site)
  f = free_fine x code s ls wt laws g world st tr may r layout site is

  win : world.win tr.thread ≡ Sole k
  win = free_win x code s ls wt laws g world st tr may r layout site is walk

  begun : ((g.threads tr.thread).at.pc == 0) ≡ false
  begun = free_begun x code s ls wt laws g world st tr may r layout site is (g.threads tr.thread).at.pc refl

  open walks_over x code s ls wt g world st tr may walk begun r win f.2 use {reads, nz, is_live}

  tp : TopStands x tr.thread view (g.threads tr.thread).at.refs (g.threads tr.thread).at.ints rn.names here
  tp = walk_top x code s ls wt g world st tr may walk begun r win f.2

  target_is : (world.obj o).ty.target ≡ f.3.0.target
  target_is = walked_target x code s ls wt g world st tr may walk begun r win f.2 f.3.0 f.3.1

  later : (i : ℕ) → i < granules s → epoch_of (slice_index g.words (97 + i)) ≤ sum_to THREADS (put g.made tr.thread (g.made tr.thread + 1))
  later i lt = let a = st.epochs i lt in let b = sum_more g.made t 1 on_t in omega arith

  -- slots change that are no registers and in no other object
  module _ (fs : Slot → TypedReference) (cnt : ℕ → ℕ) (regs : (u q : ℕ) → fs (In (RegisterOf u q)) ≡ world.slots (In (RegisterOf u q))) (args : (u : ℕ) → fs (In (ArgumentOf u)) ≡ world.slots (In (ArgumentOf u)))
      (off : (p j : ℕ) → (p ≡ o → ⊥) → (fs (CellOf p j)).reference ≡ (world.slots (CellOf p j)).reference) (words : List ℕ) (kw : KeepsLow g.words words)
      (kept : Kept (arena s) (record st.heap { words = λ i. slice_index words i }))
      (within : (u b j : ℕ) → st.heap.state b ≡ Built u → InBlock (arena s) st.heap b j → slice_index words j ≡ slice_index g.words j)
      (same_epochs : (i : ℕ) → i < granules s → slice_index words (97 + i) ≡ slice_index g.words (97 + i))
      (inv : WorldInvariant (size_of_run code s) (lang_of x) (record world { slots = fs; count = cnt })) (room : g.made tr.thread + 1 ≤ 100000000) where
    abbrev w' : World
    w' = record world { slots = fs; count = cnt }

    others : KeepsOthers s world w' st.heap (heap_now st.heap words) g.words words tr.thread
    others = record {
      regs = λ u _ q. regs u q;
      win = λ u _. refl;
      passed = λ u ne q h b c z. z;
      sole = λ u ne q e h. loses refl;
      cells = λ u ne q e i. off (in_ref world (RegisterOf u q)) i (λ z. alone x code s ls wt g world st tr may walk begun r win f.2 (In (RegisterOf u q)) (λ y. ne (cc)) z);
      built = λ u _ b e. (e, refl);
      within = λ u _ b e j n. within u b j e n;
    }

    -- it stays in the instruction, at this stage
    abbrev at_y : Stage → Machine
    at_y y = walked x code s ls wt g world st tr.thread may.started may.next.runs begun walk (g.threads tr.thread).at.pc y

    view_is : (y : Stage) → view_of st.elements w' tr.thread (at_y y) ≡ view
    view_is y =
        let ft = fun_ext (λ j. ap (λ (h : TypedReference). h.ty) (regs t j)) in
        λ i. record view { refs = (fun_ext (λ j. ap (λ (h : TypedReference). h.reference) (regs t j))) i; types = ft i }

    on_stage : (y : Stage) → IsWalk y → Shows x s st.cells st.elements (conc_of code (made_turn g tr.thread words (at_y y))) w'
        → StageStands code s st.elements w' (heap_now st.heap words) words tr.thread (g.threads tr.thread) (Instr.Free r layout site) y → State x code s ls (made_turn g tr.thread words (at_stage (g.threads tr.thread) y)) w'
    on_stage y wy sim stage =
        let i = instr_at code m.at.pc in
        let hl = label_held here i y (walk_hold y wy) in
        let below : FramesStand x code ls t view (at_y y) here.function = elim here.function as (λ f. FramesStand x code ls t view m f → FramesStand x code ls t view (at_y y) f) [ None ↦ λ h. h | Some f ↦ λ h. h ] rn.below in
        walk_state x code s ls wt g world st t may.started may.next.runs begun walk m.at.pc y wy begun words kw w' kept refl refl others args inv sim (λ i lt. subst (λ v. epoch_of v ≤ sum_to THREADS (put g.made t (g.made t + 1))) (sym (same_epochs i lt)) (later i lt))
        (record {
          names = rn.names;
          top = subst (λ v. TopStands x t v base m.at.ints rn.names (label_now here i y)) (sym (view_is y)) (subst (TopStands x t view base m.at.ints rn.names) (sym hl) tp);
          below = subst (λ v. FramesStand x code ls t v (at_y y) here.function) (sym (view_is y)) below;
          gate = subst (λ (l : Label). GateStands s w' t (at_y y) l.gate) (sym hl) (subst (GateStands s w' t (at_y y)) (sym f.0.1) win);
          stage = at_free x code s ls wt laws g world st tr may r layout site is w' (heap_now st.heap words) words y stage;
          room = rn.room;
        }) room

    -- the next pointer, or the first granule, or the count
    split : (i all : ℕ) → Emptying code st.elements w' (ref (g.threads tr.thread) r) layout all i → all_pointers code layout all < 2 ^ 63
        → ((y : Stage) → IsWalk y → staged_of y ≡ 0 → Shows x s st.cells st.elements (conc_of code (made_turn g tr.thread words (at_y y))) w')
        → State x code s ls (made_turn g tr.thread words (empties (g.threads tr.thread) lay i all)) w'
    split i all e low sim =
        let n = all_pointers code layout all in
        elim (nat_lt i (min n largest)) as (λ c. nat_lt i (min n largest) ≡ c → State x code s ls (made_turn g t words (cond c (at_stage m (Empties i all)) (Rattle.sharc_code.specs.Machine.free_looks m lay 0 all))) w') [
          | true ↦ λ c. on_stage (Empties i all) tt (sim (Empties i all) tt refl) (e, emptied_more i n c)
          | false ↦ λ c.
              let full : Emptying code st.elements w' (ref m r) layout all n = subst (Emptying code st.elements w' (ref m r) layout all) (emptied_next i n e.1 low c) e in
              granules_split x code s ls wt laws g world st tr may r layout site is walk words w' 0 all (λ q l. absurd (none_below q l))
              (λ lt. on_stage (FreeLooks 0 all) tt (sim (FreeLooks 0 all) tt refl) (full, (lt, λ q l. absurd (none_below q l))))
              (λ cl. on_stage (Uncounts all) tt (sim (Uncounts all) tt refl) (full, cl))
        ] refl

  -- few pointers are in an object
  pointers_low : (all : ℕ) → all ≡ st.elements (ref (g.threads tr.thread) r) → all_pointers code layout all < 2 ^ 63
  pointers_low all e =
      let n = fields lay in
      let el : all ≡ st.elements o = e ∙ ap st.elements reads in
      let size = free_cells x code s ls wt laws g world st tr may r layout site is walk in
      let is_size : all * lay.cells ≡ st.cells o = ap (λ n. n * lay.cells) el ∙ sym size in
      let low = cells_small (st.cells o) o (granules s) (λ q l. st.apart.within o q is_live l) in
      let g1 = fits.globals in let g2 = wt.globals.few in let g3 = fits.most in
      let until = f.3.2.few in
      ⊎_elim
      (λ (z : n ≡ 0). let q : all * n ≡ all * 0 = ap (λ n. all * n) z in let y : all * 0 ≡ 0 = grind arith in omega arith)
      (λ (nf : n ≡ 0 → ⊥).
      let c : 1 ≤ lay.cells = subst (λ c. 1 ≤ c) (sym f.3.2.cells) (some_cells x code layout f.3.0.target f.3.2 nf) in
      few_pointers all n lay.cells (omega arith) c (omega arith))
      (cases_eq n 0)

  -- a pointer's cell is emptied, and what it held is in the thread's hands
  pub free_empties : (i all : ℕ) → StageStands code s st.elements world st.heap g.words tr.thread (g.threads tr.thread) (Instr.Free r layout site) (Empties i all) → (g.threads tr.thread).own.stage ≡ Empties i all → Turned x code s ls g world tr
  free_empties i all h e =
      let c = pointer_cell code lay i in
      let el : all ≡ st.elements o = h.0.0 ∙ ap st.elements reads in
      let there = pointer_there x code s ls wt fits g world st o layout f.3.0.target i nz is_live target_is f.3.2 (subst (λ n. i < all_pointers code layout n) el h.1) in
      let lt : c < st.cells o = there.0 in
      let ptr = there.1 in
      let at = cell_at s o c in
      let found = slice_index g.words at in
      let ty = type_at x (world.obj o).ty o c in
      let y0 = world.slots (CellOf o c) in
      let found_is : y0.reference ≡ found = st.sim.pointers o c is_live lt ptr in
      let inside = st.apart.within o (c / 2) is_live (omega arith) in
      let word_is : cell_word s (cell_of (ref m r) c) ≡ at =
      ap (λ h. cell_word s (cell_of h c)) reads ∙ cell_word_is s o c inside in
      let words = slice_set g.words at 0 in
      let done0 = asks_turn code s g tr may (step_of (cell_word s (cell_of (ref m r) c)) (Swap 0)) (emptied m lay i all) (free_act x code s ls wt laws g world st tr may r layout site is (Empties i all) e) in
      let done : after_turn bounds (one_thread code s) g tr ≡ made_turn g t words (emptied m lay i all found) = done0.0 ∙ ap (λ k. made_turn g t (slice_set g.words k 0) (emptied m lay i all (slice_index g.words k))) word_is in
      let on : at < length g.words = subst (λ k. k < length g.words) word_is done0.1 in
      let room : g.made t + 1 ≤ 100000000 = few_of x code s ls wt laws g world st tr may r layout site is words (emptied m lay i all found) done (emptied_counted i all found) in
      let ms = cell_store x code s ls g world st o c is_live lt in
      let pw = part_words x code s ls g world st at 0 ms on (omega arith) in
      let w1 = set_slot world (Staged t) (null ty) in
      let w2 = swap w1 o c (Staged t) in
      let staged0 : in_ref world (Staged t) ≡ 0 = st.sim.staged t ∙ ap staged_of e in
      let free : Free world (Staged t) = λ u q us z. cc in
      let inv1 = set_slot_ok (size_of_run code s) (lang_of x) world st.inv (Staged t) ty on_t staged0 free in
      let inv2 : WorldInvariant (size_of_run code s) (lang_of x) w2 = empty_ok (size_of_run code s) (lang_of x) w1 inv1 (lang_laws x code ls wt) t k c (Staged t) win refl (λ u q us z. cc) (st.apart.headers o is_live, (omega arith)) on_t
      (ap (λ (h : TypedReference). h.reference) (place_same world.slots (In (Staged t)) (null ty))) (ap (λ (h : TypedReference). h.ty) (place_same world.slots (In (Staged t)) (null ty))) in
      let fs1 = place (place world.slots (CellOf o c) (null ty)) (In (Staged t)) y0 in
      let same_slots : w2.slots ≡ fs1 = fun_ext (swapped_slots o c ty) in
      let simc = cell_stored x s st.cells st.elements (conc_of code g) world st.sim st.apart o c (null ty) is_live lt ptr in
      let ws : (λ j. slice_index words j) ≡ put (λ j. slice_index g.words j) at 0 = fun_ext (index_put g.words at 0 on) in
      let S : ℕ → ℕ = λ u. staged_of (g.threads u).own.stage in
      let sims = staged_stored x s st.cells st.elements (store (conc_of code g) at 0) (record world { slots = place world.slots (CellOf o c) (null ty) }) simc st.apart t y0 in
      let sim1 : Shows x s st.cells st.elements (record (conc_of code g) { words = λ j. slice_index words j; staged = put S t y0.reference }) (record world { slots = fs1 }) =
      subst (λ f. Shows x s st.cells st.elements (record (conc_of code g) { words = f; staged = put S t y0.reference }) (record world { slots = fs1 })) (sym ws) sims in
      let sim2 : Shows x s st.cells st.elements (record (conc_of code g) { words = λ j. slice_index words j; staged = put S t y0.reference }) w2 =
      subst (λ f. Shows x s st.cells st.elements (record (conc_of code g) { words = λ j. slice_index words j; staged = put S t y0.reference }) (record world { slots = f })) (sym same_slots) sim1 in
      let sim_at : (y : Stage) → IsWalk y → staged_of y ≡ found → Shows x s st.cells st.elements (conc_of code (made_turn g t words (walked x code s ls wt g world st t may.started may.next.runs begun walk m.at.pc y))) w2 = λ y wy ey.
      subst (λ c. Shows x s st.cells st.elements c w2) (sym (conc_held x code s ls wt g world st t may.started may.next.runs begun walk m.at.pc y wy begun words pw.0
      ∙ ap (λ n. record (conc_of code g) { words = λ j. slice_index words j; staged = put S t n }) (ey ∙ sym found_is))) sim2 in
      let cells_off : (p j : ℕ) → (p ≡ o → ⊥) → (w2.slots (CellOf p j)).reference ≡ (world.slots (CellOf p j)).reference = λ p j ne. ap (λ (h : TypedReference). h.reference) (place_other w1.slots (CellOf o c) (CellOf p j) (w1.slots (In (Staged t))) (λ q. ne (cc))) in
      let within : (u b j : ℕ) → st.heap.state b ≡ Built u → InBlock (arena s) st.heap b j → slice_index words j ≡ slice_index g.words j = stored_within x code s ls g world st at 0 ms on in
      let eps : (i : ℕ) → i < granules s → slice_index words (97 + i) ≡ slice_index g.words (97 + i) = λ i l. index_put g.words at 0 on (97 + i) ∙ put_other (λ j. slice_index g.words j) at (97 + i) 0 (λ q. omega arith) in
      let empty2 : AreEmpty code w2 layout o (i + 1) = λ j l. ⊎_elim
      (λ (q : CellOf o (pointer_cell code lay j) ≡ CellOf o c). ap (λ s. (w2.slots s).reference) q ∙ ap (λ (h : TypedReference). h.reference) (place_same w1.slots (CellOf o c) (w1.slots (In (Staged t))) ∙ place_same world.slots (In (Staged t)) (null ty)))
      (λ (ne : CellOf o (pointer_cell code lay j) ≡ CellOf o c → ⊥).
      let old : (world.slots (CellOf o (pointer_cell code lay j))).reference ≡ 0 = subst (λ h. AreEmpty code world layout h i) reads h.0.2 j (⊎_elim (λ (z : j ≡ i). absurd (ne (ap (λ j. CellOf o (pointer_cell code lay j)) z))) (λ (nz : j ≡ i → ⊥). omega arith) (cases_eq j i)) in
      ap (λ (h : TypedReference). h.reference) (place_other w1.slots (CellOf o c) (CellOf o (pointer_cell code lay j)) (w1.slots (In (Staged t))) ne) ∙ old)
      (slot_cases (CellOf o (pointer_cell code lay j)) (CellOf o c)) in
      let emptying : Emptying code st.elements w2 (ref m r) layout all (i + 1) = (h.0.0, (let z = h.1 in omega arith), subst (λ h. AreEmpty code w2 layout h (i + 1)) (sym reads) empty2) in
      let st' : State x code s ls (made_turn g t words (emptied m lay i all found)) w2 = elim found as (λ n. found ≡ n → State x code s ls (made_turn g t words (emptied m lay i all n)) w2) [
        | zero ↦ λ z. split w2.slots world.count (λ u q. refl) (λ u. refl) cells_off words pw.0 pw.1 within eps inv2 room (i + 1) all emptying (pointers_low all h.0.0) (λ y wy ey. sim_at y wy (ey ∙ sym z))
        | suc q ↦ λ z. on_stage w2.slots world.count (λ u q. refl) (λ u. refl) cells_off words pw.0 pw.1 within eps inv2 room (Lowers i all (suc q)) tt (sim_at (Lowers i all (suc q)) tt (sym z)) (emptying, (λ e. absurd (omega arith)))
      ] refl in
      (w2, subst (λ y. State x code s ls y w2) (sym done) st', Silently (record { obj = refl; mutex = refl; passed = λ o p u b q. q; sole = λ u r e. (e, refl) }))
    where
      emptied_counted : (i all found : ℕ) → counted (emptied (g.threads tr.thread) lay i all found).at.state ≡ 1
      emptied_counted i all zero = empties_counted x code s ls wt laws g world st tr may r layout site is (i + 1) all
      emptied_counted i all (suc n) = refl

      swapped_slots : (p c : ℕ) (ty : ObjectType) (q : Slot)
          → (swap (set_slot world (Staged tr.thread) (null ty)) p c (Staged tr.thread)).slots q ≡ place (place world.slots (CellOf p c) (null ty)) (In (Staged tr.thread)) (world.slots (CellOf p c)) q
      swapped_slots p c ty q =
          let w1 = set_slot world (Staged t) (null ty) in
          let mid = place w1.slots (In (Staged t)) (world.slots (CellOf p c)) in
          let new = w1.slots (In (Staged t)) in
          let right = place world.slots (CellOf p c) (null ty) in
          ⊎_elim
          (λ (e : q ≡ CellOf p c). ap (place mid (CellOf p c) new) e ∙ place_same mid (CellOf p c) new ∙ place_same world.slots (In (Staged t)) (null ty)
          ∙ sym (ap (place right (In (Staged t)) (world.slots (CellOf p c))) e ∙ place_same world.slots (CellOf p c) (null ty)))
          (λ (ne : q ≡ CellOf p c → ⊥). place_other mid (CellOf p c) q new ne ∙ ⊎_elim
          (λ (e : q ≡ In (Staged t)). ap mid e ∙ place_same w1.slots (In (Staged t)) (world.slots (CellOf p c)) ∙ sym (ap (place right (In (Staged t)) (world.slots (CellOf p c))) e ∙ place_same right (In (Staged t)) (world.slots (CellOf p c))))
          (λ (ns : q ≡ In (Staged t) → ⊥). place_other w1.slots (In (Staged t)) q (world.slots (CellOf p c)) ns ∙ place_other world.slots (In (Staged t)) q (null ty) ns
          ∙ sym (place_other right (In (Staged t)) q (world.slots (CellOf p c)) ns ∙ place_other world.slots (CellOf p c) q (null ty) ne))
          (slot_cases q (In (Staged t))))
          (slot_cases q (CellOf p c))

  -- and it is given up
  pub free_lowers : (i all found : ℕ) → StageStands code s st.elements world st.heap g.words tr.thread (g.threads tr.thread) (Instr.Free r layout site) (Lowers i all found) → (g.threads tr.thread).own.stage ≡ Lowers i all found → Turned x code s ls g world tr
  free_lowers i all found h e =
      let is_staged : in_ref world (Staged t) ≡ found = st.sim.staged t ∙ ap staged_of e in
      let nzs : in_ref world (Staged t) ≢ 0 = λ z. h.1 (sym is_staged ∙ z) in
      let fit = st.inv.words.fits (In (Staged t)) nzs in
      let live : (world.obj found).live ≡ true = subst (λ p. (world.obj p).live ≡ true) is_staged fit.live in
      let kw = count_is s found (st.apart.headers found live) in
      let at = count_at s found in
      let v = world.count found - 1 in
      let low : 1 ≤ world.count found = subst (λ p. 1 ≤ world.count p) is_staged (count_pos (size_of_run code s) (lang_of x) world st.inv (In (Staged t)) nzs) in
      let made' = (st.rows found h.1 live).0 in
      let total' = st.inv.words.counts found h.1 live made' in
      let most = total_low (size_of_run code s) world.slots found in
      let small = few.counts in
      let cnt : world.count found ≡ slice_index g.words at = st.sim.counts found h.1 live in
      let m' = empties m lay (i + 1) all in
      let words = slice_set g.words at v in
      let done0 = asks_turn code s g tr may (lower_of (count_word s found)) (λ was. m') (free_act x code s ls wt laws g world st tr may r layout site is (Lowers i all found) e) in
      let val : word_after (Sub 1) (slice_index g.words (count_word s found)) ≡ v =
      let e : slice_index g.words (count_word s found) ≡ world.count found = ap (slice_index g.words) kw ∙ sym cnt in
      ap (word_after (Sub 1)) e ∙ (let q : (world.count found + (2 ^ 64 - 1)) % 2 ^ 64 ≡ world.count found - 1 = omega arith in q) in
      let done : after_turn bounds (one_thread code s) g tr ≡ made_turn g t words m' = done0.0 ∙ ap (λ v. made_turn g t (slice_set g.words (count_word s found) v) m') val ∙ ap (λ k. made_turn g t (slice_set g.words k v) m') kw in
      let on : at < length g.words = let a = st.apart.headers found live in let b = st.length_is in omega arith in
      let room : g.made t + 1 ≤ 100000000 = few_of x code s ls wt laws g world st tr may r layout site is words m' done (empties_counted x code s ls wt laws g world st tr may r layout site is (i + 1) all) in
      let ms = count_store x code s ls g world st found h.1 live in
      let pw = part_words x code s ls g world st at v ms on (omega arith) in
      let w2 = drop world (Staged t) in
      let inv2 = drop_ok (size_of_run code s) (lang_of x) world st.inv (Staged t) nzs (λ u q us z. cc) in
      let ws : (λ j. slice_index words j) ≡ put (λ j. slice_index g.words j) at v = fun_ext (index_put g.words at v on) in
      let S : ℕ → ℕ = λ u. staged_of (g.threads u).own.stage in
      let wc : World = record world { count = put world.count found v } in
      let simc = count_stored x s st.cells st.elements (conc_of code g) world st.sim st.apart found v live in
      let sims = staged_stored x s st.cells st.elements (store (conc_of code g) at v) wc simc st.apart t none in
      let sim1 : Shows x s st.cells st.elements (record (conc_of code g) { words = λ j. slice_index words j; staged = put S t 0 }) (record wc { slots = place world.slots (In (Staged t)) none }) =
      subst (λ f. Shows x s st.cells st.elements (record (conc_of code g) { words = f; staged = put S t 0 }) (record wc { slots = place world.slots (In (Staged t)) none })) (sym ws) sims in
      let sim2 : Shows x s st.cells st.elements (record (conc_of code g) { words = λ j. slice_index words j; staged = put S t 0 }) w2 =
      subst (λ p. Shows x s st.cells st.elements (record (conc_of code g) { words = λ j. slice_index words j; staged = put S t 0 }) (record world { slots = place world.slots (In (Staged t)) none; count = put world.count p (world.count p - 1) })) (sym is_staged) sim1 in
      let sim_at : (y : Stage) → IsWalk y → staged_of y ≡ 0 → Shows x s st.cells st.elements (conc_of code (made_turn g t words (walked x code s ls wt g world st t may.started may.next.runs begun walk m.at.pc y))) w2 = λ y wy ey.
      subst (λ c. Shows x s st.cells st.elements c w2) (sym (conc_held x code s ls wt g world st t may.started may.next.runs begun walk m.at.pc y wy begun words pw.0
      ∙ ap (λ n. record (conc_of code g) { words = λ j. slice_index words j; staged = put S t n }) ey)) sim2 in
      let within : (u b j : ℕ) → st.heap.state b ≡ Built u → InBlock (arena s) st.heap b j → slice_index words j ≡ slice_index g.words j = stored_within x code s ls g world st at v ms on in
      let eps : (i : ℕ) → i < granules s → slice_index words (97 + i) ≡ slice_index g.words (97 + i) = λ i l. index_put g.words at v on (97 + i) ∙ put_other (λ j. slice_index g.words j) at (97 + i) v (λ q. omega arith) in (
        w2,
        subst (λ y. State x code s ls y w2) (sym done)
            (split w2.slots w2.count (λ u q. refl) (λ u. refl) (λ p j _. refl) words pw.0 pw.1 within eps inv2 room (i + 1) all h.0 (pointers_low all h.0.0) sim_at),
        Silently (record { obj = refl; mutex = refl; passed = λ o p u b q. q; sole = λ u r e. (e, refl) }),
      )
