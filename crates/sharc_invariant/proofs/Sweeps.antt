-- The granules of an object that a thread has alone are cleared one by one, by whichever instruction: each shadow word is loaded and then swapped.
use Rattle.sharc_invariant.proofs.{Imports.{◌≡◌, ℕ, suc, ◌+◌, ◌*◌, ◌<◌, ◌≤◌, true, false, List, refl, sym, ap, ◌∙◌, subst, ⊎_elim, arith, cases_eq, nat_tests, set-get_or, fun_ext, length, slice_index, slice_set, nat_lt, ◌==◌, THREADS, ShadowLaws, epoch_of, cleared_of, Code, Shape, Stage, granules, granule_at, first_cell, length_word, shadow_word, Machine, instr_at, ref, data_granules, data_granule, at_stage, rests, Turn, Global, put, MayTurn, after_turn, one_thread, bounds, put_same, put_all, Passed, cleared, sum_to, Targets, cells_of, Labels, IsWellTyped, World, Sole, put2, set_gran, lang_of, conc_of, Shows, length_at, shadow_at, staged_of, made_turn, State, StageStands, AreCleared, size_of_run, Turned, StaticType, Refers, GranuleState, Kept, Leads, gated, SoleGate, IsUnpassed, ◌^◌}, TurnAt.turn_at, Effects.clear_ok, Plain.same_words, Quiet.heap_now, Changes.KeepsLow, Walks.IsWalk, Stores.{index_put, shadow_store, stored_within, MayStore}, Seen.{shadow_stored, put2_off}, Clears.{in_cells, sum_more, epochs_low, cleared_small, cleared_reads, part_words, object, walks_over, walked_target, stays_on, goes_on}, Turns.unseen}

pub length_is : (s : Shape) (o : ℕ) → o < granules s → length_word s o ≡ length_at s o
length_is s o lt = let e : nat_lt o (granules s) ≡ true = grind (arith, nat_tests) in let q : granule_at s o ≡ o = rw e refl in omega arith

-- ---- what stands of a granule behind its clear
pub cleared_more : (w : World) (o done : ℕ) → ((u : ℕ) → (w.gran o done).read_note u ≤ suc (w.gran o done).epoch) → ((u : ℕ) → (w.gran o done).write_note u ≤ suc (w.gran o done).epoch)
    → AreCleared w o done → AreCleared (set_gran w o done (cleared (w.gran o done))) o (done + 1)
cleared_more w o done rl wl old g lt u p = ⊎_elim
    (λ (e : g ≡ done).
    let q : put2 w.gran o done (cleared (w.gran o done)) o g ≡ cleared (w.gran o done) = ap (λ f. f g) (put_same w.gran o (put (w.gran o) done (cleared (w.gran o done)))) ∙ ap (put (w.gran o) done (cleared (w.gran o done))) e ∙ put_same (w.gran o) done (cleared (w.gran o done)) in
    ⊎_elim (λ (z : (w.gran o done).read_note u ≡ suc (suc (w.gran o done).epoch)). let a = rl u in omega arith) (λ (z : (w.gran o done).write_note u ≡ suc (suc (w.gran o done).epoch)). let a = wl u in omega arith)
    (subst (λ y. Passed y u false) q p))
    (λ (ne : g ≡ done → ⊥). old g (omega arith) u (subst (λ y. Passed y u false) (sym (put2_off w.gran o done o g (cleared (w.gran o done)) (λ _ e. ne e))) p))
    (cases_eq g done)

module _ (x : Targets) (code : Code) (s : Shape) (ls : Labels) (wt : IsWellTyped x code ls) (laws : ShadowLaws) (g : Global Machine) (world : World) (st : State x code s ls g world) (tr : Turn)
    (may : MayTurn bounds (one_thread code s) g tr) (walk : IsWalk (g.threads tr.thread).own.stage) (begun : ((g.threads tr.thread).at.pc == 0) ≡ false)
    (r : ℕ) (win : world.win tr.thread ≡ Sole ((g.threads tr.thread).at.refs + r)) (unpassed : IsUnpassed (ls.at (g.threads tr.thread).at.pc) r)
    (n : ℕ) (ty : StaticType) (known : (ls.at (g.threads tr.thread).at.pc).env r ≡ Refers ty) (n_is : n ≡ cells_of x ty.target) where
  open turn_at st tr use {t, m, base}

  abbrev o : ℕ
  o = object x code s ls wt g world st tr may walk begun r win unpassed

  open walks_over x code s ls wt g world st tr may walk begun r win unpassed use {reads, nz, is_live}

  pub swept_cells : st.cells o ≡ st.elements o * n
  swept_cells =
      let target = walked_target x code s ls wt g world st tr may walk begun r win unpassed ty known in
      (st.whole o nz is_live).1 ∙ ap (λ c. st.elements o * cells_of x c) target ∙ ap (λ c. st.elements o * c) (sym n_is)

  inside : (done : ℕ) → done < data_granules (st.elements o) n → 2 * done < st.cells o
  inside done lt = let a = in_cells (st.elements o * n) done lt in subst (λ c. 2 * done < c) (sym swept_cells) a

  pub word_is : (done : ℕ) → done < data_granules (st.elements o) n → shadow_word s (data_granule (ref (g.threads tr.thread) r) done) ≡ shadow_at s (o + 1 + done)
  word_is done lt =
      let p = o + 1 + done in
      let l = st.apart.within o done is_live (inside done lt) in
      let at : granule_at s p ≡ p = let e : nat_lt p (granules s) ≡ true = grind (arith, nat_tests) in rw e refl in
      ap (λ h. shadow_word s (data_granule h done)) reads ∙ ap (λ q. 97 + q) at

  -- the epoch that its shadow word shows
  pub shown_epoch : (done : ℕ) → done < data_granules (st.elements o) n
      → epoch_of (slice_index g.words (shadow_word s (data_granule (ref (g.threads tr.thread) r) done))) ≡ (world.gran (ref (g.threads tr.thread) r) done).epoch
  shown_epoch done lt =
      let rd = st.sim.shadows o done is_live (inside done lt) in
      ap (λ k. epoch_of (slice_index g.words k)) (word_is done lt) ∙ sym rd.epoch ∙ ap (λ h. (world.gran h done).epoch) (sym reads)

  -- a word is loaded
  same_low : KeepsLow g.words g.words
  same_low = record { count = refl; low = λ j _ _. refl; are_words = st.are_words }

  later : (i : ℕ) → i < granules s → epoch_of (slice_index g.words (97 + i)) ≤ sum_to THREADS (put g.made tr.thread (g.made tr.thread + 1))
  later i lt = let a = st.epochs i lt in let b = sum_more g.made t 1 (st.begins.few t may.started) in omega arith

  pub loaded_stays : (y : Stage) → IsWalk y → staged_of y ≡ staged_of (g.threads tr.thread).own.stage → StageStands code s st.elements world (heap_now st.heap g.words) g.words tr.thread (g.threads tr.thread) (instr_at code (g.threads tr.thread).at.pc) y → g.made tr.thread + 1 ≤ 100000000
      → State x code s ls (made_turn g tr.thread g.words (at_stage (g.threads tr.thread) y)) world
  loaded_stays = stays_on x code s ls wt g world st tr may walk begun r win unpassed world.gran (λ q h _. refl) g.words same_low (same_words x code s ls g world st).kept (λ u b j _ _. refl) st.inv st.sim later

  pub loaded_goes : staged_of (g.threads tr.thread).own.stage ≡ 0 → Leads ls ((g.threads tr.thread).at.pc + 1) (gated (ls.at (g.threads tr.thread).at.pc) (SoleGate r true)) → (((g.threads tr.thread).at.pc + 1 == 0) ≡ false) → g.made tr.thread + 1 ≤ 100000000
      → State x code s ls (made_turn g tr.thread g.words (rests (g.threads tr.thread))) world
  loaded_goes = goes_on x code s ls wt g world st tr may walk begun r win unpassed world.gran (λ q h _. refl) g.words same_low (same_words x code s ls g world st).kept (λ u b j _ _. refl) st.inv st.sim later true

  pub quietly : (m' : Machine) (k : ℕ) → after_turn bounds (one_thread code s) g tr ≡ made_turn g tr.thread (slice_set g.words k (slice_index g.words k)) m' → State x code s ls (made_turn g tr.thread g.words m') world → Turned x code s ls g world tr
  quietly m' k e h = unseen x code s ls g world tr _ (e ∙ ap (λ ws. made_turn g t ws m') (set-get_or g.words k 0)) h

  -- the shadow word of a granule is swapped for one with the next epoch
  module _ (done seen : ℕ) (lt : done < data_granules (st.elements o) n) (ep : epoch_of seen ≡ (world.gran o done).epoch) (before : AreCleared world o done) (on : shadow_at s (o + 1 + done) < length g.words) where
    abbrev k : ℕ
    k = shadow_at s (o + 1 + done)

    abbrev v : ℕ
    v = cleared_of seen

    abbrev words : List ℕ
    words = slice_set g.words k v

    abbrev old : GranuleState
    old = world.gran o done

    abbrev old' : GranuleState
    old' = cleared (world.gran o done)

    abbrev w' : World
    w' = set_gran world o done old'

    within' : o + 1 + done < granules s
    within' = st.apart.within o done is_live (inside done lt)

    may_store : MayStore s st.heap k
    may_store = shadow_store x code s ls g world st (o + 1 + done) within'

    parts : KeepsLow g.words words × Kept (record { first = 1 + s.globals; words = first_cell s }) (record st.heap { words = λ i. slice_index words i })
    parts = part_words x code s ls g world st k v may_store on (cleared_small seen)

    low_epoch : old.epoch + 1 < 2 ^ 32
    low_epoch = let rd = st.sim.shadows o done is_live (inside done lt) in let e = rd.epoch in let sum = st.epochs (o + 1 + done) within' in let low = epochs_low g.made st.few in omega arith

    shows : Shows x s st.cells st.elements (record (conc_of code g) { words = λ j. slice_index words j }) w'
    shows =
        let rd = st.sim.shadows o done is_live (inside done lt) in
        let rd' = cleared_reads laws (slice_index g.words k) seen (conc_of code g).read_notes (conc_of code g).write_notes (o + 1 + done) old rd ep low_epoch in
        subst (λ f. Shows x s st.cells st.elements (record (conc_of code g) { words = f }) w') (sym (fun_ext (index_put g.words k v on)))
        (shadow_stored x s st.cells st.elements (conc_of code g) world st.sim st.apart o done v old' (conc_of code g).read_notes (conc_of code g).write_notes is_live (inside done lt) rd' (λ u q _. refl) (λ u q _. refl))

    off : (q h : ℕ) → (q ≡ o → ⊥) → put2 world.gran o done old' q h ≡ world.gran q h
    off q h ne = sym (put2_off world.gran o done q h old' (λ z _. ne z))

    epochs : (i : ℕ) → i < granules s → epoch_of (slice_index words (97 + i)) ≤ sum_to THREADS (put g.made tr.thread (g.made tr.thread + 1))
    epochs i l =
        let rd = st.sim.shadows o done is_live (inside done lt) in
        let old_epoch = rd.epoch in
        let new_epoch = (cleared_reads laws (slice_index g.words k) seen (conc_of code g).read_notes (conc_of code g).write_notes (o + 1 + done) old rd ep low_epoch).epoch in
        let sum = st.epochs (o + 1 + done) within' in
        let more = sum_more g.made t 1 (st.begins.few t may.started) in
        subst (λ y. epoch_of y ≤ sum_to THREADS (put g.made t (g.made t + 1))) (sym (index_put g.words k v on (97 + i)))
        (put_all (λ j y. j ≡ 97 + i → epoch_of y ≤ sum_to THREADS (put g.made t (g.made t + 1))) (λ j. slice_index g.words j) k v (λ _. omega arith) (λ j _ e. subst (λ j. epoch_of (slice_index g.words j) ≤ sum_to THREADS (put g.made t (g.made t + 1))) (sym e) (later i l)) (97 + i) refl)

    pub swept : AreCleared w' (ref (g.threads tr.thread) r) (done + 1)
    swept = let bits = st.inv.bits o done in subst (λ h. AreCleared w' h (done + 1)) (sym reads) (cleared_more world o done bits.read_low bits.write_low before)

    pub swept_stays : (y : Stage) → IsWalk y → staged_of y ≡ staged_of (g.threads tr.thread).own.stage → StageStands code s st.elements w' (heap_now st.heap words) words tr.thread (g.threads tr.thread) (instr_at code (g.threads tr.thread).at.pc) y → g.made tr.thread + 1 ≤ 100000000
        → State x code s ls (made_turn g tr.thread words (at_stage (g.threads tr.thread) y)) w'
    swept_stays = stays_on x code s ls wt g world st tr may walk begun r win unpassed (put2 world.gran o done old') off words parts.0 parts.1 (stored_within x code s ls g world st k v may_store on)
        (clear_ok (size_of_run code s) (lang_of x) world st.inv t (base + r) done win) shows epochs

    pub swept_goes : staged_of (g.threads tr.thread).own.stage ≡ 0 → Leads ls ((g.threads tr.thread).at.pc + 1) (gated (ls.at (g.threads tr.thread).at.pc) (SoleGate r true)) → (((g.threads tr.thread).at.pc + 1 == 0) ≡ false) → g.made tr.thread + 1 ≤ 100000000
        → State x code s ls (made_turn g tr.thread words (rests (g.threads tr.thread))) w'
    swept_goes = goes_on x code s ls wt g world st tr may walk begun r win unpassed (put2 world.gran o done old') off words parts.0 parts.1 (stored_within x code s ls g world st k v may_store on)
        (clear_ok (size_of_run code s) (lang_of x) world st.inv t (base + r) done win) shows epochs true
