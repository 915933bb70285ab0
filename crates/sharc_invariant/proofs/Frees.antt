-- The turns of a Free that load and clear: how many elements there are, and each granule.
use Rattle.sharc_invariant.proofs.{Imports.{◌≡◌, ℕ, ◌+◌, ◌*◌, ◌<◌, ◌≤◌, true, false, cond, List, refl, sym, ap, ◌∙◌, subst, arith, ltb-true, length, slice_index, slice_set, nat_lt, ◌==◌, min, Load, Swap, ShadowLaws, epoch_of, cleared_of, Code, Shape, Stage, Rests, Empties, FreeLooks, FreeClears, Uncounts, granules, length_word, shadow_word, Machine, step_of, instr_at, ref, data_granules, data_granule, at_stage, act, largest, free, free_looks, empties, layout_at, fields, turn, counted, Turn, Global, MayTurn, one_thread, bounds, Layout, Instr, cleared, Targets, Label, Labels, Fine, IsWellTyped, World, Sole, set_gran, Heap, length_at, shadow_at, staged_of, made_turn, ClearsOf, State, GateStands, StageStands, AreCleared, all_pointers, granules_freed, Emptying, Turned, not_less, zero_le}, TurnAt.turn_at, Quiet.{heap_now, label_held}, Walks.{IsWalk, walk_hold}, Turns.{asks_turn, room_of}, Clears.{object, walks_over}, Sweeps.{length_is, word_is, shown_epoch, loaded_stays, quietly, swept, swept_stays, swept_cells}, Own.begun_in}

pub same_le : (n : ℕ) → n ≤ n
same_le n = omega arith

no_below : (i n : ℕ) → n ≡ 0 → i < n → ⊥
no_below i n z lt = omega arith

positive : (n : ℕ) → 0 < min n largest → 0 < n
positive n h = omega arith

zero_is : (n : ℕ) → nat_lt 0 (min n largest) ≡ false → n ≡ 0
zero_is n e = let a = not_less 0 (min n largest) e in omega arith

module _ (x : Targets) (code : Code) (s : Shape) (ls : Labels) (wt : IsWellTyped x code ls) (laws : ShadowLaws) (g : Global Machine) (world : World) (st : State x code s ls g world) (tr : Turn)
    (may : MayTurn bounds (one_thread code s) g tr) (r layout site : ℕ) (is : instr_at code (g.threads tr.thread).at.pc ≡ Instr.Free r layout site) where
  open turn_at st tr use {t, m, here, after, base}

  abbrev pub lay : Layout
  lay = layout_at code layout

  pub free_fine : Fine x code ls (g.threads tr.thread).at.pc here (Instr.Free r layout site)
  free_fine = subst (Fine x code ls m.at.pc here) is (wt.fine m.at.pc)

  pub free_begun : (pc : ℕ) → (ls.at pc).function ≡ here.function → (pc == 0) ≡ false
  free_begun = begun_in x code ls wt m.at.pc (λ site' z. let q : Instr.Free r layout site ≡ Instr.Start site' = sym is ∙ z in cc) (λ z. let q : Instr.Free r layout site ≡ Instr.Exit = sym is ∙ z in cc)

  abbrev begun : ((g.threads tr.thread).at.pc == 0) ≡ false
  begun = free_begun (g.threads tr.thread).at.pc refl

  pub few_of : (words : List ℕ) (m' : Machine) → after ≡ made_turn g tr.thread words m' → counted m'.at.state ≡ 1 → g.made tr.thread + 1 ≤ 100000000
  few_of words m' e c = let a = room_of code s g tr may words m' e in omega arith

  pub free_looks_counted : (done all : ℕ) → counted (free_looks (g.threads tr.thread) lay done all).at.state ≡ 1
  free_looks_counted done all = elim (nat_lt done (data_granules all lay.cells)) as (λ b. counted (cond b (at_stage m (FreeLooks done all)) (at_stage m (Uncounts all))).at.state ≡ 1) [ true ↦ refl | false ↦ refl ]

  pub empties_counted : (i all : ℕ) → counted (empties (g.threads tr.thread) lay i all).at.state ≡ 1
  empties_counted i all = elim (nat_lt i (min (all * fields lay) largest)) as (λ b. counted (cond b (at_stage m (Empties i all)) (free_looks m lay 0 all)).at.state ≡ 1) [ true ↦ refl | false ↦ free_looks_counted 0 all ]

  pub free_act : (y : Stage) → (g.threads tr.thread).own.stage ≡ y → turn code s (g.threads tr.thread) ≡ free code s (g.threads tr.thread) r lay y
  free_act y e = ap (λ i. act code s i m) is ∙ ap (free code s m r lay) e

  -- what a stage of the next place wants, by its instruction
  pub at_free : (w : World) (heap : Heap) (words : List ℕ) (y : Stage) → StageStands code s st.elements w heap words tr.thread (g.threads tr.thread) (Instr.Free r layout site) y
      → StageStands code s st.elements w heap words tr.thread (g.threads tr.thread) (instr_at code (g.threads tr.thread).at.pc) y
  at_free w heap words y h = subst (λ i. StageStands code s st.elements w heap words t m i y) (sym is) h

  module _ (walk : IsWalk (g.threads tr.thread).own.stage) where
    pub free_win : world.win tr.thread ≡ Sole ((g.threads tr.thread).at.refs + r)
    free_win = subst (GateStands s world t m) free_fine.0.1 (subst (λ (l : Label). GateStands s world t m l.gate) (label_held here (instr_at code m.at.pc) m.own.stage (walk_hold m.own.stage walk)) ((st.threads t).runs may.started may.next.runs).gate)

    abbrev pub o : ℕ
    o = object x code s ls wt g world st tr may walk begun r free_win free_fine.2

    open walks_over x code s ls wt g world st tr may walk begun r free_win free_fine.2 use {reads as free_reads, nz as free_some, is_live as free_live}

    pub head : o < granules s
    head = st.apart.headers o free_live

    pub free_cells : st.cells o ≡ st.elements o * lay.cells
    free_cells = swept_cells x code s ls wt laws g world st tr may walk begun r free_win free_fine.2 lay.cells free_fine.3.0 free_fine.3.1 free_fine.3.2.cells

    granules_of : (all : ℕ) → all ≡ st.elements (ref (g.threads tr.thread) r) → granules_freed code layout all ≡ data_granules (st.elements o) lay.cells
    granules_of all e = ap (λ n. data_granules n lay.cells) (e ∙ ap st.elements free_reads)

    -- it stays at a stage of this instruction, and a word is loaded
    free_stays : (y : Stage) → IsWalk y → staged_of y ≡ staged_of (g.threads tr.thread).own.stage → StageStands code s st.elements world (heap_now st.heap g.words) g.words tr.thread (g.threads tr.thread) (Instr.Free r layout site) y → g.made tr.thread + 1 ≤ 100000000
        → State x code s ls (made_turn g tr.thread g.words (at_stage (g.threads tr.thread) y)) world
    free_stays y wy same h = loaded_stays x code s ls wt laws g world st tr may walk begun r free_win free_fine.2 lay.cells free_fine.3.0 free_fine.3.1 free_fine.3.2.cells y wy same (at_free world (heap_now st.heap g.words) g.words y h)

    -- on to the next granule, or all are cleared
    pub granules_split : (words : List ℕ) (w' : World) (done all : ℕ) → AreCleared w' (ref (g.threads tr.thread) r) done
        → (done < granules_freed code layout all → State x code s ls (made_turn g tr.thread words (at_stage (g.threads tr.thread) (FreeLooks done all))) w')
        → (AreCleared w' (ref (g.threads tr.thread) r) (granules_freed code layout all) → State x code s ls (made_turn g tr.thread words (at_stage (g.threads tr.thread) (Uncounts all))) w')
        → State x code s ls (made_turn g tr.thread words (free_looks (g.threads tr.thread) lay done all)) w'
    granules_split words w' done all cl a b =
        let n = granules_freed code layout all in
        elim (nat_lt done n) as (λ c. nat_lt done n ≡ c → State x code s ls (made_turn g t words (cond c (at_stage m (FreeLooks done all)) (at_stage m (Uncounts all)))) w') [
          | true ↦ λ e. a (ltb-true done n e)
          | false ↦ λ e. b (λ q lt. cl q (let z = not_less done n e in omega arith))
        ] refl

    -- the first turn: how many elements there are
    pub free_first : (g.threads tr.thread).own.stage ≡ Rests → Turned x code s ls g world tr
    free_first at_rest =
        let lw = length_word s (ref m r) in
        let all = slice_index g.words lw in
        let m' = empties m lay 0 all in
        let lw_is : lw ≡ length_at s o = ap (length_word s) free_reads ∙ length_is s o head in
        let len : all ≡ st.elements (ref m r) = sym (st.sim.lengths o free_some free_live ∙ ap (slice_index g.words) (sym lw_is)) ∙ ap st.elements (sym free_reads) in
        let done0 = asks_turn code s g tr may (step_of lw Load) (λ found. empties m lay 0 found) (free_act Rests at_rest) in
        let few = few_of (slice_set g.words lw all) m' done0.0 (empties_counted 0 all) in
        let P = all_pointers code layout all in
        let none' : (j : ℕ) → P ≡ 0 → Emptying code st.elements world (ref m r) layout all P = λ j z. (len, same_le P, λ i lt. absurd (no_below i P z lt)) in
        let st' : State x code s ls (made_turn g t g.words m') world =
        elim (nat_lt 0 (min P largest)) as (λ c. nat_lt 0 (min P largest) ≡ c → State x code s ls (made_turn g t g.words (cond c (at_stage m (Empties 0 all)) (free_looks m lay 0 all))) world) [
          | true ↦ λ e. let pos : 0 < P = positive P (ltb-true 0 (min P largest) e) in
              free_stays (Empties 0 all) tt (sym (ap staged_of at_rest)) ((len, zero_le P, λ i l. absurd (no_below i 0 refl l)), pos) few
          | false ↦ λ e. let z : P ≡ 0 = zero_is P e in
              granules_split g.words world 0 all (λ q l. absurd (no_below q 0 refl l))
              (λ lt. free_stays (FreeLooks 0 all) tt (sym (ap staged_of at_rest)) (none' 0 z, (lt, λ q l. absurd (no_below q 0 refl l))) few)
              (λ cl. free_stays (Uncounts all) tt (sym (ap staged_of at_rest)) (none' 0 z, cl) few)
        ] refl in
        quietly x code s ls wt laws g world st tr may walk begun r free_win free_fine.2 lay.cells free_fine.3.0 free_fine.3.1 free_fine.3.2.cells m' lw done0.0 st'

    pub free_looks_turn : (done all : ℕ) → StageStands code s st.elements world st.heap g.words tr.thread (g.threads tr.thread) (Instr.Free r layout site) (FreeLooks done all) → (g.threads tr.thread).own.stage ≡ FreeLooks done all → Turned x code s ls g world tr
    free_looks_turn done all h e =
        let lt : done < data_granules (st.elements o) lay.cells = subst (λ c. done < c) (granules_of all h.0.0) h.1.0 in
        let k = shadow_word s (data_granule (ref m r) done) in
        let found = slice_index g.words k in
        let m' = at_stage m (FreeClears done all found) in
        let done0 = asks_turn code s g tr may (step_of k Load) (λ found. at_stage m (FreeClears done all found)) (free_act (FreeLooks done all) e) in
        quietly x code s ls wt laws g world st tr may walk begun r free_win free_fine.2 lay.cells free_fine.3.0 free_fine.3.1 free_fine.3.2.cells m' k done0.0 (free_stays (FreeClears done all found) tt (sym (ap staged_of e)) (h.0, (h.1.0, h.1.1, shown_epoch x code s ls wt laws g world st tr may walk begun r free_win free_fine.2 lay.cells free_fine.3.0 free_fine.3.1 free_fine.3.2.cells done lt)) (few_of (slice_set g.words k found) m' done0.0 refl))

    pub free_swaps : (done all seen : ℕ) → StageStands code s st.elements world st.heap g.words tr.thread (g.threads tr.thread) (Instr.Free r layout site) (FreeClears done all seen) → (g.threads tr.thread).own.stage ≡ FreeClears done all seen → Turned x code s ls g world tr
    free_swaps done all seen h e =
        let lt : done < data_granules (st.elements o) lay.cells = subst (λ c. done < c) (granules_of all h.0.0) h.1.0 in
        let k = shadow_at s (o + 1 + done) in
        let words = slice_set g.words k (cleared_of seen) in
        let m' = free_looks m lay (done + 1) all in
        let done0 = asks_turn code s g tr may (step_of (shadow_word s (data_granule (ref m r) done)) (Swap (cleared_of seen))) (λ found. m') (free_act (FreeClears done all seen) e) in
        let is_word = word_is x code s ls wt laws g world st tr may walk begun r free_win free_fine.2 lay.cells free_fine.3.0 free_fine.3.1 free_fine.3.2.cells done lt in
        let now : after ≡ made_turn g t words m' = done0.0 ∙ ap (λ k. made_turn g t (slice_set g.words k (cleared_of seen)) m') is_word in
        let on : k < length g.words = subst (λ k. k < length g.words) is_word done0.1 in
        let few = few_of words m' now (free_looks_counted (done + 1) all) in
        let ep : epoch_of seen ≡ (world.gran o done).epoch = h.1.2 ∙ ap (λ h. (world.gran h done).epoch) free_reads in
        let before : AreCleared world o done = subst (λ h. AreCleared world h done) free_reads h.1.1 in
        let w' = set_gran world o done (cleared (world.gran o done)) in
        let on_stage : (y : Stage) → IsWalk y → staged_of y ≡ staged_of m.own.stage → StageStands code s st.elements w' (heap_now st.heap words) words t m (Instr.Free r layout site) y → State x code s ls (made_turn g t words (at_stage m y)) w' = λ y wy same sh.
        swept_stays x code s ls wt laws g world st tr may walk begun r free_win free_fine.2 lay.cells free_fine.3.0 free_fine.3.1 free_fine.3.2.cells done seen lt ep before on y wy same (at_free w' (heap_now st.heap words) words y sh) few in
        let st' : State x code s ls (made_turn g t words m') w' = granules_split words w' (done + 1) all (swept x code s ls wt laws g world st tr may walk begun r free_win free_fine.2 lay.cells free_fine.3.0 free_fine.3.1 free_fine.3.2.cells done seen lt ep before on)
        (λ l. on_stage (FreeLooks (done + 1) all) tt (sym (ap staged_of e)) (h.0, (l, swept x code s ls wt laws g world st tr may walk begun r free_win free_fine.2 lay.cells free_fine.3.0 free_fine.3.1 free_fine.3.2.cells done seen lt ep before on)))
        (λ c. on_stage (Uncounts all) tt (sym (ap staged_of e)) (h.0, c)) in
        (w', subst (λ y. State x code s ls y w') (sym now) st', ClearsOf (base + r) done free_win refl)
