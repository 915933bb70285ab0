-- Clear keeps the invariant: it loads how many elements there are, and for each granule its shadow word, and swaps it.
use Rattle.sharc_invariant.proofs.{Imports.{◌≡◌, ℕ, ◌+◌, ◌<◌, ◌≤◌, true, false, cond, List, refl, sym, ap, ◌∙◌, subst, arith, ltb-true, length, slice_index, slice_set, nat_lt, ◌==◌, Load, Swap, ShadowLaws, epoch_of, cleared_of, Code, Shape, Stage, Rests, Looks, Clears, length_word, shadow_word, Machine, step_of, instr_at, ref, looks, clear, data_granules, data_granule, at_stage, act, rests, turn, counted, Turn, Global, MayTurn, one_thread, bounds, Instr, cleared, Targets, Label, Labels, Fine, IsWellTyped, World, Sole, set_gran, length_at, shadow_at, staged_of, made_turn, ClearsOf, State, GateStands, StageStands, AreCleared, Turned}, TurnAt.turn_at, Quiet.{heap_now, label_held}, Walks.{IsWalk, walk_hold}, Turns.{asks_turn, room_of}, Clears.{clear_cases, object, walks_over}, Sweeps.{length_is, word_is, shown_epoch, loaded_stays, loaded_goes, quietly, swept, swept_stays, swept_goes}, Own.begun_in}

module _ (x : Targets) (code : Code) (s : Shape) (ls : Labels) (wt : IsWellTyped x code ls) (laws : ShadowLaws) (g : Global Machine) (world : World) (st : State x code s ls g world) (tr : Turn)
    (may : MayTurn bounds (one_thread code s) g tr) (r n : ℕ) (is : instr_at code (g.threads tr.thread).at.pc ≡ Instr.Clear r n) where
  open turn_at st tr use {t, m, here, after, base}

  fine : Fine x code ls (g.threads tr.thread).at.pc here (Instr.Clear r n)
  fine = subst (Fine x code ls m.at.pc here) is (wt.fine m.at.pc)

  begun_at : (pc : ℕ) → (ls.at pc).function ≡ here.function → (pc == 0) ≡ false
  begun_at = begun_in x code ls wt m.at.pc (λ site z. let q : Instr.Clear r n ≡ Instr.Start site = sym is ∙ z in cc) (λ z. let q : Instr.Clear r n ≡ Instr.Exit = sym is ∙ z in cc)

  begun : ((g.threads tr.thread).at.pc == 0) ≡ false
  begun = begun_at m.at.pc refl

  few_of : (words : List ℕ) (m' : Machine) → after ≡ made_turn g tr.thread words m' → counted m'.at.state ≡ 1 → g.made tr.thread + 1 ≤ 100000000
  few_of words m' e c = let a = room_of code s g tr may words m' e in omega arith

  looks_counted : (done all : ℕ) → counted (looks (g.threads tr.thread) done all).at.state ≡ 1
  looks_counted done all = elim (nat_lt done all) as (λ b. counted (cond b (at_stage m (Looks done all)) (rests m)).at.state ≡ 1) [ true ↦ refl | false ↦ refl ]

  looks_split : (words : List ℕ) (w' : World) (done all : ℕ) → (done < all → State x code s ls (made_turn g tr.thread words (at_stage (g.threads tr.thread) (Looks done all))) w')
      → State x code s ls (made_turn g tr.thread words (rests (g.threads tr.thread))) w' → State x code s ls (made_turn g tr.thread words (looks (g.threads tr.thread) done all)) w'
  looks_split words w' done all a b = elim (nat_lt done all) as (λ c. nat_lt done all ≡ c → State x code s ls (made_turn g t words (cond c (at_stage m (Looks done all)) (rests m))) w') [
    | true ↦ λ e. a (ltb-true done all e)
    | false ↦ λ e. b
  ] refl

  act_at : (y : Stage) → (g.threads tr.thread).own.stage ≡ y → turn code s (g.threads tr.thread) ≡ clear s (g.threads tr.thread) (ref (g.threads tr.thread) r) n y
  act_at y e = ap (λ i. act code s i m) is ∙ ap (clear s m (ref m r) n) e

  module _ (walk : IsWalk (g.threads tr.thread).own.stage) where
    win : world.win tr.thread ≡ Sole ((g.threads tr.thread).at.refs + r)
    win = subst (GateStands s world t m) fine.0 (subst (λ (l : Label). GateStands s world t m l.gate) (label_held here (instr_at code m.at.pc) m.own.stage (walk_hold m.own.stage walk)) ((st.threads t).runs may.started may.next.runs).gate)

    abbrev o : ℕ
    o = object x code s ls wt g world st tr may walk begun r win fine.1

    open walks_over x code s ls wt g world st tr may walk begun r win fine.1 use {reads, nz, is_live}

    elements_of_it : (all : ℕ) → all ≡ data_granules (st.elements (ref (g.threads tr.thread) r)) n → all ≡ data_granules (st.elements o) n
    elements_of_it all e = e ∙ ap (λ h. data_granules (st.elements h) n) reads

    clear_first : (g.threads tr.thread).own.stage ≡ Rests → Turned x code s ls g world tr
    clear_first e =
        let lw = length_word s (ref m r) in
        let found = slice_index g.words lw in
        let all = data_granules found n in
        let m' = looks m 0 all in
        let lw_is : lw ≡ length_at s o = ap (length_word s) reads ∙ length_is s o (st.apart.headers o is_live) in
        let len : st.elements o ≡ found = st.sim.lengths o nz is_live ∙ ap (slice_index g.words) (sym lw_is) in
        let all_is : all ≡ data_granules (st.elements (ref m r)) n = ap (λ c. data_granules c n) (sym len) ∙ ap (λ h. data_granules (st.elements h) n) (sym reads) in
        let done0 = asks_turn code s g tr may (step_of lw Load) (λ found. looks m 0 (data_granules found n)) (act_at Rests e) in
        let few = few_of (slice_set g.words lw found) m' done0.0 (looks_counted 0 all) in
        quietly x code s ls wt laws g world st tr may walk begun r win fine.1 n fine.2.0 fine.2.1 fine.2.2 m' lw done0.0 (looks_split g.words world 0 all
        (λ lt. loaded_stays x code s ls wt laws g world st tr may walk begun r win fine.1 n fine.2.0 fine.2.1 fine.2.2 (Looks 0 all) tt (sym (ap staged_of e)) (subst (λ i. StageStands code s st.elements world (heap_now st.heap g.words) g.words t m i (Looks 0 all)) (sym is) (all_is, (lt, λ h l. absurd (omega arith)))) few)
        (loaded_goes x code s ls wt laws g world st tr may walk begun r win fine.1 n fine.2.0 fine.2.1 fine.2.2 (ap staged_of e) fine.2.3 (begun_at (m.at.pc + 1) fine.2.3.function) few))

    clear_looks : (done all : ℕ) → StageStands code s st.elements world st.heap g.words tr.thread (g.threads tr.thread) (Instr.Clear r n) (Looks done all) → (g.threads tr.thread).own.stage ≡ Looks done all → Turned x code s ls g world tr
    clear_looks done all h e =
        let lt : done < data_granules (st.elements o) n = subst (λ c. done < c) (elements_of_it all h.0) h.1.0 in
        let k = shadow_word s (data_granule (ref m r) done) in
        let found = slice_index g.words k in
        let m' = at_stage m (Clears done all found) in
        let done0 = asks_turn code s g tr may (step_of k Load) (λ found. at_stage m (Clears done all found)) (act_at (Looks done all) e) in
        quietly x code s ls wt laws g world st tr may walk begun r win fine.1 n fine.2.0 fine.2.1 fine.2.2 m' k done0.0 (loaded_stays x code s ls wt laws g world st tr may walk begun r win fine.1 n fine.2.0 fine.2.1 fine.2.2 (Clears done all found) tt (sym (ap staged_of e))
        (subst (λ i. StageStands code s st.elements world (heap_now st.heap g.words) g.words t m i (Clears done all found)) (sym is) (h.0, (h.1.0, h.1.1, shown_epoch x code s ls wt laws g world st tr may walk begun r win fine.1 n fine.2.0 fine.2.1 fine.2.2 done lt)))
        (few_of (slice_set g.words k found) m' done0.0 refl))

    clear_swaps : (done all seen : ℕ) → StageStands code s st.elements world st.heap g.words tr.thread (g.threads tr.thread) (Instr.Clear r n) (Clears done all seen) → (g.threads tr.thread).own.stage ≡ Clears done all seen → Turned x code s ls g world tr
    clear_swaps done all seen h e =
        let lt : done < data_granules (st.elements o) n = subst (λ c. done < c) (elements_of_it all h.0) h.1.0 in
        let k = shadow_at s (o + 1 + done) in
        let words = slice_set g.words k (cleared_of seen) in
        let m' = looks m (done + 1) all in
        let done0 = asks_turn code s g tr may (step_of (shadow_word s (data_granule (ref m r) done)) (Swap (cleared_of seen))) (λ found. m') (act_at (Clears done all seen) e) in
        let is_word = word_is x code s ls wt laws g world st tr may walk begun r win fine.1 n fine.2.0 fine.2.1 fine.2.2 done lt in
        let now : after ≡ made_turn g t words m' = done0.0 ∙ ap (λ k. made_turn g t (slice_set g.words k (cleared_of seen)) m') is_word in
        let on : k < length g.words = subst (λ k. k < length g.words) is_word done0.1 in
        let few = few_of words m' now (looks_counted (done + 1) all) in
        let ep : epoch_of seen ≡ (world.gran o done).epoch = h.1.2 ∙ ap (λ h. (world.gran h done).epoch) reads in
        let before : AreCleared world o done = subst (λ h. AreCleared world h done) reads h.1.1 in
        let w' = set_gran world o done (cleared (world.gran o done)) in
        let st' : State x code s ls (made_turn g t words m') w' = looks_split words w' (done + 1) all
        (λ l. swept_stays x code s ls wt laws g world st tr may walk begun r win fine.1 n fine.2.0 fine.2.1 fine.2.2 done seen lt ep before on (Looks (done + 1) all) tt (sym (ap staged_of e))
        (subst (λ i. StageStands code s st.elements w' (heap_now st.heap words) words t m i (Looks (done + 1) all)) (sym is) (h.0, (l, swept x code s ls wt laws g world st tr may walk begun r win fine.1 n fine.2.0 fine.2.1 fine.2.2 done seen lt ep before on))) few)
        (swept_goes x code s ls wt laws g world st tr may walk begun r win fine.1 n fine.2.0 fine.2.1 fine.2.2 done seen lt ep before on (ap staged_of e) fine.2.3 (begun_at (m.at.pc + 1) fine.2.3.function) few) in
        (w', subst (λ y. State x code s ls y w') (sym now) st', ClearsOf (base + r) done win refl)

  pub Clear_keeps : Turned x code s ls g world tr
  Clear_keeps =
      let rn = (st.threads t).runs may.started may.next.runs in
      clear_cases code s st.elements world st.heap g.words t m r n (λ y. m.own.stage ≡ y → Turned x code s ls g world tr)
      (λ e. clear_first (subst IsWalk (sym e) tt) e)
      (λ done all h e. clear_looks (subst IsWalk (sym e) tt) done all h e)
      (λ done all seen h e. clear_swaps (subst IsWalk (sym e) tt) done all seen h e)
      m.own.stage (subst (λ i. StageStands code s st.elements world st.heap g.words t m i m.own.stage) is rn.stage) refl
