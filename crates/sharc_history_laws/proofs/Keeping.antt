-- An object to which a stopped thread refers is neither cleared, given nor freed by another one.
use Rattle.sharc_history_laws.proofs.{Imports.{◌≡◌, ℕ, ◌+◌, ◌*◌, ◌<◌, ◌≢◌, true, false, List, ◌∷◌, Some, None, if◌then◌else◌, refl, sym, ◌∙◌, subst, ⊎_elim, cases_eq, ◌==◌, Code, Instr, Shape, Stage, Clears, FreeClears, Uncounts, WithdrawsFrom, granule_at, ref, row_of, data_granule, Turn, result_of, place_after, Untouched, ClearOf, WithdrawOf, cleared_by, freed_by, withdrawn_by, touch_of, Labels, IsOn, touch_at, StageStands, OnHold, Targets, at_low}, TurnAt.{turn_at, RunOf}, Acts.{given_at, freed_in, freed_at}, Cleared.{IsAlone, some, live as live_one, no_other, object_one, alone_clear, alone_free, alone_give, clear_inside, free_inside}, Staying.{StillThere, kept, kept_globals}, Wholes.{TheLaws, Typed, Whole, fresh_of}}

module _ (laws : TheLaws) (x : Targets) (code : Code) (s : Shape) (ls : Labels) (typed : Typed x code s ls) (one : Turn) (earlier : List Turn) (run : RunOf code s (one ∷ earlier)) (w : Whole x code s ls earlier)
    (o k : ℕ) (live : (w.consists.world.obj o).live ≡ true) (inside : 2 * k < w.consists.state.cells o) (v : ℕ) (ne : v ≢ one.thread) (hold : OnHold ((place_after code s earlier).threads v).own.stage)
    (refers : o ≢ 0 → (q : ℕ) × (ref ((place_after code s earlier).threads v) q ≡ o)) where
  open turn_at code s (place_after code s earlier) one use {g, t, m, i, m'}
  open w.consists use {world, state as st}

  on : IsOn (place_after code s earlier) one.thread
  on = (run.1.started, run.1.next.runs)

  fresh : ((place_after code s earlier).threads one.thread).own.stop ≡ None
  fresh = fresh_of laws x code s ls typed one earlier run w.halting

  abbrev Alone : ℕ → Type 0
  Alone r = IsAlone laws.run.turns laws.shadow laws.state laws.cells laws.pointers x code s ls typed.wt typed.fits g world st one run.1 fresh w.remains one.thread r

  stage_at : (j : Instr) → i ≡ j → (y : Stage) → ((place_after code s earlier).threads one.thread).own.stage ≡ y → StageStands code s st.elements world st.heap (place_after code s earlier).words one.thread ((place_after code s earlier).threads one.thread) j y
  stage_at j is y at = subst (StageStands code s st.elements world st.heap g.words t m j) at (subst (λ j. StageStands code s st.elements world st.heap g.words t m j m.own.stage) is ((st.threads t).runs on.0 on.1).stage)

  -- no other thread has it alone
  not_alone : (r : ℕ) → Alone r → ref ((place_after code s earlier).threads one.thread) r ≡ o → ⊥
  not_alone r alone e =
      let nz : o ≢ 0 = λ z. some laws.run.turns laws.shadow laws.state laws.cells laws.pointers x code s ls typed.wt typed.fits g world st one run.1 fresh w.remains t on r alone (e ∙ z) in
      let q = refers nz in
      ne (no_other laws.run.turns laws.shadow laws.state laws.cells laws.pointers x code s ls typed.wt typed.fits g world st one run.1 fresh w.remains t on r alone v q.0 hold (q.1 ∙ sym e))

  ungiven : (j : Instr) → i ≡ j → given_at j ((place_after code s earlier).threads one.thread) ≡ Some o → ⊥
  ungiven (Instr.Give r site) is e = let same : ref m r ≡ o = cc in not_alone r (alone_give laws.run.turns laws.shadow laws.state laws.cells laws.pointers x code s ls typed.wt typed.fits g world st one run.1 fresh w.remains t r site on is) same
  ungiven _ is e = let f : None ≡ Some o = e in cc

  unfreed_at : (r layout site : ℕ) → i ≡ Instr.Free r layout site → (y : Stage) → ((place_after code s earlier).threads one.thread).own.stage ≡ y → freed_in y (ref ((place_after code s earlier).threads one.thread) r) ≡ Some o → ⊥
  unfreed_at r layout site is (Uncounts all) at e = let same : ref m r ≡ o = cc in not_alone r (alone_free laws.run.turns laws.shadow laws.state laws.cells laws.pointers x code s ls typed.wt typed.fits g world st one run.1 fresh w.remains t r layout site (Uncounts all) is at tt) same
  unfreed_at r layout site is _ at e = let f : None ≡ Some o = e in cc

  unfreed : (j : Instr) → i ≡ j → freed_at j ((place_after code s earlier).threads one.thread) ≡ Some o → ⊥
  unfreed (Instr.Free r layout site) is e = unfreed_at r layout site is m.own.stage refl e
  unfreed _ is e = let f : None ≡ Some o = e in cc

  -- it stays
  pub remains_there : StillThere laws x code s ls typed one earlier run w o k live inside
  remains_there = ⊎_elim (kept_globals laws x code s ls typed one earlier run w o k live inside)
      (λ nz. kept laws x code s ls typed one earlier run w o k live inside nz (ungiven i refl) (unfreed i refl)) (cases_eq o 0)

  -- ---- it is not cleared
  clear_is : (r done : ℕ) (alone : Alone r) → 2 * done < st.cells (ref ((place_after code s earlier).threads one.thread) r) → ClearOf (granule_at s (data_granule (ref ((place_after code s earlier).threads one.thread) r) done)) ≡ ClearOf (o + 1 + k) → ⊥
  clear_is r done alone low e =
      let h = ref m r in
      let lives = live_one laws.run.turns laws.shadow laws.state laws.cells laws.pointers x code s ls typed.wt typed.fits g world st one run.1 fresh w.remains t on r alone in
      let f : granule_at s (data_granule h done) ≡ o + 1 + k = cc in
      let q : h + 1 + done ≡ o + 1 + k = sym (at_low s (h + 1 + done) (st.apart.within h done lives low)) ∙ f in
      not_alone r alone (object_one laws.run.turns laws.shadow laws.state laws.cells laws.pointers x code s ls typed.wt typed.fits g world st one run.1 fresh w.remains t on r alone h o done k lives live low inside q)

  by_clear : (r count : ℕ) → i ≡ Instr.Clear r count → (y : Stage) → ((place_after code s earlier).threads one.thread).own.stage ≡ y → cleared_by s (ref ((place_after code s earlier).threads one.thread) r) y ≡ ClearOf (o + 1 + k) → ⊥
  by_clear r count is (Clears done all seen) at e =
      let alone = alone_clear laws.run.turns laws.shadow laws.state laws.cells laws.pointers x code s ls typed.wt typed.fits g world st one run.1 fresh w.remains t r count (Clears done all seen) is at tt in
      let h = stage_at (Instr.Clear r count) is (Clears done all seen) at in
      clear_is r done alone (clear_inside laws.run.turns laws.shadow laws.state laws.cells laws.pointers x code s ls typed.wt typed.fits g world st one run.1 fresh w.remains t r count on alone is all h.0 done h.1.0) e
  by_clear r count is _ at e = cc

  by_free : (r layout site : ℕ) → i ≡ Instr.Free r layout site → (y : Stage) → ((place_after code s earlier).threads one.thread).own.stage ≡ y → freed_by s (ref ((place_after code s earlier).threads one.thread) r) y ≡ ClearOf (o + 1 + k) → ⊥
  by_free r layout site is (FreeClears done all seen) at e =
      let alone = alone_free laws.run.turns laws.shadow laws.state laws.cells laws.pointers x code s ls typed.wt typed.fits g world st one run.1 fresh w.remains t r layout site (FreeClears done all seen) is at tt in
      let h = stage_at (Instr.Free r layout site) is (FreeClears done all seen) at in
      clear_is r done alone (free_inside laws.run.turns laws.shadow laws.state laws.cells laws.pointers x code s ls typed.wt typed.fits g world st one run.1 fresh w.remains t r layout site on alone is all h.0.0 done h.1.0) e
  by_free r layout site is _ at e = cc

  by_exit : (found : ℕ) (y : Stage) → withdrawn_by s ((place_after code s earlier).threads one.thread) found y ≡ ClearOf (o + 1 + k) → ⊥
  by_exit found (WithdrawsFrom row seen) e = elim (found == seen) as (λ b. (if b then WithdrawOf (granule_at s (row_of m row)) else Untouched) ≡ ClearOf (o + 1 + k) → ⊥) [
    | true ↦ λ e. cc
    | false ↦ λ e. cc
  ] e
  by_exit found _ e = cc

  by : (j : Instr) → i ≡ j → touch_of s j ((place_after code s earlier).threads one.thread) (result_of one.event) m' ≡ ClearOf (o + 1 + k) → ⊥
  by (Instr.Clear r count) is e = by_clear r count is m.own.stage refl e
  by (Instr.Free r layout site) is e = by_free r layout site is m.own.stage refl e
  by Instr.Exit is e = by_exit (result_of one.event) m.own.stage e
  by _ is e = cc

  pub uncleared : touch_at code s (place_after code s earlier) one ≡ ClearOf (o + 1 + k) → ⊥
  uncleared e = by i refl e
