-- The thread that holds a mutex for which another one waits.
use Rattle.sharc_history_laws.proofs.{Imports.{◌≡◌, ℕ, zero, suc, ◌≢◌, true, List, is_some, refl, sym, ap, ◌∙◌, subst, slice_index, Code, Cell, Shape, RunLaws, Fits, cell_word, Machine, instr_at, word, place, object, opening_words, Turn, Global, IsRun, opening_of, cell_at, one_thread, bounds, place_after, Instr, object_of, IsApart, events_of, holds_mutex, Labels, Keeps, CodeBegins, CellsAreThere, PointersAreThere, AccessesAreAllowed, IsOn, IsSmall, StageStands, object_of_cell, number_in, IsWellTyped, Fine, Targets, Field, is_mutex, history_of}, Finds.{is_apart, is_there, object_is}, Locked.{held_told, names_cell}, Locking.{Locks, lock_runs}, Rules.newest, Single.rests_hold, Stands.{there, some_base}}

module _ (cell_laws : CellsAreThere) (pointers : PointersAreThere) (rights : AccessesAreAllowed) (laws : RunLaws) (begins_law : CodeBegins) (keeps : Keeps) (x : Targets) (code : Code) (s : Shape) (ls : Labels) (wt : IsWellTyped x code ls) (fits : Fits code s) (few : IsSmall code s)
    (run : List Turn) (is_run : IsRun bounds (one_thread code s) (opening_of bounds (one_thread code s) (opening_words code s)) run) (t : ℕ) (on : IsOn (place_after code s run) t) (c : Cell) (site : ℕ)
    (is : instr_at code ((place_after code s run).threads t).at.pc ≡ Instr.Lock c site) (waits : slice_index (place_after code s run).words (word s ((place_after code s run).threads t) c) ≢ 0) where
  abbrev g : Global Machine
  g = place_after code s run

  abbrev m : Machine
  m = (place_after code s run).threads t

  abbrev k : Locks x code s ls run
  k = lock_runs cell_laws pointers rights laws begins_law keeps x code s ls wt fits few run is_run

  pub awaited : (u : ℕ) × (holds_mutex (events_of u (history_of code s run)) (cell_at code ((place_after code s run).threads t) c) ≡ true)
  awaited =
      let world = k.consists.world in
      let st = k.consists.state in
      let f = subst (Fine x code ls m.at.pc (ls.at m.at.pc)) is (wt.fine m.at.pc) in
      let hold = rests_hold code s st.elements world st.heap g.words t m (Instr.Lock c site) m.own.stage refl (subst (λ j. StageStands code s st.elements world st.heap g.words t m j m.own.stage) is ((st.threads t).runs on.0 on.1).stage) in
      let field = f.2.0 in
      let has = f.2.1 in
      let mutex = f.2.2 in
      let th = there x code s ls wt fits g world st t on hold cell_laws c field has in
      let o = object_of_cell m c in
      let n = number_in m c in
      let a_mutex : is_mutex (Rattle.sharc_invariant.specs.Types.field_in x (world.obj o).ty n).holds ≡ true = ap (λ (f : Field). is_mutex f.holds) th.field ∙ ap is_mutex mutex in
      let word_now : world.mutex o n ≡ slice_index g.words (word s m c) = st.sim.mutexes o n th.live th.number a_mutex ∙ ap (slice_index g.words) (sym th.word_is) in
      by (world.mutex o n) refl (λ z. waits (sym word_now ∙ z)) (λ u e.
      let few_u = st.locks.few o n u e in
      let held = (st.locks.held u o n few_u th.live th.number a_mutex).0 e in
      let held' : is_some (object_of (g.threads u).own.held (cell_word s (place m c))) ≡ true = ap (λ w. is_some (object_of (g.threads u).own.held w)) th.word_is ∙ held in
      let apart : IsApart s (g.threads u).own.held (object m c) (place m c) = subst (λ n. IsApart s (g.threads u).own.held n (place m c)) (sym (object_is cell_laws x code s ls wt fits g world st t on c))
      (subst (IsApart s (g.threads u).own.held o) (sym th.place_is) (is_apart cell_laws x code s ls wt fits g world st u o n th.live th.number)) in
      held_told code s (newest code s run) u (g.threads u).own.held (object m c) (place m c) (cell_at code m c) (k.logs u) apart held'
      (names_cell code m c (is_there cell_laws x code s ls wt fits g world st t on hold c field has.field (some_base x code s ls wt fits g world st t on hold c has.base))))
    where
      by : (n : ℕ) → k.consists.world.mutex (object_of_cell ((place_after code s run).threads t) c) (number_in ((place_after code s run).threads t) c) ≡ n → (k.consists.world.mutex (object_of_cell ((place_after code s run).threads t) c) (number_in ((place_after code s run).threads t) c) ≡ 0 → ⊥)
          → ((u : ℕ) → k.consists.world.mutex (object_of_cell ((place_after code s run).threads t) c) (number_in ((place_after code s run).threads t) c) ≡ suc u → holds_mutex (events_of u (history_of code s run)) (cell_at code ((place_after code s run).threads t) c) ≡ true)
          → (u : ℕ) × (holds_mutex (events_of u (history_of code s run)) (cell_at code ((place_after code s run).threads t) c) ≡ true)
      by zero e nz find = absurd (nz e)
      by (suc u) e nz find = (u, find u e)
