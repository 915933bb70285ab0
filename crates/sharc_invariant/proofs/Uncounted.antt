-- The turn of a Free that sets the count to 0: the object is dead, and its block the thread's.
use Rattle.sharc_invariant.proofs.{Imports.{Fits as FitsShape, top_word, granules, count_word, RunsOn, Tries, Stopped, Ended, Stage, Uncounts, Links, layout_at, Machine, Asks, step_of, instr_at, ref, at_stage, data_granules, largest, may_go, turn, Code, Shape, Turn, Global, put, MayTurn, after_turn, one_thread, bounds, Instr, Frees as FreesOf, freed, none, ObjectState, TypedReference, RegisterOf, ArgumentOf, In, Shut, Sole, World, in_ref, put2, place, WorldInvariant, CellOf, nothing, field_in, is_pointer, is_mutex, Targets, cells_of, Heap, Kept, Built, Live, restated, IsListed, Unused, BlockState, is_freed, set_reg, store, FitsContent, Apart, staged_of, is_ended, has_withdrawn, noted_by, note_number, register_of, conc_of, Shows, count_at, cell_at, lang_of, head_of, head_with, making_of, block_for, AreEmpty, all_pointers, label_now, Runs, StageStands, HeapStands, Locks, State, view_of, GateStands, size_of_run, FramesStand, TopStands, empty, Label, Labels, sum_to, GranuleState, Bits, Passed, Fine, IsWellTyped, made_turn, KeepsOthers, Turned, changes_objects, objects_now, objects_behind, frees_object, freed_behind, put_same, put_other, put_all, Read, Write, Kind, note_of, ShadowLaws, epoch_of, object_of, ◌≡◌, ℕ, suc, ◌+◌, ◌*◌, ◌<◌, ◌≤◌, ◌≢◌, true, false, cond, List, refl, sym, ap, ◌∙◌, subst, ⊎_elim, arith, Bool, ◌⊎◌, ◌-◌, ◌/◌, ◌^◌, inl, inr, cases_eq, cases_lt, fun_ext, length, slice_index, slice_set, ◌==◌, ◌↔◌, is_some, Contains, min, THREADS, Swap, ne_eq, eq_refl}, TurnAt.{turn_at, turn_stands}, Effects.{freed_ok, place_other}, Seen.{count_stored, reg_stored, cell_cell}, Frames.{filled, empty_stands}, Filled.{view_filled, below_filled}, Counts.count_is, Stores.{count_store, stored_within, index_put, arena}, Listed.restate_ok, Changes.{KeepsPart, KeepsLow, lower, conc_now, held_same, changed_state}, Walks.{IsWalk, walk_hold, walk_register}, Clears.{part_words, sum_more, walks_over, walked_target}, Emptied.all_empty, Unlogged.{unlogged, logged_entry}, Frees.{free_cells, free_fine, free_win, free_begun, free_act}, Quiet.{heap_now, label_held, put_self, sizes_kept}, Turns.{asks_turn, room_of}, Others.loses}

not_unused : (f : ℕ → BlockState) (o : ℕ) → f o ≡ Live → f o ≡ Unused → ⊥
not_unused f o a b = let z : Live ≡ Unused = sym a ∙ b in cc

-- a granule is one of an object or it is not
pub granule_cases : (p o cells : ℕ) → ((j : ℕ) × ((p ≡ o + 1 + j) × (2 * j < cells))) ⊎ ((j : ℕ) → p ≡ o + 1 + j → 2 * j < cells → ⊥)
granule_cases p o cells = ⊎_elim
    (λ (lt : p < o + 1). inr (λ j e _. omega arith))
    (λ (le : o + 1 ≤ p). ⊎_elim
    (λ (lt : 2 * (p - (o + 1)) < cells). inl (p - (o + 1), ((omega arith), lt)))
    (λ (ge : cells ≤ 2 * (p - (o + 1))). inr (λ j e l. omega arith))
    (cases_lt (2 * (p - (o + 1))) cells))
    (cases_lt p (o + 1))

-- a granule of so many cells is one of those that are cleared
freed_granule : (a d : ℕ) → 2 * d < a → d < 2 ^ 40 → d < (min a largest + 1) / 2
freed_granule a d h l = omega arith

-- nobody has passed a check there, so nothing was noted in this epoch
noted_low : (n : ℕ) (y : GranuleState) → Bits n y → ((t : ℕ) → Passed y t false → ⊥) → (t : ℕ) → (y.read_note t ≤ y.epoch) × (y.write_note t ≤ y.epoch)
noted_low n y b none' t =
    let a : y.read_note t ≡ suc y.epoch → ⊥ = λ e. none' t (inl e) in
    let c : y.write_note t ≡ suc y.epoch → ⊥ = λ e. none' t (inr e) in (
      ⊎_elim (λ (e : y.read_note t ≡ suc y.epoch). absurd (a e)) (λ (ne : y.read_note t ≡ suc y.epoch → ⊥). omega arith) (cases_eq (y.read_note t) (suc y.epoch)),
      ⊎_elim (λ (e : y.write_note t ≡ suc y.epoch). absurd (c e)) (λ (ne : y.write_note t ≡ suc y.epoch → ⊥). omega arith) (cases_eq (y.write_note t) (suc y.epoch)),
    )

module _ (x : Targets) (code : Code) (s : Shape) (ls : Labels) (wt : IsWellTyped x code ls) (fits : FitsShape code s) (laws : ShadowLaws) (g : Global Machine) (world : World) (st : State x code s ls g world) (tr : Turn)
    (may : MayTurn bounds (one_thread code s) g tr) (r layout site : ℕ) (is : instr_at code (g.threads tr.thread).at.pc ≡ Instr.Free r layout site) (all : ℕ) (at_stage_is : (g.threads tr.thread).own.stage ≡ Uncounts all) where
  open turn_at st tr use {t, m, here, base, view}
  open turn_stands st tr may use {rn}

  abbrev k : ℕ
  k = (g.threads tr.thread).at.refs + r

  abbrev o : ℕ
  o = in_ref world (RegisterOf tr.thread ((g.threads tr.thread).at.refs + r))

  walk : IsWalk (g.threads tr.thread).own.stage
  walk = subst IsWalk (sym at_stage_is) tt

  f : Fine x code ls (g.threads tr.thread).at.pc here (Instr.Free r layout site)
  f = free_fine x code s ls wt laws g world st tr may r layout site is

  win : world.win tr.thread ≡ Sole k
  win = free_win x code s ls wt laws g world st tr may r layout site is walk

  begun : ((g.threads tr.thread).at.pc == 0) ≡ false
  begun = free_begun x code s ls wt laws g world st tr may r layout site is m.at.pc refl

  open walks_over x code s ls wt g world st tr may walk begun r win f.2 use {reads, nz, is_live}

  stage_now : StageStands code s st.elements world st.heap g.words tr.thread (g.threads tr.thread) (Instr.Free r layout site) (Uncounts all)
  stage_now = subst (StageStands code s st.elements world st.heap g.words t m (Instr.Free r layout site)) at_stage_is (subst (λ i. StageStands code s st.elements world st.heap g.words t m i m.own.stage) is rn.stage)

  tp : TopStands x tr.thread view (g.threads tr.thread).at.refs (g.threads tr.thread).at.ints rn.names here
  tp = subst (TopStands x t view base m.at.ints rn.names) (label_held here (instr_at code m.at.pc) m.own.stage (walk_hold m.own.stage walk)) rn.top

  target_is : (world.obj o).ty.target ≡ f.3.0.target
  target_is = walked_target x code s ls wt g world st tr may walk begun r win f.2 f.3.0 f.3.1

  cells_empty : (i : ℕ) → (world.slots (CellOf o i)).reference ≡ 0
  cells_empty = all_empty x code s ls wt fits g world st o layout f.3.0.target nz is_live target_is f.3.2
      (subst (λ n. AreEmpty code world layout o (all_pointers code layout n)) (stage_now.0.0 ∙ ap st.elements reads) (subst (λ p. AreEmpty code world layout p (all_pointers code layout all)) reads stage_now.0.2))

  -- each granule was cleared
  cleared_here : (j : ℕ) → 2 * j < st.cells o → (u : ℕ) → ((world.gran o j).read_note u ≤ (world.gran o j).epoch) × ((world.gran o j).write_note u ≤ (world.gran o j).epoch)
  cleared_here j lt u =
      let cl = stage_now.1 in
      let c : st.cells o ≡ all * (layout_at code layout).cells =
      free_cells x code s ls wt laws g world st tr may r layout site is walk ∙ ap (λ n. n * (layout_at code layout).cells) (sym (stage_now.0.0 ∙ ap st.elements reads)) in
      let w = st.apart.within o j is_live lt in
      let g1 = fits.globals in let g2 = wt.globals.few in let g3 = fits.most in
      let low : j < data_granules all (layout_at code layout).cells = freed_granule (all * (layout_at code layout).cells) j (omega arith) (omega arith) in
      noted_low THREADS (world.gran o j) (st.inv.bits o j) (λ v p. cl j low v (subst (λ o. Passed (world.gran o j) v false) (sym reads) p)) u

  abbrev dead : ObjectState
  dead = record { live = false; global = false; ty = nothing; owner = 0 }

  abbrev O : ℕ → ObjectState
  O = put world.obj o dead

  abbrev w' : World
  w' = freed world tr.thread k

  -- what lives on is another object, and as it was
  other : (p : ℕ) → (O p).live ≡ true → (p ≡ o → ⊥) × ((world.obj p).live ≡ true)
  other p = put_all (λ p (y : ObjectState). y.live ≡ true → (p ≡ o → ⊥) × ((world.obj p).live ≡ true)) world.obj o dead (λ e. absurd (cc)) (λ p ne e. (ne, e)) p

  was : (p : ℕ) → (p ≡ o → ⊥) → O p ≡ world.obj p
  was p ne = put_other world.obj o p dead ne

  -- no mutex of it is held
  free_mutex : (j : ℕ) → world.mutex o j ≢ 0 → ⊥
  free_mutex j ne =
      let z = st.locks.only o j ne in
      let u = world.mutex o j - 1 in
      let v : world.mutex o j ≡ suc u = omega arith in
      let lt = st.locks.few o j u v in
      let e = logged_entry (g.threads u).own.held (cell_at s o j) ((st.locks.held u o j lt z.0 z.1 z.2).0 v) in
      let a = st.locks.logged u e.0 e.1.0 in
      let same = cell_cell x s st.cells st.elements (conc_of code g) world st.sim st.apart o j e.0.object a.0 z.0 a.1.1 z.1 a.1.2 (sym a.1.0 ∙ e.1.1) in
      unlogged x code s ls g world st t k win u e.0 e.1.0 same.0

  inv : WorldInvariant (size_of_run code s) (lang_of x) w'
  inv = freed_ok (size_of_run code s) (lang_of x) world st.inv t k win cells_empty

  abbrev at : ℕ
  at = count_at s o

  abbrev words : List ℕ
  words = slice_set g.words (count_at s o) 0

  abbrev m' : Machine
  m' = at_stage (g.threads tr.thread) (Links all)

  act_is : turn code s (g.threads tr.thread) ≡ Asks (step_of (count_word s (ref (g.threads tr.thread) r)) (Swap 0)) (λ found. m')
  act_is = free_act x code s ls wt laws g world st tr may r layout site is (Uncounts all) at_stage_is

  done : (after_turn bounds (one_thread code s) g tr ≡ made_turn g tr.thread words m') × (at < length g.words)
  done =
      let d = asks_turn code s g tr may (step_of (count_word s (ref m r)) (Swap 0)) (λ found. m') act_is in
      let e : count_word s (ref m r) ≡ at = ap (count_word s) reads ∙ count_is s o (st.apart.headers o is_live) in
      (d.0 ∙ ap (λ n. made_turn g t (slice_set g.words n 0) m') e, subst (λ n. n < length g.words) e d.1)

  abbrev now : Global Machine
  now = made_turn g tr.thread words m'

  parts : KeepsLow g.words words × Kept (arena s) (record st.heap { words = λ i. slice_index words i })
  parts = part_words x code s ls g world st at 0 (count_store x code s ls g world st o nz is_live) done.1 (omega arith)

  own : KeepsPart (g.threads tr.thread) m'
  own = record { sizes = sizes_kept (g.threads tr.thread) m' (st.threads t).has.table refl refl refl refl; held = refl; heads = refl; spawns = λ n h. absurd h; begun_before = begun; begun = begun }

  was_live : st.heap.state o ≡ Live
  was_live = (st.heap_stands.live o nz).0 is_live

  abbrev heap' : Heap
  heap' = restated (heap_now st.heap words) o (Built tr.thread)

  kept' : Kept (arena s) heap'
  kept' = restate_ok (arena s) (heap_now st.heap words) parts.1 o (Built t) (λ z. not_unused st.heap.state o was_live (st.heap_stands.kept.blocks.known o z)) (λ h. subst IsListed was_live h) (λ h. h)

  -- the registers as they are seen
  freed_regs : (j : ℕ) → register_of code m' j ≡ put (register_of code (g.threads tr.thread)) k 0 j
  freed_regs j =
      let F : Instr → ℕ = λ i. cond (is_freed i (Links all) base j) 0 (slice_index m.refs j) in
      ap F is ∙ put_all (λ j y. cond (j == base + r) 0 (slice_index m.refs j) ≡ y) (register_of code m) k 0
      (ap (λ b. cond b 0 (slice_index m.refs k)) (eq_refl k))
      (λ j ne. ap (λ b. cond b 0 (slice_index m.refs j)) (ne_eq j k ne) ∙ sym (walk_register x code s ls wt g world st t may.started may.next.runs begun walk j)) j

  conc_is : conc_of code now ≡ set_reg (record (conc_of code g) { words = λ j. slice_index words j }) tr.thread k 0
  conc_is =
      let rs : put (λ u. register_of code (g.threads u)) t (register_of code m') ≡ put2 (λ u. register_of code (g.threads u)) t k 0 = ap (put (λ u. register_of code (g.threads u)) t) (fun_ext freed_regs) in
      let e = at_stage_is in
      let sg = fun_ext (put_self (λ u. staged_of (g.threads u).own.stage) t 0 (sym (ap staged_of e))) in
      let going : is_ended m.at.state ≡ false = elim m.at.state as (λ y. may_go y ≡ true → is_ended y ≡ false) [ RunsOn ↦ λ e. refl | Tries ↦ λ e. refl | Stopped ↦ λ e. refl | Ended ↦ λ e. absurd (cc) ] may.next.runs in
      let noted : (kind : Kind) (p : ℕ) → noted_by m' kind p ≡ noted_by m kind p = λ kind p.
      let N : Stage → Bool → ℕ = λ y b. cond (has_withdrawn y m.own.table.order b p) 0 (note_number (note_of m.own.table p kind)) in
      ap (N (Uncounts all)) (sym going) ∙ ap (λ y. N y (is_ended m.at.state)) (sym e) in
      let n : (kind : Kind) → put (λ u. noted_by (g.threads u) kind) t (noted_by m' kind) ≡ (λ u. noted_by (g.threads u) kind) = λ kind. fun_ext (put_self (λ u. noted_by (g.threads u) kind) t (noted_by m' kind) (fun_ext (noted kind))) in
      let a = n Read in
      let b = n Write in
      conc_now x code s ls wt g world st t may.started words m' own (lower parts.0) ∙ (λ i. record (conc_of code g) { words = λ j. slice_index words j; regs = rs i; staged = sg i; read_notes = a i; write_notes = b i })

  sim : Shows x s st.cells st.elements (set_reg (record (conc_of code g) { words = λ j. slice_index words j }) tr.thread k 0) w'
  sim =
      let w1 : World = record world { count = put world.count o 0 } in
      let sim1 = count_stored x s st.cells st.elements (conc_of code g) world st.sim st.apart o 0 is_live in
      let sim2 = reg_stored x s st.cells st.elements (store (conc_of code g) at 0) w1 sim1 st.apart t k none in
      let ws : (λ j. slice_index words j) ≡ put (λ j. slice_index g.words j) at 0 = fun_ext (index_put g.words at 0 done.1) in
      let w2 : World = record w1 { slots = place world.slots (In (RegisterOf t k)) none } in
      let sim3 : Shows x s st.cells st.elements (set_reg (record (conc_of code g) { words = λ j. slice_index words j }) t k 0) w2 = subst (λ f. Shows x s st.cells st.elements (set_reg (record (conc_of code g) { words = f }) t k 0) w2) (sym ws) sim2 in
      record {
        regs = sim3.regs;
        args = sim3.args;
        logs = sim3.logs;
        staged = sim3.staged;
        pointers = λ p j lp lt pt. let a = other p lp in sim3.pointers p j a.1 lt (subst (λ (y : ObjectState). is_pointer (field_in x y.ty j).holds ≡ true) (was p a.0) pt);
        others = λ p j ne.
            let z = sim3.others p j ne in
            let np : p ≡ o → ⊥ = λ e. ne (ap (λ (y : TypedReference). y.reference) (place_other world.slots (In (RegisterOf t k)) (CellOf p j) none (λ e. cc)) ∙ ap (λ p. (world.slots (CellOf p j)).reference) e ∙ cells_empty j) in
            (z.0, subst (λ (y : ObjectState). is_pointer (field_in x y.ty j).holds ≡ true) (sym (was p np)) z.1);
        integers = λ p j lp lt. let a = other p lp in subst (λ (y : ObjectState). FitsContent (field_in x y.ty j).holds (slice_index words (cell_at s p j))) (sym (was p a.0)) (sim3.integers p j a.1 lt);
        counts = λ p n lp. sim3.counts p n (other p lp).1;
        lengths = λ p n lp. sim3.lengths p n (other p lp).1;
        mutexes = λ p j lp lt mx. let a = other p lp in sim3.mutexes p j a.1 lt (subst (λ (y : ObjectState). is_mutex (field_in x y.ty j).holds ≡ true) (was p a.0) mx);
        shadows = λ p q lp lq. sim3.shadows p q (other p lp).1 lq;
        stale = λ p lt none' u. ⊎_elim
            (λ (i : (j : ℕ) × ((p ≡ o + 1 + j) × (2 * j < st.cells o))).
            let rd = sim3.shadows o i.0 is_live i.1.1 in
            let R : ℕ → Type 0 = λ p. ((conc_of code g).read_notes u p ≤ epoch_of (slice_index words (97 + p))) × ((conc_of code g).write_notes u p ≤ epoch_of (slice_index words (97 + p))) in
            let cl = cleared_here i.0 i.1.1 u in
            let rn = rd.read_note u in
            let wn = rd.write_note u in
            let ep = rd.epoch in
            subst R (sym i.1.0) (omega arith, omega arith))
            (λ (out : (j : ℕ) → p ≡ o + 1 + j → 2 * j < st.cells o → ⊥).
            sim3.stale p lt (λ q j lq lj e. ⊎_elim
            (λ (eq : q ≡ o). out j (e ∙ ap (λ q. q + 1 + j) eq) (subst (λ q. 2 * j < st.cells q) eq lj))
            (λ (ne : q ≡ o → ⊥). none' q j (ap (λ (y : ObjectState). y.live) (was q ne) ∙ lq) lj e)
            (cases_eq q o)) u)
            (granule_cases p o (st.cells o));
      }

  stands : HeapStands s st.cells now O heap'
  stands =
      let q = st.heap_stands in
      let low = parts.0 in
      record {
        kept = kept';
        words = λ i. refl;
        top = q.top ∙ sym (low.low top_word (omega arith) (λ e. absurd (omega arith)));
        within = q.within;
        heads = λ u b lu lb. q.heads u b lu lb ∙ put_all (λ u (n : Machine). head_of (g.threads u) b ≡ head_of n b) g.threads t m' (ap (λ y. head_with (making_of y) m.own.heads b) at_stage_is) (λ u _. refl) u;
        powers = q.powers;
        live = λ p n. (
          (λ e. let a = other p e in put_other st.heap.state o p (Built t) a.0 ∙ (q.live p n).0 a.1),
          (λ e. ⊎_elim
              (λ (i : p ≡ o). let z : Built t ≡ Live = sym (put_same st.heap.state o (Built t)) ∙ ap (put st.heap.state o (Built t)) (sym i) ∙ e in absurd (cc))
              (λ (ne : p ≡ o → ⊥). ap (λ (y : ObjectState). y.live) (was p ne) ∙ (q.live p n).1 (sym (put_other st.heap.state o p (Built t) ne) ∙ e)) (cases_eq p o)),
        );
        room = λ p n lp. q.room p n (other p lp).1;
        sizes = λ p n lp. q.sizes p n (other p lp).1;
      }

  locks : Locks x s st.cells w' now
  locks =
      let held_now : (u : ℕ) → (now.threads u).own.held ≡ (g.threads u).own.held = held_same x code s ls wt g world st t may.started words m' own (lower parts.0) in
      record {
        held = λ u p j lt lp lj mx. let a = other p lp in
            subst (λ hd. (world.mutex p j ≡ suc u) ↔ (is_some (object_of hd (cell_at s p j)) ≡ true)) (sym (held_now u)) (st.locks.held u p j lt a.1 lj (subst (λ (y : ObjectState). is_mutex (field_in x y.ty j).holds ≡ true) (was p a.0) mx));
        logged = λ u e c.
            let c1 = subst (λ hd. Contains hd e) (held_now u) c in
            let z = st.locks.logged u e c1 in
            let ne = sym (was e.object (unlogged x code s ls g world st t k win u e c1)) in
            (z.0, (z.1.0, subst (λ (y : ObjectState). y.live ≡ true) ne z.1.1, z.1.2, subst (λ (y : ObjectState). is_mutex (field_in x y.ty z.0).holds ≡ true) ne z.1.3));
        few = st.locks.few;
        only = λ p j ne.
            let z = st.locks.only p j ne in
            let np : p ≡ o → ⊥ = λ e. free_mutex j (λ q. ne (ap (λ p. world.mutex p j) e ∙ q)) in
            (ap (λ (y : ObjectState). y.live) (was p np) ∙ z.0, z.1, subst (λ (y : ObjectState). is_mutex (field_in x y.ty j).holds ≡ true) (sym (was p np)) z.2);
      }

  others : KeepsOthers s world w' st.heap heap' g.words words tr.thread
  others = record {
    regs = λ u ne q. place_other world.slots (In (RegisterOf t k)) (In (RegisterOf u q)) none (λ e. ne (cc));
    win = λ u ne. put_other world.win t u Shut ne;
    passed = λ u _ q p b _ z. z;
    sole = λ u _ q _ p. loses refl;
    cells = λ u _ q _ n. ap (λ (y : TypedReference). y.reference) (place_other world.slots (In (RegisterOf t k)) (CellOf (in_ref world (RegisterOf u q)) n) none (λ e. cc));
    built = λ u _ b e. (put_other st.heap.state o b (Built t) (λ i. let z : Live ≡ Built u = sym was_live ∙ ap st.heap.state (sym i) ∙ e in cc) ∙ e, refl);
    within = λ u _ b e j n. stored_within x code s ls g world st at 0 (count_store x code s ls g world st o nz is_live) done.1 u b j e n;
  }

  same_view : view_of st.elements w' tr.thread m' ≡ filled view k 0 nothing
  same_view = view_filled st.elements world w' t k none m m' (λ a. refl) refl refl

  -- its block is the one for its cells
  size_now : st.heap.size (ref (g.threads tr.thread) r) ≡ block_for (all * (layout_at code layout).cells)
  size_now =
      let c : st.cells o ≡ all * (layout_at code layout).cells =
      free_cells x code s ls wt laws g world st tr may r layout site is walk ∙ ap (λ n. n * (layout_at code layout).cells) (sym (stage_now.0.0 ∙ ap st.elements reads)) in
      ap st.heap.size reads ∙ st.heap_stands.sizes o nz is_live ∙ ap block_for c

  runs_now : Runs x code s ls st.elements w' heap' now tr.thread m'
  runs_now =
      let lb : label_now here (instr_at code m.at.pc) (Links all) ≡ empty here r = ap (λ i. label_now here i (Links all)) is in
      let view' = view_of st.elements w' t m' in
      record {
        names = rn.names;
        top = subst (TopStands x t view' base m.at.ints rn.names) (sym lb) (subst (λ v. TopStands x t v base m.at.ints rn.names (empty here r)) (sym same_view) (empty_stands x t view base m.at.ints rn.names here r nothing f.1.paths tp));
        below = subst (λ v. FramesStand x code ls t v m' here.function) (sym same_view) (below_filled x code ls t view m m' r 0 nothing refl refl refl refl here.function rn.below);
        gate = subst (λ (l : Label). GateStands s w' t m' l.gate) (sym lb) (put_same world.win t Shut);
        stage = subst (λ i. StageStands code s st.elements w' heap' words t m' i (Links all)) (sym is) (ap (put st.heap.state o (Built t)) reads ∙ put_same st.heap.state o (Built t), (λ z. nz (sym reads ∙ z)), size_now);
        room = rn.room;
      }

  uncounts_turned : Turned x code s ls g world tr
  uncounts_turned =
      let P : ℕ → ℕ → Type 0 = λ i y. epoch_of y ≤ sum_to THREADS (put g.made t (g.made t + 1)) in
      let later : (i : ℕ) → i < granules s → epoch_of (slice_index words (97 + i)) ≤ sum_to THREADS (put g.made t (g.made t + 1)) =
      λ i lt. let a = st.epochs i lt in let b = sum_more g.made t 1 (st.begins.few t may.started) in
      let q : slice_index words (97 + i) ≡ slice_index g.words (97 + i) = index_put g.words at 0 done.1 (97 + i) ∙ put_other (λ j. slice_index g.words j) at (97 + i) 0 (λ e. let h = st.apart.headers o is_live in omega arith) in
      subst (P i) (sym q) (omega arith) in
      let rows : (p : ℕ) → p ≢ 0 → (O p).live ≡ true → ((O p).global ≡ false) × ((O p).ty.target < length x.rows) = λ p n l.
      let a = other p l in subst (λ (y : ObjectState). (y.global ≡ false) × (y.ty.target < length x.rows)) (sym (was p a.0)) (st.rows p n a.1) in
      let whole : (p : ℕ) → p ≢ 0 → (O p).live ≡ true → (1 ≤ st.elements p) × (st.cells p ≡ st.elements p * cells_of x (O p).ty.target) = λ p n l.
      let a = other p l in subst (λ (y : ObjectState). (1 ≤ st.elements p) × (st.cells p ≡ st.elements p * cells_of x y.ty.target)) (sym (was p a.0)) (st.whole p n a.1) in
      let apart : Apart s O st.cells = record { apart = λ a b la lb. st.apart.apart a b (other a la).1 (other b lb).1; within = λ a q la. st.apart.within a q (other a la).1; headers = λ a la. st.apart.headers a (other a la).1 } in (
        w',
        subst (λ y. State x code s ls y w') (sym done.0)
            (changed_state x code s ls wt g world st t may.started words m' own (lower parts.0) st.cells st.elements heap' w' others (λ u. place_other world.slots (In (RegisterOf t k)) (In (ArgumentOf u)) none (λ e. cc)) (λ u q _. refl)
            inv (subst (λ c. Shows x s st.cells st.elements c w') (sym conc_is) sim) apart stands locks (put_other world.obj o 0 dead (λ e. nz (sym e))) refl rows whole later (λ _. runs_now) (λ q. absurd (cc))
            (room_of code s g tr may words m' done.0)),
        FreesOf k (ap (λ i. changes_objects i m) is ∙ ap frees_object at_stage_is) win refl,
      )

  freed_objects : uncounts_turned.0.obj ≡ objects_now code s ls g tr world.obj
  unfolding uncounts_turned
  freed_objects =
      let m'' = (after_turn bounds (one_thread code s) g tr).threads t in
      ap (λ q. put world.obj q dead) (sym reads) ∙ sym (ap (λ y. freed_behind (ref m r) y world.obj) at_stage_is) ∙ sym (ap (λ i. objects_behind ls t i m m'' world.obj) is)

  pub free_uncounts : (k : Turned x code s ls g world tr) × (k.0.obj ≡ objects_now code s ls g tr world.obj)
  free_uncounts = (uncounts_turned, freed_objects)
