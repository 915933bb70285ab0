-- No bit stands in the granules of an object that is given or freed.
use Rattle.sharc_history_laws.proofs.{Imports.{◌≡◌, ℕ, zero, suc, ◌+◌, ◌*◌, ◌/◌, ◌^◌, ◌<◌, ◌≤◌, ◌≢◌, Bool, true, false, not, min, None, if◌then◌else◌, refl, sym, ap, ◌∙◌, subst, ⊎_elim, arith, cases_eq, nat_tests, slice_index, nat_lt, ◌==◌, Kind, ShadowLaws, stands, Code, Cell, Instr, Shape, Stage, Rests, Looks, Clears, Empties, Lowers, FreeLooks, FreeClears, Uncounts, Links, Fits, granules, first_shadow, granule_at, length_word, Machine, instr_at, act, ref, at_stage, looks, clear, rests, free, free_looks, freed, empties, emptied, fields, layout_at, data_granules, data_granule, largest, step_of, wrote, ThreadLaws, begun, turn, after, may_go, asked_by, Turn, Global, MayTurn, after_turn, state_now, result_of, one_thread, bounds, WordOp, Touch, Untouched, CheckOf, ClearOf, WithdrawOf, cleared_by, freed_by, touch_of, Closing, Gate, Sole, Entry, Refers, Label, Labels, Leads, LessGate, LessEntry, gated, empty, CellsAreThere, PointersAreThere, StateStands, IsOn, touch_at, State, Runs, StageStands, GateStands, OnClear, OnFree, OnHold, granules_freed, object_of_cell, view_of, IsWellTyped, Fine, Targets, StaticType, cells_of, length_at, World, IsSole, not_below, yes, and_no, put_same, put_other, at_low, in_cells}, TurnAt.turn_at, Onward.{IsUncleared, walks}, Arriving.{less_uncleared, is_clearing, Arrives, arriving}, Consists.found_is, Doing.{IsCheckAt, Does, Plain, Passes, Refuses, IsNoCheck, does}, Remaining.{word_at, Remains, checked_granule}, Shadows.{IsNext, WordBy, word_by}, Shared.closing_own, Single.rests_hold, Stands.{gate, granules_low, reads_ref, sole_ref, live_ref, target_ref}, Tables.length_kept, Writes.writes, Finds.same_object}

-- ---- what is said of a thread that clears an object or gives it
-- no bit stands in the first granules of an object
abbrev pub NoBits : Global Machine → (o n : ℕ) → Type 0
NoBits g o n = (j : ℕ) → j < n → (k : ℕ) → stands (word_at g (o + 1 + j)) k ≡ false

abbrev InClear : (ℕ → Type 0) → Stage → Type 0
InClear P (Looks done all) = P done
InClear P (Clears done all seen) = P done
InClear P _ = Unit {0}

abbrev InFree : (ℕ → Type 0) → Code → (layout : ℕ) → Stage → Type 0
InFree P code layout (FreeLooks done all) = P done
InFree P code layout (FreeClears done all seen) = P done
InFree P code layout (Uncounts all) = P (granules_freed code layout all)
InFree P code layout _ = Unit {0}

abbrev length_of : Shape → Global Machine → ℕ → ℕ
length_of s g o = slice_index g.words (length_at s o)

abbrev ClearedAt : Targets → Code → Shape → Labels → Global Machine → Machine → Instr → Stage → Type 0
ClearedAt x code s ls g m (Instr.Clear r count) y = InClear (NoBits g (ref m r)) y
ClearedAt x code s ls g m (Instr.Free r layout site) y = InFree (NoBits g (ref m r)) code layout y
ClearedAt x code s ls g m (Instr.Give r site) y = (a : StaticType) → (ls.at m.at.pc).env r ≡ Refers a → NoBits g (ref m r) (data_granules (length_of s g (ref m r)) (cells_of x a.target))
ClearedAt x code s ls g m i y = Unit {0}

pub record AllCleared (x : Targets) (code : Code) (s : Shape) (ls : Labels) (g : Global Machine) : Type 0 where
  pub at : (u : ℕ) → IsOn g u → ClearedAt x code s ls g (g.threads u) (instr_at code (g.threads u).at.pc) (g.threads u).own.stage

in_clear_calm : (P : ℕ → Type 0) (y : Stage) → walks y ≡ false → InClear P y
in_clear_calm P (Looks done all) e = absurd (yes e)
in_clear_calm P (Clears done all seen) e = absurd (yes e)
in_clear_calm P _ e = tt

in_free_calm : (P : ℕ → Type 0) (code : Code) (layout : ℕ) (y : Stage) → walks y ≡ false → InFree P code layout y
in_free_calm P code layout (FreeLooks done all) e = absurd (yes e)
in_free_calm P code layout (FreeClears done all seen) e = absurd (yes e)
in_free_calm P code layout (Uncounts all) e = absurd (yes e)
in_free_calm P code layout _ e = tt

-- ---- numbers
of_cells : (n done : ℕ) → n ≤ largest → 2 * done < n → done < (min n largest + 1) / 2
of_cells n done le lt = omega arith

not_clear : (P : ℕ → ℕ → Type 0) (j : Instr) → is_clearing j ≡ false → OnClear P j → ⊥
not_clear P (Instr.Clear r count) e h = yes e
not_clear P _ e h = h

not_free : (P : ℕ → ℕ → Type 0) (j : Instr) → is_clearing j ≡ false → OnFree P j → ⊥
not_free P (Instr.Free r layout site) e h = yes e
not_free P _ e h = h

sole_same : (a b : Gate) (r q : ℕ) → a ≡ Sole r true → LessGate a b → b ≡ Sole q true → q ≡ r
sole_same a b r q e h f = let z : b ≡ Sole r true = subst (λ a. LessGate a b) e h in let y : Sole q true ≡ Sole r true = sym f ∙ z in cc

same_target : (l : Label) (r : ℕ) (old new : Entry) (a b : StaticType) → old ≡ Refers a → LessEntry l r old new → new ≡ Refers b → b.target ≡ a.target
same_target l r old new a b e h f = sym ((subst (LessEntry l r (Refers a)) f (subst (λ old. LessEntry l r old new) e h)).target)

-- ---- one turn
module _ (turns : ThreadLaws) (laws : ShadowLaws) (state_law : StateStands) (cell_laws : CellsAreThere) (pointer_laws : PointersAreThere) (x : Targets) (code : Code) (s : Shape) (ls : Labels) (wt : IsWellTyped x code ls) (fits : Fits code s) (g : Global Machine) (world : World)
    (st : State x code s ls g world) (tr : Turn) (may : MayTurn bounds (one_thread code s) g tr) (fresh : (g.threads tr.thread).own.stop ≡ None) (remains : Remains s g) where
  open turn_at code s g tr use {t, m, i, found, g', m'}

  abbrev touch : Touch
  touch = touch_at code s g tr

  on : IsOn g tr.thread
  on = (may.started, may.next.runs)

  fine_at : (u : ℕ) (j : Instr) → instr_at code (g.threads u).at.pc ≡ j → Fine x code ls (g.threads u).at.pc (ls.at (g.threads u).at.pc) j
  fine_at u j is = subst (Fine x code ls (g.threads u).at.pc (ls.at (g.threads u).at.pc)) is (wt.fine (g.threads u).at.pc)

  stage_at : (u : ℕ) → IsOn g u → (j : Instr) → instr_at code (g.threads u).at.pc ≡ j → StageStands code s st.elements world st.heap g.words u (g.threads u) j (g.threads u).own.stage
  stage_at u on j is = subst (λ j. StageStands code s st.elements world st.heap g.words u (g.threads u) j (g.threads u).own.stage) is ((st.threads u).runs on.0 on.1).stage

  by_word : (p : ℕ) → p < granules s → WordBy touch tr.thread p (word_at g p) (word_at g' p) (wrote (g.threads tr.thread) p (word_at g p))
  by_word p lt = word_by turns.aims laws x code s ls wt fits g world st tr may p lt

  -- the object that a thread has alone
  pub record IsAlone (u r : ℕ) : Type 0 where
    pub hold : OnHold (g.threads u).own.stage
    pub cleared : Bool
    pub gate : (ls.at (g.threads u).at.pc).gate ≡ Sole r cleared

  module _ (u : ℕ) (on_u : IsOn g u) (r : ℕ) (alone : IsAlone u r) where
    abbrev o : ℕ
    o = ref (g.threads u) r

    pub some : o ≢ 0
    some = sole_ref x code s ls wt fits g world st u on_u alone.hold r alone.cleared alone.gate

    pub live : (world.obj o).live ≡ true
    live = live_ref x code s ls wt fits g world st u on_u alone.hold r some

    win : world.win u ≡ IsSole ((g.threads u).at.refs + r)
    win = subst (GateStands s world u (g.threads u)) alone.gate (gate x code s ls wt fits g world st u on_u alone.hold)

    abbrev closing : Closing world o
    closing = (u, ((g.threads u).at.refs + r, (win, sym (reads_ref x code s ls wt fits g world st u on_u alone.hold r))))

    -- no other thread has it in a register
    pub no_other : (v q : ℕ) → OnHold (g.threads v).own.stage → ref (g.threads v) q ≡ o → v ≡ u
    no_other v q hold e = closing_own state_law x code s ls wt fits g world st o closing v ((g.threads v).at.refs + q) hold e

    within : (j : ℕ) → 2 * j < st.cells o → o + 1 + j < granules s
    within j lt = st.apart.within o j live lt

    -- its cells
    cells_are : (a : StaticType) → (ls.at (g.threads u).at.pc).env r ≡ Refers a → st.cells o ≡ length_of s g o * cells_of x a.target
    cells_are a e = (st.whole o some live).1 ∙ ap (λ n. n * cells_of x (world.obj o).ty.target) (st.sim.lengths o some live)
        ∙ ap (λ target. length_of s g o * cells_of x target) (target_ref x code s ls wt fits g world st u on_u alone.hold r a e some)

    -- a check of one of its granules is its thread's
    pub object_one : (p q j k : ℕ) → (world.obj p).live ≡ true → (world.obj q).live ≡ true → 2 * j < st.cells p → 2 * k < st.cells q → p + 1 + j ≡ q + 1 + k → p ≡ q
    object_one p q j k lp lq a b e = same_object cell_laws x code s ls wt fits g world st p q (2 * j) (2 * k) lp lq a b (omega (arith, e))

    by_cell : (c : Cell) → OnHold (g.threads tr.thread).own.stage → object_of_cell (g.threads tr.thread) c ≡ o → tr.thread ≡ u
    by_cell (Cell.Global h p) hold e = absurd (some (sym e))
    by_cell (Cell.GlobalAt h q) hold e = absurd (some (sym e))
    by_cell (Cell.Object q p) hold e = no_other t q hold e
    by_cell (Cell.ObjectAt q p) hold e = no_other t q hold e

    check_own : (kind : Kind) (j : ℕ) (ok : Bool) → 2 * j < st.cells o → touch ≡ CheckOf kind (o + 1 + j) ok → tr.thread ≡ u
    check_own kind j ok inside q = by (does turns.outcomes code s g tr may fresh)
      where
        of_check : (k : Kind) (a site : ℕ) → IsCheckAt s (g.threads tr.thread) i k a site → a ≡ o + 1 + j → tr.thread ≡ u
        of_check k a site at e =
            let c = checked_granule turns laws cell_laws x code s ls wt fits g world st tr may fresh remains k a site at in
            by_cell c.cell c.hold (sym c.object_is ∙ object_one c.object o c.index j c.live live c.inside inside (sym c.is ∙ e))

        by : Does s (λ q. slice_index g.words (first_shadow + q)) m i touch m' → tr.thread ≡ u
        by (Plain a b c) = absurd (subst IsNoCheck q a)
        by (Passes k a site at b c d) = of_check k a site at (let e : a ≡ o + 1 + j = cc in e)
        by (Refuses k a site at b c d) = of_check k a site at (let e : a ≡ o + 1 + j = cc in e)

    -- what another thread's turn leaves
    bits_kept : (n : ℕ) → (tr.thread ≡ u → ⊥) → ((j : ℕ) → j < n → 2 * j < st.cells o) → NoBits g o n → NoBits g' o n
    bits_kept n ne inside none j lt k = by touch refl (by_word (o + 1 + j) (within j (inside j lt)))
      where
        old : stands (word_at g (o + 1 + j)) k ≡ false
        old = none j lt k

        same : word_at g' (o + 1 + j) ≡ word_at g (o + 1 + j) → stands (word_at g' (o + 1 + j)) k ≡ false
        same e = ap (λ v. stands v k) e ∙ old

        by : (y : Touch) → touch ≡ y → WordBy y tr.thread (o + 1 + j) (word_at g (o + 1 + j)) (word_at g' (o + 1 + j)) (wrote (g.threads tr.thread) (o + 1 + j) (word_at g (o + 1 + j))) → stands (word_at g' (o + 1 + j)) k ≡ false
        by Untouched q w = same w
        by (CheckOf kind p ok) q w = ⊎_elim
            (λ (e : o + 1 + j ≡ p). absurd (ne (check_own kind j ok (inside j lt) (q ∙ ap (λ p. CheckOf kind p ok) (sym e)))))
            (λ d. same (w.1 d))
            (cases_eq (o + 1 + j) p)
        by (ClearOf p) q w = ⊎_elim (λ (e : o + 1 + j ≡ p). (w.0 e).threads k) (λ d. same (w.1 d)) (cases_eq (o + 1 + j) p)
        by (WithdrawOf p) q w = ⊎_elim (λ (e : o + 1 + j ≡ p). (w.0 e).threads k ∙ and_no (stands (word_at g (o + 1 + j)) k) (not (k == t)) old) (λ d. same (w.1 d)) (cases_eq (o + 1 + j) p)

    length_still : length_of s g' o ≡ length_of s g o
    length_still = length_kept x code s ls g world st t o some live tr.event (turn code s m) may.next.asks (writes cell_laws pointer_laws x code s ls wt fits g world st t on)

    granules_inside : (n c j : ℕ) → st.cells o ≡ n * c → j < data_granules n c → 2 * j < st.cells o
    granules_inside n c j e lt = subst (λ k. 2 * j < k) (sym e) (in_cells (n * c) j lt)

    few_cells : st.cells o ≤ largest
    few_cells = by (st.cells o) refl
      where
        by : (n : ℕ) → st.cells o ≡ n → n ≤ largest
        by zero e = omega arith
        by (suc k) e =
            let inside : 2 * (k / 2) < st.cells o = subst (λ n. 2 * (k / 2) < n) (sym e) (half k) in
            let w = within (k / 2) inside in
            let low = granules_low x code s ls wt fits g world st in
            bound k o (granules s) w low
          where
            half : (k : ℕ) → 2 * (k / 2) < suc k
            half k = omega arith

            bound : (k o n : ℕ) → o + 1 + k / 2 < n → n < 2 ^ 18 → suc k ≤ largest
            bound k o n a b = omega arith

    granules_all : (n c j : ℕ) → st.cells o ≡ n * c → 2 * j < st.cells o → j < data_granules n c
    granules_all n c j e lt = of_cells (n * c) j (subst (λ k. k ≤ largest) e few_cells) (subst (λ k. 2 * j < k) e lt)

  -- ---- a thread that does not make the turn
  pub alone_clear : (u r count : ℕ) (y : Stage) → instr_at code (g.threads u).at.pc ≡ Instr.Clear r count → (g.threads u).own.stage ≡ y → OnHold y → IsAlone u r
  alone_clear u r count y is at hold = record { hold = subst OnHold (sym at) hold; cleared = false; gate = (fine_at u (Instr.Clear r count) is).0 }

  pub alone_free : (u r layout site : ℕ) (y : Stage) → instr_at code (g.threads u).at.pc ≡ Instr.Free r layout site → (g.threads u).own.stage ≡ y → OnHold y → IsAlone u r
  alone_free u r layout site y is at hold = let f = fine_at u (Instr.Free r layout site) is in record { hold = subst OnHold (sym at) hold; cleared = f.0.0; gate = f.0.1 }

  pub alone_give : (u r site : ℕ) → IsOn g u → instr_at code (g.threads u).at.pc ≡ Instr.Give r site → IsAlone u r
  alone_give u r site on_u is = record {
    hold = rests_hold code s st.elements world st.heap g.words u (g.threads u) (Instr.Give r site) (g.threads u).own.stage refl (stage_at u on_u (Instr.Give r site) is);
    cleared = true;
    gate = (fine_at u (Instr.Give r site) is).0;
  }

  -- the granules of which a Clear has so many behind it are the object's
  pub clear_inside : (u r count : ℕ) (on_u : IsOn g u) (alone : IsAlone u r) → instr_at code (g.threads u).at.pc ≡ Instr.Clear r count → (all : ℕ) → all ≡ data_granules (st.elements (ref (g.threads u) r)) count → (j : ℕ) → j < all → 2 * j < st.cells (ref (g.threads u) r)
  clear_inside u r count on_u alone is all e j lt =
      let f = fine_at u (Instr.Clear r count) is in
      let n : st.elements (ref (g.threads u) r) ≡ length_of s g (ref (g.threads u) r) = st.sim.lengths (ref (g.threads u) r) (some u on_u r alone) (live u on_u r alone) in
      granules_inside u on_u r alone (length_of s g (ref (g.threads u) r)) count j (cells_are u on_u r alone f.2.0 f.2.1 ∙ ap (λ c. length_of s g (ref (g.threads u) r) * c) (sym f.2.2))
      (subst (λ n. j < data_granules n count) n (subst (λ k. j < k) e lt))

  pub free_inside : (u r layout site : ℕ) (on_u : IsOn g u) (alone : IsAlone u r) → instr_at code (g.threads u).at.pc ≡ Instr.Free r layout site → (all : ℕ) → all ≡ st.elements (ref (g.threads u) r) → (j : ℕ) → j < granules_freed code layout all → 2 * j < st.cells (ref (g.threads u) r)
  free_inside u r layout site on_u alone is all e j lt =
      let f = fine_at u (Instr.Free r layout site) is in
      let c = (layout_at code layout).cells in
      let n : st.elements (ref (g.threads u) r) ≡ length_of s g (ref (g.threads u) r) = st.sim.lengths (ref (g.threads u) r) (some u on_u r alone) (live u on_u r alone) in
      granules_inside u on_u r alone (length_of s g (ref (g.threads u) r)) c j (cells_are u on_u r alone f.3.0 f.3.1 ∙ ap (λ c. length_of s g (ref (g.threads u) r) * c) (sym f.3.2.cells))
      (subst (λ n. j < data_granules n c) (e ∙ n) lt)

  other_clear : (u : ℕ) → IsOn g u → (tr.thread ≡ u → ⊥) → (r count : ℕ) → instr_at code (g.threads u).at.pc ≡ Instr.Clear r count → (y : Stage) → (g.threads u).own.stage ≡ y
      → StageStands code s st.elements world st.heap g.words u (g.threads u) (Instr.Clear r count) y → InClear (NoBits g (ref (g.threads u) r)) y → InClear (NoBits g' (ref (g.threads u) r)) y
  other_clear u on_u ne r count is (Looks done all) at h none =
      let alone = alone_clear u r count (Looks done all) is at tt in
      bits_kept u on_u r alone done ne (λ j lt. clear_inside u r count on_u alone is all h.0 j (let a = h.1.0 in omega (arith, a, lt))) none
  other_clear u on_u ne r count is (Clears done all seen) at h none =
      let alone = alone_clear u r count (Clears done all seen) is at tt in
      bits_kept u on_u r alone done ne (λ j lt. clear_inside u r count on_u alone is all h.0 j (let a = h.1.0 in omega (arith, a, lt))) none
  other_clear u on_u ne r count is _ at h none = tt

  other_free : (u : ℕ) → IsOn g u → (tr.thread ≡ u → ⊥) → (r layout site : ℕ) → instr_at code (g.threads u).at.pc ≡ Instr.Free r layout site → (y : Stage) → (g.threads u).own.stage ≡ y
      → StageStands code s st.elements world st.heap g.words u (g.threads u) (Instr.Free r layout site) y → InFree (NoBits g (ref (g.threads u) r)) code layout y → InFree (NoBits g' (ref (g.threads u) r)) code layout y
  other_free u on_u ne r layout site is (FreeLooks done all) at h none =
      let alone = alone_free u r layout site (FreeLooks done all) is at tt in
      bits_kept u on_u r alone done ne (λ j lt. free_inside u r layout site on_u alone is all h.0.0 j (let a = h.1.0 in omega (arith, a, lt))) none
  other_free u on_u ne r layout site is (FreeClears done all seen) at h none =
      let alone = alone_free u r layout site (FreeClears done all seen) is at tt in
      bits_kept u on_u r alone done ne (λ j lt. free_inside u r layout site on_u alone is all h.0.0 j (let a = h.1.0 in omega (arith, a, lt))) none
  other_free u on_u ne r layout site is (Uncounts all) at h none =
      let alone = alone_free u r layout site (Uncounts all) is at tt in
      bits_kept u on_u r alone (granules_freed code layout all) ne (λ j lt. free_inside u r layout site on_u alone is all h.0.0 j lt) none
  other_free u on_u ne r layout site is _ at h none = tt

  other_give : (u : ℕ) → IsOn g u → (tr.thread ≡ u → ⊥) → (r site : ℕ) → instr_at code (g.threads u).at.pc ≡ Instr.Give r site
      → ((a : StaticType) → (ls.at (g.threads u).at.pc).env r ≡ Refers a → NoBits g (ref (g.threads u) r) (data_granules (length_of s g (ref (g.threads u) r)) (cells_of x a.target)))
      → (a : StaticType) → (ls.at (g.threads u).at.pc).env r ≡ Refers a → NoBits g' (ref (g.threads u) r) (data_granules (length_of s g' (ref (g.threads u) r)) (cells_of x a.target))
  other_give u on_u ne r site is none a e =
      let alone = alone_give u r site on_u is in
      let n = length_of s g (ref (g.threads u) r) in
      subst (λ n. NoBits g' (ref (g.threads u) r) (data_granules n (cells_of x a.target))) (sym (length_still u on_u r alone))
      (bits_kept u on_u r alone (data_granules n (cells_of x a.target)) ne (λ j lt. granules_inside u on_u r alone n (cells_of x a.target) j (cells_are u on_u r alone a e) lt) (none a e))

  other_kept : (u : ℕ) → IsOn g u → (tr.thread ≡ u → ⊥) → (j : Instr) → instr_at code (g.threads u).at.pc ≡ j → ClearedAt x code s ls g (g.threads u) j (g.threads u).own.stage → ClearedAt x code s ls g' (g.threads u) j (g.threads u).own.stage
  other_kept u on_u ne (Instr.Clear r count) is none = other_clear u on_u ne r count is (g.threads u).own.stage refl (stage_at u on_u (Instr.Clear r count) is) none
  other_kept u on_u ne (Instr.Free r layout site) is none = other_free u on_u ne r layout site is (g.threads u).own.stage refl (stage_at u on_u (Instr.Free r layout site) is) none
  other_kept u on_u ne (Instr.Give r site) is none = other_give u on_u ne r site is none
  other_kept u on_u ne _ is none = tt

  -- ---- the thread of the turn
  abbrev Now : Machine → Type 0
  Now y = may_go y.at.state ≡ true → ClearedAt x code s ls g' y (instr_at code y.at.pc) y.own.stage

  -- where it is not known that an object was cleared
  uncleared : (y : Machine) → walks y.own.stage ≡ false → IsUncleared (ls.at y.at.pc).gate → ClearedAt x code s ls g' y (instr_at code y.at.pc) y.own.stage
  uncleared y calm u = by (instr_at code y.at.pc) refl
    where
      by : (j : Instr) → instr_at code y.at.pc ≡ j → ClearedAt x code s ls g' y j y.own.stage
      by (Instr.Clear r count) is = in_clear_calm (NoBits g' (ref y r)) y.own.stage calm
      by (Instr.Free r layout site) is = in_free_calm (NoBits g' (ref y r)) code layout y.own.stage calm
      by (Instr.Give r site) is =
          let f : Fine x code ls y.at.pc (ls.at y.at.pc) (Instr.Give r site) = subst (Fine x code ls y.at.pc (ls.at y.at.pc)) is (wt.fine y.at.pc) in
          absurd (subst IsUncleared f.0 u)
      by _ is = tt

  same_touch : touch ≡ Untouched → (p : ℕ) → p < granules s → word_at g' p ≡ word_at g p
  same_touch e p lt = subst (λ y. WordBy y t p (word_at g p) (word_at g' p) (wrote m p (word_at g p))) e (by_word p lt)

  by_clear : (q p : ℕ) → touch ≡ ClearOf q → p < granules s → (p ≡ q → IsNext (word_at g p) (word_at g' p)) × ((p ≡ q → ⊥) → word_at g' p ≡ word_at g p)
  by_clear q p e lt = subst (λ y. WordBy y t p (word_at g p) (word_at g' p) (wrote m p (word_at g p))) e (by_word p lt)

  module _ (r : ℕ) (alone : IsAlone tr.thread r) where
    abbrev own : ℕ
    own = ref (g.threads tr.thread) r

    same_bits : touch ≡ Untouched → (n : ℕ) → ((j : ℕ) → j < n → 2 * j < st.cells own) → NoBits g own n → NoBits g' own n
    same_bits e n inside none j lt k = ap (λ v. stands v k) (same_touch e (own + 1 + j) (within t on r alone j (inside j lt))) ∙ none j lt k

    more_bits : (done : ℕ) → touch ≡ ClearOf (granule_at s (data_granule own done)) → ((j : ℕ) → j < done + 1 → 2 * j < st.cells own) → NoBits g own done → NoBits g' own (done + 1)
    more_bits done e inside none j lt k =
        let p = own + 1 + j in
        let low = within t on r alone j (inside j lt) in
        let q = granule_at s (data_granule own done) in
        let q_is : q ≡ own + 1 + done = at_low s (own + 1 + done) (within t on r alone done (inside done (omega arith))) in
        let w = by_clear q p e low in
        ⊎_elim
        (λ (same : p ≡ q). (w.0 same).threads k)
        (λ (ne : p ≡ q → ⊥). ap (λ v. stands v k) (w.1 ne) ∙ none j (before j done lt (λ z. ne (ap (λ j. own + 1 + j) z ∙ sym q_is))) k)
        (cases_eq p q)
      where
        before : (j n : ℕ) → j < n + 1 → (j ≡ n → ⊥) → j < n
        before j n lt ne = grind (arith, nat_tests)

    -- after the last granule the next instruction may give the object
    may_give : (a : StaticType) (count all : ℕ) → (ls.at (g.threads tr.thread).at.pc).env r ≡ Refers a → count ≡ cells_of x a.target → all ≡ data_granules (length_of s g own) count → Leads ls ((g.threads tr.thread).at.pc + 1) (gated (ls.at (g.threads tr.thread).at.pc) (Sole r true)) → NoBits g' own all
        → ClearedAt x code s ls g' (rests (g.threads tr.thread)) (instr_at code ((g.threads tr.thread).at.pc + 1)) Rests
    may_give a count all env count_is all_is leads none = by (instr_at code (m.at.pc + 1)) refl
      where
        next : ℕ
        next = (g.threads tr.thread).at.pc + 1

        by : (j : Instr) → instr_at code ((g.threads tr.thread).at.pc + 1) ≡ j → ClearedAt x code s ls g' (rests (g.threads tr.thread)) j Rests
        by (Instr.Clear q count) is = tt
        by (Instr.Free q layout site) is = tt
        by (Instr.Give q site) is = λ b e.
            let pc = m.at.pc + 1 in
            let f : Fine x code ls pc (ls.at pc) (Instr.Give q site) = subst (Fine x code ls pc (ls.at pc)) is (wt.fine pc) in
            let same : q ≡ r = sole_same (Sole r true) (ls.at pc).gate r q refl leads.gate f.0 in
            let target : b.target ≡ a.target = same_target (gated (ls.at m.at.pc) (Sole r true)) r ((ls.at m.at.pc).env r) ((ls.at pc).env r) a b env (leads.env r) (ap (ls.at pc).env (sym same) ∙ e) in
            let n : data_granules (length_of s g' own) (cells_of x b.target) ≡ all =
            ap (λ n. data_granules n (cells_of x b.target)) (length_still t on r alone) ∙ ap (λ c. data_granules (length_of s g own) (cells_of x c)) target ∙ ap (data_granules (length_of s g own)) (sym count_is) ∙ sym all_is in
            subst (λ q. NoBits g' (ref m q) (data_granules (length_of s g' (ref m q)) (cells_of x b.target))) (sym same) (subst (NoBits g' own) (sym n) none)
        by _ is = tt

    -- on to the next granule, or to the next instruction
    to_looks : (a : StaticType) (count done all : ℕ) → i ≡ Instr.Clear r count → (ls.at (g.threads tr.thread).at.pc).env r ≡ Refers a → count ≡ cells_of x a.target → all ≡ data_granules (length_of s g own) count → Leads ls ((g.threads tr.thread).at.pc + 1) (gated (ls.at (g.threads tr.thread).at.pc) (Sole r true))
        → NoBits g' own done → Now (looks (g.threads tr.thread) done all)
    to_looks a count done all is env count_is all_is leads none = elim (nat_lt done all) as (λ b. nat_lt done all ≡ b → Now (if b then at_stage m (Looks done all) else rests m)) [
      | true ↦ λ _ _. subst (λ j. ClearedAt x code s ls g' (at_stage m (Looks done all)) j (Looks done all)) (sym is) none
      | false ↦ λ e _. may_give a count all env count_is all_is leads (λ j lt. none j (let le = not_below done all e in omega (arith, lt, le)))
    ] refl

    -- a Free
    to_free_looks : (layout site done all : ℕ) → i ≡ Instr.Free r layout site → NoBits g' own done → Now (free_looks (g.threads tr.thread) (layout_at code layout) done all)
    to_free_looks layout site done all is none = elim (nat_lt done (data_granules all (layout_at code layout).cells)) as (λ b. nat_lt done (data_granules all (layout_at code layout).cells) ≡ b → Now (if b then at_stage m (FreeLooks done all) else at_stage m (Uncounts all))) [
      | true ↦ λ _ _. subst (λ j. ClearedAt x code s ls g' (at_stage m (FreeLooks done all)) j (FreeLooks done all)) (sym is) none
      | false ↦ λ e _. subst (λ j. ClearedAt x code s ls g' (at_stage m (Uncounts all)) j (Uncounts all)) (sym is) (λ j lt. none j (let le = not_below done (data_granules all (layout_at code layout).cells) e in omega (arith, lt, le)))
    ] refl

    to_empties : (layout site k all : ℕ) → i ≡ Instr.Free r layout site → Now (empties (g.threads tr.thread) (layout_at code layout) k all)
    to_empties layout site k all is = elim (nat_lt k (min (all * fields (layout_at code layout)) largest)) as (λ b. Now (if b then at_stage m (Empties k all) else free_looks m (layout_at code layout) 0 all)) [
      | true ↦ λ _. subst (λ j. ClearedAt x code s ls g' (at_stage m (Empties k all)) j (Empties k all)) (sym is) tt
      | false ↦ to_free_looks layout site 0 all is (λ j lt. absurd (omega arith))
    ]

    to_emptied : (layout site k all v : ℕ) → i ≡ Instr.Free r layout site → Now (emptied (g.threads tr.thread) (layout_at code layout) k all v)
    to_emptied layout site k all zero is = to_empties layout site (k + 1) all is
    to_emptied layout site k all (suc v) is = λ _. subst (λ j. ClearedAt x code s ls g' (at_stage m (Lowers k all (suc v))) j (Lowers k all (suc v))) (sym is) tt

  then_is : (y : Machine) → after (turn code s (g.threads tr.thread)) (result_of tr.event) ≡ y → Now y → Now m'
  then_is y e h = subst Now (sym (put_same g.threads t (state_now (one_thread code s) g tr) ∙ e)) h

  clears : (r count : ℕ) → i ≡ Instr.Clear r count → (y : Stage) → (g.threads tr.thread).own.stage ≡ y → StageStands code s st.elements world st.heap g.words tr.thread (g.threads tr.thread) (Instr.Clear r count) y
      → InClear (NoBits g (ref (g.threads tr.thread) r)) y → Now m'
  clears r count is (Looks done all) at h none =
      let alone = alone_clear t r count (Looks done all) is at tt in
      let o = ref m r in
      let e : touch ≡ Untouched = ap (λ j. touch_of s j m found m') is ∙ ap (cleared_by s o) at in
      let y = at_stage m (Clears done all found) in
      then_is y (ap (λ j. after (act code s j m) found) is ∙ ap (λ y. after (clear s m o count y) found) at)
      (λ _. subst (λ j. ClearedAt x code s ls g' y j (Clears done all found)) (sym is) (same_bits r alone e done (λ j lt. clear_inside t r count on alone is all h.0 j (let a = h.1.0 in omega (arith, a, lt))) none))
  clears r count is (Clears done all seen) at h none =
      let alone = alone_clear t r count (Clears done all seen) is at tt in
      let o = ref m r in
      let f = fine_at t (Instr.Clear r count) is in
      let e : touch ≡ ClearOf (granule_at s (data_granule o done)) = ap (λ j. touch_of s j m found m') is ∙ ap (cleared_by s o) at in
      let all_is : all ≡ data_granules (length_of s g o) count = h.0 ∙ ap (λ n. data_granules n count) (st.sim.lengths o (some t on r alone) (live t on r alone)) in
      then_is (looks m (done + 1) all) (ap (λ j. after (act code s j m) found) is ∙ ap (λ y. after (clear s m o count y) found) at)
      (to_looks r alone f.2.0 count (done + 1) all is f.2.1 f.2.2 all_is f.2.3 (more_bits r alone done e (λ j lt. clear_inside t r count on alone is all h.0 j (let a = h.1.0 in omega (arith, a, lt))) none))
  clears r count is Rests at h none =
      let alone = alone_clear t r count Rests is at tt in
      let o = ref m r in
      let f = fine_at t (Instr.Clear r count) is in
      let step = step_of (length_word s o) WordOp.Load in
      let head = st.apart.headers o (live t on r alone) in
      let word_is : length_word s o ≡ length_at s o = length_here o head in
      let found_o : found ≡ length_of s g o = found_is g.words tr.event step (may.next.asks ∙ ap (λ j. asked_by (act code s j m)) is ∙ ap (λ y. asked_by (clear s m o count y)) at) may.answered ∙ ap (slice_index g.words) word_is in
      then_is (looks m 0 (data_granules found count)) (ap (λ j. after (act code s j m) found) is ∙ ap (λ y. after (clear s m o count y) found) at)
      (to_looks r alone f.2.0 count 0 (data_granules found count) is f.2.1 f.2.2 (ap (λ n. data_granules n count) found_o) f.2.3 (λ j lt. absurd (omega arith)))
    where
      length_here : (o : ℕ) → o < granules s → length_word s o ≡ length_at s o
      length_here o lt = let e = at_low s o lt in omega (arith, e)
  clears r count is _ at h none = absurd h

  frees : (r layout site : ℕ) → i ≡ Instr.Free r layout site → (y : Stage) → (g.threads tr.thread).own.stage ≡ y → StageStands code s st.elements world st.heap g.words tr.thread (g.threads tr.thread) (Instr.Free r layout site) y
      → InFree (NoBits g (ref (g.threads tr.thread) r)) code layout y → Now m'
  frees r layout site is (FreeLooks done all) at h none =
      let alone = alone_free t r layout site (FreeLooks done all) is at tt in
      let e : touch ≡ Untouched = ap (λ j. touch_of s j m found m') is ∙ ap (freed_by s (ref m r)) at in
      let y = at_stage m (FreeClears done all found) in
      then_is y (ap (λ j. after (act code s j m) found) is ∙ ap (λ y. after (free code s m r (layout_at code layout) y) found) at)
      (λ _. subst (λ j. ClearedAt x code s ls g' y j (FreeClears done all found)) (sym is) (same_bits r alone e done (λ j lt. free_inside t r layout site on alone is all h.0.0 j (let a = h.1.0 in omega (arith, a, lt))) none))
  frees r layout site is (FreeClears done all seen) at h none =
      let alone = alone_free t r layout site (FreeClears done all seen) is at tt in
      let e : touch ≡ ClearOf (granule_at s (data_granule (ref m r) done)) = ap (λ j. touch_of s j m found m') is ∙ ap (freed_by s (ref m r)) at in
      then_is (free_looks m (layout_at code layout) (done + 1) all) (ap (λ j. after (act code s j m) found) is ∙ ap (λ y. after (free code s m r (layout_at code layout) y) found) at)
      (to_free_looks r alone layout site (done + 1) all is (more_bits r alone done e (λ j lt. free_inside t r layout site on alone is all h.0.0 j (let a = h.1.0 in omega (arith, a, lt))) none))
  frees r layout site is (Empties k all) at h none =
      let alone = alone_free t r layout site (Empties k all) is at tt in
      then_is (emptied m (layout_at code layout) k all found) (ap (λ j. after (act code s j m) found) is ∙ ap (λ y. after (free code s m r (layout_at code layout) y) found) at) (to_emptied r alone layout site k all found is)
  frees r layout site is (Lowers k all was) at h none =
      let alone = alone_free t r layout site (Lowers k all was) is at tt in
      then_is (empties m (layout_at code layout) (k + 1) all) (ap (λ j. after (act code s j m) found) is ∙ ap (λ y. after (free code s m r (layout_at code layout) y) found) at) (to_empties r alone layout site (k + 1) all is)
  frees r layout site is (Uncounts all) at h none =
      let y = at_stage m (Links all) in
      then_is y (ap (λ j. after (act code s j m) found) is ∙ ap (λ y. after (free code s m r (layout_at code layout) y) found) at) (λ _. subst (λ j. ClearedAt x code s ls g' y j (Links all)) (sym is) tt)
  frees r layout site is (Links all) at h none =
      let f = fine_at t (Instr.Free r layout site) is in
      let y = freed m r (layout_at code layout) all in
      let closed = less_uncleared (empty (ls.at m.at.pc) r).gate (ls.at (m.at.pc + 1)).gate tt f.4.gate in
      then_is y (ap (λ j. after (act code s j m) found) is ∙ ap (λ y. after (free code s m r (layout_at code layout) y) found) at) (λ _. uncleared y refl closed)
  frees r layout site is Rests at h none =
      let alone = alone_free t r layout site Rests is at tt in
      then_is (empties m (layout_at code layout) 0 found) (ap (λ j. after (act code s j m) found) is ∙ ap (λ y. after (free code s m r (layout_at code layout) y) found) at) (to_empties r alone layout site 0 found is)
  frees r layout site is _ at h none = absurd h

  -- another instruction
  calm_stage : (j : Instr) (y : Stage) → is_clearing j ≡ false → StageStands code s st.elements world st.heap g.words tr.thread (g.threads tr.thread) j y → walks y ≡ false
  calm_stage j (Looks done all) e h = absurd (not_clear _ j e h)
  calm_stage j (Clears done all seen) e h = absurd (not_clear _ j e h)
  calm_stage j (FreeLooks done all) e h = absurd (not_free _ j e h)
  calm_stage j (FreeClears done all seen) e h = absurd (not_free _ j e h)
  calm_stage j (Uncounts all) e h = absurd (not_free _ j e h)
  calm_stage j _ e h = refl

  rn : Runs x code s ls st.elements world st.heap g tr.thread (g.threads tr.thread)
  rn = (st.threads t).runs on.0 on.1

  abbrev y_now : Machine
  y_now = after (turn code s (g.threads tr.thread)) (result_of tr.event)

  plain : is_clearing i ≡ false → Now m'
  plain other =
      let y = after (turn code s m) found in
      let a : Arrives ls m y = arriving x code s ls wt m (calm_stage i m.own.stage other rn.stage) t (view_of st.elements world t m) rn.below i found other (wt.fine m.at.pc) in
      then_is y refl (λ go. ⊎_elim
      (λ (same : y.at.pc ≡ m.at.pc). subst (λ pc. ClearedAt x code s ls g' y (instr_at code pc) y.own.stage) (sym same) (by same i refl))
      (λ u. uncleared y a.stage u)
      (a.place go))
    where
      next : (n k : ℕ) → n ≡ k + 1 → n ≡ k → ⊥
      next n k a b = omega (arith, a, b)

      by : y_now.at.pc ≡ (g.threads tr.thread).at.pc → (j : Instr) → i ≡ j → ClearedAt x code s ls g' y_now j y_now.own.stage
      by same (Instr.Clear r count) is = absurd (yes (sym (ap is_clearing is) ∙ other))
      by same (Instr.Free r layout site) is = absurd (yes (sym (ap is_clearing is) ∙ other))
      by same (Instr.Give r site) is = absurd (next y_now.at.pc m.at.pc (ap (λ j. (after (act code s j m) found).at.pc) is) same)
      by same _ is = tt

  mine : AllCleared x code s ls g → Now m'
  mine old = by i refl (old.at t on)
    where
      by : (j : Instr) → i ≡ j → ClearedAt x code s ls g (g.threads tr.thread) j (g.threads tr.thread).own.stage → Now m'
      by (Instr.Clear r count) is none = clears r count is m.own.stage refl (stage_at t on (Instr.Clear r count) is) none
      by (Instr.Free r layout site) is none = frees r layout site is m.own.stage refl (stage_at t on (Instr.Free r layout site) is) none
      by j is none = plain (ap is_clearing is)

  pub cleared_then : AllCleared x code s ls g → AllCleared x code s ls (after_turn bounds (one_thread code s) g tr)
  cleared_then old = record {
    at = λ u on_u. ⊎_elim
        (λ (same : u ≡ t).
        let go : may_go m'.at.state ≡ true = ap (λ u. may_go (g'.threads u).at.state) (sym same) ∙ on_u.1 in
        subst (λ u. ClearedAt x code s ls g' (g'.threads u) (instr_at code (g'.threads u).at.pc) (g'.threads u).own.stage) (sym same) (mine old go))
        (λ (ne : u ≡ t → ⊥).
        let y : g'.threads u ≡ g.threads u = put_other g.threads t u (state_now (one_thread code s) g tr) ne in
        let go : may_go (g.threads u).at.state ≡ true = ap (λ (y : Machine). may_go y.at.state) (sym y) ∙ on_u.1 in
        subst (λ (y : Machine). ClearedAt x code s ls g' y (instr_at code y.at.pc) y.own.stage) (sym y) (others u ne go))
        (cases_eq u t);
  }
    where
      others : (u : ℕ) → (u ≡ tr.thread → ⊥) → may_go (g.threads u).at.state ≡ true → ClearedAt x code s ls g' (g.threads u) (instr_at code (g.threads u).at.pc) (g.threads u).own.stage
      others u ne go = elim (g.started u) as (λ b. g.started u ≡ b → ClearedAt x code s ls g' (g.threads u) (instr_at code (g.threads u).at.pc) (g.threads u).own.stage) [
        | true ↦ λ started. other_kept u (started, go) (λ z. ne (sym z)) (instr_at code (g.threads u).at.pc) refl (old.at u (started, go))
        | false ↦ λ off.
            let y : g.threads u ≡ begun code s u = (st.threads u).waits off in
            subst (λ (y : Machine). ClearedAt x code s ls g' y (instr_at code y.at.pc) y.own.stage) (sym y) (subst (λ j. ClearedAt x code s ls g' (begun code s u) j Rests) (sym wt.begin.1) tt)
      ] refl

  -- ---- at a Give and at the end of a Free
  -- no bit stands in a granule of the object
  pub given_cleared : AllCleared x code s ls g → (r site : ℕ) → instr_at code (g.threads tr.thread).at.pc ≡ Instr.Give r site → (j : ℕ) → 2 * j < st.cells (ref (g.threads tr.thread) r) → (k : ℕ) → stands (word_at g (ref (g.threads tr.thread) r + 1 + j)) k ≡ false
  given_cleared old r site is j lt k =
      let f = fine_at t (Instr.Give r site) is in
      let alone = alone_give t r site on is in
      let none : ClearedAt x code s ls g m (Instr.Give r site) m.own.stage = subst (λ j. ClearedAt x code s ls g m j m.own.stage) is (old.at t on) in
      none f.2.0 f.2.2 j (granules_all t on r alone (length_of s g (ref m r)) (cells_of x f.2.0.target) j (cells_are t on r alone f.2.0 f.2.2) lt) k

  pub freed_cleared : AllCleared x code s ls g → (r layout site all : ℕ) → instr_at code (g.threads tr.thread).at.pc ≡ Instr.Free r layout site → (g.threads tr.thread).own.stage ≡ Uncounts all → (j : ℕ) → 2 * j < st.cells (ref (g.threads tr.thread) r) → (k : ℕ) → stands (word_at g (ref (g.threads tr.thread) r + 1 + j)) k ≡ false
  freed_cleared old r layout site all is at j lt k =
      let f = fine_at t (Instr.Free r layout site) is in
      let alone = alone_free t r layout site (Uncounts all) is at tt in
      let o = ref m r in
      let h = subst (StageStands code s st.elements world st.heap g.words t m (Instr.Free r layout site)) at (stage_at t on (Instr.Free r layout site) is) in
      let none : InFree (NoBits g o) code layout (Uncounts all) = subst (InFree (NoBits g o) code layout) at (subst (λ j. ClearedAt x code s ls g m j m.own.stage) is (old.at t on)) in
      let c = (layout_at code layout).cells in
      let n : all ≡ length_of s g o = h.0.0 ∙ st.sim.lengths o (some t on r alone) (live t on r alone) in
      let size : st.cells o ≡ length_of s g o * c = cells_are t on r alone f.3.0 f.3.1 ∙ ap (λ c. length_of s g o * c) (sym f.3.2.cells) in
      none j (subst (λ n. j < data_granules n c) (sym n) (granules_all t on r alone (length_of s g o) c j size lt)) k

-- where no turn was made
pub first_cleared : (x : Targets) (code : Code) (s : Shape) (ls : Labels) (wt : IsWellTyped x code ls) (g : Global Machine) → ((u : ℕ) → g.threads u ≡ begun code s u) → AllCleared x code s ls g
first_cleared x code s ls wt g begins = record {
  at = λ u on_u. subst (λ (y : Machine). ClearedAt x code s ls g y (instr_at code y.at.pc) y.own.stage) (sym (begins u)) (subst (λ j. ClearedAt x code s ls g (begun code s u) j Rests) (sym wt.begin.1) tt);
}
