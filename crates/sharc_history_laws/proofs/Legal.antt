-- The event of each turn of typed code may come after those before it, if it does not tell who waits.
use Rattle.sharc_history_laws.proofs.{Imports.{◌≡◌, ℕ, ℤ, pos, negsuc, zero, suc, ◌+◌, ◌<◌, ◌≤◌, ◌≢◌, ◌⊎◌, inl, inr, Bool, true, false, ◌||◌, nat_lt, List, reverse, Option, Some, None, is_some, if◌then◌else◌, refl, sym, ap, ◌∙◌, subst, ⊎_elim, arith, eqb-true, ltb-true, nat_tests, not_true, slice_index, ◌==◌, THREADS, WordStep, WordOp, Act, SourceEvent, Trap, NewStage, waits_in, HeldMutex, object_of, Resolution, Code, Cell, Instr, Register, Shape, Stage, Makes, Uncounts, Begins, Enters, Withdraws, WithdrawsFrom, Leaves, Wakes, RunLaws, int_of, Fits, first_cell, state_word, Machine, step_of, int, ref, word, act, place, object, is_held, join, joined, trapped, Local, Asks, is_locking, turn, asked_by, Turn, MayTurn, said, cell_at, speaks_of, take_local, nobody, in_signal, in_exit, in_spawn, in_start, in_free, in_new, new_event, event_at, reference, one_thread, bounds, place_after, state_of, TellsState, is_about_waiters, MayFind, table_of, is_cell, locked_by, unlocked_by, History, MayCome, IsFresh, was_spawned, went, was_locked_by, value_after, Targets, Field, Labels, IsWellTyped, Accesses, is_ended, IsSmall, StageStands, OnHold, Keeps, CellsAreThere, PointersAreThere, AccessesAreAllowed, StateStands, yes, single}, TurnAt.{turn_at, told_at, turn_stands}, Consists.{Consists, found_is, quiet_is, own_turn, header_built, built_low, live_not_built}, Contents.{value_is, newest_value, value_held, content_of, word_of_cell, Contents}, Emptying.IsEmptied, Holding.{cell_eq, holds_in}, Lists.{Newest, live_in, is_live_in}, Living.LivesTold, Locked.{IsIn, LogTold, names_cell, one_place, held_told, contains}, Locking.word_is, Logged.{LogHas, is_logged}, Mutual.{Mutual, MayMutex, no_lock, locked_in, locked_by_in, locked_is, locked_by_is}, Mutexless.{mutex_said, no_mutex, not_locked}, Shared.number_of, Single.rests_hold, Sparing.is_value, Tables.header_of, Threaded.ThreadsTold, Unemptied.not_emptied}
use Rattle.sharc_invariant.specs.Words as Words
use Rattle.sharc_history_laws.proofs.Placed as Placed

-- it may come, if it does not tell who waits
abbrev pub IsLegal : Resolution → History → Option SourceEvent → Type 0
IsLegal r R None = Unit {0}
IsLegal r R (Some e) = is_about_waiters e.act ≡ false → MayCome r R e e.act

-- what is known of the events before a turn
pub record Told (r : Resolution) (x : Targets) (code : Code) (s : Shape) (ls : Labels) (earlier : List Turn) (h : Consists x code s ls earlier) (L : Newest) : Type 0 where
  pub lives : LivesTold L h.world.obj
  pub logs : (u : ℕ) → LogTold code s L u ((place_after code s earlier).threads u).own.held
  pub has : (u : ℕ) → LogHas code s L u ((place_after code s earlier).threads u).own.held
  pub mutexes : Mutual L
  pub threads : ThreadsTold L (place_after code s earlier)
  pub contents : Contents r x code s L (table_of code s earlier) (place_after code s earlier) h.world h.state.cells

-- ---- one turn
module _ (state_law : StateStands) (cell_laws : CellsAreThere) (pointers : PointersAreThere) (rights : AccessesAreAllowed) (laws : RunLaws) (keeps : Keeps) (x : Targets) (code : Code) (s : Shape) (ls : Labels) (wt : IsWellTyped x code ls) (fits : Fits code s) (few : IsSmall code s)
    (one : Turn) (earlier : List Turn) (h : Consists x code s ls earlier) (may : MayTurn bounds (one_thread code s) (place_after code s earlier) one) where
  open turn_at code s (place_after code s earlier) one use {g, t, m, i, found}
  open told_at code s earlier one use {T, elements, event}
  open turn_stands wt h.state one may use {on, stage_here, fine, number}

  may_find : (j : Instr) → i ≡ j → MayFind code s (table_of code s earlier) ((place_after code s earlier).threads one.thread) found j
  may_find j e = subst (MayFind code s (table_of code s earlier) m found) e (own_turn laws keeps cell_laws pointers x code s ls wt fits few one earlier h may).finds

  found_at : (step : WordStep) → asked_by (turn code s ((place_after code s earlier).threads one.thread)) ≡ Some step → found ≡ slice_index (place_after code s earlier).words step.word
  found_at step asked = found_is g.words one.event step (may.next.asks ∙ asked) may.answered

  -- ---- with what is known of the events before it
  module _ (r : Resolution) (L : Newest) (told : Told r x code s ls earlier h L) (state : (u : ℕ) → u < THREADS → TellsState (place_after code s earlier) u) where
    abbrev Legal : Option SourceEvent → Type 0
    Legal = IsLegal r (reverse L)

    either : (b : Bool) (y z : Option SourceEvent) → Legal y → Legal z → Legal (if b then y else z)
    either true y z a b = a
    either false y z a b = b

    -- ---- accesses
    -- what an access finds
    reads : (hold : OnHold ((place_after code s earlier).threads one.thread).own.stage) (k : Cell) (site : ℕ) (f : Field) (write : Bool) → Accesses x code ls (ls.at ((place_after code s earlier).threads one.thread).at.pc) write k site f
        → is_value f.holds ≡ true → found ≡ slice_index (place_after code s earlier).words (word s ((place_after code s earlier).threads one.thread) k)
        → value_held f.holds T found ≡ value_after r (reverse L) (cell_at code ((place_after code s earlier).threads one.thread) k)
    reads hold k site f write acc value found_here =
        let n = Placed.numbers cell_laws x code s ls wt fits g h.world h.state t on hold k f acc.cell in
        let d = cell_at code m k in
        let content = Placed.content cell_laws x code s ls wt fits g h.world h.state t on hold k f acc.cell in
        let cell = Placed.cell cell_laws x code s ls wt fits g h.world h.state t on hold k f acc.cell in
        let word_at = Placed.word_is cell_laws x code s ls wt fits g h.world h.state t on hold k f acc.cell in
        let found_there : slice_index g.words (word_of_cell code s d) ≡ found = ap (slice_index g.words) word_at ∙ sym found_here in
        ⊎_elim
        (λ (v : newest_value r L d ≡ value_held (content_of x code h.world d) T (slice_index g.words (word_of_cell code s d))).
        sym (value_is r L d ∙ v ∙ ap (value_held (content_of x code h.world d) T) found_there ∙ ap (λ k. value_held k T found) content))
        (λ (z : IsEmptied code g (number_of d.object)). absurd (not_emptied state_law x code s ls wt fits g h.world h.state t on hold k acc.apart (subst (IsEmptied code g) n.0 z)))
        (told.contents d cell (ap is_value content ∙ value))

    held_by : (j : Instr) → i ≡ j → single j ≡ true → OnHold ((place_after code s earlier).threads one.thread).own.stage
    held_by j is one = rests_hold code s h.state.elements h.world h.state.heap g.words t m j m.own.stage one (stage_here j is)

    at_load : (q site : ℕ) (k : Cell) → i ≡ Instr.Load q k site → int_of found ≡ value_after r (reverse L) (cell_at code ((place_after code s earlier).threads one.thread) k)
    at_load q site k is =
        let f = fine (Instr.Load q k site) is in
        let found_here = found_at (step_of (word s m k) WordOp.Load) (ap (λ j. asked_by (act code s j m)) is) in
        ap (λ c. value_held c T found) (sym f.1.3) ∙ reads (held_by (Instr.Load q k site) is refl) k site f.1.0 false f.1.2 (ap is_value f.1.3) found_here

    at_load_ref : (site : ℕ) (k : Cell) → i ≡ Instr.LoadRef k site → reference found elements ≡ value_after r (reverse L) (cell_at code ((place_after code s earlier).threads one.thread) k)
    at_load_ref site k is =
        let f = fine (Instr.LoadRef k site) is in
        let found_here = found_at (step_of (word s m k) WordOp.Load) (ap (λ j. asked_by (act code s j m)) is) in
        ap (λ j. reference found (T (speaks_of j m found))) is
        ∙ ap (λ c. value_held c T found) (sym f.3) ∙ reads (held_by (Instr.LoadRef k site) is refl) k site f.0 false f.2 (ap is_value f.3) found_here

    at_take : (q site : ℕ) (k : Cell) → i ≡ Instr.TakeCell q k site → reference found elements ≡ value_after r (reverse L) (cell_at code ((place_after code s earlier).threads one.thread) k)
    at_take q site k is =
        let f = fine (Instr.TakeCell q k site) is in
        let found_here = found_at (step_of (word s m k) (WordOp.Swap 0)) (ap (λ j. asked_by (act code s j m)) is) in
        ap (λ j. reference found (T (speaks_of j m found))) is
        ∙ ap (λ c. value_held c T found) (sym f.1.3.holds) ∙ reads (held_by (Instr.TakeCell q k site) is refl) k site f.1.0 true f.1.2 (ap is_value f.1.3.holds) found_here

    -- ---- mutexes
    -- a mutex that is locked by the events is one whose word is not 0
    unlocked : (k : Cell) (site : ℕ) → i ≡ Instr.Lock k site → found ≡ 0 → locked_in L (cell_at code ((place_after code s earlier).threads one.thread) k) ≡ false
    unlocked k site is z = not_true (locked_in L (cell_at code m k)) (λ locked.
        let free = may_find (Instr.Lock k site) is z in
        let holder = told.mutexes.held (cell_at code m k) locked in
        let u = holder.0 in
        let entry = told.has u (cell_at code m k) holder.1 in
        let b = entry.0 in
        let at = entry.2.0 in
        let same_at : at ≡ place m k = one_place code (cell_at code m k).object (cell_at code m k).cell b.object (object m k) at (place m k) entry.2.2 (names_cell code m k free.mutex.there) in
        let w : b.word ≡ word s m k = entry.2.1 ∙ ap (λ n. first_cell s + n) same_at ∙ sym (word_is cell_laws pointers rights laws keeps x code s ls wt fits few one earlier h may k free.mutex) in
        let inside = h.state.locks.logged u b (contains (g.threads u).own.held b entry.1) in
        let o = b.object in
        let j = inside.0 in
        let held : is_held (g.threads u) (Words.cell_at s o j) ≡ true = ap (λ n. is_some (object_of (g.threads u).own.held n)) (sym inside.1.0) ∙ is_logged (g.threads u).own.held b entry.1 in
        let few_ : u < THREADS = holder_few u b entry.1 in
        let mutex : h.world.mutex o j ≡ suc u = (h.state.locks.held u o j few_ inside.1.1 inside.1.2 inside.1.3).1 held in
        let word_there : h.world.mutex o j ≡ slice_index g.words (Words.cell_at s o j) = h.state.sim.mutexes o j inside.1.1 inside.1.2 inside.1.3 in
        let found_here : found ≡ slice_index g.words (word s m k) = found_at (step_of (word s m k) (WordOp.Cas 0 (m.own.number + 1))) (ap (λ j. asked_by (act code s j m)) is) in
        let zero_word : slice_index g.words (Words.cell_at s o j) ≡ 0 = ap (slice_index g.words) (sym inside.1.0 ∙ w) ∙ sym found_here ∙ z in
        above u (sym mutex ∙ word_there ∙ zero_word))
      where
        above : (u : ℕ) → suc u ≡ 0 → ⊥
        above u e = omega arith

        holder_few : (u : ℕ) (b : HeldMutex) → IsIn b ((place_after code s earlier).threads u).own.held → u < THREADS
        holder_few u b is = elim (g.started u) as (λ c. g.started u ≡ c → u < THREADS) [
          | true ↦ λ e. h.state.begins.few u e
          | false ↦ λ e. absurd (subst (IsIn b) (ap (λ (y : Machine). y.own.held) ((h.state.threads u).waits e)) is)
        ] refl

    holds_own : (q site : ℕ) (k : Cell) → i ≡ Instr.Unlock q k site → holds_in L one.thread (cell_at code ((place_after code s earlier).threads one.thread) k) ≡ true
    holds_own q site k is =
        let held = may_find (Instr.Unlock q k site) is in
        held_told code s L t m.own.held (object m k) (place m k) (cell_at code m k) (told.logs t) held.mutex.apart held.own (names_cell code m k held.mutex.there)

    -- an event of a mutex
    pub may_mutex : (e : SourceEvent) → event ≡ Some e → MayMutex L e
    may_mutex e said_is = by i refl
      where
        locked_act : (k : Cell) (site : ℕ) → i ≡ Instr.Lock k site → found ≡ 0 → e.act ≡ Act.Lock (cell_at code ((place_after code s earlier).threads one.thread) k) → MayMutex L e
        locked_act k site is z a = record {
          free = λ c p. let same : c ≡ cell_at code m k = cell_eq c (cell_at code m k) (sym (ap (λ a. is_cell c (locked_by a)) a) ∙ p) in ap (locked_in L) same ∙ unlocked k site is z;
          own = λ c p. absurd (yes (sym p ∙ ap (λ a. is_cell c (unlocked_by a)) a));
          one = λ c p. ap (λ a. is_cell c (unlocked_by a)) a;
        }

        unlocked_act : (q site : ℕ) (k : Cell) → i ≡ Instr.Unlock q k site → e.act ≡ Act.Unlock (cell_at code ((place_after code s earlier).threads one.thread) k) → e.thread ≡ one.thread → MayMutex L e
        unlocked_act q site k is a thread = record {
          free = λ c p. absurd (yes (sym p ∙ ap (λ a. is_cell c (locked_by a)) a));
          own = λ c p. let same : c ≡ cell_at code m k = cell_eq c (cell_at code m k) (sym (ap (λ a. is_cell c (unlocked_by a)) a) ∙ p) in ap (λ u. holds_in L u c) thread ∙ ap (holds_in L t) same ∙ holds_own q site k is;
          one = λ c p. absurd (yes (sym p ∙ ap (λ a. is_cell c (locked_by a)) a));
        }

        act_of : Option SourceEvent → Rattle.sharc_tree.specs.declared.event.Act.Act
        act_of None = Act.Return
        act_of (Some d) = d.act

        thread_of : Option SourceEvent → ℕ
        thread_of None = 0
        thread_of (Some d) = d.thread

        at_lock : (k : Cell) (site : ℕ) → i ≡ Instr.Lock k site → (b : Bool) → (found == 0) ≡ b → (if b then event_at code ((place_after code s earlier).threads one.thread) site (pos 0) (Act.Lock (cell_at code ((place_after code s earlier).threads one.thread) k)) else None) ≡ Some e → MayMutex L e
        at_lock k site is true z q = locked_act k site is (eqb-true found 0 z) (ap act_of (sym q))
        at_lock k site is false z q = absurd (let f : None ≡ Some e = q in cc)

        others : is_locking i ≡ false → MayMutex L e
        others never =
            let a = not_locked e.act (ap mutex_said (sym said_is) ∙ no_mutex code m laws.turns.tells i found elements never) in
            no_lock L e (λ c. ap (is_cell c) a.0) (λ c. ap (is_cell c) a.1)

        by : (j : Instr) → i ≡ j → MayMutex L e
        by (Instr.Lock k site) is = at_lock k site is (found == 0) refl (sym (ap (λ j. said code j m found elements) is) ∙ said_is)
        by (Instr.Unlock q k site) is = let now = sym (ap (λ j. said code j m found elements) is) ∙ said_is in unlocked_act q site k is (ap act_of (sym now)) (ap thread_of (sym now) ∙ number)
        by _ is = others (ap is_locking is)

    -- ---- new objects
    fresh : (header elements' : ℕ) → header_of i ((place_after code s earlier).threads one.thread).own.stage ≡ Some header → IsFresh (reverse L) elements' (reference header elements')
    fresh header elements' made =
        let built = header_built x code s ls wt fits g h.world h.state t on header made in
        let nz : h.state.heap.size header ≢ 0 = λ q. let e = h.state.heap_stands.kept.blocks.known header q in let f : Rattle.sharc_invariant.specs.Blocks.Built t ≡ Rattle.sharc_invariant.specs.Blocks.Unused = sym built ∙ e in cc in
        let first = (h.state.heap_stands.kept.blocks.within header nz).0 in
        let low = (built_low x code s ls wt fits g h.world h.state header t built).1 in
        let some : header ≢ 0 = λ z. omega arith in
        record {
          number = header;
          refers = refers header elements' some;
          above = omega arith;
          below = low;
          fresh = is_live_in L header ∙ not_true (live_in L header) (λ live. live_not_built x code s ls wt fits g h.world h.state header t some (told.lives header live) built);
        }
      where
        refers : (n k : ℕ) → n ≢ 0 → reference n k ≡ Rattle.sharc_meaning.specs.Reference.reference n k
        refers zero k ne = absurd (ne refl)
        refers (suc n) k ne = refl

    at_new : (q count cells' site : ℕ) → i ≡ Instr.New q count cells' site → (stage : Stage) → ((place_after code s earlier).threads one.thread).own.stage ≡ stage → Legal (in_new code ((place_after code s earlier).threads one.thread) site cells' stage)
    at_new q count cells' site is (Makes v) at = at_stage v.stage refl
      where
        at_stage : (y : NewStage) → v.stage ≡ y → Legal (new_event code ((place_after code s earlier).threads one.thread) site cells' v y)
        at_stage (NewStage.Length header) y_is = λ w. fresh header v.arguments.elements (ap (λ j. header_of j m.own.stage) is ∙ ap Rattle.sharc_history_laws.proofs.Tables.header_in at ∙ ap Rattle.sharc_history_laws.proofs.Tables.header_at y_is)
        at_stage _ y_is = tt
    at_new q count cells' site is _ at = tt

    -- ---- threads
    at_spawn : (q f site : ℕ) (from : Register) → i ≡ Instr.Spawn q f from site → (stage : Stage) → ((place_after code s earlier).threads one.thread).own.stage ≡ stage → Legal (in_spawn code ((place_after code s earlier).threads one.thread) f from site elements stage)
    at_spawn q f site from is (Begins n) at = λ w.
        let reserves = (subst (StageStands code s h.state.elements h.world h.state.heap g.words t m (Instr.Spawn q f from site)) at (stage_here (Instr.Spawn q f from site) is)).0 in
        let first = reserves.first in
        record {
          thread = n;
          tells = refl;
          other = λ z. omega arith;
          fresh = not_true (was_spawned (reverse L) n) (λ spawned.
              let started = told.threads.spawned n spawned in
              let off : g.started n ≡ false = (h.state.begins.started n reserves.few).0 reserves.state in
              yes (sym started ∙ off));
        }
    at_spawn q f site from is _ at = tt

    at_join : (q site : ℕ) → i ≡ Instr.Join q site → (b : Bool) → (found == 0 || (found == 1 || found == 2)) ≡ b → went (reverse L) (int ((place_after code s earlier).threads one.thread) q) ≡ true ⊎ (b ≡ true)
    at_join q site is true e = inr refl
    at_join q site is false e = inl (by (int m q) refl)
      where
        parts : (a b c : Bool) → (a || (b || c)) ≡ false → (a ≡ false) × (b ≡ false) × (c ≡ false)
        parts true b c e = absurd (yes e)
        parts false true c e = absurd (yes e)
        parts false false c e = (refl, refl, e)

        none_found : asked_by (turn code s ((place_after code s earlier).threads one.thread)) ≡ None → ⊥
        none_found quiet = let z : found ≡ 0 = quiet_is one.event (may.next.asks ∙ quiet) in yes (sym (ap (λ n. n == 0) z) ∙ (parts (found == 0) (found == 1) (found == 2) e).0)

        ended : (n : ℕ) → n < THREADS → found ≡ state_of (place_after code s earlier) n → is_ended ((place_after code s earlier).threads n).at.state ≡ true
        ended n lt word =
            let p = parts (found == 0) (found == 1) (found == 2) e in
            let tells = state n lt in
            let few' = tells.few in
            let three : state_of g n ≡ 3 = sym word ∙ last found (subst (λ v. v ≤ 3) (sym word) few') p.0 p.1 p.2 in
            ap is_ended (tells.ended.0 three)
          where
            last : (v : ℕ) → v ≤ 3 → (v == 0) ≡ false → (v == 1) ≡ false → (v == 2) ≡ false → v ≡ 3
            last v le a b c = grind (arith, nat_tests)

        by_word : (n : ℕ) (b : Bool) → int ((place_after code s earlier).threads one.thread) q ≡ pos n → nat_lt n THREADS ≡ b → went (reverse L) (pos n) ≡ true
        by_word n true z lt =
            let asked : asked_by (turn code s m) ≡ Some (step_of (state_word n) WordOp.Load) =
            ap (λ j. asked_by (act code s j m)) is ∙ ap (λ z. asked_by (join m z site)) z ∙ ap (λ b. asked_by (if b then Asks (step_of (state_word n) WordOp.Load) (joined m site) else Local (trapped m Trap.NoSuchThread site))) lt in
            told.threads.gone n (ended n (below n lt) (found_at (step_of (state_word n) WordOp.Load) asked))
          where
            below : (n : ℕ) → nat_lt n THREADS ≡ true → n < THREADS
            below n e = ltb-true n THREADS e
        by_word n false z lt = absurd (none_found (ap (λ j. asked_by (act code s j m)) is ∙ ap (λ z. asked_by (join m z site)) z
            ∙ ap (λ b. asked_by (if b then Asks (step_of (state_word n) WordOp.Load) (joined m site) else Local (trapped m Trap.NoSuchThread site))) lt))

        by : (z : ℤ) → int ((place_after code s earlier).threads one.thread) q ≡ z → went (reverse L) (int ((place_after code s earlier).threads one.thread) q) ≡ true
        by (pos n) z = ap (went (reverse L)) z ∙ by_word n (nat_lt n THREADS) z refl
        by (negsuc n) z = absurd (none_found (ap (λ j. asked_by (act code s j m)) is ∙ ap (λ z. asked_by (join m z site)) z))

    join_legal : (q site : ℕ) → i ≡ Instr.Join q site → (b : Bool) → (found == 0 || (found == 1 || found == 2)) ≡ b
        → Legal (if b then None else event_at code ((place_after code s earlier).threads one.thread) site (pos 0) (Act.Join (int ((place_after code s earlier).threads one.thread) q)))
    join_legal q site is true e = tt
    join_legal q site is false e = λ w. ⊎_elim (λ (z : went (reverse L) (int m q) ≡ true). z) (λ z. absurd (yes (sym z))) (at_join q site is false e)

    -- ---- waiters
    nobody_legal : (k : Cell) (site found' : ℕ) → Legal (nobody code ((place_after code s earlier).threads one.thread) k site found')
    nobody_legal k site zero = λ w. absurd (yes w)
    nobody_legal k site (suc n) = tt

    signal_legal : (k : Cell) (site : ℕ) (stage : Stage) → Legal (in_signal code ((place_after code s earlier).threads one.thread) k site found stage)
    signal_legal k site (Wakes seen) = either (found == seen) _ _ (λ w. absurd (yes w)) (nobody_legal k site found)
    signal_legal k site _ = nobody_legal k site found

    -- ---- what needs nothing
    local_legal : (site number' elements' : ℕ) → Legal (take_local code ((place_after code s earlier).threads one.thread) site number' elements')
    local_legal site zero elements' = tt
    local_legal site (suc n) elements' = λ w. tt

    free_legal : (q site : ℕ) (stage : Stage) → Legal (in_free code ((place_after code s earlier).threads one.thread) q site elements stage)
    free_legal q site (Uncounts all) = λ w. tt
    free_legal q site _ = tt

    start_legal : (stage : Stage) → Legal (in_start code ((place_after code s earlier).threads one.thread) found elements stage)
    start_legal (Enters f) = λ w. tt
    start_legal _ = tt

    exit_legal : (stage : Stage) → Legal (in_exit code ((place_after code s earlier).threads one.thread) stage)
    exit_legal (Withdraws row) = tt
    exit_legal (WithdrawsFrom row seen) = tt
    exit_legal Leaves = λ w. tt
    exit_legal _ = λ w. tt

    lock_legal : (k : Cell) (site : ℕ) → i ≡ Instr.Lock k site → (b : Bool) → (found == 0) ≡ b → Legal (if b then event_at code ((place_after code s earlier).threads one.thread) site (pos 0) (Act.Lock (cell_at code ((place_after code s earlier).threads one.thread) k)) else None)
    lock_legal k site is true z = λ w. locked_is L (cell_at code m k) ∙ unlocked k site is (eqb-true found 0 z)
    lock_legal k site is false z = tt

    unlock_legal : (q site : ℕ) (k : Cell) → i ≡ Instr.Unlock q k site → was_locked_by (reverse L) (cell_at code ((place_after code s earlier).threads one.thread) k) ((place_after code s earlier).threads one.thread).own.number ≡ true
    unlock_legal q site k is = locked_by_is L (cell_at code m k) m.own.number ∙ ap (locked_by_in L (cell_at code m k)) number ∙ (told.mutexes.last t (cell_at code m k) (holds_own q site k is)).1

    pub legal_now : Legal event
    legal_now = by i refl
      where
        at : (j : Instr) → i ≡ j → Legal (said code j ((place_after code s earlier).threads one.thread) found elements) → Legal event
        at j is k = subst Legal (sym (ap (λ j. said code j m found elements) is)) k

        by : (j : Instr) → i ≡ j → Legal event
        by (Instr.Load q k site) is = at (Instr.Load q k site) is (λ w. at_load q site k is)
        by (Instr.Store q k site) is = at (Instr.Store q k site) is (λ w. tt)
        by (Instr.LoadRef k site) is = at (Instr.LoadRef k site) is (λ w. at_load_ref site k is)
        by (Instr.Exchange q k site) is = at (Instr.Exchange q k site) is (λ w. tt)
        by (Instr.TakeCell q k site) is = at (Instr.TakeCell q k site) is (λ w. at_take q site k is)
        by (Instr.TakeLocal q from site) is = at (Instr.TakeLocal q from site) is (local_legal site (ref m from) elements)
        by (Instr.Give q site) is = at (Instr.Give q site) is (λ w. tt)
        by (Instr.New q count cells' site) is = at (Instr.New q count cells' site) is (at_new q count cells' site is m.own.stage refl)
        by (Instr.Free q layout site) is = at (Instr.Free q layout site) is (free_legal q site m.own.stage)
        by (Instr.Lock k site) is = at (Instr.Lock k site) is (lock_legal k site is (found == 0) refl)
        by (Instr.Unlock q k site) is = at (Instr.Unlock q k site) is (λ w. unlock_legal q site k is)
        by (Instr.Spawn q f from site) is = at (Instr.Spawn q f from site) is (at_spawn q f site from is m.own.stage refl)
        by (Instr.Join q site) is = at (Instr.Join q site) is (join_legal q site is (found == 0 || (found == 1 || found == 2)) refl)
        by (Instr.Print q site) is = at (Instr.Print q site) is (λ w. tt)
        by (Instr.Start site) is = at (Instr.Start site) is (start_legal m.own.stage)
        by Instr.Exit is = at Instr.Exit is (exit_legal m.own.stage)
        by (Instr.CondEnter k site) is = at (Instr.CondEnter k site) is (λ w. tt)
        by (Instr.CondWait k site) is = at (Instr.CondWait k site) is (either (waits_in found m.own.number) _ _ tt (λ w. absurd (yes w)))
        by (Instr.CondSignal k site) is = at (Instr.CondSignal k site) is (signal_legal k site m.own.stage)
        by (Instr.CondBroadcast k site) is = at (Instr.CondBroadcast k site) is (λ w. tt)
        by _ is = subst Legal (sym (ap (λ j. said code j m found elements) is)) tt
