-- The turns of an Exit: it says that the thread returned, withdraws from each granule of its table, and says that it is gone.
use Rattle.sharc_invariant.proofs.{Imports.{◌≡◌, ℕ, zero, suc, ◌+◌, ◌*◌, ◌^◌, ◌<◌, ◌≤◌, ◌≢◌, ◌⊎◌, ◌||◌, ◌&&◌, Bool, true, false, cond, List, [], None, refl, sym, ap, ◌∙◌, subst, inl, inr, ⊎_elim, arith, ltb-true, cases_eq, cases_lt, nat_tests, set-get_or, length-set, fun_ext, length, slice_index, slice_set, take, nat_lt, nat_eq, ◌==◌, THREADS, Load, Swap, Cas, ShadowLaws, note_of, withdrawn_of, epoch_of, Kind, Read, Write, Code, Shape, StateOf, RunsOn, Tries, Stopped, Ended, Stage, Rests, Withdraws, WithdrawsFrom, Leaves, int_of, Fits as FitsShape, granules, granule_at, top_word, shadow_word, next_thread_word, state_word, function_word, argument_word, Machine, instr_at, step_of, at_stage, exit, withdraws, withdrew, row_of, without_own, turn, may_go, counted, Turn, Global, put, MayTurn, one_thread, bounds, Instr, put_same, put_other, put_all, Passed, withdrawn, Targets, nothing, Label, Labels, IsIn, Fine, IsWellTyped, In, RegisterOf, ArgumentOf, TypedReference, World, Shut, WorldInvariant, in_ref, put2, set_gran, Heap, Kept, Built, InBlock, lang_of, conc_of, MachineView, Shows, Reads, store, has_returned, is_withdrawing, has_withdrawn, is_ended, is_unread, is_first, argument_of, making_of, note_number, noted_by, register_of, staged_of, shadow_at, cell_at, count_at, length_at, made_turn, KeepsOthers, Effect, Silently, Returns, WithdrawsOf, events_of, StopStands, State, Runs, View, view_of, StageStands, SpawnsNow, NumberStands, EntryStands, FramesStand, GateStands, Threads, Firsts, TopStands, label_now, size_of_run, Followed, changes_objects, objects_now, ne_eq, eq_refl, or_false, or_second, zero_le}, TurnAt.{turn_at, turn_stands}, Effects.withdraw_ok, Listed.store_ok, Others.{OnHold, loses}, Quiet.{KeepsThread, KeepsMost, heap_now, put_self, sum_up, label_held, freed_held, most_state, started_still, args_still, sizes_kept, conc_turned}, Changes.{KeepsPart, KeepsLow, lower, conc_now, alike_state}, Turns.{asks_turn, room_of}, Stores.{index_put, arena, shadow_store, stored_within}, Seen.{shadow_stored, put2_off}, Heaps.apart_stored, Clears.part_words, Uncounted.granule_cases, Withdrawn.{is_row, one_more, row_low, first_row, noted_withdraws, wrote_now, withdrawn_reads, withdrawn_small}, Owned.{effect_objects, behind_same}, Frees.{same_le as two_le}, Plain.{others_stay, same_others}}

-- ---- the stages
abbrev pub IsExiting : Stage → Type 0
IsExiting Rests = Unit {0}
IsExiting (Withdraws row) = Unit {0}
IsExiting (WithdrawsFrom row seen) = Unit {0}
IsExiting Leaves = Unit {0}
IsExiting _ = ⊥

-- at such a stage no block is to be linked or built, nothing is staged and no thread is named
exiting_calm : (y : Stage) → IsExiting y → record { hold : OnHold y; staged : staged_of y ≡ 0; making : making_of y ≡ None; spawns : (n : ℕ) → SpawnsNow y n → ⊥ }
exiting_calm Rests h = record { hold = tt; staged = refl; making = refl; spawns = λ n z. z }
exiting_calm (Withdraws row) h = record { hold = tt; staged = refl; making = refl; spawns = λ n z. z }
exiting_calm (WithdrawsFrom row seen) h = record { hold = tt; staged = refl; making = refl; spawns = λ n z. z }
exiting_calm Leaves h = record { hold = tt; staged = refl; making = refl; spawns = λ n z. z }
exiting_calm _ h = absurd h

-- a granule of a live object, or of none
abbrev IsOf : World → (ℕ → ℕ) → ℕ → ℕ → Type 0
IsOf w cells p o = (j : ℕ) × ((p ≡ o + 1 + j) × (((w.obj o).live ≡ true) × (2 * j < cells o)))

find_granule : (w : World) (cells : ℕ → ℕ) (p n : ℕ) → ((o : ℕ) × IsOf w cells p o) ⊎ ((o : ℕ) → o < n → IsOf w cells p o → ⊥)
find_granule w cells p zero = inr (λ o lt _. absurd (omega arith))
find_granule w cells p (suc n) = ⊎_elim
    (λ z. inl z)
    (λ before. elim (w.obj n).live as (λ b. (w.obj n).live ≡ b → ((o : ℕ) × IsOf w cells p o) ⊎ ((o : ℕ) → o < suc n → IsOf w cells p o → ⊥)) [
      | true ↦ λ e. ⊎_elim
          (λ z. inl (n, (z.0, (z.1.0, (e, z.1.1)))))
          (λ out. inr (λ o lt z. ⊎_elim
          (λ (q : o ≡ n). out z.0 (z.1.0 ∙ ap (λ o. o + 1 + z.0) q) (subst (λ o. 2 * z.0 < cells o) q z.1.1.1))
          (λ (ne : o ≡ n → ⊥). before o (smaller o n lt ne) z)
          (cases_eq o n)))
          (granule_cases p n (cells n))
      | false ↦ λ e. inr (λ o lt z. ⊎_elim
          (λ (q : o ≡ n). let l : (w.obj n).live ≡ true = subst (λ o. (w.obj o).live ≡ true) q z.1.1.0 in cc)
          (λ (ne : o ≡ n → ⊥). before o (smaller o n lt ne) z)
          (cases_eq o n))
    ] refl)
    (find_granule w cells p n)
  where
    smaller : (o n : ℕ) → o < suc n → (o ≡ n → ⊥) → o < n
    smaller o n lt ne = ⊎_elim (λ (l : o < n). l) (λ (ge : n ≤ o). absurd (ne (omega arith))) (cases_lt o n)

module _ (x : Targets) (code : Code) (s : Shape) (ls : Labels) (wt : IsWellTyped x code ls) (fits : FitsShape code s) (laws : ShadowLaws) (g : Global Machine) (world : World) (st : State x code s ls g world) (tr : Turn)
    (may : MayTurn bounds (one_thread code s) g tr) (is : instr_at code (g.threads tr.thread).at.pc ≡ Instr.Exit) (exiting : IsExiting (g.threads tr.thread).own.stage) where
  open turn_at st tr use {t, m, here, view}
  open turn_stands st tr may use {rn, low_t as on_t, number}

  f : Fine x code ls (g.threads tr.thread).at.pc here Instr.Exit
  f = subst (Fine x code ls m.at.pc here) is (wt.fine m.at.pc)

  begun : ((g.threads tr.thread).at.pc == 0) ≡ false
  begun = ne_eq m.at.pc 0 (λ z. let q : Instr.Exit ≡ Instr.Start wt.begin.0 = sym is ∙ ap (instr_at code) z ∙ wt.begin.1 in cc)

  now_here : (y : Stage) → IsExiting y → label_now here (instr_at code (g.threads tr.thread).at.pc) y ≡ here
  now_here y ey = label_held here (instr_at code m.at.pc) y (exiting_calm y ey).hold

  shut : world.win tr.thread ≡ Shut
  shut = subst (GateStands s world t m) f.0 (subst (λ (l : Label). GateStands s world t m l.gate) (now_here m.own.stage exiting) rn.gate)

  tp : TopStands x tr.thread view (g.threads tr.thread).at.refs (g.threads tr.thread).at.ints rn.names here
  tp = subst (TopStands x t view m.at.refs m.at.ints rn.names) (now_here m.own.stage exiting) rn.top

  -- the machine behind such a turn
  abbrev with_stage : StateOf → Stage → Machine
  with_stage q y = record (g.threads tr.thread) { at = record (g.threads tr.thread).at { state = q }; own = record (g.threads tr.thread).own { stage = y } }

  same_regs : (q : StateOf) (y : Stage) → IsExiting y → (i : ℕ) → register_of code (with_stage q y) i ≡ register_of code (g.threads tr.thread) i
  same_regs q y ey i =
      ap (λ b. cond b 0 (slice_index m.refs i)) (freed_held (instr_at code m.at.pc) y m.at.refs i (exiting_calm y ey).hold)
      ∙ sym (ap (λ b. cond b 0 (slice_index m.refs i)) (freed_held (instr_at code m.at.pc) m.own.stage m.at.refs i (exiting_calm m.own.stage exiting).hold))

  -- it goes on as it stood, but for passed checks, of which none is remembered
  runs_on : (q : StateOf) (y : Stage) → IsExiting y → (w' : World) → w'.slots ≡ world.slots → w'.win ≡ world.win → (heap' : Heap) (g' : Global Machine) → StageStands code s st.elements w' heap' g'.words tr.thread (with_stage q y) Instr.Exit y
      → Runs x code s ls st.elements w' heap' g' tr.thread (with_stage q y)
  runs_on q y ey w' es ew heap' g' stage =
      let m' = with_stage q y in
      let view' = view_of st.elements w' t m' in
      let l = label_now here (instr_at code m.at.pc) y in
      let v1 : View = record view { gran = w'.gran } in
      let top1 : TopStands x t v1 m.at.refs m.at.ints rn.names here = λ n j. let h = tp n j in record { env = h.env; same = h.same; known = h.known; numbers = h.numbers; passed = λ p z. absurd (subst (IsIn p) f.2 z) } in
      let same : view' ≡ v1 = λ i. record view { refs = λ j. ((es i) (In (RegisterOf t j))).reference; types = λ j. ((es i) (In (RegisterOf t j))).ty; gran = w'.gran } in
      let top2 = subst (λ v. TopStands x t v m.at.refs m.at.ints rn.names here) (sym same) top1 in
      let below0 : (m.at.depth ≡ 0) × (m.at.refs ≡ 0) × (m.at.ints ≡ 0) = subst (FramesStand x code ls t view m) f.1 rn.below in
      record {
        names = rn.names;
        top = subst (TopStands x t view' m.at.refs m.at.ints rn.names) (sym (now_here y ey)) top2;
        below = subst (FramesStand x code ls t view' m') (sym f.1) below0;
        gate = subst (λ (l : Label). GateStands s w' t m' l.gate) (sym (now_here y ey)) (subst (GateStands s w' t m') (sym f.0) (ap (λ (f : ℕ → Rattle.sharc_invariant.specs.World.Window). f t) ew ∙ shut));
        stage = subst (λ i. StageStands code s st.elements w' heap' g'.words t m' i y) (sym is) stage;
        room = rn.room;
      }

  -- ---- its state word
  module _ (q : StateOf) (y : Stage) (ey : IsExiting y) (same_notes : (kind : Kind) (p : ℕ) → noted_by (with_stage q y) kind p ≡ noted_by (g.threads tr.thread) kind p) (v : ℕ) (said : 2 ≤ v) (small : v < 2 ^ 64)
      (long : state_word tr.thread < length g.words) where
    abbrev m' : Machine
    m' = with_stage q y

    abbrev k : ℕ
    k = state_word tr.thread

    abbrev words : List ℕ
    words = slice_set g.words (state_word tr.thread) v

    abbrev now : Global Machine
    now = made_turn g tr.thread words m'

    at : (j : ℕ) → slice_index words j ≡ put (λ i. slice_index g.words i) k v j
    at = index_put g.words k v long

    off : (j : ℕ) → j ≢ k → slice_index words j ≡ slice_index g.words j
    off j ne = at j ∙ put_other (λ i. slice_index g.words i) k j v ne

    here_now : slice_index words (state_word tr.thread) ≡ v
    here_now = at k ∙ put_same (λ i. slice_index g.words i) k v

    not_zero : slice_index g.words (state_word tr.thread) ≢ 0
    not_zero z = let e : g.started t ≡ false = (st.begins.started t on_t).0 z in let b = may.started in cc

    most : KeepsMost s st.heap g tr.thread words
    most =
        let w = on_t in
        let kept0 = store_ok (arena s) st.heap st.heap_stands.kept k v (omega arith) (λ p u d e z. absurd (omega arith)) in
        let fe : put st.heap.words k v ≡ (λ i. slice_index words i) = fun_ext (λ i. ap (λ (h : ℕ → ℕ). put h k v i) (fun_ext st.heap_stands.words) ∙ sym (at i)) in
        record {
          count = length-set g.words k v;
          top = off top_word (λ e. omega arith);
          are_words = λ j. subst (λ n. n < 2 ^ 64) (sym (at j)) (put_all (λ j y. y < 2 ^ 64) (λ i. slice_index g.words i) k v small (λ j _. st.are_words j) j);
          epochs = λ i l. ap epoch_of (off (97 + i) (λ e. let z = on_t in omega arith));
          kept = subst (λ h. Kept (arena s) (record st.heap { words = h })) fe kept0;
          reserved = λ u n ne sp h. record {
            few = h.few;
            given = (let z = h.given in let e = off next_thread_word (λ e. omega arith) in omega arith);
            first = h.first;
            state = off (state_word n) (λ e. not_zero (ap (slice_index g.words) (sym e) ∙ h.state)) ∙ h.state;
          };
          handed = λ u n ne sp h. (off (function_word n) (λ e. omega arith), off (argument_word n) (λ e. omega arith));
          own = λ u ne on. off (function_word u) (λ e. omega arith);
        }

    own : KeepsThread (g.threads tr.thread) m'
    own = record { sizes = sizes_kept (g.threads tr.thread) m' (st.threads t).has.table refl refl refl refl; held = refl; heads = refl; making = (exiting_calm y ey).making ∙ sym (exiting_calm m.own.stage exiting).making }

    started_now : (u : ℕ) → now.started u ≡ g.started u
    started_now u = started_still x code s ls g world st t words m' u (λ off' _. off (state_word u) (λ e.
        let same : u ≡ t = omega arith in let b : g.started u ≡ true = ap g.started same ∙ may.started in absurd (cc)))

    unread_own : is_unread m' ≡ false
    unread_own = ap (λ b. b && is_first y) begun

    args_same : (u : ℕ) → argument_of code now u ≡ argument_of code g u
    args_same = args_still x code s ls g world st t words m' begun begun
        (λ u ne _. (off (state_word u) (λ z. ne (omega arith)), λ _. (off (function_word u) (λ z. omega arith), off (argument_word u) (λ z. omega arith))))

    conc_is : conc_of code now ≡ store (conc_of code g) k v
    conc_is =
        let wd : (λ j. slice_index words j) ≡ put (λ i. slice_index g.words i) k v = fun_ext at in
        let rs : put (λ u. register_of code (g.threads u)) t (register_of code m') ≡ (λ u. register_of code (g.threads u)) = fun_ext (put_self (λ u. register_of code (g.threads u)) t (register_of code m') (fun_ext (same_regs q y ey))) in
        let ar = fun_ext args_same in
        conc_turned code g t words m' refl ((exiting_calm y ey).staged ∙ sym (exiting_calm m.own.stage exiting).staged) same_notes ∙ (λ i. record (conc_of code g) { words = wd i; regs = rs i; args = ar i })

    sim_now : Shows x s st.cells st.elements (conc_of code now) world
    sim_now = subst (λ c. Shows x s st.cells st.elements c world) (sym conc_is)
        (apart_stored x s st.cells st.elements (conc_of code g) world st.sim st.apart k v
        (let z = on_t in record { cell = λ o i _ _ e. omega arith; count = λ o _ _ e. omega arith; length = λ o _ _ e. omega arith; shadow = λ p _ e. omega arith }))

    -- the others' words
    one_of : (u : ℕ) → slice_index words (state_word u) ≡ 1 → slice_index g.words (state_word u) ≡ 1
    one_of u e = ⊎_elim
        (λ (z : u ≡ t). let a : slice_index words (state_word u) ≡ v = ap (λ u. slice_index words (state_word u)) z ∙ here_now in absurd (omega arith))
        (λ (ne : u ≡ t → ⊥). sym (off (state_word u) (λ z. ne (omega arith))) ∙ e)
        (cases_eq u t)

    function_same : (u : ℕ) → slice_index words (function_word u) ≡ slice_index g.words (function_word u)
    function_same u = off (function_word u) (λ e. omega arith)

    argument_same : (u : ℕ) → slice_index words (argument_word u) ≡ slice_index g.words (argument_word u)
    argument_same u = off (argument_word u) (λ e. omega arith)

    next_same : slice_index words next_thread_word ≡ slice_index g.words next_thread_word
    next_same = off next_thread_word (λ e. omega arith)

    spawn_before : (u n : ℕ) → SpawnsNow (now.threads u).own.stage n → SpawnsNow (g.threads u).own.stage n
    spawn_before u n = put_all (λ u (z : Machine). SpawnsNow z.own.stage n → SpawnsNow (g.threads u).own.stage n) g.threads t m' (λ h. absurd ((exiting_calm y ey).spawns n h)) (λ u _ h. h) u

    threads_now : Threads code ls world now
    threads_now = record {
      few = λ u e. st.begins.few u (sym (started_now u) ∙ e);
      started = λ u lt. ⊎_elim
          (λ (z : u ≡ t).
          let a : slice_index words (state_word u) ≡ v = ap (λ u. slice_index words (state_word u)) z ∙ here_now in
          let b : now.started u ≡ true = started_now u ∙ ap g.started z ∙ may.started in
          ((λ e. absurd (omega arith)), (λ e. absurd (cc))))
          (λ (ne : u ≡ t → ⊥).
          let a = off (state_word u) (λ z. ne (omega arith)) in
          ((λ e. started_now u ∙ (st.begins.started u lt).0 (sym a ∙ e)), (λ e. a ∙ (st.begins.started u lt).1 (sym (started_now u) ∙ e))))
          (cases_eq u t);
      given = λ u lt ne. let z = st.begins.given u lt (λ e. ne (⊎_elim (λ (q : u ≡ t). absurd (not_zero (ap (λ u. slice_index g.words (state_word u)) (sym q) ∙ e))) (λ (nq : u ≡ t → ⊥). off (state_word u) (λ z. nq (omega arith)) ∙ e) (cases_eq u t))) in let w = next_same in omega arith;
      function = λ u lt e. ap ls.starts (function_same u) ∙ st.begins.function u lt (one_of u e);
      argument = λ u lt. subst (λ n. EntryStands (λ r. in_ref world (ArgumentOf u)) (λ r. (world.slots (In (ArgumentOf u))).ty) 0 ((ls.signature n).takes 0)) (sym (function_same u)) (st.begins.argument u lt);
      one = λ a b n ha hb. st.begins.one a b n (spawn_before a n ha) (spawn_before b n hb);
    }

    firsts_now : Firsts x ls now
    firsts_now =
        let P : ℕ → ℕ → Type 0 = λ f a. NumberStands x (λ o. 0) (λ r. 0) (λ r. nothing) (λ n. Rattle.std.specs.Prelude.pos 0) (int_of a) ((ls.signature f).takes_ints 0) in
        record {
          unread = λ u lt on first. ⊎_elim
              (λ (e : u ≡ t). let a : is_unread (now.threads u) ≡ false = ap (λ u. is_unread (now.threads u)) e ∙ ap is_unread (put_same g.threads t m') ∙ unread_own in absurd (cc))
              (λ (ne : u ≡ t → ⊥). off (state_word u) (λ z. ne (omega arith)) ∙ st.firsts.unread u lt (sym (started_now u) ∙ on) (sym (ap is_unread (put_other g.threads t u m' ne)) ∙ first))
              (cases_eq u t);
          alone = λ u lt e al. st.firsts.alone u lt (one_of u e) (ap (λ f. (ls.signature f).alone) (sym (function_same u)) ∙ al);
          number = λ u lt e. subst (λ f. P f (slice_index words (argument_word u))) (sym (function_same u)) (subst (P (slice_index g.words (function_word u))) (sym (argument_same u)) (st.firsts.number u lt (one_of u e)));
          spawns = λ u n h. let a = st.firsts.spawns u n (spawn_before u n h) in let b = next_same in omega arith;
          few = (let a = st.firsts.few in let b = next_same in let c = sum_up THREADS g.made t (counted m'.at.state) in omega arith);
        }

    says_state : g.made tr.thread + counted q ≤ 100000000 → (may_go q ≡ true → StageStands code s st.elements world (heap_now st.heap words) words tr.thread m' Instr.Exit y) → State x code s ls now world
    says_state room stage =
        most_state x code s ls g world st t may.started words m' own most world refl refl
        (others_stay s world st.heap g.words words t (λ u _ b e j n. off j (λ z. let lo = n.0 in let w = on_t in absurd (omega arith))))
        wt st.inv sim_now threads_now firsts_now (λ u _. inl (started_now u)) (λ go. runs_on q y ey world refl refl (heap_now st.heap words) now (stage go)) (λ _. subst (StopStands world t m') (sym f.0) shut) room

  -- ---- a row of the table
  module _ (y : Stage) (ey : IsExiting y) (words : List ℕ) (kw : KeepsLow g.words words) (kept : Kept (arena s) (record st.heap { words = λ i. slice_index words i })) where
    abbrev m1 : Machine
    m1 = with_stage RunsOn y

    own1 : KeepsPart (g.threads tr.thread) m1
    own1 = record {
      sizes = sizes_kept (g.threads tr.thread) m1 (st.threads t).has.table refl refl refl refl;
      held = refl;
      heads = refl;
      spawns = λ n h. absurd ((exiting_calm y ey).spawns n h);
      begun_before = begun;
      begun = begun;
    }

    conc_row : conc_of code (made_turn g tr.thread words m1) ≡ record (conc_of code g) { words = λ j. slice_index words j; read_notes = put (λ u. noted_by (g.threads u) Read) tr.thread (noted_by m1 Read); write_notes = put (λ u. noted_by (g.threads u) Write) tr.thread (noted_by m1 Write) }
    conc_row =
        let rs = fun_ext (put_self (λ u. register_of code (g.threads u)) t (register_of code m1) (fun_ext (same_regs RunsOn y ey))) in
        let sg = fun_ext (put_self (λ u. staged_of (g.threads u).own.stage) t (staged_of y) ((exiting_calm y ey).staged ∙ sym (exiting_calm m.own.stage exiting).staged)) in
        let R : ℕ → ℕ → ℕ = put (λ u. noted_by (g.threads u) Read) t (noted_by m1 Read) in
        let W : ℕ → ℕ → ℕ = put (λ u. noted_by (g.threads u) Write) t (noted_by m1 Write) in
        conc_now x code s ls wt g world st t may.started words m1 own1 (lower kw) ∙ (λ i. record (conc_of code g) { words = λ j. slice_index words j; regs = rs i; staged = sg i; read_notes = R; write_notes = W })

    row_state : (w' : World) → w'.slots ≡ world.slots → w'.win ≡ world.win → w'.obj ≡ world.obj → w'.mutex ≡ world.mutex → KeepsOthers s world w' st.heap (heap_now st.heap words) g.words words tr.thread
        → WorldInvariant (size_of_run code s) (lang_of x) w' → Shows x s st.cells st.elements (conc_of code (made_turn g tr.thread words m1)) w' → ((i : ℕ) → i < granules s → epoch_of (slice_index words (97 + i)) ≡ epoch_of (slice_index g.words (97 + i)))
        → StageStands code s st.elements w' (heap_now st.heap words) words tr.thread m1 Instr.Exit y → g.made tr.thread + 1 ≤ 100000000 → State x code s ls (made_turn g tr.thread words m1) w'
    row_state w' es ew eo em others inv sim epochs stage few =
        let now = made_turn g t words m1 in
        alike_state x code s ls wt g world st t may.started words m1 own1 (lower kw) w' eo em kept (kw.low top_word (omega arith) (λ e. absurd (omega arith)))
        (λ b. ap (λ z. Rattle.sharc_invariant.specs.Words.head_with z m.own.heads b) ((exiting_calm y ey).making ∙ sym (exiting_calm m.own.stage exiting).making))
        others (λ u. ap (λ (f : Rattle.sharc_invariant.specs.World.Slot → TypedReference). f (In (ArgumentOf u))) es) inv sim
        (λ i lt. let a = st.epochs i lt in let b = epochs i lt in let c = sum_up THREADS g.made t 1 in omega arith)
        (λ _. runs_on RunsOn y ey w' es ew (heap_now st.heap words) now stage) (λ q. absurd (cc)) few

  -- nothing but the stage changes
  same_low : KeepsLow g.words g.words
  same_low = record { count = refl; low = λ j _ _. refl; are_words = st.are_words }

  same_kept : Kept (arena s) (record st.heap { words = λ i. slice_index g.words i })
  same_kept = subst (λ h. Kept (arena s) (record st.heap { words = h })) (fun_ext st.heap_stands.words) st.heap_stands.kept

  stage_state : (y : Stage) (ey : IsExiting y) → ((kind : Kind) (p : ℕ) → noted_by (with_stage RunsOn y) kind p ≡ noted_by (g.threads tr.thread) kind p)
      → StageStands code s st.elements world (heap_now st.heap g.words) g.words tr.thread (with_stage RunsOn y) Instr.Exit y → g.made tr.thread + 1 ≤ 100000000
      → State x code s ls (made_turn g tr.thread g.words (with_stage RunsOn y)) world
  stage_state y ey same stage few =
      let n : (kind : Kind) → put (λ u. noted_by (g.threads u) kind) t (noted_by (with_stage RunsOn y) kind) ≡ (λ u. noted_by (g.threads u) kind) = λ kind. fun_ext (put_self (λ u. noted_by (g.threads u) kind) t (noted_by (with_stage RunsOn y) kind) (fun_ext (same kind))) in
      let a = n Read in
      let b = n Write in
      row_state y ey g.words same_low same_kept world refl refl refl refl
      (same_others s world st.heap g.words t)
      st.inv (subst (λ c. Shows x s st.cells st.elements c world) (sym (conc_row y ey g.words same_low same_kept ∙ (λ i. record (conc_of code g) { read_notes = a i; write_notes = b i }))) st.sim) (λ i _. refl) stage few

  -- ---- it withdraws from a granule
  module _ (row seen : ℕ) (at_row : (g.threads tr.thread).own.stage ≡ WithdrawsFrom row seen) (lt_row : row < length (g.threads tr.thread).own.table.order) where
    abbrev p : ℕ
    p = row_of (g.threads tr.thread) row

    abbrev order : List ℕ
    order = (g.threads tr.thread).own.table.order

    abbrev N : Kind → ℕ → ℕ
    N kind q = note_number (note_of (g.threads tr.thread).own.table q kind)

    low_p : p < granules s
    low_p = let a = row_low m.own.table (st.threads t).has.table row lt_row in let b = (st.threads t).has.notes in omega arith

    abbrev kp : ℕ
    kp = shadow_at s p

    k_is : shadow_word s p ≡ kp
    k_is = let l = low_p in shadow_here s p l
      where
        shadow_here : (s : Shape) (p : ℕ) → p < granules s → shadow_word s p ≡ shadow_at s p
        shadow_here s p l = let e : nat_lt p (granules s) ≡ true = grind (arith, nat_tests) in let q : granule_at s p ≡ p = rw e refl in omega arith

    abbrev v : ℕ
    v = without_own (g.threads tr.thread) row seen

    noted_was : (kind : Kind) (q : ℕ) → noted_by (g.threads tr.thread) kind q ≡ cond (is_row (take row order) q) 0 (N kind q)
    noted_was kind q = ap (λ y. cond (has_withdrawn y m.own.table.order (is_ended m.at.state) q) 0 (N kind q)) at_row

    noted_p : noted_by (g.threads tr.thread) Write p ≡ N Write p
    noted_p = noted_was Write p ∙ ap (λ b. cond b 0 (N Write p)) (first_row m.own.table (st.threads t).has.table row lt_row)

    noted_next : (M : Machine) → ((kind : Kind) (q : ℕ) → noted_by M kind q ≡ cond (is_row (take (suc row) order) q) 0 (N kind q)) → (kind : Kind) (q : ℕ) → noted_by M kind q ≡ put (noted_by (g.threads tr.thread) kind) p 0 q
    noted_next M e kind q =
        let a = one_more order row q lt_row in
        e kind q ∙ ap (λ b. cond b 0 (N kind q)) a ∙ put_all (λ q n. cond (is_row (take row order) q || q == p) 0 (N kind q) ≡ n) (noted_by m kind) p 0
        (ap (λ b. cond (is_row (take row order) p || b) 0 (N kind p)) (eq_refl p) ∙ ap (λ b. cond b 0 (N kind p)) (or_second (is_row (take row order) p) true refl))
        (λ q ne. ap (λ b. cond (is_row (take row order) q || b) 0 (N kind q)) (ne_eq q p ne) ∙ ap (λ b. cond b 0 (N kind q)) (or_false (is_row (take row order) q)) ∙ sym (noted_was kind q)) q

    -- the word that it found is there still
    module _ (there : slice_index g.words kp ≡ seen) (long : kp < length g.words) where
      abbrev new_words : List ℕ
      new_words = slice_set g.words kp v

      seen_small : seen < 2 ^ 64
      seen_small = subst (λ n. n < 2 ^ 64) there (st.are_words kp)

      v_small : v < 2 ^ 64
      v_small = withdrawn_small seen m.own.number (Rattle.sharc_code.specs.Machine.wrote m p seen) seen_small

      parts : KeepsLow g.words new_words × Kept (arena s) (record st.heap { words = λ i. slice_index new_words i })
      parts = part_words x code s ls g world st kp v (shadow_store x code s ls g world st p low_p) long v_small

      at_words : (i : ℕ) → slice_index new_words i ≡ put (λ i. slice_index g.words i) kp v i
      at_words = index_put g.words kp v long

      abbrev RN : ℕ → ℕ → ℕ
      RN u = noted_by (g.threads u) Read

      abbrev WN : ℕ → ℕ → ℕ
      WN u = noted_by (g.threads u) Write

      abbrev rn' : ℕ → ℕ → ℕ
      rn' = put2 RN tr.thread p 0

      abbrev wn' : ℕ → ℕ → ℕ
      wn' = put2 WN tr.thread p 0

      at_p : (f : ℕ → ℕ → ℕ) (u : ℕ) → put2 f tr.thread p 0 u p ≡ put (λ u. f u p) tr.thread 0 u
      at_p f u = put_all (λ u (h : ℕ → ℕ). h p ≡ put (λ u. f u p) t 0 u) f t (put (f t) p 0) (put_same (f t) p 0 ∙ sym (put_same (λ u. f u p) t 0)) (λ u ne. sym (put_other (λ u. f u p) t u 0 ne)) u

      off_p : (f : ℕ → ℕ → ℕ) (u q : ℕ) → (q ≡ p → ⊥) → put2 f tr.thread p 0 u q ≡ f u q
      off_p f u q ne = sym (put2_off f t p u q 0 (λ _ e. ne e))

      epoch_is : epoch_of v ≡ epoch_of (slice_index g.words kp)
      epoch_is = (laws.withdraws seen m.own.number (Rattle.sharc_code.specs.Machine.wrote m p seen) seen_small (subst (λ n. n < THREADS) (sym number) on_t)).epoch ∙ ap epoch_of (sym there)

      epochs : (i : ℕ) → i < granules s → epoch_of (slice_index new_words (97 + i)) ≡ epoch_of (slice_index g.words (97 + i))
      epochs i lt = ap epoch_of (at_words (97 + i)) ∙ put_all (λ j n. j ≡ 97 + i → epoch_of n ≡ epoch_of (slice_index g.words (97 + i))) (λ i. slice_index g.words i) kp v (λ e. epoch_is ∙ ap (λ j. epoch_of (slice_index g.words j)) e) (λ j _ e. ap (λ j. epoch_of (slice_index g.words j)) e) (97 + i) refl

      abbrev c' : MachineView
      c' = record (conc_of code g) { words = put (λ i. slice_index g.words i) kp v; read_notes = rn'; write_notes = wn' }

      within : (u b j : ℕ) → st.heap.state b ≡ Built u → InBlock (arena s) st.heap b j → slice_index new_words j ≡ slice_index g.words j
      within = stored_within x code s ls g world st kp v (shadow_store x code s ls g world st p low_p) long

      -- of a live object
      lives : (o : ℕ) → (i : IsOf world st.cells p o) → Shows x s st.cells st.elements c' (set_gran world o i.0 (withdrawn (world.gran o i.0) tr.thread))
      lives o i =
          let j = i.0 in
          let ep : p ≡ o + 1 + j = i.1.0 in
          let old = st.sim.shadows o j i.1.1.0 i.1.1.1 in
          let old' : Reads seen RN WN p (world.gran o j) = subst (λ n. Reads n RN WN p (world.gran o j)) there (subst (λ p. Reads (slice_index g.words (shadow_at s p)) RN WN p (world.gran o j)) (sym ep) old) in
          let mine : Rattle.sharc_heap.specs.ShadowWord.is_of (Rattle.sharc_code.specs.Machine.wrote m p seen) (epoch_of seen) ≡ nat_eq (WN t p) (suc (epoch_of seen)) = wrote_now m p seen ∙ ap (λ n. nat_eq n (suc (epoch_of seen))) (sym noted_p) in
          let new' : Reads v rn' wn' p (withdrawn (world.gran o j) t) = subst (λ u. Reads (withdrawn_of seen u (Rattle.sharc_code.specs.Machine.wrote m p seen)) rn' wn' p (withdrawn (world.gran o j) t)) (sym number)
          (withdrawn_reads laws seen t p (Rattle.sharc_code.specs.Machine.wrote m p seen) RN WN (world.gran o j) seen_small on_t old' mine rn' wn' (at_p RN) (at_p WN)) in
          let sim1 = shadow_stored x s st.cells st.elements (conc_of code g) world st.sim st.apart o j v (withdrawn (world.gran o j) t) rn' wn' i.1.1.0 i.1.1.1 (subst (λ p. Reads v rn' wn' p (withdrawn (world.gran o j) t)) ep new')
          (λ u q ne. off_p RN u q (λ e. ne (e ∙ ep))) (λ u q ne. off_p WN u q (λ e. ne (e ∙ ep))) in
          subst (λ q. Shows x s st.cells st.elements (record (conc_of code g) { words = put (λ i. slice_index g.words i) (shadow_at s q) v; read_notes = rn'; write_notes = wn' }) (set_gran world o j (withdrawn (world.gran o j) t))) (sym ep) sim1

      live_others : (o : ℕ) → (i : IsOf world st.cells p o) → KeepsOthers s world (set_gran world o i.0 (withdrawn (world.gran o i.0) tr.thread)) st.heap (heap_now st.heap new_words) g.words new_words tr.thread
      live_others o i =
          let y = world.gran o i.0 in
          record {
            regs = λ u _ r. refl;
            win = λ u _. refl;
            passed = λ u ne q h b _. Rattle.sharc_invariant.proofs.Effects.put2_all (λ q h z. Passed (world.gran q h) u b → Passed z u b) world.gran o i.0 (withdrawn y t)
                (elim b as (λ b. Passed y u b → Passed (withdrawn y t) u b) [
                  | true ↦ λ z. put_other y.write_note t u 0 ne ∙ z
                  | false ↦ ⊎_elim (λ z. inl (put_other y.read_note t u 0 ne ∙ z)) (λ z. inr (put_other y.write_note t u 0 ne ∙ z))
                ]) (λ q h z. z) q h;
            sole = λ u ne r e h. Rattle.sharc_invariant.proofs.Effects.put2_all (λ q h z. Rattle.sharc_invariant.specs.Turns.OnlyLoses (world.gran q h) z) world.gran o i.0 (withdrawn y t)
                (record { epoch = refl; passed = λ u. ⊎_elim (λ z. inl (fewer y.read_note y.epoch u z)) (λ z. inr (fewer y.write_note y.epoch u z)) }) (λ q h. loses refl) (in_ref world (RegisterOf u r)) h;
            cells = λ u _ r _ n. refl;
            built = λ u _ b e. (e, refl);
            within = λ u _ b e j n. within u b j e n;
          }
        where
          fewer : (h : ℕ → ℕ) (e u : ℕ) → put h tr.thread 0 u ≡ suc e → h u ≡ suc e
          fewer h e u = put_all (λ u n. n ≡ suc e → h u ≡ suc e) h t 0 (λ z. absurd (omega arith)) (λ u _ z. z) u

      -- of none
      none_of : ((o : ℕ) → o < p → IsOf world st.cells p o → ⊥) → Shows x s st.cells st.elements c' world
      none_of none' =
          let sim = st.sim in
          let off : (j : ℕ) → (j ≡ kp → ⊥) → slice_index g.words j ≡ put (λ i. slice_index g.words i) kp v j = λ j ne. sym (put_other (λ i. slice_index g.words i) kp j v ne) in
          let low = low_p in
          record {
            regs = sim.regs;
            args = sim.args;
            logs = sim.logs;
            staged = sim.staged;
            others = sim.others;
            pointers = λ o i lo lt z. sim.pointers o i lo lt z ∙ off (cell_at s o i) (λ e. omega arith);
            integers = λ o i lo lt. subst (Rattle.sharc_invariant.specs.Words.FitsContent (Rattle.sharc_invariant.specs.Types.field_in x (world.obj o).ty i).holds) (off (cell_at s o i) (λ e. omega arith)) (sim.integers o i lo lt);
            counts = λ o nz lo. sim.counts o nz lo ∙ off (count_at s o) (λ e. omega arith);
            lengths = λ o nz lo. sim.lengths o nz lo ∙ off (length_at s o) (λ e. omega arith);
            mutexes = λ o j lo lt z. sim.mutexes o j lo lt z ∙ off (cell_at s o j) (λ e. omega arith);
            shadows = λ o j lo lt.
                let ne : o + 1 + j ≡ p → ⊥ = λ e. none' o (omega arith) (j, (sym e, (lo, lt))) in
                let r = sim.shadows o j lo lt in
                let r1 : Reads (put (λ i. slice_index g.words i) kp v (shadow_at s (o + 1 + j))) RN WN (o + 1 + j) (world.gran o j) = subst (λ n. Reads n RN WN (o + 1 + j) (world.gran o j)) (off (shadow_at s (o + 1 + j)) (λ e. ne (omega arith))) r in
                record { epoch = r1.epoch; wrote = r1.wrote; has = r1.has; read_note = λ u. r1.read_note u ∙ sym (off_p RN u (o + 1 + j) ne); write_note = λ u. r1.write_note u ∙ sym (off_p WN u (o + 1 + j) ne) };
            stale = λ q lq nq u.
                let a = sim.stale q lq nq u in
                let E = epoch_of (put (λ i. slice_index g.words i) kp v (shadow_at s q)) in
                let ee : E ≡ epoch_of (slice_index g.words (97 + q)) = ap epoch_of (sym (at_words (97 + q))) ∙ epochs q lq in
                let small : (f : ℕ → ℕ → ℕ) → f u q ≤ epoch_of (slice_index g.words (97 + q)) → put2 f t p 0 u q ≤ E = λ f le.
                ⊎_elim
                (λ (e : q ≡ p). ⊎_elim
                (λ (eu : u ≡ t). let z : put2 f t p 0 u q ≡ 0 = ap (put2 f t p 0 u) e ∙ at_p f u ∙ ap (put (λ u. f u p) t 0) eu ∙ put_same (λ u. f u p) t 0 in omega arith)
                (λ (nu : u ≡ t → ⊥). let z : put2 f t p 0 u q ≡ f u q = sym (put2_off f t p u q 0 (λ e _. nu e)) in omega arith)
                (cases_eq u t))
                (λ (ne : q ≡ p → ⊥). let z = off_p f u q ne in omega arith)
                (cases_eq q p) in
                (small RN a.0, small WN a.1);
          }

      withdraws_state : (y : Stage) (ey : IsExiting y) → ((kind : Kind) (q : ℕ) → noted_by (with_stage RunsOn y) kind q ≡ put (noted_by (g.threads tr.thread) kind) p 0 q)
          → ((w' : World) → StageStands code s st.elements w' (heap_now st.heap new_words) new_words tr.thread (with_stage RunsOn y) Instr.Exit y) → g.made tr.thread + 1 ≤ 100000000 → has_returned (g.threads tr.thread) ≡ true
          → (w' : World) × (State x code s ls (made_turn g tr.thread new_words (with_stage RunsOn y)) w' × ((e : Effect (lang_of x) tr.thread (has_returned (g.threads tr.thread)) (changes_objects (instr_at code (g.threads tr.thread).at.pc) (g.threads tr.thread)) world w') × (events_of (lang_of x) tr.thread (has_returned (g.threads tr.thread)) (changes_objects (instr_at code (g.threads tr.thread).at.pc) (g.threads tr.thread)) world w' e ≡ [])))
      withdraws_state y ey notes stage few back =
          let n : (kind : Kind) → put (λ u. noted_by (g.threads u) kind) t (noted_by (with_stage RunsOn y) kind) ≡ put2 (λ u. noted_by (g.threads u) kind) t p 0 = λ kind. ap (put (λ u. noted_by (g.threads u) kind) t) (fun_ext (notes kind)) in
          let a = n Read in
          let b = n Write in
          let ws = fun_ext at_words in
          let ce : conc_of code (made_turn g t new_words (with_stage RunsOn y)) ≡ c' = conc_row y ey new_words parts.0 parts.1 ∙ (λ i. record (conc_of code g) { words = ws i; read_notes = a i; write_notes = b i }) in
          ⊎_elim
          (λ (z : (o : ℕ) × IsOf world st.cells p o).
          let w' = set_gran world z.0 z.1.0 (withdrawn (world.gran z.0 z.1.0) t) in (
            w',
            (
              row_state y ey new_words parts.0 parts.1 w' refl refl refl refl (live_others z.0 z.1) (withdraw_ok (size_of_run code s) (lang_of x) world st.inv t z.0 z.1.0 shut)
                  (subst (λ c. Shows x s st.cells st.elements c w') (sym ce) (lives z.0 z.1)) epochs (stage w') few,
              (WithdrawsOf z.0 z.1.0 back refl, refl),
            ),
          ))
          (λ none'. (
            world,
            (
              row_state y ey new_words parts.0 parts.1 world refl refl refl refl
                  (others_stay s world st.heap g.words new_words t (λ u _ b e j n. within u b j e n))
                  st.inv (subst (λ c. Shows x s st.cells st.elements c world) (sym ce) (none_of none')) epochs (stage world) few,
              (Silently (record { obj = refl; mutex = refl; passed = λ o p u b q. q; sole = λ u r e. (e, refl) }), refl),
            ),
          ))
          (find_granule world st.cells p p)

-- ---- all turns of an Exit
module _ (x : Targets) (code : Code) (s : Shape) (ls : Labels) (wt : IsWellTyped x code ls) (fits : FitsShape code s) (laws : ShadowLaws) (g : Global Machine) (world : World) (st : State x code s ls g world) (tr : Turn)
    (may : MayTurn bounds (one_thread code s) g tr) (is : instr_at code (g.threads tr.thread).at.pc ≡ Instr.Exit) where
  open turn_at st tr use {m as n, after as behind}

  act_is : (y : Stage) → (g.threads tr.thread).own.stage ≡ y → turn code s (g.threads tr.thread) ≡ exit s (g.threads tr.thread) y
  act_is y e = ap (λ i. Rattle.sharc_code.specs.Machine.act code s i n) is ∙ ap (exit s n) e

  number_is : state_word (g.threads tr.thread).own.number ≡ state_word tr.thread
  number_is = ap state_word (st.threads tr.thread).has.number

  is_going : is_ended (g.threads tr.thread).at.state ≡ false
  is_going = elim (g.threads tr.thread).at.state as (λ y. may_go y ≡ true → is_ended y ≡ false) [ RunsOn ↦ λ e. refl | Tries ↦ λ e. refl | Stopped ↦ λ e. refl | Ended ↦ λ e. absurd (cc) ] may.next.runs

  -- no object changes
  same_objects : (w' : World) → Effect (lang_of x) tr.thread (has_returned (g.threads tr.thread)) (changes_objects (instr_at code (g.threads tr.thread).at.pc) (g.threads tr.thread)) world w' → w'.obj ≡ objects_now code s ls g tr world.obj
  same_objects w' e =
      let c : changes_objects (instr_at code n.at.pc) n ≡ false = ap (λ i. changes_objects i n) is in
      effect_objects (lang_of x) tr.thread (has_returned n) (changes_objects (instr_at code n.at.pc) n) world w' e c ∙ sym (behind_same ls tr.thread (instr_at code n.at.pc) n (behind.threads tr.thread) world.obj c)

  -- a turn that tells nothing, of a thread that has returned
  silently : (back : has_returned (g.threads tr.thread) ≡ true) → (w' : World) → State x code s ls behind w' → (e : Effect (lang_of x) tr.thread (has_returned (g.threads tr.thread)) (changes_objects (instr_at code (g.threads tr.thread).at.pc) (g.threads tr.thread)) world w')
      → events_of (lang_of x) tr.thread (has_returned (g.threads tr.thread)) (changes_objects (instr_at code (g.threads tr.thread).at.pc) (g.threads tr.thread)) world w' e ≡ [] → Followed x code s ls g world tr
  silently back w' st' e none' = record { turned = (w', st', e); ends = λ _. inl (back, none'); objects = same_objects w' e }

  abbrev quiet : Effect (lang_of x) tr.thread (has_returned (g.threads tr.thread)) (changes_objects (instr_at code (g.threads tr.thread).at.pc) (g.threads tr.thread)) world world
  quiet = Silently (record { obj = refl; mutex = refl; passed = λ o p u b q. q; sole = λ u r e. (e, refl) })

  -- it has withdrawn from so many rows
  abbrev next_row : ℕ → Machine
  next_row row = withdraws (g.threads tr.thread) row

  rows_split : (row : ℕ) (P : Machine → Type 0)
      → (nat_lt row (length (g.threads tr.thread).own.table.order) ≡ true → P (at_stage (g.threads tr.thread) (Withdraws row))) → (nat_lt row (length (g.threads tr.thread).own.table.order) ≡ false → P (at_stage (g.threads tr.thread) Leaves)) → P (next_row row)
  rows_split row P a b = elim (nat_lt row (length n.own.table.order)) as (λ c. nat_lt row (length n.own.table.order) ≡ c → P (cond c (at_stage n (Withdraws row)) (at_stage n Leaves))) [ true ↦ a | false ↦ b ] refl

  -- the notes at such a place
  notes_at : (row : ℕ) → row ≤ length (g.threads tr.thread).own.table.order → (c : Bool) → nat_lt row (length (g.threads tr.thread).own.table.order) ≡ c → (kind : Kind) (p : ℕ)
      → noted_by (cond c (at_stage (g.threads tr.thread) (Withdraws row)) (at_stage (g.threads tr.thread) Leaves)) kind p ≡ cond (is_row (take row (g.threads tr.thread).own.table.order) p) 0 (note_number (note_of (g.threads tr.thread).own.table p kind))
  notes_at row le c e kind p = ap (λ c. noted_by (cond c (at_stage n (Withdraws row)) (at_stage n Leaves)) kind p) (sym e) ∙ noted_withdraws n (st.threads tr.thread).has.table row le kind p

  exit_says : (e : (g.threads tr.thread).own.stage ≡ Rests) → Followed x code s ls g world tr
  exit_says e =
      let ex = subst IsExiting (sym e) tt in
      let m' = next_row 0 in
      let d0 = asks_turn code s g tr may (step_of (state_word n.own.number) (Swap 2)) (λ found. m') (act_is Rests e) in
      let words = slice_set g.words (state_word tr.thread) 2 in
      let d : behind ≡ made_turn g tr.thread words m' = d0.0 ∙ ap (λ k. made_turn g tr.thread (slice_set g.words k 2) m') number_is in
      let long : state_word tr.thread < length g.words = subst (λ k. k < length g.words) number_is d0.1 in
      let few : g.made tr.thread + counted m'.at.state ≤ 100000000 = room_of code s g tr may words m' d in
      let was : (kind : Kind) (p : ℕ) → noted_by n kind p ≡ note_number (note_of n.own.table p kind) = λ kind p.
      ap (λ y. cond (has_withdrawn y n.own.table.order (is_ended n.at.state) p) 0 (note_number (note_of n.own.table p kind))) e ∙ ap (λ b. cond b 0 (note_number (note_of n.own.table p kind))) is_going in
      let st' : State x code s ls (made_turn g tr.thread words m') world = rows_split 0 (λ M. g.made tr.thread + counted M.at.state ≤ 100000000 → State x code s ls (made_turn g tr.thread words M) world)
      (λ c few. says_state x code s ls wt fits laws g world st tr may is ex RunsOn (Withdraws 0) tt (λ kind p. notes_at 0 (zero_le (length n.own.table.order)) true c kind p ∙ sym (was kind p)) 2 (two_le 2) (two_low 2) long few
      (λ _. ltb-true 0 (length n.own.table.order) c))
      (λ c few. says_state x code s ls wt fits laws g world st tr may is ex RunsOn Leaves tt (λ kind p. notes_at 0 (zero_le (length n.own.table.order)) false c kind p ∙ sym (was kind p)) 2 (two_le 2) (two_low 2) long few (λ _. tt)) few in
      let e = Returns (record { obj = refl; mutex = refl; passed = λ o p u b q. q; sole = λ u r e. (e, refl) }) in record { turned = (world, subst (λ y. State x code s ls y world) (sym d) st', e); ends = λ _. inr refl; objects = same_objects world e }
    where
      two_low : (k : ℕ) → 2 < 2 ^ 64
      two_low k = omega arith

  exit_looks : (row : ℕ) → (g.threads tr.thread).own.stage ≡ Withdraws row → row < length (g.threads tr.thread).own.table.order → Followed x code s ls g world tr
  exit_looks row e lt =
      let ex = subst IsExiting (sym e) tt in
      let k = shadow_word s (row_of n row) in
      let found = slice_index g.words k in
      let m' = at_stage n (WithdrawsFrom row found) in
      let d0 = asks_turn code s g tr may (step_of k Load) (λ found. at_stage n (WithdrawsFrom row found)) (act_is (Withdraws row) e) in
      let d : behind ≡ made_turn g tr.thread g.words m' = d0.0 ∙ ap (λ ws. made_turn g tr.thread ws m') (set-get_or g.words k 0) in
      let st' = stage_state x code s ls wt fits laws g world st tr may is ex (WithdrawsFrom row found) tt
      (λ kind p. sym (ap (λ y. cond (has_withdrawn y n.own.table.order (is_ended n.at.state) p) 0 (note_number (note_of n.own.table p kind))) e)) lt (room_of code s g tr may g.words m' d) in
      silently (ap (λ y. is_withdrawing y || is_ended n.at.state) e) world (subst (λ y. State x code s ls y world) (sym d) st') quiet refl

  exit_withdraws : (row seen : ℕ) → (g.threads tr.thread).own.stage ≡ WithdrawsFrom row seen → row < length (g.threads tr.thread).own.table.order → Followed x code s ls g world tr
  exit_withdraws row seen e lt =
      let ex = subst IsExiting (sym e) tt in
      let back : has_returned n ≡ true = ap (λ y. is_withdrawing y || is_ended n.at.state) e in
      let v = without_own n row seen in
      let k0 = shadow_word s (row_of n row) in
      let k = shadow_at s (row_of n row) in
      let k_is' : k0 ≡ k = k_is x code s ls wt fits laws g world st tr may is ex row seen e lt in
      let found = slice_index g.words k in
      let d0 = asks_turn code s g tr may (step_of k0 (Cas seen v)) (withdrew n row seen) (act_is (WithdrawsFrom row seen) e) in
      let d1 : behind ≡ made_turn g tr.thread (slice_set g.words k (cond (found == seen) v found)) (withdrew n row seen found) =
      d0.0 ∙ ap (λ k. made_turn g tr.thread (slice_set g.words k (cond (slice_index g.words k == seen) v (slice_index g.words k))) (withdrew n row seen (slice_index g.words k))) k_is' in
      let long : k < length g.words = subst (λ k. k < length g.words) k_is' d0.1 in
      ⊎_elim
      (λ (q : found ≡ seen).
      let words = slice_set g.words k v in
      let m' = next_row (suc row) in
      let t1 : (found == seen) ≡ true = ap (λ k. k == seen) q ∙ eq_refl seen in
      let next : withdrew n row seen found ≡ m' = ap (λ c. cond c (withdraws n (row + 1)) (at_stage n (WithdrawsFrom row found))) t1 ∙ ap (withdraws n) (let z : row + 1 ≡ suc row = omega arith in z) in
      let d : behind ≡ made_turn g tr.thread words m' = d1 ∙ ap (λ c. made_turn g tr.thread (slice_set g.words k (cond c v found)) (withdrew n row seen found)) t1 ∙ ap (made_turn g tr.thread words) next in
      let few : g.made tr.thread + counted m'.at.state ≤ 100000000 = room_of code s g tr may words m' d in
      let W : Machine → Type 0 = λ M. g.made tr.thread + counted M.at.state ≤ 100000000
      → (w' : World) × (State x code s ls (made_turn g tr.thread words M) w' × ((e : Effect (lang_of x) tr.thread (has_returned n) (changes_objects (instr_at code (g.threads tr.thread).at.pc) (g.threads tr.thread)) world w') × (events_of (lang_of x) tr.thread (has_returned n) (changes_objects (instr_at code (g.threads tr.thread).at.pc) (g.threads tr.thread)) world w' e ≡ []))) in
      let r = rows_split (suc row) W
      (λ c few. withdraws_state x code s ls wt fits laws g world st tr may is ex row seen e lt q long (Withdraws (suc row)) tt
      (noted_next x code s ls wt fits laws g world st tr may is ex row seen e lt (at_stage n (Withdraws (suc row))) (notes_at (suc row) lt true c)) (λ w'. ltb-true (suc row) (length n.own.table.order) c) few back)
      (λ c few. withdraws_state x code s ls wt fits laws g world st tr may is ex row seen e lt q long Leaves tt
      (noted_next x code s ls wt fits laws g world st tr may is ex row seen e lt (at_stage n Leaves) (notes_at (suc row) lt false c)) (λ w'. tt) few back) few in
      silently back r.0 (subst (λ y. State x code s ls y r.0) (sym d) r.1.0) r.1.1.0 r.1.1.1)
      (λ (ne : found ≡ seen → ⊥).
      let m' = at_stage n (WithdrawsFrom row found) in
      let t1 : (found == seen) ≡ false = ne_eq found seen ne in
      let d : behind ≡ made_turn g tr.thread g.words m' = d1 ∙ ap (λ c. made_turn g tr.thread (slice_set g.words k (cond c v found)) (cond c (withdraws n (row + 1)) (at_stage n (WithdrawsFrom row found)))) t1
      ∙ ap (λ ws. made_turn g tr.thread ws m') (set-get_or g.words k 0) in
      let st' = stage_state x code s ls wt fits laws g world st tr may is ex (WithdrawsFrom row found) tt
      (λ kind p. sym (ap (λ y. cond (has_withdrawn y n.own.table.order (is_ended n.at.state) p) 0 (note_number (note_of n.own.table p kind))) e)) lt (room_of code s g tr may g.words m' d) in
      silently back world (subst (λ y. State x code s ls y world) (sym d) st') quiet refl)
      (cases_eq found seen)

  exit_leaves : (g.threads tr.thread).own.stage ≡ Leaves → Followed x code s ls g world tr
  exit_leaves e =
      let ex = subst IsExiting (sym e) tt in
      let m' : Machine = record n { at = record n.at { state = Ended }; own = record n.own { stage = Rests } } in
      let d0 = asks_turn code s g tr may (step_of (state_word n.own.number) (Swap 3)) (λ found. m') (act_is Leaves e) in
      let words = slice_set g.words (state_word tr.thread) 3 in
      let d : behind ≡ made_turn g tr.thread words m' = d0.0 ∙ ap (λ k. made_turn g tr.thread (slice_set g.words k 3) m') number_is in
      let long : state_word tr.thread < length g.words = subst (λ k. k < length g.words) number_is d0.1 in
      let st' = says_state x code s ls wt fits laws g world st tr may is ex Ended Rests tt (λ kind p. sym (ap (λ y. cond (has_withdrawn y n.own.table.order (is_ended n.at.state) p) 0 (note_number (note_of n.own.table p kind))) e)) 3 (three_le 3) (three_low 3) long
      (room_of code s g tr may words m' d) (λ q. absurd (cc)) in
      silently (ap (λ y. is_withdrawing y || is_ended n.at.state) e) world (subst (λ y. State x code s ls y world) (sym d) st') quiet refl
    where
      three_le : (k : ℕ) → 2 ≤ 3
      three_le k = omega arith

      three_low : (k : ℕ) → 3 < 2 ^ 64
      three_low k = omega arith

  by_stage : (y : Stage) → (g.threads tr.thread).own.stage ≡ y → StageStands code s st.elements world st.heap g.words tr.thread (g.threads tr.thread) Instr.Exit y → Followed x code s ls g world tr
  by_stage Rests e h = exit_says e
  by_stage (Withdraws row) e h = exit_looks row e h
  by_stage (WithdrawsFrom row seen) e h = exit_withdraws row seen e h
  by_stage Leaves e h = exit_leaves e
  by_stage _ e h = absurd h

  pub Exit_follows : Followed x code s ls g world tr
  Exit_follows =
      let rn = (st.threads tr.thread).runs may.started may.next.runs in
      by_stage n.own.stage refl (subst (λ i. StageStands code s st.elements world st.heap g.words tr.thread n i n.own.stage) is rn.stage)
