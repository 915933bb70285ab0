-- The turn of a check, from the real words up: it passes, or it is refused.
use Rattle.sharc_invariant.proofs.{Imports.{◌≡◌, ℕ, ℤ, suc, ◌+◌, ◌*◌, ◌/◌, ◌^◌, ◌<◌, ◌⊎◌, ◌≢◌, Bool, true, false, cond, List, refl, sym, ap, ◌∙◌, subst, inl, inr, ⊎_elim, arith, cases_eq, nat_tests, fun_ext, length, slice_index, slice_set, nat_lt, bit_or, is_some, if◌then◌else◌, THREADS, Or, Kind, Read, Write, Accesses, note_of, site_at, epoch_of, is_write, bits_of, conflicts_in, noted, ShadowLaws, Code, Cell, Instr, Shape, Rests, Conflict, Fits, granules, granule_at, granule_of, Own as Own', Machine, Asks, instr_at, check, checked, wrote, with_note, with_own, stopped, step_of, may_go, turn, Turn, Global, put, MayTurn, one_thread, bounds, put_same, put_other, put_all, GranuleState, Passed, Clean, marked, passed, Targets, Field, FieldMode, CellMode, mode_at, mode_in, Closed, Labels, IsWellTyped, HasCell, TypedReference, RegisterOf, In, Slot, CellOf, World, Window, Shut, May, Sole, base_of, in_ref, put2, set_gran, set_win, WorldInvariant, lang_of, MachineView, conc_of, Shows, register_of, noted_by, note_number, is_ended, has_withdrawn, Reads, made_turn, made_conc, KeepsOthers, IsThere, StopStands, Runs, State, size_of_run, base_of_cell, object_of_cell, number_in, ne_eq}, TurnAt.{turn_at, turn_stands}, Effects.{put2_all, base_other, sole_at, refuse_ok, pass_ok, set_win_ok, keeps_passed}, Quiet.{KeepsOwn, KeepsWords, heap_now, quiet_state, noted_same, conc_plain, put_self}, Turns.{asks_turn, room_of}, Own.{is_single, runs, rests, top, begun_before}, Plain.{register_plain, is_shut, going, keeps_own}, Stores.{index_put, shadow_store, stored_words, stored_within}, Seen.{shadow_stored, put2_off}, Cells.cell_there, Checks.{marked_reads, passed_reads, clean_check, noted_numbers, noted_table, same_kind, other_put}, Others.loses}
use Rattle.sharc_code.specs.Machine.{place}

pub put_put : {A : Type 0} (f : ℕ → A) (t : ℕ) (a b : A) → put (put f t a) t b ≡ put f t b
put_put f t a b = fun_ext (λ u. ⊎_elim (λ (e : u ≡ t). ap (put (put f t a) t b) e ∙ put_same (put f t a) t b ∙ sym (ap (put f t b) e ∙ put_same f t b)) (λ (ne : u ≡ t → ⊥). put_other (put f t a) t u b ne ∙ put_other f t u a ne ∙ sym (put_other f t u b ne)) (cases_eq u t))

-- the notes of a thread in the middle of nothing are those of its table
pub noted_plain : (m : Machine) → m.own.stage ≡ Rests → is_ended m.at.state ≡ false → (k : Kind) (q : ℕ) → noted_by m k q ≡ note_number (note_of m.own.table q k)
noted_plain m e ee k q =
    ap (λ st. cond (has_withdrawn st m.own.table.order (is_ended m.at.state) q) 0 (note_number (note_of m.own.table q k))) e
    ∙ ap (λ b. cond b 0 (note_number (note_of m.own.table q k))) ee

-- the windows are none of the machine's
pub sim_win : (x : Targets) (s : Shape) (cells elements : ℕ → ℕ) (c : MachineView) (w : World) (win : ℕ → Window) → Shows x s cells elements c w → Shows x s cells elements c (record w { win = win })
sim_win x s cells elements c w win h = record { regs = h.regs; args = h.args; logs = h.logs; staged = h.staged; pointers = h.pointers; others = h.others; integers = h.integers; counts = h.counts; lengths = h.lengths; mutexes = h.mutexes; shadows = h.shadows; stale = h.stale }

small_word : (v w : ℕ) → epoch_of w ≡ epoch_of v → v < 2 ^ 64 → w < 2 ^ 64
unfolding epoch_of
small_word v w e lt = omega arith

module _ (x : Targets) (code : Code) (s : Shape) (ls : Labels) (wt : IsWellTyped x code ls) (fits : Fits code s) (laws : ShadowLaws) (g : Global Machine) (world : World) (st : State x code s ls g world) (tr : Turn)
    (may : MayTurn bounds (one_thread code s) g tr) (kind : Kind) (c : Cell) (site : ℕ) (i : Instr) (is : instr_at code (g.threads tr.thread).at.pc ≡ i) (single : is_single i ≡ true)
    (act_is : turn code s (g.threads tr.thread) ≡ check s (g.threads tr.thread) kind (granule_of (place (g.threads tr.thread) c)) site) (closed : (ls.at (g.threads tr.thread).at.pc).gate ≡ Closed)
    (f : Field) (cell : HasCell x code (ls.at (g.threads tr.thread).at.pc) c f) (dynamic : f.mode ≡ FieldMode.Dynamic) where
  open turn_at st tr use {t, m, here, after}
  open turn_stands st tr may use {low_t, number as number_is}

  abbrev names : ℕ → ℤ
  names = (runs x code s ls wt g world st tr.thread may.started may.next.runs i is single).names

  there : IsThere x s st.cells world tr.thread (g.threads tr.thread) c f
  there = cell_there x code s ls wt fits g world st t m names here (top x code s ls wt g world st t may.started may.next.runs i is single)
      (λ r. sym (st.sim.regs t (m.at.refs + r) ∙ register_plain code m (rests x code s ls wt g world st t may.started may.next.runs i is single) (m.at.refs + r))) c f cell

  abbrev o : ℕ
  o = object_of_cell (g.threads tr.thread) c

  abbrev j : ℕ
  j = number_in (g.threads tr.thread) c

  abbrev gi : ℕ
  gi = number_in (g.threads tr.thread) c / 2

  abbrev p : ℕ
  p = object_of_cell (g.threads tr.thread) c + 1 + number_in (g.threads tr.thread) c / 2

  abbrev old : GranuleState
  old = world.gran (object_of_cell (g.threads tr.thread) c) (number_in (g.threads tr.thread) c / 2)

  has_granule : 2 * (number_in (g.threads tr.thread) c / 2) < st.cells (object_of_cell (g.threads tr.thread) c)
  has_granule = let a = there.number in omega arith

  in_granules : p < granules s
  in_granules = st.apart.within o gi there.live has_granule

  granule_is : granule_of (place m c) ≡ p
  granule_is = ap granule_of there.place_is ∙ (let e : (2 * (o + 1) + j) / 2 ≡ o + 1 + j / 2 = omega arith in e)

  at_granule : granule_at s p ≡ p
  at_granule = let e : nat_lt p (granules s) ≡ true = let l = in_granules in grind (arith, nat_tests) in rw e refl

  abbrev k : ℕ
  k = 97 + (object_of_cell (g.threads tr.thread) c + 1 + number_in (g.threads tr.thread) c / 2)

  abbrev found : ℕ
  found = slice_index g.words (97 + (object_of_cell (g.threads tr.thread) c + 1 + number_in (g.threads tr.thread) c / 2))

  abbrev v' : ℕ
  v' = bit_or (slice_index g.words (97 + (object_of_cell (g.threads tr.thread) c + 1 + number_in (g.threads tr.thread) c / 2))) (bits_of tr.thread kind)

  abbrev words : List ℕ
  words = slice_set g.words k v'

  done : (after ≡ made_turn g t words (checked m kind p site found)) × (k < length g.words)
  done =
      let a : check s m kind (granule_of (place m c)) site ≡ Asks (step_of k (Or (bits_of t kind))) (checked m kind p site) =
      ap (λ q. check s m kind q site) granule_is
      ∙ ap (λ q. Asks (step_of (97 + q) (Or (bits_of m.own.number kind))) (checked m kind q site)) at_granule
      ∙ ap (λ n. Asks (step_of k (Or (bits_of n kind))) (checked m kind p site)) number_is in
      asks_turn code s g tr may (step_of k (Or (bits_of t kind))) (checked m kind p site) (act_is ∙ a)

  small : v' < 2 ^ 64
  small = small_word found v' (laws.or_adds found t kind low_t).epoch (st.are_words k)

  abbrev kb : Bool
  kb = is_write kind

  -- nobody else has the object alone
  not_alone : (u r : ℕ) → u ≢ t → world.win u ≡ Sole r → in_ref world (RegisterOf u r) ≡ o → ⊥
  not_alone u r ne e q =
      let so = sole_at (size_of_run code s) (lang_of x) world st.inv u r e in
      ne (sym (base_other (size_of_run code s) (lang_of x) world st.inv u t r (base_of_cell m c) so.0 so.1 there.based (there.base ∙ sym q)).0)

  gran_others : (y : GranuleState) (w' : World) → w'.slots ≡ world.slots → w'.gran ≡ put2 world.gran o gi y → ((u : ℕ) → u ≢ t → w'.win u ≡ world.win u) → ((u : ℕ) → u ≢ t → (b : Bool) → Passed old u b → Passed y u b)
      → KeepsOthers s world w' st.heap (heap_now st.heap words) g.words words t
  gran_others y w' es eg ew keep = record {
    regs = λ u _ r. ap (λ (f : Slot → TypedReference). f (In (RegisterOf u r))) es;
    win = ew;
    passed = λ u ne q h b _ z. subst (λ (f : ℕ → ℕ → GranuleState). Passed (f q h) u b) (sym eg) (put2_all (λ q h a. Passed (world.gran q h) u b → Passed a u b) world.gran o gi y (keep u ne b) (λ q h z. z) q h z);
    sole = λ u ne r e h. loses (ap (λ (f : ℕ → ℕ → GranuleState). f (in_ref world (RegisterOf u r)) h) eg ∙ sym (put2_off world.gran o gi (in_ref world (RegisterOf u r)) h y (λ q _. not_alone u r ne e q)));
    cells = λ u _ r _ n. ap (λ (f : Slot → TypedReference). (f (CellOf (in_ref world (RegisterOf u r)) n)).reference) es;
    built = λ u _ h e. (e, refl);
    within = λ u _ h b n inside. stored_within x code s ls g world st k v' (shadow_store x code s ls g world st p in_granules) done.1 u h n b inside;
  }

  kept_words : KeepsWords s st.heap g.words words
  kept_words = stored_words x code s ls g world st k v' (shadow_store x code s ls g world st p in_granules) done.1 small
      (λ n l e. let en : n ≡ p = omega arith in (laws.or_adds found t kind low_t).epoch ∙ ap (λ n. epoch_of (slice_index g.words (97 + n))) (sym en))

  words_are : (λ n. slice_index words n) ≡ put (λ n. slice_index g.words n) k v'
  words_are = fun_ext (index_put g.words k v' done.1)

  reads_old : Reads found (conc_of code g).read_notes (conc_of code g).write_notes p old
  reads_old = st.sim.shadows o gi there.live has_granule

  -- the machine's registers are as before
  regs_same : (m' : Machine) → m'.own.stage ≡ (g.threads tr.thread).own.stage → m'.refs ≡ (g.threads tr.thread).refs → put (λ u. register_of code (g.threads u)) tr.thread (register_of code m') ≡ (λ u. register_of code (g.threads u))
  regs_same m' e er =
      let rest = rests x code s ls wt g world st t may.started may.next.runs i is single in
      fun_ext (put_self (λ u. register_of code (g.threads u)) t (register_of code m') (fun_ext (λ n. register_plain code m' (e ∙ rest) n ∙ ap (λ l. slice_index l n) er ∙ sym (register_plain code m rest n))))

  -- ---- it is refused
  pub refused : conflicts_in found t kind (wrote m p found) ≡ true → State x code s ls after (set_gran world o gi (marked old t kb))
  refused conflict =
      let rest = rests x code s ls wt g world st t may.started may.next.runs i is single in
      let why = Conflict record { kind = kind; site = site; granule = p; epoch = epoch_of found; old = found } in
      let m' = stopped m why in
      let e : checked m kind p site found ≡ m' = ap (λ n. cond (conflicts_in found n kind (wrote m p found)) m' (with_own m (with_note m.own p kind (epoch_of found) site))) number_is
      ∙ ap (λ b. cond b m' (with_own m (with_note m.own p kind (epoch_of found) site))) conflict in
      let now : after ≡ made_turn g t words m' = done.0 ∙ ap (made_turn g t words) e in
      let w' = set_gran world o gi (marked old t kb) in
      let shut = is_shut x code s ls wt g world st t may.started may.next.runs i is single closed in
      let begun = begun_before x code s ls wt g world st t may.started may.next.runs i is single in
      let on' = going x code s ls wt g world st t may.started may.next.runs i is single in
      let own : KeepsOwn m m' = keeps_own x code s ls wt g world st t may.started may.next.runs i is single m' refl refl refl refl begun refl in
      let sim1 = shadow_stored x s st.cells st.elements (conc_of code g) world st.sim st.apart o gi v' (marked old t kb) (conc_of code g).read_notes (conc_of code g).write_notes there.live has_granule
      (marked_reads laws found (conc_of code g).read_notes (conc_of code g).write_notes p old t kind low_t reads_old) (λ u q _. refl) (λ u q _. refl) in
      let sim2 : Shows x s st.cells st.elements (record (conc_of code g) { words = λ n. slice_index words n; regs = put (λ u. register_of code (g.threads u)) t (register_of code m') }) w' =
      subst (λ r. Shows x s st.cells st.elements (record (conc_of code g) { words = λ n. slice_index words n; regs = r }) w') (sym (regs_same m' refl refl))
      (subst (λ h. Shows x s st.cells st.elements (record (conc_of code g) { words = h }) w') (sym words_are) sim1) in
      let sim3 = subst (λ c. Shows x s st.cells st.elements c w') (sym (conc_plain code g t words m' (noted_same m m' refl rest rest on' refl))) sim2 in
      subst (λ y. State x code s ls y w') (sym now) (quiet_state x code s ls g world st t may.started words m' own kept_words w' (record { obj = refl; mutex = refl; args = λ u. refl })
      (gran_others (marked old t kb) w' refl refl (λ u _. refl) (λ u ne b. elim b as (λ b. Passed old u b → Passed (marked old t kb) u b) [ true ↦ λ h. h | false ↦ λ h. h ]))
      wt (refuse_ok (size_of_run code s) (lang_of x) world st.inv t kb o gi shut) sim3 (λ q. absurd (cc)) (λ _. subst (StopStands w' t m') (sym closed) shut) (room_of code s g tr may words m' now))

  -- ---- it passes
  dynamic_mode : mode_at x (world.obj (base_of world tr.thread (base_of_cell (g.threads tr.thread) c))).ty j ≡ CellMode.Dynamic
  dynamic_mode = ap (λ o. mode_at x (world.obj o).ty j) there.base ∙ ap (λ (f : Field). mode_in (world.obj o).ty j f.mode) there.field ∙ ap (mode_in (world.obj o).ty j) dynamic

  -- the world behind it, with this window
  abbrev passed_world : Window → World
  passed_world win = set_win (set_gran world o gi (passed old tr.thread (is_write kind))) tr.thread win

  abbrev passed_machine : Machine
  passed_machine = with_own (g.threads tr.thread) (with_note (g.threads tr.thread).own p kind (epoch_of found) site)

  own_kept : (b : Bool) → Passed old t b → Passed (passed old t kb) t b
  own_kept b = elim kb as (λ k. Passed old t b → Passed (passed old t k) t b) [
    | true ↦ elim b as (λ b. Passed old t b → Passed (passed old t true) t b) [ true ↦ λ h. put_same old.write_note t (suc old.epoch) | false ↦ λ h. inr (put_same old.write_note t (suc old.epoch)) ]
    | false ↦ elim b as (λ b. Passed old t b → Passed (passed old t false) t b) [ true ↦ λ h. h | false ↦ λ h. inl (put_same old.read_note t (suc old.epoch)) ]
  ]

  pub all_kept : (u : ℕ) (b : Bool) (q h : ℕ) → Passed (world.gran q h) u b → Passed (put2 world.gran o gi (passed old t kb) q h) u b
  all_kept u b = put2_all (λ q h a. Passed (world.gran q h) u b → Passed a u b) world.gran o gi (passed old t kb)
      (⊎_elim (λ (e : u ≡ t). subst (λ u. Passed old u b → Passed (passed old t kb) u b) (sym e) (own_kept b)) (λ (ne : u ≡ t → ⊥). keeps_passed old t u kb b ne) (cases_eq u t))
      (λ q h z. z)

  pub passes_state : conflicts_in found t kind (wrote m p found) ≡ false → (win : Window) → (win ≡ Shut) ⊎ (win ≡ May kb (base_of_cell m c) j)
      → (may_go passed_machine.at.state ≡ true → Runs x code s ls st.elements (passed_world win) (heap_now st.heap words) (made_turn g t words passed_machine) t passed_machine)
      → State x code s ls after (passed_world win)
  passes_state none' win is_win runs' =
      let rest = rests x code s ls wt g world st t may.started may.next.runs i is single in
      let m' = passed_machine in
      let o1 = with_note m.own p kind (epoch_of found) site in
      let in_table : p < length m.own.table.notes = let a = (st.threads t).has.notes in let b = in_granules in omega arith in
      let tb = noted_table m.own p kind (epoch_of found) site in_table (st.threads t).has.table in
      let same : (A : Own' → Type 0) → A m.own → ((n : Accesses) → A m.own → A (record m.own { table = n })) → A o1 = λ A h k. elim (is_some (site_at (note_of m.own.table p kind) (epoch_of found))) as (λ b. A (cond b m.own (record m.own { table = noted m.own.table p kind record { epoch = epoch_of found; site = site } }))) [ true ↦ h | false ↦ k (noted m.own.table p kind record { epoch = epoch_of found; site = site }) h ] in
      let e : checked m kind p site found ≡ m' = ap (λ n. cond (conflicts_in found n kind (wrote m p found)) (stopped m (Conflict record { kind = kind; site = site; granule = p; epoch = epoch_of found; old = found })) m') number_is
      ∙ ap (λ b. cond b (stopped m (Conflict record { kind = kind; site = site; granule = p; epoch = epoch_of found; old = found })) m') none' in
      let now : after ≡ made_turn g t words m' = done.0 ∙ ap (made_turn g t words) e in
      let w' = passed_world win in
      let begun = begun_before x code s ls wt g world st t may.started may.next.runs i is single in
      let on' = going x code s ls wt g world st t may.started may.next.runs i is single in
      let rest' : o1.stage ≡ Rests = same (λ q. q.stage ≡ Rests) rest (λ n h. h) in
      let own : KeepsOwn m m' = record {
        sizes = record {
          number = same (λ q. q.number ≡ m.own.number) refl (λ n h. h);
          notes = tb.1;
          table = tb.0;
          refs = refl;
          ints = refl;
          frames = refl;
        };
        held = same (λ q. q.held ≡ m.own.held) refl (λ n h. h);
        heads = same (λ q. q.heads ≡ m.own.heads) refl (λ n h. h);
        stage = rest;
        rests = rest';
        begun_before = begun;
        begun = ne_eq (m.at.pc + 1) 0 (λ z. absurd (omega arith));
        ended_before = on';
        ended = refl;
      } in
      let clean = clean_check laws found (conc_of code g).read_notes (conc_of code g).write_notes p old t kind m reads_old (noted_plain m rest on' Write p) none' in
      let inv1 = pass_ok (size_of_run code s) (lang_of x) world st.inv t kb (base_of_cell m c) j there.based dynamic_mode low_t (subst (λ q. Clean THREADS (world.gran q gi) t kb) (sym there.base) clean) in
      let Q : ℕ → Window → Type 0 = λ q y. WorldInvariant (size_of_run code s) (lang_of x) (set_win (set_gran world q gi (passed (world.gran q gi) t kb)) t y) in
      let inv_may : Q o (May kb (base_of_cell m c) j) = subst (λ q. Q q (May kb (base_of_cell m c) j)) there.base inv1 in
      let w_may = passed_world (May kb (base_of_cell m c) j) in
      let inv_shut : Q o Shut = subst (λ h. WorldInvariant (size_of_run code s) (lang_of x) (record (set_gran world o gi (passed old t kb)) { win = h })) (put_put world.win t (May kb (base_of_cell m c) j) Shut) (set_win_ok (size_of_run code s) (lang_of x) w_may inv_may t Shut tt) in
      let inv2 : WorldInvariant (size_of_run code s) (lang_of x) w' = ⊎_elim (λ (e : win ≡ Shut). subst (Q o) (sym e) inv_shut) (λ (e : win ≡ May kb (base_of_cell m c) j). subst (Q o) (sym e) inv_may) is_win in
      let rn' = put (λ u. noted_by (g.threads u) Read) t (noted_by m' Read) in
      let wn' = put (λ u. noted_by (g.threads u) Write) t (noted_by m' Write) in
      let own_number : (k : Kind) (q : ℕ) → noted_by m' k q ≡ (if same_kind k kind then put (noted_by m k) p (suc (epoch_of found)) q else noted_by m k q) = λ k q.
      noted_plain m' rest' refl k q ∙ noted_numbers m.own p kind (epoch_of found) site in_table k q ∙ ap (λ (h : ℕ → ℕ). if same_kind k kind then put h p (suc (epoch_of found)) q else h q) (fun_ext (λ q. sym (noted_plain m rest on' k q))) in
      let away : (k : Kind) (u q : ℕ) → (q ≡ p → ⊥) → put (λ u. noted_by (g.threads u) k) t (noted_by m' k) u q ≡ noted_by (g.threads u) k q = λ k u q ne.
      put_all (λ u (h : ℕ → ℕ). h q ≡ noted_by (g.threads u) k q) (λ u. noted_by (g.threads u) k) t (noted_by m' k) (own_number k q ∙ sym (other_put (same_kind k kind) (noted_by m k) p (suc (epoch_of found)) q ne)) (λ u _. refl) u in
      let at_p : (k : Kind) (u : ℕ) → put (λ u. noted_by (g.threads u) k) t (noted_by m' k) u p ≡ (if same_kind k kind then put (λ u. noted_by (g.threads u) k p) t (suc (epoch_of found)) u else noted_by (g.threads u) k p) = λ k.
      put_all (λ u (h : ℕ → ℕ). h p ≡ (if same_kind k kind then put (λ u. noted_by (g.threads u) k p) t (suc (epoch_of found)) u else noted_by (g.threads u) k p)) (λ u. noted_by (g.threads u) k) t (noted_by m' k)
      (own_number k p ∙ (elim (same_kind k kind) as (λ b. cond b (put (noted_by m k) p (suc (epoch_of found)) p) (noted_by m k p) ≡ cond b (put (λ u. noted_by (g.threads u) k p) t (suc (epoch_of found)) t) (noted_by (g.threads t) k p)) [
        | true ↦ put_same (noted_by m k) p (suc (epoch_of found)) ∙ sym (put_same (λ u. noted_by (g.threads u) k p) t (suc (epoch_of found)))
        | false ↦ refl
      ]))
      (λ u ne. other_put (same_kind k kind) (λ u. noted_by (g.threads u) k p) t (suc (epoch_of found)) u ne) in
      let reads_new : Reads v' rn' wn' p (passed old t kb) = passed_reads laws found (conc_of code g).read_notes (conc_of code g).write_notes rn' wn' p old t kind low_t reads_old
      (λ u. at_p Read u ∙ (elim kind as (λ k. (if same_kind Read k then put (λ u. noted_by (g.threads u) Read p) t (suc (epoch_of found)) u else noted_by (g.threads u) Read p) ≡ cond (is_write k) (noted_by (g.threads u) Read p) (put (λ u. noted_by (g.threads u) Read p) t (suc (epoch_of found)) u)) [ Read ↦ refl | Write ↦ refl ]))
      (λ u. at_p Write u ∙ (elim kind as (λ k. (if same_kind Write k then put (λ u. noted_by (g.threads u) Write p) t (suc (epoch_of found)) u else noted_by (g.threads u) Write p) ≡ cond (is_write k) (put (λ u. noted_by (g.threads u) Write p) t (suc (epoch_of found)) u) (noted_by (g.threads u) Write p)) [ Read ↦ refl | Write ↦ refl ])) in
      let sim1 = shadow_stored x s st.cells st.elements (conc_of code g) world st.sim st.apart o gi v' (passed old t kb) rn' wn' there.live has_granule reads_new (λ u q ne. away Read u q ne) (λ u q ne. away Write u q ne) in
      let sim2 : Shows x s st.cells st.elements (made_conc code (conc_of code g) t words m') (set_gran world o gi (passed old t kb)) =
      subst (λ r. Shows x s st.cells st.elements (record (conc_of code g) { words = λ n. slice_index words n; regs = r; read_notes = rn'; write_notes = wn' }) (set_gran world o gi (passed old t kb))) (sym (regs_same m' (rest' ∙ sym rest) refl))
      (subst (λ h. Shows x s st.cells st.elements (record (conc_of code g) { words = h; read_notes = rn'; write_notes = wn' }) (set_gran world o gi (passed old t kb))) (sym words_are) sim1) in
      let sim3 = sim_win x s st.cells st.elements (made_conc code (conc_of code g) t words m') (set_gran world o gi (passed old t kb)) (put world.win t win) sim2 in
      subst (λ y. State x code s ls y w') (sym now) (quiet_state x code s ls g world st t may.started words m' own kept_words w' (record { obj = refl; mutex = refl; args = λ u. refl })
      (gran_others (passed old t kb) w' refl refl (λ u ne. put_other world.win t u win ne) (λ u ne b. keeps_passed old t u kb b ne))
      wt inv2 sim3 runs' (λ q. absurd (cc)) (room_of code s g tr may words m' now))
