-- Raise and Lower of a register, and what moves references between registers.
use Rattle.sharc_invariant.proofs.{Imports.{◌≡◌, ℕ, ℤ, zero, suc, ◌+◌, ◌-◌, ◌%◌, ◌^◌, ◌<◌, ◌≤◌, ◌≢◌, true, refl, sym, ap, ◌∙◌, subst, inl, inr, ⊎_elim, arith, List, [], ◌∷◌, false, cond, ◌||◌, cases_eq, nat_tests, fun_ext, length, slice_index, slice_set, nat_lt, ◌==◌, Add, Sub, word_after, raise_of, lower_of, Code, Instr, Shape, granules, granule_at, count_word, Machine, Local, Asks, instr_at, goes, set_ref, ref, raise, lower, turn, Turn, Global, put, MayTurn, one_thread, bounds, put_same, put_other, Through, nothing, Targets, type_of, Lock, SomeNames, Empty, Refers, Unknown, Closed, Label, Labels, Leads, fill, empty, Entry, EntryMentions, IsFree, forgets, forgotten, some_names, IsWellTyped, IsRef, TypedReference, RegisterOf, World, Shut, Sole, In, Slot, in_ref, place, null, none, grow, drop, set_win, set_slot, FitsType as Fits, WorldInvariant, lang_of, conc_of, Shows, count_at, store, set_reg, has_returned, GranuleState, Passed, Silent, Effect, Silently, made_turn, State, EntryStands, TopStands, refs_at, types_at, IsSmall, size_of_run, changes_objects, eq_refl, or_second}, TurnAt.turn_at, Effects.{set_slot_ok, grow_ok, drop_ok, set_win_ok, count_pos, place_other}, Frames.{filled, FilledStands, fill_stands, empty_stands}, Small.total_low, Stores.{index_put, count_store, stored_words, stored_within}, Seen.{count_stored, reg_stored}, Turns.{local_turn, asks_turn, room_of}, Own.{is_single, runs, rests, top, fine}, Plain.{register_plain, is_shut, same_words}, Filled.{SetsRef, filled_state, inside_world, free_shut}}
use Rattle.sharc_invariant.specs.{Types.Names}

pub raise_zero : (s : Shape) (n : ℕ) (m : Machine) → n ≡ 0 → raise s n m ≡ Local m
raise_zero s n m e = ap (λ n. raise s n m) e

pub raise_some : (s : Shape) (n : ℕ) (m : Machine) → n ≢ 0 → raise s n m ≡ Asks (raise_of (count_word s n)) (λ found. m)
raise_some s zero m e = absurd (e refl)
raise_some s (suc h) m e = refl

lower_zero : (s : Shape) (n : ℕ) (m : Machine) → n ≡ 0 → lower s n m ≡ Local m
lower_zero s n m e = ap (λ n. lower s n m) e

lower_some : (s : Shape) (n : ℕ) (m : Machine) → n ≢ 0 → lower s n m ≡ Asks (lower_of (count_word s n)) (λ found. m)
lower_some s zero m e = absurd (e refl)
lower_some s (suc h) m e = refl

-- the count word of an object that is there
pub count_is : (s : Shape) (o : ℕ) → o < granules s → count_word s o ≡ count_at s o
count_is s o lt = let e : nat_lt o (granules s) ≡ true = grind (arith, nat_tests) in let q : granule_at s o ≡ o = rw e refl in omega arith

module _ (x : Targets) (code : Code) (s : Shape) (ls : Labels) (wt : IsWellTyped x code ls) (few : IsSmall code s) (g : Global Machine) (world : World) (st : State x code s ls g world) (tr : Turn) (may : MayTurn bounds (one_thread code s) g tr) where
  open turn_at st tr use {t, m, here, base, view, refs, after}

  -- the invariant behind the turn, and its effect on the world
  abbrev Turned : Type 0
  Turned = (w' : World) × State x code s ls after w' × Effect (lang_of x) tr.thread (has_returned (g.threads tr.thread)) (changes_objects (instr_at code (g.threads tr.thread).at.pc) (g.threads tr.thread)) world w'

  -- the count of an object is small, and its word is there
  count_small : (o : ℕ) → o ≢ 0 → (world.obj o).live ≡ true → world.count o + 1 < 2 ^ 64
  count_small o nz live =
      let a = st.inv.words.counts o nz live (st.rows o nz live).0 in
      let b = total_low (size_of_run code s) world.slots o in
      let c = few.counts in
      omega arith

  count_inside : (o : ℕ) → (world.obj o).live ≡ true → count_at s o < length g.words
  count_inside o live = let a = st.apart.headers o live in let b = st.length_is in omega arith

  module _ (i : Instr) (is : instr_at code (g.threads tr.thread).at.pc ≡ i) (single : is_single i ≡ true) where
    abbrev names : ℕ → ℤ
    names = (runs x code s ls wt g world st t may.started may.next.runs i is single).names

    tops : TopStands x t view base m.at.ints names here
    tops = top x code s ls wt g world st t may.started may.next.runs i is single

    -- a register as the world has it
    in_world : (r : ℕ) → ref m r ≡ refs r
    in_world r = sym (st.sim.regs t (base + r) ∙ register_plain code m (rests x code s ls wt g world st t may.started may.next.runs i is single) (base + r))

    -- a copy of what another register holds comes into one that held NULL
    copy_top : (d from : ℕ) (o : ℕ) → o ≡ refs from → here.env d ≡ Empty → TopStands x t (filled view (base + d) o (types_at view base from)) base m.at.ints names (fill here d (here.env from) (here.same from) (here.known from))
    copy_top d from o eo gone =
        let sc = wt.scoped m.at.pc in
        let stands : FilledStands refs o (types_at view base from) (here.env from) = elim (here.env from) as (λ e. EntryStands refs (types_at view base) from e → FilledStands refs o (types_at view base from) e) [
          | Empty ↦ λ k. eo ∙ k
          | Refers ty ↦ λ k ne. k (λ z. ne (eo ∙ z)) ∙ ap (λ p. type_of refs p ty) (sym eo)
          | Unknown ↦ λ k. k
        ] ((tops (suc from) 0).env from (omega arith)) in
        fill_stands x t view base m.at.ints names here (Rattle.sharc_invariant.specs.Typed.ints_in code here.function) (Rattle.sharc_invariant.specs.Typed.refs_in code here.function) d o (types_at view base from) (here.env from) (here.same from) (here.known from)
        sc gone (λ q. sc.paths from d q gone) stands
        (⊎_elim (λ (e : here.same from ≡ d). inl e) (λ (ne : here.same from ≡ d → ⊥). inr (ne, (tops (suc from) 0).same from (omega arith) ∙ sym eo)) (cases_eq (here.same from) d))
        (λ k z. (tops (suc from) 0).known from (omega arith) k (sym eo ∙ z)) tops

  -- the world with the window shut
  abbrev closed : World
  closed = set_win world tr.thread Shut

  pub closed_inv : WorldInvariant (size_of_run code s) (lang_of x) closed
  closed_inv = set_win_ok (size_of_run code s) (lang_of x) world st.inv t Shut tt

  pub closed_shut : closed.win t ≡ Shut
  closed_shut = put_same world.win t Shut

  pub closed_sim : Shows x s st.cells st.elements (conc_of code g) closed
  closed_sim = let h = st.sim in record { regs = h.regs; args = h.args; logs = h.logs; staged = h.staged; pointers = h.pointers; others = h.others; integers = h.integers; counts = h.counts; lengths = h.lengths; mutexes = h.mutexes; shadows = h.shadows; stale = h.stale }

  -- a register of a thread that has nothing alone changes
  pub filled_silent : (w' : World) (k : ℕ) (h : TypedReference) → w'.slots ≡ place world.slots (In (RegisterOf t k)) h → w'.gran ≡ world.gran → w'.obj ≡ world.obj → w'.mutex ≡ world.mutex → ((u : ℕ) → u ≢ t → w'.win u ≡ world.win u)
      → ((r : ℕ) → world.win t ≡ Sole r → ⊥) → Silent world w'
  filled_silent w' k h es eg eo em ew none' = record {
    obj = eo;
    mutex = em;
    passed = λ o p u b q. subst (λ (f : ℕ → ℕ → GranuleState). Passed (f o p) u b) (sym eg) q;
    sole = λ u r e. let ne : u ≡ t → ⊥ = λ q. none' r (ap world.win (sym q) ∙ e) in
        (ew u ne ∙ e, ap (λ (f : Slot → TypedReference). (f (In (RegisterOf u r))).reference) es ∙ ap (λ (h : TypedReference). h.reference) (place_other world.slots (In (RegisterOf t k)) (In (RegisterOf u r)) h (λ q. ne (cc))));
  }

  never_sole : world.win t ≡ Shut → (r : ℕ) → world.win t ≡ Sole r → ⊥
  never_sole e r q = let z : Shut ≡ Sole r = sym e ∙ q in cc

  -- a reference that a slot holds is counted once more, and comes into a register that held NULL
  pub raised_state : (i : Instr) (is : instr_at code (g.threads tr.thread).at.pc ≡ i) (single : is_single i ≡ true) (d : ℕ) (h : TypedReference) (m' : Machine) (slot : Slot) (o : ℕ) → h.reference ≡ o → o ≢ 0
      → turn code s (g.threads tr.thread) ≡ Asks (raise_of (count_word s o)) (λ found. m') → SetsRef (g.threads tr.thread) m' d h.reference → IsRef code here d → in_ref world (RegisterOf t (base + d)) ≡ 0
      → Fits (lang_of x) world.obj t h → (world.slots slot).reference ≡ h.reference → ((u r : ℕ) → world.win u ≡ Sole r → slot ≡ In (RegisterOf u r) → ⊥) → (k : Label)
      → TopStands x t (filled view (base + d) h.reference h.ty) base m.at.ints (runs x code s ls wt g world st t may.started may.next.runs i is single).names k
      → Leads ls ((g.threads tr.thread).at.pc + 1) k → k.function ≡ here.function → k.gate ≡ Closed → (k.room ≡ true → length (g.threads tr.thread).own.held < 16) → State x code s ls after (grow closed (RegisterOf t (base + d)) h)
  raised_state i is single d h m' slot o on_w nz act_is sets isr empty_d fits eslot apart k tp leads fn gt room =
      let q = base + d in
      let nzw : h.reference ≢ 0 = λ z. nz (sym on_w ∙ z) in
      let live : (world.obj o).live ≡ true = subst (λ p. (world.obj p).live ≡ true) on_w (fits nzw).live in
      let done0 = asks_turn code s g tr may (raise_of (count_word s o)) (λ found. m') act_is in
      let kw = count_is s o (st.apart.headers o live) in
      let at = count_at s o in
      let lt = count_inside o live in
      let small = count_small o nz live in
      let cnt : world.count o ≡ slice_index g.words at = st.sim.counts o nz live in
      let val : word_after (Add 1) (slice_index g.words (count_word s o)) ≡ world.count o + 1 =
      let e : slice_index g.words (count_word s o) ≡ world.count o = ap (slice_index g.words) kw ∙ sym cnt in
      ap (word_after (Add 1)) e ∙ (let q : (world.count o + 1) % 2 ^ 64 ≡ world.count o + 1 = omega arith in q) in
      let words = slice_set g.words at (world.count o + 1) in
      let done : after ≡ made_turn g t words m' = done0.0 ∙ ap (λ v. made_turn g t (slice_set g.words (count_word s o) v) m') val ∙ ap (λ k. made_turn g t (slice_set g.words k (world.count o + 1)) m') kw in
      let ms = count_store x code s ls g world st o nz live in
      let w' = grow closed (RegisterOf t q) h in
      let ws : (λ j. slice_index words j) ≡ put (λ j. slice_index g.words j) at (world.count o + 1) = fun_ext (index_put g.words at (world.count o + 1) lt) in
      let w1 : World = record closed { count = put world.count o (world.count o + 1) } in
      let c1 = store (conc_of code g) at (world.count o + 1) in
      let sim1 : Shows x s st.cells st.elements c1 w1 = count_stored x s st.cells st.elements (conc_of code g) closed closed_sim st.apart o (world.count o + 1) live in
      let sim2 = reg_stored x s st.cells st.elements c1 w1 sim1 st.apart t q h in
      let sim3 : Shows x s st.cells st.elements (set_reg c1 t q h.reference) w' = subst (λ p. Shows x s st.cells st.elements (set_reg c1 t q h.reference) (record closed { slots = place world.slots (In (RegisterOf t q)) h; count = put world.count p (world.count p + 1) })) (sym on_w) sim2 in
      let sim4 : Shows x s st.cells st.elements (set_reg (record (conc_of code g) { words = λ j. slice_index words j }) t q h.reference) w' = subst (λ f. Shows x s st.cells st.elements (set_reg (record (conc_of code g) { words = f }) t q h.reference) w') (sym ws) sim3 in
      subst (λ y. State x code s ls y w') (sym done) (filled_state x code s ls wt g world st t may.started may.next.runs i is single d h m' w' words k sets isr refl refl refl refl
      (λ u ne. put_other world.win t u Shut ne) closed_shut
      (stored_words x code s ls g world st at (world.count o + 1) ms lt small (λ i l e. absurd (omega arith)))
      (stored_within x code s ls g world st at (world.count o + 1) ms lt)
      (grow_ok (size_of_run code s) (lang_of x) closed closed_inv (RegisterOf t q) h slot (inside_world x code s ls wt g world st t may.started may.next.runs i is single d isr) empty_d nzw fits eslot
      (λ u r e es. ⊎_elim
      (λ (eu : u ≡ t). let z : Shut ≡ Sole r = sym closed_shut ∙ ap closed.win (sym eu) ∙ e in cc)
      (λ (ne : u ≡ t → ⊥). apart u r (sym (put_other world.win t u Shut ne) ∙ e) es)
      (cases_eq u t))
      (free_shut closed t q closed_shut))
      sim4 tp leads fn gt room (room_of code s g tr may words m' done))

  pub Raise_keeps : (d from : ℕ) → instr_at code (g.threads tr.thread).at.pc ≡ Instr.Raise d from → Turned
  Raise_keeps d from is =
      let i = Instr.Raise d from in
      let f = fine x code s ls wt g world st t may.started may.next.runs i is refl in
      let k = base + d in
      let h0 = world.slots (In (RegisterOf t (base + from))) in
      let m' = goes (set_ref m d (ref m from)) in
      let shut = is_shut x code s ls wt g world st t may.started may.next.runs i is refl f.0 in
      let tops1 = tops i is refl in
      let is_refs = in_world i is refl from in
      let act_is : turn code s m ≡ raise s (ref m from) m' = ap (λ i. Rattle.sharc_code.specs.Machine.act code s i m) is in
      let empty_d : in_ref world (RegisterOf t k) ≡ 0 = subst (EntryStands refs (types_at view base) d) f.1.empty ((tops1 (suc d) 0).env d (omega arith)) in
      let free = free_shut world t k shut in
      let room_ok : (k1 : Label) → k1.room ≡ here.room → k1.room ≡ true → length m.own.held < 16 = λ k1 e q. (runs x code s ls wt g world st t may.started may.next.runs i is refl).room (sym e ∙ q) in
      ⊎_elim
      (λ (z : ref m from ≡ 0).
      let w' = set_slot world (RegisterOf t k) (null h0.ty) in
      let done = local_turn code s g tr may m' (act_is ∙ raise_zero s (ref m from) m' z) in
      let h = null h0.ty in (
        w',
        subst (λ y. State x code s ls y w') (sym done) (filled_state x code s ls wt g world st t may.started may.next.runs i is refl d h m' (set_slot world (RegisterOf t k) (null h0.ty)) g.words (fill here d (here.env from) (here.same from) (here.known from))
            (record { at = refl; refs = ap (slice_set m.refs k) z; ints = refl; frames = refl; own = refl }) f.1.is refl refl refl refl (λ u _. refl) shut (same_words x code s ls g world st) (λ u b j _ _. refl)
            (set_slot_ok (size_of_run code s) (lang_of x) world st.inv (RegisterOf t k) h0.ty (inside_world x code s ls wt g world st t may.started may.next.runs i is refl d f.1.is) empty_d free)
            (reg_stored x s st.cells st.elements (conc_of code g) world st.sim st.apart t k h)
            (copy_top i is refl d from 0 (sym z ∙ is_refs) f.1.empty)
            f.3 refl refl (room_ok (fill here d (here.env from) (here.same from) (here.known from)) refl) (room_of code s g tr may g.words m' done)),
        Silently (filled_silent w' k h refl refl refl refl (λ u _. refl) (never_sole shut)),
      ))
      (λ (nz : ref m from ≡ 0 → ⊥).
      let on_w : h0.reference ≡ ref m from = sym is_refs in
      let w' = grow closed (RegisterOf t k) h0 in (
        w',
        raised_state i is refl d h0 m' (In (RegisterOf t (base + from))) (ref m from) on_w nz (act_is ∙ raise_some s (ref m from) m' nz)
            (record { at = refl; refs = ap (slice_set m.refs k) (sym on_w); ints = refl; frames = refl; own = refl }) f.1.is empty_d (st.inv.words.fits (In (RegisterOf t (base + from)))) refl
            (λ u r e q. let eu : t ≡ u = cc in let z : Shut ≡ Sole r = sym shut ∙ ap world.win eu ∙ e in cc)
            (fill here d (here.env from) (here.same from) (here.known from))
            (copy_top i is refl d from h0.reference refl f.1.empty)
            f.3 refl refl (room_ok (fill here d (here.env from) (here.same from) (here.known from)) refl),
        Silently (filled_silent w' k h0 refl refl refl refl (λ u ne. put_other world.win t u Shut ne) (never_sole shut)),
      ))
      (cases_eq (ref m from) 0)

  -- a reference is given up, where these entries are known
  lowered : (r : ℕ) (is : instr_at code (g.threads tr.thread).at.pc ≡ Instr.Lower r) (e : ℕ → Entry) → here.gate ≡ Closed → IsRef code here r → TopStands x t view base m.at.ints (names (Instr.Lower r) is refl) (record here { env = e })
      → ((q : ℕ) → q ≢ r → EntryMentions (e q) r → ⊥) → Leads ls ((g.threads tr.thread).at.pc + 1) (empty (record here { env = e }) r) → Turned
  lowered r is e closed within top0 free0 leads0 =
      let i = Instr.Lower r in
      let k = base + r in
      let h0 = world.slots (In (RegisterOf t k)) in
      let m' = goes (set_ref m r 0) in
      let shut = is_shut x code s ls wt g world st t may.started may.next.runs i is refl closed in
      let is_refs = in_world i is refl r in
      let act_is : turn code s m ≡ lower s (ref m r) m' = ap (λ i. Rattle.sharc_code.specs.Machine.act code s i m) is in
      let free = free_shut world t k shut in
      let room_ok : (empty (record here { env = e }) r).room ≡ true → length m.own.held < 16 = (runs x code s ls wt g world st t may.started may.next.runs i is refl).room in
      let tp = empty_stands x t view base m.at.ints (names i is refl) (record here { env = e }) r nothing free0 top0 in
      let sets : SetsRef m m' r 0 = record { at = refl; refs = refl; ints = refl; frames = refl; own = refl } in
      ⊎_elim
      (λ (z : ref m r ≡ 0).
      let w' = set_slot world (RegisterOf t k) none in
      let done = local_turn code s g tr may m' (act_is ∙ lower_zero s (ref m r) m' z) in (
        w',
        subst (λ y. State x code s ls y w') (sym done) (filled_state x code s ls wt g world st t may.started may.next.runs i is refl r none m' (set_slot world (RegisterOf t k) none) g.words (empty (record here { env = e }) r)
            sets within refl refl refl refl (λ u _. refl) shut (same_words x code s ls g world st) (λ u b j _ _. refl)
            (set_slot_ok (size_of_run code s) (lang_of x) world st.inv (RegisterOf t k) nothing (inside_world x code s ls wt g world st t may.started may.next.runs i is refl r within) (sym is_refs ∙ z) free)
            (reg_stored x s st.cells st.elements (conc_of code g) world st.sim st.apart t k none)
            tp leads0 refl refl room_ok (room_of code s g tr may g.words m' done)),
        Silently (filled_silent w' k none refl refl refl refl (λ u _. refl) (never_sole shut)),
      ))
      (λ (nz : ref m r ≡ 0 → ⊥).
      let o = ref m r in
      let on_w : h0.reference ≡ o = sym is_refs in
      let nzw : h0.reference ≢ 0 = λ z. nz (sym on_w ∙ z) in
      let fit = st.inv.words.fits (In (RegisterOf t k)) nzw in
      let live : (world.obj o).live ≡ true = subst (λ p. (world.obj p).live ≡ true) on_w fit.live in
      let done0 = asks_turn code s g tr may (lower_of (count_word s o)) (λ found. m') (act_is ∙ lower_some s o m' nz) in
      let kw = count_is s o (st.apart.headers o live) in
      let at = count_at s o in
      let lt = count_inside o live in
      let small = count_small o nz live in
      let low : 1 ≤ world.count o = subst (λ p. 1 ≤ world.count p) on_w (count_pos (size_of_run code s) (lang_of x) world st.inv (In (RegisterOf t k)) nzw) in
      let cnt : world.count o ≡ slice_index g.words at = st.sim.counts o nz live in
      let val : word_after (Sub 1) (slice_index g.words (count_word s o)) ≡ world.count o - 1 =
      let e : slice_index g.words (count_word s o) ≡ world.count o = ap (slice_index g.words) kw ∙ sym cnt in
      ap (word_after (Sub 1)) e ∙ (let q : (world.count o + (2 ^ 64 - 1)) % 2 ^ 64 ≡ world.count o - 1 = omega arith in q) in
      let v = world.count o - 1 in
      let words = slice_set g.words at v in
      let done : after ≡ made_turn g t words m' = done0.0 ∙ ap (λ v. made_turn g t (slice_set g.words (count_word s o) v) m') val ∙ ap (λ k. made_turn g t (slice_set g.words k v) m') kw in
      let ms = count_store x code s ls g world st o nz live in
      let w' = drop world (RegisterOf t k) in
      let ws : (λ j. slice_index words j) ≡ put (λ j. slice_index g.words j) at v = fun_ext (index_put g.words at v lt) in
      let w1 : World = record world { count = put world.count o v } in
      let c1 = store (conc_of code g) at v in
      let sim1 : Shows x s st.cells st.elements c1 w1 = count_stored x s st.cells st.elements (conc_of code g) world st.sim st.apart o v live in
      let sim2 = reg_stored x s st.cells st.elements c1 w1 sim1 st.apart t k none in
      let sim3 : Shows x s st.cells st.elements (set_reg c1 t k 0) w' = subst (λ p. Shows x s st.cells st.elements (set_reg c1 t k 0) (record world { slots = place world.slots (In (RegisterOf t k)) none; count = put world.count p (world.count p - 1) })) (sym on_w) sim2 in
      let sim4 : Shows x s st.cells st.elements (set_reg (record (conc_of code g) { words = λ j. slice_index words j }) t k 0) w' = subst (λ f. Shows x s st.cells st.elements (set_reg (record (conc_of code g) { words = f }) t k 0) w') (sym ws) sim3 in (
        w',
        subst (λ y. State x code s ls y w') (sym done) (filled_state x code s ls wt g world st t may.started may.next.runs i is refl r none m' w' words (empty (record here { env = e }) r) sets within refl refl refl refl (λ u _. refl) shut
            (stored_words x code s ls g world st at v ms lt (omega arith) (λ i l e. absurd (omega arith)))
            (stored_within x code s ls g world st at v ms lt)
            (drop_ok (size_of_run code s) (lang_of x) world st.inv (RegisterOf t k) nzw free)
            sim4 tp leads0 refl refl room_ok (room_of code s g tr may words m' done)),
        Silently (filled_silent w' k none refl refl refl refl (λ u _. refl) (never_sole shut)),
      ))
      (cases_eq (ref m r) 0)

  -- what names a register is forgotten before that is NULL
  tops_forgetting : (r : ℕ) (is : instr_at code (g.threads tr.thread).at.pc ≡ Instr.Lower r) → TopStands x t view base m.at.ints (names (Instr.Lower r) is refl) (forgets here r)
  tops_forgetting r is n k =
      let f = tops (Instr.Lower r) is refl n k in
      record { env = λ q lt. forgets_stands r q (here.env q) (f.env q lt); same = f.same; known = f.known; numbers = f.numbers; passed = f.passed }
    where
      forgets_stands : (r q : ℕ) (e : Entry) → EntryStands (refs_at view base) (types_at view base) q e → EntryStands (refs_at view base) (types_at view base) q (forgotten r e)
      forgets_stands r q (Refers s) h = elim (some_names r s.locks) as (λ b. EntryStands (refs_at view base) (types_at view base) q (cond b Unknown (Refers s))) [ true ↦ tt | false ↦ h ]
      forgets_stands r q _ h = h

  -- a reference is given up
  pub Lower_keeps : (r : ℕ) → instr_at code (g.threads tr.thread).at.pc ≡ Instr.Lower r → Turned
  Lower_keeps r is =
      let i = Instr.Lower r in
      let f = fine x code s ls wt g world st t may.started may.next.runs i is refl in
      ⊎_elim
      (λ (h : IsFree here r × Leads ls ((g.threads tr.thread).at.pc + 1) (empty here r)). lowered r is here.env f.0 f.1 (tops i is refl) h.0.paths h.1)
      (λ h. lowered r is (forgets here r).env f.0 f.1 (tops_forgetting r is) (λ q _. none_named r (here.env q)) h)
      f.2
    where
      names_is : (r : ℕ) (lock : Lock) → Names r lock → (Rattle.sharc_invariant.specs.Labels.names r lock) ≡ true
      names_is r (Through q j) h = ap (λ n. n == r) h ∙ eq_refl r
      names_is r _ h = absurd h

      some_named : (r : ℕ) (locks : List Lock) → SomeNames r locks → some_names r locks ≡ true
      some_named r [] h = absurd h
      some_named r (lock ∷ locks) h = ⊎_elim (λ (k : Names r lock). ap (λ b. b || some_names r locks) (names_is r lock k)) (λ (k : SomeNames r locks). or_second (Rattle.sharc_invariant.specs.Labels.names r lock) (some_names r locks) (some_named r locks k)) h

      none_named : (r : ℕ) (e : Entry) → EntryMentions (forgotten r e) r → ⊥
      none_named r (Refers s) = elim (some_names r s.locks) as (λ b. some_names r s.locks ≡ b → EntryMentions (cond b Unknown (Refers s)) r → ⊥) [
        | true ↦ λ _ h. h
        | false ↦ λ z h. let y = some_named r s.locks h in cc
      ] refl
      none_named r _ = λ h. h
