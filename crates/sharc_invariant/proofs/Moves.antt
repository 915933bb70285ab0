-- A reference goes from one register to another.
use Rattle.sharc_invariant.proofs.{Imports.{◌≡◌, ℕ, zero, suc, ◌+◌, ◌<◌, ◌⊎◌, ◌≢◌, true, false, cond, refl, sym, ap, ◌∙◌, subst, inl, inr, ⊎_elim, arith, nat_tests, length-set, set-set, set-get_or, fun_ext, length, slice_index, slice_set, ◌==◌, test_of, Code, Instr, Shape, Fits, count_word, Machine, Local, instr_at, goes, set_ref, move_ref, test, ref, turn, Turn, Global, put, MayTurn, after_turn, one_thread, bounds, put_same, put_other, Targets, nothing, Mentions, Empty, Refers, Unknown, Closed, Label, Labels, Leads, EntryMentions, fill, empty, IsFree, IsWellTyped, IsRef, IsVacant, refs_in, ints_in, moved_copy, TypedReference, RegisterOf, ArgumentOf, In, Slot, CellOf, World, Shut, Sole, in_ref, none, place, put2, shift, lang_of, conc_of, Shows, register_of, set_reg, Silently, made_turn, State, view_of, EntryStands, TopStands, FramesStand, refs_at, types_at, size_of_run, Turned}, TurnAt.turn_at, Effects.{place_other, shift_ok}, Frames.{filled, FilledStands, fill_stands, empty_stands, type_kept, put_base}, Quiet.{KeepsOwn, heap_now, quiet_state, noted_same, conc_plain}, Turns.{local_turn, asks_turn, room_of}, Own.{is_single, runs, rests, fine, not_begun}, Plain.{resting, register_plain, is_shut, next_runs, same_words, keeps_own}, Seen.reg_stored, Filled.{refs_set, view_filled, below_filled, free_shut, inside, inside_world}, CheckTurns.put_put, Accesses.loaded_words, Scoped.scoped_empty, Steps.{leads as stays}, Others.loses}

module _ (x : Targets) (code : Code) (s : Shape) (ls : Labels) (wt : IsWellTyped x code ls) (fits : Fits code s) (g : Global Machine) (world : World) (st : State x code s ls g world) (tr : Turn)
    (may : MayTurn bounds (one_thread code s) g tr) (i : Instr) (is : instr_at code (g.threads tr.thread).at.pc ≡ i) (single : is_single i ≡ true) (r from : ℕ) (gt : (ls.at (g.threads tr.thread).at.pc).gate ≡ Closed)
    (vacant : IsVacant code (ls.at (g.threads tr.thread).at.pc) r) (isf : IsRef code (ls.at (g.threads tr.thread).at.pc) from) (apart : r ≢ from) (free : IsFree (ls.at (g.threads tr.thread).at.pc) from)
    (self : EntryMentions ((ls.at (g.threads tr.thread).at.pc).env from) from → ⊥)
    (leads : Leads ls ((g.threads tr.thread).at.pc + 1) (fill (empty (ls.at (g.threads tr.thread).at.pc) from) r ((ls.at (g.threads tr.thread).at.pc).env from) (moved_copy (ls.at (g.threads tr.thread).at.pc) r from) ((ls.at (g.threads tr.thread).at.pc).known from))) where
  open turn_at st tr use {t, m, here, base, after, view}
  open resting x code s ls wt g world st tr.thread (may.started, may.next.runs) i is single use {names, tops}

  abbrev kf : ℕ
  kf = (g.threads tr.thread).at.refs + from

  abbrev kr : ℕ
  kr = (g.threads tr.thread).at.refs + r

  reads : ref (g.threads tr.thread) from ≡ in_ref world (RegisterOf tr.thread kf)
  reads = sym (st.sim.regs t kf ∙ register_plain code m (rests x code s ls wt g world st t may.started may.next.runs i is single) kf)

  -- what is moved
  abbrev h : TypedReference
  h = world.slots (In (RegisterOf tr.thread ((g.threads tr.thread).at.refs + from)))

  abbrev m1 : Machine
  m1 = set_ref (g.threads tr.thread) from 0

  abbrev m2 : Machine
  m2 = goes (move_ref (g.threads tr.thread) r from)

  abbrev w1 : World
  w1 = record world { slots = place world.slots (In (RegisterOf tr.thread ((g.threads tr.thread).at.refs + from))) none }

  abbrev w2 : World
  w2 = shift world (RegisterOf tr.thread ((g.threads tr.thread).at.refs + from)) (RegisterOf tr.thread ((g.threads tr.thread).at.refs + r))

  abbrev k' : Label
  k' = fill (empty (ls.at (g.threads tr.thread).at.pc) from) r ((ls.at (g.threads tr.thread).at.pc).env from) (moved_copy (ls.at (g.threads tr.thread).at.pc) r from) ((ls.at (g.threads tr.thread).at.pc).known from)

  empty_r : in_ref world (RegisterOf tr.thread kr) ≡ 0
  empty_r = subst (EntryStands (refs_at view base) (types_at view base) r) vacant.empty ((tops (suc r) 0).env r (omega arith))

  moved_top : TopStands x tr.thread (filled (filled view kf 0 nothing) kr h.reference h.ty) base (g.threads tr.thread).at.ints names k'
  moved_top =
      let v = filled view kf 0 nothing in
      let top1 = empty_stands x t view base m.at.ints names here from nothing free.paths tops in
      let sc0 = wt.scoped m.at.pc in
      let sc = scoped_empty (ints_in code here.function) (refs_in code here.function) here from free.paths sc0 in
      let refs = refs_at view base in
      let entry : FilledStands (refs_at v base) h.reference h.ty (here.env from) = elim (here.env from) as (λ e. (EntryMentions e from → ⊥) → EntryStands refs (types_at view base) from e → FilledStands (refs_at v base) h.reference h.ty e) [
        | Empty ↦ λ _ q. q
        | Unknown ↦ λ _ q. q
        | Refers ty ↦ λ nm q nz. q nz ∙ type_kept refs (refs_at v base) h.reference ty (λ p mp. sym (put_base view.refs base from p 0 (λ e. nm (subst (Mentions ty) e mp))))
      ] self ((tops (suc from) 0).env from (omega arith)) in
      let copy : (moved_copy here r from ≡ r) ⊎ ((moved_copy here r from ≡ r → ⊥) × (refs_at v base (moved_copy here r from) ≡ h.reference)) =
      elim (here.same from == from) as (λ b. (here.same from == from) ≡ b → (cond b r (here.same from) ≡ r) ⊎ ((cond b r (here.same from) ≡ r → ⊥) × (refs_at v base (cond b r (here.same from)) ≡ h.reference))) [
        | true ↦ λ b. inl refl
        | false ↦ λ b.
            let ne : here.same from ≡ from → ⊥ = λ e. let z : (here.same from == from) ≡ true = ap (λ n. n == from) e ∙ same_self from in cc in
            inr (
              ⊎_elim (λ (q : here.same from ≡ from). absurd (ne q)) (λ (q : here.env (here.same from) ≢ Empty). λ (z : here.same from ≡ r). q (ap here.env z ∙ vacant.empty)) (sc0.copies from),
              put_base view.refs base from (here.same from) 0 ne ∙ (tops (suc from) 0).same from (omega arith),
            )
      ] refl in
      fill_stands x t v base m.at.ints names (empty here from) (ints_in code here.function) (refs_in code here.function) r h.reference h.ty (here.env from) (moved_copy here r from) (here.known from)
      sc (put_other here.env from r Empty apart ∙ vacant.empty) (λ q. sc0.paths from r q vacant.empty) entry copy ((tops (suc from) 0).known from (omega arith)) top1
    where
      same_self : (n : ℕ) → (n == n) ≡ true
      same_self n = grind (arith, nat_tests)

  pub moved_state : after ≡ made_turn g tr.thread g.words m2 → Turned x code s ls g world tr
  moved_state done =
      let rest = rests x code s ls wt g world st t may.started may.next.runs i is single in
      let rn = runs x code s ls wt g world st t may.started may.next.runs i is single in
      let shut = is_shut x code s ls wt g world st t may.started may.next.runs i is single gt in
      let lt_f = inside x code s ls wt g world st t may.started may.next.runs i is single from isf in
      let lt_r = inside x code s ls wt g world st t may.started may.next.runs i is single r vacant.is in
      let lt_r1 : kr < length m1.refs = subst (λ n. kr < n) (sym (length-set m.refs kf 0)) lt_r in
      let own : KeepsOwn m m2 = keeps_own x code s ls wt g world st t may.started may.next.runs i is single m2 refl (length-set m1.refs kr (ref m from) ∙ length-set m.refs kf 0) refl refl (not_begun x code s ls wt g world st t may.started may.next.runs i is single (m.at.pc + 1) leads.function) refl in
      let R : ℕ → ℕ → ℕ = λ u. register_of code (g.threads u) in
      let a1 : register_of code m1 ≡ put (R t) kf 0 = fun_ext (refs_set code m m1 kf 0 rest rest refl lt_f) in
      let a2 : register_of code m2 ≡ put (put (R t) kf 0) kr h.reference = fun_ext (refs_set code m1 m2 kr (ref m from) rest rest refl lt_r1) ∙ ap (λ f. put f kr (ref m from)) a1 ∙ ap (put (put (R t) kf 0) kr) reads in
      let regs : put R t (register_of code m2) ≡ put2 (put2 R t kf 0) t kr h.reference =
      ap (put R t) a2 ∙ ap (λ f. put R t (put f kr h.reference)) (sym (put_same R t (put (R t) kf 0))) ∙ sym (put_put R t (put (R t) kf 0) (put (put2 R t kf 0 t) kr h.reference)) in
      let c0 = conc_of code g in
      let sim1 = reg_stored x s st.cells st.elements c0 world st.sim st.apart t kf none in
      let sim2 : Shows x s st.cells st.elements (set_reg (set_reg c0 t kf 0) t kr h.reference) w2 = reg_stored x s st.cells st.elements (set_reg c0 t kf 0) w1 sim1 st.apart t kr h in
      let sim3 : Shows x s st.cells st.elements (record c0 { words = λ j. slice_index g.words j; regs = put R t (register_of code m2) }) w2 = subst (λ f. Shows x s st.cells st.elements (record c0 { words = λ j. slice_index g.words j; regs = f }) w2) (sym regs) sim2 in
      let sim4 = subst (λ c. Shows x s st.cells st.elements c w2) (sym (conc_plain code g t g.words m2 (noted_same m m2 refl rest rest own.ended_before own.ended))) sim3 in
      let v : view_of st.elements w2 t m2 ≡ filled (filled view kf 0 nothing) kr h.reference h.ty =
      view_filled st.elements w1 w2 t kr h m1 m2 (λ _. refl) refl refl ∙ ap (λ v. filled v kr h.reference h.ty) (view_filled st.elements world w1 t kf none m m1 (λ _. refl) refl refl) in
      let away : (q : Slot) → (q ≡ In (RegisterOf t kf) → ⊥) → (q ≡ In (RegisterOf t kr) → ⊥) → w2.slots q ≡ world.slots q = λ q nf nr. place_other w1.slots (In (RegisterOf t kr)) q h nr ∙ place_other world.slots (In (RegisterOf t kf)) q none nf in
      let below1 = below_filled x code ls t view m m from 0 nothing refl refl refl refl here.function rn.below in
      let below2 = below_filled x code ls t (filled view kf 0 nothing) m m2 r h.reference h.ty refl refl refl refl here.function below1 in
      let few = room_of code s g tr may g.words m2 done in (
        w2,
        subst (λ y. State x code s ls y w2) (sym done) (quiet_state x code s ls g world st t may.started g.words m2 own (same_words x code s ls g world st) w2
            (record { obj = refl; mutex = refl; args = λ u. away (In (ArgumentOf u)) (λ e. cc) (λ e. cc) })
            (record {
              regs = λ u ne q. away (In (RegisterOf u q)) (λ e. ne (cc)) (λ e. ne (cc));
              win = λ u _. refl;
              passed = λ u _ o p b _ z. z;
              sole = λ u _ q _ p. loses refl;
              cells = λ u _ q _ n. ap (λ (y : TypedReference). y.reference) (away (CellOf (in_ref world (RegisterOf u q)) n) (λ e. cc) (λ e. cc));
              built = λ u _ b e. (e, refl);
              within = λ u _ b e j n. refl;
            })
            wt (shift_ok (size_of_run code s) (lang_of x) world st.inv (RegisterOf t kf) (RegisterOf t kr) (λ e. apart (let q : kr ≡ kf = cc in omega arith))
            (inside_world x code s ls wt g world st t may.started may.next.runs i is single from isf) (inside_world x code s ls wt g world st t may.started may.next.runs i is single r vacant.is) empty_r (λ _ _. refl) (free_shut world t kf shut) (free_shut world t kr shut))
            sim4
            (λ _. next_runs x code s ls wt g world st t may.started may.next.runs i is single w2 (heap_now st.heap g.words) (made_turn g t g.words m2) m2 names k' rest refl refl leads
            (subst (λ v. TopStands x t v base m.at.ints names k') (sym v) moved_top)
            (subst (λ v. FramesStand x code ls t v m2 here.function) (sym v) below2)
            shut rn.room)
            (λ q. absurd (cc)) few),
        Silently (record {
          obj = refl;
          mutex = refl;
          passed = λ o p u b q. q;
          sole = λ u q e. let ne : u ≡ t → ⊥ = λ z. let y : Shut ≡ Sole q = sym shut ∙ ap world.win (sym z) ∙ e in cc in (e, ap (λ (y : TypedReference). y.reference) (away (In (RegisterOf u q)) (λ z. ne (cc)) (λ z. ne (cc))));
        }),
      )

-- from a register to itself nothing goes
move_same : (m : Machine) (r : ℕ) → move_ref m r r ≡ m
move_same m r = ap (λ refs. record m { refs = refs }) (set-set m.refs (m.at.refs + r) 0 (ref m r) ∙ set-get_or m.refs (m.at.refs + r) 0)

module _ (x : Targets) (code : Code) (s : Shape) (ls : Labels) (wt : IsWellTyped x code ls) (fits : Fits code s) (g : Global Machine) (world : World) (st : State x code s ls g world) (tr : Turn)
    (may : MayTurn bounds (one_thread code s) g tr) where
  open turn_at st tr use {m as mm}

  pub Move_reference_keeps : (r from : ℕ) → instr_at code (g.threads tr.thread).at.pc ≡ Instr.MoveReference r from → Turned x code s ls g world tr
  Move_reference_keeps r from is =
      let i = Instr.MoveReference r from in
      let f = fine x code s ls wt g world st tr.thread may.started may.next.runs i is refl in
      let e : turn code s (g.threads tr.thread) ≡ Local (goes (move_ref mm r from)) = ap (λ i. Rattle.sharc_code.specs.Machine.act code s i mm) is in
      ⊎_elim
      (λ (h : (r ≡ from) × Leads ls (mm.at.pc + 1) (ls.at mm.at.pc)). stays x code s ls wt g world st tr may i is refl (mm.at.pc + 1) (e ∙ ap (λ q. Local (goes (move_ref mm r q))) (sym h.0) ∙ ap (λ m. Local (goes m)) (move_same mm r)) f.0 h.1)
      (λ h. moved_state x code s ls wt fits g world st tr may i is refl r from f.0 h.0 h.1 h.2 h.3 h.4 h.5 (local_turn code s g tr may (goes (move_ref mm r from)) e))
      f.1

  pub Take_local_keeps : (r from site : ℕ) → instr_at code (g.threads tr.thread).at.pc ≡ Instr.TakeLocal r from site → Turned x code s ls g world tr
  Take_local_keeps r from site is =
      let i = Instr.TakeLocal r from site in
      let f = fine x code s ls wt g world st tr.thread may.started may.next.runs i is refl in
      let m' = goes (move_ref mm r from) in
      by_count (ref mm from) m' (ap (λ i. Rattle.sharc_code.specs.Machine.act code s i mm) is)
      (λ e. moved_state x code s ls wt fits g world st tr may i is refl r from f.0 f.1 f.2 f.3 f.4 f.5 f.6 e)
      (λ k e. loaded_words x code s ls wt fits g world st tr may i is refl k m' e)
    where
      by_count : (n : ℕ) (m' : Machine) → turn code s (g.threads tr.thread) ≡ test s n m' → (after_turn bounds (one_thread code s) g tr ≡ made_turn g tr.thread g.words m' → Turned x code s ls g world tr)
          → ((k : ℕ) → after_turn bounds (one_thread code s) g tr ≡ made_turn g tr.thread (slice_set g.words k (slice_index g.words k)) m' → after_turn bounds (one_thread code s) g tr ≡ made_turn g tr.thread g.words m') → Turned x code s ls g world tr
      by_count zero m' e k w = k (local_turn code s g tr may m' e)
      by_count (suc n) m' e k w = k (w (count_word s (suc n)) (asks_turn code s g tr may (test_of (count_word s (suc n))) (λ found. m') e).0)
