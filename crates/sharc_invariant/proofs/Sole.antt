-- A thread finds that it has the only reference to an object; and a register comes to hold NULL.
use Rattle.sharc_invariant.proofs.{Imports.{◌≡◌, ℕ, suc, ◌+◌, ◌⊎◌, ◌≢◌, true, false, cond, refl, sym, ap, ◌∙◌, subst, inl, inr, ⊎_elim, arith, eqb-true, fun_ext, slice_index, ◌==◌, test_of, Code, Shape, NotSole, Fits, count_word, Machine, instr_at, goes, set_ref, stopped, tested, ref, Turn, Global, MayTurn, one_thread, bounds, Instr, put_same, Targets, Gate, Closed, SoleGate, Labels, LessGate, without_base, IsWellTyped, World, Window, Shut, Sole, WinOk, RegisterOf, In, in_ref, set_win, set_slot, null, lang_of, conc_of, Silently, made_turn, State, TopStands, EntryStands, GateStands, IsSmall, refs_at, types_at, size_of_run, Turned}, TurnAt.turn_at, Effects.set_slot_ok, Frames.{filled, kept_pass, frames_same}, Quiet.put_self, Turns.{asks_turn, local_turn, room_of, unseen}, Own.{runs, rests, top, fine}, Plain.{register_plain, is_shut, stop_state, same_words}, Seen.reg_stored, Filled.{filled_state, inside_world, free_shut}, Counts.{count_is, filled_silent}, Accesses.{windowed_state, loaded_words, silent_window}}

sole_gate : (r : ℕ) (y : Gate) → LessGate (SoleGate r false) y → (y ≡ Closed) ⊎ (y ≡ SoleGate r false)
sole_gate r Closed h = inl refl
sole_gate r _ h = inr h

module _ (x : Targets) (code : Code) (s : Shape) (ls : Labels) (wt : IsWellTyped x code ls) (fits : Fits code s) (few : IsSmall code s) (g : Global Machine) (world : World) (st : State x code s ls g world) (tr : Turn)
    (may : MayTurn bounds (one_thread code s) g tr) where
  open turn_at st tr use {t, m, here, base, view, after}

  pub Test_sole_keeps : (r site : ℕ) → instr_at code (g.threads tr.thread).at.pc ≡ Instr.TestSole r site → Turned x code s ls g world tr
  Test_sole_keeps r site is =
      let i = Instr.TestSole r site in
      let f = fine x code s ls wt g world st t may.started may.next.runs i is refl in
      let rn = runs x code s ls wt g world st t may.started may.next.runs i is refl in
      let tp = top x code s ls wt g world st t may.started may.next.runs i is refl in
      let shut = is_shut x code s ls wt g world st t may.started may.next.runs i is refl f.0 in
      let reads : ref m r ≡ in_ref world (RegisterOf t (base + r)) = sym (st.sim.regs t (base + r) ∙ register_plain code m (rests x code s ls wt g world st t may.started may.next.runs i is refl) (base + r)) in
      let nz : in_ref world (RegisterOf t (base + r)) ≢ 0 = (tp (suc r) 0).known r (omega arith) f.2 in
      let nzm : ref m r ≢ 0 = λ z. nz (sym reads ∙ z) in
      let fit = st.inv.words.fits (In (RegisterOf t (base + r))) nz in
      let live : (world.obj (ref m r)).live ≡ true = subst (λ o. (world.obj o).live ≡ true) (sym reads) fit.live in
      let k = count_word s (ref m r) in
      let found = slice_index g.words k in
      let count : world.count (ref m r) ≡ found = st.sim.counts (ref m r) nzm live ∙ ap (slice_index g.words) (sym (count_is s (ref m r) (st.apart.headers (ref m r) live))) in
      let done0 = asks_turn code s g tr may (test_of k) (tested m site) (ap (λ i. Rattle.sharc_code.specs.Machine.act code s i m) is) in
      let never : (q : ℕ) → world.win t ≡ Sole q → ⊥ = λ q e. let z : Shut ≡ Sole q = sym shut ∙ e in cc in
      let new = (ls.at (m.at.pc + 1)).gate in
      let k' = record here { gate = SoleGate r false; passed = without_base r here.passed } in
      let tp' : TopStands x t view base m.at.ints rn.names k' = λ a b. let h = tp a b in record { env = h.env; same = h.same; known = h.known; numbers = h.numbers; passed = λ p w. h.passed p (kept_pass r here.passed p w).0 } in
      elim (found == 1) as (λ b. (found == 1) ≡ b → after ≡ made_turn g t g.words (cond b (goes m) (stopped m (NotSole site found))) → Turned x code s ls g world tr) [
        | true ↦ λ b e.
            let one' : found ≡ 1 = eqb-true found 1 b in
            let sole_ok : WinOk (lang_of x) world t (Sole (base + r)) = (nz, ap world.count (sym reads) ∙ count ∙ one') in
            let with_win : (win : Window) → WinOk (lang_of x) world t win → GateStands s (set_win world t win) t (goes m) new → Turned x code s ls g world tr = λ win ok gt. (
              set_win world t win,
              windowed_state x code s ls wt fits g world st tr may i is refl (goes m) win g.words k' (record { at = refl; refs = refl; ints = refl; frames = refl; own = refl }) e
                  (same_words x code s ls g world st) (λ u b j _ _. refl) ok st.sim tp' (frames_same x code ls t view m (goes m) refl refl refl refl here.function rn.below) f.3 refl gt refl,
              Silently (silent_window x code s ls wt fits g world st tr may i is refl win never),
            ) in
            ⊎_elim
            (λ (q : new ≡ Closed). with_win Shut tt (subst (GateStands s (set_win world t Shut) t (goes m)) (sym q) (put_same world.win t Shut)))
            (λ (q : new ≡ SoleGate r false). with_win (Sole (base + r)) sole_ok (subst (GateStands s (set_win world t (Sole (base + r))) t (goes m)) (sym q) (put_same world.win t (Sole (base + r)))))
            (sole_gate r new f.3.gate)
        | false ↦ λ b e.
            let why = NotSole site found in
            unseen x code s ls g world tr _ e (stop_state x code s ls wt g world st t may.started may.next.runs i is refl why shut (room_of code s g tr may g.words (stopped m why) e))
      ] refl (loaded_words x code s ls wt fits g world st tr may i is refl k (tested m site found) done0.0)

  -- a register that held NULL holds it on
  pub Null_keeps : (r : ℕ) → instr_at code (g.threads tr.thread).at.pc ≡ Instr.Null r → Turned x code s ls g world tr
  Null_keeps r is =
      let i = Instr.Null r in
      let f = fine x code s ls wt g world st t may.started may.next.runs i is refl in
      let rn = runs x code s ls wt g world st t may.started may.next.runs i is refl in
      let tp = top x code s ls wt g world st t may.started may.next.runs i is refl in
      let shut = is_shut x code s ls wt g world st t may.started may.next.runs i is refl f.0 in
      let k = base + r in
      let empty_r : in_ref world (RegisterOf t k) ≡ 0 = subst (EntryStands (refs_at view base) (types_at view base) r) f.1.empty ((tp (suc r) 0).env r (omega arith)) in
      let ty = (world.slots (In (RegisterOf t k))).ty in
      let m' = goes (set_ref m r 0) in
      let w' = set_slot world (RegisterOf t k) (null ty) in
      let done = local_turn code s g tr may m' (ap (λ i. Rattle.sharc_code.specs.Machine.act code s i m) is) in
      let same : filled view k 0 ty ≡ view = let a = fun_ext (put_self view.refs k 0 (sym empty_r)) in let b = fun_ext (put_self view.types k ty refl) in λ i. record view { refs = a i; types = b i } in (
        w',
        subst (λ y. State x code s ls y w') (sym done) (filled_state x code s ls wt g world st t may.started may.next.runs i is refl r (null ty) m' w' g.words here
            (record { at = refl; refs = refl; ints = refl; frames = refl; own = refl }) f.1.is refl refl refl refl (λ u _. refl) shut (same_words x code s ls g world st) (λ u b j _ _. refl)
            (set_slot_ok (size_of_run code s) (lang_of x) world st.inv (RegisterOf t k) ty (inside_world x code s ls wt g world st t may.started may.next.runs i is refl r f.1.is) empty_r (free_shut world t k shut))
            (reg_stored x s st.cells st.elements (conc_of code g) world st.sim st.apart t k (null ty))
            (subst (λ v. TopStands x t v base m.at.ints rn.names here) (sym same) tp) f.2 refl f.0 rn.room (room_of code s g tr may g.words m' done)),
        Silently (filled_silent x code s ls wt few g world st tr may w' k (null ty) refl refl refl refl (λ u _. refl) (λ q e. let z : Shut ≡ Sole q = sym shut ∙ e in cc)),
      )
