-- A print keeps the invariant: the count of prints is nobody's word.
use Rattle.sharc_invariant.proofs.{Imports.{◌≡◌, ℕ, ◌+◌, ◌%◌, ◌^◌, ◌<◌, refl, sym, ap, ◌∙◌, subst, arith, length-set, fun_ext, slice_index, slice_set, Add, epoch_of, Code, Shape, Fits, first_cell, prints_word, Machine, instr_at, int, printed, step_of, Turn, Global, put, MayTurn, after_turn, one_thread, bounds, Instr, put_other, put_all, Targets, Labels, IsWellTyped, World, Kept, conc_of, Shows, register_of, made_turn, State, Turned}, TurnAt.turn_at, Listed.store_ok, Quiet.{KeepsOwn, KeepsWords, heap_now, quiet_state, noted_same, conc_plain, put_self}, Turns.{asks_turn, room_of, unseen}, Own.{runs, rests, top, fine, not_begun}, Plain.{register_plain, is_shut, next_runs, keeps_own, others_stay}, Stores.index_put, Heaps.low_stored, Frames.frames_same}

module _ (x : Targets) (code : Code) (s : Shape) (ls : Labels) (wt : IsWellTyped x code ls) (fits : Fits code s) (g : Global Machine) (world : World) (st : State x code s ls g world) (tr : Turn)
    (may : MayTurn bounds (one_thread code s) g tr) where
  open turn_at st tr use {t, m, here, view}

  pub Print_keeps : (r site : ℕ) → instr_at code (g.threads tr.thread).at.pc ≡ Instr.Print r site → Turned x code s ls g world tr
  Print_keeps r site is =
      let i = Instr.Print r site in
      let f = fine x code s ls wt g world st t may.started may.next.runs i is refl in
      let rn = runs x code s ls wt g world st t may.started may.next.runs i is refl in
      let tp = top x code s ls wt g world st t may.started may.next.runs i is refl in
      let rest = rests x code s ls wt g world st t may.started may.next.runs i is refl in
      let shut = is_shut x code s ls wt g world st t may.started may.next.runs i is refl f.0 in
      let found = slice_index g.words 3 in
      let v = (found + 1) % 2 ^ 64 in
      let m' = printed m (int m r) found in
      let words = slice_set g.words 3 v in
      let done0 = asks_turn code s g tr may (step_of prints_word (Add 1)) (printed m (int m r)) (ap (λ i. Rattle.sharc_code.specs.Machine.act code s i m) is) in
      let done : after_turn bounds (one_thread code s) g tr ≡ made_turn g t words m' = done0.0 in
      let at = index_put g.words 3 v done0.1 in
      let small : v < 2 ^ 64 = omega arith in
      let kept0 = store_ok (record { first = 1 + s.globals; words = first_cell s }) st.heap st.heap_stands.kept 3 v (omega arith) (λ p u d e q. absurd (omega arith)) in
      let fe : put st.heap.words 3 v ≡ (λ i. slice_index words i) = fun_ext (λ i. ap (λ (h : ℕ → ℕ). put h 3 v i) (fun_ext st.heap_stands.words) ∙ sym (at i)) in
      let kw : KeepsWords s st.heap g.words words = record {
        count = length-set g.words 3 v;
        low = λ j l ne. at j ∙ put_other (λ i. slice_index g.words i) 3 j v ne;
        are_words = λ j. subst (λ n. n < 2 ^ 64) (sym (at j)) (put_all (λ j y. y < 2 ^ 64) (λ i. slice_index g.words i) 3 v small (λ j _. st.are_words j) j);
        epochs = λ i l. ap epoch_of (at (97 + i) ∙ put_other (λ i. slice_index g.words i) 3 (97 + i) v (λ e. absurd (omega arith)));
        kept = subst (λ h. Kept (record { first = 1 + s.globals; words = first_cell s }) (record st.heap { words = h })) fe kept0;
      } in
      let own : KeepsOwn m m' = keeps_own x code s ls wt g world st t may.started may.next.runs i is refl m' refl refl refl refl (not_begun x code s ls wt g world st t may.started may.next.runs i is refl (m.at.pc + 1) f.1.function) refl in
      let regs : put (λ u. register_of code (g.threads u)) t (register_of code m') ≡ (λ u. register_of code (g.threads u)) =
      fun_ext (put_self (λ u. register_of code (g.threads u)) t (register_of code m') (fun_ext (λ n. register_plain code m' rest n ∙ sym (register_plain code m rest n)))) in
      let sim1 = low_stored x s st.cells st.elements (conc_of code g) world 3 v (omega arith) st.apart st.sim in
      let sim2 : Shows x s st.cells st.elements (record (conc_of code g) { words = λ j. slice_index words j; regs = put (λ u. register_of code (g.threads u)) t (register_of code m') }) world =
      subst (λ r. Shows x s st.cells st.elements (record (conc_of code g) { words = λ j. slice_index words j; regs = r }) world) (sym regs)
      (subst (λ h. Shows x s st.cells st.elements (record (conc_of code g) { words = h }) world) (sym (fun_ext at)) sim1) in
      let sim3 = subst (λ c. Shows x s st.cells st.elements c world) (sym (conc_plain code g t words m' (noted_same m m' refl rest rest own.ended_before own.ended))) sim2 in
      unseen x code s ls g world tr _ done (quiet_state x code s ls g world st t may.started words m' own kw world (record { obj = refl; mutex = refl; args = λ u. refl })
      (others_stay s world st.heap g.words words t (λ u _ b e j n. at j ∙ put_other (λ i. slice_index g.words i) 3 j v (λ q. let lo = n.0 in absurd (omega arith))))
      wt st.inv sim3
      (λ _. next_runs x code s ls wt g world st t may.started may.next.runs i is refl world (heap_now st.heap words) (made_turn g t words m') m' rn.names here rest refl f.0 f.1 tp (frames_same x code ls t view m m' refl refl refl refl here.function rn.below) shut rn.room)
      (λ q. absurd (cc)) (room_of code s g tr may words m' done))
