-- A reference that was loaded from a cell is raised.
use Rattle.sharc_invariant.proofs.{Imports.{◌≡◌, ℕ, suc, ◌+◌, Bool, false, refl, sym, ap, ◌∙◌, subst, inl, ⊎_elim, arith, cases_eq, slice_set, Code, Cell, Shape, Fits, Machine, instr_at, goes, accessed, set_ref, ref, raise, turn, Turn, Global, MayTurn, one_thread, bounds, Instr, put_other, Targets, type_at, type_of, Refers, Labels, fill, IsWellTyped, refs_in, ints_in, Laws, TypedReference, RegisterOf, In, CellOf, World, Shut, IsLoaded as Loaded, Sole, WinOk, Right, CanBy, base_of, in_ref, null, set_win, set_slot, grow, FitsType, lang_of, conc_of, Silently, IsThere, State, TopStands, EntryStands, GateStands, IsSmall, refs_at, types_at, size_of_run, base_of_cell, object_of_cell, number_in, Turned}, TurnAt.turn_at, Effects.{set_slot_ok, cell_fits}, Frames.{filled, fill_stands}, Turns.{local_turn, room_of}, Own.{runs, rests, top, gate, fine}, Plain.{register_plain, same_words}, Seen.reg_stored, Filled.{filled_state, inside_world, free_shut}, Counts.{raise_zero, raise_some, raised_state, filled_silent, closed_inv, closed_shut, closed_sim}, Cells.cell_there, Rights.points_to}

-- the table of targets has the laws that the world asks for
pub lang_laws : (x : Targets) (code : Code) (ls : Labels) → IsWellTyped x code ls → Laws (lang_of x)
lang_laws x code ls wt = record { whole = wt.targets.whole; private_cells = wt.targets.private_cells; behind = wt.targets.behind }

module _ (x : Targets) (code : Code) (s : Shape) (ls : Labels) (wt : IsWellTyped x code ls) (fits : Fits code s) (few : IsSmall code s) (g : Global Machine) (world : World) (st : State x code s ls g world) (tr : Turn)
    (may : MayTurn bounds (one_thread code s) g tr) where
  open turn_at st tr use {t, m, here, base, view}

  -- what a thread may read from a cell fits it
  pub read_fits : (k : Bool) (c : Cell) (f : _) → IsThere x s st.cells world tr.thread (g.threads tr.thread) c f → Right (lang_of x) world tr.thread k (base_of_cell (g.threads tr.thread) c) (number_in (g.threads tr.thread) c)
      → (v : ℕ) → (world.slots (CellOf (object_of_cell (g.threads tr.thread) c) (number_in (g.threads tr.thread) c))).reference ≡ v
      → FitsType (lang_of x) world.obj tr.thread (record { ty = type_at x (world.obj (object_of_cell (g.threads tr.thread) c)).ty (object_of_cell (g.threads tr.thread) c) (number_in (g.threads tr.thread) c); reference = v })
  read_fits k c f th right v e =
      let o = object_of_cell m c in
      let j = number_in m c in
      let b = base_of_cell m c in
      let a = cell_fits (size_of_run code s) (lang_of x) world st.inv (lang_laws x code ls wt) t b j right.based (λ q. subst (CanBy (lang_of x) world t k (base_of world t b) j) q right.can) in
      let a1 : FitsType (lang_of x) world.obj t (world.slots (CellOf o j)) = subst (λ o. FitsType (lang_of x) world.obj t (world.slots (CellOf o j))) th.base a in
      let ty = st.inv.words.cells o j th.live in
      let h : world.slots (CellOf o j) ≡ record { ty = type_at x (world.obj o).ty o j; reference = v } = λ i. record { ty = ty i; reference = e i } in
      subst (FitsType (lang_of x) world.obj t) h a1

  pub Raise_loaded_keeps : (r : ℕ) → instr_at code (g.threads tr.thread).at.pc ≡ Instr.RaiseLoaded r → Turned x code s ls g world tr
  Raise_loaded_keeps r is =
      let i = Instr.RaiseLoaded r in
      let f = fine x code s ls wt g world st t may.started may.next.runs i is refl in
      let c = f.1.0 in
      let ty = f.1.2 in
      let o = object_of_cell m c in
      let j = number_in m c in
      let v = m.pending in
      let k = base + r in
      let rn = runs x code s ls wt g world st t may.started may.next.runs i is refl in
      let tp = top x code s ls wt g world st t may.started may.next.runs i is refl in
      let reads : (q : ℕ) → ref m q ≡ in_ref world (RegisterOf t (base + q)) = λ q. sym (st.sim.regs t (base + q) ∙ register_plain code m (rests x code s ls wt g world st t may.started may.next.runs i is refl) (base + q)) in
      let gt = gate x code s ls wt g world st t may.started may.next.runs i is refl in
      let win : world.win t ≡ Loaded (base_of_cell m c) j v = subst (GateStands s world t m) f.1.3 gt in
      let ok : WinOk (lang_of x) world t (Loaded (base_of_cell m c) j v) = subst (WinOk (lang_of x) world t) win (st.inv.wins t) in
      let th = cell_there x code s ls wt fits g world st t m rn.names here tp reads c f.1.1 f.1.4 in
      let slot_is : (world.slots (CellOf o j)).reference ≡ v = ap (λ o. (world.slots (CellOf o j)).reference) (sym th.base) ∙ ok.1 in
      let h : TypedReference = record { ty = type_at x (world.obj o).ty o j; reference = v } in
      let fit : FitsType (lang_of x) world.obj t h = read_fits false c f.1.1 th ok.0 v slot_is in
      let never : (q : ℕ) → world.win t ≡ Sole q → ⊥ = λ q e. let z : Loaded (base_of_cell m c) j v ≡ Sole q = sym win ∙ e in cc in
      let k' = fill here r (Refers ty) r false in
      let m' = goes (accessed (set_ref m r v)) in
      let act_is : turn code s m ≡ raise s v m' = ap (λ i. Rattle.sharc_code.specs.Machine.act code s i m) is in
      let empty_d : in_ref world (RegisterOf t k) ≡ 0 = subst (EntryStands (refs_at view base) (types_at view base) r) f.0.empty ((tp (suc r) 0).env r (omega arith)) in
      let pointed = points_to x code s ls wt fits g world st t (st.begins.few t may.started) rn.names here tp reads rn.below gt c f.1.1 ty v f.1.4 f.1.5 in
      let filled_top : (n : ℕ) → n ≡ v → TopStands x t (filled view k n h.ty) base m.at.ints rn.names k' = λ n e.
      fill_stands x t view base m.at.ints rn.names here (ints_in code here.function) (refs_in code here.function) r n h.ty (Refers ty) r false (wt.scoped m.at.pc) f.0.empty f.1.6 (λ _. pointed ∙ ap (λ v. type_of (refs_at view base) v ty) (sym e)) (inl refl) (λ z. absurd (cc)) tp in
      ⊎_elim
      (λ (z : v ≡ 0).
      let closed = set_win world t Shut in
      let w' = set_slot closed (RegisterOf t k) (null h.ty) in
      let done = local_turn code s g tr may m' (act_is ∙ raise_zero s v m' z) in
      let shut = closed_shut x code s ls wt few g world st tr may in (
        w',
        subst (λ y. State x code s ls y w') (sym done) (filled_state x code s ls wt g world st t may.started may.next.runs i is refl r (null h.ty) m' w' g.words k'
            (record { at = refl; refs = ap (slice_set m.refs k) z; ints = refl; frames = refl; own = refl }) f.0.is refl refl refl refl (λ u ne. put_other world.win t u Shut ne) shut (same_words x code s ls g world st) (λ u b j _ _. refl)
            (set_slot_ok (size_of_run code s) (lang_of x) closed (closed_inv x code s ls wt few g world st tr may) (RegisterOf t k) h.ty (inside_world x code s ls wt g world st t may.started may.next.runs i is refl r f.0.is) empty_d (free_shut closed t k shut))
            (reg_stored x s st.cells st.elements (conc_of code g) closed (closed_sim x code s ls wt few g world st tr may) st.apart t k (null h.ty))
            (filled_top 0 (sym z)) f.1.7 refl refl rn.room (room_of code s g tr may g.words m' done)),
        Silently (filled_silent x code s ls wt few g world st tr may w' k (null h.ty) refl refl refl refl (λ u ne. put_other world.win t u Shut ne) never),
      ))
      (λ (nz : v ≡ 0 → ⊥).
      let w' = grow (set_win world t Shut) (RegisterOf t k) h in (
        w',
        raised_state x code s ls wt few g world st tr may i is refl r h m' (CellOf o j) v refl nz (act_is ∙ raise_some s v m' nz)
            (record { at = refl; refs = refl; ints = refl; frames = refl; own = refl }) f.0.is empty_d fit slot_is (λ u q e es. let z : CellOf o j ≡ In (RegisterOf u q) = es in cc)
            k' (filled_top v refl) f.1.7 refl refl rn.room,
        Silently (filled_silent x code s ls wt few g world st tr may w' k h refl refl refl refl (λ u ne. put_other world.win t u Shut ne) never),
      ))
      (cases_eq v 0)
