-- A cell and a register exchange what they refer to.
use Rattle.sharc_invariant.proofs.{Imports.{◌≡◌, ℕ, suc, ◌+◌, ◌/◌, ◌^◌, ◌<◌, ◌≢◌, Bool, true, false, refl, sym, ap, ◌∙◌, subst, inl, ⊎_elim, arith, cases_eq, fun_ext, length, slice_index, slice_set, Swap, Code, Cell, Instr, Shape, Fits, Machine, Asks, step_of, instr_at, goes, accessed, set_ref, ref, word, turn, Turn, Global, put, MayTurn, one_thread, bounds, put_same, put_other, Targets, ObjectType, Field, StaticType, type_at, type_of, mode_at, field_in, is_pointer, Mentions, CellMode, Private, Dynamic, Locked, Sibling, Behind, Entry, Empty, Refers, Unknown, Closed, Label, Labels, Leads, LessEntry, fill, empty, IsWellTyped, IsRef, PointsTo, IsAccess, refs_in, ints_in, TypeRules, TypedReference, Holder, RegisterOf, In, Slot, CellOf, World, Shut, Sole, Base, By, Based, Right, CanBy, Inside, WorldInvariant, base_of, in_ref, place, set_win, set_slot, swap, lang_of, conc_of, Shows, cell_at, store, set_reg, made_turn, IsThere, State, view_of, TopStands, EntryStands, GateStands, refs_at, types_at, size_of_run, base_of_cell, object_of_cell, number_in, Turned}, TurnAt.turn_at, Effects.{place_same, place_other, place_all, set_slot_ok, set_win_ok, exchange_ok, sole_at, base_other}, Frames.{filled, fill_stands, empty_stands, type_kept, same_type, put_base}, Turns.{asks_turn, room_of}, Own.{is_single, runs, top, gate, fine}, Plain.{resting}, Stores.{index_put, cell_store, stored_words, stored_within}, Seen.{cell_stored, reg_stored}, Filled.{filled_slots, inside_world, free_shut}, Cells.cell_there, CheckTurns.{sim_win, put_put}, Rights.{right, points_to}, Accesses.gate_alone, Scoped.scoped_empty, Loads.lang_laws}
use Rattle.sharc_invariant.specs.{World.{Global as OfGlobals}, Effect.Accesses}

-- a right counts references, and not their types
base_refs : (w v : World) (t : ℕ) (b : Base) → ((q : Slot) → (v.slots q).reference ≡ (w.slots q).reference) → base_of v t b ≡ base_of w t b
base_refs w v t (By r) e = e (In (RegisterOf t r))
base_refs w v t (OfGlobals n) e = refl

based_refs : (w v : World) (t : ℕ) (b : Base) → ((q : Slot) → (v.slots q).reference ≡ (w.slots q).reference) → v.obj ≡ w.obj → Based w t b → Based v t b
based_refs w v t (By r) e eo h = λ z. h (sym (e (In (RegisterOf t r))) ∙ z)
based_refs w v t (OfGlobals n) e eo h = (ap (λ (f : ℕ → _). (f n).live) eo ∙ h.0, ap (λ (f : ℕ → _). (f n).global) eo ∙ h.1)

can_refs : (l : TypeRules) (w v : World) (t : ℕ) (k : Bool) (o i : ℕ) (m : CellMode) → ((q : Slot) → (v.slots q).reference ≡ (w.slots q).reference) → v.obj ≡ w.obj → v.gran ≡ w.gran → v.mutex ≡ w.mutex → CanBy l w t k o i m → CanBy l v t k o i m
can_refs l w v t k o i Private e eo eg em h = ap (λ (f : ℕ → _). (f o).owner) eo ∙ h
can_refs l w v t k o i Dynamic e eo eg em h = subst (λ (f : ℕ → ℕ → _). Rattle.sharc_invariant.specs.Granules.Passed (f o (l.granule i)) t k) (sym eg) h
can_refs l w v t k o i (Locked p j) e eo eg em h = ap (λ (f : ℕ → ℕ → ℕ). f p j) em ∙ h
can_refs l w v t k o i (Sibling j) e eo eg em h = ap (λ (f : ℕ → ℕ → ℕ). f o j) em ∙ h
can_refs l w v t k o i (Behind j) e eo eg em h = ap (λ (f : ℕ → ℕ → ℕ). f (v.slots (CellOf o j)).reference 0) em ∙ ap (λ p. w.mutex p 0) (e (CellOf o j)) ∙ h
can_refs l w v t k o i _ e eo eg em h = h

module _ (x : Targets) (code : Code) (s : Shape) (ls : Labels) (wt : IsWellTyped x code ls) (fits : Fits code s) (g : Global Machine) (world : World) (st : State x code s ls g world) (tr : Turn)
    (may : MayTurn bounds (one_thread code s) g tr) (i : Instr) (is : instr_at code (g.threads tr.thread).at.pc ≡ i) (single : is_single i ≡ true)
    (r : ℕ) (c : Cell) (site : ℕ) (f : Field) (ty : StaticType) (isr : IsRef code (ls.at (g.threads tr.thread).at.pc) r) (access : IsAccess x code ls (ls.at (g.threads tr.thread).at.pc) true c site f)
    (pt : PointsTo (ls.at (g.threads tr.thread).at.pc) c f ty) where
  open turn_at st tr use {t, m, here, base, after, view}
  open resting x code s ls wt g world st tr.thread (may.started, may.next.runs) i is single use {names, tops, reads}

  abbrev o : ℕ
  o = object_of_cell (g.threads tr.thread) c

  abbrev j : ℕ
  j = number_in (g.threads tr.thread) c

  -- the type of what the cell refers to
  abbrev T : ObjectType
  T = type_at x (world.obj (object_of_cell (g.threads tr.thread) c)).ty (object_of_cell (g.threads tr.thread) c) (number_in (g.threads tr.thread) c)

  abbrev a : Holder
  a = RegisterOf tr.thread ((g.threads tr.thread).at.refs + r)

  abbrev found : ℕ
  found = slice_index g.words (word s (g.threads tr.thread) c)

  th : IsThere x s st.cells world tr.thread (g.threads tr.thread) c f
  th = cell_there x code s ls wt fits g world st t m names here tops reads c f access.cell

  gate_now : GateStands s world tr.thread (g.threads tr.thread) here.gate
  gate_now = gate x code s ls wt g world st t may.started may.next.runs i is single

  rt : Right (lang_of x) world tr.thread true (base_of_cell (g.threads tr.thread) c) j
  rt = right x code s ls wt fits g world st t (st.begins.few t may.started) names here tops reads ((runs x code s ls wt g world st t may.started may.next.runs i is single).below) gate_now true c f access.cell access.may

  pointed : (n : ℕ) → T ≡ type_of (refs_at view base) n ty
  pointed n = points_to x code s ls wt fits g world st t (st.begins.few t may.started) names here tops reads ((runs x code s ls wt g world st t may.started may.next.runs i is single).below) gate_now c f ty n access.cell pt

  ptr : is_pointer (field_in x (world.obj o).ty j).holds ≡ true
  ptr = ap (λ (f : Field). is_pointer f.holds) th.field ∙ ap is_pointer pt.holds

  alone : (q : ℕ) → world.win tr.thread ≡ Sole q → ⊥
  alone = gate_alone s world t m here.gate access.apart gate_now

  not_alone : (u q : ℕ) → u ≢ tr.thread → world.win u ≡ Sole q → in_ref world (RegisterOf u q) ≡ o → ⊥
  not_alone u q ne e eo =
      let so = sole_at (size_of_run code s) (lang_of x) world st.inv u q e in
      ne (sym (base_other (size_of_run code s) (lang_of x) world st.inv u t q (base_of_cell m c) so.0 so.1 th.based (th.base ∙ sym eo)).0)

  module _ (v : ℕ) (ev : in_ref world (RegisterOf tr.thread ((g.threads tr.thread).at.refs + r)) ≡ v)
      (act_is : turn code s (g.threads tr.thread) ≡ Asks (step_of (word s (g.threads tr.thread) c) (Swap v)) (λ found. goes (accessed (set_ref (g.threads tr.thread) r found))))
      (typed : v ≢ 0 → (world.slots (In a)).ty ≡ T) where
    abbrev X : TypedReference
    X = record { ty = T; reference = v }

    abbrev h : TypedReference
    h = record { ty = T; reference = found }

    abbrev closed : World
    closed = set_win world tr.thread Shut

    abbrev w1 : World
    w1 = set_slot closed a X

    inside_r : Inside (size_of_run code s) (In a)
    inside_r = inside_world x code s ls wt g world st t may.started may.next.runs i is single r isr

    inv1 : WorldInvariant (size_of_run code s) (lang_of x) w1
    inv1 =
        let inv0 = set_win_ok (size_of_run code s) (lang_of x) world st.inv t Shut tt in
        ⊎_elim
        (λ (z : v ≡ 0). subst (λ n. WorldInvariant (size_of_run code s) (lang_of x) (set_slot closed a (record { ty = T; reference = n }))) (sym z)
        (set_slot_ok (size_of_run code s) (lang_of x) closed inv0 a T inside_r (ev ∙ z) (free_shut closed t (base + r) (put_same world.win t Shut))))
        (λ (nz : v ≡ 0 → ⊥).
        let ex : world.slots (In a) ≡ X = let p = typed nz in λ i. record { ty = p i; reference = ev i } in
        let es : place world.slots (In a) X ≡ world.slots = fun_ext (place_all (λ q y. y ≡ world.slots q) world.slots (In a) X (sym ex) (λ q _. refl)) in
        subst (λ f. WorldInvariant (size_of_run code s) (lang_of x) (record closed { slots = f })) (sym es) inv0)
        (cases_eq v 0)

    refs1 : (q : Slot) → (w1.slots q).reference ≡ (world.slots q).reference
    refs1 = place_all (λ q y. y.reference ≡ (world.slots q).reference) world.slots (In a) X (sym ev) (λ q _. refl)

    base1 : base_of w1 tr.thread (base_of_cell (g.threads tr.thread) c) ≡ o
    base1 = base_refs world w1 t (base_of_cell m c) refs1 ∙ th.base

    rt1 : Right (lang_of x) w1 tr.thread true (base_of_cell (g.threads tr.thread) c) j
    rt1 =
        let b = base_of_cell m c in
        let eb : base_of w1 t b ≡ base_of world t b = base_refs world w1 t b refs1 in
        record {
          based = based_refs world w1 t b refs1 refl rt.based;
          can = subst (λ o. CanBy (lang_of x) w1 t true o j (mode_at x (world.obj o).ty j)) (sym eb) (can_refs (lang_of x) world w1 t true (base_of world t b) j (mode_at x (world.obj (base_of world t b)).ty j) refs1 refl refl refl rt.can);
        }

    inside_c : Inside (size_of_run code s) (CellOf o j)
    inside_c =
        let lt = th.number in
        let q = st.apart.within o (j / 2) th.live (omega arith) in
        (st.apart.headers o th.live, omega arith)

    inv2 : WorldInvariant (size_of_run code s) (lang_of x) (set_win (swap w1 o j a) tr.thread Shut)
    inv2 =
        subst (λ o. WorldInvariant (size_of_run code s) (lang_of x) (set_win (swap w1 o j a) t Shut)) base1
        (exchange_ok (size_of_run code s) (lang_of x) w1 inv1 (lang_laws x code ls wt) t (base_of_cell m c) j a rt1 refl
        (subst (λ o. Inside (size_of_run code s) (CellOf o j)) (sym base1) inside_c) inside_r
        (ap (λ (y : TypedReference). y.ty) (place_same world.slots (In a) X) ∙ ap (λ o. type_at x (world.obj o).ty o j) (sym base1))
        (λ e. wt.targets.pointers (world.obj o).ty j ptr (ap (λ o. mode_at x (world.obj o).ty j) (sym base1) ∙ e)))

    cell_is : w1.slots (CellOf o j) ≡ h
    cell_is =
        let p = st.inv.words.cells o j th.live in
        let q : (world.slots (CellOf o j)).reference ≡ found = st.sim.pointers o j th.live th.number ptr ∙ ap (slice_index g.words) (sym th.word_is) in
        place_other world.slots (In a) (CellOf o j) X (λ e. cc) ∙ (λ i. record { ty = p i; reference = q i })

    abbrev mid : Slot → TypedReference
    mid = place w1.slots (In a) (w1.slots (CellOf o j))

    ins : (b : Holder) → (set_win (swap w1 o j a) tr.thread Shut).slots (In b) ≡ place world.slots (In a) h (In b)
    ins b =
        place_other mid (CellOf o j) (In b) (w1.slots (In a)) (λ e. cc)
        ∙ place_all (λ q y. y ≡ place world.slots (In a) h q) w1.slots (In a) (w1.slots (CellOf o j)) (cell_is ∙ sym (place_same world.slots (In a) h))
        (λ q ne. place_other world.slots (In a) q X ne ∙ sym (place_other world.slots (In a) q h ne)) (In b)

    cs : (u : ℕ) → u ≢ tr.thread → (q : ℕ) → world.win u ≡ Sole q → (n : ℕ) → ((set_win (swap w1 o j a) tr.thread Shut).slots (CellOf (in_ref world (RegisterOf u q)) n)).reference ≡ (world.slots (CellOf (in_ref world (RegisterOf u q)) n)).reference
    cs u ne q e n =
        let p = in_ref world (RegisterOf u q) in
        ap (λ (y : TypedReference). y.reference) (place_other mid (CellOf o j) (CellOf p n) (w1.slots (In a)) (λ k. not_alone u q ne e (cc))
        ∙ place_other w1.slots (In a) (CellOf p n) (w1.slots (CellOf o j)) (λ e. cc) ∙ place_other world.slots (In a) (CellOf p n) X (λ e. cc))

    slots_are : (q : Slot) → (set_win (swap w1 o j a) tr.thread Shut).slots q ≡ place (place world.slots (CellOf o j) X) (In a) h q
    slots_are = place_all (λ q y. y ≡ place (place world.slots (CellOf o j) X) (In a) h q) mid (CellOf o j) (w1.slots (In a))
        (place_same world.slots (In a) X ∙ sym (place_other (place world.slots (CellOf o j) X) (In a) (CellOf o j) h (λ e. cc) ∙ place_same world.slots (CellOf o j) X))
        (place_all (λ q y. (q ≡ CellOf o j → ⊥) → y ≡ place (place world.slots (CellOf o j) X) (In a) h q) w1.slots (In a) (w1.slots (CellOf o j))
        (λ _. cell_is ∙ sym (place_same (place world.slots (CellOf o j) X) (In a) h))
        (λ q ne nc. place_other world.slots (In a) q X ne ∙ sym (place_other (place world.slots (CellOf o j) X) (In a) q h ne ∙ place_other world.slots (CellOf o j) q X nc)))

    small : v < 2 ^ 64
    small = ⊎_elim (λ (z : v ≡ 0). omega arith)
        (λ (nz : v ≡ 0 → ⊥).
        let f = st.inv.words.fits (In a) (λ z. nz (sym ev ∙ z)) in
        let q = st.apart.headers v (subst (λ v. (world.obj v).live ≡ true) ev f.live) in
        let g1 = fits.globals in let g2 = wt.globals.few in let g3 = fits.most in omega arith)
        (cases_eq v 0)

    pub swapped : (k' : Label) → Leads ls ((g.threads tr.thread).at.pc + 1) k' → k'.function ≡ here.function → k'.gate ≡ Closed → k'.room ≡ here.room
        → TopStands x tr.thread (filled view ((g.threads tr.thread).at.refs + r) found T) (g.threads tr.thread).at.refs (g.threads tr.thread).at.ints names k' → Turned x code s ls g world tr
    swapped k' leads fn kg rm tp =
        let m' = goes (accessed (set_ref m r found)) in
        let k = base + r in
        let kk = cell_at s o j in
        let words = slice_set g.words kk v in
        let done0 = asks_turn code s g tr may (step_of (word s m c) (Swap v)) (λ found. goes (accessed (set_ref m r found))) act_is in
        let done : after ≡ made_turn g t words m' = done0.0 ∙ ap (λ n. made_turn g t (slice_set g.words n v) m') th.word_is in
        let lt : kk < length g.words = subst (λ n. n < length g.words) th.word_is done0.1 in
        let ms = cell_store x code s ls g world st o j th.live th.number in
        let now : World = set_win (swap w1 o j a) t Shut in
        let sim1 = cell_stored x s st.cells st.elements (conc_of code g) world st.sim st.apart o j X th.live th.number ptr in
        let sim2 = reg_stored x s st.cells st.elements (store (conc_of code g) kk v) (record world { slots = place world.slots (CellOf o j) X }) sim1 st.apart t k h in
        let sim3 : Shows x s st.cells st.elements (set_reg (store (conc_of code g) kk v) t k found) (record world { slots = now.slots }) =
        subst (λ f. Shows x s st.cells st.elements (set_reg (store (conc_of code g) kk v) t k found) (record world { slots = f })) (sym (fun_ext slots_are)) sim2 in
        let sim4 = sim_win x s st.cells st.elements (set_reg (store (conc_of code g) kk v) t k found) (record world { slots = now.slots }) (put (put world.win t Shut) t Shut) sim3 in
        let sim5 : Shows x s st.cells st.elements (set_reg (record (conc_of code g) { words = λ n. slice_index words n }) t k found) now =
        subst (λ y. Shows x s st.cells st.elements (set_reg (record (conc_of code g) { words = y }) t k found) now) (sym (fun_ext (index_put g.words kk v lt))) sim4 in
        let win : (u : ℕ) → u ≢ t → now.win u ≡ world.win u = λ u ne. put_other (put world.win t Shut) t u Shut ne ∙ put_other world.win t u Shut ne in
        let rn = runs x code s ls wt g world st t may.started may.next.runs i is single in (
          now,
          subst (λ y. State x code s ls y now) (sym done) (filled_slots x code s ls wt g world st t may.started may.next.runs i is single r h m' now words k'
              (record { at = refl; refs = refl; ints = refl; frames = refl; own = refl }) isr ins cs refl refl refl win (put_same (put world.win t Shut) t Shut)
              (stored_words x code s ls g world st kk v ms lt small (λ n l e. absurd (let h = st.apart.headers o th.live in omega arith))) (stored_within x code s ls g world st kk v ms lt)
              inv2 sim5 tp leads fn kg (λ q. rn.room (sym rm ∙ q)) (room_of code s g tr may words m' done)),
          Accesses true (base_of_cell m c) j rt alone (record {
            obj = refl;
            mutex = refl;
            passed = λ o p u b q. q;
            sole = λ u q e. let ne : u ≡ t → ⊥ = λ z. alone q (ap world.win (sym z) ∙ e) in (win u ne ∙ e, ap (λ (y : TypedReference). y.reference) (ins (RegisterOf u q) ∙ place_other world.slots (In a) (In (RegisterOf u q)) h (λ z. ne (cc))));
          }),
        )

module _ (x : Targets) (code : Code) (s : Shape) (ls : Labels) (wt : IsWellTyped x code ls) (fits : Fits code s) (g : Global Machine) (world : World) (st : State x code s ls g world) (tr : Turn)
    (may : MayTurn bounds (one_thread code s) g tr) where
  open turn_at st tr use {t, m as mm, here as l}

  -- the type of what a register holds, where its label has one no other than this
  entry_type : (refs : ℕ → ℕ) (types : ℕ → ObjectType) (T : ObjectType) (r : ℕ) (ty : StaticType) (e : Entry) → ((q : ℕ) → refs (l.same q) ≡ refs q) → ((n : ℕ) → T ≡ type_of refs n ty)
      → LessEntry l r e (Refers ty) → EntryStands refs types r e → refs r ≢ 0 → types r ≡ T
  entry_type refs types T r ty Empty all pointed less h nz = absurd (nz h)
  entry_type refs types T r ty Unknown all pointed less h nz = absurd less
  entry_type refs types T r ty (Refers a) all pointed less h nz = h nz ∙ same_type l refs all r a ty less ∙ sym (pointed (refs r))

  pub Exchange_keeps : (r : ℕ) (c : Cell) (site : ℕ) → instr_at code (g.threads tr.thread).at.pc ≡ Instr.Exchange r c site → Turned x code s ls g world tr
  Exchange_keeps r c site is =
      let i = Instr.Exchange r c site in
      let f = fine x code s ls wt g world st tr.thread may.started may.next.runs i is refl in
      let fl = f.1.0 in
      let ty = f.1.1 in
      let base = mm.at.refs in
      let k = base + r in
      let view = view_of st.elements world t mm in
      let rn = runs x code s ls wt g world st t may.started may.next.runs i is refl in
      let tp = top x code s ls wt g world st t may.started may.next.runs i is refl in
      let rd = (resting x code s ls wt g world st t (may.started, may.next.runs) i is refl).reads in
      let pointed' = pointed x code s ls wt fits g world st tr may i is refl r c site fl ty f.0 f.1.2 f.1.3 in
      let T = type_at x (world.obj (object_of_cell mm c)).ty (object_of_cell mm c) (number_in mm c) in
      let refs = refs_at view base in
      let all : (q : ℕ) → refs (l.same q) ≡ refs q = λ q. (tp (suc q) 0).same q (omega arith) in
      let typed : ref mm r ≢ 0 → (world.slots (In (RegisterOf t k))).ty ≡ T = λ nz.
      entry_type refs (types_at view base) T r ty (l.env r) all pointed' f.1.4 ((tp (suc r) 0).env r (omega arith)) (λ z. nz (rd r ∙ z)) in
      let v0 = filled view k 0 T in
      let n = slice_index g.words (word s mm c) in
      let top0 = empty_stands x t view base mm.at.ints rn.names l r T f.1.5.paths tp in
      let sc = scoped_empty (ints_in code l.function) (refs_in code l.function) l r f.1.5.paths (wt.scoped mm.at.pc) in
      let kept : T ≡ type_of (refs_at v0 base) n ty = pointed' n ∙ type_kept refs (refs_at v0 base) n ty (λ q mq. sym (put_base view.refs base r q 0 (λ e. f.1.6 (subst (Mentions ty) e mq)))) in
      let top1 = fill_stands x t v0 base mm.at.ints rn.names (empty l r) (ints_in code l.function) (refs_in code l.function) r n T (Refers ty) r false sc (put_same l.env r Empty) f.1.6 (λ _. kept) (inl refl) (λ z. absurd (cc)) top0 in
      let e1 = put_put view.refs k 0 n in
      let e2 = put_put view.types k T T in
      let same : filled v0 k n T ≡ filled view k n T = λ i. record view { refs = e1 i; types = e2 i } in
      let k' = fill (empty l r) r (Refers ty) r false in
      swapped x code s ls wt fits g world st tr may i is refl r c site fl ty f.0 f.1.2 f.1.3 (ref mm r) (sym (rd r)) (ap (λ i. Rattle.sharc_code.specs.Machine.act code s i mm) is) typed k' f.1.7 refl refl refl
      (subst (λ v. TopStands x t v base mm.at.ints rn.names k') same top1)

  pub Take_cell_keeps : (r : ℕ) (c : Cell) (site : ℕ) → instr_at code (g.threads tr.thread).at.pc ≡ Instr.TakeCell r c site → Turned x code s ls g world tr
  Take_cell_keeps r c site is =
      let i = Instr.TakeCell r c site in
      let f = fine x code s ls wt g world st tr.thread may.started may.next.runs i is refl in
      let fl = f.1.0 in
      let ty = f.1.1 in
      let base = mm.at.refs in
      let k = base + r in
      let view = view_of st.elements world t mm in
      let rn = runs x code s ls wt g world st t may.started may.next.runs i is refl in
      let tp = top x code s ls wt g world st t may.started may.next.runs i is refl in
      let pointed' = pointed x code s ls wt fits g world st tr may i is refl r c site fl ty f.0.is f.1.2 f.1.3 in
      let T = type_at x (world.obj (object_of_cell mm c)).ty (object_of_cell mm c) (number_in mm c) in
      let empty_r : in_ref world (RegisterOf t k) ≡ 0 = subst (EntryStands (refs_at view base) (types_at view base) r) f.0.empty ((tp (suc r) 0).env r (omega arith)) in
      let n = slice_index g.words (word s mm c) in
      let k' = fill l r (Refers ty) r false in
      let top1 = fill_stands x t view base mm.at.ints rn.names l (ints_in code l.function) (refs_in code l.function) r n T (Refers ty) r false (wt.scoped mm.at.pc) f.0.empty f.1.4 (λ _. pointed' n) (inl refl) (λ z. absurd (cc)) tp in
      swapped x code s ls wt fits g world st tr may i is refl r c site fl ty f.0.is f.1.2 f.1.3 0 empty_r (ap (λ i. Rattle.sharc_code.specs.Machine.act code s i mm) is) (λ nz. absurd (nz refl)) k' f.1.5 refl refl refl top1
