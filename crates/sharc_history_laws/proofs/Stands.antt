-- What the invariant says of a thread that goes on: its registers, the gate of its place, and the cells that its instruction names.
use Rattle.sharc_history_laws.proofs.{Imports.{◌≡◌, ℕ, suc, ◌+◌, ◌^◌, ◌<◌, ◌≢◌, Bool, true, false, cond, refl, sym, ap, ◌∙◌, subst, arith, nat_tests, slice_index, ◌==◌, Code, Cell, Shape, Fits, granules, Machine, instr_at, ref, is_of_null, Global, Targets, ObjectType, StaticType, Field, Sole, Refers, Label, Labels, IsWellTyped, HasCell, HasBase, RegisterOf, In, Slot, IsSole, World, in_ref, lang_of, CellIsThere as IsThere, State, Runs, TopStands, EntryStands, GateStands, OnHold, label_now, refs_at, types_at, IsOn, CellsAreThere, label_held, freed_held}, TurnAt.thread_at}

module _ (x : Targets) (code : Code) (s : Shape) (ls : Labels) (wt : IsWellTyped x code ls) (fits : Fits code s) (g : Global Machine) (world : World) (st : State x code s ls g world) where
  -- a register is what the world says
  pub register_is : (u i : ℕ) → OnHold (g.threads u).own.stage → in_ref world (RegisterOf u i) ≡ slice_index (g.threads u).refs i
  register_is u i hold = st.sim.regs u i ∙ ap (λ b. cond b 0 (slice_index (g.threads u).refs i)) (freed_held (instr_at code (g.threads u).at.pc) (g.threads u).own.stage (g.threads u).at.refs i hold)

  pub live_slot : (a : Slot) → (world.slots a).reference ≢ 0 → (world.obj (world.slots a).reference).live ≡ true
  live_slot a nz = (st.inv.words.fits a nz).live

  pub granules_low : granules s < 2 ^ 18
  granules_low = let a = wt.globals.few in let b = fits.globals in let c = fits.most in omega arith

  -- a live object has a number of 32 bits
  pub live_low : (o : ℕ) → (world.obj o).live ≡ true → o < 2 ^ 18
  live_low o live = let a = st.apart.headers o live in let b = granules_low in omega arith

  -- ---- a thread that goes on
  module _ (t : ℕ) (on : IsOn g t) (hold : OnHold (g.threads t).own.stage) where
    open thread_at st t use {m, here, view}

    abbrev pub rn : Runs x code s ls st.elements world st.heap g t (g.threads t)
    rn = (st.threads t).runs on.0 on.1

    now_here : label_now here (instr_at code (g.threads t).at.pc) (g.threads t).own.stage ≡ here
    now_here = label_held here (instr_at code m.at.pc) m.own.stage hold

    pub top : TopStands x t view (g.threads t).at.refs (g.threads t).at.ints rn.names here
    top = subst (TopStands x t view m.at.refs m.at.ints rn.names) now_here rn.top

    pub gate : GateStands s world t (g.threads t) here.gate
    gate = subst (λ (l : Label). GateStands s world t m l.gate) now_here rn.gate

    pub reads_ref : (r : ℕ) → ref (g.threads t) r ≡ in_ref world (RegisterOf t ((g.threads t).at.refs + r))
    reads_ref r = sym (register_is t (m.at.refs + r) hold)

    pub known_ref : (r : ℕ) → here.known r ≡ true → ref (g.threads t) r ≢ 0
    known_ref r e z = (top (suc r) 0).known r (omega arith) e (sym (reads_ref r) ∙ z)

    not_zero : (n : ℕ) → n ≢ 0 → (n == 0) ≡ false
    not_zero n ne = grind (arith, nat_tests)

    pub some_base : (c : Cell) → HasBase here c → is_of_null (g.threads t) c ≡ false
    some_base (Cell.Global h p) b = refl
    some_base (Cell.GlobalAt h i) b = refl
    some_base (Cell.Object r i) b = not_zero (ref m r) (known_ref r b)
    some_base (Cell.ObjectAt r i) b = not_zero (ref m r) (known_ref r b)

    pub there : CellsAreThere → (c : Cell) (f : Field) → HasCell x code here c f → IsThere x s st.cells world t (g.threads t) c f
    there laws c f k = laws x code s ls wt fits g world st t on hold c f k.field (some_base c k.base)

    -- what a register refers to
    pub live_ref : (r : ℕ) → ref (g.threads t) r ≢ 0 → (world.obj (ref (g.threads t) r)).live ≡ true
    live_ref r nz = subst (λ o. (world.obj o).live ≡ true) (sym (reads_ref r)) (live_slot (In (RegisterOf t (m.at.refs + r))) (λ z. nz (reads_ref r ∙ z)))

    pub target_ref : (r : ℕ) (ty : StaticType) → here.env r ≡ Refers ty → ref (g.threads t) r ≢ 0 → (world.obj (ref (g.threads t) r)).ty.target ≡ ty.target
    target_ref r ty e nz =
        let nzw : in_ref world (RegisterOf t (m.at.refs + r)) ≢ 0 = λ z. nz (reads_ref r ∙ z) in
        let fit = st.inv.words.fits (In (RegisterOf t (m.at.refs + r))) nzw in
        let st_r = subst (EntryStands (refs_at view m.at.refs) (types_at view m.at.refs) r) e ((top (suc r) 0).env r (omega arith)) nzw in
        subst (λ o. (world.obj o).ty.target ≡ ty.target) (sym (reads_ref r)) (ap (λ (y : ObjectType). y.target) fit.typed ∙ ap (λ (y : ObjectType). y.target) st_r)

    -- the only reference to an object is not NULL
    pub sole_ref : (r : ℕ) (cleared : Bool) → here.gate ≡ Sole r cleared → ref (g.threads t) r ≢ 0
    sole_ref r cleared e z =
        let win : world.win t ≡ IsSole (m.at.refs + r) = subst (GateStands s world t m) e gate in
        let ok = subst (Rattle.sharc_invariant.specs.World.WinOk (lang_of x) world t) win (st.inv.wins t) in
        ok.0 (sym (reads_ref r) ∙ z)
