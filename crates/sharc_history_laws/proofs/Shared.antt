-- No access set of a run of typed code holds accesses of two threads of which one writes.
use Rattle.sharc_history_laws.proofs.{Imports.{◌≡◌, ℕ, ◌+◌, ◌-◌, ◌*◌, ◌/◌, ◌≤◌, ◌≢◌, ◌⊎◌, inl, inr, Bool, true, false, ◌||◌, ◌&&◌, List, ◌∷◌, Option, Some, None, refl, sym, ap, ◌∙◌, subst, ⊎_elim, arith, cases_eq, nat_tests, ◌==◌, slice_index, slice_index_or, Act, SourceEvent, Object, CellMode, Code, Cell, Instr, Shape, Stage, Rests, Makes, Uncounts, Links, Withdraws, WithdrawsFrom, Leaves, RunLaws, Fits, Machine, instr_at, ref, place, act, is_exit, turn, after, may_go, Turn, Global, MayTurn, after_turn, put, state_now, result_of, one_thread, bounds, place_after, said, cell_at, place_at, in_exit, no_global, said_now, table_of, Access, granule_in as granule_of, makes, gives, begins, is_of, access_by, until_return, ends, Passed, Targets, Field, FieldMode, Gate, Holds, Loaded, HoldsLoaded, Sole, Labels, IsWellTyped, IsNotSole, RegisterOf, ObjectState, Shut, IsSole, World, WinOk, in_ref, lang_of, has_returned, is_withdrawing, is_ended, Closing, Without, changes_objects, makes_object, frees_object, objects_behind, State, Runs, IsSmall, StageStands, GateStands, StopStands, OnHold, OnExit, object_of_cell, number_in, label_now, size_of_run, IsOn, MachineInvariant, IsAlone, WindowStands, label_of, Keeps, CodeBegins, CellsAreThere, PointersAreThere, AccessesAreAllowed, StateStands, yes, is_access, or_right, not_false, put_same, put_other}, TurnAt.{RunOf, turn_at, told_at, turn_stands}, Single.rests_hold, Stands.{register_is, gate, reads_ref}, Finds.is_there, Tables.{header_of, was_live}, Consists.{Consists, consists_then, objects_then, effect_then, given}, Acts.{access_said, thread_said, given_at, freed_in, freed_at, About, no_access, access_at, IsAccess as TellsAccess, access_of}, Lists.Newest, Modes.dynamic_field, Rules.{over_runs, pushed, newest, number_is, about_now, hold_access, cell_is, can_mode, freed_gone, number_yes, access_single}, Sets.{IsHere, Goes, InSet, NoConflict, Clean}, Carried.{Stands, carried}, Outcomes.{unended, withdraws_still, going_on}, Threaded.or_left}

-- ---- objects and granules as the world has them
abbrev pub number_of : Object → ℕ
number_of (Object.Global g) = 0
number_of (Object.Made n) = n

abbrev pub index_of : Code → Object → ℕ → ℕ
index_of code (Object.Global g) granule = granule + (slice_index_or code.globals.items g no_global).granule - 1
index_of code (Object.Made n) granule = granule

-- ---- gates
pub not_sole : (s : Shape) (w : World) (t : ℕ) (m : Machine) (y : Gate) → IsNotSole y → GateStands s w t m y → (q : ℕ) → w.win t ≡ IsSole q → ⊥
not_sole s w t m (Holds c) h k q e = let z = k.0 in cc
not_sole s w t m (HoldsLoaded c) h k q e = let z = k.0 in cc
not_sole s w t m (Sole r c) h k q e = absurd h
not_sole s w t m _ h k q e = cc

sole_gate : (s : Shape) (w : World) (t : ℕ) (m : Machine) (y : Gate) → GateStands s w t m y → (q : ℕ) → w.win t ≡ IsSole q → (r : ℕ) × (cleared : Bool) × (y ≡ Sole r cleared) × (q ≡ m.at.refs + r)
sole_gate s w t m (Holds c) k q e = let z = k.0 in absurd (cc)
sole_gate s w t m (HoldsLoaded c) k q e = let z = k.0 in absurd (cc)
sole_gate s w t m (Sole r c) k q e = (r, c, refl, (let f : IsSole (m.at.refs + r) ≡ IsSole q = sym k ∙ e in sym (let g : m.at.refs + r ≡ q = cc in g)))
sole_gate s w t m _ k q e = absurd (cc)

stop_not_sole : (w : World) (t : ℕ) (m : Machine) (y : Gate) → StopStands w t m y → (q : ℕ) → w.win t ≡ IsSole q → ⊥
stop_not_sole w t m (Loaded c) k q e = cc
stop_not_sole w t m _ k q e = cc

-- ---- an object that a thread has alone
module _ (state_law : StateStands) (x : Targets) (code : Code) (s : Shape) (ls : Labels) (wt : IsWellTyped x code ls) (fits : Fits code s) (g : Global Machine) (world : World) (st : State x code s ls g world) where
  abbrev invariant : MachineInvariant x code s ls g world.obj
  invariant = state_law x code s ls wt fits g world st

  pub some_closing : (o : ℕ) → Closing world o → o ≢ 0
  some_closing o c z = (subst (WinOk (lang_of x) world c.0) c.1.1.0 (st.inv.wins c.0)).0 (c.1.1.1 ∙ z)

  closing_on : (v q : ℕ) → world.win v ≡ IsSole q → IsOn g v
  closing_on v q e = (
    elim (g.started v) as (λ b. g.started v ≡ b → b ≡ true) [ true ↦ λ z. refl | false ↦ λ off. absurd (let k = (st.threads v).off off in let f : Shut ≡ IsSole q = sym k ∙ e in cc) ] refl,
    elim (may_go (g.threads v).at.state) as (λ b. may_go (g.threads v).at.state ≡ b → b ≡ true) [ true ↦ λ z. refl | false ↦ λ stop. absurd (stop_not_sole world v (g.threads v) (ls.at (g.threads v).at.pc).gate ((st.threads v).stopped stop) q e) ] refl,
  )

  -- it stands where no block is to be linked
  closing_hold : (v q : ℕ) → (e : world.win v ≡ IsSole q) → OnHold (g.threads v).own.stage
  closing_hold v q e =
      let on = closing_on v q e in
      let rn = (st.threads v).runs on.0 on.1 in
      by (instr_at code (g.threads v).at.pc) (g.threads v).own.stage rn.stage rn.gate
    where
      by : (i : Instr) (stage : Stage) → StageStands code s st.elements world st.heap g.words v (g.threads v) i stage → GateStands s world v (g.threads v) (label_now (ls.at (g.threads v).at.pc) i stage).gate → OnHold stage
      by (Instr.Free r layout site) (Links all) h k = absurd (let f : Shut ≡ IsSole q = sym k ∙ e in cc)
      by _ (Links all) h k = absurd h
      by _ _ h k = tt

  -- no register of another thread has it
  pub closing_own : (o : ℕ) (c : Closing world o) (u i : ℕ) → OnHold (g.threads u).own.stage → slice_index (g.threads u).refs i ≡ o → u ≡ c.0
  closing_own o c u i hold has =
      let v = c.0 in
      let q = c.1.0 in
      let win = c.1.1.0 in
      let on = closing_on v q win in
      let hold_v = closing_hold v q win in
      let m = g.threads v in
      let k = sole_gate s world v m (label_of code ls m).gate ((st.threads v).runs on.0 on.1).gate q win in
      let alone : IsAlone x code s g world.obj v (m.at.refs + k.0) (ref m k.0) = subst (WindowStands x code s g world.obj v m) k.2 (invariant.windows v on) in
      let mine : in_ref world (RegisterOf v q) ≡ ref m k.0 = register_is x code s ls wt fits g world st v q hold_v ∙ ap (slice_index m.refs) k.3 in
      let o_is : o ≡ ref m k.0 = sym c.1.1.1 ∙ mine in
      let theirs : Rattle.sharc_invariant.specs.MachineInvariant.register_refers code g u i ≡ ref m k.0 = sym (st.sim.regs u i) ∙ register_is x code s ls wt fits g world st u i hold ∙ has ∙ o_is in
      (alone.registers u i theirs).0

-- ---- one turn
module _ (state_law : StateStands) (cell_laws : CellsAreThere) (pointers : PointersAreThere) (rights : AccessesAreAllowed) (laws : RunLaws) (keeps : Keeps) (x : Targets) (code : Code) (s : Shape) (ls : Labels) (wt : IsWellTyped x code ls) (fits : Fits code s) (few : IsSmall code s)
    (one : Turn) (earlier : List Turn) (h : Consists x code s ls earlier) (may : MayTurn bounds (one_thread code s) (place_after code s earlier) one) where
  open turn_at code s (place_after code s earlier) one use {g, t, m, i, found}
  open told_at code s earlier one use {elements, event}

  abbrev world : World
  world = h.world

  abbrev then_ : Consists x code s ls (one ∷ earlier)
  then_ = consists_then laws keeps cell_laws pointers x code s ls wt fits few one earlier h may

  open turn_stands wt h.state one may use {on, fine}

  abbrev Tells : Option SourceEvent → Type 0
  Tells = About ((place_after code s earlier).threads one.thread).own.number (header_of i ((place_after code s earlier).threads one.thread).own.stage) (given_at i ((place_after code s earlier).threads one.thread)) (freed_at i ((place_after code s earlier).threads one.thread))

  tells : Tells event
  tells = about_now cell_laws pointers rights laws keeps x code s ls wt fits few one earlier h may

  rn : Runs x code s ls h.state.elements h.world h.state.heap (place_after code s earlier) one.thread ((place_after code s earlier).threads one.thread)
  rn = (h.state.threads t).runs on.0 on.1

  gate_at : OnHold ((place_after code s earlier).threads one.thread).own.stage → GateStands s h.world one.thread ((place_after code s earlier).threads one.thread) (ls.at ((place_after code s earlier).threads one.thread).at.pc).gate
  gate_at hold = gate x code s ls wt fits g world h.state t on hold

  -- ---- the access of the turn
  module _ (e : SourceEvent) (said_is : said code i ((place_after code s earlier).threads one.thread) found elements ≡ Some e) (o : Object) (granule u : ℕ) (write : Bool) (here : IsHere e o granule u write) where
    access : is_access i ≡ true
    access = not_false (is_access i) (λ z. let f : None ≡ Some here.access = sym (no_access code m laws.turns.tells i found elements z) ∙ ap access_said said_is ∙ here.is in cc)

    hold : OnHold ((place_after code s earlier).threads one.thread).own.stage
    hold = hold_access cell_laws pointers rights laws keeps x code s ls wt fits few one earlier h may access

    k : TellsAccess x code ls ((place_after code s earlier).threads one.thread) i found elements
    k = access_of x code ls m i found elements access (wt.fine m.at.pc)

    same_access : access_at code ((place_after code s earlier).threads one.thread) k.cell k.site k.write ≡ here.access
    same_access = let both : Some (access_at code m k.cell k.site k.write) ≡ Some here.access = sym k.said_is ∙ ap access_said said_is ∙ here.is in cc

    thread_is : u ≡ one.thread
    thread_is = sym here.thread ∙ ap (thread_said m.own.number) (sym said_is) ∙ tells.thread ∙ number_is cell_laws pointers rights laws keeps x code s ls wt fits few one earlier h may

    object_is : (cell_at code ((place_after code s earlier).threads one.thread) k.cell).object ≡ o
    object_is = ap (λ (a : Access). a.cell.object) same_access ∙ here.object

    granule_is : granule_of (cell_at code ((place_after code s earlier).threads one.thread) k.cell) ≡ granule
    granule_is = ap (λ (a : Access). granule_of a.cell) same_access ∙ here.granule_is

    write_is : k.write ≡ write
    write_is = ap (λ (a : Access). a.is_write) same_access ∙ here.kind

    -- where it is in the world
    in_globals : (p granule : ℕ) → 1 ≤ granule → 2 * granule ≤ p → (p - 2 * granule) / 2 + granule - 1 ≡ (p - 2 * (0 + 1)) / 2
    in_globals p granule low from = omega arith

    in_object : (o p : ℕ) → p / 2 ≡ (2 * (o + 1) + p - 2 * (o + 1)) / 2
    in_object o p = omega arith

    at_place : (c : Cell) (f : Field) → Rattle.sharc_invariant.specs.Typed.HasCell x code (ls.at ((place_after code s earlier).threads one.thread).at.pc) c f
        → (number_of (cell_at code ((place_after code s earlier).threads one.thread) c).object ≡ object_of_cell ((place_after code s earlier).threads one.thread) c)
        × (index_of code (cell_at code ((place_after code s earlier).threads one.thread) c).object (granule_of (cell_at code ((place_after code s earlier).threads one.thread) c)) ≡ number_in ((place_after code s earlier).threads one.thread) c / 2)
    at_place (Cell.Global q p) f c =
        let there = is_there cell_laws x code s ls wt fits g world h.state t on hold (Cell.Global q p) f c.field refl in
        let low = wt.globals.low q there.known in
        let from = there.low in
        (refl, in_globals p (slice_index_or code.globals.items q no_global).granule low from)
    at_place (Cell.GlobalAt q r) f c =
        let there = is_there cell_laws x code s ls wt fits g world h.state t on hold (Cell.GlobalAt q r) f c.field refl in
        let low = wt.globals.low q there.known in
        let from = there.low in
        (refl, in_globals (place m (Cell.GlobalAt q r)) (slice_index_or code.globals.items q no_global).granule low from)
    at_place (Cell.Object r p) f c = (refl, in_object (ref m r) p)
    at_place (Cell.ObjectAt r q) f c = (refl, in_object (ref m r) (Rattle.sharc_code.specs.Arithmetic.word_of (Rattle.sharc_code.specs.Machine.int m q)))

    abbrev n : ℕ
    n = object_of_cell ((place_after code s earlier).threads one.thread) k.cell

    number_is_n : number_of o ≡ object_of_cell ((place_after code s earlier).threads one.thread) k.cell
    number_is_n = ap number_of (sym object_is) ∙ (at_place k.cell k.field k.accesses.cell).0

    index_is : index_of code o granule ≡ number_in ((place_after code s earlier).threads one.thread) k.cell / 2
    index_is = ap (λ o. index_of code o granule) (sym object_is) ∙ ap (index_of code (cell_at code m k.cell).object) (sym granule_is) ∙ (at_place k.cell k.field k.accesses.cell).1

    -- the thread has passed a check of it
    passed_now : Passed (h.world.gran (number_of o) (index_of code o granule)) one.thread write
    passed_now =
        let mode : (access_at code m k.cell k.site k.write).mode ≡ CellMode.Dynamic = ap (λ (a : Access). a.mode) same_access ∙ here.dynamic in
        let f = dynamic_field code m (cell_at code m k.cell) (ls.at m.at.pc) k.cell k.field.mode (place_at code k.site).mode k.accesses.mode mode in
        let p : Passed (world.gran n (number_in m k.cell / 2)) t k.write = can_mode cell_laws pointers rights laws keeps x code s ls wt fits few one earlier h may hold k FieldMode.Dynamic f in
        subst (Passed (world.gran (number_of o) (index_of code o granule)) t) write_is
        (subst (λ j. Passed (world.gran (number_of o) j) t k.write) (sym index_is) (subst (λ n. Passed (world.gran n (number_in m k.cell / 2)) t k.write) (sym number_is_n) p))

    live_now : (h.world.obj (number_of o)).live ≡ true
    live_now = subst (λ n. (world.obj n).live ≡ true) (sym number_is_n) (cell_is cell_laws pointers rights laws keeps x code s ls wt fits few one earlier h may hold k).live

    -- nobody has the object alone
    register_of_cell : (c : Cell) → object_of_cell ((place_after code s earlier).threads one.thread) c ≢ 0 → (r : ℕ) × (slice_index ((place_after code s earlier).threads one.thread).refs r ≡ object_of_cell ((place_after code s earlier).threads one.thread) c)
    register_of_cell (Cell.Global q p) nz = absurd (nz refl)
    register_of_cell (Cell.GlobalAt q r) nz = absurd (nz refl)
    register_of_cell (Cell.Object r p) nz = (m.at.refs + r, refl)
    register_of_cell (Cell.ObjectAt r q) nz = (m.at.refs + r, refl)

    not_closing : Closing h.world (number_of o) → ⊥
    not_closing c =
        let nz : n ≢ 0 = λ z. some_closing state_law x code s ls wt fits g world h.state (number_of o) c (number_is_n ∙ z) in
        let r = register_of_cell k.cell nz in
        let mine : t ≡ c.0 = closing_own state_law x code s ls wt fits g world h.state (number_of o) c t r.0 hold (r.1 ∙ sym number_is_n) in
        not_sole s world t m (ls.at m.at.pc).gate k.accesses.apart (gate_at hold) c.1.0 (ap world.win mine ∙ c.1.1.0)

    not_without : Without h.world (number_of o) → ⊥
    not_without w = ⊎_elim not_closing (λ (dead : (world.obj (number_of o)).live ≡ false). yes (sym live_now ∙ dead)) w

    -- the thread has not returned, and changes no object
    not_returned : has_returned ((place_after code s earlier).threads one.thread) ≡ false
    not_returned =
        let rest : m.own.stage ≡ Rests = Rattle.sharc_invariant.proofs.Own.single_rests code s h.state.elements world h.state.heap g.words t m i m.own.stage (access_single i access) rn.stage in
        ap (λ y. is_withdrawing y || is_ended m.at.state) rest ∙ going_on m.at.state may.next.runs

    not_changing : changes_objects i ((place_after code s earlier).threads one.thread) ≡ true → ⊥
    not_changing e = by i access e
      where
        by : (j : Instr) → is_access j ≡ true → changes_objects j ((place_after code s earlier).threads one.thread) ≡ true → ⊥
        by (Instr.Load r c site) a e = cc
        by _ a e = cc

    -- what it passed stands after the turn
    here_stands : Stands then_.world (number_of o) (index_of code o granule) one.thread write
    here_stands = carried (size_of_run code s) (lang_of x) world h.state.inv t (number_of o) (index_of code o granule) t write
        (has_returned m) (changes_objects i m) then_.world (effect_then laws keeps cell_laws pointers x code s ls wt fits few one earlier h may)
        (λ r c e live q. not_changing c) (λ c dead live. not_changing c) (λ r e. yes (sym r ∙ not_returned)) (inl passed_now)

  -- ---- accesses of before
  -- a turn that gives an object begins it
  pub unless_given : (o : Object) → ((e : SourceEvent) → event ≡ Some e → begins o e ≡ false) → (r : ℕ) → changes_objects i ((place_after code s earlier).threads one.thread) ≡ true → h.world.win one.thread ≡ IsSole r → (then_.world.obj (number_of o)).live ≡ true
      → number_of o ≡ in_ref h.world (RegisterOf one.thread r) → ⊥
  unless_given (Object.Global q) none r c win live e = (subst (WinOk (lang_of x) world t) win (h.state.inv.wins t)).0 (sym e)
  unless_given (Object.Made n) none r c win live e = by i refl c
    where
      at_gate : (j : Instr) → i ≡ j → (q : ℕ) (cleared : Bool) → (hold : OnHold ((place_after code s earlier).threads one.thread).own.stage) → (ls.at ((place_after code s earlier).threads one.thread).at.pc).gate ≡ Sole q cleared → n ≡ ref ((place_after code s earlier).threads one.thread) q
      at_gate j is q cleared hold gt =
          let w : world.win t ≡ IsSole (m.at.refs + q) = subst (GateStands s world t m) gt (gate_at hold) in
          let same : r ≡ m.at.refs + q = let f : IsSole r ≡ IsSole (m.at.refs + q) = sym win ∙ w in cc in
          e ∙ ap (λ r. in_ref world (RegisterOf t r)) same ∙ sym (reads_ref x code s ls wt fits g world h.state t on hold q)

      gives_it : (ev : Option SourceEvent) → Tells ev → given_at i ((place_after code s earlier).threads one.thread) ≡ Some n → ((e : SourceEvent) → ev ≡ Some e → begins (Object.Made n) e ≡ false) → ⊥
      gives_it None about is none = let f : None ≡ Some n = about.gives ∙ is in cc
      gives_it (Some e) about is none =
          let a : gives (Object.Made n) e ≡ true = ap (Rattle.sharc_meaning.specs.Events.is_number n) (about.gives ∙ is) ∙ number_yes n in
          yes (sym (or_right (makes (Object.Made n) e) (gives (Object.Made n) e) a) ∙ none e refl)
        where
          or_right : (a b : Bool) → b ≡ true → (a || b) ≡ true
          or_right true b e = refl
          or_right false b e = e

      free_hold : (stage : Stage) → frees_object stage ≡ true → OnHold stage
      free_hold (Uncounts all) e = tt
      free_hold _ e = absurd (cc)

      free_at : (stage : Stage) (o : ℕ) → frees_object stage ≡ true → freed_in stage o ≡ Some o
      free_at (Uncounts all) o e = refl
      free_at _ o e = absurd (cc)

      new_hold : (stage : Stage) → makes_object stage ≡ true → OnHold stage
      new_hold (Makes v) e = tt
      new_hold _ e = absurd (cc)

      by : (j : Instr) → i ≡ j → changes_objects j ((place_after code s earlier).threads one.thread) ≡ true → ⊥
      by (Instr.New q count cells site) is change =
          let hold = new_hold m.own.stage change in
          let f = fine (Instr.New q count cells site) is in
          let shut : world.win t ≡ Shut = subst (GateStands s world t m) f.0 (gate_at hold) in
          let z : Shut ≡ IsSole r = sym shut ∙ win in cc
      by (Instr.Give q site) is change =
          let f = fine (Instr.Give q site) is in
          let hold = rests_hold code s h.state.elements world h.state.heap g.words t m (Instr.Give q site) m.own.stage refl (subst (λ j. StageStands code s h.state.elements world h.state.heap g.words t m j m.own.stage) is rn.stage) in
          let same = at_gate (Instr.Give q site) is q true hold f.0 in
          gives_it event tells (ap (λ j. given_at j m) is ∙ ap (λ k. Some k) (sym same)) none
      by (Instr.Free q layout site) is change =
          let f = fine (Instr.Free q layout site) is in
          let hold = free_hold m.own.stage change in
          let same = at_gate (Instr.Free q layout site) is q f.0.0 hold f.0.1 in
          let freed : freed_at i m ≡ Some n = ap (λ j. freed_at j m) is ∙ free_at m.own.stage (ref m q) change ∙ ap (λ k. Some k) (sym same) in
          let m' = (after_turn bounds (one_thread code s) g one).threads t in
          let dead = freed_gone ls t m m' world.obj n i freed in
          let live' : (objects_behind ls t i m m' world.obj n).live ≡ true = ap (λ (f : ℕ → ObjectState). (f n).live) (sym (objects_then laws keeps cell_laws pointers x code s ls wt fits few one earlier h may)) ∙ live in
          yes (sym live' ∙ dead)
      by _ is change = absurd (cc)

  pub unless_made : (o : Object) → ((e : SourceEvent) → event ≡ Some e → begins o e ≡ false) → changes_objects i ((place_after code s earlier).threads one.thread) ≡ true → (h.world.obj (number_of o)).live ≡ false → (then_.world.obj (number_of o)).live ≡ true → ⊥
  unless_made (Object.Global q) none c dead live = let a : (world.obj 0).live ≡ true = ap (λ (y : ObjectState). y.live) h.state.globals in yes (sym a ∙ dead)
  unless_made (Object.Made n) none c dead live =
      let m' = (after_turn bounds (one_thread code s) g one).threads t in
      let live' : (objects_behind ls t i m m' world.obj n).live ≡ true = ap (λ (f : ℕ → ObjectState). (f n).live) (sym (objects_then laws keeps cell_laws pointers x code s ls wt fits few one earlier h may)) ∙ live in
      ⊎_elim
      (λ (old : (world.obj n).live ≡ true). yes (sym old ∙ dead))
      (λ (made : header_of i m.own.stage ≡ Some n). makes_it event tells made none)
      (was_live ls t m m' world.obj n i (λ r site e. given laws keeps cell_laws pointers x code s ls wt fits few one earlier h may r site e) live')
    where
      makes_it : (ev : Option SourceEvent) → Tells ev → header_of i ((place_after code s earlier).threads one.thread).own.stage ≡ Some n → ((e : SourceEvent) → ev ≡ Some e → begins (Object.Made n) e ≡ false) → ⊥
      makes_it None about is none = let f : None ≡ Some n = about.makes ∙ is in cc
      makes_it (Some e) about is none =
          let a : makes (Object.Made n) e ≡ true = ap (Rattle.sharc_meaning.specs.Events.is_number n) (about.makes ∙ is) ∙ number_yes n in
          yes (sym (or_left (makes (Object.Made n) e) (gives (Object.Made n) e) a) ∙ none e refl)

  -- one that counts on stands
  old_stands : (o : Object) (granule u : ℕ) (write : Bool) → ((e : SourceEvent) → event ≡ Some e → begins o e ≡ false) → (has_returned ((place_after code s earlier).threads one.thread) ≡ true → u ≡ one.thread → ⊥)
      → Stands h.world (number_of o) (index_of code o granule) u write → Stands then_.world (number_of o) (index_of code o granule) u write
  old_stands o granule u write none back old = carried (size_of_run code s) (lang_of x) world h.state.inv t (number_of o) (index_of code o granule) u write
      (has_returned m) (changes_objects i m) then_.world (effect_then laws keeps cell_laws pointers x code s ls wt fits few one earlier h may)
      (unless_given o none) (unless_made o none) back old

  -- ---- what is known of the access sets
  abbrev AllStand : Newest → World → Type 0
  AllStand L w = (o : Object) (granule u : ℕ) (write : Bool) → InSet L o granule u write → Stands w (number_of o) (index_of code o granule) u write

  abbrev NoneReturned : Newest → (ℕ → Machine) → Type 0
  NoneReturned L threads = (u : ℕ) → has_returned (threads u) ≡ true → (o : Object) (granule : ℕ) (write : Bool) → InSet L o granule u write → ⊥

  module _ (L : Newest) (stands : AllStand L h.world) (returned : NoneReturned L (place_after code s earlier).threads) where
    back_of : (o : Object) (granule u : ℕ) (write : Bool) → InSet L o granule u write → has_returned ((place_after code s earlier).threads one.thread) ≡ true → u ≡ one.thread → ⊥
    back_of o granule u write is r same = returned t r o granule write (subst (λ u. InSet L o granule u write) same is)

    pub stands_then : (ev : Option SourceEvent) → event ≡ ev → AllStand (pushed ev L) then_.world
    stands_then None e o granule u write is = old_stands o granule u write (λ d q. absurd (let f : None ≡ Some d = sym e ∙ q in cc)) (back_of o granule u write is) (stands o granule u write is)
    stands_then (Some d) e o granule u write is = ⊎_elim
        (λ (here : IsHere d o granule u write). subst (λ u. Stands then_.world (number_of o) (index_of code o granule) u write) (sym (thread_is d e o granule u write here)) (here_stands d e o granule u write here))
        (λ (old : (begins o d ≡ false) × Goes d u × InSet L o granule u write).
        old_stands o granule u write (λ c q. let same : d ≡ c = let f : Some d ≡ Some c = sym e ∙ q in cc in subst (λ c. begins o c ≡ false) same old.0) (back_of o granule u write old.2) (stands o granule u write old.2))
        is

    -- an access of before by another thread
    beside : (d : SourceEvent) → event ≡ Some d → (o : Object) (granule u v : ℕ) (write kind : Bool) → IsHere d o granule u write → InSet L o granule v kind → (write || kind) ≡ true → u ≡ v
    beside d e o granule u v write kind here old some = ⊎_elim
        (λ (p : Passed (world.gran (number_of o) (index_of code o granule)) v kind).
        let mine = passed_now d e o granule u write here in
        let bits = h.state.inv.bits (number_of o) (index_of code o granule) in
        thread_is d e o granule u write here ∙ alone write kind some mine p bits)
        (λ w. absurd (not_without d e o granule u write here w))
        (stands o granule v kind old)
      where
        reads : (g : _) (k : ℕ) (b : Bool) → Passed g k b → Passed g k false
        reads g k true p = inr p
        reads g k false p = p

        alone : (a b : Bool) → (a || b) ≡ true → Passed (h.world.gran (number_of o) (index_of code o granule)) one.thread a → Passed (h.world.gran (number_of o) (index_of code o granule)) v b
            → Rattle.sharc_invariant.specs.Granules.Bits (size_of_run code s).threads (h.world.gran (number_of o) (index_of code o granule)) → one.thread ≡ v
        alone true b some p q bits = bits.alone t v p (reads (world.gran (number_of o) (index_of code o granule)) v b q)
        alone false true some p q bits = sym (bits.alone v t q (reads (world.gran (number_of o) (index_of code o granule)) t false p))
        alone false false some p q bits = absurd (let f : false ≡ true = some in cc)

    pub clean_then : NoConflict L → (d : SourceEvent) → event ≡ Some d → NoConflict (d ∷ L)
    clean_then clean d e = record {
      none = λ o granule u v kind a b. ⊎_elim
          (λ (mine : IsHere d o granule u true). ⊎_elim
          (λ (other : IsHere d o granule v kind). sym mine.thread ∙ other.thread)
          (λ (old : (begins o d ≡ false) × Goes d v × InSet L o granule v kind). beside d e o granule u v true kind mine old.2 refl)
          b)
          (λ (mine : (begins o d ≡ false) × Goes d u × InSet L o granule u true). ⊎_elim
          (λ (other : IsHere d o granule v kind). sym (beside d e o granule v u kind true other mine.2 (or_right kind true refl)))
          (λ (old : (begins o d ≡ false) × Goes d v × InSet L o granule v kind). clean.none o granule u v kind mine.2 old.2)
          b)
          a;
    }

    -- ---- threads that have returned
    abbrev x' : Machine
    x' = after (turn code s ((place_after code s earlier).threads one.thread)) found

    -- a turn of Exit that says that the thread returns, or one of a thread that has
    own_returned : has_returned (after (turn code s ((place_after code s earlier).threads one.thread)) found) ≡ true → (has_returned ((place_after code s earlier).threads one.thread) ≡ true × (access_said event ≡ None)) ⊎ ((d : SourceEvent) × (event ≡ Some d) × (d.act ≡ Act.Return))
    own_returned is = elim (is_exit i) as (λ b. is_exit i ≡ b → (has_returned m ≡ true × (access_said event ≡ None)) ⊎ ((d : SourceEvent) × (event ≡ Some d) × (d.act ≡ Act.Return))) [
      | true ↦ λ yes_. at_exit (exit_is i yes_) m.own.stage refl
      | false ↦ λ never. absurd (not_exit never)
    ] refl
      where
        exit_is : (j : Instr) → is_exit j ≡ true → j ≡ Instr.Exit
        exit_is Instr.Exit e = refl
        exit_is _ e = absurd (cc)

        not_exit : is_exit i ≡ false → ⊥
        not_exit never =
            let out = laws.turns.outcomes code s i m found in
            let w : is_withdrawing (after (turn code s m) found).own.stage ≡ true = parts (is_withdrawing (after (turn code s m) found).own.stage) (is_ended (after (turn code s m) found).at.state) is (unended s i found m _ out never) in
            no_exit i never m.own.stage (withdraws_still s i found m _ out never w) rn.stage
          where
            parts : (a b : Bool) → (a || b) ≡ true → b ≡ false → a ≡ true
            parts true b e f = refl
            parts false b e f = absurd (let z : true ≡ false = sym e ∙ f in cc)

            exit_of : (P : Type 0) (j : Instr) → OnExit P j → is_exit j ≡ true
            exit_of P Instr.Exit z = refl
            exit_of P _ z = absurd z

            no_exit : (j : Instr) → is_exit j ≡ false → (stage : Stage) → is_withdrawing stage ≡ true → StageStands code s h.state.elements h.world h.state.heap (place_after code s earlier).words one.thread ((place_after code s earlier).threads one.thread) j stage → ⊥
            no_exit j n (Withdraws row) w z = yes (sym (exit_of _ j z) ∙ n)
            no_exit j n (WithdrawsFrom row seen) w z = yes (sym (exit_of _ j z) ∙ n)
            no_exit j n Leaves w z = yes (sym (exit_of _ j z) ∙ n)
            no_exit j n _ w z = absurd (cc)

        event_at : i ≡ Instr.Exit → (stage : Stage) → ((place_after code s earlier).threads one.thread).own.stage ≡ stage → event ≡ in_exit code ((place_after code s earlier).threads one.thread) stage
        event_at is stage e = ap (λ j. said code j m found elements) is ∙ ap (in_exit code m) e

        back : (stage : Stage) → ((place_after code s earlier).threads one.thread).own.stage ≡ stage → is_withdrawing stage ≡ true → has_returned ((place_after code s earlier).threads one.thread) ≡ true
        back stage e w = ap (λ b. b || is_ended m.at.state) (ap is_withdrawing e ∙ w)

        at_exit : i ≡ Instr.Exit → (stage : Stage) → ((place_after code s earlier).threads one.thread).own.stage ≡ stage → (has_returned ((place_after code s earlier).threads one.thread) ≡ true × (access_said event ≡ None)) ⊎ ((d : SourceEvent) × (event ≡ Some d) × (d.act ≡ Act.Return))
        at_exit is (Withdraws row) e = inl (back (Withdraws row) e refl, ap access_said (event_at is (Withdraws row) e))
        at_exit is (WithdrawsFrom row seen) e = inl (back (WithdrawsFrom row seen) e refl, ap access_said (event_at is (WithdrawsFrom row seen) e))
        at_exit is Leaves e = inl (back Leaves e refl, ap access_said (event_at is Leaves e))
        at_exit is _ e = inr (_, event_at is _ e, refl)

    goes_not : (d : SourceEvent) → event ≡ Some d → d.act ≡ Act.Return → Goes d one.thread → ⊥
    goes_not d e act goes =
        let thread : d.thread ≡ t = ap (thread_said m.own.number) (sym e) ∙ tells.thread ∙ number_is cell_laws pointers rights laws keeps x code s ls wt fits few one earlier h may in
        let a : is_of t d ≡ true = ap (λ n. n == t) thread ∙ (let q : (t == t) ≡ true = grind (arith, nat_tests) in q) in
        yes (sym (ap (λ b. b && ends until_return d.act) a ∙ ap (ends until_return) act) ∙ goes)

    own_none : (ev : Option SourceEvent) → event ≡ ev → has_returned (after (turn code s ((place_after code s earlier).threads one.thread)) found) ≡ true → (o : Object) (granule : ℕ) (write : Bool) → InSet (pushed ev L) o granule one.thread write → ⊥
    own_none None e is o granule write member = ⊎_elim
        (λ z. returned t z.0 o granule write member)
        (λ (z : (d : SourceEvent) × (event ≡ Some d) × (d.act ≡ Act.Return)). let f : None ≡ Some z.0 = sym e ∙ z.1 in cc)
        (own_returned is)
    own_none (Some d) e is o granule write member = ⊎_elim
        (λ (here : IsHere d o granule t write). ⊎_elim
        (λ z. let f : None ≡ Some here.access = sym z.1 ∙ ap access_said e ∙ here.is in cc)
        (λ (z : (d : SourceEvent) × (event ≡ Some d) × (d.act ≡ Act.Return)).
        let same : z.0 ≡ d = let f : Some z.0 ≡ Some d = sym z.1 ∙ e in cc in
        let f : None ≡ Some here.access = sym (ap access_by (ap (λ (d : SourceEvent). d.act) (sym same) ∙ z.2)) ∙ here.is in cc)
        (own_returned is))
        (λ (old : (begins o d ≡ false) × Goes d t × InSet L o granule t write). ⊎_elim
        (λ z. returned t z.0 o granule write old.2)
        (λ (z : (d : SourceEvent) × (event ≡ Some d) × (d.act ≡ Act.Return)). goes_not z.0 z.1 z.2 (let same : d ≡ z.0 = let f : Some d ≡ Some z.0 = sym e ∙ z.1 in cc in subst (λ d. Goes d t) same old.1))
        (own_returned is))
        member

    others_none : (ev : Option SourceEvent) → event ≡ ev → (u : ℕ) → (u ≡ one.thread → ⊥) → has_returned ((place_after code s earlier).threads u) ≡ true → (o : Object) (granule : ℕ) (write : Bool) → InSet (pushed ev L) o granule u write → ⊥
    others_none None e u ne is o granule write member = returned u is o granule write member
    others_none (Some d) e u ne is o granule write member = ⊎_elim
        (λ (here : IsHere d o granule u write). ne (thread_is d e o granule u write here))
        (λ (old : (begins o d ≡ false) × Goes d u × InSet L o granule u write). returned u is o granule write old.2)
        member

    pub returned_then : (ev : Option SourceEvent) → event ≡ ev → NoneReturned (pushed ev L) (after_turn bounds (one_thread code s) (place_after code s earlier) one).threads
    returned_then ev e u is o granule write member =
        let now = state_now (one_thread code s) g one in
        ⊎_elim
        (λ (same : u ≡ t). own_none ev e (ap has_returned (sym (put_same g.threads t now)) ∙ ap (λ u. has_returned (put g.threads t now u)) (sym same) ∙ is) o granule write (subst (λ u. InSet (pushed ev L) o granule u write) same member))
        (λ (ne : u ≡ t → ⊥). others_none ev e u ne (ap has_returned (sym (put_other g.threads t u now ne)) ∙ is) o granule write member)
        (cases_eq u t)

-- ---- runs
pub record Shares (x : Targets) (code : Code) (s : Shape) (ls : Labels) (run : List Turn) (h : Consists x code s ls run) (L : Newest) : Type 0 where
  pub stands : (o : Object) (granule u : ℕ) (write : Bool) → InSet L o granule u write → Stands h.world (number_of o) (index_of code o granule) u write
  pub returned : (u : ℕ) → has_returned ((place_after code s run).threads u) ≡ true → (o : Object) (granule : ℕ) (write : Bool) → InSet L o granule u write → ⊥
  pub clean : Clean L

module _ (state_law : StateStands) (cell_laws : CellsAreThere) (pointers : PointersAreThere) (rights : AccessesAreAllowed) (laws : RunLaws) (begins_law : CodeBegins) (keeps : Keeps) (x : Targets) (code : Code) (s : Shape) (ls : Labels) (wt : IsWellTyped x code ls) (fits : Fits code s) (few : IsSmall code s) where
  clean_pushed : (ev : Option SourceEvent) (L : Newest) → Clean L → ((d : SourceEvent) → ev ≡ Some d → NoConflict (d ∷ L)) → Clean (pushed ev L)
  clean_pushed None L old new = old
  clean_pushed (Some d) L old new = (new d refl, old)

  pub shares : (run : List Turn) → RunOf code s run → (h : Consists x code s ls run) × Shares x code s ls run h (newest code s run)
  shares = over_runs cell_laws pointers laws begins_law keeps x code s ls wt fits few (Shares x code s ls)
      (record { stands = λ o granule u write is. absurd is; returned = λ u is o granule write member. member; clean = tt })
      (λ one earlier h may _ old.
      let ev = said_now code (table_of code s earlier) ((place_after code s earlier).threads one.thread) (result_of one.event) in
      let L = newest code s earlier in
      record {
        stands = stands_then state_law cell_laws pointers rights laws keeps x code s ls wt fits few one earlier h may L old.stands old.returned ev refl;
        returned = returned_then state_law cell_laws pointers rights laws keeps x code s ls wt fits few one earlier h may L old.stands old.returned ev refl;
        clean = clean_pushed ev L old.clean
            (λ d e. clean_then state_law cell_laws pointers rights laws keeps x code s ls wt fits few one earlier h may L old.stands old.returned (Rattle.sharc_history_laws.proofs.Sets.clean_now L old.clean) d e);
      })
