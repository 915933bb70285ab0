-- An object that was there before a turn and is there after it has cells with the same contents.
use Rattle.sharc_history_laws.proofs.{Imports.{◌≡◌, ℕ, ◌+◌, ◌*◌, ◌%◌, ◌<◌, ◌≢◌, Bool, true, false, length, List, ◌∷◌, Some, refl, sym, ap, ◌∙◌, subst, ⊎_elim, arith, cases_eq, nat_tests, ◌==◌, Code, Instr, Shape, RunLaws, Fits, Machine, act, ref, turn, after, Turn, Global, MayTurn, state_now, result_of, one_thread, bounds, place_after, Elements, Targets, StaticType, Field, Content, Integer, MutexWord, Waiters, Pointer, cells_of, field_at, field_of_cell, field_in, globals_target, Label, Labels, empty, IsWellTyped, Fine, IsSameContent, ObjectState, World, objects_behind, owned, type_held, State, IsSmall, StageStands, Keeps, CellsAreThere, PointersAreThere, yes, put_same}, TurnAt.turn_at, Acts.{given_at, freed_at}, Born.filled_target, Consists.{Consists, consists_then, objects_then, given}, Contents.value_held, Rules.{same_behind, freed_gone, decide}, Single.rests_hold, Sparing.{is_value, holds_waiters}, Stands.{target_ref, sole_ref}, Tables.{header_of, was_live, length_kept}, Writes.writes}

-- ---- contents of one kind
pub record SameContent (a b : Content) : Type 0 where
  pub kind : is_value a ≡ is_value b
  pub waiters : holds_waiters a ≡ holds_waiters b
  pub held : (T : Elements) (v : ℕ) → value_held a T v ≡ value_held b T v

same_as : (a b : Content) → a ≡ b → SameContent a b
same_as a b e = subst (SameContent a) e (record { kind = refl; waiters = refl; held = λ T v. refl })

recast : (l : Label) (r : ℕ) (s t : StaticType) (a b : Content) → IsSameContent l r s t a b → SameContent a b
recast l r s t (Pointer f) (Pointer k) e = record { kind = refl; waiters = refl; held = λ T v. refl }
recast l r s t (Pointer f) (Integer w) e = same_as (Pointer f) (Integer w) e
recast l r s t (Pointer f) MutexWord e = same_as (Pointer f) MutexWord e
recast l r s t (Pointer f) Waiters e = same_as (Pointer f) Waiters e
recast l r s t (Integer w) b e = same_as (Integer w) b e
recast l r s t MutexWord b e = same_as MutexWord b e
recast l r s t Waiters b e = same_as Waiters b e

-- ---- fields of objects that are not the globals
module _ (x : Targets) (code : Code) (s : Shape) (ls : Labels) (g : Global Machine) (world : World) (st : State x code s ls g world) where
  pub field_is : (o j : ℕ) → o ≢ 0 → (world.obj o).live ≡ true → field_in x (world.obj o).ty j ≡ field_of_cell x (world.obj o).ty.target j
  field_is o j nz live =
      let row = (st.rows o nz live).1 in
      let e : ((world.obj o).ty.target == globals_target x) ≡ false = other (world.obj o).ty.target (length x.rows) row in
      by ((world.obj o).ty.target == globals_target x) e
    where
      other : (a n : ℕ) → a < n → (a == n) ≡ false
      other a n lt = grind (arith, nat_tests)

      by : (b : Bool) → b ≡ false → (elim b as (λ b. Field) [ true ↦ Rattle.sharc_invariant.specs.Types.global_field x j | false ↦ field_of_cell x (world.obj o).ty.target j ]) ≡ field_of_cell x (world.obj o).ty.target j
      by true e = absurd (yes e)
      by false e = refl

-- ---- one turn
module _ (laws : RunLaws) (keeps : Keeps) (cells : CellsAreThere) (pointers : PointersAreThere) (x : Targets) (code : Code) (s : Shape) (ls : Labels) (wt : IsWellTyped x code ls) (fits : Fits code s) (few : IsSmall code s)
    (one : Turn) (earlier : List Turn) (h : Consists x code s ls earlier) (may : MayTurn bounds (one_thread code s) (place_after code s earlier) one) where
  open turn_at code s (place_after code s earlier) one use {g, t, m, i, m'}

  abbrev then_ : Consists x code s ls (one ∷ earlier)
  then_ = consists_then laws keeps cells pointers x code s ls wt fits few one earlier h may

  abbrev behind : ℕ → ObjectState
  behind = objects_behind ls one.thread i ((place_after code s earlier).threads one.thread) m' h.world.obj

  at_object : (o : ℕ) → then_.world.obj o ≡ behind o
  at_object o = ap (λ (f : ℕ → ObjectState). f o) (objects_then laws keeps cells pointers x code s ls wt fits few one earlier h may)

  -- ---- a Give: what the object's target was, and what it is
  module _ (o r site : ℕ) (is : i ≡ Instr.Give r site) (object : ref ((place_after code s earlier).threads one.thread) r ≡ o) where
    pub fine : Fine x code ls ((place_after code s earlier).threads one.thread).at.pc (ls.at ((place_after code s earlier).threads one.thread).at.pc) (Instr.Give r site)
    fine = subst (Fine x code ls m.at.pc (ls.at m.at.pc)) is (wt.fine m.at.pc)

    hold : Rattle.sharc_invariant.specs.State.OnHold ((place_after code s earlier).threads one.thread).own.stage
    hold = rests_hold code s h.state.elements h.world h.state.heap g.words t m (Instr.Give r site) m.own.stage refl (subst (λ j. StageStands code s h.state.elements h.world h.state.heap g.words t m j m.own.stage) is ((h.state.threads t).runs may.started may.next.runs).stage)

    some : ref ((place_after code s earlier).threads one.thread) r ≢ 0
    some = sole_ref x code s ls wt fits g h.world h.state t (may.started, may.next.runs) hold r true fine.0

    nz : o ≢ 0
    nz z = some (object ∙ z)

    pub old_target : (h.world.obj o).ty.target ≡ fine.2.0.target
    old_target = ap (λ k. (h.world.obj k).ty.target) (sym object) ∙ target_ref x code s ls wt fits g h.world h.state t (may.started, may.next.runs) hold r fine.2.0 fine.2.2 some

    pc_now : m'.at.pc ≡ ((place_after code s earlier).threads one.thread).at.pc + 1
    pc_now = ap (λ (y : Machine). y.at.pc) (put_same g.threads t (state_now (one_thread code s) g one)) ∙ ap (λ j. (after (act code s j m) (result_of one.event)).at.pc) is

    pub new_target : (then_.world.obj o).ty.target ≡ fine.2.1.target
    new_target =
        ap (λ (y : ObjectState). y.ty.target) (at_object o)
        ∙ ap (λ j. (objects_behind ls t j m m' h.world.obj o).ty.target) is
        ∙ ap (λ k. (Rattle.sharc_code.specs.Runs.put h.world.obj k (owned t (type_held ls m' r)) o).ty.target) object
        ∙ ap (λ (y : ObjectState). y.ty.target) (put_same h.world.obj o (owned t (type_held ls m' r)))
        ∙ filled_target ls (empty (ls.at m.at.pc) r) (m.at.pc + 1) r fine.2.1 r true m' fine.2.5 pc_now

  -- the object was there, with as many cells, and this cell's content
  pub record Kept (o j : ℕ) : Type 0 where
    pub live : (h.world.obj o).live ≡ true
    pub inside : j < h.state.cells o
    pub content : SameContent (field_in x (h.world.obj o).ty j).holds (field_in x (then_.world.obj o).ty j).holds

  -- it is there after the turn, which does not make it
  module _ (o : ℕ) (live' : (then_.world.obj o).live ≡ true) (old : header_of i ((place_after code s earlier).threads one.thread).own.stage ≡ Some o → ⊥) where
    unfreed : freed_at i ((place_after code s earlier).threads one.thread) ≡ Some o → ⊥
    unfreed e = yes (sym live' ∙ ap (λ (y : ObjectState). y.live) (at_object o) ∙ freed_gone ls t m m' h.world.obj o i e)

    pub was : (h.world.obj o).live ≡ true
    was = ⊎_elim (λ (z : (h.world.obj o).live ≡ true). z) (λ z. absurd (old z))
        (was_live ls t m m' h.world.obj o i (λ r site e. given laws keeps cells pointers x code s ls wt fits few one earlier h may r site e) (ap (λ (y : ObjectState). y.live) (sym (at_object o)) ∙ live'))

    -- as many cells, where elements have as many
    same_cells : o ≢ 0 → cells_of x (then_.world.obj o).ty.target ≡ cells_of x (h.world.obj o).ty.target → then_.state.cells o ≡ h.state.cells o
    same_cells nz e =
        let count : then_.state.elements o ≡ h.state.elements o = then_.state.sim.lengths o nz live'
        ∙ length_kept x code s ls g h.world h.state t o nz was one.event (turn code s m) may.next.asks (writes cells pointers x code s ls wt fits g h.world h.state t (may.started, may.next.runs))
        ∙ sym (h.state.sim.lengths o nz was) in
        (then_.state.whole o nz live').1 ∙ ap (λ n. n * cells_of x (then_.world.obj o).ty.target) count ∙ ap (λ k. h.state.elements o * k) e ∙ sym (h.state.whole o nz was).1

    -- no Give of it
    module _ (kept : given_at i ((place_after code s earlier).threads one.thread) ≡ Some o → ⊥) where
      same : then_.world.obj o ≡ h.world.obj o
      same = at_object o ∙ same_behind ls t m m' h.world.obj o i old kept unfreed

      all_cells : then_.state.cells o ≡ h.state.cells o
      all_cells = ⊎_elim
          (λ (z : o ≡ 0). ap then_.state.cells z ∙ then_.state.globals_cells ∙ sym h.state.globals_cells ∙ ap h.state.cells (sym z))
          (λ (nz : o ≡ 0 → ⊥). same_cells nz (ap (λ (y : ObjectState). cells_of x y.ty.target) same))
          (cases_eq o 0)

    -- a Give of it
    module _ (r site : ℕ) (is : i ≡ Instr.Give r site) (object : ref ((place_after code s earlier).threads one.thread) r ≡ o) where
      abbrev gave : Fine x code ls ((place_after code s earlier).threads one.thread).at.pc (ls.at ((place_after code s earlier).threads one.thread).at.pc) (Instr.Give r site)
      gave = fine o r site is object

      same_count : cells_of x (then_.world.obj o).ty.target ≡ cells_of x (h.world.obj o).ty.target
      same_count = ap (cells_of x) (new_target o r site is object) ∙ sym gave.2.3.cells ∙ ap (cells_of x) (sym (old_target o r site is object))

      all : then_.state.cells o ≡ h.state.cells o
      all = same_cells (nz o r site is object) same_count

    -- it has as many cells as before
    pub cells_stay : then_.state.cells o ≡ h.state.cells o
    cells_stay = ⊎_elim
        (λ (gave : given_at i m ≡ Some o). by i refl gave)
        (λ (not : given_at i m ≡ Some o → ⊥). all_cells not)
        (decide (given_at i m) o)
      where
        by : (k : Instr) → i ≡ k → given_at k ((place_after code s earlier).threads one.thread) ≡ Some o → then_.state.cells o ≡ h.state.cells o
        by (Instr.Give r site) is q = all r site is (let same : ref m r ≡ o = cc in same)
        by _ is q = absurd (cc)

  module _ (o j : ℕ) (live' : (then_.world.obj o).live ≡ true) (inside : j < then_.state.cells o) (old : header_of i ((place_after code s earlier).threads one.thread).own.stage ≡ Some o → ⊥) where
    old_inside : j < h.state.cells o
    old_inside = subst (λ n. j < n) (cells_stay o live' old) inside

    -- no Give of it
    unchanged : (given_at i ((place_after code s earlier).threads one.thread) ≡ Some o → ⊥) → Kept o j
    unchanged not = record {
      live = was o live' old;
      inside = old_inside;
      content = same_as (field_in x (h.world.obj o).ty j).holds (field_in x (then_.world.obj o).ty j).holds (ap (λ (y : ObjectState). (field_in x y.ty j).holds) (sym (same o live' old not)));
    }

    -- a Give of it
    module _ (r site : ℕ) (is : i ≡ Instr.Give r site) (object : ref ((place_after code s earlier).threads one.thread) r ≡ o) where
      abbrev give : Fine x code ls ((place_after code s earlier).threads one.thread).at.pc (ls.at ((place_after code s earlier).threads one.thread).at.pc) (Instr.Give r site)
      give = fine o r site is object

      some_cells : (n count k : ℕ) → k < n → n ≡ count * cells_of x give.2.0.target → cells_of x give.2.0.target ≢ 0
      some_cells n count k lt e z = let q : count * cells_of x give.2.0.target ≡ 0 = ap (λ c. count * c) z ∙ times_zero count in omega arith
        where
          times_zero : (n : ℕ) → n * 0 ≡ 0
          times_zero n = omega arith

      within : j % cells_of x give.2.0.target < cells_of x give.2.0.target
      within = rest j (cells_of x give.2.0.target) (some_cells (h.state.cells o) (h.state.elements o) j old_inside ((h.state.whole o (nz o r site is object) (was o live' old)).1 ∙ ap (λ c. h.state.elements o * cells_of x c) (old_target o r site is object)))
        where
          rest : (a b : ℕ) → b ≢ 0 → a % b < b
          rest a b ne = grind arith

      old_field : (field_in x (h.world.obj o).ty j).holds ≡ (field_at x give.2.0.target (j % cells_of x give.2.0.target)).holds
      old_field = ap (λ (f : Field). f.holds) (field_is x code s ls g h.world h.state o j (nz o r site is object) (was o live' old)) ∙ ap (λ k. (field_of_cell x k j).holds) (old_target o r site is object)

      new_field : (field_in x (then_.world.obj o).ty j).holds ≡ (field_at x give.2.1.target (j % cells_of x give.2.0.target)).holds
      new_field =
          ap (λ (f : Field). f.holds) (field_is x code s ls (place_after code s (one ∷ earlier)) then_.world then_.state o j (nz o r site is object) live')
          ∙ ap (λ k. (field_of_cell x k j).holds) (new_target o r site is object)
          ∙ ap (λ c. (field_at x give.2.1.target (j % c)).holds) (sym give.2.3.cells)

      recasted : Kept o j
      recasted = record {
        live = was o live' old;
        inside = old_inside;
        content = subst (λ (b : Content). SameContent (field_in x (h.world.obj o).ty j).holds b) (sym new_field)
            (subst (λ (a : Content). SameContent a (field_at x give.2.1.target (j % cells_of x give.2.0.target)).holds) (sym old_field)
            (recast (ls.at m.at.pc) r give.2.0 give.2.1 _ _ (give.2.3.same (j % cells_of x give.2.0.target) within)));
      }

    pub kept : Kept o j
    kept = ⊎_elim
        (λ (gave : given_at i m ≡ Some o). by i refl gave)
        (λ (not : given_at i m ≡ Some o → ⊥). unchanged not)
        (decide (given_at i m) o)
      where
        by : (k : Instr) → i ≡ k → given_at k ((place_after code s earlier).threads one.thread) ≡ Some o → Kept o j
        by (Instr.Give r site) is q = recasted r site is (let same : ref m r ≡ o = cc in same)
        by _ is q = absurd (cc)
