-- From its New or Give to its next Give or Freed each cell of an object is accessed under one mode, and a cell of a global always.
use Rattle.sharc_history_laws.proofs.{Imports.{◌≡◌, ℕ, zero, suc, ◌+◌, ◌-◌, ◌*◌, ◌≤◌, ◌≢◌, Bool, List, [], ◌∷◌, Some, refl, sym, ap, ◌∙◌, subst, arith, map, slice_index_or, CellAt, CellMode as EventMode, Object, CellMode, Code, PlaceMode, Cell, Shape, word_of, Fits, Machine, ref, int, place, IsInGlobal, Global, cell_at, global_cell, made_cell, mode_of, no_global, lock_through, Targets, Field, FieldMode, Lock, Mutex, ObjectType, StaticType, field_in, lock_number, mutex_of, type_of, GlobalLock, Through, Self, OfType, OfGlobals, OfElement, HoldsLoaded, Refers, Labels, IsWellTyped, HasCell, HasBase, MayAccess, IsMode, IsTypeMode, IsLockMode, IsLockCell, IsTypeLock, IsSibling, no_lock, RegisterOf, In, CellOf, IsLoaded, World, WinOk, in_ref, base_of, lang_of, State, GateStands, EntryStands, OnHold, types_at, base_of_cell, object_of_cell, number_in, IsOn, CellsAreThere}, TurnAt.thread_at, Stands.{top, gate, reads_ref, known_ref, there, rn}, Finds.is_there, Shared.number_of, Locked.{Names, names_one, same_refs, number_of_global, number_of_element, same_type, element_one}, LockModes.{through_some, refers_eq}}

-- the number of a cell in its object, as the world has it
abbrev pub place_of : Code → Object → ℕ → ℕ
place_of code (Object.Global g) cell = 2 * (slice_index_or code.globals.items g no_global).granule + cell - 2
place_of code (Object.Made n) cell = cell

-- the mode that a cell of such a field has now
abbrev pub ModeBy : Code → World → CellAt → (o j : ℕ) → FieldMode → EventMode → Type 0
ModeBy code w c o j FieldMode.Private mode = mode ≡ CellMode.Private
ModeBy code w c o j FieldMode.Readonly mode = mode ≡ CellMode.Readonly
ModeBy code w c o j FieldMode.Racy mode = mode ≡ CellMode.Racy
ModeBy code w c o j FieldMode.Dynamic mode = mode ≡ CellMode.Dynamic
ModeBy code w c o j (FieldMode.Under (OfType k)) mode = (d : CellAt) × (mode ≡ CellMode.Locked (Some d)) × Names code d (lock_number (w.obj o).ty k).object (2 * ((lock_number (w.obj o).ty k).object + 1) + (lock_number (w.obj o).ty k).cell)
ModeBy code w c o j (FieldMode.Under (OfGlobals q)) mode = (d : CellAt) × (mode ≡ CellMode.Locked (Some d)) × Names code d 0 (2 * (0 + 1) + q)
ModeBy code w c o j (FieldMode.Under (OfElement field mutex)) mode = mode ≡ CellMode.Locked (Some record { object = c.object; cell = c.cell - field + mutex })
ModeBy code w c o j (FieldMode.Behind field pointer) mode = (mode ≡ CellMode.Locked (Some (made_cell (w.slots (CellOf o (j - field + pointer))).reference 0))) × ((w.slots (CellOf o (j - field + pointer))).reference ≢ 0)

abbrev pub ModeOf : Targets → Code → World → CellAt → EventMode → Type 0
ModeOf x code w c mode = ModeBy code w c (number_of c.object) (place_of code c.object c.cell) (field_in x (w.obj (number_of c.object)).ty (place_of code c.object c.cell)).mode mode

-- it has one
pub one_by : (x : Targets) (code : Code) (ls : Labels) (wt : IsWellTyped x code ls) (w : World) (c : CellAt) (o j : ℕ) (f : FieldMode) (a b : EventMode) → ModeBy code w c o j f a → ModeBy code w c o j f b → a ≡ b
one_by x code ls wt w c o j (FieldMode.Under (OfType q)) a b h k = h.1 ∙ ap (λ d. CellMode.Locked (Some d)) (names_one x code ls wt h.0 k.0 _ _ h.2 k.2) ∙ sym k.1
one_by x code ls wt w c o j (FieldMode.Under (OfGlobals q)) a b h k = h.1 ∙ ap (λ d. CellMode.Locked (Some d)) (names_one x code ls wt h.0 k.0 _ _ h.2 k.2) ∙ sym k.1
one_by x code ls wt w c o j (FieldMode.Behind field pointer) a b h k = h.0 ∙ sym k.0
one_by x code ls wt w c o j _ a b h k = h ∙ sym k

map_at : {A B : Type 0} (f : A → B) (xs : List A) (k : ℕ) (d : A) → slice_index_or (map f xs) k (f d) ≡ f (slice_index_or xs k d)
map_at f [] k d = refl
map_at f (x ∷ xs) zero d = refl
map_at f (x ∷ xs) (suc k) d = map_at f xs k d

-- ---- the mode of an access
module _ (cell_laws : CellsAreThere) (x : Targets) (code : Code) (s : Shape) (ls : Labels) (wt : IsWellTyped x code ls) (fits : Fits code s) (g : Global Machine) (world : World) (st : State x code s ls g world) (t : ℕ) (on : IsOn g t) (hold : OnHold (g.threads t).own.stage) where
  open thread_at st t use {m, here, view, refs}

  reads : (r : ℕ) → ref (g.threads t) r ≡ refs r
  reads r = reads_ref x code s ls wt fits g world st t on hold r

  abbrev NamesMutex : CellAt → Mutex → Type 0
  NamesMutex d mutex = Names code d mutex.object (2 * (mutex.object + 1) + mutex.cell)

  abbrev IsLockedAs : CellAt → PlaceMode → Mutex → Type 0
  IsLockedAs at mode mutex = (d : CellAt) × (mode_of code (g.threads t) at mode ≡ CellMode.Locked (Some d)) × NamesMutex d mutex

  global_mode : (at : CellAt) (q : ℕ) (mode : PlaceMode) → IsLockMode code here 0 (GlobalLock q) mode → IsLockedAs at mode (record { object = 0; cell = q })
  global_mode at q mode is =
      let inside : IsInGlobal code.globals.items is.0 (q + 2) = record { known = is.2.is; low = is.2.from; high = is.2.until } in
      let low = is.2.from in
      let e : q + 2 ≡ 2 * (0 + 1) + q = omega arith in
      (global_cell code is.0 (q + 2), ap (mode_of code m at) is.1, (refl, subst (IsInGlobal code.globals.items is.0) e inside, omega arith))

  through_mode : (at : CellAt) (a j v : ℕ) (mode : PlaceMode) → mode ≡ PlaceMode.LockedThrough a j → ref (g.threads t) a ≡ v → v ≢ 0 → IsLockedAs at mode (record { object = v; cell = j })
  through_mode at a j v mode is same nz =
      let some : lock_through (ref m a) j ≡ Some (made_cell v j) = ap (λ n. lock_through n j) same ∙ through_some v j nz in
      (made_cell v j, ap (mode_of code m at) is ∙ ap (λ mutex. CellMode.Locked mutex) some, (refl, nz, refl))

  -- the lock of a type
  lock_mode_is : (at : CellAt) (r : ℕ) (lock : Lock) (d : Cell) (mode : PlaceMode) → IsLockCell code here r lock d → HasBase here d → IsLockMode code here r lock mode → IsLockedAs at mode (mutex_of refs (refs r) lock)
  lock_mode_is at r (GlobalLock q) d mode cell base is = global_mode at q mode is
  lock_mode_is at r (Through q j) (Cell.Object a i) mode cell base is =
      let same : ref m is.0 ≡ refs q = same_refs x code s ls wt fits g world st t on hold is.0 q is.2 ∙ reads q in
      let nz : refs q ≢ 0 = λ z. known_ref x code s ls wt fits g world st t on hold a base (same_refs x code s ls wt fits g world st t on hold a q cell.1 ∙ reads q ∙ z) in
      through_mode at is.0 j (refs q) mode is.1 same nz
  lock_mode_is at r (Self j) (Cell.Object a i) mode cell base is =
      let same : ref m is.0 ≡ refs r = same_refs x code s ls wt fits g world st t on hold is.0 r is.2 ∙ reads r in
      let nz : refs r ≢ 0 = λ z. known_ref x code s ls wt fits g world st t on hold a base (same_refs x code s ls wt fits g world st t on hold a r cell.1 ∙ reads r ∙ z) in
      through_mode at is.0 j (refs r) mode is.1 same nz
  lock_mode_is at r _ _ mode cell base is = absurd cell

  -- of the object in a register
  type_is : (r : ℕ) (ty : StaticType) → here.env r ≡ Refers ty → ref (g.threads t) r ≢ 0 → (world.obj (ref (g.threads t) r)).ty ≡ type_of refs (refs r) ty
  type_is r ty e nz =
      let nzw : in_ref world (RegisterOf t (m.at.refs + r)) ≢ 0 = λ z. nz (reads r ∙ z) in
      let fit = st.inv.words.fits (In (RegisterOf t (m.at.refs + r))) nzw in
      let st_r = subst (EntryStands refs (types_at view m.at.refs) r) e ((top x code s ls wt fits g world st t on hold (suc r) 0).env r (omega arith)) nzw in
      subst (λ o. (world.obj o).ty ≡ type_of refs (refs r) ty) (sym (reads r)) (fit.typed ∙ st_r)

  type_lock : (r k : ℕ) (ty : StaticType) → here.env r ≡ Refers ty → ref (g.threads t) r ≢ 0 → lock_number (world.obj (ref (g.threads t) r)).ty k ≡ mutex_of refs (refs r) (slice_index_or ty.locks k no_lock)
  type_lock r k ty e nz = ap (λ ty. lock_number ty k) (type_is r ty e nz) ∙ map_at (mutex_of refs (refs r)) ty.locks k no_lock

  type_mode_is : (at : CellAt) (k : ℕ) (c d : Cell) (mode : PlaceMode) → IsTypeLock code here k c d → HasBase here c → HasBase here d → IsTypeMode code here k c mode → IsLockedAs at mode (lock_number (world.obj (object_of_cell (g.threads t) c)).ty k)
  type_mode_is at k (Cell.Global g' p) d mode cell bc bd is = absurd cell
  type_mode_is at k (Cell.GlobalAt g' i) d mode cell bc bd is = absurd cell
  type_mode_is at k (Cell.Object r i) d mode cell bc bd is =
      let same : is.0 ≡ cell.0 = refers_eq is.0 cell.0 (sym is.1 ∙ cell.1) in
      let a = lock_mode_is at r (slice_index_or cell.0.locks k no_lock) d mode cell.3 bd (subst (λ (ty : StaticType). IsLockMode code here r (slice_index_or ty.locks k no_lock) mode) same is.2) in
      subst (IsLockedAs at mode) (sym (type_lock r k cell.0 cell.1 (known_ref x code s ls wt fits g world st t on hold r bc))) a
  type_mode_is at k (Cell.ObjectAt r i) d mode cell bc bd is =
      let same : is.0 ≡ cell.0 = refers_eq is.0 cell.0 (sym is.1 ∙ cell.1) in
      let a = lock_mode_is at r (slice_index_or cell.0.locks k no_lock) d mode cell.3 bd (subst (λ (ty : StaticType). IsLockMode code here r (slice_index_or ty.locks k no_lock) mode) same is.2) in
      subst (IsLockedAs at mode) (sym (type_lock r k cell.0 cell.1 (known_ref x code s ls wt fits g world st t on hold r bc))) a

  -- the pointer of the same element
  sibling_is : (c d : Cell) (field pointer : ℕ) → IsSibling here field pointer c d → HasBase here c → (object_of_cell (g.threads t) d ≡ object_of_cell (g.threads t) c) × (number_in (g.threads t) d ≡ number_in (g.threads t) c - field + pointer)
  sibling_is (Cell.Global g' p) (Cell.Global h q) field pointer is b = let a = is.1 in let z = is.2 in (refl, omega arith)
  sibling_is (Cell.GlobalAt g' i) (Cell.GlobalAt h j) field pointer is b =
      let k = is.1 in
      let first = k.0 in
      let a = number_of_global x code s ls wt fits g world st t on hold i first k.1 k.2 k.3 k.4 in
      let e = number_of_global x code s ls wt fits g world st t on hold j (first - field + pointer) k.1 k.2 k.3 k.6 in
      let n : a.0 ≡ e.0 = element_one (rn x code s ls wt fits g world st t on hold).names a.0 e.0 k.3 a.2 e.2 in
      let low = k.5 in
      let wi : word_of (int m i) ≡ first + a.0 * k.1 = ap word_of a.1 in
      let wj : word_of (int m j) ≡ first - field + pointer + e.0 * k.1 = ap word_of e.1 in
      let times : a.0 * k.1 ≡ e.0 * k.1 = ap (λ n. n * k.1) n in
      (refl, numbers (word_of (int m i)) (word_of (int m j)) first (a.0 * k.1) field pointer low wi (omega arith))
    where
      numbers : (p q first more field pointer : ℕ) → field + 2 ≤ first → p ≡ first + more → q ≡ first - field + pointer + more → q - 2 * (0 + 1) ≡ p - 2 * (0 + 1) - field + pointer
      numbers p q first more field pointer low a b = omega arith
  sibling_is (Cell.Object r i) (Cell.Object q j) field pointer is b =
      let same = same_refs x code s ls wt fits g world st t on hold r q is.0 in
      let a = is.1 in let e = is.2 in
      (sym same, numbers (ref m q) (ref m r) i j field pointer e)
    where
      numbers : (n k i j field pointer : ℕ) → j ≡ i - field + pointer → 2 * (n + 1) + j - 2 * (n + 1) ≡ 2 * (k + 1) + i - 2 * (k + 1) - field + pointer
      numbers n k i j field pointer e = omega arith
  sibling_is (Cell.ObjectAt r i) (Cell.ObjectAt q j) field pointer is b =
      let same = same_refs x code s ls wt fits g world st t on hold r q is.0 in
      let k = is.1 in
      let a = number_of_element x code s ls wt fits g world st t on hold i r field k.0 k.1 in
      let e = number_of_element x code s ls wt fits g world st t on hold j q pointer k.0 k.2 in
      let n : a.0 ≡ e.0 = element_one (rn x code s ls wt fits g world st t on hold).names a.0 e.0 k.0 a.2 e.2 in
      let count : Rattle.sharc_invariant.specs.Types.cells_of x (types_at view m.at.refs r).target ≡ Rattle.sharc_invariant.specs.Types.cells_of x (types_at view m.at.refs q).target =
      ap (λ (ty : ObjectType). Rattle.sharc_invariant.specs.Types.cells_of x ty.target) (same_type x code s ls wt fits g world st t on hold r q (known_ref x code s ls wt fits g world st t on hold r b) same) in
      let times : a.0 * Rattle.sharc_invariant.specs.Types.cells_of x (types_at view m.at.refs r).target ≡ e.0 * Rattle.sharc_invariant.specs.Types.cells_of x (types_at view m.at.refs q).target =
      ap (λ n. n * Rattle.sharc_invariant.specs.Types.cells_of x (types_at view m.at.refs r).target) n ∙ ap (λ c. e.0 * c) count in
      let wi : word_of (int m i) ≡ a.0 * Rattle.sharc_invariant.specs.Types.cells_of x (types_at view m.at.refs r).target + field = ap word_of a.1 in
      let wj : word_of (int m j) ≡ e.0 * Rattle.sharc_invariant.specs.Types.cells_of x (types_at view m.at.refs q).target + pointer = ap word_of e.1 in
      (sym same, numbers (ref m q) (ref m r) (word_of (int m i)) (word_of (int m j)) (a.0 * Rattle.sharc_invariant.specs.Types.cells_of x (types_at view m.at.refs r).target) field pointer wi (omega arith))
    where
      numbers : (n k i j more field pointer : ℕ) → i ≡ more + field → j ≡ more + pointer → 2 * (n + 1) + j - 2 * (n + 1) ≡ 2 * (k + 1) + i - 2 * (k + 1) - field + pointer
      numbers n k i j more field pointer a b = omega arith
  sibling_is _ _ field pointer is b = absurd is

  -- a lock behind a pointer
  behind_mode_is : (at : CellAt) (c d : Cell) (f f' : Field) (field pointer : ℕ) (mode : PlaceMode) → here.gate ≡ HoldsLoaded d → HasCell x code here c f → HasCell x code here d f' → IsSibling here field pointer c d → mode ≡ PlaceMode.LockedLoaded
      → (mode_of code (g.threads t) at mode ≡ CellMode.Locked (Some (made_cell (world.slots (CellOf (object_of_cell (g.threads t) c) (number_in (g.threads t) c - field + pointer))).reference 0)))
      × ((world.slots (CellOf (object_of_cell (g.threads t) c) (number_in (g.threads t) c - field + pointer))).reference ≢ 0)
  behind_mode_is at c d f f' field pointer mode gt hc hd sib is =
      let k = subst (GateStands s world t m) gt (gate x code s ls wt fits g world st t on hold) in
      let th = there x code s ls wt fits g world st t on hold cell_laws d f' hd in
      let e = sibling_is c d field pointer sib hc.base in
      let ok : WinOk (lang_of x) world t (IsLoaded (base_of_cell m d) (number_in m d) m.pending) = subst (WinOk (lang_of x) world t) k.0 (st.inv.wins t) in
      let slot : (world.slots (CellOf (object_of_cell m c) (number_in m c - field + pointer))).reference ≡ m.pending =
      ap (λ o. (world.slots (CellOf o (number_in m c - field + pointer))).reference) (sym (th.base ∙ e.0)) ∙ ap (λ j. (world.slots (CellOf (base_of world t (base_of_cell m d)) j)).reference) (sym e.1) ∙ ok.1 in
      (ap (mode_of code m at) is ∙ ap (λ mutex. CellMode.Locked mutex) (through_some m.pending 0 k.1) ∙ ap (λ v. CellMode.Locked (Some (made_cell v 0))) (sym slot), λ z. k.1 (sym slot ∙ z))

  -- all of them
  pub mode_now : (c : Cell) (f : Field) (write : Bool) (at : CellAt) (mode : PlaceMode) → at ≡ cell_at code (g.threads t) c → HasCell x code here c f → (fm : FieldMode) → MayAccess x code ls here write c f.holds fm → IsMode code here c fm mode
      → ModeBy code world at (object_of_cell (g.threads t) c) (number_in (g.threads t) c) fm (mode_of code (g.threads t) at mode)
  mode_now c f write at mode e hc (FieldMode.Under (OfType k)) may_do is = type_mode_is at k c may_do.0 mode may_do.5 hc.base may_do.3.base is
  mode_now c f write at mode e hc (FieldMode.Under (OfGlobals q)) may_do is = global_mode at q mode is
  mode_now c f write at mode e hc (FieldMode.Under (OfElement field mutex)) may_do is = ap (mode_of code m at) is.0
  mode_now c f write at mode e hc (FieldMode.Behind field pointer) may_do is = behind_mode_is at c may_do.0 f may_do.1 field pointer mode may_do.2 hc may_do.3 may_do.5 is
  mode_now c f write at mode e hc _ may_do is = ap (mode_of code m at) is

  -- where the cell is in the world
  pub numbers_now : (c : Cell) (f : Field) → HasCell x code here c f → (number_of (cell_at code (g.threads t) c).object ≡ object_of_cell (g.threads t) c) × (place_of code (cell_at code (g.threads t) c).object (cell_at code (g.threads t) c).cell ≡ number_in (g.threads t) c)
  numbers_now (Cell.Global q p) f c =
      let there = is_there cell_laws x code s ls wt fits g world st t on hold (Cell.Global q p) f c.field refl in
      let from = there.low in
      (refl, omega arith)
  numbers_now (Cell.GlobalAt q r) f c =
      let there = is_there cell_laws x code s ls wt fits g world st t on hold (Cell.GlobalAt q r) f c.field refl in
      let from = there.low in
      (refl, halves (place m (Cell.GlobalAt q r)) (slice_index_or code.globals.items q no_global).granule from)
    where
      halves : (p granule : ℕ) → 2 * granule ≤ p → 2 * granule + (p - 2 * granule) - 2 ≡ p - 2 * (0 + 1)
      halves p granule from = omega arith
  numbers_now (Cell.Object r p) f c = (refl, omega arith)
  numbers_now (Cell.ObjectAt r q) f c = (refl, within (ref m r) (word_of (int m q)))
    where
      within : (o p : ℕ) → p ≡ 2 * (o + 1) + p - 2 * (o + 1)
      within o p = omega arith
