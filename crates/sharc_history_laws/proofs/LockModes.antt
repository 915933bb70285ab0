-- The mode of an access that a lock check is before names the mutex that the check looks for.
use Rattle.sharc_history_laws.proofs.{Imports.{◌≡◌, ℕ, pos, zero, suc, ◌+◌, ◌-◌, ◌*◌, ◌<◌, ◌≤◌, ◌≢◌, Some, refl, sym, ap, ◌∙◌, subst, arith, slice_index_or, CellAt, CellMode, Code, PlaceMode, Cell, Shape, word_of, Fits, Machine, ref, int, IsInGlobal, Global, cell_at, global_cell, made_cell, mode_of, no_global, lock_through, IsThere, Targets, Lock, FieldLock, StaticType, ObjectType, cells_of, GlobalLock, Through, Self, OfType, OfGlobals, OfElement, Under, Refers, Element, OfElementCell, OfGlobal, Number, Anything, Label, Labels, LessNumber, SameReference, Itself, IsCopy, HasCopy, Copies, Chained, IsWellTyped, IsMutexOf, IsMode, IsTypeMode, IsLockMode, IsLockCell, IsTypeLock, IsSibling, HasBefore, no_lock, State, ElementStands, OnHold, types_at, IsOn, place, object, less_number_refl}, TurnAt.thread_at, Stands.rn, Locked.{Names, some_ref, some_eq, names_one, names_cell, element_one, same_refs, number_of_global, number_of_element, same_type}}

pub refers_eq : (a b : StaticType) → Refers a ≡ Refers b → a ≡ b
refers_eq a b e = cc

-- ---- a label that says less
-- what it says are copies are copies by the label that says more
turned : (l : Label) (a b : ℕ) → SameReference l a b → SameReference l b a
turned l a b (Itself e) = Itself (sym e)
turned l a b (IsCopy e) = HasCopy e
turned l a b (HasCopy e) = IsCopy e
turned l a b (Copies e) = Copies (sym e)
turned l a b (Chained c p q) = Chained c (turned l c b q) (turned l a c p)

module _ (l k : Label) (copies : (r : ℕ) → SameReference l r (k.same r)) (numbers : (i : ℕ) → LessNumber (l.ints i) (k.ints i)) where
  copy_before : (a b : ℕ) → k.same a ≡ b → SameReference l a b
  copy_before a b e = subst (SameReference l a) e (copies a)

  same_before : (a b : ℕ) → SameReference k a b → SameReference l a b
  same_before a b (Itself e) = Itself e
  same_before a b (IsCopy e) = copy_before a b e
  same_before a b (HasCopy e) = turned l b a (copy_before b a e)
  same_before a b (Copies e) = Chained (k.same a) (copies a) (turned l b (k.same a) (copy_before b (k.same a) (sym e)))
  same_before a b (Chained c p q) = Chained c (same_before a c p) (same_before c b q)

  global_before : (i first count elements : ℕ) (e : Element) → k.ints i ≡ OfGlobal first count elements e → l.ints i ≡ OfGlobal first count elements e
  global_before i first count elements e is = by (l.ints i) (subst (LessNumber (l.ints i)) is (numbers i))
    where
      by : (n : Number) → LessNumber n (OfGlobal first count elements e) → n ≡ OfGlobal first count elements e
      by Anything h = h
      by _ h = h

  element_before : (i b field : ℕ) (e : Element) → k.ints i ≡ OfElementCell b field e → l.ints i ≡ OfElementCell b field e
  element_before i b field e is = by (l.ints i) (subst (LessNumber (l.ints i)) is (numbers i))
    where
      by : (n : Number) → LessNumber n (OfElementCell b field e) → n ≡ OfElementCell b field e
      by Anything h = h
      by _ h = h

-- a label with the same copies
pub same_copies : (l k : Label) → ((r : ℕ) → l.same r ≡ k.same r) → (a b : ℕ) → SameReference l a b → SameReference k a b
same_copies l k e a b (Itself h) = Itself h
same_copies l k e a b (IsCopy h) = IsCopy (sym (e a) ∙ h)
same_copies l k e a b (HasCopy h) = HasCopy (sym (e b) ∙ h)
same_copies l k e a b (Copies h) = Copies (sym (e a) ∙ h ∙ e b)
same_copies l k e a b (Chained c p q) = Chained c (same_copies l k e a c p) (same_copies l k e c b q)

pub through_some : (n j : ℕ) → n ≢ 0 → lock_through n j ≡ Some (made_cell n j)
through_some zero j ne = absurd (ne refl)
through_some (suc n) j ne = refl

-- ---- the mode, by the label of the next place
module _ (x : Targets) (code : Code) (s : Shape) (ls : Labels) (wt : IsWellTyped x code ls) (fits : Fits code s) (g : Global Machine) (world : Rattle.sharc_invariant.specs.World.World) (st : State x code s ls g world) (t : ℕ) (on : IsOn g t) (hold : OnHold (g.threads t).own.stage)
    (k : Label) (copies : (r : ℕ) → SameReference (ls.at (g.threads t).at.pc) r (k.same r)) (values : (i : ℕ) → LessNumber ((ls.at (g.threads t).at.pc).ints i) (k.ints i)) where
  open thread_at st t use {m, here, view}

  abbrev IsLockedAs : CellAt → PlaceMode → Cell → Type 0
  IsLockedAs at mode d = mode_of code (g.threads t) at mode ≡ CellMode.Locked (Some (cell_at code (g.threads t) d))

  same_now : (a b : ℕ) → SameReference k a b → ref (g.threads t) a ≡ ref (g.threads t) b
  same_now a b h = same_refs x code s ls wt fits g world st t on hold a b (same_before here k copies values a b h)

  global_now : (i first count elements : ℕ) (e : Element) → k.ints i ≡ OfGlobal first count elements e → (n : ℕ) × (int (g.threads t) i ≡ pos (first + n * count)) × ElementStands (rn x code s ls wt fits g world st t on hold).names n e
  global_now i first count elements e is = number_of_global x code s ls wt fits g world st t on hold i first count elements e (global_before here k copies values i first count elements e is)

  element_now : (i b field : ℕ) (e : Element) → k.ints i ≡ OfElementCell b field e → (n : ℕ) × (int (g.threads t) i ≡ pos (n * cells_of x (types_at view (g.threads t).at.refs b).target + field)) × ElementStands (rn x code s ls wt fits g world st t on hold).names n e
  element_now i b field e is = number_of_element x code s ls wt fits g world st t on hold i b field e (element_before here k copies values i b field e is)

  -- the lock of a type
  through_now : (at : CellAt) (a j b i : ℕ) (mode : PlaceMode) → mode ≡ PlaceMode.LockedThrough b j → ref (g.threads t) b ≡ ref (g.threads t) a → i ≡ j → 0 < ref (g.threads t) a → IsLockedAs at mode (Cell.Object a i)
  through_now at a j b i mode is same same_cell there =
      ap (mode_of code m at) is
      ∙ ap (λ n. CellMode.Locked (lock_through n j)) same
      ∙ ap (λ mutex. CellMode.Locked mutex) (through_some (ref m a) j (some_ref (ref m a) there))
      ∙ ap (λ j. CellMode.Locked (Some (made_cell (ref m a) j))) (sym same_cell)

  lock_now : (at : CellAt) (r : ℕ) (lock : Lock) (d : Cell) (mode : PlaceMode) → IsLockCell code k r lock d → IsLockMode code k r lock mode → IsThere code (g.threads t) d → IsLockedAs at mode d
  lock_now at r (GlobalLock j) (Cell.Global g' p) mode cell is there =
      let inside : IsInGlobal code.globals.items is.0 (j + 2) = record { known = is.2.is; low = is.2.from; high = is.2.until } in
      let inside' : IsInGlobal code.globals.items is.0 p = subst (IsInGlobal code.globals.items is.0) (sym cell.0) inside in
      let low = inside'.low in
      let a : Names code (global_cell code is.0 p) 0 p = (refl, inside', (let z = low in omega arith)) in
      let b : Names code (global_cell code g' p) 0 p = names_cell code m (Cell.Global g' p) there in
      ap (mode_of code m at) is.1 ∙ ap (λ q. CellMode.Locked (Some (global_cell code is.0 q))) (sym cell.0) ∙ ap (λ c. CellMode.Locked (Some c)) (names_one x code ls wt (global_cell code is.0 p) (global_cell code g' p) 0 p a b)
  lock_now at r (Through q j) (Cell.Object a i) mode cell is there = through_now at a j is.0 i mode is.1 (same_now is.0 q is.2 ∙ sym (same_now a q cell.1)) cell.0 there
  lock_now at r (Self j) (Cell.Object a i) mode cell is there = through_now at a j is.0 i mode is.1 (same_now is.0 r is.2 ∙ sym (same_now a r cell.1)) cell.0 there
  lock_now at r _ _ mode cell is there = absurd cell

  type_now : (at : CellAt) (n : ℕ) (c d : Cell) (mode : PlaceMode) → IsTypeLock code k n c d → IsTypeMode code k n c mode → IsThere code (g.threads t) d → IsLockedAs at mode d
  type_now at n (Cell.Global g' p) d mode cell is there = absurd cell
  type_now at n (Cell.GlobalAt g' i) d mode cell is there = absurd cell
  type_now at n (Cell.Object r i) d mode cell is there =
      let same : is.0 ≡ cell.0 = refers_eq is.0 cell.0 (sym is.1 ∙ cell.1) in
      lock_now at r (slice_index_or cell.0.locks n no_lock) d mode cell.3 (subst (λ (ty : StaticType). IsLockMode code k r (slice_index_or ty.locks n no_lock) mode) same is.2) there
  type_now at n (Cell.ObjectAt r i) d mode cell is there =
      let same : is.0 ≡ cell.0 = refers_eq is.0 cell.0 (sym is.1 ∙ cell.1) in
      lock_now at r (slice_index_or cell.0.locks n no_lock) d mode cell.3 (subst (λ (ty : StaticType). IsLockMode code k r (slice_index_or ty.locks n no_lock) mode) same is.2) there

  -- the mutex of the same element
  abbrev beside : Cell → (field mutex : ℕ) → CellAt
  beside c field mutex = record { object = (cell_at code (g.threads t) c).object; cell = (cell_at code (g.threads t) c).cell - field + mutex }

  sibling_now : (c d : Cell) (field mutex : ℕ) → IsSibling k field mutex c d → HasBefore code k field c → IsThere code (g.threads t) d → beside c field mutex ≡ cell_at code (g.threads t) d
  sibling_now (Cell.Global g' p) (Cell.Global h q) field mutex is before there =
      let e : global_cell code g' q ≡ global_cell code h q = ap (λ g. global_cell code g q) is.0 in
      let a = is.2 in
      let n : p - 2 * (slice_index_or code.globals.items g' no_global).granule - field + mutex ≡ q - 2 * (slice_index_or code.globals.items g' no_global).granule = numbers p q (slice_index_or code.globals.items g' no_global).granule field mutex before a in
      ap (λ n. record (global_cell code g' q) { cell = n }) n ∙ e
    where
      numbers : (p q granule field mutex : ℕ) → 2 * granule + field ≤ p → q ≡ p - field + mutex → p - 2 * granule - field + mutex ≡ q - 2 * granule
      numbers p q granule field mutex low e = omega arith
  sibling_now (Cell.GlobalAt g' i) (Cell.GlobalAt h j) field mutex is before there =
      let w = is.1 in
      let first = w.0 in
      let a = global_now i first w.1 w.2 w.3 w.4 in
      let b = global_now j (first - field + mutex) w.1 w.2 w.3 w.6 in
      let n : a.0 ≡ b.0 = element_one (rn x code s ls wt fits g world st t on hold).names a.0 b.0 w.3 a.2 b.2 in
      let same : before.0 ≡ first = let f : OfGlobal before.0 before.1 before.2 before.3 ≡ OfGlobal first w.1 w.2 w.3 = sym before.4 ∙ w.4 in cc in
      let low : 2 * (slice_index_or code.globals.items g' no_global).granule + field ≤ first = subst (λ n. 2 * (slice_index_or code.globals.items g' no_global).granule + field ≤ n) same before.5 in
      let wi : word_of (int m i) ≡ first + a.0 * w.1 = ap word_of a.1 in
      let wj : word_of (int m j) ≡ first - field + mutex + b.0 * w.1 = ap word_of b.1 in
      let wj' : word_of (int m j) ≡ first - field + mutex + a.0 * w.1 = wj ∙ ap (λ n. first - field + mutex + n * w.1) (sym n) in
      let e : global_cell code g' (word_of (int m j)) ≡ global_cell code h (word_of (int m j)) = ap (λ g. global_cell code g (word_of (int m j))) is.0 in
      let z : word_of (int m i) - 2 * (slice_index_or code.globals.items g' no_global).granule - field + mutex ≡ word_of (int m j) - 2 * (slice_index_or code.globals.items g' no_global).granule =
      numbers (word_of (int m i)) (word_of (int m j)) first (a.0 * w.1) (slice_index_or code.globals.items g' no_global).granule field mutex low wi wj' in
      ap (λ n. record (global_cell code g' (word_of (int m j))) { cell = n }) z ∙ e
    where
      numbers : (p q first more granule field mutex : ℕ) → 2 * granule + field ≤ first → p ≡ first + more → q ≡ first - field + mutex + more → p - 2 * granule - field + mutex ≡ q - 2 * granule
      numbers p q first more granule field mutex low a b = omega arith
  sibling_now (Cell.Object r i) (Cell.Object q j) field mutex is before there =
      let same = same_now r q is.0 in
      ap (λ n. made_cell n (i - field + mutex)) same ∙ ap (made_cell (ref m q)) (sym is.2)
  sibling_now (Cell.ObjectAt r i) (Cell.ObjectAt q j) field mutex is before there =
      let same = same_now r q is.0 in
      let w = is.1 in
      let a = element_now i r field w.0 w.1 in
      let b = element_now j q mutex w.0 w.2 in
      let n : a.0 ≡ b.0 = element_one (rn x code s ls wt fits g world st t on hold).names a.0 b.0 w.0 a.2 b.2 in
      let nz : ref m r ≢ 0 = λ z. some_ref (ref m q) there (sym same ∙ z) in
      let count : cells_of x (types_at view m.at.refs r).target ≡ cells_of x (types_at view m.at.refs q).target = ap (λ (ty : ObjectType). cells_of x ty.target) (same_type x code s ls wt fits g world st t on hold r q nz same) in
      let times : a.0 * cells_of x (types_at view m.at.refs r).target ≡ b.0 * cells_of x (types_at view m.at.refs q).target = ap (λ n. n * cells_of x (types_at view m.at.refs r).target) n ∙ ap (λ c. b.0 * c) count in
      let wi : word_of (int m i) ≡ a.0 * cells_of x (types_at view m.at.refs r).target + field = ap word_of a.1 in
      let wj : word_of (int m j) ≡ b.0 * cells_of x (types_at view m.at.refs q).target + mutex = ap word_of b.1 in
      let cell : word_of (int m i) - field + mutex ≡ word_of (int m j) = numbers (word_of (int m i)) (word_of (int m j)) (a.0 * cells_of x (types_at view m.at.refs r).target) (b.0 * cells_of x (types_at view m.at.refs q).target) field mutex wi wj times in
      ap (λ n. made_cell n (word_of (int m i) - field + mutex)) same ∙ ap (made_cell (ref m q)) cell
    where
      numbers : (p q a b field mutex : ℕ) → p ≡ a + field → q ≡ b + mutex → a ≡ b → p - field + mutex ≡ q
      numbers p q a b field mutex u v e = omega arith
  sibling_now _ _ field mutex is before there = absurd is

  -- of an access of cell c, whose mutex is in cell d
  pub lock_mode_now : (c d : Cell) (lock : FieldLock) (mode : PlaceMode) → IsMutexOf code k lock c d → IsMode code k c (Under lock) mode → IsThere code (g.threads t) d
      → mode_of code (g.threads t) (cell_at code (g.threads t) c) mode ≡ CellMode.Locked (Some (cell_at code (g.threads t) d))
  lock_mode_now c d (OfType n) mode cell is there = type_now (cell_at code m c) n c d mode cell is there
  lock_mode_now c d (OfGlobals j) mode cell is there = lock_now (cell_at code m c) 0 (GlobalLock j) d mode cell is there
  lock_mode_now c d (OfElement field mutex) mode cell is there = ap (mode_of code m (cell_at code m c)) is.0 ∙ ap (λ c. CellMode.Locked (Some c)) (sibling_now c d field mutex cell is.1 there)

-- ---- the mutex that the mode of an access names, by the label of the access
module _ (x : Targets) (code : Code) (s : Shape) (ls : Labels) (wt : IsWellTyped x code ls) (fits : Fits code s) (g : Global Machine) (world : Rattle.sharc_invariant.specs.World.World) (st : State x code s ls g world) (t : ℕ) (on : IsOn g t) (hold : OnHold (g.threads t).own.stage) where
  open thread_at st t use {m, here}

  pub mutex_names : (c d : Cell) (lock : FieldLock) (mode : PlaceMode) (mutex : CellAt) → IsMutexOf code here lock c d → IsMode code here c (Under lock) mode → mode_of code (g.threads t) (cell_at code (g.threads t) c) mode ≡ CellMode.Locked (Some mutex) → IsThere code (g.threads t) d
      → Names code mutex (object (g.threads t) d) (place (g.threads t) d)
  mutex_names c d lock mode mutex cell is e there =
      let named = lock_mode_now x code s ls wt fits g world st t on hold here (λ r. IsCopy refl) (λ i. less_number_refl (here.ints i)) c d lock mode cell is there in
      subst (λ c. Names code c (object m d) (place m d)) (some_eq (cell_at code m d) mutex (sym named ∙ e)) (names_cell code m d there)
