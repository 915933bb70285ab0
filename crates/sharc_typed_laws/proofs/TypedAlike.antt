-- What a label says does not change by what is known of NULL, by the gate, or by the checks that are remembered.
use Rattle.sharc_typed_laws.proofs.Imports.{◌≡◌, ℕ, Bool, true, List, [], ◌∷◌, Option, slice_index_or, Code, PlaceMode, Cell, Targets, Lock, StaticType, Field, FieldLock, FieldMode, Content, Global, Through, Self, OfType, OfGlobals, OfSameElement as OfElement, Under, Pointer, Entry, Empty, Refers, Unknown, Gate, Pass, Label, SameReference, Itself, IsCopy, HasCopy, Copies, Chained, SameLock, AllSame, LessEntry, HasField, HasCell, IsSibling, IsLockCell, IsTypeLock, IsMutexOf, IsLockMode, IsTypeMode, HasBefore, IsMode, IsFieldLock, IsAnyLock, AreFieldLocks, PointsTo, IsSameFieldLock, IsSameContent, Recasts, IsPlace, no_lock}
use Rattle.sharc_invariant.specs.Typed.{HasBase}

pub all_same : {A B : Type 0} (R S : A → B → Type 0) (each : (a : A) (b : B) → R a b → S a b) (xs : List A) (ys : List B) → AllSame R xs ys → AllSame S xs ys
all_same R S each [] [] h = tt
all_same R S each (x ∷ xs) (y ∷ ys) h = (each x y h.0, all_same R S each xs ys h.1)
all_same R S each _ _ h = absurd h

module _ (l : Label) (known : ℕ → Bool) (gate : Gate) (passed : List Pass) where
  abbrev pub b : Label
  b = record l { known = known; gate = gate; passed = passed }

  pub same_reference : (p q : ℕ) → SameReference l p q → SameReference b p q
  same_reference p q (Itself e) = Itself e
  same_reference p q (IsCopy e) = IsCopy e
  same_reference p q (HasCopy e) = HasCopy e
  same_reference p q (Copies e) = Copies e
  same_reference p q (Chained c h k) = Chained c (same_reference p c h) (same_reference c q k)

  pub has_field : (x : Targets) (code : Code) (c : Cell) (f : Field) → HasField x code l c f → HasField x code b c f
  has_field x code (Cell.Global g p) f h = h
  has_field x code _ f h = h

  has_base : ((r : ℕ) → l.known r ≡ true → known r ≡ true) → (c : Cell) → HasBase l c → HasBase b c
  has_base more (Cell.Object r i) h = more r h
  has_base more (Cell.ObjectAt r i) h = more r h
  has_base more _ h = h

  pub has_cell : ((r : ℕ) → l.known r ≡ true → known r ≡ true) → (x : Targets) (code : Code) (c : Cell) (f : Field) → HasCell x code l c f → HasCell x code b c f
  has_cell more x code c f h = record { field = has_field x code c f h.field; base = has_base more c h.base }

  pub sibling : (field other : ℕ) (c m : Cell) → IsSibling l field other c m → IsSibling b field other c m
  sibling field other (Cell.Global g p) (Cell.Global h q) k = k
  sibling field other (Cell.GlobalAt g i) (Cell.GlobalAt h j) k = k
  sibling field other (Cell.Object r i) (Cell.Object q j) k = (same_reference r q k.0, k.1, k.2)
  sibling field other (Cell.ObjectAt r i) (Cell.ObjectAt q j) k = (same_reference r q k.0, k.1)
  sibling field other _ _ k = absurd k

  lock_cell : (code : Code) (r : ℕ) (lock : Lock) (m : Cell) → IsLockCell code l r lock m → IsLockCell code b r lock m
  lock_cell code r (Global j) (Cell.Global g p) h = h
  lock_cell code r (Through q j) (Cell.Object a i) h = (h.0, same_reference a q h.1)
  lock_cell code r (Self j) (Cell.Object a i) h = (h.0, same_reference a r h.1)
  lock_cell code r _ _ h = absurd h

  type_lock : (code : Code) (k : ℕ) (c m : Cell) → IsTypeLock code l k c m → IsTypeLock code b k c m
  type_lock code k (Cell.Object r i) m h = (h.0, h.1, h.2, lock_cell code r (slice_index_or h.0.locks k no_lock) m h.3)
  type_lock code k (Cell.ObjectAt r i) m h = (h.0, h.1, h.2, lock_cell code r (slice_index_or h.0.locks k no_lock) m h.3)
  type_lock code k _ m h = absurd h

  pub mutex_of : (code : Code) (lock : FieldLock) (c m : Cell) → IsMutexOf code l lock c m → IsMutexOf code b lock c m
  mutex_of code (OfType k) c m h = type_lock code k c m h
  mutex_of code (OfGlobals j) c m h = lock_cell code 0 (Global j) m h
  mutex_of code (OfElement field mutex) c m h = sibling field mutex c m h

  lock_mode : (code : Code) (r : ℕ) (lock : Lock) (mode : PlaceMode) → IsLockMode code l r lock mode → IsLockMode code b r lock mode
  lock_mode code r (Global j) mode h = h
  lock_mode code r (Through q j) mode h = (h.0, h.1, same_reference h.0 q h.2)
  lock_mode code r (Self j) mode h = (h.0, h.1, same_reference h.0 r h.2)

  type_mode : (code : Code) (k : ℕ) (c : Cell) (mode : PlaceMode) → IsTypeMode code l k c mode → IsTypeMode code b k c mode
  type_mode code k (Cell.Object r i) mode h = (h.0, h.1, lock_mode code r (slice_index_or h.0.locks k no_lock) mode h.2)
  type_mode code k (Cell.ObjectAt r i) mode h = (h.0, h.1, lock_mode code r (slice_index_or h.0.locks k no_lock) mode h.2)
  type_mode code k _ mode h = absurd h

  before : (code : Code) (field : ℕ) (c : Cell) → HasBefore code l field c → HasBefore code b field c
  before code field (Cell.Global g p) h = h
  before code field _ h = h

  pub mode_is : (code : Code) (c : Cell) (f : FieldMode) (mode : PlaceMode) → IsMode code l c f mode → IsMode code b c f mode
  mode_is code c (Under (OfType k)) mode h = type_mode code k c mode h
  mode_is code c (Under (OfGlobals j)) mode h = lock_mode code 0 (Global j) mode h
  mode_is code c (Under (OfElement field mutex)) mode h = (h.0, before code field c h.1)
  mode_is code c _ mode h = h

  pub same_lock : (r : ℕ) (s t : Lock) → SameLock l r s t → SameLock b r s t
  same_lock r (Global i) (Global j) h = h
  same_lock r (Through p i) (Through q j) h = (h.0, same_reference p q h.1)
  same_lock r (Self i) (Self j) h = h
  same_lock r (Self i) (Through q j) h = (h.0, same_reference r q h.1)
  same_lock r (Through p i) (Self j) h = (h.0, same_reference r p h.1)
  same_lock r _ _ h = absurd h

  pub less_entry : (r : ℕ) (e f : Entry) → LessEntry l r e f → LessEntry b r e f
  less_entry r e Empty h = h
  less_entry r e Unknown h = h
  less_entry r Unknown (Refers t) h = absurd h
  less_entry r Empty (Refers t) h = h
  less_entry r (Refers s) (Refers t) h = record { target = h.target; locks = all_same (SameLock l r) (SameLock b r) (same_lock r) s.locks t.locks h.locks }

  field_lock : (r i : ℕ) (s : StaticType) (lock : Lock) (f : FieldLock) → IsFieldLock l r i s lock f → IsFieldLock b r i s lock f
  field_lock r i s (Global j) (OfGlobals k) h = h
  field_lock r i s (Through q j) (OfElement field mutex) h = (h.0, h.1, same_reference r q h.2)
  field_lock r i s (Global j) (OfType k) h = (h.0, same_lock r (Global j) (slice_index_or s.locks k no_lock) h.1)
  field_lock r i s (Through q j) (OfType k) h = (h.0, same_lock r (Through q j) (slice_index_or s.locks k no_lock) h.1)
  field_lock r i s _ _ h = absurd h

  any_lock : (r : ℕ) (s : StaticType) (lock : Lock) (f : FieldLock) → IsAnyLock l r s lock f → IsAnyLock b r s lock f
  any_lock r s lock (OfElement field mutex) h = h
  any_lock r s lock j h = field_lock r 0 s lock j h

  field_locks : (c : Cell) (locks : List Lock) (fields : List FieldLock) → AreFieldLocks l c locks fields → AreFieldLocks b c locks fields
  field_locks (Cell.Object r i) locks fields h = (h.0, h.1, all_same (IsFieldLock l r i h.0) (IsFieldLock b r i h.0) (field_lock r i h.0) locks fields h.2)
  field_locks (Cell.ObjectAt r i) locks fields h = (h.0, h.1, all_same (IsAnyLock l r h.0) (IsAnyLock b r h.0) (any_lock r h.0) locks fields h.2)
  field_locks _ locks fields h = h

  pub points_to : (c : Cell) (f : Field) (s : StaticType) → PointsTo l c f s → PointsTo b c f s
  points_to c f s h = record { to = h.to; holds = h.holds; target = h.target; locks = field_locks c s.locks h.to.locks h.locks }

  same_field_lock : (r : ℕ) (s t : StaticType) (f g : FieldLock) → IsSameFieldLock l r s t f g → IsSameFieldLock b r s t f g
  same_field_lock r s t (OfGlobals j) (OfGlobals k) h = h
  same_field_lock r s t (OfElement f m) (OfElement g n) h = h
  same_field_lock r s t (OfType j) (OfType k) h = (h.0, h.1, same_lock r (slice_index_or s.locks j no_lock) (slice_index_or t.locks k no_lock) h.2)
  same_field_lock r s t _ _ h = absurd h

  same_content : (r : ℕ) (s t : StaticType) (f g : Content) → IsSameContent l r s t f g → IsSameContent b r s t f g
  same_content r s t (Pointer f) (Pointer g) h = (h.0, all_same (IsSameFieldLock l r s t) (IsSameFieldLock b r s t) (same_field_lock r s t) f.locks g.locks h.1)
  same_content r s t _ _ h = h

  pub recasts : (x : Targets) (r : ℕ) (s t : StaticType) → Recasts x l r s t → Recasts x b r s t
  recasts x r s t h = record { some = h.some; is_row = h.is_row; cells = h.cells; same = λ field lt. same_content r s t _ _ (h.same field lt) }

  pub place_is : (x : Targets) (c : Cell) (base : Option ℕ) (n : ℕ) → IsPlace x l c base n → IsPlace x b c base n
  place_is x (Cell.Object r i) base n h = (h.0, (h.1.0, h.1.1, same_reference r h.1.0 h.1.2))
  place_is x (Cell.ObjectAt r i) base n h = (h.0, h.1, h.2, h.3, h.4, same_reference r h.0 h.5, h.6, h.7, h.8)
  place_is x _ base n h = h
