-- What the mode of an event says of the mode that its cell has.
use Rattle.sharc_history_laws.proofs.Imports.{◌≡◌, ℕ, Option, refl, sym, ap, ◌∙◌, CellAt, CellMode, Code, PlaceMode, Cell, Machine, mode_of, Lock, FieldLock, FieldMode, GlobalLock as Global, Through, Self, OfType, OfGlobals, OfElement, Label, IsMode, IsTypeMode, IsLockMode}

module _ (code : Code) (m : Machine) (at : CellAt) where
  -- the mode is a lock
  abbrev IsLocked : PlaceMode → Type 0
  IsLocked mode = (mutex : Option CellAt) × (mode_of code m at mode ≡ CellMode.Locked mutex)

  lock_is : (l : Label) (r : ℕ) (lock : Lock) (mode : PlaceMode) → IsLockMode code l r lock mode → IsLocked mode
  lock_is l r (Global j) mode h = (_, ap (mode_of code m at) h.1)
  lock_is l r (Through q j) mode h = (_, ap (mode_of code m at) h.1)
  lock_is l r (Self j) mode h = (_, ap (mode_of code m at) h.1)

  type_lock_is : (l : Label) (k : ℕ) (c : Cell) (mode : PlaceMode) → IsTypeMode code l k c mode → IsLocked mode
  type_lock_is l k (Cell.Global g p) mode h = absurd h
  type_lock_is l k (Cell.GlobalAt g i) mode h = absurd h
  type_lock_is l k (Cell.Object r i) mode h = lock_is l r _ mode h.2
  type_lock_is l k (Cell.ObjectAt r i) mode h = lock_is l r _ mode h.2

  under_is : (l : Label) (c : Cell) (lock : FieldLock) (mode : PlaceMode) → IsMode code l c (FieldMode.Under lock) mode → IsLocked mode
  under_is l c (OfType k) mode h = type_lock_is l k c mode h
  under_is l c (OfGlobals j) mode h = lock_is l 0 (Global j) mode h
  under_is l c (OfElement field mutex) mode h = (_, ap (mode_of code m at) h.0)

  not_private : (mode : PlaceMode) → IsLocked mode → mode_of code m at mode ≡ CellMode.Private → ⊥
  not_private mode h e = let f : CellMode.Locked h.0 ≡ CellMode.Private = sym h.1 ∙ e in cc

  not_readonly : (mode : PlaceMode) → IsLocked mode → mode_of code m at mode ≡ CellMode.Readonly → ⊥
  not_readonly mode h e = let f : CellMode.Locked h.0 ≡ CellMode.Readonly = sym h.1 ∙ e in cc

  not_dynamic : (mode : PlaceMode) → IsLocked mode → mode_of code m at mode ≡ CellMode.Dynamic → ⊥
  not_dynamic mode h e = let f : CellMode.Locked h.0 ≡ CellMode.Dynamic = sym h.1 ∙ e in cc

  pub private_field : (l : Label) (c : Cell) (f : FieldMode) (mode : PlaceMode) → IsMode code l c f mode → mode_of code m at mode ≡ CellMode.Private → f ≡ FieldMode.Private
  private_field l c FieldMode.Private mode h e = refl
  private_field l c FieldMode.Readonly mode h e = absurd (let f : CellMode.Readonly ≡ CellMode.Private = sym (ap (mode_of code m at) h) ∙ e in cc)
  private_field l c FieldMode.Racy mode h e = absurd (let f : CellMode.Racy ≡ CellMode.Private = sym (ap (mode_of code m at) h) ∙ e in cc)
  private_field l c FieldMode.Dynamic mode h e = absurd (let f : CellMode.Dynamic ≡ CellMode.Private = sym (ap (mode_of code m at) h) ∙ e in cc)
  private_field l c (FieldMode.Under lock) mode h e = absurd (not_private mode (under_is l c lock mode h) e)
  private_field l c (FieldMode.Behind field pointer) mode h e = absurd (not_private mode (_, ap (mode_of code m at) h) e)

  pub readonly_field : (l : Label) (c : Cell) (f : FieldMode) (mode : PlaceMode) → IsMode code l c f mode → mode_of code m at mode ≡ CellMode.Readonly → f ≡ FieldMode.Readonly
  readonly_field l c FieldMode.Private mode h e = absurd (let f : CellMode.Private ≡ CellMode.Readonly = sym (ap (mode_of code m at) h) ∙ e in cc)
  readonly_field l c FieldMode.Readonly mode h e = refl
  readonly_field l c FieldMode.Racy mode h e = absurd (let f : CellMode.Racy ≡ CellMode.Readonly = sym (ap (mode_of code m at) h) ∙ e in cc)
  readonly_field l c FieldMode.Dynamic mode h e = absurd (let f : CellMode.Dynamic ≡ CellMode.Readonly = sym (ap (mode_of code m at) h) ∙ e in cc)
  readonly_field l c (FieldMode.Under lock) mode h e = absurd (not_readonly mode (under_is l c lock mode h) e)
  readonly_field l c (FieldMode.Behind field pointer) mode h e = absurd (not_readonly mode (_, ap (mode_of code m at) h) e)

  pub dynamic_field : (l : Label) (c : Cell) (f : FieldMode) (mode : PlaceMode) → IsMode code l c f mode → mode_of code m at mode ≡ CellMode.Dynamic → f ≡ FieldMode.Dynamic
  dynamic_field l c FieldMode.Private mode h e = absurd (let f : CellMode.Private ≡ CellMode.Dynamic = sym (ap (mode_of code m at) h) ∙ e in cc)
  dynamic_field l c FieldMode.Readonly mode h e = absurd (let f : CellMode.Readonly ≡ CellMode.Dynamic = sym (ap (mode_of code m at) h) ∙ e in cc)
  dynamic_field l c FieldMode.Racy mode h e = absurd (let f : CellMode.Racy ≡ CellMode.Dynamic = sym (ap (mode_of code m at) h) ∙ e in cc)
  dynamic_field l c FieldMode.Dynamic mode h e = refl
  dynamic_field l c (FieldMode.Under lock) mode h e = absurd (not_dynamic mode (under_is l c lock mode h) e)
  dynamic_field l c (FieldMode.Behind field pointer) mode h e = absurd (not_dynamic mode (_, ap (mode_of code m at) h) e)
