-- The modes of fields in the source and in the table.
use Rattle.sharc_accepted_laws.proofs.Imports.{◌≡◌, ℕ, ◌-◌, ◌&&◌, Bool, true, false, cond, List, [], ◌∷◌, refl, ap, sym, ◌∙◌, subst, Option, Some, None, is_none, Mode, Path, One, WrittenType, Named, is_pointer, declared_kind, mutex, Entity, Resolution, named_at, named_kind, is_mutex_kind, is_behind_pointer, top_of, written_cell, field_cell, Lock, Sharing, private, readonly, locked, racy, dynamic, lock_of, is_field, is_sibling_lock, place_of, IsAllowed, global_mutex, sibling_mutex, sibling_pointer, through_constant, Place, field_place, field_place_named, first_cell, globals_of, OfGlobals, OfElement, FieldMode, Under, FieldMode as own, ModeFits, is_private, is_readonly, is_racy, is_dynamic, locked_by_type, locked_by_global, locked_by_sibling, locked_behind, form_of, table_lock as lock_named, field_lock, own_mode, global_mode, is_private_mode, locked_mode, written_mode, field_mode}
use Rattle.sharc_mode.specs.Sharings as sharings

-- ---- paths that are allowed
-- what a path names that may stand in a field or a global
pub data PathNames (r : Resolution) : Lock → Type 0 where
  a_global : {l : Lock} {g : ℕ} → named_at r l.first ≡ Named.Global g → named_kind r (Named.Global g) ≡ mutex → is_behind_pointer r l ≡ false → PathNames r l
  a_sibling : {l : Lock} {f : ℕ} → named_at r l.first ≡ Named.Field f → is_behind_pointer r l ≡ false → PathNames r l
  a_pointer : {l : Lock} {f : ℕ} → named_at r l.first ≡ Named.Field f → is_behind_pointer r l ≡ true → PathNames r l

pub not_field : (r : Resolution) (l : Lock) (w : Named) → named_at r l.first ≡ w → is_field w ≡ false → is_behind_pointer r l ≡ false
not_field r l w is other = ap (λ b. (b && is_none l.second) && is_pointer (named_kind r (named_at r l.first))) (ap is_field is ∙ other)

pub not_pointer : (r : Resolution) (l : Lock) (w : Named) → named_at r l.first ≡ w → is_pointer (named_kind r w) ≡ false → is_behind_pointer r l ≡ false
not_pointer r l w is plain = by (is_sibling_lock r l) ∙ refl
  where
    by : (b : Bool) → (b && is_pointer (named_kind r (named_at r l.first))) ≡ false
    by true = ap (λ z. is_pointer (named_kind r z)) is ∙ plain
    by false = refl

pub field_or_global : (r : Resolution) (e : Entity) (depth : ℕ) (path : Path) → (place_of e.role ≡ Place.Local → ⊥) → IsAllowed r e depth path → PathNames r (lock_of path)
field_or_global r e depth _ other (global_mutex {text} {token} {g} names kind) = a_global names kind (not_field r (lock_of (One text token)) (Named.Global g) names refl)
field_or_global r e depth _ other (sibling_mutex {text} {token} {f} stands names kind) = a_sibling names (not_pointer r (lock_of (One text token)) (Named.Field f) names (ap is_pointer kind))
field_or_global r e depth _ other (sibling_pointer {text} {token} {f} stands top names lock targets) = by (is_behind_pointer r (lock_of (One text token))) refl
  where
    by : (b : Bool) → is_behind_pointer r (lock_of (One text token)) ≡ b → PathNames r (lock_of (One text token))
    by true is = a_pointer names is
    by false is = a_sibling names is
field_or_global r e depth _ other (through_constant {text} {m} {token} {x} stands names constant behind) = absurd (other stands)

-- ---- modes
lock_global : (r : Resolution) (n : ℕ) (l : Lock) (g : ℕ) → named_at r l.first ≡ Named.Global g → field_lock r n l ≡ OfGlobals (first_cell (globals_of r) g - 2)
lock_global r n l g is = ap (lock_named r n) is

lock_sibling : (r : Resolution) (n : ℕ) (l : Lock) (f : ℕ) → named_at r l.first ≡ Named.Field f → field_lock r n l ≡ OfElement n (field_place r f)
lock_sibling r n l f is = ap (lock_named r n) is

-- an element's own mode, by its type
pub own_fits : (r : Resolution) (n : ℕ) (q : Sharing) (below : List Sharing) → ModeFits r n (q ∷ below) q (own_mode (form_of q))
own_fits r n private below = is_private
own_fits r n readonly below = is_readonly
own_fits r n (locked l) below = locked_by_type refl
own_fits r n racy below = is_racy
own_fits r n dynamic below = is_dynamic

-- that of an element of a global
pub global_fits : (r : Resolution) (n : ℕ) (q : Sharing) → ((l : Lock) → q ≡ locked l → (g : ℕ) × (named_at r l.first ≡ Named.Global g) × (named_kind r (Named.Global g) ≡ mutex)) → ModeFits r n [] q (global_mode r q)
global_fits r n private path = is_private
global_fits r n readonly path = is_readonly
global_fits r n (locked l) path = let w = path l refl in subst (λ z. ModeFits r n [] (locked l) (Under z)) (sym (lock_global r 0 l w.0 w.1)) (locked_by_global w.1 w.2)
global_fits r n racy path = is_racy
global_fits r n dynamic path = is_dynamic

-- the modes of an element in the source and in the table are private both, or neither
pub private_both : (q : Sharing) → is_private_mode (own_mode (form_of q)) ≡ sharings.is_private q
private_both (locked l) = refl
private_both _ = refl

pub global_both : (r : Resolution) (q : Sharing) → is_private_mode (global_mode r q) ≡ sharings.is_private q
global_both r (locked l) = refl
global_both r _ = refl

module _ (r : Resolution) (n : ℕ) (modes : List Sharing) (q : Sharing) (Q : FieldMode) (element : ModeFits r n modes q Q) (both : is_private_mode Q ≡ sharings.is_private q) where
  readonly_fits : (b : Bool) → ModeFits r n modes (cond b private readonly) (cond b own.Private own.Readonly)
  readonly_fits true = is_private
  readonly_fits false = is_readonly

  -- behind a pointer
  behind_fits : (b : Bool) (l : Lock) (f : ℕ) → named_at r l.first ≡ Named.Field f → is_behind_pointer r l ≡ true → ModeFits r n modes (cond b private (locked l)) (cond b own.Private (own.Behind n (field_place_named r (named_at r l.first))))
  behind_fits true l f names is = is_private
  behind_fits false l f names is = subst (λ p. ModeFits r n modes (locked l) (own.Behind n p)) (sym (ap (field_place_named r) names)) (locked_behind names is)

  path_fits : (l : Lock) → PathNames r l → ModeFits r n modes (cond (is_behind_pointer r l && sharings.is_private q) private (locked l)) (locked_mode r n Q l)
  path_fits l (a_global {g} names kind is) =
      subst (λ b. ModeFits r n modes (cond (b && sharings.is_private q) private (locked l)) (cond b (cond (is_private_mode Q) own.Private (own.Behind n (field_place_named r (named_at r l.first)))) (Under (field_lock r n l)))) (sym is)
      (subst (λ z. ModeFits r n modes (locked l) (Under z)) (sym (lock_global r n l g names)) (locked_by_global names kind))
  path_fits l (a_sibling {f} names is) =
      subst (λ b. ModeFits r n modes (cond (b && sharings.is_private q) private (locked l)) (cond b (cond (is_private_mode Q) own.Private (own.Behind n (field_place_named r (named_at r l.first)))) (Under (field_lock r n l)))) (sym is)
      (subst (λ z. ModeFits r n modes (locked l) (Under z)) (sym (lock_sibling r n l f names)) (locked_by_sibling names is))
  path_fits l (a_pointer {f} names is) =
      subst (λ b. ModeFits r n modes (cond (b && sharings.is_private q) private (locked l)) (cond b (cond (is_private_mode Q) own.Private (own.Behind n (field_place_named r (named_at r l.first)))) (Under (field_lock r n l)))) (sym is)
      (subst (λ b. ModeFits r n modes (cond (sharings.is_private q) private (locked l)) (cond b own.Private (own.Behind n (field_place_named r (named_at r l.first))))) (sym both) (behind_fits (sharings.is_private q) l f names is))

  -- the mode that is written on a field's top
  written_fits : (top : Option Mode) → ((path : Path) → top ≡ Some (Mode.Locked path) → PathNames r (lock_of path)) → ModeFits r n modes (written_cell r q top) (written_mode r n Q top)
  written_fits None paths = element
  written_fits (Some Mode.Private) paths = is_private
  written_fits (Some Mode.Readonly) paths = subst (λ b. ModeFits r n modes (cond (sharings.is_private q) private readonly) (cond b own.Private own.Readonly)) (sym both) (readonly_fits (sharings.is_private q))
  written_fits (Some (Mode.Locked path)) paths = path_fits (lock_of path) (paths path refl)
  written_fits (Some Mode.Racy) paths = is_racy
  written_fits (Some Mode.Dynamic) paths = is_dynamic

  pub field_fits : (w : WrittenType) → ((path : Path) → top_of w.ctype.levels ≡ Some (Mode.Locked path) → PathNames r (lock_of path)) → ModeFits r n modes (field_cell r q w) (field_mode r n Q w)
  field_fits w paths = by (is_mutex_kind (declared_kind w))
    where
      by : (b : Bool) → ModeFits r n modes (cond b racy (written_cell r q (top_of w.ctype.levels))) (cond b own.Racy (written_mode r n Q (top_of w.ctype.levels)))
      by true = is_racy
      by false = written_fits (top_of w.ctype.levels) paths
