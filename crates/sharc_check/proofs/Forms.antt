-- Lock paths of the allowed forms, there and back.
use Rattle.sharc_check.proofs.{Imports.{◌≡◌, ⊎_elim, ℕ, zero, suc, ◌+◌, ◌<◌, Bool, true, false, not, ◌||◌, List, [], ◌∷◌, length, slice_get, refl, ap, sym, ◌∙◌, arith, eqb-true, Option, Some, None, false≢true, true≢false, or_cases, and_parts, and_from, or_right, or_left, or_false, false_or, false_not, Base, Mode, Private, Readonly, Locked, Racy, Dynamic, Path, One, Through, Declaration, StructDefinition, Named, Kind, object, array, null, mutex, declared_kind, field_of, Entity, is_constant, Resolution, named_at, struct_at, declaration_at, named_kind, Place, is_mutex_kind, top_of, is_mutex, lock_of, place_of, names_global_mutex, names_sibling_mutex, is_mutex_pointer, is_readonly_top, is_readonly_lock, names_sibling_pointer, fields_of, fields_named, fields_behind, is_mutex_field, is_through_constant, allows_path, leaves_open, allows_pointer, path_fits, top_path_fits, unfit_path, unfit_top_path, unfit_path_in, first_unfit_path, IsWritten, IsMutexBehind, IsLockPointer, AreTargetsWritten, IsAllowed, global_mutex, sibling_mutex, sibling_pointer, through_constant, same_some, none_some}, Options.{or_none, none_or, unless_none, none_unless, none_of}}
use Rattle.sharc_names.specs.Kinds as kinds

mutex_is : (k : Kind) → is_mutex_kind k ≡ true → k ≡ mutex
mutex_is (object Base.Mutex n) h = ap (object Base.Mutex) (eqb-true n 0 h)
mutex_is _ h = absurd (false≢true h)

is_mutex_by : (k : Kind) → k ≡ mutex → is_mutex_kind k ≡ true
is_mutex_by k is = ap is_mutex_kind is

pointer_is : (k : Kind) → is_mutex_pointer k ≡ true → k ≡ object Base.Mutex 1
pointer_is (object Base.Mutex n) h = ap (object Base.Mutex) (eqb-true n 1 h)
pointer_is _ h = absurd (false≢true h)

readonly_is : (o : Option Mode) → is_readonly_top o ≡ true → o ≡ Some Readonly
readonly_is (Some Readonly) h = refl
readonly_is _ h = absurd (false≢true h)

-- ---- targets that take no mode from the top

base_level_is : (b : Base) (below : List (Option Mode)) → is_mutex b below ≡ true → (b ≡ Base.Mutex) × (length below ≡ 0)
base_level_is Base.Mutex [] h = (refl, refl)
base_level_is Base.Mutex (x ∷ below) h = absurd (false≢true h)
base_level_is _ below h = absurd (false≢true h)

base_level_by : (b : Base) (below : List (Option Mode)) → b ≡ Base.Mutex → length below ≡ 0 → is_mutex b below ≡ true
base_level_by b [] is size = ap (λ z. is_mutex z []) is
base_level_by b (x ∷ below) is size = absurd (omega (arith, size))

not_false : (a : Bool) → not a ≡ false → a ≡ true
not_false true h = refl
not_false false h = absurd (true≢false h)

closed_at : (b : Base) (below : List (Option Mode)) → leaves_open b below ≡ false → (j : ℕ) → slice_get below j ≡ Some None → (b ≡ Base.Mutex) × (suc j ≡ length below)
closed_at b [] h j is = absurd (none_some None is)
closed_at b (None ∷ below) h zero is =
    let mutex_level = base_level_is b below (not_false (is_mutex b below) (or_false (not (is_mutex b below)) (leaves_open b below) h).0) in
    let size = mutex_level.1 in
    (mutex_level.0, omega (arith, size))
closed_at b (None ∷ below) h (suc j) is =
    let later = closed_at b below (or_false (not (is_mutex b below)) (leaves_open b below) h).1 j is in
    let size = later.1 in
    (later.0, omega (arith, size))
closed_at b (Some x ∷ below) h zero is = absurd (none_some x (sym (same_some (Some x) None is)))
closed_at b (Some x ∷ below) h (suc j) is =
    let later = closed_at b below h j is in
    let size = later.1 in
    (later.0, omega (arith, size))

closed_by : (b : Base) (below : List (Option Mode)) → ((j : ℕ) → slice_get below j ≡ Some None → (b ≡ Base.Mutex) × (suc j ≡ length below)) → leaves_open b below ≡ false
closed_by b [] h = refl
closed_by b (None ∷ below) h =
    let here = h zero refl in
    let size = here.1 in
    false_or (not (is_mutex b below)) (leaves_open b below) (false_not (is_mutex b below) (base_level_by b below here.0 (omega (arith, size))))
    (closed_by b below (λ j is. let later = h (suc j) is in let more = later.1 in (later.0, omega (arith, more))))
closed_by b (Some x ∷ below) h = closed_by b below (λ j is. let later = h (suc j) is in let more = later.1 in (later.0, omega (arith, more)))

-- ---- what a path names

module _ (r : Resolution) (e : Entity) (depth : ℕ) where
  global_by : (text : List ℕ) (token : ℕ) (what : Named) → named_at r token ≡ what → names_global_mutex r what ≡ true → IsAllowed r e depth (One text token)
  global_by text token (Named.Global n) is h = global_mutex is (mutex_is (named_kind r (Named.Global n)) h)
  global_by text token _ is h = absurd (false≢true h)

  sibling_by : (text : List ℕ) (token : ℕ) (what : Named) → place_of e.role ≡ Place.Field → named_at r token ≡ what → names_sibling_mutex r what ≡ true → IsAllowed r e depth (One text token)
  sibling_by text token (Named.Field n) field is h = sibling_mutex field is (mutex_is (named_kind r (Named.Field n)) h)
  sibling_by text token _ field is h = absurd (false≢true h)

  one_by : (text : List ℕ) (token : ℕ) (where_is : Place) (what : Named) → place_of e.role ≡ where_is → named_at r token ≡ what → allows_path r where_is what None ≡ true → IsAllowed r e depth (One text token)
  one_by text token Place.Field what at is h = ⊎_elim (λ g. global_by text token what is g) (λ s. sibling_by text token what at is s) (or_cases (names_global_mutex r what) (names_sibling_mutex r what) h)
  one_by text token _ what at is h = global_by text token what is h

member_by : (r : Resolution) (x : ℕ) (m : List ℕ) (d : Declaration) (n : ℕ) (s : StructDefinition) (o : Option Declaration) → declaration_at r x ≡ Some d → named_at r d.written.base.token ≡ Named.Struct n → struct_at r n ≡ Some s → field_of s.fields m ≡ o
    → is_mutex_field o ≡ true → IsMutexBehind r x m
member_by r x m d n s None a b c is h = absurd (false≢true h)
member_by r x m d n s (Some f) a b c is h = record { variable = d; declared = a; number = n; names = b; struct = s; defined = c; member = f; has = is; mutex = mutex_is (declared_kind f.written) h }

struct_by : (r : Resolution) (x : ℕ) (m : List ℕ) (d : Declaration) (n : ℕ) (o : Option StructDefinition) → declaration_at r x ≡ Some d → named_at r d.written.base.token ≡ Named.Struct n → struct_at r n ≡ o
    → is_mutex_field (field_of (fields_of o) m) ≡ true → IsMutexBehind r x m
struct_by r x m d n None a b c h = absurd (false≢true h)
struct_by r x m d n (Some s) a b c h = member_by r x m d n s (field_of s.fields m) a b c refl h

named_by : (r : Resolution) (x : ℕ) (m : List ℕ) (d : Declaration) (what : Named) → declaration_at r x ≡ Some d → named_at r d.written.base.token ≡ what → is_mutex_field (field_of (fields_named r what) m) ≡ true → IsMutexBehind r x m
named_by r x m d (Named.Struct n) a b h = struct_by r x m d n (struct_at r n) a b refl h
named_by r x m d _ a b h = absurd (false≢true h)

behind_by : (r : Resolution) (x : ℕ) (m : List ℕ) (o : Option Declaration) → declaration_at r x ≡ o → is_mutex_field (field_of (fields_behind r o) m) ≡ true → IsMutexBehind r x m
behind_by r x m None a h = absurd (false≢true h)
behind_by r x m (Some d) a h = named_by r x m d (named_at r d.written.base.token) a refl h

by_behind : (r : Resolution) (x : ℕ) (m : List ℕ) → IsMutexBehind r x m → is_mutex_field (field_of (fields_behind r (declaration_at r x)) m) ≡ true
by_behind r x m b =
    ap (λ o. is_mutex_field (field_of (fields_behind r o) m)) b.declared
    ∙ ap (λ z. is_mutex_field (field_of (fields_named r z) m)) b.names
    ∙ ap (λ o. is_mutex_field (field_of (fields_of o) m)) b.defined
    ∙ ap is_mutex_field b.has
    ∙ is_mutex_by (declared_kind b.member.written) b.mutex

module _ (r : Resolution) (e : Entity) (depth : ℕ) where
  variable_by : (text m : List ℕ) (token : ℕ) (what : Named) → place_of e.role ≡ Place.Local → named_at r token ≡ what → is_through_constant r what m ≡ true → IsAllowed r e depth (Through text token m)
  variable_by text m token (Named.Variable x) at is h =
      let parts = and_parts (is_constant r x) (is_mutex_field (field_of (fields_behind r (declaration_at r x)) m)) h in
      through_constant at is parts.0 (behind_by r x m (declaration_at r x) refl parts.1)
  variable_by text m token _ at is h = absurd (false≢true h)

  through_by : (text m : List ℕ) (token : ℕ) (where_is : Place) → place_of e.role ≡ where_is → allows_path r where_is (named_at r token) (Some m) ≡ true → IsAllowed r e depth (Through text token m)
  through_by text m token Place.Local at h = variable_by text m token (named_at r token) at refl h
  through_by text m token _ at h = absurd (false≢true h)

  fits_allowed : (path : Path) → path_fits r (place_of e.role) (lock_of path) ≡ true → IsAllowed r e depth path
  fits_allowed (One text token) h = one_by r e depth text token (place_of e.role) (named_at r token) refl refl h
  fits_allowed (Through text token m) h = through_by text m token (place_of e.role) refl h

-- ---- the pointer to a mutex, on the top of a field

lock_pointer_by : (r : Resolution) (f : ℕ) (o : Option Declaration) → declaration_at r f ≡ o → is_readonly_lock o ≡ true → IsLockPointer r f
lock_pointer_by r f None is h = absurd (false≢true h)
lock_pointer_by r f (Some d) is h =
    let parts = and_parts (is_mutex_pointer (declared_kind d.written)) (is_readonly_top (top_of d.written.ctype.levels)) h in
    record { field = d; declared = is; pointer = pointer_is (declared_kind d.written) parts.0; readonly = readonly_is (top_of d.written.ctype.levels) parts.1 }

by_lock_pointer : (r : Resolution) (f : ℕ) → IsLockPointer r f → is_readonly_lock (declaration_at r f) ≡ true
by_lock_pointer r f p =
    ap is_readonly_lock p.declared
    ∙ and_from (is_mutex_pointer (declared_kind p.field.written)) (is_readonly_top (top_of p.field.written.ctype.levels)) (ap is_mutex_pointer p.pointer) (ap is_readonly_top p.readonly)

below_written : (e : Entity) (top : Option Mode) (below : List (Option Mode)) → e.written.ctype.levels ≡ top ∷ below → leaves_open e.written.ctype.base below ≡ false → AreTargetsWritten e
below_written e top below size h zero low is = absurd (omega (arith, low))
below_written e top below size h (suc j) low is =
    let found = closed_at e.written.ctype.base below h j (ap (λ (z : List (Option Mode)). slice_get z (suc j)) (sym size) ∙ is) in
    let many = found.1 in
    let whole : suc j + 1 ≡ suc (length below) = omega (arith, many) in
    (found.0, whole ∙ ap length (sym size))

written_below : (e : Entity) (top : Option Mode) (below : List (Option Mode)) → e.written.ctype.levels ≡ top ∷ below → AreTargetsWritten e → leaves_open e.written.ctype.base below ≡ false
written_below e top below size h = closed_by e.written.ctype.base below (λ j is.
    let low : 0 < suc j = omega arith in
    let found = h (suc j) low (ap (λ (z : List (Option Mode)). slice_get z (suc j)) size ∙ is) in
    let many : suc j + 1 ≡ suc (length below) = found.1 ∙ ap length size in
    (found.0, omega (arith, many)))

module _ (r : Resolution) (e : Entity) where
  named_pointer : (text : List ℕ) (token : ℕ) (what : Named) → place_of e.role ≡ Place.Field → named_at r token ≡ what → names_sibling_pointer r what ≡ true → AreTargetsWritten e → IsAllowed r e 0 (One text token)
  named_pointer text token (Named.Field f) at is h w = sibling_pointer at refl is (lock_pointer_by r f (declaration_at r f) refl h) w
  named_pointer text token _ at is h w = absurd (false≢true h)

  pointer_by : (text : List ℕ) (token : ℕ) (top : Option Mode) (below : List (Option Mode)) (where_is : Place) → e.written.ctype.levels ≡ top ∷ below → place_of e.role ≡ where_is
      → allows_pointer r where_is e.written.ctype.base below (named_at r token) None ≡ true → IsAllowed r e 0 (One text token)
  pointer_by text token top below Place.Field size at h =
      let parts = and_parts (names_sibling_pointer r (named_at r token)) (not (leaves_open e.written.ctype.base below)) h in
      named_pointer text token (named_at r token) at refl parts.0 (below_written e top below size (not_true (leaves_open e.written.ctype.base below) parts.1))
    where
      not_true : (b : Bool) → not b ≡ true → b ≡ false
      not_true true h = absurd (false≢true h)
      not_true false h = refl
  pointer_by text token top below _ size at h = absurd (false≢true h)

  no_pointer : (where_is : Place) (b : Base) (below : List (Option Mode)) (what : Named) (m : List ℕ) → allows_pointer r where_is b below what (Some m) ≡ true → ⊥
  no_pointer Place.Field b below what m h = false≢true h
  no_pointer _ b below what m h = false≢true h

  top_allowed : (top : Option Mode) (below : List (Option Mode)) → e.written.ctype.levels ≡ top ∷ below → (path : Path) → top_path_fits r (place_of e.role) e.written.ctype.base below (lock_of path) ≡ true → IsAllowed r e 0 path
  top_allowed top below size (One text token) h =
      ⊎_elim (λ f. fits_allowed r e 0 (One text token) f) (λ p. pointer_by text token top below (place_of e.role) size refl p)
      (or_cases (allows_path r (place_of e.role) (named_at r token) None) (allows_pointer r (place_of e.role) e.written.ctype.base below (named_at r token) None) h)
  top_allowed top below size (Through text token m) h =
      ⊎_elim (λ f. fits_allowed r e 0 (Through text token m) f) (λ p. absurd (no_pointer (place_of e.role) e.written.ctype.base below (named_at r token) m p))
      (or_cases (allows_path r (place_of e.role) (named_at r token) (Some m)) (allows_pointer r (place_of e.role) e.written.ctype.base below (named_at r token) (Some m)) h)

-- ---- back: an allowed path fits

anywhere : (r : Resolution) (where_is : Place) (what : Named) → names_global_mutex r what ≡ true → allows_path r where_is what None ≡ true
anywhere r Place.Field what h = or_left (names_global_mutex r what) (names_sibling_mutex r what) h
anywhere r _ what h = h

-- it fits at any depth, or it is a pointer to a mutex on the top
pub data Fits (r : Resolution) (e : Entity) (depth : ℕ) : Path → Type 0 where
  at_any : {path : Path} → path_fits r (place_of e.role) (lock_of path) ≡ true → Fits r e depth path
  at_top : {text : List ℕ} {token : ℕ} → depth ≡ 0 → place_of e.role ≡ Place.Field → names_sibling_pointer r (named_at r token) ≡ true → AreTargetsWritten e → Fits r e depth (One text token)

pub allowed_fits : (r : Resolution) (e : Entity) (depth : ℕ) (path : Path) → IsAllowed r e depth path → Fits r e depth path
allowed_fits r e depth _ (global_mutex {text = text} {token = token} {g = g} is kind) =
    at_any (anywhere r (place_of e.role) (named_at r token) (ap (names_global_mutex r) is ∙ is_mutex_by (named_kind r (Named.Global g)) kind))
allowed_fits r e depth _ (sibling_mutex {text = text} {token = token} {f = f} at is kind) =
    at_any (ap (λ z. allows_path r z (named_at r token) None) at ∙ or_right (names_global_mutex r (named_at r token)) (names_sibling_mutex r (named_at r token)) (ap (names_sibling_mutex r) is ∙ is_mutex_by (named_kind r (Named.Field f)) kind))
allowed_fits r e depth _ (sibling_pointer {text = text} {token = token} {f = f} at top is pointer targets) = at_top top at (ap (names_sibling_pointer r) is ∙ by_lock_pointer r f pointer) targets
allowed_fits r e depth _ (through_constant {text = text} {m = m} {token = token} {x = x} at is constant behind) =
    at_any (ap (λ z. allows_path r z (named_at r token) (Some m)) at ∙ ap (λ z. is_through_constant r z m) is ∙ and_from (is_constant r x) (is_mutex_field (field_of (fields_behind r (declaration_at r x)) m)) constant (by_behind r x m behind))

low_fits : (r : Resolution) (e : Entity) (j : ℕ) (path : Path) → Fits r e (suc j) path → path_fits r (place_of e.role) (lock_of path) ≡ true
low_fits r e j _ (at_any h) = h
low_fits r e j _ (at_top top at h w) = absurd (omega (arith, top))

top_fits : (r : Resolution) (e : Entity) (top : Option Mode) (below : List (Option Mode)) → e.written.ctype.levels ≡ top ∷ below → (path : Path) → Fits r e 0 path → top_path_fits r (place_of e.role) e.written.ctype.base below (lock_of path) ≡ true
top_fits r e top below size _ (at_any {path = path} h) = or_left (path_fits r (place_of e.role) (lock_of path)) (allows_pointer r (place_of e.role) e.written.ctype.base below (named_at r (lock_of path).first) (lock_of path).second) h
top_fits r e top below size _ (at_top {text = text} {token = token} zero_is at h w) =
    or_right (allows_path r (place_of e.role) (named_at r token) None) (allows_pointer r (place_of e.role) e.written.ctype.base below (named_at r token) None)
    (ap (λ z. allows_pointer r z e.written.ctype.base below (named_at r token) None) at
    ∙ and_from (names_sibling_pointer r (named_at r token)) (not (leaves_open e.written.ctype.base below)) h (ap not (written_below e top below size w)))

-- ---- all levels

path_none : (r : Resolution) (p : Place) (level : Option Mode) (path : Path) → unfit_path r p level ≡ None → level ≡ Some (Locked path) → path_fits r p (lock_of path) ≡ true
path_none r p level path h is = unless_none (path_fits r p (lock_of path)) path (ap (unfit_path r p) (sym is) ∙ h)

none_path : (r : Resolution) (p : Place) (level : Option Mode) → ((path : Path) → level ≡ Some (Locked path) → path_fits r p (lock_of path) ≡ true) → unfit_path r p level ≡ None
none_path r p (Some (Locked path)) h = none_unless (path_fits r p (lock_of path)) path (h path refl)
none_path r p _ h = refl

top_none : (r : Resolution) (p : Place) (b : Base) (below : List (Option Mode)) (level : Option Mode) (path : Path) → unfit_top_path r p b below level ≡ None → level ≡ Some (Locked path) → top_path_fits r p b below (lock_of path) ≡ true
top_none r p b below level path h is = unless_none (top_path_fits r p b below (lock_of path)) path (ap (unfit_top_path r p b below) (sym is) ∙ h)

none_top : (r : Resolution) (p : Place) (b : Base) (below : List (Option Mode)) (level : Option Mode) → ((path : Path) → level ≡ Some (Locked path) → top_path_fits r p b below (lock_of path) ≡ true) → unfit_top_path r p b below level ≡ None
none_top r p b below (Some (Locked path)) h = none_unless (top_path_fits r p b below (lock_of path)) path (h path refl)
none_top r p b below _ h = refl

in_none : (r : Resolution) (p : Place) (levels : List (Option Mode)) → unfit_path_in r p levels ≡ None → (k : ℕ) (path : Path) → slice_get levels k ≡ Some (Some (Locked path)) → path_fits r p (lock_of path) ≡ true
in_none r p [] h k path is = absurd (none_some (Some (Locked path)) is)
in_none r p (level ∷ below) h zero path is = path_none r p level path (or_none (unfit_path_in r p below) (unfit_path r p level) h).1 (same_some level (Some (Locked path)) is)
in_none r p (level ∷ below) h (suc k) path is = in_none r p below (or_none (unfit_path_in r p below) (unfit_path r p level) h).0 k path is

none_in : (r : Resolution) (p : Place) (levels : List (Option Mode)) → ((k : ℕ) (path : Path) → slice_get levels k ≡ Some (Some (Locked path)) → path_fits r p (lock_of path) ≡ true) → unfit_path_in r p levels ≡ None
none_in r p [] h = refl
none_in r p (level ∷ below) h = none_or (unfit_path_in r p below) (unfit_path r p level) (none_in r p below (λ k path is. h (suc k) path is)) (none_path r p level (λ path is. h zero path (ap Some is)))

all_allowed : (r : Resolution) (e : Entity) (levels : List (Option Mode)) → e.written.ctype.levels ≡ levels → first_unfit_path r (place_of e.role) e.written.ctype.base levels ≡ None
    → (depth : ℕ) (path : Path) → slice_get levels depth ≡ Some (Some (Locked path)) → IsAllowed r e depth path
all_allowed r e [] size h depth path is = absurd (none_some (Some (Locked path)) is)
all_allowed r e (top ∷ below) size h zero path is =
    top_allowed r e top below size path (top_none r (place_of e.role) e.written.ctype.base below top path (or_none (unfit_path_in r (place_of e.role) below) (unfit_top_path r (place_of e.role) e.written.ctype.base below top) h).1 (same_some top (Some (Locked path)) is))
all_allowed r e (top ∷ below) size h (suc j) path is =
    fits_allowed r e (suc j) path (in_none r (place_of e.role) below (or_none (unfit_path_in r (place_of e.role) below) (unfit_top_path r (place_of e.role) e.written.ctype.base below top) h).0 j path is)

allowed_all : (r : Resolution) (e : Entity) (levels : List (Option Mode)) → e.written.ctype.levels ≡ levels → ((depth : ℕ) (path : Path) → slice_get levels depth ≡ Some (Some (Locked path)) → IsAllowed r e depth path)
    → first_unfit_path r (place_of e.role) e.written.ctype.base levels ≡ None
allowed_all r e [] size h = refl
allowed_all r e (top ∷ below) size h =
    none_or (unfit_path_in r (place_of e.role) below) (unfit_top_path r (place_of e.role) e.written.ctype.base below top)
    (none_in r (place_of e.role) below (λ k path is. low_fits r e k path (allowed_fits r e (suc k) path (h (suc k) path is))))
    (none_top r (place_of e.role) e.written.ctype.base below top (λ path is. top_fits r e top below size path (allowed_fits r e 0 path (h zero path (ap Some is)))))

pub forms_allowed : (r : Resolution) (e : Entity) → ((path : Path) → first_unfit_path r (place_of e.role) e.written.ctype.base e.written.ctype.levels ≡ Some path → ⊥) → (depth : ℕ) (path : Path) → IsWritten e depth (Locked path) → IsAllowed r e depth path
forms_allowed r e h = all_allowed r e e.written.ctype.levels refl (none_of (first_unfit_path r (place_of e.role) e.written.ctype.base e.written.ctype.levels) h)

pub allowed_forms : (r : Resolution) (e : Entity) → ((depth : ℕ) (path : Path) → IsWritten e depth (Locked path) → IsAllowed r e depth path) → (path : Path) → first_unfit_path r (place_of e.role) e.written.ctype.base e.written.ctype.levels ≡ Some path → ⊥
allowed_forms r e h path is = none_some path (sym (allowed_all r e e.written.ctype.levels refl h) ∙ is)
