-- No position of a program whose lock paths are fit is locked behind a sibling pointer.
use Rattle.sharc_flat_laws.proofs.Imports.{◌≡◌, ℕ, zero, suc, ◌<◌, ◌++◌, length, arith, ◌==◌, eqb-true, Bool, true, false, ◌&&◌, ◌||◌, not, cond, List, [], ◌∷◌, drop, refl, ap, sym, subst, ⊎_elim, Option, Some, None, false≢true, and_parts, or_cases, neither_open, is_none, slice_index_or, AllByRecursion, option_or, Base, Path, Mode, Private, Locked, Racy, Dynamic, GlobalDefinition, Named, Kind, object, is_pointer, Role, Resolution, global_at, named_at, named_kind, first_depth, entities_in, entity_at, Numbered, Entity, Place, Global, Field, Result, is_mutex_kind, is_behind_pointer, first_mode, global_cell, Lock, is_field, lock_of, sharing_of, allows_path, path_fits, unless, unfit_path, unfit_path_in, allows_pointer, leaves_open, top_path_fits, unfit_top_path, first_unfit_path, place_of, is_mutex, settled, field_target, otherwise_of, settled_modes, settled_in, settled_at, IsLeastAssignment, mode_found, Assignment, mode_at, NodeFinding, Apart, finding_at, IsFit, FitAreUnguarded, field_place, guard_named, guard_field, not_false}
use Rattle.sharc_mode.specs.declared.place.Place.TheVariants.{Local}

mutex_pointer : (k : Kind) → is_mutex_kind k ≡ true → is_pointer k ≡ false
mutex_pointer (object Base.Mutex n) h = by (n == 0) refl h
  where
    by : (z : Bool) → (n == 0) ≡ z → z ≡ true → is_pointer (object Base.Mutex n) ≡ false
    by true is t = ap (λ x. is_pointer (object Base.Mutex x)) (eqb-true n 0 is)
    by false is t = absurd (false≢true t)
mutex_pointer _ h = absurd (false≢true h)

-- a path that fits below the top names no sibling pointer
fit_behind : (r : Resolution) (p : Place) (n : Named) (s : Option (List ℕ)) → allows_path r p n s ≡ true → ((is_field n && is_none s) && is_pointer (named_kind r n)) ≡ false
fit_behind r Field (Named.Field x) None h = mutex_pointer (named_kind r (Named.Field x)) h
fit_behind r Global (Named.Field x) None h = absurd (false≢true h)
fit_behind r Local (Named.Field x) None h = absurd (false≢true h)
fit_behind r Result (Named.Field x) None h = absurd (false≢true h)
fit_behind r p _ _ h = refl

unguarded_named : (r : Resolution) (l : Lock) (n : Named) → is_behind_pointer r l ≡ false → guard_named r l n ≡ None
unguarded_named r l (Named.Field x) h = ap (λ b. cond b (Some (field_place r x)) None) h
unguarded_named r l _ h = refl

pub unguarded_path : (r : Resolution) (p : Place) (l : Lock) → path_fits r p l ≡ true → guard_named r l (named_at r l.first) ≡ None
unguarded_path r p l h = unguarded_named r l (named_at r l.first) (fit_behind r p (named_at r l.first) l.second h)

-- and so of each level below the top
abbrev pub IsUnguarded : Resolution → Option Mode → Type 0
IsUnguarded r None = Unit {0}
IsUnguarded r (Some mode) = guard_field r (sharing_of mode) ≡ None

no_path : (x : Path) → Some x ≡ None → ⊥
no_path x h = cc

fits_by : (b : Bool) (x : Path) → unless b x ≡ None → b ≡ true
fits_by true x h = refl
fits_by false x h = absurd (no_path x h)

pub unguarded_level : (r : Resolution) (p : Place) (level : Option Mode) → unfit_path r p level ≡ None → IsUnguarded r level
unguarded_level r p None h = tt
unguarded_level r p (Some (Locked path)) h = unguarded_path r p (lock_of path) (fits_by (path_fits r p (lock_of path)) path h)
unguarded_level r p _ h = refl

neither : (a b : Option Path) → option_or a b ≡ None → (a ≡ None) × (b ≡ None)
neither None b h = (refl, h)
neither (Some x) b h = absurd (no_path x h)

pub unguarded_levels : (r : Resolution) (p : Place) (levels : List (Option Mode)) → unfit_path_in r p levels ≡ None → AllByRecursion (IsUnguarded r) levels
unguarded_levels r p [] h = tt
unguarded_levels r p (level ∷ below) h = let n = neither (unfit_path_in r p below) (unfit_path r p level) h in (unguarded_level r p level n.1, unguarded_levels r p below n.0)

-- what is settled where nothing is written takes the mode beside it
settled_one : (r : Resolution) (b : Bool) (level otherwise : Option Mode) → IsUnguarded r level → IsUnguarded r otherwise → IsUnguarded r (cond b (Some Racy) (option_or level otherwise))
settled_one r true level otherwise h o = refl
settled_one r false None otherwise h o = o
settled_one r false (Some m) otherwise h o = h

settled_all : (r : Resolution) (b : Base) (otherwise : Option Mode) (levels : List (Option Mode)) → IsUnguarded r otherwise → AllByRecursion (IsUnguarded r) levels → AllByRecursion (IsUnguarded r) (settled b otherwise levels)
settled_all r b otherwise [] o h = tt
settled_all r b otherwise (level ∷ below) o h = (settled_one r (is_mutex b below) level otherwise h.0 o, settled_all r b otherwise below o h.1)

-- and nothing takes it where no target is left open
closed_one : (r : Resolution) (b : Bool) (otherwise : Option Mode) → not b ≡ false → IsUnguarded r (cond b (Some Racy) otherwise)
closed_one r true otherwise h = refl
closed_one r false otherwise h = absurd (false≢true (sym h))

settled_own : (r : Resolution) (b : Bool) (m : Mode) → IsUnguarded r (Some m) → IsUnguarded r (cond b (Some Racy) (Some m))
settled_own r true m h = refl
settled_own r false m h = h

settled_closed : (r : Resolution) (b : Base) (otherwise : Option Mode) (levels : List (Option Mode)) → leaves_open b levels ≡ false → AllByRecursion (IsUnguarded r) levels → AllByRecursion (IsUnguarded r) (settled b otherwise levels)
settled_closed r b otherwise [] o h = tt
settled_closed r b otherwise (None ∷ below) o h = let n = neither_open (not (is_mutex b below)) (leaves_open b below) o in (closed_one r (is_mutex b below) otherwise n.0, settled_closed r b otherwise below n.1 h.1)
settled_closed r b otherwise (Some m ∷ below) o h = (settled_own r (is_mutex b below) m h.0, settled_closed r b otherwise below o h.1)

-- the positions of a global
pub global_unguarded : (r : Resolution) (b : Base) (levels : List (Option Mode)) → first_unfit_path r Global b levels ≡ None → AllByRecursion (IsUnguarded r) (settled b None levels)
global_unguarded r b [] h = tt
global_unguarded r b (top ∷ below) h =
    let n = neither (unfit_path_in r Global below) (unfit_top_path r Global b below top) h in
    settled_all r b None (top ∷ below) tt (top_level top n.1, unguarded_levels r Global below n.0)
  where
    or_false : (z : Bool) → (z || false) ≡ true → z ≡ true
    or_false true e = refl
    or_false false e = e

    top_level : (level : Option Mode) → unfit_top_path r Global b below level ≡ None → IsUnguarded r level
    top_level None h = tt
    top_level (Some (Locked path)) h = unguarded_path r Global (lock_of path) (or_false _ (fits_by (top_path_fits r Global b below (lock_of path)) path h))
    top_level _ h = refl

-- those of a field: its top may be locked behind a sibling pointer only where no target takes its mode
pub field_unguarded : (r : Resolution) (b : Base) (top : Option Mode) (below : List (Option Mode)) → first_unfit_path r Field b (top ∷ below) ≡ None → AllByRecursion (IsUnguarded r) (settled b (Some (field_target (top ∷ below))) below)
field_unguarded r b top below h =
    let n = neither (unfit_path_in r Field below) (unfit_top_path r Field b below top) h in
    by top n.1 (unguarded_levels r Field below n.0)
  where
    closed : (n : Named) (s : Option (List ℕ)) → allows_pointer r Field b below n s ≡ true → leaves_open b below ≡ false
    closed n None e = not_false _ (and_parts _ _ e).1
    closed n (Some x) e = absurd (false≢true e)

    by : (level : Option Mode) → unfit_top_path r Field b below level ≡ None → AllByRecursion (IsUnguarded r) below → AllByRecursion (IsUnguarded r) (settled b (Some (field_target (level ∷ below))) below)
    by None h all = settled_all r b (Some Dynamic) below refl all
    by (Some (Locked path)) h all =
        ⊎_elim (λ f. settled_all r b (Some (Locked path)) below (unguarded_path r Field (lock_of path) f) all)
        (λ q. settled_closed r b (Some (Locked path)) below (closed (named_at r (lock_of path).first) (lock_of path).second q) all)
        (or_cases _ _ (fits_by (top_path_fits r Field b below (lock_of path)) path h))
    by k h all = settled_all r b k below refl all

-- those of an entity
below_top : (r : Resolution) (p : Place) (b : Base) (levels : List (Option Mode)) → first_unfit_path r p b levels ≡ None → AllByRecursion (IsUnguarded r) (settled b None (drop 1 levels))
below_top r p b [] h = tt
below_top r p b (top ∷ below) h = settled_all r b None below tt (unguarded_levels r p below (neither (unfit_path_in r p below) _ h).0)

field_levels : (r : Resolution) (b : Base) (levels : List (Option Mode)) → first_unfit_path r Field b levels ≡ None → AllByRecursion (IsUnguarded r) (settled b (Some (field_target levels)) (drop 1 levels))
field_levels r b [] h = tt
field_levels r b (top ∷ below) h = field_unguarded r b top below h

role_levels : (r : Resolution) (where_ : Role) (b : Base) (levels : List (Option Mode)) → first_unfit_path r (place_of where_) b levels ≡ None → AllByRecursion (IsUnguarded r) (settled b (otherwise_of where_ levels) (drop (first_depth where_) levels))
role_levels r Role.Field b levels h = field_levels r b levels h
role_levels r Role.Global b levels h = global_unguarded r b levels h
role_levels r Role.Result b levels h = below_top r Result b levels h
role_levels r _ b levels h = below_top r Local b levels h

pub entity_unguarded : (r : Resolution) (e : Entity) → first_unfit_path r (place_of e.role) e.written.ctype.base e.written.ctype.levels ≡ None → AllByRecursion (IsUnguarded r) (settled_modes e)
entity_unguarded r e h = role_levels r e.role e.written.ctype.base e.written.ctype.levels h

-- all positions of a program

both : (r : Resolution) (a b : List (Option Mode)) → AllByRecursion (IsUnguarded r) a → AllByRecursion (IsUnguarded r) b → AllByRecursion (IsUnguarded r) (a ++ b)
both r [] b x y = y
both r (z ∷ rest) b x y = (x.0, both r rest b x.1 y)

all_settled : (r : Resolution) (list : List Entity) → AllByRecursion (IsFit r) list → AllByRecursion (IsUnguarded r) (settled_in list)
all_settled r [] h = tt
all_settled r (e ∷ rest) h = both r (settled_modes e) (settled_in rest) (entity_unguarded r e h.0) (all_settled r rest h.1)

one_settled : (r : Resolution) (list : List (Option Mode)) (position : ℕ) → AllByRecursion (IsUnguarded r) list → IsUnguarded r (slice_index_or list position (Some Private))
one_settled r [] position h = refl
one_settled r (x ∷ rest) zero h = h.0
one_settled r (x ∷ rest) (suc n) h = one_settled r rest n h.1

everywhere : (Q : Mode → Type 0) (list : List Mode) → Q Private → ((p : ℕ) → p < length list → Q (slice_index_or list p Private)) → (p : ℕ) → Q (slice_index_or list p Private)
everywhere Q [] q f p = q
everywhere Q (x ∷ rest) q f zero = f zero (omega arith)
everywhere Q (x ∷ rest) q f (suc p) = everywhere Q rest q (λ k low. f (suc k) (omega (arith, low))) p

found_unguarded : (r : Resolution) (level : Option Mode) (finding : NodeFinding) → IsUnguarded r level → guard_field r (sharing_of (mode_found level finding)) ≡ None
found_unguarded r (Some mode) finding h = h
found_unguarded r None Apart h = refl
found_unguarded r None _ h = refl

mode_unguarded : (m : Assignment) → IsLeastAssignment m → AllByRecursion (IsFit m.typed) (entities_in m.typed.program.items) → (position : ℕ) → guard_field m.typed (mode_at m position) ≡ None
mode_unguarded m least fit = everywhere (λ mode. guard_field m.typed (sharing_of mode) ≡ None) m.modes refl
    (λ p low. let size = least.modes in
    subst (λ mode. guard_field m.typed (sharing_of mode) ≡ None) (sym (least.mode p (omega (arith, low, size))))
    (found_unguarded m.typed (settled_at m.typed p) (finding_at least.findings p) (one_settled m.typed (settled_in (entities_in m.typed.program.items)) p (all_settled m.typed (entities_in m.typed.program.items) fit))))

first_unguarded : (m : Assignment) → ((p : ℕ) → guard_field m.typed (mode_at m p) ≡ None) → (o : Option Numbered) → guard_field m.typed (first_mode m o) ≡ None
first_unguarded m all None = refl
first_unguarded m all (Some n) = all n.first

global_is : (m : Assignment) → ((p : ℕ) → guard_field m.typed (mode_at m p) ≡ None) → (o : Option GlobalDefinition) → guard_field m.typed (global_cell m o) ≡ None
global_is m all None = refl
global_is m all (Some g) = first_unguarded m all (entity_at m.typed g.declaration.name.site.token g.declaration.name.site.token)

pub globals_unguarded : FitAreUnguarded
globals_unguarded m least fit g = global_is m (mode_unguarded m least fit) (global_at m.typed g)
