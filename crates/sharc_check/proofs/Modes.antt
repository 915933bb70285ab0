-- Modes that are where they may be, there and back.
use Rattle.sharc_check.proofs.{Imports.{◌≡◌, ℕ, zero, suc, ◌+◌, ◌<◌, true, not, ◌&&◌, List, [], ◌∷◌, length, slice_get, refl, ap, sym, ◌∙◌, arith, Option, Some, None, false≢true, and_parts, and_from, list_any, Base, Mode, Private, Readonly, Locked, Racy, Dynamic, Role, Entity, Place, is_private_level, is_field_role, place_of, is_private_mode, is_racy_mode, base_allows, level_allows, top_allows, unfit_mode, unfit_top, unfit_mode_in, first_unfit_mode, IsWritten, HasPrivateTop, of_variable, of_result, IsModeAllowed, same_some, none_some, place_of_element, place_there}, Levels.private_is, Lists.{passes_there, passes_by}, Options.{or_none, none_or, unless_none, none_unless, none_of}}

racy_is : (mode : Mode) → is_racy_mode mode ≡ true → mode ≡ Racy
racy_is Racy h = refl
racy_is _ h = absurd (false≢true h)

not_racy : (mode : Mode) → not (is_racy_mode mode) ≡ true → mode ≡ Racy → ⊥
not_racy mode h is = false≢true (sym (ap (λ z. not (is_racy_mode z)) is) ∙ h)

unraced : (mode : Mode) → (mode ≡ Racy → ⊥) → not (is_racy_mode mode) ≡ true
unraced Racy h = absurd (h refl)
unraced _ h = refl

-- ---- a level with this many below it

record LevelRules (b : Base) (size : ℕ) (mode : Mode) : Type 0 where
  pointer : 0 < size → mode ≡ Racy → ⊥
  struct : (name : List ℕ) → b ≡ Base.Struct name → size ≡ 0 → mode ≡ Racy → ⊥
  mutex : b ≡ Base.Mutex → size ≡ 0 → mode ≡ Racy

base_rules : (b : Base) (mode : Mode) → base_allows b mode ≡ true → LevelRules b 0 mode
base_rules b mode h = record {
  pointer = λ low. absurd (omega (arith, low));
  struct = λ name is size. not_racy mode (ap (λ z. base_allows z mode) (sym is) ∙ h);
  mutex = λ is size. racy_is mode (ap (λ z. base_allows z mode) (sym is) ∙ h);
}

rules_base : (b : Base) (mode : Mode) → LevelRules b 0 mode → base_allows b mode ≡ true
rules_base Base.Mutex mode h = ap is_racy_mode (h.mutex refl refl)
rules_base (Base.Struct name) mode h = unraced mode (h.struct name refl refl)
rules_base _ mode h = refl

level_rules : (b : Base) (below : List (Option Mode)) (mode : Mode) → level_allows b below mode ≡ true → LevelRules b (length below) mode
level_rules b [] mode h = base_rules b mode h
level_rules b (x ∷ below) mode h = record {
  pointer = λ low. not_racy mode h;
  struct = λ name is size. absurd (omega (arith, size));
  mutex = λ is size. absurd (omega (arith, size));
}

rules_level : (b : Base) (below : List (Option Mode)) (mode : Mode) → LevelRules b (length below) mode → level_allows b below mode ≡ true
rules_level b [] mode h = rules_base b mode h
rules_level b (x ∷ below) mode h = let some : 0 < suc (length below) = omega arith in unraced mode (h.pointer some)

-- ---- all levels

-- the levels below one, and that it may be above them
record Below (b : Base) (levels : List (Option Mode)) (k : ℕ) (mode : Mode) : Type 0 where
  below : List (Option Mode)
  size : length below + k + 1 ≡ length levels
  allows : level_allows b below mode ≡ true

next_below : (b : Base) (level : Option Mode) (levels : List (Option Mode)) (k : ℕ) (mode : Mode) → Below b levels k mode → Below b (level ∷ levels) (suc k) mode
next_below b level levels k mode h = let size = h.size in record { below = h.below; size = omega (arith, size); allows = h.allows }

in_none : (b : Base) (levels : List (Option Mode)) → unfit_mode_in b levels ≡ None → (k : ℕ) (mode : Mode) → slice_get levels k ≡ Some (Some mode) → Below b levels k mode
in_none b [] h k mode is = absurd (none_some (Some mode) is)
in_none b (level ∷ rest) h zero mode is =
    let one : unfit_mode b rest level ≡ None = (or_none (unfit_mode_in b rest) (unfit_mode b rest level) h).1 in
    record { below = rest; size = omega arith; allows = unless_none (level_allows b rest mode) mode (ap (unfit_mode b rest) (sym (same_some level (Some mode) is)) ∙ one) }
in_none b (level ∷ rest) h (suc k) mode is = next_below b level rest k mode (in_none b rest (or_none (unfit_mode_in b rest) (unfit_mode b rest level) h).0 k mode is)

none_level : (b : Base) (rest : List (Option Mode)) (level : Option Mode) → ((mode : Mode) → level ≡ Some mode → level_allows b rest mode ≡ true) → unfit_mode b rest level ≡ None
none_level b rest None h = refl
none_level b rest (Some mode) h = none_unless (level_allows b rest mode) mode (h mode refl)

none_top : (p : Place) (b : Base) (rest : List (Option Mode)) (level : Option Mode) → ((mode : Mode) → level ≡ Some mode → (level_allows b rest mode && top_allows p mode) ≡ true) → unfit_top p b rest level ≡ None
none_top p b rest None h = refl
none_top p b rest (Some mode) h = none_unless (level_allows b rest mode && top_allows p mode) mode (h mode refl)

-- each level of a list may be where it is
abbrev EachAllowed : Base → List (Option Mode) → Type 0
EachAllowed b levels = (k : ℕ) (mode : Mode) (below : List (Option Mode)) → slice_get levels k ≡ Some (Some mode) → length below + k + 1 ≡ length levels → level_allows b below mode ≡ true

rest_allowed : (b : Base) (level : Option Mode) (rest : List (Option Mode)) → EachAllowed b (level ∷ rest) → EachAllowed b rest
rest_allowed b level rest h k mode below is size = let more : length below + suc k + 1 ≡ suc (length rest) = omega (arith, size) in h (suc k) mode below is more

first_allowed : (b : Base) (level : Option Mode) (rest : List (Option Mode)) → EachAllowed b (level ∷ rest) → (mode : Mode) → level ≡ Some mode → level_allows b rest mode ≡ true
first_allowed b level rest h mode is = let whole : length rest + 0 + 1 ≡ suc (length rest) = omega arith in h zero mode rest (ap Some is) whole

none_in : (b : Base) (levels : List (Option Mode)) → EachAllowed b levels → unfit_mode_in b levels ≡ None
none_in b [] h = refl
none_in b (level ∷ rest) h = none_or (unfit_mode_in b rest) (unfit_mode b rest level) (none_in b rest (rest_allowed b level rest h)) (none_level b rest level (first_allowed b level rest h))

private_top : (p : Place) (mode : Mode) → top_allows p mode ≡ true → HasPrivateTop p → mode ≡ Private
private_top _ mode h of_variable = private_is mode h
private_top _ mode h of_result = private_is mode h

top_private : (p : Place) (mode : Mode) → (HasPrivateTop p → mode ≡ Private) → top_allows p mode ≡ true
top_private Place.Local mode h = ap is_private_mode (h of_variable)
top_private Place.Result mode h = ap is_private_mode (h of_result)
top_private _ mode h = refl

-- what holds of a level with this many below it
from_below : (e : Entity) (depth size : ℕ) (mode : Mode) → size + depth + 1 ≡ length e.written.ctype.levels → LevelRules e.written.ctype.base size mode → (HasPrivateTop (place_of e.role) → depth ≡ 0 → mode ≡ Private) → IsModeAllowed e depth mode
from_below e depth size mode whole h top = record {
  pointer = λ low. let some : 0 < size = omega (arith, low, whole) in h.pointer some;
  struct = λ name is last. let none : size ≡ 0 = omega (arith, last, whole) in h.struct name is none;
  mutex = λ is last. let none : size ≡ 0 = omega (arith, last, whole) in h.mutex is none;
  top = top;
}

to_below : (e : Entity) (depth size : ℕ) (mode : Mode) → size + depth + 1 ≡ length e.written.ctype.levels → IsModeAllowed e depth mode → LevelRules e.written.ctype.base size mode
to_below e depth size mode whole h = record {
  pointer = λ some. let low : depth + 1 < length e.written.ctype.levels = omega (arith, some, whole) in h.pointer low;
  struct = λ name is none. let last : depth + 1 ≡ length e.written.ctype.levels = omega (arith, none, whole) in h.struct name is last;
  mutex = λ is none. let last : depth + 1 ≡ length e.written.ctype.levels = omega (arith, none, whole) in h.mutex is last;
}

all_modes : (e : Entity) (levels : List (Option Mode)) → e.written.ctype.levels ≡ levels → first_unfit_mode (place_of e.role) e.written.ctype.base levels ≡ None → (depth : ℕ) (mode : Mode) → slice_get levels depth ≡ Some (Some mode) → IsModeAllowed e depth mode
all_modes e [] size h depth mode is = absurd (none_some (Some mode) is)
all_modes e (top ∷ below) size h zero mode is =
    let one : unfit_top (place_of e.role) e.written.ctype.base below top ≡ None = (or_none (unfit_mode_in e.written.ctype.base below) (unfit_top (place_of e.role) e.written.ctype.base below top) h).1 in
    let both_hold = unless_none (level_allows e.written.ctype.base below mode && top_allows (place_of e.role) mode) mode (ap (unfit_top (place_of e.role) e.written.ctype.base below) (sym (same_some top (Some mode) is)) ∙ one) in
    let parts = and_parts (level_allows e.written.ctype.base below mode) (top_allows (place_of e.role) mode) both_hold in
    let whole : length below + 0 + 1 ≡ suc (length below) = omega arith in
    from_below e 0 (length below) mode (whole ∙ ap length (sym size)) (level_rules e.written.ctype.base below mode parts.0) (λ has zero_is. private_top (place_of e.role) mode parts.1 has)
all_modes e (top ∷ below) size h (suc k) mode is =
    let found = in_none e.written.ctype.base below (or_none (unfit_mode_in e.written.ctype.base below) (unfit_top (place_of e.role) e.written.ctype.base below top) h).0 k mode is in
    let many = found.size in
    let whole : length found.below + suc k + 1 ≡ suc (length below) = omega (arith, many) in
    from_below e (suc k) (length found.below) mode (whole ∙ ap length (sym size)) (level_rules e.written.ctype.base found.below mode found.allows) (λ has zero_is. absurd (omega (arith, zero_is)))

modes_all : (e : Entity) (levels : List (Option Mode)) → e.written.ctype.levels ≡ levels → ((depth : ℕ) (mode : Mode) → slice_get levels depth ≡ Some (Some mode) → IsModeAllowed e depth mode) → first_unfit_mode (place_of e.role) e.written.ctype.base levels ≡ None
modes_all e [] size h = refl
modes_all e (top ∷ below) size h =
    none_or (unfit_mode_in e.written.ctype.base below) (unfit_top (place_of e.role) e.written.ctype.base below top)
    (none_in e.written.ctype.base below (λ k mode rest is many.
    let whole : length rest + suc k + 1 ≡ suc (length below) = omega (arith, many) in
    rules_level e.written.ctype.base rest mode (to_below e (suc k) (length rest) mode (whole ∙ ap length (sym size)) (h (suc k) mode is))))
    (none_top (place_of e.role) e.written.ctype.base below top (λ mode is.
    let whole : length below + 0 + 1 ≡ suc (length below) = omega arith in
    let allowed = h zero mode (ap Some is) in
    and_from (level_allows e.written.ctype.base below mode) (top_allows (place_of e.role) mode)
    (rules_level e.written.ctype.base below mode (to_below e 0 (length below) mode (whole ∙ ap length (sym size)) allowed))
    (top_private (place_of e.role) mode (λ has. allowed.top has refl))))

pub modes_allowed : (e : Entity) → ((mode : Mode) → first_unfit_mode (place_of e.role) e.written.ctype.base e.written.ctype.levels ≡ Some mode → ⊥) → (depth : ℕ) (mode : Mode) → IsWritten e depth mode → IsModeAllowed e depth mode
modes_allowed e h = all_modes e e.written.ctype.levels refl (none_of (first_unfit_mode (place_of e.role) e.written.ctype.base e.written.ctype.levels) h)

pub allowed_modes : (e : Entity) → ((depth : ℕ) (mode : Mode) → IsWritten e depth mode → IsModeAllowed e depth mode) → (mode : Mode) → first_unfit_mode (place_of e.role) e.written.ctype.base e.written.ctype.levels ≡ Some mode → ⊥
allowed_modes e h mode is = none_some mode (sym (modes_all e e.written.ctype.levels refl h) ∙ is)

-- ---- `private` in a field

field_is : (what : Role) → is_field_role what ≡ true → what ≡ Role.Field
field_is Role.Field h = refl
field_is _ h = absurd (false≢true h)

pub level_is : (o : Option Mode) → is_private_level o ≡ true → o ≡ Some Private
level_is None h = absurd (false≢true h)
level_is (Some mode) h = ap Some (private_is mode h)

pub no_private : (e : Entity) → (is_field_role e.role ≡ true → list_any is_private_level e.written.ctype.levels ≡ true → ⊥) → (depth : ℕ) → e.role ≡ Role.Field → IsWritten e depth Private → ⊥
no_private e h depth field is = h (ap is_field_role field) (passes_by is_private_level e.written.ctype.levels (Some Private) (place_there e.written.ctype.levels depth (Some Private) is) refl)

pub private_none : (e : Entity) → ((depth : ℕ) → e.role ≡ Role.Field → IsWritten e depth Private → ⊥) → is_field_role e.role ≡ true → list_any is_private_level e.written.ctype.levels ≡ true → ⊥
private_none e h field is =
    let found = passes_there is_private_level e.written.ctype.levels is in
    let at = place_of_element e.written.ctype.levels found.0 found.1 in
    h at.0 (field_is e.role field) (at.1 ∙ ap Some (level_is found.0 found.2))
