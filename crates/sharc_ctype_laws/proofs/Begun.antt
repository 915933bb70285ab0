-- A global of which no fault is noted has an element, and begins at a value of its type.
use Rattle.sharc_ctype_laws.proofs.{Imports.{◌≡◌, ◌⊎◌, inl, inr, ℕ, ◌≤◌, ◌==◌, Bool, true, false, cond, List, [], ◌∷◌, ◌++◌, refl, ap, sym, ◌∙◌, subst, arith, eqb-true, ltb-true, leb-true, lt-ltb, Some, unsigned_abs, nat_lt, false≢true, eqb-false, AllByRecursion, Base, Int, Char, Long, Mutex, Void, Struct, WrittenType, Constant, Number, Character, Null, GlobalDefinition, GlobalForm, Array, Initial, Item, structure, global, function, TypeMismatch, TypeNotAllowed, Scope, object, stars_of, declared_kind, fault_unless, is_allowed, allowed_there, type_notes, Role, elements_of, length_notes, holds, holds_constant, is_null_constant, base_initial_notes, constant_notes as initial_notes, global_notes, item_notes, items_notes, globals_in, IsInteger, IsPointer, IsHeldBy, number_of, MeetsInitial, MeetsGlobal}, Held.{Clean, left, right, well, not_wrong, no_fault}, KindLemmas.pointer_is}

-- lengths

some_elements : (f : GlobalForm) → Clean (length_notes f) → 1 ≤ elements_of f
some_elements (Array at count) h = let e = eqb-false (unsigned_abs count.value) 0 (not_wrong _ (unsigned_abs count.value == 0) at.token TypeNotAllowed h) in omega (arith, e)
some_elements _ h = omega arith

-- integers

held_number : (b : Base) (minus : Bool) (n : ℕ) → holds b minus n ≡ true → IsHeldBy b minus n
held_number Mutex minus n h = absurd (false≢true h)
held_number Void minus n h = absurd (false≢true h)
held_number (Struct name) minus n h = absurd (false≢true h)
held_number _ true n h = leb-true n _ h
held_number _ false n h = ltb-true n _ h

held_constant : (b : Base) (minus : Bool) (c : Constant) → holds_constant b minus c ≡ true → (n : ℕ) × (number_of c ≡ Some n) × IsHeldBy b minus n
held_constant b minus (Number n) h = (unsigned_abs n.value, refl, held_number b minus (unsigned_abs n.value) h)
held_constant b minus (Character byte) h = (byte, refl, held_number b minus byte h)
held_constant b minus Null h = absurd (false≢true h)

integer_begins : (b : Base) (name at : ℕ) (minus : Bool) (c : Constant) → is_allowed Role.Global b 0 ≡ true → Clean (base_initial_notes b name at minus c) → IsInteger (object b 0) × (n : ℕ) × (number_of c ≡ Some n) × IsHeldBy b minus n
integer_begins Int name at minus c a h = let p = held_constant Int minus c (well _ _ at TypeMismatch h) in ((Int, refl, refl), p.0, p.1, p.2)
integer_begins Char name at minus c a h = let p = held_constant Char minus c (well _ _ at TypeMismatch h) in ((Char, refl, refl), p.0, p.1, p.2)
integer_begins Long name at minus c a h = let p = held_constant Long minus c (well _ _ at TypeMismatch h) in ((Long, refl, refl), p.0, p.1, p.2)
integer_begins Void name at minus c a h = absurd (false≢true a)
integer_begins _ name at minus c a h = absurd (no_fault _ _ _ _ h)

-- pointers

null_is : (c : Constant) → is_null_constant c ≡ true → c ≡ Null
null_is Null h = refl
null_is _ h = absurd (false≢true h)

some_stars : (n : ℕ) → (n == 0) ≡ false → nat_lt 0 n ≡ true
some_stars n h = let e = eqb-false n 0 h in lt-ltb 0 n (omega (arith, e))

begins_by : (w : WrittenType) (name at : ℕ) (minus : Bool) (c : Constant) (z : Bool) → (stars_of w == 0) ≡ z → allowed_there Role.Global w ≡ true → Clean (cond z (base_initial_notes w.ctype.base name at minus c) (fault_unless (is_null_constant c) at TypeMismatch))
    → (IsInteger (declared_kind w) × (n : ℕ) × (number_of c ≡ Some n) × IsHeldBy w.ctype.base minus n) ⊎ (IsPointer (declared_kind w) × (c ≡ Null))
begins_by w name at minus c true is a h =
    let none = eqb-true (stars_of w) 0 is in
    let p = integer_begins w.ctype.base name at minus c (ap (is_allowed Role.Global w.ctype.base) (sym none) ∙ a) h in
    inl (subst (λ k. IsInteger (object w.ctype.base k)) (sym none) p.0, p.1, p.2, p.3)
begins_by w name at minus c false is a h = inr (pointer_is (declared_kind w) (some_stars (stars_of w) is), null_is c (well _ (is_null_constant c) at TypeMismatch h))

begins : (g : GlobalDefinition) (f : GlobalForm) → allowed_there Role.Global g.declaration.written ≡ true → Clean (initial_notes g f) → MeetsInitial g.declaration.written f
begins g (Initial span minus c) a h = begins_by g.declaration.written g.declaration.name.site.token span.first.token minus c (stars_of g.declaration.written == 0) refl a h
begins g _ a h = tt

global_meets : (file : Scope) (g : GlobalDefinition) → Clean (global_notes file g) → MeetsGlobal g
global_meets file g h =
    let type = left _ (type_notes file [] Role.Global g.declaration.written) (length_notes g.form) (left _ (type_notes file [] Role.Global g.declaration.written ++ length_notes g.form) (initial_notes g g.form) h) in
    record {
      elements = some_elements g.form (right _ (type_notes file [] Role.Global g.declaration.written) (length_notes g.form) (left _ (type_notes file [] Role.Global g.declaration.written ++ length_notes g.form) (initial_notes g g.form) h));
      initial = begins g g.form (well _ (allowed_there Role.Global g.declaration.written) g.declaration.written.span.first.token TypeNotAllowed (right _ _ _ (left _ _ _ type))) (right _ (type_notes file [] Role.Global g.declaration.written ++ length_notes g.form) (initial_notes g g.form) h);
    }

pub globals_meet : (file : Scope) (items : List Item) → Clean (items_notes file items) → AllByRecursion MeetsGlobal (globals_in items)
globals_meet file [] h = tt
globals_meet file (structure s ∷ rest) h = globals_meet file rest (right _ (item_notes file (structure s)) (items_notes file rest) h)
globals_meet file (global g ∷ rest) h = (global_meets file g (left _ (item_notes file (global g)) (items_notes file rest) h), globals_meet file rest (right _ (item_notes file (global g)) (items_notes file rest) h))
globals_meet file (function f ∷ rest) h = globals_meet file rest (right _ (item_notes file (function f)) (items_notes file rest) h)
