-- In a well-moded program no shape has a racy pointer or struct, nor a private target below one that is not.
use Rattle.sharc_accepted_laws.proofs.{Imports.{◌≡◌, ◌⊎◌, inl, inr, ⊎_elim, ℕ, zero, suc, ◌+◌, ◌-◌, ◌<◌, true, List, [], ◌∷◌, length, map, get_or as slice_index_or, refl, ap, sym, ◌∙◌, subst, arith, Option, Some, None, Contains, false≢true, cases_lt, AllByRecursion, slice_get, Base, Mode, Private, Racy, Role, is_struct_base, Numbered, entities_in, numbered, positions_of, written_modes, first_depth, IsLeastAssignment, Assignment, IsBelow, written, entity_row, modes_of, settled, field_target, otherwise_of, settled_modes, IsEntity, IsWritten, MeetsRules, Form, private_form, racy_form, Shape, form_of, shapes_down, entity_shapes, shapes_of, shapes, is_private_form, both, head_there, head_or_tail, tail_there, none_there, left_there, right_there}, TargetForms.{mode_form, IsLevel, skipped, level_of}, Settling.{positioned, racy_found, private_found, SettledAt, settled_by, IsLast, SettledBy, a_mutex, is_written, is_meant, settled_from, never_open, get_dropped, dropped_length, otherwise_top}}

-- ---- forms of modes
pub form_racy : (mode : Mode) → mode_form mode ≡ racy_form → mode ≡ Racy
form_racy Racy h = refl
form_racy _ h = cc

pub form_private : (mode : Mode) → mode_form mode ≡ private_form → mode ≡ Private
form_private Private h = refl
form_private _ h = cc

pub private_form_is : (f : Form) → is_private_form f ≡ true → f ≡ private_form
private_form_is private_form h = refl
private_form_is _ h = absurd (false≢true h)

-- ---- forms one below the other
abbrev pub AreFit : Base → List Form → Type 0
AreFit b [] = Unit {0}
AreFit b (f ∷ []) = is_struct_base b ≡ true → f ≡ racy_form → ⊥
AreFit b (f ∷ g ∷ below) = (f ≡ racy_form → ⊥) × (is_private_form g ≡ true → f ≡ private_form) × AreFit b (g ∷ below)

fit_from : (b : Base) (fs : List Form) → ((k : ℕ) (f g : Form) → slice_get fs k ≡ Some f → slice_get fs (suc k) ≡ Some g → (f ≡ racy_form → ⊥) × (is_private_form g ≡ true → f ≡ private_form))
    → ((k : ℕ) (f : Form) → slice_get fs k ≡ Some f → is_struct_base b ≡ true → f ≡ racy_form → ⊥) → AreFit b fs
fit_from b [] pairs last = tt
fit_from b (f ∷ []) pairs last = last zero f refl
fit_from b (f ∷ g ∷ below) pairs last = let p = pairs zero f g refl refl in (p.0, p.1, fit_from b (g ∷ below) (λ k x y at next. pairs (suc k) x y at next) (λ k x at. last (suc k) x at))

fit_below : (b : Base) (f : Form) (below : List Form) → AreFit b (f ∷ below) → AreFit b below
fit_below b f [] h = tt
fit_below b f (g ∷ below) h = h.2

abbrev pub IsFitShape : Shape → Type 0
IsFitShape s = AreFit s.base s.forms

down_fit : (b : Base) (fs : List Form) → AreFit b fs → AllByRecursion IsFitShape (shapes_down b fs)
down_fit b [] h = tt
down_fit b (f ∷ below) h = (h, down_fit b below (fit_below b f below h))

pub struct_base : (b : Base) → is_struct_base b ≡ true → (name : List ℕ) × (b ≡ Base.Struct name)
struct_base (Base.Struct name) h = (name, refl)
struct_base _ h = absurd (false≢true h)

module _ (m : Assignment) (least : IsLeastAssignment m) (rules : MeetsRules m) where
  module _ (n : Numbered) (is_entity : IsEntity m n) where
    abbrev levels : List (Option Mode)
    levels = n.entity.written.ctype.levels

    abbrev depth : ℕ
    depth = first_depth n.entity.role

    abbrev forms : List Form
    forms = map form_of (modes_of m (entity_row written (Some n)))

    counted : positions_of n.entity ≡ length levels - depth
    counted = dropped_length depth levels

    settled_there : (k : ℕ) (mode : Mode) → k < positions_of n.entity → slice_get m.modes (n.first + k) ≡ Some mode → SettledAt m n k mode
    settled_there k mode low at = settled_by m least n (positioned (entities_in m.typed.program.items) 0 n is_entity) k mode low at

    by_written : (k : ℕ) → k < positions_of n.entity → (depth + k + 1 < length levels) ⊎ ((name : List ℕ) × (n.entity.written.ctype.base ≡ Base.Struct name)) → IsWritten n.entity (depth + k) Racy → ⊥
    by_written k low (inl pointer) w = (rules.m5 n (depth + k) Racy is_entity w).pointer pointer refl
    by_written k low (inr struct) w =
        let many = counted in
        ⊎_elim (λ pointer. (rules.m5 n (depth + k) Racy is_entity w).pointer pointer refl)
        (λ high. (rules.m5 n (depth + k) Racy is_entity w).struct struct.0 struct.1 (omega (arith, high, low, many)) refl) (cases_lt (depth + k + 1) (length levels))

    by_mutex : (k : ℕ) → (depth + k + 1 < length levels) ⊎ ((name : List ℕ) × (n.entity.written.ctype.base ≡ Base.Struct name)) → IsLast n.entity.written.ctype.base (written_modes n.entity) k → ⊥
    by_mutex k (inl pointer) w = let last = w.last in let many = counted in omega (arith, pointer, last, many)
    by_mutex k (inr struct) w = cc (sym w.mutex ∙ struct.1)

    by_top : (k : ℕ) → k < positions_of n.entity → (n.entity.role ≡ Role.Field) × (slice_get levels 0 ≡ Some (Some Racy)) → ⊥
    by_top k low (is, top) =
        let many = counted in
        let one : depth ≡ 1 = ap first_depth is in
        (rules.m5 n 0 Racy is_entity top).pointer (omega (arith, low, many, one)) refl

    by_settled : (k : ℕ) → k < positions_of n.entity → (depth + k + 1 < length levels) ⊎ ((name : List ℕ) × (n.entity.written.ctype.base ≡ Base.Struct name))
        → SettledBy n.entity.written.ctype.base (otherwise_of n.entity.role levels) (written_modes n.entity) k Racy → ⊥
    by_settled k low guarded (a_mutex is last) = by_mutex k guarded last
    by_settled k low guarded (is_written is) = by_written k low guarded (get_dropped depth levels k (Some Racy) is)
    by_settled k low guarded (is_meant is) = by_top k low (otherwise_top n.entity.role levels Racy is (λ e. cc))

    pub never_racy : (k : ℕ) → k < positions_of n.entity → (depth + k + 1 < length levels) ⊎ ((name : List ℕ) × (n.entity.written.ctype.base ≡ Base.Struct name)) → slice_get m.modes (n.first + k) ≡ Some Racy → ⊥
    never_racy k low guarded at =
        let s = settled_there k Racy low at in
        by_settled k low guarded (settled_from n.entity.written.ctype.base (otherwise_of n.entity.role levels) (written_modes n.entity) k Racy low (racy_found _ s.finding s.found))

    at_mode : (k : ℕ) (f : Form) (l : IsLevel m n k f) (mode : Mode) → l.at.mode ≡ mode → slice_get m.modes (n.first + (skipped n.entity.role + k)) ≡ Some mode
    at_mode k f l mode is = l.at.at ∙ ap Some is

    pair_racy : (k : ℕ) (f g : Form) → IsLevel m n k f → IsLevel m n (suc k) g → f ≡ racy_form → ⊥
    pair_racy k f g l next is =
        let low = l.inside in
        let many = counted in
        never_racy (skipped n.entity.role + k) low (inl (omega (arith, next.inside, many))) (at_mode k f l Racy (form_racy l.at.mode (l.at.form ∙ is)))

    pair_private : (k : ℕ) (f g : Form) → IsLevel m n k f → IsLevel m n (suc k) g → is_private_form g ≡ true → f ≡ private_form
    pair_private k f g l next is =
        let below : IsBelow m.typed (n.first + (skipped n.entity.role + k)) (n.first + (skipped n.entity.role + suc k)) =
        record { of = n; stands = is_entity; depth = skipped n.entity.role + k; inside = omega (arith, next.inside); first = refl; second = omega arith } in
        let private : l.at.mode ≡ Private = rules.m3.positions _ _ l.at.mode below l.at.at (at_mode (suc k) g next Private (form_private next.at.mode (next.at.form ∙ private_form_is g is))) in
        sym l.at.form ∙ ap mode_form private

    pub entity_fit : AreFit n.entity.written.ctype.base forms
    entity_fit = fit_from n.entity.written.ctype.base forms
        (λ k f g at next. (pair_racy k f g (level_of m n k f at) (level_of m n (suc k) g next), pair_private k f g (level_of m n k f at) (level_of m n (suc k) g next)))
        (λ k f at struct is. let l = level_of m n k f at in never_racy (skipped n.entity.role + k) l.inside (inr (struct_base n.entity.written.ctype.base struct)) (at_mode k f l Racy (form_racy l.at.mode (l.at.form ∙ is))))

    -- the target of a field is never private
    private_written : (k : ℕ) → n.entity.role ≡ Role.Field → SettledBy n.entity.written.ctype.base (otherwise_of n.entity.role levels) (written_modes n.entity) k Private → ⊥
    private_written k is (a_mutex same last) = cc
    private_written k is (is_written w) = rules.m6 n (depth + k) is_entity is (get_dropped depth levels k (Some Private) w)
    private_written k is (is_meant w) = rules.m6 n 0 is_entity is (otherwise_top n.entity.role levels Private w (λ e. cc)).1

    private_open : (k : ℕ) → n.entity.role ≡ Role.Field → slice_index_or (settled_modes n.entity) k (Some Private) ≡ None → ⊥
    private_open k is h =
        never_open n.entity.written.ctype.base (field_target levels) (written_modes n.entity) k
        (subst (λ w. slice_index_or (settled n.entity.written.ctype.base (otherwise_of w levels) (written_modes n.entity)) k (Some Private) ≡ None) is h)

    pub field_shared : n.entity.role ≡ Role.Field → (k : ℕ) (f : Form) → slice_get forms k ≡ Some f → f ≡ private_form → ⊥
    field_shared is k f at private =
        let l = level_of m n k f at in
        let low = l.inside in
        let s = settled_there (skipped n.entity.role + k) Private low (at_mode k f l Private (form_private l.at.mode (l.at.form ∙ private))) in
        ⊎_elim (λ h. private_written (skipped n.entity.role + k) is (settled_from n.entity.written.ctype.base (otherwise_of n.entity.role levels) (written_modes n.entity) (skipped n.entity.role + k) Private low h))
        (λ h. private_open (skipped n.entity.role + k) is h) (private_found _ s.finding s.found)

  -- ---- all shapes
  list_fit : (list : List Numbered) → ((n : Numbered) → Contains list n → IsEntity m n) → AllByRecursion IsFitShape (shapes_of m list)
  list_fit [] all = ((λ struct is. cc), ((λ struct is. cc), tt))
  list_fit (n ∷ rest) all =
      both IsFitShape (entity_shapes m n) (shapes_of m rest) (down_fit n.entity.written.ctype.base (map form_of (modes_of m (entity_row written (Some n)))) (entity_fit n (all n (head_there n rest))))
      (list_fit rest (λ k has. all k (tail_there n k rest has)))

  pub shapes_fit : AllByRecursion IsFitShape (shapes m)
  shapes_fit = list_fit (numbered (entities_in m.typed.program.items)) (λ n has. has)

-- ---- the shape of an entity is there
pub list_there : (m : Assignment) (list : List Numbered) (n : Numbered) (s : Shape) → Contains list n → Contains (entity_shapes m n) s → Contains (shapes_of m list) s
list_there m [] n s has at = absurd (none_there n has)
list_there m (x ∷ rest) n s has at =
    ⊎_elim (λ is. left_there (entity_shapes m x) (shapes_of m rest) s (subst (λ z. Contains (entity_shapes m z) s) (sym is) at)) (λ later. right_there (entity_shapes m x) (shapes_of m rest) s (list_there m rest n s later at)) (head_or_tail x n rest has)

down_there : (b : Base) (fs : List Form) → 0 < length fs → Contains (shapes_down b fs) (record { base = b; forms = fs })
down_there b [] some = absurd (omega (arith, some))
down_there b (f ∷ below) some = head_there (record { base = b; forms = f ∷ below }) (shapes_down b below)

pub entity_there : (m : Assignment) (n : Numbered) → IsEntity m n → 0 < length (map form_of (modes_of m (entity_row written (Some n))))
    → Contains (shapes m) (record { base = n.entity.written.ctype.base; forms = map form_of (modes_of m (entity_row written (Some n))) })
entity_there m n is some = list_there m (numbered (entities_in m.typed.program.items)) n _ is (down_there n.entity.written.ctype.base (map form_of (modes_of m (entity_row written (Some n)))) some)
