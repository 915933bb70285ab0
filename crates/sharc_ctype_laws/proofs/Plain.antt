-- No parameter, local or result is a struct or a mutex.
use Rattle.sharc_ctype_laws.proofs.{Imports.{◌≡◌, ℕ, ◌+◌, ◌==◌, Bool, true, false, ◌&&◌, ◌||◌, List, [], ◌∷◌, refl, ap, sym, ◌∙◌, eqb-true, false≢true, AllByRecursion, Base, WrittenType, Declaration, TypeNotAllowed, Scope, Role, is_struct_base, same_base, declared_kind, stars_of, holds_struct, holds_mutex, is_allowed, allowed_there, type_notes, parameters_notes, Resolution, with_names, is_aggregate, declared, and_false}, Held.{Held, left, right, well}}
use Rattle.sharc_tree.specs.Tree as tree

abbrev pub Plain : Declaration → Type 0
Plain d = is_aggregate (declared_kind d.written) ≡ false

bare : (where_ : Role) (b : Base) → holds_struct where_ ≡ false → holds_mutex where_ ≡ false → is_allowed where_ b 0 ≡ true → (is_struct_base b || (same_base b Base.Mutex && true)) ≡ false
bare where_ Base.Mutex s m h = absurd (false≢true (sym m ∙ h))
bare where_ (Base.Struct name) s m h = absurd (false≢true (sym s ∙ h))
bare where_ _ s m h = refl

plain_by : (where_ : Role) (b : Base) (n : ℕ) (z : Bool) → (n == 0) ≡ z → holds_struct where_ ≡ false → holds_mutex where_ ≡ false → is_allowed where_ b n ≡ true → ((z && is_struct_base b) || (same_base b Base.Mutex && z)) ≡ false
plain_by where_ b n true is s m h = bare where_ b s m (ap (is_allowed where_ b) (sym (eqb-true n 0 is)) ∙ h)
plain_by where_ b n false is s m h = and_false (same_base b Base.Mutex)

pub plain_type : (r : Resolution) (scope : Scope) (siblings : List Declaration) (where_ : Role) (w : WrittenType) → holds_struct where_ ≡ false → holds_mutex where_ ≡ false → Held r (type_notes scope siblings where_ w) → is_aggregate (declared_kind w) ≡ false
plain_type r scope siblings where_ w s m h = plain_by where_ w.ctype.base (stars_of w) (stars_of w == 0) refl s m (well _ (allowed_there where_ w) w.span.first.token TypeNotAllowed (right _ _ _ (left _ _ _ h)))

pub plain_parameters : (r : Resolution) (block before : ℕ) (scope : Scope) (list : List Declaration) → Held r (parameters_notes block before scope list) → AllByRecursion Plain list
plain_parameters r block before scope [] h = tt
plain_parameters r block before scope (d ∷ rest) h =
    (plain_type r scope [] Role.Parameter d.written refl refl (left _ _ _ (left _ _ _ (left _ _ _ h))), plain_parameters r block (before + 1) (with_names scope (declared block d scope.names)) rest (right _ _ _ h))
