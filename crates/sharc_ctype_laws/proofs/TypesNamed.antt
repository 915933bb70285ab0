-- The names in the written types of a program of which no fault is noted name what they spell.
use Rattle.sharc_ctype_laws.proofs.{Imports.{◌≡◌, inl, inr, ℕ, ◌+◌, Bool, true, false, cond, List, [], ◌∷◌, refl, ap, sym, ◌∙◌, subst, Option, Some, None, is_some, bytes_eq, false≢true, bytes_eq-Decides, AllByRecursion, Base, Mode, Locked, Path, One, Through, WrittenType, Declaration, BadForm, Scope, Role, Kind, object, is_struct_behind, is_main, StructTable, StructMeaning, defined, known, struct_of, Entry, Meaning, look_up, field_of, named_of, named_struct, kind_of, name_kind, name_notes, field_in, field_notes, first_kind, second_in, second_notes, path_notes, mode_notes, modes_notes, struct_note, base_notes, type_notes, Named, Resolution, named_at, IsMemberOf, NamesStruct, IsNamedBase, FirstNames, a_known_call, IsNamedPath, IsNamedLevel, IsNamedType, same_some}, Exact.path_kind, Held.{Held, left, right, no_fault, not_wrong, head_named, behind_head, second_held}, Judged.{not_main_text, struct_behind_is, member_of, not_main_kind as kind_is}, Scenes.{IsSolid, IsMeant, IsField, IsStruct, IsScene, found_or_later, found_name, found_struct, found_field}}
use Rattle.sharc_tree.specs.Tree as tree
use Rattle.sharc_names.specs.Types.{first_notes}
use Rattle.sharc_names.specs.Names as meaning
use Rattle.sharc_ctype_laws.specs.WrittenTypes.{a_field, a_variable, a_global, a_function}

-- bases

struct_meant : (r : Resolution) (structs : StructTable) (token : ℕ) (name : List ℕ) (m : StructMeaning) → IsStruct r structs name m → named_at r token ≡ named_struct m → NamesStruct r token name
struct_meant r structs token name (defined n fields) i is = inl (n, i.0, is, i.1, i.2)
struct_meant r structs token name known i is = inr (is, i)

struct_by : (r : Resolution) (scope : Scope) → IsScene r scope → (token : ℕ) (name : List ℕ) (o : Option StructMeaning) → struct_of scope.structs name ≡ o → Held r (struct_note token o) → NamesStruct r token name
struct_by r scope scene token name None is h = absurd (no_fault _ _ _ _ h)
struct_by r scope scene token name (Some m) is h = struct_meant r scope.structs token name m (found_struct r scope.structs scope.structs name m scene.structs is) (head_named _ _ _ _ h)

base_named : (r : Resolution) (scope : Scope) → IsScene r scope → (token : ℕ) (b : Base) → Held r (base_notes scope.structs token b) → IsNamedBase r token b
base_named r scope scene token (Base.Struct name) h = struct_by r scope scene token name (struct_of scope.structs name) refl h
base_named r scope scene token _ h = tt

-- lock paths

spelled : (fields : List Declaration) (name : List ℕ) (d : Declaration) → field_of fields name ≡ Some d → d.name.text ≡ name
spelled [] name d is = absurd (false≢true (ap is_some is))
spelled (x ∷ rest) name d is =
    found_or_later (λ (z : Declaration). z.name.text ≡ name) x d (field_of rest name) (bytes_eq x.name.text name) is (λ t. (bytes_eq-Decides x.name.text name).0 t) (λ h. spelled rest name d h)

entry_names : (r : Resolution) (structs : StructTable) (token : ℕ) (name : List ℕ) (m : Meaning) → IsMeant r structs name m → is_main m ≡ false → named_at r token ≡ named_of m → FirstNames r token name (kind_of m)
entry_names r structs token name (meaning.variable d) m other is = a_variable is m.1 m.0
entry_names r structs token name (meaning.global n g) m other is = a_global is m.1 m.0
entry_names r structs token name (meaning.function n f) m other is = a_function is m.1 m.4 (not_main_text n m.0 f name m.2 m.4 other)
entry_names r structs token name (meaning.condition c) m other is = a_known_call c is m

name_names : (r : Resolution) (scope : Scope) → IsScene r scope → (token : ℕ) (name : List ℕ) (k : Kind) (o : Option Entry) → look_up scope.names name ≡ o → name_kind o ≡ Some k → Held r (name_notes token o) → FirstNames r token name k
name_names r scope scene token name k None is kind h = absurd (no_fault _ _ _ _ h)
name_names r scope scene token name k (Some e) is kind h =
    subst (FirstNames r token name) (same_some _ _ (sym (kind_is e.meaning (not_wrong _ (is_main e.meaning) token BadForm (behind_head _ _ _ _ h))) ∙ kind))
    (entry_names r scope.structs token name e.meaning (found_name r scope.structs scope.names name e scene.names is) (not_wrong _ (is_main e.meaning) token BadForm (behind_head _ _ _ _ h)) (head_named _ _ _ _ h))

first_names : (r : Resolution) (scope : Scope) → IsScene r scope → (siblings : List Declaration) → AllByRecursion (IsField r scope.structs) siblings → (token : ℕ) (name : List ℕ) (k : Kind) (o : Option Declaration) → field_of siblings name ≡ o
    → first_kind o (look_up scope.names name) ≡ Some k → Held r (first_notes token o (look_up scope.names name)) → FirstNames r token name k
first_names r scope scene siblings all token name k None is kind h = name_names r scope scene token name k (look_up scope.names name) refl kind h
first_names r scope scene siblings all token name k (Some d) is kind h =
    subst (FirstNames r token name) (same_some _ _ kind) (a_field (head_named _ _ _ _ h) (found_field r scope.structs siblings name d all is).0 (spelled siblings name d is))

record IsSecond (r : Resolution) (token : ℕ) (name : List ℕ) (k : Kind) : Type 0 where
  struct : List ℕ
  is : k ≡ object (Base.Struct struct) 1
  member : Declaration
  of : IsMemberOf r struct name member
  names : named_at r token ≡ Named.Field member.name.site.token

second_by : (r : Resolution) (scope : Scope) → IsScene r scope → (token : ℕ) (name : List ℕ) (k : Kind) (b : Bool) → is_struct_behind 1 k ≡ b → IsSolid scope.structs k → Held r (second_notes token (cond b (field_in scope.structs name (Some k)) (Some None))) → IsSecond r token name k
second_by r scope scene token name k false is s h = absurd (no_fault _ _ _ _ h)
second_by r scope scene token name k true is s h =
    let b = struct_behind_is 1 k is in
    let m = subst (IsSolid scope.structs) b.1 s in
    let f = member_of r scope.structs token name b.0 1 m.0 scene.structs m.1 (subst (λ z. Held r (field_notes token (field_in scope.structs name (Some z)))) b.1 (second_held _ token (field_in scope.structs name (Some k)) h)) in
    record { struct = b.0; is = b.1; member = f.member; of = f.of; names = f.names }

path_named : (r : Resolution) (scope : Scope) → IsScene r scope → (siblings : List Declaration) → AllByRecursion (IsField r scope.structs) siblings → (p : Path) → Held r (path_notes scope siblings p) → IsNamedPath r p
path_named r scope scene siblings all (One m token) h =
    let k = path_kind r scope scene siblings all token m (field_of siblings m) refl h in
    (k.kind, first_names r scope scene siblings all token m k.kind (field_of siblings m) refl k.is h)
path_named r scope scene siblings all (Through x token m) h =
    let k = path_kind r scope scene siblings all token x (field_of siblings x) refl (left _ _ _ h) in
    let s = second_by r scope scene (token + 2) m k.kind (is_struct_behind 1 k.kind) refl k.solid (subst (λ z. Held r (second_notes (token + 2) (second_in scope.structs m z))) k.is (right _ _ _ h)) in
    (s.struct, s.member, subst (FirstNames r token x) s.is (first_names r scope scene siblings all token x k.kind (field_of siblings x) refl k.is (left _ _ _ h)), s.of, s.names)

level_named : (r : Resolution) (scope : Scope) → IsScene r scope → (siblings : List Declaration) → AllByRecursion (IsField r scope.structs) siblings → (m : Option Mode) → Held r (mode_notes scope siblings m) → IsNamedLevel r m
level_named r scope scene siblings all (Some (Locked path)) h = path_named r scope scene siblings all path h
level_named r scope scene siblings all _ h = tt

levels_named : (r : Resolution) (scope : Scope) → IsScene r scope → (siblings : List Declaration) → AllByRecursion (IsField r scope.structs) siblings → (levels : List (Option Mode)) → Held r (modes_notes scope siblings levels) → AllByRecursion (IsNamedLevel r) levels
levels_named r scope scene siblings all [] h = tt
levels_named r scope scene siblings all (m ∷ below) h = (level_named r scope scene siblings all m (left _ _ _ h), levels_named r scope scene siblings all below (right _ _ _ h))

pub type_named : (r : Resolution) (scope : Scope) → IsScene r scope → (siblings : List Declaration) → AllByRecursion (IsField r scope.structs) siblings → (where_ : Role) (w : WrittenType) → Held r (type_notes scope siblings where_ w) → IsNamedType r w
type_named r scope scene siblings all where_ w h = record { base = base_named r scope scene w.base.token w.ctype.base (left _ _ _ (left _ _ _ h)); levels = levels_named r scope scene siblings all w.ctype.levels (right _ _ _ h) }
