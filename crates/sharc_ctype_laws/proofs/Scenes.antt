-- Scopes in which each name means what the program's declarations say.
use Rattle.sharc_ctype_laws.proofs.{Imports.{◌≡◌, ◌⊎◌, inl, inr, ℕ, ◌==◌, Bool, true, false, ◌&&◌, cond, List, [], ◌∷◌, refl, ap, sym, ◌∙◌, subst, eqb-true, Option, Some, None, is_some, bytes_eq, codes, false≢true, and_parts, bytes_eq-Decides, AllByRecursion, Base, Void, Struct, WrittenType, Declaration, StructDefinition, Expression, Function, TypeNotAllowed, BadForm, Need, Scope, Role, Kind, object, array, void, declared_kind, stars_of, StructTable, StructMeaning, defined, known, struct_of, field_of, Entry, Meaning, look_up, called, fits, met, unmet, misfit, misfit_of, mismatch, used_call, is_known, holds_void, is_allowed, allowed_there, base_notes, struct_note, type_notes, is_fine, struct_named, name_of, signature_of, Resolution, structs_in, struct_at, declaration_at, global_at, function_at, same_some}, Held.{Held, left, right, no_fault, well}}
use Rattle.sharc_names.specs.Names as meaning

-- a base that objects have: no `void`, and no struct that is not known
abbrev pub Stands : StructTable → Base → Type 0
Stands structs Void = ⊥
Stands structs (Struct name) = (m : StructMeaning) × (struct_of structs name ≡ Some m)
Stands structs _ = Unit {0}

abbrev pub IsSolid : StructTable → Kind → Type 0
IsSolid structs (object b n) = Stands structs b
IsSolid structs (array b n) = Stands structs b
IsSolid structs _ = Unit {0}

-- the type of a result may be `void`
abbrev pub IsResult : StructTable → Kind → Type 0
IsResult structs k = IsSolid structs k ⊎ (k ≡ void)

-- only a call has the type `void`
abbrev pub IsValued : StructTable → Expression → Kind → Type 0
IsValued structs e k = IsSolid structs k ⊎ ((k ≡ void) × (word : ℕ) × (called e ≡ Some word))

-- what an entry of a scope, and of the table of structs, has to be

abbrev pub IsMeant : Resolution → StructTable → List ℕ → Meaning → Type 0
IsMeant r structs name (meaning.variable d) = (d.name.text ≡ name) × (declaration_at r d.name.site.token ≡ Some d) × IsSolid structs (declared_kind d.written)
IsMeant r structs name (meaning.global n g) = (g.declaration.name.text ≡ name) × (global_at r n ≡ Some g) × IsSolid structs (declared_kind g.declaration.written)
IsMeant r structs name (meaning.function n s) = (f : Function) × (function_at r n ≡ Some f) × (signature_of f ≡ s) × IsResult structs (declared_kind f.result) × (f.name.text ≡ name)
IsMeant r structs name (meaning.condition c) = name ≡ name_of c

abbrev pub AreMeant : Resolution → StructTable → List Entry → Type 0
AreMeant r structs names = AllByRecursion (λ e. IsMeant r structs e.name e.meaning) names

abbrev pub IsField : Resolution → StructTable → Declaration → Type 0
IsField r structs d = (declaration_at r d.name.site.token ≡ Some d) × IsSolid structs (declared_kind d.written)

abbrev pub IsStruct : Resolution → StructTable → List ℕ → StructMeaning → Type 0
IsStruct r structs name (defined n fields) = (s : StructDefinition) × (struct_at r n ≡ Some s) × (struct_named (structs_in r.program.items) name ≡ Some s) × (s.fields ≡ fields) × AllByRecursion (IsField r structs) fields
IsStruct r structs name known = name ≡ codes "cond"

abbrev pub AreStructs : Resolution → StructTable → StructTable → Type 0
AreStructs r structs table = AllByRecursion (λ e. IsStruct r structs e.0 e.1) table

pub record IsScene (r : Resolution) (scope : Scope) : Type 0 where
  pub names : AreMeant r scope.structs scope.names
  pub structs : AreStructs r scope.structs scope.structs

-- what is found is so

pub found_or_later : {A : Type 0} (P : A → Type 0) (x y : A) (later : Option A) (b : Bool) → cond b (Some x) later ≡ Some y → (b ≡ true → P x) → (later ≡ Some y → P y) → P y
found_or_later P x y later true h p q = subst P (same_some x y h) (p refl)
found_or_later P x y later false h p q = q h

pub found_name : (r : Resolution) (structs : StructTable) (names : List Entry) (name : List ℕ) (e : Entry) → AreMeant r structs names → look_up names name ≡ Some e → IsMeant r structs name e.meaning
found_name r structs [] name e all is = absurd (false≢true (ap is_some is))
found_name r structs (x ∷ rest) name e all is =
    found_or_later (λ (z : Entry). IsMeant r structs name z.meaning) x e (look_up rest name) (bytes_eq x.name name) is
    (λ t. subst (λ n. IsMeant r structs n x.meaning) ((bytes_eq-Decides x.name name).0 t) all.0)
    (λ h. found_name r structs rest name e all.1 h)

pub found_struct : (r : Resolution) (structs table : StructTable) (name : List ℕ) (m : StructMeaning) → AreStructs r structs table → struct_of table name ≡ Some m → IsStruct r structs name m
found_struct r structs [] name m all is = absurd (false≢true (ap is_some is))
found_struct r structs (x ∷ rest) name m all is =
    found_or_later (IsStruct r structs name) x.1 m (struct_of rest name) (bytes_eq name x.0) is (λ t. subst (λ n. IsStruct r structs n x.1) (sym ((bytes_eq-Decides name x.0).0 t)) all.0) (λ h. found_struct r structs rest name m all.1 h)

pub found_field : (r : Resolution) (structs : StructTable) (fields : List Declaration) (name : List ℕ) (d : Declaration) → AllByRecursion (IsField r structs) fields → field_of fields name ≡ Some d → IsField r structs d
found_field r structs [] name d all is = absurd (false≢true (ap is_some is))
found_field r structs (x ∷ rest) name d all is =
    found_or_later (IsField r structs) x d (field_of rest name) (bytes_eq x.name.text name) is (λ t. all.0) (λ h. found_field r structs rest name d all.1 h)

-- what is needed is met

some : (r : Resolution) (structs : StructTable) (b : Base) (e : Expression) → Stands structs b → Held r (misfit_of b e) → ⊥
some r structs Void e s h = s
some r structs _ e s h = no_fault _ _ _ _ h

of_object : (r : Resolution) (structs : StructTable) (b : Base) (e : Expression) (z : Bool) → Stands structs b → Held r (cond z (misfit_of b e) (mismatch e)) → ⊥
of_object r structs b e true s h = some r structs b e s h
of_object r structs b e false s h = no_fault _ _ _ _ h

of_solid : (r : Resolution) (structs : StructTable) (k : Kind) (e : Expression) → IsSolid structs k → Held r (misfit k e) → ⊥
of_solid r structs (object b n) e s h = of_object r structs b e (n == 0) s h
of_solid r structs _ e s h = no_fault _ _ _ _ h

pub misfit_told : (r : Resolution) (structs : StructTable) (k : Kind) (e : Expression) → IsValued structs e k → Held r (misfit k e) → ⊥
misfit_told r structs k e (inl s) h = of_solid r structs k e s h
misfit_told r structs k e (inr (is, word, c)) h = no_fault _ word BadForm [] (subst (λ w. Held r (used_call w)) c (subst (λ z. Held r (misfit z e)) is h))

by_fit : (r : Resolution) (structs : StructTable) (need : Need) (e : Expression) (k : Kind) (b : Bool) → fits need k ≡ b → IsValued structs e k → Held r (cond b [] (misfit k e)) → fits need k ≡ true
by_fit r structs need e k true f v h = f
by_fit r structs need e k false f v h = absurd (misfit_told r structs k e v h)

pub need_fits : (r : Resolution) (structs : StructTable) (need : Need) (e : Expression) (k : Kind) (t : Option Kind) → t ≡ Some k → IsValued structs e k → Held r (unmet need e t) → fits need k ≡ true
need_fits r structs need e k t is v h = by_fit r structs need e k (fits need k) refl v (subst (λ t'. Held r (unmet need e t')) is h)

pub need_met : (need : Need) (k : Kind) (t : Option Kind) → t ≡ Some k → fits need k ≡ true → met need t ≡ Some k
need_met need k t is f = ap (met need) is ∙ ap (λ b. cond b (Some k) None) f

-- written types

a_struct_known : (r : Resolution) (token : ℕ) (o : Option StructMeaning) → Held r (struct_note token o) → (m : StructMeaning) × (o ≡ Some m)
a_struct_known r token None h = absurd (no_fault _ _ _ _ h)
a_struct_known r token (Some m) h = (m, refl)

known_by : (o : Option StructMeaning) (m : StructMeaning) → o ≡ Some m → is_some o ≡ true
known_by o m is = ap is_some is

pub base_known : (r : Resolution) (structs : StructTable) (token : ℕ) (b : Base) → Held r (base_notes structs token b) → is_known structs b ≡ true
base_known r structs token (Struct name) h = let m = a_struct_known r token (struct_of structs name) h in known_by _ m.0 m.1
base_known r structs token _ h = refl

base_stands : (r : Resolution) (structs : StructTable) (token : ℕ) (where_ : Role) (b : Base) (stars : ℕ) → holds_void where_ ≡ false → Held r (base_notes structs token b) → is_allowed where_ b stars ≡ true → Stands structs b
base_stands r structs token where_ Void stars v h a = false≢true (sym v ∙ (and_parts (stars == 0) (holds_void where_) a).1)
base_stands r structs token where_ (Struct name) stars v h a = a_struct_known r token (struct_of structs name) h
base_stands r structs token where_ _ stars v h a = tt

result_stands : (r : Resolution) (structs : StructTable) (token : ℕ) (b : Base) (stars : ℕ) → Held r (base_notes structs token b) → is_allowed Role.Result b stars ≡ true → IsResult structs (object b stars)
result_stands r structs token Void stars h a = inr (ap (object Void) (eqb-true stars 0 (and_parts (stars == 0) true a).0))
result_stands r structs token (Struct name) stars h a = inl (a_struct_known r token (struct_of structs name) h)
result_stands r structs token _ stars h a = inl tt

pub type_base : (r : Resolution) (scope : Scope) (siblings : List Declaration) (where_ : Role) (w : WrittenType) → Held r (type_notes scope siblings where_ w) → Held r (base_notes scope.structs w.base.token w.ctype.base)
type_base r scope siblings where_ w h = left _ _ _ (left _ _ _ h)

pub type_allowed : (r : Resolution) (scope : Scope) (siblings : List Declaration) (where_ : Role) (w : WrittenType) → Held r (type_notes scope siblings where_ w) → allowed_there where_ w ≡ true
type_allowed r scope siblings where_ w h = well _ (allowed_there where_ w) w.span.first.token TypeNotAllowed (right _ _ _ (left _ _ _ h))

pub type_fine : (r : Resolution) (scope : Scope) (siblings : List Declaration) (where_ : Role) (w : WrittenType) → Held r (type_notes scope siblings where_ w) → is_fine scope.structs where_ w ≡ true
type_fine r scope siblings where_ w h =
    ap (λ b. b && allowed_there where_ w) (base_known r scope.structs w.base.token w.ctype.base (type_base r scope siblings where_ w h)) ∙ type_allowed r scope siblings where_ w h

pub type_solid : (r : Resolution) (scope : Scope) (siblings : List Declaration) (where_ : Role) (w : WrittenType) → holds_void where_ ≡ false → Held r (type_notes scope siblings where_ w) → IsSolid scope.structs (declared_kind w)
type_solid r scope siblings where_ w v h = base_stands r scope.structs w.base.token where_ w.ctype.base (stars_of w) v (type_base r scope siblings where_ w h) (type_allowed r scope siblings where_ w h)

pub type_result : (r : Resolution) (scope : Scope) (siblings : List Declaration) (w : WrittenType) → Held r (type_notes scope siblings Role.Result w) → IsResult scope.structs (declared_kind w)
type_result r scope siblings w h = result_stands r scope.structs w.base.token w.ctype.base (stars_of w) (type_base r scope siblings Role.Result w h) (type_allowed r scope siblings Role.Result w h)
