-- Lock paths that lead to something: what a written path is as it is read, and that nothing is wrong with it where its
-- first name is found.
use Rattle.sharc_suggest_laws.proofs.{Imports.{◌≡◌, ℕ, ◌+◌, Bool, true, false, cond, List, [], ◌∷◌, map, Option, Some, None, refl, ap, sym, subst, ◌∙◌, and_parts, codes, AllByRecursion, Base, Path, One, Through, Declaration, StructDefinition, Arguments, Function, FaultCode, BadForm, Named, Scope, Kind, object, Entry, Meaning, StructTable, look_up, named_of, kind_of, is_main, Note, yields, fault_where, name_kind, main_notes, name_notes, field_among, second_in, second_notes, path_notes, mode_notes, modes_notes, Resolution, structs_in, named_at, function_at, named_kind, variable_kind, global_kind_of, with_names, struct_named, IsMemberOf, FirstNames, a_known_call, IsNamedPath, argument_use, lock_through, with_base, path_variable, lock_for, Lock, Sharing, locked, lock_of, text_at, path_with, path_of, mode_of, is_sibling_lock, variable_named, keeps_first, keeps, keeps_all, no_token, one_some, true_no}, Filed.{IsMeant, IsFiled}, Noted.{Clean, none, joined, referring}}
use Rattle.sharc_ctype_laws.specs.WrittenTypes.{a_field, a_variable, a_global, a_function}

-- ---- no fault among notes

clean_yields : (token : ℕ) (what : Named) (rest : List Note) → Clean rest → Clean (yields token what ∷ rest)
unfolding Clean
clean_yields token what rest h = h

clean_where : (b : Bool) (place : ℕ) (code : FaultCode) → b ≡ false → Clean (fault_where b place code)
clean_where true place code is = absurd (true_no is)
clean_where false place code is = none

-- ---- a lock path that leads to something

-- from what its first name names, which points to a struct, to a field of it
abbrev pub Leads : Resolution → Named → List ℕ → Type 0
Leads r v m = (struct : List ℕ) × (d : Declaration) × (named_kind r v ≡ object (Base.Struct struct) 1) × IsMemberOf r struct m d

abbrev pub SecondLeads : Resolution → Named → Option (List ℕ) → Type 0
SecondLeads r v None = Unit {0}
SecondLeads r v (Some m) = Leads r v m

abbrev pub IsNoMain : Resolution → Named → Type 0
IsNoMain r v = (n : ℕ) (f : Function) → v ≡ Named.Function n → function_at r n ≡ Some f → f.name.text ≡ codes "main" → ⊥

pub record IsSoundLock (r : Resolution) (l : Lock) : Type 0 where
  pub first : IsNoMain r (named_at r l.first)
  pub second : SecondLeads r (named_at r l.first) l.second

abbrev pub IsSoundSharing : Resolution → Sharing → Type 0
IsSoundSharing r (locked l) = IsSoundLock r l
IsSoundSharing r _ = Unit {0}

-- ---- as it is written

pub first_kind_is : (r : Resolution) (token : ℕ) (text : List ℕ) (k : Kind) → FirstNames r token text k → named_kind r (named_at r token) ≡ k
first_kind_is r token text _ (a_field at is same) = ap (named_kind r) at ∙ ap variable_kind is
first_kind_is r token text _ (a_variable at is same) = ap (named_kind r) at ∙ ap variable_kind is
first_kind_is r token text _ (a_global at is same) = ap (named_kind r) at ∙ ap global_kind_of is
first_kind_is r token text _ (a_function at is same other) = ap (named_kind r) at
first_kind_is r token text _ (a_known_call c at is) = ap (named_kind r) at

first_no_main : (r : Resolution) (token : ℕ) (text : List ℕ) (k : Kind) → FirstNames r token text k → IsNoMain r (named_at r token)
first_no_main r token text _ (a_field {t = t} at is same) = λ n f so there main. cc (sym at ∙ so)
first_no_main r token text _ (a_variable {t = t} at is same) = λ n f so there main. cc (sym at ∙ so)
first_no_main r token text _ (a_global {n = t} at is same) = λ n f so there main. cc (sym at ∙ so)
first_no_main r token text _ (a_function {n = k} {f = g} at is same other) = λ n f so there main.
    let number : k ≡ n = cc (sym at ∙ so) in
    let one : g ≡ f = one_some g f (sym is ∙ ap (function_at r) number ∙ there) in
    other (sym same ∙ ap (λ (x : Function). x.name.text) one ∙ main)
first_no_main r token text _ (a_known_call c at is) = λ n f so there main. cc (sym at ∙ so)

pub written_sound : (r : Resolution) (path : Path) → IsNamedPath r path → IsSoundLock r (lock_of path)
written_sound r (One m token) names = record { first = first_no_main r token m names.0 names.1; second = tt }
written_sound r (Through x token m) names = record {
  first = first_no_main r token x (object (Base.Struct names.0) 1) names.2;
  second = (names.0, names.1, first_kind_is r token x (object (Base.Struct names.0) 1) names.2, names.3);
}

-- ---- through `x->f`

-- what this token names is a variable
abbrev pub IsVariableAt : Resolution → ℕ → Type 0
IsVariableAt r at = (v : ℕ) × (named_at r at ≡ Named.Variable v)

variable_no_main : (r : Resolution) (at : ℕ) → IsVariableAt r at → IsNoMain r (named_at r at)
variable_no_main r at is = λ n f so there main. cc (sym is.1 ∙ so)

pub through_sound : (r : Resolution) (at : ℕ) (path : Path) → IsNamedPath r path → IsVariableAt r at → (is_sibling_lock r (lock_of path) ≡ true → Leads r (named_at r at) (text_at r (lock_of path).first)) → IsSoundLock r (lock_through r at (lock_of path))
through_sound r at path names variable leads = by (is_sibling_lock r (lock_of path)) leads
  where
    by : (b : Bool) → (b ≡ true → Leads r (named_at r at) (text_at r (lock_of path).first)) → IsSoundLock r (cond b (record { first = at; second = Some (text_at r (lock_of path).first) }) (lock_of path))
    by true more = record { first = variable_no_main r at variable; second = more refl }
    by false more = written_sound r path names

-- ---- at a call

-- an argument that is a constant variable is a pointer where the parameter is one
abbrev pub ArgumentsFit : Resolution → List Declaration → Arguments → Type 0
ArgumentsFit r ds all = (t y : ℕ) → argument_use r ds all t ≡ Some y → (b : Base) (n : ℕ) → named_kind r (Named.Variable t) ≡ object b (n + 1) → IsVariableAt r y × (named_kind r (named_at r y) ≡ object b (n + 1))

variable_is : (v : Named) (t : ℕ) → variable_named v ≡ Some t → v ≡ Named.Variable t
variable_is (Named.Variable x) t is = ap Named.Variable (one_some x t is)
variable_is _ t is = absurd (no_token t is)

pub call_sound : (r : Resolution) (ds : List Declaration) (all : Arguments) (path : Path) → IsNamedPath r path → ArgumentsFit r ds all → IsSoundLock r (lock_for r ds all (path_variable r (lock_of path)) (lock_of path))
call_sound r ds all (One m token) names fit = written_sound r (One m token) names
call_sound r ds all (Through x token m) names fit = by (variable_named (named_at r token)) refl
  where
    l : Lock
    l = lock_of (Through x token m)

    inner : (t : ℕ) → named_at r token ≡ Named.Variable t → (o : Option ℕ) → argument_use r ds all t ≡ o → IsSoundLock r (with_base o l)
    inner t at None is = written_sound r (Through x token m) names
    inner t at (Some y) is =
        let kind : named_kind r (Named.Variable t) ≡ object (Base.Struct names.0) 1 = ap (named_kind r) (sym at) ∙ first_kind_is r token x (object (Base.Struct names.0) 1) names.2 in
        let fits : IsVariableAt r y × (named_kind r (named_at r y) ≡ object (Base.Struct names.0) 1) = fit t y is (Base.Struct names.0) 0 kind in
        record { first = variable_no_main r y fits.0; second = (names.0, names.1, fits.1, names.3) }

    by : (o : Option ℕ) → variable_named (named_at r token) ≡ o → IsSoundLock r (lock_for r ds all o l)
    by None is = written_sound r (Through x token m) names
    by (Some t) is = inner t (variable_is (named_at r token) t is) (argument_use r ds all t) refl

-- ---- where the first name is found, nothing is wrong with it

-- its first name is found, and means what it names
abbrev pub IsFoundIn : Resolution → List Entry → ℕ → Type 0
IsFoundIn r names token = (e : Entry) × (look_up names (text_at r token) ≡ Some e) × (named_at r token ≡ named_of e.meaning) × IsMeant r e.meaning

not_main : (r : Resolution) (token : ℕ) (m : Meaning) → IsNoMain r (named_at r token) → named_at r token ≡ named_of m → IsMeant r m → is_main m ≡ false
not_main r token m none same meant = by (is_main m) refl
  where
    by : (b : Bool) → is_main m ≡ b → is_main m ≡ false
    by true is = let main = meant.main is in absurd (none main.0 main.1 (same ∙ main.2) main.3 main.4)
    by false is = is

first_clean : (r : Resolution) (names : List Entry) (token : ℕ) → IsNoMain r (named_at r token) → (found : IsFoundIn r names token) → Clean (name_notes token (look_up names (text_at r token)))
first_clean r names token none found =
    let clean : Clean (name_notes token (Some found.0)) =
    referring token (named_of found.0.meaning) (main_notes token found.0.meaning) (clean_where (is_main found.0.meaning) token BadForm (not_main r token found.0.meaning none found.2 found.3)) in
    subst (λ (o : Option Entry). Clean (name_notes token o)) (sym found.1) clean

-- the file knows each struct
abbrev pub KnowsStructs : Resolution → StructTable → Type 0
KnowsStructs r structs = (name : List ℕ) (s : StructDefinition) → struct_named (structs_in r.program.items) name ≡ Some s → IsFiled structs name s

second_found : (r : Resolution) (structs : StructTable) → KnowsStructs r structs → (names : List Entry) (token : ℕ) (m : List ℕ) → IsNoMain r (named_at r token) → (found : IsFoundIn r names token) → (leads : Leads r (named_at r token) m)
    → second_in structs m (name_kind (look_up names (text_at r token))) ≡ Some (Some leads.1)
second_found r structs knows names token m none found leads =
    let e : Entry = found.0 in
    let s : StructDefinition = leads.3.0 in
    let kind : kind_of e.meaning ≡ object (Base.Struct leads.0) 1 = found.3.kind ∙ ap (named_kind r) (sym found.2) ∙ leads.2 in
    let has : name_kind (Some e) ≡ Some (object (Base.Struct leads.0) 1) =
    ap (λ (b : Bool). cond b None (Some (kind_of e.meaning))) (not_main r token e.meaning none found.2 found.3) ∙ ap Some kind in
    let filed : IsFiled structs leads.0 s = knows leads.0 s leads.3.1 in
    ap (λ (o : Option Entry). second_in structs m (name_kind o)) found.1 ∙ ap (second_in structs m) has ∙ ap (field_among m) filed.1 ∙ ap Some leads.3.2

pub path_clean : (r : Resolution) (file : Scope) → KnowsStructs r file.structs → (names : List Entry) (l : Lock) → IsSoundLock r l → IsFoundIn r names l.first → Clean (path_notes (with_names file names) [] (path_of r l))
path_clean r file knows names l sound found = by l.second sound.second
  where
    by : (o : Option (List ℕ)) → SecondLeads r (named_at r l.first) o → Clean (path_notes (with_names file names) [] (path_with l.first (text_at r l.first) o))
    by None leads = first_clean r names l.first sound.first found
    by (Some m) leads =
        joined (name_notes l.first (look_up names (text_at r l.first))) _ (first_clean r names l.first sound.first found)
        (subst (λ (o : Option (Option Declaration)). Clean (second_notes (l.first + 2) o)) (sym (second_found r file.structs knows names l.first m sound.first found leads))
        (clean_yields (l.first + 2) (Named.Field leads.1.name.site.token) [] none))

-- ---- so of the modes of a type, where the first names are kept

mode_clean : (r : Resolution) (file : Scope) → KnowsStructs r file.structs → (names scope : List Entry) → ((token : ℕ) → keeps_first r scope token ≡ true → IsFoundIn r names token) → (s : Sharing) → IsSoundSharing r s → keeps r scope s ≡ true
    → Clean (mode_notes (with_names file names) [] (Some (mode_of r s)))
mode_clean r file knows names scope found (locked l) sound kept = path_clean r file knows names l sound (found l.first kept)
mode_clean r file knows names scope found _ sound kept = none

pub modes_clean : (r : Resolution) (file : Scope) → KnowsStructs r file.structs → (names scope : List Entry) → ((token : ℕ) → keeps_first r scope token ≡ true → IsFoundIn r names token) → (modes : List Sharing)
    → AllByRecursion (IsSoundSharing r) modes → keeps_all r scope modes ≡ true → Clean (modes_notes (with_names file names) [] (map (λ s. Some (mode_of r s)) modes))
modes_clean r file knows names scope found [] sound kept = none
modes_clean r file knows names scope found (s ∷ rest) sound kept =
    let parts : (keeps r scope s ≡ true) × (keeps_all r scope rest ≡ true) = and_parts (keeps r scope s) (keeps_all r scope rest) kept in
    joined (mode_notes (with_names file names) [] (Some (mode_of r s))) _ (mode_clean r file knows names scope found s sound.0 parts.0) (modes_clean r file knows names scope found rest sound.1 parts.1)
