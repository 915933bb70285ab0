-- What is said of the type of a cast that is suggested does no harm: its names name there what they name where they are written.
use Rattle.sharc_suggest_laws.proofs.{Imports.{◌≡◌, inl, inr, ℕ, ◌+◌, Bool, true, false, List, [], ◌∷◌, ◌++◌, map, Option, Some, None, refl, ap, sym, subst, ◌∙◌, eqb-true, false≢true, and_parts, Base, Mode, Declaration, WrittenType, TypeNotAllowed, Named, Scope, Entry, StructMeaning, StructTable, struct_of, look_up, named_of, named_struct, fault_unless, name_notes, main_notes, second_in, second_notes, path_notes, mode_notes, modes_notes, struct_note, base_notes, allowed_there, type_notes, first_kind, Role, Resolution, named_at, with_names, Sharing, locked, is_field, same_named, mode_of, path_with, text_at, is_call_at, keeps_named, keeps, keeps_all, is_dull, one_some}, Words.calls_apart, Noted.{Clean, left, right, no_fault, Noted, done, added, both, more_faults, new_fault, quiet, main_faults, unless_faults}, Scoped.{IsFoundAs, Scoped}}
use Rattle.sharc_names.specs.Names as meaning

-- a global or a function
abbrev pub is_filed : Named → Bool
is_filed (Named.Global n) = true
is_filed (Named.Function n) = true
is_filed _ = false

-- A token that names a global or a function has the text of what the file knows as that, and the name of a known call is what the file knows as such a call. What names a
-- variable, a global or a function is no word `locked`, so no path begins two tokens after it.
pub record IsSpelled (r : Resolution) (file : List Entry) : Type 0 where
  pub filed : (token : ℕ) → is_filed (named_at r token) ≡ true → (e : Entry) → look_up file (text_at r token) ≡ Some e → named_of e.meaning ≡ named_at r token
  pub called : (token : ℕ) → named_at r token ≡ Named.Known → is_call_at r token ≡ true → (e : Entry) → look_up file (text_at r token) ≡ Some e → named_of e.meaning ≡ Named.Known
  pub apart : (token : ℕ) → is_dull (named_at r token) ≡ false → is_call_at r (token + 2) ≡ false

-- ---- the first name of a lock path

variable_is : (x : ℕ) (w : Named) → same_named (Named.Variable x) w ≡ true → Named.Variable x ≡ w
variable_is x (Named.Variable y) is = ap Named.Variable (eqb-true x y is)
variable_is x _ is = absurd (false≢true is)

-- what it names at the cast is what it names where it is written
pub named_there : (r : Resolution) (file names : List Entry) (token : ℕ) → IsSpelled r file → (v : Named) → named_at r token ≡ v → (c : Option Entry) → keeps_named (is_call_at r token) v c ≡ true
    → IsFoundAs c (look_up names (text_at r token)) (look_up file (text_at r token)) → (e : Entry) → look_up names (text_at r token) ≡ Some e → named_at r token ≡ named_of e.meaning
named_there r file names token spelled (Named.Struct n) is None kept found e at = absurd (false≢true kept)
named_there r file names token spelled (Named.Global n) is None kept found e at = sym (spelled.filed token (ap is_filed is) e (sym found ∙ at))
named_there r file names token spelled (Named.Function n) is None kept found e at = sym (spelled.filed token (ap is_filed is) e (sym found ∙ at))
named_there r file names token spelled (Named.Variable x) is (Some c) kept found e at =
    is ∙ variable_is x (named_of c.meaning) kept ∙ ap named_of (sym found.2) ∙ ap (λ (z : Entry). named_of z.meaning) (one_some found.0 e (sym found.1 ∙ at))
named_there r file names token spelled (Named.Field f) is None kept found e at = absurd (false≢true kept)
named_there r file names token spelled Named.Known is None kept found e at = is ∙ sym (spelled.called token is kept e (sym found ∙ at))
named_there r file names token spelled _ is _ kept found e at = absurd (false≢true kept)

name_mild : (r : Resolution) (token : ℕ) (o : Option Entry) → ((e : Entry) → o ≡ Some e → named_at r token ≡ named_of e.meaning) → Clean (name_notes token o) → Noted r [] (name_notes token o)
name_mild r token None is clean = absurd (no_fault _ _ _ clean)
name_mild r token (Some e) is clean = added (inl (is e refl)) (quiet r [] (main_notes token e.meaning) tt (main_faults token e.meaning))

second_mild : (r : Resolution) (token : ℕ) → is_call_at r token ≡ false → (o : Option (Option Declaration)) → Noted r [] (second_notes token o)
second_mild r token apart None = done
second_mild r token apart (Some None) = new_fault done
second_mild r token apart (Some (Some d)) = added (refl, apart) done

-- where the first name of a path is kept, no path begins where its second name is looked for
seconds_apart : (r : Resolution) (file : List Entry) (token : ℕ) → IsSpelled r file → (v : Named) → named_at r token ≡ v → (c : Option Entry) → keeps_named (is_call_at r token) v c ≡ true → is_call_at r (token + 2) ≡ false
seconds_apart r file token spelled (Named.Struct n) is None kept = absurd (false≢true kept)
seconds_apart r file token spelled (Named.Global n) is c kept = spelled.apart token (ap is_dull is)
seconds_apart r file token spelled (Named.Function n) is c kept = spelled.apart token (ap is_dull is)
seconds_apart r file token spelled (Named.Variable x) is c kept = spelled.apart token (ap is_dull is)
seconds_apart r file token spelled (Named.Field f) is None kept = absurd (false≢true kept)
seconds_apart r file token spelled Named.Known is None kept = calls_apart r token kept
seconds_apart r file token spelled _ is _ kept = absurd (false≢true kept)

path_mild : (r : Resolution) (scope : Scope) (token : ℕ) (text : List ℕ) (second : Option (List ℕ)) → is_call_at r (token + 2) ≡ false
    → ((e : Entry) → look_up scope.names text ≡ Some e → named_at r token ≡ named_of e.meaning) → Clean (path_notes scope [] (path_with token text second)) → Noted r [] (path_notes scope [] (path_with token text second))
path_mild r scope token text None apart is clean = name_mild r token (look_up scope.names text) is clean
path_mild r scope token text (Some m) apart is clean =
    both r [] (name_notes token (look_up scope.names text)) [] _ (name_mild r token (look_up scope.names text) is (left _ _ clean))
    (second_mild r (token + 2) apart (second_in scope.structs m (first_kind None (look_up scope.names text))))

mode_mild : (r : Resolution) (file : Scope) (names scope : List Entry) → IsSpelled r file.names → Scoped file.names names scope → (s : Sharing) → keeps r scope s ≡ true
    → Clean (mode_notes (with_names file names) [] (Some (mode_of r s))) → Noted r [] (mode_notes (with_names file names) [] (Some (mode_of r s)))
mode_mild r file names scope spelled scoped (locked l) kept clean =
    path_mild r (with_names file names) l.first (text_at r l.first) l.second
    (seconds_apart r file.names l.first spelled (named_at r l.first) refl (look_up scope (text_at r l.first)) kept)
    (named_there r file.names names l.first spelled (named_at r l.first) refl (look_up scope (text_at r l.first)) kept (scoped (text_at r l.first))) clean
mode_mild r file names scope spelled scoped _ kept clean = done

modes_mild : (r : Resolution) (file : Scope) (names scope : List Entry) → IsSpelled r file.names → Scoped file.names names scope → (modes : List Sharing) → keeps_all r scope modes ≡ true
    → Clean (modes_notes (with_names file names) [] (map (λ s. Some (mode_of r s)) modes)) → Noted r [] (modes_notes (with_names file names) [] (map (λ s. Some (mode_of r s)) modes))
modes_mild r file names scope spelled scoped [] kept clean = done
modes_mild r file names scope spelled scoped (s ∷ rest) kept clean =
    let parts : (keeps r scope s ≡ true) × (keeps_all r scope rest ≡ true) = and_parts (keeps r scope s) (keeps_all r scope rest) kept in
    both r [] (mode_notes (with_names file names) [] (Some (mode_of r s))) [] _ (mode_mild r file names scope spelled scoped s parts.0 (left _ _ clean)) (modes_mild r file names scope spelled scoped rest parts.1 (right _ _ clean))

-- ---- the base

-- the token at which a base is named names a struct
abbrev pub NamesBase : Resolution → ℕ → Base → Type 0
NamesBase r token (Base.Struct name) = (is_dull (named_at r token) ≡ true) × (is_field (named_at r token) ≡ false)
NamesBase r token _ = Unit {0}

struct_dull : (s : StructMeaning) → is_dull (named_struct s) ≡ true
struct_dull (meaning.defined n fields) = refl
struct_dull meaning.known = refl

struct_apart : (s : StructMeaning) → is_field (named_struct s) ≡ false
struct_apart (meaning.defined n fields) = refl
struct_apart meaning.known = refl

struct_mild : (r : Resolution) (token : ℕ) (o : Option StructMeaning) → (is_dull (named_at r token) ≡ true) × (is_field (named_at r token) ≡ false) → Noted r [] (struct_note token o)
struct_mild r token None is = new_fault done
struct_mild r token (Some s) is = added (inr (is.0, is.1, struct_dull s, struct_apart s)) done

base_mild : (r : Resolution) (structs : StructTable) (token : ℕ) (b : Base) → NamesBase r token b → Noted r [] (base_notes structs token b)
base_mild r structs token (Base.Struct name) is = struct_mild r token (struct_of structs name) is
base_mild r structs token _ is = done

-- ---- the type

pub type_mild : (r : Resolution) (file : Scope) (names scope : List Entry) → IsSpelled r file.names → Scoped file.names names scope → (w : WrittenType) (modes : List Sharing) → w.ctype.levels ≡ None ∷ map (λ s. Some (mode_of r s)) modes
    → NamesBase r w.base.token w.ctype.base → keeps_all r scope modes ≡ true → Clean (type_notes (with_names file names) [] Role.Cast w) → Noted r [] (type_notes (with_names file names) [] Role.Cast w)
type_mild r file names scope spelled scoped w modes levels named_base kept clean =
    let σ : Scope = with_names file names in
    let bases : Noted r [] (base_notes file.structs w.base.token w.ctype.base ++ fault_unless (allowed_there Role.Cast w) w.span.first.token TypeNotAllowed) =
    more_faults r [] (base_notes file.structs w.base.token w.ctype.base) _ (base_mild r file.structs w.base.token w.ctype.base named_base) (unless_faults (allowed_there Role.Cast w) w.span.first.token TypeNotAllowed) in
    let all : Noted r [] (modes_notes σ [] w.ctype.levels) =
    subst (λ (l : List (Option Mode)). Noted r [] (modes_notes σ [] l)) (sym levels)
    (modes_mild r file names scope spelled scoped modes kept (subst (λ (l : List (Option Mode)). Clean (modes_notes σ [] l)) levels (right _ _ clean))) in
    both r [] (base_notes file.structs w.base.token w.ctype.base ++ fault_unless (allowed_there Role.Cast w) w.span.first.token TypeNotAllowed) [] (modes_notes σ [] w.ctype.levels) bases all
