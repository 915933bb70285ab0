-- What is said of threads names nothing, so all that is said names what is said of types, expressions and statements.
use Rattle.sharc_check.proofs.{Imports.{◌≡◌, ℕ, ◌+◌, ◌==◌, Bool, true, false, ◌&&◌, ◌||◌, cond, List, [], ◌∷◌, ◌++◌, refl, ap, sym, ◌∙◌, get_or as slice_index_or, flat_map, Span, Declaration, GlobalDefinition, Function, entities_in, numbered, functions_in, globals_in, ErrorCode, PrivateReachesThread, Finding, Wrong, Names, Takes, top_of, items_notes, Assignment, error_where, is_named, is_private_level, type_notes, written, declared_row, modes_of, has_private_target, is_spawned, parameter_notes, spawned_notes, touched_notes, notes_about, TellNamed, said_of_paths, marks, or_none, or_assoc}, SettleLemmas.marks_are}

named_in_both : (x : ℕ) (a b : List Finding) → is_named x (a ++ b) ≡ (is_named x a || is_named x b)
named_in_both x [] b = refl
named_in_both x (Wrong e ∷ rest) b = named_in_both x rest b
named_in_both x (Takes s y ∷ rest) b = named_in_both x rest b
named_in_both x (Names y ∷ rest) b = ap (λ t. x == y || t) (named_in_both x rest b) ∙ sym (or_assoc (x == y) (is_named x rest) (is_named x b))

abbrev NamesNone : ℕ → List Finding → Type 0
NamesNone x l = is_named x l ≡ false

none_in_both : (x : ℕ) (a b : List Finding) → NamesNone x a → NamesNone x b → NamesNone x (a ++ b)
none_in_both x a b in_a in_b = named_in_both x a b ∙ ap (λ t. t || is_named x b) in_a ∙ in_b

none_where : (x : ℕ) (test : Bool) (code : ErrorCode) (s : Span) (text : List ℕ) → NamesNone x (error_where test code s text)
none_where x true code s text = refl
none_where x false code s text = refl

none_of_parameters : (m : Assignment) (x : ℕ) (name : List ℕ) (all : List Declaration) → NamesNone x (flat_map (parameter_notes m name) all)
none_of_parameters m x name [] = refl
none_of_parameters m x name (d ∷ rest) =
    none_in_both x (parameter_notes m name d) (flat_map (parameter_notes m name) rest)
    (none_where x (has_private_target (modes_of m (declared_row m.typed written d.name.site.token))) PrivateReachesThread d.written.span name)
    (none_of_parameters m x name rest)

none_if : (x : ℕ) (test : Bool) (l : List Finding) → NamesNone x l → NamesNone x (cond test l [])
none_if x true l none = none
none_if x false l none = refl

none_of_spawned : (m : Assignment) (x n : ℕ) (fs : List Function) → NamesNone x (spawned_notes m n fs)
none_of_spawned m x n [] = refl
none_of_spawned m x n (f ∷ rest) =
    none_in_both x (cond (is_spawned m.typed n) (flat_map (parameter_notes m f.name.text) f.parameters) []) (spawned_notes m (n + 1) rest)
    (none_if x (is_spawned m.typed n) (flat_map (parameter_notes m f.name.text) f.parameters) (none_of_parameters m x f.name.text f.parameters))
    (none_of_spawned m x (n + 1) rest)

none_of_touched : (touched : ℕ → Bool) (x n : ℕ) (gs : List GlobalDefinition) → NamesNone x (touched_notes touched n gs)
none_of_touched touched x n [] = refl
none_of_touched touched x n (g ∷ rest) =
    none_in_both x (error_where (touched n && is_private_level (top_of g.declaration.written.ctype.levels)) PrivateReachesThread g.declaration.written.span g.declaration.name.text) (touched_notes touched (n + 1) rest)
    (none_where x (touched n && is_private_level (top_of g.declaration.written.ctype.levels)) PrivateReachesThread g.declaration.written.span g.declaration.name.text)
    (none_of_touched touched x (n + 1) rest)

ends : (x : ℕ) (l rest : List Finding) → NamesNone x rest → is_named x (l ++ rest) ≡ is_named x l
ends x l rest none = named_in_both x l rest ∙ ap (λ t. is_named x l || t) none ∙ or_none (is_named x l)

all_or_paths : (m : Assignment) (touched : ℕ → Bool) (x : ℕ) → is_named x (notes_about m touched) ≡ is_named x (said_of_paths m)
all_or_paths m touched x =
    let types = flat_map (type_notes m) (numbered (entities_in m.typed.program.items)) in
    let threads = spawned_notes m 0 (functions_in m.typed.program.items) in
    let globals = touched_notes touched 0 (globals_in m.typed.program.items) in
    let code = items_notes m m.typed.program.items in
    named_in_both x ((types ++ threads) ++ globals) code
    ∙ ap (λ t. t || is_named x code)
    (ends x (types ++ threads) globals (none_of_touched touched x 0 (globals_in m.typed.program.items)) ∙ ends x types threads (none_of_spawned m x 0 (functions_in m.typed.program.items)))
    ∙ sym (named_in_both x types code)

pub told_by : (m : Assignment) (touched : ℕ → Bool) (flags : List Bool) (notes : List Finding) → flags ≡ marks notes → notes ≡ notes_about m touched → TellNamed m flags
told_by m touched flags notes marked said x =
    ap (λ l. slice_index_or l x false) marked ∙ marks_are notes x ∙ ap (is_named x) said ∙ all_or_paths m touched x
