-- What is said of a typed program is so: no fault stands in it, and each name names what its note says.
use Rattle.sharc_accepted_laws.proofs.{Imports.{◌≡◌, ⊎_elim, ℕ, ◌+◌, ◌==◌, Bool, true, false, cond, List, [], ◌∷◌, ◌++◌, length, refl, ap, sym, ◌∙◌, subst, Option, Some, None, Contains, AllByRecursion, Base, Mode, Locked, Path, One, Through, Declaration, WrittenType, IsLow, IsPlaced, Local, First, declares, Statement, Statements, no_statements, statement, Function, Item, structure, global, function, FaultCode, Named, Scope, Role, object, declared_kind, Entry, Meaning, StructTable, StructMeaning, look_up, named_of, struct_of, named_struct, Note, fault, refers, yields, faults, referred, name_notes, path_notes, mode_notes, modes_notes, struct_note, base_notes, type_notes, sizes_notes, heads_notes, no_heads, field_notes, fields_notes, parameters_notes, function_notes, item_notes, items_notes, main_missing, file_scope, in_body, notes_about, Resolution, IsResolved, named_at, declaration_at, declared_at, declarations_in, variable_kind, functions_in, Around, opened, looping, with_names, behind_first, after, test_notes, local_notes, first_statement_notes, head_notes, notes_in, notes_in_all, first_locals, locals_in_all, Tells, IsToldOnce, EachNameOnce, OnlyNames, meaning_token, IsVariableIn, IsAmong, LevelStands, TypeStands, fields_named, fields_behind, same_some, none_some, front, back, both, head_there, head_or_tail, of_each, to_each, tail_there, none_there, either_there}, Scoping.{HasOneStruct, ParametersStand, AreParametersClosed}, Places.entry_there}
use Rattle.sharc_tree.specs.Tree as tree
use Rattle.sharc_names.specs.Names as meaning
use Rattle.sharc_ctype.specs.Statements.{declared, in_head, locals_in}
use Rattle.sharc_ctype_laws.specs.Paths.{PathStands}

-- ---- notes
abbrev pub Says : Resolution → Note → Type 0
Says r (fault place code) = ⊥
Says r (refers token what) = named_at r token ≡ what
Says r (yields token what) = named_at r token ≡ what

abbrev pub AllSay : Resolution → List Note → Type 0
AllSay r list = AllByRecursion (Says r) list

pub referred_there : (notes : List Note) (note : Note) (token : ℕ) (what : Named) → Contains notes note → Tells note token what → Contains (referred notes) token
referred_there [] note token what has tells = absurd (none_there note has)
referred_there (x ∷ rest) note token what has tells = ⊎_elim (λ is. here x (subst (λ z. Tells z token what) (sym is) tells)) (λ later. there x (referred_there rest note token what later tells)) (head_or_tail x note rest has)
  where
    here : (y : Note) → Tells y token what → Contains (referred (y ∷ rest)) token
    here (fault place code) t = absurd t
    here (refers n w) t = subst (Contains (n ∷ referred rest)) t.0 (head_there n (referred rest))
    here (yields n w) t = subst (Contains (n ∷ referred rest)) t.0 (head_there n (referred rest))

    there : (y : Note) → Contains (referred rest) token → Contains (referred (y ∷ rest)) token
    there (fault place code) h = h
    there (refers n w) h = tail_there n token (referred rest) h
    there (yields n w) h = tail_there n token (referred rest) h

pub one_thing : (note : Note) (token : ℕ) (a b : Named) → Tells note token a → Tells note token b → a ≡ b
one_thing (fault place code) token a b s t = absurd s
one_thing _ token a b s t = sym s.1 ∙ t.1

pub no_faults : (notes : List Note) (place : ℕ) (code : FaultCode) → Contains notes (fault place code) → faults notes ≡ [] → ⊥
no_faults [] place code has none = none_there _ has
no_faults (x ∷ rest) place code has none = ⊎_elim (λ is. here x is none) (λ later. there x none (no_faults rest place code later)) (head_or_tail x _ rest has)
  where
    here : (y : Note) → y ≡ fault place code → faults (y ∷ rest) ≡ [] → ⊥
    here (fault p c) is h = cc
    here _ is h = cc

    there : (y : Note) → faults (y ∷ rest) ≡ [] → (faults rest ≡ [] → ⊥) → ⊥
    there (fault p c) h more = cc
    there _ h more = more h

module _ (once : EachNameOnce) (only : OnlyNames) (r : Resolution) (resolved : IsResolved r) (placed : IsPlaced r.program) (low : IsLow r.program) where
  pub told : (note : Note) (token : ℕ) (what : Named) → Contains (notes_about r.program) note → Tells note token what → named_at r token ≡ what
  told note token what has tells =
      w.named ∙ ⊎_elim (λ l. absurd (w.not_before (referred_there w.before note token what l tells)))
      (λ later. ⊎_elim (λ is. one_thing note token w.what what (subst (λ z. Tells z token w.what) is w.tells) tells) (λ l. absurd (w.not_after (referred_there w.after note token what l tells))) (head_or_tail w.note note w.after later))
      (either_there w.before (w.note ∷ w.after) note (subst (λ list. Contains list note) w.notes has))
    where
      w : IsToldOnce r token
      w = once r resolved placed low token (only r resolved placed low token (referred_there (notes_about r.program) note token what has tells))

  one_says : (note : Note) → Contains (notes_about r.program) note → Says r note
  one_says (fault place code) has = no_faults (notes_about r.program) place code has resolved.typed
  one_says (refers token what) has = told (refers token what) token what has (refl, refl)
  one_says (yields token what) has = told (yields token what) token what has (refl, refl)

  pub all_say : AllSay r (notes_about r.program)
  all_say = to_each (Says r) (notes_about r.program) one_says

-- ---- types
module _ (r : Resolution) where
  abbrev P : Note → Type 0
  P = Says r

  among : (names : List Entry) (w : Named) → ((t : ℕ) → w ≡ Named.Variable t → IsVariableIn names t) → IsAmong names w
  among names (Named.Variable t) f = f t refl
  among names _ f = tt

  token_of : (m : Meaning) (t : ℕ) → named_of m ≡ Named.Variable t → meaning_token m ≡ Some t
  token_of (meaning.variable d) t is = let e : d.name.site.token ≡ t = cc in ap Some e
  token_of _ t is = absurd (cc)

  name_stands : (names : List Entry) (token : ℕ) (name : List ℕ) (o : Option Entry) → look_up names name ≡ o → AllSay r (name_notes token o) → IsAmong names (named_at r token)
  name_stands names token name None is h = absurd h.0
  name_stands names token name (Some e) is h = among names (named_at r token) (λ t v. entry_there names name e is t (token_of e.meaning t (sym h.0 ∙ v)))

  -- no field is looked for in a function
  path_stands : (scope : Scope) (p : Path) → AllSay r (path_notes scope [] p) → PathStands r scope.names p
  path_stands scope (One m token) h = tt
  path_stands scope (Through x token m) h = name_stands scope.names token x (look_up scope.names x) refl (front P (name_notes token (look_up scope.names x)) _ h)

  level_stands : (scope : Scope) (m : Option Mode) → AllSay r (mode_notes scope [] m) → LevelStands r scope.names m
  level_stands scope (Some (Locked path)) h = path_stands scope path h
  level_stands scope _ h = tt

  levels_stand : (scope : Scope) (levels : List (Option Mode)) → AllSay r (modes_notes scope [] levels) → AllByRecursion (LevelStands r scope.names) levels
  levels_stand scope [] h = tt
  levels_stand scope (x ∷ rest) h = (level_stands scope x (front P (mode_notes scope [] x) (modes_notes scope [] rest) h), levels_stand scope rest (back P (mode_notes scope [] x) (modes_notes scope [] rest) h))

  type_stands : (scope : Scope) (where_ : Role) (w : WrittenType) → AllSay r (type_notes scope [] where_ w) → TypeStands r scope.names w
  type_stands scope where_ w h = levels_stand scope w.ctype.levels (back P _ (modes_notes scope [] w.ctype.levels) h)

  -- ---- parameters
  parameters_read : (block before : ℕ) (scope : Scope) (ds : List Declaration) → AllSay r (parameters_notes block before scope ds) → ParametersStand r block scope.names ds
  parameters_read block before scope [] h = tt
  parameters_read block before scope (d ∷ rest) h =
      let three = front P _ (parameters_notes block (before + 1) (with_names scope (declared block d scope.names)) rest) h in (
        type_stands scope Role.Parameter d.written (front P (type_notes scope [] Role.Parameter d.written) _ (front P _ _ three)),
        parameters_read block (before + 1) (with_names scope (declared block d scope.names)) rest (back P _ (parameters_notes block (before + 1) (with_names scope (declared block d scope.names)) rest) h),
      )

  -- ---- the functions of the program
  pub functions_say : (file : Scope) (items : List Item) → AllSay r (items_notes file items) → AllByRecursion (λ f. AllSay r (function_notes file f)) (functions_in items)
  functions_say file [] h = tt
  functions_say file (structure s ∷ rest) h = functions_say file rest (back P (item_notes file (structure s)) (items_notes file rest) h)
  functions_say file (global g ∷ rest) h = functions_say file rest (back P (item_notes file (global g)) (items_notes file rest) h)
  functions_say file (function f ∷ rest) h = (front P (function_notes file f) (items_notes file rest) h, functions_say file rest (back P (function_notes file f) (items_notes file rest) h))

  pub items_say : AllSay r (notes_about r.program) → AllSay r (items_notes (file_scope r.program.items) r.program.items)
  items_say h =
      let file = file_scope r.program.items in
      let heads = heads_notes no_heads r.program.items in
      let items = items_notes file r.program.items in
      let sizes = sizes_notes file.structs 0 r.program.items in
      back P heads items (front P (heads ++ items) sizes (front P (heads ++ items ++ sizes) (main_missing (length r.program.tokens.list) file.names) h))

  pub parameters_closed : AllSay r (notes_about r.program) → AreParametersClosed r
  parameters_closed h f has =
      let file = file_scope r.program.items in
      let say : AllSay r (function_notes file f) = of_each (λ f. AllSay r (function_notes file f)) (functions_in r.program.items) f (functions_say file r.program.items (items_say h)) has in
      parameters_read (length file.names) 0 file f.parameters (back P (type_notes file [] Role.Result f.result) (parameters_notes (length file.names) 0 file f.parameters) (front P _ _ (front P _ _ say)))

  -- ---- structs
  -- a struct's name in a type names what it is in the file
  abbrev pub BaseSays : StructTable → Declaration → Type 0
  BaseSays structs d = AllSay r (base_notes structs d.written.base.token d.written.ctype.base)

  type_base : (scope : Scope) (siblings : List Declaration) (where_ : Role) (w : WrittenType) → AllSay r (type_notes scope siblings where_ w) → AllSay r (base_notes scope.structs w.base.token w.ctype.base)
  type_base scope siblings where_ w h = front P (base_notes scope.structs w.base.token w.ctype.base) _ (front P _ (modes_notes scope siblings w.ctype.levels) h)

  fields_base : (scope : Scope) (all earlier ds : List Declaration) → AllSay r (fields_notes scope all earlier ds) → AllByRecursion (BaseSays scope.structs) ds
  fields_base scope all earlier [] h = tt
  fields_base scope all earlier (d ∷ rest) h = (
    type_base scope all Role.Field d.written (front P (type_notes scope all Role.Field d.written) _ (front P (field_notes scope all earlier d) (fields_notes scope all (earlier ++ d ∷ []) rest) h)),
    fields_base scope all (earlier ++ d ∷ []) rest (back P (field_notes scope all earlier d) (fields_notes scope all (earlier ++ d ∷ []) rest) h),
  )

  parameters_base : (block before : ℕ) (scope : Scope) (ds : List Declaration) → AllSay r (parameters_notes block before scope ds) → AllByRecursion (BaseSays scope.structs) ds
  parameters_base block before scope [] h = tt
  parameters_base block before scope (d ∷ rest) h =
      let three = front P _ (parameters_notes block (before + 1) (with_names scope (declared block d scope.names)) rest) h in (
        type_base scope [] Role.Parameter d.written (front P (type_notes scope [] Role.Parameter d.written) _ (front P _ _ three)),
        parameters_base block (before + 1) (with_names scope (declared block d scope.names)) rest (back P _ (parameters_notes block (before + 1) (with_names scope (declared block d scope.names)) rest) h),
      )

  local_base : (around : Around) (scope : Scope) (l : Local) → AllSay r (local_notes around scope l) → BaseSays scope.structs l.declaration
  local_base around scope l h = type_base scope [] Role.Local l.declaration.written (front P (type_notes scope [] Role.Local l.declaration.written) _ (front P _ _ h))

  first_base : (around : Around) (scope : Scope) (x : First) → AllSay r (first_statement_notes around scope x) → AllByRecursion (BaseSays scope.structs) (first_locals x)
  first_base around scope (declares l) h = (local_base around scope l h, tt)
  first_base around scope _ h = tt

  mutual
    statement_base : (around : Around) (scope : Scope) (a : Statement) → AllSay r (notes_in around scope a) → AllByRecursion (BaseSays scope.structs) (locals_in a)
    statement_base around scope (tree.block s all) h = statements_base (opened around scope.names) scope all h
    statement_base around scope (tree.declare s l) h = (local_base around scope l h, tt)
    statement_base around scope (tree.if_then s e a) h = statement_base (opened around scope.names) scope a (back P (test_notes scope e) (notes_in (opened around scope.names) scope a) h)
    statement_base around scope (tree.if_then_else s e a b) h =
        let inside = opened around scope.names in
        let first = front P (test_notes scope e ++ notes_in inside scope a) (notes_in inside scope b) h in
        both (BaseSays scope.structs) (locals_in a) (locals_in b) (statement_base inside scope a (back P (test_notes scope e) (notes_in inside scope a) first))
        (statement_base inside scope b (back P (test_notes scope e ++ notes_in inside scope a) (notes_in inside scope b) h))
    statement_base around scope (tree.while s e a) h = statement_base (looping (opened around scope.names)) scope a (back P (test_notes scope e) (notes_in (looping (opened around scope.names)) scope a) h)
    statement_base around scope (tree.for s x a) h =
        let outer = opened around scope.names in
        let inner = in_head outer scope x in
        let inside = looping (opened around (behind_first outer scope.names x.first)) in
        let head = front P (head_notes outer scope x) (notes_in inside inner a) h in
        both (BaseSays scope.structs) (first_locals x.first) (locals_in a)
        (first_base outer scope x.first (front P (first_statement_notes outer scope x.first) _ (front P _ _ head)))
        (statement_base inside inner a (back P (head_notes outer scope x) (notes_in inside inner a) h))
    statement_base around scope _ h = tt

    statements_base : (around : Around) (scope : Scope) (a : Statements) → AllSay r (notes_in_all around scope a) → AllByRecursion (BaseSays scope.structs) (locals_in_all a)
    statements_base around scope no_statements h = tt
    statements_base around scope (statement a rest) h =
        let inner = with_names scope (after around scope.names a) in
        both (BaseSays scope.structs) (locals_in a) (locals_in_all rest) (statement_base around scope a (front P (notes_in around scope a) (notes_in_all around inner rest) h))
        (statements_base around inner rest (back P (notes_in around scope a) (notes_in_all around inner rest) h))

  function_base : (file : Scope) (f : Function) → AllSay r (function_notes file f) → AllByRecursion (BaseSays file.structs) (f.parameters ++ locals_in_all f.statements)
  function_base file f h =
      let three = front P _ _ h in
      let two = front P _ _ three in
      both (BaseSays file.structs) f.parameters (locals_in_all f.statements)
      (parameters_base (length file.names) 0 file f.parameters (back P (type_notes file [] Role.Result f.result) (parameters_notes (length file.names) 0 file f.parameters) two))
      (statements_base (record { result = declared_kind f.result; in_loop = false; block = length file.names }) (in_body file f) f.statements (back P _ _ three))

  pub declarations_base : (file : Scope) (items : List Item) → AllSay r (items_notes file items) → AllByRecursion (BaseSays file.structs) (declarations_in items)
  declarations_base file [] h = tt
  declarations_base file (structure s ∷ rest) h =
      both (BaseSays file.structs) s.fields (declarations_in rest) (fields_base file s.fields [] s.fields (front P (item_notes file (structure s)) (items_notes file rest) h)) (declarations_base file rest (back P (item_notes file (structure s)) (items_notes file rest) h))
  declarations_base file (global g ∷ rest) h = declarations_base file rest (back P (item_notes file (global g)) (items_notes file rest) h)
  declarations_base file (function f ∷ rest) h =
      both (BaseSays file.structs) (f.parameters ++ locals_in_all f.statements) (declarations_in rest) (function_base file f (front P (item_notes file (function f)) (items_notes file rest) h)) (declarations_base file rest (back P (item_notes file (function f)) (items_notes file rest) h))

  pub declared_has : (Q : Declaration → Type 0) (list : List Declaration) (token : ℕ) (d : Declaration) → AllByRecursion Q list → declared_at list token ≡ Some d → Q d
  declared_has Q [] token d all is = absurd (none_some d is)
  declared_has Q (x ∷ rest) token d all is = by (x.name.site.token == token) is (declared_has Q rest token d all.1)
    where
      by : (b : Bool) → cond b (Some x) (declared_at rest token) ≡ Some d → (declared_at rest token ≡ Some d → Q d) → Q d
      by true k later = subst Q (same_some x d k) all.0
      by false k later = later k

  -- a struct that is named so
  struct_is : (structs : StructTable) (token : ℕ) (o : Option StructMeaning) → AllSay r (struct_note token o) → (m : StructMeaning) × (o ≡ Some m) × (named_at r token ≡ named_struct m)
  struct_is structs token None h = absurd h.0
  struct_is structs token (Some m) h = (m, refl, h.0)

  pub named_by : (structs : StructTable) (d : Declaration) (name : List ℕ) → d.written.ctype.base ≡ Base.Struct name → BaseSays structs d → (m : StructMeaning) × (struct_of structs name ≡ Some m) × (named_at r d.written.base.token ≡ named_struct m)
  named_by structs d name is h = struct_is structs d.written.base.token (struct_of structs name) (subst (λ b. AllSay r (base_notes structs d.written.base.token b)) is h)

  pub base_of_kind : (d : Declaration) (name : List ℕ) (n : ℕ) → declared_kind d.written ≡ object (Base.Struct name) n → d.written.ctype.base ≡ Base.Struct name
  base_of_kind d name n h = cc

  pub one_struct : AllSay r (notes_about r.program) → HasOneStruct r
  one_struct h x y name kx ky = by (declaration_at r x) refl kx (declaration_at r y) refl ky
    where
      all : AllByRecursion (BaseSays (file_scope r.program.items).structs) (declarations_in r.program.items)
      all = declarations_base (file_scope r.program.items) r.program.items (items_say h)

      by : (o : Option Declaration) → declaration_at r x ≡ o → variable_kind o ≡ object (Base.Struct name) 1 → (p : Option Declaration) → declaration_at r y ≡ p → variable_kind p ≡ object (Base.Struct name) 1 → fields_behind r o ≡ fields_behind r p
      by None dx k p dy j = absurd (cc)
      by (Some a) dx k None dy j = absurd (cc)
      by (Some a) dx k (Some b) dy j =
          let structs = (file_scope r.program.items).structs in
          let one = named_by structs a name (base_of_kind a name 1 k) (declared_has (BaseSays structs) (declarations_in r.program.items) x a all dx) in
          let two = named_by structs b name (base_of_kind b name 1 j) (declared_has (BaseSays structs) (declarations_in r.program.items) y b all dy) in
          let same : one.0 ≡ two.0 = same_some one.0 two.0 (sym one.1 ∙ two.1) in
          ap (fields_named r) (one.2 ∙ ap named_struct same ∙ sym two.2)
