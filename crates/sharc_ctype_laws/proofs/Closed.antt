-- What lock paths name is in scope where their types are read, and stays in scope as long as what has the type.
use Rattle.sharc_ctype_laws.proofs.{Imports.{◌≡◌, inl, inr, ℕ, ◌+◌, Bool, true, false, cond, List, [], ◌∷◌, ◌++◌, length, refl, ap, sym, ◌∙◌, subst, Option, Some, None, is_some, bytes_eq, false≢true, AllByRecursion, Mode, Locked, Path, One, Through, Declaration, WrittenType, expressions, in_option, in_simple, Expression, Local, First, nothing, declares, does, Statement, Statements, no_statements, statement, Function, Item, structure, global, function, Named, Scope, Role, Entry, Meaning, look_up, field_of, named_of, name_notes, path_notes, mode_notes, modes_notes, type_notes, notes_of, with_parameters, in_body, parameters_notes, fields_notes, function_notes, items_notes, Resolution, named_at, functions_in, Around, opened, looping, with_names, is_here, declared, local_notes, first_notes as first_part_notes, behind_first, in_head, after, notes_in, notes_in_all, meaning_token, IsVariableIn, IsAmong, PathStands, LevelStands, TypeStands, EntryStands, IsClosed, CastStands, FirstStands, LocalsStand, AllLocalsStand, around_in, BodyStands, file_types, Placing, at, places_in_local, places_in_first, places_in, places_in_all, places_of, places_of_all, front, back, first_locals, locals_in, locals_in_all, both, each, mapped}, Held.{Held, left, right, no_fault, head_named}, Scenes.found_or_later}
use Rattle.sharc_tree.specs.Tree as tree
use Rattle.sharc_names.specs.Types.{first_notes}
use Rattle.sharc_names.specs.Names as meaning

-- what holds of the variables in scope

abbrev pub IsVariable : (Declaration → Type 0) → Meaning → Type 0
IsVariable P (meaning.variable d) = P d
IsVariable P _ = Unit {0}

abbrev pub AreVariables : (Declaration → Type 0) → List Entry → Type 0
AreVariables P names = AllByRecursion (λ e. IsVariable P e.meaning) names

-- what is found

pub same_variable : (t u : ℕ) → Named.Variable t ≡ Named.Variable u → t ≡ u
same_variable t u h = cc

token_of : (m : Meaning) (t : ℕ) → named_of m ≡ Named.Variable t → meaning_token m ≡ Some t
token_of (meaning.variable d) t is = ap Some (same_variable _ _ is)
token_of (meaning.global n g) t is = absurd (let e : Named.Global n ≡ Named.Variable t = is in cc)
token_of (meaning.function n s) t is = absurd (let e : Named.Function n ≡ Named.Variable t = is in cc)
token_of (meaning.condition c) t is = absurd (let e : Named.Known ≡ Named.Variable t = is in cc)

found_variable : (names : List Entry) (name : List ℕ) (e : Entry) (t : ℕ) → look_up names name ≡ Some e → named_of e.meaning ≡ Named.Variable t → IsVariableIn names t
found_variable [] name e t is v = absurd (false≢true (ap is_some is))
found_variable (x ∷ rest) name e t is v =
    found_or_later (λ (z : Entry). named_of z.meaning ≡ Named.Variable t → IsVariableIn (x ∷ rest) t) x e (look_up rest name) (bytes_eq x.name name) is
    (λ b w. inl (token_of x.meaning t w)) (λ h w. inr (found_variable rest name e t h w)) v

among : (names : List Entry) (w : Named) → ((t : ℕ) → w ≡ Named.Variable t → IsVariableIn names t) → IsAmong names w
among names (Named.Variable t) f = f t refl
among names _ f = tt

-- paths

name_stands : (r : Resolution) (names : List Entry) (token : ℕ) (name : List ℕ) (o : Option Entry) → look_up names name ≡ o → Held r (name_notes token o) → IsAmong names (named_at r token)
name_stands r names token name None is h = absurd (no_fault _ _ _ _ h)
name_stands r names token name (Some e) is h = among names (named_at r token) (λ t v. found_variable names name e t is (sym (head_named _ _ _ _ h) ∙ v))

first_stands : (r : Resolution) (names : List Entry) (token : ℕ) (name : List ℕ) (o : Option Declaration) → Held r (first_notes token o (look_up names name)) → IsAmong names (named_at r token)
first_stands r names token name None h = name_stands r names token name (look_up names name) refl h
first_stands r names token name (Some d) h = subst (IsAmong names) (sym (head_named _ _ _ _ h)) tt

path_stands : (r : Resolution) (scope : Scope) (siblings : List Declaration) (p : Path) → Held r (path_notes scope siblings p) → PathStands r scope.names p
path_stands r scope siblings (One m token) h = tt
path_stands r scope siblings (Through x token m) h = first_stands r scope.names token x (field_of siblings x) (left _ _ _ h)

level_stands : (r : Resolution) (scope : Scope) (siblings : List Declaration) (m : Option Mode) → Held r (mode_notes scope siblings m) → LevelStands r scope.names m
level_stands r scope siblings (Some (Locked path)) h = path_stands r scope siblings path h
level_stands r scope siblings _ h = tt

levels_stand : (r : Resolution) (scope : Scope) (siblings : List Declaration) (levels : List (Option Mode)) → Held r (modes_notes scope siblings levels) → AllByRecursion (LevelStands r scope.names) levels
levels_stand r scope siblings [] h = tt
levels_stand r scope siblings (m ∷ below) h = (level_stands r scope siblings m (left _ _ _ h), levels_stand r scope siblings below (right _ _ _ h))

type_stands : (r : Resolution) (scope : Scope) (siblings : List Declaration) (where_ : Role) (w : WrittenType) → Held r (type_notes scope siblings where_ w) → TypeStands r scope.names w
type_stands r scope siblings where_ w h = levels_stand r scope siblings w.ctype.levels (right _ _ _ h)

local_type : (r : Resolution) (around : Around) (scope : Scope) (l : Local) → Held r (local_notes around scope l) → TypeStands r scope.names l.declaration.written
local_type r around scope l h = type_stands r scope [] Role.Local l.declaration.written (left _ _ _ (left _ _ _ h))

-- scopes: what the types of their names need is in them, and P holds of their variables

module _ (r : Resolution) (P : Declaration → Type 0) where
  abbrev pub Scoped : List Entry → Type 0
  Scoped names = IsClosed r names × AreVariables P names

  either : (names : List Entry) (e : Entry) (b : Bool) → Scoped names → EntryStands r names e.meaning → IsVariable P e.meaning → Scoped (cond b names (e ∷ names))
  either names e true all m p = all
  either names e false all m p = ((m, all.0), (p, all.1))

  with_declared : (block : ℕ) (d : Declaration) (names : List Entry) → Scoped names → TypeStands r names d.written → P d → Scoped (declared block d names)
  with_declared block d names all m p = either names (record { name = d.name.text; block = block; meaning = meaning.variable d }) (is_here block names d) all m p

  with_local : (around : Around) (scope : Scope) → Scoped scope.names → (l : Local) → Held r (local_notes around scope l) → P l.declaration → Scoped (declared around.block l.declaration scope.names)
  with_local around scope all l h p = with_declared around.block l.declaration scope.names all (local_type r around scope l h) p

  with_first : (around : Around) (scope : Scope) → Scoped scope.names → (f : First) → Held r (first_part_notes around scope f) → AllByRecursion P (first_locals f) → Scoped (behind_first around scope.names f)
  with_first around scope all (declares l) h p = with_local around scope all l h p.0
  with_first around scope all _ h p = all

  with_statement : (around : Around) (scope : Scope) → Scoped scope.names → (a : Statement) → Held r (notes_in around scope a) → AllByRecursion P (locals_in a) → Scoped (after around scope.names a)
  with_statement around scope all (tree.declare s l) h p = with_local around scope all l h p.0
  with_statement around scope all _ h p = all

  with_all_parameters : (block before : ℕ) (scope : Scope) → Scoped scope.names → (list : List Declaration) → Held r (parameters_notes block before scope list) → AllByRecursion P list → Scoped (with_parameters block scope.names list)
  with_all_parameters block before scope all [] h p = all
  with_all_parameters block before scope all (x ∷ rest) h p =
      with_all_parameters block (before + 1) (with_names scope (declared block x scope.names))
      (with_declared block x scope.names all (type_stands r scope [] Role.Parameter x.written (left _ _ _ (left _ _ _ (left _ _ _ h)))) p.0) rest (right _ _ _ h) p.1

  -- places
  abbrev ScopedAt : Placing → Type 0
  ScopedAt p = Scoped p.scope.names

  all_at : (scope : Scope) (list : List Expression) → Scoped scope.names → AllByRecursion ScopedAt (at scope list)
  all_at scope [] all = tt
  all_at scope (e ∷ rest) all = (all, all_at scope rest all)

  at_local : (around : Around) (scope : Scope) (l : Local) → Scoped scope.names → Held r (local_notes around scope l) → P l.declaration → AllByRecursion ScopedAt (places_in_local around scope l)
  at_local around scope l all h p = all_at (with_names scope (declared around.block l.declaration scope.names)) _ (with_local around scope all l h p)

  at_first : (around : Around) (scope : Scope) (f : First) → Scoped scope.names → Held r (first_part_notes around scope f) → AllByRecursion P (first_locals f) → AllByRecursion ScopedAt (places_in_first around scope f)
  at_first around scope nothing all h p = tt
  at_first around scope (declares l) all h p = at_local around scope l all h p.0
  at_first around scope (does x) all h p = all_at scope (in_simple x) all

  mutual
    scoped : (around : Around) (scope : Scope) (a : Statement) → Scoped scope.names → Held r (notes_in around scope a) → AllByRecursion P (locals_in a) → AllByRecursion ScopedAt (places_in around scope a)
    scoped around scope (tree.block s inner) all h p = all_scoped (opened around scope.names) scope inner all h p
    scoped around scope (tree.declare s l) all h p = at_local around scope l all h p.0
    scoped around scope (tree.simple s x) all h p = all_at scope (in_simple x) all
    scoped around scope (tree.return s e) all h p = all_at scope (in_option expressions e) all
    scoped around scope (tree.if_then s e a) all h p = both ScopedAt (at scope (expressions e)) _ (all_at scope (expressions e) all) (scoped (opened around scope.names) scope a all (right _ _ _ h) p)
    scoped around scope (tree.if_then_else s e a b) all h p =
        both ScopedAt (at scope (expressions e) ++ places_in (opened around scope.names) scope a) _
        (both ScopedAt (at scope (expressions e)) _ (all_at scope (expressions e) all) (scoped (opened around scope.names) scope a all (right _ _ _ (left _ _ _ h)) (front _ (locals_in a) (locals_in b) p)))
        (scoped (opened around scope.names) scope b all (right _ _ _ h) (back _ (locals_in a) (locals_in b) p))
    scoped around scope (tree.while s e a) all h p = both ScopedAt (at scope (expressions e)) _ (all_at scope (expressions e) all) (scoped (looping (opened around scope.names)) scope a all (right _ _ _ h) p)
    scoped around scope (tree.for s x a) all h p =
        let p1 = front _ (first_locals x.first) (locals_in a) p in
        let inner = with_first (opened around scope.names) scope all x.first (left _ _ _ (left _ _ _ (left _ _ _ h))) p1 in
        both ScopedAt (places_in_first (opened around scope.names) scope x.first ++ at (in_head (opened around scope.names) scope x) (in_option expressions x.test ++ in_option in_simple x.step)) _
        (both ScopedAt (places_in_first (opened around scope.names) scope x.first) _ (at_first (opened around scope.names) scope x.first all (left _ _ _ (left _ _ _ (left _ _ _ h))) p1)
        (all_at (in_head (opened around scope.names) scope x) (in_option expressions x.test ++ in_option in_simple x.step) inner))
        (scoped (looping (opened around (behind_first (opened around scope.names) scope.names x.first))) (in_head (opened around scope.names) scope x) a inner (right _ _ _ h) (back _ (first_locals x.first) (locals_in a) p))
    scoped around scope _ all h p = tt

    all_scoped : (around : Around) (scope : Scope) (list : Statements) → Scoped scope.names → Held r (notes_in_all around scope list) → AllByRecursion P (locals_in_all list) → AllByRecursion ScopedAt (places_in_all around scope list)
    all_scoped around scope no_statements all h p = tt
    all_scoped around scope (statement a rest) all h p =
        let p1 = front _ (locals_in a) (locals_in_all rest) p in
        both ScopedAt (places_in around scope a) _ (scoped around scope a all (left _ _ _ h) p1)
        (all_scoped around (with_names scope (after around scope.names a)) rest (with_statement around scope all a (left _ _ _ h) p1) (right _ _ _ h) (back _ (locals_in a) (locals_in_all rest) p))

  pub scoped_in : (file : Scope) → Scoped file.names → (f : Function) → Held r (function_notes file f) → AllByRecursion P (f.parameters ++ locals_in_all f.statements) → AllByRecursion ScopedAt (places_of file f)
  scoped_in file all f h p =
      all_scoped (around_in file f) (in_body file f) f.statements
      (with_all_parameters (length file.names) 0 file all f.parameters (right _ _ _ (left _ _ _ (left _ _ _ h))) (front _ f.parameters (locals_in_all f.statements) p)) (right _ _ _ (left _ _ _ h)) (back _ f.parameters (locals_in_all f.statements) p)

-- locals

first_local : (r : Resolution) (around : Around) (scope : Scope) (f : First) → Held r (first_part_notes around scope f) → FirstStands r scope.names f
first_local r around scope (declares l) h = local_type r around scope l h
first_local r around scope _ h = tt

mutual
  locals_stand : (r : Resolution) (around : Around) (scope : Scope) (a : Statement) → Held r (notes_in around scope a) → LocalsStand r around scope.names a
  locals_stand r around scope (tree.block s inner) h = all_locals_stand r (opened around scope.names) scope inner h
  locals_stand r around scope (tree.declare s l) h = local_type r around scope l h
  locals_stand r around scope (tree.if_then s e a) h = locals_stand r (opened around scope.names) scope a (right _ _ _ h)
  locals_stand r around scope (tree.if_then_else s e a b) h = (locals_stand r (opened around scope.names) scope a (right _ _ _ (left _ _ _ h)), locals_stand r (opened around scope.names) scope b (right _ _ _ h))
  locals_stand r around scope (tree.while s e a) h = locals_stand r (looping (opened around scope.names)) scope a (right _ _ _ h)
  locals_stand r around scope (tree.for s x a) h = (
    first_local r (opened around scope.names) scope x.first (left _ _ _ (left _ _ _ (left _ _ _ h))),
    locals_stand r (looping (opened around (behind_first (opened around scope.names) scope.names x.first))) (in_head (opened around scope.names) scope x) a (right _ _ _ h),
  )
  locals_stand r around scope _ h = tt

  all_locals_stand : (r : Resolution) (around : Around) (scope : Scope) (list : Statements) → Held r (notes_in_all around scope list) → AllLocalsStand r around scope.names list
  all_locals_stand r around scope no_statements h = tt
  all_locals_stand r around scope (statement a rest) h = (locals_stand r around scope a (left _ _ _ h), all_locals_stand r around (with_names scope (after around scope.names a)) rest (right _ _ _ h))

pub body_stands : (r : Resolution) (file : Scope) (f : Function) → Held r (function_notes file f) → BodyStands r file f
body_stands r file f h = all_locals_stand r (around_in file f) (in_body file f) f.statements (right _ _ _ (left _ _ _ h))

-- no more is asked of the variables
abbrev pub AnyVariable : Declaration → Type 0
AnyVariable d = Unit {0}

any_variables : (list : List Declaration) → AllByRecursion AnyVariable list
any_variables [] = tt
any_variables (d ∷ rest) = (tt, any_variables rest)

pub items_closed : (r : Resolution) (file : Scope) → Scoped r AnyVariable file.names → (items : List Item) → Held r (items_notes file items) → AllByRecursion (λ p. IsClosed r p.scope.names) (places_of_all file (functions_in items))
items_closed r file all [] h = tt
items_closed r file all (structure s ∷ rest) h = items_closed r file all rest (right _ _ _ h)
items_closed r file all (global g ∷ rest) h = items_closed r file all rest (right _ _ _ h)
items_closed r file all (function f ∷ rest) h =
    both (λ p. IsClosed r p.scope.names) (places_of file f) (places_of_all file (functions_in rest))
    (each (λ p. Scoped r AnyVariable p.scope.names) (λ p. IsClosed r p.scope.names) (λ p w. w.0) (places_of file f) (scoped_in r AnyVariable file all f (left _ _ _ h) (any_variables (f.parameters ++ locals_in_all f.statements))))
    (items_closed r file all rest (right _ _ _ h))

-- a cast

pub cast_stands : (r : Resolution) (scope : Scope) (e : Expression) → Held r (notes_of scope e) → CastStands r scope.names e
cast_stands r scope (tree.cast s t a) h = type_stands r scope [] Role.Cast t (left _ _ _ (left _ _ _ (left _ _ _ h)))
cast_stands r scope _ h = tt

-- the file has no variables

abbrev pub HasNone : List Entry → Type 0
HasNone names = AreVariables (λ d. ⊥) names

none_entry : (r : Resolution) (names : List Entry) (m : Meaning) → IsVariable (λ d. ⊥) m → EntryStands r names m
none_entry r names (meaning.variable d) v = absurd v
none_entry r names _ v = tt

pub none_closed : (r : Resolution) (names : List Entry) → HasNone names → IsClosed r names
none_closed r [] all = tt
none_closed r (e ∷ rest) all = (none_entry r rest e.meaning all.0, none_closed r rest all.1)

none_meant : (m : Meaning) (t : ℕ) → IsVariable (λ d. ⊥) m → meaning_token m ≡ Some t → ⊥
none_meant (meaning.variable d) t v is = v
none_meant _ t v is = false≢true (ap is_some is)

none_in : (names : List Entry) (t : ℕ) → HasNone names → IsVariableIn names t → ⊥
none_in [] t all h = h
none_in (e ∷ rest) t all (inl is) = none_meant e.meaning t all.0 is
none_in (e ∷ rest) t all (inr later) = none_in rest t all.1 later

alone : (names : List Entry) → HasNone names → (w : Named) → IsAmong names w → IsAmong [] w
alone names all (Named.Variable t) h = none_in names t all h
alone names all _ h = tt

level_alone : (r : Resolution) (names : List Entry) → HasNone names → (m : Option Mode) → LevelStands r names m → LevelStands r [] m
level_alone r names all (Some (Locked (Through x token m))) h = alone names all (named_at r token) h
level_alone r names all _ h = tt

type_alone : (r : Resolution) (names : List Entry) → HasNone names → (w : WrittenType) → TypeStands r names w → TypeStands r [] w
type_alone r names all w h = each (LevelStands r names) (LevelStands r []) (level_alone r names all) w.ctype.levels h

field_types : (r : Resolution) (file : Scope) → HasNone file.names → (siblings earlier list : List Declaration) → Held r (fields_notes file siblings earlier list) → AllByRecursion (λ (d : Declaration). TypeStands r [] d.written) list
field_types r file none siblings earlier [] h = tt
field_types r file none siblings earlier (d ∷ rest) h =
    (type_alone r file.names none d.written (type_stands r file siblings Role.Field d.written (left _ _ _ (left _ _ _ h))), field_types r file none siblings (earlier ++ d ∷ []) rest (right _ _ _ h))

pub all_types : (r : Resolution) (file : Scope) → HasNone file.names → (items : List Item) → Held r (items_notes file items) → AllByRecursion (TypeStands r []) (file_types items)
all_types r file none [] h = tt
all_types r file none (structure s ∷ rest) h =
    both (TypeStands r []) _ (file_types rest) (mapped (TypeStands r []) (λ (d : Declaration). d.written) s.fields (field_types r file none s.fields [] s.fields (left _ _ _ h))) (all_types r file none rest (right _ _ _ h))
all_types r file none (global g ∷ rest) h = (type_alone r file.names none g.declaration.written (type_stands r file [] Role.Global g.declaration.written (left _ _ _ (left _ _ _ (left _ _ _ h)))), all_types r file none rest (right _ _ _ h))
all_types r file none (function f ∷ rest) h = (type_alone r file.names none f.result (type_stands r file [] Role.Result f.result (left _ _ _ (left _ _ _ (left _ _ _ (left _ _ _ h))))), all_types r file none rest (right _ _ _ h))
