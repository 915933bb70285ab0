-- What the lock paths of types name: variables in scope where the type is read, which stay in scope as long as what has
-- the type.
use Rattle.std.specs.Prelude.{◌≡◌, ◌⊎◌, ℕ, false, List, [], ◌∷◌, ◌++◌, length, map, Option, Some, None}
use Rattle.std.specs.List.{AllByRecursion}
use Rattle.sharc_tree.specs.declared.ctype.Mode.{Mode}
use Rattle.sharc_tree.specs.declared.ctype.Mode.TheVariants.{Private, Readonly, Locked, Racy, Dynamic}
use Rattle.sharc_tree.specs.{declared.ctype.Path.Path, declared.ctype.Path.TheVariants.{One, Through}}
use Rattle.sharc_tree.specs.declared.tree.declaration.WrittenType.{WrittenType}
use Rattle.sharc_tree.specs.Tree.{Expression, First, nothing, declares, does, Statement, Statements, no_statements}
use Rattle.sharc_tree.specs.Tree.{statement, Function, Item, structure, global, function}
use Rattle.sharc_tree.specs.Tree as tree
use Rattle.sharc_names.specs.{declared.fault.Named.Named, declared.scope.Scope.Scope, Kinds.declared_kind}
use Rattle.sharc_names.specs.Names.{Entry, Meaning}
use Rattle.sharc_names.specs.declared.fault.Named.TheVariants as named
use Rattle.sharc_names.specs.Names as meaning
use Rattle.sharc_ctype.specs.{Items.{file_scope, in_body}, Resolved.{Resolution, named_at, functions_in}}
use Rattle.sharc_ctype.specs.Statements.{Around, opened, looping, behind_first, after}
use Rattle.sharc_ctype_laws.specs.Places.{Placing, places_of_all}

abbrev pub meaning_token : Meaning → Option ℕ
meaning_token (meaning.variable d) = Some d.name.site.token
meaning_token (meaning.global n g) = None
meaning_token (meaning.function n s) = None
meaning_token (meaning.condition k) = None

abbrev pub IsVariableIn : List Entry → ℕ → Type 0
IsVariableIn [] x = ⊥
IsVariableIn (e ∷ rest) x = (meaning_token e.meaning ≡ Some x) ⊎ IsVariableIn rest x

-- what is named, if it is a variable, is one of these
abbrev pub IsAmong : List Entry → Named → Type 0
IsAmong names (named.Variable x) = IsVariableIn names x
IsAmong names _ = Unit {0}

abbrev pub PathStands : Resolution → List Entry → Path → Type 0
PathStands r names (One m token) = Unit {0}
PathStands r names (Through x token m) = IsAmong names (named_at r token)

abbrev pub LevelStands : Resolution → List Entry → Option Mode → Type 0
LevelStands r names None = Unit {0}
LevelStands r names (Some Private) = Unit {0}
LevelStands r names (Some Readonly) = Unit {0}
LevelStands r names (Some (Locked path)) = PathStands r names path
LevelStands r names (Some Racy) = Unit {0}
LevelStands r names (Some Dynamic) = Unit {0}

-- the variable of each lock path `x->m` of a type is one of these
abbrev pub TypeStands : Resolution → List Entry → WrittenType → Type 0
TypeStands r names w = AllByRecursion (LevelStands r names) w.ctype.levels

abbrev pub EntryStands : Resolution → List Entry → Meaning → Type 0
EntryStands r names (meaning.variable d) = TypeStands r names d.written
EntryStands r names (meaning.global n g) = Unit {0}
EntryStands r names (meaning.function n s) = Unit {0}
EntryStands r names (meaning.condition k) = Unit {0}

-- the type of each variable names variables that come before it
abbrev pub IsClosed : Resolution → List Entry → Type 0
IsClosed r [] = Unit {0}
IsClosed r (e ∷ rest) = EntryStands r rest e.meaning × IsClosed r rest

-- a cast is read where it is
abbrev pub CastStands : Resolution → List Entry → Expression → Type 0
CastStands r names (tree.cast s t a) = TypeStands r names t
CastStands r names _ = Unit {0}

pub record PathsAt (r : Resolution) (p : Placing) : Type 0 where
  pub closed : IsClosed r p.scope.names
  pub cast : CastStands r p.scope.names p.expression

-- the type of a local is read before its declarator
abbrev pub FirstStands : Resolution → List Entry → First → Type 0
FirstStands r names nothing = Unit {0}
FirstStands r names (declares l) = TypeStands r names l.declaration.written
FirstStands r names (does x) = Unit {0}

abbrev mutual
  pub LocalsStand : Resolution → Around → List Entry → Statement → Type 0
  LocalsStand r around names (tree.empty s) = Unit {0}
  LocalsStand r around names (tree.block s all) = AllLocalsStand r (opened around names) names all
  LocalsStand r around names (tree.declare s l) = TypeStands r names l.declaration.written
  LocalsStand r around names (tree.simple s x) = Unit {0}
  LocalsStand r around names (tree.jump s j) = Unit {0}
  LocalsStand r around names (tree.return s e) = Unit {0}
  LocalsStand r around names (tree.if_then s e a) = LocalsStand r (opened around names) names a
  LocalsStand r around names (tree.if_then_else s e a b) =
      LocalsStand r (opened around names) names a × LocalsStand r (opened around names) names b
  LocalsStand r around names (tree.while s e a) = LocalsStand r (looping (opened around names)) names a
  LocalsStand r around names (tree.for s h a) = FirstStands r names h.first
      × LocalsStand r (looping (opened around (behind_first (opened around names) names h.first)))
      (behind_first (opened around names) names h.first) a

  pub AllLocalsStand : Resolution → Around → List Entry → Statements → Type 0
  AllLocalsStand r around names no_statements = Unit {0}
  AllLocalsStand r around names (statement a rest) =
      LocalsStand r around names a × AllLocalsStand r around (after around names a) rest

abbrev pub around_in : Scope → Function → Around
around_in file f = record { result = declared_kind f.result; in_loop = false; block = length file.names }

abbrev pub BodyStands : Resolution → Scope → Function → Type 0
BodyStands r file f = AllLocalsStand r (around_in file f) (in_body file f).names f.statements

-- the types of fields, globals and results are read in the file, which has no variables
abbrev pub file_types : List Item → List WrittenType
file_types [] = []
file_types (structure s ∷ rest) = map (λ d. d.written) s.fields ++ file_types rest
file_types (global g ∷ rest) = g.declaration.written ∷ file_types rest
file_types (function f ∷ rest) = f.result ∷ file_types rest

pub record PathsFound (r : Resolution) : Type 0 where
  pub places : AllByRecursion (PathsAt r) (places_of_all (file_scope r.program.items) (functions_in r.program.items))
  pub locals : AllByRecursion (BodyStands r (file_scope r.program.items)) (functions_in r.program.items)
  pub types : AllByRecursion (TypeStands r []) (file_types r.program.items)
