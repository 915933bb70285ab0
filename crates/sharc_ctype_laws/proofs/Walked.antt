-- An expression of which no fault is noted is judged in its scope; the scopes of statements.
use Rattle.sharc_ctype_laws.proofs.{Imports.{◌≡◌, ℕ, Bool, true, false, cond, List, [], ◌∷◌, refl, Some, AllByRecursion, Declaration, Expression, Local, First, declares, Head, Statement, Scope, declared_kind, StructTable, Entry, Role, notes_of, Around, with_names, is_here, declared, local_notes, first_notes, behind_first, in_head, head_notes, after, notes_in, first_locals, locals_in, Resolution, declaration_at, Placing, at, mapped}, Held.{Held, left}, Judged.{IsJudged, judged}, Scenes.{IsSolid, IsMeant, AreMeant, IsScene, type_solid}}
use Rattle.sharc_tree.specs.Tree as tree
use Rattle.sharc_names.specs.Names as meaning

-- an expression of which no fault is noted is judged
pub record IsSeen (r : Resolution) (scope : Scope) (e : Expression) : Type 0 where
  pub judged : IsJudged r scope e
  pub held : Held r (notes_of scope e)

pub seen : (r : Resolution) (scope : Scope) → IsScene r scope → (e : Expression) → Held r (notes_of scope e) → IsSeen r scope e
seen r scope scene e h = record { judged = judged r scope scene e h; held = h }

-- scopes of statements

abbrev pub AreDeclared : Resolution → List Declaration → Type 0
AreDeclared r list = AllByRecursion (λ d. declaration_at r d.name.site.token ≡ Some d) list

pub scene_with : (r : Resolution) (scope : Scope) → IsScene r scope → (names : List Entry) → AreMeant r scope.structs names → IsScene r (with_names scope names)
scene_with r scope scene names m = record { names = m; structs = scene.structs }

either : (r : Resolution) (structs : StructTable) (names : List Entry) (e : Entry) (b : Bool) → AreMeant r structs names → IsMeant r structs e.name e.meaning → AreMeant r structs (cond b names (e ∷ names))
either r structs names e true all m = all
either r structs names e false all m = (m, all)

pub declared_meant : (r : Resolution) (structs : StructTable) (block : ℕ) (d : Declaration) (names : List Entry) → AreMeant r structs names → declaration_at r d.name.site.token ≡ Some d → IsSolid structs (declared_kind d.written)
    → AreMeant r structs (declared block d names)
declared_meant r structs block d names all is s = either r structs names (record { name = d.name.text; block = block; meaning = meaning.variable d }) (is_here block names d) all (refl, is, s)

local_meant : (r : Resolution) (around : Around) (scope : Scope) → IsScene r scope → (l : Local) → declaration_at r l.declaration.name.site.token ≡ Some l.declaration → Held r (local_notes around scope l)
    → AreMeant r scope.structs (declared around.block l.declaration scope.names)
local_meant r around scope scene l is h = declared_meant r scope.structs around.block l.declaration scope.names scene.names is (type_solid r scope [] Role.Local l.declaration.written refl (left _ _ _ (left _ _ _ h)))

pub local_scene : (r : Resolution) (around : Around) (scope : Scope) → IsScene r scope → (l : Local) → declaration_at r l.declaration.name.site.token ≡ Some l.declaration → Held r (local_notes around scope l)
    → IsScene r (with_names scope (declared around.block l.declaration scope.names))
local_scene r around scope scene l is h = scene_with r scope scene _ (local_meant r around scope scene l is h)

first_meant : (r : Resolution) (around : Around) (scope : Scope) → IsScene r scope → (f : First) → AreDeclared r (first_locals f) → Held r (first_notes around scope f) → AreMeant r scope.structs (behind_first around scope.names f)
first_meant r around scope scene (declares l) d h = local_meant r around scope scene l d.0 h
first_meant r around scope scene _ d h = scene.names

pub head_scene : (r : Resolution) (around : Around) (scope : Scope) → IsScene r scope → (x : Head) → AreDeclared r (first_locals x.first) → Held r (head_notes around scope x) → IsScene r (in_head around scope x)
head_scene r around scope scene x d h = scene_with r scope scene _ (first_meant r around scope scene x.first d (left _ _ _ (left _ _ _ h)))

after_meant : (r : Resolution) (around : Around) (scope : Scope) → IsScene r scope → (a : Statement) → AreDeclared r (locals_in a) → Held r (notes_in around scope a) → AreMeant r scope.structs (after around scope.names a)
after_meant r around scope scene (tree.declare s l) d h = local_meant r around scope scene l d.0 h
after_meant r around scope scene _ d h = scene.names

pub after_scene : (r : Resolution) (around : Around) (scope : Scope) → IsScene r scope → (a : Statement) → AreDeclared r (locals_in a) → Held r (notes_in around scope a) → IsScene r (with_names scope (after around scope.names a))
after_scene r around scope scene a d h = scene_with r scope scene _ (after_meant r around scope scene a d h)

-- below a statement

abbrev pub JudgedAt : Resolution → Placing → Type 0
JudgedAt r p = IsSeen r p.scope p.expression

pub placed : (r : Resolution) (scope : Scope) (list : List Expression) → AllByRecursion (IsSeen r scope) list → AllByRecursion (JudgedAt r) (at scope list)
placed r scope list h = mapped (JudgedAt r) (λ e. record { scope = scope; expression = e }) list h
