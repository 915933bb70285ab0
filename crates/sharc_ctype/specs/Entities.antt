-- What has a type with modes: fields, globals, results, parameters, locals and casts, in source order; and the
-- positions of their types.
use Rattle.std.specs.{Prelude.{ℕ, ◌+◌, ◌==◌, Bool, ◌&&◌, List, [], ◌∷◌, ◌++◌, drop, length, map, Option}, List.find}
use Rattle.sharc_tree.specs.{declared.ctype.Mode.Mode, declared.token.Span.Span}
use Rattle.sharc_tree.specs.declared.tree.declaration.WrittenType.{WrittenType}
use Rattle.sharc_tree.specs.declared.tree.declaration.Declaration.{Declaration}
use Rattle.sharc_tree.specs.Measures.{expressions, in_option, in_simple, in_local}
use Rattle.sharc_tree.specs.Tree.{Expression, cast, Local, First, nothing, declares, does, Head, Statement, empty}
use Rattle.sharc_tree.specs.Tree.{block, declare, simple, jump, return, if_then, if_then_else, while, for, Statements}
use Rattle.sharc_tree.specs.Tree.{no_statements, statement, Function, Item, structure, global, function}
use Rattle.sharc_names.specs.declared.types.Role.{Role}
use Rattle.sharc_names.specs.declared.types.Role.TheVariants as role
use Rattle.sharc_ctype.specs.{Resolved.Resolution, declared.entity.Entity.Entity, declared.entity.Numbered.Numbered}

-- what a declaration declares is known by the token of its name
abbrev pub declared : Role → Declaration → Entity
declared role d = record { role = role; token = d.name.site.token; last = d.name.site.token; written = d.written }

-- a cast is known by its first token and its last, since a cast that is put around another one begins at the same
abbrev pub cast_entity : Span → WrittenType → Entity
cast_entity s t = record { role = role.Cast; token = s.first.token; last = s.last.token; written = t }

-- the casts among expressions
abbrev pub casts : List Expression → List Entity
casts [] = []
casts (cast s t a ∷ rest) = cast_entity s t ∷ casts rest
casts (_ ∷ rest) = casts rest

abbrev pub local_entities : Local → List Entity
local_entities l = declared role.Local l.declaration ∷ casts (in_local l)

abbrev pub first_entities : First → List Entity
first_entities nothing = []
first_entities (declares l) = local_entities l
first_entities (does x) = casts (in_simple x)

abbrev pub head_entities : Head → List Entity
head_entities h = first_entities h.first ++ casts (in_option expressions h.test) ++ casts (in_option in_simple h.step)

abbrev mutual
  pub statement_entities : Statement → List Entity
  statement_entities (empty s) = []
  statement_entities (block s all) = statements_entities all
  statement_entities (declare s l) = local_entities l
  statement_entities (simple s x) = casts (in_simple x)
  statement_entities (jump s j) = []
  statement_entities (return s e) = casts (in_option expressions e)
  statement_entities (if_then s e a) = casts (expressions e) ++ statement_entities a
  statement_entities (if_then_else s e a b) = casts (expressions e) ++ statement_entities a ++ statement_entities b
  statement_entities (while s e a) = casts (expressions e) ++ statement_entities a
  statement_entities (for s h a) = head_entities h ++ statement_entities a

  pub statements_entities : Statements → List Entity
  statements_entities no_statements = []
  statements_entities (statement a rest) = statement_entities a ++ statements_entities rest

-- the result of a function is known by the function's name
abbrev pub result_of : Function → Entity
result_of f = record { role = role.Result; token = f.name.site.token; last = f.name.site.token; written = f.result }

abbrev pub function_entities : Function → List Entity
function_entities f = (result_of f ∷ map (declared role.Parameter) f.parameters) ++ statements_entities f.statements

abbrev pub item_entities : Item → List Entity
item_entities (structure s) = map (declared role.Field) s.fields
item_entities (global g) = declared role.Global g.declaration ∷ []
item_entities (function f) = function_entities f

abbrev pub entities_in : List Item → List Entity
entities_in [] = []
entities_in (i ∷ rest) = item_entities i ++ entities_in rest

-- A position is a target of a type, at any depth from 1 on, or the top of a global, at depth 0. The levels of a type go
-- from the top down.

abbrev pub first_depth : Role → ℕ
first_depth role.Global = 0
first_depth _ = 1

-- what is written at the positions of an entity, by depth
abbrev pub written_modes : Entity → List (Option Mode)
written_modes e = drop (first_depth e.role) e.written.ctype.levels

abbrev pub positions_of : Entity → ℕ
positions_of e = length (written_modes e)

abbrev pub positions_in : List Entity → ℕ
positions_in [] = 0
positions_in (e ∷ rest) = positions_of e + positions_in rest

-- the entities with the numbers of their first positions, which are counted by entity and then by depth
abbrev pub numbered_from : ℕ → List Entity → List Numbered
numbered_from n [] = []
numbered_from n (e ∷ rest) = record { entity = e; first = n } ∷ numbered_from (n + positions_of e) rest

abbrev pub numbered : List Entity → List Numbered
numbered = numbered_from 0

abbrev pub is_told_by : ℕ → ℕ → Numbered → Bool
is_told_by token last n = n.entity.token == token && n.entity.last == last

-- the first of them that begins at this token and ends at that one
abbrev pub numbered_at : List Entity → ℕ → ℕ → Option Numbered
numbered_at list token last = find (is_told_by token last) (numbered list)

abbrev pub entity_at : Resolution → ℕ → ℕ → Option Numbered
entity_at r = numbered_at (entities_in r.program.items)
