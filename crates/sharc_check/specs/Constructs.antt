-- The constructs of a program that the rules of modes speak of: what is given to what, what is called, taken and
-- written.
use Rattle.std.specs.Prelude.{◌≡◌, ℕ, List, [], ◌∷◌, ◌++◌, Some, slice_get, Contains}
use Rattle.sharc_tree.specs.{declared.ctype.Mode.Mode, declared.token.Span.Span}
use Rattle.sharc_tree.specs.declared.tree.declaration.Declaration.{Declaration}
use Rattle.sharc_tree.specs.declared.tree.declaration.Identifier.{Identifier}
use Rattle.sharc_tree.specs.declared.tree.declaration.WrittenType.{WrittenType}
use Rattle.sharc_tree.specs.{declared.tree.expression.PlaceCall.TheVariants.Free, Measures.in_function}
use Rattle.sharc_tree.specs.Tree.{Expression, call, spawn, on_place, cast, Arguments, no_arguments, argument, Right}
use Rattle.sharc_tree.specs.Tree.{value, Local, First, nothing, declares, does, Statement, empty, block, declare}
use Rattle.sharc_tree.specs.Tree.{simple, jump, return, if_then, if_then_else, while, for, Statements, no_statements}
use Rattle.sharc_tree.specs.Tree.{statement, Function}
use Rattle.sharc_ctype.specs.{declared.entity.Entity.Entity, declared.entity.Numbered.Numbered}
use Rattle.sharc_ctype.specs.{Entities.{entities_in, numbered}, Resolved.{functions_in, named_at}}
use Rattle.sharc_ctype.specs.Transfers.{lvalue, variable, result, function_transfers, parameters_named, passed}
use Rattle.sharc_mode.specs.{Moded.Assignment, Rows.{written, at_call, declared_row, modes_of, modes_at}}
use Rattle.sharc_mode.specs.Sharings.{Sharing}

abbrev pub IsFunction : Assignment → Function → Type 0
IsFunction m f = Contains (functions_in m.typed.program.items) f

-- an expression in some function, also within another expression
pub record IsExpression (m : Assignment) (e : Expression) : Type 0 where
  pub owner : Function
  pub stands : IsFunction m owner
  pub inside : Contains (in_function owner) e

-- a function with these parameters is called or spawned with these arguments; the calls of condition variables have
-- none that a program declares
pub data IsCall (m : Assignment) : List Declaration → Arguments → Type 0 where
  called : {s : Span} {f : Identifier} {all : Arguments} → IsExpression m (call s f all)
      → IsCall m (parameters_named m.typed (named_at m.typed f.site.token)) all
  spawned : {s : Span} {f : Identifier} {a : Expression} → IsExpression m (spawn s f a)
      → IsCall m (parameters_named m.typed (named_at m.typed f.site.token)) (argument a no_arguments)

-- the lvalue whose reference SCAST or `free` takes
pub data IsTaken (m : Assignment) : Expression → Type 0 where
  cast_away : {s : Span} {t : WrittenType} {a : Expression} → IsExpression m (cast s t a) → IsTaken m a
  freed : {s : Span} {a : Expression} → IsExpression m (on_place s Free a) → IsTaken m a

-- ---- what is given to what

abbrev pub locals_in_first : First → List Local
locals_in_first nothing = []
locals_in_first (declares l) = l ∷ []
locals_in_first (does x) = []

-- the locals of a statement, with their initialisers
abbrev mutual
  pub locals_in : Statement → List Local
  locals_in (empty s) = []
  locals_in (block s all) = locals_in_all all
  locals_in (declare s l) = l ∷ []
  locals_in (simple s x) = []
  locals_in (jump s j) = []
  locals_in (return s e) = []
  locals_in (if_then s e a) = locals_in a
  locals_in (if_then_else s e a b) = locals_in a ++ locals_in b
  locals_in (while s e a) = locals_in a
  locals_in (for s h a) = locals_in_first h.first ++ locals_in a

  pub locals_in_all : Statements → List Local
  locals_in_all no_statements = []
  locals_in_all (statement a rest) = locals_in a ++ locals_in_all rest

-- the left side of an assignment, and the right side of its `=`
pub record IsAssigned (m : Assignment) (to : Expression) (from : Right) : Type 0 where
  pub owner : Function
  pub stands : IsFunction m owner
  pub does : Contains (function_transfers m.typed owner) record { receiver = lvalue to; source = from }

-- an expression, and the modes that the targets of what it is given to have, from depth 1 on. Of a parameter they are
-- those of its type at the call, where each path `x->m` of another parameter `x` is read as `y->m`, with `y` the
-- argument for it
pub data IsGiven (m : Assignment) : List Sharing → Expression → Type 0 where
  assigned : {u e : Expression} {modes : List Sharing} → IsAssigned m u (value e) → modes_at m u ≡ Some modes
      → IsGiven m modes e
  initial : {f : Function} {l : Local} {e : Expression} → IsFunction m f → Contains (locals_in_all f.statements) l
      → l.initial ≡ Some (value e)
      → IsGiven m (modes_of m (declared_row m.typed written l.declaration.name.site.token)) e
  an_argument : {parameters : List Declaration} {all : Arguments} {d : Declaration} {e : Expression}
      → IsCall m parameters all → Contains (passed parameters all) record { receiver = variable d; source = value e }
      → IsGiven m (modes_of m (declared_row m.typed (at_call parameters all) d.name.site.token)) e
  returned : {f : Function} {w : WrittenType} {e : Expression}
      → IsFunction m f → Contains (function_transfers m.typed f) record { receiver = result w; source = value e }
      → IsGiven m (modes_of m (declared_row m.typed written f.name.site.token)) e

-- ---- types

-- a field, a global, a result, a parameter, a local or a cast, with the number of its first position
abbrev pub IsEntity : Assignment → Numbered → Type 0
IsEntity m n = Contains (numbered (entities_in m.typed.program.items)) n

-- at this depth of its type this mode is written
abbrev pub IsWritten : Entity → ℕ → Mode → Type 0
IsWritten e depth mode = slice_get e.written.ctype.levels depth ≡ Some (Some mode)
