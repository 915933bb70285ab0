-- What is to be said of each expression and statement: one clause for each production.
use Rattle.std.specs.{Prelude.{ℕ, List, [], ◌∷◌, ◌++◌, drop, Option, Some, None}, List.flat_map}
use Rattle.sharc_tree.specs.declared.tree.declaration.Declaration.{Declaration}
use Rattle.sharc_tree.specs.declared.tree.expression.PlaceCall.{PlaceCall}
use Rattle.sharc_tree.specs.declared.tree.expression.PlaceCall.TheVariants.{Lock, Unlock, Free}
use Rattle.sharc_tree.specs.Tree.{Expression, identifier, constant, parentheses, call, spawn, on_value, on_place, cast}
use Rattle.sharc_tree.specs.Tree.{index, field, unary, binary, Arguments, no_arguments, argument, Right, value, malloc}
use Rattle.sharc_tree.specs.Tree.{Simple, assign, does_call, Local, First, nothing, declares, does, Head, Statement}
use Rattle.sharc_tree.specs.Tree.{Statements, no_statements, statement, Function, Item, structure, global, function}
use Rattle.sharc_tree.specs.Tree as tree
use Rattle.sharc_ctype.specs.{Resolved.named_at, Transfers.parameters_named}
use Rattle.sharc_mode.specs.{declared.finding.Finding.Finding, Moded.Assignment}
use Rattle.sharc_mode.specs.Notes.{agree_notes, write_notes, call_notes, cast_notes, source_notes, field_notes}
use Rattle.sharc_mode.specs.Rows.{written, at_call, base_use, declared_row, cast_row, named_row, modes_of, modes_at}
use Rattle.sharc_mode.specs.Sharings.{Sharing}

-- what the first of the parameters that are left expects at a call
abbrev pub expected : Assignment → List Declaration → Arguments → List Declaration → Option (List Sharing)
expected m ds all [] = None
expected m ds all (d ∷ rest) = Some (modes_of m (declared_row m.typed (at_call ds all) d.name.site.token))

abbrev pub place_notes : Assignment → PlaceCall → Expression → List Finding
place_notes m Lock a = []
place_notes m Unlock a = []
place_notes m Free a = source_notes m a

abbrev mutual
  pub notes_of : Assignment → Expression → List Finding
  notes_of m (identifier s i) = []
  notes_of m (constant s c) = []
  notes_of m (parentheses s a) = notes_of m a
  notes_of m (call s f all) = notes_of_all m (parameters_named m.typed (named_at m.typed f.site.token)) all
      (parameters_named m.typed (named_at m.typed f.site.token)) all
      ++ call_notes m s (parameters_named m.typed (named_at m.typed f.site.token)) all
  notes_of m (spawn s f a) = notes_of m a
      ++ agree_notes m (expected m (parameters_named m.typed (named_at m.typed f.site.token)) (argument a no_arguments)
      (parameters_named m.typed (named_at m.typed f.site.token))) a
      ++ call_notes m s (parameters_named m.typed (named_at m.typed f.site.token)) (argument a no_arguments)
  notes_of m (on_value s w a) = notes_of m a
  notes_of m (on_place s w a) = notes_of m a ++ place_notes m w a
  notes_of m (cast s t a) = notes_of m a ++ source_notes m a
      ++ cast_notes m.typed t.span t.ctype.base (modes_of m (cast_row m.typed s)) (modes_at m a)
  notes_of m (index s a i) = notes_of m a ++ notes_of m i
  notes_of m (field s a w n) = notes_of m a ++ field_notes m.typed s (base_use m.typed w a)
      (modes_of m (named_row m.typed written (named_at m.typed n.site.token)))
  notes_of m (unary s o a) = notes_of m a
  notes_of m (binary s o at a b) = notes_of m a ++ notes_of m b

  -- of the arguments that are left, beside the parameters that are left
  pub notes_of_all : Assignment → List Declaration → Arguments → List Declaration → Arguments → List Finding
  notes_of_all m ds all left no_arguments = []
  notes_of_all m ds all left (argument a rest) =
      notes_of m a ++ agree_notes m (expected m ds all left) a ++ notes_of_all m ds all (drop 1 left) rest

abbrev pub option_notes : {A : Type 0} → (A → List Finding) → Option A → List Finding
option_notes f None = []
option_notes f (Some x) = f x

-- the right side of `=`; malloc agrees with every pointer type
abbrev pub right_notes : Assignment → Option (List Sharing) → Right → List Finding
right_notes m want (value e) = notes_of m e ++ agree_notes m want e
right_notes m want (malloc s n t) = option_notes (notes_of m) n

abbrev pub simple_notes : Assignment → Simple → List Finding
simple_notes m (assign s u x) = notes_of m u ++ write_notes m u ++ right_notes m (modes_at m u) x
simple_notes m (does_call e) = notes_of m e

abbrev pub local_notes : Assignment → Local → List Finding
local_notes m l = option_notes
    (right_notes m (Some (modes_of m (declared_row m.typed written l.declaration.name.site.token)))) l.initial

-- in the function whose name is this token
abbrev pub return_notes : Assignment → ℕ → Expression → List Finding
return_notes m f e = notes_of m e ++ agree_notes m (Some (modes_of m (declared_row m.typed written f))) e

abbrev pub first_notes : Assignment → First → List Finding
first_notes m nothing = []
first_notes m (declares l) = local_notes m l
first_notes m (does x) = simple_notes m x

abbrev pub head_notes : Assignment → Head → List Finding
head_notes m h = first_notes m h.first ++ option_notes (notes_of m) h.test ++ option_notes (simple_notes m) h.step

abbrev mutual
  pub notes_in : Assignment → ℕ → Statement → List Finding
  notes_in m f (tree.empty s) = []
  notes_in m f (tree.block s all) = notes_in_all m f all
  notes_in m f (tree.declare s l) = local_notes m l
  notes_in m f (tree.simple s x) = simple_notes m x
  notes_in m f (tree.jump s j) = []
  notes_in m f (tree.return s e) = option_notes (return_notes m f) e
  notes_in m f (tree.if_then s e a) = notes_of m e ++ notes_in m f a
  notes_in m f (tree.if_then_else s e a b) = notes_of m e ++ notes_in m f a ++ notes_in m f b
  notes_in m f (tree.while s e a) = notes_of m e ++ notes_in m f a
  notes_in m f (tree.for s h a) = head_notes m h ++ notes_in m f a

  pub notes_in_all : Assignment → ℕ → Statements → List Finding
  notes_in_all m f no_statements = []
  notes_in_all m f (statement a rest) = notes_in m f a ++ notes_in_all m f rest

abbrev pub item_notes : Assignment → Item → List Finding
item_notes m (structure s) = []
item_notes m (global g) = []
item_notes m (function f) = notes_in_all m f.name.site.token f.statements

abbrev pub items_notes : Assignment → List Item → List Finding
items_notes m = flat_map (item_notes m)
