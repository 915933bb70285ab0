-- The values of expressions: one clause for each form.
use Rattle.std.specs.Prelude.{ℕ, ℤ, pos, Bool, true, false, not, List, [], ◌∷◌, drop, Some, Result, Ok, Err}
use Rattle.std.specs.Prelude.{if◌then◌else◌}
use Rattle.sharc_tree.specs.{declared.event.Act.Act, declared.event.Object.TheVariants.Global}
use Rattle.sharc_tree.specs.declared.event.TakeKind.{TakeKind}
use Rattle.sharc_tree.specs.{declared.event.TakeKind.TheVariants.{Cast, Free as ToFree}, declared.token.Site.Site}
use Rattle.sharc_tree.specs.{declared.token.Span.Span, declared.tree.expression.BinaryOperator.BinaryOperator}
use Rattle.sharc_tree.specs.declared.tree.expression.BinaryOperator.TheVariants.{LogicalOr, LogicalAnd}
use Rattle.sharc_tree.specs.declared.tree.expression.PlaceCall.{PlaceCall}
use Rattle.sharc_tree.specs.declared.tree.expression.PlaceCall.TheVariants.{Lock, Unlock, Free}
use Rattle.sharc_tree.specs.declared.tree.expression.UnaryOperator.{UnaryOperator}
use Rattle.sharc_tree.specs.declared.tree.expression.UnaryOperator.TheVariants.{Negate, Not, Complement, Dereference}
use Rattle.sharc_tree.specs.declared.tree.expression.ValueCall.{ValueCall}
use Rattle.sharc_tree.specs.{declared.tree.expression.ValueCall.TheVariants.{Join, Print}, declared.trap.Trap.Trap}
use Rattle.sharc_tree.specs.Spans.{span_of}
use Rattle.sharc_tree.specs.Tree.{Expression, identifier, constant, parentheses, call, spawn, on_value, on_place, cast}
use Rattle.sharc_tree.specs.Tree.{index, field, unary, binary, Arguments, no_arguments, argument}
use Rattle.sharc_tree.specs.declared.event.Act.TheVariants as acts
use Rattle.sharc_tree.specs.declared.trap.Trap.TheVariants as traps
use Rattle.sharc_names.specs.{declared.fault.Named.Named, Kinds.{Kind, declared_kinds, promoted}}
use Rattle.sharc_names.specs.declared.fault.Named.TheVariants as named
use Rattle.sharc_ctype.specs.{Expressions.{class_of, binary_result}, Resolved.{Resolution, named_at, kind_at}}
use Rattle.sharc_ctype.specs.Transfers.{parameters_named}
use Rattle.sharc_mode.specs.{Cells.{cell_at, pointed}, Moded.Assignment, Rows.cast_row, Sharings.Sharing}
use Rattle.sharc_meaning.specs.Arithmetic.{bits_of, fits, is_zero, truth, operated, negated, complement}
use Rattle.sharc_meaning.specs.Reference.{is_null, constant_value}
use Rattle.sharc_meaning.specs.State.{Run, Step, ◌>>=◌, ◌>>◌, give, done, stop, unless_stop, entered, answered}
use Rattle.sharc_meaning.specs.State.{performs, drops, holds, moves, temporarily, reads_variable}
use Rattle.sharc_meaning.specs.Places.{StorePlace, cell, no_place, place_named, index_place, pointee_place, field_place}
use Rattle.sharc_meaning.specs.Places.{unary_place, fetched, taken_from, cast_to, freed}
use Rattle.sharc_meaning.specs.Waiting.{lock_call, unlock_call, condition_call}

-- a call of the function of this number, from this place, with these arguments
abbrev pub Calls : Type 0
Calls = ℕ → Site → List ℤ → Run ℤ

-- a value, or a stop at this place
abbrev pub resulting : Site → Result ℤ Trap → Run ℤ
resulting site (Ok v) = give v
resulting site (Err trap) = stop trap site

-- whether a value is neither 0 nor NULL
abbrev pub tested : Resolution → Expression → Run ℤ → Run Bool
tested r a of_a = do
  v ← of_a
  drops (kind_at r a) v
  give (not (is_zero v))

-- a value that is held in a temporary
abbrev pub operand : Resolution → Expression → Run ℤ → Run ℤ
operand r a of_a = do
  v ← of_a
  holds (kind_at r a) v
  give v

-- a value that what it goes to has to hold
abbrev pub fitting : Kind → Expression → Run ℤ → Run ℤ
fitting kind a of_a = do
  v ← of_a
  unless_stop (fits kind v) traps.OutOfRange (span_of a).first
  give v

-- an argument for the first of the parameters that are left
abbrev pub passed : Resolution → List Kind → Expression → Run ℤ → Run ℤ
passed r [] a of_a = operand r a of_a
passed r (kind ∷ rest) a of_a = operand r a (fitting kind a of_a)

abbrev pub named_value : Resolution → Sharing → Site → Named → Run ℤ
named_value r mode site (named.Variable token) = reads_variable site token
named_value r mode site (named.Global n) = fetched r site mode (cell (Global n) 0 0)
named_value r mode site _ = give (pos 0)

abbrev pub called : Calls → Site → Named → List ℕ → List ℤ → Run ℤ
called on_call site (named.Function f) name vs = on_call f site vs
called on_call site named.Known name vs = do
  condition_call site name vs
  give (pos 0)
called on_call site _ name vs = give (pos 0)

abbrev pub number_named : Named → ℕ
number_named (named.Function f) = f
number_named _ = 0

-- the new thread gets the argument
abbrev pub spawned : Resolution → Site → Named → Expression → Run ℤ → Run ℤ
spawned r site f a of_a = temporarily (do
  v ← passed r (declared_kinds (parameters_named r f)) a of_a
  t ← answered site (acts.Spawn (number_named f) v)
  moves (kind_at r a)
  give t)

abbrev pub value_act : ValueCall → ℤ → Act
value_act Join v = acts.Join v
value_act Print v = acts.Print v

abbrev pub value_called : Site → ValueCall → Run ℤ → Run ℤ
value_called site w of_a = do
  v ← of_a
  performs site (value_act w v)
  give (pos 0)

-- a base is held until what is taken is taken
abbrev pub taking : Assignment → Span → TakeKind → Expression → Run StorePlace → Run ℤ
taking m s kind a place = temporarily (do
  p ← place
  taken_from m.typed s.first (span_of a).first (cell_at m a) kind p)

abbrev pub place_called : Assignment → Span → PlaceCall → Expression → Run StorePlace → Step
place_called m s Lock a place = temporarily (do
  p ← place
  lock_call s.first p)
place_called m s Unlock a place = temporarily (do
  p ← place
  unlock_call s.first p)
place_called m s Free a place = do
  v ← taking m s ToFree a place
  if is_null v then done else freed (span_of a).first v

abbrev pub cast_value : Assignment → Span → Expression → Run StorePlace → Run ℤ
cast_value m s a place = do
  v ← taking m s Cast a place
  if is_null v then give v else cast_to m.typed (span_of a).first (pointed m (Some (cast_row m.typed s))) v

-- the base of a place is held until the access is done
abbrev pub place_value : Assignment → Expression → Run StorePlace → Run ℤ
place_value m e place = temporarily (do
  p ← place
  fetched m.typed (span_of e).first (cell_at m e) p)

abbrev pub unary_value : Assignment → Span → UnaryOperator → Expression → Run ℤ → Run ℤ
unary_value m s Negate a of_a = do
  v ← of_a
  resulting s.first (negated (bits_of (promoted (kind_at m.typed a))) v)
unary_value m s Not a of_a = do
  is_true ← tested m.typed a of_a
  give (truth (not is_true))
unary_value m s Complement a of_a = do
  v ← of_a
  give (complement v)
unary_value m s Dereference a of_a = place_value m (unary s Dereference a) (pointee_place m.typed s.first a of_a)

-- `&&` and `||` look at the right operand only where the left one does not decide
abbrev pub binary_value : Resolution → Site → BinaryOperator → Expression → Expression → Run ℤ → Run ℤ → Run ℤ
binary_value r at LogicalAnd a b of_a of_b = do
  left ← tested r a of_a
  right ← (if left then tested r b of_b else give false)
  give (truth right)
binary_value r at LogicalOr a b of_a of_b = do
  left ← tested r a of_a
  right ← (if left then give true else tested r b of_b)
  give (truth right)
binary_value r at o a b of_a of_b = temporarily (do
  x ← operand r a of_a
  y ← operand r b of_b
  resulting at (operated (bits_of (binary_result (class_of o) (kind_at r a) (kind_at r b))) o x y))

abbrev mutual
  -- the value of an expression, 0 where it has none
  pub eval : Calls → Assignment → Expression → Run ℤ
  eval on_call m (identifier s i) =
      entered (named_value m.typed (cell_at m (identifier s i)) i.site (named_at m.typed i.site.token))
  eval on_call m (constant s c) = entered (give (constant_value c))
  eval on_call m (parentheses s a) = entered (eval on_call m a)
  eval on_call m (call s f all) = entered (temporarily (do
    vs ← eval_all on_call m (declared_kinds (parameters_named m.typed (named_at m.typed f.site.token))) all
    called on_call s.first (named_at m.typed f.site.token) f.text vs))
  eval on_call m (spawn s f a) = entered (spawned m.typed s.first (named_at m.typed f.site.token) a (eval on_call m a))
  eval on_call m (on_value s w a) = entered (value_called s.first w (eval on_call m a))
  eval on_call m (on_place s w a) = entered (do
    place_called m s w a (place_of on_call m (span_of a).first a)
    give (pos 0))
  eval on_call m (cast s t a) = entered (cast_value m s a (place_of on_call m (span_of a).first a))
  eval on_call m (index s a i) = entered (place_value m (index s a i)
      (index_place m.typed s.first a (place_of on_call m s.first a) (eval on_call m a) (eval on_call m i)))
  eval on_call m (field s a w n) = entered (place_value m (field s a w n) (field_place m.typed s.first a w
      (named_at m.typed n.site.token) (place_of on_call m s.first a) (eval on_call m a)))
  eval on_call m (unary s o a) = entered (unary_value m s o a (eval on_call m a))
  eval on_call m (binary s o at a b) = entered (binary_value m.typed at o a b (eval on_call m a) (eval on_call m b))

  -- the arguments from left to right, each in a temporary, for parameters of these types
  pub eval_all : Calls → Assignment → List Kind → Arguments → Run (List ℤ)
  eval_all on_call m kinds no_arguments = give []
  eval_all on_call m kinds (argument a rest) = do
    v ← passed m.typed kinds a (eval on_call m a)
    vs ← eval_all on_call m (drop 1 kinds) rest
    give (v ∷ vs)

  -- what an lvalue names; its stops are placed at the first token of the whole lvalue
  pub place_of : Calls → Assignment → Site → Expression → Run StorePlace
  place_of on_call m site (identifier s i) = entered (give (place_named (named_at m.typed i.site.token)))
  place_of on_call m site (parentheses s a) = entered (place_of on_call m site a)
  place_of on_call m site (index s a i) =
      entered (index_place m.typed site a (place_of on_call m site a) (eval on_call m a) (eval on_call m i))
  place_of on_call m site (field s a w n) = entered
      (field_place m.typed site a w (named_at m.typed n.site.token) (place_of on_call m site a) (eval on_call m a))
  place_of on_call m site (unary s o a) = entered (unary_place m.typed site o a (eval on_call m a))
  place_of on_call m site _ = entered (give no_place)
