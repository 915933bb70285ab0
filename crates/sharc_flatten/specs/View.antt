-- What the values of the walk are in the definitions.
use Rattle.std.specs.Prelude.{ℕ, ◌+◌, ◌-◌, Bool, true, false, List, [], ◌∷◌, ◌++◌, length, reverse, take, drop}
use Rattle.std.specs.Prelude.{slice_set, Option, None, Some, if◌then◌else◌}
use Rattle.sharc_names.specs.{View.view_kind, Kinds.{is_array, element_kind}}
use Rattle.sharc_flatten.specs.{declared.bodies.Around.{Around as RustAround}, declared.spots.SpotAccess.SpotAccess}
use Rattle.sharc_flatten.specs.declared.operations.Evaluation.{Evaluation}
use Rattle.sharc_flatten.specs.{declared.operations.Evaluation.TheVariants.{And, Or, Both}, declared.patch.Hole.Hole}
use Rattle.sharc_flatten.specs.{declared.places.Bound.Bound, declared.places.Taking.Taking}
use Rattle.sharc_flatten.specs.{declared.registers.Bank.Bank, declared.registers.Bank.TheVariants.{Int, Reference}}
use Rattle.sharc_flatten.specs.declared.places.Taking.TheVariants.{Cast, Free}
use Rattle.sharc_flatten.specs.declared.source.PlacedProgram.{PlacedProgram}
use Rattle.sharc_flatten.specs.declared.target.Target.{Target as RustTarget}
use Rattle.sharc_flatten.specs.declared.target.Target.TheVariants.{Variable, InGlobal, InGlobalAt, InObject, InObjectAt}
use Rattle.sharc_tree.specs.{Spans.span_of, declared.token.Site.Site}
use Rattle.sharc_tree.specs.declared.tree.expression.BinaryOperator.{BinaryOperator}
use Rattle.sharc_tree.specs.declared.tree.expression.BinaryOperator.TheVariants.{LogicalAnd, LogicalOr}
use Rattle.sharc_tree.specs.Tree as tree
use Rattle.sharc_mode.specs.declared.sharing.Sharing.TheVariants.{Private}
use Rattle.sharc_flat.specs.Flattened.{Around, expression_code, place_code, binary_code, field_code, lvalue_code}
use Rattle.sharc_flat.specs.Flattened.{guard_of, first_cell_of, opened, looping, simple_code, ints_of, refs_of}
use Rattle.sharc_flat.specs.Flattened.{first_code, behind_first, step_code, turn_code, if_code, loop_code}
use Rattle.sharc_flat.specs.Flattened.{statement_code, statements_code, behind_statements}
use Rattle.sharc_flat.specs.declared.slot.Slot.{Slot}
use Rattle.sharc_flat.specs.Places.{Target, bounds_code, index_code, global_of, own_field, target, variable, in_global}
use Rattle.sharc_flat.specs.Places.{in_global_at, in_object, in_object_at}
use Rattle.sharc_flat.specs.{Scope.{Context, at_site, ends_from}, declared.op.Op.Op, declared.op.Spot.Spot}
use Rattle.sharc_flat.specs.Machine.{first_cell}
use Rattle.sharc_code.specs.declared.code.Use.{Use}
use Rattle.sharc_code.specs.declared.code.Use.TheVariants as uses
use Rattle.sharc_flat.specs.declared.op.Op.TheVariants as op
use Rattle.sharc_flatten.specs.declared.places.Bound.TheVariants as bound
use Rattle.sharc_ctype.specs.Resolved.{kind_at, global_at}
use Rattle.sharc_meaning.specs.Cells.{element_cells, global_elements}

abbrev pub view_target : RustTarget → Target
view_target (Variable x) = variable x
view_target (InGlobal g f) = in_global g f
view_target (InGlobalAt g f) = in_global_at g f
view_target (InObject f) = in_object f
view_target (InObjectAt f) = in_object_at f

-- whether a bank is that of references
abbrev pub holds_references : Bank → Bool
holds_references Int = false
holds_references Reference = true

-- the context of an expression, by the variables in scope
abbrev pub context : PlacedProgram → List Slot → Context
context p scope = record { program = p.m.now; globals = p.globals.items; scope = scope }

abbrev pub use_of : Taking → Option ℕ → Use
use_of Cast x = uses.Cast x
use_of Free x = uses.Free x

abbrev pub bounds_by : Bound → Site → ℕ → ℕ → Op
bounds_by (bound.Object r cells) site i n = op.Bounds i r cells n (at_site site)
bounds_by (bound.Global elements cells first) site i n = op.GlobalBounds i elements cells (first + n) (at_site site)

-- what `wait` does before the thread waits
abbrev pub wait_begin : ℕ → Spot → List Op
wait_begin r spot = op.ChkNull r spot ∷ op.ChkNull (r + 1) spot ∷ op.ChkHeld (first_cell_of (r + 1)) spot
    ∷ op.CondEnter (first_cell_of r) spot ∷ op.Unlock (r + 2) (first_cell_of (r + 1)) spot ∷ []

-- the right operand of `&&` and `||`: where the register is 0, it is led over, with this many operations after it
abbrev pub decided_code : ℕ → ℕ → List Op → List Op
decided_code i more b = op.SkipIfZero i (length b + more) ∷ (b ++ (op.IsFalse i i ∷ op.IsFalse i i ∷ []))

-- ---- `a[i]`, by its parts: what is indexed, the first reference register for the index, and how the index becomes
-- the number of a cell
abbrev pub indexed_code : Context → ℕ → Site → tree.Expression → List Op → List Op → List Op
indexed_code c r site a of_array of_pointer =
    if is_array (kind_at c.program.typed a) then of_array else of_pointer ++ op.ChkNull r (at_site site) ∷ []

abbrev pub index_register : Context → ℕ → tree.Expression → ℕ
index_register c r a = if is_array (kind_at c.program.typed a) then r else r + 1

abbrev pub element_code : Context → ℕ → ℕ → Site → Option ℕ → Option ℕ → tree.Expression → List Op
element_code c i r site f guard a =
    if is_array (kind_at c.program.typed a)
    then bounds_code
    (λ i n. op.GlobalBounds i (global_elements (global_at c.program.typed (global_of (target c.program.typed None a))))
    (element_cells c.program.typed (element_kind (kind_at c.program.typed a)))
    (first_cell c.globals (global_of (target c.program.typed None a)) + n) (at_site site))
    i (own_field f 0) guard
    else bounds_code
    (λ i n. op.Bounds i r (element_cells c.program.typed (element_kind (kind_at c.program.typed a))) n (at_site site))
    i (own_field f 0) guard

-- an element, a field or an operator with two operands, after its Enter
abbrev pub operation_code : Context → ℕ → ℕ → tree.Expression → List Op
operation_code c i r (tree.index s a n) =
    index_code c i r s.first None (guard_of c (tree.index s a n)) a (place_code c i r s.first None None a)
    (expression_code c i r a) (λ d. expression_code c i d n)
    ++ lvalue_code c i r (tree.index s a n)
operation_code c i r (tree.field s a w n) =
    field_code c r s.first None w n (λ f. place_code c i r s.first f (guard_of c (tree.field s a w n)) a)
    (expression_code c i r a) ++ lvalue_code c i r (tree.field s a w n)
operation_code c i r (tree.binary s o at a b) =
    binary_code c i r at o a b (expression_code c i r a) (λ j q. expression_code c j q b)
operation_code c i r _ = []

-- which operands are evaluated
abbrev pub evaluation_of : BinaryOperator → Evaluation
evaluation_of LogicalAnd = And
evaluation_of LogicalOr = Or
evaluation_of _ = Both

-- of the numbers of variables in scope where each open block began, the innermost last: those after the first so
-- many, the innermost first
abbrev pub innermost : ℕ → List ℕ → List ℕ
innermost outer marks = reverse (drop outer marks)

abbrev pub outermost : ℕ → List ℕ → List ℕ
outermost outer marks = reverse (take outer marks)

-- the surroundings of a statement
abbrev pub around_of : RustAround → List ℕ → Around
around_of a marks = record {
  result = view_kind a.result;
  broken = a.broken;
  continued = a.continued;
  inside = innermost a.outer marks;
  outside = outermost a.outer marks;
}

abbrev pub own_access : Site → SpotAccess
own_access site = record {
  site = site;
  lvalue = record { words = record { first = site; last = site }; bare = site.token; is_simple = false };
  mode = Private;
  target = Variable site.token;
}

-- ---- statements, by their parts
abbrev pub assign_code : Context → ℕ → ℕ → tree.Expression → tree.Right → List Op
assign_code c i r u x = simple_code c i r (tree.assign (span_of u) u x)

abbrev pub simple_at : Context → tree.Simple → List Op
simple_at c x = simple_code c (ints_of c) (refs_of c) x

-- a block at this place, after its Enter
abbrev pub block_code : Context → Around → ℕ → tree.Statements → List Op
block_code c a pc all =
    (statements_code c (opened c a) pc all ++ ends_from (behind_statements c all).scope (length c.scope)) ++ op.BlockEnd
    ∷ []

abbrev pub if_in : Context → Around → ℕ → tree.Expression → tree.Statement → List Op
if_in c a pc e x = if_code pc (turn_code c (Some e)) (λ at. statement_code c a at x)

abbrev pub loop_in : Context → Around → ℕ → Option tree.Expression → Option tree.Simple → tree.Statement → List Op
loop_in c a pc test step x =
    loop_code pc (step_code c step) (turn_code c test) (λ at. statement_code c (looping a (pc + 1) (pc + 2)) at x)

abbrev pub for_in : Context → Around → ℕ → tree.Head → tree.Statement → List Op
for_in c a pc h x = (first_code c h.first
    ++ loop_in (behind_first c h.first) (opened c a) (pc + length (first_code c h.first)) h.test h.step x)
    ++ ends_from (behind_first c h.first).scope (length c.scope)

-- the last of this many lines leads over a turn, where a test is written
abbrev pub hole_at : Context → ℕ → Hole
hole_at c n = record { line = n - 1; register = ints_of c }

abbrev pub hole_of : Context → Option tree.Expression → ℕ → Option Hole
hole_of c None n = None
hole_of c (Some e) n = Some (hole_at c n)

abbrev pub with_hole : Option Hole → List Op → List Op
with_hole None lines = lines
with_hole (Some h) lines = slice_set lines h.line (op.SkipIfZero h.register (length lines - h.line - 1 + 1))

abbrev pub with_way_out : ℕ → List Op → List Op
with_way_out head lines = slice_set lines (head + 1) (op.Skip (length lines - (head + 1) - 1 + 0))

-- the end of a loop that begins on this line
abbrev pub finished : ℕ → Option Hole → List Op → List Op
finished head hole lines = with_way_out head (with_hole hole lines ++ op.Jump (head + 3) ∷ [])
