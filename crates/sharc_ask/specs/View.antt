-- How far a thread came, as the code reports it, and parts of runs, as the code's functions have them.
use Rattle.std.specs.Prelude.{◌≡◌, ℕ, ℤ, pos, Bool, true, false, Option, Some, None, take, drop, ◌-◌, unsigned_abs}
use Rattle.std.specs.Prelude.{length, List, [], ◌++◌, if◌then◌else◌}
use Rattle.std.specs.{Borrow.Bor, Option.option_map}
use Rattle.sharc_tree.specs.declared.event.Act.TheVariants as acts
use Rattle.sharc_tree.specs.{declared.token.Site.Site, declared.tree.declaration.WrittenType.WrittenType}
use Rattle.sharc_tree.specs.declared.tree.expression.BinaryOperator.{BinaryOperator}
use Rattle.sharc_tree.specs.declared.tree.expression.BinaryOperator.TheVariants.{LogicalAnd, LogicalOr}
use Rattle.sharc_tree.specs.{declared.tree.expression.Expr.Expr, declared.tree.statement.Simple.{Simple as RustSimple}}
use Rattle.sharc_tree.specs.{Spans.span_of, Tree.{Expression, Arguments, Simple, Statement, while, for}}
use Rattle.sharc_tree.specs.{declared.tree.statement.Stmt.Stmt, Traps.trap_number}
use Rattle.sharc_tree.specs.View.{view_expr, view_simple, view_stmt}
use Rattle.sharc_tree.specs.declared.trap.Trap.TheVariants as traps
use Rattle.sharc_names.specs.{View.view_kind, declared.fault.Named.Named, Kinds.{Kind, declared_kind, declared_kinds}}
use Rattle.sharc_ask.specs.{declared.plan.Loop.Loop, declared.asked.Asked.{Asked as RustAsked}}
use Rattle.sharc_ask.specs.declared.asked.Outcome.{Outcome as RustOutcome}
use Rattle.sharc_ask.specs.declared.asked.Outcome.TheVariants.{Wants, Ended, StoppedX, Fuel}
use Rattle.sharc_ask.specs.{declared.values.Flow.{Flow as RustFlow}, StepView.Known}
use Rattle.sharc_ctype.specs.{Resolved.Resolution, Transfers.parameters_named}
use Rattle.sharc_mode.specs.{Cells.cell_at, Moded.Assignment, Sharings.Sharing}
use Rattle.sharc_meaning.specs.{declared.variable.Variable.Variable, Arithmetic.operated}
use Rattle.sharc_meaning.specs.Cells.{element_cells, instance_mode}
use Rattle.sharc_meaning.specs.Expressions.{Calls, called, resulting, tested, operand, binary_value, eval, eval_all}
use Rattle.sharc_meaning.specs.{Meaning.{Asked, parameters_begin, left_at}, Places.{StorePlace, fetched}}
use Rattle.sharc_meaning.specs.State.{Outcome, wants, ended, stopped, spent, Run, Step, ◌>>=◌, ◌>>◌, give, unless_stop}
use Rattle.sharc_meaning.specs.State.{answered, performs, looks_at, temporarily, in_block, entered, value_of}
use Rattle.sharc_meaning.specs.State.{all_released, pointers_among}
use Rattle.sharc_meaning.specs.Statements.{Flow, next, broken, continued, returned, is_positive, loop, done_first}
use Rattle.sharc_meaning.specs.Statements.{done_step, done_test, exec, exec_all}
use Rattle.sharc_ask.specs.declared.values.Flow.TheVariants as flows

-- how far a thread came, with what it holds where it wants an event
abbrev pub told : Outcome → List ℤ → RustOutcome
told (wants e) held = Wants e held
told ended held = Ended
told (stopped trap site) held = StoppedX (trap_number trap) site
told spent held = Fuel

abbrev pub Tells : RustAsked → Asked → Type 0
Tells a asked = (a.events ≡ asked.events) × (a.outcome ≡ told asked.outcome asked.held) × (a.given_up ≡ asked.given_up)

-- how a statement is left, and what a loop is made of

abbrev pub view_flow : RustFlow → Flow
view_flow flows.Next = next
view_flow flows.Broken = broken
view_flow flows.Continued = continued
view_flow (flows.Returned site v) = returned site v

-- the result of a function that is left so
abbrev pub number_left : Flow → ℤ
number_left (returned site v) = v
number_left _ = pos 0

abbrev pub view_test : Option (Bor Expr) → Option Expression
view_test None = None
view_test (Some e) = Some (view_expr e.now)

abbrev pub view_step : Option (Bor RustSimple) → Option Simple
view_step None = None
view_step (Some x) = Some (view_simple x.now)

-- the value in the place that an expression names
abbrev pub place_fetched : Assignment → Expression → StorePlace → Run ℤ
place_fetched m e p = fetched m.typed (span_of e).first (cell_at m e) p

abbrev pub calling : Calls → Assignment → Site → Named → List ℕ → Arguments → Run ℤ
calling on_call m site f name all = temporarily (do
  vs ← eval_all on_call m (declared_kinds (parameters_named m.typed f)) all
  called on_call site f name vs)

-- an operator whose operands are both looked at
abbrev pub joined : Resolution → ℕ → Site → BinaryOperator → Expression → Expression → Run ℤ → Run ℤ → Run ℤ
joined r bits at o a b of_a of_b = temporarily (do
  x ← operand r a of_a
  y ← operand r b of_b
  resulting at (operated bits o x y))

-- `&&` is true, `||` false, and any other operator none
abbrev pub logic_of : BinaryOperator → Option Bool
logic_of LogicalAnd = Some true
logic_of LogicalOr = Some false
logic_of _ = None

abbrev pub binary_by : Option Bool → Resolution → ℕ → Site → BinaryOperator → Expression → Expression → Run ℤ → Run ℤ
    → Run ℤ
binary_by None r bits at o a b of_a of_b = joined r bits at o a b of_a of_b
binary_by (Some true) r bits at o a b of_a of_b = binary_value r at LogicalAnd a b of_a of_b
binary_by (Some false) r bits at o a b of_a of_b = binary_value r at LogicalOr a b of_a of_b

-- a new object of this many elements
abbrev pub made : Resolution → Site → Sharing → ℤ → WrittenType → Run ℤ
made r site target elements w = do
  unless_stop (is_positive elements) traps.SizeNotPositive site
  held ← looks_at value_of
  answered site (acts.New (element_cells r (declared_kind w)) (unsigned_abs elements) (instance_mode r held target))

-- what a loop is made of

abbrev pub test_of_loop : Statement → Option Expression
test_of_loop (while s e a) = Some e
test_of_loop (for s h a) = h.test
test_of_loop _ = None

abbrev pub step_of_loop : Statement → Option Simple
step_of_loop (for s h a) = h.step
step_of_loop _ = None

abbrev pub body_of_loop : Statement → Statement
body_of_loop (while s e a) = a
body_of_loop (for s h a) = a
body_of_loop a = a

abbrev pub loop_test : Calls → Assignment → Loop → Run Bool
loop_test on_call m l = done_test on_call m (test_of_loop (view_stmt l.statement.now))

abbrev pub loop_step : Calls → Assignment → Loop → Step
loop_step on_call m l = done_step on_call m (step_of_loop (view_stmt l.statement.now))

abbrev pub loop_body : Calls → Assignment → Loop → Run Flow
loop_body on_call m l = exec on_call m (view_kind l.kind) (body_of_loop (view_stmt l.statement.now))

-- one of two statements

abbrev pub view_otherwise : Option (Bor Stmt) → Option Statement
view_otherwise None = None
view_otherwise (Some a) = Some (view_stmt a.now)

abbrev pub other_done : Calls → Assignment → Kind → Option Statement → Run Flow
other_done on_call m kind None = give next
other_done on_call m kind (Some b) = exec on_call m kind b

-- a thread that holds no mutex goes away
abbrev pub leaves : Site → Step
leaves name = do
  performs name acts.Return
  performs name acts.Gone

-- temporaries, or variables, past this number end, and what they hold is given up

abbrev pub temporaries_ended : ℕ → Known → Known
temporaries_ended n k =
    record k { temporaries = take n k.temporaries; given_up = k.given_up ++ all_released (drop n k.temporaries) }

abbrev pub variables_ended : ℕ → Known → Known
variables_ended n k = record k {
  variables = take n k.variables;
  given_up = k.given_up ++ all_released (pointers_among (drop n k.variables));
}

-- a caller's variables, its temporaries but the last, and what is held below it; after that the frame is a new one,
-- with all that below it
abbrev pub WasKept : ℕ → Known → Known → Option (List Variable × List ℤ × List ℤ) → Type 0
WasKept moved before after None = Unit {0}
WasKept moved before after (Some (variables, temporaries, below)) =
    (variables ≡ before.variables) × (temporaries ≡ take (length before.temporaries - moved) before.temporaries)
    × (below ≡ before.below)
    × (after
    ≡ record before { variables = []; temporaries = []; below = below ++ (pointers_among variables ++ temporaries) })
