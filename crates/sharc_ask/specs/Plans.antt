-- The walk in steps: what tasks mean, and what goes on with their values.
use Rattle.std.specs.Prelude.{◌≡◌, ℕ, suc, ℤ, pos, not, ◌+◌, ◌*◌, ◌<◌, ◌≤◌, Bool, true, false, List, Option, Some}
use Rattle.std.specs.Prelude.{Result, Ok, Err, if◌then◌else◌}
use Rattle.sharc_tree.specs.declared.event.Act.TheVariants as acts
use Rattle.sharc_tree.specs.declared.event.Object.TheVariants.{Made}
use Rattle.sharc_tree.specs.{declared.event.TakeKind.TheVariants.{Cast, Free as ToFree}, declared.token.Site.Site}
use Rattle.sharc_tree.specs.{declared.tree.expression.BinaryOperator.BinaryOperator, Spans.span_of}
use Rattle.sharc_tree.specs.{declared.tree.statement.Stmt.Stmt, Tree.{Expression, Statement}}
use Rattle.sharc_tree.specs.View.{view_expr, view_arguments, view_option, view_right, view_simple, view_local}
use Rattle.sharc_tree.specs.View.{view_first, view_stmt, view_statements}
use Rattle.sharc_names.specs.declared.fault.Named.{Named}
use Rattle.sharc_names.specs.{Kinds.{Kind, declared_kind, declared_kinds, element_kind, promoted}, View.view_kind}
use Rattle.sharc_ctype.specs.{Resolved.{Resolution, kind_at}, Transfers.parameters_named}
use Rattle.sharc_mode.specs.{Cells.{cell_at, pointed}, Moded.Assignment, Rows.{row_at, cast_row}, Sharings.private}
use Rattle.sharc_mode.specs.View.{view_sharing}
use Rattle.sharc_meaning.specs.Arithmetic.{bits_of, truth, operated, negated, complement}
use Rattle.sharc_meaning.specs.Cells.{element_cells, field_place_named}
use Rattle.sharc_meaning.specs.Expressions.{Calls, resulting, tested, operand, fitting, passed, number_named}
use Rattle.sharc_meaning.specs.Expressions.{value_called, eval, place_of}
use Rattle.sharc_meaning.specs.Places.{StorePlace, variable, field_in, based, element, element_of_array, index_place}
use Rattle.sharc_meaning.specs.Places.{pointee_place, field_place, stored, taken_from, cast_to, freed}
use Rattle.sharc_meaning.specs.Reference.{is_null, number_of, elements_of}
use Rattle.sharc_meaning.specs.State.{State, Out, Run, Step, ◌>>=◌, ◌>>◌, give, done, answered, drops, moves}
use Rattle.sharc_meaning.specs.State.{ends_temporaries, ends_variables}
use Rattle.sharc_meaning.specs.Statements.{Flow, next, returned, on_next, on_turn, turns, loop, exec, exec_all}
use Rattle.sharc_meaning.specs.Statements.{right_value, done_simple, declared, done_first, done_test, return_with}
use Rattle.sharc_meaning.specs.Waiting.{lock_call, unlock_call}
use Rattle.sharc_ask.specs.{declared.state.RunEnd.RunEnd, StepView.{Known, known, view_place, Over}, Width.value_bits}
use Rattle.sharc_ask.specs.{declared.plan.After.After, declared.plan.Loop.Loop, declared.plan.Plan.Plan}
use Rattle.sharc_ask.specs.{declared.plan.Rest.Rest, declared.plan.Task.Task, declared.plan.WithNumber.WithNumber}
use Rattle.sharc_ask.specs.{declared.plan.WithValue.WithValue, declared.plan.WithPlace.WithPlace}
use Rattle.sharc_ask.specs.Values.{Value, number, test, place, flow, number_in, test_in, place_in, flow_in, view_value}
use Rattle.sharc_ask.specs.Values.{gives, as_nothing}
use Rattle.sharc_ask.specs.View.{view_test, view_otherwise, loop_test, loop_step, loop_body, other_done, number_left}
use Rattle.sharc_ask.specs.View.{place_fetched, calling, made}
use Rattle.sharc_ask.specs.declared.state.RunEnd.TheVariants as ends
use Rattle.sharc_ask.specs.declared.plan.After.TheVariants as afters
use Rattle.sharc_ask.specs.declared.plan.Plan.TheVariants as plans
use Rattle.sharc_ask.specs.declared.plan.Rest.TheVariants as rests
use Rattle.sharc_ask.specs.declared.plan.Task.TheVariants as tasks
use Rattle.sharc_ask.specs.declared.plan.WithNumber.TheVariants as numbers
use Rattle.sharc_ask.specs.declared.plan.WithValue.TheVariants as with_values
use Rattle.sharc_ask.specs.declared.plan.WithPlace.TheVariants as with_places

-- ---- parts of runs

-- the temporaries past this number end with a run, and so do the variables
abbrev pub ends_above : {A : Type 0} → ℕ → Run A → Run A
ends_above n m s = ends_temporaries n (m s)

abbrev pub ends_block : {A : Type 0} → ℕ → Run A → Run A
ends_block n m s = ends_variables n (m s)

-- what comes after a step or a test

abbrev pub zero_behind : Step → Run ℤ
zero_behind step = do
  step
  give (pos 0)

abbrev pub step_then : Step → Run Value → Run Value
step_then step run = do
  step
  run

abbrev pub test_then : Run Bool → Run Value → Run Value → Run Value
test_then of_b on_true on_false = do
  b ← of_b
  if b then on_true else on_false

-- with the value of an expression

abbrev pub truth_with : Resolution → Expression → ℤ → Run ℤ
truth_with r e x = do
  b ← tested r e (give x)
  give (truth b)

abbrev pub inverted_with : Resolution → Expression → ℤ → Run ℤ
inverted_with r e x = do
  b ← tested r e (give x)
  give (truth (not b))

abbrev pub returned_with : Kind → Site → Expression → ℤ → Run Flow
returned_with kind site e x = do
  v ← fitting kind e (give x)
  give (returned site v)

-- a new thread, given the value of its argument
abbrev pub spawned_with : Resolution → Site → Named → Expression → ℤ → Run ℤ
spawned_with r site f a x = do
  v ← passed r (declared_kinds (parameters_named r f)) a (give x)
  t ← answered site (acts.Spawn (number_named f) v)
  moves (kind_at r a)
  give t

abbrev pub free_unless_null : Site → ℤ → Run ℤ
free_unless_null site x = do
  if is_null x then done else freed site x
  give (pos 0)

abbrev pub and_with : Resolution → Expression → Expression → Run ℤ → ℤ → Run ℤ
and_with r a b of_b x = do
  left ← tested r a (give x)
  right ← (if left then tested r b of_b else give false)
  give (truth right)

abbrev pub or_with : Resolution → Expression → Expression → Run ℤ → ℤ → Run ℤ
or_with r a b of_b x = do
  left ← tested r a (give x)
  right ← (if left then give true else tested r b of_b)
  give (truth right)

-- an operator with the values of both operands, and of the right one where the left one is held in a temporary

abbrev pub joined_with : Resolution → ℕ → Site → BinaryOperator → Expression → ℤ → Run ℤ → Run ℤ
joined_with r bits at o b x of_b = do
  y ← operand r b of_b
  resulting at (operated bits o x y)

abbrev pub left_with : Resolution → ℕ → Site → BinaryOperator → Expression → Expression → Run ℤ → ℤ → Run ℤ
left_with r bits at o a b of_b x0 = do
  x ← operand r a (give x0)
  joined_with r bits at o b x of_b

abbrev pub element_behind : Resolution → Site → Expression → ℤ → ℤ → Run StorePlace
element_behind r site a p n =
    element site (Made (number_of p)) (element_cells r (element_kind (kind_at r a))) (elements_of p) n

abbrev pub behind_pointer : Resolution → Site → Expression → ℤ → Run ℤ → Run StorePlace
behind_pointer r site a p i = do
  based site (kind_at r a) p
  n ← i
  element_behind r site a p n

abbrev pub element_in : Resolution → Site → Expression → StorePlace → ℤ → Run StorePlace
element_in r site a base n = element_of_array r site (element_cells r (element_kind (kind_at r a))) base n

-- behind parts of statements

abbrev pub turns_of : Calls → Assignment → Loop → ℕ → Run Flow
turns_of on_call m l n = turns n (loop_test on_call m l) (loop_step on_call m l) (loop_body on_call m l)

-- the step of a loop, and its other turns
abbrev pub next_turn : Calls → Assignment → Loop → ℕ → Run Flow
next_turn on_call m l n = do
  loop_step on_call m l
  turns_of on_call m l n

abbrev pub left_body : Calls → Assignment → Loop → ℕ → Flow → Run Flow
left_body on_call m l n f = on_turn f (next_turn on_call m l n)

abbrev pub tested_done : Calls → Assignment → Loop → ℕ → Bool → Run Flow
tested_done on_call m l n goes_on = if goes_on then (loop_body on_call m l >>= left_body on_call m l n) else give next

abbrev pub chosen_done : Calls → Assignment → Kind → Statement → Option Statement → Bool → Run Flow
chosen_done on_call m kind a b is_true = if is_true then exec on_call m kind a else other_done on_call m kind b

-- the other statements of a list, of which the first was left so
abbrev pub others_done : Calls → Assignment → Kind → List Stmt → Flow → Run Flow
others_done on_call m kind l f = on_next f (exec_all on_call m kind (view_statements l))

-- a run that is entered already
abbrev pub inside : {A : Type 0} → Run A → Run A
inside m s = m (record s { fuel = suc s.fuel })

-- ---- what tasks mean

abbrev pub task_means : Calls → Assignment → Task → Run Value
task_means on_call m (tasks.Eval e) = gives number (eval on_call m (view_expr e.now))
task_means on_call m (tasks.Test e) = gives test (tested m.typed (view_expr e.now) (eval on_call m (view_expr e.now)))
task_means on_call m (tasks.Argument parameters e) =
    gives number (passed m.typed (declared_kinds parameters.now) (view_expr e.now) (eval on_call m (view_expr e.now)))
task_means on_call m (tasks.PlaceOf site e) = gives place (place_of on_call m site (view_expr e.now))
task_means on_call m (tasks.Index site a i) = gives place (index_place m.typed site (view_expr a.now)
    (place_of on_call m site (view_expr a.now)) (eval on_call m (view_expr a.now)) (eval on_call m (view_expr i.now)))
task_means on_call m (tasks.Pointee site a) =
    gives place (pointee_place m.typed site (view_expr a.now) (eval on_call m (view_expr a.now)))
task_means on_call m (tasks.Field site a w n) = gives place (field_place m.typed site (view_expr a.now) w n
    (place_of on_call m site (view_expr a.now)) (eval on_call m (view_expr a.now)))
task_means on_call m (tasks.Right kind target x) =
    gives number (right_value on_call m (view_kind kind) (view_sharing target) (view_right x.now))
task_means on_call m (tasks.Simple x) = gives as_nothing (done_simple on_call m (view_simple x.now))
task_means on_call m (tasks.Declare l) = gives as_nothing (declared on_call m (view_local l.now))
task_means on_call m (tasks.First h) = gives as_nothing (done_first on_call m (view_first h.now.value.first))
task_means on_call m (tasks.LoopTest e) = gives test (done_test on_call m (view_test e))
task_means on_call m (tasks.Return kind site e) =
    gives flow (return_with on_call m (view_kind kind) site (view_option (λ b. view_expr b.value) e.now))
task_means on_call m (tasks.Entered kind a) = inside (gives flow (exec on_call m (view_kind kind) (view_stmt a.now)))
task_means on_call m (tasks.All kind l) = gives flow (exec_all on_call m (view_kind kind) (view_statements l.now))
task_means on_call m (tasks.Turns n l) = gives flow (turns_of on_call m l n)

-- ---- what goes on with their values

abbrev pub assigned_to : Assignment → Expression → StorePlace → Run ℤ → Step
assigned_to m u p right = do
  v ← right
  stored m.typed (span_of u).first (kind_at m.typed u) (cell_at m u) p v

-- with the value x of the expression e
abbrev pub value_means : Calls → Assignment → Expression → WithValue → ℤ → Run Value
value_means on_call m e with_values.Tested x = gives test (tested m.typed e (give x))
value_means on_call m e (with_values.Passed parameters) x =
    gives number (passed m.typed (declared_kinds parameters.now) e (give x))
value_means on_call m e (with_values.Spawned site f mark) x =
    gives number (ends_above mark (spawned_with m.typed site f e x))
value_means on_call m e (with_values.Performs site w) x = gives number (value_called site w (give x))
value_means on_call m e (with_values.Negated site) x =
    gives number (resulting site (negated (bits_of (promoted (kind_at m.typed e))) x))
value_means on_call m e with_values.Inverted x = gives number (inverted_with m.typed e x)
value_means on_call m e with_values.Complemented x = gives number (give (complement x))
value_means on_call m e (with_values.AndLeft b) x =
    gives number (and_with m.typed e (view_expr b.now) (eval on_call m (view_expr b.now)) x)
value_means on_call m e (with_values.OrLeft b) x =
    gives number (or_with m.typed e (view_expr b.now) (eval on_call m (view_expr b.now)) x)
value_means on_call m e with_values.TruthOf x = gives number (truth_with m.typed e x)
value_means on_call m e (with_values.LeftOperand o b) x = gives number (ends_above o.mark
    (left_with m.typed (value_bits o.width) o.site o.operator e (view_expr b.now) (eval on_call m (view_expr b.now)) x))
value_means on_call m e (with_values.RightOperand o x) y =
    gives number (ends_above o.mark (joined_with m.typed (value_bits o.width) o.site o.operator e x (give y)))
value_means on_call m e (with_values.Fitted kind) x = gives number (fitting (view_kind kind) e (give x))
value_means on_call m e (with_values.Made site target w) x =
    gives number (made m.typed site (view_sharing target) x w.now)
value_means on_call m e (with_values.PointerBase site i) p =
    gives place (behind_pointer m.typed site e p (eval on_call m (view_expr i.now)))
value_means on_call m e (with_values.Based site) p = gives place (pointee_place m.typed site e (give p))
value_means on_call m e with_values.Dropped x = gives as_nothing (drops (kind_at m.typed e) x)
value_means on_call m e (with_values.Returns kind site) x = gives flow (returned_with (view_kind kind) site e x)

-- with the place p of the expression e, or of what it is read from
abbrev pub place_means : Calls → Assignment → Expression → WithPlace → StorePlace → Run Value
place_means on_call m e (with_places.Locks site mark) p =
    gives number (zero_behind (ends_above mark (lock_call site p)))
place_means on_call m e (with_places.Unlocks site mark) p =
    gives number (zero_behind (ends_above mark (unlock_call site p)))
place_means on_call m e (with_places.Frees s mark) p = gives number (do
  x ← ends_above mark (taken_from m.typed s.first (span_of e).first (cell_at m e) ToFree p)
  free_unless_null (span_of e).first x)
place_means on_call m e (with_places.Casts s mark) p = gives number (do
  x ← ends_above mark (taken_from m.typed s.first (span_of e).first (cell_at m e) Cast p)
  if is_null x then give x else cast_to m.typed (span_of e).first (pointed m (Some (cast_row m.typed s))) x)
place_means on_call m e (with_places.Fetched mark) p = gives number (ends_above mark (place_fetched m e p))
place_means on_call m e (with_places.ArrayBase site i) p = gives place (do
  n ← eval on_call m (view_expr i.now)
  element_in m.typed site e p n)
place_means on_call m e (with_places.FieldIn f) p = gives place (give (field_in (field_place_named m.typed f) p))
place_means on_call m e (with_places.Assigned x mark) p = gives as_nothing (ends_above mark
    (assigned_to m e p (right_value on_call m (kind_at m.typed e) (pointed m (row_at m.typed e)) (view_right x.now))))

-- with an index, or a value that goes somewhere
abbrev pub number_means : Assignment → WithNumber → ℤ → Run Value
number_means m (numbers.ArrayElement site a base) n =
    gives place (element_in m.typed site (view_expr a.now) (view_place base) n)
number_means m (numbers.PointerElement site a p) n = gives place (element_behind m.typed site (view_expr a.now) p n)
number_means m (numbers.Stored u p mark) x =
    gives as_nothing (ends_above mark (assigned_to m (view_expr u.now) (view_place p) (give x)))
number_means m (numbers.Initialised d) x = gives as_nothing
    (stored m.typed d.now.name.site (declared_kind d.now.written) private (variable d.now.name.site.token) x)

-- behind a part of a statement, or of a call, with what it came to
abbrev pub after_means : Calls → Assignment → After → Value → Run Value
after_means on_call m afters.Simple v = give (flow next)
after_means on_call m (afters.Block mark) v = gives flow (ends_block mark (give (flow_in v)))
after_means on_call m (afters.Listed kind l) v = gives flow (others_done on_call m (view_kind kind) l.now (flow_in v))
after_means on_call m (afters.Choice kind a b) v =
    gives flow (chosen_done on_call m (view_kind kind) (view_stmt a.now) (view_otherwise b) (test_in v))
after_means on_call m (afters.Head l mark) v =
    gives flow (ends_block mark (loop (loop_test on_call m l) (loop_step on_call m l) (loop_body on_call m l)))
after_means on_call m (afters.Test n l) v = gives flow (tested_done on_call m l n (test_in v))
after_means on_call m (afters.Body n l) v = gives flow (left_body on_call m l n (flow_in v))
after_means on_call m (afters.Step n l) v = gives flow (turns_of on_call m l n)
after_means on_call m (afters.Call mark) v = gives number (ends_above mark (give (number_left (flow_in v))))

abbrev pub rest_means : Calls → Assignment → Rest → Value → Run Value
rest_means on_call m rests.Same v = give v
rest_means on_call m (rests.Value e w) v = value_means on_call m (view_expr e.now) w (number_in v)
rest_means on_call m (rests.Place e w) v = place_means on_call m (view_expr e.now) w (place_in v)
rest_means on_call m (rests.Number w) v = number_means m w (number_in v)
rest_means on_call m (rests.After w) v = after_means on_call m w v

abbrev pub plan_means : Calls → Assignment → Plan → Run Value
plan_means on_call m (plans.Done v) = give (view_value v)
plan_means on_call m (plans.Goes t w) = task_means on_call m t >>= rest_means on_call m w
plan_means on_call m (plans.Calls c) =
    gives number (calling on_call m c.site c.named c.name.now (view_arguments c.arguments.now))

-- a run, and what goes on with its value
abbrev pub goes_on : Calls → Assignment → Run Value → Rest → Run Value
goes_on on_call m run w = run >>= rest_means on_call m w

-- ---- what the code's functions do with plans

-- a run comes to the state from which the plan goes on, which looks like this
pub record GoesOn (on_call : Calls) (m : Assignment) (p : Plan) (k : Known) (out : Out Value) : Type 0 where
  pub state : State
  pub is : out ≡ plan_means on_call m p state
  pub looks : known state ≡ k

abbrev pub PlanEnds : Calls → Assignment → Result Plan RunEnd → Known → Out Value → Type 0
PlanEnds on_call m (Ok p) k out = GoesOn on_call m p k out
PlanEnds on_call m (Err ends.Memory) k out = Unit {0}
PlanEnds on_call m (Err e) k out = Over e k out

-- from whatever state looks so
abbrev pub Plans : Calls → Assignment → Known → Result Plan RunEnd → Known → Run Value → Type 0
Plans on_call m before result after run = (s : State) → known s ≡ before → PlanEnds on_call m result after (run s)

-- a plan that is that of a run, from each state or from those that look so

abbrev pub Leads : Calls → Assignment → Run Value → Plan → Type 0
Leads on_call m run p = (s : State) → run s ≡ plan_means on_call m p s

abbrev pub LeadsFrom : Calls → Assignment → Known → Run Value → Plan → Type 0
LeadsFrom on_call m k run p = (s : State) → known s ≡ k → run s ≡ plan_means on_call m p s

-- ---- that the walk ends

-- What goes on with a value weighs more than the plan that it comes to, where that is come to without fuel.

abbrev pub value_weight : WithValue → ℕ
value_weight (with_values.AndLeft b) = 3
value_weight (with_values.OrLeft b) = 3
value_weight (with_values.LeftOperand o b) = 3
value_weight (with_values.PointerBase site i) = 3
value_weight _ = 1

abbrev pub place_weight : WithPlace → ℕ
place_weight (with_places.ArrayBase site i) = 3
place_weight (with_places.Assigned x mark) = 5
place_weight _ = 1

abbrev pub after_weight : After → ℕ
after_weight (afters.Listed kind l) = 3
after_weight (afters.Head l mark) = 9
after_weight (afters.Body n l) = 17
after_weight (afters.Step n l) = 9
after_weight _ = 1

abbrev pub weight : Rest → ℕ
weight rests.Same = 1
weight (rests.Value e w) = value_weight w
weight (rests.Place e w) = place_weight w
weight (rests.Number w) = 1
weight (rests.After w) = after_weight w

-- so does a task
abbrev pub rank : Task → ℕ
rank (tasks.Eval e) = 1
rank (tasks.PlaceOf site e) = 1
rank (tasks.Test e) = 3
rank (tasks.Argument parameters e) = 3
rank (tasks.Pointee site a) = 3
rank (tasks.Index site a i) = 5
rank (tasks.Field site a w n) = 5
rank (tasks.Right kind target x) = 3
rank (tasks.Simple x) = 7
rank (tasks.Return kind site e) = 3
rank (tasks.LoopTest e) = 5
rank (tasks.Declare l) = 5
rank (tasks.First x) = 9
rank (tasks.Entered kind a) = 19
rank (tasks.All kind l) = 1
rank (tasks.Turns n l) = 7

abbrev pub size : Plan → ℕ
size (plans.Done v) = 0
size (plans.Goes t w) = rank t + weight w
size (plans.Calls c) = 1

-- a plan of at most this size
pub record Fits (n : ℕ) (p : Plan) : Type 0 where
  pub within : size p ≤ n

-- a plan that is less than what it is come to from
pub record Starts (weight_of : ℕ) (p : Plan) : Type 0 where
  pub falls : size p < weight_of

-- likewise, or fuel was spent for it, of which one weighs more than each plan
pub record Begins (weight_of before after : ℕ) (p : Plan) : Type 0 where
  pub falls : 64 * after + size p < 64 * before + weight_of
