-- What statements do, and how they are left: one clause for each form.
use Rattle.std.specs.Prelude.{ℕ, ℤ, zero, suc, pos, negsuc, Bool, true, false, Option, Some, None, unsigned_abs}
use Rattle.std.specs.Prelude.{if◌then◌else◌}
use Rattle.sharc_tree.specs.declared.event.Act.TheVariants as acts
use Rattle.sharc_tree.specs.{declared.token.Site.Site, declared.tree.declaration.Declaration.Declaration}
use Rattle.sharc_tree.specs.declared.tree.statement.Jump.{Jump}
use Rattle.sharc_tree.specs.{declared.tree.statement.Jump.TheVariants.{Break, Continue}, Spans.span_of}
use Rattle.sharc_tree.specs.Tree.{Expression, Right, value, malloc, Simple, assign, does_call, Local, First, nothing}
use Rattle.sharc_tree.specs.Tree.{declares, does, Statement, empty, block, declare, simple, jump, return, if_then}
use Rattle.sharc_tree.specs.Tree.{if_then_else, while, for, Statements, no_statements, statement}
use Rattle.sharc_tree.specs.declared.trap.Trap.TheVariants as traps
use Rattle.sharc_names.specs.Kinds.{Kind, declared_kind}
use Rattle.sharc_ctype.specs.Resolved.{kind_at}
use Rattle.sharc_mode.specs.{Cells.{cell_at, pointed}, Moded.Assignment, Rows.{written, row_at, declared_row}}
use Rattle.sharc_mode.specs.Sharings.{Sharing, private}
use Rattle.sharc_meaning.specs.Cells.{element_cells, instance_mode}
use Rattle.sharc_meaning.specs.State.{spent, over, Run, Step, ◌>>=◌, ◌>>◌, give, done, unless_stop, entered, answered}
use Rattle.sharc_meaning.specs.State.{drops, temporarily, value_of, looks_at, begins_with, in_block}
use Rattle.sharc_meaning.specs.{Places.{variable, stored}, Expressions.{Calls, tested, fitting, eval, place_of}}

-- how a statement is left
pub data Flow : Type 0 where
  next : Flow
  broken : Flow
  continued : Flow
  returned : Site → ℤ → Flow

-- the other statements of a block
abbrev pub on_next : Flow → Run Flow → Run Flow
on_next next rest = rest
on_next flow rest = give flow

-- the other turns of a loop
abbrev pub on_turn : Flow → Run Flow → Run Flow
on_turn next again = again
on_turn continued again = again
on_turn broken again = give next
on_turn (returned site v) again = give (returned site v)

-- At most n turns of a loop. Each turn enters its body, so no loop performs more turns than there is fuel at its
-- beginning.
abbrev pub turns : ℕ → Run Bool → Step → Run Flow → Run Flow
turns zero test step body s = over spent s
turns (suc n) test step body s = (do
  goes_on ← test
  if goes_on then (do
    flow ← body
    on_turn flow (do
      step
      turns n test step body))
      else give next) s

abbrev pub loop : Run Bool → Step → Run Flow → Run Flow
loop test step body s = turns s.fuel test step body s

-- the number of elements of a new object, which is 1 where none is written
abbrev pub elements_made : Calls → Assignment → Option Expression → Run ℤ
elements_made on_call m None = give (pos 1)
elements_made on_call m (Some n) = eval on_call m n

abbrev pub is_positive : ℤ → Bool
is_positive (pos zero) = false
is_positive (pos (suc n)) = true
is_positive (negsuc n) = false

-- the right side of `=`, for something of this type, the target of which has this mode
abbrev pub right_value : Calls → Assignment → Kind → Sharing → Right → Run ℤ
right_value on_call m kind target (value e) = fitting kind e (eval on_call m e)
right_value on_call m kind target (malloc s n w) = entered (do
  elements ← elements_made on_call m n
  unless_stop (is_positive elements) traps.SizeNotPositive s.first
  held ← looks_at value_of
  answered s.first
      (acts.New (element_cells m.typed (declared_kind w)) (unsigned_abs elements) (instance_mode m.typed held target)))

abbrev pub done_simple : Calls → Assignment → Simple → Step
done_simple on_call m (assign s u x) = temporarily (do
  p ← place_of on_call m (span_of u).first u
  v ← right_value on_call m (kind_at m.typed u) (pointed m (row_at m.typed u)) x
  stored m.typed (span_of u).first (kind_at m.typed u) (cell_at m u) p v)
done_simple on_call m (does_call e) = do
  v ← eval on_call m e
  drops (kind_at m.typed e) v

-- a local has 0 or NULL within its own initialiser
abbrev pub initialised : Calls → Assignment → Declaration → Option Right → Step
initialised on_call m d None = done
initialised on_call m d (Some x) = do
  v ← right_value on_call m (declared_kind d.written)
      (pointed m (Some (declared_row m.typed written d.name.site.token))) x
  stored m.typed d.name.site (declared_kind d.written) private (variable d.name.site.token) v

abbrev pub declared : Calls → Assignment → Local → Step
declared on_call m l = do
  begins_with l.declaration (pos 0)
  initialised on_call m l.declaration l.initial

abbrev pub done_first : Calls → Assignment → First → Step
done_first on_call m nothing = done
done_first on_call m (declares l) = entered (declared on_call m l)
done_first on_call m (does x) = done_simple on_call m x

abbrev pub done_step : Calls → Assignment → Option Simple → Step
done_step on_call m None = done
done_step on_call m (Some x) = done_simple on_call m x

-- a `for` without a test goes on
abbrev pub done_test : Calls → Assignment → Option Expression → Run Bool
done_test on_call m None = give true
done_test on_call m (Some e) = tested m.typed e (eval on_call m e)

abbrev pub left_by : Jump → Flow
left_by Break = broken
left_by Continue = continued

-- in a function with a result of this type
abbrev pub return_with : Calls → Assignment → Kind → Site → Option Expression → Run Flow
return_with on_call m kind site None = give (returned site (pos 0))
return_with on_call m kind site (Some e) = do
  v ← fitting kind e (eval on_call m e)
  give (returned site v)

abbrev mutual
  pub exec : Calls → Assignment → Kind → Statement → Run Flow
  exec on_call m kind (empty s) = entered (give next)
  exec on_call m kind (block s all) = entered (in_block (exec_all on_call m kind all))
  exec on_call m kind (declare s l) = entered (do
    declared on_call m l
    give next)
  exec on_call m kind (simple s x) = entered (do
    done_simple on_call m x
    give next)
  exec on_call m kind (jump s j) = entered (give (left_by j))
  exec on_call m kind (return s e) = entered (return_with on_call m kind s.first e)
  exec on_call m kind (if_then s e a) = entered (do
    is_true ← tested m.typed e (eval on_call m e)
    if is_true then exec on_call m kind a else give next)
  exec on_call m kind (if_then_else s e a b) = entered (do
    is_true ← tested m.typed e (eval on_call m e)
    if is_true then exec on_call m kind a else exec on_call m kind b)
  exec on_call m kind (while s e a) = entered (loop (tested m.typed e (eval on_call m e)) done (exec on_call m kind a))
  exec on_call m kind (for s h a) = entered (in_block (do
    done_first on_call m h.first
    loop (done_test on_call m h.test) (done_step on_call m h.step) (exec on_call m kind a)))

  pub exec_all : Calls → Assignment → Kind → Statements → Run Flow
  exec_all on_call m kind no_statements = give next
  exec_all on_call m kind (statement a rest) = do
    flow ← exec on_call m kind a
    on_next flow (exec_all on_call m kind rest)
