-- Statements: each goes along its code, and is left by its exit.
use Rattle.sharc_live_laws.proofs.{Imports.{◌≡◌, ℕ, ◌<◌, false, ◌==◌, List, [], Option, Some, None, refl, ℤ, pos, unsigned_abs, Site, Declaration, Jump, Break, Continue, span_of, Expression, Right, value, malloc, Simple, assign, does_call, Local, First, declares, does, Statement, empty, block, declare, simple, jump, return, if_then, if_then_else, while, for, Statements, no_statements, statement, Trap, Kind, declared_kind, kind_at, cell_at, pointed, Assignment, written, row_at, declared_row, Sharing, private, Next, Broken, Continued, Ends, Code, goes_to, first_then, catches, goes_on, variable_of, flow, of_option, right_flow, simple_flow, declares_flow, local_flow, first_flow, turn_flow, test_flow, jump_flow, statement_flow, statements_flow, element_cells, instance_mode, State, Out, go, over, Run, then_on, ◌>>=◌, ◌>>◌, give, value_of, begins_with, variable, Calls, tested, eval, Flow, next, broken, continued, returned, on_next, elements_made, is_positive, right_value, done_simple, initialised, declared, done_first, done_step, done_test, left_by, return_with, exec, exec_all}, Ways.{way_goes, way_then, way_leaves}, Along.{Any, Reached, Along, moved_as, reached_behind, still_ready, gives, binds, then_idle, scoped, blocked}, Calm.{calm_then, idle, calm_give, calm_done, calm_unless, calm_looks, calm_answered, calm_drops}, Locals.{stored_along, begins_along, begins_alone}, Places.{either_along, one_along, other_along, entered_along, then_calm}, Values.{Runs, tested_along, fitting_along, eval_along, place_along}, Loops.{exit_of, Trying, tries_none, tries_some, loop_along}}
use Rattle.sharc_tree.specs.{declared.event.Act.Act, Tree.nothing}
use Rattle.sharc_meaning.specs.State.{done}

module _ (m : Assignment) (x : ℕ) where
  -- a run that is left by an exit
  abbrev pub Left : Code → Run Flow → Type 0
  Left c n = Along m.typed x c exit_of Any n

  -- a way on, in place of a value
  goes_next : Left goes_on (give next)
  goes_next = gives m.typed x goes_on exit_of Any next (way_goes x Next) tt

  then_next : {A : Type 0} {c : Code} {n : Run A} → Runs m x c n → Left c (n >>= λ v. give next)
  then_next h = then_idle m.typed x h (λ v k. goes_next)

  -- what comes after a statement, where it goes on
  then_on_next : (a b : Code) (first rest : Run Flow) → Left a first → Left b rest → Left (first_then a b) (first >>= λ flow. on_next flow rest)
  then_on_next a b first rest ha hb = record { from_state = λ s ready. behind s ready (first s) (ha.from_state s ready) }
    where
      behind : (s : State) → s.frame.call < s.calls → (o : Out Flow) → Reached m.typed x a exit_of Any s o → Reached m.typed x (first_then a b) exit_of Any s (then_on o (λ flow. on_next flow rest))
      behind s ready (go next t) h = reached_behind m.typed x a b (first_then a b) Next exit_of Any s t (rest t) (λ to us vs p q. way_then x a b to us vs p q) h.0 h.1 (hb.from_state t (still_ready m.typed x s t a Next ready h.0 h.1))
      behind s ready (go broken t) h = (h.0, moved_as m.typed x a (first_then a b) Broken Broken s.frame.call s.calls t.calls s.trace t.trace (λ us p. way_leaves x a b Broken us tt p) h.1, tt)
      behind s ready (go continued t) h = (h.0, moved_as m.typed x a (first_then a b) Continued Continued s.frame.call s.calls t.calls s.trace t.trace (λ us p. way_leaves x a b Continued us tt p) h.1, tt)
      behind s ready (go (returned site v) t) h = (h.0, moved_as m.typed x a (first_then a b) Ends Ends s.frame.call s.calls t.calls s.trace t.trace (λ us p. way_leaves x a b Ends us tt p) h.1, tt)
      behind s ready (over o t) h = moved_as m.typed x a (first_then a b) Ends Ends s.frame.call s.calls t.calls s.trace t.trace (λ us p. way_leaves x a b Ends us tt p) h

  jump_along : (j : Jump) → Left (jump_flow j) (give (left_by j))
  jump_along Break = gives m.typed x (goes_to Broken) exit_of Any broken (way_goes x Broken) tt
  jump_along Continue = gives m.typed x (goes_to Continued) exit_of Any continued (way_goes x Continued) tt

  module _ (is_local : (0 == x) ≡ false) (on_call : Calls) (called_quietly : (f : ℕ) (site : Site) (vs : List ℤ) → Runs m x goes_on (on_call f site vs)) where
    value_of_along : (e : Expression) → Runs m x (flow m.typed e) (eval on_call m e)
    value_of_along e = eval_along m x is_local on_call called_quietly e

    test_along : (e : Expression) → Runs m x (flow m.typed e) (tested m.typed e (eval on_call m e))
    test_along e = tested_along m x e (eval on_call m e) (flow m.typed e) (value_of_along e)

    elements_along : (n : Option Expression) → Runs m x (of_option (flow m.typed) n) (elements_made on_call m n)
    elements_along None = idle m.typed x (calm_give (pos 1))
    elements_along (Some n) = value_of_along n

    right_along : (kind : Kind) (target : Sharing) (y : Right) → Runs m x (right_flow m.typed y) (right_value on_call m kind target y)
    right_along kind target (value e) = fitting_along m x kind e (eval on_call m e) (flow m.typed e) (value_of_along e)
    right_along kind target (malloc s n w) = entered_along m.typed x (then_calm m.typed x (elements_along n) (λ elements. calm_then (calm_unless (is_positive elements) Trap.SizeNotPositive s.first) (λ k.
        calm_then (calm_looks value_of) (λ held. calm_answered s.first (Act.New (element_cells m.typed (declared_kind w)) (unsigned_abs elements) (instance_mode m.typed held target))))))

    simple_along : (y : Simple) → Runs m x (simple_flow m.typed y) (done_simple on_call m y)
    simple_along (assign s u y) = scoped m.typed x (binds m.typed x (place_along m x is_local on_call called_quietly (span_of u).first u) (λ p e.
        binds m.typed x (right_along (kind_at m.typed u) (pointed m (row_at m.typed u)) y) (λ v k. stored_along m.typed x (span_of u).first (kind_at m.typed u) (cell_at m u) p v (variable_of m.typed u) e)))
    simple_along (does_call e) = then_calm m.typed x (value_of_along e) (λ v. calm_drops (kind_at m.typed e) v)

    initialised_along : (d : Declaration) (y : Right) → Runs m x (first_then (right_flow m.typed y) (declares_flow d)) (initialised on_call m d (Some y))
    initialised_along d y = binds m.typed x (right_along (declared_kind d.written) (pointed m (Some (declared_row m.typed written d.name.site.token))) y) (λ v k.
        stored_along m.typed x d.name.site (declared_kind d.written) private (variable d.name.site.token) v (Some d.name.site.token) refl)

    with_initial : (d : Declaration) (y : Option Right) → Runs m x (first_then (declares_flow d) (first_then (of_option (right_flow m.typed) y) (declares_flow d))) (begins_with d (pos 0) >> initialised on_call m d y)
    with_initial d None = then_calm m.typed x (begins_alone m.typed x d (pos 0)) (λ k. calm_done)
    with_initial d (Some y) = binds m.typed x (begins_along m.typed x d (pos 0)) (λ k l. initialised_along d y)

    declared_along : (l : Local) → Runs m x (local_flow m.typed l) (declared on_call m l)
    declared_along l = with_initial l.declaration l.initial

    first_along : (y : First) → Runs m x (first_flow m.typed y) (done_first on_call m y)
    first_along nothing = idle m.typed x calm_done
    first_along (declares l) = entered_along m.typed x (declared_along l)
    first_along (does y) = simple_along y

    step_along : (y : Option Simple) → Runs m x (of_option (simple_flow m.typed) y) (done_step on_call m y)
    step_along None = idle m.typed x calm_done
    step_along (Some y) = simple_along y

    tries_along : (e : Option Expression) (body step : Code) → Trying m.typed x (turn_flow (test_flow m.typed e) body step) (first_then (catches body) step) (done_test on_call m e)
    tries_along None body step = tries_none m.typed x body step
    tries_along (Some e) body step = tries_some m.typed x (flow m.typed e) body step (tested m.typed e (eval on_call m e)) (test_along e)

    return_along : (kind : Kind) (site : Site) (e : Option Expression) → Left (first_then (of_option (flow m.typed) e) (goes_to Ends)) (return_with on_call m kind site e)
    return_along kind site None = gives m.typed x (first_then goes_on (goes_to Ends)) exit_of Any (returned site (pos 0)) (way_then x goes_on (goes_to Ends) Ends [] [] (way_goes x Next) (way_goes x Ends)) tt
    return_along kind site (Some e) = binds m.typed x (fitting_along m x kind e (eval on_call m e) (flow m.typed e) (value_of_along e)) (λ v k. gives m.typed x (goes_to Ends) exit_of Any (returned site v) (way_goes x Ends) tt)

    mutual
      pub exec_along : (kind : Kind) (a : Statement) → Left (statement_flow m.typed a) (exec on_call m kind a)
      exec_along kind (empty s) = entered_along m.typed x goes_next
      exec_along kind (block s all) = entered_along m.typed x (blocked m.typed x (exec_all_along kind all))
      exec_along kind (declare s l) = entered_along m.typed x (then_next (declared_along l))
      exec_along kind (simple s y) = entered_along m.typed x (then_next (simple_along y))
      exec_along kind (jump s j) = entered_along m.typed x (jump_along j)
      exec_along kind (return s e) = entered_along m.typed x (return_along kind s.first e)
      exec_along kind (if_then s e a) = entered_along m.typed x (binds m.typed x (test_along e) (λ is_true k. either_along m.typed x is_true
          (one_along m.typed x goes_on (exec_along kind a)) (other_along m.typed x (statement_flow m.typed a) goes_next)))
      exec_along kind (if_then_else s e a b) = entered_along m.typed x (binds m.typed x (test_along e) (λ is_true k. either_along m.typed x is_true
          (one_along m.typed x (statement_flow m.typed b) (exec_along kind a)) (other_along m.typed x (statement_flow m.typed a) (exec_along kind b))))
      exec_along kind (while s e a) = entered_along m.typed x (loop_along m.typed x (turn_flow (Some (flow m.typed e)) (statement_flow m.typed a) goes_on) (statement_flow m.typed a) goes_on
          (tested m.typed e (eval on_call m e)) done (exec on_call m kind a) (tries_along (Some e) (statement_flow m.typed a) goes_on) (exec_along kind a) (idle m.typed x calm_done))
      exec_along kind (for s h a) = entered_along m.typed x (blocked m.typed x (binds m.typed x (first_along h.first) (λ v k.
          loop_along m.typed x (turn_flow (test_flow m.typed h.test) (statement_flow m.typed a) (of_option (simple_flow m.typed) h.step)) (statement_flow m.typed a) (of_option (simple_flow m.typed) h.step)
          (done_test on_call m h.test) (done_step on_call m h.step) (exec on_call m kind a)
          (tries_along h.test (statement_flow m.typed a) (of_option (simple_flow m.typed) h.step)) (exec_along kind a) (step_along h.step))))

      pub exec_all_along : (kind : Kind) (all : Statements) → Left (statements_flow m.typed all) (exec_all on_call m kind all)
      exec_all_along kind no_statements = goes_next
      exec_all_along kind (statement a rest) = then_on_next (statement_flow m.typed a) (statements_flow m.typed rest) (exec on_call m kind a) (exec_all on_call m kind rest) (exec_along kind a) (exec_all_along kind rest)
