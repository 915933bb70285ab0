-- What the proofs cite of std, of other crates and of this crate's definitions, passed on from one place.
pub use Rattle.std.proofs.{Common.{Bool, Err, FitsSigned, List, None, Ok, Result, Some, [], ap, append-nil, arith, bytes_eq, codes, cond, false, length, nat_lt, neg_ℤ, negsuc, not, of_z, refl, rules, slice_index_or, slice_set, subst, suc, sym, take, to_z, to_z-of_z, true, w64, zero, ℕ, ◌%◌, ◌*ℤ◌, ◌*◌, ◌++◌, ◌+◌, ◌-◌, ◌/◌, ◌<◌, ◌^◌, ◌||◌, ◌∙◌, ◌∷◌, ◌≡◌, ◌≤◌}, Math.IntN.{negsuc-*ℤ-pos, pos-*ℤ-pos}, Math.Nat.{mod-eq_of_lt, mul_assoc}, Math.Pow.pow-lt, lemmas.Bool.{lt-ltb, ne_eqb}, lemmas.Bool.Decides.nat_tests, lemmas.Grind.flat_map-append, lemmas.List.{append_assoc, reverse-append, take_all}, lemmas.Nat.{pow-add, pow_pos}, lemmas.Result.{IfOk-weaker, err_from_is_err_and}}
pub use Rattle.std.specs.{Borrow.Bor, List.list_any, Option.option_map, Prelude.{IfOk, Option, count_by, drop, filter, flat_map, if◌then◌else◌, pos, reverse, unsigned_abs, ℤ, ◌==◌}}
pub use Rattle.sharc_lemmas.proofs.{Bools.{or_false as or_none}, Numbers.{grown, neg_times, not_below2 as not_below}}
pub use Rattle.sharc_tree.specs.{Children.{view_block, view_call}, Spans.span_of, Traps.trap_number, Tree.{Arguments, Expression, Function, Right, Statement, argument, assign, binary, block, call, cast, declare, does_call, empty, field, for, identifier, if_then, if_then_else, index, jump, malloc, no_arguments, on_place, return, simple, spawn, unary, while}, View.{view_arguments, view_expr, view_first, view_function, view_head, view_local, view_option, view_right, view_simple, view_statements, view_stmt}, declared.event.Act.Act, declared.event.Act.TheVariants.{Lock, Unlock}, declared.event.CellAt.CellAt, declared.event.CellMode.CellMode, declared.event.SourceEvent.SourceEvent, declared.event.TakeKind.TheVariants.{Cast, Free as ToFree}, declared.token.Site.Site, declared.token.Span.Span, declared.trap.Trap.Trap, declared.tree.declaration.Declaration.Declaration, declared.tree.declaration.Identifier.Identifier, declared.tree.declaration.WrittenType.WrittenType, declared.tree.expression.BinaryOperator.BinaryOperator, declared.tree.expression.BinaryOperator.TheVariants.{Add, LogicalAnd, LogicalOr}, declared.tree.expression.Expr.Expr, declared.tree.expression.FieldOperator.TheVariants.Arrow, declared.tree.expression.PlaceCall.PlaceCall, declared.tree.expression.PlaceCall.TheVariants.Free, declared.tree.expression.UnaryOperator.UnaryOperator, declared.tree.expression.UnaryOperator.TheVariants.{Dereference, Negate}, declared.tree.statement.Stmt.Stmt}
pub use Rattle.sharc_names.specs.{Kinds.{Kind, declared_kind, declared_kinds, is_pointer, promoted}, View.view_kind, declared.fault.Named.Named}
pub use Rattle.sharc_ctype.specs.{Expressions.{binary_result, class_of}, Resolved.{Resolution, function_at, kind_at, named_at}, Transfers.parameters_named}
pub use Rattle.sharc_mode.specs.{Cells.{cell_at, pointed}, Moded.Assignment, Rows.{cast_row, declared_row, row_at, written}, Sharings.{Sharing, private}, View.view_sharing}
pub use Rattle.sharc_meaning.specs.{Arithmetic.{bits_of, fits, in_range, negated, truth}, Cells.{element_cells, field_place_named, instance_mode}, Events.{held_mutexes, holds_mutex, is_cell, locked_by, same_cell, unless_unlocked, unlocked_by, unlocks}, Expressions.{Calls, binary_value, called, cast_value, eval, eval_all, fitting, named_value, number_named, operand, passed, place_called, place_of, place_value, resulting, spawned, tested, unary_value, value_act, value_called}, Meaning.{asked_by, back_in, call_value, calls, goes_away, in_frame, left_at, parameters_begin, pointers_passed, run_function, run_thread, start, with_frame}, Places.{StorePlace, based, cast_to, field_in, field_place, freed, index_place, pointee, pointee_place, stored, taken_from, variable}, Reference.{NULL, is_null}, State.{Frame, Out, Outcome, Run, State, Step, answer_of, answered, begins_with, done, drops, ends_temporaries, ends_variables, enters, enters_with, event_of, give, go, happens, held_by_frame, held_references, holds, in_block, looks_at, moves, over, performs, pointers_among, then_on, unless_stop, value_in, value_of, with_value, without_temporaries, ◌>>=◌, ◌>>◌}, Statements.{Flow, declared, done_first, done_simple, done_step, done_test, exec, exec_all, initialised, is_positive, loop, next, return_with, returned, right_value, turns}, Waiting.{broadcast_call, cell_at_place, condition_call, lock_call, moves_base, signal_call, unlock_call, wait_call}, declared.given.GivenUp.GivenUp, declared.variable.Variable.Variable}
pub use Rattle.sharc_ask.specs.{Held.all_held, Plans.{Begins, Fits, Leads, LeadsFrom, PlanEnds, Plans, Starts, after_means, and_with, assigned_to, behind_pointer, chosen_done, element_behind, element_in, ends_above, ends_block, free_unless_null, inside, inverted_with, joined_with, left_body, left_with, number_means, or_with, others_done, place_means, plan_means, rest_means, returned_with, size, spawned_with, step_then, task_means, test_then, tested_done, truth_with, turns_of, value_means, value_weight, zero_behind}, Stack.{AreBehind, Behind, Comes, GoesOnWith, IsBehind, IsCaller, Moves, Reached, StepEnds, Steps, all_behind, at_means, awaits, comes_back, load, stack_of, with_rest}, StepView.{Does, DoesAs, Ends, EndsAs, Known, Over, Went, held_after, held_below, known, view_place, view_state}, Values.{Value, as_left, as_nothing, flow, flow_in, gives, number, number_in, place, place_in, test, test_in, view_value}, View.{Tells, WasKept, binary_by, body_of_loop, calling, joined, leaves, logic_of, loop_body, loop_test, made, number_left, other_done, place_fetched, step_of_loop, temporaries_ended, test_of_loop, told, variables_ended, view_flow, view_otherwise, view_step, view_test}, Waking.{stops_unless_held, stops_where_held, waits}, Width.value_bits, declared.arithmetic.Width.Width, declared.arithmetic.Width.TheVariants.{Char, Int, Long}, declared.asked.Asked.{Asked as RustAsked}, declared.asked.Outcome.TheVariants.{StoppedX, Wants}, declared.plan.After.After, declared.plan.Call.Call, declared.plan.Loop.Loop, declared.plan.Plan.Plan, declared.plan.Rest.Rest, declared.plan.Task.Task, declared.plan.Value.{Value as RustValue}, declared.plan.WithValue.WithValue, declared.stack.At.At, declared.stack.Caller.Caller, declared.stack.Later.Later, declared.stack.Left.Left, declared.stack.PendingCall.PendingCall, declared.state.RunEnd.RunEnd, declared.values.Flow.{Flow as RustFlow}, declared.walk.Stepped.Stepped}
