-- What the proofs cite of std, of other crates and of this crate's definitions, passed on from one place.
pub use Rattle.std.proofs.{Common.{Bool, Contains, List, None, Option, Some, [], ap, append-nil, append_assoc, arith, cond, eq-eqb, eqb-true, false, inl, inr, length, ne_eqb, refl, subst, suc, sym, true, zero, ℕ, ◌++◌, ◌+◌, ◌<◌, ◌==◌, ◌∙◌, ◌∷◌, ◌≡◌, ◌≢◌, ◌≤◌, ◌⊎◌}, lemmas.Bool.{both_ways, cases_eq, eqb-false}}
pub use Rattle.std.specs.{Prelude.{All, Err, Ok, Result, codes, drop, nat_lt, negsuc, not, pos, slice_index_or, unsigned_abs, ℤ}, Str.bytes_eq}
pub use Rattle.sharc_lemmas.proofs.Lists.{in_list}
pub use Rattle.sharc_dataflow.specs.{Code.{Code, acts, catches, first_then, goes_to, one_of, paths, repeats}, Flow.{Act, Broken, Caught, Clear, Continued, Does, Either, Ends, From, Goes, Hits, Inside, Leaves, Loop, Next, NullingStands, Nulls, Piece, Reads, Shows, Spares, Start, Then, To, Writes, again, as_is, before, behind, done, ended, goes, leaves, left, on, through}}
pub use Rattle.sharc_tree.specs.{Spans.span_of, Tree.{Arguments, Expression, First, Function, Local, Right, Simple, Statement, Statements, argument, assign, binary, block, call, cast, constant, declare, declares, does, does_call, empty, field, for, identifier, if_then, if_then_else, index, jump, malloc, no_arguments, no_statements, on_place, on_value, parentheses, return, simple, spawn, statement, unary, value, while}, declared.event.CellMode.TheVariants.{Locked, Readonly}, declared.event.Object.Object, declared.event.Object.TheVariants.{Global, Made}, declared.event.TakeKind.TakeKind, declared.event.TakeKind.TheVariants.{Cast, Free as ToFree}, declared.event.Taken.Taken, declared.token.Site.Site, declared.token.Span.Span, declared.trap.Trap.Trap, declared.tree.declaration.Declaration.Declaration, declared.tree.expression.BinaryOperator.BinaryOperator, declared.tree.expression.BinaryOperator.TheVariants.{LogicalAnd, LogicalOr}, declared.tree.expression.FieldOperator.FieldOperator, declared.tree.expression.FieldOperator.TheVariants.{Arrow, Dot}, declared.tree.expression.PlaceCall.PlaceCall, declared.tree.expression.PlaceCall.TheVariants.{Free, Lock, Unlock}, declared.tree.expression.UnaryOperator.UnaryOperator, declared.tree.expression.UnaryOperator.TheVariants.{Complement, Dereference, Negate, Not}, declared.tree.expression.ValueCall.ValueCall, declared.tree.statement.Jump.Jump, declared.tree.statement.Jump.TheVariants.{Break, Continue}}
pub use Rattle.sharc_names.specs.{Kinds.{Kind, declared_kind, declared_kinds, element_kind, int, is_array, is_pointer, long, promoted}, declared.fault.Named.Named}
pub use Rattle.sharc_ctype.specs.{Expressions.{binary_result, class_of}, Resolved.{Resolution, called_kind, function_at, functions_in, global_at, kind_at, named_at, result_kind_of}, Transfers.parameters_named, declared.expr.OperatorClass.OperatorClass, declared.expr.OperatorClass.TheVariants.{Arithmetic, Shift}}
pub use Rattle.sharc_mode.specs.{Cells.{cell_at, pointed}, Moded.Assignment, Rows.{cast_row, declared_row, row_at, written}, Sharings.{Sharing, locked, private}}
pub use Rattle.sharc_live.specs.{Flows.{declares_flow, first_flow, flow, flow_all, function_flow, goes_on, jump_flow, local_flow, of_base, of_operand, of_operands, of_option, of_place_call, parameters_flow, place_flow, right_flow, simple_flow, statement_flow, statements_flow, test_flow, turn_flow, variable_named, variable_of}, Uses.IsUseIn}
pub use Rattle.sharc_meaning.specs.{Arithmetic.{bits_of, complement, fits, is_zero, negated, operated, truth}, Cells.{Guard, cell_of, element_cells, field_place_named, global_elements, guard_of, instance_mode, mutex, nothing}, Events.{events_of, held_mutexes, holds_mutex}, Expressions.{Calls, binary_value, called, cast_value, eval, eval_all, fitting, named_value, number_named, operand, passed, place_called, place_of, place_value, resulting, spawned, taking, tested, unary_value, value_act, value_called}, Meaning.{asked_by, asks, back_in, call_value, calls, goes_away, in_frame, left_at, parameters_begin, pointers_passed, run_function, run_thread, start, with_frame}, Places.{StorePlace, access_mode, based, cast_to, cell, element, element_of_array, fetched, field_in, field_place, freed, guarding, index_place, no_place, nulled, place_named, pointee, pointee_place, stored, taken_from, unary_place, variable}, Reference.{NULL, constant_value, elements_of, is_null, number_of}, Runs.answers_of, State.{Frame, Out, Run, State, Step, Traced, Use, answered, begins_with, drops, ends_temporaries, ends_variables, entered, enters, enters_with, give, gives_up, go, happens, holds, holds_reference, in_block, is_reference, looks_at, moves, moves_on, new_variable, nulls, over, performs, reads, reads_variable, sets, stands, stop, temporarily, then_on, traces, unless_stop, value_of, without_temporaries, writes, writes_variable, ◌>>=◌, ◌>>◌}, Statements.{Flow, broken, continued, declared, done_first, done_simple, done_step, done_test, elements_made, exec, exec_all, initialised, is_positive, left_by, loop, next, on_next, on_turn, return_with, returned, right_value, turns}, Waiting.{broadcast_call, cell_at_place, condition_call, gives_up_base, lock_call, moves_base, signal_call, unlock_call, wait_call}, declared.given.GivenUp.GivenUp, declared.given.GivenUp.TheVariants.{Emptied, Released}, declared.variable.Variable.Variable}
pub use Rattle.sharc_live_laws.specs.Traces.{SilentReadsAreSafe, SilentReadsInRunsAreSafe, Untouched, traced}
