-- What the proofs cite of std, of other crates and of this crate's definitions, passed on from one place.
pub use Rattle.std.proofs.{Common.{Bool, List, None, Option, Some, [], ap, append-nil, append_assoc, arith, cond, drop, false, get_or, if◌then◌else◌, inl, inr, length, length-append, map, refl, subst, suc, sym, true, zero, ℕ, ◌&&◌, ◌++◌, ◌+◌, ◌-◌, ◌<◌, ◌∙◌, ◌∷◌, ◌≡◌, ◌≤◌, ◌⊎◌}, lemmas.Bool.both_ways, lemmas.Bool.Decides.nat_tests}
pub use Rattle.std.specs.{List.AllByRecursion, Prelude.{Err, Ok, Result, codes, nat_lt, negsuc, not, pos, reverse, slice_index_or, unsigned_abs, ℤ, ◌==◌, ◌≢◌}, Str.bytes_eq}
pub use Rattle.sharc_lemmas.proofs.{Lists.{map_both, map_length, pick}, Numbers.{same_number as same_thread}}
pub use Rattle.sharc_tree.specs.{Spans.span_of, Tree.{Arguments, Expression, First, Function, Local, Right, Simple, Statement, Statements, argument, assign, binary, block, call, cast, constant, declare, declares, does, does_call, empty, field, for, identifier, if_then, if_then_else, index, jump, malloc, no_arguments, no_statements, nothing, on_place, on_value, parentheses, return, simple, spawn, statement, unary, value, while}, declared.ctype.Mode.Mode, declared.event.Act.Act, declared.event.CellAt.CellAt, declared.event.CellMode.CellMode, declared.event.CellMode.TheVariants.{Locked, Readonly}, declared.event.Object.Object, declared.event.Object.TheVariants.{Global, Made}, declared.event.SourceEvent.SourceEvent, declared.event.TakeKind.TakeKind, declared.event.TakeKind.TheVariants.{Cast, Free as ToFree}, declared.event.Taken.Taken, declared.token.Site.Site, declared.token.Span.Span, declared.trap.Trap.Trap, declared.tree.declaration.Declaration.Declaration, declared.tree.expression.BinaryOperator.BinaryOperator, declared.tree.expression.BinaryOperator.TheVariants.{LogicalAnd, LogicalOr}, declared.tree.expression.FieldOperator.FieldOperator, declared.tree.expression.FieldOperator.TheVariants.{Arrow, Dot}, declared.tree.expression.PlaceCall.PlaceCall, declared.tree.expression.PlaceCall.TheVariants.{Free, Lock, Unlock}, declared.tree.expression.UnaryOperator.UnaryOperator, declared.tree.expression.UnaryOperator.TheVariants.{Complement, Dereference, Negate, Not}, declared.tree.expression.ValueCall.ValueCall, declared.tree.expression.ValueCall.TheVariants.{Join, Print}, declared.tree.item.GlobalDefinition.GlobalDefinition}
pub use Rattle.sharc_names.specs.{Kinds.{Kind, declared_kind, declared_kinds, element_kind, is_array, is_pointer, promoted}, declared.fault.Named.Named}
pub use Rattle.sharc_ctype.specs.{Entities.entity_at, Expressions.{binary_result, class_of}, Resolved.{Resolution, function_at, global_at, kind_at, named_at}, Transfers.parameters_named, declared.entity.Numbered.Numbered}
pub use Rattle.sharc_mode.specs.{Cells.{cell_at, field_named, first_mode, global_cell, instance, named_cell, pointed, unary_cell}, Moded.Assignment, Rows.{Targets, cast_row, declared_row, row_at, written}, Sharings.{Sharing, locked, private}, declared.position.Reason.Reason}
pub use Rattle.sharc_meaning.specs.{Arithmetic.{bits_of, complement, fits, is_zero, negated, operated, truth}, Cells.{Guard, behind, cell_of, element_cells, guard_of, instance_mode, mutex, nothing as no_mutex}, Events.{Stands, events_of, held_mutexes, holds_mutex, is_of}, Expressions.{Calls, binary_value, called, cast_value, eval, eval_all, fitting, named_value, number_named, operand, passed, place_called, place_of, place_value, resulting, spawned, taking, tested, unary_value, value_act, value_called}, Frees.{EmptiedWereTaken, FreesFollow, FreesFollowIn, WasTaken, takes_something}, Laws.{AskedFor, Comes, GoesOn, IsAnswer, IsNext, IsPrefix, LastAsked, ModesAlone, MoreAnswers, MoreAnswersChangeNothing, MoreFuel, MoreFuelChangesNothing, MoreIsGivenUp, Next, NoMoreThanAnswers, ObeyingPrefixes, OneAnswerMore, PrefixesAreLegal, ReferencesAtRest, ReferencesFromSomeFuel, RunPrefixes, RunPrefixesWith, RunsGrow, RunsGrowWith, RunsStart, SameModes, SpentIsNone, Starts, StoresGrow, WantsBehindAnswers}, Meaning.{Asked, asked_at, asked_by, asks, back_in, call_value, calls, goes_away, in_frame, left_at, parameters_begin, run_function, run_thread, start, with_frame}, Places.{StorePlace, access_mode, based, cast_to, cell, element, element_of_array, fetched, field_place, freed, guarding, index_place, no_place, nulled, place_named, pointee, pointee_place, stored, taken_from, unary_place, variable}, Reference.{NULL, constant_value, elements_of, is_null, number_of}, References.{Begun, ThreadHolds, ThreadHoldsWith, asked_with, held_count, in_thread, taken_to_free}, Runs.{Follows, IsFirst, IsNamedAt, IsSpawned, SourceRun, SourceRunWith, answers_of, by}, State.{Frame, Out, Outcome, Run, State, Step, Traced, Use, all_released, answer_of, answered, begins_with, done, drops, ended, ends_temporaries, ends_variables, entered, enters_with, event_of, give, gives_up, go, happens, held_by_frame, held_references, holds, holds_reference, in_block, is_reference, looks_at, moves, moves_on, new_variable, nulls, over, performs, pointers_among, reads_variable, sets, spent, stop, temporarily, then_on, traces, unless_stop, value_of, wants, with_temporary, with_value, without_temporaries, writes, writes_variable, ◌>>=◌, ◌>>◌}, Statements.{Flow, broken, declared, done_first, done_simple, done_step, done_test, elements_made, exec, exec_all, initialised, is_positive, left_by, loop, next, on_next, on_turn, return_with, returned, right_value, turns}, Store.MayCome, Waiting.{broadcast_call, cell_at_place, condition_call, gives_up_base, lock_call, moves_base, signal_call, unlock_call, wait_call}, declared.given.GivenUp.GivenUp, declared.given.GivenUp.TheVariants.{Emptied, Released, Replaced}}
