-- What the proofs cite of std, of other crates and of this crate's definitions, passed on from one place.
pub use Rattle.std.proofs.{Common.{Bool, List, None, Option, Some, [], ap, append_assoc, arith, cond, drop, false, get_or, inl, inr, length, length-append, map, max, refl, subst, suc, sym, take, true, zero, ℕ, ⊎_elim, ◌*◌, ◌++◌, ◌+◌, ◌-◌, ◌/◌, ◌<◌, ◌^◌, ◌∙◌, ◌∷◌, ◌≡◌, ◌≤◌, rules}, Math.Seq.get_or-append_seam, lemmas.Bool.{cases_eq, cases_lt}, lemmas.Bool.Decides.nat_tests, lemmas.List.{append-nil, drop_at, flat_map_more, get_or-append-add, get_or-set_other, get_or-set_same, get_or_append_left, get_or_at, get_or_past, length-map, map-append, set-append_left, set-append_right, set_at, take-append-drop, take-map, take_at}, lemmas.List.Sums.sum_by-cons, lemmas.Option.{slice_get-get_or, slice_get_past}}
pub use Rattle.std.specs.{Prelude.{Err, Ok, Result, codes, count_by, flat_map, fold, if◌then◌else◌, int_div, int_le, int_lt, nat_le, nat_lt, neg_ℤ, negsuc, not, pos, reverse, set, slice_get, unsigned_abs, ℤ, ◌&&◌, ◌==◌, ◌||◌, ◌≢◌, ◌⊎◌}, Str.bytes_eq}
pub use mathlib.Core.List.{reverse-cons}
pub use Rattle.sharc_lemmas.proofs.{Bools.or_false, Lists.{front_got, there_is as inside_list}, Numbers.{eqb_other, half, same_is as eqb_same}, Options.{none_some, same_some, some_is as same_mutex}}
pub use Rattle.sharc_tree.specs.{Spans.span_of, Tree.{Arguments, Expression, First, Function, Local, Right, Simple, Statement, Statements, argument, assign, binary, block, call, cast, constant, declare, declares, does, does_call, empty, field, for, identifier, if_then, if_then_else, index, jump, malloc, no_arguments, no_statements, nothing, on_place, on_value, parentheses, return, simple, spawn, statement, unary, value, while}, declared.ctype.Base.Base, declared.event.Act.Act, declared.event.CellAt.CellAt, declared.event.CellMode.CellMode, declared.event.Object.Object, declared.event.Object.TheVariants.{Global, Made}, declared.event.SourceEvent.SourceEvent, declared.event.TakeKind.TakeKind, declared.event.Taken.Taken, declared.token.NumberType.NumberType, declared.token.Site.Site, declared.token.Span.Span, declared.trap.Trap.Trap, declared.tree.declaration.Declaration.Declaration, declared.tree.declaration.Identifier.Identifier, declared.tree.declaration.WrittenType.WrittenType, declared.tree.expression.BinaryOperator.BinaryOperator, declared.tree.expression.BinaryOperator.TheVariants.{Add, Divide, Equal, Greater, GreaterOrEqual, Less, LessOrEqual, LogicalAnd, LogicalOr, Multiply, NotEqual, Remainder, ShiftLeft, ShiftRight, Subtract}, declared.tree.expression.Constant.Constant, declared.tree.expression.Constant.TheVariants.{Character, Null, Number}, declared.tree.expression.FieldOperator.FieldOperator, declared.tree.expression.FieldOperator.TheVariants.{Arrow, Dot}, declared.tree.expression.PlaceCall.PlaceCall, declared.tree.expression.PlaceCall.TheVariants.{Free, Lock, Unlock}, declared.tree.expression.UnaryOperator.UnaryOperator, declared.tree.expression.UnaryOperator.TheVariants.{Complement, Dereference, Negate, Not}, declared.tree.expression.ValueCall.ValueCall, declared.tree.expression.ValueCall.TheVariants.{Join, Print}, declared.tree.item.GlobalDefinition.GlobalDefinition, declared.tree.statement.Jump.Jump, declared.tree.statement.Jump.TheVariants.{Break, Continue}}
pub use Rattle.sharc_names.specs.{Kinds.{Kind, array, common, declared_kind, declared_kinds, element_kind, int, is_array, is_integer, is_integral, is_long, is_pointer, long, null, object, promoted}, declared.fault.Named.Named}
pub use Rattle.sharc_ctype.specs.{Expressions.{binary_result, class_of, constant_kind, number_kind}, Resolved.{Resolution, function_at, functions_in, global_at, globals_in, kind_at, named_at, structs_in}, Transfers.{parameters_named, parameters_of}, declared.expr.OperatorClass.OperatorClass, declared.expr.OperatorClass.TheVariants.{Arithmetic, Shift}}
pub use Rattle.sharc_mode.specs.{Cells.{cell_at as mode_in, is_behind_pointer, pointed}, Moded.Assignment, Rows.{cast_row, declared_row, row_at, written}, Sharings.{Sharing, dynamic, locked, private, racy, readonly}}
pub use Rattle.sharc_meaning.specs.{Arithmetic.{bits_of, bits_of_base, complement, divided, fits, in_range, is_equal, is_held_by, is_zero, operated, shifted, truth}, Cells.{behind, cell_of, element_cells, field_place, field_place_behind, field_place_named, global_elements, guard_beside, guard_by, guard_named, instance_mode, mutex_named, through}, Events.{held_mutexes, holds_mutex}, Expressions.{Calls, binary_value, called, cast_value, eval, eval_all, fitting, named_value, number_named, operand, passed, place_called, place_of, place_value, resulting, spawned, taking, tested, unary_value, value_called}, Laws.SpentIsNone, Meaning.{Asked, asks as source_asks, back_in, call_value, calls, goes_away, left_at, no_frame, parameters_begin, pointers_passed, run_function, run_thread, start as source_start, with_frame}, Places.{StorePlace, access_mode, based, cast_to, cell, element, element_of_array, fetched, field_in, freed, guarding, index_place, nulled, place_named, pointee, pointee_place, stored, taken_from, variable}, Reference.{NULL, constant_value, elements_of, is_null, number_of}, State.{Frame, Out, Outcome, Run, State, Step, all_released, answer_of, answered, begins_with, done, drops, ended, ends_temporaries, ends_variables, entered, enters_with, event_of, give, gives_up, go, happens, held_by_frame, held_references, holds, holds_reference, in_block, is_reference, looks_at, moves, moves_on, new_variable, nulls, over, performs, pointers_among, reads, reads_variable, spent, stop, stopped, temporarily, then_on, unless_stop, value_in, value_of, wants, with_temporary, with_value, without_temporaries, writes, ◌>>=◌, ◌>>◌}, Statements.{Flow, broken, continued, declared, done_first, done_simple, done_step, done_test, exec_all, initialised, is_positive, left_by, loop, next, on_next, returned, right_value, turns}, Waiting.{broadcast_call, cell_at_place, gives_up_base, lock_call, moves_base, signal_call, unlock_call, wait_call}, declared.given.GivenUp.GivenUp, declared.given.GivenUp.TheVariants.{Emptied, Released, Replaced}, declared.variable.Variable.Variable}
pub use Rattle.sharc_code.specs.{Arithmetic.{computed, negated, word_of}, Machine.{elements_of as elements_made, no_function}, Path.{most_ints, most_refs}, Says.no_global, declared.code.Function.{Function as Row}, declared.code.GlobalCells.GlobalCells, declared.code.Parameter.Parameter, declared.code.PlaceMode.PlaceMode, declared.code.PlaceMode.TheVariants.{Dynamic, LockedGlobal, LockedLoaded, LockedSibling, LockedThrough, Private, Racy, Readonly}, declared.code.Text.Text, declared.code.Use.Use, declared.code.Use.TheVariants.Other, declared.instr.Cell.Cell, declared.instr.Register.Register, declared.instr.Register.TheVariants.{Int, Reference}, declared.instr.Width.Width}
pub use Rattle.sharc_flat.specs.{Correct.{AsksTheSame, Back, Forth, MayStart, ProgramSuits, SameAs}, Flattened.{AreRows, Around, IsFlattened, IsRow, argument_words, arguments_code, around_body, behind_first, behind_int, behind_ref, behind_statement, behind_statements, binary_code, body_at, called_code, cast_code, choice_code, compare_code, condition_code, constant_code, declared_lvalue, differ_code, drop_code, either_code, elements_code, expression_code, field_code, first_cell_of, first_code, flattened, function_code, functions_code, guard_of, if_code, in_function, initial_code, ints_of, is_ref, jump_code, kind_of, layout_of, local_code, logical_code, loop_code, looping, lvalue_code, lvalue_in, mode_of, named_code, opened, operator_of, parameter_of, parameters_scope, passed_code, place_call_code, place_code, refs_of, result_code, return_code, right_code, row_of, rows_of, sides_code, simple_code, spawn_code, statement_code, statements_code, step_code, taken_guard, target_of, test_code, truth_code, turn_code, turns_code, unary_code, unary_place_code, unlocked_code, value_call_code, wait_code, what_names, with_variable, with_words, zero_code}, Flattens.{Flattens, names_of}, Framed.{BaseWithin, HandedWithin, HasParameter, InLine, IsFlat, IsFramed, IsFramedAt, IsInGlobal, IsWide, Leads, OpLeads, OpWrites}, Frames.{base_need, handed_need, int_need, ints_in, ref_need, refs_in}, Laid.{AreNamed, IsNamed}, Laws.{FitsFrames, FitsMade, GlobalsLieApart}, Machine.{At, Caller, Came, Flat, Turn, accessed, accesses, asks, asserts, base_of, begun, called as called_at, cell_at, cell_mode_of, end_turn, exec, first_at, first_cell, function_of, gives_up as also, global_cell, goes, goes_on, halts, handed, indexed, instance_mode as mode_of_object, is_of_null, line_turn, lock_is_null, moved, next as on, on_answer, on_turn, op_turn, over_lines, put, ref, set_int, set_ref, start, stops, take_kind_of, takes_local, turn, variable_of, with_event, with_result, without_base}, Made.flat_of, Path.{IsPath, PathsAreRuns, after, asked, asked_by, at_after, may_go}, Places.{Target, base_as_width, base_width, beside_field, bounds_code, cell_store_code, cell_take_code, cell_value_code, copy_code, drop_base, field_of, global_of, guard_cell, guard_code, guard_field, guard_width, has_base, in_global, in_global_at, in_object, in_object_at, index_code, index_width, lock_beside, lvalue_of, mode_beside, mode_named, object_mode, object_mode_named, object_spot, own_field, place_mode, pointee_code, settle_base, settle_code, spot_of, store_code, take_code, take_use, target, value_code, width_code, width_of}, Scope.{Context, at_site, at_words, ends_from, int_count, leaves, no_text, number_in, pops, ref_count, register_from, register_of, slot_kind, slot_of, tokens_in}, Suits.{ArgumentsSuit, CallSuits, CountSuits, Either, FieldSuits, FirstSuits, HandsOn, IfThere, InitialSuits, LeftSuits, NameSuits, OperandsSuit, PathNamed, PathStands, PlaceSuits, ReferencesSuit, RightSuits, SimpleSuits, StatementSuits, StatementsSuit, Suits, TakeSuits, TestSuits, behind_declaration, in_first, in_statement, is_cell, is_declaration, kind_in}, Tables.{cells_in, globals_from, globals_of, granules_in}, declared.flat.Flat.{Flat as FlatCode}, declared.op.Op.Op, declared.op.Spot.Spot, declared.slot.Lvalue.Lvalue, declared.slot.Slot.Slot}
