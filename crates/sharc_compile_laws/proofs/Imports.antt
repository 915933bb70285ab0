-- What the proofs cite of std, of other crates and of this crate's definitions, passed on from one place.
pub use Rattle.std.proofs.{Common.{Bool, List, None, Option, Some, [], ap, append_assoc, arith, bytes_eq, codes, cond, drop, eq-eqb, false, inl, inr, length, length-append, map, nat_lt, ne_eqb, not, refl, reverse, subst, suc, sym, take, true, zero, ℕ, ⊎_elim, ◌*◌, ◌++◌, ◌+◌, ◌-◌, ◌<◌, ◌==◌, ◌∙◌, ◌∷◌, ◌≡◌, ◌≤◌, ◌⊎◌}, lemmas.Bool.{cases_lt, false≢true}, lemmas.Bool.Decides.nat_tests, lemmas.List.{append-nil, get_or_past, length-map, reverse-reverse}, lemmas.List.Elements.filter-append}
pub use Rattle.std.specs.{List.AllByRecursion, Prelude.{Err, Ok, Result, filter, nat_eq, negsuc, pos, slice_get, slice_index_or, ℤ}}
pub use Rattle.sharc_lemmas.proofs.{Lists.reverse_cons, Numbers.same_test}
pub use Rattle.sharc_tree.specs.{Spans.span_of, Tree.{Arguments, Expression, First, Function, Local, Right, Simple, Statement, Statements, argument, assign, binary, block, call, cast, constant, declare, declares, does, does_call, empty, field, for, identifier, if_then, if_then_else, index, jump, malloc, no_arguments, no_statements, nothing, on_place, on_value, parentheses, return, simple, spawn, statement, unary, value, while}, declared.event.Act.Act, declared.event.SourceEvent.SourceEvent, declared.token.Site.Site, declared.token.Span.Span, declared.trap.Trap.Trap, declared.tree.declaration.Declaration.Declaration, declared.tree.declaration.Identifier.Identifier, declared.tree.expression.BinaryOperator.BinaryOperator, declared.tree.expression.BinaryOperator.TheVariants.{LogicalAnd, LogicalOr, NotEqual}, declared.tree.expression.FieldOperator.FieldOperator, declared.tree.expression.FieldOperator.TheVariants.{Arrow, Dot}, declared.tree.expression.PlaceCall.PlaceCall, declared.tree.expression.PlaceCall.TheVariants.{Free, Lock, Unlock}, declared.tree.expression.UnaryOperator.TheVariants.{Complement, Dereference, Negate, Not}, declared.tree.expression.ValueCall.ValueCall, declared.tree.expression.ValueCall.TheVariants.{Join, Print}, declared.tree.statement.Jump.Jump, declared.tree.statement.Jump.TheVariants.{Break, Continue}}
pub use Rattle.sharc_names.specs.{Kinds.{Kind, declared_kind, declared_kinds, element_kind, is_array, is_integer}, declared.fault.Named.Named}
pub use Rattle.sharc_ctype.specs.{Reaches.Spawns, Resolved.{function_at, functions_in, global_at, kind_at, named_at}, Transfers.parameters_named}
pub use Rattle.sharc_ctype_laws.specs.Laws.{HasMain, OneFunctionOfName, SpawnsThreads}
pub use Rattle.sharc_mode.specs.{Cells.{is_behind_pointer, pointed}, Moded.Assignment, Rows.{declared_row, row_at, written}, Sharings.{Lock as LockPath, Sharing, locked, private}}
pub use Rattle.sharc_meaning.specs.{Arithmetic.is_zero, Cells.{cell_of as cell_in, element_cells, field_place, field_place_named, global_elements}, Events.{events_of, held_mutexes, is_of}, Expressions.number_named, Meaning.asks, Reference.{elements_of, is_null}, Runs.{IsNamedAt, answers_of, by}, State.is_reference}
pub use Rattle.sharc_code.specs.{Arithmetic.word_of, Machine.{Machine, no_function}, Runs.{Said, said_by}, Whole.Erase, declared.code.Code.Code, declared.code.Function.{Function as Row}, declared.code.GlobalCells.GlobalCells, declared.code.Parameter.Parameter, declared.code.PlaceMode.PlaceMode, declared.code.Use.Use, declared.instr.Cell.Cell, declared.instr.Instr.Instr, declared.instr.Register.Register, declared.instr.Register.TheVariants.{Int, Reference}, declared.instr.Width.TheVariants.Char}
pub use Rattle.sharc_flat.specs.{Correct.MayStart, Flattened.{Around, IsFlattened, argument_words, arguments_code, around_body, behind_first, behind_int, behind_ref, behind_statement, behind_statements, binary_code, body_at, called_code, cast_code, compare_code, condition_code, declared_lvalue, differ_code, drop_code, either_code, elements_code, expression_code, field_code, first_code, function_code, functions_code, guard_of, in_function, initial_code, ints_of, is_ref, jump_code, kind_of, local_code, logical_code, looping, lvalue_in, mode_of, named_code, opened, passed_code, place_call_code, place_code, refs_of, result_code, return_code, right_code, rows_of, simple_code, spawn_code, statement_code, statements_code, step_code, taken_guard, target_of, test_code, truth_code, turn_code, turns_code, unlocked_code, value_call_code, wait_code, what_names, with_variable, with_words, zero_code}, Flattens.{Flattens, IsMainOf, names_of}, Machine.{At, Caller, Flat, Turn, asserts, begun, called, cell_at, end_turn, first_at, first_cell, function_of, goes, indexed, int, line_turn, lock_is_null, moved, next, op_turn, over_lines, put, ref, returned, set_int, start, stops, takes_local, with_result}, Made.flat_of, Path.{IsPath, after, at_after, may_go}, Places.{Target, base_width, beside_field, beside_named, bounds_code, cell_of, cell_store_code, cell_take_code, cell_value_code, copy_code, drop_base, field_of, global_of, guard_cell, guard_code, guard_field, has_base, in_global, in_global_at, in_object, in_object_at, index_code, index_width, lock_beside, mode_beside, mode_named, named_target, own_field, place_mode, pointee_code, settle_base, settle_code, spot_of, store_code, take_code, target, value_code, variable, width_code}, Scope.{Context, at_site, ends_from, leaves, pops, ref_count, register_of}, Suits.is_cell, Tables.globals_of, declared.flat.Flat.{Flat as FlatCode}, declared.op.Op.Op, declared.op.Spot.Spot, declared.slot.Lvalue.Lvalue, declared.slot.Slot.Slot}
pub use Rattle.sharc_flat_lemmas.{proofs.Flow.{Knowledge, agrees_all}, specs.Pieces.Agrees}
pub use Rattle.sharc_guard.specs.{Correct.Resolved, Counted.{IsBeside, LockStands, LocksStand}, Guard.{body, check_under, entered_at, expand, expanded, head, own, place, tail}, Known.dropped}
pub use Rattle.sharc_flat_laws.specs.Tables.{IsSpawned, MadeSpawns, SpawnMeets}
pub use Rattle.sharc_compile.specs.{Correct.{IsBeginning, begins}, Generated.{instr_of, program_of}, Made.IsCodeOf, OfRuns.told_in, Runs.RunsFollowSource, Source.{FollowsSource, IsOverAs}}
pub use Rattle.sharc_compile_laws.specs.{Names.{CodeHasMain, FunctionsAreNamed}, Paths.{IsAskedFor, TellsProgram}, Started.{SpawnedAreThreads, ThreadsMayStart}, Threads.{AreOfThread, IsFirstOf, OwnAreTold, TellsIn, ThreadsTell}}
