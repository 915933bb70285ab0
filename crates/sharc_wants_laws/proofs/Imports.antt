-- What the proofs cite of std, of other crates and of this crate's definitions, passed on from one place.
pub use Rattle.std.proofs.{Common.{Bool, Err, List, None, Ok, Option, Result, Some, [], ap, append-nil, append_assoc, arith, cond, count_by, drop, eq-eqb, eqb-true, false, flat_map, get_or, if◌then◌else◌, inl, inr, length, length-append, lt-ltb, ltb-false, ltb-true, map, nat_lt, negsuc, not, pos, refl, replicate, slice_get, subst, suc, sym, take, take-append-drop, take_at, true, unsigned_abs, zero, ℕ, ℤ, ⊎_elim, ◌&&◌, ◌*◌, ◌++◌, ◌+◌, ◌-◌, ◌/◌, ◌<◌, ◌==◌, ◌^◌, ◌||◌, ◌∙◌, ◌∷◌, ◌≡◌, ◌≢◌, ◌≤◌, ◌⊎◌}, lemmas.Bool.{and_parts, both_ways, cases_Bool, cases_eq, cases_lt, false_from_ne_true as other_register, false≢true, or_cases, or_left, or_parts, or_right, true≢false}, lemmas.Bool.Decides.nat_tests, lemmas.List.{get_or-set_other, length-map, map-append, reverse-append, reverse-reverse}, lemmas.List.Concat.flat_map-append, lemmas.List.Elements.{Contains-append_right, filter-append}, lemmas.List.Folds.list_any-append, lemmas.List.Recursion.is_sum_by, lemmas.List.Sums.{sum_by-append, sum_by-cons}}
pub use Rattle.std.specs.{List.{AllByRecursion, list_any}, Prelude.{Any, Contains, IfSome, IsSomeAnd, IsTrue, codes, filter, find, nat_eq, option_to_list, reverse, slice_index, slice_set}, Str.bytes_eq}
pub use mathlib.Core.List.{reverse-cons}
pub use Rattle.sharc_lemmas.proofs.{Bools.{no, not_true as no_null, or_false, or_first as no_struct, yes}, Lists.{all_null as zero_at, at_place, back, front, reverse_cons, set_null as set_none}, Numbers.{ne_eq, ne_zero as not_zero, same_test, some_star}}
pub use Rattle.sharc_tree.specs.{Forms.is_lvalue, Low.IsLow, Measures.{expressions, in_first, in_head, in_local, in_option, in_right, in_simple, in_statement, in_statements}, Placed.IsPlaced, Spans.span_of, Tree.{Arguments, Expression, First, Function, Local, Right, Simple, Statement, Statements, argument, assign, binary, block, call, cast, constant, declare, declares, does, does_call, empty, field, for, identifier, if_then, if_then_else, index, jump, malloc, no_arguments, no_statements, nothing, on_place, on_value, parentheses, return, simple, spawn, statement, unary, value, while}, declared.ctype.Base.Base, declared.event.Act.Act, declared.event.Act.TheVariants.{Freed, Give, Spawn, Started}, declared.event.CellAt.CellAt, declared.event.CellMode.CellMode, declared.event.CellMode.TheVariants.{Locked, Readonly}, declared.event.Object.Object, declared.event.Object.TheVariants.{Global as GlobalNumber, Made}, declared.event.SourceEvent.SourceEvent, declared.event.TakeKind.TakeKind, declared.event.TakeKind.TheVariants.{Cast, Free as ToFree}, declared.event.Taken.Taken, declared.token.NumberType.NumberType, declared.token.Site.Site, declared.token.Span.Span, declared.trap.Trap.Trap, declared.tree.declaration.Declaration.Declaration, declared.tree.declaration.Identifier.Identifier, declared.tree.declaration.WrittenType.WrittenType, declared.tree.expression.BinaryOperator.BinaryOperator, declared.tree.expression.BinaryOperator.TheVariants.{LogicalAnd, LogicalOr}, declared.tree.expression.Constant.Constant, declared.tree.expression.FieldOperator.FieldOperator, declared.tree.expression.FieldOperator.TheVariants.{Arrow, Dot}, declared.tree.expression.PlaceCall.PlaceCall, declared.tree.expression.PlaceCall.TheVariants.{Lock, Unlock}, declared.tree.expression.UnaryOperator.UnaryOperator, declared.tree.expression.UnaryOperator.TheVariants.{Dereference, Not}, declared.tree.expression.ValueCall.ValueCall, declared.tree.expression.ValueCall.TheVariants.{Join, Print}, declared.tree.item.GlobalForm.GlobalForm, declared.tree.statement.Jump.Jump, declared.tree.statement.Jump.TheVariants.{Break, Continue}}
pub use Rattle.sharc_names.specs.{Kinds.{Kind, array, declared_kind, declared_kinds, element_kind, is_array, is_integer, is_pointer, is_struct_base, is_struct_behind, object, promoted}, declared.fault.Named.Named}
pub use Rattle.sharc_ctype.specs.{Expressions.{binary_result, class_of, constant_kind, number_kind}, Reaches.Spawns, Resolved.{IsResolved, Resolution, declaration_at, function_at, functions_in, global_at, kind_at, named_at, variable_kind}, Statements.{first_locals, locals_in, locals_in_all}, Transfers.parameters_named}
pub use Rattle.sharc_ctype_laws.specs.{Constraints.{Assignable, Callee, Common, HasType, HaveTypes, IsInteger, IsPointer, a_call, a_cast, a_constant, a_field, a_field_behind, a_function, a_global, a_variable, arithmetic, both_shorter, complemented, denied, element_of_array, element_of_pointer, equated, in_parentheses, integer, joined, negated, none_left, null_pointer, of_conditions, of_program, one_more, pointed_to, pointer, printed_or_joined, related, shifted, spawned, unlocked}, Declared.{IsItself, NameThemselves}, Laws.{ArePlain, EachNamesItself, MeetsConstraints, MeetsStatements, OneType}, Rules.{AllMeet, IsHeld, Meets, MeetsFirst, MeetsRules, MeetsSimple}}
pub use Rattle.sharc_mode.specs.{Cells.{cell_at, pointed}, Moded.Assignment, Rows.{cast_row, declared_row, row_at, written}, Sharings.{Sharing, locked, private}}
pub use Rattle.sharc_meaning.specs.{Arithmetic.{bits_of, complement, fits, is_zero, negated as negative, operated, truth}, Cells.{Guard, behind, cell_of, element_cells, global_elements, guard_of, instance_mode, mutex, nothing as no_mutex, through}, Events.{Access, Stands, access_by, events_of, freed_by, frees, held_mutexes, holds_mutex, is_number, is_of, latest, makes}, Expressions.{Calls, binary_value, called, cast_value, eval, eval_all, fitting, named_value, number_named, operand, passed, place_called, place_of, place_value, resulting, spawned as spawning, taking, tested, value_act, value_called}, Frees.{EmptiedWereTaken, EmptiesAtNext, FreesFollow, FreesFollowIn, takes_something}, Laws.AskLaws, Meaning.{Asked, asked_by, back_in, call_value, calls, goes_away, left_at, parameters_begin, pointers_passed, run_function, run_thread, with_frame}, Obeys.History, Places.{StorePlace, access_mode, based, cast_to, cell, element, element_of_array as element_in, fetched, field_in, freed, guarding, index_place, nulled, place_named, pointee, pointee_place, stored, taken_from, variable}, Reference.{NULL, constant_value, elements_of, is_null, number_of}, References.{Begun, Holder, References, ThreadHolds, asked_with, has_pointer, held_count, in_argument, in_cell, in_mutex, in_thread, is_pointer_of, is_pointer_of_made, is_taken_to_free, passes, refers, taken_to_free, takes_reference, takes_to_free}, Runs.{IsNamedAt, IsSpawned, answers_of, by, is_named_main}, State.{Frame, Out, Outcome, Run, State, Step, Use, all_released, answer_of, answered, begins_with, done, drops, ended, ends_temporaries, ends_variables, entered, enters_with, event_of, give, gives_up, go, happens, held_by_frame, held_references, holds, holds_reference, in_block, is_reference, looks_at, moves, moves_on, new_variable, nulls, over, performs, pointers_among, reads, reads_variable, sets, spent, stop, stopped, temporarily, then_on, traces, unless_stop, value_in, value_of, wants, with_value, without_temporaries, writes, ◌>>=◌, ◌>>◌}, Statements.{Flow, broken, declared, done_first, done_simple, done_step, done_test, elements_made, exec_all, initialised, is_positive, left_by, loop, next, on_next, return_with, returned, right_value, turns}, Store.{form_value, global_value, initial_value, is_live, is_natural, is_spawn, meets, spawns, value_after}, Waiting.{broadcast_call, cell_at_place, condition_call, gives_up_base, lock_call, moves_base, signal_call, unlock_call, wait_call}, declared.given.GivenUp.GivenUp, declared.given.GivenUp.TheVariants.{Emptied, Released, Replaced}, declared.variable.Variable.Variable}
pub use Rattle.sharc_word.specs.{declared.step.TheConstants.THREADS, declared.step.WordEvent.WordEvent, declared.step.WordStep.WordStep}
pub use Rattle.sharc_heap.specs.Count.{test_of}
pub use Rattle.sharc_code.specs.{Arithmetic.{computed, int_of, word_of}, Layout.{Fits, cell_word, count_word, granule_at, granules, length_word, words_of}, Machine.{Machine, act, function_of, instr_at, int, no_function, ref}, Paced.paced_in, Path.{CodePath, after, begun, machine_after, may_go, most_refs}, Ranges.{IsInGlobal, first_place as first_cell_of}, Runs.{Answered, Global, IsRun, Said, Turn, result_of, said_by, step_of, turns_of}, Says.{global_cell, in_start, kind_of, lock_through, made_cell, mode_of, no_global, no_place, place_at, reference, said, speaks_of}, Whole.{CheckedRun, Erase, bounds, one_thread, place_after}, declared.code.Code.Code, declared.code.Function.{Function as Row}, declared.code.GlobalCells.GlobalCells, declared.code.Parameter.Parameter, declared.code.PlaceMode.PlaceMode, declared.code.PlaceMode.TheVariants.{Dynamic, LockedGlobal, LockedLoaded, LockedSibling, LockedThrough, Private, Racy}, declared.code.SourcePlace.SourcePlace, declared.code.Text.Text, declared.instr.Cell.Cell, declared.instr.Cell.TheVariants.{GlobalAt, Object as InObject, ObjectAt}, declared.instr.Instr.Instr, declared.instr.Instr.TheVariants.{Call, ChkLock, ChkLockLoaded, ChkRead, ChkWrite, CondWait, Exchange, Exit, Free, Load, LoadRef, Lower, MoveReference, RaiseLoaded, Start, Store, TakeCell, TestSole}, declared.instr.Operator.Operator, declared.instr.Register.Register, declared.instr.Width.Width, declared.instr.Width.TheVariants.Int, declared.shape.Shape.Shape, declared.state.Stage.Stage, declared.state.Stage.TheVariants.{Empties, Enters, FreeClears, FreeLooks, Links, Lowers, Rests, Uncounts}, declared.state.Stop.Stop, declared.state.Stop.TheVariants.{Conflict, NoLock, NotSole, Trap as Trapped}, declared.state.TheConstants.FRAMES, declared.state.TurnState.TurnState, declared.state.TurnState.TheVariants.{Ended, Runs, Stopped}}
pub use Rattle.sharc_flat.specs.{Correct.{AsksTheSame, MayStart, SameAs}, Flattened.{Around, arguments_code, around_body, behind_first, behind_statement, behind_statements, binary_code, called_code, cast_code, choice_code, compare_code, condition_code, constant_code, declared_lvalue, differ_code, drop_code, either_code, elements_code, expression_code, field_code, first_code, flattened, function_code, functions_code, if_code, in_function, initial_code, ints_of, is_ref, jump_code, local_code, logical_code, loop_code, looping, lvalue_code, lvalue_in, named_code, opened, parameter_of, passed_code, place_call_code, place_code, refs_of, result_code, return_code, right_code, rows_of, simple_code, spawn_code, statement_code, statements_code, step_code, target_of, test_code, truth_code, turn_code, unary_code, unary_place_code, unlocked_code, value_call_code, wait_code, what_names, with_variable, zero_code}, Flattens.{Flattens, IsMainOf, names_of}, Machine.{At, Caller, Came, Flat, accessed, accesses, asks, asserts, cell_mode_of, end_turn, exec, first_at, first_cell, goes, goes_on, halts, handed, indexed, line_turn, lock_is_null, on_turn, op_turn, over_lines, put, set_int, set_ref, start, stops, take_kind_of, takes_local, turn, with_event, with_result, without_base}, Made.flat_of, Path.{IsPath, asked, at_after}, Places.{Target, base_width, bounds_code, cell_store_code, cell_take_code, cell_value_code, copy_code, drop_base, global_of, guard_code, has_base, index_code, index_width, own_field, pointee_code, settle_base, settle_code, store_code, take_code, target, value_code, width_code}, Scope.{Context, at_site, ends_from, leaves, pops}, Tables.globals_of, declared.flat.{Flat.Flat as FlatCode, LineTexts.LineTexts}, declared.op.Op.Op, declared.op.Spot.Spot, declared.slot.Lvalue.Lvalue, declared.slot.Slot.Slot}
pub use Rattle.sharc_guard.specs.{Correct.Resolved, Counted.{AreLowered, GuardedCounts, Guards, HasCome as Comes, Held, IsAccess, IsGivenAway, IsOf, IsReleased, IsReplaced, IsSettling, IsUnder, LocksStand, OnWay, Quietly, Tells}, Form.IsGuarded, Guard.{check_under, compute, entered_at, expand, expanded, guarded, negate, place, sites_of, source_of, with_texts}, Known.dropped, Level.IsLevel, Logged.LogsAreHeld, Machine.{Accesses, Check, IsSole, Locks, Program, Thread, is_held, source_at, statement_at}, Made.IsMade, Path.{started, thread_after}, declared.guarded.Guarded.Guarded}
pub use Rattle.sharc_compile.specs.{Consistent.{Elements, IsConsistent, IsNumber, said_in, said_now}, Correct.{HasCome, IsBeginning, begins}, Generated.{IsGenerated, generated, instr_of, program_of}, Lowered.lowered_in, Made.IsCodeOf, OfRuns.{RunsHavePaths, elements_before, founds_of, told_in}, Refused.{IsRefused, IsReport, WantsRefused, site_of}, Related.{ChecksNext, IsAt, IsAtStage, IsInFree, IsLinking, IsOver, IsReference, Refuses, Same, StopsAt}}
pub use Rattle.sharc_invariant.specs.{Granules.{one, sum_to}, Labels.{Closed, Gate, Label, Labels, LessGate, Loaded}, Laws.{RunsFromTheBeginning, RunsStand}, MachineInvariant.{IsAlone, MachineInvariant, WindowStands, cell_refers, cells_now, hand_refers, is_pointer_now, label_of, log_refers, references_to, register_refers}, Objects.objects_after, Opened.{first_place, first_world}, Reports.RunsTest, State.{IsSmall, label_now, number_in, object_of_cell}, Typed.{Fine, Initial, IsWellTyped}, Types.{Content, Pointer, Targets, cells_of, global_field}, Words.{argument_of, is_freed, register_of, staged_of}, World.{ArgumentOf, In, LogOf, ObjectState, RegisterOf, Staged, World}}
pub use Rattle.sharc_accepted_laws.specs.{Pointers.{GlobalsPoint, IsPointerInTable, PointersAreOfGlobals}, TargetLaws.HasTables, Targets.targets_of}
pub use Rattle.sharc_history_laws.specs.{Followed.{ChecksAreFollowed, IsFollowed, IsLocked}, History.history_of, Kept.{GlobalPointersAreKept, Grows, MadePointersAreKept, OthersAreInitial}, Made.PointersAreMade, Paths.PathsAreConsistent, Reports.{CastReportsShow, FindsOthers, InArgument, InCell, InHand, InLog, InRegister, OtherReference}, Seen.{IsGivenTo, RunsBegin}, SeenCells.{CellsAreSeen, IsBeingFreed, is_clearing}, Starts.{IsOfMain, IsSpawnedByCode, IsStartedBy}, Stores.BeginsWith}
pub use Rattle.sharc_compile_laws.specs.{Started.HasThread, Threads.TellsIn}
pub use Rattle.sharc_wants_laws.specs.{Alone.{Passes, objects_there, tested_object}, Cause.{NothingIsInFlight, ShowsReference}, Cells.{CellsSee, IsSeenInCell, in_freed, in_global, in_made}, Elsewhere.{ArgumentsSee, LogsSee}, Emptying.{IsEmptying, is_emptying}, Freeing.{EmptiersTookLast, IsBeingTaken, LastTakersFree, TakenAreBeingTaken, TakesLast}, Hands.{FreesEmpty, HandsFly}, Held.{HeldAreHeldOn, released, releases}, Holding.{IsAccounted, IsHolding, IsHoldingIn, IsHoldingThere, IsLowered, IsTested, PathsHold, lowered_of}, InFlight.{IsInFlight, IsPastEvents, is_emptied, is_given, is_replaced}, Only.{ArgumentsHoldNone, CellsHoldNone, FreedAreTaken, MutexesHoldNone, ThreadsHoldNone}, Registered.{HoldsRegistered, IsLoadedHere, IsPlaceOf, IsRegistered}, Seeing.{CastersHold, TestersGive, ThreadsSee}, Silent.{HasNothing, SilentHaveNothing}, Sole.{AreQuiet, HaveBegun, IsSeen, NoneIsInFlight, RegistersAreSeen}, Waits.CodeWaits, Wants.{BeginsWithStarted, BeginsWithStartedIn, IsNotThere, IsThere, IsThereIn, IsWhere, PathsWant, StopsOrWantsUnder, WantsAccess, WantsAct, WantsBy, access_at, access_tested}, Beginning.{BeginsByRight, ThreadsHaveBegun, follows_with}}
