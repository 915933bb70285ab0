-- What the proofs cite of std, of other crates and of this crate's definitions, passed on from one place.
pub use Rattle.std.proofs.{Common.{Bool, List, None, Option, Some, [], ap, append-nil, append_assoc, arith, bytes_eq, codes, cond, drop, eqb-true, false, inl, inr, length, length-append, map, max, negsuc, pos, refl, subst, suc, sym, take, true, zero, ℕ, ℤ, ⊎_elim, ◌&&◌, ◌*◌, ◌++◌, ◌+◌, ◌-◌, ◌<◌, ◌==◌, ◌^◌, ◌||◌, ◌∙◌, ◌∷◌, ◌≡◌, ◌≢◌, ◌≤◌, ◌⊎◌}, lemmas.Bool.{cases_eq, cases_lt, eqb-false, false≢true, ltb-true, or_parts as either_false, or_right}, lemmas.Bool.Decides.nat_tests, lemmas.List.{drop_at, get_or-append-add, get_or_past, map-append, take-append-le, take_all}, lemmas.List.Elements.Contains-append_right, lemmas.Option.{none-some, same_Some, slice_get_within}}
pub use Rattle.std.specs.{List.AllByRecursion, Prelude.{Contains, filter, if◌then◌else◌, nat_eq, nat_lt, not, slice_get, slice_index, slice_index_or}}
pub use mathlib.Core.Path.{fun_ext}
pub use Rattle.sharc_lemmas.proofs.{Bools.{and_left, and_right, false_true as never, not_true as unless, or_false, or_first as not_left, or_second as not_right, or_split as or_either}, Lists.{front_got as get_left, some_there as found}, Numbers.eq_refl, Options.{no_guard as none_some}}
pub use Rattle.sharc_tree.specs.{Measures.{expressions, in_arguments, in_first, in_head, in_local, in_option, in_right, in_simple, in_statement, in_statements}, Spans.span_of, Tree.{Arguments, Expression, First, Function, Local, Right, Simple, Statement, Statements, argument, assign, binary, block, call, cast, constant, declare, declares, does, does_call, field, for, identifier, if_then, if_then_else, index, jump, malloc, no_arguments, no_statements, on_place, on_value, parentheses, return, simple, spawn, statement, unary, value, while}, declared.token.NumberType.NumberType, declared.token.Site.Site, declared.token.Span.Span, declared.tree.declaration.Declaration.Declaration, declared.tree.declaration.Identifier.Identifier, declared.tree.declaration.WrittenType.WrittenType, declared.tree.expression.BinaryOperator.BinaryOperator, declared.tree.expression.BinaryOperator.TheVariants.{LogicalAnd, LogicalOr, NotEqual}, declared.tree.expression.Constant.Constant, declared.tree.expression.FieldOperator.FieldOperator, declared.tree.expression.FieldOperator.TheVariants.{Arrow, Dot}, declared.tree.expression.PlaceCall.PlaceCall, declared.tree.expression.PlaceCall.TheVariants.{Free, Unlock}, declared.tree.expression.UnaryOperator.UnaryOperator, declared.tree.expression.UnaryOperator.TheVariants.{Dereference, Negate, Not}, declared.tree.expression.ValueCall.ValueCall, declared.tree.expression.ValueCall.TheVariants.{Join, Print}, declared.tree.item.GlobalDefinition.GlobalDefinition, declared.tree.statement.Jump.TheVariants.{Break, Continue}}
pub use Rattle.sharc_names.specs.{Kinds.{Kind, array, declared_kind, declared_kinds, element_kind, int, is_array, is_integer, is_integral, is_long, long, object, promoted}, declared.fault.Named.{Named as Name}}
pub use Rattle.sharc_ctype.specs.{Expressions.{binary_result, class_of, constant_kind, number_kind, unary_result}, Resolved.{Resolution, called_kind, declaration_at, function_at, functions_in, global_at, global_kind_of, globals_in, kind_at, named_at, named_kind, result_kind_of, structs_in, variable_kind}, Transfers.parameters_named, declared.expr.OperatorClass.OperatorClass}
pub use Rattle.sharc_mode.specs.{Cells.pointed, Moded.Assignment, Rows.{declared_row, row_at, written}, Sharings.{Sharing, private}}
pub use Rattle.sharc_check.specs.Constructs.{IsFunction}
pub use Rattle.sharc_meaning.specs.{Cells.{element_cells, field_place_named, global_elements}, Expressions.number_named, Reference.constant_value, State.is_reference}
pub use Rattle.sharc_heap.specs.declared.shadow_word.Kind.TheVariants.{Read, Write}
pub use Rattle.sharc_code.proofs.Places.{put_all, put_other, put_same}
pub use Rattle.sharc_code.specs.{Arithmetic.holds, Machine.{function_of, instr_at, no_function}, Runs.put, Says.{no_global, no_place, place_at}, declared.code.Code.Code, declared.code.Function.{Function as Row}, declared.code.GlobalCells.GlobalCells, declared.code.Parameter.Parameter, declared.code.PlaceMode.PlaceMode, declared.code.SourcePlace.SourcePlace, declared.code.Text.Text, declared.code.Use.Use, declared.instr.Cell.Cell, declared.instr.Instr.Instr, declared.instr.Instr.TheVariants.{Bounds, Call, ChkLock, ChkLockLoaded, ChkNull, ChkPositive, ChkRead, ChkRoom, ChkWidth, ChkWrite, Clear, Complement, ComputeInt, ComputeLong, Exchange, Exit, Give, GlobalBounds, Jump, JumpIfNull, JumpIfZero, Load, LoadRef, Lower, Move, MoveReference, NegateInt, NegateLong, New, Raise, RaiseLoaded, Return, SameReference as CompareReferences, Spawn, Start, Store, TakeCell, TakeLocal, TestSole}, declared.instr.Operator.Operator, declared.instr.Register.Register, declared.instr.Register.TheVariants.Reference, declared.instr.Width.Width, declared.instr.Width.TheVariants.{Char, Int, Long}}
pub use Rattle.sharc_flat.specs.{Flattened.{Around, argument_words, arguments_code, around_body, behind_first, behind_int, behind_ref, behind_statement, behind_statements, binary_code, body_at, called_code, cast_code, compare_code, condition_code, constant_code, declared_lvalue, differ_code, drop_code, either_code, elements_code, expression_code, field_code, first_cell_of, first_code, function_code, functions_code, guard_of, in_function, initial_code, ints_of, is_ref, jump_code, kind_of, layout_of, local_code, logical_code, loop_code, looping, lvalue_code, lvalue_in, mode_of, named_code, opened, operator_of, parameter_of, parameters_scope, passed_code, place_call_code, place_code, refs_of, result_code, return_code, right_code, rows_of, simple_code, spawn_code, statement_code, statements_code, step_code, taken_guard, target_of, test_code, truth_code, turn_code, turns_code, unary_code, unary_place_code, unlocked_code, value_call_code, wait_code, what_names, with_variable, with_words, zero_code}, Flattens.{Flattens, names_of}, Framed.{BaseWithin, HandedWithin, IsWide, OpWrites}, Frames.{base_need, handed_need, int_need, ints_in as ints_needed, ref_need, refs_in as refs_needed}, Laws.FitsMade, Machine.{Flat, first_cell, function_of as flat_function}, Made.flat_of, Places.{Target, base_width, bounds_code, cell_of, cell_store_code, cell_take_code, cell_value_code, copy_code, drop_base, global_of, guard_cell, guard_code, guard_field, guard_width, has_base, in_global, in_global_at, in_object, in_object_at, index_code, index_width, named_target, own_field, pointee_code, settle_base, settle_code, store_code, take_code, target, value_code, variable, width_code, width_of}, Scope.{Context, at_site, ends_from, int_count, leaves, number_in, pops, ref_count, register_from, register_of, slot_kind, slot_of}, Suits.{Either, is_cell, is_declaration}, Tables.{globals_from, globals_of, granules_in}, declared.flat.{Flat.Flat as FlatCode, LineTexts.LineTexts}, declared.op.Op.Op, declared.op.Spot.Spot, declared.slot.Lvalue.Lvalue, declared.slot.Slot.Slot}
pub use Rattle.sharc_flat_lemmas.{proofs.Flow.{Knowledge, agrees_all, agrees_left, agrees_right, get_right}, specs.Pieces.{Agrees, first}}
pub use Rattle.sharc_guard.specs.{Guard.{check_under, entered_at, expand, expanded, offset, place, sites_of, source_of, width, with_texts}, Known.{Access, Know, SimplePlace, access, assigns, copy_given, counts, dropped, drops, drops_at, global_place, has_passed, in_variable, is_at, is_dynamic, is_entry, is_led_to, is_straight, is_target, know_after, know_next, known, leads_to, line_leads, nothing, number_given, of_constant, passes_by, place_of, same_place, tells, unless_written, variable_place, with_element, writes_int, writes_ref}}
pub use Rattle.sharc_compile.specs.{Generated.{generated, instr_of}, Made.IsCodeOf}
pub use Rattle.sharc_invariant.proofs.{Frames.{kept_pass, wider}, Scoped.{less_entry_refl, less_gate_refl, less_number_refl, less_refl, scoped_empty, scoped_fill, scoped_gate, scoped_number}}
pub use Rattle.sharc_invariant.specs.{Labels.{AllSame, Anything, Chained, Checked, Closed, Copies, Element, Empty, Entry, EntryMentions, Exactly, Fresh, Gate, HasBase, HasCopy, HasName, Holds, HoldsLoaded, Indexes, IsCopy, IsFree, IsIn, IsNamed as IsNameOf, IsScoped, Itself, Label, Labels, Leads, Less, LessEntry, LessGate, LessNumber, Loaded, Named, Narrower, Nth, Number, OfElement, OfGlobal, Pass, Refers, SameLock, SameReference, Signature, Sole, Unknown, Within, empty, fill, forgets, forgotten, gated, is_base, knows, names, set_number, some_names, without_base, without_copies, without_index}, Typed.{Accesses, AreFieldLocks, AreGlobals, Calls, Covers, Directly, Earlier, Fine, Fits as FitsWidth, Hands, HasBefore, HasCell, HasField, Initial, IsAnyLock, IsBaseFree, IsElement, IsFieldLock, IsInGlobal, IsLayout, IsLockCell, IsLockMode, IsMode, IsMutexOf, IsNotSole, IsOwn, IsPlace, IsSameContent, IsSameFieldLock, IsShared, IsSibling, IsTypeLock, IsTypeMode, IsUnpassed, IsVacant, IsWellTyped, LeadsChecked, MayAccess, MayStart, Numbers, Operands, Passes, PassesLock, Passes_on, PointsTo, Recasts, below, below_copy, below_number, below_pass, called_label, entry_label, handed_label, ints_in, is_comparison, is_shift, knows_base, moved_copy, no_lock, refs_in, unlocked_label, without_base_of}, Types.{AreTargets, CellMode, Content, Field, FieldLock, FieldMode, FieldType, Lock, Mentions, Names, ObjectType, SomeNames, StaticType, Targets, cells_of, field_at, field_in, field_of_cell, global_field, is_mutex, is_pointer, is_private, mode_at, mode_in, no_field, type_in}, Types.Content.{Integer, MutexWord, Pointer, Waiters}, Types.FieldLock.{OfElement as OfSameElement, OfGlobals, OfType}, Types.FieldMode.{Behind, Dynamic, Private, Racy, Readonly, Under}, Types.Lock.{Global, Self, Through}}
pub use Rattle.sharc_typed_laws.specs.{Begun.{LabelsStand, label_of}, Blocks.{AnywhereLeads, BlockLeads, BlocksAreTyped, BlocksLead, EnterLeads}, Decided.{ChoiceLeads, DecisionsAreTyped, DecisionsLead, EverLeads, IfLeads, JoinLeads, LoopLeads, loop_ways, turn_by}, Declared.{Begins, BeginsInteger, BeginsReference, InitialTypable, Keeps, LocalTypable, LocalsAreTyped, StandsBefore, before, declared_label}, Ended.{EndsAreTyped, Grows}, Functions.{FunctionLines, FunctionTypable, FunctionsAreTyped, IsLowTyping}, Inside.{FlatLabels, before_check, behind, cleared, element_pass, exchanged, gate_behind, global_element_pass, global_pass, held_gate, inside, known_behind, labels_from, labels_of, lock_of, outside, pass_of, passed_behind, tested, with_pass}, LabelsLaws.{AreAllLines, ExpressionsAreTyped, LinesAreTyped, LinesKnow, LinesTell, PartsAreTyped, SimplesAreTyped, StretchesJoin, TestsAreTyped, ValueComes}, Left.{AreNested, IsOpen, JumpsAreTyped, LeavesAreTyped, back}, Lines.{Frees, Gives, IsGuardedBy, IsLockedBy, IsTypedFlat, Loads, LoadsGuard, LoadsReference, Makes, MayPass, PassesCheck, PointersMadeAt, Settles, Stores, StoresReference, To, TypedLine, moved}, Passes.{IsNumberOf, IsPassed, IsTypedAnyhow, Knows, RepeatsCheck, TypedAnyhow, is_write, pass_at, pass_by, pass_of_place, passes_after, passes_before, passes_in, passes_next, remembered, stays, with_all, with_checks, with_passes}, Places.{AreLow, IsNamed, IsPlain, MayReach, RegistersStand, mark, no_type}, Premises.{Ground, HasBaseAt, HasIndex, HasMutex, HasNumbers, HasWaiters, HoldsVariables, IntegerTyped, IsCopyIn, IsCopyNamed, IsCopyOf, IsPlaced, IsPointerCopy, MutexTyped, ReachesInteger, ReachesReference, ReferenceTyped, ThroughGuard, Typing, number_in_global}, Programs.{AreGlobalsNamed, IsSettingOf, TypableProgram}, Returned.{GivesBack, GivesBackBy, NothingReturns, ReturnTypable, ReturnedBy, Returns, ValuesReturn}, Stated.{Assigned, CellAssigned, CountTypable, Dropped, IsMade, RightTypable, SimpleTypable, ValueGoes, VariableAssigned}, Statements.{DeclaredTypable, FirstTypable, StatementTypable, StatementsTypable, StepTypable, TestTypable}, Steps.{Chain, Steps, all_at, first_or}, Stretches.{AreLines, AreOpen, AreWithin, Fits, IsAtHand, IsLine, IsTypedAt, LeadsAmong, LeadsFrom, LeadsWithin, Mark, Setting, Stretch, Tells, Way, flat_labels, labels_by}, Typable.{AreFields, AreFree, AreTwo, AreTypable, ArgumentAt, ArgumentsAt, CallTypable, CallTyped, CastTyped, CellTyped, ComparedTyped, ConditionTyped, ConstantTyped, FirstCell, FreeTyped, Goes, GoesTo, Handed, HasNoWidth, HasType, IndexTypable, IsBare, IsNumber, IsOne, IsPlaceTypable, IsPointer, IsTypable, IsTypeIn, IsVoid, NameTyped, ResultTyped, SpawnTyped, StandsIn, TakeTyped, Takes, UnaryTyped, VariableTakes, VariableTyped, Widens, ground_of, ints_behind, refs_behind, result_of, type_by}, TypedLaws.LeadsOn}
