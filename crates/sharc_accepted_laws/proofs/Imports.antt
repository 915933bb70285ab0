-- What the proofs cite of std, of other crates and of this crate's definitions, passed on from one place.
pub use Rattle.std.proofs.{Common.{Bool, Contains, IfSome, IsSomeAnd, List, None, Option, Some, [], ap, append-nil, append_assoc, ap₂, arith, bytes_eq, codes, cond, drop, eq-eqb, eqb-true, false, if◌then◌else◌, inl, inr, is_none, is_some, length, length-append, lt-ltb, ltb-false, map, nat_lt, negsuc, not, option_map, option_to_list, pos, refl, replicate, slice_get, slice_index_or as get_or, subst, suc, sym, take, to_z-of_z, true, zero, ℕ, ℤ, ⊎_elim, ◌%◌, ◌&&◌, ◌*◌, ◌++◌, ◌+◌, ◌-◌, ◌/◌, ◌<◌, ◌==◌, ◌^◌, ◌||◌, ◌∙◌, ◌∷◌, ◌≡◌, ◌≢◌, ◌≤◌, ◌⊎◌}, Math.Nat.{div-add-mod, mod-eq_of_lt, mul-add-mod_self_right, mul_comm, suc-mul}, lemmas.Bool.{and_from, and_left as constant_not, and_parts, cases_lt, eqb-false, false_from_ne_true, false≢true, le-ltb, ltb-true, ne_eqb, or_cases, or_left, or_right, true≢false}, lemmas.List.{get_or-append-add, get_or_append_left, length-map}, lemmas.List.Elements.{Contains-append_cases as either_there, Contains-append_left as left_there, Contains-append_right as right_there, filter_map-append}, lemmas.Nat.{div-add-mod', mod-mul-add}, lemmas.Option.{slice_get_past as got_none}, lemmas.Slice.Eq.bytes_eq-Decides}
pub use Rattle.std.specs.{Int.w64, List.{AllByRecursion, filter_map, find, flat_map, list_any, position, position_or_len}, Option.option_or, Prelude.{FitsSigned, neg_ℤ, slice_index, unsigned_abs, unwrap_or}}
pub use Rattle.sharc_lemmas.proofs.{Bools.{and_false, no, or_false, same_test as both_ways}, Equal.none_there, Lists.{at_place as each_at, back, both, bytes_same, each, front, front_got, head_or_tail, head_there, in_list as place_there, map_length, mapped_each, no_cons, of_each, place_of_element, some_there, tail_there, there_is as below_there, to_each, together}, Numbers.{eq_refl, same_is as eqb_same, some_star, times_low}, Options.{no_guard, none_some, same_bool, same_some, some_is}}
pub use Rattle.sharc_graph.specs.{Findings.finding_at, declared.graph.NodeFinding.NodeFinding, declared.graph.NodeFinding.TheVariants.Apart}
pub use Rattle.sharc_tree.specs.{Forms.{is_lvalue, without_parentheses}, Low.{IsLow, LowFirst, LowItems, LowSimple, LowStatement, LowStatements, is_call}, Marks.{AreMarks, IsMark, Mark, a_name, arguments_marks, base_marks, declaration_marks, declarations_marks, first_marks, head_marks, level_marks, levels_marks, local_marks, marks, name_marks, option_marks, right_marks, simple_marks, statement_marks, statements_marks, type_marks}, Measures.{expressions, in_arguments, in_first, in_function, in_head, in_local, in_option, in_right, in_simple, in_statement, in_statements}, Placed.{Follow, IsPlaced, IsWhole, PlacedDeclaration, PlacedDeclarations, PlacedFirst, PlacedItem, PlacedItems, PlacedLocal, PlacedRight, PlacedSimple, PlacedStatement, PlacedStatements, PlacedType, declaration_spans, first_spans, head_spans, item_spans, option_spans, point, statement_spans}, Spans.{span_of, span_of_right, span_of_simple, span_of_statement}, Tree.{Arguments, Expression, First, Function, Head, Item, Local, Right, Simple, Statement, Statements, argument, assign, binary, block, call, cast, constant, declare, declares, does, does_call, empty, field, for, function, global, identifier, if_then, if_then_else, index, jump, malloc, no_arguments, no_statements, nothing, on_place, on_value, parentheses, return, simple, spawn, statement, structure, unary, value, while}, declared.ctype.Base.Base, declared.ctype.Base.TheVariants.{Mutex, Struct, Void}, declared.ctype.Mode.Mode, declared.ctype.Mode.TheVariants.{Dynamic, Locked, Private, Racy, Readonly}, declared.ctype.Path.Path, declared.ctype.Path.TheVariants.{One, Through}, declared.token.NumberType.NumberType, declared.token.Site.Site, declared.token.Span.Span, declared.token.Token.Token, declared.tree.declaration.Declaration.Declaration, declared.tree.declaration.Identifier.Identifier, declared.tree.declaration.WrittenType.WrittenType, declared.tree.expression.BinaryOperator.BinaryOperator, declared.tree.expression.BinaryOperator.TheVariants.{Equal, Greater, GreaterOrEqual, Less, LessOrEqual, LogicalAnd, LogicalOr, NotEqual, ShiftLeft, ShiftRight}, declared.tree.expression.Constant.Constant, declared.tree.expression.Constant.TheVariants.{Character, Null, Number}, declared.tree.expression.FieldOperator.FieldOperator, declared.tree.expression.FieldOperator.TheVariants.{Arrow, Dot}, declared.tree.expression.PlaceCall.TheVariants.{Free, Unlock}, declared.tree.expression.UnaryOperator.UnaryOperator, declared.tree.expression.UnaryOperator.TheVariants.{Complement, Dereference, Negate, Not}, declared.tree.item.GlobalDefinition.GlobalDefinition, declared.tree.item.GlobalForm.GlobalForm, declared.tree.item.GlobalForm.TheVariants.Array, declared.tree.item.StructDefinition.StructDefinition}
pub use Rattle.sharc_names.specs.{Kinds.{Kind, agrees, array, condition_pointer, declared_kind, declared_kinds, element_kind, int, is_array, is_integer, is_integral, is_long, is_null, is_pointer, is_struct_base, is_struct_behind, long, mutex, mutex_pointer, null, object, promoted, same_base, same_kind, stars_of, void}, Names.{Entry, Meaning, StructMeaning, StructTable, defined, field_of, global_kind, look_up, named_of, named_struct, struct_of}, Needs.{met, unagreed, unmet}, Notes.{Note, fault, fault_unless, fault_where, faults, referred, refers, yields}, Types.{allowed_there, base_notes, first_notes, is_allowed, main_notes, mode_notes, modes_notes, name_notes, path_notes, struct_note, type_notes}, declared.fault.FaultCode.FaultCode, declared.fault.FaultCode.TheVariants.{BadForm, TypeNotAllowed, UnknownName}, declared.fault.Named.Named, declared.meaning.ConditionCall.ConditionCall, declared.meaning.ConditionCall.TheVariants.{Broadcast, Signal, Wait}, declared.need.Need.TheVariants.Value, declared.scope.Scope.Scope, declared.types.Role.Role}
pub use Rattle.sharc_ctype.specs.{Condition.{defines_condition, with_conditions}, Constants.{is_among, is_assigned, is_assigned_by, is_assigned_in, is_constant}, Entities.{cast_entity, casts, declared, entities_in, entity_at, first_depth, first_entities, function_entities, head_entities, is_told_by, local_entities, numbered, numbered_from, positions_in, positions_of, result_of, statement_entities, statements_entities, written_modes}, Expressions.{binary_result, callee_notes, class_of, constant_kind, notes_at, notes_of_all, number_kind, place_notes, type_of}, Globals.{elements_of, sizes_notes}, Heads.{Heading as Heads, behind_all, function_entry, global_entry, heads_notes, no_heads, with_struct}, Items.{beyond, field_notes, fields_notes, file_scope, function_notes, in_body, item_notes, items_notes, main_missing, notes_about, parameters_notes, with_parameters}, Layouts.pointer_cells, Reaches.{IsReached, Leads, Names, Runs, Spawns, name_tokens, of_all, runs, spawns, tokens_of}, Resolved.{IsResolved, Resolution, called_kind, declaration_at, declarations_in, declarations_of, declared_at, function_at, functions_in, global_at, global_kind_of, globals_in, kind_at, named_at, named_kind, result_kind_of, structs_in, variable_kind}, Statements.{Around, after, behind_first, count_notes, first_locals, first_notes as first_statement_notes, head_notes, initial_notes, is_aggregate, is_here, local_notes, locals_in_all, looping, made, notes_in, notes_in_all, opened, return_notes, returned_as, right_notes, simple_notes, step_notes, test_notes, tests_notes, with_names}, Transfers.{Agrees, IsFair, Receiver, Transfer, argument_transfers, first_transfers, function_transfers, gives, in_option as option_transfers, local_transfers, lvalue, parameters_named, parameters_of, passed, result, right_transfers, simple_transfers, statement_transfers, statements_transfers, transfers, variable}, Variables.{variable as variables, variable_of}, declared.entity.Entity.Entity, declared.entity.Numbered.Numbered, declared.expr.OperatorClass.OperatorClass, declared.expr.OperatorClass.TheVariants.{Arithmetic, Shift}, declared.expr.Standing.Standing, declared.expr.Standing.TheVariants.{AsLvalue, AsValue}}
pub use Rattle.sharc_ctype_laws.specs.{Callable.IsThread, Constraints.{Assignable, Callee, Common, HasType, HaveTypes, IsInteger, IsMemberOf, a_call, a_cast, a_constant, a_field, a_field_behind, a_function, a_global, a_variable, arithmetic, both_shorter, complemented, element_of_array, element_of_pointer, in_parentheses, integer, negated, none_left, null_pointer, of_conditions, of_program, one_more, pointed_to, pointer, shifted, struct_named, unlocked}, Declared.{IsItself, NamesOwn, NamesOwnVariables}, Found.{EachTypeFound, IsFound}, Initials.{IsHeldBy, MeetsGlobal, MeetsInitial, number_of}, Laws.{AllFair, ArePlain, EachNameOnce, EachNamesFound, EachNamesItself, EachNamesOwn, EachPathFound, HasMain, IsPlain, IsToldOnce, MeetsConstraints, MeetsGlobals, MeetsStatements, NamesFound, OneFunctionOfName, OneType, OnlyNames, SpawnsByName, SpawnsNameFunctions, SpawnsThreads, Tells, WithinLimits}, Paths.{AllLocalsStand, BodyStands, CastStands, FirstStands as FirstRead, IsAmong, IsVariableIn, LevelStands, LocalsStand, PathsAt, TypeStands, around_in, file_types, meaning_token}, Places.{Placing, at, places_in, places_in_all, places_in_first, places_in_local, places_of, places_of_all}, Rules.{AllMeet, IsHeld, Meets, MeetsFirst, MeetsSimple}, Sizes.{CellsAreFew, all_sizes, base_size, global_size, struct_size}, WrittenTypes.{FirstNames, IsNamedLevel, IsNamedPath, IsNamedType, a_known_call}}
pub use Rattle.sharc_mode.specs.{Cells.{cell_at, declared_cell, field_cell, field_named, first_mode, first_of, global_cell, is_behind_pointer, is_mutex_kind, named_cell, pointed, top_of, written_cell}, Flows.{IsFirst, IsLeastAssignment, IsRoot, Touches, mode_found}, Laws.LinkLaws, Moded.{Assignment, position_count}, Notes.{base_of, taken_variable}, Pairs.IsBelow, RowLaws.RowLaws, Rows.{PathReading, Targets, argument_use, at_call, base_use, behind, called_row, cast_row, constant_row, constant_use, declared_row, deeper, entity_row, global_row, is_constant_named, lock_for, lock_through, modes_at, modes_of, named_row, no_row, path_variable, read, reading_through, result_row, row_at, targets_from, through, with_base, written}, Settled.{field_target, is_mutex, otherwise_of, settled, settled_at, settled_in, settled_modes}, Sharings.{Lock, Sharing, dynamic, is_field, is_sibling_lock, lock_of, locked, object_named, object_of, private, racy, readonly, same, same_all, same_first, same_lock, same_named, same_second, sharing_of, text_at, text_of, variable_named}, WellFormed.{fields_behind, fields_named, fields_of, leaves_open, place_of}, WellModed.WellModed, declared.place.Place.Place}
pub use Rattle.sharc_check.{proofs.Lists.{passes_by, passes_there}, specs.{Constructs.{IsAssigned, IsCall, IsEntity, IsExpression, IsFunction, IsGiven, IsTaken, IsWritten, an_argument, assigned, called, cast_away, freed, initial, locals_in, locals_in_first, returned, spawned}, Paths.{IsAllowed, IsLockPointer, IsMutexBehind, IsNamedByPath, IsSiblingUse, IsThroughConstant, at_target, global_mutex, is_made, is_substituted, is_written, sibling_mutex, sibling_pointer, through as is_through, through_constant}, RuleLaws.{ReachedAreTold, RulesAreMet}, Rules.MeetsRules}}
pub use Rattle.sharc_meaning.specs.{Cells.{base_cells, element_cells, field_place, field_place_behind, field_place_in, field_place_named, global_elements, place_in, struct_cells}, Expressions.number_named, Reference.constant_value, References.{fields_called, is_pointer_in, is_pointer_of_global, made_at, types_made}, State.is_reference, Store.form_value}
pub use Rattle.sharc_code.specs.{Arithmetic.{holds, word_of}, Machine.{function_of, layout_at, no_function, no_layout}, Ranges.{GlobalsFit, first_place}, Says.no_global, declared.code.Code.Code, declared.code.Function.{Function as Row}, declared.code.GlobalCells.GlobalCells, declared.code.Layout.Layout, declared.code.Parameter.Parameter, declared.code.PlaceMode.PlaceMode, declared.code.Use.Use, declared.instr.Cell.Cell, declared.instr.Register.Register, declared.instr.Register.TheVariants.{Int, Reference}, declared.instr.Width.Width, declared.instr.Width.TheVariants.{Char, Long}}
pub use Rattle.sharc_flat.specs.{Flattened.{base_layout, behind_first as flat_behind_first, behind_int, behind_ref, behind_statement, function_code, guard_of, in_function as context_in, is_ref, kind_of, layout_of, lvalue_in, mode_of, operator_of, parameter_of, parameters_scope, rows_of, struct_layout, target_of, what_names, with_variable}, Flattens.{Flattens, IsMainOf, names_of}, Framed.IsWide, Machine.first_cell, Made.flat_of, Places.{Target, base_as_width, beside_field, beside_named, cell_of, global_of, guard_cell, guard_field, guard_named, has_base, in_global, in_global_at, in_object, in_object_at, lock_beside, lock_cell, mode_beside, mode_named, named_target, own_field, place_mode, spot_of, target, width_of}, Scope.{Context, int_count, number_in, ref_count, register_from, register_of, slot_kind, slot_of}, Suits.{ArgumentsSuit, CallSuits, CountSuits, Either, FirstSuits, IfThere, IndexSuits, InitialSuits, IsScalar, LeftSuits, NameSuits, OperandsSuit, PathNamed, PathStands, PlaceSuits, ReferencesSuit, RightSuits, SameSort, SimpleSuits, StatementSuits, StatementsSuit, Suits, TakeSuits, TestSuits, in_first as suits_first, in_statement as suits_statement, is_cell, kind_in}, Tables.{all_first_words, all_granules, all_pointers, cells_in, first_words, globals_from, globals_of, granules_in, layouts_from, layouts_of, pointers_among, pointers_of}, declared.flat.Flat.{Flat as FlatCode}, declared.op.Spot.Spot, declared.slot.Lvalue.Lvalue, declared.slot.Slot.Slot}
pub use Rattle.sharc_guard.specs.{Guard.{entered_at, place}, Known.dropped}
pub use Rattle.sharc_flat_laws.{proofs.Reading.{CastFound, casts_found}, specs.{Stands.TypedSuits, Tables.MadeTablesFit}}
pub use Rattle.sharc_invariant.specs.{Labels.{AllSame, Anything, Chained, Closed, Copies, Element, Empty, EntryMentions, Gate, HasCopy, IsCopy, Itself, Label, Labels, LessNumber, Loaded, Narrower, OfGlobal, Refers, SameLock, SameReference, Signature, Within, gated}, Typed.{AreFieldLocks, AreGlobals, HasBefore, HasCell, HasField, Initial, IsAlone, IsAnyGlobalLock, IsAnyLock, IsFieldLock, IsGlobalLock, IsInGlobal, IsLayout, IsLockCell, IsLockMode, IsMode, IsRef, IsSameContent, IsSameFieldLock, IsShared, IsSibling, IsTypeLock, IsTypeMode, Passes, PassesLock, PointsTo, PointsToMutex, Recasts, is_comparison, is_shift, no_lock, refs_in}, Types.{AreTargets, CellMode as cell, Content, Field, FieldLock, FieldMode, FieldType, Integer, Lock as TypeLock, Mentions, MutexWord, ObjectType, OfElement, OfGlobals, OfType, Pointer, SomeNames, StaticType, Target as TableTarget, Under, Waiters, cells_of, field_at, field_in, field_mutex, field_of_cell, global_field, globals_target, mode_at, mode_in, no_field, no_target, row_of, type_at, type_in}, Types.Lock.{Global, Self, Through as InRegister}}
pub use Rattle.sharc_typed_laws.proofs.{Arrays.{binary_plain, called_plain, constant_plain, element_plain, unary_plain, variable_plain}, Returning.no_integer, Starting.declared_reference}
pub use Rattle.sharc_typed_laws.specs.{Begun.label_of, Declared.{Begins, InitialTypable, Keeps}, Functions.{FunctionTypable, IsLowTyping}, Lines.{IsLockedBy, MayPass, PointersMadeAt}, Places.{mark, no_type}, Premises.{Ground, HasBaseAt, HasIndex, HasMutex, HasNumbers, HoldsVariables, IsCopyIn, IsCopyNamed, IsCopyOf, IsPointerCopy, ReachesInteger, ReachesReference, ReferenceTyped, ThroughGuard, Typing, number_in_global}, Programs.{CodeIsWellTyped, MainTypable, StartTypable}, Returned.{GivesBackBy, ReturnTypable, ReturnedBy}, Stated.{Assigned, CellAssigned, CountTypable, Dropped, IsMade, RightTypable, SimpleTypable, ValueGoes, VariableAssigned}, Statements.{DeclaredTypable, FirstTypable, StatementTypable, StatementsTypable, StepTypable, TestTypable}, Stretches.{Setting, labels_by}, Typable.{AreFields, AreFree, AreTwo, AreTypable, ArgumentAt, ArgumentsAt, BinaryTyped, CallTypable, CallTyped, CastTyped, ComparedTyped, ConditionTyped, ConstantTyped, ElementTyped, FirstCell, FreeTyped, Goes, GoesTo, Handed, IndexTypable, IntegersTyped, IsNumber, IsOne, IsPlaceTypable, IsPointer, IsTypable, IsTypeIn, IsVoid, NameTyped, ResultTyped, SpawnTyped, Takes, UnaryTyped, ValueTyped, VariableTakes, VariableTyped, ground_of, refs_behind, type_by}}
pub use Rattle.sharc_accepted_laws.specs.{Accepted.{AcceptedIsTyped, GlobalsAreNamed}, AccessFirsts.{FirstsFit, HasFirstCells, KnowsCondition, type_of_condition, type_of_mutex}, Accesses.{AccessFits, AccessesFit, CellsStand, Guards, GuardsFit, HasBaseIn, HasIndexOf, HaveTarget, IsCellLvalue, IsCellNumber, IsCodeOf, IsFairAccess, IsGated, IsPlaceNumber, LockStands, Reaches, base_type, cells_in_each, kind_of_pointer, list_or, modes_behind, modes_of_pointer, of_variable}, Alone.{AreAlone, IsInside, SomeAreAlone}, Beside.{AreLockedBeside, BesideFits, LocksStandBeside}, Calling.{ArgumentsStand, CallingLaws, CallsPass, type_for, wants_of}, Calls.{AreCopies, AreStanding, ArgumentFits, ArgumentsFit, ArgumentsPass, argument_type, at_entry}, Casting.CastsRecast, Cells.CellsAreTyped, Conditions.KnownCalls, Expressions.{CellsTyped, ConditionsTyped, ExpressionsAreTypable, ExpressionsTypable, HasFirst}, Fields.FieldsPlaced, Granules.GranulesAreFew, Held.{AllHeld, AssignedIsNotHeld, HeldLaws, IsHeldPath, TakenIsNotHeld, held_at, held_named, is_held, is_taken, taken_by}, Joined.{BaseStands, GroundsFit, IntegersFit, IsFairUse, IsGroundOf, IsTypingOf, LockLeads, MutexesFit, PathLeads, ReferencesFit, setting, to_global, to_variable}, Leading.{AllLead, ExpressionsLead, LeadsIfLocked, LeadsToMutex, by_global, by_variable}, Lvalues.{ArraysFit, ContentFits, FieldFits, IsArrayOf, IsBehindPointer, IsInFile, IsOfGlobal, IsOfObject, LocksFit, LvaluesFit, ModeFits, NamesCell, PointerFits, are_written, below_locks, cell_locks, is_dynamic, is_private, is_racy, is_readonly, locked_behind, locked_by_global, locked_by_sibling, locked_by_type, locks_below, named_locks, no_cell, of_global, of_object, of_type, pointer_of}, Own.{HasOwn, IsCastFound, IsOwn, OwnAreFound}, Paths.{IsMutexThere, MutexesBehind, PathsLead}, Pointees.{HasPlainLocks, IsPlainLock, IsRecast, PointeeFits, PointeesFit, RecastFits, RecastsFit, SameForms, is_same, of_types, pointee}, Pointers.{GlobalsPoint, IsPointerInTable, PointeesPoint, PointersAreOfGlobals}, Pointing.{BaseIs, IsBased, PlacesPoint, content_locks, declared_locks, element_locks, pointee_locks}, Programs.{AllCellsTyped, AreUnsigned, CodeIsSet, ProgramsAreTypable}, Results.{CallsGive, ResultLaws, ResultsStay, where_stand}, Scopes.{AllStand, DeclaredStands, EntriesStay, FewerAreClosed, HasOneVariable, HasRegister, IsClosedScope, NamesLower, NamesVariables, NoneIsClosed, OneMoreIsClosed, OthersAreEmpty, ScopeLaws, with_more}, Setting.{HasRow, IsSet, function_signature, is_main, is_numbered, is_spawned, is_start, setting_of, signature_by}, Shapes.{Form, Shape, dynamic_form, entity_shapes, expression_shape, form_of, known_condition, known_mutex, locked_form, number, number_from, private_form, racy_form, readonly_form, row_shape, same_form, same_forms, same_shape, shape_of, shapes, shapes_down, shapes_of, stars_in}, Standing.{ExpressionStands, ExpressionsStand, FirstStands, FunctionStands, FunctionsStand, LocalStands, StatementStands, StatementsStand}, Starting.{BeginsAlone, SpawnedBegin}, Statements.{AreExpressionsTypable, IsPlaceIn, IsThere}, Static.{entry_by, entry_named, entry_of, lock_at, lock_named, locks_at, pointers, register, result_type, static_of, variable_entry, variable_type}, StaticLaws.{AssignedGoes, BegunGoes, GivenLaws, IsAccepted, ReturnedGoes}, Taken.{AllNamed, DeclaredAreNamed, ExpressionsAreNamed, IsNamed, TakenLaws}, Taking.{TakingLaws, VariablesAreTaken}, TargetFirsts.{FirstFits, FirstLaws, MutexesFirst, WaitersFirst}, TargetLaws.{CellsAre, CountedForm, ExpressionsFound, GlobalsAre, GlobalsBegin, GlobalsEnd, GlobalsHold, HasTables, IsCounted, IsMemberAt, IsRowOf, LayoutsAre, MembersAre, NumbersFound, ResultsFound, ShapesClosed, TargetsAre, VariablesFound}, Targets.{all_global_fields, base_content, base_fields, declared_content, field_lock, field_locks, field_mode, global_element, global_fields, global_mode, is_private_form, is_private_mode, lock_count, lock_named as table_lock, locked_mode, member, members, own_mode, pointer_content, repeated, shape_fields, shape_row, single, starts_private, struct_fields, targets_of, top_mode, type_locks, written_mode}, Threads.ThreadsPass, TypableLaws.{IsAt, OperandSuits, ValueLaws}, Typed.{BasesStand, CellTyped, IsOf, LvalueTyped, LvaluesAreTyped}, Typing.{integers, typing, width_named}, Uses.{AreFair, UsesAreFair}}
