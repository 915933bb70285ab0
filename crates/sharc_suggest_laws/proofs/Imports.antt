-- What the proofs cite of std, of other crates and of this crate's definitions, passed on from one place.
pub use Rattle.std.proofs.{Common.{Bool, Contains, IfSome, List, None, Option, Some, [], ap, append_assoc, ap₂, arith, bytes_eq, codes, cond, drop, eq-eqb, eqb-true, false, get_or, if◌then◌else◌, inl, inr, is_none, is_some, length, map, nat_lt, not, option_map, refl, replicate, set, slice_get, subst, subst₂, suc, sym, take, true, zero, ℕ, ⊎_elim, ◌&&◌, ◌++◌, ◌+◌, ◌-◌, ◌<◌, ◌==◌, ◌||◌, ◌∙◌, ◌∷◌, ◌≡◌, ◌≤◌, ◌⊎◌}, Math.ListN.get_or-map, lemmas.Bool.{and_from, and_left, and_parts, cases_eq, cases_lt, cond-false, cond-true, eqb-false, false_from_ne_true, false≢true, ltb-false, ltb-true, ne_eqb, or_cases, or_right, true≢false}, lemmas.List.{drop-drop, drop-take, drop_at, get_or-append-add, get_or-append_right, get_or-drop, get_or-replicate, get_or-set_other, get_or-set_same, get_or-take, get_or_append_left, get_or_past, length-append, length-drop, length-map, length-replicate, length-set, length-take-le, map-append, take-append-le, take-take, take_all, take_at, take_more}, lemmas.List.Elements.{All-more, All-same}, lemmas.List.Folds.list_any-append, lemmas.Option.slice_get-map, lemmas.Slice.Eq.bytes_eq-Decides}
pub use Rattle.std.specs.{List.{AllByRecursion, filter, find, flat_map, fold, list_any}, Map.lookup, Prelude.{All, IfOk, IsTrue}}
pub use Rattle.sharc_lemmas.proofs.{Bools.{no_cell as no, yes as true_no}, Lists.{at_place, back, both as joint, contains_behind, each, front, head_or_tail, head_there, later, map_length, mapped_each, of_each, together}, Numbers.{is_below, none_there as none, zero_le as least}, Options.{no_guard as no_token, none_some, same_some as one_some}}
pub use Rattle.sharc_tree.specs.{Children.{view_arguments-push, view_block, view_call, view_statements-push}, Forms.{is_lvalue, without_parentheses}, Low.IsLow, Marks.{AreMarks, IsMark, Mark, a_name, base_marks, items_marks, keyword_marks, kind_marks, level_marks, levels_marks, marks_from, path_marks}, Measures.{expressions, in_arguments, in_first, in_function, in_local, in_option, in_right, in_simple, in_statement, in_statements}, Placed.{AllPlaced, Follow, IsPlaced, Placed, PlacedDeclaration, PlacedDeclarations, PlacedFirst, PlacedHead, PlacedItem, PlacedItems, PlacedLocal, PlacedRight, PlacedSimple, PlacedStatement, PlacedStatements, PlacedType, argument_spans, declaration_spans, first_spans, form_spans, head_spans, item_spans, option_spans, point, statement_spans}, Spans.{span_of, span_of_item, span_of_right, span_of_simple, span_of_statement}, Tree.{Arguments, Expression, First, Function, Head, Item, Local, Program, Right, Simple, Statement, Statements, argument, assign, binary, block, call, cast, constant, declares, does, does_call, field, function, global, identifier, index, malloc, no_arguments, no_statements, nothing, on_place, on_value, parentheses, spawn, statement, structure, unary, value, with_argument, with_statement}, View.{view_arguments, view_expr, view_items, view_program, view_statements, view_stmt}, declared.ctype.Base.Base, declared.ctype.Base.TheVariants.{Char, Int, Long, Mutex, Struct, Void}, declared.ctype.CType.CType, declared.ctype.Mode.Mode, declared.ctype.Mode.TheVariants.{Locked, Private}, declared.ctype.Path.Path, declared.ctype.Path.TheVariants.{One, Through}, declared.token.Keyword.Keyword, declared.token.Keyword.TheVariants.Scast, declared.token.NumberType.NumberType, declared.token.Site.Site, declared.token.Span.Span, declared.token.Token.Token, declared.token.TokenKind.TokenKind, declared.tree.declaration.Declaration.Declaration, declared.tree.declaration.Identifier.Identifier, declared.tree.declaration.WrittenType.WrittenType, declared.tree.expression.Constant.Constant, declared.tree.expression.Constant.TheVariants.{Character, Null, Number}, declared.tree.expression.Expr.Expr, declared.tree.expression.FieldOperator.FieldOperator, declared.tree.expression.FieldOperator.TheVariants.{Arrow, Dot}, declared.tree.expression.PlaceCall.PlaceCall, declared.tree.expression.PlaceCall.TheVariants.Free, declared.tree.expression.UnaryOperator.UnaryOperator, declared.tree.expression.UnaryOperator.TheVariants.{Complement, Dereference, Negate, Not}, declared.tree.item.GlobalDefinition.GlobalDefinition, declared.tree.item.GlobalForm.GlobalForm, declared.tree.item.GlobalForm.TheVariants.{Array, Initial, Plain}, declared.tree.item.StructDefinition.StructDefinition, declared.tree.statement.Stmt.Stmt}
pub use Rattle.sharc_names.specs.{Kinds.{Kind, agrees, array, common, declared_kind, element_kind, int, is_array, is_integer, is_integral, is_long, is_null, is_pointer, long, null, object, promoted, same_base, same_kind, stars_of, void}, Names.{Entry, Meaning, StructMeaning, StructTable, defined, field_of, global_kind, is_function, is_main, kind_of, known, look_up, named_of, named_struct, struct_of}, Needs.{agreed, called, fits, met, misfit, misfit_of, place, unagreed, unmet, used_call}, Notes.{Findings, Note, fault, fault_unless, fault_where, faults, is_free, noted, referred, refers, set_if_free, yields}, Types.{allowed_there, base_notes, field_among, field_in, field_kind, field_notes, first_kind, holds_void, is_allowed, is_fine, is_known, main_notes, mode_notes, modes_notes, name_kind, name_notes, path_notes, second_in, second_notes, struct_note, type_notes}, Wants.first_wanted, declared.fault.FaultCode.FaultCode, declared.fault.FaultCode.TheVariants.{ArgumentCount, BadForm, DefinedTwice, LimitPassed, NoLvalue, NoMain, TypeMismatch, TypeNotAllowed}, declared.fault.Named.Named, declared.meaning.ConditionCall.ConditionCall, declared.meaning.ConditionCall.TheVariants.{Broadcast, Signal, Wait}, declared.need.Need.Need, declared.need.Need.TheVariants.{Indexed, Integer, Value}, declared.scope.Scope.Scope, declared.types.Role.Role}
pub use Rattle.sharc_ctype.specs.{Condition.{call_entry, defines_condition, known_in, with_conditions}, Constants.{is_among, is_assigned_by, is_assigned_in, is_constant, stands_left}, Entities.{cast_entity, casts, declared, entities_in, entity_at, first_depth, first_entities, head_entities, is_told_by, item_entities, local_entities, numbered, numbered_from, positions_in, positions_of, result_of, statement_entities, statements_entities, written_modes}, Expressions.{access_need, are_fine, binary_kind, binary_notes, binary_result, call_kind, call_result, callee_notes, can_spawn, cast_kind, cast_notes, class_of, constant_kind, count, element_of, is_function_name, is_place, keeps_kind, may_join, may_spawn, names_function, notes_at, notes_of_all, number_kind, operand_need, operands_need, place_call_kind, place_call_notes, place_kind, place_notes, spawn_kind, spawn_notes, spawn_wanted, suits, type_of, unary_kind, unary_result, value_call_kind}, Globals.{base_initial_notes, global_notes, item_cells, item_size_notes, length_notes, sizes_notes}, Heads.{Heading, behind, behind_all, function_entry, global_entry, head_notes as item_head_notes, heads_notes, no_heads, with_entry, with_struct, within}, Items.{IsTyped, fields_notes, file_scope, function_notes, has_main, in_body, item_notes, items_notes, main_missing, named_in, notes_about, nothing_found, parameters_notes, program_notes}, Reaches.name_tokens, Resolved.{IsResolved, Resolution, called_kind, declaration_at, declarations_in, declarations_of, declared_at, function_at, functions_in, global_at, global_kind_of, globals_in, kind_at, named_at, named_kind, result_kind_of, structs_in, variable_kind}, Statements.{Around, count_notes, declared_notes, first_locals, first_notes, head_notes, in_head, initial_notes, is_aggregate, is_here, is_made, local_notes, locals_in, locals_in_all, looping, notes_in, notes_in_all, opened, return_notes, returned_as, right_notes, simple_notes, step_notes, test_notes, tests_notes, wanted_by, with_names}, Transfers.{IsFair, Transfer, argument_transfers, first_transfers, function_transfers, gives, local_transfers, lvalue, parameters_named, parameters_of, passed, result, right_transfers, simple_transfers, statement_transfers, statements_transfers, transfers, variable}, Variables.{all_with_value, initialised, initialised_first, initialised_in, initialised_in_all, variable as variable_in, variable_of, with_value}, declared.entity.Entity.Entity, declared.entity.Numbered.Numbered, declared.expr.OperatorClass.OperatorClass, declared.expr.OperatorClass.TheVariants.{Arithmetic, Shift}, declared.expr.Standing.Standing, declared.expr.Standing.TheVariants.{AsLvalue, AsValue}}
pub use Rattle.sharc_ctype_laws.specs.{Constraints.{HasType, IsMemberOf, a_field, a_field_behind, a_function, a_global, a_variable, element_of_array, element_of_pointer, in_parentheses, pointed_to, struct_named}, Declared.{IsItself, NameThemselves}, Found.{EachTypeFound, IsFound}, Laws.{AllFair, EachNameOnce, EachNamesItself, IsToldOnce, MeetsConstraints, NamesInTypes, OneType, OnlyNames, SameKinds, Tells}, Places.{Placing, at, places_in, places_in_all, places_in_first, places_in_local, places_of, places_of_all}, WrittenTypes.{FirstNames, IsNamedBase, IsNamedLevel, IsNamedPath, IsNamedType, NamesStruct, a_known_call, types_in, types_in_arguments, types_in_declarations, types_in_first, types_in_head, types_in_item, types_in_items, types_in_local, types_in_option, types_in_right, types_in_simple, types_in_statement, types_in_statements}}
pub use Rattle.sharc_mode.specs.{Cells.{cell_at, top_of}, Errors.is_mismatch, Expressions.{expected, notes_of, option_notes}, Moded.{Assignment, IsWhole}, Notes.{agree, agree_notes, base_of, call_notes, error_of, error_where, errors_by, first_unmet, is_field_role, is_named, is_private_level, levels_of, mismatch, names_at_call, names_in, names_in_all, names_in_level, names_of, names_read, parameter_names, printed_type, private_field_notes, private_notes, shown, sibling_notes, source_notes, span_text, taken_variable, takes, unmet_notes, write_notes}, Rows.{PathReading, Targets, argument_use, at_call, base_use, called_row, cast_row, constant_row, constant_use, declared_row, deeper, entity_row, global_row, is_constant_named, lock_for, lock_through, modes_at, modes_of, named_row, no_row, path_variable, read, read_lock, reading_through, result_row, row_at, targets_from, through, unary_row, with_base, written}, Sharings.{Lock, Sharing, is_field, is_readonly, is_sibling, is_sibling_lock, lock_of, locked, mode_of, object_named, object_of, path_of, path_with, same, same_all, same_first, same_named, same_second, same_text, sharing_of, text_at, text_of, variable_named}, WellFormed.{first_unfit_mode, first_unfit_path, holds_private, place_of}, WellModed.{has_private_target, is_spawned, parameter_notes, spawned_notes, touched_notes}, declared.error.Cast.Cast, declared.error.ErrorCode.ErrorCode, declared.error.ErrorCode.TheVariants.{CastChangesInnerMode, ModeMismatch, NamedByLockPath, PrivateField, PrivateReachesThread, PrivateTarget, ReadonlySource, ReadonlyWrite}, declared.error.ModeError.ModeError, declared.finding.Finding.Finding, declared.finding.Finding.TheVariants.{Names, Takes, Wrong}, declared.position.Reason.Reason}
pub use Rattle.sharc_infer_laws.specs.Locks.{HasWrittenLocks, IsWrittenLock}
pub use Rattle.sharc_check.specs.Named.{said_of_paths}
pub use Rattle.sharc_suggest.specs.{Casts.{IsSuggested, cast_at, suggested_for, suggested_in}, Givings.{Giving, Receiver, after, all_givings, behind_first, beyond, first_givings, givings, givings_in, givings_in_all, head_givings, item_givings, items_givings, local_givings, of_declared, of_left, of_parameter, one_giving, option_givings, right_givings, simple_givings, value_givings, wanted, wanted_of, with_parameters}, Repairs.{begins_call, cast_to, differ_first, entry_of, is_call_name, is_identifier, is_locked, is_repairable, keeps, keeps_all, keeps_first, keeps_named, may_be_cast, repair_with}}
unfoldable pub use Rattle.sharc_suggest.specs.Repairs.{is_call_at}
pub use Rattle.sharc_suggest_laws.specs.{Applied.{assignment_with, base_site, first_new, first_of, inserted, moved, names_struct, program_with, recast_of, resolution_with, targets, written_or}, Expected.{Agrees, CastHasExpected, HasExpected, IsCastAt, SuggestedStands}, Givings.{giving_with, receiver_with}, Gone.{GoneWhereExpected, IsExpectedAgain, IsGone}, Kept.{DeclarationsStay, PositionsStay, TypesStay, renumbered}, Mismatches.{OneMismatch, is_mismatch_at}, Names.{KeepsName, NamesStayWhereTyped, is_dull}, Once.{IsAddedOnce, SuggestedIsAddedOnce}, Recast.{all_with_cast, around, first_with_cast, function_with_cast, head_with_cast, is_there, item_with_cast, local_with_cast, program_with_cast, right_with_cast, simple_with_cast, statement_with_cast, statements_with_cast, type_at, with_cast}, Repaired.RepairsWhereTyped, Typed.StaysTyped, Values.{ValuesBeginApart, begins_at, count_of, met_at, met_by, met_in_first, met_in_head, met_in_item, met_in_items, met_in_local, met_in_right, met_in_simple, met_in_statement, met_in_statements, met_inside, met_inside_all, of_option}, declared.written.Recast.Recast}
