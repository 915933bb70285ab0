-- What the proofs cite of std, of other crates and of this crate's definitions, passed on from one place.
pub use Rattle.std.proofs.{Common.{Bool, Contains, List, None, OnOk, Option, Some, [], add-one, ap, append_assoc, arith, cond, drop, drop-cons, eq-eqb, eqb-true, false, fold, get_or, inl, inr, is_some, length, map, max, ne_eqb, not, refl, replicate, reverse, rules, set, slice_get, subst, suc, sym, take, true, zero, ℕ, ⊎_elim, ◌&&◌, ◌++◌, ◌+◌, ◌<◌, ◌==◌, ◌||◌, ◌↔◌, ◌∙◌, ◌∷◌, ◌≡◌, ◌≤◌, ◌⊎◌}, Math.ListN.get_or-map, lemmas.Bool.{and_from, and_left as first_fails, and_parts, and_right as second_fails, false≢true, not_from_true as false_not, or_cases, or_from as false_or, or_left, or_parts as or_false, or_right, true_from_ne_false as true_by, true≢false}, lemmas.Bool.Decides.nat_tests, lemmas.Cmp.{nat_cmp_total, on_total, then_total, tied_itself, upto}, lemmas.Grind.{common_steps, get_or-set_at}, lemmas.List.{append-nil, get_or-drop, get_or-replicate, get_or-set_other, get_or-take, length-drop, length-map, length-replicate, length-set, length-take-le}, lemmas.List.Elements.{Contains-append_cases, Contains-append_left, Contains-append_right}, lemmas.List.Sorted.{answers_always, length_permutation}, lemmas.Option.slice_get_within}
pub use Rattle.std.specs.{Cmp.IsTotalOrder, List.{AllByRecursion, filter, flat_map, list_any}, List.Sorted.{IsSortedBy, ties}, Option.{option_map, option_or}, Ordering.{is_gt, is_lt, ordering_reverse}, Prelude.{IfSome, unwrap_or}, declared.cmp.Ordering.Ordering, declared.cmp.Ordering.TheVariants.{Equal, Greater, Less}}
pub use Rattle.sharc_lemmas.proofs.{Bools.{both as both_true, false_true, not_ended as not_both, not_true as not_above, or_assoc, or_false as or_none, or_split as either, same_test}, Equal.none_there, Lists.{back, both, each, front, head_or_tail, head_there, in_list as place_there, no_head, none_of, of_each, place_of_element, tail_there, to_each}, Numbers.{same_is as equal_number, same_number}, Options.{and_some, none_some, same_some, some_there}}
pub use Rattle.sharc_tree.specs.{Children.{view_block, view_call}, Forms.without_parentheses, Measures.{expressions, in_arguments, in_first, in_function, in_head, in_local, in_right, in_simple, in_statement, in_statements}, Spans.span_of, Tree.{Arguments, Expression, First, Function, Head, Item, Local, Right, Simple, Statement, Statements, argument, assign, call, declares, does, does_call, malloc, no_arguments, no_statements, nothing, statement, value}, View.{view_arguments, view_expr, view_items, view_statements, view_stmt}, declared.ctype.Base.Base, declared.ctype.Mode.Mode, declared.ctype.Mode.TheVariants.{Dynamic, Locked, Private, Racy, Readonly}, declared.ctype.Path.Path, declared.ctype.Path.TheVariants.{One, Through}, declared.token.Span.Span, declared.tree.declaration.Declaration.Declaration, declared.tree.declaration.Identifier.Identifier, declared.tree.declaration.WrittenType.WrittenType, declared.tree.expression.Expr.Expr, declared.tree.expression.FieldOperator.FieldOperator, declared.tree.expression.FieldOperator.TheVariants.{Arrow, Dot}, declared.tree.expression.PlaceCall.PlaceCall, declared.tree.expression.PlaceCall.TheVariants.{Free, Unlock}, declared.tree.item.GlobalDefinition.GlobalDefinition, declared.tree.item.StructDefinition.StructDefinition}
pub use Rattle.sharc_names.specs.{Kinds.{Kind, array, declared_kind, mutex, null, object}, Names.field_of, View.view_root, declared.fault.Named.Named, declared.types.Role.Role}
pub use Rattle.sharc_ctype.specs.{Constants.is_constant, Entities.{entities_in, numbered, numbered_from, positions_in, positions_of}, Reaches.{IsReached, IsTouched, Leads, Runs, Spawns, of_all, runs, spawns, tokens_of}, Resolved.{Resolution, declaration_at, function_at, functions_in, global_at, globals_in, kind_at, named_at, named_kind, struct_at}, Transfers.{Receiver, Transfer, argument_transfers, first_transfers, function_transfers, local_transfers, lvalue, parameters_named, passed, result, right_transfers, simple_transfers, statement_transfers, statements_transfers, transfers, variable}, declared.entity.Entity.Entity, declared.entity.Numbered.Numbered}
pub use Rattle.sharc_reach.specs.Reaching.{AreReached, IsFirstOf, Reaching, first_of, is_chosen}
pub use Rattle.sharc_mode.specs.{Cells.{cell_at, is_mutex_kind, pointed, top_of}, Errors.number_of, Expressions.{expected, first_notes, head_notes, item_notes, items_notes, local_notes, notes_in, notes_in_all, notes_of, notes_of_all, option_notes, place_notes, return_notes, right_notes, simple_notes}, Laws.ModeLaws, Moded.{Assignment, position_count}, Notes.{agree, agree_notes, base_of, call_notes, cast_notes, error_of, error_where, errors_by, errors_of, field_notes, first_unmet, is_field_role, is_named, is_private_level, levels_of, mismatch, mode_notes, names_at_call, names_in, names_in_all, names_in_level, names_of, names_read, parameter_names, path_notes, position_levels, private_field_notes, private_notes, shown, sibling_notes, source_notes, span_text, taken_variable, takes, top_levels, type_notes, unmet, unmet_by, unmet_for, unmet_in, unmet_level, unmet_notes, unmet_parameter, unmet_written, write_notes}, RowLaws.RowLaws, Rows.{PathReading, Targets, argument_use, at_call, base_use, cast_row, declared_row, deeper, is_constant_named, modes_at, modes_of, named_row, path_variable, read_lock, row_at, written}, Settled.is_mutex, Sharings.{Lock, Sharing, dynamic, is_readonly, is_sibling, is_sibling_lock, lock_of, locked, object_named, object_of, private, racy, readonly, same_all, text_at, variable_named}, View.{view_reading, view_row, view_rows, view_sharing}, WellFormed.{allows_path, allows_pointer, base_allows, begins_private, fields_behind, fields_named, fields_of, first_unfit_mode, first_unfit_path, holds_private, is_mutex_field, is_mutex_pointer, is_private_mode, is_racy_mode, is_readonly_lock, is_readonly_top, is_through_constant, leaves_open, level_allows, names_global_mutex, names_sibling_mutex, names_sibling_pointer, path_fits, place_of, top_allows, top_path_fits, unfit_mode, unfit_mode_in, unfit_path, unfit_path_in, unfit_top, unfit_top_path, unless}, WellModed.{AreModeErrors, TellsTouched, WellModed, all_spawned, has_private_target, is_spawned, mode_errors, names_function, notes_about, parameter_notes, spawned_notes, touched_notes}, declared.error.ErrorCode.ErrorCode, declared.error.ErrorCode.TheVariants.{CastChangesInnerMode, NamedByLockPath, PrivateField, PrivateReachesThread, ReadonlySource, ReadonlyWrite}, declared.error.ModeError.ModeError, declared.finding.Finding.Finding, declared.finding.Finding.TheVariants.{Names, Takes, Wrong}, declared.place.Place.Place}
pub use Rattle.sharc_check.specs.{Checks.{AreAll, IsRefused}, Constructs.{IsAssigned, IsCall, IsEntity, IsExpression, IsFunction, IsGiven, IsTaken, IsWritten, an_argument, assigned, called, cast_away, freed, initial, locals_in, locals_in_all, locals_in_first, returned, spawned}, Levels.holds_below, Named.{TellNamed, said_of_paths}, Orders.{IsInOrder, by_place, place_and_code}, Passed.{view_locks, view_passed}, Paths.{AreTargetsWritten, HasPath, IsAllowed, IsLockPointer, IsMutexBehind, IsNamedByPath, IsSiblingUse, IsThroughConstant, at_level, at_target, global_mutex, is_made, is_substituted, is_written, sibling_mutex, sibling_pointer, through, through_constant}, RuleLaws.{RulesAreMet, SpawnedAreTold}, Rules.{HasPrivateTop, IsModeAllowed, MeetsRules, NoneAbovePrivate, of_result, of_variable}, Settles.{marked, marks, past, past_all, settled, taken_errors}, Threads.{function_notes, global_notes, touched_by}}
