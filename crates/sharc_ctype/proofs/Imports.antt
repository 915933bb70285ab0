-- What the proofs cite of std, of other crates and of this crate's definitions, passed on from one place.
pub use Rattle.std.proofs.{Common.{Bool, List, None, OnOk, Option, Result, Some, [], add-one, ap, append_assoc, arith, bit_or, cond, drop, drop-cons, false, fold, get_or, is_some, length, length-append, map, min, nat_lt, not, refl, subst, suc, sym, take, true, w64, zero, ℕ, ◌%◌, ◌&&◌, ◌*◌, ◌++◌, ◌+◌, ◌-◌, ◌<◌, ◌==◌, ◌^◌, ◌||◌, ◌∙◌, ◌∷◌, ◌≡◌, ◌≢◌, ◌≤◌}, Math.Bool.or-false, lemmas.Bool.eqb-true, lemmas.Bool.Decides.nat_tests, lemmas.Grind.common_steps, lemmas.List.Folds.list_any-append, lemmas.List.Sums.fold-append, lemmas.Nat.Bits.{bit_at_set_other, bit_at_set_same}, lemmas.Option.{slice_get-map, slice_get_read}}
pub use Rattle.std.specs.{Borrow.Bor, Int.bit_at, List.{find, list_any, position_from, slice_get}, Option.{IfSome, option_and_then, option_copied, option_map, option_or}}
pub use Rattle.sharc_lemmas.proofs.Lists.{first_of_rest}
pub use Rattle.sharc_tree.specs.{Children.{view_block, view_call}, Measures.{expressions, in_arguments, in_right, in_simple}, Tree.{Arguments, Expression, First, Item, Local, Program, Right, Simple, Statement, Statements, argument, assign, binary, block, call, cast, constant, declare, declares, does, does_call, empty, field, for, function, global, identifier, if_then, if_then_else, index, jump, malloc, no_arguments, no_statements, nothing, on_place, on_value, parentheses, return, simple, spawn, statement, structure, unary, value, while}, View.{view_arguments, view_expr, view_item, view_items, view_program, view_right, view_simple, view_statements, view_stmt}, declared.token.Span.Span, declared.tree.declaration.Declaration.Declaration, declared.tree.declaration.Identifier.Identifier, declared.tree.declaration.WrittenType.WrittenType, declared.tree.expression.Expr.Expr, declared.tree.item.Item.{Item as RustItem}, declared.tree.item.StructDefinition.StructDefinition}
pub use Rattle.sharc_names.specs.{Kinds.Kind, Names.{Entry, look_up, variable}, Needs.{agreed, met, unagreed, unmet}, Notes.{Findings, IsAnswer, Note, fault, fault_unless, fault_where, faults, noted, refers, yields}, Types.type_notes, View.{view_bounds, view_kinds, view_wanted}, Wants.first_wanted, declared.fault.Fault.Fault, declared.fault.FaultCode.TheVariants.LimitPassed, declared.need.Need.TheVariants.Value, declared.scope.Scope.Scope, declared.types.Role.Role}
pub use Rattle.sharc_ctype.specs.{Constants.{HasConstants, is_among, is_assigned_by, is_assigned_in, is_constant}, Entities.{cast_entity, casts, declared, entities_in, is_told_by, numbered, numbered_at, numbered_from, positions_in, positions_of, statement_entities, statements_entities}, Expressions.{are_fine, call_kind, call_result, callee_notes, count, notes_at, notes_of, notes_of_all, type_of, wanted}, FirstEntities.{AreNumbered, EntityRows, HasEntityPlace, HasFirstEntities, entities_of, entity_place, row_at}, FirstPlaces.{HasFirstPlaces, HasPlace, PlaceRows, place_of}, Globals.{global_notes, item_cells, item_size_notes, sizes_notes}, Heads.{behind_all, heads_notes, no_heads, twice, within}, Items.{IsTyped, beyond, field_notes, fields_notes, file_scope, function_notes, items_notes, main_missing, nothing_found, parameters_notes, program_notes, with_parameters}, Layouts.pointer_cells, Resolved.{Resolution, declarations_in, declared_at, function_at, functions_in, global_at, globals_in, named_at, struct_at, structs_in}, Statements.{Around, after, after_all, behind_first, is_here, locals_in, locals_in_all, notes_in, notes_in_all, opened, with_names}, Tables.{as_function, as_global, as_structure, has_form, places_of}, Transfers.{Transfer, argument_transfers, first_transfers, in_option, local_transfers, parameters_named, passed, right_transfers, simple_transfers, statement_transfers, statements_transfers, transfers}, Variables.{all_assigned, all_with_value, assigned, assigned_first, assigned_in, assigned_in_all, assigned_step, initialised_in, initialised_in_all}, View.view_around, declared.entity.Entity.Entity, declared.entity.Numbered.Numbered, declared.expr.Standing.Standing, declared.tables.ItemForm.ItemForm}
