-- What the proofs cite of std, of other crates and of this crate's definitions, passed on from one place.
pub use Rattle.std.proofs.{Common.{Bool, List, None, Option, Some, [], add-zero, ap, append_assoc, arith, cond, drop, false, get_or, if◌then◌else◌, length, length-append, map, max, min, nat_eq, refl, replicate, reverse, set, subst, suc, sym, take, true, unwrap_or, zero, zero-add, ℕ, ◌%◌, ◌*◌, ◌++◌, ◌+◌, ◌-◌, ◌/◌, ◌<◌, ◌^◌, ◌∙◌, ◌∷◌, ◌≡◌, ◌≤◌}, lemmas.Bool.Decides.nat_tests, lemmas.Grind.common_steps, lemmas.List.{append-nil, drop-drop, drop-set-lt, drop_all, drop_at, get_or-drop, length-drop, length-map, length-set, length_push, reverse-append, set-append_right, take-append-drop, take_all, take_at, take_min, take_more, take_more_set}, lemmas.List.Recursion.is_position_or_len, lemmas.Map.Text.hash_map_updates_str, lemmas.Option.{get_or_from_slice_get, slice_get-map, slice_get_within}, lemmas.Result.on_ok_weaker, lemmas.Slice.Eq.bytes_eq-Decides}
pub use Rattle.std.specs.{List.position_or_len, Option.{option_map, option_map_or}, Prelude.{nat_lt, position, slice_get, ◌==◌}, Str.bytes_eq}
pub use Rattle.sharc_lemmas.proofs.Lists.{got}
pub use Rattle.sharc_tree.specs.{Children.{view_block, view_call}, Spans.span_of, Texts.{blank_between, tokens_text}, Tree.{Arguments, Expression, Function, Simple, Statement, Statements, binary, block, call, declare, if_then_else, index, no_statements, statement}, View.{view_arguments, view_expr, view_function, view_option, view_simple, view_statements, view_stmt}, declared.token.Site.Site, declared.token.Span.Span, declared.token.Token.Token, declared.tree.declaration.Declaration.Declaration, declared.tree.declaration.Identifier.Identifier, declared.tree.expression.BinaryOperator.BinaryOperator, declared.tree.expression.BinaryOperator.TheVariants.{LogicalAnd, LogicalOr}, declared.tree.item.GlobalDefinition.GlobalDefinition, declared.tree.item.StructDefinition.StructDefinition}
pub use Rattle.sharc_names.specs.{Kinds.{declared_kinds, element_kind, is_array}, declared.fault.Named.Named, declared.kind.ExpressionKind.{ExpressionKind as RustKind}}
pub use Rattle.sharc_ctype.specs.{Resolved.{Resolution, function_at, functions_in, global_at, globals_in, kind_at, named_at, structs_in}, Transfers.parameters_named}
pub use Rattle.sharc_mode.specs.Moded.{Assignment}
pub use Rattle.sharc_meaning.specs.{Cells.{element_cells, field_place_in, global_elements, place_in, struct_cells}, State.is_reference, Store.form_value}
pub use Rattle.sharc_code.specs.{Arithmetic.word_of, Path.{most_ints, most_refs}, declared.code.Function.{Function as Row}, declared.code.GlobalCells.GlobalCells, declared.code.Layout.Layout, declared.code.Text.Text}
pub use Rattle.sharc_flat.specs.{Flattened.{Around, arguments_code, behind_statement, behind_statements, binary_code, called_code, choice_code, expression_code, function_code, functions_code, guard_of, if_code, ints_of, is_ref, loop_code, looping, lvalue_code, place_code, refs_of, result_code, return_code, row_of, rows_of, statement_code, statements_code, step_code, struct_layout, test_code, truth_code, turn_code, turns_code, zero_code}, Flattens.names_of, Frames.{ints_in, refs_in}, Laid.{AreNamed, AreTexts, AreTold, IsNamed, spot_in, words_of}, Machine.first_cell, Places.{bounds_code, global_of, index_code, own_field, target, width_code}, Scope.{Context, at_site, int_count, leaves, pops, ref_count, register_from, slot_of}, Tables.{all_first_words, all_granules, all_pointers, cells_in, first_words, globals_from, globals_of, granules_in, layouts_from, layouts_of, pointers_among, pointers_of}, declared.flat.LineTexts.LineTexts, declared.op.Op.Op, declared.op.Op.TheVariants.{Enter, IsFalse, Jump, Return, Skip, SkipIfZero}, declared.op.Spot.Spot, declared.slot.Slot.Slot}
pub use Rattle.sharc_flatten.specs.{Lookups.{HasCells, HasFields, HasLayouts, HasPlaces, HasRow, Places, Rows, place_found, row_at}, Places.{Grows, LiesIn, places_from}, Sizes.IsFew, View.{around_of, block_code, context, decided_code, element_code, finished, holds_references, hole_at, hole_of, index_register, indexed_code, innermost, operation_code, outermost}, declared.bodies.Around.{Around as RustAround}, declared.patch.Hole.Hole, declared.row.StructRow.StructRow, declared.source.PlacedProgram.PlacedProgram}
