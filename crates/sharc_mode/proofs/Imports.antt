-- What the proofs cite of std, of other crates and of this crate's definitions, passed on from one place.
pub use Rattle.std.proofs.{Common.{Bool, List, None, Option, Some, [], add-one, ap, append_assoc, arith, cond, drop, false, if◌then◌else◌, inl, inr, length, length-append, map, min, nat_eq, refl, rules, subst, suc, sym, take, true, zero, ℕ, ◌&&◌, ◌++◌, ◌+◌, ◌-◌, ◌<◌, ◌==◌, ◌∙◌, ◌∷◌, ◌≡◌, ◌≢◌, ◌≤◌, ◌⊎◌}, lemmas.Bool.{cases_lt, false≢true, ne_eqb}, lemmas.Bool.Decides.nat_tests, lemmas.List.{drop_all, get_or-drop, get_or_past, length-drop, map-append, take_more}, lemmas.List.Elements.{All-append, All-cons, All-get_or, All-nil}}
pub use Rattle.std.specs.{List.{All, find, flat_map}, Prelude.{Contains, slice_index_or as get_or}}
pub use Rattle.sharc_lemmas.proofs.Bools.{same_test}
pub use Rattle.sharc_graph.specs.{Findings.finding_at, Flow.{HasLink, IsFirstFor, IsOrigin, IsUnwritten, flow_of, is_source, is_unwritten, link_of, place_at}, FlowLaws.{FlowLaws, IsClosed, IsDynamic}, Make.{below_links, equal_links}, Paths.{IsWithin, edge_of}, declared.graph.NodeFinding.NodeFinding, declared.graph.NodeFinding.TheVariants.{Apart, Behind, Source}, declared.place.Link.Link, declared.place.PositionKind.PositionKind}
pub use Rattle.sharc_tree.specs.{Measures.in_function, Tree.{Expression, Function, Item, Right, argument, binary, call, cast, constant, field, function, global, identifier, index, malloc, no_arguments, on_place, on_value, parentheses, spawn, structure, unary, value}, View.{view_arguments, view_expr}, declared.ctype.Base.Base, declared.ctype.Mode.Mode, declared.ctype.Mode.TheVariants.{Dynamic, Locked, Private, Racy, Readonly}, declared.token.Span.Span, declared.tree.declaration.Declaration.Declaration, declared.tree.declaration.WrittenType.WrittenType, declared.tree.expression.Constant.Constant, declared.tree.expression.Constant.TheVariants.{Character, Null, Number}, declared.tree.expression.Expr.Expr, declared.tree.expression.UnaryOperator.UnaryOperator, declared.tree.expression.UnaryOperator.TheVariants.{Complement, Dereference, Negate, Not}, declared.tree.item.GlobalDefinition.GlobalDefinition}
pub use Rattle.sharc_names.specs.{Kinds.is_array, declared.fault.Named.Named, declared.types.Role.Role}
pub use Rattle.sharc_ctype.specs.{Entities.{entities_in, entity_at, is_told_by, numbered, numbered_from, positions_in, positions_of, written_modes}, Resolved.{Resolution, function_at, functions_in, global_at, globals_in, kind_at, named_at}, Transfers.{Receiver, function_transfers, lvalue, result, variable}, declared.entity.Entity.Entity, declared.entity.Numbered.Numbered}
pub use Rattle.sharc_mode.specs.{Cells.{first_of, pointed, top_of}, Expressions.items_notes, Flows.{ArePlaces, IsLeastAssignment, IsPlaceFor, IsReasonFor, IsRoot, cast_links, equal_rows, function_links, inferred_mode, item_links, levels_down, links_of, mode_found, receiver_row, source_row, transfer_links, written_place}, Moded.{Assignment, mode_at, position_count, reason_at}, Notes.{error_where, errors_of, is_private_level, printed_top, type_notes}, Pairs.{AreCast, AreEquated, AreGiven, AreLevel, IsBelow, IsEnough, mode_by, mode_given}, Rows.{PathReading, Targets, argument_use, base_use, behind, called_row, cast_row, constant_row, constant_use, declared_row, deeper, entity_row, global_row, modes_of, named_row, no_row, read, reading_through, result_row, row_at, targets_from, unary_row, written}, Settled.{otherwise_of, settled, settled_at, settled_in, settled_modes}, Sharings.{Sharing, is_dynamic, mode_of, private, same, same_all, same_levels, sharing_of}, View.{view_reading, view_row, view_rows, view_sharing}, WellModed.{AreModeErrors, mode_errors, spawned_notes, touched_notes}, declared.error.ErrorCode.TheVariants.PrivateReachesThread, declared.error.ModeError.ModeError}
