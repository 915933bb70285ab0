-- What the proofs cite of std, of other crates and of this crate's definitions, passed on from one place.
pub use Rattle.std.proofs.{Common.{Bool, List, None, OnOk, Option, Result, Some, [], ap, append_assoc, arith, drop, false, get_or, inl, inr, length, length-append, map, min, refl, replicate, set, subst, suc, sym, true, zero, ℕ, ◌++◌, ◌+◌, ◌<◌, ◌∙◌, ◌∷◌, ◌≡◌, ◌≤◌, ◌⊎◌}, lemmas.Bool.{cases_Bool, cases_eq, cases_lt, false≢true, lt-ltb, ltb-true}, lemmas.Grind.flat_map-append, lemmas.List.{append-nil, drop_all, get_or-map, get_or-replicate, get_or-set_other, get_or-set_same, get_or_append_left, get_or_default, get_or_past, get_or_push, length-map, length-replicate, length-set, set_past}}
pub use Rattle.std.specs.{List.{All, flat_map}, Prelude.{Contains, IsSomeAnd, nat_lt}}
pub use Rattle.sharc_lemmas.proofs.{Lists.{contains_behind, first_of_rest as from_place, head_there as contains_here, there_is as some_inside}, Options.{none_some as none_not_some, same_some, some_and}}
pub use Rattle.sharc_graph.specs.{Findings.finding_at, Flow.{AreInferred, IsInferred, IsOrigin, IsUnwritten, flow_of, is_source, is_unwritten, place_at}, Paths.IsWithin, declared.graph.NodeFinding.NodeFinding, declared.graph.NodeFinding.TheVariants.{Apart, Behind, Source}, declared.place.Link.Link, declared.place.PositionKind.PositionKind}
pub use Rattle.sharc_tree.specs.{Children.{view_block, view_call}, Measures.{expressions, in_arguments, in_statement, in_statements}, Tree.{Expression, Function, Program, argument, no_arguments, value}, View.{view_arguments, view_expr, view_item, view_statements, view_stmt}, declared.ctype.Mode.Mode, declared.ctype.Mode.TheVariants.Private, declared.tree.declaration.Declaration.Declaration, declared.tree.expression.Expr.Expr, declared.tree.item.GlobalDefinition.GlobalDefinition}
pub use Rattle.sharc_ctype.specs.{Entities.{entities_in, entity_at, numbered, numbered_from, positions_in, positions_of}, Reaches.{IsReached, NamesGlobal}, Resolved.{Resolution, function_at, functions_in, global_at, globals_in, named_at}, Transfers.{Transfer, argument_transfers, gives, parameters_named, passed, statement_transfers, statements_transfers, transfers, variable}, declared.entity.Entity.Entity, declared.entity.Numbered.Numbered}
pub use Rattle.sharc_reach.specs.Reaching.{AreReached, IsFirstOf, Reaching, first_of, is_chosen}
pub use Rattle.sharc_mode.specs.{Flows.{ArePlaces, IsFirst, IsLeastAssignment, IsPassedTo, IsPlaceFor, IsReasonFor, IsRoot, IsRootReason, IsTouchedIn, cast_links, equal_rows, item_links, levels_down, links_of, mode_found}, Moded.position_count, Rows.{declared_row, row_at, written}, Settled.{settled, settled_at, settled_in, settled_modes}, declared.position.Reason.Reason, declared.position.Reason.TheVariants.{From, Spawned, Touched}}
pub use Rattle.sharc_infer.specs.{Links.{casts_in, given, given_by}, Positions.{AreModesOf, ArePlacesOf, AreReasonsOf, place_of, reason_of, root_of, settled_of}, Roots.{Roots, mark_all, marked, pass, passed_below, rooted, roots_of, touch, touched_below}}
