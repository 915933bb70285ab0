-- What the proofs cite of std, of other crates and of this crate's definitions, passed on from one place.
pub use Rattle.std.proofs.{Common.{Bool, Contains, List, None, Option, Some, [], ap, arith, cond, drop, eqb-true, ext_get_or, false, get_or, inl, inr, is_some, length, map, not, refl, subst, suc, sym, take, true, zero, ℕ, ⊎_elim, ◌&&◌, ◌++◌, ◌+◌, ◌<◌, ◌==◌, ◌||◌, ◌∙◌, ◌∷◌, ◌≡◌, ◌≤◌, ◌⊎◌}, lemmas.Bool.{and_parts, false≢true, or_left, or_right}, lemmas.List.{drop-drop, get_or-append-add, get_or_append_left, length-append}, lemmas.List.Elements.{All-contains, All-from_recursion, Contains-append_left, Contains-append_left as before, Contains-append_right as behind}}
pub use Rattle.std.specs.{List.{AllByRecursion, find, flat_map, list_any}, Option.option_or, Prelude.slice_get}
pub use Rattle.sharc_lemmas.proofs.{Lists.{at_place as at_get, both, contains_behind, head_there, of_each}, Options.some_and}
pub use Rattle.sharc_graph.specs.{Findings.finding_at, Flow.{AreInferred, Flow, FlowsTo, IsInferred, IsInferredRank, IsInferredReason, IsOrigin, IsRankFor, flow_of, is_unwritten, place_at}, declared.graph.NodeFinding.NodeFinding, declared.graph.NodeFinding.TheVariants.{Apart, Behind, Source}, declared.place.PositionKind.PositionKind}
pub use Rattle.sharc_tree.specs.{Placed.{Follow, IsPlaced, PlacedDeclaration, PlacedDeclarations, PlacedItem, PlacedItems, declaration_spans, item_spans}, Texts.{mode_text, path_text}, Tree.{Function, Item, function, global, structure}, declared.ctype.Base.Base, declared.ctype.Mode.Mode, declared.ctype.Mode.TheVariants.{Dynamic, Locked, Private, Racy}, declared.ctype.Path.Path, declared.token.Span.Span, declared.token.Token.Token, declared.tree.declaration.Declaration.Declaration, declared.tree.item.GlobalDefinition.GlobalDefinition}
pub use Rattle.sharc_names.specs.{declared.fault.Named.Named, declared.types.Role.Role}
pub use Rattle.sharc_ctype.specs.{Entities.{entities_in, entity_at, first_depth, is_told_by, numbered, numbered_from, positions_of, written_modes}, Resolved.{Resolution, function_at, functions_in, global_at, named_at}, Statements.locals_in_all, declared.entity.Entity.Entity, declared.entity.Numbered.Numbered}
pub use Rattle.sharc_ctype_laws.specs.Declared.{IsItself, NameThemselves}
pub use Rattle.sharc_mode.specs.{Flows.{ArePlaces, IsFirst, IsLeastAssignment, IsPassedTo, IsPlaceFor, IsReasonBy, IsReasonFor, IsRootReason, IsTouchedIn, IsUnsettledPlace, Touches, inferred_mode, links_of, mode_found}, Laws.{SettledAreCounted, SettledStay}, Moded.{Assignment, position_count, reason_at}, Notes.{error, error_where, is_field_role, is_private_level, levels_of, mismatch, mode_notes, names_in, names_in_level, names_of, no_type, path_notes, position_levels, printed_type, private_field_notes, private_notes, top_levels, type_notes}, Settled.{field_target, is_mutex, otherwise_of, settled, settled_at, settled_in, settled_modes}, Sharings.{Sharing, locked, object_of, sharing_of, text_at}, WellFormed.{begins_private, first_unfit_mode, first_unfit_path, holds_private, is_private_mode, lowest, meant, place_of}, declared.error.ErrorCode.ErrorCode, declared.error.ErrorCode.TheVariants.{LockPathNotConstant, ModeNotAllowed, PrivateField, PrivateTarget}, declared.finding.Finding.Finding, declared.finding.Finding.TheVariants.Wrong, declared.position.Reason.Reason, declared.position.Reason.TheVariants.{From, Spawned, Touched}}
pub use Rattle.sharc_infer_laws.specs.{Laws.{FindingsAreOne, IsOneRoot}, Locks.{HasWrittenLocks, IsWrittenLock, LeastHasWrittenLocks}, Types.{IsTold, TypesAreTold, code_of}}
