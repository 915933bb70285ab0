-- What the proofs cite of std, of other crates and of this crate's definitions, passed on from one place.
pub use Rattle.std.proofs.{Common.{Bool, IfSome, List, None, Option, Some, [], ap, ap₂, arith, bytes_eq, codes, cond, drop, eqb-true, false, if◌then◌else◌, inl, inr, is_some, length, lt-ltb, map, negsuc, not, pos, refl, replicate, slice_get, subst, suc, sym, take, true, zero, ℕ, ℤ, ⊎_elim, ◌&&◌, ◌*◌, ◌++◌, ◌+◌, ◌-◌, ◌/◌, ◌<◌, ◌==◌, ◌^◌, ◌||◌, ◌∙◌, ◌∷◌, ◌≡◌, ◌≤◌}, lemmas.Bool.{and_parts, false≢true, or_cases, or_parts as neither_open, true≢false}, lemmas.List.Elements.Contains-append_right, lemmas.Slice.Eq.bytes_eq-Decides}
pub use Rattle.std.specs.{List.{AllByRecursion, Contains, find, flat_map}, Option.option_or, Prelude.{IsSomeAnd, is_none, neg_ℤ, slice_index, slice_index_or, unsigned_abs}}
pub use Rattle.sharc_lemmas.proofs.{Bools.{and_false, no, not_true as not_false, or_false}, Lists.{back, both, front, no_head, none_of, there_is as inside, together}, Numbers.{half, one_less, same_is as eqb_same, some_star}, Options.{no_guard as no_token, none_some, same_some}}
pub use Rattle.sharc_graph.specs.{Findings.finding_at, declared.graph.NodeFinding.NodeFinding, declared.graph.NodeFinding.TheVariants.Apart}
pub use Rattle.sharc_tree.specs.{Forms.is_lvalue, Low.{LowItems, LowStatement, LowStatements, is_statement}, Measures.{expressions, in_arguments, in_first, in_function as expressions_in, in_local, in_option, in_right, in_simple, in_statement, in_statements}, Spans.span_of, Tree.{Arguments, Expression, First, Function, Item, Local, Right, Simple, Statement, Statements, argument, assign, binary, block, call, cast, constant, declare, declares, does, does_call, empty, field, for, function, global, identifier, if_then, if_then_else, index, jump, malloc, no_arguments, no_statements, nothing, on_place, on_value, parentheses, return, simple, spawn, statement, structure, unary, value, while}, declared.ctype.Base.Base, declared.ctype.Base.TheVariants.{Char, Int, Long, Mutex, Struct, Void}, declared.ctype.Mode.Mode, declared.ctype.Mode.TheVariants.{Dynamic, Locked, Private, Racy, Readonly}, declared.ctype.Path.Path, declared.ctype.Path.TheVariants.{One, Through}, declared.token.NumberType.NumberType, declared.token.Site.Site, declared.token.Span.Span, declared.tree.declaration.Declaration.Declaration, declared.tree.declaration.Identifier.Identifier, declared.tree.declaration.WrittenType.WrittenType, declared.tree.expression.BinaryOperator.BinaryOperator, declared.tree.expression.BinaryOperator.TheVariants.{Equal, Greater, GreaterOrEqual, Less, LessOrEqual, LogicalAnd, LogicalOr, NotEqual, ShiftLeft, ShiftRight}, declared.tree.expression.Constant.Constant, declared.tree.expression.Constant.TheVariants.{Character, Null, Number}, declared.tree.expression.FieldOperator.FieldOperator, declared.tree.expression.FieldOperator.TheVariants.{Arrow, Dot}, declared.tree.expression.PlaceCall.PlaceCall, declared.tree.expression.PlaceCall.TheVariants.{Free, Unlock}, declared.tree.expression.UnaryOperator.UnaryOperator, declared.tree.expression.UnaryOperator.TheVariants.{Dereference, Not}, declared.tree.expression.ValueCall.ValueCall, declared.tree.expression.ValueCall.TheVariants.{Join, Print}, declared.tree.item.GlobalDefinition.GlobalDefinition, declared.tree.item.GlobalForm.GlobalForm, declared.tree.item.GlobalForm.TheVariants.Initial, declared.tree.item.StructDefinition.StructDefinition, declared.tree.statement.Jump.Jump, declared.tree.statement.Jump.TheVariants.{Break, Continue}}
pub use Rattle.sharc_names.specs.{Kinds.{Kind, agrees, array, declared_kind, declared_kinds, element_kind, is_array, is_integer, is_integral, is_null, is_pointer, is_struct_base, null, object, same_base, same_kind}, Names.{Entry, Meaning, Signature, condition_parameters, field_of, look_up, named_of}, declared.fault.Named.Named, declared.meaning.ConditionCall.ConditionCall, declared.meaning.ConditionCall.TheVariants.Wait, declared.scope.Scope.Scope, declared.types.Role.Role}
pub use Rattle.sharc_ctype.specs.{Condition.{defines_condition, with_conditions}, Entities.{cast_entity, casts, declared as entity_declared, entities_in, entity_at, first_depth, first_entities, function_entities, head_entities, is_told_by, local_entities, numbered, numbered_from, positions_of, result_of, statement_entities, statements_entities, written_modes}, Expressions.{class_of, constant_kind, number_kind}, Heads.{Heading as Heads, behind, behind_all, function_entry, global_entry, no_heads}, Items.{file_scope, in_body, with_parameters}, Reaches.{of_all, spawns}, Resolved.{Resolution, declaration_at, function_at, functions_in, global_at, globals_in, kind_at, named_at, named_kind, structs_in, variable_kind}, Statements.{Around, after, behind_first, declared, first_locals, in_head, is_aggregate, is_here, locals_in, locals_in_all, looping, made, opened, with_names}, Transfers.{Agrees, IsFair, first_transfers, gives, in_option as option_transfers, parameters_named, parameters_of, result, right_transfers, simple_transfers, statement_transfers, statements_transfers, transfers}, declared.entity.Entity.Entity, declared.entity.Numbered.Numbered, declared.expr.OperatorClass.TheVariants.{Arithmetic, Equality, Logical, Relation, Shift}}
pub use Rattle.sharc_ctype_laws.specs.{Constraints.{Assignable, Callee, Common, Comparable, HasType, HaveTypes, IsInteger, IsMemberOf, IsPointer, IsScalar, a_call, a_cast, a_constant, a_field, a_field_behind, a_function, a_global, a_variable, arithmetic, both_shorter, complemented, denied, element_of_array, element_of_pointer, equated, freed, in_parentheses, integer, integers, joined, name_of, negated, none_left, null_and_pointer, null_pointer, of_conditions, of_program, one_more, pointed_to, pointer, pointer_and_null, pointers, printed_or_joined, related, shifted, spawned, struct_named, unlocked}, Declared.IsItself, Found.{EachTypeFound, IsFound}, Initials.{IsHeldBy, MeetsGlobal, MeetsInitial, number_of}, Laws.{AllFair, ArePlain, EachNamesFound, EachNamesItself, EachPathFound, IsPlain, MeetsConstraints, MeetsGlobals, MeetsStatements, NamesFound, OneType, SpawnsByName, SpawnsNameFunctions, SpawnsThreads, WithinLimits}, Paths.{AllLocalsStand, BodyStands, CastStands, EntryStands, FirstStands, IsAmong, IsClosed, IsVariableIn, LevelStands, LocalsStand, PathsAt, TypeStands, around_in, file_types, meaning_token}, Places.{Placing, at, places_in, places_in_all, places_in_first, places_in_local, places_of, places_of_all}, Rules.{AllMeet, IsHeld, Meets, MeetsFirst, MeetsReturn, MeetsRight, MeetsSimple, MeetsTest}, WrittenTypes.{FirstNames, IsNamedLevel, IsNamedType, a_known_call}}
pub use Rattle.sharc_mode.specs.{Cells.{cell_at, declared_cell, field_named, first_mode, first_of, global_cell, instance, is_behind_pointer, is_mutex_kind, named_cell, pointed, top_of, unary_cell, written_cell}, Expressions.items_notes, Flows.{IsLeastAssignment, mode_found}, Moded.{Assignment, mode_at}, Notes.{errors_by, mode_notes, names_in_level, path_notes, private_field_notes, private_notes, type_notes}, Rows.{PathReading, Targets, base_use, called_row, constant_row, constant_use, declared_row, deeper, entity_row, global_row, is_constant_named, named_row, no_row, read, reading_through, result_row, row_at, targets_from, through, unary_row, written}, Settled.{field_target, is_mutex, otherwise_of, settled, settled_at, settled_in, settled_modes}, Sharings.{Lock, Sharing, is_field, is_private, is_sibling_lock, lock_of, locked, private, racy, readonly, sharing_of, text_at}, WellFormed.{allows_path, allows_pointer, first_unfit_mode, first_unfit_path, leaves_open, path_fits, place_of, top_path_fits, unfit_path, unfit_path_in, unfit_top_path, unless}, WellModed.{WellModed, notes_about, spawned_notes, touched_notes}, declared.finding.Finding.Finding, declared.place.Place.Place, declared.place.Place.TheVariants.{Field, Global, Result}}
pub use Rattle.sharc_meaning.specs.{Cells.{element_cells, field_place, field_place_named, global_elements}, Expressions.number_named, Reference.constant_value, State.is_reference, Store.form_value}
pub use Rattle.sharc_code.specs.{Arithmetic.word_of, Ranges.{GlobalsFit, end_place, first_place}, Says.no_global, declared.code.Function.{Function as Row}, declared.code.GlobalCells.GlobalCells, declared.code.Text.Text, declared.code.Use.Use, declared.instr.Register.Register, declared.instr.Register.TheVariants.Reference}
pub use Rattle.sharc_flat.specs.{Flattened.{argument_words, arguments_code, around_body, behind_int, behind_ref, behind_statement, behind_statements, binary_code, body_at, called_code, cast_code, compare_code, condition_code, declared_lvalue, differ_code, drop_code, either_code, elements_code, expression_code, field_code, first_code, function_code, functions_code, guard_of, in_function, initial_code, ints_of, is_ref, jump_code, kind_of, local_code, logical_code, lvalue_code, lvalue_in, mode_of, named_code, parameters_scope, passed_code, place_call_code, place_code, refs_of, result_code, return_code, right_code, rows_of, simple_code, statement_code, statements_code, step_code, taken_guard, target_of, test_code, truth_code, turn_code, turns_code, unary_code, unary_place_code, value_call_code, wait_code, what_names, with_variable, with_words, zero_code}, Flattens.names_of, Laid.AreNamed, Machine.first_cell, Places.{Target, base_width, bounds_code, cell_store_code, cell_take_code, cell_value_code, copy_code, drop_base, global_of, guard_code, guard_field, guard_named, has_base, in_global, in_global_at, in_object_at, index_code, index_width, named_target, own_field, pointee_code, settle_base, settle_code, store_code, take_code, target, value_code, variable, width_code}, Scope.{Context, at_site, ends_from, leaves, pops, ref_count, register_of, slot_kind, slot_of}, Suits.{ArgumentsSuit, CallSuits, Either, FirstSuits, Goes, HandsOn, IfThere, IndexSuits, InitialSuits, LeftSuits, NameSuits, OperandsSuit, Passes, PathNamed, PathStands, PlaceSuits, ReferencesSuit, RightSuits, SameSort, SimpleSuits, StatementSuits, StatementsSuit, Suits, TakeSuits, TestSuits, behind_declaration, in_first as flat_first, in_statement as flat_statement, is_cell, is_declaration, kind_in}, Tables.{all_first_words, all_granules, cells_in, first_words, globals_from, globals_of, granules_in}, declared.op.Op.Op, declared.op.Spot.Spot, declared.slot.Lvalue.Lvalue, declared.slot.Slot.Slot}
pub use Rattle.sharc_flat_laws.specs.{Stands.{AllLocalLocks, AtPlace, FirstLocks, FitAreUnguarded, GlobalsUnguarded, IsFit, IsHere, LocalLocks, LocksAreFound, LocksAt, LocksOf, NameStands, PathIn, PathNamedIn, TypedSuits}, Tables.{IsSpawned, MadeSpawns, MadeTablesFit, SpawnMeets}}
