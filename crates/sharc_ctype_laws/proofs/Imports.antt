-- What the proofs cite of std, of other crates and of this crate's definitions, passed on from one place.
pub use Rattle.std.proofs.{Common.{Bool, Contains, IfSome, List, None, Option, Some, [], add-one, add-zero, ap, append_assoc, ap₂, arith, bytes_eq, codes, cond, drop, eq-eqb, eqb-true, false, fold, get_or, get_or-set_other, get_or-set_same, inl, inr, is_some, leb-true, length, length-append, length-set, lt-ltb, ltb-true, map, nat_le, nat_lt, ne_eqb, not, pos, refl, replicate, rules, set, slice_get, subst, suc, sym, true, unsigned_abs, zero, ℕ, ⊎_elim, ◌&&◌, ◌*◌, ◌++◌, ◌+◌, ◌-◌, ◌<◌, ◌==◌, ◌||◌, ◌∙◌, ◌∷◌, ◌≡◌, ◌≤◌, ◌⊎◌}, lemmas.Bool.{and_from, and_left, and_parts, both_ways, cases_eq, cases_lt, cond-false, eqb-false, false_from_ne_true, false≢true, not-true, or_cases, true≢false}, lemmas.List.length-replicate, lemmas.List.Elements.Contains-append_cases, lemmas.Slice.Eq.bytes_eq-Decides}
pub use Rattle.std.specs.{List.{AllByRecursion, find}, Prelude.{if◌then◌else◌}}
pub use Rattle.sharc_lemmas.proofs.{Bools.{and_false, no_cell as no_call}, Lists.{at_place, back, both, bytes_same, each, front, later, mapped_each as mapped, same_bytes, together}, Numbers.{none_there, one_less}, Options.{none_some as no_some, same_some, some_there}}
pub use Rattle.sharc_tree.specs.{Forms.{is_lvalue, without_parentheses}, Low.{AllLowTypes, IsLow, LowDeclarations, LowExpression, LowFirst, LowHead, LowItem, LowItems, LowLocal, LowRight, LowSimple, LowStatement, LowStatements, LowType, LowTypes, is_unary}, Marks.{Mark, a_cast, a_name, arguments_marks, base_marks, declaration_marks, declarations_marks, first_marks, head_marks, item_marks, items_marks, keyword_marks, kind_marks, level_marks, levels_marks, local_marks, marks, marks_from, name_marks, option_marks, path_marks, right_marks, simple_marks, statement_marks, statements_marks, type_marks}, Measures.{expressions, in_arguments, in_first, in_function, in_local, in_option, in_right, in_simple, in_statement, in_statements}, Placed.{IsPlaced, IsSite, IsSpan, IsWhole}, Tree.{Arguments, Expression, First, Function, Head, Item, Local, Program, Right, Simple, Statement, Statements, argument, assign, constant, declares, does, does_call, function, global, malloc, no_arguments, no_statements, nothing, return, statement, structure, value}, declared.ctype.Base.Base, declared.ctype.Base.TheVariants.{Char, Int, Long, Mutex, Struct, Void}, declared.ctype.Mode.Mode, declared.ctype.Mode.TheVariants.Locked, declared.ctype.Path.Path, declared.ctype.Path.TheVariants.{One, Through}, declared.token.Keyword.Keyword, declared.token.Keyword.TheVariants.Scast, declared.token.NumberType.NumberType, declared.token.Punctuator.TheVariants.{CloseBrace, CloseParenthesis, OpenBrace, OpenParenthesis, Semicolon}, declared.token.Site.Site, declared.token.Span.Span, declared.token.Token.Token, declared.token.TokenKind.TokenKind, declared.tree.declaration.Declaration.Declaration, declared.tree.declaration.Identifier.Identifier, declared.tree.declaration.WrittenType.WrittenType, declared.tree.expression.BinaryOperator.BinaryOperator, declared.tree.expression.Constant.Constant, declared.tree.expression.Constant.TheVariants.{Character, Null, Number}, declared.tree.expression.FieldOperator.FieldOperator, declared.tree.expression.FieldOperator.TheVariants.{Arrow, Dot}, declared.tree.expression.PlaceCall.PlaceCall, declared.tree.expression.PlaceCall.TheVariants.{Free, Lock, Unlock}, declared.tree.expression.UnaryOperator.UnaryOperator, declared.tree.expression.UnaryOperator.TheVariants.{Complement, Dereference, Negate, Not}, declared.tree.expression.ValueCall.ValueCall, declared.tree.item.GlobalDefinition.GlobalDefinition, declared.tree.item.GlobalForm.GlobalForm, declared.tree.item.GlobalForm.TheVariants.{Array, Initial}, declared.tree.item.StructDefinition.StructDefinition}
pub use Rattle.sharc_names.specs.{Kinds.{Kind, agrees, array, common, comparable, declared_kind, declared_kinds, element_kind, int, is_integer, is_long, is_null, is_pointer, is_struct_base, is_struct_behind, long, mutex, null, object, promoted, same_base, same_kind, stars_of, void}, Names.{Entry, Meaning, Signature, StructMeaning, StructTable, condition_parameters, defined, field_of, fields_of, global_kind, is_main, kind_of, known, look_up, named_of, named_struct, parameters_of, struct_of}, Needs.{agreed, called, fits, met, misfit, misfit_of, mismatch, place, unagreed, unmet, used_call}, Notes.{Findings, Note, fault, fault_unless, fault_where, faults, is_free, noted, referred, refers, yields}, Types.{allowed_there, base_notes, field_among, field_in, field_kind, field_notes, first_kind, holds_mutex, holds_struct, holds_void, is_allowed, is_fine, is_known, main_notes, mode_notes, modes_notes, name_kind, name_notes, path_notes, second_in, second_notes, struct_note, type_notes}, Wants.first_wanted, declared.fault.Fault.Fault, declared.fault.FaultCode.FaultCode, declared.fault.FaultCode.TheVariants.{ArgumentCount, BadForm, DefinedTwice, LimitPassed, NoLvalue, NoMain, TypeMismatch, TypeNotAllowed}, declared.fault.Named.Named, declared.fault.Named.TheVariants.Field, declared.need.Need.Need, declared.need.Need.TheVariants.Value, declared.scope.Scope.Scope, declared.types.Role.Role}
pub use Rattle.sharc_ctype.specs.{Condition.{defines_condition, with_conditions}, Entities.{cast_entity, casts, entities_in, first_entities, head_entities, is_told_by, item_entities, local_entities, numbered_from, positions_of, result_of, statement_entities, statements_entities}, Expressions.{access_need, are_fine, binary_kind, binary_notes, binary_result, call_kind, call_result, callee_notes, can_spawn, cast_kind, cast_notes, class_of, constant_kind, count, count_notes as arguments_count_notes, element_of, is_place, may_join, may_spawn, names_function, notes_at, notes_of, notes_of_all, number_kind, operand_need, operands_need, place_call_kind, place_call_notes, place_kind, place_notes, spawn_kind, spawn_notes, spawn_wanted, suits, takes, type_of, unary_kind, unary_result, uncalled_notes, value_call_kind, wanted, wanted_if}, Globals.{base_cells, base_initial_notes, cells_of_all, elements_of, global_cells, global_notes, holds, holds_constant, initial_notes as constant_notes, is_null_constant, item_cells, item_size_notes, length_notes, sizes_notes, struct_cells, type_cells}, Heads.{Heading as Heads, behind, behind_all, function_entry, global_entry, head_notes as item_head_notes, heads_notes, no_heads, signature_of, twice, with_entry, with_struct, within}, Items.{beyond, field_notes as one_field_notes, fields_notes, file_scope, function_notes, has_main, in_body, is_main_meaning, item_notes, items_notes, main_missing, named_in, notes_about, nothing_found, parameters_notes, program_notes, with_parameters}, Reaches.{IsReached, Leads, Names, Runs, Spawns, name_tokens, of_all, runs, spawns}, Resolved.{IsResolved, Resolution, called_kind, declaration_at, declarations_in, declarations_of, declared_at, function_at, functions_in, global_at, global_kind_of, globals_in, kind_at, named_at, named_kind, result_kind_of, struct_at, structs_in, variable_kind}, Statements.{Around, after, behind_first, count_notes, declared, declared_notes, first_locals, first_notes, head_notes, in_head, initial_notes, is_aggregate, is_here, is_made, local_notes, locals_in, locals_in_all, looping, made, notes_in, notes_in_all, opened, return_notes, returned_as, right_notes, simple_notes, step_notes, test_notes, tests_notes, wanted_by, with_names}, Transfers.{Agrees, IsFair, argument_transfers, first_transfers, function_transfers, gives, local_transfers, lvalue, parameters_named, parameters_of as parameters_of_function, passed, result, right_transfers, simple_transfers, statement_transfers, statements_transfers, transfers, variable}, declared.entity.Entity.Entity, declared.entity.Numbered.Numbered, declared.expr.OperatorClass.OperatorClass, declared.expr.OperatorClass.TheVariants.{Arithmetic, Equality, Logical, Relation, Shift}, declared.expr.Standing.Standing, declared.expr.Standing.TheVariants.{AsLvalue, AsValue}}
pub use Rattle.sharc_ctype_laws.specs.{Callable.{IsCallable, IsThread}, Constraints.{Assignable, Callee, Common, Comparable, HasType, HaveTypes, IsInteger, IsMemberOf, IsPointer, IsScalar, a_call, a_constant, a_field, a_field_behind, a_function, a_global, a_variable, arithmetic, both_shorter, complemented, denied, element_of_array, element_of_pointer, equated, freed, in_parentheses, integer, integers, joined, left_long, locked, name_of, negated, none_left, null_and_pointer, null_pointer, of_conditions, of_program, one_more, pointed_to, pointer, pointer_and_null, pointers, printed_or_joined, related, right_long, shifted, spawned, struct_named, unlocked}, Declared.{IsItself, NameThemselves, NamesOwn, NamesOwnVariables}, Found.{EachTypeFound, IsFound}, Initials.{IsHeldBy, MeetsGlobal, MeetsInitial, number_of}, Laws.{AllFair, ArePlain, EachNameOnce, EachNamesFound, EachNamesItself, EachNamesOwn, EachPathFound, HasMain, IsPlain, IsToldOnce, MeetsConstraints, MeetsGlobals, MeetsStatements, NamesFound, NamesInTypes, OneFunctionOfName, OneType, OnlyNames, ReachesFunctions, SameKinds, SomeTyped, SpawnsByName, SpawnsNameFunctions, SpawnsThreads, Tells, WithinLimits}, Limits.IsMain, Paths.{AllLocalsStand, BodyStands, CastStands, EntryStands, FirstStands, IsAmong, IsClosed, IsVariableIn, LevelStands, LocalsStand, PathStands, PathsAt, TypeStands, around_in, file_types, meaning_token}, Places.{Placing, at, places_in, places_in_all, places_in_first, places_in_local, places_of, places_of_all}, Rules.{AllMeet, IsHeld, Meets, MeetsFirst, MeetsHead, MeetsLocal, MeetsReturn, MeetsRight, MeetsRules, MeetsSimple, MeetsTest}, Sizes.{CellsAreFew, all_sizes, base_size, global_size, struct_size}, WrittenTypes.{FirstNames, IsNamedBase, IsNamedLevel, IsNamedPath, IsNamedType, NamesStruct, a_known_call, types_in, types_in_arguments, types_in_declarations, types_in_first, types_in_head, types_in_item, types_in_items, types_in_local, types_in_option, types_in_right, types_in_simple, types_in_statement, types_in_statements}}
