-- What the proofs cite of std, of other crates and of this crate's definitions, passed on from one place.
pub use Rattle.std.proofs.{Common.{Bool, List, None, Option, Some, [], add-one, ap, append-nil, append_assoc, arith, cond, drop, false, inl, inr, length, length-append, not, refl, rules, subst, suc, sym, take, true, zero, ℕ, ◌&&◌, ◌++◌, ◌+◌, ◌<◌, ◌||◌, ◌↔◌, ◌∙◌, ◌∷◌, ◌≡◌, ◌≤◌, ◌⊎◌}, lemmas.Bool.{and_from, cases_Bool, and_parts, both_ways, eq-eqb, eqb-true, ne_eqb, not-true, not_from_false, or_cases, or_left, or_parts, or_right}, lemmas.List.reverse-append, lemmas.List.Elements.filter_map-append, lemmas.List.Folds.{Any-from_list_any, list_any-append, list_any-from_Any}, lemmas.Slice.Eq.bytes_eq-Decides}
pub use Rattle.std.specs.{List.{AllByRecursion, list_any}, Prelude.{Any, IsTrue, codes, count_by, filter_map, find, flat_map, if◌then◌else◌, negsuc, pos, slice_get, slice_index_or, ℤ, ◌%◌, ◌==◌}, Str.bytes_eq}
pub use Rattle.sharc_lemmas.proofs.Lists.{pick}
pub use Rattle.sharc_tree.specs.{Children.view_block, Tree.{Arguments, Expression, First, Function, Head, Item, Local, Program, Right, Simple, Statement, Statements, argument, assign, binary, block, call, cast, constant, declare, declares, does, does_call, empty, field, for, function, global, identifier, if_then, if_then_else, index, jump, malloc, no_arguments, no_statements, nothing, on_place, on_value, parentheses, return, simple, spawn, statement, structure, unary, value, while}, View.{view_function, view_items, view_statements}, declared.ctype.Base.Base, declared.ctype.Base.TheVariants.{Char, Int, Long, Mutex, Struct, Void}, declared.event.Act.Act, declared.event.CellAt.CellAt, declared.event.CellMode.CellMode, declared.event.Object.Object, declared.event.Object.TheVariants.{Global, Made}, declared.event.SourceEvent.SourceEvent, declared.tree.declaration.Declaration.Declaration, declared.tree.declaration.WrittenType.WrittenType, declared.tree.expression.Constant.TheVariants.Null, declared.tree.item.GlobalDefinition.GlobalDefinition, declared.tree.item.GlobalForm.GlobalForm, declared.tree.item.GlobalForm.TheVariants.{Array, Initial, Plain}}
pub use Rattle.sharc_names.specs.Kinds.{Kind, declared_kind, is_integral, is_pointer, object}
pub use Rattle.sharc_ctype.specs.{Layouts.pointer_cells, Resolved.{IsResolved, Resolution, function_at, functions_in, global_at, globals_in, named_at}, Transfers.{Receiver, Transfer, argument_transfers, first_transfers, function_transfers, gives, in_option, local_transfers, lvalue, parameters_named, passed, result, right_transfers, simple_transfers, statement_transfers, statements_transfers, transfers, variable}}
pub use Rattle.sharc_ctype_laws.specs.{Constraints.IsInteger, Initials.{MeetsGlobal, MeetsInitial}, Laws.MeetsGlobals}
pub use Rattle.sharc_mode.specs.Moded.{Assignment}
pub use Rattle.sharc_meaning.specs.{Events.{events_of, is_cell, is_number, is_of, latest, locked_by, locks, made_by, makes, same_cell, same_object, unlocks}, Meaning.asks, References.{ArgumentRefers, Begun, CellRefers, Counts, ReferencesWith, ThreadHoldsWith, asked_with, base_fields, held_count, is_pointer_in, is_pointer_of, is_pointer_of_global, is_pointer_of_made, is_taken_to_free, made_at, passes, refers}, Runs.{Follows, IsFirst, IsSpawned, SourceRun, answers_of, is_named_main}, Store.{IsNewThread, LegalStore, MayCome, cell_changed, changes, form_value, global_value, initial_value, is_live, is_locked, is_natural, is_spawn, meets, spawns, value_after, value_by, value_left, was_spawned}}
pub use Rattle.sharc_judge.specs.{Laws.SameLaws, Starting.{FindsEntries, entry}}
pub use Rattle.sharc_meaning_tests.specs.{Answered.{AreDistinct, AreReferences, IsListed, view_holder}, Listed.{argument_at, at_places, by_act, cell_at, cell_refers, counts, holders, holders_at, in_thread_all, is_passed, mutex_at, thread_at}, Making.{first_makes, head_makes, initial_makes, item_makes, items_make, right_makes, simple_makes, statement_makes, statements_make, step_makes}, Starting.{count_by_entry, own_answers, thread_count}, declared.holder.Holder.Holder, declared.holder.Holder.TheVariants.{InArgument, InCell, InMutex, InThread}}
