-- What the proofs cite of std, of other crates and of this crate's definitions, passed on from one place.
pub use Rattle.std.proofs.{Common.{Bool, List, None, OnOk, Option, Some, [], ap, append_assoc, ap₂, arith, cond, drop, false, length, length-append, map, not, refl, slice_get, subst, sym, take, true, zero, ℕ, ◌&&◌, ◌++◌, ◌+◌, ◌-◌, ◌<◌, ◌==◌, ◌∙◌, ◌∷◌, ◌≡◌, ◌≤◌}, Math.Path.fun_ext, lemmas.Grind.common_steps, lemmas.List.Concat.flat_map-append, lemmas.Option.{slice_get_past, slice_get_read}, lemmas.Result.IfOk-weaker}
pub use Rattle.sharc_tree.specs.{Children.{view_block, view_call}, Tree.{Expression, First, Item, Program, Statement, Statements, block, call, declare, declares, does, empty, for, if_then, if_then_else, jump, no_statements, nothing, return, simple, statement, while}, View.{view_arguments, view_expr, view_items, view_local, view_statements, view_stmt}, declared.token.Span.Span, declared.token.Token.Token, declared.tree.declaration.Declaration.Declaration, declared.tree.declaration.Identifier.Identifier, declared.tree.expression.Expr.Expr}
pub use Rattle.sharc_names.specs.Names.{Entry}
pub use Rattle.sharc_ctype.specs.Resolved.{Resolution}
pub use Rattle.sharc_mode.specs.{Cells.pointed, Errors.is_mismatch, Moded.{Assignment, position_count}, RowLaws.RowLaws, Rows.{Targets, declared_row, deeper, modes_of, written}, Sharings.{Sharing, same_all}, View.{view_row, view_sharing}, declared.error.Cast.Cast, declared.error.ModeError.ModeError}
pub use Rattle.sharc_suggest.specs.{Casts.{AreCasts, AreSuggested, IsSuggested, cast_for, suggested_for, suggested_in}, Firsts.{CastRows, HasFirst, row_for}, Givings.{Giving, after, after_all, all_givings, behind_first, beyond, givings, givings_in, givings_in_all, items_givings, of_declared, option_givings, right_givings, with_parameters}, Laws.SuggestLaws, Repairs.{begins_call, differ_first, entry_of, keeps, keeps_all, told}}
unfoldable pub use Rattle.sharc_suggest.specs.Repairs.{is_call_at}
