-- What the proofs cite of std, of other crates and of this crate's definitions, passed on from one place.
pub use Rattle.std.proofs.{Common.{Contains, List, None, OnOk, Option, Some, [], add-one, ap, append_assoc, arith, drop, drop-cons, inl, inr, length, map, refl, rules, subst, suc, sym, zero, ℕ, ◌++◌, ◌+◌, ◌<◌, ◌∙◌, ◌∷◌, ◌≡◌, ◌≤◌, ◌⊎◌}, lemmas.List.Elements.{Contains-append_cases, Contains-append_left, Contains-append_right, Contains-push}}
pub use Rattle.std.specs.Prelude.{slice_get, slice_index_or}
pub use Rattle.sharc_lemmas.proofs.Lists.{head_or_tail as from_cons}
pub use Rattle.sharc_dataflow.specs.{Code.{Code, listing, repeats}, Uses.{AddsUses, AreFirsts, HasWarning, IsUse, Rising, warning}, declared.step.Step.Step, declared.step.Step.TheVariants.{Caught, Head}, declared.way.FlowWarning.FlowWarning}
pub use Rattle.sharc_tree.specs.{Children.{view_block, view_call}, Tree.{Expression, Function, Program}, View.{view_arguments, view_expr, view_function, view_head, view_item, view_items, view_statements, view_stmt}, declared.token.Token.Token, declared.tree.item.Item.Item}
pub use Rattle.sharc_ctype.specs.Resolved.{Resolution, functions_in}
pub use Rattle.sharc_mode.specs.{Moded.Assignment, declared.error.Warning.Warning}
pub use Rattle.sharc_live.specs.{Flows.{first_flow, flow, flow_all, for_flow, function_flow, of_option, parameters_flow, simple_flow, statement_flow, statements_flow, test_flow, turn_flow}, Gathers.AddsAll, Turns.{turn_begins, turn_ends}, Uses.{AreWarnings, InOrder, IsUseAmong, IsUseIn, IsWarned, IsWarning, site_at, site_of, warning_at}}
