-- What the proofs cite of std, of other crates and of this crate's definitions, passed on from one place.
pub use Rattle.std.proofs.{Common.{Bool, List, None, OnOk, Option, Some, [], ap, append_assoc, arith, drop, false, fold, get_or, inl, inr, length, map, min, refl, replicate, set, subst, suc, sym, true, zero, ℕ, ◌&&◌, ◌++◌, ◌+◌, ◌-◌, ◌<◌, ◌∙◌, ◌∷◌, ◌≡◌, ◌≢◌, ◌≤◌, ◌⊎◌}, lemmas.Bool.{and_parts, cases_Bool, cases_eq, cases_lt, false≢true, lt-ltb, ltb-true}, lemmas.List.{append-nil, drop_more, get_or-map, get_or-replicate, get_or-set_other, get_or-set_same, get_or_default, get_or_past, length-drop, length-map, length-replicate, length-set}}
pub use Rattle.std.specs.{List.{All, cons_option, filter_map, slice_get}, Prelude.{Contains, IsSomeAnd, nat_lt}}
pub use Rattle.sharc_graph.specs.{Findings.finding_at, Paths.{AreFindings, Follow, Graph, HasEdge, IsFinding, IsFree, IsSource, IsWithin, LeadsTo, edge_of, graph_of, last_of, no_node, node_at}, declared.graph.Edge.Edge, declared.graph.Node.Node, declared.graph.NodeFinding.NodeFinding, declared.graph.NodeFinding.TheVariants.{Apart, Behind, Source}}
pub use Rattle.sharc_tree.specs.{Children.{view_block, view_call}, Marks.{Mark, a_cast, a_name, arguments_marks, base_marks, declaration_marks, declarations_marks, first_marks, head_marks, level_marks, levels_marks, local_marks, marks, name_marks, option_marks, right_marks, simple_marks, statement_marks, statements_marks, type_marks}, Measures.{expressions, in_arguments, in_first, in_function, in_head, in_local, in_option, in_right, in_simple, in_statement, in_statements}, Tree.{Arguments, Expression, First, Function, Head, Local, Right, Simple, Statement, Statements, argument, assign, binary, block, call, cast, constant, declare, declares, does, does_call, empty, field, for, identifier, if_then, if_then_else, index, jump, malloc, no_arguments, no_statements, nothing, on_place, on_value, parentheses, return, simple, spawn, statement, unary, value, while}, View.{view_arguments, view_expr, view_statements, view_stmt}, declared.ctype.Mode.Mode, declared.tree.declaration.Declaration.Declaration}
pub use Rattle.sharc_names.specs.declared.fault.Named.{Named}
pub use Rattle.sharc_ctype.specs.{Reaches.{IsReached, Leads, Names, NamesGlobal, Runs, Spawns, name_tokens, of_all, runs, spawns, tokens_of}, Resolved.{Resolution, function_at, functions_in, globals_in, named_at}}
pub use Rattle.sharc_reach.specs.{Firsts.{global_named, lower, lowered, lowered_by, named_by}, Graphs.{edge_of_mention, edge_within, function_named, is_found, is_source, marked, marked_by, quiet_node, ran, ran_as, source_node, spawned, spawned_as}, Mentions.{first_mentions, function_mentions, head_mentions, local_mentions, mention, mentions, mentions_below, mentions_in, mentions_of_all, names, option_mentions, right_mentions, simple_mentions, statement_mentions, statements_mentions}, Reaching.{AreReached, IsFirstOf, IsSpawned, Reaching, first_of, is_chosen}, declared.mention.Mention.Mention, declared.mention.NameUse.NameUse, declared.mention.NameUse.TheVariants.{Called, Spawned}}
