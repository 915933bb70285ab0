-- What the proofs cite of std, of other crates and of this crate's definitions, passed on from one place.
pub use Rattle.std.proofs.{Common.{Bool, List, None, Option, Some, [], add-zero, add_assoc, ap, append_assoc, arith, cond, drop, false, get_or, inl, inr, length, map, min, refl, set, subst, suc, sym, take, true, zero, ℕ, ◌&&◌, ◌++◌, ◌+◌, ◌-◌, ◌<◌, ◌∙◌, ◌∷◌, ◌≡◌, ◌≢◌, ◌≤◌, ◌⊎◌}, lemmas.Bool.{and_cases, and_parts, cases_Bool, cases_eq, cases_lt, eq-eqb, eqb-true, false≢true, le-ltb, ltb-false, ltb-true, ne_eqb}, lemmas.Bool.Decides.nat_tests, lemmas.List.{append-nil, drop-set-add, drop-set-lt, get_or-set_other, get_or-set_same, get_or_append_left, get_or_default, get_or_past, get_or_push, get_or_read, length-drop, length-map, length-set, length_push, take-set-le, take_more, take_more_set}, lemmas.List.Elements.{All-cons, All-contains, All-head, All-nil, All-tail}, lemmas.List.Sums.{count_by-le-length, sum_by-cons, sum_by-le-sum_by, sum_by-set, sum_by-take-le, sum_by_more}, lemmas.Option.{none-some, same_Some}, lemmas.Result.IfOk-weaker}
pub use Rattle.std.specs.{List.{All, Contains}, Prelude.{nat_eq, nat_lt}}
pub use Rattle.sharc_lemmas.proofs.{Lists.contains_behind, Numbers.next}
pub use Rattle.sharc_graph.specs.{Findings.{finding_at, is_apart, rank_at, rank_of, with_reason, with_reason_below}, Flow.{AreInferred, Flow, FlowsTo, FollowLinks, HasLink, IsEqual, IsFirstFor, IsInferred, IsInferredRank, IsInferredReason, IsOrigin, IsRankFor, IsUnwritten, LeadsDown, flow_of, is_source, is_unwritten, kept_edges, leads, link_of, node_of, place_at}, FlowLaws.{IsClosed, IsDynamic}, Make.{below_links, equal_links}, Paths.{AreFindings, Follow, Graph, HasEdge, IsFinding, IsFree, IsRank, IsReason, IsSource, IsWithin, LeadsTo, edge_of, graph_of, last_of, no_node, node_at}, Reasons.{AreReasons, IsNoHigher, edge_at}, Rounds.{AreFinal, AreRanks, AreUpTo, HasRank, IsFound, IsLowest, IsServed, IsSome, Ranks, first_rank, is_next, is_none, is_rank, link_at, rank_by, rank_for, rank_in, ranks_behind, unranked}, Rows.{AreRows, AreStarts, AreTargets, count_below, count_from, targets_of}, Search.{AreRanked, Begun, EachHasReason, IsBefore, IsEntered, IsWalk, Marks, Searching, entry, findings_behind, findings_started, is_new, queue_behind, queue_started, ranked}, declared.graph.Edge.Edge, declared.graph.Node.Node, declared.graph.NodeFinding.NodeFinding, declared.graph.NodeFinding.TheVariants.{Apart, Behind, Source}, declared.place.Link.Link, declared.place.PositionKind.PositionKind, declared.place.PositionKind.TheVariants.{Dynamic, Other, Private, Root, Unwritten}, declared.rows.Rows.Rows, declared.search.Ranked.Ranked}
