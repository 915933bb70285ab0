-- What the proofs cite of std, of other crates and of this crate's definitions, passed on from one place.
pub use Rattle.std.proofs.{Common.{Bool, Contains, List, None, Option, Some, [], add-one, ap, append-nil, append_assoc, arith, cond, drop, eq-eqb, eqb-true, false, inl, inr, le_trans, length, max, min, nat_eq, nat_lt, refl, rules, subst, suc, sym, take, true, zero, ℕ, ◌&&◌, ◌++◌, ◌+◌, ◌/◌, ◌<◌, ◌==◌, ◌||◌, ◌∙◌, ◌∷◌, ◌≡◌, ◌≤◌, ◌⊎◌}, Math.Nat.{min-eq_left, min-eq_right, min-le_left, min-le_right}, Math.Seq.take-suc, lemmas.Bool.cases_lt, lemmas.Bool.Decides.nat_tests, lemmas.Grind.get_or_default_zero, lemmas.List.{drop_all, map-append, take-append-drop, take_all}, lemmas.List.Elements.{Contains-append_cases, Contains-append_left, Contains-append_right, Contains-push}, lemmas.List.Filters.dedup_is, lemmas.List.Kept.Contains-dedup_nat, lemmas.List.Sorted.{Contains-permutation, IsPermutation-sym, answers_always}}
pub use Rattle.std.specs.{List.Sorted.IsSortedByKey, Ordering.{is_lt, ordering_then}, Prelude.{if◌then◌else◌, slice_index_or}, declared.cmp.Ordering.TheVariants.{Equal, Greater, Less}}
pub use Rattle.sharc_dataflow.specs.{Code.{Code, acts, catches, first_then, goes_to, listing, one_of, paths, repeats, step_of}, Flow.{Act, Broken, Caught, Clear, Continued, Does, Either, Ends, From, Goes, Hits, Inside, Leaves, Loop, Next, NullingStands, Nulls, Piece, Reaches, Reads, Shows, Spares, Start, Then, To, Writes, again, as_is, before, behind as late, done, ended, goes, leaves, left, on, through}, Gathered.{all_nulled, all_warns, nulled_at}, Narrow.{AllKept, AreBetween, IsBetween, IsSame, Kept, Same, acts_if, all_kept, caught_exits, caught_kept, either_exits, either_kept, exits_of, exits_to, is_between, leading, loop_exits, loop_kept, narrow_start, narrowed, narrows, nothing_kept, put_behind, then_exits, then_kept, unless_none, whole}, Orders.{IsInOrder, by_read, first_each, is_read, read_and_since}, Passes.{Summing, Telling, back, forth, front, heads, last_or, nothing, nowhere, sum_start, summed, summing, tell_start, telling, told, turning}, Sums.{Warns, behind, caught_of, closed, either, either_of, follow, free, goes_of, kept, loop_of, lower, nulled, only, quiet, then_of, warn_act, warn_either, warn_loop, warn_read, warn_then, warned_of, warns, way, way_of_act, ways, written}, Uses.{AddsUses, AreFirsts, HasWarning, IsUse, Rising, warning}, Views.{view_narrowing, view_piece, view_pieces, view_sums, view_tells}, declared.exits.Exits.Exits, declared.step.Step.Step, declared.way.FlowWarning.FlowWarning, declared.way.StandingNullings.StandingNullings, declared.way.Way.Way, declared.way.Ways.Ways}
