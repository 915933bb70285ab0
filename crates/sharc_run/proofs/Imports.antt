-- What the proofs cite of std, of other crates and of this crate's definitions, passed on from one place.
pub use Rattle.std.proofs.{Common.{Bool, Equal, Greater, Less, List, None, OnOk, Option, Result, Some, [], ap, append_assoc, arith, codes, cond, decimal, drop, false, filter, get_or, inl, inr, is_lt, is_some, le_antisymm, length, map, not, refl, rules, subst, suc, sym, take, true, zero, ℕ, ◌++◌, ◌+◌, ◌<◌, ◌==◌, ◌∙◌, ◌∷◌, ◌≡◌, ◌≤◌, ◌⊎◌}, lemmas.Bool.Decides.nat_tests, lemmas.List.Sorted.{IsNonDecreasingBy-from_sort, answers_always}}
pub use Rattle.std.specs.{List.{All, Any, flat_map, list_any, range_with_len}, List.Sorted.{IsPermutation, IsSortedByKey, IsStableByKey, ties}, Ordering.nat_cmp, Prelude.{Err, IfOk, Ok, find, if◌then◌else◌, nat_eq, nat_lt, slice_index, ◌&&◌, ◌||◌}}
pub use Rattle.sharc_lemmas.proofs.{Bools.{and_left as and_first, either, or_first, or_second}, Lists.taken, Numbers.{lt_true, not_below as le_false}}
pub use Rattle.sharc_word.specs.declared.step.TheConstants.{THREADS}
pub use Rattle.sharc_heap.specs.{Accesses.{note_of, site_at}, Functions.lowest_other, ShadowWord.stands, declared.shadow_word.Kind.Kind, declared.shadow_word.Kind.TheVariants.{Read, Write}}
unfoldable pub use Rattle.sharc_heap.specs.Functions.{conflicts_in, first_in}
pub use Rattle.sharc_code.specs.{Layout.state_word, Opening.opening_words, Path.may_go, Runs.{Turn, is_started, words_now}, Says.place_at, Waits.{held_up, is_held_up, waits_now}, Whole.{IsOn, IsStuck, bounds, place_after}, declared.code.Code.Code, declared.shape.Shape.Shape, declared.state.ConflictAt.ConflictAt, declared.state.Print.Print, declared.state.Stop.Stop, declared.state.Stop.TheVariants.{Conflict, NoLock, NotSole, Trap}, declared.state.TurnState.TurnState, declared.state.Wait.Wait}
pub use Rattle.sharc_cpu.specs.Thread.{ThreadView, is_stop}
pub use Rattle.sharc_threads.specs.{Ends.{AllAreDone, AreStarted, EndIs, IsAt, Standing, is_enabled}, Seats.is_end, declared.end.End.End}
pub use Rattle.sharc_seq.specs.{Choice.seeded, Run.AreChosen}
pub use Rattle.sharc_run.specs.{Laws.{OutcomeIsTold, goes_on, is_on}, Others.{AreAllowed, access_of, access_of_any, access_of_number, against, has_number, is_first_write, noted, number_of, or_first_refused, or_later, or_read, or_refused, refused, refused_access, refused_by, was_refused_first, wrote_before}, Outcome.{HasOutcome, IsSpent, NoneStopped, by_end, has_gone, has_reported, outcome_of, was_stopped}, Outcome.HasOutcome.{done, limited, reported, stopped, stuck}, Places.lvalue_at, Run.{IsEnd, IsSeededRun, IsWorkersRun, draws}, RunText.{AreInOrder, IsRunText, access_text, code_of, is_gone, made_text, of_taking, other_text, place_of, print_line, prints_of, stop_text, thread_line, unstopped_text, wait_text, why_text}, TextLaws.{Shown, TextIsOne, shown}, declared.outcome.Outcome.Outcome, declared.outcome.Outcome.TheVariants.{Done, Limit, Reported, Stopped, Stuck}, declared.run.Ran.Ran}
