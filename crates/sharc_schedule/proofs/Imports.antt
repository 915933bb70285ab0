-- What the proofs cite of std, of other crates and of this crate's definitions, passed on from one place.
pub use Rattle.std.proofs.{Common.{Bool, List, None, Option, Some, [], ap, append_assoc, arith, below_more, decimal, drop, eq-eqb, eqb-true, false, filter, get_or, if◌then◌else◌, inl, inr, length, length-append, length-drop, map, nat_eq, nat_le, nat_lt, ne_eqb, not, refl, replicate, set, subst, suc, sym, take, take-append-drop, true, zero, ℕ, ⊎_elim, ◌&&◌, ◌*◌, ◌++◌, ◌+◌, ◌-◌, ◌<◌, ◌==◌, ◌^◌, ◌||◌, ◌∙◌, ◌∷◌, ◌≡◌, ◌≢◌, ◌≤◌, ◌⊎◌}, Math.Seq.{drop-cons, drop-nil, take-add, take-suc}, lemmas.Bool.{and_left as and_false, false_from_ne_true as true_or_false, le-leb, le-ltb, leb-true, lt-ltb, or_right as or_true}, lemmas.Fmt.{decimal_is_IsNumeral, length-decimal-le}, lemmas.List.{append-nil, drop_all, get_or-drop, get_or_append_left, get_or_push, length-map, take_rest}, lemmas.List.FromFn.length-range_with_len, lemmas.Nat.Bits.bit_at-zero, lemmas.Str.Parse.digit_from_value}
pub use Rattle.std.specs.{Char.digit_value, List.range_with_len, Prelude.{Err, IfOk, Ok, Result, slice_index}, Str.bytes_eq, Str.Parse.{AllDigits, digits_value, digits_value_after}}
pub use mathlib.Core.Logic.{dite}
pub use native.Mathlib.Decide.{dec_le, ℕ_discrete}
pub use Rattle.sharc_lemmas.proofs.{Bools.{and_left, and_right, both, if_false as if_no, if_true as if_yes, not_ended as no_both, or_assoc, or_known}, Lists.{any_default as same_at, filter_agrees, same_bytes as bytes_alike, same_name as bytes_same}, Numbers.lt_true, Options.{none_some as none_not_some, same_some as some_is}}
pub use Rattle.sharc_tree.specs.declared.event.SourceEvent.{SourceEvent}
pub use Rattle.sharc_word.specs.{History.LegalHistory, Words.{words_after, words_after_step}, declared.step.TheConstants.THREADS, declared.step.WordEvent.WordEvent, declared.step.WordStep.WordStep}
unfoldable pub use Rattle.sharc_locks.specs.Waiters.{waits_in}
pub use Rattle.sharc_code.specs.{Laws.{RunLaws, StandsWhere}, Layout.state_word, Machine.{Asks, Local, Machine, Own, fails, instr_at}, Opening.opening_words, Path.{after, asked_by, counted, may_go, turn}, Runs.{Answered, Bounds, Global, IsOf, IsPath, IsRun, MayTurn, OneThread, Owns, Turn, after_turn, event_list, is_started, made_in, made_now, opening_of, put, result_of, scheduled, state_after, state_now, step_of, threads_of, turns_of, was_started, word_events, words_now}, ThreadLaws.{ThreadLaws, behind, found_now, settle, settled}, Waits.{asks_for, held_up, wait_of, waits_now}, Whole.{CheckedRun, IsOn, IsStuck, bounds, one_thread, place_after}, declared.code.Code.Code, declared.instr.Instr.Instr, declared.instr.Instr.TheVariants.{CondWait, Join, Lock}, declared.shape.Shape.Shape, declared.state.TurnState.TurnState, declared.state.TurnState.TheVariants.{Ended, Runs, Stopped, Tries}, declared.state.Wait.Wait}
pub use Rattle.sharc_cpu.specs.Thread.{ThreadView}
pub use Rattle.sharc_threads.specs.{Ends.{AllAreDone, EndIs, IsAt, Standing, is_enabled}, Laws.TableLaws, declared.end.End.End, declared.end.End.TheVariants.{AllDone, Budget, Stuck}}
pub use Rattle.sharc_seq.specs.{Run.{AreChosen, IsSeqRun, enabled}, Walk.{AreQuietTurns, IsQuietTurn, StandsAt, WentOn, WentQuietly, events_left, has_event}, declared.run.SeqRun.SeqRun, declared.walk.Walk.Walk}
pub use Rattle.sharc_schedule.specs.{File.{AreLinesOf, AreNumbers, ArePlaces, Begins, FileView, HoldsNoSchedule, IsPlace, NoneBegins, begin_with, joined_by, lines_in, place_line, places_text, schedule_line, schedule_word, text_line}, FileLaws.{FilesSayOneThing, PlacesAreFew, ReadsAll, ReadsFaults, ReadsFiles, WrittenIsRead}, Going.{AllCount, Followed, GoesAt, Hurried, HurriedOn, IsGoing, Loud, OneMore, Quiet, Reached, Stepped, Walked, thread_at}, Journal.IsJournalOf, Laws.{ArrangedRuns, ReplaysShow, RunsWithoutTries, SameEnds, ScheduleLaws, ScheduledRuns, SchedulesFit, SchedulesReplay, Shows}, Places.total, Reading.{after_word, at_schedule, number_in, numbers_in, pair_of, place_read, read_lines, read_places, read_source, rest_after, with_place, with_places, word_of}, Schedule.{Stored, all_loose, arranged, counted_in, counted_together, firm, firm_by, is_try, loose, loose_by, one_by_one, or_first, place_in, places_of, schedule_of, scheduled_turns, stored, without_tries}, declared.places.Going.Going}
