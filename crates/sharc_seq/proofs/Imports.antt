-- What the proofs cite of std, of other crates and of this crate's definitions, passed on from one place.
pub use Rattle.std.proofs.{Common.{Bool, List, None, Option, Some, [], ap, arith, false, filter, get_or, if◌then◌else◌, inl, inr, length, length-append, not, refl, replicate, set, subst, suc, sym, true, zero, ℕ, ⊎_elim, ◌++◌, ◌+◌, ◌-◌, ◌<◌, ◌∙◌, ◌∷◌, ◌≡◌, ◌≤◌, ◌⊎◌}, lemmas.Bool.{and_from as and, and_left as off, cases_eq, cases_lt}, lemmas.List.{append-nil, get_or-set_other, get_or-set_same, length-replicate, length-reverse, length-set, reverse-append}, lemmas.List.Elements.filter-append, lemmas.List.FromFn.length-map-range_with_len, lemmas.List.Sums.sum_by-set, lemmas.Result.IfOk-weaker}
pub use Rattle.std.specs.{List.range_with_len, Prelude.{Err, Ok, Result, is_some, nat_lt, negsuc, pos, reverse, slice_index, ℤ, ◌&&◌, ◌==◌, ◌||◌}, Vec.with_item}
pub use Rattle.sharc_lemmas.proofs.{Bools.{both, not_true, or_known}, Lists.{any_default, fails, filter_agrees as filter_same, nothing, passes, up_to}, Numbers.{eq_refl, is_below as lt_holds, lt_true, ne_eq}}
pub use Rattle.sharc_tree.specs.{declared.event.SourceEvent.SourceEvent, declared.trap.Trap.Trap}
pub use Rattle.sharc_word.specs.{Place.{Leads, LeadsInWords, PortState, place_of_words}, declared.step.TheConstants.THREADS, declared.step.WordEvent.WordEvent}
pub use Rattle.sharc_code.specs.{Arithmetic.{complement, computed, holds, is_zero, negated, truth}, Layout.words_of, Machine.{Asks, Local, Machine, Turn, act, asserts, called, goes, goes_to, has_room, holds_none, indexed, instr_at, int, is_held, is_of_null, is_positive, lock_checked, move_ref, next, ref, returned, set_int, set_ref, with_result, word}, Opening.{opening_words, opens_with}, Path.{IsPath as IsCodePath, TurnLeads, after, asked_by, begun, counted, events_of_path, events_of_turn, machine_after, made_in, may_go, turn}, Runs.{Answered, IsOf, IsRun, MayTurn, OneThread, after_turn, is_started, made_now, opening_of, put, result_of, state_now, step_of, threads_of, turn_with, words_now}, Stages.begins_of, StandingLaws.StandingLaws, ThreadLaws.{ThreadLaws, behind, found_now}, Waits.{held_up, waits_now}, Whole.{bounds, event_in, one_thread, place_after}, declared.code.Code.Code, declared.instr.Instr.Instr, declared.instr.Width.TheVariants.{Int, Long}, declared.shape.Shape.Shape, declared.state.At.At, declared.state.TurnState.TurnState, declared.state.TurnState.TheVariants.{Runs, Tries}}
pub use Rattle.sharc_cpu.specs.{Quantum.{GoesWhere, HasGone, MadeRows}, Rows.Locals, Thread.{IsThread, ThreadView}}
pub use Rattle.sharc_threads.specs.{Ends.{AreStarted, Standing, is_enabled}, Laws.TableLaws, Seats.{AreOf, AreSeats, IsSeat, Sits, has_number, left, left_to, may_turn_at, waits}}
pub use Rattle.sharc_seq.specs.{Quiet.{AreQuiet, IsQuietFrom, Lands, LeadsOn, LeadsTo, MakesQuietly}, Run.{IsChosen, IsSeqRun, enabled}, Table.{Ends, IsOver, IsTable}, Told.{LeadsTold, as_number, found_in, place_told, told_in, words_in}, Walk.{AreQuietTurns, Began, FoundAt, IsThreadAt, IsThreadThere, MadeQuietly, MadeQuietlyAt, MadeTurn, MadeTurnAt, MayGoOn, StandsAt, ToldAt, WentOn, WentQuietly, events_left, has_event, has_step, numbers_of}, declared.quiet.Onward.TheVariants.{Back, Either, Next, To}, declared.walk.Walk.Walk}
