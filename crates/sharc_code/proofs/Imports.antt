-- What the proofs cite of std, of other crates and of this crate's definitions, passed on from one place.
pub use Rattle.std.proofs.{Common.{Bool, List, None, Option, Some, [], ap, arith, cond, eq-eqb, eqb-true, false, if◌then◌else◌, inl, inr, is_some, length, length-append, map, min, nat_lt, ne_eqb, negsuc, not, pos, refl, subst, suc, sym, take, true, zero, ℕ, ℤ, ⊎_elim, ◌&&◌, ◌*◌, ◌++◌, ◌+◌, ◌<◌, ◌==◌, ◌^◌, ◌||◌, ◌∙◌, ◌∷◌, ◌≡◌, ◌≤◌, ◌⊎◌}, lemmas.Bool.{cases_eq, cases_lt, or_left, or_right}, lemmas.Bool.Decides.{Decides-ltb, nat_tests}, lemmas.List.{append-nil, append_assoc, get_or-set_other, length-set, set-get_or}, lemmas.List.Elements.filter-append, lemmas.List.FromFn.{length-map-range_with_len, map-range_with_len_more}, lemmas.Nat.mul-le, lemmas.Result.on_ok_weaker}
pub use Rattle.std.specs.{List.{flat_map, range_with_len}, Prelude.{Err, Ok, Result, nat_eq, slice_index, slice_set, vec_capacity, ◌↔◌}}
pub use Rattle.sharc_lemmas.proofs.Numbers.{eq_refl, ne_eq}
pub use Rattle.sharc_tree.specs.{declared.event.SourceEvent.SourceEvent, declared.trap.Trap.Trap}
pub use Rattle.sharc_word.specs.{History.{LegalHistory, events_of}, Laws.HistoryLaws, Place.event_of, Words.{word_after, words_after, words_after_step}, declared.step.TheConstants.THREADS, declared.step.WordEvent.WordEvent, declared.step.WordOp.WordOp, declared.step.WordStep.WordStep}
pub use Rattle.sharc_heap.specs.{Accesses.{note_of, site_at}, Asks.word_number, Functions.conflicts_in, ShadowWord.epoch_of, Stages.turn_of_stage, State.{NewView, told, turn_of}, declared.arguments.NewArguments.NewArguments, declared.shadow_word.Kind.Kind, declared.shadow_word.Kind.TheVariants.{Read, Write}, declared.stage.NewStage.NewStage, declared.stage.NewTurn.NewTurn, declared.stage.NewTurn.TheVariants.{Do, HeapFull, Made}}
unfoldable pub use Rattle.sharc_heap.specs.Functions.{noted}
pub use Rattle.sharc_locks.specs.Waiters.{waits_in}
pub use Rattle.sharc_code.specs.{Aims.{Aim, BuildsIn, TurnAim, TurnsAim, is_spawn}, Arithmetic.{computed, holds, is_zero, negated}, Laws.IsPathOf, Layout.{Fits, IsShape, argument_word, cell_of, cell_word, count_word, first_cell, granule_at, granule_of, granules, shadow_word, state_word, words_of}, Listing.{line_of, operand_text, shared_line_of}, Machine.{Asks, Local, Machine, Own, Turn as Act, accessed, act, after_new, asks_new, asserts, at_stage, called, checked, clear, data_granules, elements_of, emptied, empties, exit, fails, fields, free, free_looks, function_of, goes, goes_to, has_room, holds_none, indexed, instr_at, int, is_held, is_of_null, is_positive, join, joined, largest, layout_at, lock_checked, locked, looks, lower, move_ref, new, new_state, place, raise, ref, rests, returned, set_ref, signal, spawn, start, step_of, stopped, test, tested, trapped, with_parameter, with_result, withdraws, woken, word, wrote}, Opening.{opening_words, opens_with}, Outcomes.{Begun, ComesOut, Fails, Goes, Gone, IsNextStage, IsStill, Logs, MayComeOut, MayStop, Notes, Prints, Refused, Rested, Stays, Stops, TurnOutcome, check_of, has_stage, is_trying, own_after, state_after}, Path.{IsPath as IsCodePath, after, asked_by, counted, events_of_path, events_of_turn, machine_after, made_in as made_in_path, may_go, most_refs, turn}, Ranges.{GlobalsFit, IsInGlobal, NumbersFit, end_place, first_place, most_references}, Runs.{Answered, Bounds, CheckedFrom, Global, IsNext, IsOf, IsPath, IsRun, MayTurn, OneThread, Owns, Parts, Round, Said, Turn, after_turn, at, erase, event_list, is_started, made_event, made_in, made_now, opening_of, paired, pairs_of, path_says, put, result_of, said_by, scheduled, state_now, step_of as step_in, threads_of, told_by, turn_by, turn_with, turns_of, was_started, with_told, word_events, words_now}, Says.{IsSaidBy, in_exit, in_free, in_new, in_signal, in_spawn, in_start, is_condition, is_threading, new_event, nobody, said, take_local}, Stages.{IsStageOf, begins_of}, StandingLaws.IsIdle, ThreadLaws.{Keeps, behind, found_now, settled}, Waits.{asks_for, held_up, joins, waits_now}, Whole.{bounds, event_in, one_thread, place_after, turns_by}, declared.code.Code.Code, declared.code.GlobalCells.GlobalCells, declared.code.Layout.Layout, declared.code.Parameter.Parameter, declared.instr.Cell.Cell, declared.instr.Cell.TheVariants.{GlobalAt, Object, ObjectAt}, declared.instr.Instr.Instr, declared.instr.Register.Register, declared.instr.Width.TheVariants.{Int, Long}, declared.lines.Operand.TheVariants.Index, declared.shape.Shape.Shape, declared.state.Stage.Stage, declared.state.Stage.TheVariants.{Begins, Clears, Empties, Enters, FreeClears, FreeLooks, Hands, Leaves, Links, Looks, Lowers, Makes, Names, Rests, Uncounts, Wakes, Withdraws, WithdrawsFrom}, declared.state.Stop.Stop, declared.state.Stop.TheVariants.{Conflict, NoLock, NotSole, Trap as Trapped}, declared.state.TheConstants.FRAMES, declared.state.TurnState.TurnState, declared.state.TurnState.TheVariants.{Ended, Runs, Stopped, Tries}, declared.state.Wait.Wait}
