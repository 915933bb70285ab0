-- What the proofs cite of std, of other crates and of this crate's definitions, passed on from one place.
pub use Rattle.std.proofs.{Common.{All, Bool, Err, IfOk, List, None, Ok, Option, Result, Some, [], ap, append_assoc, arith, cond, eqb-true, false, fold, inl, inr, is_some, length, map, max, min, nat_lt, negsuc, not, pos, refl, replicate, reverse, slice_get, slice_index, slice_index_or as get_or, slice_set, subst, suc, sym, take, true, zero, ℕ, ℤ, ⊎_elim, ◌&&◌, ◌*◌, ◌++◌, ◌+◌, ◌-◌, ◌<◌, ◌==◌, ◌^◌, ◌||◌, ◌∙◌, ◌∷◌, ◌≡◌, ◌≢◌, ◌≤◌, ◌⊎◌}, lemmas.Bool.{and_parts, cases_eq, cases_lt, eq-eqb, le-leb, lt-leb, lt-ltb, ltb-true, ne_eqb}, lemmas.Bool.Decides.nat_tests, lemmas.Int.to_z_pos, lemmas.List.{append-nil, get_or-replicate, get_or-set_other, get_or-set_same, get_or_past, length-append, length-map, length-replicate, length-set, map-append, reverse-append, reverse-reverse}, lemmas.Option.{get_or_from_slice_get, slice_get-get_or}}
pub use Rattle.std.specs.{Int.w64, Option.{option_map, option_to_list}, Prelude.{IsSomeAnd, if◌then◌else◌, int_le, nat_eq, nat_le}}
pub use Rattle.sharc_lemmas.proofs.{Bools.{same_test as same_bool}, Lists.all_null, Numbers.{eq_refl, ne_eq, times_low as times_le, times_more}}
pub use Rattle.sharc_tree.specs.{declared.event.Act.Act, declared.event.CellAt.CellAt, declared.event.CellMode.CellMode, declared.event.Object.Object, declared.event.SourceEvent.SourceEvent, declared.event.Taken.Taken, declared.token.Site.Site, declared.trap.Trap.Trap}
pub use Rattle.sharc_mode.specs.Moded.{Assignment}
pub use Rattle.sharc_meaning.specs.{Cells.through, Events.{held_mutexes, holds_mutex, same_cell}, Reference.{NULL, elements_of, is_null, number_of}, Runs.answers_of, State.{Outcome, answer_of, ended, spent, wants}, declared.given.GivenUp.GivenUp, declared.given.GivenUp.TheVariants.{Emptied, Released, Replaced}}
pub use Rattle.sharc_word.specs.{declared.step.TheConstants.THREADS, declared.step.WordEvent.WordEvent, declared.step.WordOp.WordOp}
pub use Rattle.sharc_heap.specs.{Accesses.{note_of, site_at}, Functions.{conflicts_in, noted as noted_in}, ShadowWord.epoch_of, Stages.{after_cell, next_stage, try_from, turn_of_stage}, State.{NewView, told}, declared.arguments.NewArguments.NewArguments, declared.shadow_word.Kind.Kind, declared.stage.NewStage.NewStage}
pub use Rattle.sharc_locks.specs.{HeldLog.{object_of, without}, Waiters.{lowest_of, waits_in}, declared.held_log.HeldMutex.HeldMutex}
pub use Rattle.sharc_code.specs.{Arithmetic.{complement, computed, holds, int_of, is_zero, negated, truth, word_of}, Laws.RunLaws, Layout.{cell_of, cell_word, first_cell, granule_at, granule_of, state_word, word_at, words_of}, Machine.{Asks as AsksStep, Local, Machine, accessed, act, after_new, asks_new, asserts, at_stage, back_to, called, checked, clear, data_granules, emptied, empties, ends, entered, exit, fails, field_of, fields, free, free_looks, freed, function_of, goes, goes_on_new, goes_to, has_room, holds_none, indexed, instr_at, int, is_of_null, is_positive, join, joined, largest, layout_at, lock_checked, locked, looks, lower, made, move_ref, new, new_state, no_frame, no_function, object, place, raise, ref, reference_of, rests, returned, set_int, set_ref, signal, spawn, step_of, stopped, taken, test, tested, trapped, unlocked, wakes, with_note, with_own, with_parameter, with_result, withdraws, woken, word, wrote}, Opening.opening_words, Paced.{clears_cell, fails_in_new, is_failed_try, is_left_out, paced_in, repeats}, Path.{IsPath, after, asked_by, begun, machine_after, may_go, most_ints, most_refs}, Ranges.{GlobalsFit, IsInGlobal, NumbersFit}, Runs.{Said, at, opening_of, pairs_of, path_says, put, result_of, said_by, state_after, turns_of, with_told}, Says.{access, argument_of, cell_at, event_at, in_exit, in_free, in_new, in_signal, in_spawn, kind_of, lock_through, made_cell, mode_of, new_event, no_global, no_place, nobody, of_argument, own_event, place_at, reference, said, says, speaks_of, started_with, take_local, variable_of}, ThreadLaws.ThreadLaws, Whole.{CheckedRun, Erase, bounds, one_thread}, declared.code.Code.Code, declared.code.Function.Function, declared.code.GlobalCells.GlobalCells, declared.code.Layout.Layout, declared.code.Parameter.Parameter, declared.code.PlaceMode.PlaceMode, declared.code.PlaceMode.TheVariants.{Dynamic, LockedGlobal, LockedLoaded, LockedSibling, LockedThrough, Private, Racy, Readonly}, declared.code.SourcePlace.SourcePlace, declared.instr.Cell.Cell, declared.instr.Cell.TheVariants.{Global, GlobalAt, Object as InObject, ObjectAt}, declared.instr.Instr.Instr, declared.instr.Register.Register, declared.instr.Width.TheVariants.{Int, Long}, declared.shape.Shape.Shape, declared.state.Frame.Frame, declared.state.Stage.Stage, declared.state.Stage.TheVariants.{Begins, Clears, Empties, Enters, FreeClears, FreeLooks, Hands, Leaves, Links, Looks, Lowers, Makes, Names, Rests, Uncounts, Wakes, Withdraws, WithdrawsFrom}, declared.state.Stop.Stop, declared.state.Stop.TheVariants.{Conflict, NoLock, NotSole, Trap as Trapped}, declared.state.TheConstants.FRAMES, declared.state.TurnState.TurnState, declared.state.TurnState.TheVariants.{Ended, Runs, Stopped, Tries}}
pub use Rattle.sharc_flat.specs.{Correct.{AsksTheSame, MayStart}, Framed.{IsFlat, IsFramed}, Machine.{At, Caller, Came, Flat, accesses, asks, cell_mode_of, end_turn, exec, first_at, gives_up, goes_on, halts, line_turn, lock_is_null, next, on_turn, op_turn, over_lines, start, stops, take_kind_of, takes_local, with_event}, Made.flat_of, Path.{asked, at_after}, declared.flat.Flat.{Flat as FlatCode}, declared.op.Op.Op, declared.op.Spot.Spot}
pub use Rattle.sharc_guard.specs.{Checked.{Access, IsCheckOf, access_of}, Correct.{GuardedKeepsPaths, Resolved, Wants}, Counted.{AreLowered, GuardedCounts, IsOf, IsReleased, IsReplaced, LocksStand, OnWay, Quietly, Tells}, Form.{BaseWithin, HandedWithin, HasParameter, IsAtPlace, IsBody, IsGuarded}, Guard.{entered_at, guarded}, GuardedTables.TablesFit, Known.dropped, Level.IsLevel, Logged.LogsAreHeld, Machine.{Accesses, Asks, Check, Checks, Goes, Halts, IsSole, Leaving, Left, Locks, Phase, Program, Running, Thread, Turn, argument, event_of, function_at, handed, is_held, source_at, statement_at, step, to, turn, without_base, without_mutex}, Made.IsMade, Path.{fresh, started, thread_after, weight, weight_in}, Tables.FlatTablesFit, declared.guarded.Guarded.Guarded}
pub use Rattle.sharc_compile.specs.{Checked.{IsAfterCheck, IsCheckedAt, IsNoTarget, LeadsTo}, Coded.{FollowsFlat, IsOverFor, IsRefusal, StopsFor, WantsAt}, Consistent.{Elements, Has, IsApart, IsArgument, IsArgumentAt, IsConsistent, IsConsistentTurn, IsFree, IsHeld, IsLock, IsMutex, IsNew, IsNewAt, IsNewIn, IsNumber, IsThere, MayFind, elements_told, said_in, said_now}, Correct.{HasCome, IsBeginning, begins, by, stop_turn}, Generated.{IsGenerated, generated, instr_of, program_of, program_over}, Lowered.{lowered_by, lowered_in, unless_told}, Made.IsCodeOf, OfRuns.{AreQuiet, IsPathIn, elements_before, founds_of, table_of, told_in}, Refused.{IsRefused, IsReport, site_of}, Related.{AreFrames, AreHeld, AreInts, AreRefs, ChecksNext, IsAt, IsAtStage, IsCell, IsGoing, IsHeldAs, IsInClear, IsInExit, IsInFree, IsInNew, IsInSignal, IsInSpawn, IsKnown, IsLinking, IsOver, IsReference, MatchesThread, Refuses, Same, StopsAt, number_in, phase_at, phase_of, place_in, spent_at, spent_in_new}, Source.{FollowsSource, IsOverAs, IsStopOf, IsToldBy, WantsEventAt}}
