-- What the proofs cite of std, of other crates and of this crate's definitions, passed on from one place.
pub use Rattle.std.proofs.{Common.{Bool, List, None, Option, Some, [], ap, append_assoc, arith, codes, cond, decimal, eqb-true, false, filter, find, flat_map, fold, get_or, if◌then◌else◌, inl, inr, is_some, length, map, max, nat_eq, nat_le, nat_lt, negsuc, not, pos, refl, replicate, reverse, slice_get, slice_index, subst, suc, sym, take, true, zero, ℕ, ℤ, ⊎_elim, ◌%◌, ◌&&◌, ◌*◌, ◌++◌, ◌+◌, ◌-◌, ◌/◌, ◌<◌, ◌^◌, ◌||◌, ◌∙◌, ◌∷◌, ◌≡◌, ◌≢◌, ◌≤◌, ◌⊎◌}, lemmas.Bool.{cases_eq, or_right}, lemmas.Bool.Decides.nat_tests, lemmas.List.{append-nil, map-append, reverse-append}, lemmas.List.Elements.filter-append}
pub use Rattle.std.specs.{List.{All, AllByRecursion, list_any, range_with_len}, Prelude.{neg_ℤ, unsigned_abs, ◌==◌}}
pub use Rattle.sharc_lemmas.proofs.{Bools.{or_split as or_cases, yes}, Lists.{all_null as zeros, flat_same, map_length as mapped}, Numbers.{other_is, same_is}, Options.some_or}
pub use Rattle.sharc_tree.specs.{Traps.trap_number, declared.ctype.Base.Base, declared.ctype.Base.TheVariants.{Struct, Void}, declared.event.Act.Act, declared.event.Act.TheVariants.Started, declared.event.CellAt.CellAt, declared.event.CellMode.CellMode, declared.event.Object.Object, declared.event.SourceEvent.SourceEvent, declared.event.Taken.Taken, declared.token.Site.Site, declared.tree.declaration.WrittenType.WrittenType, declared.tree.expression.Constant.Constant, declared.tree.expression.Constant.TheVariants.{Character, Null, Number}, declared.tree.item.GlobalDefinition.GlobalDefinition, declared.tree.item.GlobalForm.GlobalForm, declared.tree.item.GlobalForm.TheVariants.Initial}
pub use Rattle.sharc_names.specs.Kinds.{declared_kind}
pub use Rattle.sharc_ctype.specs.Resolved.{Resolution, function_at, functions_in, globals_in}
pub use Rattle.sharc_ctype_laws.specs.{Initials.{IsHeldBy, MeetsGlobal, MeetsInitial}, Laws.{MeetsGlobals, OneFunctionOfName}}
pub use Rattle.sharc_mode.specs.Moded.{Assignment}
pub use Rattle.sharc_meaning.specs.{Cells.element_cells, Events.{Access, Stands, access_by, events_of, held_mutexes, holds_mutex, is_of, locked_by, same_cell, unless_unlocked, unlocks}, Laws.{AskLaws, IsAnswer, IsPrefix, Next}, Meaning.{Asked, asks}, Obeys.{AlwaysObeys, History, Obeys, until_gone}, Reference.constant_value, Runs.{Follows, IsFirst, IsNamedAt, IsSpawned, SourceRun, answers_of, by}, State.{Outcome, ended, event_of, spent, stopped, wants}, Store.{MayCome, form_value, global_value, is_gone, is_natural, is_spawn, spawns, value_after, was_spawned, went}}
pub use Rattle.sharc_word.specs.{Words.words_after, declared.step.TheConstants.THREADS, declared.step.WordOp.WordOp}
pub use Rattle.sharc_heap.specs.{Accesses.{note_of, site_at}, Notes.{blank, of_kind}, ShadowWord.is_written, State.NewView, declared.shadow_word.Kind.Kind, declared.shadow_word.Kind.TheVariants.{Read, Write}, declared.stage.NewStage.NewStage, declared.stage.NewStage.TheVariants.Length}
unfoldable pub use Rattle.sharc_heap.specs.{Functions.{lowest_from, lowest_other}, ShadowWord.stands}
pub use Rattle.sharc_locks.specs.Waiters.{lowest_of, waits_in}
pub use Rattle.sharc_code.specs.{Arithmetic.{int_of, word_of}, Laws.RunLaws, Layout.{Fits, cell_of, cell_word, function_word, granules, next_thread_word, state_word, top_word, words_of}, Machine.{Machine, act, at_stage, back_to, called, entered, field_of, fields, free, function_of, goes_to, holds_none, instr_at, int, layout_at, no_frame, no_function, no_layout, pointer_cell, ref, returned, start, step_of, trapped, with_parameter}, Opening.{first_global, first_heap, opening_words, opens_with}, Path.{CodePath, IsPath, after, asked_by, begun, counted, machine_after, made_in, may_go, most_ints, most_refs, turn}, Ranges.IsInGlobal, Runs.{Bounds, CheckedRunOf, Global, IsNext, IsRun, OneThread, Said, Turn, after_turn, at, is_started, made_now, opening_of, put, result_of, state_after, state_now, told_by, turns_of, was_started, with_told, word_events, words_now}, Says.{access, cell_at, elements_in, event, event_at, global_cell, in_exit, in_free, in_new, in_signal, in_spawn, in_start, kind_of, made_cell, mode_of, new_event, no_global, no_place, nobody, own_event, place_at, reference, said, speaks_of, started_with, take_local, variable_of}, Waits.{asks_for, held_up, is_held_up, wait_of, waits_now}, Whole.{CheckedRun, Erase, IsOn, IsStuck, Stuck, Waits, bounds, one_thread, place_after}, declared.code.Code.Code, declared.code.Function.Function, declared.code.GlobalCells.GlobalCells, declared.code.Layout.Layout, declared.code.PlaceMode.PlaceMode, declared.code.PlaceMode.TheVariants.{Dynamic, LockedGlobal}, declared.code.SourcePlace.SourcePlace, declared.code.Text.Text, declared.code.Use.Use, declared.instr.Cell.Cell, declared.instr.Cell.TheVariants.GlobalAt, declared.instr.Instr.Instr, declared.instr.Register.Register, declared.shape.Shape.Shape, declared.state.ConflictAt.ConflictAt, declared.state.Stage.Stage, declared.state.Stage.TheVariants.{Begins, Empties, Enters, Leaves, Makes, Rests, Uncounts, Wakes, Withdraws, WithdrawsFrom}, declared.state.Stop.Stop, declared.state.Stop.TheVariants.{Conflict, NoLock, NotSole, Trap}, declared.state.TheConstants.FRAMES, declared.state.TurnState.TurnState, declared.state.TurnState.TheVariants.{Ended, Runs, Stopped}, declared.state.Wait.Wait, declared.state.Wait.TheVariants.{Cond, Mutex}}
pub use Rattle.sharc_cpu.specs.Thread.{IsThread, ThreadView}
pub use Rattle.sharc_threads.specs.Ends.{AreStarted, IsAt, Standing, is_enabled}
pub use Rattle.sharc_seq.specs.Run.{AreChosen, IsChosen}
pub use Rattle.sharc_schedule.specs.Schedule.{Stored}
pub use Rattle.sharc_flat.specs.{Flattened.flattened, Flattens.names_of, Laid.{AreNamed, AreTold}, Machine.Flat, Made.flat_of, Tables.{all_first_words, cells_in, first_words, globals_from, globals_of, granules_in}, declared.flat.{Flat.Flat as FlatCode, LineTexts.LineTexts}, declared.op.Op.Op}
pub use Rattle.sharc_guard.specs.{Counted.IsUnder, Guard.{body, entered_at, expand, expanded, head, offset, own, place, sites_of, tail, width}, Known.{dropped, drops_at, is_entry, is_led_to, is_target, know_after, known, nothing}}
pub use Rattle.sharc_compile.specs.{Generated.{generated, instr_of}, Made.IsCodeOf, OfRuns.told_in, Refused.IsReport}
pub use Rattle.sharc_run.specs.{Others.{access_of_any, against, check_by, has_number, is_first_write, is_same_place, noted, number_of, or_first_refused, or_later, or_read, or_refused, other_access, refused, refused_access, refused_by, was_refused_first, wrote_before}, Outcome.{HasOutcome, done, limited, reported, stuck}, Places.{at_site, lock_path, lvalue_at}, Run.IsEnd, RunText.{IsRunText, access_text, code_of, made_text, of_taking, of_use, other_text, print_line, stop_text, thread_line, trap_words, unstopped_text, wait_text, why_text}, declared.other.NotedCheck.NotedCheck, declared.run.Ran.Ran}
pub use Rattle.sharc_replay.specs.Run.{IsScheduledRun}
pub use Rattle.sharc_front_end.specs.Compiled.{IsCompiled}
pub use Rattle.sharc_invariant.specs.{Labels.Labels, Laws.{RunsBits, RunsStand}, Opened.first_place, State.IsSmall, Typed.IsWellTyped, Types.Targets}
pub use Rattle.sharc_accepted_laws.specs.StaticLaws.{IsAccepted}
pub use Rattle.sharc_history_laws.specs.{Causes.{AccessReportsBreakRules, BreaksRules, GoesOn, HasNamed, IsNamed, IsNextOf, NamesAreCauses, OfFirst, OfRead, OfStop, OfWrite, ReportsHaveNamed, Stood, WasMade, noted_site}, Conflicts.{AccessReportsShow, site_of_check}, Followed.{Accesses, ChecksAreFollowed, IsFollowed, LockReportsBreakRules, LockReportsShowAccess, access_of, access_to}, History.history_of, Paths.PathsAreConsistent, Reports.{CastReportsShow, IsLockCheck, LacksLock}, Stuck.act_awaited, Threads.ThreadsAreTold}
pub use Rattle.sharc_compile_laws.specs.{Paths.ThreadsTellInRuns, Threads.TellsIn}
pub use Rattle.sharc_wants_laws.specs.{Beginning.{AreOneByName, BeginsByRight, follows_with}, Wants.{IsNotThere, IsThereIn, IsWhere, StopsOrWantsUnder, WantsAccess, WantsBy, access_tested}}
pub use Rattle.sharc_sound_laws.specs.{Alike.{AreAlike, IsSamePlace, unnamed}, AlikeLaws.{CompiledAreAlike, HistoriesAreAlike, RunsAreAlike}, Begins.MadeCodeBegins, CauseLaws.OthersAreCauses, Next.{IsSameAsked, OneIsNext}, Obeying.IsAccessReport, Reports.{IsReportOf, WantsReported}, StandStands.{ConflictStands, LockStands, PlaceStands, ThreadStands}, Standing.{IsPlaced, StandsAt}}
