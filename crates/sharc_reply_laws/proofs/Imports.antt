-- What the proofs cite of std, of other crates and of this crate's definitions, passed on from one place.
pub use Rattle.std.proofs.{Common.{Bool, Contains, List, None, Option, Some, [], ap, arith, cond, eq-eqb, eqb-true, false, filter, if◌then◌else◌, inl, inr, is_some, length, ltb-false, map, nat_lt, not, pos, refl, reverse, subst, suc, sym, true, zero, ℕ, ℤ, ⊎_elim, ◌%◌, ◌&&◌, ◌*◌, ◌++◌, ◌+◌, ◌<◌, ◌^◌, ◌||◌, ◌∙◌, ◌∷◌, ◌≡◌, ◌≢◌, ◌≤◌, ◌⊎◌}, lemmas.Bool.{and_cases, cases_eq, cases_order, false≢true, or_parts, or_right}, lemmas.Bool.Decides.nat_tests, lemmas.List.{append-nil, get_or-set_other, length-map, length_push, map-append, map_push, reverse-append}, lemmas.List.Elements.{All-contains, All-head, All-nil, All-push, All-tail, All-weaker, filter-append, filter_agree, filter_map-append}, lemmas.List.FromFn.get_or-map-range_with_len}
pub use Rattle.std.specs.{Io.KnownBytes.Appends, List.{AllByRecursion, cons_option, range_with_len}, List.Sorted.{IsSortedByKey, ties}, Ordering.{is_lt, nat_cmp}, Prelude.{All, Err, Ok, Result, flat_map, nat_eq, nat_le, slice_index, slice_index_or as get_or, ◌==◌}}
pub use Rattle.sharc_lemmas.proofs.{Bools.{and_left as left, and_right as right, or_split, yes}, Lists.{flat_same, range_more, reverse_cons, set_here, set_same}, Numbers.{eq_refl, lt_true as below, ne_eq, not_long, other_is, same_is, same_test}, Options.{no_guard as no_site, some_is as site_eq}}
pub use Rattle.sharc_cli.specs.{Bounds.AreWithin, Commands.commands, declared.command.Command.Command, declared.command.Command.TheVariants.{Audit, Check, Explain, Record, Replay}}
pub use Rattle.sharc_load.specs.Source.{source_of}
pub use Rattle.sharc_tree.specs.{Low.IsLow, Tree.Program, declared.event.Act.Act, declared.event.Act.TheVariants.Started, declared.event.CellAt.CellAt, declared.event.SourceEvent.SourceEvent, declared.token.FaultAt.FaultAt, declared.token.Site.Site, declared.token.Tokens.Tokens, declared.trap.Trap.Trap}
pub use Rattle.sharc_lex.specs.{Grammar.reading, declared.fault.TokenFault.{TokenFault as LexerFault}}
pub use Rattle.sharc_parse.specs.{Places.Reads, declared.fault.GrammarFault.GrammarFault}
pub use Rattle.sharc_names.specs.{Notes.{IsAmong, IsFirst, digit, faults, is_before}, declared.fault.Fault.Fault, declared.fault.FaultCode.FaultCode, declared.fault.FaultCode.TheVariants.{ArgumentCount, BadForm, DefinedTwice, LimitPassed, NoLvalue, NoMain, TypeMismatch, TypeNotAllowed, UnknownName}, declared.fault.Named.Named}
pub use Rattle.sharc_ctype.specs.{Items.{named_in, notes_about}, Resolved.{IsResolved, Resolution, function_at}, Typings.IsToldAt}
pub use Rattle.sharc_mode.specs.{Flows.IsLeastAssignment, Moded.Assignment, declared.error.Cast.Cast, declared.error.ModeError.ModeError, declared.error.Warning.Warning}
pub use Rattle.sharc_infer_laws.specs.Laws.{IsTypedAtTokens, LeastIsOne}
pub use Rattle.sharc_check.specs.{Laws.CheckLaws, Rules.MeetsRules}
pub use Rattle.sharc_live.specs.Uses.{AreWarnings, InOrder, warning_at}
pub use Rattle.sharc_suggest.specs.{Casts.{AreCasts, AreSuggested, cast_for}, Laws.SuggestLaws}
pub use Rattle.sharc_suggest_laws.specs.Repaired.{LeastIsRepaired}
pub use Rattle.sharc_meaning.specs.{Events.{Access, Stands, access_by, events_of, is_of}, Obeys.History, Reference.number_of, References.Begun, Runs.IsNamedAt, State.{Outcome, event_of, wants}}
pub use Rattle.sharc_audit.specs.{Audited.{Audits, OneVerdict}, FileLaws.FileLaws, Grammar.{HasMany, IsFirstBad, text_lines}, Texts.{bad_line, verdict_line}, declared.audit.Verdict.Verdict, declared.line.EventLine.EventLine}
pub use Rattle.sharc_word.specs.{Words.{word_after, words_after_step}, declared.step.TheConstants.THREADS, declared.step.WordEvent.WordEvent, declared.step.WordOp.WordOp, declared.step.WordStep.WordStep}
pub use Rattle.sharc_heap.specs.{Functions.conflicts_in, ShadowWord.epoch_of, declared.shadow_word.Kind.Kind, declared.shadow_word.Kind.TheVariants.{Read, Write}}
pub use Rattle.sharc_code.specs.{Aims.{Aim, BuildsIn, TurnAim}, Laws.RunLaws, Layout.{Fits, count_word, granule_at, granule_of, prints_word, words_of}, Machine.{Asks, Local, Machine, Own, act, goes, instr_at, int, place, ref, step_of, stopped, tested, with_note, with_own, word, wrote}, Opening.{first_global, opening_cell, opening_words, opens_with}, Outcomes.{ComesOut, MayComeOut, TurnOutcome, own_after, state_after}, Path.{after, asked_by, begun, counted, may_go, turn}, Ranges.NumbersFit, Runs.{Answered, Global, IsRun, Said, Turn, is_started, opening_of, put, result_of, said_by, told_by, turns_of, with_told, words_now}, Says.{IsSaidBy, TurnsTell, cell_at, elements_in, made_cell, mode_of, place_at, said, speaks_of, tells}, Stages.IsStageOf, StandingLaws.StandingLaws, ThreadLaws.ThreadLaws, Waits.waits_now, Whole.{CheckedRun, Erase, IsStuck, bounds, one_thread, place_after}, declared.code.Code.Code, declared.code.PlaceMode.PlaceMode, declared.code.PlaceMode.TheVariants.Dynamic, declared.instr.Cell.Cell, declared.instr.Cell.TheVariants.GlobalAt, declared.instr.Instr.Instr, declared.shape.Shape.Shape, declared.state.ConflictAt.ConflictAt, declared.state.Print.{Print as PrintAt}, declared.state.Stage.Stage, declared.state.Stage.TheVariants.{Begins, Hands, Looks, Makes, Names}, declared.state.Stop.Stop, declared.state.Stop.TheVariants.{Conflict, NoLock, NotSole}, declared.state.TurnState.TurnState, declared.state.TurnState.TheVariants.Stopped}
pub use Rattle.sharc_cpu.specs.Thread.{ThreadView}
pub use Rattle.sharc_threads.specs.Ends.{AreStarted, IsAt, Standing, is_enabled}
pub use Rattle.sharc_seq.specs.{Choice.seeded, Laws.EnabledLaws, Run.{AreChosen, IsChosen, enabled}}
pub use Rattle.sharc_schedule.specs.{File.{FileView, HoldsNoSchedule, IsFile, written}, Schedule.stored}
pub use Rattle.sharc_flat.specs.{Correct.MayStart, declared.flat.Flat.{Flat as FlatCode}}
pub use Rattle.sharc_guard.specs.Counted.{IsUnder}
pub use Rattle.sharc_compile.specs.{Consistent.IsConsistent, Correct.IsBeginning, Generated.generated, Made.IsCodeOf, OfRuns.{elements_before, founds_of, told_in}, Refused.IsReport}
pub use Rattle.sharc_report.specs.{Explanations.explain_text, Refusals.refusal_line, Verdicts.{accepted_text, check_text}, declared.refusal.SourceFault.SourceFault, declared.refusal.SourceFault.TheVariants.{Lexer, Parser, Typing}}
pub use Rattle.sharc_run.specs.{Outcome.{HasOutcome, stuck}, Run.IsEnd, RunText.{AreInOrder, place_of, print_line, prints_of, thread_line}, declared.run.Ran.Ran}
pub use Rattle.sharc_replay.specs.{Laws.ReplayLaws, Run.{IsScheduledRun, file_of}}
pub use Rattle.sharc_front_end.specs.{Compiled.IsCompiled, Front.{IsFront, IsMisread, IsMistyped, IsSourceFault, IsTypedFrom}}
pub use Rattle.sharc_build.specs.Built.{IsBuilt}
pub use Rattle.sharc_top.specs.{Answers.{Answers, faulty, program}, EventFiles.{FileReplies, IsFewIn, Judges, JudgesSource, faulty_source, judged, long_file, long_source, many_events, no_file, not_judged, of_program, source_judged}, Limits.{file_limit, recording_limit, source_limit}, Loading.{LoadReplies, load_numbers, loaded as was_loaded, long, size_lines}, Recording.{GivesRun, GivesSource, RecordReplies, Records, ReplayReplies, Replays, at_fault, by_program, long_input, long_recording, long_source_in, made, no_recording, not_made, recorded as was_recorded, replayed as was_replayed}, Refused.IsModeRefusal, Reply.{IsReply, Replied, Replies, answered, audited, loaded, recorded, replayed, task_in, too_long, usage}, Running.{IsRunBy, Runs, not_run, ran, status_of}, Status.code_of, Verdict.{Checks, Does, Explains, accepted, explained, refused}, declared.ran.RunNumbers.RunNumbers, declared.status.Status.Status, declared.task.SourceTask.SourceTask}
pub use Rattle.sharc_invariant.specs.{Bits.{CheckOf, touch_of}, Labels.Labels, State.IsSmall, Types.Targets}
pub use Rattle.sharc_accepted_laws.specs.Targets.{targets_of}
pub use Rattle.sharc_history_laws.specs.{Causes.ShowsCause, Conflicts.{IsCheck, site_of_check}, Followed.{Accesses, ChecksAreFollowed, IsFollowed, ShowsLock, access_checked, access_of, access_to}, History.history_of, Reports.{FindsOthers, IsLockCheck}, Seen.RunsBegin}
pub use Rattle.sharc_compile_laws.specs.Paths.{IsAskedFor, TellsProgram}
pub use Rattle.sharc_wants_laws.specs.{Beginning.AreOneByName, Cause.ShowsReference, Holding.lowered_of, Seeing.TestersGive, Wants.{IsNotThere, StopsOrWantsUnder, WantsAct, WantsBy, access_tested}}
pub use Rattle.sharc_source_laws.specs.Laws.{ProgramsHoldNoSchedule}
pub use Rattle.sharc_sound_laws.specs.{Alike.AreAlike, AlikeLaws.{CompiledAreAlike, RunsAreAlike}, BuiltSound.BuiltIsSound, Reports.{IsReportOf, WantsReported}, Sound.KeepsTo, StandStands.RunStands, Standing.IsPlaced}
pub use Rattle.sharc_reply_laws.specs.{AuditLaws.{IsAudited, IsVerdict}, Few.ChosenAreFew, Kept.{IsKept, KeptLaws, RecordsKeep, ReplaysKeep, RunsKeep}, Laws.{AnswersAreOne, IsAcceptance, IsAsked, IsExplanation, IsRunning, MakesRun, RunsAreOnly, RunsNothing, SourceLaws, WarningsAreOne}, Orders.{Alone, Any, AreTurnsBy, Drawn, Order, by_load, by_record, by_replay, by_run, choice_of, written_of}, Prints.{TextsBeginWithPrints, events_in, printed_by, printed_in, value_line}, RecordLaws.{IsRecorded, IsRecording, IsReplayable, IsReplayed, IsReplaying, RecordLaws, RecordsAreOnly, ReplaysAreOnly, ReplaysSayAgain, SaysTheSame}, Replies.{LineTells, RepliesTell, ReplyTells}, Reports.{ReportTells, ThreadWantsAccess, ThreadWantsMutex, WantsRefusedAccess, access_refused, object_tested}, Runs.{BuiltRunsTell, RunTells}, Stopped.StopsAreStopped, Suggestions.{EachRepairs, IsRepairing, Repairs}, Tested.{ChecksStay, TestsStay, count_found, is_access_check, tester}, Threads.{HasBegun, HasNotBegun, counted_turns}}
