-- What the proofs cite of std, of other crates and of this crate's definitions, passed on from one place.
pub use Rattle.std.proofs.{Common.{All, Bool, List, None, Some, [], ap, append_assoc, arith, drop, eq-eqb, eqb-true, false, inl, inr, length, length-append, map, ne_eqb, refl, rules, subst, suc, sym, take, true, zero, ℕ, ◌*◌, ◌++◌, ◌+◌, ◌<◌, ◌^◌, ◌||◌, ◌∙◌, ◌∷◌, ◌≡◌, ◌≤◌}, lemmas.Bool.{and_parts, leb-true, lt-ltb, or_from, or_parts}, lemmas.Fmt.{decimal-digits_value, decimal_digit, digits_decimal, length-decimal-le}, lemmas.List.take-append-drop, lemmas.List.Elements.{All-cons, All-nil}, lemmas.Str.Parse.{IsNumeralModel, numerals_by_fold}}
pub use Rattle.std.specs.{Char.is_ascii_digit, Fmt.signed_decimal, Int.w64, Io.KnownBytes.Appends, List.{AllByRecursion, join_with_byte, list_all, list_any, starts_with}, Prelude.{FitsSigned, codes, decimal, if◌then◌else◌, nat_eq, negsuc, pos, reverse, ℤ}, Str.all_ascii_digits}
pub use Rattle.sharc_lemmas.proofs.{Lists.map_take, Numbers.{not_long as too_long}}
pub use Rattle.sharc_tree.specs.declared.event.SourceEvent.{SourceEvent}
pub use Rattle.sharc_ctype.specs.Resolved.{Resolution, function_at}
pub use Rattle.sharc_mode.specs.Moded.{Assignment}
pub use Rattle.sharc_check.specs.Rules.{MeetsRules}
pub use Rattle.sharc_meaning.specs.{Arithmetic.is_held_by, Laws.RunLaws, Obeys.{Obeys, until_return}, Runs.SourceRun}
pub use Rattle.sharc_audit.specs.{FileLaws.LinesAreCut, Grammar.{AreEventLines, IsAct, IsCell, IsEventFile, IsEventLine, IsName, IsPair, IsReference, IsThread, IsValue, Text, is_digit, is_letter, mark, read_on, text_lines, thread_most}, Lines.{AreLines, spawned_by}, Running.RunsNeverFail, declared.audit.Verdict.Verdict, declared.line.EventLine.EventLine, declared.line.LineAct.LineAct}
pub use Rattle.sharc_code.specs.{Layout.Fits, Runs.{Said, Turn}, Says.reference, declared.code.Code.Code, declared.shape.Shape.Shape}
pub use Rattle.sharc_seq.specs.Run.{AreChosen}
pub use Rattle.sharc_schedule.specs.{File.{AreNumbers, FileView, HoldsNoSchedule, IsFile}, Schedule.Stored}
pub use Rattle.sharc_history.specs.{Cells.{cell_text, reference_text}, Laws.HistoryLaws, Told.{at, numbered, shown, told, told_of_event, valued}, declared.cells.Where.Where, declared.event.Deed.Deed, declared.event.Event.Event, declared.event.GivenValue.GivenValue, declared.event.Reference.Reference}
pub use Rattle.sharc_run.specs.declared.run.Ran.{Ran}
pub use Rattle.sharc_replay.specs.{Laws.{IsOneFile, ReplayLaws}, Run.{IsRecord, file_of}}
pub use Rattle.sharc_front_end.specs.{Compiled.IsCompiled, Front.IsFront}
pub use Rattle.sharc_build.specs.{Built.IsBuilt, Laws.FrontsAreTyped, declared.building.Built.Built}
pub use Rattle.sharc_top.specs.{Limits.{recording_limit, source_limit}, Refused.{Refuses, modes_refused, source_refused}, declared.status.Status.Status}
pub use Rattle.sharc_traced.specs.{Cut.IsEnd, EventFileLaws.LinesAreOfSources, Replies.{FileReplies, InputReplies, IsFileOf, IsRunOf, IsTraced, TraceReplies, form_of, history, long_recording, long_source, no_recording, read, recorded, refused, traced, usage}, Writing.{AreLinesOf, IsFitCell, IsFitPair, IsFitReference, IsFitValue, IsFunctionOf, IsLineOf, Writable, deed_text, event_text, events_text, file_text, line_of, name_in, value_text}, declared.cut.Cut.Cut, declared.cut.Cut.TheVariants.Refused, declared.reply.Reply.Reply, declared.words.Form.Form}
pub use Rattle.sharc_source_laws.specs.Laws.{HoldsNoEvents, ProgramsHoldNoEvents, ProgramsHoldNoSchedule}
pub use Rattle.sharc_sound_laws.specs.{Alike.AreAlike, AlikeLaws.{CompiledAreAlike, HistoriesAreAlike}, BuiltSound.BuiltIsSound, Sound.KeepsTo}
pub use Rattle.sharc_reply_laws.specs.{AuditLaws.{AuditLaws, IsAudited}, Laws.SourceLaws, RecordLaws.{IsRecording, RecordLaws}}
pub use Rattle.sharc_trace_laws.specs.Laws.{FilesAreAudited, FilesAreEventFiles, IsOfRecorded, NoneIsAtFault, RecordingsAreTraced}
