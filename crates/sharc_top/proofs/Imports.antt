-- What the proofs cite of std, of other crates and of this crate's definitions, passed on from one place.
pub use Rattle.std.proofs.{Common.{IfOk, IfSome, List, None, Option, Some, [], ap, arith, drop, inl, inr, length, length-take, map, refl, replicate, rules, string_bytes, subst, sym, take, unwrap_or, ℕ, ◌++◌, ◌+◌, ◌-◌, ◌<◌, ◌∙◌, ◌≡◌, ◌≤◌}, lemmas.List.{length-replicate, take-take}, lemmas.Result.IfOk-weaker}
pub use Rattle.std.specs.{Io.KnownBytes.Appends, Prelude.codes}
pub use lib.Seq.{take-add}
pub use Rattle.sharc_lemmas.proofs.Lists.{appends_front_more, told_left}
pub use Rattle.sharc_cli.specs.{Commands.commands, declared.command.Command.Command}
pub use Rattle.sharc_load.specs.Source.{source_of}
pub use Rattle.sharc_mode.specs.{Moded.Assignment, declared.error.Warning.Warning}
pub use Rattle.sharc_check.specs.{Checks.IsRefused, Named.TellNamed, Rules.MeetsRules}
pub use Rattle.sharc_live.specs.Uses.{AreWarnings}
pub use Rattle.sharc_audit.specs.{Audited.Audits, Files.IsFault, Grammar.text_lines, Texts.{bad_line, file_fault_line, many_line, verdict_line}, declared.audit.Verdict.Verdict, declared.file.FileFault.FileFault, declared.line.EventLine.EventLine}
pub use Rattle.sharc_code.specs.declared.code.Code.{Code}
pub use Rattle.sharc_schedule.specs.{File.{FileView, IsFile, lines_in}, Shown.view_of}
pub use Rattle.sharc_report.specs.{Explanations.explain_text, Refusals.refusal_line, Verdicts.{accepted_text, check_text}, declared.refusal.SourceFault.SourceFault}
pub use Rattle.sharc_run.specs.{declared.outcome.Outcome.Outcome, declared.run.Ran.Ran}
pub use Rattle.sharc_replay.specs.Run.{IsScheduledRun}
pub use Rattle.sharc_front_end.specs.Front.{IsFront, IsSourceFault}
pub use Rattle.sharc_top.specs.{Answers.{Answers, faulty, program}, EventFiles.{FileReplies, IsFewIn, IsFileReply, Judges, JudgesSource, faulty_source, judged, long_file, long_source, many_events, no_file, not_judged, of_program, source_judged, status_of}, Loading.{LoadReplies, load_numbers, loaded, long, size_lines}, Recording.{GivesRun, GivesSource, IsRecordReply, IsReplayReply, RecordReplies, Records, ReplayReplies, Replays, at_fault, bad_file_line, by_program, long_input, long_recording, long_source_in, made, no_recording, not_made, recorded, replayed}, Recording.RecordReplies.{recorded as of_record}, Recording.ReplayReplies.{replayed as of_replay}, Refused.{IsModeRefusal, Refuses, modes_refused, source_refused}, Reply.{IsReply, ReadsSource, Replies, answered, audited, task_in, too_long, usage, usage_text}, Reply.Replies.{loaded as of_load}, Running.{Runs, not_run, ran, status_of as run_status_of}, Status.{IsOfReply, code_of}, Text.line, Verdict.{Checks, Does, Explains, accepted, explained, refused}, declared.ran.RunNumbers.RunNumbers, declared.status.Status.Status, declared.task.SourceTask.SourceTask}
