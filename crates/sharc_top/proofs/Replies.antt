-- What a reply is a reply to.
use Rattle.sharc_top.proofs.Imports.{◌≡◌, ℕ, ◌+◌, ◌<◌, ◌≤◌, List, [], length, Option, Some, None, IfSome, unwrap_or, refl, arith, replicate, codes, inl, inr, length-replicate, Assignment, commands, Status, SourceTask, line, RunNumbers, Answers, faulty, program, LoadReplies, long, loaded, GivesRun, not_made, made, GivesSource, at_fault, by_program, RecordReplies, long_input, IsRecordReply, ReplayReplies, long_recording, no_recording, long_source_in, IsReplayReply, of_record, of_replay, Runs, not_run, ran, run_status_of, Checks, accepted, refused, Explains, explained, Does, status_of, Judges, not_judged, judged, JudgesSource, faulty_source, of_program, FileReplies, long_file, no_file, many_events, long_source, source_judged, IsFileReply, task_in, ReadsSource, usage_text, Replies, IsReply, usage, too_long, answered, audited, of_load, code_of, IsOfReply, Outcome, Ran, Code, Verdict, EventLine, Command, told_left}
use Rattle.sharc_top.specs.Reply.{recorded, replayed}

-- an input that is longer than a number, and what a source had left where it reports it
pub record LongInput (left : Option (List ℕ)) (limit : ℕ) : Type 0 where
  pub input : List ℕ
  pub told : IfSome left (λ bytes. input ≡ bytes)
  pub long : limit < length input

pub input_over : (left : Option (List ℕ)) (limit : ℕ) → IfSome left (λ bytes. limit < length bytes) → LongInput left limit
input_over None limit h = record { input = replicate (limit + 1) 0; told = tt; long = omega (arith, length-replicate {A = ℕ} (limit + 1) 0) }
input_over (Some bytes) limit h = record { input = bytes; told = refl; long = h }

pub reply_usage : (words : List (List ℕ)) (left : Option (List ℕ)) (s : Status) (text : List ℕ) → commands words ≡ None
    → s ≡ Status.Usage → text ≡ line usage_text → IsReply words left s text
reply_usage words left s text none e t =
    record { input = unwrap_or left []; told = told_left left; reply = rw (e, t) (usage none) }

pub reply_loaded : (words : List (List ℕ)) (left : Option (List ℕ)) (number workers : ℕ) (s : Status) (text : List ℕ) → commands words ≡ Some (Command.Load number workers)
    → LoadReplies number workers s text → IsReply words left s text
reply_loaded words left number workers s text is reply = record { input = unwrap_or left []; told = told_left left; reply = of_load number workers s text is reply }

pub reply_too_long : (words : List (List ℕ)) (left : Option (List ℕ)) (s : Status) (text : List ℕ) → ReadsSource words
    → IfSome left (λ bytes. 1048576 < length bytes) → s ≡ Status.SourceRefused → text ≡ line (codes "source over 1048576 bytes") → IsReply words left s text
reply_too_long words left s text h over e t =
    let l = input_over left 1048576 over in
    record { input = l.input; told = l.told; reply = rw (e, t) (too_long h l.long) }

pub reply_answered : (words : List (List ℕ)) (left : Option (List ℕ)) (t : SourceTask) (source : List ℕ) (s : Status) (text : List ℕ) → task_in (commands words) ≡ Some t
    → IfSome left (λ bytes. source ≡ bytes) → length source ≤ 1048576 → Answers t source s text → IsReply words left s text
reply_answered words left t source s text h told short a = record { input = source; told = told; reply = answered t s text h short a }

pub reply_audited : (words : List (List ℕ)) (left : Option (List ℕ)) (s : Status) (text : List ℕ) → commands words ≡ Some Command.Audit → IsFileReply left s text → IsReply words left s text
reply_audited words left s text is r = record { input = r.input; told = r.told; reply = audited s text is r.reply }

pub reply_recorded : (words : List (List ℕ)) (left : Option (List ℕ)) (workers heap limit : ℕ) (s : Status) (text : List ℕ) → commands words ≡ Some (Command.Record workers heap limit) → IsRecordReply heap limit left s text
    → IsReply words left s text
reply_recorded words left workers heap limit s text is r = record { input = r.input; told = r.told; reply = recorded workers heap limit s text is r.reply }

pub reply_replayed : (words : List (List ℕ)) (left : Option (List ℕ)) (s : Status) (text : List ℕ) → commands words ≡ Some Command.Replay → IsReplayReply left s text → IsReply words left s text
reply_replayed words left s text is r = record { input = r.input; told = r.told; reply = replayed s text is r.reply }

-- ---- a reply has none of the statuses of failures

-- a status below 9
low : (n : ℕ) → n ≤ 8 → IsOfReply n
low n h = inl h

checks_status : (m : Assignment) (s : Status) (text : List ℕ) → Checks m s text → IsOfReply (code_of s)
checks_status m s text (accepted warnings meets are) = low 0 (omega arith)
checks_status m s text (refused t is) = low 1 (omega arith)

explains_status : (m : Assignment) (s : Status) (text : List ℕ) → Explains m s text → IsOfReply (code_of s)
explains_status m s text (explained x verdict is) = checks_status m x verdict is

outcome_status : (o : Outcome) → IsOfReply (code_of (run_status_of o))
outcome_status Outcome.Done = low 0 (omega arith)
outcome_status Outcome.Reported = low 3 (omega arith)
outcome_status Outcome.Stopped = low 4 (omega arith)
outcome_status Outcome.Stuck = low 5 (omega arith)
outcome_status Outcome.Limit = low 6 (omega arith)

runs_status : (n : RunNumbers) (m : Assignment) (s : Status) (text : List ℕ) → Runs n m s text → IsOfReply (code_of s)
runs_status n m s text (not_run t is) = low 1 (omega arith)
runs_status n m s text (ran code run meets compiled fit is) = outcome_status run.outcome

does_status : (t : SourceTask) (m : Assignment) (s : Status) (text : List ℕ) → Does t m s text → IsOfReply (code_of s)
does_status SourceTask.Check m s text d = checks_status m s text d
does_status SourceTask.Explain m s text d = explains_status m s text d
does_status (SourceTask.Run n) m s text d = runs_status n m s text d

answers_status : (t : SourceTask) (source : List ℕ) (s : Status) (text : List ℕ) → Answers t source s text → IsOfReply (code_of s)
answers_status t source s text (faulty fault is) = low 2 (omega arith)
answers_status t source s text (program m x y front d) = does_status t m x y d

load_status : (number workers : ℕ) (s : Status) (text : List ℕ) → LoadReplies number workers s text → IsOfReply (code_of s)
load_status number workers s text (long h) = low 2 (omega arith)
load_status number workers s text (loaded x y short is) = answers_status _ _ x y is

verdict_status : (v : Verdict) → IsOfReply (code_of (status_of v))
verdict_status (Verdict.Obeys n) = low 0 (omega arith)
verdict_status (Verdict.Fails n why) = inr (inl refl)
verdict_status (Verdict.Fuel n) = inr (inr refl)

judges_status : (m : Assignment) (fuel : ℕ) (events : List EventLine) (s : Status) (text : List ℕ) → Judges m fuel events s text → IsOfReply (code_of s)
judges_status m fuel events s text (not_judged t is) = low 1 (omega arith)
judges_status m fuel events s text (judged v meets is) = verdict_status v

source_status : (source : List ℕ) (fuel : ℕ) (events : List EventLine) (s : Status) (text : List ℕ) → JudgesSource source fuel events s text → IsOfReply (code_of s)
source_status source fuel events s text (faulty_source fault is) = low 2 (omega arith)
source_status source fuel events s text (of_program m x y front is) = judges_status m fuel events x y is

file_status : (input : List ℕ) (s : Status) (text : List ℕ) → FileReplies input s text → IsOfReply (code_of s)
file_status input s text (long_file h) = low 2 (omega arith)
file_status input s text (no_file n short bad) = low 2 (omega arith)
file_status input s text (many_events short many) = low 2 (omega arith)
file_status input s text (long_source source fuel events file h) = low 2 (omega arith)
file_status input s text (source_judged source fuel events file short x y is) = source_status source fuel events x y is

made_status : (m : Assignment) (Makes : Code → Ran → Type 0) (s : Status) (text : List ℕ) → GivesRun m Makes s text → IsOfReply (code_of s)
made_status m Makes s text (not_made t is) = low 1 (omega arith)
made_status m Makes s text (made code run meets compiled fit is) = outcome_status run.outcome

given_status : (source : List ℕ) (Makes : Code → Ran → Type 0) (s : Status) (text : List ℕ) → GivesSource source Makes s text → IsOfReply (code_of s)
given_status source Makes s text (at_fault fault is) = low 2 (omega arith)
given_status source Makes s text (by_program m x y front is) = made_status m Makes x y is

record_status : (heap limit : ℕ) (input : List ℕ) (s : Status) (text : List ℕ) → RecordReplies heap limit input s text → IsOfReply (code_of s)
record_status heap limit input s text (long_input h) = low 2 (omega arith)
record_status heap limit input s text (of_record short x y is) = given_status _ _ x y is

replay_status : (input : List ℕ) (s : Status) (text : List ℕ) → ReplayReplies input s text → IsOfReply (code_of s)
replay_status input s text (long_recording h) = low 2 (omega arith)
replay_status input s text (no_recording n short bad) = low 2 (omega arith)
replay_status input s text (long_source_in file short is h) = low 2 (omega arith)
replay_status input s text (of_replay file short has few x y is) = given_status _ _ x y is

reply_status : (words : List (List ℕ)) (input : List ℕ) (s : Status) (text : List ℕ) → Replies words input s text → IsOfReply (code_of s)
reply_status words input s text (usage h) = low 8 (omega arith)
reply_status words input s text (too_long h more) = low 2 (omega arith)
reply_status words input s text (answered t x y h short a) = answers_status t input x y a
reply_status words input s text (of_load number workers x y h is) = load_status number workers x y is
reply_status words input s text (recorded workers heap limit x y h is) = record_status heap limit input x y is
reply_status words input s text (replayed x y h is) = replay_status input x y is
reply_status words input s text (audited x y h is) = file_status input x y is

pub reply_of : (words : List (List ℕ)) (left : Option (List ℕ)) (s : Status) (text : List ℕ) → IsReply words left s text → IsOfReply (code_of s)
reply_of words left s text r = reply_status words r.input s text r.reply
