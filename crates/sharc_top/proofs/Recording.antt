-- What is written for a source that is recorded and for a recorded file is a reply to it.
use Rattle.sharc_top.proofs.{Imports.{◌≡◌, ℕ, ◌<◌, ◌≤◌, List, length, Option, IfSome, codes, Assignment, Code, FileView, lines_in, IsFile, Ran, IsFront, Status, Records, Replays, GivesRun, GivesSource, by_program, long_input, recorded, IsRecordReply, bad_file_line, ReplayReplies, long_recording, no_recording, long_source_in, replayed, IsReplayReply, line}, Replies.input_over}
use Rattle.sharc_schedule.specs.File.{IsFault}

pub gives_program : (source : List ℕ) (Makes : Code → Ran → Type 0) (s : Status) (text : List ℕ) (m : Assignment) → IsFront source m → GivesRun m Makes s text → GivesSource source Makes s text
gives_program source Makes s text m front is = by_program m s text front is

-- ---- `record`
pub reply_long_input : (heap limit : ℕ) (left : Option (List ℕ)) (s : Status) (text : List ℕ) → IfSome left (λ bytes. 1048576 < length bytes) → s ≡ Status.SourceRefused → text ≡ line (codes "source over 1048576 bytes")
    → IsRecordReply heap limit left s text
reply_long_input heap limit left s text long e t =
    let l = input_over left 1048576 long in
    record { input = l.input; told = l.told; reply = rw (e, t) (long_input l.long) }

pub reply_record : (heap limit : ℕ) (left : Option (List ℕ)) (input : List ℕ) (s : Status) (text : List ℕ) → IfSome left (λ bytes. input ≡ bytes) → length input ≤ 1048576 → GivesSource input (Records input heap limit) s text
    → IsRecordReply heap limit left s text
reply_record heap limit left input s text told short is = record { input = input; told = told; reply = recorded short s text is }

-- ---- `replay`
pub replies_no_recording : (input : List ℕ) (n : ℕ) (s : Status) (text : List ℕ) → length input ≤ 1073741824 → IsFault (lines_in input) n → s ≡ Status.SourceRefused → text ≡ bad_file_line n → ReplayReplies input s text
replies_no_recording input n s text short is e t = rw (e, t) (no_recording n short is)

pub replies_long_source_in : (input : List ℕ) (file : FileView) (s : Status) (text : List ℕ) → length input ≤ 1073741824 → IsFile input file → 1048576 < length file.source → s ≡ Status.SourceRefused
    → text ≡ line (codes "source over 1048576 bytes") → ReplayReplies input s text
replies_long_source_in input file s text short is long e t = rw (e, t) (long_source_in file short is long)

pub replies_replayed : (input : List ℕ) (file : FileView) (s : Status) (text : List ℕ) → length input ≤ 1073741824 → IsFile input file → length file.source ≤ 1048576 → GivesSource file.source (Replays file) s text
    → ReplayReplies input s text
replies_replayed input file s text short is few gives = replayed file short is few s text gives

pub reply_long_recording : (left : Option (List ℕ)) (s : Status) (text : List ℕ) → IfSome left (λ bytes. 1073741824 < length bytes) → s ≡ Status.SourceRefused → text ≡ line (codes "file over 1073741824 bytes")
    → IsReplayReply left s text
reply_long_recording left s text long e t =
    let l = input_over left 1073741824 long in
    record { input = l.input; told = l.told; reply = rw (e, t) (long_recording l.long) }
