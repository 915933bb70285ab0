-- What is written for an event file is a reply to it.
use Rattle.sharc_top.proofs.{Imports.{◌≡◌, ℕ, ◌<◌, ◌≤◌, List, length, Option, Some, None, IfSome, subst, Assignment, MeetsRules, Verdict, FileFault, EventLine, Audits, IsFault, text_lines, verdict_line, bad_line, many_line, file_fault_line, refusal_line, SourceFault, IsFront, IsSourceFault, Status, status_of, Judges, not_judged, judged, JudgesSource, faulty_source, of_program, IsFewIn, FileReplies, long_file, no_file, many_events, long_source, source_judged, IsFileReply, line, IsModeRefusal, codes}, Replies.input_over}

pub judges_refused : (m : Assignment) (fuel : ℕ) (events : List EventLine) (s : Status) (text : List ℕ) → s ≡ Status.ModesRefused → IsModeRefusal m text → Judges m fuel events s text
judges_refused m fuel events s text e is = rw e (not_judged text is)

pub judges_by : (m : Assignment) (fuel : ℕ) (events : List EventLine) (s : Status) (text : List ℕ) (v : Verdict) → MeetsRules m → Audits m fuel events v → s ≡ status_of v → text ≡ verdict_line fuel v → Judges m fuel events s text
judges_by m fuel events s text v meets audits e t = rw (e, t) (judged v meets audits)

pub source_faulty : (source : List ℕ) (fuel : ℕ) (events : List EventLine) (s : Status) (text : List ℕ) (fault : SourceFault) → IsSourceFault source fault → s ≡ Status.SourceRefused → text ≡ refusal_line fault
    → JudgesSource source fuel events s text
source_faulty source fuel events s text fault is e t = rw (e, t) (faulty_source fault is)

pub source_program : (source : List ℕ) (fuel : ℕ) (events : List EventLine) (s : Status) (text : List ℕ) (m : Assignment) → IsFront source m → Judges m fuel events s text → JudgesSource source fuel events s text
source_program source fuel events s text m front is = of_program m s text front is

pub replies_long_source : (input source : List ℕ) (fuel : ℕ) (events : List EventLine) (s : Status) (text : List ℕ) → IsFewIn input source fuel events → 1048576 < length source → s ≡ Status.SourceRefused
    → text ≡ line (codes "source over 1048576 bytes") → FileReplies input s text
replies_long_source input source fuel events s text file long e t = rw (e, t) (long_source source fuel events file long)

pub replies_judged : (input source : List ℕ) (fuel : ℕ) (events : List EventLine) (s : Status) (text : List ℕ) → IsFewIn input source fuel events → length source ≤ 1048576 → JudgesSource source fuel events s text → FileReplies input s text
replies_judged input source fuel events s text file short is = source_judged source fuel events file short s text is

pub replies_fault : (input : List ℕ) (f : FileFault) (s : Status) (text : List ℕ) → length input ≤ 16777216 → IsFault (text_lines input) f → s ≡ Status.SourceRefused → file_fault_line f ≡ Some text → FileReplies input s text
replies_fault input (FileFault.Line n) s text short is e t = let same : bad_line n ≡ text = cc in rw e (subst (FileReplies input Status.SourceRefused) same (no_file n short is))
replies_fault input FileFault.Many s text short is e t = let same : many_line ≡ text = cc in rw e (subst (FileReplies input Status.SourceRefused) same (many_events short is))
replies_fault input FileFault.Memory s text short is e t = absurd (let z : None ≡ Some text = t in cc)

pub reply_long_file : (left : Option (List ℕ)) (s : Status) (text : List ℕ) → IfSome left (λ bytes. 16777216 < length bytes) → s ≡ Status.SourceRefused → text ≡ line (codes "file over 16777216 bytes") → IsFileReply left s text
reply_long_file left s text long e t =
    let l = input_over left 16777216 long in
    record { input = l.input; told = l.told; reply = rw (e, t) (long_file l.long) }
