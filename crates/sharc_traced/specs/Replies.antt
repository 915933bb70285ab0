-- What the program writes for its words and its input, and with which status it ends.
use Rattle.std.specs.Prelude.{◌≡◌, ℕ, suc, ◌<◌, ◌≤◌, false, List, [], ◌∷◌, length, map, reverse, take, codes, Option}
use Rattle.std.specs.Prelude.{Some, None, IfSome, if◌then◌else◌}
use Rattle.std.specs.{Io.KnownBytes.Appends, Str.bytes_eq}
use Rattle.sharc_tree.specs.declared.event.SourceEvent.{SourceEvent}
use Rattle.sharc_mode.specs.Moded.{Assignment}
use Rattle.sharc_code.specs.{declared.code.Code.Code, declared.shape.Shape.Shape, Layout.Fits, Runs.Turn}
use Rattle.sharc_code.specs.Whole.{CheckedRun, place_after}
use Rattle.sharc_threads.specs.Ends.{is_enabled}
use Rattle.sharc_seq.specs.Run.{AreChosen}
use Rattle.sharc_schedule.specs.{File.{FileView, lines_in, IsFile, IsFault}, Schedule.Stored}
use Rattle.sharc_build.specs.{declared.building.Built.Built, Built.IsBuilt}
use Rattle.sharc_audit.specs.Lines.{AreLines}
use Rattle.sharc_history.specs.{declared.event.Event.Event, Told.{told, told_of_event}}
use Rattle.sharc_history.specs.{declared.history.History.History, History.{told_events, references_of, IsAccountOf}}
use Rattle.sharc_history.specs.References.{deed_refers}
use Rattle.sharc_traced.specs.{declared.cut.Cut.Cut, declared.cut.Cut.TheVariants.{Whole as uncut}}
use Rattle.sharc_traced.specs.{declared.cut.EventPrefix.EventPrefix, Cut.IsFront, Writing.file_text}
use Rattle.sharc_top.specs.{declared.status.Status.{Status as Answer}, Limits.{source_limit, recording_limit}}
use Rattle.sharc_top.specs.{Recording.bad_file_line, Refused.Refuses, Status.{code_of as code_of_answer}, Text.line}
use Rattle.sharc_top.specs.declared.status.Status.TheVariants as answers
use Rattle.sharc_traced.specs.{declared.call.Ended.Ended, declared.reply.Reply.Reply, declared.reply.Stopped.Stopped}
use Rattle.sharc_traced.specs.{declared.status.Status.Status, declared.words.Form.Form}
use Rattle.sharc_history.specs.Places.{places_text}
use Rattle.sharc_traced.specs.declared.status.Status.TheVariants as status
use Rattle.sharc_traced.specs.declared.words.Form.TheVariants as form

-- ---- words and statuses
abbrev pub form_of : List (List ℕ) → Option Form
form_of [] = Some form.File
form_of (word ∷ []) = if bytes_eq word (codes "--places") then Some form.Places else None
form_of (word ∷ (other ∷ words)) = None

abbrev pub code_of : Status → ℕ
code_of status.Whole = 0
code_of status.Part = 7
code_of (status.Refused answer) = code_of_answer answer
code_of status.Usage = 8
code_of status.ReadFault = 9
code_of status.WriteFault = 10
code_of status.NoMemory = 11

-- ---- the run
-- the run that the schedule of a file chooses, of the code of a program
pub record IsRunOf (file : FileView) (code : Code) (s : Shape) (turns : List Turn) : Type 0 where
  pub fits : Fits code s
  pub heap : s.heap ≡ file.heap
  pub checked : CheckedRun code s turns
  pub chosen : AreChosen (Stored file.places) code s file.limit turns
  pub over : (t : ℕ) → is_enabled code s file.limit (place_after code s turns) t ≡ false

-- its events, the first one first
abbrev pub history : Code → Shape → List Turn → List SourceEvent
history code s turns = reverse (told_events code s turns)

-- ---- the event file of a run
abbrev pub status_by : Cut → Status
status_by uncut = status.Whole
status_by _ = status.Part

abbrev pub why_by : ℕ → Cut → Option Stopped
why_by count uncut = None
why_by count cut = Some record { event = suc count; cut = cut }

-- The lines are those of the first events of the run, as many as have lines, as a file may have, and as audit accepts
pub record IsFileOf (m : Assignment) (code : Code) (source : List ℕ) (history : List SourceEvent)
    (reply : Reply) : Type 0 where
  pub events : List Event
  pub told_are : map (told code) events ≡ map told_of_event history
  pub front : EventPrefix
  pub is_front : IsFront m events front
  pub lines_are : AreLines m.typed is_front.lines (take front.count history)
  pub text : reply.text.items ≡ file_text m.typed source (take front.count events)
  pub status : reply.status ≡ status_by front.cut
  pub why : reply.why ≡ why_by front.count front.cut

-- and a value is written as a reference exactly where it is one, with the number of its object
pub record IsFileOfRun (m : Assignment) (code : Code) (source : List ℕ) (s : Shape) (turns : List Turn)
    (reply : Reply) : Type 0 where
  pub is : IsFileOf m code source (history code s turns) reply
  pub references : map (λ (e : Event). deed_refers e.deed) is.events ≡ reverse (references_of code s turns)

-- ---- the lines of a run in the words of its source
-- one for each of its events, and one for each thread that waits or was stopped at its end
pub record IsPlacesOf (code : Code) (s : Shape) (turns : List Turn) (reply : Reply) : Type 0 where
  pub account : History
  pub is_account : IsAccountOf code s turns account
  pub text : reply.text.items ≡ places_text code account.events.items account.lasts.items
  pub status : reply.status ≡ status.Whole
  pub why : reply.why ≡ None

abbrev pub IsOfRun : Form → FileView → Built → Shape → List Turn → Reply → Type 0
IsOfRun form.File file built s turns reply = IsFileOfRun built.checked built.code file.source s turns reply
IsOfRun form.Places file built s turns reply = IsPlacesOf built.code s turns reply

pub record IsTraced (f : Form) (file : FileView) (built : Built) (reply : Reply) : Type 0 where
  pub shape : Shape
  pub turns : List Turn
  pub run : IsRunOf file built.code shape turns
  pub is : IsOfRun f file built shape turns reply

-- ---- the reply
-- this status and this text, and nothing else
pub record IsPlain (reply : Reply) (s : Status) (text : List ℕ) : Type 0 where
  pub status : reply.status ≡ s
  pub written : reply.text.items ≡ text
  pub why : reply.why ≡ None

-- of a recorded file
pub data FileReplies (f : Form) (file : FileView) (reply : Reply) : Type 0 where
  long_source : source_limit < length file.source
      → IsPlain reply (status.Refused answers.SourceRefused) (line (codes "source over 1048576 bytes"))
      → FileReplies f file reply
  refused : (s : Answer) (text : List ℕ) → Refuses file.source s text → IsPlain reply (status.Refused s) text
      → FileReplies f file reply
  traced : (built : Built) → IsBuilt file.source built → IsTraced f file built reply → FileReplies f file reply

-- of an input within the limit
pub data InputReplies (f : Form) (input : List ℕ) (reply : Reply) : Type 0 where
  no_recording : (n : ℕ) → IsFault (lines_in input) n
      → IsPlain reply (status.Refused answers.SourceRefused) (bad_file_line n) → InputReplies f input reply
  recorded : (file : FileView) → IsFile input file → FileReplies f file reply → InputReplies f input reply

-- of the words and an input
pub data TraceReplies (words : List (List ℕ)) (input : List ℕ) (reply : Reply) : Type 0 where
  usage : form_of words ≡ None → IsPlain reply status.Usage (line (codes "usage: [--places]"))
      → TraceReplies words input reply
  long_recording : (f : Form) → form_of words ≡ Some f → recording_limit < length input
      → IsPlain reply (status.Refused answers.SourceRefused) (line (codes "file over 1073741824 bytes"))
      → TraceReplies words input reply
  read : (f : Form) → form_of words ≡ Some f → length input ≤ recording_limit → InputReplies f input reply
      → TraceReplies words input reply

-- of what a source of bytes had left; of one that does not report its bytes it is the reply to some input
pub record IsTraceReply (words : List (List ℕ)) (left : Option (List ℕ)) (reply : Reply) : Type 0 where
  pub input : List ℕ
  pub told : IfSome left (λ bytes. input ≡ bytes)
  pub reply_is : TraceReplies words input reply

-- ---- the end
-- the whole reply was written
pub record Replied (words : List (List ℕ)) (left old new : Option (List ℕ)) (ended : Ended) : Type 0 where
  pub reply : Reply
  pub is : IsTraceReply words left reply
  pub status : ended.status ≡ reply.status
  pub why : ended.why ≡ reply.why
  pub written : Appends old new reply.text.items

-- a front part of it was, and not all
pub record RepliedInPart (words : List (List ℕ)) (left old new : Option (List ℕ)) : Type 0 where
  pub reply : Reply
  pub is : IsTraceReply words left reply
  pub count : ℕ
  pub short : count < length reply.text.items
  pub written : Appends old new (take count reply.text.items)

-- the statuses of whole replies, and those with which nothing is written
abbrev pub IsOfReply : Status → Type 0
IsOfReply status.Whole = Unit {0}
IsOfReply status.Part = Unit {0}
IsOfReply (status.Refused answer) = Unit {0}
IsOfReply status.Usage = Unit {0}
IsOfReply _ = ⊥

abbrev pub IsOfSilence : Status → Type 0
IsOfSilence status.ReadFault = Unit {0}
IsOfSilence status.NoMemory = Unit {0}
IsOfSilence _ = ⊥
