-- What `audit` writes for an event file, and with which status it ends.
use Rattle.std.specs.Prelude.{◌≡◌, ℕ, ◌<◌, ◌≤◌, List, length, codes, Option, IfSome}
use Rattle.sharc_mode.specs.Moded.{Assignment}
use Rattle.sharc_check.specs.Rules.{MeetsRules}
use Rattle.sharc_audit.specs.{declared.audit.Verdict.Verdict, declared.line.EventLine.EventLine, Audited.Audits}
use Rattle.sharc_audit.specs.Grammar.{text_lines, IsEventFile, IsFirstBad, HasMany}
use Rattle.sharc_audit.specs.Texts.{verdict_line, bad_line, many_line}
use Rattle.sharc_audit.specs.declared.audit.Verdict.TheVariants as verdict
use Rattle.sharc_report.specs.{Refusals.refusal_line, declared.refusal.SourceFault.SourceFault}
use Rattle.sharc_front_end.specs.Front.{IsFront, IsSourceFault}
use Rattle.sharc_top.specs.{declared.status.Status.Status, Limits.{source_limit, file_limit}, Text.line}
use Rattle.sharc_top.specs.Refused.{IsModeRefusal}
use Rattle.sharc_top.specs.declared.status.Status.TheVariants as status

abbrev pub status_of : Verdict → Status
status_of (verdict.Obeys n) = status.Done
status_of (verdict.Fails n why) = status.EventsRefused
status_of (verdict.Fuel n) = status.FuelSpent

-- of events of a program with its modes: what `check` writes where these are refused, else the verdict
pub data Judges (m : Assignment) (fuel : ℕ) (events : List EventLine) : Status → List ℕ → Type 0 where
  not_judged : (text : List ℕ) → IsModeRefusal m text → Judges m fuel events status.ModesRefused text
  judged : (v : Verdict) → MeetsRules m → Audits m fuel events v
      → Judges m fuel events (status_of v) (verdict_line fuel v)

-- of events of a source within the limit: its first fault, else what becomes of the program that it is, with the least
-- modes
pub data JudgesSource (source : List ℕ) (fuel : ℕ) (events : List EventLine) : Status → List ℕ → Type 0 where
  faulty_source : (fault : SourceFault) → IsSourceFault source fault
      → JudgesSource source fuel events status.SourceRefused (refusal_line fault)
  of_program : (m : Assignment) (s : Status) (text : List ℕ) → IsFront source m → Judges m fuel events s text
      → JudgesSource source fuel events s text

-- an event file within the limit, with so few events that they are audited
pub record IsFewIn (input source : List ℕ) (fuel : ℕ) (events : List EventLine) : Type 0 where
  pub short : length input ≤ file_limit
  pub file : IsEventFile (text_lines input) source fuel events
  pub few : length events ≤ 4096

-- of an input
pub data FileReplies (input : List ℕ) : Status → List ℕ → Type 0 where
  long_file : file_limit < length input
      → FileReplies input status.SourceRefused (line (codes "file over 16777216 bytes"))
  no_file : (n : ℕ) → length input ≤ file_limit → IsFirstBad (text_lines input) n
      → FileReplies input status.SourceRefused (bad_line n)
  many_events : length input ≤ file_limit → HasMany (text_lines input)
      → FileReplies input status.SourceRefused many_line
  long_source : (source : List ℕ) (fuel : ℕ) (events : List EventLine) → IsFewIn input source fuel events
      → source_limit < length source → FileReplies input status.SourceRefused (line (codes "source over 1048576 bytes"))
  source_judged : (source : List ℕ) (fuel : ℕ) (events : List EventLine) → IsFewIn input source fuel events
      → length source ≤ source_limit
      → (s : Status) (text : List ℕ) → JudgesSource source fuel events s text → FileReplies input s text

-- of what a source of bytes had left; of one that does not report its bytes it is the reply to some input
pub record IsFileReply (left : Option (List ℕ)) (s : Status) (text : List ℕ) : Type 0 where
  pub input : List ℕ
  pub told : IfSome left (λ bytes. input ≡ bytes)
  pub reply : FileReplies input s text
