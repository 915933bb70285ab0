-- Which reply `audit` has to an event file whose source is a program with accepted modes: that of its verdict, and no
-- other.
use Rattle.std.specs.{Prelude.{◌≡◌, ℕ, ◌≤◌, List, length, Option, Some}, Io.KnownBytes.Appends}
use Rattle.sharc_mode.specs.Moded.{Assignment}
use Rattle.sharc_check.specs.Rules.{MeetsRules}
use Rattle.sharc_audit.specs.{declared.audit.Verdict.Verdict, declared.line.EventLine.EventLine, Audited.Audits}
use Rattle.sharc_audit.specs.Texts.{verdict_line}
use Rattle.sharc_cli.specs.{Commands.commands, declared.command.Command.TheVariants.Audit}
use Rattle.sharc_front_end.specs.Front.{IsFront}
use Rattle.sharc_top.specs.{declared.status.Status.Status, EventFiles.{IsFewIn, status_of}, Limits.source_limit}
use Rattle.sharc_top.specs.{Reply.{IsReply, Replied}, Status.code_of}

-- The words are those of `audit`; the input is an event file within the limits, and its source this program with these
-- modes, which are accepted.
pub record IsAudited (words : List (List ℕ)) (input : List ℕ) (m : Assignment) (fuel : ℕ)
    (events : List EventLine) : Type 0 where
  pub asked : commands words ≡ Some Audit
  pub source : List ℕ
  pub file : IsFewIn input source fuel events
  pub within : length source ≤ source_limit
  pub front : IsFront source m
  pub meets : MeetsRules m

-- a reply is the line of a verdict of its events
pub record IsVerdict (m : Assignment) (fuel : ℕ) (events : List EventLine) (s : Status) (text : List ℕ) : Type 0 where
  pub verdict : Verdict
  pub audits : Audits m fuel events verdict
  pub ends : s ≡ status_of verdict
  pub written : text ≡ verdict_line fuel verdict

abbrev pub AuditsAreOnly : Type 0
AuditsAreOnly =
    (words : List (List ℕ)) (input : List ℕ) (m : Assignment) (fuel : ℕ) (events : List EventLine)
    → IsAudited words input m fuel events
    → (s : Status) (text : List ℕ) → IsReply words (Some input) s text → IsVerdict m fuel events s text

-- the verdict of its events is shown by its line and its status
abbrev pub AuditsAreTold : Type 0
AuditsAreTold =
    (words : List (List ℕ)) (input : List ℕ) (m : Assignment) (fuel : ℕ) (events : List EventLine)
    → IsAudited words input m fuel events → (v : Verdict) → Audits m fuel events v
    → (old new : Option (List ℕ)) (code : ℕ) → Replied words (Some input) old new code
    → (code ≡ code_of (status_of v)) × Appends old new (verdict_line fuel v)

pub record AuditLaws : Type 0 where
  pub only : AuditsAreOnly
  pub told : AuditsAreTold
