-- What is written for a program whose modes are refused.
use Rattle.std.specs.Prelude.{◌≡◌, ℕ, List, Option, Result, Ok, Err}
use Rattle.sharc_mode.specs.{declared.error.Cast.Cast, declared.error.ModeError.ModeError, Moded.Assignment}
use Rattle.sharc_check.specs.{Rules.MeetsRules, Checks.AreAll}
use Rattle.sharc_suggest.specs.Casts.{AreSuggested}
use Rattle.sharc_report.specs.{Refusals.refusal_line, Verdicts.check_text, declared.refusal.SourceFault.SourceFault}
use Rattle.sharc_front_end.specs.Front.{IsFront, IsSourceFault}
use Rattle.sharc_build.specs.{declared.building.Built.Built, Built.IsBuilt}
use Rattle.sharc_top.specs.{declared.reply.Reply.Reply, declared.status.Status.Status}
use Rattle.sharc_top.specs.declared.status.Status.TheVariants as status

-- all the cases M1 to M11 that arise, in their order, each with the cast that would repair it
pub record IsModeRefusal (m : Assignment) (text : List ℕ) : Type 0 where
  pub breaks_rules : ¬ (MeetsRules m)
  pub errors : List ModeError
  pub all : AreAll m errors
  pub casts : List (Option Cast)
  pub suggested : AreSuggested m errors casts
  pub written : text ≡ check_text m.typed errors casts

-- what is written for a source of which no code is built: its first fault, or the errors of the program that it is
pub data Refuses (source : List ℕ) : Status → List ℕ → Type 0 where
  source_refused : (fault : SourceFault) → IsSourceFault source fault
      → Refuses source status.SourceRefused (refusal_line fault)
  modes_refused : (m : Assignment) (text : List ℕ) → IsFront source m → IsModeRefusal m text
      → Refuses source status.ModesRefused text

-- its code, or that
abbrev pub IsBuiltOrRefused : List ℕ → Result Built Reply → Type 0
IsBuiltOrRefused source (Ok built) = IsBuilt source built
IsBuiltOrRefused source (Err reply) = Refuses source reply.status reply.text.items
