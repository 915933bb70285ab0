-- What is suggested where the modes of a source are refused: each cast repairs its error.
use Rattle.std.specs.Prelude.{◌≡◌, ℕ, List, [], ◌∷◌, Option, Some, None}
use Rattle.sharc_mode.specs.{declared.error.Cast.Cast, declared.error.ModeError.ModeError, Moded.Assignment}
use Rattle.sharc_check.specs.Rules.{MeetsRules}
use Rattle.sharc_suggest_laws.specs.Repaired.{IsRepair}
use Rattle.sharc_front_end.specs.Front.{IsFront}
use Rattle.sharc_top.specs.{declared.status.Status.Status, Refused.IsModeRefusal, Reply.IsReply}
use Rattle.sharc_top.specs.declared.status.Status.TheVariants as status
use Rattle.sharc_top.specs.declared.task.SourceTask.TheVariants as task
use Rattle.sharc_reply_laws.specs.Laws.{IsAsked}

-- beside an error is no cast, or one with which the program is typed and has no M1 at the place of the error
abbrev pub Repairs : Assignment → ModeError → Option Cast → Type 0
Repairs m e None = Unit {0}
Repairs m e (Some c) = IsRepair m e c

-- beside each of these errors
abbrev pub EachRepairs : Assignment → List ModeError → List (Option Cast) → Type 0
EachRepairs m [] [] = Unit {0}
EachRepairs m [] (c ∷ casts) = ⊥
EachRepairs m (e ∷ errors) [] = ⊥
EachRepairs m (e ∷ errors) (c ∷ casts) = Repairs m e c × EachRepairs m errors casts

-- what is written where modes are refused, with what is suggested
pub record IsRepairing (m : Assignment) (text : List ℕ) : Type 0 where
  pub refusal : IsModeRefusal m text
  pub repairs : EachRepairs m refusal.errors refusal.casts

-- of the program that a source is
abbrev pub RefusalsRepair : Type 0
RefusalsRepair = (source : List ℕ) (m : Assignment) → IsFront source m
    → (text : List ℕ) (refusal : IsModeRefusal m text) → EachRepairs m refusal.errors refusal.casts

-- so where it has refused modes each reply to `check` is such a text
abbrev pub ChecksRepair : Type 0
ChecksRepair = (words : List (List ℕ)) (input : List ℕ) (m : Assignment) → IsAsked words task.Check input m
    → ¬ (MeetsRules m) → (s : Status) (text : List ℕ) → IsReply words (Some input) s text
    → (s ≡ status.ModesRefused) × IsRepairing m text

pub record SuggestionLaws : Type 0 where
  pub refusals : RefusalsRepair
  pub checks : ChecksRepair
