-- What suggestions are to those who argue with them.
use Rattle.std.specs.Prelude.{◌≡◌, List, map, Option}
use Rattle.sharc_mode.specs.{declared.error.Cast.Cast, declared.error.ModeError.ModeError, Moded.Assignment}
use Rattle.sharc_suggest.specs.Casts.{IsSuggested, AreSuggested}

-- an error has one answer
abbrev pub OneAnswer : Type 0
OneAnswer = (m : Assignment) (e : ModeError) (a b : Option Cast) → IsSuggested m e a → IsSuggested m e b → a ≡ b

-- and what is suggested for a list is what is suggested for each
abbrev pub EachAnswered : Type 0
EachAnswered = (m : Assignment) (errors : List ModeError) (answer : List (Option Cast)) (each : ModeError → Option Cast)
    → ((e : ModeError) → IsSuggested m e (each e)) → AreSuggested m errors answer
    → answer ≡ map each errors

pub record SuggestLaws : Type 0 where
  pub one : OneAnswer
  pub each : EachAnswered
