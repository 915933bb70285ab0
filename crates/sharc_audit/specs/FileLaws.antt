-- A text is one event file at most, and then has no fault; the first line that continues no file is one; and what the
-- lines of a text are.
use Rattle.std.specs.{Prelude.{◌≡◌, ℕ, false, nat_eq, List, ◌∷◌, ◌++◌}, List.list_any}
use Rattle.sharc_audit.specs.{declared.line.EventLine.EventLine, Grammar.{Text, text_lines, IsEventFile, IsFirstBad}}

abbrev pub FilesAreOne : Type 0
FilesAreOne =
    (texts : List Text) (source other : Text) (fuel more : ℕ) (events others : List EventLine)
    → IsEventFile texts source fuel events → IsEventFile texts other more others
    → (source ≡ other) × (fuel ≡ more) × (events ≡ others)

abbrev pub FilesHaveNoFault : Type 0
FilesHaveNoFault = (texts : List Text) (source : Text) (fuel : ℕ) (events : List EventLine) (n : ℕ)
    → IsEventFile texts source fuel events → IsFirstBad texts n → ⊥

abbrev pub FaultsAreOne : Type 0
FaultsAreOne = (texts : List Text) (n m : ℕ) → IsFirstBad texts n → IsFirstBad texts m → n ≡ m

-- what stands before the first newline is a line, and those behind it are the others
abbrev pub LinesAreCut : Type 0
LinesAreCut = (line behind : Text)
    → list_any (nat_eq 10) line ≡ false → text_lines (line ++ 10 ∷ behind) ≡ line ∷ text_lines behind

pub record FileLaws : Type 0 where
  pub file : FilesAreOne
  pub faultless : FilesHaveNoFault
  pub fault : FaultsAreOne
  pub lines : LinesAreCut
