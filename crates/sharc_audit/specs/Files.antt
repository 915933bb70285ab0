-- What the reader of event files finds, step by step, and its faults.
use Rattle.std.specs.Prelude.{◌≡◌, ℕ, suc, ◌+◌, ◌<◌, ◌≤◌, List, ◌∷◌, ◌++◌, length, false, nat_eq, All}
use Rattle.std.specs.List.{join_with_byte, starts_with}
use Rattle.sharc_audit.specs.{declared.line.EventLine.EventLine, declared.file.FileFault.FileFault}
use Rattle.sharc_audit.specs.Grammar.{Text, IsNumber, mark, text_lines, AreEventLines, IsEventLine, IsFirstBad, HasMany}
use Rattle.sharc_audit.specs.declared.file.FileFault.TheVariants as fault

-- a line, and what follows it
pub record IsFirstLine (text line behind : Text) : Type 0 where
  pub lines : text_lines text ≡ line ∷ text_lines behind
  pub ends : 0 < length behind → text ≡ line ++ 10 ∷ behind
  pub shorter : length behind < length text

abbrev pub IsNoHeader : Text → Type 0
IsNoHeader t = starts_with nat_eq t mark ≡ false

-- a source and a header before this text, which begins at this line
pub record IsHead (text source : Text) (fuel : ℕ) (behind : Text) (n : ℕ) : Type 0 where
  pub first : Text
  pub more : List Text
  pub header : Text
  pub lines : text_lines text ≡ (first ∷ more) ++ (mark ++ header) ∷ text_lines behind
  pub plain : All IsNoHeader more
  pub fuel_is : IsNumber 1 65536 header fuel
  pub source_is : source ≡ join_with_byte 10 (first ∷ more)
  pub counted : n ≡ suc (suc (suc (length more)))
  pub room : n + length behind ≤ length text + 1

-- the first of these lines that is no event has this number, where the first line has that one
pub record IsBadEvent (texts : List Text) (first n : ℕ) : Type 0 where
  pub passed : List Text
  pub line : Text
  pub more : List Text
  pub events : List EventLine
  pub parts : texts ≡ passed ++ line ∷ more
  pub counted : n ≡ first + length passed
  pub are : AreEventLines passed events
  pub bad : (l : EventLine) → IsEventLine line l → ⊥

-- they are events, at least this many
pub record AreAtLeast (least : ℕ) (texts : List Text) : Type 0 where
  pub events : List EventLine
  pub are : AreEventLines texts events
  pub many : least ≤ length events

-- a line that is no event, or at least this many events
abbrev pub IsEventsFault : ℕ → List Text → ℕ → FileFault → Type 0
IsEventsFault least texts first (fault.Line n) = IsBadEvent texts first n
IsEventsFault least texts first fault.Many = AreAtLeast least texts
IsEventsFault least texts first fault.Memory = Unit {0}

-- what each fault says of a file's lines
abbrev pub IsFault : List Text → FileFault → Type 0
IsFault texts (fault.Line n) = IsFirstBad texts n
IsFault texts fault.Many = HasMany texts
IsFault texts fault.Memory = Unit {0}
