-- Lines of a source, and the file and the line in which an offset of it lies.
use Rattle.std.specs.Prelude.{◌≡◌, ℕ, ◌+◌, ◌-◌, ◌<◌, ◌≤◌, ◌==◌, ◌⊎◌, false, List, length, take, drop, slice_index}
use Rattle.std.specs.Prelude.{slice_range, Option, Some, None, if◌then◌else◌, codes}
use Rattle.std.specs.List.{prefix_len, position_or_len, count_by}
use Rattle.sharc_lex.specs.{Bytes.is_blank, Markers.{is_marker_line, marker}}

-- the bytes from an offset up to the next newline
abbrev pub line_at : List ℕ → ℕ → List ℕ
line_at source start = take (position_or_len (λ b. b == 10) (drop start source)) (drop start source)

-- a line begins at the beginning, and after each newline
abbrev pub BeginsLine : List ℕ → ℕ → Type 0
BeginsLine source start = (start ≡ 0) ⊎ (slice_index source (start - 1) ≡ 10)

-- how many newlines there are from one offset up to another
abbrev pub newlines : List ℕ → ℕ → ℕ → ℕ
newlines source low high = count_by (λ b. b == 10) (slice_range source low high)

-- the number and the file that a line gives to the next one, where it is a line marker
abbrev pub marker_of : List ℕ → Option (ℕ × List ℕ)
marker_of line = if is_marker_line line then marker (drop (prefix_len is_blank line + 1) line) else None

-- no line marker that begins at `start` or later ends before an offset
abbrev pub NoMarker : List ℕ → ℕ → ℕ → Type 0
NoMarker source start k = (s : ℕ) → start ≤ s → BeginsLine source s → s + length (line_at source s) < k
    → is_marker_line (line_at source s) ≡ false

-- before the first line marker the file is `input`, and its lines are counted from 1
pub record IsUnmarked (source : List ℕ) (k : ℕ) (file : List ℕ) (line : ℕ) : Type 0 where
  pub none : NoMarker source 0 k
  pub opening : file ≡ codes "input"
  pub counted : line ≡ 1 + newlines source 0 k

-- After a line marker the file is the one that it names. The line after it has the number that it gives, and each
-- newline since then counts one.
pub record IsMarked (source : List ℕ) (k : ℕ) (file : List ℕ) (line : ℕ) : Type 0 where
  pub start : ℕ
  pub number : ℕ
  pub begins : BeginsLine source start
  pub ends : start + length (line_at source start) < k
  pub gives : marker_of (line_at source start) ≡ Some (number, file)
  pub last : NoMarker source (start + 1) k
  pub counted : line ≡ number + newlines source (start + length (line_at source start) + 1) k

-- the file and the line in which an offset lies, by the last line marker before it
abbrev pub StandsIn : List ℕ → ℕ → List ℕ → ℕ → Type 0
StandsIn source k file line = IsUnmarked source k file line ⊎ IsMarked source k file line
