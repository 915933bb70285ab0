-- From what is said of all constructs to the cases that arise.
use Rattle.std.specs.Prelude.{ℕ, ◌+◌, Bool, true, false, List, [], ◌∷◌, fold, max, replicate, slice_set, slice_index_or}
use Rattle.std.specs.List.{flat_map}
use Rattle.sharc_tree.specs.declared.token.Span.{Span}
use Rattle.sharc_ctype.specs.Resolved.{Resolution}
use Rattle.sharc_mode.specs.{declared.error.ErrorCode.TheVariants.NamedByLockPath, declared.error.ModeError.ModeError}
use Rattle.sharc_mode.specs.declared.finding.Finding.{Finding}
use Rattle.sharc_mode.specs.{declared.finding.Finding.TheVariants.{Wrong, Names, Takes}, Notes.{error_where, error_of}}
use Rattle.sharc_mode.specs.Sharings.{text_at}

-- the number after the highest variable that is named
abbrev pub past : ℕ → Finding → ℕ
past n (Names x) = max n (x + 1)
past n (Wrong e) = n
past n (Takes s x) = n

abbrev pub past_all : List Finding → ℕ
past_all notes = fold past 0 notes

-- a flag for each token below
abbrev pub marked : List Bool → Finding → List Bool
marked flags (Names x) = slice_set flags x true
marked flags (Wrong e) = flags
marked flags (Takes s x) = flags

abbrev pub marks : List Finding → List Bool
marks notes = fold marked (replicate (past_all notes) false) notes

abbrev pub taken_errors : Resolution → Bool → Span → ℕ → List ModeError
taken_errors r named s x = flat_map error_of (error_where named NamedByLockPath s (text_at r x))

abbrev pub settled : Resolution → List Bool → Finding → List ModeError
settled r flags (Wrong e) = e ∷ []
settled r flags (Names x) = []
settled r flags (Takes s x) = taken_errors r (slice_index_or flags x false) s x
