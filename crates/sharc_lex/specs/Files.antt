-- The files that a source names, in the order of their first appearance.
use Rattle.std.specs.{Prelude.{ℕ, List, [], ◌∷◌, ◌++◌, if◌then◌else◌}, List.{position_or_len, list_any}, Str.bytes_eq}

-- the files with one more, where it is not among them
abbrev pub with_file : List (List ℕ) → List ℕ → List (List ℕ)
with_file files name = if list_any (bytes_eq name) files then files else files ++ name ∷ []

-- the place of a file, which is after all others where it is new
abbrev pub place_of : List (List ℕ) → List ℕ → ℕ
place_of files name = position_or_len (bytes_eq name) files
