-- The text that is written.
use Rattle.std.specs.Prelude.{ℕ, List, [], ◌∷◌, ◌++◌}

-- a line of text
abbrev pub line : List ℕ → List ℕ
line text = text ++ 10 ∷ []
