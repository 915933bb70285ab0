-- Where texts lie among the bytes of all texts.
use Rattle.std.specs.Prelude.{◌≡◌, ℕ, ◌+◌, List, [], ◌∷◌, ◌++◌, length, slice_range}
use Rattle.sharc_tree.specs.{declared.token.Token.Token, Texts.blank_between}
use Rattle.sharc_code.specs.declared.code.Text.{Text}

-- each of the tokens in the text of all of them, the first at this place
abbrev pub places_from : ℕ → List Token → List Text
places_from at [] = []
places_from at (t ∷ rest) = record { from = at; until = at + length t.text }
    ∷ places_from (at + length (t.text ++ blank_between t rest)) rest

-- a text lies there among the bytes, whatever comes after these
abbrev pub LiesIn : List ℕ → Text → List ℕ → Type 0
LiesIn bytes text what = (more : List ℕ) → slice_range (bytes ++ more) text.from text.until ≡ what

-- more bytes come to the end
abbrev pub Grows : List ℕ → List ℕ → Type 0
Grows old new = (more : List ℕ) × (old ++ more ≡ new)
