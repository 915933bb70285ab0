-- The texts of places and of tokens of a typed program.
use Rattle.std.specs.Prelude.{ℕ, ◌+◌, List, [], ◌++◌, codes, decimal, slice_get, slice_index_or, slice_range, Option}
use Rattle.std.specs.Prelude.{Some, None}
use Rattle.sharc_tree.specs.{declared.token.Site.Site, declared.token.Token.Token, Texts.tokens_text}
use Rattle.sharc_ctype.specs.Resolved.{Resolution}

-- the name of a file; none past the last one
abbrev pub file_text : Resolution → ℕ → List ℕ
file_text r file = slice_index_or r.program.tokens.files file []

-- F:N, file and line
abbrev pub place_text : Resolution → ℕ → ℕ → List ℕ
place_text r file line = file_text r file ++ codes ":" ++ decimal line

abbrev pub site_text : Resolution → Site → List ℕ
site_text r s = place_text r s.file s.line

-- that of a token; nothing past the last one

abbrev pub place_of : Resolution → Option Token → List ℕ
place_of r None = []
place_of r (Some t) = place_text r t.file t.line

abbrev pub token_place : Resolution → ℕ → List ℕ
token_place r token = place_of r (slice_get r.program.tokens.list token)

-- the tokens from the one number to the other, both included, as they are printed
abbrev pub tokens_between : Resolution → ℕ → ℕ → List ℕ
tokens_between r from last = tokens_text (slice_range r.program.tokens.list from (last + 1))
