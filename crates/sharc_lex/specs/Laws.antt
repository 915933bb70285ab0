-- What holds of the tokens of a source: they are in order, each the slice of its span and the longest token there, with
-- white space and line markers alone between them, and each is in the file and the line that line markers and newlines
-- give it.
use Rattle.std.specs.Prelude.{◌≡◌, ℕ, ◌+◌, ◌-◌, ◌<◌, ◌≤◌, ◌⊎◌, Bool, true, List, [], ◌∷◌, length, take, slice_index}
use Rattle.std.specs.Prelude.{slice_index_or, slice_range, All, Contains, Some, Result, Ok}
use Rattle.sharc_tree.specs.{declared.token.FaultAt.FaultAt, declared.token.Token.Token, declared.token.Tokens.Tokens}
use Rattle.sharc_tree.specs.declared.token.TokenKind.{TokenKind}
use Rattle.sharc_lex.specs.{declared.fault.TokenFault.TokenFault, declared.fault.LexFault.LexFault}
use Rattle.sharc_lex.specs.{declared.token_at.Lexeme.Lexeme, Bytes.{is_white_space, is_letter, is_digit}}
use Rattle.sharc_lex.specs.{Characters.character, Lines.{line_at, BeginsLine, StandsIn}, Markers.is_marker_line}
use Rattle.sharc_lex.specs.{Punctuators.punctuators, TokenAt.{LiesIn, word_at, number_at}}
use Rattle.sharc_lex.specs.declared.fault.LexFault.TheVariants as lex

-- a text that is a word, a number or a character constant as a whole, and what it is
abbrev pub IsRun : (ℕ → Bool) → (List ℕ → Result Lexeme TokenFault) → List ℕ → TokenKind → Type 0
IsRun begins read [] kind = ⊥
IsRun begins read (b ∷ bytes) kind =
    (begins b ≡ true) × (read (b ∷ bytes) ≡ Ok (record { len = length (b ∷ bytes); kind = kind }))

abbrev pub IsConstant : List ℕ → TokenKind → Type 0
IsConstant [] kind = ⊥
IsConstant (b ∷ bytes) kind = (b ≡ 39) × (character bytes ≡ Some (record { len = length (b ∷ bytes); kind = kind }))

-- The texts that are tokens: keywords, left-out words and names; numbers; character constants; and the punctuators of
-- the tables.
abbrev pub IsToken : List ℕ → TokenKind → Type 0
IsToken text kind = IsRun is_letter word_at text kind
    ⊎ (IsRun is_digit number_at text kind ⊎ (IsConstant text kind ⊎ Contains punctuators (text, kind)))

-- a token at the front of the bytes, with no longer one there
pub record IsLongest (bytes : List ℕ) (found : Lexeme) : Type 0 where
  pub lies : LiesIn bytes found
  pub token : IsToken (take found.len bytes) found.kind
  pub longest : (n : ℕ) (kind : TokenKind) → found.len < n → n ≤ length bytes → IsToken (take n bytes) kind → ⊥

-- the byte at an offset belongs to a line marker
pub record IsInMarker (source : List ℕ) (k : ℕ) : Type 0 where
  pub start : ℕ
  pub begins : BeginsLine source start
  pub marks : is_marker_line (line_at source start) ≡ true
  pub from : start ≤ k
  pub until : k < start + length (line_at source start)

-- there are only white space and line markers from one offset up to another
pub record IsBetween (source : List ℕ) (low high : ℕ) : Type 0 where
  pub ordered : low ≤ high
  pub each : (k : ℕ) → low ≤ k → k < high → (is_white_space (slice_index source k) ≡ true) ⊎ IsInMarker source k

-- the token's text is the slice at its span, and it is the longest token that begins there on its line
pub record IsSlice (source : List ℕ) (t : Token) : Type 0 where
  pub some : t.from < t.until
  pub text : t.text ≡ slice_range source t.from t.until
  pub longest : IsLongest (line_at source t.from) (record { len = t.until - t.from; kind = t.kind })

-- from one offset up to another there are these tokens, with white space and line markers alone between them
abbrev pub Covers : List ℕ → ℕ → ℕ → List Token → Type 0
Covers source low high [] = IsBetween source low high
Covers source low high (t ∷ ts) = IsBetween source low t.from × IsSlice source t × Covers source t.until high ts

-- the name of the file at a place of the list of files
abbrev pub name_in : List (List ℕ) → ℕ → List ℕ
name_in files place = slice_index_or files place []

-- what holds of the tokens of a source
pub record AreTokensOf (source : List ℕ) (tokens : Tokens) : Type 0 where
  pub covers : Covers source 0 (length source) tokens.list
  pub count : length tokens.list ≤ length source
  pub files : All (λ t. t.file < length tokens.files) tokens.list
  pub placed : All (λ t. StandsIn source t.from (name_in tokens.files t.file) t.line) tokens.list
  pub end_file : tokens.end.file < length tokens.files
  pub end_token : tokens.end.token ≡ length tokens.list
  pub end_placed : StandsIn source (length source) (name_in tokens.files tokens.end.file) tokens.end.line

-- a fault lies in the source, and in the file and the line in which its offset lies
pub record IsFaultIn (source : List ℕ) (found : FaultAt TokenFault) : Type 0 where
  pub within : found.offset ≤ length source
  pub stands : StandsIn source found.offset found.file found.line

-- where memory ran out no place is given
abbrev pub TellsPlace : List ℕ → LexFault → Type 0
TellsPlace source (lex.At found) = IsFaultIn source found
TellsPlace source lex.Memory = Unit {0}
