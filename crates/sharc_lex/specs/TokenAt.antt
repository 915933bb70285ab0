-- What token is where a byte begins it: the longest that is one.
use Rattle.std.specs.Prelude.{ℕ, ◌==◌, ◌<◌, ◌≤◌, length, List, ◌∷◌, take, Result, Ok, Err, ok_or, option_map}
use Rattle.std.specs.Prelude.{if◌then◌else◌}
use Rattle.std.specs.List.{prefix_len}
use Rattle.sharc_tree.specs.declared.token.TokenKind.{TokenKind}
use Rattle.sharc_tree.specs.declared.token.TokenKind.TheVariants as kind
use Rattle.sharc_lex.specs.{declared.fault.TokenFault.TokenFault, declared.token_at.Lexeme.Lexeme}
use Rattle.sharc_lex.specs.{Bytes.{is_letter, is_digit, is_word_byte}, Characters.character, Numbers.number}
use Rattle.sharc_lex.specs.{Punctuators.punctuator, Words.word}
use Rattle.sharc_lex.specs.declared.fault.TokenFault.TheVariants as fault

-- a token of this many bytes, where they are one
abbrev pub of_len : ℕ → Result TokenKind TokenFault → Result Lexeme TokenFault
of_len len (Ok kind) = Ok (record { len = len; kind = kind })
of_len len (Err fault) = Err fault

-- a word, and a number, takes all word bytes at the front
abbrev pub word_at : List ℕ → Result Lexeme TokenFault
word_at bytes = let len = prefix_len is_word_byte bytes in of_len len (word (take len bytes))

abbrev pub number_at : List ℕ → Result Lexeme TokenFault
number_at bytes = let len = prefix_len is_word_byte bytes in of_len len
    (ok_or (option_map kind.Number (number (take len bytes))) fault.Number)

-- A letter begins a word, and a digit a number. A quote begins a character constant. Every other byte begins a
-- punctuator, or no token.
abbrev pub token_at : ℕ → List ℕ → Result Lexeme TokenFault
token_at b bytes =
    if is_letter b then word_at (b ∷ bytes)
    else (if is_digit b then number_at (b ∷ bytes)
    else (if b == 39 then ok_or (character bytes) fault.Character
    else ok_or (punctuator (b ∷ bytes)) (fault.Byte b)))

-- a token has a byte at least, and lies within the bytes
pub record LiesIn (bytes : List ℕ) (found : Lexeme) : Type 0 where
  pub some : 0 < found.len
  pub within : found.len ≤ length bytes
