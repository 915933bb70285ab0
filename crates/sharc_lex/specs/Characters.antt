-- Character constants: a quote, what it stands for, a quote.
use Rattle.std.specs.Prelude.{ℕ, ◌==◌, ◌&&◌, not, List, [], ◌∷◌, Option, Some, None, option_map, if◌then◌else◌}
use Rattle.sharc_tree.specs.declared.token.TokenKind.TheVariants as kind
use Rattle.sharc_lex.specs.{declared.token_at.Lexeme.Lexeme, Bytes.is_printable}

-- what an escape stands for: \n \t \r \0 \\ \' \"
abbrev pub escaped : ℕ → Option ℕ
escaped b =
    if b == 110 then Some 10
    else (if b == 116 then Some 9
    else (if b == 114 then Some 13
    else (if b == 48 then Some 0
    else (if b == 92 then Some 92
    else (if b == 39 then Some 39
    else (if b == 34 then Some 34
    else None))))))

-- after a backslash: what is escaped, and the quote
abbrev pub behind_backslash : List ℕ → Option ℕ
behind_backslash [] = None
behind_backslash (e ∷ []) = None
behind_backslash (e ∷ quote ∷ bytes) = if quote == 39 then escaped e else None

-- a printable byte other than a quote, and the quote
abbrev pub plain : List ℕ → Option ℕ
plain [] = None
plain (b ∷ []) = None
plain (b ∷ quote ∷ bytes) = if is_printable b && not (b == 39) && (quote == 39) then Some b else None

-- a character constant of this many bytes, that stands for a byte
abbrev pub constant : ℕ → ℕ → Lexeme
constant len b = record { len = len; kind = kind.Character b }

-- what follows the first quote: a backslash with what is escaped, or one byte
abbrev pub character : List ℕ → Option Lexeme
character [] = None
character (b ∷ bytes) =
    if b == 92 then option_map (constant 4) (behind_backslash bytes) else option_map (constant 3) (plain (b ∷ bytes))
