-- Punctuators: the longest that the bytes begin with.
use Rattle.std.specs.Prelude.{ℕ, List, [], ◌∷◌, ◌++◌, Option, Some, None, if◌then◌else◌, length, nat_eq, codes}
use Rattle.std.specs.List.{starts_with}
use Rattle.sharc_tree.specs.declared.token.TokenKind.{TokenKind}
use Rattle.sharc_tree.specs.declared.token.TokenKind.TheVariants as kind
use Rattle.sharc_tree.specs.declared.token.Punctuator.TheVariants as sign
use Rattle.sharc_lex.specs.declared.token_at.Lexeme.{Lexeme}

-- those of four bytes, the subset's and those of C11 that it leaves out
abbrev pub quadruples : List (List ℕ × TokenKind)
quadruples =
    (codes "%:%:", kind.LeftOut)
    ∷ []

-- those of three bytes, the subset's and those of C11 that it leaves out
abbrev pub triples : List (List ℕ × TokenKind)
triples =
    (codes "<<=", kind.LeftOut)
    ∷ (codes ">>=", kind.LeftOut)
    ∷ (codes "...", kind.LeftOut)
    ∷ []

-- those of two bytes, the subset's and those of C11 that it leaves out
abbrev pub pairs : List (List ℕ × TokenKind)
pairs =
    (codes "->", kind.Punctuator sign.Arrow)
    ∷ (codes "==", kind.Punctuator sign.Equal)
    ∷ (codes "!=", kind.Punctuator sign.NotEqual)
    ∷ (codes "<=", kind.Punctuator sign.LessOrEqual)
    ∷ (codes ">=", kind.Punctuator sign.GreaterOrEqual)
    ∷ (codes "<<", kind.Punctuator sign.ShiftLeft)
    ∷ (codes ">>", kind.Punctuator sign.ShiftRight)
    ∷ (codes "&&", kind.Punctuator sign.AndAnd)
    ∷ (codes "||", kind.Punctuator sign.OrOr)
    ∷ (codes "++", kind.LeftOut)
    ∷ (codes "--", kind.LeftOut)
    ∷ (codes "+=", kind.LeftOut)
    ∷ (codes "-=", kind.LeftOut)
    ∷ (codes "*=", kind.LeftOut)
    ∷ (codes "/=", kind.LeftOut)
    ∷ (codes "%=", kind.LeftOut)
    ∷ (codes "&=", kind.LeftOut)
    ∷ (codes "|=", kind.LeftOut)
    ∷ (codes "^=", kind.LeftOut)
    ∷ (codes "//", kind.LeftOut)
    ∷ (codes "/*", kind.LeftOut)
    ∷ (codes "<:", kind.LeftOut)
    ∷ (codes ":>", kind.LeftOut)
    ∷ (codes "<%", kind.LeftOut)
    ∷ (codes "%>", kind.LeftOut)
    ∷ (codes "%:", kind.LeftOut)
    ∷ []

-- those of one byte, the subset's and those of C11 that it leaves out
abbrev pub singles : List (List ℕ × TokenKind)
singles =
    (codes "(", kind.Punctuator sign.OpenParenthesis)
    ∷ (codes ")", kind.Punctuator sign.CloseParenthesis)
    ∷ (codes "{", kind.Punctuator sign.OpenBrace)
    ∷ (codes "}", kind.Punctuator sign.CloseBrace)
    ∷ (codes "[", kind.Punctuator sign.OpenBracket)
    ∷ (codes "]", kind.Punctuator sign.CloseBracket)
    ∷ (codes ";", kind.Punctuator sign.Semicolon)
    ∷ (codes ",", kind.Punctuator sign.Comma)
    ∷ (codes ".", kind.Punctuator sign.Dot)
    ∷ (codes "=", kind.Punctuator sign.Assign)
    ∷ (codes "<", kind.Punctuator sign.Less)
    ∷ (codes ">", kind.Punctuator sign.Greater)
    ∷ (codes "+", kind.Punctuator sign.Plus)
    ∷ (codes "-", kind.Punctuator sign.Minus)
    ∷ (codes "*", kind.Punctuator sign.Star)
    ∷ (codes "/", kind.Punctuator sign.Slash)
    ∷ (codes "%", kind.Punctuator sign.Percent)
    ∷ (codes "&", kind.Punctuator sign.Ampersand)
    ∷ (codes "|", kind.Punctuator sign.Bar)
    ∷ (codes "^", kind.Punctuator sign.Caret)
    ∷ (codes "!", kind.Punctuator sign.Exclamation)
    ∷ (codes "~", kind.Punctuator sign.Tilde)
    ∷ (codes "?", kind.LeftOut)
    ∷ (codes ":", kind.LeftOut)
    ∷ []

-- the first text of a table that the bytes begin with
abbrev pub first_begun : List (List ℕ × TokenKind) → List ℕ → Option Lexeme
first_begun [] bytes = None
first_begun (entry ∷ entries) bytes =
    if starts_with nat_eq bytes entry.0 then Some (record { len = length entry.0; kind = entry.1 })
    else first_begun entries bytes

-- all of them; the longer texts come first, so that the first that the bytes begin with is the longest
abbrev pub punctuators : List (List ℕ × TokenKind)
punctuators = quadruples ++ triples ++ pairs ++ singles

abbrev pub punctuator : List ℕ → Option Lexeme
punctuator bytes = first_begun punctuators bytes
