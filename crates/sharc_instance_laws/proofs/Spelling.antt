-- Tokens as sources have them.
use Rattle.sharc_instance_laws.proofs.Imports.{ℕ, pos, List, Keyword, Number, Int, Punctuator, Token, TokenKind}

abbrev pub token : TokenKind → List ℕ → ℕ → ℕ → ℕ → Token
token k text from until on = record { kind = k; text = text; from = from; until = until; file = 0; line = on }

abbrev pub keyword : Keyword → List ℕ → ℕ → ℕ → ℕ → Token
keyword k = token (TokenKind.Keyword k)

abbrev pub mark : Punctuator → List ℕ → ℕ → ℕ → ℕ → Token
mark p = token (TokenKind.Punctuator p)

abbrev pub name : List ℕ → ℕ → ℕ → ℕ → Token
name = token TokenKind.Identifier

abbrev pub int : ℕ → Number
int n = record { value = pos n; number_type = Int }

abbrev pub number : ℕ → List ℕ → ℕ → ℕ → ℕ → Token
number n = token (TokenKind.Number (int n))
