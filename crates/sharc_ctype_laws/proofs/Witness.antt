-- `int main(void) { return 0; }` is a typed program at its tokens in the forms of the grammar: so the laws speak of something.
use Rattle.sharc_ctype_laws.proofs.Imports.{ℕ, ◌≤◌, List, [], ◌∷◌, refl, arith, Some, None, codes, pos, false, Base, Site, Span, Token, OpenParenthesis, CloseParenthesis, OpenBrace, CloseBrace, Semicolon, TokenKind, IsLow, IsSite, IsSpan, IsWhole, IsPlaced, Function, Program, function, statement, no_statements, return, constant, Keyword, NumberType, Constant, named_in, Resolution, IsResolved, SomeTyped}

abbrev a_token : TokenKind → List ℕ → ℕ → ℕ → Token
a_token k text from until = record { kind = k; text = text; from = from; until = until; file = 0; line = 1 }

abbrev words : List Token
words =
    a_token (TokenKind.Keyword Keyword.Int) (codes "int") 0 3
    ∷ (a_token TokenKind.Identifier (codes "main") 4 8
    ∷ (a_token (TokenKind.Punctuator OpenParenthesis) (codes "(") 8 9
    ∷ (a_token (TokenKind.Keyword Keyword.Void) (codes "void") 9 13
    ∷ (a_token (TokenKind.Punctuator CloseParenthesis) (codes ")") 13 14
    ∷ (a_token (TokenKind.Punctuator OpenBrace) (codes "{") 15 16
    ∷ (a_token (TokenKind.Keyword Keyword.Return) (codes "return") 17 23
    ∷ (a_token (TokenKind.Number (record { value = pos 0; number_type = NumberType.Int })) (codes "0") 24 25
    ∷ (a_token (TokenKind.Punctuator Semicolon) (codes ";") 25 26
    ∷ (a_token (TokenKind.Punctuator CloseBrace) (codes "}") 27 28 ∷ [])))))))))

abbrev place : ℕ → Site
place n = record { file = 0; line = 1; token = n }

abbrev span : ℕ → ℕ → Span
span m n = record { first = place m; last = place n }

abbrev main : Function
main = record {
  span = span 0 9;
  result = record { span = span 0 0; mode_first = false; base = place 0; ctype = record { base = Base.Int; levels = None ∷ [] } };
  name = record { site = place 1; text = codes "main" };
  parameters = [];
  body = span 5 9;
  statements = statement (return (span 6 8) (Some (constant (span 7 7) (Constant.Number (record { value = pos 0; number_type = NumberType.Int }))))) no_statements;
}

abbrev program : Program
program = record { files = codes "main.c" ∷ []; items = function main ∷ []; tokens = record { list = words; files = codes "main.c" ∷ []; end = record { file = 0; line = 1; token = 10 } } }

abbrev resolution : Resolution
resolution = record { program = program; named = named_in program }

resolved : IsResolved resolution
resolved = record { typed = refl; named = refl }

low : IsLow program
low = (((omega arith, omega arith), tt, ((omega arith, tt), tt), omega arith), tt)

-- its places

from_to : (m n : ℕ) → IsSite words (place m) → IsSite words (place n) → m ≤ n → IsSpan words (span m n)
from_to m n a b h = record { first = a; last = b; order = h }

site_0 : IsSite words (place 0)
site_0 = record { below = omega arith; there = λ t. refl }

site_1 : IsSite words (place 1)
site_1 = record { below = omega arith; there = λ t. refl }

site_5 : IsSite words (place 5)
site_5 = record { below = omega arith; there = λ t. refl }

site_6 : IsSite words (place 6)
site_6 = record { below = omega arith; there = λ t. refl }

site_7 : IsSite words (place 7)
site_7 = record { below = omega arith; there = λ t. refl }

site_8 : IsSite words (place 8)
site_8 = record { below = omega arith; there = λ t. refl }

site_9 : IsSite words (place 9)
site_9 = record { below = omega arith; there = λ t. refl }

all_of_it : IsSpan words (span 0 9)
all_of_it = from_to 0 9 site_0 site_9 (omega arith)

the_type : IsSpan words (span 0 0)
the_type = from_to 0 0 site_0 site_0 (omega arith)

the_name : IsSpan words (span 1 1)
the_name = from_to 1 1 site_1 site_1 (omega arith)

the_body : IsSpan words (span 5 9)
the_body = from_to 5 9 site_5 site_9 (omega arith)

the_return : IsSpan words (span 6 8)
the_return = from_to 6 8 site_6 site_8 (omega arith)

the_value : IsSpan words (span 7 7)
the_value = from_to 7 7 site_7 site_7 (omega arith)

whole_function : IsWhole words (span 0 9) (span 0 0 ∷ (span 1 1 ∷ (span 5 9 ∷ [])))
whole_function = (all_of_it, (the_type, omega arith, omega arith, (the_name, omega arith, omega arith, (the_body, omega arith, omega arith, tt))))

whole_type : IsWhole words (span 0 0) (span 0 0 ∷ [])
whole_type = (the_type, (the_type, omega arith, omega arith, tt))

whole_body : IsWhole words (span 5 9) (span 6 8 ∷ [])
whole_body = (the_body, (the_return, omega arith, omega arith, tt))

whole_return : IsWhole words (span 6 8) (span 7 7 ∷ [])
whole_return = (the_return, (the_value, omega arith, omega arith, tt))

placed : IsPlaced program
placed = record {
  follow = (all_of_it, omega arith, omega arith, tt);
  items = ((whole_function, (whole_type, tt), (omega arith, λ d. (refl, refl)), tt, whole_body, ((whole_return, (the_value, tt)), tt)), tt);
  marked = refl;
  files = refl;
}

pub some_typed : SomeTyped
some_typed = (resolution, resolved, placed, low)
