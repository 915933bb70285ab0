-- What the functions promise that read what follows the name of a global.
use Rattle.std.specs.Prelude.{◌≡◌, ℕ, ◌+◌, List, [], ◌∷◌, Option, Some, None, Result, IfOk}
use Rattle.sharc_tree.specs.{declared.token.Token.Token, declared.token.Number.Number}
use Rattle.sharc_tree.specs.declared.token.Punctuator.TheVariants.{OpenParenthesis}
use Rattle.sharc_tree.specs.{declared.tree.expression.Constant.Constant, declared.tree.item.GlobalForm.GlobalForm}
use Rattle.sharc_tree.specs.declared.tree.item.GlobalForm.TheVariants.{Plain, Array, Initial}
use Rattle.sharc_tree.specs.declared.tree.expression.Constant.TheVariants as constants
use Rattle.sharc_parse.specs.Grammar.{Word, mark, number, character, constant_word, Typing, Declaring, Form, single}
use Rattle.sharc_parse.specs.Grammar.{array, initially, Part, global}
use Rattle.sharc_parse.specs.Machine.{on_top, Named, ArrayWant, InitialWant, Top, a_semicolon, At, declaring_of}
use Rattle.sharc_parse.specs.Machine.{with_part}
use Rattle.sharc_parse.specs.{Limits.reads_within, Places.{site_in, form_size, form_at}}
use Rattle.sharc_parse.specs.{declared.token.ReadingFault.ReadingFault, Goes.{from, Past, NotAt, Goes}}

abbrev pub NoNumber : List Word → Type 0
NoNumber (number n ∷ rest) = ⊥
NoNumber _ = Unit {0}

abbrev pub TakesNumber : Option Number → List Token → ℕ → ℕ → Type 0
TakesNumber (Some n) tokens old new = Past (number n) tokens old new
TakesNumber None tokens old new = (new ≡ old) × NoNumber (from tokens new)

-- a `-` may come before it
abbrev pub IsSigned : Constant → Type 0
IsSigned constants.Null = ⊥
IsSigned _ = Unit {0}

abbrev pub NoSigned : List Word → Type 0
NoSigned (number n ∷ rest) = ⊥
NoSigned (character c ∷ rest) = ⊥
NoSigned _ = Unit {0}

abbrev pub TakesSigned : Option Constant → List Token → ℕ → ℕ → Type 0
TakesSigned (Some c) tokens old new = Past (constant_word c) tokens old new × IsSigned c
TakesSigned None tokens old new = (new ≡ old) × NoSigned (from tokens new)

abbrev pub form_of : GlobalForm → Form
form_of Plain = single
form_of (Array s n) = array n
form_of (Initial s negative c) = initially negative c

abbrev pub with_form : List Part → Declaring → Form → List Part
with_form all d f = with_part all (global d f)

-- `number ]` after a `[`
abbrev pub ReadsArray : Result GlobalForm ReadingFault → List Word → List Word → Type 0
ReadsArray result old new = (all : List Part) (d : Declaring)
    → Goes form_of result (reads_within old (At [] (ArrayWant all d)))
    (λ f. reads_within new (At (a_semicolon ∷ []) (Top (with_form all d f)))) new

-- a constant after a `=`
abbrev pub ReadsConstant : Result GlobalForm ReadingFault → List Word → List Word → Type 0
ReadsConstant result old new = (all : List Part) (d : Declaring)
    → Goes form_of result (reads_within old (At [] (InitialWant all d)))
    (λ f. reads_within new (At (a_semicolon ∷ []) (Top (with_form all d f)))) new

-- the first token of the form has the number before the old place
abbrev pub IsBehindPlaced : Result GlobalForm ReadingFault → List Token → ℕ → ℕ → Type 0
IsBehindPlaced result tokens old new = IfOk result (λ f. (n : ℕ) → n + 1 ≡ old
    → (f ≡ form_at (site_in tokens) n (form_of f)) × (new ≡ n + form_size (form_of f)))

-- a function begins with a `(` there
abbrev pub ReadsForm : Result GlobalForm ReadingFault → List Word → List Word → Type 0
ReadsForm result old new = (all : List Part) (t : Typing) (n : List ℕ) → NotAt (mark OpenParenthesis) old
    → Goes form_of result (reads_within old (At [] (Named (on_top all) t n)))
    (λ f. reads_within new (At [] (Top (with_form all (declaring_of t n) f)))) new

abbrev pub IsFormPlaced : Result GlobalForm ReadingFault → List Token → ℕ → ℕ → Type 0
IsFormPlaced result tokens old new =
    IfOk result (λ f. (f ≡ form_at (site_in tokens) old (form_of f)) × (new ≡ old + form_size (form_of f) + 1))
