-- What the functions that read the first words of statements promise.
use Rattle.std.specs.Prelude.{◌≡◌, ℕ, ◌+◌, ◌≤◌, ◌<◌, List, [], ◌∷◌, Option, Some, None, Result, Ok, Err, IfOk}
use Rattle.sharc_tree.specs.{View.view_expr, declared.token.Token.Token, declared.tree.expression.Expr.Expr}
use Rattle.sharc_tree.specs.declared.token.Keyword.TheVariants as key
use Rattle.sharc_tree.specs.declared.tree.statement.Jump.TheVariants as jumps
use Rattle.sharc_parse.specs.Grammar.{Word, keyword, jump}
use Rattle.sharc_parse.specs.Machine.{Outer, inside, Asked, by_if, by_while, condition, part, Want, Start, Done}
use Rattle.sharc_parse.specs.Machine.{Returning, ForOpen, an_open, a_semicolon, State, At, asked}
use Rattle.sharc_parse.specs.{Limits.{reads_within, around_it}, Places.{site_in, size, expression_at}}
use Rattle.sharc_parse.specs.{declared.token.ReadingFault.ReadingFault, declared.token.ReadingFault.TheVariants.Deep}
use Rattle.sharc_parse.specs.declared.word.StatementWord.{StatementWord}
use Rattle.sharc_parse.specs.declared.word.StatementWord.TheVariants.{If, While, For, Return, Break, Continue}
use Rattle.sharc_parse.specs.{View.phrase_of, Goes.{from, Past, IsAt, Goes}}

abbrev pub statement_word : StatementWord → Word
statement_word If = keyword key.If
statement_word While = keyword key.While
statement_word For = keyword key.For
statement_word Return = keyword key.Return
statement_word Break = keyword key.Break
statement_word Continue = keyword key.Continue

-- how many statements it begins at least, one inside the other
abbrev pub room_of : StatementWord → ℕ
room_of If = 2
room_of While = 2
room_of For = 2
room_of _ = 1

abbrev pub NoStatement : List Word → Type 0
NoStatement [] = Unit {0}
NoStatement (t ∷ rest) = (w : StatementWord) → t ≡ statement_word w → ⊥

-- goes past the word where there is room for what it begins
abbrev pub EntersStatement : Result (Option StatementWord) ReadingFault → ℕ → List Token → ℕ → ℕ → Type 0
EntersStatement (Ok (Some w)) room tokens old new = Past (statement_word w) tokens old new × (room_of w ≤ room)
EntersStatement (Ok None) room tokens old new = (new ≡ old) × NoStatement (from tokens new)
EntersStatement (Err Deep) room tokens old new =
    (new ≡ old) × ((w : StatementWord) × IsAt (statement_word w) (from tokens new) × (room < room_of w))
EntersStatement (Err _) room tokens old new = ⊥

abbrev pub after_word : StatementWord → Outer → State
after_word If o = At (an_open ∷ []) (Want (part (condition by_if) o))
after_word While o = At (an_open ∷ []) (Want (part (condition by_while) o))
after_word For o = At (an_open ∷ []) (ForOpen o)
after_word Return o = At [] (Returning o)
after_word Break o = At (a_semicolon ∷ []) (Done (jump jumps.Break) o)
after_word Continue o = At (a_semicolon ∷ []) (Done (jump jumps.Continue) o)

-- the condition of an `if` or a `while` with its parentheses
abbrev pub ReadsCondition : Result Expr ReadingFault → List Word → List Word → Type 0
ReadsCondition result old new = (q : Asked) (o : Outer) → around_it o < 63
    → Goes phrase_of result (reads_within old (At (an_open ∷ []) (Want (part (condition q) o))))
    (λ e. reads_within new (At [] (Start (inside (asked q e) o)))) new

abbrev pub IsConditionPlaced : Result Expr ReadingFault → List Token → ℕ → ℕ → Type 0
IsConditionPlaced result tokens old new = IfOk result
    (λ e. (view_expr e ≡ expression_at (site_in tokens) (old + 1) (phrase_of e)) × (new ≡ old + size (phrase_of e) + 2))
