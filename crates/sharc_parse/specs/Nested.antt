-- What the functions that read statements with others inside promise.
use Rattle.std.specs.Prelude.{◌≡◌, ℕ, ◌+◌, Bool, true, false, List, [], Result, IfOk}
use Rattle.sharc_tree.specs.{View.view_statements, declared.token.Token.Token}
use Rattle.sharc_tree.specs.{declared.token.Punctuator.TheVariants.CloseBrace, declared.tree.statement.Stmt.Stmt}
use Rattle.sharc_parse.specs.Grammar.{Word, mark, block, Sentences, no_more}
use Rattle.sharc_parse.specs.Machine.{Outer, body, items, inside, Start, Done, Top, State, At, holds_items, with_part}
use Rattle.sharc_parse.specs.Machine.{function_of}
use Rattle.sharc_parse.specs.{Limits.{reads_within, around_it}, Places.{site_in, all_size, statements_at}}
use Rattle.sharc_parse.specs.{declared.token.ReadingFault.ReadingFault, declared.word.StatementWord.StatementWord}
use Rattle.sharc_parse.specs.{Goes.{NotAt, Goes}, Words.after_word, Statements.{sentence_of, sentences_of}}

-- among the statements of a block the `}` was looked for
abbrev pub IsOpen : Bool → List Word → Type 0
IsOpen true all = NotAt (mark CloseBrace) all
IsOpen false all = Unit {0}

-- what follows the first word of a statement, where there is room for that many, one inside the other
abbrev pub ReadsRest : StatementWord → ℕ → Result Stmt ReadingFault → List Word → List Word → Type 0
ReadsRest w room result old new = (o : Outer) → around_it o + room ≡ 64
    → Goes sentence_of result (reads_within old (after_word w o)) (λ s. reads_within new (At [] (Done s o))) new

-- these statements were read there
abbrev pub holding : Outer → Sentences → Outer
holding (body before r f given all) s = body before r f given s
holding (items all o) s = items s o
holding (inside w o) s = inside w o

-- the `}` after these statements
abbrev pub closed : Outer → Sentences → State
closed (body before r f given all) s = At [] (Top (with_part before (function_of r f given s)))
closed (items all o) s = At [] (Done (block s) o)
closed (inside w o) s = At [] (Start (inside w o))

-- the statements after a `{`, and the `}`, where there is room for that many inside
abbrev pub ReadsStatements : {A : Type 0} → (A → List Stmt) → ℕ → Result A ReadingFault → List Word → List Word → Type 0
ReadsStatements list room result old new = (o : Outer) → holds_items o ≡ true → around_it o + room ≡ 64
    → Goes (λ v. sentences_of (list v)) result (reads_within old (At [] (Start (holding o no_more))))
    (λ s. reads_within new (closed o s)) new

abbrev pub AreStatementsPlaced : {A : Type 0} → (A → List Stmt) → Result A ReadingFault → List Token → ℕ → ℕ → Type 0
AreStatementsPlaced list result tokens old new =
    IfOk result (λ v. (view_statements (list v) ≡ statements_at (site_in tokens) old (sentences_of (list v)))
    × (new ≡ old + all_size (sentences_of (list v)) + 1))
