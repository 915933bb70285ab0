-- What the functions that read statements promise.
use Rattle.std.specs.Prelude.{◌≡◌, ℕ, ◌+◌, ◌<◌, Bool, true, List, [], ◌∷◌, Result, Ok, Err, IfOk}
use Rattle.sharc_tree.specs.Tree as tree
use Rattle.sharc_tree.specs.{View.{view_stmt, view_statements}, declared.token.Token.Token, declared.token.Span.Span}
use Rattle.sharc_tree.specs.{declared.tree.statement.Jump.Jump, declared.tree.statement.Stmt.Stmt}
use Rattle.sharc_tree.specs.declared.token.Keyword.TheVariants as key
use Rattle.sharc_parse.specs.Grammar.{Word, keyword, Sentence, line, jump, return, block, under, Sentences, no_more}
use Rattle.sharc_parse.specs.Grammar.{sentence, if_of, else_of, while_of, for_of, nothing, does, declares, takes_else}
use Rattle.sharc_parse.specs.Machine.{Outer, as_statement, Start, Done, Returning, a_semicolon, At, holds_items}
use Rattle.sharc_parse.specs.{Limits.{reads_within, around_it}, Places.{site_in, sentence_size, statement_at}}
use Rattle.sharc_parse.specs.{declared.token.ReadingFault.ReadingFault, declared.token.ReadingFault.TheVariants.Memory}
use Rattle.sharc_parse.specs.{View.bare, Goes.{NotAt, Goes}, Rights.bare_option, Simples.bare_doing, Locals.bare_local}
use Rattle.sharc_parse.specs.{Heads.bare_head, Lines.line_within}

abbrev mutual
  pub bare_statement : tree.Statement → Sentence
  bare_statement (tree.empty s) = line nothing
  bare_statement (tree.block s all) = block (bare_statements all)
  bare_statement (tree.declare s l) = line (declares (bare_local l))
  bare_statement (tree.simple s x) = line (does (bare_doing x))
  bare_statement (tree.jump s j) = jump j
  bare_statement (tree.return s e) = return (bare_option e)
  bare_statement (tree.if_then s e a) = under (if_of (bare e)) (bare_statement a)
  bare_statement (tree.if_then_else s e a b) = under (else_of (bare e) (bare_statement a)) (bare_statement b)
  bare_statement (tree.while s e a) = under (while_of (bare e)) (bare_statement a)
  bare_statement (tree.for s h a) = under (for_of (bare_head h)) (bare_statement a)

  pub bare_statements : tree.Statements → Sentences
  bare_statements tree.no_statements = no_more
  bare_statements (tree.statement a rest) = sentence (bare_statement a) (bare_statements rest)

abbrev pub sentence_of : Stmt → Sentence
sentence_of s = bare_statement (view_stmt s)

abbrev pub sentences_of : List Stmt → Sentences
sentences_of list = bare_statements (view_statements list)

-- a statement, where there is room for that many, one inside the other
abbrev pub ReadsStatement : Bool → ℕ → Result Stmt ReadingFault → List Word → List Word → Type 0
ReadsStatement may room result old new = (o : Outer) → holds_items o ≡ may → around_it o + room ≡ 64
    → Goes sentence_of result (reads_within old (At [] (Start o))) (λ s. reads_within new (At [] (Done s o))) new

-- an `else` after it was taken
abbrev pub EndsSentence : Sentence → List Word → Type 0
EndsSentence s all = takes_else s ≡ true → NotAt (keyword key.Else) all

abbrev pub EndsStatement : Result Stmt ReadingFault → List Word → Type 0
EndsStatement result new = IfOk result (λ s. EndsSentence (sentence_of s) new)

abbrev pub IsStatementPlaced : Result Stmt ReadingFault → List Token → ℕ → ℕ → Type 0
IsStatementPlaced result tokens old new =
    IfOk result (λ s. (view_stmt s ≡ statement_at (site_in tokens) old (sentence_of s))
    × (new ≡ old + sentence_size (sentence_of s)))

-- a line, as a statement
abbrev pub ReadsLineStatement : Bool → ℕ → Result Stmt ReadingFault → List Word → List Word → Type 0
ReadsLineStatement may room result old new = (o : Outer) → holds_items o ≡ may → around_it o + room ≡ 64
    → Goes sentence_of result (line_within as_statement o old) (λ s. reads_within new (At [] (Done s o))) new

-- what follows the word `return`
abbrev pub ReadsReturn : Result Stmt ReadingFault → List Word → List Word → Type 0
ReadsReturn result old new = (o : Outer)
    → Goes sentence_of result (reads_within old (At [] (Returning o))) (λ s. reads_within new (At [] (Done s o))) new

-- what follows the word `break` or `continue`
abbrev pub ReadsJump : Jump → Result Stmt ReadingFault → List Word → List Word → Type 0
ReadsJump j result old new = (o : Outer) → around_it o < 64 → Goes sentence_of result
    (reads_within old (At (a_semicolon ∷ []) (Done (jump j) o))) (λ s. reads_within new (At [] (Done s o))) new

-- its first word has the number before the old place
abbrev pub IsRestPlaced : Result Stmt ReadingFault → List Token → ℕ → ℕ → Type 0
IsRestPlaced result tokens old new = IfOk result (λ s. (n : ℕ) → n + 1 ≡ old
    → (view_stmt s ≡ statement_at (site_in tokens) n (sentence_of s)) × (new ≡ n + sentence_size (sentence_of s)))

abbrev pub line_statement : Span → tree.First → tree.Statement
line_statement s tree.nothing = tree.empty s
line_statement s (tree.declares l) = tree.declare s l
line_statement s (tree.does x) = tree.simple s x

abbrev pub BuildsStatement : Result Stmt ReadingFault → tree.Statement → Type 0
BuildsStatement (Ok s) x = view_stmt s ≡ x
BuildsStatement (Err Memory) x = Unit {0}
BuildsStatement (Err _) x = ⊥
