-- What the functions that read the right side of `=` promise.
use Rattle.std.specs.Prelude.{◌≡◌, ℕ, ◌+◌, ◌<◌, List, [], ◌∷◌, Option, Some, None, Result, IfOk}
use Rattle.sharc_tree.specs.Tree as tree
use Rattle.sharc_tree.specs.{View.{view_expr, view_option, view_right}, declared.token.Token.Token}
use Rattle.sharc_tree.specs.{declared.tree.expression.Expr.Expr, declared.tree.statement.Right.Right}
use Rattle.sharc_tree.specs.declared.tree.declaration.WrittenType.{WrittenType}
use Rattle.sharc_parse.specs.Grammar.{Word, Phrase, Value, value, malloc}
use Rattle.sharc_parse.specs.Machine.{Outer, ValuePlace, part, valued, Want, Have, Malloced, Valued, TypeWant, sizing}
use Rattle.sharc_parse.specs.Machine.{an_open, State, At, grip, value_end}
use Rattle.sharc_parse.specs.Limits.{Limited, StuckAt, next_within, reads_within}
use Rattle.sharc_parse.specs.Places.{site_in, count_size, option_at, value_size, value_at, type_size, type_at}
use Rattle.sharc_parse.specs.{declared.token.ReadingFault.ReadingFault, View.{bare, bare_type}, Goes.Goes}

abbrev pub bare_option : Option tree.Expression → Option Phrase
bare_option None = None
bare_option (Some e) = Some (bare e)

abbrev pub bare_value : tree.Right → Value
bare_value (tree.value e) = value (bare e)
bare_value (tree.malloc s n t) = malloc (bare_option n) (bare_type t)

abbrev pub option_of : Option Expr → Option Phrase
option_of e = bare_option (view_option view_expr e)

abbrev pub value_of : Right → Value
value_of r = bare_value (view_right r)

-- the count of a `malloc`, if there is one, and `sizeof`
abbrev pub ReadsCount : Result (Option Expr) ReadingFault → List Word → List Word → Type 0
ReadsCount result old new = (v : ValuePlace) (o : Outer) → Goes option_of result
    (reads_within old (At [] (Malloced v o))) (λ n. reads_within new (At (an_open ∷ []) (TypeWant (sizing v n o)))) new

abbrev pub IsCountPlaced : Result (Option Expr) ReadingFault → List Token → ℕ → ℕ → Type 0
IsCountPlaced result tokens old new =
    IfOk result (λ n. (view_option view_expr n ≡ option_at (site_in tokens) old (option_of n))
    × (new ≡ old + count_size (option_of n) + 1))

-- what follows the word `sizeof`
abbrev pub ReadsSized : Result WrittenType ReadingFault → List Word → List Word → Type 0
ReadsSized result old new = (v : ValuePlace) (o : Outer) (n : Option Phrase)
    → Goes bare_type result (reads_within old (At (an_open ∷ []) (TypeWant (sizing v n o))))
    (λ t. reads_within new (At [] (Valued v (malloc n t) o))) new

abbrev pub IsSizedPlaced : Result WrittenType ReadingFault → List Token → ℕ → ℕ → Type 0
IsSizedPlaced result tokens old new = IfOk result (λ t. (t ≡ type_at (site_in tokens) (old + 1) (bare_type t))
    × (new ≡ old + type_size (bare_type t) + 3))

-- the value was read, and may go on
abbrev pub valued_state : ValuePlace → Outer → Value → State
valued_state v o (value e) = At [] (Have e (part (valued v) o))
valued_state v o (malloc n t) = At [] (Valued v (malloc n t) o)

abbrev pub ReadsRight : Result Right ReadingFault → List Word → List Word → Type 0
ReadsRight result old new = (v : ValuePlace) (o : Outer) → Goes value_of result
    (reads_within old (At [] (Want (part (valued v) o)))) (λ r. reads_within new (valued_state v o r)) new

-- it goes on no further
abbrev pub EndsValue : Value → List Word → Type 0
EndsValue (value e) all = grip all < 1
EndsValue (malloc n t) all = Unit {0}

abbrev pub EndsRight : Result Right ReadingFault → List Word → Type 0
EndsRight result new = IfOk result (λ r. EndsValue (value_of r) new)

abbrev pub IsRightPlaced : Result Right ReadingFault → List Token → ℕ → ℕ → Type 0
IsRightPlaced result tokens old new = IfOk result (λ r. (view_right r ≡ value_at (site_in tokens) old (value_of r))
    × (new ≡ old + value_size (value_of r)))

-- the words read where a value ends
abbrev pub value_within : ValuePlace → Value → Outer → List Word → Limited
value_within v r o [] = StuckAt []
value_within v r o (t ∷ y) = next_within (value_end v r o t) (λ n. reads_within y n) (t ∷ y)
