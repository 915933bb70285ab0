-- What the functions that read the head of a `for` promise.
use Rattle.std.specs.Prelude.{◌≡◌, ℕ, ◌+◌, ◌<◌, List, [], ◌∷◌, Option, Some, None, Result, IfOk}
use Rattle.sharc_tree.specs.Tree as tree
use Rattle.sharc_tree.specs.{View.{view_expr, view_option, view_simple, view_head}, declared.token.Token.Token}
use Rattle.sharc_tree.specs.{declared.tree.expression.Expr.Expr, declared.tree.statement.Simple.Simple}
use Rattle.sharc_tree.specs.declared.tree.statement.ForHead.{ForHead}
use Rattle.sharc_parse.specs.Grammar.{Word, Phrase, Doing, Line, Loop, return, for_of}
use Rattle.sharc_parse.specs.Machine.{Outer, inside, ExpressionPlace, returning, testing, Start, Done, Returning}
use Rattle.sharc_parse.specs.Machine.{ForOpen, ForTest, ForStep, an_open, State, At, loop}
use Rattle.sharc_parse.specs.Limits.{reads_within, around_it}
use Rattle.sharc_parse.specs.Places.{site_in, option_size, option_at, step_size, step_at, opening_size, head_at}
use Rattle.sharc_parse.specs.{declared.token.ReadingFault.ReadingFault, Goes.Goes, Rights.{bare_option, option_of}}
use Rattle.sharc_parse.specs.{Simples.bare_doing, Lines.bare_line}

-- where an expression that may be left out comes before a `;`
pub data Tail : Type 0 where
  by_return : Tail
  by_test : Line → Tail

abbrev pub tail_place : Tail → ExpressionPlace
tail_place by_return = returning
tail_place (by_test l) = testing l

abbrev pub before_tail : Tail → Outer → State
before_tail by_return o = At [] (Returning o)
before_tail (by_test l) o = At [] (ForTest l o)

abbrev pub behind_tail : Tail → Outer → Option Phrase → State
behind_tail by_return o e = At [] (Done (return e) o)
behind_tail (by_test l) o e = At [] (ForStep l e o)

abbrev pub ReadsTail : Result (Option Expr) ReadingFault → List Word → List Word → Type 0
ReadsTail result old new = (q : Tail) (o : Outer)
    → Goes option_of result (reads_within old (before_tail q o)) (λ e. reads_within new (behind_tail q o e)) new

abbrev pub IsTailPlaced : Result (Option Expr) ReadingFault → List Token → ℕ → ℕ → Type 0
IsTailPlaced result tokens old new =
    IfOk result (λ e. (view_option view_expr e ≡ option_at (site_in tokens) old (option_of e))
    × (new ≡ old + option_size (option_of e) + 1))

abbrev pub bare_step : Option tree.Simple → Option Doing
bare_step None = None
bare_step (Some x) = Some (bare_doing x)

abbrev pub step_of : Option Simple → Option Doing
step_of x = bare_step (view_option view_simple x)

abbrev pub ReadsStep : Result (Option Simple) ReadingFault → List Word → List Word → Type 0
ReadsStep result old new = (l : Line) (e : Option Phrase) (o : Outer) → around_it o < 63 → Goes step_of result
    (reads_within old (At [] (ForStep l e o))) (λ x. reads_within new (At [] (Start (inside (loop l e x) o)))) new

abbrev pub IsStepPlaced : Result (Option Simple) ReadingFault → List Token → ℕ → ℕ → Type 0
IsStepPlaced result tokens old new =
    IfOk result (λ x. (view_option view_simple x ≡ step_at (site_in tokens) old (step_of x))
    × (new ≡ old + step_size (step_of x) + 1))

abbrev pub bare_head : tree.Head → Loop
bare_head h = record { first = bare_line h.first; test = bare_option h.test; step = bare_step h.step }

abbrev pub head_of : ForHead → Loop
head_of h = bare_head (view_head h)

abbrev pub ReadsHead : Result ForHead ReadingFault → List Word → List Word → Type 0
ReadsHead result old new = (o : Outer) → around_it o < 63 → Goes head_of result
    (reads_within old (At (an_open ∷ []) (ForOpen o))) (λ h. reads_within new (At [] (Start (inside (for_of h) o)))) new

-- the word `for` has the number before the old place
abbrev pub IsHeadPlaced : Result ForHead ReadingFault → List Token → ℕ → ℕ → Type 0
IsHeadPlaced result tokens old new = IfOk result (λ h. (n : ℕ) → n + 1 ≡ old
    → (view_head h ≡ head_at (site_in tokens) n (head_of h)) × (new ≡ n + opening_size (for_of (head_of h))))
