-- What the functions that read assignments and calls promise.
use Rattle.std.specs.Prelude.{◌≡◌, ℕ, ◌+◌, ◌≤◌, true, false, List, [], ◌∷◌, Result, Ok, Err, IfOk}
use Rattle.sharc_tree.specs.Tree as tree
use Rattle.sharc_tree.specs.{View.view_simple, declared.token.Token.Token, declared.token.Punctuator.TheVariants.Assign}
use Rattle.sharc_tree.specs.declared.tree.statement.Simple.{Simple}
use Rattle.sharc_parse.specs.Grammar.{Word, mark, Doing, assign, invoke, is_call}
use Rattle.sharc_parse.specs.Machine.{Outer, DoingPlace, of_doing, part, subject, Want, Have, State, At, grip}
use Rattle.sharc_parse.specs.Machine.{doing_end}
use Rattle.sharc_parse.specs.Limits.{Limited, StuckAt, next_within, reads_within, crowded_doing}
use Rattle.sharc_parse.specs.{Places.{site_in, doing_size, doing_at}, declared.token.ReadingFault.ReadingFault}
use Rattle.sharc_parse.specs.{declared.token.ReadingFault.TheVariants.Wrong, View.bare, Goes.{Goes, NotAt}}
use Rattle.sharc_parse.specs.Rights.{bare_value, valued_state, EndsValue}

abbrev pub bare_doing : tree.Simple → Doing
bare_doing (tree.assign s u r) = assign (bare u) (bare_value r)
bare_doing (tree.does_call e) = invoke (bare e)

abbrev pub doing_of : Simple → Doing
doing_of x = bare_doing (view_simple x)

-- it was read, and may go on
abbrev pub doing_state : DoingPlace → Outer → Doing → State
doing_state d o (assign u r) = valued_state (of_doing d u) o r
doing_state d o (invoke e) = At [] (Have e (part (subject d) o))

abbrev pub ReadsSimple : Result Simple ReadingFault → List Word → List Word → Type 0
ReadsSimple result old new = (d : DoingPlace) (o : Outer) → crowded_doing d o ≡ false → Goes doing_of result
    (reads_within old (At [] (Want (part (subject d) o)))) (λ x. reads_within new (doing_state d o x)) new

-- it goes on no further
abbrev pub EndsDoing : Doing → List Word → Type 0
EndsDoing (assign u r) all = EndsValue r all
EndsDoing (invoke e) all = (is_call e ≡ true) × (grip all ≤ 11) × NotAt (mark Assign) all

abbrev pub EndsSimple : Result Simple ReadingFault → List Word → Type 0
EndsSimple result new = IfOk result (λ x. EndsDoing (doing_of x) new)

-- a call is what was read, and nothing else is
abbrev pub IsCallOf : Result Simple ReadingFault → tree.Expression → Type 0
IsCallOf (Ok x) e = (view_simple x ≡ tree.does_call e) × (is_call (bare e) ≡ true)
IsCallOf (Err Wrong) e = is_call (bare e) ≡ false
IsCallOf (Err _) e = ⊥

abbrev pub IsSimplePlaced : Result Simple ReadingFault → List Token → ℕ → ℕ → Type 0
IsSimplePlaced result tokens old new = IfOk result (λ x. (view_simple x ≡ doing_at (site_in tokens) old (doing_of x))
    × (new ≡ old + doing_size (doing_of x)))

-- the words read where it ends
abbrev pub doing_within : DoingPlace → Doing → Outer → List Word → Limited
doing_within d x o [] = StuckAt []
doing_within d x o (t ∷ y) = next_within (doing_end d x o t) (λ n. reads_within y n) (t ∷ y)
