-- What the functions that read the parameters of a function promise.
use Rattle.std.specs.Prelude.{◌≡◌, ℕ, ◌+◌, Bool, true, false, List, [], ◌∷◌, Option, Some, None, Result, IfOk}
use Rattle.sharc_tree.specs.{declared.token.Token.Token, declared.token.Punctuator.TheVariants.CloseParenthesis}
use Rattle.sharc_tree.specs.declared.tree.declaration.Declaration.{Declaration}
use Rattle.sharc_parse.specs.Grammar.{Word, mark, Typing, Declaring, Part, no_more}
use Rattle.sharc_parse.specs.Machine.{body, parameter_of, naming, TypeWant, Named, Start, a_brace, State, At}
use Rattle.sharc_parse.specs.Limits.{reads_within}
use Rattle.sharc_parse.specs.Places.{site_in, declaring_size, declaration_at, parameters_size, declarations_at}
use Rattle.sharc_parse.specs.{declared.token.ReadingFault.ReadingFault, View.bare_declaration}
use Rattle.sharc_parse.specs.{Goes.{from, Past, NotAt, Goes}, Locals.void_type, Fields.declared}

abbrev pub ClosesVoid : Bool → Typing → List Token → ℕ → ℕ → Type 0
ClosesVoid true t tokens old new = (t ≡ void_type) × Past (mark CloseParenthesis) tokens old new
ClosesVoid false t tokens old new = (new ≡ old) × (t ≡ void_type → NotAt (mark CloseParenthesis) (from tokens new))

-- what was read of the parameters: the first, or that there is none, with the `)`
abbrev pub after_first : List Part → Typing → List ℕ → Option Declaring → State
after_first all r f None = At (a_brace ∷ []) (Start (body all r f [] no_more))
after_first all r f (Some d) = At [] (Named (parameter_of all r f []) d.typing d.named)

abbrev pub first_of : Option Declaration → Option Declaring
first_of None = None
first_of (Some d) = Some (bare_declaration d)

abbrev pub ReadsFirst : Result (Option Declaration) ReadingFault → List Word → List Word → Type 0
ReadsFirst result old new = (all : List Part) (r : Typing) (f : List ℕ)
    → Goes first_of result (reads_within old (At [] (TypeWant (naming (parameter_of all r f [])))))
    (λ d. reads_within new (after_first all r f d)) new

abbrev pub StandsFirst : Option Declaration → List Token → ℕ → ℕ → Type 0
StandsFirst None tokens old new = new ≡ old + 2
StandsFirst (Some d) tokens old new =
    (d ≡ declaration_at (site_in tokens) old (bare_declaration d)) × (new ≡ old + declaring_size (bare_declaration d))

abbrev pub IsFirstPlaced : Result (Option Declaration) ReadingFault → List Token → ℕ → ℕ → Type 0
IsFirstPlaced result tokens old new = IfOk result (λ d. StandsFirst d tokens old new)

-- the parameters, and the `)`
abbrev pub ReadsParameters : {A : Type 0} → (A → List Declaration) → Result A ReadingFault → List Word → List Word
    → Type 0
ReadsParameters list result old new = (all : List Part) (r : Typing) (f : List ℕ)
    → Goes (λ v. declared (list v)) result (reads_within old (At [] (TypeWant (naming (parameter_of all r f [])))))
    (λ given. reads_within new (At (a_brace ∷ []) (Start (body all r f given no_more)))) new

abbrev pub AreParametersPlaced : {A : Type 0} → (A → List Declaration) → Result A ReadingFault → List Token → ℕ → ℕ
    → Type 0
AreParametersPlaced list result tokens old new =
    IfOk result (λ v. (list v ≡ declarations_at (site_in tokens) old (declared (list v)))
    × (new ≡ old + parameters_size (declared (list v)) + 1))
