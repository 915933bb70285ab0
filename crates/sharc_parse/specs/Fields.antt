-- What the function promises that reads the fields of a struct.
use Rattle.std.specs.Prelude.{◌≡◌, ℕ, ◌+◌, List, [], ◌∷◌, map, Result, IfOk}
use Rattle.sharc_tree.specs.{declared.token.Token.Token, declared.tree.declaration.Declaration.Declaration}
use Rattle.sharc_parse.specs.Grammar.{Word, Declaring, Part, structure}
use Rattle.sharc_parse.specs.Machine.{field_of, naming, TypeWant, Top, a_semicolon, At, with_part}
use Rattle.sharc_parse.specs.{Limits.reads_within, Places.{site_in, fields_size, declarations_at}}
use Rattle.sharc_parse.specs.{declared.token.ReadingFault.ReadingFault, View.bare_declaration, Goes.Goes}

abbrev pub declared : List Declaration → List Declaring
declared list = map bare_declaration list

-- the fields, and the `}`
abbrev pub ReadsFields : {A : Type 0} → (A → List Declaration) → Result A ReadingFault → List Word → List Word → Type 0
ReadsFields list result old new = (all : List Part) (s : List ℕ)
    → Goes (λ v. declared (list v)) result (reads_within old (At [] (TypeWant (naming (field_of all s [])))))
    (λ f. reads_within new (At (a_semicolon ∷ []) (Top (with_part all (structure s f))))) new

abbrev pub AreFieldsPlaced : {A : Type 0} → (A → List Declaration) → Result A ReadingFault → List Token → ℕ → ℕ → Type 0
AreFieldsPlaced list result tokens old new =
    IfOk result (λ v. (list v ≡ declarations_at (site_in tokens) old (declared (list v)))
    × (new ≡ old + fields_size (declared (list v)) + 1))
