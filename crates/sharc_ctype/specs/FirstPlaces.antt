-- Where the first declaration of each token is in a list, and a table that has these places.
use Rattle.std.specs.{Prelude.{◌≡◌, ℕ, ◌==◌, List, Option, Some, None, if◌then◌else◌}, List.position_from, Map.lookup}
use Rattle.std.specs.Option.{option_or}
use Rattle.sharc_tree.specs.declared.tree.declaration.Declaration.{Declaration}

-- the place of the first declaration whose name is that token
abbrev pub place_of : List Declaration → ℕ → Option ℕ
place_of list token = position_from (λ d. d.name.site.token == token) 0 list

abbrev pub PlaceRows : Type 0
PlaceRows = List (ℕ × ℕ)

abbrev pub place_at : PlaceRows → ℕ → Option ℕ
place_at rows token = lookup (λ k. token == k) rows

-- rows that have that place too, unless its token has one
abbrev pub HasPlace : ℕ → ℕ → PlaceRows → PlaceRows → Type 0
HasPlace token place old new = (q : ℕ)
    → place_at new q ≡ option_or (place_at old q) (if token == q then Some place else None)

-- the rows have the place of the first declaration of each token
abbrev pub HasFirstPlaces : List Declaration → PlaceRows → Type 0
HasFirstPlaces list rows = (token : ℕ) → place_at rows token ≡ place_of list token
