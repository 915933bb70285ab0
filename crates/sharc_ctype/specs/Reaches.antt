-- Which functions threads may run, and which globals they may touch.
use Rattle.std.specs.Prelude.{◌≡◌, ℕ, List, [], ◌∷◌, ◌++◌, IsSomeAnd, Contains}
use Rattle.sharc_tree.specs.{Marks.{Mark, a_name, a_cast, item_marks}, Measures.in_function}
use Rattle.sharc_tree.specs.Tree.{Expression, call, spawn, Function, function}
use Rattle.sharc_names.specs.declared.fault.Named.{Named}
use Rattle.sharc_names.specs.declared.fault.Named.TheVariants as named
use Rattle.sharc_ctype.specs.Resolved.{Resolution, named_at, function_at}

-- the name tokens that an expression itself calls or spawns, and those that it spawns
abbrev pub runs : Expression → List ℕ
runs (call s f all) = f.site.token ∷ []
runs (spawn s f a) = f.site.token ∷ []
runs _ = []

abbrev pub spawns : Expression → List ℕ
spawns (spawn s f a) = f.site.token ∷ []
spawns _ = []

abbrev pub of_all : (Expression → List ℕ) → List Expression → List ℕ
of_all f [] = []
of_all f (e ∷ rest) = f e ++ of_all f rest

-- among such tokens is one that names this
abbrev pub Names : Resolution → Named → List ℕ → Type 0
Names r what tokens = (token : ℕ) × Contains tokens token × (named_at r token ≡ what)

-- the function with number n spawns, or calls or spawns, the one with number m
abbrev pub Spawns : Resolution → ℕ → ℕ → Type 0
Spawns r n m = IsSomeAnd (function_at r n) (λ f. Names r (named.Function m) (of_all spawns (in_function f)))

abbrev pub Runs : Resolution → ℕ → ℕ → Type 0
Runs r n m = IsSomeAnd (function_at r n) (λ f. Names r (named.Function m) (of_all runs (in_function f)))

-- a list of functions in which each calls or spawns the next
abbrev pub Leads : Resolution → ℕ → List ℕ → ℕ → Type 0
Leads r n [] m = n ≡ m
Leads r n (k ∷ rest) m = Runs r n k × Leads r k rest m

-- it is reached where such a list leads to it from one that is spawned anywhere
pub record IsReached (r : Resolution) (m : ℕ) : Type 0 where
  pub spawner : ℕ
  pub first : ℕ
  pub spawned : Spawns r spawner first
  pub between : List ℕ
  pub leads : Leads r first between m

-- the tokens of the names in a function, those in its types' lock paths among them
abbrev pub name_tokens : List Mark → List ℕ
name_tokens [] = []
name_tokens (a_name n text ∷ rest) = n ∷ name_tokens rest
name_tokens (a_cast n ∷ rest) = name_tokens rest

abbrev pub tokens_of : Function → List ℕ
tokens_of f = name_tokens (item_marks (function f))

-- the function with number n names the global with number g
abbrev pub NamesGlobal : Resolution → ℕ → ℕ → Type 0
NamesGlobal r n g = IsSomeAnd (function_at r n) (λ f. Names r (named.Global g) (tokens_of f))

-- a global is touched where a reached function names it
pub record IsTouched (r : Resolution) (g : ℕ) : Type 0 where
  pub by : ℕ
  pub reached : IsReached r by
  pub names : NamesGlobal r by g
