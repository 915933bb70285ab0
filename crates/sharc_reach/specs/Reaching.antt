-- What is answered: which functions are reached, which are spawned, and which reached function first names each global.
use Rattle.std.specs.Prelude.{◌≡◌, ◌↔◌, ℕ, ◌<◌, ◌≤◌, Bool, true, false, List, length, Option, None, Some}
use Rattle.std.specs.Prelude.{slice_index_or}
use Rattle.sharc_ctype.specs.Resolved.{Resolution, functions_in, globals_in}
use Rattle.sharc_ctype.specs.Reaches.{Spawns, IsReached, NamesGlobal, IsTouched}

-- the functions and the globals by number
pub record Reaching : Type 0 where
  pub functions : List Bool
  pub spawned : List Bool
  pub firsts : List (Option ℕ)

abbrev pub is_chosen : List Bool → ℕ → Bool
is_chosen chosen n = slice_index_or chosen n false

abbrev pub first_of : Reaching → ℕ → Option ℕ
first_of a g = slice_index_or a.firsts g None

-- it is spawned anywhere
abbrev pub IsSpawned : Resolution → ℕ → Type 0
IsSpawned r n = (spawner : ℕ) × Spawns r spawner n

-- this is the first reached function in source order that names the global, or there is none
pub record IsFirst (r : Resolution) (g first : ℕ) : Type 0 where
  pub reached : IsReached r first
  pub names : NamesGlobal r first g
  pub least : (other : ℕ) → IsReached r other → NamesGlobal r other g → first ≤ other

abbrev pub IsFirstOf : Resolution → ℕ → Option ℕ → Type 0
IsFirstOf r g None = ¬ IsTouched r g
IsFirstOf r g (Some first) = IsFirst r g first

-- each function and each global of the program is reported correctly
pub record AreReached (r : Resolution) (a : Reaching) : Type 0 where
  pub function_count : length a.functions ≡ length (functions_in r.program.items)
  pub spawned_count : length a.spawned ≡ length (functions_in r.program.items)
  pub global_count : length a.firsts ≡ length (globals_in r.program.items)
  pub functions : (n : ℕ) → n < length a.functions → (is_chosen a.functions n ≡ true) ↔ IsReached r n
  pub spawned : (n : ℕ) → n < length a.spawned → (is_chosen a.spawned n ≡ true) ↔ IsSpawned r n
  pub globals : (g : ℕ) → g < length a.firsts → IsFirstOf r g (first_of a g)
