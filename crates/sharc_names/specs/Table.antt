-- What the table of names stands for.
use Rattle.std.specs.{Prelude.{◌≡◌, ℕ, List, [], ◌∷◌, map, reverse, Option, Some, None}, Borrow.Bor, Map.lookup}
use Rattle.std.specs.Str.{bytes_eq}
use Rattle.sharc_names.specs.{declared.meaning.Binding.Binding, declared.names.Shadow.Shadow, Names.{Entry, look_up}}
use Rattle.sharc_names.specs.View.{view_bound, view_bounds}

abbrev pub entries : List Shadow → List Entry
entries list = map (λ s. view_bound s.bound) list

-- the log has the oldest first
abbrev pub in_scope : List Shadow → List Entry
in_scope log = entries (reverse log)

abbrev pub newest_of : Option (Option Binding) → Option Entry
newest_of None = None
newest_of (Some b) = view_bounds b

-- what the table has for a name
abbrev pub table_at : List (Bor (List ℕ) × Option Binding) → List ℕ → Option Entry
table_at table name = newest_of (lookup (λ k. bytes_eq name k.now) table)

-- each name of a log, newest first, hides what its text meant before
abbrev pub HidesOlder : List Shadow → Type 0
HidesOlder [] = Unit {0}
HidesOlder (s ∷ older) = (view_bounds s.hidden ≡ look_up (entries older) s.bound.name.now) × HidesOlder older

pub record IsKept (log : List Shadow) (table : List (Bor (List ℕ) × Option Binding)) : Type 0 where
  pub newest : (name : List ℕ) → table_at table name ≡ look_up (in_scope log) name
  pub hides : HidesOlder (reverse log)
