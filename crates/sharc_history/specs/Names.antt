-- That a table has the last lock or wait of each cell.
use Rattle.std.specs.{Prelude.{ℕ, ◌≡◌, ◌&&◌, Bool, nat_eq, List, Option, Some, if◌then◌else◌}, HashMap.get}
use Rattle.sharc_history.specs.{declared.cells.Origin.Origin, declared.cells.Where.Where, declared.event.Event.Event}
use Rattle.sharc_history.specs.declared.cells.Where.TheVariants as places
use Rattle.sharc_history.specs.{declared.places.names.LastOrigins.LastOrigins, Places.{is_same, last_named}}

abbrev pub same_pair : ℕ × ℕ → ℕ × ℕ → Bool
same_pair x y = nat_eq x.0 y.0 && nat_eq x.1 y.1

-- what the table has for a cell
abbrev pub found : LastOrigins → Where → Option Origin
found names (places.Global number cell) = get same_pair names.globals (number, cell)
found names (places.Made number cell) = get same_pair names.made (number, cell)

-- it is what the events have, the newest first
abbrev pub AreNames : LastOrigins → List Event → Type 0
AreNames names earlier = (cell : Where) → found names cell ≡ last_named earlier cell

-- this cell has this from now on, and the others what they had
abbrev pub IsNoted : Where → Origin → LastOrigins → LastOrigins → Type 0
IsNoted at origin old new = (cell : Where) → found new cell ≡ (if is_same at cell then Some origin else found old cell)
