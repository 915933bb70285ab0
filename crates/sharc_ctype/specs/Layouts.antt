-- Which cells an element of a struct has, and which of them are pointers.
use Rattle.std.specs.{Prelude.{◌≡◌, ℕ, ◌+◌, ◌*◌, ◌<◌, ◌==◌, Bool, false, length, List, map, slice_index_or}, Int.bit_at}
use Rattle.sharc_tree.specs.declared.tree.declaration.Declaration.{Declaration}
use Rattle.sharc_names.specs.Kinds.{declared_kind, is_pointer}
use Rattle.sharc_ctype.specs.declared.layout.StructCells.{StructCells}

-- each field has one cell; the cell is a pointer where the field is
abbrev pub pointer_cells : List Declaration → List Bool
pointer_cells = map (λ d. is_pointer (declared_kind d.written))

-- the bits of a word say which of the cells from one on are pointers
abbrev pub IsWord : List Declaration → ℕ → ℕ → Type 0
IsWord fields from word = (b : ℕ) → b < 64
    → (bit_at word b == 1) ≡ slice_index_or (pointer_cells fields) (from + b) false

-- bit j mod 64 of word j / 64 is set exactly where cell j is a pointer
pub record IsLayout (fields : List Declaration) (c : StructCells) : Type 0 where
  pub cells : c.cells ≡ length fields
  pub pointers : (i : ℕ) → i < 4 → IsWord fields (64 * i) (slice_index_or c.pointers i 0)
