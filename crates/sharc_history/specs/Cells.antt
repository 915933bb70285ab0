-- How cells and references are written.
use Rattle.std.specs.Prelude.{ℕ, ◌==◌, List, ◌∷◌, ◌++◌, codes, decimal, if◌then◌else◌}
use Rattle.sharc_history.specs.{declared.cells.Where.Where, declared.event.Reference.Reference}
use Rattle.sharc_history.specs.declared.cells.Where.TheVariants as places

abbrev pub cell_text : Where → List ℕ
cell_text (places.Global number cell) = codes "g" ++ (decimal number ++ 46 ∷ decimal cell)
cell_text (places.Made number cell) = codes "o" ++ (decimal number ++ 46 ∷ decimal cell)

abbrev pub reference_text : Reference → List ℕ
reference_text r = if r.number == 0 then codes "0" else decimal r.number ++ 58 ∷ decimal r.elements
