-- What is laid out beside the code of a program: its globals with what their cells hold at first, and the layouts of
-- elements.
use Rattle.std.specs.Prelude.{ℕ, ◌+◌, ◌*◌, ◌/◌, List, [], ◌∷◌, ◌++◌, length, take, replicate, if◌then◌else◌}
use Rattle.sharc_tree.specs.declared.tree.declaration.Declaration.{Declaration}
use Rattle.sharc_tree.specs.declared.tree.item.GlobalDefinition.{GlobalDefinition}
use Rattle.sharc_tree.specs.declared.tree.item.StructDefinition.{StructDefinition}
use Rattle.sharc_names.specs.Kinds.{is_pointer, declared_kind}
use Rattle.sharc_code.specs.{declared.code.GlobalCells.GlobalCells, declared.code.Layout.Layout, Arithmetic.word_of}
use Rattle.sharc_ctype.specs.{Globals.elements_of, Resolved.{Resolution, globals_in, structs_in}}
use Rattle.sharc_meaning.specs.{Cells.element_cells, Store.form_value}

-- ---- globals
abbrev pub cells_in : Resolution → GlobalDefinition → ℕ
cells_in r g = elements_of g.form * element_cells r (declared_kind g.declaration.written)

-- a global has whole granules of two cells
abbrev pub granules_in : Resolution → GlobalDefinition → ℕ
granules_in r g = (cells_in r g + 1) / 2

-- one after the other, from this granule on
abbrev pub globals_from : Resolution → ℕ → List GlobalDefinition → List GlobalCells
globals_from r at [] = []
globals_from r at (g ∷ rest) =
    record { granule = at; cells = cells_in r g } ∷ globals_from r (at + granules_in r g) rest

-- granule 0 is not used
abbrev pub globals_of : Resolution → List GlobalCells
globals_of r = globals_from r 1 (globals_in r.program.items)

abbrev pub all_granules : Resolution → List GlobalDefinition → ℕ
all_granules r [] = 0
all_granules r (g ∷ rest) = granules_in r g + all_granules r rest

-- the first cell has the initial value; all others, and that after an odd number of cells, 0 or NULL
abbrev pub first_words : Resolution → GlobalDefinition → List ℕ
first_words r g = take (2 * granules_in r g) (word_of (form_value g.form) ∷ replicate (2 * granules_in r g) 0)

abbrev pub all_first_words : Resolution → List GlobalDefinition → List ℕ
all_first_words r [] = []
all_first_words r (g ∷ rest) = first_words r g ++ all_first_words r rest

-- ---- layouts
-- the numbers of the pointers among fields, of which the first has this number
abbrev pub pointers_among : ℕ → List Declaration → List ℕ
pointers_among n [] = []
pointers_among n (d ∷ rest) =
    if is_pointer (declared_kind d.written) then n ∷ pointers_among (n + 1) rest else pointers_among (n + 1) rest

-- those of structs whose pointers are in the list of all of them from this place on, and of `struct cond` after them
abbrev pub layouts_from : ℕ → List StructDefinition → List Layout
layouts_from at [] = record { cells = 1; from = at; until = at } ∷ []
layouts_from at (s ∷ rest) =
    record { cells = length s.fields; from = at; until = at + length (pointers_among 0 s.fields) }
    ∷ layouts_from (at + length (pointers_among 0 s.fields)) rest

-- an integer or a mutex, a pointer, the structs
abbrev pub layouts_of : Resolution → List Layout
layouts_of r = record { cells = 1; from = 0; until = 0 } ∷ record { cells = 1; from = 0; until = 1 }
    ∷ layouts_from 1 (structs_in r.program.items)

abbrev pub all_pointers : List StructDefinition → List ℕ
all_pointers [] = []
all_pointers (s ∷ rest) = pointers_among 0 s.fields ++ all_pointers rest

abbrev pub pointers_of : Resolution → List ℕ
pointers_of r = 0 ∷ all_pointers (structs_in r.program.items)
