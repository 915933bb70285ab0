-- What flattening makes of a program.
use Rattle.std.specs.Prelude.{◌≡◌, ℕ, List, [], ◌∷◌, map, Some, codes}
use Rattle.sharc_tree.specs.Tree.{Function}
use Rattle.sharc_ctype.specs.Resolved.{function_at, functions_in, globals_in}
use Rattle.sharc_mode.specs.Moded.{Assignment}
use Rattle.sharc_flat.specs.{declared.flat.Flat.{Flat as FlatCode}, Laid.{AreTold, AreNamed}}
use Rattle.sharc_flat.specs.Flattened.{functions_code, rows_of}
use Rattle.sharc_flat.specs.Tables.{globals_of, all_granules, all_first_words, layouts_of, pointers_of}

abbrev pub names_of : List Function → List (List ℕ)
names_of = map (λ f. f.name.text)

-- the number of a function named `main`
abbrev pub IsMainOf : Assignment → ℕ → Type 0
IsMainOf m n = (f : Function) × (function_at m.typed n ≡ Some f) × (f.name.text ≡ codes "main")

-- its lines with where their texts lie, its functions with their names, and the tables beside them
pub record Flattens (m : Assignment) (code : FlatCode) : Type 0 where
  pub lines : code.lines.items ≡ functions_code m (globals_of m.typed) 0 (functions_in m.typed.program.items)
  pub told : AreTold m.typed code.texts.items code.lines.items code.told.items
  pub functions : AreNamed code.texts.items (rows_of m (globals_of m.typed) 0 (functions_in m.typed.program.items))
      (names_of (functions_in m.typed.program.items)) code.functions.items
  pub globals : code.globals.items ≡ globals_of m.typed
  pub main : IsMainOf m code.main
  pub granules : code.granules ≡ all_granules m.typed (globals_in m.typed.program.items)
  pub initial : code.initial.items ≡ all_first_words m.typed (globals_in m.typed.program.items)
  pub layouts : code.layouts.items ≡ layouts_of m.typed
  pub pointers : code.pointers.items ≡ pointers_of m.typed
  pub files : code.files ≡ m.typed.program.files
