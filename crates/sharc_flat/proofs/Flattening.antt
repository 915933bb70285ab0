-- There is flat code of every program, for every table of its globals.
use Rattle.sharc_flat.proofs.Imports.{ℕ, List, [], ◌∷◌, ◌+◌, length, refl, Function, Row, GlobalCells, functions_in, Assignment, Flat, ints_in, refs_in, int_count, ref_count, parameters_scope, function_code, functions_code, parameter_of, AreRows, IsFlattened, row_of, rows_of, flattened, max}

are_rows : (m : Assignment) (globals : List GlobalCells) (pc : ℕ) (fs : List Function) → AreRows m globals pc fs (rows_of m globals pc fs)
are_rows m globals pc [] = refl
are_rows m globals pc (f ∷ rest) = (record { entry = refl; parameter = refl; site = refl; ints = refl; refs = refl }, are_rows m globals (pc + length (function_code m globals pc f)) rest)

pub is_flattened : (m : Assignment) (globals : List GlobalCells) → IsFlattened m (flattened m globals)
is_flattened m globals = record { lines = refl; functions = are_rows m globals 0 (functions_in m.typed.program.items) }
