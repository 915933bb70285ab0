-- The code and the rows of the functions, from one on.
use Rattle.sharc_flatten.proofs.Imports.{◌≡◌, ℕ, suc, ◌+◌, List, [], ◌∷◌, ◌++◌, length, drop, Some, refl, ap, sym, ◌∙◌, append_assoc, length-append, slice_get, Function, Row, GlobalCells, Assignment, Op, row_of, rows_of, function_code, functions_code, got as drop_got}

end_of : (m : Assignment) (globals : List GlobalCells) (lines new : List Op) (f : Function) → new ≡ lines ++ function_code m globals (length lines) f → length new ≡ length lines + length (function_code m globals (length lines) f)
end_of m globals lines new f made = ap length made ∙ length-append lines (function_code m globals (length lines) f)

pub code_more : (m : Assignment) (globals : List GlobalCells) (fs : List Function) (n : ℕ) (f : Function) (lines new whole : List Op) → slice_get fs n ≡ Some f → new ≡ lines ++ function_code m globals (length lines) f
    → lines ++ functions_code m globals (length lines) (drop n fs) ≡ whole → new ++ functions_code m globals (length new) (drop (n + 1) fs) ≡ whole
code_more m globals fs n f lines new whole at made before =
    let rest = drop (n + 1) fs in
    let code = function_code m globals (length lines) f in
    ap (λ l. l ++ functions_code m globals (length new) rest) made
    ∙ (append_assoc lines code (functions_code m globals (length new) rest)
    ∙ (ap (λ k. lines ++ (code ++ functions_code m globals k rest)) (end_of m globals lines new f made)
    ∙ (ap (λ l. lines ++ functions_code m globals (length lines) l) (sym (drop_got fs n f at)) ∙ before)))

pub rows_more : (m : Assignment) (globals : List GlobalCells) (fs : List Function) (n : ℕ) (f : Function) (lines new : List Op) (rows after whole : List Row) → slice_get fs n ≡ Some f → new ≡ lines ++ function_code m globals (length lines) f
    → after ≡ rows ++ row_of m globals (length lines) f ∷ [] → rows ++ rows_of m globals (length lines) (drop n fs) ≡ whole → after ++ rows_of m globals (length new) (drop (n + 1) fs) ≡ whole
rows_more m globals fs n f lines new rows after whole at made next before =
    let rest = drop (n + 1) fs in
    let row = row_of m globals (length lines) f in
    ap (λ l. l ++ rows_of m globals (length new) rest) next
    ∙ (append_assoc rows (row ∷ []) (rows_of m globals (length new) rest)
    ∙ (ap (λ k. rows ++ row ∷ rows_of m globals k rest) (end_of m globals lines new f made)
    ∙ (ap (λ l. rows ++ rows_of m globals (length lines) l) (sym (drop_got fs n f at)) ∙ before)))

pub rows_length : (m : Assignment) (globals : List GlobalCells) (pc : ℕ) (fs : List Function) → length (rows_of m globals pc fs) ≡ length fs
rows_length m globals pc [] = refl
rows_length m globals pc (f ∷ rest) = ap suc (rows_length m globals (pc + length (function_code m globals pc f)) rest)
