-- Rows with the names of their functions where they lie, beside those without.
use Rattle.std.proofs.Common.{List, [], ap, length, map, refl, suc, zero, ℕ, ◌∙◌, ◌∷◌, ◌≡◌}
use Rattle.std.specs.Prelude.{slice_index_or}
use Rattle.sharc_code.specs.{Machine.no_function, declared.code.Function.{Function as Row}, declared.code.Text.Text}
use Rattle.sharc_flat.specs.Laid.{AreNamed}

pub rows_many : (bytes : List ℕ) (xs : List Row) (ns : List (List ℕ)) (ys : List Row) → AreNamed bytes xs ns ys → length xs ≡ length ys
rows_many bytes [] [] [] h = refl
rows_many bytes (x ∷ xs) (n ∷ ns) (y ∷ ys) h = ap suc (rows_many bytes xs ns ys h.1)
rows_many bytes _ _ _ h = absurd h

-- what is no name is the same
pub rows_same : {A : Type 0} (of : Row → A) → ((row : Row) (name : Text) → of (record row { name = name }) ≡ of row) → (bytes : List ℕ) (xs : List Row) (ns : List (List ℕ)) (ys : List Row) → AreNamed bytes xs ns ys → (f : ℕ)
    → of (slice_index_or ys f no_function) ≡ of (slice_index_or xs f no_function)
rows_same of h bytes [] [] [] a f = refl
rows_same of h bytes (x ∷ xs) (n ∷ ns) (y ∷ ys) a zero = ap of a.0.is ∙ h x a.0.name_at
rows_same of h bytes (x ∷ xs) (n ∷ ns) (y ∷ ys) a (suc f) = rows_same of h bytes xs ns ys a.1 f
rows_same of h bytes _ _ _ a f = absurd a

-- and what a change of rows keeps
pub mapped_same : {A : Type 0} (of : Row → A) (g : Row → Row) → ((row : Row) → of (g row) ≡ of row) → (rows : List Row) (n : ℕ) → of (slice_index_or (map g rows) n no_function) ≡ of (slice_index_or rows n no_function)
mapped_same of g h [] n = refl
mapped_same of g h (row ∷ rows) zero = h row
mapped_same of g h (row ∷ rows) (suc n) = mapped_same of g h rows n
