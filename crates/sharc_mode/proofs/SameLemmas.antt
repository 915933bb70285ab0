-- Types compared level by level.
use Rattle.sharc_mode.proofs.Imports.{◌≡◌, ◌≢◌, ◌+◌, ◌<◌, ◌≤◌, Bool, true, false, ◌&&◌, List, [], ◌∷◌, length, Option, refl, ◌∙◌, arith, Mode, Resolution, same_levels}

same_length : (r : Resolution) (a b : List (Option Mode)) → same_levels r a b ≡ true → length a ≡ length b
same_length r [] [] h = refl
same_length r (m ∷ a) (n ∷ b) h = grind (arith, same_length r a b)
same_length r [] (n ∷ b) h = grind arith
same_length r (m ∷ a) [] h = grind arith

bool_cases : (b : Bool) → (b ≡ true → false ≡ true) → false ≡ b
bool_cases true h = h refl
bool_cases false h = refl

pub other_length : (r : Resolution) (a b : List (Option Mode)) → length a ≢ length b → false ≡ same_levels r a b
other_length r a b other = bool_cases (same_levels r a b) (λ e. absurd (other (same_length r a b e)))
