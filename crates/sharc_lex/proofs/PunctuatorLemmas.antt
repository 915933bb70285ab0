-- The first of a table that is given in parts.
use Rattle.sharc_lex.proofs.Imports.{◌≡◌, ℕ, Bool, true, false, cond, List, [], ◌∷◌, ◌++◌, eqb as nat_eq, Option, Some, None, refl, starts_with, TokenKind, Lexeme, first_begun}

abbrev Table : Type 0
Table = List (List ℕ × TokenKind)

none_passed : {A : Type 0} (b : Bool) (found : A) (front all rest : Option A) → (front ≡ None → all ≡ rest) → cond b (Some found) front ≡ None → cond b (Some found) all ≡ rest
none_passed true found front all rest go none = cc
none_passed false found front all rest go none = go none

some_passed : {A : Type 0} (b : Bool) (first found : A) (front all : Option A) → (front ≡ Some found → all ≡ Some found) → cond b (Some first) front ≡ Some found → cond b (Some first) all ≡ Some found
some_passed true first found front all go some = some
some_passed false first found front all go some = go some

-- where the first part has nothing, the rest decides
pub first_begun-none : (front rest : Table) (bytes : List ℕ) → first_begun front bytes ≡ None → first_begun (front ++ rest) bytes ≡ first_begun rest bytes
first_begun-none [] rest bytes none = refl
first_begun-none (e ∷ es) rest bytes none = none_passed (starts_with nat_eq bytes e.0) _ _ _ _ (first_begun-none es rest bytes) none

-- what the first part has is found
pub first_begun-some : (front rest : Table) (bytes : List ℕ) (found : Lexeme) → first_begun front bytes ≡ Some found → first_begun (front ++ rest) bytes ≡ Some found
first_begun-some [] rest bytes found some = cc
first_begun-some (e ∷ es) rest bytes found some = some_passed (starts_with nat_eq bytes e.0) _ _ _ _ (first_begun-some es rest bytes found) some
