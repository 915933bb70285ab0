-- How many mismatches at a token are reported of what is given.
use Rattle.sharc_suggest_laws.proofs.{Imports.{◌≡◌, ℕ, ◌+◌, List, [], ◌∷◌, ◌++◌, arith, Finding, Assignment, agree_notes, Giving, wanted}, Quiet.{ones, ones_append}}

-- how many mismatches at a token are reported of a giving, and of these givings
abbrev pub told_of : ℕ → Assignment → Giving → ℕ
told_of t m g = ones t (agree_notes m (wanted m g.receiver) g.given)

abbrev pub told_in : ℕ → Assignment → List Giving → ℕ
told_in t m [] = 0
told_in t m (g ∷ rest) = told_of t m g + told_in t m rest

pub told_append : (t : ℕ) (m : Assignment) (xs ys : List Giving) → told_in t m (xs ++ ys) ≡ told_in t m xs + told_in t m ys
told_append t m [] ys = let same : told_in t m ys ≡ 0 + told_in t m ys = omega arith in same
told_append t m (g ∷ xs) ys =
    let more : told_in t m (xs ++ ys) ≡ told_in t m xs + told_in t m ys = told_append t m xs ys in
    let same : told_of t m g + told_in t m (xs ++ ys) ≡ told_of t m g + told_in t m xs + told_in t m ys = omega (arith, more) in
    same

pub both : (t : ℕ) (m : Assignment) (a b : List Finding) (xs ys : List Giving) → ones t a ≡ told_in t m xs → ones t b ≡ told_in t m ys → ones t (a ++ b) ≡ told_in t m (xs ++ ys)
both t m a b xs ys left right =
    let sum : ones t (a ++ b) ≡ ones t a + ones t b = ones_append t a b in
    let parts : told_in t m (xs ++ ys) ≡ told_in t m xs + told_in t m ys = told_append t m xs ys in
    omega (arith, sum, parts, left, right)

-- notes without a mismatch that come after, and before
pub quiet_behind : (t : ℕ) (a b : List Finding) (n : ℕ) → ones t a ≡ n → ones t b ≡ 0 → ones t (a ++ b) ≡ n
quiet_behind t a b n left right =
    let sum : ones t (a ++ b) ≡ ones t a + ones t b = ones_append t a b in
    omega (arith, sum, left, right)

pub quiet_before : (t : ℕ) (a b : List Finding) (n : ℕ) → ones t a ≡ 0 → ones t b ≡ n → ones t (a ++ b) ≡ n
quiet_before t a b n left right =
    let sum : ones t (a ++ b) ≡ ones t a + ones t b = ones_append t a b in
    omega (arith, sum, left, right)
