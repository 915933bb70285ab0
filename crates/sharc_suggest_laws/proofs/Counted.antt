-- How many givings meet a test, as they are listed.
use Rattle.sharc_suggest_laws.proofs.Imports.{◌≡◌, ℕ, ◌+◌, Bool, List, [], ◌∷◌, ◌++◌, arith, Expression, Giving, met_by}

abbrev pub counted : (Expression → Bool) → List Giving → ℕ
counted test [] = 0
counted test (g ∷ rest) = met_by test g.given + counted test rest

pub counted_append : (test : Expression → Bool) (xs ys : List Giving) → counted test (xs ++ ys) ≡ counted test xs + counted test ys
counted_append test [] ys = let same : counted test ys ≡ 0 + counted test ys = omega arith in same
counted_append test (g ∷ xs) ys =
    let more : counted test (xs ++ ys) ≡ counted test xs + counted test ys = counted_append test xs ys in
    let same : met_by test g.given + counted test (xs ++ ys) ≡ met_by test g.given + counted test xs + counted test ys = omega (arith, more) in
    same

pub both : (test : Expression → Bool) (xs ys : List Giving) (n k : ℕ) → n ≡ counted test xs → k ≡ counted test ys → n + k ≡ counted test (xs ++ ys)
both test xs ys n k left right =
    let sum : counted test (xs ++ ys) ≡ counted test xs + counted test ys = counted_append test xs ys in
    omega (arith, sum, left, right)
