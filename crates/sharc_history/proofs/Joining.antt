-- Texts that were added piece by piece.
use Rattle.std.proofs.Common.{◌≡◌, ℕ, List, [], ◌∷◌, ◌++◌, ap, ◌∙◌, append_assoc}
use Rattle.sharc_history.specs.Places.{columns}

-- a piece, and then the others, where no call can fail any more
one : (old more new piece others : List ℕ) → more ≡ old ++ piece → new ≡ more ++ others → new ≡ old ++ (piece ++ others)
one old more new piece others p q = q ∙ ap (λ l. l ++ others) p ∙ append_assoc old piece others

-- a place and three columns
pub line : (old t1 t2 t3 t4 t5 t6 new place words object mode : List ℕ) → t1 ≡ old ++ place → t2 ≡ t1 ++ words → t3 ≡ t2 ++ 9 ∷ [] → t4 ≡ t3 ++ object → t5 ≡ t4 ++ 9 ∷ [] → t6 ≡ t5 ++ mode → new ≡ t6 ++ 10 ∷ []
    → new ≡ old ++ (place ++ columns words object mode)
line old t1 t2 t3 t4 t5 t6 new place words object mode e1 e2 e3 e4 e5 e6 e7 =
    let f5 : new ≡ t5 ++ (mode ++ 10 ∷ []) = one t5 t6 new mode (10 ∷ []) e6 e7 in
    let f4 : new ≡ t4 ++ (9 ∷ (mode ++ 10 ∷ [])) = one t4 t5 new (9 ∷ []) (mode ++ 10 ∷ []) e5 f5 in
    let f3 : new ≡ t3 ++ (object ++ 9 ∷ (mode ++ 10 ∷ [])) = one t3 t4 new object (9 ∷ (mode ++ 10 ∷ [])) e4 f4 in
    let f2 : new ≡ t2 ++ (9 ∷ (object ++ 9 ∷ (mode ++ 10 ∷ []))) = one t2 t3 new (9 ∷ []) (object ++ 9 ∷ (mode ++ 10 ∷ [])) e3 f3 in
    let f1 : new ≡ t1 ++ columns words object mode = one t1 t2 new words (9 ∷ (object ++ 9 ∷ (mode ++ 10 ∷ []))) e2 f2 in
    one old t1 new place (columns words object mode) e1 f1
