-- Texts that were added piece by piece.
use Rattle.sharc_run.proofs.Imports.{◌≡◌, ℕ, List, ◌++◌, ap, subst, ◌∙◌, append_assoc, Result, OnOk}

pub four : {T E : Type 0} (answer : Result T E) (old m1 m2 m3 new a b c d : List ℕ) → m1 ≡ old ++ a → m2 ≡ m1 ++ b → m3 ≡ m2 ++ c → OnOk answer (new ≡ m3 ++ d) → OnOk answer (new ≡ old ++ (((a ++ b) ++ c) ++ d))
four answer old m1 m2 m3 new a b c d p q r last =
    let first : m3 ≡ old ++ ((a ++ b) ++ c) = r ∙ ap (λ l. l ++ c) (q ∙ ap (λ l. l ++ b) p ∙ append_assoc old a b) ∙ append_assoc old (a ++ b) c in
    subst (λ l. OnOk answer (new ≡ l)) (ap (λ l. l ++ d) first ∙ append_assoc old ((a ++ b) ++ c) d) last

pub five : {T E : Type 0} (answer : Result T E) (old m1 m2 m3 m4 new a b c d e : List ℕ) → m1 ≡ old ++ a → m2 ≡ m1 ++ b → m3 ≡ m2 ++ c → m4 ≡ m3 ++ d → OnOk answer (new ≡ m4 ++ e)
    → OnOk answer (new ≡ old ++ ((((a ++ b) ++ c) ++ d) ++ e))
five answer old m1 m2 m3 m4 new a b c d e p q r s last =
    let joined : m2 ≡ old ++ (a ++ b) = q ∙ ap (λ l. l ++ b) p ∙ append_assoc old a b in
    four answer old m2 m3 m4 new (a ++ b) c d e joined r s last
