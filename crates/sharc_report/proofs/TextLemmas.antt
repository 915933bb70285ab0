-- Texts that were added piece by piece.
use Rattle.sharc_report.proofs.Imports.{◌≡◌, ℕ, ◌+◌, ◌<◌, List, ◌∷◌, ◌++◌, length, drop, get_or, ap, sym, subst, ◌∙◌, append_assoc, Option, Result, OnOk, drop_more, flat_map, Resolution, Cast, ModeError, beside, check_text, refusal}

pub three : {T E : Type 0} (answer : Result T E) (old m1 m2 new a b c : List ℕ) → m1 ≡ old ++ a → m2 ≡ m1 ++ b → OnOk answer (new ≡ m2 ++ c) → OnOk answer (new ≡ old ++ (a ++ (b ++ c)))
three answer old m1 m2 new a b c p q last =
    let e : m2 ++ c ≡ old ++ (a ++ (b ++ c)) = ap (λ l. l ++ c) (q ∙ ap (λ l. l ++ b) p) ∙ append_assoc (old ++ a) b c ∙ append_assoc old a (b ++ c) in
    subst (λ l. OnOk answer (new ≡ l)) e last

pub six : {T E : Type 0} (answer : Result T E) (old m1 m2 m3 new a b c d e f : List ℕ) → m1 ≡ old ++ a → m2 ≡ m1 ++ b → m3 ≡ m2 ++ c → OnOk answer (new ≡ m3 ++ ((d ++ e) ++ f)) → OnOk answer (new ≡ old ++ (((((a ++ b) ++ c) ++ d) ++ e) ++ f))
six answer old m1 m2 m3 new a b c d e f p q r last =
    let y : List ℕ = (a ++ b) ++ c in
    let first : m3 ≡ old ++ y = r ∙ ap (λ l. l ++ c) (q ∙ ap (λ l. l ++ b) p ∙ append_assoc old a b) ∙ append_assoc old (a ++ b) c in
    let all : m3 ++ ((d ++ e) ++ f) ≡ old ++ (((y ++ d) ++ e) ++ f) =
    ap (λ l. l ++ ((d ++ e) ++ f)) first ∙ append_assoc old y ((d ++ e) ++ f) ∙ ap (λ l. old ++ l) (sym (append_assoc y (d ++ e) f)) ∙ ap (λ l. old ++ (l ++ f)) (sym (append_assoc y d e)) in
    subst (λ l. OnOk answer (new ≡ l)) all last

-- what is made of one element more of a list
pub one_more : {A : Type 0} (f : A → List ℕ) (items list : List A) (i : ℕ) (x : A) (old new all : List ℕ) → items ≡ list → i < length items → x ≡ get_or items i x → new ≡ old ++ f x → old ++ flat_map f (drop i list) ≡ all → new ++ flat_map f (drop (i + 1) list) ≡ all
one_more f items list i x old new all are below is added before =
    let at : drop i items ≡ x ∷ drop (i + 1) items = drop_more items i x below ∙ ap (λ y. y ∷ drop (i + 1) items) (sym is) in
    let here : drop i list ≡ x ∷ drop (i + 1) list = subst (λ l. drop i l ≡ x ∷ drop (i + 1) l) are at in
    ap (λ l. l ++ flat_map f (drop (i + 1) list)) added ∙ append_assoc old (f x) (flat_map f (drop (i + 1) list)) ∙ ap (λ l. old ++ flat_map f l) (sym here) ∙ before

-- what is written of one error more, and of the cast beside it
pub one_beside : (r : Resolution) (items list : List ModeError) (i : ℕ) (e : ModeError) (left : List (Option Cast)) (old new : List ℕ) (behind : List (Option Cast)) (all : List ℕ) → items ≡ list → i < length items → e ≡ get_or items i e
    → new ≡ old ++ refusal r e (beside left) → behind ≡ drop 1 left → old ++ check_text r (drop i list) left ≡ all → new ++ check_text r (drop (i + 1) list) behind ≡ all
one_beside r items list i e left old new behind all are below is added rest before =
    let at : drop i items ≡ e ∷ drop (i + 1) items = drop_more items i e below ∙ ap (λ y. y ∷ drop (i + 1) items) (sym is) in
    let here : drop i list ≡ e ∷ drop (i + 1) list = subst (λ l. drop i l ≡ e ∷ drop (i + 1) l) are at in
    ap (λ l. new ++ check_text r (drop (i + 1) list) l) rest ∙ ap (λ l. l ++ check_text r (drop (i + 1) list) (drop 1 left)) added
    ∙ append_assoc old (refusal r e (beside left)) (check_text r (drop (i + 1) list) (drop 1 left)) ∙ ap (λ l. old ++ check_text r l left) (sym here) ∙ before
