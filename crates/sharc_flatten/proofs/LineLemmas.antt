-- Lines beside where their texts lie, and rows with where the names of their functions lie.
use Rattle.sharc_flatten.proofs.{Imports.{◌≡◌, ℕ, ◌+◌, ◌<◌, ◌≤◌, List, [], ◌∷◌, ◌++◌, length, take, drop, get_or, set, refl, ap, sym, ◌∙◌, subst, Option, Some, None, arith, append_assoc, append-nil, take_all, take_more, take_more_set, slice_get, Row, Text, Resolution, Op, LineTexts, spot_in, AreTexts, AreTold, IsNamed, AreNamed, Grows}, ListLemmas.{take_got, same_at}}

-- one more at the end
pub told_more : (r : Resolution) (bytes : List ℕ) (lines : List Op) (told : List LineTexts) (o : Op) (x : LineTexts) → AreTold r bytes lines told → AreTexts r bytes (spot_in o) x → AreTold r bytes (lines ++ o ∷ []) (told ++ x ∷ [])
told_more r bytes [] [] o x all one = (one, tt)
told_more r bytes [] (y ∷ told) o x all one = absurd all
told_more r bytes (p ∷ lines) [] o x all one = absurd all
told_more r bytes (p ∷ lines) (y ∷ told) o x all one = (all.0, told_more r bytes lines told o x all.1 one)

pub line_more : (r : Resolution) (old new : List ℕ) (lines : List Op) (told next : List LineTexts) (n : ℕ) (d : Op) (x : LineTexts) → n < length lines → next ≡ told ++ x ∷ [] → Grows old new
    → ((more : List ℕ) → AreTold r (old ++ more) (take n lines) told) → ((more : List ℕ) → AreTexts r (new ++ more) (spot_in (get_or lines n d)) x) → (more : List ℕ) → AreTold r (new ++ more) (take (n + 1) lines) next
line_more r old new lines told next n d x within is grows all one more =
    let bytes : old ++ (grows.0 ++ more) ≡ new ++ more = sym (append_assoc old grows.0 more) ∙ ap (λ l. l ++ more) grows.1 in
    let before : AreTold r (new ++ more) (take n lines) told = subst (λ (b : List ℕ). AreTold r b (take n lines) told) bytes (all (grows.0 ++ more)) in
    subst (λ (l : List Op). AreTold r (new ++ more) l next) (sym (take_more lines n d within))
    (subst (λ (l : List LineTexts). AreTold r (new ++ more) (take n lines ++ get_or lines n d ∷ []) l) (sym is) (told_more r (new ++ more) (take n lines) told (get_or lines n d) x before (one more)))

pub named_more : (bytes : List ℕ) (told : List Row) (names : List (List ℕ)) (made : List Row) (x : Row) (name : List ℕ) (y : Row) → AreNamed bytes told names made → IsNamed bytes x y name
    → AreNamed bytes (told ++ x ∷ []) (names ++ name ∷ []) (made ++ y ∷ [])
named_more bytes [] [] [] x name y all one = (one, tt)
named_more bytes (w ∷ told) (n ∷ names) (z ∷ made) x name y all one = (all.0, named_more bytes told names made x name y all.1 one)
named_more bytes _ _ _ x name y all one = absurd all

-- ---- one more of a list that is changed in place, from its first element on
pub name_more : (old new : List ℕ) (told rows : List Row) (names : List (List ℕ)) (n : ℕ) (x y : Row) (name : List ℕ) → n < length rows → length rows ≡ length told → drop n rows ≡ drop n told → x ≡ get_or rows n x
    → slice_get names n ≡ Some name → Grows old new → ((more : List ℕ) → AreNamed (old ++ more) (take n told) (take n names) (take n rows)) → ((more : List ℕ) → IsNamed (new ++ more) x y name)
    → (more : List ℕ) → AreNamed (new ++ more) (take (n + 1) told) (take (n + 1) names) (take (n + 1) (set rows n y))
name_more old new told rows names n x y name within size left at name_at grows all one more =
    let bytes : old ++ (grows.0 ++ more) ≡ new ++ more = sym (append_assoc old grows.0 more) ∙ ap (λ l. l ++ more) grows.1 in
    let before : AreNamed (new ++ more) (take n told) (take n names) (take n rows) = subst (λ (b : List ℕ). AreNamed b (take n told) (take n names) (take n rows)) bytes (all (grows.0 ++ more)) in
    let from : get_or told n x ≡ x = sym (same_at rows told n x left) ∙ sym at in
    let told_is : take n told ++ x ∷ [] ≡ take (n + 1) told = sym (take_more told n x (omega arith) ∙ ap (λ z. take n told ++ z ∷ []) from) in
    let names_is : take n names ++ name ∷ [] ≡ take (n + 1) names = sym (take_got names n name name_at) in
    let made_is : take n rows ++ y ∷ [] ≡ take (n + 1) (set rows n y) = sym (take_more_set rows n y within) in
    subst (λ (l : List Row). AreNamed (new ++ more) (take (n + 1) told) (take (n + 1) names) l) made_is
    (subst (λ (l : List (List ℕ)). AreNamed (new ++ more) (take (n + 1) told) l (take n rows ++ y ∷ [])) names_is
    (subst (λ (l : List Row). AreNamed (new ++ more) l (take n names ++ name ∷ []) (take n rows ++ y ∷ [])) told_is (named_more (new ++ more) (take n told) (take n names) (take n rows) x name y before (one more))))

pub named_all : (bytes : List ℕ) (told rows : List Row) (names : List (List ℕ)) (n : ℕ) → length told ≤ n → length names ≤ n → length rows ≤ n → AreNamed (bytes ++ []) (take n told) (take n names) (take n rows) → AreNamed bytes told names rows
named_all bytes told rows names n a b c all =
    subst (λ (l : List Row). AreNamed bytes told names l) (take_all n rows c)
    (subst (λ (l : List (List ℕ)). AreNamed bytes told l (take n rows)) (take_all n names b)
    (subst (λ (l : List Row). AreNamed bytes l (take n names) (take n rows)) (take_all n told a)
    (subst (λ (l : List ℕ). AreNamed l (take n told) (take n names) (take n rows)) (append-nil bytes) all)))
