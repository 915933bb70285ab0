-- Lists of which the elements, or what a function gives of them, are the same.
use Rattle.sharc_sound_laws.proofs.Imports.{◌≡◌, ℕ, zero, suc, Bool, cond, List, [], ◌∷◌, ◌++◌, length, get_or, map, filter, fold, refl, sym, ap, ◌∙◌, arith, mapped}

pub ap2 : {A B C : Type 0} (f : A → B → C) {x y : A} {u v : B} → x ≡ y → u ≡ v → f x u ≡ f y v
ap2 f {x = x} {y = y} {u = u} {v = v} p q = ap (λ z. f z u) p ∙ ap (f y) q

-- one function in place of another
pub map_same : {A B : Type 0} (f g : A → B) → ((x : A) → f x ≡ g x) → (xs : List A) → map f xs ≡ map g xs
map_same f g same [] = refl
map_same f g same (x ∷ xs) = ap (λ z. z ∷ map f xs) (same x) ∙ ap (λ zs. g x ∷ zs) (map_same f g same xs)

pub filter_same : {A : Type 0} (f g : A → Bool) → ((x : A) → f x ≡ g x) → (xs : List A) → filter f xs ≡ filter g xs
filter_same f g same [] = refl
filter_same f g same (x ∷ xs) = ap (λ b. cond b (x ∷ filter f xs) (filter f xs)) (same x) ∙ ap (λ zs. cond (g x) (x ∷ zs) zs) (filter_same f g same xs)

-- ---- lists of which a function gives the same
none_is_some : {A : Type 0} (n : ℕ) → 0 ≡ suc n → A
none_is_some n h = absurd (omega (arith, h))

pub length_of : {A B : Type 0} (f : A → B) (xs ys : List A) → map f xs ≡ map f ys → length xs ≡ length ys
length_of f xs ys e = sym (mapped f xs) ∙ ap length e ∙ mapped f ys

abbrev head_of : {B : Type 0} → B → List B → B
head_of d [] = d
head_of d (x ∷ xs) = x

abbrev tail_of : {B : Type 0} → List B → List B
tail_of [] = []
tail_of (x ∷ xs) = xs

pub element_of : {A B : Type 0} (f : A → B) (xs ys : List A) (n : ℕ) (d : A) → map f xs ≡ map f ys → f (get_or xs n d) ≡ f (get_or ys n d)
element_of f [] [] n d e = refl
element_of f (x ∷ xs) (y ∷ ys) zero d e = ap (head_of (f x)) e
element_of f (x ∷ xs) (y ∷ ys) (suc n) d e = element_of f xs ys n d (ap tail_of e)
element_of f [] (y ∷ ys) n d e = none_is_some (length (map f ys)) (ap length e)
element_of f (x ∷ xs) [] n d e = none_is_some (length (map f xs)) (sym (ap length e))

-- folded by what the function gives
pub fold_same : {A B C : Type 0} (f : A → B) (step : C → B → C) (xs ys : List A) (z : C) → map f xs ≡ map f ys → fold (λ c x. step c (f x)) z xs ≡ fold (λ c x. step c (f x)) z ys
fold_same f step [] [] z e = refl
fold_same f step (x ∷ xs) (y ∷ ys) z e = ap (λ b. fold (λ c x. step c (f x)) (step z b) xs) (ap (head_of (f x)) e) ∙ fold_same f step xs ys (step z (f y)) (ap tail_of e)
fold_same f step [] (y ∷ ys) z e = none_is_some (length (map f ys)) (ap length e)
fold_same f step (x ∷ xs) [] z e = none_is_some (length (map f xs)) (sym (ap length e))
