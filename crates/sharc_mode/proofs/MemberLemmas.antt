-- Elements of lists that are joined.
use Rattle.sharc_mode.proofs.Imports.{◌≡◌, ◌⊎◌, ℕ, zero, suc, ◌<◌, List, [], ◌∷◌, ◌++◌, length, get_or, refl, sym, subst, inl, inr, arith, Contains, flat_map}

-- some element has the property
abbrev pub Has : {A : Type 0} → (A → Type 0) → List A → Type 0
Has P [] = ⊥
Has P (x ∷ rest) = P x ⊎ Has P rest

pub has_left : {A : Type 0} (P : A → Type 0) (xs ys : List A) → Has P xs → Has P (xs ++ ys)
has_left P [] ys h = absurd h
has_left P (x ∷ xs) ys (inl here) = inl here
has_left P (x ∷ xs) ys (inr there) = inr (has_left P xs ys there)

pub has_right : {A : Type 0} (P : A → Type 0) (xs ys : List A) → Has P ys → Has P (xs ++ ys)
has_right P [] ys h = h
has_right P (x ∷ xs) ys h = inr (has_right P xs ys h)

pub has_cases : {A : Type 0} (P : A → Type 0) (xs ys : List A) → Has P (xs ++ ys) → Has P xs ⊎ Has P ys
has_cases P [] ys h = inr h
has_cases P (x ∷ xs) ys (inl here) = inl (inl here)
has_cases P (x ∷ xs) ys (inr there) = elim (has_cases P xs ys there) [ inl a ↦ inl (inr a) | inr b ↦ inr b ]

has_at : {A : Type 0} (P : A → Type 0) (xs : List A) (x : A) (k : ℕ) → k < length xs → get_or xs k x ≡ x → P x → Has P xs
has_at P [] x k below is p = absurd (omega arith)
has_at P (y ∷ ys) x zero below is p = inl (subst P (sym is) p)
has_at P (y ∷ ys) x (suc k) below is p = inr (has_at P ys x k (omega arith) is p)

pub has_contained : {A : Type 0} (P : A → Type 0) (xs : List A) (x : A) → Contains xs x → P x → Has P xs
has_contained P xs x at p = has_at P xs x at.0 at.1 at.2 p

pub contained : {A : Type 0} (P : A → Type 0) (xs : List A) → Has P xs → (x : A) × Contains xs x × P x
contained P [] h = absurd h
contained P (x ∷ xs) (inl here) = (x, (0, omega arith, refl), here)
contained P (x ∷ xs) (inr there) =
    let found = contained P xs there in
    let at = found.1 in
    let below : at.0 < length xs = at.1 in
    (found.0, (suc at.0, omega arith, at.2), found.2)

-- what `flat_map` gives
pub has_source : {A B : Type 0} (P : B → Type 0) (f : A → List B) (xs : List A) → Has P (flat_map f xs) → Has (λ x. Has P (f x)) xs
has_source P f [] h = absurd h
has_source P f (x ∷ xs) h = elim (has_cases P (f x) (flat_map f xs) h) [ inl here ↦ inl here | inr there ↦ inr (has_source P f xs there) ]

pub has_made : {A B : Type 0} (P : B → Type 0) (f : A → List B) (xs : List A) → Has (λ x. Has P (f x)) xs → Has P (flat_map f xs)
has_made P f [] h = absurd h
has_made P f (x ∷ xs) (inl here) = has_left P (f x) (flat_map f xs) here
has_made P f (x ∷ xs) (inr there) = has_right P (f x) (flat_map f xs) (has_made P f xs there)
