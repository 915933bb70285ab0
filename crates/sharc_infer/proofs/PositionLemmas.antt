-- Lists that are made position by position.
use Rattle.sharc_infer.proofs.Imports.{◌≡◌, ℕ, ◌+◌, ◌<◌, List, [], ◌∷◌, ◌++◌, length, length-append, get_or, ap, sym, ◌∙◌, inl, inr, arith, cases_lt, get_or_append_left, get_or_push}

-- one position more
pub size_more : {A : Type 0} (xs new : List A) (n : ℕ) (x : A) → length xs ≡ n → new ≡ xs ++ x ∷ [] → length new ≡ n + 1
size_more xs new n x size is = let both = ap length is ∙ length-append xs (x ∷ []) in omega arith

pub each_more : {A : Type 0} (f : ℕ → A) (d : A) (xs new : List A) (n : ℕ) (x : A) → length xs ≡ n → new ≡ xs ++ x ∷ [] → x ≡ f n → ((p : ℕ) → p < n → get_or xs p d ≡ f p)
    → (p : ℕ) → p < n + 1 → get_or new p d ≡ f p
each_more f d xs new n x size is at before p inside =
    elim (cases_lt p n) [
      | inl less ↦ ap (λ l. get_or l p d) is ∙ get_or_append_left xs (x ∷ []) d p (omega arith) ∙ before p less
      | inr least ↦
          let here : p ≡ n = omega arith in
          ap (λ l. get_or l p d) is ∙ get_or_push xs x d p (omega arith) ∙ at ∙ ap f (sym here)
    ]
