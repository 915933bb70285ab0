-- A variable's place among those of its frame.
use Rattle.sharc_ask.proofs.Imports.{◌≡◌, ℕ, suc, ◌+◌, ◌<◌, Bool, true, false, cond, List, [], ◌∷◌, refl, sym, ap, subst, ◌∙◌, arith, length, slice_index_or, slice_set, ℤ, ◌==◌, Variable, with_value}
use Rattle.sharc_ask.specs.StepView.{place_of}

abbrev pub valued : ℤ → Variable → Variable
valued v x = record { token = x.token; is_pointer = x.is_pointer; value = v }

set_by : (b : Bool) (x : Variable) (l : List Variable) (v : ℤ) (d : Variable) (n : ℕ) (k : List Variable) → cond b 0 (n + 1) < suc (length l) → (n < length l → slice_set l n (valued v (slice_index_or l n d)) ≡ k)
    → slice_set (x ∷ l) (cond b 0 (n + 1)) (valued v (slice_index_or (x ∷ l) (cond b 0 (n + 1)) d)) ≡ cond b (valued v x ∷ l) (x ∷ k)
set_by true x l v d n k h ih = refl
set_by false x l v d n k h ih = let e : n + 1 ≡ suc n = omega arith in let low : n < length l = omega arith in rw e (ap (λ z. x ∷ z) (ih low))

pub set_at : (l : List Variable) (t : ℕ) (v : ℤ) (d : Variable) → place_of l t < length l → slice_set l (place_of l t) (valued v (slice_index_or l (place_of l t) d)) ≡ with_value l t v
set_at [] t v d h = refl
set_at (x ∷ l) t v d h = set_by (x.token == t) x l v d (place_of l t) (with_value l t v) h (set_at l t v d)

none_by : (b : Bool) (x : Variable) (l : List Variable) (v : ℤ) (n : ℕ) (k : List Variable) → (cond b 0 (n + 1) < suc (length l) → ⊥) → ((n < length l → ⊥) → k ≡ l) → cond b (valued v x ∷ l) (x ∷ k) ≡ x ∷ l
none_by true x l v n k h ih = absurd (h (omega arith))
none_by false x l v n k h ih = ap (λ z. x ∷ z) (ih (λ low. h (omega arith)))

pub set_none : (l : List Variable) (t : ℕ) (v : ℤ) → (place_of l t < length l → ⊥) → with_value l t v ≡ l
set_none [] t v h = refl
set_none (x ∷ l) t v h = none_by (x.token == t) x l v (place_of l t) (with_value l t v) h (set_none l t v)

-- a variable's place is given another variable, of the same token and kind
pub set_like : (l : List Variable) (t p : ℕ) (v w : ℤ) (old : Variable) → p ≡ place_of l t → p < length l → old ≡ slice_index_or l p old → w ≡ v
    → with_value l t v ≡ slice_set l p (record { token = old.token; is_pointer = old.is_pointer; value = w })
set_like l t p v w old place low is same =
    let h : place_of l t < length l = subst (λ n. n < length l) place low in
    let x : valued w old ≡ valued v (slice_index_or l (place_of l t) old) = ap (λ z. valued z old) same ∙ ap (valued v) (is ∙ ap (λ n. slice_index_or l n old) place) in
    sym (ap (λ n. slice_set l n (valued w old)) place ∙ ap (slice_set l (place_of l t)) x ∙ set_at l t v old h)
