-- The place of a turn.
use Rattle.sharc_schedule.proofs.Imports.{◌≡◌, ℕ, zero, suc, ◌+◌, ◌-◌, ◌<◌, ◌≤◌, List, [], ◌∷◌, ◌++◌, length, take, get_or, replicate, refl, ap, ◌∙◌, arith, slice_index, one_by_one, total}

in_front : (n place i : ℕ) (rest : List ℕ) → i < n → slice_index (replicate n place ++ rest) i ≡ place
in_front zero place i rest lt = absurd (omega arith)
in_front (suc n) place zero rest lt = refl
in_front (suc n) place (suc i) rest lt = in_front n place i rest (omega arith)

after_front : (n place i j : ℕ) (rest : List ℕ) → i ≡ n + j → slice_index (replicate n place ++ rest) i ≡ slice_index rest j
after_front zero place i j rest e = ap (slice_index rest) (omega arith)
after_front (suc n) place zero j rest e = absurd (omega arith)
after_front (suc n) place (suc i) j rest e = after_front n place i j rest (omega arith)

-- the turn is one of those of the k-th place
pub place_of_turn : (places : List (ℕ × ℕ)) (k i : ℕ) (d : ℕ × ℕ) → k < length places → total (take k places) ≤ i → i < total (take (suc k) places) → slice_index (one_by_one places) i ≡ (get_or places k d).0
place_of_turn [] k i d lt low high = absurd (omega arith)
place_of_turn (first ∷ more) zero i d lt low high = in_front first.1 first.0 i (one_by_one more) (omega arith)
place_of_turn (first ∷ more) (suc k) i d lt low high =
    let j : ℕ = i - first.1 in
    after_front first.1 first.0 i j (one_by_one more) (omega arith) ∙ place_of_turn more k j d (omega arith) (omega arith) (omega arith)

pub place_past : (places : List (ℕ × ℕ)) (i : ℕ) → total places ≤ i → slice_index (one_by_one places) i ≡ 0
place_past [] i low = refl
place_past (first ∷ more) i low =
    let j : ℕ = i - first.1 in
    after_front first.1 first.0 i j (one_by_one more) (omega arith) ∙ place_past more j (omega arith)

pub total_more : (places : List (ℕ × ℕ)) (k : ℕ) (d : ℕ × ℕ) → k < length places → total (take (suc k) places) ≡ total (take k places) + (get_or places k d).1
total_more [] k d lt = absurd (omega arith)
total_more (first ∷ more) zero d lt = omega arith
total_more (first ∷ more) (suc k) d lt = let r = total_more more k d (omega arith) in omega arith

pub whole : (places : List (ℕ × ℕ)) (k : ℕ) → length places ≤ k → total (take k places) ≡ total places
whole [] zero past = refl
whole [] (suc k) past = refl
whole (first ∷ more) zero past = absurd (omega arith)
whole (first ∷ more) (suc k) past = ap (λ n. first.1 + n) (whole more k (omega arith))
