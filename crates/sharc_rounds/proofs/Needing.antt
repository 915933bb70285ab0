-- The places up to the last thread, and how many workers a round needs for them.
use Rattle.std.proofs.{Common.{◌≡◌, ℕ, zero, suc, ◌+◌, ◌<◌, ◌≤◌, ◌%◌, List, [], ◌∷◌, ◌++◌, length, get_or, take, Bool, true, false, Option, Some, None, refl, sym, ap, ◌∙◌, arith}, Math.Nat.mod-eq_of_lt, lemmas.List.{take_more, take_all, length-take-le}}
use Rattle.std.specs.Prelude.{IsSome, is_some}
use Rattle.sharc_cpu.specs.Thread.{ThreadView}
use Rattle.sharc_rounds.specs.Shares.{one_before, behind_last}

one_more : (n : ℕ) → one_before (n + 1) ≡ n + 2
one_more n = let e : n + 1 ≡ suc n = omega arith in ap one_before e ∙ omega arith

one_below : (k n : ℕ) → k < n → suc k < one_before n
one_below k zero h = omega (arith, h)
one_below k (suc n) h = omega (arith, h)

-- a place more, with a thread or without one
pub behind_some : (xs : List (Option ThreadView)) (x : ThreadView) → behind_last (xs ++ Some x ∷ []) ≡ length xs + 1
behind_some [] x = refl
behind_some (Some y ∷ xs) x = ap suc (behind_some xs x) ∙ omega arith
behind_some (None ∷ xs) x = ap one_before (behind_some xs x) ∙ one_more (length xs) ∙ omega arith

pub behind_none : (xs : List (Option ThreadView)) → behind_last (xs ++ None ∷ []) ≡ behind_last xs
behind_none [] = refl
behind_none (Some y ∷ xs) = ap suc (behind_none xs)
behind_none (None ∷ xs) = ap one_before (behind_none xs)

-- a thread stands before the last place
pub below_behind : (xs : List (Option ThreadView)) (n : ℕ) → IsSome (get_or xs n None) → n < behind_last xs
below_behind [] n h = absurd (let e : false ≡ true = h in cc)
below_behind (Some y ∷ xs) zero h = omega arith
below_behind (Some y ∷ xs) (suc n) h = let k = below_behind xs n h in omega (arith, k)
below_behind (None ∷ xs) zero h = absurd (let e : false ≡ true = h in cc)
below_behind (None ∷ xs) (suc n) h = one_below n (behind_last xs) (below_behind xs n h)

-- one place more is gone over
pub behind_more : (xs : List (Option ThreadView)) (n : ℕ) (x : Option ThreadView) → n < length xs → x ≡ get_or xs n x → behind_last (take (n + 1) xs) ≡ behind_last (take n xs ++ x ∷ [])
behind_more xs n x low is = ap (λ ys. behind_last ys) (take_more xs n x low ∙ ap (λ y. take n xs ++ y ∷ []) (sym is))

-- behind the place, the number is that of it and one more if there is a thread, and else the one before it
pub gone_over : (xs : List (Option ThreadView)) (n behind after : ℕ) (x : Option ThreadView) (there : Bool) → n < length xs → x ≡ get_or xs n x → there ≡ is_some x → behind ≡ behind_last (take n xs)
    → (there ≡ true → after ≡ n + 1) → (there ≡ false → after ≡ behind) → after ≡ behind_last (take (n + 1) xs)
gone_over xs n behind after (Some y) there low is e old add keep =
    let long : length (take n xs) ≡ n = length-take-le n xs (omega (arith, low)) in
    add e ∙ sym (behind_more xs n (Some y) low is ∙ behind_some (take n xs) y ∙ ap (λ k. k + 1) long)
gone_over xs n behind after None there low is e old add keep = keep e ∙ old ∙ sym (behind_more xs n None low is ∙ behind_none (take n xs))

-- all places were gone over
pub behind_all : (xs : List (Option ThreadView)) (n : ℕ) → length xs ≤ n → behind_last (take n xs) ≡ behind_last xs
behind_all xs n h = ap (λ ys. behind_last ys) (take_all n xs h)

-- where there are more workers than places up to the last thread, each thread has a worker of its number
pub same_worker : (workers behind few n : ℕ) → n < behind → few ≡ behind → few < workers → n % few ≡ n % workers
same_worker workers behind few n low e less = mod-eq_of_lt (let h : n < few = omega (arith, low, e) in h) ∙ sym (mod-eq_of_lt (let h : n < workers = omega (arith, low, e, less) in h))
