-- The least power of two that is a number or more.
use Rattle.sharc_heap.proofs.Imports.{◌≡◌, ℕ, ◌+◌, ◌*◌, ◌/◌, ◌^◌, ◌<◌, ◌≤◌, zero, suc, max, refl, ap, sym, subst, inl, inr, arith, pow-succ', pow_mono, cases_lt, le-leb, lt-leb, IsPowerOfTwo, OneBlock, BlockOfIsBlock, granules_of, IsBlock, doubled, block_of}

-- half of a power of two, above the first, is the one before
half : (j k : ℕ) → j < k → 2 ^ j ≤ 2 ^ k / 2
half j zero below = absurd (omega arith)
half j (suc k) below = let m = pow_mono {i = j} {j = k} (omega arith) in let d = pow-succ' 2 k in omega arith

least : (n p j : ℕ) → IsPowerOfTwo p → 1 ≤ n → p / 2 < max 1 n → n ≤ 2 ^ j → p ≤ 2 ^ j
least n p j (k, is) some above fits =
    elim (cases_lt j k) [
      | inl below ↦ let h = half j k below in let e : p / 2 ≡ 2 ^ k / 2 = ap (λ x. x / 2) is in absurd (omega arith)
      | inr over ↦ let m = pow_mono {i = k} {j = j} over in omega arith
    ]

pub is_block : (cells n p : ℕ) → n ≡ granules_of cells → IsPowerOfTwo p → n ≤ p → p / 2 < max 1 n → IsBlock cells p
is_block cells n p is power room above = record {
  power = power;
  room = omega arith;
  least = λ j fits. least n p j power (omega arith) above (omega arith);
}

-- the least power of two that is a number or more is one
pub one_block : OneBlock
one_block cells p q one other = same p q one.power other.power one other
  where
    same : (p q : ℕ) → IsPowerOfTwo p → IsPowerOfTwo q → IsBlock cells p → IsBlock cells q → p ≡ q
    same p q (i, is) (j, is') one other =
        let room = one.room in
        let room' = other.room in
        let most = other.least i (omega arith) in
        let most' = one.least j (omega arith) in
        omega arith

-- the powers below the first that is tried are too small
pub record IsFirstTry (n j : ℕ) : Type 0 where
  pub later : (k : ℕ) → n ≤ 2 ^ k → j ≤ k

pub record IsLeastPower (n p : ℕ) : Type 0 where
  pub power : IsPowerOfTwo p
  pub room : n ≤ p
  pub least : (k : ℕ) → n ≤ 2 ^ k → p ≤ 2 ^ k

tried : (n j : ℕ) → IsFirstTry n j → n ≤ 2 ^ j → IsLeastPower n (2 ^ j)
tried n j first fits = record { power = (j, refl); room = fits; least = λ k enough. pow_mono {i = j} {j = k} (first.later k enough) }

doubled_is : (more n j : ℕ) → IsFirstTry n j → n ≤ 2 ^ (j + more) → IsLeastPower n (doubled more (2 ^ j) n)
unfolding doubled
doubled_is zero n j first fits = let e : j + 0 ≡ j = omega arith in let P = λ (m : ℕ). n ≤ 2 ^ m in tried n j first (subst P e fits)
doubled_is (suc more) n j first fits =
    elim (cases_lt (2 ^ j) n) [
      | inl small ↦
          let next : IsFirstTry n (suc j) = record { later = λ k enough. elim (cases_lt j k) [ inl below ↦ below | inr over ↦ let m = pow_mono {i = k} {j = j} over in absurd (omega arith) ] } in
          let all : n ≤ 2 ^ (suc j + more) = let e : suc j + more ≡ j + suc more = omega arith in let P = λ (m : ℕ). n ≤ 2 ^ m in subst P (sym e) fits in
          let double : 2 ^ suc j ≡ 2 * 2 ^ j = let d = pow-succ' 2 j in omega arith in
          let P = λ (q : ℕ). IsLeastPower n (doubled more q n) in
          rw (lt-leb n (2 ^ j) small) (subst P double (doubled_is more n (suc j) next all))
      | inr enough ↦ rw (le-leb n (2 ^ j) enough) (tried n j first enough)
    ]

pub block_of_is_block : BlockOfIsBlock
unfolding block_of
block_of_is_block cells few =
    let is = doubled_is 32 (granules_of cells) 0 record { later = λ k enough. omega arith } (omega arith) in
    record { power = is.power; room = is.room; least = is.least }

pub block_is : (cells p : ℕ) → cells ≤ 2 ^ 32 → IsBlock cells p → p ≡ block_of cells
block_is cells p few is = one_block cells p (block_of cells) is (block_of_is_block cells few)
