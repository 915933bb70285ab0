-- The bits of the other threads, and the lowest of them.
use Rattle.sharc_heap.proofs.{Imports.{◌≡◌, ◌≢◌, ℕ, ◌+◌, ◌-◌, ◌^◌, ◌<◌, ◌≤◌, ◌==◌, ◌&&◌, true, false, not, min, bit_and, sym, ap, ◌∙◌, inl, inr, arith, w64, Option, bit_at-zero, bit_at-lt, bit_at_and, bit_at_mask_inside, bit_at_mask_below, bit_at_mask_above, bit_at-trailing_zeros, cases_eq, cases_lt, eq-eqb, ne_eqb, and_parts, false≢true, bit_at, trailing_zeros, Kind, Read, Write, stands, IsOther, HasOther, IsFirstOther, Conflicts, AreOthers, and_true}, OneBit.IsWithout, Sets.{stands_below, stands_above, without_thread}}

-- the bits of all threads
masked : (x i : ℕ) → bit_at (bit_and x 4294967294) i ≡ min (bit_at x i) (bit_at (2 ^ 32 - 2 ^ 1) i)
masked x i = bit_at_and x 4294967294 i

pub are_others : (old left thread : ℕ) → thread < 31 → IsWithout (1 + thread) old left → AreOthers old thread (bit_and left 4294967294)
are_others old left thread within is = record {
  lowest = let m = masked left 0 in let z = bit_at_mask_below 1 32 0 (omega arith) in omega arith;
  threads = λ k. elim (cases_lt k 31) [
    | inl below ↦
        let m = masked left (1 + k) in
        let one = bit_at_mask_inside 1 32 (1 + k) (omega arith) (omega arith) in
        let same : bit_at (bit_and left 4294967294) (1 + k) ≡ bit_at left (1 + k) = omega (arith, bit_at-lt left (1 + k)) in
        ap (λ x. x == 1) same ∙ sym (stands_below left k below) ∙ without_thread old left thread within is k
    | inr above ↦
        let m = masked left (1 + k) in
        let none = bit_at_mask_above 1 32 (1 + k) (omega arith) in
        let gone : bit_at (bit_and left 4294967294) (1 + k) ≡ 0 = omega (arith, bit_at-lt left (1 + k)) in
        ap (λ x. x == 1) gone ∙ sym (stands_above left k above) ∙ without_thread old left thread within is k
  ];
}

-- a bit of the others shows another thread
other_at : (old thread bits k : ℕ) → AreOthers old thread bits → bit_at bits (1 + k) ≡ 1 → IsOther old thread k
other_at old thread bits k are one =
    let both = and_parts (stands old k) (not (k == thread)) (sym (are.threads k) ∙ ap (λ x. x == 1) one) in
    record {
      another = λ e. false≢true (sym (ap not (eq-eqb k thread e)) ∙ both.1);
      stood = both.0;
    }

no_other_at : (old thread bits k : ℕ) → AreOthers old thread bits → bit_at bits (1 + k) ≡ 0 → k ≢ thread → stands old k ≡ false
no_other_at old thread bits k are none other =
    sym (and_true (stands old k)) ∙ ap (λ x. stands old k && not x) (sym (ne_eqb k thread other)) ∙ sym (are.threads k) ∙ ap (λ x. x == 1) none

-- the lowest bit is that of the first other thread
pub record IsLowestOf (old thread bits : ℕ) : Type 0 where
  pub later : 1 ≤ trailing_zeros w64 bits
  pub first : IsFirstOther old thread (trailing_zeros w64 bits - 1)

pub first_other : (old thread bits : ℕ) → AreOthers old thread bits → 0 < bits → bits < 2 ^ 64 → IsLowestOf old thread bits
first_other old thread bits are some fits =
    let low = bit_at-trailing_zeros w64 bits some fits in
    let later : 1 ≤ trailing_zeros w64 bits = not_zeroth (trailing_zeros w64 bits) bits low.1 are.lowest in
    let at : 1 + (trailing_zeros w64 bits - 1) ≡ trailing_zeros w64 bits = omega arith in
    record {
      later = later;
      first = record {
        is = other_at old thread bits (trailing_zeros w64 bits - 1) are (ap (λ i. bit_at bits i) at ∙ low.1);
        lowest = λ k below other. no_other_at old thread bits k are (low.2 (1 + k) (omega arith)) other;
      };
    }
  where
    not_zeroth : (i n : ℕ) → bit_at n i ≡ 1 → bit_at n 0 ≡ 0 → 1 ≤ i
    not_zeroth i n one none =
        elim (cases_eq i 0) [
          | inl zeroth ↦ let clash : bit_at n 0 ≡ 1 = ap (λ j. bit_at n j) (sym zeroth) ∙ one in absurd (omega arith)
          | inr later ↦ omega arith
        ]

pub some_of_other : (old thread bits other : ℕ) → AreOthers old thread bits → IsOther old thread other → 0 < bits
some_of_other old thread bits other are is =
    elim (cases_eq bits 0) [
      | inl none ↦
          let stood : (bit_at bits (1 + other) == 1) ≡ true = are.threads other ∙ ap (λ x. x && not (other == thread)) is.stood ∙ ap not (ne_eqb other thread is.another) in
          absurd (false≢true (sym (ap (λ x. x == 1) (ap (λ n. bit_at n (1 + other)) none ∙ bit_at-zero (1 + other))) ∙ stood))
      | inr some ↦ omega arith
    ]

-- every conflict is with another thread
pub other_of_conflict : (old thread : ℕ) (kind : Kind) (wrote : Option ℕ) → Conflicts old thread kind wrote → HasOther old thread
other_of_conflict old thread Write wrote there = there
other_of_conflict old thread Read wrote there = there.0

-- the test of whether any bit is left
pub test_of_some : (n : ℕ) → 0 < n → not (n == 0) ≡ true
test_of_some n some = ap not (ne_eqb n 0 (λ e. absurd (omega arith)))

pub some_of_test : (n : ℕ) → not (n == 0) ≡ true → 0 < n
some_of_test n test =
    elim (cases_eq n 0) [
      | inl none ↦ absurd (false≢true (sym (ap not (eq-eqb n 0 none)) ∙ test))
      | inr some ↦ omega arith
    ]

pub lowest_of_conflict : (old thread bits : ℕ) (kind : Kind) (wrote : Option ℕ) → AreOthers old thread bits → bits < 2 ^ 64 → Conflicts old thread kind wrote → IsLowestOf old thread bits
lowest_of_conflict old thread bits kind wrote are fits there =
    let other = other_of_conflict old thread kind wrote there in
    first_other old thread bits are (some_of_other old thread bits other.0 are other.1) fits
