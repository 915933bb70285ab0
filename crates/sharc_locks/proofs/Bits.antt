-- One bit of a word of waiters, set and cleared.
use Rattle.std.proofs.{Math.Nat.mod-eq_of_lt, Math.Pow.pow-lt, Common.{◌≡◌, ℕ, Some, subst, ◌-◌, ◌*◌, ◌^◌, ◌/◌, ◌%◌, ◌<◌, ◌≤◌, ◌==◌, ◌||◌, ◌&&◌, Bool, true, false, not, nat_eq, min, bit_and, bit_or, refl, sym, ap, ◌∙◌, inl, inr, arith, w64}, lemmas.Nat.Bits.{bit_at-zero, bit_at-lt, bit_at_and, bit_at_above, same_from_bits, shr_and_one, bit_at_set_same, bit_at_set_other, bit_at_clear_same, bit_at_clear_other, bit_at-trailing_zeros}, lemmas.Bool.{cases_eq, cases_lt, eq-eqb, ne_eqb, or_right, and_right, and_left}}
use Rattle.std.specs.Int.{bit_at, bit_not, trailing_zeros}
use Rattle.sharc_locks.specs.{Waiters.{waits_in, lowest_of, without_lowest, woken, AddsWaiter, TakesAwayFirst}, Laws.{OrEnters, OrWaits, OrLeavesOthers, LowestIsTakenAway}}
use Rattle.sharc_lemmas.proofs.{Bools.{or_false2 as or_false}, Numbers.same_bit}

and_true : (b : Bool) → b ≡ (b && true)
and_true true = refl
and_true false = refl

pub set_waiter : (word thread : ℕ) → thread < 64 → (k : ℕ) → waits_in (bit_or word (1 * 2 ^ thread % 2 ^ 64)) k ≡ (waits_in word k || k == thread)
unfolding waits_in
set_waiter word thread within k =
    elim (cases_eq k thread) [
      | inl same ↦ rw same (ap (λ b. b == 1) (bit_at_set_same w64 word thread within) ∙ sym (or_right (bit_at word thread == 1) (thread == thread) (eq-eqb thread thread refl)))
      | inr other ↦ ap (λ b. b == 1) (bit_at_set_other w64 word thread within k other) ∙ or_false (bit_at word k == 1) ∙ ap (λ b. bit_at word k == 1 || b) (sym (ne_eqb k thread other))
    ]

-- past the word no bit is set
none_above : (word k : ℕ) → word < 2 ^ 64 → 64 ≤ k → (bit_at word k == 1) ≡ false
none_above word k is_word above = ap (λ b. b == 1) (bit_at_above word 64 k is_word above)

min_zero : (b : ℕ) → min 0 b ≡ 0
min_zero b = omega arith

clear_above : (word mask k : ℕ) → word < 2 ^ 64 → 64 ≤ k → (bit_at (bit_and word mask) k == 1) ≡ false
clear_above word mask k is_word above = ap (λ b. b == 1) (bit_at_and word mask k ∙ ap (λ b. min b (bit_at mask k)) (bit_at_above word 64 k is_word above) ∙ min_zero (bit_at mask k))

pub clear_waiter : (word thread : ℕ) → word < 2 ^ 64 → thread < 64 → (k : ℕ) → waits_in (bit_and word (bit_not w64 (1 * 2 ^ thread % 2 ^ 64))) k ≡ (waits_in word k && not (k == thread))
unfolding waits_in
clear_waiter word thread is_word within k =
    elim (cases_eq k thread) [
      | inl same ↦ rw same (ap (λ b. b == 1) (bit_at_clear_same w64 word thread within) ∙ sym (and_right (bit_at word thread == 1) (not (thread == thread)) (ap not (eq-eqb thread thread refl))))
      | inr other ↦ elim (cases_lt k 64) [
        | inl below ↦ ap (λ b. b == 1) (bit_at_clear_other w64 word thread within k below other) ∙ and_true (bit_at word k == 1) ∙ ap (λ b. bit_at word k == 1 && not b) (sym (ne_eqb k thread other))
        | inr above ↦ clear_above word (bit_not w64 (1 * 2 ^ thread % 2 ^ 64)) k is_word above ∙ sym (and_left (bit_at word k == 1) (not (k == thread)) (none_above word k is_word above))
      ]
    ]

-- the lowest bit, as the code takes it away
pub without_lowest_is : (word : ℕ) → 0 < word → word < 2 ^ 64 → bit_and word (bit_not w64 (1 * 2 ^ trailing_zeros w64 word % 2 ^ 64)) ≡ without_lowest word
unfolding without_lowest lowest_of
without_lowest_is word some is_word =
    let first = bit_at-trailing_zeros w64 word some is_word in
    let once : 1 * 2 ^ trailing_zeros w64 word ≡ 2 ^ trailing_zeros w64 word = omega arith in
    let same : 1 * 2 ^ trailing_zeros w64 word % 2 ^ 64 ≡ 2 ^ trailing_zeros w64 word = ap (λ n. n % 2 ^ 64) once ∙ mod-eq_of_lt (pow-lt {i = trailing_zeros w64 word} {j = 64} first.0) in
    ap (λ (n : ℕ). bit_and word (2 ^ 64 - 1 - n)) same

pub lowest_is : (word : ℕ) → trailing_zeros w64 word ≡ lowest_of word
unfolding lowest_of
lowest_is word = refl

pub takes_away_first : (word : ℕ) → 0 < word → word < 2 ^ 64 → TakesAwayFirst word (bit_and word (bit_not w64 (1 * 2 ^ trailing_zeros w64 word % 2 ^ 64))) (trailing_zeros w64 word)
unfolding waits_in
takes_away_first word some is_word =
    let first = bit_at-trailing_zeros w64 word some is_word in
    record {
      waited = ap (λ b. b == 1) first.1;
      lowest = λ k below. ap (λ b. b == 1) (first.2 k below);
      left = clear_waiter word (trailing_zeros w64 word) is_word first.0;
    }

pub lowest_is_taken_away : LowestIsTakenAway
lowest_is_taken_away word some is_word =
    let P = λ (new : ℕ). TakesAwayFirst word new (lowest_of word) in
    let Q = λ (thread : ℕ). TakesAwayFirst word (bit_and word (bit_not w64 (1 * 2 ^ trailing_zeros w64 word % 2 ^ 64))) thread in
    subst P (without_lowest_is word some is_word) (subst Q (lowest_is word) (takes_away_first word some is_word))

some_is : (word : ℕ) → 0 < word → Some (lowest_of word, without_lowest word) ≡ woken word
some_is word some = rw (ne_eqb word 0 (λ e. absurd (omega arith)))

pub wake_is : (word : ℕ) → 0 < word → word < 2 ^ 64 → Some (trailing_zeros w64 word, bit_and word (bit_not w64 (1 * 2 ^ trailing_zeros w64 word % 2 ^ 64))) ≡ woken word
wake_is word some is_word =
    ap (λ (thread : ℕ). Some (thread, bit_and word (bit_not w64 (1 * 2 ^ trailing_zeros w64 word % 2 ^ 64)))) (lowest_is word)
    ∙ ap (λ (left : ℕ). Some (lowest_of word, left)) (without_lowest_is word some is_word) ∙ some_is word some

-- what an Or of a bit does
pub or_enters : OrEnters
or_enters word thread within =
    let once : 1 * 2 ^ thread ≡ 2 ^ thread = omega arith in
    let same : 1 * 2 ^ thread % 2 ^ 64 ≡ 2 ^ thread = ap (λ n. n % 2 ^ 64) once ∙ mod-eq_of_lt (pow-lt {i = thread} {j = 64} (omega arith)) in
    let P = λ (bit : ℕ). AddsWaiter word (bit_or word bit) thread in
    subst P same (set_waiter word thread (omega arith))

pub or_waits : OrWaits
or_waits word thread within = or_enters word thread within thread ∙ or_right (waits_in word thread) (thread == thread) (eq-eqb thread thread refl)

pub or_leaves_others : OrLeavesOthers
or_leaves_others word thread other within apart = or_enters word thread within other ∙ ap (λ b. waits_in word other || b) (ne_eqb other thread apart) ∙ sym (or_false (waits_in word other))

pub waits_read : (word thread : ℕ) → nat_eq (bit_and (word / 2 ^ thread) 1) 1 ≡ waits_in word thread
unfolding waits_in
waits_read word thread = ap (λ b. nat_eq b 1) (shr_and_one word thread)

pub nobody_in_zero : (k : ℕ) → waits_in 0 k ≡ false
unfolding waits_in
nobody_in_zero k = ap (λ b. b == 1) (bit_at-zero k)

pub same_from_waiters : (a b : ℕ) → ((k : ℕ) → waits_in a k ≡ waits_in b k) → a ≡ b
unfolding waits_in
same_from_waiters a b same = same_from_bits a b (λ i. same_bit (bit_at a i) (bit_at b i) (bit_at-lt a i) (bit_at-lt b i) (same i))
