-- What setting and clearing bits makes of the sets of a shadow word.
use Rattle.sharc_heap.proofs.{Imports.{◌≡◌, ℕ, ◌+◌, ◌-◌, ◌*◌, ◌/◌, ◌^◌, ◌%◌, ◌<◌, ◌≤◌, ◌==◌, ◌||◌, ◌&&◌, true, false, not, bit_or, refl, sym, ap, ◌∙◌, inl, inr, arith, Option, subst, div-eq_of_lt, mul-div_cancel, mod-eq_of_lt, pow-lt, bit_at-zero, bit_at-lt, bit_at_or, bit_at-pow_same, bit_at-pow_other, bit_at_cat_low, same_from_bits, cases_eq, cases_lt, eq-eqb, ne_eqb, lt-ltb, le-ltb, or_right, bit_at, Kind, Read, Write, is_written, stands, epoch_of, is_of, HasBits, AddsAccess, Clears, Withdraws, WordIsItsSets, IsBlank, cleared_of, or_false, and_false, and_true, same_bit}, OneBit.{max_test, bit_at_shifted, IsWithout}}

-- ---- the sets by their bits
pub stands_below : (word k : ℕ) → k < 31 → stands word k ≡ (bit_at word (1 + k) == 1)
unfolding stands
stands_below word k below = ap (λ b. b && (bit_at word (1 + k) == 1)) (lt-ltb k 31 below)

pub stands_above : (word k : ℕ) → 31 ≤ k → stands word k ≡ false
unfolding stands
stands_above word k above = ap (λ b. b && (bit_at word (1 + k) == 1)) (le-ltb k 31 above)

pub written_is : (word : ℕ) → is_written word ≡ (bit_at word 0 == 1)
unfolding is_written
written_is word = refl

pub epoch_is : (word : ℕ) → epoch_of word ≡ word / 2 ^ 32
unfolding epoch_of
epoch_is word = refl

-- two words with the same bits of threads
stands_by_bits : (old new : ℕ) → ((k : ℕ) → k < 31 → bit_at new (1 + k) ≡ bit_at old (1 + k)) → (k : ℕ) → stands new k ≡ stands old k
stands_by_bits old new same k =
    elim (cases_lt k 31) [
      | inl below ↦ stands_below new k below ∙ ap (λ b. b == 1) (same k below) ∙ sym (stands_below old k below)
      | inr above ↦ stands_above new k above ∙ sym (stands_above old k above)
    ]

-- two words with the same bits from 32 on
epoch_by_bits : (old new : ℕ) → ((i : ℕ) → 32 ≤ i → bit_at new i ≡ bit_at old i) → epoch_of new ≡ epoch_of old
unfolding epoch_of
epoch_by_bits old new same =
    same_from_bits (new / 2 ^ 32) (old / 2 ^ 32) (λ i. bit_at_shifted new 32 i ∙ same (32 + i) (omega arith) ∙ sym (bit_at_shifted old 32 i))

pub word_is_its_sets : WordIsItsSets
word_is_its_sets a b threads written epoch =
    same_from_bits a b (λ i. elim (cases_lt i 32) [
      | inr high ↦
          let at : 32 + (i - 32) ≡ i = omega arith in
          let high_bit : bit_at a (32 + (i - 32)) ≡ bit_at b (32 + (i - 32)) = sym (bit_at_shifted a 32 (i - 32)) ∙ ap (λ e. bit_at e (i - 32)) (sym (epoch_is a) ∙ epoch ∙ epoch_is b) ∙ bit_at_shifted b 32 (i - 32) in
          rw at at high_bit
      | inl low ↦ elim (cases_eq i 0) [
        | inl zeroth ↦ rw zeroth (same_bit (bit_at a 0) (bit_at b 0) (bit_at-lt a 0) (bit_at-lt b 0) (sym (written_is a) ∙ written ∙ written_is b))
        | inr later ↦
            let at : 1 + (i - 1) ≡ i = omega arith in
            let within : i - 1 < 31 = omega arith in
            let bit : bit_at a (1 + (i - 1)) ≡ bit_at b (1 + (i - 1)) = same_bit (bit_at a (1 + (i - 1))) (bit_at b (1 + (i - 1))) (bit_at-lt a (1 + (i - 1))) (bit_at-lt b (1 + (i - 1))) (sym (stands_below a (i - 1) within) ∙ threads (i - 1) ∙ stands_below b (i - 1) within) in
            rw at at bit
      ]
    ])

pub blank : IsBlank 0
unfolding is_written epoch_of
blank = record {
  threads = λ k. elim (cases_lt k 31) [ inl below ↦ stands_below 0 k below ∙ ap (λ b. b == 1) (bit_at-zero (1 + k)) | inr above ↦ stands_above 0 k above ];
  written = refl;
  epoch = refl;
}

-- ---- what an Or adds
stands_or : (a b k : ℕ) → stands (bit_or a b) k ≡ (stands a k || stands b k)
stands_or a b k =
    elim (cases_lt k 31) [
      | inl below ↦
          stands_below (bit_or a b) k below ∙ ap (λ x. x == 1) (bit_at_or a b (1 + k)) ∙ max_test (bit_at a (1 + k)) (bit_at b (1 + k)) (bit_at-lt a (1 + k)) (bit_at-lt b (1 + k))
          ∙ ap (λ x. x || (bit_at b (1 + k) == 1)) (sym (stands_below a k below)) ∙ ap (λ x. stands a k || x) (sym (stands_below b k below))
      | inr above ↦ stands_above (bit_or a b) k above ∙ ap (λ x. x || false) (sym (stands_above a k above)) ∙ ap (λ x. stands a k || x) (sym (stands_above b k above))
    ]

written_or : (a b : ℕ) → is_written (bit_or a b) ≡ (is_written a || is_written b)
unfolding is_written
written_or a b = ap (λ x. x == 1) (bit_at_or a b 0) ∙ max_test (bit_at a 0) (bit_at b 0) (bit_at-lt a 0) (bit_at-lt b 0)

-- the epoch stays where only low bits are set
epoch_or : (a b : ℕ) → epoch_of b ≡ 0 → epoch_of (bit_or a b) ≡ epoch_of a
epoch_or a b low = epoch_by_bits a (bit_or a b) (λ i high.
    let at : 32 + (i - 32) ≡ i = omega arith in
    let none : bit_at b (32 + (i - 32)) ≡ 0 = sym (bit_at_shifted b 32 (i - 32)) ∙ ap (λ e. bit_at e (i - 32)) (sym (epoch_is b) ∙ low) ∙ bit_at-zero (i - 32) in
    let none_at : bit_at b i ≡ 0 = rw at at none in
    let both = bit_at_or a b i in
    omega (arith, bit_at-lt a i))

pub adds_access : (old bits thread : ℕ) (kind : Kind) → HasBits bits thread kind → AddsAccess old (bit_or old bits) thread kind
adds_access old bits thread kind has = record {
  threads = λ k. stands_or old bits k ∙ ap (λ x. stands old k || x) (has.threads k);
  written = written_or old bits ∙ ap (λ x. is_written old || x) has.written;
  epoch = epoch_or old bits has.epoch;
}

-- the bit of a thread alone
pub thread_bit : (thread : ℕ) → thread < 31 → HasBits (2 ^ (1 + thread)) thread Read
unfolding is_written epoch_of
thread_bit thread within = record {
  threads = λ k. elim (cases_lt k 31) [
    | inl below ↦ stands_below (2 ^ (1 + thread)) k below ∙ elim (cases_eq k thread) [
      | inl same ↦ rw same (ap (λ x. x == 1) (bit_at-pow_same (1 + thread)) ∙ sym (eq-eqb thread thread refl))
      | inr other ↦ ap (λ x. x == 1) (bit_at-pow_other (1 + thread) (1 + k) (λ e. other (omega arith))) ∙ sym (ne_eqb k thread other)
    ]
    | inr above ↦ stands_above (2 ^ (1 + thread)) k above ∙ sym (ne_eqb k thread (λ e. absurd (omega arith)))
  ];
  written = ap (λ x. x == 1) (bit_at-pow_other (1 + thread) 0 (λ e. absurd (omega arith)));
  epoch = div-eq_of_lt (pow-lt {i = 1 + thread} {j = 32} (omega arith));
}

-- the written bit alone
one_threads : (k : ℕ) → stands 1 k ≡ false
one_threads k =
    elim (cases_lt k 31) [
      | inl below ↦ stands_below 1 k below ∙ ap (λ x. x == 1) (bit_at-pow_other 0 (1 + k) (λ e. absurd (omega arith)))
      | inr above ↦ stands_above 1 k above
    ]

one_written : is_written 1 ≡ true
unfolding is_written
one_written = refl

one_epoch : epoch_of 1 ≡ 0
unfolding epoch_of
one_epoch = refl

pub write_bits : (bits thread : ℕ) → HasBits bits thread Read → HasBits (bit_or bits 1) thread Write
write_bits bits thread has = record {
  threads = λ k. stands_or bits 1 k ∙ ap (λ x. stands bits k || x) (one_threads k) ∙ or_false (stands bits k) ∙ has.threads k;
  written = written_or bits 1 ∙ or_right (is_written bits) (is_written 1) one_written;
  epoch = epoch_or bits 1 one_epoch ∙ has.epoch;
}

-- ---- what clearing a bit takes away
pub without_thread : (old new thread : ℕ) → thread < 31 → IsWithout (1 + thread) old new → (k : ℕ) → stands new k ≡ (stands old k && not (k == thread))
without_thread old new thread within is k =
    elim (cases_eq k thread) [
      | inl same ↦ rw same (stands_below new thread within ∙ ap (λ x. x == 1) is.gone ∙ sym (ap (λ x. stands old thread && not x) (eq-eqb thread thread refl) ∙ and_false (stands old thread)))
      | inr other ↦ elim (cases_lt k 31) [
        | inl below ↦ stands_below new k below ∙ ap (λ x. x == 1) (is.others (1 + k) (λ e. other (omega arith))) ∙ sym (stands_below old k below) ∙ sym (ap (λ x. stands old k && not x) (ne_eqb k thread other) ∙ and_true (stands old k))
        | inr above ↦ stands_above new k above ∙ sym (ap (λ x. x && not (k == thread)) (stands_above old k above))
      ]
    ]

pub without_thread_written : (old new thread : ℕ) → IsWithout (1 + thread) old new → is_written new ≡ is_written old
unfolding is_written
without_thread_written old new thread is = ap (λ x. x == 1) (is.others 0 (λ e. absurd (omega arith)))

pub without_low_epoch : (old new k : ℕ) → k < 32 → IsWithout k old new → epoch_of new ≡ epoch_of old
without_low_epoch old new k low is = epoch_by_bits old new (λ i high. is.others i (λ e. absurd (omega arith)))

without_written_threads : (old new k : ℕ) → IsWithout 0 old new → stands new k ≡ stands old k
without_written_threads old new k is = stands_by_bits old new (λ j below. is.others (1 + j) (λ e. absurd (omega arith))) k

without_written : (old new : ℕ) → IsWithout 0 old new → is_written new ≡ false
unfolding is_written
without_written old new is = ap (λ x. x == 1) is.gone

-- a thread that did not write in this epoch leaves its bit alone
pub withdraws_reader : (old new thread : ℕ) (wrote : Option ℕ) → thread < 31 → is_of wrote (epoch_of old) ≡ false → IsWithout (1 + thread) old new → Withdraws old new thread wrote
withdraws_reader old new thread wrote within never is = record {
  threads = without_thread old new thread within is;
  written = without_thread_written old new thread is ∙ sym (ap (λ x. is_written old && not x) never ∙ and_true (is_written old));
  epoch = without_low_epoch old new (1 + thread) (omega arith) is;
}

-- one that did takes the written bit with it
pub withdraws_writer : (old left new thread : ℕ) (wrote : Option ℕ) → thread < 31 → is_of wrote (epoch_of old) ≡ true → IsWithout (1 + thread) old left → IsWithout 0 left new → Withdraws old new thread wrote
withdraws_writer old left new thread wrote within did is last = record {
  threads = λ k. without_written_threads left new k last ∙ without_thread old left thread within is k;
  written = without_written left new last ∙ sym (ap (λ x. is_written old && not x) did ∙ and_false (is_written old));
  epoch = without_low_epoch left new 0 (omega arith) last ∙ without_low_epoch old left (1 + thread) (omega arith) is;
}

-- ---- a word with an epoch alone
low_bit : (epoch i : ℕ) → i < 32 → bit_at (epoch * 2 ^ 32) i ≡ 0
low_bit epoch i low =
    let plain : epoch * 2 ^ 32 + 0 ≡ epoch * 2 ^ 32 = omega arith in
    ap (λ n. bit_at n i) (sym plain) ∙ bit_at_cat_low epoch 32 0 i low ∙ bit_at-zero i

pub clears : (old epoch : ℕ) → epoch ≡ (epoch_of old + 1) % 2 ^ 32 → Clears old (epoch * 2 ^ 32)
unfolding is_written
clears old epoch is = record {
  threads = λ k. elim (cases_lt k 31) [
    | inl below ↦ stands_below (epoch * 2 ^ 32) k below ∙ ap (λ x. x == 1) (low_bit epoch (1 + k) (omega arith))
    | inr above ↦ stands_above (epoch * 2 ^ 32) k above
  ];
  written = ap (λ x. x == 1) (low_bit epoch 0 (omega arith));
  epoch = epoch_is (epoch * 2 ^ 32) ∙ mul-div_cancel epoch {n = 2 ^ 32} (omega arith) ∙ is;
}

-- the same, as the code computes it
pub clears_shifted : (old epoch now : ℕ) → now ≡ epoch_of old → epoch ≡ (now + 1) % 2 ^ 32 → Clears old (epoch * 2 ^ 32 % 2 ^ 64)
clears_shifted old epoch now is next =
    let small : epoch < 2 ^ 32 = omega arith in
    let fits : epoch * 2 ^ 32 < 2 ^ 64 = omega arith in
    let P : ℕ → Type 0 = λ w. Clears old w in
    subst P (sym (mod-eq_of_lt fits)) (clears old epoch (next ∙ ap (λ e. (e + 1) % 2 ^ 32) is))

pub cleared_shifted : (old epoch now : ℕ) → now ≡ epoch_of old → epoch ≡ (now + 1) % 2 ^ 32 → epoch * 2 ^ 32 % 2 ^ 64 ≡ cleared_of old
unfolding cleared_of
cleared_shifted old epoch now is next =
    let small : epoch < 2 ^ 32 = omega arith in
    let fits : epoch * 2 ^ 32 < 2 ^ 64 = omega arith in
    mod-eq_of_lt fits ∙ ap (λ e. e * 2 ^ 32) (next ∙ ap (λ e. (e + 1) % 2 ^ 32) is)

pub read_bits_at : (bits thread : ℕ) (kind : Kind) → thread < 31 → bits ≡ 2 ^ (1 + thread) → kind ≡ Read → HasBits bits thread kind
read_bits_at bits thread kind within is reads = rw (is, reads) (thread_bit thread within)

pub write_bits_at : (bits thread : ℕ) (kind : Kind) → thread < 31 → bits ≡ 2 ^ (1 + thread) → kind ≡ Write → HasBits (bit_or bits 1) thread kind
write_bits_at bits thread kind within is writes = rw writes (write_bits bits thread (rw is (thread_bit thread within)))
