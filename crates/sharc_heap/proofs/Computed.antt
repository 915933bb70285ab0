-- The functions meet the relations.
use Rattle.sharc_heap.proofs.{Imports.{◌≡◌, ℕ, ◌+◌, ◌^◌, ◌%◌, ◌==◌, ◌||◌, ◌&&◌, true, false, not, bit_and, refl, sym, ap, ◌∙◌, subst, inl, inr, arith, Option, cases_Bool, eq-eqb, ne_eqb, or_right, Read, Write, stands, is_of, epoch_of, Withdraws, bits_of, cleared_of, withdrawn_of, all_but, BitsAreOfAccess, OrAddsAccess, OrLeavesOthers, OrSetsOwnBit, WithdrawnWithdraws, WithdrawnLeavesOthers, ClearedClears, or_false, and_true}, OneBit.{without_bit, and_fits}, Sets.{thread_bit, write_bits, adds_access, withdraws_reader, withdraws_writer, clears}}

pub bits_are_of_access : BitsAreOfAccess
unfolding bits_of
bits_are_of_access thread Read within = thread_bit thread within
bits_are_of_access thread Write within = write_bits (2 ^ (1 + thread)) thread (thread_bit thread within)

pub or_adds_access : OrAddsAccess
or_adds_access old thread kind within = adds_access old (bits_of thread kind) thread kind (bits_are_of_access thread kind within)

pub or_leaves_others : OrLeavesOthers
or_leaves_others old thread other kind within apart =
    (or_adds_access old thread kind within).threads other ∙ ap (λ x. stands old other || x) (ne_eqb other thread apart) ∙ or_false (stands old other)

pub or_sets_own_bit : OrSetsOwnBit
or_sets_own_bit old thread kind within =
    (or_adds_access old thread kind within).threads thread ∙ or_right (stands old thread) (thread == thread) (eq-eqb thread thread refl)

pub cleared_clears : ClearedClears
unfolding cleared_of
cleared_clears old = clears old ((epoch_of old + 1) % 2 ^ 32) refl

pub withdrawn_writer : (old thread : ℕ) (wrote : Option ℕ) → is_of wrote (epoch_of old) ≡ true → withdrawn_of old thread wrote ≡ bit_and (bit_and old (all_but (1 + thread))) (all_but 0)
unfolding withdrawn_of
withdrawn_writer old thread wrote did = rw did

pub withdrawn_reader : (old thread : ℕ) (wrote : Option ℕ) → is_of wrote (epoch_of old) ≡ false → withdrawn_of old thread wrote ≡ bit_and old (all_but (1 + thread))
unfolding withdrawn_of
withdrawn_reader old thread wrote never = rw never

pub withdrawn_withdraws : WithdrawnWithdraws
withdrawn_withdraws old thread wrote fits within =
    let left = without_bit old (2 ^ (1 + thread)) (1 + thread) fits (omega arith) refl in
    let P = λ (new : ℕ). Withdraws old new thread wrote in
    elim (cases_Bool (is_of wrote (epoch_of old))) [
      | inl did ↦
          let both = without_bit (bit_and old (all_but (1 + thread))) 1 0 (and_fits old (all_but (1 + thread)) fits) (omega arith) refl in
          subst P (sym (withdrawn_writer old thread wrote did)) (withdraws_writer old (bit_and old (all_but (1 + thread))) (bit_and (bit_and old (all_but (1 + thread))) (all_but 0)) thread wrote within did left both)
      | inr never ↦ subst P (sym (withdrawn_reader old thread wrote never)) (withdraws_reader old (bit_and old (all_but (1 + thread))) thread wrote within never left)
    ]

pub withdrawn_leaves_others : WithdrawnLeavesOthers
withdrawn_leaves_others old thread other wrote fits within apart =
    (withdrawn_withdraws old thread wrote fits within).threads other ∙ ap (λ x. stands old other && not x) (ne_eqb other thread apart) ∙ and_true (stands old other)
