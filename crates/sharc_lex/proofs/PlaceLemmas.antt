-- The file and the line in which an offset lies: within a line, after a line of text, and after a line marker.
use Rattle.sharc_lex.proofs.{Imports.{◌≡◌, ℕ, zero, suc, ◌+◌, ◌-◌, ◌<◌, ◌≤◌, ◌==◌, Bool, false, codes, List, length, get_or, take, drop, slice_index, Some, sym, ap, ◌∙◌, subst, inl, inr, arith, length-drop, get_or-drop, cases_lt, eq-eqb, false≢true, count_by_more_no, count_by_more_yes, fails_before_first, count_by, line_at, BeginsLine, newlines, marker_of, NoMarker, StandsIn, is_marker_line}, CoverLemmas.{line_length, end_inside, newline}}

abbrev is_newline : ℕ → Bool
is_newline b = b == 10

module _ (source : List ℕ) where
  -- the byte at an offset, among the bytes from an earlier one on
  byte_behind : (low k : ℕ) → low ≤ k → get_or (drop low source) (k - low) 0 ≡ slice_index source k
  byte_behind low k le = let same : low + (k - low) ≡ k = omega arith in get_or-drop low source (k - low) 0 ∙ ap (slice_index source) same

  newlines_none : (low : ℕ) → newlines source low low ≡ 0
  newlines_none low = let none : low - low ≡ 0 = omega arith in ap (λ n. count_by is_newline (take n (drop low source))) none

  newlines_other : (low k : ℕ) → low ≤ k → k < length source → (slice_index source k == 10) ≡ false → newlines source low (k + 1) ≡ newlines source low k
  newlines_other low k le lt other =
      let same : k + 1 - low ≡ k - low + 1 = omega arith in
      ap (λ n. count_by is_newline (take n (drop low source))) same
      ∙ count_by_more_no is_newline (drop low source) (k - low) 0 (omega (arith, length-drop low source)) (ap is_newline (byte_behind low k le) ∙ other)

  newlines_one : (low k : ℕ) → low ≤ k → k < length source → slice_index source k ≡ 10 → newlines source low (k + 1) ≡ newlines source low k + 1
  newlines_one low k le lt same_byte =
      let same : k + 1 - low ≡ k - low + 1 = omega arith in
      ap (λ n. count_by is_newline (take n (drop low source))) same
      ∙ count_by_more_yes is_newline (drop low source) (k - low) 0 (omega (arith, length-drop low source)) (ap is_newline (byte_behind low k le ∙ same_byte))

  -- no byte of a line is a newline
  in_line : (at j : ℕ) → at ≤ length source → at ≤ j → j < at + length (line_at source at) → (slice_index source j == 10) ≡ false
  in_line at j inside from until =
      let len = line_length source at inside in
      ap is_newline (sym (byte_behind at j from)) ∙ fails_before_first is_newline (drop at source) (j - at) 0 (omega arith)

  newlines_along : (low at d : ℕ) → low ≤ at → at ≤ length source → d ≤ length (line_at source at) → newlines source low (at + d) ≡ newlines source low at
  newlines_along low at zero le inside d_le = let same : at + 0 ≡ at = omega arith in ap (newlines source low) same
  newlines_along low at (suc d) le inside d_le =
      let same : at + suc d ≡ at + d + 1 = omega arith in
      let end = end_inside source at inside in
      ap (newlines source low) same
      ∙ newlines_other low (at + d) (omega arith) (omega arith) (in_line at (at + d) inside (omega arith) (omega arith))
      ∙ newlines_along low at d le inside (omega arith)

  newlines_within : (low at k : ℕ) → low ≤ at → at ≤ length source → at ≤ k → k ≤ at + length (line_at source at) → newlines source low k ≡ newlines source low at
  newlines_within low at k le inside from until = let same : k ≡ at + (k - at) = omega arith in ap (newlines source low) same ∙ newlines_along low at (k - at) le inside (omega arith)

  -- no line begins inside another
  no_line_inside : (at s : ℕ) → at ≤ length source → BeginsLine source s → at < s → s ≤ at + length (line_at source at) → ⊥
  no_line_inside at s inside (inl first) from until = absurd (omega arith)
  no_line_inside at s inside (inr behind) from until = false≢true (sym (in_line at (s - 1) inside (omega arith) (omega arith)) ∙ eq-eqb (slice_index source (s - 1)) 10 behind)

  -- a line that begins before another ends before it
  ends_before : (s at : ℕ) → at ≤ length source → BeginsLine source at → s < at → s + length (line_at source s) < at
  ends_before s at inside (inl first) before = absurd (omega arith)
  ends_before s at inside (inr behind) before = elim (cases_lt (s + length (line_at source s)) at) [
    | inl lt ↦ lt
    | inr ge ↦ absurd (false≢true (sym (in_line s (at - 1) (omega arith) (omega arith) (omega arith)) ∙ eq-eqb (slice_index source (at - 1)) 10 behind))
  ]

  module _ (at : ℕ) (inside : at ≤ length source) (begins : BeginsLine source at) where
    abbrev end : ℕ
    end = at + length (line_at source at)

    no_marker_further : (start k : ℕ) → at ≤ k → k ≤ end + 1 → (end < k → start ≤ at → is_marker_line (line_at source at) ≡ false) → NoMarker source start at → NoMarker source start k
    no_marker_further start k from until this none = λ s behind begins_s ends. elim (cases_lt s at) [
      | inl before ↦ none s behind begins_s (ends_before s at inside begins before)
      | inr not_before ↦ elim (cases_lt at s) [
        | inl after ↦ absurd (no_line_inside at s inside begins_s after (omega arith))
        | inr not_after ↦
            let same : at ≡ s = omega arith in
            subst (λ x. x + length (line_at source x) < k → start ≤ x → is_marker_line (line_at source x) ≡ false) same this ends behind
      ]
    ]

    -- what lies where a line begins lies in the whole line
    pub stands_within : (k : ℕ) (file : List ℕ) (line : ℕ) → at ≤ k → k ≤ end → StandsIn source at file line → StandsIn source k file line
    stands_within k file line from until (inl u) = inl (record {
      none = no_marker_further 0 k from (omega arith) (λ past _. absurd (omega arith)) u.none;
      opening = u.opening;
      counted = let same = newlines_within 0 at k (omega arith) inside from until in omega (arith, u.counted);
    })
    stands_within k file line from until (inr m) = inr (record {
      start = m.start;
      number = m.number;
      begins = m.begins;
      ends = omega (arith, m.ends);
      gives = m.gives;
      last = no_marker_further (m.start + 1) k from (omega arith) (λ past _. absurd (omega arith)) m.last;
      counted = let same = newlines_within (m.start + length (line_at source m.start) + 1) at k (omega (arith, m.ends)) inside from until in omega (arith, m.counted);
    })

    newlines_next : (low : ℕ) → low ≤ at → end < length source → newlines source low (end + 1) ≡ newlines source low at + 1
    newlines_next low le more =
        newlines_one low end (omega arith) more (newline source at inside more) ∙ ap (λ n. n + 1) (newlines_within low at end le inside (omega arith) (omega arith))

    -- the line after a line of text has the next number
    pub stands_behind_text : (file : List ℕ) (line : ℕ) → end < length source → is_marker_line (line_at source at) ≡ false → StandsIn source at file line → StandsIn source (end + 1) file (line + 1)
    stands_behind_text file line more text (inl u) = inl (record {
      none = no_marker_further 0 (end + 1) (omega arith) (omega arith) (λ _ _. text) u.none;
      opening = u.opening;
      counted = let next = newlines_next 0 (omega arith) more in omega (arith, u.counted);
    })
    stands_behind_text file line more text (inr m) = inr (record {
      start = m.start;
      number = m.number;
      begins = m.begins;
      ends = omega (arith, m.ends);
      gives = m.gives;
      last = no_marker_further (m.start + 1) (end + 1) (omega arith) (omega arith) (λ _ _. text) m.last;
      counted = let next = newlines_next (m.start + length (line_at source m.start) + 1) (omega (arith, m.ends)) more in omega (arith, m.counted);
    })

    -- the line after a line marker has the number and the file that it gives
    pub stands_behind_marker : (file : List ℕ) (line : ℕ) → end < length source → marker_of (line_at source at) ≡ Some (line, file) → StandsIn source (end + 1) file line
    stands_behind_marker file line more gives = inr (record {
      start = at;
      number = line;
      begins = begins;
      ends = omega arith;
      gives = gives;
      last = λ s behind begins_s ends. absurd (no_line_inside at s inside begins_s (omega arith) (omega arith));
      counted = omega (arith, newlines_none (end + 1));
    })

-- before the first byte there is no line
pub stands_first : (source : List ℕ) (file : List ℕ) → file ≡ codes "input" → StandsIn source 0 file 1
stands_first source file opening = inl (record {
  none = λ s behind begins ends. absurd (omega arith);
  opening = opening;
  counted = omega (arith, newlines_none source 0);
})
