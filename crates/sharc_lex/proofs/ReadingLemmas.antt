-- The lines of a source, one at a time.
use Rattle.sharc_lex.proofs.{Imports.{◌≡◌, ℕ, suc, ◌+◌, ◌-◌, ◌<◌, ◌≤◌, ◌==◌, Bool, true, false, not, cond, leb, List, [], ◌∷◌, length, take, drop, Result, Ok, Err, sym, refl, ap, ◌∙◌, subst, inl, inr, arith, one-add, length-drop, length-take-le, cases_Bool, le-leb, lt-leb, leb-true, leb-false, drop-drop, take_all, position_or_len, FaultAt, TokenFault, Refuses, LexFault, lines_of, in_front, Read, line_read, with_place, lines_read, opening, tokens_read, reading, IsWithin, ◌>>=◌}, WithinLemmas.within_line}

-- the lines from an offset on
abbrev pub lines_from : ℕ → List ℕ → List (List ℕ)
lines_from at source = cond (leb at (length source)) (lines_of (drop at source)) []

abbrev pub len_of : List ℕ → ℕ
len_of bytes = position_or_len (λ b. b == 10) bytes

leb_suc : (n m : ℕ) → leb (suc n) (suc m) ≡ leb n m
leb_suc n m = elim (cases_Bool (leb n m)) [
  | inl h ↦ let le = leb-true n m h in le-leb (suc n) (suc m) (omega arith) ∙ sym h
  | inr h ↦ let lt = leb-false n m h in lt-leb (suc n) (suc m) (omega arith) ∙ sym h
]

first_step : (b : ℕ) (bytes : List ℕ) (t : Bool) → lines_of bytes ≡ take (len_of bytes) bytes ∷ lines_from (len_of bytes + 1) bytes → cond t ([] ∷ lines_of bytes) (in_front b (lines_of bytes)) ≡ take (cond (not t) (1 + len_of bytes) 0) (b ∷ bytes) ∷ lines_from (cond (not t) (1 + len_of bytes) 0 + 1) (b ∷ bytes)
first_step b bytes true rest = ap (λ t. [] ∷ cond t (lines_of bytes) []) (sym (le-leb 1 (length (b ∷ bytes)) (omega arith)))
first_step b bytes false rest =
    let n = len_of bytes in
    let same : 1 + n + 1 ≡ suc (n + 1) = omega arith in
    ap (in_front b) rest ∙ rw (same, one-add) (rw leb_suc refl)

-- the first line, and those after it
pub lines_of-first : (bytes : List ℕ) → lines_of bytes ≡ take (len_of bytes) bytes ∷ lines_from (len_of bytes + 1) bytes
lines_of-first [] = refl
lines_of-first (b ∷ bytes) = first_step b bytes (b == 10) (lines_of-first bytes)

leb_behind : (at n m : ℕ) → at ≤ m → leb n (m - at) ≡ leb (at + n) m
leb_behind at n m inside = elim (cases_Bool (leb n (m - at))) [
  | inl h ↦ let le = leb-true n (m - at) h in h ∙ sym (le-leb (at + n) m (omega arith))
  | inr h ↦ let lt = leb-false n (m - at) h in h ∙ sym (lt-leb (at + n) m (omega arith))
]

lines_from-behind : (at n : ℕ) (source : List ℕ) → at ≤ length source → lines_from n (drop at source) ≡ lines_from (at + n) source
lines_from-behind at n source inside =
    ap (λ l. cond (leb n l) (lines_of (drop n (drop at source))) []) (length-drop at source)
    ∙ ap (λ t. cond t (lines_of (drop n (drop at source))) []) (leb_behind at n (length source) inside)
    ∙ ap (λ l. cond (leb (at + n) (length source)) (lines_of l) []) (drop-drop _ _ source)

-- the next line, and those after it
pub lines_from-first : (at : ℕ) (source : List ℕ) → at ≤ length source → lines_from at source ≡ take (len_of (drop at source)) (drop at source) ∷ lines_from (at + (len_of (drop at source) + 1)) source
lines_from-first at source inside =
    ap (λ t. cond t (lines_of (drop at source)) []) (le-leb at (length source) inside)
    ∙ lines_of-first (drop at source)
    ∙ ap (λ l. take (len_of (drop at source)) (drop at source) ∷ l) (lines_from-behind at (len_of (drop at source) + 1) source inside)

pub lines_from-end : (at : ℕ) (source : List ℕ) → length source < at → lines_from at source ≡ []
lines_from-end at source outside = ap (λ t. cond t (lines_of (drop at source)) []) (lt-leb at (length source) outside)

-- a line that is read goes in front of the others, and a fault ends them
pub lines_read-read : (read more : Read) (offset : ℕ) (line : List ℕ) (lines : List (List ℕ)) → with_place read (line_read read offset line) ≡ Ok more → lines_read read offset (line ∷ lines) ≡ lines_read more (offset + length line + 1) lines
lines_read-read read more offset line lines e = ap (λ r. r >>= λ more. lines_read more (offset + length line + 1) lines) e

pub lines_read-fault : (read : Read) (fault : FaultAt TokenFault) (offset : ℕ) (line : List ℕ) (lines : List (List ℕ)) → with_place read (line_read read offset line) ≡ Err fault → lines_read read offset (line ∷ lines) ≡ Err fault
lines_read-fault read fault offset line lines e = ap (λ r. r >>= λ more. lines_read more (offset + length line + 1) lines) e

pub reading-read : (source : List ℕ) (read : Read) → lines_read opening 0 (lines_of source) ≡ Ok read → reading source ≡ Ok (tokens_read read)
unfolding reading
reading-read source read e = ap (λ r. r >>= λ read. Ok (tokens_read read)) e

pub reading-fault : (source : List ℕ) (fault : FaultAt TokenFault) → lines_read opening 0 (lines_of source) ≡ Err fault → reading source ≡ Err fault
unfolding reading
reading-fault source fault e = ap (λ r. r >>= λ read. Ok (tokens_read read)) e

-- what a line is refused for is what the source is refused for
pub reading-refused : (source : List ℕ) (read : Read) (at : ℕ) (line : List ℕ) (lines : List (List ℕ)) (refused : LexFault) → lines_read read at (line ∷ lines) ≡ lines_read opening 0 (lines_of source) → Refuses refused (with_place read (line_read read at line)) → Refuses refused (reading source)
reading-refused source read at line lines (LexFault.At fault) all refused = reading-fault source fault (sym all ∙ lines_read-fault read fault at line lines refused)
reading-refused source read at line lines LexFault.Memory all refused = tt

-- the bytes from an offset on, as a slice has them
pub tail_is : (source : List ℕ) (at : ℕ) → take (length source - at) (drop at source) ≡ drop at source
tail_is source at = take_all (length source - at) (drop at source) (let len = length-drop at source in omega arith)

module _ (source rest : List ℕ) (at len : ℕ) (inside : at ≤ length source) (rest_is : rest ≡ drop at source) (len_is : len ≡ len_of rest) where
  next_lines : lines_from at source ≡ take len rest ∷ lines_from (at + (len + 1)) source
  next_lines =
      lines_from-first at source inside
      ∙ ap (λ r. take (len_of r) r ∷ lines_from (at + (len_of r + 1)) source) (sym rest_is)
      ∙ ap (λ n. take n rest ∷ lines_from (at + (n + 1)) source) (sym len_is)

  pub step_read : (read more : Read) (all : Result Read (FaultAt TokenFault)) → len ≤ length rest → with_place read (line_read read at (take len rest)) ≡ Ok more → lines_read read at (lines_from at source) ≡ all → lines_read more (at + (len + 1)) (lines_from (at + (len + 1)) source) ≡ all
  step_read read more all within e before =
      let line_len : length (take len rest) ≡ len = length-take-le len rest within in
      let behind : at + length (take len rest) + 1 ≡ at + (len + 1) = omega arith in
      ap (λ o. lines_read more o (lines_from (at + (len + 1)) source)) (sym behind)
      ∙ sym (lines_read-read read more at (take len rest) (lines_from (at + (len + 1)) source) e)
      ∙ ap (lines_read read at) (sym next_lines)
      ∙ before

  pub step_within : (read more : Read) → len ≤ length rest → with_place read (line_read read at (take len rest)) ≡ Ok more → IsWithin at read → IsWithin (at + (len + 1)) more
  step_within read more within e before =
      let line_len : length (take len rest) ≡ len = length-take-le len rest within in
      let behind : at + length (take len rest) + 1 ≡ at + (len + 1) = omega arith in
      subst (λ o. IsWithin o more) behind (within_line at read more (take len rest) before e)

  pub step_bound : len ≤ length rest → at + (len + 1) ≤ length source + 1
  step_bound within = let rest_len : length rest ≡ length source - at = ap length rest_is ∙ length-drop at source in omega arith

  pub step_refused : (read : Read) (refused : LexFault) → Refuses refused (with_place read (line_read read at (take len rest))) → lines_read read at (lines_from at source) ≡ lines_read opening 0 (lines_of source) → Refuses refused (reading source)
  step_refused read refused e before = reading-refused source read at (take len rest) (lines_from (at + (len + 1)) source) refused (ap (lines_read read at) (sym next_lines) ∙ before) e
