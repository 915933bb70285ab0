-- What the grammar reads are tokens in order, each the slice of its span, with white space and line markers alone between them.
use Rattle.sharc_lex.proofs.{Imports.{◌≡◌, ℕ, zero, suc, ◌+◌, ◌-◌, ◌<◌, ◌≤◌, ◌==◌, min, Bool, true, false, cond, List, [], ◌∷◌, ◌++◌, length, get_or, take, drop, slice_index, Result, Ok, Err, sym, refl, ap, ◌∙◌, subst, inl, inr, arith, add-zero, one-add, length-drop, length-take-le, get_or-drop, cases_lt, eqb-true, drop-drop, take-append-le, take-append-drop, All-nil, All-cons, All-append, All-weaker, prefix_len-le-length, passes_at_first, ok_or, not, All, prefix_len, position_or_len, Token, TokenFault, SourceLine, Lexeme, is_white_space, is_blank, with_file, Read, tokens_of, token, at_offset, behind_tokens, marker_line, text_line, line_read, marked, with_tokens, with_place, IsWithin, ◌>>=◌, IsLongest, IsBetween, IsSlice, Covers, line_at, BeginsLine, is_marker_line, marker, token_at}, LongestLemmas.token_longest, ReadingLemmas.{lines_from, lines_from-first, lines_from-end, len_of}, WithinLemmas.{chosen, bind_ok, ok_injective, with_file-length, with_place-ok, behind_tokens-ok}}

-- the bytes up to the first newline, and those after the first of them
abbrev line_of : List ℕ → List ℕ
line_of l = take (position_or_len (λ b. b == 10) l) l

tail_of_line : (l : List ℕ) (b : ℕ) (bytes : List ℕ) → b ∷ bytes ≡ line_of l → bytes ≡ line_of (drop 1 l)
tail_of_line [] b bytes e = cc
tail_of_line (x ∷ l) b bytes e = by_test (x == 10) e
  where
    by_test : (t : Bool) → b ∷ bytes ≡ take (cond (not t) (1 + position_or_len (λ b. b == 10) l) 0) (x ∷ l) → bytes ≡ line_of l
    by_test true e = cc
    by_test false e = let first : b ∷ bytes ≡ x ∷ line_of l = e ∙ rw one-add refl in cc

at_offset-ok : {A : Type 0} (offset : ℕ) (r : Result A TokenFault) (x : A) → at_offset offset r ≡ Ok x → r ≡ Ok x
at_offset-ok offset (Ok y) x e = cc
at_offset-ok offset (Err f) x e = cc

module _ (source : List ℕ) where
  pub empty : (low high : ℕ) → low ≡ high → IsBetween source low high
  empty low high same = record { ordered = omega arith; each = λ k from until. absurd (omega arith) }

  joined : (low mid high : ℕ) → IsBetween source low mid → IsBetween source mid high → IsBetween source low high
  joined low mid high front back = record {
    ordered = omega (arith, front.ordered, back.ordered);
    each = λ k from until. elim (cases_lt k mid) [ inl below ↦ front.each k from below | inr above ↦ back.each k above until ];
  }

  pub renumbered : (low high low' high' : ℕ) (ts : List Token) → low ≡ low' → high ≡ high' → Covers source low high ts → Covers source low' high' ts
  renumbered low high low' high' ts a b covers = subst (λ h. Covers source low' h ts) b (subst (λ l. Covers source l high ts) a covers)

  covers_behind : (low mid high : ℕ) (ts : List Token) → IsBetween source low mid → Covers source mid high ts → Covers source low high ts
  covers_behind low mid high [] front back = joined low mid high front back
  covers_behind low mid high (t ∷ ts) front back = (joined low mid t.from front back.0, back.1, back.2)

  covers_append : (low mid high : ℕ) (ts us : List Token) → Covers source low mid ts → Covers source mid high us → Covers source low high (ts ++ us)
  covers_append low mid high [] us front back = covers_behind low mid high us front back
  covers_append low mid high (t ∷ ts) us front back = (front.0, front.1, covers_append t.until mid high ts us front.2 back)

  covers_to_end : (low mid high : ℕ) (ts : List Token) → Covers source low mid ts → IsBetween source mid high → Covers source low high ts
  covers_to_end low mid high [] front back = joined low mid high front back
  covers_to_end low mid high (t ∷ ts) front back = (front.0, front.1, covers_to_end t.until mid high ts front.2 back)

  -- as many tokens as bytes at most
  pub covers_count : (low high : ℕ) (ts : List Token) → Covers source low high ts → low + length ts ≤ high
  covers_count low high [] covers = omega (arith, covers.ordered)
  covers_count low high (t ∷ ts) covers = let rest = covers_count t.until high ts covers.2 in omega (arith, covers.0.ordered, covers.1.some)

  first_byte : (offset b : ℕ) (bytes rest : List ℕ) → drop offset source ≡ (b ∷ bytes) ++ rest → slice_index source offset ≡ b
  first_byte offset b bytes rest at = ap (λ i. get_or source i 0) (sym (add-zero offset)) ∙ sym (get_or-drop offset source 0 0) ∙ ap (λ l. get_or l 0 0) at

  next_bytes : (offset b : ℕ) (bytes rest : List ℕ) → drop offset source ≡ (b ∷ bytes) ++ rest → drop (offset + 1) source ≡ bytes ++ rest
  next_bytes offset b bytes rest at = sym (drop-drop _ _ source) ∙ ap (drop 1) at

  white_byte : (offset : ℕ) → is_white_space (slice_index source offset) ≡ true → IsBetween source offset (offset + 1)
  white_byte offset white = record {
    ordered = omega arith;
    each = λ k from until. let same : offset ≡ k = omega arith in inl (subst (λ i. is_white_space (slice_index source i) ≡ true) same white);
  }

  next_line : (offset b : ℕ) (bytes : List ℕ) → b ∷ bytes ≡ line_at source offset → bytes ≡ line_at source (offset + 1)
  next_line offset b bytes line = tail_of_line (drop offset source) b bytes line ∙ ap line_of (drop-drop _ _ source)

  token_slice : (place : SourceLine) (offset : ℕ) (bytes rest : List ℕ) (found : Lexeme) → drop offset source ≡ bytes ++ rest → bytes ≡ line_at source offset → IsLongest bytes found → IsSlice source (token place offset bytes found)
  token_slice place offset bytes rest found at line longest =
      let len : offset + found.len - offset ≡ found.len = omega arith in
      let same_len : IsLongest bytes (record { len = offset + found.len - offset; kind = found.kind }) = subst (λ n. IsLongest bytes (record { len = n; kind = found.kind })) (sym len) longest in
      record {
        some = omega (arith, longest.lies.some);
        text = sym (ap (λ n. take n (drop offset source)) len ∙ ap (take found.len) at ∙ take-append-le found.len bytes rest longest.lies.within);
        longest = subst (λ l. IsLongest l (record { len = offset + found.len - offset; kind = found.kind })) line same_len;
      }

  covers_tokens : (place : SourceLine) (taken offset : ℕ) (bytes rest : List ℕ) (ts : List Token) → drop offset source ≡ bytes ++ rest → bytes ≡ line_at source offset → taken ≤ length bytes → tokens_of place taken offset bytes ≡ Ok ts → Covers source (offset + taken) (offset + length bytes) ts
  covers_tokens place taken offset [] rest ts at line inside e =
      let none : [] ≡ ts = ok_injective [] ts e in
      subst (Covers source (offset + taken) (offset + 0)) none (empty (offset + taken) (offset + 0) (omega arith))
  covers_tokens place (suc taken) offset (b ∷ bytes) rest ts at line inside e =
      renumbered (offset + 1 + taken) (offset + 1 + length bytes) (offset + suc taken) (offset + length (b ∷ bytes)) ts (omega arith) (omega arith)
      (covers_tokens place taken (offset + 1) bytes rest ts (next_bytes offset b bytes rest at) (next_line offset b bytes line) (omega arith) e)
  covers_tokens place zero offset (b ∷ bytes) rest ts at line inside e = elim (chosen (is_white_space b) _ _ _ e) [
    | inl h ↦
        let more = covers_tokens place 0 (offset + 1) bytes rest ts (next_bytes offset b bytes rest at) (next_line offset b bytes line) (omega arith) h.1 in
        let white : is_white_space (slice_index source offset) ≡ true = ap is_white_space (first_byte offset b bytes rest at) ∙ h.0 in
        renumbered offset (offset + 1 + length bytes) (offset + 0) (offset + length (b ∷ bytes)) ts (omega arith) (omega arith)
        (covers_behind offset (offset + 1) (offset + 1 + length bytes) ts (white_byte offset white) (renumbered (offset + 1 + 0) (offset + 1 + length bytes) (offset + 1) (offset + 1 + length bytes) ts (omega arith) refl more))
    | inr h ↦
        let one = bind_ok (at_offset offset (token_at b bytes)) (λ found. tokens_of place (found.len - 1) (offset + 1) bytes >>= λ tokens. Ok (token place offset (b ∷ bytes) found ∷ tokens)) ts h.1 in
        let two = bind_ok (tokens_of place (one.0.len - 1) (offset + 1) bytes) (λ tokens. Ok (token place offset (b ∷ bytes) one.0 ∷ tokens)) ts one.2 in
        let longest = token_longest b bytes one.0 (at_offset-ok offset (token_at b bytes) one.0 one.1) in
        let lies = longest.lies in
        let all : token place offset (b ∷ bytes) one.0 ∷ two.0 ≡ ts = ok_injective _ ts two.2 in
        let more = covers_tokens place (one.0.len - 1) (offset + 1) bytes rest two.0 (next_bytes offset b bytes rest at) (next_line offset b bytes line) (omega (arith, lies.within)) two.1 in
        let until : offset + 1 + (one.0.len - 1) ≡ offset + one.0.len = omega (arith, lies.some) in
        let high : offset + 1 + length bytes ≡ offset + length (b ∷ bytes) = omega arith in
        subst (Covers source (offset + 0) (offset + length (b ∷ bytes))) all (
          empty (offset + 0) offset (omega arith),
          token_slice place offset (b ∷ bytes) rest one.0 at line longest,
          renumbered (offset + 1 + (one.0.len - 1)) (offset + 1 + length bytes) (offset + one.0.len) (offset + length (b ∷ bytes)) two.0 until high more,
        )
  ]

-- the token is in the file and the line of a place, and begins at one of these offsets
pub record IsOnLine (place : SourceLine) (low high : ℕ) (t : Token) : Type 0 where
  pub from : low ≤ t.from
  pub until : t.from ≤ high
  pub file : t.file ≡ place.file
  pub line : t.line ≡ place.line

on_rest : (place : SourceLine) (offset high : ℕ) (t : Token) → IsOnLine place (offset + 1) high t → IsOnLine place offset high t
on_rest place offset high t on = record { from = omega (arith, on.from); until = on.until; file = on.file; line = on.line }

pub tokens_of-on_line : (place : SourceLine) (taken offset high : ℕ) (bytes : List ℕ) (ts : List Token) → offset + length bytes ≡ high → tokens_of place taken offset bytes ≡ Ok ts → All (IsOnLine place offset high) ts
tokens_of-on_line place taken offset high [] ts end e = let none : [] ≡ ts = ok_injective [] ts e in subst (All (IsOnLine place offset high)) none (All-nil (IsOnLine place offset high))
tokens_of-on_line place (suc taken) offset high (b ∷ bytes) ts end e = All-weaker (IsOnLine place (offset + 1) high) (IsOnLine place offset high) (on_rest place offset high) ts (tokens_of-on_line place taken (offset + 1) high bytes ts (omega arith) e)
tokens_of-on_line place zero offset high (b ∷ bytes) ts end e = elim (chosen (is_white_space b) _ _ _ e) [
  | inl h ↦ All-weaker (IsOnLine place (offset + 1) high) (IsOnLine place offset high) (on_rest place offset high) ts (tokens_of-on_line place 0 (offset + 1) high bytes ts (omega arith) h.1)
  | inr h ↦
      let one = bind_ok (at_offset offset (token_at b bytes)) (λ found. tokens_of place (found.len - 1) (offset + 1) bytes >>= λ tokens. Ok (token place offset (b ∷ bytes) found ∷ tokens)) ts h.1 in
      let two = bind_ok (tokens_of place (one.0.len - 1) (offset + 1) bytes) (λ tokens. Ok (token place offset (b ∷ bytes) one.0 ∷ tokens)) ts one.2 in
      let all : token place offset (b ∷ bytes) one.0 ∷ two.0 ≡ ts = ok_injective _ ts two.2 in
      let rest = tokens_of-on_line place (one.0.len - 1) (offset + 1) high bytes two.0 (omega arith) two.1 in
      subst (All (IsOnLine place offset high)) all (All-cons (IsOnLine place offset high) _ two.0
      (record { from = omega arith; until = omega arith; file = refl; line = refl })
      (All-weaker (IsOnLine place (offset + 1) high) (IsOnLine place offset high) (on_rest place offset high) two.0 rest))
]

-- what holds of what was read up to an offset, at which a line begins
pub record Covered (source : List ℕ) (at : ℕ) (read : Read) : Type 0 where
  pub begins : at ≤ length source → BeginsLine source at
  pub covers : Covers source 0 (min at (length source)) read.tokens
  pub files : All (λ t. t.file < length read.files) read.tokens

module _ (source : List ℕ) (at : ℕ) (inside : at ≤ length source) where
  abbrev line : List ℕ
  line = line_at source at

  abbrev end : ℕ
  end = at + length line

  pub line_length : length line ≡ len_of (drop at source)
  line_length = length-take-le (len_of (drop at source)) (drop at source) (prefix_len-le-length _ (drop at source))

  pub end_inside : end ≤ length source
  end_inside = omega (arith, line_length, length-drop at source, prefix_len-le-length (λ b. not (b == 10)) (drop at source))

  -- after a line that is not the last one comes a newline
  pub newline : end < length source → slice_index source end ≡ 10
  newline before =
      let n = len_of (drop at source) in
      let within : n < length (drop at source) = omega (arith, line_length, length-drop at source) in
      ap (λ m. get_or source (at + m) 0) line_length ∙ sym (get_or-drop at source n 0) ∙ eqb-true _ 10 (passes_at_first (λ b. b == 10) (drop at source) 0 within)

  behind_line : IsBetween source end (min (end + 1) (length source))
  behind_line = record {
    ordered = let h = end_inside in omega arith;
    each = λ k from until. let before : end < length source = omega arith in let same : end ≡ k = omega arith in inl (ap is_white_space (ap (slice_index source) (sym same) ∙ newline before));
  }

  begins_next : end + 1 ≤ length source → BeginsLine source (end + 1)
  begins_next more = let before : end < length source = omega arith in let same : end + 1 - 1 ≡ end = omega arith in inr (ap (slice_index source) same ∙ newline before)

  covered_text : (read more : Read) → IsWithin at read → Covered source at read → text_line read at line ≡ Ok more → Covered source (end + 1) more
  covered_text read more within covered e =
      let found = bind_ok (behind_tokens read.tokens (tokens_of read.next 0 at line)) (λ tokens. Ok (with_tokens read tokens)) more e in
      let tokens = behind_tokens-ok read.tokens (tokens_of read.next 0 at line) found.0 found.1 in
      let same : with_tokens read found.0 ≡ more = ok_injective (with_tokens read found.0) more found.2 in
      let n = len_of (drop at source) in
      let new = covers_tokens source read.next 0 at line (drop n (drop at source)) tokens.0 (sym (take-append-drop n (drop at source))) refl (omega arith) tokens.1 in
      let files = All-weaker (IsOnLine read.next at end) (λ t. t.file < length read.files) (λ t on. omega (arith, within.next, on.file)) tokens.0 (tokens_of-on_line read.next 0 at end line tokens.0 refl tokens.1) in
      let old : Covers source 0 at read.tokens = renumbered source 0 (min at (length source)) 0 at read.tokens refl (omega arith) covered.covers in
      let both = covers_append source 0 at end read.tokens tokens.0 old (renumbered source (at + 0) end at end tokens.0 (omega arith) refl new) in
      subst (Covered source (end + 1)) same (record {
        begins = begins_next;
        covers = covers_to_end source 0 end (min (end + 1) (length source)) found.0 (subst (Covers source 0 end) tokens.2 both) behind_line;
        files = subst (All (λ t. t.file < length read.files)) tokens.2 (All-append (λ t. t.file < length read.files) read.tokens tokens.0 covered.files files);
      })

  in_marker : BeginsLine source at → is_marker_line line ≡ true → IsBetween source at end
  in_marker begins marks = record {
    ordered = omega arith;
    each = λ k from until. inr (record { start = at; begins = begins; marks = marks; from = from; until = until });
  }

  covered_marker : (read more : Read) → Covered source at read → is_marker_line line ≡ true → marker_line read at line ≡ Ok more → Covered source (end + 1) more
  covered_marker read more covered marks e =
      let start = prefix_len is_blank line in
      let found = bind_ok (ok_or (marker (drop (start + 1) line)) (record { offset = at + start; fault = TokenFault.Marker })) (λ found. Ok (marked read found)) more e in
      let same : marked read found.0 ≡ more = ok_injective (marked read found.0) more found.2 in
      let files = with_file-length read.files found.0.1 in
      let old : Covers source 0 at read.tokens = renumbered source 0 (min at (length source)) 0 at read.tokens refl (omega arith) covered.covers in
      subst (Covered source (end + 1)) same (record {
        begins = begins_next;
        covers = covers_to_end source 0 at (min (end + 1) (length source)) read.tokens old (joined source at end (min (end + 1) (length source)) (in_marker (covered.begins inside) marks) behind_line);
        files = All-weaker (λ t. t.file < length read.files) (λ t. t.file < length (with_file read.files found.0.1)) (λ t lt. omega (arith, files.1)) read.tokens covered.files;
      })

  pub covered_line : (read more : Read) → IsWithin at read → Covered source at read → with_place read (line_read read at line) ≡ Ok more → Covered source (end + 1) more
  covered_line read more within covered e = elim (chosen (is_marker_line line) _ _ _ (with_place-ok read (line_read read at line) more e)) [
    | inl h ↦ covered_marker read more covered h.0 h.1
    | inr h ↦ covered_text read more within covered h.1
  ]

pub end_of_lines : (source : List ℕ) (at : ℕ) → at ≤ length source + 1 → lines_from at source ≡ [] → at ≡ length source + 1
end_of_lines source at bound none = elim (cases_lt (length source) at) [
  | inl past ↦ omega arith
  | inr inside ↦ let first = lines_from-first at source inside in cc
]

pub line_is_there : (source : List ℕ) (at : ℕ) (l : List ℕ) (lines : List (List ℕ)) → l ∷ lines ≡ lines_from at source → at ≤ length source
line_is_there source at l lines e = elim (cases_lt (length source) at) [
  | inl past ↦ let none = lines_from-end at source past in cc
  | inr inside ↦ inside
]
