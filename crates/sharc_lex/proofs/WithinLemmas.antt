-- A line that is read keeps what was read within the limits.
use Rattle.sharc_lex.proofs.Imports.{◌≡◌, ℕ, zero, suc, ◌+◌, ◌-◌, ◌^◌, ◌<◌, ◌≤◌, ◌==◌, Bool, true, false, not, cond, ◌||◌, ltb, ◌⊎◌, List, [], ◌∷◌, ◌++◌, length, take, drop, Option, Some, None, Result, Ok, Err, refl, ap, subst, inl, inr, arith, length-append, ltb-true, prefix_len-le-length, option_and_then, ok_or, prefix_len, list_any, list_all, bytes_eq, Token, TokenFault, LineFault, SourceLine, is_blank, is_digit, is_white_space, behind, with_file, place_of, Read, tokens_of, token, at_offset, behind_tokens, line_read, marker_line, text_line, marked, with_tokens, with_place, IsWithin, ◌>>=◌, marker, line_number, file_name, is_flag, is_marker_line, value_behind, token_at, bind_some}

-- which way a test goes
pub chosen : {A : Type 0} (b : Bool) (x y z : A) → cond b x y ≡ z → ((b ≡ true) × (x ≡ z)) ⊎ ((b ≡ false) × (y ≡ z))
chosen true x y z e = inl (refl, e)
chosen false x y z e = inr (refl, e)

-- the step before one that succeeded succeeded
pub bind_ok : {A B E : Type 0} (r : Result A E) (f : A → Result B E) (y : B) → (r >>= f) ≡ Ok y → (x : A) × (r ≡ Ok x) × (f x ≡ Ok y)
bind_ok (Ok x) f y e = (x, refl, e)
bind_ok (Err e) f y h = cc

pub ok_or-ok : {A E : Type 0} (o : Option A) (f : E) (x : A) → ok_or o f ≡ Ok x → o ≡ Some x
ok_or-ok None f x e = cc
ok_or-ok (Some y) f x e = cc

pub ok_injective : {A E : Type 0} (x y : A) → ◌≡◌ {A = Result A E} (Ok x) (Ok y) → x ≡ y
ok_injective x y e = cc

-- as many tokens as bytes at most
pub tokens_of-length : (place : SourceLine) (taken offset : ℕ) (bytes : List ℕ) (tokens : List Token) → tokens_of place taken offset bytes ≡ Ok tokens → length tokens ≤ length bytes
tokens_of-length place taken offset [] tokens e = let none : [] ≡ tokens = ok_injective [] tokens e in omega (arith, ap length none)
tokens_of-length place (suc taken) offset (b ∷ bytes) tokens e = let fewer = tokens_of-length place taken (offset + 1) bytes tokens e in omega arith
tokens_of-length place zero offset (b ∷ bytes) tokens e = elim (chosen (is_white_space b) _ _ _ e) [
  | inl h ↦ let fewer = tokens_of-length place 0 (offset + 1) bytes tokens h.1 in omega arith
  | inr h ↦
      let one = bind_ok (at_offset offset (token_at b bytes)) (λ found. tokens_of place (found.len - 1) (offset + 1) bytes >>= λ tokens. Ok (token place offset (b ∷ bytes) found ∷ tokens)) tokens h.1 in
      let two = bind_ok (tokens_of place (one.0.len - 1) (offset + 1) bytes) (λ tokens. Ok (token place offset (b ∷ bytes) one.0 ∷ tokens)) tokens one.2 in
      let fewer = tokens_of-length place (one.0.len - 1) (offset + 1) bytes two.0 two.1 in
      let all : token place offset (b ∷ bytes) one.0 ∷ two.0 ≡ tokens = ok_injective _ tokens two.2 in
      omega (arith, ap length all)
]

-- a marker's line is below 2^31
small_then : (n : ℕ) (rest : List ℕ) (found : ℕ × List ℕ) → cond (ltb n (2 ^ 31)) (Some (n, rest)) None ≡ Some found → found.0 < 2 ^ 31
small_then n rest found e = elim (chosen (ltb n (2 ^ 31)) _ _ _ e) [
  | inl h ↦ let same : (n, rest) ≡ found = cc in omega (arith, ltb-true n (2 ^ 31) h.0, ap (λ (x : ℕ × List ℕ). x.0) same)
  | inr h ↦ cc
]

line_number-small : (bytes : List ℕ) (found : ℕ × List ℕ) → line_number bytes ≡ Some found → found.0 < 2 ^ 31
line_number-small bytes found e = elim (chosen (prefix_len is_digit bytes == 0) _ _ _ e) [
  | inl h ↦ cc
  | inr h ↦
      let value = bind_some (value_behind 10 0 (take (prefix_len is_digit bytes) bytes)) (λ n. cond (ltb n (2 ^ 31)) (Some (n, drop (prefix_len is_digit bytes) bytes)) None) found h.1 in
      small_then value.0 (drop (prefix_len is_digit bytes) bytes) found value.2
]

pub marker-small : (bytes : List ℕ) (found : ℕ × List ℕ) → marker bytes ≡ Some found → found.0 < 2 ^ 31
marker-small bytes found e =
    let number = bind_some (line_number (behind is_blank bytes)) (λ n. option_and_then (λ name. cond (list_all is_flag name.1) (Some (n.0, name.0)) None) (file_name (behind is_blank n.1))) found e in
    let name = bind_some (file_name (behind is_blank number.0.1)) (λ name. cond (list_all is_flag name.1) (Some (number.0.0, name.0)) None) found number.2 in
    elim (chosen (list_all is_flag name.0.1) _ _ _ name.2) [
      | inl h ↦ let same : (number.0.0, name.0.0) ≡ found = cc in omega (arith, line_number-small (behind is_blank bytes) number.0 number.1, ap (λ (x : ℕ × List ℕ). x.0) same)
      | inr h ↦ cc
    ]

-- a file is found among the files to which it was added
place_of-within : (files : List (List ℕ)) (name : List ℕ) → list_any (bytes_eq name) files ≡ true → place_of files name < length files
place_of-within [] name e = cc
place_of-within (file ∷ files) name e = found (bytes_eq name file) e (place_of-within files name)
  where
    found : (t : Bool) → (t || list_any (bytes_eq name) files) ≡ true → (list_any (bytes_eq name) files ≡ true → place_of files name < length files) → cond (not t) (1 + place_of files name) 0 < length (file ∷ files)
    found true e rest = omega arith
    found false e rest = let lt = rest e in omega arith

added : (t : Bool) (files : List (List ℕ)) (name : List ℕ) → list_any (bytes_eq name) files ≡ t → (place_of files name < length (cond t files (files ++ name ∷ []))) × (length files ≤ length (cond t files (files ++ name ∷ []))) × (length (cond t files (files ++ name ∷ [])) ≤ length files + 1)
added true files name e = (place_of-within files name e, omega arith, omega arith)
added false files name e =
    let len = length-append files (name ∷ []) in
    let le = prefix_len-le-length (λ file. not (bytes_eq name file)) files in
    (omega arith, omega arith, omega arith)

-- one file more at most, and the file is among them
pub with_file-length : (files : List (List ℕ)) (name : List ℕ) → (place_of files name < length (with_file files name)) × (length files ≤ length (with_file files name)) × (length (with_file files name) ≤ length files + 1)
with_file-length files name = added (list_any (bytes_eq name) files) files name refl

pub behind_tokens-ok : (before : List Token) (r : Result (List Token) LineFault) (all : List Token) → behind_tokens before r ≡ Ok all → (tokens : List Token) × (r ≡ Ok tokens) × (before ++ tokens ≡ all)
behind_tokens-ok before (Ok tokens) all e = (tokens, refl, ok_injective (before ++ tokens) all e)
behind_tokens-ok before (Err f) all e = cc

pub with_place-ok : (read : Read) (r : Result Read LineFault) (more : Read) → with_place read r ≡ Ok more → r ≡ Ok more
with_place-ok read (Ok new) more e = cc
with_place-ok read (Err f) more e = cc

within_marker : (offset : ℕ) (read more : Read) (line : List ℕ) → IsWithin offset read → marker_line read offset line ≡ Ok more → IsWithin (offset + length line + 1) more
within_marker offset read more line within e =
    let start = prefix_len is_blank line in
    let found = bind_ok (ok_or (marker (drop (start + 1) line)) (record { offset = offset + start; fault = TokenFault.Marker })) (λ found. Ok (marked read found)) more e in
    let place = ok_or-ok (marker (drop (start + 1) line)) _ found.0 found.1 in
    let small = marker-small (drop (start + 1) line) found.0 place in
    let files = with_file-length read.files found.0.1 in
    let same : marked read found.0 ≡ more = ok_injective (marked read found.0) more found.2 in
    subst (IsWithin (offset + length line + 1)) same (record {
      tokens = omega (arith, within.tokens);
      files = omega (arith, within.files, files.2);
      line = omega arith;
      here = omega (arith, within.next, files.1);
      next = files.0;
    })

within_text : (offset : ℕ) (read more : Read) (line : List ℕ) → IsWithin offset read → text_line read offset line ≡ Ok more → IsWithin (offset + length line + 1) more
within_text offset read more line within e =
    let found = bind_ok (behind_tokens read.tokens (tokens_of read.next 0 offset line)) (λ tokens. Ok (with_tokens read tokens)) more e in
    let tokens = behind_tokens-ok read.tokens (tokens_of read.next 0 offset line) found.0 found.1 in
    let fewer = tokens_of-length read.next 0 offset line tokens.0 tokens.1 in
    let len = length-append read.tokens tokens.0 in
    let same : with_tokens read found.0 ≡ more = ok_injective (with_tokens read found.0) more found.2 in
    subst (IsWithin (offset + length line + 1)) same (record {
      tokens = omega (arith, within.tokens, ap length tokens.2);
      files = omega (arith, within.files);
      line = omega (arith, within.line);
      here = within.next;
      next = within.next;
    })

pub within_line : (offset : ℕ) (read more : Read) (line : List ℕ) → IsWithin offset read → with_place read (line_read read offset line) ≡ Ok more → IsWithin (offset + length line + 1) more
within_line offset read more line within e = elim (chosen (is_marker_line line) _ _ _ (with_place-ok read (line_read read offset line) more e)) [
  | inl h ↦ within_marker offset read more line within h.1
  | inr h ↦ within_text offset read more line within h.1
]
