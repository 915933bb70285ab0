-- A token has a byte at least, and no more than there are.
use Rattle.sharc_lex.proofs.{Imports.{◌≡◌, ℕ, ◌+◌, ◌<◌, ◌≤◌, min, Bool, true, cond, ◌||◌, ltb, eqb, eqb as nat_eq, ◌⊎◌, List, [], ◌∷◌, ◌++◌, length, take, Option, Some, None, Result, Ok, Err, sym, refl, ap, ◌∙◌, subst, inl, inr, arith, length-take, prefix_len-le-length, and_parts, ltb-true, bytes_eq-Decides, ok_or, option_map, IfOk, prefix_len, starts_with, list_all, TokenKind, TokenFault, Lexeme, is_letter, is_digit, is_word_byte, character, constant, plain, behind_backslash, first_begun, singles, pairs, triples, quadruples, LiesIn, token_at, of_len}, WithinLemmas.chosen}

pub of_len-len : (len : ℕ) (r : Result TokenKind TokenFault) (found : Lexeme) → of_len len r ≡ Ok found → found.len ≡ len
of_len-len len (Ok k) found e = let same : found ≡ record { len = len; kind = k } = cc in ap (λ (x : Lexeme). x.len) same
of_len-len len (Err f) found e = cc

run_lies : (b : ℕ) (bytes : List ℕ) → is_word_byte b ≡ true → (0 < prefix_len is_word_byte (b ∷ bytes)) × (prefix_len is_word_byte (b ∷ bytes) ≤ length (b ∷ bytes))
run_lies b bytes begins =
    let len : prefix_len is_word_byte (b ∷ bytes) ≡ 1 + prefix_len is_word_byte bytes = ap (λ t. cond t (1 + prefix_len is_word_byte bytes) 0) begins in
    (omega arith, prefix_len-le-length is_word_byte (b ∷ bytes))

run_token : (b : ℕ) (bytes : List ℕ) (r : Result TokenKind TokenFault) (found : Lexeme) → is_word_byte b ≡ true → of_len (prefix_len is_word_byte (b ∷ bytes)) r ≡ Ok found → LiesIn (b ∷ bytes) found
run_token b bytes r found begins e =
    let len = of_len-len (prefix_len is_word_byte (b ∷ bytes)) r found e in
    let lies = run_lies b bytes begins in
    record { some = omega (arith, lies.0); within = omega (arith, lies.1) }

-- a constant has 3 bytes, or 4 after a backslash
pub constant_len : (len : ℕ) (o : Option ℕ) (found : Lexeme) → option_map (constant len) o ≡ Some found → found.len ≡ len
constant_len len None found e = cc
constant_len len (Some b) found e = let same : found ≡ constant len b = cc in ap (λ (x : Lexeme). x.len) same

character_lies : (q : ℕ) (bytes : List ℕ) (found : Lexeme) → character bytes ≡ Some found → LiesIn (q ∷ bytes) found
character_lies q [] found e = cc
character_lies q (b ∷ []) found e = elim (chosen (eqb b 92) _ _ _ e) [ inl h ↦ cc | inr h ↦ cc ]
character_lies q (b ∷ c ∷ []) found e = elim (chosen (eqb b 92) _ _ _ e) [
  | inl h ↦ cc
  | inr h ↦ let len = constant_len 3 (plain (b ∷ c ∷ [])) found h.1 in record { some = omega arith; within = omega arith }
]
character_lies q (b ∷ c ∷ d ∷ rest) found e = elim (chosen (eqb b 92) _ _ _ e) [
  | inl h ↦ let len = constant_len 4 (behind_backslash (c ∷ d ∷ rest)) found h.1 in record { some = omega arith; within = omega arith }
  | inr h ↦ let len = constant_len 3 (plain (b ∷ c ∷ d ∷ rest)) found h.1 in record { some = omega arith; within = omega arith }
]

-- a table without an empty text
abbrev nonempty : List (List ℕ × TokenKind) → Bool
nonempty entries = list_all (λ e. ltb 0 (length e.0)) entries

starts_within : (bytes text : List ℕ) → starts_with nat_eq bytes text ≡ true → length text ≤ length bytes
starts_within bytes text starts =
    let same : text ≡ take (length text) bytes = (bytes_eq-Decides text (take (length text) bytes)).0 starts in
    let cut : length text ≡ min (length text) (length bytes) = ap length same ∙ length-take (length text) bytes in
    omega arith

first_begun_lies : (table : List (List ℕ × TokenKind)) (bytes : List ℕ) (found : Lexeme) → nonempty table ≡ true → first_begun table bytes ≡ Some found → LiesIn bytes found
first_begun_lies [] bytes found full e = cc
first_begun_lies (entry ∷ entries) bytes found full e =
    let parts = and_parts (ltb 0 (length entry.0)) (nonempty entries) full in
    elim (chosen (starts_with nat_eq bytes entry.0) _ _ _ e) [
      | inl h ↦
          let same : found ≡ record { len = length entry.0; kind = entry.1 } = cc in
          let len : found.len ≡ length entry.0 = ap (λ (x : Lexeme). x.len) same in
          record { some = omega (arith, ltb-true 0 (length entry.0) parts.0); within = omega (arith, starts_within bytes entry.0 h.0) }
      | inr h ↦ first_begun_lies entries bytes found parts.1 h.1
    ]

pub ok_or_some : {A : Type 0} (o : Option A) (f : TokenFault) (x : A) → ok_or o f ≡ Ok x → o ≡ Some x
ok_or_some None f x e = cc
ok_or_some (Some y) f x e = cc

pub token_lies : (b : ℕ) (bytes : List ℕ) (found : Lexeme) → token_at b bytes ≡ Ok found → LiesIn (b ∷ bytes) found
token_lies b bytes found e = elim (chosen (is_letter b) _ _ _ e) [
  | inl h ↦ run_token b bytes _ found (ap (λ t. t || is_digit b) h.0) h.1
  | inr h ↦ elim (chosen (is_digit b) _ _ _ h.1) [
    | inl k ↦ run_token b bytes _ found (ap (λ t. is_letter b || t) k.0 ∙ ap (λ t. t || true) h.0) k.1
    | inr k ↦ elim (chosen (eqb b 39) _ _ _ k.1) [
      | inl l ↦ character_lies b bytes found (ok_or_some _ _ _ l.1)
      | inr l ↦ first_begun_lies (quadruples ++ triples ++ pairs ++ singles) (b ∷ bytes) found refl (ok_or_some _ _ _ l.1)
    ]
  ]
]

pub result_lies : (r : Result Lexeme TokenFault) (b : ℕ) (others bytes : List ℕ) → bytes ≡ b ∷ others → r ≡ token_at b others → IfOk r (LiesIn bytes)
result_lies (Ok found) b others bytes parts e = subst (λ l. LiesIn l found) (sym parts) (token_lies b others found (sym e))
result_lies (Err fault) b others bytes parts e = tt
