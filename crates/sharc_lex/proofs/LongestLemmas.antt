-- The token at the front of the bytes is the longest one there.
use Rattle.sharc_lex.proofs.{Imports.{◌≡◌, ℕ, zero, suc, ◌+◌, ◌-◌, ◌<◌, ◌≤◌, ◌==◌, Bool, true, false, not, cond, ◌&&◌, leb, eqb, eqb as nat_eq, ◌⊎◌, List, [], ◌∷◌, length, get_or, take, Some, Result, Ok, Err, sym, refl, ap, ◌∙◌, subst, inl, inr, arith, one-add, length-take-le, cases_Bool, and_parts, leb-true, false≢true, eqb-true, eq-eqb, not-true, take_all, All-cons, All-contains, All-weaker, AllPass-from_list_all, bytes_eq-Decides, ok_or, option_map, All, Contains, IfOk, prefix_len, starts_with, list_all, TokenKind, TokenFault, Lexeme, is_letter, is_digit, is_word_byte, character, constant, plain, behind_backslash, IsRun, IsConstant, IsToken, IsLongest, number, punctuator, punctuators, first_begun, token_at, word_at, number_at, of_len, word}, LexemeLemmas.{token_lies, of_len-len, constant_len, ok_or_some}, WithinLemmas.chosen}

abbrev Table : Type 0
Table = List (List ℕ × TokenKind)

-- the longest front of a front is no longer
prefix_len-take : (p : ℕ → Bool) (n : ℕ) (xs : List ℕ) → prefix_len p (take n xs) ≤ prefix_len p xs
prefix_len-take p zero xs = omega arith
prefix_len-take p (suc n) [] = omega arith
prefix_len-take p (suc n) (x ∷ xs) = both (p x) (prefix_len-take p n xs)
  where
    both : (t : Bool) → prefix_len p (take n xs) ≤ prefix_len p xs → cond t (1 + prefix_len p (take n xs)) 0 ≤ cond t (1 + prefix_len p xs) 0
    both true le = omega arith
    both false le = omega arith

-- a run is as long as its word bytes
run_len : (begins : ℕ → Bool) (read : List ℕ → Result Lexeme TokenFault) (text : List ℕ) (k : TokenKind) → ((l : List ℕ) (found : Lexeme) → read l ≡ Ok found → found.len ≡ prefix_len is_word_byte l) → IsRun begins read text k → prefix_len is_word_byte text ≡ length text
run_len begins read [] k len run = absurd run
run_len begins read (b ∷ bytes) k len run = sym (len (b ∷ bytes) _ run.1)

word_len : (l : List ℕ) (found : Lexeme) → word_at l ≡ Ok found → found.len ≡ prefix_len is_word_byte l
word_len l found e = of_len-len (prefix_len is_word_byte l) (word (take (prefix_len is_word_byte l) l)) found e

number_len : (l : List ℕ) (found : Lexeme) → number_at l ≡ Ok found → found.len ≡ prefix_len is_word_byte l
number_len l found e = of_len-len (prefix_len is_word_byte l) (ok_or (option_map TokenKind.Number (number (take (prefix_len is_word_byte l) l))) TokenFault.Number) found e

-- no longer front of the bytes is a run
no_longer_run : (begins : ℕ → Bool) (read : List ℕ → Result Lexeme TokenFault) (bytes : List ℕ) (n : ℕ) (k : TokenKind) → ((l : List ℕ) (found : Lexeme) → read l ≡ Ok found → found.len ≡ prefix_len is_word_byte l) → prefix_len is_word_byte bytes < n → n ≤ length bytes → IsRun begins read (take n bytes) k → ⊥
no_longer_run begins read bytes n k len longer inside run =
    let whole = run_len begins read (take n bytes) k len run in
    let all : length (take n bytes) ≡ n = length-take-le n bytes inside in
    let most = prefix_len-take is_word_byte n bytes in
    absurd (omega arith)

-- what begins a punctuator begins nothing else
abbrev is_sign : List ℕ → Bool
is_sign [] = false
is_sign (b ∷ bytes) = not (is_letter b) && (not (is_digit b) && not (b == 39))

signs : (text : List ℕ) (k : TokenKind) → Contains punctuators (text, k) → is_sign text ≡ true
signs text k there = All-contains (λ e. is_sign e.0 ≡ true) punctuators (text, k) (AllPass-from_list_all (λ (e : List ℕ × TokenKind). is_sign e.0) punctuators refl) there

-- the table is in falling order of length
abbrev falls : Table → Bool
falls [] = true
falls (e ∷ es) = list_all (λ (o : List ℕ × TokenKind). leb (length o.0) (length e.0)) es && falls es

first_is_longest : (table : Table) (bytes : List ℕ) (found : Lexeme) → falls table ≡ true → first_begun table bytes ≡ Some found → All (λ e. starts_with nat_eq bytes e.0 ≡ true → length e.0 ≤ found.len) table
first_is_longest [] bytes found order e = cc
first_is_longest (entry ∷ entries) bytes found order e =
    let parts = and_parts (list_all (λ (o : List ℕ × TokenKind). leb (length o.0) (length entry.0)) entries) (falls entries) order in
    elim (chosen (starts_with nat_eq bytes entry.0) _ _ _ e) [
      | inl h ↦
          let same : record { len = length entry.0; kind = entry.1 } ≡ found = cc in
          let len : length entry.0 ≡ found.len = ap (λ (x : Lexeme). x.len) same in
          All-cons (λ e. starts_with nat_eq bytes e.0 ≡ true → length e.0 ≤ found.len) entry entries (λ _. omega arith)
          (All-weaker (λ (o : List ℕ × TokenKind). leb (length o.0) (length entry.0) ≡ true) (λ e. starts_with nat_eq bytes e.0 ≡ true → length e.0 ≤ found.len) (λ o le starts. omega (arith, leb-true (length o.0) (length entry.0) le)) entries (AllPass-from_list_all (λ (o : List ℕ × TokenKind). leb (length o.0) (length entry.0)) entries parts.0))
      | inr h ↦ All-cons (λ e. starts_with nat_eq bytes e.0 ≡ true → length e.0 ≤ found.len) entry entries (λ starts. absurd (false≢true (sym h.0 ∙ starts))) (first_is_longest entries bytes found parts.1 h.1)
    ]

front_starts : (bytes : List ℕ) (n : ℕ) → n ≤ length bytes → starts_with nat_eq bytes (take n bytes) ≡ true
front_starts bytes n inside = (bytes_eq-Decides (take n bytes) (take (length (take n bytes)) bytes)).1 (ap (λ m. take m bytes) (sym (length-take-le n bytes inside)))

-- no longer front of the bytes is a punctuator
no_longer_sign : (bytes : List ℕ) (found : Lexeme) (n : ℕ) (k : TokenKind) → punctuator bytes ≡ Some found → found.len < n → n ≤ length bytes → Contains punctuators (take n bytes, k) → ⊥
no_longer_sign bytes found n k e longer inside there =
    let at_most = All-contains (λ e. starts_with nat_eq bytes e.0 ≡ true → length e.0 ≤ found.len) punctuators (take n bytes, k) (first_is_longest punctuators bytes found refl e) there in
    let all : length (take n bytes) ≡ n = length-take-le n bytes inside in
    absurd (omega (arith, at_most (front_starts bytes n inside)))

prefix_len-self : (p : ℕ → Bool) (xs : List ℕ) → prefix_len p (take (prefix_len p xs) xs) ≡ prefix_len p xs
prefix_len-self p [] = refl
prefix_len-self p (x ∷ xs) = elim (cases_Bool (p x)) [
  | inl passes ↦
      let all : prefix_len p (x ∷ xs) ≡ suc (prefix_len p xs) = ap (λ t. cond t (1 + prefix_len p xs) 0) passes ∙ one-add (prefix_len p xs) in
      ap (λ n. prefix_len p (take n (x ∷ xs))) all ∙ ap (λ t. cond t (1 + prefix_len p (take (prefix_len p xs) xs)) 0) passes ∙ ap (λ n. 1 + n) (prefix_len-self p xs) ∙ one-add (prefix_len p xs) ∙ sym all
  | inr fails ↦
      let none : prefix_len p (x ∷ xs) ≡ 0 = ap (λ t. cond t (1 + prefix_len p xs) 0) fails in
      ap (λ n. prefix_len p (take n (x ∷ xs))) none ∙ sym none
]

IsRun-of : (begins : ℕ → Bool) (read : List ℕ → Result Lexeme TokenFault) (text : List ℕ) (k : TokenKind) (b : ℕ) (bytes : List ℕ) → text ≡ b ∷ bytes → begins b ≡ true → read text ≡ Ok (record { len = length text; kind = k }) → IsRun begins read text k
IsRun-of begins read [] k b bytes same first e = cc
IsRun-of begins read (c ∷ cs) k b bytes same first e = (ap begins (ap (λ l. get_or l 0 0) same) ∙ first, e)

front_of : (n b : ℕ) (bytes : List ℕ) → 0 < n → take n (b ∷ bytes) ≡ b ∷ take (n - 1) bytes
front_of n b bytes some = let same : n ≡ suc (n - 1) = omega arith in ap (λ m. take m (b ∷ bytes)) same

-- the run at the front is a run by itself
found_run : (begins : ℕ → Bool) (judge : List ℕ → Result TokenKind TokenFault) (b : ℕ) (bytes : List ℕ) (found : Lexeme) → begins b ≡ true → 0 < found.len → found.len ≤ length (b ∷ bytes) → of_len (prefix_len is_word_byte (b ∷ bytes)) (judge (take (prefix_len is_word_byte (b ∷ bytes)) (b ∷ bytes))) ≡ Ok found → IsRun begins (λ l. of_len (prefix_len is_word_byte l) (judge (take (prefix_len is_word_byte l) l))) (take found.len (b ∷ bytes)) found.kind
found_run begins judge b bytes found first some within e =
    let l = b ∷ bytes in
    let run = prefix_len is_word_byte l in
    let len : found.len ≡ run = of_len-len run (judge (take run l)) found e in
    let text = take found.len l in
    let text_is : text ≡ take run l = ap (λ n. take n l) len in
    let again : prefix_len is_word_byte text ≡ run = ap (prefix_len is_word_byte) text_is ∙ prefix_len-self is_word_byte l in
    let all : length text ≡ found.len = length-take-le found.len l within in
    let whole : take run text ≡ text = take_all run text (omega arith) in
    let read : of_len (prefix_len is_word_byte text) (judge (take (prefix_len is_word_byte text) text)) ≡ Ok found =
    ap (λ n. of_len n (judge (take n text))) again ∙ ap (λ t. of_len run (judge t)) (whole ∙ text_is) ∙ e in
    let named : found ≡ record { len = length text; kind = found.kind } = ap (λ n. let x : Lexeme = record { len = n; kind = found.kind } in x) (sym all) in
    IsRun-of begins (λ l. of_len (prefix_len is_word_byte l) (judge (take (prefix_len is_word_byte l) l))) text found.kind b (take (found.len - 1) bytes) (front_of found.len b bytes some) first (read ∙ ap (λ x. Ok x) named)

found_sign : (table : Table) (bytes : List ℕ) (found : Lexeme) → first_begun table bytes ≡ Some found → Contains table (take found.len bytes, found.kind)
found_sign [] bytes found e = cc
found_sign (entry ∷ entries) bytes found e = elim (chosen (starts_with nat_eq bytes entry.0) _ _ _ e) [
  | inl h ↦
      let same : record { len = length entry.0; kind = entry.1 } ≡ found = cc in
      let text : entry.0 ≡ take (length entry.0) bytes = (bytes_eq-Decides entry.0 (take (length entry.0) bytes)).0 h.0 in
      (0, omega arith, (λ i. (text i, entry.1)) ∙ ap (λ (x : Lexeme). (take x.len bytes, x.kind)) same)
  | inr h ↦
      let rest = found_sign entries bytes found h.1 in
      (suc rest.0, let lt = rest.1 in omega arith, rest.2)
]

-- a constant has 4 bytes where the second is a backslash, and else 3
character_len : (c : ℕ) (rest : List ℕ) (found : Lexeme) → character (c ∷ rest) ≡ Some found → found.len ≡ cond (eqb c 92) 4 3
character_len c rest found e = elim (chosen (eqb c 92) _ _ _ e) [
  | inl h ↦ constant_len 4 (behind_backslash rest) found h.1 ∙ ap (λ t. cond t 4 3) (sym h.0)
  | inr h ↦ constant_len 3 (plain (c ∷ rest)) found h.1 ∙ ap (λ t. cond t 4 3) (sym h.0)
]

named_constant : (len : ℕ) (found : Lexeme) → found.len ≡ len → found ≡ record { len = len; kind = found.kind }
named_constant len found e = ap (λ n. let x : Lexeme = record { len = n; kind = found.kind } in x) e

found_constant : (b : ℕ) (bytes : List ℕ) (found : Lexeme) → b ≡ 39 → character bytes ≡ Some found → IsConstant (take found.len (b ∷ bytes)) found.kind
found_constant b [] found quote e = cc
found_constant b (c ∷ []) found quote e = elim (chosen (eqb c 92) _ _ _ e) [ inl h ↦ cc | inr h ↦ cc ]
found_constant b (c ∷ d ∷ []) found quote e = elim (chosen (eqb c 92) _ _ _ e) [
  | inl h ↦ cc
  | inr h ↦
      let len = constant_len 3 (plain (c ∷ d ∷ [])) found h.1 in
      subst (λ n. IsConstant (take n (b ∷ c ∷ d ∷ [])) found.kind) (sym len) (quote, e ∙ ap (λ x. Some x) (named_constant 3 found len))
]
found_constant b (c ∷ d ∷ q ∷ rest) found quote e = elim (chosen (eqb c 92) _ _ _ e) [
  | inl h ↦
      let len = constant_len 4 (behind_backslash (d ∷ q ∷ rest)) found h.1 in
      subst (λ n. IsConstant (take n (b ∷ c ∷ d ∷ q ∷ rest)) found.kind) (sym len)
      (quote, ap (λ t. cond t (option_map (constant 4) (behind_backslash (d ∷ q ∷ []))) (option_map (constant 3) (plain (c ∷ d ∷ q ∷ [])))) h.0 ∙ h.1 ∙ ap (λ x. Some x) (named_constant 4 found len))
  | inr h ↦
      let len = constant_len 3 (plain (c ∷ d ∷ q ∷ rest)) found h.1 in
      subst (λ n. IsConstant (take n (b ∷ c ∷ d ∷ q ∷ rest)) found.kind) (sym len)
      (quote, ap (λ t. cond t (option_map (constant 4) (behind_backslash (d ∷ []))) (option_map (constant 3) (plain (c ∷ d ∷ [])))) h.0 ∙ h.1 ∙ ap (λ x. Some x) (named_constant 3 found len))
]

no_longer_constant : (b : ℕ) (bytes : List ℕ) (found : Lexeme) (n : ℕ) (k : TokenKind) → character bytes ≡ Some found → found.len < n → n ≤ length (b ∷ bytes) → IsConstant (take n (b ∷ bytes)) k → ⊥
no_longer_constant b [] found n k e longer inside constant = cc
no_longer_constant b (c ∷ rest) found zero k e longer inside constant = absurd (omega (arith, longer))
no_longer_constant b (c ∷ rest) found (suc zero) k e longer inside constant = let len = character_len c rest found e in absurd (at_least (eqb c 92) found.len len longer)
  where
    at_least : (t : Bool) (n : ℕ) → n ≡ cond t 4 3 → n < 1 → ⊥
    at_least true n e lt = omega arith
    at_least false n e lt = omega arith
no_longer_constant b (c ∷ rest) found (suc (suc n)) k e longer inside constant =
    let len = character_len c rest found e in
    let len' = character_len c (take n rest) _ constant.1 in
    let all : length (take n rest) ≡ n = length-take-le n rest (omega arith) in
    absurd (omega arith)

head_is : (text : List ℕ) (b : ℕ) (bytes : List ℕ) → text ≡ b ∷ bytes → is_sign text ≡ true → (is_letter b ≡ false) × (is_digit b ≡ false) × ((b == 39) ≡ false)
head_is [] b bytes same sign = cc
head_is (c ∷ cs) b bytes same sign =
    let first : c ≡ b = ap (λ l. get_or l 0 0) same in
    let parts = and_parts (not (is_letter c)) (not (is_digit c) && not (c == 39)) sign in
    let more = and_parts (not (is_digit c)) (not (c == 39)) parts.1 in
    (ap is_letter (sym first) ∙ not-true (is_letter c) parts.0, ap is_digit (sym first) ∙ not-true (is_digit c) more.0, ap (λ x. x == 39) (sym first) ∙ not-true (c == 39) more.1)

run_head : (begins : ℕ → Bool) (read : List ℕ → Result Lexeme TokenFault) (text : List ℕ) (k : TokenKind) (b : ℕ) (bytes : List ℕ) → text ≡ b ∷ bytes → IsRun begins read text k → begins b ≡ true
run_head begins read [] k b bytes same run = absurd run
run_head begins read (c ∷ cs) k b bytes same run = ap begins (sym (ap (λ l. get_or l 0 0) same)) ∙ run.0

constant_head : (text : List ℕ) (k : TokenKind) (b : ℕ) (bytes : List ℕ) → text ≡ b ∷ bytes → IsConstant text k → b ≡ 39
constant_head [] k b bytes same constant = absurd constant
constant_head (c ∷ cs) k b bytes same constant = sym (ap (λ l. get_or l 0 0) same) ∙ constant.0

module _ (b : ℕ) (bytes : List ℕ) (n : ℕ) (k : TokenKind) (some : 0 < n) where
  not_run : (begins : ℕ → Bool) (read : List ℕ → Result Lexeme TokenFault) → begins b ≡ false → IsRun begins read (take n (b ∷ bytes)) k → ⊥
  not_run begins read other run = false≢true (sym other ∙ run_head begins read (take n (b ∷ bytes)) k b (take (n - 1) bytes) (front_of n b bytes some) run)

  is_quote : IsConstant (take n (b ∷ bytes)) k → b ≡ 39
  is_quote constant = constant_head (take n (b ∷ bytes)) k b (take (n - 1) bytes) (front_of n b bytes some) constant

  begins_sign : Contains punctuators (take n (b ∷ bytes), k) → (is_letter b ≡ false) × (is_digit b ≡ false) × ((b == 39) ≡ false)
  begins_sign there = head_is (take n (b ∷ bytes)) b (take (n - 1) bytes) (front_of n b bytes some) (signs (take n (b ∷ bytes)) k there)

-- where the bytes begin with a letter or a digit, a token takes no more than the word bytes at the front
no_longer_word : (b : ℕ) (bytes : List ℕ) (n : ℕ) (k : TokenKind) → (is_letter b ≡ true) ⊎ (is_digit b ≡ true) → prefix_len is_word_byte (b ∷ bytes) < n → n ≤ length (b ∷ bytes) → IsToken (take n (b ∷ bytes)) k → ⊥
no_longer_word b bytes n k first longer inside token =
    let some : 0 < n = omega arith in
    elim token [
      | inl run ↦ no_longer_run is_letter word_at (b ∷ bytes) n k word_len longer inside run
      | inr other ↦ elim other [
        | inl run ↦ no_longer_run is_digit number_at (b ∷ bytes) n k number_len longer inside run
        | inr other ↦ elim other [
          | inl constant ↦
              let quote = is_quote b bytes n k some constant in
              elim first [ inl letter ↦ false≢true (sym (ap is_letter quote) ∙ letter) | inr digit ↦ false≢true (sym (ap is_digit quote) ∙ digit) ]
          | inr sign ↦
              let parts = begins_sign b bytes n k some sign in
              elim first [ inl letter ↦ false≢true (sym parts.0 ∙ letter) | inr digit ↦ false≢true (sym parts.1 ∙ digit) ]
        ]
      ]
    ]

-- the token found where a byte begins it is the longest one there
pub token_longest : (b : ℕ) (bytes : List ℕ) (found : Lexeme) → token_at b bytes ≡ Ok found → IsLongest (b ∷ bytes) found
token_longest b bytes found e =
    let lies = token_lies b bytes found e in
    elim (chosen (is_letter b) _ _ _ e) [
      | inl h ↦ record {
        lies = lies;
        token = inl (found_run is_letter word b bytes found h.0 lies.some lies.within h.1);
        longest = λ n k longer inside token. let len = word_len (b ∷ bytes) found h.1 in no_longer_word b bytes n k (inl h.0) (omega arith) inside token;
      }
      | inr h ↦ elim (chosen (is_digit b) _ _ _ h.1) [
        | inl d ↦ record {
          lies = lies;
          token = inr (inl (found_run is_digit (λ text. ok_or (option_map TokenKind.Number (number text)) TokenFault.Number) b bytes found d.0 lies.some lies.within d.1));
          longest = λ n k longer inside token. let len = number_len (b ∷ bytes) found d.1 in no_longer_word b bytes n k (inr d.0) (omega arith) inside token;
        }
        | inr d ↦ elim (chosen (eqb b 39) _ _ _ d.1) [
          | inl q ↦
              let constant = ok_or_some (character bytes) TokenFault.Character found q.1 in
              record {
                lies = lies;
                token = inr (inr (inl (found_constant b bytes found (eqb-true b 39 q.0) constant)));
                longest = λ n k longer inside token.
                    let some : 0 < n = omega arith in
                    elim token [
                      | inl run ↦ not_run b bytes n k some is_letter word_at h.0 run
                      | inr other ↦ elim other [
                        | inl run ↦ not_run b bytes n k some is_digit number_at d.0 run
                        | inr other ↦ elim other [
                          | inl more ↦ no_longer_constant b bytes found n k constant longer inside more
                          | inr sign ↦ false≢true (sym ((begins_sign b bytes n k some sign).2) ∙ q.0)
                        ]
                      ]
                    ];
              }
          | inr q ↦
              let sign = ok_or_some (punctuator (b ∷ bytes)) (TokenFault.Byte b) found q.1 in
              record {
                lies = lies;
                token = inr (inr (inr (found_sign punctuators (b ∷ bytes) found sign)));
                longest = λ n k longer inside token.
                    let some : 0 < n = omega arith in
                    elim token [
                      | inl run ↦ not_run b bytes n k some is_letter word_at h.0 run
                      | inr other ↦ elim other [
                        | inl run ↦ not_run b bytes n k some is_digit number_at d.0 run
                        | inr other ↦ elim other [
                          | inl constant ↦ false≢true (sym q.0 ∙ eq-eqb b 39 (is_quote b bytes n k some constant))
                          | inr more ↦ no_longer_sign (b ∷ bytes) found n k sign longer inside more
                        ]
                      ]
                    ];
              }
        ]
      ]
    ]

pub result_longest : (r : Result Lexeme TokenFault) (b : ℕ) (others bytes : List ℕ) → bytes ≡ b ∷ others → r ≡ token_at b others → IfOk r (IsLongest bytes)
result_longest (Ok found) b others bytes parts e = subst (λ l. IsLongest l found) (sym parts) (token_longest b others found (sym e))
result_longest (Err fault) b others bytes parts e = tt
