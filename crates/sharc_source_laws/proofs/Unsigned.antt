-- No number in a token has a sign, and its type holds it, as that of a character does.
use Rattle.sharc_source_laws.proofs.{Imports.{◌≡◌, ℕ, pos, zero, suc, ◌+◌, ◌-◌, ◌==◌, Bool, true, false, List, [], ◌∷◌, ◌++◌, take, drop, Option, Some, None, Result, Ok, Err, ok_or, refl, sym, subst, arith, if◌then◌else◌, nat_tests, option_map, slice_get, nat_le, nat_lt, ◌^◌, unwrap_or, length, nat_eq, ◌||◌, ◌&&◌, not, ◌<◌, bytes_eq, starts_with, prefix_len, globals_in, functions_in, FaultAt, Int, Long, Token, Tokens, TokenKind, Constant, TokenFault, LineFault, SourceLine, Lexeme, is_blank, is_printable, is_letter, is_digit, is_white_space, is_word_byte, character, escaped, behind_backslash, plain, ◌>>=◌, at_offset, lines_of, token, tokens_of, behind_tokens, Read, opening, marked, with_tokens, marker_line, text_line, line_read, with_place, lines_read, tokens_read, reading, is_marker_line, marker, without_suffix, has_suffix, typed, small_value, first_begun, punctuators, punctuator, of_len, word_at, number_at, token_at, entry_at, keywords, word, kind_word, words_of, site_in, IsHeld, ConstantsAreHeld, NumbersHaveNoSign}, Ends.{IsPlainWord, Plainly, globals_begin, begins_unsigned}, Held.functions_held}
use Rattle.sharc_lex.specs.{Characters.constant, Numbers.value}

-- ---- one token
abbrev IsPlainKind : TokenKind → Type 0
IsPlainKind k = (text : List ℕ) → IsPlainWord (kind_word k text)

abbrev WhereFound : {E : Type 0} → Result Lexeme E → Type 0
WhereFound (Ok found) = IsPlainKind found.kind
WhereFound (Err e) = Unit {0}

abbrev IsPlainEntry : Option TokenKind → Type 0
IsPlainEntry None = Unit {0}
IsPlainEntry (Some k) = IsPlainKind k

abbrev AllPlain : List (List ℕ × TokenKind) → Type 0
AllPlain [] = Unit {0}
AllPlain (e ∷ es) = IsPlainKind e.1 × AllPlain es

entry_plain : (table : List (List ℕ × TokenKind)) (text : List ℕ) → AllPlain table → IsPlainEntry (entry_at table text)
entry_plain [] text h = tt
entry_plain (e ∷ es) text h = either (bytes_eq text e.0) (entry_plain es text h.1)
  where
    either : (b : Bool) → IsPlainEntry (entry_at es text) → IsPlainEntry (if b then Some e.1 else entry_at es text)
    either true rest = h.0
    either false rest = rest

begun_plain : (table : List (List ℕ × TokenKind)) (bytes : List ℕ) (e : TokenFault) → AllPlain table → WhereFound (ok_or (first_begun table bytes) e)
begun_plain [] bytes e h = tt
begun_plain (x ∷ xs) bytes e h = either (starts_with nat_eq bytes x.0) (begun_plain xs bytes e h.1)
  where
    either : (b : Bool) → WhereFound (ok_or (first_begun xs bytes) e) → WhereFound (ok_or (if b then Some (record { len = length x.0; kind = x.1 }) else first_begun xs bytes) e)
    either true rest = h.0
    either false rest = rest

-- a kind that is no number has none
abbrev is_other : TokenKind → Bool
is_other (TokenKind.Number n) = false
is_other (TokenKind.Character b) = false
is_other _ = true

abbrev are_other : List (List ℕ × TokenKind) → Bool
are_other [] = true
are_other (e ∷ es) = if is_other e.1 then are_other es else false

other_plain : (k : TokenKind) → is_other k ≡ true → IsPlainKind k
other_plain (TokenKind.Number n) h = absurd (let e : false ≡ true = h in cc)
other_plain (TokenKind.Character c) h = absurd (let e : false ≡ true = h in cc)
other_plain _ h = λ text. tt

others_plain : (table : List (List ℕ × TokenKind)) → are_other table ≡ true → AllPlain table
others_plain [] h = tt
others_plain (e ∷ es) h = by (is_other e.1) refl (others_plain es) h
  where
    by : (b : Bool) → is_other e.1 ≡ b → (are_other es ≡ true → AllPlain es) → (if b then are_other es else false) ≡ true → AllPlain (e ∷ es)
    by true is rest h = (other_plain e.1 is, rest h)
    by false is rest h = absurd (let e : false ≡ true = h in cc)

keywords_plain : AllPlain keywords
unfolding keywords
keywords_plain = others_plain keywords refl

word_plain : (len : ℕ) (text : List ℕ) → WhereFound (of_len len (word text))
word_plain len text = either (nat_le (length text) 64)
  where
    chosen : (o : Option TokenKind) → IsPlainEntry o → IsPlainKind (unwrap_or o TokenKind.Identifier)
    chosen None h = λ text. tt
    chosen (Some k) h = h

    either : (b : Bool) → WhereFound (of_len len (if b then Ok (unwrap_or (entry_at keywords text) TokenKind.Identifier) else Err TokenFault.Identifier))
    either true = chosen (entry_at keywords text) (entry_plain keywords text keywords_plain)
    either false = tt

-- a number that the lexer types
typed_held : (text : List ℕ) (v : ℕ) → nat_lt v (2 ^ 63) ≡ true → IsHeld (Constant.Number (typed text v))
typed_held text v small = by (has_suffix text || nat_lt 2147483647 v) refl
  where
    below : (s : Bool) → (s || nat_lt 2147483647 v) ≡ false → nat_lt v (2 ^ 31) ≡ true
    below true e = absurd (let z : true ≡ false = e in cc)
    below false e = grind (arith, nat_tests)

    by : (b : Bool) → (has_suffix text || nat_lt 2147483647 v) ≡ b → IsHeld (Constant.Number (record { value = pos v; number_type = if b then Long else Int }))
    by true e = λ integer. small
    by false e = λ integer. below (has_suffix text) e

number_plain : (len : ℕ) (text : List ℕ) (e : TokenFault) (o : Option ℕ) → WhereFound (of_len len (ok_or (option_map TokenKind.Number (option_map (typed text) (small_value o))) e))
number_plain len text e None = tt
number_plain len text e (Some v) = either (nat_lt v (2 ^ 63)) refl
  where
    either : (b : Bool) → nat_lt v (2 ^ 63) ≡ b → WhereFound (of_len len (ok_or (option_map TokenKind.Number (option_map (typed text) (if b then Some v else None))) e))
    either true small = λ any. ((v, refl), typed_held text v small)
    either false small = tt

-- a character
low_held : (b : ℕ) → b < 128 → IsHeld (Constant.Character b)
low_held b lt = λ integer. below b lt
  where
    below : (b : ℕ) → b < 128 → nat_lt b (2 ^ 31) ≡ true
    below b lt = grind (arith, nat_tests)

abbrev IsLow : Option ℕ → Type 0
IsLow None = Unit {0}
IsLow (Some b) = b < 128

made_plain : (n : ℕ) (e : TokenFault) (o : Option ℕ) → IsLow o → WhereFound (ok_or (option_map (constant n) o) e)
made_plain n e None h = tt
made_plain n e (Some b) h = λ text. low_held b h

choose_low : (b : Bool) (x y : Option ℕ) → IsLow x → IsLow y → IsLow (if b then x else y)
choose_low true x y h k = h
choose_low false x y h k = k

escaped_low : (b : ℕ) → IsLow (escaped b)
escaped_low b =
    choose_low (b == 110) _ _ (omega arith) (choose_low (b == 116) _ _ (omega arith) (choose_low (b == 114) _ _ (omega arith) (choose_low (b == 48) _ _ (omega arith)
    (choose_low (b == 92) _ _ (omega arith) (choose_low (b == 39) _ _ (omega arith) (choose_low (b == 34) _ _ (omega arith) tt))))))

behind_backslash_low : (bytes : List ℕ) → IsLow (behind_backslash bytes)
behind_backslash_low (e ∷ (quote ∷ bytes)) = choose_low (quote == 39) _ _ (escaped_low e) tt
behind_backslash_low _ = tt

plain_low : (bytes : List ℕ) → IsLow (plain bytes)
plain_low (b ∷ (quote ∷ bytes)) = by (is_printable b && not (b == 39) && (quote == 39)) refl
  where
    printable : (p q r : Bool) → (p && q && r) ≡ true → p ≡ true
    printable true q r e = refl
    printable false q r e = absurd (let z : false ≡ true = e in cc)

    low : is_printable b ≡ true → b < 128
    low e = above (nat_le 32 b) e
      where
        above : (p : Bool) → (p && nat_le b 126) ≡ true → b < 128
        above true e = grind (arith, nat_tests)
        above false e = absurd (let z : false ≡ true = e in cc)

    by : (p : Bool) → (is_printable b && not (b == 39) && (quote == 39)) ≡ p → IsLow (if p then Some b else None)
    by true e = low (printable (is_printable b) (not (b == 39)) (quote == 39) e)
    by false e = tt
plain_low _ = tt

character_plain : (bytes : List ℕ) (e : TokenFault) → WhereFound (ok_or (character bytes) e)
character_plain [] e = tt
character_plain (b ∷ bytes) e = either (b == 92)
  where
    either : (q : Bool) → WhereFound (ok_or (if q then option_map (constant 4) (behind_backslash bytes) else option_map (constant 3) (plain (b ∷ bytes))) e)
    either true = made_plain 4 e (behind_backslash bytes) (behind_backslash_low bytes)
    either false = made_plain 3 e (plain (b ∷ bytes)) (plain_low (b ∷ bytes))

token_plain : (b : ℕ) (bytes : List ℕ) → WhereFound (token_at b bytes)
token_plain b bytes = letter (is_letter b)
  where
    quote : (q : Bool) → WhereFound (if q then ok_or (character bytes) TokenFault.Character else ok_or (punctuator (b ∷ bytes)) (TokenFault.Byte b))
    quote true = character_plain bytes TokenFault.Character
    quote false = begun_plain punctuators (b ∷ bytes) (TokenFault.Byte b) (others_plain punctuators refl)

    digit : (q : Bool) → WhereFound (if q then number_at (b ∷ bytes) else (if b == 39 then ok_or (character bytes) TokenFault.Character else ok_or (punctuator (b ∷ bytes)) (TokenFault.Byte b)))
    digit true = (let len = prefix_len is_word_byte (b ∷ bytes) in let text = take len (b ∷ bytes) in number_plain len text TokenFault.Number (value (without_suffix text)))
    digit false = quote (b == 39)

    letter : (q : Bool) → WhereFound (if q then word_at (b ∷ bytes) else (if is_digit b then number_at (b ∷ bytes) else (if b == 39 then ok_or (character bytes) TokenFault.Character else ok_or (punctuator (b ∷ bytes)) (TokenFault.Byte b))))
    letter true = let len = prefix_len is_word_byte (b ∷ bytes) in word_plain len (take len (b ∷ bytes))
    letter false = digit (is_digit b)

-- ---- the tokens of a line
abbrev WhereRead : {E : Type 0} → Result (List Token) E → Type 0
WhereRead (Ok tokens) = Plainly (words_of tokens)
WhereRead (Err e) = Unit {0}

tokens_plain : (place : SourceLine) (taken offset : ℕ) (bytes : List ℕ) → WhereRead (tokens_of place taken offset bytes)
tokens_plain place taken offset [] = tt
tokens_plain place (suc taken) offset (b ∷ bytes) = tokens_plain place taken (offset + 1) bytes
tokens_plain place zero offset (b ∷ bytes) = either (is_white_space b) (λ taken. tokens_plain place taken (offset + 1) bytes)
  where
    joined : (found : Lexeme) → IsPlainKind found.kind → (r : Result (List Token) LineFault) → WhereRead r → WhereRead (r >>= λ tokens. Ok (token place offset (b ∷ bytes) found ∷ tokens))
    joined found h (Ok tokens) k = (h _, k)
    joined found h (Err e) k = tt

    begun : (r : Result Lexeme TokenFault) → WhereFound r → ((taken : ℕ) → WhereRead (tokens_of place taken (offset + 1) bytes))
        → WhereRead (at_offset offset r >>= λ found. (tokens_of place (found.len - 1) (offset + 1) bytes >>= λ tokens. Ok (token place offset (b ∷ bytes) found ∷ tokens)))
    begun (Ok found) h rest = joined found h (tokens_of place (found.len - 1) (offset + 1) bytes) (rest (found.len - 1))
    begun (Err e) h rest = tt

    either : (q : Bool) → ((taken : ℕ) → WhereRead (tokens_of place taken (offset + 1) bytes))
        → WhereRead (if q then tokens_of place 0 (offset + 1) bytes else (at_offset offset (token_at b bytes) >>= λ found. (tokens_of place (found.len - 1) (offset + 1) bytes >>= λ tokens. Ok (token place offset (b ∷ bytes) found ∷ tokens))))
    either true rest = rest 0
    either false rest = begun (token_at b bytes) (token_plain b bytes) rest

-- ---- the tokens of all lines
plain_joined : (xs ys : List Token) → Plainly (words_of xs) → Plainly (words_of ys) → Plainly (words_of (xs ++ ys))
plain_joined [] ys h k = k
plain_joined (x ∷ xs) ys h k = (h.0, plain_joined xs ys h.1 k)

abbrev WhereAll : {E : Type 0} → Result Read E → Type 0
WhereAll (Ok read) = Plainly (words_of read.tokens)
WhereAll (Err e) = Unit {0}

marker_plain : (read : Read) → Plainly (words_of read.tokens) → (o : Option (ℕ × List ℕ)) (f : LineFault) → WhereAll (ok_or o f >>= λ found. Ok (marked read found))
marker_plain read h None f = tt
marker_plain read h (Some found) f = h

text_plain : (read : Read) → Plainly (words_of read.tokens) → (r : Result (List Token) LineFault) → WhereRead r → WhereAll (behind_tokens read.tokens r >>= λ tokens. Ok (with_tokens read tokens))
text_plain read h (Ok tokens) k = plain_joined read.tokens tokens h k
text_plain read h (Err e) k = tt

line_plain : (read : Read) → Plainly (words_of read.tokens) → (offset : ℕ) (line : List ℕ) → WhereAll (line_read read offset line)
line_plain read h offset line = either (is_marker_line line)
  where
    either : (b : Bool) → WhereAll (if b then marker_line read offset line else text_line read offset line)
    either true = marker_plain read h (marker (drop (prefix_len is_blank line + 1) line)) (record { offset = offset + prefix_len is_blank line; fault = TokenFault.Marker })
    either false = text_plain read h (tokens_of read.next 0 offset line) (tokens_plain read.next 0 offset line)

lines_plain : (lines : List (List ℕ)) (read : Read) → Plainly (words_of read.tokens) → (offset : ℕ) → WhereAll (lines_read read offset lines)
lines_plain [] read h offset = h
lines_plain (line ∷ lines) read h offset = joined (line_read read offset line) _ (line_plain read h offset line) (λ more k. lines_plain lines more k _)
  where
    joined : (r : Result Read LineFault) (f : Read → Result Read (FaultAt TokenFault)) → WhereAll r → ((more : Read) → Plainly (words_of more.tokens) → WhereAll (f more)) → WhereAll (with_place read r >>= f)
    joined (Ok more) f h all = all more h
    joined (Err e) f h all = tt

abbrev pub list_of : Result Tokens (FaultAt TokenFault) → List Token
list_of (Ok tokens) = tokens.list
list_of (Err e) = []

listed_plain : (r : Result Read (FaultAt TokenFault)) → WhereAll r → Plainly (words_of (list_of (r >>= λ read. Ok (tokens_read read))))
listed_plain (Ok read) h = h
listed_plain (Err e) h = tt

read_plain : (source : List ℕ) → Plainly (words_of (list_of (reading source)))
unfolding reading
read_plain source = listed_plain (lines_read opening 0 (lines_of source)) (lines_plain (lines_of source) opening tt 0)

-- so it is of all words of a program
plain_words : (source : List ℕ) (tokens : Tokens) → reading source ≡ Ok tokens → Plainly (words_of tokens.list)
plain_words source tokens read = subst (λ r. Plainly (words_of (list_of r))) read (read_plain source)

pub no_signs : NumbersHaveNoSign
no_signs source tokens p read reads g d is span minus k form =
    let all = globals_begin (site_in tokens.list) reads.phrases 0 (subst Plainly (sym reads.spelled) (plain_words source tokens read)) in
    begins_unsigned d.form (all g d (subst (λ items. slice_get (globals_in items) g ≡ Some d) reads.placed is)) span minus k form

pub constants_held : ConstantsAreHeld
constants_held source tokens p read reads n f is =
    functions_held (site_in tokens.list) reads.phrases 0 (subst Plainly (sym reads.spelled) (plain_words source tokens read)) n f (subst (λ items. slice_get (functions_in items) n ≡ Some f) reads.placed is)
