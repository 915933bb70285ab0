-- The tokens of a line, a step at a time.
use Rattle.sharc_lex.proofs.{Imports.{◌≡◌, ℕ, zero, suc, ◌+◌, ◌-◌, ◌<◌, false, cond, List, [], ◌∷◌, ◌++◌, length, get_or, drop, Result, Ok, Err, sym, refl, ap, ◌∙◌, arith, add-zero, append_assoc, Token, TokenFault, LineFault, SourceLine, Lexeme, is_white_space, tokens_of, token, at_offset, behind_tokens, Steps, ◌>>=◌, token_at}, LexemeLemmas.token_lies}

-- after the bytes that belong to a token
pub tokens_of-taken : (place : SourceLine) (taken offset : ℕ) (bytes : List ℕ) → tokens_of place taken offset bytes ≡ tokens_of place 0 (offset + taken) (drop taken bytes)
tokens_of-taken place zero offset bytes = ap (λ o. tokens_of place 0 o bytes) (sym (add-zero offset))
tokens_of-taken place (suc taken) offset [] = refl
tokens_of-taken place (suc taken) offset (b ∷ bytes) =
    let same : offset + 1 + taken ≡ offset + suc taken = omega arith in
    tokens_of-taken place taken (offset + 1) bytes ∙ ap (λ o. tokens_of place 0 o (drop taken bytes)) same

tokens_of-black : (place : SourceLine) (offset b : ℕ) (bytes : List ℕ) → is_white_space b ≡ false → tokens_of place 0 offset (b ∷ bytes) ≡ (at_offset offset (token_at b bytes) >>= λ found. tokens_of place (found.len - 1) (offset + 1) bytes >>= λ tokens. Ok (token place offset (b ∷ bytes) found ∷ tokens))
tokens_of-black place offset b bytes black = ap (λ t. cond t (tokens_of place 0 (offset + 1) bytes) (at_offset offset (token_at b bytes) >>= λ found. tokens_of place (found.len - 1) (offset + 1) bytes >>= λ tokens. Ok (token place offset (b ∷ bytes) found ∷ tokens))) black

-- a fault ends the line
pub tokens_of-fault : (place : SourceLine) (offset b : ℕ) (bytes : List ℕ) (fault : TokenFault) → is_white_space b ≡ false → token_at b bytes ≡ Err fault → tokens_of place 0 offset (b ∷ bytes) ≡ Err (record { offset = offset; fault = fault })
tokens_of-fault place offset b bytes fault black e = tokens_of-black place offset b bytes black ∙ ap (λ r. at_offset offset r >>= λ found. tokens_of place (found.len - 1) (offset + 1) bytes >>= λ tokens. Ok (token place offset (b ∷ bytes) found ∷ tokens)) e

drop_rest : (n b : ℕ) (bytes : List ℕ) → 0 < n → drop (n - 1) bytes ≡ drop n (b ∷ bytes)
drop_rest zero b bytes h = absurd (omega (arith, h))
drop_rest (suc n) b bytes h = let same : suc n - 1 ≡ n = omega arith in ap (λ k. drop k bytes) same

-- a token, and what follows it
pub tokens_of-token : (place : SourceLine) (offset b : ℕ) (bytes : List ℕ) (found : Lexeme) → is_white_space b ≡ false → token_at b bytes ≡ Ok found → tokens_of place 0 offset (b ∷ bytes) ≡ (tokens_of place 0 (offset + found.len) (drop found.len (b ∷ bytes)) >>= λ tokens. Ok (token place offset (b ∷ bytes) found ∷ tokens))
tokens_of-token place offset b bytes found black e =
    let lies = token_lies b bytes found e in
    let same : offset + 1 + (found.len - 1) ≡ offset + found.len = omega (arith, lies.some) in
    let rest = tokens_of-taken place (found.len - 1) (offset + 1) bytes ∙ ap (λ o. tokens_of place 0 o (drop (found.len - 1) bytes)) same ∙ ap (λ l. tokens_of place 0 (offset + found.len) l) (drop_rest found.len b bytes lies.some) in
    tokens_of-black place offset b bytes black ∙ ap (λ r. at_offset offset r >>= λ found. tokens_of place (found.len - 1) (offset + 1) bytes >>= λ tokens. Ok (token place offset (b ∷ bytes) found ∷ tokens)) e ∙ ap (λ r. r >>= λ tokens. Ok (token place offset (b ∷ bytes) found ∷ tokens)) rest

-- one token more comes before the rest
pub behind_tokens-push : (before : List Token) (t : Token) (r : Result (List Token) LineFault) → behind_tokens before (r >>= λ tokens. Ok (t ∷ tokens)) ≡ behind_tokens (before ++ t ∷ []) r
behind_tokens-push before t (Ok tokens) = ap (λ ts. Ok ts) (sym (append_assoc before (t ∷ []) tokens))
behind_tokens-push before t (Err found) = refl

pub step_token : (tokens : List Token) (place : SourceLine) (offset : ℕ) (bytes : List ℕ) (found : Lexeme) → 0 < length bytes → is_white_space (get_or bytes 0 0) ≡ false → token_at (get_or bytes 0 0) (drop 1 bytes) ≡ Ok found → Steps tokens (tokens ++ token place offset bytes found ∷ []) place offset bytes found.len
step_token tokens place offset [] found some black e = absurd (omega (arith, some))
step_token tokens place offset (b ∷ bytes) found some black e =
    let lies = token_lies b bytes found e in
    record {
      some = lies.some;
      within = lies.within;
      read = ap (behind_tokens tokens) (tokens_of-token place offset b bytes found black e) ∙ behind_tokens-push tokens (token place offset (b ∷ bytes) found) (tokens_of place 0 (offset + found.len) (drop found.len (b ∷ bytes)));
    }
