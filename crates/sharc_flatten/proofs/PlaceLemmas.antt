-- Where tokens lie in the text of all of them.
use Rattle.sharc_flatten.proofs.Imports.{◌≡◌, ℕ, zero, suc, ◌+◌, ◌-◌, ◌<◌, ◌≤◌, min, List, [], ◌∷◌, ◌++◌, length, take, drop, get_or, refl, ap, sym, ◌∙◌, arith, append_assoc, zero-add, append-nil, take_at, drop_at, take_min, length-drop, Token, blank_between, tokens_text, Text, places_from, LiesIn, Grows}

abbrev piece : Token → List Token → List ℕ
piece t rest = t.text ++ blank_between t rest

-- where a token begins and ends, from the beginning of the text on
abbrev pub begin_of : List Token → ℕ → ℕ
begin_of [] n = 0
begin_of (t ∷ rest) zero = 0
begin_of (t ∷ rest) (suc n) = length (piece t rest) + begin_of rest n

abbrev pub end_of : List Token → ℕ → ℕ
end_of [] n = 0
end_of (t ∷ rest) zero = length t.text
end_of (t ∷ rest) (suc n) = length (piece t rest) + end_of rest n

pub place_at : (ts : List Token) (at n : ℕ) (d : Text) → n < length ts → get_or (places_from at ts) n d ≡ record { from = at + begin_of ts n; until = at + end_of ts n }
place_at [] at n d h = absurd (omega arith)
place_at (t ∷ rest) at zero d h = let e : at ≡ at + 0 = omega arith in ap (λ f. record { from = f; until = at + length t.text }) e
place_at (t ∷ rest) at (suc n) d h =
    let p = length (piece t rest) in
    let b : (at + p) + begin_of rest n ≡ at + (p + begin_of rest n) = omega arith in
    let e : (at + p) + end_of rest n ≡ at + (p + end_of rest n) = omega arith in
    place_at rest (at + p) n d (omega arith) ∙ (ap (λ f. record { from = f; until = (at + p) + end_of rest n }) b ∙ ap (λ u. record { from = at + (p + begin_of rest n); until = u }) e)

pub places_length : (ts : List Token) (at : ℕ) → length (places_from at ts) ≡ length ts
places_length [] at = refl
places_length (t ∷ rest) at = ap suc (places_length rest (at + length (piece t rest)))

-- past the first list
drop_past : (p q : List ℕ) (n : ℕ) → drop (length p + n) (p ++ q) ≡ drop n q
drop_past [] q n = let e : 0 + n ≡ n = omega arith in ap (λ k. drop k q) e
drop_past (x ∷ p) q n = let e : suc (length p) + n ≡ suc (length p + n) = omega arith in ap (λ k. drop k (x ∷ (p ++ q))) e ∙ drop_past p q n

take_past : (p q : List ℕ) (n : ℕ) → take (length p + n) (p ++ q) ≡ p ++ take n q
take_past [] q n = let e : 0 + n ≡ n = omega arith in ap (λ k. take k q) e
take_past (x ∷ p) q n = let e : suc (length p) + n ≡ suc (length p + n) = omega arith in ap (λ k. take k (x ∷ (p ++ q))) e ∙ ap (λ l. x ∷ l) (take_past p q n)

blank_front : (t : Token) (rest : List Token) (k : ℕ) → blank_between t (take (suc k) rest) ≡ blank_between t rest
blank_front t [] k = refl
blank_front t (r ∷ rest) k = refl

-- the tokens up to one, from the first on
front_words : (ts : List Token) (k : ℕ) (more : List ℕ) → k < length ts → take (end_of ts k) (tokens_text ts ++ more) ≡ tokens_text (take (suc k) ts)
front_words [] k more h = absurd (omega arith)
front_words (t ∷ rest) zero more h =
    ap (λ l. take (length t.text) l) (ap (λ l. l ++ more) (append_assoc t.text (blank_between t rest) (tokens_text rest)) ∙ append_assoc t.text (blank_between t rest ++ tokens_text rest) more)
    ∙ (take_at t.text ((blank_between t rest ++ tokens_text rest) ++ more) (length t.text) refl ∙ sym (append-nil (t.text ++ []) ∙ append-nil t.text))
front_words (t ∷ rest) (suc k) more h =
    ap (λ l. take (length (piece t rest) + end_of rest k) l) (append_assoc (piece t rest) (tokens_text rest) more)
    ∙ (take_past (piece t rest) (tokens_text rest ++ more) (end_of rest k)
    ∙ (ap (λ l. piece t rest ++ l) (front_words rest k more (omega arith))
    ∙ sym (ap (λ b. (t.text ++ b) ++ tokens_text (take (suc k) rest)) (blank_front t rest k))))

-- the tokens from one up to another
pub words : (ts : List Token) (i k : ℕ) (more : List ℕ) → i ≤ k → k < length ts → take (end_of ts k - begin_of ts i) (drop (begin_of ts i) (tokens_text ts ++ more)) ≡ tokens_text (take (suc k - i) (drop i ts))
words [] i k more h l = absurd (omega arith)
words (t ∷ rest) zero k more h l =
    let e : end_of (t ∷ rest) k - 0 ≡ end_of (t ∷ rest) k = omega arith in
    let n : suc k - 0 ≡ suc k = omega arith in
    ap (λ x. take x (tokens_text (t ∷ rest) ++ more)) e ∙ (front_words (t ∷ rest) k more l ∙ ap (λ x. tokens_text (take x (t ∷ rest))) (sym n))
words (t ∷ rest) (suc i) zero more h l = absurd (omega arith)
words (t ∷ rest) (suc i) (suc k) more h l =
    let p = length (piece t rest) in
    let e : (p + end_of rest k) - (p + begin_of rest i) ≡ end_of rest k - begin_of rest i = omega arith in
    let n : suc (suc k) - suc i ≡ suc k - i = omega arith in
    ap (λ x. take x (drop (p + begin_of rest i) ((piece t rest ++ tokens_text rest) ++ more))) e
    ∙ (ap (λ x. take (end_of rest k - begin_of rest i) (drop (p + begin_of rest i) x)) (append_assoc (piece t rest) (tokens_text rest) more)
    ∙ (ap (λ x. take (end_of rest k - begin_of rest i) x) (drop_past (piece t rest) (tokens_text rest ++ more) (begin_of rest i))
    ∙ (words rest i k more (omega arith) (omega arith)
    ∙ ap (λ x. tokens_text (take x (drop i rest))) (sym n))))

-- ---- as the code finds them: by the first and the last of the tokens, where there are that many
within : (from until all : ℕ) → min (until - from) (all - from) ≡ min until all - from
within from until all = omega arith

clipped : (ts : List Token) (from until n : ℕ) → n ≡ min until (length ts) → take (until - from) (drop from ts) ≡ take (n - from) (drop from ts)
clipped ts from until n h =
    let e : min (until - from) (length (drop from ts)) ≡ n - from = ap (λ l. min (until - from) l) (length-drop from ts) ∙ (within from until (length ts) ∙ ap (λ k. k - from) (sym h)) in
    sym (take_min (until - from) (drop from ts)) ∙ ap (λ k. take k (drop from ts)) e

pub words_lie : (ts : List Token) (ps : List Text) (from until n : ℕ) (a b : Text) → ps ≡ places_from 0 ts → n ≡ min until (length ts) → from < n → a ≡ get_or ps from a → b ≡ get_or ps (n - 1) b
    → LiesIn (tokens_text ts) (record { from = a.from; until = b.until }) (tokens_text (take (until - from) (drop from ts)))
words_lie ts ps from until n a b is count some first last more =
    let first_is : a ≡ record { from = 0 + begin_of ts from; until = 0 + end_of ts from } = first ∙ (ap (λ l. get_or l from a) is ∙ place_at ts 0 from a (omega (arith, count, some))) in
    let last_is : b ≡ record { from = 0 + begin_of ts (n - 1); until = 0 + end_of ts (n - 1) } = last ∙ (ap (λ l. get_or l (n - 1) b) is ∙ place_at ts 0 (n - 1) b (omega (arith, count, some))) in
    let from_is : a.from ≡ begin_of ts from = ap (λ t. t.from) first_is ∙ zero-add (begin_of ts from) in
    let until_is : b.until ≡ end_of ts (n - 1) = ap (λ t. t.until) last_is ∙ zero-add (end_of ts (n - 1)) in
    let length_is : suc (n - 1) - from ≡ n - from = omega (arith, some) in
    ap (λ k. take (b.until - k) (drop k (tokens_text ts ++ more))) from_is
    ∙ (ap (λ k. take (k - begin_of ts from) (drop (begin_of ts from) (tokens_text ts ++ more))) until_is
    ∙ (words ts from (n - 1) more (omega (arith, some)) (omega (arith, count, some))
    ∙ (ap (λ k. tokens_text (take k (drop from ts))) length_is
    ∙ sym (ap tokens_text (clipped ts from until n count)))))

pub no_words : (ts : List Token) (from until n : ℕ) → n ≡ min until (length ts) → n ≤ from → tokens_text (take (until - from) (drop from ts)) ≡ []
no_words ts from until n count none =
    let e : n - from ≡ 0 = omega (arith, none) in
    ap tokens_text (clipped ts from until n count ∙ ap (λ k. take k (drop from ts)) e)

-- ---- texts at the end of the bytes
pub lies_at_end : (old what now : List ℕ) (place : Text) → now ≡ old ++ what → place.from ≡ length old → place.until ≡ length old + length what → LiesIn now place what
lies_at_end old what now place is from until more =
    let whole : now ++ more ≡ old ++ (what ++ more) = ap (λ l. l ++ more) is ∙ append_assoc old what more in
    let count : place.until - place.from ≡ length what = omega (arith, from, until) in
    ap (λ l. take (place.until - place.from) (drop place.from l)) whole
    ∙ (ap (λ k. take k (drop place.from (old ++ (what ++ more)))) count
    ∙ (ap (λ l. take (length what) l) (drop_at old (what ++ more) place.from (sym from))
    ∙ take_at what more (length what) refl))

pub lies_on : (old now what : List ℕ) (place : Text) → LiesIn old place what → Grows old now → LiesIn now place what
lies_on old now what place lies grows more =
    ap (λ l. take (place.until - place.from) (drop place.from l)) (ap (λ l. l ++ more) (sym grows.1) ∙ append_assoc old grows.0 more) ∙ lies (grows.0 ++ more)

pub grows_by : (old what now : List ℕ) → now ≡ old ++ what → Grows old now
grows_by old what now is = (what, sym is)

pub grows_more : (a b c : List ℕ) → Grows a b → Grows b c → Grows a c
grows_more a b c g h = (g.0 ++ h.0, sym (append_assoc a g.0 h.0) ∙ (ap (λ l. l ++ h.0) g.1 ∙ h.1))
