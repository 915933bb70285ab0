-- Numbers and places in lines.
use Rattle.sharc_schedule.proofs.Imports.{some_is, none_not_some, ◌≡◌, ◌≢◌, ℕ, ◌<◌, ◌≤◌, ◌^◌, ◌==◌, ◌&&◌, Bool, true, false, nat_le, ◌⊎◌, inl, inr, ⊎_elim, List, [], ◌∷◌, ◌++◌, Option, Some, None, length, decimal, refl, sym, ap, ◌∙◌, subst, arith, eq-eqb, ne_eqb, eqb-true, if◌then◌else◌, decimal_is_IsNumeral, le-leb, leb-true, true_or_false, bytes_eq, digits_value, AllDigits, digit_value, place_line, IsPlace, AreNumbers, Begins, number_in, pair_of, word_of, after_word, place_read, numbers_in, rest_after, and_left, and_right, if_no, if_yes, bytes_same, bytes_alike}

-- ---- bytes that a list lacks
abbrev pub Lacks : ℕ → List ℕ → Type 0
Lacks b [] = Unit {0}
Lacks b (x ∷ xs) = (x ≢ b) × Lacks b xs

digits_lack : (b : ℕ) → ¬ (digit_value b < 10) → (ds : List ℕ) → AllDigits 10 ds → Lacks b ds
digits_lack b not [] h = tt
digits_lack b not (d ∷ ds) h = ((λ e. not (subst (λ x. digit_value x < 10) e h.0)), digits_lack b not ds h.1)

pub decimal_lacks_blank : (n : ℕ) → n < 2 ^ 64 → Lacks 32 (decimal n)
decimal_lacks_blank n lt = digits_lack 32 (λ h. omega arith) (decimal n) (decimal_is_IsNumeral n lt).0.1

pub decimal_lacks_newline : (n : ℕ) → n < 2 ^ 64 → Lacks 10 (decimal n)
decimal_lacks_newline n lt = digits_lack 10 (λ h. omega arith) (decimal n) (decimal_is_IsNumeral n lt).0.1

pub lacks-append : (b : ℕ) (xs ys : List ℕ) → Lacks b xs → Lacks b ys → Lacks b (xs ++ ys)
lacks-append b [] ys h k = k
lacks-append b (x ∷ xs) ys h k = (h.0, lacks-append b xs ys h.1 k)

-- ---- one number
pub bytes_differ : (xs ys : List ℕ) → xs ≢ ys → bytes_eq xs ys ≡ false
bytes_differ xs ys apart = true_or_false (bytes_eq xs ys) (λ e. apart (bytes_same xs ys e))

number_by : (low high n value : ℕ) (word : List ℕ) (b : Bool) → (bytes_eq (decimal value) word && (nat_le low value && nat_le value high)) ≡ b → (if b then Some value else None) ≡ Some n
    → (word ≡ decimal n) × (low ≤ n) × (n ≤ high)
number_by low high n value word false is e = absurd (none_not_some n e)
number_by low high n value word true is e =
    let same : value ≡ n = some_is value n e in
    let first = and_left (bytes_eq (decimal value) word) (nat_le low value && nat_le value high) is in
    let rest = and_right (bytes_eq (decimal value) word) (nat_le low value && nat_le value high) is in
    let least = leb-true low value (and_left (nat_le low value) (nat_le value high) rest) in
    let most = leb-true value high (and_right (nat_le low value) (nat_le value high) rest) in
    (sym (bytes_same (decimal value) word first) ∙ ap decimal same, omega arith, omega arith)

pub number_sound : (low high n : ℕ) (word : List ℕ) → number_in low high word ≡ Some n → (word ≡ decimal n) × (low ≤ n) × (n ≤ high)
number_sound low high n word e =
    let value : ℕ = digits_value 10 word in
    number_by low high n value word (bytes_eq (decimal value) word && (nat_le low value && nat_le value high)) refl e

pub number_complete : (low high n : ℕ) → n < 2 ^ 64 → low ≤ n → n ≤ high → number_in low high (decimal n) ≡ Some n
number_complete low high n small least most =
    let value : digits_value 10 (decimal n) ≡ n = (decimal_is_IsNumeral n small).1 in
    ap (λ v. if bytes_eq (decimal v) (decimal n) && (nat_le low v && nat_le v high) then Some v else None) value
    ∙ if_yes (bytes_eq (decimal n) (decimal n) && (nat_le low n && nat_le n high)) (Some n) None
    (ap (λ b. b && (nat_le low n && nat_le n high)) (bytes_alike (decimal n) (decimal n) refl) ∙ (ap (λ b. b && nat_le n high) (le-leb low n least) ∙ le-leb n high most))

-- ---- two words
pub word_before : (xs ys : List ℕ) → Lacks 32 xs → word_of (xs ++ 32 ∷ ys) ≡ xs
word_before [] ys h = refl
word_before (x ∷ xs) ys h = if_no (x == 32) [] (x ∷ word_of (xs ++ 32 ∷ ys)) (ne_eqb x 32 h.0) ∙ ap (λ zs. x ∷ zs) (word_before xs ys h.1)

pub word_after : (xs ys : List ℕ) → Lacks 32 xs → after_word (xs ++ 32 ∷ ys) ≡ ys
word_after [] ys h = refl
word_after (x ∷ xs) ys h = if_no (x == 32) (xs ++ 32 ∷ ys) (after_word (xs ++ 32 ∷ ys)) (ne_eqb x 32 h.0) ∙ word_after xs ys h.1

pub split_blank : (line : List ℕ) → (line ≡ word_of line ++ 32 ∷ after_word line) ⊎ (after_word line ≡ [])
split_blank [] = inr refl
split_blank (b ∷ bytes) = by (b == 32) refl (split_blank bytes) where
  by : (t : Bool) → (b == 32) ≡ t → (bytes ≡ word_of bytes ++ 32 ∷ after_word bytes) ⊎ (after_word bytes ≡ [])
      → (b ∷ bytes ≡ (if t then [] else b ∷ word_of bytes) ++ 32 ∷ (if t then bytes else after_word bytes)) ⊎ ((if t then bytes else after_word bytes) ≡ [])
  by true e r = inl (ap (λ x. x ∷ bytes) (eqb-true b 32 e))
  by false e r = ⊎_elim (λ is. inl (ap (λ zs. b ∷ zs) is)) (λ is. inr is) r

pub pair_sound : (a b : Option ℕ) (x y : ℕ) → pair_of a b ≡ Some (x, y) → (a ≡ Some x) × (b ≡ Some y)
pair_sound None b x y e = absurd (none_not_some (x, y) e)
pair_sound (Some a) None x y e = absurd (none_not_some (x, y) e)
pair_sound (Some a) (Some b) x y e = let h = some_is (a, b) (x, y) e in (ap (λ p. Some p.0) h, ap (λ p. Some p.1) h)

-- a line of two numbers
pub line_sound : (line : List ℕ) (a b : ℕ) → b < 2 ^ 64 → word_of line ≡ decimal a → after_word line ≡ decimal b → line ≡ decimal a ++ 32 ∷ decimal b
line_sound line a b small first second =
    ⊎_elim
    (λ is. is ∙ (ap (λ xs. xs ++ 32 ∷ after_word line) first ∙ ap (λ ys. decimal a ++ 32 ∷ ys) second))
    (λ none. absurd (
    let some = (decimal_is_IsNumeral b small).0.0 in
    let e : decimal b ≡ [] = sym second ∙ none in
    let h : length (decimal b) ≡ 0 = ap length e in omega arith))
    (split_blank line)

pub place_sound : (line : List ℕ) (place : ℕ × ℕ) → place_read line ≡ Some place → (line ≡ place_line place) × IsPlace place
place_sound line place e =
    let both = pair_sound (number_in 0 30 (word_of line)) (number_in 1 4294967295 (after_word line)) place.0 place.1 e in
    let a = number_sound 0 30 place.0 (word_of line) both.0 in
    let b = number_sound 1 4294967295 place.1 (after_word line) both.1 in
    let most = b.2 in
    (line_sound line place.0 place.1 (omega arith) a.0 b.0, (a.2, b.1, b.2))

pair_complete : (low high least most a b : ℕ) → high < 2 ^ 64 → most < 2 ^ 64 → low ≤ a → a ≤ high → least ≤ b → b ≤ most
    → pair_of (number_in low high (word_of (decimal a ++ 32 ∷ decimal b))) (number_in least most (after_word (decimal a ++ 32 ∷ decimal b))) ≡ Some (a, b)
pair_complete low high least most a b high_fits most_fits a_low a_high b_least b_most =
    let small_a : a < 2 ^ 64 = omega (arith, high_fits, a_high) in
    let small_b : b < 2 ^ 64 = omega (arith, most_fits, b_most) in
    let lacks = decimal_lacks_blank a small_a in
    let first = ap (number_in low high) (word_before (decimal a) (decimal b) lacks) ∙ number_complete low high a small_a a_low a_high in
    let second = ap (number_in least most) (word_after (decimal a) (decimal b) lacks) ∙ number_complete least most b small_b b_least b_most in
    ap (λ o. pair_of o (number_in least most (after_word (decimal a ++ 32 ∷ decimal b)))) first ∙ ap (λ o. pair_of (Some a) o) second

pub place_complete : (place : ℕ × ℕ) → IsPlace place → place_read (place_line place) ≡ Some place
place_complete place is = pair_complete 0 30 1 4294967295 place.0 place.1 (omega arith) (omega arith) (omega arith) is.0 is.1 is.2

pub numbers_sound : (line : List ℕ) (numbers : ℕ × ℕ) → numbers_in line ≡ Some numbers → (line ≡ decimal numbers.0 ++ 32 ∷ decimal numbers.1) × AreNumbers numbers.0 numbers.1
numbers_sound line numbers e =
    let both = pair_sound (number_in 16 65536 (word_of line)) (number_in 1 200000 (after_word line)) numbers.0 numbers.1 e in
    let a = number_sound 16 65536 numbers.0 (word_of line) both.0 in
    let b = number_sound 1 200000 numbers.1 (after_word line) both.1 in
    let most = b.2 in
    (line_sound line numbers.0 numbers.1 (omega arith) a.0 b.0, record { least = a.1; most = a.2; some = b.1; few = b.2 })

pub numbers_complete : (heap limit : ℕ) → AreNumbers heap limit → numbers_in (decimal heap ++ 32 ∷ decimal limit) ≡ Some (heap, limit)
numbers_complete heap limit are = pair_complete 16 65536 1 200000 heap limit (omega arith) (omega arith) are.least are.most are.some are.few

-- ---- the word of the schedule
pub rest_after_sound : (word line rest : List ℕ) → rest_after word line ≡ Some rest → line ≡ word ++ rest
rest_after_sound [] line rest e = some_is line rest e
rest_after_sound (w ∷ word) [] rest e = absurd (none_not_some rest e)
rest_after_sound (w ∷ word) (b ∷ line) rest e = by (b == w) refl e (rest_after_sound word line rest) where
  by : (t : Bool) → (b == w) ≡ t → (if t then rest_after word line else None) ≡ Some rest → (rest_after word line ≡ Some rest → line ≡ word ++ rest) → b ∷ line ≡ w ∷ (word ++ rest)
  by true is e r = ap (λ x. x ∷ line) (eqb-true b w is) ∙ ap (λ xs. w ∷ xs) (r e)
  by false is e r = absurd (none_not_some rest e)

pub rest_after_complete : (word rest : List ℕ) → rest_after word (word ++ rest) ≡ Some rest
rest_after_complete [] rest = refl
rest_after_complete (w ∷ word) rest = if_yes (w == w) (rest_after word (word ++ rest)) None (eq-eqb w w refl) ∙ rest_after_complete word rest

pub rest_after_begins : (word line rest : List ℕ) → rest_after word line ≡ Some rest → Begins word line
rest_after_begins word line rest e = (rest, rest_after_sound word line rest e)

pub rest_after_none : (word line : List ℕ) → rest_after word line ≡ None → ¬ Begins word line
rest_after_none word line e begins = none_not_some begins.0 (sym e ∙ (ap (λ l. rest_after word l) begins.1 ∙ rest_after_complete word begins.0))

pub none_after : (word line : List ℕ) → ¬ Begins word line → rest_after word line ≡ None
none_after word line not = by (rest_after word line) refl where
  by : (o : Option (List ℕ)) → rest_after word line ≡ o → o ≡ None
  by None e = refl
  by (Some rest) e = absurd (not (rest_after_begins word line rest e))
