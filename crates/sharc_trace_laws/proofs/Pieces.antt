-- Parts of lines: none has a newline, and none is long.
use Rattle.sharc_trace_laws.proofs.Imports.{◌≡◌, inl, inr, ℕ, suc, ◌+◌, ◌<◌, ◌≤◌, ◌^◌, ◌||◌, Bool, true, false, List, [], ◌∷◌, ◌++◌, length, length-append, refl, ap, sym, subst, ◌∙◌, arith, rules, eq-eqb, ne_eqb, or_from, or_parts, and_parts, leb-true, eqb-true, digits_decimal, length-decimal-le, IsNumeralModel, numerals_by_fold, ℤ, pos, negsuc, nat_eq, decimal, codes, FitsSigned, if◌then◌else◌, signed_decimal, w64, list_any, list_all, all_ascii_digits, is_ascii_digit, Resolution, function_at, read_on, is_digit, is_letter, IsName, Where, Deed, Reference, GivenValue, cell_text, reference_text, IsFitCell, IsFitReference, IsFitPair, IsFitValue, IsFunctionOf, Writable, value_text, name_in, deed_text}

-- a text without a newline, of at most so many bytes
pub record IsPiece (text : List ℕ) (most : ℕ) : Type 0 where
  pub free : list_any (nat_eq 10) text ≡ false
  pub short : length text ≤ most

free_append : (a b : List ℕ) → list_any (nat_eq 10) a ≡ false → list_any (nat_eq 10) b ≡ false → list_any (nat_eq 10) (a ++ b) ≡ false
free_append [] b p q = q
free_append (y ∷ a) b p q = let s = or_parts (nat_eq 10 y) (list_any (nat_eq 10) a) p in or_from (nat_eq 10 y) (list_any (nat_eq 10) (a ++ b)) s.0 (free_append a b s.1 q)

pub join : {a b : List ℕ} {m n : ℕ} → IsPiece a m → IsPiece b n → IsPiece (a ++ b) (m + n)
join {a} {b} {m} {n} p q = record {
  free = free_append a b p.free q.free;
  short = let x = p.short in let y = q.short in omega (arith, length-append a b, x, y);
}

pub wider : {a : List ℕ} (m n : ℕ) → m ≤ n → IsPiece a m → IsPiece a n
wider m n h p = record { free = p.free; short = let x = p.short in omega (arith, x, h) }

pub byte_on : (b : ℕ) {a : List ℕ} {m : ℕ} → nat_eq 10 b ≡ false → IsPiece a m → IsPiece (b ∷ a) (1 + m)
byte_on b {a} {m} e p = record {
  free = or_from (nat_eq 10 b) (list_any (nat_eq 10) a) e p.free;
  short = let x = p.short in omega (arith, x);
}

-- ---- numbers
pub own : IsNumeralModel (λ ds. all_ascii_digits ds ≡ true) (read_on 0)
own = numerals_by_fold _ (search rules) read_on (search rules)

digit_free : (d : ℕ) → is_ascii_digit d ≡ true → nat_eq 10 d ≡ false
digit_free d h = let p = and_parts _ _ h in let low = leb-true 48 d p.0 in ne_eqb 10 d (λ e. omega (arith, e, low))

digits_free : (ds : List ℕ) → all_ascii_digits ds ≡ true → list_any (nat_eq 10) ds ≡ false
digits_free [] h = refl
digits_free (d ∷ ds) h = let p = and_parts (is_ascii_digit d) (all_ascii_digits ds) h in or_from (nat_eq 10 d) (list_any (nat_eq 10) ds) (digit_free d p.0) (digits_free ds p.1)

pub decimal_piece : (n : ℕ) → n < 2 ^ 64 → IsPiece (decimal n) 20
decimal_piece n h = record { free = digits_free (decimal n) (digits_decimal own n h); short = length-decimal-le 20 n (omega arith) (omega (arith, h)) h }

pub signed_piece : (v : ℤ) → FitsSigned w64 v → IsPiece (signed_decimal v) 21
signed_piece (pos n) h = wider 20 21 (omega arith) (decimal_piece n (let s = h.sfits in omega (arith, s)))
signed_piece (negsuc n) h = byte_on 45 refl (decimal_piece (suc n) (let s = h.sfits in omega (arith, s)))

-- ---- cells and references
pub cell_piece : (c : Where) → IsFitCell c → IsPiece (cell_text c) 42
cell_piece (Where.Global number cell) h =
    byte_on 103 refl (join (decimal_piece number (let s = h.0 in omega (arith, s))) (byte_on 46 refl (decimal_piece cell (let s = h.1 in omega (arith, s)))))
cell_piece (Where.Made number cell) h =
    byte_on 111 refl (join (decimal_piece number (let s = h.most in omega (arith, s))) (byte_on 46 refl (decimal_piece cell (let s = h.low in omega (arith, s)))))

pub pair_piece : (x : Reference) → IsFitPair x → IsPiece (decimal x.number ++ 58 ∷ decimal x.elements) 41
pair_piece x h = join (decimal_piece x.number (let s = h.most in omega (arith, s))) (byte_on 58 refl (decimal_piece x.elements (let s = h.elements_most in omega (arith, s))))

pub null_text : (x : Reference) → x.number ≡ 0 → reference_text x ≡ codes "0"
null_text x e = ap (λ b. if b then codes "0" else decimal x.number ++ 58 ∷ decimal x.elements) (eq-eqb x.number 0 e)

pub pair_text : (x : Reference) → IsFitPair x → reference_text x ≡ decimal x.number ++ 58 ∷ decimal x.elements
pair_text x h = ap (λ b. if b then codes "0" else decimal x.number ++ 58 ∷ decimal x.elements) (ne_eqb x.number 0 (λ e. let s = h.some in omega (arith, s, e)))

pub reference_piece : (x : Reference) → IsFitReference x → IsPiece (reference_text x) 41
reference_piece x (inl e) = subst (λ t. IsPiece t 41) (sym (null_text x e)) record { free = refl; short = omega arith }
reference_piece x (inr h) = subst (λ t. IsPiece t 41) (sym (pair_text x h)) (pair_piece x h)

pub value_piece : (v : GivenValue) → IsFitValue v → IsPiece (value_text v) 41
value_piece (GivenValue.Int v) h = wider 21 41 (omega arith) (signed_piece v h)
value_piece (GivenValue.Reference x) h = reference_piece x h

-- ---- names
letter_free : (b : ℕ) → (is_letter b || is_digit b) ≡ true → nat_eq 10 b ≡ false
letter_free b h = by (nat_eq 10 b) refl
  where
    by : (t : Bool) → nat_eq 10 b ≡ t → t ≡ false
    by false e = refl
    by true e = absurd (let z : false ≡ true = subst (λ x. (is_letter x || is_digit x) ≡ true) (sym (eqb-true 10 b e)) h in cc)

letters_free : (text : List ℕ) → list_all (λ b. is_letter b || is_digit b) text ≡ true → list_any (nat_eq 10) text ≡ false
letters_free [] h = refl
letters_free (b ∷ text) h = let p = and_parts (is_letter b || is_digit b) (list_all (λ x. is_letter x || is_digit x) text) h in or_from (nat_eq 10 b) (list_any (nat_eq 10) text) (letter_free b p.0) (letters_free text p.1)

pub name_text : (r : Resolution) (f : ℕ) (name : List ℕ) → IsFunctionOf r f name → name_in (function_at r f) ≡ name
name_text r f name h = ap name_in h.is ∙ h.named

pub name_piece : (name : List ℕ) → IsName name → IsPiece name 64
name_piece name h = record { free = letters_free name h.letters; short = h.short }

-- ---- deeds
word : (text : List ℕ) (most : ℕ) → list_any (nat_eq 10) text ≡ false → length text ≤ most → IsPiece text most
word text most free short = record { free = free; short = short }

pub deed_piece : (r : Resolution) (d : Deed) → Writable r d → IsPiece (deed_text r d) 133
deed_piece r (Deed.Reads c v) h = wider 90 133 (omega arith) (join (word (codes "read ") 6 refl (omega arith)) (join (cell_piece c h.0) (byte_on 32 refl (value_piece v h.1))))
deed_piece r (Deed.Writes c v) h = wider 90 133 (omega arith) (join (word (codes "write ") 6 refl (omega arith)) (join (cell_piece c h.0) (byte_on 32 refl (value_piece v h.1))))
deed_piece r (Deed.Makes x) h = wider 47 133 (omega arith) (join (word (codes "new ") 6 refl (omega arith)) (reference_piece x h))
deed_piece r (Deed.Takes x) h = wider 47 133 (omega arith) (join (word (codes "take ") 6 refl (omega arith)) (reference_piece x h))
deed_piece r (Deed.Gives x) h = wider 47 133 (omega arith) (join (word (codes "give ") 6 refl (omega arith)) (reference_piece x h))
deed_piece r (Deed.Frees x) h = wider 47 133 (omega arith) (join (word (codes "freed ") 6 refl (omega arith)) (reference_piece x h))
deed_piece r (Deed.Locks c) h = wider 49 133 (omega arith) (join (word (codes "lock ") 7 refl (omega arith)) (cell_piece c h))
deed_piece r (Deed.Unlocks c) h = wider 49 133 (omega arith) (join (word (codes "unlock ") 7 refl (omega arith)) (cell_piece c h))
deed_piece r (Deed.Spawns f v n) h =
    join (word (codes "spawn ") 6 refl (omega arith))
    (join (subst (λ t. IsPiece t 64) (sym (name_text r f h.0.0 h.0.1)) (name_piece h.0.0 h.0.1.is_name))
    (byte_on 32 refl (join (value_piece v h.1) (byte_on 32 refl (decimal_piece n (let s = h.2 in omega (arith, s)))))))
deed_piece r (Deed.Starts v) h = wider 49 133 (omega arith) (join (word (codes "started ") 8 refl (omega arith)) (value_piece v h))
deed_piece r (Deed.Joins v) h = wider 25 133 (omega arith) (join (word (codes "join ") 5 refl (omega arith)) (subst (λ z. IsPiece (signed_decimal z) 20) (sym h.1) (decimal_piece h.0 (let s = h.2 in omega (arith, s)))))
deed_piece r (Deed.Prints v) h = wider 27 133 (omega arith) (join (word (codes "print ") 6 refl (omega arith)) (signed_piece v h))
deed_piece r Deed.Returns h = record { free = refl; short = omega arith }
deed_piece r Deed.Ends h = record { free = refl; short = omega arith }
deed_piece r (Deed.Enters c) h = absurd (h)
deed_piece r (Deed.Wakes c) h = absurd (h)
deed_piece r (Deed.Signals c thread) h = absurd (h)
deed_piece r (Deed.Broadcasts c) h = absurd (h)
