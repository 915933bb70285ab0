-- What globals hold at first are words, and globals lie one after the other.
use Rattle.sharc_flat_laws.proofs.Imports.{◌≡◌, ℕ, zero, suc, ℤ, pos, negsuc, ◌+◌, ◌*◌, ◌^◌, ◌<◌, ◌≤◌, inl, inr, Bool, true, false, cond, List, [], ◌∷◌, ◌++◌, length, take, replicate, Some, refl, sym, subst, arith, neg_ℤ, slice_index, slice_index_or, unsigned_abs, AllByRecursion, Base, Int, Char, Long, Mutex, Void, Struct, WrittenType, Constant, Number, Character, Null, GlobalDefinition, GlobalForm, Initial, word_of, GlobalsFit, first_place, end_place, no_global, Resolution, IsHeldBy, MeetsInitial, MeetsGlobal, number_of, constant_value, form_value, cells_in, granules_in, globals_from, all_granules, first_words, all_first_words, half}

-- ---- words
-- a number of 63 bits and a sign is a word
word_small : (z : ℤ) → unsigned_abs z ≤ 2 ^ 63 → word_of z < 2 ^ 64
word_small (pos n) h = omega arith
word_small (negsuc n) h = omega arith

negative_same : (z : ℤ) → unsigned_abs (neg_ℤ z) ≡ unsigned_abs z
negative_same (pos (suc n)) = refl
negative_same _ = refl

held_small : (b : Base) (minus : Bool) (n : ℕ) → IsHeldBy b minus n → n ≤ 2 ^ 63
held_small Int true n h = omega arith
held_small Int false n h = omega arith
held_small Char true n h = omega arith
held_small Char false n h = omega arith
held_small Long true n h = omega arith
held_small Long false n h = omega arith
held_small Mutex true n h = omega arith
held_small Mutex false n h = omega arith
held_small Void true n h = omega arith
held_small Void false n h = omega arith
held_small (Struct s) true n h = omega arith
held_small (Struct s) false n h = omega arith

constant_small : (c : Constant) (n : ℕ) → number_of c ≡ Some n → n ≤ 2 ^ 63 → unsigned_abs (constant_value c) ≤ 2 ^ 63
constant_small (Number k) n e h = let s : unsigned_abs k.value ≡ n = cc in omega arith
constant_small (Character byte) n e h = let s : byte ≡ n = cc in omega arith
constant_small Null n e h = omega arith

signed_small : (minus : Bool) (z : ℤ) → unsigned_abs z ≤ 2 ^ 63 → word_of (cond minus (neg_ℤ z) z) < 2 ^ 64
signed_small true z h = word_small (neg_ℤ z) (subst (λ n. n ≤ 2 ^ 63) (sym (negative_same z)) h)
signed_small false z h = word_small z h

form_small : (w : WrittenType) (form : GlobalForm) → MeetsInitial w form → word_of (form_value form) < 2 ^ 64
form_small w (Initial span minus c) (inl h) = signed_small minus (constant_value c) (constant_small c h.1 h.2 (held_small w.ctype.base minus h.1 h.3))
form_small w (Initial span minus c) (inr h) = signed_small minus (constant_value c) (subst (λ c. unsigned_abs (constant_value c) ≤ 2 ^ 63) (sym h.1) (omega arith))
form_small w _ h = omega arith

abbrev AreWords : List ℕ → Type 0
AreWords [] = Unit {0}
AreWords (x ∷ xs) = (x < 2 ^ 64) × AreWords xs

joined : (xs ys : List ℕ) → AreWords xs → AreWords ys → AreWords (xs ++ ys)
joined [] ys a b = b
joined (x ∷ xs) ys a b = (a.0, joined xs ys a.1 b)

taken : (n : ℕ) (xs : List ℕ) → AreWords xs → AreWords (take n xs)
taken zero xs h = tt
taken (suc n) [] h = tt
taken (suc n) (x ∷ xs) h = (h.0, taken n xs h.1)

zeros : (n : ℕ) → AreWords (replicate n 0)
zeros zero = tt
zeros (suc n) = (omega arith, zeros n)

word_at : (xs : List ℕ) (j : ℕ) → AreWords xs → slice_index xs j < 2 ^ 64
word_at [] j h = omega arith
word_at (x ∷ xs) zero h = h.0
word_at (x ∷ xs) (suc j) h = word_at xs j h.1

all_words : (r : Resolution) (gs : List GlobalDefinition) → AllByRecursion MeetsGlobal gs → AreWords (all_first_words r gs)
all_words r [] h = tt
all_words r (g ∷ rest) h =
    joined (first_words r g) (all_first_words r rest)
    (taken (2 * granules_in r g) (word_of (form_value g.form) ∷ replicate (2 * granules_in r g) 0) (form_small g.declaration.written g.form h.0.initial, zeros (2 * granules_in r g)))
    (all_words r rest h.1)

pub words : (r : Resolution) (gs : List GlobalDefinition) → AllByRecursion MeetsGlobal gs → (j : ℕ) → slice_index (all_first_words r gs) j < 2 ^ 64
words r gs h j = word_at (all_first_words r gs) j (all_words r gs h)

-- ---- globals
-- from a granule on
starts : (r : Resolution) (at : ℕ) (gs : List GlobalDefinition) (g : ℕ) → g < length (globals_from r at gs) → at ≤ (slice_index_or (globals_from r at gs) g no_global).granule
starts r at [] g lt = absurd (omega arith)
starts r at (x ∷ rest) zero lt = omega arith
starts r at (x ∷ rest) (suc g) lt = let b = starts r (at + granules_in r x) rest g (omega arith) in omega arith

-- up to the last granule
ends : (r : Resolution) (at : ℕ) (gs : List GlobalDefinition) (g : ℕ) → g < length (globals_from r at gs) → end_place (globals_from r at gs) g ≤ 2 * (at + all_granules r gs)
ends r at [] g lt = absurd (omega arith)
ends r at (x ∷ rest) zero lt = let h = half (cells_in r x) in omega arith
ends r at (x ∷ rest) (suc g) lt = let b = ends r (at + granules_in r x) rest g (omega arith) in omega arith

follow : (r : Resolution) (at : ℕ) (gs : List GlobalDefinition) (g h : ℕ) → g < h → h < length (globals_from r at gs) → end_place (globals_from r at gs) g ≤ first_place (globals_from r at gs) h
follow r at [] g h less lt = absurd (omega arith)
follow r at (x ∷ rest) g zero less lt = absurd (omega arith)
follow r at (x ∷ rest) zero (suc h) less lt = let b = starts r (at + granules_in r x) rest h (omega arith) in let c = half (cells_in r x) in omega arith
follow r at (x ∷ rest) (suc g) (suc h) less lt = follow r (at + granules_in r x) rest g h (omega arith) (omega arith)

pub globals_fit : (r : Resolution) (gs : List GlobalDefinition) → GlobalsFit (globals_from r 1 gs) (all_granules r gs)
globals_fit r gs = record {
  low = λ g lt. let b = starts r 1 gs g lt in omega arith;
  high = λ g lt. let b = ends r 1 gs g lt in omega arith;
  apart = λ g h less lt. follow r 1 gs g h less lt;
}
