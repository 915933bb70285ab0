-- Which threads are enabled, and the one that is chosen among them.
use Rattle.sharc_seq.proofs.Imports.{◌≡◌, ℕ, zero, suc, ◌+◌, ◌<◌, ◌≤◌, Bool, true, false, not, List, [], ◌∷◌, ◌++◌, length, get_or, filter, refl, sym, ap, ◌∙◌, subst, arith, ⊎_elim, cases_lt, off, append-nil, filter-append, nat_lt, ◌&&◌, if◌then◌else◌, range_with_len, THREADS, Code, Shape, may_go, waits_now, Standing, is_enabled, enabled, any_default, fails, passes, up_to}

-- ---- the list of those that are

pub up_to_yes : (p : ℕ → Bool) (n : ℕ) → p n ≡ true → filter p (range_with_len 0 (n + 1)) ≡ filter p (range_with_len 0 n) ++ n ∷ []
up_to_yes p n e = up_to p n ∙ ap (λ xs. filter p (range_with_len 0 n) ++ xs) (passes (p n) n e)

pub up_to_no : (p : ℕ → Bool) (n : ℕ) → p n ≡ false → filter p (range_with_len 0 (n + 1)) ≡ filter p (range_with_len 0 n)
up_to_no p n e = up_to p n ∙ ap (λ xs. filter p (range_with_len 0 n) ++ xs) (fails (p n) n e) ∙ append-nil (filter p (range_with_len 0 n))

-- what is in the list is below, and passes
pub record Passes (p : ℕ → Bool) (from n k : ℕ) : Type 0 where
  pub low : k < from + n
  pub yes : p k ≡ true

one_of : (p : ℕ → Bool) (from n i : ℕ) (b : Bool) → p from ≡ b → i < length (if b then from ∷ filter p (range_with_len (from + 1) n) else filter p (range_with_len (from + 1) n))
    → ((j : ℕ) → j < length (filter p (range_with_len (from + 1) n)) → Passes p (from + 1) n (get_or (filter p (range_with_len (from + 1) n)) j 0))
    → Passes p from (suc n) (get_or (if b then from ∷ filter p (range_with_len (from + 1) n) else filter p (range_with_len (from + 1) n)) i 0)
one_of p from n zero true e h rest = record { low = omega arith; yes = e }
one_of p from n (suc i) true e h rest = let q = rest i (omega (arith, h)) in record { low = omega (arith, q.low); yes = q.yes }
one_of p from n i false e h rest = let q = rest i h in record { low = omega (arith, q.low); yes = q.yes }

pub listed : (p : ℕ → Bool) (from n i : ℕ) → i < length (filter p (range_with_len from n)) → Passes p from n (get_or (filter p (range_with_len from n)) i 0)
listed p from zero i h = absurd (omega (arith, h))
listed p from (suc n) i h = one_of p from n i (p from) refl h (λ j k. listed p (from + 1) n j k)

-- where nothing is in the list nothing passes
none_of : (p : ℕ → Bool) (from n : ℕ) (b : Bool) → p from ≡ b → (if b then from ∷ filter p (range_with_len (from + 1) n) else filter p (range_with_len (from + 1) n)) ≡ []
    → (p from ≡ false) × (filter p (range_with_len (from + 1) n) ≡ [])
none_of p from n true e h = cc
none_of p from n false e h = (e, h)

pub unlisted : (p : ℕ → Bool) (from n : ℕ) → filter p (range_with_len from n) ≡ [] → (k : ℕ) → k < n → p (from + k) ≡ false
unlisted p from zero h k low = absurd (omega arith)
unlisted p from (suc n) h zero low = subst (λ j. p j ≡ false) (let e : from ≡ from + 0 = omega arith in e) (none_of p from n (p from) refl h).0
unlisted p from (suc n) h (suc k) low =
    subst (λ j. p j ≡ false) (let e : from + 1 + k ≡ from + suc k = omega arith in e) (unlisted p (from + 1) n (none_of p from n (p from) refl h).1 k (omega arith))

-- ---- lists that are given by other functions
passed : (b c : Bool) (x : ℕ) (xs ys : List ℕ) → b ≡ c → xs ≡ ys → (if b then x ∷ xs else xs) ≡ (if c then x ∷ ys else ys)
passed b c x xs ys e f = cc

one_less : (p q : ℕ → Bool) (x : ℕ) (xs : List ℕ) (b c : Bool) → p x ≡ b → q x ≡ c → (b ≡ true → c ≡ true) → filter p (filter q xs) ≡ filter p xs
    → filter p (if c then x ∷ filter q xs else filter q xs) ≡ (if b then x ∷ filter p xs else filter p xs)
one_less p q x xs b true e f h all = passed (p x) b x (filter p (filter q xs)) (filter p xs) e all
one_less p q x xs true false e f h all = absurd (let g : false ≡ true = h refl in cc)
one_less p q x xs false false e f h all = all

-- what passes the one passes the other
pub filter_less : (p q : ℕ → Bool) (xs : List ℕ) → ((n : ℕ) → p n ≡ true → q n ≡ true) → filter p (filter q xs) ≡ filter p xs
filter_less p q [] h = refl
filter_less p q (x ∷ xs) h = one_less p q x xs (p x) (q x) refl refl (h x) (filter_less p q xs h)

-- the first elements
abbrev pub firsts : ℕ → List ℕ → List ℕ
firsts zero xs = []
firsts (suc n) [] = []
firsts (suc n) (x ∷ xs) = x ∷ firsts n xs

pub firsts_all : (xs : List ℕ) (n : ℕ) → length xs ≤ n → firsts n xs ≡ xs
firsts_all [] zero h = refl
firsts_all [] (suc n) h = refl
firsts_all (x ∷ xs) zero h = absurd (omega (arith, h))
firsts_all (x ∷ xs) (suc n) h = ap (λ ys. x ∷ ys) (firsts_all xs n (omega (arith, h)))

one_more : (xs : List ℕ) (n d : ℕ) → n < length xs → firsts (suc n) xs ≡ firsts n xs ++ get_or xs n d ∷ []
one_more [] n d h = absurd (omega (arith, h))
one_more (x ∷ xs) zero d h = refl
one_more (x ∷ xs) (suc n) d h = ap (λ ys. x ∷ ys) (one_more xs n d (omega (arith, h)))

pub firsts_more : (xs : List ℕ) (n d : ℕ) → n < length xs → firsts (n + 1) xs ≡ firsts n xs ++ get_or xs n d ∷ []
firsts_more xs n d h = ap (λ k. firsts k xs) (let e : n + 1 ≡ suc n = omega arith in e) ∙ one_more xs n d h

pub filter_yes : (p : ℕ → Bool) (xs : List ℕ) (n d : ℕ) → n < length xs → p (get_or xs n d) ≡ true → filter p (firsts (n + 1) xs) ≡ filter p (firsts n xs) ++ get_or xs n d ∷ []
filter_yes p xs n d low e =
    ap (filter p) (firsts_more xs n d low) ∙ filter-append p (firsts n xs) (get_or xs n d ∷ []) ∙ ap (λ ys. filter p (firsts n xs) ++ ys) (passes (p (get_or xs n d)) (get_or xs n d) e)

pub filter_no : (p : ℕ → Bool) (xs : List ℕ) (n d : ℕ) → n < length xs → p (get_or xs n d) ≡ false → filter p (firsts (n + 1) xs) ≡ filter p (firsts n xs)
filter_no p xs n d low e =
    ap (filter p) (firsts_more xs n d low) ∙ filter-append p (firsts n xs) (get_or xs n d ∷ []) ∙ ap (λ ys. filter p (firsts n xs) ++ ys) (fails (p (get_or xs n d)) (get_or xs n d) e) ∙ append-nil (filter p (firsts n xs))

-- ---- who is enabled
below_or : (started : Bool) (t n : ℕ) → (started ≡ true → t < n) → n ≤ t → started ≡ false
below_or true t n low h = absurd (let k : t < n = low refl in omega (arith, k, h))
below_or false t n low h = refl

pub none_enabled : (code : Code) (s : Shape) (limit : ℕ) (g : Standing) → s.threads ≡ THREADS → ((t : ℕ) → g.started t ≡ true → t < THREADS) → enabled code s limit g ≡ []
    → (t : ℕ) → is_enabled code s limit g t ≡ false
none_enabled code s limit g fits few none t =
    ⊎_elim
    (λ (low : t < s.threads). subst (λ k. is_enabled code s limit g k ≡ false) (let e : 0 + t ≡ t = omega arith in e) (unlisted (is_enabled code s limit g) 0 s.threads none t low))
    (λ (high : s.threads ≤ t). off (g.started t) (may_go (g.threads t).at.state && (nat_lt (g.made t) limit && not (waits_now code s g.words (g.threads t)))) (below_or (g.started t) t THREADS (few t) (omega (arith, high, fits))))
    (cases_lt t s.threads)

pub picked : (code : Code) (s : Shape) (limit : ℕ) (g : Standing) (among : List ℕ) (place number : ℕ) → among ≡ enabled code s limit g → place < length among → number ≡ get_or among place number
    → Passes (is_enabled code s limit g) 0 s.threads number
picked code s limit g among place number e low is =
    subst (Passes (is_enabled code s limit g) 0 s.threads) (sym (is ∙ ap (λ (xs : List ℕ). get_or xs place number) e ∙ any_default (enabled code s limit g) place number 0 (subst (λ (xs : List ℕ). place < length xs) e low)))
    (listed (is_enabled code s limit g) 0 s.threads place (subst (λ (xs : List ℕ). place < length xs) e low))
