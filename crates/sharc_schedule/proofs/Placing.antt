-- The place of a thread among those that are enabled, and that it stays the same where only its own turns come, without a word operation.
use Rattle.sharc_schedule.proofs.{Imports.{◌≡◌, ◌≢◌, ℕ, zero, suc, ◌+◌, ◌<◌, ◌≤◌, Bool, true, false, nat_eq, List, ◌∷◌, ◌++◌, filter, sym, ap, ◌∙◌, subst, arith, eq-eqb, ne_eqb, if◌then◌else◌, range_with_len, ℕ_discrete, Code, Shape, RunLaws, Turn, Owns, ThreadLaws, place_after, is_enabled, TableLaws, Walk, enabled, StandsAt, Quiet, place_in, if_no, if_yes, filter_agrees}, Making.others_same}

-- how many numbers below this one pass a test
abbrev pub passed : (ℕ → Bool) → ℕ → ℕ
passed f zero = 0
passed f (suc n) = passed f n + (if f n then 1 else 0)

pub one_few : (b : Bool) (one : ℕ) → one ≡ (if b then 1 else 0) → one ≤ 1
one_few true one e = omega (arith, e)
one_few false one e = omega (arith, e)

pub passed_next : (f : ℕ → Bool) (n place one : ℕ) (b : Bool) → place ≡ passed f n → one ≡ (if b then 1 else 0) → b ≡ f n → place + one ≡ passed f (n + 1)
passed_next f n place one b is more e =
    let next : passed f (n + 1) ≡ passed f n + (if f n then 1 else 0) = ap (passed f) (let k : n + 1 ≡ suc n = omega arith in k) in
    let bit : one ≡ (if f n then 1 else 0) = more ∙ ap (λ c. if c then 1 else 0) e in
    omega (arith, is, bit, next)

-- at one number more
at_apart : (t first : ℕ) (xs : List ℕ) → t ≢ first → place_in t (first ∷ xs) ≡ suc (place_in t xs)
at_apart t first xs apart = if_no (nat_eq t first) 0 (suc (place_in t xs)) (ne_eqb t first apart)

one_apart : (b : Bool) (t first below all : ℕ) (xs : List ℕ) → t ≢ first → place_in t xs + (below + (if b then 1 else 0)) ≡ all → place_in t (if b then first ∷ xs else xs) + below ≡ all
one_apart true t first below all xs apart r = let a = at_apart t first xs apart in omega (arith, a, r)
one_apart false t first below all xs apart r = omega (arith, r)

one_here : (b : Bool) (t first below all : ℕ) (xs : List ℕ) → b ≡ true → t ≡ first → below ≡ all → place_in t (if b then first ∷ xs else xs) + below ≡ all
one_here true t first below all xs on same is =
    let a : place_in t (first ∷ xs) ≡ 0 = if_yes (nat_eq t first) 0 (suc (place_in t xs)) (eq-eqb t first same) in
    omega (arith, a, is)
one_here false t first below all xs on same is = absurd (let k : false ≡ true = on in cc)

-- the place of a number that passes is how many below it pass
place_from : (f : ℕ → Bool) (t first n : ℕ) → first ≤ t → t < first + n → f t ≡ true → place_in t (filter f (range_with_len first n)) + passed f first ≡ passed f t
place_from f t first zero low high on = absurd (omega (arith, low, high))
place_from f t first (suc n) low high on = by (ℕ_discrete t first) (λ l h. place_from f t (first + 1) n l h on) where
  by : Dec (t ≡ first) → (first + 1 ≤ t → t < first + 1 + n → place_in t (filter f (range_with_len (first + 1) n)) + passed f (first + 1) ≡ passed f t)
      → place_in t (if f first then first ∷ filter f (range_with_len (first + 1) n) else filter f (range_with_len (first + 1) n)) + passed f first ≡ passed f t
  by (yes e) r = one_here (f first) t first (passed f first) (passed f t) (filter f (range_with_len (first + 1) n)) (ap f (sym e) ∙ on) e (ap (passed f) (sym e))
  by (no apart) r =
      let one : passed f (first + 1) ≡ passed f first + (if f first then 1 else 0) = ap (passed f) (let k : first + 1 ≡ suc first = omega arith in k) in
      one_apart (f first) t first (passed f first) (passed f t) (filter f (range_with_len (first + 1) n)) apart
      (subst (λ m. place_in t (filter f (range_with_len (first + 1) n)) + m ≡ passed f t) one (r (omega (arith, low, apart)) (omega (arith, high))))

pub place_passed : (f : ℕ → Bool) (t n : ℕ) → t < n → f t ≡ true → place_in t (filter f (range_with_len 0 n)) ≡ passed f t
place_passed f t n high on = let p = place_from f t 0 n (omega arith) (omega (arith, high)) on in omega (arith, p)

-- ---- tests that agree
-- it does not matter by which run it is determined who is enabled
pub enabled_there : (laws : TableLaws) (code : Code) (s : Shape) (limit : ℕ) (one other : List Turn) (walk : Walk) → StandsAt code s one walk → StandsAt code s other walk
    → enabled code s limit (place_after code s one) ≡ enabled code s limit (place_after code s other)
enabled_there laws code s limit one other walk a b =
    filter_agrees (is_enabled code s limit (place_after code s one)) (is_enabled code s limit (place_after code s other)) (range_with_len 0 s.threads)
    (λ t. sym (laws.enabled code s limit (place_after code s one) walk.port.port walk.threads.seats.items record { words_are = a.words; are = a.seats } t)
    ∙ laws.enabled code s limit (place_after code s other) walk.port.port walk.threads.seats.items record { words_are = b.words; are = b.seats } t)

-- turns of a thread without a word operation change only whether it is enabled itself
pub enabled_kept : (laws : RunLaws) (threads : ThreadLaws) (code : Code) (s : Shape) (limit t : ℕ) (quiet before : List Turn) → Quiet quiet → Owns t quiet
    → is_enabled code s limit (place_after code s before) t ≡ true → is_enabled code s limit (place_after code s (quiet ++ before)) t ≡ true
    → enabled code s limit (place_after code s (quiet ++ before)) ≡ enabled code s limit (place_after code s before)
enabled_kept laws threads code s limit t quiet before q own was is =
    filter_agrees (is_enabled code s limit (place_after code s (quiet ++ before))) (is_enabled code s limit (place_after code s before)) (range_with_len 0 s.threads) (λ u. by u (ℕ_discrete u t)) where
      by : (u : ℕ) → Dec (u ≡ t) → is_enabled code s limit (place_after code s (quiet ++ before)) u ≡ is_enabled code s limit (place_after code s before) u
      by u (yes e) = ap (is_enabled code s limit (place_after code s (quiet ++ before))) e ∙ (is ∙ (sym was ∙ ap (is_enabled code s limit (place_after code s before)) (sym e)))
      by u (no apart) = others_same laws threads code s limit u t apart quiet before q own
