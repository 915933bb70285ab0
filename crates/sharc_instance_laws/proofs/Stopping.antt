-- Where a run is stuck, and where a thread of it has stopped at a cast or `free`: tests of a place, and what they say.
use Rattle.sharc_instance_laws.proofs.Imports.{◌≡◌, ℕ, zero, suc, ◌<◌, Bool, true, false, not, ◌&&◌, ◌||◌, List, [], ◌∷◌, Some, refl, sym, subst, arith, ⊎_elim, cases_eq, both, Option, nat_lt, Code, Shape, Stop, NotSole, Machine, opening_words, may_go, Turn, Global, is_started, waits_now, IsStuck, bounds, place_after, left, right, either, below}

-- ---- a test of all numbers below one
abbrev pub all_below : ℕ → (ℕ → Bool) → Bool
all_below zero p = true
all_below (suc n) p = p n && all_below n p

pub each_below : (n : ℕ) (p : ℕ → Bool) → all_below n p ≡ true → (k : ℕ) → k < n → p k ≡ true
each_below zero p e k less = absurd (omega (arith, less))
each_below (suc n) p e k less = ⊎_elim
    (λ (is : k ≡ n). subst (λ j. p j ≡ true) (sym is) (left (p n) (all_below n p) e))
    (λ (not : k ≡ n → ⊥). each_below n p (right (p n) (all_below n p) e) k (lower k n less not))
    (cases_eq k n)
  where
    lower : (k n : ℕ) → k < suc n → (k ≡ n → ⊥) → k < n
    lower k n less not = omega (arith, less, not)

-- ---- started threads have numbers below the number of threads
word_few : (words : List ℕ) (t : ℕ) → is_started bounds words t ≡ true → nat_lt t 31 ≡ true
word_few words t e = left (nat_lt t 31) _ e

pub few_started : (code : Code) (s : Shape) (run : List Turn) (t : ℕ) → (place_after code s run).started t ≡ true → nat_lt t 31 ≡ true
few_started code s [] t e = word_few (opening_words code s) t e
few_started code s (turn ∷ earlier) t e =
    either (is_started bounds (place_after code s (turn ∷ earlier)).words t) ((place_after code s earlier).started t) _
    (word_few (place_after code s (turn ∷ earlier)).words t) (few_started code s earlier t) e

-- ---- stuck
abbrev is_on : Global Machine → ℕ → Bool
is_on g t = g.started t && may_go (g.threads t).at.state

abbrev may_wait : Code → Shape → Global Machine → ℕ → Bool
may_wait code s g t = not (is_on g t) || waits_now code s g.words (g.threads t)

abbrev pub is_stuck : Code → Shape → Global Machine → Bool
is_stuck code s g = is_on g 0 && all_below 31 (may_wait code s g)

unless : (a b : Bool) → a ≡ true → (not a || b) ≡ true → b ≡ true
unless true b e f = f
unless false b e f = cc

pub stuck : (code : Code) (s : Shape) (run : List Turn) → is_stuck code s (place_after code s run) ≡ true → IsStuck code s (place_after code s run)
stuck code s run e =
    let g = place_after code s run in
    let on = left (is_on g 0) (all_below 31 (may_wait code s g)) e in
    let all = right (is_on g 0) (all_below 31 (may_wait code s g)) e in
    record {
      some = (0, (left (g.started 0) (may_go (g.threads 0).at.state) on, right (g.started 0) (may_go (g.threads 0).at.state) on));
      all = λ t there. unless (is_on g t) (waits_now code s g.words (g.threads t))
          (both (g.started t) (may_go (g.threads t).at.state) there.0 there.1)
          (each_below 31 (may_wait code s g) all t (below t 31 (few_started code s run t there.0)));
    }

-- ---- stopped at a cast or `free`
abbrev is_not_sole : Option Stop → Bool
is_not_sole (Some (NotSole site count)) = true
is_not_sole _ = false

abbrev pub has_reported : Global Machine → Bool
has_reported g = is_not_sole (g.threads 0).own.stop

pub record Reported (o : Option Stop) : Type 0 where
  pub site : ℕ
  pub count : ℕ
  pub stop : o ≡ Some (NotSole site count)

pub reported : (o : Option Stop) → is_not_sole o ≡ true → Reported o
reported (Some (NotSole site count)) e = record { site = site; count = count; stop = refl }
reported _ e = cc
