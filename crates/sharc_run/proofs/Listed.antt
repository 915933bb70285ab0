-- The threads that were started, in a list, and those of the place where a run is.
use Rattle.sharc_run.proofs.Imports.{◌≡◌, ℕ, zero, suc, ◌+◌, ◌<◌, ◌≤◌, Bool, true, false, not, List, [], ◌∷◌, length, map, filter, get_or, refl, sym, ap, ◌∙◌, subst, arith, ◌⊎◌, inl, inr, nat_lt, nat_eq, ◌&&◌, ◌||◌, slice_index, if◌then◌else◌, range_with_len, All, list_any, THREADS, Code, Shape, TurnState, state_word, opening_words, may_go, Turn, is_started, words_now, waits_now, bounds, place_after, IsStuck, IsOn, ThreadView, is_stop, Standing, AllAreDone, IsAt, AreStarted, is_end, was_stopped, has_gone, and_first, or_first, either, or_second, lt_true, le_false}

-- ---- truth values
-- ---- who was started has a number that threads have
started_word : (words : List ℕ) (t : ℕ) → is_started bounds words t ≡ true → t < THREADS
started_word words t e = lt_true t THREADS (and_first (nat_lt t THREADS) (nat_eq (slice_index words (state_word t)) 1) e)

pub started_low : (code : Code) (s : Shape) (turns : List Turn) (t : ℕ) → (place_after code s turns).started t ≡ true → t < THREADS
started_low code s [] t e = started_word (opening_words code s) t e
started_low code s (turn ∷ earlier) t e =
    let words = words_now (place_after code s earlier).words turn.event in
    either (is_started bounds words t) ((place_after code s earlier).started t) (t < THREADS) (λ h. started_word words t h) (λ h. started_low code s earlier t h) e

-- ---- the numbers of threads
abbrev pub number_of : ThreadView → ℕ
number_of t = t.machine.own.number

abbrev Within : ℕ → List ℕ → Type 0
Within t [] = ⊥
Within t (x ∷ xs) = (x ≡ t) ⊎ Within t xs

first_or_rest : (a t : ℕ) (xs : List ℕ) (b : Bool) → nat_lt a t ≡ b → a ≤ t → (a < t → Within t xs) → (a ≡ t) ⊎ Within t xs
first_or_rest a t xs true e low rest = inr (rest (lt_true a t e))
first_or_rest a t xs false e low rest = inl (let h : t ≤ a = le_false a t e in omega (arith, h, low))

in_range : (a n t : ℕ) → a ≤ t → t < a + n → Within t (range_with_len a n)
in_range a zero t low high = absurd (omega (arith, low, high))
in_range a (suc n) t low high =
    first_or_rest a t (range_with_len (a + 1) n) (nat_lt a t) refl low (λ h. in_range (a + 1) n t (omega (arith, h)) (omega (arith, high)))

kept : (p : ℕ → Bool) (t x : ℕ) (xs : List ℕ) → p t ≡ true → (b : Bool) → p x ≡ b → (x ≡ t) ⊎ Within t xs → Within t (if b then x ∷ xs else xs)
kept p t x xs is_true true e (inl same) = inl same
kept p t x xs is_true true e (inr h) = inr h
kept p t x xs is_true false e (inl same) = absurd (let h : p x ≡ true = ap p same ∙ is_true in let k : true ≡ false = sym h ∙ e in cc)
kept p t x xs is_true false e (inr h) = h

in_filter : (p : ℕ → Bool) (t : ℕ) (xs : List ℕ) → p t ≡ true → Within t xs → Within t (filter p xs)
in_filter p t [] is_true h = h
in_filter p t (x ∷ xs) is_true (inl same) = kept p t x (filter p xs) is_true (p x) refl (inl same)
in_filter p t (x ∷ xs) is_true (inr h) = kept p t x (filter p xs) is_true (p x) refl (inr (in_filter p t xs is_true h))

passed : (p : ℕ → Bool) (t x : ℕ) (xs : List ℕ) (b : Bool) → p x ≡ b → (Within t xs → p t ≡ true) → Within t (if b then x ∷ xs else xs) → p t ≡ true
passed p t x xs true e rest (inl same) = ap p (sym same) ∙ e
passed p t x xs true e rest (inr h) = rest h
passed p t x xs false e rest h = rest h

of_filter : (p : ℕ → Bool) (t : ℕ) (xs : List ℕ) → Within t (filter p xs) → p t ≡ true
of_filter p t [] h = absurd h
of_filter p t (x ∷ xs) h = passed p t x (filter p xs) (p x) refl (λ k. of_filter p t xs k) h

module _ (code : Code) (s : Shape) (g : Standing) where
  pub head_at : (x : ThreadView) (xs : List ThreadView) → All (IsAt code s g) (x ∷ xs) → IsAt code s g x
  head_at x xs all = all 0 x (omega arith)

  pub rest_at : (x : ThreadView) (xs : List ThreadView) → All (IsAt code s g) (x ∷ xs) → All (IsAt code s g) xs
  rest_at x xs all = λ k d low. all (suc k) d (omega (arith, low))

  -- the thread of this number in the list, which fails a test that each of them fails
  pub record Found (p : ThreadView → Bool) (t : ℕ) : Type 0 where
    pub thread : ThreadView
    pub number : number_of thread ≡ t
    pub at : IsAt code s g thread
    pub fails : p thread ≡ false

  pub find_number : (p : ThreadView → Bool) (t : ℕ) (xs : List ThreadView) → All (IsAt code s g) xs → list_any p xs ≡ false → Within t (map number_of xs) → Found p t
  find_number p t [] all none h = absurd h
  find_number p t (x ∷ xs) all none (inl same) = record { thread = x; number = same; at = head_at x xs all; fails = or_first (p x) (list_any p xs) none }
  find_number p t (x ∷ xs) all none (inr h) = find_number p t xs (rest_at x xs all) (or_second (p x) (list_any p xs) none) h

  -- each thread of the list was started
  numbered : (x : ThreadView) (xs : List ThreadView) (k : ℕ) (d : ThreadView) → k < length xs → Within (number_of (get_or xs k d)) (map number_of xs)
  numbered x [] k d low = absurd (omega (arith, low))
  numbered x (y ∷ ys) zero d low = inl refl
  numbered x (y ∷ ys) (suc k) d low = inr (numbered x ys k d (omega (arith, low)))

-- ---- states
pub gone_from : (c : TurnState) → may_go c ≡ false → is_stop c ≡ false → is_end c ≡ true
gone_from TurnState.Runs e f = sym e
gone_from TurnState.Tries e f = sym e
gone_from TurnState.Stopped e f = sym f
gone_from TurnState.Ended e f = refl

pub on_from : (c : TurnState) → may_go c ≡ true → is_end c ≡ false
on_from TurnState.Runs e = refl
on_from TurnState.Tries e = refl
on_from TurnState.Stopped e = cc
on_from TurnState.Ended e = cc

-- it goes on, and does not wait
abbrev pub goes_on : Code → Shape → Standing → ThreadView → Bool
goes_on code s g t = may_go t.machine.at.state && not (waits_now code s g.words t.machine)

held : (a b : Bool) → a ≡ true → (a && not b) ≡ false → b ≡ true
held true true e f = refl
held true false e f = cc
held false b e f = cc

pub spent_when : (a b c d : Bool) → a ≡ true → (b && not d) ≡ true → (a && (b && (c && not d))) ≡ false → c ≡ false
spent_when true true false d e f h = refl
spent_when true true true false e f h = h
spent_when true true true true e f h = cc
spent_when true false c d e f h = cc
spent_when false b c d e f h = cc

pub none_at : (p : ThreadView → Bool) (xs : List ThreadView) (k : ℕ) (d : ThreadView) → list_any p xs ≡ false → k < length xs → p (get_or xs k d) ≡ false
none_at p [] k d e low = absurd (omega (arith, low))
none_at p (x ∷ xs) zero d e low = or_first (p x) (list_any p xs) e
none_at p (x ∷ xs) (suc k) d e low = none_at p xs k d (or_second (p x) (list_any p xs) e) (omega (arith, low))

-- the first that passes a test
pub record IsOne (p : ThreadView → Bool) (xs : List ThreadView) : Type 0 where
  pub place : ℕ
  pub thread : ThreadView
  pub low : place < length xs
  pub is : get_or xs place thread ≡ thread
  pub passes : p thread ≡ true

later_one : (p : ThreadView → Bool) (x : ThreadView) (xs : List ThreadView) → IsOne p xs → IsOne p (x ∷ xs)
later_one p x xs one = record { place = suc one.place; thread = one.thread; low = let h = one.low in omega (arith, h); is = one.is; passes = one.passes }

pub one_in : (p : ThreadView → Bool) (xs : List ThreadView) → list_any p xs ≡ true → IsOne p xs
one_in p [] e = absurd (let h : false ≡ true = e in cc)
one_in p (x ∷ xs) e = either (p x) (list_any p xs) (IsOne p (x ∷ xs)) (λ h. record { place = 0; thread = x; low = omega arith; is = refl; passes = h }) (λ h. later_one p x xs (one_in p xs h)) e

-- ---- the threads of a run
module _ (code : Code) (s : Shape) (turns : List Turn) (threads : List ThreadView) (fits : s.threads ≡ THREADS) (are : AreStarted code s (place_after code s turns) threads) where
  abbrev g : Standing
  g = place_after code s turns

  pub at : (k : ℕ) (d : ThreadView) → k < length threads → IsAt code s g (get_or threads k d)
  at k d low = are.each k d low

  pub was_started : (k : ℕ) (d : ThreadView) → k < length threads → g.started (number_of (get_or threads k d)) ≡ true
  was_started k d low =
      of_filter g.started (number_of (get_or threads k d)) (range_with_len 0 s.threads)
      (subst (Within (number_of (get_or threads k d))) are.numbers (numbered code s g d threads k d low))

  pub is_listed : (t : ℕ) → g.started t ≡ true → Within t (map number_of threads)
  is_listed t is_true =
      subst (Within t) (sym are.numbers)
      (in_filter g.started t (range_with_len 0 s.threads) is_true (in_range 0 s.threads t (omega arith) (let h = started_low code s turns t is_true in omega (arith, h, fits))))

  pub all_gone : AllAreDone g → list_any was_stopped threads ≡ false → All (λ t. has_gone t ≡ true) threads
  all_gone ended none = λ k d low.
      let thread = get_or threads k d in
      gone_from thread.machine.at.state (ap (λ m. may_go m.at.state) (at k d low).machine ∙ ended (number_of thread) (was_started k d low)) (none_at was_stopped threads k d none low)

  -- where each thread that goes on waits, the run is done or stuck
  pub waits_all : list_any (goes_on code s g) threads ≡ false → (t : ℕ) → IsOn g t → waits_now code s g.words (g.threads t) ≡ true
  waits_all none t on =
      let found = find_number code s g (goes_on code s g) t threads are.each none (is_listed t on.0) in
      let same = found.at.machine ∙ ap g.threads found.number in
      ap (λ m. waits_now code s g.words m) (sym same)
      ∙ held (may_go found.thread.machine.at.state) (waits_now code s g.words found.thread.machine) (ap (λ m. may_go m.at.state) same ∙ on.1) found.fails

  pub not_stuck : list_any (goes_on code s g) threads ≡ false → ¬ AllAreDone g → ¬ IsStuck code s g → ⊥
  not_stuck none undone unstuck = undone (λ t is_true. by t is_true (may_go (g.threads t).at.state) refl)
    where
      by : (t : ℕ) → g.started t ≡ true → (b : Bool) → may_go (g.threads t).at.state ≡ b → may_go (g.threads t).at.state ≡ false
      by t is_true true e = absurd (unstuck record { some = (t, (is_true, e)); all = waits_all none })
      by t is_true false e = e
