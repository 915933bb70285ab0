-- Threads that begin.
use Rattle.sharc_threads.proofs.Imports.{◌≡◌, ℕ, suc, ◌+◌, ◌-◌, ◌<◌, ◌≤◌, Bool, true, false, List, [], ◌∷◌, length, get_or, set, Option, Some, None, refl, sym, ap, ◌∙◌, subst, arith, below_more, get_or-set_same, get_or-set_other, or_right, or_left, or_none, nat_eq, nat_lt, ◌&&◌, ◌||◌, slice_index, fold, THREADS, Code, Shape, state_word, Machine, begun, is_started, bounds, ThreadView, IsSeat, AreSeats, HasBegun, left, left_to, and_left, or_cases, lt_true}

started_low : (words : List ℕ) (t : ℕ) → is_started bounds words t ≡ true → t < THREADS
started_low words t e = lt_true t THREADS (and_left (nat_lt t THREADS) (nat_eq (slice_index words (state_word t)) 1) e)

-- ---- one place
module _ (code : Code) (s : Shape) (threads : ℕ → Machine) (made : ℕ → ℕ) (started : ℕ → Bool) (words : List ℕ) where
  abbrev since : ℕ → Bool
  since t = is_started bounds words t || started t

  begins : (t : ℕ) (old new : Option ThreadView) → IsSeat code s threads made started t old → HasBegun code s words t old new → IsSeat code s threads made since t new
  begins t (Some thread) new is has = subst (IsSeat code s threads made since t) (sym has) (or_right (is_started bounds words t) (started t) is.0, is.1)
  begins t None None is has = (or_none (is_started bounds words t) (started t) has is.0, is.1, is.2)
  begins t None (Some thread) is has = (
    or_left (is_started bounds words t) (started t) has.0,
    record {
      thread_is = has.1.thread_is;
      number = ap (λ (m : Machine). m.own.number) has.1.machine;
      machine = has.1.machine ∙ sym is.1;
      made_is = has.1.made ∙ sym is.2;
    },
  )

  left_same : (limit t : ℕ) (old new : Option ThreadView) → HasBegun code s words t old new → left_to limit new ≡ left_to limit old
  left_same limit t (Some thread) new has = ap (left_to limit) has
  left_same limit t None None has = refl
  left_same limit t None (Some thread) has = let e = has.1.made in omega (arith, e)

  pub table_begins : (old new : List (Option ThreadView)) → AreSeats code s threads made started old → length new ≡ length old
      → ((t : ℕ) → t < THREADS → HasBegun code s words t (get_or old t None) (get_or new t None)) → AreSeats code s threads made since new
  table_begins old new are count has = record {
    count = count ∙ are.count;
    few = λ t e. or_cases (is_started bounds words t) (started t) (t < THREADS) (λ h. started_low words t h) (λ h. are.few t h) e;
    each = λ t low. begins t (get_or old t None) (get_or new t None) (are.each t low) (has t low);
  }

-- ---- sums
fold_same : {X : Type 0} (f : X → ℕ) (d : X) (xs ys : List X) (n : ℕ) → length ys ≡ length xs → ((t : ℕ) → t < length xs → f (get_or ys t d) ≡ f (get_or xs t d))
    → fold (λ a x. a + f x) n ys ≡ fold (λ a x. a + f x) n xs
fold_same f d [] [] n e same = refl
fold_same f d [] (y ∷ ys) n e same = absurd (omega (arith, e))
fold_same f d (x ∷ xs) [] n e same = absurd (omega (arith, e))
fold_same f d (x ∷ xs) (y ∷ ys) n e same =
    ap (λ k. fold (λ a z. a + f z) (n + k) ys) (same 0 (omega arith)) ∙ fold_same f d xs ys (n + f x) (omega (arith, e)) (λ t h. same (suc t) (omega (arith, h)))

pub as_many_left : (code : Code) (s : Shape) (words : List ℕ) (limit : ℕ) (old new : List (Option ThreadView)) → length old ≡ THREADS → length new ≡ length old
    → ((t : ℕ) → t < THREADS → HasBegun code s words t (get_or old t None) (get_or new t None)) → left limit new ≡ left limit old
as_many_left code s words limit old new many count has =
    fold_same (left_to limit) None old new 0 count (λ t low. left_same code s (begun code s) (λ k. 0) (λ k. false) words limit t (get_or old t None) (get_or new t None) (has t (omega (arith, low, many))))

-- ---- the table before the first turn
pub same_started : (code : Code) (s : Shape) (threads : ℕ → Machine) (made : ℕ → ℕ) (started other : ℕ → Bool) (seats : List (Option ThreadView)) → ((t : ℕ) → started t ≡ other t)
    → AreSeats code s threads made started seats → AreSeats code s threads made other seats
same_started code s threads made started other seats same are = record {
  count = are.count;
  few = λ t e. are.few t (same t ∙ e);
  each = λ t low. by t (get_or seats t None) (are.each t low);
}
  where
    by : (t : ℕ) (x : Option ThreadView) → IsSeat code s threads made started t x → IsSeat code s threads made other t x
    by t None is = (sym (same t) ∙ is.0, is.1, is.2)
    by t (Some thread) is = (sym (same t) ∙ is.0, is.1)

-- ---- one place after the other
module _ (R : ℕ → Option ThreadView → Option ThreadView → Type 0) (first now : List (Option ThreadView)) (n : ℕ) (new : Option ThreadView) (low : n < length now)
    (left : (t : ℕ) → n ≤ t → get_or now t None ≡ get_or first t None) where
  pub begun_more : ((t : ℕ) → t < n → R t (get_or first t None) (get_or now t None)) → R n (get_or now n None) new → (t : ℕ) → t < n + 1 → R t (get_or first t None) (get_or (set now n new) t None)
  begun_more done this t h =
      below_more (λ k. R k (get_or first k None) (get_or (set now n new) k None)) n
      (λ k below. subst (R k (get_or first k None)) (sym (get_or-set_other now n k new None (λ e. omega (arith, e, below)))) (done k below))
      (subst (R n (get_or first n None)) (sym (get_or-set_same now n new None low)) (subst (λ x. R n x new) (left n (omega arith)) this))
      t h

  pub left_more : (t : ℕ) → n + 1 ≤ t → get_or (set now n new) t None ≡ get_or first t None
  left_more t h = get_or-set_other now n t new None (λ e. omega (arith, e, h)) ∙ left t (omega (arith, h))
