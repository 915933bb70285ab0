-- As many registers refer to an object, as many references to it are held.
use Rattle.sharc_wants_laws.proofs.Imports.{◌≡◌, ℕ, zero, suc, pos, ◌+◌, ◌<◌, ◌≤◌, Bool, true, false, cond, List, [], ◌∷◌, refl, ap, sym, ◌∙◌, arith, get_or, false≢true, sum_by-cons, count_by, slice_index, Asked, refers, held_count, Machine, IsTested}

-- ---- counts
module _ {X : Type 0} (p : X → Bool) (d : X) (none : p d ≡ false) where
  counted : (x : X) (xs : List X) → count_by p (x ∷ xs) ≡ cond (p x) 1 0 + count_by p xs
  counted x xs = sum_by-cons (λ x. cond (p x) 1 0) x xs

  counted_here : (x : X) (xs : List X) → p x ≡ true → count_by p (x ∷ xs) ≡ 1 + count_by p xs
  counted_here x xs is = counted x xs ∙ ap (λ b. cond b 1 0 + count_by p xs) is

  no_less : (x : X) (xs : List X) → count_by p xs ≤ count_by p (x ∷ xs)
  no_less x xs = let e = counted x xs in omega (arith, e)

  pub one_there : (xs : List X) (k : ℕ) → p (get_or xs k d) ≡ true → 0 < count_by p xs
  one_there [] k is = absurd (false≢true (sym none ∙ is))
  one_there (x ∷ xs) zero is = let e = counted_here x xs is in omega (arith, e)
  one_there (x ∷ xs) (suc k) is = let more = one_there xs k is in let low = no_less x xs in omega (arith, more, low)

  pub two_there : (xs : List X) (i k : ℕ) → (i ≡ k → ⊥) → p (get_or xs i d) ≡ true → p (get_or xs k d) ≡ true → 1 < count_by p xs
  two_there [] i k apart one two = absurd (false≢true (sym none ∙ one))
  two_there (x ∷ xs) zero zero apart one two = absurd (apart refl)
  two_there (x ∷ xs) zero (suc k) apart one two = let e = counted_here x xs one in let more = one_there xs k two in omega (arith, e, more)
  two_there (x ∷ xs) (suc i) zero apart one two = let e = counted_here x xs two in let more = one_there xs i one in omega (arith, e, more)
  two_there (x ∷ xs) (suc i) (suc k) apart one two = let more = two_there xs i k (λ e. apart (ap suc e)) one two in let low = no_less x xs in omega (arith, more, low)

pub twice : (a : Asked) (at : Machine) (register : ℕ) → IsTested a at register → (i k n : ℕ) → (i ≡ k → ⊥) → slice_index at.refs i ≡ n → slice_index at.refs k ≡ n → 0 < n → 1 < held_count a n
twice a at register t i k n apart first second some = two_there (refers n) (pos 0) refl a.held i k apart (t.registers i n first some) (t.registers k n second some)
