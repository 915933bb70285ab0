-- The queue of ports: each is in it once, so there are no more than there are ports.
use Rattle.sharc_record.proofs.Imports.{◌≡◌, ◌≢◌, ℕ, zero, suc, ◌<◌, ◌≤◌, List, [], ◌∷◌, ◌++◌, length, sym, subst, arith, dite, some, some-ne-none, dec_le, ℕ_discrete, get_elem?, IsNew, AreNew, AreBelow}

pub new_snoc : (m n : ℕ) (ms : List ℕ) → m ≢ n → IsNew m ms → IsNew m (ms ++ n ∷ [])
new_snoc m n [] apart h = (apart, tt)
new_snoc m n (x ∷ xs) apart h = (h.0, new_snoc m n xs apart h.1)

pub are_new_snoc : (n : ℕ) (ms : List ℕ) → IsNew n ms → AreNew ms → AreNew (ms ++ n ∷ [])
are_new_snoc n [] h all = (tt, tt)
are_new_snoc n (x ∷ xs) h all = (new_snoc x n xs (λ e. h.0 (sym e)) all.0, are_new_snoc n xs h.1 all.1)

pub below_snoc : (bound n : ℕ) (ms : List ℕ) → n < bound → AreBelow bound ms → AreBelow bound (ms ++ n ∷ [])
below_snoc bound n [] lt h = (lt, tt)
below_snoc bound n (x ∷ xs) lt h = (h.0, below_snoc bound n xs lt h.1)

pub place_within : (ms : List ℕ) (n place : ℕ) → get_elem? ms place ≡ some n → place < length ms
place_within [] n place e = absurd (some-ne-none n (sym e))
place_within (x ∷ xs) n zero e = omega arith
place_within (x ∷ xs) n (suc place) e = omega (arith, place_within xs n place e)

-- these without the number
abbrev pub less : ℕ → List ℕ → List ℕ
less n [] = []
less n (x ∷ xs) = dite (ℕ_discrete x n) (λ e. xs) (λ apart. x ∷ less n xs)

less_new : (n m : ℕ) (xs : List ℕ) → IsNew m xs → IsNew m (less n xs)
less_new n m [] h = tt
less_new n m (x ∷ xs) h = here (ℕ_discrete x n) (less_new n m xs h.1) where
  here : (d : Dec (x ≡ n)) → IsNew m (less n xs) → IsNew m (dite d (λ e. xs) (λ apart. x ∷ less n xs))
  here (yes e) r = h.1
  here (no apart) r = (h.0, r)

less_are_new : (n : ℕ) (xs : List ℕ) → AreNew xs → AreNew (less n xs)
less_are_new n [] h = tt
less_are_new n (x ∷ xs) h = here (ℕ_discrete x n) (less_are_new n xs h.1) where
  here : (d : Dec (x ≡ n)) → AreNew (less n xs) → AreNew (dite d (λ e. xs) (λ apart. x ∷ less n xs))
  here (yes e) r = h.1
  here (no apart) r = (less_new n x xs h.0, r)

smaller : (n x : ℕ) → x ≢ n → x < suc n → x < n
smaller n x apart lt = dite (dec_le n x) (λ le. absurd (apart (omega arith))) (λ not. omega arith)

new_below : (n : ℕ) (xs : List ℕ) → IsNew n xs → AreBelow (suc n) xs → AreBelow n xs
new_below n [] h b = tt
new_below n (x ∷ xs) h b = (smaller n x (λ e. h.0 (sym e)) b.0, new_below n xs h.1 b.1)

less_below : (n : ℕ) (xs : List ℕ) → AreNew xs → AreBelow (suc n) xs → AreBelow n (less n xs)
less_below n [] h b = tt
less_below n (x ∷ xs) h b = here (ℕ_discrete x n) (less_below n xs h.1 b.1) where
  here : (d : Dec (x ≡ n)) → AreBelow n (less n xs) → AreBelow n (dite d (λ e. xs) (λ apart. x ∷ less n xs))
  here (yes e) r = new_below n xs (subst (λ m. IsNew m xs) e h.0) b.1
  here (no apart) r = (smaller n x apart b.0, r)

less_length : (n : ℕ) (xs : List ℕ) → length xs ≤ suc (length (less n xs))
less_length n [] = omega arith
less_length n (x ∷ xs) = here (ℕ_discrete x n) (less_length n xs) where
  here : (d : Dec (x ≡ n)) → length xs ≤ suc (length (less n xs)) → suc (length xs) ≤ suc (length (dite d (λ e. xs) (λ apart. x ∷ less n xs)))
  here (yes e) r = omega arith
  here (no apart) r = omega arith

pub few_new : (n : ℕ) (xs : List ℕ) → AreNew xs → AreBelow n xs → length xs ≤ n
few_new zero [] h b = omega arith
few_new zero (x ∷ xs) h b = let lt = b.0 in absurd (omega arith)
few_new (suc n) xs h b = omega (arith, less_length n xs, few_new n (less n xs) (less_are_new n xs h) (less_below n xs h b))
