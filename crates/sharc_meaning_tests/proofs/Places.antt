-- What is listed at places.
use Rattle.sharc_meaning_tests.proofs.Imports.{◌≡◌, ◌⊎◌, inl, inr, ℕ, zero, suc, ◌<◌, ◌≤◌, Bool, true, false, List, [], ◌∷◌, ◌++◌, refl, ap, sym, subst, arith, eqb-true, eq-eqb, both_ways, ◌==◌, if◌then◌else◌, SourceEvent, Holder, InThread, IsListed, AreDistinct, at_places, in_thread_all}

pub in_front : (h : Holder) (a b : List Holder) → IsListed h a → IsListed h (a ++ b)
in_front h [] b i = absurd i
in_front h (x ∷ a) b (inl e) = inl e
in_front h (x ∷ a) b (inr i) = inr (in_front h a b i)

pub in_back : (h : Holder) (a b : List Holder) → IsListed h b → IsListed h (a ++ b)
in_back h [] b i = i
in_back h (x ∷ a) b i = inr (in_back h a b i)

pub in_either : (h : Holder) (a b : List Holder) → IsListed h (a ++ b) → IsListed h a ⊎ IsListed h b
in_either h [] b i = inr i
in_either h (x ∷ a) b (inl e) = inl (inl e)
in_either h (x ∷ a) b (inr i) = longer (in_either h a b i)
  where
    longer : IsListed h a ⊎ IsListed h b → IsListed h (x ∷ a) ⊎ IsListed h b
    longer (inl j) = inl (inr j)
    longer (inr j) = inr j

-- one holder, if a test is met
pub only : (b : Bool) (x h : Holder) → IsListed h (if b then x ∷ [] else []) → (b ≡ true) × (x ≡ h)
only true x h (inl e) = (refl, e)
only true x h (inr i) = absurd i
only false x h i = absurd i

pub alone : (b : Bool) (x : Holder) → b ≡ true → IsListed x (if b then x ∷ [] else [])
alone true x h = inl refl
alone false x h = absurd (cc)

pub one_distinct : (b : Bool) (x : Holder) → AreDistinct (if b then x ∷ [] else [])
one_distinct true x = (λ i. i, tt)
one_distinct false x = tt

-- ---- the references of a thread

pub record IsThreads (thread k : ℕ) (h : Holder) : Type 0 where
  pub which : ℕ
  pub is : InThread thread which ≡ h
  pub below : which < k

pub in_threads : (thread k : ℕ) (h : Holder) → IsListed h (in_thread_all thread k) → IsThreads thread k h
in_threads thread zero h i = absurd i
in_threads thread (suc k) h i = by_part (in_threads thread k h) (in_either h (in_thread_all thread k) (InThread thread k ∷ []) i)
  where
    by_part : (IsListed h (in_thread_all thread k) → IsThreads thread k h) → IsListed h (in_thread_all thread k) ⊎ IsListed h (InThread thread k ∷ []) → IsThreads thread (suc k) h
    by_part more (inl j) = let t = more j in let b = t.below in record { which = t.which; is = t.is; below = omega (arith, b) }
    by_part more (inr (inl e)) = record { which = k; is = e; below = omega arith }
    by_part more (inr (inr j)) = absurd j

pub of_threads : (thread k which : ℕ) → which < k → IsListed (InThread thread which) (in_thread_all thread k)
of_threads thread zero which less = absurd (omega (arith, less))
of_threads thread (suc k) which less = by_last (of_threads thread k which) (which == k) refl
  where
    by_last : (which < k → IsListed (InThread thread which) (in_thread_all thread k)) → (b : Bool) → (which == k) ≡ b → IsListed (InThread thread which) (in_thread_all thread (suc k))
    by_last more true i = in_back (InThread thread which) (in_thread_all thread k) (InThread thread k ∷ []) (inl (ap (InThread thread) (sym (eqb-true which k i))))
    by_last more false i =
        let other : which ≡ k → ⊥ = λ e. both_ways _ i (eq-eqb which k e) in
        in_front (InThread thread which) (in_thread_all thread k) (InThread thread k ∷ []) (more (omega (arith, less, other)))

same_which : (thread a b : ℕ) → InThread thread a ≡ InThread thread b → a ≡ b
same_which thread a b e = cc

distinct_back : (l : List Holder) (x : Holder) → AreDistinct l → (IsListed x l → ⊥) → AreDistinct (l ++ x ∷ [])
distinct_back [] x d other = (λ i. i, tt)
distinct_back (y ∷ l) x d other = (λ i. by_part (in_either y l (x ∷ []) i), distinct_back l x d.1 (λ i. other (inr i)))
  where
    by_part : IsListed y l ⊎ IsListed y (x ∷ []) → ⊥
    by_part (inl j) = d.0 j
    by_part (inr (inl e)) = other (inl (sym e))
    by_part (inr (inr j)) = j

pub threads_distinct : (thread k : ℕ) → AreDistinct (in_thread_all thread k)
threads_distinct thread zero = tt
threads_distinct thread (suc k) = distinct_back (in_thread_all thread k) (InThread thread k) (threads_distinct thread k)
    (λ i. let t = in_threads thread k (InThread thread k) i in let b = t.below in let same : t.which ≡ k = same_which thread t.which k t.is in omega (arith, b, same))

-- ---- all places

module _ (q : SourceEvent → List SourceEvent → List Holder) where
  pub record AtPlace (R : List SourceEvent) (h : Holder) : Type 0 where
    pub before : List SourceEvent
    pub event : SourceEvent
    pub after : List SourceEvent
    pub stands : R ≡ before ++ event ∷ after
    pub listed : IsListed h (q event after)

  pub somewhere : (R : List SourceEvent) (h : Holder) → IsListed h (at_places q R) → AtPlace R h
  somewhere [] h i = absurd i
  somewhere (e ∷ R) h i = by_part (somewhere R h) (in_either h (q e R) (at_places q R) i)
    where
      by_part : (IsListed h (at_places q R) → AtPlace R h) → IsListed h (q e R) ⊎ IsListed h (at_places q R) → AtPlace (e ∷ R) h
      by_part more (inl j) = record { before = []; event = e; after = R; stands = refl; listed = j }
      by_part more (inr j) = let p = more j in record { before = e ∷ p.before; event = p.event; after = p.after; stands = ap (λ z. e ∷ z) p.stands; listed = p.listed }

  pub at_place : (before : List SourceEvent) (e : SourceEvent) (after : List SourceEvent) (h : Holder) → IsListed h (q e after) → IsListed h (at_places q (before ++ e ∷ after))
  at_place [] e after h i = in_front h (q e after) (at_places q after) i
  at_place (x ∷ before) e after h i = in_back h (q x (before ++ e ∷ after)) (at_places q (before ++ e ∷ after)) (at_place before e after h i)

  pub here : (R before : List SourceEvent) (e : SourceEvent) (after : List SourceEvent) (h : Holder) → R ≡ before ++ e ∷ after → IsListed h (q e after) → IsListed h (at_places q R)
  here R before e after h stands i = subst (λ z. IsListed h (at_places q z)) (sym stands) (at_place before e after h i)

-- two lists with nothing in common
pub both_distinct : (a b : List Holder) → AreDistinct a → AreDistinct b → ((h : Holder) → IsListed h a → IsListed h b → ⊥) → AreDistinct (a ++ b)
both_distinct [] b da db apart = db
both_distinct (x ∷ a) b da db apart = (λ i. by_part (in_either x a b i), both_distinct a b da.1 db (λ h i j. apart h (inr i) j))
  where
    by_part : IsListed x a ⊎ IsListed x b → ⊥
    by_part (inl j) = da.0 j
    by_part (inr j) = apart x (inl refl) j
