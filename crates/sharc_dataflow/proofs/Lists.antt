-- What a list of actions has, where it is put together from two.
use Rattle.sharc_dataflow.proofs.Imports.{ℕ, List, [], ◌∷◌, ◌++◌, ◌⊎◌, inl, inr, Act, Spares, Clear, NullingStands, Shows, Hits}

module _ (x : ℕ) where
  pub clear_both : (l m : List Act) → Clear x l → Clear x m → Clear x (l ++ m)
  clear_both [] m h k = k
  clear_both (a ∷ l) m h k = (h.0, clear_both l m h.1 k)

  pub clear_first : (l m : List Act) → Clear x (l ++ m) → Clear x l
  clear_first [] m h = tt
  clear_first (a ∷ l) m h = (h.0, clear_first l m h.1)

  pub clear_last : (l m : List Act) → Clear x (l ++ m) → Clear x m
  clear_last [] m h = h
  clear_last (a ∷ l) m h = clear_last l m h.1

  pub stands_on : (k : ℕ) (l m : List Act) → NullingStands x k l → Clear x m → NullingStands x k (l ++ m)
  stands_on k [] m h c = absurd h
  stands_on k (a ∷ l) m (inl h) c = inl (h.0, clear_both l m h.1 c)
  stands_on k (a ∷ l) m (inr h) c = inr (stands_on k l m h c)

  pub stands_cases : (k : ℕ) (l m : List Act) → NullingStands x k (l ++ m) → (NullingStands x k l × Clear x m) ⊎ NullingStands x k m
  stands_cases k [] m h = inr h
  stands_cases k (a ∷ l) m (inl h) = inl (inl (h.0, clear_first l m h.1), clear_last l m h.1)
  stands_cases k (a ∷ l) m (inr h) = elim (stands_cases k l m h) [ inl c ↦ inl (inr c.0, c.1) | inr c ↦ inr c ]

  pub shows_behind : (r : ℕ) (l m : List Act) → Clear x l → Shows x r m → Shows x r (l ++ m)
  shows_behind r [] m c h = h
  shows_behind r (a ∷ l) m c h = inr (c.0, shows_behind r l m c.1 h)

  pub shows_cases : (r : ℕ) (l m : List Act) → Shows x r (l ++ m) → Shows x r l ⊎ (Clear x l × Shows x r m)
  shows_cases r [] m h = inr (tt, h)
  shows_cases r (a ∷ l) m (inl h) = inl (inl h)
  shows_cases r (a ∷ l) m (inr h) = later h.0 (shows_cases r l m h.1)
    where
      later : Spares x a → Shows x r l ⊎ (Clear x l × Shows x r m) → Shows x r (a ∷ l) ⊎ (Clear x (a ∷ l) × Shows x r m)
      later s (inl c) = inl (inr (s, c))
      later s (inr c) = inr ((s, c.0), c.1)

  pub hits_across : (k r : ℕ) (l m : List Act) → NullingStands x k l → Shows x r m → Hits x k r (l ++ m)
  hits_across k r [] m h s = absurd h
  hits_across k r (a ∷ l) m (inl h) s = inl (h.0, shows_behind r l m h.1 s)
  hits_across k r (a ∷ l) m (inr h) s = inr (hits_across k r l m h s)

  -- where a hit in two lists lies
  pub data Split (k r : ℕ) (l m : List Act) : Type 0 where
    first : Hits x k r l → Split k r l m
    across : NullingStands x k l → Shows x r m → Split k r l m
    last : Hits x k r m → Split k r l m

  pub hits_cases : (k r : ℕ) (l m : List Act) → Hits x k r (l ++ m) → Split k r l m
  hits_cases k r [] m h = last h
  hits_cases k r (a ∷ l) m (inl h) = elim (shows_cases r l m h.1) [ inl c ↦ first (inl (h.0, c)) | inr c ↦ across (inl (h.0, c.0)) c.1 ]
  hits_cases k r (a ∷ l) m (inr h) = later (hits_cases k r l m h)
    where
      later : Split k r l m → Split k r (a ∷ l) m
      later (first c) = first (inr c)
      later (across c d) = across (inr c) d
      later (last c) = last c
