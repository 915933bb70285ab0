-- Actions that cover others: what stands, shows or hits in these does so in those.
use Rattle.sharc_live_laws.proofs.Imports.{ℕ, List, [], ◌∷◌, ◌++◌, ◌⊎◌, inl, inr, Act, Writes, Spares, Clear, NullingStands, Shows, Hits}

module _ (x : ℕ) where
  -- ---- what holds of two lists in turn

  clear_both : (a b : List Act) → Clear x a → Clear x b → Clear x (a ++ b)
  clear_both [] b h k = k
  clear_both (e ∷ a) b h k = (h.0, clear_both a b h.1 k)

  clear_first : (a b : List Act) → Clear x (a ++ b) → Clear x a
  clear_first [] b h = tt
  clear_first (e ∷ a) b h = (h.0, clear_first a b h.1)

  clear_second : (a b : List Act) → Clear x (a ++ b) → Clear x b
  clear_second [] b h = h
  clear_second (e ∷ a) b h = clear_second a b h.1

  shows_cases : (r : ℕ) (a b : List Act) → Shows x r (a ++ b) → Shows x r a ⊎ (Clear x a × Shows x r b)
  shows_cases r [] b h = inr (tt, h)
  shows_cases r (e ∷ a) b (inl h) = inl (inl h)
  shows_cases r (e ∷ a) b (inr h) = later (shows_cases r a b h.1)
    where
      later : Shows x r a ⊎ (Clear x a × Shows x r b) → Shows x r (e ∷ a) ⊎ (Clear x (e ∷ a) × Shows x r b)
      later (inl i) = inl (inr (h.0, i))
      later (inr i) = inr ((h.0, i.0), i.1)

  shows_first : (r : ℕ) (a b : List Act) → Shows x r a → Shows x r (a ++ b)
  shows_first r [] b h = absurd h
  shows_first r (e ∷ a) b (inl h) = inl h
  shows_first r (e ∷ a) b (inr h) = inr (h.0, shows_first r a b h.1)

  pub shows_second : (r : ℕ) (a b : List Act) → Clear x a → Shows x r b → Shows x r (a ++ b)
  shows_second r [] b k h = h
  shows_second r (e ∷ a) b k h = inr (k.0, shows_second r a b k.1 h)

  stands_cases : (k : ℕ) (a b : List Act) → NullingStands x k (a ++ b) → (NullingStands x k a × Clear x b) ⊎ NullingStands x k b
  stands_cases k [] b h = inr h
  stands_cases k (e ∷ a) b (inl h) = inl (inl (h.0, clear_first a b h.1), clear_second a b h.1)
  stands_cases k (e ∷ a) b (inr h) = later (stands_cases k a b h)
    where
      later : (NullingStands x k a × Clear x b) ⊎ NullingStands x k b → (NullingStands x k (e ∷ a) × Clear x b) ⊎ NullingStands x k b
      later (inl i) = inl (inr i.0, i.1)
      later (inr i) = inr i

  stands_first : (k : ℕ) (a b : List Act) → NullingStands x k a → Clear x b → NullingStands x k (a ++ b)
  stands_first k [] b h l = absurd h
  stands_first k (e ∷ a) b (inl h) l = inl (h.0, clear_both a b h.1 l)
  stands_first k (e ∷ a) b (inr h) l = inr (stands_first k a b h l)

  stands_second : (k : ℕ) (a b : List Act) → NullingStands x k b → NullingStands x k (a ++ b)
  stands_second k [] b h = h
  stands_second k (e ∷ a) b h = inr (stands_second k a b h)

  hits_cases : (k r : ℕ) (a b : List Act) → Hits x k r (a ++ b) → Hits x k r a ⊎ ((NullingStands x k a × Shows x r b) ⊎ Hits x k r b)
  hits_cases k r [] b h = inr (inr h)
  hits_cases k r (e ∷ a) b (inl h) = across (shows_cases r a b h.1)
    where
      across : Shows x r a ⊎ (Clear x a × Shows x r b) → Hits x k r (e ∷ a) ⊎ ((NullingStands x k (e ∷ a) × Shows x r b) ⊎ Hits x k r b)
      across (inl i) = inl (inl (h.0, i))
      across (inr i) = inr (inl (inl (h.0, i.0), i.1))
  hits_cases k r (e ∷ a) b (inr h) = later (hits_cases k r a b h)
    where
      later : Hits x k r a ⊎ ((NullingStands x k a × Shows x r b) ⊎ Hits x k r b) → Hits x k r (e ∷ a) ⊎ ((NullingStands x k (e ∷ a) × Shows x r b) ⊎ Hits x k r b)
      later (inl i) = inl (inr i)
      later (inr (inl i)) = inr (inl (inr i.0, i.1))
      later (inr (inr i)) = inr (inr i)

  hits_first : (k r : ℕ) (a b : List Act) → Hits x k r a → Hits x k r (a ++ b)
  hits_first k r [] b h = absurd h
  hits_first k r (e ∷ a) b (inl h) = inl (h.0, shows_first r a b h.1)
  hits_first k r (e ∷ a) b (inr h) = inr (hits_first k r a b h)

  hits_across : (k r : ℕ) (a b : List Act) → NullingStands x k a → Shows x r b → Hits x k r (a ++ b)
  hits_across k r [] b h l = absurd h
  hits_across k r (e ∷ a) b (inl h) l = inl (h.0, shows_second r a b h.1 l)
  hits_across k r (e ∷ a) b (inr h) l = inr (hits_across k r a b h l)

  pub hits_second : (k r : ℕ) (a b : List Act) → Hits x k r b → Hits x k r (a ++ b)
  hits_second k r [] b h = h
  hits_second k r (e ∷ a) b h = inr (hits_second k r a b h)

  -- ---- covering

  pub record Covers (us l : List Act) : Type 0 where
    pub hits : (k r : ℕ) → Hits x k r us → Hits x k r l
    pub shows : (r : ℕ) → Shows x r us → Shows x r l
    pub stands : (k : ℕ) → NullingStands x k us → NullingStands x k l
    pub clear : Clear x us → Clear x l

  pub covers_same : (us : List Act) → Covers us us
  covers_same us = record { hits = λ k r h. h; shows = λ r h. h; stands = λ k h. h; clear = λ h. h }

  pub covers_both : (a b c d : List Act) → Covers a b → Covers c d → Covers (a ++ c) (b ++ d)
  covers_both a b c d p q = record {
    hits = λ k r h. hit k r (hits_cases k r a c h);
    shows = λ r h. shown r (shows_cases r a c h);
    stands = λ k h. standing k (stands_cases k a c h);
    clear = λ h. clear_both b d (p.clear (clear_first a c h)) (q.clear (clear_second a c h));
  }
    where
      hit : (k r : ℕ) → Hits x k r a ⊎ ((NullingStands x k a × Shows x r c) ⊎ Hits x k r c) → Hits x k r (b ++ d)
      hit k r (inl h) = hits_first k r b d (p.hits k r h)
      hit k r (inr (inl h)) = hits_across k r b d (p.stands k h.0) (q.shows r h.1)
      hit k r (inr (inr h)) = hits_second k r b d (q.hits k r h)

      shown : (r : ℕ) → Shows x r a ⊎ (Clear x a × Shows x r c) → Shows x r (b ++ d)
      shown r (inl h) = shows_first r b d (p.shows r h)
      shown r (inr h) = shows_second r b d (p.clear h.0) (q.shows r h.1)

      standing : (k : ℕ) → (NullingStands x k a × Clear x c) ⊎ NullingStands x k c → NullingStands x k (b ++ d)
      standing k (inl h) = stands_first k b d (p.stands k h.0) (q.clear h.1)
      standing k (inr h) = stands_second k b d (q.stands k h)

  -- an action more that is no write of the variable, and a write in place of two
  pub covers_spared : (e : Act) → Spares x e → Covers [] (e ∷ [])
  covers_spared e s = record { hits = λ k r h. absurd h; shows = λ r h. absurd h; stands = λ k h. absurd h; clear = λ h. (s, tt) }

  pub covers_twice : Covers (Writes x ∷ []) (Writes x ∷ (Writes x ∷ []))
  covers_twice = record { hits = hit; shows = shown; stands = standing; clear = λ h. (h.0, (h.0, tt)) }
    where
      hit : (k r : ℕ) → Hits x k r (Writes x ∷ []) → Hits x k r (Writes x ∷ (Writes x ∷ []))
      hit k r (inl h) = absurd (h.1)
      hit k r (inr h) = absurd h

      shown : (r : ℕ) → Shows x r (Writes x ∷ []) → Shows x r (Writes x ∷ (Writes x ∷ []))
      shown r (inl h) = inl h
      shown r (inr h) = absurd (h.1)

      standing : (k : ℕ) → NullingStands x k (Writes x ∷ []) → NullingStands x k (Writes x ∷ (Writes x ∷ []))
      standing k (inl h) = inr (inl (h.0, tt))
      standing k (inr h) = absurd h
