-- The reads of a granule since it was last written.
use Rattle.std.proofs.{Common.{◌≡◌, ◌⊎◌, inl, inr, ℕ, ◌+◌, Bool, true, false, ◌&&◌, ◌||◌, List, [], ◌∷◌, ◌++◌, length, refl, ap, sym, subst, ◌∙◌, arith}, lemmas.Bool.{or_parts, or_cases, or_left, or_right}, lemmas.List.Folds.list_any-append}
use Rattle.std.specs.{Prelude.{if◌then◌else◌}, List.list_any}
use Rattle.sharc_tree.specs.declared.event.SourceEvent.{SourceEvent}
use Rattle.sharc_meaning.specs.Events.{access_by, Stands}
use Rattle.sharc_judge.specs.{declared.keys.GranuleKey.GranuleKey, declared.table.Noted.Noted, Reads.{is_shared, is_write, with_shared, with_read, reads_from}}

pub reads_more : (q : GranuleKey) (l : List SourceEvent) (e : SourceEvent) → reads_from q 0 [] (l ++ e ∷ []) ≡ with_read q (record { place = length l; event = e }) (reads_from q 0 [] l)
reads_more q l e = from 0 (length l) [] l (omega arith)
  where
    from : (n p : ℕ) (reads : List Noted) (l : List SourceEvent) → p ≡ n + length l → reads_from q n reads (l ++ e ∷ []) ≡ with_read q (record { place = p; event = e }) (reads_from q n reads l)
    from n p reads [] h = ap (λ (z : ℕ). with_read q (record { place = z; event = e }) reads) (omega (arith, h))
    from n p reads (x ∷ l) h = from (n + 1) p (with_read q (record { place = n; event = x }) reads) l (omega (arith, h))

abbrev noted_at : ℕ → SourceEvent → Noted
noted_at n e = record { place = n; event = e }

module _ (q : GranuleKey) (f : Noted → Bool) where
  -- a read that meets a test
  pub record IsRead (n : ℕ) (l : List SourceEvent) : Type 0 where
    pub before : List SourceEvent
    pub event : SourceEvent
    pub after : List SourceEvent
    pub stands : Stands l before event after
    pub meets : f (record { place = n + length before; event = event }) ≡ true

  pub read_found : (n : ℕ) (reads : List Noted) (l : List SourceEvent) → list_any f (reads_from q n reads l) ≡ true → (list_any f reads ≡ true) ⊎ IsRead n l
  read_found n reads [] h = inl h
  read_found n reads (e ∷ l) h = by_rest (read_found (n + 1) (with_read q (record { place = n; event = e }) reads) l h)
    where
      here : f (noted_at n e) ≡ true → IsRead n (e ∷ l)
      here k = record { before = []; event = e; after = l; stands = refl; meets = subst (λ (z : ℕ). f (record { place = z; event = e }) ≡ true) (omega arith) k }

      by_added : (list_any f reads ≡ true) ⊎ ((f (noted_at n e) || false) ≡ true) → (list_any f reads ≡ true) ⊎ IsRead n (e ∷ l)
      by_added (inl k) = inl k
      by_added (inr k) = elim (or_cases (f (noted_at n e)) false k) [ inl m ↦ inr (here m) | inr m ↦ absurd (cc) ]

      by_write : (w : Bool) → list_any f (with_shared w (noted_at n e) reads) ≡ true → (list_any f reads ≡ true) ⊎ IsRead n (e ∷ l)
      by_write true k = absurd (cc)
      by_write false k = by_added (or_cases (list_any f reads) (f (noted_at n e) || false) (sym (list_any-append f reads ((noted_at n e) ∷ [])) ∙ k))

      by_shared : (b : Bool) → list_any f (if b then with_shared (is_write (access_by e.act)) (noted_at n e) reads else reads) ≡ true → (list_any f reads ≡ true) ⊎ IsRead n (e ∷ l)
      by_shared true k = by_write (is_write (access_by e.act)) k
      by_shared false k = inl k

      by_rest : (list_any f (with_read q (noted_at n e) reads) ≡ true) ⊎ IsRead (n + 1) l → (list_any f reads ≡ true) ⊎ IsRead n (e ∷ l)
      by_rest (inl k) = by_shared (is_shared q (access_by e.act)) k
      by_rest (inr s) =
          inr (record { before = e ∷ s.before; event = s.event; after = s.after; stands = ap (λ z. e ∷ z) s.stands; meets = subst (λ (z : ℕ). f (record { place = z; event = s.event }) ≡ true) (omega arith) s.meets })

  -- the event is a write of the granule
  abbrev pub writes : SourceEvent → Bool
  writes e = is_shared q (access_by e.act) && is_write (access_by e.act)

  stays : (n : ℕ) (reads : List Noted) (l : List SourceEvent) → list_any writes l ≡ false → list_any f reads ≡ true → list_any f (reads_from q n reads l) ≡ true
  stays n reads [] h k = k
  stays n reads (e ∷ l) h k =
      let parts = or_parts (writes e) (list_any writes l) h in
      stays (n + 1) (with_read q (noted_at n e) reads) l parts.1 (by_shared (is_shared q (access_by e.act)) (is_write (access_by e.act)) parts.0)
    where
      by_shared : (b w : Bool) → (b && w) ≡ false → list_any f (if b then with_shared w (noted_at n e) reads else reads) ≡ true
      by_shared true true i = absurd (cc)
      by_shared true false i = list_any-append f reads ((noted_at n e) ∷ []) ∙ or_left (list_any f reads) (f (noted_at n e) || false) k
      by_shared false w i = k

  from_there : (n : ℕ) (reads : List Noted) (before : List SourceEvent) (d : SourceEvent) (after : List SourceEvent) → is_shared q (access_by d.act) ≡ true → is_write (access_by d.act) ≡ false
      → list_any writes after ≡ false → f (record { place = n + length before; event = d }) ≡ true → list_any f (reads_from q n reads (before ++ d ∷ after)) ≡ true
  from_there n reads [] d after shared read quiet h =
      stays (n + 1) (with_read q (noted_at n d) reads) after quiet
      (ap (λ b. list_any f (if b then with_shared (is_write (access_by d.act)) (noted_at n d) reads else reads)) shared
      ∙ ap (λ w. list_any f (with_shared w (noted_at n d) reads)) read
      ∙ list_any-append f reads ((noted_at n d) ∷ [])
      ∙ or_right (list_any f reads) (f (noted_at n d) || false) (or_left (f (noted_at n d)) false (subst (λ (z : ℕ). f (record { place = z; event = d }) ≡ true) (omega arith) h)))
  from_there n reads (x ∷ before) d after shared read quiet h =
      from_there (n + 1) (with_read q (record { place = n; event = x }) reads) before d after shared read quiet (subst (λ (z : ℕ). f (record { place = z; event = d }) ≡ true) (omega arith) h)

  pub read_is_there : (R before : List SourceEvent) (d : SourceEvent) (after : List SourceEvent) → Stands R before d after → is_shared q (access_by d.act) ≡ true → is_write (access_by d.act) ≡ false
      → list_any writes after ≡ false → f (record { place = length before; event = d }) ≡ true → list_any f (reads_from q 0 [] R) ≡ true
  read_is_there R before d after stands shared read quiet h =
      ap (λ z. list_any f (reads_from q 0 [] z)) stands ∙ from_there 0 [] before d after shared read quiet (subst (λ (z : ℕ). f (record { place = z; event = d }) ≡ true) (omega arith) h)
