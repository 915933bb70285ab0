-- The last event of a list that meets a test, and where it is.
use Rattle.sharc_meaning_tests.proofs.Imports.{◌≡◌, ◌⊎◌, inl, inr, Bool, true, false, ◌||◌, List, [], ◌∷◌, ◌++◌, Option, Some, None, refl, ap, sym, ◌∙◌, append_assoc, append-nil, or_parts, or_right, both_ways, reverse-append, list_any-append, find, if◌then◌else◌, list_any, SourceEvent, latest}

module _ (p : SourceEvent → Bool) where
  pub latest_next : (l : List SourceEvent) (e : SourceEvent) → latest p (l ++ e ∷ []) ≡ (if p e then Some e else latest p l)
  latest_next l e = ap (find p) (reverse-append l (e ∷ []))

  quiet_one : (l : List SourceEvent) (e : SourceEvent) → p e ≡ false → latest p (l ++ e ∷ []) ≡ latest p l
  quiet_one l e h = latest_next l e ∙ ap (λ z. if z then Some e else latest p l) h

  pub quiet : (after l : List SourceEvent) → list_any p after ≡ false → latest p (l ++ after) ≡ latest p l
  quiet [] l h = ap (latest p) (append-nil l)
  quiet (e ∷ after) l h =
      let parts = or_parts (p e) (list_any p after) h in
      ap (latest p) (sym (append_assoc l (e ∷ []) after)) ∙ quiet after (l ++ e ∷ []) parts.1 ∙ quiet_one l e parts.0

  pub latest_is : (before : List SourceEvent) (e : SourceEvent) (after : List SourceEvent) → p e ≡ true → list_any p after ≡ false → latest p (before ++ e ∷ after) ≡ Some e
  latest_is before e after h none =
      ap (latest p) (sym (append_assoc before (e ∷ []) after)) ∙ quiet after (before ++ e ∷ []) none ∙ latest_next before e ∙ ap (λ z. if z then Some e else latest p before) h

  pub latest_none : (l : List SourceEvent) → list_any p l ≡ false → latest p l ≡ None
  latest_none l none = quiet l [] none

  -- the last of them is here
  pub record LastAt (l : List SourceEvent) : Type 0 where
    pub before : List SourceEvent
    pub event : SourceEvent
    pub after : List SourceEvent
    pub stands : l ≡ before ++ event ∷ after
    pub is : p event ≡ true
    pub none : list_any p after ≡ false

  longer : (e : SourceEvent) (l : List SourceEvent) → LastAt l → LastAt (e ∷ l)
  longer e l s = record { before = e ∷ s.before; event = s.event; after = s.after; stands = ap (λ z. e ∷ z) s.stands; is = s.is; none = s.none }

  pub last_found : (l : List SourceEvent) → list_any p l ≡ true → LastAt l
  last_found [] h = absurd (cc)
  last_found (e ∷ l) h = by_rest (last_found l) (list_any p l) refl
    where
      by_first : list_any p l ≡ false → (b : Bool) → p e ≡ b → LastAt (e ∷ l)
      by_first none true i = record { before = []; event = e; after = l; stands = refl; is = i; none = none }
      by_first none false i = absurd (both_ways _ (ap (λ z. z || list_any p l) i ∙ none) h)

      by_rest : (list_any p l ≡ true → LastAt l) → (b : Bool) → list_any p l ≡ b → LastAt (e ∷ l)
      by_rest more true i = longer e l (more i)
      by_rest more false i = by_first i (p e) refl

  pub latest_last : (l : List SourceEvent) (s : LastAt l) → latest p l ≡ Some s.event
  latest_last l s = ap (latest p) s.stands ∙ latest_is s.before s.event s.after s.is s.none

  -- one of them is here
  pub stands_any : (before : List SourceEvent) (e : SourceEvent) (after : List SourceEvent) → p e ≡ true → list_any p (before ++ e ∷ after) ≡ true
  stands_any [] e after h = ap (λ z. z || list_any p after) h
  stands_any (x ∷ before) e after h = or_right (p x) (list_any p (before ++ e ∷ after)) (stands_any before e after h)
