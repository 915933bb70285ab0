-- Legal stores grow by one event at a time.
use Rattle.sharc_meaning.proofs.Imports.{◌≡◌, ◌⊎◌, List, [], ◌∷◌, ◌++◌, refl, sym, ap, ◌∙◌, append_assoc, inl, inr, SourceEvent, Stands, StoresGrow, PrefixesAreLegal, MayCome}

-- what is in a list with one more at its end is that one, or is in the list
pub record InFront (R before : List SourceEvent) (e : SourceEvent) : Type 0 where
  pub after : List SourceEvent
  pub stands : Stands R before e after

split_last : (R : List SourceEvent) (x : SourceEvent) (before : List SourceEvent) (e : SourceEvent) (after : List SourceEvent) → R ++ x ∷ [] ≡ before ++ e ∷ after → ((before ≡ R) × (e ≡ x)) ⊎ InFront R before e
split_last [] x [] e after h = inl (refl, cc)
split_last [] x (b ∷ []) e after h = absurd (cc)
split_last [] x (b ∷ (c ∷ before)) e after h = absurd (cc)
split_last (r ∷ R) x [] e after h = let same : r ≡ e = cc in inr (record { after = R; stands = ap (λ z. z ∷ R) same })
split_last (r ∷ R) x (b ∷ before) e after h = let same : r ≡ b = cc in let tails : R ++ x ∷ [] ≡ before ++ e ∷ after = cc in longer same (split_last R x before e after tails)
  where
    longer : {R before : List SourceEvent} {r b e x : SourceEvent} → r ≡ b → ((before ≡ R) × (e ≡ x)) ⊎ InFront R before e → (((b ∷ before) ≡ r ∷ R) × (e ≡ x)) ⊎ InFront (r ∷ R) (b ∷ before) e
    longer {R} {before} {r} {b} {e} same (inl (h, k)) = inl (ap (λ z. z ∷ before) (sym same) ∙ ap (λ l. r ∷ l) h, k)
    longer {R} {before} {r} {b} {e} same (inr f) = inr (record { after = f.after; stands = ap (λ z. z ∷ R) same ∙ ap (λ l. b ∷ l) f.stands })

pub stores_grow : StoresGrow
stores_grow r R x legal may before e after stands = by_place (split_last R x before e after stands)
  where
    by_place : ((before ≡ R) × (e ≡ x)) ⊎ InFront R before e → MayCome r before e e.act
    by_place (inl (h, k)) = rw (h, k) may
    by_place (inr f) = legal before e f.after f.stands

pub prefixes_legal : PrefixesAreLegal
prefixes_legal r R S legal before e after stands = legal before e (after ++ S) (ap (λ l. l ++ S) stands ∙ append_assoc before (e ∷ after) S)
