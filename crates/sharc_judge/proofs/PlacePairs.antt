-- Pairs of places of a list.
use Rattle.std.proofs.{Common.{◌≡◌, ◌⊎◌, inl, inr, Bool, true, false, List, [], ◌∷◌, ◌++◌, refl, ap, sym, ◌∙◌}, lemmas.Bool.{cases_Bool, or_parts, or_from, both_ways}, lemmas.List.Folds.list_any-append}
use Rattle.std.specs.List.{list_any}
use Rattle.sharc_tree.specs.declared.event.SourceEvent.{SourceEvent}
use Rattle.sharc_meaning.specs.Events.{Stands}
use Rattle.sharc_judge.specs.Deciding.{any_pair}

pub at_each_pair : (q : SourceEvent → List SourceEvent → Bool) (l : List SourceEvent) → any_pair q l ≡ false
    → (b : List SourceEvent) (d : SourceEvent) (a : List SourceEvent) → Stands l b d a → q d a ≡ false
at_each_pair q (e ∷ l) h [] d a is =
    let same : e ≡ d = cc in
    let tails : l ≡ a = cc in
    ap (λ z. q z a) (sym same) ∙ ap (q e) (sym tails) ∙ (or_parts (q e l) (any_pair q l) h).0
at_each_pair q (e ∷ l) h (c ∷ b) d a is = let tails : l ≡ b ++ d ∷ a = cc in at_each_pair q l (or_parts (q e l) (any_pair q l) h).1 b d a tails
at_each_pair q [] h [] d a is = absurd (cc)
at_each_pair q [] h (c ∷ b) d a is = absurd (cc)

pub from_each_pair : (q : SourceEvent → List SourceEvent → Bool) (l : List SourceEvent)
    → ((b : List SourceEvent) (d : SourceEvent) (a : List SourceEvent) → Stands l b d a → q d a ≡ false) → any_pair q l ≡ false
from_each_pair q [] h = refl
from_each_pair q (e ∷ l) h = or_from (q e l) (any_pair q l) (h [] e l refl) (from_each_pair q l (λ b d a is. h (e ∷ b) d a (ap (λ z. e ∷ z) is)))

pub pair_found : (q : SourceEvent → List SourceEvent → Bool) (l b : List SourceEvent) (d : SourceEvent) (a : List SourceEvent) → Stands l b d a → q d a ≡ true → any_pair q l ≡ true
pair_found q l b d a is h = elim (cases_Bool (any_pair q l)) [ inl i ↦ i | inr i ↦ absurd (both_ways (q d a) (at_each_pair q l i b d a is) h) ]

-- ---- two places of one list

-- the first is before the second
pub record Behind (b1 : List SourceEvent) (d : SourceEvent) (a1 b2 : List SourceEvent) (e : SourceEvent) (a2 : List SourceEvent) : Type 0 where
  pub between : List SourceEvent
  pub before : b2 ≡ b1 ++ d ∷ between
  pub after : a1 ≡ between ++ e ∷ a2

pub record Same (b1 : List SourceEvent) (d : SourceEvent) (a1 b2 : List SourceEvent) (e : SourceEvent) (a2 : List SourceEvent) : Type 0 where
  pub before : b1 ≡ b2
  pub event : d ≡ e
  pub after : a1 ≡ a2

abbrev pub Order : List SourceEvent → SourceEvent → List SourceEvent → List SourceEvent → SourceEvent → List SourceEvent → Type 0
Order b1 d a1 b2 e a2 = Same b1 d a1 b2 e a2 ⊎ (Behind b1 d a1 b2 e a2 ⊎ Behind b2 e a2 b1 d a1)

pub in_order : (l b1 : List SourceEvent) (d : SourceEvent) (a1 b2 : List SourceEvent) (e : SourceEvent) (a2 : List SourceEvent) → Stands l b1 d a1 → Stands l b2 e a2 → Order b1 d a1 b2 e a2
in_order (x ∷ l) [] d a1 [] e a2 s t = inl (record { before = refl; event = cc; after = cc })
in_order (x ∷ l) [] d a1 (y ∷ b2) e a2 s t = inr (inl (record { between = b2; before = cc; after = cc }))
in_order (x ∷ l) (y ∷ b1) d a1 [] e a2 s t = inr (inr (record { between = b1; before = cc; after = cc }))
in_order (x ∷ l) (y ∷ b1) d a1 (w ∷ b2) e a2 s t =
    let h : l ≡ b1 ++ d ∷ a1 = cc in
    let i : l ≡ b2 ++ e ∷ a2 = cc in
    longer (cc) (in_order l b1 d a1 b2 e a2 h i)
  where
    longer : w ≡ y → Order b1 d a1 b2 e a2 → Order (y ∷ b1) d a1 (w ∷ b2) e a2
    longer k (inl same) = inl (record { before = ap (λ z. z ∷ b1) (sym k) ∙ ap (λ z. w ∷ z) same.before; event = same.event; after = same.after })
    longer k (inr (inl o)) = inr (inl (record { between = o.between; before = ap (λ z. z ∷ b2) k ∙ ap (λ z. y ∷ z) o.before; after = o.after }))
    longer k (inr (inr o)) = inr (inr (record { between = o.between; before = ap (λ z. z ∷ b1) (sym k) ∙ ap (λ z. w ∷ z) o.before; after = o.after }))
in_order [] [] d a1 b2 e a2 s t = absurd (cc)
in_order [] (x ∷ b1) d a1 b2 e a2 s t = absurd (cc)

-- ---- what no event meets

pub none_between : (test : SourceEvent → Bool) (between : List SourceEvent) (e : SourceEvent) (after l : List SourceEvent) → l ≡ between ++ e ∷ after → list_any test l ≡ false → list_any test between ≡ false
none_between test between e after l is h = (or_parts (list_any test between) (list_any test (e ∷ after)) (sym (list_any-append test between (e ∷ after)) ∙ ap (list_any test) (sym is) ∙ h)).0

pub none_after : (test : SourceEvent → Bool) (between : List SourceEvent) (e : SourceEvent) (after l : List SourceEvent) → l ≡ between ++ e ∷ after → list_any test l ≡ false → list_any test after ≡ false
none_after test between e after l is h = (or_parts (test e) (list_any test after) (or_parts (list_any test between) (list_any test (e ∷ after)) (sym (list_any-append test between (e ∷ after)) ∙ ap (list_any test) (sym is) ∙ h)).1).1

pub none_at : (test : SourceEvent → Bool) (between : List SourceEvent) (e : SourceEvent) (after l : List SourceEvent) → l ≡ between ++ e ∷ after → list_any test l ≡ false → test e ≡ false
none_at test between e after l is h = (or_parts (test e) (list_any test after) (or_parts (list_any test between) (list_any test (e ∷ after)) (sym (list_any-append test between (e ∷ after)) ∙ ap (list_any test) (sym is) ∙ h)).1).0
