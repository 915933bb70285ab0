-- Variables by halves.
use Rattle.sharc_dataflow.proofs.{Imports.{◌≡◌, ℕ, ◌<◌, ◌+◌, List, [], ◌∷◌, ◌++◌, ◌⊎◌, inl, inr, None, Contains, length, take, min, max, slice_index_or, refl, ap, sym, subst, ◌∙◌, append_assoc, add-one, arith, take-suc, Contains-append_left, Contains-append_right, Contains-append_cases, Step, FlowWarning, Code, listing, warns, all_warns, IsBetween, AreBetween, Same, IsSame}, Found.one_is}

-- ---- from the least to the greatest

pub between_next : (list : List ℕ) (i y first last : ℕ) → i < length list → y ≡ slice_index_or list i y → AreBetween first last (take i list) → AreBetween (min first y) (max last y) (take (i + 1) list)
between_next list i y first last h is before x has = found (Contains-append_cases (take i list) (y ∷ []) x (subst (λ l. Contains l x) (next ∙ ap (λ z. take i list ++ z ∷ []) (sym is)) has))
  where
    next : take (i + 1) list ≡ take i list ++ slice_index_or list i y ∷ []
    next = rw (add-one) (take-suc list i y h)

    found : Contains (take i list) x ⊎ Contains (y ∷ []) x → IsBetween (min first y) (max last y) x
    found (inl c) = let b = before x c in let from = b.from in let to = b.to in record { from = omega (arith, from); to = omega (arith, to) }
    found (inr c) = let e = one_is y x c in record { from = omega (arith, e); to = omega (arith, e) }

-- ---- the warnings of some variables

pub warns_same : (first last : ℕ) (c d : Code) → Same first last d c → (list : List ℕ) → AreBetween first last list → all_warns d list ≡ all_warns c list
warns_same first last c d s [] b = refl
warns_same first last c d s (x ∷ rest) b =
    ap (λ z. z ++ all_warns d rest) (s.warned x (b x (Contains-append_left (x ∷ []) rest x (itself x))) None) ∙ ap (λ z. warns x c None ++ z) (warns_same first last c d s rest (λ y h. b y (Contains-append_right (x ∷ []) rest y h)))
  where
    itself : (y : ℕ) → Contains (y ∷ []) y
    itself y = (0, omega arith, refl)

both_warn : (c : Code) (l m : List ℕ) → all_warns c (l ++ m) ≡ all_warns c l ++ all_warns c m
both_warn c [] m = refl
both_warn c (x ∷ l) m = ap (λ z. warns x c None ++ z) (both_warn c l m) ∙ sym (append_assoc (warns x c None) (all_warns c l) (all_warns c m))

-- the warnings about some variables, by the steps that matter to them
pub about_these : (first last : ℕ) (c : Code) (steps : List Step) (list : List ℕ) (before after : List FlowWarning) → AreBetween first last list → IsSame first last steps c
    → ((d : Code) → steps ≡ listing d → after ≡ before ++ all_warns d list) → after ≡ before ++ all_warns c list
about_these first last c steps list before after b s told = told s.code s.lists ∙ ap (λ z. before ++ z) (warns_same first last c s.code s.same list b)

pub about_both : (c : Code) (list these others : List ℕ) (before found after : List FlowWarning) → list ≡ these ++ others → found ≡ before ++ all_warns c these → after ≡ found ++ all_warns c others → after ≡ before ++ all_warns c list
about_both c list these others before found after parts first second =
    second ∙ ap (λ z. z ++ all_warns c others) first ∙ append_assoc before (all_warns c these) (all_warns c others) ∙ ap (λ z. before ++ z) (sym (both_warn c these others) ∙ sym (ap (all_warns c) parts))
