-- The lists that guarding fills.
use Rattle.sharc_guard.proofs.{Imports.{◌≡◌, ◌≤◌, ◌<◌, ℕ, zero, suc, ◌+◌, ◌-◌, ◌*◌, Bool, true, false, List, [], ◌∷◌, ◌++◌, length, drop, refl, sym, ap, ◌∙◌, arith, Some, slice_get, get_or, nat_lt, if◌then◌else◌, length-append, get_or_append_left, get_or-append_seam, ltb-true, ltb-false, Instr, LineTexts, Op, width, offset, place, expanded, head, own, body, tail, among, places, marked, site_by, sites_of, take, None}, Placing.offset_next, Holding.funext}

abbrev pub Summed : List Bool → List Op → ℕ → ℕ → List ℕ → Type 0
Summed marks lines n at starts = (starts ≡ places (marked marks) lines n) × (at ≡ place (marked marks) lines n) × (at ≤ 2 + 4 * n)

-- what is put so far, and what is still to put, is all
abbrev pub Put : List ℕ → List Bool → List Op → ℕ → List Instr → Type 0
Put starts marks lines n statements = statements ++ expanded (among starts) (marked marks) n (drop n lines) ≡ Instr.Start 0 ∷ Instr.Exit ∷ expanded (among starts) (marked marks) 0 lines

pub place_more : (d : ℕ → Bool) (lines : List Op) (n : ℕ) (o : Op) → slice_get lines n ≡ Some o → place d lines n + width (d n) n o ≡ place d lines (n + 1)
place_more d lines n o e =
    let h = offset_next d 0 lines n o e in
    let z : 0 + n ≡ n = omega arith in
    let q = ap (λ j. width (d j) j o) z in
    omega arith

pub places_more : (d : ℕ → Bool) (lines : List Op) (n : ℕ) → places d lines n ++ place d lines n ∷ [] ≡ places d lines (n + 1)
places_more d lines n = ap (places d lines) one
  where
    one : suc n ≡ n + 1
    one = omega arith

-- sites so far, and one more
pub site_more : (lines : List Op) (told : List LineTexts) (n : ℕ) (o : Op) → slice_get lines n ≡ Some o → sites_of (take n lines) told ++ site_by (slice_get told n) o ∷ [] ≡ sites_of (take (n + 1) lines) told
site_more lines told n o e = next lines told n e ∙ ap (λ k. sites_of (take k lines) told) one
  where
    one : suc n ≡ n + 1
    one = omega arith

    next : (lines : List Op) (told : List LineTexts) (n : ℕ) → slice_get lines n ≡ Some o → sites_of (take n lines) told ++ site_by (slice_get told n) o ∷ [] ≡ sites_of (take (suc n) lines) told
    next [] told n e = absurd (cc)
    next (x ∷ os) [] zero e = let s : o ≡ x = cc in ap (λ o. site_by None o ∷ []) s
    next (x ∷ os) (t ∷ ts) zero e = let s : o ≡ x = cc in ap (λ o. site_by (Some t) o ∷ []) s
    next (x ∷ os) [] (suc n) e = ap (λ l. site_by None x ∷ l) (next os [] n e)
    next (x ∷ os) (t ∷ ts) (suc n) e = ap (λ l. site_by (Some t) x ∷ l) (next os ts n e)

-- how many statements the parts of a line are
pub width_parts : (dropped : Bool) (n : ℕ) (o : Op) → width dropped n o ≡ length (head dropped n o) + length (own (body (λ k. 0) 0 o)) + length (tail o)
width_parts dropped n o =
    length-append (head dropped n o ++ own (body (λ k. 0) n o)) (tail o) ∙ ap (λ k. k + length (tail o)) (length-append (head dropped n o) (own (body (λ k. 0) n o)) ∙ ap (λ k. length (head dropped n o) + k) (same o))
  where
    same : (o : Op) → length (own (body (λ k. 0) n o)) ≡ length (own (body (λ k. 0) 0 o))
    same Op.Enter = refl
    same _ = refl

pub place_none : (d : ℕ → Bool) (lines : List Op) → 2 ≡ place d lines 0
place_none d [] = refl
place_none d (o ∷ os) = refl

-- ---- where the lines go, from the list
length_places : (d : ℕ → Bool) (lines : List Op) (n : ℕ) → length (places d lines n) ≡ n
length_places d lines zero = refl
length_places d lines (suc n) = let h = length_places d lines n in let a = length-append (places d lines n) (place d lines n ∷ []) in let o : length (place d lines n ∷ []) ≡ 1 = refl in omega arith

place_in : (d : ℕ → Bool) (lines : List Op) (n k : ℕ) → k < n → get_or (places d lines n) k 0 ≡ place d lines k
place_in d lines zero k lt = absurd (omega arith)
place_in d lines (suc n) k lt = each (λ below. place_in d lines n k below) (nat_lt k n) refl
  where
    each : (k < n → get_or (places d lines n) k 0 ≡ place d lines k) → (b : Bool) → nat_lt k n ≡ b → get_or (places d lines n ++ place d lines n ∷ []) k 0 ≡ place d lines k
    each before true e = let below = ltb-true k n e in get_or_append_left (places d lines n) (place d lines n ∷ []) 0 k (let l = length_places d lines n in omega arith) ∙ before below
    each before false e =
        let over = ltb-false k n e in
        let k_is : n ≡ k = omega arith in
        let l_is : length (places d lines n) ≡ k = length_places d lines n ∙ k_is in
        ap (λ j. get_or (places d lines n ++ place d lines n ∷ []) j 0) (sym l_is) ∙ get_or-append_seam (places d lines n) (place d lines n) [] 0 ∙ ap (place d lines) k_is

-- after the last line no place is further on
offset_stays : (d : ℕ → Bool) (j : ℕ) (lines : List Op) (k : ℕ) → length lines ≤ k → offset d j lines k ≡ offset d j lines (length lines)
offset_stays d j [] k le = refl
offset_stays d j (o ∷ os) zero le = absurd (omega arith)
offset_stays d j (o ∷ os) (suc k) le = ap (λ n. width (d j) j o + n) (offset_stays d (j + 1) os k (omega arith))

pub among_is : (d : ℕ → Bool) (lines : List Op) → among (places d lines (length lines + 1)) ≡ place d lines
among_is d lines = funext (among (places d lines (length lines + 1))) (place d lines) each
  where
    all : List ℕ
    all = places d lines (length lines + 1)

    each : (k : ℕ) → among all k ≡ place d lines k
    each k = by (nat_lt k (length all)) refl
      where
        by : (b : Bool) → nat_lt k (length all) ≡ b → (if b then get_or all k 0 else get_or all (length all - 1) 0) ≡ place d lines k
        by true e = place_in d lines (length lines + 1) k (let l = length_places d lines (length lines + 1) in let below = ltb-true k (length all) e in omega arith)
        by false e =
            let l = length_places d lines (length lines + 1) in
            let over = ltb-false k (length all) e in
            let last : length all - 1 ≡ length lines = omega arith in
            ap (λ n. get_or all n 0) last ∙ place_in d lines (length lines + 1) (length lines) (omega arith) ∙ ap (λ n. 2 + n) (sym (offset_stays d 0 lines k (omega arith)))
