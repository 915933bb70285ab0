-- What is in a list with others inserted.
use Rattle.sharc_suggest_laws.proofs.Imports.{◌≡◌, ℕ, ◌+◌, ◌-◌, ◌<◌, ◌≤◌, nat_lt, Bool, true, false, List, ◌++◌, length, take, drop, get_or, refl, ap, sym, ◌∙◌, append_assoc, arith, if◌then◌else◌, ltb-true, ltb-false, length-append, length-take-le, get_or-append_right, get_or_append_left, get_or-append-add, get_or-take, get_or-drop, take_at, drop_at, take-take, take-append-le, drop-drop, drop-take, inserted, renumbered}

-- ---- by number

below : {A : Type 0} (first : ℕ) (new old : List A) (p : ℕ) (d : A) → first ≤ length old → p < first → get_or (inserted first new old) p d ≡ get_or old p d
below first new old p d within low =
    let taken : length (take first old) ≡ first = length-take-le first old within in
    let both : length (take first old ++ new) ≡ length (take first old) + length new = length-append (take first old) new in
    let in_both : p < length (take first old ++ new) = omega (arith, low, taken, both) in
    let in_first : p < length (take first old) = omega (arith, low, taken) in
    get_or_append_left (take first old ++ new) (drop first old) d p in_both ∙ get_or_append_left (take first old) new d p in_first ∙ get_or-take first old p d low

behind : {A : Type 0} (first : ℕ) (new old : List A) (p : ℕ) (d : A) → first ≤ length old → first ≤ p → get_or (inserted first new old) (p + length new) d ≡ get_or old p d
behind first new old p d within from =
    let taken : length (take first old) ≡ first = length-take-le first old within in
    let both : length (take first old ++ new) ≡ first + length new = length-append (take first old) new ∙ ap (λ (n : ℕ). n + length new) taken in
    let rest : first + (p + length new - (first + length new)) ≡ p = omega (arith, from) in
    get_or-append_right (take first old ++ new) (drop first old) (first + length new) (p + length new) d both (omega (arith, from))
    ∙ get_or-drop first old (p + length new - (first + length new)) d ∙ ap (λ (i : ℕ). get_or old i d) rest

pub among : {A : Type 0} (first : ℕ) (new old : List A) (k : ℕ) (d : A) → first ≤ length old → k < length new → get_or (inserted first new old) (first + k) d ≡ get_or new k d
among first new old k d within low =
    let taken : length (take first old) ≡ first = length-take-le first old within in
    let both : length (take first old ++ new) ≡ length (take first old) + length new = length-append (take first old) new in
    let in_both : first + k < length (take first old ++ new) = omega (arith, low, taken, both) in
    get_or_append_left (take first old ++ new) (drop first old) d (first + k) in_both
    ∙ ap (λ (n : ℕ). get_or (take first old ++ new) (n + k) d) (sym taken) ∙ get_or-append-add (take first old) new k d

by_side : {A : Type 0} (first : ℕ) (new old : List A) (p : ℕ) (d : A) → first ≤ length old → (b : Bool) → nat_lt p first ≡ b → get_or (inserted first new old) (if b then p else p + length new) d ≡ get_or old p d
by_side first new old p d within true less = below first new old p d within (ltb-true p first less)
by_side first new old p d within false less = behind first new old p d within (ltb-false p first less)

pub renumbered_kept : {A : Type 0} (first : ℕ) (new old : List A) (p : ℕ) (d : A) → first ≤ length old → get_or (inserted first new old) (renumbered first (length new) p) d ≡ get_or old p d
renumbered_kept first new old p d within = by_side first new old p d within (nat_lt p first) refl

-- ---- by stretch: those before, those after, and those that were inserted

pub stretch_before : {A : Type 0} (first : ℕ) (new old : List A) (p n : ℕ) → first ≤ length old → p + n ≤ first → take n (drop p (inserted first new old)) ≡ take n (drop p old)
stretch_before {A} first new old p n within ends =
    let taken : length (take first old) ≡ first = length-take-le first old within in
    let fits : p + n ≤ length (take first old) = omega (arith, ends, taken) in
    sym (drop-take p n (inserted first new old))
    ∙ ap (λ (l : List A). drop p (take (p + n) l)) (append_assoc (take first old) new (drop first old))
    ∙ ap (drop p) (take-append-le (p + n) (take first old) (new ++ drop first old) fits ∙ take-take (p + n) first old ends)
    ∙ drop-take p n old

pub stretch_behind : {A : Type 0} (first : ℕ) (new old : List A) (p n : ℕ) → first ≤ length old → first ≤ p → take n (drop (p + length new) (inserted first new old)) ≡ take n (drop p old)
stretch_behind first new old p n within from =
    let taken : length (take first old) ≡ first = length-take-le first old within in
    let both : length (take first old ++ new) ≡ first + length new = length-append (take first old) new ∙ ap (λ (k : ℕ). k + length new) taken in
    let far : p + length new ≡ (first + length new) + (p - first) = omega (arith, from) in
    let near : first + (p - first) ≡ p = omega (arith, from) in
    ap (λ (k : ℕ). take n (drop k (inserted first new old))) far
    ∙ ap (take n) (sym (drop-drop (p - first) (first + length new) (inserted first new old))
    ∙ ap (drop (p - first)) (drop_at (take first old ++ new) (drop first old) (first + length new) both)
    ∙ drop-drop (p - first) first old ∙ ap (λ (k : ℕ). drop k old) near)

pub stretch_added : {A : Type 0} (first : ℕ) (new old : List A) → first ≤ length old → take (length new) (drop first (inserted first new old)) ≡ new
stretch_added {A} first new old within =
    ap (λ (l : List A). take (length new) (drop first l)) (append_assoc (take first old) new (drop first old))
    ∙ ap (take (length new)) (drop_at (take first old) (new ++ drop first old) first (length-take-le first old within))
    ∙ take_at new (drop first old) (length new) refl
