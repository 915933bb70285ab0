-- A position determines its entity: the positions of each come after those of the ones before it.
use Rattle.sharc_infer_laws.proofs.Imports.{◌≡◌, ℕ, ◌+◌, ◌<◌, ◌≤◌, Bool, true, false, cond, List, [], ◌∷◌, Option, Some, None, refl, ap, sym, ◌∙◌, arith, find, Entity, Numbered, numbered_from, positions_of}

-- what is found is the first element, or is found after it
some_here : (here x : Numbered) → Some here ≡ Some x → here ≡ x
some_here here x is = cc

no_more : (x : Numbered) → None ≡ Some x → ⊥
no_more x is = cc

-- what is found passes the test
passes_by : (test : Numbered → Bool) (here x : Numbered) (b : Bool) (found : Option Numbered) → b ≡ test here → cond b (Some here) found ≡ Some x → (found ≡ Some x → test x ≡ true) → test x ≡ true
passes_by test here x true found says is more = ap test (sym (some_here here x is)) ∙ sym says
passes_by test here x false found says is more = more is

pub passes : (test : Numbered → Bool) (list : List Numbered) (x : Numbered) → find test list ≡ Some x → test x ≡ true
passes test [] x is = absurd (no_more x is)
passes test (here ∷ rest) x is = passes_by test here x (test here) (find test rest) refl is (passes test rest x)

-- and begins at the number from which they are counted, or later
later_by : (k : ℕ) (here x : Numbered) (b : Bool) (found : Option Numbered) → here.first ≡ k → cond b (Some here) found ≡ Some x → (found ≡ Some x → k ≤ x.first) → k ≤ x.first
later_by k here x true found at is more = let same = ap (λ (n : Numbered). n.first) (some_here here x is) in omega (arith, at, same)
later_by k here x false found at is more = more is

later : (test : Numbered → Bool) (k : ℕ) (list : List Entity) (x : Numbered) → find test (numbered_from k list) ≡ Some x → k ≤ x.first
later test k [] x is = absurd (no_more x is)
later test k (e ∷ rest) x is =
    let here : Numbered = record { entity = e; first = k } in
    later_by k here x (test here) (find test (numbered_from (k + positions_of e) rest)) refl is (λ found. let low = later test (k + positions_of e) rest x found in omega (arith, low))

one_by : (k : ℕ) (here x y : Numbered) (b c : Bool) (left right : Option Numbered) → here.first ≡ k → cond b (Some here) left ≡ Some x → cond c (Some here) right ≡ Some y
    → 0 < positions_of x.entity → 0 < positions_of y.entity → x.first ≡ y.first
    → (left ≡ Some x → k + positions_of here.entity ≤ x.first) → (right ≡ Some y → k + positions_of here.entity ≤ y.first) → (left ≡ Some x → right ≡ Some y → x ≡ y) → x ≡ y
one_by k here x y true true left right at is also some more same low high rest = sym (some_here here x is) ∙ some_here here y also
one_by k here x y true false left right at is also some more same low high rest =
    let far = high also in
    let begins = ap (λ (n : Numbered). n.first) (some_here here x is) in
    let size = ap (λ (n : Numbered). positions_of n.entity) (some_here here x is) in
    absurd (omega (arith, far, begins, size, at, some, same))
one_by k here x y false true left right at is also some more same low high rest =
    let far = low is in
    let begins = ap (λ (n : Numbered). n.first) (some_here here y also) in
    let size = ap (λ (n : Numbered). positions_of n.entity) (some_here here y also) in
    absurd (omega (arith, far, begins, size, at, more, same))
one_by k here x y false false left right at is also some more same low high rest = rest is also

-- what begins at one position, and has some, is one
pub one_at : (p q : Numbered → Bool) (k : ℕ) (list : List Entity) (x y : Numbered) → find p (numbered_from k list) ≡ Some x → find q (numbered_from k list) ≡ Some y
    → 0 < positions_of x.entity → 0 < positions_of y.entity → x.first ≡ y.first → x ≡ y
one_at p q k [] x y is also some more same = absurd (no_more x is)
one_at p q k (e ∷ rest) x y is also some more same =
    let here : Numbered = record { entity = e; first = k } in
    let next = k + positions_of e in
    one_by k here x y (p here) (q here) (find p (numbered_from next rest)) (find q (numbered_from next rest)) refl is also some more same
    (later p next rest x) (later q next rest y) (λ left right. one_at p q next rest x y left right some more same)
