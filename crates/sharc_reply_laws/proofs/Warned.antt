-- A program has one list of warnings.
use Rattle.sharc_reply_laws.proofs.Imports.{◌≡◌, ◌⊎◌, inl, inr, ℕ, zero, suc, ◌<◌, List, [], ◌∷◌, length, get_or, refl, ap, sym, ◌∙◌, subst, arith, Contains, Resolution, Warning, warning_at, InOrder, AreWarnings}

-- ---- lists in order

rest_ordered : (a : Warning) (l : List Warning) → InOrder (a ∷ l) → InOrder l
rest_ordered a [] order = tt
rest_ordered a (b ∷ l) order = order.1

first_below : (a : Warning) (l : List Warning) → InOrder (a ∷ l) → (k : ℕ) (w : Warning) → k < length l → get_or l k w ≡ w → a.read.token < w.read.token
first_below a [] order k w low is = absurd (omega (arith, low))
first_below a (b ∷ l) order zero w low is = subst (λ (x : Warning). a.read.token < x.read.token) is order.0
first_below a (b ∷ l) order (suc k) w low is =
    let more = first_below b l order.1 k w (omega (arith, low)) is in
    let here = order.0 in
    omega (arith, more, here)

below : (a : Warning) (l : List Warning) → InOrder (a ∷ l) → (w : Warning) → Contains l w → a.read.token < w.read.token
below a l order w has = first_below a l order has.0 w has.1 has.2

at_head : (a : Warning) (l : List Warning) → Contains (a ∷ l) a
at_head a l = (0, omega arith, refl)

behind : (a : Warning) (l : List Warning) (w : Warning) → Contains l w → Contains (a ∷ l) w
behind a l w has = let low = has.1 in (suc has.0, omega (arith, low), has.2)

split : (a : Warning) (l : List Warning) (w : Warning) (k : ℕ) → k < length (a ∷ l) → get_or (a ∷ l) k w ≡ w → (a ≡ w) ⊎ Contains l w
split a l w zero low is = inl is
split a l w (suc k) low is = inr (k, omega (arith, low), is)

cases : (a : Warning) (l : List Warning) (w : Warning) → Contains (a ∷ l) w → (a ≡ w) ⊎ Contains l w
cases a l w has = split a l w has.0 has.1 has.2

none_in : (w : Warning) → Contains [] w → ⊥
none_in w has = let low = has.1 in omega (arith, low)

-- a read is in such a list once
pub one_read : (l : List Warning) → InOrder l → (x y : Warning) → Contains l x → Contains l y → x.read.token ≡ y.read.token → x ≡ y
one_read [] order x y left right same = absurd (none_in x left)
one_read (a ∷ l) order x y left right same =
    elim (cases a l x left) [
      | inl first ↦ elim (cases a l y right) [
        | inl second ↦ sym first ∙ second
        | inr later ↦
            let far = below a l order y later in
            let at = ap (λ (w : Warning). w.read.token) first in
            absurd (omega (arith, far, at, same))
      ]
      | inr later ↦ elim (cases a l y right) [
        | inl second ↦
            let far = below a l order x later in
            let at = ap (λ (w : Warning). w.read.token) second in
            absurd (omega (arith, far, at, same))
        | inr other ↦ one_read l (rest_ordered a l order) x y later other same
      ]
    ]

-- lists in order with the same elements have the same first one
same_first : (a b : Warning) (l k : List Warning) → InOrder (a ∷ l) → InOrder (b ∷ k) → Contains (b ∷ k) a → Contains (a ∷ l) b → a ≡ b
same_first a b l k left right there back =
    elim (cases b k a there) [
      | inl is ↦ sym is
      | inr later ↦ elim (cases a l b back) [
        | inl is ↦ is
        | inr other ↦
            let up = below b k right a later in
            let down = below a l left b other in
            absurd (omega (arith, up, down))
      ]
    ]

-- and the same others
same_rest : (a b : Warning) (l k : List Warning) → a ≡ b → InOrder (a ∷ l) → (w : Warning) → Contains l w → Contains (b ∷ k) w → Contains k w
same_rest a b l k is order w has there =
    elim (cases b k w there) [
      | inl first ↦
          let far = below a l order w has in
          let at = ap (λ (x : Warning). x.read.token) (is ∙ first) in
          absurd (omega (arith, far, at))
      | inr later ↦ later
    ]

pub same_lists : (l k : List Warning) → InOrder l → InOrder k → ((w : Warning) → Contains l w → Contains k w) → ((w : Warning) → Contains k w → Contains l w) → l ≡ k
same_lists [] [] left right there back = refl
same_lists [] (b ∷ k) left right there back = absurd (none_in b (back b (at_head b k)))
same_lists (a ∷ l) [] left right there back = absurd (none_in a (there a (at_head a l)))
same_lists (a ∷ l) (b ∷ k) left right there back =
    let is = same_first a b l k left right (there a (at_head a l)) (back b (at_head b k)) in
    let rest =
    same_lists l k (rest_ordered a l left) (rest_ordered b k right)
    (λ w has. same_rest a b l k is left w has (there w (behind a l w has)))
    (λ w has. same_rest b a k l (sym is) right w has (back w (behind b k w has))) in
    ap (λ (x : Warning). x ∷ l) is ∙ ap (λ (x : List Warning). b ∷ x) rest

-- ---- the warnings of a program

-- a read that one list warns of has the same warning in the other
found : (r : Resolution) (l k : List Warning) → AreWarnings r l → AreWarnings r k → (w : Warning) → Contains l w → Contains k w
found r l k a b w has =
    let one = a.only w has in
    let other = b.all w.nulled.token w.read.token one.is_use in
    let two = b.only other.warning other.has in
    let back = a.all other.warning.nulled.token other.warning.read.token two.is_use in
    let same = one_read l a.ordered back.warning w back.has has (back.reads ∙ other.reads) in
    let low = other.first in
    let high = back.first in
    let at = ap (λ (x : Warning). x.nulled.token) same in
    let since : w.nulled.token ≡ other.warning.nulled.token = omega (arith, low, high, at) in
    let step = ap (λ (n : ℕ). warning_at r (record { read = n; since = w.nulled.token })) (sym other.reads) in
    let next = ap (λ (n : ℕ). warning_at r (record { read = other.warning.read.token; since = n })) since in
    let is : w ≡ other.warning = one.is ∙ step ∙ next ∙ sym two.is in
    subst (Contains k) (sym is) other.has

pub one_list : (r : Resolution) (l k : List Warning) → AreWarnings r l → AreWarnings r k → l ≡ k
one_list r l k a b = same_lists l k a.ordered b.ordered (found r l k a b) (found r k l b a)
