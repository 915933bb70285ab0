-- The modes of a row, one by one.
use Rattle.sharc_mode.proofs.Imports.{◌≡◌, ◌⊎◌, inl, inr, ℕ, zero, suc, ◌+◌, ◌-◌, ◌<◌, ◌≤◌, ◌==◌, cond, Bool, true, false, ◌&&◌, List, [], ◌∷◌, ◌++◌, length, take, drop, map, Option, Some, get_or, refl, ap, sym, ◌∙◌, subst, add-one, append_assoc, arith, take_more, get_or-drop, length-drop, map-append, nat_tests, get_or as slice_index_or, Mode, Private, first_of, pointed, Assignment, Targets, deeper, read, modes_of, Sharing, sharing_of, same, same_all, mode_of}

from_first : (f : Mode → Sharing) (modes : List Mode) (first k : ℕ) → first < length modes
    → map f (take (suc k) (drop first modes)) ≡ first_of (map f (take (suc k) (drop first modes))) ∷ map f (take k (drop (suc first) modes))
from_first f [] first k h = absurd (omega arith)
from_first f (x ∷ xs) zero k h = refl
from_first f (x ∷ xs) (suc n) k h = from_first f xs n k (omega arith)

by_count : (f : Mode → Sharing) (modes : List Mode) (first count : ℕ) → 0 < count → first + count ≤ length modes
    → map f (take count (drop first modes)) ≡ first_of (map f (take count (drop first modes))) ∷ map f (take (count - 1) (drop (first + 1) modes))
by_count f modes first zero h e = absurd (omega arith)
by_count f modes first (suc k) h e =
    let less : k ≡ suc k - 1 = omega arith in
    from_first f modes first k (omega arith)
    ∙ ap (λ n. first_of (map f (take (suc k) (drop first modes))) ∷ map f (take k (drop n modes))) (sym (add-one first))
    ∙ ap (λ n. first_of (map f (take (suc k) (drop first modes))) ∷ map f (take n (drop (first + 1) modes))) less

deeper_some : (row : Targets) → 0 < row.count → deeper row ≡ record { first = row.first + 1; count = row.count - 1; reading = row.reading }
deeper_some row h =
    let e : (row.count == 0) ≡ false = grind (arith, nat_tests) in
    ap (λ b. cond b row (record { first = row.first + 1; count = row.count - 1; reading = row.reading })) e

deeper_none : (row : Targets) → row.count ≡ 0 → deeper row ≡ row
deeper_none row h =
    let e : (row.count == 0) ≡ true = grind (arith, nat_tests) in
    ap (λ b. cond b row (record { first = row.first + 1; count = row.count - 1; reading = row.reading })) e

-- the first target of a row, and the rest
pub first_and_rest : (m : Assignment) (row : Targets) → 0 < row.count → row.first + row.count ≤ length m.modes → modes_of m row ≡ pointed m (Some row) ∷ modes_of m (deeper row)
first_and_rest m row h e =
    by_count (λ mode. read m.typed row.reading (sharing_of mode)) m.modes row.first row.count h e
    ∙ ap (λ r. pointed m (Some row) ∷ modes_of m r) (sym (deeper_some row h))

pub none_of_row : (m : Assignment) (row : Targets) → row.count ≡ 0 → modes_of m row ≡ []
none_of_row m row e = let f : Mode → Sharing = λ mode. read m.typed row.reading (sharing_of mode) in ap (λ n. map f (take n (drop row.first m.modes))) e

none_or_some : (n : ℕ) → (n ≡ 0) ⊎ (0 < n)
none_or_some zero = inl refl
none_or_some (suc n) = inr (omega arith)

pub deeper_ends : (limit : ℕ) (row : Targets) → row.first + row.count ≤ limit → (deeper row).first + (deeper row).count ≤ limit
deeper_ends limit row h =
    elim (none_or_some row.count) [
      | inl none ↦ subst (λ (r : Targets). r.first + r.count ≤ limit) (sym (deeper_none row none)) h
      | inr some ↦ subst (λ (r : Targets). r.first + r.count ≤ limit) (sym (deeper_some row some)) (let e : row.first + 1 + (row.count - 1) ≤ limit = omega arith in e)
    ]

-- the targets after the first
pub rest_of_row : (m : Assignment) (row : Targets) → row.first + row.count ≤ length m.modes → drop 1 (modes_of m row) ≡ modes_of m (deeper row)
rest_of_row m row e =
    elim (none_or_some row.count) [
      | inl none ↦ ap (drop 1) (none_of_row m row none) ∙ sym (none_of_row m row none) ∙ ap (modes_of m) (sym (deeper_none row none))
      | inr some ↦ ap (drop 1) (first_and_rest m row some e)
    ]

one_more : (m : Assignment) (a b : Targets) → 0 < a.count → 0 < b.count → a.first + a.count ≤ length m.modes → b.first + b.count ≤ length m.modes
    → same_all m.typed (modes_of m a) (modes_of m b) ≡ (same m.typed (pointed m (Some a)) (pointed m (Some b)) && same_all m.typed (modes_of m (deeper a)) (modes_of m (deeper b)))
one_more m a b some_a some_b ends_a ends_b =
    ap (λ l. same_all m.typed l (modes_of m b)) (first_and_rest m a some_a ends_a)
    ∙ ap (λ l. same_all m.typed (pointed m (Some a) ∷ modes_of m (deeper a)) l) (first_and_rest m b some_b ends_b)

pub alike : (m : Assignment) (a b next_a next_b : Targets) (whole : Bool) → 0 < a.count → 0 < b.count → a.first + a.count ≤ length m.modes → b.first + b.count ≤ length m.modes
    → same m.typed (pointed m (Some a)) (pointed m (Some b)) ≡ true → next_a ≡ deeper a → next_b ≡ deeper b
    → same_all m.typed (modes_of m a) (modes_of m b) ≡ whole → same_all m.typed (modes_of m next_a) (modes_of m next_b) ≡ whole
alike m a b next_a next_b whole some_a some_b ends_a ends_b same_first a_is b_is were =
    ap (λ x. same_all m.typed (modes_of m x) (modes_of m next_b)) a_is
    ∙ ap (λ y. same_all m.typed (modes_of m (deeper a)) (modes_of m y)) b_is
    ∙ ap (λ t. t && same_all m.typed (modes_of m (deeper a)) (modes_of m (deeper b))) (sym same_first)
    ∙ sym (one_more m a b some_a some_b ends_a ends_b) ∙ were

pub second_ends : (m : Assignment) (a b : Targets) → 0 < a.count → a.first + a.count ≤ length m.modes → b.count ≡ 0 → same_all m.typed (modes_of m a) (modes_of m b) ≡ false
second_ends m a b some ends none = ap (λ l. same_all m.typed l (modes_of m b)) (first_and_rest m a some ends) ∙ ap (λ l. same_all m.typed (pointed m (Some a) ∷ modes_of m (deeper a)) l) (none_of_row m b none)

-- one mode more is shown
pub one_shown : (m : Assignment) (row next : Targets) (known more whole : List (Option Mode)) (s : Sharing) (mode : Mode) → 0 < row.count → row.first + row.count ≤ length m.modes
    → next ≡ deeper row → s ≡ pointed m (Some row) → mode ≡ mode_of m.typed s → more ≡ known ++ Some mode ∷ []
    → known ++ map (λ x. Some (mode_of m.typed x)) (modes_of m row) ≡ whole → more ++ map (λ x. Some (mode_of m.typed x)) (modes_of m next) ≡ whole
one_shown m row next known more whole s mode some ends next_is s_is mode_is more_is were =
    let f : Sharing → Option Mode = λ x. Some (mode_of m.typed x) in
    ap (λ l. l ++ map f (modes_of m next)) more_is
    ∙ append_assoc known (Some mode ∷ []) (map f (modes_of m next))
    ∙ ap (λ x. known ++ (Some x ∷ map f (modes_of m next))) (mode_is ∙ ap (mode_of m.typed) s_is)
    ∙ ap (λ x. known ++ (f (pointed m (Some row)) ∷ map f (modes_of m x))) next_is
    ∙ ap (λ l. known ++ map f l) (sym (first_and_rest m row some ends))
    ∙ were

-- and one that is written at a position
pub one_position : (modes : List Mode) (first i : ℕ) (tops before after : List (Option Mode)) (mode : Mode) → first + i < length modes → mode ≡ slice_index_or modes (first + i) Private
    → before ≡ tops ++ map (λ x. Some x) (take i (drop first modes)) → after ≡ before ++ Some mode ∷ []
    → after ≡ tops ++ map (λ x. Some x) (take (i + 1) (drop first modes))
one_position modes first i tops before after mode below mode_is before_is after_is =
    let known = take i (drop first modes) in
    let rest = length-drop first modes in
    let last : get_or (drop first modes) i Private ≡ mode = get_or-drop first modes i Private ∙ sym mode_is in
    after_is ∙ ap (λ l. l ++ Some mode ∷ []) before_is
    ∙ append_assoc tops (map (λ x. Some x) known) (Some mode ∷ [])
    ∙ ap (λ x. tops ++ (map (λ y. Some y) known ++ Some x ∷ [])) (sym last)
    ∙ ap (λ l. tops ++ l) (sym (map-append (λ x. Some x) known (get_or (drop first modes) i Private ∷ [])))
    ∙ ap (λ l. tops ++ map (λ x. Some x) l) (sym (take_more (drop first modes) i Private (omega arith)))
