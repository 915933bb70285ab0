-- The algebra of the ways to an exit.
use Rattle.sharc_dataflow.proofs.Imports.{◌≡◌, ℕ, ◌⊎◌, inl, inr, ◌≤◌, ◌<◌, Option, Some, None, Bool, true, false, min, ◌&&◌, ◌||◌, le_trans, ap, sym, ◌∙◌, arith, min-le_left, min-le_right, min-eq_left, min-eq_right, cases_lt, Way, Ways, To, Next, Broken, Continued, Ends, Leaves, lower, kept, behind, way, then_of, either_of}

abbrev pub Yes : Bool → Type 0
Yes true = Unit {0}
Yes false = ⊥

abbrev pub AtMost : Option ℕ → ℕ → Type 0
AtMost None k = ⊥
AtMost (Some m) k = m ≤ k

-- an exit that leads on
abbrev pub Joins : To → Type 0
Joins Ends = ⊥
Joins _ = Unit {0}

pub both_yes : (a b : Bool) → Yes a → Yes b → Yes (a && b)
both_yes true true h k = tt
both_yes true false h k = k
both_yes false b h k = absurd h

pub yes_both : (a b : Bool) → Yes (a && b) → Yes a × Yes b
yes_both true true h = (tt, tt)
yes_both true false h = absurd h
yes_both false b h = absurd h

pub yes_left : (a b : Bool) → Yes a → Yes (a || b)
yes_left true b h = tt
yes_left false b h = absurd h

pub yes_right : (a b : Bool) → Yes b → Yes (a || b)
yes_right true b h = tt
yes_right false true h = tt
yes_right false false h = h

pub yes_either : (a b : Bool) → Yes (a || b) → Yes a ⊎ Yes b
yes_either true b h = inl tt
yes_either false true h = inr tt
yes_either false false h = absurd h

pub most_left : (o p : Option ℕ) (k : ℕ) → AtMost o k → AtMost (lower o p) k
most_left None p k h = absurd h
most_left (Some a) None k h = h
most_left (Some a) (Some b) k h = le_trans (min-le_left a b) h

pub most_right : (o p : Option ℕ) (k : ℕ) → AtMost p k → AtMost (lower o p) k
most_right None p k h = h
most_right (Some a) None k h = absurd h
most_right (Some a) (Some b) k h = le_trans (min-le_right a b) h

min_cases : (a b : ℕ) → (min a b ≡ a) ⊎ (min a b ≡ b)
min_cases a b = elim (cases_lt a b) [ inl h ↦ inl (min-eq_left (omega arith)) | inr h ↦ inr (min-eq_right h) ]

pub lower_is : (o p : Option ℕ) (k : ℕ) → lower o p ≡ Some k → (o ≡ Some k) ⊎ (p ≡ Some k)
lower_is None p k e = inr e
lower_is (Some a) None k e = inl e
lower_is (Some a) (Some b) k e = elim (min_cases a b) [ inl q ↦ inl (ap Some (sym q) ∙ e) | inr q ↦ inr (ap Some (sym q) ∙ e) ]

pub kept_is : (c : Bool) (v : Option ℕ) (k : ℕ) → kept c v ≡ Some k → Yes c × (v ≡ Some k)
kept_is true v k e = (tt, e)
kept_is false v k e = absurd (cc)

pub most_kept : (c : Bool) (v : Option ℕ) (k : ℕ) → Yes c → AtMost v k → AtMost (kept c v) k
most_kept true v k y h = h
most_kept false v k y h = absurd y

pub most_behind : (w : Way) (v : Option ℕ) (k : ℕ) → Yes w.clear → AtMost v k → AtMost (behind w v) k
most_behind w v k y h = most_right w.least (kept w.clear v) k (most_kept w.clear v k y h)

pub most_of : (w : Way) (v : Option ℕ) (k : ℕ) → AtMost w.least k → AtMost (behind w v) k
most_of w v k h = most_left w.least (kept w.clear v) k h

pub behind_is : (w : Way) (v : Option ℕ) (k : ℕ) → behind w v ≡ Some k → (w.least ≡ Some k) ⊎ (Yes w.clear × (v ≡ Some k))
behind_is w v k e = elim (lower_is w.least (kept w.clear v) k e) [ inl q ↦ inl q | inr q ↦ inr (kept_is w.clear v k q) ]

-- the exits of the one and then the other
pub then_clear : (a b : Ways) (t : To) → Yes (way (then_of a b) t).clear → (Yes a.next.clear × Yes (way b t).clear) ⊎ (Leaves t × Yes (way a t).clear)
then_clear a b Next y = inl (yes_both a.next.clear b.next.clear y)
then_clear a b Broken y = elim (yes_either a.broken.clear (a.next.clear && b.broken.clear) y) [
  | inl h ↦ inr (tt, h)
  | inr h ↦ inl (yes_both a.next.clear b.broken.clear h)
]
then_clear a b Continued y = elim (yes_either a.continued.clear (a.next.clear && b.continued.clear) y) [
  | inl h ↦ inr (tt, h)
  | inr h ↦ inl (yes_both a.next.clear b.continued.clear h)
]
then_clear a b Ends y = absurd y

pub through_clear : (a b : Ways) (t : To) → Yes a.next.clear → Yes (way b t).clear → Yes (way (then_of a b) t).clear
through_clear a b Next h k = both_yes a.next.clear b.next.clear h k
through_clear a b Broken h k = yes_right a.broken.clear _ (both_yes a.next.clear b.broken.clear h k)
through_clear a b Continued h k = yes_right a.continued.clear _ (both_yes a.next.clear b.continued.clear h k)
through_clear a b Ends h k = k

pub leaves_clear : (a b : Ways) (t : To) → Leaves t → Yes (way a t).clear → Yes (way (then_of a b) t).clear
leaves_clear a b Next l h = absurd l
leaves_clear a b Broken l h = yes_left a.broken.clear _ h
leaves_clear a b Continued l h = yes_left a.continued.clear _ h
leaves_clear a b Ends l h = h

-- where what holds after the two comes from
pub data Came (a b : Ways) (t : To) (k : ℕ) : Type 0 where
  second : (way b t).least ≡ Some k → Came a b t k
  passed : Yes (way b t).clear → a.next.least ≡ Some k → Came a b t k
  left : Leaves t → (way a t).least ≡ Some k → Came a b t k

pub then_least : (a b : Ways) (t : To) (k : ℕ) → (way (then_of a b) t).least ≡ Some k → Came a b t k
then_least a b Next k e = elim (behind_is b.next a.next.least k e) [ inl h ↦ second h | inr h ↦ passed h.0 h.1 ]
then_least a b Broken k e = found (lower_is a.broken.least (behind b.broken a.next.least) k e)
  where
    later : (b.broken.least ≡ Some k) ⊎ (Yes b.broken.clear × (a.next.least ≡ Some k)) → Came a b Broken k
    later (inl h) = second h
    later (inr h) = passed h.0 h.1

    found : (a.broken.least ≡ Some k) ⊎ (behind b.broken a.next.least ≡ Some k) → Came a b Broken k
    found (inl h) = left tt h
    found (inr h) = later (behind_is b.broken a.next.least k h)
then_least a b Continued k e = found (lower_is a.continued.least (behind b.continued a.next.least) k e)
  where
    later : (b.continued.least ≡ Some k) ⊎ (Yes b.continued.clear × (a.next.least ≡ Some k)) → Came a b Continued k
    later (inl h) = second h
    later (inr h) = passed h.0 h.1

    found : (a.continued.least ≡ Some k) ⊎ (behind b.continued a.next.least ≡ Some k) → Came a b Continued k
    found (inl h) = left tt h
    found (inr h) = later (behind_is b.continued a.next.least k h)
then_least a b Ends k e = absurd (cc)

pub through_most : (a b : Ways) (t : To) (k : ℕ) → AtMost a.next.least k → Yes (way b t).clear → AtMost (way (then_of a b) t).least k
through_most a b Next k h y = most_behind b.next a.next.least k y h
through_most a b Broken k h y = most_right a.broken.least _ k (most_behind b.broken a.next.least k y h)
through_most a b Continued k h y = most_right a.continued.least _ k (most_behind b.continued a.next.least k y h)
through_most a b Ends k h y = absurd y

pub second_most : (a b : Ways) (t : To) (k : ℕ) → AtMost (way b t).least k → AtMost (way (then_of a b) t).least k
second_most a b Next k h = most_of b.next a.next.least k h
second_most a b Broken k h = most_right a.broken.least _ k (most_of b.broken a.next.least k h)
second_most a b Continued k h = most_right a.continued.least _ k (most_of b.continued a.next.least k h)
second_most a b Ends k h = h

pub left_most : (a b : Ways) (t : To) (k : ℕ) → Leaves t → AtMost (way a t).least k → AtMost (way (then_of a b) t).least k
left_most a b Next k l h = absurd l
left_most a b Broken k l h = most_left a.broken.least _ k h
left_most a b Continued k l h = most_left a.continued.least _ k h
left_most a b Ends k l h = h

-- the exits of the one or the other
pub either_clear : (a b : Ways) (t : To) → Yes (way (either_of a b) t).clear → Yes (way a t).clear ⊎ Yes (way b t).clear
either_clear a b Next y = yes_either a.next.clear _ y
either_clear a b Broken y = yes_either a.broken.clear _ y
either_clear a b Continued y = yes_either a.continued.clear _ y
either_clear a b Ends y = absurd y

pub clear_left : (a b : Ways) (t : To) → Yes (way a t).clear → Yes (way (either_of a b) t).clear
clear_left a b Next y = yes_left a.next.clear _ y
clear_left a b Broken y = yes_left a.broken.clear _ y
clear_left a b Continued y = yes_left a.continued.clear _ y
clear_left a b Ends y = y

pub clear_right : (a b : Ways) (t : To) → Yes (way b t).clear → Yes (way (either_of a b) t).clear
clear_right a b Next y = yes_right a.next.clear _ y
clear_right a b Broken y = yes_right a.broken.clear _ y
clear_right a b Continued y = yes_right a.continued.clear _ y
clear_right a b Ends y = y

pub either_least : (a b : Ways) (t : To) (k : ℕ) → (way (either_of a b) t).least ≡ Some k → ((way a t).least ≡ Some k) ⊎ ((way b t).least ≡ Some k)
either_least a b Next k e = lower_is a.next.least b.next.least k e
either_least a b Broken k e = lower_is a.broken.least b.broken.least k e
either_least a b Continued k e = lower_is a.continued.least b.continued.least k e
either_least a b Ends k e = inl e

pub either_left : (a b : Ways) (t : To) (k : ℕ) → AtMost (way a t).least k → AtMost (way (either_of a b) t).least k
either_left a b Next k h = most_left a.next.least _ k h
either_left a b Broken k h = most_left a.broken.least _ k h
either_left a b Continued k h = most_left a.continued.least _ k h
either_left a b Ends k h = h

pub either_right : (a b : Ways) (t : To) (k : ℕ) → AtMost (way b t).least k → AtMost (way (either_of a b) t).least k
either_right a b Next k h = most_right a.next.least _ k h
either_right a b Broken k h = most_right a.broken.least _ k h
either_right a b Continued k h = most_right a.continued.least _ k h
either_right a b Ends k h = h
