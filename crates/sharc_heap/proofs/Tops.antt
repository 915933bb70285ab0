-- Lists of tops: where the first two equal neighbours are.
use Rattle.sharc_heap.proofs.Imports.{◌≡◌, ℕ, List, [], ◌∷◌, ◌++◌, sym, ap, ◌∙◌, append_assoc, NoneTwice, AreTops, HasMoved}

-- a list that goes on has no end
nil_is_not_longer : (xs : List ℕ) (x : ℕ) → [] ≡ xs ++ x ∷ [] → ⊥
nil_is_not_longer [] x e = cc
nil_is_not_longer (y ∷ ys) x e = cc

none_tail : (x : ℕ) (rest : List ℕ) (last : ℕ) → NoneTwice (x ∷ rest) last → NoneTwice rest last
none_tail x [] last none = tt
none_tail x (y ∷ rest) last none = none.1

-- the last element is one
pub same_last : (xs ys : List ℕ) (x y : ℕ) → xs ++ x ∷ [] ≡ ys ++ y ∷ [] → x ≡ y
same_last [] [] x y e = cc
same_last [] (b ∷ ys) x y e = let t : [] ≡ ys ++ y ∷ [] = cc in absurd (nil_is_not_longer ys y t)
same_last (a ∷ xs) [] x y e = let t : [] ≡ xs ++ x ∷ [] = cc in absurd (nil_is_not_longer xs x t)
same_last (a ∷ xs) (b ∷ ys) x y e = same_last xs ys x y cc

-- no two neighbours are equal, and two are
pub not_twice : (xs : List ℕ) (h : ℕ) (since : List ℕ) (ys : List ℕ) (y : ℕ) → NoneTwice ys y → xs ++ h ∷ h ∷ since ≡ ys ++ y ∷ [] → ⊥
not_twice [] h since [] y none e = let t : h ∷ since ≡ [] = cc in cc
not_twice [] h since (a ∷ []) y none e = none cc
not_twice [] h since (a ∷ b ∷ ys) y none e = none.0 cc
not_twice (x ∷ xs) h since [] y none e = let t : xs ++ h ∷ h ∷ since ≡ [] = cc in longer xs h (h ∷ since) t
  where
    longer : (xs : List ℕ) (h : ℕ) (rest : List ℕ) → xs ++ h ∷ rest ≡ [] → ⊥
    longer [] h rest e = cc
    longer (x ∷ xs) h rest e = cc
not_twice (x ∷ xs) h since (a ∷ ys) y none e = not_twice xs h since ys y (none_tail a ys y none) cc

-- the first two equal neighbours are at one place
pub record IsSamePlace (h k : ℕ) (since after : List ℕ) : Type 0 where
  pub value : h ≡ k
  pub rest : since ≡ after

pub same_place : (xs : List ℕ) (h : ℕ) (since : List ℕ) (ys : List ℕ) (k : ℕ) (after : List ℕ) → NoneTwice xs h → NoneTwice ys k → xs ++ h ∷ h ∷ since ≡ ys ++ k ∷ k ∷ after → IsSamePlace h k since after
same_place [] h since [] k after no1 no2 e = record { value = cc; rest = cc }
same_place [] h since (b ∷ []) k after no1 no2 e = absurd (no2 cc)
same_place [] h since (b ∷ c ∷ ys) k after no1 no2 e = absurd (no2.0 cc)
same_place (a ∷ []) h since [] k after no1 no2 e = absurd (no1 cc)
same_place (a ∷ b ∷ xs) h since [] k after no1 no2 e = absurd (no1.0 cc)
same_place (a ∷ xs) h since (b ∷ ys) k after no1 no2 e = same_place xs h since ys k after (none_tail a xs h no1) (none_tail b ys k no2) cc

-- what was moved is no list of tops alone
pub moved_is_not_trying : (results : List ℕ) (top h : ℕ) (since : List ℕ) → AreTops results top → HasMoved results h since → ⊥
moved_is_not_trying results top h since tops moved =
    not_twice moved.tops.earlier h since tops.earlier top tops.moving
    (sym (append_assoc moved.tops.earlier (h ∷ []) (h ∷ since)) ∙ ap (λ r. r ++ h ∷ since) (sym moved.tops.tops) ∙ sym moved.found ∙ tops.tops)

pub moved_once : (results : List ℕ) (h k : ℕ) (since after : List ℕ) → HasMoved results h since → HasMoved results k after → IsSamePlace h k since after
moved_once results h k since after one two =
    same_place one.tops.earlier h since two.tops.earlier k after one.tops.moving two.tops.moving
    (sym (append_assoc one.tops.earlier (h ∷ []) (h ∷ since)) ∙ ap (λ r. r ++ h ∷ since) (sym one.tops.tops) ∙ sym one.found
    ∙ two.found ∙ ap (λ r. r ++ k ∷ after) two.tops.tops ∙ append_assoc two.tops.earlier (k ∷ []) (k ∷ after))

pub tops_once : (results : List ℕ) (x y : ℕ) → AreTops results x → AreTops results y → x ≡ y
tops_once results x y one two = same_last one.earlier two.earlier x y (sym one.tops ∙ two.tops)

pub tops_are_some : (top : ℕ) → AreTops [] top → ⊥
tops_are_some top tops = nil_is_not_longer tops.earlier top tops.tops

pub moved_is_some : (h : ℕ) (since : List ℕ) → HasMoved [] h since → ⊥
moved_is_some h since moved = longer moved.tried h since moved.found
  where
    longer : (xs : List ℕ) (h : ℕ) (rest : List ℕ) → [] ≡ xs ++ h ∷ rest → ⊥
    longer [] h rest e = cc
    longer (x ∷ xs) h rest e = cc
