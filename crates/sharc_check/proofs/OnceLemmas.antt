-- Two lists in order, in which those that tie are ordered alike, are one.
use Rattle.sharc_check.proofs.Imports.{◌≡◌, suc, ◌+◌, Bool, true, false, not, ◌&&◌, cond, List, [], ◌∷◌, get_or, refl, ap, sym, ◌∙◌, subst, arith, upto, tied_itself, IsTotalOrder, filter, AllByRecursion, IsSortedBy, ties, is_lt, is_gt, ordering_reverse, Ordering, Less, Equal, Greater}

abbrev head_or : {X : Type 0} → X → List X → X
head_or d [] = d
head_or d (x ∷ xs) = x

abbrev tail_of : {X : Type 0} → List X → List X
tail_of [] = []
tail_of (x ∷ xs) = xs

abbrev some_in : {X : Type 0} → List X → Type 0
some_in [] = ⊥
some_in (x ∷ xs) = Unit {0}

turned : (r : Ordering) → is_gt (ordering_reverse r) ≡ is_lt r
turned Less = refl
turned _ = refl

module _ {X : Type 0} (C : X → X → Ordering) (o : IsTotalOrder C) where
  abbrev less : X → X → Bool
  less x y = is_lt (C x y)

  abbrev Upto : X → X → Type 0
  Upto x y = is_gt (C x y) ≡ false

  gt_is : (x y : X) → is_gt (C x y) ≡ less y x
  gt_is x y = ap is_gt (o.antisymm x y) ∙ turned (C y x)

  itself : (x : X) → Upto x x
  itself x = ap is_gt (tied_itself o x)

  abbrev Rising : X → List X → Type 0
  Rising x [] = Unit {0}
  Rising x (y ∷ ys) = Upto x y × Rising y ys

  abbrev Ordered : List X → Type 0
  Ordered [] = Unit {0}
  Ordered (x ∷ xs) = Rising x xs

  ordered_rest : (x : X) (xs : List X) → Rising x xs → Ordered xs
  ordered_rest x [] r = tt
  ordered_rest x (y ∷ ys) r = r.1

  sorted_rest : (x : X) (xs : List X) → IsSortedBy less (x ∷ xs) → IsSortedBy less xs
  sorted_rest x xs sorted = λ k d low high.
      let e : suc k + 1 ≡ suc (k + 1) = omega arith in
      subst (λ n. less (get_or (x ∷ xs) n d) (get_or xs k d) ≡ false) e (sorted (suc k) d (omega arith) (omega (arith, high)))

  rising : (x : X) (xs : List X) → IsSortedBy less (x ∷ xs) → Rising x xs
  rising x [] sorted = tt
  rising x (y ∷ ys) sorted = (gt_is x y ∙ sorted 0 x (omega arith) (omega arith), rising y ys (sorted_rest x (y ∷ ys) sorted))

  ordered : (xs : List X) → IsSortedBy less xs → Ordered xs
  ordered [] sorted = tt
  ordered (x ∷ xs) sorted = rising x xs sorted

  all_upto : (x y : X) (zs : List X) → Upto x y → AllByRecursion (Upto y) zs → AllByRecursion (Upto x) zs
  all_upto x y [] h all = tt
  all_upto x y (z ∷ zs) h all = (upto o x y z h all.0, all_upto x y zs h all.1)

  least : (x : X) (xs : List X) → Rising x xs → AllByRecursion (Upto x) xs
  least x [] r = tt
  least x (y ∷ ys) r = (r.0, all_upto x y ys r.0 (least y ys r.1))

  from_test : (P : X → Type 0) (b : Bool) (x y : X) (kept ys : List X) → P x → (kept ≡ y ∷ ys → P y) → cond b (x ∷ kept) kept ≡ y ∷ ys → P y
  from_test P true x y kept ys px rest is = subst P (ap (head_or x) is) px
  from_test P false x y kept ys px rest is = rest is

  all_kept : (P : X → Type 0) (t : X → Bool) (xs : List X) (y : X) (ys : List X) → AllByRecursion P xs → filter t xs ≡ y ∷ ys → P y
  all_kept P t [] y ys all is = let Q : List X → Type 0 = some_in in absurd (subst Q (sym is) tt)
  all_kept P t (x ∷ xs) y ys all is = from_test P (t x) x y (filter t xs) ys all.0 (all_kept P t xs y ys all.1) is

  abbrev tie : X → X → Bool
  tie = ties less

  tied : (x y : X) → Upto x y → Upto y x → tie x y ≡ true
  tied x y there back = ap (λ b. not b && not (less y x)) (sym (gt_is y x) ∙ back) ∙ ap (λ b. not false && not b) (sym (gt_is x y) ∙ there)

  kept_first : (t : X → Bool) (x : X) (xs : List X) → t x ≡ true → filter t (x ∷ xs) ≡ x ∷ filter t xs
  kept_first t x xs is = ap (λ b. cond b (x ∷ filter t xs) (filter t xs)) is

  abbrev Alike : List X → List X → Type 0
  Alike xs ys = (x : X) → filter (tie x) xs ≡ filter (tie x) ys

  first_least : (a b : X) (more rest : List X) → Rising a more → Alike (a ∷ more) (b ∷ rest) → Upto a b
  first_least a b more rest r alike =
      all_kept (Upto a) (tie b) (a ∷ more) b (filter (tie b) rest) (itself a, least a more r) (alike b ∙ kept_first (tie b) b rest (tied b b (itself b) (itself b)))

  same_first : (a b : X) (more rest : List X) → Rising a more → Rising b rest → Alike (a ∷ more) (b ∷ rest) → a ≡ b
  same_first a b more rest r s alike =
      let there = first_least a b more rest r alike in
      let back = first_least b a rest more s (λ x. sym (alike x)) in
      let front : a ∷ filter (tie a) more ≡ b ∷ filter (tie a) rest =
      sym (kept_first (tie a) a more (tied a a (itself a) (itself a))) ∙ alike a ∙ kept_first (tie a) b rest (tied a b there back) in
      ap (head_or a) front

  strip : (b : Bool) (a : X) (kept others : List X) → cond b (a ∷ kept) kept ≡ cond b (a ∷ others) others → kept ≡ others
  strip true a kept others is = ap tail_of is
  strip false a kept others is = is

  rest_alike : (a b : X) (more rest : List X) → a ≡ b → Alike (a ∷ more) (b ∷ rest) → Alike more rest
  rest_alike a b more rest same alike = λ x.
      strip (tie x a) a (filter (tie x) more) (filter (tie x) rest) (alike x ∙ ap (λ y. cond (tie x y) (y ∷ filter (tie x) rest) (filter (tie x) rest)) (sym same))

  none_alike : (b : X) (rest : List X) → Alike [] (b ∷ rest) → ⊥
  none_alike b rest alike = let Q : List X → Type 0 = some_in in subst Q (sym (alike b ∙ kept_first (tie b) b rest (tied b b (itself b) (itself b)))) tt

  pub once : (xs ys : List X) → Ordered xs → Ordered ys → Alike xs ys → xs ≡ ys
  once [] [] r s alike = refl
  once [] (b ∷ rest) r s alike = absurd (none_alike b rest alike)
  once (a ∷ more) [] r s alike = absurd (none_alike a more (λ x. sym (alike x)))
  once (a ∷ more) (b ∷ rest) r s alike =
      let same = same_first a b more rest r s alike in
      ap (λ x. x ∷ more) same ∙ ap (λ l. b ∷ l) (once more rest (ordered_rest a more r) (ordered_rest b rest s) (rest_alike a b more rest same alike))

  pub one_order : (found xs ys : List X) → IsSortedBy less xs → IsSortedBy less ys → ((x : X) → filter (tie x) xs ≡ filter (tie x) found) → ((x : X) → filter (tie x) ys ≡ filter (tie x) found) → xs ≡ ys
  one_order found xs ys sorted others stable steady = once xs ys (ordered xs sorted) (ordered ys others) (λ x. stable x ∙ sym (steady x))
