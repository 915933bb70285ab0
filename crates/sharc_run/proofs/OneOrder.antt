-- Lists that are sorted by a number, and in which what ties is in the same order, are one.
use Rattle.sharc_run.proofs.Imports.{◌≡◌, ℕ, suc, ◌<◌, ◌≤◌, Bool, true, false, not, ◌&&◌, cond, List, [], ◌∷◌, length, get_or, filter, refl, sym, ap, ◌∙◌, subst, arith, le_antisymm, nat_lt, ◌==◌, is_lt, Less, Equal, Greater, nat_tests, IsNonDecreasingBy-from_sort, ties, IsSortedByKey, IsStableByKey, le_false as le_of}
use Rattle.std.proofs.Common.{nat_cmp}

-- ---- ties
is_first : (a b : Bool) → is_lt (cond a Less (cond b Equal Greater)) ≡ a
is_first true b = refl
is_first false true = refl
is_first false false = refl

lt_is : (m n : ℕ) → is_lt (nat_cmp m n) ≡ nat_lt m n
lt_is m n = is_first (nat_lt m n) (m == n)

neither_of : (a b : Bool) → (not a && not b) ≡ true → (a ≡ false) × (b ≡ false)
neither_of true b e = cc
neither_of false true e = cc
neither_of false false e = (refl, refl)

not_lt : (n : ℕ) → nat_lt n n ≡ false
not_lt n = grind (arith, nat_tests)

abbrev first_of : {X : Type 0} → X → List X → X
first_of x [] = x
first_of x (y ∷ ys) = y

abbrev rest_of : {X : Type 0} → List X → List X
rest_of [] = []
rest_of (y ∷ ys) = ys

module _ {X : Type 0} (key : X → ℕ) where
  abbrev tied : X → X → Bool
  tied x y = ties (λ a b. is_lt (nat_cmp (key a) (key b))) x y

  -- what ties has one number
  same_key : (x y : X) → tied x y ≡ true → key x ≡ key y
  same_key x y e =
      let both = neither_of (is_lt (nat_cmp (key x) (key y))) (is_lt (nat_cmp (key y) (key x))) e in
      le_antisymm (le_of (key y) (key x) (sym (lt_is (key y) (key x)) ∙ both.1)) (le_of (key x) (key y) (sym (lt_is (key x) (key y)) ∙ both.0))

  ties_itself : (x : X) → tied x x ≡ true
  ties_itself x = ap (λ b. not b && not b) (lt_is (key x) (key x) ∙ not_lt (key x))

  is_tied : (x y : X) → key x ≡ key y → tied x y ≡ true
  is_tied x y e = ap (λ n. not (is_lt (nat_cmp (key x) n)) && not (is_lt (nat_cmp n (key x)))) (sym e) ∙ ties_itself x

  -- ---- sorted lists, by their first elements
  abbrev NoneBelow : ℕ → List X → Type 0
  NoneBelow n [] = Unit {0}
  NoneBelow n (x ∷ xs) = (n ≤ key x) × NoneBelow n xs

  abbrev Rises : List X → Type 0
  Rises [] = Unit {0}
  Rises (x ∷ xs) = NoneBelow (key x) xs × Rises xs

  none_below : (n : ℕ) (xs : List X) → ((k : ℕ) (d : X) → k < length xs → n ≤ key (get_or xs k d)) → NoneBelow n xs
  none_below n [] h = tt
  none_below n (x ∷ xs) h = (h 0 x (omega arith), none_below n xs (λ k d low. h (suc k) d (omega (arith, low))))

  rises : (xs : List X) → ((i j : ℕ) (d : X) → i ≤ j → j < length xs → key (get_or xs i d) ≤ key (get_or xs j d)) → Rises xs
  rises [] h = tt
  rises (x ∷ xs) h = (
    none_below (key x) xs (λ k d low. h 0 (suc k) d (omega arith) (omega (arith, low))),
    rises xs (λ i j d le low. h (suc i) (suc j) d (omega (arith, le)) (omega (arith, low))),
  )

  -- ---- one list
  -- an element that ties with one of these is no lower than all of them
  high_step : (b : Bool) (n : ℕ) (y z : X) (kept r : List X) → tied y z ≡ b → n ≤ key z → (kept ≡ y ∷ r → n ≤ key y) → cond b (z ∷ kept) kept ≡ y ∷ r → n ≤ key y
  high_step true n y z kept r is low rest e = subst (λ k. n ≤ k) (sym (same_key y z is)) low
  high_step false n y z kept r is low rest e = rest e

  kept_high : (n : ℕ) (y : X) (xs r : List X) → NoneBelow n xs → filter (tied y) xs ≡ y ∷ r → n ≤ key y
  kept_high n y [] r up e = absurd (let h : 0 ≡ suc (length r) = ap length e in omega (arith, h))
  kept_high n y (z ∷ zs) r up e = high_step (tied y z) n y z (filter (tied y) zs) r refl up.0 (λ h. kept_high n y zs r up.1 h) e

  kept_here : (y x : X) (xs : List X) → key y ≡ key x → filter (tied y) (x ∷ xs) ≡ x ∷ filter (tied y) xs
  kept_here y x xs e = ap (λ b. cond b (x ∷ filter (tied y) xs) (filter (tied y) xs)) (is_tied y x e)

  rest_same : (b c : Bool) (x y : X) (l m : List X) → b ≡ c → cond b (x ∷ l) l ≡ cond c (y ∷ m) m → l ≡ m
  rest_same true true x y l m same e = ap rest_of e
  rest_same false false x y l m same e = e
  rest_same true false x y l m same e = cc
  rest_same false true x y l m same e = cc

  -- from what ties being the same
  abbrev TieAlike : List X → List X → Type 0
  TieAlike xs ys = (z : X) → filter (tied z) xs ≡ filter (tied z) ys

  first_low : (x y : X) (xs ys : List X) → Rises (x ∷ xs) → TieAlike (x ∷ xs) (y ∷ ys) → key x ≤ key y
  first_low x y xs ys up same = kept_high (key x) y (x ∷ xs) (filter (tied y) ys) (le_itself (key x), up.0) (same y ∙ kept_here y y ys refl)
    where
      le_itself : (n : ℕ) → n ≤ n
      le_itself n = omega arith

  first_same : (x y : X) (xs ys : List X) → key x ≡ key y → TieAlike (x ∷ xs) (y ∷ ys) → x ≡ y
  first_same x y xs ys e same = ap (first_of x) (sym (kept_here x x xs refl) ∙ (same x ∙ kept_here x y ys e))

  none_left : (y : X) (ys : List X) → TieAlike [] (y ∷ ys) → ⊥
  none_left y ys same = let h : 0 ≡ suc (length (filter (tied y) ys)) = ap length (same y ∙ kept_here y y ys refl) in omega (arith, h)

  one_list : (xs ys : List X) → Rises xs → Rises ys → TieAlike xs ys → xs ≡ ys
  one_list [] [] up up' same = refl
  one_list [] (y ∷ ys) up up' same = absurd (none_left y ys same)
  one_list (x ∷ xs) [] up up' same = absurd (none_left x xs (λ z. sym (same z)))
  one_list (x ∷ xs) (y ∷ ys) up up' same =
      let e : key x ≡ key y = le_antisymm (first_low x y xs ys up same) (first_low y x ys xs up' (λ z. sym (same z))) in
      let head : x ≡ y = first_same x y xs ys e same in
      let tail : xs ≡ ys = one_list xs ys up.1 up'.1 (λ z. rest_same (tied z x) (tied z y) x y (filter (tied z) xs) (filter (tied z) ys) (ap (λ w. tied z w) head) (same z)) in
      ap (λ w. w ∷ xs) head ∙ ap (λ l. y ∷ l) tail

  -- a list has one stable sort
  pub one_order : (from xs ys : List X) → IsSortedByKey key nat_cmp xs → IsStableByKey key nat_cmp from xs → IsSortedByKey key nat_cmp ys → IsStableByKey key nat_cmp from ys → xs ≡ ys
  one_order from xs ys up ties_x up' ties_y =
      one_list xs ys (rises xs (IsNonDecreasingBy-from_sort key xs up)) (rises ys (IsNonDecreasingBy-from_sort key ys up')) (λ z. ties_x z ∙ sym (ties_y z))
