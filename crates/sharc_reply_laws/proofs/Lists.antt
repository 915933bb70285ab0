-- Lists that rise by a key, and lists of which each part has one number.
use Rattle.sharc_reply_laws.proofs.Imports.{◌≡◌, ◌≢◌, ℕ, zero, suc, ◌+◌, ◌<◌, ◌≤◌, ◌⊎◌, ⊎_elim, Bool, true, false, cond, List, [], ◌∷◌, ◌++◌, map, filter, refl, sym, ap, ◌∙◌, arith, cases_eq, cases_order, append-nil, filter-append, ◌==◌, flat_map, range_with_len, same_is, other_is, flat_same}

-- ---- flat_map
flat_none : {X A : Type 0} (none : List A) → none ≡ [] → (xs : List X) → flat_map (λ (x : X). none) xs ≡ []
flat_none none e [] = refl
flat_none none e (x ∷ xs) = ap (λ l. l ++ flat_map (λ (x : _). none) xs) e ∙ flat_none none e xs

filter_flat : {X A : Type 0} (p : A → Bool) (f : X → List A) (xs : List X) → filter p (flat_map f xs) ≡ flat_map (λ x. filter p (f x)) xs
filter_flat p f [] = refl
filter_flat p f (x ∷ xs) = filter-append p (f x) (flat_map f xs) ∙ ap (λ l. filter p (f x) ++ l) (filter_flat p f xs)

pub map_flat : {X A B : Type 0} (h : A → B) (f : X → List A) (append : (xs ys : List A) → map h (xs ++ ys) ≡ map h xs ++ map h ys) (xs : List X) → map h (flat_map f xs) ≡ flat_map (λ x. map h (f x)) xs
map_flat h f append [] = refl
map_flat h f append (x ∷ xs) = append (f x) (flat_map f xs) ∙ ap (λ l. map h (f x) ++ l) (map_flat h f append xs)

pub filter_map_by : {A B : Type 0} (h : A → B) (p : B → Bool) (xs : List A) → filter p (map h xs) ≡ map h (filter (λ a. p (h a)) xs)
filter_map_by h p [] = refl
filter_map_by h p (x ∷ xs) = by (p (h x)) (filter_map_by h p xs)
  where
    by : (b : Bool) → filter p (map h xs) ≡ map h (filter (λ a. p (h a)) xs)
        → cond b (h x ∷ filter p (map h xs)) (filter p (map h xs)) ≡ map h (cond b (x ∷ filter (λ a. p (h a)) xs) (filter (λ a. p (h a)) xs))
    by true rest = ap (λ l. h x ∷ l) rest
    by false rest = rest

-- ---- numbers in a range
missed : {A : Type 0} (f : ℕ → Bool) (t : ℕ) (v : List A) (a n : ℕ) → t < a → flat_map (λ u. cond (t == u) v []) (filter f (range_with_len a n)) ≡ []
missed f t v a zero low = refl
missed f t v a (suc n) low = by (f a) (missed f t v (a + 1) n (omega arith))
  where
    by : (b : Bool) → flat_map (λ u. cond (t == u) v []) (filter f (range_with_len (a + 1) n)) ≡ []
        → flat_map (λ u. cond (t == u) v []) (cond b (a ∷ filter f (range_with_len (a + 1) n)) (filter f (range_with_len (a + 1) n))) ≡ []
    by true rest = ap (λ b. cond b v [] ++ flat_map (λ u. cond (t == u) v []) (filter f (range_with_len (a + 1) n))) (other_is t a (λ e. omega (arith, e, low))) ∙ rest
    by false rest = rest

-- a number of the range that passes is there once
pub once : {A : Type 0} (f : ℕ → Bool) (t : ℕ) (v : List A) → f t ≡ true → (a n : ℕ) → a ≤ t → t < a + n → flat_map (λ u. cond (t == u) v []) (filter f (range_with_len a n)) ≡ v
once f t v passes a zero low high = absurd (omega arith)
once f t v passes a (suc n) low high = ⊎_elim
    (λ (e : t ≡ a).
    ap (λ b. flat_map (λ u. cond (t == u) v []) (cond b (a ∷ filter f (range_with_len (a + 1) n)) (filter f (range_with_len (a + 1) n)))) (ap f (sym e) ∙ passes)
    ∙ ap (λ b. cond b v [] ++ flat_map (λ u. cond (t == u) v []) (filter f (range_with_len (a + 1) n))) (ap (λ u. t == u) (sym e) ∙ same_is t)
    ∙ ap (λ l. v ++ l) (missed f t v (a + 1) n (omega (arith, e))) ∙ append-nil v)
    (λ (ne : t ≡ a → ⊥). by ne (f a) ∙ once f t v passes (a + 1) n (omega (arith, ne)) (omega arith))
    (cases_eq t a)
  where
    by : (t ≡ a → ⊥) → (b : Bool) → flat_map (λ u. cond (t == u) v []) (cond b (a ∷ filter f (range_with_len (a + 1) n)) (filter f (range_with_len (a + 1) n)))
        ≡ flat_map (λ u. cond (t == u) v []) (filter f (range_with_len (a + 1) n))
    by ne true = ap (λ b. cond b v [] ++ flat_map (λ u. cond (t == u) v []) (filter f (range_with_len (a + 1) n))) (other_is t a ne)
    by ne false = refl

-- ---- lists that rise
module _ {X : Type 0} (key : X → ℕ) where
  -- the keys begin at n or above, and do not fall
  abbrev pub Rises : ℕ → List X → Type 0
  Rises n [] = Unit {0}
  Rises n (x ∷ xs) = (n ≤ key x) × Rises (key x) xs

  -- and each is above the one before
  abbrev pub Climbs : ℕ → List X → Type 0
  Climbs n [] = Unit {0}
  Climbs n (x ∷ xs) = (n ≤ key x) × Climbs (key x + 1) xs

  pub lower : (n m : ℕ) (xs : List X) → m ≤ n → Climbs n xs → Rises m xs
  lower n m [] low h = tt
  lower n m (x ∷ xs) low h = (let a = h.0 in omega arith, lower (key x + 1) (key x) xs (omega arith) h.1)

  abbrev pub at_key : ℕ → X → Bool
  at_key k x = key x == k

  here : (k : ℕ) (x : X) (xs : List X) → key x ≡ k → filter (at_key k) (x ∷ xs) ≡ x ∷ filter (at_key k) xs
  here k x xs e = ap (λ b. cond b (x ∷ filter (at_key k) xs) (filter (at_key k) xs)) (ap (λ n. n == k) e ∙ same_is k)

  there : (k : ℕ) (x : X) (xs : List X) → key x ≢ k → filter (at_key k) (x ∷ xs) ≡ filter (at_key k) xs
  there k x xs ne = ap (λ b. cond b (x ∷ filter (at_key k) xs) (filter (at_key k) xs)) (other_is (key x) k ne)

  none_below : (n k : ℕ) (xs : List X) → Rises n xs → k < n → filter (at_key k) xs ≡ []
  none_below n k [] h low = refl
  none_below n k (x ∷ xs) h low =
      let a : n ≤ key x = h.0 in
      there k x xs (λ (e : key x ≡ k). omega (arith, e, a, low)) ∙ none_below (key x) k xs h.1 (omega arith)

  some : (x : X) (xs : List X) → x ∷ xs ≡ [] → ⊥
  some x xs e = cc

  head_eq : (x y : X) (xs ys : List X) → x ∷ xs ≡ y ∷ ys → x ≡ y
  head_eq x y xs ys e = cc

  tail_eq : (x y : X) (xs ys : List X) → x ∷ xs ≡ y ∷ ys → xs ≡ ys
  tail_eq x y xs ys e = cc

  less_first : (x y : X) (xs ys : List X) → Rises (key y) ys → filter (at_key (key x)) (x ∷ xs) ≡ filter (at_key (key x)) (y ∷ ys) → key x < key y → ⊥
  less_first x y xs ys h e low =
      some x (filter (at_key (key x)) xs)
      (sym (here (key x) x xs refl) ∙ (e ∙ (there (key x) y ys (λ (q : key y ≡ key x). omega (arith, q, low)) ∙ none_below (key y) (key x) ys h low)))

  -- two that have the same elements at each key are one
  pub same_by_keys : (xs ys : List X) (n m : ℕ) → Rises n xs → Rises m ys → ((k : ℕ) → filter (at_key k) xs ≡ filter (at_key k) ys) → xs ≡ ys
  same_by_keys [] [] n m a b h = refl
  same_by_keys [] (y ∷ ys) n m a b h = absurd (some y (filter (at_key (key y)) ys) (sym (here (key y) y ys refl) ∙ sym (h (key y))))
  same_by_keys (x ∷ xs) [] n m a b h = absurd (some x (filter (at_key (key x)) xs) (sym (here (key x) x xs refl) ∙ h (key x)))
  same_by_keys (x ∷ xs) (y ∷ ys) n m a b h = ⊎_elim
      (λ (e : key x ≡ key y).
      let both : x ∷ filter (at_key (key x)) xs ≡ y ∷ filter (at_key (key x)) ys = sym (here (key x) x xs refl) ∙ (h (key x) ∙ here (key x) y ys (sym e)) in
      let tails : (k : ℕ) → filter (at_key k) xs ≡ filter (at_key k) ys = λ k. ⊎_elim
      (λ (q : key x ≡ k). tail_eq x y (filter (at_key k) xs) (filter (at_key k) ys) (sym (here k x xs q) ∙ (h k ∙ here k y ys (sym e ∙ q))))
      (λ (ne : key x ≡ k → ⊥). sym (there k x xs ne) ∙ (h k ∙ there k y ys (λ (q : key y ≡ k). ne (e ∙ q))))
      (cases_eq (key x) k)
      in
      ap (λ z. z ∷ xs) (head_eq x y (filter (at_key (key x)) xs) (filter (at_key (key x)) ys) both) ∙ ap (λ l. y ∷ l) (same_by_keys xs ys (key x) (key y) a.1 b.1 tails))
      (λ (ne : (key x < key y) ⊎ (key y < key x)). absurd (⊎_elim
      (λ (low : key x < key y). less_first x y xs ys b.1 (h (key x)) low)
      (λ (high : key y < key x). less_first y x ys xs a.1 (sym (h (key y))) high)
      ne))
      (cases_order (key x) (key y))

  -- ---- parts
  module _ (thread : X → ℕ) where
    abbrev pub part : ℕ → List X → List X
    part t = filter (λ x. thread x == t)

    -- the numbers are there once for each of these
    abbrev pub AreOnceIn : List ℕ → List X → Type 0
    AreOnceIn us [] = Unit {0}
    AreOnceIn us (x ∷ xs) = (flat_map (λ u. cond (thread x == u) (x ∷ []) []) us ≡ x ∷ []) × AreOnceIn us xs

    none_in_part : (n k u : ℕ) (xs : List X) → Climbs n xs → k < n → filter (at_key k) (part u xs) ≡ []
    none_in_part n k u [] h low = refl
    none_in_part n k u (x ∷ xs) h low = by (thread x == u) (let a : n ≤ key x = h.0 in none_in_part (key x + 1) k u xs h.1 (omega arith))
      where
        by : (b : Bool) → filter (at_key k) (part u xs) ≡ [] → filter (at_key k) (cond b (x ∷ part u xs) (part u xs)) ≡ []
        by true rest = let a : n ≤ key x = h.0 in there k x (part u xs) (λ (e : key x ≡ k). omega (arith, e, a, low)) ∙ rest
        by false rest = rest

    by_parts : (us : List ℕ) (k n : ℕ) (xs : List X) → Climbs n xs → AreOnceIn us xs → flat_map (λ u. filter (at_key k) (part u xs)) us ≡ filter (at_key k) xs
    by_parts us k n [] h each = flat_none [] refl us
    by_parts us k n (x ∷ xs) h each = ⊎_elim
        (λ (e : key x ≡ k).
        flat_same (λ u. filter (at_key k) (part u (x ∷ xs))) (λ u. cond (thread x == u) (x ∷ []) []) (λ u. first e u (thread x == u)) us
        ∙ (each.0 ∙ sym (here k x xs e ∙ ap (λ l. x ∷ l) (none_below (key x + 1) k xs (lower (key x + 1) (key x + 1) xs (omega arith) h.1) (omega (arith, e))))))
        (λ (ne : key x ≡ k → ⊥).
        flat_same (λ u. filter (at_key k) (part u (x ∷ xs))) (λ u. filter (at_key k) (part u xs)) (λ u. other ne u (thread x == u)) us
        ∙ (by_parts us k (key x + 1) xs h.1 each.1 ∙ sym (there k x xs ne)))
        (cases_eq (key x) k)
      where
        first : key x ≡ k → (u : ℕ) (b : Bool) → filter (at_key k) (cond b (x ∷ part u xs) (part u xs)) ≡ cond b (x ∷ []) []
        first e u true = here k x (part u xs) e ∙ ap (λ l. x ∷ l) (none_in_part (key x + 1) k u xs h.1 (omega (arith, e)))
        first e u false = none_in_part (key x + 1) k u xs h.1 (omega (arith, e))

        other : (key x ≡ k → ⊥) → (u : ℕ) (b : Bool) → filter (at_key k) (cond b (x ∷ part u xs) (part u xs)) ≡ filter (at_key k) (part u xs)
        other ne u true = there k x (part u xs) ne
        other ne u false = refl

    -- at each key the parts have together what the list has
    pub parts : (us : List ℕ) (k n : ℕ) (xs : List X) → Climbs n xs → AreOnceIn us xs → filter (at_key k) (flat_map (λ u. part u xs) us) ≡ filter (at_key k) xs
    parts us k n xs h each = filter_flat (at_key k) (λ u. part u xs) us ∙ by_parts us k n xs h each
