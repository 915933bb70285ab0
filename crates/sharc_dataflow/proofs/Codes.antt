-- Exactness of the smallest pieces, and of all code.
use Rattle.sharc_dataflow.proofs.{Imports.{◌≡◌, ℕ, zero, suc, List, [], ◌∷◌, ◌⊎◌, inl, inr, ◌<◌, Option, Some, None, Bool, true, false, Contains, refl, ap, subst, eqb-true, eq-eqb, nat_eq, arith, length, slice_index_or, Way, FlowWarning, Act, Reads, Nulls, Writes, From, Start, To, Next, Broken, Continued, Ends, Goes, goes, before, Does, done, ended, before as not_yet, Spares, Clear, NullingStands, Shows, Hits, Reaches, Code, goes_to, acts, first_then, one_of, catches, repeats, paths, way, goes_of, free, only, nulled, written, way_of_act, ways, Warns, quiet, warn_read, warned_of, warn_act, warns}, Algebra.{Yes, AtMost, Joins}, Exact.{Exact, exact_then, ClearPath, StandingPath, ShownPath, Warned, warning}, Pieces.{exact_either, exact_caught, exact_loop}}

has_none : (w : FlowWarning) → Contains [] w → ⊥
has_none w h = omega (arith, h.1)

one_at : (w v : FlowWarning) (k : ℕ) → k < length (w ∷ []) → slice_index_or (w ∷ []) k v ≡ v → w ≡ v
one_at w v zero h e = e
one_at w v (suc k) h e = absurd (omega (arith, h))

has_one : (w v : FlowWarning) → Contains (w ∷ []) v → w ≡ v
has_one w v h = one_at w v h.0 h.1 h.2

is_one : (w : FlowWarning) → Contains (w ∷ []) w
is_one w = (0, omega arith, refl)

none_stands : (t u : To) (k : ℕ) → (way (goes_of t) u).least ≡ Some k → ⊥
none_stands Next Next k e = cc
none_stands Next Broken k e = cc
none_stands Next Continued k e = cc
none_stands Broken Next k e = cc
none_stands Broken Broken k e = cc
none_stands Broken Continued k e = cc
none_stands Continued Next k e = cc
none_stands Continued Broken k e = cc
none_stands Continued Continued k e = cc
none_stands Ends Next k e = cc
none_stands Ends Broken k e = cc
none_stands Ends Continued k e = cc
none_stands t Ends k e = cc

-- code that only goes on
module _ (x : ℕ) (t : To) where
  goes_clear_path : (t u : To) → Yes (way (goes_of t) u).clear → ClearPath x (Goes t) u
  goes_clear_path Next Next y = record { acts = []; is_path = goes; clear = tt }
  goes_clear_path Broken Broken y = record { acts = []; is_path = goes; clear = tt }
  goes_clear_path Continued Continued y = record { acts = []; is_path = goes; clear = tt }
  goes_clear_path Ends Next y = absurd y
  goes_clear_path _ _ y = absurd y

  joined : (u : To) → Joins u → Yes (way (goes_of u) u).clear
  joined Ends j = absurd j
  joined _ j = tt

  goes_is_clear : (u : To) (l : List Act) → Joins u → Goes t Start u l → Clear x l → Yes (way (goes_of t) u).clear
  goes_is_clear u l j goes c = joined t j
  goes_is_clear u l j before c = absurd j

  goes_is_standing : (f : From) (u : To) (l : List Act) (k : ℕ) → Joins u → Goes t f u l → NullingStands x k l → AtMost (way (goes_of t) u).least k
  goes_is_standing f u l k j goes s = absurd s
  goes_is_standing f u l k j before s = absurd s

  goes_is_hit : (f : From) (u : To) (l : List Act) (v : Option ℕ) (k r : ℕ) → Goes t f u l → Hits x k r l → Warned (quiet v) k r
  goes_is_hit f u l v k r goes h = absurd h
  goes_is_hit f u l v k r before h = absurd h

  goes_is_shown : (u : To) (l : List Act) (v : Option ℕ) (k r : ℕ) → Goes t Start u l → Shows x r l → AtMost v k → Warned (quiet v) k r
  goes_is_shown u l v k r goes h most = absurd h
  goes_is_shown u l v k r before h most = absurd h

  pub exact_goes : Exact x (Goes t) (goes_of t) quiet
  exact_goes = record {
    clear_path = goes_clear_path t;
    is_clear = goes_is_clear;
    standing_path = λ u k e. absurd (none_stands t u k e);
    is_standing = goes_is_standing;
    warned_path = λ v k r c. absurd (has_none (warning r k) c);
    is_hit = goes_is_hit;
    is_shown = goes_is_shown;
  }

-- what an action does to x
pub record Suits (x : ℕ) (a : Act) (w : Way) (ww : Warns) : Type 0 where
  pub spares : Yes w.clear → Spares x a
  pub is_clear : Spares x a → Yes w.clear
  pub nulls : (k : ℕ) → w.least ≡ Some k → a ≡ Nulls x k
  pub is_null : (k : ℕ) → a ≡ Nulls x k → AtMost w.least k
  pub warns : (v : Option ℕ) (k r : ℕ) → Contains (ww v) (warning r k) → (v ≡ Some k) × (a ≡ Reads x r)
  pub is_read : (v : Option ℕ) (k r : ℕ) → a ≡ Reads x r → AtMost v k → Warned (ww v) k r

-- one action
module _ (x : ℕ) (a : Act) (w : Way) (ww : Warns) (su : Suits x a w ww) where
  does_clear_path : (u : To) → Yes (way (only w) u).clear → ClearPath x (Does a) u
  does_clear_path Next y = record { acts = a ∷ []; is_path = done; clear = (su.spares y, tt) }
  does_clear_path _ y = absurd y

  does_is_clear : (u : To) (l : List Act) → Joins u → Does a Start u l → Clear x l → Yes (way (only w) u).clear
  does_is_clear u l j done c = su.is_clear c.0
  does_is_clear u l j _ c = absurd j

  does_standing_path : (u : To) (k : ℕ) → (way (only w) u).least ≡ Some k → StandingPath x (Does a) u k
  does_standing_path Next k e = record { acts = a ∷ []; is_path = done; stands = inl (su.nulls k e, tt) }
  does_standing_path _ k e = absurd (cc)

  does_is_standing : (f : From) (u : To) (l : List Act) (k : ℕ) → Joins u → Does a f u l → NullingStands x k l → AtMost (way (only w) u).least k
  does_is_standing f u l k j done (inl s) = su.is_null k s.0
  does_is_standing f u l k j done (inr s) = absurd s
  does_is_standing f u l k j _ s = absurd j

  does_warned_path : (v : Option ℕ) (k r : ℕ) → Contains (ww v) (warning r k) → Reaches (Does a) x k r ⊎ ((v ≡ Some k) × ShownPath x (Does a) r)
  does_warned_path v k r c = let h = su.warns v k r c in inr (h.0, record { acts = a ∷ []; is_path = ended; shows = inl h.1 })

  no_hit : (k r : ℕ) → Hits x k r (a ∷ []) → ⊥
  no_hit k r (inl h) = h.1
  no_hit k r (inr h) = h

  does_is_hit : (f : From) (u : To) (l : List Act) (v : Option ℕ) (k r : ℕ) → Does a f u l → Hits x k r l → Warned (ww v) k r
  does_is_hit f u l v k r not_yet h = absurd h
  does_is_hit f u l v k r _ h = absurd (no_hit k r h)

  one_shown : (v : Option ℕ) (k r : ℕ) → Shows x r (a ∷ []) → AtMost v k → Warned (ww v) k r
  one_shown v k r (inl h) most = su.is_read v k r h most
  one_shown v k r (inr h) most = absurd h.1

  does_is_shown : (u : To) (l : List Act) (v : Option ℕ) (k r : ℕ) → Does a Start u l → Shows x r l → AtMost v k → Warned (ww v) k r
  does_is_shown u l v k r not_yet h most = absurd h
  does_is_shown u l v k r _ h most = one_shown v k r h most

  pub exact_does : Exact x (Does a) (only w) ww
  exact_does = record {
    clear_path = does_clear_path;
    is_clear = does_is_clear;
    standing_path = does_standing_path;
    is_standing = does_is_standing;
    warned_path = does_warned_path;
    is_hit = does_is_hit;
    is_shown = does_is_shown;
  }

-- the three actions
suits_write : (x y : ℕ) (b : Bool) → nat_eq y x ≡ b → Suits x (Writes y) (written b) quiet
suits_write x y true e = record {
  spares = λ h. absurd h;
  is_clear = λ h. absurd (h (eqb-true y x e));
  nulls = λ k h. absurd (cc);
  is_null = λ k h. absurd (cc);
  warns = λ v k r c. absurd (has_none (warning r k) c);
  is_read = λ v k r h. absurd (cc);
}
suits_write x y false e = record {
  spares = λ h q. let f : nat_eq y x ≡ true = eq-eqb y x q in absurd (cc);
  is_clear = λ h. tt;
  nulls = λ k h. absurd (cc);
  is_null = λ k h. absurd (cc);
  warns = λ v k r c. absurd (has_none (warning r k) c);
  is_read = λ v k r h. absurd (cc);
}

suits_null : (x y t : ℕ) (b : Bool) → nat_eq y x ≡ b → Suits x (Nulls y t) (nulled b t) quiet
suits_null x y t true e = record {
  spares = λ h. tt;
  is_clear = λ h. tt;
  nulls = λ k h. let q : y ≡ x = eqb-true y x e in let s : t ≡ k = cc in cc;
  is_null = λ k h. let s : t ≡ k = cc in omega arith;
  warns = λ v k r c. absurd (has_none (warning r k) c);
  is_read = λ v k r h. absurd (cc);
}
suits_null x y t false e = record {
  spares = λ h. tt;
  is_clear = λ h. tt;
  nulls = λ k h. absurd (cc);
  is_null = λ k h. let q : y ≡ x = cc in let f : nat_eq y x ≡ true = eq-eqb y x q in absurd (cc);
  warns = λ v k r c. absurd (has_none (warning r k) c);
  is_read = λ v k r h. absurd (cc);
}

read_warns : (t : ℕ) (v : Option ℕ) (k r : ℕ) → Contains (warned_of v t) (warning r k) → (v ≡ Some k) × (t ≡ r)
read_warns t None k r c = absurd (has_none (warning r k) c)
read_warns t (Some m) k r c = let e = has_one (warning t m) (warning r k) c in (ap (λ w. Some w.since) e, ap (λ w. w.read) e)

is_warned : (t : ℕ) (v : Option ℕ) (k r : ℕ) → t ≡ r → AtMost v k → Warned (warned_of v t) k r
is_warned t None k r e most = absurd most
is_warned t (Some m) k r e most = record { since = m; first = most; has = subst (λ q. Contains (warning t m ∷ []) (warning q m)) e (is_one (warning t m)) }

suits_read : (x y t : ℕ) (b : Bool) → nat_eq y x ≡ b → Suits x (Reads y t) free (warn_read b t)
suits_read x y t true e = record {
  spares = λ h. tt;
  is_clear = λ h. tt;
  nulls = λ k h. absurd (cc);
  is_null = λ k h. absurd (cc);
  warns = λ v k r c. let h = read_warns t v k r c in let q : y ≡ x = eqb-true y x e in (h.0, let s = h.1 in cc);
  is_read = λ v k r h most. let s : t ≡ r = cc in is_warned t v k r s most;
}
suits_read x y t false e = record {
  spares = λ h. tt;
  is_clear = λ h. tt;
  nulls = λ k h. absurd (cc);
  is_null = λ k h. absurd (cc);
  warns = λ v k r c. absurd (has_none (warning r k) c);
  is_read = λ v k r h most. let q : y ≡ x = cc in let f : nat_eq y x ≡ true = eq-eqb y x q in absurd (cc);
}

-- an action
suits : (x : ℕ) (a : Act) → Suits x a (way_of_act x a) (warn_act x a)
suits x (Reads y t) = suits_read x y t (nat_eq y x) refl
suits x (Nulls y t) = suits_null x y t (nat_eq y x) refl
suits x (Writes y) = suits_write x y (nat_eq y x) refl

-- all code
pub exact_code : (x : ℕ) (c : Code) → Exact x (paths c) (ways x c) (warns x c)
exact_code x (goes_to t) = exact_goes x t
exact_code x (acts a) = exact_does x a (way_of_act x a) (warn_act x a) (suits x a)
exact_code x (first_then a b) = exact_then x _ _ _ _ _ _ (exact_code x a) (exact_code x b)
exact_code x (one_of a b) = exact_either x _ _ _ _ _ _ (exact_code x a) (exact_code x b)
exact_code x (catches a) = exact_caught x _ _ _ (exact_code x a)
exact_code x (repeats a) = exact_loop x _ _ _ (exact_code x a)
