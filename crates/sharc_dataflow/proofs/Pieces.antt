-- Exactness of the other ways to put pieces of code together.
use Rattle.sharc_dataflow.proofs.{Imports.{◌≡◌, ℕ, List, ◌++◌, ◌⊎◌, inl, inr, Option, Some, Contains, Contains-append_cases, Ways, Act, From, Start, To, Next, Broken, Continued, Ends, Piece, Either, Caught, on, as_is, Loop, left, ended, again, Clear, NullingStands, Shows, Hits, Reaches, lower, way, either_of, caught_of, loop_of, Warns, warn_either, warn_loop}, Lists.{clear_last, stands_on, stands_cases, shows_cases, hits_across, hits_cases, Split, first, across, last}, Algebra.{Yes, AtMost, Joins, most_left, most_right, lower_is, most_behind, most_of, behind_is, either_clear, clear_left, clear_right, either_least, either_left, either_right, yes_left, yes_right, yes_either}, Exact.{Exact, ClearPath, StandingPath, ShownPath, Warned, warning, warned_left, warned_right}}

-- the one or the other
module _ (x : ℕ) (A B : Piece) (a b : Ways) (wa wb : Warns) (ea : Exact x A a wa) (eb : Exact x B b wb) where
  or_clear_path : (t : To) → Yes (way (either_of a b) t).clear → ClearPath x (Either A B) t
  or_clear_path t y = elim (either_clear a b t y) [
    | inl h ↦ let p = ea.clear_path t h in record { acts = p.acts; is_path = inl p.is_path; clear = p.clear }
    | inr h ↦ let p = eb.clear_path t h in record { acts = p.acts; is_path = inr p.is_path; clear = p.clear }
  ]

  or_is_clear : (t : To) (l : List Act) → Joins t → Either A B Start t l → Clear x l → Yes (way (either_of a b) t).clear
  or_is_clear t l j (inl p) c = clear_left a b t (ea.is_clear t l j p c)
  or_is_clear t l j (inr p) c = clear_right a b t (eb.is_clear t l j p c)

  or_standing_path : (t : To) (k : ℕ) → (way (either_of a b) t).least ≡ Some k → StandingPath x (Either A B) t k
  or_standing_path t k e = elim (either_least a b t k e) [
    | inl h ↦ let p = ea.standing_path t k h in record { acts = p.acts; is_path = inl p.is_path; stands = p.stands }
    | inr h ↦ let p = eb.standing_path t k h in record { acts = p.acts; is_path = inr p.is_path; stands = p.stands }
  ]

  or_is_standing : (f : From) (t : To) (l : List Act) (k : ℕ) → Joins t → Either A B f t l → NullingStands x k l → AtMost (way (either_of a b) t).least k
  or_is_standing f t l k j (inl p) s = either_left a b t k (ea.is_standing f t l k j p s)
  or_is_standing f t l k j (inr p) s = either_right a b t k (eb.is_standing f t l k j p s)

  or_warned_path : (v : Option ℕ) (k r : ℕ) → Contains (warn_either wa wb v) (warning r k) → Reaches (Either A B) x k r ⊎ ((v ≡ Some k) × ShownPath x (Either A B) r)
  or_warned_path v k r c = found (Contains-append_cases (wa v) (wb v) (warning r k) c)
    where
      in_a : Reaches A x k r ⊎ ((v ≡ Some k) × ShownPath x A r) → Reaches (Either A B) x k r ⊎ ((v ≡ Some k) × ShownPath x (Either A B) r)
      in_a (inl h) = inl (record { acts = h.acts; is_path = inl h.is_path; hits = h.hits })
      in_a (inr h) = inr (h.0, record { acts = h.1.acts; is_path = inl h.1.is_path; shows = h.1.shows })

      in_b : Reaches B x k r ⊎ ((v ≡ Some k) × ShownPath x B r) → Reaches (Either A B) x k r ⊎ ((v ≡ Some k) × ShownPath x (Either A B) r)
      in_b (inl h) = inl (record { acts = h.acts; is_path = inr h.is_path; hits = h.hits })
      in_b (inr h) = inr (h.0, record { acts = h.1.acts; is_path = inr h.1.is_path; shows = h.1.shows })

      found : Contains (wa v) (warning r k) ⊎ Contains (wb v) (warning r k) → Reaches (Either A B) x k r ⊎ ((v ≡ Some k) × ShownPath x (Either A B) r)
      found (inl h) = in_a (ea.warned_path v k r h)
      found (inr h) = in_b (eb.warned_path v k r h)

  or_is_hit : (f : From) (t : To) (l : List Act) (v : Option ℕ) (k r : ℕ) → Either A B f t l → Hits x k r l → Warned (warn_either wa wb v) k r
  or_is_hit f t l v k r (inl p) h = warned_left (wa v) (wb v) k r (ea.is_hit f t l v k r p h)
  or_is_hit f t l v k r (inr p) h = warned_right (wa v) (wb v) k r (eb.is_hit f t l v k r p h)

  or_is_shown : (t : To) (l : List Act) (v : Option ℕ) (k r : ℕ) → Either A B Start t l → Shows x r l → AtMost v k → Warned (warn_either wa wb v) k r
  or_is_shown t l v k r (inl p) h most = warned_left (wa v) (wb v) k r (ea.is_shown t l v k r p h most)
  or_is_shown t l v k r (inr p) h most = warned_right (wa v) (wb v) k r (eb.is_shown t l v k r p h most)

  pub exact_either : Exact x (Either A B) (either_of a b) (warn_either wa wb)
  exact_either = record {
    clear_path = or_clear_path;
    is_clear = or_is_clear;
    standing_path = or_standing_path;
    is_standing = or_is_standing;
    warned_path = or_warned_path;
    is_hit = or_is_hit;
    is_shown = or_is_shown;
  }

-- continue leads to what comes next
module _ (x : ℕ) (A : Piece) (a : Ways) (wa : Warns) (ea : Exact x A a wa) where
  plain_clear : (t : To) → ClearPath x A t → ClearPath x (Caught A) t
  plain_clear t p = record { acts = p.acts; is_path = as_is p.is_path; clear = p.clear }

  plain_stands : (t : To) (k : ℕ) → StandingPath x A t k → StandingPath x (Caught A) t k
  plain_stands t k p = record { acts = p.acts; is_path = as_is p.is_path; stands = p.stands }

  caught_clear_path : (t : To) → Yes (way (caught_of a) t).clear → ClearPath x (Caught A) t
  caught_clear_path Next y = elim (yes_either a.next.clear a.continued.clear y) [
    | inl h ↦ plain_clear Next (ea.clear_path Next h)
    | inr h ↦ let p = ea.clear_path Continued h in record { acts = p.acts; is_path = on p.is_path; clear = p.clear }
  ]
  caught_clear_path Broken y = plain_clear Broken (ea.clear_path Broken y)
  caught_clear_path Continued y = plain_clear Continued (ea.clear_path Continued y)
  caught_clear_path Ends y = absurd y

  kept_clear : (t : To) → Yes (way a t).clear → Yes (way (caught_of a) t).clear
  kept_clear Next y = yes_left a.next.clear a.continued.clear y
  kept_clear _ y = y

  caught_is_clear : (t : To) (l : List Act) → Joins t → Caught A Start t l → Clear x l → Yes (way (caught_of a) t).clear
  caught_is_clear t l j (on p) c = yes_right a.next.clear a.continued.clear (ea.is_clear Continued l tt p c)
  caught_is_clear t l j (as_is p) c = kept_clear t (ea.is_clear t l j p c)

  caught_standing_path : (t : To) (k : ℕ) → (way (caught_of a) t).least ≡ Some k → StandingPath x (Caught A) t k
  caught_standing_path Next k e = elim (lower_is a.next.least a.continued.least k e) [
    | inl h ↦ plain_stands Next k (ea.standing_path Next k h)
    | inr h ↦ let p = ea.standing_path Continued k h in record { acts = p.acts; is_path = on p.is_path; stands = p.stands }
  ]
  caught_standing_path Broken k e = plain_stands Broken k (ea.standing_path Broken k e)
  caught_standing_path Continued k e = plain_stands Continued k (ea.standing_path Continued k e)
  caught_standing_path Ends k e = absurd (cc)

  kept_most : (t : To) (k : ℕ) → AtMost (way a t).least k → AtMost (way (caught_of a) t).least k
  kept_most Next k h = most_left a.next.least a.continued.least k h
  kept_most _ k h = h

  caught_is_standing : (f : From) (t : To) (l : List Act) (k : ℕ) → Joins t → Caught A f t l → NullingStands x k l → AtMost (way (caught_of a) t).least k
  caught_is_standing f t l k j (on p) s = most_right a.next.least a.continued.least k (ea.is_standing f Continued l k tt p s)
  caught_is_standing f t l k j (as_is p) s = kept_most t k (ea.is_standing f t l k j p s)

  caught_warned_path : (v : Option ℕ) (k r : ℕ) → Contains (wa v) (warning r k) → Reaches (Caught A) x k r ⊎ ((v ≡ Some k) × ShownPath x (Caught A) r)
  caught_warned_path v k r c = elim (ea.warned_path v k r c) [
    | inl h ↦ inl (record { acts = h.acts; is_path = as_is h.is_path; hits = h.hits })
    | inr h ↦ inr (h.0, record { acts = h.1.acts; is_path = as_is h.1.is_path; shows = h.1.shows })
  ]

  caught_is_hit : (f : From) (t : To) (l : List Act) (v : Option ℕ) (k r : ℕ) → Caught A f t l → Hits x k r l → Warned (wa v) k r
  caught_is_hit f t l v k r (on p) h = ea.is_hit f Continued l v k r p h
  caught_is_hit f t l v k r (as_is p) h = ea.is_hit f t l v k r p h

  caught_is_shown : (t : To) (l : List Act) (v : Option ℕ) (k r : ℕ) → Caught A Start t l → Shows x r l → AtMost v k → Warned (wa v) k r
  caught_is_shown t l v k r (on p) h most = ea.is_shown Continued l v k r p h most
  caught_is_shown t l v k r (as_is p) h most = ea.is_shown t l v k r p h most

  pub exact_caught : Exact x (Caught A) (caught_of a) wa
  exact_caught = record {
    clear_path = caught_clear_path;
    is_clear = caught_is_clear;
    standing_path = caught_standing_path;
    is_standing = caught_is_standing;
    warned_path = caught_warned_path;
    is_hit = caught_is_hit;
    is_shown = caught_is_shown;
  }

-- a loop: what holds at the end of one turn is all that more turns add
module _ (x : ℕ) (A : Piece) (a : Ways) (wa : Warns) (ea : Exact x A a wa) where
  loop_clear_path : (t : To) → Yes (way (loop_of a) t).clear → ClearPath x (Loop A) t
  loop_clear_path Next y = let p = ea.clear_path Broken y in record { acts = p.acts; is_path = left p.is_path; clear = p.clear }
  loop_clear_path _ y = absurd y

  loop_is_clear : (t : To) (l : List Act) → Joins t → Loop A Start t l → Clear x l → Yes (way (loop_of a) t).clear
  loop_is_clear t l j (left p) c = ea.is_clear Broken l tt p c
  loop_is_clear t l j (ended p) c = absurd j
  loop_is_clear t l j (again {l = l1} {m = m} p q) c = loop_is_clear t m j q (clear_last x l1 m c)

  loop_standing_path : (t : To) (k : ℕ) → (way (loop_of a) t).least ≡ Some k → StandingPath x (Loop A) t k
  loop_standing_path Next k e = elim (behind_is a.broken a.next.least k e) [
    | inl h ↦ let p = ea.standing_path Broken k h in record { acts = p.acts; is_path = left p.is_path; stands = p.stands }
    | inr h ↦ let p = ea.standing_path Next k h.1 in let q = ea.clear_path Broken h.0 in record { acts = p.acts ++ q.acts; is_path = again p.is_path (left q.is_path); stands = stands_on x k p.acts q.acts p.stands q.clear }
  ]
  loop_standing_path _ k e = absurd (cc)

  crossed : (t : To) (k : ℕ) → AtMost a.next.least k → Yes (way (loop_of a) t).clear → AtMost (way (loop_of a) t).least k
  crossed Next k h y = most_behind a.broken a.next.least k y h
  crossed _ k h y = absurd y

  loop_is_standing : (f : From) (t : To) (l : List Act) (k : ℕ) → Joins t → Loop A f t l → NullingStands x k l → AtMost (way (loop_of a) t).least k
  loop_is_standing f t l k j (left p) s = most_of a.broken a.next.least k (ea.is_standing f Broken l k tt p s)
  loop_is_standing f t l k j (ended p) s = absurd j
  loop_is_standing f t l k j (again {l = l1} {m = m} p q) s = found (loop_is_standing Start t m k j q) (stands_cases x k l1 m s)
    where
      found : (NullingStands x k m → AtMost (way (loop_of a) t).least k) → (NullingStands x k l1 × Clear x m) ⊎ NullingStands x k m → AtMost (way (loop_of a) t).least k
      found ih (inl h) = crossed t k (ea.is_standing f Next l1 k tt p h.0) (loop_is_clear t m j q h.1)
      found ih (inr h) = ih h

  loop_warned_path : (v : Option ℕ) (k r : ℕ) → Contains (warn_loop a wa v) (warning r k) → Reaches (Loop A) x k r ⊎ ((v ≡ Some k) × ShownPath x (Loop A) r)
  loop_warned_path v k r c = found (ea.warned_path (lower v a.next.least) k r c)
    where
      shown : ShownPath x A r → ShownPath x (Loop A) r
      shown h = record { acts = h.acts; is_path = ended h.is_path; shows = h.shows }

      stood : ShownPath x A r → (v ≡ Some k) ⊎ (a.next.least ≡ Some k) → Reaches (Loop A) x k r ⊎ ((v ≡ Some k) × ShownPath x (Loop A) r)
      stood q (inl h) = inr (h, shown q)
      stood q (inr h) = let p = ea.standing_path Next k h in inl (record { acts = p.acts ++ q.acts; is_path = again p.is_path (ended q.is_path); hits = hits_across x k r p.acts q.acts p.stands q.shows })

      found : Reaches A x k r ⊎ ((lower v a.next.least ≡ Some k) × ShownPath x A r) → Reaches (Loop A) x k r ⊎ ((v ≡ Some k) × ShownPath x (Loop A) r)
      found (inl h) = inl (record { acts = h.acts; is_path = ended h.is_path; hits = h.hits })
      found (inr h) = stood h.1 (lower_is v a.next.least k h.0)

  -- what holds at the head of some turn is at most k
  loop_shown : (t : To) (l : List Act) (u : Option ℕ) (k r : ℕ) → Loop A Start t l → Shows x r l → AtMost u k → Warned (wa u) k r
  loop_shown t l u k r (left p) h most = ea.is_shown Broken l u k r p h most
  loop_shown t l u k r (ended p) h most = ea.is_shown Ends l u k r p h most
  loop_shown t l u k r (again {l = l1} {m = m} p q) h most = found (λ s. loop_shown t m u k r q s most) (shows_cases x r l1 m h)
    where
      found : (Shows x r m → Warned (wa u) k r) → Shows x r l1 ⊎ (Clear x l1 × Shows x r m) → Warned (wa u) k r
      found ih (inl c) = ea.is_shown Next l1 u k r p c most
      found ih (inr c) = ih c.1

  loop_is_hit : (f : From) (t : To) (l : List Act) (v : Option ℕ) (k r : ℕ) → Loop A f t l → Hits x k r l → Warned (warn_loop a wa v) k r
  loop_is_hit f t l v k r (left p) h = ea.is_hit f Broken l (lower v a.next.least) k r p h
  loop_is_hit f t l v k r (ended p) h = ea.is_hit f Ends l (lower v a.next.least) k r p h
  loop_is_hit f t l v k r (again {l = l1} {m = m} p q) h = found (loop_is_hit Start t m v k r q) (hits_cases x k r l1 m h)
    where
      found : (Hits x k r m → Warned (warn_loop a wa v) k r) → Split x k r l1 m → Warned (warn_loop a wa v) k r
      found ih (first c) = ea.is_hit f Next l1 (lower v a.next.least) k r p c
      found ih (across c d) = loop_shown t m (lower v a.next.least) k r q d (most_right v a.next.least k (ea.is_standing f Next l1 k tt p c))
      found ih (last c) = ih c

  loop_is_shown : (t : To) (l : List Act) (v : Option ℕ) (k r : ℕ) → Loop A Start t l → Shows x r l → AtMost v k → Warned (warn_loop a wa v) k r
  loop_is_shown t l v k r p h most = loop_shown t l (lower v a.next.least) k r p h (most_left v a.next.least k most)

  pub exact_loop : Exact x (Loop A) (loop_of a) (warn_loop a wa)
  exact_loop = record {
    clear_path = loop_clear_path;
    is_clear = loop_is_clear;
    standing_path = loop_standing_path;
    is_standing = loop_is_standing;
    warned_path = loop_warned_path;
    is_hit = loop_is_hit;
    is_shown = loop_is_shown;
  }
