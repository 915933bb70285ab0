-- That what is computed of a piece of code is exactly what its paths do.
use Rattle.sharc_dataflow.proofs.{Imports.{◌≡◌, ℕ, List, ◌++◌, ◌⊎◌, inl, inr, ◌≤◌, Option, Some, Contains, Contains-append_left, Contains-append_right, Contains-append_cases, Ways, FlowWarning, Act, From, Start, Inside, To, Next, Ends, Piece, Leaves, Then, through, leaves, late, Clear, NullingStands, Shows, Hits, Reaches, behind, way, then_of, Warns, warn_then}, Lists.{clear_both, clear_first, clear_last, stands_on, stands_cases, shows_behind, shows_cases, hits_across, hits_cases, Split, first, across, last}, Algebra.{Yes, AtMost, Joins, most_behind, most_of, behind_is, then_clear, through_clear, leaves_clear, Came, second, passed, left as came_left, then_least, through_most, second_most, left_most}}

abbrev pub warning : ℕ → ℕ → FlowWarning
warning r k = record { read = r; since = k }

-- a path from the start to t with no write of x
pub record ClearPath (x : ℕ) (A : Piece) (t : To) : Type 0 where
  pub acts : List Act
  pub is_path : A Start t acts
  pub clear : Clear x acts

-- a path to t on which the nulling at k holds
pub record StandingPath (x : ℕ) (A : Piece) (t : To) (k : ℕ) : Type 0 where
  pub acts : List Act
  pub is_path : A Inside t acts
  pub stands : NullingStands x k acts

-- a path from the start to the read at r with no write of x before it
pub record ShownPath (x : ℕ) (A : Piece) (r : ℕ) : Type 0 where
  pub acts : List Act
  pub is_path : A Start Ends acts
  pub shows : Shows x r acts

-- the read at r has a warning that names a nulling no later than k
pub record Warned (ws : List FlowWarning) (k r : ℕ) : Type 0 where
  pub since : ℕ
  pub first : since ≤ k
  pub has : Contains ws (warning r since)

pub record Exact (x : ℕ) (A : Piece) (s : Ways) (w : Warns) : Type 0 where
  pub clear_path : (t : To) → Yes (way s t).clear → ClearPath x A t
  pub is_clear : (t : To) (l : List Act) → Joins t → A Start t l → Clear x l → Yes (way s t).clear
  pub standing_path : (t : To) (k : ℕ) → (way s t).least ≡ Some k → StandingPath x A t k
  pub is_standing : (f : From) (t : To) (l : List Act) (k : ℕ) → Joins t → A f t l → NullingStands x k l → AtMost (way s t).least k
  pub warned_path : (v : Option ℕ) (k r : ℕ) → Contains (w v) (warning r k) → Reaches A x k r ⊎ ((v ≡ Some k) × ShownPath x A r)
  pub is_hit : (f : From) (t : To) (l : List Act) (v : Option ℕ) (k r : ℕ) → A f t l → Hits x k r l → Warned (w v) k r
  pub is_shown : (t : To) (l : List Act) (v : Option ℕ) (k r : ℕ) → A Start t l → Shows x r l → AtMost v k → Warned (w v) k r

pub warned_left : (a b : List FlowWarning) (k r : ℕ) → Warned a k r → Warned (a ++ b) k r
warned_left a b k r h = record { since = h.since; first = h.first; has = Contains-append_left a b (warning r h.since) h.has }

pub warned_right : (a b : List FlowWarning) (k r : ℕ) → Warned b k r → Warned (a ++ b) k r
warned_right a b k r h = record { since = h.since; first = h.first; has = Contains-append_right a b (warning r h.since) h.has }

-- the one and then the other
module _ (x : ℕ) (A B : Piece) (a b : Ways) (wa wb : Warns) (ea : Exact x A a wa) (eb : Exact x B b wb) where
  then_clear_path : (t : To) → Yes (way (then_of a b) t).clear → ClearPath x (Then A B) t
  then_clear_path t y = elim (then_clear a b t y) [
    | inl h ↦ let p = ea.clear_path Next h.0 in let q = eb.clear_path t h.1 in record { acts = p.acts ++ q.acts; is_path = through p.is_path q.is_path; clear = clear_both x p.acts q.acts p.clear q.clear }
    | inr h ↦ let p = ea.clear_path t h.1 in record { acts = p.acts; is_path = leaves h.0 p.is_path; clear = p.clear }
  ]

  then_is_clear : (t : To) (l : List Act) → Joins t → Then A B Start t l → Clear x l → Yes (way (then_of a b) t).clear
  then_is_clear t l j (through {l = l1} {m = m} p q) c = through_clear a b t (ea.is_clear Next l1 tt p (clear_first x l1 m c)) (eb.is_clear t m j q (clear_last x l1 m c))
  then_is_clear t l j (leaves out p) c = leaves_clear a b t out (ea.is_clear t l j p c)

  then_standing_path : (t : To) (k : ℕ) → (way (then_of a b) t).least ≡ Some k → StandingPath x (Then A B) t k
  then_standing_path t k e = found (then_least a b t k e)
    where
      found : Came a b t k → StandingPath x (Then A B) t k
      found (second h) = let q = eb.standing_path t k h in record { acts = q.acts; is_path = late q.is_path; stands = q.stands }
      found (passed y h) = let p = ea.standing_path Next k h in let q = eb.clear_path t y in record { acts = p.acts ++ q.acts; is_path = through p.is_path q.is_path; stands = stands_on x k p.acts q.acts p.stands q.clear }
      found (came_left out h) = let p = ea.standing_path t k h in record { acts = p.acts; is_path = leaves out p.is_path; stands = p.stands }

  then_is_standing : (f : From) (t : To) (l : List Act) (k : ℕ) → Joins t → Then A B f t l → NullingStands x k l → AtMost (way (then_of a b) t).least k
  then_is_standing f t l k j (through {l = l1} {m = m} p q) s = elim (stands_cases x k l1 m s) [
    | inl h ↦ through_most a b t k (ea.is_standing f Next l1 k tt p h.0) (eb.is_clear t m j q h.1)
    | inr h ↦ second_most a b t k (eb.is_standing Start t m k j q h)
  ]
  then_is_standing f t l k j (leaves out p) s = left_most a b t k out (ea.is_standing f t l k j p s)
  then_is_standing f t l k j (late p) s = second_most a b t k (eb.is_standing Inside t l k j p s)

  reaches_first : (k r : ℕ) → Reaches A x k r → Reaches (Then A B) x k r
  reaches_first k r h = record { acts = h.acts; is_path = leaves tt h.is_path; hits = h.hits }

  reaches_second : (k r : ℕ) → Reaches B x k r → Reaches (Then A B) x k r
  reaches_second k r h = record { acts = h.acts; is_path = late h.is_path; hits = h.hits }

  reaches_across : (k r : ℕ) → StandingPath x A Next k → ShownPath x B r → Reaches (Then A B) x k r
  reaches_across k r p q = record { acts = p.acts ++ q.acts; is_path = through p.is_path q.is_path; hits = hits_across x k r p.acts q.acts p.stands q.shows }

  shown_first : (r : ℕ) → ShownPath x A r → ShownPath x (Then A B) r
  shown_first r h = record { acts = h.acts; is_path = leaves tt h.is_path; shows = h.shows }

  shown_second : (r : ℕ) → ClearPath x A Next → ShownPath x B r → ShownPath x (Then A B) r
  shown_second r p q = record { acts = p.acts ++ q.acts; is_path = through p.is_path q.is_path; shows = shows_behind x r p.acts q.acts p.clear q.shows }

  then_warned_path : (v : Option ℕ) (k r : ℕ) → Contains (warn_then a wa wb v) (warning r k) → Reaches (Then A B) x k r ⊎ ((v ≡ Some k) × ShownPath x (Then A B) r)
  then_warned_path v k r c = found (Contains-append_cases (wa v) (wb (behind a.next v)) (warning r k) c)
    where
      in_first : Reaches A x k r ⊎ ((v ≡ Some k) × ShownPath x A r) → Reaches (Then A B) x k r ⊎ ((v ≡ Some k) × ShownPath x (Then A B) r)
      in_first (inl h) = inl (reaches_first k r h)
      in_first (inr h) = inr (h.0, shown_first r h.1)

      stood : ShownPath x B r → (a.next.least ≡ Some k) ⊎ (Yes a.next.clear × (v ≡ Some k)) → Reaches (Then A B) x k r ⊎ ((v ≡ Some k) × ShownPath x (Then A B) r)
      stood q (inl h) = inl (reaches_across k r (ea.standing_path Next k h) q)
      stood q (inr h) = inr (h.1, shown_second r (ea.clear_path Next h.0) q)

      in_second : Reaches B x k r ⊎ ((behind a.next v ≡ Some k) × ShownPath x B r) → Reaches (Then A B) x k r ⊎ ((v ≡ Some k) × ShownPath x (Then A B) r)
      in_second (inl h) = inl (reaches_second k r h)
      in_second (inr h) = stood h.1 (behind_is a.next v k h.0)

      found : Contains (wa v) (warning r k) ⊎ Contains (wb (behind a.next v)) (warning r k) → Reaches (Then A B) x k r ⊎ ((v ≡ Some k) × ShownPath x (Then A B) r)
      found (inl h) = in_first (ea.warned_path v k r h)
      found (inr h) = in_second (eb.warned_path (behind a.next v) k r h)

  in_a : (v : Option ℕ) (k r : ℕ) → Warned (wa v) k r → Warned (warn_then a wa wb v) k r
  in_a v k r h = warned_left (wa v) (wb (behind a.next v)) k r h

  in_b : (v : Option ℕ) (k r : ℕ) → Warned (wb (behind a.next v)) k r → Warned (warn_then a wa wb v) k r
  in_b v k r h = warned_right (wa v) (wb (behind a.next v)) k r h

  then_is_hit : (f : From) (t : To) (l : List Act) (v : Option ℕ) (k r : ℕ) → Then A B f t l → Hits x k r l → Warned (warn_then a wa wb v) k r
  then_is_hit f t l v k r (through {l = l1} {m = m} p q) h = found (hits_cases x k r l1 m h)
    where
      found : Split x k r l1 m → Warned (warn_then a wa wb v) k r
      found (first c) = in_a v k r (ea.is_hit f Next l1 v k r p c)
      found (across c d) = in_b v k r (eb.is_shown t m (behind a.next v) k r q d (most_of a.next v k (ea.is_standing f Next l1 k tt p c)))
      found (last c) = in_b v k r (eb.is_hit Start t m (behind a.next v) k r q c)
  then_is_hit f t l v k r (leaves out p) h = in_a v k r (ea.is_hit f t l v k r p h)
  then_is_hit f t l v k r (late p) h = in_b v k r (eb.is_hit Inside t l (behind a.next v) k r p h)

  then_is_shown : (t : To) (l : List Act) (v : Option ℕ) (k r : ℕ) → Then A B Start t l → Shows x r l → AtMost v k → Warned (warn_then a wa wb v) k r
  then_is_shown t l v k r (through {l = l1} {m = m} p q) h most = elim (shows_cases x r l1 m h) [
    | inl c ↦ in_a v k r (ea.is_shown Next l1 v k r p c most)
    | inr c ↦ in_b v k r (eb.is_shown t m (behind a.next v) k r q c.1 (most_behind a.next v k (ea.is_clear Next l1 tt p c.0) most))
  ]
  then_is_shown t l v k r (leaves out p) h most = in_a v k r (ea.is_shown t l v k r p h most)

  pub exact_then : Exact x (Then A B) (then_of a b) (warn_then a wa wb)
  exact_then = record {
    clear_path = then_clear_path;
    is_clear = then_is_clear;
    standing_path = then_standing_path;
    is_standing = then_is_standing;
    warned_path = then_warned_path;
    is_hit = then_is_hit;
    is_shown = then_is_shown;
  }
