-- What is known of checks is what the lines of the piece say.
use Rattle.sharc_guard.proofs.Imports.{◌≡◌, ◌≢◌, ℕ, ℤ, pos, negsuc, zero, suc, ◌+◌, ◌*◌, ◌^◌, ◌<◌, ◌≤◌, ◌⊎◌, inl, inr, Bool, true, false, not, ◌&&◌, ◌||◌, Option, Some, None, refl, sym, ap, ◌∙◌, subst, arith, cond, ⊎_elim, nat_lt, cases_lt, ltb-true, lt-ltb, or_right, or_left, and_both, true_not, nat_tests, slice_get, ◌==◌, Kind, Read, Write, PlaceMode, Dynamic, Cell, Spot, Op, Flat, is_straight, is_target, writes_ref, writes_int, SimplePlace, in_variable, in_global, same_place, assigns, counts, Access, access, is_dynamic, tells, Know, nothing, few, of_constant, element, with_element, number_given, copy_given, unless_written, variable_place, global_place, place_of, is_at, passes_by, know_next, know_after, known, has_passed, drops_at, dropped, IsStraight, Keeps, IsPiece, AllKeep, IsCopy, IsNumber, constant, of_object, of_global, IsPlaceAt, IsSimple, IsChecked, IsOfInteger, IsRepeated, DropsRepeated, ItsCheckStands, RepeatedCheckStands, some_is, and_left, or_either, not_true, and_right, false_true, eqb_other as eq_other, eq_true}

-- ---- tests
pub eq_same : (m n : ℕ) → m ≡ n → (m == n) ≡ true
eq_same m n e = grind (arith, nat_tests)

pub no_some : {A B : Type 0} (a : A) → None ≡ Some a → B
no_some a e = absurd (cc)

pub true_false : {A : Type 0} → true ≡ false → A
true_false e = absurd (cc)

pub place_is : (a b : SimplePlace) → same_place a b ≡ true → a ≡ b
place_is (in_variable x n) (in_variable y k) e = ap (λ z. in_variable z n) (eq_true x y (and_left (x == y) (n == k) e)) ∙ ap (in_variable y) (eq_true n k (and_right (x == y) (n == k) e))
place_is (in_global g n) (in_global h k) e = ap (λ z. in_global z n) (eq_true g h (and_left (g == h) (n == k) e)) ∙ ap (in_global h) (eq_true n k (and_right (g == h) (n == k) e))
place_is (in_variable x n) (in_global h k) e = absurd (cc)
place_is (in_global g n) (in_variable y k) e = absurd (cc)

place_same : (a : SimplePlace) → same_place a a ≡ true
place_same (in_variable x n) = and_both (x == x) (n == n) (eq_same x x refl) (eq_same n n refl)
place_same (in_global g n) = and_both (g == g) (n == n) (eq_same g g refl) (eq_same n n refl)

pub dynamic_is : (mode : PlaceMode) → is_dynamic mode ≡ true → mode ≡ Dynamic
dynamic_is Dynamic e = refl
dynamic_is _ e = absurd (cc)

tells_both : (spot : Spot) → spot.mode ≡ Dynamic → spot.is_simple ≡ true → tells spot ≡ true
tells_both spot e s = and_both (is_dynamic spot.mode) spot.is_simple (ap is_dynamic e) s

-- ---- what operations give
pub copy_is : (o : Op) (r x : ℕ) → writes_ref o r ≡ true → copy_given o ≡ Some x → (o ≡ Op.Local r x) × (r ≢ x)
copy_is (Op.Local d y) r x w e = by (d == y) refl e
  where
    by : (b : Bool) → (d == y) ≡ b → cond b None (Some y) ≡ Some x → (Op.Local d y ≡ Op.Local r x) × (r ≢ x)
    by true eb e = absurd (cc)
    by false eb e =
        let same : r ≡ d = eq_true r d w in
        let of : y ≡ x = cc in
        (ap (λ z. Op.Local z y) (sym same) ∙ ap (Op.Local r) of, λ q. (let z : (d == y) ≡ true = eq_same d y (sym same ∙ q ∙ sym of) in true_false (sym z ∙ eb)))
copy_is _ r x w e = no_some x e

few_is : (n v : ℕ) → few n ≡ Some v → (n ≡ v) × (v < 2 ^ 32)
few_is n v e = by (nat_lt n (2 ^ 32)) refl e
  where
    by : (b : Bool) → nat_lt n (2 ^ 32) ≡ b → cond b (Some n) None ≡ Some v → (n ≡ v) × (v < 2 ^ 32)
    by true eb e = let same : n ≡ v = cc in (same, subst (λ k. k < 2 ^ 32) same (ltb-true n (2 ^ 32) eb))
    by false eb e = no_some v e

few_same : (v : ℕ) → v < 2 ^ 32 → few v ≡ Some v
few_same v lt = ap (λ b. cond b (Some v) None) (lt-ltb v (2 ^ 32) lt)

pub constant_is : (z : ℤ) (v : ℕ) → of_constant z ≡ Some v → (z ≡ pos v) × (v < 2 ^ 32)
constant_is (pos n) v e = let h = few_is n v e in (ap pos h.0, h.1)
constant_is (negsuc n) v e = no_some v e

pub element_is : (cells field v : ℕ) (old : Option ℕ) → with_element cells field old ≡ Some v → (u : ℕ) × (old ≡ Some u) × (u < 2 ^ 32) × (v ≡ u * cells + field)
element_is cells field v None e = no_some v e
element_is cells field v (Some u) e = by (nat_lt u (2 ^ 32)) refl e
  where
    by : (b : Bool) → nat_lt u (2 ^ 32) ≡ b → cond b (Some (u * cells + field)) None ≡ Some v → (w : ℕ) × (Some u ≡ Some w) × (w < 2 ^ 32) × (v ≡ w * cells + field)
    by true eb e = (u, refl, ltb-true u (2 ^ 32) eb, sym (some_is (u * cells + field) v e))
    by false eb e = no_some v e

element_same : (cells field u v : ℕ) → u < 2 ^ 32 → v ≡ u * cells + field → element cells field u ≡ Some v
element_same cells field u v lt e = ap (λ b. cond b (Some (u * cells + field)) None) (lt-ltb u (2 ^ 32) lt) ∙ ap Some (sym e)

pub unwritten : (o : Op) (q : Option ℕ) (x : ℕ) → unless_written o q ≡ Some x → (q ≡ Some x) × (writes_ref o x ≡ false)
unwritten o None x e = no_some x e
unwritten o (Some y) x e = by (writes_ref o y) refl e
  where
    by : (b : Bool) → writes_ref o y ≡ b → cond b None (Some y) ≡ Some x → (Some y ≡ Some x) × (writes_ref o x ≡ false)
    by true eb e = no_some x e
    by false eb e = (e, ap (writes_ref o) (sym (some_is y x e)) ∙ eb)

pub counts_more : (a b c : Kind) → counts a b ≡ true → counts b c ≡ true → counts a c ≡ true
counts_more Write b c e f = refl
counts_more Read Read c e f = f
counts_more Read Write c e f = absurd (cc)

module _ (flat : Flat) where
  abbrev L : ℕ → Option Op
  L n = slice_get flat.lines n

  -- ---- one line more
  last_or : (j n : ℕ) → j < suc n → (j < n) ⊎ (n ≡ j)
  last_or j n lt = ⊎_elim (λ (h : j < n). inl h) (λ (h : n ≤ j). inr (omega arith)) (cases_lt j n)

  last_to : (j n : ℕ) → j ≤ suc n → (j ≤ n) ⊎ (suc n ≡ j)
  last_to j n le = ⊎_elim (λ (h : n < j). inr (omega arith)) (λ (h : j ≤ n). inl h) (cases_lt n j)

  piece_more : (m n : ℕ) → IsPiece flat m n → IsStraight (L n) → is_target flat (suc n) ≡ false → IsPiece flat m (suc n)
  piece_more m n h s t = record {
    straight = λ j a b. ⊎_elim (λ (lt : j < n). h.straight j a lt) (λ (e : n ≡ j). subst (λ k. IsStraight (L k)) e s) (last_or j n b);
    no_target = λ j a b. ⊎_elim (λ (le : j ≤ n). h.no_target j a le) (λ (e : suc n ≡ j). subst (λ k. is_target flat k ≡ false) e t) (last_to j n b);
  }

  piece_none : (n : ℕ) → IsPiece flat n n
  piece_none n = record { straight = λ j a b. absurd (omega arith); no_target = λ j a b. absurd (omega arith) }

  keep_more : (c : Op → Bool) (m n : ℕ) → AllKeep flat c m n → Keeps c (L n) → AllKeep flat c m (suc n)
  keep_more c m n h k = λ j a b. ⊎_elim (λ (lt : j < n). h j a lt) (λ (e : n ≡ j). subst (λ k. Keeps c (L k)) e k) (last_or j n b)

  keep_none : (c : Op → Bool) (n : ℕ) → AllKeep flat c n n
  keep_none c n = λ j a b. absurd (omega arith)

  piece_less : (m n : ℕ) → IsPiece flat m (suc n) → IsPiece flat m n
  piece_less m n h = record { straight = λ j a b. h.straight j a (omega arith); no_target = λ j a b. h.no_target j a (omega arith) }

  keep_less : (c : Op → Bool) (m n : ℕ) → AllKeep flat c m (suc n) → AllKeep flat c m n
  keep_less c m n h = λ j a b. h j a (omega arith)

  -- a line of a piece
  there : (n : ℕ) → IsStraight (L n) → (o : Op) × (L n ≡ Some o) × (is_straight o ≡ true)
  there n s = by (L n) refl s
    where
      by : (l : Option Op) → L n ≡ l → IsStraight l → (o : Op) × (L n ≡ Some o) × (is_straight o ≡ true)
      by None e s = absurd s
      by (Some o) e s = (o, e, s)

  straight_line : (n : ℕ) (o : Op) → L n ≡ Some o → is_straight o ≡ true → IsStraight (L n)
  straight_line n o e s = subst IsStraight (sym e) s

  keeps_line : (c : Op → Bool) (n : ℕ) (o : Op) → L n ≡ Some o → c o ≡ false → Keeps c (L n)
  keeps_line c n o e k = subst (Keeps c) (sym e) k

  kept_line : (c : Op → Bool) (n : ℕ) (o : Op) → L n ≡ Some o → Keeps c (L n) → c o ≡ false
  kept_line c n o e k = subst (Keeps c) e k

  -- what is known after it
  known_next : (n : ℕ) (o : Op) → L n ≡ Some o → is_straight o ≡ true → is_target flat (suc n) ≡ false → known flat (suc n) ≡ know_next o (known flat n)
  known_next n o e s t =
      ap (λ b. cond b nothing (know_after (L n) (known flat n))) t ∙ ap (λ l. know_after l (known flat n)) e ∙ ap (λ b. cond b (know_next o (known flat n)) nothing) s

  -- ---- what is known is so
  pub record Says (n : ℕ) (k : Know) : Type 0 where
    pub copies : (r x : ℕ) → k.copy r ≡ Some x → IsCopy flat r x n
    pub numbers : (i v : ℕ) → k.number i ≡ Some v → IsNumber flat i v n
    pub passed : (kind : Kind) (place : SimplePlace) → k.passed kind place ≡ true → IsChecked flat n kind place

  says_nothing : (n : ℕ) → Says n nothing
  says_nothing n = record { copies = λ r x e. no_some x e; numbers = λ i v e. no_some v e; passed = λ kind place e. false_true e }

  pub place_true : (n : ℕ) (k : Know) → Says n k → (cell : Cell) (place : SimplePlace) → place_of k cell ≡ Some place → IsPlaceAt flat cell place n
  place_true n k h (Cell.Global g c) place e = sym (some_is (in_global g c) place e)
  place_true n k h (Cell.GlobalAt g i) place e = by (k.number i) refl e
    where
      by : (q : Option ℕ) → k.number i ≡ q → global_place g q ≡ Some place → (v : ℕ) × IsNumber flat i v n × (place ≡ in_global g v)
      by None eq e = no_some place e
      by (Some v) eq e = (v, h.numbers i v eq, sym (some_is (in_global g v) place e))
  place_true n k h (Cell.Object r c) place e = by (k.copy r) refl e
    where
      by : (q : Option ℕ) → k.copy r ≡ q → variable_place q (Some c) ≡ Some place → (x : ℕ) × IsCopy flat r x n × (place ≡ in_variable x c)
      by None eq e = no_some place e
      by (Some x) eq e = (x, h.copies r x eq, sym (some_is (in_variable x c) place e))
  place_true n k h (Cell.ObjectAt r i) place e = by (k.copy r) (k.number i) refl refl e
    where
      by : (q p : Option ℕ) → k.copy r ≡ q → k.number i ≡ p → variable_place q p ≡ Some place → (x : ℕ) × (v : ℕ) × IsCopy flat r x n × IsNumber flat i v n × (place ≡ in_variable x v)
      by None p eq ep e = no_some place e
      by (Some x) None eq ep e = no_some place e
      by (Some x) (Some v) eq ep e = (x, v, h.copies r x eq, h.numbers i v ep, sym (some_is (in_variable x v) place e))

  module _ (n : ℕ) (o : Op) (at : L n ≡ Some o) (straight : is_straight o ≡ true) (free : is_target flat (suc n) ≡ false) (k : Know) (h : Says n k) where
    line_straight : IsStraight (L n)
    line_straight = straight_line n o at straight

    longer : (m : ℕ) → IsPiece flat m n → IsPiece flat m (suc n)
    longer m p = piece_more m n p line_straight free

    one : IsPiece flat n (suc n)
    one = longer n (piece_none n)

    next_copy : (r x : ℕ) → (know_next o k).copy r ≡ Some x → IsCopy flat r x (suc n)
    next_copy r x e = by (writes_ref o r) refl e
      where
        by : (b : Bool) → writes_ref o r ≡ b → cond b (copy_given o) (unless_written o (k.copy r)) ≡ Some x → IsCopy flat r x (suc n)
        by true w e =
            let c = copy_is o r x w e in
            let ne : (x == r) ≡ false = eq_other x r (λ q. c.1 (sym q)) in
            record {
              at = n;
              before = omega arith;
              copies = at ∙ ap Some c.0;
              other = c.1;
              piece = one;
              register = λ j a b. absurd (omega arith);
              variable = keep_more (λ o. writes_ref o x) n n (keep_none (λ o. writes_ref o x) n) (keeps_line (λ o. writes_ref o x) n o at (ap (λ o. writes_ref o x) c.0 ∙ ne));
            }
        by false w e =
            let u = unwritten o (k.copy r) x e in
            let c = h.copies r x u.0 in
            record {
              at = c.at;
              before = let q = c.before in omega arith;
              copies = c.copies;
              other = c.other;
              piece = longer c.at c.piece;
              register = keep_more (λ o. writes_ref o r) (c.at + 1) n c.register (keeps_line (λ o. writes_ref o r) n o at w);
              variable = keep_more (λ o. writes_ref o x) c.at n c.variable (keeps_line (λ o. writes_ref o x) n o at u.1);
            }

    after_own : (c : Op → Bool) → AllKeep flat c (n + 1) (suc n)
    after_own c = λ j a b. absurd (omega arith)

    number_made : (o2 : Op) → L n ≡ Some o2 → (i v : ℕ) → writes_int o2 i ≡ true → number_given o2 (k.number i) ≡ Some v → IsNumber flat i v (suc n)
    number_made (Op.Constant d z) l i v w e =
        let same : i ≡ d = eq_true i d w in
        let c = constant_is z v e in
        constant i v (suc n) n (omega arith) (l ∙ ap (λ d. Some (Op.Constant d z)) (sym same) ∙ ap (λ z. Some (Op.Constant i z)) c.0) c.1 one (after_own (λ o. writes_int o i))
    number_made (Op.Bounds d r cells field spot) l i v w e =
        let same : i ≡ d = eq_true i d w in
        let c = element_is cells field v (k.number i) e in
        of_object i v (suc n) n c.0 r cells field spot (omega arith) (l ∙ ap (λ d. Some (Op.Bounds d r cells field spot)) (sym same)) (h.numbers i c.0 c.1) c.2 c.3 one (after_own (λ o. writes_int o i))
    number_made (Op.GlobalBounds d elements cells field spot) l i v w e =
        let same : i ≡ d = eq_true i d w in
        let c = element_is cells field v (k.number i) e in
        of_global i v (suc n) n c.0 elements cells field spot (omega arith) (l ∙ ap (λ d. Some (Op.GlobalBounds d elements cells field spot)) (sym same)) (h.numbers i c.0 c.1) c.2 c.3 one (after_own (λ o. writes_int o i))
    number_made _ l i v w e = no_some v e

    number_more : (i v : ℕ) → writes_int o i ≡ false → IsNumber flat i v n → IsNumber flat i v (suc n)
    number_more i v w (constant _ _ _ m lt l f p q) = constant i v (suc n) m (omega arith) l f (longer m p) (keep_more (λ o. writes_int o i) (m + 1) n q (keeps_line (λ o. writes_int o i) n o at w))
    number_more i v w (of_object _ _ _ m u r cells field spot lt l from f e p q) =
        of_object i v (suc n) m u r cells field spot (omega arith) l from f e (longer m p) (keep_more (λ o. writes_int o i) (m + 1) n q (keeps_line (λ o. writes_int o i) n o at w))
    number_more i v w (of_global _ _ _ m u elements cells field spot lt l from f e p q) =
        of_global i v (suc n) m u elements cells field spot (omega arith) l from f e (longer m p) (keep_more (λ o. writes_int o i) (m + 1) n q (keeps_line (λ o. writes_int o i) n o at w))

    next_number : (i v : ℕ) → (know_next o k).number i ≡ Some v → IsNumber flat i v (suc n)
    next_number i v e = by (writes_int o i) refl e
      where
        by : (b : Bool) → writes_int o i ≡ b → cond b (number_given o (k.number i)) (k.number i) ≡ Some v → IsNumber flat i v (suc n)
        by true w e = number_made o at i v w e
        by false w e = number_more i v w (h.numbers i v e)

    pub simple_here : (a : Access) → access o ≡ Some a → tells a.spot ≡ true → (place : SimplePlace) → place_of k a.cell ≡ Some place → IsSimple flat n a.kind place
    simple_here a acc t place e = record {
      o = o;
      line = at;
      a = a;
      accesses = acc;
      kind_is = refl;
      mode = dynamic_is a.spot.mode (and_left (is_dynamic a.spot.mode) a.spot.is_simple t);
      simple = and_right (is_dynamic a.spot.mode) a.spot.is_simple t;
      at = place_true n k h a.cell place e;
    }

    next_passed : (kind : Kind) (place : SimplePlace) → (know_next o k).passed kind place ≡ true → IsChecked flat (suc n) kind place
    next_passed kind place e =
        let both = k.passed kind place || passes_by (access o) k kind place in
        let stays : assigns o place ≡ false = not_true (assigns o place) (and_right both (not (assigns o place)) e) in
        ⊎_elim
        (λ (z : k.passed kind place ≡ true). more (h.passed kind place z) stays)
        (λ (z : passes_by (access o) k kind place ≡ true). by (access o) refl stays z)
        (or_either (k.passed kind place) (passes_by (access o) k kind place) (and_left both (not (assigns o place)) e))
      where
        more : IsChecked flat n kind place → assigns o place ≡ false → IsChecked flat (suc n) kind place
        more c stays = record {
          at = c.at;
          before = let q = c.before in omega arith;
          by = c.by;
          checks = c.checks;
          enough = c.enough;
          piece = longer c.at c.piece;
          variable = keep_more (λ o. assigns o place) c.at n c.variable (keeps_line (λ o. assigns o place) n o at stays);
        }

        at_place : (q : Option SimplePlace) → is_at q place ≡ true → q ≡ Some place
        at_place None e = false_true e
        at_place (Some p) e = ap Some (sym (place_is place p e))

        by : (q : Option Access) → access o ≡ q → assigns o place ≡ false → passes_by q k kind place ≡ true → IsChecked flat (suc n) kind place
        by None ea stays e = false_true e
        by (Some a) ea stays e =
            let t = and_left (tells a.spot) (counts a.kind kind && is_at (place_of k a.cell) place) e in
            let r = and_right (tells a.spot) (counts a.kind kind && is_at (place_of k a.cell) place) e in
            record {
              at = n;
              before = omega arith;
              by = a.kind;
              checks = simple_here a ea t place (at_place (place_of k a.cell) (and_right (counts a.kind kind) (is_at (place_of k a.cell) place) r));
              enough = and_left (counts a.kind kind) (is_at (place_of k a.cell) place) r;
              piece = one;
              variable = keep_more (λ o. assigns o place) n n (keep_none (λ o. assigns o place) n) (keeps_line (λ o. assigns o place) n o at stays);
            }

    says_next : Says (suc n) (know_next o k)
    says_next = record { copies = next_copy; numbers = next_number; passed = next_passed }

  pub says : (n : ℕ) → Says n (known flat n)
  says zero = says_nothing 0
  says (suc n) = by (is_target flat (suc n)) (L n) refl refl (says n)
    where
      by : (b : Bool) (l : Option Op) → is_target flat (suc n) ≡ b → L n ≡ l → Says n (known flat n) → Says (suc n) (cond b nothing (know_after l (known flat n)))
      by true l eb el h = says_nothing (suc n)
      by false None eb el h = says_nothing (suc n)
      by false (Some o) eb el h = each (is_straight o) refl
        where
          each : (s : Bool) → is_straight o ≡ s → Says (suc n) (cond s (know_next o (known flat n)) nothing)
          each true es = says_next n o el es eb (known flat n) h
          each false es = says_nothing (suc n)

  -- ---- what is so is known
  pub record Knows (n : ℕ) (k : Know) : Type 0 where
    pub copies : (r x : ℕ) → IsCopy flat r x n → k.copy r ≡ Some x
    pub numbers : (i v : ℕ) → IsNumber flat i v n → k.number i ≡ Some v
    pub passed : (kind : Kind) (place : SimplePlace) → IsChecked flat n kind place → k.passed kind place ≡ true

  pub place_known : (n : ℕ) (k : Know) → Knows n k → (cell : Cell) (place : SimplePlace) → IsPlaceAt flat cell place n → place_of k cell ≡ Some place
  place_known n k h (Cell.Global g c) place p = ap Some (sym p)
  place_known n k h (Cell.GlobalAt g i) place p = ap (global_place g) (h.numbers i p.0 p.1) ∙ ap Some (sym p.2)
  place_known n k h (Cell.Object r c) place p = ap (λ q. variable_place q (Some c)) (h.copies r p.0 p.1) ∙ ap Some (sym p.2)
  place_known n k h (Cell.ObjectAt r i) place p = ap (λ q. variable_place q (k.number i)) (h.copies r p.0 p.2) ∙ ap (variable_place (Some p.0)) (h.numbers i p.1 p.3) ∙ ap Some (sym p.4)

  module _ (n : ℕ) (o : Op) (at : L n ≡ Some o) (k : Know) (h : Knows n k) where
    of_line : (o2 : Op) → L n ≡ Some o2 → o ≡ o2
    of_line o2 e = some_is o o2 (sym at ∙ e)

    earlier : (m : ℕ) → m < suc n → (m < n) ⊎ (n ≡ m)
    earlier m lt = last_or m n lt

    knows_copy : (r x : ℕ) → IsCopy flat r x (suc n) → (know_next o k).copy r ≡ Some x
    knows_copy r x c = ⊎_elim
        (λ (lt : c.at < n).
        let w : writes_ref o r ≡ false = kept_line (λ o. writes_ref o r) n o at (c.register n (omega arith) (omega arith)) in
        let v : writes_ref o x ≡ false = kept_line (λ o. writes_ref o x) n o at (c.variable n (omega arith) (omega arith)) in
        let before : IsCopy flat r x n = record {
          at = c.at;
          before = lt;
          copies = c.copies;
          other = c.other;
          piece = piece_less c.at n c.piece;
          register = keep_less (λ o. writes_ref o r) (c.at + 1) n c.register;
          variable = keep_less (λ o. writes_ref o x) c.at n c.variable;
        } in
        ap (λ b. cond b (copy_given o) (unless_written o (k.copy r))) w ∙ ap (unless_written o) (h.copies r x before) ∙ ap (λ b. cond b None (Some x)) v)
        (λ (e : n ≡ c.at).
        let is : o ≡ Op.Local r x = of_line (Op.Local r x) (ap L e ∙ c.copies) in
        let w : writes_ref o r ≡ true = ap (λ o. writes_ref o r) is ∙ eq_same r r refl in
        ap (λ b. cond b (copy_given o) (unless_written o (k.copy r))) w ∙ ap copy_given is ∙ ap (λ b. cond b None (Some x)) (eq_other r x c.other))
        (earlier c.at c.before)

    number_kept : (i v m : ℕ) → m < n → AllKeep flat (λ o. writes_int o i) (m + 1) (suc n) → k.number i ≡ Some v → (know_next o k).number i ≡ Some v
    number_kept i v m lt q e =
        let w : writes_int o i ≡ false = kept_line (λ o. writes_int o i) n o at (q n (omega arith) (omega arith)) in
        ap (λ b. cond b (number_given o (k.number i)) (k.number i)) w ∙ e

    number_new : (o2 : Op) → o ≡ o2 → (i v : ℕ) → writes_int o2 i ≡ true → number_given o2 (k.number i) ≡ Some v → (know_next o k).number i ≡ Some v
    number_new o2 is i v w g =
        ap (λ b. cond b (number_given o (k.number i)) (k.number i)) (ap (λ o. writes_int o i) is ∙ w) ∙ ap (λ o. number_given o (k.number i)) is ∙ g

    knows_number : (i v : ℕ) → IsNumber flat i v (suc n) → (know_next o k).number i ≡ Some v
    knows_number i v (constant _ _ _ m lt l f p q) = ⊎_elim
        (λ (before : m < n). number_kept i v m before q (h.numbers i v (constant i v n m before l f (piece_less m n p) (keep_less (λ o. writes_int o i) (m + 1) n q))))
        (λ (e : n ≡ m). number_new (Op.Constant i (pos v)) (of_line (Op.Constant i (pos v)) (ap L e ∙ l)) i v (eq_same i i refl) (few_same v f))
        (earlier m lt)
    knows_number i v (of_object _ _ _ m u r cells field spot lt l from f e p q) = ⊎_elim
        (λ (before : m < n). number_kept i v m before q (h.numbers i v (of_object i v n m u r cells field spot before l from f e (piece_less m n p) (keep_less (λ o. writes_int o i) (m + 1) n q))))
        (λ (z : n ≡ m). number_new (Op.Bounds i r cells field spot) (of_line (Op.Bounds i r cells field spot) (ap L z ∙ l)) i v (eq_same i i refl)
        (ap (with_element cells field) (h.numbers i u (subst (λ m. IsNumber flat i u m) (sym z) from)) ∙ element_same cells field u v f e))
        (earlier m lt)
    knows_number i v (of_global _ _ _ m u elements cells field spot lt l from f e p q) = ⊎_elim
        (λ (before : m < n). number_kept i v m before q (h.numbers i v (of_global i v n m u elements cells field spot before l from f e (piece_less m n p) (keep_less (λ o. writes_int o i) (m + 1) n q))))
        (λ (z : n ≡ m). number_new (Op.GlobalBounds i elements cells field spot) (of_line (Op.GlobalBounds i elements cells field spot) (ap L z ∙ l)) i v (eq_same i i refl)
        (ap (with_element cells field) (h.numbers i u (subst (λ m. IsNumber flat i u m) (sym z) from)) ∙ element_same cells field u v f e))
        (earlier m lt)

    -- an access at this line
    passes_here : (kind by : Kind) (place : SimplePlace) → IsSimple flat n by place → counts by kind ≡ true → passes_by (access o) k kind place ≡ true
    passes_here kind by place s c =
        let is : o ≡ s.o = of_line s.o s.line in
        let acc : access o ≡ Some s.a = ap access is ∙ s.accesses in
        let known_at : place_of k s.a.cell ≡ Some place = place_known n k h s.a.cell place s.at in
        ap (λ q. passes_by q k kind place) acc
        ∙ and_both (tells s.a.spot) (counts s.a.kind kind && is_at (place_of k s.a.cell) place) (tells_both s.a.spot s.mode s.simple)
        (and_both (counts s.a.kind kind) (is_at (place_of k s.a.cell) place) (ap (λ z. counts z kind) s.kind_is ∙ c) (ap (λ q. is_at q place) known_at ∙ place_same place))

    knows_passed : (kind : Kind) (place : SimplePlace) → IsChecked flat (suc n) kind place → (know_next o k).passed kind place ≡ true
    knows_passed kind place c =
        let stays : assigns o place ≡ false = kept_line (λ o. assigns o place) n o at (c.variable n (omega (arith, c.before)) (omega arith)) in
        and_both (k.passed kind place || passes_by (access o) k kind place) (not (assigns o place))
        (⊎_elim
        (λ (lt : c.at < n). or_left (k.passed kind place) (passes_by (access o) k kind place) (h.passed kind place (record {
          at = c.at;
          before = lt;
          by = c.by;
          checks = c.checks;
          enough = c.enough;
          piece = piece_less c.at n c.piece;
          variable = keep_less (λ o. assigns o place) c.at n c.variable;
        })))
        (λ (e : n ≡ c.at). or_right (k.passed kind place) (passes_by (access o) k kind place) (passes_here kind c.by place (subst (λ m. IsSimple flat m c.by place) (sym e) c.checks) c.enough))
        (earlier c.at c.before))
        (true_not (assigns o place) stays)

    knows_next : Knows (suc n) (know_next o k)
    knows_next = record { copies = knows_copy; numbers = knows_number; passed = knows_passed }

  -- what lies in a piece up to the next line
  next_of : (m n : ℕ) → m < suc n → IsPiece flat m (suc n) → Knows n (known flat n) → Knows (suc n) (known flat (suc n))
  next_of m n lt p h =
      let t = there n (p.straight n (omega arith) (omega arith)) in
      subst (Knows (suc n)) (sym (known_next n t.0 t.1 t.2 (p.no_target (suc n) lt (omega arith)))) (knows_next n t.0 t.1 (known flat n) h)

  pub knows : (n : ℕ) → Knows n (known flat n)
  knows zero = record { copies = λ r x c. absurd (omega (arith, c.before)); numbers = no_number; passed = λ kind place c. absurd (omega (arith, c.before)) }
    where
      no_number : (i v : ℕ) → IsNumber flat i v 0 → (known flat 0).number i ≡ Some v
      no_number i v (constant _ _ _ m lt l f p q) = absurd (omega arith)
      no_number i v (of_object _ _ _ m u r cells field spot lt l from f e p q) = absurd (omega arith)
      no_number i v (of_global _ _ _ m u elements cells field spot lt l from f e p q) = absurd (omega arith)
  knows (suc n) = record {
    copies = λ r x c. (next_of c.at n c.before c.piece (knows n)).copies r x c;
    numbers = λ i v c. by_number i v c (knows n);
    passed = λ kind place c. (next_of c.at n c.before c.piece (knows n)).passed kind place c;
  }
    where
      by_number : (i v : ℕ) (c : IsNumber flat i v (suc n)) → Knows n (known flat n) → (known flat (suc n)).number i ≡ Some v
      by_number i v (constant _ _ _ m lt l f p q) h = (next_of m n lt p h).numbers i v (constant i v (suc n) m lt l f p q)
      by_number i v (of_object _ _ _ m u r cells field spot lt l from f e p q) h = (next_of m n lt p h).numbers i v (of_object i v (suc n) m u r cells field spot lt l from f e p q)
      by_number i v (of_global _ _ _ m u elements cells field spot lt l from f e p q) h = (next_of m n lt p h).numbers i v (of_global i v (suc n) m u elements cells field spot lt l from f e p q)

  -- ---- the checks that are dropped
  repeated_by : (n : ℕ) (o : Op) (a : Access) → L n ≡ Some o → IsOfInteger (Some o) → access o ≡ Some a → (tells a.spot && has_passed (known flat n) a.kind (place_of (known flat n) a.cell)) ≡ true → IsRepeated flat n
  repeated_by n o a at int acc e = by (place_of (known flat n) a.cell) refl (and_right (tells a.spot) (has_passed (known flat n) a.kind (place_of (known flat n) a.cell)) e)
    where
      t : tells a.spot ≡ true
      t = and_left (tells a.spot) (has_passed (known flat n) a.kind (place_of (known flat n) a.cell)) e

      by : (q : Option SimplePlace) → place_of (known flat n) a.cell ≡ q → has_passed (known flat n) a.kind q ≡ true → IsRepeated flat n
      by None eq e = false_true e
      by (Some place) eq e = record {
        integer = subst IsOfInteger (sym at) int;
        kind = a.kind;
        place = place;
        simple = record {
          o = o;
          line = at;
          a = a;
          accesses = acc;
          kind_is = refl;
          mode = dynamic_is a.spot.mode (and_left (is_dynamic a.spot.mode) a.spot.is_simple t);
          simple = and_right (is_dynamic a.spot.mode) a.spot.is_simple t;
          at = place_true n (known flat n) (says n) a.cell place eq;
        };
        checked = (says n).passed a.kind place e;
      }

  pub repeated : (n : ℕ) → dropped flat n ≡ true → IsRepeated flat n
  repeated n e = by (L n) refl e
    where
      by : (l : Option Op) → L n ≡ l → drops_at (known flat n) l ≡ true → IsRepeated flat n
      by (Some (Op.Load i cell spot)) el e = repeated_by n (Op.Load i cell spot) record { kind = Read; cell = cell; spot = spot } el tt refl e
      by (Some (Op.Store i cell spot)) el e = repeated_by n (Op.Store i cell spot) record { kind = Write; cell = cell; spot = spot } el tt refl e
      by _ el e = false_true e

  drops_by : (n : ℕ) (o : Op) (a : Access) (kind : Kind) (place : SimplePlace) → L n ≡ Some o → access o ≡ Some a → (s : IsSimple flat n kind place) → IsChecked flat n kind place → (tells a.spot && has_passed (known flat n) a.kind (place_of (known flat n) a.cell)) ≡ true
  drops_by n o a kind place at acc s c =
      let is : o ≡ s.o = some_is o s.o (sym at ∙ s.line) in
      let same : s.a ≡ a = some_is s.a a (sym s.accesses ∙ sym (ap access is) ∙ acc) in
      let k = known flat n in
      subst (λ (a : Access). (tells a.spot && has_passed k a.kind (place_of k a.cell)) ≡ true) same
      (and_both (tells s.a.spot) (has_passed k s.a.kind (place_of k s.a.cell)) (tells_both s.a.spot s.mode s.simple)
      (ap (has_passed k s.a.kind) (place_known n k (knows n) s.a.cell place s.at) ∙ ap (λ z. k.passed z place) s.kind_is ∙ (knows n).passed kind place c))

  pub drops_it : (n : ℕ) → IsRepeated flat n → dropped flat n ≡ true
  drops_it n r = by (L n) refl r.integer
    where
      by : (l : Option Op) → L n ≡ l → IsOfInteger l → drops_at (known flat n) l ≡ true
      by (Some (Op.Load i cell spot)) el int = drops_by n (Op.Load i cell spot) record { kind = Read; cell = cell; spot = spot } r.kind r.place el refl r.simple r.checked
      by (Some (Op.Store i cell spot)) el int = drops_by n (Op.Store i cell spot) record { kind = Write; cell = cell; spot = spot } r.kind r.place el refl r.simple r.checked
      by _ el i = absurd i

  -- ---- the check that is repeated
  piece_join : (l m n : ℕ) → l ≤ m → m ≤ n → IsPiece flat l m → IsPiece flat m n → IsPiece flat l n
  piece_join l m n le1 le2 p q = record {
    straight = λ j a b. ⊎_elim (λ (lt : j < m). p.straight j a lt) (λ (le : m ≤ j). q.straight j le b) (cases_lt j m);
    no_target = λ j a b. ⊎_elim (λ (lt : m < j). q.no_target j lt b) (λ (le : j ≤ m). p.no_target j a le) (cases_lt m j);
  }

  keep_join : (c : Op → Bool) (l m n : ℕ) → AllKeep flat c l m → AllKeep flat c m n → AllKeep flat c l n
  keep_join c l m n p q = λ j a b. ⊎_elim (λ (lt : j < m). p j a lt) (λ (le : m ≤ j). q j le b) (cases_lt j m)

  -- a simple access has one place and one kind
  one_place : (n : ℕ) (kind kind2 : Kind) (place place2 : SimplePlace) → IsSimple flat n kind place → IsSimple flat n kind2 place2 → (kind2 ≡ kind) × (place2 ≡ place)
  one_place n kind kind2 place place2 s s2 =
      let k = known flat n in
      let is : s.o ≡ s2.o = some_is s.o s2.o (sym s.line ∙ s2.line) in
      let same : s.a ≡ s2.a = some_is s.a s2.a (sym s.accesses ∙ ap access is ∙ s2.accesses) in (
        sym s2.kind_is ∙ ap (λ (a : Access). a.kind) (sym same) ∙ s.kind_is,
        some_is place2 place (sym (place_known n k (knows n) s2.a.cell place2 s2.at) ∙ ap (λ (a : Access). place_of k a.cell) (sym same) ∙ place_known n k (knows n) s.a.cell place s.at),
      )

  stands_below : (fuel n : ℕ) (kind : Kind) (place : SimplePlace) → (c : IsChecked flat n kind place) → c.at < fuel → ItsCheckStands flat n kind place
  stands_below zero n kind place c lt = absurd (omega arith)
  stands_below (suc fuel) n kind place c lt = by (dropped flat c.at) refl (λ c2 lt2. stands_below fuel c.at c.by place c2 lt2)
    where
      by : (b : Bool) → dropped flat c.at ≡ b → ((c2 : IsChecked flat c.at c.by place) → c2.at < fuel → ItsCheckStands flat c.at c.by place) → ItsCheckStands flat n kind place
      by false e rec = record { checked = c; stands = e }
      by true e rec =
          let r = repeated c.at e in
          let o = one_place c.at c.by r.kind place r.place c.checks r.simple in
          let c2 : IsChecked flat c.at c.by place = subst (λ k. IsChecked flat c.at k place) o.0 (subst (IsChecked flat c.at r.kind) o.1 r.checked) in
          let h = rec c2 (let q = c2.before in omega arith) in
          let d = h.checked in
          let b1 = d.before in
          let b2 = c.before in
          record {
            checked = record {
              at = d.at;
              before = omega arith;
              by = d.by;
              checks = d.checks;
              enough = counts_more d.by c.by kind d.enough c.enough;
              piece = piece_join d.at c.at n (omega arith) (omega arith) d.piece c.piece;
              variable = keep_join (λ o. assigns o place) d.at c.at n d.variable c.variable;
            };
            stands = h.stands;
          }

pub drops_repeated : DropsRepeated
drops_repeated flat n = (repeated flat n, drops_it flat n)

pub check_stands : RepeatedCheckStands
check_stands flat n kind place c = stands_below flat (suc c.at) n kind place c (omega arith)
