-- The notes of the pass say what is known.
use Rattle.sharc_guard.proofs.{Imports.{fun_ext, ◌≡◌, ◌≢◌, ℕ, ◌+◌, ◌<◌, ◌≤◌, Bool, true, false, not, ◌&&◌, ◌||◌, Option, Some, None, refl, sym, ap, ◌∙◌, arith, cond, nat_lt, nat_tests, ◌==◌, nat_le, Kind, Read, Write, Op, Copied, KnownNumber, PassedCheck, Copying, writes_ref, writes_int, SimplePlace, in_variable, in_global, same_place, assigns, counts, Access, access, tells, Know, nothing, number_given, copy_given, unless_written, with_element, place_of, is_at, passes_by, know_next, copy_of, number_of_line, Notes, or_never, copy_by, number_by, passed_by, passed_at, know_of, with_written, with_copy, with_number, stronger, with_place, with_access, CopyBefore, NumberBefore, PassedBefore, AreBefore, or_false, and_false, and_true, and_left, and_right, some_is, eqb_other as eq_other, lt_true, eq_true, le_true}, Repeating.{eq_same, true_false}}
use Rattle.sharc_guard.specs.Marked.{access_of}

-- ---- tests
lt_false : (a b : ℕ) → b ≤ a → nat_lt a b ≡ false
lt_false a b le = grind (arith, nat_tests)

le_false : (a b : ℕ) → b < a → nat_le a b ≡ false
le_false a b lt = grind (arith, nat_tests)

pub turned : (a b : ℕ) → (a == b) ≡ (b == a)
turned a b = by (a == b) (b == a) refl refl
  where
    by : (x y : Bool) → (a == b) ≡ x → (b == a) ≡ y → x ≡ y
    by true true p q = refl
    by false false p q = refl
    by true false p q = sym (eq_same b a (sym (eq_true a b p))) ∙ q
    by false true p q = sym p ∙ eq_same a b (sym (eq_true b a q))

same_turned : (p q : SimplePlace) → same_place p q ≡ same_place q p
same_turned (in_variable x n) (in_variable y j) = ap (λ z. z && n == j) (turned x y) ∙ ap (λ z. y == x && z) (turned n j)
same_turned (in_global x n) (in_global y j) = ap (λ z. z && n == j) (turned x y) ∙ ap (λ z. y == x && z) (turned n j)
same_turned (in_variable x n) (in_global y j) = refl
same_turned (in_global x n) (in_variable y j) = refl

-- all but the checks of this time were noted before it
pub record AreUpTo (t : ℕ) (s : Notes) : Type 0 where
  pub floor : s.floor < t
  pub written : (k : ℕ) → or_never (s.written k) < t
  pub copies : (k : ℕ) → CopyBefore t (s.copies k)
  pub numbers : (k : ℕ) → NumberBefore t (s.numbers k)
  pub in_variables : (x n : ℕ) → PassedBefore (t + 1) (s.in_variables x n)
  pub in_globals : (g n : ℕ) → PassedBefore (t + 1) (s.in_globals g n)

passed_later : (t : ℕ) (q : Option PassedCheck) → PassedBefore t q → PassedBefore (t + 1) q
passed_later t None h = tt
passed_later t (Some p) h = omega arith

copy_later : (t : ℕ) (q : Option Copied) → CopyBefore t q → CopyBefore (t + 1) q
copy_later t None h = tt
copy_later t (Some c) h = omega arith

number_later : (t : ℕ) (q : Option KnownNumber) → NumberBefore t q → NumberBefore (t + 1) q
number_later t None h = tt
number_later t (Some n) h = omega arith

-- ---- what an operation writes
module _ (o : Op) (t : ℕ) (a : Notes) (b : AreUpTo t a) where
  abbrev last : ℕ → Option ℕ
  last k = cond (writes_ref o k) (Some t) (a.written k)

  last_true : (k : ℕ) → writes_ref o k ≡ true → or_never (last k) ≡ t
  last_true k w = ap (λ z. or_never (cond z (Some t) (a.written k))) w

  last_false : (k : ℕ) → writes_ref o k ≡ false → or_never (last k) ≡ or_never (a.written k)
  last_false k w = ap (λ z. or_never (cond z (Some t) (a.written k))) w

  passed_void : (kind : Kind) (q : Option PassedCheck) → PassedBefore (t + 1) q → passed_by a.floor t kind q ≡ false
  passed_void kind None h = refl
  passed_void kind (Some p) h = ap (λ z. nat_lt a.floor p.made && (z && counts p.kind kind)) (lt_false t p.made (omega arith)) ∙ and_false (nat_lt a.floor p.made)

  passed_kept : (kind : Kind) (x : ℕ) (q : Option PassedCheck) → PassedBefore (t + 1) q → passed_by a.floor (or_never (last x)) kind q ≡ (passed_by a.floor (or_never (a.written x)) kind q && not (writes_ref o x))
  passed_kept kind x q h = by (writes_ref o x) refl
    where
      by : (z : Bool) → writes_ref o x ≡ z → passed_by a.floor (or_never (last x)) kind q ≡ (passed_by a.floor (or_never (a.written x)) kind q && not z)
      by true w = ap (λ n. passed_by a.floor n kind q) (last_true x w) ∙ passed_void kind q h ∙ sym (and_false (passed_by a.floor (or_never (a.written x)) kind q))
      by false w = ap (λ n. passed_by a.floor n kind q) (last_false x w) ∙ sym (and_true (passed_by a.floor (or_never (a.written x)) kind q))

  number_now : (v : Option ℕ) (i : ℕ) → number_by a.floor (cond (writes_int o i) (Some record { number = v; made = t }) (a.numbers i)) ≡ cond (writes_int o i) v (number_by a.floor (a.numbers i))
  number_now v i = by (writes_int o i)
    where
      by : (z : Bool) → number_by a.floor (cond z (Some record { number = v; made = t }) (a.numbers i)) ≡ cond z v (number_by a.floor (a.numbers i))
      by true = ap (λ z. cond z v None) (lt_true a.floor t b.floor)
      by false = refl

  -- a copy that was made before
  copy_old : (r : ℕ) (q : Option Copied) → CopyBefore t q → copy_by a.floor last (or_never (last r)) q ≡ cond (writes_ref o r) None (unless_written o (copy_by a.floor a.written (or_never (a.written r)) q))
  copy_old r None h = by (writes_ref o r)
    where
      by : (z : Bool) → None ≡ cond z None (unless_written o None)
      by true = refl
      by false = refl
  copy_old r (Some c) h = by (writes_ref o r) refl
    where
      test : ℕ → ℕ → Bool
      test n m = nat_lt a.floor c.made && (nat_le n c.made && nat_lt m c.made)

      unless : (z y : Bool) → writes_ref o c.variable ≡ z → (z ≡ true → y ≡ false) → (z ≡ false → y ≡ test (or_never (a.written r)) (or_never (a.written c.variable))) → cond y (Some c.variable) None ≡ unless_written o (cond (test (or_never (a.written r)) (or_never (a.written c.variable))) (Some c.variable) None)
      unless true y w e1 e2 = ap (λ q. cond q (Some c.variable) None) (e1 refl) ∙ sym (gone (test (or_never (a.written r)) (or_never (a.written c.variable))))
        where
          gone : (q : Bool) → unless_written o (cond q (Some c.variable) None) ≡ None
          gone true = ap (λ z. cond z None (Some c.variable)) w
          gone false = refl
      unless false y w e1 e2 = ap (λ q. cond q (Some c.variable) None) (e2 refl) ∙ sym (stays (test (or_never (a.written r)) (or_never (a.written c.variable))))
        where
          stays : (q : Bool) → unless_written o (cond q (Some c.variable) None) ≡ cond q (Some c.variable) None
          stays true = ap (λ z. cond z None (Some c.variable)) w
          stays false = refl

      by : (z : Bool) → writes_ref o r ≡ z → cond (test (or_never (last r)) (or_never (last c.variable))) (Some c.variable) None ≡ cond z None (unless_written o (cond (test (or_never (a.written r)) (or_never (a.written c.variable))) (Some c.variable) None))
      by true w =
          let e : nat_le (or_never (last r)) c.made ≡ false = ap (λ n. nat_le n c.made) (last_true r w) ∙ le_false t c.made h in
          ap (λ z. cond (nat_lt a.floor c.made && (z && nat_lt (or_never (last c.variable)) c.made)) (Some c.variable) None) e ∙ ap (λ z. cond z (Some c.variable) None) (and_false (nat_lt a.floor c.made))
      by false w = unless (writes_ref o c.variable) (test (or_never (last r)) (or_never (last c.variable))) refl
          (λ v.
          let e : nat_lt (or_never (last c.variable)) c.made ≡ false = ap (λ n. nat_lt n c.made) (last_true c.variable v) ∙ lt_false t c.made (omega arith) in
          ap (λ z. nat_lt a.floor c.made && (nat_le (or_never (last r)) c.made && z)) e ∙ ap (λ z. nat_lt a.floor c.made && z) (and_false (nat_le (or_never (last r)) c.made)) ∙ and_false (nat_lt a.floor c.made))
          (λ v. ap (λ n. test n (or_never (last c.variable))) (last_false r w) ∙ ap (λ m. test (or_never (a.written r)) m) (last_false c.variable v))

  -- the copy that is made now
  copy_new : (c : Copying) → writes_ref o c.variable ≡ false → copy_by a.floor last t (Some record { variable = c.variable; made = t }) ≡ Some c.variable
  copy_new c w =
      ap (λ z. cond (z && (nat_le t t && nat_lt (or_never (last c.variable)) t)) (Some c.variable) None) (lt_true a.floor t b.floor)
      ∙ ap (λ z. cond (z && nat_lt (or_never (last c.variable)) t) (Some c.variable) None) (le_true t t (omega arith))
      ∙ ap (λ n. cond (nat_lt n t) (Some c.variable) None) (last_false c.variable w) ∙ ap (λ z. cond z (Some c.variable) None) (lt_true (or_never (a.written c.variable)) t (b.written c.variable))

  copy_now : (r : ℕ) (q : Option Copying) → copy_of o ≡ q → copy_by a.floor last (or_never (last r)) ((with_copy q t a).copies r) ≡ cond (writes_ref o r) (copy_given o) (unless_written o (copy_by a.floor a.written (or_never (a.written r)) (a.copies r)))
  copy_now r None e = copy_old r (a.copies r) (b.copies r) ∙ ap (λ z. cond (writes_ref o r) z (unless_written o (copy_by a.floor a.written (or_never (a.written r)) (a.copies r)))) (sym (no_copy o e))
    where
      no_copy : (o : Op) → copy_of o ≡ None → copy_given o ≡ None
      no_copy (Op.Local d y) e = by (d == y) e
        where
          by : (z : Bool) → cond {A = Option Copying} z None (Some record { register = d; variable = y }) ≡ None → cond z None (Some y) ≡ None
          by true e = refl
          by false e = absurd (cc)
      no_copy _ e = refl
  copy_now r (Some c) e = at_register (r == c.register) refl
    where
      made : (o ≡ Op.Local c.register c.variable) × (c.register ≢ c.variable)
      made = copying o c e
        where
          copying : (o : Op) (c : Copying) → copy_of o ≡ Some c → (o ≡ Op.Local c.register c.variable) × (c.register ≢ c.variable)
          copying (Op.Local d y) c e = by (d == y) refl e
            where
              by : (z : Bool) → (d == y) ≡ z → cond {A = Option Copying} z None (Some record { register = d; variable = y }) ≡ Some c → (Op.Local d y ≡ Op.Local c.register c.variable) × (c.register ≢ c.variable)
              by true z e = absurd (cc)
              by false z e =
                  let same : record { register = d; variable = y } ≡ c = some_is record { register = d; variable = y } c e in
                  let er : d ≡ c.register = ap (λ (c : Copying). c.register) same in
                  let ev : y ≡ c.variable = ap (λ (c : Copying). c.variable) same in
                  (ap (λ d. Op.Local d y) er ∙ ap (Op.Local c.register) ev, λ q. true_false (sym (eq_same d y (er ∙ q ∙ sym ev)) ∙ z))
          copying _ c e = absurd (cc)

      variable_kept : writes_ref o c.variable ≡ false
      variable_kept = ap (λ o. writes_ref o c.variable) made.0 ∙ eq_other c.variable c.register (λ q. made.1 (sym q))

      given : copy_given o ≡ Some c.variable
      given = ap copy_given made.0 ∙ ap (λ z. cond z None (Some c.variable)) (eq_other c.register c.variable made.1)

      at_register : (z : Bool) → (r == c.register) ≡ z → copy_by a.floor last (or_never (last r)) (cond z (Some record { variable = c.variable; made = t }) (a.copies r)) ≡ cond (writes_ref o r) (copy_given o) (unless_written o (copy_by a.floor a.written (or_never (a.written r)) (a.copies r)))
      at_register true z =
          let w : writes_ref o r ≡ true = ap (λ o. writes_ref o r) made.0 ∙ z in
          ap (λ n. copy_by a.floor last n (Some record { variable = c.variable; made = t })) (last_true r w) ∙ copy_new c variable_kept ∙ sym given
          ∙ sym (ap (λ y. cond y (copy_given o) (unless_written o (copy_by a.floor a.written (or_never (a.written r)) (a.copies r)))) w)
      at_register false z =
          let w : writes_ref o r ≡ false = ap (λ o. writes_ref o r) made.0 ∙ z in
          copy_old r (a.copies r) (b.copies r) ∙ ap (λ y. cond y None (unless_written o (copy_by a.floor a.written (or_never (a.written r)) (a.copies r)))) w
          ∙ sym (ap (λ y. cond y (copy_given o) (unless_written o (copy_by a.floor a.written (or_never (a.written r)) (a.copies r)))) w)

  -- all that it writes, and its copy and number
  all_now : (v : Option ℕ) (q : Option Copying) → copy_of o ≡ q → know_of (with_number (writes_int o) v t (with_copy q t (with_written (writes_ref o) t a))) ≡ record {
    copy = λ r. cond (writes_ref o r) (copy_given o) (unless_written o ((know_of a).copy r));
    number = λ i. cond (writes_int o i) v ((know_of a).number i);
    passed = λ kind place. (know_of a).passed kind place && not (assigns o place);
  }
  all_now v None e = λ i. record {
    copy = fun_ext (λ r. copy_now r None e) i;
    number = fun_ext (number_now v) i;
    passed = fun_ext (λ kind. fun_ext (passed_now kind)) i;
  }
    where
      passed_now : (kind : Kind) (place : SimplePlace) → passed_at (with_number (writes_int o) v t (with_written (writes_ref o) t a)) kind place ≡ (passed_at a kind place && not (assigns o place))
      passed_now kind (in_variable x n) = passed_kept kind x (a.in_variables x n) (b.in_variables x n)
      passed_now kind (in_global g n) = sym (and_true (passed_by a.floor 0 kind (a.in_globals g n)))
  all_now v (Some c) e = λ i. record {
    copy = fun_ext (λ r. copy_now r (Some c) e) i;
    number = fun_ext (number_now v) i;
    passed = fun_ext (λ kind. fun_ext (passed_now kind)) i;
  }
    where
      passed_now : (kind : Kind) (place : SimplePlace) → passed_at (with_number (writes_int o) v t (with_copy (Some c) t (with_written (writes_ref o) t a))) kind place ≡ (passed_at a kind place && not (assigns o place))
      passed_now kind (in_variable x n) = passed_kept kind x (a.in_variables x n) (b.in_variables x n)
      passed_now kind (in_global g n) = sym (and_true (passed_by a.floor 0 kind (a.in_globals g n)))

  -- and they are notes of this time or before
  written_before_next : (registers ints : ℕ → Bool) (v : Option ℕ) → AreBefore (t + 1) (with_number ints v t (with_written registers t a))
  written_before_next registers ints v = record {
    floor = let h = b.floor in omega arith;
    written = written_before;
    copies = λ k. copy_later t (a.copies k) (b.copies k);
    numbers = numbers_before;
    in_variables = b.in_variables;
    in_globals = b.in_globals;
  }
    where
      written_before : (k : ℕ) → or_never (cond (registers k) (Some t) (a.written k)) < t + 1
      written_before k = by (registers k)
        where
          by : (z : Bool) → or_never (cond z (Some t) (a.written k)) < t + 1
          by true = omega arith
          by false = let h = b.written k in omega arith

      numbers_before : (k : ℕ) → NumberBefore (t + 1) (cond (ints k) (Some record { number = v; made = t }) (a.numbers k))
      numbers_before k = by (ints k)
        where
          by : (z : Bool) → NumberBefore (t + 1) (cond z (Some record { number = v; made = t }) (a.numbers k))
          by true = omega arith
          by false = number_later t (a.numbers k) (b.numbers k)

  all_before : (registers ints : ℕ → Bool) (v : Option ℕ) (q : Option Copying) → AreBefore (t + 1) (with_number ints v t (with_copy q t (with_written registers t a)))
  all_before registers ints v None = written_before_next registers ints v
  all_before registers ints v (Some c) =
      let h = written_before_next registers ints v in
      record { floor = h.floor; written = h.written; copies = copies_before; numbers = h.numbers; in_variables = h.in_variables; in_globals = h.in_globals }
    where
      copies_before : (k : ℕ) → CopyBefore (t + 1) (cond (k == c.register) (Some record { variable = c.variable; made = t }) (a.copies k))
      copies_before k = by (k == c.register)
        where
          by : (z : Bool) → CopyBefore (t + 1) (cond z (Some record { variable = c.variable; made = t }) (a.copies k))
          by true = omega arith
          by false = copy_later t (a.copies k) (b.copies k)

-- ---- what an access checks
-- a check that is noted anew counts for what it or the older one counts for
counted : (floor last : ℕ) (q : Option PassedCheck) (kind other : Kind) → counts (stronger (passed_by floor last Write q) kind) other ≡ (passed_by floor last other q || (counts kind other && true))
counted floor last None kind other = sym (and_true (counts kind other))
counted floor last (Some p) kind other = by (nat_lt floor p.made) (nat_lt last p.made) p.kind
  where
    reads : (kind other : Kind) → counts kind other ≡ (counts Read other || (counts kind other && true))
    reads Write Read = refl
    reads Write Write = refl
    reads Read Read = refl
    reads Read Write = refl

    by : (x y : Bool) (pk : Kind) → counts (stronger (x && (y && counts pk Write)) kind) other ≡ ((x && (y && counts pk other)) || (counts kind other && true))
    by true true Write = refl
    by true true Read = reads kind other
    by true false pk = sym (and_true (counts kind other))
    by false y pk = sym (and_true (counts kind other))

module _ (t : ℕ) (s : Notes) (b : AreBefore t s) where
  abbrev k : Know
  k = know_of s

  -- a note of a check, with the older one of its place, where the place is this
  noted_if : (last : ℕ) → last < t → (q : Option PassedCheck) (older : Bool) (kind other : Kind) (here : Bool) → (here ≡ true → older ≡ passed_by s.floor last Write q)
      → passed_by s.floor last other (cond here (Some record { kind = stronger older kind; made = t }) q) ≡ (passed_by s.floor last other q || (counts kind other && here))
  noted_if last lt q older kind other true e =
      ap (λ z. z && (nat_lt last t && counts (stronger older kind) other)) (lt_true s.floor t b.floor) ∙ ap (λ z. z && counts (stronger older kind) other) (lt_true last t lt)
      ∙ ap (λ z. counts (stronger z kind) other) (e refl) ∙ counted s.floor last q kind other
  noted_if last lt q older kind other false e = sym (ap (λ z. passed_by s.floor last other q || z) (and_false (counts kind other)) ∙ or_false (passed_by s.floor last other q))

  placed : (kind : Kind) (p : SimplePlace) (other : Kind) (place : SimplePlace) → passed_at (with_place kind (Some p) t s) other place ≡ (passed_at s other place || (counts kind other && same_place p place))
  placed kind (in_variable x n) other (in_variable y j) = noted_if (or_never (s.written y)) (b.written y) (s.in_variables y j) (passed_at s Write (in_variable x n)) kind other (x == y && n == j)
      (λ h. ap (λ x. passed_at s Write (in_variable x n)) (eq_true x y (and_left (x == y) (n == j) h)) ∙ ap (λ n. passed_at s Write (in_variable y n)) (eq_true n j (and_right (x == y) (n == j) h)))
  placed kind (in_global x n) other (in_global y j) = noted_if 0 (let f = b.floor in omega arith) (s.in_globals y j) (passed_at s Write (in_global x n)) kind other (x == y && n == j)
      (λ h. ap (λ x. passed_at s Write (in_global x n)) (eq_true x y (and_left (x == y) (n == j) h)) ∙ ap (λ n. passed_at s Write (in_global y n)) (eq_true n j (and_right (x == y) (n == j) h)))
  placed kind (in_variable x n) other (in_global y j) = noted_if 0 (let f = b.floor in omega arith) (s.in_globals y j) false kind other false (λ h. absurd (cc))
  placed kind (in_global x n) other (in_variable y j) = noted_if (or_never (s.written y)) (b.written y) (s.in_variables y j) false kind other false (λ h. absurd (cc))

  -- what an access leaves
  pub record Noted (q : Option Access) (a : Notes) : Type 0 where
    pub copies : (know_of a).copy ≡ k.copy
    pub numbers : (know_of a).number ≡ k.number
    pub passed : (kind : Kind) (place : SimplePlace) → (know_of a).passed kind place ≡ (k.passed kind place || passes_by q k kind place)
    pub before : AreUpTo t a

  up_to : AreUpTo t s
  up_to = record {
    floor = b.floor;
    written = b.written;
    copies = b.copies;
    numbers = b.numbers;
    in_variables = λ x n. passed_later t (s.in_variables x n) (b.in_variables x n);
    in_globals = λ g n. passed_later t (s.in_globals g n) (b.in_globals g n);
  }

  unchanged : (q : Option Access) → ((kind : Kind) (place : SimplePlace) → passes_by q k kind place ≡ false) → Noted q s
  unchanged q h = record {
    copies = refl;
    numbers = refl;
    passed = λ kind place. sym (ap (λ z. k.passed kind place || z) (h kind place) ∙ or_false (k.passed kind place));
    before = up_to;
  }

  passes_at : (a : Access) (p : SimplePlace) → tells a.spot ≡ true → place_of k a.cell ≡ Some p → (kind : Kind) (place : SimplePlace) → (passed_at s kind place || (counts a.kind kind && same_place p place)) ≡ (k.passed kind place || passes_by (Some a) k kind place)
  passes_at a p et e kind place = ap (λ z. passed_at s kind place || (counts a.kind kind && z)) (same_turned p place)
      ∙ sym (ap (λ z. passed_at s kind place || (z && (counts a.kind kind && is_at (place_of k a.cell) place))) et ∙ ap (λ q. passed_at s kind place || (counts a.kind kind && is_at q place)) e)

  now_or_before : (here : Bool) (kind : Kind) (q : Option PassedCheck) → PassedBefore (t + 1) q → PassedBefore (t + 1) (cond here (Some record { kind = kind; made = t }) q)
  now_or_before true kind q h = omega arith
  now_or_before false kind q h = h

  at_place : (a : Access) (p : SimplePlace) → tells a.spot ≡ true → place_of k a.cell ≡ Some p → Noted (Some a) (with_place a.kind (Some p) t s)
  at_place a (in_variable x n) et e = record {
    copies = refl;
    numbers = refl;
    passed = λ kind place. placed a.kind (in_variable x n) kind place ∙ passes_at a (in_variable x n) et e kind place;
    before = record { floor = b.floor; written = b.written; copies = b.copies; numbers = b.numbers; in_globals = up_to.in_globals; in_variables = λ y j. now_or_before (x == y && n == j) (stronger (passed_at s Write (in_variable x n)) a.kind) (s.in_variables y j) (up_to.in_variables y j) };
  }
  at_place a (in_global x n) et e = record {
    copies = refl;
    numbers = refl;
    passed = λ kind place. placed a.kind (in_global x n) kind place ∙ passes_at a (in_global x n) et e kind place;
    before = record { floor = b.floor; written = b.written; copies = b.copies; numbers = b.numbers; in_variables = up_to.in_variables; in_globals = λ y j. now_or_before (x == y && n == j) (stronger (passed_at s Write (in_global x n)) a.kind) (s.in_globals y j) (up_to.in_globals y j) };
  }

  noted : (q : Option Access) → Noted q (with_access (access_of q) t s)
  noted None = unchanged None (λ kind place. refl)
  noted (Some a) = by (tells a.spot) refl
    where
      by : (z : Bool) → tells a.spot ≡ z → Noted (Some a) (cond z (with_place a.kind (place_of k a.cell) t s) s)
      by false ez = unchanged (Some a) (λ kind place. ap (λ z. z && (counts a.kind kind && is_at (place_of k a.cell) place)) ez)
      by true ez = in_place (place_of k a.cell) refl
        where
          in_place : (q : Option SimplePlace) → place_of k a.cell ≡ q → Noted (Some a) (with_place a.kind q t s)
          in_place None e = unchanged (Some a) (λ kind place. ap (λ q. tells a.spot && (counts a.kind kind && is_at q place)) e ∙ ap (λ z. tells a.spot && z) (and_false (counts a.kind kind)) ∙ and_false (tells a.spot))
          in_place (Some p) e = at_place a p ez e

  number_same : (o : Op) (i : ℕ) → writes_int o i ≡ true → number_of_line o k ≡ number_given o (k.number i)
  number_same (Op.Bounds j r cells field spot) i w = ap (λ j. with_element cells field (k.number j)) (sym (eq_true i j w))
  number_same (Op.GlobalBounds j elements cells field spot) i w = ap (λ j. with_element cells field (k.number j)) (sym (eq_true i j w))
  number_same _ i w = refl

  -- after an operation of a straight piece
  pub known_after : (o : Op) → know_of (with_number (writes_int o) (number_of_line o k) t (with_copy (copy_of o) t (with_written (writes_ref o) t (with_access (access_of (access o)) t s)))) ≡ know_next o k
  known_after o =
      let a = with_access (access_of (access o)) t s in
      let n = noted (access o) in
      all_now o t a n.before (number_of_line o k) (copy_of o) refl ∙ (λ i. record {
        copy = fun_ext (λ r. ap (λ (f : ℕ → Option ℕ). cond (writes_ref o r) (copy_given o) (unless_written o (f r))) n.copies) i;
        number = fun_ext (λ j. number_at j) i;
        passed = fun_ext (λ kind. fun_ext (λ place. ap (λ z. z && not (assigns o place)) (n.passed kind place))) i;
      })
    where
      number_at : (j : ℕ) → cond (writes_int o j) (number_of_line o k) ((know_of (with_access (access_of (access o)) t s)).number j) ≡ cond (writes_int o j) (number_given o (k.number j)) (k.number j)
      number_at j = by (writes_int o j) refl
        where
          by : (z : Bool) → writes_int o j ≡ z → cond z (number_of_line o k) ((know_of (with_access (access_of (access o)) t s)).number j) ≡ cond z (number_given o (k.number j)) (k.number j)
          by true w = number_same o j w
          by false w = ap (λ (f : ℕ → Option ℕ). f j) (noted (access o)).numbers

  pub noted_before : (o : Op) (registers ints : ℕ → Bool) (v : Option ℕ) (q : Option Copying) → AreBefore (t + 1) (with_number ints v t (with_copy q t (with_written registers t (with_access (access_of (access o)) t s))))
  noted_before o registers ints v q = all_before o t (with_access (access_of (access o)) t s) (noted (access o)).before registers ints v q

  -- where a piece ends, all is void
  pub ended : know_of (record s { floor = t }) ≡ nothing
  ended = λ i. record { copy = fun_ext copies i; number = fun_ext numbers i; passed = fun_ext (λ kind. fun_ext (passes kind)) i }
    where
      copies : (r : ℕ) → copy_by t s.written (or_never (s.written r)) (s.copies r) ≡ None
      copies r = by (s.copies r) (b.copies r)
        where
          by : (q : Option Copied) → CopyBefore t q → copy_by t s.written (or_never (s.written r)) q ≡ None
          by None h = refl
          by (Some c) h = ap (λ z. cond (z && (nat_le (or_never (s.written r)) c.made && nat_lt (or_never (s.written c.variable)) c.made)) (Some c.variable) None) (lt_false t c.made (omega arith))

      numbers : (i : ℕ) → number_by t (s.numbers i) ≡ None
      numbers i = by (s.numbers i) (b.numbers i)
        where
          by : (q : Option KnownNumber) → NumberBefore t q → number_by t q ≡ None
          by None h = refl
          by (Some n) h = ap (λ z. cond z n.number None) (lt_false t n.made (omega arith))

      void : (last : ℕ) (kind : Kind) (q : Option PassedCheck) → PassedBefore t q → passed_by t last kind q ≡ false
      void last kind None h = refl
      void last kind (Some p) h = ap (λ z. z && (nat_lt last p.made && counts p.kind kind)) (lt_false t p.made (omega arith))

      passes : (kind : Kind) (place : SimplePlace) → passed_at (record s { floor = t }) kind place ≡ false
      passes kind (in_variable x n) = void (or_never (s.written x)) kind (s.in_variables x n) (b.in_variables x n)
      passes kind (in_global g n) = void 0 kind (s.in_globals g n) (b.in_globals g n)

  pub ended_before : AreBefore (t + 1) (record s { floor = t })
  ended_before = record {
    floor = omega arith;
    written = λ k. let h = b.written k in omega arith;
    copies = λ k. copy_later t (s.copies k) (b.copies k);
    numbers = λ k. number_later t (s.numbers k) (b.numbers k);
    in_variables = λ x n. passed_later t (s.in_variables x n) (b.in_variables x n);
    in_globals = λ g n. passed_later t (s.in_globals g n) (b.in_globals g n);
  }
