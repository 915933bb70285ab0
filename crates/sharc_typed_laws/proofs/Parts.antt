-- The parts of the code of an expression that speak of no type of the source: tests, operators, what is given up, and the checks of places.
use Rattle.sharc_typed_laws.proofs.{Imports.{◌≡◌, ◌≢◌, ℕ, ◌+◌, ◌<◌, ◌≤◌, ◌⊎◌, Bool, true, false, List, [], ◌∷◌, ◌++◌, length, Some, refl, sym, ap, ◌∙◌, subst, inl, inr, ⊎_elim, arith, length-append, append_assoc, ℤ, false≢true, cases_eq, cases_lt, nat_eq, Site, BinaryOperator, NotEqual, Operator, Width, Char, put, put_same, put_other, put_all, Op, Spot, IsWide, OpWrites, at_site, pointee_code, differ_code, compare_code, logical_code, either_code, Know, know_next, writes_ref, writes_int, number_given, StaticType, Mentions, Entry, Empty, Refers, Number, Anything, Exactly, Within, OfElement, OfGlobal, Nth, Gate, Closed, Label, Less, LessNumber, HasBase, EntryMentions, IsScoped, IsFree, set_number, fill, knows, is_shift, is_comparison, ints_in, refs_in, less_refl, less_entry_refl, less_number_refl, scoped_fill, IsNumberOf, Mark, Setting, Tells, Fits, IsLine, AreWithin, LeadsWithin, RegistersStand, IsNamed, mark, none_some}, Fitting.{fits_same, fits_by}, Standing.{less_by, scoped_frame, unnamed, stands_number, less_number, stands_fill, less_emptied, less_lower}, Telling.{told, other_than, same_as, constant_number}, Rules.{Plain, on_enter, on_constant, on_compute, on_negate, on_complement, on_false, on_same, on_width, on_positive, on_print, on_join, on_nothing, on_pop, on_check}, Closing.within_left, Marked.marked}
use Rattle.sharc_flat_lemmas.proofs.Flow as flow

-- ---- operations within a frame
pub within_right : (ints refs : ℕ) (xs ys : List Op) → AreWithin ints refs (xs ++ ys) → AreWithin ints refs ys
within_right ints refs [] ys w = w
within_right ints refs (o ∷ xs) ys w = within_right ints refs xs ys w.1

-- ---- what is remembered where an operation writes no register, or this integer register, whose number is not remembered
pub told_same : (o : Op) → ((r : ℕ) → writes_ref o r ≡ false) → ((i : ℕ) → writes_int o i ≡ false) → (around : Setting) (k : Know) (s e : Mark) → ((r : ℕ) → e.label.same r ≡ s.label.same r) → s.from ≤ e.from → e.until ≤ s.until
    → ((i n : ℕ) → e.from ≤ i → i < e.until → IsNumberOf around.targets s.label n (s.label.ints i) → IsNumberOf around.targets e.label n (e.label.ints i)) → Tells around.targets k s → Tells around.targets (know_next o k) e
told_same o refs ints around k s e same low high numbers h = told around.targets o k s e h
    (λ r v w. absurd (false≢true (sym (refs r) ∙ w)))
    (λ r a b. same r)
    (λ i n a b w. absurd (false≢true (sym (ints i) ∙ w)))
    (λ i n a b w is. numbers i n a b (h.numbers i n (omega (arith, low, a)) (omega (arith, high, b)) is))

pub told_number : (o : Op) (i : ℕ) → ((r : ℕ) → writes_ref o r ≡ false) → ((j : ℕ) → writes_int o j ≡ nat_eq j i) → (around : Setting) (k : Know) (s e : Mark) → ((n : ℕ) → number_given o (k.number i) ≡ Some n → IsNumberOf around.targets e.label n (e.label.ints i)) → ((r : ℕ) → e.label.same r ≡ s.label.same r)
    → s.from ≤ e.from → e.until ≤ i + 1 → i ≤ s.until → ((j n : ℕ) → j < i → IsNumberOf around.targets s.label n (s.label.ints j) → IsNumberOf around.targets e.label n (e.label.ints j)) → Tells around.targets k s → Tells around.targets (know_next o k) e
told_number o i refs ints around k s e given same low high there numbers h = told around.targets o k s e h
    (λ r v w. absurd (false≢true (sym (refs r) ∙ w)))
    (λ r a b. same r)
    (λ j n a b w is.
    let z : j ≡ i = same_as j i (sym (ints j) ∙ w) in
    subst (λ q. IsNumberOf around.targets e.label n (e.label.ints q)) (sym z) (given n (sym (ap (λ q. number_given o (k.number q)) z) ∙ is)))
    (λ j n a b w is. let ne : j ≡ i → ⊥ = other_than j i (sym (ints j) ∙ w) in let lt : j < i = omega (arith, ne, b, high) in numbers j n lt (h.numbers j n (omega (arith, low, a)) (omega (arith, lt, there)) is))

module _ (around : Setting) (f : ℕ) (D : (ℕ → Mark) → Type 0) (named : ℕ → Bool) (top : ℕ) (low : (p : ℕ) → named p ≡ true → p < top) (from : ℕ) where
  abbrev fi : ℕ
  fi = ints_in around.code (Some f)

  abbrev fr : ℕ
  fr = refs_in around.code (Some f)

  abbrev pub P : Mark → List Op → Mark → Type 0
  P = LeadsWithin around f D

  abbrev Scoped : Mark → Type 0
  Scoped s = IsScoped fi fr s.label

  pub then_do : (s m e : Mark) (xs ys : List Op) → P s xs m → P m ys e → P s (xs ++ ys) e
  then_do s m e xs ys p q = λ w h.
      let a = p (within_left fi fr xs ys w) h in
      let b = q (within_right fi fr xs ys w) a.scoped in
      record { stretch = λ pc. flow.joins (marked around f) D s m e pc xs ys (a.stretch pc) (b.stretch (pc + length xs)); scoped = b.scoped }

  -- less is said before, and after
  pub post : (s e t : Mark) (os : List Op) → Fits around.targets e t → (Scoped e → Scoped t) → P s os e → P s os t
  post s e t os fits sc p = λ w h. let a = p w h in record { stretch = λ pc. flow.wider_end (marked around f) D s pc os e t fits (a.stretch pc); scoped = sc a.scoped }

  pub pre : (t s e : Mark) (os : List Op) → Fits around.targets t s → (Scoped t → Scoped s) → P s os e → P t os e
  pre t s e os fits sc p = λ w h. let a = p w (sc h) in record { stretch = λ pc. flow.wider (marked around f) D t s pc os e fits (a.stretch pc); scoped = a.scoped }

  pub none : (s e : Mark) → Fits around.targets s e → (Scoped s → Scoped e) → P s [] e
  none s e fits sc = λ w h. record { stretch = λ pc. flow.nothing (marked around f) D s pc e fits; scoped = sc h }

  -- one operation
  pub does : (s : Mark) (o : Op) (e : Mark) → (OpWrites fi fr o → Scoped s → Scoped e) → ((table : ℕ → Mark) (pc : ℕ) → OpWrites fi fr o → Scoped s → Fits around.targets e (table (pc + 1)) → IsLine around f table pc s o) → P s (o ∷ []) e
  does s o e sc l = λ w h. record { stretch = λ pc. flow.line (marked around f) D s pc o e (λ table d le next. l table pc w.0 h next); scoped = sc w.0 h }

  pub before : (s m : Mark) (o : Op) (os : List Op) (e : Mark) → P s (o ∷ []) m → P m os e → P s (o ∷ os) e
  before s m o os e p q = then_do s m e (o ∷ []) os p q

  -- ---- a label of this function where so many registers are taken
  pub record At (i r : ℕ) (l : Label) : Type 0 where
    pub stands : RegistersStand named i r l
    pub owned : l.function ≡ Some f

  plain_at : (i r : ℕ) (l : Label) (until : ℕ) → At i r l → Scoped (mark l from until) → Plain around f (mark l from until)
  plain_at i r l until at h = record { owned = at.owned; scoped = h; closed = at.stands.closed }

  -- an operation that leaves all registers as they are
  pub keeps : (i r : ℕ) (l : Label) → At i r l → (until : ℕ) (o : Op) → ((table : ℕ → Mark) (pc : ℕ) → OpWrites fi fr o → Plain around f (mark l from until) → Fits around.targets (mark l from until) (table (pc + 1)) → IsLine around f table pc (mark l from until) o)
      → P (mark l from until) (o ∷ []) (mark l from until)
  keeps i r l at until o rule = does (mark l from until) o (mark l from until) (λ w h. h) (λ table pc w h next. rule table pc w (plain_at i r l until at h) next)

  told_kept : (o : Op) → ((r : ℕ) → writes_ref o r ≡ false) → ((i : ℕ) → writes_int o i ≡ false) → (s : Mark) (k : Know) → Tells around.targets k s → Tells around.targets (know_next o k) s
  told_kept o refs ints s k h = told_same o refs ints around k s s (λ r. refl) (omega arith) (omega arith) (λ i n a b z. z) h

  pub enter_at : (i r : ℕ) (l : Label) → At i r l → (until : ℕ) → P (mark l from until) (Op.Enter ∷ []) (mark l from until)
  enter_at i r l at until = keeps i r l at until Op.Enter (λ table pc w plain next. on_enter around f table pc (mark l from until) (mark l from until) next plain (less_refl l) (λ z k h. told_kept Op.Enter (λ r. refl) (λ i. refl) (mark l from until) k h))

  pub enter : (i r : ℕ) (l : Label) → At i r l → (until : ℕ) (os : List Op) (e : Mark) → P (mark l from until) os e → P (mark l from until) (Op.Enter ∷ os) e
  enter i r l at until os e p = before (mark l from until) (mark l from until) Op.Enter os e (enter_at i r l at until) p

  pub positive_at : (i r : ℕ) (l : Label) → At i r l → (until j : ℕ) (spot : Spot) → P (mark l from until) (Op.ChkPositive j spot ∷ []) (mark l from until)
  positive_at i r l at until j spot = keeps i r l at until (Op.ChkPositive j spot) (λ table pc w plain next.
      on_positive around f table pc (mark l from until) (mark l from until) next j spot plain (less_refl l) (λ z k h. told_kept (Op.ChkPositive j spot) (λ r. refl) (λ i. refl) (mark l from until) k h))

  pub print_at : (i r : ℕ) (l : Label) → At i r l → (until j : ℕ) (spot : Spot) → P (mark l from until) (Op.Print j spot ∷ []) (mark l from until)
  print_at i r l at until j spot = keeps i r l at until (Op.Print j spot) (λ table pc w plain next.
      on_print around f table pc (mark l from until) (mark l from until) next j spot plain (less_refl l) (λ z k h. told_kept (Op.Print j spot) (λ r. refl) (λ i. refl) (mark l from until) k h))

  pub join_at : (i r : ℕ) (l : Label) → At i r l → (until j : ℕ) (spot : Spot) → P (mark l from until) (Op.Join j spot ∷ []) (mark l from until)
  join_at i r l at until j spot = keeps i r l at until (Op.Join j spot) (λ table pc w plain next. on_join around f table pc (mark l from until) (mark l from until) next j spot plain (less_refl l))

  -- ---- labels made of others
  pub at_number : (i r : ℕ) (l : Label) → At i r l → (n : Number) → ((q : ℕ) → HasBase n q → q < r) → At (i + 1) r (set_number l i n)
  at_number i r l at n base = record { stands = stands_number named i r l at.stands n base; owned = at.owned }

  pub at_fill : (i r : ℕ) (l : Label) → At i r l → (t : StaticType) (v : ℕ) (b : Bool) → IsNamed named r t → v ≤ r → At i (r + 1) (fill l r (Refers t) v b)
  at_fill i r l at t v b fits copy = record { stands = stands_fill named i r l at.stands t v b fits copy; owned = at.owned }

  -- a number is that of the label where a reference is as before
  pub same_number : (l k : Label) (n : ℕ) (m : Number) → ((q : ℕ) → HasBase m q → k.env q ≡ l.env q) → IsNumberOf around.targets l n m → IsNumberOf around.targets k n m
  same_number l k n (OfElement base field (Nth e)) same h = (h.0, same base refl ∙ h.1, h.2)
  same_number l k n (OfGlobal first count elements (Nth e)) same h = h
  same_number l k n _ same h = h

  -- ---- numbers
  -- what is said with this number in the first free integer register
  abbrev pub with_number : Label → ℕ → Number → Mark
  with_number l i n = mark (set_number l i n) from (i + 1)

  -- the number that is then remembered of it is this one
  abbrev IsGiven : Op → ℕ → Label → Mark → Number → Type 0
  IsGiven o i l s n = (k : Know) → Tells around.targets k s → (m : ℕ) → number_given o (k.number i) ≡ Some m → IsNumberOf around.targets (set_number l i n) m n

  -- an operation that writes the first free integer register, after which no other one of those that were free is of use
  pub number_op : (i r : ℕ) (l : Label) → At i r l → (g : ℕ → Number) (c : Gate) (until : ℕ) → c ≡ Closed → ((j : ℕ) → j < i → g j ≡ l.ints j) → i ≤ until → (n : Number) → ((q : ℕ) → HasBase n q → q < r)
      → (o : Op) → ((q : ℕ) → writes_ref o q ≡ false) → ((j : ℕ) → writes_int o j ≡ nat_eq j i) → IsGiven o i l (mark (record l { ints = g; gate = c }) from until) n → (OpWrites fi fr o → i < fi)
      → ((table : ℕ → Mark) (pc : ℕ) → OpWrites fi fr o → Plain around f (mark (record l { ints = g; gate = c }) from until) → (next : Fits around.targets (with_number l i n) (table (pc + 1)))
      → Less (set_number (record l { ints = g; gate = c }) i n) (set_number l i n)
      → ((k : Know) → Tells around.targets k (mark (record l { ints = g; gate = c }) from until) → Tells around.targets (know_next o k) (with_number l i n))
      → IsLine around f table pc (mark (record l { ints = g; gate = c }) from until) o)
      → P (mark (record l { ints = g; gate = c }) from until) (o ∷ []) (with_number l i n)
  number_op i r l at g c until closed below le n base o refs ints given lt rule =
      let a : Label = record l { ints = g; gate = c } in
      does (mark a from until) o (with_number l i n)
      (λ w h. scoped_frame named (i + 1) r (set_number l i n) (stands_number named i r l at.stands n base) fi fr h.few
      (put_all (λ j y. fi ≤ j → y ≡ Anything) l.ints i n (λ ge. let z = lt w in absurd (omega (arith, z, ge))) (λ j _ ge. let z = lt w in at.stands.numbers j (omega (arith, z, ge)))))
      (λ table pc w h next. rule table pc w (record { owned = at.owned; scoped = h; closed = closed }) next
      (less_by (set_number a i n) (set_number l i n) refl (λ q. less_entry_refl (set_number a i n) q (l.env q)) (λ q. refl) (λ q e. e) (λ j. less_at j) tt at.stands.nothing_passed (λ e. e))
      (λ k h. told_number o i refs ints around k (mark a from until) (with_number l i n) (λ m is. subst (IsNumberOf around.targets (set_number l i n) m) (sym (put_same l.ints i n)) (given k h m is)) (λ q. refl) (omega arith) (omega arith) le
      (λ j m small t. subst (IsNumberOf around.targets (set_number l i n) m) (below j small ∙ sym (put_other l.ints i j n (λ e. omega (arith, e, small)))) (same_number a (set_number l i n) m (g j) (λ q _. refl) t)) h))
    where
      less_at : (j : ℕ) → LessNumber (put g i n j) (put l.ints i n j)
      less_at j = ⊎_elim
          (λ (e : j ≡ i). subst (LessNumber (put g i n j)) (ap (put g i n) e ∙ put_same g i n ∙ sym (ap (put l.ints i n) e ∙ put_same l.ints i n)) (less_number_refl (put g i n j)))
          (λ (ne : j ≡ i → ⊥). ⊎_elim
          (λ (small : j < i). subst (LessNumber (put g i n j)) (put_other g i j n ne ∙ below j small ∙ sym (put_other l.ints i j n ne)) (less_number_refl (put g i n j)))
          (λ (ge : i ≤ j). subst (LessNumber (put g i n j)) (sym (put_other l.ints i j n ne ∙ at.stands.numbers j ge)) tt) (cases_lt j i)) (cases_eq j i)

  -- from what is said before, and where the register was written
  abbrev From : ℕ → ℕ → Label → Op → Number → Type 0
  From i r l o n = (g : ℕ → Number) (c : Gate) (until : ℕ) → c ≡ Closed → ((j : ℕ) → j < i → g j ≡ l.ints j) → i ≤ until → P (mark (record l { ints = g; gate = c }) from until) (o ∷ []) (with_number l i n)

  pub from_free : (i r : ℕ) (l : Label) → At i r l → (o : Op) (n : Number) → From i r l o n → P (mark l from i) (o ∷ []) (with_number l i n)
  from_free i r l at o n p = p l.ints l.gate i at.stands.closed (λ j lt. refl) (omega arith)

  pub from_written : (i r : ℕ) (l : Label) → At i r l → (o : Op) (m n : Number) → From i r l o n → P (with_number l i m) (o ∷ []) (with_number l i n)
  from_written i r l at o m n p = p (put l.ints i m) Closed (i + 1) refl (λ j lt. put_other l.ints i j m (λ e. omega (arith, e, lt))) (omega arith)

  in_frame : (i r : ℕ) (l : Label) → At i r l → (j : ℕ) → j < fi → j < ints_in around.code l.function
  in_frame i r l at j lt = subst (λ o. j < ints_in around.code o) (sym at.owned) lt

  no_base : (w : Width) (r q : ℕ) → HasBase (Within w) q → q < r
  no_base w r q h = absurd h

  pub false_at : (i r : ℕ) (l : Label) → At i r l → (a : ℕ) → From i r l (Op.IsFalse i a) (Within Char)
  false_at i r l at a g c until closed below le = number_op i r l at g c until closed below le (Within Char) (no_base Char r) (Op.IsFalse i a) (λ q. refl) (λ j. refl) (λ k h m e. absurd (none_some m e)) (λ w. w)
      (λ table pc w plain next less tells. on_false around f table pc (mark (record l { ints = g; gate = c }) from until) (with_number l i (Within Char)) next i a plain (in_frame i r l at i w) less (λ _. tells))

  pub same_at : (i r : ℕ) (l : Label) → At i r l → (a b : ℕ) → From i r l (Op.SameReference i a b) (Within Char)
  same_at i r l at a b g c until closed below le = number_op i r l at g c until closed below le (Within Char) (no_base Char r) (Op.SameReference i a b) (λ q. refl) (λ j. refl) (λ k h m e. absurd (none_some m e)) (λ w. w)
      (λ table pc w plain next less tells. on_same around f table pc (mark (record l { ints = g; gate = c }) from until) (with_number l i (Within Char)) next i a b plain (in_frame i r l at i w) less (λ _. tells))

  rewritten : (i r : ℕ) (l : Label) → At i r l → (m n : Number) → Less (set_number (set_number l i m) i n) (set_number l i n)
  rewritten i r l at m n = less_by (set_number (set_number l i m) i n) (set_number l i n) refl (λ q. less_entry_refl (set_number (set_number l i m) i n) q (l.env q)) (λ q. refl) (λ q e. e)
      (λ j. subst (λ y. LessNumber y (put l.ints i n j)) (sym (twice j)) (less_number_refl (put l.ints i n j))) tt at.stands.nothing_passed (λ e. e)
    where
      twice : (j : ℕ) → put (put l.ints i m) i n j ≡ put l.ints i n j
      twice j = ⊎_elim (λ (e : j ≡ i). ap (put (put l.ints i m) i n) e ∙ put_same (put l.ints i m) i n ∙ sym (ap (put l.ints i n) e ∙ put_same l.ints i n))
          (λ (ne : j ≡ i → ⊥). put_other (put l.ints i m) i j n ne ∙ put_other l.ints i j m ne ∙ sym (put_other l.ints i j n ne)) (cases_eq j i)

  scoped_at : (i r : ℕ) (l : Label) → At i r l → (n : Number) → ((q : ℕ) → HasBase n q → q < r) → i < fi → ((q : ℕ) → fr ≤ q → l.env q ≡ Empty) → IsScoped fi fr (set_number l i n)
  scoped_at i r l at n base lt few = scoped_frame named (i + 1) r (set_number l i n) (stands_number named i r l at.stands n base) fi fr few
      (put_all (λ j y. fi ≤ j → y ≡ Anything) l.ints i n (λ ge. absurd (omega (arith, lt, ge))) (λ j _ ge. at.stands.numbers j (omega (arith, lt, ge))))

  -- a number is checked, and is remembered no more
  pub width_at : (i r : ℕ) (l : Label) → At i r l → (w : Width) (m : Number) (spot : Spot) → i < fi → P (with_number l i m) (Op.ChkWidth w i spot ∷ []) (mark (set_number l i (Within w)) from i)
  width_at i r l at w m spot lt = does (with_number l i m) (Op.ChkWidth w i spot) (mark (set_number l i (Within w)) from i)
      (λ _ h. scoped_at i r l at (Within w) (no_base w r) lt h.few)
      (λ table pc _ h next. on_width around f table pc (with_number l i m) (mark (set_number l i (Within w)) from i) next w i spot (record { owned = at.owned; scoped = h; closed = refl }) (in_frame i r l at i lt) (rewritten i r l at m (Within w))
      (λ _ k t. told_same (Op.ChkWidth w i spot) (λ q. refl) (λ j. refl) around k (with_number l i m) (mark (set_number l i (Within w)) from i) (λ q. refl) (omega arith) (omega arith)
      (λ j n a b z. let ne : j ≡ i → ⊥ = λ e. omega (arith, e, b) in
      subst (IsNumberOf around.targets (set_number l i (Within w)) n) (put_other l.ints i j m ne ∙ sym (put_other l.ints i j (Within w) ne)) (same_number (set_number l i m) (set_number l i (Within w)) n (put l.ints i m j) (λ q _. refl) z)) t))

  pub constant_at : (i r : ℕ) (l : Label) → At i r l → (v : ℤ) → P (mark l from i) (Op.Constant i v ∷ []) (with_number l i (Exactly v))
  constant_at i r l at v = number_op i r l at l.ints l.gate i at.stands.closed (λ j lt. refl) (omega arith) (Exactly v) (λ q h. absurd h) (Op.Constant i v) (λ q. refl) (λ j. refl)
      (λ k h m e. constant_number around.targets (set_number l i (Exactly v)) v m e) (λ w. w)
      (λ table pc w plain next less tells. on_constant around f table pc (mark l from i) (with_number l i (Exactly v)) next i v plain (in_frame i r l at i w) less (λ _. tells))

  pub compute_at : (i r : ℕ) (l : Label) → At i r l → (w : Width) (o : Operator) (m k : Number) (spot : Spot) → IsWide w → (is_comparison o ≡ false → LessNumber m (Within w)) → (is_shift o ≡ false → is_comparison o ≡ false → LessNumber k (Within w))
      → P (mark (set_number (set_number l i m) (i + 1) k) from (i + 1 + 1)) (Op.Compute w o i i (i + 1) spot ∷ []) (with_number l i (Within w))
  compute_at i r l at w o m k spot wide left right =
      let g : ℕ → Number = put (put l.ints i m) (i + 1) k in
      let one : g i ≡ m = put_other (put l.ints i m) (i + 1) i k (λ e. omega (arith, e)) ∙ put_same l.ints i m in
      let two : g (i + 1) ≡ k = put_same (put l.ints i m) (i + 1) k in
      number_op i r l at g Closed (i + 1 + 1) refl (λ j lt. put_other (put l.ints i m) (i + 1) j k (λ e. omega (arith, e, lt)) ∙ put_other l.ints i j m (λ e. omega (arith, e, lt))) (omega arith) (Within w) (no_base w r)
      (Op.Compute w o i i (i + 1) spot) (λ q. refl) (λ j. refl) (λ k h m e. absurd (none_some m e)) (λ w. w)
      (λ table pc writes plain next less tells. on_compute around f table pc (mark (record l { ints = g; gate = Closed }) from (i + 1 + 1)) (with_number l i (Within w)) next w o i i (i + 1) spot plain (in_frame i r l at i writes) wide
      (record { left = λ c. subst (λ y. LessNumber y (Within w)) (sym one) (left c); right = λ e c. subst (λ y. LessNumber y (Within w)) (sym two) (right e c) }) less (λ _. tells))

  pub negate_at : (i r : ℕ) (l : Label) → At i r l → (w : Width) (m : Number) (spot : Spot) → IsWide w → P (with_number l i m) (Op.Negate w i i spot ∷ []) (with_number l i (Within w))
  negate_at i r l at w m spot wide = from_written i r l at (Op.Negate w i i spot) m (Within w) (λ g c until closed below le. number_op i r l at g c until closed below le (Within w) (no_base w r) (Op.Negate w i i spot) (λ q. refl) (λ j. refl) (λ k h m e. absurd (none_some m e)) (λ w. w)
      (λ table pc writes plain next less tells. on_negate around f table pc (mark (record l { ints = g; gate = c }) from until) (with_number l i (Within w)) next w i i spot plain (in_frame i r l at i writes) wide less (λ _. tells)))

  pub complement_at : (i r : ℕ) (l : Label) → At i r l → (w : Width) (m : Number) → LessNumber m (Within w) → P (with_number l i m) (Op.Complement i i ∷ []) (with_number l i (Within w))
  complement_at i r l at w m fits = number_op i r l at (put l.ints i m) Closed (i + 1) refl (λ j lt. put_other l.ints i j m (λ e. omega (arith, e, lt))) (omega arith) (Within w) (no_base w r) (Op.Complement i i) (λ q. refl) (λ j. refl) (λ k h m e. absurd (none_some m e)) (λ w. w)
      (λ table pc writes plain next less tells. on_complement around f table pc (with_number l i m) (with_number l i (Within w)) next i i w plain (in_frame i r l at i writes) (subst (λ y. LessNumber y (Within w)) (sym (put_same l.ints i m)) fits) less (λ _. tells))

  -- a value is of no use any more
  pub number_dropped : (i r : ℕ) (l : Label) → At i r l → (n : Number) (os : List Op) (s : Mark) → P s os (with_number l i n) → P s os (mark l from i)
  number_dropped i r l at n os s p = post s (with_number l i n) (mark l from i) os (forgotten i r l at n) (λ h. scoped_frame named i r l at.stands fi fr h.few (λ j ge. missing j h.numbers ge)) p
    where
      missing : (j : ℕ) → ((j : ℕ) → fi ≤ j → put l.ints i n j ≡ Anything) → fi ≤ j → l.ints j ≡ Anything
      missing j h ge = ⊎_elim (λ (e : j ≡ i). at.stands.numbers j (omega (arith, e))) (λ (ne : j ≡ i → ⊥). sym (put_other l.ints i j n ne) ∙ h j ge) (cases_eq j i)

      forgotten : (i r : ℕ) (l : Label) → At i r l → (n : Number) → Fits around.targets (with_number l i n) (mark l from i)
      forgotten i r l at n = fits_by around.targets (with_number l i n) (mark l from i) (less_number named i r l at.stands n) (λ q. refl) (omega arith) (omega arith)
          (λ j m a b z. subst (IsNumberOf around.targets l m) (put_other l.ints i j n (λ e. omega (arith, e, b))) (same_number (set_number l i n) l m (put l.ints i n j) (λ q _. refl) z))

  -- ---- references
  -- what is said with this reference in the first free register
  abbrev pub with_reference : Label → ℕ → ℕ → StaticType → ℕ → Bool → Mark
  with_reference l r until t v b = mark (fill l r (Refers t) v b) from until

  module _ (i r : ℕ) (l : Label) (at : At i r l) (d : ℕ) (ge : r ≤ d) where
    pub scoped_below : (e : Entry) (v : ℕ) (b : Bool) → IsScoped fi fr (fill l d e v b) → IsScoped fi fr l
    scoped_below e v b h = scoped_frame named i r l at.stands fi fr
        (λ q le. ⊎_elim (λ (z : q ≡ d). at.stands.free q (omega (arith, z, ge))) (λ (ne : q ≡ d → ⊥). sym (put_other l.env d q e ne) ∙ h.few q le) (cases_eq q d)) h.numbers

    pub number_below : (e : Entry) (v : ℕ) (b : Bool) (j n : ℕ) → IsNumberOf around.targets (fill l d e v b) n (l.ints j) → IsNumberOf around.targets l n (l.ints j)
    number_below e v b j n z = same_number (fill l d e v b) l n (l.ints j) (λ q h. sym (put_other l.env d q e (λ y. let lt = at.stands.bases j q h in omega (arith, y, lt, ge)))) z

    pub number_above : (e : Entry) (v : ℕ) (b : Bool) (j n : ℕ) → IsNumberOf around.targets l n (l.ints j) → IsNumberOf around.targets (fill l d e v b) n (l.ints j)
    number_above e v b j n z = same_number l (fill l d e v b) n (l.ints j) (λ q h. put_other l.env d q e (λ y. let lt = at.stands.bases j q h in omega (arith, y, lt, ge))) z

    -- it is given up
    pub pop_from : top ≤ r → (t : StaticType) (v : ℕ) (b : Bool) (until : ℕ) → (Mentions t d → ⊥) → P (with_reference l d until t v b) (Op.Pop d ∷ []) (mark l from until)
    pop_from le t v b until own =
        let k = fill l d (Refers t) v b in
        does (mark k from until) (Op.Pop d) (mark l from until) (λ _ h. scoped_below (Refers t) v b h)
        (λ table pc w h next. on_pop around f table pc (mark k from until) (mark l from until) next d (record { owned = at.owned; scoped = h; closed = refl }) (subst (λ o. d < refs_in around.code o) (sym at.owned) w)
        (record { paths = λ q ne m. put_all (λ q y. (q ≡ d → ⊥) → EntryMentions y d → ⊥) l.env d (Refers t) (λ no _. no refl) (λ q _ no m. let z = low d (at.stands.paths q d m).1 in omega (arith, z, le, ge)) q ne m })
        (less_emptied l d (unnamed named i r l at.stands d ge) (Refers t) v b)
        (λ _ know h2. told around.targets (Op.Pop d) know (mark k from until) (mark l from until) h2 (λ q x _ is. absurd (none_some x is))
        (λ q a _. sym (put_other l.same d q v (other_than q d a)))
        (λ j n _ _ a. absurd (false≢true a)) (λ j n a z _ is. number_below (Refers t) v b j n (h2.numbers j n a z is))))

  own_not : (r d : ℕ) (t : StaticType) → top ≤ d → IsNamed named r t → Mentions t d → ⊥
  own_not r d t le fits m = let z = low d (fits d m).1 in omega (arith, z, le)

  pub pop_at : (i r : ℕ) (l : Label) → At i r l → top ≤ r → (t : StaticType) (v : ℕ) (b : Bool) → IsNamed named r t → (until : ℕ) → P (with_reference l r until t v b) (Op.Pop r ∷ []) (mark l from until)
  pop_at i r l at le t v b fits until = pop_from i r l at r (omega arith) le t v b until (own_not r r t le fits)

  -- the lower one of two is given up
  pub pop_lower_at : (i r : ℕ) (l : Label) → At i r l → top ≤ r → (t s : StaticType) (v w : ℕ) (x y : Bool) → IsNamed named r t → IsNamed named r s → ((w ≡ r + 1) ⊎ (w < r)) → (until : ℕ)
      → P (with_reference (fill l r (Refers t) v x) (r + 1) until s w y) (Op.Pop r ∷ []) (with_reference l (r + 1) until s w y)
  pop_lower_at i r l at le t s v w x y fits fits2 other until =
      let one = fill l r (Refers t) v x in
      let two = fill one (r + 1) (Refers s) w y in
      let k = fill l (r + 1) (Refers s) w y in
      does (mark two from until) (Op.Pop r) (mark k from until) (λ in_it h. scoped_lower in_it h)
      (λ table pc in_it h next. on_pop around f table pc (mark two from until) (mark k from until) next r (record { owned = at.owned; scoped = h; closed = refl }) (subst (λ o. r < refs_in around.code o) (sym at.owned) in_it)
      free_one (less_lower l r (unnamed named i r l at.stands r (omega arith)) (Refers t) (Refers s) v w x y (⊎_elim (λ (e : w ≡ r + 1). λ z. omega (arith, e, z)) (λ (lt : w < r). λ z. omega (arith, lt, z)) other))
      (λ _ know told_two. told around.targets (Op.Pop r) know (mark two from until) (mark k from until) told_two (λ q z _ is. absurd (none_some z is))
      (λ q a _. kept_copy q (other_than q r a))
      (λ j n _ _ a. absurd (false≢true a))
      (λ j n a z _ is. number_on j n (number_below i r l at r (omega arith) (Refers t) v x j n (number_back j n (told_two.numbers j n a z is))))))
    where
      free_one : IsFree (fill (fill l r (Refers t) v x) (r + 1) (Refers s) w y) r
      free_one = record {
        paths = λ q ne m. put_all (λ q z. (q ≡ r → ⊥) → EntryMentions z r → ⊥) (put l.env r (Refers t)) (r + 1) (Refers s) (λ _ m. let z = low r (fits2 r m).1 in omega (arith, z, le))
            (λ q _ no m. put_all (λ q z. (q ≡ r → ⊥) → EntryMentions z r → ⊥) l.env r (Refers t) (λ no _. no refl) (λ q _ no m. let z = low r (at.stands.paths q r m).1 in omega (arith, z, le)) q no m) q ne m;
      }

      kept_copy : (q : ℕ) → (q ≡ r → ⊥) → put l.same (r + 1) w q ≡ put (put l.same r v) (r + 1) w q
      kept_copy q ne = ⊎_elim (λ (e : q ≡ r + 1). ap (put l.same (r + 1) w) e ∙ put_same l.same (r + 1) w ∙ sym (ap (put (put l.same r v) (r + 1) w) e ∙ put_same (put l.same r v) (r + 1) w))
          (λ (no : q ≡ r + 1 → ⊥). put_other l.same (r + 1) q w no ∙ sym (put_other (put l.same r v) (r + 1) q w no ∙ put_other l.same r q v ne)) (cases_eq q (r + 1))

      scoped_lower : r < fr → IsScoped fi fr (fill (fill l r (Refers t) v x) (r + 1) (Refers s) w y) → IsScoped fi fr (fill l (r + 1) (Refers s) w y)
      scoped_lower in_it h =
          let few : (q : ℕ) → fr ≤ q → l.env q ≡ Empty = λ q ge. ⊎_elim (λ (e : q ≡ r + 1). at.stands.free q (omega (arith, e)))
          (λ (no : q ≡ r + 1 → ⊥). sym (put_other (put l.env r (Refers t)) (r + 1) q (Refers s) no ∙ put_other l.env r q (Refers t) (λ e. omega (arith, e, in_it, ge))) ∙ h.few q ge) (cases_eq q (r + 1)) in
          let higher : r + 1 < fr = ⊎_elim (λ (lt : r + 1 < fr). lt) (λ (ge : fr ≤ r + 1). let e : Refers s ≡ Empty = sym (put_same (put l.env r (Refers t)) (r + 1) (Refers s)) ∙ h.few (r + 1) ge in absurd (cc)) (cases_lt (r + 1) fr) in
          scoped_fill fi fr l (r + 1) s w y higher (λ q m. at.stands.full q (fits2 q m).0) (⊎_elim (λ (e : w ≡ r + 1). inl e) (λ (lt : w < r). inr (at.stands.full w lt)) other) (scoped_frame named i r l at.stands fi fr few h.numbers)

      number_back : (j n : ℕ) → IsNumberOf around.targets (fill (fill l r (Refers t) v x) (r + 1) (Refers s) w y) n (l.ints j) → IsNumberOf around.targets (fill l r (Refers t) v x) n (l.ints j)
      number_back j n z = same_number (fill (fill l r (Refers t) v x) (r + 1) (Refers s) w y) (fill l r (Refers t) v x) n (l.ints j)
          (λ q h. sym (put_other (put l.env r (Refers t)) (r + 1) q (Refers s) (λ e. let lt = at.stands.bases j q h in omega (arith, e, lt)))) z

      number_on : (j n : ℕ) → IsNumberOf around.targets l n (l.ints j) → IsNumberOf around.targets (fill l (r + 1) (Refers s) w y) n (l.ints j)
      number_on j n z = same_number l (fill l (r + 1) (Refers s) w y) n (l.ints j) (λ q h. put_other l.env (r + 1) q (Refers s) (λ e. let lt = at.stands.bases j q h in omega (arith, e, lt))) z

  -- ---- parts of expressions
  -- no number and no reference is at hand more than before
  pub null_kept_at : (i r : ℕ) (l : Label) → At i r l → (until : ℕ) → P (mark l from until) (Op.Null r ∷ []) (mark l from until)
  null_kept_at i r l at until = keeps i r l at until (Op.Null r) (λ table pc w plain next.
      on_nothing around f table pc (mark l from until) (mark l from until) next r plain (record { is = subst (λ o. r < refs_in around.code o) (sym at.owned) w; empty = at.stands.free r (omega arith) }) (less_refl l)
      (λ z k h. told around.targets (Op.Null r) k (mark l from until) (mark l from until) h (λ q x _ is. absurd (none_some x is)) (λ q _ _. refl) (λ j n _ _ a. absurd (false≢true a)) (λ j n a b _ is. h.numbers j n a b is)))

  -- 1 where a reference is NULL, else 0, in an integer register; and the other way round
  pub truth_at : (i r : ℕ) (l : Label) → At i r l → top ≤ r → (t : StaticType) (v : ℕ) (b : Bool) → IsNamed named r t → v ≤ r
      → P (with_reference l r i t v b) (Op.Null (r + 1) ∷ Op.SameReference i r (r + 1) ∷ Op.Pop r ∷ Op.IsFalse i i ∷ []) (with_number l i (Within Char))
  truth_at i r l at le t v b fits copy =
      let k = fill l r (Refers t) v b in
      let at2 = at_fill i r l at t v b fits copy in
      let l2 = set_number l i (Within Char) in
      let at3 = at_number i r l at (Within Char) (no_base Char r) in
      then_do (mark k from i) (mark k from i) (with_number l i (Within Char)) (Op.Null (r + 1) ∷ []) (Op.SameReference i r (r + 1) ∷ Op.Pop r ∷ Op.IsFalse i i ∷ [])
      (null_kept_at i (r + 1) k at2 i)
      (then_do (mark k from i) (with_number k i (Within Char)) (with_number l i (Within Char)) (Op.SameReference i r (r + 1) ∷ []) (Op.Pop r ∷ Op.IsFalse i i ∷ [])
      (from_free i (r + 1) k at2 (Op.SameReference i r (r + 1)) (Within Char) (same_at i (r + 1) k at2 r (r + 1)))
      (then_do (with_number k i (Within Char)) (with_number l i (Within Char)) (with_number l i (Within Char)) (Op.Pop r ∷ []) (Op.IsFalse i i ∷ [])
      (pop_at (i + 1) r l2 at3 le t v b fits (i + 1))
      (from_written i r l at (Op.IsFalse i i) (Within Char) (Within Char) (false_at i r l at i))))

  -- two references are compared, and given up
  pub pops_two : (i r : ℕ) (l : Label) → At i r l → top ≤ r → (t s : StaticType) (v w : ℕ) (x y : Bool) → IsNamed named r t → IsNamed named r s → ((w ≡ r + 1) ⊎ (w < r)) → (until : ℕ)
      → P (with_reference (fill l r (Refers t) v x) (r + 1) until s w y) (Op.Pop r ∷ Op.Pop (r + 1) ∷ []) (mark l from until)
  pops_two i r l at le t s v w x y fits fits2 other until =
      then_do (with_reference (fill l r (Refers t) v x) (r + 1) until s w y) (with_reference l (r + 1) until s w y) (mark l from until) (Op.Pop r ∷ []) (Op.Pop (r + 1) ∷ [])
      (pop_lower_at i r l at le t s v w x y fits fits2 other until)
      (pop_from i r l at (r + 1) (omega arith) le s w y until (own_not r (r + 1) s (omega (arith, le)) fits2))

  -- whether two references are the same, or are not, and both are given up
  differ_at : (i r : ℕ) (l : Label) → At i r l → (o : BinaryOperator) → P (with_number l i (Within Char)) (differ_code o i) (with_number l i (Within Char))
  differ_at i r l at NotEqual = from_written i r l at (Op.IsFalse i i) (Within Char) (Within Char) (false_at i r l at i)
  differ_at i r l at _ = none (with_number l i (Within Char)) (with_number l i (Within Char)) (fits_same around.targets (with_number l i (Within Char))) (λ h. h)

  pub compare_at : (i r : ℕ) (l : Label) → At i r l → top ≤ r → (t s : StaticType) (v w : ℕ) (x y : Bool) → IsNamed named r t → IsNamed named r s → v ≤ r → ((w ≡ r + 1) ⊎ (w < r)) → (o : BinaryOperator)
      → P (with_reference (fill l r (Refers t) v x) (r + 1) i s w y) (compare_code o i r) (with_number l i (Within Char))
  compare_at i r l at le t s v w x y fits fits2 copy other o =
      let one = fill l r (Refers t) v x in
      let two = fill one (r + 1) (Refers s) w y in
      let at1 = at_fill i r l at t v x fits copy in
      let wide : IsNamed named (r + 1) s = λ p m. let z = fits2 p m in let lt = z.0 in (omega (arith, lt), z.1) in
      let small : w ≤ r + 1 = ⊎_elim (λ (e : w ≡ r + 1). omega (arith, e)) (λ (lt : w < r). omega (arith, lt)) other in
      let at2 = at_fill i (r + 1) one at1 s w y wide small in
      let n : Number = Within Char in
      let l2 = set_number l i n in
      let at3 = at_number i r l at n (no_base Char r) in
      then_do (mark two from i) (with_number two i n) (with_number l i n) (Op.SameReference i r (r + 1) ∷ []) (differ_code o i ++ (Op.Pop r ∷ Op.Pop (r + 1) ∷ []))
      (from_free i (r + 1 + 1) two at2 (Op.SameReference i r (r + 1)) n (same_at i (r + 1 + 1) two at2 r (r + 1)))
      (then_do (with_number two i n) (with_number two i n) (with_number l i n) (differ_code o i) (Op.Pop r ∷ Op.Pop (r + 1) ∷ [])
      (differ_at i (r + 1 + 1) two at2 o)
      (pops_two (i + 1) r l2 at3 le t s v w x y fits fits2 other (i + 1)))

  -- a value, in the first free integer register, that is 0 exactly where another one is 0; and the other way round
  twice_at : (i r : ℕ) (l : Label) → At i r l → P (mark l from i) (Op.IsFalse i i ∷ Op.IsFalse i i ∷ []) (with_number l i (Within Char))
  twice_at i r l at = then_do (mark l from i) (with_number l i (Within Char)) (with_number l i (Within Char)) (Op.IsFalse i i ∷ []) (Op.IsFalse i i ∷ [])
      (from_free i r l at (Op.IsFalse i i) (Within Char) (false_at i r l at i)) (from_written i r l at (Op.IsFalse i i) (Within Char) (Within Char) (false_at i r l at i))

  -- over a piece, or into it, after which less may be known
  skips : (i r : ℕ) (l k : Label) → At i r l → Less l k → (e : Mark) (xs ys : List Op) → P (mark l from i) xs (mark k from i) → P (mark k from i) ys e → P (mark l from i) (Op.SkipIfZero i (length xs) ∷ (xs ++ ys)) e
  skips i r l k at less e xs ys p q = λ w h.
      let s = mark l from i in
      let a = p (within_left fi fr xs ys w.1) h in
      let b = q (within_right fi fr xs ys w.1) a.scoped in
      record { stretch = λ pc. flow.over (marked around f) D s (mark k from i) e pc i xs ys (plain_at i r l i at h) less (a.stretch (pc + 1)) (b.stretch (pc + 1 + length xs)); scoped = b.scoped }

  -- the second operand, after the first one
  module _ (i r : ℕ) (k m : Label) (at : At i r k) (at2 : At i r m) (less : Less k m) (s : Mark) (xs ys : List Op) (p : P s xs (mark k from i)) (q : P (mark k from i) ys (mark m from i)) where
    pub logical_at : P s (logical_code i xs ys) (with_number m i (Within Char))
    logical_at = then_do s (mark k from i) (with_number m i (Within Char)) xs _ p (skips i r k m at less (with_number m i (Within Char)) ys (Op.IsFalse i i ∷ Op.IsFalse i i ∷ []) q (twice_at i r m at2))

    pub either_at : P s (either_code i xs ys) (with_number m i (Within Char))
    either_at =
        let one = mark k from i in
        let two = mark m from i in
        let e = with_number m i (Within Char) in
        let F = Op.IsFalse i i in
        let first : P one (F ∷ []) one = number_dropped i r k at (Within Char) (F ∷ []) one (from_free i r k at F (Within Char) (false_at i r k at i)) in
        let second : P two (F ∷ []) two = number_dropped i r m at2 (Within Char) (F ∷ []) two (from_free i r m at2 F (Within Char) (false_at i r m at2 i)) in
        let last : P two (F ∷ []) e = from_free i r m at2 F (Within Char) (false_at i r m at2 i) in
        let count : length (ys ++ F ∷ []) ≡ length ys + 1 = length-append ys (F ∷ []) in
        let same : Op.SkipIfZero i (length (ys ++ F ∷ [])) ∷ ((ys ++ F ∷ []) ++ F ∷ []) ≡ Op.SkipIfZero i (length ys + 1) ∷ (ys ++ (F ∷ F ∷ [])) =
        ap (λ n. Op.SkipIfZero i n ∷ ((ys ++ F ∷ []) ++ F ∷ [])) count ∙ ap (λ l. Op.SkipIfZero i (length ys + 1) ∷ l) (append_assoc ys (F ∷ []) (F ∷ [])) in
        then_do s one e xs _ p
        (before one one F (Op.SkipIfZero i (length ys + 1) ∷ (ys ++ (F ∷ F ∷ []))) e first
        (subst (λ os. P one os e) same (skips i r k m at less e (ys ++ F ∷ []) (F ∷ []) (then_do one two two ys (F ∷ []) q second) last)))

  -- a pointer that is not NULL
  pub check_at : (i r : ℕ) (l : Label) → At i r l → (t : StaticType) (v : ℕ) (b : Bool) → IsNamed named r t → v ≤ r → (until : ℕ) (spot : Spot) → P (with_reference l r until t v b) (Op.ChkNull r spot ∷ []) (with_reference l r until t v true)
  check_at i r l at t v b fits copy until spot =
      let k = fill l r (Refers t) v b in
      let e = fill l r (Refers t) v true in
      does (mark k from until) (Op.ChkNull r spot) (mark e from until)
      (λ _ h. record { few = h.few; paths = h.paths; copies = h.copies; bases = h.bases; known = put_all (λ q y. y ≡ true → put l.env r (Refers t) q ≢ Empty) l.known r true (λ _. filled) (λ q ne z. h.known q (put_other l.known r q b ne ∙ z)); passes = h.passes; numbers = h.numbers })
      (λ table pc w h next. on_check around f table pc (mark k from until) (mark e from until) next r spot (record { owned = at.owned; scoped = h; closed = refl })
      (less_by (knows k r) e refl (λ q. less_entry_refl (knows k r) q (put l.env r (Refers t) q)) (λ q. refl) (λ q z. known q z) (λ j. less_number_refl (l.ints j)) tt at.stands.nothing_passed (λ z. z))
      (λ _ know h2. told_same (Op.ChkNull r spot) (λ q. refl) (λ j. refl) around know (mark k from until) (mark e from until) (λ q. refl) (omega arith) (omega arith) (λ j n a z y. same_number k e n (l.ints j) (λ q _. refl) y) h2))
    where
      filled : put l.env r (Refers t) r ≢ Empty
      filled z = let e : Refers t ≡ Empty = sym (put_same l.env r (Refers t)) ∙ z in cc

      known : (q : ℕ) → put l.known r true q ≡ true → put (put l.known r b) r true q ≡ true
      known q z = ⊎_elim (λ (e : q ≡ r). ap (put (put l.known r b) r true) e ∙ put_same (put l.known r b) r true) (λ (ne : q ≡ r → ⊥). put_other (put l.known r b) r q true ne ∙ put_other l.known r q b ne ∙ sym (put_other l.known r q true ne) ∙ z) (cases_eq q r)

  pub pointee_at : (i r : ℕ) (l : Label) → At i r l → (t : StaticType) (v : ℕ) (b : Bool) → IsNamed named r t → v ≤ r → (s : Mark) (until : ℕ) (site : Site) (xs : List Op) → P s xs (with_reference l r until t v b) → P s (pointee_code r site xs) (with_reference l r until t v true)
  pointee_at i r l at t v b fits copy s until site xs p = then_do s (with_reference l r until t v b) (with_reference l r until t v true) xs (Op.ChkNull r (at_site site) ∷ []) p (check_at i r l at t v b fits copy until (at_site site))
