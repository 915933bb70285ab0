-- Labels of frames of which so many registers are taken: what they are after a register is filled, emptied or numbered.
use Rattle.sharc_typed_laws.proofs.Imports.{◌≡◌, ◌≢◌, ℕ, ◌+◌, ◌<◌, ◌≤◌, Bool, true, false, cond, [], refl, sym, ap, ◌∙◌, subst, inl, inr, ⊎_elim, arith, cases_eq, cases_lt, nat_tests, nat_eq, put, put_same, put_other, put_all, StaticType, Entry, Empty, Refers, Number, Anything, OfElement, Gate, Closed, IsIn, Label, Less, IsCopy, LessEntry, LessNumber, LessGate, EntryMentions, HasBase, IsScoped, IsFree, set_number, fill, empty, without_copies, without_index, less_entry_refl, less_number_refl, less_gate_refl, RegistersStand, IsNamed}

-- ---- less, register by register
pub less_by : (a b : Label) → b.function ≡ a.function → ((r : ℕ) → LessEntry a r (a.env r) (b.env r)) → ((r : ℕ) → b.same r ≡ a.same r) → ((r : ℕ) → b.known r ≡ true → a.known r ≡ true) → ((r : ℕ) → LessNumber (a.ints r) (b.ints r))
    → LessGate a.gate b.gate → b.passed ≡ [] → (b.room ≡ true → a.room ≡ true) → Less a b
less_by a b function env same known ints gate passed room = record {
  function = function;
  env = env;
  same = λ r. IsCopy (sym (same r));
  known = known;
  ints = ints;
  gate = gate;
  passed = λ p h. absurd (subst (IsIn p) passed h);
  room = room;
}

pub entry_is : (l : Label) (r : ℕ) (a b : Entry) → a ≡ b → LessEntry l r a b
entry_is l r a b e = subst (LessEntry l r a) e (less_entry_refl l r a)

pub number_is : (a b : Number) → a ≡ b → LessNumber a b
number_is a b e = subst (LessNumber a) e (less_number_refl a)

gate_is : (a b : Gate) → a ≡ b → LessGate a b
gate_is a b e = subst (LessGate a) e (less_gate_refl a)

-- ---- a register that nothing names
pub record Unnamed (l : Label) (r : ℕ) : Type 0 where
  pub empty : l.env r ≡ Empty
  pub alone : l.same r ≡ r
  pub apart : (q : ℕ) → (q ≡ r → ⊥) → l.same q ≡ r → ⊥
  pub unknown : l.known r ≡ true → ⊥
  pub unbased : (j : ℕ) → HasBase (l.ints j) r → ⊥
  pub closed : l.gate ≡ Closed
  pub nothing_passed : l.passed ≡ []

pub without_same : (r : ℕ) (n : Number) → (HasBase n r → ⊥) → without_index r n ≡ n
without_same r (OfElement base field e) none = by (nat_eq base r) refl
  where
    by : (b : Bool) → nat_eq base r ≡ b → cond b Anything (OfElement base field e) ≡ OfElement base field e
    by true e = let z : base ≡ r = grind (arith, nat_tests, e) in absurd (none z)
    by false e = refl
without_same r _ none = refl

pub uncopied : (same : ℕ → ℕ) (r q : ℕ) → (same q ≡ r → ⊥) → without_copies same r q ≡ same q
uncopied same r q apart = by (nat_eq (same q) r) refl
  where
    by : (b : Bool) → nat_eq (same q) r ≡ b → cond b q (same q) ≡ same q
    by true e = let z : same q ≡ r = grind (arith, nat_tests, e) in absurd (apart z)
    by false e = refl

-- it is filled, and given up again
pub less_emptied : (l : Label) (r : ℕ) → Unnamed l r → (entry : Entry) (c : ℕ) (b : Bool) → Less (empty (fill l r entry c b) r) l
less_emptied l r h entry c b =
    let k = fill l r entry c b in
    less_by (empty k r) l refl
    (λ q. entry_is (empty k r) q ((empty k r).env q) (l.env q) (⊎_elim (λ (e : q ≡ r). ap (put k.env r Empty) e ∙ put_same k.env r Empty ∙ sym h.empty ∙ ap l.env (sym e)) (λ ne. put_other k.env r q Empty ne ∙ put_other l.env r q entry ne) (cases_eq q r)))
    (λ q. sym (⊎_elim (λ (e : q ≡ r). ap (put (without_copies k.same r) r r) e ∙ put_same (without_copies k.same r) r r ∙ sym h.alone ∙ ap l.same (sym e))
    (λ ne. let there : k.same q ≡ l.same q = put_other l.same r q c ne in put_other (without_copies k.same r) r q r ne ∙ uncopied k.same r q (λ z. h.apart q ne (sym there ∙ z)) ∙ there) (cases_eq q r)))
    (λ q e. put_all (λ q y. l.known q ≡ true → y ≡ true) k.known r false (λ z. absurd (h.unknown z)) (λ q ne z. put_other l.known r q b ne ∙ z) q e)
    (λ j. number_is (without_index r (l.ints j)) (l.ints j) (without_same r (l.ints j) (h.unbased j)))
    (gate_is Closed l.gate (sym h.closed)) h.nothing_passed (λ e. e)

-- with anything in the integer registers that are of no use
pub less_emptied_over : (l : Label) (r : ℕ) → Unnamed l r → (entry : Entry) (c : ℕ) (b : Bool) (g : ℕ → Number) (gate : Gate) (room : Bool) → ((j : ℕ) → LessNumber (without_index r (g j)) (l.ints j)) → (l.room ≡ true → ⊥)
    → Less (record (empty (record (fill l r entry c b) { ints = g; gate = gate; room = room }) r) { room = false }) l
less_emptied_over l r h entry c b g gate room ints none =
    let k : Label = record (fill l r entry c b) { ints = g; gate = gate; room = room } in
    let m : Label = record (empty k r) { room = false } in
    less_by m l refl
    (λ q. entry_is m q (m.env q) (l.env q) (⊎_elim (λ (e : q ≡ r). ap (put k.env r Empty) e ∙ put_same k.env r Empty ∙ sym h.empty ∙ ap l.env (sym e)) (λ ne. put_other k.env r q Empty ne ∙ put_other l.env r q entry ne) (cases_eq q r)))
    (λ q. sym (⊎_elim (λ (e : q ≡ r). ap (put (without_copies k.same r) r r) e ∙ put_same (without_copies k.same r) r r ∙ sym h.alone ∙ ap l.same (sym e))
    (λ ne. let there : k.same q ≡ l.same q = put_other l.same r q c ne in put_other (without_copies k.same r) r q r ne ∙ uncopied k.same r q (λ z. h.apart q ne (sym there ∙ z)) ∙ there) (cases_eq q r)))
    (λ q e. put_all (λ q y. l.known q ≡ true → y ≡ true) k.known r false (λ z. absurd (h.unknown z)) (λ q ne z. put_other l.known r q b ne ∙ z) q e)
    ints (gate_is Closed l.gate (sym h.closed)) h.nothing_passed (λ e. absurd (none e))

-- the lower of two is given up
pub less_lower : (l : Label) (r : ℕ) → Unnamed l r → (a b : Entry) (v w : ℕ) (x y : Bool) → (w ≡ r → ⊥) → Less (empty (fill (fill l r a v x) (r + 1) b w y) r) (fill l (r + 1) b w y)
less_lower l r h a b v w x y other =
    let one = fill l r a v x in
    let two = fill one (r + 1) b w y in
    let k = fill l (r + 1) b w y in
    let apart : r ≡ r + 1 → ⊥ = λ e. omega (arith, e) in
    less_by (empty two r) k refl
    (λ q. entry_is (empty two r) q ((empty two r).env q) (k.env q)
    (⊎_elim (λ (e : q ≡ r). ap (put two.env r Empty) e ∙ put_same two.env r Empty ∙ sym (ap k.env e ∙ put_other l.env (r + 1) r b apart ∙ h.empty))
    (λ ne. put_other two.env r q Empty ne ∙ swap l.env a b q ne) (cases_eq q r)))
    (λ q. sym (⊎_elim (λ (e : q ≡ r). ap (put (without_copies two.same r) r r) e ∙ put_same (without_copies two.same r) r r ∙ sym (ap k.same e ∙ put_other l.same (r + 1) r w apart ∙ h.alone))
    (λ ne. let there : two.same q ≡ k.same q = swap l.same v w q ne in
    put_other (without_copies two.same r) r q r ne ∙ uncopied two.same r q (λ z. copied q ne (sym there ∙ z)) ∙ there) (cases_eq q r)))
    (λ q e. put_all (λ q z. k.known q ≡ true → z ≡ true) two.known r false (λ z. absurd (h.unknown (sym (put_other l.known (r + 1) r y apart) ∙ z))) (λ q ne z. swap l.known x y q ne ∙ z) q e)
    (λ j. number_is (without_index r (l.ints j)) (l.ints j) (without_same r (l.ints j) (h.unbased j)))
    tt h.nothing_passed (λ e. e)
  where
    swap : {A : Type 0} (g : ℕ → A) (a b : A) (q : ℕ) → (q ≡ r → ⊥) → put (put g r a) (r + 1) b q ≡ put g (r + 1) b q
    swap g a b q ne = ⊎_elim (λ (e : q ≡ r + 1). ap (put (put g r a) (r + 1) b) e ∙ put_same (put g r a) (r + 1) b ∙ sym (ap (put g (r + 1) b) e ∙ put_same g (r + 1) b))
        (λ other. put_other (put g r a) (r + 1) q b other ∙ put_other g r q a ne ∙ sym (put_other g (r + 1) q b other)) (cases_eq q (r + 1))

    copied : (q : ℕ) → (q ≡ r → ⊥) → put l.same (r + 1) w q ≡ r → ⊥
    copied q ne = put_all (λ q z. (q ≡ r → ⊥) → z ≡ r → ⊥) l.same (r + 1) w (λ _ e. other e) (λ q _ ne e. h.apart q ne e) q ne

module _ (named : ℕ → Bool) (i r : ℕ) (l : Label) (h : RegistersStand named i r l) where
  -- ---- scoped
  pub scoped_frame : (ints refs : ℕ) → ((q : ℕ) → refs ≤ q → l.env q ≡ Empty) → ((j : ℕ) → ints ≤ j → l.ints j ≡ Anything) → IsScoped ints refs l
  scoped_frame ints refs few numbers = record {
    few = few;
    paths = λ q p m. h.full p (h.paths q p m).0;
    copies = λ q. ⊎_elim (λ (lt : q < r). inr (h.full (l.same q) (h.copies q lt))) (λ ge. inl (h.alone q ge)) (cases_lt q r);
    bases = λ j q b. h.full q (h.bases j q b);
    known = λ q e. h.full q (h.known q e);
    passes = λ p q among e. absurd (subst (IsIn p) h.nothing_passed among);
    numbers = numbers;
  }

  -- nothing names a register that is free
  pub unnamed : (q : ℕ) → r ≤ q → Unnamed l q
  unnamed q le = record {
    empty = h.free q le;
    alone = h.alone q le;
    apart = λ p ne e. ⊎_elim (λ (lt : p < r). let z = h.copies p lt in omega (arith, z, e, le)) (λ ge. ne (sym (h.alone p ge) ∙ e)) (cases_lt p r);
    unknown = λ e. let z = h.known q e in omega (arith, z, le);
    unbased = λ j b. let z = h.bases j q b in omega (arith, z, le);
    closed = h.closed;
    nothing_passed = h.nothing_passed;
  }

  -- ---- numbers
  pub stands_number : (n : Number) → ((q : ℕ) → HasBase n q → q < r) → RegistersStand named (i + 1) r (set_number l i n)
  stands_number n base = record {
    closed = refl;
    free = h.free;
    full = h.full;
    alone = h.alone;
    copies = h.copies;
    known = h.known;
    paths = h.paths;
    numbers = λ j le. put_other l.ints i j n (λ e. omega (arith, e, le)) ∙ h.numbers j (omega (arith, le));
    bases = put_all (λ j y. (q : ℕ) → HasBase y q → q < r) l.ints i n base (λ j _. h.bases j);
    nothing_passed = h.nothing_passed;
    no_room = h.no_room;
  }

  -- what is written after those that are taken is forgotten
  pub less_number : (n : Number) → Less (set_number l i n) l
  less_number n = less_by (set_number l i n) l refl (λ q. less_entry_refl (set_number l i n) q (l.env q)) (λ q. refl) (λ q e. e)
      (λ j. put_all (λ j y. LessNumber y (l.ints j)) l.ints i n (subst (LessNumber n) (sym (h.numbers i (omega arith))) tt) (λ j _. less_number_refl (l.ints j)) j)
      (gate_is Closed l.gate (sym h.closed)) h.nothing_passed (λ e. e)

  -- ---- references
  module _ (s : StaticType) (c : ℕ) (b : Bool) (fits : IsNamed named r s) (copy : c ≤ r) where
    abbrev k : Label
    k = fill l r (Refers s) c b

    pub stands_fill : RegistersStand named i (r + 1) k
    stands_fill = record {
      closed = refl;
      free = λ q le. put_other l.env r q (Refers s) (λ e. omega (arith, e, le)) ∙ h.free q (omega (arith, le));
      full = put_all (λ q y. q < r + 1 → y ≢ Empty) l.env r (Refers s) (λ _ e. let z : Refers s ≡ Empty = e in absurd (cc)) (λ q ne lt. h.full q (omega (arith, ne, lt)));
      alone = λ q le. put_other l.same r q c (λ e. omega (arith, e, le)) ∙ h.alone q (omega (arith, le));
      copies = put_all (λ q y. q < r + 1 → y < r + 1) l.same r c (λ _. omega (arith, copy)) (λ q ne lt. let z = h.copies q (omega (arith, ne, lt)) in omega (arith, z));
      known = put_all (λ q y. y ≡ true → q < r + 1) l.known r b (λ _. omega arith) (λ q _ e. let z = h.known q e in omega (arith, z));
      paths = λ q p. put_all (λ q y. EntryMentions y p → (p < r + 1) × (named p ≡ true)) l.env r (Refers s) (λ m. let z = fits p m in let y = z.0 in (omega (arith, y), z.1)) (λ q _ m. let z = h.paths q p m in let y = z.0 in (omega (arith, y), z.1)) q;
      numbers = h.numbers;
      bases = λ j q m. let z = h.bases j q m in omega (arith, z);
      nothing_passed = h.nothing_passed;
      no_room = h.no_room;
    }

    -- nothing names it
    pub free_fill : (top : ℕ) → ((p : ℕ) → named p ≡ true → p < top) → top ≤ r → IsFree k r
    free_fill top low le = record { paths = λ q ne m. put_all (λ q y. (q ≡ r → ⊥) → EntryMentions y r → ⊥) l.env r (Refers s) (λ no _. no refl) (λ q _ no m. let z = low r (h.paths q r m).1 in omega (arith, z, le)) q ne m }
