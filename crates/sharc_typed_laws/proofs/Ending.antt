-- The ends of blocks.
use Rattle.sharc_typed_laws.proofs.{Imports.{◌≡◌, ◌≢◌, ℕ, ◌+◌, ◌<◌, ◌≤◌, ◌⊎◌, Bool, true, false, cond, ◌||◌, List, [], ◌∷◌, Some, refl, sym, ap, ◌∙◌, subst, inl, inr, ⊎_elim, arith, nat_tests, false≢true, cases_eq, cases_lt, put, put_other, put_all, Op, Slot, Context, int_count, ref_count, pops, Lock, Mentions, Names, SomeNames, Through, Entry, Empty, Refers, Unknown, Within, Closed, IsIn, Label, Less, LessEntry, LessNumber, LessGate, HasBase, EntryMentions, IsScoped, without_copies, without_index, names, some_names, forgotten, forgets, empty, ints_in, refs_in, less_entry_refl, less_number_refl, Mark, Setting, Way, AreOpen, LeadsAmong, AreLow, mark, Typing, StandsBefore, before, Grows, EndsAreTyped, none_some}, Standing.{less_by, scoped_frame, without_same, uncopied}, Telling.told, Moves.on_pop_named, Parts.{then_do, does, none}, After.forgotten_full}

-- ---- types that name a register are forgotten
names_are : (n : ℕ) (lock : Lock) → names n lock ≡ true → Names n lock
names_are n (Through q j) e = let w : q ≡ n = grind (arith, nat_tests, e) in w
names_are n _ e = absurd (false≢true e)

some_are : (n : ℕ) (list : List Lock) → some_names n list ≡ true → SomeNames n list
some_are n [] e = absurd (false≢true e)
some_are n (lock ∷ rest) e = by (names n lock) refl e (some_are n rest)
  where
    by : (b : Bool) → names n lock ≡ b → (b || some_names n rest) ≡ true → (some_names n rest ≡ true → SomeNames n rest) → SomeNames n (lock ∷ rest)
    by true is e others = inl (names_are n lock is)
    by false is e others = inr (others e)

pub forgotten_same : (n : ℕ) (e : Entry) → (EntryMentions e n → ⊥) → forgotten n e ≡ e
forgotten_same n (Refers s) none = by (some_names n s.locks) refl
  where
    by : (b : Bool) → some_names n s.locks ≡ b → cond b Unknown (Refers s) ≡ Refers s
    by true is = absurd (none (some_are n s.locks is))
    by false is = refl
forgotten_same n _ none = refl

-- what is not forgotten does not name it
pub forgotten_mentions : (n : ℕ) (e : Entry) (p : ℕ) → EntryMentions (forgotten n e) p → EntryMentions e p
forgotten_mentions n (Refers s) p h = by (some_names n s.locks) h
  where
    by : (b : Bool) → EntryMentions (cond b Unknown (Refers s)) p → Mentions s p
    by true h = absurd h
    by false h = h
forgotten_mentions n _ p h = h

names_is : (n : ℕ) (lock : Lock) → Names n lock → names n lock ≡ true
names_is n (Through q j) h = grind (arith, nat_tests, h)
names_is n _ h = absurd h

some_named : (n : ℕ) (list : List Lock) → SomeNames n list → some_names n list ≡ true
some_named n [] h = absurd h
some_named n (lock ∷ rest) h = ⊎_elim (λ (k : Names n lock). ap (λ b. b || some_names n rest) (names_is n lock k)) (λ (k : SomeNames n rest). either (names n lock) (some_named n rest k)) h
  where
    either : (b : Bool) → some_names n rest ≡ true → (b || some_names n rest) ≡ true
    either true e = refl
    either false e = e

pub forgotten_none : (n : ℕ) (e : Entry) → EntryMentions (forgotten n e) n → ⊥
forgotten_none n (Refers s) h = by (some_names n s.locks) refl h
  where
    by : (b : Bool) → some_names n s.locks ≡ b → EntryMentions (cond b Unknown (Refers s)) n → ⊥
    by true is h = h
    by false is h = false≢true (sym is ∙ some_named n s.locks h)
forgotten_none n _ h = h

module _ (z : Setting) (f : ℕ) (ways : List Way) (y : Typing) (c d : Context) (low : AreLow (y.named c) (ref_count c.scope)) (l : Label) (here : StandsBefore y c f l) (more : int_count c.scope ≤ int_count d.scope) where
  abbrev i1 : ℕ
  i1 = int_count c.scope

  abbrev r1 : ℕ
  r1 = ref_count c.scope

  abbrev i2 : ℕ
  i2 = int_count d.scope

  abbrev r2 : ℕ
  r2 = ref_count d.scope

  abbrev fi : ℕ
  fi = ints_in z.code (Some f)

  abbrev fr : ℕ
  fr = refs_in z.code (Some f)

  abbrev Q : Mark → List Op → Mark → Type 0
  Q = LeadsAmong z f ways

  -- those up to a register have been given up
  record Half (m : Label) (n : ℕ) : Type 0 where
    owned : m.function ≡ Some f
    closed : m.gate ≡ Closed
    below : (q : ℕ) → q < r1 → m.env q ≡ l.env q
    given : (q : ℕ) → r1 ≤ q → q < n → m.env q ≡ Empty
    free : (q : ℕ) → r2 ≤ q → m.env q ≡ Empty
    paths : (q p : ℕ) → EntryMentions (m.env q) p → (p < r1) ⊎ (n ≤ p)
    same : (q : ℕ) → m.same q ≡ q
    known : (q : ℕ) → m.known q ≡ true → ⊥
    ints : (j : ℕ) → j < i1 → m.ints j ≡ l.ints j
    bases : (j q : ℕ) → HasBase (m.ints j) q → ⊥
    passed : m.passed ≡ []
    room : m.room ≡ false

  popped : Label → ℕ → Label
  popped m n = record m { env = put (λ q. forgotten n (m.env q)) n Empty }

  still : (m : Label) (n q : ℕ) → r1 ≤ n → Half m n → q < r1 → forgotten n (m.env q) ≡ m.env q
  still m n q le h lt = forgotten_same n (m.env q) (λ w. let small = (here.stands.stands.paths q n (subst (λ e. EntryMentions e n) (h.below q lt) w)).0 in omega (arith, small, le))

  half_popped : (m : Label) (n : ℕ) → r1 ≤ n → Half m n → Half (popped m n) (n + 1)
  unfolding popped
  half_popped m n le h =
      let g : ℕ → Entry = λ q. forgotten n (m.env q) in record {
        owned = h.owned;
        closed = h.closed;
        below = λ q lt. put_other g n q Empty (λ e. omega (arith, e, lt, le)) ∙ still m n q le h lt ∙ h.below q lt;
        given = λ q a b. put_all (λ q x. r1 ≤ q → q < n + 1 → x ≡ Empty) g n Empty (λ _ _. refl) (λ q ne a b. ap (forgotten n) (h.given q a (omega (arith, ne, b)))) q a b;
        free = λ q ge. put_all (λ q x. r2 ≤ q → x ≡ Empty) g n Empty (λ _. refl) (λ q _ ge. ap (forgotten n) (h.free q ge)) q ge;
        paths = λ q p. put_all (λ q x. EntryMentions x p → (p < r1) ⊎ (n + 1 ≤ p)) g n Empty (λ w. absurd w) (λ q _ w. mentioned q p w) q;
        same = h.same;
        known = h.known;
        ints = h.ints;
        bases = h.bases;
        passed = h.passed;
        room = h.room;
      }
    where
      mentioned : (q p : ℕ) → EntryMentions (forgotten n (m.env q)) p → (p < r1) ⊎ (n + 1 ≤ p)
      mentioned q p w = ⊎_elim (λ (lt : p < r1). inl lt) (λ (ge : n ≤ p). ⊎_elim (λ (e : p ≡ n). absurd (forgotten_none n (m.env q) (subst (EntryMentions (forgotten n (m.env q))) e w))) (λ (ne : p ≡ n → ⊥). inr (omega (arith, ge, ne))) (cases_eq p n)) (h.paths q p (forgotten_mentions n (m.env q) p w))

  scoped_popped : (m : Label) (n : ℕ) → r1 ≤ n → Half m n → IsScoped fi fr m → IsScoped fi fr (popped m n)
  unfolding popped
  scoped_popped m n le h s =
      let g : ℕ → Entry = λ q. forgotten n (m.env q) in record {
        few = λ q ge. put_all (λ q x. fr ≤ q → x ≡ Empty) g n Empty (λ _. refl) (λ q _ ge. ap (forgotten n) (s.few q ge)) q ge;
        paths = λ q p w. put_all (λ q x. EntryMentions x p → put g n Empty p ≢ Empty) g n Empty (λ w. absurd w) (λ q _ w. full q p w) q w;
        copies = λ q. inl (h.same q);
        bases = λ j q b. absurd (h.bases j q b);
        known = λ q b. absurd (h.known q b);
        passes = λ p q b _. absurd (subst (IsIn p) h.passed b);
        numbers = s.numbers;
      }
    where
      full : (q p : ℕ) → EntryMentions (forgotten n (m.env q)) p → put (λ q. forgotten n (m.env q)) n Empty p ≢ Empty
      full q p w e =
          let ne : p ≡ n → ⊥ = λ e. forgotten_none n (m.env q) (subst (EntryMentions (forgotten n (m.env q))) e w) in
          forgotten_full n (m.env p) (s.paths q p (forgotten_mentions n (m.env q) p w)) (sym (put_other (λ q. forgotten n (m.env q)) n p Empty ne) ∙ e)

  less_popped : (m : Label) (n : ℕ) → Half m n → Less (empty (forgets m n) n) (popped m n)
  unfolding popped
  less_popped m n h = less_by (empty (forgets m n) n) (popped m n) refl (λ q. less_entry_refl (empty (forgets m n) n) q (put (λ q. forgotten n (m.env q)) n Empty q))
      (λ q. sym (put_all (λ q x. x ≡ m.same q) (without_copies m.same n) n n (sym (h.same n)) (λ q ne. uncopied m.same n q (λ e. ne (sym (h.same q) ∙ e))) q))
      (λ q e. absurd (h.known q e))
      (λ j. subst (λ x. LessNumber (without_index n (m.ints j)) x) (without_same n (m.ints j) (λ b. h.bases j n b)) (less_number_refl (without_index n (m.ints j))))
      (subst (λ g. LessGate Closed g) (sym h.closed) tt) h.passed (λ e. e)

  pop : (m : Label) (n : ℕ) → r1 ≤ n → Half m n → Q (mark m i2 i2) (Op.Pop n ∷ []) (mark (popped m n) i2 i2)
  unfolding popped
  pop m n le h = does z f (AreOpen z ways) (y.named c) r1 low i2 (mark m i2 i2) (Op.Pop n) (mark (popped m n) i2 i2) (λ _ s. scoped_popped m n le h s)
      (λ table pc in_it s next. on_pop_named z f table pc (mark m i2 i2) (mark (popped m n) i2 i2) next (record { owned = h.owned; scoped = s }) n h.closed (subst (λ o. n < refs_in z.code o) (sym h.owned) in_it) (less_popped m n h)
      (λ _ know t. told z.targets (Op.Pop n) know (mark m i2 i2) (mark (popped m n) i2 i2) t (λ q v _ e. absurd (none_some v e)) (λ q _ _. refl) (λ j v _ _ a. absurd (false≢true a)) (λ j v a b _ _. absurd (nowhere j a b))))
    where
      nowhere : (j : ℕ) → i2 ≤ j → j < i2 → ⊥
      nowhere j a b = omega (arith, a, b)

  -- all of them
  whole : (m : Label) → Half m r2 → Q (mark m i2 i2) [] (before c l)
  whole m h = none z f (AreOpen z ways) (y.named c) r1 low i2 (mark m i2 i2) (before c l) (record { less = less; tells = λ k t. record { copies = λ q v e. here.bare.0 q ∙ sym (h.same q) ∙ t.copies q v e; numbers = λ j n a b _. absurd (nowhere j a b) } })
      (λ s. scoped_frame (y.named c) i1 r1 l here.stands.stands fi fr (λ q ge. ⊎_elim (λ (lt : q < r1). sym (h.below q lt) ∙ s.few q ge) (λ over. here.stands.stands.free q over) (cases_lt q r1))
      (λ j ge. ⊎_elim (λ (lt : j < i1). sym (h.ints j lt) ∙ s.numbers j ge) (λ over. here.stands.stands.numbers j over) (cases_lt j i1)))
    where
      nowhere : (j : ℕ) → i1 ≤ j → j < i1 → ⊥
      nowhere j a b = omega (arith, a, b)

      gone : (q : ℕ) → r1 ≤ q → m.env q ≡ Empty
      gone q ge = ⊎_elim (λ (lt : q < r2). h.given q ge lt) (λ over. h.free q over) (cases_lt q r2)

      entry : (q : ℕ) → m.env q ≡ l.env q
      entry q = ⊎_elim (λ (lt : q < r1). h.below q lt) (λ over. gone q over ∙ sym (here.stands.stands.free q over)) (cases_lt q r1)

      number : (j : ℕ) → LessNumber (m.ints j) (l.ints j)
      number j = ⊎_elim (λ (lt : j < i1). subst (LessNumber (m.ints j)) (h.ints j lt) (less_number_refl (m.ints j))) (λ over. subst (LessNumber (m.ints j)) (sym (here.stands.stands.numbers j over)) tt) (cases_lt j i1)

      less : Less m l
      less = less_by m l (here.stands.owned ∙ sym h.owned) (λ q. subst (LessEntry m q (m.env q)) (entry q) (less_entry_refl m q (m.env q))) (λ q. here.bare.0 q ∙ sym (h.same q)) (λ q e. absurd (here.bare.1 q e)) number
          (subst (λ g. LessGate g l.gate) (sym h.closed) (subst (LessGate Closed) (sym here.stands.stands.closed) tt)) here.stands.stands.nothing_passed (λ e. absurd (false≢true (sym here.stands.stands.no_room ∙ e)))

  ends : (slots : List Slot) (n : ℕ) (m : Label) → r1 ≤ n → n + ref_count slots ≡ r2 → Half m n → Q (mark m i2 i2) (pops n slots) (before c l)
  ends [] n m le count h = whole m (subst (Half m) (let e : n ≡ r2 = omega (arith, count) in e) h)
  ends (x ∷ rest) n m le count h = by x.is_pointer count (λ n m le count h. ends rest n m le count h)
    where
      by : (b : Bool) → n + cond b (ref_count rest + 1) (ref_count rest) ≡ r2 → ((n : ℕ) (m : Label) → r1 ≤ n → n + ref_count rest ≡ r2 → Half m n → Q (mark m i2 i2) (pops n rest) (before c l))
          → Q (mark m i2 i2) (cond b (Op.Pop n ∷ pops (n + 1) rest) (pops n rest)) (before c l)
      by true count others = then_do z f (AreOpen z ways) (y.named c) r1 low i2 (mark m i2 i2) (mark (popped m n) i2 i2) (before c l) (Op.Pop n ∷ []) (pops (n + 1) rest) (pop m n le h)
          (others (n + 1) (popped m n) (omega (arith, le)) (omega (arith, count)) (half_popped m n le h))
      by false count others = others n m le count h

  begins : (k : Label) (slots : List Slot) → Grows y c d slots → r1 ≤ r2 → StandsBefore y d f k → Half k r1
  begins k slots keeps le h =
      let bare = h.bare in record {
        owned = h.stands.owned;
        closed = h.stands.stands.closed;
        below = λ q lt. h.stands.holds.references q (omega (arith, lt, le)) ∙ ap Refers (keeps.pointers q lt) ∙ sym (here.stands.holds.references q lt);
        given = λ q a b. absurd (nowhere q a b);
        free = λ q ge. h.stands.stands.free q ge;
        paths = λ q p w. ⊎_elim (λ (lt : p < r1). inl lt) (λ over. inr over) (cases_lt p r1);
        same = bare.0;
        known = bare.1;
        ints = λ j lt. h.stands.holds.integers j (omega (arith, lt, more)) ∙ ap Within (keeps.widths j lt) ∙ sym (here.stands.holds.integers j lt);
        bases = bare.2;
        passed = h.stands.stands.nothing_passed;
        room = h.stands.stands.no_room;
      }
    where
      nowhere : (q : ℕ) → r1 ≤ q → q < r1 → ⊥
      nowhere q a b = omega (arith, a, b)

pub ends_typed : EndsAreTyped
ends_typed z f ways y c d slots low grows l k here there =
    let count = grows.refs in
    ends z f ways y c d low l here grows.ints slots (ref_count c.scope) k (omega arith) grows.refs (begins z f ways y c d low l here grows.ints k slots grows (omega (arith, count)) there)
