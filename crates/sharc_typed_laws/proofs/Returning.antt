-- Returns: the variables are given up below the value, which then goes to the first register.
use Rattle.sharc_typed_laws.proofs.{Imports.{◌≡◌, ◌≢◌, ℕ, ◌+◌, ◌<◌, ◌≤◌, ◌==◌, ◌⊎◌, Bool, true, false, cond, ◌&&◌, ◌||◌, List, [], ◌∷◌, ◌++◌, drop, Some, refl, sym, ap, ◌∙◌, subst, inl, inr, ⊎_elim, arith, append_assoc, eqb-true, pos, false≢true, ltb-true, cases_eq, cases_lt, either_false, nat_eq, nat_lt, span_of, Expression, value, Kind, object, is_integer, is_integral, Width, put, put_same, put_other, put_all, private, is_reference, Op, Spot, Slot, Context, int_count, ref_count, pops, ends_from, leaves, width_of, width_code, expression_code, zero_code, result_code, Know, know_next, StaticType, Mentions, Entry, Empty, Refers, Number, Anything, Exactly, Within, Closed, IsIn, Label, Less, Itself, LessEntry, LessNumber, LessGate, EntryMentions, HasBase, IsScoped, IsFree, set_number, fill, empty, forgets, forgotten, without_copies, without_index, without_base, ints_in, refs_in, moved_copy, less_refl, less_entry_refl, less_number_refl, scoped_number, Mark, Setting, Way, Tells, Fits, IsLine, AreOpen, LeadsAmong, AreLow, mark, Typing, ValueGoes, RightTypable, StandsBefore, before, back, AreNested, GivesBackBy, GivesBack, ReturnedBy, ReturnTypable, Returns, NothingReturns, ValuesReturn, none_some}, Fitting.fits_same, Standing.{without_same, uncopied}, Telling.{told, other_than}, Rules.on_move, Moves.{on_pop_named, on_move_reference, on_stay}, Handing.on_return, Parts.{At, does, then_do, none, constant_at}, Accessed.Frame, Expressing.{bare_frame, null_at}, Simple.{Comes, reference_kept, number_kept, rights}, Ending.{forgotten_same, forgotten_mentions, forgotten_none}, Declaring.zero_fits, Leaving.leaves_typed, After.forgotten_full}

-- what is a reference is no integer
pub no_integer : (k : Kind) → is_reference k ≡ true → is_integer k ≡ false
no_integer (object b n) h = by (nat_lt 0 n) refl h
  where
    apart : (z : Bool) → (n == 0) ≡ z → 0 < n → (z && is_integral b) ≡ false
    apart true same lt = let none = eqb-true n 0 same in absurd (omega (arith, none, lt))
    apart false same lt = refl

    by : (z : Bool) → nat_lt 0 n ≡ z → (z || false) ≡ true → is_integer (object b n) ≡ false
    by true low h = apart (n == 0) refl (ltb-true 0 n low)
    by false low h = absurd (false≢true h)
no_integer _ h = refl

module _ (z : Setting) (f : ℕ) (ways : List Way) where
  abbrev fi : ℕ
  fi = ints_in z.code (Some f)

  abbrev fr : ℕ
  fr = refs_in z.code (Some f)

  abbrev Q : Mark → List Op → Mark → Type 0
  Q = LeadsAmong z f ways

  abbrev no_names : ℕ → Bool
  no_names q = false

  none_low : (p : ℕ) → false ≡ true → p < 0
  none_low p e = absurd (false≢true e)

  joins : (s m e : Mark) (xs ys : List Op) → Q s xs m → Q m ys e → Q s (xs ++ ys) e
  joins s m e xs ys = then_do z f (AreOpen z ways) no_names 0 none_low 0 s m e xs ys

  stays : (s : Mark) → Q s [] s
  stays s = none z f (AreOpen z ways) no_names 0 none_low 0 s s (fits_same z.targets s) (λ h. h)

  nowhere : (i j : ℕ) → i ≤ j → j < i → ⊥
  nowhere i j a b = omega (arith, a, b)

  -- code before
  after : (s m : Mark) (xs ys : List Op) (spot : Spot) → Q s xs m → Returns z f ways m ys spot → Returns z f ways s (xs ++ ys) spot
  after s m xs ys spot p w = record { mark = w.mark; leads = joins s m w.mark xs ys p w.leads; returns = w.returns }

  -- ---- where this entry is in register r, and these numbers in the integer registers
  module _ (entry : Entry) (plain : (p : ℕ) → EntryMentions entry p → ⊥) (numbers : ℕ → Number) (unbased : (j q : ℕ) → HasBase (numbers j) q → ⊥) (i r : ℕ) where
    -- the registers from the first one up to the second, and from the third one on, hold nothing more
    record Gone (m : Label) (lo n hi : ℕ) : Type 0 where
      owned : m.function ≡ Some f
      closed : m.gate ≡ Closed
      passed : m.passed ≡ []
      given : (q : ℕ) → (q ≡ r → ⊥) → ((lo ≤ q) × (q < n)) ⊎ (hi ≤ q) → m.env q ≡ Empty
      kept : m.env r ≡ entry
      ints : (j : ℕ) → m.ints j ≡ numbers j
      same : (q : ℕ) → (q ≡ r → ⊥) → m.same q ≡ q
      known : (q : ℕ) → m.known q ≡ true → ⊥

    abbrev popped : Label → ℕ → Label
    popped m n = empty (forgets m n) n

    gone_popped : (m : Label) (lo n hi : ℕ) → (n ≡ r → ⊥) → Gone m lo n hi → Gone (popped m n) lo (n + 1) hi
    gone_popped m lo n hi other h =
        let g : ℕ → Entry = λ q. forgotten n (m.env q) in record {
          owned = h.owned;
          closed = refl;
          passed = ap (without_base n) h.passed;
          given = λ q ne at. ⊎_elim (λ (e : q ≡ n). ap (put g n Empty) e ∙ put_same g n Empty) (λ (no : q ≡ n → ⊥). put_other g n q Empty no ∙ ap (forgotten n) (h.given q ne (narrow q no at))) (cases_eq q n);
          kept = put_other g n r Empty (λ e. other (sym e)) ∙ forgotten_same n (m.env r) (λ w. plain n (subst (λ x. EntryMentions x n) h.kept w)) ∙ h.kept;
          ints = λ j. without_same n (m.ints j) (λ b. unbased j n (subst (λ x. HasBase x n) (h.ints j) b)) ∙ h.ints j;
          same = λ q ne. ⊎_elim (λ (e : q ≡ n). ap (put (without_copies m.same n) n n) e ∙ put_same (without_copies m.same n) n n ∙ sym e)
              (λ (no : q ≡ n → ⊥). put_other (without_copies m.same n) n q n no ∙ uncopied m.same n q (λ e. no (sym (h.same q ne) ∙ e)) ∙ h.same q ne) (cases_eq q n);
          known = λ q e. put_all (λ q x. x ≡ true → ⊥) m.known n false (λ e. false≢true e) (λ q _ e. h.known q e) q e;
        }
      where
        narrow : (q : ℕ) → (q ≡ n → ⊥) → ((lo ≤ q) × (q < n + 1)) ⊎ (hi ≤ q) → ((lo ≤ q) × (q < n)) ⊎ (hi ≤ q)
        narrow q ne at = ⊎_elim (λ (w : (lo ≤ q) × (q < n + 1)). let lt = w.1 in inl (w.0, omega (arith, lt, ne))) (λ (w : hi ≤ q). inr w) at

    scoped_popped : (m : Label) (lo n hi : ℕ) → (n ≡ r → ⊥) → Gone m lo n hi → IsScoped fi fr m → IsScoped fi fr (popped m n)
    scoped_popped m lo n hi other h s =
        let g : ℕ → Entry = λ q. forgotten n (m.env q) in
        let k = gone_popped m lo n hi other h in
        record {
          few = λ q ge. put_all (λ q x. fr ≤ q → x ≡ Empty) g n Empty (λ _. refl) (λ q _ ge. ap (forgotten n) (s.few q ge)) q ge;
          paths = λ q p w. put_all (λ q x. EntryMentions x p → put g n Empty p ≢ Empty) g n Empty (λ w. absurd w) (λ q _ w. full q p w) q w;
          copies = λ q. ⊎_elim (λ (e : q ≡ n). inl (ap (put (without_copies m.same n) n n) e ∙ put_same (without_copies m.same n) n n ∙ sym e))
              (λ (no : q ≡ n → ⊥). subst (λ x. (x ≡ q) ⊎ (put g n Empty x ≢ Empty)) (sym (put_other (without_copies m.same n) n q n no)) (copied q (nat_eq (m.same q) n) refl)) (cases_eq q n);
          bases = λ j q b. absurd (unbased j q (subst (λ x. HasBase x q) (k.ints j) b));
          known = λ q b. absurd (k.known q b);
          passes = λ p q b _. absurd (subst (IsIn p) k.passed b);
          numbers = λ j ge. ap (without_index n) (s.numbers j ge);
        }
      where
        full : (q p : ℕ) → EntryMentions (forgotten n (m.env q)) p → put (λ q. forgotten n (m.env q)) n Empty p ≢ Empty
        full q p w e =
            let ne : p ≡ n → ⊥ = λ e. forgotten_none n (m.env q) (subst (EntryMentions (forgotten n (m.env q))) e w) in
            forgotten_full n (m.env p) (s.paths q p (forgotten_mentions n (m.env q) p w)) (sym (put_other (λ q. forgotten n (m.env q)) n p Empty ne) ∙ e)

        copied : (q : ℕ) (b : Bool) → nat_eq (m.same q) n ≡ b → (cond b q (m.same q) ≡ q) ⊎ (put (λ q. forgotten n (m.env q)) n Empty (cond b q (m.same q)) ≢ Empty)
        copied q true is = inl refl
        copied q false is = ⊎_elim (λ (e : m.same q ≡ q). inl e)
            (λ (k : m.env (m.same q) ≢ Empty). inr (λ e. forgotten_full n (m.env (m.same q)) k (sym (put_other (λ q. forgotten n (m.env q)) n (m.same q) Empty (other_than (m.same q) n is)) ∙ e))) (s.copies q)

    pop : (m : Label) (lo n hi : ℕ) → (n ≡ r → ⊥) → Gone m lo n hi → Q (mark m i i) (Op.Pop n ∷ []) (mark (popped m n) i i)
    pop m lo n hi other h = does z f (AreOpen z ways) no_names 0 none_low i (mark m i i) (Op.Pop n) (mark (popped m n) i i) (λ _ s. scoped_popped m lo n hi other h s)
        (λ table pc in_it s next. on_pop_named z f table pc (mark m i i) (mark (popped m n) i i) next (record { owned = h.owned; scoped = s }) n h.closed (subst (λ o. n < refs_in z.code o) (sym h.owned) in_it) (less_refl (popped m n))
        (λ _ know t. told z.targets (Op.Pop n) know (mark m i i) (mark (popped m n) i i) t (λ q v _ e. absurd (none_some v e))
        (λ q a b. put_other (without_copies m.same n) n q n (other_than q n a) ∙ uncopied m.same n q (other_than (m.same q) n b))
        (λ j v _ _ a. absurd (false≢true a)) (λ j v a b _ _. absurd (nowhere i j a b))))

    -- what is left of them after such code
    record Leaves (m : Label) (os : List Op) (lo n hi : ℕ) : Type 0 where
      label : Label
      gone : Gone label lo n hi
      leads : Q (mark m i i) os (mark label i i)

    ends : (slots : List Slot) (lo n hi : ℕ) (m : Label) → n + ref_count slots ≡ hi → hi ≤ r → Gone m lo n hi → Leaves m (pops n slots) lo hi hi
    ends [] lo n hi m count le h = record { label = m; gone = subst (λ k. Gone m lo k hi) (let e : n ≡ hi = omega (arith, count) in e) h; leads = stays (mark m i i) }
    ends (x ∷ rest) lo n hi m count le h = by x.is_pointer count (λ n m count h. ends rest lo n hi m count le h)
      where
        by : (b : Bool) → n + cond b (ref_count rest + 1) (ref_count rest) ≡ hi → ((n : ℕ) (m : Label) → n + ref_count rest ≡ hi → Gone m lo n hi → Leaves m (pops n rest) lo hi hi)
            → Leaves m (cond b (Op.Pop n ∷ pops (n + 1) rest) (pops n rest)) lo hi hi
        by true count others =
            let other : n ≡ r → ⊥ = λ e. omega (arith, e, count, le) in
            let w = others (n + 1) (popped m n) (omega (arith, count)) (gone_popped m lo n hi other h) in
            record { label = w.label; gone = w.gone; leads = joins (mark m i i) (mark (popped m n) i i) (mark w.label i i) (Op.Pop n ∷ []) (pops (n + 1) rest) (pop m lo n hi other h) w.leads }
        by false count others = others n m count h

    -- blocks end one after the other
    leave : (y : Typing) (d : Context) (k : Label) (inside : List ℕ) (c : Context) (l : Label) → AreNested y f c l inside d k → (m : Label) → ref_count c.scope ≤ r → Gone m (ref_count c.scope) (ref_count c.scope) (ref_count c.scope)
        → Leaves m (leaves c.scope inside) (ref_count d.scope) (ref_count d.scope) (ref_count d.scope)
    leave y d k [] c l h m le gone = subst (λ e. Leaves m [] (ref_count e.scope) (ref_count e.scope) (ref_count e.scope)) h.0 (record { label = m; gone = gone; leads = stays (mark m i i) })
    leave y d k (n ∷ outer) c l h m le gone =
        let b = back c n in
        let lo = ref_count b.scope in
        let hi = ref_count c.scope in
        let count = h.2.refs in
        let w = ends (drop n c.scope) lo lo hi m count le (less_gone m lo hi gone) in
        let v = leave y d k outer b h.0 h.4 w.label (omega (arith, le, count)) (more_gone w.label lo hi w.gone) in
        record { label = v.label; gone = v.gone; leads = joins (mark m i i) (mark w.label i i) (mark v.label i i) (ends_from c.scope n) (leaves b.scope outer) w.leads v.leads }
      where
        less_gone : (m : Label) (lo hi : ℕ) → Gone m hi hi hi → Gone m lo lo hi
        less_gone m lo hi h = record {
          owned = h.owned;
          closed = h.closed;
          passed = h.passed;
          given = λ q ne at. ⊎_elim (λ (w : (lo ≤ q) × (q < lo)). absurd (nowhere lo q w.0 w.1)) (λ (w : hi ≤ q). h.given q ne (inr w)) at;
          kept = h.kept;
          ints = h.ints;
          same = h.same;
          known = h.known;
        }

        more_gone : (m : Label) (lo hi : ℕ) → Gone m lo hi hi → Gone m lo lo lo
        more_gone m lo hi h = record {
          owned = h.owned;
          closed = h.closed;
          passed = h.passed;
          given = λ q ne at. ⊎_elim (λ (w : (lo ≤ q) × (q < lo)). absurd (nowhere lo q w.0 w.1)) (λ (w : lo ≤ q). ⊎_elim (λ (lt : q < hi). h.given q ne (inl (w, lt))) (λ (ge : hi ≤ q). h.given q ne (inr ge)) (cases_lt q hi)) at;
          kept = h.kept;
          ints = h.ints;
          same = h.same;
          known = h.known;
        }

  -- ---- a reference goes to the first register
  module _ (s : StaticType) (unnamed : (p : ℕ) → Mentions s p → ⊥) (numbers : ℕ → Number) (unbased : (j q : ℕ) → HasBase (numbers j) q → ⊥) (i r : ℕ) (m : Label) (h : Gone (Refers s) unnamed numbers unbased i r m 0 0 0) where
    abbrev only : Label
    only = record m { env = put (λ q. Empty) 0 (Refers s); same = λ q. q; known = λ q. false; gate = Closed }

    rest : (q : ℕ) → (q ≡ r → ⊥) → m.env q ≡ Empty
    rest q ne = h.given q ne (inr (omega arith))

    scoped_only : 0 < fr → IsScoped fi fr m → IsScoped fi fr only
    scoped_only lt g = record {
      few = λ q ge. put_other (λ q. Empty) 0 q (Refers s) (λ e. omega (arith, e, lt, ge));
      paths = λ q p w. absurd (put_all (λ q x. EntryMentions x p → ⊥) (λ q. Empty) 0 (Refers s) (λ w. unnamed p w) (λ q _ w. w) q w);
      copies = λ q. inl refl;
      bases = λ j q b. absurd (unbased j q (subst (λ x. HasBase x q) (h.ints j) b));
      known = λ q e. absurd (false≢true e);
      passes = λ p q b _. absurd (subst (IsIn p) h.passed b);
      numbers = g.numbers;
    }

    entry_is : (x : Label) (q : ℕ) → x.env q ≡ put (λ q. Empty) 0 (Refers s) q → LessEntry x q (x.env q) (only.env q)
    entry_is x q e = subst (LessEntry x q (x.env q)) e (less_entry_refl x q (x.env q))

    unindexed : (n j : ℕ) → LessNumber (without_index n (m.ints j)) (m.ints j)
    unindexed n j = subst (λ x. LessNumber x (m.ints j)) (sym (without_same n (m.ints j) (λ b. unbased j n (subst (λ x. HasBase x n) (h.ints j) b)))) (less_number_refl (m.ints j))

    -- it is there, or comes there
    less_stay : r ≡ 0 → Less m only
    less_stay is = record {
      function = refl;
      env = λ q. entry_is m q (⊎_elim (λ (e : q ≡ 0). ap m.env (e ∙ sym is) ∙ h.kept ∙ sym (ap (put (λ q. Empty) 0 (Refers s)) e ∙ put_same (λ q. Empty) 0 (Refers s)))
          (λ (ne : q ≡ 0 → ⊥). rest q (λ e. ne (e ∙ is)) ∙ sym (put_other (λ q. Empty) 0 q (Refers s) ne)) (cases_eq q 0));
      same = λ q. Itself refl;
      known = λ q e. absurd (false≢true e);
      ints = λ j. less_number_refl (m.ints j);
      gate = subst (λ g. LessGate g Closed) (sym h.closed) tt;
      passed = λ p b. b;
      room = λ e. e;
    }

    abbrev come : Label
    come = fill (empty m r) 0 (m.env r) (moved_copy m 0 r) (m.known r)

    less_come : Less come only
    less_come = record {
      function = refl;
      env = λ q. entry_is come q (⊎_elim (λ (e : q ≡ 0). ap come.env e ∙ put_same (empty m r).env 0 (m.env r) ∙ h.kept ∙ sym (ap (put (λ q. Empty) 0 (Refers s)) e ∙ put_same (λ q. Empty) 0 (Refers s)))
          (λ (ne : q ≡ 0 → ⊥). put_other (empty m r).env 0 q (m.env r) ne ∙ ⊎_elim (λ (e : q ≡ r). ap (put m.env r Empty) e ∙ put_same m.env r Empty) (λ (no : q ≡ r → ⊥). put_other m.env r q Empty no ∙ rest q no) (cases_eq q r)
          ∙ sym (put_other (λ q. Empty) 0 q (Refers s) ne)) (cases_eq q 0));
      same = λ q. Itself refl;
      known = λ q e. absurd (false≢true e);
      ints = λ j. unindexed r j;
      gate = tt;
      passed = λ p b. absurd (subst (IsIn p) h.passed b);
      room = λ e. e;
    }

    free : IsFree m r
    free = record { paths = λ q ne w. subst (λ x. EntryMentions x r) (rest q ne) w }

    line : (table : ℕ → Mark) (pc : ℕ) → 0 < fr → r < fr → IsScoped fi fr m → Fits z.targets (mark only i i) (table (pc + 1)) → IsLine z f table pc (mark m i i) (Op.MoveReference 0 r)
    line table pc low in_it g next = ⊎_elim
        (λ (e : r ≡ 0). subst (λ n. IsLine z f table pc (mark m i i) (Op.MoveReference n r)) e (on_stay z f table pc (mark m i i) (mark only i i) next (record { owned = h.owned; scoped = g }) r h.closed (less_stay e) (λ _ know t. tells r know t)))
        (λ (ne : r ≡ 0 → ⊥). on_move_reference z f table pc (mark m i i) (mark only i i) next (record { owned = h.owned; scoped = g }) 0 r h.closed
        (record { is = subst (λ o. 0 < refs_in z.code o) (sym h.owned) low; empty = rest 0 (λ e. ne (sym e)) }) (subst (λ o. r < refs_in z.code o) (sym h.owned) in_it) (λ e. ne (sym e)) free
        (λ w. unnamed r (subst (λ x. EntryMentions x r) h.kept w)) less_come (λ _ know t. tells 0 know t)) (cases_eq r 0)
      where
        tells : (n : ℕ) (know : Know) → Tells z.targets know (mark m i i) → Tells z.targets (know_next (Op.MoveReference n r) know) (mark only i i)
        tells n know t = told z.targets (Op.MoveReference n r) know (mark m i i) (mark only i i) t (λ q v _ e. absurd (none_some v e)) (λ q a _. sym (h.same q (other_than q r (either_false (nat_eq q n) (nat_eq q r) a).1)))
            (λ j v _ _ a. absurd (false≢true a)) (λ j v a b _ _. absurd (nowhere i j a b))

    moves : Q (mark m i i) (Op.MoveReference 0 r ∷ []) (mark only i i)
    moves = does z f (AreOpen z ways) no_names 0 none_low i (mark m i i) (Op.MoveReference 0 r) (mark only i i) (λ w g. scoped_only w.0 g) (λ table pc w g next. line table pc w.0 w.1 g next)

    returned : (spot : Spot) → (z.signature f).result ≡ Refers s → (z.signature f).result_int ≡ Anything → Returns z f ways (mark m i i) (Op.MoveReference 0 r ∷ []) spot
    returned spot result number = record {
      mark = mark only i i;
      leads = moves;
      returns = λ g table pc. on_return z f table pc (mark only i i) (record { owned = h.owned; scoped = g }) spot refl
          (subst (LessEntry only 0 (only.env 0)) (put_same (λ q. Empty) 0 (Refers s) ∙ sym result) (less_entry_refl only 0 (only.env 0)))
          (subst (LessNumber (m.ints 0)) (sym number) tt)
          (λ q ne. put_other (λ q. Empty) 0 q (Refers s) ne);
    }

  -- ---- an integer goes to the first register
  module _ (w : Width) (numbers : ℕ → Number) (unbased : (j q : ℕ) → HasBase (numbers j) q → ⊥) (i r : ℕ) (is : numbers i ≡ Within w) (m : Label) (h : Gone Empty (λ p e. e) numbers unbased i r m 0 0 0) where
    abbrev first : Label
    first = set_number m 0 (Within w)

    nothing : (q : ℕ) → m.env q ≡ Empty
    nothing q = ⊎_elim (λ (e : q ≡ r). ap m.env e ∙ h.kept) (λ (ne : q ≡ r → ⊥). h.given q ne (inr (omega arith))) (cases_eq q r)

    moves_number : Q (mark m i i) (Op.Move 0 i ∷ []) (mark first i i)
    moves_number = does z f (AreOpen z ways) no_names 0 none_low i (mark m i i) (Op.Move 0 i) (mark first i i) (λ lt g. scoped_number fi fr m 0 (Within w) lt (λ b e. absurd e) g)
        (λ table pc lt g next. on_move z f table pc (mark m i i) (mark first i i) next 0 i (record { owned = h.owned; scoped = g; closed = h.closed }) (subst (λ o. 0 < ints_in z.code o) (sym h.owned) lt)
        (subst (λ n. Less (set_number m 0 n) first) (sym (h.ints i ∙ is)) (less_refl first))
        (λ _ know t. told z.targets (Op.Move 0 i) know (mark m i i) (mark first i i) t (λ q v a _. absurd (false≢true a)) (λ q _ _. refl) (λ j v a b _ _. absurd (nowhere i j a b)) (λ j v a b _ _. absurd (nowhere i j a b))))

    returned_number : (spot : Spot) → (z.signature f).result ≡ Empty → (z.signature f).result_int ≡ Within w → Returns z f ways (mark m i i) (Op.Move 0 i ∷ []) spot
    returned_number spot result number = record {
      mark = mark first i i;
      leads = moves_number;
      returns = λ g table pc. on_return z f table pc (mark first i i) (record { owned = h.owned; scoped = g }) spot refl
          (subst (LessEntry first 0 (first.env 0)) (nothing 0 ∙ sym result) (less_entry_refl first 0 (first.env 0)))
          (subst (λ x. LessNumber x (z.signature f).result_int) (sym (put_same m.ints 0 (Within w))) (subst (LessNumber (Within w)) (sym number) (less_number_refl (Within w))))
          (λ q _. nothing q);
    }

  -- ---- what is given back
  module _ (y : Typing) (c d : Context) (l k : Label) (low : AreLow (y.named c) (ref_count c.scope)) (here : StandsBefore y c f l) (inside : List ℕ) (nested : AreNested y f c l inside d k) (no_refs : ref_count d.scope ≡ 0) (kind : Kind) (spot : Spot) where
    abbrev i1 : ℕ
    i1 = int_count c.scope

    abbrev r1 : ℕ
    r1 = ref_count c.scope

    frame : Frame z f (AreOpen z ways) y c low i1 i1 r1 l
    frame = bare_frame z f ways y c low i1 i1 r1 l here.stands here.bare

    abbrev rest_code : Bool → List Op
    rest_code b = leaves c.scope inside ++ result_code b i1 r1

    -- after a reference
    gives_reference : (s : StaticType) → ((p : ℕ) → Mentions s p → ⊥) → (z.signature f).result ≡ Refers s → (z.signature f).result_int ≡ Anything → (copy : ℕ) → Returns z f ways (mark (fill l r1 (Refers s) copy false) i1 i1) (rest_code true) spot
    gives_reference s unnamed result number copy =
        let bare = here.bare in
        let m = fill l r1 (Refers s) copy false in
        let start : Gone (Refers s) unnamed l.ints bare.2 i1 r1 m r1 r1 r1 = record {
          owned = here.stands.owned;
          closed = refl;
          passed = here.stands.stands.nothing_passed;
          given = λ q ne at. put_other l.env r1 q (Refers s) ne ∙ here.stands.stands.free q (⊎_elim (λ (w : (r1 ≤ q) × (q < r1)). w.0) (λ (w : r1 ≤ q). w) at);
          kept = put_same l.env r1 (Refers s);
          ints = λ j. refl;
          same = λ q ne. put_other l.same r1 q copy ne ∙ bare.0 q;
          known = λ q e. put_all (λ q x. x ≡ true → ⊥) l.known r1 false (λ e. false≢true e) (λ q _ e. bare.1 q e) q e;
        } in
        let w = leave (Refers s) unnamed l.ints bare.2 i1 r1 y d k inside c l nested m (omega arith) start in
        let end = subst (λ n. Gone (Refers s) unnamed l.ints bare.2 i1 r1 w.label n n n) no_refs w.gone in
        after (mark m i1 i1) (mark w.label i1 i1) (leaves c.scope inside) (Op.MoveReference 0 r1 ∷ []) spot w.leads (returned s unnamed l.ints bare.2 i1 r1 w.label end spot result number)

    -- after an integer
    gives_number : (v : Width) → (z.signature f).result ≡ Empty → (z.signature f).result_int ≡ Within v → Returns z f ways (mark (set_number l i1 (Within v)) i1 i1) (rest_code false) spot
    gives_number v result number =
        let bare = here.bare in
        let m = set_number l i1 (Within v) in
        let unbased : (j q : ℕ) → HasBase (m.ints j) q → ⊥ = λ j q b. put_all (λ j x. HasBase x q → ⊥) l.ints i1 (Within v) (λ b. b) (λ j _ b. bare.2 j q b) j b in
        let start : Gone Empty (λ p e. e) m.ints unbased i1 r1 m r1 r1 r1 = record {
          owned = here.stands.owned;
          closed = refl;
          passed = here.stands.stands.nothing_passed;
          given = λ q ne at. here.stands.stands.free q (⊎_elim (λ (w : (r1 ≤ q) × (q < r1)). w.0) (λ (w : r1 ≤ q). w) at);
          kept = here.stands.stands.free r1 (omega arith);
          ints = λ j. refl;
          same = λ q ne. bare.0 q;
          known = bare.1;
        } in
        let w = leave Empty (λ p e. e) m.ints unbased i1 r1 y d k inside c l nested m (omega arith) start in
        let end = subst (λ n. Gone Empty (λ p e. e) m.ints unbased i1 r1 w.label n n n) no_refs w.gone in
        after (mark m i1 i1) (mark w.label i1 i1) (leaves c.scope inside) (Op.Move 0 i1 ∷ []) spot w.leads (returned_number v m.ints unbased i1 r1 (put_same l.ints i1 (Within v)) w.label end spot result number)

    same_type : (s t : StaticType) → Refers s ≡ Refers t → s ≡ t
    same_type s t e = cc

    values : GivesBack z f y kind → (e : Expression) → ReturnTypable z f y c kind (Some e)
        → Returns z f ways (before c l) (expression_code c i1 r1 e ++ (width_code i1 kind (span_of e).first ++ rest_code (is_reference kind))) spot
    values gives e h = by (is_reference kind) refl gives h.1 (λ s t. rights z f ways y c low i1 i1 r1 l frame kind private s (value e) t)
      where
        code : List Op
        code = expression_code c i1 r1 e ++ width_code i1 kind (span_of e).first

        apart : (b : Bool) → Returns z f ways (before c l) (code ++ rest_code b) spot → Returns z f ways (before c l) (expression_code c i1 r1 e ++ (width_code i1 kind (span_of e).first ++ rest_code b)) spot
        apart b w = subst (λ os. Returns z f ways (before c l) os spot) (append_assoc (expression_code c i1 r1 e) (width_code i1 kind (span_of e).first) (rest_code b)) w

        by : (b : Bool) → is_reference kind ≡ b → GivesBackBy z f y kind b → ReturnedBy z f y c kind e b
            → ((s : StaticType) → RightTypable z f y c kind s (value e) → Comes z f ways y c low i1 i1 r1 l kind s code (is_reference kind))
            → Returns z f ways (before c l) (expression_code c i1 r1 e ++ (width_code i1 kind (span_of e).first ++ rest_code b)) spot
        by true is gives goes comes =
            let s = goes.1.0 in
            let same : gives.0 ≡ s = same_type gives.0 s (sym gives.2 ∙ goes.1.2) in
            let unnamed : (p : ℕ) → Mentions s p → ⊥ = subst (λ s. (p : ℕ) → Mentions s p → ⊥) same gives.1 in
            let right : RightTypable z f y c kind s (value e) = subst (ValueGoes z f y c kind s e) (sym is) (h.0, goes.0, no_integer kind is, goes.1.1, λ p w. absurd (unnamed p w)) in
            let v = subst (Comes z f ways y c low i1 i1 r1 l kind s code) is (comes s right) in
            apart true (after (before c l) (mark (fill l r1 (Refers s) v.copy false) i1 i1) code (rest_code true) spot (reference_kept z f ways y c low i1 i1 r1 l here.bare s code v) (gives_reference s unnamed goes.1.2 gives.3 v.copy))
        by false is gives goes comes =
            let s : StaticType = record { target = 0; locks = [] } in
            let right : RightTypable z f y c kind s (value e) = subst (ValueGoes z f y c kind s e) (sym is) (h.0, goes.0, goes.1) in
            let v = subst (Comes z f ways y c low i1 i1 r1 l kind s code) is (comes s right) in
            apart false (after (before c l) (mark (set_number l i1 (Within (width_of kind))) i1 i1) code (rest_code false) spot (number_kept z f ways y c low i1 i1 l here.bare (width_of kind) code v) (gives_number (width_of kind) gives.0 gives.1))

  -- ---- nothing
  module _ (y : Typing) (d : Context) (k : Label) (low : AreLow (y.named d) (ref_count d.scope)) (here : StandsBefore y d f k) (no_ints : int_count d.scope ≡ 0) (no_refs : ref_count d.scope ≡ 0) (kind : Kind) (spot : Spot) where
    abbrev i : ℕ
    i = int_count d.scope

    abbrev r : ℕ
    r = ref_count d.scope

    at : At z f (AreOpen z ways) (y.named d) r low i i r k
    at = record { stands = here.stands.stands; owned = here.stands.owned }

    frame_there : Frame z f (AreOpen z ways) y d low i i r k
    frame_there = bare_frame z f ways y d low i i r k here.stands here.bare

    -- all registers are free
    all_free : (q : ℕ) → k.env q ≡ Empty
    all_free q = here.stands.stands.free q (omega (arith, no_refs))

    zeroes : (b : Bool) → GivesBackBy z f y kind b → Returns z f ways (before d k) (zero_code b 0 0) spot
    zeroes true h =
        let e = fill k r (Refers h.0) r false in
        let m = mark e i i in
        let there : e.env 0 ≡ Refers h.0 = subst (λ n. put k.env n (Refers h.0) 0 ≡ Refers h.0) (sym no_refs) (put_same k.env 0 (Refers h.0)) in
        record {
          mark = m;
          leads = subst (λ n. Q (before d k) (Op.Null n ∷ []) m) no_refs (null_at z f ways y d low i i r k frame_there h.0 (λ p w. absurd (h.1 p w)));
          returns = λ g table pc. on_return z f table pc m (record { owned = here.stands.owned; scoped = g }) spot refl
              (subst (LessEntry e 0 (e.env 0)) (there ∙ sym h.2) (less_entry_refl e 0 (e.env 0)))
              (subst (LessNumber (k.ints 0)) (sym h.3) tt)
              (λ q ne. put_other k.env r q (Refers h.0) (λ w. ne (w ∙ no_refs)) ∙ all_free q);
        }
    zeroes false h =
        let e = set_number k i (Exactly (pos 0)) in
        let m = mark e i (i + 1) in
        let there : e.ints 0 ≡ Exactly (pos 0) = subst (λ n. put k.ints n (Exactly (pos 0)) 0 ≡ Exactly (pos 0)) (sym no_ints) (put_same k.ints 0 (Exactly (pos 0))) in
        record {
          mark = m;
          leads = subst (λ n. Q (before d k) (Op.Constant n (pos 0) ∷ []) m) no_ints (constant_at z f (AreOpen z ways) (y.named d) r low i i r k at (pos 0));
          returns = λ g table pc. on_return z f table pc m (record { owned = here.stands.owned; scoped = g }) spot refl
              (subst (LessEntry e 0 (e.env 0)) (all_free 0 ∙ sym h.0) (less_entry_refl e 0 (e.env 0)))
              (subst (LessNumber (e.ints 0)) (sym h.1) (subst (λ x. LessNumber x (Within (width_of kind))) (sym there) (zero_fits (width_of kind))))
              (λ q _. all_free q);
        }

-- what is known before the outermost block
outermost : (f : ℕ) (y : Typing) (d : Context) (k : Label) (inside : List ℕ) (c : Context) (l : Label) → AreLow (y.named c) (ref_count c.scope) → StandsBefore y c f l → AreNested y f c l inside d k → AreLow (y.named d) (ref_count d.scope) × StandsBefore y d f k
outermost f y d k [] c l low here h = (subst (λ e. AreLow (y.named e) (ref_count e.scope)) h.0 low, subst (λ e. StandsBefore y e f k) h.0 (subst (StandsBefore y c f) h.1 here))
outermost f y d k (n ∷ outer) c l low here h = outermost f y d k outer (back c n) h.0 h.3 h.1 h.4

pub nothing_returns : NothingReturns
nothing_returns z f ways y c d l k low here inside nested no_ints no_refs kind gives spot =
    let w = outermost f y d k inside c l low here nested in
    after z f ways (before c l) (before d k) (leaves c.scope inside) (zero_code (is_reference kind) 0 0) spot (leaves_typed z f ways y c d l k low here inside nested)
    (zeroes z f ways y d k w.0 w.1 no_ints no_refs kind spot (is_reference kind) gives)

pub values_return : ValuesReturn
values_return z f ways y c d l k low here inside nested no_ints no_refs kind gives e h spot = values z f ways y c d l k low here inside nested no_refs kind spot gives e h
