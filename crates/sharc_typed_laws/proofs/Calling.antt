-- A call, after what is passed to it.
use Rattle.sharc_typed_laws.proofs.{Imports.{◌≡◌, ℕ, ◌+◌, ◌<◌, ◌≤◌, true, false, cond, ◌&&◌, [], ◌∷◌, length, Some, refl, sym, ap, ◌∙◌, subst, inl, ⊎_elim, arith, false≢true, cases_eq, cases_lt, nat_tests, nat_eq, nat_lt, put_same, put_other, put_all, Op, Spot, Context, ref_count, StaticType, Entry, Empty, Refers, Number, Anything, Indexes, OfElement, OfGlobal, Closed, Label, Less, LessNumber, LessEntry, LessGate, EntryMentions, HasBase, IsScoped, fill, set_number, Passes, ints_in, refs_in, below, below_copy, below_number, called_label, less_entry_refl, less_number_refl, scoped_fill, Mark, Setting, IsNamed, IsPlain, mark, Typing}, Standing.{less_by, scoped_frame, stands_number}, Handing.{CallFits, on_call}, Parts.{does, with_number}, Accessed.Frame, Words.words}

module _ (around : Setting) (f : ℕ) (D : (ℕ → Mark) → Type 0) (y : Typing) (c : Context) (low : (p : ℕ) → y.named c p ≡ true → p < ref_count c.scope) (from : ℕ) where
  open words around f D (y.named c) (ref_count c.scope) low from use {named as N, top, Q}

  -- ---- below the registers of the call, at them and above
  at_below : {A : Type 0} (k : ℕ) (g : ℕ → A) (a b : A) (q : ℕ) → q < k → below k g a b q ≡ g q
  at_below k g a b q lt = let e : nat_lt q k ≡ true = grind (arith, nat_tests, lt) in ap (λ z. cond z (g q) (cond (nat_eq q k) a b)) e

  at_it : {A : Type 0} (k : ℕ) (g : ℕ → A) (a b : A) (q : ℕ) → q ≡ k → below k g a b q ≡ a
  at_it k g a b q is = let e : nat_lt q k ≡ false = grind (arith, nat_tests, is) in let d : nat_eq q k ≡ true = grind (arith, nat_tests, is) in ap (λ z. cond z (g q) (cond (nat_eq q k) a b)) e ∙ ap (λ z. cond z a b) d

  at_above : {A : Type 0} (k : ℕ) (g : ℕ → A) (a b : A) (q : ℕ) → k < q → below k g a b q ≡ b
  at_above k g a b q lt = let e : nat_lt q k ≡ false = grind (arith, nat_tests, lt) in let d : nat_eq q k ≡ false = grind (arith, nat_tests, lt) in ap (λ z. cond z (g q) (cond (nat_eq q k) a b)) e ∙ ap (λ z. cond z a b) d

  copy_low : (k : ℕ) (same : ℕ → ℕ) (q : ℕ) → q < k → same q < k → below_copy k same q ≡ same q
  copy_low k same q a b = let e : nat_lt q k ≡ true = grind (arith, nat_tests, a) in let d : nat_lt (same q) k ≡ true = grind (arith, nat_tests, b) in ap (λ z. cond (z && nat_lt (same q) k) (same q) q) e ∙ ap (λ z. cond z (same q) q) d

  copy_high : (k : ℕ) (same : ℕ → ℕ) (q : ℕ) → k ≤ q → below_copy k same q ≡ q
  copy_high k same q a = let e : nat_lt q k ≡ false = grind (arith, nat_tests, a) in ap (λ z. cond (z && nat_lt (same q) k) (same q) q) e

  number_low : (k : ℕ) (n : Number) → ((q : ℕ) → HasBase n q → q < k) → below_number k n ≡ n
  number_low k (OfElement base field e) h = let lt = h base refl in let d : nat_lt base k ≡ true = grind (arith, nat_tests, lt) in ap (λ z. cond z (OfElement base field e) Anything) d
  number_low k _ h = refl

  plain_low : (k : ℕ) (n : Number) → IsPlain n → below_number k n ≡ n
  plain_low k (Indexes m) h = absurd h
  plain_low k (OfElement base field e) h = absurd h
  plain_low k (OfGlobal a b d e) h = absurd h
  plain_low k _ h = refl

  -- ---- the caller's label k, that has l in its first registers
  module _ (i r : ℕ) (l : Label) (fr : Frame around f D y c low from i r l) (k : Label) (owned : k.function ≡ Some f) (closed : k.gate ≡ Closed) (env : (q : ℕ) → q < r → k.env q ≡ l.env q) (same : (q : ℕ) → q < r → k.same q ≡ l.same q) (known : (q : ℕ) → q < r → k.known q ≡ l.known q)
      (ints : (j : ℕ) → j < i → k.ints j ≡ l.ints j) where
    abbrev l0 : ℕ → Label
    l0 g = called_label (record { at = λ n. l; signature = around.signature; starts = around.starts }) k g i r

    -- what is left with a result of these
    less_called : (g : ℕ) (t : Label) → t.function ≡ l.function → ((q : ℕ) → q < r → t.env q ≡ l.env q) → ((q : ℕ) → LessEntry (l0 g) r (around.signature g).result (t.env r)) → ((q : ℕ) → r < q → t.env q ≡ Empty) → ((q : ℕ) → q < r → t.same q ≡ l.same q) → ((q : ℕ) → r ≤ q → t.same q ≡ q)
        → ((q : ℕ) → t.known q ≡ true → (q < r) × (l.known q ≡ true)) → ((j : ℕ) → j < i → t.ints j ≡ l.ints j) → LessNumber (below_number r (around.signature g).result_int) (t.ints i) → ((j : ℕ) → i < j → t.ints j ≡ Anything) → t.gate ≡ Closed → t.passed ≡ [] → (t.room ≡ true → ⊥) → Less (l0 g) t
    less_called g t function low_env result high_env low_same high_same knows low_ints number high_ints gate passed room = less_by (l0 g) t (function ∙ fr.at.owned ∙ sym owned)
        (λ q. ⊎_elim (λ (lt : q < r). entry q (below r k.env (around.signature g).result Empty q) (t.env q) (at_below r k.env (around.signature g).result Empty q lt ∙ env q lt ∙ sym (low_env q lt)))
        (λ (ge : r ≤ q). ⊎_elim (λ (e : q ≡ r). subst (λ p. LessEntry (l0 g) p (below r k.env (around.signature g).result Empty p) (t.env p)) (sym e) (subst (λ z. LessEntry (l0 g) r z (t.env r)) (sym (at_it r k.env (around.signature g).result Empty r refl)) (result r)))
        (λ (ne : q ≡ r → ⊥). let lt : r < q = omega (arith, ge, ne) in entry q (below r k.env (around.signature g).result Empty q) (t.env q) (at_above r k.env (around.signature g).result Empty q lt ∙ sym (high_env q lt))) (cases_eq q r)) (cases_lt q r))
        (λ q. ⊎_elim (λ (lt : q < r). low_same q lt ∙ sym (copy_low r k.same q lt (let z = fr.at.stands.copies q lt in let e = same q lt in omega (arith, z, e)) ∙ same q lt)) (λ (ge : r ≤ q). high_same q ge ∙ sym (copy_high r k.same q ge)) (cases_lt q r))
        (λ q e. let h = knows q e in at_below r k.known false false q h.0 ∙ known q h.0 ∙ h.1)
        (λ j. ⊎_elim (λ (lt : j < i). subst (λ n. LessNumber (below_number r n) (t.ints j)) (sym (at_below i k.ints (around.signature g).result_int Anything j lt ∙ ints j lt))
        (subst (λ n. LessNumber n (t.ints j)) (sym (number_low r (l.ints j) (λ q b. fr.at.stands.bases j q b))) (subst (LessNumber (l.ints j)) (sym (low_ints j lt)) (less_number_refl (l.ints j)))))
        (λ (ge : i ≤ j). ⊎_elim (λ (e : j ≡ i). subst (λ p. LessNumber (below_number r (below i k.ints (around.signature g).result_int Anything p)) (t.ints p)) (sym e) (subst (λ n. LessNumber (below_number r n) (t.ints i)) (sym (at_it i k.ints (around.signature g).result_int Anything i refl)) number))
        (λ (ne : j ≡ i → ⊥). subst (LessNumber (below_number r (below i k.ints (around.signature g).result_int Anything j))) (sym (high_ints j (omega (arith, ge, ne)))) tt) (cases_eq j i)) (cases_lt j i))
        (subst (λ z. LessGate Closed z) (sym gate) tt) passed (λ e. absurd (room e))
      where
        entry : (q : ℕ) (a b : Entry) → a ≡ b → LessEntry (l0 g) q a b
        entry q a b e = subst (LessEntry (l0 g) q a) e (less_entry_refl (l0 g) q a)

    few_left : IsScoped (ints_in around.code (Some f)) (refs_in around.code (Some f)) k → (q : ℕ) → refs_in around.code (Some f) ≤ q → l.env q ≡ Empty
    few_left h q ge = ⊎_elim (λ (lt : q < r). sym (env q lt) ∙ h.few q ge) (λ (le : r ≤ q). fr.at.stands.free q le) (cases_lt q r)

    few_numbers : IsScoped (ints_in around.code (Some f)) (refs_in around.code (Some f)) k → (j : ℕ) → ints_in around.code (Some f) ≤ j → l.ints j ≡ Anything
    few_numbers h j ge = ⊎_elim (λ (lt : j < i). sym (ints j lt) ∙ h.numbers j ge) (λ (le : i ≤ j). fr.at.stands.numbers j le) (cases_lt j i)

    fits_call : (g : ℕ) → g < length around.code.functions.items → ((around.signature g).alone ≡ true → (around.signature f).alone ≡ true) → ((p : ℕ) → Passes k r (r + p) (k.env (r + p)) ((around.signature g).takes p)) → ((j : ℕ) → LessNumber (k.ints (i + j)) ((around.signature g).takes_ints j))
        → i < ints_in around.code (Some f) → r < refs_in around.code (Some f) → CallFits around k i r g
    fits_call g is alone passes numbers int ref = record {
      is = is;
      caller = (f, owned, alone);
      from = subst (λ o. r ≤ refs_in around.code o) (sym owned) (omega (arith, ref));
      from_int = subst (λ o. i ≤ ints_in around.code o) (sym owned) (omega (arith, int));
      passes = passes;
      numbers = numbers;
      stays = λ q p lt m. (fr.at.stands.paths q p (subst (λ e. EntryMentions e p) (env q lt) m)).0;
    }

    module _ (a b g : ℕ) (spot : Spot) (is : g < length around.code.functions.items) (alone : (around.signature g).alone ≡ true → (around.signature f).alone ≡ true) (passes : (p : ℕ) → Passes k r (r + p) (k.env (r + p)) ((around.signature g).takes p)) (numbers : (j : ℕ) → LessNumber (k.ints (i + j)) ((around.signature g).takes_ints j)) where
      called_by : (t : Label) (until : ℕ) → (IsScoped (ints_in around.code (Some f)) (refs_in around.code (Some f)) k → i < ints_in around.code (Some f) → r < refs_in around.code (Some f) → IsScoped (ints_in around.code (Some f)) (refs_in around.code (Some f)) t) → Less (l0 g) t
          → Q (mark k a b) (Op.Call g i r spot ∷ []) (mark t from until)
      called_by t until sc less = does around f D N top low from (mark k a b) (Op.Call g i r spot) (mark t from until) (λ w h. sc h w.0 w.1)
          (λ table pc w h next. on_call around f table pc (mark k a b) (record { owned = owned; scoped = h }) (mark t from until) next g i r spot closed (fits_call g is alone passes numbers w.0 w.1) less)

      -- a reference
      pub call_reference : (s : StaticType) → IsNamed N r s → (around.signature g).result ≡ Refers s → Q (mark k a b) (Op.Call g i r spot ∷ []) (mark (fill l r (Refers s) r false) from i)
      call_reference s fits result =
          let t = fill l r (Refers s) r false in
          called_by t i (λ h int ref. scoped_fill (ints_in around.code (Some f)) (refs_in around.code (Some f)) l r s r false ref (λ q m. fr.at.stands.full q (fits q m).0) (inl refl) (scoped_frame N i r l fr.at.stands (ints_in around.code (Some f)) (refs_in around.code (Some f)) (few_left h) (few_numbers h)))
          (less_called g t refl (λ q lt. put_other l.env r q (Refers s) (λ e. omega (arith, e, lt))) (λ q. subst (LessEntry (l0 g) r (around.signature g).result) (result ∙ sym (put_same l.env r (Refers s))) (less_entry_refl (l0 g) r (around.signature g).result))
          (λ q lt. put_other l.env r q (Refers s) (λ e. omega (arith, e, lt)) ∙ fr.at.stands.free q (omega (arith, lt))) (λ q lt. put_other l.same r q r (λ e. omega (arith, e, lt)))
          (λ q ge. put_all (λ q z. r ≤ q → z ≡ q) l.same r r (λ _. refl) (λ q _ le. fr.at.stands.alone q le) q ge)
          (λ q e. put_all (λ q z. z ≡ true → (q < r) × (l.known q ≡ true)) l.known r false (λ z. absurd (false≢true z)) (λ q _ z. (fr.at.stands.known q z, z)) q e)
          (λ j lt. refl) (subst (LessNumber (below_number r (around.signature g).result_int)) (sym (fr.at.stands.numbers i (omega arith))) tt) (λ j lt. fr.at.stands.numbers j (omega (arith, lt))) refl fr.at.stands.nothing_passed (λ e. absurd (false≢true (sym fr.at.stands.no_room ∙ e))))

      less_plain : (result : (around.signature g).result ≡ Empty) (n : Number) → LessNumber (below_number r (around.signature g).result_int) n → Less (l0 g) (set_number l i n)
      less_plain result n number = less_called g (set_number l i n) refl (λ q lt. refl) (λ q. subst (LessEntry (l0 g) r (around.signature g).result) (result ∙ sym (fr.at.stands.free r (omega arith))) (less_entry_refl (l0 g) r (around.signature g).result))
          (λ q lt. fr.at.stands.free q (omega (arith, lt))) (λ q lt. refl) (λ q ge. fr.at.stands.alone q ge) (λ q e. (fr.at.stands.known q e, e)) (λ j lt. put_other l.ints i j n (λ e. omega (arith, e, lt)))
          (subst (LessNumber (below_number r (around.signature g).result_int)) (sym (put_same l.ints i n)) number) (λ j lt. put_other l.ints i j n (λ e. omega (arith, e, lt)) ∙ fr.at.stands.numbers j (omega (arith, lt))) refl fr.at.stands.nothing_passed (λ e. absurd (false≢true (sym fr.at.stands.no_room ∙ e)))

      -- an integer
      pub call_number : (n : Number) → IsPlain n → (around.signature g).result ≡ Empty → (around.signature g).result_int ≡ n → Q (mark k a b) (Op.Call g i r spot ∷ []) (with_number around f D N top low from l i n)
      call_number n plain result number = called_by (set_number l i n) (i + 1)
          (λ h int ref. scoped_frame N (i + 1) r (set_number l i n) (stands_number N i r l fr.at.stands n (λ q b. base n plain q b)) (ints_in around.code (Some f)) (refs_in around.code (Some f)) (few_left h)
          (put_all (λ j z. ints_in around.code (Some f) ≤ j → z ≡ Anything) l.ints i n (λ ge. absurd (omega (arith, int, ge))) (λ j _ ge. few_numbers h j ge)))
          (less_plain result n (subst (λ z. LessNumber z n) (sym (ap (below_number r) number ∙ plain_low r n plain)) (less_number_refl n)))
        where
          base : (n : Number) → IsPlain n → (q : ℕ) → HasBase n q → q < r
          base (Indexes m) plain q h = absurd plain
          base (OfElement d e z) plain q h = absurd plain
          base (OfGlobal d e z w) plain q h = absurd plain
          base _ plain q h = absurd h

      -- nothing
      pub call_nothing : (around.signature g).result ≡ Empty → Q (mark k a b) (Op.Call g i r spot ∷ []) (mark l from i)
      call_nothing result = called_by l i (λ h int ref. scoped_frame N i r l fr.at.stands (ints_in around.code (Some f)) (refs_in around.code (Some f)) (few_left h) (few_numbers h))
          (less_called g l refl (λ q lt. refl) (λ q. subst (LessEntry (l0 g) r (around.signature g).result) (result ∙ sym (fr.at.stands.free r (omega arith))) (less_entry_refl (l0 g) r (around.signature g).result))
          (λ q lt. fr.at.stands.free q (omega (arith, lt))) (λ q lt. refl) (λ q ge. fr.at.stands.alone q ge) (λ q e. (fr.at.stands.known q e, e)) (λ j lt. refl)
          (subst (LessNumber (below_number r (around.signature g).result_int)) (sym (fr.at.stands.numbers i (omega arith))) tt) (λ j lt. fr.at.stands.numbers j (omega (arith, lt))) fr.at.stands.closed fr.at.stands.nothing_passed (λ e. absurd (false≢true (sym fr.at.stands.no_room ∙ e))))
