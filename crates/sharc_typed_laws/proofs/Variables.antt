-- Variables: copies of them, and what is assigned to them; and a reference that takes the place of the base through which it was found.
use Rattle.sharc_typed_laws.proofs.{Imports.{◌≡◌, ℕ, ◌+◌, ◌<◌, ◌≤◌, Bool, true, false, cond, [], ◌∷◌, Some, None, refl, sym, ap, ◌∙◌, subst, inl, inr, ⊎_elim, arith, false≢true, cases_eq, either_false, same_Some, nat_eq, Width, put, put_same, put_other, put_all, Op, StaticType, Mentions, Empty, Refers, Within, Closed, IsIn, Label, Less, Itself, IsCopy, LessNumber, LessGate, HasBase, EntryMentions, IsFree, set_number, fill, empty, without_copies, without_index, ints_in, refs_in, moved_copy, less_entry_refl, less_number_refl, scoped_fill, IsNumberOf, Mark, Setting, IsNamed, mark, none_some, eq_refl}, Standing.{less_by, without_same, uncopied, scoped_frame, unnamed, entry_is as entry_same, number_is as number_same}, Telling.{told, other_than, same_as}, Rules.{on_move, on_local}, Moves.on_settle, Parts.{same_number, number_op, with_reference, with_number, scoped_below, number_below, number_above}, Words.words}

module _ (around : Setting) (f : ℕ) (D : (ℕ → Mark) → Type 0) (named : ℕ → Bool) (top : ℕ) (low : (p : ℕ) → named p ≡ true → p < top) (from : ℕ) where
  open words around f D named top low from use {fi, fr, Q, Here, Scoped, one}

  module _ (i r : ℕ) (l : Label) (at : Here i r l) where
    in_refs : (q : ℕ) → q < fr → q < refs_in around.code l.function
    in_refs q lt = subst (λ o. q < refs_in around.code o) (sym at.owned) lt

    -- ---- copies of variables
    pub local_at : (t : StaticType) (x until : ℕ) → IsNamed named r t → x < r → l.env x ≡ Refers t → l.same x ≡ x → Q (mark l from until) (Op.Local r x ∷ []) (mark (fill l r (Refers t) x false) from until)
    local_at t x until fits lt is same =
        let k = fill l r (Refers t) x false in
        let n = fill l r (l.env x) (l.same x) (l.known x) in
        one (mark l from until) (Op.Local r x) (mark k from until)
        (λ in_it h. scoped_fill fi fr l r t x false in_it (λ q m. at.stands.full q (fits q m).0) (inr (at.stands.full x lt)) h)
        (λ table pc in_it h next. on_local around f table pc (mark l from until) (mark k from until) next r x (record { owned = at.owned; scoped = h; closed = at.stands.closed }) (record { is = in_refs r in_it; empty = at.stands.free r (omega arith) })
        (in_refs x (omega (arith, lt, in_it)))
        (less_by n k refl (λ q. entry_same n q (n.env q) (k.env q) (ap (λ e. put l.env r e q) is)) (λ q. ap (λ c. put l.same r c q) (sym same)) (λ q e. known q e) (λ j. less_number_refl (l.ints j)) tt at.stands.nothing_passed (λ e. e))
        (λ _ know s. told around.targets (Op.Local r x) know (mark l from until) (mark k from until) s (λ q v w is. copied q v (same_as q r w) is)
        (λ q a _. put_other l.same r q x (other_than q r a)) (λ j m _ _ a. absurd (false≢true a)) (λ j m a b _ is. number_above around f D named top low from i r l at r (omega arith) (Refers t) x false j m (s.numbers j m a b is))))
      where
        known : (q : ℕ) → put l.known r false q ≡ true → put l.known r (l.known x) q ≡ true
        known q e = ⊎_elim (λ (z : q ≡ r). absurd (false≢true (sym (ap (put l.known r false) z ∙ put_same l.known r false) ∙ e))) (λ (ne : q ≡ r → ⊥). put_other l.known r q (l.known x) ne ∙ sym (put_other l.known r q false ne) ∙ e) (cases_eq q r)

        given : (b : Bool) (v : ℕ) → cond b None (Some x) ≡ Some v → x ≡ v
        given true v e = absurd (none_some v e)
        given false v e = same_Some x v e

        copied : (q v : ℕ) → q ≡ r → cond (nat_eq r x) None (Some x) ≡ Some v → put l.same r x q ≡ v
        copied q v z e = ap (put l.same r x) z ∙ put_same l.same r x ∙ given (nat_eq r x) v e

    pub move_at : (x : ℕ) (w : Width) → l.ints x ≡ Within w → Q (mark l from i) (Op.Move i x ∷ []) (with_number around f D named top low from l i (Within w))
    move_at x w is = number_op around f D named top low from i r l at l.ints l.gate i at.stands.closed (λ j lt. refl) (omega arith) (Within w) (λ q h. absurd h) (Op.Move i x) (λ q. refl) (λ j. refl) (λ k h m e. absurd (none_some m e)) (λ w. w)
        (λ table pc in_it plain next less tells. on_move around f table pc (mark l from i) (with_number around f D named top low from l i (Within w)) next i x plain (subst (λ o. i < ints_in around.code o) (sym at.owned) in_it)
        (subst (λ n. Less (set_number l i n) (set_number l i (Within w))) (sym is) less) (λ _. tells))

    -- ---- assignments
    pub assign_number_at : (x : ℕ) (w : Width) (until : ℕ) → until ≤ i → x < i → x < from → l.ints x ≡ Within w → Q (mark (set_number l i (Within w)) from until) (Op.Move x i ∷ []) (mark l from until)
    assign_number_at x w until le lt low_x is =
        let k = set_number l i (Within w) in
        let n = set_number k x (k.ints i) in
        one (mark k from until) (Op.Move x i) (mark l from until)
        (λ in_it h. scoped_frame named i r l at.stands fi fr h.few (λ j ge. ⊎_elim (λ (e : j ≡ i). at.stands.numbers j (omega (arith, e))) (λ (ne : j ≡ i → ⊥). sym (put_other l.ints i j (Within w) ne) ∙ h.numbers j ge) (cases_eq j i)))
        (λ table pc in_it h next. on_move around f table pc (mark k from until) (mark l from until) next x i (record { owned = at.owned; scoped = h; closed = refl }) (subst (λ o. x < ints_in around.code o) (sym at.owned) in_it)
        (less_by n l refl (λ q. less_entry_refl n q (l.env q)) (λ q. refl) (λ q e. e) (λ j. numbers j) (subst (λ y. LessGate Closed y) (sym at.stands.closed) tt) at.stands.nothing_passed (λ e. e))
        (λ _ know s. told around.targets (Op.Move x i) know (mark k from until) (mark l from until) s (λ q v w _. absurd (false≢true w)) (λ q _ _. refl)
        (λ j m a b w _. let z : j ≡ x = same_as j x w in absurd (omega (arith, z, low_x, a)))
        (λ j m a b _ is2. subst (IsNumberOf around.targets l m) (put_other l.ints i j (Within w) (λ e. omega (arith, e, b, le))) (same_number around f D named top low from k l m (put l.ints i (Within w) j) (λ q _. refl) (s.numbers j m a b is2)))))
      where
        numbers : (j : ℕ) → LessNumber (put (put l.ints i (Within w)) x (put l.ints i (Within w) i) j) (l.ints j)
        numbers j = ⊎_elim
            (λ (e : j ≡ x). number_same (put (put l.ints i (Within w)) x (put l.ints i (Within w) i) j) (l.ints j) (ap (put (put l.ints i (Within w)) x (put l.ints i (Within w) i)) e ∙ put_same (put l.ints i (Within w)) x (put l.ints i (Within w) i) ∙ put_same l.ints i (Within w) ∙ sym (ap l.ints e ∙ is)))
            (λ (ne : j ≡ x → ⊥). subst (λ y. LessNumber y (l.ints j)) (sym (put_other (put l.ints i (Within w)) x j (put l.ints i (Within w) i) ne))
            (⊎_elim (λ (e : j ≡ i). subst (LessNumber (put l.ints i (Within w) j)) (sym (at.stands.numbers j (omega (arith, e)))) tt) (λ (no : j ≡ i → ⊥). number_same (put l.ints i (Within w) j) (l.ints j) (put_other l.ints i j (Within w) no)) (cases_eq j i))) (cases_eq j x)

    -- a variable of this type, which no type names that is at hand, and of which no copy and no element is at hand
    pub assign_free_at : top ≤ r → (t : StaticType) (v : ℕ) (b : Bool) (x until : ℕ) → IsNamed named r t → x < r → l.env x ≡ Refers t → (Mentions t x → ⊥) → ((q : ℕ) → EntryMentions (l.env q) x → ⊥) → l.same x ≡ x → ((q : ℕ) → l.same q ≡ x → q ≡ x) → (l.known x ≡ true → ⊥) → ((j : ℕ) → HasBase (l.ints j) x → ⊥)
        → Q (with_reference around f D named top low from l r until t v b) (Op.Settle x r ∷ []) (mark l from until)
    assign_free_at le t v b x until fits lt is no_type no_path itself single unknown_x unbased_x =
        let k = fill l r (Refers t) v b in
        let k1 = empty k x in
        let k2 = empty k1 r in
        let n = fill k2 x (k1.env r) (moved_copy k1 x r) (k1.known r) in
        let u = unnamed named i r l at.stands r (omega arith) in
        let apart : x ≡ r → ⊥ = λ e. omega (arith, e, lt) in
        let back : r ≡ x → ⊥ = λ e. omega (arith, e, lt) in
        let env_r : k1.env r ≡ Refers t = put_other k.env x r Empty back ∙ put_same l.env r (Refers t) in
        let free_x : IsFree k x = record { paths = λ q _ m. put_all (λ q y. EntryMentions y x → ⊥) l.env r (Refers t) (λ m. absurd (no_type m)) (λ q _ m. absurd (no_path q m)) q m } in
        let free_r : IsFree k r = record { paths = λ q ne m. put_all (λ q y. (q ≡ r → ⊥) → EntryMentions y r → ⊥) l.env r (Refers t) (λ no _. no refl) (λ q _ no m. let z = low r (at.stands.paths q r m).1 in omega (arith, z, le)) q ne m } in
        one (mark k from until) (Op.Settle x r) (mark l from until) (λ _ h. scoped_below around f D named top low from i r l at r (omega arith) (Refers t) v b h)
        (λ table pc in_it h next. on_settle around f table pc (mark k from until) (mark l from until) next (record { owned = at.owned; scoped = h }) x r refl (in_refs x in_it.0) free_x (in_refs r in_it.1) free_r
        (λ m. let z = (fits r (subst (λ e. EntryMentions e r) (put_same l.env r (Refers t)) m)).0 in omega (arith, z)) apart
        (record {
          function = refl;
          env = λ q. entry_same n q (n.env q) (l.env q) (⊎_elim (λ (e : q ≡ x). ap n.env e ∙ put_same k2.env x (k1.env r) ∙ env_r ∙ sym (ap l.env e ∙ is))
              (λ (ne : q ≡ x → ⊥). put_other k2.env x q (k1.env r) ne ∙ ⊎_elim (λ (e : q ≡ r). ap k2.env e ∙ put_same k1.env r Empty ∙ sym (ap l.env e ∙ u.empty))
              (λ (no : q ≡ r → ⊥). put_other k1.env r q Empty no ∙ put_other k.env x q Empty ne ∙ put_other l.env r q (Refers t) no) (cases_eq q r)) (cases_eq q x));
          same = λ q. ⊎_elim (λ (e : q ≡ x). Itself (sym (ap l.same e ∙ itself ∙ sym e))) (λ (ne : q ≡ x → ⊥). ⊎_elim (λ (e : q ≡ r). Itself (sym (ap l.same e ∙ u.alone ∙ sym e)))
              (λ (no : q ≡ r → ⊥).
              let one : k.same q ≡ l.same q = put_other l.same r q v no in
              let two : k1.same q ≡ l.same q = put_other (without_copies k.same x) x q x ne ∙ uncopied k.same x q (λ z. ne (single q (sym one ∙ z))) ∙ one in
              let three : k2.same q ≡ l.same q = put_other (without_copies k1.same r) r q r no ∙ uncopied k1.same r q (λ z. u.apart q no (sym two ∙ z)) ∙ two in
              IsCopy (put_other k2.same x q (moved_copy k1 x r) ne ∙ three)) (cases_eq q r)) (cases_eq q x);
          known = λ q e. ⊎_elim (λ (z : q ≡ x). absurd (unknown_x (sym (ap l.known z) ∙ e)))
              (λ (ne : q ≡ x → ⊥). ⊎_elim (λ (z : q ≡ r). absurd (u.unknown (sym (ap l.known z) ∙ e)))
              (λ (no : q ≡ r → ⊥). put_other k2.known x q (k1.known r) ne ∙ put_other k1.known r q false no ∙ put_other k.known x q false ne ∙ put_other l.known r q b no ∙ e) (cases_eq q r)) (cases_eq q x);
          ints = λ j. number_same (without_index r (without_index x (l.ints j))) (l.ints j) (ap (without_index r) (without_same x (l.ints j) (unbased_x j)) ∙ without_same r (l.ints j) (u.unbased j));
          gate = subst (λ y. LessGate Closed y) (sym at.stands.closed) tt;
          passed = λ p m. absurd (subst (IsIn p) at.stands.nothing_passed m);
          room = λ e. e;
        })
        (λ _ know s. told around.targets (Op.Settle x r) know (mark k from until) (mark l from until) s (λ q y _ e. absurd (none_some y e))
        (λ q a _. sym (put_other l.same r q v (other_than q r (either_false (nat_eq q x) (nat_eq q r) a).1)))
        (λ j m _ _ a. absurd (false≢true a)) (λ j m a z _ e. number_below around f D named top low from i r l at r (omega arith) (Refers t) v b j m (s.numbers j m a z e))))

    -- that types never name
    pub assign_at : top ≤ r → (t : StaticType) (v : ℕ) (b : Bool) (x until : ℕ) → IsNamed named r t → x < r → l.env x ≡ Refers t → named x ≡ false → l.same x ≡ x → ((q : ℕ) → l.same q ≡ x → q ≡ x) → (l.known x ≡ true → ⊥) → ((j : ℕ) → HasBase (l.ints j) x → ⊥)
        → Q (with_reference around f D named top low from l r until t v b) (Op.Settle x r ∷ []) (mark l from until)
    assign_at le t v b x until fits lt is unnamed_x = assign_free_at le t v b x until fits lt is (λ m. false≢true (sym unnamed_x ∙ (fits x m).1)) (λ q m. false≢true (sym unnamed_x ∙ (at.stands.paths q x m).1))

    -- ---- the base
    pub settle_base_at : top ≤ r → (s t : StaticType) (v : ℕ) (a b : Bool) (until : ℕ) → IsNamed named r s → IsNamed named r t → v ≤ r
        → Q (mark (fill (fill l r (Refers s) v a) (r + 1) (Refers t) (r + 1) b) from until) (Op.Settle r (r + 1) ∷ []) (mark (fill l r (Refers t) r b) from until)
    settle_base_at le s t v a b until fits fits2 copy =
        let k0 = fill l r (Refers s) v a in
        let k = fill k0 (r + 1) (Refers t) (r + 1) b in
        let k1 = empty k r in
        let k2 = empty k1 (r + 1) in
        let n = fill k2 r (k1.env (r + 1)) (moved_copy k1 r (r + 1)) (k1.known (r + 1)) in
        let e = fill l r (Refers t) r b in
        let u = unnamed named i r l at.stands r (omega arith) in
        let u2 = unnamed named i r l at.stands (r + 1) (omega arith) in
        let up : r + 1 ≡ r → ⊥ = λ z. omega (arith, z) in
        let env_up : k1.env (r + 1) ≡ Refers t = put_other k.env r (r + 1) Empty up ∙ put_same k0.env (r + 1) (Refers t) in
        let known_up : k1.known (r + 1) ≡ b = put_other k.known r (r + 1) false up ∙ put_same k0.known (r + 1) b in
        let same_up : k1.same (r + 1) ≡ r + 1 = put_other (without_copies k.same r) r (r + 1) r up ∙ uncopied k.same r (r + 1) (λ z. up (sym (put_same k0.same (r + 1) (r + 1)) ∙ z)) ∙ put_same k0.same (r + 1) (r + 1) in
        let copy_is : moved_copy k1 r (r + 1) ≡ r = ap (λ q. cond (nat_eq q (r + 1)) r q) same_up ∙ ap (λ c. cond c r (r + 1)) (eq_refl (r + 1)) in
        let free_r : IsFree k r = record {
          paths = λ q ne m. put_all (λ q y. (q ≡ r → ⊥) → EntryMentions y r → ⊥) k0.env (r + 1) (Refers t) (λ _ m. let z = low r (fits2 r m).1 in omega (arith, z, le))
              (λ q _ no m. put_all (λ q y. (q ≡ r → ⊥) → EntryMentions y r → ⊥) l.env r (Refers s) (λ no _. no refl) (λ q _ no m. let z = low r (at.stands.paths q r m).1 in omega (arith, z, le)) q no m) q ne m;
        } in
        let free_up : IsFree k (r + 1) = record {
          paths = λ q ne m. put_all (λ q y. (q ≡ r + 1 → ⊥) → EntryMentions y (r + 1) → ⊥) k0.env (r + 1) (Refers t) (λ no _. no refl)
              (λ q _ no m. put_all (λ q y. EntryMentions y (r + 1) → ⊥) l.env r (Refers s) (λ m. let z = (fits (r + 1) m).0 in omega (arith, z)) (λ q _ m. let z = (at.stands.paths q (r + 1) m).0 in omega (arith, z)) q m) q ne m;
        } in
        one (mark k from until) (Op.Settle r (r + 1)) (mark e from until)
        (λ in_it h. scoped_fill fi fr l r t r b in_it.0 (λ q m. at.stands.full q (fits2 q m).0) (inl refl) (scoped_frame named i r l at.stands fi fr
        (λ q ge. let z = in_it.1 in sym (put_other k0.env (r + 1) q (Refers t) (λ w. omega (arith, w, z, ge)) ∙ put_other l.env r q (Refers s) (λ w. omega (arith, w, z, ge))) ∙ h.few q ge) h.numbers))
        (λ table pc in_it h next. on_settle around f table pc (mark k from until) (mark e from until) next (record { owned = at.owned; scoped = h }) r (r + 1) refl (in_refs r in_it.0) free_r (in_refs (r + 1) in_it.1) free_up
        (λ m. let z = (fits2 (r + 1) (subst (λ y. EntryMentions y (r + 1)) (put_same k0.env (r + 1) (Refers t)) m)).0 in omega (arith, z)) (λ z. omega (arith, z))
        (less_by n e refl
        (λ q. entry_same n q (n.env q) (e.env q) (⊎_elim (λ (z : q ≡ r). ap n.env z ∙ put_same k2.env r (k1.env (r + 1)) ∙ env_up ∙ sym (ap e.env z ∙ put_same l.env r (Refers t)))
        (λ (ne : q ≡ r → ⊥). put_other k2.env r q (k1.env (r + 1)) ne ∙ ⊎_elim (λ (z : q ≡ r + 1). ap k2.env z ∙ put_same k1.env (r + 1) Empty ∙ sym (ap e.env z ∙ put_other l.env r (r + 1) (Refers t) up ∙ u2.empty))
        (λ (no : q ≡ r + 1 → ⊥). put_other k1.env (r + 1) q Empty no ∙ put_other k.env r q Empty ne ∙ put_other k0.env (r + 1) q (Refers t) no ∙ put_other l.env r q (Refers s) ne ∙ sym (put_other l.env r q (Refers t) ne)) (cases_eq q (r + 1))) (cases_eq q r)))
        (λ q. sym (⊎_elim (λ (z : q ≡ r). ap n.same z ∙ put_same k2.same r (moved_copy k1 r (r + 1)) ∙ copy_is ∙ sym (ap e.same z ∙ put_same l.same r r))
        (λ (ne : q ≡ r → ⊥). put_other k2.same r q (moved_copy k1 r (r + 1)) ne ∙ ⊎_elim (λ (z : q ≡ r + 1). ap k2.same z ∙ put_same (without_copies k1.same (r + 1)) (r + 1) (r + 1) ∙ sym (ap e.same z ∙ put_other l.same r (r + 1) r up ∙ u2.alone))
        (λ (no : q ≡ r + 1 → ⊥).
        let one : k.same q ≡ l.same q = put_other k0.same (r + 1) q (r + 1) no ∙ put_other l.same r q v ne in
        let two : k1.same q ≡ l.same q = put_other (without_copies k.same r) r q r ne ∙ uncopied k.same r q (λ z. u.apart q ne (sym one ∙ z)) ∙ one in
        let three : k2.same q ≡ l.same q = put_other (without_copies k1.same (r + 1)) (r + 1) q (r + 1) no ∙ uncopied k1.same (r + 1) q (λ z. u2.apart q no (sym two ∙ z)) ∙ two in
        three ∙ sym (put_other l.same r q r ne)) (cases_eq q (r + 1))) (cases_eq q r)))
        (λ q y. ⊎_elim (λ (z : q ≡ r). ap n.known z ∙ put_same k2.known r (k1.known (r + 1)) ∙ known_up ∙ sym (ap e.known z ∙ put_same l.known r b) ∙ y)
        (λ (ne : q ≡ r → ⊥). let old : l.known q ≡ true = sym (put_other l.known r q b ne) ∙ y in ⊎_elim (λ (z : q ≡ r + 1). absurd (u2.unknown (sym (ap l.known z) ∙ old)))
        (λ (no : q ≡ r + 1 → ⊥). put_other k2.known r q (k1.known (r + 1)) ne ∙ put_other k1.known (r + 1) q false no ∙ put_other k.known r q false ne ∙ put_other k0.known (r + 1) q b no ∙ put_other l.known r q a ne ∙ old) (cases_eq q (r + 1))) (cases_eq q r))
        (λ j. number_same (without_index (r + 1) (without_index r (l.ints j))) (l.ints j) (ap (without_index (r + 1)) (without_same r (l.ints j) (u.unbased j)) ∙ without_same (r + 1) (l.ints j) (u2.unbased j)))
        tt at.stands.nothing_passed (λ z. z))
        (λ _ know h2. told around.targets (Op.Settle r (r + 1)) know (mark k from until) (mark e from until) h2 (λ q y _ z. absurd (none_some y z))
        (λ q w _. let both = either_false (nat_eq q r) (nat_eq q (r + 1)) w in
        put_other l.same r q r (other_than q r both.0) ∙ sym (put_other k0.same (r + 1) q (r + 1) (other_than q (r + 1) both.1) ∙ put_other l.same r q v (other_than q r both.0)))
        (λ j m _ _ w. absurd (false≢true w))
        (λ j m low_j high _ z. same_number around f D named top low from k e m (l.ints j)
        (λ q w. let y = at.stands.bases j q w in put_other l.env r q (Refers t) (λ c. omega (arith, c, y)) ∙ sym (put_other k0.env (r + 1) q (Refers t) (λ c. omega (arith, c, y)) ∙ put_other l.env r q (Refers s) (λ c. omega (arith, c, y))))
        (h2.numbers j m low_j high z))))
