-- What was taken away is given a type, or freed, unless it is NULL.
use Rattle.sharc_typed_laws.proofs.{Imports.{◌≡◌, ◌≢◌, ℕ, ◌+◌, ◌<◌, ◌≤◌, ◌⊎◌, Bool, true, false, cond, [], ◌∷◌, refl, sym, ap, ◌∙◌, subst, inl, inr, ⊎_elim, arith, false≢true, cases_eq, cases_lt, nat_eq, put, put_same, put_other, put_all, Op, Spot, Context, ref_count, StaticType, Mentions, cells_of, Empty, Refers, Closed, Label, Less, LessNumber, LessEntry, LessGate, EntryMentions, IsScoped, IsFree, fill, empty, knows, without_copies, without_index, Recasts, IsLayout, moved_copy, refs_in, less_entry_refl, less_number_refl, scoped_fill, IsNumberOf, Mark, Setting, Fits, IsNamed, mark, Typing, eq_refl}, Fitting.{fits_same, fits_by, fits_through}, Standing.{less_by, less_emptied, without_same, uncopied, scoped_frame, unnamed}, Losing.{with_copies, loses_taken, stands_lost}, Moves.{on_take_local, on_free, on_give}, Parts.{does, same_number}, Accessed.Frame, Marked.marked, Words.words}
use Rattle.sharc_flat_lemmas.proofs.Flow as flow

module _ (around : Setting) (f : ℕ) (D : (ℕ → Mark) → Type 0) (y : Typing) (c : Context) (low : (p : ℕ) → y.named c p ≡ true → p < ref_count c.scope) (from : ℕ) where
  open words around f D (y.named c) (ref_count c.scope) low from use {named as N, top, Q, fi, fr as refs}

  -- ---- a variable's reference is taken away, and what was a copy of it is none any more
  pub take_variable_at : (i r : ℕ) (l : Label) → Frame around f D y c low from i r l → (s : StaticType) → IsNamed N r s → (x until : ℕ) (spot : Spot) → x < top → l.env x ≡ Refers s → N x ≡ false
      → Q (mark (record l { gate = Closed }) from until) (Op.TakeLocal r x spot ∷ []) (mark (fill (with_copies l (without_copies l.same x)) r (Refers s) r false) from i)
  take_variable_at i r l fr s fits x until spot lt is unnamed_x =
      let k : Label = record l { gate = Closed } in
      let t = with_copies l (without_copies l.same x) in
      let e = fill t r (Refers s) r false in
      let high = fr.high in
      let apart : r ≡ x → ⊥ = λ z. omega (arith, z, lt, high) in
      let n = fill (empty k x) r (k.env x) (moved_copy k r x) (k.known x) in
      let itself : l.same x ≡ x = fr.holds.copies x lt in
      let copy_is : moved_copy k r x ≡ r = ap (λ q. cond (nat_eq q x) r q) itself ∙ ap (λ b. cond b r x) (eq_refl x) in
      let lost_x : without_copies l.same x x ≡ x = ap (λ q. cond (nat_eq q x) x q) itself ∙ ap (λ b. cond b x x) (eq_refl x) in
      let free_x : IsFree k x = record { paths = λ q _ m. absurd (false≢true (sym unnamed_x ∙ (fr.at.stands.paths q x m).1)) } in
      does around f D N top low from (mark k from until) (Op.TakeLocal r x spot) (mark e from i)
      (λ in_it h. scoped_fill fi refs t r s r false in_it.0 (λ q m. fr.at.stands.full q (fits q m).0) (inl refl)
      (scoped_frame N i r t (stands_lost N l (without_copies l.same x) (loses_taken N l.same x unnamed_x) i r fr.at.stands) fi refs h.few h.numbers))
      (λ table pc in_it h next. on_take_local around f table pc (mark k from until) (mark e from i) next (record { owned = fr.at.owned; scoped = h }) r x spot refl
      (record { is = subst (λ o. r < refs_in around.code o) (sym fr.at.owned) in_it.0; empty = fr.at.stands.free r (omega arith) }) (subst (λ o. x < refs_in around.code o) (sym fr.at.owned) in_it.1) apart free_x
      (λ m. absurd (false≢true (sym unnamed_x ∙ (fr.at.stands.paths x x m).1)))
      (less_by n e refl
      (λ q. entry q n (⊎_elim (λ (z : q ≡ r). inl (ap n.env z ∙ put_same (empty k x).env r (k.env x) ∙ is ∙ sym (ap e.env z ∙ put_same l.env r (Refers s))))
      (λ (ne : q ≡ r → ⊥). ⊎_elim (λ (z : q ≡ x). inr (put_other (empty k x).env r q (k.env x) ne ∙ ap (empty k x).env z ∙ put_same l.env x Empty, put_other l.env r q (Refers s) ne ∙ ap l.env z ∙ is))
      (λ (no : q ≡ x → ⊥). inl (put_other (empty k x).env r q (k.env x) ne ∙ put_other l.env x q Empty no ∙ sym (put_other l.env r q (Refers s) ne))) (cases_eq q x)) (cases_eq q r)))
      (λ q. sym (⊎_elim (λ (z : q ≡ r). ap n.same z ∙ put_same (empty k x).same r (moved_copy k r x) ∙ copy_is ∙ sym (ap e.same z ∙ put_same t.same r r))
      (λ (ne : q ≡ r → ⊥). put_other (empty k x).same r q (moved_copy k r x) ne ∙ ⊎_elim (λ (z : q ≡ x). ap (empty k x).same z ∙ put_same (without_copies l.same x) x x ∙ sym lost_x ∙ ap t.same (sym z))
      (λ (no : q ≡ x → ⊥). put_other (without_copies l.same x) x q x no) (cases_eq q x) ∙ sym (put_other t.same r q r ne)) (cases_eq q r)))
      (λ q z. put_all (λ q w. w ≡ true → n.known q ≡ true) l.known r false (λ w. absurd (false≢true w))
      (λ q ne w. put_other (empty k x).known r q (k.known x) ne ∙ put_other l.known x q false (λ z. let le = fr.seen q w in omega (arith, z, le, lt)) ∙ w) q z)
      (λ j. subst (λ w. LessNumber w (l.ints j)) (sym (without_same x (l.ints j) (λ b. let le = fr.elements j x b in omega (arith, le, lt)))) (less_number_refl (l.ints j))) tt fr.at.stands.nothing_passed (λ z. z)))
    where
      entry : (q : ℕ) (n : Label) → ((n.env q ≡ put l.env r (Refers s) q) ⊎ ((n.env q ≡ Empty) × (put l.env r (Refers s) q ≡ Refers s))) → LessEntry n q (n.env q) (put l.env r (Refers s) q)
      entry q n h = ⊎_elim (λ (e : n.env q ≡ put l.env r (Refers s) q). subst (LessEntry n q (n.env q)) e (less_entry_refl n q (n.env q)))
          (λ w. subst (λ a. LessEntry n q a (put l.env r (Refers s) q)) (sym w.0) (subst (LessEntry n q Empty) (sym w.1) tt)) h

  module _ (i r : ℕ) (l : Label) (fr : Frame around f D y c low from i r l) (s : StaticType) (fits : IsNamed N r s) where
    abbrev taken : Bool → Label
    taken b = fill l r (Refers s) r b

    not_null : put l.env r (Refers s) r ≡ Empty → ⊥
    not_null e = let z : Refers s ≡ Empty = sym (put_same l.env r (Refers s)) ∙ e in cc

    in_frame : (b : Bool) → IsScoped fi refs (taken b) → r < refs
    in_frame b h = ⊎_elim (λ (lt : r < refs). lt) (λ (ge : refs ≤ r). absurd (not_null (h.few r ge))) (cases_lt r refs)

    free : (b : Bool) → IsFree (taken b) r
    free b = let high = fr.high in record { paths = λ q ne m. put_all (λ q z. (q ≡ r → ⊥) → EntryMentions z r → ⊥) l.env r (Refers s) (λ no _. no refl) (λ q _ no m. let z = low r (fr.at.stands.paths q r m).1 in omega (arith, z, high)) q ne m }

    scoped_l : (b : Bool) → IsScoped fi refs (taken b) → IsScoped fi refs l
    scoped_l b h = scoped_frame N i r l fr.at.stands fi refs (λ q ge. let lt = in_frame b h in sym (put_other l.env r q (Refers s) (λ z. omega (arith, z, ge, lt))) ∙ h.few q ge) h.numbers

    -- it is no NULL
    seen : Fits around.targets (mark (knows (taken false) r) from i) (mark (taken true) from i)
    seen = fits_by around.targets (mark (knows (taken false) r) from i) (mark (taken true) from i)
        (less_by (knows (taken false) r) (taken true) refl (λ q. less_entry_refl (knows (taken false) r) q (put l.env r (Refers s) q)) (λ q. refl) (λ q e. known q e) (λ j. less_number_refl (l.ints j)) tt fr.at.stands.nothing_passed (λ e. e))
        (λ q. refl) (omega arith) (omega arith) (λ j n _ _ z. same_number around f D N top low from (knows (taken false) r) (taken true) n (l.ints j) (λ q _. refl) z)
      where
        known : (q : ℕ) → put l.known r true q ≡ true → put (put l.known r false) r true q ≡ true
        known q z = ⊎_elim (λ (e : q ≡ r). ap (put (put l.known r false) r true) e ∙ put_same (put l.known r false) r true) (λ (ne : q ≡ r → ⊥). put_other (put l.known r false) r q true ne ∙ put_other l.known r q false ne ∙ sym (put_other l.known r q true ne) ∙ z) (cases_eq q r)

    -- it is NULL
    gone : Fits around.targets (mark (empty (taken false) r) from i) (mark l from i)
    gone = fits_by around.targets (mark (empty (taken false) r) from i) (mark l from i) (less_emptied l r (unnamed N i r l fr.at.stands r (omega arith)) (Refers s) r false)
        (λ q. sym (copies q)) (omega arith) (omega arith) (λ j n _ _ z. number j n z)
      where
        copies : (q : ℕ) → (empty (taken false) r).same q ≡ l.same q
        copies q = let u = unnamed N i r l fr.at.stands r (omega arith) in
            ⊎_elim (λ (e : q ≡ r). ap (put (without_copies (taken false).same r) r r) e ∙ put_same (without_copies (taken false).same r) r r ∙ sym (ap l.same e ∙ u.alone))
            (λ (ne : q ≡ r → ⊥). let there : (taken false).same q ≡ l.same q = put_other l.same r q r ne in put_other (without_copies (taken false).same r) r q r ne ∙ uncopied (taken false).same r q (λ z. u.apart q ne (sym there ∙ z)) ∙ there) (cases_eq q r)

        number : (j n : ℕ) → IsNumberOf around.targets (empty (taken false) r) n (without_index r (l.ints j)) → IsNumberOf around.targets l n (l.ints j)
        number j n z = let u = unnamed N i r l fr.at.stands r (omega arith) in same_number around f D N top low from (empty (taken false) r) l n (l.ints j)
            (λ q b. let lt = fr.at.stands.bases j q b in sym (put_other (taken false).env r q Empty (λ e. omega (arith, e, lt)) ∙ put_other l.env r q (Refers s) (λ e. omega (arith, e, lt))))
            (subst (IsNumberOf around.targets (empty (taken false) r) n) (without_same r (l.ints j) (u.unbased j)) z)

    unless_null : (o : Op) (e : Mark) → Fits around.targets (mark l from i) e → Q (mark (taken true) from i) (o ∷ []) e → Q (mark (taken false) from i) (Op.SkipIfNull r 1 ∷ o ∷ []) e
    unless_null o e fit p = λ w h.
        let q = p w.1 (record { few = h.few; paths = h.paths; copies = h.copies; bases = h.bases; passes = h.passes; numbers = h.numbers; known = put_all (λ q z. z ≡ true → put l.env r (Refers s) q ≢ Empty) l.known r true (λ _. not_null) (λ q ne z. h.known q (put_other l.known r q false ne ∙ z)) }) in
        record {
          stretch = λ pc. flow.over_null (marked around f) D (mark (taken false) from i) (mark (taken true) from i) e pc r o (record { plain = record { owned = fr.at.owned; scoped = h; closed = refl }; free = free false }) seen (fits_through around.targets (mark (empty (taken false) r) from i) (mark l from i) e gone fit) (q.stretch (pc + 1));
          scoped = q.scoped;
        }

    -- ---- free
    pub freed_at : (layout : ℕ) (spot : Spot) → IsLayout around.targets around.code layout s.target → Q (mark (taken false) from i) (Op.SkipIfNull r 1 ∷ Op.Free r layout spot ∷ []) (mark l from i)
    freed_at layout spot laid = unless_null (Op.Free r layout spot) (mark l from i) (fits_same around.targets (mark l from i))
        (does around f D N top low from (mark (taken true) from i) (Op.Free r layout spot) (mark l from i) (λ _ h. scoped_l true h)
        (λ table pc w h next. on_free around f table pc (mark (taken true) from i) (mark l from i) next (record { owned = fr.at.owned; scoped = h }) r layout spot s refl (subst (λ o. r < refs_in around.code o) (sym fr.at.owned) w) (put_same l.known r true) (free true) (put_same l.env r (Refers s)) laid
        (less_emptied l r (unnamed N i r l fr.at.stands r (omega arith)) (Refers s) r true)))

    -- ---- SCAST
    module _ (t : StaticType) (fits2 : IsNamed N r t) where
      abbrev given : Label
      given = fill l r (Refers t) r false

      entered : (q : ℕ) → LessEntry l q (l.env q) (put l.env r (Refers t) q)
      entered q = ⊎_elim (λ (e : q ≡ r). subst (λ z. LessEntry l q z (put l.env r (Refers t) q)) (sym (ap l.env e ∙ fr.at.stands.free r (omega arith))) (subst (LessEntry l q Empty) (sym (ap (put l.env r (Refers t)) e ∙ put_same l.env r (Refers t))) tt))
          (λ (ne : q ≡ r → ⊥). subst (LessEntry l q (l.env q)) (sym (put_other l.env r q (Refers t) ne)) (less_entry_refl l q (l.env q))) (cases_eq q r)

      copies : (q : ℕ) → put l.same r r q ≡ l.same q
      copies q = ⊎_elim (λ (e : q ≡ r). ap (put l.same r r) e ∙ put_same l.same r r ∙ sym (ap l.same e ∙ fr.at.stands.alone r (omega arith))) (λ (ne : q ≡ r → ⊥). put_other l.same r q r ne) (cases_eq q r)

      known : (q : ℕ) → put l.known r false q ≡ true → l.known q ≡ true
      known q e = ⊎_elim (λ (z : q ≡ r). absurd (false≢true (sym (ap (put l.known r false) z ∙ put_same l.known r false) ∙ e))) (λ (ne : q ≡ r → ⊥). sym (put_other l.known r q false ne) ∙ e) (cases_eq q r)

      -- NULL has any type
      null_fits : Fits around.targets (mark l from i) (mark given from i)
      null_fits = fits_by around.targets (mark l from i) (mark given from i) (less_by l given refl entered copies known (λ j. less_number_refl (l.ints j)) (subst (λ g. LessGate g Closed) (sym fr.at.stands.closed) tt) fr.at.stands.nothing_passed (λ e. e))
          copies (omega arith) (omega arith) (λ j n _ _ z. same_number around f D N top low from l given n (l.ints j) (λ q b. let lt = fr.at.stands.bases j q b in put_other l.env r q (Refers t) (λ e. omega (arith, e, lt))) z)

      abbrev made : Label
      made = fill (empty (taken true) r) r (Refers t) r true

      less_made : Less made given
      less_made =
          let u = unnamed N i r l fr.at.stands r (omega arith) in
          let k = taken true in
          less_by made given refl
          (λ q. subst (LessEntry made q (made.env q)) (⊎_elim (λ (e : q ≡ r). ap made.env e ∙ put_same (empty k r).env r (Refers t) ∙ sym (ap given.env e ∙ put_same l.env r (Refers t)))
          (λ (ne : q ≡ r → ⊥). put_other (empty k r).env r q (Refers t) ne ∙ put_other k.env r q Empty ne ∙ put_other l.env r q (Refers s) ne ∙ sym (put_other l.env r q (Refers t) ne)) (cases_eq q r)) (less_entry_refl made q (made.env q)))
          (λ q. sym (⊎_elim (λ (e : q ≡ r). ap made.same e ∙ put_same (empty k r).same r r ∙ sym (ap given.same e ∙ put_same l.same r r))
          (λ (ne : q ≡ r → ⊥). let there : k.same q ≡ l.same q = put_other l.same r q r ne in
          put_other (empty k r).same r q r ne ∙ put_other (without_copies k.same r) r q r ne ∙ uncopied k.same r q (λ z. u.apart q ne (sym there ∙ z)) ∙ there ∙ sym (put_other l.same r q r ne)) (cases_eq q r)))
          (λ q e. ⊎_elim (λ (z : q ≡ r). absurd (false≢true (sym (ap given.known z ∙ put_same l.known r false) ∙ e)))
          (λ (ne : q ≡ r → ⊥). put_other (empty k r).known r q true ne ∙ put_other k.known r q false ne ∙ put_other l.known r q true ne ∙ sym (put_other l.known r q false ne) ∙ e) (cases_eq q r))
          (λ j. subst (λ z. LessNumber z (l.ints j)) (sym (without_same r (l.ints j) (u.unbased j))) (less_number_refl (l.ints j))) tt fr.at.stands.nothing_passed (λ e. e)

      own_not : Mentions t r → ⊥
      own_not m = let z = (fits2 r m).0 in omega (arith, z)

      pub given_at : (size : ℕ) (spot : Spot) → size ≡ cells_of around.targets s.target → Recasts around.targets (taken true) r s t → Q (mark (taken false) from i) (Op.SkipIfNull r 1 ∷ Op.Give r size spot ∷ []) (mark given from i)
      given_at size spot cells recasts = unless_null (Op.Give r size spot) (mark given from i) null_fits
          (does around f D N top low from (mark (taken true) from i) (Op.Give r size spot) (mark given from i)
          (λ _ h. scoped_fill fi refs l r t r false (in_frame true h) (λ q m. fr.at.stands.full q (fits2 q m).0) (inl refl) (scoped_l true h))
          (λ table pc w h next. on_give around f table pc (mark (taken true) from i) (mark given from i) next (record { owned = fr.at.owned; scoped = h }) r size spot s t refl (subst (λ o. r < refs_in around.code o) (sym fr.at.owned) (in_frame true h)) (put_same l.known r true) (free true) (put_same l.env r (Refers s)) cells recasts own_not less_made))
