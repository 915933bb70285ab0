-- What is accessed, with the base and the index of its cell at hand: loads, stores and takes.
use Rattle.sharc_typed_laws.proofs.{Imports.{◌≡◌, ℕ, ◌+◌, ◌<◌, ◌≤◌, Bool, true, false, [], ◌∷◌, refl, sym, ap, ◌∙◌, subst, inl, ⊎_elim, arith, false≢true, cases_eq, cases_lt, Cell, Width, put, put_same, put_other, put_all, Op, Spot, StaticType, Field, FieldType, Mentions, Readonly, Integer, Pointer, Empty, Refers, Number, Anything, Within, Gate, Closed, Loaded, Label, Less, LessNumber, LessEntry, LessGate, EntryMentions, IsScoped, set_number, fill, empty, without_copies, without_index, IsVacant, PointsTo, HasCell, FitsWidth, ints_in, refs_in, less_refl, less_entry_refl, less_number_refl, scoped_fill, IsNumberOf, Mark, Setting, IsAtHand, IsNamed, MayReach, mark, none_some}, Standing.{less_by, without_same, uncopied, scoped_frame, unnamed, stands_number}, Telling.{told, other_than}, Accesses.{InFrame, on_load, on_store, on_load_reference, on_take_cell, on_store_reference, on_load_guard}, Parts.{same_number, told_same, told_number, with_number}, Words.words}

-- the integer registers hold this, and this stands directly before
abbrev pub over : Label → (ℕ → Number) → Gate → Label
over l g c = record l { ints = g; gate = c }

module _ (around : Setting) (f : ℕ) (D : (ℕ → Mark) → Type 0) (named : ℕ → Bool) (top : ℕ) (low : (p : ℕ) → named p ≡ true → p < top) (from : ℕ) where
  open words around f D named top low from use {fi, fr, Q, Here, Scoped, one}

  -- A label of which so many registers are taken, with anything in the integer registers that are free, and any gate.
  module _ (i r : ℕ) (l : Label) (at : Here i r l) (g : ℕ → Number) (below : (j : ℕ) → j < i → g j ≡ l.ints j) where
    here : (c : Gate) (until : ℕ) → Scoped (mark (over l g c) from until) → InFrame around f (mark (over l g c) from until)
    here c until h = record { owned = at.owned; scoped = h }

    -- what is in them is forgotten
    less_ints : (j : ℕ) → LessNumber (g j) (l.ints j)
    less_ints j = ⊎_elim (λ (small : j < i). subst (LessNumber (g j)) (below j small) (less_number_refl (g j))) (λ (ge : i ≤ j). subst (LessNumber (g j)) (sym (at.stands.numbers j ge)) tt) (cases_lt j i)

    few_ints : ((j : ℕ) → fi ≤ j → g j ≡ Anything) → (j : ℕ) → fi ≤ j → l.ints j ≡ Anything
    few_ints h j ge = ⊎_elim (λ (small : j < i). sym (below j small) ∙ h j ge) (λ (le : i ≤ j). at.stands.numbers j le) (cases_lt j i)

    numbers_kept : (k : Label) → ((q : ℕ) → q < r → k.env q ≡ l.env q) → (c : Gate) (j n : ℕ) → j < i → IsNumberOf around.targets (over l g c) n (g j) → IsNumberOf around.targets k n (l.ints j)
    numbers_kept k same c j n small z = same_number around f D named top low from (over l g c) k n (l.ints j) (λ q b. same q (at.stands.bases j q b)) (subst (IsNumberOf around.targets (over l g c) n) (below j small) z)

    -- the pointer to the mutex is read
    pub guard_at : (until : ℕ) (cell : Cell) (spot : Spot) (field : Field) (to : FieldType) → HasCell around.targets around.code (over l g Closed) cell field → field.mode ≡ Readonly → field.holds ≡ Pointer to
        → Q (mark (over l g Closed) from until) (Op.LoadGuard cell spot ∷ []) (mark (over l g (Loaded cell)) from until)
    guard_at until cell spot field to has mode holds = one (mark (over l g Closed) from until) (Op.LoadGuard cell spot) (mark (over l g (Loaded cell)) from until)
        (λ _ h. record { few = h.few; paths = h.paths; copies = h.copies; bases = h.bases; known = h.known; passes = h.passes; numbers = h.numbers })
        (λ table pc w h next. on_load_guard around f table pc (mark (over l g Closed) from until) (mark (over l g (Loaded cell)) from until) next (here Closed until h) cell spot field to refl has mode holds (less_refl (over l g (Loaded cell)))
        (λ _ k t. told_same (Op.LoadGuard cell spot) (λ q. refl) (λ j. refl) around k (mark (over l g Closed) from until) (mark (over l g (Loaded cell)) from until) (λ q. refl) (omega arith) (omega arith)
        (λ j n a b z. same_number around f D named top low from (over l g Closed) (over l g (Loaded cell)) n (g j) (λ q _. refl) z) t))

    -- an integer
    pub load_at : (c : Gate) (until : ℕ) → i ≤ until → (cell : Cell) (spot : Spot) (field : Field) (w : Width) → IsAtHand (mark (over l g c) from until) cell → MayReach around (over l g c) false cell spot field → field.holds ≡ Integer w
        → Q (mark (over l g c) from until) (Op.Load i cell spot ∷ []) (with_number around f D named top low from l i (Within w))
    load_at c until le cell spot field w hand may holds =
        let a = over l g c in
        let n : Number = Within w in
        one (mark a from until) (Op.Load i cell spot) (mark (set_number l i n) from (i + 1))
        (λ in_it h. scoped_frame named (i + 1) r (set_number l i n) (stands_number named i r l at.stands n (λ q b. absurd b)) fi fr h.few
        (put_all (λ j y. fi ≤ j → y ≡ Anything) l.ints i n (λ ge. absurd (omega (arith, in_it, ge))) (λ j _ ge. at.stands.numbers j (omega (arith, in_it, ge)))))
        (λ table pc in_it h next. on_load around f table pc (mark a from until) (mark (set_number l i n) from (i + 1)) next (here c until h) i cell spot field w hand (subst (λ o. i < ints_in around.code o) (sym at.owned) in_it) may holds
        (less_by (set_number a i n) (set_number l i n) refl (λ q. less_entry_refl (set_number a i n) q (l.env q)) (λ q. refl) (λ q e. e) (λ j. less_put j) tt at.stands.nothing_passed (λ e. e))
        (λ _ k t. told_number (Op.Load i cell spot) i (λ q. refl) (λ j. refl) around k (mark a from until) (mark (set_number l i n) from (i + 1)) (λ m is. absurd (none_some m is)) (λ q. refl) (omega arith) (omega arith) le
        (λ j m small z. subst (IsNumberOf around.targets (set_number l i n) m) (sym (put_other l.ints i j n (λ e. omega (arith, e, small)))) (numbers_kept (set_number l i n) (λ q _. refl) c j m small z)) t))
      where
        less_put : (j : ℕ) → LessNumber (put g i (Within w) j) (put l.ints i (Within w) j)
        less_put j = ⊎_elim (λ (e : j ≡ i). subst (LessNumber (put g i (Within w) j)) (ap (put g i (Within w)) e ∙ put_same g i (Within w) ∙ sym (ap (put l.ints i (Within w)) e ∙ put_same l.ints i (Within w))) (less_number_refl (put g i (Within w) j)))
            (λ (ne : j ≡ i → ⊥). subst (λ y. LessNumber y (put l.ints i (Within w) j)) (sym (put_other g i j (Within w) ne)) (subst (LessNumber (g j)) (sym (put_other l.ints i j (Within w) ne)) (less_ints j))) (cases_eq j i)

    vacant_at : (c : Gate) → r < fr → IsVacant around.code (over l g c) r
    vacant_at c lt = record { is = subst (λ o. r < refs_in around.code o) (sym at.owned) lt; empty = at.stands.free r (omega arith) }

    abbrev got : StaticType → Label
    got t = fill l r (Refers t) r false

    scoped_got : (t : StaticType) → IsNamed named r t → (c : Gate) (until : ℕ) → r < fr → Scoped (mark (over l g c) from until) → IsScoped fi fr (got t)
    scoped_got t fits c until lt h = scoped_fill fi fr l r t r false lt (λ q m. at.stands.full q (fits q m).0) (inl refl) (scoped_frame named i r l at.stands fi fr h.few (few_ints h.numbers))

    less_got : (t : StaticType) (c : Gate) → Less (fill (over l g c) r (Refers t) r false) (got t)
    less_got t c = less_by (fill (over l g c) r (Refers t) r false) (got t) refl (λ q. less_entry_refl (fill (over l g c) r (Refers t) r false) q (put l.env r (Refers t) q)) (λ q. refl) (λ q e. e) less_ints tt at.stands.nothing_passed (λ e. e)

    own_not : (t : StaticType) → IsNamed named r t → Mentions t r → ⊥
    own_not t fits m = let z = (fits r m).0 in omega (arith, z)

    -- a reference
    pub load_reference_at : (c : Gate) (until : ℕ) → i ≤ until → (cell : Cell) (spot : Spot) (field : Field) (t : StaticType) → IsNamed named r t → IsAtHand (mark (over l g c) from until) cell → MayReach around (over l g c) false cell spot field → PointsTo (over l g c) cell field t
        → Q (mark (over l g c) from until) (Op.LoadRef r cell spot ∷ []) (mark (got t) from i)
    load_reference_at c until le cell spot field t fits hand may points = one (mark (over l g c) from until) (Op.LoadRef r cell spot) (mark (got t) from i) (λ in_it h. scoped_got t fits c until in_it h)
        (λ table pc in_it h next. on_load_reference around f table pc (mark (over l g c) from until) (mark (got t) from i) next (here c until h) r cell spot field t hand (vacant_at c in_it) may points (own_not t fits) (less_got t c)
        (λ _ k s. told around.targets (Op.LoadRef r cell spot) k (mark (over l g c) from until) (mark (got t) from i) s (λ q x _ is. absurd (none_some x is))
        (λ q a _. put_other l.same r q r (other_than q r a)) (λ j n _ _ a. absurd (false≢true a))
        (λ j n a b _ is. numbers_kept (got t) (λ q lt. put_other l.env r q (Refers t) (λ e. omega (arith, e, lt))) c j n b (s.numbers j n a (omega (arith, b, le)) is))))

    -- that is taken away
    pub take_at : (c : Gate) (until : ℕ) (cell : Cell) (spot : Spot) (field : Field) (t : StaticType) → IsNamed named r t → MayReach around (over l g c) true cell spot field → PointsTo (over l g c) cell field t
        → Q (mark (over l g c) from until) (Op.TakeCell r cell spot ∷ []) (mark (got t) from i)
    take_at c until cell spot field t fits may points = one (mark (over l g c) from until) (Op.TakeCell r cell spot) (mark (got t) from i) (λ in_it h. scoped_got t fits c until in_it h)
        (λ table pc in_it h next. on_take_cell around f table pc (mark (over l g c) from until) (mark (got t) from i) next (here c until h) r cell spot field t (vacant_at c in_it) may points (own_not t fits) (less_got t c))

    -- an integer is stored
    pub store_at : (c : Gate) (until vi : ℕ) → i ≤ until → (cell : Cell) (spot : Spot) (field : Field) (w : Width) → IsAtHand (mark (over l g c) from until) cell → MayReach around (over l g c) true cell spot field → field.holds ≡ Integer w → FitsWidth (g vi) w
        → Q (mark (over l g c) from until) (Op.Store vi cell spot ∷ []) (mark l from i)
    store_at c until vi le cell spot field w hand may holds fits = one (mark (over l g c) from until) (Op.Store vi cell spot) (mark l from i) (λ _ h. scoped_frame named i r l at.stands fi fr h.few (few_ints h.numbers))
        (λ table pc in_it h next. on_store around f table pc (mark (over l g c) from until) (mark l from i) next (here c until h) vi cell spot field w hand may holds fits
        (less_by (over l g Closed) l refl (λ q. less_entry_refl (over l g Closed) q (l.env q)) (λ q. refl) (λ q e. e) less_ints (subst (λ y. LessGate Closed y) (sym at.stands.closed) tt) at.stands.nothing_passed (λ e. e))
        (λ _ k s. told_same (Op.Store vi cell spot) (λ q. refl) (λ j. refl) around k (mark (over l g c) from until) (mark l from i) (λ q. refl) (omega arith) le (λ j n a b z. numbers_kept l (λ q _. refl) c j n b z) s))

    -- a reference is stored, and what was there is given up
    abbrev stored : StaticType → ℕ → Bool → Gate → Label
    stored t v b c = record (fill (over l g Closed) r (Refers t) v b) { gate = c }

    less_stored : (t : StaticType) (v : ℕ) (b : Bool) (c : Gate) → Less (empty (fill (empty (stored t v b c) r) r (Refers t) r false) r) l
    less_stored t v b c =
        let y = stored t v b c in
        let y2 = empty y r in
        let y3 = fill y2 r (Refers t) r false in
        let u = unnamed named i r l at.stands r (omega arith) in
        less_by (empty y3 r) l refl
        (λ q. subst (LessEntry (empty y3 r) q ((empty y3 r).env q)) (⊎_elim (λ (e : q ≡ r). ap (put y3.env r Empty) e ∙ put_same y3.env r Empty ∙ sym (ap l.env e ∙ u.empty))
        (λ (ne : q ≡ r → ⊥). put_other y3.env r q Empty ne ∙ put_other y2.env r q (Refers t) ne ∙ put_other y.env r q Empty ne ∙ put_other l.env r q (Refers t) ne) (cases_eq q r)) (less_entry_refl (empty y3 r) q ((empty y3 r).env q)))
        (λ q. sym (⊎_elim (λ (e : q ≡ r). ap (put (without_copies y3.same r) r r) e ∙ put_same (without_copies y3.same r) r r ∙ sym (ap l.same e ∙ u.alone))
        (λ (ne : q ≡ r → ⊥).
        let one : y.same q ≡ l.same q = put_other l.same r q v ne in
        let two : y2.same q ≡ l.same q = put_other (without_copies y.same r) r q r ne ∙ uncopied y.same r q (λ z. u.apart q ne (sym one ∙ z)) ∙ one in
        let three : y3.same q ≡ l.same q = put_other y2.same r q r ne ∙ two in
        put_other (without_copies y3.same r) r q r ne ∙ uncopied y3.same r q (λ z. u.apart q ne (sym three ∙ z)) ∙ three) (cases_eq q r)))
        (λ q e. ⊎_elim (λ (z : q ≡ r). absurd (u.unknown (sym (ap l.known z) ∙ e)))
        (λ (ne : q ≡ r → ⊥). put_other y3.known r q false ne ∙ put_other y2.known r q false ne ∙ put_other y.known r q false ne ∙ put_other l.known r q b ne ∙ e) (cases_eq q r))
        (λ j. forgotten j) (subst (λ y. LessGate Closed y) (sym at.stands.closed) tt) at.stands.nothing_passed (λ e. e)
      where
        forgotten : (j : ℕ) → LessNumber (without_index r (without_index r (g j))) (l.ints j)
        forgotten j = ⊎_elim (λ (small : j < i).
            let e : without_index r (l.ints j) ≡ l.ints j = without_same r (l.ints j) (λ h. let z = at.stands.bases j r h in omega (arith, z)) in
            subst (LessNumber (without_index r (without_index r (g j)))) (ap (λ n. without_index r (without_index r n)) (below j small) ∙ ap (without_index r) e ∙ e) (less_number_refl (without_index r (without_index r (g j)))))
            (λ (ge : i ≤ j). subst (LessNumber (without_index r (without_index r (g j)))) (sym (at.stands.numbers j ge)) tt) (cases_lt j i)

    pub store_reference_at : top ≤ r → (c : Gate) (until : ℕ) → i ≤ until → (cell : Cell) (spot : Spot) (field : Field) (t : StaticType) (v : ℕ) (b : Bool) → IsNamed named r t → IsAtHand (mark (stored t v b c) from until) cell → MayReach around (stored t v b c) true cell spot field → PointsTo (stored t v b c) cell field t
        → Q (record (mark (stored t v b c) from until) { replaced = t }) (Op.StoreRef r cell spot ∷ []) (mark l from i)
    store_reference_at le c until le2 cell spot field t v b fits hand may points =
        let y = stored t v b c in
        let s : Mark = record (mark y from until) { replaced = t } in
        one s (Op.StoreRef r cell spot) (mark l from i)
        (λ _ h. scoped_frame named i r l at.stands fi fr (λ q ge. ⊎_elim (λ (e : q ≡ r). at.stands.free q (omega (arith, e))) (λ (ne : q ≡ r → ⊥). sym (put_other l.env r q (Refers t) ne) ∙ h.few q ge) (cases_eq q r)) (few_ints h.numbers))
        (λ table pc in_it h next. on_store_reference around f table pc s (mark l from i) next (record { owned = at.owned; scoped = h }) r cell spot field hand (subst (λ o. r < refs_in around.code o) (sym at.owned) in_it) may points
        (subst (λ e. LessEntry y r e (Refers t)) (sym (put_same l.env r (Refers t))) (less_entry_refl y r (Refers t)))
        (record { paths = λ q ne m. put_all (λ q y. (q ≡ r → ⊥) → EntryMentions y r → ⊥) l.env r (Refers t) (λ no _. no refl) (λ q _ no m. let z = low r (at.stands.paths q r m).1 in omega (arith, z, le)) q ne m })
        (own_not t fits) (λ q m e. at.stands.full q (fits q m).0 (sym (put_other l.env r q (Refers t) (λ z. own_not t fits (subst (Mentions t) z m))) ∙ e)) (less_stored t v b c)
        (λ _ k s2. told around.targets (Op.StoreRef r cell spot) k s (mark l from i) s2 (λ q x _ is. absurd (none_some x is))
        (λ q a _. sym (put_other l.same r q v (other_than q r a))) (λ j n _ _ a. absurd (false≢true a))
        (λ j n a z _ is. same_number around f D named top low from y l n (l.ints j) (λ q b2. sym (put_other l.env r q (Refers t) (λ e. let w = at.stands.bases j q b2 in omega (arith, e, w))))
        (subst (IsNumberOf around.targets y n) (below j z) (s2.numbers j n a (omega (arith, z, le2)) is)))))
