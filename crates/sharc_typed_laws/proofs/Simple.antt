-- Assignments, and calls whose value is dropped.
use Rattle.sharc_typed_laws.proofs.{Imports.{◌≡◌, ℕ, ◌+◌, ◌<◌, ◌≤◌, ◌⊎◌, Bool, true, false, cond, List, [], ◌∷◌, ◌++◌, Option, Some, None, refl, sym, ap, ◌∙◌, subst, inl, ⊎_elim, arith, pos, false≢true, cases_eq, Site, span_of, Expression, Right, value, malloc, Simple, assign, does_call, Kind, is_integer, declared_kind, Register, Width, put, put_same, put_other, put_all, pointed, row_at, Sharing, element_cells, is_reference, Op, Spot, Lvalue, Context, int_count, ref_count, register_of, at_site, Target, variable, in_global, in_global_at, in_object, in_object_at, base_width, index_width, width_of, width_code, store_code, cell_store_code, settle_code, kind_of, is_ref, target_of, mode_of, lvalue_in, guard_of, expression_code, place_code, elements_code, right_code, simple_code, drop_code, is_cell, StaticType, Refers, Element, Number, Exactly, Within, OfElement, Closed, Label, LessNumber, fill, set_number, ints_in, refs_in, less_entry_refl, less_number_refl, scoped_fill, IsNumberOf, Mark, Setting, Way, AreOpen, IsNamed, IsPlain, AreLow, mark, Typing, IsPointerCopy, Ground, number_in_global, IsBare, IsTypeIn, ground_of, IsTypable, IsMade, CountTypable, ValueGoes, RightTypable, VariableAssigned, CellAssigned, Assigned, Dropped, SimpleTypable, none_some}, Fitting.fits_same, Losing.{with_copies, Loses, loses_none, loses_both, kept, below, loses_below, loses_there, small_there, lost_fill, pointer_kept}, Standing.{less_by, scoped_frame}, Telling.{told, other_than}, Moves.on_new, Parts.{P, does, then_do, none, enter, constant_at, positive_at, pop_at, same_number, number_dropped, width_at, with_number}, Values.over, Variables.{assign_at, assign_number_at}, Accessed.{Frame, ints_of, placed, int_store, reference_store}, Expressing.{Done, Value, PlaceValue, expressions, places, int_of, ref_of, in_frame, taken_number, lost_frame, frame_fill, frame_number, plain_frame}}

module _ (around : Setting) (f : ℕ) (ways : List Way) (y : Typing) (c : Context) (low : AreLow (y.named c) (ref_count c.scope)) where
  abbrev D : (ℕ → Mark) → Type 0
  D = AreOpen around ways

  abbrev N : ℕ → Bool
  N = y.named c

  abbrev top : ℕ
  top = ref_count c.scope

  abbrev Q : ℕ → Mark → List Op → Mark → Type 0
  Q from = P around f D N top low from

  abbrev F : ℕ → ℕ → ℕ → Label → Type 0
  F from = Frame around f D y c low from

  joins : (from : ℕ) (s m e : Mark) (xs ys : List Op) → Q from s xs m → Q from m ys e → Q from s (xs ++ ys) e
  joins from = then_do around f D N top low from

  -- ---- a new object
  new_at : (from i r : ℕ) (l : Label) (fr : F from i r l) (n : Number) → IsPlain n → (s : StaticType) → IsTypeIn around f y c s → (size : ℕ) (spot : Spot) → IsMade around f y s spot.site.token size
      → Q from (with_number around f D N top low from l i n) (Op.New r i size spot ∷ []) (mark (fill l r (Refers s) r false) from i)
  new_at from i r l fr n plain s type size spot made =
      let fits = in_frame around f ways y c low from i r l fr s type in
      let k = set_number l i n in
      let t = fill l r (Refers s) r false in
      let m = fill k r (Refers s) r true in
      does around f D N top low from (mark k from (i + 1)) (Op.New r i size spot) (mark t from i)
      (λ in_it h. scoped_fill (ints_in around.code (Some f)) (refs_in around.code (Some f)) l r s r false in_it (λ q z. fr.at.stands.full q (fits q z).0) (inl refl)
      (scoped_frame N i r l fr.at.stands (ints_in around.code (Some f)) (refs_in around.code (Some f)) h.few (λ j ge. ⊎_elim (λ (e : j ≡ i). fr.at.stands.numbers j (omega (arith, e))) (λ (ne : j ≡ i → ⊥). sym (put_other l.ints i j n ne) ∙ h.numbers j ge) (cases_eq j i))))
      (λ table pc in_it h next. on_new around f table pc (mark k from (i + 1)) (mark t from i) next (record { owned = fr.at.owned; scoped = h }) r i size spot s refl
      (record { is = subst (λ o. r < refs_in around.code o) (sym fr.at.owned) in_it; empty = fr.at.stands.free r (omega arith) }) made.some made.row made.cells made.few made.pointers (λ z. let w = (fits r z).0 in omega (arith, w))
      (less_by m t refl (λ q. less_entry_refl m q (put l.env r (Refers s) q)) (λ q. refl) (λ q e. known q e) (λ j. numbers j) tt fr.at.stands.nothing_passed (λ e. e))
      (λ _ know h2. told around.targets (Op.New r i size spot) know (mark k from (i + 1)) (mark t from i) h2 (λ q v _ e. absurd (none_some v e)) (λ q a _. put_other l.same r q r (other_than q r a)) (λ j x _ _ a. absurd (false≢true a))
      (λ j x a b _ e. same_number around f D N top low from k t x (l.ints j) (λ q z. put_other l.env r q (Refers s) (λ w. let lt = fr.at.stands.bases j q z in omega (arith, w, lt)))
      (subst (IsNumberOf around.targets k x) (put_other l.ints i j n (λ w. omega (arith, w, b))) (h2.numbers j x a (omega (arith, b)) e)))))
    where
      known : (q : ℕ) → put l.known r false q ≡ true → put l.known r true q ≡ true
      known q e = ⊎_elim (λ (w : q ≡ r). ap (put l.known r true) w ∙ put_same l.known r true) (λ (ne : q ≡ r → ⊥). put_other l.known r q true ne ∙ sym (put_other l.known r q false ne) ∙ e) (cases_eq q r)

      numbers : (j : ℕ) → LessNumber (put l.ints i n j) (l.ints j)
      numbers j = put_all (λ j x. LessNumber x (l.ints j)) l.ints i n (subst (LessNumber n) (sym (fr.at.stands.numbers i (omega arith))) tt) (λ j _. less_number_refl (l.ints j)) j

  -- ---- what is assigned
  -- a reference, or an integer that fits
  pub record ReferenceAt (from i r : ℕ) (l : Label) (s : StaticType) (os : List Op) : Type 0 where
    pub lost : ℕ → ℕ
    pub loses : Loses N l.same lost
    pub copy : ℕ
    pub small : (copy ≡ r) ⊎ (copy < top)
    pub piece : Q from (mark l from i) os (mark (fill (with_copies l lost) r (Refers s) copy false) from i)

  pub record NumberAt (from i : ℕ) (l : Label) (w : Width) (os : List Op) : Type 0 where
    pub lost : ℕ → ℕ
    pub loses : Loses N l.same lost
    pub piece : Q from (mark l from i) os (mark (set_number (with_copies l lost) i (Within w)) from i)

  abbrev pub Comes : ℕ → ℕ → ℕ → Label → Kind → StaticType → List Op → Bool → Type 0
  Comes from i r l kind s os true = ReferenceAt from i r l s os
  Comes from i r l kind s os false = NumberAt from i l (width_of kind) os

  -- nothing is lost where nothing but variables is at hand
  pub reference_kept : (from i r : ℕ) (l : Label) → IsBare l → (s : StaticType) (os : List Op) → (v : ReferenceAt from i r l s os) → Q from (mark l from i) os (mark (fill l r (Refers s) v.copy false) from i)
  reference_kept from i r l alone s os v = subst (λ k. Q from (mark l from i) os (mark (fill k r (Refers s) v.copy false) from i)) (kept N l v.lost v.loses alone) v.piece

  pub number_kept : (from i : ℕ) (l : Label) → IsBare l → (w : Width) (os : List Op) → NumberAt from i l w os → Q from (mark l from i) os (mark (set_number l i (Within w)) from i)
  number_kept from i l alone w os v = subst (λ k. Q from (mark l from i) os (mark (set_number k i (Within w)) from i)) (kept N l v.lost v.loses alone) v.piece

  -- the number of elements
  record Counted (from i : ℕ) (l : Label) (os : List Op) : Type 0 where
    lost : ℕ → ℕ
    loses : Loses N l.same lost
    number : Number
    plain : IsPlain number
    piece : Q from (mark l from i) os (with_number around f D N top low from (with_copies l lost) i number)

  counted : (from i r : ℕ) (l : Label) → F from i r l → (n : Option Expression) → CountTypable around f y c n → Counted from i l (elements_code c i r n)
  counted from i r l fr None h = record { lost = l.same; loses = loses_none N l.same; number = Exactly (pos 1); plain = tt; piece = constant_at around f D N top low from i r l fr.at (pos 1) }
  counted from i r l fr (Some n) h =
      let v = int_of around f ways y c low from i r l (expression_code c i r n) n h.1 (expressions around f ways y c low from i r l fr n h.0) in
      record { lost = v.lost; loses = v.loses; number = v.number; plain = v.plain; piece = v.piece }

  pub rights : (from i r : ℕ) (l : Label) → F from i r l → (kind : Kind) (mode : Sharing) (s : StaticType) (x : Right) → RightTypable around f y c kind s x → Comes from i r l kind s (right_code c i r kind mode x) (is_reference kind)
  rights from i r l fr kind mode s (value e) h = by (is_reference kind) h
    where
      by : (b : Bool) → ValueGoes around f y c kind s e b → Comes from i r l kind s (expression_code c i r e ++ width_code i kind (span_of e).first) b
      by true h =
          let w = ref_of around f ways y c low from i r l (expression_code c i r e) e h.1 (expressions around f ways y c low from i r l fr e h.0) s h.3 h.4 in
          let end = mark (fill (with_copies l w.lost) r (Refers s) w.copy false) from i in
          record {
            lost = w.lost;
            loses = w.loses;
            copy = w.copy;
            small = w.small;
            piece = joins from (mark l from i) end end (expression_code c i r e) (width_code i kind (span_of e).first) w.piece
                (subst (λ b. Q from end (cond b (Op.ChkWidth (width_of kind) i (at_site (span_of e).first) ∷ []) []) end) (sym h.2) (none around f D N top low from end end (fits_same around.targets end) (λ z. z)));
          }
      by false h =
          let n = int_of around f ways y c low from i r l (expression_code c i r e) e h.1 (expressions around f ways y c low from i r l fr e h.0) in
          let k = with_copies l n.lost in
          let fk = lost_frame around f ways y c low from i r l fr n.lost n.loses in
          let start = with_number around f D N top low from k i n.number in
          let end = mark (set_number k i (Within (width_of kind))) from i in
          record {
            lost = n.lost;
            loses = n.loses;
            piece = joins from (mark l from i) start end (expression_code c i r e) (width_code i kind (span_of e).first) n.piece
                (subst (λ b. Q from start (cond b (Op.ChkWidth (width_of kind) i (at_site (span_of e).first) ∷ []) []) end) (sym h.2)
                (taken_number around f ways y c low start end (Op.ChkWidth (width_of kind) i (at_site (span_of e).first) ∷ []) i n.number (width_of (kind_of c e)) (put_same l.ints i n.number) n.fits
                (λ lt. width_at around f D N top low from i r k fk.at (width_of kind) n.number (at_site (span_of e).first) lt)));
          }
  rights from i r l fr kind mode s (malloc span n w) h =
      let v = counted from i r l fr n h.3 in
      let k = with_copies l v.lost in
      let fk = lost_frame around f ways y c low from i r l fr v.lost v.loses in
      let middle = with_number around f D N top low from k i v.number in
      let end = mark (fill k r (Refers s) r false) from i in
      let size = element_cells c.program.typed (declared_kind w) in
      let at2 = (plain_frame around f ways y c low from i r k fk v.number v.plain).at in
      subst (Comes from i r l kind s (right_code c i r kind mode (malloc span n w))) (sym h.0) (record {
        lost = v.lost;
        loses = v.loses;
        copy = r;
        small = inl refl;
        piece = enter around f D N top low from i r l fr.at i _ end (joins from (mark l from i) middle end (elements_code c i r n) (Op.ChkPositive i (at_site span.first) ∷ Op.New r i size _ ∷ []) v.piece
            (joins from middle middle end (Op.ChkPositive i (at_site span.first) ∷ []) (Op.New r i size _ ∷ []) (positive_at around f D N top low from (i + 1) r (set_number k i v.number) at2 (i + 1) i (at_site span.first)) (new_at from i r k fk v.number v.plain s h.1 size _ h.2)));
      })

  -- ---- with the registers of an lvalue at hand
  shut : (from i r : ℕ) (l : Label) → F from i r l → l ≡ record l { gate = Closed }
  shut from i r l fr = ap (λ g. record l { gate = g }) fr.at.stands.closed

  frame_same : (from i r i2 r2 : ℕ) (l : Label) → F from i r l → i ≡ i2 → r ≡ r2 → F from i2 r2 l
  frame_same from i r i2 r2 l fr a b = subst (λ k. F from i2 k l) b (subst (λ k. F from k r l) a fr)

  placed_frame : (from i r : ℕ) (l : Label) (fr : F from i r l) (t : Target) (guard : Option ℕ) (ground : Ground) (e : Element) (v : ℕ) → IsNamed N r ground.base → v ≤ r → F from (i + index_width t guard) (r + base_width t) (placed around f D y c low from t guard ground e i r v l).label
  placed_frame from i r l fr (in_global_at g n) None ground e v fits small = let a = number_in_global c.globals ground e g n in frame_same from (i + 1) r (i + 1) (r + 0) (set_number l i a) (frame_number around f ways y c low from i r l fr a (λ q b. absurd b)) refl (omega arith)
  placed_frame from i r l fr (in_global_at g n) (Some m) ground e v fits small =
      let a = number_in_global c.globals ground e g n in
      let b = number_in_global c.globals ground e g m in
      let one = frame_number around f ways y c low from i r l fr a (λ q b. absurd b) in
      frame_same from (i + 1 + 1) r (i + 2) (r + 0) (set_number (set_number l i a) (i + 1) b) (frame_number around f ways y c low from (i + 1) r (set_number l i a) one b (λ q b. absurd b)) (omega arith) (omega arith)
  placed_frame from i r l fr (in_object n) guard ground e v fits small = let k = fill l r (Refers ground.base) v true in frame_same from i (r + 1) (i + 0) (r + 1) k (frame_fill around f ways y c low from i r l fr ground.base v true fits small) (omega arith) refl
  placed_frame from i r l fr (in_object_at n) None ground e v fits small =
      let k = fill l r (Refers ground.base) v true in
      frame_number around f ways y c low from i (r + 1) k (frame_fill around f ways y c low from i r l fr ground.base v true fits small) (OfElement r n e) (λ q b. of_base q b)
    where
      of_base : (q : ℕ) → r ≡ q → (top ≤ q) × (q < r + 1)
      of_base q b = let high = fr.high in (omega (arith, high, b), omega (arith, b))
  placed_frame from i r l fr (in_object_at n) (Some m) ground e v fits small =
      let k = fill l r (Refers ground.base) v true in
      let one = frame_number around f ways y c low from i (r + 1) k (frame_fill around f ways y c low from i r l fr ground.base v true fits small) (OfElement r n e) (λ q b. of_base q b) in
      frame_same from (i + 1 + 1) (r + 1) (i + 2) (r + 1) (set_number (set_number k i (OfElement r n e)) (i + 1) (OfElement r m e)) (frame_number around f ways y c low from (i + 1) (r + 1) (set_number k i (OfElement r n e)) one (OfElement r m e) (λ q b. of_base q b)) (omega arith) refl
    where
      of_base : (q : ℕ) → r ≡ q → (top ≤ q) × (q < r + 1)
      of_base q b = let high = fr.high in (omega (arith, high, b), omega (arith, b))
  placed_frame from i r l fr _ guard ground e v fits small = frame_same from i r (i + 0) (r + 0) (record l { gate = Closed }) (subst (F from i r) (shut from i r l fr) fr) (omega arith) (omega arith)

  -- what is lost of its base while the value is found
  record PlacedLess (from i r : ℕ) (t : Target) (guard : Option ℕ) (ground : Ground) (e : Element) (v : ℕ) (l : Label) (lost : ℕ → ℕ) : Type 0 where
    copy : ℕ
    small : copy ≤ r
    copies : IsPointerCopy y c ground.pointer copy
    fewer : ℕ → ℕ
    loses : Loses N l.same fewer
    is : with_copies (placed around f D y c low from t guard ground e i r v l).label lost ≡ (placed around f D y c low from t guard ground e i r copy (with_copies l fewer)).label

  placed_less : (from i r : ℕ) (t : Target) (guard : Option ℕ) (ground : Ground) (e : Element) (v : ℕ) (l : Label) → v ≤ r → IsPointerCopy y c ground.pointer v → (lost : ℕ → ℕ) → Loses N (placed around f D y c low from t guard ground e i r v l).label.same lost → PlacedLess from i r t guard ground e v l lost
  placed_less from i r (variable x) guard ground e v l small copies lost h = record { copy = v; small = small; copies = copies; fewer = lost; loses = h; is = refl }
  placed_less from i r (in_global g n) guard ground e v l small copies lost h = record { copy = v; small = small; copies = copies; fewer = lost; loses = h; is = refl }
  placed_less from i r (in_global_at g n) guard ground e v l small copies lost h = record { copy = v; small = small; copies = copies; fewer = lost; loses = h; is = refl }
  placed_less from i r k guard ground e v l small copies lost h = record {
    copy = lost r;
    small = small_there N l.same r v lost h small;
    copies = pointer_kept y c v (lost r) r (loses_there N l.same r v lost h) ground.pointer copies;
    fewer = below l.same r lost;
    loses = loses_below N l.same r v lost h;
    is = ap (λ m. over m (ints_of around f D y c low from k guard ground e i r l.ints) Closed) (lost_fill l r (Refers ground.base) v true lost);
  }

  store_is : (i r vi vr : ℕ) (site : Site) (lvalue : Lvalue) (mode : Sharing) (b : Bool) (t : Target) → is_cell t ≡ true → cell_store_code c i r vi vr site lvalue mode b t ≡ store_code c i r vi vr site lvalue mode b t
  store_is i r vi vr site lvalue mode b (variable x) h = absurd (false≢true h)
  store_is i r vi vr site lvalue mode b _ h = refl

  -- ---- to a cell
  -- what was said at first is said again, but of copies that are lost
  record Reached (from i : ℕ) (start : Mark) (l : Label) (same : ℕ → ℕ) (os : List Op) : Type 0 where
    lost : ℕ → ℕ
    loses : Loses N same lost
    piece : Q from start os (mark (with_copies l lost) from i)

  cell_assigned : (from i r : ℕ) (l : Label) → F from i r l → (u : Expression) (s : StaticType) (mode : Sharing) (x : Right) (t : Target) → is_cell t ≡ true → (xs : List Op) → PlaceValue around f ways y c low from i r l xs t (guard_of c u) (ground_of around f y c u) → CellAssigned around f y c u s t (is_ref c u)
      → IsTypeIn around f y c s → RightTypable around f y c (kind_of c u) s x
      → Done around f ways y c low from i l (xs ++ (right_code c (i + index_width t (guard_of c u)) (r + base_width t) (kind_of c u) mode x ++ store_code c i r (i + index_width t (guard_of c u)) (r + base_width t) (span_of u).first (lvalue_in c u) (mode_of c u) (is_ref c u) t))
  cell_assigned from i r l fr u s mode x t cell xs p assigned type right =
      let d = stored (is_ref c u) (rights from (i + iw) (r + base_width t) start.label placed_there (kind_of c u) mode s x right) assigned in
      record {
        lost = d.lost;
        loses = loses_both N l.same p.lost d.lost p.loses d.loses;
        piece = joins from (mark l from i) start (mark (with_copies l d.lost) from i) xs _ p.piece
            (subst (λ os. Q from start (right_code c (i + iw) (r + base_width t) (kind_of c u) mode x ++ os) (mark (with_copies l d.lost) from i)) (store_is i r (i + iw) (r + base_width t) (span_of u).first (lvalue_in c u) (mode_of c u) (is_ref c u) t cell) d.piece);
      }
    where
      guard : Option ℕ
      guard = guard_of c u

      ground : Ground
      ground = ground_of around f y c u

      iw : ℕ
      iw = index_width t guard

      k : Label
      k = with_copies l p.lost

      fk : F from i r k
      fk = lost_frame around f ways y c low from i r l fr p.lost p.loses

      start : Mark
      start = placed around f D y c low from t guard ground p.element i r p.copy k

      placed_there : F from (i + iw) (r + base_width t) start.label
      placed_there = placed_frame from i r k fk t guard ground p.element p.copy p.fits p.small

      stored : (b : Bool) → Comes from (i + iw) (r + base_width t) start.label (kind_of c u) s (right_code c (i + iw) (r + base_width t) (kind_of c u) mode x) b → CellAssigned around f y c u s t b
          → Reached from i start l p.lost (right_code c (i + iw) (r + base_width t) (kind_of c u) mode x ++ cell_store_code c i r (i + iw) (r + base_width t) (span_of u).first (lvalue_in c u) (mode_of c u) b t)
      stored true v h =
          let high = fr.high in
          let q = placed_less from i r t guard ground p.element p.copy k p.small p.copies v.lost v.loses in
          let m = with_copies l q.fewer in
          let fm = lost_frame around f ways y c low from i r k fk q.fewer q.loses in
          let middle = mark (fill (placed around f D y c low from t guard ground p.element i r q.copy m).label (r + base_width t) (Refers s) v.copy false) from (i + iw) in
          let codes = right_code c (i + iw) (r + base_width t) (kind_of c u) mode x in
          record {
            lost = q.fewer;
            loses = q.loses;
            piece = joins from start middle (mark m from i) codes _ (subst (λ z. Q from start codes (mark (fill z (r + base_width t) (Refers s) v.copy false) from (i + iw))) q.is v.piece)
                (reference_store around f D y c low from i r m fm guard ground p.element q.copy p.fits q.small q.copies (span_of u).first (lvalue_in c u) (mode_of c u) s (in_frame around f ways y c low from i r l fr s type) v.copy false t cell
                (⊎_elim (λ (e : v.copy ≡ r + base_width t). omega (arith, e)) (λ (lt : v.copy < top). omega (arith, lt, high)) v.small) (i + iw) h);
          }
      stored false v h =
          let q = placed_less from i r t guard ground p.element p.copy k p.small p.copies v.lost v.loses in
          let m = with_copies l q.fewer in
          let fm = lost_frame around f ways y c low from i r k fk q.fewer q.loses in
          let w = width_of (kind_of c u) in
          let middle = mark (set_number (placed around f D y c low from t guard ground p.element i r q.copy m).label (i + iw) (Within w)) from (i + iw) in
          let codes = right_code c (i + iw) (r + base_width t) (kind_of c u) mode x in
          record {
            lost = q.fewer;
            loses = q.loses;
            piece = joins from start middle (mark m from i) codes _ (subst (λ z. Q from start codes (mark (set_number z (i + iw) (Within w)) from (i + iw))) q.is v.piece)
                (int_store around f D y c low from i r m fm guard ground p.element q.copy p.fits q.small q.copies (span_of u).first (lvalue_in c u) (mode_of c u) t cell w (r + base_width t) h);
          }

  -- ---- to a variable
  -- the value in these registers, of which nothing else is at hand
  pub settled : (from i r : ℕ) (l : Label) → F from i r l → IsBare l → int_count c.scope ≤ from → (kind : Kind) (s : StaticType) (x : Register) (xs : List Op) → IsTypeIn around f y c s → VariableAssigned around f y c kind s x → Comes from i r l kind s xs (is_reference kind)
      → Q from (mark l from i) (xs ++ settle_code i r x) (mark l from i)
  settled from i r l fr alone whole kind s (Register.Int j) xs type h v =
      let w = width_of kind in
      let wide = fr.wide in
      let lt = h.1 in
      let n = subst (Comes from i r l kind s xs) h.0 v in
      joins from (mark l from i) (mark (set_number l i (Within w)) from i) (mark l from i) xs (Op.Move j i ∷ []) (number_kept from i l alone w xs n)
      (assign_number_at around f D N top low from i r l fr.at j w i (omega arith) (omega (arith, lt, wide)) (omega (arith, lt, whole)) (fr.holds.integers j h.1 ∙ ap Within h.2))
  settled from i r l fr alone whole kind s (Register.Reference q) xs type h v =
      let w = subst (Comes from i r l kind s xs) h.0 v in
      let a = alone in
      let high = fr.high in
      let lt = h.1 in
      joins from (mark l from i) (mark (fill l r (Refers s) w.copy false) from i) (mark l from i) xs (Op.Settle q r ∷ []) (reference_kept from i r l alone s xs w)
      (assign_at around f D N top low from i r l fr.at fr.high s w.copy false q i (in_frame around f ways y c low from i r l fr s type) (omega (arith, lt, high)) (fr.holds.references q h.1 ∙ ap Refers h.2) h.3 (a.0 q) (λ p e. sym (a.0 p) ∙ e) (a.1 q) (λ j b. a.2 j q b))

  shut_bare : (l : Label) → IsBare l → IsBare (record l { gate = Closed })
  shut_bare l h = h

  variable_assigned : (from i r : ℕ) (l : Label) → F from i r l → IsBare l → int_count c.scope ≤ from → (kind : Kind) (mode : Sharing) (s : StaticType) (v : ℕ) (x : Right) (xs : List Op) → IsTypeIn around f y c s → VariableAssigned around f y c kind s (register_of c.scope v) → RightTypable around f y c kind s x
      → Q from (mark l from i) xs (mark (record l { gate = Closed }) from (i + 0)) → Q from (mark l from i) (xs ++ (right_code c (i + 0) (r + 0) kind mode x ++ settle_code (i + 0) (r + 0) (register_of c.scope v))) (mark l from i)
  variable_assigned from i r l fr alone whole kind mode s v x xs type assigned right p =
      let k = record l { gate = Closed } in
      let fk = frame_same from i r (i + 0) (r + 0) k (subst (F from i r) (shut from i r l fr) fr) (omega arith) (omega arith) in
      let w = rights from (i + 0) (r + 0) k fk kind mode s x right in
      let q = settled from (i + 0) (r + 0) k fk (shut_bare l alone) whole kind s (register_of c.scope v) (right_code c (i + 0) (r + 0) kind mode x) type assigned w in
      let z : i + 0 ≡ i = omega arith in
      joins from (mark l from i) (mark k from (i + 0)) (mark l from i) xs _ p
      (subst (λ n. Q from (mark k from (i + 0)) (right_code c (i + 0) (r + 0) kind mode x ++ settle_code (i + 0) (r + 0) (register_of c.scope v)) (mark l from n)) z
      (subst (λ m. Q from (mark k from (i + 0)) (right_code c (i + 0) (r + 0) kind mode x ++ settle_code (i + 0) (r + 0) (register_of c.scope v)) (mark m from (i + 0))) (sym (shut from i r l fr)) q))

  -- ---- a call whose value is dropped
  dropped : (from i r : ℕ) (l : Label) → F from i r l → (e : Expression) → IsTypable around f y c e → Dropped around f y c e (is_ref c e) → Done around f ways y c low from i l (expression_code c i r e ++ drop_code (is_ref c e) r)
  dropped from i r l fr e h d = by (is_ref c e) (is_integer (kind_of c e)) (expressions around f ways y c low from i r l fr e h) d
    where
      by : (a b : Bool) → Value around f ways y c low from i r l (expression_code c i r e) e a b → Dropped around f y c e a → Done around f ways y c low from i l (expression_code c i r e ++ drop_code a r)
      by true b v d =
          let w = v d.0 d.1 d.2 in
          let k = with_copies l w.lost in
          let fk = lost_frame around f ways y c low from i r l fr w.lost w.loses in
          record {
            lost = w.lost;
            loses = w.loses;
            piece = joins from (mark l from i) (mark (fill k r (Refers d.0) w.copy false) from i) (mark k from i) (expression_code c i r e) (Op.Pop r ∷ []) w.piece (pop_at around f D N top low from i r k fk.at fr.high d.0 w.copy false (in_frame around f ways y c low from i r l fr d.0 d.2) i);
          }
      by false true v d =
          let k = with_copies l v.lost in
          let fk = lost_frame around f ways y c low from i r l fr v.lost v.loses in
          record {
            lost = v.lost;
            loses = v.loses;
            piece = joins from (mark l from i) (mark k from i) (mark k from i) (expression_code c i r e) [] (number_dropped around f D N top low from i r k fk.at v.number (expression_code c i r e) (mark l from i) v.piece) (none around f D N top low from (mark k from i) (mark k from i) (fits_same around.targets (mark k from i)) (λ z. z));
          }
      by false false v d =
          let k = with_copies l v.lost in
          record {
            lost = v.lost;
            loses = v.loses;
            piece = joins from (mark l from i) (mark k from i) (mark k from i) (expression_code c i r e) [] v.piece (none around f D N top low from (mark k from i) (mark k from i) (fits_same around.targets (mark k from i)) (λ z. z));
          }

  pub all_kept : (from i : ℕ) (l : Label) → IsBare l → (os : List Op) → Done around f ways y c low from i l os → Q from (mark l from i) os (mark l from i)
  all_kept from i l alone os d = subst (λ k. Q from (mark l from i) os (mark k from i)) (kept N l d.lost d.loses alone) d.piece

  -- ---- the whole
  pub simples : (from i r : ℕ) (l : Label) → F from i r l → IsBare l → int_count c.scope ≤ from → (x : Simple) → SimpleTypable around f y c x → Q from (mark l from i) (simple_code c i r x) (mark l from i)
  simples from i r l fr alone whole (does_call e) h = all_kept from i l alone _ (dropped from i r l fr e h.0 h.1)
  simples from i r l fr alone whole (assign span u x) h = by (target_of c u) (places around f ways y c low from i r l fr (span_of u).first None (guard_of c u) u h.0) h.1.2 h.1.3
    where
      by : (t : Target) → PlaceValue around f ways y c low from i r l (place_code c i r (span_of u).first None (guard_of c u) u) t (guard_of c u) (ground_of around f y c u) → Assigned around f y c u h.1.0 t → RightTypable around f y c (kind_of c u) h.1.0 x
          → Q from (mark l from i) (place_code c i r (span_of u).first None (guard_of c u) u ++ (right_code c (i + index_width t (guard_of c u)) (r + base_width t) (kind_of c u) (pointed c.program (row_at c.program.typed u)) x
          ++ store_code c i r (i + index_width t (guard_of c u)) (r + base_width t) (span_of u).first (lvalue_in c u) (mode_of c u) (is_ref c u) t)) (mark l from i)
      by (variable v) p a right = variable_assigned from i r l fr alone whole (kind_of c u) (pointed c.program (row_at c.program.typed u)) h.1.0 v x (place_code c i r (span_of u).first None (guard_of c u) u) h.1.1 a right (subst (λ k. Q from (mark l from i) (place_code c i r (span_of u).first None (guard_of c u) u) (mark (record k { gate = Closed }) from (i + 0))) (kept N l p.lost p.loses alone) p.piece)
      by k p a right = all_kept from i l alone _ (cell_assigned from i r l fr u h.1.0 (pointed c.program (row_at c.program.typed u)) x k refl (place_code c i r (span_of u).first None (guard_of c u) u) p a h.1.1 right)
