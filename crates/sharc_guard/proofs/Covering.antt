-- Wherever flat code comes to an access whose check is dropped, the same cell was checked before.
use Rattle.sharc_guard.proofs.{Imports.{◌≡◌, ◌≢◌, ℕ, ℤ, pos, negsuc, zero, suc, ◌+◌, ◌-◌, ◌*◌, ◌<◌, ◌≤◌, ◌⊎◌, inl, inr, Bool, true, false, not, ◌&&◌, ◌||◌, List, [], ◌∷◌, length, Option, Some, None, Result, Ok, Err, refl, sym, ap, ◌∙◌, subst, arith, cond, ⊎_elim, nat_lt, cases_lt, or_right, or_left, slice_get_past, slice_get-get_or, slice_get, get_or as slice_index_or, ◌==◌, Act, CellAt, CellMode, SourceEvent, Trap, Taken, Kind, Read, Write, Function, Parameter, Cell, computed, negated, holds, word_of, no_function, Register, Replaced, is_zero, cell_of, held_mutexes, holds_mutex, number_of, elements_of, is_positive, Op, Spot, Flat, Caller, At, Turn, goes, asks, put, int, ref, set_int, set_ref, gives_up, next, over_lines, goes_on, stops, asserts, with_result, cell_at, global_cell, cell_mode_of, lock_is_null, accesses, accessed, take_kind_of, indexed, takes_local, called, returned, function_of, first_at, begun, start, end_turn, line_turn, op_turn, turn, with_event, after, may_go, at_after, IsFlatPath as IsPath, IsAccess, is_straight, leads_to, is_led_to, is_entry, is_target, writes_ref, writes_int, SimplePlace, in_variable, in_global, assigns, counts, Access, access, is_dynamic, tells, Know, nothing, number_given, copy_given, unless_written, with_element, variable_place, global_place, place_of, is_at, passes_by, know_next, know_after, known, has_passed, drops, drops_at, dropped, IsStraight, Makes, Since, IsCovered, DroppedIsCovered, some_is, and_left, or_either, not_true, and_right, false_true, within, eq_true}, Ready.{put_at, put_other}, Repeating.{eq_same, place_is, dynamic_is, no_some, true_false, constant_is, element_is, unwritten, copy_is, counts_more}, Untargeted.{is_led, itself as self}}
use Rattle.sharc_tree.specs.declared.event.Object.{Object}

or_false : (a b : Bool) → (a || b) ≡ false → (a ≡ false) × (b ≡ false)
or_false true b e = true_false e
or_false false b e = (refl, e)

-- ---- what a turn of a straight piece leaves
-- it goes on to the next line, in the same frame, and only the registers that it writes change
pub record Step (m : At) (o : Op) (m2 : At) : Type 0 where
  pub pc_is : m2.pc ≡ m.pc + 1
  pub frames_are : m2.frames ≡ m.frames
  pub int_base : m2.int_base ≡ m.int_base
  pub ref_base : m2.ref_base ≡ m.ref_base
  pub refs : (k : ℕ) → writes_ref o k ≡ false → ref m2 k ≡ ref m k
  pub ints : (i : ℕ) → writes_int o i ≡ false → int m2 i ≡ int m i
  pub copy : (r x : ℕ) → writes_ref o r ≡ true → copy_given o ≡ Some x → ref m2 r ≡ ref m2 x
  pub number : (q : Option ℕ) (i v : ℕ) → ((u : ℕ) → q ≡ Some u → int m i ≡ pos u) → writes_int o i ≡ true → number_given o q ≡ Some v → int m2 i ≡ pos v

module _ (m : At) (o : Op) (m2 E : At) (e : m2 ≡ E) (ep : E.pc ≡ m.pc + 1) (ef : E.frames ≡ m.frames) (ei : E.int_base ≡ m.int_base) (er : E.ref_base ≡ m.ref_base) where
  ref_by : (bank : ℕ → ℤ) → E.refs ≡ bank → (k : ℕ) → ref m2 k ≡ bank (m.ref_base + k)
  ref_by bank h k = ap (λ (z : At). ref z k) e ∙ ap (λ f. f (E.ref_base + k)) h ∙ ap (λ b. bank (b + k)) er

  int_by : (bank : ℕ → ℤ) → E.ints ≡ bank → (k : ℕ) → int m2 k ≡ bank (m.int_base + k)
  int_by bank h k = ap (λ (z : At). int z k) e ∙ ap (λ f. f (E.int_base + k)) h ∙ ap (λ b. bank (b + k)) ei

  -- nothing is written
  same_step : E.refs ≡ m.refs → E.ints ≡ m.ints → ((k : ℕ) → writes_ref o k ≡ false) → ((k : ℕ) → writes_int o k ≡ false) → Step m o m2
  same_step hr hi wr wi = record {
    pc_is = ap (λ (z : At). z.pc) e ∙ ep;
    frames_are = ap (λ (z : At). z.frames) e ∙ ef;
    int_base = ap (λ (z : At). z.int_base) e ∙ ei;
    ref_base = ap (λ (z : At). z.ref_base) e ∙ er;
    refs = λ k w. ref_by m.refs hr k;
    ints = λ k w. int_by m.ints hi k;
    copy = λ r x w c. true_false (sym w ∙ wr r);
    number = λ q i v h w g. true_false (sym w ∙ wi i);
  }

  int_step : (i : ℕ) (w : ℤ) → E.refs ≡ m.refs → E.ints ≡ put m.ints (m.int_base + i) w → ((k : ℕ) → writes_ref o k ≡ false) → ((k : ℕ) → writes_int o k ≡ (k == i))
      → ((q : Option ℕ) (v : ℕ) → ((u : ℕ) → q ≡ Some u → int m i ≡ pos u) → number_given o q ≡ Some v → w ≡ pos v) → Step m o m2
  int_step i w hr hi wr wi val = record {
    pc_is = ap (λ (z : At). z.pc) e ∙ ep;
    frames_are = ap (λ (z : At). z.frames) e ∙ ef;
    int_base = ap (λ (z : At). z.int_base) e ∙ ei;
    ref_base = ap (λ (z : At). z.ref_base) e ∙ er;
    refs = λ k n. ref_by m.refs hr k;
    ints = λ k n. int_by (put m.ints (m.int_base + i) w) hi k ∙ put_other m.ints (m.int_base + i) w (m.int_base + k) (λ q. (let z : k ≡ i = omega arith in true_false (sym (eq_same k i z) ∙ sym (wi k) ∙ n)));
    copy = λ r x n c. true_false (sym n ∙ wr r);
    number = λ q k v h n g.
        let same : k ≡ i = eq_true k i (sym (wi k) ∙ n) in
        int_by (put m.ints (m.int_base + i) w) hi k ∙ put_at m.ints (m.int_base + i) (m.int_base + k) w (omega arith) ∙ val q v (λ u eu. ap (λ z. int m z) (sym same) ∙ h u eu) g;
  }

  ref_step : (r : ℕ) (w : ℤ) → E.refs ≡ put m.refs (m.ref_base + r) w → E.ints ≡ m.ints → ((k : ℕ) → writes_ref o k ≡ (k == r)) → ((k : ℕ) → writes_int o k ≡ false)
      → ((x : ℕ) → copy_given o ≡ Some x → (x ≢ r) × (w ≡ ref m x)) → Step m o m2
  ref_step r w hr hi wr wi copied =
      let bank = put m.refs (m.ref_base + r) w in
      let other : (k : ℕ) → k ≢ r → ref m2 k ≡ ref m k = λ k ne. ref_by bank hr k ∙ put_other m.refs (m.ref_base + r) w (m.ref_base + k) (λ q. ne (omega arith)) in
      record {
        pc_is = ap (λ (z : At). z.pc) e ∙ ep;
        frames_are = ap (λ (z : At). z.frames) e ∙ ef;
        int_base = ap (λ (z : At). z.int_base) e ∙ ei;
        ref_base = ap (λ (z : At). z.ref_base) e ∙ er;
        refs = λ k n. other k (λ q. true_false (sym (eq_same k r q) ∙ sym (wr k) ∙ n));
        ints = λ k n. int_by m.ints hi k;
        copy = λ k x n c.
            let same : k ≡ r = eq_true k r (sym (wr k) ∙ n) in
            let h = copied x c in
            ref_by bank hr k ∙ put_at m.refs (m.ref_base + r) (m.ref_base + k) w (omega arith) ∙ h.1 ∙ sym (other x h.0);
        number = λ q i v h n g. true_false (sym n ∙ wi i);
      }

  two_step : (d c : ℕ) (v w : ℤ) → E.refs ≡ put (put m.refs (m.ref_base + c) v) (m.ref_base + d) w → E.ints ≡ m.ints → ((k : ℕ) → writes_ref o k ≡ (k == d || k == c)) → ((k : ℕ) → writes_int o k ≡ false) → copy_given o ≡ None → Step m o m2
  two_step d c v w hr hi wr wi none =
      let first = put m.refs (m.ref_base + c) v in
      record {
        pc_is = ap (λ (z : At). z.pc) e ∙ ep;
        frames_are = ap (λ (z : At). z.frames) e ∙ ef;
        int_base = ap (λ (z : At). z.int_base) e ∙ ei;
        ref_base = ap (λ (z : At). z.ref_base) e ∙ er;
        refs = λ k n.
            let o2 = or_false (k == d) (k == c) (sym (wr k) ∙ n) in
            ref_by (put first (m.ref_base + d) w) hr k
            ∙ put_other first (m.ref_base + d) w (m.ref_base + k) (λ q. (let z : k ≡ d = omega arith in true_false (sym (eq_same k d z) ∙ o2.0)))
            ∙ put_other m.refs (m.ref_base + c) v (m.ref_base + k) (λ q. (let z : k ≡ c = omega arith in true_false (sym (eq_same k c z) ∙ o2.1)));
        ints = λ k n. int_by m.ints hi k;
        copy = λ r x n g. no_some x (sym none ∙ g);
        number = λ q i v h n g. true_false (sym n ∙ wi i);
      }

module _ (flat : Flat) (from : At) where
  abbrev at : List ℤ → At
  at = at_after flat from

  abbrev cell_in : At → SimplePlace → CellAt
  cell_in m (in_variable x n) = cell_of (Object.Made (number_of (ref m x))) n
  cell_in m (in_global g n) = global_cell flat.globals g n

  abbrev register_in : At → SimplePlace → ℕ
  register_in m (in_variable x n) = m.ref_base + x
  register_in m (in_global g n) = 0

  -- what is known is true on the path
  record Holds (k : Know) (answers : List ℤ) : Type 0 where
    copies : (r x : ℕ) → k.copy r ≡ Some x → ref (at answers) r ≡ ref (at answers) x
    numbers : (i n : ℕ) → k.number i ≡ Some n → int (at answers) i ≡ pos n
    passed : (kind : Kind) (place : SimplePlace) → k.passed kind place ≡ true → Since flat from answers kind (cell_in (at answers) place) (register_in (at answers) place)

  holds_nothing : (answers : List ℤ) → Holds nothing answers
  holds_nothing answers = record { copies = λ r x e. no_some x e; numbers = λ i n e. no_some n e; passed = λ kind place e. false_true e }

  -- a check that counts for one kind counts for what that counts for
  weaker : (answers : List ℤ) (a b : Kind) (cell : CellAt) (j : ℕ) → counts a b ≡ true → Since flat from answers a cell j → Since flat from answers b cell j
  weaker [] a b cell j c h = h
  weaker (x ∷ earlier) a b cell j c h = (
    ⊎_elim
        (λ (z : Makes (turn flat (at earlier)) a cell × (dropped flat (at earlier).pc ≡ false)). inl (by (turn flat (at earlier)) z.0, z.1))
        (λ (z : Since flat from earlier a cell j). inr (weaker earlier a b cell j c z))
        h.0,
    h.1,
    h.2,
  )
    where
      by : (t : Turn) → Makes t a cell → Makes t b cell
      by (asks m2 site act held f) z = (z.0, counts_more z.0 a b z.1 c, z.2)
      by _ z = absurd z

  place_true : (answers : List ℤ) (k : Know) → Holds k answers → (cell : Cell) (place : SimplePlace) → place_of k cell ≡ Some place → cell_at flat.globals (at answers) cell ≡ cell_in (at answers) place
  place_true answers k ks (Cell.Global g n) place e = ap (cell_in (at answers)) (some_is (in_global g n) place e)
  place_true answers k ks (Cell.GlobalAt g i) place e = by (k.number i) refl e
    where
      by : (q : Option ℕ) → k.number i ≡ q → global_place g q ≡ Some place → global_cell flat.globals g (word_of (int (at answers) i)) ≡ cell_in (at answers) place
      by None h e = no_some place e
      by (Some n) h e = ap (λ v. global_cell flat.globals g (word_of v)) (ks.numbers i n h) ∙ ap (cell_in (at answers)) (some_is (in_global g n) place e)
  place_true answers k ks (Cell.Object r n) place e = by (k.copy r) refl e
    where
      by : (q : Option ℕ) → k.copy r ≡ q → variable_place q (Some n) ≡ Some place → cell_of (Object.Made (number_of (ref (at answers) r))) n ≡ cell_in (at answers) place
      by None h e = no_some place e
      by (Some y) h e = ap (λ v. cell_of (Object.Made (number_of v)) n) (ks.copies r y h) ∙ ap (cell_in (at answers)) (some_is (in_variable y n) place e)
  place_true answers k ks (Cell.ObjectAt r i) place e = by (k.copy r) (k.number i) refl refl e
    where
      by : (q p : Option ℕ) → k.copy r ≡ q → k.number i ≡ p → variable_place q p ≡ Some place → cell_of (Object.Made (number_of (ref (at answers) r))) (word_of (int (at answers) i)) ≡ cell_in (at answers) place
      by None p h h2 e = no_some place e
      by (Some y) None h h2 e = no_some place e
      by (Some y) (Some n) h h2 e =
          ap (λ v. cell_of (Object.Made (number_of v)) (word_of (int (at answers) i))) (ks.copies r y h) ∙ ap (λ v. cell_of (Object.Made (number_of (ref (at answers) y))) (word_of v)) (ks.numbers i n h2) ∙ ap (cell_in (at answers)) (some_is (in_variable y n) place e)

  -- ---- one turn of a straight piece
  module _ (x : ℤ) (earlier : List ℤ) (o : Op) (at_o : slice_get flat.lines (at earlier).pc ≡ Some o) (straight : is_straight o ≡ true) (s : Step (at earlier) o (at (x ∷ earlier)))
      (makes : (a : Access) → access o ≡ Some a → is_dynamic a.spot.mode ≡ true → (kind : Kind) → counts a.kind kind ≡ true → Makes (turn flat (at earlier)) kind (cell_at flat.globals (at earlier) a.cell))
      (ks : Holds (known flat (at earlier).pc) earlier) where
    abbrev now0 : At
    now0 = at earlier

    abbrev later : At
    later = at (x ∷ earlier)

    abbrev kn : Know
    kn = known flat now0.pc

    line_straight : IsStraight (slice_get flat.lines now0.pc)
    line_straight = subst IsStraight (sym at_o) straight

    next_copies : (r y : ℕ) → (know_next o kn).copy r ≡ Some y → ref later r ≡ ref later y
    next_copies r y e = by (writes_ref o r) refl e
      where
        by : (b : Bool) → writes_ref o r ≡ b → cond b (copy_given o) (unless_written o (kn.copy r)) ≡ Some y → ref later r ≡ ref later y
        by true w e = s.copy r y w e
        by false w e = let u = unwritten o (kn.copy r) y e in s.refs r w ∙ ks.copies r y u.0 ∙ sym (s.refs y u.1)

    next_numbers : (i n : ℕ) → (know_next o kn).number i ≡ Some n → int later i ≡ pos n
    next_numbers i n e = by (writes_int o i) refl e
      where
        by : (b : Bool) → writes_int o i ≡ b → cond b (number_given o (kn.number i)) (kn.number i) ≡ Some n → int later i ≡ pos n
        by true w e = s.number (kn.number i) i n (λ u eu. ks.numbers i u eu) w e
        by false w e = s.ints i w ∙ ks.numbers i n e

    -- the check was passed earlier, or it is that of this turn
    since : (kind : Kind) (place : SimplePlace) → assigns o place ≡ false
        → ((Makes (turn flat now0) kind (cell_in now0 place) × (dropped flat now0.pc ≡ false)) ⊎ Since flat from earlier kind (cell_in now0 place) (register_in now0 place))
        → Since flat from (x ∷ earlier) kind (cell_in later place) (register_in later place)
    since kind (in_variable y n) stays h =
        let st : ref later y ≡ ref now0 y = s.refs y stays in
        let e : cell_in later (in_variable y n) ≡ cell_in now0 (in_variable y n) = ap (λ v. cell_of (Object.Made (number_of v)) n) st in
        let j : register_in later (in_variable y n) ≡ register_in now0 (in_variable y n) = ap (λ b. b + y) s.ref_base in (
          ⊎_elim
              (λ (z : Makes (turn flat now0) kind (cell_in now0 (in_variable y n)) × (dropped flat now0.pc ≡ false)). inl (subst (Makes (turn flat now0) kind) (sym e) z.0, z.1))
              (λ (z : Since flat from earlier kind (cell_in now0 (in_variable y n)) (register_in now0 (in_variable y n))). inr (subst (λ c. Since flat from earlier kind c (register_in later (in_variable y n))) (sym e) (subst (Since flat from earlier kind (cell_in now0 (in_variable y n))) (sym j) z)))
              h,
          line_straight,
          refl,
        )
    since kind (in_global g n) stays h = (h, line_straight, tt)

    drops_passed : (o2 : Op) (a : Access) → access o2 ≡ Some a → drops kn o2 ≡ true → has_passed kn a.kind (place_of kn a.cell) ≡ true
    drops_passed (Op.Load i cell spot) a e d = subst (λ (a : Access). has_passed kn a.kind (place_of kn a.cell) ≡ true) (some_is record { kind = Read; cell = cell; spot = spot } a e) (and_right (tells spot) (has_passed kn Read (place_of kn cell)) d)
    drops_passed (Op.Store i cell spot) a e d = subst (λ (a : Access). has_passed kn a.kind (place_of kn a.cell) ≡ true) (some_is record { kind = Write; cell = cell; spot = spot } a e) (and_right (tells spot) (has_passed kn Write (place_of kn cell)) d)
    drops_passed _ a e d = false_true d

    found_here : (a : Access) → access o ≡ Some a → is_dynamic a.spot.mode ≡ true → (kind : Kind) (place : SimplePlace) → counts a.kind kind ≡ true → place_of kn a.cell ≡ Some place
        → ((Makes (turn flat now0) kind (cell_in now0 place) × (dropped flat now0.pc ≡ false)) ⊎ Since flat from earlier kind (cell_in now0 place) (register_in now0 place))
    found_here a acc dyn kind place c p = by (dropped flat now0.pc) refl
      where
        by : (b : Bool) → dropped flat now0.pc ≡ b → (Makes (turn flat now0) kind (cell_in now0 place) × (dropped flat now0.pc ≡ false)) ⊎ Since flat from earlier kind (cell_in now0 place) (register_in now0 place)
        by false e = inl (subst (Makes (turn flat now0) kind) (place_true earlier kn ks a.cell place p) (makes a acc dyn kind c), e)
        by true e =
            let d : drops kn o ≡ true = sym (ap (drops_at kn) at_o) ∙ e in
            let h : kn.passed a.kind place ≡ true = sym (ap (has_passed kn a.kind) p) ∙ drops_passed o a acc d in
            inr (weaker earlier a.kind kind (cell_in now0 place) (register_in now0 place) c (ks.passed a.kind place h))

    next_passed : (kind : Kind) (place : SimplePlace) → (know_next o kn).passed kind place ≡ true → Since flat from (x ∷ earlier) kind (cell_in later place) (register_in later place)
    next_passed kind place e =
        let both = kn.passed kind place || passes_by (access o) kn kind place in
        let stays = not_true (assigns o place) (and_right both (not (assigns o place)) e) in
        since kind place stays (⊎_elim
        (λ (z : kn.passed kind place ≡ true). inr (ks.passed kind place z))
        (λ (z : passes_by (access o) kn kind place ≡ true). by (access o) refl z)
        (or_either (kn.passed kind place) (passes_by (access o) kn kind place) (and_left both (not (assigns o place)) e)))
      where
        at_place : (q : Option SimplePlace) → is_at q place ≡ true → q ≡ Some place
        at_place None e = false_true e
        at_place (Some p) e = ap Some (sym (place_is place p e))

        by : (q : Option Access) → access o ≡ q → passes_by q kn kind place ≡ true → (Makes (turn flat now0) kind (cell_in now0 place) × (dropped flat now0.pc ≡ false)) ⊎ Since flat from earlier kind (cell_in now0 place) (register_in now0 place)
        by None ea e = false_true e
        by (Some a) ea e =
            let t = and_left (tells a.spot) (counts a.kind kind && is_at (place_of kn a.cell) place) e in
            let r = and_right (tells a.spot) (counts a.kind kind && is_at (place_of kn a.cell) place) e in
            found_here a ea (and_left (is_dynamic a.spot.mode) a.spot.is_simple t) kind place (and_left (counts a.kind kind) (is_at (place_of kn a.cell) place) r) (at_place (place_of kn a.cell) (and_right (counts a.kind kind) (is_at (place_of kn a.cell) place) r))

    holds_next : Holds (know_next o kn) (x ∷ earlier)
    holds_next = record { copies = next_copies; numbers = next_numbers; passed = next_passed }

  -- ---- every statement
  abbrev Blank : List Caller → Type 0
  Blank [] = Unit {0}
  Blank (c ∷ rest) = (known flat c.pc ≡ nothing) × Blank rest

  -- the next line, or a place of which nothing is known
  record NextLine (x : ℤ) (earlier : List ℤ) (o : Op) : Type 0 where
    knows : Holds (know_after (Some o) (known flat (at earlier).pc)) (x ∷ earlier)
    pc_is : (at (x ∷ earlier)).pc ≡ (at earlier).pc + 1
    frames : (at (x ∷ earlier)).frames ≡ (at earlier).frames

  record Elsewhere (x : ℤ) (earlier : List ℤ) : Type 0 where
    blank : (known flat (at (x ∷ earlier)).pc ≡ nothing) ⊎ (length flat.lines ≤ (at (x ∷ earlier)).pc)
    frames : Blank (at (x ∷ earlier)).frames

  abbrev Stepped : ℤ → List ℤ → Op → Type 0
  Stepped x earlier o = NextLine x earlier o ⊎ Elsewhere x earlier

  target_blank : (to : ℕ) → is_target flat to ≡ true → known flat to ≡ nothing
  target_blank zero e = refl
  target_blank (suc n) e = ap (λ b. cond b nothing (know_after (slice_get flat.lines n) (known flat n))) e

  entered : (fs : List Function) (f : ℕ) → (is_entry fs (slice_index_or fs f no_function).entry ≡ true) ⊎ ((slice_index_or fs f no_function).entry ≡ 0)
  entered [] f = inr refl
  entered (g ∷ fs) zero = inl (or_left (g.entry == g.entry) (is_entry fs g.entry) (eq_same g.entry g.entry refl))
  entered (g ∷ fs) (suc f) = ⊎_elim
      (λ (e : is_entry fs (slice_index_or fs f no_function).entry ≡ true). inl (or_right ((slice_index_or fs f no_function).entry == g.entry) (is_entry fs (slice_index_or fs f no_function).entry) e))
      (λ (e : (slice_index_or fs f no_function).entry ≡ 0). inr e)
      (entered fs f)

  entry_blank : (f : ℕ) → known flat (function_of flat f).entry ≡ nothing
  entry_blank f = ⊎_elim
      (λ (e : is_entry flat.functions (function_of flat f).entry ≡ true). target_blank (function_of flat f).entry (or_right (is_led_to flat.lines (length flat.lines) (function_of flat f).entry) (is_entry flat.functions (function_of flat f).entry) e))
      (λ (e : (function_of flat f).entry ≡ 0). ap (known flat) e)
      (entered flat.functions f)

  -- after what ends a piece nothing is known
  after_end : (n : ℕ) (o : Op) → slice_get flat.lines n ≡ Some o → is_straight o ≡ false → known flat (n + 1) ≡ nothing
  after_end n o e s = let z : n + 1 ≡ suc n = omega arith in ap (known flat) z ∙ each (is_target flat (suc n))
    where
      each : (b : Bool) → cond b nothing (know_after (slice_get flat.lines n) (known flat n)) ≡ nothing
      each true = refl
      each false = ap (λ l. know_after l (known flat n)) e ∙ ap (λ b. cond b (know_next o (known flat n)) nothing) s

  module _ (x : ℤ) (earlier : List ℤ) (ks : Holds (known flat (at earlier).pc) earlier) (fr : Blank (at earlier).frames) where
    abbrev m : At
    m = at earlier

    abbrev then_ : Op → At
    then_ o = after m (op_turn flat o m) x

    -- how a statement leads on
    module _ (o : Op) (at_o : slice_get flat.lines m.pc ≡ Some o) where
      here : at (x ∷ earlier) ≡ then_ o
      here = ap (λ l. after m (line_turn flat l m) x) at_o

      no_access : access o ≡ None → (a : Access) → access o ≡ Some a → is_dynamic a.spot.mode ≡ true → (kind : Kind) → counts a.kind kind ≡ true → Makes (turn flat m) kind (cell_at flat.globals m a.cell)
      no_access none a e d kind c = no_some a (sym none ∙ e)

      goes_straight : is_straight o ≡ true → Step m o (at (x ∷ earlier)) → ((a : Access) → access o ≡ Some a → is_dynamic a.spot.mode ≡ true → (kind : Kind) → counts a.kind kind ≡ true → Makes (op_turn flat o m) kind (cell_at flat.globals m a.cell)) → Stepped x earlier o
      goes_straight straight s makes = inl (record {
        knows = subst (λ b. Holds (cond b (know_next o (known flat m.pc)) nothing) (x ∷ earlier)) (sym straight)
            (holds_next x earlier o at_o straight s (λ a e d kind c. subst (λ l. Makes (line_turn flat l m) kind (cell_at flat.globals m a.cell)) (sym at_o) (makes a e d kind c)) ks);
        pc_is = s.pc_is;
        frames = s.frames_are;
      })

      blank_on : is_straight o ≡ false → (E : At) → then_ o ≡ E → E.pc ≡ m.pc + 1 → E.frames ≡ m.frames → Stepped x earlier o
      blank_on s E e ep ef = inl (record {
        knows = subst (λ b. Holds (cond b (know_next o (known flat m.pc)) nothing) (x ∷ earlier)) (sym s) (holds_nothing (x ∷ earlier));
        pc_is = ap (λ (z : At). z.pc) (here ∙ e) ∙ ep;
        frames = ap (λ (z : At). z.frames) (here ∙ e) ∙ ef;
      })

      goes_away : (E : At) → then_ o ≡ E → (known flat E.pc ≡ nothing) ⊎ (length flat.lines ≤ E.pc) → Blank E.frames → Stepped x earlier o
      goes_away E e h f = inr (record { blank = subst (λ (z : At). (known flat z.pc ≡ nothing) ⊎ (length flat.lines ≤ z.pc)) (sym (here ∙ e)) h; frames = subst (λ (z : At). Blank z.frames) (sym (here ∙ e)) f })

      jumps_to : (to : ℕ) → then_ o ≡ record m { pc = to } → leads_to m.pc o to ≡ true → Stepped x earlier o
      jumps_to to e h = goes_away (record m { pc = to }) e (inl (target_blank to (or_left (is_led_to flat.lines (length flat.lines) to) (is_entry flat.functions to) (is_led flat.lines (length flat.lines) m.pc o to (within flat.lines m.pc o at_o) at_o h)))) fr

    -- ---- what a turn leads to, where it may go on
    of_result : (i : ℕ) (spot : Spot) (z : Result ℤ Trap) → may_go (with_result i spot m z) ≡ true → (v : ℤ) × (after m (with_result i spot m z) x ≡ next (set_int i v m))
    of_result i spot (Ok v) e = (v, refl)
    of_result i spot (Err c) e = false_true e

    of_assert : (b : Bool) (trap : Trap) (spot : Spot) → may_go (asserts b trap spot m) ≡ true → after m (asserts b trap spot m) x ≡ next m
    of_assert true trap spot e = refl
    of_assert false trap spot e = false_true e

    of_index : (i cells field elements : ℕ) (spot : Spot) (z : ℤ) → may_go (indexed i cells field z elements spot m) ≡ true → (n : ℕ) × (z ≡ pos n) × (after m (indexed i cells field z elements spot m) x ≡ next (set_int i (pos (n * cells + field)) m))
    of_index i cells field elements spot (pos n) e = by (nat_lt n elements) e
      where
        by : (b : Bool) → may_go (cond b (goes_on (set_int i (pos (n * cells + field)) m)) (stops Trap.IndexOutOfBounds spot)) ≡ true → (j : ℕ) × (pos n ≡ pos j) × (after m (cond b (goes_on (set_int i (pos (n * cells + field)) m)) (stops Trap.IndexOutOfBounds spot)) x ≡ next (set_int i (pos (j * cells + field)) m))
        by true e = (n, refl, refl)
        by false e = false_true e
    of_index i cells field elements spot (negsuc n) e = false_true e

    of_access : (cell : Cell) (spot : Spot) (act : CellAt → CellMode → Act) (next_of : CellAt → ℤ → At → At) → may_go (accesses flat.globals cell spot act next_of m) ≡ true
        → (v : ℤ) × (e : SourceEvent) × (after m (accesses flat.globals cell spot act next_of m) x ≡ accessed (next (next_of (cell_at flat.globals m cell) v (with_event e m))))
    of_access cell spot act next_of go = by (lock_is_null m spot spot.mode) go
      where
        c : CellAt
        c = cell_at flat.globals m cell

        wants : Turn
        wants = asks m spot.site (act c (cell_mode_of flat.globals m c spot.mode)) (pos 0) (λ v n. accessed (next (next_of c v n)))

        by : (b : Bool) → may_go (cond b (stops Trap.NullPointer spot) wants) ≡ true → (v : ℤ) × (e : SourceEvent) × (after m (cond b (stops Trap.NullPointer spot) wants) x ≡ accessed (next (next_of c v (with_event e m))))
        by true e = false_true e
        by false e = (_, _, refl)

    makes_access : (cell : Cell) (spot : Spot) (act : CellAt → CellMode → Act) (next_of : CellAt → ℤ → At → At) (kind : Kind) → IsAccess kind (cell_at flat.globals m cell) (act (cell_at flat.globals m cell) CellMode.Dynamic)
        → is_dynamic spot.mode ≡ true → (other : Kind) → counts kind other ≡ true → Makes (accesses flat.globals cell spot act next_of m) other (cell_at flat.globals m cell)
    makes_access cell spot act next_of kind a d other h =
        let c = cell_at flat.globals m cell in
        let e = dynamic_is spot.mode d in
        subst (λ b. Makes (cond b (stops Trap.NullPointer spot) (asks m spot.site (act c (cell_mode_of flat.globals m c spot.mode)) (pos 0) (λ v n. accessed (next (next_of c v n))))) other c) (sym (ap (lock_is_null m spot) e))
        (kind, h, subst (λ z. IsAccess kind c (act c z)) (sym (ap (cell_mode_of flat.globals m c) e)) a)

    -- the same of the access that an operation has
    makes_own : (o : Op) (b : Access) → access o ≡ Some b → (is_dynamic b.spot.mode ≡ true → (other : Kind) → counts b.kind other ≡ true → Makes (op_turn flat o m) other (cell_at flat.globals m b.cell))
        → (a : Access) → access o ≡ Some a → is_dynamic a.spot.mode ≡ true → (kind : Kind) → counts a.kind kind ≡ true → Makes (op_turn flat o m) kind (cell_at flat.globals m a.cell)
    makes_own o b eb mk a ea = subst (λ (a : Access). is_dynamic a.spot.mode ≡ true → (kind : Kind) → counts a.kind kind ≡ true → Makes (op_turn flat o m) kind (cell_at flat.globals m a.cell)) (some_is b a (sym eb ∙ ea)) mk

    abbrev Q : Type 0
    Q = Option ℕ

    index_is : (i cells field j : ℕ) → int m i ≡ pos j → (q : Option ℕ) (v : ℕ) → ((u : ℕ) → q ≡ Some u → int m i ≡ pos u) → with_element cells field q ≡ Some v → pos (j * cells + field) ≡ pos v
    index_is i cells field j e q v h g =
        let w = element_is cells field v q g in
        let z : pos w.0 ≡ pos j = sym (h w.0 w.1) ∙ e in
        let zj : w.0 ≡ j = cc in
        ap (λ y. pos (y * cells + field)) (sym zj) ∙ ap pos (sym w.3)

    int_at : (o : Op) (a : slice_get flat.lines m.pc ≡ Some o) (E : At) → then_ o ≡ E → is_straight o ≡ true → access o ≡ None → E.pc ≡ m.pc + 1 → E.frames ≡ m.frames → E.int_base ≡ m.int_base → E.ref_base ≡ m.ref_base
        → (i : ℕ) (w : ℤ) → E.refs ≡ m.refs → E.ints ≡ put m.ints (m.int_base + i) w → ((k : ℕ) → writes_ref o k ≡ false) → ((k : ℕ) → writes_int o k ≡ (k == i))
        → ((q : Option ℕ) (v : ℕ) → ((u : ℕ) → q ≡ Some u → int m i ≡ pos u) → number_given o q ≡ Some v → w ≡ pos v) → Stepped x earlier o
    int_at o a E e st na ep ef ei er i w hr hi wr wi val = goes_straight o a st (int_step m o (at (x ∷ earlier)) E (here o a ∙ e) ep ef ei er i w hr hi wr wi val) (λ b. λ eb. no_some b (sym na ∙ eb))

    same_at : (o : Op) (a : slice_get flat.lines m.pc ≡ Some o) (E : At) → then_ o ≡ E → is_straight o ≡ true → access o ≡ None → E.pc ≡ m.pc + 1 → E.frames ≡ m.frames → E.int_base ≡ m.int_base → E.ref_base ≡ m.ref_base
        → E.refs ≡ m.refs → E.ints ≡ m.ints → ((k : ℕ) → writes_ref o k ≡ false) → ((k : ℕ) → writes_int o k ≡ false) → Stepped x earlier o
    same_at o a E e st na ep ef ei er hr hi wr wi = goes_straight o a st (same_step m o (at (x ∷ earlier)) E (here o a ∙ e) ep ef ei er hr hi wr wi) (λ b. λ eb. no_some b (sym na ∙ eb))

    ref_at : (o : Op) (a : slice_get flat.lines m.pc ≡ Some o) (E : At) → then_ o ≡ E → is_straight o ≡ true → access o ≡ None → E.pc ≡ m.pc + 1 → E.frames ≡ m.frames → E.int_base ≡ m.int_base → E.ref_base ≡ m.ref_base
        → (r : ℕ) (w : ℤ) → E.refs ≡ put m.refs (m.ref_base + r) w → E.ints ≡ m.ints → ((k : ℕ) → writes_ref o k ≡ (k == r)) → ((k : ℕ) → writes_int o k ≡ false)
        → ((y : ℕ) → copy_given o ≡ Some y → (y ≢ r) × (w ≡ ref m y)) → Stepped x earlier o
    ref_at o a E e st na ep ef ei er r w hr hi wr wi copied = goes_straight o a st (ref_step m o (at (x ∷ earlier)) E (here o a ∙ e) ep ef ei er r w hr hi wr wi copied) (λ b. λ eb. no_some b (sym na ∙ eb))

    steps : (o : Op) → slice_get flat.lines m.pc ≡ Some o → may_go (op_turn flat o m) ≡ true → Stepped x earlier o
    steps Op.Enter a go = same_at Op.Enter a (next m) refl refl refl refl refl refl refl refl refl (λ k. refl) (λ k. refl)
    steps Op.BlockEnd a go = blank_on Op.BlockEnd a refl (next m) refl refl refl
    steps (Op.Constant i v) a go = int_at (Op.Constant i v) a (next (set_int i v m)) refl refl refl refl refl refl refl i v refl refl (λ k. refl) (λ k. refl) (λ q u h g. (constant_is v u g).0)
    steps (Op.Move i j) a go = int_at (Op.Move i j) a (next (set_int i (int m j) m)) refl refl refl refl refl refl refl i (int m j) refl refl (λ k. refl) (λ k. refl) (λ q u h g. no_some u g)
    steps (Op.Compute w f i j n spot) a go =
        let r = of_result i spot (computed w f (int m j) (int m n)) go in
        int_at (Op.Compute w f i j n spot) a (next (set_int i r.0 m)) r.1 refl refl refl refl refl refl i r.0 refl refl (λ k. refl) (λ k. refl) (λ q u h g. no_some u g)
    steps (Op.Negate w i j spot) a go =
        let r = of_result i spot (negated w (int m j)) go in
        int_at (Op.Negate w i j spot) a (next (set_int i r.0 m)) r.1 refl refl refl refl refl refl i r.0 refl refl (λ k. refl) (λ k. refl) (λ q u h g. no_some u g)
    steps (Op.Complement i j) a go = int_at (Op.Complement i j) a (then_ (Op.Complement i j)) refl refl refl refl refl refl refl i _ refl refl (λ k. refl) (λ k. refl) (λ q u h g. no_some u g)
    steps (Op.IsFalse i j) a go = int_at (Op.IsFalse i j) a (then_ (Op.IsFalse i j)) refl refl refl refl refl refl refl i _ refl refl (λ k. refl) (λ k. refl) (λ q u h g. no_some u g)
    steps (Op.SameReference i j n) a go = int_at (Op.SameReference i j n) a (then_ (Op.SameReference i j n)) refl refl refl refl refl refl refl i _ refl refl (λ k. refl) (λ k. refl) (λ q u h g. no_some u g)
    steps (Op.ChkWidth w i spot) a go = same_at (Op.ChkWidth w i spot) a (next m) (of_assert (holds w (int m i)) _ spot go) refl refl refl refl refl refl refl refl (λ k. refl) (λ k. refl)
    steps (Op.Skip n) a go = jumps_to (Op.Skip n) a (m.pc + 1 + n) refl (self (m.pc + 1 + n))
    steps (Op.SkipIfZero i n) a go = by (is_zero (int m i)) refl
      where
        o : Op
        o = Op.SkipIfZero i n

        by : (b : Bool) → is_zero (int m i) ≡ b → Stepped x earlier o
        by true e = jumps_to o a (m.pc + 1 + n) (ap (λ b. after m (goes (cond b (over_lines n m) (next m))) x) e) (self (m.pc + 1 + n))
        by false e = blank_on o a refl (next m) (ap (λ b. after m (goes (cond b (over_lines n m) (next m))) x) e) refl refl
    steps (Op.SkipIfNull r n) a go = by (is_zero (ref m r)) refl
      where
        o : Op
        o = Op.SkipIfNull r n

        by : (b : Bool) → is_zero (ref m r) ≡ b → Stepped x earlier o
        by true e = jumps_to o a (m.pc + 1 + n) (ap (λ b. after m (goes (cond b (over_lines n m) (next m))) x) e) (self (m.pc + 1 + n))
        by false e = blank_on o a refl (next m) (ap (λ b. after m (goes (cond b (over_lines n m) (next m))) x) e) refl refl
    steps (Op.Jump to) a go = jumps_to (Op.Jump to) a to refl (self to)
    steps (Op.Call f i r spot) a go = by (nat_lt (length m.frames) 255) refl go
      where
        o : Op
        o = Op.Call f i r spot

        by : (b : Bool) → nat_lt (length m.frames) 255 ≡ b → may_go (cond b (goes (called flat f i r m)) (stops Trap.CallDepth spot)) ≡ true → Stepped x earlier o
        by true e g = goes_away o a (called flat f i r m) (ap (λ b. after m (cond b (goes (called flat f i r m)) (stops Trap.CallDepth spot)) x) e) (inl (entry_blank f)) (after_end m.pc o a refl, fr)
        by false e g = false_true g
    steps (Op.Return spot) a go = by m.frames refl fr go
      where
        o : Op
        o = Op.Return spot

        by : (cs : List Caller) → m.frames ≡ cs → Blank cs → may_go (returned flat cs spot m) ≡ true → Stepped x earlier o
        by [] e f g = end (nat_lt 0 (length (held_mutexes m.events))) refl g
          where
            end : (b : Bool) → nat_lt 0 (length (held_mutexes m.events)) ≡ b → may_go (cond (not b) (goes (record m { pc = length flat.lines })) (stops Trap.ReturnWithLockHeld spot)) ≡ true → Stepped x earlier o
            end true eb g = false_true g
            end false eb g = goes_away o a (record m { pc = length flat.lines })
                (ap (λ cs. after m (returned flat cs spot m) x) e ∙ ap (λ b. after m (cond (not b) (goes (record m { pc = length flat.lines })) (stops Trap.ReturnWithLockHeld spot)) x) eb) (inr (omega arith)) fr
        by (c ∷ rest) e f g = goes_away o a (record m { pc = c.pc; int_base = c.ints; ref_base = c.refs; frames = rest }) (ap (λ cs. after m (returned flat cs spot m) x) e) (inl f.0) f.1
    steps (Op.Null r) a go = ref_at (Op.Null r) a (next (set_ref r (pos 0) m)) refl refl refl refl refl refl refl r (pos 0) refl refl (λ k. refl) (λ k. refl) (λ y c. no_some y c)
    steps (Op.Local r y) a go = ref_at (Op.Local r y) a (next (set_ref r (ref m y) m)) refl refl refl refl refl refl refl r (ref m y) refl refl (λ k. refl) (λ k. refl)
        (λ z c. (let h = copy_is (Op.Local r y) r z (self r) c in let e : y ≡ z = same_variable h.0 in (λ q. h.1 (sym q), ap (λ y. ref m y) e)))
      where
        same_variable : {z : ℕ} → Op.Local r y ≡ Op.Local r z → y ≡ z
        same_variable e = cc
    steps (Op.MoveReference r j) a go = goes_straight (Op.MoveReference r j) a refl
        (two_step m (Op.MoveReference r j) (at (x ∷ earlier)) (then_ (Op.MoveReference r j)) (here (Op.MoveReference r j) a) refl refl refl refl r j (pos 0) (ref m j) refl refl (λ k. refl) (λ k. refl) refl) (λ b eb. no_some b eb)
    steps (Op.Pop r) a go = ref_at (Op.Pop r) a (then_ (Op.Pop r)) refl refl refl refl refl refl refl r (pos 0) refl refl (λ k. refl) (λ k. refl) (λ y c. no_some y c)
    steps (Op.Settle y j) a go = goes_straight (Op.Settle y j) a refl
        (two_step m (Op.Settle y j) (at (x ∷ earlier)) (then_ (Op.Settle y j)) (here (Op.Settle y j) a) refl refl refl refl y j (pos 0) (ref m j) refl refl (λ k. refl) (λ k. refl) refl) (λ b eb. no_some b eb)
    steps (Op.ChkNull r spot) a go = same_at (Op.ChkNull r spot) a (next m) (of_assert (not (is_zero (ref m r))) _ spot go) refl refl refl refl refl refl refl refl (λ k. refl) (λ k. refl)
    steps (Op.ChkPositive i spot) a go = same_at (Op.ChkPositive i spot) a (next m) (of_assert (is_positive (int m i)) _ spot go) refl refl refl refl refl refl refl refl (λ k. refl) (λ k. refl)
    steps (Op.ChkHeld cell spot) a go = same_at (Op.ChkHeld cell spot) a (next m) (of_assert (holds_mutex m.events (cell_at flat.globals m cell)) _ spot go) refl refl refl refl refl refl refl refl (λ k. refl) (λ k. refl)
    steps (Op.ChkNotHeld cell spot) a go = same_at (Op.ChkNotHeld cell spot) a (next m) (of_assert (not (holds_mutex m.events (cell_at flat.globals m cell))) _ spot go) refl refl refl refl refl refl refl refl (λ k. refl) (λ k. refl)
    steps (Op.ChkRoom spot) a go = same_at (Op.ChkRoom spot) a (next m) (of_assert (nat_lt (length (held_mutexes m.events)) 16) _ spot go) refl refl refl refl refl refl refl refl (λ k. refl) (λ k. refl)
    steps (Op.Bounds i r cells field spot) a go =
        let z = of_index i cells field (elements_of (ref m r)) spot (int m i) go in
        int_at (Op.Bounds i r cells field spot) a (next (set_int i (pos (z.0 * cells + field)) m)) z.2 refl refl refl refl refl refl i (pos (z.0 * cells + field)) refl refl (λ k. refl) (λ k. refl) (index_is i cells field z.0 z.1)
    steps (Op.GlobalBounds i elements cells field spot) a go =
        let z = of_index i cells field elements spot (int m i) go in
        int_at (Op.GlobalBounds i elements cells field spot) a (next (set_int i (pos (z.0 * cells + field)) m)) z.2 refl refl refl refl refl refl i (pos (z.0 * cells + field)) refl refl (λ k. refl) (λ k. refl) (index_is i cells field z.0 z.1)
    steps (Op.Load i cell spot) a go =
        let o = Op.Load i cell spot in
        let r = of_access cell spot Act.Read (λ c v. set_int i v) go in
        goes_straight o a refl (int_step m o (at (x ∷ earlier)) (accessed (next (set_int i r.0 (with_event r.1 m)))) (here o a ∙ r.2) refl refl refl refl i r.0 refl refl (λ k. refl) (λ k. refl) (λ q u h g. no_some u g))
        (makes_own o record { kind = Read; cell = cell; spot = spot } refl (makes_access cell spot Act.Read (λ c v. set_int i v) Read refl))
    steps (Op.Store i cell spot) a go =
        let o = Op.Store i cell spot in
        let r = of_access cell spot (λ c mode. Act.Write c mode (int m i)) (λ c v n. n) go in
        goes_straight o a refl (same_step m o (at (x ∷ earlier)) (accessed (next (with_event r.1 m))) (here o a ∙ r.2) refl refl refl refl refl refl (λ k. refl) (λ k. refl))
        (makes_own o record { kind = Write; cell = cell; spot = spot } refl (makes_access cell spot (λ c mode. Act.Write c mode (int m i)) (λ c v n. n) Write (inl (_, refl))))
    steps (Op.LoadRef r cell spot) a go =
        let o = Op.LoadRef r cell spot in
        let z = of_access cell spot Act.Read (λ c v. set_ref r v) go in
        goes_straight o a refl (ref_step m o (at (x ∷ earlier)) (accessed (next (set_ref r z.0 (with_event z.1 m)))) (here o a ∙ z.2) refl refl refl refl r z.0 refl refl (λ k. refl) (λ k. refl) (λ y c. no_some y c))
        (makes_own o record { kind = Read; cell = cell; spot = spot } refl (makes_access cell spot Act.Read (λ c v. set_ref r v) Read refl))
    steps (Op.StoreRef r cell spot) a go =
        let o = Op.StoreRef r cell spot in
        let then2 : CellAt → ℤ → At → At = λ c v n. gives_up (Replaced c) (set_ref r (pos 0) n) in
        let z = of_access cell spot (λ c mode. Act.Write c mode (ref m r)) then2 go in
        goes_straight o a refl (ref_step m o (at (x ∷ earlier)) (accessed (next (then2 (cell_at flat.globals m cell) z.0 (with_event z.1 m)))) (here o a ∙ z.2) refl refl refl refl r (pos 0) refl refl (λ k. refl) (λ k. refl) (λ y c. no_some y c))
        (makes_own o record { kind = Write; cell = cell; spot = spot } refl (makes_access cell spot (λ c mode. Act.Write c mode (ref m r)) then2 Write (inl (_, refl))))
    steps (Op.LoadGuard cell spot) a go = same_at (Op.LoadGuard cell spot) a (then_ (Op.LoadGuard cell spot)) refl refl refl refl refl refl refl refl refl (λ k. refl) (λ k. refl)
    steps (Op.New r count cells spot) a go = ref_at (Op.New r count cells spot) a (then_ (Op.New r count cells spot)) refl refl refl refl refl refl refl r _ refl refl (λ k. refl) (λ k. refl) (λ y c. no_some y c)
    steps (Op.TakeCell r cell spot) a go =
        let z = of_access cell spot (λ c mode. Act.Take (Taken.Cell c mode) (take_kind_of spot.at)) (λ c v. set_ref r v) go in
        blank_on (Op.TakeCell r cell spot) a refl (accessed (next (set_ref r z.0 (with_event z.1 m)))) z.2 refl refl
    steps (Op.TakeLocal r y spot) a go = by (is_zero (ref m y)) refl
      where
        o : Op
        o = Op.TakeLocal r y spot

        by : (b : Bool) → is_zero (ref m y) ≡ b → Stepped x earlier o
        by true e = blank_on o a refl (after m (takes_local r y spot m true) x) (ap (λ b. after m (takes_local r y spot m b) x) e) refl refl
        by false e = blank_on o a refl (after m (takes_local r y spot m false) x) (ap (λ b. after m (takes_local r y spot m b) x) e) refl refl
    steps (Op.Give r cells spot) a go = blank_on (Op.Give r cells spot) a refl (then_ (Op.Give r cells spot)) refl refl refl
    steps (Op.Lock cell spot) a go = by cell a
      where
        by : (c : Cell) → slice_get flat.lines m.pc ≡ Some (Op.Lock c spot) → Stepped x earlier (Op.Lock c spot)
        by (Cell.Global g n) a = blank_on (Op.Lock (Cell.Global g n) spot) a refl (then_ (Op.Lock (Cell.Global g n) spot)) refl refl refl
        by k a = blank_on (Op.Lock k spot) a refl (then_ (Op.Lock k spot)) refl refl refl
    steps (Op.CondSignal cell spot) a go = same_at (Op.CondSignal cell spot) a (then_ (Op.CondSignal cell spot)) refl refl refl refl refl refl refl refl refl (λ k. refl) (λ k. refl)
    steps (Op.CondBroadcast cell spot) a go = same_at (Op.CondBroadcast cell spot) a (then_ (Op.CondBroadcast cell spot)) refl refl refl refl refl refl refl refl refl (λ k. refl) (λ k. refl)
    steps (Op.Spawn i f (Register.Int j) spot) a go = blank_on (Op.Spawn i f (Register.Int j) spot) a refl (then_ (Op.Spawn i f (Register.Int j) spot)) refl refl refl
    steps (Op.Print i spot) a go = same_at (Op.Print i spot) a (then_ (Op.Print i spot)) refl refl refl refl refl refl refl refl refl (λ k. refl) (λ k. refl)
    steps k a go = blank_on k a refl (then_ k) refl refl refl

  -- ---- every place of a path
  record Truth (answers : List ℤ) : Type 0 where
    knows : Holds (known flat (at answers).pc) answers ⊎ (length flat.lines ≤ (at answers).pc)
    frames : Blank (at answers).frames

  next_known : (n : ℕ) (o : Op) → slice_get flat.lines n ≡ Some o → (known flat (n + 1) ≡ know_after (Some o) (known flat n)) ⊎ (known flat (n + 1) ≡ nothing)
  next_known n o e = let s : n + 1 ≡ suc n = omega arith in by (is_target flat (suc n)) refl s
    where
      by : (b : Bool) → is_target flat (suc n) ≡ b → n + 1 ≡ suc n → (known flat (n + 1) ≡ know_after (Some o) (known flat n)) ⊎ (known flat (n + 1) ≡ nothing)
      by true h s = inr (ap (known flat) s ∙ ap (λ b. cond b nothing (know_after (slice_get flat.lines n) (known flat n))) h)
      by false h s = inl (ap (known flat) s ∙ ap (λ b. cond b nothing (know_after (slice_get flat.lines n) (known flat n))) h ∙ ap (λ l. know_after l (known flat n)) e)

  end_stays : (m : At) (x : ℤ) (n : ℕ) → may_go (end_turn flat m n) ≡ true → ((after m (end_turn flat m n) x).pc ≡ m.pc + 1) × ((after m (end_turn flat m n) x).frames ≡ m.frames)
  end_stays m x (suc (suc n)) e = false_true e
  end_stays m x _ e = (refl, refl)

  module _ (x : ℤ) (earlier : List ℤ) (h : Truth earlier) where
    abbrev now : At
    now = at earlier

    stepped : (o : Op) → slice_get flat.lines now.pc ≡ Some o → Stepped x earlier o → Truth (x ∷ earlier)
    stepped o e (inl s) = ⊎_elim
        (λ (q : known flat (now.pc + 1) ≡ know_after (Some o) (known flat now.pc)). record { knows = inl (subst (λ k. Holds k (x ∷ earlier)) (sym (ap (known flat) s.pc_is ∙ q)) s.knows); frames = subst Blank (sym s.frames) h.frames })
        (λ (q : known flat (now.pc + 1) ≡ nothing). record { knows = inl (subst (λ k. Holds k (x ∷ earlier)) (sym (ap (known flat) s.pc_is ∙ q)) (holds_nothing (x ∷ earlier))); frames = subst Blank (sym s.frames) h.frames })
        (next_known now.pc o e)
    stepped o e (inr s) = record {
      knows = ⊎_elim
          (λ (q : known flat (at (x ∷ earlier)).pc ≡ nothing). inl (subst (λ k. Holds k (x ∷ earlier)) (sym q) (holds_nothing (x ∷ earlier))))
          (λ (q : length flat.lines ≤ (at (x ∷ earlier)).pc). inr q)
          s.blank;
      frames = s.frames;
    }

    behind_end : length flat.lines ≤ now.pc → may_go (turn flat now) ≡ true → Truth (x ∷ earlier)
    behind_end le go =
        let at_o : slice_get flat.lines now.pc ≡ None = slice_get_past flat.lines now.pc le in
        let n = now.pc - length flat.lines in
        let t : turn flat now ≡ end_turn flat now n = ap (λ l. line_turn flat l now) at_o in
        let s = end_stays now x n (subst (λ t. may_go t ≡ true) t go) in
        let e : at (x ∷ earlier) ≡ after now (end_turn flat now n) x = ap (λ t. after now t x) t in
        let pc : (at (x ∷ earlier)).pc ≡ now.pc + 1 = ap (λ (z : At). z.pc) e ∙ s.0 in
        record { knows = inr (omega arith); frames = subst Blank (sym (ap (λ (z : At). z.frames) e ∙ s.1)) h.frames }

    one_more : may_go (turn flat now) ≡ true → Truth (x ∷ earlier)
    one_more go = ⊎_elim
        (λ (ks : Holds (known flat now.pc) earlier). ⊎_elim
        (λ (lt : now.pc < length flat.lines).
        let at_o = slice_get-get_or flat.lines now.pc Op.Enter lt in
        stepped _ at_o (steps x earlier ks h.frames _ at_o (subst (λ l. may_go (line_turn flat l now) ≡ true) at_o go)))
        (λ (le : length flat.lines ≤ now.pc). behind_end le go)
        (cases_lt now.pc (length flat.lines)))
        (λ (le : length flat.lines ≤ now.pc). behind_end le go)
        h.knows

  truth : (answers : List ℤ) → IsPath flat from answers → Truth [] → Truth answers
  truth [] path t = t
  truth (x ∷ earlier) path t = one_more x earlier (truth earlier path.0 t) path.1

  -- where a check is dropped
  covers : (answers : List ℤ) → Truth answers → (o : Option Op) → slice_get flat.lines (at answers).pc ≡ o → drops_at (known flat (at answers).pc) o ≡ true → IsCovered flat from answers o
  covers answers t None e d = false_true d
  covers answers t (Some o) e d = ⊎_elim (λ (ks : Holds (known flat (at answers).pc) answers). each ks o d) (λ (le : length flat.lines ≤ (at answers).pc). let z = slice_get_past flat.lines (at answers).pc le in absurd (cc)) t.knows
    where
      by_place : (ks : Holds (known flat (at answers).pc) answers) (kind : Kind) (cell : Cell) (q : Option SimplePlace) → place_of (known flat (at answers).pc) cell ≡ q → has_passed (known flat (at answers).pc) kind q ≡ true
          → (j : ℕ) × Since flat from answers kind (cell_at flat.globals (at answers) cell) j
      by_place ks kind cell None e h = false_true h
      by_place ks kind cell (Some place) e h =
          (register_in (at answers) place, subst (λ c. Since flat from answers kind c (register_in (at answers) place)) (sym (place_true answers (known flat (at answers).pc) ks cell place e)) (ks.passed kind place h))

      each : (ks : Holds (known flat (at answers).pc) answers) (o : Op) → drops (known flat (at answers).pc) o ≡ true → IsCovered flat from answers (Some o)
      each ks (Op.Load i cell spot) d = by_place ks Read cell (place_of (known flat (at answers).pc) cell) refl (and_right (tells spot) (has_passed (known flat (at answers).pc) Read (place_of (known flat (at answers).pc) cell)) d)
      each ks (Op.Store i cell spot) d = by_place ks Write cell (place_of (known flat (at answers).pc) cell) refl (and_right (tells spot) (has_passed (known flat (at answers).pc) Write (place_of (known flat (at answers).pc) cell)) d)
      each ks _ d = false_true d

begun_pc : (q : Parameter) (v : ℤ) (m : At) → ((begun q v m).pc ≡ m.pc) × ((begun q v m).frames ≡ m.frames)
begun_pc Parameter.Int v m = (refl, refl)
begun_pc _ v m = (refl, refl)

pub covered : DroppedIsCovered
covered flat f v known_f answers path d =
    let from = start flat f v in
    let s = begun_pc (function_of flat f).parameter v (first_at flat f) in
    let first : Truth flat from [] = record {
      knows = inl (subst (λ k. Holds flat from k []) (sym (ap (known flat) s.0 ∙ entry_blank flat from f)) (holds_nothing flat from []));
      frames = subst (Blank flat from) (sym s.1) tt;
    } in
    covers flat from answers (truth flat from answers path first) (slice_get flat.lines (at_after flat from answers).pc) refl d
