-- What an lvalue names is read, written and taken: after its base and its index are at hand.
use Rattle.sharc_typed_laws.proofs.{Imports.{◌≡◌, ℕ, ◌+◌, ◌<◌, ◌≤◌, Bool, true, false, cond, List, [], ◌∷◌, ◌++◌, Option, Some, None, refl, sym, ◌∙◌, subst, ⊎_elim, arith, false≢true, cases_lt, Site, Use, Cell, Width, put, put_same, put_other, Sharing, Op, Spot, Lvalue, Context, int_count, ref_count, Target, variable, in_global, in_global_at, in_object, in_object_at, has_base, base_width, guard_width, index_width, cell_of, guard_cell, guard_field, guard_code, cell_value_code, cell_store_code, cell_take_code, is_cell, StaticType, Entry, Empty, Refers, Element, Number, Within, OfElement, Gate, Closed, Loaded, Label, LessNumber, HasBase, IsScoped, set_number, fill, ints_in, refs_in, less_refl, less_number_refl, Mark, Setting, IsAtHand, IsNamed, mark, Typing, HoldsVariables, IsPointerCopy, Ground, HasNumbers, number_in_global, HasIndex, HasBaseAt, IsPlaced, ReachesInteger, ReachesReference, ThroughGuard, IntegerTyped, ReferenceTyped}, Fitting.fits_same, Parts.{at_number, at_fill, pre, none, pop_at, with_number}, Values.{over, guard_at, load_at, load_reference_at, take_at, store_at, store_reference_at}, Variables.settle_base_at, Words.words}

module _ (around : Setting) (f : ℕ) (D : (ℕ → Mark) → Type 0) (y : Typing) (c : Context) (low : (p : ℕ) → y.named c p ≡ true → p < ref_count c.scope) (from : ℕ) where
  open words around f D (y.named c) (ref_count c.scope) low from use {named, top, Q, Here, joins}

  abbrev pub with_int : Label → ℕ → Number → Mark
  with_int = with_number around f D named top low from

  -- the pointer to the mutex is read first, where there is one
  guarded : (i r : ℕ) (l : Label) → Here i r l → (g : ℕ → Number) → ((j : ℕ) → j < i → g j ≡ l.ints j) → (until ir rr : ℕ) (site : Site) (lvalue : Lvalue) (t : Target) (guard : Option ℕ) (Holds : Label → Type 0) (os : List Op) (e : Mark)
      → ThroughGuard around c t ir rr guard Holds (over l g Closed) → ((gate : Gate) → Holds (over l g gate) → Q (mark (over l g gate) from until) os e) → Q (mark (over l g Closed) from until) (guard_code c ir rr site lvalue t guard ++ os) e
  guarded i r l at g below until ir rr site lvalue t None Holds os e h rest = rest Closed h
  guarded i r l at g below until ir rr site lvalue t (Some mutex) Holds os e h rest =
      let cell = guard_cell c.globals mutex ir rr t in
      joins (mark (over l g Closed) from until) (mark (over l g (Loaded cell)) from until) e (Op.LoadGuard cell _ ∷ []) os
      (guard_at around f D named top low from i r l at g below until cell _ h.0.field h.0.to h.0.has h.0.mode h.0.holds) (rest (Loaded cell) h.1)

  -- ---- where its registers are
  -- the integer registers with the index of what is named, and with that of its guard
  abbrev pub indexed : (ℕ → Number) → ℕ → Option ℕ → (ℕ → Number) → ℕ → ℕ → Number
  indexed ints i None place n = put ints i (place n)
  indexed ints i (Some mutex) place n = put (put ints i (place n)) (i + 1) (place mutex)

  abbrev pub ints_of : Target → Option ℕ → Ground → Element → ℕ → ℕ → (ℕ → Number) → ℕ → Number
  ints_of (in_global_at g n) guard ground e i r ints = indexed ints i guard (number_in_global c.globals ground e g) n
  ints_of (in_object_at n) guard ground e i r ints = indexed ints i guard (λ field. OfElement r field e) n
  ints_of t guard ground e i r ints = ints

  -- the label with its base
  abbrev pub based : Target → Ground → ℕ → ℕ → Label → Label
  based t ground r v l = cond (has_base t) (fill l r (Refers ground.base) v true) l

  -- what is said after its code
  abbrev pub placed : Target → Option ℕ → Ground → Element → ℕ → ℕ → ℕ → Label → Mark
  placed t guard ground e i r v l = mark (over (based t ground r v l) (ints_of t guard ground e i r l.ints) Closed) from (i + index_width t guard)

  indexed_below : (ints : ℕ → Number) (i : ℕ) (guard : Option ℕ) (place : ℕ → Number) (n j : ℕ) → j < i → indexed ints i guard place n j ≡ ints j
  indexed_below ints i None place n j lt = put_other ints i j (place n) (λ e. omega (arith, e, lt))
  indexed_below ints i (Some m) place n j lt = put_other (put ints i (place n)) (i + 1) j (place m) (λ e. omega (arith, e, lt)) ∙ put_other ints i j (place n) (λ e. omega (arith, e, lt))

  pub ints_below : (t : Target) (guard : Option ℕ) (ground : Ground) (e : Element) (i r : ℕ) (ints : ℕ → Number) (j : ℕ) → j < i → ints_of t guard ground e i r ints j ≡ ints j
  ints_below (in_global_at g n) guard ground e i r ints j lt = indexed_below ints i guard (number_in_global c.globals ground e g) n j lt
  ints_below (in_object_at n) guard ground e i r ints j lt = indexed_below ints i guard (λ field. OfElement r field e) n j lt
  ints_below _ guard ground e i r ints j lt = refl

  -- the number of its cell is at hand
  at_hand : (t : Target) (guard : Option ℕ) (i r until : ℕ) (l : Label) → from ≤ i → i + index_width t guard ≤ until → IsAtHand (mark l from until) (cell_of c.globals i r t)
  at_hand (variable x) guard i r until l early le = tt
  at_hand (in_global g n) guard i r until l early le = tt
  at_hand (in_object n) guard i r until l early le = tt
  at_hand _ guard i r until l early le = (early, by guard le)
    where
      by : (guard : Option ℕ) → i + guard_width guard ≤ until → i < until
      by None le = omega (arith, le)
      by (Some m) le = omega (arith, le)

  hand_over : (l k : Label) (until : ℕ) (cell : Cell) → IsAtHand (mark l from until) cell → IsAtHand (mark k from until) cell
  hand_over l k until (Cell.Global g p) h = h
  hand_over l k until _ h = h

  -- ---- of a label with so many registers, whatever the free integer registers hold
  module _ (i r : ℕ) (l : Label) (at : Here i r l) (g : ℕ → Number) (below : (j : ℕ) → j < i → g j ≡ l.ints j) (until : ℕ) (le : i ≤ until) (ir rr : ℕ) (site : Site) (lvalue : Lvalue) (t : Target) (guard : Option ℕ) (cell : Cell) (spot : Spot) where
    load_by : (w : Width) → IsAtHand (mark l from until) cell → ThroughGuard around c t ir rr guard (λ k. ReachesInteger around k false cell spot w) (over l g Closed) → (os : List Op) (e : Mark) → Q (with_int l i (Within w)) os e
        → Q (mark (over l g Closed) from until) (guard_code c ir rr site lvalue t guard ++ (Op.Load i cell spot ∷ os)) e
    load_by w hand h os e rest = guarded i r l at g below until ir rr site lvalue t guard (λ k. ReachesInteger around k false cell spot w) (Op.Load i cell spot ∷ os) e h (λ gate m.
        joins (mark (over l g gate) from until) (with_int l i (Within w)) e (Op.Load i cell spot ∷ []) os (load_at around f D named top low from i r l at g below gate until le cell spot m.field w (hand_over l (over l g gate) until cell hand) m.may m.holds) rest)

    load_reference_by : (s : StaticType) → IsNamed named r s → IsAtHand (mark l from until) cell → ThroughGuard around c t ir rr guard (λ k. ReachesReference around k false cell spot s) (over l g Closed) → (os : List Op) (e : Mark) → Q (mark (fill l r (Refers s) r false) from i) os e
        → Q (mark (over l g Closed) from until) (guard_code c ir rr site lvalue t guard ++ (Op.LoadRef r cell spot ∷ os)) e
    load_reference_by s fits hand h os e rest = guarded i r l at g below until ir rr site lvalue t guard (λ k. ReachesReference around k false cell spot s) (Op.LoadRef r cell spot ∷ os) e h (λ gate m.
        joins (mark (over l g gate) from until) (mark (fill l r (Refers s) r false) from i) e (Op.LoadRef r cell spot ∷ []) os
        (load_reference_at around f D named top low from i r l at g below gate until le cell spot m.field s fits (hand_over l (over l g gate) until cell hand) m.may m.points) rest)

    take_by : (s : StaticType) → IsNamed named r s → ThroughGuard around c t ir rr guard (λ k. ReachesReference around k true cell spot s) (over l g Closed) → (os : List Op) (e : Mark) → Q (mark (fill l r (Refers s) r false) from i) os e
        → Q (mark (over l g Closed) from until) (guard_code c ir rr site lvalue t guard ++ (Op.TakeCell r cell spot ∷ os)) e
    take_by s fits h os e rest = guarded i r l at g below until ir rr site lvalue t guard (λ k. ReachesReference around k true cell spot s) (Op.TakeCell r cell spot ∷ os) e h (λ gate m.
        joins (mark (over l g gate) from until) (mark (fill l r (Refers s) r false) from i) e (Op.TakeCell r cell spot ∷ []) os (take_at around f D named top low from i r l at g below gate until cell spot m.field s fits m.may m.points) rest)

    store_by : (vi : ℕ) (w : Width) → LessNumber (g vi) (Within w) → IsAtHand (mark l from until) cell → ThroughGuard around c t ir rr guard (λ k. ReachesInteger around k true cell spot w) (over l g Closed) → (os : List Op) (e : Mark) → Q (mark l from i) os e
        → Q (mark (over l g Closed) from until) (guard_code c ir rr site lvalue t guard ++ (Op.Store vi cell spot ∷ os)) e
    store_by vi w fits hand h os e rest = guarded i r l at g below until ir rr site lvalue t guard (λ k. ReachesInteger around k true cell spot w) (Op.Store vi cell spot ∷ os) e h (λ gate m.
        joins (mark (over l g gate) from until) (mark l from i) e (Op.Store vi cell spot ∷ []) os (store_at around f D named top low from i r l at g below gate until vi le cell spot m.field w (hand_over l (over l g gate) until cell hand) m.may m.holds fits) rest)

    store_reference_by : top ≤ r → (s : StaticType) (v : ℕ) (b : Bool) → IsNamed named r s → v ≤ r → IsAtHand (mark l from until) cell → ThroughGuard around c t ir rr guard (λ k. ReachesReference around k true cell spot s) (over (fill l r (Refers s) v b) g Closed) → (os : List Op) (e : Mark)
        → Q (mark l from i) os e → Q (mark (over (fill l r (Refers s) v b) g Closed) from until) (guard_code c ir rr site lvalue t guard ++ (Op.StoreRef r cell spot ∷ os)) e
    store_reference_by high s v b fits copy hand h os e rest =
        let k = fill l r (Refers s) v b in
        guarded i (r + 1) k (at_fill around f D named top low from i r l at s v b fits copy) g below until ir rr site lvalue t guard (λ k. ReachesReference around k true cell spot s) (Op.StoreRef r cell spot ∷ os) e h (λ gate m.
        joins (mark (over k g gate) from until) (mark l from i) e (Op.StoreRef r cell spot ∷ []) os
        (pre around f D named top low from (mark (over k g gate) from until) (record (mark (over k g gate) from until) { replaced = s }) (mark l from i) (Op.StoreRef r cell spot ∷ [])
        (record { less = less_refl (over k g gate); tells = λ know z. record { copies = z.copies; numbers = z.numbers } }) (λ z. z)
        (store_reference_at around f D named top low from i r l at g below high gate until le cell spot m.field s v b fits (hand_over l (over k g gate) until cell hand) m.may m.points)) rest)

  -- ---- by what is named
  -- what is known where an lvalue is accessed: the registers that are taken are those of the variables, and others
  pub record Frame (i r : ℕ) (l : Label) : Type 0 where
    pub at : Here i r l
    pub holds : HoldsVariables y c l
    pub high : top ≤ r
    pub wide : int_count c.scope ≤ i
    pub early : from ≤ i
    -- what is known to be no NULL, and what is indexed, is no variable
    pub seen : (q : ℕ) → l.known q ≡ true → top ≤ q
    pub elements : (j q : ℕ) → HasBase (l.ints j) q → top ≤ q

  pub holds_over : (l k : Label) → ((q : ℕ) → q < top → k.env q ≡ l.env q) → ((q : ℕ) → q < top → k.same q ≡ l.same q) → ((j : ℕ) → j < int_count c.scope → k.ints j ≡ l.ints j) → HoldsVariables y c l → HoldsVariables y c k
  holds_over l k env same ints h = record { references = λ q lt. env q lt ∙ h.references q lt; copies = λ q lt. same q lt ∙ h.copies q lt; integers = λ j lt. ints j lt ∙ h.integers j lt }

  numbers_by : (q : Label) (i : ℕ) (guard : Option ℕ) (place : ℕ → Number) (n : ℕ) (ints : ℕ → Number) → ((j : ℕ) → j < i + guard_width guard → q.ints j ≡ indexed ints i guard place n j) → HasNumbers q i guard place n
  numbers_by q i None place n ints same = same i (omega arith) ∙ put_same ints i (place n)
  numbers_by q i (Some m) place n ints same =
      (same i (omega arith) ∙ put_other (put ints i (place n)) (i + 1) i (place m) (λ e. omega (arith, e)) ∙ put_same ints i (place n), same (i + 1) (omega arith) ∙ put_same (put ints i (place n)) (i + 1) (place m))

  index_by : (t : Target) (guard : Option ℕ) (ground : Ground) (e : Element) (i r : ℕ) (ints : ℕ → Number) (q : Label) → ((j : ℕ) → j < i + index_width t guard → q.ints j ≡ ints_of t guard ground e i r ints j) → HasIndex c.globals t guard ground e i r q
  index_by (in_global_at g n) guard ground e i r ints q same = numbers_by q i guard (number_in_global c.globals ground e g) n ints same
  index_by (in_object_at n) guard ground e i r ints q same = numbers_by q i guard (λ field. OfElement r field e) n ints same
  index_by _ guard ground e i r ints q same = tt

  written : (ints : ℕ → Number) (j : ℕ) (w : Width) → LessNumber (put ints j (Within w) j) (Within w)
  written ints j w = subst (λ n. LessNumber n (Within w)) (sym (put_same ints j (Within w))) (less_number_refl (Within w))

  pub wider_names : (r k : ℕ) (s : StaticType) → r ≤ k → IsNamed named r s → IsNamed named k s
  wider_names r k s le fits p m = let z = fits p m in let lt = z.0 in (omega (arith, lt, le), z.1)

  -- the registers of the variables, and that of the base, are some of the frame
  pub record IsInFrame (r : ℕ) (t : Target) : Type 0 where
    pub variables : top ≤ refs_in around.code (Some f)
    pub frame : has_base t ≡ true → r < refs_in around.code (Some f)

  module _ (i r : ℕ) (l : Label) (fr : Frame i r l) (guard : Option ℕ) (ground : Ground) (e : Element) (v : ℕ) (base_fits : IsNamed named r ground.base) (copy : v ≤ r) where
    abbrev pub B : Label
    B = fill l r (Refers ground.base) v true

    pub at_base : Here i (r + 1) B
    at_base = at_fill around f D named top low from i r l fr.at ground.base v true base_fits copy

    pub at_zero : Here i (r + 0) l
    at_zero = let z : r ≡ r + 0 = omega arith in subst (λ k. Here i k l) z fr.at

    holds_base : HoldsVariables y c B
    holds_base = let high = fr.high in holds_over l B (λ q lt. put_other l.env r q (Refers ground.base) (λ z. omega (arith, z, lt, high))) (λ q lt. put_other l.same r q v (λ z. omega (arith, z, lt, high))) (λ j lt. refl) fr.holds

    no_null : (e : Entry) → e ≡ Refers ground.base → e ≡ Empty → ⊥
    no_null e a b = let z : Refers ground.base ≡ Empty = sym a ∙ b in cc

    pub inside : (t : Target) (k : Label) → ((q : ℕ) → q < r + base_width t → k.env q ≡ (based t ground r v l).env q) → IsScoped (ints_in around.code (Some f)) (refs_in around.code (Some f)) k → IsInFrame r t
    inside t k env h = by (has_base t) refl env
      where
        frs : ℕ
        frs = refs_in around.code (Some f)

        high : top ≤ r
        high = fr.high

        by : (b : Bool) → has_base t ≡ b → ((q : ℕ) → q < r + cond b 1 0 → k.env q ≡ (cond b B l).env q) → IsInFrame r t
        by true is env =
            let more : r < r + 1 = omega arith in
            let lt : r < frs = ⊎_elim (λ (lt : r < frs). lt) (λ (ge : frs ≤ r). absurd (no_null (k.env r) (env r more ∙ put_same l.env r (Refers ground.base)) (h.few r ge))) (cases_lt r frs) in
            record { variables = omega (arith, lt, high); frame = λ _. lt }
        by false is env = record {
          variables = ⊎_elim (λ (lt : frs < r). absurd (fr.at.stands.full frs lt (sym (env frs (omega (arith, lt))) ∙ h.few frs (omega arith)))) (λ (le : r ≤ frs). omega (arith, le, high)) (cases_lt frs r);
          frame = λ e. absurd (false≢true (sym is ∙ e));
        }

    -- so they may be taken to be, where what is said names them
    pub framed : (t : Target) (s e : Mark) (os : List Op) → ((q : ℕ) → q < r + base_width t → s.label.env q ≡ (based t ground r v l).env q) → (IsInFrame r t → Q s os e) → Q s os e
    framed t s e os env rest = λ w h. rest (inside t s.label env h) w h

    -- with anything in the integer registers after the index, and in the registers of references after the base
    pub placed_by : (t : Target) (x : Label) → ((q : ℕ) → q < top → x.env q ≡ l.env q) → ((q : ℕ) → q < top → x.same q ≡ l.same q) → x.function ≡ Some f → HasBaseAt t ground r x → IsInFrame r t → (has_base t ≡ true → IsPointerCopy y c ground.pointer (x.same r))
        → (g : ℕ → Number) → ((j : ℕ) → j < i + index_width t guard → g j ≡ ints_of t guard ground e i r l.ints j) → IsPlaced around y c f t guard ground e i r (over x g Closed)
    placed_by t x env same owned based_x in_it copied g ints = record {
      variables = let wide = fr.wide in holds_over l (over x g Closed) env same (λ j lt. ints j (omega (arith, lt, wide)) ∙ ints_below t guard ground e i r l.ints j (omega (arith, lt, wide))) fr.holds;
      variables_in = in_it.variables;
      owned = owned;
      closed = refl;
      base = over_base t based_x;
      frame = in_it.frame;
      copy = copied;
      index = index_by t guard ground e i r l.ints (over x g Closed) ints;
    }
      where
        over_base : (t : Target) → HasBaseAt t ground r x → HasBaseAt t ground r (over x g Closed)
        over_base (variable z) h = h
        over_base _ h = h

    pub env_base : (q : ℕ) → q < top → B.env q ≡ l.env q
    env_base q lt = let high = fr.high in put_other l.env r q (Refers ground.base) (λ z. omega (arith, z, lt, high))

    pub same_base : (q : ℕ) → q < top → B.same q ≡ l.same q
    same_base q lt = let high = fr.high in put_other l.same r q v (λ z. omega (arith, z, lt, high))

    pub is_base : (B.env r ≡ Refers ground.base) × (B.known r ≡ true)
    is_base = (put_same l.env r (Refers ground.base), put_same l.known r true)

    pub copy_base : IsPointerCopy y c ground.pointer v → IsPointerCopy y c ground.pointer (B.same r)
    copy_base h = subst (IsPointerCopy y c ground.pointer) (sym (put_same l.same r v)) h

    module _ (copies : IsPointerCopy y c ground.pointer v) (site : Site) (lvalue : Lvalue) (mode : Sharing) where
      no_copy : (z : Label) → false ≡ true → IsPointerCopy y c ground.pointer (z.same r)
      no_copy z e = absurd (false≢true e)

      -- an integer is read
      int_value_in : (t : Target) → IsInFrame r t → is_cell t ≡ true → (w : Width) → IntegerTyped around y c f t guard ground site lvalue mode false Use.Read w → Q (placed t guard ground e i r v l) (cell_value_code c i r site lvalue mode false t) (with_int l i (Within w))
      int_value_in (variable x) in_it is w h = absurd (false≢true is)
      int_value_in (in_global g n) in_it is w h =
          load_by i r l fr.at l.ints (λ j lt. refl) (i + 0) (omega arith) i r site lvalue (in_global g n) (guard_field c.program.typed mode) _ _ w tt (h e i r (over l l.ints Closed) (placed_by (in_global g n) l (λ q lt. refl) (λ q lt. refl) fr.at.owned tt in_it (no_copy l) l.ints (λ j lt. refl))) [] (with_int l i (Within w))
          (none around f D named top low from (with_int l i (Within w)) (with_int l i (Within w)) (fits_same around.targets (with_int l i (Within w))) (λ z. z))
      int_value_in (in_global_at g n) in_it is w h =
          let ints = ints_of (in_global_at g n) guard ground e i r l.ints in
          load_by i r l fr.at ints (λ j lt. ints_below (in_global_at g n) guard ground e i r l.ints j lt) (i + guard_width guard) (omega arith) i r site lvalue (in_global_at g n) (guard_field c.program.typed mode) _ _ w
          (at_hand (in_global_at g n) guard i r (i + guard_width guard) l fr.early (omega arith))
          (h e i r (over l ints Closed) (placed_by (in_global_at g n) l (λ q lt. refl) (λ q lt. refl) fr.at.owned tt in_it (no_copy l) ints (λ j lt. refl))) [] (with_int l i (Within w))
          (none around f D named top low from (with_int l i (Within w)) (with_int l i (Within w)) (fits_same around.targets (with_int l i (Within w))) (λ z. z))
      int_value_in (in_object n) in_it is w h =
          load_by i (r + 1) B at_base l.ints (λ j lt. refl) (i + 0) (omega arith) i r site lvalue (in_object n) (guard_field c.program.typed mode) _ _ w tt (h e i r (over B l.ints Closed) (placed_by (in_object n) B env_base same_base fr.at.owned is_base in_it (λ _. copy_base copies) l.ints (λ j lt. refl))) (Op.Pop r ∷ []) (with_int l i (Within w))
          (pop_at around f D named top low from (i + 1) r (set_number l i (Within w)) (at_number around f D named top low from i r l fr.at (Within w) (λ q b. absurd b)) fr.high ground.base v true base_fits (i + 1))
      int_value_in (in_object_at n) in_it is w h =
          let ints = ints_of (in_object_at n) guard ground e i r l.ints in
          load_by i (r + 1) B at_base ints (λ j lt. ints_below (in_object_at n) guard ground e i r l.ints j lt) (i + guard_width guard) (omega arith) i r site lvalue (in_object_at n) (guard_field c.program.typed mode) _ _ w
          (at_hand (in_object_at n) guard i r (i + guard_width guard) B fr.early (omega arith))
          (h e i r (over B ints Closed) (placed_by (in_object_at n) B env_base same_base fr.at.owned is_base in_it (λ _. copy_base copies) ints (λ j lt. refl))) (Op.Pop r ∷ []) (with_int l i (Within w))
          (pop_at around f D named top low from (i + 1) r (set_number l i (Within w)) (at_number around f D named top low from i r l fr.at (Within w) (λ q b. absurd b)) fr.high ground.base v true base_fits (i + 1))

      pub int_value : (t : Target) → is_cell t ≡ true → (w : Width) → IntegerTyped around y c f t guard ground site lvalue mode false Use.Read w → Q (placed t guard ground e i r v l) (cell_value_code c i r site lvalue mode false t) (with_int l i (Within w))
      int_value t is w h = framed t (placed t guard ground e i r v l) (with_int l i (Within w)) (cell_value_code c i r site lvalue mode false t) (λ q lt. refl) (λ k. int_value_in t k is w h)

      -- ---- a reference
      abbrev value_of : StaticType → Mark
      value_of s = mark (fill l r (Refers s) r false) from i

      zero_end : (s : StaticType) → Q (mark (fill l (r + 0) (Refers s) (r + 0) false) from i) [] (value_of s)
      zero_end s = let z : r ≡ r + 0 = omega arith in subst (λ k. Q (mark (fill l k (Refers s) k false) from i) [] (value_of s)) z (none around f D named top low from (value_of s) (value_of s) (fits_same around.targets (value_of s)) (λ z. z))

      settled : (s : StaticType) → IsNamed named r s → Q (mark (fill B (r + 1) (Refers s) (r + 1) false) from i) (Op.Settle r (r + 1) ∷ []) (value_of s)
      settled s fits = settle_base_at around f D named top low from i r l fr.at fr.high ground.base s v true false i base_fits fits copy

      reference_value_in : (t : Target) → IsInFrame r t → is_cell t ≡ true → (s : StaticType) → IsNamed named r s → ReferenceTyped around y c f t guard ground site lvalue mode false Use.Read s → Q (placed t guard ground e i r v l) (cell_value_code c i r site lvalue mode true t) (value_of s)
      reference_value_in (variable x) in_it is s fits h = absurd (false≢true is)
      reference_value_in (in_global g n) in_it is s fits h =
          load_reference_by i (r + 0) l at_zero l.ints (λ j lt. refl) (i + 0) (omega arith) i r site lvalue (in_global g n) (guard_field c.program.typed mode) _ _ s (wider_names r (r + 0) s (omega arith) fits) tt
          (h e i r (over l l.ints Closed) (placed_by (in_global g n) l (λ q lt. refl) (λ q lt. refl) fr.at.owned tt in_it (no_copy l) l.ints (λ j lt. refl))) [] (value_of s) (zero_end s)
      reference_value_in (in_global_at g n) in_it is s fits h =
          let ints = ints_of (in_global_at g n) guard ground e i r l.ints in
          load_reference_by i (r + 0) l at_zero ints (λ j lt. ints_below (in_global_at g n) guard ground e i r l.ints j lt) (i + guard_width guard) (omega arith) i r site lvalue (in_global_at g n) (guard_field c.program.typed mode) _ _ s (wider_names r (r + 0) s (omega arith) fits)
          (at_hand (in_global_at g n) guard i r (i + guard_width guard) l fr.early (omega arith))
          (h e i r (over l ints Closed) (placed_by (in_global_at g n) l (λ q lt. refl) (λ q lt. refl) fr.at.owned tt in_it (no_copy l) ints (λ j lt. refl))) [] (value_of s) (zero_end s)
      reference_value_in (in_object n) in_it is s fits h =
          load_reference_by i (r + 1) B at_base l.ints (λ j lt. refl) (i + 0) (omega arith) i r site lvalue (in_object n) (guard_field c.program.typed mode) _ _ s (wider_names r (r + 1) s (omega arith) fits) tt
          (h e i r (over B l.ints Closed) (placed_by (in_object n) B env_base same_base fr.at.owned is_base in_it (λ _. copy_base copies) l.ints (λ j lt. refl))) (Op.Settle r (r + 1) ∷ []) (value_of s) (settled s fits)
      reference_value_in (in_object_at n) in_it is s fits h =
          let ints = ints_of (in_object_at n) guard ground e i r l.ints in
          load_reference_by i (r + 1) B at_base ints (λ j lt. ints_below (in_object_at n) guard ground e i r l.ints j lt) (i + guard_width guard) (omega arith) i r site lvalue (in_object_at n) (guard_field c.program.typed mode) _ _ s (wider_names r (r + 1) s (omega arith) fits)
          (at_hand (in_object_at n) guard i r (i + guard_width guard) B fr.early (omega arith))
          (h e i r (over B ints Closed) (placed_by (in_object_at n) B env_base same_base fr.at.owned is_base in_it (λ _. copy_base copies) ints (λ j lt. refl))) (Op.Settle r (r + 1) ∷ []) (value_of s) (settled s fits)

      pub reference_value : (t : Target) → is_cell t ≡ true → (s : StaticType) → IsNamed named r s → ReferenceTyped around y c f t guard ground site lvalue mode false Use.Read s → Q (placed t guard ground e i r v l) (cell_value_code c i r site lvalue mode true t) (value_of s)
      reference_value t is s fits h = framed t (placed t guard ground e i r v l) (value_of s) (cell_value_code c i r site lvalue mode true t) (λ q lt. refl) (λ k. reference_value_in t k is s fits h)

      -- ---- one that is taken away
      module _ (form : Option ℕ → Use) where
        taken_value_in : (t : Target) → IsInFrame r t → is_cell t ≡ true → (s : StaticType) → IsNamed named r s → ReferenceTyped around y c f t guard ground site lvalue mode true (form None) s → Q (placed t guard ground e i r v l) (cell_take_code c i r site lvalue mode form t) (value_of s)
        taken_value_in (variable x) in_it is s fits h = absurd (false≢true is)
        taken_value_in (in_global g n) in_it is s fits h =
            take_by i (r + 0) l at_zero l.ints (λ j lt. refl) (i + 0) (omega arith) i r site lvalue (in_global g n) (guard_field c.program.typed mode) _ _ s (wider_names r (r + 0) s (omega arith) fits)
            (h e i r (over l l.ints Closed) (placed_by (in_global g n) l (λ q lt. refl) (λ q lt. refl) fr.at.owned tt in_it (no_copy l) l.ints (λ j lt. refl))) [] (value_of s) (zero_end s)
        taken_value_in (in_global_at g n) in_it is s fits h =
            let ints = ints_of (in_global_at g n) guard ground e i r l.ints in
            take_by i (r + 0) l at_zero ints (λ j lt. ints_below (in_global_at g n) guard ground e i r l.ints j lt) (i + guard_width guard) (omega arith) i r site lvalue (in_global_at g n) (guard_field c.program.typed mode) _ _ s (wider_names r (r + 0) s (omega arith) fits)
            (h e i r (over l ints Closed) (placed_by (in_global_at g n) l (λ q lt. refl) (λ q lt. refl) fr.at.owned tt in_it (no_copy l) ints (λ j lt. refl))) [] (value_of s) (zero_end s)
        taken_value_in (in_object n) in_it is s fits h =
            take_by i (r + 1) B at_base l.ints (λ j lt. refl) (i + 0) (omega arith) i r site lvalue (in_object n) (guard_field c.program.typed mode) _ _ s (wider_names r (r + 1) s (omega arith) fits)
            (h e i r (over B l.ints Closed) (placed_by (in_object n) B env_base same_base fr.at.owned is_base in_it (λ _. copy_base copies) l.ints (λ j lt. refl))) (Op.Settle r (r + 1) ∷ []) (value_of s) (settled s fits)
        taken_value_in (in_object_at n) in_it is s fits h =
            let ints = ints_of (in_object_at n) guard ground e i r l.ints in
            take_by i (r + 1) B at_base ints (λ j lt. ints_below (in_object_at n) guard ground e i r l.ints j lt) (i + guard_width guard) (omega arith) i r site lvalue (in_object_at n) (guard_field c.program.typed mode) _ _ s (wider_names r (r + 1) s (omega arith) fits)
            (h e i r (over B ints Closed) (placed_by (in_object_at n) B env_base same_base fr.at.owned is_base in_it (λ _. copy_base copies) ints (λ j lt. refl))) (Op.Settle r (r + 1) ∷ []) (value_of s) (settled s fits)

        pub taken_value : (t : Target) → is_cell t ≡ true → (s : StaticType) → IsNamed named r s → ReferenceTyped around y c f t guard ground site lvalue mode true (form None) s → Q (placed t guard ground e i r v l) (cell_take_code c i r site lvalue mode form t) (value_of s)
        taken_value t is s fits h = framed t (placed t guard ground e i r v l) (value_of s) (cell_take_code c i r site lvalue mode form t) (λ q lt. refl) (λ k. taken_value_in t k is s fits h)

      -- ---- what is stored
      -- an integer, in the register after the index
      abbrev pub number_at : Target → Width → Mark
      number_at t w = mark (set_number (placed t guard ground e i r v l).label (i + index_width t guard) (Within w)) from (i + index_width t guard)

      int_store_in : (t : Target) → IsInFrame r t → is_cell t ≡ true → (w : Width) (vr : ℕ) → IntegerTyped around y c f t guard ground site lvalue mode true Use.Write w → Q (number_at t w) (cell_store_code c i r (i + index_width t guard) vr site lvalue mode false t) (mark l from i)
      int_store_in (variable x) in_it is w vr h = absurd (false≢true is)
      int_store_in (in_global g n) in_it is w vr h =
          let ints = put l.ints (i + 0) (Within w) in
          store_by i r l fr.at ints (λ j lt. put_other l.ints (i + 0) j (Within w) (λ z. omega (arith, z, lt))) (i + 0) (omega arith) i r site lvalue (in_global g n) (guard_field c.program.typed mode) _ _ (i + 0) w (written l.ints (i + 0) w) tt
          (h e i r (over l ints Closed) (placed_by (in_global g n) l (λ q lt. refl) (λ q lt. refl) fr.at.owned tt in_it (no_copy l) ints (λ j lt. put_other l.ints (i + 0) j (Within w) (λ z. omega (arith, z, lt))))) [] (mark l from i)
          (none around f D named top low from (mark l from i) (mark l from i) (fits_same around.targets (mark l from i)) (λ z. z))
      int_store_in (in_global_at g n) in_it is w vr h =
          let old = ints_of (in_global_at g n) guard ground e i r l.ints in
          let vi = i + guard_width guard in
          let ints = put old vi (Within w) in
          store_by i r l fr.at ints (λ j lt. put_other old vi j (Within w) (λ z. omega (arith, z, lt)) ∙ ints_below (in_global_at g n) guard ground e i r l.ints j lt) vi (omega arith) i r site lvalue (in_global_at g n) (guard_field c.program.typed mode) _ _ vi w (written old vi w)
          (at_hand (in_global_at g n) guard i r vi l fr.early (omega arith))
          (h e i r (over l ints Closed) (placed_by (in_global_at g n) l (λ q lt. refl) (λ q lt. refl) fr.at.owned tt in_it (no_copy l) ints (λ j lt. put_other old vi j (Within w) (λ z. omega (arith, z, lt))))) [] (mark l from i)
          (none around f D named top low from (mark l from i) (mark l from i) (fits_same around.targets (mark l from i)) (λ z. z))
      int_store_in (in_object n) in_it is w vr h =
          let ints = put l.ints (i + 0) (Within w) in
          store_by i (r + 1) B at_base ints (λ j lt. put_other l.ints (i + 0) j (Within w) (λ z. omega (arith, z, lt))) (i + 0) (omega arith) i r site lvalue (in_object n) (guard_field c.program.typed mode) _ _ (i + 0) w (written l.ints (i + 0) w) tt
          (h e i r (over B ints Closed) (placed_by (in_object n) B env_base same_base fr.at.owned is_base in_it (λ _. copy_base copies) ints (λ j lt. put_other l.ints (i + 0) j (Within w) (λ z. omega (arith, z, lt))))) (Op.Pop r ∷ []) (mark l from i)
          (pop_at around f D named top low from i r l fr.at fr.high ground.base v true base_fits i)
      int_store_in (in_object_at n) in_it is w vr h =
          let old = ints_of (in_object_at n) guard ground e i r l.ints in
          let vi = i + guard_width guard in
          let ints = put old vi (Within w) in
          store_by i (r + 1) B at_base ints (λ j lt. put_other old vi j (Within w) (λ z. omega (arith, z, lt)) ∙ ints_below (in_object_at n) guard ground e i r l.ints j lt) vi (omega arith) i r site lvalue (in_object_at n) (guard_field c.program.typed mode) _ _ vi w (written old vi w)
          (at_hand (in_object_at n) guard i r vi B fr.early (omega arith))
          (h e i r (over B ints Closed) (placed_by (in_object_at n) B env_base same_base fr.at.owned is_base in_it (λ _. copy_base copies) ints (λ j lt. put_other old vi j (Within w) (λ z. omega (arith, z, lt))))) (Op.Pop r ∷ []) (mark l from i)
          (pop_at around f D named top low from i r l fr.at fr.high ground.base v true base_fits i)

      pub int_store : (t : Target) → is_cell t ≡ true → (w : Width) (vr : ℕ) → IntegerTyped around y c f t guard ground site lvalue mode true Use.Write w → Q (number_at t w) (cell_store_code c i r (i + index_width t guard) vr site lvalue mode false t) (mark l from i)
      int_store t is w vr h = framed t (number_at t w) (mark l from i) (cell_store_code c i r (i + index_width t guard) vr site lvalue mode false t) (λ q lt. refl) (λ k. int_store_in t k is w vr h)

      -- a reference, in the register after the base
      module _ (s : StaticType) (fits : IsNamed named r s) (w : ℕ) (b : Bool) where
        abbrev pub reference_at : Target → Mark
        reference_at t = mark (fill (placed t guard ground e i r v l).label (r + base_width t) (Refers s) w b) from (i + index_width t guard)

        abbrev Y : Label
        Y = fill l (r + 0) (Refers s) w b

        abbrev Z : Label
        Z = fill B (r + 1) (Refers s) w b

        env_y : (q : ℕ) → q < top → Y.env q ≡ l.env q
        env_y q lt = let high = fr.high in put_other l.env (r + 0) q (Refers s) (λ z. omega (arith, z, lt, high))

        same_y : (q : ℕ) → q < top → Y.same q ≡ l.same q
        same_y q lt = let high = fr.high in put_other l.same (r + 0) q w (λ z. omega (arith, z, lt, high))

        env_z : (q : ℕ) → q < top → Z.env q ≡ l.env q
        env_z q lt = let high = fr.high in put_other B.env (r + 1) q (Refers s) (λ z. omega (arith, z, lt, high)) ∙ env_base q lt

        same_z : (q : ℕ) → q < top → Z.same q ≡ l.same q
        same_z q lt = let high = fr.high in put_other B.same (r + 1) q w (λ z. omega (arith, z, lt, high)) ∙ same_base q lt

        copy_z : IsPointerCopy y c ground.pointer (Z.same r)
        copy_z = subst (IsPointerCopy y c ground.pointer) (sym (put_other B.same (r + 1) r w (λ z. omega (arith, z)) ∙ put_same l.same r v)) copies

        is_base_z : (Z.env r ≡ Refers ground.base) × (Z.known r ≡ true)
        is_base_z = (put_other B.env (r + 1) r (Refers s) (λ z. omega (arith, z)) ∙ is_base.0, put_other B.known (r + 1) r b (λ z. omega (arith, z)) ∙ is_base.1)

        reference_store_in : (t : Target) → IsInFrame r t → is_cell t ≡ true → w ≤ r + base_width t → (vi : ℕ) → ReferenceTyped around y c f t guard ground site lvalue mode true Use.Write s → Q (reference_at t) (cell_store_code c i r vi (r + base_width t) site lvalue mode true t) (mark l from i)
        reference_store_in (variable x) in_it is small vi h = absurd (false≢true is)
        reference_store_in (in_global g n) in_it is small vi h =
            store_reference_by i (r + 0) l at_zero l.ints (λ j lt. refl) (i + 0) (omega arith) i r site lvalue (in_global g n) (guard_field c.program.typed mode) _ _ (let z = fr.high in omega (arith, z)) s w b (wider_names r (r + 0) s (omega arith) fits) small tt
            (h e i r (over Y l.ints Closed) (placed_by (in_global g n) Y env_y same_y fr.at.owned tt in_it (no_copy Y) l.ints (λ j lt. refl))) [] (mark l from i)
            (none around f D named top low from (mark l from i) (mark l from i) (fits_same around.targets (mark l from i)) (λ z. z))
        reference_store_in (in_global_at g n) in_it is small vi h =
            let ints = ints_of (in_global_at g n) guard ground e i r l.ints in
            store_reference_by i (r + 0) l at_zero ints (λ j lt. ints_below (in_global_at g n) guard ground e i r l.ints j lt) (i + guard_width guard) (omega arith) i r site lvalue (in_global_at g n) (guard_field c.program.typed mode) _ _ (let z = fr.high in omega (arith, z)) s w b
            (wider_names r (r + 0) s (omega arith) fits) small (at_hand (in_global_at g n) guard i r (i + guard_width guard) l fr.early (omega arith))
            (h e i r (over Y ints Closed) (placed_by (in_global_at g n) Y env_y same_y fr.at.owned tt in_it (no_copy Y) ints (λ j lt. refl))) [] (mark l from i)
            (none around f D named top low from (mark l from i) (mark l from i) (fits_same around.targets (mark l from i)) (λ z. z))
        reference_store_in (in_object n) in_it is small vi h =
            store_reference_by i (r + 1) B at_base l.ints (λ j lt. refl) (i + 0) (omega arith) i r site lvalue (in_object n) (guard_field c.program.typed mode) _ _ (let z = fr.high in omega (arith, z)) s w b (wider_names r (r + 1) s (omega arith) fits) small tt
            (h e i r (over Z l.ints Closed) (placed_by (in_object n) Z env_z same_z fr.at.owned is_base_z in_it (λ _. copy_z) l.ints (λ j lt. refl))) (Op.Pop r ∷ []) (mark l from i)
            (pop_at around f D named top low from i r l fr.at fr.high ground.base v true base_fits i)
        reference_store_in (in_object_at n) in_it is small vi h =
            let ints = ints_of (in_object_at n) guard ground e i r l.ints in
            store_reference_by i (r + 1) B at_base ints (λ j lt. ints_below (in_object_at n) guard ground e i r l.ints j lt) (i + guard_width guard) (omega arith) i r site lvalue (in_object_at n) (guard_field c.program.typed mode) _ _ (let z = fr.high in omega (arith, z)) s w b
            (wider_names r (r + 1) s (omega arith) fits) small (at_hand (in_object_at n) guard i r (i + guard_width guard) B fr.early (omega arith))
            (h e i r (over Z ints Closed) (placed_by (in_object_at n) Z env_z same_z fr.at.owned is_base_z in_it (λ _. copy_z) ints (λ j lt. refl))) (Op.Pop r ∷ []) (mark l from i)
            (pop_at around f D named top low from i r l fr.at fr.high ground.base v true base_fits i)

        pub reference_store : (t : Target) → is_cell t ≡ true → w ≤ r + base_width t → (vi : ℕ) → ReferenceTyped around y c f t guard ground site lvalue mode true Use.Write s → Q (reference_at t) (cell_store_code c i r vi (r + base_width t) site lvalue mode true t) (mark l from i)
        reference_store t is small vi h = framed t (reference_at t) (mark l from i) (cell_store_code c i r vi (r + base_width t) site lvalue mode true t) (λ q lt. put_other (based t ground r v l).env (r + base_width t) q (Refers s) (λ z. omega (arith, z, lt))) (λ k. reference_store_in t k is small vi h)
