-- What the machine does to its words and registers is what the proof's world does.
use Rattle.sharc_invariant.proofs.{Imports.{◌≡◌, ℕ, ◌+◌, ◌*◌, ◌<◌, ◌≢◌, true, false, refl, sym, ap, ◌∙◌, subst, ⊎_elim, arith, ◌≤◌, cases_eq, cases_order, Shape, put, granules, put_same, put_other, put_all, GranuleState, Targets, Content, field_in, is_mutex, is_pointer, Integer, TypedReference, Holder, RegisterOf, ArgumentOf, LogOf, Staged, Slot, In, CellOf as Cell, World, in_ref, place, put2, ObjectState, MachineView, Shows, Apart, FitsContent, Reads, shadow_at, count_at, length_at, cell_at, store, set_reg, AreStale, epoch_of}, Effects.{place_same, place_other, place_all}, Listed.{pair_cases, put2_other as put2_away}}

pub put2_at : {A : Type 0} (f : ℕ → ℕ → A) (t i : ℕ) (v : A) → put2 f t i v t i ≡ v
put2_at {A} f t i v = ap (λ (k : ℕ → A). k i) (put_same f t (put (f t) i v)) ∙ put_same (f t) i v

pub put2_off : {A : Type 0} (f : ℕ → ℕ → A) (t i u j : ℕ) (v : A) → (u ≡ t → j ≡ i → ⊥) → f u j ≡ put2 f t i v u j
put2_off {A} f t i u j v ne = ⊎_elim
    (λ (e : u ≡ t). ap (λ u. f u j) e ∙ sym (put_other (f t) i j v (ne e)) ∙ ap (λ (g : ℕ → A). g j) (sym (put_same f t (put (f t) i v))) ∙ ap (λ u. put2 f t i v u j) (sym e))
    (λ (n : u ≡ t → ⊥). ap (λ (g : ℕ → A). g j) (sym (put_other f t u (put (f t) i v) n)))
    (cases_eq u t)

pointer_fits : (h : Content) (v : ℕ) → is_pointer h ≡ true → FitsContent h v
pointer_fits (Integer w) v e = absurd (cc)
pointer_fits _ v e = tt

pub pointer_no_mutex : (h : Content) → is_pointer h ≡ true → is_mutex h ≡ true → ⊥
pointer_no_mutex (Integer w) e f = absurd (cc)
pointer_no_mutex _ e f = absurd (cc)

-- the shadow words are as they were
pub stale_off : (s : Shape) (obj : ℕ → ObjectState) (cells words words' : ℕ → ℕ) (rn wn : ℕ → ℕ → ℕ) → ((p : ℕ) → p < granules s → words (shadow_at s p) ≡ words' (shadow_at s p)) → AreStale s obj cells words rn wn → AreStale s obj cells words' rn wn
stale_off s obj cells words words' rn wn e h p lt none' t =
    let P : ℕ → Type 0 = λ v. (rn t p ≤ epoch_of v) × (wn t p ≤ epoch_of v) in
    subst P (e p lt) (h p lt none' t)

-- a holder outside of objects holds something else, and what is seen of the holders is this
pub holder_stored : (x : Targets) (s : Shape) (cells elements : ℕ → ℕ) (c : MachineView) (w : World) → Shows x s cells elements c w → (a : Holder) (y : TypedReference) (regs : ℕ → ℕ → ℕ) (args : ℕ → ℕ) (logs : ℕ → ℕ → ℕ) (staged : ℕ → ℕ)
    → ((u i : ℕ) → (place w.slots (In a) y (In (RegisterOf u i))).reference ≡ regs u i) → ((u : ℕ) → (place w.slots (In a) y (In (ArgumentOf u))).reference ≡ args u)
    → ((u word : ℕ) → (place w.slots (In a) y (In (LogOf u word))).reference ≡ logs u word) → ((u : ℕ) → (place w.slots (In a) y (In (Staged u))).reference ≡ staged u)
    → Shows x s cells elements (record c { regs = regs; args = args; logs = logs; staged = staged }) (record w { slots = place w.slots (In a) y })
holder_stored x s cells elements c w sim a y regs args logs staged er ea el es = record {
  regs = er;
  args = ea;
  logs = el;
  staged = es;
  pointers = sim.pointers;
  others = sim.others;
  integers = sim.integers;
  counts = sim.counts;
  lengths = sim.lengths;
  mutexes = sim.mutexes;
  shadows = sim.shadows;
  stale = sim.stale;
}

module _ (x : Targets) (s : Shape) (cells elements : ℕ → ℕ) (c : MachineView) (w : World) (sim : Shows x s cells elements c w) (lie : Apart s w.obj cells) where
  -- words of live objects are apart
  pub cell_count : (o p i : ℕ) → (w.obj o).live ≡ true → (w.obj p).live ≡ true → i < cells p → cell_at s p i ≡ count_at s o → ⊥
  cell_count o p i lo lp lt e = ⊎_elim
      (λ (q : o ≡ p). omega arith)
      (⊎_elim (λ (q : o < p). omega arith) (λ (q : p < o). let a = lie.apart p o lp lo q in omega arith))
      (cases_order o p)

  pub cell_length : (o p i : ℕ) → (w.obj o).live ≡ true → (w.obj p).live ≡ true → i < cells p → cell_at s p i ≡ length_at s o → ⊥
  cell_length o p i lo lp lt e = ⊎_elim
      (λ (q : o ≡ p). omega arith)
      (⊎_elim (λ (q : o < p). omega arith) (λ (q : p < o). let a = lie.apart p o lp lo q in omega arith))
      (cases_order o p)

  pub cell_cell : (o i p j : ℕ) → (w.obj o).live ≡ true → (w.obj p).live ≡ true → i < cells o → j < cells p → cell_at s p j ≡ cell_at s o i → (p ≡ o) × (j ≡ i)
  cell_cell o i p j lo lp li lj e = ⊎_elim
      (λ (q : o ≡ p). (sym q, omega arith))
      (⊎_elim (λ (q : o < p). let a = lie.apart o p lo lp q in absurd (omega arith)) (λ (q : p < o). let a = lie.apart p o lp lo q in absurd (omega arith)))
      (cases_order o p)

  -- the count word
  pub count_stored : (o v : ℕ) → (w.obj o).live ≡ true → Shows x s cells elements (store c (count_at s o) v) (record w { count = put w.count o v })
  count_stored o v lo =
      let k = count_at s o in
      let off : (j : ℕ) → (j ≡ k → ⊥) → c.words j ≡ put c.words k v j = λ j ne. sym (put_other c.words k j v ne) in
      record {
        regs = sim.regs;
        args = sim.args;
        logs = sim.logs;
        staged = sim.staged;
        others = sim.others;
        pointers = λ p i lp lt ptr. sim.pointers p i lp lt ptr ∙ off (cell_at s p i) (cell_count o p i lo lp lt);
        integers = λ p i lp lt. subst (FitsContent (field_in x (w.obj p).ty i).holds) (off (cell_at s p i) (cell_count o p i lo lp lt)) (sim.integers p i lp lt);
        counts = λ p nz lp. put_all (λ p n. p ≢ 0 → (w.obj p).live ≡ true → n ≡ put c.words k v (count_at s p)) w.count o v
            (λ _ _. sym (put_same c.words k v))
            (λ p ne nz lp. sim.counts p nz lp ∙ off (count_at s p) (λ e. ne (omega arith))) p nz lp;
        lengths = λ p nz lp. sim.lengths p nz lp ∙ off (length_at s p) (λ e. omega arith);
        mutexes = λ p j lp lt m. sim.mutexes p j lp lt m ∙ off (cell_at s p j) (cell_count o p j lo lp lt);
        shadows = λ p g lp lt. let a = lie.within p g lp lt in subst (λ n. Reads n c.read_notes c.write_notes (p + 1 + g) (w.gran p g)) (off (shadow_at s (p + 1 + g)) (λ e. omega arith)) (sim.shadows p g lp lt);
        stale = stale_off s w.obj cells c.words (put c.words k v) c.read_notes c.write_notes (λ p lt. off (shadow_at s p) (λ e. omega arith)) sim.stale;
      }

  -- a fact of each cell and its word, when the word of one is set
  each_cell : (o i v : ℕ) → (w.obj o).live ≡ true → i < cells o → (P : ℕ → ℕ → ℕ → Type 0) → P o i v → ((p j : ℕ) → (w.obj p).live ≡ true → j < cells p → (p ≡ o → j ≡ i → ⊥) → P p j (c.words (cell_at s p j)))
      → (p j : ℕ) → (w.obj p).live ≡ true → j < cells p → P p j (put c.words (cell_at s o i) v (cell_at s p j))
  each_cell o i v lo li P here old p j lp lj = ⊎_elim
      (λ (e : (p ≡ o) × (j ≡ i)). let Q : ℕ → ℕ → Type 0 = λ p j. P p j (put c.words (cell_at s o i) v (cell_at s p j)) in
      subst (λ p. Q p j) (sym e.0) (subst (Q o) (sym e.1) (subst (P o i) (sym (put_same c.words (cell_at s o i) v)) here)))
      (λ (ne : p ≡ o → j ≡ i → ⊥). subst (P p j) (sym (put_other c.words (cell_at s o i) (cell_at s p j) v (λ e. let q = cell_cell o i p j lo lp li lj e in ne q.0 q.1))) (old p j lp lj ne))
      (pair_cases p o j i)

  -- a cell, where the world has the same elsewhere
  pub set_cell : (o i v : ℕ) → (w.obj o).live ≡ true → i < cells o → (slots : Slot → TypedReference) (mutex : ℕ → ℕ → ℕ) → ((a : Holder) → (slots (In a)).reference ≡ in_ref w a)
      → ((p j : ℕ) → (slots (Cell p j)).reference ≢ 0 → (j < cells p) × (is_pointer (field_in x (w.obj p).ty j).holds ≡ true))
      → (is_pointer (field_in x (w.obj o).ty i).holds ≡ true → (slots (Cell o i)).reference ≡ v) → ((p j : ℕ) → (p ≡ o → j ≡ i → ⊥) → slots (Cell p j) ≡ w.slots (Cell p j)) → FitsContent (field_in x (w.obj o).ty i).holds v
      → (is_mutex (field_in x (w.obj o).ty i).holds ≡ true → mutex o i ≡ v) → ((p j : ℕ) → (p ≡ o → j ≡ i → ⊥) → mutex p j ≡ w.mutex p j)
      → Shows x s cells elements (store c (cell_at s o i) v) (record w { slots = slots; mutex = mutex })
  set_cell o i v lo li slots mutex ins others ptr other fits mx away =
      let k = cell_at s o i in
      let off : (j : ℕ) → (j ≡ k → ⊥) → c.words j ≡ put c.words k v j = λ j ne. sym (put_other c.words k j v ne) in
      record {
        regs = λ t j. ins (RegisterOf t j) ∙ sim.regs t j;
        args = λ t. ins (ArgumentOf t) ∙ sim.args t;
        logs = λ t word. ins (LogOf t word) ∙ sim.logs t word;
        staged = λ t. ins (Staged t) ∙ sim.staged t;
        others = others;
        pointers = each_cell o i v lo li (λ p j n. is_pointer (field_in x (w.obj p).ty j).holds ≡ true → (slots (Cell p j)).reference ≡ n) ptr
            (λ p j lp lj ne z. ap (λ (t : TypedReference). t.reference) (other p j ne) ∙ sim.pointers p j lp lj z);
        integers = each_cell o i v lo li (λ p j n. FitsContent (field_in x (w.obj p).ty j).holds n) fits (λ p j lp lj ne. sim.integers p j lp lj);
        mutexes = each_cell o i v lo li (λ p j n. is_mutex (field_in x (w.obj p).ty j).holds ≡ true → mutex p j ≡ n) mx (λ p j lp lj ne m. away p j ne ∙ sim.mutexes p j lp lj m);
        counts = λ p nz lp. sim.counts p nz lp ∙ off (count_at s p) (λ e. cell_count p o i lp lo li (sym e));
        lengths = λ p nz lp. sim.lengths p nz lp ∙ off (length_at s p) (λ e. cell_length p o i lp lo li (sym e));
        shadows = λ p g lp lt. let a = lie.within p g lp lt in subst (λ n. Reads n c.read_notes c.write_notes (p + 1 + g) (w.gran p g)) (off (shadow_at s (p + 1 + g)) (λ e. omega arith)) (sim.shadows p g lp lt);
        stale = stale_off s w.obj cells c.words (put c.words k v) c.read_notes c.write_notes (λ p lt. off (shadow_at s p) (λ e. omega arith)) sim.stale;
      }

  -- a pointer cell
  pub cell_stored : (o i : ℕ) (y : TypedReference) → (w.obj o).live ≡ true → i < cells o → is_pointer (field_in x (w.obj o).ty i).holds ≡ true
      → Shows x s cells elements (store c (cell_at s o i) y.reference) (record w { slots = place w.slots (Cell o i) y })
  cell_stored o i y lo li ptr = set_cell o i y.reference lo li (place w.slots (Cell o i) y) w.mutex (λ a. ap (λ (t : TypedReference). t.reference) (place_other w.slots (Cell o i) (In a) y (λ e. cc)))
      (λ p j. place_all (λ q (h : TypedReference). (p j : ℕ) → q ≡ Cell p j → h.reference ≢ 0 → (j < cells p) × (is_pointer (field_in x (w.obj p).ty j).holds ≡ true)) w.slots (Cell o i) y
      (λ p j e _. let eo : o ≡ p = cc in let ei : i ≡ j = cc in let P : ℕ → ℕ → Type 0 = λ p j. (j < cells p) × (is_pointer (field_in x (w.obj p).ty j).holds ≡ true) in subst (λ p. P p j) eo (subst (P o) ei (li, ptr)))
      (λ q ne p j e nz. sim.others p j (λ z. nz (ap (λ q. (w.slots q).reference) e ∙ z))) (Cell p j) p j refl)
      (λ _. ap (λ (t : TypedReference). t.reference) (place_same w.slots (Cell o i) y)) (λ p j ne. place_other w.slots (Cell o i) (Cell p j) y (λ e. ne (cc) (cc)))
      (pointer_fits (field_in x (w.obj o).ty i).holds y.reference ptr) (λ m. absurd (pointer_no_mutex (field_in x (w.obj o).ty i).holds ptr m)) (λ p j ne. refl)

  -- an integer's cell
  pub integer_stored : (o i v : ℕ) → (w.obj o).live ≡ true → i < cells o → is_pointer (field_in x (w.obj o).ty i).holds ≡ false → is_mutex (field_in x (w.obj o).ty i).holds ≡ false → FitsContent (field_in x (w.obj o).ty i).holds v
      → Shows x s cells elements (store c (cell_at s o i) v) w
  integer_stored o i v lo li np nm fits = set_cell o i v lo li w.slots w.mutex (λ a. refl) sim.others (λ z. let no : true ≡ false = sym z ∙ np in absurd (cc)) (λ p j ne. refl) fits (λ z. let no : true ≡ false = sym z ∙ nm in absurd (cc)) (λ p j ne. refl)

  -- a granule, with the notes of it
  pub shadow_stored : (o g v : ℕ) (y : GranuleState) (rn wn : ℕ → ℕ → ℕ) → (w.obj o).live ≡ true → 2 * g < cells o → Reads v rn wn (o + 1 + g) y
      → ((u p : ℕ) → (p ≡ o + 1 + g → ⊥) → rn u p ≡ c.read_notes u p) → ((u p : ℕ) → (p ≡ o + 1 + g → ⊥) → wn u p ≡ c.write_notes u p)
      → Shows x s cells elements (record c { words = put c.words (shadow_at s (o + 1 + g)) v; read_notes = rn; write_notes = wn }) (record w { gran = put2 w.gran o g y })
  shadow_stored o g v y rn wn lo lg reads er ew =
      let k = shadow_at s (o + 1 + g) in
      let inside = lie.within o g lo lg in
      let off : (j : ℕ) → (j ≡ k → ⊥) → c.words j ≡ put c.words k v j = λ j ne. sym (put_other c.words k j v ne) in
      record {
        regs = sim.regs;
        args = sim.args;
        logs = sim.logs;
        staged = sim.staged;
        others = sim.others;
        pointers = λ p j lp lt pt. sim.pointers p j lp lt pt ∙ off (cell_at s p j) (λ e. omega arith);
        integers = λ p j lp lt. subst (FitsContent (field_in x (w.obj p).ty j).holds) (off (cell_at s p j) (λ e. omega arith)) (sim.integers p j lp lt);
        counts = λ p nz lp. sim.counts p nz lp ∙ off (count_at s p) (λ e. omega arith);
        lengths = λ p nz lp. sim.lengths p nz lp ∙ off (length_at s p) (λ e. omega arith);
        mutexes = λ p j lp lt m. sim.mutexes p j lp lt m ∙ off (cell_at s p j) (λ e. omega arith);
        shadows = λ p q lp lq. ⊎_elim
            (λ (e : (p ≡ o) × (q ≡ g)).
            let P : ℕ → ℕ → Type 0 = λ p q. Reads (put c.words k v (shadow_at s (p + 1 + q))) rn wn (p + 1 + q) (put2 w.gran o g y p q) in
            let here : P o g = subst (Reads (put c.words k v k) rn wn (o + 1 + g)) (sym (put2_at w.gran o g y)) (subst (λ n. Reads n rn wn (o + 1 + g) y) (sym (put_same c.words k v)) reads) in
            subst (λ p. P p q) (sym e.0) (subst (P o) (sym e.1) here))
            (λ (ne : p ≡ o → q ≡ g → ⊥).
            let apart' : (p + 1 + q ≡ o + 1 + g) → ⊥ = λ z. ⊎_elim
            (λ (i : p ≡ o). ne i (omega arith))
            (⊎_elim (λ (i : p < o). let a = lie.apart p o lp lo i in omega arith) (λ (i : o < p). let a = lie.apart o p lo lp i in omega arith))
            (cases_order p o) in
            let old = sim.shadows p q lp lq in
            let w1 : Reads (put c.words k v (shadow_at s (p + 1 + q))) c.read_notes c.write_notes (p + 1 + q) (w.gran p q) = subst (λ n. Reads n c.read_notes c.write_notes (p + 1 + q) (w.gran p q)) (off (shadow_at s (p + 1 + q)) (λ e. apart' (omega arith))) old in
            let w2 : Reads (put c.words k v (shadow_at s (p + 1 + q))) rn wn (p + 1 + q) (w.gran p q) = record {
              epoch = w1.epoch;
              wrote = w1.wrote;
              has = w1.has;
              read_note = λ u. w1.read_note u ∙ sym (er u (p + 1 + q) apart');
              write_note = λ u. w1.write_note u ∙ sym (ew u (p + 1 + q) apart');
            } in
            subst (Reads (put c.words k v (shadow_at s (p + 1 + q))) rn wn (p + 1 + q)) (put2_off w.gran o g p q y ne) w2)
            (pair_cases p o q g);
        stale = λ p lt none' u.
            let ne : p ≡ o + 1 + g → ⊥ = λ e. none' o g lo lg e in
            let P : ℕ → Type 0 = λ v. (c.read_notes u p ≤ epoch_of v) × (c.write_notes u p ≤ epoch_of v) in
            let a = subst P (off (shadow_at s p) (λ e. ne (omega arith))) (sim.stale p lt none' u) in
            let E = epoch_of (put c.words k v (shadow_at s p)) in
            (subst (λ n. n ≤ E) (sym (er u p ne)) a.0, subst (λ n. n ≤ E) (sym (ew u p ne)) a.1);
      }

  -- a register
  pub reg_stored : (t i : ℕ) (y : TypedReference) → Shows x s cells elements (set_reg c t i y.reference) (record w { slots = place w.slots (In (RegisterOf t i)) y })
  reg_stored t i y =
      let own : (a : Holder) → ((u j : ℕ) → a ≡ RegisterOf u j → ⊥) → (place w.slots (In (RegisterOf t i)) y (In a)).reference ≡ in_ref w a = λ a ne. ap (λ (h : TypedReference). h.reference) (place_other w.slots (In (RegisterOf t i)) (In a) y (λ e. ne t i (cc))) in
      holder_stored x s cells elements c w sim (RegisterOf t i) y (put2 c.regs t i y.reference) c.args c.logs c.staged
      (λ u j. place_all (λ s (h : TypedReference). (u j : ℕ) → s ≡ In (RegisterOf u j) → h.reference ≡ put2 c.regs t i y.reference u j) w.slots (In (RegisterOf t i)) y
      (λ u j e. let eu : u ≡ t = sym (cc) in let ej : j ≡ i = sym (cc) in sym (put_same (c.regs t) i y.reference) ∙ ap (λ (f : ℕ → ℕ). f i) (sym (put_same c.regs t (put (c.regs t) i y.reference))) ∙ ap (λ u. put2 c.regs t i y.reference u i) (sym eu) ∙ ap (put2 c.regs t i y.reference u) (sym ej))
      (λ s ne u j e. ap (λ s. (w.slots s).reference) e ∙ sim.regs u j ∙ put2_away c.regs t i y.reference u j (λ q k. ne (e ∙ ap In (ap (λ u. RegisterOf u j) q ∙ ap (λ j. RegisterOf t j) k)))) (In (RegisterOf u j)) u j refl)
      (λ u. own (ArgumentOf u) (λ u j e. cc) ∙ sim.args u)
      (λ u word. own (LogOf u word) (λ u j e. cc) ∙ sim.logs u word)
      (λ u. own (Staged u) (λ u j e. cc) ∙ sim.staged u)

  -- what a Free has found and not lowered
  pub staged_stored : (t : ℕ) (y : TypedReference) → Shows x s cells elements (record c { staged = put c.staged t y.reference }) (record w { slots = place w.slots (In (Staged t)) y })
  staged_stored t y = holder_stored x s cells elements c w sim (Staged t) y c.regs c.args c.logs (put c.staged t y.reference) sim.regs sim.args sim.logs
      (λ u. put_all (λ u n. (place w.slots (In (Staged t)) y (In (Staged u))).reference ≡ n) c.staged t y.reference
      (ap (λ (h : TypedReference). h.reference) (place_same w.slots (In (Staged t)) y)) (λ u ne. ap (λ (h : TypedReference). h.reference) (place_other w.slots (In (Staged t)) (In (Staged u)) y (λ e. ne (cc))) ∙ sim.staged u) u)
