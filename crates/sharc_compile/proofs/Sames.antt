-- What is the same in a machine of code and in a thread of guarded code, and stays so where both write the same.
use Rattle.sharc_compile.proofs.{Imports.{◌≡◌, ℕ, ℤ, ◌+◌, ◌-◌, ◌*◌, ◌<◌, inl, inr, List, refl, sym, ap, ◌∙◌, subst, arith, slice_index, get_or as slice_index_or, slice_set, ◌==◌, lt-ltb, CellAt, CellMode, Code, PlaceMode, LockedThrough, LockedLoaded, Cell, Global, GlobalAt, InObject, ObjectAt, Instr, Shape, FRAMES, word_of, first_cell, words_of, word_at, Machine, int, ref, set_int, set_ref, place, object, is_of_null, most_ints, most_refs, cell_at, mode_of, no_global, made_cell, IsInGlobal, NULL, is_null, number_of, Program, Thread, program_over, Elements, Has, IsThere, AreInts, AreRefs, IsReference, IsCell, Same}, Registers.{int_written, ref_written, no_reference, retabled, null_of, number_from, through_is}}
use Rattle.sharc_guard.specs.Machine as Form

abbrev pub all_ints : Code → ℕ
all_ints code = FRAMES * most_ints code.functions.items

abbrev pub all_refs : Code → ℕ
all_refs code = FRAMES * most_refs code.functions.items

module _ (code : Code) (s : Shape) (T : Elements) (m : Machine) (a : Thread) (h : Same code s T m a) where
  pub int_is : (r : ℕ) → Form.int a r ≡ int m r
  int_is r = ap (λ k. a.ints (k + r)) h.from_ints ∙ h.in_ints.are (m.at.ints + r)

  pub ref_is : (r : ℕ) → IsReference T (ref m r) (Form.ref a r)
  ref_is r = subst (λ k. IsReference T (ref m r) (a.refs (k + r))) (sym h.from_refs) (h.in_refs.are (m.at.refs + r))

  pub null_at : (r : ℕ) → is_null (Form.ref a r) ≡ (ref m r == 0)
  null_at r = null_of T (ref m r) (Form.ref a r) (ref_is r)

  pub number_at : (r : ℕ) → number_of (Form.ref a r) ≡ ref m r
  number_at r = number_from T (ref m r) (Form.ref a r) (ref_is r)

  pub pending_null : is_null a.pending ≡ (m.pending == 0)
  pending_null = null_of T m.pending a.pending h.loaded

  pub pending_number : number_of a.pending ≡ m.pending
  pending_number = number_from T m.pending a.pending h.loaded

  pub set_int_same : (r : ℕ) (v v' : ℤ) → v' ≡ v → a.ints_from + r < all_ints code → Same code s T (set_int m r v) (Form.set_int a r v')
  set_int_same r v v' e lt = record {
    from_ints = h.from_ints;
    from_refs = h.from_refs;
    in_ints = subst (λ k. AreInts (slice_set m.ints (k + r) v) (all_ints code) (Form.set_int a r v').ints) h.from_ints (int_written m.ints (all_ints code) a.ints (a.ints_from + r) v v' e lt h.in_ints);
    in_refs = h.in_refs;
    loaded = h.loaded;
    slot_count = h.slot_count;
    in_frames = h.in_frames;
    in_log = h.in_log;
    function_is = h.function_is;
  }

  pub set_ref_same : (r n : ℕ) (v : ℤ) → IsReference T n v → a.refs_from + r < all_refs code → Same code s T (set_ref m r n) (Form.set_ref a r v)
  set_ref_same r n v k lt = record {
    from_ints = h.from_ints;
    from_refs = h.from_refs;
    in_ints = h.in_ints;
    in_refs = subst (λ f. AreRefs T (slice_set m.refs (f + r) n) (all_refs code) (Form.set_ref a r v).refs) h.from_refs (ref_written T m.refs (all_refs code) a.refs (a.refs_from + r) n v k lt h.in_refs);
    loaded = h.loaded;
    slot_count = h.slot_count;
    in_frames = h.in_frames;
    in_log = h.in_log;
    function_is = h.function_is;
  }

  pub null_same : (r : ℕ) → a.refs_from + r < all_refs code → Same code s T (set_ref m r 0) (Form.set_ref a r NULL)
  null_same r lt = set_ref_same r 0 NULL (no_reference T) lt

  pub pending_same : (n : ℕ) (v : ℤ) → IsReference T n v → Same code s T record m { pending = n } record a { pending = v }
  pending_same n v k = record {
    from_ints = h.from_ints;
    from_refs = h.from_refs;
    in_ints = h.in_ints;
    in_refs = h.in_refs;
    loaded = k;
    slot_count = h.slot_count;
    in_frames = h.in_frames;
    in_log = h.in_log;
    function_is = h.function_is;
  }

  -- ---- cells
  pub null_cell : (cell : Cell) → Form.is_of_null a cell ≡ is_of_null m cell
  null_cell (Global g c) = refl
  null_cell (GlobalAt g r) = refl
  null_cell (InObject r c) = null_at r
  null_cell (ObjectAt r at) = null_at r

  pub base_is : (cell : Cell) → IsReference T (object m cell) (Form.base_of a cell)
  base_is (Global g c) = no_reference T
  base_is (GlobalAt g r) = no_reference T
  base_is (InObject r c) = ref_is r
  base_is (ObjectAt r at) = ref_is r

  module _ (statements : List Instr) where
    abbrev p : Program
    p = program_over code statements

    pub cell_is : (cell : Cell) → Form.cell_at p a cell ≡ cell_at code m cell
    cell_is (Global g c) = refl
    cell_is (GlobalAt g r) = ap (λ z. Form.global_at p g (word_of z)) (int_is r)
    cell_is (InObject r c) = ap (λ n. made_cell n c) (number_at r)
    cell_is (ObjectAt r at) = ap (λ n. made_cell n (word_of (Form.int a at))) (number_at r) ∙ ap (λ z. made_cell (ref m r) (word_of z)) (int_is at)

    pub mode_is : (c : CellAt) (mode : PlaceMode) → Form.mode_of p a c mode ≡ mode_of code m c mode
    mode_is c (LockedThrough r place) = ap CellMode.Locked (through_is T (ref m r) place (Form.ref a r) (ref_is r))
    mode_is c LockedLoaded = ap CellMode.Locked (through_is T m.pending 0 a.pending h.loaded)
    mode_is c _ = refl

    -- a global's cell is at its place
    in_global : (g place : ℕ) → IsInGlobal code.globals.items g place → IsCell code.globals.items 0 place (Form.global_at p g place)
    in_global g place k =
        let low = k.low in
        let e : 2 * (slice_index_or code.globals.items g no_global).granule + (place - 2 * (slice_index_or code.globals.items g no_global).granule) ≡ place = omega arith in
        record { number_is = refl; place_is = e; known = subst (IsInGlobal code.globals.items g) (sym e) k }

    pub is_cell : (cell : Cell) → IsThere code m cell → IsCell code.globals.items (object m cell) (place m cell) (Form.cell_at p a cell)
    is_cell cell k = subst (IsCell code.globals.items (object m cell) (place m cell)) (sym (cell_is cell)) (there cell k)
      where
        there : (cell : Cell) → IsThere code m cell → IsCell code.globals.items (object m cell) (place m cell) (cell_at code m cell)
        there (Global g c) k = in_global g c k
        there (GlobalAt g r) k = in_global g (word_of (int m r)) k
        there (InObject r c) k = record { number_is = refl; place_is = refl; known = k }
        there (ObjectAt r at) k = record { number_is = refl; place_is = refl; known = k }

  pub word_is : (place : ℕ) → first_cell s + place < words_of s → word_at s (first_cell s + place) ≡ first_cell s + place
  word_is place lt = rw (lt-ltb (first_cell s + place) (words_of s) lt) refl

  -- ---- with other elements
  pub same_retabled : (T' : Elements) → ((n : ℕ) → 0 < n → Has m n → T' n ≡ T n) → Same code s T' m a
  same_retabled T' k = record {
    from_ints = h.from_ints;
    from_refs = h.from_refs;
    in_ints = h.in_ints;
    in_refs = record {
      count = h.in_refs.count;
      are = λ i. retabled T T' (slice_index m.refs i) (a.refs i) (h.in_refs.are i) (λ lt. k (slice_index m.refs i) lt (inl (i, refl)));
    };
    loaded = retabled T T' m.pending a.pending h.loaded (λ lt. k m.pending lt (inr refl));
    slot_count = h.slot_count;
    in_frames = h.in_frames;
    in_log = h.in_log;
    function_is = h.function_is;
  }
