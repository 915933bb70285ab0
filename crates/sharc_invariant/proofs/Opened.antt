-- The invariant holds where no turn was made.
use Rattle.sharc_invariant.proofs.{Imports.{◌≡◌, ℕ, pos, ◌+◌, ◌-◌, ◌*◌, ◌^◌, ◌<◌, ◌≤◌, ◌≢◌, ◌&&◌, true, false, cond, List, [], refl, sym, ap, ◌∙◌, subst, inl, ⊎_elim, arith, eqb-true, ltb-true, cases_eq, cases_lt, and_parts, nat_tests, get_or_past, get_or-map-range_with_len, length-map-range_with_len, length, slice_index, nat_eq, nat_lt, nat_le, ◌==◌, replicate, if◌then◌else◌, THREADS, note_of, blank, IsBlank, epoch_of, Kind, Read, Write, GranuleNotes, Code, Shape, Parameter, FRAMES, int_of, Fits, words_of, granules, state_word, function_word, argument_word, next_thread_word, top_word, opening_words, opens_with, opening_cell, first_global, first_heap_word, Machine, function_of, most_refs, Global, is_started, bounds, Targets, ObjectType, Content, Field, field_in, global_field, type_at, is_mutex, is_pointer, nothing, Integer, Entry, Empty, Refers, Unknown, Labels, Anything, IsWellTyped, Initial, In, CellOf as Cell, Slot, ObjectState, World, WorldInvariant, if_reference, note_number, conc_of, Shows, FitsContent, Reads, argument_of, cell_at, lang_of, NumberStands, State, ThreadStands, Locks, Threads, Firsts, HeapStands, EntryStands, size_of_run, first_slots, no_object, fresh_granule, first_world, first_heap, first_place, ne_eq, eq_refl}, Plain.register_plain, Begun.{begun_stands, nth_replicate}}

-- ---- the opening words
module _ (code : Code) (s : Shape) where
  word_is : (i : ℕ) → i < words_of s → slice_index (opening_words code s) i ≡ opens_with code s i
  word_is i lt = get_or-map-range_with_len (opens_with code s) 0 (words_of s) i i 0 lt (omega arith)

  word_past : (i : ℕ) → words_of s ≤ i → slice_index (opening_words code s) i ≡ 0
  word_past i le = let e = length-map-range_with_len (opens_with code s) 0 (words_of s) in get_or_past (opening_words code s) i 0 (omega arith)

  high_is : (i : ℕ) → 6 ≤ i → opens_with code s i ≡ opening_cell code s i
  high_is i le =
      let a : (i == 1) ≡ false = ne_eq i 1 (λ e. omega arith) in
      let b : (i == 2) ≡ false = ne_eq i 2 (λ e. omega arith) in
      let c : (i == 4) ≡ false = ne_eq i 4 (λ e. omega arith) in
      let d : (i == 5) ≡ false = ne_eq i 5 (λ e. omega arith) in
      rw (a, b, c, d) refl

  cell_is : (i : ℕ) → first_global s ≤ i → i < first_heap_word s → opening_cell code s i ≡ slice_index code.initial.items (i - first_global s)
  cell_is i a b =
      let p : nat_le (first_global s) i ≡ true = grind (arith, nat_tests) in
      let q : nat_lt i (first_heap_word s) ≡ true = grind (arith, nat_tests) in
      rw (p, q) refl

  cell_low : (i : ℕ) → i < first_global s → opening_cell code s i ≡ 0
  cell_low i a = let p : nat_le (first_global s) i ≡ false = grind (arith, nat_tests) in rw p refl

  cell_high : (i : ℕ) → first_heap_word s ≤ i → opening_cell code s i ≡ 0
  cell_high i a =
      let q : nat_lt i (first_heap_word s) ≡ false = grind (arith, nat_tests) in
      elim (nat_le (first_global s) i) as (λ b. cond (b && nat_lt i (first_heap_word s)) (slice_index code.initial.items (i - first_global s)) 0 ≡ 0) [ true ↦ rw q refl | false ↦ refl ]

initial_fits : (h : Content) (v : ℕ) → Initial h v → FitsContent h v
initial_fits (Integer w) v e = e
initial_fits _ v e = tt

initial_null : (h : Content) (v : ℕ) → is_pointer h ≡ true → Initial h v → v ≡ 0
initial_null (Integer w) v p e = absurd (cc)
initial_null _ v p e = e

initial_free : (h : Content) (v : ℕ) → is_mutex h ≡ true → Initial h v → v ≡ 0
initial_free (Integer w) v p e = absurd (cc)
initial_free _ v p e = e

reference_zero : (p : Parameter) → if_reference p 0 ≡ 0
reference_zero Parameter.Int = refl
reference_zero _ = refl

note_zero : (n g : ℕ) (kind : Kind) → note_number (note_of (record { notes = replicate n blank; order = [] }) g kind) ≡ 0
note_zero n g Read = ap (λ (r : GranuleNotes). note_number r.read) (nth_replicate n g blank)
note_zero n g Write = ap (λ (r : GranuleNotes). note_number r.write) (nth_replicate n g blank)

null_slot : (x : Targets) (a : Slot) → (first_slots x a).reference ≡ 0
null_slot x (In a) = refl
null_slot x (Cell o i) = refl

module _ (x : Targets) (code : Code) (s : Shape) (ls : Labels) (wt : IsWellTyped x code ls) (fits : Fits code s) (zeros : IsBlank 0) where
  abbrev w0 : World
  w0 = first_world x

  abbrev g0 : Global Machine
  g0 = first_place code s

  abbrev words : List ℕ
  words = opening_words code s

  obj_other : (o : ℕ) → o ≢ 0 → w0.obj o ≡ no_object
  obj_other o nz = rw (ne_eq o 0 nz) refl

  dead : (o : ℕ) → o ≢ 0 → (w0.obj o).live ≡ true → ⊥
  dead o nz l = let e : (w0.obj o).live ≡ false = ap (λ (y : ObjectState). y.live) (obj_other o nz) in cc

  only_globals : (P : ℕ → Type 0) → P 0 → (o : ℕ) → (w0.obj o).live ≡ true → P o
  only_globals P h o l = ⊎_elim (λ (e : o ≡ 0). subst P (sym e) h) (λ (nz : o ≡ 0 → ⊥). absurd (dead o nz l)) (cases_eq o 0)

  abbrev cells0 : ℕ → ℕ
  cells0 o = if o == 0 then 2 * s.globals else 0

  abbrev elements0 : ℕ → ℕ
  elements0 o = 0

  field_zero : (i : ℕ) → field_in x (w0.obj 0).ty i ≡ global_field x i
  field_zero i = rw (eq_refl (length x.rows), field_in) refl

  -- a cell of the globals
  global_word : (i : ℕ) → i < 2 * s.globals → slice_index words (cell_at s 0 i) ≡ slice_index code.initial.items i
  global_word i lt =
      word_is code s (cell_at s 0 i) (omega arith) ∙ high_is code s (cell_at s 0 i) (omega arith) ∙ cell_is code s (cell_at s 0 i) (omega arith) (omega arith)
      ∙ ap (slice_index code.initial.items) (let e : cell_at s 0 i - first_global s ≡ i = omega arith in e)

  pub shadow_zero : (i : ℕ) → i < granules s → slice_index words (97 + i) ≡ 0
  shadow_zero i lt = word_is code s (97 + i) (omega arith) ∙ high_is code s (97 + i) (omega arith) ∙ cell_low code s (97 + i) (omega arith)

  initial_at : (i : ℕ) → Initial (field_in x (w0.obj 0).ty i).holds (slice_index code.initial.items i)
  initial_at i = subst (λ (f : Field). Initial f.holds (slice_index code.initial.items i)) (sym (field_zero i)) (wt.globals.initial i)

  state_word_is : (t : ℕ) → t < THREADS → t ≢ 0 → slice_index words (state_word t) ≡ 0
  state_word_is t lt nz =
      word_is code s (state_word t) (omega arith) ∙ high_is code s (state_word t) (omega arith) ∙ cell_low code s (state_word t) (omega arith)

  no_argument : (t : ℕ) → argument_of code g0 t ≡ 0
  no_argument t = elim (nat_lt t THREADS) as (λ b. nat_lt t THREADS ≡ b → cond ((b && (slice_index words (state_word t) == 1)) && true) (if_reference (function_of code (slice_index words (function_word t))).parameter (slice_index words (argument_word t))) 0 ≡ 0) [
    | true ↦ λ e.
        let lt : t < THREADS = ltb-true t THREADS e in
        let z : slice_index words (argument_word t) ≡ 0 = word_is code s (argument_word t) (omega arith) ∙ high_is code s (argument_word t) (omega arith) ∙ cell_low code s (argument_word t) (omega arith) in
        let q : if_reference (function_of code (slice_index words (function_word t))).parameter (slice_index words (argument_word t)) ≡ 0 = ap (if_reference (function_of code (slice_index words (function_word t))).parameter) z ∙ reference_zero (function_of code (slice_index words (function_word t))).parameter in
        elim ((slice_index words (state_word t) == 1) && true) as (λ b. cond b (if_reference (function_of code (slice_index words (function_word t))).parameter (slice_index words (argument_word t))) 0 ≡ 0) [ true ↦ q | false ↦ refl ]
    | false ↦ λ e. refl
  ] refl

  opened_sim : Shows x s cells0 elements0 (conc_of code g0) w0
  opened_sim = record {
    regs = λ t i. sym (register_plain code (g0.threads t) refl i ∙ nth_replicate (FRAMES * most_refs code.functions.items) i 0);
    args = λ t. sym (no_argument t);
    logs = λ t word. refl;
    staged = λ t. refl;
    pointers = λ o i l lt p. only_globals (λ o. i < cells0 o → is_pointer (field_in x (w0.obj o).ty i).holds ≡ true → 0 ≡ slice_index words (cell_at s o i))
        (λ lt p. sym (global_word i lt ∙ initial_null (field_in x (w0.obj 0).ty i).holds (slice_index code.initial.items i) p (initial_at i))) o l lt p;
    others = λ o i nz. absurd (nz refl);
    integers = λ o i l lt. only_globals (λ o. i < cells0 o → FitsContent (field_in x (w0.obj o).ty i).holds (slice_index words (cell_at s o i)))
        (λ lt. subst (FitsContent (field_in x (w0.obj 0).ty i).holds) (sym (global_word i lt)) (initial_fits (field_in x (w0.obj 0).ty i).holds (slice_index code.initial.items i) (initial_at i))) o l lt;
    counts = λ o nz l. absurd (dead o nz l);
    lengths = λ o nz l. absurd (dead o nz l);
    mutexes = λ o i l lt p. only_globals (λ o. i < cells0 o → is_mutex (field_in x (w0.obj o).ty i).holds ≡ true → 0 ≡ slice_index words (cell_at s o i))
        (λ lt p. sym (global_word i lt ∙ initial_free (field_in x (w0.obj 0).ty i).holds (slice_index code.initial.items i) p (initial_at i))) o l lt p;
    shadows = λ o g l lt. only_globals (λ o. 2 * g < cells0 o → Reads (slice_index words (97 + (o + 1 + g))) (conc_of code g0).read_notes (conc_of code g0).write_notes (o + 1 + g) fresh_granule)
        (λ lt. subst (λ v. Reads v (conc_of code g0).read_notes (conc_of code g0).write_notes (0 + 1 + g) fresh_granule) (sym (shadow_zero (0 + 1 + g) (omega arith))) (record {
          epoch = sym zeros.epoch;
          wrote = sym zeros.written;
          has = λ t. sym (zeros.threads t);
          read_note = λ t. sym (note_zero (granules s) (0 + 1 + g) Read);
          write_note = λ t. sym (note_zero (granules s) (0 + 1 + g) Write);
        })) o l lt;
    stale = λ p lt none' t.
        let a : (conc_of code g0).read_notes t p ≡ 0 = note_zero (granules s) p Read in
        let b : (conc_of code g0).write_notes t p ≡ 0 = note_zero (granules s) p Write in
        (omega arith, omega arith);
  }

  starts_zero : (t : ℕ) → is_started bounds words t ≡ true → t ≡ 0
  starts_zero t e = ⊎_elim (λ z. z) (λ (nz : t ≡ 0 → ⊥).
      let p = and_parts (nat_lt t THREADS) (nat_eq (slice_index words (state_word t)) 1) e in
      let a : slice_index words (state_word t) ≡ 1 = eqb-true (slice_index words (state_word t)) 1 p.1 in
      let b = state_word_is t (ltb-true t THREADS p.0) nz in absurd (omega arith)) (cases_eq t 0)

  state_zero : slice_index words (state_word 0) ≡ 1
  state_zero = word_is code s 4 (omega arith)

  function_zero : slice_index words (function_word 0) ≡ code.main
  function_zero = word_is code s 5 (omega arith)

  next_one : slice_index words next_thread_word ≡ 1
  next_one = word_is code s 2 (omega arith)

  top_is : slice_index words top_word ≡ 1 + s.globals
  top_is = word_is code s 1 (omega arith)

  null_stands : (e : Entry) → EntryStands (λ r. 0) (λ r. nothing) 0 e
  null_stands Empty = refl
  null_stands Unknown = tt
  null_stands (Refers ty) = λ ne. absurd (ne refl)

  opened_heap : HeapStands s cells0 g0 w0.obj (first_heap code s)
  opened_heap = record {
    kept = record {
      blocks = record { some = omega arith; apart = λ h p nz. absurd (nz refl); within = λ h nz. absurd (nz refl); known = λ h e. refl; low = omega arith };
      lists = record { head = λ t k. inl (refl, refl); link = λ h t d e. absurd (cc); low = λ h t d e. absurd (cc); one = λ h p t d e. absurd (cc) };
      blank = λ at le. ⊎_elim
          (λ (lt : at < words_of s). word_is code s at lt ∙ high_is code s at (omega arith) ∙ cell_high code s at (omega arith))
          (λ (ge : words_of s ≤ at). word_past code s at ge) (cases_lt at (words_of s));
    };
    words = λ i. refl;
    top = sym top_is;
    within = omega arith;
    heads = λ t k lt lk. sym (nth_replicate 16 k 0);
    powers = λ h nz. absurd (nz refl);
    live = λ o nz. ((λ l. absurd (dead o nz l)), λ e. absurd (cc));
    room = λ o nz l. absurd (dead o nz l);
    sizes = λ o nz l. absurd (dead o nz l);
  }

  opened_locks : Locks x s cells0 w0 g0
  opened_locks = record { held = λ t o j lt l c m. ((λ e. absurd (omega arith)), λ e. absurd (cc)); logged = λ t h c. absurd (let l = c.1 in omega arith); few = λ o j t e. absurd (omega arith); only = λ o j ne. absurd (ne refl) }

  opened_thread : (t : ℕ) → ThreadStands x code s ls elements0 w0 (first_heap code s) g0 t
  opened_thread t = begun_stands x code s ls wt elements0 w0 (first_heap code s) g0 t refl (λ r. refl) refl

  opened_threads : Threads code ls w0 g0
  opened_threads = record {
    few = λ t e. let z = starts_zero t e in omega arith;
    started = λ t lt. (
      (λ e. ⊎_elim (λ (z : t ≡ 0). absurd (let a : slice_index words (state_word 0) ≡ 0 = subst (λ t. slice_index words (state_word t) ≡ 0) z e in let b = state_zero in omega arith))
          (λ (nz : t ≡ 0 → ⊥). ap (λ v. nat_lt t THREADS && nat_eq v 1) e ∙ (elim (nat_lt t THREADS) as (λ b. (b && false) ≡ false) [ true ↦ refl | false ↦ refl ])) (cases_eq t 0)),
      λ e. ⊎_elim (λ (z : t ≡ 0). absurd (
          let a : is_started bounds words t ≡ true = ap (is_started bounds words) z ∙ ap (λ v. nat_eq v 1) state_zero in cc))
          (λ (nz : t ≡ 0 → ⊥). state_word_is t lt nz) (cases_eq t 0),
    );
    given = λ t lt ne. ⊎_elim (λ (z : t ≡ 0). let a = next_one in omega arith) (λ (nz : t ≡ 0 → ⊥). absurd (ne (state_word_is t lt nz))) (cases_eq t 0);
    function = λ t lt e. ⊎_elim (λ (z : t ≡ 0). ap (λ t. ls.starts (slice_index words (function_word t))) z ∙ ap ls.starts function_zero ∙ wt.main)
        (λ (nz : t ≡ 0 → ⊥). absurd (let a = state_word_is t lt nz in omega arith)) (cases_eq t 0);
    argument = λ t lt. null_stands ((ls.signature (slice_index words (function_word t))).takes 0);
    one = λ t u n a b. absurd a;
  }

  opened_firsts : Firsts x ls g0
  opened_firsts =
      let only : (t : ℕ) → t < THREADS → slice_index words (state_word t) ≡ 1 → t ≡ 0 = λ t lt e. ⊎_elim (λ z. z) (λ (nz : t ≡ 0 → ⊥). absurd (let a = state_word_is t lt nz in omega arith)) (cases_eq t 0) in
      let any : (ls.signature (slice_index words (function_word 0))).takes_ints 0 ≡ Anything = ap (λ f. (ls.signature f).takes_ints 0) function_zero ∙ wt.main_number in
      let at : (t : ℕ) → t ≡ 0 → (ls.signature (slice_index words (function_word t))).takes_ints 0 ≡ Anything = λ t z. ap (λ t. (ls.signature (slice_index words (function_word t))).takes_ints 0) z ∙ any in
      record {
        unread = λ t lt on first. ap (λ t. slice_index words (state_word t)) (starts_zero t on) ∙ state_zero;
        alone = λ t lt e _. only t lt e;
        number = λ t lt e. subst (NumberStands x (λ o. 0) (λ r. 0) (λ r. nothing) (λ n. pos 0) (int_of (slice_index words (argument_word t)))) (sym (at t (only t lt e))) tt;
        spawns = λ t n h. absurd h;
        few = (let e = next_one in omega arith);
      }

  -- what the opening words hold is words
  small_words : (i : ℕ) → slice_index words i < 2 ^ 64
  small_words i = ⊎_elim
      (λ (lt : i < words_of s). subst (λ n. n < 2 ^ 64) (sym (word_is code s i lt))
      (elim (i == 1) as (λ b. cond b (1 + s.globals) (cond (i == 2) 1 (cond (i == 4) 1 (cond (i == 5) code.main (opening_cell code s i)))) < 2 ^ 64) [
        | true ↦ let a = fits.globals in let b = wt.globals.few in omega arith
        | false ↦ elim (i == 2) as (λ b. cond b 1 (cond (i == 4) 1 (cond (i == 5) code.main (opening_cell code s i))) < 2 ^ 64) [
          | true ↦ omega arith
          | false ↦ elim (i == 4) as (λ b. cond b 1 (cond (i == 5) code.main (opening_cell code s i)) < 2 ^ 64) [
            | true ↦ omega arith
            | false ↦ elim (i == 5) as (λ b. cond b code.main (opening_cell code s i) < 2 ^ 64) [
              | true ↦ wt.main_is
              | false ↦ elim (nat_le (first_global s) i && nat_lt i (first_heap_word s)) as (λ b. cond b (slice_index code.initial.items (i - first_global s)) 0 < 2 ^ 64) [ true ↦ wt.globals.words (i - first_global s) | false ↦ omega arith ]
            ]
          ]
        ]
      ]))
      (λ (ge : words_of s ≤ i). let e = word_past code s i ge in omega arith) (cases_lt i (words_of s))

  opened_inv : WorldInvariant (size_of_run code s) (lang_of x) w0
  opened_inv = record {
    words = record {
      counts = λ o nz l. absurd (dead o nz l);
      inside = λ a nz. absurd (nz (null_slot x a));
      fits = λ a nz. absurd (nz (null_slot x a));
      cells = λ o i l. only_globals (λ o. (w0.slots (Cell o i)).ty ≡ type_at x (w0.obj o).ty o i) refl o l;
      dead = λ o i e. refl;
      kinds = λ o l. only_globals (λ o. (w0.obj o).ty ≡ nothing → ⊥) (λ e. let q : length x.rows ≡ 0 = ap (λ (t : ObjectType). t.target) e in let z = wt.targets.first in omega arith) o l;
    };
    bits = λ o g. record { low = λ t. ⊎_elim (λ e. absurd (omega arith)) (λ e. absurd (omega arith)); read_low = λ t. omega arith; write_low = λ t. omega arith; bit = λ t. ⊎_elim (λ e. absurd (omega arith)) (λ e. absurd (omega arith)); written = λ t e. absurd (omega arith); alone = λ t u e _. absurd (omega arith) };
    wins = λ t. tt;
  }

  pub opened : State x code s ls g0 w0
  opened = record {
    cells = cells0;
    elements = elements0;
    heap = first_heap code s;
    inv = opened_inv;
    sim = opened_sim;
    apart = record { apart = λ o p lo lp lt. absurd (dead p (omega arith) lp); within = λ o g l lt. only_globals (λ o. 2 * g < cells0 o → o + 1 + g < granules s) (λ lt. omega arith) o l lt; headers = λ o l. only_globals (λ o. o < granules s) (omega arith) o l };
    heap_stands = opened_heap;
    locks = opened_locks;
    threads = opened_thread;
    begins = opened_threads;
    firsts = opened_firsts;
    globals = refl;
    globals_cells = refl;
    rows = λ o nz l. absurd (dead o nz l);
    whole = λ o nz l. absurd (dead o nz l);
    length_is = length-map-range_with_len (opens_with code s) 0 (words_of s);
    are_words = small_words;
    epochs = λ i lt. let e = ap epoch_of (shadow_zero i lt) ∙ zeros.epoch in omega arith;
    few = λ t. omega arith;
  }
