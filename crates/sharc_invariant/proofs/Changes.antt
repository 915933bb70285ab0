-- A turn that changes an object, a block or what the thread is in the middle of: what it leaves of the invariant is the same for all.
use Rattle.sharc_invariant.proofs.{Imports.{◌≡◌, ℕ, ◌+◌, ◌*◌, ◌^◌, ◌<◌, ◌≤◌, ◌≢◌, true, false, List, refl, sym, ap, ◌∙◌, subst, inl, fun_ext, length, slice_index, ◌==◌, THREADS, HeldMutex, IsHeldLog, object_of, Read, Write, Kind, epoch_of, Code, Shape, granules, Machine, reference_of, may_go, counted, Global, put, put_all, sum_to, Targets, cells_of, Labels, IsWellTyped, RegisterOf, ArgumentOf, In, World, in_ref, WorldInvariant, Heap, conc_of, Shows, Apart, register_of, argument_of, staged_of, noted_by, logged, lang_of, made_turn, made_conc, KeepsOthers, StopStands, State, HeapStands, Locks, Runs, SpawnsNow, size_of_run, Kept, ObjectState, top_word, first_cell, head_of}, TurnAt.thread_at, Quiet.{firsts_stay, reserves_kept, threads_stand, function_stays, argument_stays, begins_stay, started_stay, args_stay, heap_now, heap_stays, locks_same, thread_kept, KeepsSizes, part_put, part_same}}

-- what the thread of the turn keeps for itself
pub record KeepsPart (m m' : Machine) : Type 0 where
  pub sizes : KeepsSizes m m'
  pub held : m'.own.held ≡ m.own.held
  pub heads : length m'.own.heads ≡ length m.own.heads
  pub spawns : (n : ℕ) → SpawnsNow m'.own.stage n → SpawnsNow m.own.stage n
  pub begun_before : (m.at.pc == 0) ≡ false
  pub begun : (m'.at.pc == 0) ≡ false

-- and the words
pub record KeepsLow (old new : List ℕ) : Type 0 where
  pub count : length new ≡ length old
  pub low : (j : ℕ) → j < 97 → j ≢ 3 → slice_index new j ≡ slice_index old j
  pub are_words : (j : ℕ) → slice_index new j < 2 ^ 64

-- and where the top may move on
pub record KeepsLower (old new : List ℕ) : Type 0 where
  pub count : length new ≡ length old
  pub low : (j : ℕ) → j < 97 → j ≢ 3 → j ≢ 1 → slice_index new j ≡ slice_index old j
  pub are_words : (j : ℕ) → slice_index new j < 2 ^ 64

pub lower : {old new : List ℕ} → KeepsLow old new → KeepsLower old new
lower k = record { count = k.count; low = λ j l a _. k.low j l a; are_words = k.are_words }

module _ (x : Targets) (code : Code) (s : Shape) (ls : Labels) (wt : IsWellTyped x code ls) (g : Global Machine) (world : World) (st : State x code s ls g world) (t : ℕ) (on : g.started t ≡ true) (words : List ℕ) (m' : Machine) (own : KeepsPart (g.threads t) m')
    (kw : KeepsLower g.words words) where
  open thread_at st t use {m}

  abbrev now : Global Machine
  now = made_turn g t words m'

  -- threads are started as before
  pub started_same : (u : ℕ) → now.started u ≡ g.started u
  started_same = started_stay x code s ls g world st t words m' kw.low

  pub conc_now : conc_of code now ≡ record (made_conc code (conc_of code g) t words m') { staged = put (λ u. staged_of (g.threads u).own.stage) t (staged_of m'.own.stage) }
  conc_now =
      let rs : (λ u. register_of code (now.threads u)) ≡ put (λ u. register_of code (g.threads u)) t (register_of code m') = part_put (register_of code) g.threads t m' in
      let ar : argument_of code now ≡ argument_of code g = fun_ext (args_stay x code s ls g world st t words m' kw.low own.begun_before own.begun) in
      let lo : (λ u. logged (now.threads u)) ≡ (λ u. logged (g.threads u)) = fun_ext (part_same logged g.threads t m' (fun_ext (λ w. ap (λ (h : List HeldMutex). reference_of (object_of h w)) own.held))) in
      let sg : (λ u. staged_of (now.threads u).own.stage) ≡ put (λ u. staged_of (g.threads u).own.stage) t (staged_of m'.own.stage) = part_put (λ m. staged_of m.own.stage) g.threads t m' in
      let nt : (kind : Kind) → (λ u. noted_by (now.threads u) kind) ≡ put (λ u. noted_by (g.threads u) kind) t (noted_by m' kind) = λ kind. part_put (λ m. noted_by m kind) g.threads t m' in
      let rn = nt Read in
      let wn = nt Write in
      λ i. record { words = λ j. slice_index words j; regs = rs i; args = ar i; logs = lo i; staged = sg i; read_notes = rn i; write_notes = wn i }

  -- the log of each thread is as it was
  pub held_same : (u : ℕ) → (now.threads u).own.held ≡ (g.threads u).own.held
  held_same = part_same (λ m. m.own.held) g.threads t m' own.held

  module _ (cells' elements' : ℕ → ℕ) (heap' : Heap) (w' : World) (k : KeepsOthers s world w' st.heap heap' g.words words t) (args : (u : ℕ) → w'.slots (In (ArgumentOf u)) ≡ world.slots (In (ArgumentOf u)))
      (same_elements : (u r : ℕ) → u ≢ t → elements' (in_ref world (RegisterOf u r)) ≡ st.elements (in_ref world (RegisterOf u r))) where
    pub changed_state : WorldInvariant (size_of_run code s) (lang_of x) w' → Shows x s cells' elements' (conc_of code now) w' → Apart s w'.obj cells' → HeapStands s cells' now w'.obj heap' → Locks x s cells' w' now
        → w'.obj 0 ≡ world.obj 0 → cells' 0 ≡ st.cells 0
        → ((o : ℕ) → o ≢ 0 → (w'.obj o).live ≡ true → ((w'.obj o).global ≡ false) × ((w'.obj o).ty.target < length x.rows))
        → ((o : ℕ) → o ≢ 0 → (w'.obj o).live ≡ true → (1 ≤ elements' o) × (cells' o ≡ elements' o * cells_of x (w'.obj o).ty.target))
        → ((i : ℕ) → i < granules s → epoch_of (slice_index words (97 + i)) ≤ sum_to THREADS now.made)
        → (may_go m'.at.state ≡ true → Runs x code s ls elements' w' heap' now t m') → (may_go m'.at.state ≡ false → StopStands w' t m' (ls.at m'.at.pc).gate)
        → g.made t + counted m'.at.state ≤ 100000000 → State x code s ls now w'
    changed_state inv sim apart heap_stands locks globals globals_cells rows whole epochs runs over few =
        record {
          cells = cells';
          elements = elements';
          heap = heap';
          inv = inv;
          sim = sim;
          apart = apart;
          heap_stands = heap_stands;
          locks = locks;
          threads = threads_stand x code s ls wt g world st t on words m' elements' heap' w' k same_elements (λ u n _ _ h. reserves_kept g.words words kw.low u n h)
              (λ u n _ _ h. (function_stays x code s ls g world st t words m' kw.low n h.few, argument_stays x code s ls g world st t words m' kw.low n h.few))
              (λ u _ on'. function_stays x code s ls g world st t words m' kw.low u (st.begins.few u on'))
              (thread_kept code s t m m' (st.threads t).has own.sizes (subst IsHeldLog (sym own.held) (st.threads t).has.log) own.heads) (λ u _. inl (started_same u)) runs over;
          begins = begins_stay x code s ls g world st t words m' kw.low w' args own.spawns;
          firsts = firsts_stay x ls g st.firsts t words m' kw.low started_same own.begun own.spawns;
          globals = globals ∙ st.globals;
          globals_cells = globals_cells ∙ st.globals_cells;
          rows = rows;
          whole = whole;
          length_is = kw.count ∙ st.length_is;
          are_words = kw.are_words;
          epochs = epochs;
          few = put_all (λ u n. n ≤ 100000000) g.made t (g.made t + counted m'.at.state) few (λ u _. st.few u);
        }

  -- the objects, the mutexes and the lists of the heap stay
  pub alike_state : (w' : World) → w'.obj ≡ world.obj → w'.mutex ≡ world.mutex → Kept (record { first = 1 + s.globals; words = first_cell s }) (heap_now st.heap words) → slice_index words top_word ≡ slice_index g.words top_word
      → ((b : ℕ) → head_of m' b ≡ head_of (g.threads t) b) → KeepsOthers s world w' st.heap (heap_now st.heap words) g.words words t → ((u : ℕ) → w'.slots (In (ArgumentOf u)) ≡ world.slots (In (ArgumentOf u)))
      → WorldInvariant (size_of_run code s) (lang_of x) w' → Shows x s st.cells st.elements (conc_of code now) w' → ((i : ℕ) → i < granules s → epoch_of (slice_index words (97 + i)) ≤ sum_to THREADS now.made)
      → (may_go m'.at.state ≡ true → Runs x code s ls st.elements w' (heap_now st.heap words) now t m') → (may_go m'.at.state ≡ false → StopStands w' t m' (ls.at m'.at.pc).gate)
      → g.made t + counted m'.at.state ≤ 100000000 → State x code s ls now w'
  alike_state w' eo em kept top heads others args inv sim epochs runs over few =
      let A : (ℕ → ObjectState) → Type 0 = λ f. Apart s f st.cells in
      let R : (ℕ → ObjectState) → Type 0 = λ f. (o : ℕ) → o ≢ 0 → (f o).live ≡ true → ((f o).global ≡ false) × ((f o).ty.target < length x.rows) in
      let W : (ℕ → ObjectState) → Type 0 = λ f. (o : ℕ) → o ≢ 0 → (f o).live ≡ true → (1 ≤ st.elements o) × (st.cells o ≡ st.elements o * cells_of x (f o).ty.target) in
      changed_state st.cells st.elements (heap_now st.heap words) w' others args (λ u r _. refl) inv sim (subst A (sym eo) st.apart)
      (heap_stays s st.cells g world.obj w'.obj st.heap t words m' st.heap_stands eo kept top heads) (locks_same x code s ls g world st t words m' own.held w' eo em)
      (ap (λ (f : ℕ → ObjectState). f 0) eo) refl (subst R (sym eo) st.rows) (subst W (sym eo) st.whole) epochs runs over few
