-- The turns of a New before its last: from the thread's own list, or from the top.
use Rattle.sharc_invariant.proofs.{Imports.{◌≡◌, ℕ, zero, suc, ◌+◌, ◌*◌, ◌^◌, ◌<◌, ◌≤◌, ◌≢◌, Bool, true, false, cond, List, None, Some, refl, sym, ap, ◌∙◌, subst, ⊎_elim, arith, ltb-true, cases_eq, cases_lt, eqb-true, eqb-false, nat_tests, set-get_or, get_or_past, length-set, pow_mono, fun_ext, length, slice_index, slice_set, nat_lt, nat_le, nat_eq, ◌==◌, THREADS, Load, Swap, Cas, NewLaws, block_of, NewView, told, turn_of, turn_of_stage, next_stage, next_head, try_from, after_cell, word_number, granule_number, top_number, NewArguments, Do, NewStage, Code, Shape, RunsOn, Stopped, Trap, Stage, Rests, Makes, Fits as FitsShape, granules, granule_at, top_word, first_cell, Machine, instr_at, int, elements_of, all_cells, size_of, new_state, new, asks_new, after_new, goes_on_new, at_stage, trapped, turn, Turn, Global, put, MayTurn, one_thread, bounds, Instr, put_same, put_other, put_all, Targets, Labels, IsWellTyped, World, put2, Heap, Kept, Built, Live, Listed, InBlock, popped, carved, conc_of, Shows, head_of, head_with, making_of, length_at, made_turn, KeepsOthers, State, BuildsAt, HeapStands, Turned, ne_eq, eq_refl, not_less as not_lt, le_true}, TurnAt.{turn_at, turn_stands}, Listed.{pop_ok, carve_ok, store_ok, below_blocks, put2_same, put2_other}, Quiet.heap_now, Changes.KeepsLower, Turns.{asks_turn, room_of, unseen}, Stores.{index_put, arena}, Heaps.{size_power, same_power, apart_stored, built_size, listed_size, low_block}, Builds.{IsMaking, builds_state, own_state, own_off, own_at}, Others.loses, BitTurns.{in_low as granule_here}, Empties.{none_below as nothing}, Plain.others_heap}
use Rattle.sharc_tree.specs.declared.trap.Trap.TheVariants as traps
use Rattle.sharc_heap.specs.Asks.{step_of, cell_word, count_word, length_word}

-- ---- blocks
pub record IsBlockOf (c n : ℕ) : Type 0 where
  pub low : n < 32
  pub power : block_of c ≡ 2 ^ (n + 1)
  pub room : 2 + c ≤ 2 * block_of c

pub block_power : NewLaws → (c : ℕ) → 1 ≤ c → c ≤ 2 ^ 32 → (n : ℕ) × IsBlockOf c n
block_power laws c lo hi =
    let b = laws.block c hi in
    let p = b.power.0 in
    let room = b.room in
    let most = b.least 32 (omega arith) in
    let low : p < 33 = ⊎_elim (λ (l : p < 33). l) (λ (le : 33 ≤ p). let z = pow_mono {i = 33} {j = p} le in absurd (omega arith)) (cases_lt p 33) in
    from p b.power.1 (omega arith) low (omega arith)
  where
    from : (p : ℕ) → block_of c ≡ 2 ^ p → 2 ≤ block_of c → p < 33 → 2 + c ≤ 2 * block_of c → (n : ℕ) × IsBlockOf c n
    from zero is some low room = absurd (omega arith)
    from (suc n) is some low room = (n, record { low = omega arith; power = is ∙ ap (λ k. 2 ^ k) (let e : suc n ≡ n + 1 = omega arith in e); room = room })

-- a block of a small arena is one of the sixteen sizes
pub small_block : (n : ℕ) → 2 ^ (n + 1) ≤ 65536 → n < 16
small_block n le = ⊎_elim (λ (l : n < 16). l) (λ (g : 16 ≤ n). let z = pow_mono {i = 17} {j = n + 1} (omega arith) in absurd (omega arith)) (cases_lt n 16)

-- ---- what a New was given
pub record IsGiven (s : Shape) (m : Machine) (elements cells : ℕ) (a : NewArguments) : Type 0 where
  pub elements_are : a.elements ≡ elements
  pub cells_are : a.cells ≡ all_cells elements cells
  pub end_is : a.end ≡ granules s
  pub first_is : a.first ≡ first_cell s
  pub head_is : a.head ≡ granule_at s (slice_index m.own.heads (size_of a.block))
  pub block_is : a.block ≡ block_of a.cells

pub is_given : (s : Shape) (m : Machine) (elements cells : ℕ) (a : NewArguments) → a ≡ (new_state s m elements cells).arguments → IsGiven s m elements cells a
is_given s m elements cells a e = subst (IsGiven s m elements cells) (sym e) (record { elements_are = refl; cells_are = refl; end_is = refl; first_is = refl; head_is = refl; block_is = refl })

pub word_in : (a : NewArguments) (place : ℕ) → place < a.first + 2 * a.end → word_number a place ≡ place
word_in a place lt = let e : nat_lt place (a.first + 2 * a.end) ≡ true = grind (arith, nat_tests) in rw e refl

pub granule_in : (a : NewArguments) (n : ℕ) → n < a.end → granule_number a n ≡ n
granule_in a n lt = let e : nat_lt n a.end ≡ true = grind (arith, nat_tests) in rw e refl

module _ (x : Targets) (code : Code) (s : Shape) (ls : Labels) (wt : IsWellTyped x code ls) (fits : FitsShape code s) (laws : NewLaws) (g : Global Machine) (world : World) (st : State x code s ls g world) (tr : Turn)
    (may : MayTurn bounds (one_thread code s) g tr) (r count cells site : ℕ) (is : instr_at code (g.threads tr.thread).at.pc ≡ Instr.New r count cells site) (making : IsMaking (g.threads tr.thread).own.stage) where
  open turn_at st tr use {t, m, after}
  open turn_stands st tr may use {low_t as on_t}

  abbrev E : ℕ
  E = elements_of (int (g.threads tr.thread) count)

  abbrev a0 : NewArguments
  a0 = (new_state s (g.threads tr.thread) E cells).arguments

  some_cells : (e c : ℕ) → 1 ≤ all_cells e c
  some_cells e c = omega arith

  few_cells : (e c : ℕ) → all_cells e c ≤ 2 ^ 32
  few_cells e c = omega arith

  abbrev block : (n : ℕ) × IsBlockOf (all_cells E cells) n
  block = block_power laws (all_cells E cells) (some_cells E cells) (few_cells E cells)

  -- the place of the block's size among the heads
  abbrev n : ℕ
  n = block.0

  abbrev B : ℕ
  B = block_of (all_cells E cells)

  size_is : size_of B ≡ n
  size_is = ap size_of block.1.power ∙ size_power n (let z = block.1.low in omega arith)

  turn_is : (y : Stage) → (g.threads tr.thread).own.stage ≡ y → turn code s (g.threads tr.thread) ≡ new s (g.threads tr.thread) r E cells site y
  turn_is y e = ap (λ i. Rattle.sharc_code.specs.Machine.act code s i m) is ∙ ap (new s m r E cells site) e

  silent : (w : Global Machine) → after ≡ w → State x code s ls w world → Turned x code s ls g world tr
  silent w e k = unseen x code s ls g world tr _ e k

  same_low : KeepsLower g.words g.words
  same_low = record { count = refl; low = λ j _ _ _. refl; are_words = st.are_words }

  abbrev heap0 : Heap
  heap0 = heap_now st.heap g.words

  same_kept : Kept (arena s) heap0
  same_kept = subst (λ h. Kept (arena s) (record st.heap { words = h })) (fun_ext st.heap_stands.words) st.heap_stands.kept

  quiet_others : KeepsOthers s world world st.heap heap0 g.words g.words tr.thread
  quiet_others = record { regs = λ u _ q. refl; win = λ u _. refl; passed = λ u _ q p c _ z. z; sole = λ u _ q _ p. loses refl; cells = λ u _ q _ n. refl; built = λ u _ b e. (e, refl); within = λ u _ h e i n. refl }

  -- nothing but the thread's stage changes
  quiet_stands : (m' : Machine) → ((k : ℕ) → k < 16 → head_of m' k ≡ head_of (g.threads tr.thread) k) → HeapStands s st.cells (made_turn g tr.thread g.words m') world.obj heap0
  quiet_stands m' heads =
      let h = st.heap_stands in
      record {
        kept = same_kept;
        words = λ i. refl;
        top = h.top;
        within = h.within;
        heads = λ u k lu lk. h.heads u k lu lk ∙ put_all (λ u (y : Machine). head_of (g.threads u) k ≡ head_of y k) g.threads t m' (sym (heads k lk)) (λ u _. refl) u;
        powers = h.powers;
        live = h.live;
        room = h.room;
        sizes = h.sizes;
      }

  -- the heap is full
  full : made_turn g tr.thread g.words (trapped (g.threads tr.thread) traps.HeapFull site) ≡ made_turn g tr.thread g.words (trapped (g.threads tr.thread) traps.HeapFull site) → g.made tr.thread + 1 ≤ 100000000 → State x code s ls (made_turn g tr.thread g.words (trapped (g.threads tr.thread) traps.HeapFull site)) world
  full _ few = builds_state x code s ls wt fits g world st tr may r count cells site is making Stopped m.own.stage (Some (Trap traps.HeapFull site)) making refl g.words same_low heap0 quiet_others
      (quiet_stands (trapped m traps.HeapFull site) (λ k _. refl)) st.sim (λ i _. refl) (λ e. absurd (cc)) few

  -- a head of a list is a granule
  head_low : (k : ℕ) → k < 16 → making_of (g.threads tr.thread).own.stage ≡ None → (slice_index (g.threads tr.thread).own.heads k < granules s) × (st.heap.heads tr.thread (2 ^ (k + 1)) ≡ slice_index (g.threads tr.thread).own.heads k)
  head_low k lk e =
      let is_head : st.heap.heads t (2 ^ (k + 1)) ≡ slice_index m.own.heads k = st.heap_stands.heads t k on_t lk ∙ ap (λ y. head_with y m.own.heads k) e in (
        ⊎_elim
            (λ z. let q = z.1 in omega arith)
            (λ z. let nz = listed_size s st.cells g world.obj st.heap st.heap_stands st.globals_cells (st.heap.heads t (2 ^ (k + 1))) t (st.heap.deep t (2 ^ (k + 1))) z.0 in
            let l = low_block s st.cells g world.obj st.heap st.heap_stands st.globals_cells (st.heap.heads t (2 ^ (k + 1))) nz in let l1 = l.1 in let pz = nz in below nz l.1 is_head)
            (st.heap_stands.kept.lists.head t (2 ^ (k + 1))),
        is_head,
      )
    where
      below : {a b c d : ℕ} → b ≢ 0 → a + b ≤ c → a ≡ d → d < c
      below ne le e = omega arith

  -- ---- from the top
  try_next : (v : NewView) → v.arguments ≡ a0 → ((k : ℕ) → k < 16 → head_with (Some v) (g.threads tr.thread).own.heads k ≡ head_of (g.threads tr.thread) k) → (found : ℕ) → v.stage ≡ try_from v.arguments found
      → after ≡ made_turn g tr.thread g.words (after_new (g.threads tr.thread) r site v (turn_of v)) → Turned x code s ls g world tr
  try_next v ea heads found ev done =
      let a = v.arguments in
      elim (nat_le (found + a.block) a.end) as (λ c. nat_le (found + a.block) a.end ≡ c → v.stage ≡ cond c (NewStage.Move found (found + a.block)) NewStage.Full → Turned x code s ls g world tr) [
        | true ↦ λ le e.
            let m' = at_stage m (Makes v) in
            let d : after ≡ made_turn g t g.words m' = done ∙ ap (λ y. made_turn g t g.words (after_new m r site v (turn_of_stage a y))) e in
            let few = room_of code s g tr may g.words m' d in
            silent (made_turn g t g.words m') d
            (builds_state x code s ls wt fits g world st tr may r count cells site is making RunsOn (Makes v) m.own.stop tt refl g.words same_low heap0 quiet_others (quiet_stands m' heads) st.sim (λ i _. refl)
            (λ _. (ea, subst (BuildsAt g.words heap0 t v) (sym e) (refl, le_true (found + a.block) a.end le))) few)
        | false ↦ λ le e.
            let d : after ≡ made_turn g t g.words (trapped m traps.HeapFull site) = done ∙ ap (λ y. made_turn g t g.words (after_new m r site v (turn_of_stage a y))) e in
            silent (made_turn g t g.words (trapped m traps.HeapFull site)) d (full refl (room_of code s g tr may g.words (trapped m traps.HeapFull site) d))
      ] refl ev

  abbrev first_view : Bool → NewView
  first_view b = record { arguments = a0; stage = cond b NewStage.Top NewStage.Link; head = a0.head }

  first_turn : (rest : (g.threads tr.thread).own.stage ≡ Rests) → (b : Bool) → nat_eq a0.head 0 ≡ b → turn code s (g.threads tr.thread) ≡ asks_new (g.threads tr.thread) r site (first_view b) (turn_of (first_view b))
  first_turn rest b e = turn_is Rests rest ∙ ap (λ b. asks_new m r site (first_view b) (turn_of (first_view b))) e

  first_top : (rest : (g.threads tr.thread).own.stage ≡ Rests) → nat_eq a0.head 0 ≡ true → Turned x code s ls g world tr
  first_top rest e =
      let found = slice_index g.words top_word in
      let v = told (first_view true) found in
      let d0 = asks_turn code s g tr may (step_of top_number Load) (λ found. goes_on_new m r site (told (first_view true) found)) (first_turn rest true e) in
      let d : after ≡ made_turn g t g.words (after_new m r site v (turn_of v)) = d0.0 ∙ ap (λ ws. made_turn g t ws (after_new m r site v (turn_of v))) (set-get_or g.words top_word 0) in
      let none' : making_of m.own.stage ≡ None = ap making_of rest in
      let heads : (k : ℕ) → k < 16 → head_with (Some v) m.own.heads k ≡ head_of m k = λ k lk.
      sym (elim (k == size_of B) as (λ b. (k == size_of B) ≡ b → head_of m k ≡ cond b a0.head (slice_index m.own.heads k)) [
        | true ↦ λ q.
            let hl = head_low k lk none' in
            let ek : k ≡ size_of B = eqb-true k (size_of B) q in
            ap (λ y. head_with y m.own.heads k) none' ∙ sym (granule_here s (slice_index m.own.heads k) hl.0) ∙ ap (λ k. granule_at s (slice_index m.own.heads k)) ek
        | false ↦ λ q. ap (λ y. head_with y m.own.heads k) none'
      ] refl) in
      try_next v refl heads found refl d

  -- ---- from the own list
  own_head : (rest : (g.threads tr.thread).own.stage ≡ Rests) → nat_eq a0.head 0 ≡ false → (n < 16) × (slice_index (g.threads tr.thread).own.heads n ≡ a0.head) × (a0.head ≢ 0) × (st.heap.heads tr.thread B ≡ a0.head)
  own_head rest e =
      let hd = slice_index m.own.heads (size_of B) in
      let ne : a0.head ≢ 0 = eqb-false a0.head 0 e in
      let len = (st.threads t).has.heads in
      let lo : n < 16 = ⊎_elim (λ (l : n < 16). l)
      (λ (ge : 16 ≤ n). let z : hd ≡ 0 = ap (slice_index m.own.heads) size_is ∙ get_or_past m.own.heads n 0 (omega arith) in absurd (ne (ap (granule_at s) z ∙ zero_granule))) (cases_lt n 16) in
      let hl = head_low n lo (ap making_of rest) in
      let same : slice_index m.own.heads n ≡ a0.head = sym (granule_here s (slice_index m.own.heads n) hl.0) ∙ ap (λ k. granule_at s (slice_index m.own.heads k)) (sym size_is) in
      (lo, same, ne, ap (st.heap.heads t) block.1.power ∙ hl.1 ∙ same)
    where
      zero_granule : granule_at s 0 ≡ 0
      zero_granule = granule_here s 0 (omega arith)

  first_own : (rest : (g.threads tr.thread).own.stage ≡ Rests) → nat_eq a0.head 0 ≡ false → Turned x code s ls g world tr
  first_own rest e =
      let oh = own_head rest e in
      let h = st.heap_stands in
      let hb = st.heap.heads t B in
      let nz : hb ≢ 0 = λ z. oh.2 (sym oh.3 ∙ z) in
      let p = pop_ok (arena s) st.heap h.kept t B nz in
      let listed = p.1.0 in
      let size_b : st.heap.size hb ≡ B = p.1.1.0 in
      let kept1 = p.1.1.1 in
      let some = listed_size s st.cells g world.obj st.heap h st.globals_cells hb t (suc p.0) listed in
      let lb = low_block s st.cells g world.obj st.heap h st.globals_cells hb some in
      let lb1 = lb.1 in
      let inside : a0.head < granules s = under some lb1 oh.3 in
      let word_is : length_word a0 a0.head ≡ length_at s hb = word_in a0 (a0.first + 2 * a0.head + 1) (let i = inside in omega arith) ∙ (let q = oh.3 in let z : first_cell s + 2 * a0.head + 1 ≡ length_at s hb = omega arith in z) in
      let found = slice_index g.words (length_word a0 a0.head) in
      let link = st.heap.words (Rattle.sharc_invariant.specs.Blocks.length_at (arena s) hb) in
      let found_is : found ≡ link = ap (slice_index g.words) word_is ∙ sym (h.words (length_at s hb)) in
      let v = told (first_view false) found in
      let m' = at_stage m (Makes v) in
      let d0 = asks_turn code s g tr may (step_of (length_word a0 a0.head) Load) (λ found. goes_on_new m r site (told (first_view false) found)) (first_turn rest false e) in
      let d : after ≡ made_turn g t g.words m' = d0.0 ∙ ap (λ ws. made_turn g t ws m') (set-get_or g.words (length_word a0 a0.head) 0) in
      let few = room_of code s g tr may g.words m' d in
      let heap1 = popped (arena s) st.heap t B p.0 in
      let heap' : Heap = record heap1 { words = λ i. slice_index g.words i } in
      let kept' : Kept (arena s) heap' = subst (λ f. Kept (arena s) (record heap1 { words = f })) (fun_ext h.words) kept1 in
      let link_low : link < granules s = ⊎_elim (λ z. let q = z.1 in let y = put2_same st.heap.heads t B link in omega arith)
      (λ z. linked link (ap st.heap.size (sym (put2_same st.heap.heads t B link)) ∙ z.1)) (kept1.lists.head t B) in
      let v_head : v.head ≡ link = granule_in a0 found (subst (λ q. q < granules s) (sym found_is) link_low) ∙ found_is in
      let none' : making_of m.own.stage ≡ None = ap making_of rest in
      let not_hb : (o : ℕ) → o ≢ 0 → (world.obj o).live ≡ true → o ≡ hb → ⊥ = λ o nz l q. let f = (h.live o nz).0 l in let z : Live ≡ Listed t (suc p.0) = sym f ∙ ap st.heap.state q ∙ listed in cc in
      let head_new : (u k : ℕ) → u < THREADS → k < 16 → put2 st.heap.heads t B link u (2 ^ (k + 1)) ≡ head_of ((made_turn g t g.words m').threads u) k = λ u k lu lk.
      put_all (λ u (y : Machine). u < THREADS → put2 st.heap.heads t B link u (2 ^ (k + 1)) ≡ head_of y k) g.threads t m'
      (λ _. elim (k == size_of B) as (λ b. (k == size_of B) ≡ b → put2 st.heap.heads t B link t (2 ^ (k + 1)) ≡ cond b v.head (slice_index m.own.heads k)) [
        | true ↦ λ q.
            let ek : k ≡ n = eqb-true k (size_of B) q ∙ size_is in
            ap (put2 st.heap.heads t B link t) (ap (λ k. 2 ^ (k + 1)) ek ∙ sym block.1.power) ∙ put2_same st.heap.heads t B link ∙ sym v_head
        | false ↦ λ q.
            let nk : k ≡ n → ⊥ = λ z. eqb-false k (size_of B) q (z ∙ sym size_is) in
            let ln = block.1.low in
            let away : 2 ^ (k + 1) ≡ B → ⊥ = λ z. nk (same_power k n (omega arith) (omega arith) (z ∙ block.1.power)) in
            sym (put2_other st.heap.heads t B link t (2 ^ (k + 1)) (λ _ z. away z)) ∙ (head_low k lk none').1
      ] refl)
      (λ u ne lu. sym (put2_other st.heap.heads t B link u (2 ^ (k + 1)) (λ z _. ne z)) ∙ h.heads u k lu lk) u lu in
      let stands : HeapStands s st.cells (made_turn g t g.words m') world.obj heap' = record {
        kept = kept';
        words = λ i. refl;
        top = h.top;
        within = h.within;
        heads = head_new;
        powers = h.powers;
        live = λ o nz. (
          (λ l. put_other st.heap.state hb o (Built t) (not_hb o nz l) ∙ (h.live o nz).0 l),
          (λ q. ⊎_elim
              (λ (i : o ≡ hb). let z : Built t ≡ Live = sym (put_same st.heap.state hb (Built t)) ∙ ap (put st.heap.state hb (Built t)) (sym i) ∙ q in absurd (cc))
              (λ (ne : o ≡ hb → ⊥). (h.live o nz).1 (sym (put_other st.heap.state hb o (Built t) ne) ∙ q)) (cases_eq o hb)),
        );
        room = h.room;
        sizes = h.sizes;
      } in
      let others : KeepsOthers s world world st.heap heap' g.words g.words t = others_heap s world st.heap heap' g.words g.words t (λ u _ b q. (put_other st.heap.state hb b (Built t) (λ i. let z : Listed t (suc p.0) ≡ Built u = sym listed ∙ ap st.heap.state (sym i) ∙ q in cc) ∙ q, refl))
      (λ u _ b q i n. refl) in
      let built : heap'.state a0.head ≡ Built t = ap (put st.heap.state hb (Built t)) (sym oh.3) ∙ put_same st.heap.state hb (Built t) in
      let size : heap'.size a0.head ≡ a0.block = ap st.heap.size (sym oh.3) ∙ size_b in
      silent (made_turn g t g.words m') d
      (builds_state x code s ls wt fits g world st tr may r count cells site is making RunsOn (Makes v) m.own.stop tt refl g.words same_low heap' others stands st.sim (λ i _. refl)
      (λ _. (refl, (block.1.room, built, size, some_cells E cells, λ i lt. absurd (nothing i lt)))) few)
    where
      under : {a b c d : ℕ} → b ≢ 0 → a + b ≤ c → a ≡ d → d < c
      under ne le e = omega arith

      linked : (q : ℕ) → st.heap.size q ≡ B → q < granules s
      linked q e =
          let room = block.1.room in
          let nz : st.heap.size q ≢ 0 = λ z. omega arith in
          let l = low_block s st.cells g world.obj st.heap st.heap_stands st.globals_cells q nz in
          under nz l.1 refl

  pub new_first : (g.threads tr.thread).own.stage ≡ Rests → Turned x code s ls g world tr
  new_first rest = elim (nat_eq a0.head 0) as (λ b. nat_eq a0.head 0 ≡ b → Turned x code s ls g world tr) [ true ↦ λ e. first_top rest e | false ↦ λ e. first_own rest e ] refl

  -- ---- in the middle
  module _ (v : NewView) (at_v : (g.threads tr.thread).own.stage ≡ Makes v) (ea : v.arguments ≡ a0) where
    abbrev a : NewArguments
    a = v.arguments

    given : IsGiven s (g.threads tr.thread) E cells v.arguments
    given = is_given s m E cells a ea

    next_turn : (y : NewStage) → v.stage ≡ y → turn code s (g.threads tr.thread) ≡ asks_new (g.threads tr.thread) r site v (turn_of_stage v.arguments y)
    next_turn y e = turn_is (Makes v) at_v ∙ ap (λ y. asks_new m r site v (turn_of_stage a y)) e

    told_is : (y : NewStage) (found : ℕ) → v.stage ≡ y → told v found ≡ record { arguments = v.arguments; stage = next_stage v.arguments y found; head = next_head v.arguments y v.head found }
    told_is y found e = ap (λ y. record { arguments = v.arguments; stage = next_stage v.arguments y found; head = next_head v.arguments y v.head found }) e

    -- the heads of the lists while the block and the head of its list stay
    same_heads : (v' : NewView) → v'.arguments ≡ v.arguments → v'.head ≡ v.head → (k : ℕ) → head_with (Some v') (g.threads tr.thread).own.heads k ≡ head_of (g.threads tr.thread) k
    same_heads v' e h k =
        ap (λ (a : NewArguments). cond (k == size_of a.block) v'.head (slice_index m.own.heads k)) e ∙ ap (λ q. cond (k == size_of v.arguments.block) q (slice_index m.own.heads k)) h
        ∙ sym (ap (λ y. head_with (making_of y) m.own.heads k) at_v)

    -- a block that the thread builds
    module _ (b : ℕ) (room : 2 + v.arguments.cells ≤ 2 * v.arguments.block) (built : st.heap.state b ≡ Built tr.thread) (size : st.heap.size b ≡ v.arguments.block) where
      inside : (i : ℕ) → i < 2 + v.arguments.cells → InBlock (arena s) st.heap b (first_cell s + 2 * b + i)
      inside i lt = let q = room in let z = size in (omega arith, omega arith)

      within : b + v.arguments.block ≤ granules s
      within = subst (λ k. b + k ≤ granules s) size (low_block s st.cells g world.obj st.heap st.heap_stands st.globals_cells b (built_size s st.cells g world.obj st.heap st.heap_stands st.globals_cells b t built)).1

      place : (i : ℕ) → i < 2 + v.arguments.cells → word_number v.arguments (v.arguments.first + 2 * b + i) ≡ first_cell s + 2 * b + i
      place i lt =
          let f = given.first_is in let en = given.end_is in let q = room in let w = within in
          word_in a (a.first + 2 * b + i) (omega arith) ∙ (let z : a.first + 2 * b + i ≡ first_cell s + 2 * b + i = omega arith in z)

      -- a word of it is stored, and the New goes on at another stage
      goes : (i new : ℕ) (lt : i < 2 + v.arguments.cells) → new < 2 ^ 64 → (k : ℕ) → k ≡ first_cell s + 2 * b + i → (y : NewStage) → v.stage ≡ y → turn_of_stage v.arguments y ≡ Do (step_of k (Swap new))
          → (v' : NewView) → ((found : ℕ) → told v found ≡ v') → v'.arguments ≡ v.arguments → v'.head ≡ v.head → (after_new (g.threads tr.thread) r site v' (turn_of v') ≡ at_stage (g.threads tr.thread) (Makes v'))
          → ((words : List ℕ) → ((j : ℕ) → j ≢ first_cell s + 2 * b + i → slice_index words j ≡ slice_index g.words j) → slice_index words (first_cell s + 2 * b + i) ≡ new → BuildsAt words (heap_now st.heap words) tr.thread v' v'.stage)
          → Turned x code s ls g world tr
      goes i new lt small k ek y ey act v' et ea' eh next stage =
          let w = first_cell s + 2 * b + i in
          let m' = at_stage m (Makes v') in
          let words = slice_set g.words w new in
          let d0 = asks_turn code s g tr may (step_of k (Swap new)) (λ found. goes_on_new m r site (told v found)) (next_turn y ey ∙ ap (asks_new m r site v) act) in
          let d1 : after ≡ made_turn g t (slice_set g.words k new) m' = d0.0 ∙ ap (λ v. made_turn g t (slice_set g.words k new) (after_new m r site v (turn_of v))) (et (slice_index g.words k)) ∙ ap (made_turn g t (slice_set g.words k new)) next in
          let d : after ≡ made_turn g t words m' = d1 ∙ ap (λ k. made_turn g t (slice_set g.words k new) m') ek in
          let long : w < length g.words = subst (λ k. k < length g.words) ek d0.1 in
          silent (made_turn g t words m') d
          (own_state x code s ls wt fits g world st tr may r count cells site is making b w new built (inside i lt) small long (Makes v') tt (same_heads v' ea' eh) (
            ea' ∙ ea,
            stage words (own_off x code s ls wt fits g world st tr may r count cells site is making b w new built (inside i lt) small long)
                (own_at x code s ls wt fits g world st tr may r count cells site is making b w new built (inside i lt) small long w ∙ put_same (λ i. slice_index g.words i) w new),
          )
          (room_of code s g tr may words m' d))

    pub clears_cell : (c : ℕ) → v.stage ≡ NewStage.Cell c → BuildsAt g.words st.heap tr.thread v (NewStage.Cell c) → Turned x code s ls g world tr
    clears_cell c e h =
        let b = a.head in
        let lt = h.3 in
        let v' : NewView = record { arguments = a; stage = after_cell a c; head = v.head } in
        let next : after_new m r site v' (turn_of v') ≡ at_stage m (Makes v') =
        elim (nat_lt (c + 1) a.cells) as (λ q. after_new m r site (record { arguments = a; stage = cond q (NewStage.Cell (c + 1)) (NewStage.Count a.head); head = v.head }) (turn_of_stage a (cond q (NewStage.Cell (c + 1)) (NewStage.Count a.head)))
        ≡ at_stage m (Makes (record { arguments = a; stage = cond q (NewStage.Cell (c + 1)) (NewStage.Count a.head); head = v.head }))) [ true ↦ refl | false ↦ refl ] in
        goes b h.0 h.1 h.2 (2 + c) 0 (omega arith) (omega arith) (cell_word a b c) (cell_place c lt h) (NewStage.Cell c) e refl v' (λ found. told_is (NewStage.Cell c) found e) refl refl next
        (λ words off here.
        let zero' : (i : ℕ) → i < c + 1 → slice_index words (a.first + 2 * b + 2 + i) ≡ 0 = λ i l.
        let f = given.first_is in
        ⊎_elim
        (λ (q : i ≡ c). ap (slice_index words) (let z : a.first + 2 * b + 2 + i ≡ first_cell s + 2 * b + (2 + c) = omega arith in z) ∙ here)
        (λ (ne : i ≡ c → ⊥). off (a.first + 2 * b + 2 + i) (λ z. ne (omega arith)) ∙ h.4 i (lower_cell i c l ne))
        (cases_eq i c) in
        elim (nat_lt (c + 1) a.cells) as (λ q. nat_lt (c + 1) a.cells ≡ q → BuildsAt words (heap_now st.heap words) t (record { arguments = a; stage = cond q (NewStage.Cell (c + 1)) (NewStage.Count a.head); head = v.head }) (cond q (NewStage.Cell (c + 1)) (NewStage.Count a.head))) [
          | true ↦ λ q. (h.0, h.1, h.2, ltb-true (c + 1) a.cells q, zero')
          | false ↦ λ q. (h.0, h.1, h.2, λ i l. zero' i (let z = not_lt (c + 1) a.cells q in omega arith))
        ] refl)
      where
        lower_cell : (i c : ℕ) → i < c + 1 → (i ≡ c → ⊥) → i < c
        lower_cell i c l ne = ⊎_elim (λ (z : i < c). z) (λ (z : c ≤ i). absurd (ne (omega arith))) (cases_lt i c)

        cell_place : (c : ℕ) → c < v.arguments.cells → BuildsAt g.words st.heap tr.thread v (NewStage.Cell c) → cell_word v.arguments v.arguments.head c ≡ first_cell s + 2 * v.arguments.head + (2 + c)
        cell_place c lt h = ap (word_number a) (let z : a.first + 2 * a.head + 2 + c ≡ a.first + 2 * a.head + (2 + c) = omega arith in z) ∙ place a.head h.0 h.1 h.2 (2 + c) (omega arith)

    pub counts_one : (b : ℕ) → v.stage ≡ NewStage.Count b → BuildsAt g.words st.heap tr.thread v (NewStage.Count b) → Turned x code s ls g world tr
    counts_one b e h =
        let v' : NewView = record { arguments = a; stage = NewStage.Length b; head = v.head } in
        goes b h.0 h.1 h.2 0 1 (omega arith) (omega arith) (count_word a b) (count_place b h) (NewStage.Count b) e refl v' (λ found. told_is (NewStage.Count b) found e) refl refl refl
        (λ words off here.
        let f = given.first_is in
        (h.0, h.1, h.2, (λ i l. off (a.first + 2 * b + 2 + i) (λ z. omega arith) ∙ h.3 i l), ap (slice_index words) (let z : a.first + 2 * b ≡ first_cell s + 2 * b + 0 = omega arith in z) ∙ here))
      where
        count_place : (b : ℕ) → BuildsAt g.words st.heap tr.thread v (NewStage.Count b) → count_word v.arguments b ≡ first_cell s + 2 * b + 0
        count_place b h = ap (word_number a) (let z : a.first + 2 * b ≡ a.first + 2 * b + 0 = omega arith in z) ∙ place b h.0 h.1 h.2 0 (omega arith)

    -- ---- the top is moved
    pub moves_top : (top moved : ℕ) → v.stage ≡ NewStage.Move top moved → BuildsAt g.words st.heap tr.thread v (NewStage.Move top moved) → Turned x code s ls g world tr
    moves_top top moved e h =
        let h' = st.heap_stands in
        let found = slice_index g.words top_word in
        let d0 = asks_turn code s g tr may (step_of top_number (Cas top moved)) (λ found. goes_on_new m r site (told v found)) (next_turn (NewStage.Move top moved) e) in
        let d1 : after ≡ made_turn g t (slice_set g.words top_word (cond (found == top) moved found)) (goes_on_new m r site (record { arguments = a; stage = next_stage a (NewStage.Move top moved) found; head = v.head })) =
        d0.0 ∙ ap (λ v. made_turn g t (slice_set g.words top_word (cond (found == top) moved found)) (goes_on_new m r site v)) (told_is (NewStage.Move top moved) found e) in
        ⊎_elim
        (λ (q : found ≡ top).
        let v' : NewView = record { arguments = a; stage = NewStage.Count top; head = v.head } in
        let m' = at_stage m (Makes v') in
        let words = slice_set g.words top_word moved in
        let t1 : (found == top) ≡ true = ap (λ k. k == top) q ∙ eq_refl top in
        let t2 : nat_eq top found ≡ true = ap (nat_eq top) q ∙ eq_refl top in
        let d : after ≡ made_turn g t words m' = d1 ∙ ap (λ c. made_turn g t (slice_set g.words top_word (cond c moved found)) (goes_on_new m r site (record { arguments = a; stage = next_stage a (NewStage.Move top moved) found; head = v.head }))) t1
        ∙ ap (λ c. made_turn g t words (goes_on_new m r site (record { arguments = a; stage = cond c (NewStage.Count top) (try_from a found); head = v.head }))) t2 in
        silent (made_turn g t words m') d (carves top moved h (h'.top ∙ q) v' refl refl refl d0.1 (room_of code s g tr may words m' d)))
        (λ (ne : found ≡ top → ⊥).
        let v' : NewView = record { arguments = a; stage = try_from a found; head = v.head } in
        let t1 : (found == top) ≡ false = ne_eq found top ne in
        let t2 : nat_eq top found ≡ false = ne_eq top found (λ z. ne (sym z)) in
        let d : after ≡ made_turn g t g.words (after_new m r site v' (turn_of v')) = d1 ∙ ap (λ c. made_turn g t (slice_set g.words top_word (cond c moved found)) (goes_on_new m r site (record { arguments = a; stage = next_stage a (NewStage.Move top moved) found; head = v.head }))) t1
        ∙ ap (λ c. made_turn g t (slice_set g.words top_word found) (goes_on_new m r site (record { arguments = a; stage = cond c (NewStage.Count top) (try_from a found); head = v.head }))) t2
        ∙ ap (λ ws. made_turn g t ws (after_new m r site v' (turn_of v'))) (set-get_or g.words top_word 0) in
        try_next v' ea (λ k _. same_heads v' refl refl k) found refl d)
        (cases_eq found top)
      where
        carves : (top moved : ℕ) → BuildsAt g.words st.heap tr.thread v (NewStage.Move top moved) → st.heap.top ≡ top → (v' : NewView) → v'.arguments ≡ v.arguments → v'.head ≡ v.head → v'.stage ≡ NewStage.Count top → top_word < length g.words → g.made tr.thread + 1 ≤ 100000000
            → State x code s ls (made_turn g tr.thread (slice_set g.words top_word moved) (at_stage (g.threads tr.thread) (Makes v'))) world
        carves top moved h is_top v' ea' eh ev long few =
            let hs = st.heap_stands in
            let b = st.heap.top in
            let size = a.block in
            let words = slice_set g.words top_word moved in
            let at = index_put g.words top_word moved long in
            let off : (i : ℕ) → i ≢ top_word → slice_index words i ≡ slice_index g.words i = λ i ne. at i ∙ put_other (λ i. slice_index g.words i) top_word i moved ne in
            let given' = given in
            let first' = given'.first_is in
            let end' = given'.end_is in
            let cells_is : a.cells ≡ all_cells E cells = given'.cells_are in
            let size_is' : size ≡ B = given'.block_is ∙ ap block_of cells_is in
            let room0 = block.1.room in
            let room : 2 + a.cells ≤ 2 * size = omega arith in
            let moved_is = h.0 in
            let fits' = h.1 in
            let low = hs.kept.blocks.low in
            let f1 = fits.globals in let f2 = fits.most in let f3 = wt.globals.few in
            let nz : size ≢ 0 = λ z. omega arith in
            let stored = store_ok (arena s) st.heap hs.kept top_word moved (omega arith) (below_blocks (arena s) st.heap hs.kept top_word (omega arith)) in
            let heap1 : Heap = record st.heap { words = λ i. slice_index words i } in
            let kept1 : Kept (arena s) heap1 = subst (λ f. Kept (arena s) (record st.heap { words = f })) (fun_ext (λ i. ap (λ (f : ℕ → ℕ). put f top_word moved i) (fun_ext hs.words) ∙ sym (at i))) stored in
            let heap' = carved heap1 t size in
            let kept' = carve_ok (arena s) heap1 kept1 t size nz in
            let not_top : (p : ℕ) → st.heap.size p ≢ 0 → p ≡ b → ⊥ = λ p np z. let w = hs.kept.blocks.within p np in let np' = np in above np' w.1 z in
            let live_size : (o : ℕ) → o ≢ 0 → (world.obj o).live ≡ true → st.heap.size o ≢ 0 = λ o no' l z. let f = hs.kept.blocks.known o z in let y = (hs.live o no').0 l in cc in
            let m' = at_stage m (Makes v') in
            let top' : b + size ≡ moved = omega arith in
            let power' : size ≡ 2 ^ (n + 1) = size_is' ∙ block.1.power in
            let n_low : n < 16 = small_block n (subst (λ k. k ≤ 65536) power' (omega arith)) in
            builds_state x code s ls wt fits g world st tr may r count cells site is making RunsOn (Makes v') m.own.stop tt refl words
            (record {
              count = length-set g.words top_word moved;
              low = λ i _ _ ne. off i ne;
              are_words = λ i. subst (λ k. k < 2 ^ 64) (sym (at i)) (put_all (λ i y. y < 2 ^ 64) (λ i. slice_index g.words i) top_word moved (omega arith) (λ i _. st.are_words i) i);
            })
            heap'
            (others_heap s world st.heap heap' g.words words t (λ u _ p e. let np = built_size s st.cells g world.obj st.heap hs st.globals_cells p u e in (put_other st.heap.state b p (Built t) (not_top p np) ∙ e, put_other st.heap.size b p size (not_top p np)))
            (λ u _ p e i k. off i (λ z. let q = k.0 in omega arith)))
            (record {
              kept = kept';
              words = λ i. refl;
              top = top' ∙ sym (at top_word ∙ put_same (λ i. slice_index g.words i) top_word moved);
              within = (let q = end' in omega arith);
              heads = λ u k lu lk. hs.heads u k lu lk ∙ put_all (λ u (y : Machine). head_of (g.threads u) k ≡ head_of y k) g.threads t m' (sym (same_heads v' ea' eh k)) (λ u _. refl) u;
              powers = put_all (λ p y. y ≢ 0 → (k : ℕ) × ((k < 16) × (y ≡ 2 ^ (k + 1)))) st.heap.size b size (λ _. (n, (n_low, power'))) (λ p _ ne. hs.powers p ne);
              live = λ o no'. (
                (λ l. put_other st.heap.state b o (Built t) (not_top o (live_size o no' l)) ∙ (hs.live o no').0 l),
                (λ q. ⊎_elim
                    (λ (i : o ≡ b). let z : Built t ≡ Live = sym (put_same st.heap.state b (Built t)) ∙ ap (put st.heap.state b (Built t)) (sym i) ∙ q in absurd (cc))
                    (λ (ne : o ≡ b → ⊥). (hs.live o no').1 (sym (put_other st.heap.state b o (Built t) ne) ∙ q)) (cases_eq o b)),
              );
              room = λ o no' l. subst (λ k. 2 + st.cells o ≤ 2 * k) (sym (put_other st.heap.size b o size (not_top o (live_size o no' l)))) (hs.room o no' l);
              sizes = λ o no' l. put_other st.heap.size b o size (not_top o (live_size o no' l)) ∙ hs.sizes o no' l;
            })
            (subst (λ f. Shows x s st.cells st.elements (record (conc_of code g) { words = f }) world) (sym (fun_ext at))
            (apart_stored x s st.cells st.elements (conc_of code g) world st.sim st.apart top_word moved
            (record { cell = λ o i _ _ z. omega arith; count = λ o _ _ z. omega arith; length = λ o _ _ z. omega arith; shadow = λ p _ z. omega arith })))
            (λ i _. off (97 + i) (λ z. omega arith))
            (λ _. (
              ea' ∙ ea,
              subst (BuildsAt words heap' t v') (sym ev) (
                subst (λ (a : NewArguments). 2 + a.cells ≤ 2 * a.block) (sym ea') room,
                subst (λ p. put st.heap.state b (Built t) p ≡ Built t) is_top (put_same st.heap.state b (Built t)),
                subst (λ p. put st.heap.size b size p ≡ v'.arguments.block) is_top (put_same st.heap.size b size ∙ ap (λ (a : NewArguments). a.block) (sym ea')),
                λ i l. subst (λ (a : NewArguments). slice_index words (a.first + 2 * top + 2 + i) ≡ 0) (sym ea')
                    (subst (λ p. slice_index words (a.first + 2 * p + 2 + i) ≡ 0) is_top
                    (kept1.blank (a.first + 2 * b + 2 + i) (omega arith))),
              ),
            ))
            few
          where
            above : {p k c : ℕ} → k ≢ 0 → p + k ≤ c → p ≡ c → ⊥
            above ne le e = omega arith
