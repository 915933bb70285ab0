-- The last turn of a New: the length is written, and the object is there.
use Rattle.sharc_invariant.proofs.{Imports.{◌≡◌, ℕ, suc, ◌+◌, ◌*◌, ◌^◌, ◌<◌, ◌≤◌, ◌≢◌, true, false, cond, List, None, Some, refl, sym, ap, ◌∙◌, subst, inl, ⊎_elim, arith, cases_eq, eqb-true, eqb-false, get_or-set_same, get_or-set_other, length-set, fun_ext, length, slice_index, slice_set, nat_lt, min, max, ◌==◌, ◌↔◌, is_some, Contains, THREADS, Swap, NewLaws, NewView, told, NewArguments, epoch_of, Kind, Read, Write, NewStage, object_of, Code, Shape, RunsOn, Rests, Makes, Fits as FitsShape, granules, top_word, first_cell, Machine, instr_at, int, elements_of, size_of, new_state, asks_new, goes_on_new, made_machine, turn, Turn, Global, put, MayTurn, after_turn, one_thread, bounds, Instr, put_same, put_other, put_all, GranuleState, Bits, Passed, sum_to, Targets, ObjectType, field_in, is_mutex, type_at, type_of, cells_of, Labels, Refers, fill, Unknown, LessEntry, Fine, IsWellTyped, refs_in, ints_in, In, RegisterOf, CellOf, TypedReference, ObjectState, World, Shut, WorldInvariant, in_ref, make, null, place, put2, Heap, Kept, Built, Live, InBlock, IsListed, restated, Apart, MachineView, IsNobodys, lang_of, conc_of, Shows, shown, set_reg, store, cell_at, count_at, length_at, head_of, head_with, making_of, register_of, staged_of, noted_by, fresh_granule, made_turn, KeepsOthers, MakesOf, State, View, Runs, view_of, BuildsAt, HeapStands, Locks, TopStands, FramesStand, EntryStands, types_at, block_for, size_of_run, Turned, changes_objects, objects_now, objects_behind, owned, makes_object, is_length, new_behind, made_behind, zero_le}, TurnAt.{turn_at, turn_stands}, Effects.{make_ok, place_same, place_other}, Frames.{Agrees, Always, Low, filled, fill_stands, top_agrees, callers_agree, less_stands}, Filled.below_filled, Listed.restate_ok, Quiet.{heap_now, put_self, sum_up, sizes_kept}, Changes.{KeepsPart, conc_now, changed_state, held_same}, Turns.{asks_turn, room_of}, Own.{runs_at, closed_less, ref_inside}, Seen.reg_stored, Stores.arena, Unlogged.logged_entry, Heaps.{IsApart, apart_stored, block_word, built_size, low_block, built_dead}, Builds.{IsMaking, new_fine, new_begun, new_top, new_shut, new_register, new_noted, own_at, own_off, own_low, own_kept, own_others, own_epochs}, News.{IsGiven, is_given, word_in, new_first, clears_cell, counts_one, moves_top}, Objects.{block_is, stale_sound, found_granules, made_sim, positive, factor_low}, Others.loses, Owned.{owned_is, unchanged}}
use Rattle.sharc_heap.specs.Asks.{step_of, length_word}

module _ (x : Targets) (code : Code) (s : Shape) (ls : Labels) (wt : IsWellTyped x code ls) (fits : FitsShape code s) (laws : NewLaws) (g : Global Machine) (world : World) (st : State x code s ls g world) (tr : Turn)
    (may : MayTurn bounds (one_thread code s) g tr) (r count cells site : ℕ) (is : instr_at code (g.threads tr.thread).at.pc ≡ Instr.New r count cells site) (making : IsMaking (g.threads tr.thread).own.stage)
    (v : NewView) (at_v : (g.threads tr.thread).own.stage ≡ Makes v) (ea : v.arguments ≡ (new_state s (g.threads tr.thread) (elements_of (int (g.threads tr.thread) count)) cells).arguments)
    (b : ℕ) (at_b : v.stage ≡ NewStage.Length b) (h : BuildsAt g.words st.heap tr.thread v (NewStage.Length b)) where
  open turn_at st tr use {t, m, here, base, view, refs}
  open turn_stands st tr may use {low_t as on_t, rn}

  abbrev k : ℕ
  k = (g.threads tr.thread).at.refs + r

  abbrev E : ℕ
  E = elements_of (int (g.threads tr.thread) count)

  abbrev a : NewArguments
  a = v.arguments

  given : IsGiven s (g.threads tr.thread) E cells v.arguments
  given = is_given s m E cells a ea

  f : Fine x code ls (g.threads tr.thread).at.pc here (Instr.New r count cells site)
  f = new_fine x code s ls wt fits g world st tr may r count cells site is making

  built : st.heap.state b ≡ Built tr.thread
  built = h.1

  some : st.heap.size b ≢ 0
  some = built_size s st.cells g world.obj st.heap st.heap_stands st.globals_cells b t built

  low_b : (b ≢ 0) × (b + st.heap.size b ≤ granules s)
  low_b = low_block s st.cells g world.obj st.heap st.heap_stands st.globals_cells b some

  size_is : st.heap.size b ≡ v.arguments.block
  size_is = h.2

  gone_by : (world.obj b).live ≡ true → ⊥
  gone_by l = built_dead s st.cells g world.obj st.heap st.heap_stands st.globals_cells b t built l low_b.0

  gone : (world.obj b).live ≡ false
  gone = elim (world.obj b).live as (λ y. (world.obj b).live ≡ y → y ≡ false) [ true ↦ λ e. absurd (gone_by e) | false ↦ λ _. refl ] refl

  not_b : (o : ℕ) → (world.obj o).live ≡ true → o ≡ b → ⊥
  not_b o l e = gone_by (subst (λ o. (world.obj o).live ≡ true) e l)

  -- ---- how many cells there are
  many : 1 ≤ E
  many = elim (int (g.threads tr.thread) count) as (λ z. 1 ≤ elements_of z) [ Rattle.std.specs.Prelude.pos n ↦ at_least n | Rattle.std.specs.Prelude.negsuc n ↦ one_le ]
    where
      at_least : (n : ℕ) → 1 ≤ max 1 n
      at_least n = omega arith

      one_le : 1 ≤ 1
      one_le = omega arith

  abbrev size : ℕ
  size = v.arguments.cells

  few_granules : granules s ≤ 131073
  few_granules = let p = fits.globals in let q = fits.most in let z = wt.globals.few in omega arith

  size_low : v.arguments.cells < 2 ^ 20
  size_low = let p = h.0 in let q = size_is in let z = low_b.1 in let y = few_granules in omega arith

  counted_cells : (n s : ℕ) → 1 ≤ n → s ≡ min (max 1 n) (2 ^ 32) → s < 2 ^ 20 → s ≡ n
  counted_cells n s p e q = omega arith

  size_cells : v.arguments.cells ≡ E * cells
  size_cells = counted_cells (E * cells) size (positive E cells many f.2.4) given.cells_are size_low

  size_some : 1 ≤ v.arguments.cells
  size_some = let p = positive E cells many f.2.4 in let q = size_cells in omega arith

  elements_low : E < 2 ^ 64
  elements_low = below E cells f.2.4 (let p = size_low in let q = size_cells in omega arith)
    where
      below : (e c : ℕ) → 1 ≤ c → e * c < 2 ^ 20 → e < 2 ^ 64
      below e c p q = let z = factor_low e c p in omega arith

  -- ---- the word
  abbrev at : ℕ
  at = length_at s b

  inside : InBlock (arena s) st.heap b at
  inside = let p = h.0 in let q = size_is in let z = size_some in (omega arith, omega arith)

  abbrev words : List ℕ
  words = slice_set g.words (length_at s b) E

  abbrev m' : Machine
  m' = made_machine (g.threads tr.thread) r (record { arguments = v.arguments; stage = NewStage.Made b; head = v.head }) b

  word_is : length_word v.arguments b ≡ length_at s b
  word_is =
      let p = given.first_is in let q = given.end_is in let z = size_is in let y = low_b.1 in let u = h.0 in let w = size_some in
      word_in a (a.first + 2 * b + 1) (omega arith) ∙ (let e : a.first + 2 * b + 1 ≡ length_at s b = omega arith in e)

  done : (after_turn bounds (one_thread code s) g tr ≡ made_turn g tr.thread words m') × (length_at s b < length g.words)
  done =
      let act : turn code s m ≡ asks_new m r site v (Rattle.sharc_heap.specs.Stages.turn_of_stage a (NewStage.Length b)) =
      ap (λ i. Rattle.sharc_code.specs.Machine.act code s i m) is ∙ ap (Rattle.sharc_code.specs.Machine.new s m r E cells site) at_v ∙ ap (λ y. asks_new m r site v (Rattle.sharc_heap.specs.Stages.turn_of_stage a y)) at_b in
      let d = asks_turn code s g tr may (step_of (length_word a b) (Swap a.elements)) (λ found. goes_on_new m r site (told v found)) act in
      let found = slice_index g.words (length_word a b) in
      let told_is : told v found ≡ record { arguments = a; stage = NewStage.Made b; head = v.head } =
      ap (λ y. record { arguments = a; stage = Rattle.sharc_heap.specs.Stages.next_stage a y found; head = Rattle.sharc_heap.specs.Stages.next_head a y v.head found }) at_b in (
        d.0 ∙ ap (λ v. made_turn g t (slice_set g.words (length_word a b) a.elements) (goes_on_new m r site v)) told_is
            ∙ ap (λ e. made_turn g t (slice_set g.words (length_word a b) e) m') given.elements_are ∙ ap (λ k. made_turn g t (slice_set g.words k E) m') word_is,
        subst (λ k. k < length g.words) word_is d.1,
      )

  abbrev now : Global Machine
  now = made_turn g tr.thread words m'

  at_words : (i : ℕ) → slice_index words i ≡ put (λ i. slice_index g.words i) at E i
  at_words = own_at x code s ls wt fits g world st tr may r count cells site is making b at E built inside elements_low done.1

  off : (i : ℕ) → i ≢ length_at s b → slice_index words i ≡ slice_index g.words i
  off = own_off x code s ls wt fits g world st tr may r count cells site is making b at E built inside elements_low done.1

  -- ---- the world
  tp : TopStands x tr.thread view (g.threads tr.thread).at.refs (g.threads tr.thread).at.ints rn.names here
  tp = new_top x code s ls wt fits g world st tr may r count cells site is making

  abbrev ty : ObjectType
  ty = type_of refs b f.2.0

  empty_r : in_ref world (RegisterOf tr.thread k) ≡ 0
  empty_r = subst (EntryStands refs (types_at view base) r) f.1.empty ((tp (suc r) 0).env r (omega arith))

  -- the words before the length was written show the granules
  abbrev c0 : MachineView
  c0 = store (conc_of code g) at E

  abbrev c1 : MachineView
  c1 = set_reg c0 tr.thread k b

  abbrev G : ℕ → GranuleState
  G = found_granules s c1 b size

  abbrev w' : World
  w' = make (lang_of x) world (RegisterOf tr.thread k) b ty G

  abbrev new : ObjectState
  new = record { live = true; global = false; ty = ty; owner = tr.thread }

  abbrev O : ℕ → ObjectState
  O = put world.obj b new

  is_apart : IsApart s world.obj st.cells at
  is_apart = block_word s st.cells g world.obj st.heap st.heap_stands st.globals_cells b at some gone_by inside

  sim0 : Shows x s st.cells st.elements c0 world
  sim0 = apart_stored x s st.cells st.elements (conc_of code g) world st.sim st.apart at E is_apart

  sim1 : Shows x s st.cells st.elements c1 (record world { slots = place world.slots (In (RegisterOf t k)) (record { ty = ty; reference = b }) })
  sim1 = reg_stored x s st.cells st.elements c0 world sim0 st.apart t k (record { ty = ty; reference = b })

  unlocked : (j : ℕ) → world.mutex b j ≡ 0
  unlocked j = ⊎_elim (λ (e : world.mutex b j ≡ 0). e) (λ (ne : world.mutex b j ≡ 0 → ⊥). absurd (gone_by (st.locks.only b j ne).0)) (cases_eq (world.mutex b j) 0)

  zeros : (i : ℕ) → i < size → put (λ i. slice_index g.words i) at E (cell_at s b i) ≡ 0
  zeros i lt = put_other (λ i. slice_index g.words i) at (cell_at s b i) E (λ e. omega arith)
      ∙ ap (slice_index g.words) (let p = given.first_is in let e : cell_at s b i ≡ a.first + 2 * b + 2 + i = omega arith in e) ∙ h.3 i lt

  one_is : put (λ i. slice_index g.words i) at E (count_at s b) ≡ 1
  one_is = put_other (λ i. slice_index g.words i) at (count_at s b) E (λ e. omega arith) ∙ ap (slice_index g.words) (let p = given.first_is in let e : count_at s b ≡ a.first + 2 * b = omega arith in e) ∙ h.4

  sim2 : Shows x s (put st.cells b size) (put st.elements b E) c1 w'
  sim2 = made_sim x s st.cells st.elements c1 world t k b ty size E sim1 gone (λ i. st.inv.words.dead b i gone) unlocked zeros one_is (put_same (λ i. slice_index g.words i) at E)

  -- another object's granules lie apart
  nobodys : (j : ℕ) → 2 * j < size → IsNobodys world.obj st.cells (b + 1 + j)
  nobodys j lt o i lo li e =
      let ap' = block_word s st.cells g world.obj st.heap st.heap_stands st.globals_cells b (first_cell s + 2 * (b + 1 + j)) some gone_by (let p = h.0 in let q = size_is in (omega arith, omega arith)) in
      ap'.cell o (2 * i) lo li (omega arith)

  sound : (j : ℕ) → Bits THREADS (G j)
  sound j = elim (nat_lt (2 * j) size) as (λ q. nat_lt (2 * j) size ≡ q → Bits THREADS (cond q (shown s c1 (b + 1 + j)) fresh_granule)) [
    | true ↦ λ q. let lt : 2 * j < size = Rattle.std.proofs.Common.ltb-true (2 * j) size q in
        stale_sound THREADS (shown s c1 (b + 1 + j)) (λ u. sim1.stale (b + 1 + j) (let p = h.0 in let z = size_is in let y = low_b.1 in omega arith) (nobodys j lt) u)
    | false ↦ λ q. stale_sound THREADS fresh_granule (λ u. (zero_le 0, zero_le 0))
  ] refl

  shut : world.win tr.thread ≡ Shut
  shut = new_shut x code s ls wt fits g world st tr may r count cells site is making

  inv : WorldInvariant (size_of_run code s) (lang_of x) w'
  inv = make_ok (size_of_run code s) (lang_of x) world st.inv (RegisterOf t k) b ty G sound low_b.0 gone (λ e. f.2.1 (ap (λ (y : ObjectType). y.target) e))
      (on_t, ref_inside x code ls t view m here.function r rn.below f.1.is) empty_r shut (λ u q e. cc)

  was : (p : ℕ) → (p ≡ b → ⊥) → O p ≡ world.obj p
  was p ne = put_other world.obj b p new ne

  abbrev cells' : ℕ → ℕ
  cells' = put st.cells b size

  abbrev elements' : ℕ → ℕ
  elements' = put st.elements b E

  -- ---- the heap
  abbrev heap1 : Heap
  heap1 = heap_now st.heap words

  abbrev heap' : Heap
  heap' = restated heap1 b Live

  kept1 : Kept (arena s) heap1
  kept1 = own_kept x code s ls wt fits g world st tr may r count cells site is making b at E built inside elements_low done.1

  kept' : Kept (arena s) heap'
  kept' = restate_ok (arena s) heap1 kept1 b Live some (λ q. subst IsListed built q) (λ q. q)

  head_now : (u i : ℕ) → u < THREADS → i < 16 → st.heap.heads u (2 ^ (i + 1)) ≡ head_of (now.threads u) i
  head_now u i lu li = st.heap_stands.heads u i lu li ∙ put_all (λ u (y : Machine). head_of (g.threads u) i ≡ head_of y i) g.threads t m'
      (ap (λ y. head_with (making_of y) m.own.heads i) at_v
      ∙ elim (i == size_of a.block) as (λ q. (i == size_of a.block) ≡ q → cond q v.head (slice_index m.own.heads i) ≡ slice_index (slice_set m.own.heads (size_of a.block) v.head) i) [
        | true ↦ λ q. let e : i ≡ size_of a.block = eqb-true i (size_of a.block) q in let l = (st.threads t).has.heads in
            sym (ap (λ z. slice_index (slice_set m.own.heads z v.head) i) (sym e) ∙ get_or-set_same m.own.heads i v.head 0 (omega arith))
        | false ↦ λ q. sym (get_or-set_other m.own.heads (size_of a.block) i v.head 0 (eqb-false i (size_of a.block) q))
      ] refl)
      (λ u _. refl) u

  stands : HeapStands s cells' now O heap'
  stands =
      let q = st.heap_stands in
      record {
        kept = kept';
        words = λ i. refl;
        top = q.top ∙ sym (off top_word (λ e. omega arith));
        within = q.within;
        heads = head_now;
        powers = q.powers;
        live = λ o nz. ⊎_elim
            (λ (e : o ≡ b). ((λ _. ap (put st.heap.state b Live) e ∙ put_same st.heap.state b Live), (λ _. ap (λ p. (O p).live) e ∙ ap (λ (y : ObjectState). y.live) (put_same world.obj b new))))
            (λ (ne : o ≡ b → ⊥). ((λ l. put_other st.heap.state b o Live ne ∙ (q.live o nz).0 (sym (ap (λ (y : ObjectState). y.live) (was o ne)) ∙ l)), (λ l. ap (λ (y : ObjectState). y.live) (was o ne) ∙ (q.live o nz).1 (sym (put_other st.heap.state b o Live ne) ∙ l))))
            (cases_eq o b);
        room = λ o nz l. ⊎_elim
            (λ (e : o ≡ b). subst (λ o. 2 + cells' o ≤ 2 * st.heap.size o) (sym e) (subst (λ n. 2 + n ≤ 2 * st.heap.size b) (sym (put_same st.cells b size)) (subst (λ n. 2 + size ≤ 2 * n) (sym size_is) h.0)))
            (λ (ne : o ≡ b → ⊥). subst (λ n. 2 + n ≤ 2 * st.heap.size o) (sym (put_other st.cells b o size ne)) (q.room o nz (sym (ap (λ (y : ObjectState). y.live) (was o ne)) ∙ l)))
            (cases_eq o b);
        sizes = λ o nz l. ⊎_elim
            (λ (e : o ≡ b). ap st.heap.size e ∙ size_is ∙ given.block_is ∙ sym (block_is size size_some (let z = size_low in omega arith)) ∙ ap block_for (sym (put_same st.cells b size)) ∙ ap (λ o. block_for (cells' o)) (sym e))
            (λ (ne : o ≡ b → ⊥). q.sizes o nz (sym (ap (λ (y : ObjectState). y.live) (was o ne)) ∙ l) ∙ ap block_for (sym (put_other st.cells b o size ne)))
            (cases_eq o b);
      }

  -- ---- the objects lie apart
  lived : (o : ℕ) → (o ≡ b → ⊥) → (O o).live ≡ true → (world.obj o).live ≡ true
  lived o ne e = sym (ap (λ (y : ObjectState). y.live) (was o ne)) ∙ e

  live_size : (o : ℕ) → o ≢ 0 → (world.obj o).live ≡ true → st.heap.size o ≢ 0
  live_size o nz l z = let p = st.heap_stands.kept.blocks.known o z in let q = (st.heap_stands.live o nz).0 l in cc

  apart : Apart s O cells'
  apart = record {
    apart = λ o p lo lp lt. ⊎_elim
        (λ (eo : o ≡ b). ⊎_elim
        (λ (ep : p ≡ b). absurd (omega arith))
        (λ (np : p ≡ b → ⊥).
        let pn : p ≢ 0 = λ z. omega arith in
        let z = st.heap_stands.kept.blocks.apart b p some (live_size p pn (lived p np lp)) (omega arith) in
        let c : cells' o ≡ size = ap cells' eo ∙ put_same st.cells b size in let y = h.0 in let w = size_is in omega arith)
        (cases_eq p b))
        (λ (no' : o ≡ b → ⊥). ⊎_elim
        (λ (ep : p ≡ b).
        let c : cells' o ≡ st.cells o = put_other st.cells b o size no' in
        ⊎_elim
        (λ (z : o ≡ 0). let y : st.cells o ≡ 2 * s.globals = ap st.cells z ∙ st.globals_cells in let w = st.heap_stands.kept.blocks.within b some in let w0 = w.0 in omega arith)
        (λ (nz : o ≡ 0 → ⊥). let y = st.heap_stands.kept.blocks.apart o b (live_size o nz (lived o no' lo)) some (omega arith) in let w = st.heap_stands.room o nz (lived o no' lo) in omega arith)
        (cases_eq o 0))
        (λ (np : p ≡ b → ⊥). let c : cells' o ≡ st.cells o = put_other st.cells b o size no' in let z = st.apart.apart o p (lived o no' lo) (lived p np lp) lt in omega arith)
        (cases_eq p b))
        (cases_eq o b);
    within = λ o q lo lt. ⊎_elim
        (λ (e : o ≡ b). let c : cells' o ≡ size = ap cells' e ∙ put_same st.cells b size in let y = h.0 in let w = size_is in let z = low_b.1 in omega arith)
        (λ (ne : o ≡ b → ⊥). st.apart.within o q (lived o ne lo) (subst (λ n. 2 * q < n) (put_other st.cells b o size ne) lt))
        (cases_eq o b);
    headers = λ o lo. ⊎_elim
        (λ (e : o ≡ b). let y = h.0 in let w = size_is in let z = low_b.1 in omega arith)
        (λ (ne : o ≡ b → ⊥). st.apart.headers o (lived o ne lo))
        (cases_eq o b);
  }

  -- ---- the thread
  leads : Rattle.sharc_invariant.specs.Labels.Leads ls ((g.threads tr.thread).at.pc + 1) (fill here r (Refers f.2.0) r true)
  leads = f.2.7

  own : KeepsPart (g.threads tr.thread) m'
  own = record {
    sizes = sizes_kept (g.threads tr.thread) m' (st.threads t).has.table refl (length-set m.refs k b) refl refl;
    held = refl;
    heads = length-set m.own.heads (size_of a.block) v.head;
    spawns = λ n q. absurd q;
    begun_before = new_begun x code s ls wt fits g world st tr may r count cells site is making m.at.pc refl;
    begun = new_begun x code s ls wt fits g world st tr may r count cells site is making (m.at.pc + 1) leads.function;
  }

  same_regs : (i : ℕ) → register_of code m' i ≡ put (register_of code (g.threads tr.thread)) k b i
  same_regs i =
      let reg = new_register x code s ls wt fits g world st tr may r count cells site is making in
      let lt : k < length m.refs = subst (λ n. k < n) (sym (st.threads t).has.refs) (ref_inside x code ls t view m here.function r rn.below f.1.is) in
      no_freed (instr_at code (m.at.pc + 1)) i
      ∙ put_all (λ i y. slice_index (slice_set m.refs k b) i ≡ y) (register_of code m) k b (get_or-set_same m.refs k b 0 lt) (λ i ne. get_or-set_other m.refs k i b 0 ne ∙ sym (reg i)) i
    where
      no_freed : (ins : Rattle.sharc_code.specs.declared.instr.Instr.Instr) (i : ℕ) → cond (Rattle.sharc_invariant.specs.Words.is_freed ins Rests base i) 0 (slice_index (slice_set (g.threads tr.thread).refs k b) i) ≡ slice_index (slice_set (g.threads tr.thread).refs k b) i
      no_freed (Instr.Free a c d) i = refl
      no_freed _ i = refl

  conc_is : conc_of code now ≡ c1
  conc_is =
      let rs : put (λ u. register_of code (g.threads u)) t (register_of code m') ≡ put2 (λ u. register_of code (g.threads u)) t k b = ap (put (λ u. register_of code (g.threads u)) t) (fun_ext same_regs) in
      let sg = fun_ext (put_self (λ u. staged_of (g.threads u).own.stage) t 0 (sym (ap staged_of at_v))) in
      let n : (kind : Kind) → put (λ u. noted_by (g.threads u) kind) t (noted_by m' kind) ≡ (λ u. noted_by (g.threads u) kind) = λ kind.
      fun_ext (put_self (λ u. noted_by (g.threads u) kind) t (noted_by m' kind) (fun_ext (new_noted x code s ls wt fits g world st tr may r count cells site is making Rests tt RunsOn refl kind))) in
      let p = n Read in
      let q = n Write in
      let ws = fun_ext at_words in
      conc_now x code s ls wt g world st t may.started words m' own (own_low x code s ls wt fits g world st tr may r count cells site is making b at E built inside elements_low done.1)
      ∙ (λ i. record (conc_of code g) { words = ws i; regs = rs i; staged = sg i; read_notes = p i; write_notes = q i })

  reg_is : (u i : ℕ) → u ≢ tr.thread → w'.slots (In (RegisterOf u i)) ≡ world.slots (In (RegisterOf u i))
  reg_is u i ne = place_other world.slots (In (RegisterOf t k)) (In (RegisterOf u i)) (record { ty = ty; reference = b }) (λ e. ne (cc))

  cell_was : (p i : ℕ) → (p ≡ b → ⊥) → w'.slots (CellOf p i) ≡ world.slots (CellOf p i)
  cell_was p i ne = ap (λ (f : ℕ → TypedReference). f i) (put_other (λ p i. world.slots (CellOf p i)) b p (λ i. null (type_at x ty b i)) ne)

  not_it : (u i : ℕ) → in_ref world (RegisterOf u i) ≢ 0 → in_ref world (RegisterOf u i) ≡ b → ⊥
  not_it u i nz e = not_b (in_ref world (RegisterOf u i)) (st.inv.words.fits (In (RegisterOf u i)) nz).live e

  others : KeepsOthers s world w' st.heap heap' g.words words tr.thread
  others = record {
    regs = λ u ne i. reg_is u i ne;
    win = λ u _. refl;
    passed = λ u ne o j q c p. subst (λ (f : ℕ → GranuleState). Passed (f j) u q) (sym (put_other world.gran b o G (⊎_elim (λ (z : o ≡ 0) e. low_b.0 (sym e ∙ z)) (λ c e. not_it u c.0 (λ z. c.1.1 (sym c.1.0 ∙ z)) (c.1.0 ∙ e)) c))) p;
    sole = λ u ne i e j. loses (ap (λ (f : ℕ → GranuleState). f j) (put_other world.gran b (in_ref world (RegisterOf u i)) G (not_it u i (subst (Rattle.sharc_invariant.specs.World.WinOk (lang_of x) world u) e (st.inv.wins u)).0)));
    cells = λ u ne i e j. ap (λ (h : TypedReference). h.reference) (cell_was (in_ref world (RegisterOf u i)) j (not_it u i (subst (Rattle.sharc_invariant.specs.World.WinOk (lang_of x) world u) e (st.inv.wins u)).0));
    built = λ u ne p e. (put_other st.heap.state b p Live (λ q. let z : Built u ≡ Built t = sym e ∙ ap st.heap.state q ∙ built in ne (cc)) ∙ e, refl);
    within = λ u ne p e i n. own_others x code s ls wt fits g world st tr may r count cells site is making b at E built inside elements_low done.1 u p i ne e n;
  }

  -- ---- mutexes
  locks : Locks x s cells' w' now
  locks =
      let held_now : (u : ℕ) → (now.threads u).own.held ≡ (g.threads u).own.held = held_same x code s ls wt g world st t may.started words m' own (own_low x code s ls wt fits g world st tr may r count cells site is making b at E built inside elements_low done.1) in
      record {
        held = λ u o j lt lo lj mx. ⊎_elim
            (λ (e : o ≡ b). (
              (λ q. absurd (let z : world.mutex o j ≡ 0 = ap (λ o. world.mutex o j) e ∙ unlocked j in omega arith)),
              (λ q.
                  let en = logged_entry (g.threads u).own.held (cell_at s o j) (subst (λ hd. is_some (object_of hd (cell_at s o j)) ≡ true) (held_now u) q) in
                  let lg = st.locks.logged u en.0 en.1.0 in
                  let lj' : j < size = subst (λ n. j < n) (ap cells' e ∙ put_same st.cells b size) lj in
                  let word = block_word s st.cells g world.obj st.heap st.heap_stands st.globals_cells b (cell_at s b j) some gone_by (let p = h.0 in let z = size_is in (omega arith, omega arith)) in
                  absurd (word.cell en.0.object lg.0 lg.1.1 lg.1.2 (sym lg.1.0 ∙ en.1.1 ∙ ap (λ o. cell_at s o j) e))),
            ))
            (λ (ne : o ≡ b → ⊥).
            subst (λ hd. (world.mutex o j ≡ suc u) ↔ (is_some (object_of hd (cell_at s o j)) ≡ true)) (sym (held_now u))
            (st.locks.held u o j lt (lived o ne lo) (subst (λ n. j < n) (put_other st.cells b o size ne) lj) (subst (λ (y : ObjectState). is_mutex (field_in x y.ty j).holds ≡ true) (was o ne) mx)))
            (cases_eq o b);
        logged = λ u en c.
            let lg = st.locks.logged u en (subst (λ hd. Contains hd en) (held_now u) c) in
            let ne = not_b en.object lg.1.1 in (
              lg.0,
              (
                lg.1.0,
                ap (λ (y : ObjectState). y.live) (was en.object ne) ∙ lg.1.1,
                subst (λ n. lg.0 < n) (sym (put_other st.cells b en.object size ne)) lg.1.2,
                subst (λ (y : ObjectState). is_mutex (field_in x y.ty lg.0).holds ≡ true) (sym (was en.object ne)) lg.1.3,
              ),
            );
        few = st.locks.few;
        only = λ o j q.
            let z = st.locks.only o j q in
            let ne = not_b o z.0 in
            (ap (λ (y : ObjectState). y.live) (was o ne) ∙ z.0, subst (λ n. j < n) (sym (put_other st.cells b o size ne)) z.1, subst (λ (y : ObjectState). is_mutex (field_in x y.ty j).holds ≡ true) (sym (was o ne)) z.2);
      }

  -- ---- what the thread sees
  abbrev view1 : View
  view1 = record view { gran = w'.gran; elements = elements' }

  sees : (On OnInt : ℕ → Type 0) → Agrees tr.thread view view1 On OnInt
  sees On OnInt = record {
    refs = λ i _. refl;
    types = λ i _. refl;
    vals = λ i _. refl;
    elements = λ i _. ⊎_elim
        (λ (z : view.refs i ≡ 0). sym (put_other st.elements b (view.refs i) E (λ e. low_b.0 (sym e ∙ z))))
        (λ (nz : view.refs i ≡ 0 → ⊥). sym (put_other st.elements b (view.refs i) E (not_it t i nz)))
        (cases_eq (view.refs i) 0);
    passed = λ o j q c p. subst (λ (f : ℕ → GranuleState). Passed (f j) t q) (sym (put_other world.gran b o G (⊎_elim (λ (z : o ≡ 0) e. low_b.0 (sym e ∙ z)) (λ c e. not_it t c.0 (λ z. c.1.1.1 (sym c.1.1.0 ∙ z)) (c.1.1.0 ∙ e)) c))) p;
  }

  same_view : view_of elements' w' tr.thread m' ≡ filled view1 k b ty
  same_view =
      let hh : TypedReference = record { ty = ty; reference = b } in
      let fr : (λ i. in_ref w' (RegisterOf t i)) ≡ put (λ i. in_ref world (RegisterOf t i)) k b = fun_ext (λ j. put_all (λ j y. in_ref w' (RegisterOf t j) ≡ y) (λ i. in_ref world (RegisterOf t i)) k b
      (ap (λ (h : TypedReference). h.reference) (place_same world.slots (In (RegisterOf t k)) hh)) (λ j ne. ap (λ (h : TypedReference). h.reference) (place_other world.slots (In (RegisterOf t k)) (In (RegisterOf t j)) hh (λ e. ne (cc)))) j) in
      let ft : (λ i. (w'.slots (In (RegisterOf t i))).ty) ≡ put (λ i. (world.slots (In (RegisterOf t i))).ty) k ty = fun_ext (λ j. put_all (λ j y. (w'.slots (In (RegisterOf t j))).ty ≡ y) (λ i. (world.slots (In (RegisterOf t i))).ty) k ty
      (ap (λ (h : TypedReference). h.ty) (place_same world.slots (In (RegisterOf t k)) hh)) (λ j ne. ap (λ (h : TypedReference). h.ty) (place_other world.slots (In (RegisterOf t k)) (In (RegisterOf t j)) hh (λ e. ne (cc)))) j) in
      λ i. record view1 { refs = fr i; types = ft i }

  runs_now : Runs x code s ls elements' w' heap' now tr.thread m'
  runs_now =
      let view' = view_of elements' w' t m' in
      let top1 = top_agrees x t view view1 base m.at.ints rn.names here (sees Always Always) tp in
      let top2 = fill_stands x t view1 base m.at.ints rn.names here (ints_in code here.function) (refs_in code here.function) r b ty (Refers f.2.0) r true (wt.scoped m.at.pc) f.1.empty f.2.6 (λ _. refl) (inl refl) (λ _. low_b.0) top1 in
      let below1 : FramesStand x code ls t view1 m here.function = elim here.function as (λ f. FramesStand x code ls t view m f → FramesStand x code ls t view1 m f) [
        | None ↦ λ h. h
        | Some f ↦ λ h. (callers_agree x code ls t view view1 m.frames m.at.depth m.at.refs m.at.ints f (sees (Low base) (Low m.at.ints)) h.0, h.1, h.2)
      ] rn.below in
      let below2 : FramesStand x code ls t view' m' here.function = subst (λ v. FramesStand x code ls t v m' here.function) (sym same_view) (below_filled x code ls t view1 m m' r b ty refl refl refl refl here.function below1) in
      let gate' = closed_less (ls.at (m.at.pc + 1)).gate leads.gate in
      runs_at x code s ls elements' w' heap' now t m' rn.names refl
      (less_stands x t view' base m.at.ints rn.names (fill here r (Refers f.2.0) r true) (ls.at (m.at.pc + 1)) leads (subst (λ v. TopStands x t v base m.at.ints rn.names (fill here r (Refers f.2.0) r true)) (sym same_view) top2))
      (subst (FramesStand x code ls t view' m') (sym leads.function) below2)
      (subst (Rattle.sharc_invariant.specs.State.GateStands s w' t m') (sym gate') shut)
      (λ q. rn.room (leads.room q))

  makes_turned : Turned x code s ls g world tr
  makes_turned =
      let low = own_low x code s ls wt fits g world st tr may r count cells site is making b at E built inside elements_low done.1 in
      let eps = own_epochs x code s ls wt fits g world st tr may r count cells site is making b at E built inside elements_low done.1 in
      let rows : (p : ℕ) → p ≢ 0 → (O p).live ≡ true → ((O p).global ≡ false) × ((O p).ty.target < length x.rows) = λ p.
      put_all (λ p (y : ObjectState). p ≢ 0 → y.live ≡ true → (y.global ≡ false) × (y.ty.target < length x.rows)) world.obj b new (λ _ _. (refl, f.2.2)) (λ p _ n l. st.rows p n l) p in
      let whole : (p : ℕ) → p ≢ 0 → (O p).live ≡ true → (1 ≤ elements' p) × (cells' p ≡ elements' p * cells_of x (O p).ty.target) = λ p n l. ⊎_elim
      (λ (e : p ≡ b).
      let c : cells' p ≡ size = ap cells' e ∙ put_same st.cells b size in
      let d : elements' p ≡ E = ap elements' e ∙ put_same st.elements b E in
      let o : (O p).ty.target ≡ f.2.0.target = ap (λ p. (O p).ty.target) e ∙ ap (λ (y : ObjectState). y.ty.target) (put_same world.obj b new) in
      (subst (λ n. 1 ≤ n) (sym d) many, c ∙ size_cells ∙ ap (λ n. E * n) f.2.3 ∙ ap (λ n. E * cells_of x n) (sym o) ∙ ap (λ n. n * cells_of x (O p).ty.target) (sym d)))
      (λ (ne : p ≡ b → ⊥).
      let z = st.whole p n (lived p ne l) in
      let d = put_other st.elements b p E ne in
      (subst (λ n. 1 ≤ n) (sym d) z.0, put_other st.cells b p size ne ∙ z.1 ∙ ap (λ (y : ObjectState). st.elements p * cells_of x y.ty.target) (sym (was p ne)) ∙ ap (λ n. n * cells_of x (O p).ty.target) (sym d)))
      (cases_eq p b) in (
        w',
        subst (λ y. State x code s ls y w') (sym done.0)
            (changed_state x code s ls wt g world st t may.started words m' own low cells' elements' heap' w' others (λ u. refl)
            (λ u q _. ⊎_elim
            (λ (z : in_ref world (RegisterOf u q) ≡ 0). put_other st.elements b (in_ref world (RegisterOf u q)) E (λ e. low_b.0 (sym e ∙ z)))
            (λ (nz : in_ref world (RegisterOf u q) ≡ 0 → ⊥). put_other st.elements b (in_ref world (RegisterOf u q)) E (not_it u q nz))
            (cases_eq (in_ref world (RegisterOf u q)) 0))
            inv (subst (λ c. Shows x s cells' elements' c w') (sym conc_is) sim2) apart stands locks (put_other world.obj b 0 new (λ e. low_b.0 (sym e))) (put_other st.cells b 0 size (λ e. low_b.0 (sym e))) rows whole
            (λ i lt. let p = st.epochs i lt in let q = sum_up THREADS g.made t 1 in subst (λ n. epoch_of n ≤ sum_to THREADS (put g.made t (g.made t + 1))) (sym (eps i lt)) (omega arith))
            (λ _. runs_now) (λ q. absurd (cc)) (room_of code s g tr may words m' done.0)),
        MakesOf k b ty G (ap (λ i. changes_objects i m) is ∙ ap makes_object at_v ∙ ap is_length at_b) gone empty_r refl,
      )

  type_told : (ls.at ((g.threads tr.thread).at.pc + 1)).env r ≢ Unknown
  type_told e =
      let k' = fill here r (Refers f.2.0) r true in
      let a : k'.env r ≡ Unknown = subst (LessEntry k' r (k'.env r)) e (leads.env r) in
      let z : Refers f.2.0 ≡ Unknown = sym (put_same here.env r (Refers f.2.0)) ∙ a in cc

  made_objects : makes_turned.0.obj ≡ objects_now code s ls g tr world.obj
  unfolding makes_turned
  made_objects =
      let m'' = (after_turn bounds (one_thread code s) g tr).threads t in
      let held = owned_is x code s ls g tr may.started w' makes_turned.1 m' words done.0 refl refl r b ty (place_same world.slots (In (RegisterOf t k)) (record { ty = ty; reference = b })) low_b.0 type_told in
      ap (λ T. put world.obj b (owned t T)) held ∙ sym (ap (λ y. new_behind ls t r m'' y world.obj) at_b) ∙ sym (ap (λ y. made_behind ls t r m'' y world.obj) at_v) ∙ sym (ap (λ i. objects_behind ls t i m m'' world.obj) is)

  pub new_makes : (k : Turned x code s ls g world tr) × (k.0.obj ≡ objects_now code s ls g tr world.obj)
  new_makes = (makes_turned, made_objects)

-- ---- all turns of a New
module _ (x : Targets) (code : Code) (s : Shape) (ls : Labels) (wt : IsWellTyped x code ls) (fits : FitsShape code s) (laws : NewLaws) (g : Global Machine) (world : World) (st : State x code s ls g world) (tr : Turn)
    (may : MayTurn bounds (one_thread code s) g tr) (r count cells site : ℕ) (is : instr_at code (g.threads tr.thread).at.pc ≡ Instr.New r count cells site) where
  abbrev Done : Type 0
  Done = (k : Turned x code s ls g world tr) × (k.0.obj ≡ objects_now code s ls g tr world.obj)

  -- no object changes
  plain : makes_object (g.threads tr.thread).own.stage ≡ false → Turned x code s ls g world tr → Done
  plain e k = unchanged x code s ls g world tr (ap (λ i. changes_objects i (g.threads tr.thread)) is ∙ e) k

  by_stage : (y : Rattle.sharc_code.specs.declared.state.Stage.Stage) → (g.threads tr.thread).own.stage ≡ y
      → Rattle.sharc_invariant.specs.State.StageStands code s st.elements world st.heap g.words tr.thread (g.threads tr.thread) (Instr.New r count cells site) y → Done
  by_stage Rests e h = plain (ap makes_object e) (new_first x code s ls wt fits laws g world st tr may r count cells site is (subst IsMaking (sym e) tt) e)
  by_stage (Makes v) e h = by_step v.stage refl h.1
    where
      mk : IsMaking (g.threads tr.thread).own.stage
      mk = subst IsMaking (sym e) tt

      by_step : (y : Rattle.sharc_heap.specs.declared.stage.NewStage.NewStage) → v.stage ≡ y → BuildsAt g.words st.heap tr.thread v y → Done
      by_step (NewStage.Cell c) q b = plain (ap makes_object e ∙ ap is_length q) (clears_cell x code s ls wt fits laws g world st tr may r count cells site is mk v e h.0 c q b)
      by_step (NewStage.Count c) q b = plain (ap makes_object e ∙ ap is_length q) (counts_one x code s ls wt fits laws g world st tr may r count cells site is mk v e h.0 c q b)
      by_step (NewStage.Move top moved) q b = plain (ap makes_object e ∙ ap is_length q) (moves_top x code s ls wt fits laws g world st tr may r count cells site is mk v e h.0 top moved q b)
      by_step (NewStage.Length c) q b = new_makes x code s ls wt fits laws g world st tr may r count cells site is mk v e h.0 c q b
      by_step _ q b = absurd b
  by_stage _ e h = absurd h

  pub New_keeps : Done
  New_keeps =
      let rn = (st.threads tr.thread).runs may.started may.next.runs in
      let m = g.threads tr.thread in
      by_stage m.own.stage refl (subst (λ i. Rattle.sharc_invariant.specs.State.StageStands code s st.elements world st.heap g.words tr.thread m i m.own.stage) is rn.stage)
