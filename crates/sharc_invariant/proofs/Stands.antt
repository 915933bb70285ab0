-- Of counts, references and windows the invariant says what the machine invariant does.
use Rattle.sharc_invariant.proofs.{Imports.{◌≡◌, ℕ, zero, suc, ◌+◌, ◌*◌, ◌/◌, ◌<◌, ◌≢◌, ◌⊎◌, true, false, cond, refl, sym, ap, ◌∙◌, subst, inl, inr, ⊎_elim, arith, cases_eq, cases_Bool, and_parts, and_from, ltb-true, lt-ltb, true_from_ne_false, fun_ext, slice_index, nat_lt, ◌&&◌, THREADS, FRAMES, Code, Cell, Instr, Shape, Stage, Links, granules, words_of, cell_word, cell_of, count_word, length_word, Machine, instr_at, ref, most_refs, Global, one, sum_to, Targets, cells_of, field_in, is_pointer, is_private, type_at, type_of, Gate, Closed, Checked, Holds, Loaded, HoldsLoaded, SoleGate as Sole, Empty, Refers, Unknown, Label, Labels, IsWellTyped, Holder, RegisterOf, ArgumentOf, LogOf, Staged, Slot, In, CellOf, ObjectState, IsLoaded, Sole as IsSoleOf, World, WinOk, Based, base_of, total, in_ref, lang_of, register_of, argument_of, is_freed, count_at, cell_at, State, EntryStands, GateStands, label_now, view_of, refs_at, types_at, base_of_cell, object_of_cell, number_in, size_of_run, cells_now, is_pointer_now, cell_refers, register_refers, log_refers, hand_refers, references_to, Has, IsTyped, IsKept, HoldsStill, IsAlone, WindowStands, WasLoaded, IsSole, IsOn, label_of, HasType, MachineInvariant, StateStands, ne_eq}, Sums.sum_ext, Counts.count_is, Empties.cell_word_is, Effects.{sole_at, only_slot}, Loads.lang_laws, Sweeps.length_is}

-- where something stands directly before, the registers of a thread refer to what they hold
registers_shown : (l : Label) (i : Instr) (stage : Stage) (base : ℕ) → ((label_now l i stage).gate ≡ Closed) ⊎ ((j : ℕ) → is_freed i stage base j ≡ false)
registers_shown l (Instr.Free r layout site) (Links all) base = inl refl
registers_shown l _ stage base = inr (λ j. refl)

module _ (x : Targets) (code : Code) (s : Shape) (ls : Labels) (wt : IsWellTyped x code ls) (g : Global Machine) (world : World) (st : State x code s ls g world) where
  abbrev obj : ℕ → ObjectState
  obj = world.obj

  -- ---- cells
  live_of : (p i : ℕ) → (world.slots (CellOf p i)).reference ≢ 0 → (obj p).live ≡ true
  live_of p i nz = true_from_ne_false (obj p).live (λ e. nz (st.inv.words.dead p i e))

  cells_are : (p : ℕ) → (obj p).live ≡ true → cells_now x s g obj p ≡ st.cells p
  cells_are zero live = sym st.globals_cells
  cells_are (suc p) live =
      let o = suc p in
      let nz : o ≢ 0 = λ e. cc in
      let long : st.elements o ≡ slice_index g.words (length_word s o) = st.sim.lengths o nz live ∙ ap (λ i. slice_index g.words i) (sym (length_is s o (st.apart.headers o live))) in
      ap (λ b. cond b (2 * s.globals) (slice_index g.words (length_word s o) * cells_of x (obj o).ty.target)) (ne_eq o 0 nz)
      ∙ ap (λ n. n * cells_of x (obj o).ty.target) (sym long) ∙ sym (st.whole o nz live).1

  word_is : (p i : ℕ) → (obj p).live ≡ true → i < st.cells p → cell_word s (cell_of p i) ≡ cell_at s p i
  word_is p i live lt = cell_word_is s p i (st.apart.within p (i / 2) live (omega arith))

  pub cell_is : (p i : ℕ) → cell_refers x s g obj p i ≡ (world.slots (CellOf p i)).reference
  cell_is p i =
      let b = is_pointer_now x s g obj p i in
      let v = slice_index g.words (cell_word s (cell_of p i)) in
      ⊎_elim
      (λ (e : b ≡ true).
      let a = and_parts (obj p).live (nat_lt i (cells_now x s g obj p) && is_pointer (field_in x (obj p).ty i).holds) e in
      let c = and_parts (nat_lt i (cells_now x s g obj p)) (is_pointer (field_in x (obj p).ty i).holds) a.1 in
      let lt : i < st.cells p = subst (λ n. i < n) (cells_are p a.0) (ltb-true i (cells_now x s g obj p) c.0) in
      ap (λ b. cond b v 0) e ∙ ap (λ w. slice_index g.words w) (word_is p i a.0 lt) ∙ sym (st.sim.pointers p i a.0 lt c.1))
      (λ (e : b ≡ false). ap (λ b. cond b v 0) e ∙ ⊎_elim
      (λ (z : (world.slots (CellOf p i)).reference ≡ 0). sym z)
      (λ (nz : (world.slots (CellOf p i)).reference ≢ 0).
      let live = live_of p i nz in
      let k = st.sim.others p i nz in
      let lt : nat_lt i (cells_now x s g obj p) ≡ true = lt-ltb i (cells_now x s g obj p) (subst (λ n. i < n) (sym (cells_are p live)) k.0) in
      let q : b ≡ true = and_from (obj p).live (nat_lt i (cells_now x s g obj p) && is_pointer (field_in x (obj p).ty i).holds) live
      (and_from (nat_lt i (cells_now x s g obj p)) (is_pointer (field_in x (obj p).ty i).holds) lt k.1) in
      absurd (cc))
      (cases_eq (world.slots (CellOf p i)).reference 0))
      (cases_Bool b)

  -- ---- counts
  pub count_stands : (o : ℕ) → o ≢ 0 → (obj o).live ≡ true → slice_index g.words (count_word s o) ≡ references_to x code s g obj o
  unfolding total
  count_stands o nz live =
      let word : slice_index g.words (count_word s o) ≡ slice_index g.words (count_at s o) = ap (λ i. slice_index g.words i) (count_is s o (st.apart.headers o live)) in
      let shown = st.sim.counts o nz live in
      let f = world.slots in
      let all_regs = FRAMES * most_refs code.functions.items in
      let a = sum_ext THREADS (λ t. sum_to all_regs (λ i. one (register_refers code g t i) o)) (λ t. sum_to all_regs (λ r. one (f (In (RegisterOf t r))).reference o))
      (λ t _. sum_ext all_regs (λ i. one (register_refers code g t i) o) (λ r. one (f (In (RegisterOf t r))).reference o) (λ r _. ap (λ n. one n o) (st.sim.regs t r))) in
      let b = sum_ext THREADS (λ t. one (argument_of code g t) o) (λ t. one (f (In (ArgumentOf t))).reference o) (λ t _. ap (λ n. one n o) (st.sim.args t)) in
      let c = sum_ext THREADS (λ t. sum_to (words_of s) (λ word. one (log_refers g t word) o)) (λ t. sum_to (words_of s) (λ i. one (f (In (LogOf t i))).reference o))
      (λ t _. sum_ext (words_of s) (λ word. one (log_refers g t word) o) (λ i. one (f (In (LogOf t i))).reference o) (λ i _. ap (λ n. one n o) (st.sim.logs t i))) in
      let d = sum_ext THREADS (λ t. one (hand_refers g t) o) (λ t. one (f (In (Staged t))).reference o) (λ t _. ap (λ n. one n o) (st.sim.staged t)) in
      let e = sum_ext (granules s) (λ p. sum_to (2 * granules s) (λ i. one (cell_refers x s g obj p i) o)) (λ p. sum_to (2 * granules s) (λ i. one (f (CellOf p i)).reference o))
      (λ p _. sum_ext (2 * granules s) (λ i. one (cell_refers x s g obj p i) o) (λ i. one (f (CellOf p i)).reference o) (λ i _. ap (λ n. one n o) (sym (cell_is p i)))) in
      word ∙ sym shown ∙ (st.inv.words.counts o nz live (st.rows o nz live).0) ∙ (omega arith)

  -- ---- one reference
  has : (a : Holder) (t o : ℕ) → in_ref world a ≡ o → Rattle.sharc_invariant.specs.World.thread_of a ≡ t → o ≢ 0 → Has x obj t o
  has a t o e who nz =
      let k = st.inv.words.fits (In a) (λ z. nz (sym e ∙ z)) in
      let P : ℕ → Type 0 = λ o. (obj o).live ≡ true in
      record {
        live = subst P e k.live;
        own = λ p. ap (λ q. (obj q).owner) (sym e) ∙ k.own (ap (is_private x) (sym k.typed ∙ ap (λ q. (obj q).ty) e) ∙ p) ∙ who;
      }

  typed_cell : (p i o : ℕ) → (world.slots (CellOf p i)).reference ≡ o → o ≢ 0 → IsTyped x obj p i o
  typed_cell p i o e nz =
      let nz' : (world.slots (CellOf p i)).reference ≢ 0 = λ z. nz (sym e ∙ z) in
      let live = live_of p i nz' in
      let k = st.inv.words.fits (CellOf p i) nz' in
      let P : ℕ → Type 0 = λ o. (obj o).live ≡ true in
      let slot : (world.slots (CellOf p i)).ty ≡ type_at x (obj p).ty p i = st.inv.words.cells p i live in
      let same : (obj o).ty ≡ (world.slots (CellOf p i)).ty = ap (λ q. (obj q).ty) (sym e) ∙ k.typed in
      record {
        live = subst P e k.live;
        type = same ∙ slot;
        private = λ q. (lang_laws x code ls wt).private_cells (obj p).ty p i (ap (is_private x) (sym slot ∙ sym same) ∙ q);
        own = λ q. ap (λ q. (obj q).owner) (sym e) ∙ k.own (ap (is_private x) (sym same) ∙ q);
      }

  -- ---- windows
  module _ (t : ℕ) where
    abbrev m : Machine
    m = g.threads t

    abbrev Plain : Type 0
    Plain = (j : ℕ) → register_of code (g.threads t) j ≡ slice_index (g.threads t).refs j

    reads : Plain → (r : ℕ) → in_ref world (RegisterOf t (m.at.refs + r)) ≡ ref m r
    reads plain r = st.sim.regs t (m.at.refs + r) ∙ plain (m.at.refs + r)

    base_is : Plain → (c : Cell) → base_of world t (base_of_cell (g.threads t) c) ≡ object_of_cell (g.threads t) c
    base_is plain (Cell.Object r i) = reads plain r
    base_is plain (Cell.ObjectAt r i) = reads plain r
    base_is plain _ = refl

    held : Plain → (r : ℕ) → in_ref world (RegisterOf t ((g.threads t).at.refs + r)) ≢ 0 → (ref (g.threads t) r ≢ 0) × ((obj (ref (g.threads t) r)).live ≡ true)
    held plain r nz =
        let e = reads plain r in
        let P : ℕ → Type 0 = λ o. (obj o).live ≡ true in
        ((λ z. nz (e ∙ z)), subst P e (st.inv.words.fits (In (RegisterOf t (m.at.refs + r))) nz).live)

    kept : Plain → (c : Cell) → Based world t (base_of_cell (g.threads t) c) → IsKept obj (g.threads t) c
    kept plain (Cell.Object r i) b = held plain r b
    kept plain (Cell.ObjectAt r i) b = held plain r b
    kept plain _ b = b.0

    loaded : Plain → (c : Cell) → world.win t ≡ IsLoaded (base_of_cell (g.threads t) c) (number_in (g.threads t) c) (g.threads t).pending → IsKept obj (g.threads t) c × HoldsStill x s g obj (g.threads t) c
    loaded plain c w =
        let k = subst (WinOk (lang_of x) world t) w (st.inv.wins t) in
        let n = number_in m c in
        (kept plain c k.0.based, cell_is (object_of_cell m c) n ∙ ap (λ o. (world.slots (CellOf o n)).reference) (sym (base_is plain c)) ∙ k.1)

    alone : Plain → (r : ℕ) → world.win t ≡ IsSoleOf ((g.threads t).at.refs + r) → IsAlone x code s g obj t ((g.threads t).at.refs + r) (ref (g.threads t) r)
    alone plain r w =
        let k = m.at.refs + r in
        let so = sole_at (size_of_run code s) (lang_of x) world st.inv t k w in
        let e = reads plain r in
        let h = held plain r so.0 in
        let only : (q : Slot) → (q ≡ In (RegisterOf t k) → ⊥) → (world.slots q).reference ≡ ref m r → ⊥ = λ q ne z. only_slot (size_of_run code s) (lang_of x) world st.inv t k w q ne (z ∙ sym e) in
        record {
          some = h.0;
          live = h.1;
          count = ap (λ i. slice_index g.words i) (count_is s (ref m r) (st.apart.headers (ref m r) h.1)) ∙ sym (st.sim.counts (ref m r) h.0 h.1) ∙ ap world.count (sym e) ∙ so.1;
          registers = λ u i z. ⊎_elim
              (λ (a : u ≡ t). ⊎_elim (λ (b : i ≡ k). (a, b)) (λ (nb : i ≡ k → ⊥). absurd (only (In (RegisterOf u i)) (λ q. nb (cc)) (st.sim.regs u i ∙ z))) (cases_eq i k))
              (λ (na : u ≡ t → ⊥). absurd (only (In (RegisterOf u i)) (λ q. na (cc)) (st.sim.regs u i ∙ z)))
              (cases_eq u t);
          arguments = λ u z. only (In (ArgumentOf u)) (λ q. cc) (st.sim.args u ∙ z);
          logs = λ u word z. only (In (LogOf u word)) (λ q. cc) (st.sim.logs u word ∙ z);
          hands = λ u z. only (In (Staged u)) (λ q. cc) (st.sim.staged u ∙ z);
          cells = λ p i z. only (CellOf p i) (λ q. cc) (sym (cell_is p i) ∙ z);
        }

    window : (k : Gate) → (k ≡ Closed) ⊎ Plain → GateStands s world t (g.threads t) k → WindowStands x code s g obj t (g.threads t) k
    window Closed p h = tt
    window (Holds c) p h = tt
    window (Checked write c) (inr plain) h = kept plain c (subst (WinOk (lang_of x) world t) h (st.inv.wins t)).based
    window (Loaded c) (inr plain) h = loaded plain c h
    window (HoldsLoaded c) (inr plain) h = loaded plain c h.0
    window (Sole r cleared) (inr plain) h = alone plain r h
    window _ (inl e) h = absurd (cc)

    gate_shown : ((label_of code ls (g.threads t)).gate ≡ Closed) ⊎ Plain
    gate_shown = ⊎_elim
        (λ (e : (label_of code ls (g.threads t)).gate ≡ Closed). inl e)
        (λ (h : (j : ℕ) → is_freed (instr_at code m.at.pc) m.own.stage m.at.refs j ≡ false). inr (λ j. ap (λ b. cond b 0 (slice_index m.refs j)) (h j)))
        (registers_shown (ls.at m.at.pc) (instr_at code m.at.pc) m.own.stage m.at.refs)

    window_stands : IsOn g t → WindowStands x code s g obj t (g.threads t) (label_of code ls (g.threads t)).gate
    window_stands on = window (label_of code ls (g.threads t)).gate gate_shown ((st.threads t).runs on.0 on.1).gate

    -- a reference to an object that another has alone was not loaded
    loaded_window : (k : Gate) → WasLoaded k → GateStands s world t (g.threads t) k → (c : Cell) × (world.win t ≡ IsLoaded (base_of_cell (g.threads t) c) (number_in (g.threads t) c) (g.threads t).pending)
    loaded_window (Loaded c) w h = (c, h)
    loaded_window (HoldsLoaded c) w h = (c, h.0)
    loaded_window _ w h = absurd w

    typed_register : IsOn g t → (r : ℕ) → register_refers code g t ((g.threads t).at.refs + r) ≢ 0
        → HasType obj (λ q. register_refers code g t ((g.threads t).at.refs + q)) (register_refers code g t ((g.threads t).at.refs + r)) ((label_of code ls (g.threads t)).env r)
    typed_register on r nz =
        let base = m.at.refs in
        let v = view_of st.elements world t m in
        let refs : ℕ → ℕ = λ q. register_refers code g t (base + q) in
        let same : refs_at v base ≡ refs = fun_ext (λ q. st.sim.regs t (base + q)) in
        let nz' : in_ref world (RegisterOf t (base + r)) ≢ 0 = λ z. nz (sym (st.sim.regs t (base + r)) ∙ z) in
        let typed : (obj (refs r)).ty ≡ (world.slots (In (RegisterOf t (base + r)))).ty = ap (λ q. (obj q).ty) (sym (st.sim.regs t (base + r))) ∙ (st.inv.words.fits (In (RegisterOf t (base + r))) nz').typed in
        elim ((label_of code ls m).env r) as (λ e. EntryStands (refs_at v base) (types_at v base) r e → HasType obj refs (refs r) e) [
          | Empty ↦ λ k. absurd (nz' k)
          | Unknown ↦ λ k. k
          | Refers y ↦ λ k. typed ∙ k nz' ∙ ap (λ (f : ℕ → ℕ). type_of f (f r) y) same
        ] ((((st.threads t).runs on.0 on.1).top (suc r) 0).env r (omega arith))

  unloaded : (t u r : ℕ) → IsOn g t → IsOn g u → IsSole (label_of code ls (g.threads t)).gate r → WasLoaded (label_of code ls (g.threads u)).gate → (g.threads u).pending ≢ ref (g.threads t) r
  unloaded t u r ont onu sole was e =
      let alone' = at_sole t r (label_of code ls (g.threads t)).gate sole (window_stands t ont) in
      let w = loaded_window u (label_of code ls (g.threads u)).gate was ((st.threads u).runs onu.0 onu.1).gate in
      let k = subst (WinOk (lang_of x) world u) w.1 (st.inv.wins u) in
      let o = base_of world u (base_of_cell (g.threads u) w.0) in
      alone'.cells o (number_in (g.threads u) w.0) (cell_is o (number_in (g.threads u) w.0) ∙ k.1 ∙ e)
    where
      at_sole : (t r : ℕ) (k : Gate) → IsSole k r → WindowStands x code s g obj t (g.threads t) k → IsAlone x code s g obj t ((g.threads t).at.refs + r) (ref (g.threads t) r)
      at_sole t r (Sole q cleared) e h = subst (λ q. IsAlone x code s g obj t ((g.threads t).at.refs + q) (ref (g.threads t) q)) e h
      at_sole t r _ e h = absurd e

  pub stands : MachineInvariant x code s ls g world.obj
  stands = record {
    counts = count_stands;
    registers = λ t i nz. has (RegisterOf t i) t (register_refers code g t i) (st.sim.regs t i) refl nz;
    arguments = λ t nz. has (ArgumentOf t) t (argument_of code g t) (st.sim.args t) refl nz;
    logs = λ t word nz. has (LogOf t word) t (log_refers g t word) (st.sim.logs t word) refl nz;
    hands = λ t nz. has (Staged t) t (hand_refers g t) (st.sim.staged t) refl nz;
    cells = λ p i nz. typed_cell p i (cell_refers x s g obj p i) (sym (cell_is p i)) nz;
    typed = λ t r on nz. typed_register t on r nz;
    windows = window_stands;
    unloaded = unloaded;
  }

pub state_stands : StateStands
state_stands x code s ls wt fits g world st = stands x code s ls wt g world st
