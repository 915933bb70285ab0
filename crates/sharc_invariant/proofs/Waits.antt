-- Turns that try again, and those of conditions that no thread waits at.
use Rattle.sharc_invariant.proofs.{Imports.{◌≡◌, ℕ, ℤ, pos, negsuc, ◌+◌, ◌^◌, ◌<◌, true, false, cond, ◌||◌, refl, sym, ap, ◌∙◌, subst, ⊎_elim, arith, or_lt, pow_below, fun_ext, bit_or, length, slice_index, slice_set, nat_lt, ◌==◌, THREADS, Load, Swap, Or, Code, Cell, Instr, Shape, Stop, Trap, Fits, state_word, Machine, Local, Asks, instr_at, int, word, goes, fails, stopped, joined, join, woken, step_of, turn, Turn, Global, MayTurn, one_thread, bounds, waits_in, put_same, Targets, Field, field_in, is_pointer, is_mutex, Waiters, Gate, Holds, LessGate, Closed, Labels, Leads, IsWellTyped, World, Shut, Sole, set_win, conc_of, Shows, FitsContent, cell_at, Silently, made_turn, State, GateStands, object_of_cell, number_in, Turned, HasCell, WordOp, word_after}, TurnAt.turn_at, Quiet.heap_now, Turns.{asks_turn, local_turn, room_of, unseen}, Own.{is_single, runs, rests, top, gate, fine, begun_before, runs_at, closed_less}, Plain.{resting, is_shut, plain_state, jump_state, stop_state, keeps_own}, Stores.{index_put, cell_store, stored_words, stored_within}, Seen.integer_stored, Cells.cell_there, Held.{held_gate, held_goes}, Accesses.{loaded_words, windowed_state, silent_window}, Frames.frames_same}
use Rattle.sharc_tree.specs.declared.trap.Trap.TheVariants as traps

module _ (x : Targets) (code : Code) (s : Shape) (ls : Labels) (wt : IsWellTyped x code ls) (fits : Fits code s) (g : Global Machine) (world : World) (st : State x code s ls g world) (tr : Turn)
    (may : MayTurn bounds (one_thread code s) g tr) where
  open turn_at st tr use {t, m, here, after, view}

  module _ (i : Instr) (is : instr_at code (g.threads tr.thread).at.pc ≡ i) (single : is_single i ≡ true) (gt : here.gate ≡ Closed) where
    shut : world.win tr.thread ≡ Shut
    shut = is_shut x code s ls wt g world st t may.started may.next.runs i is single gt

    settled : (m' : Machine) → after ≡ made_turn g tr.thread g.words m' → State x code s ls (made_turn g tr.thread g.words m') world → Turned x code s ls g world tr
    settled m' e k = unseen x code s ls g world tr _ e k

    stop_at : (why : Stop) → after ≡ made_turn g tr.thread g.words (stopped (g.threads tr.thread) why) → Turned x code s ls g world tr
    stop_at why e = settled (stopped m why) e (stop_state x code s ls wt g world st t may.started may.next.runs i is single why shut (room_of code s g tr may g.words (stopped m why) e))

    go_on : Leads ls ((g.threads tr.thread).at.pc + 1) here → after ≡ made_turn g tr.thread g.words (goes (g.threads tr.thread)) → Turned x code s ls g world tr
    go_on leads e = settled (goes m) e (jump_state x code s ls wt g world st t may.started may.next.runs i is single (m.at.pc + 1) here gt leads refl gt
        (runs x code s ls wt g world st t may.started may.next.runs i is single).room (top x code s ls wt g world st t may.started may.next.runs i is single) (room_of code s g tr may g.words (goes m) e))

    pub tries_again : after ≡ made_turn g tr.thread g.words (fails (g.threads tr.thread)) → Turned x code s ls g world tr
    tries_again e =
        let m' = fails m in
        let rest = rests x code s ls wt g world st t may.started may.next.runs i is single in
        let begun = begun_before x code s ls wt g world st t may.started may.next.runs i is single in
        let rn = runs x code s ls wt g world st t may.started may.next.runs i is single in
        settled m' e (plain_state x code s ls wt g world st t may.started may.next.runs i is single m' (keeps_own x code s ls wt g world st t may.started may.next.runs i is single m' refl refl refl refl begun refl) refl refl
        (λ _. runs_at x code s ls st.elements world (heap_now st.heap g.words) (made_turn g t g.words m') t m' rn.names rest (top x code s ls wt g world st t may.started may.next.runs i is single) (frames_same x code ls t view m m' refl refl refl refl here.function rn.below)
        (subst (GateStands s world t m') (sym gt) shut) rn.room)
        (λ q. absurd (cc)) (room_of code s g tr may g.words m' e))

    joined_keeps : (site found : ℕ) → Leads ls ((g.threads tr.thread).at.pc + 1) here → after ≡ made_turn g tr.thread g.words (joined (g.threads tr.thread) site found) → Turned x code s ls g world tr
    joined_keeps site found leads e =
        elim (found == 0) as (λ b. after ≡ made_turn g t g.words (cond b (stopped m (Trap traps.NoSuchThread site)) (cond (found == 1 || found == 2) (fails m) (goes m))) → Turned x code s ls g world tr) [
          | true ↦ λ e. stop_at (Trap traps.NoSuchThread site) e
          | false ↦ λ e. elim (found == 1 || found == 2) as (λ b. after ≡ made_turn g t g.words (cond b (fails m) (goes m)) → Turned x code s ls g world tr) [
            | true ↦ λ e. tries_again e
            | false ↦ λ e. go_on leads e
          ] e
        ] e

    join_keeps : (site : ℕ) → Leads ls ((g.threads tr.thread).at.pc + 1) here → (z : ℤ) → turn code s (g.threads tr.thread) ≡ join (g.threads tr.thread) z site → Turned x code s ls g world tr
    join_keeps site leads (negsuc n) e = stop_at (Trap traps.NoSuchThread site) (local_turn code s g tr may (stopped m (Trap traps.NoSuchThread site)) e)
    join_keeps site leads (pos n) e =
        elim (nat_lt n THREADS) as (λ b. turn code s m ≡ cond b (Asks (step_of (state_word n) Load) (joined m site)) (Local (stopped m (Trap traps.NoSuchThread site))) → Turned x code s ls g world tr) [
          | true ↦ λ e.
              let k = state_word n in
              let found = slice_index g.words k in
              joined_keeps site found leads (loaded_words x code s ls wt fits g world st tr may i is single k (joined m site found) (asks_turn code s g tr may (step_of k Load) (joined m site) e).0)
          | false ↦ λ e. stop_at (Trap traps.NoSuchThread site) (local_turn code s g tr may (stopped m (Trap traps.NoSuchThread site)) e)
        ] e

  pub Join_keeps : (r site : ℕ) → instr_at code (g.threads tr.thread).at.pc ≡ Instr.Join r site → Turned x code s ls g world tr
  Join_keeps r site is =
      let i = Instr.Join r site in
      let f = fine x code s ls wt g world st t may.started may.next.runs i is refl in
      join_keeps i is refl f.0 site f.1 (int m r) (ap (λ i. Rattle.sharc_code.specs.Machine.act code s i m) is)

  pub Cond_wait_keeps : (c : Cell) (site : ℕ) → instr_at code (g.threads tr.thread).at.pc ≡ Instr.CondWait c site → Turned x code s ls g world tr
  Cond_wait_keeps c site is =
      let i = Instr.CondWait c site in
      let f = fine x code s ls wt g world st t may.started may.next.runs i is refl in
      let k = word s m c in
      let found = slice_index g.words k in
      let e = loaded_words x code s ls wt fits g world st tr may i is refl k (woken m found) (asks_turn code s g tr may (step_of k Load) (woken m) (ap (λ i. Rattle.sharc_code.specs.Machine.act code s i m) is)).0 in
      elim (waits_in found m.own.number) as (λ b. after ≡ made_turn g t g.words (cond b (fails m) (goes m)) → Turned x code s ls g world tr) [
        | true ↦ λ e. tries_again i is refl f.0 e
        | false ↦ λ e. go_on i is refl f.0 f.2 e
      ] e

  -- the waiters of a word are others, and the thread goes on
  waiters_keep : (i : Instr) → instr_at code (g.threads tr.thread).at.pc ≡ i → is_single i ≡ true → (c : Cell) (f : Field) → HasCell x code here c f → f.holds ≡ Waiters → (op : WordOp) → turn code s (g.threads tr.thread) ≡ Asks (step_of (word s (g.threads tr.thread) c) op) (λ found. goes (g.threads tr.thread))
      → word_after op (slice_index g.words (cell_at s (object_of_cell (g.threads tr.thread) c) (number_in (g.threads tr.thread) c))) < 2 ^ 64 → world.win tr.thread ≡ Shut → Leads ls ((g.threads tr.thread).at.pc + 1) here
      → GateStands s (set_win world tr.thread Shut) tr.thread (goes (g.threads tr.thread)) (ls.at ((g.threads tr.thread).at.pc + 1)).gate → Turned x code s ls g world tr
  waiters_keep i is single c f cell holds op act_is small shut' leads gate' =
      let rn = runs x code s ls wt g world st t may.started may.next.runs i is single in
      let at = resting x code s ls wt g world st t (may.started, may.next.runs) i is single in
      let th = cell_there x code s ls wt fits g world st t m rn.names here at.tops at.reads c f cell in
      let o = object_of_cell m c in
      let j = number_in m c in
      let k = cell_at s o j in
      let v = word_after op (slice_index g.words k) in
      let m' = goes m in
      let words = slice_set g.words k v in
      let done0 = asks_turn code s g tr may (step_of (word s m c) op) (λ found. goes m) act_is in
      let done : after ≡ made_turn g t words m' = done0.0 ∙ ap (λ k. made_turn g t (slice_set g.words k (word_after op (slice_index g.words k))) m') th.word_is in
      let lt : k < length g.words = subst (λ k. k < length g.words) th.word_is done0.1 in
      let ms = cell_store x code s ls g world st o j th.live th.number in
      let content : (field_in x (world.obj o).ty j).holds ≡ Waiters = ap (λ (f : Field). f.holds) th.field ∙ holds in
      let sim : Shows x s st.cells st.elements (record (conc_of code g) { words = λ n. slice_index words n }) world =
      subst (λ h. Shows x s st.cells st.elements (record (conc_of code g) { words = h }) world) (sym (fun_ext (index_put g.words k v lt)))
      (integer_stored x s st.cells st.elements (conc_of code g) world st.sim st.apart o j v th.live th.number (ap is_pointer content) (ap is_mutex content) (subst (λ h. FitsContent h v) (sym content) tt)) in
      let never : (q : ℕ) → world.win t ≡ Sole q → ⊥ = λ q e. let z : Shut ≡ Sole q = sym shut' ∙ e in cc in (
        set_win world t Shut,
        windowed_state x code s ls wt fits g world st tr may i is single m' Shut words here (record { at = refl; refs = refl; ints = refl; frames = refl; own = refl }) done
            (stored_words x code s ls g world st k v ms lt small (λ n l e. absurd (let h = st.apart.headers o th.live in omega arith))) (stored_within x code s ls g world st k v ms lt)
            tt sim at.tops (frames_same x code ls t view m m' refl refl refl refl here.function rn.below) leads refl gate' refl,
        Silently (silent_window x code s ls wt fits g world st tr may i is single Shut never),
      )

  pub Cond_broadcast_keeps : (c : Cell) (site : ℕ) → instr_at code (g.threads tr.thread).at.pc ≡ Instr.CondBroadcast c site → Turned x code s ls g world tr
  Cond_broadcast_keeps c site is =
      let i = Instr.CondBroadcast c site in
      let f = fine x code s ls wt g world st t may.started may.next.runs i is refl in
      let new = (ls.at (m.at.pc + 1)).gate in
      let closed : new ≡ Closed = closed_less new (subst (λ y. LessGate y new) f.0 f.2.gate) in
      waiters_keep i is refl c f.1.0 f.1.1 f.1.2 (Swap 0) (ap (λ i. Rattle.sharc_code.specs.Machine.act code s i m) is) (omega arith) (shut i is refl f.0) f.2
      (subst (GateStands s (set_win world t Shut) t (goes m)) (sym closed) (put_same world.win t Shut))

  pub Cond_enter_keeps : (c : Cell) (site : ℕ) → instr_at code (g.threads tr.thread).at.pc ≡ Instr.CondEnter c site → Turned x code s ls g world tr
  Cond_enter_keeps c site is =
      let i = Instr.CondEnter c site in
      let f = fine x code s ls wt g world st t may.started may.next.runs i is refl in
      let gt = gate x code s ls wt g world st t may.started may.next.runs i is refl in
      let m' = goes m in
      let bit = 2 ^ m.own.number in
      let k = cell_at s (object_of_cell m c) (number_in m c) in
      let low : m.own.number < 64 = let a = (st.threads t).has.number in let b = st.begins.few t may.started in omega arith in
      let small : bit_or (slice_index g.words k) bit < 2 ^ 64 = or_lt 64 (slice_index g.words k) bit (st.are_words k) (pow_below m.own.number 64 low) in
      let shut' : world.win t ≡ Shut = ⊎_elim (λ e. subst (GateStands s world t m) e gt) (λ e. let q : GateStands s world t m (Holds e.0) = subst (GateStands s world t m) e.1 gt in q.0) f.0 in
      let new = (ls.at (m.at.pc + 1)).gate in
      let Now : Gate → Type 0 = GateStands s (set_win world t Shut) t m' in
      let gate' : Now new = ⊎_elim
      (λ e. subst Now (sym (closed_less new (subst (λ y. LessGate y new) e f.2.gate))) (put_same world.win t Shut))
      (λ e.
      let q : GateStands s world t m (Holds e.0) = subst (GateStands s world t m) e.1 gt in
      ⊎_elim (λ (z : new ≡ Closed). subst Now (sym z) (put_same world.win t Shut)) (λ (z : new ≡ Holds e.0). subst Now (sym z) (put_same world.win t Shut, held_goes s m e.0 q.1))
      (held_gate e.0 new (subst (λ y. LessGate y new) e.1 f.2.gate)))
      f.0 in
      waiters_keep i is refl c f.1.0 f.1.1 f.1.2 (Or bit) (ap (λ i. Rattle.sharc_code.specs.Machine.act code s i m) is) small shut' f.2 gate'
