-- A signal keeps the invariant: in one turn it reads who waits, in others it takes the lowest waiter away.
use Rattle.sharc_invariant.proofs.{Imports.{◌≡◌, ℕ, ◌+◌, ◌-◌, ◌^◌, ◌<◌, ◌⊎◌, Bool, true, false, cond, List, Some, None, refl, sym, ap, ◌∙◌, subst, inl, inr, ⊎_elim, arith, eqb-true, and_le_l, fun_ext, length, slice_index, slice_set, ◌==◌, Load, Cas, Kind, Read, Write, Accesses, without_lowest, Code, Cell, Shape, RunsOn, Tries, Stopped, Ended, Stage, Rests, Wakes, Fits, Machine, instr_at, word, wakes, rests, at_stage, step_of, turn, may_go, Turn, Global, put, MayTurn, one_thread, bounds, Instr, Targets, Field, field_in, is_pointer, is_mutex, Waiters, Label, Labels, LessGate, Closed, Fine, IsWellTyped, World, RegisterOf, in_ref, Heap, conc_of, Shows, FitsContent, cell_at, is_ended, staged_of, logged, noted_by, register_of, making_of, made_turn, made_conc, State, FramesStand, GateStands, TopStands, Runs, StageStands, OnSignal, SpawnsNow, label_now, object_of_cell, number_in, Turned}, TurnAt.{turn_at, turn_stands}, Frames.less_stands, Others.OnHold, Quiet.{KeepsSelf, loud_state, heap_now, label_held, freed_held, noted_of, put_self, locks_kept, sizes_kept}, Turns.{asks_turn, room_of, unseen}, Own.{closed_less, runs_at, begun_in}, Stores.{index_put, cell_store, stored_words, stored_within}, Seen.integer_stored, Cells.cell_there, Plain.others_stay}

-- the stages of a signal
abbrev IsWaking : Stage → Type 0
IsWaking stage = (stage ≡ Rests) ⊎ ((seen : ℕ) × (stage ≡ Wakes seen))

by_waking : (P : Stage → Type 0) → P Rests → ((seen : ℕ) → P (Wakes seen)) → (stage : Stage) → IsWaking stage → P stage
by_waking P a b stage h = ⊎_elim (λ (e : stage ≡ Rests). subst P (sym e) a) (λ (e : (seen : ℕ) × (stage ≡ Wakes seen)). subst P (sym e.1) (b e.0)) h

signal_stage : (code : Code) (s : Shape) (elements : ℕ → ℕ) (w : World) (heap : Heap) (words : List ℕ) (t : ℕ) (m : Machine) (c : Cell) (site : ℕ) (stage : Stage) → StageStands code s elements w heap words t m (Instr.CondSignal c site) stage → IsWaking stage
signal_stage code s elements w heap words t m c site Rests h = inl refl
signal_stage code s elements w heap words t m c site (Wakes a) h = inr (a, refl)
signal_stage code s elements w heap words t m c site _ h = absurd h

registers_are : (code : Code) (m : Machine) → IsWaking m.own.stage → (i : ℕ) → register_of code m i ≡ slice_index m.refs i
registers_are code m h i = ap (λ b. cond b 0 (slice_index m.refs i)) (freed_held (instr_at code m.at.pc) m.own.stage m.at.refs i (by_waking OnHold tt (λ _. tt) m.own.stage h))

-- the notes do not depend on which of its stages it is in
noted_waking : (stage : Stage) → IsWaking stage → (table : Accesses) (ended : Bool) (kind : Kind) (p : ℕ) → noted_of stage table ended kind p ≡ noted_of Rests table ended kind p
noted_waking stage h table ended kind p = by_waking (λ y. noted_of y table ended kind p ≡ noted_of Rests table ended kind p) refl (λ _. refl) stage h

without_low : (v : ℕ) → v < 2 ^ 64 → without_lowest v < 2 ^ 64
unfolding without_lowest
without_low v h = let a = and_le_l v (2 ^ 64 - 1 - 2 ^ Rattle.sharc_locks.specs.Waiters.lowest_of v) in omega arith

module _ (x : Targets) (code : Code) (s : Shape) (ls : Labels) (wt : IsWellTyped x code ls) (fits : Fits code s) (g : Global Machine) (world : World) (st : State x code s ls g world) (tr : Turn)
    (may : MayTurn bounds (one_thread code s) g tr) (c : Cell) (site : ℕ) (is : instr_at code (g.threads tr.thread).at.pc ≡ Instr.CondSignal c site) where
  open turn_at st tr use {t, m, here, after, view}
  open turn_stands st tr may use {rn}

  stage : IsWaking (g.threads tr.thread).own.stage
  stage = signal_stage code s st.elements world st.heap g.words t m c site m.own.stage (subst (λ i. StageStands code s st.elements world st.heap g.words t m i m.own.stage) is rn.stage)

  now_here : label_now here (instr_at code m.at.pc) m.own.stage ≡ here
  now_here = label_held here (instr_at code m.at.pc) m.own.stage (by_waking OnHold tt (λ _. tt) m.own.stage stage)

  tops : TopStands x tr.thread view (g.threads tr.thread).at.refs (g.threads tr.thread).at.ints rn.names here
  tops = subst (TopStands x t view m.at.refs m.at.ints rn.names) now_here rn.top

  fine : Fine x code ls m.at.pc here (Instr.CondSignal c site)
  fine = subst (Fine x code ls m.at.pc here) is (wt.fine m.at.pc)

  gates : GateStands s world t m Closed
  gates = subst (GateStands s world t m) fine.0 (subst (λ (l : Label). GateStands s world t m l.gate) now_here rn.gate)

  not_begun : (pc : ℕ) → (ls.at pc).function ≡ here.function → (pc == 0) ≡ false
  not_begun = begun_in x code ls wt m.at.pc (λ site' z. let q : Instr.CondSignal c site ≡ Instr.Start site' = sym is ∙ z in cc) (λ z. let q : Instr.CondSignal c site ≡ Instr.Exit = sym is ∙ z in cc)

  going : is_ended m.at.state ≡ false
  going = elim m.at.state as (λ y. may_go y ≡ true → is_ended y ≡ false) [ RunsOn ↦ λ e. refl | Tries ↦ λ e. refl | Stopped ↦ λ e. refl | Ended ↦ λ e. absurd (cc) ] may.next.runs

  -- where it may come to stand
  abbrev stands_at : ℕ → Stage → Machine
  stands_at pc stage = record (g.threads tr.thread) { at = record (g.threads tr.thread).at { pc = pc; state = RunsOn }; own = record (g.threads tr.thread).own { stage = stage } }

  below_at : (pc : ℕ) (y : Stage) → FramesStand x code ls t view (stands_at pc y) here.function
  below_at pc y = elim here.function as (λ f. FramesStand x code ls t view m f → FramesStand x code ls t view (stands_at pc y) f) [ None ↦ λ h. h | Some f ↦ λ h. h ] rn.below

  waits_on : (seen : ℕ) (heap : Heap) (now : Global Machine) → Runs x code s ls st.elements world heap now t (stands_at m.at.pc (Wakes seen))
  waits_on seen heap now =
      let e : label_now here (instr_at code m.at.pc) (Wakes seen) ≡ here = label_held here (instr_at code m.at.pc) (Wakes seen) tt in
      record {
        names = rn.names;
        top = subst (TopStands x t view m.at.refs m.at.ints rn.names) (sym e) tops;
        below = below_at m.at.pc (Wakes seen);
        gate = subst (λ (l : Label). GateStands s world t (stands_at m.at.pc (Wakes seen)) l.gate) (sym e) (subst (GateStands s world t (stands_at m.at.pc (Wakes seen))) (sym fine.0) gates);
        stage = subst OnSignal (sym is) tt;
        room = rn.room;
      }

  goes_on : (heap : Heap) (now : Global Machine) → Runs x code s ls st.elements world heap now t (stands_at (m.at.pc + 1) Rests)
  goes_on heap now =
      let m' = stands_at (m.at.pc + 1) Rests in
      let leads = fine.2 in
      let new = (ls.at (m.at.pc + 1)).gate in
      runs_at x code s ls st.elements world heap now t m' rn.names refl
      (less_stands x t view m.at.refs m.at.ints rn.names here (ls.at (m.at.pc + 1)) leads tops)
      (subst (FramesStand x code ls t view m') (sym leads.function) (below_at (m.at.pc + 1) Rests))
      (subst (GateStands s world t m') (sym (closed_less new (subst (λ y. LessGate y new) fine.0 leads.gate))) gates)
      (λ q. rn.room (leads.room q))

  -- the word of those that wait is written, and the thread comes to stand there
  signal_state : (v : ℕ) → v < 2 ^ 64 → (pc : ℕ) (y : Stage) → IsWaking y → (ls.at pc).function ≡ here.function → ((heap : Heap) (now : Global Machine) → Runs x code s ls st.elements world heap now t (stands_at pc y))
      → after ≡ made_turn g tr.thread (slice_set g.words (word s m c) v) (stands_at pc y) → word s m c < length g.words → Turned x code s ls g world tr
  signal_state v small pc y wk fnc runs' done0 lt0 =
      let m' = stands_at pc y in
      let f = fine in
      let reads : (q : ℕ) → Rattle.sharc_code.specs.Machine.ref m q ≡ in_ref world (RegisterOf t (m.at.refs + q)) = λ q. sym (st.sim.regs t (m.at.refs + q) ∙ registers_are code m stage (m.at.refs + q)) in
      let th = cell_there x code s ls wt fits g world st t m rn.names here tops reads c f.1.0 f.1.1 in
      let o = object_of_cell m c in
      let j = number_in m c in
      let k = cell_at s o j in
      let words = slice_set g.words k v in
      let done : after ≡ made_turn g t words m' = done0 ∙ ap (λ k. made_turn g t (slice_set g.words k v) m') th.word_is in
      let lt : k < length g.words = subst (λ k. k < length g.words) th.word_is lt0 in
      let ms = cell_store x code s ls g world st o j th.live th.number in
      let content : (field_in x (world.obj o).ty j).holds ≡ Waiters = ap (λ (f : Field). f.holds) th.field ∙ f.1.2 in
      let sim : Shows x s st.cells st.elements (record (conc_of code g) { words = λ n. slice_index words n }) world =
      subst (λ h. Shows x s st.cells st.elements (record (conc_of code g) { words = h }) world) (sym (fun_ext (index_put g.words k v lt)))
      (integer_stored x s st.cells st.elements (conc_of code g) world st.sim st.apart o j v th.live th.number (ap is_pointer content) (ap is_mutex content) (subst (λ h. FitsContent h v) (sym content) tt)) in
      let own : KeepsSelf m m' = record {
        sizes = sizes_kept m m' (st.threads t).has.table refl refl refl refl;
        log = (st.threads t).has.log;
        heads = refl;
        making = by_waking (λ z. making_of z ≡ making_of m.own.stage) (by_waking (λ z. None ≡ making_of z) refl (λ _. refl) m.own.stage stage) (λ _. by_waking (λ z. None ≡ making_of z) refl (λ _. refl) m.own.stage stage) y wk;
        staged = by_waking (λ z. staged_of z ≡ staged_of m.own.stage) (by_waking (λ z. 0 ≡ staged_of z) refl (λ _. refl) m.own.stage stage) (λ _. by_waking (λ z. 0 ≡ staged_of z) refl (λ _. refl) m.own.stage stage) y wk;
        spawns = λ n h. absurd (by_waking (λ z. SpawnsNow z n → ⊥) (λ h. h) (λ _ h. h) y wk h);
        begun_before = not_begun m.at.pc refl;
        begun = not_begun pc fnc;
      } in
      let noted : (kind : Kind) (p : ℕ) → noted_by m' kind p ≡ noted_by m kind p = λ kind p.
      noted_waking y wk m.own.table false kind p ∙ sym (noted_waking m.own.stage stage m.own.table false kind p) ∙ ap (λ e. noted_of m.own.stage m.own.table e kind p) (sym going) in
      let rs : put (λ u. register_of code (g.threads u)) t (register_of code m') ≡ (λ u. register_of code (g.threads u)) =
      fun_ext (put_self (λ u. register_of code (g.threads u)) t (register_of code m') (fun_ext (λ n. registers_are code m' wk n ∙ sym (registers_are code m stage n)))) in
      let lo : put (λ u. logged (g.threads u)) t (logged m') ≡ (λ u. logged (g.threads u)) = fun_ext (put_self (λ u. logged (g.threads u)) t (logged m') refl) in
      let nt : (kind : Kind) → put (λ u. noted_by (g.threads u) kind) t (noted_by m' kind) ≡ (λ u. noted_by (g.threads u) kind) = λ kind. fun_ext (put_self (λ u. noted_by (g.threads u) kind) t (noted_by m' kind) (fun_ext (noted kind))) in
      let nr = nt Read in
      let nw = nt Write in
      let ce : record (made_conc code (conc_of code g) t words m') { logs = put (λ u. logged (g.threads u)) t (logged m') } ≡ record (conc_of code g) { words = λ n. slice_index words n } =
      λ i. record (conc_of code g) { words = λ n. slice_index words n; regs = rs i; logs = lo i; read_notes = nr i; write_notes = nw i } in
      unseen x code s ls g world tr _ done (loud_state x code s ls g world st t may.started words m' own
      (stored_words x code s ls g world st k v ms lt small (λ n l e. absurd (let h = st.apart.headers o th.live in omega arith))) world (record { obj = refl; args = λ u. refl })
      (others_stay s world st.heap g.words words t (λ u _ b e j n. stored_within x code s ls g world st k v ms lt u b j e n))
      wt st.inv (subst (λ c. Shows x s st.cells st.elements c world) (sym ce) sim) (locks_kept x code s ls g world st t words m' refl world (record { obj = refl; mutex = refl; args = λ u. refl }))
      (λ _. runs' (heap_now st.heap words) (made_turn g t words m')) (λ q. absurd (cc)) (room_of code s g tr may words m' done))

  -- what it has found it wakes, or goes on
  wakes_on : (found v : ℕ) → v < 2 ^ 64 → after ≡ made_turn g tr.thread (slice_set g.words (word s m c) v) (wakes m found) → word s m c < length g.words → Turned x code s ls g world tr
  wakes_on found v small e lt = elim (found == 0) as (λ b. after ≡ made_turn g t (slice_set g.words (word s m c) v) (cond b (rests m) (at_stage m (Wakes found))) → Turned x code s ls g world tr) [
    | true ↦ λ e. signal_state v small (m.at.pc + 1) Rests (inl refl) fine.2.function goes_on e lt
    | false ↦ λ e. signal_state v small m.at.pc (Wakes found) (inr (found, refl)) refl (waits_on found) e lt
  ] e

  by_stage : (y : Stage) → IsWaking y → turn code s m ≡ Rattle.sharc_code.specs.Machine.signal m (word s m c) y → Turned x code s ls g world tr
  by_stage y h = by_waking (λ y. turn code s m ≡ Rattle.sharc_code.specs.Machine.signal m (word s m c) y → Turned x code s ls g world tr)
      (λ e. let k = word s m c in let found = slice_index g.words k in let a = asks_turn code s g tr may (step_of k Load) (wakes m) e in wakes_on found found (st.are_words k) a.0 a.1)
      (λ seen e.
      let k = word s m c in
      let found = slice_index g.words k in
      let a = asks_turn code s g tr may (step_of k (Cas seen (without_lowest seen))) (λ found. cond (found == seen) (rests m) (wakes m found)) e in
      elim (found == seen) as (λ b. (found == seen) ≡ b → after ≡ made_turn g t (slice_set g.words k (cond b (without_lowest seen) found)) (cond b (rests m) (wakes m found)) → Turned x code s ls g world tr) [
        | true ↦ λ q e. let same : found ≡ seen = eqb-true found seen q in signal_state (without_lowest seen) (without_low seen (subst (λ n. n < 2 ^ 64) same (st.are_words k))) (m.at.pc + 1) Rests (inl refl) fine.2.function goes_on e a.1
        | false ↦ λ q e. wakes_on found found (st.are_words k) e a.1
      ] refl a.0)
      y h

  pub Cond_signal_keeps : Turned x code s ls g world tr
  Cond_signal_keeps = by_stage m.own.stage stage (ap (λ i. Rattle.sharc_code.specs.Machine.act code s i m) is)
