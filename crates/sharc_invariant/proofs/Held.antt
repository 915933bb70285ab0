-- The checks of mutexes.
use Rattle.sharc_invariant.proofs.{Imports.{◌≡◌, ℕ, ℤ, ◌+◌, ◌⊎◌, ◌≢◌, true, false, cond, refl, sym, ap, ◌∙◌, subst, inl, inr, ⊎_elim, ◌==◌, Code, Cell, Instr, Shape, Stop, Trap, NoLock, Fits, cell_word, cell_of, Machine, Local, instr_at, ref, goes, stopped, lock_checked, is_held, is_of_null, word, turn, Turn, Global, MayTurn, one_thread, bounds, put_same, put_other, Targets, Gate, Closed, Holds, Loaded, HoldsLoaded, Label, Labels, Leads, LessGate, gated, IsWellTyped, knows_base, World, Window, Shut, IsLoaded, WinOk, RegisterOf, in_ref, set_win, lang_of, Silently, StopStands, State, view_of, TopStands, GateStands, base_of_cell, number_in, Turned}, TurnAt.turn_at, Turns.{local_turn, room_of, unseen}, Own.{is_single, runs, top, gate, fine, begun_before}, Quiet.KeepsOwn, Plain.{plain_state, is_shut, same_words, keeps_own}, Accesses.{gate_top, windowed_state}, Steps.{knows_top, stops, asserted, of_turn, reads}, Frames.frames_same}
use Rattle.sharc_tree.specs.declared.trap.Trap.TheVariants as traps

pub held_gate : (c : Cell) (y : Gate) → LessGate (Holds c) y → (y ≡ Closed) ⊎ (y ≡ Holds c)
held_gate c Closed h = inl refl
held_gate c _ h = inr h

-- a mutex that is held before a step to the next place is held behind it
pub held_goes : (s : Shape) (m : Machine) (c : Cell) → is_held m (word s m c) ≡ true → is_held (goes m) (word s (goes m) c) ≡ true
held_goes s m (Cell.Global a p) h = h
held_goes s m _ h = h

module _ (x : Targets) (code : Code) (s : Shape) (ls : Labels) (wt : IsWellTyped x code ls) (fits : Fits code s) (g : Global Machine) (world : World) (st : State x code s ls g world) (tr : Turn) (may : MayTurn bounds (one_thread code s) g tr) where
  open turn_at st tr use {m, here, t}

  abbrev Done : Type 0
  Done = Turned x code s ls g world tr

  module _ (i : Instr) (is : instr_at code (g.threads tr.thread).at.pc ≡ i) (single : is_single i ≡ true) where
    -- the thread goes on with the window shut, and knows that it holds a mutex
    go_held : (c : Cell) (k : Label) → turn code s (g.threads tr.thread) ≡ Local (goes (g.threads tr.thread)) → here.gate ≡ Closed → is_held (g.threads tr.thread) (word s (g.threads tr.thread) c) ≡ true → Leads ls ((g.threads tr.thread).at.pc + 1) (gated k (Holds c))
        → k.function ≡ here.function → k.room ≡ here.room
        → TopStands x tr.thread (view_of st.elements world tr.thread (g.threads tr.thread)) (g.threads tr.thread).at.refs (g.threads tr.thread).at.ints (runs x code s ls wt g world st tr.thread may.started may.next.runs i is single).names k → Done
    go_held c k e gt held leads fn rm tp =
        let m' = goes m in
        let done = local_turn code s g tr may m' e in
        let shut = is_shut x code s ls wt g world st t may.started may.next.runs i is single gt in
        let view = view_of st.elements world t m in
        let names = (runs x code s ls wt g world st t may.started may.next.runs i is single).names in
        let new = (ls.at (m.at.pc + 1)).gate in
        let gate' : GateStands s (set_win world t Shut) t m' new = ⊎_elim
        (λ (e : new ≡ Closed). subst (GateStands s (set_win world t Shut) t m') (sym e) (put_same world.win t Shut))
        (λ (e : new ≡ Holds c). subst (GateStands s (set_win world t Shut) t m') (sym e) (put_same world.win t Shut, held_goes s m c held))
        (held_gate c new leads.gate) in (
          set_win world t Shut,
          windowed_state x code s ls wt fits g world st tr may i is single m' Shut g.words (gated k (Holds c)) (record { at = refl; refs = refl; ints = refl; frames = refl; own = refl }) done
              (same_words x code s ls g world st) (λ u b j _ _. refl) tt st.sim (gate_top x t view m.at.refs m.at.ints names k (Holds c) tp) (frames_same x code ls t view m m' refl refl refl refl here.function (runs x code s ls wt g world st t may.started may.next.runs i is single).below) leads fn gate' rm,
          Silently (record { obj = refl; mutex = refl; passed = λ o p u b q. q; sole = λ u r e. let ne : u ≡ t → ⊥ = λ q. never shut r (ap world.win (sym q) ∙ e) in (put_other world.win t u Shut ne ∙ e, refl) }),
        )
      where
        never : world.win tr.thread ≡ Shut → (r : ℕ) → world.win tr.thread ≡ Window.Sole r → ⊥
        never e r q = let z : Shut ≡ Window.Sole r = sym e ∙ q in cc

  pub Held_keeps : (c : Cell) (site : ℕ) → instr_at code (g.threads tr.thread).at.pc ≡ Instr.ChkHeld c site → Done
  Held_keeps c site is = let i = Instr.ChkHeld c site in let f = fine x code s ls wt g world st tr.thread may.started may.next.runs i is refl in
      asserted x code s ls wt g world st tr may i is refl (is_held m (word s m c)) traps.MutexNotHeld site (of_turn x code s ls wt g world st tr may i is refl _ refl) f.0
      (λ b e. go_held i is refl c here e f.0 b f.2 refl refl (top x code s ls wt g world st t may.started may.next.runs i is refl))

  pub Lock_check_keeps : (c : Cell) (site : ℕ) → instr_at code (g.threads tr.thread).at.pc ≡ Instr.ChkLock c site → Done
  Lock_check_keeps c site is = let i = Instr.ChkLock c site in let f = fine x code s ls wt g world st tr.thread may.started may.next.runs i is refl in
      let names = (runs x code s ls wt g world st t may.started may.next.runs i is refl).names in
      let tp = top x code s ls wt g world st t may.started may.next.runs i is refl in
      elim (is_of_null m c) as (λ n. is_of_null m c ≡ n → turn code s m ≡ Local (lock_checked m n (word s m c) site) → Done) [
        | true ↦ λ n e. stops x code s ls wt g world st tr may i is refl (Trap traps.NullPointer site) e f.0
        | false ↦ λ n e. elim (is_held m (word s m c)) as (λ b. is_held m (word s m c) ≡ b → turn code s m ≡ Local (cond b (goes m) (stopped m (NoLock site (word s m c)))) → Done) [
          | true ↦ λ b e. go_held i is refl c (knows_base here c) e f.0 b (base_leads c f.2) (base_function c) (base_room c)
              (base_top c names n (λ r. reads x code s ls wt g world st tr may i is refl r) tp)
          | false ↦ λ b e. stops x code s ls wt g world st tr may i is refl (NoLock site (word s m c)) e f.0
        ] refl e
      ] refl (of_turn x code s ls wt g world st tr may i is refl _ refl)
    where
      base_leads : (c : Cell) → Leads ls ((g.threads tr.thread).at.pc + 1) (gated (knows_base here c) (Holds c)) → Leads ls ((g.threads tr.thread).at.pc + 1) (gated (knows_base here c) (Holds c))
      base_leads c h = h

      base_function : (c : Cell) → (knows_base here c).function ≡ here.function
      base_function (Cell.Global a p) = refl
      base_function _ = refl

      base_room : (c : Cell) → (knows_base here c).room ≡ here.room
      base_room (Cell.Global a p) = refl
      base_room _ = refl

      not_null : (r : ℕ) → (ref (g.threads tr.thread) r == 0) ≡ false → ref (g.threads tr.thread) r ≡ in_ref world (RegisterOf tr.thread ((g.threads tr.thread).at.refs + r)) → in_ref world (RegisterOf tr.thread ((g.threads tr.thread).at.refs + r)) ≢ 0
      not_null r n e z = let q : ref (g.threads tr.thread) r ≡ 0 = e ∙ z in let k : (ref (g.threads tr.thread) r == 0) ≡ true = ap (λ n. n == 0) q in cc

      base_top : (c : Cell) (names : ℕ → ℤ) → is_of_null (g.threads tr.thread) c ≡ false → ((r : ℕ) → ref (g.threads tr.thread) r ≡ in_ref world (RegisterOf tr.thread ((g.threads tr.thread).at.refs + r)))
          → TopStands x tr.thread (view_of st.elements world tr.thread (g.threads tr.thread)) (g.threads tr.thread).at.refs (g.threads tr.thread).at.ints names here
          → TopStands x tr.thread (view_of st.elements world tr.thread (g.threads tr.thread)) (g.threads tr.thread).at.refs (g.threads tr.thread).at.ints names (knows_base here c)
      base_top (Cell.Object r p) names n rd tp = knows_top x tr.thread (view_of st.elements world tr.thread (g.threads tr.thread)) (g.threads tr.thread).at.refs (g.threads tr.thread).at.ints names here r (not_null r n (rd r)) tp
      base_top (Cell.ObjectAt r p) names n rd tp = knows_top x tr.thread (view_of st.elements world tr.thread (g.threads tr.thread)) (g.threads tr.thread).at.refs (g.threads tr.thread).at.ints names here r (not_null r n (rd r)) tp
      base_top _ names n rd tp = tp

  -- a stop where a reference was loaded: the window stays as it is
  module _ (i : Instr) (is : instr_at code (g.threads tr.thread).at.pc ≡ i) (single : is_single i ≡ true) where
    stop_loaded : (why : Stop) (c : Cell) → here.gate ≡ Loaded c → world.win tr.thread ≡ IsLoaded (base_of_cell (g.threads tr.thread) c) (number_in (g.threads tr.thread) c) (g.threads tr.thread).pending
        → turn code s (g.threads tr.thread) ≡ Local (stopped (g.threads tr.thread) why) → Done
    stop_loaded why c loaded win e =
        let m' = stopped m why in
        let done = local_turn code s g tr may m' e in
        let own : KeepsOwn m m' = keeps_own x code s ls wt g world st t may.started may.next.runs i is single m' refl refl refl refl (begun_before x code s ls wt g world st t may.started may.next.runs i is single) refl in
        unseen x code s ls g world tr _ done (plain_state x code s ls wt g world st t may.started may.next.runs i is single m' own refl refl (λ q. absurd (cc))
        (λ _. subst (StopStands world t m') (sym loaded) (still c win)) (room_of code s g tr may g.words m' done))
      where
        still : (c : Cell) → world.win tr.thread ≡ IsLoaded (base_of_cell (g.threads tr.thread) c) (number_in (g.threads tr.thread) c) (g.threads tr.thread).pending
            → world.win tr.thread ≡ IsLoaded (base_of_cell (stopped (g.threads tr.thread) why) c) (number_in (stopped (g.threads tr.thread) why) c) (g.threads tr.thread).pending
        still (Cell.Global a p) h = h
        still _ h = h

  pub Lock_check_loaded_keeps : (site : ℕ) → instr_at code (g.threads tr.thread).at.pc ≡ Instr.ChkLockLoaded site → Done
  Lock_check_loaded_keeps site is =
      let i = Instr.ChkLockLoaded site in
      let f = fine x code s ls wt g world st tr.thread may.started may.next.runs i is refl in
      let c = f.0 in
      let names = (runs x code s ls wt g world st t may.started may.next.runs i is refl).names in
      let view = view_of st.elements world t m in
      let tp = top x code s ls wt g world st t may.started may.next.runs i is refl in
      let mutex = cell_word s (cell_of m.pending 0) in
      let gate' : world.win t ≡ IsLoaded (base_of_cell m c) (number_in m c) m.pending = subst (GateStands s world t m) f.2 (gate x code s ls wt g world st t may.started may.next.runs i is refl) in
      let alone : (r : ℕ) → world.win t ≡ Window.Sole r → ⊥ = λ r q. let z : IsLoaded (base_of_cell m c) (number_in m c) m.pending ≡ Window.Sole r = sym gate' ∙ q in cc in
      let new = (ls.at (m.at.pc + 1)).gate in
      let m' = goes m in
      let done_with : turn code s m ≡ Local m' → (win : Window) → WinOk (lang_of x) world t win → GateStands s (set_win world t win) t m' new → Done = λ e win ok gt. (
        set_win world t win,
        windowed_state x code s ls wt fits g world st tr may i is refl m' win g.words (gated here (HoldsLoaded c)) (record { at = refl; refs = refl; ints = refl; frames = refl; own = refl }) (local_turn code s g tr may m' e)
            (same_words x code s ls g world st) (λ u b j _ _. refl) ok st.sim (gate_top x t view m.at.refs m.at.ints names here (HoldsLoaded c) tp) (frames_same x code ls t view m (goes m) refl refl refl refl here.function (runs x code s ls wt g world st t may.started may.next.runs i is refl).below) f.5 refl gt refl,
        Silently (record { obj = refl; mutex = refl; passed = λ o p u b q. q; sole = λ u r e. let ne : u ≡ t → ⊥ = λ q. alone r (ap world.win (sym q) ∙ e) in (put_other world.win t u win ne ∙ e, refl) }),
      ) in
      elim (m.pending == 0) as (λ n. (m.pending == 0) ≡ n → turn code s m ≡ Local (lock_checked m n mutex site) → Done) [
        | true ↦ λ n e. stop_loaded i is refl (Trap traps.NullPointer site) c f.2 gate' e
        | false ↦ λ n e. elim (is_held m mutex) as (λ b. is_held m mutex ≡ b → turn code s m ≡ Local (cond b (goes m) (stopped m (NoLock site mutex))) → Done) [
          | true ↦ λ b e. done_with e (IsLoaded (base_of_cell m c) (number_in m c) m.pending) (subst (WinOk (lang_of x) world t) gate' (st.inv.wins t))
              (subst (GateStands s (set_win world t (IsLoaded (base_of_cell m c) (number_in m c) m.pending)) t m') (sym f.5.gate)
              (same_window c, (λ z. let k : (m.pending == 0) ≡ true = ap (λ n. n == 0) z in cc), b))
          | false ↦ λ b e. stop_loaded i is refl (NoLock site mutex) c f.2 gate' e
        ] refl e
      ] refl (of_turn x code s ls wt g world st tr may i is refl _ refl)
    where
      same_window : (c : Cell) → (set_win world tr.thread (IsLoaded (base_of_cell (g.threads tr.thread) c) (number_in (g.threads tr.thread) c) (g.threads tr.thread).pending)).win tr.thread
          ≡ IsLoaded (base_of_cell (goes (g.threads tr.thread)) c) (number_in (goes (g.threads tr.thread)) c) (g.threads tr.thread).pending
      same_window (Cell.Global a b) = put_same world.win t (IsLoaded (base_of_cell m (Cell.Global a b)) (number_in m (Cell.Global a b)) m.pending)
      same_window k = put_same world.win t (IsLoaded (base_of_cell m k) (number_in m k) m.pending)
