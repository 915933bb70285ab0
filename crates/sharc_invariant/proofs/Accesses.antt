-- Loads and stores of cells, from the real words up.
use Rattle.sharc_invariant.proofs.{Imports.{◌≡◌, ℕ, ℤ, pos, negsuc, suc, ◌+◌, ◌-◌, ◌^◌, ◌<◌, Bool, true, false, List, refl, sym, ap, ◌∙◌, subst, arith, ltb-true, nat_tests, length-set, set-get_or, fun_ext, length, slice_index, slice_set, nat_lt, Load, Swap, Code, Cell, Width, Char, Int, Long, Instr, Shape, At, Frame, word_of, int_of, holds, value_bits, Fits, first_cell, Own as Own', Machine, next, Asks, step_of, instr_at, int, word, goes, accessed, set_int, may_go, turn, Turn, Global, put, MayTurn, one_thread, bounds, put_same, put_other, HeldMutex, Targets, Field, field_in, is_mutex, is_pointer, Integer, Within, Gate, Closed, Holds, Loaded, HoldsLoaded, SoleGate, Label, Labels, LessGate, Leads, gated, set_number, IsNotSole, IsWellTyped, HasCell, IsInt, IsAccess, CellOf, World, Window, Shut, Sole, IsLoaded, WinOk, Right, base_of, set_win, Built, InBlock, lang_of, conc_of, Shows, register_of, FitsContent, cell_at, is_ended, has_returned, made_turn, IsThere, Silent, Effect, State, View, view_of, TopStands, FramesStand, GateStands, size_of_run, base_of_cell, object_of_cell, number_in, changes_objects}, TurnAt.turn_at, Effects.set_win_ok, Quiet.{KeepsOwn, KeepsWords, heap_now, quiet_state, noted_same, conc_plain, put_self}, Turns.{asks_turn, room_of}, Own.{is_single, int_inside, runs, rests, top, gate, not_begun, runs_at}, Frames.{less_stands, frames_same}, Plain.{resting, register_plain, same_words, number_top, vals_below, view_set, keeps_own, with_own}, Stores.{index_put, cell_store, stored_words, stored_within}, Seen.integer_stored, Cells.cell_there, CheckTurns.sim_win, Rights.right, Others.loses}
use Rattle.sharc_invariant.specs.Effect.{Accesses}

abbrev sign_of : Bool → ℤ → ℤ → ℤ
sign_of true a b = a
sign_of false a b = b

-- a value that a type holds goes into a word and comes back
low_value : (w : Width) (n : ℕ) → nat_lt n (2 ^ value_bits w) ≡ true → n < 2 ^ 63
low_value Char n h = let a : n < 2 ^ 7 = ltb-true n (2 ^ 7) h in omega arith
low_value Int n h = let a : n < 2 ^ 31 = ltb-true n (2 ^ 31) h in omega arith
low_value Long n h = ltb-true n (2 ^ 63) h

pub back_again : (w : Width) (z : ℤ) → holds w z ≡ true → (int_of (word_of z) ≡ z) × (word_of z < 2 ^ 64)
back_again w (pos n) h = let lt = low_value w n h in let e : nat_lt n (2 ^ 63) ≡ true = grind (arith, nat_tests) in (ap (λ b. sign_of b (pos n) (negsuc (2 ^ 64 - suc n))) e, omega arith)
back_again w (negsuc n) h =
    let lt = low_value w n h in
    let v = 2 ^ 64 - suc n in
    let e : nat_lt (2 ^ 64 - suc n) (2 ^ 63) ≡ false = grind (arith, nat_tests) in
    let q : 2 ^ 64 - suc (2 ^ 64 - suc n) ≡ n = omega arith in
    (ap (λ b. sign_of b (pos (2 ^ 64 - suc n)) (negsuc (2 ^ 64 - suc (2 ^ 64 - suc n)))) e ∙ ap negsuc q, omega arith)

pub gate_alone : (s : Shape) (w : World) (t : ℕ) (m : Machine) (y : Gate) → IsNotSole y → GateStands s w t m y → (q : ℕ) → w.win t ≡ Sole q → ⊥
gate_alone s w t m (Holds c) h k q e = let z = k.0 in cc
gate_alone s w t m (HoldsLoaded c) h k q e = let z = k.0 in cc
gate_alone s w t m (SoleGate r c) h k q e = absurd h
gate_alone s w t m _ h k q e = cc

-- only the gate of a label changes
pub gate_top : (x : Targets) (t : ℕ) (v : View) (base ints : ℕ) (names : ℕ → ℤ) (l : Label) (y : Gate) → TopStands x t v base ints names l → TopStands x t v base ints names (gated l y)
gate_top x t v base ints names l y tp n k = let h = tp n k in record { env = h.env; same = h.same; known = h.known; numbers = h.numbers; passed = h.passed }

-- a machine that has made its turn, with the same references
pub record KeepsRefs (m m' : Machine) : Type 0 where
  pub at : m'.at ≡ next m.at
  pub refs : m'.refs ≡ m.refs
  pub ints : length m'.ints ≡ length m.ints
  pub frames : m'.frames ≡ m.frames
  pub own : m'.own ≡ m.own

module _ (x : Targets) (code : Code) (s : Shape) (ls : Labels) (wt : IsWellTyped x code ls) (fits : Fits code s) (g : Global Machine) (world : World) (st : State x code s ls g world) (tr : Turn)
    (may : MayTurn bounds (one_thread code s) g tr) (i : Instr) (is : instr_at code (g.threads tr.thread).at.pc ≡ i) (single : is_single i ≡ true) where
  open turn_at st tr use {t, m, here, after, view}
  open resting x code s ls wt g world st tr.thread (may.started, may.next.runs) i is single use {names, tops as top_here, reads}

  abbrev Turned : Type 0
  Turned = (w' : World) × State x code s ls after w' × Effect (lang_of x) tr.thread (has_returned (g.threads tr.thread)) (changes_objects (instr_at code (g.threads tr.thread).at.pc) (g.threads tr.thread)) world w'

  below_here : FramesStand x code ls tr.thread view (g.threads tr.thread) here.function
  below_here = (runs x code s ls wt g world st t may.started may.next.runs i is single).below

  gate_here : GateStands s world tr.thread (g.threads tr.thread) here.gate
  gate_here = gate x code s ls wt g world st t may.started may.next.runs i is single

  there : (c : Cell) (f : Field) → HasCell x code here c f → IsThere x s st.cells world tr.thread (g.threads tr.thread) c f
  there c f h = cell_there x code s ls wt fits g world st t m names here top_here reads c f h

  may_access : (write : Bool) (c : Cell) (site : ℕ) (f : Field) → IsAccess x code ls here write c site f → Right (lang_of x) world tr.thread write (base_of_cell (g.threads tr.thread) c) (number_in (g.threads tr.thread) c)
  may_access write c site f a = right x code s ls wt fits g world st t (st.begins.few t may.started) names here top_here reads below_here gate_here write c f a.cell a.may

  -- a turn that leaves references where they are, and perhaps stores a word and opens or shuts the thread's window
  pub windowed_state : (m' : Machine) (win : Window) (words : List ℕ) (k : Label) → KeepsRefs (g.threads tr.thread) m' → after ≡ made_turn g tr.thread words m'
      → KeepsWords s st.heap g.words words → ((u b j : ℕ) → st.heap.state b ≡ Built u → InBlock (record { first = 1 + s.globals; words = first_cell s }) st.heap b j → slice_index words j ≡ slice_index g.words j)
      → WinOk (lang_of x) world tr.thread win → Shows x s st.cells st.elements (record (conc_of code g) { words = λ j. slice_index words j }) world
      → TopStands x tr.thread (view_of st.elements world tr.thread m') (g.threads tr.thread).at.refs (g.threads tr.thread).at.ints names k → FramesStand x code ls tr.thread (view_of st.elements world tr.thread m') m' here.function
      → Leads ls ((g.threads tr.thread).at.pc + 1) k → k.function ≡ here.function → GateStands s (set_win world tr.thread win) tr.thread m' (ls.at ((g.threads tr.thread).at.pc + 1)).gate → k.room ≡ here.room
      → State x code s ls after (set_win world tr.thread win)
  windowed_state m' win words k keeps done kw within ok sim tp below leads fn gt room =
      let rest = rests x code s ls wt g world st t may.started may.next.runs i is single in
      let rest' = ap (λ (o : Own'). o.stage) keeps.own ∙ rest in
      let w' = set_win world t win in
      let pc : m'.at.pc ≡ m.at.pc + 1 = ap (λ (a : At). a.pc) keeps.at in
      let fnc : (ls.at m'.at.pc).function ≡ here.function = ap (λ p. (ls.at p).function) pc ∙ leads.function ∙ fn in
      let er = ap (λ (a : At). a.refs) keeps.at in
      let ei = ap (λ (a : At). a.ints) keeps.at in
      let own : KeepsOwn m m' = keeps_own x code s ls wt g world st t may.started may.next.runs i is single m' (ap (with_own m'.own) keeps.own) (ap (λ (l : List ℕ). length l) keeps.refs) keeps.ints (ap (λ (l : List Frame). length l) keeps.frames)
      (not_begun x code s ls wt g world st t may.started may.next.runs i is single m'.at.pc fnc) (ap (λ (a : At). is_ended a.state) keeps.at) in
      let regs : put (λ u. register_of code (g.threads u)) t (register_of code m') ≡ (λ u. register_of code (g.threads u)) =
      fun_ext (put_self (λ u. register_of code (g.threads u)) t (register_of code m') (fun_ext (λ n. register_plain code m' rest' n ∙ ap (λ l. slice_index l n) keeps.refs ∙ sym (register_plain code m rest n)))) in
      let sim1 : Shows x s st.cells st.elements (record (conc_of code g) { words = λ j. slice_index words j; regs = put (λ u. register_of code (g.threads u)) t (register_of code m') }) w' =
      subst (λ r. Shows x s st.cells st.elements (record (conc_of code g) { words = λ j. slice_index words j; regs = r }) w') (sym regs) (sim_win x s st.cells st.elements (record (conc_of code g) { words = λ j. slice_index words j }) world (put world.win t win) sim) in
      let sim2 = subst (λ c. Shows x s st.cells st.elements c w') (sym (conc_plain code g t words m' (noted_same m m' (ap (λ (o : Own'). o.table) keeps.own) rest rest' own.ended_before own.ended))) sim1 in
      subst (λ y. State x code s ls y w') (sym done) (quiet_state x code s ls g world st t may.started words m' own kw w' (record { obj = refl; mutex = refl; args = λ u. refl })
      (record { regs = λ u _ r. refl; win = λ u ne. put_other world.win t u win ne; passed = λ u _ o p b _ q. q; sole = λ u _ r _ p. loses refl; cells = λ u _ r _ n. refl; built = λ u _ b e. (e, refl); within = λ u _ b e j n. within u b j e n })
      wt (set_win_ok (size_of_run code s) (lang_of x) world st.inv t win ok) sim2
      (λ _. runs_at x code s ls st.elements w' (heap_now st.heap words) (made_turn g t words m') t m' names rest'
      (subst (λ p. TopStands x t (view_of st.elements world t m') m'.at.refs m'.at.ints names (ls.at p)) (sym pc)
      (less_stands x t (view_of st.elements world t m') m'.at.refs m'.at.ints names k (ls.at (m.at.pc + 1)) leads
      (subst (λ b. TopStands x t (view_of st.elements world t m') b m'.at.ints names k) (sym er) (subst (λ c. TopStands x t (view_of st.elements world t m') m.at.refs c names k) (sym ei) tp))))
      (subst (FramesStand x code ls t (view_of st.elements world t m') m') (sym fnc) below)
      (subst (λ p. GateStands s w' t m' (ls.at p).gate) (sym pc) gt)
      (λ q. let r1 : (ls.at (m.at.pc + 1)).room ≡ true = subst (λ p. (ls.at p).room ≡ true) pc q in
      subst (λ (l : List HeldMutex). length l < 16) (sym (ap (λ (o : Own'). o.held) keeps.own)) ((runs x code s ls wt g world st t may.started may.next.runs i is single).room (sym room ∙ leads.room r1))))
      (λ q. let z : may_go m'.at.state ≡ true = ap (λ (a : At). may_go a.state) keeps.at in absurd (cc))
      (room_of code s g tr may words m' done))

  -- the window that the next place's gate wants, where it may be shut instead
  shut_gate : (y : Gate) → LessGate Closed y → (m' : Machine) → GateStands s (set_win world tr.thread Shut) tr.thread m' y
  shut_gate y h m' = subst (GateStands s (set_win world t Shut) t m') (sym (Rattle.sharc_invariant.proofs.Own.closed_less y h)) (put_same world.win t Shut)

  pub silent_window : (win : Window) → ((r : ℕ) → world.win tr.thread ≡ Sole r → ⊥) → Silent world (set_win world tr.thread win)
  silent_window win none' = record {
    obj = refl;
    mutex = refl;
    passed = λ o p u b q. q;
    sole = λ u r e. let ne : u ≡ t → ⊥ = λ q. none' r (ap world.win (sym q) ∙ e) in (put_other world.win t u win ne ∙ e, refl);
  }

  never_alone : IsNotSole here.gate → (q : ℕ) → world.win tr.thread ≡ Sole q → ⊥
  never_alone h = gate_alone s world t m here.gate h gate_here

  -- an integer is stored
  pub Store_keeps : (r : ℕ) (c : Cell) (site : ℕ) (f : Field) (w : Width) → turn code s (g.threads tr.thread) ≡ Asks (step_of (word s (g.threads tr.thread) c) (Swap (word_of (int (g.threads tr.thread) r)))) (λ found. goes (accessed (g.threads tr.thread)))
      → IsAccess x code ls here true c site f → f.holds ≡ Integer w → holds w (int (g.threads tr.thread) r) ≡ true → Leads ls ((g.threads tr.thread).at.pc + 1) (gated here Closed) → Turned
  Store_keeps r c site f w act_is access holds_int fit leads =
      let alone = never_alone access.apart in
      let th = there c f access.cell in
      let o = object_of_cell m c in
      let j = number_in m c in
      let v = word_of (int m r) in
      let back = back_again w (int m r) fit in
      let k = cell_at s o j in
      let m' = goes (accessed m) in
      let done0 = asks_turn code s g tr may (step_of (word s m c) (Swap v)) (λ found. m') act_is in
      let words = slice_set g.words k v in
      let done : after ≡ made_turn g t words m' = done0.0 ∙ ap (λ k. made_turn g t (slice_set g.words k v) m') th.word_is in
      let lt : k < length g.words = subst (λ k. k < length g.words) th.word_is done0.1 in
      let ms = cell_store x code s ls g world st o j th.live th.number in
      let content : (field_in x (world.obj o).ty j).holds ≡ Integer w = ap (λ (f : Field). f.holds) th.field ∙ holds_int in
      let sim : Shows x s st.cells st.elements (record (conc_of code g) { words = λ n. slice_index words n }) world =
      subst (λ h. Shows x s st.cells st.elements (record (conc_of code g) { words = h }) world) (sym (fun_ext (index_put g.words k v lt)))
      (integer_stored x s st.cells st.elements (conc_of code g) world st.sim st.apart o j v th.live th.number (ap is_pointer content) (ap is_mutex content)
      (subst (λ h. FitsContent h v) (sym content) (ap (holds w) back.0 ∙ fit))) in (
        set_win world t Shut,
        windowed_state m' Shut words (gated here Closed) (record { at = refl; refs = refl; ints = refl; frames = refl; own = refl }) done
            (stored_words x code s ls g world st k v ms lt back.1 (λ n l e. absurd (let h = st.apart.headers o th.live in omega arith))) (stored_within x code s ls g world st k v ms lt)
            tt sim (gate_top x t view m.at.refs m.at.ints names here Closed top_here) (frames_same x code ls t view m m' refl refl refl refl here.function below_here) leads refl (shut_gate (ls.at (m.at.pc + 1)).gate leads.gate m') refl,
        Accesses true (base_of_cell m c) j (may_access true c site f access) alone (silent_window Shut alone),
      )

  -- the words stay where one is loaded
  pub loaded_words : (k : ℕ) (m' : Machine) → after ≡ made_turn g tr.thread (slice_set g.words k (slice_index g.words k)) m' → after ≡ made_turn g tr.thread g.words m'
  loaded_words k m' e = e ∙ ap (λ ws. made_turn g t ws m') (set-get_or g.words k 0)

  -- an integer is loaded, and its type holds it
  pub Load_keeps : (r : ℕ) (c : Cell) (site : ℕ) (f : Field) (w : Width)
      → turn code s (g.threads tr.thread) ≡ Asks (step_of (word s (g.threads tr.thread) c) Load) (λ found. goes (accessed (set_int (g.threads tr.thread) r (int_of found))))
      → IsAccess x code ls here false c site f → f.holds ≡ Integer w → IsInt code here r → Leads ls ((g.threads tr.thread).at.pc + 1) (set_number here r (Within w)) → Turned
  Load_keeps r c site f w act_is access holds_int isint leads =
      let alone = never_alone access.apart in
      let th = there c f access.cell in
      let o = object_of_cell m c in
      let j = number_in m c in
      let k = cell_at s o j in
      let z = int_of (slice_index g.words (word s m c)) in
      let m' = goes (accessed (set_int m r z)) in
      let done0 = asks_turn code s g tr may (step_of (word s m c) Load) (λ found. goes (accessed (set_int m r (int_of found)))) act_is in
      let done = loaded_words (word s m c) m' done0.0 in
      let fit : holds w z ≡ true =
      let a : FitsContent (field_in x (world.obj o).ty j).holds (slice_index g.words k) = st.sim.integers o j th.live th.number in
      let b : FitsContent (Integer w) (slice_index g.words k) = subst (λ h. FitsContent h (slice_index g.words k)) (ap (λ (f : Field). f.holds) th.field ∙ holds_int) a in
      ap (λ k. holds w (int_of (slice_index g.words k))) th.word_is ∙ b in
      let lt : m.at.ints + r < length m.ints = subst (λ b. m.at.ints + r < b) (sym (st.threads t).has.ints) (int_inside x code ls t view m here.function r below_here isint) in
      let e = view_set x code s ls wt g world st t may.started may.next.runs i is single r z lt in (
        set_win world t Shut,
        windowed_state m' Shut g.words (set_number here r (Within w)) (record { at = refl; refs = refl; ints = length-set m.ints (m.at.ints + r) z; frames = refl; own = refl }) done
            (same_words x code s ls g world st) (λ u b j _ _. refl) tt st.sim
            (subst (λ v. TopStands x t v m.at.refs m.at.ints names (set_number here r (Within w))) (sym e) (number_top x code s ls wt g world st t may.started may.next.runs i is single names r z (Within w) here fit top_here))
            (vals_below x code s ls wt g world st t may.started may.next.runs i is single r z (view_of st.elements world t m') e m' refl refl refl refl here.function below_here)
            leads refl (shut_gate (ls.at (m.at.pc + 1)).gate leads.gate m') refl,
        Accesses false (base_of_cell m c) j (may_access false c site f access) alone (silent_window Shut alone),
      )

  -- a reference is loaded, and not yet raised
  pub LoadRef_keeps : (c : Cell) (site : ℕ) (f : Field) → turn code s (g.threads tr.thread) ≡ Asks (step_of (word s (g.threads tr.thread) c) Load) (λ found. goes (record (g.threads tr.thread) { pending = found }))
      → IsAccess x code ls here false c site f → is_pointer f.holds ≡ true → Leads ls ((g.threads tr.thread).at.pc + 1) (gated here (Loaded c)) → Turned
  LoadRef_keeps c site f act_is access ptr leads =
      let alone = never_alone access.apart in
      let th = there c f access.cell in
      let o = object_of_cell m c in
      let j = number_in m c in
      let found = slice_index g.words (word s m c) in
      let m' = goes (record m { pending = found }) in
      let done0 = asks_turn code s g tr may (step_of (word s m c) Load) (λ found. goes (record m { pending = found })) act_is in
      let done = loaded_words (word s m c) m' done0.0 in
      let rt = may_access false c site f access in
      let slot : (world.slots (CellOf (base_of world t (base_of_cell m c)) j)).reference ≡ found =
      ap (λ o. (world.slots (CellOf o j)).reference) th.base ∙ st.sim.pointers o j th.live th.number (ap (λ (f : Field). is_pointer f.holds) th.field ∙ ptr) ∙ ap (slice_index g.words) (sym th.word_is) in
      let new = (ls.at (m.at.pc + 1)).gate in
      let win = IsLoaded (base_of_cell m c) j found in
      let gt : GateStands s (set_win world t win) t m' new = subst (GateStands s (set_win world t win) t m') (sym leads.gate) (loaded_window found c) in (
        set_win world t win,
        windowed_state m' win g.words (gated here (Loaded c)) (record { at = refl; refs = refl; ints = refl; frames = refl; own = refl }) done (same_words x code s ls g world st) (λ u b j _ _. refl) (rt, slot) st.sim
            (gate_top x t view m.at.refs m.at.ints names here (Loaded c) top_here) (frames_same x code ls t view m m' refl refl refl refl here.function below_here) leads refl gt refl,
        Accesses false (base_of_cell m c) j rt alone (silent_window win alone),
      )
    where
      loaded_window : (found : ℕ) (c : Cell) → GateStands s (set_win world tr.thread (IsLoaded (base_of_cell (g.threads tr.thread) c) (number_in (g.threads tr.thread) c) found)) tr.thread (goes (record (g.threads tr.thread) { pending = found })) (Loaded c)
      loaded_window found (Cell.Global a b) = put_same world.win t (IsLoaded (base_of_cell m (Cell.Global a b)) (number_in m (Cell.Global a b)) found)
      loaded_window found k = put_same world.win t (IsLoaded (base_of_cell m k) (number_in m k) found)
