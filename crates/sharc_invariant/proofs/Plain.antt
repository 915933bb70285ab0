-- Turns that change no word: registers alone, tests and jumps.
use Rattle.sharc_invariant.proofs.{Imports.{◌≡◌, ℕ, ℤ, pos, suc, ◌+◌, ◌<◌, ◌≤◌, true, false, cond, List, Option, refl, sym, ap, ◌∙◌, subst, arith, get_or-set_same, get_or-set_other, length-set, fun_ext, length, slice_index, Code, Instr, Shape, Stop, RunsOn, Tries, Stopped, Ended, Rests, Machine, instr_at, goes, goes_to, set_int, stopped, may_go, counted, Global, put, put_same, put_other, put_all, Targets, Closed, Number, Label, Labels, Less, LessGate, Leads, set_number, IsWellTyped, IsInt, World, Shut, Heap, Kept, MachineView, conc_of, Shows, register_of, is_ended, made_turn, KeepsOthers, StopStands, State, View, view_of, vals_of, NumberStands, TopStands, FramesStand, GateStands, Runs, refs_at, types_at, Own as Own', ◌==◌, argument_of, Built, InBlock, ◌≢◌, in_ref, RegisterOf, IsOn}, TurnAt.thread_at, Frames.{less_stands, frames_agree, frames_same}, Quiet.{KeepsOwn, KeepsWords, KeepsWorld, heap_now, quiet_state, freed_held, noted_same, conc_plain, sizes_kept}, Others.{stop_at, OnHold, loses}, Own.{top, is_single, closed_less, runs_at, int_inside, runs, rests, gate, not_begun, begun_before}}

-- ---- registers as they are seen
pub register_plain : (code : Code) (m : Machine) → m.own.stage ≡ Rests → (i : ℕ) → register_of code m i ≡ slice_index m.refs i
register_plain code m e i = ap (λ b. cond b 0 (slice_index m.refs i)) (freed_held (instr_at code m.at.pc) m.own.stage m.at.refs i (subst OnHold (sym e) tt))

-- ---- the words stay
pub same_words : (x : Targets) (code : Code) (s : Shape) (ls : Labels) (g : Global Machine) (world : World) (st : State x code s ls g world) → KeepsWords s st.heap g.words g.words
same_words x code s ls g world st = record {
  count = refl;
  low = λ j _ _. refl;
  are_words = st.are_words;
  epochs = λ i _. refl;
  kept = subst (λ f. Kept (record { first = 1 + s.globals; words = Rattle.sharc_code.specs.Layout.first_cell s }) (record st.heap { words = f })) (fun_ext st.heap_stands.words) st.heap_stands.kept;
}

-- the world stays, and so do the blocks that other threads build, with their words
pub others_heap : (s : Shape) (w : World) (heap heap' : Heap) (words words' : List ℕ) (t : ℕ) → ((u : ℕ) → u ≢ t → (b : ℕ) → heap.state b ≡ Built u → (heap'.state b ≡ Built u) × (heap'.size b ≡ heap.size b))
    → ((u : ℕ) → u ≢ t → (b : ℕ) → heap.state b ≡ Built u → (j : ℕ) → InBlock (record { first = 1 + s.globals; words = Rattle.sharc_code.specs.Layout.first_cell s }) heap b j → slice_index words' j ≡ slice_index words j)
    → KeepsOthers s w w heap heap' words words' t
others_heap s w heap heap' words words' t built within = record {
  regs = λ u _ r. refl;
  win = λ u _. refl;
  passed = λ u _ o p k _ h. h;
  sole = λ u _ r _ p. loses refl;
  cells = λ u _ r _ i. refl;
  built = built;
  within = within;
}

pub others_stay : (s : Shape) (w : World) (heap : Heap) (words words' : List ℕ) (t : ℕ)
    → ((u : ℕ) → u ≢ t → (b : ℕ) → heap.state b ≡ Built u → (j : ℕ) → InBlock (record { first = 1 + s.globals; words = Rattle.sharc_code.specs.Layout.first_cell s }) heap b j → slice_index words' j ≡ slice_index words j)
    → KeepsOthers s w w heap (heap_now heap words') words words' t
others_stay s w heap words words' t within = others_heap s w heap (heap_now heap words') words words' t (λ u _ b e. (e, refl)) within

pub same_others : (s : Shape) (w : World) (heap : Heap) (words : List ℕ) (t : ℕ) → KeepsOthers s w w heap (heap_now heap words) words words t
same_others s w heap words t = others_stay s w heap words words t (λ u _ b _ j _. refl)

pub same_world : (w : World) → KeepsWorld w w
same_world w = record { obj = refl; mutex = refl; args = λ u. refl }

-- registers and arguments that read as before
pub sim_same : (x : Targets) (s : Shape) (cells elements : ℕ → ℕ) (c : MachineView) (w : World) (regs : ℕ → ℕ → ℕ) (args : ℕ → ℕ) → ((u i : ℕ) → c.regs u i ≡ regs u i) → ((u : ℕ) → c.args u ≡ args u)
    → Shows x s cells elements c w → Shows x s cells elements (record c { regs = regs; args = args }) w
sim_same x s cells elements c w regs args e a h = subst (λ c. Shows x s cells elements c w) (λ i. record c { regs = fun_ext (λ u. fun_ext (e u)) i; args = fun_ext a i }) h

-- what a turn may keep of what a thread has for itself
abbrev pub with_own : Own' → Own' → Own'
with_own o p = record o { number = p.number; held = p.held; heads = p.heads; table = p.table; stage = p.stage }

-- a thread in the middle of nothing: by these names of numbers its registers stand, and it reads what they hold
pub record Resting (x : Targets) (world : World) (t : ℕ) (v : View) (m : Machine) (l : Label) : Type 0 where
  pub names : ℕ → ℤ
  pub tops : TopStands x t v m.at.refs m.at.ints names l
  pub rest : m.own.stage ≡ Rests
  pub reads : (r : ℕ) → Rattle.sharc_code.specs.Machine.ref m r ≡ in_ref world (RegisterOf t (m.at.refs + r))

abbrev pub resting : (x : Targets) (code : Code) (s : Shape) (ls : Labels) (wt : IsWellTyped x code ls) (g : Global Machine) (world : World) (st : State x code s ls g world) (t : ℕ) (on : IsOn g t) (i : Instr) → instr_at code (g.threads t).at.pc ≡ i → is_single i ≡ true
    → Resting x world t (view_of st.elements world t (g.threads t)) (g.threads t) (ls.at (g.threads t).at.pc)
resting x code s ls wt g world st t on i is single = record {
  names = (runs x code s ls wt g world st t on.0 on.1 i is single).names;
  tops = top x code s ls wt g world st t on.0 on.1 i is single;
  rest = rests x code s ls wt g world st t on.0 on.1 i is single;
  reads = λ r. sym (st.sim.regs t ((g.threads t).at.refs + r) ∙ register_plain code (g.threads t) (rests x code s ls wt g world st t on.0 on.1 i is single) ((g.threads t).at.refs + r));
}

module _ (x : Targets) (code : Code) (s : Shape) (ls : Labels) (wt : IsWellTyped x code ls) (g : Global Machine) (world : World) (st : State x code s ls g world) (t : ℕ) (on : g.started t ≡ true) (go : may_go (g.threads t).at.state ≡ true)
    (i : Instr) (is : instr_at code (g.threads t).at.pc ≡ i) (single : is_single i ≡ true) where
  open thread_at st t use {m, here, view}

  -- the thread's references, world and words stay
  pub plain_state : (m' : Machine) → KeepsOwn (g.threads t) m' → m'.own.table ≡ (g.threads t).own.table → m'.refs ≡ (g.threads t).refs
      → (may_go m'.at.state ≡ true → Runs x code s ls st.elements world (heap_now st.heap g.words) (made_turn g t g.words m') t m') → (may_go m'.at.state ≡ false → StopStands world t m' (ls.at m'.at.pc).gate)
      → g.made t + counted m'.at.state ≤ 100000000 → State x code s ls (made_turn g t g.words m') world
  plain_state m' own tb refs runs' over few =
      let regs : (u j : ℕ) → register_of code (g.threads u) j ≡ put (λ u. register_of code (g.threads u)) t (register_of code m') u j = λ u j.
      put_all (λ u (f : ℕ → ℕ). register_of code (g.threads u) j ≡ f j) (λ u. register_of code (g.threads u)) t (register_of code m')
      (register_plain code m own.stage j ∙ ap (λ l. slice_index l j) (sym refs) ∙ sym (register_plain code m' own.rests j)) (λ u _. refl) u in
      quiet_state x code s ls g world st t on g.words m' own (same_words x code s ls g world st) world (same_world world) (same_others s world st.heap g.words t) wt st.inv
      (subst (λ c. Shows x s st.cells st.elements c world) (sym (conc_plain code g t g.words m' (noted_same m m' tb own.stage own.rests own.ended_before own.ended))) (sim_same x s st.cells st.elements (conc_of code g) world (put (λ u. register_of code (g.threads u)) t (register_of code m')) (argument_of code g) regs (λ u. refl) st.sim)) runs' over few

  pub going : is_ended (g.threads t).at.state ≡ false
  going = elim (g.threads t).at.state as (λ y. may_go y ≡ true → is_ended y ≡ false) [ RunsOn ↦ λ e. refl | Tries ↦ λ e. refl | Stopped ↦ λ e. refl | Ended ↦ λ e. absurd (cc) ] go

  -- it comes to stand where the gate is closed
  pub next_runs : (w' : World) (heap' : Heap) (g' : Global Machine) (m' : Machine) (names : ℕ → ℤ) (k : Label) → m'.own.stage ≡ Rests → k.function ≡ (ls.at (g.threads t).at.pc).function → k.gate ≡ Closed → Less k (ls.at m'.at.pc)
      → TopStands x t (view_of st.elements w' t m') m'.at.refs m'.at.ints names k → FramesStand x code ls t (view_of st.elements w' t m') m' (ls.at (g.threads t).at.pc).function → w'.win t ≡ Shut → (k.room ≡ true → length m'.own.held < 16)
      → Runs x code s ls st.elements w' heap' g' t m'
  next_runs w' heap' g' m' names k rest fn gt less top' below' shut room' =
      let new = (ls.at m'.at.pc).gate in
      runs_at x code s ls st.elements w' heap' g' t m' names rest
      (less_stands x t (view_of st.elements w' t m') m'.at.refs m'.at.ints names k (ls.at m'.at.pc) less top')
      (subst (FramesStand x code ls t (view_of st.elements w' t m') m') (sym (less.function ∙ fn)) below')
      (subst (GateStands s w' t m') (sym (closed_less new (subst (λ y. LessGate y new) gt less.gate))) shut)
      (λ q. room' (less.room q))

  below_here : FramesStand x code ls t view (g.threads t) here.function
  below_here = (runs x code s ls wt g world st t on go i is single).below

  -- the world has no window where the gate is closed
  pub is_shut : here.gate ≡ Closed → world.win t ≡ Shut
  is_shut e = subst (GateStands s world t m) e (gate x code s ls wt g world st t on go i is single)

  -- nothing but the place changes, and what it knows
  abbrev moved : ℕ → Machine
  moved pc = goes_to (g.threads t) pc

  -- the turn leaves what the thread keeps for itself
  pub keeps_own : (m' : Machine) → m'.own ≡ with_own m'.own (g.threads t).own → length m'.refs ≡ length (g.threads t).refs → length m'.ints ≡ length (g.threads t).ints → length m'.frames ≡ length (g.threads t).frames
      → (m'.at.pc == 0) ≡ false → is_ended m'.at.state ≡ false → KeepsOwn (g.threads t) m'
  keeps_own m' own refs ints frames begun ended = record {
    sizes = sizes_kept (g.threads t) m' (st.threads t).has.table (ap (λ (o : Own'). record m'.own { number = o.number; table = o.table }) own) refs ints frames;
    held = ap (λ (o : Own'). o.held) own;
    heads = ap (λ (o : Own'). o.heads) own;
    stage = rests x code s ls wt g world st t on go i is single;
    rests = ap (λ (o : Own'). o.stage) own ∙ rests x code s ls wt g world st t on go i is single;
    begun_before = begun_before x code s ls wt g world st t on go i is single;
    begun = begun;
    ended_before = going;
    ended = ended;
  }

  pub jump_state : (pc : ℕ) (k : Label) → here.gate ≡ Closed → Less k (ls.at pc) → k.function ≡ here.function → k.gate ≡ Closed → (k.room ≡ true → length (g.threads t).own.held < 16)
      → TopStands x t view (g.threads t).at.refs (g.threads t).at.ints (runs x code s ls wt g world st t on go i is single).names k → g.made t + 1 ≤ 100000000 → State x code s ls (made_turn g t g.words (moved pc)) world
  jump_state pc k gt less fn kg room tp few =
      plain_state (moved pc) (keeps_own (moved pc) refl refl refl refl (not_begun x code s ls wt g world st t on go i is single pc (less.function ∙ fn)) refl) refl refl
      (λ _. next_runs world (heap_now st.heap g.words) (made_turn g t g.words (moved pc)) (moved pc) (runs x code s ls wt g world st t on go i is single).names k (rests x code s ls wt g world st t on go i is single) fn kg less
      tp (frames_same x code ls t view (g.threads t) (moved pc) refl refl refl refl here.function below_here) (is_shut gt) room)
      (λ e. absurd (cc)) few

  -- a stop
  pub stop_state : (why : Stop) → world.win t ≡ Shut → g.made t + 1 ≤ 100000000 → State x code s ls (made_turn g t g.words (stopped (g.threads t) why)) world
  stop_state why shut few =
      plain_state (stopped (g.threads t) why) (keeps_own (stopped (g.threads t) why) refl refl refl refl (begun_before x code s ls wt g world st t on go i is single) refl) refl refl
      (λ e. absurd (cc)) (λ _. stop_at s world t m (stopped (g.threads t) why) here.gate (gate x code s ls wt g world st t on go i is single) shut) few

  -- ---- an integer register holds something else
  abbrev numbered : ℕ → ℤ → Machine
  numbered r z = goes (set_int (g.threads t) r z)

  vals_set : (r : ℕ) (z : ℤ) → (g.threads t).at.ints + r < length (g.threads t).ints → (j : ℕ) → vals_of (numbered r z) j ≡ put (vals_of (g.threads t)) ((g.threads t).at.ints + r) z j
  vals_set r z lt = put_all (λ j y. vals_of (numbered r z) j ≡ y) (vals_of (g.threads t)) ((g.threads t).at.ints + r) z
      (get_or-set_same (g.threads t).ints ((g.threads t).at.ints + r) z (pos 0) lt)
      (λ j ne. get_or-set_other (g.threads t).ints ((g.threads t).at.ints + r) j z (pos 0) ne)

  pub view_set : (r : ℕ) (z : ℤ) → (g.threads t).at.ints + r < length (g.threads t).ints → view_of st.elements world t (numbered r z) ≡ record view { vals = put (vals_of (g.threads t)) ((g.threads t).at.ints + r) z }
  view_set r z lt = ap (λ (f : ℕ → ℤ). record view { vals = f }) (fun_ext (vals_set r z lt))

  pub number_top : (names : ℕ → ℤ) (r : ℕ) (z : ℤ) (n : Number) (l : Label)
      → NumberStands x st.elements (refs_at view (g.threads t).at.refs) (types_at view (g.threads t).at.refs) names z n
      → TopStands x t view (g.threads t).at.refs (g.threads t).at.ints names l
      → TopStands x t (record view { vals = put (vals_of (g.threads t)) ((g.threads t).at.ints + r) z }) (g.threads t).at.refs (g.threads t).at.ints names (set_number l r n)
  number_top names r z n l k top' a b =
      let base = (g.threads t).at.ints in
      record {
        env = (top' a b).env;
        same = (top' a b).same;
        known = (top' a b).known;
        passed = (top' a b).passed;
        numbers = λ j lt. put_all (λ j (y : Number). NumberStands x st.elements (refs_at view m.at.refs) (types_at view m.at.refs) names (put (vals_of m) (base + r) z (base + j)) y) l.ints r n
            (subst (λ y. NumberStands x st.elements (refs_at view m.at.refs) (types_at view m.at.refs) names y n) (sym (put_same (vals_of m) (base + r) z)) k)
            (λ j ne. subst (λ y. NumberStands x st.elements (refs_at view m.at.refs) (types_at view m.at.refs) names y (l.ints j)) (sym (put_other (vals_of m) (base + r) (base + j) z (λ e. ne (omega arith)))) ((top' 0 (suc j)).numbers j (omega arith))) j;
      }

  pub vals_below : (r : ℕ) (z : ℤ) (v' : View) → v' ≡ record view { vals = put (vals_of (g.threads t)) ((g.threads t).at.ints + r) z } → (m' : Machine) → m'.frames ≡ (g.threads t).frames → m'.at.depth ≡ (g.threads t).at.depth
      → m'.at.refs ≡ (g.threads t).at.refs → m'.at.ints ≡ (g.threads t).at.ints → (f : Option ℕ) → FramesStand x code ls t view (g.threads t) f → FramesStand x code ls t v' m' f
  vals_below r z v' e m' ef ed er ei f h =
      let v1 : View = record view { vals = put (vals_of m) (m.at.ints + r) z } in
      subst (λ v. FramesStand x code ls t v m' f) (sym e) (frames_agree x code ls t view v1 m m' (record {
        refs = λ j _. refl;
        types = λ j _. refl;
        vals = λ j lt. sym (put_other (vals_of m) (m.at.ints + r) j z (λ q. omega arith));
        elements = λ j _. refl;
        passed = λ o p b _ k. k;
      }) ef ed er ei f h)

  pub numbers_state : (r : ℕ) (z : ℤ) (n : Number) (l : Label) (names : ℕ → ℤ) → l.function ≡ here.function → l.room ≡ here.room → here.gate ≡ Closed → IsInt code here r
      → TopStands x t view (g.threads t).at.refs (g.threads t).at.ints names l
      → NumberStands x st.elements (refs_at view (g.threads t).at.refs) (types_at view (g.threads t).at.refs) names z n
      → Leads ls ((g.threads t).at.pc + 1) (set_number l r n) → g.made t + 1 ≤ 100000000 → State x code s ls (made_turn g t g.words (numbered r z)) world
  numbers_state r z n l names fn rm gt isin tp k leads few =
      let m' = numbered r z in
      let lt : m.at.ints + r < length m.ints = subst (λ b. m.at.ints + r < b) (sym (st.threads t).has.ints) (int_inside x code ls t view m here.function r below_here isin) in
      let e = view_set r z lt in
      plain_state m' (keeps_own m' refl refl (length-set m.ints (m.at.ints + r) z) refl (not_begun x code s ls wt g world st t on go i is single (m.at.pc + 1) (leads.function ∙ fn)) refl) refl refl
      (λ _. next_runs world (heap_now st.heap g.words) (made_turn g t g.words m') m' names (set_number l r n) (rests x code s ls wt g world st t on go i is single) fn refl leads
      (subst (λ v. TopStands x t v m.at.refs m.at.ints names (set_number l r n)) (sym e) (number_top names r z n l k tp))
      (vals_below r z (view_of st.elements world t m') e m' refl refl refl refl here.function below_here)
      (is_shut gt) (λ q. (runs x code s ls wt g world st t on go i is single).room (sym rm ∙ q)))
      (λ q. absurd (cc)) few
