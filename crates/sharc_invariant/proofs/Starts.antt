-- Start keeps the invariant: a thread loads its function, and then its argument, and enters it.
use Rattle.sharc_invariant.proofs.{Imports.{◌≡◌, ℕ, ℤ, pos, suc, ◌+◌, ◌*◌, ◌^◌, ◌<◌, ◌≢◌, ◌⊎◌, ◌&&◌, Bool, true, false, cond, List, Some, None, refl, sym, ap, ◌∙◌, subst, inl, inr, ⊎_elim, arith, cases_eq, nat_tests, length-set, get_or-set_same, get_or-set_other, set-get_or, fun_ext, length, slice_index, slice_index_or, slice_set, nat_lt, ◌==◌, THREADS, Load, Kind, Accesses, note_of, FRAMES, Code, Parameter, Shape, At, Frame, RunsOn, Stage, Rests, Enters, int_of, Fits, function_at, state_word, function_word, argument_word, Machine, Asks, function_of, instr_at, no_frame, step_of, at_stage, called, trapped, with_parameter, entered, start, turn, counted, most_refs, Turn, Global, put, MayTurn, one_thread, bounds, Instr, put_same, put_other, put_all, Targets, nothing, Empty, Refers, Unknown, Label, Labels, Less, HasBase, IsWellTyped, Fine, MayStart, entry_label, refs_in, TypedReference, Holder, RegisterOf, ArgumentOf, LogOf, Staged, In, Slot, CellOf, World, Shut, Sole, WorldInvariant, in_ref, none, place, shift, MachineView, conc_of, lang_of, Shows, is_first, is_unread, if_reference, note_number, register_of, argument_of, staged_of, noted_by, is_ended, has_withdrawn, making_of, Silently, made_turn, KeepsOthers, State, View, view_of, Runs, Threads, Firsts, SpawnsNow, EntryStands, NumberStands, TopStands, StartStands, FramesStand, GateStands, StageStands, OnStart, label_now, frame_at, refs_at, types_at, size_of_run, Turned, ne_eq}, TurnAt.{turn_at, turn_stands}, Effects.{place_same, place_other, shift_ok}, Frames.{less_stands, entry_kept, number_kept}, Quiet.{KeepsThread, heap_now, started_same, sum_up, kept_state, label_held, freed_held, sizes_kept, conc_turned}, Others.{OnHold, loses}, Turns.{asks_turn, room_of, unseen}, Own.{closed_less, runs_at, refs_most, ints_most}, Plain.{same_words, same_others, sim_same}, Filled.free_shut, Seen.{reg_stored, holder_stored}, BitTurns.going_on}
use Rattle.sharc_tree.specs.declared.trap.Trap.{Trap}

-- ---- the machine that enters a function
pub called_first : (n : Machine) (pc site : ℕ) → n.at.pc ≡ 0 → n.at.ints ≡ 0 → n.at.refs ≡ 0 → n.at.depth ≡ 0 → 0 < length n.frames
    → called n pc 0 0 site ≡ record n { at = record { pc = pc; ints = 0; refs = 0; depth = 1; state = RunsOn }; frames = slice_set n.frames 0 record { pc = 1; ints = 0; refs = 0 } }
called_first n pc site ep ei er ed lt =
    let F : ℕ → ℕ → ℕ → ℕ → Machine = λ a b c d.
    cond ((nat_lt d (length n.frames) && nat_lt (d + 1) (2 ^ 32)) && (nat_lt (b + 0) (2 ^ 32) && nat_lt (c + 0) (2 ^ 32)))
    (record n { at = record { pc = pc; ints = b + 0; refs = c + 0; depth = d + 1; state = RunsOn }; frames = slice_set n.frames d record { pc = a + 1; ints = b; refs = c } })
    (trapped n Trap.CallDepth site) in
    let q : nat_lt 0 (length n.frames) ≡ true = grind (arith, nat_tests) in
    ap (λ a. F a n.at.ints n.at.refs n.at.depth) ep ∙ ap (λ b. F 0 b n.at.refs n.at.depth) ei ∙ ap (λ c. F 0 0 c n.at.depth) er ∙ ap (F 0 0 0) ed
    ∙ ap (λ b. cond ((b && true) && true) (record n { at = record { pc = pc; ints = 0; refs = 0; depth = 1; state = RunsOn }; frames = slice_set n.frames 0 record { pc = 1; ints = 0; refs = 0 } }) (trapped n Trap.CallDepth site)) q

pub register_held : (code : Code) (m : Machine) → OnHold m.own.stage → (i : ℕ) → register_of code m i ≡ slice_index m.refs i
register_held code m h i = ap (λ b. cond b 0 (slice_index m.refs i)) (freed_held (instr_at code m.at.pc) m.own.stage m.at.refs i h)

abbrev pub is_early : Stage → Bool
is_early Rests = true
is_early (Enters f) = true
is_early _ = false

-- at such a stage no block is to be linked or built, nothing is staged, no thread is named and nothing is withdrawn
early_calm : (y : Stage) → is_early y ≡ true
    → record { hold : OnHold y; staged : staged_of y ≡ 0; making : making_of y ≡ None; spawns : (n : ℕ) → SpawnsNow y n → ⊥; first : is_first y ≡ true; withdrawn : (order : List ℕ) (ended : Bool) (p : ℕ) → has_withdrawn y order ended p ≡ ended }
early_calm Rests e = record { hold = tt; staged = refl; making = refl; spawns = λ n z. z; first = refl; withdrawn = λ order ended p. refl }
early_calm (Enters f) e = record { hold = tt; staged = refl; making = refl; spawns = λ n z. z; first = refl; withdrawn = λ order ended p. refl }
early_calm _ e = absurd (cc)

-- who withdraws neither before nor behind a turn that leaves its table has the notes that it had
pub calm_notes : (m m' : Machine) → m'.own.table ≡ m.own.table → ((order : List ℕ) (ended : Bool) (p : ℕ) → has_withdrawn m.own.stage order ended p ≡ ended) → ((order : List ℕ) (ended : Bool) (p : ℕ) → has_withdrawn m'.own.stage order ended p ≡ ended)
    → is_ended m.at.state ≡ false → is_ended m'.at.state ≡ false → (kind : Kind) (p : ℕ) → noted_by m' kind p ≡ noted_by m kind p
calm_notes m m' et w w' eb ee kind p =
    let a = w m.own.table.order (is_ended m.at.state) p ∙ eb in
    let b = w' m'.own.table.order (is_ended m'.at.state) p ∙ ee in
    ap (λ b. cond b 0 (note_number (note_of m'.own.table p kind))) b ∙ ap (λ (tb : Accesses). note_number (note_of tb p kind)) et ∙ ap (λ b. cond b 0 (note_number (note_of m.own.table p kind))) (sym a)

from_zero : {A : Type 0} (f : ℕ → A) → f ≡ (λ r. f (0 + r))
from_zero f = fun_ext (λ r. let z : r ≡ 0 + r = omega arith in ap f z)

-- the argument slot of a thread holds something else
pub arg_stored : (x : Targets) (s : Shape) (cells elements : ℕ → ℕ) (c : MachineView) (w : World) → Shows x s cells elements c w → (n : ℕ) (h : TypedReference) (args : ℕ → ℕ) → args n ≡ h.reference → ((u : ℕ) → u ≢ n → args u ≡ c.args u)
    → Shows x s cells elements (record c { args = args }) (record w { slots = place w.slots (In (ArgumentOf n)) h })
arg_stored x s cells elements c w sim n h args et eu =
    let own : (a : Holder) → (a ≡ ArgumentOf n → ⊥) → (place w.slots (In (ArgumentOf n)) h (In a)).reference ≡ in_ref w a = λ a ne. ap (λ (h : TypedReference). h.reference) (place_other w.slots (In (ArgumentOf n)) (In a) h (λ e. ne (cc))) in
    holder_stored x s cells elements c w sim (ArgumentOf n) h c.regs args c.logs c.staged
    (λ u j. own (RegisterOf u j) (λ e. cc) ∙ sim.regs u j)
    (λ u. ⊎_elim
    (λ (e : u ≡ n). ap (λ u. (place w.slots (In (ArgumentOf n)) h (In (ArgumentOf u))).reference) e ∙ ap (λ (h : TypedReference). h.reference) (place_same w.slots (In (ArgumentOf n)) h) ∙ sym (ap args e ∙ et))
    (λ (ne : u ≡ n → ⊥). own (ArgumentOf u) (λ e. ne (cc)) ∙ sim.args u ∙ sym (eu u ne))
    (cases_eq u n))
    (λ u word. own (LogOf u word) (λ e. cc) ∙ sim.logs u word)
    (λ u. own (Staged u) (λ e. cc) ∙ sim.staged u)

module _ (x : Targets) (code : Code) (s : Shape) (ls : Labels) (wt : IsWellTyped x code ls) (fits : Fits code s) (g : Global Machine) (world : World) (st : State x code s ls g world) (tr : Turn)
    (may : MayTurn bounds (one_thread code s) g tr) (site : ℕ) (is : instr_at code (g.threads tr.thread).at.pc ≡ Instr.Start site) where
  open turn_at st tr use {t, m, here, after, view}
  open turn_stands st tr may use {low_t, rn, number as number_is}

  fine : Fine x code ls (g.threads tr.thread).at.pc here (Instr.Start site)
  fine = subst (Fine x code ls m.at.pc here) is (wt.fine m.at.pc)

  pc_zero : (g.threads tr.thread).at.pc ≡ 0
  pc_zero = ⊎_elim (λ e. e) (λ z. let q : Instr.Start site ≡ Instr.Exit = sym is ∙ z in absurd (cc)) (wt.placed m.at.pc fine.1)

  bottom : ((g.threads tr.thread).at.depth ≡ 0) × ((g.threads tr.thread).at.refs ≡ 0) × ((g.threads tr.thread).at.ints ≡ 0)
  bottom = subst (FramesStand x code ls t view m) fine.1 rn.below

  ended_before : is_ended (g.threads tr.thread).at.state ≡ false
  ended_before = going_on m.at.state may.next.runs

  module _ (early : is_early (g.threads tr.thread).own.stage ≡ true) where
    now_here : label_now here (instr_at code (g.threads tr.thread).at.pc) (g.threads tr.thread).own.stage ≡ here
    now_here = label_held here (instr_at code m.at.pc) m.own.stage (early_calm m.own.stage early).hold

    shut : world.win tr.thread ≡ Shut
    shut = subst (GateStands s world t m) (ap (λ (l : Label). l.gate) now_here ∙ fine.0) rn.gate

    unread : is_unread (g.threads tr.thread) ≡ true
    unread = ap (λ n. (n == 0) && is_first m.own.stage) pc_zero ∙ (early_calm m.own.stage early).first

    is_one : slice_index g.words (state_word tr.thread) ≡ 1
    is_one = st.firsts.unread t low_t may.started unread

    abbrev function : ℕ
    function = slice_index g.words (function_word tr.thread)

    may_start : MayStart code ls function
    may_start = wt.starts function (st.begins.function t low_t is_one)

    function_is : function_at code function ≡ function
    function_is = let q : nat_lt function (length code.functions.items) ≡ true = (let l = may_start.is in grind (arith, nat_tests)) in ap (λ b. cond b function code.main) q

    -- the turn of this machine, with these words
    module _ (m' : Machine) (held : m'.own.held ≡ (g.threads tr.thread).own.held) (table : m'.own.table ≡ (g.threads tr.thread).own.table) (goes_on : m'.at.state ≡ RunsOn) (early' : is_early m'.own.stage ≡ true) where
      abbrev now : Global Machine
      now = made_turn g tr.thread g.words m'

      abbrev regs_now : ℕ → ℕ → ℕ
      regs_now = put (λ u. register_of code (g.threads u)) tr.thread (register_of code m')

      conc_now : conc_of code now ≡ record (conc_of code g) { regs = regs_now; args = argument_of code now }
      conc_now = conc_turned code g t g.words m' held ((early_calm m'.own.stage early').staged ∙ sym (early_calm m.own.stage early).staged)
          (calm_notes m m' table (early_calm m.own.stage early).withdrawn (early_calm m'.own.stage early').withdrawn ended_before (ap is_ended goes_on))

      -- the arguments of the others
      args_other : (u : ℕ) → u ≢ tr.thread → argument_of code now u ≡ argument_of code g u
      args_other u ne = ap (λ (n : Machine). cond ((nat_lt u THREADS && (slice_index g.words (state_word u) == 1)) && is_unread n) (if_reference (function_of code (slice_index g.words (function_word u))).parameter (slice_index g.words (argument_word u))) 0) (put_other g.threads t u m' ne)

      args_own : argument_of code now tr.thread ≡ cond ((nat_lt tr.thread THREADS && (slice_index g.words (state_word tr.thread) == 1)) && is_unread m') (if_reference (function_of code function).parameter (slice_index g.words (argument_word tr.thread))) 0
      args_own = ap (λ (n : Machine). cond ((nat_lt t THREADS && (slice_index g.words (state_word t) == 1)) && is_unread n) (if_reference (function_of code function).parameter (slice_index g.words (argument_word t))) 0) (put_same g.threads t m')

      module _ (own : KeepsThread (g.threads tr.thread) m') where
        started_now : (u : ℕ) → now.started u ≡ g.started u
        started_now = started_same x code s ls g world st t may.started g.words m' own (same_words x code s ls g world st)

        -- an argument stays, or is gone
        threads_now : (w' : World) → ((u : ℕ) → (w'.slots (In (ArgumentOf u)) ≡ world.slots (In (ArgumentOf u))) ⊎ (w'.slots (In (ArgumentOf u)) ≡ none)) → Threads code ls w' now
        threads_now w' args = record {
          few = λ u e. st.begins.few u (sym (started_now u) ∙ e);
          started = λ u lt. (λ e. started_now u ∙ (st.begins.started u lt).0 e, λ e. (st.begins.started u lt).1 (sym (started_now u) ∙ e));
          given = st.begins.given;
          function = st.begins.function;
          argument = λ u lt.
              let f = (ls.signature (slice_index g.words (function_word u))).takes 0 in
              let P : TypedReference → Type 0 = λ h. EntryStands (λ r. h.reference) (λ r. h.ty) 0 f in
              ⊎_elim (λ (e : w'.slots (In (ArgumentOf u)) ≡ world.slots (In (ArgumentOf u))). subst P (sym e) (st.begins.argument u lt))
              (λ (e : w'.slots (In (ArgumentOf u)) ≡ none). subst P (sym e) (elim f as (λ f. EntryStands (λ r. 0) (λ r. nothing) 0 f) [ Empty ↦ refl | Refers y ↦ λ nz. absurd (nz refl) | Unknown ↦ tt ])) (args u);
          one = λ a b n ha hb.
              let keeps : (u : ℕ) → SpawnsNow (now.threads u).own.stage n → SpawnsNow (g.threads u).own.stage n =
              put_all (λ u (y : Machine). SpawnsNow y.own.stage n → SpawnsNow (g.threads u).own.stage n) g.threads t m' (λ h. absurd ((early_calm m'.own.stage early').spawns n h)) (λ u _ h. h) in
              st.begins.one a b n (keeps a ha) (keeps b hb);
        }

        firsts_now : Firsts x ls now
        firsts_now = record {
          unread = λ u lt on first. ⊎_elim
              (λ (e : u ≡ t). ap (λ u. slice_index g.words (state_word u)) e ∙ is_one)
              (λ (ne : u ≡ t → ⊥). st.firsts.unread u lt (sym (started_now u) ∙ on) (sym (ap is_unread (put_other g.threads t u m' ne)) ∙ first))
              (cases_eq u t);
          alone = st.firsts.alone;
          number = st.firsts.number;
          spawns = λ u n h. st.firsts.spawns u n (put_all (λ u (y : Machine). SpawnsNow y.own.stage n → SpawnsNow (g.threads u).own.stage n) g.threads t m' (λ h. absurd ((early_calm m'.own.stage early').spawns n h)) (λ u _ h. h) u h);
          few = (let a = st.firsts.few in let c = sum_up THREADS g.made t (counted m'.at.state) in omega arith);
        }

    -- ---- the function is loaded
    abbrev m1 : Machine
    m1 = at_stage (g.threads tr.thread) (Enters (function_at code function))

    own1 : KeepsThread (g.threads tr.thread) m1
    own1 = record { sizes = sizes_kept m m1 (st.threads t).has.table refl refl refl refl; held = refl; heads = refl; making = sym (early_calm m.own.stage early).making }

    runs1 : Runs x code s ls st.elements world (heap_now st.heap g.words) (made_turn g tr.thread g.words m1) tr.thread m1
    runs1 =
        let e : label_now here (instr_at code m.at.pc) (Enters (function_at code function)) ≡ here = label_held here (instr_at code m.at.pc) (Enters (function_at code function)) tt in
        record {
          names = rn.names;
          top = subst (TopStands x t view m.at.refs m.at.ints rn.names) (now_here ∙ sym e) rn.top;
          below = subst (FramesStand x code ls t view m1) (sym fine.1) bottom;
          gate = subst (λ (l : Label). GateStands s world t m1 l.gate) (sym e) (subst (GateStands s world t m1) (sym fine.0) shut);
          stage = subst (OnStart (slice_index g.words (function_word t) ≡ function_at code function)) (sym is) (sym function_is);
          room = rn.room;
        }

    loads_function : after ≡ made_turn g tr.thread g.words m1 → Turned x code s ls g world tr
    loads_function done =
        let c = conc_of code g in
        let now = made_turn g t g.words m1 in
        let regs : (u i : ℕ) → c.regs u i ≡ regs_now m1 refl refl refl refl u i = λ u i.
        put_all (λ u (f : ℕ → ℕ). register_of code (g.threads u) i ≡ f i) (λ u. register_of code (g.threads u)) t (register_of code m1)
        (register_held code m (early_calm m.own.stage early).hold i ∙ sym (register_held code m1 tt i)) (λ u _. refl) u in
        let first1 : is_unread m1 ≡ is_unread m = ap (λ n. (n == 0) && true) pc_zero ∙ sym unread in
        let args : (u : ℕ) → c.args u ≡ argument_of code now u = λ u. ⊎_elim
        (λ (e : u ≡ t). ap (argument_of code g) e ∙ ap (λ b. cond ((nat_lt t THREADS && (slice_index g.words (state_word t) == 1)) && b) (if_reference (function_of code function).parameter (slice_index g.words (argument_word t))) 0) (sym first1)
        ∙ sym (args_own m1 refl refl refl refl) ∙ ap (argument_of code now) (sym e))
        (λ (ne : u ≡ t → ⊥). sym (args_other m1 refl refl refl refl u ne))
        (cases_eq u t) in
        let sim : Shows x s st.cells st.elements (conc_of code now) world = subst (λ c. Shows x s st.cells st.elements c world) (sym (conc_now m1 refl refl refl refl)) (sim_same x s st.cells st.elements c world (regs_now m1 refl refl refl refl) (argument_of code now) regs args st.sim) in
        unseen x code s ls g world tr _ done (kept_state x code s ls g world st t may.started g.words m1 own1 (same_words x code s ls g world st) world refl refl (same_others s world st.heap g.words t) wt st.inv sim
        (threads_now m1 refl refl refl refl own1 world (λ u. inl refl)) (firsts_now m1 refl refl refl refl own1) (λ _. runs1) (λ q. absurd (cc)) (room_of code s g tr may g.words m1 done))

    -- ---- the function is entered
    abbrev argument : ℕ
    argument = slice_index g.words (argument_word tr.thread)

    abbrev entered_with : List ℤ → List ℕ → Machine
    entered_with ints refs = record {
      at = record { pc = (function_of code function).entry; ints = 0; refs = 0; depth = 1; state = RunsOn };
      ints = ints;
      refs = refs;
      pending = (g.threads tr.thread).pending;
      frames = slice_set (g.threads tr.thread).frames 0 record { pc = 1; ints = 0; refs = 0 };
      own = record (g.threads tr.thread).own { stage = Rests; function = function };
    }

    abbrev entry : Label
    entry = entry_label ls function

    entry_less : Less (entry_label ls function) (ls.at (function_of code function).entry)
    entry_less = wt.entries function may_start.is

    not_zero : ((function_of code function).entry == 0) ≡ false
    not_zero = ne_eq (function_of code function).entry 0 (λ z. let q : Some function ≡ None = sym entry_less.function ∙ ap (λ p. (ls.at p).function) z ∙ wt.first.0 in cc)

    frames_some : 0 < length (g.threads tr.thread).frames
    frames_some = let e = (st.threads t).has.frames in omega arith

    -- every register held NULL
    zero_at : (r : ℕ) → in_ref world (RegisterOf tr.thread r) ≡ 0
    zero_at r =
        let tp = subst (TopStands x t view m.at.refs m.at.ints rn.names) now_here rn.top in
        let gone : here.env r ≡ Empty = (wt.scoped m.at.pc).few r (let z = ap (refs_in code) fine.1 in omega arith) in
        let a = subst (EntryStands (refs_at view m.at.refs) (types_at view m.at.refs) r) gone ((tp (suc r) 0).env r (omega arith)) in
        let b : m.at.refs + r ≡ r = (let z = bottom.1 in omega arith) in
        ap (λ k. in_ref world (RegisterOf t k)) (sym b) ∙ a

    module _ (ints : List ℤ) (refs : List ℕ) (li : length ints ≡ length (g.threads tr.thread).ints) (lr : length refs ≡ length (g.threads tr.thread).refs)
        (w' : World) (eo : w'.obj ≡ world.obj) (em : w'.mutex ≡ world.mutex) (ew : w'.win ≡ world.win) (ks : KeepsOthers s world w' st.heap (heap_now st.heap g.words) g.words g.words tr.thread)
        (args : (u : ℕ) → (w'.slots (In (ArgumentOf u)) ≡ world.slots (In (ArgumentOf u))) ⊎ (w'.slots (In (ArgumentOf u)) ≡ none)) (inv : WorldInvariant (size_of_run code s) (lang_of x) w')
        (gone : argument_of code (made_turn g tr.thread g.words (entered_with ints refs)) tr.thread ≡ 0
        → Shows x s st.cells st.elements (record (conc_of code g) { regs = put (λ u. register_of code (g.threads u)) tr.thread (register_of code (entered_with ints refs)); args = argument_of code (made_turn g tr.thread g.words (entered_with ints refs)) }) w')
        (tops : TopStands x tr.thread (view_of st.elements w' tr.thread (entered_with ints refs)) 0 0 (λ n. pos 0) (entry_label ls function)) where
      abbrev m2 : Machine
      m2 = entered_with ints refs

      own2 : KeepsThread (g.threads tr.thread) m2
      own2 = record { sizes = sizes_kept m m2 (st.threads t).has.table refl lr li (length-set m.frames 0 (record { pc = 1; ints = 0; refs = 0 })); held = refl; heads = refl; making = sym (early_calm m.own.stage early).making }

      args_gone : argument_of code (made_turn g tr.thread g.words m2) tr.thread ≡ 0
      args_gone =
          let read : is_unread m2 ≡ false = ap (λ b. b && true) not_zero in
          let E : Bool → ℕ = λ c. cond c (if_reference (function_of code function).parameter (slice_index g.words (argument_word t))) 0 in
          args_own m2 refl refl refl refl ∙ ap (λ b. E ((nat_lt t THREADS && (slice_index g.words (state_word t) == 1)) && b)) read
          ∙ (elim (nat_lt t THREADS && (slice_index g.words (state_word t) == 1)) as (λ b. E (b && false) ≡ 0) [ true ↦ refl | false ↦ refl ])

      runs2 : Runs x code s ls st.elements w' (heap_now st.heap g.words) (made_turn g tr.thread g.words m2) tr.thread m2
      runs2 =
          let fr : Frame = record { pc = 1; ints = 0; refs = 0 } in
          let at : fr ≡ frame_at m2.frames 0 = sym (get_or-set_same m.frames 0 fr no_frame frames_some) in
          let low : StartStands fr 0 0 = record { pc = refl; refs = refl; first = refl; base_is = refl; ints_are = refl } in
          let v' = view_of st.elements w' t m2 in
          let stack : FramesStand x code ls t v' m2 (Some function) = ((subst (λ y. StartStands y 0 0) at low, st.begins.function t low_t is_one), omega arith, st.firsts.alone t low_t is_one) in
          let shut' : w'.win t ≡ Shut = ap (λ (f : ℕ → Rattle.sharc_invariant.specs.World.Window). f t) ew ∙ shut in
          runs_at x code s ls st.elements w' (heap_now st.heap g.words) (made_turn g t g.words m2) t m2 (λ n. pos 0) refl
          (less_stands x t v' 0 0 (λ n. pos 0) entry (ls.at m2.at.pc) entry_less tops)
          (subst (FramesStand x code ls t v' m2) (sym entry_less.function) stack)
          (subst (GateStands s w' t m2) (sym (closed_less (ls.at m2.at.pc).gate entry_less.gate)) shut')
          (λ q. let z : false ≡ true = entry_less.room q in absurd (cc))

      enters : after ≡ made_turn g tr.thread g.words m2 → State x code s ls after w'
      enters done = subst (λ y. State x code s ls y w') (sym done)
          (kept_state x code s ls g world st t may.started g.words m2 own2 (same_words x code s ls g world st) w' eo em ks wt inv
          (subst (λ c. Shows x s st.cells st.elements c w') (sym (conc_now m2 refl refl refl refl)) (gone args_gone))
          (threads_now m2 refl refl refl refl own2 w' args) (firsts_now m2 refl refl refl refl own2) (λ _. runs2) (λ q. absurd (cc)) (room_of code s g tr may g.words m2 done))

    -- the callee's frame
    entry_top : (v : View) → EntryStands v.refs v.types 0 ((ls.signature function).takes 0) → ((r : ℕ) → r ≢ 0 → v.refs r ≡ 0)
        → NumberStands x v.elements v.refs v.types (λ n. pos 0) (v.vals 0) ((ls.signature function).takes_ints 0) → TopStands x tr.thread v 0 0 (λ n. pos 0) (entry_label ls function)
    entry_top v first0 others number0 n k =
        let z = (ls.signature function).takes_ints 0 in
        let first = subst (λ ty. EntryStands (refs_at v 0) ty 0 ((ls.signature function).takes 0)) (from_zero v.types) (subst (λ f. EntryStands f v.types 0 ((ls.signature function).takes 0)) (from_zero v.refs) first0) in
        let number = subst (λ ty. NumberStands x v.elements (refs_at v 0) ty (λ n. pos 0) (v.vals 0) z) (from_zero v.types) (subst (λ f. NumberStands x v.elements f v.types (λ n. pos 0) (v.vals 0) z) (from_zero v.refs) number0) in
        record {
          env = λ r _. ⊎_elim
              (λ (e : r ≡ 0). subst (λ r. EntryStands (refs_at v 0) (types_at v 0) r ((ls.signature function).takes r)) (sym e) first)
              (λ (ne : r ≡ 0 → ⊥). subst (EntryStands (refs_at v 0) (types_at v 0) r) (sym (may_start.others r ne)) (let z : 0 + r ≡ r = omega arith in ap v.refs z ∙ others r ne))
              (cases_eq r 0);
          same = λ r _. refl;
          known = λ r _ e. absurd (cc);
          numbers = λ i _. ⊎_elim
              (λ (e : i ≡ 0). subst (λ i. NumberStands x v.elements (refs_at v 0) (types_at v 0) (λ n. pos 0) (v.vals (0 + i)) ((ls.signature function).takes_ints i)) (sym e) number)
              (λ (ne : i ≡ 0 → ⊥). subst (NumberStands x v.elements (refs_at v 0) (types_at v 0) (λ n. pos 0) (v.vals (0 + i))) (sym (may_start.numbers i ne)) tt)
              (cases_eq i 0);
          passed = λ p h. absurd h;
        }

    arg_was : argument_of code g tr.thread ≡ if_reference (function_of code function).parameter argument
    arg_was =
        let v = if_reference (function_of code function).parameter argument in
        let a : nat_lt t THREADS ≡ true = (let l = low_t in grind (arith, nat_tests)) in
        ap (λ b. cond ((b && (slice_index g.words (state_word t) == 1)) && is_unread m) v 0) a ∙ ap (λ n. cond ((n == 1) && is_unread m) v 0) is_one ∙ ap (λ b. cond b v 0) unread

    plain_refs : (ints : List ℤ) (u i : ℕ) → register_of code (g.threads u) i ≡ put (λ u. register_of code (g.threads u)) tr.thread (register_of code (entered_with ints (g.threads tr.thread).refs)) u i
    plain_refs ints u i =
        let m2 = entered_with ints m.refs in
        put_all (λ u (f : ℕ → ℕ). register_of code (g.threads u) i ≡ f i) (λ u. register_of code (g.threads u)) t (register_of code m2)
        (register_held code m (early_calm m.own.stage early).hold i ∙ sym (register_held code m2 tt i)) (λ u _. refl) u

    -- no reference is handed over
    no_reference : (ints : List ℤ) → length ints ≡ length (g.threads tr.thread).ints → ((function_of code function).parameter ≢ Parameter.Reference) → argument_of code g tr.thread ≡ 0
        → NumberStands x st.elements (λ r. in_ref world (RegisterOf tr.thread r)) (λ r. (world.slots (In (RegisterOf tr.thread r))).ty) (λ n. pos 0) (slice_index_or ints 0 (pos 0)) ((ls.signature function).takes_ints 0)
        → after ≡ made_turn g tr.thread g.words (entered_with ints (g.threads tr.thread).refs) → Turned x code s ls g world tr
    no_reference ints li nr was number done =
        let m2 = entered_with ints m.refs in
        let c = conc_of code g in
        let now = made_turn g t g.words m2 in
        let tops = entry_top (view_of st.elements world t m2) (subst (EntryStands (λ r. in_ref world (RegisterOf t r)) (λ r. (world.slots (In (RegisterOf t r))).ty) 0) (sym (may_start.reference nr)) (zero_at 0)) (λ r _. zero_at r) number in (
          world,
          enters ints m.refs li refl world refl refl refl (same_others s world st.heap g.words t) (λ u. inl refl) st.inv
              (λ gone. sim_same x s st.cells st.elements c world (put c.regs t (register_of code m2)) (argument_of code now) (plain_refs ints)
              (λ u. ⊎_elim (λ (e : u ≡ t). ap (argument_of code g) e ∙ was ∙ sym gone ∙ ap (argument_of code now) (sym e)) (λ (ne : u ≡ t → ⊥). sym (args_other m2 refl refl refl refl u ne)) (cases_eq u t)) st.sim)
              tops done,
          Silently (record { obj = refl; mutex = refl; passed = λ o p u b q. q; sole = λ u r e. (e, refl) }),
        )

    -- one is
    abbrev h : TypedReference
    h = world.slots (In (ArgumentOf tr.thread))

    abbrev w1 : World
    w1 = record world { slots = place world.slots (In (ArgumentOf tr.thread)) none }

    abbrev w2 : World
    w2 = shift world (ArgumentOf tr.thread) (RegisterOf tr.thread 0)

    with_reference : (function_of code function).parameter ≡ Parameter.Reference
        → after ≡ made_turn g tr.thread g.words (entered_with (g.threads tr.thread).ints (slice_set (g.threads tr.thread).refs 0 argument)) → Turned x code s ls g world tr
    with_reference is_ref done =
        let refs = slice_set m.refs 0 argument in
        let m2 = entered_with m.ints refs in
        let c = conc_of code g in
        let now = made_turn g t g.words m2 in
        let R : ℕ → ℕ → ℕ = c.regs in
        let value : h.reference ≡ argument = st.sim.args t ∙ arg_was ∙ ap (λ p. if_reference p argument) is_ref in
        let away : (q : Slot) → (q ≡ In (ArgumentOf t) → ⊥) → (q ≡ In (RegisterOf t 0) → ⊥) → w2.slots q ≡ world.slots q = λ q na nr. place_other w1.slots (In (RegisterOf t 0)) q h nr ∙ place_other world.slots (In (ArgumentOf t)) q none na in
        let arg2 : w2.slots (In (ArgumentOf t)) ≡ none = place_other w1.slots (In (RegisterOf t 0)) (In (ArgumentOf t)) h (λ e. cc) ∙ place_same world.slots (In (ArgumentOf t)) none in
        let reg2 : w2.slots (In (RegisterOf t 0)) ≡ h = place_same w1.slots (In (RegisterOf t 0)) h in
        let room : 0 < FRAMES * most_refs code.functions.items = (let a = may_start.frame is_ref in let b = refs_most code function in omega arith) in
        let lt : 0 < length m.refs = (let e = (st.threads t).has.refs in omega arith) in
        let regs2 : register_of code m2 ≡ put (R t) 0 h.reference = fun_ext (λ j. register_held code m2 tt j
        ∙ put_all (λ j y. slice_index refs j ≡ y) (R t) 0 h.reference (get_or-set_same m.refs 0 argument 0 lt ∙ sym value) (λ j ne. get_or-set_other m.refs 0 j argument 0 ne ∙ sym (register_held code m (early_calm m.own.stage early).hold j)) j) in
        let args : (u : ℕ) → (w2.slots (In (ArgumentOf u)) ≡ world.slots (In (ArgumentOf u))) ⊎ (w2.slots (In (ArgumentOf u)) ≡ none) = λ u. ⊎_elim
        (λ (e : u ≡ t). inr (ap (λ u. w2.slots (In (ArgumentOf u))) e ∙ arg2)) (λ (ne : u ≡ t → ⊥). inl (away (In (ArgumentOf u)) (λ e. ne (cc)) (λ e. cc))) (cases_eq u t) in
        let others : (r : ℕ) → r ≢ 0 → in_ref w2 (RegisterOf t r) ≡ 0 = λ r ne. ap (λ (y : TypedReference). y.reference) (away (In (RegisterOf t r)) (λ e. cc) (λ e. ne (cc))) ∙ zero_at r in
        let takes = (ls.signature function).takes 0 in
        let first : EntryStands (λ r. in_ref w2 (RegisterOf t r)) (λ r. (w2.slots (In (RegisterOf t r))).ty) 0 takes =
        entry_kept (λ r. in_ref world (ArgumentOf t)) (λ r. in_ref w2 (RegisterOf t r)) (λ r. (world.slots (In (ArgumentOf t))).ty) (λ r. (w2.slots (In (RegisterOf t r))).ty) 0 takes (sym (ap (λ (y : TypedReference). y.reference) reg2)) (sym (ap (λ (y : TypedReference). y.ty) reg2)) (λ q mq. absurd (may_start.closed q mq)) (st.begins.argument t low_t) in
        let no_int : (function_of code function).parameter ≢ Parameter.Int = λ e. let q : Parameter.Reference ≡ Parameter.Int = sym is_ref ∙ e in cc in
        let tops = entry_top (view_of st.elements w2 t m2) first others
        (subst (NumberStands x st.elements (λ r. in_ref w2 (RegisterOf t r)) (λ r. (w2.slots (In (RegisterOf t r))).ty) (λ n. pos 0) (slice_index_or m.ints 0 (pos 0))) (sym (may_start.number no_int)) tt) in (
          w2,
          enters m.ints refs refl (length-set m.refs 0 argument) w2 refl refl refl
              (record {
                regs = λ u ne q. away (In (RegisterOf u q)) (λ e. cc) (λ e. ne (cc));
                win = λ u _. refl;
                passed = λ u _ o p b _ z. z;
                sole = λ u _ q _ p. loses refl;
                cells = λ u _ q _ n. ap (λ (y : TypedReference). y.reference) (away (CellOf (in_ref world (RegisterOf u q)) n) (λ e. cc) (λ e. cc));
                built = λ u _ b e. (e, refl);
                within = λ u _ b e j n. refl;
              })
              args
              (shift_ok (size_of_run code s) (lang_of x) world st.inv (ArgumentOf t) (RegisterOf t 0) (λ e. cc) low_t (low_t, room) (zero_at 0) (λ _ _. refl) (λ u r _ e. cc) (free_shut world t 0 shut))
              (λ gone.
              let sim1 = arg_stored x s st.cells st.elements c world st.sim t none (argument_of code now) gone (args_other m2 refl refl refl refl) in
              let sim2 = reg_stored x s st.cells st.elements (record c { args = argument_of code now }) w1 sim1 st.apart t 0 h in
              subst (λ f. Shows x s st.cells st.elements (record c { regs = put R t f; args = argument_of code now }) w2) (sym regs2) sim2)
              tops done,
          Silently (record {
            obj = refl;
            mutex = refl;
            passed = λ o p u b q. q;
            sole = λ u q e. let ne : u ≡ t → ⊥ = λ z. let y : Shut ≡ Sole q = sym shut ∙ ap world.win (sym z) ∙ e in cc in (e, ap (λ (y : TypedReference). y.reference) (away (In (RegisterOf u q)) (λ z. cc) (λ z. ne (cc))));
          }),
        )

    -- the three kinds of parameters
    abbrev before : Machine
    before = record (g.threads tr.thread) { own = record (g.threads tr.thread).own { stage = Rests; function = function } }

    first_of : (n : Machine) → n.at ≡ (g.threads tr.thread).at → n.frames ≡ (g.threads tr.thread).frames
        → called n (function_of code function).entry 0 0 site ≡ record n { at = record { pc = (function_of code function).entry; ints = 0; refs = 0; depth = 1; state = RunsOn }; frames = slice_set n.frames 0 record { pc = 1; ints = 0; refs = 0 } }
    first_of n ea ef = called_first n (function_of code function).entry site (ap (λ (a : At). a.pc) ea ∙ pc_zero) (ap (λ (a : At). a.ints) ea ∙ bottom.2) (ap (λ (a : At). a.refs) ea ∙ bottom.1) (ap (λ (a : At). a.depth) ea ∙ bottom.0)
        (subst (λ (l : List Frame). 0 < length l) (sym ef) frames_some)

    by_parameter : (p : Parameter) → (function_of code function).parameter ≡ p → after ≡ made_turn g tr.thread g.words (called (with_parameter before p argument) (function_of code function).entry 0 0 site) → Turned x code s ls g world tr
    by_parameter Parameter.None e done =
        let ni : (function_of code function).parameter ≢ Parameter.Int = λ q. let z : Parameter.None ≡ Parameter.Int = sym e ∙ q in cc in
        no_reference m.ints refl (λ q. let z : Parameter.None ≡ Parameter.Reference = sym e ∙ q in cc) (arg_was ∙ ap (λ p. if_reference p argument) e)
        (subst (NumberStands x st.elements (λ r. in_ref world (RegisterOf t r)) (λ r. (world.slots (In (RegisterOf t r))).ty) (λ n. pos 0) (slice_index_or m.ints 0 (pos 0))) (sym (may_start.number ni)) tt)
        (done ∙ ap (made_turn g t g.words) (first_of before refl refl))
    by_parameter Parameter.Int e done =
        let v = int_of argument in
        let ints = slice_set m.ints 0 v in
        let at : m.at.ints + 0 ≡ 0 = (let z = bottom.2 in omega arith) in
        let lt : 0 < length m.ints = (let a = (st.threads t).has.ints in let b = may_start.frame_int e in let c = ints_most code function in omega arith) in
        let n = (ls.signature function).takes_ints 0 in
        let stands = number_kept x (λ o. 0) st.elements (λ r. 0) (λ r. in_ref world (RegisterOf t r)) (λ r. nothing) (λ r. (world.slots (In (RegisterOf t r))).ty) (λ n. pos 0) v n
        (λ b field e q. absurd ((wt.plain function).bases 0 b (subst (λ y. HasBase y b) (sym q) refl))) (st.firsts.number t low_t is_one) in
        no_reference ints (length-set m.ints 0 v) (λ q. let z : Parameter.Int ≡ Parameter.Reference = sym e ∙ q in cc) (arg_was ∙ ap (λ p. if_reference p argument) e)
        (subst (λ z. NumberStands x st.elements (λ r. in_ref world (RegisterOf t r)) (λ r. (world.slots (In (RegisterOf t r))).ty) (λ n. pos 0) z n) (sym (get_or-set_same m.ints 0 v (pos 0) lt)) stands)
        (done ∙ ap (made_turn g t g.words) (first_of (record before { ints = slice_set m.ints (m.at.ints + 0) v }) refl refl ∙ ap (λ k. entered_with (slice_set m.ints k v) m.refs) at))
    by_parameter Parameter.Reference e done =
        let at : m.at.refs + 0 ≡ 0 = (let z = bottom.1 in omega arith) in
        with_reference e (done ∙ ap (made_turn g t g.words) (first_of (record before { refs = slice_set m.refs (m.at.refs + 0) argument }) refl refl ∙ ap (λ k. entered_with m.ints (slice_set m.refs k argument)) at))

  -- ---- both turns
  loaded : (k : ℕ) (m' : Machine) → after ≡ made_turn g tr.thread (slice_set g.words k (slice_index g.words k)) m' → after ≡ made_turn g tr.thread g.words m'
  loaded k m' e = e ∙ ap (λ ws. made_turn g t ws m') (set-get_or g.words k 0)

  first_turn : (y : Stage) → (g.threads tr.thread).own.stage ≡ y → is_early y ≡ true
      → turn code s (g.threads tr.thread) ≡ Asks (step_of (function_word (g.threads tr.thread).own.number) Load) (λ found. at_stage (g.threads tr.thread) (Enters (function_at code found))) → Turned x code s ls g world tr
  first_turn y e ey d =
      let k = function_word m.own.number in
      let done = loaded k (at_stage m (Enters (function_at code (slice_index g.words k)))) (asks_turn code s g tr may (step_of k Load) (λ found. at_stage m (Enters (function_at code found))) d).0 in
      loads_function (ap is_early e ∙ ey) (done ∙ ap (λ n. made_turn g t g.words (at_stage m (Enters (function_at code (slice_index g.words (function_word n)))))) number_is)

  second_turn : (f : ℕ) → (g.threads tr.thread).own.stage ≡ Enters f → slice_index g.words (function_word tr.thread) ≡ f
      → turn code s (g.threads tr.thread) ≡ Asks (step_of (argument_word (g.threads tr.thread).own.number) Load) (entered code (g.threads tr.thread) f site) → Turned x code s ls g world tr
  second_turn f e h d =
      let k = argument_word m.own.number in
      let done = loaded k (entered code m f site (slice_index g.words k)) (asks_turn code s g tr may (step_of k Load) (entered code m f site) d).0 in
      let own = slice_index g.words (function_word t) in
      by_parameter (ap is_early e) (function_of code own).parameter refl
      (done ∙ ap (λ f. made_turn g t g.words (entered code m f site (slice_index g.words k))) (sym h) ∙ ap (λ n. made_turn g t g.words (entered code m own site (slice_index g.words (argument_word n)))) number_is)

  by_stage : (y : Stage) → (g.threads tr.thread).own.stage ≡ y → StageStands code s st.elements world st.heap g.words tr.thread (g.threads tr.thread) (Instr.Start site) y → turn code s (g.threads tr.thread) ≡ start code (g.threads tr.thread) site y → Turned x code s ls g world tr
  by_stage Rests e h d = first_turn Rests e refl d
  by_stage (Enters f) e h d = second_turn f e h d
  by_stage _ e h d = absurd h

  pub Start_keeps : Turned x code s ls g world tr
  Start_keeps =
      by_stage m.own.stage refl (subst (λ i. StageStands code s st.elements world st.heap g.words t m i m.own.stage) is rn.stage)
      (ap (λ i. Rattle.sharc_code.specs.Machine.act code s i m) is)
