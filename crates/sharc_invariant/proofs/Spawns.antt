-- Spawn's first three turns keep the invariant: a number is given out, and the function and the argument are written.
use Rattle.sharc_invariant.proofs.{Imports.{◌≡◌, ℕ, ℤ, pos, zero, suc, ◌+◌, ◌*◌, ◌^◌, ◌<◌, ◌≤◌, ◌≢◌, ◌&&◌, Bool, true, false, cond, List, Option, Some, None, refl, sym, ap, ◌∙◌, subst, inl, inr, ⊎_elim, arith, ltb-true, cases_eq, nat_tests, length-set, get_or-set_same, get_or-set_other, fun_ext, ◌%◌, length, slice_index, slice_set, nat_lt, nat_eq, ◌||◌, ◌==◌, THREADS, Swap, Add, epoch_of, Code, Shape, RunsOn, Stage, Rests, Names, Hands, Begins, holds, int_of, Char, Fits, next_thread_word, state_word, function_word, argument_word, first_cell, top_word, Machine, int, ref, set_int, handed, function_of, instr_at, step_of, at_stage, stopped, numbered, argument, spawn, begun, turn, may_go, counted, Turn, Global, put, MayTurn, one_thread, bounds, Register, Trap, Parameter, Instr, put_same, put_other, put_all, Targets, ObjectType, nothing, is_private, LessGate, Entry, Empty, Refers, Unknown, Number, Anything, Within, Indexes, OfElement, OfGlobal, Named, HasName, empty, set_number, Closed, Label, Labels, Leads, HasBase, IsShared, Passes, IsWellTyped, Fine, Window, TypedReference, RegisterOf, ArgumentOf, In, Slot, CellOf, World, Shut, Sole, WorldInvariant, in_ref, none, place, shift, conc_of, lang_of, Shows, is_first, is_unread, if_reference, register_of, argument_of, staged_of, is_ended, has_withdrawn, set_reg, making_of, store, Silently, made_turn, KeepsOthers, StopStands, State, IsSmall, View, view_of, vals_of, Runs, ThreadStands, Threads, Firsts, Reserves, SpawnsNow, EntryStands, NumberStands, TopStands, FramesStand, GateStands, StageStands, label_now, refs_at, types_at, size_of_run, Turned, Kept, sum_to, ne_eq}, TurnAt.{turn_at, turn_stands}, Effects.{place_same, place_other, shift_ok}, Frames.{empty_stands, less_number, filled, less_stands, entry_kept, frames_agree}, Quiet.{KeepsThread, KeepsMost, heap_now, most_state, sum_up, label_held, started_still, args_still, no_argument, sizes_kept, conc_turned}, Others.{OnHold, loses}, Turns.{asks_turn, room_of, unseen}, Own.{ref_inside, int_inside, closed_less, runs_at}, Filled.{view_filled, below_filled, free_shut}, Calls.passed_entry, Listed.store_ok, Accesses.back_again, Begun.{begun_stands, begun_regs}, Stores.index_put, Seen.reg_stored, Sums.sum_one, Starts.{register_held, arg_stored, calm_notes}, BitTurns.going_on, Plain.{sim_same, others_stay}, Heaps.low_stored}
use Rattle.sharc_tree.specs.declared.trap.Trap.TheVariants as traps

abbrev pub is_spawning : Stage → Bool
is_spawning Rests = true
is_spawning (Names n) = true
is_spawning (Hands n) = true
is_spawning (Begins n) = true
is_spawning _ = false

-- at such a stage no block is to be linked or built, nothing is staged and nothing is withdrawn
spawning_calm : (y : Stage) → is_spawning y ≡ true → record { hold : OnHold y; staged : staged_of y ≡ 0; making : making_of y ≡ None; withdrawn : (order : List ℕ) (ended : Bool) (p : ℕ) → has_withdrawn y order ended p ≡ ended }
spawning_calm Rests e = record { hold = tt; staged = refl; making = refl; withdrawn = λ order ended p. refl }
spawning_calm (Names n) e = record { hold = tt; staged = refl; making = refl; withdrawn = λ order ended p. refl }
spawning_calm (Hands n) e = record { hold = tt; staged = refl; making = refl; withdrawn = λ order ended p. refl }
spawning_calm (Begins n) e = record { hold = tt; staged = refl; making = refl; withdrawn = λ order ended p. refl }
spawning_calm _ e = absurd (cc)

module _ (x : Targets) (code : Code) (s : Shape) (ls : Labels) (wt : IsWellTyped x code ls) (fits : Fits code s) (g : Global Machine) (world : World) (st : State x code s ls g world) (tr : Turn)
    (may : MayTurn bounds (one_thread code s) g tr) (r f : ℕ) (from : Register) (site : ℕ) (is : instr_at code (g.threads tr.thread).at.pc ≡ Instr.Spawn r f from site) (spawning : is_spawning (g.threads tr.thread).own.stage ≡ true) where
  open turn_at st tr use {t, m, here, view}
  open turn_stands st tr may use {rn}

  fine : Fine x code ls (g.threads tr.thread).at.pc here (Instr.Spawn r f from site)
  fine = subst (Fine x code ls m.at.pc here) is (wt.fine m.at.pc)

  not_zero : ((g.threads tr.thread).at.pc == 0) ≡ false
  not_zero = ne_eq m.at.pc 0 (λ z. let q : Instr.Spawn r f from site ≡ Instr.Start wt.begin.0 = sym is ∙ ap (instr_at code) z ∙ wt.begin.1 in absurd (cc))

  now_here : label_now here (instr_at code (g.threads tr.thread).at.pc) (g.threads tr.thread).own.stage ≡ here
  now_here = label_held here (instr_at code m.at.pc) m.own.stage (spawning_calm m.own.stage spawning).hold

  shut : world.win tr.thread ≡ Shut
  shut = subst (GateStands s world t m) (ap (λ (l : Label). l.gate) now_here ∙ fine.0) rn.gate

  ended_before : is_ended (g.threads tr.thread).at.state ≡ false
  ended_before = going_on m.at.state may.next.runs

  -- a word of the threads changes, and the stage or the end of the thread
  module _ (k v : ℕ) (low : k < 97) (low1 : 2 ≤ k) (small : v < 2 ^ 64) (long : k < length g.words)
      (states : (u : ℕ) → u < THREADS → state_word u ≢ k)
      (lasts : (u : ℕ) → u < THREADS → slice_index g.words (state_word u) ≢ 0 → (function_word u ≢ k) × (argument_word u ≢ k))
      (apart : (u n : ℕ) → u ≢ tr.thread → SpawnsNow (g.threads u).own.stage n → (function_word n ≢ k) × (argument_word n ≢ k))
      (more : slice_index g.words next_thread_word ≤ slice_index (slice_set g.words k v) next_thread_word)
      (m' : Machine) (same_own : m'.refs ≡ (g.threads tr.thread).refs) (held : m'.own.held ≡ (g.threads tr.thread).own.held) (table : m'.own.table ≡ (g.threads tr.thread).own.table) (pc : m'.at.pc ≡ (g.threads tr.thread).at.pc)
      (goes_on : is_ended m'.at.state ≡ false) (spawning' : is_spawning m'.own.stage ≡ true) (own : KeepsThread (g.threads tr.thread) m')
      (one' : (u n : ℕ) → u ≢ tr.thread → SpawnsNow m'.own.stage n → SpawnsNow (g.threads u).own.stage n → ⊥) (given' : (n : ℕ) → SpawnsNow m'.own.stage n → n < slice_index (slice_set g.words k v) next_thread_word)
      (few' : slice_index (slice_set g.words k v) next_thread_word ≤ 1 + sum_to THREADS (made_turn g tr.thread (slice_set g.words k v) m').made) where
    abbrev words : List ℕ
    words = slice_set g.words k v

    abbrev now : Global Machine
    now = made_turn g tr.thread (slice_set g.words k v) m'

    at : (j : ℕ) → slice_index words j ≡ put (λ i. slice_index g.words i) k v j
    at = index_put g.words k v long

    off : (j : ℕ) → j ≢ k → slice_index words j ≡ slice_index g.words j
    off j ne = at j ∙ put_other (λ i. slice_index g.words i) k j v ne

    most : KeepsMost s st.heap g tr.thread words
    most =
        let kept0 = store_ok (record { first = 1 + s.globals; words = first_cell s }) st.heap st.heap_stands.kept k v (omega arith) (λ p u d e q. absurd (omega arith)) in
        let fe : put st.heap.words k v ≡ (λ i. slice_index words i) = fun_ext (λ i. ap (λ (h : ℕ → ℕ). put h k v i) (fun_ext st.heap_stands.words) ∙ sym (at i)) in
        record {
          count = length-set g.words k v;
          top = off top_word (λ e. omega arith);
          are_words = λ j. subst (λ n. n < 2 ^ 64) (sym (at j)) (put_all (λ j y. y < 2 ^ 64) (λ i. slice_index g.words i) k v small (λ j _. st.are_words j) j);
          epochs = λ i l. ap epoch_of (off (97 + i) (λ e. absurd (omega arith)));
          kept = subst (λ h. Kept (record { first = 1 + s.globals; words = first_cell s }) (record st.heap { words = h })) fe kept0;
          reserved = λ u n ne sp h. record { few = h.few; given = (let z = h.given in let y = more in omega arith); first = h.first; state = off (state_word n) (states n h.few) ∙ h.state };
          handed = λ u n ne sp h. (off (function_word n) (apart u n ne sp).0, off (argument_word n) (apart u n ne sp).1);
          own = λ u ne on. let lt = st.begins.few u on in off (function_word u) (lasts u lt (λ z. let q : g.started u ≡ false = (st.begins.started u lt).0 z in absurd (cc))).0;
        }

    state_same : (u : ℕ) → u < THREADS → slice_index words (state_word u) ≡ slice_index g.words (state_word u)
    state_same u lt = off (state_word u) (states u lt)

    started_now : (u : ℕ) → now.started u ≡ g.started u
    started_now u = started_still x code s ls g world st tr.thread words m' u (λ _ lt. state_same u lt)

    unread_own : is_unread m' ≡ false
    unread_own = ap (λ n. (n == 0) && is_first m'.own.stage) pc ∙ ap (λ b. b && is_first m'.own.stage) not_zero

    args_same : (u : ℕ) → argument_of code g u ≡ argument_of code now u
    args_same u = sym (args_still x code s ls g world st tr.thread words m' not_zero (ap (λ n. n == 0) pc ∙ not_zero)
        (λ u _ lt. (state_same u lt, λ nz. let l = lasts u lt nz in (off (function_word u) l.0, off (argument_word u) l.1))) u)

    abbrev regs_now : ℕ → ℕ → ℕ
    regs_now = put (λ u. register_of code (g.threads u)) tr.thread (register_of code m')

    conc_now : conc_of code now ≡ record (store (conc_of code g) k v) { regs = regs_now; args = argument_of code now }
    conc_now =
        let wd : (λ j. slice_index words j) ≡ put (λ i. slice_index g.words i) k v = fun_ext at in
        conc_turned code g t words m' held ((spawning_calm m'.own.stage spawning').staged ∙ sym (spawning_calm m.own.stage spawning).staged)
        (calm_notes m m' table (spawning_calm m.own.stage spawning).withdrawn (spawning_calm m'.own.stage spawning').withdrawn ended_before goes_on)
        ∙ (λ i. record (conc_of code g) { words = wd i; regs = regs_now; args = argument_of code now })

    sim_now : Shows x s st.cells st.elements (conc_of code now) world
    sim_now =
        let c = conc_of code g in
        let regs : (u i : ℕ) → c.regs u i ≡ regs_now u i = λ u i.
        put_all (λ u (f : ℕ → ℕ). register_of code (g.threads u) i ≡ f i) (λ u. register_of code (g.threads u)) t (register_of code m')
        (register_held code m (spawning_calm m.own.stage spawning).hold i ∙ ap (λ (l : List ℕ). slice_index l i) (sym same_own) ∙ sym (register_held code m' (spawning_calm m'.own.stage spawning').hold i)) (λ u _. refl) u in
        subst (λ c. Shows x s st.cells st.elements c world) (sym conc_now)
        (sim_same x s st.cells st.elements (store c k v) world regs_now (argument_of code now) regs args_same (low_stored x s st.cells st.elements c world k v low st.apart st.sim))

    -- what is no argument yet fits each type
    unset : (u : ℕ) → slice_index g.words (state_word u) ≡ 0 → in_ref world (ArgumentOf u) ≡ 0
    unset u z =
        let v = if_reference (function_of code (slice_index g.words (function_word u))).parameter (slice_index g.words (argument_word u)) in
        st.sim.args u ∙ ap (λ n. cond ((nat_lt u THREADS && (n == 1)) && is_unread (g.threads u)) v 0) z
        ∙ (elim (nat_lt u THREADS) as (λ b. cond ((b && false) && is_unread (g.threads u)) v 0 ≡ 0) [ true ↦ refl | false ↦ refl ])

    fits_unset : (h : TypedReference) (e : Entry) → h.reference ≡ 0 → EntryStands (λ r. h.reference) (λ r. h.ty) 0 e
    fits_unset h Empty z = z
    fits_unset h Unknown z = tt
    fits_unset h (Refers y) z = λ nz. absurd (nz z)

    one_of : (u : ℕ) → slice_index words (state_word u) ≡ 1 → u < THREADS → slice_index g.words (state_word u) ≡ 1
    one_of u e lt = sym (state_same u lt) ∙ e

    function_same : (u : ℕ) → u < THREADS → slice_index words (state_word u) ≡ 1 → (slice_index words (function_word u) ≡ slice_index g.words (function_word u)) × (slice_index words (argument_word u) ≡ slice_index g.words (argument_word u))
    function_same u lt e =
        let o = one_of u e lt in
        let l = lasts u lt (λ z. omega arith) in
        (off (function_word u) l.0, off (argument_word u) l.1)

    threads_now : Threads code ls world now
    threads_now = record {
      few = λ u e. st.begins.few u (sym (started_now u) ∙ e);
      started = λ u lt. (λ e. started_now u ∙ (st.begins.started u lt).0 (sym (state_same u lt) ∙ e), λ e. state_same u lt ∙ (st.begins.started u lt).1 (sym (started_now u) ∙ e));
      given = λ u lt ne. let a = st.begins.given u lt (λ e. ne (state_same u lt ∙ e)) in let b = more in omega arith;
      function = λ u lt e. ap ls.starts (function_same u lt e).0 ∙ st.begins.function u lt (one_of u e lt);
      argument = λ u lt.
          let h = world.slots (In (ArgumentOf u)) in
          let E : ℕ → Entry = λ f. (ls.signature f).takes 0 in
          ⊎_elim
          (λ (z : slice_index g.words (state_word u) ≡ 0). fits_unset h (E (slice_index words (function_word u))) (unset u z))
          (λ (nz : slice_index g.words (state_word u) ≡ 0 → ⊥). subst (λ f. EntryStands (λ r. h.reference) (λ r. h.ty) 0 (E f)) (sym (off (function_word u) (lasts u lt nz).0)) (st.begins.argument u lt))
          (cases_eq (slice_index g.words (state_word u)) 0);
      one = λ a b n ha hb. ⊎_elim
          (λ (ea : a ≡ t). ⊎_elim
          (λ (eb : b ≡ t). ea ∙ sym eb)
          (λ (nb : b ≡ t → ⊥). absurd (one' b n nb (subst (λ (y : Machine). SpawnsNow y.own.stage n) (ap now.threads ea ∙ put_same g.threads t m') ha) (subst (λ (y : Machine). SpawnsNow y.own.stage n) (put_other g.threads t b m' nb) hb)))
          (cases_eq b t))
          (λ (na : a ≡ t → ⊥). ⊎_elim
          (λ (eb : b ≡ t). absurd (one' a n na (subst (λ (y : Machine). SpawnsNow y.own.stage n) (ap now.threads eb ∙ put_same g.threads t m') hb) (subst (λ (y : Machine). SpawnsNow y.own.stage n) (put_other g.threads t a m' na) ha)))
          (λ (nb : b ≡ t → ⊥). st.begins.one a b n (subst (λ (y : Machine). SpawnsNow y.own.stage n) (put_other g.threads t a m' na) ha) (subst (λ (y : Machine). SpawnsNow y.own.stage n) (put_other g.threads t b m' nb) hb))
          (cases_eq b t))
          (cases_eq a t);
    }

    firsts_now : Firsts x ls now
    firsts_now =
        let P : ℕ → ℕ → Type 0 = λ f a. NumberStands x (λ o. 0) (λ r. 0) (λ r. nothing) (λ n. pos 0) (int_of a) ((ls.signature f).takes_ints 0) in
        record {
          unread = λ u lt on first. ⊎_elim
              (λ (e : u ≡ t). let a : is_unread (now.threads u) ≡ false = ap (λ u. is_unread (now.threads u)) e ∙ ap is_unread (put_same g.threads t m') ∙ unread_own in absurd (cc))
              (λ (ne : u ≡ t → ⊥). state_same u lt ∙ st.firsts.unread u lt (sym (started_now u) ∙ on) (sym (ap is_unread (put_other g.threads t u m' ne)) ∙ first))
              (cases_eq u t);
          alone = λ u lt e al. st.firsts.alone u lt (one_of u e lt) (ap (λ f. (ls.signature f).alone) (sym (function_same u lt e).0) ∙ al);
          number = λ u lt e. let fs = function_same u lt e in subst (λ f. P f (slice_index words (argument_word u))) (sym fs.0) (subst (P (slice_index g.words (function_word u))) (sym fs.1) (st.firsts.number u lt (one_of u e lt)));
          spawns = λ u n h. ⊎_elim
              (λ (e : u ≡ t). given' n (subst (λ (y : Machine). SpawnsNow y.own.stage n) (ap now.threads e ∙ put_same g.threads t m') h))
              (λ (ne : u ≡ t → ⊥). let a = st.firsts.spawns u n (subst (λ (y : Machine). SpawnsNow y.own.stage n) (put_other g.threads t u m' ne) h) in let b = more in omega arith)
              (cases_eq u t);
          few = few';
        }

    -- the place that the turn leads to
    low_state : g.made tr.thread + counted m'.at.state ≤ 100000000 → (may_go m'.at.state ≡ true → Runs x code s ls st.elements world (heap_now st.heap words) now tr.thread m') → State x code s ls now world
    low_state room runs =
        most_state x code s ls g world st t may.started words m' own most world refl refl
        (others_stay s world st.heap g.words words t (λ u _ b e j n. off j (λ q. let lo = n.0 in absurd (omega arith))))
        wt st.inv sim_now threads_now firsts_now (λ u _. inl (started_now u)) runs (λ _. subst (λ p. StopStands world t m' (ls.at p).gate) (sym pc) (subst (StopStands world t m') (sym fine.0) shut)) room

    -- at a stage of its own
    stage_runs : (y : Stage) → m' ≡ at_stage (g.threads tr.thread) y → is_spawning y ≡ true → StageStands code s st.elements world (heap_now st.heap words) words tr.thread (at_stage (g.threads tr.thread) y) (Instr.Spawn r f from site) y
        → Runs x code s ls st.elements world (heap_now st.heap words) now tr.thread m'
    stage_runs y e ey stands =
        let m1 = at_stage m y in
        let eq : label_now here (instr_at code m.at.pc) y ≡ here = label_held here (instr_at code m.at.pc) y (spawning_calm y ey).hold in
        let below : FramesStand x code ls t view m1 here.function = elim here.function as (λ f. FramesStand x code ls t view m f → FramesStand x code ls t view m1 f) [ None ↦ λ h. h | Some f ↦ λ h. h ] rn.below in
        let runs1 : Runs x code s ls st.elements world (heap_now st.heap words) now t m1 = record {
          names = rn.names;
          top = subst (TopStands x t view m.at.refs m.at.ints rn.names) (now_here ∙ sym eq) rn.top;
          below = below;
          gate = subst (λ (l : Label). GateStands s world t m1 l.gate) (sym eq) (subst (GateStands s world t m1) (sym fine.0) shut);
          stage = subst (λ i. StageStands code s st.elements world (heap_now st.heap words) words t m1 i y) (sym is) stands;
          room = rn.room;
        } in
        subst (Runs x code s ls st.elements world (heap_now st.heap words) now t) (sym e) runs1

-- ---- the three turns
argument_same : (m : Machine) (y : Stage) (from : Register) → argument (at_stage m y) from ≡ argument m from
argument_same m y (Register.Int r) = refl
argument_same m y (Register.Reference r) = refl

sum_most : (n : ℕ) (f : ℕ → ℕ) (c : ℕ) → ((j : ℕ) → f j ≤ c) → sum_to n f ≤ n * c
sum_most zero f c h = omega arith
sum_most (suc n) f c h = let a = sum_most n f c h in let b = h n in let e : suc n * c ≡ n * c + c = grind arith in omega arith

module _ (x : Targets) (code : Code) (s : Shape) (ls : Labels) (wt : IsWellTyped x code ls) (fits : Fits code s) (few : IsSmall code s) (g : Global Machine) (world : World) (st : State x code s ls g world) (tr : Turn)
    (may : MayTurn bounds (one_thread code s) g tr) (r f : ℕ) (from : Register) (site : ℕ) (is : instr_at code (g.threads tr.thread).at.pc ≡ Instr.Spawn r f from site) where
  open turn_at st tr use {t, m as mm, after as done_at}
  open turn_stands st tr may use {low_t as on_t}

  abbrev next_number : ℕ
  next_number = slice_index g.words next_thread_word

  settled : (w' : Global Machine) → done_at ≡ w' → State x code s ls w' world → Turned x code s ls g world tr
  settled w' e k = unseen x code s ls g world tr _ e k

  made_up : (c : ℕ) → sum_to THREADS (put g.made tr.thread (g.made tr.thread + c)) ≡ sum_to THREADS g.made + c
  made_up c =
      let a = sum_one THREADS tr.thread g.made (put g.made tr.thread (g.made tr.thread + c)) on_t (λ j ne. put_other g.made tr.thread j (g.made tr.thread + c) ne) in
      let b = put_same g.made tr.thread (g.made tr.thread + c) in
      omega arith

  own_at : (y : Stage) → is_spawning (g.threads tr.thread).own.stage ≡ true → is_spawning y ≡ true → KeepsThread (g.threads tr.thread) (at_stage (g.threads tr.thread) y)
  own_at y sp sp' = record { sizes = sizes_kept mm (at_stage mm y) (st.threads tr.thread).has.table refl refl refl refl; held = refl; heads = refl; making = (spawning_calm y sp').making ∙ sym (spawning_calm mm.own.stage sp).making }

  -- a number is given out
  numbers : (rest : (g.threads tr.thread).own.stage ≡ Rests) → done_at ≡ made_turn g tr.thread (slice_set g.words next_thread_word ((next_number + 1) % 2 ^ 64)) (numbered (g.threads tr.thread) site next_number) → next_thread_word < length g.words → Turned x code s ls g world tr
  numbers rest done long =
      let n = next_number in
      let v = (n + 1) % 2 ^ 64 in
      let words = slice_set g.words next_thread_word v in
      let sum = sum_most THREADS g.made 100000000 st.few in
      let low = st.firsts.few in
      let v_is : v ≡ n + 1 = omega arith in
      let spawning : is_spawning mm.own.stage ≡ true = ap is_spawning rest in
      let new : slice_index words next_thread_word ≡ v = index_put g.words next_thread_word v long next_thread_word ∙ put_same (λ i. slice_index g.words i) next_thread_word v in
      let more : next_number ≤ slice_index words next_thread_word = omega arith in
      let mu = made_up 1 in
      let states : (u : ℕ) → u < THREADS → state_word u ≢ next_thread_word = λ u lt e. omega arith in
      elim (nat_lt n THREADS) as (λ b. nat_lt n THREADS ≡ b → done_at ≡ made_turn g t words (cond b (at_stage mm (Names n)) (stopped mm (Trap traps.ThreadLimit site))) → Turned x code s ls g world tr) [
        | true ↦ λ b e.
            let lt : n < THREADS = ltb-true n THREADS b in
            let m' = at_stage mm (Names n) in
            let state0 : slice_index g.words (state_word n) ≡ 0 = ⊎_elim (λ z. z) (λ (nz : slice_index g.words (state_word n) ≡ 0 → ⊥). absurd (let a = st.begins.given n lt nz in omega arith)) (cases_eq (slice_index g.words (state_word n)) 0) in
            let first : 0 < n = (let a = st.begins.given t on_t (λ z. let q : g.started t ≡ false = (st.begins.started t on_t).0 z in let p = may.started in absurd (cc)) in omega arith) in
            let state1 : slice_index words (state_word n) ≡ 0 = index_put g.words next_thread_word v long (state_word n) ∙ put_other (λ i. slice_index g.words i) next_thread_word (state_word n) v (states n lt) ∙ state0 in
            let reserves : Reserves words t n = record { few = lt; given = omega arith; first = first; state = state1 } in
            let L = low_state x code s ls wt fits g world st tr may r f from site is spawning next_thread_word v (omega arith) (omega arith) (omega arith) long states (λ u lt nz. (λ e. omega arith, λ e. omega arith)) (λ u k ne sp. (λ e. omega arith, λ e. omega arith)) more
            m' refl refl refl refl refl refl (own_at (Names n) spawning refl)
            (λ u k ne h sp. let a = st.firsts.spawns u k sp in let h' : n ≡ k = h in omega arith) (λ k h. let h' : n ≡ k = h in omega arith) (omega arith) in
            let R = stage_runs x code s ls wt fits g world st tr may r f from site is spawning next_thread_word v (omega arith) (omega arith) (omega arith) long states (λ u lt nz. (λ e. omega arith, λ e. omega arith)) (λ u k ne sp. (λ e. omega arith, λ e. omega arith)) more
            m' refl refl refl refl refl refl (own_at (Names n) spawning refl)
            (λ u k ne h sp. let a = st.firsts.spawns u k sp in let h' : n ≡ k = h in omega arith) (λ k h. let h' : n ≡ k = h in omega arith) (omega arith) in
            settled (made_turn g t words m') e (L (room_of code s g tr may words m' e) (λ _. R (Names n) refl refl reserves))
        | false ↦ λ b e.
            let m' = stopped mm (Trap traps.ThreadLimit site) in
            let L = low_state x code s ls wt fits g world st tr may r f from site is spawning next_thread_word v (omega arith) (omega arith) (omega arith) long states (λ u lt nz. (λ e. omega arith, λ e. omega arith)) (λ u k ne sp. (λ e. omega arith, λ e. omega arith)) more
            m' refl refl refl refl refl spawning (record { sizes = sizes_kept mm m' (st.threads t).has.table refl refl refl refl; held = refl; heads = refl; making = refl })
            (λ u k ne h sp. absurd (subst (λ y. SpawnsNow y k) rest h)) (λ k h. absurd (subst (λ y. SpawnsNow y k) rest h)) (omega arith) in
            settled (made_turn g t words m') e (L (room_of code s g tr may words m' e) (λ q. absurd (cc)))
      ] refl done

  -- the words of a thread that is spawned
  module _ (n : ℕ) (reserves : Reserves g.words tr.thread n) where
    not_begun : (u : ℕ) → slice_index g.words (state_word u) ≢ 0 → u ≢ n
    not_begun u nz e = nz (ap (λ u. slice_index g.words (state_word u)) e ∙ reserves.state)

    -- the function is written
    names : (stage : (g.threads tr.thread).own.stage ≡ Names n) → done_at ≡ made_turn g tr.thread (slice_set g.words (function_word n) f) (at_stage (g.threads tr.thread) (Hands n)) → function_word n < length g.words → Turned x code s ls g world tr
    names stage done long =
        let k = function_word n in
        let words = slice_set g.words k f in
        let lt = reserves.few in
        let m' = at_stage mm (Hands n) in
        let spawning : is_spawning mm.own.stage ≡ true = ap is_spawning stage in
        let fi : f < length code.functions.items = (fine x code s ls wt fits g world st tr may r f from site is spawning).2 in
        let few64 = few.functions in
        let states : (u : ℕ) → u < THREADS → state_word u ≢ k = λ u lt e. omega arith in
        let same2 : slice_index words next_thread_word ≡ next_number = index_put g.words k f long next_thread_word ∙ put_other (λ i. slice_index g.words i) k next_thread_word f (λ e. omega arith) in
        let own_one : SpawnsNow mm.own.stage n = subst (λ y. SpawnsNow y n) (sym stage) refl in
        let lasts : (u : ℕ) → u < THREADS → slice_index g.words (state_word u) ≢ 0 → (function_word u ≢ k) × (argument_word u ≢ k) = λ u lt nz. (λ e. not_begun u nz (omega arith), λ e. omega arith) in
        let apart : (u j : ℕ) → u ≢ t → SpawnsNow (g.threads u).own.stage j → (function_word j ≢ k) × (argument_word j ≢ k) = λ u j ne sp.
        (λ e. ne (st.begins.one u t n (subst (SpawnsNow (g.threads u).own.stage) (let q : j ≡ n = omega arith in q) sp) own_one), λ e. omega arith) in
        let one' : (u j : ℕ) → u ≢ t → SpawnsNow (Hands n) j → SpawnsNow (g.threads u).own.stage j → ⊥ = λ u j ne h sp. let h' : n ≡ j = h in ne (st.begins.one u t n (subst (SpawnsNow (g.threads u).own.stage) (sym h') sp) own_one) in
        let given : (j : ℕ) → SpawnsNow (Hands n) j → j < slice_index words next_thread_word = λ j h. let h' : n ≡ j = h in let z = reserves.given in omega arith in
        let mu = made_up 1 in
        let low = st.firsts.few in
        let state1 : slice_index words (state_word n) ≡ 0 = index_put g.words k f long (state_word n) ∙ put_other (λ i. slice_index g.words i) k (state_word n) f (states n lt) ∙ reserves.state in
        let reserves1 : Reserves words t n = record { few = lt; given = (let z = reserves.given in omega arith); first = reserves.first; state = state1 } in
        let is_f : slice_index words k ≡ f = index_put g.words k f long k ∙ put_same (λ i. slice_index g.words i) k f in
        let L = low_state x code s ls wt fits g world st tr may r f from site is spawning k f (omega arith) (omega arith) (omega arith) long states lasts apart (omega arith) m' refl refl refl refl refl refl (own_at (Hands n) spawning refl) one' given (omega arith) in
        let R = stage_runs x code s ls wt fits g world st tr may r f from site is spawning k f (omega arith) (omega arith) (omega arith) long states lasts apart (omega arith) m' refl refl refl refl refl refl (own_at (Hands n) spawning refl) one' given (omega arith) in
        settled (made_turn g t words m') done (L (room_of code s g tr may words m' done) (λ _. R (Hands n) refl refl (reserves1, is_f)))

    -- the argument is written
    hands : (v : ℕ) → v < 2 ^ 64 → v ≡ argument (g.threads tr.thread) from → (stage : (g.threads tr.thread).own.stage ≡ Hands n) → slice_index g.words (function_word n) ≡ f
        → done_at ≡ made_turn g tr.thread (slice_set g.words (argument_word n) v) (at_stage (g.threads tr.thread) (Begins n)) → argument_word n < length g.words → Turned x code s ls g world tr
    hands v small is_v stage named done long =
        let k = argument_word n in
        let words = slice_set g.words k v in
        let lt = reserves.few in
        let m' = at_stage mm (Begins n) in
        let spawning : is_spawning mm.own.stage ≡ true = ap is_spawning stage in
        let states : (u : ℕ) → u < THREADS → state_word u ≢ k = λ u lt e. omega arith in
        let same2 : slice_index words next_thread_word ≡ next_number = index_put g.words k v long next_thread_word ∙ put_other (λ i. slice_index g.words i) k next_thread_word v (λ e. omega arith) in
        let own_one : SpawnsNow mm.own.stage n = subst (λ y. SpawnsNow y n) (sym stage) refl in
        let lasts : (u : ℕ) → u < THREADS → slice_index g.words (state_word u) ≢ 0 → (function_word u ≢ k) × (argument_word u ≢ k) = λ u lt nz. (λ e. omega arith, λ e. not_begun u nz (omega arith)) in
        let apart : (u j : ℕ) → u ≢ t → SpawnsNow (g.threads u).own.stage j → (function_word j ≢ k) × (argument_word j ≢ k) = λ u j ne sp.
        (λ e. omega arith, λ e. ne (st.begins.one u t n (subst (SpawnsNow (g.threads u).own.stage) (let q : j ≡ n = omega arith in q) sp) own_one)) in
        let one' : (u j : ℕ) → u ≢ t → SpawnsNow (Begins n) j → SpawnsNow (g.threads u).own.stage j → ⊥ = λ u j ne h sp. let h' : n ≡ j = h in ne (st.begins.one u t n (subst (SpawnsNow (g.threads u).own.stage) (sym h') sp) own_one) in
        let given : (j : ℕ) → SpawnsNow (Begins n) j → j < slice_index words next_thread_word = λ j h. let h' : n ≡ j = h in let z = reserves.given in omega arith in
        let mu = made_up 1 in
        let low = st.firsts.few in
        let off : (j : ℕ) → j ≢ k → slice_index words j ≡ slice_index g.words j = λ j ne. index_put g.words k v long j ∙ put_other (λ i. slice_index g.words i) k j v ne in
        let reserves1 : Reserves words t n = record { few = lt; given = (let z = reserves.given in omega arith); first = reserves.first; state = off (state_word n) (states n lt) ∙ reserves.state } in
        let is_f : slice_index words (function_word n) ≡ f = off (function_word n) (λ e. omega arith) ∙ named in
        let is_a : slice_index words k ≡ argument m' from = index_put g.words k v long k ∙ put_same (λ i. slice_index g.words i) k v ∙ is_v ∙ sym (argument_same mm (Begins n) from) in
        let L = low_state x code s ls wt fits g world st tr may r f from site is spawning k v (omega arith) (omega arith) small long states lasts apart (omega arith) m' refl refl refl refl refl refl (own_at (Begins n) spawning refl) one' given (omega arith) in
        let R = stage_runs x code s ls wt fits g world st tr may r f from site is spawning k v (omega arith) (omega arith) small long states lasts apart (omega arith) m' refl refl refl refl refl refl (own_at (Begins n) spawning refl) one' given (omega arith) in
        settled (made_turn g t words m') done (L (room_of code s g tr may words m' done) (λ _. R (Begins n) refl refl (reserves1, is_f, is_a)))

  -- what is handed over is a word
  small_argument : (from' : Register) → instr_at code (g.threads tr.thread).at.pc ≡ Instr.Spawn r f from' site → is_spawning (g.threads tr.thread).own.stage ≡ true → argument (g.threads tr.thread) from' < 2 ^ 64
  small_argument (Register.Int i) is' sp =
      let v = view_of st.elements world tr.thread mm in
      let rn' = (st.threads tr.thread).runs may.started may.next.runs in
      let fi = (fine x code s ls wt fits g world st tr may r f (Register.Int i) site is' sp).5.2 in
      let tp = subst (TopStands x tr.thread v mm.at.refs mm.at.ints rn'.names) (now_here x code s ls wt fits g world st tr may r f (Register.Int i) site is' sp) rn'.top in
      (back_again fi.0 (int mm i) (less_number x st.elements (refs_at v mm.at.refs) (types_at v mm.at.refs) rn'.names (int mm i) ((ls.at mm.at.pc).ints i) (Within fi.0) fi.1 ((tp 0 (suc i)).numbers i (omega arith)))).1
  small_argument (Register.Reference q) is' sp =
      let v = ref mm q in
      let a = RegisterOf tr.thread (mm.at.refs + q) in
      let ev : in_ref world a ≡ v = st.sim.regs tr.thread (mm.at.refs + q) ∙ register_held code mm (spawning_calm mm.own.stage sp).hold (mm.at.refs + q) in
      ⊎_elim (λ (z : v ≡ 0). omega arith)
      (λ (nz : v ≡ 0 → ⊥).
      let fi = st.inv.words.fits (In a) (λ z. nz (sym ev ∙ z)) in
      let q = st.apart.headers v (subst (λ v. (world.obj v).live ≡ true) ev fi.live) in
      let g1 = fits.globals in let g2 = wt.globals.few in let g3 = fits.most in omega arith)
      (cases_eq v 0)

  -- the last turn
  abbrev LastTurn : Type 0
  LastTurn = (n : ℕ) → (g.threads tr.thread).own.stage ≡ Begins n → Reserves g.words tr.thread n → slice_index g.words (function_word n) ≡ f → slice_index g.words (argument_word n) ≡ argument (g.threads tr.thread) from
      → done_at ≡ made_turn g tr.thread (slice_set g.words (state_word n) 1) (Rattle.sharc_code.specs.Machine.rests (set_int (handed (g.threads tr.thread) from) r (pos n))) → state_word n < length g.words → Turned x code s ls g world tr

  by_stage : LastTurn → (y : Stage) → (g.threads tr.thread).own.stage ≡ y → StageStands code s st.elements world st.heap g.words tr.thread (g.threads tr.thread) (Instr.Spawn r f from site) y → turn code s (g.threads tr.thread) ≡ spawn (g.threads tr.thread) r f from site y → Turned x code s ls g world tr
  by_stage last Rests e h d = let a = asks_turn code s g tr may (step_of next_thread_word (Add 1)) (numbered mm site) d in numbers e a.0 a.1
  by_stage last (Names n) e h d = let a = asks_turn code s g tr may (step_of (function_word n) (Swap f)) (λ found. at_stage mm (Hands n)) d in names n h e a.0 a.1
  by_stage last (Hands n) e h d =
      let a = asks_turn code s g tr may (step_of (argument_word n) (Swap (argument mm from))) (λ found. at_stage mm (Begins n)) d in
      hands n h.0 (argument mm from) (small_argument from is (ap is_spawning e)) refl e h.1 a.0 a.1
  by_stage last (Begins n) e h d =
      let a = asks_turn code s g tr may (step_of (state_word n) (Swap 1)) (λ found. Rattle.sharc_code.specs.Machine.rests (set_int (handed mm from) r (pos n))) d in
      last n e h.0 h.1 h.2 a.0 a.1
  by_stage last _ e h d = absurd h

  -- Spawn keeps the invariant where its last turn does
  pub Spawn_keeps_but_the_last : LastTurn → Turned x code s ls g world tr
  Spawn_keeps_but_the_last last =
      let rn' = (st.threads tr.thread).runs may.started may.next.runs in
      by_stage last mm.own.stage refl (subst (λ i. StageStands code s st.elements world st.heap g.words tr.thread mm i mm.own.stage) is rn'.stage)
      (ap (λ i. Rattle.sharc_code.specs.Machine.act code s i mm) is)

-- ---- the last turn: the thread is started
module _ (x : Targets) (code : Code) (s : Shape) (ls : Labels) (wt : IsWellTyped x code ls) (fits : Fits code s) (few : IsSmall code s) (g : Global Machine) (world : World) (st : State x code s ls g world) (tr : Turn)
    (may : MayTurn bounds (one_thread code s) g tr) (r f : ℕ) (from : Register) (site : ℕ) (is : instr_at code (g.threads tr.thread).at.pc ≡ Instr.Spawn r f from site)
    (n : ℕ) (stage : (g.threads tr.thread).own.stage ≡ Begins n) (reserves : Reserves g.words tr.thread n) (named : slice_index g.words (function_word n) ≡ f) (long : state_word n < length g.words)
    (refs : List ℕ) (lr : length refs ≡ length (g.threads tr.thread).refs) where
  open turn_at st tr use {t, m}

  abbrev last : Machine
  last = record (g.threads tr.thread) {
    at = record (g.threads tr.thread).at { pc = (g.threads tr.thread).at.pc + 1; state = RunsOn };
    ints = slice_set (g.threads tr.thread).ints ((g.threads tr.thread).at.ints + r) (pos n);
    refs = refs;
    own = record (g.threads tr.thread).own { stage = Rests };
  }

  abbrev begun_words : List ℕ
  begun_words = slice_set g.words (state_word n) 1

  abbrev then_ : Global Machine
  then_ = made_turn g tr.thread (slice_set g.words (state_word n) 1) last

  sp : is_spawning (g.threads tr.thread).own.stage ≡ true
  sp = ap is_spawning stage

  here_fine : Fine x code ls (g.threads tr.thread).at.pc (ls.at (g.threads tr.thread).at.pc) (Instr.Spawn r f from site)
  here_fine = fine x code s ls wt fits g world st tr may r f from site is sp

  t_low : tr.thread < THREADS
  t_low = st.begins.few tr.thread may.started

  not_t : n ≢ tr.thread
  not_t e = let q : g.started tr.thread ≡ false = (st.begins.started tr.thread t_low).0 (ap (λ u. slice_index g.words (state_word u)) (sym e) ∙ reserves.state) in let p = may.started in absurd (cc)

  waits : g.threads n ≡ begun code s n
  waits = (st.threads n).waits ((st.begins.started n reserves.few).0 reserves.state)

  word_at : (j : ℕ) → slice_index begun_words j ≡ put (λ i. slice_index g.words i) (state_word n) 1 j
  word_at = index_put g.words (state_word n) 1 long

  away : (j : ℕ) → j ≢ state_word n → slice_index begun_words j ≡ slice_index g.words j
  away j ne = word_at j ∙ put_other (λ i. slice_index g.words i) (state_word n) j 1 ne

  is_one : slice_index begun_words (state_word n) ≡ 1
  is_one = word_at (state_word n) ∙ put_same (λ i. slice_index g.words i) (state_word n) 1

  state_of : (u : ℕ) → u ≢ n → slice_index begun_words (state_word u) ≡ slice_index g.words (state_word u)
  state_of u ne = away (state_word u) (λ e. ne (omega arith))

  function_of_u : (u : ℕ) → slice_index begun_words (function_word u) ≡ slice_index g.words (function_word u)
  function_of_u u = away (function_word u) (λ e. omega arith)

  argument_of_u : (u : ℕ) → slice_index begun_words (argument_word u) ≡ slice_index g.words (argument_word u)
  argument_of_u u = away (argument_word u) (λ e. omega arith)

  next_same : slice_index begun_words next_thread_word ≡ slice_index g.words next_thread_word
  next_same = away next_thread_word (λ e. omega arith)

  own_one : SpawnsNow (g.threads tr.thread).own.stage n
  own_one = subst (λ y. SpawnsNow y n) (sym stage) refl

  most_last : KeepsMost s st.heap g tr.thread begun_words
  most_last =
      let kept0 = store_ok (record { first = 1 + s.globals; words = first_cell s }) st.heap st.heap_stands.kept (state_word n) 1 (omega arith) (λ p u d e q. absurd (omega arith)) in
      let fe : put st.heap.words (state_word n) 1 ≡ (λ i. slice_index begun_words i) = fun_ext (λ i. ap (λ (h : ℕ → ℕ). put h (state_word n) 1 i) (fun_ext st.heap_stands.words) ∙ sym (word_at i)) in
      record {
        count = length-set g.words (state_word n) 1;
        top = away top_word (λ e. omega arith);
        are_words = λ j. subst (λ n. n < 2 ^ 64) (sym (word_at j)) (put_all (λ j y. y < 2 ^ 64) (λ i. slice_index g.words i) (state_word n) 1 (omega arith) (λ j _. st.are_words j) j);
        epochs = λ i l. ap epoch_of (away (97 + i) (λ e. absurd (omega arith)));
        kept = subst (λ h. Kept (record { first = 1 + s.globals; words = first_cell s }) (record st.heap { words = h })) fe kept0;
        reserved = λ u j ne spawns h. record {
          few = h.few;
          given = (let z = h.given in let y = next_same in omega arith);
          first = h.first;
          state = state_of j (λ e. ne (st.begins.one u tr.thread n (subst (SpawnsNow (g.threads u).own.stage) e spawns) own_one)) ∙ h.state;
        };
        handed = λ u j ne spawns h. (function_of_u j, argument_of_u j);
        own = λ u ne on. function_of_u u;
      }

  started_n : then_.started n ≡ true
  started_n =
      let a : nat_lt n THREADS ≡ true = (let l = reserves.few in grind (arith, nat_tests)) in
      ap (λ b. (b && nat_eq (slice_index begun_words (state_word n)) 1) || g.started n) a ∙ ap (λ v. nat_eq v 1 || g.started n) is_one

  started_other : (u : ℕ) → u ≢ n → then_.started u ≡ g.started u
  started_other u ne = started_still x code s ls g world st tr.thread begun_words last u (λ _ _. state_of u ne)

  threads_last : (w' : World) → ((u : ℕ) → u ≢ n → w'.slots (In (ArgumentOf u)) ≡ world.slots (In (ArgumentOf u))) → EntryStands (λ r. in_ref w' (ArgumentOf n)) (λ r. (w'.slots (In (ArgumentOf n))).ty) 0 ((ls.signature f).takes 0) → Threads code ls w' then_
  threads_last w' others new = record {
    few = λ u e. ⊎_elim (λ (q : u ≡ n). let l = reserves.few in omega arith) (λ (ne : u ≡ n → ⊥). st.begins.few u (sym (started_other u ne) ∙ e)) (cases_eq u n);
    started = λ u lt. ⊎_elim
        (λ (q : u ≡ n). (
          (λ z. absurd (let a : slice_index begun_words (state_word u) ≡ 1 = ap (λ u. slice_index begun_words (state_word u)) q ∙ is_one in omega arith)),
          (λ z. absurd (let a : then_.started u ≡ true = ap then_.started q ∙ started_n in cc)),
        ))
        (λ (ne : u ≡ n → ⊥). (
          (λ z. started_other u ne ∙ (st.begins.started u lt).0 (sym (state_of u ne) ∙ z)),
          (λ z. state_of u ne ∙ (st.begins.started u lt).1 (sym (started_other u ne) ∙ z)),
        ))
        (cases_eq u n);
    given = λ u lt nz. ⊎_elim
        (λ (q : u ≡ n). let a = reserves.given in let b = next_same in omega arith)
        (λ (ne : u ≡ n → ⊥). let a = st.begins.given u lt (λ e. nz (state_of u ne ∙ e)) in let b = next_same in omega arith)
        (cases_eq u n);
    function = λ u lt e. ⊎_elim
        (λ (q : u ≡ n). ap ls.starts (function_of_u u ∙ ap (λ u. slice_index g.words (function_word u)) q ∙ named) ∙ here_fine.3)
        (λ (ne : u ≡ n → ⊥). ap ls.starts (function_of_u u) ∙ st.begins.function u lt (sym (state_of u ne) ∙ e))
        (cases_eq u n);
    argument = λ u lt. subst (λ f. EntryStands (λ r. in_ref w' (ArgumentOf u)) (λ r. (w'.slots (In (ArgumentOf u))).ty) 0 ((ls.signature f).takes 0)) (sym (function_of_u u))
        (⊎_elim
        (λ (q : u ≡ n). subst (λ u. EntryStands (λ r. in_ref w' (ArgumentOf u)) (λ r. (w'.slots (In (ArgumentOf u))).ty) 0 ((ls.signature (slice_index g.words (function_word u))).takes 0)) (sym q)
        (subst (λ f. EntryStands (λ r. in_ref w' (ArgumentOf n)) (λ r. (w'.slots (In (ArgumentOf n))).ty) 0 ((ls.signature f).takes 0)) (sym named) new))
        (λ (ne : u ≡ n → ⊥). subst (λ (h : TypedReference). EntryStands (λ r. h.reference) (λ r. h.ty) 0 ((ls.signature (slice_index g.words (function_word u))).takes 0)) (sym (others u ne)) (st.begins.argument u lt))
        (cases_eq u n));
    one = λ a b j ha hb.
        let keeps : (u : ℕ) → SpawnsNow (then_.threads u).own.stage j → SpawnsNow (g.threads u).own.stage j =
        put_all (λ u (y : Machine). SpawnsNow y.own.stage j → SpawnsNow (g.threads u).own.stage j) g.threads tr.thread last (λ h. absurd h) (λ u _ h. h) in
        st.begins.one a b j (keeps a ha) (keeps b hb);
  }

  firsts_last : NumberStands x (λ o. 0) (λ r. 0) (λ r. nothing) (λ n. pos 0) (int_of (slice_index g.words (argument_word n))) ((ls.signature f).takes_ints 0) → Firsts x ls then_
  firsts_last new =
      let P : ℕ → ℕ → Type 0 = λ f a. NumberStands x (λ o. 0) (λ r. 0) (λ r. nothing) (λ n. pos 0) (int_of a) ((ls.signature f).takes_ints 0) in
      record {
        unread = λ u lt on first. ⊎_elim
            (λ (q : u ≡ n). ap (λ u. slice_index begun_words (state_word u)) q ∙ is_one)
            (λ (ne : u ≡ n → ⊥). ⊎_elim
            (λ (e : u ≡ tr.thread).
            let a : is_unread (then_.threads u) ≡ false = ap (λ u. is_unread (then_.threads u)) e ∙ ap is_unread (put_same g.threads tr.thread last) ∙ ap (λ b. b && true) (ne_eq ((g.threads tr.thread).at.pc + 1) 0 (λ z. omega arith)) in absurd (cc))
            (λ (nt : u ≡ tr.thread → ⊥). state_of u ne ∙ st.firsts.unread u lt (sym (started_other u ne) ∙ on) (sym (ap is_unread (put_other g.threads tr.thread u last nt)) ∙ first))
            (cases_eq u tr.thread))
            (cases_eq u n);
        alone = λ u lt e al. ⊎_elim
            (λ (q : u ≡ n).
            let a : (ls.signature (slice_index begun_words (function_word u))).alone ≡ (ls.signature f).alone = ap (λ f. (ls.signature f).alone) (function_of_u u ∙ ap (λ u. slice_index g.words (function_word u)) q ∙ named) in
            let b : (ls.signature f).alone ≡ false = here_fine.4 in absurd (cc))
            (λ (ne : u ≡ n → ⊥). st.firsts.alone u lt (sym (state_of u ne) ∙ e) (ap (λ f. (ls.signature f).alone) (sym (function_of_u u)) ∙ al))
            (cases_eq u n);
        number = λ u lt e. subst (λ a. P (slice_index begun_words (function_word u)) a) (sym (argument_of_u u)) (subst (λ f. P f (slice_index g.words (argument_word u))) (sym (function_of_u u)) (⊎_elim
            (λ (q : u ≡ n). subst (λ u. P (slice_index g.words (function_word u)) (slice_index g.words (argument_word u))) (sym q) (subst (λ f. P f (slice_index g.words (argument_word n))) (sym named) new))
            (λ (ne : u ≡ n → ⊥). st.firsts.number u lt (sym (state_of u ne) ∙ e))
            (cases_eq u n)));
        spawns = λ u j h.
            let z = st.firsts.spawns u j (put_all (λ u (y : Machine). SpawnsNow y.own.stage j → SpawnsNow (g.threads u).own.stage j) g.threads tr.thread last (λ h. absurd h) (λ u _ h. h) u h) in
            let y = next_same in omega arith;
        few = (let a = st.firsts.few in let b = next_same in let c = sum_up THREADS g.made tr.thread 1 in omega arith);
      }

  args_other : (u : ℕ) → u ≢ n → argument_of code g u ≡ argument_of code then_ u
  args_other u ne = ⊎_elim
      (λ (e : u ≡ tr.thread).
      let a : is_unread (then_.threads u) ≡ false = ap (λ u. is_unread (then_.threads u)) e ∙ ap is_unread (put_same g.threads tr.thread last) ∙ ap (λ b. b && true) (ne_eq ((g.threads tr.thread).at.pc + 1) 0 (λ z. omega arith)) in
      let b : is_unread (g.threads u) ≡ false = ap (λ u. is_unread (g.threads u)) e ∙ ap (λ b. b && is_first (g.threads tr.thread).own.stage) (not_zero x code s ls wt fits g world st tr may r f from site is sp) in
      no_argument (nat_lt u THREADS && (slice_index g.words (state_word u) == 1)) (is_unread (g.threads u)) _ b ∙ sym (no_argument (nat_lt u THREADS && (slice_index begun_words (state_word u) == 1)) (is_unread (then_.threads u)) _ a))
      (λ (nt : u ≡ tr.thread → ⊥).
      let A : ℕ → ℕ → ℕ → Bool → ℕ = λ s f a b. cond ((nat_lt u THREADS && (s == 1)) && b) (if_reference (function_of code f).parameter a) 0 in
      sym (ap (λ s. A s (slice_index begun_words (function_word u)) (slice_index begun_words (argument_word u)) (is_unread (then_.threads u))) (state_of u ne)
      ∙ ap (λ f. A (slice_index g.words (state_word u)) f (slice_index begun_words (argument_word u)) (is_unread (then_.threads u))) (function_of_u u)
      ∙ ap (λ a. A (slice_index g.words (state_word u)) (slice_index g.words (function_word u)) a (is_unread (then_.threads u))) (argument_of_u u)
      ∙ ap (A (slice_index g.words (state_word u)) (slice_index g.words (function_word u)) (slice_index g.words (argument_word u))) (ap is_unread (put_other g.threads tr.thread u last nt))))
      (cases_eq u tr.thread)

  args_new : argument_of code then_ n ≡ if_reference (function_of code f).parameter (slice_index g.words (argument_word n))
  args_new =
      let A : Bool → ℕ → ℕ → ℕ → Bool → ℕ = λ c s f a b. cond ((c && (s == 1)) && b) (if_reference (function_of code f).parameter a) 0 in
      let a : nat_lt n THREADS ≡ true = (let l = reserves.few in grind (arith, nat_tests)) in
      let b : is_unread (then_.threads n) ≡ true = ap is_unread (put_other g.threads tr.thread n last not_t) ∙ ap is_unread waits in
      ap (λ c. A c (slice_index begun_words (state_word n)) (slice_index begun_words (function_word n)) (slice_index begun_words (argument_word n)) (is_unread (then_.threads n))) a
      ∙ ap (λ s. A true s (slice_index begun_words (function_word n)) (slice_index begun_words (argument_word n)) (is_unread (then_.threads n))) is_one
      ∙ ap (λ f. A true 1 f (slice_index begun_words (argument_word n)) (is_unread (then_.threads n))) (function_of_u n ∙ named)
      ∙ ap (λ a. A true 1 f a (is_unread (then_.threads n))) (argument_of_u n)
      ∙ ap (A true 1 f (slice_index g.words (argument_word n))) b

  unset_n : argument_of code g n ≡ 0
  unset_n =
      let v = if_reference (function_of code (slice_index g.words (function_word n))).parameter (slice_index g.words (argument_word n)) in
      ap (λ s. cond ((nat_lt n THREADS && (s == 1)) && is_unread (g.threads n)) v 0) reserves.state
      ∙ (elim (nat_lt n THREADS) as (λ b. cond ((b && false) && is_unread (g.threads n)) v 0 ≡ 0) [ true ↦ refl | false ↦ refl ])

  abbrev regs_last : ℕ → ℕ → ℕ
  regs_last = put (λ u. register_of code (g.threads u)) tr.thread (register_of code last)

  conc_last : conc_of code then_ ≡ record (store (conc_of code g) (state_word n) 1) { regs = regs_last; args = argument_of code then_ }
  conc_last =
      let wd : (λ j. slice_index begun_words j) ≡ put (λ i. slice_index g.words i) (state_word n) 1 = fun_ext word_at in
      conc_turned code g t begun_words last refl (sym (spawning_calm m.own.stage sp).staged)
      (calm_notes m last refl (spawning_calm m.own.stage sp).withdrawn (λ order ended p. refl) (ended_before x code s ls wt fits g world st tr may r f from site is sp) refl)
      ∙ (λ i. record (conc_of code g) { words = wd i; regs = regs_last; args = argument_of code then_ })

  last_state : (w' : World) → w'.obj ≡ world.obj → w'.mutex ≡ world.mutex → w'.win ≡ world.win → KeepsOthers s world w' st.heap (heap_now st.heap begun_words) g.words begun_words tr.thread
      → ((u : ℕ) → u ≢ n → w'.slots (In (ArgumentOf u)) ≡ world.slots (In (ArgumentOf u))) → EntryStands (λ r. in_ref w' (ArgumentOf n)) (λ r. (w'.slots (In (ArgumentOf n))).ty) 0 ((ls.signature f).takes 0)
      → NumberStands x (λ o. 0) (λ r. 0) (λ r. nothing) (λ n. pos 0) (int_of (slice_index g.words (argument_word n))) ((ls.signature f).takes_ints 0)
      → WorldInvariant (size_of_run code s) (lang_of x) w' → Shows x s st.cells st.elements (record (store (conc_of code g) (state_word n) 1) { regs = regs_last; args = argument_of code then_ }) w'
      → (names : ℕ → ℤ) (k : Label) → k.gate ≡ Closed → k.room ≡ (ls.at (g.threads tr.thread).at.pc).room → Leads ls ((g.threads tr.thread).at.pc + 1) k → TopStands x tr.thread (view_of st.elements w' tr.thread last) (g.threads tr.thread).at.refs (g.threads tr.thread).at.ints names k
      → FramesStand x code ls tr.thread (view_of st.elements w' tr.thread last) last k.function → g.made tr.thread + 1 ≤ 100000000 → State x code s ls then_ w'
  last_state w' eo em ew ks others entry number inv sim names k kg kr leads tops below room =
      let new = (ls.at (m.at.pc + 1)).gate in
      let still : w'.win t ≡ Shut = ap (λ (f : ℕ → Window). f t) ew ∙ shut x code s ls wt fits g world st tr may r f from site is sp in
      let rn' = (st.threads tr.thread).runs may.started may.next.runs in
      let off_n : g.started n ≡ false = (st.begins.started n reserves.few).0 reserves.state in
      let new_thread = begun_stands x code s ls wt st.elements w' (heap_now st.heap begun_words) then_ n (put_other g.threads t n last not_t ∙ waits)
      (λ j. ap (λ (y : TypedReference). y.reference) (ks.regs n not_t j) ∙ begun_regs x code s ls wt g world st n waits j) (ks.win n not_t ∙ (st.threads n).off off_n) in
      most_state x code s ls g world st t may.started begun_words last
      (record { sizes = sizes_kept m last (st.threads t).has.table refl lr (length-set m.ints (m.at.ints + r) (pos n)) refl; held = refl; heads = refl; making = sym (spawning_calm m.own.stage sp).making })
      most_last w' eo em ks wt inv (subst (λ c. Shows x s st.cells st.elements c w') (sym conc_last) sim) (threads_last w' others entry) (firsts_last number)
      (λ u ne. ⊎_elim (λ (e : u ≡ n). inr (subst (λ u. ThreadStands x code s ls st.elements w' (heap_now st.heap begun_words) then_ u) (sym e) new_thread)) (λ (nn : u ≡ n → ⊥). inl (started_other u nn)) (cases_eq u n))
      (λ _. runs_at x code s ls st.elements w' (heap_now st.heap begun_words) then_ t last names refl
      (less_stands x t (view_of st.elements w' t last) m.at.refs m.at.ints names k (ls.at (m.at.pc + 1)) leads tops)
      (subst (FramesStand x code ls t (view_of st.elements w' t last) last) (sym leads.function) below)
      (subst (GateStands s w' t last) (sym (closed_less new (subst (λ y. LessGate y new) kg leads.gate))) still)
      (λ q. rn'.room (sym kr ∙ leads.room q)))
      (λ e. absurd (cc)) room

-- ---- a number is handed over
number_plain : (x : Targets) (el el' refs refs' : ℕ → ℕ) (types types' : ℕ → ObjectType) (names names' : ℕ → ℤ) (z : ℤ) (n : Number) → ((b : ℕ) → HasBase n b → ⊥) → ((name : ℕ) → HasName n name → ⊥)
    → NumberStands x el refs types names z n → NumberStands x el' refs' types' names' z n
number_plain x el el' refs refs' types types' names names' z Anything hb hn h = tt
number_plain x el el' refs refs' types types' names names' z (Indexes k) hb hn h = absurd (hn k refl)
number_plain x el el' refs refs' types types' names names' z (OfElement b f e) hb hn h = absurd (hb b refl)
number_plain x el el' refs refs' types types' names names' z (OfGlobal a b c (Named k)) hb hn h = absurd (hn k refl)
number_plain x el el' refs refs' types types' names names' z _ hb hn h = h

-- an integer register of the frame on top holds something else
number_set : (x : Targets) (t : ℕ) (v : View) (base ints : ℕ) (names : ℕ → ℤ) (l : Label) (r : ℕ) (n : Number) (vals : ℕ → ℤ) → ((j : ℕ) → j ≢ ints + r → vals j ≡ v.vals j)
    → NumberStands x v.elements (refs_at v base) (types_at v base) names (vals (ints + r)) n → TopStands x t v base ints names l → TopStands x t (record v { vals = vals }) base ints names (set_number l r n)
number_set x t v base ints names l r n vals same new top a b = record {
  env = (top a b).env;
  same = (top a b).same;
  known = (top a b).known;
  passed = (top a b).passed;
  numbers = λ j lt. put_all (λ j (y : Number). NumberStands x v.elements (refs_at v base) (types_at v base) names (vals (ints + j)) y) l.ints r n new
      (λ j ne. subst (λ z. NumberStands x v.elements (refs_at v base) (types_at v base) names z (l.ints j)) (sym (same (ints + j) (λ e. ne (omega arith)))) ((top 0 (suc j)).numbers j (omega arith))) j;
}

below_set : (x : Targets) (code : Code) (ls : Labels) (t : ℕ) (v : View) (m m' : Machine) (r : ℕ) (vals : ℕ → ℤ) → ((j : ℕ) → j ≢ m.at.ints + r → vals j ≡ v.vals j) → m'.frames ≡ m.frames → m'.at.depth ≡ m.at.depth → m'.at.refs ≡ m.at.refs → m'.at.ints ≡ m.at.ints
    → (f : Option ℕ) → FramesStand x code ls t v m f → FramesStand x code ls t (record v { vals = vals }) m' f
below_set x code ls t v m m' r vals same = frames_agree x code ls t v (record v { vals = vals }) m m' (record {
  refs = λ j _. refl;
  types = λ j _. refl;
  vals = λ j lt. sym (same j (λ q. omega arith));
  elements = λ j _. refl;
  passed = λ o p b _ k. k;
})

module _ (x : Targets) (code : Code) (s : Shape) (ls : Labels) (wt : IsWellTyped x code ls) (fits : Fits code s) (few : IsSmall code s) (g : Global Machine) (world : World) (st : State x code s ls g world) (tr : Turn)
    (may : MayTurn bounds (one_thread code s) g tr) (r f i : ℕ) (site : ℕ) (is : instr_at code (g.threads tr.thread).at.pc ≡ Instr.Spawn r f (Register.Int i) site) where
  open turn_at st tr use {t, m, here, view as v}

  int_last : LastTurn x code s ls wt fits few g world st tr may r f (Register.Int i) site is
  int_last n stage reserves named is_arg done long =
      let spn : is_spawning m.own.stage ≡ true = ap is_spawning stage in
      let rn' = (st.threads tr.thread).runs may.started may.next.runs in
      let fi = fine x code s ls wt fits g world st tr may r f (Register.Int i) site is spn in
      let tp = subst (TopStands x t v m.at.refs m.at.ints rn'.names) (now_here x code s ls wt fits g world st tr may r f (Register.Int i) site is spn) rn'.top in
      let start = wt.starts f fi.3 in
      let z = int m i in
      let nr : (function_of code f).parameter ≢ Parameter.Reference = λ e. let q : Parameter.Int ≡ Parameter.Reference = sym fi.5.0 ∙ e in cc in
      let own_number = (tp 0 (suc i)).numbers i (omega arith) in
      let back = back_again fi.5.2.0 z (less_number x st.elements (refs_at v m.at.refs) (types_at v m.at.refs) rn'.names z (here.ints i) (Within fi.5.2.0) fi.5.2.1 own_number) in
      let value : int_of (slice_index g.words (argument_word n)) ≡ z = ap int_of is_arg ∙ back.0 in
      let taken = less_number x st.elements (refs_at v m.at.refs) (types_at v m.at.refs) rn'.names z (here.ints i) ((ls.signature f).takes_ints 0) fi.5.1 own_number in
      let number = subst (λ y. NumberStands x (λ o. 0) (λ r. 0) (λ r. nothing) (λ n. pos 0) y ((ls.signature f).takes_ints 0)) (sym value)
      (number_plain x st.elements (λ o. 0) (refs_at v m.at.refs) (λ r. 0) (types_at v m.at.refs) (λ r. nothing) rn'.names (λ n. pos 0) z ((ls.signature f).takes_ints 0) ((wt.plain f).bases 0) ((wt.plain f).names 0) taken) in
      let unset = unset_n x code s ls wt fits few g world st tr may r f (Register.Int i) site is n stage reserves named long m.refs refl in
      let other = args_other x code s ls wt fits few g world st tr may r f (Register.Int i) site is n stage reserves named long m.refs refl in
      let new = args_new x code s ls wt fits few g world st tr may r f (Register.Int i) site is n stage reserves named long m.refs refl in
      let m' = last x code s ls wt fits few g world st tr may r f (Register.Int i) site is n stage reserves named long m.refs refl in
      let words = slice_set g.words (state_word n) 1 in
      let now = made_turn g t words m' in
      let c = conc_of code g in
      let entry : EntryStands (λ r. in_ref world (ArgumentOf n)) (λ r. (world.slots (In (ArgumentOf n))).ty) 0 ((ls.signature f).takes 0) =
      subst (EntryStands (λ r. in_ref world (ArgumentOf n)) (λ r. (world.slots (In (ArgumentOf n))).ty) 0) (sym (start.reference nr)) (st.sim.args n ∙ unset) in
      let regs : (u j : ℕ) → c.regs u j ≡ put (λ u. register_of code (g.threads u)) t (register_of code m') u j = λ u j.
      put_all (λ u (f : ℕ → ℕ). register_of code (g.threads u) j ≡ f j) (λ u. register_of code (g.threads u)) t (register_of code m')
      (register_held code m (spawning_calm m.own.stage spn).hold j ∙ sym (register_held code m' tt j)) (λ u _. refl) u in
      let args : (u : ℕ) → c.args u ≡ argument_of code now u = λ u. ⊎_elim
      (λ (e : u ≡ n). ap (argument_of code g) e ∙ unset ∙ sym (ap (argument_of code now) e ∙ new ∙ ap (λ p. if_reference p (slice_index g.words (argument_word n))) fi.5.0)) (λ (ne : u ≡ n → ⊥). other u ne) (cases_eq u n) in
      let sim = sim_same x s st.cells st.elements (store c (state_word n) 1) world (put (λ u. register_of code (g.threads u)) t (register_of code m')) (argument_of code now) regs args (low_stored x s st.cells st.elements c world (state_word n) 1 (omega arith) st.apart st.sim) in
      let lt : m.at.ints + r < length m.ints = subst (λ b. m.at.ints + r < b) (sym (st.threads t).has.ints) (int_inside x code ls t v m here.function r rn'.below fi.1) in
      let same : (j : ℕ) → j ≢ m.at.ints + r → vals_of m' j ≡ v.vals j = λ j ne. get_or-set_other m.ints (m.at.ints + r) j (pos n) (pos 0) ne in
      let fit : holds Char (pos n) ≡ true = grind (arith, nat_tests) in
      let put_in : holds Char (vals_of m' (m.at.ints + r)) ≡ true = subst (λ y. holds Char y ≡ true) (sym (get_or-set_same m.ints (m.at.ints + r) (pos n) (pos 0) lt)) fit in
      settled x code s ls wt fits few g world st tr may r f (Register.Int i) site is now done
      (last_state x code s ls wt fits few g world st tr may r f (Register.Int i) site is n stage reserves named long m.refs refl world refl refl refl
      (others_stay s world st.heap g.words words t (λ u _ b e j k. most_off n j (λ q. let lo = k.0 in absurd (omega arith)) long))
      (λ u _. refl) entry number st.inv sim rn'.names (set_number here r (Within Char)) refl refl fi.6
      (number_set x t v m.at.refs m.at.ints rn'.names here r (Within Char) (vals_of m') same put_in tp)
      (below_set x code ls t v m m' r (vals_of m') same refl refl refl refl here.function rn'.below)
      (room_of code s g tr may words m' done))
    where
      most_off : (n j : ℕ) → j ≢ state_word n → state_word n < length g.words → slice_index (slice_set g.words (state_word n) 1) j ≡ slice_index g.words j
      most_off n j ne long = index_put g.words (state_word n) 1 long j ∙ put_other (λ i. slice_index g.words i) (state_word n) j 1 ne

  pub Spawn_number_keeps : Turned x code s ls g world tr
  Spawn_number_keeps = Spawn_keeps_but_the_last x code s ls wt fits few g world st tr may r f (Register.Int i) site is int_last

-- ---- a reference is handed over
shared_type : (x : Targets) (refs : ℕ → ℕ) (o : ℕ) (ty : ObjectType) (e : Entry) → IsShared x e → EntryStands (λ r. o) (λ r. ty) 0 e → o ≢ 0 → is_private x ty ≡ false
shared_type x refs o ty Empty sh h nz = absurd (nz h)
shared_type x refs o ty Unknown sh h nz = absurd sh
shared_type x refs o ty (Refers s) sh h nz = ap (is_private x) (h nz) ∙ sh

module _ (x : Targets) (code : Code) (s : Shape) (ls : Labels) (wt : IsWellTyped x code ls) (fits : Fits code s) (few : IsSmall code s) (g : Global Machine) (world : World) (st : State x code s ls g world) (tr : Turn)
    (may : MayTurn bounds (one_thread code s) g tr) (r f q : ℕ) (site : ℕ) (is : instr_at code (g.threads tr.thread).at.pc ≡ Instr.Spawn r f (Register.Reference q) site) where
  open turn_at st tr use {t, m, here, view as v}

  ref_last : LastTurn x code s ls wt fits few g world st tr may r f (Register.Reference q) site is
  ref_last n stage reserves named is_arg done long =
      let spn : is_spawning m.own.stage ≡ true = ap is_spawning stage in
      let rn' = (st.threads tr.thread).runs may.started may.next.runs in
      let fi = fine x code s ls wt fits g world st tr may r f (Register.Reference q) site is spn in
      let still = shut x code s ls wt fits g world st tr may r f (Register.Reference q) site is spn in
      let tp = subst (TopStands x t v m.at.refs m.at.ints rn'.names) (now_here x code s ls wt fits g world st tr may r f (Register.Reference q) site is spn) rn'.top in
      let start = wt.starts f fi.3 in
      let kq = m.at.refs + q in
      let refs = slice_set m.refs kq 0 in
      let lr = length-set m.refs kq 0 in
      let h = world.slots (In (RegisterOf t kq)) in
      let w1 : World = record world { slots = place world.slots (In (RegisterOf t kq)) none } in
      let w2 = shift world (RegisterOf t kq) (ArgumentOf n) in
      let lt_n = reserves.few in
      let inside = ref_inside x code ls t v m here.function q rn'.below fi.5.1 in
      let lt_q : kq < length m.refs = subst (λ b. kq < b) (sym (st.threads t).has.refs) inside in
      let value : ref m q ≡ h.reference = sym (st.sim.regs t kq ∙ register_held code m (spawning_calm m.own.stage spn).hold kq) in
      let unset = unset_n x code s ls wt fits few g world st tr may r f (Register.Reference q) site is n stage reserves named long refs lr in
      let other = args_other x code s ls wt fits few g world st tr may r f (Register.Reference q) site is n stage reserves named long refs lr in
      let new = args_new x code s ls wt fits few g world st tr may r f (Register.Reference q) site is n stage reserves named long refs lr in
      let m' = last x code s ls wt fits few g world st tr may r f (Register.Reference q) site is n stage reserves named long refs lr in
      let words = slice_set g.words (state_word n) 1 in
      let now = made_turn g t words m' in
      let c = store (conc_of code g) (state_word n) 1 in
      let R : ℕ → ℕ → ℕ = λ u. register_of code (g.threads u) in
      let arg : argument_of code now n ≡ h.reference = new ∙ ap (λ p. if_reference p (slice_index g.words (argument_word n))) fi.5.0 ∙ is_arg ∙ value in
      let away : (p : Slot) → (p ≡ In (RegisterOf t kq) → ⊥) → (p ≡ In (ArgumentOf n) → ⊥) → w2.slots p ≡ world.slots p = λ p nr na. place_other w1.slots (In (ArgumentOf n)) p h na ∙ place_other world.slots (In (RegisterOf t kq)) p none nr in
      let arg2 : w2.slots (In (ArgumentOf n)) ≡ h = place_same w1.slots (In (ArgumentOf n)) h in
      let takes = (ls.signature f).takes 0 in
      let at_q : q ≡ q + 0 = omega arith in
      let given : EntryStands (refs_at v m.at.refs) (types_at v m.at.refs) (q + 0) (here.env q) = subst (λ y. EntryStands (refs_at v m.at.refs) (types_at v m.at.refs) y (here.env q)) at_q ((tp (suc q) 0).env q (omega arith)) in
      let passes : Passes here q (q + 0) (here.env q) takes = subst (λ y. Passes here q y (here.env q) takes) at_q fi.5.4 in
      let want : EntryStands (refs_at v kq) (types_at v kq) 0 takes = passed_entry_at x t v m.at.refs m.at.ints rn'.names here tp q 0 (here.env q) takes passes given in
      let z : kq + 0 ≡ kq = omega arith in
      let held : EntryStands (λ r. h.reference) (λ r. h.ty) 0 takes = entry_kept (refs_at v kq) (λ r. h.reference) (types_at v kq) (λ r. h.ty) 0 takes (ap v.refs z) (ap v.types z) (λ p mp. absurd (fi.5.3 p mp)) want in
      let entry : EntryStands (λ r. in_ref w2 (ArgumentOf n)) (λ r. (w2.slots (In (ArgumentOf n))).ty) 0 takes = subst (λ (y : TypedReference). EntryStands (λ r. y.reference) (λ r. y.ty) 0 takes) (sym arg2) held in
      let no_int : (function_of code f).parameter ≢ Parameter.Int = λ e. let y : Parameter.Reference ≡ Parameter.Int = sym fi.5.0 ∙ e in cc in
      let number = subst (NumberStands x (λ o. 0) (λ r. 0) (λ r. nothing) (λ n. pos 0) (int_of (slice_index g.words (argument_word n)))) (sym (start.number no_int)) tt in
      let sim1 = reg_stored x s st.cells st.elements c world (low_stored x s st.cells st.elements (conc_of code g) world (state_word n) 1 (omega arith) st.apart st.sim) st.apart t kq none in
      let sim2 = arg_stored x s st.cells st.elements (set_reg c t kq 0) w1 sim1 n h (argument_of code now) arg (λ u ne. sym (other u ne)) in
      let regs2 : register_of code m' ≡ put (R t) kq 0 = fun_ext (λ j. register_held code m' tt j
      ∙ put_all (λ j y. slice_index refs j ≡ y) (R t) kq 0 (get_or-set_same m.refs kq 0 0 lt_q) (λ j ne. get_or-set_other m.refs kq j 0 0 ne ∙ sym (register_held code m (spawning_calm m.own.stage spn).hold j)) j) in
      let sim = subst (λ f. Shows x s st.cells st.elements (record c { regs = put R t f; args = argument_of code now }) w2) (sym regs2) sim2 in
      let private : h.reference ≢ 0 → is_private x h.ty ≡ true → t ≡ n = λ nz p. let y = shared_type x v.refs h.reference h.ty takes fi.5.5 held nz in absurd (cc) in
      let inv = shift_ok (size_of_run code s) (lang_of x) world st.inv (RegisterOf t kq) (ArgumentOf n) (λ e. cc) (st.begins.few t may.started, inside) lt_n (st.sim.args n ∙ unset) private (free_shut world t kq still) (λ u r _ e. cc) in
      let v1 = filled v kq 0 nothing in
      let ev : view_of st.elements w2 t m ≡ v1 = view_filled st.elements world w1 t kq none m m (λ _. refl) refl refl in
      let top1 = empty_stands x t v m.at.refs m.at.ints rn'.names here q nothing fi.5.2.paths tp in
      let below1 = below_filled x code ls t v m m q 0 nothing refl refl refl refl here.function rn'.below in
      let lt : m.at.ints + r < length m.ints = subst (λ b. m.at.ints + r < b) (sym (st.threads t).has.ints) (int_inside x code ls t v m here.function r rn'.below fi.1) in
      let same : (j : ℕ) → j ≢ m.at.ints + r → vals_of m' j ≡ v.vals j = λ j ne. get_or-set_other m.ints (m.at.ints + r) j (pos n) (pos 0) ne in
      let fit : holds Char (pos n) ≡ true = grind (arith, nat_tests) in
      let put_in : holds Char (vals_of m' (m.at.ints + r)) ≡ true = subst (λ y. holds Char y ≡ true) (sym (get_or-set_same m.ints (m.at.ints + r) (pos n) (pos 0) lt)) fit in
      let k' = set_number (empty here q) r (Within Char) in
      let off : (j : ℕ) → j ≢ state_word n → slice_index words j ≡ slice_index g.words j = λ j ne. index_put g.words (state_word n) 1 long j ∙ put_other (λ i. slice_index g.words i) (state_word n) j 1 ne in (
        w2,
        subst (λ y. State x code s ls y w2) (sym done)
            (last_state x code s ls wt fits few g world st tr may r f (Register.Reference q) site is n stage reserves named long refs lr w2 refl refl refl
            (record {
              regs = λ u ne j. away (In (RegisterOf u j)) (λ e. ne (cc)) (λ e. cc);
              win = λ u _. refl;
              passed = λ u _ o p b _ y. y;
              sole = λ u _ j _ p. loses refl;
              cells = λ u _ j _ i. ap (λ (y : TypedReference). y.reference) (away (CellOf (in_ref world (RegisterOf u j)) i) (λ e. cc) (λ e. cc));
              built = λ u _ b e. (e, refl);
              within = λ u _ b e j k. off j (λ y. let lo = k.0 in absurd (omega arith));
            })
            (λ u ne. away (In (ArgumentOf u)) (λ e. cc) (λ e. ne (cc))) entry number inv sim rn'.names k' refl refl fi.6
            (subst (λ (y : View). TopStands x t (record y { vals = vals_of m' }) m.at.refs m.at.ints rn'.names k') (sym ev) (number_set x t v1 m.at.refs m.at.ints rn'.names (empty here q) r (Within Char) (vals_of m') same put_in top1))
            (subst (λ (y : View). FramesStand x code ls t (record y { vals = vals_of m' }) m' here.function) (sym ev) (below_set x code ls t v1 m m' r (vals_of m') same refl refl refl refl here.function below1))
            (room_of code s g tr may words m' done)),
        Silently (record {
          obj = refl;
          mutex = refl;
          passed = λ o p u b y. y;
          sole = λ u j e. let ne : u ≡ t → ⊥ = λ z. let y : Shut ≡ Sole j = sym still ∙ ap world.win (sym z) ∙ e in cc in (e, ap (λ (y : TypedReference). y.reference) (away (In (RegisterOf u j)) (λ z. ne (cc)) (λ z. cc)));
        }),
      )
    where
      passed_entry_at : (x : Targets) (t : ℕ) (v : View) (base ints : ℕ) (names : ℕ → ℤ) (l : Label) (tp : TopStands x t v base ints names l) (k r : ℕ) (given want : Entry) → Passes l k (k + r) given want
          → EntryStands (refs_at v base) (types_at v base) (k + r) given → EntryStands (refs_at v (base + k)) (types_at v (base + k)) r want
      passed_entry_at x t v base ints names l tp k r given want p h = passed_entry x t v base ints names l tp k 0 r given want p h

  pub Spawn_reference_keeps : Turned x code s ls g world tr
  Spawn_reference_keeps = Spawn_keeps_but_the_last x code s ls wt fits few g world st tr may r f (Register.Reference q) site is ref_last
