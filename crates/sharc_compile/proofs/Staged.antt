-- The statements of several turns, stage by stage.
use Rattle.sharc_compile.proofs.{Imports.{◌≡◌, ℕ, ℤ, zero, suc, pos, ◌+◌, ◌*◌, ◌<◌, ◌≤◌, inl, inr, Bool, true, false, not, ◌||◌, List, [], ◌∷◌, ◌++◌, length, min, refl, sym, ap, ◌∙◌, subst, arith, ◌==◌, nat_lt, Option, Some, None, ne_eqb, eq-eqb, append-nil, nat_eq, nat_le, if◌then◌else◌, Act, SourceEvent, THREADS, lowest_of, NewView, told, next_stage, try_from, after_cell, turn_of_stage, NewArguments, NewStage, Code, Layout, Cell, Register, Instr, Shape, Runs, Stage, Rests, Looks, Clears, Makes, Empties, Lowers, FreeLooks, FreeClears, Uncounts, Links, Names, Hands, Begins, Withdraws, WithdrawsFrom, Leaves, Wakes, Stop, Trapped as Trap, Machine, int, ref, set_int, set_ref, at_stage, rests, trapped, stopped, new_state, new, asks_new, after_new, made, looks, clear, data_granules, fields, largest, free, free_looks, empties, emptied, layout_at, spawn, withdraws, exit, wakes, signal, word, ends, function_of, goes_on_new, after, repeats, clears_cell, fails_in_new, reference, cell_at, mode_of, place_at, event_at, made_cell, argument_of, of_argument, new_event, in_new, in_free, in_spawn, in_exit, in_signal, nobody, own_event, HandedWithin, Program, Thread, Turn, Goes, Running, Leaving, Left, event_of, source_at, statement_at, NULL, program_over, Elements, IsNew, IsNewIn, IsNewAt, Has, elements_told, Same, MatchesThread, IsAtStage, IsInNew, IsGoing, phase_of, phase_at, StopsAt, IsOver, Refuses, spent_at, spent_in_new, by}, Registers.number_is, Sames.{all_ints, all_refs, int_is, ref_is, cell_is, mode_is, set_int_same, set_ref_same, null_same, same_retabled}, Turns.{Turned, event_is, left_at}}
use Rattle.sharc_tree.specs.declared.trap.Trap.TheVariants as traps
use Rattle.sharc_code.specs.{Machine.{elements_of, handed}, Says.number_of}
use Rattle.sharc_guard.specs.Machine as Form

module _ (code : Code) (s : Shape) (statements : List Instr) (T : Elements) (m : Machine) (a : Thread) (cost : ℕ) (one : cost ≤ 1)
    (same : Same code s T m a) (pc : a.pc ≡ m.at.pc)
    (fi fr : ℕ) (int_ok : (r : ℕ) → r < fi → a.ints_from + r < all_ints code) (ref_ok : (r : ℕ) → r < fr → a.refs_from + r < all_refs code) where
  abbrev p : Program
  p = program_over code statements

  abbrev Done : Turn → ℕ → Machine → Option SourceEvent → Type 0
  Done t w m' e = Turned code s statements T m a cost t w m' e

  module _ (i : Instr) (is : statement_at p a.pc ≡ i) where
    -- it stays inside the statement
    stays_in : (t : Turn) (w : ℕ) (m' : Machine) (st : Stage) → m'.own.stage ≡ st → IsAtStage m' i st → m'.at.state ≡ Runs → m'.at.pc ≡ m.at.pc → Same code s T m' a → a.phase ≡ phase_at st
        → cost + spent_at m.own.stage + left_at st ≤ spent_at st + left_at m.own.stage → Done t w m' None
    stays_in t w m' st e at runs here k phase pace = inr (record {
      said = refl;
      stands = inl (record {
        same = k;
        pc_is = pc ∙ sym here;
        stage = subst (IsAtStage m' (statement_at p a.pc)) (sym e) (subst (λ i. IsAtStage m' i st) (sym is) at);
        phase_is = phase ∙ sym (ap (λ x. phase_of x m'.own.stage) runs ∙ ap phase_at e);
        over = subst (λ x. IsOver p a x m'.own.stop) (sym runs) tt;
      });
      pace = let q1 = ap left_at e in let q2 = ap spent_at e in omega arith;
    })

    -- it stops inside
    stops_in : (t : Turn) (w : ℕ) (stop : Stop) → IsAtStage m i m.own.stage → a.phase ≡ phase_at m.own.stage → StopsAt p a stop → Done t w (stopped m stop) None
    stops_in t w stop at phase h = inr (record {
      said = refl;
      stands = inl (record {
        same = same;
        pc_is = pc;
        stage = subst (λ i. IsAtStage (stopped m stop) i m.own.stage) (sym is) (still m.own.stage at);
        phase_is = phase;
        over = h;
      });
      pace = omega arith;
    })
      where
        still : (st : Stage) → IsAtStage m i st → IsAtStage (stopped m stop) i st
        still (Makes state) at = news_still i at
          where
            news_still : (i : Instr) → IsInNew m (Makes state) i → IsInNew (stopped m stop) (Makes state) i
            news_still (Instr.New r count cells site) at = at
            news_still _ at = absurd at
        still _ at = at

  -- the statement is done
  reached : (T' : Elements) (m' : Machine) (b : Thread) → Same code s T' m' b → b.pc ≡ m'.at.pc → b.phase ≡ Running → m'.at.state ≡ Runs → m'.own.stage ≡ Rests → MatchesThread code s p T' m' b
  reached T' m' b k here phase runs rest = inl (record {
    same = k;
    pc_is = here;
    stage = subst (IsAtStage m' (statement_at p b.pc)) (sym rest) tt;
    phase_is = phase ∙ sym (ap (λ x. phase_of x m'.own.stage) runs ∙ ap phase_at rest);
    over = subst (λ x. IsOver p b x m'.own.stop) (sym runs) tt;
  })

  finishes : (w : ℕ) (m' : Machine) (b : Thread) → cost + spent_at m.own.stage ≤ w → Same code s T m' b → b.pc ≡ m'.at.pc → b.events ≡ a.events → b.phase ≡ Running → m'.at.state ≡ Runs → m'.own.stage ≡ Rests → Done (Goes b) w m' None
  finishes w m' b pace k here events phase runs rest = inl (record {
    answer = pos 0;
    go = refl;
    event = None;
    said = refl;
    events = events ∙ sym (append-nil a.events);
    stands = reached (λ n. T n) m' b k here phase runs rest;
    pace = let q1 = ap left_at rest in omega arith;
  })

  tells_in : (w : ℕ) (site : ℕ) (act act' : Act) → act ≡ act' → (answering : ℤ → ℤ) (answer x : ℤ) → answer ≡ answering x → (go : ℤ → Thread → Thread) (m' : Machine)
      → cost + spent_at m.own.stage ≤ w
      → (go x (Form.told a (source_at p site).site act' (answering x))).events ≡ a.events ++ event_of (source_at p site).site act' (answering x) ∷ []
      → Same code s (elements_told (event_at code m site answer act) T) m' (go x (Form.told a (source_at p site).site act' (answering x)))
      → (go x (Form.told a (source_at p site).site act' (answering x))).pc ≡ a.pc + 1 → m'.at.pc ≡ m.at.pc + 1
      → (go x (Form.told a (source_at p site).site act' (answering x))).phase ≡ Running → m'.at.state ≡ Runs → m'.own.stage ≡ Rests
      → Done (Form.asks_at p a site act' answering go) w m' (event_at code m site answer act)
  tells_in w site act act' e answering answer x f go m' pace events k pc1 pc2 phase runs rest = inl (record {
    answer = x;
    go = refl;
    event = Some (event_of (source_at p site).site act' (answering x));
    said = event_is m.own.number (source_at p site).site act act' answer (answering x) e f;
    events = events;
    stands = reached (elements_told (event_at code m site answer act) T) m' (go x (Form.told a (source_at p site).site act' (answering x))) k (pc1 ∙ ap (λ n. n + 1) pc ∙ sym pc2) phase runs rest;
    pace = let q1 = ap left_at rest in omega arith;
  })

  -- ---- Clear
  module _ (r cells : ℕ) (is : statement_at p a.pc ≡ Instr.Clear r cells) (running : a.phase ≡ Running) where
    abbrev ClearTurn : Machine → Type 0
    ClearTurn m' = Done (Form.goes a) 1 m' None

    looked : (done all : ℕ) → cost + spent_at m.own.stage ≤ 1 → left_at m.own.stage ≡ 0 → ClearTurn (looks m done all)
    looked done all pace l = each (nat_lt done all)
      where
        each : (b : Bool) → ClearTurn (if b then at_stage m (Looks done all) else rests m)
        each true = stays_in (Instr.Clear r cells) is _ 1 (at_stage m (Looks done all)) (Looks done all) refl tt refl refl same running (omega arith)
        each false = finishes 1 (rests m) (Form.next a) pace same (ap (λ n. n + 1) pc) refl running refl refl

    pub clears : (st : Stage) → m.own.stage ≡ st → IsAtStage m (Instr.Clear r cells) st → (found : ℕ) → (repeats st found ≡ true → cost ≡ 0) → ClearTurn (after (clear s m (ref m r) cells st) found)
    clears (Looks done all) e at found rep =
        let z = rep refl in
        let q1 = ap spent_at e in
        let q2 = ap left_at e in
        stays_in (Instr.Clear r cells) is _ 1 (at_stage m (Clears done all found)) (Clears done all found) refl tt refl refl same running (omega arith)
    clears (Clears done all seen) e at found rep =
        let z = rep refl in
        let q1 = ap spent_at e in
        looked (done + 1) all (omega arith) (ap left_at e)
    clears Rests e at found rep =
        let q1 = ap spent_at e in
        looked 0 (data_granules found cells) (omega arith) (ap left_at e)
    clears _ e at found rep = absurd at

  -- ---- Spawn
  module _ (r function : ℕ) (from : Register) (site : ℕ) (is : statement_at p a.pc ≡ Instr.Spawn r function from site) (running : a.phase ≡ Running) (lt : r < fi) (within : HandedWithin fr from) where
    abbrev spawning : Turn
    spawning = Form.asks_at p a site (Act.Spawn function (Form.argument a from)) Form.given (λ x b. Form.next (Form.set_int (Form.handed b from) r x))

    argument_is : (from : Register) → argument_of m from (T (of_argument m from)) ≡ Form.argument a from
    argument_is (Register.Int k) = sym (int_is code s T m a same k)
    argument_is (Register.Reference k) = sym (ref_is code s T m a same k).is

    began : (n : ℕ) (from : Register) → HandedWithin fr from → cost + spent_at m.own.stage ≤ 4
        → Done (Form.asks_at p a site (Act.Spawn function (Form.argument a from)) Form.given (λ x b. Form.next (Form.set_int (Form.handed b from) r x))) 4 (rests (set_int (handed m from) r (pos n)))
        (event_at code m site (pos n) (Act.Spawn function (argument_of m from (T (of_argument m from)))))
    began n (Register.Int k) w pace =
        tells_in 4 site (Act.Spawn function (int m k)) (Act.Spawn function (Form.int a k)) (ap (Act.Spawn function) (argument_is (Register.Int k))) Form.given (pos n) (pos n) refl (λ x b. Form.next (Form.set_int b r x)) (rests (set_int m r (pos n)))
        pace refl (set_int_same code s T m a same r (pos n) (pos n) refl (int_ok r lt)) refl refl running refl refl
    began n (Register.Reference k) w pace =
        tells_in 4 site (Act.Spawn function (argument_of m (Register.Reference k) (T (ref m k)))) (Act.Spawn function (Form.ref a k)) (ap (Act.Spawn function) (argument_is (Register.Reference k))) Form.given (pos n) (pos n) refl
        (λ x b. Form.next (Form.set_int (Form.set_ref b k NULL) r x)) (rests (set_int (set_ref m k 0) r (pos n)))
        pace refl (set_int_same code s T (set_ref m k 0) (Form.set_ref a k NULL) (null_same code s T m a same k (ref_ok k w)) r (pos n) (pos n) refl (int_ok r lt)) refl refl running refl refl

    pub spawns : (st : Stage) → m.own.stage ≡ st → IsAtStage m (Instr.Spawn r function from site) st → (found : ℕ)
        → Done spawning 4 (after (spawn m r function from site st) found) (in_spawn code m function from site (T (of_argument m from)) st)
    spawns Rests e at found = each (nat_lt found THREADS)
      where
        each : (b : Bool) → Done spawning 4 (if b then at_stage m (Names found) else trapped m traps.ThreadLimit site) None
        each true =
            let q1 = ap spent_at e in
            let q2 = ap left_at e in
            stays_in (Instr.Spawn r function from site) is spawning 4 (at_stage m (Names found)) (Names found) refl tt refl refl same running (omega arith)
        each false = stops_in (Instr.Spawn r function from site) is spawning 4 (Trap traps.ThreadLimit site) (subst (IsAtStage m (Instr.Spawn r function from site)) (sym e) tt) (running ∙ sym (ap phase_at e)) (inr (subst (λ i. Refuses i traps.ThreadLimit site) (sym is) (refl, refl)))
    spawns (Names n) e at found =
        let q1 = ap spent_at e in
        let q2 = ap left_at e in
        stays_in (Instr.Spawn r function from site) is spawning 4 (at_stage m (Hands n)) (Hands n) refl tt refl refl same running (omega arith)
    spawns (Hands n) e at found =
        let q1 = ap spent_at e in
        let q2 = ap left_at e in
        stays_in (Instr.Spawn r function from site) is spawning 4 (at_stage m (Begins n)) (Begins n) refl tt refl refl same running (omega arith)
    spawns (Begins n) e at found =
        let q1 = ap spent_at e in
        began n from within (omega arith)
    spawns _ e at found = absurd at

  -- ---- CondSignal
  module _ (cell : Cell) (site : ℕ) (is : statement_at p a.pc ≡ Instr.CondSignal cell site) (running : a.phase ≡ Running) where
    abbrev signalling : Turn
    signalling = Form.asks_at p a site (Act.Signal (Form.cell_at p a cell)) Form.given (λ x b. Form.next b)

    signalled : (n : ℕ) → cost + spent_at m.own.stage ≤ 2 → Done signalling 2 (rests m) (event_at code m site (pos n) (Act.Signal (cell_at code m cell)))
    signalled n pace =
        tells_in 2 site (Act.Signal (cell_at code m cell)) (Act.Signal (Form.cell_at p a cell)) (ap Act.Signal (sym (cell_is code s T m a same statements cell))) Form.given (pos n) (pos n) refl (λ x b. Form.next b) (rests m) pace refl same refl refl running refl refl

    seen_now : (found : ℕ) → cost + spent_at m.own.stage ≤ 1 → left_at m.own.stage ≡ 0 → Done signalling 2 (wakes m found) (nobody code m cell site found)
    seen_now zero pace l = signalled 0 (omega arith)
    seen_now (suc n) pace l =
        subst (λ b. Done signalling 2 (if b then rests m else at_stage m (Wakes (suc n))) None) (sym (ne_eqb (suc n) 0 (λ q. omega arith)))
        (stays_in (Instr.CondSignal cell site) is signalling 2 (at_stage m (Wakes (suc n))) (Wakes (suc n)) refl tt refl refl same running (omega arith))

    pub signals : (st : Stage) → m.own.stage ≡ st → IsAtStage m (Instr.CondSignal cell site) st → (found : ℕ) → (repeats st found ≡ true → cost ≡ 0)
        → Done signalling 2 (after (signal m (word s m cell) st) found) (in_signal code m cell site found st)
    signals Rests e at found rep =
        let q1 = ap spent_at e in
        seen_now found (omega arith) (ap left_at e)
    signals (Wakes seen) e at found rep = each (found == seen) rep
      where
        each : (b : Bool) → (not b ≡ true → cost ≡ 0) → Done signalling 2 (if b then rests m else wakes m found) (if b then event_at code m site (pos (lowest_of seen + 1)) (Act.Signal (cell_at code m cell)) else nobody code m cell site found)
        each true rep =
            let q1 = ap spent_at e in
            signalled (lowest_of seen + 1) (omega arith)
        each false rep =
            let z = rep refl in
            let q1 = ap spent_at e in
            seen_now found (omega arith) (ap left_at e)
    signals _ e at found rep = absurd at

  -- ---- Free
  module _ (r layout site : ℕ) (is : statement_at p a.pc ≡ Instr.Free r layout site) (running : a.phase ≡ Running) (lt : r < fr) where
    abbrev freeing : Turn
    freeing = Form.asks_at p a site (Act.Freed (Form.ref a r)) Form.no_answer (λ x b. Form.next (Form.set_ref b r NULL))

    abbrev l : Layout
    l = layout_at code layout

    free_looked : (done elements : ℕ) → cost + spent_at m.own.stage ≤ 1 → left_at m.own.stage ≡ 0 → Done freeing 3 (free_looks m l done elements) None
    free_looked done elements pace q = each (nat_lt done (data_granules elements l.cells))
      where
        each : (b : Bool) → Done freeing 3 (if b then at_stage m (FreeLooks done elements) else at_stage m (Uncounts elements)) None
        each true = stays_in (Instr.Free r layout site) is freeing 3 (at_stage m (FreeLooks done elements)) (FreeLooks done elements) refl tt refl refl same running (omega arith)
        each false = stays_in (Instr.Free r layout site) is freeing 3 (at_stage m (Uncounts elements)) (Uncounts elements) refl tt refl refl same running (omega arith)

    free_empties : (i elements : ℕ) → cost + spent_at m.own.stage ≤ 1 → left_at m.own.stage ≡ 0 → Done freeing 3 (empties m l i elements) None
    free_empties i elements pace q = each (nat_lt i (min (elements * fields l) largest))
      where
        each : (b : Bool) → Done freeing 3 (if b then at_stage m (Empties i elements) else free_looks m l 0 elements) None
        each true = stays_in (Instr.Free r layout site) is freeing 3 (at_stage m (Empties i elements)) (Empties i elements) refl tt refl refl same running (omega arith)
        each false = free_looked 0 elements pace q

    free_emptied : (i elements found : ℕ) → cost + spent_at m.own.stage ≤ 1 → left_at m.own.stage ≡ 0 → Done freeing 3 (emptied m l i elements found) None
    free_emptied i elements zero pace q = free_empties (i + 1) elements pace q
    free_emptied i elements (suc h) pace q = stays_in (Instr.Free r layout site) is freeing 3 (at_stage m (Lowers i elements (suc h))) (Lowers i elements (suc h)) refl tt refl refl same running (omega arith)

    -- the event, after which the block is to be linked
    uncounted : (elements : ℕ) → cost + spent_at m.own.stage ≤ 2 → left_at m.own.stage ≡ 0
        → Done freeing 3 (at_stage m (Links elements)) (event_at code m site (pos 0) (Act.Freed (reference (ref m r) (T (ref m r)))))
    uncounted elements pace q = inl (record {
      answer = pos 0;
      go = refl;
      event = Some (event_of (source_at p site).site (Act.Freed (Form.ref a r)) (pos 0));
      said = event_is m.own.number (source_at p site).site (Act.Freed (reference (ref m r) (T (ref m r)))) (Act.Freed (Form.ref a r)) (pos 0) (pos 0) (ap Act.Freed (sym (ref_is code s T m a same r).is)) refl;
      events = refl;
      stands = inr (record {
        register = r;
        layout = layout;
        site = site;
        elements = elements;
        statement = ap (statement_at p) (sym pc) ∙ is;
        stage = refl;
        same = null_same code s T m a same r (ref_ok r lt);
        pc_is = ap (λ n. n + 1) pc;
        phase_is = running;
        state_is = refl;
      });
      pace = omega arith;
    })

    pub frees : (st : Stage) → m.own.stage ≡ st → IsAtStage m (Instr.Free r layout site) st → (found : ℕ) → (repeats st found ≡ true → cost ≡ 0)
        → Done freeing 3 (after (free code s m r l st) found) (in_free code m r site (T (ref m r)) st)
    frees Rests e at found rep =
        let q1 = ap spent_at e in
        free_empties 0 found (omega arith) (ap left_at e)
    frees (Empties i elements) e at found rep =
        let z = rep refl in
        let q1 = ap spent_at e in
        free_emptied i elements found (omega arith) (ap left_at e)
    frees (Lowers i elements of) e at found rep =
        let z = rep refl in
        let q1 = ap spent_at e in
        free_empties (i + 1) elements (omega arith) (ap left_at e)
    frees (FreeLooks done elements) e at found rep =
        let z = rep refl in
        let q1 = ap spent_at e in
        let q2 = ap left_at e in
        stays_in (Instr.Free r layout site) is freeing 3 (at_stage m (FreeClears done elements found)) (FreeClears done elements found) refl tt refl refl same running (omega arith)
    frees (FreeClears done elements seen) e at found rep =
        let z = rep refl in
        let q1 = ap spent_at e in
        free_looked (done + 1) elements (omega arith) (ap left_at e)
    frees (Uncounts elements) e at found rep =
        let q1 = ap spent_at e in
        uncounted elements (omega arith) (ap left_at e)
    frees _ e at found rep = absurd at

  -- ---- New
  module _ (r count cells site : ℕ) (is : statement_at p a.pc ≡ Instr.New r count cells site) (running : a.phase ≡ Running) (lt : r < fr) where
    abbrev making : Turn
    making = Form.asks_at p a site (Act.New cells (elements_of (Form.int a count)) (Form.object_mode p a site)) Form.given (λ x b. Form.next (Form.set_ref b r x))

    abbrev NewTurned : Machine → Option SourceEvent → Type 0
    NewTurned m' e = Done making 4 m' e

    -- it stays inside, in a stage in which a step is asked for
    goes_on : (state : NewView) (st : NewStage) → state.stage ≡ st → IsGoing st → state.arguments.elements ≡ elements_of (int m count) → left_at m.own.stage ≡ 0 → cost + spent_at m.own.stage ≤ spent_in_new st → NewTurned (at_stage m (Makes state)) None
    goes_on state st e going args q pace =
        let q1 = ap spent_in_new e in
        stays_in (Instr.New r count cells site) is making 4 (at_stage m (Makes state)) (Makes state) refl (args, subst IsGoing (sym e) going) refl refl same running (omega arith)

    full : IsAtStage m (Instr.New r count cells site) m.own.stage → a.phase ≡ phase_at m.own.stage → NewTurned (trapped m traps.HeapFull site) None
    full at phase = stops_in (Instr.New r count cells site) is making 4 (Trap traps.HeapFull site) at phase (inr (subst (λ i. Refuses i traps.HeapFull site) (sym is) (refl, refl)))

    -- the machine after a step, by the stage that comes next
    lands : (state : NewView) (st : NewStage) → state.stage ≡ st → IsGoing st → (st ≡ NewStage.Begins → ⊥) → state.arguments.elements ≡ elements_of (int m count) → left_at m.own.stage ≡ 0
        → ((st ≡ NewStage.Full → ⊥) → cost + spent_at m.own.stage ≤ spent_in_new st)
        → IsAtStage m (Instr.New r count cells site) m.own.stage → a.phase ≡ phase_at m.own.stage → NewTurned (after_new m r site state (turn_of_stage state.arguments st)) None
    lands state NewStage.Begins e going begins args q pace at phase = absurd (begins refl)
    lands state NewStage.Link e going begins args q pace at phase = goes_on state NewStage.Link e tt args q (pace (λ x. absurd (cc)))
    lands state (NewStage.Cell c) e going begins args q pace at phase = goes_on state (NewStage.Cell c) e tt args q (pace (λ x. absurd (cc)))
    lands state NewStage.Top e going begins args q pace at phase = goes_on state NewStage.Top e tt args q (pace (λ x. absurd (cc)))
    lands state (NewStage.Move t u) e going begins args q pace at phase = goes_on state (NewStage.Move t u) e tt args q (pace (λ x. absurd (cc)))
    lands state (NewStage.Count h) e going begins args q pace at phase = goes_on state (NewStage.Count h) e tt args q (pace (λ x. absurd (cc)))
    lands state (NewStage.Length h) e going begins args q pace at phase = goes_on state (NewStage.Length h) e tt args q (pace (λ x. absurd (cc)))
    lands state (NewStage.Made h) e going begins args q pace at phase = absurd going
    lands state NewStage.Full e going begins args q pace at phase = full at phase

    -- the stage after a look at the top
    tried : (state : NewView) (top found : ℕ) → state.stage ≡ try_from state.arguments top → state.arguments.elements ≡ elements_of (int m count) → left_at m.own.stage ≡ 0 → cost + spent_at m.own.stage ≤ 1
        → IsAtStage m (Instr.New r count cells site) m.own.stage → a.phase ≡ phase_at m.own.stage → NewTurned (after_new m r site state (turn_of_stage state.arguments (try_from state.arguments top))) None
    tried state top found e args q pace at phase = each (nat_le (top + state.arguments.block) state.arguments.end) e
      where
        each : (b : Bool) → state.stage ≡ (if b then NewStage.Move top (top + state.arguments.block) else NewStage.Full)
            → NewTurned (after_new m r site state (turn_of_stage state.arguments (if b then NewStage.Move top (top + state.arguments.block) else NewStage.Full))) None
        each true e = lands state (NewStage.Move top (top + state.arguments.block)) e tt (λ x. absurd (cc)) args q (λ f. pace) at phase
        each false e = full at phase

    cleared : (state : NewView) (c : ℕ) → state.stage ≡ after_cell state.arguments c → state.arguments.elements ≡ elements_of (int m count) → left_at m.own.stage ≡ 0 → cost + spent_at m.own.stage ≤ 1
        → IsAtStage m (Instr.New r count cells site) m.own.stage → a.phase ≡ phase_at m.own.stage → NewTurned (after_new m r site state (turn_of_stage state.arguments (after_cell state.arguments c))) None
    cleared state c e args q pace at phase = each (nat_lt (c + 1) state.arguments.cells) e
      where
        each : (b : Bool) → state.stage ≡ (if b then NewStage.Cell (c + 1) else NewStage.Count state.arguments.head)
            → NewTurned (after_new m r site state (turn_of_stage state.arguments (if b then NewStage.Cell (c + 1) else NewStage.Count state.arguments.head))) None
        each true e = lands state (NewStage.Cell (c + 1)) e tt (λ x. absurd (cc)) args q (λ f. pace) at phase
        each false e = lands state (NewStage.Count state.arguments.head) e tt (λ x. absurd (cc)) args q (λ f. omega arith) at phase

    moved : (state : NewView) (top u found : ℕ) → state.stage ≡ (if nat_eq top found then NewStage.Count top else try_from state.arguments found) → state.arguments.elements ≡ elements_of (int m count) → left_at m.own.stage ≡ 0 → spent_at m.own.stage ≡ 1
        → (not (found == top) ≡ true → cost ≡ 0)
        → IsAtStage m (Instr.New r count cells site) m.own.stage → a.phase ≡ phase_at m.own.stage
        → NewTurned (after_new m r site state (turn_of_stage state.arguments (if nat_eq top found then NewStage.Count top else try_from state.arguments found))) None
    moved state top u found e args q sp rep at phase = each (nat_eq top found) refl e
      where
        other : nat_eq top found ≡ false → not (found == top) ≡ true
        other x = ap not (ne_eqb found top (λ k. let y = eq-eqb top found (sym k) in let z : true ≡ false = sym y ∙ x in cc))

        each : (b : Bool) → nat_eq top found ≡ b → state.stage ≡ (if b then NewStage.Count top else try_from state.arguments found)
            → NewTurned (after_new m r site state (turn_of_stage state.arguments (if b then NewStage.Count top else try_from state.arguments found))) None
        each true x e = lands state (NewStage.Count top) e tt (λ x. absurd (cc)) args q (λ f. omega arith) at phase
        each false x e = let z = rep (other x) in tried state found found e args q (omega arith) at phase

    -- the object is made
    made_event : (state : NewView) (header : ℕ) → state.arguments.elements ≡ elements_of (int m count) → IsNew m header → cost + spent_at m.own.stage ≤ 4
        → NewTurned (made m r state header) (event_at code m site (reference header state.arguments.elements) (Act.New cells state.arguments.elements (mode_of code m (made_cell 0 0) (place_at code site).mode)))
    made_event state header args fresh pace =
        let n = state.arguments.elements in
        let T1 : Elements = elements_told (event_at code m site (reference header n) (Act.New cells n (mode_of code m (made_cell 0 0) (place_at code site).mode))) T in
        let num = number_is header n fresh.number in
        let k : Same code s T1 m a = same_retabled code s T m a same T1 (λ i some has. untouched n header i num (λ e. fresh.fresh (subst (λ i. 0 < i) (sym e) some) (subst (Has m) (sym e) has))) in
        tells_in 4 site (Act.New cells n (mode_of code m (made_cell 0 0) (place_at code site).mode)) (Act.New cells (elements_of (Form.int a count)) (Form.object_mode p a site))
        (act_same n args) Form.given (reference header n) (reference header n) refl (λ x b. Form.next (Form.set_ref b r x)) (made m r state header) pace refl
        (set_ref_same code s T1 m a k r header (reference header n) (record { is = of_new header n num; small = fresh.number }) (ref_ok r lt)) refl refl running refl refl
      where
        act_same : (n : ℕ) → n ≡ elements_of (int m count)
            → Act.New cells n (mode_of code m (made_cell 0 0) (place_at code site).mode) ≡ Act.New cells (elements_of (Form.int a count)) (Form.object_mode p a site)
        act_same n e =
            ap (λ n. Act.New cells n (mode_of code m (made_cell 0 0) (place_at code site).mode)) (e ∙ ap elements_of (sym (int_is code s T m a same count)))
            ∙ ap (Act.New cells (elements_of (Form.int a count))) (sym (mode_is code s T m a same statements (made_cell 0 0) (place_at code site).mode))

        -- another object has the elements that it had
        untouched : (n header i : ℕ) → number_of (reference header n) ≡ header → (header ≡ i → ⊥) → (if number_of (reference header n) == i then n else T i) ≡ T i
        untouched n header i e ne = rw (e, ne_eqb header i ne) refl

        of_new : (header n : ℕ) → number_of (reference header n) ≡ header → reference header n ≡ reference header (if number_of (reference header n) == header then n else T header)
        of_new header n e = rw (e, eq-eqb header header refl) refl

    -- the turns of a stage that are left out
    abbrev leaves_out : NewArguments → ℕ → NewStage → Bool
    leaves_out args found st = clears_cell st || fails_in_new (turn_of_stage args st) found

    -- one turn, by the stage in which the New is
    makes : (state : NewView) (st : NewStage) → state.stage ≡ st → IsGoing st → state.arguments.elements ≡ elements_of (int m count) → (found : ℕ) → spent_at m.own.stage ≡ spent_in_new st → left_at m.own.stage ≡ 0
        → IsNewIn m st → (leaves_out state.arguments found st ≡ true → cost ≡ 0)
        → IsAtStage m (Instr.New r count cells site) m.own.stage → a.phase ≡ phase_at m.own.stage
        → NewTurned (after (asks_new m r site state (turn_of_stage state.arguments st)) found) (new_event code m site cells state st)
    makes state st e going args found sp q fresh rep at phase = by_stage st e going sp fresh rep
      where
        go : (st2 : NewStage) → (told state found).stage ≡ st2 → NewTurned (after_new m r site (told state found) (turn_of_stage state.arguments st2)) None → NewTurned (goes_on_new m r site (told state found)) None
        go st2 e h = subst (λ st. NewTurned (after_new m r site (told state found) (turn_of_stage state.arguments st)) None) (sym e) h

        next_is : (st : NewStage) → state.stage ≡ st → (told state found).stage ≡ next_stage state.arguments st found
        next_is st e = ap (λ st. next_stage state.arguments st found) e

        by_stage : (st : NewStage) → state.stage ≡ st → IsGoing st → spent_at m.own.stage ≡ spent_in_new st → IsNewIn m st → (leaves_out state.arguments found st ≡ true → cost ≡ 0)
            → NewTurned (after (asks_new m r site state (turn_of_stage state.arguments st)) found) (new_event code m site cells state st)
        by_stage NewStage.Begins e going sp fresh rep = full at phase
        by_stage NewStage.Link e going sp fresh rep = go (NewStage.Cell 0) (next_is NewStage.Link e) (lands (told state found) (NewStage.Cell 0) (next_is NewStage.Link e) tt (λ x. absurd (cc)) args q (λ f. omega arith) at phase)
        by_stage (NewStage.Cell c) e going sp fresh rep =
            let z = rep refl in
            go (after_cell state.arguments c) (next_is (NewStage.Cell c) e) (cleared (told state found) c (next_is (NewStage.Cell c) e) args q (omega arith) at phase)
        by_stage NewStage.Top e going sp fresh rep = go (try_from state.arguments found) (next_is NewStage.Top e) (tried (told state found) found found (next_is NewStage.Top e) args q (omega arith) at phase)
        by_stage (NewStage.Move t u) e going sp fresh rep =
            go (if nat_eq t found then NewStage.Count t else try_from state.arguments found) (next_is (NewStage.Move t u) e) (moved (told state found) t u found (next_is (NewStage.Move t u) e) args q sp rep at phase)
        by_stage (NewStage.Count h) e going sp fresh rep = go (NewStage.Length h) (next_is (NewStage.Count h) e) (lands (told state found) (NewStage.Length h) (next_is (NewStage.Count h) e) tt (λ x. absurd (cc)) args q (λ f. omega arith) at phase)
        by_stage (NewStage.Length h) e going sp fresh rep =
            subst (λ st. NewTurned (after_new m r site (told state found) (turn_of_stage state.arguments st)) (new_event code m site cells state (NewStage.Length h))) (sym (next_is (NewStage.Length h) e))
            (made_event (told state found) h args fresh (omega arith))
        by_stage (NewStage.Made h) e going sp fresh rep = absurd going
        by_stage NewStage.Full e going sp fresh rep = full at phase

    pub makes_new : (st : Stage) → m.own.stage ≡ st → IsAtStage m (Instr.New r count cells site) st → (found : ℕ) → IsNewAt m st → (repeats st found ≡ true → cost ≡ 0)
        → NewTurned (after (new s m r (elements_of (int m count)) cells site st) found) (in_new code m site cells st)
    makes_new Rests e at found fresh rep =
        each (nat_eq (new_state s m (elements_of (int m count)) cells).arguments.head 0) refl
      where
        state : NewView
        state = told (new_state s m (elements_of (int m count)) cells) 0

        here : IsAtStage m (Instr.New r count cells site) m.own.stage
        here = subst (IsAtStage m (Instr.New r count cells site)) (sym e) tt

        each : (b : Bool) → nat_eq (new_state s m (elements_of (int m count)) cells).arguments.head 0 ≡ b
            → NewTurned (after (asks_new m r site (told (new_state s m (elements_of (int m count)) cells) 0) (turn_of_stage (new_state s m (elements_of (int m count)) cells).arguments (if b then NewStage.Top else NewStage.Link))) found) None
        each true x = makes (told (new_state s m (elements_of (int m count)) cells) 0) NewStage.Top (ap (λ b. if b then NewStage.Top else NewStage.Link) x) tt refl found (ap spent_at e) (ap left_at e) tt (λ z. absurd (cc)) here (running ∙ sym (ap phase_at e))
        each false x = makes (told (new_state s m (elements_of (int m count)) cells) 0) NewStage.Link (ap (λ b. if b then NewStage.Top else NewStage.Link) x) tt refl found (ap spent_at e) (ap left_at e) tt (λ z. absurd (cc)) here (running ∙ sym (ap phase_at e))
    makes_new (Makes state) e at found fresh rep =
        makes state state.stage refl at.1 at.0 found (ap spent_at e) (ap left_at e) fresh rep (subst (IsAtStage m (Instr.New r count cells site)) (sym e) at) (running ∙ sym (ap phase_at e))
    makes_new _ e at found fresh rep = absurd at

  -- ---- Exit
  module _ (is : statement_at p a.pc ≡ Instr.Exit) where
    abbrev Leaving_now : Machine → Type 0
    Leaving_now m' = Done (Form.exit p a Leaving) 1 m' None

    withdrawn : (row : ℕ) → a.phase ≡ Leaving → cost ≡ 0 → spent_at m.own.stage ≡ 0 → left_at m.own.stage ≡ 0 → (t : Turn) → Done t 1 (withdraws m row) None
    withdrawn row phase z q1 q2 t = each (nat_lt row (length m.own.table.order))
      where
        each : (b : Bool) → Done t 1 (if b then at_stage m (Withdraws row) else at_stage m Leaves) None
        each true = stays_in Instr.Exit is t 1 (at_stage m (Withdraws row)) (Withdraws row) refl tt refl refl same phase (omega arith)
        each false = stays_in Instr.Exit is t 1 (at_stage m Leaves) Leaves refl tt refl refl same phase (omega arith)

    site_is : (Form.function_at p a.function).site ≡ (function_of code m.own.function).site
    site_is = ap (λ f. (Form.function_at p f).site) same.function_is

    own_said : (act : Act) → own_event code m act ≡ Some (by m.own.number (event_of (Form.function_at p a.function).site act (pos 0)))
    own_said act = ap (λ site. Some record { thread = m.own.number; site = site; answer = pos 0; act = act }) (sym site_is)

    -- Return
    returned : m.own.stage ≡ Rests → Done (Form.exit p a Running) 1 (withdraws m 0) (own_event code m Act.Return)
    returned e = each (nat_lt 0 (length m.own.table.order))
      where
        gone : (m' : Machine) (st : Stage) → m'.own.stage ≡ st → IsAtStage m' Instr.Exit st → phase_at st ≡ Leaving → spent_at st ≡ 0 → left_at st ≡ 0 → m'.at.state ≡ Runs → m'.at.pc ≡ m.at.pc → Same code s T m' a → Done (Form.exit p a Running) 1 m' (own_event code m Act.Return)
        gone m' st e' at phase q3 q4 runs here k = inl (record {
          answer = pos 0;
          go = refl;
          event = Some (event_of (Form.function_at p a.function).site Act.Return (pos 0));
          said = own_said Act.Return;
          events = refl;
          stands = inl (record {
            same = k;
            pc_is = pc ∙ sym here;
            stage = subst (IsAtStage m' (statement_at p a.pc)) (sym e') (subst (λ i. IsAtStage m' i st) (sym is) at);
            phase_is = sym (ap (λ x. phase_of x m'.own.stage) runs ∙ ap phase_at e' ∙ phase);
            over = subst (λ x. IsOver p (record (Form.told a (Form.function_at p a.function).site Act.Return (pos 0)) { phase = Leaving }) x m'.own.stop) (sym runs) tt;
          });
          pace = let q1 = ap spent_at e in let q2 = ap spent_at e' ∙ q3 in let q5 = ap left_at e' ∙ q4 in omega arith;
        })

        each : (b : Bool) → Done (Form.exit p a Running) 1 (if b then at_stage m (Withdraws 0) else at_stage m Leaves) (own_event code m Act.Return)
        each true = gone (at_stage m (Withdraws 0)) (Withdraws 0) refl tt refl refl refl refl refl same
        each false = gone (at_stage m Leaves) Leaves refl tt refl refl refl refl refl same

    -- Gone
    left_now : m.own.stage ≡ Leaves → Done (Form.exit p a Leaving) 1 (record m { at = ends m.at; own = record m.own { stage = Rests } }) (own_event code m Act.Gone)
    left_now e = inl (record {
      answer = pos 0;
      go = refl;
      event = Some (event_of (Form.function_at p a.function).site Act.Gone (pos 0));
      said = own_said Act.Gone;
      events = refl;
      stands = inl (record {
        same = same;
        pc_is = pc;
        stage = tt;
        phase_is = refl;
        over = ap (λ i. Form.step p i (record (Form.told a (Form.function_at p a.function).site Act.Gone (pos 0)) { phase = Left })) is;
      });
      pace = let q1 = ap spent_at e in omega arith;
    })

    pub exits : (st : Stage) → m.own.stage ≡ st → IsAtStage m Instr.Exit st → a.phase ≡ phase_at st → (found : ℕ) → (repeats st found ≡ true → cost ≡ 0)
        → Done (Form.exit p a (phase_at st)) 1 (after (exit s m st) found) (in_exit code m st)
    exits Rests e at phase found rep = returned e
    exits (Withdraws row) e at phase found rep =
        let z = rep refl in
        let q1 = ap spent_at e in
        let q2 = ap left_at e in
        stays_in Instr.Exit is _ 1 (at_stage m (WithdrawsFrom row found)) (WithdrawsFrom row found) refl tt refl refl same phase (omega arith)
    exits (WithdrawsFrom row seen) e at phase found rep = each (found == seen)
      where
        each : (b : Bool) → Done (Form.exit p a Leaving) 1 (if b then withdraws m (row + 1) else at_stage m (WithdrawsFrom row found)) None
        each true = withdrawn (row + 1) phase (rep refl) (ap spent_at e) (ap left_at e) _
        each false =
            let z = rep refl in
            let q1 = ap spent_at e in
            let q2 = ap left_at e in
            stays_in Instr.Exit is _ 1 (at_stage m (WithdrawsFrom row found)) (WithdrawsFrom row found) refl tt refl refl same phase (omega arith)
    exits Leaves e at phase found rep = left_now e
    exits _ e at phase found rep = absurd at
