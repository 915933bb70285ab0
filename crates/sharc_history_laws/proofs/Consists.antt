-- The path of each thread of each run of typed code is consistent.
use Rattle.sharc_history_laws.proofs.{Imports.{◌≡◌, ℕ, zero, suc, ◌+◌, ◌*◌, ◌^◌, ◌<◌, ◌≤◌, ◌≢◌, inl, Bool, true, false, cond, length, List, [], ◌∷◌, Option, Some, None, if◌then◌else◌, refl, sym, ap, ◌∙◌, subst, ⊎_elim, arith, eqb-true, cases_eq, le-leb, lt-leb, not_false, length-map, slice_index, nat_lt, ◌==◌, WordOp, WordStep, WordEvent, word_after, words_after_step, SourceEvent, NewView, word_number, turn_of_stage, NewArguments, NewStage, Code, Instr, Shape, Stage, Rests, Makes, Links, RunLaws, Fits, granules, first_cell, Machine, instr_at, ref, act, asks_new, elements_of, int, new_state, opening_words, begun, machine_after, turn, asked_by, may_go, Said, Turn, Global, IsRun, MayTurn, at, after_turn, words_now, state_now, result_of, turns_of, with_told, opening_of, Answered, one_thread, bounds, place_after, Erase, speaks_of, elements_in, Elements, elements_told, said_now, Has, IsConsistent, IsConsistentTurn, founds_of, told_in, table_of, elements_before, Targets, Gate, Loaded, HoldsLoaded, Labels, IsWellTyped, Fine, RegisterOf, In, CellOf, Base, IsLoaded, World, ObjectState, WinOk, in_ref, base_of, has_returned, length_at, lang_of, is_freed, Built, Live, first_world, Effect, changes_objects, objects_now, State, IsSmall, StageStands, GateStands, StopStands, BuildsAt, OnHold, base_of_cell, number_in, IsOn, WasLoaded, Keeps, CodeBegins, CellsAreThere, PointersAreThere, ne_eq, eq_refl, is_below, set_here, single, put_all}, TurnAt.{turn_at, told_at}, Gates.{LoadedStands, loaded_still, links_still, takes_loaded, unloaded}, Single.rests_hold, Stands.{live_slot, granules_low, gate, sole_ref, live_ref}, Tables.{header_at, header_in, header_of, elements_in_stage, told_other, told_made, was_live, length_kept}, Writes.writes, Finds.finds}
use Rattle.sharc_code.specs.Runs.{step_of, state_after}

-- ---- what a turn found
pub found_is : (words : List ℕ) (event : Option WordEvent) (step : WordStep) → step_of event ≡ Some step → Answered words event → result_of event ≡ slice_index words step.word
found_is words None step q a = absurd (let f : None ≡ Some step = q in cc)
found_is words (Some e) step q a = let same : e.step ≡ step = cc in a.result_is ∙ ap (λ (y : WordStep). slice_index words y.word) same

pub after_set : (words : List ℕ) (event : Option WordEvent) (step : WordStep) → step_of event ≡ Some step → Answered words event → slice_index (words_now words event) step.word ≡ word_after step.op (slice_index words step.word)
after_set words None step q a = absurd (let f : None ≡ Some step = q in cc)
after_set words (Some e) step q a =
    let same : e.step ≡ step = cc in
    subst (λ (x : WordStep). slice_index (words_after_step words e.step) x.word ≡ word_after x.op (slice_index words x.word)) same
    (set_here words e.step.word (word_after e.step.op (slice_index words e.step.word)) a.on_a_word)

pub quiet_is : (event : Option WordEvent) → step_of event ≡ None → result_of event ≡ 0
quiet_is None q = refl
quiet_is (Some e) q = absurd (cc)

-- ---- paths and their elements
module _ (code : Code) (s : Shape) where
  -- what a path says does not hang on elements behind its last turn
  agree : (m : Machine) (E F : ℕ → Elements) (fs : List ℕ) → ((k : ℕ) → k ≤ length fs → F k ≡ E k) → IsConsistent code s m E fs → IsConsistent code s m F fs
  agree m E F [] same h = tt
  agree m E F (found ∷ earlier) same h = (
    agree m E F earlier (λ k le. same k (omega arith)) h.0,
    subst (λ (later : Elements). IsConsistentTurn code s (F (length earlier)) later (machine_after code s m earlier) found) (sym (same (length earlier + 1) (omega arith)))
        (subst (λ (T : Elements). IsConsistentTurn code s T (E (length earlier + 1)) (machine_after code s m earlier) found) (sym (same (length earlier) (omega arith))) h.1),
  )

  -- and the last ones may change where no reference of the thread is concerned
  relast : (m : Machine) (E F : ℕ → Elements) (fs : List ℕ) → ((k : ℕ) → k < length fs → F k ≡ E k) → ((n : ℕ) → 0 < n → Has (machine_after code s m fs) n → F (length fs) n ≡ E (length fs) n)
      → IsConsistent code s m E fs → IsConsistent code s m F fs
  relast m E F [] same last h = tt
  relast m E F (found ∷ earlier) same last h =
      let now = machine_after code s m earlier in
      let l : length earlier + 1 ≡ length (found ∷ earlier) = omega arith in
      let T : F (length earlier) ≡ E (length earlier) = same (length earlier) (omega arith) in (
        agree m E F earlier (λ k le. same k (omega arith)) h.0,
        record {
          finds = subst (λ (T : Elements). Rattle.sharc_compile.specs.Consistent.MayFind code s T now found (instr_at code now.at.pc)) (sym T) h.1.finds;
          quiet = h.1.quiet;
          kept = λ n some has.
              ap (λ k. F k n) l ∙ last n some has ∙ ap (λ k. E k n) (sym l) ∙ h.1.kept n some has ∙ ap (λ (T : Elements). elements_told (said_now code T now found) T n) (sym T);
        },
      )

  state_is : (m : Machine) (turns : List Turn) → state_after (one_thread code s) m turns ≡ machine_after code s m (founds_of turns)
  state_is m [] = refl
  state_is m (x ∷ earlier) = ap (λ n. (one_thread code s).goes n (result_of x.event)) (state_is m earlier)

  now_is : (t : ℕ) (run : List Turn) → elements_before code s t run (length (turns_of t run)) ≡ table_of code s run
  now_is t [] = refl
  now_is t (x ∷ earlier) = ap (λ b. if b then table_of code s (x ∷ earlier) else elements_before code s t earlier (length (turns_of t (x ∷ earlier)))) (le-leb (length (turns_of t (x ∷ earlier))) (length (turns_of t (x ∷ earlier))) (omega arith))

  before_is : (t : ℕ) (x : Turn) (earlier : List Turn) (k : ℕ) → k < length (turns_of t (x ∷ earlier)) → elements_before code s t (x ∷ earlier) k ≡ elements_before code s t earlier k
  before_is t x earlier k lt = ap (λ b. if b then table_of code s (x ∷ earlier) else elements_before code s t earlier k) (lt-leb (length (turns_of t (x ∷ earlier))) k lt)

  -- the elements behind a turn
  push : (t : ℕ) (e : Option SourceEvent) (es : List (Said SourceEvent)) (n : ℕ) → elements_in (told_in (with_told t e es)) n ≡ elements_told e (λ n. elements_in (told_in es) n) n
  push t None es n = refl
  push t (Some e) es n = refl

  table_now : (x : Turn) (earlier : List Turn) (n : ℕ) → table_of code s (x ∷ earlier) n
      ≡ elements_told (said_now code (table_of code s earlier) ((place_after code s earlier).threads x.thread) (result_of x.event)) (table_of code s earlier) n
  table_now x earlier n = push x.thread (said_now code (table_of code s earlier) ((place_after code s earlier).threads x.thread) (result_of x.event)) (Erase code s earlier) n

-- ---- places
pub record Consists (x : Targets) (code : Code) (s : Shape) (ls : Labels) (run : List Turn) : Type 0 where
  pub world : World
  pub state : State x code s ls (place_after code s run) world
  pub table : (o : ℕ) → o ≢ 0 → (world.obj o).live ≡ true → table_of code s run o ≡ slice_index (place_after code s run).words (length_at s o)
  pub loaded : (t : ℕ) → LoadedStands ls ((place_after code s run).threads t)
  pub links : (t e : ℕ) → ((place_after code s run).threads t).own.stage ≡ Links e → may_go ((place_after code s run).threads t).at.state ≡ true
  pub paths : (t : ℕ) → IsConsistent code s (begun code s t) (elements_before code s t run) (founds_of (turns_of t run))

takes_single : (i : Instr) → takes_loaded i ≡ true → single i ≡ true
takes_single (Instr.ChkLockLoaded site) e = cc
takes_single _ e = cc

module _ (x : Targets) (code : Code) (s : Shape) (ls : Labels) (wt : IsWellTyped x code ls) (fits : Fits code s) (g : Global Machine) (world : World) (st : State x code s ls g world) where
  -- a thread that was not started has made no turn
  started_of : (u : ℕ) → (g.started u ≡ false → ⊥) → g.started u ≡ true
  started_of u h = not_false (g.started u) h

  pub live_not_built : (n t : ℕ) → n ≢ 0 → (world.obj n).live ≡ true → st.heap.state n ≡ Built t → ⊥
  live_not_built n t nz live built = let e : Built t ≡ Live = sym built ∙ (st.heap_stands.live n nz).0 live in cc

  -- ---- an object that thread t builds is referred to by no other thread
  module _ (t n : ℕ) (nz : n ≢ 0) (built : st.heap.state n ≡ Built t) (u : ℕ) (ne : u ≡ t → ⊥) where
    -- by no register
    in_free : (b : Bool) (i : ℕ) → is_freed (instr_at code (g.threads u).at.pc) (g.threads u).own.stage (g.threads u).at.refs i ≡ b → ((e : ℕ) → (g.threads u).own.stage ≡ Links e → may_go (g.threads u).at.state ≡ true)
        → slice_index (g.threads u).refs i ≡ n → ⊥
    in_free false i e links h =
        let r : in_ref world (RegisterOf u i) ≡ n = st.sim.regs u i ∙ ap (λ b. cond b 0 (slice_index (g.threads u).refs i)) e ∙ h in
        live_not_built n t nz (subst (λ o. (world.obj o).live ≡ true) r (live_slot x code s ls wt fits g world st (In (RegisterOf u i)) (λ z. nz (sym r ∙ z)))) built
    in_free true i e links h = by (instr_at code (g.threads u).at.pc) refl (g.threads u).own.stage refl e
      where
        by : (j : Instr) → instr_at code (g.threads u).at.pc ≡ j → (stage : Stage) → (g.threads u).own.stage ≡ stage → is_freed j stage (g.threads u).at.refs i ≡ true → ⊥
        by (Instr.Free r layout site) is (Links all) at freed =
            let same : i ≡ (g.threads u).at.refs + r = eqb-true i ((g.threads u).at.refs + r) freed in
            let go = links all at in
            let on : g.started u ≡ true = started_of u (λ off. let w = (st.threads u).waits off in let q : Rests ≡ Links all = sym (ap (λ (y : Machine). y.own.stage) w) ∙ at in cc) in
            let rn = (st.threads u).runs on go in
            let stands = subst (λ j. StageStands code s st.elements world st.heap g.words u (g.threads u) j (Links all)) is (subst (λ y. StageStands code s st.elements world st.heap g.words u (g.threads u) (instr_at code (g.threads u).at.pc) y) at rn.stage) in
            let mine : st.heap.state (ref (g.threads u) r) ≡ Built u = stands.0 in
            let q : ref (g.threads u) r ≡ n = ap (λ k. slice_index (g.threads u).refs k) (sym same) ∙ h in
            let both : Built u ≡ Built t = sym mine ∙ ap st.heap.state q ∙ built in
            ne (let f : u ≡ t = cc in f)
        by (Instr.Free r layout site) is _ at freed = absurd (let f : false ≡ true = freed in cc)
        by _ is stage at freed = absurd (let f : false ≡ true = freed in cc)

    -- the window of what was loaded
    window_of : (gate : Gate) → GateStands s world u (g.threads u) gate → WasLoaded gate → (b : Base) × (j : ℕ) × (world.win u ≡ IsLoaded b j (g.threads u).pending)
    window_of (Loaded c) h was = (base_of_cell (g.threads u) c, number_in (g.threads u) c, h)
    window_of (HoldsLoaded c) h was = (base_of_cell (g.threads u) c, number_in (g.threads u) c, h.0)
    window_of _ h was = absurd was

    stop_window : (gate : Gate) → StopStands world u (g.threads u) gate → WasLoaded gate → (b : Base) × (j : ℕ) × (world.win u ≡ IsLoaded b j (g.threads u).pending)
    stop_window (Loaded c) h was = (base_of_cell (g.threads u) c, number_in (g.threads u) c, h)
    stop_window (HoldsLoaded c) h was = (base_of_cell (g.threads u) c, number_in (g.threads u) c, h)
    stop_window _ h was = absurd was

    going_window : (on : IsOn g u) → WasLoaded (ls.at (g.threads u).at.pc).gate → (b : Base) × (j : ℕ) × (world.win u ≡ IsLoaded b j (g.threads u).pending)
    going_window on was =
        let i = instr_at code (g.threads u).at.pc in
        let takes : takes_loaded i ≡ true = not_false (takes_loaded i) (λ e. unloaded x code ls (g.threads u).at.pc (ls.at (g.threads u).at.pc) i e (wt.fine (g.threads u).at.pc) was) in
        let hold : OnHold (g.threads u).own.stage = rests_hold code s st.elements world st.heap g.words u (g.threads u) i (g.threads u).own.stage (takes_single i takes) ((st.threads u).runs on.0 on.1).stage in
        window_of (ls.at (g.threads u).at.pc).gate (gate x code s ls wt fits g world st u on hold) was

    loaded_window : g.started u ≡ true → WasLoaded (ls.at (g.threads u).at.pc).gate → (b : Base) × (j : ℕ) × (world.win u ≡ IsLoaded b j (g.threads u).pending)
    loaded_window started was = elim (may_go (g.threads u).at.state) as (λ b. may_go (g.threads u).at.state ≡ b → (b : Base) × (j : ℕ) × (world.win u ≡ IsLoaded b j (g.threads u).pending)) [
      | true ↦ λ go. going_window (started, go) was
      | false ↦ λ stop. stop_window (ls.at (g.threads u).at.pc).gate ((st.threads u).stopped stop) was
    ] refl

    -- nor was it loaded
    in_loaded : LoadedStands ls (g.threads u) → (g.threads u).pending ≡ n → ⊥
    in_loaded pend h = ⊎_elim
        (λ (z : (g.threads u).pending ≡ 0). nz (sym h ∙ z))
        (λ was.
        let started : g.started u ≡ true = started_of u (λ off. let w = (st.threads u).waits off in let q : (g.threads u).pending ≡ 0 = ap (λ (y : Machine). y.pending) w in nz (sym h ∙ q)) in
        let w = loaded_window started was in
        let ok : WinOk (lang_of x) world u (IsLoaded w.0 w.1 (g.threads u).pending) = subst (WinOk (lang_of x) world u) w.2 (st.inv.wins u) in
        let slot : (world.slots (CellOf (base_of world u w.0) w.1)).reference ≡ n = ok.1 ∙ h in
        live_not_built n t nz (subst (λ o. (world.obj o).live ≡ true) slot (live_slot x code s ls wt fits g world st (CellOf (base_of world u w.0) w.1) (λ z. nz (sym slot ∙ z)))) built)
        pend

    pub has_none : LoadedStands ls (g.threads u) → ((e : ℕ) → (g.threads u).own.stage ≡ Links e → may_go (g.threads u).at.state ≡ true) → Has (g.threads u) n → ⊥
    has_none pend links has = ⊎_elim
        (λ (z : (i : ℕ) × (slice_index (g.threads u).refs i ≡ n)). elim (is_freed (instr_at code (g.threads u).at.pc) (g.threads u).own.stage (g.threads u).at.refs z.0) as (λ b. is_freed (instr_at code (g.threads u).at.pc) (g.threads u).own.stage (g.threads u).at.refs z.0 ≡ b → ⊥) [
          | true ↦ λ e. in_free true z.0 e links z.1
          | false ↦ λ e. in_free false z.0 e links z.1
        ] refl)
        (λ (z : (g.threads u).pending ≡ n). in_loaded pend z)
        has

  -- ---- the object that a turn makes
  header_new : (t : ℕ) (stage : Stage) (r count cells site h : ℕ) → StageStands code s st.elements world st.heap g.words t (g.threads t) (Instr.New r count cells site) stage → header_in stage ≡ Some h → st.heap.state h ≡ Built t
  header_new t (Makes v) r count cells site h stands e = at_stage v.stage stands.1 e
    where
      at_stage : (y : NewStage) → BuildsAt g.words st.heap t v y → header_at y ≡ Some h → st.heap.state h ≡ Built t
      at_stage (NewStage.Length header) b e = let same : header ≡ h = cc in subst (λ k. st.heap.state k ≡ Built t) same b.1
      at_stage _ b e = absurd (cc)
  header_new t _ r count cells site h stands e = absurd (cc)

  pub header_built : (t : ℕ) → IsOn g t → (h : ℕ) → header_of (instr_at code (g.threads t).at.pc) (g.threads t).own.stage ≡ Some h → st.heap.state h ≡ Built t
  header_built t on h e = by (instr_at code (g.threads t).at.pc) refl e
    where
      by : (i : Instr) → instr_at code (g.threads t).at.pc ≡ i → header_of i (g.threads t).own.stage ≡ Some h → st.heap.state h ≡ Built t
      by (Instr.New r count cells site) is q = header_new t (g.threads t).own.stage r count cells site h (subst (λ i. StageStands code s st.elements world st.heap g.words t (g.threads t) i (g.threads t).own.stage) is ((st.threads t).runs on.0 on.1).stage) q
      by _ is q = absurd (cc)

  pub built_low : (h t : ℕ) → st.heap.state h ≡ Built t → (h < granules s) × (h < 2 ^ 32)
  built_low h t built =
      let nz : st.heap.size h ≢ 0 = λ z. let e = st.heap_stands.kept.blocks.known h z in let f : Built t ≡ Rattle.sharc_invariant.specs.Blocks.Unused = sym built ∙ e in cc in
      let w = st.heap_stands.kept.blocks.within h nz in
      let top' = st.heap_stands.within in
      let lt = some_low h (st.heap.size h) nz (omega arith) in
      let few = granules_low x code s ls wt fits g world st in
      (lt, omega arith)
    where
      some_low : (b n : ℕ) → n ≢ 0 → b + n ≤ granules s → b < granules s
      some_low b zero nz le = absurd (nz refl)
      some_low b (suc n) nz le = omega arith

-- ---- one turn
module _ (laws : RunLaws) (keeps : Keeps) (cells : CellsAreThere) (pointers : PointersAreThere) (x : Targets) (code : Code) (s : Shape) (ls : Labels) (wt : IsWellTyped x code ls) (fits : Fits code s) (few : IsSmall code s)
    (one : Turn) (earlier : List Turn) (h : Consists x code s ls earlier) (may : MayTurn bounds (one_thread code s) (place_after code s earlier) one) where
  open turn_at code s (place_after code s earlier) one use {g, t, m, i, found}
  open told_at code s earlier one use {T, T'}

  on : IsOn (place_after code s earlier) one.thread
  on = (may.started, may.next.runs)

  pub headed : (n : ℕ) → n ≢ 0 → header_of i ((place_after code s earlier).threads one.thread).own.stage ≡ Some n → h.state.heap.state n ≡ Built one.thread
  headed n nz e = header_built x code s ls wt fits g h.world h.state t on n e

  -- a number of elements changes only where the turn makes the object
  pub same_table : (n : ℕ) → n ≢ 0 → (header_of i ((place_after code s earlier).threads one.thread).own.stage ≡ Some n → ⊥) → T' n ≡ T n
  same_table n nz other = table_now code s one earlier n ∙ told_other T n code i m found (T (speaks_of i m found))
      (λ header e. ((built_low x code s ls wt fits g h.world h.state header t (header_built x code s ls wt fits g h.world h.state t on header e)).1, λ q. other (e ∙ ap (λ k. Some k) q)))

  -- ---- the elements of live objects
  pub made_word : (n : ℕ) → n ≢ 0 → header_of i ((place_after code s earlier).threads one.thread).own.stage ≡ Some n
      → slice_index (words_now (place_after code s earlier).words one.event) (length_at s n) ≡ elements_in_stage ((place_after code s earlier).threads one.thread).own.stage
  made_word n nz e = by i refl e
    where
      in_stage : (r count cells site : ℕ) (v : NewView) (y : NewStage) → v.stage ≡ y → (((place_after code s earlier).threads one.thread).own.stage ≡ Makes v) → instr_at code ((place_after code s earlier).threads one.thread).at.pc ≡ Instr.New r count cells site
          → v.arguments ≡ (new_state s ((place_after code s earlier).threads one.thread) (elements_of (int ((place_after code s earlier).threads one.thread) count)) cells).arguments → header_at y ≡ Some n
          → slice_index (words_now (place_after code s earlier).words one.event) (length_at s n) ≡ v.arguments.elements
      in_stage r count cells site v (NewStage.Length header) y_is stage is args q =
          let same : header ≡ n = cc in
          let a = v.arguments in
          let word = word_number a (a.first + 2 * n + 1) in
          let step = Rattle.sharc_heap.specs.Asks.step_of word (WordOp.Swap a.elements) in
          let asked : asked_by (turn code s m) ≡ Some step =
          ap (λ j. asked_by (act code s j m)) is
          ∙ ap (λ y. asked_by (Rattle.sharc_code.specs.Machine.new s m r (elements_of (int m count)) cells site y)) stage
          ∙ ap (λ y. asked_by (asks_new m r site v (turn_of_stage a y))) y_is
          ∙ ap (λ k. asked_by (asks_new m r site v (turn_of_stage a (NewStage.Length k)))) same in
          let set : slice_index (words_now g.words one.event) word ≡ a.elements = after_set g.words one.event step (may.next.asks ∙ asked) may.answered in
          let low = (built_low x code s ls wt fits g h.world h.state n t (headed n nz e)).0 in
          let f : a.first ≡ first_cell s = ap (λ (a : NewArguments). a.first) args in
          let end : a.end ≡ granules s = ap (λ (a : NewArguments). a.end) args in
          let inside : nat_lt (a.first + 2 * n + 1) (a.first + 2 * a.end) ≡ true = is_below (a.first + 2 * n + 1) (a.first + 2 * a.end) (omega arith) in
          let word_is : word ≡ length_at s n = ap (λ b. if b then a.first + 2 * n + 1 else 0) inside ∙ (let z : a.first + 2 * n + 1 ≡ length_at s n = omega arith in z) in
          ap (slice_index (words_now g.words one.event)) (sym word_is) ∙ set
      in_stage r count cells site v _ y_is stage is args q = absurd (cc)

      at_new : (r count cells site : ℕ) → instr_at code ((place_after code s earlier).threads one.thread).at.pc ≡ Instr.New r count cells site → (stage : Stage) → ((place_after code s earlier).threads one.thread).own.stage ≡ stage
          → StageStands code s h.state.elements h.world h.state.heap (place_after code s earlier).words one.thread ((place_after code s earlier).threads one.thread) (Instr.New r count cells site) stage → header_in stage ≡ Some n
          → slice_index (words_now (place_after code s earlier).words one.event) (length_at s n) ≡ elements_in_stage stage
      at_new r count cells site is (Makes v) stage stands q = in_stage r count cells site v v.stage refl stage is stands.0 q
      at_new r count cells site is _ stage stands q = absurd (cc)

      by : (j : Instr) → instr_at code ((place_after code s earlier).threads one.thread).at.pc ≡ j → header_of j ((place_after code s earlier).threads one.thread).own.stage ≡ Some n
          → slice_index (words_now (place_after code s earlier).words one.event) (length_at s n) ≡ elements_in_stage ((place_after code s earlier).threads one.thread).own.stage
      by (Instr.New r count cells site) is q = at_new r count cells site is m.own.stage refl
          (subst (λ j. StageStands code s h.state.elements h.world h.state.heap g.words t m j m.own.stage) is ((h.state.threads t).runs on.0 on.1).stage) q
      by _ is q = absurd (cc)

  pub given : (r site : ℕ) → i ≡ Instr.Give r site → (h.world.obj (ref ((place_after code s earlier).threads one.thread) r)).live ≡ true
  given r site e =
      let hold = rests_hold code s h.state.elements h.world h.state.heap g.words t m (Instr.Give r site) m.own.stage refl (subst (λ j. StageStands code s h.state.elements h.world h.state.heap g.words t m j m.own.stage) e ((h.state.threads t).runs on.0 on.1).stage) in
      let f = subst (Fine x code ls m.at.pc (ls.at m.at.pc)) e (wt.fine m.at.pc) in
      live_ref x code s ls wt fits g h.world h.state t on hold r (sole_ref x code s ls wt fits g h.world h.state t on hold r true f.0)

  table_then : (f : ℕ → ObjectState) → f ≡ objects_now code s ls (place_after code s earlier) one h.world.obj → (o : ℕ) → o ≢ 0 → (f o).live ≡ true
      → T' o ≡ slice_index (words_now (place_after code s earlier).words one.event) (length_at s o)
  table_then f objects o nz live =
      let m' = (after_turn bounds (one_thread code s) g one).threads t in
      let live' : (objects_now code s ls g one h.world.obj o).live ≡ true = ap (λ (f : ℕ → ObjectState). (f o).live) (sym objects) ∙ live in
      ⊎_elim
      (λ (old : (h.world.obj o).live ≡ true).
      same_table o nz (λ e. live_not_built x code s ls wt fits g h.world h.state o t nz old (headed o nz e))
      ∙ h.table o nz old
      ∙ sym (length_kept x code s ls g h.world h.state t o nz old one.event (turn code s m) may.next.asks (writes cells pointers x code s ls wt fits g h.world h.state t on)))
      (λ (made : header_of i m.own.stage ≡ Some o).
      table_now code s one earlier o
      ∙ told_made T o code i m found (T (speaks_of i m found)) made (built_low x code s ls wt fits g h.world h.state o t (headed o nz made)).1
      ∙ sym (made_word o nz made))
      (was_live ls t m m' h.world.obj o i given live')

  -- ---- paths
  machine_is : (u : ℕ) → machine_after code s (begun code s u) (founds_of (turns_of u earlier)) ≡ (place_after code s earlier).threads u
  machine_is u = sym (state_is code s (begun code s u) (turns_of u earlier)) ∙ sym ((laws.stands bounds code s (opening_of bounds (one_thread code s) (opening_words code s)) earlier).threads u)

  long : (u : ℕ) → length (founds_of (turns_of u earlier)) ≡ length (turns_of u earlier)
  long u = length-map (turns_of u earlier) (λ turn. result_of turn.event)

  -- the thread that makes the turn
  pub own_turn : IsConsistentTurn code s T T' ((place_after code s earlier).threads one.thread) found
  own_turn = record {
    finds = finds cells x code s ls wt fits g h.world h.state t on T h.table (h.loaded t) found (λ step e. found_is g.words one.event step (may.next.asks ∙ e) may.answered);
    quiet = λ e. quiet_is one.event (may.next.asks ∙ e);
    kept = λ n some has. table_now code s one earlier n;
  }

  own_path : turns_of one.thread (one ∷ earlier) ≡ one ∷ turns_of one.thread earlier → IsConsistent code s (begun code s one.thread) (elements_before code s one.thread (one ∷ earlier)) (founds_of (turns_of one.thread (one ∷ earlier)))
  own_path e =
      let E = elements_before code s t (one ∷ earlier) in
      let fs = founds_of (turns_of t earlier) in
      let n = length (turns_of t earlier) in
      let count : length (turns_of t (one ∷ earlier)) ≡ suc n = ap (λ (y : List Turn). length y) e in
      let l = long t in
      let before : (k : ℕ) → k ≤ length fs → E k ≡ elements_before code s t earlier k = λ k le. before_is code s t one earlier k (omega arith) in
      let T_is : E (length fs) ≡ T = before (length fs) (omega arith) ∙ ap (elements_before code s t earlier) l ∙ now_is code s t earlier in
      let l' : length fs + 1 ≡ length (turns_of t (one ∷ earlier)) = omega arith in
      let later_is : E (length fs + 1) ≡ T' = ap E l' ∙ now_is code s t (one ∷ earlier) in
      let turn_at : IsConsistentTurn code s (E (length fs)) (E (length fs + 1)) (machine_after code s (begun code s t) fs) found =
      subst (λ (y : Elements). IsConsistentTurn code s y (E (length fs + 1)) (machine_after code s (begun code s t) fs) found) (sym T_is)
      (subst (λ (y : Elements). IsConsistentTurn code s T y (machine_after code s (begun code s t) fs) found) (sym later_is)
      (subst (λ (y : Machine). IsConsistentTurn code s T T' y found) (sym (machine_is t)) own_turn)) in
      subst (λ (y : List Turn). IsConsistent code s (begun code s t) E (founds_of y)) (sym e) (agree code s (begun code s t) (elements_before code s t earlier) E fs before (h.paths t), turn_at)

  -- another one
  others_path : (u : ℕ) → (u ≡ one.thread → ⊥) → turns_of u (one ∷ earlier) ≡ turns_of u earlier → IsConsistent code s (begun code s u) (elements_before code s u (one ∷ earlier)) (founds_of (turns_of u (one ∷ earlier)))
  others_path u ne e =
      let E = elements_before code s u (one ∷ earlier) in
      let fs = founds_of (turns_of u earlier) in
      let count : length (turns_of u (one ∷ earlier)) ≡ length (turns_of u earlier) = ap (λ (y : List Turn). length y) e in
      let l = long u in
      let l' : length fs ≡ length (turns_of u (one ∷ earlier)) = omega arith in
      let new : E (length fs) ≡ T' = ap E l' ∙ now_is code s u (one ∷ earlier) in
      let old : elements_before code s u earlier (length fs) ≡ T = ap (elements_before code s u earlier) l ∙ now_is code s u earlier in
      let last : (n : ℕ) → 0 < n → Has (machine_after code s (begun code s u) fs) n → E (length fs) n ≡ elements_before code s u earlier (length fs) n = λ n some has.
      let nz : n ≢ 0 = λ z. omega arith in
      ap (λ (y : Elements). y n) new
      ∙ same_table n nz (λ made. has_none x code s ls wt fits g h.world h.state t n nz (headed n nz made) u ne (h.loaded u) (h.links u) (subst (λ (y : Machine). Has y n) (machine_is u) has))
      ∙ ap (λ (y : Elements). y n) (sym old) in
      subst (λ (y : List Turn). IsConsistent code s (begun code s u) E (founds_of y)) (sym e)
      (relast code s (begun code s u) (elements_before code s u earlier) E fs (λ k lt. before_is code s u one earlier k (omega arith)) last (h.paths u))

  paths_then : (u : ℕ) → IsConsistent code s (begun code s u) (elements_before code s u (one ∷ earlier)) (founds_of (turns_of u (one ∷ earlier)))
  paths_then u = ⊎_elim
      (λ (e : u ≡ t). subst (λ u. IsConsistent code s (begun code s u) (elements_before code s u (one ∷ earlier)) (founds_of (turns_of u (one ∷ earlier)))) (sym e)
      (own_path (ap (λ b. if b then one ∷ turns_of t earlier else turns_of t earlier) (eq_refl t))))
      (λ (ne : u ≡ t → ⊥). others_path u ne (ap (λ b. if b then one ∷ turns_of u earlier else turns_of u earlier) (ne_eq u t ne)))
      (cases_eq u t)

  pub consists_then : Consists x code s ls (one ∷ earlier)
  consists_then =
      let k = keeps x code s ls wt fits few g h.world h.state one may in
      let now = state_now (one_thread code s) g one in
      record {
        world = k.turned.0;
        state = k.turned.1;
        table = table_then k.turned.0.obj k.objects;
        loaded = put_all (λ u m. LoadedStands ls m) g.threads t now (loaded_still x code s ls m laws.turns.outcomes i found (wt.fine m.at.pc) (h.loaded t)) (λ u _. h.loaded u);
        links = put_all (λ u m. (e : ℕ) → m.own.stage ≡ Links e → may_go m.at.state ≡ true) g.threads t now
            (links_still code s m laws.turns.outcomes h.state.elements h.world h.state.heap g.words t found ((h.state.threads t).runs on.0 on.1).stage) (λ u _. h.links u);
        paths = paths_then;
      }

  -- what has become of the world
  pub objects_then : consists_then.world.obj ≡ objects_now code s ls (place_after code s earlier) one h.world.obj
  unfolding consists_then
  objects_then = (keeps x code s ls wt fits few g h.world h.state one may).objects

  pub effect_then : Effect (lang_of x) one.thread (has_returned ((place_after code s earlier).threads one.thread)) (changes_objects i ((place_after code s earlier).threads one.thread)) h.world consists_then.world
  unfolding consists_then
  effect_then = (keeps x code s ls wt fits few g h.world h.state one may).turned.2

-- ---- the beginning
module _ (begins : CodeBegins) (x : Targets) (code : Code) (s : Shape) (ls : Labels) (wt : IsWellTyped x code ls) (fits : Fits code s) where
  pub none_live : (o : ℕ) → o ≢ 0 → ((first_world x).obj o).live ≡ true → ⊥
  none_live o nz live = let e : (o == 0) ≡ false = ne_eq o 0 nz in let f : ((first_world x).obj o).live ≡ false = rw e refl in let g : true ≡ false = sym live ∙ f in cc

  abbrev pub at_first : Consists x code s ls []
  at_first = record {
    world = first_world x;
    state = begins x code s ls wt fits;
    table = λ o nz live. absurd (none_live o nz live);
    loaded = λ t. inl refl;
    links = λ t e q. absurd (let f : Rests ≡ Links e = q in cc);
    paths = λ t. tt;
  }

-- ---- runs
module _ (laws : RunLaws) (begins : CodeBegins) (keeps : Keeps) (cells : CellsAreThere) (pointers : PointersAreThere) (x : Targets) (code : Code) (s : Shape) (ls : Labels) (wt : IsWellTyped x code ls) (fits : Fits code s) (few : IsSmall code s) where
  pub consists : (run : List Turn) → IsRun bounds (one_thread code s) (opening_of bounds (one_thread code s) (opening_words code s)) run → Consists x code s ls run
  consists [] run = at_first begins x code s ls wt fits
  consists (one ∷ earlier) run = consists_then laws keeps cells pointers x code s ls wt fits few one earlier (consists earlier run.0) run.1
