-- The checks of accesses keep the invariant.
use Rattle.sharc_invariant.proofs.{Imports.{◌≡◌, ℕ, ◌+◌, ◌/◌, ◌<◌, ◌⊎◌, Bool, true, false, cond, List, ◌∷◌, Some, None, refl, sym, ap, ◌∙◌, subst, inl, inr, ⊎_elim, length, slice_index, is_some, Kind, Accesses, note_of, site_at, epoch_of, is_write, conflicts_in, noted, ShadowLaws, Code, Cell, Instr, Shape, Rests, Fits, granule_of, Own as Own', Machine, instr_at, check, wrote, with_note, with_own, turn, Turn, Global, MayTurn, one_thread, bounds, put_same, put_other, GranuleState, Passed, marked, passed, Targets, Field, FieldMode, Gate, Closed, Checked, Pass, Label, Labels, Leads, LessGate, gated, IsWellTyped, HasCell, IsPlace, LeadsChecked, World, Window, Shut, May, put2, set_gran, set_win, Silent, Silently, made_turn, Runs, State, View, view_of, TopStands, FramesStand, PassStands, GateStands, base_of_cell, object_of_cell, number_in, refs_at, Turned}, TurnAt.turn_at, Effects.{put2_all, has_passed as passed_now}, Frames.{Agrees, Always, Low, top_agrees, callers_agree, less_stands}, Quiet.heap_now, Own.{is_single, runs, rests, gate, runs_at}, Plain.{resting, is_shut}, CheckTurns.{refused, passes_state, all_kept}, Rights.pass_at, Seen.{put2_at as put2_same}}
use Rattle.sharc_code.specs.Machine.{place}

pub checked_gate : (b : Bool) (c : Cell) (y : Gate) → LessGate (Checked b c) y → (y ≡ Closed) ⊎ (y ≡ Checked b c)
checked_gate b c Closed h = inl refl
checked_gate b c _ h = inr h

-- a note in the access table leaves what else a thread has
note_keeps : (A : Own' → Type 0) (o : Own') (p : ℕ) (kind : Kind) (e site : ℕ) → A o → ((n : Accesses) → A (record o { table = n })) → A (with_note o p kind e site)
note_keeps A o p kind e site h k = elim (is_some (site_at (note_of o.table p kind) e)) as (λ b. A (cond b o (record o { table = noted o.table p kind record { epoch = e; site = site } }))) [ true ↦ h | false ↦ k (noted o.table p kind record { epoch = e; site = site }) ]

module _ (x : Targets) (code : Code) (s : Shape) (ls : Labels) (wt : IsWellTyped x code ls) (fits : Fits code s) (laws : ShadowLaws) (g : Global Machine) (world : World) (st : State x code s ls g world) (tr : Turn)
    (may : MayTurn bounds (one_thread code s) g tr) (kind : Kind) (c : Cell) (site : ℕ) (i : Instr) (is : instr_at code (g.threads tr.thread).at.pc ≡ i) (single : is_single i ≡ true)
    (act_is : turn code s (g.threads tr.thread) ≡ check s (g.threads tr.thread) kind (granule_of (place (g.threads tr.thread) c)) site) (closed : (ls.at (g.threads tr.thread).at.pc).gate ≡ Closed)
    (f : Field) (cell : HasCell x code (ls.at (g.threads tr.thread).at.pc) c f) (dynamic : f.mode ≡ FieldMode.Dynamic)
    (next : LeadsChecked x ls (ls.at (g.threads tr.thread).at.pc) (g.threads tr.thread).at.pc (is_write kind) c) where
  open turn_at st tr use {t, m, here, view}
  open resting x code s ls wt g world st tr.thread (may.started, may.next.runs) i is single use {names, tops as top_here, reads}

  abbrev o : ℕ
  o = object_of_cell (g.threads tr.thread) c

  abbrev gi : ℕ
  gi = number_in (g.threads tr.thread) c / 2

  abbrev p : ℕ
  p = object_of_cell (g.threads tr.thread) c + 1 + number_in (g.threads tr.thread) c / 2

  abbrev old : GranuleState
  old = world.gran (object_of_cell (g.threads tr.thread) c) (number_in (g.threads tr.thread) c / 2)

  abbrev found : ℕ
  found = slice_index g.words (97 + (object_of_cell (g.threads tr.thread) c + 1 + number_in (g.threads tr.thread) c / 2))

  abbrev m' : Machine
  m' = with_own (g.threads tr.thread) (with_note (g.threads tr.thread).own p kind (epoch_of found) site)

  abbrev new : Gate
  new = (ls.at ((g.threads tr.thread).at.pc + 1)).gate

  abbrev world' : Window → World
  world' win = set_win (set_gran world o gi (passed old tr.thread (is_write kind))) tr.thread win

  abbrev view' : View
  view' = view_of st.elements (world' Shut) tr.thread m'

  kept : (u : ℕ) (b : Bool) (q h : ℕ) → Passed (world.gran q h) u b → Passed (put2 world.gran o gi (passed old tr.thread (is_write kind)) q h) u b
  kept u b = all_kept x code s ls wt fits laws g world st tr may kind c site i is single act_is closed f cell dynamic u b

  agree : (On OnInt : ℕ → Type 0) → Agrees tr.thread view view' On OnInt
  agree On OnInt = record { refs = λ j _. refl; types = λ j _. refl; vals = λ j _. refl; elements = λ j _. refl; passed = λ q h b _. kept t b q h }

  shut : world.win tr.thread ≡ Shut
  shut = is_shut x code s ls wt g world st t may.started may.next.runs i is single closed

  -- the check is remembered
  remembered : (q : Pass) → q.write ≡ is_write kind → IsPlace x here c q.base q.cell → PassStands view'.gran tr.thread (refs_at view' (g.threads tr.thread).at.refs) q q.base
  remembered q ew pl =
      let at = pass_at x code s ls wt fits g world st t (st.begins.few t may.started) names here top_here reads ((runs x code s ls wt g world st t may.started may.next.runs i is single).below)
      (gate x code s ls wt g world st t may.started may.next.runs i is single) c f q.base q.cell cell pl in
      let G : ℕ → ℕ → GranuleState = put2 world.gran o gi (passed old t (is_write kind)) in
      let got : Passed (G o gi) t (is_write kind) = subst (λ y. Passed y t (is_write kind)) (sym (put2_same world.gran o gi (passed old t (is_write kind)))) (passed_now old t (is_write kind)) in
      let got1 : Passed (G o gi) t q.write = subst (Passed (G o gi) t) (sym ew) got in
      let got2 : Passed (G o (q.cell / 2)) t q.write = subst (λ n. Passed (G o (n / 2)) t q.write) at.0 got1 in
      ⊎_elim
      (λ z. subst (PassStands view'.gran t (refs_at view' m.at.refs) q) (sym z.0) (subst (λ o'. Passed (G o' (q.cell / 2)) t q.write) z.1 got2))
      (λ z. subst (PassStands view'.gran t (refs_at view' m.at.refs) q) (sym z.1.0) (λ _. subst (λ o'. Passed (G o' (q.cell / 2)) t q.write) (sym z.1.1.0) got2))
      at.1

  rest : (g.threads tr.thread).own.stage ≡ Rests
  rest = rests x code s ls wt g world st t may.started may.next.runs i is single

  below' : FramesStand x code ls tr.thread view' m' here.function
  below' = elim here.function as (λ f. FramesStand x code ls t view m f → FramesStand x code ls t view' m' f) [
    | None ↦ λ h. h
    | Some f ↦ λ h. (callers_agree x code ls t view view' m.frames m.at.depth m.at.refs m.at.ints f (agree (Low m.at.refs) (Low m.at.ints)) h.0, h.1, h.2)
  ] (runs x code s ls wt g world st t may.started may.next.runs i is single).below

  runs_on : (win : Window) → GateStands s (world' win) tr.thread m' new → (k : Label) → Leads ls ((g.threads tr.thread).at.pc + 1) k → k.function ≡ here.function → k.room ≡ here.room
      → TopStands x tr.thread view' (g.threads tr.thread).at.refs (g.threads tr.thread).at.ints names k → (words : List ℕ)
      → Runs x code s ls st.elements (world' win) (heap_now st.heap words) (made_turn g tr.thread words m') tr.thread m'
  runs_on win gt k leads fn rm tp words =
      runs_at x code s ls st.elements (world' win) (heap_now st.heap words) (made_turn g t words m') t m' names
      (note_keeps (λ y. y.stage ≡ Rests) m.own p kind (epoch_of found) site rest (λ n. rest))
      (less_stands x t view' m.at.refs m.at.ints names k (ls.at (m.at.pc + 1)) leads tp)
      (subst (FramesStand x code ls t view' m') (sym (leads.function ∙ fn)) below')
      gt
      (λ q. note_keeps (λ y. length y.held < 16) m.own p kind (epoch_of found) site (room' q) (λ n. room' q))
    where
      room' : (ls.at ((g.threads tr.thread).at.pc + 1)).room ≡ true → length (g.threads tr.thread).own.held < 16
      room' q = (runs x code s ls wt g world st t may.started may.next.runs i is single).room (sym rm ∙ leads.room q)

  never : (r : ℕ) → world.win tr.thread ≡ Window.Sole r → ⊥
  never r q = let z : Shut ≡ Window.Sole r = sym shut ∙ q in cc

  same_window : (c : Cell) (w : World) (e : w.win tr.thread ≡ May (is_write kind) (base_of_cell (g.threads tr.thread) c) (number_in (g.threads tr.thread) c)) → GateStands s w tr.thread m' (Checked (is_write kind) c)
  same_window (Cell.Global a b) w e = e
  same_window _ w e = e

  passes_with : conflicts_in found tr.thread kind (wrote (g.threads tr.thread) p found) ≡ false → (k : Label) → Leads ls ((g.threads tr.thread).at.pc + 1) k → k.function ≡ here.function → k.room ≡ here.room → k.gate ≡ Checked (is_write kind) c
      → TopStands x tr.thread view' (g.threads tr.thread).at.refs (g.threads tr.thread).at.ints names k → Turned x code s ls g world tr
  passes_with none' k leads fn rm kg tp =
      let silent : (win : Window) → Silent world (world' win) = λ win. record { obj = refl; mutex = refl; passed = λ q h u b. kept u b q h; sole = λ u r e. let ne : u ≡ t → ⊥ = λ q. never r (ap world.win (sym q) ∙ e) in (put_other world.win t u win ne ∙ e, refl) } in
      let go : (win : Window) → (win ≡ Shut) ⊎ (win ≡ May (is_write kind) (base_of_cell m c) (number_in m c)) → GateStands s (world' win) t m' new → Turned x code s ls g world tr = λ win is_win gt.
      (world' win, passes_state x code s ls wt fits laws g world st tr may kind c site i is single act_is closed f cell dynamic none' win is_win (λ _. runs_on win gt k leads fn rm tp _), Silently (silent win)) in
      let win' : Window = May (is_write kind) (base_of_cell m c) (number_in m c) in
      ⊎_elim
      (λ (e : new ≡ Closed). go Shut (inl refl) (subst (GateStands s (world' Shut) t m') (sym e) (put_same world.win t Shut)))
      (λ (e : new ≡ Checked (is_write kind) c). go win' (inr refl) (subst (GateStands s (world' win') t m') (sym e) (same_window c (world' win') (put_same world.win t win'))))
      (checked_gate (is_write kind) c new (subst (λ y. LessGate y new) kg leads.gate))

  pub check_keeps : Turned x code s ls g world tr
  check_keeps = elim (conflicts_in found t kind (wrote m p found)) as (λ b. conflicts_in found t kind (wrote m p found) ≡ b → Turned x code s ls g world tr) [
    | true ↦ λ e. (
      set_gran world o gi (marked old t (is_write kind)),
      refused x code s ls wt fits laws g world st tr may kind c site i is single act_is closed f cell dynamic e,
      Silently (record {
        obj = refl;
        mutex = refl;
        sole = λ u r e. (e, refl);
        passed = λ q h u b. put2_all (λ q h a. Passed (world.gran q h) u b → Passed a u b) world.gran o gi (marked old t (is_write kind))
            (elim b as (λ b. Passed old u b → Passed (marked old t (is_write kind)) u b) [ true ↦ λ h. h | false ↦ λ h. h ]) (λ q h z. z) q h;
      }),
    )
    | false ↦ λ e.
        let tp = top_agrees x t view view' m.at.refs m.at.ints names here (agree Always Always) top_here in
        ⊎_elim
        (λ k. passes_with e (gated here (Checked (is_write kind) c)) k refl refl refl (λ a b. let h = tp a b in record { env = h.env; same = h.same; known = h.known; numbers = h.numbers; passed = h.passed }))
        (λ k. let q = k.0 in passes_with e (record here { gate = Checked (is_write kind) c; passed = q ∷ here.passed }) k.3 refl refl refl
        (λ a b. let h = tp a b in record {
          env = h.env;
          same = h.same;
          known = h.known;
          numbers = h.numbers;
          passed = λ r. ⊎_elim (λ (er : q ≡ r). let P : Pass → Type 0 = λ r. PassStands view'.gran t (refs_at view' m.at.refs) r r.base in subst P er (remembered q k.1 k.2)) (λ z. h.passed r z);
        }))
        next
  ] refl
