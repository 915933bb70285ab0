-- Taking a mutex and giving it back keep the invariant: the reference of the base goes to the log, and comes back from it.
use Rattle.sharc_invariant.proofs.{Imports.{◌≡◌, ◌≢◌, ℕ, ℤ, suc, ◌+◌, ◌^◌, ◌<◌, Bool, true, false, cond, List, [], ◌∷◌, ◌++◌, Option, Some, None, refl, sym, ap, ◌∙◌, subst, inl, inr, ⊎_elim, arith, eqb-true, length-set, cases_eq, nat_tests, fun_ext, length, slice_index, slice_set, nat_lt, is_some, Contains, ◌==◌, Cas, Swap, Kind, Read, Write, HeldMutex, IsHeldLog, object_of, with_mutex, without, Code, Cell, Instr, Shape, Fits, words_of, Machine, instr_at, ref, word, object, next, goes, fails, is_held, taken, locked, unlocked, reference_of, step_of, Turn, Global, put, MayTurn, after_turn, one_thread, bounds, put_all, Targets, Field, nothing, field_in, is_mutex, type_of, Closed, Holds, Empty, Refers, Unknown, Label, Labels, Leads, IsFree, empty, fill, IsWellTyped, IsRef, IsVacant, IsBaseFree, HasCell, refs_in, ints_in, without_base_of, unlocked_label, TypedReference, Slot, RegisterOf, ArgumentOf, LogOf, In, CellOf, Shut, Sole, World, WorldInvariant, in_ref, none, place, put2, shift, conc_of, lang_of, Shows, cell_at, logged, noted_by, register_of, set_reg, has_returned, Effect, Silent, Unlocks, made_turn, made_conc, State, View, view_of, FramesStand, GateStands, TopStands, EntryStands, object_of_cell, number_in, refs_at, types_at, size_of_run, Turned, changes_objects, some_of}, TurnAt.{turn_at, turn_stands}, Effects.{place_other, shift_ok, lock_ok, unlock_ok}, Frames.{filled, FilledStands, fill_stands, empty_stands}, Quiet.{KeepsSelf, loud_state, heap_now, noted_same, put_self, sizes_kept}, Turns.{asks_turn, room_of}, Own.{is_single, runs, top, gate, fine, begun_before, not_begun}, Plain.{resting, register_plain, is_shut, going, next_runs}, Stores.{index_put, cell_store, stored_words, stored_within}, Seen.{reg_stored, cell_cell}, Cells.cell_there, Filled.{refs_set, view_filled, below_filled, free_shut, inside, inside_world}, Accesses.loaded_words, Waits.tries_again, Logs.{found_in, append_other, append_same, contains_append, append_log, without_other, without_same, contains_without, without_lower, without_log}, Mutexes.{mutex_stored, log_stored, locks_changed, Changes, IsLogged}, Others.loses}
use Rattle.sharc_code.specs.Machine.{without_base}
use Rattle.sharc_invariant.specs.Effect.{Locks}

none_of : (o : Option ℕ) → is_some o ≡ false → o ≡ None
none_of None e = refl
none_of (Some n) e = absurd (cc)

-- whether there is room for another mutex a frame does not see
room_top : (x : Targets) (t : ℕ) (v : View) (base ints : ℕ) (names : ℕ → ℤ) (l : Label) (b : Bool) → TopStands x t v base ints names l → TopStands x t v base ints names (record l { gate = Closed; room = b })
room_top x t v base ints names l b tp n k = let h = tp n k in record { env = h.env; same = h.same; known = h.known; numbers = h.numbers; passed = h.passed }

same_object : (m : Machine) (c : Cell) → object m c ≡ object_of_cell m c
same_object m (Cell.Global a p) = refl
same_object m _ = refl

module _ (x : Targets) (code : Code) (s : Shape) (ls : Labels) (wt : IsWellTyped x code ls) (fits : Fits code s) (g : Global Machine) (world : World) (st : State x code s ls g world) (tr : Turn)
    (may : MayTurn bounds (one_thread code s) g tr) (i : Instr) (is : instr_at code (g.threads tr.thread).at.pc ≡ i) (single : is_single i ≡ true) where
  open turn_at st tr use {t, m, here, base, after, view}
  open turn_stands st tr may use {low_t}
  open resting x code s ls wt g world st tr.thread (may.started, may.next.runs) i is single use {names, tops, rest, reads}

  -- the machine behind the turn, and the world
  abbrev moved : List ℕ → List HeldMutex → Machine
  moved rs hd = record (g.threads tr.thread) { at = next (g.threads tr.thread).at; refs = rs; own = record (g.threads tr.thread).own { held = hd } }

  abbrev with_slots : (Slot → TypedReference) → World
  with_slots f = record world { slots = f }

  abbrev changed : (Slot → TypedReference) → (o j v : ℕ) → World
  changed f o j v = record world { slots = f; mutex = put2 world.mutex o j v }

  abbrev R : ℕ → ℕ → ℕ
  R = λ u. register_of code (g.threads u)

  abbrev L : ℕ → ℕ → ℕ
  L = λ u. logged (g.threads u)

  -- of a world in which this thread alone has other references, and one mutex has changed hands
  mutex_state : (o j v : ℕ) → (world.obj o).live ≡ true → j < st.cells o → is_mutex (field_in x (world.obj o).ty j).holds ≡ true → v < 2 ^ 64 → (f : Slot → TypedReference) (rs : List ℕ) (hd : List HeldMutex)
      → length rs ≡ length (g.threads tr.thread).refs → after ≡ made_turn g tr.thread (slice_set g.words (cell_at s o j) v) (moved rs hd) → cell_at s o j < length g.words → IsHeldLog hd
      → ((u : ℕ) → u ≢ tr.thread → (q : ℕ) → f (In (RegisterOf u q)) ≡ world.slots (In (RegisterOf u q))) → ((u : ℕ) → f (In (ArgumentOf u)) ≡ world.slots (In (ArgumentOf u))) → ((p q : ℕ) → f (CellOf p q) ≡ world.slots (CellOf p q))
      → WorldInvariant (size_of_run code s) (lang_of x) (changed f o j v)
      → Shows x s st.cells st.elements (record (conc_of code g) { regs = put R tr.thread (register_of code (moved rs hd)); logs = put L tr.thread (logged (moved rs hd)) }) (with_slots f)
      → Changes x s st.cells world tr.thread o j v (g.threads tr.thread).own.held hd → world.win tr.thread ≡ Shut
      → (k' : Label) → Leads ls ((g.threads tr.thread).at.pc + 1) k' → k'.function ≡ here.function → k'.gate ≡ Closed → (k'.room ≡ true → length hd < 16)
      → TopStands x tr.thread (view_of st.elements (with_slots f) tr.thread (moved rs hd)) base (g.threads tr.thread).at.ints names k' → FramesStand x code ls tr.thread (view_of st.elements (with_slots f) tr.thread (moved rs hd)) (moved rs hd) here.function
      → (Silent world (with_slots f) → Effect (lang_of x) tr.thread (has_returned (g.threads tr.thread)) (changes_objects (instr_at code (g.threads tr.thread).at.pc) (g.threads tr.thread)) world (changed f o j v)) → Turned x code s ls g world tr
  mutex_state o j v lo lj mx small f rs hd lr done lt lg fr fa fc inv sim ch shut k' leads fn gt room tp below effect =
      let m' = moved rs hd in
      let k = cell_at s o j in
      let words = slice_set g.words k v in
      let w' = changed f o j v in
      let ms = cell_store x code s ls g world st o j lo lj in
      let own : KeepsSelf m m' = record {
        sizes = sizes_kept m m' (st.threads t).has.table refl lr refl refl;
        log = lg;
        heads = refl;
        making = refl;
        staged = refl;
        spawns = λ n h. h;
        begun_before = begun_before x code s ls wt g world st t may.started may.next.runs i is single;
        begun = not_begun x code s ls wt g world st t may.started may.next.runs i is single (m.at.pc + 1) (leads.function ∙ fn);
      } in
      let nt : (kind : Kind) → put (λ u. noted_by (g.threads u) kind) t (noted_by m' kind) ≡ (λ u. noted_by (g.threads u) kind) = λ kind.
      fun_ext (put_self (λ u. noted_by (g.threads u) kind) t (noted_by m' kind) (fun_ext (noted_same m m' refl rest rest (going x code s ls wt g world st t may.started may.next.runs i is single) refl kind))) in
      let nw = nt Write in
      let c1 = record (conc_of code g) { regs = put R t (register_of code m'); logs = put L t (logged m') } in
      let sim1 : Shows x s st.cells st.elements (record c1 { words = put (λ n. slice_index g.words n) k v }) w' = mutex_stored x s st.cells st.elements c1 (with_slots f) sim st.apart o j v lo lj mx in
      let sim2 : Shows x s st.cells st.elements (record c1 { words = λ n. slice_index words n }) w' = subst (λ h. Shows x s st.cells st.elements (record c1 { words = h }) w') (sym (fun_ext (index_put g.words k v lt))) sim1 in
      let ce : record (made_conc code (conc_of code g) t words m') { logs = put L t (logged m') } ≡ record c1 { words = λ n. slice_index words n } =
      λ i. record c1 { words = λ n. slice_index words n; read_notes = (nt Read) i; write_notes = nw i } in
      let locks = locks_changed x s st.cells st.elements (conc_of code g) world g st.sim st.apart st.locks t o j v lo lj mx words m' f ch in
      let other : (u q : ℕ) → world.win u ≡ Sole q → u ≡ t → ⊥ = λ u q e z. let y : Shut ≡ Sole q = sym shut ∙ ap world.win (sym z) ∙ e in cc in (
        w',
        subst (λ y. State x code s ls y w') (sym done) (loud_state x code s ls g world st t may.started words m' own
            (stored_words x code s ls g world st k v ms lt small (λ n l e. absurd (let h = st.apart.headers o lo in omega arith))) w' (record { obj = refl; args = fa })
            (record {
              regs = fr;
              win = λ u _. refl;
              passed = λ u _ o p b _ q. q;
              sole = λ u _ r _ p. loses refl;
              cells = λ u _ r _ n. ap (λ (h : TypedReference). h.reference) (fc (in_ref world (RegisterOf u r)) n);
              built = λ u _ b e. (e, refl);
              within = λ u _ b e j n. stored_within x code s ls g world st k v ms lt u b j e n;
            })
            wt inv (subst (λ c. Shows x s st.cells st.elements c w') (sym ce) sim2) locks
            (λ _. next_runs x code s ls wt g world st t may.started may.next.runs i is single w' (heap_now st.heap words) (made_turn g t words m') m' names k' rest fn gt leads tp below shut room)
            (λ q. absurd (cc)) (room_of code s g tr may words m' done)),
        effect (record { obj = refl; mutex = refl; passed = λ o p u b q. q; sole = λ u q e. (e, ap (λ (h : TypedReference). h.reference) (fr u (other u q e) q)) }),
      )

  -- ---- a mutex is taken
  module _ (o j : ℕ) (lo : (world.obj o).live ≡ true) (lj : j < st.cells o) (mx : is_mutex (field_in x (world.obj o).ty j).holds ≡ true) (shut : world.win tr.thread ≡ Shut)
      (lt : cell_at s o j < length g.words) where
    abbrev k : ℕ
    k = cell_at s o j

    abbrev entry : HeldMutex
    entry = record { word = cell_at s o j; object = o }

    abbrev held : List HeldMutex
    held = (g.threads tr.thread).own.held

    low_k : k < words_of s
    low_k = let a = st.length_is in omega arith

    module _ (zero_now : world.mutex o j ≡ 0) (free_word : object_of held k ≡ None) (room_now : length held < 16) where
      abbrev hd : List HeldMutex
      hd = held ++ entry ∷ []

      taken_log : Changes x s st.cells world t o j (suc t) held hd
      taken_log = record {
        away = λ n ne. append_other held entry n ne;
        here = (λ _. ap is_some (append_same held entry free_word), λ _. refl);
        mine = λ u nu e. nu (omega arith);
        was = λ u nu e. let z = zero_now in omega arith;
        logged = λ h c. ⊎_elim
            (λ (e : entry ≡ h). subst (IsLogged x s st.cells world) e (j, (refl, lo, lj, mx)))
            (λ (e : Contains held h). st.locks.logged t h e)
            (contains_append held entry h c);
        few = λ u e. let z = low_t in omega arith;
      }

      small_t : suc t < 2 ^ 64
      small_t = let z = low_t in omega arith

      -- of the globals
      lock_global : (o ≡ 0) → after ≡ made_turn g tr.thread (slice_set g.words k (suc tr.thread)) (moved (g.threads tr.thread).refs hd) → here.gate ≡ Closed
          → Leads ls ((g.threads tr.thread).at.pc + 1) (record here { gate = Closed; room = false }) → Turned x code s ls g world tr
      lock_global oz done gt leads =
          let m' = moved m.refs hd in
          let rn = runs x code s ls wt g world st t may.started may.next.runs i is single in
          let regs : put R t (register_of code m') ≡ R = fun_ext (put_self R t (register_of code m') (fun_ext (λ n. register_plain code m' rest n ∙ sym (register_plain code m rest n)))) in
          let logs : put L t (logged m') ≡ L = fun_ext (put_self L t (logged m') (fun_ext (λ n. ⊎_elim
          (λ (e : n ≡ k). ap (logged m') e ∙ ap reference_of (append_same held entry free_word) ∙ oz ∙ sym (ap reference_of free_word) ∙ ap (logged m) (sym e))
          (λ (ne : n ≡ k → ⊥). ap reference_of (append_other held entry n ne))
          (cases_eq n k)))) in
          mutex_state o j (suc t) lo lj mx small_t world.slots m.refs hd refl done lt (append_log held entry (st.threads t).has.log room_now free_word)
          (λ u _ q. refl) (λ u. refl) (λ p q. refl)
          (lock_ok (size_of_run code s) (lang_of x) world st.inv t o j zero_now)
          (subst (λ r. Shows x s st.cells st.elements (record (conc_of code g) { regs = r; logs = put L t (logged m') }) world) (sym regs)
          (subst (λ l. Shows x s st.cells st.elements (record (conc_of code g) { logs = l }) world) (sym logs) st.sim))
          taken_log shut (record here { gate = Closed; room = false }) leads refl refl (λ q. absurd (cc))
          (room_top x t view base m.at.ints names here false tops)
          (elim here.function as (λ f. FramesStand x code ls t view m f → FramesStand x code ls t view m' f) [ None ↦ λ h. h | Some f ↦ λ h. h ] rn.below)
          (λ si. Locks o j zero_now refl si)

      -- of the object in a register
      lock_object : (r : ℕ) → (o ≡ ref (g.threads tr.thread) r) → after ≡ made_turn g tr.thread (slice_set g.words k (suc tr.thread)) (moved (slice_set (g.threads tr.thread).refs (base + r) 0) hd)
          → IsRef code here r → IsFree here r → Leads ls ((g.threads tr.thread).at.pc + 1) (record (empty here r) { room = false }) → Turned x code s ls g world tr
      lock_object r eo done isr free leads =
          let rs = slice_set m.refs (base + r) 0 in
          let m' = moved rs hd in
          let kr = base + r in
          let rn = runs x code s ls wt g world st t may.started may.next.runs i is single in
          let h = world.slots (In (RegisterOf t kr)) in
          let eh : o ≡ h.reference = eo ∙ reads r in
          let f1 = place world.slots (In (RegisterOf t kr)) none in
          let fs = place f1 (In (LogOf t k)) h in
          let lt_r = inside x code s ls wt g world st t may.started may.next.runs i is single r isr in
          let regs : put R t (register_of code m') ≡ put2 R t kr 0 = ap (put R t) (fun_ext (refs_set code m m' kr 0 rest rest refl lt_r)) in
          let logs : put L t (logged m') ≡ put2 L t k h.reference = ap (put L t) (fun_ext (put_all (λ n y. logged m' n ≡ y) (logged m) k h.reference (ap reference_of (append_same held entry free_word) ∙ eh) (λ n ne. ap reference_of (append_other held entry n ne)))) in
          let sim1 = reg_stored x s st.cells st.elements (conc_of code g) world st.sim st.apart t kr none in
          let sim2 : Shows x s st.cells st.elements (record (conc_of code g) { regs = put2 R t kr 0; logs = put2 L t k h.reference }) (with_slots fs) = log_stored x s st.cells st.elements (set_reg (conc_of code g) t kr 0) (with_slots f1) sim1 st.apart t k h in
          let v : view_of st.elements (with_slots fs) t m' ≡ filled view kr 0 nothing = view_filled st.elements world (with_slots f1) t kr none m m' (λ _. refl) refl refl in
          let tp1 = empty_stands x t view base m.at.ints names here r nothing free.paths tops in
          mutex_state o j (suc t) lo lj mx small_t fs rs hd (length-set m.refs kr 0) done lt (append_log held entry (st.threads t).has.log room_now free_word)
          (λ u nu q. place_other f1 (In (LogOf t k)) (In (RegisterOf u q)) h (λ e. cc) ∙ place_other world.slots (In (RegisterOf t kr)) (In (RegisterOf u q)) none (λ e. nu (cc)))
          (λ u. place_other f1 (In (LogOf t k)) (In (ArgumentOf u)) h (λ e. cc) ∙ place_other world.slots (In (RegisterOf t kr)) (In (ArgumentOf u)) none (λ e. cc))
          (λ p q. place_other f1 (In (LogOf t k)) (CellOf p q) h (λ e. cc) ∙ place_other world.slots (In (RegisterOf t kr)) (CellOf p q) none (λ e. cc))
          (lock_ok (size_of_run code s) (lang_of x) (shift world (RegisterOf t kr) (LogOf t k))
          (shift_ok (size_of_run code s) (lang_of x) world st.inv (RegisterOf t kr) (LogOf t k) (λ e. cc) (inside_world x code s ls wt g world st t may.started may.next.runs i is single r isr) (low_t, low_k)
          (st.sim.logs t k ∙ ap reference_of free_word) (λ _ _. refl) (free_shut world t kr shut) (λ u q us e. cc)) t o j zero_now)
          (subst (λ r. Shows x s st.cells st.elements (record (conc_of code g) { regs = r; logs = put L t (logged m') }) (with_slots fs)) (sym regs)
          (subst (λ l. Shows x s st.cells st.elements (record (conc_of code g) { regs = put2 R t kr 0; logs = l }) (with_slots fs)) (sym logs) sim2))
          taken_log shut (record (empty here r) { room = false }) leads refl refl (λ q. absurd (cc))
          (subst (λ v. TopStands x t v base m.at.ints names (record (empty here r) { room = false })) (sym v) (room_top x t (filled view kr 0 nothing) base m.at.ints names (empty here r) false tp1))
          (subst (λ v. FramesStand x code ls t v m' here.function) (sym v) (below_filled x code ls t view m m' r 0 nothing refl refl refl refl here.function rn.below))
          (λ si. Locks o j zero_now refl si)

    -- ---- a mutex is given back
    module _ (is_mine : world.mutex o j ≡ suc tr.thread) (in_log : object_of held k ≡ Some o) where
      abbrev left : List HeldMutex
      left = without held k

      given_log : Changes x s st.cells world t o j 0 held left
      given_log = record {
        away = λ n ne. without_other held k n ne;
        here = (λ e. absurd (omega arith), λ e. let z : false ≡ true = sym (ap is_some (without_same held k)) ∙ e in absurd (cc));
        mine = λ u nu e. omega arith;
        was = λ u nu e. let z = is_mine in nu (omega arith);
        logged = λ h c. st.locks.logged t h (contains_without held k h c);
        few = λ u e. absurd (omega arith);
      }

      left_room : length left < 16
      left_room = let a = without_lower held k o in_log in let b = (st.threads t).has.log.few in omega arith

      unlock_global : (o ≡ 0) → (r : ℕ) → after ≡ made_turn g tr.thread (slice_set g.words k 0) (moved (slice_set (g.threads tr.thread).refs (base + r) o) left) → IsVacant code here r
          → Leads ls ((g.threads tr.thread).at.pc + 1) (record here { gate = Closed; room = true }) → Turned x code s ls g world tr
      unlock_global oz r done vacant leads =
          let kr = base + r in
          let rs = slice_set m.refs kr o in
          let m' = moved rs left in
          let rn = runs x code s ls wt g world st t may.started may.next.runs i is single in
          let lt_r = inside x code s ls wt g world st t may.started may.next.runs i is single r vacant.is in
          let empty_r : in_ref world (RegisterOf t kr) ≡ 0 = subst (EntryStands (refs_at view base) (types_at view base) r) vacant.empty ((tops (suc r) 0).env r (omega arith)) in
          let was : o ≡ register_of code m kr = oz ∙ sym empty_r ∙ st.sim.regs t kr in
          let regs : put R t (register_of code m') ≡ R = fun_ext (put_self R t (register_of code m') (fun_ext (λ n. refs_set code m m' kr o rest rest refl lt_r n ∙ put_self (register_of code m) kr o was n))) in
          let logs : put L t (logged m') ≡ L = fun_ext (put_self L t (logged m') (fun_ext (λ n. ⊎_elim
          (λ (e : n ≡ k). ap (logged m') e ∙ ap reference_of (without_same held k) ∙ sym (ap reference_of in_log ∙ oz) ∙ ap (logged m) (sym e))
          (λ (ne : n ≡ k → ⊥). ap reference_of (without_other held k n ne))
          (cases_eq n k)))) in
          mutex_state o j 0 lo lj mx (omega arith) world.slots rs left (length-set m.refs kr o) done lt (without_log held k (st.threads t).has.log)
          (λ u _ q. refl) (λ u. refl) (λ p q. refl)
          (unlock_ok (size_of_run code s) (lang_of x) world st.inv t o j is_mine shut)
          (subst (λ r. Shows x s st.cells st.elements (record (conc_of code g) { regs = r; logs = put L t (logged m') }) world) (sym regs)
          (subst (λ l. Shows x s st.cells st.elements (record (conc_of code g) { logs = l }) world) (sym logs) st.sim))
          given_log shut (record here { gate = Closed; room = true }) leads refl refl (λ _. left_room)
          (room_top x t view base m.at.ints names here true tops)
          (elim here.function as (λ f. FramesStand x code ls t view m f → FramesStand x code ls t view m' f) [ None ↦ λ h. h | Some f ↦ λ h. h ] rn.below)
          (λ si. Unlocks o j is_mine refl si)

      unlock_object : (b : ℕ) → (o ≡ ref (g.threads tr.thread) b) → here.known b ≡ true → (r : ℕ) → after ≡ made_turn g tr.thread (slice_set g.words k 0) (moved (slice_set (g.threads tr.thread).refs (base + r) o) left) → IsVacant code here r
          → Leads ls ((g.threads tr.thread).at.pc + 1) (record (fill here r (here.env b) (here.same b) true) { room = true }) → Turned x code s ls g world tr
      unlock_object b eo kn r done vacant leads =
          let kr = base + r in
          let rs = slice_set m.refs kr o in
          let m' = moved rs left in
          let rn = runs x code s ls wt g world st t may.started may.next.runs i is single in
          let lt_r = inside x code s ls wt g world st t may.started may.next.runs i is single r vacant.is in
          let refs = refs_at view base in
          let empty_r : in_ref world (RegisterOf t kr) ≡ 0 = subst (EntryStands refs (types_at view base) r) vacant.empty ((tops (suc r) 0).env r (omega arith)) in
          let h = world.slots (In (LogOf t k)) in
          let eh : h.reference ≡ o = st.sim.logs t k ∙ ap reference_of in_log in
          let eb : h.reference ≡ refs b = eh ∙ eo ∙ reads b in
          let nzb : refs b ≢ 0 = (tops (suc b) 0).known b (omega arith) kn in
          let nz : h.reference ≢ 0 = λ z. nzb (sym eb ∙ z) in
          let fit = st.inv.words.fits (In (LogOf t k)) nz in
          let fit_b = st.inv.words.fits (In (RegisterOf t (base + b))) nzb in
          let ety : h.ty ≡ types_at view base b = sym fit.typed ∙ ap (λ p. (world.obj p).ty) eb ∙ fit_b.typed in
          let f1 = place world.slots (In (LogOf t k)) none in
          let fs = place f1 (In (RegisterOf t kr)) h in
          let regs : put R t (register_of code m') ≡ put2 R t kr h.reference = ap (put R t) (fun_ext (refs_set code m m' kr o rest rest refl lt_r) ∙ ap (put (register_of code m) kr) (sym eh)) in
          let logs : put L t (logged m') ≡ put2 L t k 0 = ap (put L t) (fun_ext (put_all (λ n y. logged m' n ≡ y) (logged m) k 0 (ap reference_of (without_same held k)) (λ n ne. ap reference_of (without_other held k n ne)))) in
          let sim1 = log_stored x s st.cells st.elements (conc_of code g) world st.sim st.apart t k none in
          let sim2 : Shows x s st.cells st.elements (record (conc_of code g) { regs = put2 R t kr h.reference; logs = put2 L t k 0 }) (with_slots fs) = reg_stored x s st.cells st.elements (record (conc_of code g) { logs = put2 L t k 0 }) (with_slots f1) sim1 st.apart t kr h in
          let v : view_of st.elements (with_slots fs) t m' ≡ filled view kr h.reference h.ty = view_filled st.elements (with_slots f1) (with_slots fs) t kr h m m' (λ _. refl) refl refl in
          let stands : FilledStands refs h.reference h.ty (here.env b) = elim (here.env b) as (λ e. EntryStands refs (types_at view base) b e → FilledStands refs h.reference h.ty e) [
            | Empty ↦ λ q. eb ∙ q
            | Unknown ↦ λ q. q
            | Refers ty ↦ λ q ne. ety ∙ q nzb ∙ ap (λ p. type_of refs p ty) (sym eb)
          ] ((tops (suc b) 0).env b (omega arith)) in
          let sc = wt.scoped m.at.pc in
          let tp1 = fill_stands x t view base m.at.ints names here (ints_in code here.function) (refs_in code here.function) r h.reference h.ty (here.env b) (here.same b) true
          sc vacant.empty (λ q. sc.paths b r q vacant.empty) stands
          (⊎_elim (λ (e : here.same b ≡ r). inl e) (λ (ne : here.same b ≡ r → ⊥). inr (ne, (tops (suc b) 0).same b (omega arith) ∙ sym eb)) (cases_eq (here.same b) r))
          (λ _. nz) tops in
          mutex_state o j 0 lo lj mx (omega arith) fs rs left (length-set m.refs kr o) done lt (without_log held k (st.threads t).has.log)
          (λ u nu q. place_other f1 (In (RegisterOf t kr)) (In (RegisterOf u q)) h (λ e. nu (cc)) ∙ place_other world.slots (In (LogOf t k)) (In (RegisterOf u q)) none (λ e. cc))
          (λ u. place_other f1 (In (RegisterOf t kr)) (In (ArgumentOf u)) h (λ e. cc) ∙ place_other world.slots (In (LogOf t k)) (In (ArgumentOf u)) none (λ e. cc))
          (λ p q. place_other f1 (In (RegisterOf t kr)) (CellOf p q) h (λ e. cc) ∙ place_other world.slots (In (LogOf t k)) (CellOf p q) none (λ e. cc))
          (unlock_ok (size_of_run code s) (lang_of x) (shift world (LogOf t k) (RegisterOf t kr))
          (shift_ok (size_of_run code s) (lang_of x) world st.inv (LogOf t k) (RegisterOf t kr) (λ e. cc) (low_t, low_k) (inside_world x code s ls wt g world st t may.started may.next.runs i is single r vacant.is)
          empty_r (λ _ _. refl) (λ u q us e. cc) (free_shut world t kr shut)) t o j is_mine shut)
          (subst (λ r. Shows x s st.cells st.elements (record (conc_of code g) { regs = r; logs = put L t (logged m') }) (with_slots fs)) (sym regs)
          (subst (λ l. Shows x s st.cells st.elements (record (conc_of code g) { regs = put2 R t kr h.reference; logs = l }) (with_slots fs)) (sym logs) sim2))
          given_log shut (record (fill here r (here.env b) (here.same b) true) { room = true }) leads refl refl (λ _. left_room)
          (subst (λ v. TopStands x t v base m.at.ints names (record (fill here r (here.env b) (here.same b) true) { room = true })) (sym v) (room_top x t (filled view kr h.reference h.ty) base m.at.ints names (fill here r (here.env b) (here.same b) true) true tp1))
          (subst (λ v. FramesStand x code ls t v m' here.function) (sym v) (below_filled x code ls t view m m' r h.reference h.ty refl refl refl refl here.function rn.below))
          (λ si. Unlocks o j is_mine refl si)

  -- whichever cell it is
  lock_cell : (c : Cell) (o j : ℕ) (lo : (world.obj o).live ≡ true) (lj : j < st.cells o) (mx : is_mutex (field_in x (world.obj o).ty j).holds ≡ true) (shut : world.win tr.thread ≡ Shut) (lt : cell_at s o j < length g.words)
      (zero_now : world.mutex o j ≡ 0) (free_word : object_of (g.threads tr.thread).own.held (cell_at s o j) ≡ None) (room_now : length (g.threads tr.thread).own.held < 16) → o ≡ object_of_cell (g.threads tr.thread) c
      → after ≡ made_turn g tr.thread (slice_set g.words (cell_at s o j) (suc tr.thread)) (goes (record (without_base (g.threads tr.thread) c) { own = record (g.threads tr.thread).own { held = (g.threads tr.thread).own.held ++ record { word = cell_at s o j; object = o } ∷ [] } }))
      → (fld : Field) → HasCell x code here c fld → IsBaseFree here c → here.gate ≡ Closed → Leads ls ((g.threads tr.thread).at.pc + 1) (record (without_base_of here c) { room = false }) → Turned x code s ls g world tr
  lock_cell (Cell.Object b p) o j lo lj mx shut lt z n r eo e fld h free gt leads = lock_object o j lo lj mx shut lt z n r b eo e h.field.0 free leads
  lock_cell (Cell.ObjectAt b p) o j lo lj mx shut lt z n r eo e fld h free gt leads = lock_object o j lo lj mx shut lt z n r b eo e h.field.0 free leads
  lock_cell _ o j lo lj mx shut lt z n r eo e fld h free gt leads = lock_global o j lo lj mx shut lt z n r eo e gt leads

  unlock_cell : (c : Cell) (o j : ℕ) (lo : (world.obj o).live ≡ true) (lj : j < st.cells o) (mx : is_mutex (field_in x (world.obj o).ty j).holds ≡ true) (shut : world.win tr.thread ≡ Shut) (lt : cell_at s o j < length g.words)
      (is_mine : world.mutex o j ≡ suc tr.thread) (in_log : object_of (g.threads tr.thread).own.held (cell_at s o j) ≡ Some o) → o ≡ object_of_cell (g.threads tr.thread) c
      → (r : ℕ) → after ≡ made_turn g tr.thread (slice_set g.words (cell_at s o j) 0) (moved (slice_set (g.threads tr.thread).refs (base + r) o) (without (g.threads tr.thread).own.held (cell_at s o j)))
      → (fld : Field) → HasCell x code here c fld → IsVacant code here r → Leads ls ((g.threads tr.thread).at.pc + 1) (unlocked_label here r c) → Turned x code s ls g world tr
  unlock_cell (Cell.Object b p) o j lo lj mx shut lt mu n eo r e fld h vacant leads = unlock_object o j lo lj mx shut lt mu n b eo h.base r e vacant leads
  unlock_cell (Cell.ObjectAt b p) o j lo lj mx shut lt mu n eo r e fld h vacant leads = unlock_object o j lo lj mx shut lt mu n b eo h.base r e vacant leads
  unlock_cell _ o j lo lj mx shut lt mu n eo r e fld h vacant leads = unlock_global o j lo lj mx shut lt mu n eo r e vacant leads

module _ (x : Targets) (code : Code) (s : Shape) (ls : Labels) (wt : IsWellTyped x code ls) (fits : Fits code s) (g : Global Machine) (world : World) (st : State x code s ls g world) (tr : Turn)
    (may : MayTurn bounds (one_thread code s) g tr) where
  open turn_at st tr use {t as who, m as mm, here as now}

  pub Lock_keeps : (c : Cell) (site : ℕ) → instr_at code (g.threads tr.thread).at.pc ≡ Instr.Lock c site → Turned x code s ls g world tr
  Lock_keeps c site is =
      let i = Instr.Lock c site in
      let f = fine x code s ls wt g world st who may.started may.next.runs i is refl in
      let rn = runs x code s ls wt g world st who may.started may.next.runs i is refl in
      let shut = is_shut x code s ls wt g world st who may.started may.next.runs i is refl f.0 in
      let low = st.begins.few who may.started in
      let th = cell_there x code s ls wt fits g world st who mm rn.names now (top x code s ls wt g world st who may.started may.next.runs i is refl) (resting x code s ls wt g world st who (may.started, may.next.runs) i is refl).reads c f.2.0 f.2.1 in
      let o = object_of_cell mm c in
      let j = number_in mm c in
      let k = cell_at s o j in
      let w = word s mm c in
      let found = slice_index g.words w in
      let held = mm.own.held in
      let entry : HeldMutex = record { word = k; object = o } in
      let content : is_mutex (field_in x (world.obj o).ty j).holds ≡ true = ap (λ (f : Field). is_mutex f.holds) th.field ∙ ap is_mutex f.2.2 in
      let behind : List HeldMutex → Machine = λ h. goes (record (without_base mm c) { own = record mm.own { held = h } }) in
      let a = asks_turn code s g tr may (step_of w (Cas 0 (mm.own.number + 1))) (locked mm c w) (ap (λ i. Rattle.sharc_code.specs.Machine.act code s i mm) is) in
      let lt : k < length g.words = subst (λ k. k < length g.words) th.word_is a.1 in
      elim (found == 0) as (λ b. (found == 0) ≡ b → after_turn bounds (one_thread code s) g tr ≡ made_turn g who (slice_set g.words w (cond b (mm.own.number + 1) found)) (cond b (behind (taken mm w (object mm c))) (fails mm)) → Turned x code s ls g world tr) [
        | true ↦ λ q e.
            let z : found ≡ 0 = eqb-true found 0 q in
            let mu : world.mutex o j ≡ 0 = st.sim.mutexes o j th.live th.number content ∙ ap (slice_index g.words) (sym th.word_is) ∙ z in
            let nh : is_held mm k ≡ false = elim (is_held mm k) as (λ b. is_held mm k ≡ b → b ≡ false) [ true ↦ λ h. let y = (st.locks.held who o j low th.live th.number content).1 h in absurd (omega arith) | false ↦ λ _. refl ] refl in
            let room : length held < 16 = rn.room f.1 in
            let rt : nat_lt (length held) 16 ≡ true = grind (arith, nat_tests) in
            let tk : taken mm w (object mm c) ≡ held ++ entry ∷ [] =
            ap (λ w. taken mm w (object mm c)) th.word_is ∙ ap (taken mm k) (same_object mm c) ∙ ap (λ b. cond b held (with_mutex held k o)) nh ∙ ap (λ b. cond b (held ++ entry ∷ []) held) rt in
            let num : mm.own.number + 1 ≡ suc who = let y = (st.threads who).has.number in omega arith in
            let e2 : after_turn bounds (one_thread code s) g tr ≡ made_turn g who (slice_set g.words k (suc who)) (behind (held ++ entry ∷ [])) =
            e ∙ ap (λ h. made_turn g who (slice_set g.words w (mm.own.number + 1)) (behind h)) tk ∙ ap (λ k. made_turn g who (slice_set g.words k (mm.own.number + 1)) (behind (held ++ entry ∷ []))) th.word_is
            ∙ ap (λ n. made_turn g who (slice_set g.words k n) (behind (held ++ entry ∷ []))) num in
            lock_cell x code s ls wt fits g world st tr may i is refl c o j th.live th.number content shut lt mu (none_of (object_of held k) nh) room refl e2 f.2.0 f.2.1 f.3 f.0 f.4
        | false ↦ λ q e. tries_again x code s ls wt fits g world st tr may i is refl f.0 (loaded_words x code s ls wt fits g world st tr may i is refl w (fails mm) e)
      ] refl a.0

  pub Unlock_keeps : (r : ℕ) (c : Cell) (site : ℕ) → instr_at code (g.threads tr.thread).at.pc ≡ Instr.Unlock r c site → Turned x code s ls g world tr
  Unlock_keeps r c site is =
      let i = Instr.Unlock r c site in
      let f = fine x code s ls wt g world st who may.started may.next.runs i is refl in
      let rn = runs x code s ls wt g world st who may.started may.next.runs i is refl in
      let q : GateStands s world who mm (Holds c) = subst (GateStands s world who mm) f.0 (gate x code s ls wt g world st who may.started may.next.runs i is refl) in
      let low = st.begins.few who may.started in
      let th = cell_there x code s ls wt fits g world st who mm rn.names now (top x code s ls wt g world st who may.started may.next.runs i is refl) (resting x code s ls wt g world st who (may.started, may.next.runs) i is refl).reads c f.2.0 f.2.1 in
      let o = object_of_cell mm c in
      let j = number_in mm c in
      let k = cell_at s o j in
      let held = mm.own.held in
      let content : is_mutex (field_in x (world.obj o).ty j).holds ≡ true = ap (λ (f : Field). is_mutex f.holds) th.field ∙ ap is_mutex f.2.2 in
      let a = asks_turn code s g tr may (step_of (word s mm c) (Swap 0)) (λ found. unlocked mm r (word s mm c)) (ap (λ i. Rattle.sharc_code.specs.Machine.act code s i mm) is) in
      let lt : k < length g.words = subst (λ k. k < length g.words) th.word_is a.1 in
      let hk : is_held mm k ≡ true = subst (λ w. is_held mm w ≡ true) th.word_is q.1 in
      let mu : world.mutex o j ≡ suc who = (st.locks.held who o j low th.live th.number content).1 hk in
      let so = some_of (object_of held k) hk in
      let lg = st.locks.logged who (record { word = k; object = so.0 }) (found_in held k so.0 so.1) in
      let same : so.0 ≡ o = (cell_cell x s st.cells st.elements (conc_of code g) world st.sim st.apart o j so.0 lg.0 th.live lg.1.1 th.number lg.1.2 (sym lg.1.0)).0 in
      let in_log : object_of held k ≡ Some o = so.1 ∙ ap (λ n. Some n) same in
      let e2 : after_turn bounds (one_thread code s) g tr ≡ made_turn g who (slice_set g.words k 0) (unlocked mm r k) = a.0 ∙ ap (λ w. made_turn g who (slice_set g.words w 0) (unlocked mm r w)) th.word_is in
      let e3 = e2 ∙ ap (λ h. made_turn g who (slice_set g.words k 0) (moved x code s ls wt fits g world st tr may i is refl (slice_set mm.refs (mm.at.refs + r) (reference_of h)) (without held k))) in_log in
      unlock_cell x code s ls wt fits g world st tr may i is refl c o j th.live th.number content q.0 lt mu in_log refl r e3 f.2.0 f.2.1 f.1 f.3
