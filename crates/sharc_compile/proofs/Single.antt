-- The statements of one turn, kind by kind.
use Rattle.sharc_compile.proofs.{Imports.{min, ◌^◌, ◌*◌, ◌-◌, ◌≡◌, ℕ, ℤ, pos, negsuc, ◌+◌, ◌<◌, ◌≤◌, Bool, true, false, ◌&&◌, List, refl, sym, ap, ◌∙◌, subst, arith, is_some, ◌==◌, nat_lt, Option, None, Result, Ok, Err, append-nil, ltb-true, to_z_pos, int_le, if◌then◌else◌, w64, CellAt, SourceEvent, Trap, Kind, note_of, site_at, epoch_of, conflicts_in, noted_in, object_of, Code, GlobalCells, Cell, Instr, Shape, Runs, Rests, Conflict, NoLock, NotSole, int_of, truth, first_cell, cell_word, Machine, ref, set_int, set_ref, move_ref, goes, goes_to, trapped, stopped, asserts, with_result, indexed, field_of, place, object, word, wrote, checked, with_note, lock_checked, tested, with_own, NULL, Program, Thread, Turn, Goes, Checks, Halts, Running, turn, program_over, Elements, IsMutex, IsApart, Same, IsReference, IsCell, times_le}, Registers.same_refs, Logs.{Apart, held_is}, Sames.{all_ints, all_refs, ref_is, set_int_same, set_ref_same, null_same, is_cell, word_is}, Turns.{Turned, goes_on, passes, halts, trapped_now, plain, asserted}}
use Rattle.sharc_code.specs.Machine.{is_held}
use Rattle.sharc_guard.specs.Machine as Form

module _ (code : Code) (s : Shape) (statements : List Instr) (T : Elements) (m : Machine) (a : Thread) (cost : ℕ) (one : cost ≤ 1) (rest : m.own.stage ≡ Rests)
    (same : Same code s T m a) (pc : a.pc ≡ m.at.pc) (running : a.phase ≡ Running)
    (fi fr : ℕ) (int_ok : (r : ℕ) → r < fi → a.ints_from + r < all_ints code) (ref_ok : (r : ℕ) → r < fr → a.refs_from + r < all_refs code) where
  abbrev p : Program
  p = program_over code statements

  abbrev Done : Turn → Machine → Option SourceEvent → Type 0
  Done t m' e = Turned code s statements T m a cost t 1 m' e

  pub goes_plain : (m' : Machine) (b : Thread) → Same code s T m' b → b.pc ≡ a.pc + 1 → m'.at.pc ≡ m.at.pc + 1 → b.events ≡ a.events → b.phase ≡ a.phase → m'.at.state ≡ Runs → m'.own.stage ≡ m.own.stage → Done (Goes b) m' None
  goes_plain m' b k e1 e2 e3 e4 e5 e6 = plain code s statements T m a cost one rest same pc running 1 (omega arith) m' b k e1 e2 e3 e4 e5 e6

  stops_with : (c : Trap) (site : ℕ) → turn p a ≡ Halts (Form.Stopped c site) → Done (Halts (Form.Stopped c site)) (trapped m c site) None
  stops_with c site is = trapped_now code s statements T m a cost one rest same pc running c site 1 is

  -- ---- registers
  pub writes_int : (r : ℕ) (v v' : ℤ) → v' ≡ v → r < fi → Done (Form.goes (Form.set_int a r v')) (goes (set_int m r v)) None
  writes_int r v v' e lt = goes_plain (goes (set_int m r v)) (Form.next (Form.set_int a r v')) (set_int_same code s T m a same r v v' e (int_ok r lt)) refl refl refl refl refl refl

  pub writes_ref : (r n : ℕ) (v : ℤ) → IsReference T n v → r < fr → Done (Form.goes (Form.set_ref a r v)) (goes (set_ref m r n)) None
  writes_ref r n v k lt = goes_plain (goes (set_ref m r n)) (Form.next (Form.set_ref a r v)) (set_ref_same code s T m a same r n v k (ref_ok r lt)) refl refl refl refl refl refl

  moved_same : (r from : ℕ) → r < fr → from < fr → Same code s T (move_ref m r from) (Form.move_ref a r from)
  moved_same r from lr lf =
      set_ref_same code s T (set_ref m from 0) (Form.set_ref a from NULL) (null_same code s T m a same from (ref_ok from lf)) r (ref m from) (Form.ref a from) (ref_is code s T m a same from) (ref_ok r lr)

  pub moves_ref : (r from : ℕ) → r < fr → from < fr → Done (Form.goes (Form.move_ref a r from)) (goes (move_ref m r from)) None
  moves_ref r from lr lf = goes_plain (goes (move_ref m r from)) (Form.next (Form.move_ref a r from)) (moved_same r from lr lf) refl refl refl refl refl refl

  pub results : (r site : ℕ) (z z' : Result ℤ Trap) → z' ≡ z → r < fi → turn p a ≡ Form.with_result a r site z' → Done (Form.with_result a r site z') (with_result m r site z) None
  results r site z z' e lt is = subst (λ z'. Done (Form.with_result a r site z') (with_result m r site z) None) (sym e) (each z (is ∙ ap (Form.with_result a r site) e))
    where
      each : (z : Result ℤ Trap) → turn p a ≡ Form.with_result a r site z → Done (Form.with_result a r site z) (with_result m r site z) None
      each (Ok v) is = writes_int r v v refl lt
      each (Err c) is = stops_with c site is

  pub is_asserted : (b b' : Bool) (c : Trap) (site : ℕ) → b' ≡ b → turn p a ≡ Form.asserts a b' c site → Done (Form.asserts a b' c site) (asserts m b c site) None
  is_asserted b b' c site e is = asserted code s statements T m a cost one rest same pc running 1 (omega arith) b b' c site e is

  pub same_reference : (x y : ℕ) → truth (int_le (Form.ref a x) (Form.ref a y) && int_le (Form.ref a y) (Form.ref a x)) ≡ truth (ref m x == ref m y)
  same_reference x y = ap truth (same_refs T (ref m x) (ref m y) (Form.ref a x) (Form.ref a y) (ref_is code s T m a same x) (ref_is code s T m a same y))

  -- ---- jumps
  pub jumps : (to : ℕ) → Done (Goes (Form.to a to)) (goes_to m to) None
  jumps to = goes_on code s statements T m a cost one rest 1 (omega arith) (goes_to m to) (Form.to a to) same refl (sym (append-nil a.events)) running refl rest

  pub jumps_if : (b b' : Bool) (to : ℕ) → b' ≡ b → Done (if b' then Goes (Form.to a to) else Form.goes a) (if b then goes_to m to else goes m) None
  jumps_if b b' to e = subst (λ b'. Done (if b' then Goes (Form.to a to) else Form.goes a) (if b then goes_to m to else goes m) None) (sym e) (each b)
    where
      each : (b : Bool) → Done (if b then Goes (Form.to a to) else Form.goes a) (if b then goes_to m to else goes m) None
      each true = jumps to
      each false = goes_plain (goes m) (Form.next a) same refl refl refl refl refl refl

  -- ---- indexes
  index_is : (i elements cells field : ℕ) → nat_lt i elements ≡ true → elements * cells + field < 2 ^ 63 → pos (i * cells + field) ≡ int_of (field_of i cells field)
  index_is i elements cells field e few =
      let lt = ltb-true i elements e in
      let le = times_le i elements cells (omega arith) in
      let small : i * cells + field < 2 ^ 63 = omega arith in
      let whole : min (i * cells + field) (2 ^ 64 - 1) ≡ i * cells + field = omega arith in
      sym (to_z_pos w64 (i * cells + field) small) ∙ ap int_of (sym whole)

  pub indexes : (r : ℕ) (z z' : ℤ) (cells field site elements elements' : ℕ) → z' ≡ z → elements' ≡ elements → elements * cells + field < 2 ^ 63 → r < fi → turn p a ≡ Form.indexed a r z' cells field site elements'
      → Done (Form.indexed a r z' cells field site elements') (indexed m r z cells field site elements) None
  indexes r z z' cells field site elements elements' ez ee few lt is =
      subst (λ z'. Done (Form.indexed a r z' cells field site elements') (indexed m r z cells field site elements) None) (sym ez)
      (subst (λ e'. Done (Form.indexed a r z cells field site e') (indexed m r z cells field site elements) None) (sym ee)
      (each z (is ∙ ap (λ z. Form.indexed a r z cells field site elements') ez ∙ ap (Form.indexed a r z cells field site) ee)))
    where
      within : (i : ℕ) (b : Bool) → nat_lt i elements ≡ b → turn p a ≡ (if b then Form.goes (Form.set_int a r (pos (i * cells + field))) else Halts (Form.Stopped Trap.IndexOutOfBounds site))
          → Done (if b then Form.goes (Form.set_int a r (pos (i * cells + field))) else Halts (Form.Stopped Trap.IndexOutOfBounds site)) (if b then goes (set_int m r (int_of (field_of i cells field))) else trapped m Trap.IndexOutOfBounds site) None
      within i true e is = writes_int r _ _ (index_is i elements cells field e few) lt
      within i false e is = stops_with Trap.IndexOutOfBounds site is

      each : (z : ℤ) → turn p a ≡ Form.indexed a r z cells field site elements → Done (Form.indexed a r z cells field site elements) (indexed m r z cells field site elements) None
      each (pos i) is = within i (nat_lt i elements) refl is
      each (negsuc i) is = stops_with Trap.IndexOutOfBounds site is

  -- ---- checks
  passed : (check : Form.Check) (site : ℕ) (m' : Machine) → Same code s T m' a → m'.at.pc ≡ m.at.pc + 1 → m'.at.state ≡ Runs → m'.own.stage ≡ m.own.stage → Done (Checks check site (Form.next a)) m' None
  passed check site m' k e1 e2 e3 =
      passes code s statements T m a cost one rest 1 (omega arith) m' (Form.next a) check site k (ap (λ n. n + 1) pc ∙ sym e1) (sym (append-nil a.events)) running e2 (e3 ∙ rest)

  pub checks : (kind : Kind) (granule site old : ℕ) (c : CellAt) → turn p a ≡ Checks (Form.Accesses kind c) site (Form.next a) → Done (Checks (Form.Accesses kind c) site (Form.next a)) (checked m kind granule site old) None
  checks kind granule site old c is = conflict (conflicts_in old m.own.number kind (wrote m granule old))
    where
      noted : (b : Bool) → Done (Checks (Form.Accesses kind c) site (Form.next a))
          (with_own m (if b then m.own else record m.own { table = noted_in m.own.table granule kind record { epoch = epoch_of old; site = site } })) None
      noted true = passed (Form.Accesses kind c) site _ same refl refl refl
      noted false = passed (Form.Accesses kind c) site _ same refl refl refl

      conflict : (b : Bool) → Done (Checks (Form.Accesses kind c) site (Form.next a))
          (if b then stopped m (Conflict record { kind = kind; site = site; granule = granule; epoch = epoch_of old; old = old }) else with_own m (with_note m.own granule kind (epoch_of old) site)) None
      conflict true = halts code s statements T m a cost one rest same pc running _ _ 1 (c, record { next = Form.next a; checks = is })
      conflict false = noted (is_some (site_at (note_of m.own.table granule kind) (epoch_of old)))

  pub tests_sole : (v : ℤ) (site found : ℕ) → turn p a ≡ Checks (Form.IsSole v) site (Form.next a) → Done (Checks (Form.IsSole v) site (Form.next a)) (tested m site found) None
  tests_sole v site found is = each (found == 1)
    where
      each : (b : Bool) → Done (Checks (Form.IsSole v) site (Form.next a)) (if b then goes m else stopped m (NotSole site found)) None
      each true = passed (Form.IsSole v) site (goes m) same refl refl refl
      each false = halts code s statements T m a cost one rest same pc running _ _ 1 (v, record { next = Form.next a; checks = is })

  -- ---- the log
  abbrev gs : List GlobalCells
  gs = code.globals.items

  module _ (apart : Apart gs) where
    pub log_of : (number cell : ℕ) (c : CellAt) → IsCell gs number cell c → IsApart s m.own.held number cell → Form.is_held a.held c ≡ is_held m (cell_word s cell)
    log_of number cell c is k =
        held_is gs (first_cell s) apart number cell c is a.held m.own.held same.in_log k.apart
        ∙ ap (λ w. is_some (object_of m.own.held w)) (sym (word_is code s T m a same cell k.inside))

    pub mutex_held : (cell : Cell) → IsMutex code s m cell → Form.is_held a.held (Form.cell_at p a cell) ≡ is_held m (word s m cell)
    mutex_held cell k = log_of (object m cell) (place m cell) (Form.cell_at p a cell) (is_cell code s T m a same statements cell k.there) k.apart

    pub locks_checked : (b b' : Bool) (number cell : ℕ) (c : CellAt) (site : ℕ) → b' ≡ b → (b ≡ false → Form.is_held a.held c ≡ is_held m (cell_word s cell)) → turn p a ≡ Form.lock_checked a b' c site
        → Done (Form.lock_checked a b' c site) (lock_checked m b (cell_word s cell) site) None
    locks_checked b b' number cell c site e k is = subst (λ b'. Done (Form.lock_checked a b' c site) (lock_checked m b (cell_word s cell) site) None) (sym e) (each b k (is ∙ ap (λ b. Form.lock_checked a b c site) e))
      where
        held : (h : Bool) → Form.is_held a.held c ≡ h → turn p a ≡ Checks (Form.Locks c) site (Form.next a) → Done (Checks (Form.Locks c) site (Form.next a)) (if h then goes m else stopped m (NoLock site (cell_word s cell))) None
        held true q is = passed (Form.Locks c) site (goes m) same refl refl refl
        held false q is = halts code s statements T m a cost one rest same pc running _ _ 1 (c, record { next = Form.next a; checks = is }, q)

        each : (b : Bool) → (b ≡ false → Form.is_held a.held c ≡ is_held m (cell_word s cell)) → turn p a ≡ Form.lock_checked a b c site → Done (Form.lock_checked a b c site) (lock_checked m b (cell_word s cell) site) None
        each true k is = stops_with Trap.NullPointer site is
        each false k is = held (is_held m (cell_word s cell)) (k refl) is
