-- One turn of code beside guarded code, whatever the statement is.
use Rattle.sharc_compile.proofs.{Imports.{◌≡◌, ℕ, zero, suc, ◌+◌, ◌^◌, ◌<◌, ◌≤◌, true, false, not, ◌==◌, List, length, refl, sym, ap, ◌∙◌, subst, arith, nat_lt, None, Act, Trap, Kind, Code, Int, Long, Cell, InObject, ObjectAt, Instr, Shape, TurnState, Runs, Tries, Stopped, Ended, Stage, Rests, Withdraws, WithdrawsFrom, Leaves, computed, negated, complement, is_zero, truth, holds, cell_of, granule_at, granule_of, Machine, int, ref, act, goes, accessed, set_ref, is_positive, place, object, is_of_null, after, asked_by, may_go, is_failed_try, repeats, said, speaks_of, cell_at, made_cell, place_at, mode_of, NULL, is_null, number_of, elements_of, IsAtPlace, IsGuarded, Program, Thread, Running, statement_at, step, function_at, weight, instr_of, program_over, Elements, MayFind, IsMutex, IsLock, Same, IsAtStage, IsInExit, phase_of, phase_at, IsCell, times_le}, Registers.{no_reference, elements_are}, Logs.log_length, Sames.{all_ints, all_refs, int_is, ref_is, null_at, pending_null, pending_number, set_ref_same, null_same, pending_same, null_cell, cell_is, mode_is}, Turns.Turned, Lowering.lower_goes}
use Rattle.sharc_guard.specs.Machine as Form
use Rattle.sharc_compile.proofs.Inside as Inner
use Rattle.sharc_compile.proofs.Single as Single
use Rattle.sharc_compile.proofs.Calls as Calling
use Rattle.sharc_compile.proofs.Asking as Asking
use Rattle.sharc_compile.proofs.Staged as Staged

-- ---- a statement of one turn has no stage
abbrev pub IsSingle : Instr → Type 0
IsSingle (Instr.New r count cells site) = ⊥
IsSingle (Instr.Clear r cells) = ⊥
IsSingle (Instr.Free r layout site) = ⊥
IsSingle (Instr.Spawn r function from site) = ⊥
IsSingle Instr.Exit = ⊥
IsSingle (Instr.CondSignal cell site) = ⊥
IsSingle _ = Unit {0}

rest_of : (m : Machine) (i : Instr) → IsSingle i → (st : Stage) → IsAtStage m i st → st ≡ Rests
rest_of m (Instr.New r count cells site) k st at = absurd k
rest_of m (Instr.Clear r cells) k st at = absurd k
rest_of m (Instr.Free r layout site) k st at = absurd k
rest_of m (Instr.Spawn r function from site) k st at = absurd k
rest_of m Instr.Exit k st at = absurd k
rest_of m (Instr.CondSignal cell site) k st at = absurd k
rest_of m _ k Rests at = refl
rest_of m _ k _ at = absurd at

pub phase_now : (state : TurnState) (st : Stage) → may_go state ≡ true → phase_of state st ≡ phase_at st
phase_now Runs st h = refl
phase_now Tries st h = refl
phase_now Stopped st h = refl
phase_now Ended st h = absurd (cc)

not_exit : (i : Instr) → (i ≡ Instr.Exit → ⊥) → IsInExit i → ⊥
not_exit Instr.Exit ne x = ne refl
not_exit _ ne x = x

-- the stages of all but Exit are those of a running thread
in_body : (m : Machine) (i : Instr) → (i ≡ Instr.Exit → ⊥) → (st : Stage) → IsAtStage m i st → phase_at st ≡ Running
in_body m i ne (Withdraws n) at = absurd (not_exit i ne at)
in_body m i ne (WithdrawsFrom n l) at = absurd (not_exit i ne at)
in_body m i ne Leaves at = absurd (not_exit i ne at)
in_body m i ne _ at = refl

module _ (code : Code) (s : Shape) (statements : List Instr) (good : IsGuarded (program_over code statements)) (T : Elements) (m : Machine) (a : Thread) (found cost : ℕ) (one : cost ≤ 1)
    (same : Same code s T m a) (pc : a.pc ≡ m.at.pc) where
  abbrev p : Program
  p = program_over code statements

  abbrev Goal : Instr → Type 0
  Goal i = Turned code s statements T m a cost (step p i a) (weight i) (after (act code s (instr_of code.functions.items i) m) found)
      (said code (instr_of code.functions.items i) m found (T (speaks_of (instr_of code.functions.items i) m found)))

  module _ (w : Inner.Within p good a) (phase : a.phase ≡ phase_at m.own.stage) (rep : repeats m.own.stage found ≡ true → cost ≡ 0) where
    abbrev fi : ℕ
    fi = (function_at p (good.owner a.pc)).ints

    abbrev fr : ℕ
    fr = (function_at p (good.owner a.pc)).refs

    int_ok : (r : ℕ) → r < fi → a.ints_from + r < all_ints code
    int_ok r lt = Inner.int_within p good a r w lt

    ref_ok : (r : ℕ) → r < fr → a.refs_from + r < all_refs code
    ref_ok r lt = Inner.ref_within p good a r w lt

    call_ints : (n : ℕ) → n ≤ fi → a.ints_from + n < 2 ^ 32
    call_ints n le =
        let k = Inner.ints_most p good (good.owner a.pc) in
        let l = times_le (length a.frames) 256 (Inner.most p good) w.few in
        let q = w.ints_in in
        let z = good.frames.ints in
        omega arith

    call_refs : (n : ℕ) → n ≤ fr → a.refs_from + n < 2 ^ 32
    call_refs n le =
        let k = Inner.refs_most p good (good.owner a.pc) in
        let l = times_le (length a.frames) 256 (Inner.most_of_refs p good) w.few in
        let q = w.refs_in in
        let z = good.frames.refs in
        omega arith

    running_in : (i : Instr) → (i ≡ Instr.Exit → ⊥) → IsAtStage m i m.own.stage → a.phase ≡ Running
    running_in i ne at = phase ∙ in_body m i ne m.own.stage at

    -- the elements that Bounds finds
    elements_found : (base : ℕ) → 0 < ref m base → found ≡ T (ref m base) → elements_of (Form.ref a base) ≡ found
    elements_found base some e =
        let k = ref_is code s T m a same base in
        ap elements_of k.is ∙ elements_are (ref m base) (T (ref m base)) some k.small ∙ sym e

    some_number : (n : ℕ) → (n == 0) ≡ false → 0 < n
    some_number zero e = absurd (cc)
    some_number (suc n) e = omega arith

    -- a lock's cell
    lock_there : (cell : Cell) → IsLock code s m cell → is_of_null m cell ≡ false → IsMutex code s m cell
    lock_there (InObject r c) k e = k (some_number (ref m r) e)
    lock_there (ObjectAt r at) k e = k (some_number (ref m r) e)
    lock_there _ k e = k

    module _ (rest : m.own.stage ≡ Rests) (running : a.phase ≡ Running) where
      -- the statements of one turn
      single : (i : Instr) → IsSingle i → statement_at p a.pc ≡ i → IsAtPlace p good.owner a.pc i → MayFind code s T m found (instr_of code.functions.items i)
          → (asked_by (act code s (instr_of code.functions.items i) m) ≡ None → found ≡ 0)
          → (is_failed_try (after (act code s (instr_of code.functions.items i) m) found).at.state ≡ true → cost ≡ 0) → Goal i
      single (Instr.Constant r v) one_turn is k finds quiet tried = Single.writes_int code s statements T m a cost one rest same pc running fi fr int_ok ref_ok r v v refl k.writes
      single (Instr.Move r from) one_turn is k finds quiet tried = Single.writes_int code s statements T m a cost one rest same pc running fi fr int_ok ref_ok r (int m from) (Form.int a from) (int_is code s T m a same from) k.writes
      single (Instr.MoveReference r from) one_turn is k finds quiet tried = Single.moves_ref code s statements T m a cost one rest same pc running fi fr int_ok ref_ok r from k.writes.0 k.writes.1
      single (Instr.Null r) one_turn is k finds quiet tried = Single.writes_ref code s statements T m a cost one rest same pc running fi fr int_ok ref_ok r 0 NULL (no_reference T) k.writes
      single (Instr.ComputeInt operator r x y site) one_turn is k finds quiet tried =
          Single.results code s statements T m a cost one rest same pc running fi fr int_ok ref_ok r site (computed Int operator (int m x) (int m y)) (computed Int operator (Form.int a x) (Form.int a y))
          (ap (λ u. computed Int operator u (Form.int a y)) (int_is code s T m a same x) ∙ ap (computed Int operator (int m x)) (int_is code s T m a same y)) k.writes (ap (λ i. step p i a) is)
      single (Instr.ComputeLong operator r x y site) one_turn is k finds quiet tried =
          Single.results code s statements T m a cost one rest same pc running fi fr int_ok ref_ok r site (computed Long operator (int m x) (int m y)) (computed Long operator (Form.int a x) (Form.int a y))
          (ap (λ u. computed Long operator u (Form.int a y)) (int_is code s T m a same x) ∙ ap (computed Long operator (int m x)) (int_is code s T m a same y)) k.writes (ap (λ i. step p i a) is)
      single (Instr.NegateInt r x site) one_turn is k finds quiet tried =
          Single.results code s statements T m a cost one rest same pc running fi fr int_ok ref_ok r site (negated Int (int m x)) (negated Int (Form.int a x)) (ap (negated Int) (int_is code s T m a same x)) k.writes (ap (λ i. step p i a) is)
      single (Instr.NegateLong r x site) one_turn is k finds quiet tried =
          Single.results code s statements T m a cost one rest same pc running fi fr int_ok ref_ok r site (negated Long (int m x)) (negated Long (Form.int a x)) (ap (negated Long) (int_is code s T m a same x)) k.writes (ap (λ i. step p i a) is)
      single (Instr.Complement r x) one_turn is k finds quiet tried =
          Single.writes_int code s statements T m a cost one rest same pc running fi fr int_ok ref_ok r (complement (int m x)) (complement (Form.int a x)) (ap complement (int_is code s T m a same x)) k.writes
      single (Instr.Not r x) one_turn is k finds quiet tried =
          Single.writes_int code s statements T m a cost one rest same pc running fi fr int_ok ref_ok r (truth (is_zero (int m x))) (truth (is_zero (Form.int a x))) (ap (λ z. truth (is_zero z)) (int_is code s T m a same x)) k.writes
      single (Instr.SameReference r x y) one_turn is k finds quiet tried =
          Single.writes_int code s statements T m a cost one rest same pc running fi fr int_ok ref_ok r (truth (ref m x == ref m y)) _
          (Single.same_reference code s statements T m a cost one rest same pc running fi fr int_ok ref_ok x y) k.writes
      single (Instr.ChkWidth width r site) one_turn is k finds quiet tried =
          Single.is_asserted code s statements T m a cost one rest same pc running fi fr int_ok ref_ok (holds width (int m r)) (holds width (Form.int a r)) Trap.OutOfRange site (ap (holds width) (int_is code s T m a same r)) (ap (λ i. step p i a) is)
      single (Instr.Jump to) one_turn is k finds quiet tried = Single.jumps code s statements T m a cost one rest same pc running fi fr int_ok ref_ok to
      single (Instr.JumpIfZero r to) one_turn is k finds quiet tried = Single.jumps_if code s statements T m a cost one rest same pc running fi fr int_ok ref_ok (is_zero (int m r)) (is_zero (Form.int a r)) to (ap is_zero (int_is code s T m a same r))
      single (Instr.JumpIfNull r to) one_turn is k finds quiet tried = Single.jumps_if code s statements T m a cost one rest same pc running fi fr int_ok ref_ok (ref m r == 0) (is_null (Form.ref a r)) to (null_at code s T m a same r)
      single (Instr.Call f ints refs site) one_turn is k finds quiet tried =
          Calling.calls code s statements T m a cost one rest same pc running f ints refs site w.few (call_ints ints k.writes.0) (call_refs refs k.writes.1) (ap (λ i. step p i a) is)
      single (Instr.Return site) one_turn is k finds quiet tried = Calling.returns code s statements T m a cost one rest same pc running site w.some (ap (λ i. step p i a) is)
      single (Instr.ChkNull r site) one_turn is k finds quiet tried =
          Single.is_asserted code s statements T m a cost one rest same pc running fi fr int_ok ref_ok (not (ref m r == 0)) (not (is_null (Form.ref a r))) Trap.NullPointer site (ap not (null_at code s T m a same r)) (ap (λ i. step p i a) is)
      single (Instr.ChkHeld cell site) one_turn is k finds quiet tried =
          Single.is_asserted code s statements T m a cost one rest same pc running fi fr int_ok ref_ok _ (Form.is_held a.held (Form.cell_at p a cell)) Trap.MutexNotHeld site
          (Single.mutex_held code s statements T m a cost one rest same pc running fi fr int_ok ref_ok good.apart cell finds) (ap (λ i. step p i a) is)
      single (Instr.ChkNotHeld cell site) one_turn is k finds quiet tried =
          Single.is_asserted code s statements T m a cost one rest same pc running fi fr int_ok ref_ok _ (not (Form.is_held a.held (Form.cell_at p a cell))) Trap.MutexAlreadyHeld site
          (ap not (Single.mutex_held code s statements T m a cost one rest same pc running fi fr int_ok ref_ok good.apart cell finds)) (ap (λ i. step p i a) is)
      single (Instr.ChkPositive r site) one_turn is k finds quiet tried =
          Single.is_asserted code s statements T m a cost one rest same pc running fi fr int_ok ref_ok (is_positive (int m r)) (is_positive (Form.int a r)) Trap.SizeNotPositive site (ap is_positive (int_is code s T m a same r)) (ap (λ i. step p i a) is)
      single (Instr.ChkRoom site) one_turn is k finds quiet tried =
          Single.is_asserted code s statements T m a cost one rest same pc running fi fr int_ok ref_ok (nat_lt (length m.own.held) 16) (nat_lt (length a.held) 16) Trap.TooManyLocks site
          (ap (λ n. nat_lt n 16) (log_length _ _ a.held m.own.held same.in_log)) (ap (λ i. step p i a) is)
      single (Instr.ChkLock cell site) one_turn is k finds quiet tried =
          Single.locks_checked code s statements T m a cost one rest same pc running fi fr int_ok ref_ok good.apart (is_of_null m cell) (Form.is_of_null a cell) (object m cell) (place m cell) (Form.cell_at p a cell) site (null_cell code s T m a same cell)
          (λ e. Single.mutex_held code s statements T m a cost one rest same pc running fi fr int_ok ref_ok good.apart cell (lock_there cell finds e)) (ap (λ i. step p i a) is)
      single (Instr.ChkLockLoaded site) one_turn is k finds quiet tried =
          Single.locks_checked code s statements T m a cost one rest same pc running fi fr int_ok ref_ok good.apart (m.pending == 0) (is_null a.pending) m.pending (cell_of m.pending 0) (made_cell (number_of a.pending) 0) site (pending_null code s T m a same)
          (λ e. let some = some_number m.pending e in Single.log_of code s statements T m a cost one rest same pc running fi fr int_ok ref_ok good.apart m.pending (cell_of m.pending 0) (made_cell (number_of a.pending) 0)
          (subst (λ n. IsCell code.globals.items m.pending (cell_of m.pending 0) (made_cell n 0)) (sym (pending_number code s T m a same)) (record { number_is = refl; place_is = refl; known = some })) (finds some)) (ap (λ i. step p i a) is)
      single (Instr.Bounds r base cells field site) one_turn is k finds quiet tried =
          Single.indexes code s statements T m a cost one rest same pc running fi fr int_ok ref_ok r (int m r) (Form.int a r) cells field site found (elements_of (Form.ref a base)) (int_is code s T m a same r) (elements_found base finds.some finds.elements) finds.few k.writes (ap (λ i. step p i a) is)
      single (Instr.GlobalBounds r elements cells field site) one_turn is k finds quiet tried =
          Single.indexes code s statements T m a cost one rest same pc running fi fr int_ok ref_ok r (int m r) (Form.int a r) cells field site elements elements (int_is code s T m a same r) refl k.few k.writes (ap (λ i. step p i a) is)
      single (Instr.ChkRead cell site) one_turn is k finds quiet tried =
          Single.checks code s statements T m a cost one rest same pc running fi fr int_ok ref_ok Kind.Read (granule_at s (granule_of (place m cell))) site found (Form.cell_at p a cell) (ap (λ i. step p i a) is)
      single (Instr.ChkWrite cell site) one_turn is k finds quiet tried =
          Single.checks code s statements T m a cost one rest same pc running fi fr int_ok ref_ok Kind.Write (granule_at s (granule_of (place m cell))) site found (Form.cell_at p a cell) (ap (λ i. step p i a) is)
      single (Instr.Load r cell site) one_turn is k finds quiet tried = Asking.loads code s statements T m a cost one rest same pc running fi fr int_ok ref_ok r cell site found k.writes
      single (Instr.Store r cell site) one_turn is k finds quiet tried = Asking.stores code s statements T m a cost one rest same pc running fi fr int_ok ref_ok r cell site
      single (Instr.LoadRef cell site) one_turn is k finds quiet tried = Asking.loads_ref code s statements T m a cost one rest same pc running fi fr int_ok ref_ok cell site found finds
      single (Instr.Exchange r cell site) one_turn is k finds quiet tried = Asking.exchanges code s statements T m a cost one rest same pc running fi fr int_ok ref_ok r cell site found finds k.writes
      single (Instr.Raise r from) one_turn is k finds quiet tried =
          subst (λ x. Turned code s statements T m a cost (step p (Instr.Raise r from) a) 1 x None) (sym (Asking.raised s (ref m from) (goes (set_ref m r (ref m from))) found))
          (Single.writes_ref code s statements T m a cost one rest same pc running fi fr int_ok ref_ok r (ref m from) (Form.ref a from) (ref_is code s T m a same from) k.writes)
      single (Instr.RaiseLoaded r) one_turn is k finds quiet tried =
          subst (λ x. Turned code s statements T m a cost (step p (Instr.RaiseLoaded r) a) 1 x None) (sym (Asking.raised s m.pending (goes (accessed (set_ref m r m.pending))) found))
          (Single.goes_plain code s statements T m a cost one rest same pc running fi fr int_ok ref_ok (goes (accessed (set_ref m r m.pending))) (Form.next (Form.accessed (Form.set_ref a r a.pending)))
          (pending_same code s T (set_ref m r m.pending) (Form.set_ref a r a.pending) (set_ref_same code s T m a same r m.pending a.pending same.loaded (ref_ok r k.writes)) 0 NULL (no_reference T)) refl refl refl refl refl refl)
      single (Instr.Lower r) one_turn is k finds quiet tried =
          subst (λ x. Turned code s statements T m a cost (step p (Instr.Lower r) a) 1 x None) (sym (lower_goes s (ref m r) (goes (set_ref m r 0)) found))
          (Single.goes_plain code s statements T m a cost one rest same pc running fi fr int_ok ref_ok (goes (set_ref m r 0)) (Form.next (Form.lowered a r)) (null_same code s T m a same r (ref_ok r k.writes)) refl refl refl refl refl refl)
      single (Instr.TakeCell r cell site) one_turn is k finds quiet tried = Asking.takes_cell code s statements T m a cost one rest same pc running fi fr int_ok ref_ok r cell site found finds k.writes
      single (Instr.TakeLocal r from site) one_turn is k finds quiet tried = Asking.takes_local code s statements T m a cost one rest same pc running fi fr int_ok ref_ok r from site found k.writes.0 k.writes.1
      single (Instr.TestSole r site) one_turn is k finds quiet tried = Single.tests_sole code s statements T m a cost one rest same pc running fi fr int_ok ref_ok (Form.ref a r) site found (ap (λ i. step p i a) is)
      single (Instr.Give r site) one_turn is k finds quiet tried =
          Asking.tells code s statements T m a cost one rest same pc running fi fr int_ok ref_ok site _ (Act.Give (Form.ref a r) (Form.object_mode p a site))
          (ap (λ v. Act.Give v (mode_of code m (made_cell 0 0) (place_at code site).mode)) (sym (ref_is code s T m a same r).is) ∙ ap (Act.Give (Form.ref a r)) (sym (mode_is code s T m a same statements (made_cell 0 0) (place_at code site).mode)))
          (goes m) same refl refl refl
      single (Instr.Lock cell site) one_turn is k finds quiet tried = Asking.locks code s statements T m a cost one rest same pc running fi fr int_ok ref_ok good.apart cell site found finds k.writes tried
      single (Instr.Unlock r cell site) one_turn is k finds quiet tried = Asking.unlocks code s statements T m a cost one rest same pc running fi fr int_ok ref_ok good.apart r cell site finds k.writes
      single (Instr.Join r site) one_turn is k finds quiet tried = Asking.joins code s statements T m a cost one rest same pc running fi fr int_ok ref_ok r site found (int m r) (sym (int_is code s T m a same r)) is quiet tried
      single (Instr.Print r site) one_turn is k finds quiet tried =
          Asking.tells code s statements T m a cost one rest same pc running fi fr int_ok ref_ok site (Act.Print (int m r)) (Act.Print (Form.int a r)) (ap Act.Print (sym (int_is code s T m a same r))) _ same refl refl refl
      single (Instr.Start site) one_turn is k finds quiet tried = absurd k.leads
      single (Instr.CondEnter cell site) one_turn is k finds quiet tried =
          Asking.tells code s statements T m a cost one rest same pc running fi fr int_ok ref_ok site (Act.Enter (cell_at code m cell)) (Act.Enter (Form.cell_at p a cell)) (ap Act.Enter (sym (cell_is code s T m a same statements cell))) (goes m) same refl refl refl
      single (Instr.CondWait cell site) one_turn is k finds quiet tried = Asking.wakes code s statements T m a cost one rest same pc running fi fr int_ok ref_ok cell site found tried
      single (Instr.CondBroadcast cell site) one_turn is k finds quiet tried =
          Asking.tells code s statements T m a cost one rest same pc running fi fr int_ok ref_ok site (Act.Broadcast (cell_at code m cell)) (Act.Broadcast (Form.cell_at p a cell)) (ap Act.Broadcast (sym (cell_is code s T m a same statements cell))) (goes m) same refl refl refl
      single _ one_turn is k finds quiet tried = absurd one_turn

    -- ---- any statement of a body
    pub by_kind : (i : Instr) → statement_at p a.pc ≡ i → IsAtPlace p good.owner a.pc i → IsAtStage m i m.own.stage → MayFind code s T m found (instr_of code.functions.items i)
        → (asked_by (act code s (instr_of code.functions.items i) m) ≡ None → found ≡ 0)
        → (is_failed_try (after (act code s (instr_of code.functions.items i) m) found).at.state ≡ true → cost ≡ 0) → Goal i
    by_kind (Instr.New r count cells site) is k at finds quiet tried =
        Staged.makes_new code s statements T m a cost one same pc fi fr int_ok ref_ok r count cells site is (running_in (Instr.New r count cells site) (λ e. cc) at) k.writes m.own.stage refl at found finds rep
    by_kind (Instr.Clear r cells) is k at finds quiet tried =
        Staged.clears code s statements T m a cost one same pc fi fr int_ok ref_ok r cells is (running_in (Instr.Clear r cells) (λ e. cc) at) m.own.stage refl at found rep
    by_kind (Instr.Free r layout site) is k at finds quiet tried =
        Staged.frees code s statements T m a cost one same pc fi fr int_ok ref_ok r layout site is (running_in (Instr.Free r layout site) (λ e. cc) at) k.writes m.own.stage refl at found rep
    by_kind (Instr.Spawn r function from site) is k at finds quiet tried =
        Staged.spawns code s statements T m a cost one same pc fi fr int_ok ref_ok r function from site is (running_in (Instr.Spawn r function from site) (λ e. cc) at) k.writes.0 k.writes.1 m.own.stage refl at found
    by_kind Instr.Exit is k at finds quiet tried = absurd k.leads
    by_kind (Instr.CondSignal cell site) is k at finds quiet tried =
        Staged.signals code s statements T m a cost one same pc fi fr int_ok ref_ok cell site is (running_in (Instr.CondSignal cell site) (λ e. cc) at) m.own.stage refl at found rep
    by_kind i is k at finds quiet tried =
        single (rest_of m i tt m.own.stage at) (phase ∙ ap phase_at (rest_of m i tt m.own.stage at)) i tt is k finds quiet tried

  -- ---- the Exit after the last return
  pub at_exit : statement_at p a.pc ≡ Instr.Exit → a.phase ≡ phase_at m.own.stage → (repeats m.own.stage found ≡ true → cost ≡ 0) → IsAtStage m Instr.Exit m.own.stage → Goal Instr.Exit
  at_exit is phase rep at =
      subst (λ ph. Turned code s statements T m a cost (Form.exit p a ph) 1 (after (act code s Instr.Exit m) found) (said code Instr.Exit m found (T 0))) (sym phase)
      (Staged.exits code s statements T m a cost one same pc 0 0 (λ r lt. absurd (omega arith)) (λ r lt. absurd (omega arith)) is m.own.stage refl at phase found rep)
