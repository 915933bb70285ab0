-- Each turn comes out in one of eleven ways.
use Rattle.sharc_code.proofs.Imports.{◌≡◌, ℕ, ℤ, pos, negsuc, zero, suc, ◌+◌, ◌*◌, min, Bool, true, false, not, ◌&&◌, ◌||◌, ◌==◌, nat_lt, length, is_some, if◌then◌else◌, refl, ap, inl, inr, Some, Decides-ltb, Result, Ok, Err, Trap, THREADS, WordOp, waits_in, Kind, Read, Write, note_of, site_at, epoch_of, conflicts_in, noted, NewView, told, turn_of, NewTurn, Do, Made, HeapFull, Int, Long, Code, Layout, Parameter, Cell, GlobalAt, Object, ObjectAt, Register, Instr, Shape, Stage, Rests, Looks, Clears, Makes, Empties, Lowers, FreeLooks, FreeClears, Uncounts, Links, Names, Hands, Begins, Enters, Withdraws, WithdrawsFrom, Leaves, Wakes, Stop, Conflict, NoLock, NotSole, Trapped, Runs, computed, negated, is_zero, holds, granule_at, granule_of, cell_of, cell_word, state_word, Machine, Own, act, int, ref, goes, goes_to, asserts, with_result, has_room, called, returned, holds_none, is_of_null, is_held, indexed, wrote, checked, lock_checked, raise, lower, test, tested, after_new, asks_new, new, new_state, elements_of, rests, looks, clear, data_granules, free_looks, empties, emptied, free, layout_at, spawn, with_parameter, start, function_of, withdraws, exit, signal, is_positive, fields, largest, at_stage, place, set_ref, accessed, move_ref, trapped, stopped, fails, locked, joined, join, woken, word, Local, Asks, step_of, TurnOutcome, Goes, Fails, Stops, Stays, Rested, Notes, Logs, Prints, Begun, Refused, Gone, own_after, state_after, MayComeOut, ComesOut, IsNextStage, has_stage, is_trying, check_of, MayStop, IsStill, after, IsStageOf}
use Rattle.sharc_code.specs.{declared.instr.Cell.TheVariants.Global, declared.instr.Instr.TheVariants.Bounds}

-- ---- what instructions share
module _ (s : Shape) (i : Instr) (found : ℕ) (m : Machine) where
  abbrev Out : Machine → Type 0
  Out x = ComesOut s i found m x

  comes : (o : TurnOutcome) → MayComeOut s i m found o → (x : Machine) → x.own ≡ own_after o m.own → x.at.state ≡ state_after o → x.pending ≡ m.pending → IsStill o m x → Out x
  comes o may x own state pending still = record { outcome = o; may = may; own = own; state = state; still = still; pending = inl pending }

  plain : (x : Machine) → x.own ≡ m.own → x.at.state ≡ Runs → x.pending ≡ m.pending → Out x
  plain x own state pending = comes Goes tt x own state pending tt

  over : (x : Machine) → x.own ≡ m.own → x.at.state ≡ Runs → x.pending ≡ 0 → Out x
  over x own state pending = record { outcome = Goes; may = tt; own = own; state = state; still = tt; pending = inr (inl pending) }

  fail : is_trying i ≡ true → Out (fails m)
  fail is = comes Fails is (fails m) refl refl refl refl

  stop : (why : Stop) → MayStop s i m found why → Out (stopped m why)
  stop why may = comes (Stops why) may (stopped m why) refl refl refl refl

  trap : (c : Trap) (site : ℕ) → Out (trapped m c site)
  trap c site = stop (Trapped c site) tt

  stays : (stage : Stage) → has_stage i stage ≡ true → IsNextStage s found m.own.stage stage → Out (at_stage m stage)
  stays stage has next = comes (Stays stage) (has, next) (at_stage m stage) refl refl refl tt

  rested : (x : Machine) → x.own ≡ record m.own { stage = Rests; heads = x.own.heads } → x.at.state ≡ Runs → x.pending ≡ m.pending → Out x
  rested x own state pending = comes (Rested x.own.heads) tt x own state pending tt

  either : (b : Bool) (x y : Machine) → Out x → Out y → Out (if b then x else y)
  either true x y h k = h
  either false x y h k = k

  at_call : (pc ints refs site : ℕ) → Out (called m pc ints refs site)
  at_call pc ints refs site = either (has_room m ints refs) _ _ (plain _ refl refl refl) (trap Trap.CallDepth site)

  at_result : (r site : ℕ) (z : Result ℤ Trap) → Out (with_result m r site z)
  at_result r site (Ok z) = plain _ refl refl refl
  at_result r site (Err c) = trap c site

  at_assert : (b : Bool) (c : Trap) (site : ℕ) → Out (asserts m b c site)
  at_assert true c site = plain _ refl refl refl
  at_assert false c site = trap c site

  at_jump : (b : Bool) (pc : ℕ) → Out (if b then goes_to m pc else goes m)
  at_jump b pc = either b _ _ (plain _ refl refl refl) (plain _ refl refl refl)

  at_return : (code : Code) (site : ℕ) → Out (returned code m site)
  at_return code site = either (m.at.depth == 0) _ _ (plain _ refl refl refl)
      (either (m.at.depth == 1 && not (holds_none m.own.held)) _ _ (trap Trap.ReturnWithLockHeld site) (plain _ refl refl refl))

  at_index : (r : ℕ) (z : ℤ) (cells field site elements : ℕ) → Out (indexed m r z cells field site elements)
  at_index r (pos n) cells field site elements = either (nat_lt n elements) _ _ (plain _ refl refl refl) (trap Trap.IndexOutOfBounds site)
  at_index r (negsuc n) cells field site elements = trap Trap.IndexOutOfBounds site

  module _ (kind : Kind) (cell : Cell) (site : ℕ) (is : i ≡ check_of kind cell site) where
    abbrev granule : ℕ
    granule = granule_at s (granule_of (place m cell))

    noted_or_not : (b : Bool) → Out (record m { at = (goes m).at; own = if b then m.own else record m.own { table = noted m.own.table granule kind record { epoch = epoch_of found; site = site } } })
    noted_or_not true = plain _ refl refl refl
    noted_or_not false = comes (Notes granule kind record { epoch = epoch_of found; site = site }) (cell, is, refl, refl) _ refl refl refl tt

    at_check : Out (checked m kind granule site found)
    at_check = either (conflicts_in found m.own.number kind (wrote m granule found)) _ _
        (stop (Conflict record { kind = kind; site = site; granule = granule; epoch = epoch_of found; old = found }) (cell, is, refl, refl, refl))
        (noted_or_not (is_some (site_at (note_of m.own.table granule kind) (epoch_of found))))

  at_lock_check : (null : Bool) (mutex site : ℕ) → (null ≡ false → is_held m mutex ≡ false → MayStop s i m found (NoLock site mutex)) → Out (lock_checked m null mutex site)
  at_lock_check true mutex site reports = trap Trap.NullPointer site
  at_lock_check false mutex site reports = elim (is_held m mutex) as (λ b. is_held m mutex ≡ b → Out (if b then goes m else stopped m (NoLock site mutex))) [
    | true ↦ λ e. plain _ refl refl refl
    | false ↦ λ e. stop (NoLock site mutex) (reports refl e)
  ] refl

  at_raise : (h : ℕ) (x : Machine) → Out x → Out (after (raise s h x) found)
  at_raise zero x out = out
  at_raise (suc n) x out = out

  at_lower : (h : ℕ) (x : Machine) → Out x → Out (after (lower s h x) found)
  at_lower zero x out = out
  at_lower (suc n) x out = out

  at_test : (h : ℕ) (x : Machine) → Out x → Out (after (test s h x) found)
  at_test zero x out = out
  at_test (suc n) x out = out

  at_sole : (r site : ℕ) → i ≡ Instr.TestSole r site → Out (tested m site found)
  at_sole r site is = either (found == 1) _ _ (plain _ refl refl refl) (stop (NotSole site found) (r, is, refl))

  -- the shape that a New is given stays
  abbrev Keeps_shape : NewView → Type 0
  Keeps_shape view = IsNextStage s found m.own.stage (Makes view)

  at_after_new : (r site : ℕ) (view : NewView) (t : NewTurn) → has_stage i (Makes view) ≡ true → Keeps_shape view → Out (after_new m r site view t)
  at_after_new r site view (Do step) has next = stays (Makes view) has next
  at_after_new r site view (Made header) has next = rested _ refl refl refl
  at_after_new r site view HeapFull has next = trap Trap.HeapFull site

  at_ask_new : (r site : ℕ) (view : NewView) (t : NewTurn) → has_stage i (Makes (told view found)) ≡ true → Keeps_shape view → Out (after (asks_new m r site view t) found)
  at_ask_new r site view (Do step) has next = at_after_new r site (told view found) (turn_of (told view found)) has next
  at_ask_new r site view (Made header) has next = rested _ refl refl refl
  at_ask_new r site view HeapFull has next = trap Trap.HeapFull site

-- ---- instructions of several turns, and those that try
module _ (code : Code) (s : Shape) (m : Machine) where
  at_new : (r count n elements site : ℕ) (stage : Stage) (found : ℕ) → (IsStageOf s m.own.stage → IsStageOf s stage)
      → ComesOut s (Instr.New r count n site) found m (after (new s m r elements n site stage) found)
  at_new r count n elements site (Makes view) found next = at_ask_new s (Instr.New r count n site) found m r site view (turn_of view) refl next
  at_new r count n elements site _ found next =
      let view : NewView = told (new_state s m elements n) 0 in
      at_ask_new s (Instr.New r count n site) found m r site view (turn_of view) refl (λ h. (refl, refl))

  at_look : (r n done all found : ℕ) → ComesOut s (Instr.Clear r n) found m (looks m done all)
  at_look r n done all found = either _ _ _ _ (nat_lt done all) _ _ (stays _ _ _ _ (Looks done all) refl tt) (rested _ _ _ _ _ refl refl refl)

  at_clear : (r n h : ℕ) (stage : Stage) (found : ℕ) → ComesOut s (Instr.Clear r n) found m (after (clear s m h n stage) found)
  at_clear r n h (Looks done all) found = stays _ _ _ _ (Clears done all found) refl tt
  at_clear r n h (Clears done all seen) found = at_look r n (done + 1) all found
  at_clear r n h _ found = at_look r n 0 (data_granules found n) found

  module _ (r layout site found : ℕ) where
    abbrev Frees : Machine → Type 0
    Frees x = ComesOut s (Instr.Free r layout site) found m x

    remains : (stage : Stage) → has_stage (Instr.Free r layout site) stage ≡ true → IsNextStage s found m.own.stage stage → Frees (at_stage m stage)
    remains stage has next = stays s (Instr.Free r layout site) found m stage has next

    at_free_look : (l : Layout) (done elements : ℕ) → Frees (free_looks m l done elements)
    at_free_look l done elements = either _ _ _ _ (nat_lt done (data_granules elements l.cells)) _ _ (remains (FreeLooks done elements) refl tt) (remains (Uncounts elements) refl tt)

    at_empty : (l : Layout) (j elements : ℕ) → Frees (empties m l j elements)
    at_empty l j elements = either _ _ _ _ (nat_lt j (min (elements * fields l) largest)) _ _ (remains (Empties j elements) refl tt) (at_free_look l 0 elements)

    at_emptied : (l : Layout) (j elements h : ℕ) → Frees (emptied m l j elements h)
    at_emptied l j elements zero = at_empty l (j + 1) elements
    at_emptied l j elements (suc h) = remains (Lowers j elements (suc h)) refl tt

    at_free : (l : Layout) (stage : Stage) → Frees (after (free code s m r l stage) found)
    at_free l (Empties j elements) = at_emptied l j elements found
    at_free l (Lowers j elements was) = at_empty l (j + 1) elements
    at_free l (FreeLooks done elements) = remains (FreeClears done elements found) refl tt
    at_free l (FreeClears done elements seen) = at_free_look l (done + 1) elements
    at_free l (Uncounts elements) = remains (Links elements) refl tt
    at_free l (Links elements) = rested _ _ _ _ _ refl refl refl
    at_free l _ = at_empty l 0 found

  at_numbered : (r function : ℕ) (from : Register) (site n : ℕ) (b : Bool) → nat_lt n THREADS ≡ b → ComesOut s (Instr.Spawn r function from site) n m (if b then at_stage m (Names n) else trapped m Trap.ThreadLimit site)
  at_numbered r function from site n true e = stays _ _ _ _ (Names n) refl (refl, (Decides-ltb n THREADS).0 e)
  at_numbered r function from site n false e = trap _ _ _ _ Trap.ThreadLimit site

  at_spawn : (r function : ℕ) (from : Register) (site : ℕ) (stage : Stage) (found : ℕ) → m.own.stage ≡ stage → ComesOut s (Instr.Spawn r function from site) found m (after (spawn m r function from site stage) found)
  at_spawn r function from site (Names n) found e = stays _ _ _ _ (Hands n) refl e
  at_spawn r function from site (Hands n) found e = stays _ _ _ _ (Begins n) refl e
  at_spawn r function (Register.Int a) site (Begins n) found e = rested _ _ _ _ _ refl refl refl
  at_spawn r function (Register.Reference a) site (Begins n) found e = rested _ _ _ _ _ refl refl refl
  at_spawn r function from site _ found e = at_numbered r function from site found (nat_lt found THREADS) refl

  at_joined : (r site found : ℕ) → ComesOut s (Instr.Join r site) found m (joined m site found)
  at_joined r site found = either _ _ _ _ (found == 0) _ _ (trap _ _ _ _ Trap.NoSuchThread site) (either _ _ _ _ (found == 1 || found == 2) _ _ (fail _ _ _ _ refl) (plain _ _ _ _ _ refl refl refl))

  at_join : (r : ℕ) (z : ℤ) (site found : ℕ) → ComesOut s (Instr.Join r site) found m (after (join m z site) found)
  at_join r (pos n) site found =
      elim (nat_lt n THREADS) as (λ b. ComesOut s (Instr.Join r site) found m (after (if b then Asks (step_of (state_word n) WordOp.Load) (joined m site) else Local (trapped m Trap.NoSuchThread site)) found)) [
        | true ↦ at_joined r site found
        | false ↦ trap _ _ _ _ Trap.NoSuchThread site
      ]
  at_join r (negsuc n) site found = trap _ _ _ _ Trap.NoSuchThread site

  at_lock : (cell : Cell) (site mutex found : ℕ) → ComesOut s (Instr.Lock cell site) found m (locked m cell mutex found)
  at_lock (Global global cell) site mutex found = either _ _ _ _ (found == 0) _ _ (comes _ _ _ _ (Logs _) refl _ refl refl refl tt) (fail _ _ _ _ refl)
  at_lock (GlobalAt global r) site mutex found = either _ _ _ _ (found == 0) _ _ (comes _ _ _ _ (Logs _) refl _ refl refl refl tt) (fail _ _ _ _ refl)
  at_lock (Object r cell) site mutex found = either _ _ _ _ (found == 0) _ _ (comes _ _ _ _ (Logs _) refl _ refl refl refl tt) (fail _ _ _ _ refl)
  at_lock (ObjectAt r at) site mutex found = either _ _ _ _ (found == 0) _ _ (comes _ _ _ _ (Logs _) refl _ refl refl refl tt) (fail _ _ _ _ refl)

  at_woken : (cell : Cell) (site found : ℕ) → ComesOut s (Instr.CondWait cell site) found m (woken m found)
  at_woken cell site found = either _ _ _ _ (waits_in found m.own.number) _ _ (fail _ _ _ _ refl) (plain _ _ _ _ _ refl refl refl)

  module _ (site function entry found : ℕ) where
    begins : (x : Machine) → x.own ≡ record m.own { stage = Rests; function = function } → x.pending ≡ m.pending → ComesOut s (Instr.Start site) found m (called x entry 0 0 site)
    begins x own pending = either _ _ _ _ (has_room x 0 0) _ _ (comes _ _ _ _ (Begun function) refl _ own refl pending tt)
        (comes _ _ _ _ (Refused function site) refl _ (ap (λ (o : Own). record o { stop = Some (Trapped Trap.CallDepth site) }) own) refl pending tt)

    at_enter : (p : Parameter) → ComesOut s (Instr.Start site) found m (called (with_parameter (record m { own = record m.own { stage = Rests; function = function } }) p found) entry 0 0 site)
    at_enter Parameter.None = begins (record m { own = record m.own { stage = Rests; function = function } }) refl refl
    at_enter Parameter.Int = begins (with_parameter (record m { own = record m.own { stage = Rests; function = function } }) Parameter.Int found) refl refl
    at_enter Parameter.Reference = begins (with_parameter (record m { own = record m.own { stage = Rests; function = function } }) Parameter.Reference found) refl refl

  at_start : (site : ℕ) (stage : Stage) (found : ℕ) → ComesOut s (Instr.Start site) found m (after (start code m site stage) found)
  at_start site (Enters function) found = at_enter site function (function_of code function).entry found (function_of code function).parameter
  at_start site _ found = stays _ _ _ _ _ refl tt

  at_withdraw : (row found : ℕ) → ComesOut s Instr.Exit found m (withdraws m row)
  at_withdraw row found = either _ _ _ _ (nat_lt row (length m.own.table.order)) _ _ (stays _ _ _ _ (Withdraws row) refl tt) (stays _ _ _ _ Leaves refl tt)

  at_exit : (stage : Stage) (found : ℕ) → ComesOut s Instr.Exit found m (after (exit s m stage) found)
  at_exit (Withdraws row) found = stays _ _ _ _ (WithdrawsFrom row found) refl tt
  at_exit (WithdrawsFrom row seen) found = either _ _ _ _ (found == seen) _ _ (at_withdraw (row + 1) found) (stays _ _ _ _ (WithdrawsFrom row found) refl tt)
  at_exit Leaves found = comes _ _ _ _ Gone refl _ refl refl refl tt
  at_exit _ found = at_withdraw 0 found

  at_wake : (cell : Cell) (site found : ℕ) (b : Bool) → (found == 0) ≡ b → ComesOut s (Instr.CondSignal cell site) found m (if b then rests m else at_stage m (Wakes found))
  at_wake cell site found true e = rested _ _ _ _ _ refl refl refl
  at_wake cell site found false e = stays _ _ _ _ (Wakes found) (ap not e) tt

  at_signal : (cell : Cell) (site cond : ℕ) (stage : Stage) (found : ℕ) → ComesOut s (Instr.CondSignal cell site) found m (after (signal m cond stage) found)
  at_signal cell site cond (Wakes seen) found = either _ _ _ _ (found == seen) _ _ (rested _ _ _ _ _ refl refl refl) (at_wake cell site found (found == 0) refl)
  at_signal cell site cond _ found = at_wake cell site found (found == 0) refl

  -- ---- every instruction
  pub comes_out : (i : Instr) (found : ℕ) → ComesOut s i found m (after (act code s i m) found)
  comes_out (Instr.ComputeInt operator r a b site) found = at_result _ _ _ _ r site (computed Int operator (int m a) (int m b))
  comes_out (Instr.ComputeLong operator r a b site) found = at_result _ _ _ _ r site (computed Long operator (int m a) (int m b))
  comes_out (Instr.NegateInt r a site) found = at_result _ _ _ _ r site (negated Int (int m a))
  comes_out (Instr.NegateLong r a site) found = at_result _ _ _ _ r site (negated Long (int m a))
  comes_out (Instr.ChkWidth width r site) found = at_assert _ _ _ _ (holds width (int m r)) Trap.OutOfRange site
  comes_out (Instr.JumpIfZero r pc) found = at_jump _ _ _ _ (is_zero (int m r)) pc
  comes_out (Instr.JumpIfNull r pc) found = at_jump _ _ _ _ (ref m r == 0) pc
  comes_out (Instr.Call pc ints refs site) found = at_call _ _ _ _ pc ints refs site
  comes_out (Instr.Return site) found = at_return _ _ _ _ code site
  comes_out (Instr.ChkNull r site) found = at_assert _ _ _ _ (not (ref m r == 0)) Trap.NullPointer site
  comes_out (Instr.ChkHeld cell site) found = at_assert _ _ _ _ (is_held m (word s m cell)) Trap.MutexNotHeld site
  comes_out (Instr.ChkNotHeld cell site) found = at_assert _ _ _ _ (not (is_held m (word s m cell))) Trap.MutexAlreadyHeld site
  comes_out (Instr.ChkPositive r site) found = at_assert _ _ _ _ (is_positive (int m r)) Trap.SizeNotPositive site
  comes_out (Instr.ChkRoom site) found = at_assert _ _ _ _ (nat_lt (length m.own.held) 16) Trap.TooManyLocks site
  comes_out (Instr.ChkLock cell site) found = at_lock_check _ _ _ _ (is_of_null m cell) (word s m cell) site (λ e unheld. inl (cell, refl, e, refl, unheld))
  comes_out (Instr.ChkLockLoaded site) found = at_lock_check _ _ _ _ (m.pending == 0) (cell_word s (cell_of m.pending 0)) site (λ e unheld. inr (refl, e, refl, unheld))
  comes_out (Bounds r base cells field site) found = at_index _ _ _ _ r (int m r) cells field site found
  comes_out (Instr.GlobalBounds r elements cells field site) found = at_index _ _ _ _ r (int m r) cells field site elements
  comes_out (Instr.ChkRead cell site) found = at_check _ _ _ _ Read cell site refl
  comes_out (Instr.ChkWrite cell site) found = at_check _ _ _ _ Write cell site refl
  comes_out (Instr.Load r cell site) found = over _ _ _ _ _ refl refl refl
  comes_out (Instr.Store r cell site) found = over _ _ _ _ _ refl refl refl
  comes_out (Instr.LoadRef cell site) found = record { outcome = Goes; may = tt; own = refl; state = refl; still = tt; pending = inr (inr refl) }
  comes_out (Instr.Exchange r cell site) found = over _ _ _ _ _ refl refl refl
  comes_out (Instr.Raise r from) found = at_raise _ _ _ _ (ref m from) (goes (set_ref m r (ref m from))) (plain _ _ _ _ _ refl refl refl)
  comes_out (Instr.RaiseLoaded r) found = at_raise _ _ _ _ m.pending (goes (accessed (set_ref m r m.pending))) (over _ _ _ _ _ refl refl refl)
  comes_out (Instr.Lower r) found = at_lower _ _ _ _ (ref m r) (goes (set_ref m r 0)) (plain _ _ _ _ _ refl refl refl)
  comes_out (Instr.New r count cells site) found = at_new r count cells (elements_of (int m count)) site m.own.stage found (λ h. h)
  comes_out (Instr.TakeCell r cell site) found = over _ _ _ _ _ refl refl refl
  comes_out (Instr.TakeLocal r from site) found = at_test _ _ _ _ (ref m from) (goes (move_ref m r from)) (plain _ _ _ _ _ refl refl refl)
  comes_out (Instr.TestSole r site) found = at_sole _ _ _ _ r site refl
  comes_out (Instr.Clear r cells) found = at_clear r cells (ref m r) m.own.stage found
  comes_out (Instr.Free r layout site) found = at_free r layout site found (layout_at code layout) m.own.stage
  comes_out (Instr.Lock cell site) found = at_lock cell site (word s m cell) found
  comes_out (Instr.Unlock r cell site) found = comes _ _ _ _ (Logs _) refl _ refl refl refl tt
  comes_out (Instr.Spawn r function from site) found = at_spawn r function from site m.own.stage found refl
  comes_out (Instr.Join r site) found = at_join r (int m r) site found
  comes_out (Instr.Print r site) found = comes _ _ _ _ (Prints _) refl _ refl refl refl tt
  comes_out (Instr.Start site) found = at_start site m.own.stage found
  comes_out Instr.Exit found = at_exit m.own.stage found
  comes_out (Instr.CondWait cell site) found = at_woken cell site found
  comes_out (Instr.CondSignal cell site) found = at_signal cell site (word s m cell) m.own.stage found
  comes_out _ found = plain _ _ _ _ _ refl refl refl
