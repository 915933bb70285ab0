-- To which place a turn of typed code leads: what holds of each way on holds of the turn.
use Rattle.sharc_history_laws.proofs.Imports.{◌≡◌, ℕ, ℤ, pos, negsuc, zero, suc, ◌+◌, ◌-◌, ◌<◌, Bool, true, false, not, ◌&&◌, ◌||◌, length, List, [], ◌∷◌, Some, if◌then◌else◌, refl, sym, ap, ◌∙◌, subst, ⊎_elim, arith, ◌==◌, nat_lt, Result, Ok, Err, slice_index_or, Trap, THREADS, WordOp, waits_in, Kind, Read, Write, epoch_of, conflicts_in, NewView, told, turn_of, NewTurn, Do, Made, HeapFull, Code, Cell, Register, Int, Long, Char, Instr, Shape, Stage, Looks, Clears, Makes, FreeLooks, FreeClears, Uncounts, Names, Hands, Begins, Wakes, Withdraws, WithdrawsFrom, Leaves, computed, negated, is_zero, holds, granule_at, granule_of, cell_of, cell_word, state_word, Machine, act, int, ref, goes, asserts, with_result, has_room, called, returned, holds_none, is_of_null, is_held, indexed, wrote, checked, lock_checked, raise, lower, test, tested, after_new, asks_new, new, new_state, elements_of, spawn, function_of, wakes, signal, is_positive, place, set_ref, accessed, move_ref, trapped, locked, joined, join, woken, word, Local, Asks, step_of, instr_at, no_frame, exit, withdraws, after, may_go, Gate, Closed, Checked, Holds, Sole, Number, Label, Labels, Leads, set_number, empty, forgets, gated, knows, Within, View, FramesStand, BelowStands, frame_at, IsWellTyped, Fine, Numbers, Passes_on, LeadsChecked, called_label, without_base_of, unlocked_label, handed_label, knows_base, Targets, yes, note_stage}
use Rattle.sharc_code.specs.declared.instr.Instr.TheVariants.{SameReference, Lock}

-- ---- stages in which granules are cleared
abbrev pub walks : Stage → Bool
walks (Looks done all) = true
walks (Clears done all seen) = true
walks (FreeLooks done all) = true
walks (FreeClears done all seen) = true
walks (Uncounts all) = true
walks _ = false

-- it is not known that an object was cleared that a register has alone
abbrev pub IsUncleared : Gate → Type 0
IsUncleared (Sole r true) = ⊥
IsUncleared _ = Unit {0}

-- ---- ways on
-- an instruction that has only these
abbrev pub is_plain : Instr → Bool
is_plain (Instr.Clear r cells) = false
is_plain (Instr.Free r layout site) = false
is_plain (Instr.Start site) = false
is_plain _ = true

-- granules are cleared after the turn only where they were before
abbrev pub Calms : Machine → Machine → Type 0
Calms m y = walks m.own.stage ≡ false → walks y.own.stage ≡ false

-- R holds of the machine after a turn where U holds of its place, where it stays at its place, and where it stops; and U
-- of each place to which an instruction leads.
pub record Ways (code : Code) (ls : Labels) (m : Machine) (R : Machine → Type 0) (U : ℕ → Type 0) : Type 0 where
  pub arrives : (y : Machine) → Calms m y → U y.at.pc → R y
  pub remains : (y : Machine) → Calms m y → y.at.pc ≡ m.at.pc → R y
  pub halts : (y : Machine) → Calms m y → may_go y.at.state ≡ false → y.at.pc ≡ m.at.pc → R y
  pub leads : (to : ℕ) (k : Label) → IsUncleared k.gate → k.function ≡ (ls.at m.at.pc).function → Leads ls to k → U to
  pub back : (to f : ℕ) (k : Label) → IsUncleared k.gate → k.function ≡ Some f → Leads ls to k → U to
  pub ends : (to : ℕ) → instr_at code to ≡ Instr.Exit → U to
  pub begins : (f : ℕ) → f < length code.functions.items → U (function_of code f).entry

pub past_end : (is : List Instr) → slice_index_or is (length is) Instr.Exit ≡ Instr.Exit
past_end [] = refl
past_end (i ∷ is) = past_end is

module _ (x : Targets) (code : Code) (s : Shape) (ls : Labels) (wt : IsWellTyped x code ls) (m : Machine) (t : ℕ) (v : View) (frames : FramesStand x code ls t v m (ls.at m.at.pc).function) (R : Machine → Type 0) (U : ℕ → Type 0) (w : Ways code ls m R U) where
  abbrev pc : ℕ
  pc = m.at.pc

  abbrev l : Label
  l = ls.at m.at.pc

  closed : (to : ℕ) (k : Label) → k.gate ≡ Closed → k.function ≡ (ls.at m.at.pc).function → Leads ls to k → U to
  closed to k e same h = w.leads to k (subst IsUncleared (sym e) tt) same h

  numbers : (r : ℕ) (n : Number) → Numbers code ls l pc r n → U (pc + 1)
  numbers r n h = w.leads (pc + 1) (set_number l r n) tt refl h.2

  passes : Passes_on ls l pc → U (pc + 1)
  passes h = closed (pc + 1) l h.0 refl h.1

  either : (b : Bool) (y z : Machine) → R y → R z → R (if b then y else z)
  either true y z h k = h
  either false y z h k = k

  at_result : (r site : ℕ) (z : Result ℤ Trap) → U (pc + 1) → R (with_result m r site z)
  at_result r site (Ok z) u = w.arrives _ (λ h. h) u
  at_result r site (Err c) u = w.halts _ (λ h. h) refl refl

  at_assert : (b : Bool) (c : Trap) (site : ℕ) → U (pc + 1) → R (asserts m b c site)
  at_assert true c site u = w.arrives _ (λ h. h) u
  at_assert false c site u = w.halts _ (λ h. h) refl refl

  at_call : (to ints refs site : ℕ) → U to → R (called m to ints refs site)
  at_call to ints refs site u = either (has_room m ints refs) _ _ (w.arrives _ (λ h. h) u) (w.halts _ (λ h. h) refl refl)

  back : (d : ℕ) (f : ℕ) → BelowStands x code ls t v m.frames d m.at.refs m.at.ints f → U (slice_index_or m.frames (d - 1) no_frame).pc
  back zero f h = absurd h
  back (suc zero) f h = let e : (frame_at m.frames 0).pc ≡ 1 = h.0.pc in w.ends (frame_at m.frames 0).pc (ap (instr_at code) e ∙ wt.second)
  back (suc (suc d)) f h =
      let k = h.1 in
      let e : (frame_at m.frames (suc d)).pc ≡ k.call + 1 = k.place in
      let u : U (k.call + 1) = w.back (k.call + 1) h.0 (called_label ls (ls.at k.call) f k.first k.refs) tt k.caller k.leads in
      let n : suc (suc d) - 1 ≡ suc d = omega arith in
      subst (λ n. U (slice_index_or m.frames n no_frame).pc) (sym n) (subst U (sym e) u)

  at_return : (site f : ℕ) → l.function ≡ Some f → R (returned code m site)
  at_return site f is =
      let h : FramesStand x code ls t v m (Some f) = subst (FramesStand x code ls t v m) is frames in
      either (m.at.depth == 0) _ _ (w.arrives _ (λ h. h) (w.ends (length code.instrs.items) (past_end code.instrs.items)))
      (either (m.at.depth == 1 && not (holds_none m.own.held)) _ _ (w.halts _ (λ h. h) refl refl) (w.arrives _ (λ h. h) (back m.at.depth f h.0)))

  at_index : (r : ℕ) (z : ℤ) (cells field site elements : ℕ) → U (pc + 1) → R (indexed m r z cells field site elements)
  at_index r (pos i) cells field site elements u = either (nat_lt i elements) _ _ (w.arrives _ (λ h. h) u) (w.halts _ (λ h. h) refl refl)
  at_index r (negsuc i) cells field site elements u = w.halts _ (λ h. h) refl refl

  at_check : (kind : Kind) (granule site old : ℕ) → U (pc + 1) → R (checked m kind granule site old)
  at_check kind granule site old u = either (conflicts_in old m.own.number kind (wrote m granule old)) _ _
      (w.halts _ (λ h. h) refl refl) (w.arrives _ (λ h. ap walks (note_stage m.own granule kind (epoch_of old) site) ∙ h) u)

  bases : (c d : Cell) → Leads ls (pc + 1) (gated (knows_base l c) (Holds d)) → U (pc + 1)
  bases (Cell.Global g p) d h = w.leads (pc + 1) (gated l (Holds d)) tt refl h
  bases (Cell.GlobalAt g i) d h = w.leads (pc + 1) (gated l (Holds d)) tt refl h
  bases (Cell.Object r i) d h = w.leads (pc + 1) (gated (knows l r) (Holds d)) tt refl h
  bases (Cell.ObjectAt r i) d h = w.leads (pc + 1) (gated (knows l r) (Holds d)) tt refl h

  hands : (from : Register) (r : ℕ) (n : Number) → Leads ls (pc + 1) (set_number (handed_label l from) r n) → U (pc + 1)
  hands (Register.Int a) r n h = w.leads (pc + 1) (set_number (handed_label l (Register.Int a)) r n) tt refl h
  hands (Register.Reference a) r n h = w.leads (pc + 1) (set_number (handed_label l (Register.Reference a)) r n) tt refl h

  checks : (write : Bool) (c : Cell) → LeadsChecked x ls l pc write c → U (pc + 1)
  checks write c h = ⊎_elim (λ k. w.leads (pc + 1) (gated l (Checked write c)) tt refl k) (λ k. w.leads (pc + 1) (record l { gate = Checked write c; passed = k.0 ∷ l.passed }) tt refl k.3) h

  at_lock_check : (b : Bool) (mutex site : ℕ) → U (pc + 1) → R (lock_checked m b mutex site)
  at_lock_check true mutex site u = w.halts _ (λ h. h) refl refl
  at_lock_check false mutex site u = either (is_held m mutex) _ _ (w.arrives _ (λ h. h) u) (w.halts _ (λ h. h) refl refl)

  at_raise : (h : ℕ) (y : Machine) (found : ℕ) → R y → R (after (raise s h y) found)
  at_raise zero y found h = h
  at_raise (suc n) y found h = h

  at_lower : (h : ℕ) (y : Machine) (found : ℕ) → R y → R (after (lower s h y) found)
  at_lower zero y found h = h
  at_lower (suc n) y found h = h

  at_test : (h : ℕ) (y : Machine) (found : ℕ) → R y → R (after (test s h y) found)
  at_test zero y found h = h
  at_test (suc n) y found h = h

  at_sole : (site found : ℕ) → U (pc + 1) → R (tested m site found)
  at_sole site found u = either (found == 1) _ _ (w.arrives _ (λ h. h) u) (w.halts _ (λ h. h) refl refl)

  at_after_new : (r site : ℕ) (state : NewView) (turn : NewTurn) → U (pc + 1) → R (after_new m r site state turn)
  at_after_new r site state (Do step) u = w.remains _ (λ _. refl) refl
  at_after_new r site state (Made header) u = w.arrives _ (λ _. refl) u
  at_after_new r site state HeapFull u = w.halts _ (λ h. h) refl refl

  at_ask_new : (r site : ℕ) (state : NewView) (turn : NewTurn) (found : ℕ) → U (pc + 1) → R (after (asks_new m r site state turn) found)
  at_ask_new r site state (Do step) found u = at_after_new r site (told state found) (turn_of (told state found)) u
  at_ask_new r site state (Made header) found u = w.arrives _ (λ _. refl) u
  at_ask_new r site state HeapFull found u = w.halts _ (λ h. h) refl refl

  at_new : (r elements cells site : ℕ) (stage : Stage) (found : ℕ) → U (pc + 1) → R (after (new s m r elements cells site stage) found)
  at_new r elements cells site (Makes state) found u = at_ask_new r site state (turn_of state) found u
  at_new r elements cells site _ found u = at_ask_new r site (told (new_state s m elements cells) 0) (turn_of (told (new_state s m elements cells) 0)) found u

  at_spawn : (r function : ℕ) (from : Register) (site : ℕ) (stage : Stage) (found : ℕ) → U (pc + 1) → R (after (spawn m r function from site stage) found)
  at_spawn r function from site (Names n) found u = w.remains _ (λ _. refl) refl
  at_spawn r function from site (Hands n) found u = w.remains _ (λ _. refl) refl
  at_spawn r function (Register.Int a) site (Begins n) found u = w.arrives _ (λ _. refl) u
  at_spawn r function (Register.Reference a) site (Begins n) found u = w.arrives _ (λ _. refl) u
  at_spawn r function from site _ found u = either (nat_lt found THREADS) _ _ (w.remains _ (λ _. refl) refl) (w.halts _ (λ h. h) refl refl)

  at_joined : (site found : ℕ) → U (pc + 1) → R (joined m site found)
  at_joined site found u = either (found == 0) _ _ (w.halts _ (λ h. h) refl refl) (either (found == 1 || found == 2) _ _ (w.remains _ (λ h. h) refl) (w.arrives _ (λ h. h) u))

  at_join : (z : ℤ) (site found : ℕ) → U (pc + 1) → R (after (join m z site) found)
  at_join (pos n) site found u =
      elim (nat_lt n THREADS) as (λ b. R (after (if b then Asks (step_of (state_word n) WordOp.Load) (joined m site) else Local (trapped m Trap.NoSuchThread site)) found)) [
        | true ↦ at_joined site found u
        | false ↦ w.halts _ (λ h. h) refl refl
      ]
  at_join (negsuc n) site found u = w.halts _ (λ h. h) refl refl

  at_lock : (cell : Cell) (mutex found : ℕ) → U (pc + 1) → R (locked m cell mutex found)
  at_lock cell mutex found u = either (found == 0) _ _ (base cell) (w.remains _ (λ h. h) refl)
    where
      base : (cell : Cell) → R (goes (record (Rattle.sharc_code.specs.Machine.without_base m cell) { own = record m.own { held = Rattle.sharc_code.specs.Machine.taken m mutex (Rattle.sharc_code.specs.Machine.object m cell) } }))
      base (Cell.Global g p) = w.arrives _ (λ h. h) u
      base _ = w.arrives _ (λ h. h) u

  locks : (c : Cell) → Leads ls (pc + 1) (record (without_base_of l c) { room = false }) → U (pc + 1)
  locks (Cell.Global g p) h = w.leads (pc + 1) _ tt refl h
  locks _ h = w.leads (pc + 1) _ tt refl h

  unlocks : (r : ℕ) (c : Cell) → Leads ls (pc + 1) (unlocked_label l r c) → U (pc + 1)
  unlocks r (Cell.Global g p) h = w.leads (pc + 1) _ tt refl h
  unlocks r _ h = w.leads (pc + 1) _ tt refl h

  at_woken : (found : ℕ) → U (pc + 1) → R (woken m found)
  at_woken found u = either (waits_in found m.own.number) _ _ (w.remains _ (λ h. h) refl) (w.arrives _ (λ h. h) u)

  at_withdraw : (row : ℕ) → R (withdraws m row)
  at_withdraw row = either (nat_lt row (length m.own.table.order)) _ _ (w.remains _ (λ _. refl) refl) (w.remains _ (λ _. refl) refl)

  at_exit : (stage : Stage) (found : ℕ) → R (after (exit s m stage) found)
  at_exit (Withdraws row) found = w.remains _ (λ _. refl) refl
  at_exit (WithdrawsFrom row seen) found = either (found == seen) _ _ (at_withdraw (row + 1)) (w.remains _ (λ _. refl) refl)
  at_exit Leaves found = w.halts _ (λ _. refl) refl refl
  at_exit _ found = at_withdraw 0

  at_wake : (found : ℕ) → U (pc + 1) → R (wakes m found)
  at_wake found u = either (found == 0) _ _ (w.arrives _ (λ _. refl) u) (w.remains _ (λ _. refl) refl)

  at_signal : (cond : ℕ) (stage : Stage) (found : ℕ) → U (pc + 1) → R (after (signal m cond stage) found)
  at_signal cond (Wakes seen) found u = either (found == seen) _ _ (w.arrives _ (λ _. refl) u) (at_wake found u)
  at_signal cond _ found u = at_wake found u

  pub onward : (i : Instr) (found : ℕ) → is_plain i ≡ true → Fine x code ls m.at.pc (ls.at m.at.pc) i → R (after (act code s i m) found)
  onward (Instr.Constant r v) found other f = w.arrives _ (λ h. h) (numbers r _ f)
  onward (Instr.Move r from) found other f = w.arrives _ (λ h. h) (⊎_elim (λ h. numbers r _ h) (λ h. w.leads (pc + 1) _ tt refl h.3.2) f)
  onward (Instr.MoveReference r from) found other f = w.arrives _ (λ h. h) (⊎_elim (λ h. closed (pc + 1) l f.0 refl h.1) (λ h. w.leads (pc + 1) _ tt refl h.5) f.1)
  onward (Instr.Null r) found other f = w.arrives _ (λ h. h) (closed (pc + 1) l f.0 refl f.2)
  onward (Instr.ComputeInt operator r a b site) found other f = at_result r site (computed Int operator (int m a) (int m b)) (numbers r _ f.1)
  onward (Instr.ComputeLong operator r a b site) found other f = at_result r site (computed Long operator (int m a) (int m b)) (numbers r _ f.1)
  onward (Instr.NegateInt r a site) found other f = at_result r site (negated Int (int m a)) (numbers r _ f)
  onward (Instr.NegateLong r a site) found other f = at_result r site (negated Long (int m a)) (numbers r _ f)
  onward (Instr.Complement r a) found other f = w.arrives _ (λ h. h) (numbers r _ f.2)
  onward (Instr.Not r a) found other f = w.arrives _ (λ h. h) (numbers r _ f)
  onward (SameReference r a b) found other f = w.arrives _ (λ h. h) (numbers r _ f)
  onward (Instr.ChkWidth width r site) found other f = at_assert (holds width (int m r)) Trap.OutOfRange site (⊎_elim (λ h. passes h) (λ h. numbers r _ h) f)
  onward (Instr.Jump to) found other f = w.arrives _ (λ h. h) (closed to l f.0 refl f.1)
  onward (Instr.JumpIfZero r to) found other f = either (is_zero (int m r)) _ _ (w.arrives _ (λ h. h) (closed to l f.0 refl f.1)) (w.arrives _ (λ h. h) (closed (pc + 1) l f.0 refl f.2))
  onward (Instr.JumpIfNull r to) found other f = either (ref m r == 0) _ _
      (w.arrives _ (λ h. h) (⊎_elim (λ h. closed to l f.0 refl h) (λ h. w.leads to (empty l r) tt refl h.1) f.1)) (w.arrives _ (λ h. h) (closed (pc + 1) (knows l r) f.0 refl f.2))
  onward (Instr.Call to ints refs site) found other f = at_call to ints refs site (subst U f.1.1.entry (w.begins f.1.0 f.1.1.is))
  onward (Instr.Return site) found other f = at_return site f.1.0 f.1.1
  onward (Instr.ChkNull r site) found other f = at_assert (not (ref m r == 0)) Trap.NullPointer site (closed (pc + 1) (knows l r) f.0 refl f.1)
  onward (Instr.ChkHeld cell site) found other f = at_assert (is_held m (word s m cell)) Trap.MutexNotHeld site (w.leads (pc + 1) (gated l (Holds cell)) tt refl f.2)
  onward (Instr.ChkNotHeld cell site) found other f = at_assert (not (is_held m (word s m cell))) Trap.MutexAlreadyHeld site (closed (pc + 1) l f.0 refl f.2)
  onward (Instr.ChkPositive r site) found other f = at_assert (is_positive (int m r)) Trap.SizeNotPositive site (passes f)
  onward (Instr.ChkRoom site) found other f = at_assert (nat_lt (length m.own.held) 16) Trap.TooManyLocks site (closed (pc + 1) (record l { room = true }) f.0 refl f.1)
  onward (Instr.ChkLock cell site) found other f = at_lock_check (is_of_null m cell) (word s m cell) site (bases cell cell f.2)
  onward (Instr.ChkLockLoaded site) found other f = at_lock_check (m.pending == 0) (cell_word s (cell_of m.pending 0)) site (w.leads (pc + 1) _ tt refl f.5)
  onward (Instr.Bounds r base cells field site) found other f = at_index r (int m r) cells field site found (w.leads (pc + 1) _ tt refl f.5.2)
  onward (Instr.GlobalBounds r elements cells field site) found other f = at_index r (int m r) cells field site elements (w.leads (pc + 1) _ tt refl f.3.2)
  onward (Instr.ChkRead cell site) found other f = at_check Read (granule_at s (granule_of (place m cell))) site found (checks false cell f.2)
  onward (Instr.ChkWrite cell site) found other f = at_check Write (granule_at s (granule_of (place m cell))) site found (checks true cell f.2)
  onward (Instr.Load r cell site) found other f = w.arrives _ (λ h. h) (w.leads (pc + 1) _ tt refl f.1.4)
  onward (Instr.Store r cell site) found other f = w.arrives _ (λ h. h) (w.leads (pc + 1) _ tt refl f.5)
  onward (Instr.LoadRef cell site) found other f = w.arrives _ (λ h. h) (w.leads (pc + 1) _ tt refl f.4)
  onward (Instr.Exchange r cell site) found other f = w.arrives _ (λ h. h) (w.leads (pc + 1) _ tt refl f.1.7)
  onward (Instr.Raise r from) found other f = at_raise (ref m from) (goes (set_ref m r (ref m from))) found (w.arrives _ (λ h. h) (w.leads (pc + 1) _ tt refl f.3))
  onward (Instr.RaiseLoaded r) found other f = at_raise m.pending (goes (accessed (set_ref m r m.pending))) found (w.arrives _ (λ h. h) (w.leads (pc + 1) _ tt refl f.1.7))
  onward (Instr.Lower r) found other f = at_lower (ref m r) (goes (set_ref m r 0)) found (w.arrives _ (λ h. h) (⊎_elim (λ h. w.leads (pc + 1) (empty l r) tt refl h.1) (λ h. w.leads (pc + 1) (empty (forgets l r) r) tt refl h) f.2))
  onward (Instr.New r count cells site) found other f = at_new r (elements_of (int m count)) cells site m.own.stage found (w.leads (pc + 1) _ tt refl f.2.7)
  onward (Instr.TakeCell r cell site) found other f = w.arrives _ (λ h. h) (w.leads (pc + 1) _ tt refl f.1.5)
  onward (Instr.TakeLocal r from site) found other f = at_test (ref m from) (goes (move_ref m r from)) found (w.arrives _ (λ h. h) (w.leads (pc + 1) _ tt refl f.6))
  onward (Instr.TestSole r site) found other f = at_sole site found (w.leads (pc + 1) _ tt refl f.3)
  onward (Instr.Clear r cells) found other f = absurd (yes (sym other))
  onward (Instr.Give r site) found other f = w.arrives _ (λ h. h) (w.leads (pc + 1) _ tt refl f.2.5)
  onward (Instr.Free r layout site) found other f = absurd (yes (sym other))
  onward (Lock cell site) found other f = at_lock cell (word s m cell) found (locks cell f.4)
  onward (Instr.Unlock r cell site) found other f = w.arrives _ (λ h. h) (unlocks r cell f.3)
  onward (Instr.Spawn r function from site) found other f = at_spawn r function from site m.own.stage found (hands from r (Within Char) f.6)
  onward (Instr.Join r site) found other f = at_join (int m r) site found (passes f)
  onward (Instr.Print r site) found other f = w.arrives _ (λ h. h) (passes f)
  onward (Instr.Start site) found other f = absurd (yes (sym other))
  onward Instr.Exit found other f = at_exit m.own.stage found
  onward (Instr.CondEnter cell site) found other f = w.arrives _ (λ h. h) (⊎_elim (λ h. closed (pc + 1) l h refl f.2) (λ h. w.leads (pc + 1) l (subst IsUncleared (sym h.1) tt) refl f.2) f.0)
  onward (Instr.CondWait cell site) found other f = at_woken found (closed (pc + 1) l f.0 refl f.2)
  onward (Instr.CondSignal cell site) found other f = at_signal (word s m cell) m.own.stage found (closed (pc + 1) l f.0 refl f.2)
  onward (Instr.CondBroadcast cell site) found other f = w.arrives _ (λ h. h) (closed (pc + 1) l f.0 refl f.2)
