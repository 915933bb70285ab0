-- What a turn of guarded code leaves in the thread.
use Rattle.sharc_guard.proofs.{Imports.{append-nil, ◌≡◌, ℕ, ℤ, pos, negsuc, ◌+◌, ◌*◌, Bool, true, false, not, cond, List, [], ◌∷◌, ◌++◌, length, Result, Ok, Err, nat_lt, refl, sym, ap, ◌∙◌, Act, CellAt, SourceEvent, Trap, Parameter, Cell, ObjectAt, Instr, Register, Int, Long, Frame, holds, computed, negated, made_cell, held_mutexes, locked_by, unlocked_by, is_null, number_of, elements_of, Program, Thread, Phase, Left, Goes, Asks, Halts, is_held, function_at, statement_at, fresh, started, thread_after, with_parameter, LogsAreHeld}, Holding.{quiet_held, lock_held, unlock_held}}
use Rattle.sharc_code.specs.{Arithmetic.is_zero, Machine.is_positive}
use Rattle.sharc_guard.specs.Machine as Form
use Rattle.sharc_guard.specs.{Machine.{Turn, int, cell_at, is_of_null, without_base, handed, turn}, Logged.{Leaves, TurnsLeave, logged, lowered_of}, Path.after}

next_held : (es : List SourceEvent) (e : SourceEvent) (act : Act) → e.act ≡ act → held_mutexes (es ++ e ∷ []) ≡ logged act (held_mutexes es)
next_held es e (Act.Lock c) q = lock_held es e c (ap locked_by q) (ap unlocked_by q)
next_held es e (Act.Unlock c) q = unlock_held es e c (ap locked_by q) (ap unlocked_by q)
next_held es e _ q = quiet_held es e (ap locked_by q) (ap unlocked_by q)

-- ---- one turn
kept : (a : Thread) → (a.events ≡ a.events) × (a.held ≡ a.held) × (a.lowered ≡ a.lowered ++ [])
kept a = (refl, refl, sym (append-nil a.lowered))

choice : (a : Thread) (b : Bool) (t u : Turn) → Leaves a [] t → Leaves a [] u → Leaves a [] (cond b t u)
choice a true t u h k = h
choice a false t u h k = k

asserted : (a : Thread) (b : Bool) (trap : Trap) (site : ℕ) → Leaves a [] (Form.asserts a b trap site)
asserted a true trap site = kept a
asserted a false trap site = tt

resulted : (a : Thread) (r site : ℕ) (q : Result ℤ Trap) → Leaves a [] (Form.with_result a r site q)
resulted a r site (Ok z) = kept a
resulted a r site (Err code) = tt

indexes : (a : Thread) (r : ℕ) (v : ℤ) (cells field site elements : ℕ) → Leaves a [] (Form.indexed a r v cells field site elements)
indexes a r (pos i) cells field site elements = choice a (nat_lt i elements) (Form.goes (Form.set_int a r (pos (i * cells + field)))) (Halts (Form.Stopped Trap.IndexOutOfBounds site)) (kept a) tt
indexes a r (negsuc i) cells field site elements = tt

returns : (p : Program) (a : Thread) (site : ℕ) (frames : List Frame) → Leaves a [] (Form.returned p a site frames)
returns p a site (f ∷ []) = choice a (nat_lt 0 (length a.held)) (Halts (Form.Stopped Trap.ReturnWithLockHeld site)) (Goes (Form.back_to a f [])) tt (kept a)
returns p a site _ = kept a

locks : (a : Thread) (b : Bool) (mutex : CellAt) (site : ℕ) → Leaves a [] (Form.lock_checked a b mutex site)
locks a true mutex site = tt
locks a false mutex site = kept a

exits : (p : Program) (a : Thread) (phase : Phase) → Leaves a [] (Form.exit p a phase)
exits p a Left = tt
exits p a _ = λ x. (_, refl, refl, refl)

base_same : (b : Thread) (cell : Cell) → ((without_base b cell).events ≡ b.events) × ((without_base b cell).lowered ≡ b.lowered)
base_same b (ObjectAt r at) = (refl, refl)
base_same b _ = (refl, refl)

handed_same : (b : Thread) (from : Register) → ((handed b from).events ≡ b.events) × ((handed b from).held ≡ b.held) × ((handed b from).lowered ≡ b.lowered)
handed_same b (Register.Int r) = (refl, refl, refl)
handed_same b (Register.Reference r) = (refl, refl, refl)

pub step_leaves : TurnsLeave
step_leaves p (Instr.ComputeInt operator r x y site) a = resulted a r site (computed Int operator (int a x) (int a y))
step_leaves p (Instr.ComputeLong operator r x y site) a = resulted a r site (computed Long operator (int a x) (int a y))
step_leaves p (Instr.NegateInt r x site) a = resulted a r site (negated Int (int a x))
step_leaves p (Instr.NegateLong r x site) a = resulted a r site (negated Long (int a x))
step_leaves p (Instr.ChkWidth width r site) a = asserted a (holds width (int a r)) Trap.OutOfRange site
step_leaves p (Instr.JumpIfZero r pc) a = choice a (is_zero (int a r)) (Goes (Form.to a pc)) (Form.goes a) (kept a) (kept a)
step_leaves p (Instr.JumpIfNull r pc) a = choice a (is_null (Form.ref a r)) (Goes (Form.to a pc)) (Form.goes a) (kept a) (kept a)
step_leaves p (Instr.Call f ints refs site) a = choice a (nat_lt (length a.frames) 256) _ (Halts (Form.Stopped Trap.CallDepth site)) (kept a) tt
step_leaves p (Instr.Return site) a = returns p a site a.frames
step_leaves p (Instr.ChkNull r site) a = asserted a (not (is_null (Form.ref a r))) Trap.NullPointer site
step_leaves p (Instr.ChkHeld cell site) a = asserted a (is_held a.held (cell_at p a cell)) Trap.MutexNotHeld site
step_leaves p (Instr.ChkNotHeld cell site) a = asserted a (not (is_held a.held (cell_at p a cell))) Trap.MutexAlreadyHeld site
step_leaves p (Instr.ChkPositive r site) a = asserted a (is_positive (int a r)) Trap.SizeNotPositive site
step_leaves p (Instr.ChkRoom site) a = asserted a (nat_lt (length a.held) 16) Trap.TooManyLocks site
step_leaves p (Instr.ChkLock cell site) a = locks a (is_of_null a cell) (cell_at p a cell) site
step_leaves p (Instr.ChkLockLoaded site) a = locks a (is_null a.pending) (made_cell (number_of a.pending) 0) site
step_leaves p (Instr.Bounds r base cells field site) a = indexes a r (int a r) cells field site (elements_of (Form.ref a base))
step_leaves p (Instr.GlobalBounds r elements cells field site) a = indexes a r (int a r) cells field site elements
step_leaves p (Instr.Load r cell site) a = λ x. (_, refl, refl, refl)
step_leaves p (Instr.Store r cell site) a = λ x. (_, refl, refl, refl)
step_leaves p (Instr.LoadRef cell site) a = λ x. (_, refl, refl, refl)
step_leaves p (Instr.Exchange r cell site) a = λ x. (_, refl, refl, refl)
step_leaves p (Instr.New r count cells site) a = λ x. (_, refl, refl, refl)
step_leaves p (Instr.TakeCell r cell site) a = λ x. (_, refl, refl, refl)
step_leaves p (Instr.TakeLocal r from site) a = choice a (is_null (Form.ref a from)) (Form.goes (Form.move_ref a r from)) _ (kept a) (λ x. (_, refl, refl, refl))
step_leaves p (Instr.Give r site) a = λ x. (_, refl, refl, refl)
step_leaves p (Instr.Free r layout site) a = λ x. (_, refl, refl, refl)
step_leaves p (Instr.Lock cell site) a = λ x. let k = base_same (Form.told a _ _ _) cell in (_, k.0, refl, k.1)
step_leaves p (Instr.Unlock r cell site) a = λ x. (_, refl, refl, refl)
step_leaves p (Instr.Spawn r function from site) a = λ x. let k = handed_same (Form.told a _ _ _) from in (_, k.0, k.1, k.2)
step_leaves p (Instr.Join r site) a = λ x. (_, refl, refl, refl)
step_leaves p (Instr.Print r site) a = λ x. (_, refl, refl, refl)
step_leaves p (Instr.Start site) a = tt
step_leaves p Instr.Exit a = exits p a a.phase
step_leaves p (Instr.CondEnter cell site) a = λ x. (_, refl, refl, refl)
step_leaves p (Instr.CondWait cell site) a = λ x. (_, refl, refl, refl)
step_leaves p (Instr.CondSignal cell site) a = λ x. (_, refl, refl, refl)
step_leaves p (Instr.CondBroadcast cell site) a = λ x. (_, refl, refl, refl)
step_leaves p (Instr.Lower r) a = (refl, refl, refl)
step_leaves p _ a = kept a

-- ---- a path
goes_on : (a : Thread) (low : List ℕ) (t : Turn) (x : ℤ) → Leaves a low t → a.held ≡ held_mutexes a.events → (after a t x).held ≡ held_mutexes (after a t x).events
goes_on a low (Asks site act go) x h e =
    let k = h x in
    k.2 ∙ ap (logged act) e ∙ sym (next_held a.events (Form.event_of site act k.0) act refl) ∙ ap held_mutexes (sym k.1)
goes_on a low (Halts outcome) x h e = e
goes_on a low _ x h e = h.1 ∙ e ∙ ap held_mutexes (sym h.0)

begun : (a : Thread) (v : ℤ) (q : Parameter) → a.held ≡ held_mutexes a.events → (with_parameter a q v).held ≡ held_mutexes (with_parameter a q v).events
begun a v Parameter.Int e = e
begun a v _ e = e

pub logs_are_held : LogsAreHeld
logs_are_held p f v [] = begun (fresh p f) v (function_at p f).parameter refl
logs_are_held p f v (x ∷ earlier) =
    let a = thread_after p (started p f v) earlier in
    goes_on a (lowered_of a (statement_at p a.pc)) (turn p a) x (step_leaves p (statement_at p a.pc) a) (logs_are_held p f v earlier)
