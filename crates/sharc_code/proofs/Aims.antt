-- Which word the step of a turn is on.
use Rattle.sharc_code.proofs.Imports.{◌≡◌, ℕ, ℤ, pos, negsuc, zero, suc, ◌+◌, ◌*◌, ◌<◌, ◌≤◌, inl, inr, Bool, true, false, nat_lt, if◌then◌else◌, refl, arith, Trap, THREADS, WordOp, NewView, told, word_number, NewArguments, NewStage, turn_of_stage, Code, Layout, Register, Instr, Shape, Stage, Looks, Clears, Makes, Empties, Lowers, FreeLooks, FreeClears, Uncounts, Links, Names, Hands, Begins, Enters, Withdraws, WithdrawsFrom, Leaves, Wakes, granule_of, words_of, cell_word, shadow_word, count_word, first_cell, state_word, Machine, Act as Turn, Local, Asks, step_of, act, int, ref, place, raise, lower, test, new, asks_new, new_state, elements_of, clear, free, layout_at, spawn, join, start, exit, signal, joined, trapped, Aim, BuildsIn, TurnAim}

module _ (s : Shape) (i : Instr) (m : Machine) where
  abbrev A : Turn → Type 0
  A = TurnAim s i m

  of_cell : (place : ℕ) (op : WordOp) → Aim s i m (step_of (cell_word s place) op)
  of_cell place op = elim (nat_lt (first_cell s + place) (words_of s)) as (λ b. Aim s i m (step_of (if b then first_cell s + place else 0) op)) [
    | true ↦ Aim.Stores (inr (omega arith))
    | false ↦ Aim.Stores (inl (omega arith))
  ]

  of_count : (h : ℕ) (op : WordOp) → Aim s i m (step_of (count_word s h) op)
  of_count h op = Aim.Stores (inr (omega arith))

  looks : (word : ℕ) → Aim s i m (step_of word WordOp.Load)
  looks word = Aim.Looks (λ v. refl)

  to_raise : (h : ℕ) (x : Machine) → A (raise s h x)
  to_raise zero x = tt
  to_raise (suc h) x = of_count (suc h) _

  to_lower : (h : ℕ) (x : Machine) → A (lower s h x)
  to_lower zero x = tt
  to_lower (suc h) x = of_count (suc h) _

  to_test : (h : ℕ) (x : Machine) → A (test s h x)
  to_test zero x = tt
  to_test (suc h) x = of_count (suc h) _

  to_join : (z : ℤ) (site : ℕ) → A (join m z site)
  to_join (pos n) site = elim (nat_lt n THREADS) as (λ b. A (if b then Asks (step_of (state_word n) WordOp.Load) (joined m site) else Local (trapped m Trap.NoSuchThread site))) [
    | true ↦ looks _
    | false ↦ tt
  ]
  to_join (negsuc n) site = tt

  to_start : (code : Code) (site : ℕ) (stage : Stage) → A (start code m site stage)
  to_start code site (Enters function) = looks _
  to_start code site _ = looks _

  to_signal : (place : ℕ) (stage : Stage) → A (signal m (cell_word s place) stage)
  to_signal place (Wakes seen) = of_cell place _
  to_signal place _ = looks _

  of_block : (word : ℕ) (op : WordOp) (a : NewArguments) → first_cell s ≤ word → Aim s i m (step_of (word_number a word) op)
  of_block word op a le = elim (nat_lt word (a.first + 2 * a.end)) as (λ b. Aim s i m (step_of (if b then word else 0) op)) [
    | true ↦ Aim.Stores (inr le)
    | false ↦ Aim.Stores (inl (omega arith))
  ]

  to_stage : (r site : ℕ) (v : NewView) (stage : NewStage) → v.arguments.first ≡ first_cell s → A (asks_new m r site v (turn_of_stage v.arguments stage))
  to_stage r site v NewStage.Link e = looks _
  to_stage r site v (NewStage.Cell cell) e = of_block (v.arguments.first + 2 * v.arguments.head + 2 + cell) _ v.arguments (omega arith)
  to_stage r site v NewStage.Top e = looks _
  to_stage r site v (NewStage.Move top moved) e = Aim.Stores (inl (omega arith))
  to_stage r site v (NewStage.Count header) e = of_block (v.arguments.first + 2 * header) _ v.arguments (omega arith)
  to_stage r site v (NewStage.Length header) e = of_block (v.arguments.first + 2 * header + 1) _ v.arguments (omega arith)
  to_stage r site v _ e = tt

  to_new : (r elements cells site : ℕ) (stage : Stage) → BuildsIn s stage → A (new s m r elements cells site stage)
  to_new r elements cells site (Makes v) e = to_stage r site v v.stage e
  to_new r elements cells site _ e = let v = told (new_state s m elements cells) 0 in to_stage r site v v.stage refl

module _ (code : Code) (s : Shape) (m : Machine) (builds : BuildsIn s m.own.stage) where
  to_clear : (r cells h : ℕ) (stage : Stage) → m.own.stage ≡ stage → TurnAim s (Instr.Clear r cells) m (clear s m h cells stage)
  to_clear r cells h (Looks done all) at = looks s _ m _
  to_clear r cells h (Clears done all seen) at = Aim.Shadows _ (rw at refl) refl
  to_clear r cells h _ at = looks s _ m _

  to_free : (r layout site : ℕ) (l : Layout) (stage : Stage) → m.own.stage ≡ stage → TurnAim s (Instr.Free r layout site) m (free code s m r l stage)
  to_free r layout site l (Empties k elements) at = of_cell s _ m _ _
  to_free r layout site l (Lowers k elements found) at = of_count s _ m found _
  to_free r layout site l (FreeLooks done elements) at = looks s _ m _
  to_free r layout site l (FreeClears done elements seen) at = Aim.Shadows _ (rw at refl) refl
  to_free r layout site l (Uncounts elements) at = of_count s _ m (ref m r) _
  to_free r layout site l (Links elements) at = Aim.Stores (inr (omega arith))
  to_free r layout site l _ at = looks s _ m _

  to_spawn : (r f site : ℕ) (from : Register) (stage : Stage) → m.own.stage ≡ stage → TurnAim s (Instr.Spawn r f from site) m (spawn m r f from site stage)
  to_spawn r f site from (Names n) at = Aim.Names n at refl
  to_spawn r f site from (Hands n) at = Aim.Hands n at refl
  to_spawn r f site from (Begins n) at = Aim.Begins n refl at refl refl
  to_spawn r f site from _ at = Aim.Draws refl refl

  to_exit : (stage : Stage) → m.own.stage ≡ stage → TurnAim s Instr.Exit m (exit s m stage)
  to_exit (Withdraws row) at = looks s _ m _
  to_exit (WithdrawsFrom row seen) at = Aim.Shadows _ (rw at refl) refl
  to_exit Leaves at = Aim.Ends refl refl refl
  to_exit _ at = Aim.Returns refl refl refl

  pub aims : (i : Instr) → TurnAim s i m (act code s i m)
  aims (Instr.Bounds r base cells field site) = looks s _ m _
  aims (Instr.ChkRead c site) = Aim.Shadows (granule_of (place m c)) refl refl
  aims (Instr.ChkWrite c site) = Aim.Shadows (granule_of (place m c)) refl refl
  aims (Instr.Load r c site) = looks s _ m _
  aims (Instr.Store r c site) = of_cell s _ m (place m c) _
  aims (Instr.LoadRef c site) = looks s _ m _
  aims (Instr.Exchange r c site) = of_cell s _ m (place m c) _
  aims (Instr.Raise r from) = to_raise s _ m (ref m from) _
  aims (Instr.RaiseLoaded r) = to_raise s _ m m.pending _
  aims (Instr.Lower r) = to_lower s _ m (ref m r) _
  aims (Instr.New r count cells site) = to_new s _ m r (elements_of (int m count)) cells site m.own.stage builds
  aims (Instr.TakeCell r c site) = of_cell s _ m (place m c) _
  aims (Instr.TakeLocal r from site) = to_test s _ m (ref m from) _
  aims (Instr.TestSole r site) = of_count s _ m (ref m r) _
  aims (Instr.Clear r cells) = to_clear r cells (ref m r) m.own.stage refl
  aims (Instr.Give r site) = of_count s _ m (ref m r) _
  aims (Instr.Free r layout site) = to_free r layout site (layout_at code layout) m.own.stage refl
  aims (Instr.Lock c site) = of_cell s _ m (place m c) _
  aims (Instr.Unlock r c site) = of_cell s _ m (place m c) _
  aims (Instr.Spawn r f from site) = to_spawn r f site from m.own.stage refl
  aims (Instr.Join r site) = to_join s _ m (int m r) site
  aims (Instr.Print r site) = Aim.Prints refl refl
  aims (Instr.Start site) = to_start s _ m code site m.own.stage
  aims Instr.Exit = to_exit m.own.stage refl
  aims (Instr.CondEnter c site) = of_cell s _ m (place m c) _
  aims (Instr.CondWait c site) = looks s _ m _
  aims (Instr.CondSignal c site) = to_signal s _ m (place m c) m.own.stage
  aims (Instr.CondBroadcast c site) = of_cell s _ m (place m c) _
  aims _ = tt
