-- The event for which a thread waits may not come.
use Rattle.sharc_history_laws.proofs.{Imports.{◌≡◌, ℕ, ℤ, pos, negsuc, zero, suc, ◌≢◌, inl, inr, Bool, true, false, not, List, nat_lt, ltb-true, Some, None, if◌then◌else◌, refl, sym, ap, ◌∙◌, subst, ⊎_elim, arith, eqb-true, slice_index, ◌==◌, THREADS, Act, SourceEvent, Resolution, waits_in, Code, Cell, Instr, Shape, Fits, state_word, Machine, instr_at, int, word, Turn, Global, cell_at, asks_for, joins, held_up, CheckedRun, place_after, Waits, Wait, MayCome, is_locked, is_waiter, went, Targets, Labels, IsWellTyped, Fine, IsNotSole, IsSmall, StageStands, IsOn, CellsAreThere, StateStands, AwaitedIsHeld, AwaitedIsNotGone, history_of, act_awaited, yes, or_split}, Contents.word_of_cell, Emptying.IsEmptied, Mutual.locked_is, Queued.{waits_by, waiter_is}, Rules.newest, Shared.number_of, Single.rests_hold, Sparing.holds_waiters, Stored.Stored, Unemptied.not_emptied, Woken.Awaited}
use Rattle.sharc_history_laws.proofs.Placed as Placed

not_zero : (n : ℕ) → not (n == 0) ≡ true → n ≢ 0
not_zero zero e z = yes (sym e)
not_zero (suc n) e z = omega arith

module _ (held_law : AwaitedIsHeld) (gone_law : AwaitedIsNotGone) (state_law : StateStands) (cell_laws : CellsAreThere) (x : Targets) (code : Code) (s : Shape) (ls : Labels) (wt : IsWellTyped x code ls) (fits : Fits code s) (few : IsSmall code s) (r : Resolution)
    (run : List Turn) (checked : CheckedRun code s run) (stored : Stored r x code s ls run) (waiters : Awaited r x code s ls run) (t : ℕ) (on : IsOn (place_after code s run) t) where
  abbrev g : Global Machine
  g = place_after code s run

  abbrev m : Machine
  m = (place_after code s run).threads t

  abbrev i : Instr
  i = instr_at code ((place_after code s run).threads t).at.pc

  -- a mutex
  lock_may_not : (k : Cell) (site : ℕ) → i ≡ Instr.Lock k site → slice_index (place_after code s run).words (word s ((place_after code s run).threads t) k) ≢ 0 → is_locked (history_of code s run) (cell_at code ((place_after code s run).threads t) k) ≡ true
  lock_may_not k site is nz =
      let u = held_law x code s ls wt fits few run checked t on k site is nz in
      locked_is (newest code s run) (cell_at code m k) ∙ (stored.told.mutexes.last u.0 (cell_at code m k) u.1).0

  -- a condition
  wait_may_not : (k : Cell) (site : ℕ) → i ≡ Instr.CondWait k site → (u : ℕ) → is_waiter (history_of code s run) (cell_at code ((place_after code s run).threads t) k) u ≡ waits_in (slice_index (place_after code s run).words (word s ((place_after code s run).threads t) k)) u
  wait_may_not k site is u =
      let h = waiters.consists in
      let f = subst (Fine x code ls m.at.pc (ls.at m.at.pc)) is (wt.fine m.at.pc) in
      let hold = rests_hold code s h.state.elements h.world h.state.heap g.words t m (Instr.CondWait k site) m.own.stage refl (subst (λ j. StageStands code s h.state.elements h.world h.state.heap g.words t m j m.own.stage) is ((h.state.threads t).runs on.0 on.1).stage) in
      let apart : IsNotSole (ls.at m.at.pc).gate = subst IsNotSole (sym f.0) tt in
      let numbers = Placed.numbers cell_laws x code s ls wt fits g h.world h.state t on hold k f.1.0 f.1.1 in
      let content = Placed.content cell_laws x code s ls wt fits g h.world h.state t on hold k f.1.0 f.1.1 in
      let cell = Placed.cell cell_laws x code s ls wt fits g h.world h.state t on hold k f.1.0 f.1.1 in
      let word_is = Placed.word_is cell_laws x code s ls wt fits g h.world h.state t on hold k f.1.0 f.1.1 in
      waiter_is (newest code s run) (cell_at code m k) u
      ∙ ⊎_elim
      (λ (v : (u : ℕ) → waits_by (newest code s run) (cell_at code m k) u ≡ waits_in (slice_index g.words (word_of_cell code s (cell_at code m k))) u). v u ∙ ap (λ n. waits_in (slice_index g.words n) u) word_is)
      (λ (z : IsEmptied code g (number_of (cell_at code m k).object)). absurd (not_emptied state_law x code s ls wt fits g h.world h.state t on hold k apart (subst (IsEmptied code g) numbers.0 z)))
      (waiters.words (cell_at code m k) cell (ap holds_waiters (content ∙ f.1.2)))

  -- a thread
  join_may_not : (z : ℤ) (site : ℕ) → held_up (place_after code s run).words ((place_after code s run).threads t).own.number (joins z site) ≡ true → went (history_of code s run) z ≡ false
  join_may_not (pos n) site up = by (nat_lt n THREADS) refl up
    where
      by : (b : Bool) → nat_lt n THREADS ≡ b → held_up (place_after code s run).words ((place_after code s run).threads t).own.number (if b then Some (Wait.Join n site) else None) ≡ true → went (history_of code s run) (pos n) ≡ false
      by true lt e =
          let v = slice_index g.words (state_word n) in
          gone_law x code s ls wt fits few run checked n (ltb-true n THREADS lt) (⊎_elim
          (λ (a : (v == 1) ≡ true). inl (eqb-true v 1 a))
          (λ (b : (v == 2) ≡ true). inr (eqb-true v 2 b))
          (or_split (v == 1) (v == 2) e))
      by false lt e = absurd (yes (sym e))
  join_may_not (negsuc n) site up = absurd (yes (sym up))

  number : ((place_after code s run).threads t).own.number ≡ t
  number = (waiters.consists.state.threads t).has.number

  -- what it waits for
  asks : Waits code s (place_after code s run) t → held_up (place_after code s run).words ((place_after code s run).threads t).own.number (asks_for s i ((place_after code s run).threads t)) ≡ true
  asks up = sym (ap (λ b. held_up g.words m.own.number (if b then asks_for s i m else None)) on.1) ∙ up

  pub may_not_come : Waits code s (place_after code s run) t → (e : SourceEvent) → e.thread ≡ t → act_awaited code ((place_after code s run).threads t) i ≡ Some e.act → MayCome r (history_of code s run) e e.act → ⊥
  may_not_come up e own act may = by i refl act
    where
      act_eq : (a b : Act) → Some a ≡ Some b → a ≡ b
      act_eq a b e = cc

      of_act : (a : Act) → a ≡ e.act → MayCome r (history_of code s run) e a
      of_act a q = subst (MayCome r (history_of code s run) e) (sym q) may

      up_at : (j : Instr) → i ≡ j → held_up (place_after code s run).words ((place_after code s run).threads t).own.number (asks_for s j ((place_after code s run).threads t)) ≡ true
      up_at j is = ap (λ j. held_up g.words m.own.number (asks_for s j m)) (sym is) ∙ asks up

      by : (j : Instr) → i ≡ j → act_awaited code ((place_after code s run).threads t) j ≡ Some e.act → ⊥
      by (Instr.Lock k site) is q = yes (sym (lock_may_not k site is (not_zero _ (up_at (Instr.Lock k site) is))) ∙ of_act _ (act_eq _ _ q))
      by (Instr.Join n site) is q = yes (sym (of_act _ (act_eq _ _ q)) ∙ join_may_not (int m n) site (up_at (Instr.Join n site) is))
      by (Instr.CondWait k site) is q =
          yes (sym (up_at (Instr.CondWait k site) is) ∙ ap (waits_in (slice_index g.words (word s m k))) number ∙ sym (wait_may_not k site is t) ∙ ap (is_waiter (history_of code s run) (cell_at code m k)) (sym own) ∙ of_act _ (act_eq _ _ q))
      by _ is q = cc
