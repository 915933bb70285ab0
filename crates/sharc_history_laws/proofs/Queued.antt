-- Who waits by a history that grows by one event, and which turns tell it.
use Rattle.sharc_history_laws.proofs.{Imports.{◌≡◌, ℕ, pos, zero, suc, ◌+◌, Bool, true, false, ◌||◌, ◌&&◌, cond, reverse, Option, Some, None, if◌then◌else◌, refl, sym, ap, ◌∙◌, subst, and_no, ◌==◌, find, Act, CellAt, SourceEvent, lowest_of, Code, Cell, Instr, Stage, Wakes, Machine, said, event_at, cell_at, nobody, in_signal, is_cell, meets, is_waiter, is_natural, signalled, broadcast_on, enters, takes_away, is_condition, is_enter, tells, IsSaidBy, TurnsTell}, Lists.{Newest, latest_is}, Rules.pushed, Touches.waited_cell}
use Rattle.sharc_meaning.specs.Store.{entered}

-- ---- who waits, the newest event first
abbrev pub waits_by : Newest → CellAt → ℕ → Bool
waits_by L c u = meets (enters c u) (find (λ e. enters c u e || takes_away c u e) L)

pub waiter_is : (L : Newest) (c : CellAt) (u : ℕ) → is_waiter (reverse L) c u ≡ waits_by L c u
waiter_is L c u = ap (meets (enters c u)) (latest_is (λ e. enters c u e || takes_away c u e) L)

-- so it is behind an event, if it was so before
abbrev pub waits_behind : Option SourceEvent → CellAt → ℕ → Bool → Bool
waits_behind None c u was = was
waits_behind (Some e) c u was = cond (enters c u e || takes_away c u e) (enters c u e) was

pub waiter_behind : (ev : Option SourceEvent) (L : Newest) (c : CellAt) (u : ℕ) → waits_by (pushed ev L) c u ≡ waits_behind ev c u (waits_by L c u)
waiter_behind None L c u = refl
waiter_behind (Some e) L c u = by (enters c u e || takes_away c u e)
  where
    by : (b : Bool) → meets (enters c u) (cond b (Some e) (find (λ e. enters c u e || takes_away c u e) L)) ≡ cond b (enters c u e) (waits_by L c u)
    by true = refl
    by false = refl

-- ---- the cell of whose waiters an event tells
abbrev pub condition_of : Act → Option CellAt
condition_of (Act.Enter c) = Some c
condition_of (Act.Signal c) = Some c
condition_of (Act.Broadcast c) = Some c
condition_of (Act.Woken c) = Some c
condition_of _ = None

abbrev pub condition_said : Option SourceEvent → Option CellAt
condition_said None = None
condition_said (Some e) = condition_of e.act

-- one of another cell leaves the waiters
other_act : (c : CellAt) (u : ℕ) (e : SourceEvent) → is_cell c (condition_of e.act) ≡ false → (enters c u e ≡ false) × (takes_away c u e ≡ false)
other_act c u e = by e.act refl
  where
    away : (a : Act) → Bool
    away a = (is_cell c (signalled a) && is_natural (u + 1) e.answer) || is_cell c (broadcast_on a)

    by : (a : Act) → e.act ≡ a → is_cell c (condition_of e.act) ≡ false → ((is_cell c (entered e.act) && (e.thread == u)) ≡ false) × (away e.act ≡ false)
    by a is h = subst (λ a. is_cell c (condition_of a) ≡ false → ((is_cell c (entered a) && (e.thread == u)) ≡ false) × (away a ≡ false)) (sym is) (at a) h
      where
        at : (a : Act) → is_cell c (condition_of a) ≡ false → ((is_cell c (entered a) && (e.thread == u)) ≡ false) × (away a ≡ false)
        at (Act.Enter d) h = (and_no (is_cell c (Some d)) (e.thread == u) h, refl)
        at (Act.Signal d) h = (refl, ap (λ b. b || false) (and_no (is_cell c (Some d)) (is_natural (u + 1) e.answer) h))
        at (Act.Broadcast d) h = (refl, h)
        at (Act.Woken d) h = (refl, refl)
        at _ h = (refl, refl)

pub other_event : (ev : Option SourceEvent) (c : CellAt) (u : ℕ) (was : Bool) → is_cell c (condition_said ev) ≡ false → waits_behind ev c u was ≡ was
other_event None c u was h = refl
other_event (Some e) c u was h =
    let k = other_act c u e h in
    ap (λ b. cond (b || takes_away c u e) (enters c u e) was) k.0 ∙ ap (λ b. cond b (enters c u e) was) k.1

-- nobody becomes a waiter but by an Enter
abbrev pub enter_said : Option SourceEvent → Option CellAt
enter_said None = None
enter_said (Some e) = entered e.act

pub no_enter : (ev : Option SourceEvent) (c : CellAt) (u : ℕ) (was : Bool) → enter_said ev ≡ None → waits_behind ev c u was ≡ true → was ≡ true
no_enter None c u was e h = h
no_enter (Some d) c u was e h = by (takes_away c u d) (sym (ap (λ o. cond ((is_cell c o && (d.thread == u)) || takes_away c u d) (is_cell c o && (d.thread == u)) was) e) ∙ h)
  where
    by : (b : Bool) → cond b false was ≡ true → was ≡ true
    by true h = absurd (let z : false ≡ true = h in cc)
    by false h = h

-- a Woken leaves the waiters
pub woken_leaves : (ev : Option SourceEvent) (a : CellAt) (c : CellAt) (u : ℕ) (was : Bool) → ((e : SourceEvent) → ev ≡ Some e → e.act ≡ Act.Woken a) → waits_behind ev c u was ≡ was
woken_leaves None a c u was h = refl
woken_leaves (Some e) a c u was h =
    ap (λ act. cond ((is_cell c (entered act) && (e.thread == u)) || ((is_cell c (signalled act) && is_natural (u + 1) e.answer) || is_cell c (broadcast_on act))) (is_cell c (entered act) && (e.thread == u)) was) (h e refl)

-- ---- which turns tell of waiters
module _ (code : Code) (m : Machine) where
  pub no_condition : TurnsTell → (i : Instr) (found elements : ℕ) → is_condition i ≡ false → condition_said (said code i m found elements) ≡ None
  no_condition tell i found elements e = by (said code i m found elements) (tell code i m found elements)
    where
      no_enter : (i : Instr) → is_condition i ≡ false → is_enter i ≡ false
      no_enter (Instr.CondEnter c site) e = absurd (let z : true ≡ false = e in cc)
      no_enter _ e = refl

      of : (a : Act) → tells a i ≡ true → condition_of a ≡ None
      of (Act.Enter c) w = cc (no_enter i e)
      of _ w = cc

      by : (ev : Option SourceEvent) → IsSaidBy i m ev → condition_said ev ≡ None
      by None w = refl
      by (Some d) w = of d.act w.1

  -- ---- a turn that wakes a waiter, or finds that there is none
  of_nobody : (c : CellAt) (k : Cell) (site found : ℕ) → is_cell c (Some (cell_at code m k)) ≡ false → is_cell c (condition_said (nobody code m k site found)) ≡ false
  of_nobody c k site zero h = h
  of_nobody c k site (suc n) h = refl

  of_signal : (c : CellAt) (k : Cell) (site found : ℕ) (stage : Stage) → is_cell c (Some (cell_at code m k)) ≡ false → is_cell c (condition_said (in_signal code m k site found stage)) ≡ false
  of_signal c k site found (Wakes seen) h = by (found == seen)
    where
      by : (b : Bool) → is_cell c (condition_said (if b then event_at code m site (pos (lowest_of seen + 1)) (Act.Signal (cell_at code m k)) else nobody code m k site found)) ≡ false
      by true = h
      by false = of_nobody c k site found h
  of_signal c k site found _ h = of_nobody c k site found h

  -- a turn that changes the waiters of one cell tells of no other
  pub condition_elsewhere : (i : Instr) (found elements : ℕ) (c : CellAt) (k : Cell) → waited_cell i ≡ Some k → is_cell c (Some (cell_at code m k)) ≡ false → is_cell c (condition_said (said code i m found elements)) ≡ false
  condition_elsewhere (Instr.CondEnter d site) found elements c k w h = ap (λ d. is_cell c (Some (cell_at code m d))) (let e : d ≡ k = cc in e) ∙ h
  condition_elsewhere (Instr.CondSignal d site) found elements c k w h = of_signal c d site found m.own.stage (ap (λ d. is_cell c (Some (cell_at code m d))) (let e : d ≡ k = cc in e) ∙ h)
  condition_elsewhere (Instr.CondBroadcast d site) found elements c k w h = ap (λ d. is_cell c (Some (cell_at code m d))) (let e : d ≡ k = cc in e) ∙ h
  condition_elsewhere _ found elements c k w h = absurd (cc)

  -- ---- which turns make a waiter
  pub enterless : TurnsTell → (i : Instr) (found elements : ℕ) → is_enter i ≡ false → enter_said (said code i m found elements) ≡ None
  enterless tell i found elements e = by (said code i m found elements) (tell code i m found elements)
    where
      of : (a : Act) → tells a i ≡ true → entered a ≡ None
      of (Act.Enter c) w = absurd (let z : true ≡ false = sym w ∙ e in cc)
      of _ w = refl

      by : (ev : Option SourceEvent) → IsSaidBy i m ev → enter_said ev ≡ None
      by None w = refl
      by (Some d) w = of d.act w.1
