-- What a turn changes of what its thread has for itself, and whether it goes on, by the outcome of the turn.
use Rattle.sharc_history_laws.proofs.Imports.{◌≡◌, ◌==◌, ◌⊎◌, ℕ, inl, inr, Bool, true, false, not, Some, None, is_some, refl, sym, ap, ◌∙◌, subst, Trap, Kind, Read, Write, Cell, Instr, Shape, Stage, Links, Wakes, Withdraws, WithdrawsFrom, Leaves, Stop, Machine, Own, stopped, TurnOutcome, Stops, Stays, Rested, Notes, Logs, Begun, Refused, Gone, own_after, state_after, MayComeOut, MayStop, IsStill, ComesOut, has_stage, check_of, is_load, is_locking, is_exit, may_go, Trapped, is_withdrawing, is_ended, yes, TurnState, Ended}

abbrev pub is_access_check : Instr → Bool
is_access_check (Instr.ChkRead cell site) = true
is_access_check (Instr.ChkWrite cell site) = true
is_access_check _ = false

pub is_check : (kind : Kind) (cell : Cell) (site : ℕ) → is_access_check (check_of kind cell site) ≡ true
is_check Read cell site = refl
is_check Write cell site = refl

abbrev pub is_trap : Stop → Bool
is_trap (Trapped why site) = true
is_trap _ = false

-- who may go on has not ended
pub going_on : (y : TurnState) → may_go y ≡ true → is_ended y ≡ false
going_on Ended e = absurd (yes (sym e))
going_on _ e = refl

-- it is to wake one of the waiters of a word without any
abbrev pub wakes_nobody : Stage → Bool
wakes_nobody (Wakes seen) = seen == 0
wakes_nobody _ = false

-- only the stages of an Exit withdraw, and no stage of an instruction wakes nobody
withdraws_of : (i : Instr) (stage : Stage) → has_stage i stage ≡ true → is_withdrawing stage ≡ true → is_exit i ≡ true
withdraws_of Instr.Exit stage has w = refl
withdraws_of _ (Withdraws row) has w = absurd (yes (sym has))
withdraws_of _ (WithdrawsFrom row seen) has w = absurd (yes (sym has))
withdraws_of _ Leaves has w = absurd (yes (sym has))
withdraws_of _ _ has w = absurd (yes (sym w))

wakes_some : (i : Instr) (stage : Stage) → has_stage i stage ≡ true → wakes_nobody stage ≡ true → ⊥
wakes_some (Instr.CondSignal cell site) (Wakes seen) has w = yes (sym has ∙ ap not w)
wakes_some _ (Wakes seen) has w = yes (sym has)
wakes_some _ _ has w = yes (sym w)

module _ (s : Shape) (i : Instr) (found : ℕ) (m x : Machine) (out : ComesOut s i found m x) where
  -- a turn that is no check of an access leaves the table
  pub tabled : is_access_check i ≡ false → x.own.table ≡ m.own.table
  tabled other = ap (λ (o : Own). o.table) out.own ∙ by out.outcome out.may
    where
      by : (o : TurnOutcome) → MayComeOut s i m found o → (own_after o m.own).table ≡ m.own.table
      by (Notes granule kind note) may = absurd (yes (sym (is_check kind may.0 note.site) ∙ ap is_access_check (sym may.1) ∙ other))
      by _ may = refl

  -- one that is no Lock or Unlock leaves the held log
  pub logs : is_locking i ≡ false → x.own.held ≡ m.own.held
  logs other = ap (λ (o : Own). o.held) out.own ∙ by out.outcome out.may
    where
      by : (o : TurnOutcome) → MayComeOut s i m found o → (own_after o m.own).held ≡ m.own.held
      by (Logs held) may = absurd (yes (sym may ∙ other))
      by _ may = refl

  -- a report comes from its check alone
  pub reports : (why : Stop) → is_trap why ≡ false → m.own.stop ≡ None → x.own.stop ≡ Some why → MayStop s i m found why × (x ≡ stopped m why)
  reports why report none is = by out.outcome out.may out.still (ap (λ (o : Own). o.stop) (sym out.own) ∙ is)
    where
      by : (o : TurnOutcome) → MayComeOut s i m found o → IsStill o m x → (own_after o m.own).stop ≡ Some why → MayStop s i m found why × (x ≡ stopped m why)
      by (Stops w) may still e = let same : w ≡ why = cc in subst (λ w. MayStop s i m found w × (x ≡ stopped m w)) same (may, still)
      by (Refused function site) may still e = absurd (let same : Trapped Trap.CallDepth site ≡ why = cc in yes (ap is_trap same ∙ report))
      by _ may still e = absurd (let f : None ≡ Some why = sym none ∙ e in cc)

  -- who has a stop does not go on
  pub halts : m.own.stop ≡ None → is_some x.own.stop ≡ true → may_go x.at.state ≡ false
  halts none is = ap may_go out.state ∙ by out.outcome (ap (λ (o : Own). is_some o.stop) (sym out.own) ∙ is)
    where
      by : (o : TurnOutcome) → is_some (own_after o m.own).stop ≡ true → may_go (state_after o) ≡ false
      by (Stops w) e = refl
      by (Refused function site) e = refl
      by _ e = absurd (yes (sym e ∙ ap is_some none))

  -- only an Exit ends, or withdraws where it did not before
  pub unended : is_exit i ≡ false → is_ended x.at.state ≡ false
  unended other = ap is_ended out.state ∙ by out.outcome out.may
    where
      by : (o : TurnOutcome) → MayComeOut s i m found o → is_ended (state_after o) ≡ false
      by Gone may = absurd (yes (sym may ∙ other))
      by _ may = refl

  pub withdraws_still : is_exit i ≡ false → is_withdrawing x.own.stage ≡ true → is_withdrawing m.own.stage ≡ true
  withdraws_still other w = by out.outcome out.may (ap (λ (o : Own). is_withdrawing o.stage) (sym out.own) ∙ w)
    where
      by : (o : TurnOutcome) → MayComeOut s i m found o → is_withdrawing (own_after o m.own).stage ≡ true → is_withdrawing m.own.stage ≡ true
      by (Stays stage) may e = absurd (yes (sym (withdraws_of i stage may.0 e) ∙ other))
      by _ may e = cc

  -- none wakes nobody where it did not before
  pub wakes_still : wakes_nobody x.own.stage ≡ true → wakes_nobody m.own.stage ≡ true
  wakes_still w = by out.outcome out.may (ap (λ (o : Own). wakes_nobody o.stage) (sym out.own) ∙ w)
    where
      by : (o : TurnOutcome) → MayComeOut s i m found o → wakes_nobody (own_after o m.own).stage ≡ true → wakes_nobody m.own.stage ≡ true
      by (Stays stage) may e = absurd (wakes_some i stage may.0 e)
      by _ may e = cc

  -- what was loaded last stays or is gone
  pub loaded_or_gone : is_load i ≡ false → (x.pending ≡ m.pending) ⊎ (x.pending ≡ 0)
  loaded_or_gone other = by out.pending
    where
      by : (x.pending ≡ m.pending) ⊎ ((x.pending ≡ 0) ⊎ (is_load i ≡ true)) → (x.pending ≡ m.pending) ⊎ (x.pending ≡ 0)
      by (inl e) = inl e
      by (inr (inl e)) = inr e
      by (inr (inr e)) = absurd (yes (sym e ∙ other))

  -- a Free that is to link its block goes on
  pub links_on : (all : ℕ) → x.own.stage ≡ Links all → (m.own.stage ≡ Links all) ⊎ (may_go x.at.state ≡ true)
  links_on all q = by out.outcome out.state (ap (λ (o : Own). o.stage) (sym out.own) ∙ q)
    where
      by : (o : TurnOutcome) → x.at.state ≡ state_after o → (own_after o m.own).stage ≡ Links all → (m.own.stage ≡ Links all) ⊎ (may_go x.at.state ≡ true)
      by (Stays stage) state e = inr (ap may_go state)
      by (Rested heads) state e = absurd cc
      by (Begun function) state e = absurd cc
      by (Refused function site) state e = absurd cc
      by Gone state e = absurd cc
      by _ state e = inl e
