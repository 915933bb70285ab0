-- Only an Exit makes a thread one that has returned.
use Rattle.sharc_invariant.proofs.Imports.{◌≡◌, ℕ, ◌||◌, true, false, refl, sym, ap, ◌∙◌, Instr, Shape, Stage, Withdraws, WithdrawsFrom, Leaves, Machine, Own, TurnOutcome, Stays, Gone, own_after, state_after, MayComeOut, ComesOut, has_stage, is_exit, has_returned, is_ended, is_withdrawing, yes}

-- no stage of another instruction withdraws
pub calm_stage : (i : Instr) (stage : Stage) → has_stage i stage ≡ true → is_exit i ≡ false → is_withdrawing stage ≡ false
calm_stage Instr.Exit stage has other = absurd (yes other)
calm_stage _ (Withdraws row) has other = absurd (yes (sym has))
calm_stage _ (WithdrawsFrom row seen) has other = absurd (yes (sym has))
calm_stage _ Leaves has other = absurd (yes (sym has))
calm_stage _ _ has other = refl

module _ (s : Shape) (i : Instr) (found : ℕ) (m x : Machine) (out : ComesOut s i found m x) (calm : is_withdrawing m.own.stage ≡ false) (other : is_exit i ≡ false) where
  pub calm_then : is_withdrawing x.own.stage ≡ false
  calm_then = ap (λ (o : Own). is_withdrawing o.stage) out.own ∙ by out.outcome out.may
    where
      by : (o : TurnOutcome) → MayComeOut s i m found o → is_withdrawing (own_after o m.own).stage ≡ false
      by (Stays stage) may = calm_stage i stage may.0 other
      by _ may = cc

  pub unended : is_ended x.at.state ≡ false
  unended = ap is_ended out.state ∙ by out.outcome out.may
    where
      by : (o : TurnOutcome) → MayComeOut s i m found o → is_ended (state_after o) ≡ false
      by Gone may = absurd (yes (sym may ∙ other))
      by _ may = refl

  pub goes_on : has_returned x ≡ false
  goes_on = ap (λ b. b || is_ended x.at.state) calm_then ∙ unended
