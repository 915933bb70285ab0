-- A thread says that it is gone by the last turn of its Exit alone.
use Rattle.sharc_history_laws.proofs.Imports.{◌≡◌, ℕ, Bool, true, false, Option, Some, None, refl, sym, ◌∙◌, SourceEvent, Act, Code, Instr, Stage, Withdraws, WithdrawsFrom, Leaves as Leaving, Machine, is_exit, said, in_exit, is_gone, tells, IsSaidBy, TurnsTell}

abbrev pub gone_said : Option SourceEvent → Bool
gone_said None = false
gone_said (Some e) = is_gone e.act

module _ (code : Code) (m : Machine) where
  pub not_gone : TurnsTell → (i : Instr) (found elements : ℕ) → is_exit i ≡ false → gone_said (said code i m found elements) ≡ false
  not_gone tell i found elements e = by (said code i m found elements) (tell code i m found elements)
    where
      of : (a : Act) → tells a i ≡ true → is_gone a ≡ false
      of Act.Gone w = absurd (let z : true ≡ false = sym w ∙ e in cc)
      of _ w = refl

      by : (ev : Option SourceEvent) → IsSaidBy i m ev → gone_said ev ≡ false
      by None w = refl
      by (Some d) w = of d.act w.1

  -- at this stage of an Exit
  pub leaves_at : (stage : Stage) → gone_said (in_exit code m stage) ≡ true → stage ≡ Leaving
  leaves_at (Withdraws row) e = absurd (let f : false ≡ true = e in cc)
  leaves_at (WithdrawsFrom row seen) e = absurd (let f : false ≡ true = e in cc)
  leaves_at Leaving e = refl
  leaves_at _ e = absurd (let f : false ≡ true = e in cc)
