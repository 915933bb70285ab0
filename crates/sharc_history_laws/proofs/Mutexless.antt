-- A turn that is none of Lock or Unlock tells no event of a mutex.
use Rattle.sharc_history_laws.proofs.Imports.{◌≡◌, ℕ, Bool, true, false, Option, Some, None, refl, sym, ◌∙◌, SourceEvent, Act, Code, Instr, Machine, is_locking, said, locked_by, unlocked_by, tells, IsSaidBy, TurnsTell}

abbrev pub is_mutex_act : Act → Bool
is_mutex_act (Act.Lock c) = true
is_mutex_act (Act.Unlock c) = true
is_mutex_act _ = false

abbrev pub mutex_said : Option SourceEvent → Bool
mutex_said None = false
mutex_said (Some e) = is_mutex_act e.act

pub not_locked : (a : Act) → is_mutex_act a ≡ false → (locked_by a ≡ None) × (unlocked_by a ≡ None)
not_locked (Act.Lock c) e = absurd (let f : true ≡ false = e in cc)
not_locked (Act.Unlock c) e = absurd (let f : true ≡ false = e in cc)
not_locked _ e = (refl, refl)

module _ (code : Code) (m : Machine) where
  pub no_mutex : TurnsTell → (i : Instr) (found elements : ℕ) → is_locking i ≡ false → mutex_said (said code i m found elements) ≡ false
  no_mutex tell i found elements e = by (said code i m found elements) (tell code i m found elements)
    where
      of : (a : Act) → tells a i ≡ true → is_mutex_act a ≡ false
      of (Act.Lock c) w = absurd (let z : true ≡ false = sym w ∙ e in cc)
      of (Act.Unlock c) w = absurd (let z : true ≡ false = sym w ∙ e in cc)
      of _ w = refl

      by : (ev : Option SourceEvent) → IsSaidBy i m ev → mutex_said ev ≡ false
      by None w = refl
      by (Some d) w = of d.act w.1
