-- Which turns tell that a thread was spawned, or is gone, and which tell a change of a cell.
use Rattle.sharc_history_laws.proofs.{Imports.{◌≡◌, ℕ, Bool, true, false, Option, Some, None, refl, ◌||◌, sym, ◌∙◌, Act, CellAt, SourceEvent, Taken, Code, Instr, Machine, said, is_exit, is_spawn, is_gone, cell_changed, is_threading, tells, IsSaidBy, TurnsTell}, Acts.access_said}

-- ---- threads
abbrev pub about_threads : Act → Bool
about_threads a = is_spawn a || is_gone a

abbrev pub threads_said : Option SourceEvent → Bool
threads_said None = false
threads_said (Some e) = about_threads e.act

pub neither : (a : Act) → about_threads a ≡ false → (is_spawn a ≡ false) × (is_gone a ≡ false)
neither (Act.Spawn f v) e = absurd (let z : true ≡ false = e in cc)
neither Act.Gone e = absurd (let z : true ≡ false = e in cc)
neither _ e = (refl, refl)

module _ (code : Code) (m : Machine) where
  pub no_thread : TurnsTell → (i : Instr) (found elements : ℕ) → is_threading i ≡ false → threads_said (said code i m found elements) ≡ false
  no_thread tell i found elements e = by (said code i m found elements) (tell code i m found elements)
    where
      no_exit : (i : Instr) → is_threading i ≡ false → is_exit i ≡ false
      no_exit Instr.Exit e = absurd (let z : true ≡ false = e in cc)
      no_exit _ e = refl

      of : (a : Act) → tells a i ≡ true → about_threads a ≡ false
      of (Act.Spawn f v) w = absurd (let z : true ≡ false = sym w ∙ e in cc)
      of Act.Gone w = absurd (let z : true ≡ false = sym w ∙ no_exit i e in cc)
      of _ w = refl

      by : (ev : Option SourceEvent) → IsSaidBy i m ev → threads_said ev ≡ false
      by None w = refl
      by (Some d) w = of d.act w.1

-- ---- cells
-- an event that is no access changes no cell but those of an object that it makes
pub unchanged : (a : Act) → Rattle.sharc_meaning.specs.Events.access_by a ≡ None → cell_changed a ≡ None
unchanged (Act.Write c mode v) e = absurd (cc)
unchanged (Act.Take (Taken.Cell c mode) kind) e = absurd (cc)
unchanged (Act.Take (Taken.Local n) kind) e = refl
unchanged _ e = refl

-- nor does a Read
abbrev pub changed_said : Option SourceEvent → Option CellAt
changed_said None = None
changed_said (Some e) = cell_changed e.act

pub unchanged_said : (ev : Option SourceEvent) → access_said ev ≡ None → changed_said ev ≡ None
unchanged_said None e = refl
unchanged_said (Some d) e = unchanged d.act e
