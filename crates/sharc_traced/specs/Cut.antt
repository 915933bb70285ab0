-- How many of a run's events an event file has, and why no more.
use Rattle.std.specs.Prelude.{◌≡◌, ◌<◌, ◌≤◌, ℕ, suc, List, [], ◌∷◌, ◌++◌, length, take, slice_get, Some}
use Rattle.sharc_ctype.specs.Resolved.{Resolution}
use Rattle.sharc_mode.specs.Moded.{Assignment}
use Rattle.sharc_audit.specs.{declared.audit.EventFault.EventFault, declared.line.EventLine.EventLine}
use Rattle.sharc_audit.specs.Audited.{Accepted, Audits}
use Rattle.sharc_audit.specs.declared.audit.Verdict.TheVariants as verdict
use Rattle.sharc_history.specs.declared.event.Event.{Event}
use Rattle.sharc_traced.specs.{declared.cut.Cut.Cut, declared.cut.EventPrefix.EventPrefix}
use Rattle.sharc_traced.specs.Writing.{Writable, AreLinesOf}
use Rattle.sharc_traced.specs.declared.cut.Cut.TheVariants as cut

-- why these lines are no more, but for what audit says of them
abbrev pub EndsBy : Resolution → List Event → ℕ → Cut → Type 0
EndsBy r events n cut.Whole = n ≡ length events
EndsBy r events n cut.NoLine = (e : Event) × (slice_get events n ≡ Some e) × (¬ (Writable r e.deed))
EndsBy r events n cut.Many = (n ≡ 4096) × (n < length events)
EndsBy r events n cut.Fuel = ⊥
EndsBy r events n (cut.Refused fault) = ⊥

pub record HasLines (r : Resolution) (events : List Event) (lines : List EventLine) (why : Cut) : Type 0 where
  pub are : AreLinesOf r lines (take (length lines) events)
  pub few : length lines ≤ 4096
  pub within : length lines ≤ length events
  pub ends : EndsBy r events (length lines) why

-- These are lines of the first events, which audit accepts. The next event is none, has no line or would be one too
-- many; or audit refuses the lines with its
abbrev pub IsEnd : Assignment → List Event → List EventLine → Cut → Type 0
IsEnd m events lines cut.Fuel = (more : List EventLine) × AreLinesOf m.typed more (take (length more) events)
    × Audits m 65536 more (verdict.Fuel (suc (length lines)))
IsEnd m events lines (cut.Refused fault) = (more : List EventLine) × AreLinesOf m.typed more (take (length more) events)
    × Audits m 65536 more (verdict.Fails (suc (length lines)) fault)
IsEnd m events lines why = EndsBy m.typed events (length lines) why

pub record IsFront (m : Assignment) (events : List Event) (front : EventPrefix) : Type 0 where
  pub lines : List EventLine
  pub are : AreLinesOf m.typed lines (take front.count events)
  pub count : front.count ≡ length lines
  pub few : length lines ≤ 4096
  pub within : length lines ≤ length events
  pub accepted : Accepted m 65536 lines
  pub ends : IsEnd m events lines front.cut
