-- What the program wants where a thread of its code was refused.
use Rattle.std.specs.Prelude.{ℕ, ℤ, pos, ◌≡◌, false, List, Some}
use Rattle.sharc_tree.specs.{declared.event.Act.Act, declared.event.CellAt.CellAt}
use Rattle.sharc_tree.specs.declared.event.SourceEvent.{SourceEvent}
use Rattle.sharc_meaning.specs.{Events.holds_mutex, Meaning.Asked, State.{wants, event_of}}
use Rattle.sharc_code.specs.{declared.code.Code.Code, declared.state.TurnState.TheVariants.Stopped}
use Rattle.sharc_code.specs.declared.state.Stop.{Stop}
use Rattle.sharc_code.specs.{declared.state.Stop.TheVariants.{Conflict, NoLock, NotSole, Trap}, Machine.Machine}
use Rattle.sharc_code.specs.Says.{place_at}
use Rattle.sharc_guard.specs.Counted.{IsAccess, IsGivenAway, IsUnder}

-- A1 and A2: an access of that kind in mode dynamic. A3: an access under a mutex that the thread does not hold by its
-- events. A4: a reference is given or freed.
abbrev pub IsRefused : Stop → Act → List SourceEvent → Type 0
IsRefused (Conflict c) act events = (cell : CellAt) × IsAccess c.kind cell act
IsRefused (NoLock site mutex) act events = (cell : CellAt) × IsUnder cell act × (holds_mutex events cell ≡ false)
IsRefused (NotSole site count) act events = (v : ℤ) × IsGivenAway v act
IsRefused (Trap trap site) act events = ⊥

abbrev pub site_of : Stop → ℕ
site_of (Conflict c) = c.site
site_of (NoLock site mutex) = site
site_of (NotSole site count) = site
site_of (Trap trap site) = site

abbrev pub IsReport : Stop → Type 0
IsReport (Trap trap site) = ⊥
IsReport _ = Unit {0}

-- after these events the program wants what was refused, at the site of the report
abbrev pub WantsRefused : Code → Machine → Asked → Type 0
WantsRefused code at a = at.at.state ≡ Stopped → (stop : Stop) → at.own.stop ≡ Some stop → IsReport stop
    → (act : Act) × (a.outcome ≡ wants (event_of (place_at code (site_of stop)).site act (pos 0)))
    × IsRefused stop act a.events
