-- What a turn of guarded code leaves in the thread: its events, its log of mutexes, and what it has lowered since.
use Rattle.std.specs.Prelude.{ℕ, ℤ, ◌≡◌, List, [], ◌∷◌, ◌++◌, filter, not}
use Rattle.sharc_tree.specs.{declared.event.Act.Act, declared.event.CellAt.CellAt}
use Rattle.sharc_tree.specs.declared.event.Act.TheVariants as acts
use Rattle.sharc_meaning.specs.{Events.{held_mutexes, same_cell}, Reference.number_of}
use Rattle.sharc_code.specs.declared.instr.Instr.{Instr, TheVariants.Lower}
use Rattle.sharc_guard.specs.Machine.{Program, Thread, Turn, Goes, Asks, Checks, Halts, event_of, ref, step}
use Rattle.sharc_guard.specs.Path.{started, thread_after}

-- the log after an event
abbrev pub logged : Act → List CellAt → List CellAt
logged (acts.Lock c) held = held ++ c ∷ []
logged (acts.Unlock c) held = filter (λ d. not (same_cell d c)) held
logged _ held = held

-- what a statement lowers
abbrev pub lowered_of : Thread → Instr → List ℕ
lowered_of a (Lower r) = number_of (ref a r) ∷ []
lowered_of a _ = []

-- A turn that asks reports one event, which the log follows, and nothing is lowered after it. Any other reports none
-- and lowers this.
abbrev pub Leaves : Thread → List ℕ → Turn → Type 0
Leaves a low (Goes b) = (b.events ≡ a.events) × (b.held ≡ a.held) × (b.lowered ≡ a.lowered ++ low)
Leaves a low (Asks site act go) = (x : ℤ) → (answer : ℤ) × ((go x).events ≡ a.events ++ event_of site act answer ∷ [])
    × ((go x).held ≡ logged act a.held) × ((go x).lowered ≡ [])
Leaves a low (Checks check site b) = (b.events ≡ a.events) × (b.held ≡ a.held) × (b.lowered ≡ a.lowered ++ low)
Leaves a low (Halts outcome) = Unit {0}

abbrev pub TurnsLeave : Type 0
TurnsLeave = (p : Program) (i : Instr) (a : Thread) → Leaves a (lowered_of a i) (step p i a)

-- so on each path the log has the mutexes that its events hold
abbrev pub LogsAreHeld : Type 0
LogsAreHeld = (p : Program) (f : ℕ) (v : ℤ) (answers : List ℤ)
    → let a = thread_after p (started p f v) answers in a.held ≡ held_mutexes a.events
