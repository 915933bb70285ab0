-- The paths of the code of flat code are those of flat code.
use Rattle.std.specs.Prelude.{ℕ, ℤ, ◌+◌, ◌*◌, ◌≡◌, ◌≤◌, ◌<◌, ◌⊎◌, Bool, List, ◌∷◌, ◌++◌, length, map, Option, IsSomeAnd}
use Rattle.sharc_tree.specs.{declared.event.Act.Act, declared.event.SourceEvent.SourceEvent, declared.token.Site.Site}
use Rattle.sharc_tree.specs.declared.trap.Trap.{Trap}
use Rattle.sharc_tree.specs.declared.trap.Trap.TheVariants as traps
use Rattle.sharc_code.specs.{declared.code.Code.Code, declared.shape.Shape.Shape, declared.state.TurnState.TurnState}
use Rattle.sharc_code.specs.declared.state.TurnState.TheVariants.{Runs, Tries, Stopped, Ended}
use Rattle.sharc_code.specs.declared.state.Stop.{Stop}
use Rattle.sharc_code.specs.declared.state.Stop.TheVariants.{Conflict, NoLock, NotSole, Trap as Trapped}
use Rattle.sharc_code.specs.{Machine.Machine, Path.{begun, machine_after, CodePath}, Paced.paced_in, Says.place_at}
use Rattle.sharc_meaning.specs.State.{stopped, ended}
use Rattle.sharc_flat.specs.Machine as Flat
use Rattle.sharc_guard.specs.{declared.guarded.Guarded.Guarded, Correct.Resolved, Guard.guarded}
use Rattle.sharc_compile.specs.{Consistent.{Elements, said_in, IsConsistent}, Correct.{by, begins, IsBeginning}}
use Rattle.sharc_compile.specs.{Generated.{IsGenerated, program_of}, Lowered.lowered_in}
use Rattle.sharc_flat.specs.Path as Flow
use Rattle.sharc_flat.specs.Framed.{IsFlat, IsFramed}

-- flat code wants an event at this site
pub record WantsAt (flat : Flat.Flat) (m : Flat.At) (site : Site) : Type 0 where
  pub from : Flat.At
  pub act : Act
  pub held : ℤ
  pub go : ℤ → Flat.At → Flat.At
  pub wants : Flat.turn flat m ≡ Flat.asks from site act held go

-- these traps are not flat code's: what the world has or has not decides them
abbrev pub IsRefusal : Trap → Type 0
IsRefusal trap = (trap ≡ traps.NoSuchThread) ⊎ ((trap ≡ traps.ThreadLimit) ⊎ (trap ≡ traps.HeapFull))

-- why a thread of code stopped is a stop of flat code, or comes at the event that flat code wants
abbrev pub StopsFor : Code → Flat.Flat → Flat.At → Stop → Type 0
StopsFor code flat m (Trapped trap site) = (Flat.turn flat m ≡ Flat.halts (stopped trap (place_at code site).site))
    ⊎ (IsRefusal trap × WantsAt flat m (place_at code site).site)
StopsFor code flat m (Conflict c) = WantsAt flat m (place_at code c.site).site
StopsFor code flat m (NoLock site mutex) = WantsAt flat m (place_at code site).site
StopsFor code flat m (NotSole site count) = WantsAt flat m (place_at code site).site

abbrev pub IsOverFor : Code → Flat.Flat → Flat.At → TurnState → Option Stop → Type 0
IsOverFor code flat m Runs stop = Unit {0}
IsOverFor code flat m Tries stop = Unit {0}
IsOverFor code flat m Stopped stop = IsSomeAnd stop (StopsFor code flat m)
IsOverFor code flat m Ended stop = Flat.turn flat m ≡ Flat.halts ended

-- with some answers flat code comes to where the code is
pub record FollowsFlat (code : Code) (g : Guarded) (flat : Flat.Flat) (thread : ℕ) (m : Machine)
    (said : List SourceEvent) (lowered : List ℕ) (paced : ℕ) : Type 0 where
  pub function : ℕ
  pub known : function < length flat.functions
  pub argument : ℤ
  pub answers : List ℤ
  pub path : Flow.IsPath flat (Flat.start flat function argument) answers
  pub events : said ≡ by thread (begins (program_of g) function argument)
      ∷ map (by thread) (Flow.at_after flat (Flat.start flat function argument) answers).events
  pub over : IsOverFor code flat (Flow.at_after flat (Flat.start flat function argument) answers) m.at.state m.own.stop
  -- what it lowered since its last event is a first part of what flat code gave up since
  pub given : (more : List ℕ)
      × Resolved (Flow.at_after flat (Flat.start flat function argument) answers).given (lowered ++ more)
  -- five counted turns for each line of flat code, and eight
  pub pace : paced ≤ 5 * length answers + 8

abbrev pub CodeFollowsFlat : Type 0
CodeFollowsFlat = (flat : Flat.Flat) (dropped : ℕ → Bool) (g : Guarded) (code : Code) → IsFlat flat → IsFramed flat
    → program_of g ≡ guarded dropped flat → IsGenerated g code
    → (s : Shape) (thread : ℕ) (elements : ℕ → Elements) (founds : List ℕ) → CodePath code s thread founds
    → IsConsistent code s (begun code s thread) elements founds
    → let m = machine_after code s (begun code s thread) founds in
    let said = said_in code s (begun code s thread) elements founds in
    let lowered = lowered_in code s (begun code s thread) elements founds in
    let paced = paced_in code s (begun code s thread) founds in
    IsBeginning m said paced ⊎ FollowsFlat code g flat thread m said lowered paced
