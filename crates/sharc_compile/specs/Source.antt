-- The paths of the code of a program are those of the program: what a thread of its code has reported is what the
-- source asks for by the same answers.
use Rattle.std.specs.Prelude.{ℕ, ℤ, pos, ◌+◌, ◌*◌, ◌≡◌, ◌<◌, ◌⊎◌, List, ◌∷◌, ◌++◌, length, map, Option, IsSomeAnd}
use Rattle.sharc_tree.specs.{declared.event.Act.Act, declared.event.SourceEvent.SourceEvent, declared.token.Site.Site}
use Rattle.sharc_mode.specs.Moded.{Assignment}
use Rattle.sharc_meaning.specs.{Meaning.asks, Runs.answers_of, State.{Outcome, wants, ended, stopped, spent, event_of}}
use Rattle.sharc_code.specs.{declared.code.Code.Code, declared.shape.Shape.Shape, declared.state.TurnState.TurnState}
use Rattle.sharc_code.specs.declared.state.TurnState.TheVariants.{Runs, Tries, Stopped, Ended}
use Rattle.sharc_code.specs.declared.state.Stop.{Stop}
use Rattle.sharc_code.specs.{declared.state.Stop.TheVariants.{Conflict, NoLock, NotSole, Trap}, Machine.Machine}
use Rattle.sharc_code.specs.{Path.{begun, machine_after, CodePath}, Paced.paced_in, Says.place_at}
use Rattle.sharc_flat.specs.{declared.flat.Flat.{Flat as FlatCode}, Framed.{IsFlat, IsFramed}, Made.flat_of}
use Rattle.sharc_flat.specs.Correct.{AsksTheSame, MayStart}
use Rattle.sharc_guard.specs.{Machine.Program, Correct.Resolved}
use Rattle.sharc_compile.specs.{Consistent.{Elements, said_in, IsConsistent}, Correct.{by, begins, IsBeginning}}
use Rattle.sharc_compile.specs.{Generated.program_of, Lowered.lowered_in, Coded.IsRefusal, Made.IsCodeOf}

-- the source wants an event at this site
abbrev pub WantsEventAt : Outcome → Site → Type 0
WantsEventAt o site = (act : Act) × (o ≡ wants (event_of site act (pos 0)))

-- why a thread of code stopped is a stop of the source, or comes at the event that the source wants
abbrev pub IsStopOf : Code → Outcome → Stop → Type 0
IsStopOf code o (Trap trap site) = (o ≡ stopped trap (place_at code site).site)
    ⊎ (IsRefusal trap × WantsEventAt o (place_at code site).site)
IsStopOf code o (Conflict c) = WantsEventAt o (place_at code c.site).site
IsStopOf code o (NoLock site mutex) = WantsEventAt o (place_at code site).site
IsStopOf code o (NotSole site count) = WantsEventAt o (place_at code site).site

abbrev pub IsOverAs : Code → Outcome → TurnState → Option Stop → Type 0
IsOverAs code o Runs stop = Unit {0}
IsOverAs code o Tries stop = Unit {0}
IsOverAs code o Stopped stop = IsSomeAnd stop (IsStopOf code o)
IsOverAs code o Ended stop = o ≡ ended

-- With these answers and some fuel the source has reported the same, and is over where the code is over; and what the
-- code has lowered since its last event is a first part of what the source has given up since. With fuel for fewer
-- statements and expressions than the code has made turns for, it is spent: so the turns that count are at most 64 for
-- each that the source entered, and 64 more.
pub record IsToldBy (m : Assignment) (code : Code) (p : Program) (thread f : ℕ) (argument : ℤ) (answers : List ℤ)
    (at : Machine) (said : List SourceEvent) (lowered : List ℕ) (paced : ℕ) : Type 0 where
  pub fuel : ℕ
  pub events : said ≡ by thread (begins p f argument) ∷ map (by thread) (asks m f argument answers fuel).events
  -- the answers are those of the events that are reported
  pub own : answers ≡ answers_of (asks m f argument answers fuel).events
  pub over : IsOverAs code (asks m f argument answers fuel).outcome at.at.state at.own.stop
  pub given : (more : List ℕ) × Resolved (asks m f argument answers fuel).given_up (lowered ++ more)
  pub pace : (few : ℕ) → 64 * few + 64 < paced → (asks m f argument answers few).outcome ≡ spent

-- what a thread of a function that may be started reports, the source reports by the same answers
pub record FollowsSource (m : Assignment) (code : Code) (p : Program) (functions thread : ℕ) (at : Machine)
    (said : List SourceEvent) (lowered : List ℕ) (paced : ℕ) : Type 0 where
  pub function : ℕ
  pub known : function < functions
  pub argument : ℤ
  -- its first event is its Started
  pub after : List SourceEvent
  pub starts : said ≡ by thread (begins p function argument) ∷ map (by thread) after
  pub answers : List ℤ
  pub told : MayStart m function → IsToldBy m code p thread function argument answers at said lowered paced

-- of code of flat code that asks for what the program asks for
abbrev pub CodeFollowsSource : Type 0
CodeFollowsSource = (m : Assignment) (flat : FlatCode) (code : Code) → AsksTheSame m (flat_of flat)
    → IsFlat (flat_of flat) → IsFramed (flat_of flat) → (is : IsCodeOf flat code)
    → (s : Shape) (thread : ℕ) (elements : ℕ → Elements) (founds : List ℕ) → CodePath code s thread founds
    → IsConsistent code s (begun code s thread) elements founds
    → let at = machine_after code s (begun code s thread) founds in
    let said = said_in code s (begun code s thread) elements founds in
    let lowered = lowered_in code s (begun code s thread) elements founds in
    let paced = paced_in code s (begun code s thread) founds in
    IsBeginning at said paced
    ⊎ FollowsSource m code (program_of is.g) (length flat.functions.items) thread at said lowered paced
