-- What the definitions of this crate are to those who argue with them.
use Rattle.std.specs.Prelude.{◌≡◌, ◌≢◌, ◌↔◌, ℕ, ℤ, pos, ◌+◌, ◌≤◌, List, [], ◌∷◌, ◌++◌, length, map, ◌⊎◌}
use Rattle.sharc_tree.specs.declared.event.Act.{Act}
use Rattle.sharc_tree.specs.declared.event.Act.TheVariants.{Read, New, Take, Spawn, Started, Signal}
use Rattle.sharc_tree.specs.{declared.event.Taken.TheVariants.{Cell, Local}, declared.event.SourceEvent.SourceEvent}
use Rattle.sharc_tree.specs.Tree.{Expression}
use Rattle.sharc_ctype.specs.Resolved.{Resolution, function_at}
use Rattle.sharc_mode.specs.{Cells.cell_at, Moded.Assignment, Rows.modes_at}
use Rattle.sharc_meaning.specs.{Events.events_of, Meaning.{Asked, run_thread, start, asks}, Obeys.{Until, Obeys}}
use Rattle.sharc_meaning.specs.References.{Begun, asked_with, Holder, References, ReferencesWith}
use Rattle.sharc_meaning.specs.Runs.{by, answers_of, IsNamedAt, IsFirst, IsSpawned, Follows, SourceRun, SourceRunWith}
use Rattle.sharc_meaning.specs.{State.{State, wants, spent, over}, Store.{MayCome, LegalStore}}

abbrev pub IsPrefix : {A : Type 0} → List A → List A → Type 0
IsPrefix {A} some all = (rest : List A) × (all ≡ some ++ rest)

-- it came so far at least, with the same events and the same uses of variables before
pub record GoesOn (a b : Asked) : Type 0 where
  pub events : IsPrefix a.events b.events
  pub trace : IsPrefix a.trace b.trace

-- more fuel goes on, and changes nothing but the end for want of it
abbrev pub MoreFuel : Type 0
MoreFuel = (m : Assignment) (f : ℕ) (argument : ℤ) (answers : List ℤ) (fuel more : ℕ)
    → GoesOn (asks m f argument answers fuel) (asks m f argument answers (fuel + more))

abbrev pub MoreFuelChangesNothing : Type 0
MoreFuelChangesNothing = (m : Assignment) (f : ℕ) (argument : ℤ) (answers : List ℤ) (fuel more : ℕ)
    → (asks m f argument answers fuel).outcome ≢ spent
    → asks m f argument answers (fuel + more) ≡ asks m f argument answers fuel

-- with more fuel and no event more, what was given up is the front of what is given up then
abbrev pub MoreIsGivenUp : Type 0
MoreIsGivenUp = (m : Assignment) (f : ℕ) (argument : ℤ) (answers : List ℤ) (fuel more : ℕ)
    → (asks m f argument answers (fuel + more)).events ≡ (asks m f argument answers fuel).events
    → IsPrefix (asks m f argument answers fuel).given_up (asks m f argument answers (fuel + more)).given_up

-- more answers go on, and change nothing but the end for want of them
abbrev pub MoreAnswers : Type 0
MoreAnswers = (m : Assignment) (f : ℕ) (argument : ℤ) (answers more : List ℤ) (fuel : ℕ)
    → GoesOn (asks m f argument answers fuel) (asks m f argument (answers ++ more) fuel)

abbrev pub MoreAnswersChangeNothing : Type 0
MoreAnswersChangeNothing = (m : Assignment) (f : ℕ) (argument : ℤ) (answers more : List ℤ) (fuel : ℕ)
    → ((e : SourceEvent) → (asks m f argument answers fuel).outcome ≢ wants e)
    → asks m f argument (answers ++ more) fuel ≡ asks m f argument answers fuel

-- it ends for want of fuel only where all of it is used up: so a loop's turns are never too few
abbrev pub SpentIsNone : Type 0
SpentIsNone = (m : Assignment) (f : ℕ) (argument : ℤ) (answers : List ℤ) (fuel : ℕ) (s : State)
    → run_thread m (function_at m.typed f) argument (start answers fuel) ≡ over spent s → s.fuel ≡ 0

-- as many events as there are answers, where it wants one more, else at most as many
abbrev pub NoMoreThanAnswers : Type 0
NoMoreThanAnswers = (m : Assignment) (f : ℕ) (argument : ℤ) (answers : List ℤ) (fuel : ℕ)
    → length (asks m f argument answers fuel).events ≤ length answers

abbrev pub WantsBehindAnswers : Type 0
WantsBehindAnswers = (m : Assignment) (f : ℕ) (argument : ℤ) (answers : List ℤ) (fuel : ℕ) (e : SourceEvent)
    → (asks m f argument answers fuel).outcome ≡ wants e
    → length (asks m f argument answers fuel).events ≡ length answers

-- what an event answers where the list says this; a Take of a local answers what the local holds
abbrev pub IsAnswer : Act → ℤ → ℤ → Type 0
IsAnswer (Read c mode) told answer = answer ≡ told
IsAnswer (New cells elements mode) told answer = answer ≡ told
IsAnswer (Take (Cell c mode) kind) told answer = answer ≡ told
IsAnswer (Take (Local x) kind) told answer = Unit {0}
IsAnswer (Spawn f v) told answer = answer ≡ told
IsAnswer (Signal c) told answer = answer ≡ told
IsAnswer _ told answer = answer ≡ pos 0

-- what is wanted comes with one answer more, and no other event
pub record Comes (e : SourceEvent) (told : ℤ) (a b : Asked) : Type 0 where
  pub answer : ℤ
  pub is : IsAnswer e.act told answer
  pub events : b.events ≡ a.events ++ record e { answer = answer } ∷ []

abbrev pub OneAnswerMore : Type 0
OneAnswerMore = (m : Assignment) (f : ℕ) (argument : ℤ) (answers : List ℤ) (answer : ℤ) (fuel : ℕ) (e : SourceEvent)
    → (asks m f argument answers fuel).outcome ≡ wants e
    → Comes e answer (asks m f argument answers fuel) (asks m f argument (answers ++ answer ∷ []) fuel)

-- what comes before in a legal store is one
abbrev pub PrefixesAreLegal : Type 0
PrefixesAreLegal = (r : Resolution) (R S : List SourceEvent) → LegalStore r (R ++ S) → LegalStore r R

-- an event that may come after a legal store makes it one with one event more
abbrev pub StoresGrow : Type 0
StoresGrow = (r : Resolution) (R : List SourceEvent) (e : SourceEvent) → LegalStore r R → MayCome r R e e.act
    → LegalStore r (R ++ e ∷ [])

pub record AskLaws : Type 0 where
  pub fuel : MoreFuel
  pub fuel_same : MoreFuelChangesNothing
  pub given_up : MoreIsGivenUp
  pub answers : MoreAnswers
  pub answers_same : MoreAnswersChangeNothing
  pub spent_is_none : SpentIsNone
  pub events : NoMoreThanAnswers
  pub wanted : WantsBehindAnswers
  pub comes : OneAnswerMore

pub record StoreLaws : Type 0 where
  pub prefixes : PrefixesAreLegal
  pub grow : StoresGrow

-- what comes before in a source run is one
abbrev pub RunPrefixes : Type 0
RunPrefixes = (m : Assignment) (R S : List SourceEvent) → SourceRun m (R ++ S) → SourceRun m R

abbrev pub RunPrefixesWith : Type 0
RunPrefixesWith = (fuel : ℕ) (m : Assignment) (R S : List SourceEvent) → SourceRunWith fuel m (R ++ S)
    → SourceRunWith fuel m R

-- and what comes before in a run that obeys obeys
abbrev pub ObeyingPrefixes : Type 0
ObeyingPrefixes = (until : Until) (R S : List SourceEvent) → Obeys (R ++ S) until → Obeys R until

-- the event is the next of a thread that was started: it asks for it, and for no other, with one answer more
pub record Next (m : Assignment) (R : List SourceEvent) (e : SourceEvent) : Type 0 where
  pub fuel : ℕ
  pub own : Follows m R fuel e.thread
  pub comes : map (by e.thread)
      (asks m own.function own.argument (answers_of (events_of e.thread own.after) ++ e.answer ∷ []) fuel).events
      ≡ events_of e.thread own.after ++ e ∷ []

-- a source run goes on with an event that is the next of its thread and may come
abbrev pub RunsGrow : Type 0
RunsGrow = (m : Assignment) (R : List SourceEvent) (e : SourceEvent) → SourceRun m R → MayCome m.typed R e e.act
    → Next m R e → SourceRun m (R ++ e ∷ [])

-- the event is the first of a thread that has the right to start
pub record Starts (m : Assignment) (R : List SourceEvent) (e : SourceEvent) : Type 0 where
  pub function : ℕ
  pub argument : ℤ
  pub first : events_of e.thread R ≡ []
  pub act : e.act ≡ Started argument
  pub answer : e.answer ≡ pos 0
  pub site : IsNamedAt (function_at m.typed function) e.site
  pub by_right : IsFirst m.typed e.thread function argument ⊎ IsSpawned R e.thread function argument

abbrev pub RunsStart : Type 0
RunsStart = (m : Assignment) (R : List SourceEvent) (e : SourceEvent) → SourceRun m R → MayCome m.typed R e e.act
    → Starts m R e → SourceRun m (R ++ e ∷ [])

-- the same with a given fuel: the event is the next of a thread that was started
pub record IsNext (m : Assignment) (fuel : ℕ) (R : List SourceEvent) (e : SourceEvent) : Type 0 where
  pub own : Follows m R fuel e.thread
  pub comes : map (by e.thread)
      (asks m own.function own.argument (answers_of (events_of e.thread own.after) ++ e.answer ∷ []) fuel).events
      ≡ events_of e.thread own.after ++ e ∷ []

-- it is that, or the first of a thread that has the right to start
abbrev pub AskedFor : Assignment → ℕ → List SourceEvent → SourceEvent → Type 0
AskedFor m fuel R e = Starts m R e ⊎ IsNext m fuel R e

-- a source run with a fuel goes on with an event that is asked for and may come
abbrev pub RunsGrowWith : Type 0
RunsGrowWith = (m : Assignment) (fuel : ℕ) (R : List SourceEvent) (e : SourceEvent) → SourceRunWith fuel m R
    → MayCome m.typed R e e.act → AskedFor m fuel R e → SourceRunWith fuel m (R ++ e ∷ [])

-- and by no other: its last event was asked for
abbrev pub LastAsked : Type 0
LastAsked = (m : Assignment) (fuel : ℕ) (R : List SourceEvent) (e : SourceEvent) → SourceRunWith fuel m (R ++ e ∷ [])
    → AskedFor m fuel R e

pub record RunLaws : Type 0 where
  pub prefixes : RunPrefixes
  pub prefixes_with : RunPrefixesWith
  pub obeying : ObeyingPrefixes
  pub grow : RunsGrow
  pub start : RunsStart
  pub grow_with : RunsGrowWith
  pub last_asked : LastAsked

-- What a cell's mode is depends on the resolved program and the modes alone, and so do the modes of what an expression
-- points to: why a mode is dynamic says nothing of it.
pub record SameModes (m n : Assignment) : Type 0 where
  pub cells : (e : Expression) → cell_at m e ≡ cell_at n e
  pub targets : (e : Expression) → modes_at m e ≡ modes_at n e

abbrev pub ModesAlone : Type 0
ModesAlone = (m n : Assignment) → m.typed ≡ n.typed → m.modes ≡ n.modes → SameModes m n

-- with this fuel each thread that was started comes to its next want, its stop or its end
abbrev pub AllRest : ℕ → Assignment → List SourceEvent → Type 0
AllRest fuel m R = (thread : ℕ) (b : Begun m R thread) → (asked_with b fuel).outcome ≢ spent

-- then the references are those with this fuel
abbrev pub ReferencesAtRest : Type 0
ReferencesAtRest = (fuel : ℕ) (m : Assignment) (R : List SourceEvent) (n : ℕ) (h : Holder) → AllRest fuel m R
    → References m R n h ↔ ReferencesWith fuel m R n h

-- and each reference is one with every fuel from some fuel on
pub record FromSomeFuel (m : Assignment) (R : List SourceEvent) (n : ℕ) (h : Holder) : Type 0 where
  pub from : ℕ
  pub with_each : (fuel : ℕ) → from ≤ fuel → ReferencesWith fuel m R n h

abbrev pub ReferencesFromSomeFuel : Type 0
ReferencesFromSomeFuel = (m : Assignment) (R : List SourceEvent) (n : ℕ) (h : Holder) → References m R n h
    → FromSomeFuel m R n h

pub record ReferenceLaws : Type 0 where
  pub at_rest : ReferencesAtRest
  pub from_some_fuel : ReferencesFromSomeFuel
