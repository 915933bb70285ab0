-- Source runs: legal stores in which each thread asks for the events that are its own. Nothing is checked in them.
use Rattle.std.specs.Prelude.{◌≡◌, ◌≢◌, ◌⊎◌, IsTrue, ℕ, ℤ, pos, Bool, false, List, [], map, Any, Option, Some, None}
use Rattle.std.specs.Prelude.{codes}
use Rattle.std.specs.Str.{bytes_eq}
use Rattle.sharc_tree.specs.{declared.event.Act.TheVariants.{Spawn, Started}, declared.event.SourceEvent.SourceEvent}
use Rattle.sharc_tree.specs.{declared.token.Site.Site, Tree.Function}
use Rattle.sharc_ctype.specs.Resolved.{Resolution, function_at}
use Rattle.sharc_mode.specs.Moded.{Assignment}
use Rattle.sharc_meaning.specs.{Events.{Stands, events_of}, Meaning.asks, Store.LegalStore}

-- the same event, of this thread
abbrev pub by : ℕ → SourceEvent → SourceEvent
by thread e = record e { thread = thread }

abbrev pub answers_of : List SourceEvent → List ℤ
answers_of = map (λ e. e.answer)

abbrev pub is_named_main : Option Function → Bool
is_named_main None = false
is_named_main (Some f) = bytes_eq f.name.text (codes "main")

-- thread 0 has `main`, and its argument is 0
pub record IsFirst (r : Resolution) (thread f : ℕ) (argument : ℤ) : Type 0 where
  pub first : thread ≡ 0
  pub main : IsTrue (is_named_main (function_at r f))
  pub nothing : argument ≡ pos 0

-- every other thread has the function and the argument of its Spawn
pub record IsSpawned (before : List SourceEvent) (thread f : ℕ) (argument : ℤ) : Type 0 where
  pub other : thread ≢ 0
  pub spawned : Any (λ e. (e.act ≡ Spawn f argument) × (e.answer ≡ pos thread)) before

abbrev pub IsNamedAt : Option Function → Site → Type 0
IsNamedAt None site = ⊥
IsNamedAt (Some f) site = site ≡ f.name.site

-- With this fuel a thread that was started asks for exactly the events that it has after its Started, by their answers.
-- Its Started is at the name of its function.
pub record Follows (m : Assignment) (R : List SourceEvent) (fuel thread : ℕ) : Type 0 where
  pub function : ℕ
  pub argument : ℤ
  pub before : List SourceEvent
  pub begins : SourceEvent
  pub after : List SourceEvent
  pub stands : Stands R before begins after
  pub own : begins.thread ≡ thread
  pub first : events_of thread before ≡ []
  pub act : begins.act ≡ Started argument
  pub answer : begins.answer ≡ pos 0
  pub site : IsNamedAt (function_at m.typed function) begins.site
  pub by_right : IsFirst m.typed thread function argument ⊎ IsSpawned before thread function argument
  pub asked : map (by thread) (asks m function argument (answers_of (events_of thread after)) fuel).events
      ≡ events_of thread after

-- a thread has no event, or there is a fuel with which it asks for what it has
pub record SourceRun (m : Assignment) (R : List SourceEvent) : Type 0 where
  pub legal : LegalStore m.typed R
  pub threads : (thread : ℕ) → (events_of thread R ≡ []) ⊎ ((fuel : ℕ) × Follows m R fuel thread)

-- the same, with one fuel for all threads
pub record SourceRunWith (fuel : ℕ) (m : Assignment) (R : List SourceEvent) : Type 0 where
  pub legal : LegalStore m.typed R
  pub threads : (thread : ℕ) → (events_of thread R ≡ []) ⊎ Follows m R fuel thread
