-- Threads of a run whose fuel is spent.
use Rattle.std.specs.Prelude.{◌≡◌, ℕ, List}
use Rattle.sharc_tree.specs.declared.event.SourceEvent.{SourceEvent}
use Rattle.sharc_mode.specs.Moded.{Assignment}
use Rattle.sharc_meaning.specs.{Events.events_of, Meaning.asks, Runs.{answers_of, Follows}, State.spent}

-- the thread was started, and its fuel is spent before its next event
pub record IsSpent (m : Assignment) (fuel : ℕ) (R : List SourceEvent) (thread : ℕ) : Type 0 where
  pub own : Follows m R fuel thread
  pub is : (asks m own.function own.argument (answers_of (events_of thread own.after)) fuel).outcome ≡ spent
