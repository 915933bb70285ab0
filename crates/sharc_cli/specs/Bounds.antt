-- The bounds of the numbers of a command.
use Rattle.std.specs.Prelude.{ℕ, ◌≤◌}
use Rattle.sharc_cli.specs.declared.command.Command.{Command}
use Rattle.sharc_cli.specs.declared.command.Command.TheVariants as command

pub record IsWithin (low high n : ℕ) : Type 0 where
  pub least : low ≤ n
  pub most : n ≤ high

-- workers, granules of heap, and events of a thread
pub record AreRunNumbers (workers granules events most : ℕ) : Type 0 where
  pub few_workers : IsWithin 1 16 workers
  pub some_granules : IsWithin 16 65536 granules
  pub few_events : IsWithin 1 most events

pub record AreLoadNumbers (number workers : ℕ) : Type 0 where
  pub numbered : IsWithin 1 10000 number
  pub few_workers : IsWithin 1 16 workers

abbrev pub AreWithin : Command → Type 0
AreWithin (command.Run workers granules events seed) = AreRunNumbers workers granules events 100000000
AreWithin (command.Load number workers) = AreLoadNumbers number workers
AreWithin (command.Record workers granules events) = AreRunNumbers workers granules events 200000
AreWithin _ = Unit {0}
