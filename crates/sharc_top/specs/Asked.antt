-- Commands that some words ask for, and those that may wait.
use Rattle.std.specs.Prelude.{◌≡◌, ℕ, List, Bool, true, false, Option, Some, None}
use Rattle.sharc_cli.specs.{Commands.commands, declared.command.Command.Command}
use Rattle.sharc_cli.specs.declared.command.Command.TheVariants as command

-- some words are this command, or, of None, are no command
pub record IsAsked (asked : Option Command) : Type 0 where
  pub words : List (List ℕ)
  pub are : commands words ≡ asked

-- whether what is asked for may wait: `record` alone may
abbrev pub may_wait : Option Command → Bool
may_wait None = false
may_wait (Some command.Check) = false
may_wait (Some command.Explain) = false
may_wait (Some (command.Run workers granules events seed)) = false
may_wait (Some (command.Load number workers)) = false
may_wait (Some (command.Record workers granules events)) = true
may_wait (Some command.Replay) = false
may_wait (Some command.Audit) = false
