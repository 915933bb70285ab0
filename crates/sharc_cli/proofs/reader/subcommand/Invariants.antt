use Rattle.sharc_cli.proofs.Imports.{map, option_map, take, IsSubcommand}
use Rattle.sharc_cli.proofs.reader.subcommand.Given as goal

-- the subcommand has the options up to here
abbrev pub invariant-loop-option : goal.invariant-loop-option
invariant-loop-option l = IsSubcommand l.command l.fn.name (option_map (λ n. n.now) l.fn.number) (map (λ s. s.now) (take l.option-index l.options))
