use Rattle.sharc_cli.proofs.Spellings.{written_commands, commands_written}
use Rattle.sharc_cli.proofs.laws.commands_are_written.Goals as goal

pub returns : goal.returns
returns c words command = (written_commands words command, commands_written words command)
