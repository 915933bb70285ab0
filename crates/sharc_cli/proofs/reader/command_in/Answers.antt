use Rattle.sharc_cli.proofs.{Imports.{◌∙◌, ap, sym, found_of, rows_of, command_in}, Arms.met}
use Rattle.sharc_cli.proofs.reader.command_in.Goals as goal

pub returns-in-Some : goal.returns-in-Some
returns-in-Some c =
    c.command_of.ensures ∙ sym (ap command_in (met c.args.matches.now c.in-Some.name.now (rows_of (found_of c.in-Some.inner.now)) c.in-Some.ensures.name c.in-Some.ensures.rows))
