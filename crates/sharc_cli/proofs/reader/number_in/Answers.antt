use Rattle.sharc_cli.proofs.{Imports.arith, Numbers.no_number}
use Rattle.sharc_cli.proofs.reader.number_in.Goals as goal

pub returns-in-Err : goal.returns-in-Err
returns-in-Err c = no_number c.args.low c.args.high c.args.text.now c.parse.result _ (omega arith) c.parse.ensures.value.0 c.in-Err.is
