use Rattle.sharc_cli.proofs.{Imports.IfOk-weaker, Makes.one_number}
use Rattle.sharc_cli.proofs.reader.opened.Goals as goal

pub returns-in-Some : goal.returns-in-Some
returns-in-Some c =
    IfOk-weaker c.arg.result _ _ (λ r adds. rw c.in-Some.is (one_number c.new-command.result r c.args.name.now c.in-Some.number.now c.new.result adds
    c.new.ensures.optional.1 c.new-command.ensures.local c.new-command.ensures.app c.new.ensures.rule)) c.arg.ensures
