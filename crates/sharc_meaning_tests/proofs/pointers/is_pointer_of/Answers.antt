use Rattle.sharc_meaning_tests.proofs.{Imports.{◌≡◌, ◌∙◌, Some, None}, Making.of_made}
use Rattle.sharc_meaning_tests.proofs.pointers.is_pointer_of.Goals as goal

pub returns-in-None-latest : goal.returns-in-None-latest
returns-in-None-latest c = of_made c.args.typed.now c.args.events.now c.args.object c.in-Made.field-0 c.args.cell None c.in-Made.is c.in-None-latest.ensures

pub returns-in-Some-latest : goal.returns-in-Some-latest
returns-in-Some-latest c = c.any_makes.ensures ∙ of_made c.args.typed.now c.args.events.now c.args.object c.in-Made.field-0 c.args.cell (Some c.in-Some-latest.e) c.in-Made.is c.in-Some-latest.ensures
