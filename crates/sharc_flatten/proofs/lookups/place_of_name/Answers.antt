use Rattle.sharc_flatten.proofs.{Imports.{arith, common_steps}, FirstPlaces.named_first}
use Rattle.sharc_flatten.proofs.lookups.place_of_name.Goals as goal

pub returns-then-eq : goal.returns-then-eq
returns-then-eq c =
    let e = named_first c.args.fields.now c.args.name.now in
    grind (arith, common_steps)

pub returns : goal.returns
returns c =
    let e = named_first c.args.fields.now c.args.name.now in
    grind (arith, common_steps)
