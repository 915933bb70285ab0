use Rattle.sharc_ask.proofs.Imports.{to_z-of_z}
use Rattle.sharc_ask.proofs.parts.spawned.Goals as goal

pub returns-clause-does : goal.returns-clause-does
returns-clause-does c =
    let value = c.ranges.value in
    c.end_above.ensures.does _ _ (simp to_z-of_z at c.spawned_value.ensures.does)
