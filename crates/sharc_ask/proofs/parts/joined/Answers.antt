use Rattle.sharc_ask.proofs.Imports.{to_z-of_z}
use Rattle.sharc_ask.proofs.parts.joined.Goals as goal

pub returns-clause-does : goal.returns-clause-does
returns-clause-does c =
    let left = c.ranges.left in
    let right = c.ranges.right in
    c.end_above.ensures.does _ _ (simp to_z-of_z at c.joined_value.ensures.does)
