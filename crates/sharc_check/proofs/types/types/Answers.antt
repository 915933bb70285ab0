use Rattle.sharc_check.proofs.{Imports.{◌+◌, ◌≤◌, subst, positions_of, Resolution, position_count}, LevelLemmas.entity_ends_in}
use Rattle.sharc_check.proofs.types.types.Goals as goal

pub type_said-requires : goal.type_said-requires
type_said-requires c =
    let n = c.numbered-item.result in
    subst (λ (r : Resolution). n.first + positions_of n.entity ≤ position_count r) c.typed-typed.ensures
    (entity_ends_in c.typed-typed.result.now c.entities-numbered-items.result.now c.loop-numbered.numbered-index n c.entities-numbered-items.ensures c.loop-numbered-test.true c.numbered-item.is)
