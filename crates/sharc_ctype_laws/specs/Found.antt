-- What has a type is found by its tokens: no other begins where it does.
use Rattle.std.specs.{Prelude.{◌≡◌, Some}, List.AllByRecursion}
use Rattle.sharc_tree.specs.{Low.IsLow, Placed.IsPlaced}
use Rattle.sharc_ctype.specs.{declared.entity.Entity.Entity, declared.entity.Numbered.Numbered}
use Rattle.sharc_ctype.specs.{Entities.{entities_in, entity_at}, Resolved.{Resolution, IsResolved}}
use Rattle.sharc_ctype_laws.specs.WrittenTypes.{IsNamedType}

-- it is what is found at its tokens, and the names in its type name what they spell
pub record IsFound (r : Resolution) (e : Entity) : Type 0 where
  pub numbered : Numbered
  pub itself : numbered.entity ≡ e
  pub found : entity_at r e.token e.last ≡ Some numbered
  pub named : IsNamedType r e.written

abbrev pub EachTypeFound : Type 0
EachTypeFound = (r : Resolution) → IsResolved r → IsPlaced r.program → IsLow r.program
    → AllByRecursion (IsFound r) (entities_in r.program.items)
