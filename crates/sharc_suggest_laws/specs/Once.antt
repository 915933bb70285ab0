-- A cast that is suggested is written in its program once.
use Rattle.std.specs.{Prelude.{◌≡◌, ◌<◌, List, ◌∷◌, ◌++◌, Some}, List.AllByRecursion}
use Rattle.sharc_tree.specs.{declared.token.Span.Span, Placed.IsPlaced}
use Rattle.sharc_suggest_laws.specs.{declared.written.Recast.Recast, Recast.type_at, Applied.{recast_of, program_with}}
use Rattle.sharc_ctype.specs.{declared.entity.Entity.Entity, Entities.{cast_entity, entities_in}}
use Rattle.sharc_mode.specs.{declared.error.Cast.Cast, declared.error.ModeError.ModeError, Moded.Assignment}
use Rattle.sharc_suggest.specs.Casts.{IsSuggested}

-- what has a type now is what had one, in its order, and among it the cast at its tokens; all that is listed before it
-- begins before it
pub record IsAddedOnce (c : Recast) (old new : List Entity) : Type 0 where
  pub before : List Entity
  pub behind : List Entity
  pub span : Span
  pub first : span.first.token ≡ c.from
  pub last : span.last.token ≡ c.until
  pub had : old ≡ before ++ behind
  pub has : new ≡ before ++ cast_entity span (type_at c span) ∷ behind
  pub earlier : AllByRecursion (λ (e : Entity). e.token < c.from) before

-- of a program at its tokens
abbrev pub SuggestedIsAddedOnce : Type 0
SuggestedIsAddedOnce = (m : Assignment) (e : ModeError) (c : Cast) → IsPlaced m.typed.program → IsSuggested m e (Some c)
    → IsAddedOnce (recast_of m.typed c) (entities_in m.typed.program.items) (entities_in (program_with c m.typed).items)
