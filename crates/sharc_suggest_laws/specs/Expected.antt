-- A cast to what is expected has the modes that are expected.
use Rattle.std.specs.Prelude.{◌≡◌, ℕ, ◌≤◌, List, [], length, Some}
use Rattle.sharc_tree.specs.{declared.token.Span.Span, declared.tree.declaration.WrittenType.WrittenType}
use Rattle.sharc_tree.specs.{Placed.IsPlaced, Spans.span_of, Tree.{Expression, cast}}
use Rattle.sharc_ctype.specs.Entities.{cast_entity, entity_at}
use Rattle.sharc_mode.specs.{declared.error.Cast.Cast, declared.error.ModeError.ModeError, Moded.{Assignment, IsWhole}}
use Rattle.sharc_mode.specs.{Notes.agree_notes, Rows.modes_at, Sharings.Sharing}
use Rattle.sharc_suggest_laws.specs.Applied.{resolution_with, assignment_with}
use Rattle.sharc_suggest.specs.{Casts.IsSuggested, Repairs.cast_to}

-- the first of what has a type at the tokens of the cast is a cast to its type, with this first position
pub record IsCastAt (m : Assignment) (c : Cast) (first : ℕ) : Type 0 where
  pub span : Span
  pub written : WrittenType
  pub stands : entity_at (resolution_with c m.typed) c.from c.until
      ≡ Some (record { entity = cast_entity span written; first = first })
  pub ctype : written.ctype ≡ c.to
  pub within : first ≤ length m.modes

-- this holds of a cast that is suggested
abbrev pub SuggestedStands : Type 0
SuggestedStands = (m : Assignment) (e : ModeError) (c : Cast) → IsWhole m → IsPlaced m.typed.program
    → IsSuggested m e (Some c) → (first : ℕ) × IsCastAt m c first

-- of an expression to the modes that are expected: any cast that is read at the tokens of that expression has these
-- modes
abbrev pub HasExpected : Type 0
HasExpected = (m : Assignment) (e : Expression) (expected : List Sharing) (first : ℕ)
    → IsCastAt m (cast_to m e expected) first
    → (t : WrittenType) (source : Expression)
    → modes_at (assignment_with (cast_to m e expected) m) (cast (span_of e) t source) ≡ Some expected

-- so no mismatch is reported of it beside them
abbrev pub Agrees : Type 0
Agrees = (m : Assignment) (e : Expression) (expected : List Sharing) (first : ℕ)
    → IsCastAt m (cast_to m e expected) first
    → (t : WrittenType) (source : Expression)
    → agree_notes (assignment_with (cast_to m e expected) m) (Some expected) (cast (span_of e) t source) ≡ []

pub record CastHasExpected : Type 0 where
  pub stands : SuggestedStands
  pub modes : HasExpected
  pub agrees : Agrees
