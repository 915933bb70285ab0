-- What stays as it was where a cast is written in a program.
use Rattle.std.specs.Prelude.{◌≡◌, ℕ, ◌+◌, ◌<◌, nat_lt, List, map, length, slice_index_or, Some, if◌then◌else◌}
use Rattle.sharc_tree.specs.{declared.ctype.Mode.TheVariants.Private, Placed.IsPlaced, Tree.Program}
use Rattle.sharc_suggest_laws.specs.{declared.written.Recast.Recast, Recast.{function_with_cast, program_with_cast}}
use Rattle.sharc_suggest_laws.specs.Applied.{targets, moved, first_new, assignment_with}
use Rattle.sharc_ctype.specs.{Entities.entity_at, Resolved.{structs_in, globals_in, functions_in, declarations_in}}
use Rattle.sharc_mode.specs.{declared.error.Cast.Cast, declared.error.ModeError.ModeError}
use Rattle.sharc_mode.specs.{Moded.{Assignment, IsWhole, mode_at, reason_at}, Rows.{written, entity_row, modes_of}}
use Rattle.sharc_mode.specs.Sharings.{Sharing, sharing_of}
use Rattle.sharc_suggest.specs.Casts.{IsSuggested}

-- ---- the structs, the globals, and the fields, parameters and locals are the same; the functions have their bodies
-- with the cast

pub record DeclaresTheSame (c : Recast) (p : Program) : Type 0 where
  pub structs : structs_in (program_with_cast c p).items ≡ structs_in p.items
  pub globals : globals_in (program_with_cast c p).items ≡ globals_in p.items
  pub declarations : declarations_in (program_with_cast c p).items ≡ declarations_in p.items
  pub functions : functions_in (program_with_cast c p).items ≡ map (function_with_cast c) (functions_in p.items)

abbrev pub DeclarationsStay : Type 0
DeclarationsStay = (c : Recast) (p : Program) → DeclaresTheSame c p

-- ---- each position has its mode and its reason under its new number, and those of the cast have the modes of its type

abbrev pub renumbered : ℕ → ℕ → ℕ → ℕ
renumbered first count position = if nat_lt position first then position else position + count

pub record KeepsPositions (m : Assignment) (c : Cast) : Type 0 where
  pub modes : (position : ℕ) → mode_at (assignment_with c m)
      (renumbered (first_new c m.typed) (length (targets c.to.levels)) position) ≡ mode_at m position
  pub reasons : (position : ℕ)
      → reason_at (assignment_with c m) (renumbered (first_new c m.typed) (length (targets c.to.levels)) position)
      ≡ moved (first_new c m.typed) (length (targets c.to.levels)) (reason_at m position)
  pub added : (depth : ℕ) → depth < length (targets c.to.levels)
      → mode_at (assignment_with c m) (first_new c m.typed + depth)
      ≡ sharing_of (slice_index_or (targets c.to.levels) depth Private)

-- whatever the cast is, of a program at its tokens with a mode and a reason for each position
abbrev pub PositionsStay : Type 0
PositionsStay = (m : Assignment) (c : Cast) → IsWhole m → IsPlaced m.typed.program → KeepsPositions m c

-- ---- what is declared, and each other cast, has the modes that it had

-- the modes of the targets of what is determined by these tokens
abbrev pub modes_told_by : Assignment → ℕ → ℕ → List Sharing
modes_told_by m token last = modes_of m (entity_row written (entity_at m.typed token last))

abbrev pub TypesStay : Type 0
TypesStay = (m : Assignment) (e : ModeError) (c : Cast) → IsWhole m → IsPlaced m.typed.program
    → IsSuggested m e (Some c)
    → (token last : ℕ) → (token ≡ c.from → last ≡ c.until → ⊥)
    → modes_told_by (assignment_with c m) token last ≡ modes_told_by m token last
