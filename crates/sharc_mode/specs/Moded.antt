-- A typed program with a mode for each of its positions.
use Rattle.std.specs.Prelude.{ℕ, ◌≡◌, List, length, slice_index_or, Option, None}
use Rattle.sharc_tree.specs.{declared.ctype.Mode.Mode, declared.ctype.Mode.TheVariants.Private}
use Rattle.sharc_ctype.specs.{Resolved.Resolution, Entities.{entities_in, positions_in}}
use Rattle.sharc_mode.specs.{declared.position.Reason.Reason, Sharings.{Sharing, sharing_of}}

-- the modes by position, and why those are dynamic that were inferred to be
pub record Assignment : Type 0 where
  pub typed : Resolution
  pub modes : List Mode
  pub reasons : List (Option Reason)

-- how many positions a program has
abbrev pub position_count : Resolution → ℕ
position_count r = positions_in (entities_in r.program.items)

-- one entry for each position
pub record IsWhole (m : Assignment) : Type 0 where
  pub modes : length m.modes ≡ position_count m.typed
  pub reasons : length m.reasons ≡ position_count m.typed

abbrev pub mode_at : Assignment → ℕ → Sharing
mode_at m position = sharing_of (slice_index_or m.modes position Private)

abbrev pub reason_at : Assignment → ℕ → Option Reason
reason_at m position = slice_index_or m.reasons position None
