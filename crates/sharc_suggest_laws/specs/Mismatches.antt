-- At each place one mismatch of modes at most.
use Rattle.std.specs.{Prelude.{ℕ, ◌==◌, ◌≤◌, Bool, ◌&&◌, List, length}, List.filter}
use Rattle.sharc_tree.specs.Placed.{IsPlaced}
use Rattle.sharc_mode.specs.{declared.error.ModeError.ModeError, Errors.is_mismatch, Moded.Assignment}
use Rattle.sharc_mode.specs.WellModed.{AreModeErrors}

-- an M1 at this token
abbrev pub is_mismatch_at : ℕ → ModeError → Bool
is_mismatch_at token e = is_mismatch e.code && e.site.token == token

-- of a program at its tokens: so an M1 is determined by its place, and a cast is suggested for one M1 alone
abbrev pub OneMismatch : Type 0
OneMismatch = (m : Assignment) (errors : List ModeError) → IsPlaced m.typed.program → AreModeErrors m errors
    → (token : ℕ) → length (filter (is_mismatch_at token) errors) ≤ 1
