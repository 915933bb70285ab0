-- A program with a cast that is suggested is typed.
use Rattle.std.specs.Prelude.{Some}
use Rattle.sharc_tree.specs.{Low.IsLow, Placed.IsPlaced}
use Rattle.sharc_ctype.specs.{Items.IsTyped, Resolved.IsResolved}
use Rattle.sharc_mode.specs.{declared.error.Cast.Cast, declared.error.ModeError.ModeError, Moded.{Assignment, IsWhole}}
use Rattle.sharc_infer_laws.specs.Locks.{HasWrittenLocks}
use Rattle.sharc_suggest_laws.specs.Applied.{program_with}
use Rattle.sharc_suggest.specs.Casts.{IsSuggested}

-- of a program that was read and resolved, with a mode and a reason for each position, where the lock paths of the
-- modes are written ones
abbrev pub StaysTyped : Type 0
StaysTyped = (m : Assignment) (e : ModeError) (c : Cast) → IsResolved m.typed → IsPlaced m.typed.program
    → IsLow m.typed.program → IsWhole m → HasWrittenLocks m → IsSuggested m e (Some c)
    → IsTyped (program_with c m.typed)
