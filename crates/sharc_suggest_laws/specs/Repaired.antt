-- A cast that is suggested for a mismatch of modes repairs it.
use Rattle.std.specs.Prelude.{Some}
use Rattle.sharc_tree.specs.{Low.IsLow, Placed.IsPlaced}
use Rattle.sharc_ctype.specs.{Items.IsTyped, Resolved.IsResolved}
use Rattle.sharc_mode.specs.{declared.error.Cast.Cast, declared.error.ModeError.ModeError, Flows.IsLeastAssignment}
use Rattle.sharc_mode.specs.Moded.{Assignment, IsWhole}
use Rattle.sharc_infer_laws.specs.{Laws.IsTypedAtTokens, Locks.HasWrittenLocks}
use Rattle.sharc_suggest_laws.specs.{Applied.{program_with, assignment_with}, Gone.IsGone}
use Rattle.sharc_suggest.specs.Casts.{IsSuggested}

-- of a program that was read and resolved, with a mode and a reason for each position: with the cast written in it,
-- where that is typed, no M1 is at the place of the error
abbrev pub RepairsWhereTyped : Type 0
RepairsWhereTyped = (m : Assignment) (e : ModeError) (c : Cast) → IsResolved m.typed → IsPlaced m.typed.program
    → IsLow m.typed.program → IsWhole m → IsSuggested m e (Some c) → IsTyped (program_with c m.typed)
    → IsGone (assignment_with c m) e.site.token

-- as it is where the lock paths of the modes are written ones
abbrev pub Repairs : Type 0
Repairs = (m : Assignment) (e : ModeError) (c : Cast) → IsResolved m.typed → IsPlaced m.typed.program
    → IsLow m.typed.program → IsWhole m → HasWrittenLocks m → IsSuggested m e (Some c)
    → IsGone (assignment_with c m) e.site.token

-- ---- of the program that a source is, under the least assignment

-- with the cast written the program is typed, and no M1 is at the place of the error
pub record IsRepair (m : Assignment) (e : ModeError) (c : Cast) : Type 0 where
  pub typed : IsTyped (program_with c m.typed)
  pub gone : IsGone (assignment_with c m) e.site.token

-- so it is of each cast that is suggested
abbrev pub LeastIsRepaired : Type 0
LeastIsRepaired = (m : Assignment) (e : ModeError) (c : Cast) → IsTypedAtTokens m.typed → IsLeastAssignment m
    → IsSuggested m e (Some c) → IsRepair m e c
