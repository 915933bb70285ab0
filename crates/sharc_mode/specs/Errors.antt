-- The cases M1 to M11.
use Rattle.std.specs.Prelude.{ℕ, Bool, true, false}
use Rattle.sharc_mode.specs.declared.error.ErrorCode.{ErrorCode}
use Rattle.sharc_mode.specs.declared.error.ErrorCode.TheVariants.{ModeMismatch, ReadonlyWrite, PrivateTarget}
use Rattle.sharc_mode.specs.declared.error.ErrorCode.TheVariants.{LockPathNotConstant, ModeNotAllowed, PrivateField}
use Rattle.sharc_mode.specs.declared.error.ErrorCode.TheVariants.{PrivateReachesThread, CastChangesInnerMode}
use Rattle.sharc_mode.specs.declared.error.ErrorCode.TheVariants.{ReadonlySource, NamedByLockPath, NeedsConstantBase}

-- the number after the M
abbrev pub number_of : ErrorCode → ℕ
number_of ModeMismatch = 1
number_of ReadonlyWrite = 2
number_of PrivateTarget = 3
number_of LockPathNotConstant = 4
number_of ModeNotAllowed = 5
number_of PrivateField = 6
number_of PrivateReachesThread = 7
number_of CastChangesInnerMode = 8
number_of ReadonlySource = 9
number_of NamedByLockPath = 10
number_of NeedsConstantBase = 11

-- the one case that a cast may repair
abbrev pub is_mismatch : ErrorCode → Bool
is_mismatch ModeMismatch = true
is_mismatch _ = false
