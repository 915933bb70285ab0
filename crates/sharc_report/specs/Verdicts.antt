-- What `check` writes: the errors of modes, each with the cast that would repair it, or the warnings and `accepted`.
use Rattle.std.specs.Prelude.{ℕ, List, [], ◌∷◌, ◌++◌, codes, decimal, drop, slice_set, Option, Some, None}
use Rattle.std.specs.List.{flat_map}
use Rattle.sharc_tree.specs.{declared.ctype.CType.CType, Texts.type_text}
use Rattle.sharc_ctype.specs.Resolved.{Resolution}
use Rattle.sharc_mode.specs.{declared.error.Cast.Cast, declared.error.ModeError.ModeError}
use Rattle.sharc_mode.specs.{declared.error.Warning.Warning, declared.error.ErrorCode.ErrorCode}
use Rattle.sharc_mode.specs.declared.error.ErrorCode.TheVariants.{ModeMismatch, ReadonlyWrite, PrivateTarget}
use Rattle.sharc_mode.specs.declared.error.ErrorCode.TheVariants.{LockPathNotConstant, ModeNotAllowed, PrivateField}
use Rattle.sharc_mode.specs.declared.error.ErrorCode.TheVariants.{PrivateReachesThread, CastChangesInnerMode}
use Rattle.sharc_mode.specs.declared.error.ErrorCode.TheVariants.{ReadonlySource, NamedByLockPath, NeedsConstantBase}
use Rattle.sharc_mode.specs.Errors.{number_of}
use Rattle.sharc_report.specs.Places.{site_text, tokens_between}

-- a type without the mode of its top
abbrev pub without_top : CType → CType
without_top t = record { base = t.base; levels = slice_set t.levels 0 None }

abbrev pub target_text : CType → List ℕ
target_text t = type_text (without_top t)

-- expected TYPE, found TYPE
abbrev pub expected_found : ModeError → List ℕ
expected_found e = codes "expected " ++ target_text e.expected ++ codes ", found " ++ target_text e.found

-- M1 to M11
abbrev pub message_of : ErrorCode → ModeError → List ℕ
message_of ModeMismatch e = codes "mode mismatch: " ++ expected_found e
message_of ReadonlyWrite e = codes "write to readonly " ++ e.subject
message_of PrivateTarget e = type_text e.expected ++ codes " holds a private target"
message_of LockPathNotConstant e = codes "lock path " ++ e.subject ++ codes " is not constant"
message_of ModeNotAllowed e = codes "mode " ++ e.subject ++ codes " not allowed"
message_of PrivateField e = codes "private in field " ++ e.subject
message_of PrivateReachesThread e = codes "private data reaches a thread: " ++ e.subject
message_of CastChangesInnerMode e = codes "cast changes an inner mode: " ++ expected_found e
message_of ReadonlySource e = codes "readonly source " ++ e.subject
message_of NamedByLockPath e = e.subject ++ codes " is named by a lock path"
message_of NeedsConstantBase e = codes "target of " ++ e.subject ++ codes " needs a constant base"

abbrev pub error_message : ModeError → List ℕ
error_message e = message_of e.code e

-- F:N: CODE text
abbrev pub error_line : Resolution → ModeError → List ℕ
error_line r e =
    site_text r e.site ++ codes ": M" ++ decimal (number_of e.code) ++ codes " " ++ error_message e ++ codes "\n"

-- F:N: suggest SCAST(TYPE, LV)
abbrev pub suggestion : Resolution → Option Cast → List ℕ
suggestion r None = []
suggestion r (Some c) = site_text r c.site ++ codes ": suggest SCAST(" ++ target_text c.to ++ codes ", "
    ++ tokens_between r c.from c.until ++ codes ")\n"

abbrev pub refusal : Resolution → ModeError → Option Cast → List ℕ
refusal r e c = error_line r e ++ suggestion r c

-- what there is beside the first of the errors that are left
abbrev pub beside : List (Option Cast) → Option Cast
beside [] = None
beside (c ∷ left) = c

-- the errors in their order, each followed by the suggestion beside it
abbrev pub check_text : Resolution → List ModeError → List (Option Cast) → List ℕ
check_text r [] casts = []
check_text r (e ∷ errors) casts = refusal r e (beside casts) ++ check_text r errors (drop 1 casts)

abbrev pub since : Resolution → Warning → List ℕ
since r w = codes " may be NULL since " ++ site_text r w.nulled ++ codes "\n"

-- F:N: warning NAME may be NULL since F:N
abbrev pub warning_line : Resolution → Warning → List ℕ
warning_line r w = site_text r w.read ++ codes ": warning " ++ w.name ++ since r w

abbrev pub accepted_text : Resolution → List Warning → List ℕ
accepted_text r warnings = flat_map (warning_line r) warnings ++ codes "accepted\n"
