-- What `well_formed` says of the type of an entity, beside what the checker reports of it.
use Rattle.std.specs.Prelude.{◌≡◌, Option, Some, None, Contains}
use Rattle.sharc_ctype.specs.{declared.entity.Numbered.Numbered, Entities.{entities_in, numbered}}
use Rattle.sharc_mode.specs.declared.error.ErrorCode.{ErrorCode}
use Rattle.sharc_mode.specs.declared.error.ErrorCode.TheVariants.{LockPathNotConstant, ModeNotAllowed}
use Rattle.sharc_mode.specs.{declared.error.ModeError.ModeError, declared.finding.Finding.TheVariants.Wrong}
use Rattle.sharc_mode.specs.{Flows.IsLeastAssignment, Moded.Assignment, Notes.type_notes}
use Rattle.sharc_mode.specs.WellFormed.{place_of, type_code}

-- what `well_formed` answers of the type of an entity at its place
abbrev pub code_of : Assignment → Numbered → Option ErrorCode
code_of m n = type_code m.typed (place_of n.entity.role) n.entity.written.ctype

-- an error of this code is reported of the type
pub record IsTold (m : Assignment) (n : Numbered) (code : ErrorCode) : Type 0 where
  pub error : ModeError
  pub stands : Contains (type_notes m n) (Wrong error)
  pub coded : error.code ≡ code
  pub placed : error.site ≡ n.entity.written.span.first

-- Under the least assignment the error of the code that `well_formed` answers is reported. Where it answers none, no M4
-- and no M5 is; an M3 may be, of a level without a mode that was inferred to be dynamic.
pub record IsToldOf (m : Assignment) (n : Numbered) : Type 0 where
  pub told : (code : ErrorCode) → code_of m n ≡ Some code → IsTold m n code
  pub no_path : code_of m n ≡ None → IsTold m n LockPathNotConstant → ⊥
  pub no_mode : code_of m n ≡ None → IsTold m n ModeNotAllowed → ⊥

abbrev pub TypesAreTold : Type 0
TypesAreTold = (m : Assignment) → IsLeastAssignment m
    → (n : Numbered) → Contains (numbered (entities_in m.typed.program.items)) n → IsToldOf m n
