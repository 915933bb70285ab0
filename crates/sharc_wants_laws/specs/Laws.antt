-- What the program makes of flat code has each check directly before the access that it is of.
use Rattle.sharc_code.specs.declared.code.Code.{Code}
use Rattle.sharc_flat.specs.declared.flat.Flat.{Flat as FlatCode}
use Rattle.sharc_compile.specs.Made.{IsCodeOf}
use Rattle.sharc_history_laws.specs.Followed.{ChecksAreFollowed}

abbrev pub CodeIsFollowed : Type 0
CodeIsFollowed = (flat : FlatCode) (code : Code) → IsCodeOf flat code → ChecksAreFollowed code
