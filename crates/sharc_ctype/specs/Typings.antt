-- What typing a program answers.
use Rattle.std.specs.Prelude.{◌≡◌, ℕ, Bool, true, false, List, [], ◌∷◌, drop, slice_index_or, if◌then◌else◌, Result, Ok}
use Rattle.std.specs.Prelude.{Err}
use Rattle.sharc_tree.specs.{declared.token.Site.Site, declared.token.Token.Token, declared.token.Tokens.Tokens}
use Rattle.sharc_tree.specs.{declared.token.FaultAt.FaultAt, Tree.Program}
use Rattle.sharc_names.specs.declared.fault.FaultCode.{FaultCode}
use Rattle.sharc_names.specs.declared.fault.FaultCode.TheVariants.{UnknownName, DefinedTwice, TypeMismatch}
use Rattle.sharc_names.specs.declared.fault.FaultCode.TheVariants.{ArgumentCount, NoLvalue, TypeNotAllowed, BadForm}
use Rattle.sharc_names.specs.declared.fault.FaultCode.TheVariants.{NoMain, LimitPassed}
use Rattle.sharc_names.specs.{declared.fault.Fault.Fault, Notes.{faults, IsFirst}}
use Rattle.sharc_ctype.specs.{declared.typed.Typed.Typed, declared.typed.TypeFault.TypeFault}
use Rattle.sharc_ctype.specs.{declared.typed.TypeFault.TheVariants.{At, Memory}, Items.notes_about}

-- C1, C2, C4, C7 and C9 print the word at their place
abbrev pub prints_name : FaultCode → Bool
prints_name UnknownName = true
prints_name DefinedTwice = true
prints_name TypeMismatch = false
prints_name ArgumentCount = true
prints_name NoLvalue = false
prints_name TypeNotAllowed = false
prints_name BadForm = true
prints_name NoMain = false
prints_name LimitPassed = true

-- the file and the line of the first of these tokens, or of the end of input
abbrev pub file_of : List Token → Site → ℕ
file_of [] end = end.file
file_of (t ∷ rest) end = t.file

abbrev pub line_of : List Token → Site → ℕ
line_of [] end = end.line
line_of (t ∷ rest) end = t.line

abbrev pub told_of : FaultCode → List Token → List ℕ
told_of code [] = []
told_of code (t ∷ rest) = if prints_name code then t.text else []

pub record IsToldAt (tokens : Tokens) (fault : Fault) (at : FaultAt FaultCode) : Type 0 where
  pub code : at.code ≡ fault.code
  pub file : at.file ≡ slice_index_or tokens.files (file_of (drop fault.place tokens.list) tokens.end) []
  pub line : at.line ≡ line_of (drop fault.place tokens.list) tokens.end
  pub offset : at.offset ≡ 0
  pub text : at.text ≡ told_of fault.code (drop fault.place tokens.list)

-- the first fault of a program, as it is reported
abbrev pub IsFaultOf : Program → FaultAt FaultCode → Type 0
IsFaultOf p at = (f : Fault) × IsFirst f (faults (notes_about p)) × IsToldAt p.tokens f at

-- the program with what its names name, which it has where it is typed (a `Typed` is typed), or its first fault
abbrev pub Types : Result Typed TypeFault → Program → Type 0
Types (Ok t) p = t.program ≡ p
Types (Err (At at)) p = IsFaultOf p at
Types (Err Memory) p = Unit {0}
