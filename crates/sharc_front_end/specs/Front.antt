-- What the front end makes of a source: the program that it is, with the least assignment of modes, or the reason why
-- it is refused.
use Rattle.std.specs.Prelude.{◌≡◌, ℕ, List, Result, Ok, Err}
use Rattle.sharc_tree.specs.{declared.token.FaultAt.FaultAt, declared.token.Tokens.Tokens, Tree.Program}
use Rattle.sharc_lex.specs.Grammar.{reading}
use Rattle.sharc_parse.specs.{declared.fault.GrammarFault.GrammarFault, Places.Reads}
use Rattle.sharc_names.specs.declared.fault.FaultCode.{FaultCode}
use Rattle.sharc_parse.specs.Programs as parser
use Rattle.sharc_ctype.specs.Resolved.{Resolution, IsResolved}
use Rattle.sharc_ctype.specs.Typings as typing
use Rattle.sharc_reach.specs.Reaching.{AreReached}
use Rattle.sharc_mode.specs.{Flows.IsLeastAssignment, Moded.Assignment}
use Rattle.sharc_report.specs.declared.refusal.SourceFault.{SourceFault}
use Rattle.sharc_report.specs.declared.refusal.SourceFault.TheVariants.{Lexer, Parser, Typing}
use Rattle.sharc_front_end.specs.{declared.program.ReachedProgram.ReachedProgram, declared.program.Refusal.Refusal}
use Rattle.sharc_front_end.specs.declared.program.Refusal.TheVariants.{Source, Memory}

-- its tokens are those of the source, and the grammar reads them as the program, which is typed
pub record IsTypedFrom (source : List ℕ) (r : Resolution) : Type 0 where
  pub tokens : Tokens
  pub read : reading source ≡ Ok tokens
  pub reads : Reads tokens r.program
  pub resolved : IsResolved r

-- and its modes are the least ones
pub record IsFront (source : List ℕ) (m : Assignment) : Type 0 where
  pub typed : IsTypedFrom source m.typed
  pub least : IsLeastAssignment m

-- ---- the first fault of the first stage that has one

pub record IsMisread (source : List ℕ) (at : FaultAt GrammarFault) : Type 0 where
  pub tokens : Tokens
  pub read : reading source ≡ Ok tokens
  pub fault : parser.IsFaultOf tokens at

pub record IsMistyped (source : List ℕ) (at : FaultAt FaultCode) : Type 0 where
  pub tokens : Tokens
  pub program : Program
  pub read : reading source ≡ Ok tokens
  pub reads : Reads tokens program
  pub fault : typing.IsFaultOf program at

abbrev pub IsSourceFault : List ℕ → SourceFault → Type 0
IsSourceFault source (Lexer at) = reading source ≡ Err at
IsSourceFault source (Parser at) = IsMisread source at
IsSourceFault source (Typing at) = IsMistyped source at

-- whether the modes are accepted is not looked at here
abbrev pub IsRefusal : List ℕ → Refusal → Type 0
IsRefusal source (Source fault) = IsSourceFault source fault
IsRefusal source Memory = Unit {0}

abbrev pub Types : List ℕ → Result Resolution Refusal → Type 0
Types source (Ok r) = IsTypedFrom source r
Types source (Err e) = IsRefusal source e

-- with the program comes what threads reach in it
abbrev pub Fronts : List ℕ → Result ReachedProgram Refusal → Type 0
Fronts source (Ok found) = IsFront source found.program × AreReached found.program.typed found.reached
Fronts source (Err e) = IsRefusal source e
