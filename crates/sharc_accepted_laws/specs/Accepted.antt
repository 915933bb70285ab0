-- The code of a program that is accepted is typed, and its flat code overwrites no reference.
use Rattle.sharc_code.specs.declared.code.Code.{Code}
use Rattle.sharc_mode.specs.Moded.{Assignment}
use Rattle.sharc_flat.specs.{declared.flat.Flat.{Flat as FlatCode}, Made.flat_of, Flattens.Flattens, Laws.FitsMade}
use Rattle.sharc_guard.specs.Level.{IsLevel}
use Rattle.sharc_compile.specs.Made.{IsCodeOf}
use Rattle.sharc_flat_laws.specs.Typed.{IsTypedProgram}
use Rattle.sharc_invariant.specs.{Labels.Labels, Typed.IsWellTyped}
use Rattle.sharc_typed_laws.specs.Programs.{AreGlobalsNamed}
use Rattle.sharc_accepted_laws.specs.{StaticLaws.IsAccepted, Targets.targets_of, Programs.AreUnsigned}
use Rattle.sharc_accepted_laws.specs.Setting.{ConstantsHold}

-- ---- names
-- what is named as a global is one of the program
abbrev pub GlobalsAreNamed : Type 0
GlobalsAreNamed = (m : Assignment) → IsAccepted m → AreGlobalsNamed m

-- ---- the code
-- By the targets of the program. Its constants are held by their types and its numbers have no sign, as those of each
-- program that a source is.
abbrev pub AcceptedIsTyped : Type 0
AcceptedIsTyped = (m : Assignment) → IsAccepted m → ConstantsHold m → AreUnsigned m.typed
    → (flat : FlatCode) → Flattens m flat → FitsMade (flat_of flat) → (code : Code) → IsCodeOf flat code
    → (ls : Labels) × IsWellTyped (targets_of m) code ls

-- A register of the flat code of which it is made that gets a reference is NULL before, or gives up its own.
abbrev pub AcceptedIsLevel : Type 0
AcceptedIsLevel = (m : Assignment) → IsAccepted m → ConstantsHold m → AreUnsigned m.typed
    → (flat : FlatCode) → Flattens m flat → FitsMade (flat_of flat) → (code : Code) → IsCodeOf flat code
    → IsLevel (flat_of flat)

-- ---- what a source is that is accepted
pub record IsSourceProgram (m : Assignment) : Type 0 where
  pub typed : IsTypedProgram m
  pub constants : ConstantsHold m
  pub unsigned : AreUnsigned m.typed

-- of the code of such a program
abbrev pub OfSources : (Assignment → Code → Type 0) → Type 0
OfSources Tells = (m : Assignment) → IsSourceProgram m → (flat : FlatCode) → Flattens m flat → FitsMade (flat_of flat)
    → (code : Code) → IsCodeOf flat code → Tells m code
