-- What holds of flattened code.
use Rattle.std.specs.Prelude.{◌≡◌, ℕ, ◌+◌, ◌*◌, ◌^◌, ◌<◌, List, slice_get, Some}
use Rattle.sharc_code.specs.{Path.{most_ints, most_refs}, declared.code.GlobalCells.GlobalCells}
use Rattle.sharc_mode.specs.Moded.{Assignment}
use Rattle.sharc_flat.specs.declared.op.Op.TheVariants as op
use Rattle.sharc_flat.specs.{declared.op.Spot.Spot, Framed.{IsInGlobal, IsFlat, IsFramed}, Machine.Flat}
use Rattle.sharc_flat.specs.{declared.flat.Flat.{Flat as FlatCode}, Made.flat_of, Correct.{ProgramSuits, AsksTheSame}}
use Rattle.sharc_flat.specs.{Flattened.IsFlattened, Flattens.Flattens, Tables.globals_of}
use Rattle.sharc_ctype.specs.Resolved.{Resolution}

abbrev pub FlattenedAsksTheSame : Type 0
FlattenedAsksTheSame = (m : Assignment) → ProgramSuits m → (flat : Flat) → IsFlattened m flat → AsksTheSame m flat

-- what is asked of the sizes of a program
pub record FitsFrames (flat : Flat) : Type 0 where
  pub few_ints : 256 * most_ints flat.functions < 2 ^ 32
  pub few_refs : 256 * most_refs flat.functions < 2 ^ 32
  pub apart : (g h place : ℕ) → IsInGlobal flat.globals g place → IsInGlobal flat.globals h place → g ≡ h
  pub few_cells : (n i elements cells field : ℕ) (spot : Spot)
      → slice_get flat.lines n ≡ Some (op.GlobalBounds i elements cells field spot) → elements * cells + field < 2 ^ 63

abbrev pub FlattenedIsFramed : Type 0
FlattenedIsFramed = (m : Assignment) → ProgramSuits m
    → (flat : Flat) → IsFlattened m flat → FitsFrames flat → IsFlat flat × IsFramed flat

-- there is flat code of every program, whatever the places of its globals
abbrev pub IsThereCode : Type 0
IsThereCode = (m : Assignment) (globals : List GlobalCells)
    → (flat : Flat) × IsFlattened m flat × (flat.globals ≡ globals)

-- what flattening makes is flat code of its program
abbrev pub MadeIsFlattened : Type 0
MadeIsFlattened = (m : Assignment) → (code : FlatCode) → Flattens m code → IsFlattened m (flat_of code)

-- what flattening makes asks for what the source asks for
abbrev pub MadeAsksTheSame : Type 0
MadeAsksTheSame = (m : Assignment) → ProgramSuits m → (code : FlatCode) → Flattens m code → AsksTheSame m (flat_of code)

-- no place is one of two globals
abbrev pub GlobalsLieApart : Type 0
GlobalsLieApart = (r : Resolution) (g h place : ℕ) → IsInGlobal (globals_of r) g place
    → IsInGlobal (globals_of r) h place → g ≡ h

-- what is asked of the sizes of what flattening makes
pub record FitsMade (flat : Flat) : Type 0 where
  pub few_ints : 256 * most_ints flat.functions < 2 ^ 32
  pub few_refs : 256 * most_refs flat.functions < 2 ^ 32
  pub few_cells : (n i elements cells field : ℕ) (spot : Spot)
      → slice_get flat.lines n ≡ Some (op.GlobalBounds i elements cells field spot) → elements * cells + field < 2 ^ 63

-- it stays within its frames
abbrev pub MadeIsFramed : Type 0
MadeIsFramed = (m : Assignment) → ProgramSuits m
    → (code : FlatCode) → Flattens m code → FitsMade (flat_of code) → IsFlat (flat_of code) × IsFramed (flat_of code)
