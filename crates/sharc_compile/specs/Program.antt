-- The paths of the code of a program that flattening knows are those of the program.
use Rattle.std.specs.Prelude.{ℕ, ◌⊎◌, List, length}
use Rattle.sharc_mode.specs.Moded.{Assignment}
use Rattle.sharc_code.specs.{declared.code.Code.Code, declared.shape.Shape.Shape, Path.{begun, machine_after, CodePath}}
use Rattle.sharc_code.specs.Paced.{paced_in}
use Rattle.sharc_flat.specs.{declared.flat.Flat.{Flat as FlatCode}, Made.flat_of, Correct.ProgramSuits}
use Rattle.sharc_flat.specs.{Flattens.Flattens, Laws.FitsMade}
use Rattle.sharc_compile.specs.{Consistent.{Elements, said_in, IsConsistent}, Correct.IsBeginning, Generated.program_of}
use Rattle.sharc_compile.specs.{Lowered.lowered_in, Made.IsCodeOf, Source.FollowsSource}

-- of what flattening makes, whose frames have numbers of 32 bits
abbrev pub ProgramCodeFollows : Type 0
ProgramCodeFollows = (m : Assignment) → ProgramSuits m → (flat : FlatCode) → Flattens m flat → FitsMade (flat_of flat)
    → (code : Code) → (is : IsCodeOf flat code)
    → (s : Shape) (thread : ℕ) (elements : ℕ → Elements) (founds : List ℕ) → CodePath code s thread founds
    → IsConsistent code s (begun code s thread) elements founds
    → let at = machine_after code s (begun code s thread) founds in
    let said = said_in code s (begun code s thread) elements founds in
    let lowered = lowered_in code s (begun code s thread) elements founds in
    let paced = paced_in code s (begun code s thread) founds in
    IsBeginning at said paced
    ⊎ FollowsSource m code (program_of is.g) (length flat.functions.items) thread at said lowered paced
