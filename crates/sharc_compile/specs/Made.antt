-- The code that the program makes of flat code.
use Rattle.std.specs.Prelude.{ℕ, ◌⊎◌, List}
use Rattle.sharc_code.specs.{declared.code.Code.Code, declared.shape.Shape.Shape, Path.{begun, machine_after, CodePath}}
use Rattle.sharc_code.specs.Paced.{paced_in}
use Rattle.sharc_flat.specs.{declared.flat.Flat.{Flat as FlatCode}, Framed.{IsFlat, IsFramed}, Made.flat_of}
use Rattle.sharc_guard.specs.{declared.guarded.Guarded.Guarded, Known.dropped, Made.IsMade}
use Rattle.sharc_compile.specs.{Consistent.{Elements, said_in, IsConsistent}, Correct.IsBeginning}
use Rattle.sharc_compile.specs.{Generated.IsGenerated, Lowered.lowered_in, Coded.FollowsFlat}

-- generated of the guarded code of flat code, without the checks that repeat one
pub record IsCodeOf (flat : FlatCode) (code : Code) : Type 0 where
  pub g : Guarded
  pub made : IsMade (dropped (flat_of flat)) flat g
  pub generated : IsGenerated g code

abbrev pub MadeCodeFollows : Type 0
MadeCodeFollows = (flat : FlatCode) (code : Code) → IsFlat (flat_of flat) → IsFramed (flat_of flat)
    → (is : IsCodeOf flat code)
    → (s : Shape) (thread : ℕ) (elements : ℕ → Elements) (founds : List ℕ) → CodePath code s thread founds
    → IsConsistent code s (begun code s thread) elements founds
    → let m = machine_after code s (begun code s thread) founds in
    let said = said_in code s (begun code s thread) elements founds in
    let lowered = lowered_in code s (begun code s thread) elements founds in
    let paced = paced_in code s (begun code s thread) founds in
    IsBeginning m said paced ⊎ FollowsFlat code is.g (flat_of flat) thread m said lowered paced
