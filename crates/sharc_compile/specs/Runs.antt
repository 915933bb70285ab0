-- What a thread has reported in a checked run of the code of a program, the program reports.
use Rattle.std.specs.Prelude.{ℕ, ◌⊎◌, List, length, reverse}
use Rattle.sharc_mode.specs.Moded.{Assignment}
use Rattle.sharc_code.specs.{declared.code.Code.Code, declared.shape.Shape.Shape, Paced.paced_in, Path.begun}
use Rattle.sharc_code.specs.{Runs.{Turn, turns_of, said_by}, Whole.{CheckedRun, Erase, place_after}}
use Rattle.sharc_flat.specs.{declared.flat.Flat.{Flat as FlatCode}, Made.flat_of, Correct.ProgramSuits}
use Rattle.sharc_flat.specs.{Flattens.Flattens, Laws.FitsMade}
use Rattle.sharc_compile.specs.{Consistent.IsConsistent, Correct.IsBeginning, Generated.program_of, Lowered.lowered_in}
use Rattle.sharc_compile.specs.{OfRuns.{elements_before, founds_of, told_in}, Made.IsCodeOf, Source.FollowsSource}

-- where the results of its path are consistent with the elements of the run
abbrev pub RunsFollowSource : Type 0
RunsFollowSource = (m : Assignment) → ProgramSuits m → (flat : FlatCode) → Flattens m flat → FitsMade (flat_of flat)
    → (code : Code) → (is : IsCodeOf flat code)
    → (s : Shape) (thread : ℕ) (run : List Turn) → CheckedRun code s run
    → let founds = founds_of (turns_of thread run) in let elements = elements_before code s thread run in
    IsConsistent code s (begun code s thread) elements founds
    → let at = (place_after code s run).threads thread in
    let told = reverse (told_in (said_by thread (Erase code s run))) in
    let lowered = lowered_in code s (begun code s thread) elements founds in
    let paced = paced_in code s (begun code s thread) founds in
    IsBeginning at told paced
    ⊎ FollowsSource m code (program_of is.g) (length flat.functions.items) thread at told lowered paced
