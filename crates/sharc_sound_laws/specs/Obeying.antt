-- A program that always obeys gets no report of an access, where its code is typed.
use Rattle.std.specs.Prelude.{◌≡◌, ℕ, List, Some}
use Rattle.sharc_mode.specs.Moded.{Assignment}
use Rattle.sharc_code.specs.{declared.code.Code.Code, declared.shape.Shape.Shape, declared.state.Stop.Stop}
use Rattle.sharc_code.specs.{declared.state.Stop.TheVariants.{Conflict, NoLock}, Layout.Fits, Runs.Turn}
use Rattle.sharc_code.specs.Whole.{CheckedRun, place_after}
use Rattle.sharc_flat.specs.{declared.flat.Flat.{Flat as FlatCode}, Made.flat_of, Laws.FitsMade, Flattens.Flattens}
use Rattle.sharc_meaning.specs.Obeys.{AlwaysObeys}
use Rattle.sharc_compile.specs.Made.{IsCodeOf}
use Rattle.sharc_accepted_laws.specs.Accepted.{IsSourceProgram}
use Rattle.sharc_invariant.specs.{Types.Targets, Labels.Labels, Typed.IsWellTyped, State.IsSmall}
use Rattle.sharc_build.specs.{declared.building.Built.Built, Built.IsBuilt}

-- A1, A2 and A3: the check of an access was refused
abbrev pub IsAccessReport : Stop → Type 0
IsAccessReport (Conflict c) = Unit {0}
IsAccessReport (NoLock site word) = Unit {0}
IsAccessReport _ = ⊥

-- no thread has stopped so
abbrev pub NoAccessReport : Code → Shape → List Turn → Type 0
NoAccessReport code s run = (t : ℕ) (stop : Stop) → ((place_after code s run).threads t).own.stop ≡ Some stop
    → IsAccessReport stop → ⊥

-- in no checked run, by threads in any order, of the code of a program whose source runs all obey
abbrev pub ObeyingIsUnreportedIfTyped : Type 0
ObeyingIsUnreportedIfTyped = (m : Assignment) → IsSourceProgram m
    → (flat : FlatCode) → Flattens m flat → FitsMade (flat_of flat) → (code : Code) → IsCodeOf flat code
    → (x : Targets) (ls : Labels) → IsWellTyped x code ls → AlwaysObeys m → (s : Shape) → Fits code s → IsSmall code s
    → (run : List Turn) → CheckedRun code s run → NoAccessReport code s run

-- nor of the code that is built of a source
abbrev pub BuiltObeyingIsUnreportedIfTyped : Type 0
BuiltObeyingIsUnreportedIfTyped = (source : List ℕ) (built : Built) → IsBuilt source built
    → (x : Targets) (ls : Labels) → IsWellTyped x built.code ls → AlwaysObeys built.checked
    → (s : Shape) → Fits built.code s
    → (run : List Turn) → CheckedRun built.code s run → NoAccessReport built.code s run
