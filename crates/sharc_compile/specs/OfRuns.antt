-- What a checked run gives of the path of one of its threads.
use Rattle.std.specs.Prelude.{ℕ, ◌≡◌, List, [], ◌∷◌, length, map, reverse, nat_le, None, if◌then◌else◌}
use Rattle.sharc_tree.specs.declared.event.SourceEvent.{SourceEvent}
use Rattle.sharc_code.specs.{declared.code.Code.Code, declared.shape.Shape.Shape, Machine.Machine}
use Rattle.sharc_code.specs.Path.{begun, CodePath, machine_after, turn, asked_by}
use Rattle.sharc_code.specs.{Runs.{Said, Turn, result_of, turns_of, said_by}, Whole.{CheckedRun, Erase, place_after}}
use Rattle.sharc_code.specs.Says.{elements_in}
use Rattle.sharc_compile.specs.Consistent.{Elements, said_in}

-- what the words of its steps found, the last one first
abbrev pub founds_of : List Turn → List ℕ
founds_of turns = map (λ turn. result_of turn.event) turns

abbrev pub told_in : List (Said SourceEvent) → List SourceEvent
told_in says = map (λ said. said.told) says

-- the elements of objects at the end of a run
abbrev pub table_of : Code → Shape → List Turn → Elements
table_of code s turns n = elements_in (told_in (Erase code s turns)) n

-- those before turn k of a thread: at the longest first part of the run with k of its turns
abbrev pub elements_before : Code → Shape → ℕ → List Turn → ℕ → Elements
elements_before code s t [] k = table_of code s []
elements_before code s t (turn ∷ earlier) k =
    if nat_le (length (turns_of t (turn ∷ earlier))) k then table_of code s (turn ∷ earlier)
    else elements_before code s t earlier k

-- a turn that asks for no step finds 0
abbrev pub AreQuiet : Code → Shape → Machine → List ℕ → Type 0
AreQuiet code s m [] = Unit {0}
AreQuiet code s m (found ∷ earlier) =
    AreQuiet code s m earlier × (asked_by (turn code s (machine_after code s m earlier)) ≡ None → found ≡ 0)

pub record IsPathIn (code : Code) (s : Shape) (t : ℕ) (run : List Turn) : Type 0 where
  pub path : CodePath code s t (founds_of (turns_of t run))
  pub machine : (place_after code s run).threads t ≡ machine_after code s (begun code s t) (founds_of (turns_of t run))
  -- what the run reports of the thread is what its path says with the elements of the run
  pub said : told_in (said_by t (Erase code s run))
      ≡ reverse (said_in code s (begun code s t) (elements_before code s t run) (founds_of (turns_of t run)))
  pub quiet : AreQuiet code s (begun code s t) (founds_of (turns_of t run))

-- each thread of a checked run
abbrev pub RunsHavePaths : Type 0
RunsHavePaths = (code : Code) (s : Shape) (t : ℕ) (run : List Turn) → CheckedRun code s run → IsPathIn code s t run
