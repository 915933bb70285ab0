-- What a path of a thread of the code of a program reports, whatever words it finds: what the program asks for by the
-- answers of the events that are reported.
use Rattle.std.specs.Prelude.{ℕ, ℤ, pos, ◌+◌, ◌*◌, ◌≡◌, ◌<◌, ◌⊎◌, List, ◌∷◌, ◌++◌, map, reverse}
use Rattle.sharc_tree.specs.{declared.event.Act.TheVariants.Started, declared.event.SourceEvent.SourceEvent}
use Rattle.sharc_ctype.specs.Resolved.{function_at}
use Rattle.sharc_mode.specs.Moded.{Assignment}
use Rattle.sharc_meaning.specs.{Meaning.asks, Runs.{IsNamedAt, answers_of, by}, State.spent}
use Rattle.sharc_code.specs.{declared.code.Code.Code, declared.shape.Shape.Shape, Machine.Machine, Paced.paced_in}
use Rattle.sharc_code.specs.{Path.{begun, machine_after, CodePath}, Runs.{Turn, turns_of, said_by}}
use Rattle.sharc_code.specs.Whole.{CheckedRun, Erase, place_after}
use Rattle.sharc_flat.specs.{declared.flat.Flat.{Flat as FlatCode}, Made.flat_of, Correct.MayStart, Flattens.Flattens}
use Rattle.sharc_flat.specs.Laws.{FitsMade}
use Rattle.sharc_guard.specs.Correct.{Resolved}
use Rattle.sharc_compile.specs.{Consistent.{Elements, said_in, IsConsistent}, Correct.IsBeginning, Lowered.lowered_in}
use Rattle.sharc_compile.specs.{OfRuns.{elements_before, founds_of, told_in}, Made.IsCodeOf, Source.IsOverAs}
use Rattle.sharc_flat_laws.specs.Typed.{IsTypedProgram}

-- The thread has reported exactly these events after its Started. With some fuel the program asks for just them, by
-- their answers, and is over as the code is: ended, or stopped at the same site by the same X, or, where the code was
-- refused by X7, X8, X9 or A1 to A4, at the event that it wants next. What the code has lowered since the last event
-- are the first of the references that the program has given up since. The turns that count are at most 64 for each
-- statement and expression that the program has entered, and 64 more: with fuel for fewer it is spent before it is
-- there.
pub record IsAskedFor (m : Assignment) (code : Code) (thread function : ℕ) (argument : ℤ) (told : List SourceEvent)
    (at : Machine) (lowered : List ℕ) (paced : ℕ) : Type 0 where
  pub fuel : ℕ
  pub events : map (by thread) (asks m function argument (answers_of told) fuel).events ≡ told
  pub over : IsOverAs code (asks m function argument (answers_of told) fuel).outcome at.at.state at.own.stop
  pub given : (more : List ℕ) × Resolved (asks m function argument (answers_of told) fuel).given_up (lowered ++ more)
  pub pace : (few : ℕ) → 64 * few + 64 < paced → (asks m function argument (answers_of told) few).outcome ≡ spent

-- It begins with the Started of a function, at the name of that; the rest is asked for, if the function may be started.
pub record TellsProgram (m : Assignment) (code : Code) (thread : ℕ) (at : Machine) (said : List SourceEvent)
    (lowered : List ℕ) (paced : ℕ) : Type 0 where
  pub function : ℕ
  pub argument : ℤ
  pub begins : SourceEvent
  pub told : List SourceEvent
  pub starts : said ≡ begins ∷ told
  pub own : begins.thread ≡ thread
  pub act : begins.act ≡ Started argument
  pub answer : begins.answer ≡ pos 0
  pub site : IsNamedAt (function_at m.typed function) begins.site
  pub asked : MayStart m function → IsAskedFor m code thread function argument told at lowered paced

-- So it is of each path, once it has begun, whose results are consistent.
abbrev pub PathsTell : Assignment → Code → Type 0
PathsTell m code = (s : Shape) (thread : ℕ) (elements : ℕ → Elements) (founds : List ℕ) → CodePath code s thread founds
    → IsConsistent code s (begun code s thread) elements founds
    → let at = machine_after code s (begun code s thread) founds in
    let said = said_in code s (begun code s thread) elements founds in
    let lowered = lowered_in code s (begun code s thread) elements founds in
    let paced = paced_in code s (begun code s thread) founds in
    IsBeginning at said paced ⊎ TellsProgram m code thread at said lowered paced

-- And of each thread of a checked run, in any interleaving, whose path has results that are consistent with the objects
-- that the run has made.
abbrev pub ThreadsTellInRuns : Assignment → Code → Type 0
ThreadsTellInRuns m code = (s : Shape) (thread : ℕ) (run : List Turn) → CheckedRun code s run
    → let founds = founds_of (turns_of thread run) in let elements = elements_before code s thread run in
    IsConsistent code s (begun code s thread) elements founds
    → let at = (place_after code s run).threads thread in
    let said = reverse (told_in (said_by thread (Erase code s run))) in
    let lowered = lowered_in code s (begun code s thread) elements founds in
    let paced = paced_in code s (begun code s thread) founds in
    IsBeginning at said paced ⊎ TellsProgram m code thread at said lowered paced

-- of the code of a typed, well-moded program
abbrev pub OfTyped : (Assignment → Code → Type 0) → Type 0
OfTyped Tells = (m : Assignment) → IsTypedProgram m → (flat : FlatCode) → Flattens m flat → FitsMade (flat_of flat)
    → (code : Code) → IsCodeOf flat code → Tells m code
