-- Where the threads of a run are, among the events of all threads.
use Rattle.sharc_wants_laws.proofs.{Imports.{◌≡◌, ℕ, inl, inr, ⊎_elim, ◌⊎◌, List, [], map, SourceEvent, Assignment, events_of, by, Code, Machine, begun, Shape, Turn, turns_of, CheckedRun, place_after, IsConsistent, elements_before, founds_of, RunsHavePaths, IsHolding, IsHoldingThere, IsHoldingIn, PathsHold, lowered_of, answers_of, ℤ, IsNotThere}, Telling.{history_of, machine_of, said_of, IsAtStart}}
use Rattle.sharc_meaning.specs.Meaning.{asks}
use Rattle.sharc_compile_laws.specs.Threads.{OwnAreTold}
use Rattle.sharc_wants_laws.proofs.Telling as telling

module _ (law : OwnAreTold) (paths : RunsHavePaths) (m : Assignment) (code : Code) (holds : PathsHold m code) (s : Shape) (run : List Turn) (checked : CheckedRun code s run)
    (consistent : (t : ℕ) → IsConsistent code s (begun code s t) (elements_before code s t run) (founds_of (turns_of t run))) where
  abbrev Then : ℕ → Machine → ℕ → ℤ → List SourceEvent → Type 0
  Then t at f argument told = IsHolding m code f argument t told at (lowered_of code s run t)

  asked : (t : ℕ) (at : Machine) (f : ℕ) (argument : ℤ) (told : List SourceEvent) → Then t at f argument told → (fuel : ℕ) × (map (by t) (asks m f argument (answers_of told) fuel).events ≡ told)
  asked t at f argument told h = (h.fuel, h.events)

  one : (t : ℕ) → IsAtStart code s run t ⊎ IsHoldingThere m code t (machine_of code s run t) (said_of code s run t) (lowered_of code s run t)
  one t = holds s t (elements_before code s t run) (founds_of (turns_of t run)) (paths code s t run checked).path (consistent t)

  pub events_are : (t : ℕ) → events_of t (history_of code s run) ≡ said_of code s run t
  events_are = telling.events_are law paths m code s run checked Then asked one

  pub placed : (t : ℕ) → (events_of t (history_of code s run) ≡ []) ⊎ IsHoldingIn m code (history_of code s run) t ((place_after code s run).threads t) (lowered_of code s run t)
  placed t = ⊎_elim
      (λ (b : IsNotThere (history_of code s run) t ((place_after code s run).threads t)). inl b.nothing)
      (λ (h : IsHoldingIn m code (history_of code s run) t ((place_after code s run).threads t) (lowered_of code s run t)). inr h)
      (telling.placed law paths m code s run checked Then asked one t)
