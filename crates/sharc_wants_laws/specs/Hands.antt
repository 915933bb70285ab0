-- What a Free has taken out of a cell, and not lowered yet, is in flight.
use Rattle.std.specs.Prelude.{ℕ, true, ◌≡◌, ◌<◌, List, reverse}
use Rattle.sharc_mode.specs.Moded.{Assignment}
use Rattle.sharc_meaning.specs.References.{Begun, asked_with}
use Rattle.sharc_code.specs.{declared.code.Code.Code, declared.shape.Shape.Shape, Path.begun, Runs.{Turn, turns_of}}
use Rattle.sharc_code.specs.Whole.{CheckedRun, Erase, place_after}
use Rattle.sharc_flat.specs.Correct.{MayStart}
use Rattle.sharc_compile.specs.{Consistent.IsConsistent, OfRuns.{elements_before, founds_of, told_in}}
use Rattle.sharc_invariant.specs.Words.{staged_of}
use Rattle.sharc_wants_laws.specs.{Emptying.{IsEmptying, is_emptying}, Holding.lowered_of}
use Rattle.sharc_wants_laws.specs.InFlight.{IsInFlight, IsPastEvents}

-- what a thread with a function that may be started has in hand
abbrev pub HandsFly : Assignment → Code → Type 0
HandsFly m code = (s : Shape) (run : List Turn) → CheckedRun code s run
    → ((thread : ℕ)
    → IsConsistent code s (begun code s thread) (elements_before code s thread run) (founds_of (turns_of thread run)))
    → (thread : ℕ) → let R = reverse (told_in (Erase code s run)) in let at = (place_after code s run).threads thread in
    (b : Begun m R thread) → MayStart m b.own.function
    → (n : ℕ) → staged_of at.own.stage ≡ n → 0 < n → IsInFlight code at (lowered_of code s run thread) b n

-- and wherever it is at a Free before the Freed of the object, the program gives up the cells of that
abbrev pub FreesEmpty : Assignment → Code → Type 0
FreesEmpty m code = (s : Shape) (run : List Turn) → CheckedRun code s run
    → ((thread : ℕ)
    → IsConsistent code s (begun code s thread) (elements_before code s thread run) (founds_of (turns_of thread run)))
    → (thread : ℕ) → let R = reverse (told_in (Erase code s run)) in let at = (place_after code s run).threads thread in
    (b : Begun m R thread) → MayStart m b.own.function → is_emptying at.own.stage ≡ true
    → (fuel : ℕ) × IsPastEvents b fuel × IsEmptying code (asked_with b fuel) at
