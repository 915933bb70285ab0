-- Where a test of a cast or a `free` passed, by the references of the history the one that was taken is the only one to
-- its object.
use Rattle.std.specs.Prelude.{ℕ, ◌≡◌, ◌≢◌, true, List, ◌∷◌}
use Rattle.sharc_tree.specs.declared.event.CellAt.{CellAt}
use Rattle.sharc_mode.specs.Moded.{Assignment}
use Rattle.sharc_meaning.specs.References.{Holder, References, in_argument, in_cell, in_mutex, in_thread}
use Rattle.sharc_meaning.specs.References.{is_taken_to_free}
use Rattle.sharc_wants_laws.specs.{Freeing.TakesLast, Alone.{Passes, objects_there, tested_object}}
use Rattle.sharc_code.specs.{declared.code.Code.Code, declared.shape.Shape.Shape, Layout.Fits, Runs.Turn}
use Rattle.sharc_code.specs.Whole.{CheckedRun, place_after}
use Rattle.sharc_invariant.specs.{Types.Targets, Labels.Labels, Typed.IsWellTyped, State.IsSmall}
use Rattle.sharc_invariant.specs.MachineInvariant.{is_pointer_now}
use Rattle.sharc_history_laws.specs.{History.history_of, SeenCells.{IsBeingFreed, IsCellIn}, Stores.BeginsWith}
use Rattle.sharc_accepted_laws.specs.Targets.{targets_of}

-- no other thread holds one, and the thread that tests holds no second one
abbrev pub ThreadsHoldNone : Assignment → Code → Type 0
ThreadsHoldNone m code = (x : Targets) (s : Shape) (ls : Labels) → IsWellTyped x code ls → Fits code s → IsSmall code s
    → (test : Turn) (earlier : List Turn) → CheckedRun code s (test ∷ earlier)
    → (register : ℕ) → Passes code s test earlier register
    → (u which : ℕ)
    → References m (history_of code s earlier) (tested_object code s test earlier register) (in_thread u which)
    → (u ≡ test.thread) × (which ≡ 0)

-- no argument that is not read yet is one
abbrev pub ArgumentsHoldNone : Assignment → Code → Type 0
ArgumentsHoldNone m code = (x : Targets) (s : Shape) (ls : Labels) → IsWellTyped x code ls → Fits code s
    → IsSmall code s → BeginsWith m.typed code
    → (test : Turn) (earlier : List Turn) → CheckedRun code s (test ∷ earlier)
    → (register : ℕ) → Passes code s test earlier register
    → (u : ℕ) → References m (history_of code s earlier) (tested_object code s test earlier register) (in_argument u)
    → ⊥

-- no mutex of the object is held
abbrev pub MutexesHoldNone : Type 0
MutexesHoldNone = (m : Assignment) (code : Code) (x : Targets) (s : Shape) (ls : Labels) → IsWellTyped x code ls
    → Fits code s → IsSmall code s → BeginsWith m.typed code
    → (test : Turn) (earlier : List Turn) → CheckedRun code s (test ∷ earlier)
    → (register : ℕ) → Passes code s test earlier register
    → (c : CellAt) → References m (history_of code s earlier) (tested_object code s test earlier register) (in_mutex c)
    → ⊥

-- A cell that is a pointer of a live object by the table of targets, and one of the references, is a cell of another
-- object that a Free is emptying.
abbrev pub CellsHoldNone : Type 0
CellsHoldNone = (m : Assignment) (code : Code) (x : Targets) (s : Shape) (ls : Labels) → IsWellTyped x code ls
    → Fits code s → IsSmall code s → BeginsWith m.typed code
    → (test : Turn) (earlier : List Turn) → CheckedRun code s (test ∷ earlier)
    → (register : ℕ) → Passes code s test earlier register
    → (p i : ℕ) (c : CellAt) → IsCellIn code c.object c.cell p i
    → is_pointer_now x s (place_after code s earlier) (objects_there x code s ls earlier) p i ≡ true
    → let n = tested_object code s test earlier register in References m (history_of code s earlier) n (in_cell c)
    → IsBeingFreed code (place_after code s earlier) p × (p ≢ n)

-- ---- objects that are freed
-- what the last event of a thread has taken to free it is live
abbrev pub TakenAreLive : Assignment → Code → Type 0
TakenAreLive m code = (x : Targets) (s : Shape) (ls : Labels) → IsWellTyped x code ls → Fits code s → IsSmall code s
    → (run : List Turn) → CheckedRun code s run → (thread n : ℕ) → n ≢ 0 → TakesLast (history_of code s run) thread n
    → (objects_there x code s ls run n).live ≡ true

-- by the history a `free` has taken an object that a Free is emptying
abbrev pub FreedAreTaken : Assignment → Code → Type 0
FreedAreTaken m code = (x : Targets) (s : Shape) (ls : Labels) → IsWellTyped x code ls → Fits code s → IsSmall code s
    → (run : List Turn) → CheckedRun code s run
    → (p : ℕ) → IsBeingFreed code (place_after code s run) p → is_taken_to_free (history_of code s run) p ≡ true

-- ---- all of them
-- The one that was taken is the only one of all references to the object.
abbrev pub TestedAreOnly : Assignment → Code → Type 0
TestedAreOnly m code = (s : Shape) (ls : Labels) → IsWellTyped (targets_of m) code ls → Fits code s → IsSmall code s
    → BeginsWith m.typed code
    → (test : Turn) (earlier : List Turn) → CheckedRun code s (test ∷ earlier)
    → (register : ℕ) → Passes code s test earlier register
    → (holder : Holder) → References m (history_of code s earlier) (tested_object code s test earlier register) holder
    → holder ≡ in_thread test.thread 0
