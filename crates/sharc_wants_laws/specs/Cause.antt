-- What a report of a cast shows: the reference besides the one that was tested, by the history as far as it is told
-- there.
use Rattle.std.specs.Prelude.{ℕ, ◌≡◌, List, Some}
use Rattle.sharc_tree.specs.declared.event.SourceEvent.{SourceEvent}
use Rattle.sharc_mode.specs.Moded.{Assignment}
use Rattle.sharc_meaning.specs.References.{Begun}
use Rattle.sharc_code.specs.{declared.code.Code.Code, declared.shape.Shape.Shape}
use Rattle.sharc_code.specs.{declared.state.Stop.TheVariants.NotSole, Layout.Fits, Machine.{Machine, ref}}
use Rattle.sharc_code.specs.{Runs.{Global, Turn}, Whole.{CheckedRun, place_after}}
use Rattle.sharc_invariant.specs.{Labels.Labels, Typed.IsWellTyped, World.ObjectState, State.IsSmall}
use Rattle.sharc_invariant.specs.{Opened.{first_world, first_place}, Objects.objects_after}
use Rattle.sharc_history_laws.specs.{History.history_of, Reports.FindsOthers, Stores.BeginsWith}
use Rattle.sharc_accepted_laws.specs.Targets.{targets_of}
use Rattle.sharc_wants_laws.specs.{InFlight.IsInFreed, Sole.{IsSeen, NoneIsInFlight}}

-- no other thread than t is freeing an object that has a reference to the object of number n in a pointer cell
abbrev pub NoneIsInFreed : (m : Assignment) → Shape → Global Machine → (ℕ → ObjectState) → List SourceEvent → ℕ → ℕ
    → Type 0
NoneIsInFreed m s g obj R t n = (u : ℕ) → (u ≡ t → ⊥) → (b : Begun m R u) → IsInFreed (targets_of m) s g obj b n → ⊥

-- No reference to the object of number n is in flight: no other thread than t, on its way from its last event to its
-- next want, its stop or its end, gives one up that it has not lowered yet. What is given up is a local or temporary
-- that ends or is overwritten, the old value of a pointer cell that it wrote, the log of a mutex that it unlocked, or a
-- pointer cell of an object that it is freeing: that it has in hand, or that is still in the cell.
pub record NothingIsInFlight (m : Assignment) (code : Code) (s : Shape) (ls : Labels) (run : List Turn)
    (t n : ℕ) : Type 0 where
  pub given_up : NoneIsInFlight m code s run (history_of code s run) t n
  pub freed : NoneIsInFreed m s (place_after code s run)
      (objects_after code s ls (first_place code s) (first_world (targets_of m)).obj run) (history_of code s run) t n

-- The count of the report was found at a test of a register; and where none is in flight there, the references of the
-- history have one besides that which was tested.
pub record ShowsReference (m : Assignment) (code : Code) (s : Shape) (ls : Labels) (run : List Turn)
    (t site count : ℕ) : Type 0 where
  pub finds : FindsOthers (targets_of m) code s ls run t site count
  pub cause : let n = ref ((place_after code s finds.earlier).threads t) finds.register in NothingIsInFlight m code s ls
      finds.earlier t n → IsSeen m (history_of code s finds.earlier) t n

-- so it is of each thread that has stopped at such a test, in code that is typed by the program's targets
abbrev pub CastReportsShowCause : Assignment → Code → Type 0
CastReportsShowCause m code = (s : Shape) (ls : Labels) → IsWellTyped (targets_of m) code ls → Fits code s
    → IsSmall code s → BeginsWith m.typed code
    → (run : List Turn) → CheckedRun code s run
    → (t site count : ℕ) → ((place_after code s run).threads t).own.stop ≡ Some (NotSole site count)
    → ShowsReference m code s ls run t site count
