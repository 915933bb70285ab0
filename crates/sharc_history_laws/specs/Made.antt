-- Pointer cells of made objects, by the source.
use Rattle.std.specs.Prelude.{◌≡◌, ◌≢◌, ℕ, true, List, Some}
use Rattle.sharc_tree.specs.{declared.event.Object.TheVariants.Made, declared.event.SourceEvent.SourceEvent}
use Rattle.sharc_code.specs.{declared.code.Code.Code, declared.shape.Shape.Shape, Layout.Fits, Runs.Turn}
use Rattle.sharc_code.specs.Whole.{CheckedRun}
use Rattle.sharc_meaning.specs.{Events.{latest, makes}, Store.is_live}
use Rattle.sharc_invariant.specs.{Types.{Targets, field_in, is_pointer}, Labels.Labels, Typed.IsWellTyped}
use Rattle.sharc_invariant.specs.{State.IsSmall, Opened.{first_world, first_place}, Objects.objects_after}
use Rattle.sharc_history_laws.specs.History.{history_of}

-- a cell of an object that is made and live is a pointer by the table where it is one of what is made at the token of
-- the object's last New
abbrev pub PointersAreMade : Type 0
PointersAreMade = (x : Targets) (code : Code) (s : Shape) (ls : Labels) → IsWellTyped x code ls → Fits code s
    → IsSmall code s
    → (run : List Turn) → CheckedRun code s run → (p i : ℕ) → p ≢ 0
    → let R = history_of code s run in is_live R (Made p) ≡ true
    → (e : SourceEvent) × (latest (makes (Made p)) R ≡ Some e)
    × (is_pointer (field_in x (objects_after code s ls (first_place code s) (first_world x).obj run p).ty i).holds
    ≡ x.is_made_pointer e.site.token i)
