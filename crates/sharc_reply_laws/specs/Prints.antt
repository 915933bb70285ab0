-- What a run prints: the Print events of its source events, in their order.
use Rattle.std.specs.Prelude.{◌≡◌, ℕ, ℤ, List, ◌++◌, codes, filter_map, flat_map, length, map, reverse, Option, Some}
use Rattle.std.specs.Prelude.{None}
use Rattle.std.specs.{Fmt.signed_decimal, List.range_with_len}
use Rattle.sharc_tree.specs.{declared.event.Act.Act, declared.event.Act.TheVariants.{Print as Prints}}
use Rattle.sharc_tree.specs.declared.event.SourceEvent.{SourceEvent}
use Rattle.sharc_code.specs.{declared.code.Code.Code, declared.shape.Shape.Shape, declared.state.Print.Print}
use Rattle.sharc_code.specs.{Layout.Fits, Runs.Turn, Whole.{CheckedRun, Erase, place_after}}
use Rattle.sharc_cpu.specs.Thread.{ThreadView}
use Rattle.sharc_threads.specs.Ends.{AreStarted}
use Rattle.sharc_run.specs.RunText.{AreInOrder, IsRunText, place_of, thread_line}

-- ---- of source events
abbrev pub printed_by : Act → Option ℤ
printed_by (Prints v) = Some v
printed_by _ = None

-- the values of the Print events, in the order of these
abbrev pub printed_in : List SourceEvent → List ℤ
printed_in R = filter_map (λ e. printed_by e.act) R

-- a value on a line of its own
abbrev pub value_line : ℤ → List ℕ
value_line v = signed_decimal v ++ codes "\n"

-- ---- of a run
-- its source events, the first one first
abbrev pub events_in : Code → Shape → List Turn → List SourceEvent
events_in code s run = reverse (map (λ said. said.told) (Erase code s run))

-- the prints are of these events, and the place of each is its number among them, from 0: so no two have one place
pub record ArePrintsOf (R : List SourceEvent) (prints : List Print) : Type 0 where
  pub values : map (λ p. p.value) prints ≡ printed_in R
  pub places : map place_of prints ≡ range_with_len 0 (length prints)

-- all prints of the threads of a checked run, in the order of their places
abbrev pub PrintsAreTold : Type 0
PrintsAreTold = (code : Code) (s : Shape) → Fits code s → (run : List Turn) → CheckedRun code s run
    → (threads : List ThreadView) → AreStarted code s (place_after code s run) threads
    → (prints : List Print) → AreInOrder threads prints → ArePrintsOf (events_in code s run) prints

-- what is written of a run: a line for each Print event, in the order of these, and then a line for each thread that is
-- not gone
abbrev pub TextsBeginWithPrints : Type 0
TextsBeginWithPrints = (code : Code) (s : Shape) → Fits code s → (run : List Turn) → CheckedRun code s run
    → (threads : List ThreadView) → AreStarted code s (place_after code s run) threads
    → (text : List ℕ) → IsRunText code (place_after code s run).words threads text
    → text ≡ flat_map value_line (printed_in (events_in code s run))
    ++ flat_map (thread_line code (place_after code s run).words threads) threads
