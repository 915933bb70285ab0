-- Lines of events are those of the source events that these are.
use Rattle.std.specs.Prelude.{◌≡◌, List, map}
use Rattle.sharc_tree.specs.declared.event.SourceEvent.{SourceEvent}
use Rattle.sharc_ctype.specs.Resolved.{Resolution}
use Rattle.sharc_code.specs.declared.code.Code.{Code}
use Rattle.sharc_audit.specs.{declared.line.EventLine.EventLine, Lines.AreLines}
use Rattle.sharc_history.specs.{declared.event.Event.Event, Told.{told, told_of_event}}
use Rattle.sharc_traced.specs.Writing.{AreLinesOf}

-- where events are computed as these source events, but for the modes of cells
abbrev pub LinesAreOfSources : Type 0
LinesAreOfSources = (r : Resolution) (code : Code) (lines : List EventLine) (events : List Event)
    (sources : List SourceEvent) → AreLinesOf r lines events → map (told code) events ≡ map told_of_event sources
    → AreLines r lines sources
