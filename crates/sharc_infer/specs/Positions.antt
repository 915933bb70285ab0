-- What is made of each position from what is settled of it, from why it is a root and from what is found of it.
use Rattle.std.specs.Prelude.{◌≡◌, ℕ, ◌<◌, List, length, slice_index_or, Option, Some, None}
use Rattle.sharc_tree.specs.{declared.ctype.Mode.Mode, declared.ctype.Mode.TheVariants.Private}
use Rattle.sharc_graph.specs.declared.graph.NodeFinding.{NodeFinding}
use Rattle.sharc_graph.specs.{declared.graph.NodeFinding.TheVariants.{Apart, Source, Behind}, Findings.finding_at}
use Rattle.sharc_graph.specs.{declared.place.PositionKind.PositionKind, Flow.place_at}
use Rattle.sharc_graph.specs.declared.place.PositionKind.TheVariants as place
use Rattle.sharc_mode.specs.{declared.position.Reason.Reason, declared.position.Reason.TheVariants.From}
use Rattle.sharc_mode.specs.Flows.{written_place, mode_found}

abbrev pub unsettled_place : Option Reason → PositionKind
unsettled_place None = place.Unwritten
unsettled_place (Some reason) = place.Root

abbrev pub place_of : Option Mode → Option Reason → PositionKind
place_of (Some m) root = written_place m
place_of None root = unsettled_place root

abbrev pub reason_by : NodeFinding → Option Reason → Option Reason
reason_by Apart root = None
reason_by Source root = root
reason_by (Behind rank other) root = Some (From other)

abbrev pub reason_of : Option Mode → NodeFinding → Option Reason → Option Reason
reason_of (Some m) finding root = None
reason_of None finding root = reason_by finding root

abbrev pub settled_of : List (Option Mode) → ℕ → Option Mode
settled_of settled position = slice_index_or settled position None

abbrev pub root_of : List (Option Reason) → ℕ → Option Reason
root_of roots position = slice_index_or roots position None

pub record ArePlacesOf (settled : List (Option Mode)) (roots : List (Option Reason))
    (places : List PositionKind) : Type 0 where
  pub size : length places ≡ length settled
  pub each : (position : ℕ) → position < length settled
      → place_at places position ≡ place_of (settled_of settled position) (root_of roots position)

pub record AreModesOf (settled : List (Option Mode)) (findings : List NodeFinding) (modes : List Mode) : Type 0 where
  pub size : length modes ≡ length settled
  pub each : (position : ℕ) → position < length settled
      → slice_index_or modes position Private ≡ mode_found (settled_of settled position) (finding_at findings position)

pub record AreReasonsOf (settled : List (Option Mode)) (findings : List NodeFinding) (roots : List (Option Reason))
    (reasons : List (Option Reason)) : Type 0 where
  pub size : length reasons ≡ length settled
  pub each : (position : ℕ) → position < length settled → root_of reasons position
      ≡ reason_of (settled_of settled position) (finding_at findings position) (root_of roots position)
