-- The places and links of a typed program, and the least assignment: which unwritten positions are dynamic.
use Rattle.std.specs.Prelude.{◌≡◌, ◌⊎◌, ℕ, ◌-◌, ◌<◌, ◌≤◌, min, List, [], ◌++◌, length, slice_index_or, Option, Some}
use Rattle.std.specs.Prelude.{None, IsSomeAnd, Contains}
use Rattle.std.specs.List.{flat_map}
use Rattle.sharc_tree.specs.declared.ctype.Mode.{Mode}
use Rattle.sharc_tree.specs.declared.ctype.Mode.TheVariants.{Private, Readonly, Locked, Racy, Dynamic}
use Rattle.sharc_tree.specs.{declared.tree.declaration.Declaration.Declaration, Measures.in_function}
use Rattle.sharc_tree.specs.Tree.{Expression, cast, Right, value, malloc, Function, Item, structure, global, function}
use Rattle.sharc_graph.specs.declared.graph.NodeFinding.{NodeFinding}
use Rattle.sharc_graph.specs.{declared.graph.NodeFinding.TheVariants.{Apart, Source, Behind}, Findings.finding_at}
use Rattle.sharc_graph.specs.{declared.place.PositionKind.PositionKind, declared.place.Link.Link}
use Rattle.sharc_graph.specs.{Flow.{flow_of, place_at, AreInferred}, Make.{equal_links, below_links}}
use Rattle.sharc_graph.specs.declared.place.PositionKind.TheVariants as place
use Rattle.sharc_ctype.specs.{Reaches.{Spawns, IsReached, NamesGlobal}, Resolved.{Resolution, global_at, function_at}}
use Rattle.sharc_ctype.specs.Transfers.{Receiver, lvalue, variable, result, Transfer, function_transfers}
use Rattle.sharc_ctype.specs.declared.entity.Numbered.{Numbered}
use Rattle.sharc_ctype.specs.Entities.{entities_in, numbered, entity_at, positions_of}
use Rattle.sharc_mode.specs.declared.position.Reason.{Reason}
use Rattle.sharc_mode.specs.declared.position.Reason.TheVariants.{Touched, Spawned, From}
use Rattle.sharc_mode.specs.Moded.{Assignment, position_count, reason_at}
use Rattle.sharc_mode.specs.{Rows.{Targets, written, declared_row, cast_row, row_at, behind}, Settled.settled_at}

-- ---- roots: the first position of what this token declares, where its type has one

abbrev pub IsFirst : Resolution → ℕ → ℕ → Type 0
IsFirst r token position = IsSomeAnd (entity_at r token token) (λ n. (0 < positions_of n.entity) × (n.first ≡ position))

-- the function is reached and names the global
abbrev pub Touches : Resolution → ℕ → ℕ → Type 0
Touches r f g = IsReached r f × NamesGlobal r f g

-- the top of a global that this function touches, and none before it does
pub record IsTouchedIn (r : Resolution) (position f : ℕ) : Type 0 where
  pub global : ℕ
  pub top : IsSomeAnd (global_at r global) (λ g. IsFirst r g.declaration.name.site.token position)
  pub touches : Touches r f global
  pub least : (other : ℕ) → Touches r other global → f ≤ other

-- the target of a parameter of this function, which is spawned somewhere
pub record IsPassedTo (r : Resolution) (position f : ℕ) : Type 0 where
  pub spawner : ℕ
  pub spawned : Spawns r spawner f
  pub parameter : IsSomeAnd (function_at r f) (λ d. (p : Declaration) × Contains d.parameters p
      × IsFirst r p.name.site.token position)

abbrev pub IsRoot : Resolution → ℕ → Type 0
IsRoot r position = (f : ℕ) × (IsTouchedIn r position f ⊎ IsPassedTo r position f)

-- ---- places: what is known of each position before the inference

abbrev pub written_place : Mode → PositionKind
written_place Private = place.Private
written_place Readonly = place.Other
written_place (Locked path) = place.Other
written_place Racy = place.Other
written_place Dynamic = place.Dynamic

abbrev pub IsUnsettledPlace : Resolution → ℕ → PositionKind → Type 0
IsUnsettledPlace r position place.Root = IsRoot r position
IsUnsettledPlace r position place.Unwritten = IsRoot r position → ⊥
IsUnsettledPlace r position place.Dynamic = ⊥
IsUnsettledPlace r position place.Private = ⊥
IsUnsettledPlace r position place.Other = ⊥

abbrev pub IsPlaceFor : Resolution → ℕ → Option Mode → PositionKind → Type 0
IsPlaceFor r position None p = IsUnsettledPlace r position p
IsPlaceFor r position (Some m) p = p ≡ written_place m

pub record ArePlaces (r : Resolution) (places : List PositionKind) : Type 0 where
  pub size : length places ≡ position_count r
  pub each : (position : ℕ) → IsPlaceFor r position (settled_at r position) (place_at places position)

-- ---- links

-- each level leads to the one directly below
abbrev pub levels_down : Numbered → List Link
levels_down n = below_links n.first (positions_of n.entity - 1)

-- two types are equal, depth by depth
abbrev pub equal_rows : Option Targets → Option Targets → List Link
equal_rows None b = []
equal_rows (Some a) None = []
equal_rows (Some a) (Some b) = equal_links a.first b.first (min a.count b.count)

-- what an assignment, an initialiser, an argument and a return give, and to what; NULL and malloc agree with every type
abbrev pub receiver_row : Resolution → Function → Receiver → Option Targets
receiver_row r f (lvalue u) = row_at r u
receiver_row r f (variable d) = Some (declared_row r written d.name.site.token)
receiver_row r f (result w) = Some (declared_row r written f.name.site.token)

abbrev pub source_row : Resolution → Right → Option Targets
source_row r (value e) = row_at r e
source_row r (malloc s n w) = None

abbrev pub transfer_links : Resolution → Function → Transfer → List Link
transfer_links r f t = equal_rows (receiver_row r f t.receiver) (source_row r t.source)

-- a cast's type and its source's, from depth 2 on
abbrev pub cast_links : Resolution → Expression → List Link
cast_links r (cast s t a) = equal_rows (behind (Some (cast_row r s))) (behind (row_at r a))
cast_links r _ = []

abbrev pub function_links : Resolution → Function → List Link
function_links r f = flat_map (transfer_links r f) (function_transfers r f) ++ flat_map (cast_links r) (in_function f)

abbrev pub item_links : Resolution → Item → List Link
item_links r (structure s) = []
item_links r (global g) = []
item_links r (function f) = function_links r f

abbrev pub links_of : Resolution → List Link
links_of r = flat_map levels_down (numbered (entities_in r.program.items)) ++ flat_map (item_links r) r.program.items

-- ---- the least assignment

-- what is written stays; an unwritten position is private where no path leads to it
abbrev pub inferred_mode : NodeFinding → Mode
inferred_mode Apart = Private
inferred_mode Source = Dynamic
inferred_mode (Behind rank reason) = Dynamic

abbrev pub mode_found : Option Mode → NodeFinding → Mode
mode_found (Some m) finding = m
mode_found None finding = inferred_mode finding

abbrev pub IsRootReason : Resolution → ℕ → Option Reason → Type 0
IsRootReason r position None = ⊥
IsRootReason r position (Some (Touched f)) = IsTouchedIn r position f
IsRootReason r position (Some (Spawned f)) = IsPassedTo r position f
IsRootReason r position (Some (From other)) = ⊥

-- the lowest position of the rank below that has an edge to it is in the finding
abbrev pub IsReasonBy : Resolution → ℕ → NodeFinding → Option Reason → Type 0
IsReasonBy r position Apart reason = reason ≡ None
IsReasonBy r position Source reason = IsRootReason r position reason
IsReasonBy r position (Behind rank other) reason = reason ≡ Some (From other)

abbrev pub IsReasonFor : Resolution → ℕ → Option Mode → NodeFinding → Option Reason → Type 0
IsReasonFor r position (Some m) finding reason = reason ≡ None
IsReasonFor r position None finding reason = IsReasonBy r position finding reason

-- by some list of the places of the program, and what is found of them by its links
pub record IsLeastAssignment (m : Assignment) : Type 0 where
  pub places : List PositionKind
  pub are_places : ArePlaces m.typed places
  pub findings : List NodeFinding
  pub are_inferred : AreInferred (flow_of places (links_of m.typed)) findings
  pub modes : length m.modes ≡ position_count m.typed
  pub mode : (position : ℕ) → position < position_count m.typed → slice_index_or m.modes position Private
      ≡ mode_found (settled_at m.typed position) (finding_at findings position)
  pub reasons : length m.reasons ≡ position_count m.typed
  pub reason : (position : ℕ) → position < position_count m.typed
      → IsReasonFor m.typed position (settled_at m.typed position) (finding_at findings position) (reason_at m position)
