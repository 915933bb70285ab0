-- The least assignment: which unwritten positions are dynamic, their ranks and reasons.
use Rattle.std.specs.Prelude.{◌≡◌, ℕ, zero, suc, ◌+◌, ◌≤◌, ◌⊎◌, Bool, true, false, List, [], ◌∷◌, length}
use Rattle.std.specs.Prelude.{slice_index_or, if◌then◌else◌}
use Rattle.std.specs.List.{Contains}
use Rattle.sharc_graph.specs.{declared.graph.Node.Node, declared.graph.Edge.Edge}
use Rattle.sharc_graph.specs.declared.graph.NodeFinding.{NodeFinding}
use Rattle.sharc_graph.specs.{declared.graph.NodeFinding.TheVariants.{Apart, Source, Behind}, Findings.finding_at}
use Rattle.sharc_graph.specs.{Paths.{edge_of, last_of}, declared.place.PositionKind.PositionKind}
use Rattle.sharc_graph.specs.declared.place.PositionKind.TheVariants.{Root, Unwritten, Dynamic, Private, Other}
use Rattle.sharc_graph.specs.declared.place.Link.{Link}

pub record Flow : Type 0 where
  pub places : List PositionKind
  pub links : List Link

abbrev pub flow_of : List PositionKind → List Link → Flow
flow_of places links = record { places = places; links = links }

-- past the last position nothing takes part
abbrev pub place_at : List PositionKind → ℕ → PositionKind
place_at places position = slice_index_or places position Private

-- ---- what is written
abbrev pub is_unwritten : PositionKind → Bool
is_unwritten Root = true
is_unwritten Unwritten = true
is_unwritten Dynamic = false
is_unwritten Private = false
is_unwritten Other = false

-- of rank 0 for each of its edges
abbrev pub is_source : PositionKind → Bool
is_source Root = true
is_source Unwritten = false
is_source Dynamic = true
is_source Private = false
is_source Other = false

abbrev pub IsUnwritten : Flow → ℕ → Type 0
IsUnwritten f position = is_unwritten (place_at f.places position) ≡ true

abbrev pub IsOrigin : Flow → ℕ → Type 0
IsOrigin f position = is_source (place_at f.places position) ≡ true

-- written, not private and not dynamic: of rank 0 for the edge to the position below it alone
abbrev pub IsOther : Flow → ℕ → Type 0
IsOther f position = place_at f.places position ≡ Other

-- ---- edges
abbrev pub link_of : ℕ → ℕ → Bool → Link
link_of from to below = record { edge = edge_of from to; below = below }

-- to the position directly below
abbrev pub LeadsDown : Flow → ℕ → ℕ → Type 0
LeadsDown f from to = Contains f.links (link_of from to true)

-- to an equal position
abbrev pub IsEqual : Flow → ℕ → ℕ → Type 0
IsEqual f from to = Contains f.links (link_of from to false)

abbrev pub HasLink : Flow → ℕ → ℕ → Type 0
HasLink f from to = LeadsDown f from to ⊎ IsEqual f from to

-- a position of rank 0 for this edge
abbrev pub IsFirstFor : Flow → ℕ → ℕ → Type 0
IsFirstFor f from to = (IsOrigin f from × HasLink f from to) ⊎ (IsOther f from × LeadsDown f from to)

-- ---- paths
-- each of these has no written mode, and an edge leads to it from the one before; to the first of them from this
-- position
abbrev pub FollowLinks : Flow → ℕ → List ℕ → Type 0
FollowLinks f position [] = Unit {0}
FollowLinks f position (next ∷ rest) = HasLink f position next × IsUnwritten f next × FollowLinks f next rest

-- a path may begin so
abbrev pub Begins : Flow → ℕ → List ℕ → Type 0
Begins f first [] = IsOrigin f first
Begins f first (next ∷ rest) = IsFirstFor f first next

pub record FlowsTo (f : Flow) (first : ℕ) (rest : List ℕ) (position : ℕ) : Type 0 where
  pub begins : Begins f first rest
  pub follow : FollowLinks f first rest
  pub ends : last_of first rest ≡ position

-- ---- ranks and reasons
-- a path of this many edges leads to the position, and none of fewer
pub record IsInferredRank (f : Flow) (position rank : ℕ) : Type 0 where
  pub first : ℕ
  pub rest : List ℕ
  pub path : FlowsTo f first rest position
  pub edges : length rest ≡ rank
  pub least : (other : ℕ) (others : List ℕ) → FlowsTo f other others position → rank ≤ length others

-- it has an edge to the other, for which it is of this rank
abbrev pub IsRankFor : Flow → ℕ → ℕ → ℕ → Type 0
IsRankFor f position to zero = IsFirstFor f position to
IsRankFor f position to (suc rank) = IsInferredRank f position (suc rank) × HasLink f position to

-- the lowest position of the rank below that has an edge to it
pub record IsInferredReason (f : Flow) (position rank reason : ℕ) : Type 0 where
  pub below : ℕ
  pub one_below : below + 1 ≡ rank
  pub before : IsRankFor f reason position below
  pub lowest : (other : ℕ) → IsRankFor f other position below → reason ≤ other

-- ---- the least assignment
abbrev pub IsInferred : Flow → ℕ → NodeFinding → Type 0
IsInferred f position Apart = (first : ℕ) (rest : List ℕ) → FlowsTo f first rest position → ⊥
IsInferred f position Source = IsOrigin f position
IsInferred f position (Behind rank reason) = IsInferredRank f position rank × IsInferredReason f position rank reason

-- what is found of each unwritten position: it is dynamic where it is not apart
pub record AreInferred (f : Flow) (findings : List NodeFinding) : Type 0 where
  pub size : length findings ≡ length f.places
  pub each : (position : ℕ) → IsUnwritten f position → IsInferred f position (finding_at findings position)

-- ---- the graph
abbrev pub node_of : PositionKind → Node
node_of Root = record { source = true; free = true }
node_of Unwritten = record { source = false; free = true }
node_of Dynamic = record { source = true; free = false }
node_of Private = record { source = false; free = false }
node_of Other = record { source = true; free = false }

-- a path may go on from such a position by such a link
abbrev pub leads : PositionKind → Bool → Bool
leads Root below = true
leads Unwritten below = true
leads Dynamic below = true
leads Private below = false
leads Other below = below

-- the edges by which a path may go on
abbrev pub kept_edges : List PositionKind → List Link → List Edge
kept_edges places [] = []
kept_edges places (link ∷ rest) =
    if leads (place_at places link.edge.from) link.below then link.edge ∷ kept_edges places rest
    else kept_edges places rest
