-- The graph of the functions: each name that is called or spawned is an edge, and each that is spawned makes a source.
use Rattle.std.specs.Prelude.{ℕ, Bool, true, false, not, ◌&&◌, nat_lt, List, Option, None, Some, slice_set}
use Rattle.std.specs.Prelude.{if◌then◌else◌}
use Rattle.sharc_graph.specs.{declared.graph.Node.Node, declared.graph.Edge.Edge}
use Rattle.sharc_graph.specs.declared.graph.NodeFinding.{NodeFinding}
use Rattle.sharc_graph.specs.{declared.graph.NodeFinding.TheVariants.{Apart, Source, Behind}, Findings.is_apart}
use Rattle.sharc_graph.specs.Paths.{edge_of}
use Rattle.sharc_names.specs.declared.fault.Named.{Named}
use Rattle.sharc_names.specs.declared.fault.Named.TheVariants as named
use Rattle.sharc_ctype.specs.Resolved.{Resolution, named_at}
use Rattle.sharc_reach.specs.{declared.mention.Mention.Mention, declared.mention.NameUse.NameUse}
use Rattle.sharc_reach.specs.declared.mention.NameUse.TheVariants as role

abbrev pub function_named : Named → Option ℕ
function_named (named.Function n) = Some n
function_named (named.Struct n) = None
function_named (named.Global n) = None
function_named (named.Variable token) = None
function_named (named.Field token) = None
function_named named.Known = None

-- what a name that is called or spawned, or one that is spawned, means
abbrev pub ran_as : NameUse → Named → Option ℕ
ran_as role.Named what = None
ran_as role.Called what = function_named what
ran_as role.Spawned what = function_named what

abbrev pub spawned_as : NameUse → Named → Option ℕ
spawned_as role.Named what = None
spawned_as role.Called what = None
spawned_as role.Spawned what = function_named what

abbrev pub ran : Resolution → Mention → Option ℕ
ran r m = ran_as m.role (named_at r m.token)

abbrev pub spawned : Resolution → Mention → Option ℕ
spawned r m = spawned_as m.role (named_at r m.token)

-- the edge between two of this many functions
abbrev pub edge_within : ℕ → ℕ → Option ℕ → Option Edge
edge_within count from None = None
edge_within count from (Some to) = if nat_lt from count && nat_lt to count then Some (edge_of from to) else None

abbrev pub edge_of_mention : Resolution → ℕ → Mention → Option Edge
edge_of_mention r count m = edge_within count m.function (ran r m)

-- a function that is not spawned so far, and one that is
abbrev pub quiet_node : Node
quiet_node = record { source = false; free = true }

abbrev pub source_node : Node
source_node = record { source = true; free = true }

abbrev pub marked : List Node → Option ℕ → List Node
marked nodes None = nodes
marked nodes (Some n) = slice_set nodes n source_node

abbrev pub marked_by : Resolution → List Node → Mention → List Node
marked_by r nodes m = marked nodes (spawned r m)

-- whether a path leads there
abbrev pub is_found : NodeFinding → Bool
is_found f = not (is_apart f)

-- whether it is itself a source
abbrev pub is_source : NodeFinding → Bool
is_source Apart = false
is_source Source = true
is_source (Behind rank reason) = false
