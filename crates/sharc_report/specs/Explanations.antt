-- What `explain` writes: what has a type with modes, and why its inferred positions are dynamic.
use Rattle.std.specs.Prelude.{ℕ, zero, suc, ◌+◌, ◌-◌, nat_lt, Bool, true, false, List, [], ◌++◌, codes, decimal}
use Rattle.std.specs.Prelude.{replicate, slice_get, Option, Some, None, if◌then◌else◌}
use Rattle.std.specs.List.{flat_map}
use Rattle.sharc_tree.specs.{Texts.type_text, Tree.Function}
use Rattle.sharc_names.specs.declared.types.Role.{Role}
use Rattle.sharc_names.specs.declared.types.Role.TheVariants as role
use Rattle.sharc_ctype.specs.{declared.entity.Entity.Entity, declared.entity.Numbered.Numbered}
use Rattle.sharc_ctype.specs.Entities.{entities_in, first_depth, numbered, positions_of}
use Rattle.sharc_ctype.specs.Resolved.{Resolution, function_at}
use Rattle.sharc_mode.specs.declared.position.Reason.{Reason}
use Rattle.sharc_mode.specs.declared.position.Reason.TheVariants.{Touched, Spawned, From}
use Rattle.sharc_mode.specs.{Moded.{Assignment, reason_at}, Notes.printed_type, Sharings.text_at}
use Rattle.sharc_report.specs.Places.{token_place, tokens_between}

-- ---- KIND NAME

-- The lvalue of a cast: after the comma that follows the type, and before the closing parenthesis. A cast that was put
-- around an expression has no such tokens of its own, and its type is where it ends: then it is all of them.
abbrev pub source_text : Resolution → Entity → List ℕ
source_text r e =
    if nat_lt (e.written.span.last.token + 2) e.last then tokens_between r (e.written.span.last.token + 2) (e.last - 1)
    else tokens_between r e.token e.last

-- the type in a `malloc` has no position, and is no entity
abbrev pub named_as : Role → Resolution → Entity → List ℕ
named_as role.Field r e = codes "field " ++ text_at r e.token
named_as role.Global r e = codes "global " ++ text_at r e.token
named_as role.Local r e = codes "local " ++ text_at r e.token
named_as role.Parameter r e = codes "parameter " ++ text_at r e.token
named_as role.Result r e = codes "result " ++ text_at r e.token
named_as role.Cast r e = codes "cast of " ++ source_text r e
named_as role.Made r e = []

-- F:N KIND NAME
abbrev pub entity_text : Resolution → List ℕ → Entity → List ℕ
entity_text r between e = token_place r e.token ++ between ++ named_as e.role r e

-- ---- why a position is dynamic

abbrev pub name_of : Option Function → List ℕ
name_of None = []
name_of (Some f) = f.name.text

abbrev pub function_name : Resolution → ℕ → List ℕ
function_name r f = name_of (function_at r f)

-- The entity of each position, by its number: positions are numbered by entity, and then by depth.

abbrev pub owners : List Numbered → List Numbered
owners = flat_map (λ n. replicate (positions_of n.entity) n)

abbrev pub owner_at : Resolution → ℕ → Option Numbered
owner_at r position = slice_get (owners (numbered (entities_in r.program.items))) position

-- F:N KIND NAME depth E
abbrev pub position_text : Resolution → ℕ → Option Numbered → List ℕ
position_text r position None = []
position_text r position (Some n) =
    entity_text r (codes " ") n.entity ++ codes " depth " ++ decimal (first_depth n.entity.role + (position - n.first))

abbrev pub reason_text : Resolution → Reason → List ℕ
reason_text r (Touched f) = codes "touched in " ++ function_name r f
reason_text r (Spawned f) = codes "passed to spawned " ++ function_name r f
reason_text r (From position) = codes "from " ++ position_text r position (owner_at r position)

-- a line for a position that was inferred to be dynamic, and none for any other
abbrev pub reason_line : Resolution → ℕ → Option Reason → List ℕ
reason_line r depth None = []
reason_line r depth (Some reason) =
    codes "  depth " ++ decimal depth ++ codes ": " ++ reason_text r reason ++ codes "\n"

-- those of its positions below this number, by depth
abbrev pub reason_lines : Assignment → Numbered → ℕ → List ℕ
reason_lines m n zero = []
reason_lines m n (suc i) =
    reason_lines m n i ++ reason_line m.typed (first_depth n.entity.role + i) (reason_at m (n.first + i))

-- ---- the lines

-- globals, parameters, locals, casts, and results that are pointers
abbrev pub is_explained : Role → ℕ → Bool
is_explained role.Field positions = false
is_explained role.Global positions = true
is_explained role.Local positions = true
is_explained role.Parameter positions = true
is_explained role.Result positions = nat_lt 0 positions
is_explained role.Cast positions = true
is_explained role.Made positions = false

-- F:N: KIND NAME: TYPE
abbrev pub entity_line : Assignment → Numbered → List ℕ
entity_line m n = entity_text m.typed (codes ": ") n.entity ++ codes ": " ++ type_text (printed_type m n) ++ codes "\n"

abbrev pub explanation : Assignment → Numbered → List ℕ
explanation m n =
    if is_explained n.entity.role (positions_of n.entity)
    then entity_line m n ++ reason_lines m n (positions_of n.entity)
    else []

-- all of them in the order of the source
abbrev pub explain_text : Assignment → List ℕ
explain_text m = flat_map (explanation m) (numbered (entities_in m.typed.program.items))
