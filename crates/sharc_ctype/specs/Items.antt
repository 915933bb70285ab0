-- The faults of a program, what its names name, and which programs are typed.
use Rattle.std.specs.Prelude.{◌≡◌, ℕ, ◌+◌, ◌-◌, ◌==◌, Bool, false, ◌&&◌, List, [], ◌∷◌, ◌++◌, length, fold, replicate}
use Rattle.std.specs.Prelude.{Option, Some, None, is_some, codes}
use Rattle.sharc_tree.specs.declared.tree.declaration.Declaration.{Declaration}
use Rattle.sharc_tree.specs.Tree.{Function, Item, structure, global, function, Program}
use Rattle.sharc_names.specs.{declared.fault.FaultCode.TheVariants.{NoMain, LimitPassed}, declared.fault.Named.Named}
use Rattle.sharc_names.specs.{declared.scope.Scope.Scope, Kinds.{int, same_kind, declared_kind}}
use Rattle.sharc_names.specs.Names.{Entry, Meaning, Signature, look_up, field_of}
use Rattle.sharc_names.specs.Notes.{Note, refers, fault_unless, fault_where, Findings, noted, faults}
use Rattle.sharc_names.specs.Types.{type_notes}
use Rattle.sharc_names.specs.declared.fault.Named.TheVariants as named
use Rattle.sharc_names.specs.declared.types.Role.TheVariants as role
use Rattle.sharc_names.specs.Names as meaning
use Rattle.sharc_ctype.specs.Statements.{with_names, declared, declared_notes, notes_in_all, locals_in_all}
use Rattle.sharc_ctype.specs.Globals.{global_notes, sizes_notes}
use Rattle.sharc_ctype.specs.{Heads.{twice, within, behind_all, heads_notes, no_heads}, Condition.known_in}

-- 6.7.2.1: a field of a struct, after others of it: at most 256, no two of one name. Its type sees all fields of the
-- struct
abbrev pub field_notes : Scope → List Declaration → List Declaration → Declaration → List Note
field_notes scope all earlier d =
    type_notes scope all role.Field d.written ++ refers d.name.site.token (named.Field d.name.site.token)
    ∷ (twice (is_some (field_of earlier d.name.text)) d.name.site.token
    ++ within 256 (length earlier) d.name.site.token)

abbrev pub fields_notes : Scope → List Declaration → List Declaration → List Declaration → List Note
fields_notes scope all earlier [] = []
fields_notes scope all earlier (d ∷ rest) =
    field_notes scope all earlier d ++ fields_notes scope all (earlier ++ d ∷ []) rest

-- 6.9.1: the parameters of a function, after this many others: at most 16. They and the locals of the outermost block
-- are one scope
abbrev pub parameters_notes : ℕ → ℕ → Scope → List Declaration → List Note
parameters_notes block before scope [] = []
parameters_notes block before scope (d ∷ rest) = type_notes scope [] role.Parameter d.written
    ++ declared_notes block d scope.names ++ within 16 before d.name.site.token
    ++ parameters_notes block (before + 1) (with_names scope (declared block d scope.names)) rest

abbrev pub with_parameters : ℕ → List Entry → List Declaration → List Entry
with_parameters block scope [] = scope
with_parameters block scope (d ∷ rest) = with_parameters block (declared block d scope) rest

-- a function has at most 200 locals: those that come when there is no room left
abbrev pub beyond : ℕ → List Declaration → List Note
beyond room [] = []
beyond room (d ∷ rest) = fault_where (room == 0) d.name.site.token LimitPassed ++ beyond (room - 1) rest

-- what is in scope in a function's body
abbrev pub in_body : Scope → Function → Scope
in_body file f = with_names file (with_parameters (length file.names) file.names f.parameters)

-- the type of the result sees the names of the file
abbrev pub function_notes : Scope → Function → List Note
function_notes file f =
    type_notes file [] role.Result f.result ++ parameters_notes (length file.names) 0 file f.parameters
    ++ notes_in_all (record { result = declared_kind f.result; in_loop = false; block = length file.names })
    (in_body file f) f.statements
    ++ beyond 200 (locals_in_all f.statements)

abbrev pub item_notes : Scope → Item → List Note
item_notes file (structure s) = fields_notes file s.fields [] s.fields
item_notes file (global g) = global_notes file g
item_notes file (function f) = function_notes file f

abbrev pub items_notes : Scope → List Item → List Note
items_notes file [] = []
items_notes file (i ∷ rest) = item_notes file i ++ items_notes file rest

-- 5.1.2.2.1: `int main(void)`
abbrev pub is_main_signature : Signature → Bool
is_main_signature f = same_kind (declared_kind f.result) int && length f.parameters == 0

abbrev pub is_main_meaning : Meaning → Bool
is_main_meaning (meaning.variable d) = false
is_main_meaning (meaning.global n g) = false
is_main_meaning (meaning.function n f) = is_main_signature f
is_main_meaning (meaning.condition call) = false

abbrev pub has_main : Option Entry → Bool
has_main None = false
has_main (Some e) = is_main_meaning e.meaning

abbrev pub main_missing : ℕ → List Entry → List Note
main_missing end names = fault_unless (has_main (look_up names (codes "main"))) end NoMain

abbrev pub file_scope : List Item → Scope
file_scope items = known_in (behind_all no_heads items).scope

-- all that is to be said of a program of this many tokens
abbrev pub program_notes : ℕ → List Item → List Note
program_notes tokens items =
    heads_notes no_heads items ++ items_notes (file_scope items) items ++ sizes_notes (file_scope items).structs 0 items
    ++ main_missing tokens (file_scope items).names

abbrev pub nothing_found : ℕ → Findings
nothing_found tokens = record { first = None; named = replicate tokens named.Known }

abbrev pub notes_about : Program → List Note
notes_about p = program_notes (length p.tokens.list) p.items

-- a program is typed where there is no fault in it
abbrev pub IsTyped : Program → Type 0
IsTyped p = faults (notes_about p) ≡ []

-- what its name tokens name
abbrev pub named_in : Program → List Named
named_in p = (fold noted (nothing_found (length p.tokens.list)) (notes_about p)).named
