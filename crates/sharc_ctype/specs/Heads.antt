-- The names of the file: structs, globals and functions, which are known everywhere in it, before their definition too
-- (SharC's own rule).
use Rattle.std.specs.Prelude.{ℕ, ◌+◌, nat_lt, Bool, List, [], ◌∷◌, ◌++◌, is_some, if◌then◌else◌}
use Rattle.sharc_tree.specs.declared.tree.item.StructDefinition.{StructDefinition}
use Rattle.sharc_tree.specs.declared.tree.item.GlobalDefinition.{GlobalDefinition}
use Rattle.sharc_tree.specs.Tree.{Function, Item, structure, global, function}
use Rattle.sharc_names.specs.declared.fault.FaultCode.TheVariants.{DefinedTwice, LimitPassed}
use Rattle.sharc_names.specs.Names.{Entry, Signature, StructTable, defined, look_up, struct_of}
use Rattle.sharc_names.specs.Notes.{Note, refers, fault_unless, fault_where}
use Rattle.sharc_names.specs.declared.fault.Named.TheVariants as named
use Rattle.sharc_names.specs.Names as meaning
use Rattle.sharc_ctype.specs.{declared.head.Heads.Heads, Statements.with_names}

-- of two definitions of a name the first stays
abbrev pub with_struct : StructTable → ℕ → StructDefinition → StructTable
with_struct structs n s =
    if is_some (struct_of structs s.name.text) then structs else structs ++ (s.name.text, defined n s.fields) ∷ []

abbrev pub with_entry : Entry → List Entry → List Entry
with_entry e scope = if is_some (look_up scope e.name) then scope else e ∷ scope

abbrev pub signature_of : Function → Signature
signature_of f = record { name = f.name; result = f.result; parameters = f.parameters }

abbrev pub global_entry : ℕ → GlobalDefinition → Entry
global_entry n g = record { name = g.declaration.name.text; block = 0; meaning = meaning.global n g }

abbrev pub function_entry : ℕ → Function → Entry
function_entry n f = record { name = f.name.text; block = 0; meaning = meaning.function n (signature_of f) }

-- what is known of the file after one item more, with how many structs, globals and functions there were
abbrev pub behind : Heads → Item → Heads
behind h (structure s) = record {
  scope = record { structs = with_struct h.scope.structs h.structs s; names = h.scope.names };
  structs = h.structs + 1;
  globals = h.globals;
  functions = h.functions;
}
behind h (global g) = record {
  scope = with_names h.scope (with_entry (global_entry h.globals g) h.scope.names);
  structs = h.structs;
  globals = h.globals + 1;
  functions = h.functions;
}
behind h (function f) = record {
  scope = with_names h.scope (with_entry (function_entry h.functions f) h.scope.names);
  structs = h.structs;
  globals = h.globals;
  functions = h.functions + 1;
}

abbrev pub behind_all : Heads → List Item → Heads
behind_all h [] = h
behind_all h (i ∷ rest) = behind_all (behind h i) rest

-- 6.7p3 and 6.9p3: a name that is defined a second time
abbrev pub twice : Bool → ℕ → List Note
twice known token = fault_where known token DefinedTwice

-- at most this many, where there are that many before
abbrev pub within : ℕ → ℕ → ℕ → List Note
within most before token = fault_unless (nat_lt before most) token LimitPassed

-- 256 structs, 4,096 globals, 16,384 functions
abbrev pub head_notes : Heads → Item → List Note
head_notes h (structure s) = refers s.name.site.token (named.Struct h.structs) ∷ (twice
    (is_some (struct_of h.scope.structs s.name.text)) s.name.site.token ++ within 256 h.structs s.name.site.token)
head_notes h (global g) = refers g.declaration.name.site.token (named.Global h.globals)
    ∷ (twice (is_some (look_up h.scope.names g.declaration.name.text)) g.declaration.name.site.token
    ++ within 4096 h.globals g.declaration.name.site.token)
head_notes h (function f) = refers f.name.site.token (named.Function h.functions) ∷ (twice
    (is_some (look_up h.scope.names f.name.text)) f.name.site.token ++ within 16384 h.functions f.name.site.token)

abbrev pub heads_notes : Heads → List Item → List Note
heads_notes h [] = []
heads_notes h (i ∷ rest) = head_notes h i ++ heads_notes (behind h i) rest

abbrev pub no_heads : Heads
no_heads = record { scope = record { structs = []; names = [] }; structs = 0; globals = 0; functions = 0 }

-- what is known of the file after some of its items, by a name that the crates above can write
abbrev pub Heading : Type 0
Heading = Heads
