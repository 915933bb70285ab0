-- What a name that is found means is what the resolved program has of what it names, and the file knows each struct
-- with its fields.
use Rattle.sharc_suggest_laws.proofs.Imports.{◌≡◌, ℕ, zero, suc, ◌+◌, Bool, true, false, cond, List, [], ◌∷◌, ◌++◌, Some, None, is_some, slice_get, bytes_eq, codes, refl, ap, sym, subst, ◌∙◌, arith, false≢true, bytes_eq-Decides, lookup, GlobalDefinition, StructDefinition, Function, Item, structure, global, function, ConditionCall, Wait, Signal, Broadcast, Scope, Entry, Meaning, StructMeaning, StructTable, defined, known, look_up, struct_of, named_of, kind_of, is_main, Named, defines_condition, call_entry, with_conditions, Heading, with_struct, with_entry, global_entry, function_entry, behind, behind_all, no_heads, file_scope, Resolution, structs_in, globals_in, functions_in, global_at, function_at, named_kind, global_kind_of, struct_named, none_some, one_some}
use Rattle.sharc_names.specs.Names as meaning

-- ---- what is found

-- its type is that of what it names, and only a function `main` is meant as one
pub record IsMeant (r : Resolution) (m : Meaning) : Type 0 where
  pub kind : kind_of m ≡ named_kind r (named_of m)
  pub main : is_main m ≡ true → (n : ℕ) × (f : Function) × (named_of m ≡ Named.Function n) × (function_at r n ≡ Some f) × (f.name.text ≡ codes "main")

abbrev pub AreMeant : Resolution → List Entry → Type 0
AreMeant r names = (text : List ℕ) (e : Entry) → look_up names text ≡ Some e → IsMeant r e.meaning

entry_meant : (r : Resolution) (scope : List Entry) (x : Entry) → IsMeant r x.meaning → AreMeant r scope → AreMeant r (with_entry x scope)
entry_meant r scope x new all text e found = by (is_some (look_up scope x.name)) found
  where
    inner : (c : Bool) → cond c (Some x) (look_up scope text) ≡ Some e → IsMeant r e.meaning
    inner true is = subst (λ (z : Entry). IsMeant r z.meaning) (one_some x e is) new
    inner false is = all text e is

    by : (b : Bool) → look_up (cond b scope (x ∷ scope)) text ≡ Some e → IsMeant r e.meaning
    by true is = all text e is
    by false is = inner (bytes_eq x.name text) is

-- the globals and the functions that are left have the numbers from here on
record IsAhead (r : Resolution) (h : Heading) (items : List Item) : Type 0 where
  globals : (k : ℕ) (g : GlobalDefinition) → slice_get (globals_in items) k ≡ Some g → global_at r (h.globals + k) ≡ Some g
  functions : (k : ℕ) (f : Function) → slice_get (functions_in items) k ≡ Some f → function_at r (h.functions + k) ≡ Some f

global_meant : (r : Resolution) (n : ℕ) (g : GlobalDefinition) → global_at r n ≡ Some g → IsMeant r (global_entry n g).meaning
global_meant r n g is = record { kind = ap global_kind_of (sym is); main = λ main. absurd (false≢true main) }

function_meant : (r : Resolution) (n : ℕ) (f : Function) → function_at r n ≡ Some f → IsMeant r (function_entry n f).meaning
function_meant r n f is = record { kind = refl; main = λ main. (n, f, refl, is, (bytes_eq-Decides f.name.text (codes "main")).0 main) }

next : (n k : ℕ) → (n + 1) + k ≡ n + suc k
next n k = omega arith

here : (n : ℕ) → n + 0 ≡ n
here n = omega arith

ahead : (r : Resolution) (h : Heading) (i : Item) (rest : List Item) → IsAhead r h (i ∷ rest) → IsAhead r (behind h i) rest
ahead r h (structure s) rest a = record { globals = a.globals; functions = a.functions }
ahead r h (global g) rest a =
    record { globals = λ k x is. ap (global_at r) (next h.globals k) ∙ a.globals (suc k) x is; functions = a.functions }
ahead r h (function f) rest a =
    record { globals = a.globals; functions = λ k x is. ap (function_at r) (next h.functions k) ∙ a.functions (suc k) x is }

item_meant : (r : Resolution) (h : Heading) (i : Item) (rest : List Item) → IsAhead r h (i ∷ rest) → AreMeant r h.scope.names → AreMeant r (behind h i).scope.names
item_meant r h (structure s) rest a all = all
item_meant r h (global g) rest a all =
    entry_meant r h.scope.names (global_entry h.globals g) (global_meant r h.globals g (ap (global_at r) (sym (here h.globals)) ∙ a.globals zero g refl)) all
item_meant r h (function f) rest a all =
    entry_meant r h.scope.names (function_entry h.functions f) (function_meant r h.functions f (ap (function_at r) (sym (here h.functions)) ∙ a.functions zero f refl)) all

items_meant : (r : Resolution) (h : Heading) (items : List Item) → IsAhead r h items → AreMeant r h.scope.names → AreMeant r (behind_all h items).scope.names
items_meant r h [] a all = all
items_meant r h (i ∷ rest) a all = items_meant r (behind h i) rest (ahead r h i rest a) (item_meant r h i rest a all)

call_meant : (r : Resolution) (call : ConditionCall) → IsMeant r (meaning.condition call)
call_meant r call = record { kind = refl; main = λ main. absurd (false≢true main) }

calls_meant : (r : Resolution) (file : Scope) (b : Bool) → AreMeant r file.names → AreMeant r (cond b file (with_conditions file)).names
calls_meant r file true all = all
calls_meant r file false all = λ text e found. by text e (bytes_eq (codes "broadcast") text) (bytes_eq (codes "signal") text) (bytes_eq (codes "wait") text) found
  where
    by : (text : List ℕ) (e : Entry) (x y z : Bool)
        → cond x (Some (call_entry (codes "broadcast") Broadcast)) (cond y (Some (call_entry (codes "signal") Signal)) (cond z (Some (call_entry (codes "wait") Wait)) (look_up file.names text))) ≡ Some e → IsMeant r e.meaning
    by text e true y z is = subst (λ (w : Entry). IsMeant r w.meaning) (one_some (call_entry (codes "broadcast") Broadcast) e is) (call_meant r Broadcast)
    by text e false true z is = subst (λ (w : Entry). IsMeant r w.meaning) (one_some (call_entry (codes "signal") Signal) e is) (call_meant r Signal)
    by text e false false true is = subst (λ (w : Entry). IsMeant r w.meaning) (one_some (call_entry (codes "wait") Wait) e is) (call_meant r Wait)
    by text e false false false is = all text e is

pub file_meant : (r : Resolution) → AreMeant r (file_scope r.program.items).names
file_meant r =
    let items : List Item = r.program.items in
    let begins : IsAhead r no_heads items =
    record { globals = λ k g is. ap (global_at r) (zero_first k) ∙ is; functions = λ k f is. ap (function_at r) (zero_first k) ∙ is } in
    calls_meant r (behind_all no_heads items).scope (defines_condition (behind_all no_heads items).scope) (items_meant r no_heads items begins (λ text e found. absurd (none_some e found)))
  where
    zero_first : (k : ℕ) → 0 + k ≡ k
    zero_first k = omega arith

-- ---- the structs

lookup_first : (test : List ℕ → Bool) (rows : StructTable) (key : List ℕ) (x y : StructMeaning) → lookup test rows ≡ Some x → lookup test (rows ++ (key, y) ∷ []) ≡ Some x
lookup_first test [] key x y is = absurd (none_some x is)
lookup_first test ((k, s) ∷ rest) key x y is = by (test k) is (lookup_first test rest key x y)
  where
    by : (b : Bool) → cond b (Some s) (lookup test rest) ≡ Some x → (lookup test rest ≡ Some x → lookup test (rest ++ (key, y) ∷ []) ≡ Some x) → cond b (Some s) (lookup test (rest ++ (key, y) ∷ [])) ≡ Some x
    by true h more = h
    by false h more = more h

lookup_last : (test : List ℕ → Bool) (rows : StructTable) (key : List ℕ) (y : StructMeaning) → lookup test rows ≡ None → lookup test (rows ++ (key, y) ∷ []) ≡ cond (test key) (Some y) None
lookup_last test [] key y none = refl
lookup_last test ((k, s) ∷ rest) key y none = by (test k) none (lookup_last test rest key y)
  where
    by : (b : Bool) → cond b (Some s) (lookup test rest) ≡ None → (lookup test rest ≡ None → lookup test (rest ++ (key, y) ∷ []) ≡ cond (test key) (Some y) None) → cond b (Some s) (lookup test (rest ++ (key, y) ∷ [])) ≡ cond (test key) (Some y) None
    by true h more = absurd (none_some s (sym h))
    by false h more = more h

struct_stays : (structs : StructTable) (n : ℕ) (s : StructDefinition) (name : List ℕ) (x : StructMeaning) → struct_of structs name ≡ Some x → struct_of (with_struct structs n s) name ≡ Some x
struct_stays structs n s name x is = by (is_some (struct_of structs s.name.text))
  where
    by : (b : Bool) → struct_of (cond b structs (structs ++ (s.name.text, meaning.defined n s.fields) ∷ [])) name ≡ Some x
    by true = is
    by false = lookup_first (bytes_eq name) structs s.name.text x (meaning.defined n s.fields) is

behind_stays : (h : Heading) (i : Item) (name : List ℕ) (x : StructMeaning) → struct_of h.scope.structs name ≡ Some x → struct_of (behind h i).scope.structs name ≡ Some x
behind_stays h (structure s) name x is = struct_stays h.scope.structs h.structs s name x is
behind_stays h _ name x is = is

all_stay : (h : Heading) (items : List Item) (name : List ℕ) (x : StructMeaning) → struct_of h.scope.structs name ≡ Some x → struct_of (behind_all h items).scope.structs name ≡ Some x
all_stay h [] name x is = is
all_stay h (i ∷ rest) name x is = all_stay (behind h i) rest name x (behind_stays h i name x is)

-- the struct of a name, with its fields
abbrev pub IsFiled : StructTable → List ℕ → StructDefinition → Type 0
IsFiled structs name s = (n : ℕ) × (struct_of structs name ≡ Some (meaning.defined n s.fields))

-- it is the first of that name
new_struct : (structs : StructTable) (n : ℕ) (s : StructDefinition) (name : List ℕ) → struct_of structs name ≡ None → s.name.text ≡ name → struct_of (with_struct structs n s) name ≡ Some (meaning.defined n s.fields)
new_struct structs n s name none same =
    ap (λ (b : Bool). struct_of (cond b structs (structs ++ (s.name.text, meaning.defined n s.fields) ∷ [])) name) (ap is_some (ap (struct_of structs) same ∙ none))
    ∙ lookup_last (bytes_eq name) structs s.name.text (meaning.defined n s.fields) none
    ∙ ap (λ (b : Bool). cond b (Some (meaning.defined n s.fields)) None) ((bytes_eq-Decides name s.name.text).1 (sym same))

-- or another
other_struct : (structs : StructTable) (n : ℕ) (s : StructDefinition) (name : List ℕ) → struct_of structs name ≡ None → bytes_eq s.name.text name ≡ false → struct_of (with_struct structs n s) name ≡ None
other_struct structs n s name none other = by (is_some (struct_of structs s.name.text))
  where
    turned : (b : Bool) → bytes_eq name s.name.text ≡ b → cond b (Some (meaning.defined n s.fields)) None ≡ None
    turned true is = absurd (false≢true (sym other ∙ (bytes_eq-Decides s.name.text name).1 (sym ((bytes_eq-Decides name s.name.text).0 is))))
    turned false is = refl

    by : (b : Bool) → struct_of (cond b structs (structs ++ (s.name.text, meaning.defined n s.fields) ∷ [])) name ≡ None
    by true = none
    by false = lookup_last (bytes_eq name) structs s.name.text (meaning.defined n s.fields) none ∙ turned (bytes_eq name s.name.text) refl

struct_filed : (h : Heading) (items : List Item) (name : List ℕ) (s : StructDefinition) → struct_of h.scope.structs name ≡ None → struct_named (structs_in items) name ≡ Some s → IsFiled (behind_all h items).scope.structs name s
struct_filed h [] name s none is = absurd (none_some s is)
struct_filed h (structure x ∷ rest) name s none is = by (bytes_eq x.name.text name) refl (struct_filed (behind h (structure x)) rest name s) is
  where
    by : (b : Bool) → bytes_eq x.name.text name ≡ b
        → (struct_of (behind h (structure x)).scope.structs name ≡ None → struct_named (structs_in rest) name ≡ Some s → IsFiled (behind_all (behind h (structure x)) rest).scope.structs name s)
        → cond b (Some x) (struct_named (structs_in rest) name) ≡ Some s → IsFiled (behind_all (behind h (structure x)) rest).scope.structs name s
    by true same later at =
        subst (IsFiled (behind_all (behind h (structure x)) rest).scope.structs name) (one_some x s at)
        (h.structs, all_stay (behind h (structure x)) rest name (meaning.defined h.structs x.fields) (new_struct h.scope.structs h.structs x name none ((bytes_eq-Decides x.name.text name).0 same)))
    by false other later at = later (other_struct h.scope.structs h.structs x name none other) at
struct_filed h (global g ∷ rest) name s none is = struct_filed (behind h (global g)) rest name s none is
struct_filed h (function f ∷ rest) name s none is = struct_filed (behind h (function f)) rest name s none is

known_filed : (file : Scope) (name : List ℕ) (s : StructDefinition) (b : Bool) → IsFiled file.structs name s → IsFiled (cond b file (with_conditions file)).structs name s
known_filed file name s true is = is
known_filed file name s false is = (is.0, lookup_first (bytes_eq name) file.structs (codes "cond") (meaning.defined is.0 s.fields) meaning.known is.1)

pub file_structs : (items : List Item) (name : List ℕ) (s : StructDefinition) → struct_named (structs_in items) name ≡ Some s → IsFiled (file_scope items).structs name s
file_structs items name s is =
    known_filed (behind_all no_heads items).scope name s (defines_condition (behind_all no_heads items).scope) (struct_filed no_heads items name s refl is)
