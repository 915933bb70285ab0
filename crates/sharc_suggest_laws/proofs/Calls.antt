-- Calls of condition variables that a program does not define: what the file knows of their names, and what the token of one names with the cast written.
use Rattle.sharc_suggest_laws.proofs.{Imports.{◌≡◌, ◌⊎◌, inl, inr, ⊎_elim, ℕ, ◌<◌, ◌≤◌, ◌==◌, ◌||◌, Bool, true, false, cond, List, [], ◌∷◌, ◌++◌, length, get_or, Option, Some, None, is_some, bytes_eq, codes, refl, ap, sym, ◌∙◌, eqb-true, false≢true, cases_lt, AllByRecursion, lookup, Declaration, StructDefinition, Item, structure, global, function, Named, Wait, Signal, Broadcast, Scope, Entry, StructTable, look_up, struct_of, named_of, Note, fault, refers, yields, is_free, defines_condition, call_entry, with_conditions, Heading, with_struct, with_entry, global_entry, function_entry, behind, behind_all, no_heads, file_scope, notes_about, named_in, Resolution, named_at, is_field, is_call_name, is_call_at, none_some, one_some}, Folded.{seen, named_seen, named_past, IsOwnAt}, Noted.{IsHarmless, Noted, done, kept, added, old_fault, new_fault}}
use Rattle.sharc_names.specs.Names as meaning

-- ---- a file that knows something that it does not define

pub no_global : (n : ℕ) → Named.Global n ≡ Named.Known → ⊥
no_global n h = cc

pub no_function : (n : ℕ) → Named.Function n ≡ Named.Known → ⊥
no_function n h = cc

-- a call, or `struct cond`
abbrev pub KnowsCalls : Scope → Type 0
KnowsCalls file = ((text : List ℕ) × (e : Entry) × (look_up file.names text ≡ Some e) × (named_of e.meaning ≡ Named.Known)) ⊎ ((name : List ℕ) × (struct_of file.structs name ≡ Some meaning.known))

-- what a program defines is none of these

abbrev pub NoCall : List Entry → Type 0
NoCall names = (text : List ℕ) (e : Entry) → look_up names text ≡ Some e → named_of e.meaning ≡ Named.Known → ⊥

abbrev pub NoStruct : StructTable → Type 0
NoStruct structs = (name : List ℕ) → struct_of structs name ≡ Some meaning.known → ⊥

pub record IsDefined (file : Scope) : Type 0 where
  pub names : NoCall file.names
  pub structs : NoStruct file.structs

entry_defined : (scope : List Entry) (x : Entry) → (named_of x.meaning ≡ Named.Known → ⊥) → NoCall scope → NoCall (with_entry x scope)
entry_defined scope x other none text e found known = by (is_some (look_up scope x.name)) found
  where
    inner : (c : Bool) → cond c (Some x) (look_up scope text) ≡ Some e → ⊥
    inner true is = other (ap (λ (z : Entry). named_of z.meaning) (one_some x e is) ∙ known)
    inner false is = none text e is known

    by : (b : Bool) → look_up (cond b scope (x ∷ scope)) text ≡ Some e → ⊥
    by true is = none text e is known
    by false is = inner (bytes_eq x.name text) is

last_defined : (test : List ℕ → Bool) (rows : StructTable) (name : List ℕ) (n : ℕ) (fields : List Declaration) → lookup test (rows ++ (name, meaning.defined n fields) ∷ []) ≡ Some meaning.known → lookup test rows ≡ Some meaning.known
last_defined test [] name n fields is = absurd (by (test name) is)
  where
    by : (b : Bool) → cond b (Some (meaning.defined n fields)) None ≡ Some meaning.known → ⊥
    by true h = cc
    by false h = cc
last_defined test ((key, s) ∷ rest) name n fields is = by (test key) is (last_defined test rest name n fields)
  where
    by : (b : Bool) → cond b (Some s) (lookup test (rest ++ (name, meaning.defined n fields) ∷ [])) ≡ Some meaning.known → (lookup test (rest ++ (name, meaning.defined n fields) ∷ []) ≡ Some meaning.known → lookup test rest ≡ Some meaning.known)
        → cond b (Some s) (lookup test rest) ≡ Some meaning.known
    by true h more = h
    by false h more = more h

struct_defined : (structs : StructTable) (n : ℕ) (s : StructDefinition) → NoStruct structs → NoStruct (with_struct structs n s)
struct_defined structs n s none name found = by (is_some (struct_of structs s.name.text)) found
  where
    by : (b : Bool) → struct_of (cond b structs (structs ++ (s.name.text, meaning.defined n s.fields) ∷ [])) name ≡ Some meaning.known → ⊥
    by true is = none name is
    by false is = none name (last_defined (bytes_eq name) structs s.name.text n s.fields is)

item_defined : (h : Heading) (i : Item) → IsDefined h.scope → IsDefined (behind h i).scope
item_defined h (structure s) all = record { names = all.names; structs = struct_defined h.scope.structs h.structs s all.structs }
item_defined h (global g) all = record { names = entry_defined h.scope.names (global_entry h.globals g) (no_global h.globals) all.names; structs = all.structs }
item_defined h (function f) all = record { names = entry_defined h.scope.names (function_entry h.functions f) (no_function h.functions) all.names; structs = all.structs }

pub items_defined : (h : Heading) (items : List Item) → IsDefined h.scope → IsDefined (behind_all h items).scope
items_defined h [] all = all
items_defined h (i ∷ rest) all = items_defined (behind h i) rest (item_defined h i all)

pub none_defined : IsDefined no_heads.scope
none_defined = record { names = λ text e found known. none_some e found; structs = λ name found. none_some meaning.known found }

pub not_known : (file : Scope) → IsDefined file → KnowsCalls file → ⊥
not_known file all (inl there) = all.names there.0 there.1 there.2 there.3
not_known file all (inr there) = all.structs there.0 there.1

-- so the three names are those of the calls
pub calls_known : (items : List Item) → KnowsCalls (file_scope items) → (text : List ℕ) → is_call_name text ≡ true → (e : Entry) → look_up (file_scope items).names text ≡ Some e → named_of e.meaning ≡ Named.Known
calls_known items knows text called e found = by (defines_condition defined) knows found
  where
    defined : Scope
    defined = (behind_all no_heads items).scope

    of_call : (w s b : Bool) (rest : Option Entry) → (w || (s || b)) ≡ true
        → cond b (Some (call_entry (codes "broadcast") Broadcast)) (cond s (Some (call_entry (codes "signal") Signal)) (cond w (Some (call_entry (codes "wait") Wait)) rest)) ≡ Some e → named_of e.meaning ≡ Named.Known
    of_call w s true rest so is = ap (λ (x : Entry). named_of x.meaning) (sym (one_some (call_entry (codes "broadcast") Broadcast) e is))
    of_call w true false rest so is = ap (λ (x : Entry). named_of x.meaning) (sym (one_some (call_entry (codes "signal") Signal) e is))
    of_call true false false rest so is = ap (λ (x : Entry). named_of x.meaning) (sym (one_some (call_entry (codes "wait") Wait) e is))
    of_call false false false rest so is = absurd (false≢true so)

    by : (b : Bool) → KnowsCalls (cond b defined (with_conditions defined)) → look_up (cond b defined (with_conditions defined)).names text ≡ Some e → named_of e.meaning ≡ Named.Known
    by true so is = absurd (not_known defined (items_defined no_heads items none_defined) so)
    by false so is = of_call (bytes_eq (codes "wait") text) (bytes_eq (codes "signal") text) (bytes_eq (codes "broadcast") text) (look_up defined.names text) called is

-- ---- with the cast written the token of such a name names no field

plain_by : (b : Bool) (w y : Named) → (b ≡ true → is_field w ≡ false) → is_field y ≡ false → is_field (cond b w y) ≡ false
plain_by true w y first other = first refl
plain_by false w y first other = other

taken_by : (b : Bool) (w y : Named) → (b ≡ true → is_field w ≡ false) → is_field y ≡ false → is_field (cond b (cond (is_free y) w y) y) ≡ false
taken_by true w y first other = plain_by (is_free y) w y (λ free. first refl) other
taken_by false w y first other = other

harmless_plain : (r : Resolution) (t n : ℕ) (w : Named) → is_field (named_at r t) ≡ false → n ≡ t → IsHarmless r (refers n w) → is_field w ≡ false
harmless_plain r t n w plain same (inl told) = ap is_field (sym told ∙ ap (named_at r) same) ∙ plain
harmless_plain r t n w plain same (inr p) = p.3

call_plain : (r : Resolution) (t : ℕ) (y : Named) (old new : List Note) → is_field (named_at r t) ≡ false → is_call_at r t ≡ true → AllByRecursion (IsOwnAt t (named_at r t)) old → Noted r old new → is_field y ≡ false → is_field (seen t new y) ≡ false
call_plain r t y _ _ plain is own done other = other
call_plain r t y _ _ plain is own (kept {n = fault place code} {old = old} {new = new} tame more) other = call_plain r t y old new plain is own.1 more other
call_plain r t y _ _ plain is own (kept {n = refers n w} {old = old} {new = new} tame more) other =
    call_plain r t (cond (n == t) w y) old new plain is own.1 more (plain_by (n == t) w y (λ at. ap is_field (own.0 (eqb-true n t at)) ∙ plain) other)
call_plain r t y _ _ plain is own (kept {n = yields n w} {old = old} {new = new} tame more) other =
    call_plain r t (cond (n == t) (cond (is_free y) w y) y) old new plain is own.1 more (taken_by (n == t) w y (λ at. ap is_field (own.0 (eqb-true n t at)) ∙ plain) other)
call_plain r t y _ _ plain is own (added {n = fault place code} {old = old} {new = new} harmless more) other = absurd harmless
call_plain r t y _ _ plain is own (added {n = refers n w} {old = old} {new = new} harmless more) other =
    call_plain r t (cond (n == t) w y) old new plain is own more (plain_by (n == t) w y (λ at. harmless_plain r t n w plain (eqb-true n t at) harmless) other)
call_plain r t y _ _ plain is own (added {n = yields n w} {old = old} {new = new} harmless more) other =
    call_plain r t (cond (n == t) (cond (is_free y) w y) y) old new plain is own more
    (taken_by (n == t) w y (λ at. absurd (false≢true (sym harmless.1 ∙ ap (is_call_at r) (eqb-true n t at) ∙ is))) other)
call_plain r t y _ _ plain is own (old_fault {old = old} {new = new} more) other = call_plain r t y old new plain is own.1 more other
call_plain r t y _ _ plain is own (new_fault {old = old} {new = new} more) other = call_plain r t y old new plain is own more other

pub call_stays : (r now : Resolution) → now.named ≡ named_in now.program → ((t : ℕ) → AllByRecursion (IsOwnAt t (named_at r t)) (notes_about r.program)) → Noted r (notes_about r.program) (notes_about now.program)
    → (t : ℕ) → is_field (named_at r t) ≡ false → is_call_at r t ≡ true → is_field (named_at now t) ≡ false
call_stays r now names own said t plain is = ⊎_elim inside outside (cases_lt t (length now.program.tokens.list))
  where
    here : named_at now t ≡ get_or (named_in now.program) t Named.Known
    here = ap (λ (l : List Named). get_or l t Named.Known) names

    inside : t < length now.program.tokens.list → is_field (named_at now t) ≡ false
    inside low = ap is_field (here ∙ named_seen now.program t low) ∙ call_plain r t Named.Known (notes_about r.program) (notes_about now.program) plain is (own t) said refl

    outside : length now.program.tokens.list ≤ t → is_field (named_at now t) ≡ false
    outside past = ap is_field (here ∙ named_past now.program t past)
