-- The scope of a file, and of each function's body, of which no fault is noted: each name means what the program's declarations say.
use Rattle.sharc_ctype_laws.proofs.{Imports.{◌≡◌, ℕ, zero, suc, ◌+◌, Bool, true, false, cond, List, [], ◌∷◌, ◌++◌, length, drop, slice_get, refl, ap, sym, ◌∙◌, Option, Some, None, is_some, add-one, bytes_eq, true≢false, false_from_ne_true, bytes_eq-Decides, AllByRecursion, Declaration, StructDefinition, Function, Item, structure, global, function, Scope, StructTable, StructMeaning, defined, struct_of, Entry, look_up, Role, Heads, with_struct, with_entry, global_entry, function_entry, behind, behind_all, no_heads, defines_condition, with_conditions, fields_notes, parameters_notes, with_parameters, in_body, function_notes, items_notes, file_scope, Resolution, structs_in, globals_in, functions_in, declarations_in, declarations_of, with_names, declared, struct_named, front, back, both, bytes_same}, Held.{Held, left, right}, Scenes.{IsMeant, AreMeant, IsField, IsStruct, AreStructs, IsScene, type_solid, type_result}, Walked.{AreDeclared, scene_with, declared_meant}}
use Rattle.sharc_lemmas.proofs.Lists.{no_cons as none_left}

-- what is at the head of what is left

some_of : {A : Type 0} (x y : A) (a b : List A) → x ∷ a ≡ y ∷ b → Some x ≡ Some y
some_of x y a b h = cc

rest_of : {A : Type 0} (x y : A) (a b : List A) → x ∷ a ≡ y ∷ b → a ≡ b
rest_of x y a b h = cc

pub there : {A : Type 0} (list : List A) (n : ℕ) (x : A) (rest : List A) → drop n list ≡ x ∷ rest → slice_get list n ≡ Some x
there [] zero x rest h = absurd (none_left x rest h)
there [] (suc n) x rest h = absurd (none_left x rest h)
there (y ∷ list) zero x rest h = some_of y x list rest h
there (y ∷ list) (suc n) x rest h = there list n x rest h

behind_there : {A : Type 0} (list : List A) (n : ℕ) (x : A) (rest : List A) → drop n list ≡ x ∷ rest → drop (suc n) list ≡ rest
behind_there [] zero x rest h = absurd (none_left x rest h)
behind_there [] (suc n) x rest h = absurd (none_left x rest h)
behind_there (y ∷ list) zero x rest h = rest_of y x list rest h
behind_there (y ∷ list) (suc n) x rest h = behind_there list n x rest h

pub next_there : {A : Type 0} (list : List A) (n : ℕ) (x : A) (rest : List A) → drop n list ≡ x ∷ rest → drop (n + 1) list ≡ rest
next_there list n x rest h = ap (λ m. drop m list) (add-one n) ∙ behind_there list n x rest h

-- fields

pub fields_are : (r : Resolution) (file : Scope) (all earlier rest : List Declaration) → AreDeclared r rest → Held r (fields_notes file all earlier rest) → AllByRecursion (IsField r file.structs) rest
fields_are r file all earlier [] d h = tt
fields_are r file all earlier (x ∷ rest) d h = ((d.0, type_solid r file all Role.Field x.written refl (left _ _ _ (left _ _ _ h))), fields_are r file all (earlier ++ x ∷ []) rest d.1 (right _ _ _ h))

-- the names of the file

either : {A : Type 0} (P : A → Type 0) (x y : A) (b : Bool) → P x → P y → P (cond b x y)
either P x y true p q = p
either P x y false p q = q

entry_meant : (r : Resolution) (structs : StructTable) (names : List Entry) (e : Entry) → AreMeant r structs names → IsMeant r structs e.name e.meaning → AreMeant r structs (with_entry e names)
entry_meant r structs names e all m = either (AreMeant r structs) names (e ∷ names) (is_some (look_up names e.name)) all (m, all)

none_of : {A : Type 0} (o : Option A) → is_some o ≡ false → o ≡ None
none_of None h = refl
none_of (Some x) h = absurd (true≢false h)

struct_meant : (r : Resolution) (structs table : StructTable) (n : ℕ) (s : StructDefinition) → AreStructs r structs table → (struct_of table s.name.text ≡ None → IsStruct r structs s.name.text (defined n s.fields)) → AreStructs r structs (with_struct table n s)
struct_meant r structs table n s all m = by (is_some (struct_of table s.name.text)) refl
  where
    by : (b : Bool) → is_some (struct_of table s.name.text) ≡ b → AreStructs r structs (cond b table (table ++ (s.name.text, defined n s.fields) ∷ []))
    by true is = all
    by false is = both (λ (e : List ℕ × StructMeaning). IsStruct r structs e.0 e.1) table ((s.name.text, defined n s.fields) ∷ []) all (m (none_of (struct_of table s.name.text) is), tt)

-- what a table does not know, with one entry more

some_first : {A : Type 0} (b : Bool) (x : A) (o : Option A) → cond b (Some x) o ≡ None → (b ≡ false) × (o ≡ None)
some_first true x o h = absurd (true≢false (ap is_some h))
some_first false x o h = (refl, h)

none_before : (table : StructTable) (e : List ℕ × StructMeaning) (y : List ℕ) → struct_of (table ++ e ∷ []) y ≡ None → (struct_of table y ≡ None) × (bytes_eq y e.0 ≡ false)
none_before [] e y h = (refl, (some_first (bytes_eq y e.0) e.1 None h).0)
none_before (x ∷ rest) e y h =
    let p = some_first (bytes_eq y x.0) x.1 (struct_of (rest ++ e ∷ []) y) h in
    let q = none_before rest e y p.1 in
    (ap (λ b. cond b (Some x.1) (struct_of rest y)) p.0 ∙ q.0, q.1)

not_known : (table : StructTable) (n : ℕ) (s : StructDefinition) (y : List ℕ) → struct_of (with_struct table n s) y ≡ None → (struct_of table y ≡ None) × (bytes_eq s.name.text y ≡ false)
not_known table n s y h = by (is_some (struct_of table s.name.text)) refl h
  where
    by : (b : Bool) → is_some (struct_of table s.name.text) ≡ b → struct_of (cond b table (table ++ (s.name.text, defined n s.fields) ∷ [])) y ≡ None → (struct_of table y ≡ None) × (bytes_eq s.name.text y ≡ false)
    by true is g = (g, false_from_ne_true (bytes_eq s.name.text y) (λ t. true≢false (sym is ∙ ap is_some (ap (struct_of table) ((bytes_eq-Decides s.name.text y).0 t) ∙ g))))
    by false is g =
        let p = none_before table (s.name.text, defined n s.fields) y g in
        (p.0, false_from_ne_true (bytes_eq s.name.text y) (λ t. true≢false (sym ((bytes_eq-Decides y s.name.text).1 (sym ((bytes_eq-Decides s.name.text y).0 t))) ∙ p.1)))

-- what is known of the file before some of its items
record AreHeads (r : Resolution) (table : StructTable) (h : Heads) (rest : List Item) : Type 0 where
  names : AreMeant r table h.scope.names
  structs : AreStructs r table h.scope.structs
  first_structs : (y : List ℕ) → struct_of h.scope.structs y ≡ None → struct_named (structs_in r.program.items) y ≡ struct_named (structs_in rest) y
  next_struct : drop h.structs (structs_in r.program.items) ≡ structs_in rest
  next_global : drop h.globals (globals_in r.program.items) ≡ globals_in rest
  next_function : drop h.functions (functions_in r.program.items) ≡ functions_in rest

heads_meant : (r : Resolution) (file : Scope) (h : Heads) (rest : List Item) → AreHeads r file.structs h rest → AreDeclared r (declarations_in rest) → Held r (items_notes file rest) → AreHeads r file.structs (behind_all h rest) []
heads_meant r file h [] a d n = a
heads_meant r file h (structure s ∷ rest) a d n =
    heads_meant r file (behind h (structure s)) rest
    (record {
      names = a.names;
      structs = struct_meant r file.structs h.scope.structs h.structs s a.structs
          (λ none. (
            s,
            there (structs_in r.program.items) h.structs s (structs_in rest) a.next_struct,
            a.first_structs s.name.text none ∙ ap (λ b. cond b (Some s) (struct_named (structs_in rest) s.name.text)) (bytes_same s.name.text),
            refl,
            fields_are r file s.fields [] s.fields (front _ s.fields (declarations_in rest) d) (left _ _ _ n),
          ));
      first_structs = λ y none. let k = not_known h.scope.structs h.structs s y none in a.first_structs y k.0 ∙ ap (λ b. cond b (Some s) (struct_named (structs_in rest) y)) k.1;
      next_struct = next_there (structs_in r.program.items) h.structs s (structs_in rest) a.next_struct;
      next_global = a.next_global;
      next_function = a.next_function;
    })
    (back _ s.fields (declarations_in rest) d) (right _ _ _ n)
heads_meant r file h (global x ∷ rest) a d n =
    heads_meant r file (behind h (global x)) rest
    (record {
      names = entry_meant r file.structs h.scope.names (global_entry h.globals x) a.names
          (refl, there (globals_in r.program.items) h.globals x (globals_in rest) a.next_global, type_solid r file [] Role.Global x.declaration.written refl (left _ _ _ (left _ _ _ (left _ _ _ n))));
      structs = a.structs;
      first_structs = a.first_structs;
      next_struct = a.next_struct;
      next_global = next_there (globals_in r.program.items) h.globals x (globals_in rest) a.next_global;
      next_function = a.next_function;
    })
    d (right _ _ _ n)
heads_meant r file h (function x ∷ rest) a d n =
    heads_meant r file (behind h (function x)) rest
    (record {
      names = entry_meant r file.structs h.scope.names (function_entry h.functions x) a.names
          (x, there (functions_in r.program.items) h.functions x (functions_in rest) a.next_function, refl, type_result r file [] x.result (left _ _ _ (left _ _ _ (left _ _ _ (left _ _ _ n)))), refl);
      structs = a.structs;
      first_structs = a.first_structs;
      next_struct = a.next_struct;
      next_global = a.next_global;
      next_function = next_there (functions_in r.program.items) h.functions x (functions_in rest) a.next_function;
    })
    (back _ (declarations_of (function x)) (declarations_in rest) d) (right _ _ _ n)

known_names : (r : Resolution) (structs : StructTable) (scope : Scope) (b : Bool) → AreMeant r structs scope.names → AreMeant r structs (cond b scope (with_conditions scope)).names
known_names r structs scope true all = all
known_names r structs scope false all = (refl, (refl, (refl, all)))

known_structs : (r : Resolution) (structs : StructTable) (scope : Scope) (b : Bool) → AreStructs r structs scope.structs → AreStructs r structs (cond b scope (with_conditions scope)).structs
known_structs r structs scope true all = all
known_structs r structs scope false all = both (λ (e : List ℕ × StructMeaning). IsStruct r structs e.0 e.1) scope.structs _ all (refl, tt)

pub file_scene : (r : Resolution) → AreDeclared r (declarations_in r.program.items) → Held r (items_notes (file_scope r.program.items) r.program.items) → IsScene r (file_scope r.program.items)
file_scene r d h =
    let heads = heads_meant r (file_scope r.program.items) no_heads r.program.items (record { names = tt; structs = tt; first_structs = λ y none. refl; next_struct = refl; next_global = refl; next_function = refl }) d h in
    record {
      names = known_names r (file_scope r.program.items).structs (behind_all no_heads r.program.items).scope (defines_condition (behind_all no_heads r.program.items).scope) heads.names;
      structs = known_structs r (file_scope r.program.items).structs (behind_all no_heads r.program.items).scope (defines_condition (behind_all no_heads r.program.items).scope) heads.structs;
    }

-- bodies

parameters_meant : (r : Resolution) (block before : ℕ) (scope : Scope) → IsScene r scope → (list : List Declaration) → AreDeclared r list → Held r (parameters_notes block before scope list) → AreMeant r scope.structs (with_parameters block scope.names list)
parameters_meant r block before scope scene [] d h = scene.names
parameters_meant r block before scope scene (x ∷ rest) d h =
    let m = declared_meant r scope.structs block x scope.names scene.names d.0 (type_solid r scope [] Role.Parameter x.written refl (left _ _ _ (left _ _ _ (left _ _ _ h)))) in
    parameters_meant r block (before + 1) (with_names scope (declared block x scope.names)) (scene_with r scope scene (declared block x scope.names) m) rest d.1 (right _ _ _ h)

pub body_scene : (r : Resolution) (file : Scope) → IsScene r file → (f : Function) → AreDeclared r f.parameters → Held r (function_notes file f) → IsScene r (in_body file f)
body_scene r file scene f d h = scene_with r file scene (with_parameters (length file.names) file.names f.parameters) (parameters_meant r (length file.names) 0 file scene f.parameters d (right _ _ _ (left _ _ _ (left _ _ _ h))))

-- what holds of each function of which no fault is noted holds of all
pub each_function : (r : Resolution) (file : Scope) (P : Function → Type 0) → ((f : Function) → AreDeclared r (declarations_of (function f)) → Held r (function_notes file f) → P f)
    → (items : List Item) → AreDeclared r (declarations_in items) → Held r (items_notes file items) → AllByRecursion P (functions_in items)
each_function r file P step [] d h = tt
each_function r file P step (structure s ∷ rest) d h = each_function r file P step rest (back _ s.fields (declarations_in rest) d) (right _ _ _ h)
each_function r file P step (global g ∷ rest) d h = each_function r file P step rest d (right _ _ _ h)
each_function r file P step (function f ∷ rest) d h =
    (step f (front _ (declarations_of (function f)) (declarations_in rest) d) (left _ _ _ h), each_function r file P step rest (back _ (declarations_of (function f)) (declarations_in rest) d) (right _ _ _ h))
