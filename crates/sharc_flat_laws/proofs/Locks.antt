-- In a typed program with its least assignment each lock path names a pointer in scope where it is used.
use Rattle.sharc_flat_laws.proofs.{Imports.{inr, ℕ, Bool, true, false, cond, List, [], ◌∷◌, ◌++◌, length, map, Option, Some, None, AllByRecursion, Declaration, LowItems, expressions, in_option, in_right, in_simple, in_local, in_first, in_statement, in_statements, expressions_in as in_function, Expression, Right, value, malloc, Simple, assign, does_call, Local, First, nothing, declares, does, Statement, Statements, no_statements, statement, Function, Item, structure, global, function, Named, Scope, Entry, Role, Entity, entity_declared, casts, local_entities, first_entities, head_entities, statement_entities, statements_entities, result_of, function_entities, entities_in, with_parameters, in_body, file_scope, Resolution, globals_in, functions_in, structs_in, Around, opened, looping, with_names, is_here, declared, behind_first, in_head, after, Assignment, written, declared_row, IsItself, IsFound, EachTypeFound, EachNamesItself, EachNamesFound, EachPathFound, MeetsConstraints, NamesFound, IsVariableIn, TypeStands, PathsAt, FirstStands, LocalsStand, AllLocalsStand, around_in, BodyStands, file_types, Placing, at, places_in_local, places_in_first, places_in, places_in_all, places_of, places_of_all, LocksAt, LocksOf, FirstLocks, LocalLocks, AllLocalLocks, LocksAreFound, front, back, both, together}, FileNames.in_file, Pointing.{type_good, pointed_good, reads_written, has_entity, good_row}, Reading.{wider_type, MeaningKnown, EntriesKnown, FileType, IsField, IsGlobal, FileKnown, Seen, Good, all_good, locks_at, CastFound, casts_found, PlaceKnown, IsTyped, seen_by}}
use Rattle.sharc_tree.specs.Tree as tree
use Rattle.sharc_names.specs.Names as meaning

-- ---- the scope grows

known_if : (r : Resolution) (names : List Entry) (e : Entry) (b : Bool) → EntriesKnown r names → MeaningKnown r e.meaning → EntriesKnown r (cond b names (e ∷ names))
known_if r names e true all h = all
known_if r names e false all h = (h, all)

declared_known : (r : Resolution) (block : ℕ) (d : Declaration) (names : List Entry) → EntriesKnown r names → MeaningKnown r (meaning.variable d) → EntriesKnown r (declared block d names)
declared_known r block d names all h = known_if r names (record { name = d.name.text; block = block; meaning = meaning.variable d }) (is_here block names d) all h

local_known : (r : Resolution) (d : Declaration) → IsFound r (entity_declared Role.Local d) → MeaningKnown r (meaning.variable d)
local_known r d f = (has_entity r (entity_declared Role.Local d) f, f.named)

first_known : (r : Resolution) (around : Around) (names : List Entry) → EntriesKnown r names → (f : First) → AllByRecursion (IsFound r) (first_entities f) → EntriesKnown r (behind_first around names f)
first_known r around names all (declares l) h = declared_known r around.block l.declaration names all (local_known r l.declaration h.0)
first_known r around names all _ h = all

after_known : (r : Resolution) (around : Around) (names : List Entry) → EntriesKnown r names → (a : Statement) → AllByRecursion (IsFound r) (statement_entities a) → EntriesKnown r (after around names a)
after_known r around names all (tree.declare s l) h = declared_known r around.block l.declaration names all (local_known r l.declaration h.0)
after_known r around names all _ h = all

parameters_known : (r : Resolution) (block : ℕ) (names : List Entry) → EntriesKnown r names → (list : List Declaration) → AllByRecursion (IsFound r) (map (entity_declared Role.Parameter) list) → EntriesKnown r (with_parameters block names list)
parameters_known r block names all [] h = all
parameters_known r block names all (d ∷ rest) h = parameters_known r block (declared block d names) (declared_known r block d names all (has_entity r (entity_declared Role.Parameter d) h.0, h.0.named)) rest h.1

still_in : (b : Bool) (names : List Entry) (e : Entry) (x : ℕ) → IsVariableIn names x → IsVariableIn (cond b names (e ∷ names)) x
still_in true names e x h = h
still_in false names e x h = inr h

-- ---- expressions, and what is around them

module _ (m : Assignment) (w : FileKnown m) where
  abbrev r : Resolution
  r = m.typed

  abbrev Found : List Entity → Type 0
  Found list = AllByRecursion (IsFound r) list

  abbrev Typed : List Expression → Type 0
  Typed list = AllByRecursion (IsTyped r) list

  abbrev Known : List Placing → Type 0
  Known list = AllByRecursion (PlaceKnown r) list

  abbrev Locked : List Placing → Type 0
  Locked list = AllByRecursion (LocksAt m) list

  list_locked : (scope : Scope) → EntriesKnown r scope.names → (list : List Expression) → (AllByRecursion (Seen r scope) list → AllByRecursion (Good m scope.names) list) → Known (at scope list) → Typed list → AllByRecursion (CastFound r) list → Locked (at scope list)
  list_locked scope known list f k h c = locks_at m w scope list (f (seen_by r scope known list k h c))

  module _ (scope : Scope) where
    abbrev S : List Expression → Type 0
    S list = AllByRecursion (Seen r scope) list

    abbrev G : List Expression → Type 0
    G list = AllByRecursion (Good m scope.names) list

    option_good : (e : Option Expression) → S (in_option expressions e) → G (in_option expressions e)
    option_good None h = tt
    option_good (Some e) h = all_good m w scope e h

    right_good : (x : Right) → S (in_right x) → G (in_right x)
    right_good (value e) h = all_good m w scope e h
    right_good (malloc s n t) h = option_good n h

    rights_good : (x : Option Right) → S (in_option in_right x) → G (in_option in_right x)
    rights_good None h = tt
    rights_good (Some x) h = right_good x h

    simple_good : (x : Simple) → S (in_simple x) → G (in_simple x)
    simple_good (assign s u x) h = both (Good m scope.names) (expressions u) (in_right x) (all_good m w scope u (front (Seen r scope) (expressions u) (in_right x) h)) (right_good x (back (Seen r scope) (expressions u) (in_right x) h))
    simple_good (does_call e) h = all_good m w scope e h

    simples_good : (x : Option Simple) → S (in_option in_simple x) → G (in_option in_simple x)
    simples_good None h = tt
    simples_good (Some x) h = simple_good x h

    head_good : (t : Option Expression) (x : Option Simple) → S (in_option expressions t ++ in_option in_simple x) → G (in_option expressions t ++ in_option in_simple x)
    head_good t x h = both (Good m scope.names) (in_option expressions t) (in_option in_simple x) (option_good t (front (Seen r scope) (in_option expressions t) (in_option in_simple x) h)) (simples_good x (back (Seen r scope) (in_option expressions t) (in_option in_simple x) h))

  -- ---- locals

  local_places : (around : Around) (scope : Scope) → EntriesKnown r scope.names → (l : Local) → Found (local_entities l) → Known (places_in_local around scope l) → Typed (in_local l) → Locked (places_in_local around scope l)
  local_places around scope known l f k h =
      let inner = with_names scope (declared around.block l.declaration scope.names) in
      list_locked inner (declared_known r around.block l.declaration scope.names known (local_known r l.declaration f.0)) (in_option in_right l.initial) (rights_good inner l.initial) k h (casts_found r (in_option in_right l.initial) f.1)

  local_locks : (block : ℕ) (names : List Entry) (d : Declaration) → IsFound r (entity_declared Role.Local d) → TypeStands r names d.written → LocksOf m (declared block d names) d
  local_locks block names d f h =
      let inner = declared block d names in
      let e : Entry = record { name = d.name.text; block = block; meaning = meaning.variable d } in
      pointed_good m inner (declared_row r written d.name.site.token)
      (good_row m w.least inner written (reads_written r inner) d.name.site.token d.name.site.token d.written (has_entity r (entity_declared Role.Local d) f)
      (type_good r inner d.written (wider_type r names inner (still_in (is_here block names d) names e) d.written h) f.named))

  first_places : (around : Around) (scope : Scope) → EntriesKnown r scope.names → (x : First) → Found (first_entities x) → Known (places_in_first around scope x) → Typed (in_first x) → Locked (places_in_first around scope x)
  first_places around scope known nothing f k h = tt
  first_places around scope known (declares l) f k h = local_places around scope known l f k h
  first_places around scope known (does x) f k h = list_locked scope known (in_simple x) (simple_good scope x) k h (casts_found r (in_simple x) f)

  first_locks : (around : Around) (names : List Entry) (x : First) → Found (first_entities x) → FirstStands r names x → FirstLocks m around names x
  first_locks around names (declares l) f h = local_locks around.block names l.declaration f.0 h
  first_locks around names _ f h = tt

  -- ---- statements

  record Given (around : Around) (scope : Scope) (a : Statement) : Type 0 where
    known : EntriesKnown r scope.names
    found : Found (statement_entities a)
    places : Known (places_in around scope a)
    typed : Typed (in_statement a)
    stand : LocalsStand r around scope.names a

  record AllGiven (around : Around) (scope : Scope) (a : Statements) : Type 0 where
    known : EntriesKnown r scope.names
    found : Found (statements_entities a)
    places : Known (places_in_all around scope a)
    typed : Typed (in_statements a)
    stand : AllLocalsStand r around scope.names a

  record AreLocked (around : Around) (scope : Scope) (a : Statement) : Type 0 where
    places : Locked (places_in around scope a)
    locals : LocalLocks m around scope.names a

  record AllAreLocked (around : Around) (scope : Scope) (a : Statements) : Type 0 where
    places : Locked (places_in_all around scope a)
    locals : AllLocalLocks m around scope.names a

  -- what is behind a test, and the test with it
  behind_test : (inside : Around) (scope : Scope) (e : Expression) (a : Statement) → EntriesKnown r scope.names → Found (casts (expressions e) ++ statement_entities a) → Known (at scope (expressions e) ++ places_in inside scope a)
      → Typed (expressions e ++ in_statement a) → LocalsStand r inside scope.names a → Given inside scope a
  behind_test inside scope e a known f k t stand = record {
    known = known;
    found = back (IsFound r) (casts (expressions e)) (statement_entities a) f;
    places = back (PlaceKnown r) (at scope (expressions e)) (places_in inside scope a) k;
    typed = back (IsTyped r) (expressions e) (in_statement a) t;
    stand = stand;
  }

  with_test : (inside : Around) (scope : Scope) (e : Expression) (a : Statement) → EntriesKnown r scope.names → Found (casts (expressions e) ++ statement_entities a) → Known (at scope (expressions e) ++ places_in inside scope a)
      → Typed (expressions e ++ in_statement a) → Locked (places_in inside scope a) → Locked (at scope (expressions e) ++ places_in inside scope a)
  with_test inside scope e a known f k t behind =
      let P = at scope (expressions e) in
      both (LocksAt m) P (places_in inside scope a)
      (list_locked scope known (expressions e) (all_good m w scope e) (front (PlaceKnown r) P (places_in inside scope a) k) (front (IsTyped r) (expressions e) (in_statement a) t) (casts_found r (expressions e) (front (IsFound r) (casts (expressions e)) (statement_entities a) f)))
      behind

  mutual
    locked_in : (around : Around) (scope : Scope) (a : Statement) → Given around scope a → AreLocked around scope a
    locked_in around scope (tree.block s all) g =
        let x = all_locked_in (opened around scope.names) scope all (record { known = g.known; found = g.found; places = g.places; typed = g.typed; stand = g.stand }) in
        record { places = x.places; locals = x.locals }
    locked_in around scope (tree.declare s l) g = record {
      places = local_places around scope g.known l g.found g.places g.typed;
      locals = local_locks around.block scope.names l.declaration g.found.0 g.stand;
    }
    locked_in around scope (tree.simple s x) g = record { places = list_locked scope g.known (in_simple x) (simple_good scope x) g.places g.typed (casts_found r (in_simple x) g.found); locals = tt }
    locked_in around scope (tree.return s e) g = record { places = list_locked scope g.known (in_option expressions e) (option_good scope e) g.places g.typed (casts_found r (in_option expressions e) g.found); locals = tt }
    locked_in around scope (tree.if_then s e a) g =
        let inside = opened around scope.names in
        let x = locked_in inside scope a (behind_test inside scope e a g.known g.found g.places g.typed g.stand) in
        record { places = with_test inside scope e a g.known g.found g.places g.typed x.places; locals = x.locals }
    locked_in around scope (tree.if_then_else s e a b) g =
        let inside = opened around scope.names in
        let E = casts (expressions e) in
        let P = at scope (expressions e) in
        let PA = places_in inside scope a in
        let PB = places_in inside scope b in
        let f = front (IsFound r) (E ++ statement_entities a) (statement_entities b) g.found in
        let k = front (PlaceKnown r) (P ++ PA) PB g.places in
        let t = front (IsTyped r) (expressions e ++ in_statement a) (in_statement b) g.typed in
        let x = locked_in inside scope a (behind_test inside scope e a g.known f k t g.stand.0) in
        let y = locked_in inside scope b (record {
          known = g.known;
          found = back (IsFound r) (E ++ statement_entities a) (statement_entities b) g.found;
          places = back (PlaceKnown r) (P ++ PA) PB g.places;
          typed = back (IsTyped r) (expressions e ++ in_statement a) (in_statement b) g.typed;
          stand = g.stand.1;
        }) in
        record {
          places = both (LocksAt m) (P ++ PA) PB (with_test inside scope e a g.known f k t x.places) y.places;
          locals = (x.locals, y.locals);
        }
    locked_in around scope (tree.while s e a) g =
        let inside = looping (opened around scope.names) in
        let x = locked_in inside scope a (behind_test inside scope e a g.known g.found g.places g.typed g.stand) in
        record { places = with_test inside scope e a g.known g.found g.places g.typed x.places; locals = x.locals }
    locked_in around scope (tree.for s h a) g =
        let outer = opened around scope.names in
        let inner = in_head outer scope h in
        let inside = looping (opened around (behind_first outer scope.names h.first)) in
        let test = in_option expressions h.test in
        let step = in_option in_simple h.step in
        let F = first_entities h.first in
        let PF = places_in_first outer scope h.first in
        let PH = at inner (test ++ step) in
        let PA = places_in inside inner a in
        let f = front (IsFound r) (head_entities h) (statement_entities a) g.found in
        let f1 = front (IsFound r) (F ++ casts test) (casts step) f in
        let k = front (PlaceKnown r) (PF ++ PH) PA g.places in
        let t = front (IsTyped r) (in_first h.first ++ test ++ step) (in_statement a) g.typed in
        let t1 = front (IsTyped r) (in_first h.first ++ test) step t in
        let ff = front (IsFound r) F (casts test) f1 in
        let known = first_known r outer scope.names g.known h.first ff in
        let x = locked_in inside inner a (record {
          known = known;
          found = back (IsFound r) (head_entities h) (statement_entities a) g.found;
          places = back (PlaceKnown r) (PF ++ PH) PA g.places;
          typed = back (IsTyped r) (in_first h.first ++ test ++ step) (in_statement a) g.typed;
          stand = g.stand.1;
        }) in
        record {
          places = both (LocksAt m) (PF ++ PH) PA
              (both (LocksAt m) PF PH (first_places outer scope g.known h.first ff (front (PlaceKnown r) PF PH k) (front (IsTyped r) (in_first h.first) test t1))
              (list_locked inner known (test ++ step) (head_good inner h.test h.step) (back (PlaceKnown r) PF PH k)
              (both (IsTyped r) test step (back (IsTyped r) (in_first h.first) test t1) (back (IsTyped r) (in_first h.first ++ test) step t))
              (both (CastFound r) test step (casts_found r test (back (IsFound r) F (casts test) f1)) (casts_found r step (back (IsFound r) (F ++ casts test) (casts step) f)))))
              x.places;
          locals = (first_locks outer scope.names h.first ff g.stand.0, x.locals);
        }
    locked_in around scope _ g = record { places = tt; locals = tt }

    all_locked_in : (around : Around) (scope : Scope) (a : Statements) → AllGiven around scope a → AllAreLocked around scope a
    all_locked_in around scope no_statements g = record { places = tt; locals = tt }
    all_locked_in around scope (statement a rest) g =
        let inner = with_names scope (after around scope.names a) in
        let fa = front (IsFound r) (statement_entities a) (statements_entities rest) g.found in
        let x = locked_in around scope a (record {
          known = g.known;
          found = fa;
          places = front (PlaceKnown r) (places_in around scope a) (places_in_all around inner rest) g.places;
          typed = front (IsTyped r) (in_statement a) (in_statements rest) g.typed;
          stand = g.stand.0;
        }) in
        let y = all_locked_in around inner rest (record {
          known = after_known r around scope.names g.known a fa;
          found = back (IsFound r) (statement_entities a) (statements_entities rest) g.found;
          places = back (PlaceKnown r) (places_in around scope a) (places_in_all around inner rest) g.places;
          typed = back (IsTyped r) (in_statement a) (in_statements rest) g.typed;
          stand = g.stand.1;
        }) in
        record { places = both (LocksAt m) (places_in around scope a) (places_in_all around inner rest) x.places y.places; locals = (x.locals, y.locals) }

  -- ---- functions

  abbrev LocalsLocked : Scope → Function → Type 0
  LocalsLocked file f = AllLocalLocks m (around_in file f) (in_body file f).names f.statements

  record FunctionsLocked (file : Scope) (list : List Function) : Type 0 where
    places : Locked (places_of_all file list)
    locals : AllByRecursion (LocalsLocked file) list

  functions_locked : (file : Scope) → EntriesKnown r file.names → (list : List Function) → AllByRecursion (λ f. Found (function_entities f)) list → Known (places_of_all file list) → AllByRecursion (λ f. Typed (in_function f)) list → AllByRecursion (BodyStands r file) list
      → FunctionsLocked file list
  functions_locked file known [] f k t s = record { places = tt; locals = tt }
  functions_locked file known (x ∷ rest) f k t s =
      let heads = result_of x ∷ map (entity_declared Role.Parameter) x.parameters in
      let own = front (IsFound r) heads (statements_entities x.statements) f.0 in
      let y = all_locked_in (around_in file x) (in_body file x) x.statements (record {
        known = parameters_known r (length file.names) file.names known x.parameters own.1;
        found = back (IsFound r) heads (statements_entities x.statements) f.0;
        places = front (PlaceKnown r) (places_of file x) (places_of_all file rest) k;
        typed = t.0;
        stand = s.0;
      }) in
      let z = functions_locked file known rest f.1 (back (PlaceKnown r) (places_of file x) (places_of_all file rest) k) t.1 s.1 in
      record { places = both (LocksAt m) (places_of file x) (places_of_all file rest) y.places z.places; locals = (y.locals, z.locals) }

-- ---- what the laws say of the file

field_list : (r : Resolution) (list : List Declaration) → AllByRecursion (IsFound r) (map (entity_declared Role.Field) list) → AllByRecursion (TypeStands r []) (map (λ (d : Declaration). d.written) list) → AllByRecursion (IsItself r Named.Field) list → AllByRecursion (IsField r) list
field_list r [] f s i = tt
field_list r (d ∷ rest) f s i = (record { is = i.0.1; type = record { has = has_entity r (entity_declared Role.Field d) f.0; stands = s.0 } }, field_list r rest f.1 s.1 i.1)

fields_known : (r : Resolution) (items : List Item) → AllByRecursion (IsFound r) (entities_in items) → AllByRecursion (TypeStands r []) (file_types items) → AllByRecursion (λ s. AllByRecursion (IsItself r Named.Field) s.fields) (structs_in items)
    → AllByRecursion (λ s. AllByRecursion (IsField r) s.fields) (structs_in items)
fields_known r [] f s i = tt
fields_known r (structure x ∷ rest) f s i = (
  field_list r x.fields (front (IsFound r) (map (entity_declared Role.Field) x.fields) (entities_in rest) f) (front (TypeStands r []) (map (λ (d : Declaration). d.written) x.fields) (file_types rest) s) i.0,
  fields_known r rest (back (IsFound r) (map (entity_declared Role.Field) x.fields) (entities_in rest) f) (back (TypeStands r []) (map (λ (d : Declaration). d.written) x.fields) (file_types rest) s) i.1,
)
fields_known r (global x ∷ rest) f s i = fields_known r rest f.1 s.1 i
fields_known r (function x ∷ rest) f s i = fields_known r rest (back (IsFound r) (function_entities x) (entities_in rest) f) s.1 i

globals_known : (r : Resolution) (items : List Item) → AllByRecursion (IsFound r) (entities_in items) → AllByRecursion (TypeStands r []) (file_types items) → LowItems items → AllByRecursion (IsGlobal r) (globals_in items)
globals_known r [] f s low = tt
globals_known r (structure x ∷ rest) f s low = globals_known r rest (back (IsFound r) (map (entity_declared Role.Field) x.fields) (entities_in rest) f) (back (TypeStands r []) (map (λ (d : Declaration). d.written) x.fields) (file_types rest) s) low.1
globals_known r (global x ∷ rest) f s low = (record { found = f.0; stands = s.0; some = low.0.0.0 }, globals_known r rest f.1 s.1 low.1)
globals_known r (function x ∷ rest) f s low = globals_known r rest (back (IsFound r) (function_entities x) (entities_in rest) f) s.1 low.1

results_known : (r : Resolution) (items : List Item) → AllByRecursion (IsFound r) (entities_in items) → AllByRecursion (TypeStands r []) (file_types items) → AllByRecursion (λ f. FileType r f.name.site.token f.result) (functions_in items)
results_known r [] f s = tt
results_known r (structure x ∷ rest) f s = results_known r rest (back (IsFound r) (map (entity_declared Role.Field) x.fields) (entities_in rest) f) (back (TypeStands r []) (map (λ (d : Declaration). d.written) x.fields) (file_types rest) s)
results_known r (global x ∷ rest) f s = results_known r rest f.1 s.1
results_known r (function x ∷ rest) f s = (
  record { has = has_entity r (result_of x) (front (IsFound r) (function_entities x) (entities_in rest) f).0; stands = s.0 },
  results_known r rest (back (IsFound r) (function_entities x) (entities_in rest) f) s.1,
)

functions_found : (r : Resolution) (items : List Item) → AllByRecursion (IsFound r) (entities_in items) → AllByRecursion (λ f. AllByRecursion (IsFound r) (function_entities f)) (functions_in items)
functions_found r [] f = tt
functions_found r (structure x ∷ rest) f = functions_found r rest (back (IsFound r) (map (entity_declared Role.Field) x.fields) (entities_in rest) f)
functions_found r (global x ∷ rest) f = functions_found r rest f.1
functions_found r (function x ∷ rest) f = (front (IsFound r) (function_entities x) (entities_in rest) f, functions_found r rest (back (IsFound r) (function_entities x) (entities_in rest) f))

pub locks_are_found : EachNamesItself → EachNamesFound → EachPathFound → EachTypeFound → MeetsConstraints → LocksAreFound
locks_are_found itself names paths types constraints m resolved placed low least =
    let r = m.typed in
    let items = r.program.items in
    let file = file_scope items in
    let f = types r resolved placed low in
    let p = paths r resolved placed low in
    let w : FileKnown m = record {
      least = least;
      fields = fields_known r items f p.types (itself r resolved placed low).fields;
      globals = globals_known r items f p.types low;
      results = results_known r items f p.types;
    } in
    let x = functions_locked m w file (in_file (MeaningKnown r) (λ n g. tt) (λ n s. tt) (λ k. tt) items) (functions_in items) (functions_found r items f)
    (together (PathsAt r) (λ (q : Placing). NamesFound r q q.expression) (PlaceKnown r) (λ q a b. (a, b)) (places_of_all file (functions_in items)) p.places (names r resolved placed low))
    (constraints r resolved placed low) p.locals in
    record { places = x.places; locals = x.locals }
