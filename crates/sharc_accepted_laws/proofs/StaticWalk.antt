-- The lock paths of types lead through pointers that stand: over all statements of a function, with the variables that stand at each.
use Rattle.sharc_accepted_laws.proofs.{Imports.{◌≡◌, ◌⊎◌, inl, inr, ℕ, ◌==◌, Bool, true, false, cond, List, [], ◌∷◌, ◌++◌, length, map, refl, ap, sym, ◌∙◌, subst, eqb-true, append-nil, append_assoc, Option, Some, None, Contains, AllByRecursion, Declaration, expressions, in_option, in_right, in_simple, in_local, in_first, in_statement, in_statements, in_function, Expression, Right, value, malloc, Simple, assign, does_call, Local, First, nothing, declares, does, Statement, Statements, no_statements, statement, Function, Item, structure, global, function, GlobalCells, Named, Scope, is_pointer, Entry, Role, declared as entity_declared, casts, local_entities, first_entities, head_entities, statement_entities, statements_entities, result_of, function_entities, entities_in, with_parameters, in_body, file_scope, Resolution, functions_in, declaration_at, variable_kind, Around, opened, looping, with_names, is_here, behind_first, after, first_locals, locals_in_all, IsItself, IsFound, EachTypeFound, EachNameOnce, OnlyNames, EachNamesItself, EachNamesFound, EachPathFound, MeetsConstraints, NamesFound, meaning_token, IsVariableIn, TypeStands, PathsAt, FirstRead, LocalsStand, AllLocalsStand, around_in, BodyStands, Placing, at, places_in_local, places_in_first, places_in, places_in_all, places_of, places_of_all, IsLeastAssignment, Assignment, written, Slot, with_variable, flat_behind_first, behind_statement, parameters_scope, Context, slot_of, slot_kind, DeclaredStands, IsClosedScope, ExpressionStands, ExpressionsStand, LocalStands, FirstStands, StatementStands, StatementsStand, FunctionStands, FunctionsStand, eqb_same, same_some, none_some, front, back, both, head_there, together, of_each, tail_there, Entity, casts_found}, Noted.{all_say, parameters_closed}, Scoping.ParametersStand, FileNames.in_file, Places.{right_kind, Here, FileKnown, file_known, found_stands, reads_written, Seen, all_stand, PlaceKnown, IsTyped, seen_by}, StaticRegisters.{kind_more, all_still, none_closed, more_closed}}
use Rattle.sharc_tree.specs.Tree as tree
use Rattle.sharc_names.specs.Names as meaning
use Rattle.sharc_ctype.specs.Statements.{declared, in_head, locals_in}

-- ---- the scope grows
abbrev SlotIsRight : Resolution → Slot → Type 0
SlotIsRight r s = s.is_pointer ≡ right_kind r s.token

-- the variables of a scope, and the slots
record Both (c : Context) (names : List Entry) : Type 0 where
  here : Here c names
  slots : AllByRecursion (SlotIsRight c.program.typed) c.scope

last_by : (r : Resolution) (y s : Slot) (rest : List Slot) → SlotIsRight r y → slot_kind (rest ++ s ∷ []) s.token ≡ Some (right_kind r s.token) → (z : Bool) → (y.token == s.token) ≡ z
    → cond z (Some y.is_pointer) (slot_kind (rest ++ s ∷ []) s.token) ≡ Some (right_kind r s.token)
last_by r y s rest right later true h = ap Some (right ∙ ap (right_kind r) (eqb-true y.token s.token h))
last_by r y s rest right later false h = later

slot_last : (r : Resolution) (list : List Slot) (s : Slot) → AllByRecursion (SlotIsRight r) list → SlotIsRight r s → slot_kind (list ++ s ∷ []) s.token ≡ Some (right_kind r s.token)
slot_last r [] s all right = ap (λ z. cond z (Some s.is_pointer) None) (eqb_same s.token) ∙ ap Some right
slot_last r (y ∷ rest) s all right = last_by r y s rest all.0 (slot_last r rest s all.1 right) (y.token == s.token) refl

module _ (c : Context) where
  abbrev m : Assignment
  m = c.program

  abbrev r : Resolution
  r = c.program.typed

  more_here : (d : Declaration) (names : List Entry) → Both c names → declaration_at r d.name.site.token ≡ Some d → DeclaredStands m c.scope d.name.site.token → (x : ℕ) → (Some d.name.site.token ≡ Some x) ⊎ IsVariableIn names x
      → (slot_kind (c.scope ++ slot_of d ∷ []) x ≡ Some (right_kind r x)) × DeclaredStands m (c.scope ++ slot_of d ∷ []) x
  more_here d names b is stands x (inl e) =
      let right : SlotIsRight r (slot_of d) = sym (ap (λ z. is_pointer (variable_kind z)) is) in
      subst (λ y. (slot_kind (c.scope ++ slot_of d ∷ []) y ≡ Some (right_kind r y)) × DeclaredStands m (c.scope ++ slot_of d ∷ []) y) (same_some d.name.site.token x e)
      (slot_last r c.scope (slot_of d) b.slots right, all_still (slot_of d ∷ []) m c.scope _ stands)
  more_here d names b is stands x (inr h) = (kind_more (slot_of d ∷ []) c.scope x _ (b.here.slots x h), all_still (slot_of d ∷ []) m c.scope _ (b.here.types x h))

  -- one variable more
  grown : (block : ℕ) (d : Declaration) (names : List Entry) → Both c names → declaration_at r d.name.site.token ≡ Some d → DeclaredStands m c.scope d.name.site.token → Both (with_variable c d) (declared block d names)
  grown block d names b is stands = record {
    here = by (is_here block names d);
    slots = both (SlotIsRight r) c.scope (slot_of d ∷ []) b.slots (sym (ap (λ z. is_pointer (variable_kind z)) is), tt);
  }
    where
      by : (z : Bool) → Here (with_variable c d) (cond z names (record { name = d.name.text; block = block; meaning = meaning.variable d } ∷ names))
      by true = record { slots = λ x h. (more_here d names b is stands x (inr h)).0; types = λ x h. (more_here d names b is stands x (inr h)).1 }
      by false = record { slots = λ x h. (more_here d names b is stands x h).0; types = λ x h. (more_here d names b is stands x h).1 }

-- ---- statements
module _ (m2 : Assignment) (least : IsLeastAssignment m2) (file : FileKnown m2.typed m2.typed.program.items) (globals : List GlobalCells) where
  abbrev r2 : Resolution
  r2 = m2.typed

  abbrev in_scope : List Slot → Context
  in_scope scope = record { program = m2; globals = globals; scope = scope }

  -- behind a declaration the program and its globals are the same
  context_first : (x : First) (slots : List Slot) → flat_behind_first (in_scope slots) x ≡ in_scope (flat_behind_first (in_scope slots) x).scope
  context_first (does x) slots = refl
  context_first _ slots = refl

  context_behind : (a : Statement) (slots : List Slot) → behind_statement (in_scope slots) a ≡ in_scope (behind_statement (in_scope slots) a).scope
  context_behind (tree.empty s) slots = refl
  context_behind _ slots = refl

  abbrev Known : List Placing → Type 0
  Known list = AllByRecursion (PlaceKnown r2) list

  known_front : (scope : Scope) (xs ys : List Expression) → Known (at scope (xs ++ ys)) → Known (at scope xs)
  known_front scope [] ys h = tt
  known_front scope (x ∷ xs) ys h = (h.0, known_front scope xs ys h.1)

  known_back : (scope : Scope) (xs ys : List Expression) → Known (at scope (xs ++ ys)) → Known (at scope ys)
  known_back scope [] ys h = h
  known_back scope (x ∷ xs) ys h = known_back scope xs ys h.1

  abbrev Typed : List Expression → Type 0
  Typed list = AllByRecursion (IsTyped r2) list

  abbrev Own : List Declaration → Type 0
  Own list = AllByRecursion (IsItself r2 Named.Variable) list

  module _ (slots : List Slot) (scope : Scope) (b : Both (in_scope slots) scope.names) where
    abbrev c2 : Context
    c2 = in_scope slots

    abbrev S : List Expression → Type 0
    S list = AllByRecursion (Seen r2 scope) list

    one : (e : Expression) → S (expressions e) → ExpressionsStand c2 (expressions e)
    one e h = all_stand c2 least file scope b.here e h

    options : (e : Option Expression) → S (in_option expressions e) → ExpressionsStand c2 (in_option expressions e)
    options None h = tt
    options (Some e) h = one e h

    rights : (x : Right) → S (in_right x) → ExpressionsStand c2 (in_right x)
    rights (value e) h = one e h
    rights (malloc s n w) h = options n h

    right_options : (x : Option Right) → S (in_option in_right x) → ExpressionsStand c2 (in_option in_right x)
    right_options None h = tt
    right_options (Some x) h = rights x h

    simples : (x : Simple) → S (in_simple x) → ExpressionsStand c2 (in_simple x)
    simples (assign s u x) h = both (ExpressionStands c2) (expressions u) (in_right x) (one u (front (Seen r2 scope) (expressions u) (in_right x) h)) (rights x (back (Seen r2 scope) (expressions u) (in_right x) h))
    simples (does_call e) h = one e h

    simple_options : (x : Option Simple) → S (in_option in_simple x) → ExpressionsStand c2 (in_option in_simple x)
    simple_options None h = tt
    simple_options (Some x) h = simples x h

    seen : (list : List Expression) → Known (at scope list) → Typed list → AllByRecursion (IsFound r2) (casts list) → S list
    seen list k t f = seen_by r2 scope list k t (casts_found r2 list f)

  -- a local, where its type is read before it
  local_stands : (slots : List Slot) (around : Around) (scope : Scope) → Both (in_scope slots) scope.names → (l : Local) → AllByRecursion (IsFound r2) (local_entities l) → Known (places_in_local around scope l) → Typed (in_local l)
      → TypeStands r2 scope.names l.declaration.written → IsItself r2 Named.Variable l.declaration → LocalStands (in_scope slots) l
  local_stands slots around scope b l f k t read itself =
      let stands : DeclaredStands m2 slots l.declaration.name.site.token = found_stands (in_scope slots) least scope.names b.here.slots written (reads_written (in_scope slots)) (entity_declared Role.Local l.declaration) f.0 read in
      let inner = with_names scope (declared around.block l.declaration scope.names) in
      let more = grown (in_scope slots) around.block l.declaration scope.names b itself.1 stands in
      (stands, right_options (slots ++ slot_of l.declaration ∷ []) inner more l.initial (seen (slots ++ slot_of l.declaration ∷ []) inner more (in_option in_right l.initial) k t f.1))

  local_grown : (slots : List Slot) (around : Around) (names : List Entry) → Both (in_scope slots) names → (l : Local) → AllByRecursion (IsFound r2) (local_entities l) → TypeStands r2 names l.declaration.written → IsItself r2 Named.Variable l.declaration
      → Both (with_variable (in_scope slots) l.declaration) (declared around.block l.declaration names)
  local_grown slots around names b l f read itself =
      grown (in_scope slots) around.block l.declaration names b itself.1
      (found_stands (in_scope slots) least names b.here.slots written (reads_written (in_scope slots)) (entity_declared Role.Local l.declaration) f.0 read)

  first_stands : (slots : List Slot) (around : Around) (scope : Scope) → Both (in_scope slots) scope.names → (x : First) → AllByRecursion (IsFound r2) (first_entities x) → Known (places_in_first around scope x) → Typed (in_first x)
      → FirstRead r2 scope.names x → Own (first_locals x) → FirstStands (in_scope slots) x
  first_stands slots around scope b nothing f k t read own = tt
  first_stands slots around scope b (declares l) f k t read own = local_stands slots around scope b l f k t read own.0
  first_stands slots around scope b (does x) f k t read own = simples slots scope b x (seen slots scope b (in_simple x) k t f)

  first_grown : (slots : List Slot) (around : Around) (names : List Entry) → Both (in_scope slots) names → (x : First) → AllByRecursion (IsFound r2) (first_entities x) → FirstRead r2 names x → Own (first_locals x)
      → Both (flat_behind_first (in_scope slots) x) (behind_first around names x)
  first_grown slots around names b (declares l) f read own = local_grown slots around names b l f read own.0
  first_grown slots around names b _ f read own = b

  -- what is given of a piece: of what has a type in it, of its places and its expressions, of what its locals read, and of these
  record Facts (entities : List Entity) (placings : List Placing) (list : List Expression) (Read : Type 0) (locals : List Declaration) : Type 0 where
    found : AllByRecursion (IsFound r2) entities
    places : Known placings
    typed : Typed list
    read : Read
    own : Own locals

  first_part : {Read More : Type 0} (a b : List Entity) (p q : List Placing) (x y : List Expression) (d e : List Declaration) → Facts (a ++ b) (p ++ q) (x ++ y) (Read × More) (d ++ e) → Facts a p x Read d
  first_part a b p q x y d e g =
      record { found = front (IsFound r2) a b g.found; places = front (PlaceKnown r2) p q g.places; typed = front (IsTyped r2) x y g.typed; read = g.read.0; own = front (IsItself r2 Named.Variable) d e g.own }

  last_part : {Read More : Type 0} (a b : List Entity) (p q : List Placing) (x y : List Expression) (d e : List Declaration) → Facts (a ++ b) (p ++ q) (x ++ y) (Read × More) (d ++ e) → Facts b q y More e
  last_part a b p q x y d e g =
      record { found = back (IsFound r2) a b g.found; places = back (PlaceKnown r2) p q g.places; typed = back (IsTyped r2) x y g.typed; read = g.read.1; own = back (IsItself r2 Named.Variable) d e g.own }

  abbrev Given : Around → Scope → Statement → Type 0
  Given around scope a = Facts (statement_entities a) (places_in around scope a) (in_statement a) (LocalsStand r2 around scope.names a) (locals_in a)

  abbrev AllGiven : Around → Scope → Statements → Type 0
  AllGiven around scope a = Facts (statements_entities a) (places_in_all around scope a) (in_statements a) (AllLocalsStand r2 around scope.names a) (locals_in_all a)

  -- the expression of a test, and what is given of the statement after it
  behind_test : (slots : List Slot) (inside : Around) (scope : Scope) → Both (in_scope slots) scope.names → (e : Expression) (a : Statement)
      → Facts (casts (expressions e) ++ statement_entities a) (at scope (expressions e) ++ places_in inside scope a) (expressions e ++ in_statement a) (LocalsStand r2 inside scope.names a) (locals_in a)
      → ExpressionsStand (in_scope slots) (expressions e) × Given inside scope a
  behind_test slots inside scope b e a g =
      let P = at scope (expressions e) in
      let PA = places_in inside scope a in
      let E = casts (expressions e) in (
        one slots scope b e (seen slots scope b (expressions e) (front (PlaceKnown r2) P PA g.places) (front (IsTyped r2) (expressions e) (in_statement a) g.typed) (front (IsFound r2) E (statement_entities a) g.found)),
        record { found = back (IsFound r2) E (statement_entities a) g.found; places = back (PlaceKnown r2) P PA g.places; typed = back (IsTyped r2) (expressions e) (in_statement a) g.typed; read = g.read; own = g.own },
      )

  after_grown : (slots : List Slot) (around : Around) (scope : Scope) (a : Statement) → Both (in_scope slots) scope.names → Given around scope a → Both (behind_statement (in_scope slots) a) (after around scope.names a)
  after_grown slots around scope (tree.declare s l) b g = local_grown slots around scope.names b l g.found g.read g.own.0
  after_grown slots around scope _ b g = b

  mutual
    statement_stands : (slots : List Slot) (around : Around) (scope : Scope) (a : Statement) → Both (in_scope slots) scope.names → Given around scope a → StatementStands (in_scope slots) a
    statement_stands slots around scope (tree.block s all) b g = statements_stand slots (opened around scope.names) scope all b g
    statement_stands slots around scope (tree.declare s l) b g = local_stands slots around scope b l g.found g.places g.typed g.read g.own.0
    statement_stands slots around scope (tree.simple s x) b g = simples slots scope b x (seen slots scope b (in_simple x) g.places g.typed g.found)
    statement_stands slots around scope (tree.return s e) b g = options slots scope b e (seen slots scope b (in_option expressions e) g.places g.typed g.found)
    statement_stands slots around scope (tree.if_then s e a) b g =
        let inside = opened around scope.names in
        let w = behind_test slots inside scope b e a g in
        (w.0, statement_stands slots inside scope a b w.1)
    statement_stands slots around scope (tree.if_then_else s e a z) b g =
        let inside = opened around scope.names in
        let E = casts (expressions e) ++ statement_entities a in
        let P = at scope (expressions e) ++ places_in inside scope a in
        let w = behind_test slots inside scope b e a (first_part E (statement_entities z) P (places_in inside scope z) (expressions e ++ in_statement a) (in_statement z) (locals_in a) (locals_in z) g) in (
          w.0,
          statement_stands slots inside scope a b w.1,
          statement_stands slots inside scope z b (last_part E (statement_entities z) P (places_in inside scope z) (expressions e ++ in_statement a) (in_statement z) (locals_in a) (locals_in z) g),
        )
    statement_stands slots around scope (tree.while s e a) b g =
        let inside = looping (opened around scope.names) in
        let w = behind_test slots inside scope b e a g in
        (w.0, statement_stands slots inside scope a b w.1)
    statement_stands slots around scope (tree.for s h a) b g =
        let outer = opened around scope.names in
        let inner = in_head outer scope h in
        let inside = looping (opened around (behind_first outer scope.names h.first)) in
        let test = in_option expressions h.test in
        let step = in_option in_simple h.step in
        let F = first_entities h.first in
        let PF = places_in_first outer scope h.first in
        let PH = at inner (test ++ step) in
        let PA = places_in inside inner a in
        let head = first_part (head_entities h) (statement_entities a) (PF ++ PH) PA (in_first h.first ++ test ++ step) (in_statement a) (first_locals h.first) (locals_in a) g in
        let body = last_part (head_entities h) (statement_entities a) (PF ++ PH) PA (in_first h.first ++ test ++ step) (in_statement a) (first_locals h.first) (locals_in a) g in
        let f1 = front (IsFound r2) (F ++ casts test) (casts step) head.found in
        let ff = front (IsFound r2) F (casts test) f1 in
        let kh : Known (at inner (test ++ step)) = back (PlaceKnown r2) PF PH head.places in
        let t1 = front (IsTyped r2) (in_first h.first ++ test) step head.typed in
        let more = first_grown slots outer scope.names b h.first ff head.read head.own in
        let c3 = (flat_behind_first (in_scope slots) h.first).scope in
        let more3 : Both (in_scope c3) inner.names = subst (λ z. Both z inner.names) (context_first h.first slots) more in (
          first_stands slots outer scope b h.first ff (front (PlaceKnown r2) PF PH head.places) (front (IsTyped r2) (in_first h.first) test t1) head.read head.own,
          subst (λ z. ExpressionsStand z test) (sym (context_first h.first slots)) (options c3 inner more3 h.test (seen c3 inner more3 test (known_front inner test step kh) (back (IsTyped r2) (in_first h.first) test t1) (back (IsFound r2) F (casts test) f1))),
          subst (λ z. ExpressionsStand z step) (sym (context_first h.first slots)) (simple_options c3 inner more3 h.step (seen c3 inner more3 step (known_back inner test step kh) (back (IsTyped r2) (in_first h.first ++ test) step head.typed) (back (IsFound r2) (F ++ casts test) (casts step) head.found))),
          subst (λ z. StatementStands z a) (sym (context_first h.first slots)) (statement_stands c3 inside inner a more3 body),
        )
    statement_stands slots around scope _ b g = tt

    statements_stand : (slots : List Slot) (around : Around) (scope : Scope) (a : Statements) → Both (in_scope slots) scope.names → AllGiven around scope a → StatementsStand (in_scope slots) a
    statements_stand slots around scope no_statements b g = tt
    statements_stand slots around scope (statement a rest) b g =
        let inner = with_names scope (after around scope.names a) in
        let now : Given around scope a =
        first_part (statement_entities a) (statements_entities rest) (places_in around scope a) (places_in_all around inner rest) (in_statement a) (in_statements rest) (locals_in a) (locals_in_all rest) g in
        let later : AllGiven around inner rest =
        last_part (statement_entities a) (statements_entities rest) (places_in around scope a) (places_in_all around inner rest) (in_statement a) (in_statements rest) (locals_in a) (locals_in_all rest) g in
        let c3 = (behind_statement (in_scope slots) a).scope in
        let more3 : Both (in_scope c3) inner.names = subst (λ z. Both z inner.names) (context_behind a slots) (after_grown slots around scope a b now) in
        (statement_stands slots around scope a b now, subst (λ z. StatementsStand z rest) (sym (context_behind a slots)) (statements_stand c3 around inner rest more3 later))

  -- ---- functions
  record Parameters (slots : List Slot) (names : List Entry) : Type 0 where
    both_stand : Both (in_scope slots) names
    closed : IsClosedScope m2 slots

  parameters_stand : (slots : List Slot) (start : ℕ) (names : List Entry) (ds : List Declaration) → Parameters slots names → ParametersStand r2 start names ds → AllByRecursion (IsFound r2) (map (entity_declared Role.Parameter) ds) → Own ds
      → Parameters (slots ++ parameters_scope ds) (with_parameters start names ds)
  parameters_stand slots start names [] p stands f own = subst (λ z. Parameters z names) (sym (append-nil slots)) p
  parameters_stand slots start names (d ∷ rest) p stands f own =
      let declared_stand : DeclaredStands m2 slots d.name.site.token = found_stands (in_scope slots) least names p.both_stand.here.slots written (reads_written (in_scope slots)) (entity_declared Role.Parameter d) f.0 stands.0 in
      subst (λ z. Parameters z (with_parameters start (declared start d names) rest)) (append_assoc slots (slot_of d ∷ []) (parameters_scope rest))
      (parameters_stand (slots ++ slot_of d ∷ []) start (declared start d names) rest
      (record { both_stand = grown (in_scope slots) start d names p.both_stand own.0.1 declared_stand; closed = more_closed m2 slots (slot_of d) p.closed declared_stand }) stands.1 f.1 own.1)

  record FunctionGiven (file_names : Scope) (f : Function) : Type 0 where
    found : AllByRecursion (IsFound r2) (function_entities f)
    places : Known (places_of file_names f)
    typed : Typed (in_function f)
    read : BodyStands r2 file_names f
    own : Own (f.parameters ++ locals_in_all f.statements)
    parameters : ParametersStand r2 (length file_names.names) file_names.names f.parameters

  function_stands : (file_names : Scope) → ((x : ℕ) → IsVariableIn file_names.names x → ⊥) → (f : Function) → FunctionGiven file_names f → FunctionStands m2 globals f
  function_stands file_names none f g =
      let heads = result_of f ∷ map (entity_declared Role.Parameter) f.parameters in
      let start : Parameters [] file_names.names = record {
        both_stand = record { here = record { slots = λ x h. absurd (none x h); types = λ x h. absurd (none x h) }; slots = tt };
        closed = none_closed m2;
      } in
      let p = parameters_stand [] (length file_names.names) file_names.names f.parameters start g.parameters (front (IsFound r2) heads (statements_entities f.statements) g.found).1
      (front (IsItself r2 Named.Variable) f.parameters (locals_in_all f.statements) g.own) in
      record {
        parameters = p.closed;
        statements = statements_stand (parameters_scope f.parameters) (around_in file_names f) (in_body file_names f) f.statements p.both_stand (record {
          found = back (IsFound r2) heads (statements_entities f.statements) g.found;
          places = g.places;
          typed = g.typed;
          read = g.read;
          own = back (IsItself r2 Named.Variable) f.parameters (locals_in_all f.statements) g.own;
        });
      }

  functions_given : (file_names : Scope) (list : List Function) → AllByRecursion (λ f. AllByRecursion (IsFound r2) (function_entities f)) list → Known (places_of_all file_names list) → AllByRecursion (λ f. Typed (in_function f)) list
      → AllByRecursion (BodyStands r2 file_names) list → AllByRecursion (λ f. Own (f.parameters ++ locals_in_all f.statements)) list → ((f : Function) → Contains list f → ParametersStand r2 (length file_names.names) file_names.names f.parameters)
      → AllByRecursion (FunctionGiven file_names) list
  functions_given file_names [] f k t s o p = tt
  functions_given file_names (x ∷ rest) f k t s o p = (
    record { found = f.0; places = front (PlaceKnown r2) (places_of file_names x) (places_of_all file_names rest) k; typed = t.0; read = s.0; own = o.0; parameters = p x (head_there x rest) },
    functions_given file_names rest f.1 (back (PlaceKnown r2) (places_of file_names x) (places_of_all file_names rest) k) t.1 s.1 o.1 (λ y has. p y (tail_there x y rest has)),
  )

-- ---- what the laws say
functions_found : (r : Resolution) (items : List Item) → AllByRecursion (IsFound r) (entities_in items) → AllByRecursion (λ f. AllByRecursion (IsFound r) (function_entities f)) (functions_in items)
functions_found r [] f = tt
functions_found r (structure x ∷ rest) f = functions_found r rest (back (IsFound r) (map (entity_declared Role.Field) x.fields) (entities_in rest) f)
functions_found r (global x ∷ rest) f = functions_found r rest f.1
functions_found r (function x ∷ rest) f = (front (IsFound r) (function_entities x) (entities_in rest) f, functions_found r rest (back (IsFound r) (function_entities x) (entities_in rest) f))

-- a name of the file is no variable
abbrev NoVariable : meaning.Meaning → Type 0
NoVariable z = (x : ℕ) → meaning_token z ≡ Some x → ⊥

none_among : (names : List Entry) → AllByRecursion (λ e. NoVariable e.meaning) names → (x : ℕ) → IsVariableIn names x → ⊥
none_among [] all x h = h
none_among (e ∷ rest) all x (inl h) = all.0 x h
none_among (e ∷ rest) all x (inr h) = none_among rest all.1 x h

pub functions_stand : EachNameOnce → OnlyNames → EachNamesItself → EachNamesFound → EachPathFound → EachTypeFound → MeetsConstraints → FunctionsStand
functions_stand once only itself names paths types constraints m accepted globals f stands =
    let r = m.typed in
    let closed = parameters_closed r (all_say once only r accepted.resolved accepted.placed accepted.low) in
    let items = r.program.items in
    let file = file_scope items in
    let found = types r accepted.resolved accepted.placed accepted.low in
    let p = paths r accepted.resolved accepted.placed accepted.low in
    let known = file_known r items found p.types in
    let none = none_among file.names (in_file NoVariable (λ n g x h. none_some x h) (λ n s x h. none_some x h) (λ k x h. none_some x h) items) in
    let given = functions_given m accepted.least known globals file (functions_in items) (functions_found r items found)
    (together (PathsAt r) (λ (q : Placing). NamesFound r q q.expression) (PlaceKnown r) (λ q a b. (a.cast, b)) (places_of_all file (functions_in items)) p.places (names r accepted.resolved accepted.placed accepted.low))
    (constraints r accepted.resolved accepted.placed accepted.low) p.locals (itself r accepted.resolved accepted.placed accepted.low).variables closed in
    function_stands m accepted.least known globals file none f (of_each (FunctionGiven m accepted.least known globals file) (functions_in items) f given stands)
