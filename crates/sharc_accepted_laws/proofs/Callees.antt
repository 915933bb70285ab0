-- What is called that the program does not define: nothing, where it defines `struct cond`.
use Rattle.sharc_accepted_laws.proofs.{Imports.{◌≡◌, ℕ, ◌||◌, Bool, true, false, cond, List, [], ◌∷◌, ◌++◌, refl, ap, sym, ◌∙◌, subst, bytes_eq, length, Option, Some, None, is_some, codes, AllByRecursion, Declaration, StructDefinition, expressions, in_arguments, in_option, in_right, in_simple, in_local, in_first, in_head as inside_head, in_statement, in_statements, in_function, Expression, Arguments, no_arguments, argument, Right, value, malloc, Simple, assign, does_call, Local, First, nothing, declares, does, Head, Statement, Statements, no_statements, statement, Function, BadForm, Value, Scope, Kind, void, same_kind, declared_kind, Entry, Meaning, look_up, named_of, met, unmet, unagreed, Note, fault_where, type_notes, Named, Role, Standing, AsValue, AsLvalue, defines_condition, with_conditions, type_of, callee_notes, place_notes, notes_at, notes_of_all, behind_all, no_heads, parameters_notes, with_parameters, beyond, in_body, function_notes, file_scope, Resolution, named_at, structs_in, functions_in, Around, opened, looping, with_names, is_here, behind_first, after, count_notes, right_notes, simple_notes, initial_notes, test_notes, tests_notes, step_notes, local_notes, first_statement_notes as first_notes, head_notes, returned_as, return_notes, notes_in, notes_in_all, locals_in_all, struct_named, EachNameOnce, OnlyNames, KnownCalls, same_some, none_some, front, back, both, of_each}, FileNames.in_heads, Noted.{Says, AllSay, all_say, items_say, functions_say}, Structs.first}
use Rattle.sharc_tree.specs.Tree as tree
use Rattle.sharc_ctype.specs.Statements.{declared, in_head}

abbrev IsDefined : Meaning → Type 0
IsDefined z = named_of z ≡ Named.Known → ⊥

-- all these names are defined by the program
abbrev AreDefined : List Entry → Type 0
AreDefined names = AllByRecursion (λ e. IsDefined e.meaning) names

found_defined : (names : List Entry) (name : List ℕ) (e : Entry) → AreDefined names → look_up names name ≡ Some e → IsDefined e.meaning
found_defined [] name e all is = absurd (none_some e is)
found_defined (x ∷ rest) name e all is = by (bytes_eq x.name name) is (found_defined rest name e all.1)
  where
    by : (b : Bool) → cond b (Some x) (look_up rest name) ≡ Some e → (look_up rest name ≡ Some e → IsDefined e.meaning) → IsDefined e.meaning
    by true k later = subst (λ (z : Entry). IsDefined z.meaning) (same_some x e k) all.0
    by false k later = later k

with_variable : (block : ℕ) (d : Declaration) (names : List Entry) → AreDefined names → AreDefined (declared block d names)
with_variable block d names all = by (is_here block names d)
  where
    by : (b : Bool) → AreDefined (cond b names (record { name = d.name.text; block = block; meaning = Meaning.variable d } ∷ names))
    by true = all
    by false = ((λ h. cc), all)

with_all : (block : ℕ) (names : List Entry) (ds : List Declaration) → AreDefined names → AreDefined (with_parameters block names ds)
with_all block names [] all = all
with_all block names (d ∷ rest) all = with_all block (declared block d names) rest (with_variable block d names all)

behind_statement : (around : Around) (names : List Entry) (a : Statement) → AreDefined names → AreDefined (after around names a)
behind_statement around names (tree.declare s l) all = with_variable around.block l.declaration names all
behind_statement around names _ all = all

behind_head : (around : Around) (names : List Entry) (x : First) → AreDefined names → AreDefined (behind_first around names x)
behind_head around names (declares l) all = with_variable around.block l.declaration names all
behind_head around names _ all = all

module _ (r : Resolution) where
  abbrev P : Note → Type 0
  P = Says r

  -- what is called is defined by the program
  abbrev CallSays : Expression → Type 0
  CallSays (tree.call s f all) = named_at r f.site.token ≡ Named.Known → ⊥
  CallSays _ = Unit {0}

  abbrev AllCall : List Expression → Type 0
  AllCall list = AllByRecursion CallSays list

  callee : (names : List Entry) (name : List ℕ) (stands : Standing) (token n : ℕ) (o : Option Entry) → look_up names name ≡ o → AreDefined names → AllSay r (callee_notes stands token n o) → named_at r token ≡ Named.Known → ⊥
  callee names name stands token n None found all h is = absurd h.0
  callee names name stands token n (Some e) found all h is = found_defined names name e all found (sym h.0 ∙ is)

  module _ (scope : Scope) (all : AreDefined scope.names) where
    mutual
      of_expression : (stands : Standing) (e : Expression) → AllSay r (notes_at stands scope e) → AllCall (expressions e)
      of_expression stands (tree.parentheses s a) h = (tt, of_expression stands a h)
      of_expression stands (tree.call s f x) h = (
        (λ is. callee scope.names f.text stands f.site.token _ (look_up scope.names f.text) refl all (front P (callee_notes stands f.site.token _ (look_up scope.names f.text)) _ h) is),
        of_arguments _ x (back P (callee_notes stands f.site.token _ (look_up scope.names f.text)) _ h),
      )
      of_expression stands (tree.spawn s f a) h = (tt, of_expression AsValue a (front P (notes_at AsValue scope a) _ (front P _ _ (front P _ _ h))))
      of_expression stands (tree.on_value s w a) h = (tt, of_expression AsValue a (front P (notes_at AsValue scope a) _ h))
      of_expression stands (tree.on_place s w a) h = (tt, of_expression AsLvalue a (front P (notes_at AsLvalue scope a) _ (front P _ _ h)))
      of_expression stands (tree.cast s t a) h =
          let types = type_notes scope [] Role.Cast t in
          let operand = notes_at AsLvalue scope a in
          (tt, of_expression AsLvalue a (back P types operand (front P (types ++ operand) (place_notes scope.names a) (front P (types ++ operand ++ place_notes scope.names a) _ h))))
      of_expression stands (tree.index s a i) h =
          let three = front P _ _ h in
          (tt, both CallSays (expressions a) (expressions i) (of_expression AsValue a (front P (notes_at AsValue scope a) _ (front P _ _ three))) (of_expression AsValue i (back P _ (notes_at AsValue scope i) three)))
      of_expression stands (tree.field s a w n) h = (tt, of_expression AsValue a (front P (notes_at AsValue scope a) _ (front P _ _ h)))
      of_expression stands (tree.unary s o a) h = (tt, of_expression AsValue a (front P (notes_at AsValue scope a) _ h))
      of_expression stands (tree.binary s o at a b) h =
          let three = front P _ _ (front P _ _ h) in
          (tt, both CallSays (expressions a) (expressions b) (of_expression AsValue a (front P (notes_at AsValue scope a) _ (front P _ _ three))) (of_expression AsValue b (back P _ (notes_at AsValue scope b) three)))
      of_expression stands _ h = (tt, tt)

      of_arguments : (wanted : List Kind) (x : Arguments) → AllSay r (notes_of_all scope wanted x) → AllCall (in_arguments x)
      of_arguments wanted no_arguments h = tt
      of_arguments wanted (argument a rest) h =
          both CallSays (expressions a) (in_arguments rest) (of_expression AsValue a (front P (notes_at AsValue scope a) _ (front P _ _ (front P _ _ h)))) (of_arguments _ rest (back P _ (notes_of_all scope _ rest) h))

    of_count : (o : Option Expression) → AllSay r (count_notes scope o) → AllCall (in_option expressions o)
    of_count None h = tt
    of_count (Some e) h = of_expression AsValue e (front P (notes_at AsValue scope e) _ h)

    of_test : (e : Expression) → AllSay r (test_notes scope e) → AllCall (expressions e)
    of_test e h = of_expression AsValue e (front P (notes_at AsValue scope e) _ h)

    of_tests : (o : Option Expression) → AllSay r (tests_notes scope o) → AllCall (in_option expressions o)
    of_tests None h = tt
    of_tests (Some e) h = of_test e h

    of_right : (want : Option Kind) (x : Right) → AllSay r (right_notes scope want x) → AllCall (in_right x)
    of_right want (value e) h = of_expression AsValue e (front P (notes_at AsValue scope e) _ (front P _ _ h))
    of_right want (malloc s n w) h = of_count n (front P (count_notes scope n) _ (front P _ _ h))

    of_simple : (x : Simple) → AllSay r (simple_notes scope x) → AllCall (in_simple x)
    of_simple (assign s u x) h =
        both CallSays (expressions u) (in_right x) (of_expression AsLvalue u (front P (notes_at AsLvalue scope u) _ (front P _ _ (front P _ _ h)))) (of_right _ x (back P _ (right_notes scope _ x) h))
    of_simple (does_call e) h = of_expression AsValue e h

    of_step : (o : Option Simple) → AllSay r (step_notes scope o) → AllCall (in_option in_simple o)
    of_step None h = tt
    of_step (Some x) h = of_simple x h

    of_initial : (d : Declaration) (o : Option Right) → AllSay r (initial_notes scope d o) → AllCall (in_option in_right o)
    of_initial d None h = tt
    of_initial d (Some x) h = of_right _ x (back P _ (right_notes scope _ x) h)

    of_return : (around : Around) (word : ℕ) (o : Option Expression) → AllSay r (return_notes around scope word o) → AllCall (in_option expressions o)
    of_return around word None h = tt
    of_return around word (Some e) h =
        let faults = fault_where (same_kind around.result void) word BadForm in
        let own = notes_at AsValue scope e in
        let needs = unmet Value e (type_of scope e) in
        of_expression AsValue e (back P faults own (front P (faults ++ own) needs (front P (faults ++ own ++ needs) (unagreed (returned_as around.result) e (met Value (type_of scope e))) h)))

  of_local : (around : Around) (scope : Scope) → AreDefined scope.names → (l : Local) → AllSay r (local_notes around scope l) → AllCall (in_local l)
  of_local around scope all l h =
      of_initial (with_names scope (declared around.block l.declaration scope.names)) (with_variable around.block l.declaration scope.names all) l.declaration l.initial
      (back P _ (initial_notes (with_names scope (declared around.block l.declaration scope.names)) l.declaration l.initial) h)

  of_first : (around : Around) (scope : Scope) → AreDefined scope.names → (x : First) → AllSay r (first_notes around scope x) → AllCall (in_first x)
  of_first around scope all nothing h = tt
  of_first around scope all (declares l) h = of_local around scope all l h
  of_first around scope all (does x) h = of_simple scope all x h

  of_head : (around : Around) (scope : Scope) → AreDefined scope.names → (x : Head) → AllSay r (head_notes around scope x) → AllCall (inside_head x)
  of_head around scope all x h =
      let inner = in_head around scope x in
      let two = front P (first_notes around scope x.first ++ tests_notes inner x.test) (step_notes inner x.step) h in
      let more = behind_head around scope.names x.first all in
      both CallSays (in_first x.first ++ in_option expressions x.test) (in_option in_simple x.step)
      (both CallSays (in_first x.first) (in_option expressions x.test) (of_first around scope all x.first (front P (first_notes around scope x.first) (tests_notes inner x.test) two))
      (of_tests inner more x.test (back P (first_notes around scope x.first) (tests_notes inner x.test) two)))
      (of_step inner more x.step (back P (first_notes around scope x.first ++ tests_notes inner x.test) (step_notes inner x.step) h))

  mutual
    of_statement : (around : Around) (scope : Scope) → AreDefined scope.names → (a : Statement) → AllSay r (notes_in around scope a) → AllCall (in_statement a)
    of_statement around scope all (tree.block s x) h = of_statements (opened around scope.names) scope all x h
    of_statement around scope all (tree.declare s l) h = of_local around scope all l h
    of_statement around scope all (tree.simple s x) h = of_simple scope all x h
    of_statement around scope all (tree.return s e) h = of_return scope all around s.first.token e h
    of_statement around scope all (tree.if_then s e a) h =
        let inside = opened around scope.names in
        both CallSays (expressions e) (in_statement a) (of_test scope all e (front P (test_notes scope e) (notes_in inside scope a) h)) (of_statement inside scope all a (back P (test_notes scope e) (notes_in inside scope a) h))
    of_statement around scope all (tree.if_then_else s e a b) h =
        let inside = opened around scope.names in
        let two = front P (test_notes scope e ++ notes_in inside scope a) (notes_in inside scope b) h in
        both CallSays (expressions e ++ in_statement a) (in_statement b)
        (both CallSays (expressions e) (in_statement a) (of_test scope all e (front P (test_notes scope e) (notes_in inside scope a) two)) (of_statement inside scope all a (back P (test_notes scope e) (notes_in inside scope a) two)))
        (of_statement inside scope all b (back P (test_notes scope e ++ notes_in inside scope a) (notes_in inside scope b) h))
    of_statement around scope all (tree.while s e a) h =
        let inside = looping (opened around scope.names) in
        both CallSays (expressions e) (in_statement a) (of_test scope all e (front P (test_notes scope e) (notes_in inside scope a) h)) (of_statement inside scope all a (back P (test_notes scope e) (notes_in inside scope a) h))
    of_statement around scope all (tree.for s x a) h =
        let outer = opened around scope.names in
        let inner = in_head outer scope x in
        let inside = looping (opened around (behind_first outer scope.names x.first)) in
        both CallSays (inside_head x) (in_statement a) (of_head outer scope all x (front P (head_notes outer scope x) (notes_in inside inner a) h))
        (of_statement inside inner (behind_head outer scope.names x.first all) a (back P (head_notes outer scope x) (notes_in inside inner a) h))
    of_statement around scope all _ h = tt

    of_statements : (around : Around) (scope : Scope) → AreDefined scope.names → (x : Statements) → AllSay r (notes_in_all around scope x) → AllCall (in_statements x)
    of_statements around scope all no_statements h = tt
    of_statements around scope all (statement a rest) h =
        let inner = with_names scope (after around scope.names a) in
        both CallSays (in_statement a) (in_statements rest) (of_statement around scope all a (front P (notes_in around scope a) (notes_in_all around inner rest) h))
        (of_statements around inner (behind_statement around scope.names a all) rest (back P (notes_in around scope a) (notes_in_all around inner rest) h))

  of_function : (file : Scope) → AreDefined file.names → (f : Function) → AllSay r (function_notes file f) → AllCall (in_function f)
  of_function file all f h =
      let heads = type_notes file [] Role.Result f.result ++ parameters_notes (length file.names) 0 file f.parameters in
      let around : Around = record { result = declared_kind f.result; in_loop = false; block = length file.names } in
      let body = notes_in_all around (in_body file f) f.statements in
      of_statements around (in_body file f) (with_all (length file.names) file.names f.parameters all) f.statements (back P heads body (front P (heads ++ body) (beyond 200 (locals_in_all f.statements)) h))

  -- ---- where the program defines the struct
  module _ (s : StructDefinition) (is : struct_named (structs_in r.program.items) (codes "cond") ≡ Some s) where
    abbrev own : Scope
    own = (behind_all no_heads r.program.items).scope

    defines : defines_condition own ≡ true
    defines = ap (λ o. is_some o || (is_some (look_up own.names (codes "wait")) || (is_some (look_up own.names (codes "signal")) || is_some (look_up own.names (codes "broadcast"))))) (first (codes "cond") no_heads r.program.items s refl is).is

    all_defined : AreDefined (file_scope r.program.items).names
    all_defined =
        subst (λ b. AreDefined (cond b own (with_conditions own)).names) (sym defines)
        (in_heads IsDefined (λ n g h. let e : Named.Global n ≡ Named.Known = h in cc) (λ n g h. let e : Named.Function n ≡ Named.Known = h in cc) no_heads r.program.items tt)

pub known_calls : EachNameOnce → OnlyNames → KnownCalls
known_calls once only m a s f x there names = by (struct_named (structs_in m.typed.program.items) (codes "cond")) refl
  where
    none_called : (d : StructDefinition) → struct_named (structs_in m.typed.program.items) (codes "cond") ≡ Some d → ⊥
    none_called d is =
        let say = all_say once only m.typed a.resolved a.placed a.low in
        let notes = of_each (λ g. AllSay m.typed (function_notes (file_scope m.typed.program.items) g)) (functions_in m.typed.program.items) there.owner
        (functions_say m.typed (file_scope m.typed.program.items) m.typed.program.items (items_say m.typed say)) there.stands in
        of_each (CallSays m.typed) (in_function there.owner) (tree.call s f x) (of_function m.typed (file_scope m.typed.program.items) (all_defined m.typed d is) there.owner notes) there.inside names

    by : (o : Option StructDefinition) → struct_named (structs_in m.typed.program.items) (codes "cond") ≡ o → struct_named (structs_in m.typed.program.items) (codes "cond") ≡ None
    by None is = is
    by (Some d) is = absurd (none_called d is)
