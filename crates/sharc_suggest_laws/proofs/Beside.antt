-- What is reported of a program, how many meet a test in it, and its expressions, beside what is given there: one walk.
use Rattle.sharc_suggest_laws.proofs.{Imports.{Bool, Some, List, None, Option, [], arith, refl, suc, zero, ℕ, ◌++◌, ◌+◌, ◌∷◌, ◌≡◌, ◌≤◌, AllByRecursion, flat_map, back, joint, front, argument, call, statement, value, parentheses, expressions, in_arguments, in_first, in_function, function, in_local, in_option, in_right, in_simple, in_statement, in_statements, Declaration, First, Head, Item, Local, Right, Simple, Statement, Statements, Arguments, Expression, Function, assign, binary, cast, declares, does, does_call, field, global, index, malloc, no_arguments, no_statements, nothing, on_place, on_value, spawn, structure, unary, Entry, Finding, wanted, entities_in, numbered, written, notes_of, call_notes, functions_in, globals_in, named_at, parameters_named, option_notes, Assignment, agree_notes, first_unmet, names_at_call, source_notes, unmet_notes, write_notes, base_use, cast_row, modes_at, modes_of, named_row, Sharing, spawned_notes, touched_notes, said_of_paths, Giving, Receiver, after, all_givings, givings, behind_first, beyond, first_givings, givings_in, givings_in_all, head_givings, item_givings, items_givings, local_givings, of_declared, of_left, of_parameter, one_giving, option_givings, right_givings, simple_givings, value_givings, with_parameters, entry_of, met_at, met_by, met_in_first, met_in_head, met_in_item, met_in_items, met_in_local, met_in_right, met_in_simple, met_in_statement, met_in_statements, met_inside, met_inside_all, of_option, Span, map, option_map, ap, ◌∙◌, Recast, around, with_cast, all_with_cast, right_with_cast, simple_with_cast, local_with_cast, first_with_cast, head_with_cast, statement_with_cast, statements_with_cast, item_with_cast, receiver_with}, Agreed.{told_in, both as both_told, quiet_behind, quiet_before}, Arguments.{nth, args_met, args_few, IsArgument, IsGivenTo, AreGivenTo}, CallNames.{Says, named_right, left, right, SaidTo, IsSaid, AreSaid}, Counted.{counted, both as both_counted}, Rewritten.{givings_with, both as both_written, value_written, first_same, after_same}, Quiet.{ones, both_quiet, write_quiet, source_quiet, place_quiet, cast_quiet, call_quiet, field_quiet, types_quiet, spawned_quiet, touched_quiet}}
use Rattle.sharc_tree.specs.Measures.{in_head}
use Rattle.sharc_tree.specs.Tree as tree
use Rattle.sharc_mode.specs.{Expressions.{place_notes, notes_of_all, right_notes, simple_notes, local_notes, return_notes, first_notes, head_notes, notes_in, notes_in_all, item_notes, items_notes}, Notes.{cast_notes, field_notes, type_notes}, WellModed.notes_about}

-- given to something with a property of all expressions below it
abbrev pub HasBelow : (Expression → Type 0) → Giving → Type 0
HasBelow P g = AllByRecursion P (expressions g.given)

-- of a part of a program: what is reported of it, how many meet a test in it, its expressions, and what is given in it,
-- before and with a cast written in it.
-- Of arguments of a call, where this is said of the call, and so few of its arguments meet the test.
pub record Beside (m : Assignment) (P : Expression → Type 0) (Called : List Finding → Type 0) (IsFew : (Expression → Bool) → ℕ → Type 0) (notes : List Finding) (met : (Expression → Bool) → ℕ) (es : List Expression) (gs : List Giving) (now : Recast → List Giving) : Type 0 where
  pub agreed : (t : ℕ) → ones t notes ≡ told_in t m gs
  pub said : (all : List Finding) → Called all → Says notes all → AreSaid m all gs
  pub many : (test : Expression → Bool) → met test ≡ counted test gs
  pub arguments : (test : Expression → Bool) (n : ℕ) → IsFew test n → met test ≤ n → AreGivenTo test n gs
  pub below : AllByRecursion P es → AllByRecursion (HasBelow P) gs
  pub recast : (c : Recast) → now c ≡ givings_with c gs

-- of anything but arguments
abbrev pub Told : Assignment → (Expression → Type 0) → List Finding → ((Expression → Bool) → ℕ) → List Expression → List Giving → (Recast → List Giving) → Type 0
Told m P notes met es gs now = Beside m P (λ (all : List Finding). Unit {0}) (λ (test : Expression → Bool) (n : ℕ). Unit {0}) notes met es gs now

nothing_there : {m : Assignment} {P : Expression → Type 0} {C : List Finding → Type 0} {F : (Expression → Bool) → ℕ → Type 0} → Beside m P C F [] (λ test. 0) [] [] (λ c. [])
nothing_there = record { agreed = λ t. refl; said = λ all c h. tt; many = λ test. refl; arguments = λ test n few most. tt; below = λ h. tt; recast = λ c. refl }

both : {m : Assignment} {P : Expression → Type 0} {C : List Finding → Type 0} {F : (Expression → Bool) → ℕ → Type 0} {a b : List Finding} {n k : (Expression → Bool) → ℕ} {x y : List Expression} {g h : List Giving} {u v : Recast → List Giving}
    → Beside m P C F a n x g u → Beside m P C F b k y h v → Beside m P C F (a ++ b) (λ test. n test + k test) (x ++ y) (g ++ h) (λ c. u c ++ v c)
both {m} {P} {C} {F} {a} {b} {n} {k} {x} {y} {g} {h} {u} {v} one two = record {
  agreed = λ t. both_told t m a b g h (one.agreed t) (two.agreed t);
  said = λ all c says. joint (IsSaid m all) g h (one.said all c (left a b all says)) (two.said all c (right a b all says));
  many = λ test. both_counted test g h (n test) (k test) (one.many test) (two.many test);
  arguments = λ test most few le.
      let sum : n test + k test ≤ most = le in
      joint (IsGivenTo test most) g h (one.arguments test most few (omega (arith, sum))) (two.arguments test most few (omega (arith, sum)));
  below = λ all. joint (HasBelow P) g h (one.below (front P x y all)) (two.below (back P x y all));
  recast = λ c. both_written c g h (u c) (v c) (one.recast c) (two.recast c);
}

deeper : {m : Assignment} {P : Expression → Type 0} {C : List Finding → Type 0} {F : (Expression → Bool) → ℕ → Type 0} {a : List Finding} {n : (Expression → Bool) → ℕ} {e : Expression} {x : List Expression} {g : List Giving} {u : Recast → List Giving}
    → Beside m P C F a n x g u → Beside m P C F a n (e ∷ x) g u
deeper h = record { agreed = h.agreed; said = h.said; many = h.many; arguments = h.arguments; below = λ all. h.below all.1; recast = h.recast }

-- notes without a mismatch that come after
quiet_after : {m : Assignment} {P : Expression → Type 0} {C : List Finding → Type 0} {F : (Expression → Bool) → ℕ → Type 0} {a : List Finding} {n : (Expression → Bool) → ℕ} {x : List Expression} {g : List Giving} {u : Recast → List Giving}
    → (b : List Finding) → ((t : ℕ) → ones t b ≡ 0) → Beside m P C F a n x g u → Beside m P C F (a ++ b) n x g u
quiet_after {m} {P} {C} {F} {a} {n} {x} {g} b quiet h = record {
  agreed = λ t. quiet_behind t a b (told_in t m g) (h.agreed t) (quiet t);
  said = λ all c says. h.said all c (left a b all says);
  many = h.many;
  arguments = h.arguments;
  below = h.below;
  recast = h.recast;
}

-- with a cast the same variables are in scope
again : {m : Assignment} {P : Expression → Type 0} {C : List Finding → Type 0} {F : (Expression → Bool) → ℕ → Type 0} {a : List Finding} {n : (Expression → Bool) → ℕ} {x : List Expression} {g : List Giving} {u v : Recast → List Giving}
    → ((c : Recast) → v c ≡ u c) → Beside m P C F a n x g u → Beside m P C F a n x g v
again same h = record { agreed = h.agreed; said = h.said; many = h.many; arguments = h.arguments; below = h.below; recast = λ c. same c ∙ h.recast c }

-- a value that is given to a receiver
value_beside : {P : Expression → Type 0} {C : List Finding → Type 0} {F : (Expression → Bool) → ℕ → Type 0} (m : Assignment) (scope : List Entry) (e : Expression) (to : Receiver)
    → ((all : List Finding) → C all → SaidTo m all to) → ((test : Expression → Bool) (n : ℕ) → F test n → IsArgument test n to e)
    → Told m P (notes_of m e) (λ test. met_inside test e) (expressions e) (givings scope e) (λ c. givings scope (with_cast c e))
    → Beside m P C F (notes_of m e ++ agree_notes m (wanted m to) e) (λ test. met_at test e) (expressions e) (value_givings scope to e) (λ c. value_givings scope (receiver_with c to) (around c (with_cast c e)))
value_beside {P} {C} {F} m scope e to said few h = record {
  agreed = λ t. both_told t m (notes_of m e) (agree_notes m (wanted m to) e) (givings scope e) (one_giving scope to e) (h.agreed t)
      (let same : ones t (agree_notes m (wanted m to) e) ≡ ones t (agree_notes m (wanted m to) e) + 0 = omega arith in same);
  said = λ all c says. joint (IsSaid m all) (givings scope e) (one_giving scope to e) (h.said all tt (left (notes_of m e) (agree_notes m (wanted m to) e) all says)) (said all c, tt);
  many = λ test. both_counted test (givings scope e) (one_giving scope to e) (met_inside test e) (met_by test e) (h.many test) (let same : met_by test e ≡ met_by test e + 0 = omega arith in same);
  arguments = λ test n so le.
      let sum : met_inside test e + met_by test e ≤ n = le in
      joint (IsGivenTo test n) (givings scope e) (one_giving scope to e) (h.arguments test n tt (omega (arith, sum))) (few test n so, tt);
  below = λ all. joint (HasBelow P) (givings scope e) (one_giving scope to e) (h.below all) (all, tt);
  recast = λ c. value_written c scope to e (h.recast c);
}

-- a value that is given to anything but a parameter
plain_value : {P : Expression → Type 0} (m : Assignment) (scope : List Entry) (e : Expression) (to : Receiver) → ((all : List Finding) → SaidTo m all to) → ((test : Expression → Bool) (n : ℕ) → IsArgument test n to e)
    → Told m P (notes_of m e) (λ test. met_inside test e) (expressions e) (givings scope e) (λ c. givings scope (with_cast c e))
    → Told m P (notes_of m e ++ agree_notes m (wanted m to) e) (λ test. met_at test e) (expressions e) (value_givings scope to e) (λ c. value_givings scope (receiver_with c to) (around c (with_cast c e)))
plain_value m scope e to said few h = value_beside m scope e to (λ all c. said all) (λ test n c. few test n) h

-- a call, by its arguments
called : {P : Expression → Type 0} {notes : List Finding} {met : (Expression → Bool) → ℕ} {es : List Expression} {gs : List Giving} {now : Recast → List Giving} {x : Expression}
    (m : Assignment) (s : Span) (f : ℕ) (args : Arguments) → ((test : Expression → Bool) → args_met test args ≤ met test)
    → Beside m P (λ (all : List Finding). SaidTo m all (of_parameter f args zero)) (λ (test : Expression → Bool) (n : ℕ). args_met test args ≤ n) notes met es gs now
    → Told m P (notes ++ call_notes m s (parameters_named m.typed (named_at m.typed f)) args) met (x ∷ es) gs now
called {P} {notes} {met} {es} {gs} {now} {x} m s f args few h =
    let ds : List Declaration = parameters_named m.typed (named_at m.typed f) in
    record {
      agreed = λ t. quiet_behind t notes (call_notes m s ds args) (told_in t m gs) (h.agreed t) (call_quiet t m s ds args);
      said = λ all c says. h.said all (right (unmet_notes m.typed s (first_unmet m ds args ds)) (names_at_call m ds args ds) all (right notes (call_notes m s ds args) all says)) (left notes (call_notes m s ds args) all says);
      many = h.many;
      arguments = λ test n c le.
          let among : args_met test args ≤ met test = few test in
          let most : met test ≤ n = le in
          h.arguments test n (omega (arith, among, most)) le;
      below = λ all. h.below all.1;
      recast = h.recast;
    }

mutual
  inside : {P : Expression → Type 0} (m : Assignment) (scope : List Entry) (e : Expression) → Told m P (notes_of m e) (λ test. met_inside test e) (expressions e) (givings scope e) (λ c. givings scope (with_cast c e))
  inside m scope (parentheses s a) = deeper (inside m scope a)
  inside m scope (call s f all) = called m s f.site.token all (λ test. args_few test all) (inside_all m scope f.site.token all zero all (λ e j is. (j, is)))
  inside m scope (spawn s f a) =
      called m s f.site.token (argument a no_arguments) (λ test. let few : met_by test a + 0 ≤ met_inside test a + met_by test a = omega arith in few)
      (value_beside m scope a (of_parameter f.site.token (argument a no_arguments) zero) (λ all h. h) (λ test n few. (few, zero, refl)) (inside m scope a))
  inside m scope (on_value s w a) = deeper (inside m scope a)
  inside m scope (on_place s w a) = deeper (quiet_after (place_notes m w a) (λ t. place_quiet t m w a) (inside m scope a))
  inside m scope (cast s u a) =
      deeper (quiet_after (cast_notes m.typed u.span u.ctype.base (modes_of m (cast_row m.typed s)) (modes_at m a)) (λ t. cast_quiet t m.typed u.span u.ctype.base (modes_of m (cast_row m.typed s)) (modes_at m a))
      (quiet_after (source_notes m a) (λ t. source_quiet t m a) (inside m scope a)))
  inside m scope (index s a i) = deeper (both (inside m scope a) (inside m scope i))
  inside m scope (field s a w n) =
      let modes : List Sharing = modes_of m (named_row m.typed written (named_at m.typed n.site.token)) in
      deeper (quiet_after (field_notes m.typed s (base_use m.typed w a) modes) (λ t. field_quiet t m.typed s (base_use m.typed w a) modes) (inside m scope a))
  inside m scope (unary s o a) = deeper (inside m scope a)
  inside m scope (binary s o at a b) = deeper (both (inside m scope a) (inside m scope b))
  inside m scope _ = deeper nothing_there

  inside_all : {P : Expression → Type 0} (m : Assignment) (scope : List Entry) (f : ℕ) (args : Arguments) (k : ℕ) (rest : Arguments) → ((e : Expression) (j : ℕ) → nth j rest ≡ Some e → (i : ℕ) × (nth i args ≡ Some e))
      → Beside m P (λ (all : List Finding). SaidTo m all (of_parameter f args zero)) (λ (test : Expression → Bool) (n : ℕ). args_met test args ≤ n)
      (notes_of_all m (parameters_named m.typed (named_at m.typed f)) args (beyond k (parameters_named m.typed (named_at m.typed f))) rest) (λ test. met_inside_all test rest) (in_arguments rest) (all_givings scope f args k rest) (λ c. all_givings scope f (all_with_cast c args) k (all_with_cast c rest))
  inside_all m scope f args k no_arguments among = nothing_there
  inside_all m scope f args k (argument a rest) among =
      both (value_beside m scope a (of_parameter f args k) (λ all h. h) (λ test n few. (few, (among a zero refl).0, (among a zero refl).1)) (inside m scope a))
      (inside_all m scope f args (suc k) rest (λ e j is. among e (suc j) is))

in_test : {P : Expression → Type 0} (m : Assignment) (scope : List Entry) (e : Option Expression) → Told m P (option_notes (notes_of m) e) (λ test. of_option (met_inside test) e) (in_option expressions e) (option_givings (givings scope) e) (λ c. option_givings (givings scope) (option_map (with_cast c) e))
in_test m scope None = nothing_there
in_test m scope (Some e) = inside m scope e

of_right : {P : Expression → Type 0} (m : Assignment) (scope : List Entry) (to : Receiver) → ((all : List Finding) → SaidTo m all to) → ((test : Expression → Bool) (n : ℕ) (e : Expression) → IsArgument test n to e) → (x : Right)
    → Told m P (right_notes m (wanted m to) x) (λ test. met_in_right test x) (in_right x) (right_givings scope to x) (λ c. right_givings scope (receiver_with c to) (right_with_cast c x))
of_right m scope to said few (value e) = plain_value m scope e to said (λ test n. few test n e) (inside m scope e)
of_right m scope to said few (malloc s n t) = in_test m scope n

of_simple : {P : Expression → Type 0} (m : Assignment) (scope : List Entry) (x : Simple) → Told m P (simple_notes m x) (λ test. met_in_simple test x) (in_simple x) (simple_givings scope x) (λ c. simple_givings scope (simple_with_cast c x))
of_simple m scope (assign s u x) = both (quiet_after (write_notes m u) (λ t. write_quiet t m u) (inside m scope u)) (of_right m scope (of_left u) (λ all. tt) (λ test n e. tt) x)
of_simple m scope (does_call e) = inside m scope e

of_initial : {P : Expression → Type 0} (m : Assignment) (scope : List Entry) (token : ℕ) (x : Option Right)
    → Told m P (option_notes (right_notes m (wanted m (of_declared token))) x) (λ test. of_option (met_in_right test) x) (in_option in_right x) (option_givings (right_givings scope (of_declared token)) x) (λ c. option_givings (right_givings scope (of_declared token)) (option_map (right_with_cast c) x))
of_initial m scope token None = nothing_there
of_initial m scope token (Some x) = of_right m scope (of_declared token) (λ all. tt) (λ test n e. tt) x

of_local : {P : Expression → Type 0} (m : Assignment) (scope : List Entry) (l : Local) → Told m P (local_notes m l) (λ test. met_in_local test l) (in_local l) (local_givings scope l) (λ c. local_givings scope (local_with_cast c l))
of_local m scope l = of_initial m (entry_of l.declaration ∷ scope) l.declaration.name.site.token l.initial

of_first : {P : Expression → Type 0} (m : Assignment) (scope : List Entry) (f : First) → Told m P (first_notes m f) (λ test. met_in_first test f) (in_first f) (first_givings scope f) (λ c. first_givings scope (first_with_cast c f))
of_first m scope nothing = nothing_there
of_first m scope (declares l) = of_local m scope l
of_first m scope (does x) = of_simple m scope x

of_step : {P : Expression → Type 0} (m : Assignment) (scope : List Entry) (x : Option Simple) → Told m P (option_notes (simple_notes m) x) (λ test. of_option (met_in_simple test) x) (in_option in_simple x) (option_givings (simple_givings scope) x) (λ c. option_givings (simple_givings scope) (option_map (simple_with_cast c) x))
of_step m scope None = nothing_there
of_step m scope (Some x) = of_simple m scope x

of_head : {P : Expression → Type 0} (m : Assignment) (scope : List Entry) (h : Head) → Told m P (head_notes m h) (λ test. met_in_head test h) (in_head h) (head_givings scope h) (λ c. head_givings scope (head_with_cast c h))
of_head m scope h =
    again (λ c. ap (λ (l : List Entry). first_givings scope (first_with_cast c h.first) ++ option_givings (givings l) (option_map (with_cast c) h.test) ++ option_givings (simple_givings l) (option_map (simple_with_cast c) h.step)) (first_same c scope h.first))
    (both (both (of_first m scope h.first) (in_test m (behind_first scope h.first) h.test)) (of_step m (behind_first scope h.first) h.step))

of_returned : {P : Expression → Type 0} (m : Assignment) (scope : List Entry) (f : ℕ) (e : Option Expression)
    → Told m P (option_notes (return_notes m f) e) (λ test. of_option (met_at test) e) (in_option expressions e) (option_givings (value_givings scope (of_declared f)) e)
    (λ c. option_givings (value_givings scope (of_declared f)) (option_map (λ a. around c (with_cast c a)) e))
of_returned m scope f None = nothing_there
of_returned m scope f (Some e) = plain_value m scope e (of_declared f) (λ all. tt) (λ test n. tt) (inside m scope e)

mutual
  of_statement : {P : Expression → Type 0} (m : Assignment) (scope : List Entry) (f : ℕ) (s : Statement) → Told m P (notes_in m f s) (λ test. met_in_statement test s) (in_statement s) (givings_in scope f s) (λ c. givings_in scope f (statement_with_cast c s))
  of_statement m scope f (tree.block s all) = of_statements m scope f all
  of_statement m scope f (tree.declare s l) = of_local m scope l
  of_statement m scope f (tree.simple s x) = of_simple m scope x
  of_statement m scope f (tree.return s e) = of_returned m scope f e
  of_statement m scope f (tree.if_then s e a) = both (inside m scope e) (of_statement m scope f a)
  of_statement m scope f (tree.if_then_else s e a b) = both (both (inside m scope e) (of_statement m scope f a)) (of_statement m scope f b)
  of_statement m scope f (tree.while s e a) = both (inside m scope e) (of_statement m scope f a)
  of_statement m scope f (tree.for s h a) =
      again (λ c. ap (λ (l : List Entry). head_givings scope (head_with_cast c h) ++ givings_in l f (statement_with_cast c a)) (first_same c scope h.first)) (both (of_head m scope h) (of_statement m (behind_first scope h.first) f a))
  of_statement m scope f _ = nothing_there

  of_statements : {P : Expression → Type 0} (m : Assignment) (scope : List Entry) (f : ℕ) (all : Statements) → Told m P (notes_in_all m f all) (λ test. met_in_statements test all) (in_statements all) (givings_in_all scope f all) (λ c. givings_in_all scope f (statements_with_cast c all))
  of_statements m scope f no_statements = nothing_there
  of_statements m scope f (statement a rest) =
      again (λ c. ap (λ (l : List Entry). givings_in scope f (statement_with_cast c a) ++ givings_in_all l f (statements_with_cast c rest)) (after_same c scope a)) (both (of_statement m scope f a) (of_statements m (after scope a) f rest))

-- ---- of a program

abbrev in_item : Item → List Expression
in_item (structure s) = []
in_item (global g) = []
in_item (function f) = in_function f

abbrev in_items : List Item → List Expression
in_items [] = []
in_items (i ∷ rest) = in_item i ++ in_items rest

of_item : {P : Expression → Type 0} (m : Assignment) (i : Item) → Told m P (item_notes m i) (λ test. met_in_item test i) (in_item i) (item_givings i) (λ c. item_givings (item_with_cast c i))
of_item m (function f) = of_statements m (with_parameters [] f.parameters) f.name.site.token f.statements
of_item m _ = nothing_there

of_items : {P : Expression → Type 0} (m : Assignment) (items : List Item) → Told m P (items_notes m items) (λ test. met_in_items test items) (in_items items) (items_givings items) (λ c. items_givings (map (item_with_cast c) items))
of_items m [] = nothing_there
of_items m (i ∷ rest) = both (of_item m i) (of_items m rest)

abbrev any : Expression → Type 0
any e = Unit {0}

-- ---- so

-- the mismatches reported in a program are those reported of each giving
pub in_program : (t : ℕ) (m : Assignment) (touched : ℕ → Bool) → ones t (notes_about m touched) ≡ told_in t m (items_givings m.typed.program.items)
in_program t m touched =
    let items : List Item = m.typed.program.items in
    let types : List Finding = flat_map (type_notes m) (numbered (entities_in items)) in
    let spawned : List Finding = spawned_notes m 0 (functions_in items) in
    let touches : List Finding = touched_notes touched 0 (globals_in items) in
    quiet_before t (types ++ spawned ++ touches) (items_notes m items) (told_in t m (items_givings items))
    (both_quiet t (types ++ spawned) touches
    (both_quiet t types spawned (types_quiet t m (numbered (entities_in items))) (spawned_quiet t m 0 (functions_in items))) (touched_quiet t touched 0 (globals_in items)))
    ((of_items {P = any} m items).agreed t)

-- the variables that are named by the paths of a call are named by paths of the program
pub calls_said : (m : Assignment) → AllByRecursion (IsSaid m (said_of_paths m)) (items_givings m.typed.program.items)
calls_said m =
    let items : List Item = m.typed.program.items in
    (of_items {P = any} m items).said (said_of_paths m) tt (λ x is. named_right x (flat_map (type_notes m) (numbered (entities_in items))) (items_notes m items) is)

-- how many givings meet a test
pub items_counted : (m : Assignment) (test : Expression → Bool) (items : List Item) → met_in_items test items ≡ counted test (items_givings items)
items_counted m test items = (of_items {P = any} m items).many test

pub statements_counted : (m : Assignment) (test : Expression → Bool) (scope : List Entry) (f : ℕ) (all : Statements) → met_in_statements test all ≡ counted test (givings_in_all scope f all)
statements_counted m test scope f all = (of_statements {P = any} m scope f all).many test

-- with a cast what was given is given, each with the cast round it where it has its tokens
pub items_written : (m : Assignment) (c : Recast) (items : List Item) → items_givings (map (item_with_cast c) items) ≡ givings_with c (items_givings items)
items_written m c items = (of_items {P = any} m items).recast c

-- what is given to a parameter is an argument of its call
pub arguments_in : (m : Assignment) (test : Expression → Bool) (n : ℕ) (items : List Item) → met_in_items test items ≤ n → AllByRecursion (IsGivenTo test n) (items_givings items)
arguments_in m test n items most = (of_items {P = any} m items).arguments test n tt most

-- what holds of all expressions of the functions holds of those that are given, and of all below them
in_functions : (P : Expression → Type 0) (items : List Item) → AllByRecursion (λ (f : Function). AllByRecursion P (in_function f)) (functions_in items) → AllByRecursion P (in_items items)
in_functions P [] h = tt
in_functions P (structure s ∷ rest) h = in_functions P rest h
in_functions P (global g ∷ rest) h = in_functions P rest h
in_functions P (function f ∷ rest) h = joint P (in_function f) (in_items rest) h.0 (in_functions P rest h.1)

pub given_below : (m : Assignment) (P : Expression → Type 0) (items : List Item) → AllByRecursion (λ (f : Function). AllByRecursion P (in_function f)) (functions_in items) → AllByRecursion (HasBelow P) (items_givings items)
given_below m P items h = (of_items m items).below (in_functions P items h)
