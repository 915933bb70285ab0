-- What receives a value comes before it, and a left side has a type by names that name what they named.
use Rattle.sharc_suggest_laws.proofs.{Imports.{◌≡◌, ◌⊎◌, inl, inr, ℕ, zero, suc, ◌+◌, ◌<◌, ◌≤◌, Bool, true, false, cond, List, [], ◌∷◌, ◌++◌, length, Option, Some, None, IfSome, refl, ap, subst, ◌∙◌, arith, AllByRecursion, Span, expressions, in_option, in_simple, Follow, option_spans, Placed, PlacedSimple, PlacedLocal, PlacedFirst, PlacedStatement, PlacedStatements, PlacedItem, PlacedItems, span_of, span_of_right, Expression, parentheses, call, spawn, on_value, on_place, cast, index, field, unary, binary, Arguments, no_arguments, argument, Right, value, malloc, Simple, assign, does_call, Local, First, nothing, declares, does, Statement, Statements, no_statements, statement, Function, Item, structure, global, function, FaultCode, NoLvalue, Value, Scope, Kind, declared_kind, Entry, place, met, unmet, Note, fault_unless, type_notes, Role, AsLvalue, is_place, place_kind, place_notes, type_of, notes_at, in_body, item_notes, items_notes, function_notes, parameters_notes, Resolution, kind_at, functions_in, Around, opened, looping, with_names, test_notes, right_notes, simple_notes, first_notes, tests_notes, step_notes, in_head, head_notes, notes_in, notes_in_all, locals_in_all, Placing, at, places_in_first, places_in, places_in_all, places_of, places_of_all, entry_of, Receiver, of_declared, of_left, of_parameter, Giving, one_giving, givings, all_givings, option_givings, value_givings, right_givings, simple_givings, local_givings, first_givings, head_givings, givings_in, givings_in_all, item_givings, items_givings, met_in_statements, begins_at, front, back, joint}, Apart.{body_bounds, all_begin, parts_of}, Counted.counted, Beside.statements_counted, Strong.{IsStrong, AreStrong}}
use Rattle.sharc_tree.specs.Tree as tree
use Rattle.sharc_names.specs.Kinds as kinds
use Rattle.sharc_ctype.specs.{Items.beyond, Statements.{behind_first, after}}
use Rattle.sharc_suggest.specs.Givings as scopes

-- ---- a left side

abbrev pub IsTypedIn : Resolution → Scope → Expression → Type 0
IsTypedIn r scope e = type_of scope e ≡ Some (kind_at r e)

abbrev pub is_function : Kind → Bool
is_function kinds.function = true
is_function _ = false

-- it comes before the value, and each expression in it has its type, by notes that are strong
pub record IsLeft (r now : Resolution) (u e : Expression) : Type 0 where
  pub scope : Scope
  pub before : (span_of u).last.token < (span_of e).first.token
  pub placed : Placed r.program.tokens.list u
  pub typed : AllByRecursion (IsTypedIn r scope) (expressions u)
  pub strong : AreStrong r now (notes_at AsLvalue scope u)
  pub held : is_function (kind_at r u) ≡ false

no_fault : (r now : Resolution) (b : Bool) (at : ℕ) (code : FaultCode) → AreStrong r now (fault_unless b at code) → b ≡ true
no_fault r now true at code h = refl
no_fault r now false at code h = absurd h.0

fit_by : (r now : Resolution) (u : Expression) (k : Kind) → AreStrong r now (unmet Value u (Some k)) → is_function k ≡ false
fit_by r now u kinds.function h = absurd h.0
fit_by r now u _ h = refl

itself : (r : Resolution) (scope : Scope) (u : Expression) → AllByRecursion (IsTypedIn r scope) (expressions u) → IsTypedIn r scope u
itself r scope (cast s t a) h = h.0
itself r scope (binary s o at a b) h = h.0
itself r scope _ h = h.0

pub typed_itself : (r : Resolution) (scope : Scope) (u : Expression) → AllByRecursion (IsTypedIn r scope) (expressions u) → type_of scope u ≡ Some (kind_at r u)
typed_itself r scope u h = itself r scope u h

held_by : (r now : Resolution) (scope : Scope) (u : Expression) → AllByRecursion (IsTypedIn r scope) (expressions u) → AreStrong r now (place_notes scope.names u) → AreStrong r now (unmet Value u (place_kind scope.names u (type_of scope u))) → is_function (kind_at r u) ≡ false
held_by r now scope u typed stands unmet_so =
    let there : is_place scope.names u ≡ true = no_fault r now (is_place scope.names u) (place u) NoLvalue stands in
    let kind : place_kind scope.names u (type_of scope u) ≡ Some (kind_at r u) = ap (λ (b : Bool). cond b (type_of scope u) None) there ∙ itself r scope u typed in
    fit_by r now u (kind_at r u) (subst (λ (k : Option Kind). AreStrong r now (unmet Value u k)) kind unmet_so)

-- ---- what receives: a local's own name, or that of the function; a left side; or a parameter

abbrev pub Receives : Resolution → Resolution → ℕ → Receiver → Expression → Type 0
Receives r now f (of_declared token) e = (token ≡ f) ⊎ (token < (span_of e).first.token)
Receives r now f (of_left u) e = IsLeft r now u e
Receives r now f (of_parameter g args k) e = Unit {0}

abbrev IsReceived : Resolution → Resolution → ℕ → Giving → Type 0
IsReceived r now f g = Receives r now f g.receiver g.given

abbrev AreReceived : Resolution → Resolution → ℕ → List Giving → Type 0
AreReceived r now f gs = AllByRecursion (IsReceived r now f) gs

mutual
  plain : (r now : Resolution) (f : ℕ) (scope : List Entry) (e : Expression) → AreReceived r now f (givings scope e)
  plain r now f scope (parentheses s a) = plain r now f scope a
  plain r now f scope (call s g all) = plain_all r now f scope g.site.token all zero all
  plain r now f scope (spawn s g a) = joint (IsReceived r now f) (givings scope a) (one_giving scope (of_parameter g.site.token (argument a no_arguments) zero) a) (plain r now f scope a) (tt, tt)
  plain r now f scope (on_value s w a) = plain r now f scope a
  plain r now f scope (on_place s w a) = plain r now f scope a
  plain r now f scope (cast s t a) = plain r now f scope a
  plain r now f scope (index s a i) = joint (IsReceived r now f) (givings scope a) (givings scope i) (plain r now f scope a) (plain r now f scope i)
  plain r now f scope (field s a w n) = plain r now f scope a
  plain r now f scope (unary s o a) = plain r now f scope a
  plain r now f scope (binary s o at a b) = joint (IsReceived r now f) (givings scope a) (givings scope b) (plain r now f scope a) (plain r now f scope b)
  plain r now f scope _ = tt

  plain_all : (r now : Resolution) (f : ℕ) (scope : List Entry) (g : ℕ) (all : Arguments) (k : ℕ) (rest : Arguments) → AreReceived r now f (all_givings scope g all k rest)
  plain_all r now f scope g all k no_arguments = tt
  plain_all r now f scope g all k (argument a rest) =
      joint (IsReceived r now f) (value_givings scope (of_parameter g all k) a) (all_givings scope g all (suc k) rest)
      (joint (IsReceived r now f) (givings scope a) (one_giving scope (of_parameter g all k) a) (plain r now f scope a) (tt, tt)) (plain_all r now f scope g all (suc k) rest)

plain_option : (r now : Resolution) (f : ℕ) (scope : List Entry) (e : Option Expression) → AreReceived r now f (option_givings (givings scope) e)
plain_option r now f scope None = tt
plain_option r now f scope (Some e) = plain r now f scope e

in_value : (r now : Resolution) (f : ℕ) (scope : List Entry) (to : Receiver) (e : Expression) → Receives r now f to e → AreReceived r now f (value_givings scope to e)
in_value r now f scope to e h = joint (IsReceived r now f) (givings scope e) (one_giving scope to e) (plain r now f scope e) (h, tt)

pub unplaced : (r : Resolution) (scope : Scope) (list : List Expression) → AllByRecursion (λ (p : Placing). IsTypedIn r p.scope p.expression) (at scope list) → AllByRecursion (IsTypedIn r scope) list
unplaced r scope [] h = tt
unplaced r scope (e ∷ rest) h = (h.0, unplaced r scope rest h.1)

abbrev AreTyped : Resolution → List Placing → Type 0
AreTyped r ps = AllByRecursion (λ (p : Placing). IsTypedIn r p.scope p.expression) ps

in_assigned : (r now : Resolution) (f : ℕ) (σ : Scope) (scope : List Entry) (s : Span) (u : Expression) (x : Right) → PlacedSimple r.program.tokens.list (assign s u x) → AreTyped r (at σ (in_simple (assign s u x))) → AreStrong r now (simple_notes σ (assign s u x))
    → AreReceived r now f (right_givings scope (of_left u) x)
in_assigned r now f σ scope s u (malloc t n w) placed typed strong = plain_option r now f scope n
in_assigned r now f σ scope s u (value e) placed typed strong =
    let heads = front (IsStrong r now) (notes_at AsLvalue σ u ++ place_notes σ.names u ++ unmet Value u (place_kind σ.names u (type_of σ u))) (right_notes σ (met Value (place_kind σ.names u (type_of σ u))) (value e)) strong in
    let begin = front (IsStrong r now) (notes_at AsLvalue σ u ++ place_notes σ.names u) (unmet Value u (place_kind σ.names u (type_of σ u))) heads in
    let all : AllByRecursion (IsTypedIn r σ) (expressions u) = front (IsTypedIn r σ) (expressions u) (expressions e) (unplaced r σ (expressions u ++ expressions e) typed) in
    in_value r now f scope (of_left u) e (record {
      scope = σ;
      before = omega (arith, placed.0.1.3.1);
      placed = placed.1;
      typed = all;
      strong = front (IsStrong r now) (notes_at AsLvalue σ u) (place_notes σ.names u) begin;
      held = held_by r now σ u all (back (IsStrong r now) (notes_at AsLvalue σ u) (place_notes σ.names u) begin)
          (back (IsStrong r now) (notes_at AsLvalue σ u ++ place_notes σ.names u) (unmet Value u (place_kind σ.names u (type_of σ u))) heads);
    })

in_simple_statement : (r now : Resolution) (f : ℕ) (σ : Scope) (scope : List Entry) (x : Simple) → PlacedSimple r.program.tokens.list x → AreTyped r (at σ (in_simple x)) → AreStrong r now (simple_notes σ x) → AreReceived r now f (simple_givings scope x)
in_simple_statement r now f σ scope (assign s u x) placed typed strong =
    joint (IsReceived r now f) (givings scope u) (right_givings scope (of_left u) x) (plain r now f scope u) (in_assigned r now f σ scope s u x placed typed strong)
in_simple_statement r now f σ scope (does_call e) placed typed strong = plain r now f scope e

in_local : (r now : Resolution) (f : ℕ) (scope : List Entry) (l : Local) → PlacedLocal r.program.tokens.list l → AreReceived r now f (local_givings scope l)
in_local r now f scope l placed = by l.initial placed.0.1
  where
    inner : List Entry
    inner = entry_of l.declaration ∷ scope

    token : ℕ
    token = l.declaration.name.site.token

    within : token < l.declaration.span.last.token + 1
    within = placed.1.0.1.3.2

    by : (x : Option Right) → Follow r.program.tokens.list l.span.first.token (l.span.last.token + 1) (l.declaration.span ∷ option_spans span_of_right x) → AreReceived r now f (option_givings (right_givings inner (of_declared token)) x)
    by None follow = tt
    by (Some (malloc s n w)) follow = plain_option r now f inner n
    by (Some (value e)) follow =
        in_value r now f inner (of_declared token) e (inr (omega (arith, within, follow.3.1)))

in_first : (r now : Resolution) (f : ℕ) (around : Around) (σ : Scope) (scope : List Entry) (x : First) → PlacedFirst r.program.tokens.list x → AreTyped r (places_in_first around σ x) → AreStrong r now (first_notes around σ x) → AreReceived r now f (first_givings scope x)
in_first r now f around σ scope nothing placed typed strong = tt
in_first r now f around σ scope (declares l) placed typed strong = in_local r now f scope l placed
in_first r now f around σ scope (does x) placed typed strong = in_simple_statement r now f σ scope x placed typed strong

in_step : (r now : Resolution) (f : ℕ) (σ : Scope) (scope : List Entry) (x : Option Simple) → IfSome x (PlacedSimple r.program.tokens.list) → AllByRecursion (IsTypedIn r σ) (in_option in_simple x) → AreStrong r now (step_notes σ x)
    → AreReceived r now f (option_givings (simple_givings scope) x)
in_step r now f σ scope None placed typed strong = tt
in_step r now f σ scope (Some x) placed typed strong = in_simple_statement r now f σ scope x placed (replaced r σ (in_simple x) typed) strong
  where
    replaced : (r : Resolution) (σ : Scope) (list : List Expression) → AllByRecursion (IsTypedIn r σ) list → AreTyped r (at σ list)
    replaced r σ [] h = tt
    replaced r σ (e ∷ rest) h = (h.0, replaced r σ rest h.1)

in_returned : (r now : Resolution) (f : ℕ) (scope : List Entry) (e : Option Expression) → AreReceived r now f (option_givings (value_givings scope (of_declared f)) e)
in_returned r now f scope None = tt
in_returned r now f scope (Some e) = in_value r now f scope (of_declared f) e (inl refl)

mutual
  in_statement : (r now : Resolution) (f : ℕ) (around : Around) (σ : Scope) (scope : List Entry) (s : Statement) → PlacedStatement r.program.tokens.list s → AreTyped r (places_in around σ s) → AreStrong r now (notes_in around σ s) → AreReceived r now f (givings_in scope f s)
  in_statement r now f around σ scope (tree.block s all) placed typed strong = in_statements r now f (opened around σ.names) σ scope all placed.1 typed strong
  in_statement r now f around σ scope (tree.declare s l) placed typed strong = in_local r now f scope l placed.1
  in_statement r now f around σ scope (tree.simple s x) placed typed strong = in_simple_statement r now f σ scope x placed.1 typed strong
  in_statement r now f around σ scope (tree.return s e) placed typed strong = in_returned r now f scope e
  in_statement r now f around σ scope (tree.if_then s e a) placed typed strong =
      joint (IsReceived r now f) (givings scope e) (givings_in scope f a) (plain r now f scope e)
      (in_statement r now f (opened around σ.names) σ scope a placed.2 (back (λ (p : Placing). IsTypedIn r p.scope p.expression) (at σ (expressions e)) (places_in (opened around σ.names) σ a) typed)
      (back (IsStrong r now) (test_notes σ e) (notes_in (opened around σ.names) σ a) strong))
  in_statement r now f around σ scope (tree.if_then_else s e a b) placed typed strong =
      let inner : Around = opened around σ.names in
      let first_typed = front (λ (p : Placing). IsTypedIn r p.scope p.expression) (at σ (expressions e) ++ places_in inner σ a) (places_in inner σ b) typed in
      let first_strong = front (IsStrong r now) (test_notes σ e ++ notes_in inner σ a) (notes_in inner σ b) strong in
      joint (IsReceived r now f) (givings scope e ++ givings_in scope f a) (givings_in scope f b)
      (joint (IsReceived r now f) (givings scope e) (givings_in scope f a) (plain r now f scope e)
      (in_statement r now f inner σ scope a placed.2 (back (λ (p : Placing). IsTypedIn r p.scope p.expression) (at σ (expressions e)) (places_in inner σ a) first_typed)
      (back (IsStrong r now) (test_notes σ e) (notes_in inner σ a) first_strong)))
      (in_statement r now f inner σ scope b placed.3 (back (λ (p : Placing). IsTypedIn r p.scope p.expression) (at σ (expressions e) ++ places_in inner σ a) (places_in inner σ b) typed)
      (back (IsStrong r now) (test_notes σ e ++ notes_in inner σ a) (notes_in inner σ b) strong))
  in_statement r now f around σ scope (tree.while s e a) placed typed strong =
      let inner : Around = looping (opened around σ.names) in
      joint (IsReceived r now f) (givings scope e) (givings_in scope f a) (plain r now f scope e)
      (in_statement r now f inner σ scope a placed.2 (back (λ (p : Placing). IsTypedIn r p.scope p.expression) (at σ (expressions e)) (places_in inner σ a) typed)
      (back (IsStrong r now) (test_notes σ e) (notes_in inner σ a) strong))
  in_statement r now f around σ scope (tree.for s h a) placed typed strong =
      let outer : Around = opened around σ.names in
      let inner : Scope = in_head outer σ h in
      let body : Around = looping (opened outer (behind_first outer σ.names h.first)) in
      let below : List Entry = scopes.behind_first scope h.first in
      let begins = places_in_first outer σ h.first in
      let later = in_option expressions h.test ++ in_option in_simple h.step in
      let head_typed = front (λ (p : Placing). IsTypedIn r p.scope p.expression) (begins ++ at inner later) (places_in body inner a) typed in
      let rest_typed : AllByRecursion (IsTypedIn r inner) later = unplaced r inner later (back (λ (p : Placing). IsTypedIn r p.scope p.expression) begins (at inner later) head_typed) in
      let head_strong = front (IsStrong r now) (head_notes outer σ h) (notes_in body inner a) strong in
      let first_strong = front (IsStrong r now) (first_notes outer σ h.first ++ tests_notes inner h.test) (step_notes inner h.step) head_strong in
      joint (IsReceived r now f) (head_givings scope h) (givings_in below f a)
      (joint (IsReceived r now f) (first_givings scope h.first ++ option_givings (givings below) h.test) (option_givings (simple_givings below) h.step)
      (joint (IsReceived r now f) (first_givings scope h.first) (option_givings (givings below) h.test)
      (in_first r now f outer σ scope h.first placed.1.0 (front (λ (p : Placing). IsTypedIn r p.scope p.expression) begins (at inner later) head_typed)
      (front (IsStrong r now) (first_notes outer σ h.first) (tests_notes inner h.test) first_strong))
      (plain_option r now f below h.test))
      (in_step r now f inner below h.step placed.1.2 (back (IsTypedIn r inner) (in_option expressions h.test) (in_option in_simple h.step) rest_typed)
      (back (IsStrong r now) (first_notes outer σ h.first ++ tests_notes inner h.test) (step_notes inner h.step) head_strong)))
      (in_statement r now f body inner below a placed.2 (back (λ (p : Placing). IsTypedIn r p.scope p.expression) (begins ++ at inner later) (places_in body inner a) typed)
      (back (IsStrong r now) (head_notes outer σ h) (notes_in body inner a) strong))
  in_statement r now f around σ scope _ placed typed strong = tt

  in_statements : (r now : Resolution) (f : ℕ) (around : Around) (σ : Scope) (scope : List Entry) (all : Statements) → PlacedStatements r.program.tokens.list all → AreTyped r (places_in_all around σ all) → AreStrong r now (notes_in_all around σ all)
      → AreReceived r now f (givings_in_all scope f all)
  in_statements r now f around σ scope no_statements placed typed strong = tt
  in_statements r now f around σ scope (statement a rest) placed typed strong =
      let inner : Scope = with_names σ (after around σ.names a) in
      joint (IsReceived r now f) (givings_in scope f a) (givings_in_all (scopes.after scope a) f rest)
      (in_statement r now f around σ scope a placed.0 (front (λ (p : Placing). IsTypedIn r p.scope p.expression) (places_in around σ a) (places_in_all around inner rest) typed)
      (front (IsStrong r now) (notes_in around σ a) (notes_in_all around inner rest) strong))
      (in_statements r now f around inner (scopes.after scope a) rest placed.1 (back (λ (p : Placing). IsTypedIn r p.scope p.expression) (places_in around σ a) (places_in_all around inner rest) typed)
      (back (IsStrong r now) (notes_in around σ a) (notes_in_all around inner rest) strong))

-- ---- so in each function, where all that is given begins after the name of the function

abbrev pub Stands : Resolution → Resolution → Receiver → Expression → Type 0
Stands r now (of_declared token) e = token < (span_of e).first.token
Stands r now (of_left u) e = IsLeft r now u e
Stands r now (of_parameter g args k) e = Unit {0}

abbrev pub IsBehind : Resolution → Resolution → Giving → Type 0
IsBehind r now g = Stands r now g.receiver g.given

behind_by : (r now : Resolution) (f low : ℕ) (to : Receiver) (e : Expression) → f < low → low ≤ (span_of e).first.token → Receives r now f to e → Stands r now to e
behind_by r now f low (of_declared token) e below begins (inl same) = omega (arith, same, below, begins)
behind_by r now f low (of_declared token) e below begins (inr less) = less
behind_by r now f low (of_left u) e below begins h = h
behind_by r now f low (of_parameter g args k) e below begins h = tt

behind_all : (r now : Resolution) (f low : ℕ) (gs : List Giving) → f < low → AllByRecursion (λ (g : Giving). low ≤ (span_of g.given).first.token) gs → AreReceived r now f gs → AllByRecursion (IsBehind r now) gs
behind_all r now f low [] below begins h = tt
behind_all r now f low (g ∷ rest) below begins h = (behind_by r now f low g.receiver g.given below begins.0 h.0, behind_all r now f low rest below begins.1 h.1)

in_function : (r now : Resolution) (file : Scope) (f : Function) → PlacedItem r.program.tokens.list (function f) → AreTyped r (places_of file f) → AreStrong r now (function_notes file f) → AllByRecursion (IsBehind r now) (item_givings (function f))
in_function r now file f placed typed strong =
    let around : Around = record { result = declared_kind f.result; in_loop = false; block = length file.names } in
    let scope : List Entry = scopes.with_parameters [] f.parameters in
    let token : ℕ = f.name.site.token in
    let gs : List Giving = givings_in_all scope token f.statements in
    let heads : List Note = type_notes file [] Role.Result f.result ++ parameters_notes (length file.names) 0 file f.parameters in
    let inner : AreStrong r now (notes_in_all around (in_body file f) f.statements) =
    back (IsStrong r now) heads (notes_in_all around (in_body file f) f.statements)
    (front (IsStrong r now) (heads ++ notes_in_all around (in_body file f) f.statements) (beyond 200 (locals_in_all f.statements)) strong) in
    let low : AllByRecursion (λ (g : Giving). f.body.first.token ≤ (span_of g.given).first.token) gs =
    all_begin f.body.first.token gs (λ t some.
    let many : met_in_statements (begins_at t) f.statements ≡ counted (begins_at t) gs = statements_counted (record { typed = r; modes = []; reasons = [] }) (begins_at t) scope token f.statements in
    (body_bounds r.program.tokens.list f placed t (omega (arith, many, some))).0) in
    behind_all r now token f.body.first.token gs (parts_of r.program.tokens.list f placed).named low (in_statements r now token around (in_body file f) scope f.statements placed.5 typed inner)

pub in_items : (r now : Resolution) (file : Scope) (items : List Item) → PlacedItems r.program.tokens.list items → AreTyped r (places_of_all file (functions_in items)) → AreStrong r now (items_notes file items) → AllByRecursion (IsBehind r now) (items_givings items)
in_items r now file [] placed typed strong = tt
in_items r now file (structure s ∷ rest) placed typed strong = in_items r now file rest placed.1 typed (back (IsStrong r now) (item_notes file (structure s)) (items_notes file rest) strong)
in_items r now file (global g ∷ rest) placed typed strong = in_items r now file rest placed.1 typed (back (IsStrong r now) (item_notes file (global g)) (items_notes file rest) strong)
in_items r now file (function f ∷ rest) placed typed strong =
    joint (IsBehind r now) (item_givings (function f)) (items_givings rest)
    (in_function r now file f placed.0 (front (λ (p : Placing). IsTypedIn r p.scope p.expression) (places_of file f) (places_of_all file (functions_in rest)) typed) (front (IsStrong r now) (item_notes file (function f)) (items_notes file rest) strong))
    (in_items r now file rest placed.1 (back (λ (p : Placing). IsTypedIn r p.scope p.expression) (places_of file f) (places_of_all file (functions_in rest)) typed) (back (IsStrong r now) (item_notes file (function f)) (items_notes file rest) strong))
