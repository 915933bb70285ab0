-- What is given to what in a typed program: the value has a type, and what receives it agrees; the variables in scope
-- are those that their names name.
use Rattle.sharc_suggest_laws.proofs.{Imports.{◌≡◌, ℕ, zero, suc, false, List, [], ◌∷◌, ◌++◌, drop, Option, Some, None, refl, IsTrue, AllByRecursion, Declaration, WrittenType, expressions, in_arguments, in_option, in_right, in_simple, in_first, in_statement, in_statements, in_function, Expression, parentheses, call, spawn, on_value, on_place, cast, index, field, unary, binary, Arguments, no_arguments, argument, Right, value, malloc, Simple, assign, does_call, Local, First, nothing, declares, does, Head, Statement, Statements, no_statements, statement, Function, Item, structure, global, function, agrees, declared_kind, Entry, Named, Role, Entity, declared, result_of, Resolution, functions_in, named_at, kind_at, first_locals, locals_in, locals_in_all, Transfer, IsFair, parameters_named, passed, transfers, argument_transfers, right_transfers, simple_transfers, local_transfers, first_transfers, statement_transfers, statements_transfers, function_transfers, HasType, IsItself, IsFound, beyond, behind_first, after, with_parameters, Receiver, of_declared, of_left, of_parameter, Giving, one_giving, givings, all_givings, option_givings, value_givings, right_givings, simple_givings, local_givings, first_givings, head_givings, givings_in, givings_in_all, item_givings, items_givings, entry_of, front, back, joint}, Holders.{IsCastOf, is_global}}
use Rattle.sharc_tree.specs.Measures.{in_head}
use Rattle.sharc_tree.specs.Tree as tree
use Rattle.sharc_ctype.specs.Transfers as transfer

-- ---- what is known of an expression, of a variable and of what is given

-- it has a type, and if it is a cast it is found by its tokens
abbrev pub IsKnown : Resolution → Expression → Type 0
IsKnown r e = HasType r e (kind_at r e) × IsCastOf (IsFound r) e

abbrev pub AreKnown : Resolution → List Expression → Type 0
AreKnown r es = AllByRecursion (IsKnown r) es

-- a variable in scope
abbrev pub IsOwn : Resolution → Entry → Type 0
IsOwn r e = (d : Declaration) × (e ≡ entry_of d) × IsItself r Named.Variable d

abbrev pub AreOwn : Resolution → List Entry → Type 0
AreOwn r scope = AllByRecursion (IsOwn r) scope

-- the token declares what has this type: a local or the result of a function
abbrev pub Declares : Resolution → ℕ → WrittenType → Type 0
Declares r token w = (e : Entity) × (e.token ≡ token) × (e.last ≡ token) × (e.written ≡ w) × (is_global e.role ≡ false) × IsFound r e

abbrev pub FirstFits : Resolution → List Declaration → Expression → Type 0
FirstFits r [] e = Unit {0}
FirstFits r (d ∷ rest) e = IsTrue (agrees (declared_kind d.written) (kind_at r e))

abbrev AreFair : Resolution → List Transfer → Type 0
AreFair r l = AllByRecursion (IsFair r) l

abbrev pub Receives : Resolution → Receiver → Expression → Type 0
Receives r (of_declared token) e = (w : WrittenType) × Declares r token w × IsTrue (agrees (declared_kind w) (kind_at r e))
Receives r (of_left u) e = AreKnown r (expressions u) × IsTrue (agrees (kind_at r u) (kind_at r e))
Receives r (of_parameter token all k) e = FirstFits r (beyond k (parameters_named r (named_at r token))) e × AllByRecursion (IsFair r) (passed (parameters_named r (named_at r token)) all)

pub record IsWell (r : Resolution) (g : Giving) : Type 0 where
  pub scope : AreOwn r g.scope
  pub given : AreKnown r (expressions g.given)
  pub receives : Receives r g.receiver g.given

abbrev pub AreWell : Resolution → List Giving → Type 0
AreWell r gs = AllByRecursion (IsWell r) gs

-- ---- in expressions

both_well : (r : Resolution) (a b : List Giving) → AreWell r a → AreWell r b → AreWell r (a ++ b)
both_well r a b f g = joint (IsWell r) a b f g

value_well : (r : Resolution) (scope : List Entry) → AreOwn r scope → (to : Receiver) (e : Expression) → AreKnown r (expressions e) → Receives r to e → AreWell r (givings scope e) → AreWell r (value_givings scope to e)
value_well r scope own to e known receives inner = both_well r (givings scope e) (one_giving scope to e) inner (record { scope = own; given = known; receives = receives }, tt)

first_passed : (r : Resolution) (left : List Declaration) (a : Expression) (rest : Arguments) → AreFair r (passed left (argument a rest)) → FirstFits r left a
first_passed r [] a rest fair = tt
first_passed r (d ∷ left) a rest fair = fair.0

later_passed : (r : Resolution) (left : List Declaration) (a : Expression) (rest : Arguments) → AreFair r (passed left (argument a rest)) → AreFair r (passed (drop 1 left) rest)
later_passed r [] a rest fair = tt
later_passed r (d ∷ left) a rest fair = fair.1

mutual
  inside : (r : Resolution) (scope : List Entry) → AreOwn r scope → (e : Expression) → AreKnown r (expressions e) → AreFair r (transfers r e) → AreWell r (givings scope e)
  inside r scope own (parentheses s a) known fair = inside r scope own a known.1 fair
  inside r scope own (call s f all) known fair =
      let ds : List Declaration = parameters_named r (named_at r f.site.token) in
      let whole : AreFair r (passed ds all) = front (IsFair r) (passed ds all) (argument_transfers r all) fair in
      inside_all r scope own f.site.token all whole zero all known.1 whole (back (IsFair r) (passed ds all) (argument_transfers r all) fair)
  inside r scope own (spawn s f a) known fair =
      let ds : List Declaration = parameters_named r (named_at r f.site.token) in
      let one : Arguments = argument a no_arguments in
      let whole : AreFair r (passed ds one) = front (IsFair r) (passed ds one) (transfers r a) fair in
      value_well r scope own (of_parameter f.site.token one zero) a known.1 (first_passed r ds a no_arguments whole, whole) (inside r scope own a known.1 (back (IsFair r) (passed ds one) (transfers r a) fair))
  inside r scope own (on_value s w a) known fair = inside r scope own a known.1 fair
  inside r scope own (on_place s w a) known fair = inside r scope own a known.1 fair
  inside r scope own (cast s t a) known fair = inside r scope own a known.1 fair
  inside r scope own (index s a i) known fair =
      both_well r (givings scope a) (givings scope i) (inside r scope own a (front (IsKnown r) (expressions a) (expressions i) known.1) (front (IsFair r) (transfers r a) (transfers r i) fair))
      (inside r scope own i (back (IsKnown r) (expressions a) (expressions i) known.1) (back (IsFair r) (transfers r a) (transfers r i) fair))
  inside r scope own (field s a w n) known fair = inside r scope own a known.1 fair
  inside r scope own (unary s o a) known fair = inside r scope own a known.1 fair
  inside r scope own (binary s o at a b) known fair =
      both_well r (givings scope a) (givings scope b) (inside r scope own a (front (IsKnown r) (expressions a) (expressions b) known.1) (front (IsFair r) (transfers r a) (transfers r b) fair))
      (inside r scope own b (back (IsKnown r) (expressions a) (expressions b) known.1) (back (IsFair r) (transfers r a) (transfers r b) fair))
  inside r scope own _ known fair = tt

  inside_all : (r : Resolution) (scope : List Entry) → AreOwn r scope → (f : ℕ) (all : Arguments) → AreFair r (passed (parameters_named r (named_at r f)) all) → (k : ℕ) (rest : Arguments) → AreKnown r (in_arguments rest)
      → AreFair r (passed (beyond k (parameters_named r (named_at r f))) rest) → AreFair r (argument_transfers r rest) → AreWell r (all_givings scope f all k rest)
  inside_all r scope own f all whole k no_arguments known fits fair = tt
  inside_all r scope own f all whole k (argument a rest) known fits fair =
      let left : List Declaration = beyond k (parameters_named r (named_at r f)) in
      let here : AreKnown r (expressions a) = front (IsKnown r) (expressions a) (in_arguments rest) known in
      both_well r (value_givings scope (of_parameter f all k) a) (all_givings scope f all (suc k) rest)
      (value_well r scope own (of_parameter f all k) a here (first_passed r left a rest fits, whole) (inside r scope own a here (front (IsFair r) (transfers r a) (argument_transfers r rest) fair)))
      (inside_all r scope own f all whole (suc k) rest (back (IsKnown r) (expressions a) (in_arguments rest) known) (later_passed r left a rest fits) (back (IsFair r) (transfers r a) (argument_transfers r rest) fair))

option_well : (r : Resolution) (scope : List Entry) → AreOwn r scope → (e : Option Expression) → AreKnown r (in_option expressions e) → AreFair r (transfer.in_option (transfers r) e) → AreWell r (option_givings (givings scope) e)
option_well r scope own None known fair = tt
option_well r scope own (Some e) known fair = inside r scope own e known fair

-- ---- in statements

abbrev RightReceived : Resolution → Receiver → Right → Type 0
RightReceived r to (value e) = Receives r to e
RightReceived r to (malloc s n w) = Unit {0}

right_well : (r : Resolution) (scope : List Entry) → AreOwn r scope → (to : Receiver) (x : Right) → AreKnown r (in_right x) → AreFair r (right_transfers r x) → RightReceived r to x → AreWell r (right_givings scope to x)
right_well r scope own to (value e) known fair receives = value_well r scope own to e known receives (inside r scope own e known fair)
right_well r scope own to (malloc s n w) known fair receives = option_well r scope own n known fair

left_received : (r : Resolution) (u : Expression) (x : Right) → AreKnown r (expressions u) → IsFair r (record { receiver = transfer.lvalue u; source = x }) → RightReceived r (of_left u) x
left_received r u (value e) known fair = (known, fair)
left_received r u (malloc s n w) known fair = tt

simple_well : (r : Resolution) (scope : List Entry) → AreOwn r scope → (x : Simple) → AreKnown r (in_simple x) → AreFair r (simple_transfers r x) → AreWell r (simple_givings scope x)
simple_well r scope own (assign s u x) known fair =
    let left : AreKnown r (expressions u) = front (IsKnown r) (expressions u) (in_right x) known in
    let heads = front (IsFair r) (transfer.gives (transfer.lvalue u) x ++ transfers r u) (right_transfers r x) fair in
    both_well r (givings scope u) (right_givings scope (of_left u) x) (inside r scope own u left (back (IsFair r) (transfer.gives (transfer.lvalue u) x) (transfers r u) heads))
    (right_well r scope own (of_left u) x (back (IsKnown r) (expressions u) (in_right x) known) (back (IsFair r) (transfer.gives (transfer.lvalue u) x ++ transfers r u) (right_transfers r x) fair)
    (left_received r u x left (front (IsFair r) (transfer.gives (transfer.lvalue u) x) (transfers r u) heads).0))
simple_well r scope own (does_call e) known fair = inside r scope own e known fair

-- a local is found by its token, and its name names it
abbrev pub IsOwnLocal : Resolution → Declaration → Type 0
IsOwnLocal r d = IsItself r Named.Variable d × IsFound r (declared Role.Local d)

own_entry : (r : Resolution) (scope : List Entry) (d : Declaration) → IsItself r Named.Variable d → AreOwn r scope → AreOwn r (entry_of d ∷ scope)
own_entry r scope d is own = ((d, refl, is), own)

local_well : (r : Resolution) (scope : List Entry) → AreOwn r scope → (l : Local) → IsOwnLocal r l.declaration → AreKnown r (in_option in_right l.initial) → AreFair r (local_transfers r l) → AreWell r (local_givings scope l)
local_well r scope own l is known fair = by l.initial known fair
  where
    d : Declaration
    d = l.declaration

    token : ℕ
    token = d.name.site.token

    inner : List Entry
    inner = entry_of d ∷ scope

    received : (x : Right) → IsFair r (record { receiver = transfer.variable d; source = x }) → RightReceived r (of_declared token) x
    received (value e) agree = (d.written, (declared Role.Local d, refl, refl, refl, refl, is.1), agree)
    received (malloc s n w) agree = tt

    by : (x : Option Right) → AreKnown r (in_option in_right x) → AreFair r (transfer.in_option (λ y. transfer.gives (transfer.variable d) y ++ right_transfers r y) x) → AreWell r (option_givings (right_givings inner (of_declared token)) x)
    by None k f = tt
    by (Some x) k f = right_well r inner (own_entry r scope d is.0 own) (of_declared token) x k f.1 (received x f.0)

first_well : (r : Resolution) (scope : List Entry) → AreOwn r scope → (f : First) → AllByRecursion (IsOwnLocal r) (first_locals f) → AreKnown r (in_first f) → AreFair r (first_transfers r f) → AreWell r (first_givings scope f)
first_well r scope own nothing is known fair = tt
first_well r scope own (declares l) is known fair = local_well r scope own l is.0 known fair
first_well r scope own (does x) is known fair = simple_well r scope own x known fair

step_well : (r : Resolution) (scope : List Entry) → AreOwn r scope → (x : Option Simple) → AreKnown r (in_option in_simple x) → AreFair r (transfer.in_option (simple_transfers r) x) → AreWell r (option_givings (simple_givings scope) x)
step_well r scope own None known fair = tt
step_well r scope own (Some x) known fair = simple_well r scope own x known fair

own_behind : (r : Resolution) (scope : List Entry) → AreOwn r scope → (f : First) → AllByRecursion (IsOwnLocal r) (first_locals f) → AreOwn r (behind_first scope f)
own_behind r scope own (declares l) is = own_entry r scope l.declaration is.0.0 own
own_behind r scope own _ is = own

own_after : (r : Resolution) (scope : List Entry) → AreOwn r scope → (s : Statement) → AllByRecursion (IsOwnLocal r) (locals_in s) → AreOwn r (after scope s)
own_after r scope own (tree.declare s l) is = own_entry r scope l.declaration is.0.0 own
own_after r scope own _ is = own

-- the heads of loops: what is declared, tested and done
head_well : (r : Resolution) (scope : List Entry) → AreOwn r scope → (h : Head) → AllByRecursion (IsOwnLocal r) (first_locals h.first) → AreKnown r (in_head h)
    → AreFair r (first_transfers r h.first ++ transfer.in_option (transfers r) h.test ++ transfer.in_option (simple_transfers r) h.step) → AreWell r (head_givings scope h)
head_well r scope own h is known fair =
    let inner : List Entry = behind_first scope h.first in
    let within : AreOwn r inner = own_behind r scope own h.first is in
    let test : List Expression = in_option expressions h.test in
    let step : List Expression = in_option in_simple h.step in
    let begin = front (IsKnown r) (in_first h.first ++ test) step known in
    let tested : List Transfer = transfer.in_option (transfers r) h.test in
    let stepped : List Transfer = transfer.in_option (simple_transfers r) h.step in
    let fair_begin = front (IsFair r) (first_transfers r h.first ++ tested) stepped fair in
    both_well r (first_givings scope h.first ++ option_givings (givings inner) h.test) (option_givings (simple_givings inner) h.step)
    (both_well r (first_givings scope h.first) (option_givings (givings inner) h.test)
    (first_well r scope own h.first is (front (IsKnown r) (in_first h.first) test begin) (front (IsFair r) (first_transfers r h.first) tested fair_begin))
    (option_well r inner within h.test (back (IsKnown r) (in_first h.first) test begin) (back (IsFair r) (first_transfers r h.first) tested fair_begin)))
    (step_well r inner within h.step (back (IsKnown r) (in_first h.first ++ test) step known) (back (IsFair r) (first_transfers r h.first ++ tested) stepped fair))

returned_well : (r : Resolution) (scope : List Entry) → AreOwn r scope → (f : ℕ) (w : WrittenType) → Declares r f w → (e : Option Expression) → AreKnown r (in_option expressions e)
    → AreFair r (transfer.in_option (λ x. transfer.gives (transfer.result w) (value x) ++ transfers r x) e) → AreWell r (option_givings (value_givings scope (of_declared f)) e)
returned_well r scope own f w declares_it None known fair = tt
returned_well r scope own f w declares_it (Some e) known fair = value_well r scope own (of_declared f) e known (w, declares_it, fair.0) (inside r scope own e known fair.1)

mutual
  statement_well : (r : Resolution) (f : ℕ) (w : WrittenType) → Declares r f w → (scope : List Entry) → AreOwn r scope → (s : Statement) → AllByRecursion (IsOwnLocal r) (locals_in s) → AreKnown r (in_statement s) → AreFair r (statement_transfers r w s)
      → AreWell r (givings_in scope f s)
  statement_well r f w of_result scope own (tree.block s all) is known fair = statements_well r f w of_result scope own all is known fair
  statement_well r f w of_result scope own (tree.declare s l) is known fair = local_well r scope own l is.0 known fair
  statement_well r f w of_result scope own (tree.simple s x) is known fair = simple_well r scope own x known fair
  statement_well r f w of_result scope own (tree.return s e) is known fair = returned_well r scope own f w of_result e known fair
  statement_well r f w of_result scope own (tree.if_then s e a) is known fair =
      both_well r (givings scope e) (givings_in scope f a) (inside r scope own e (front (IsKnown r) (expressions e) (in_statement a) known) (front (IsFair r) (transfers r e) (statement_transfers r w a) fair))
      (statement_well r f w of_result scope own a is (back (IsKnown r) (expressions e) (in_statement a) known) (back (IsFair r) (transfers r e) (statement_transfers r w a) fair))
  statement_well r f w of_result scope own (tree.if_then_else s e a b) is known fair =
      let begin = front (IsKnown r) (expressions e ++ in_statement a) (in_statement b) known in
      let fair_begin = front (IsFair r) (transfers r e ++ statement_transfers r w a) (statement_transfers r w b) fair in
      both_well r (givings scope e ++ givings_in scope f a) (givings_in scope f b)
      (both_well r (givings scope e) (givings_in scope f a) (inside r scope own e (front (IsKnown r) (expressions e) (in_statement a) begin) (front (IsFair r) (transfers r e) (statement_transfers r w a) fair_begin))
      (statement_well r f w of_result scope own a (front (IsOwnLocal r) (locals_in a) (locals_in b) is) (back (IsKnown r) (expressions e) (in_statement a) begin) (back (IsFair r) (transfers r e) (statement_transfers r w a) fair_begin)))
      (statement_well r f w of_result scope own b (back (IsOwnLocal r) (locals_in a) (locals_in b) is) (back (IsKnown r) (expressions e ++ in_statement a) (in_statement b) known)
      (back (IsFair r) (transfers r e ++ statement_transfers r w a) (statement_transfers r w b) fair))
  statement_well r f w of_result scope own (tree.while s e a) is known fair =
      both_well r (givings scope e) (givings_in scope f a) (inside r scope own e (front (IsKnown r) (expressions e) (in_statement a) known) (front (IsFair r) (transfers r e) (statement_transfers r w a) fair))
      (statement_well r f w of_result scope own a is (back (IsKnown r) (expressions e) (in_statement a) known) (back (IsFair r) (transfers r e) (statement_transfers r w a) fair))
  statement_well r f w of_result scope own (tree.for s h a) is known fair =
      let heads : List Transfer = first_transfers r h.first ++ transfer.in_option (transfers r) h.test ++ transfer.in_option (simple_transfers r) h.step in
      let first_is = front (IsOwnLocal r) (first_locals h.first) (locals_in a) is in
      both_well r (head_givings scope h) (givings_in (behind_first scope h.first) f a)
      (head_well r scope own h first_is (front (IsKnown r) (in_head h) (in_statement a) known) (front (IsFair r) heads (statement_transfers r w a) fair))
      (statement_well r f w of_result (behind_first scope h.first) (own_behind r scope own h.first first_is) a (back (IsOwnLocal r) (first_locals h.first) (locals_in a) is) (back (IsKnown r) (in_head h) (in_statement a) known)
      (back (IsFair r) heads (statement_transfers r w a) fair))
  statement_well r f w of_result scope own _ is known fair = tt

  statements_well : (r : Resolution) (f : ℕ) (w : WrittenType) → Declares r f w → (scope : List Entry) → AreOwn r scope → (all : Statements) → AllByRecursion (IsOwnLocal r) (locals_in_all all) → AreKnown r (in_statements all)
      → AreFair r (statements_transfers r w all) → AreWell r (givings_in_all scope f all)
  statements_well r f w of_result scope own no_statements is known fair = tt
  statements_well r f w of_result scope own (statement a rest) is known fair =
      let first_is = front (IsOwnLocal r) (locals_in a) (locals_in_all rest) is in
      both_well r (givings_in scope f a) (givings_in_all (after scope a) f rest)
      (statement_well r f w of_result scope own a first_is (front (IsKnown r) (in_statement a) (in_statements rest) known) (front (IsFair r) (statement_transfers r w a) (statements_transfers r w rest) fair))
      (statements_well r f w of_result (after scope a) (own_after r scope own a first_is) rest (back (IsOwnLocal r) (locals_in a) (locals_in_all rest) is) (back (IsKnown r) (in_statement a) (in_statements rest) known)
      (back (IsFair r) (statement_transfers r w a) (statements_transfers r w rest) fair))

-- ---- in functions

pub record IsWellFunction (r : Resolution) (f : Function) : Type 0 where
  pub result : IsFound r (result_of f)
  pub parameters : AllByRecursion (IsItself r Named.Variable) f.parameters
  pub locals : AllByRecursion (IsOwnLocal r) (locals_in_all f.statements)
  pub known : AreKnown r (in_function f)
  pub fair : AllByRecursion (IsFair r) (function_transfers r f)

own_parameters : (r : Resolution) (scope : List Entry) → AreOwn r scope → (ds : List Declaration) → AllByRecursion (IsItself r Named.Variable) ds → AreOwn r (with_parameters scope ds)
own_parameters r scope own [] is = own
own_parameters r scope own (d ∷ rest) is = own_parameters r (entry_of d ∷ scope) (own_entry r scope d is.0 own) rest is.1

pub givings_well : (r : Resolution) (items : List Item) → AllByRecursion (IsWellFunction r) (functions_in items) → AreWell r (items_givings items)
givings_well r [] h = tt
givings_well r (structure s ∷ rest) h = givings_well r rest h
givings_well r (global g ∷ rest) h = givings_well r rest h
givings_well r (function f ∷ rest) h =
    both_well r (item_givings (function f)) (items_givings rest)
    (statements_well r f.name.site.token f.result (result_of f, refl, refl, refl, refl, h.0.result) (with_parameters [] f.parameters) (own_parameters r [] tt f.parameters h.0.parameters) f.statements h.0.locals h.0.known h.0.fair)
    (givings_well r rest h.1)
