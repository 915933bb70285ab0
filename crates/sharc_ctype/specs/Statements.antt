-- The faults of statements (C11 6.8), and the names that a block declares (6.2.1).
use Rattle.std.specs.Prelude.{ℕ, ◌+◌, ◌==◌, Bool, true, false, not, ◌||◌, List, [], ◌∷◌, ◌++◌, length, Option, Some}
use Rattle.std.specs.Prelude.{None, if◌then◌else◌}
use Rattle.sharc_tree.specs.declared.tree.declaration.Declaration.{Declaration}
use Rattle.sharc_tree.specs.declared.tree.declaration.WrittenType.{WrittenType}
use Rattle.sharc_tree.specs.Tree.{Expression, Right, value, malloc, Simple, assign, does_call, Local, First, nothing}
use Rattle.sharc_tree.specs.Tree.{declares, does, Head, Statement, empty, block, declare, simple, jump, return, if_then}
use Rattle.sharc_tree.specs.Tree.{if_then_else, while, for, Statements, no_statements, statement}
use Rattle.sharc_names.specs.declared.need.Need.TheVariants.{Value, Integer}
use Rattle.sharc_names.specs.declared.fault.FaultCode.TheVariants.{DefinedTwice, TypeMismatch, BadForm}
use Rattle.sharc_names.specs.{declared.fault.Named.TheVariants.Variable, declared.scope.Scope.Scope}
use Rattle.sharc_names.specs.Kinds.{Kind, object, void, mutex, same_kind, declared_kind, stars_of, is_struct_behind}
use Rattle.sharc_names.specs.{Names.{Entry, variable, look_up}, Notes.{Note, refers, fault_unless, fault_where}}
use Rattle.sharc_names.specs.{Needs.{met, unmet, unagreed}, Types.{type_notes, is_fine}}
use Rattle.sharc_names.specs.declared.types.Role.TheVariants as role
use Rattle.sharc_ctype.specs.declared.expr.Standing.TheVariants.{AsLvalue}
use Rattle.sharc_ctype.specs.Expressions.{type_of, notes_at, notes_of, place_kind, place_notes}

-- where a statement is: the function's result, whether a loop is around it, and how many names were in scope where the
-- block begins
pub record Around : Type 0 where
  pub result : Kind
  pub in_loop : Bool
  pub block : ℕ

-- 6.8.2, 6.8.4p3 and 6.8.5p5: blocks, and the parts of `if`, `while` and `for`, are scopes of their own
abbrev pub opened : Around → List Entry → Around
opened around scope = record { result = around.result; in_loop = around.in_loop; block = length scope }

abbrev pub looping : Around → Around
looping around = record { result = around.result; in_loop = true; block = around.block }

abbrev pub with_names : Scope → List Entry → Scope
with_names scope names = record { structs = scope.structs; names = names }

-- whether the name is declared in this block already
abbrev pub in_block : ℕ → Option Entry → Bool
in_block from None = false
in_block from (Some e) = e.block == from

abbrev pub is_here : ℕ → List Entry → Declaration → Bool
is_here from scope d = in_block from (look_up scope d.name.text)

-- the names with a variable more; of two in one block the first stays
abbrev pub declared : ℕ → Declaration → List Entry → List Entry
declared from d scope =
    if is_here from scope d then scope else record { name = d.name.text; block = from; meaning = variable d } ∷ scope

-- 6.7p3
abbrev pub declared_notes : ℕ → Declaration → List Entry → List Note
declared_notes from d scope = refers d.name.site.token (Variable d.name.site.token)
    ∷ fault_where (is_here from scope d) d.name.site.token DefinedTwice

-- 6.8.4.1p1 and 6.8.5p2: a condition
abbrev pub test_notes : Scope → Expression → List Note
test_notes scope e = notes_of scope e ++ unmet Value e (type_of scope e)

-- own: `malloc` takes an integer times the size of a type

abbrev pub count_notes : Scope → Option Expression → List Note
count_notes scope None = []
count_notes scope (Some e) = notes_of scope e ++ unmet Integer e (type_of scope e)

-- what it gives: a pointer to its type
abbrev pub made : WrittenType → Kind
made w = object w.ctype.base (stars_of w + 1)

abbrev pub is_made : Option Kind → WrittenType → Bool
is_made None w = true
is_made (Some want) w = same_kind want (made w)

-- 6.5.16.1: the right side of `=`, where the left side wants a kind, if it has one. What `malloc` gives is determined
-- by its type alone, whatever its count is
abbrev pub right_notes : Scope → Option Kind → Right → List Note
right_notes scope want (value e) =
    notes_of scope e ++ unmet Value e (type_of scope e) ++ unagreed want e (met Value (type_of scope e))
right_notes scope want (malloc s n w) = count_notes scope n ++ type_notes scope [] role.Made w
    ++ fault_unless (is_made want w || not (is_fine scope.structs role.Made w)) s.first.token TypeMismatch

-- 6.5.16p2: the left side is an lvalue; it has an integer or a pointer
abbrev pub simple_notes : Scope → Simple → List Note
simple_notes scope (assign s u r) = notes_at AsLvalue scope u ++ place_notes scope.names u
    ++ unmet Value u (place_kind scope.names u (type_of scope u))
    ++ right_notes scope (met Value (place_kind scope.names u (type_of scope u))) r
simple_notes scope (does_call e) = notes_of scope e

-- 6.7.9: an initialiser. A struct or a mutex has none (SharC's own rule)

abbrev pub is_aggregate : Kind → Bool
is_aggregate k = is_struct_behind 0 k || same_kind k mutex

abbrev pub wanted_by : Bool → WrittenType → Option Kind
wanted_by fine w = if fine then Some (declared_kind w) else None

abbrev pub initial_notes : Scope → Declaration → Option Right → List Note
initial_notes scope d None = []
initial_notes scope d (Some r) = fault_where (is_aggregate (declared_kind d.written)) d.name.site.token BadForm
    ++ right_notes scope (wanted_by (is_fine scope.structs role.Local d.written) d.written) r

-- 6.2.1p7: a local is in scope after its declarator, in its initialiser too
abbrev pub local_notes : Around → Scope → Local → List Note
local_notes around scope l =
    type_notes scope [] role.Local l.declaration.written ++ declared_notes around.block l.declaration scope.names
    ++ initial_notes (with_names scope (declared around.block l.declaration scope.names)) l.declaration l.initial

-- 6.8.6.4: a function returns a value exactly where its result is not void
abbrev pub returned_as : Kind → Option Kind
returned_as result = if same_kind result void then None else Some result

abbrev pub return_notes : Around → Scope → ℕ → Option Expression → List Note
return_notes around scope word None = fault_unless (same_kind around.result void) word BadForm
return_notes around scope word (Some e) = fault_where (same_kind around.result void) word BadForm
    ++ notes_of scope e ++ unmet Value e (type_of scope e)
    ++ unagreed (returned_as around.result) e (met Value (type_of scope e))

-- 6.8.5.3: the head of a `for`. What it declares is in scope in the rest of the head and in the body

abbrev pub first_notes : Around → Scope → First → List Note
first_notes around scope nothing = []
first_notes around scope (declares l) = local_notes around scope l
first_notes around scope (does x) = simple_notes scope x

abbrev pub behind_first : Around → List Entry → First → List Entry
behind_first around scope nothing = scope
behind_first around scope (declares l) = declared around.block l.declaration scope
behind_first around scope (does x) = scope

abbrev pub tests_notes : Scope → Option Expression → List Note
tests_notes scope None = []
tests_notes scope (Some e) = test_notes scope e

abbrev pub step_notes : Scope → Option Simple → List Note
step_notes scope None = []
step_notes scope (Some x) = simple_notes scope x

abbrev pub in_head : Around → Scope → Head → Scope
in_head around scope h = with_names scope (behind_first around scope.names h.first)

abbrev pub head_notes : Around → Scope → Head → List Note
head_notes around scope h = first_notes around scope h.first ++ tests_notes (in_head around scope h) h.test
    ++ step_notes (in_head around scope h) h.step

-- of a statement that has no other in it and declares nothing
abbrev pub plain_notes : Around → Scope → Statement → List Note
plain_notes around scope (simple s x) = simple_notes scope x
plain_notes around scope (jump s j) = fault_unless around.in_loop s.first.token BadForm
plain_notes around scope (return s e) = return_notes around scope s.first.token e
plain_notes around scope _ = []

-- the names in scope after a statement
abbrev pub after : Around → List Entry → Statement → List Entry
after around scope (empty s) = scope
after around scope (block s all) = scope
after around scope (declare s l) = declared around.block l.declaration scope
after around scope (simple s x) = scope
after around scope (jump s j) = scope
after around scope (return s e) = scope
after around scope (if_then s e a) = scope
after around scope (if_then_else s e a b) = scope
after around scope (while s e a) = scope
after around scope (for s h a) = scope

abbrev pub after_all : Around → List Entry → Statements → List Entry
after_all around scope no_statements = scope
after_all around scope (statement a rest) = after_all around (after around scope a) rest

-- 6.8.6.2 and 6.8.6.3: `break` and `continue` are in loops
abbrev mutual
  pub notes_in : Around → Scope → Statement → List Note
  notes_in around scope (empty s) = []
  notes_in around scope (block s all) = notes_in_all (opened around scope.names) scope all
  notes_in around scope (declare s l) = local_notes around scope l
  notes_in around scope (simple s x) = simple_notes scope x
  notes_in around scope (jump s j) = fault_unless around.in_loop s.first.token BadForm
  notes_in around scope (return s e) = return_notes around scope s.first.token e
  notes_in around scope (if_then s e a) = test_notes scope e ++ notes_in (opened around scope.names) scope a
  notes_in around scope (if_then_else s e a b) =
      test_notes scope e ++ notes_in (opened around scope.names) scope a ++ notes_in (opened around scope.names) scope b
  notes_in around scope (while s e a) = test_notes scope e ++ notes_in (looping (opened around scope.names)) scope a
  notes_in around scope (for s h a) = head_notes (opened around scope.names) scope h
      ++ notes_in (looping (opened around (behind_first (opened around scope.names) scope.names h.first)))
      (in_head (opened around scope.names) scope h) a

  pub notes_in_all : Around → Scope → Statements → List Note
  notes_in_all around scope no_statements = []
  notes_in_all around scope (statement a rest) =
      notes_in around scope a ++ notes_in_all around (with_names scope (after around scope.names a)) rest

-- the locals that a function declares, in the order in which they are written
abbrev pub first_locals : First → List Declaration
first_locals nothing = []
first_locals (declares l) = l.declaration ∷ []
first_locals (does x) = []

abbrev mutual
  pub locals_in : Statement → List Declaration
  locals_in (empty s) = []
  locals_in (block s all) = locals_in_all all
  locals_in (declare s l) = l.declaration ∷ []
  locals_in (simple s x) = []
  locals_in (jump s j) = []
  locals_in (return s e) = []
  locals_in (if_then s e a) = locals_in a
  locals_in (if_then_else s e a b) = locals_in a ++ locals_in b
  locals_in (while s e a) = locals_in a
  locals_in (for s h a) = first_locals h.first ++ locals_in a

  pub locals_in_all : Statements → List Declaration
  locals_in_all no_statements = []
  locals_in_all (statement a rest) = locals_in a ++ locals_in_all rest
