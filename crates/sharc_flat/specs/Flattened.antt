-- The flat code of a program: one clause for each form. The value of an expression goes to the first free register of
-- the bank of its type.
use Rattle.std.specs.Prelude.{◌≡◌, ℕ, zero, suc, pos, ◌+◌, Bool, false, List, [], ◌∷◌, ◌++◌, length, drop, map, max}
use Rattle.std.specs.Prelude.{Option, Some, None, codes, if◌then◌else◌}
use Rattle.std.specs.Str.{bytes_eq}
use Rattle.sharc_tree.specs.{declared.ctype.Base.Base, declared.token.Site.Site, declared.token.Span.Span}
use Rattle.sharc_tree.specs.declared.tree.declaration.Declaration.{Declaration}
use Rattle.sharc_tree.specs.declared.tree.declaration.Identifier.{Identifier}
use Rattle.sharc_tree.specs.declared.tree.item.StructDefinition.{StructDefinition}
use Rattle.sharc_tree.specs.declared.tree.expression.FieldOperator.{FieldOperator}
use Rattle.sharc_tree.specs.declared.tree.expression.FieldOperator.TheVariants.{Dot, Arrow}
use Rattle.sharc_tree.specs.declared.tree.expression.BinaryOperator.{BinaryOperator}
use Rattle.sharc_tree.specs.declared.tree.expression.BinaryOperator.TheVariants.{LogicalOr, LogicalAnd, BitOr, BitXor}
use Rattle.sharc_tree.specs.declared.tree.expression.BinaryOperator.TheVariants.{BitAnd, Equal, NotEqual, Less, Greater}
use Rattle.sharc_tree.specs.declared.tree.expression.BinaryOperator.TheVariants.{LessOrEqual, GreaterOrEqual, ShiftLeft}
use Rattle.sharc_tree.specs.declared.tree.expression.BinaryOperator.TheVariants.{ShiftRight, Add, Subtract, Multiply}
use Rattle.sharc_tree.specs.declared.tree.expression.BinaryOperator.TheVariants.{Divide, Remainder}
use Rattle.sharc_tree.specs.{declared.tree.expression.Constant.Constant, declared.tree.expression.PlaceCall.PlaceCall}
use Rattle.sharc_tree.specs.declared.tree.expression.PlaceCall.TheVariants.{Lock, Unlock, Free}
use Rattle.sharc_tree.specs.declared.tree.expression.UnaryOperator.{UnaryOperator}
use Rattle.sharc_tree.specs.declared.tree.expression.UnaryOperator.TheVariants.{Negate, Not, Complement, Dereference}
use Rattle.sharc_tree.specs.declared.tree.expression.ValueCall.{ValueCall}
use Rattle.sharc_tree.specs.declared.tree.expression.ValueCall.TheVariants.{Join, Print}
use Rattle.sharc_tree.specs.declared.tree.statement.Jump.{Jump}
use Rattle.sharc_tree.specs.{declared.tree.statement.Jump.TheVariants.{Break, Continue}, Spans.span_of}
use Rattle.sharc_tree.specs.Tree.{Expression, identifier, constant, parentheses, call, spawn, on_value, on_place, cast}
use Rattle.sharc_tree.specs.Tree.{index, field, unary, binary, Arguments, no_arguments, argument, Right, value, malloc}
use Rattle.sharc_tree.specs.Tree.{Simple, assign, does_call, Local, First, nothing, declares, does, Statement, empty}
use Rattle.sharc_tree.specs.Tree.{block, declare, simple, jump, return, if_then, if_then_else, while, for, Statements}
use Rattle.sharc_tree.specs.Tree.{no_statements, statement, Function}
use Rattle.sharc_tree.specs.declared.ctype.Base.TheVariants as base
use Rattle.sharc_names.specs.declared.fault.Named.{Named}
use Rattle.sharc_names.specs.Kinds.{Kind, object, element_kind, declared_kind, declared_kinds, promoted}
use Rattle.sharc_names.specs.declared.fault.Named.TheVariants as named
use Rattle.sharc_code.specs.{declared.code.Function.{Function as Row}, declared.code.GlobalCells.GlobalCells}
use Rattle.sharc_code.specs.{declared.code.Parameter.Parameter, declared.code.Text.Text, declared.instr.Cell.Cell}
use Rattle.sharc_code.specs.declared.instr.Operator.{Operator}
use Rattle.sharc_code.specs.declared.code.Parameter.TheVariants as parameters
use Rattle.sharc_code.specs.declared.code.Use.TheVariants as uses
use Rattle.sharc_code.specs.declared.instr.Cell.TheVariants as cells
use Rattle.sharc_code.specs.declared.instr.Operator.TheVariants as operators
use Rattle.sharc_code.specs.declared.instr.Register.TheVariants as registers
use Rattle.sharc_ctype.specs.Expressions.{class_of, binary_result}
use Rattle.sharc_ctype.specs.{Resolved.{named_at, kind_at, structs_in, functions_in}, Transfers.parameters_named}
use Rattle.sharc_mode.specs.{Cells.{cell_at, pointed}, Rows.{written, row_at, declared_row, cast_row}}
use Rattle.sharc_mode.specs.{Sharings.{Sharing, private}, Moded.Assignment}
use Rattle.sharc_meaning.specs.{Cells.{element_cells, field_place_named}, Expressions.number_named}
use Rattle.sharc_meaning.specs.{Reference.constant_value, State.is_reference}
use Rattle.sharc_flat.specs.{declared.op.Op.Op, declared.op.Spot.Spot, Machine.Flat, Frames.{ints_in, refs_in}}
use Rattle.sharc_flat.specs.Scope.{slot_of, int_count, ref_count, Context, no_text, tokens_in, at_site, at_words}
use Rattle.sharc_flat.specs.Scope.{ends_from, leaves}
use Rattle.sharc_flat.specs.declared.slot.Slot.{Slot}
use Rattle.sharc_flat.specs.Places.{Target, lvalue_of, take_use, variable, in_global, has_base, base_width, index_width}
use Rattle.sharc_flat.specs.Places.{target, own_field, cell_of, beside_field, object_spot, index_code, pointee_code}
use Rattle.sharc_flat.specs.Places.{value_code, store_code, take_code, width_of, width_code}
use Rattle.sharc_flat.specs.declared.slot.Lvalue.{Lvalue}
use Rattle.sharc_flat.specs.declared.op.Op.TheVariants as op

abbrev pub kind_of : Context → Expression → Kind
kind_of c e = kind_at c.program.typed e

abbrev pub is_ref : Context → Expression → Bool
is_ref c e = is_reference (kind_of c e)

abbrev pub target_of : Context → Expression → Target
target_of c e = target c.program.typed None e

abbrev pub mode_of : Context → Expression → Sharing
mode_of c e = cell_at c.program e

abbrev pub lvalue_in : Context → Expression → Lvalue
lvalue_in c e = lvalue_of c.program.typed e

abbrev pub what_names : Context → ℕ → Named
what_names c token = named_at c.program.typed token

-- ---- single values
abbrev pub constant_code : Bool → ℕ → ℕ → Constant → List Op
constant_code is_ref i r k = if is_ref then op.Null r ∷ [] else op.Constant i (constant_value k) ∷ []

abbrev pub named_code : Context → ℕ → ℕ → Site → Lvalue → Sharing → Bool → Named → List Op
named_code c i r site lvalue mode is_ref (named.Variable x) = value_code c i r site lvalue mode is_ref (variable x)
named_code c i r site lvalue mode is_ref (named.Global g) = value_code c i r site lvalue mode is_ref (in_global g 0)
named_code c i r site lvalue mode is_ref _ = []

-- what is at the top of its bank
abbrev pub drop_code : Bool → ℕ → List Op
drop_code is_ref r = if is_ref then op.Pop r ∷ [] else []

-- a value in an integer register that is 0 exactly where the value is 0 or NULL
abbrev pub truth_code : Bool → ℕ → ℕ → List Op
truth_code is_ref i r =
    if is_ref then op.Null (r + 1) ∷ op.SameReference i r (r + 1) ∷ op.Pop r ∷ op.IsFalse i i ∷ [] else []

-- ---- operators
abbrev pub operator_of : BinaryOperator → Operator
operator_of LogicalOr = operators.Or
operator_of LogicalAnd = operators.And
operator_of BitOr = operators.Or
operator_of BitXor = operators.Xor
operator_of BitAnd = operators.And
operator_of Equal = operators.Equal
operator_of NotEqual = operators.NotEqual
operator_of Less = operators.Less
operator_of Greater = operators.Greater
operator_of LessOrEqual = operators.AtMost
operator_of GreaterOrEqual = operators.AtLeast
operator_of ShiftLeft = operators.ShiftLeft
operator_of ShiftRight = operators.ShiftRight
operator_of Add = operators.Add
operator_of Subtract = operators.Subtract
operator_of Multiply = operators.Multiply
operator_of Divide = operators.Divide
operator_of Remainder = operators.Remainder

-- whether two references are the same, or are not, and both are given up
abbrev pub differ_code : BinaryOperator → ℕ → List Op
differ_code NotEqual i = op.IsFalse i i ∷ []
differ_code _ i = []

abbrev pub compare_code : BinaryOperator → ℕ → ℕ → List Op
compare_code o i r = op.SameReference i r (r + 1) ∷ (differ_code o i ++ (op.Pop r ∷ op.Pop (r + 1) ∷ []))

abbrev pub logical_code : ℕ → List Op → List Op → List Op
logical_code i a b = a ++ (op.SkipIfZero i (length b) ∷ (b ++ (op.IsFalse i i ∷ op.IsFalse i i ∷ [])))

abbrev pub either_code : ℕ → List Op → List Op → List Op
either_code i a b =
    a ++ (op.IsFalse i i ∷ op.SkipIfZero i (length b + 1) ∷ (b ++ (op.IsFalse i i ∷ op.IsFalse i i ∷ [])))

abbrev pub unary_code : Context → ℕ → ℕ → Span → UnaryOperator → Expression → List Op → List Op
unary_code c i r s Negate a code = code ++ op.Negate (width_of (promoted (kind_of c a))) i i (at_site s.first) ∷ []
unary_code c i r s Not a code = code ++ (truth_code (is_ref c a) i r ++ op.IsFalse i i ∷ [])
unary_code c i r s Complement a code = code ++ op.Complement i i ∷ []
unary_code c i r s Dereference a code =
    pointee_code r s.first code ++ value_code c i r s.first (lvalue_in c (unary s Dereference a))
    (mode_of c (unary s Dereference a)) (is_ref c (unary s Dereference a)) (target_of c (unary s Dereference a))

-- the registers after a value
abbrev pub behind_int : Bool → ℕ → ℕ
behind_int is_ref i = if is_ref then i else i + 1

abbrev pub behind_ref : Bool → ℕ → ℕ
behind_ref is_ref r = if is_ref then r + 1 else r

abbrev pub binary_code : Context → ℕ → ℕ → Site → BinaryOperator → Expression → Expression → List Op → (ℕ → ℕ → List Op)
    → List Op
binary_code c i r at LogicalAnd a b of_a of_b =
    logical_code i (of_a ++ truth_code (is_ref c a) i r) (of_b i r ++ truth_code (is_ref c b) i r)
binary_code c i r at LogicalOr a b of_a of_b =
    either_code i (of_a ++ truth_code (is_ref c a) i r) (of_b i r ++ truth_code (is_ref c b) i r)
binary_code c i r at o a b of_a of_b = of_a ++ (of_b (behind_int (is_ref c a) i) (behind_ref (is_ref c a) r)
    ++ (if is_ref c a then compare_code o i r
    else op.Compute (width_of (binary_result (class_of o) (kind_of c a) (kind_of c b))) (operator_of o) i i
    (i + 1) (at_site at) ∷ []))

-- ---- calls
-- the first cell of the object in this register
abbrev pub first_cell_of : ℕ → Cell
first_cell_of r = cells.Object r 0

-- the thread may have to wait for either argument
abbrev pub wait_code : ℕ → Spot → Spot → Spot → List Op
wait_code r spot of_condition of_mutex =
    op.ChkNull r spot ∷ op.ChkNull (r + 1) spot ∷ op.ChkHeld (first_cell_of (r + 1)) spot
    ∷ op.CondEnter (first_cell_of r) spot ∷ op.Unlock (r + 2) (first_cell_of (r + 1)) spot
    ∷ op.CondWait (first_cell_of r) of_condition ∷ op.Lock (first_cell_of (r + 2)) of_mutex
    ∷ op.Pop r ∷ op.Pop (r + 1) ∷ []

abbrev pub with_words : Spot → Text → Spot
with_words spot words = record spot { lvalue = words }

abbrev pub argument_words : ℕ → Arguments → Text
argument_words n no_arguments = no_text
argument_words zero (argument a rest) = tokens_in (span_of a)
argument_words (suc n) (argument a rest) = argument_words n rest

abbrev pub condition_code : ℕ → Spot → List ℕ → Arguments → List Op
condition_code r spot name all =
    if bytes_eq name (codes "wait")
    then wait_code r spot (with_words spot (argument_words 0 all)) (with_words spot (argument_words 1 all))
    else if bytes_eq name (codes "signal") then op.ChkNull r spot ∷ op.CondSignal (first_cell_of r) spot ∷ op.Pop r ∷ []
    else op.ChkNull r spot ∷ op.CondBroadcast (first_cell_of r) spot ∷ op.Pop r ∷ []

abbrev pub called_code : ℕ → ℕ → Spot → Named → List ℕ → Arguments → List Op
called_code i r spot (named.Function f) name all = op.Call f i r spot ∷ []
called_code i r spot named.Known name all = condition_code r spot name all
called_code i r spot _ name all = []

-- an argument for the first of the parameters that are left
abbrev pub passed_code : ℕ → List Kind → Site → List Op
passed_code i [] site = []
passed_code i (kind ∷ rest) site = width_code i kind site

abbrev pub spawn_code : Bool → ℕ → ℕ → ℕ → Spot → List Op
spawn_code is_ref i r f spot = op.Spawn i f (if is_ref then registers.Reference r else registers.Int i) spot ∷ []

abbrev pub value_call_code : ValueCall → ℕ → Spot → List Op
value_call_code Join i spot = op.Join i spot ∷ []
value_call_code Print i spot = op.Print i spot ∷ []

-- the number of the layout of an element: an integer, a pointer, or the struct of a number
abbrev pub struct_layout : ℕ → List StructDefinition → List ℕ → ℕ
struct_layout n [] name = n
struct_layout n (x ∷ rest) name = if bytes_eq x.name.text name then n else struct_layout (n + 1) rest name

abbrev pub base_layout : List StructDefinition → Base → ℕ
base_layout structs (base.Struct name) = struct_layout 2 structs name
base_layout structs _ = 0

abbrev pub layout_of : List StructDefinition → Kind → ℕ
layout_of structs (object b zero) = base_layout structs b
layout_of structs (object b (suc stars)) = 1
layout_of structs _ = 0

-- the log's reference is given up, and then the base
abbrev pub unlocked_code : ℕ → Target → List Op
unlocked_code r t = if has_base t then op.Pop (r + 1) ∷ op.Pop r ∷ [] else []

abbrev pub place_call_code : Context → ℕ → ℕ → Span → PlaceCall → Expression → List Op → List Op
place_call_code c i r s Lock a place =
    place ++ (op.ChkNotHeld (cell_of c.globals i r (target_of c a)) (at_site s.first) ∷ op.ChkRoom (at_site s.first)
    ∷ op.Lock (cell_of c.globals i r (target_of c a)) (at_words s.first (span_of a) uses.Other) ∷ [])
place_call_code c i r s Unlock a place = place ++ (op.ChkHeld (cell_of c.globals i r (target_of c a)) (at_site s.first)
    ∷ op.Unlock (r + base_width (target_of c a)) (cell_of c.globals i r (target_of c a)) (at_site s.first)
    ∷ unlocked_code r (target_of c a))
place_call_code c i r s Free a place =
    place ++ (take_code c i r (span_of a).first (lvalue_in c a) (mode_of c a) uses.Free (target_of c a)
    ++ (op.SkipIfNull r 1 ∷ op.Free r (layout_of (structs_in c.program.typed.program.items)
    (element_kind (kind_of c a))) (at_words (span_of a).first (span_of a) (take_use uses.Free (target_of c a))) ∷ []))

abbrev pub cast_code : Context → ℕ → ℕ → Span → Expression → List Op → List Op
cast_code c i r s a place =
    place ++ (take_code c i r (span_of a).first (lvalue_in c a) (mode_of c a) uses.Cast (target_of c a)
    ++ (op.SkipIfNull r 1 ∷ op.Give r (element_cells c.program.typed (element_kind (kind_of c a)))
    (object_spot c (span_of a).first (tokens_in (span_of a)) (take_use uses.Cast (target_of c a))
    (pointed c.program (Some (cast_row c.program.typed s)))) ∷ []))

-- the guard of what an lvalue names
abbrev pub guard_of : Context → Expression → Option ℕ
guard_of c e = beside_field c.program.typed (mode_of c e)

-- a mutex is accessed under no mode
abbrev pub taken_guard : Context → PlaceCall → Expression → Option ℕ
taken_guard c Lock a = None
taken_guard c Unlock a = None
taken_guard c Free a = guard_of c a

-- `a.n` and `a->n`
abbrev pub field_code : Context → ℕ → Site → Option ℕ → FieldOperator → Identifier → (Option ℕ → List Op) → List Op
    → List Op
field_code c r site f Dot n place pointer =
    place (Some (own_field f (field_place_named c.program.typed (what_names c n.site.token))))
field_code c r site f Arrow n place pointer = pointee_code r site pointer

abbrev pub unary_place_code : ℕ → Site → UnaryOperator → List Op → List Op
unary_place_code r site Dereference pointer = pointee_code r site pointer
unary_place_code r site _ pointer = []

abbrev pub lvalue_code : Context → ℕ → ℕ → Expression → List Op
lvalue_code c i r e = value_code c i r (span_of e).first (lvalue_in c e) (mode_of c e) (is_ref c e) (target_of c e)

abbrev mutual
  -- the value, if there is one, goes to the register i or r
  pub expression_code : Context → ℕ → ℕ → Expression → List Op
  expression_code c i r (identifier s x) = op.Enter ∷ named_code c i r x.site (lvalue_in c (identifier s x))
      (mode_of c (identifier s x)) (is_ref c (identifier s x)) (what_names c x.site.token)
  expression_code c i r (constant s k) = op.Enter ∷ constant_code (is_ref c (constant s k)) i r k
  expression_code c i r (parentheses s a) = op.Enter ∷ expression_code c i r a
  expression_code c i r (call s f all) = op.Enter
      ∷ (arguments_code c i r (declared_kinds (parameters_named c.program.typed (what_names c f.site.token))) all
      ++ called_code i r (at_site s.first) (what_names c f.site.token) f.text all)
  expression_code c i r (spawn s f a) = op.Enter ∷ (expression_code c i r a
      ++ (passed_code i
      (declared_kinds (parameters_named c.program.typed (what_names c f.site.token))) (span_of a).first
      ++ spawn_code (is_ref c a) i r (number_named (what_names c f.site.token)) (at_site s.first)))
  expression_code c i r (on_value s w a) = op.Enter ∷ (expression_code c i r a ++ value_call_code w i (at_site s.first))
  expression_code c i r (on_place s w a) =
      op.Enter ∷ place_call_code c i r s w a (place_code c i r (span_of a).first None (taken_guard c w a) a)
  expression_code c i r (cast s t a) =
      op.Enter ∷ cast_code c i r s a (place_code c i r (span_of a).first None (guard_of c a) a)
  expression_code c i r (index s a n) = op.Enter ∷ (index_code c i r s.first None (guard_of c (index s a n)) a
      (place_code c i r s.first None None a) (expression_code c i r a) (λ d. expression_code c i d n)
      ++ lvalue_code c i r (index s a n))
  expression_code c i r (field s a w n) = op.Enter ∷ (field_code c r s.first None w n
      (λ f. place_code c i r s.first f (guard_of c (field s a w n)) a) (expression_code c i r a)
      ++ lvalue_code c i r (field s a w n))
  expression_code c i r (unary s o a) = op.Enter ∷ unary_code c i r s o a (expression_code c i r a)
  expression_code c i r (binary s o at a b) =
      op.Enter ∷ binary_code c i r at o a b (expression_code c i r a) (λ i2 r2. expression_code c i2 r2 b)

  -- each argument in the registers after those before it
  pub arguments_code : Context → ℕ → ℕ → List Kind → Arguments → List Op
  arguments_code c i r kinds no_arguments = []
  arguments_code c i r kinds (argument a rest) = expression_code c i r a
      ++ (passed_code i kinds (span_of a).first
      ++ arguments_code c (behind_int (is_ref c a) i) (behind_ref (is_ref c a) r) (drop 1 kinds) rest)

  -- what an lvalue names, for this field of it if one is given, and with the pointer to a mutex in that field of the
  -- same element
  pub place_code : Context → ℕ → ℕ → Site → Option ℕ → Option ℕ → Expression → List Op
  place_code c i r site f guard (identifier s x) = op.Enter ∷ []
  place_code c i r site f guard (parentheses s a) = op.Enter ∷ place_code c i r site f guard a
  place_code c i r site f guard (index s a n) = op.Enter ∷ index_code c i r site f guard a
      (place_code c i r site None None a) (expression_code c i r a) (λ d. expression_code c i d n)
  place_code c i r site f guard (field s a w n) =
      op.Enter ∷ field_code c r site f w n (λ g. place_code c i r site g guard a) (expression_code c i r a)
  place_code c i r site f guard (unary s o a) = op.Enter ∷ unary_place_code r site o (expression_code c i r a)
  place_code c i r site f guard _ = op.Enter ∷ []

-- ---- statements
-- the count of a malloc, which is 1 where none is written
abbrev pub elements_code : Context → ℕ → ℕ → Option Expression → List Op
elements_code c i r None = op.Constant i (pos 1) ∷ []
elements_code c i r (Some n) = expression_code c i r n

abbrev pub right_code : Context → ℕ → ℕ → Kind → Sharing → Right → List Op
right_code c i r kind mode (value e) = expression_code c i r e ++ width_code i kind (span_of e).first
right_code c i r kind mode (malloc s n w) = op.Enter ∷ (elements_code c i r n
    ++ (op.ChkPositive i (at_site s.first) ∷ op.New r i (element_cells c.program.typed (declared_kind w))
    (object_spot c s.first no_text uses.Other mode) ∷ []))

abbrev pub simple_code : Context → ℕ → ℕ → Simple → List Op
simple_code c i r (assign s u x) = place_code c i r (span_of u).first None (guard_of c u) u
    ++ (right_code c (i + index_width (target_of c u) (guard_of c u)) (r + base_width (target_of c u)) (kind_of c u)
    (pointed c.program (row_at c.program.typed u)) x
    ++ store_code c i r (i + index_width (target_of c u) (guard_of c u)) (r + base_width (target_of c u))
    (span_of u).first (lvalue_in c u) (mode_of c u) (is_ref c u) (target_of c u))
simple_code c i r (does_call e) = expression_code c i r e ++ drop_code (is_ref c e) r

-- a variable that begins, as the last one in scope
abbrev pub with_variable : Context → Declaration → Context
with_variable c d = record c { scope = c.scope ++ slot_of d ∷ [] }

abbrev pub ints_of : Context → ℕ
ints_of c = int_count c.scope

abbrev pub refs_of : Context → ℕ
refs_of c = ref_count c.scope

abbrev pub zero_code : Bool → ℕ → ℕ → List Op
zero_code is_ref i r = if is_ref then op.Null r ∷ [] else op.Constant i (pos 0) ∷ []

abbrev pub declared_lvalue : Declaration → Lvalue
declared_lvalue d =
    record { words = record { first = d.name.site; last = d.name.site }; bare = d.name.site.token; is_simple = false }

-- after its declaration
abbrev pub initial_code : Context → Declaration → Option Right → List Op
initial_code c d None = []
initial_code c d (Some x) = right_code c (ints_of c) (refs_of c) (declared_kind d.written)
    (pointed c.program (Some (declared_row c.program.typed written d.name.site.token))) x
    ++ store_code c 0 0 (ints_of c) (refs_of c) d.name.site (declared_lvalue d) private
    (is_reference (declared_kind d.written)) (variable d.name.site.token)

abbrev pub local_code : Context → Local → List Op
local_code c l = zero_code (is_reference (declared_kind l.declaration.written)) (ints_of c) (refs_of c)
    ++ initial_code (with_variable c l.declaration) l.declaration l.initial

abbrev pub first_code : Context → First → List Op
first_code c nothing = []
first_code c (declares l) = op.Enter ∷ local_code c l
first_code c (does x) = simple_code c (ints_of c) (refs_of c) x

abbrev pub behind_first : Context → First → Context
behind_first c nothing = c
behind_first c (declares l) = with_variable c l.declaration
behind_first c (does x) = c

abbrev pub step_code : Context → Option Simple → List Op
step_code c None = []
step_code c (Some x) = simple_code c (ints_of c) (refs_of c) x

-- a value, in the first free integer register, that is 0 exactly where a test is not met
abbrev pub test_code : Context → Expression → List Op
test_code c e = expression_code c (ints_of c) (refs_of c) e ++ truth_code (is_ref c e) (ints_of c) (refs_of c)

-- what decides whether there is a turn more: it leads over this many statements where there is none
abbrev pub turn_code : Context → Option Expression → ℕ → List Op
turn_code c None over = []
turn_code c (Some e) over = test_code c e ++ op.SkipIfZero (ints_of c) over ∷ []

-- Where a statement is in its function: the type of the function's result, the places of the innermost loop to which
-- break and continue lead, and how many variables there were where each open block begins, within that loop and around
-- it, the innermost first.
pub record Around : Type 0 where
  pub result : Kind
  pub broken : ℕ
  pub continued : ℕ
  pub inside : List ℕ
  pub outside : List ℕ

abbrev pub opened : Context → Around → Around
opened c a = record a { inside = length c.scope ∷ a.inside }

abbrev pub looping : Around → ℕ → ℕ → Around
looping a broken continued =
    record { result = a.result; broken = broken; continued = continued; inside = []; outside = a.inside ++ a.outside }

abbrev pub jump_code : Context → Around → Jump → List Op
jump_code c a Break = leaves c.scope a.inside ++ op.Jump a.broken ∷ []
jump_code c a Continue = leaves c.scope a.inside ++ op.Jump a.continued ∷ []

-- the value goes to the first register of the frame
abbrev pub result_code : Bool → ℕ → ℕ → List Op
result_code is_ref i r = if is_ref then op.MoveReference 0 r ∷ [] else op.Move 0 i ∷ []

abbrev pub return_code : Context → Around → Site → Option Expression → List Op
return_code c a site None =
    leaves c.scope (a.inside ++ a.outside) ++ (zero_code (is_reference a.result) 0 0 ++ op.Return (at_site site) ∷ [])
return_code c a site (Some e) =
    expression_code c (ints_of c) (refs_of c) e ++ (width_code (ints_of c) a.result (span_of e).first
    ++ (leaves c.scope (a.inside ++ a.outside)
    ++ (result_code (is_reference a.result) (ints_of c) (refs_of c) ++ op.Return (at_site site) ∷ [])))

-- What is done where a test is met, at this place. The parts are given by where they lie, and what decides by the
-- number of statements that it leads over.
abbrev pub if_code : ℕ → (ℕ → List Op) → (ℕ → List Op) → List Op
if_code pc turn body = turn (length (body (pc + length (turn 0)))) ++ body (pc + length (turn 0))

-- a choice: what decides, the first side, over the second side, the second side
abbrev pub sides_code : ℕ → (ℕ → List Op) → List Op → (ℕ → List Op) → List Op
sides_code pc turn first second = turn (length first + 1) ++ (first ++ (op.Skip
    (length (second (pc + length (turn 0) + length first + 1))) ∷ second (pc + length (turn 0) + length first + 1)))

abbrev pub choice_code : ℕ → (ℕ → List Op) → (ℕ → List Op) → (ℕ → List Op) → List Op
choice_code pc turn first second = sides_code pc turn (first (pc + length (turn 0))) second

-- A loop at this place: over the two ways, the way out, the way to the step, what decides, the body, the step, and back
-- to what decides. The body is given by where it lies, and what decides by the length of what it leads over.
abbrev pub turns_code : ℕ → List Op → List Op → List Op → List Op
turns_code pc step turn body =
    op.Skip 2 ∷ op.Skip (length turn + length body + length step + 2) ∷ op.Skip (length turn + length body)
    ∷ (turn ++ (body ++ (step ++ op.Jump (pc + 3) ∷ [])))

abbrev pub body_at : ℕ → (ℕ → List Op) → ℕ
body_at pc turn = pc + 3 + length (turn 0)

abbrev pub loop_code : ℕ → List Op → (ℕ → List Op) → (ℕ → List Op) → List Op
loop_code pc step turn body =
    turns_code pc step (turn (length (body (body_at pc turn)) + length step + 1)) (body (body_at pc turn))

abbrev pub behind_statement : Context → Statement → Context
behind_statement c (declare s l) = with_variable c l.declaration
behind_statement c _ = c

abbrev mutual
  -- at this place
  pub statement_code : Context → Around → ℕ → Statement → List Op
  statement_code c a pc (empty s) = op.Enter ∷ []
  statement_code c a pc (block s all) = op.Enter ∷ ((statements_code c (opened c a) (pc + 1) all
      ++ ends_from (behind_statements c all).scope (length c.scope)) ++ op.BlockEnd ∷ [])
  statement_code c a pc (declare s l) = op.Enter ∷ local_code c l
  statement_code c a pc (simple s x) = op.Enter ∷ simple_code c (ints_of c) (refs_of c) x
  statement_code c a pc (jump s j) = op.Enter ∷ jump_code c a j
  statement_code c a pc (return s e) = op.Enter ∷ return_code c a s.first e
  statement_code c a pc (if_then s e x) =
      op.Enter ∷ if_code (pc + 1) (turn_code c (Some e)) (λ at. statement_code c a at x)
  statement_code c a pc (if_then_else s e x y) = op.Enter
      ∷ choice_code (pc + 1) (turn_code c (Some e)) (λ at. statement_code c a at x) (λ at. statement_code c a at y)
  statement_code c a pc (while s e x) = op.Enter
      ∷ loop_code (pc + 1) [] (turn_code c (Some e)) (λ at. statement_code c (looping a (pc + 1 + 1) (pc + 1 + 2)) at x)
  statement_code c a pc (for s h x) = op.Enter ∷ ((first_code c h.first
      ++ loop_code (pc + 1 + length (first_code c h.first)) (step_code (behind_first c h.first) h.step)
      (turn_code (behind_first c h.first) h.test)
      (λ at. statement_code (behind_first c h.first) (looping (opened c a) (pc + 1 + length (first_code c h.first) + 1)
      (pc + 1 + length (first_code c h.first) + 2)) at x))
      ++ ends_from (behind_first c h.first).scope (length c.scope))

  pub statements_code : Context → Around → ℕ → Statements → List Op
  statements_code c a pc no_statements = []
  statements_code c a pc (statement x rest) =
      statement_code c a pc x ++ statements_code (behind_statement c x) a (pc + length (statement_code c a pc x)) rest

  pub behind_statements : Context → Statements → Context
  behind_statements c no_statements = c
  behind_statements c (statement x rest) = behind_statements (behind_statement c x) rest

-- ---- functions
abbrev pub parameters_scope : List Declaration → List Slot
parameters_scope = map slot_of

abbrev pub in_function : Assignment → (List GlobalCells) → Function → Context
in_function m globals f = record { program = m; globals = globals; scope = parameters_scope f.parameters }

abbrev pub around_body : Function → Around
around_body f = record { result = declared_kind f.result; broken = 0; continued = 0; inside = 0 ∷ []; outside = [] }

-- at its end a function gives 0 or NULL
abbrev pub function_code : Assignment → (List GlobalCells) → ℕ → Function → List Op
function_code m globals pc f =
    op.Enter ∷ (statements_code (in_function m globals f) (around_body f) (pc + 1) f.statements
    ++ (ends_from (behind_statements (in_function m globals f) f.statements).scope 0
    ++ (zero_code (is_reference (declared_kind f.result)) 0 0 ++ op.Return (at_site f.body.last) ∷ [])))

-- the functions from this place on
abbrev pub functions_code : Assignment → (List GlobalCells) → ℕ → List Function → List Op
functions_code m globals pc [] = []
functions_code m globals pc (f ∷ rest) =
    function_code m globals pc f ++ functions_code m globals (pc + length (function_code m globals pc f)) rest

-- ---- the program
-- what a thread of the function is handed
abbrev pub parameter_in : Kind → Parameter
parameter_in kind = if is_reference kind then parameters.Reference else parameters.Int

abbrev pub parameter_of : List Declaration → Parameter
parameter_of [] = parameters.None
parameter_of (d ∷ rest) = parameter_in (declared_kind d.written)

-- a row of the table is that of a function whose code begins at this place; its frame has the parameters' registers and
-- those that the code needs
pub record IsRow (m : Assignment) (globals : List GlobalCells) (pc : ℕ) (f : Function) (row : Row) : Type 0 where
  pub entry : row.entry ≡ pc
  pub parameter : row.parameter ≡ parameter_of f.parameters
  pub site : row.site ≡ f.name.site
  pub ints : row.ints ≡ max (int_count (parameters_scope f.parameters)) (ints_in (function_code m globals pc f))
  pub refs : row.refs ≡ max (ref_count (parameters_scope f.parameters)) (refs_in (function_code m globals pc f))

abbrev pub AreRows : Assignment → (List GlobalCells) → ℕ → List Function → List Row → Type 0
AreRows m globals pc [] rows = rows ≡ []
AreRows m globals pc (f ∷ rest) [] = ⊥
AreRows m globals pc (f ∷ rest) (row ∷ rows) =
    IsRow m globals pc f row × AreRows m globals (pc + length (function_code m globals pc f)) rest rows

-- flat code is that of a program
pub record IsFlattened (m : Assignment) (flat : Flat) : Type 0 where
  pub lines : flat.lines ≡ functions_code m flat.globals 0 (functions_in m.typed.program.items)
  pub functions : AreRows m flat.globals 0 (functions_in m.typed.program.items) flat.functions

-- ---- the code as a function of the program and the places of its globals
abbrev pub row_of : Assignment → List GlobalCells → ℕ → Function → Row
row_of m globals pc f = record {
  entry = pc;
  ints = max (int_count (parameters_scope f.parameters)) (ints_in (function_code m globals pc f));
  refs = max (ref_count (parameters_scope f.parameters)) (refs_in (function_code m globals pc f));
  parameter = parameter_of f.parameters;
  site = f.name.site;
  name = no_text;
}

abbrev pub rows_of : Assignment → List GlobalCells → ℕ → List Function → List Row
rows_of m globals pc [] = []
rows_of m globals pc (f ∷ rest) =
    row_of m globals pc f ∷ rows_of m globals (pc + length (function_code m globals pc f)) rest

abbrev pub flattened : Assignment → List GlobalCells → Flat
flattened m globals = record {
  lines = functions_code m globals 0 (functions_in m.typed.program.items);
  told = [];
  functions = rows_of m globals 0 (functions_in m.typed.program.items);
  globals = globals;
}
