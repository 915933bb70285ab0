-- The types of expressions, and the faults in them (C11 6.5), one clause for each form.
use Rattle.std.specs.Prelude.{ℕ, ◌+◌, ◌==◌, Bool, true, false, not, ◌&&◌, ◌||◌, List, [], ◌∷◌, ◌++◌, length, drop}
use Rattle.std.specs.Prelude.{Option, Some, None, is_some, if◌then◌else◌}
use Rattle.sharc_tree.specs.{declared.token.NumberType.NumberType, declared.tree.expression.FieldOperator.FieldOperator}
use Rattle.sharc_tree.specs.declared.tree.expression.FieldOperator.TheVariants.{Dot, Arrow}
use Rattle.sharc_tree.specs.declared.tree.expression.BinaryOperator.{BinaryOperator}
use Rattle.sharc_tree.specs.declared.tree.expression.BinaryOperator.TheVariants.{LogicalOr, LogicalAnd, BitOr, BitXor}
use Rattle.sharc_tree.specs.declared.tree.expression.BinaryOperator.TheVariants.{BitAnd, Equal, NotEqual, Less, Greater}
use Rattle.sharc_tree.specs.declared.tree.expression.BinaryOperator.TheVariants.{LessOrEqual, GreaterOrEqual, ShiftLeft}
use Rattle.sharc_tree.specs.declared.tree.expression.BinaryOperator.TheVariants.{ShiftRight, Add, Subtract, Multiply}
use Rattle.sharc_tree.specs.declared.tree.expression.BinaryOperator.TheVariants.{Divide, Remainder}
use Rattle.sharc_tree.specs.declared.tree.expression.UnaryOperator.{UnaryOperator}
use Rattle.sharc_tree.specs.declared.tree.expression.UnaryOperator.TheVariants.{Negate, Not, Complement, Dereference}
use Rattle.sharc_tree.specs.declared.tree.expression.PlaceCall.{PlaceCall}
use Rattle.sharc_tree.specs.declared.tree.expression.PlaceCall.TheVariants.{Lock, Unlock, Free}
use Rattle.sharc_tree.specs.declared.tree.expression.Constant.{Constant}
use Rattle.sharc_tree.specs.declared.tree.expression.Constant.TheVariants.{Number, Character, Null}
use Rattle.sharc_tree.specs.{declared.tree.declaration.WrittenType.WrittenType, Forms.{without_parentheses, is_lvalue}}
use Rattle.sharc_tree.specs.Tree.{Expression, identifier, constant, parentheses, call, spawn, on_value, on_place, cast}
use Rattle.sharc_tree.specs.Tree.{index, field, unary, binary, Arguments, no_arguments, argument}
use Rattle.sharc_tree.specs.declared.token.NumberType.TheVariants as width
use Rattle.sharc_names.specs.declared.need.Need.{Need}
use Rattle.sharc_names.specs.declared.need.Need.TheVariants.{Value, Integer, Pointer, Indexed, Struct, StructPointer}
use Rattle.sharc_names.specs.declared.fault.FaultCode.TheVariants.{UnknownName, TypeMismatch, ArgumentCount, NoLvalue}
use Rattle.sharc_names.specs.declared.fault.FaultCode.TheVariants.{BadForm}
use Rattle.sharc_names.specs.{declared.types.Role.TheVariants.Cast, declared.scope.Scope.Scope}
use Rattle.sharc_names.specs.Kinds.{Kind, null, int, long, void, mutex, is_pointer, same_kind, comparable}
use Rattle.sharc_names.specs.Kinds.{declared_kind, element_kind, promoted, common}
use Rattle.sharc_names.specs.Names.{Entry, Meaning, variable, global, function, condition, look_up, named_of}
use Rattle.sharc_names.specs.Names.{is_function, is_main, parameters_of, result_of}
use Rattle.sharc_names.specs.{Needs.{place, met, unmet, agreed, unagreed}, Notes.{Note, fault, refers, fault_unless}}
use Rattle.sharc_names.specs.Types.{name_kind, main_notes, name_notes, field_in, field_kind, field_notes, type_notes}
use Rattle.sharc_names.specs.Types.{is_fine}
use Rattle.sharc_names.specs.Wants.{first_wanted}
use Rattle.sharc_ctype.specs.{declared.expr.Standing.Standing, declared.expr.Standing.TheVariants.{AsValue, AsLvalue}}
use Rattle.sharc_ctype.specs.declared.expr.OperatorClass.{OperatorClass}
use Rattle.sharc_ctype.specs.declared.expr.OperatorClass.TheVariants.{Logical, Equality, Relation, Shift, Arithmetic}

-- 6.4.4: constants

abbrev pub number_kind : NumberType → Kind
number_kind width.Int = int
number_kind width.Long = long

abbrev pub constant_kind : Constant → Kind
constant_kind (Number n) = number_kind n.number_type
constant_kind (Character byte) = int
constant_kind Null = null

-- 6.5.2.1: `a[i]`, with `a` a pointer or a global array and `i` an integer

abbrev pub element_of : Option Kind → Option Kind → Option Kind
element_of None i = None
element_of (Some b) None = None
element_of (Some b) (Some i) = Some (element_kind b)

-- 6.5.2.3: the left side of `.` is a struct, that of `->` a pointer to one

abbrev pub access_need : FieldOperator → Need
access_need Dot = Struct
access_need Arrow = StructPointer

-- 6.5.3.2 and 6.5.3.3: `*` takes a pointer, `-` and `~` an integer, `!` an integer or a pointer

abbrev pub operand_need : UnaryOperator → Need
operand_need Negate = Integer
operand_need Not = Value
operand_need Complement = Integer
operand_need Dereference = Pointer

abbrev pub unary_result : UnaryOperator → Kind → Kind
unary_result Negate k = promoted k
unary_result Not k = int
unary_result Complement k = promoted k
unary_result Dereference k = element_kind k

abbrev pub unary_kind : UnaryOperator → Option Kind → Option Kind
unary_kind o None = None
unary_kind o (Some k) = Some (unary_result o k)

-- 6.5.5 to 6.5.14: `||` and `&&` take integers and pointers, `==` and `!=` what can be compared, all others integers

abbrev pub class_of : BinaryOperator → OperatorClass
class_of LogicalOr = Logical
class_of LogicalAnd = Logical
class_of BitOr = Arithmetic
class_of BitXor = Arithmetic
class_of BitAnd = Arithmetic
class_of Equal = Equality
class_of NotEqual = Equality
class_of Less = Relation
class_of Greater = Relation
class_of LessOrEqual = Relation
class_of GreaterOrEqual = Relation
class_of ShiftLeft = Shift
class_of ShiftRight = Shift
class_of Add = Arithmetic
class_of Subtract = Arithmetic
class_of Multiply = Arithmetic
class_of Divide = Arithmetic
class_of Remainder = Arithmetic

abbrev pub operands_need : OperatorClass → Need
operands_need Logical = Value
operands_need Equality = Value
operands_need Relation = Integer
operands_need Shift = Integer
operands_need Arithmetic = Integer

-- a shift has the type of its left operand, every other operator the common type of both
abbrev pub binary_result : OperatorClass → Kind → Kind → Kind
binary_result Logical a b = int
binary_result Equality a b = int
binary_result Relation a b = int
binary_result Shift a b = promoted a
binary_result Arithmetic a b = common a b

abbrev pub may_join : OperatorClass → Kind → Kind → Bool
may_join Logical a b = true
may_join Equality a b = comparable a b
may_join Relation a b = true
may_join Shift a b = true
may_join Arithmetic a b = true

abbrev pub binary_kind : OperatorClass → Option Kind → Option Kind → Option Kind
binary_kind o None b = None
binary_kind o (Some a) None = None
binary_kind o (Some a) (Some b) = if may_join o a b then Some (binary_result o a b) else None

-- of operands that `==` does not compare the second is at fault
abbrev pub binary_notes : OperatorClass → Expression → Option Kind → Option Kind → List Note
binary_notes o e None b = []
binary_notes o e (Some a) None = []
binary_notes o e (Some a) (Some b) = fault_unless (may_join o a b) (place e) TypeMismatch

-- 6.3.2.1: an lvalue is a variable, `e[i]`, `*e`, `e.f` or `e->f`; parentheses do not matter. An unknown name may be a
-- variable

abbrev pub is_function_name : Option Entry → Bool
is_function_name None = false
is_function_name (Some e) = is_function e.meaning

abbrev pub names_function : List Entry → Expression → Bool
names_function names (identifier s i) = is_function_name (look_up names i.text)
names_function names _ = false

abbrev pub is_place : List Entry → Expression → Bool
is_place names e = is_lvalue e && not (names_function names (without_parentheses e))

abbrev pub place_kind : List Entry → Expression → Option Kind → Option Kind
place_kind names e kind = if is_place names e then kind else None

abbrev pub place_notes : List Entry → Expression → List Note
place_notes names e = fault_unless (is_place names e) (place e) NoLvalue

-- own: `join` and `print` take an integer, `lock` and `unlock` a mutex, `free` a pointer

abbrev pub value_call_kind : Option Kind → Option Kind
value_call_kind None = None
value_call_kind (Some k) = Some void

abbrev pub suits : PlaceCall → Kind → Bool
suits Lock k = same_kind k mutex
suits Unlock k = same_kind k mutex
suits Free k = is_pointer k

abbrev pub place_call_kind : PlaceCall → Option Kind → Option Kind
place_call_kind w None = None
place_call_kind w (Some k) = if suits w k then Some void else None

abbrev pub place_call_notes : ℕ → PlaceCall → Option Kind → List Note
place_call_notes word w None = []
place_call_notes word w (Some k) = fault_unless (suits w k) word BadForm

-- own: a sharing cast takes a pointer and keeps its C type

abbrev pub keeps_kind : Bool → WrittenType → Kind → Bool
keeps_kind fine w k = fine && same_kind k (declared_kind w)

abbrev pub cast_kind : Bool → WrittenType → Option Kind → Option Kind
cast_kind fine w None = None
cast_kind fine w (Some k) = if is_pointer k && keeps_kind fine w k then Some (declared_kind w) else None

abbrev pub cast_notes : ℕ → Bool → WrittenType → Expression → Option Kind → List Note
cast_notes word fine w e None = []
cast_notes word fine w e (Some k) =
    if is_pointer k then fault_unless (keeps_kind fine w k || not fine) (place e) TypeMismatch
    else fault word BadForm ∷ []

-- 6.5.2.2: what is called is a function and takes as many arguments as it has parameters, and each agrees with its
-- parameter. `main` is not called

abbrev pub count : Arguments → ℕ
count no_arguments = 0
count (argument a rest) = count rest + 1

abbrev pub takes : ℕ → Option (List Kind) → Bool
takes n None = false
takes n (Some parameters) = length parameters == n

-- of what is no function nothing is said here where an lvalue is needed: it is not one
abbrev pub uncalled_notes : Standing → ℕ → List Note
uncalled_notes AsValue token = fault token TypeMismatch ∷ []
uncalled_notes AsLvalue token = []

abbrev pub count_notes : Standing → ℕ → ℕ → Option (List Kind) → List Note
count_notes stands token n None = uncalled_notes stands token
count_notes stands token n (Some parameters) = fault_unless (length parameters == n) token ArgumentCount

abbrev pub callee_notes : Standing → ℕ → ℕ → Option Entry → List Note
callee_notes stands token n None = fault token UnknownName ∷ []
callee_notes stands token n (Some e) = refers token (named_of e.meaning)
    ∷ (main_notes token e.meaning ++ count_notes stands token n (parameters_of e.meaning))

-- what this many arguments have to agree with: nothing where their number is wrong
abbrev pub wanted_if : Bool → Option (List Kind) → List Kind
wanted_if fits None = []
wanted_if fits (Some parameters) = if fits then parameters else []

abbrev pub wanted : ℕ → Option Entry → List Kind
wanted n None = []
wanted n (Some e) = wanted_if (takes n (parameters_of e.meaning)) (parameters_of e.meaning)

abbrev pub call_result : ℕ → Option Entry → Option Kind
call_result n None = None
call_result n (Some e) =
    if takes n (parameters_of e.meaning) && not (is_main e.meaning) then Some (result_of e.meaning) else None

abbrev pub call_kind : Option Kind → Bool → Option Kind
call_kind result fine = if fine then result else None

-- own: `spawn` takes a void function of the program with one parameter, which is not `main`

abbrev pub can_spawn : Meaning → Bool
can_spawn (variable d) = false
can_spawn (global number g) = false
can_spawn (function number f) =
    same_kind (declared_kind f.result) void && (length f.parameters == 1 && not (is_main (function number f)))
can_spawn (condition c) = false

abbrev pub spawn_notes : ℕ → ℕ → Option Entry → List Note
spawn_notes word token None = fault token UnknownName ∷ []
spawn_notes word token (Some e) =
    refers token (named_of e.meaning) ∷ (main_notes token e.meaning ++ fault_unless (can_spawn e.meaning) word BadForm)

abbrev pub may_spawn : Option Entry → Bool
may_spawn None = false
may_spawn (Some e) = can_spawn e.meaning

abbrev pub spawn_wanted : Option Entry → Option Kind
spawn_wanted entry = first_wanted (wanted 1 entry)

abbrev pub spawn_kind : Bool → Bool → Option Kind → Option Kind
spawn_kind well fine None = None
spawn_kind well fine (Some k) = if well && fine then Some int else None

-- the type of an expression, or none where there is a fault in it
abbrev mutual
  pub type_of : Scope → Expression → Option Kind
  type_of scope (identifier s i) = name_kind (look_up scope.names i.text)
  type_of scope (constant s c) = Some (constant_kind c)
  type_of scope (parentheses s a) = type_of scope a
  type_of scope (call s f all) = call_kind (call_result (count all) (look_up scope.names f.text))
      (are_fine scope (wanted (count all) (look_up scope.names f.text)) all)
  type_of scope (spawn s f a) = spawn_kind (may_spawn (look_up scope.names f.text))
      (agreed (spawn_wanted (look_up scope.names f.text)) (met Value (type_of scope a))) (met Value (type_of scope a))
  type_of scope (on_value s w a) = value_call_kind (met Integer (type_of scope a))
  type_of scope (on_place s w a) = place_call_kind w (place_kind scope.names a (type_of scope a))
  type_of scope (cast s t a) = cast_kind (is_fine scope.structs Cast t) t (place_kind scope.names a (type_of scope a))
  type_of scope (index s a i) = element_of (met Indexed (type_of scope a)) (met Integer (type_of scope i))
  type_of scope (field s a w n) = field_kind (field_in scope.structs n.text (met (access_need w) (type_of scope a)))
  type_of scope (unary s o a) = unary_kind o (met (operand_need o) (type_of scope a))
  type_of scope (binary s o at a b) = binary_kind (class_of o) (met (operands_need (class_of o)) (type_of scope a))
      (met (operands_need (class_of o)) (type_of scope b))

  -- whether each argument has a type that agrees with its parameter
  pub are_fine : Scope → List Kind → Arguments → Bool
  are_fine scope wanted no_arguments = true
  are_fine scope wanted (argument a rest) =
      (is_some (met Value (type_of scope a)) && agreed (first_wanted wanted) (met Value (type_of scope a)))
      && are_fine scope (drop 1 wanted) rest

-- the faults that are in an expression, where its value or an lvalue is needed, and what its names name
abbrev mutual
  pub notes_at : Standing → Scope → Expression → List Note
  notes_at stands scope (identifier s i) = name_notes i.site.token (look_up scope.names i.text)
  notes_at stands scope (constant s c) = []
  notes_at stands scope (parentheses s a) = notes_at stands scope a
  notes_at stands scope (call s f all) = callee_notes stands f.site.token (count all) (look_up scope.names f.text)
      ++ notes_of_all scope (wanted (count all) (look_up scope.names f.text)) all
  notes_at stands scope (spawn s f a) = notes_at AsValue scope a ++ unmet Value a (type_of scope a)
      ++ spawn_notes s.first.token f.site.token (look_up scope.names f.text)
      ++ unagreed (spawn_wanted (look_up scope.names f.text)) a (met Value (type_of scope a))
  notes_at stands scope (on_value s w a) = notes_at AsValue scope a ++ unmet Integer a (type_of scope a)
  notes_at stands scope (on_place s w a) = notes_at AsLvalue scope a ++ place_notes scope.names a
      ++ place_call_notes s.first.token w (place_kind scope.names a (type_of scope a))
  notes_at stands scope (cast s t a) =
      type_notes scope [] Cast t ++ notes_at AsLvalue scope a ++ place_notes scope.names a
      ++ cast_notes s.first.token (is_fine scope.structs Cast t) t a (place_kind scope.names a (type_of scope a))
  notes_at stands scope (index s a i) = notes_at AsValue scope a ++ unmet Indexed a (type_of scope a)
      ++ notes_at AsValue scope i ++ unmet Integer i (type_of scope i)
  notes_at stands scope (field s a w n) = notes_at AsValue scope a ++ unmet (access_need w) a (type_of scope a)
      ++ field_notes n.site.token (field_in scope.structs n.text (met (access_need w) (type_of scope a)))
  notes_at stands scope (unary s o a) = notes_at AsValue scope a ++ unmet (operand_need o) a (type_of scope a)
  notes_at stands scope (binary s o at a b) =
      notes_at AsValue scope a ++ unmet (operands_need (class_of o)) a (type_of scope a)
      ++ notes_at AsValue scope b ++ unmet (operands_need (class_of o)) b (type_of scope b)
      ++ binary_notes (class_of o) b (met (operands_need (class_of o)) (type_of scope a))
      (met (operands_need (class_of o)) (type_of scope b))

  pub notes_of_all : Scope → List Kind → Arguments → List Note
  notes_of_all scope wanted no_arguments = []
  notes_of_all scope wanted (argument a rest) = notes_at AsValue scope a ++ unmet Value a (type_of scope a)
      ++ unagreed (first_wanted wanted) a (met Value (type_of scope a)) ++ notes_of_all scope (drop 1 wanted) rest

abbrev pub notes_of : Scope → Expression → List Note
notes_of = notes_at AsValue
