-- The constraints of C11 6.5 as a relation: which types the subset's expressions have, one rule for each form. It
-- speaks of what names name, and of no scope.
use Rattle.std.specs.Prelude.{◌≡◌, ◌⊎◌, IsTrue, ℕ, ◌+◌, List, [], ◌∷◌, Option, Some, None, if◌then◌else◌, codes}
use Rattle.std.specs.Str.{bytes_eq}
use Rattle.sharc_tree.specs.{declared.ctype.Base.Base, declared.token.Span.Span, declared.token.Site.Site}
use Rattle.sharc_tree.specs.declared.tree.declaration.Identifier.{Identifier}
use Rattle.sharc_tree.specs.declared.tree.declaration.WrittenType.{WrittenType}
use Rattle.sharc_tree.specs.declared.tree.declaration.Declaration.{Declaration}
use Rattle.sharc_tree.specs.declared.tree.item.StructDefinition.{StructDefinition}
use Rattle.sharc_tree.specs.declared.tree.item.GlobalDefinition.{GlobalDefinition}
use Rattle.sharc_tree.specs.declared.tree.expression.FieldOperator.TheVariants.{Dot, Arrow}
use Rattle.sharc_tree.specs.declared.tree.expression.BinaryOperator.{BinaryOperator}
use Rattle.sharc_tree.specs.declared.tree.expression.UnaryOperator.TheVariants.{Negate, Not, Complement, Dereference}
use Rattle.sharc_tree.specs.declared.tree.expression.ValueCall.{ValueCall}
use Rattle.sharc_tree.specs.declared.tree.expression.PlaceCall.TheVariants.{Lock, Unlock, Free}
use Rattle.sharc_tree.specs.{declared.tree.expression.Constant.Constant, Forms.is_lvalue}
use Rattle.sharc_tree.specs.Tree.{Expression, identifier, constant, parentheses, call, spawn, on_value, on_place, cast}
use Rattle.sharc_tree.specs.Tree.{index, field, unary, binary, Arguments, no_arguments, argument, Function}
use Rattle.sharc_tree.specs.declared.ctype.Base.TheVariants as base
use Rattle.sharc_names.specs.declared.fault.Named.TheVariants as named
use Rattle.sharc_names.specs.declared.meaning.ConditionCall.{ConditionCall}
use Rattle.sharc_names.specs.declared.meaning.ConditionCall.TheVariants.{Wait, Signal, Broadcast}
use Rattle.sharc_names.specs.Kinds.{Kind, object, array, null, int, long, void, mutex, declared_kind, declared_kinds}
use Rattle.sharc_names.specs.Kinds.{is_integral}
use Rattle.sharc_names.specs.Names.{condition_parameters, field_of, global_kind}
use Rattle.sharc_names.specs.Kinds as kinds
use Rattle.sharc_ctype.specs.declared.expr.OperatorClass.TheVariants.{Logical, Equality, Relation, Shift, Arithmetic}
use Rattle.sharc_ctype.specs.Expressions.{class_of, constant_kind}
use Rattle.sharc_ctype.specs.Resolved.{Resolution, structs_in, named_at, declaration_at, global_at, function_at}

-- 6.2.5: integers are those without a star, pointers those with one or more

abbrev pub IsInteger : Kind → Type 0
IsInteger k = (b : Base) × IsTrue (is_integral b) × (k ≡ object b 0)

abbrev pub IsPointer : Kind → Type 0
IsPointer k = (b : Base) × (n : ℕ) × (k ≡ object b (n + 1))

-- 6.2.5p21, with NULL (6.3.2.3p3)
abbrev pub IsScalar : Kind → Type 0
IsScalar k = IsInteger k ⊎ (IsPointer k ⊎ (k ≡ null))

-- 6.3.1.8: the type in which two operands meet is `long` where one of them is, else `int`
pub data Common : Kind → Kind → Kind → Type 0 where
  both_shorter : {a b : Kind} → (a ≡ long → ⊥) → (b ≡ long → ⊥) → Common a b int
  left_long : {b : Kind} → Common long b long
  right_long : {a : Kind} → Common a long long

-- 6.5.9p2
pub data Comparable : Kind → Kind → Type 0 where
  integers : {a b : Kind} → IsInteger a → IsInteger b → Comparable a b
  pointers : {a : Kind} → IsPointer a → Comparable a a
  pointer_and_null : {a : Kind} → IsPointer a → Comparable a null
  null_and_pointer : {b : Kind} → IsPointer b → Comparable null b

-- 6.5.16.1p1
pub data Assignable : Kind → Kind → Type 0 where
  integer : {a b : Kind} → IsInteger a → IsInteger b → Assignable a b
  pointer : {a : Kind} → IsPointer a → Assignable a a
  null_pointer : {a : Kind} → IsPointer a → Assignable a null

-- the first struct of that name
abbrev pub struct_named : List StructDefinition → List ℕ → Option StructDefinition
struct_named [] name = None
struct_named (s ∷ rest) name = if bytes_eq s.name.text name then Some s else struct_named rest name

-- 6.5.2.3p1: a member of the struct of that name
abbrev pub IsMemberOf : Resolution → List ℕ → List ℕ → Declaration → Type 0
IsMemberOf r struct name d = (s : StructDefinition) × (struct_named (structs_in r.program.items) struct ≡ Some s)
    × (field_of s.fields name ≡ Some d)

-- the names of the known calls
abbrev pub name_of : ConditionCall → List ℕ
name_of Wait = codes "wait"
name_of Signal = codes "signal"
name_of Broadcast = codes "broadcast"

-- what a call by this name may pass, and what it gives (6.5.2.2; own: the known calls, and that `main` is not used)
pub data Callee (r : Resolution) : Identifier → List Kind → Kind → Type 0 where
  of_program : {i : Identifier} {n : ℕ} → (f : Function)
      → named_at r i.site.token ≡ named.Function n → function_at r n ≡ Some f → f.name.text ≡ i.text
      → (i.text ≡ codes "main" → ⊥) → Callee r i (declared_kinds f.parameters) (declared_kind f.result)
  of_conditions : {i : Identifier} → (c : ConditionCall) → named_at r i.site.token ≡ named.Known → i.text ≡ name_of c
      → Callee r i (condition_parameters c) void

mutual
  pub data HasType (r : Resolution) : Expression → Kind → Type 0 where
    -- 6.5.1
    a_variable : {s : Span} {i : Identifier} {token : ℕ} {d : Declaration}
        → named_at r i.site.token ≡ named.Variable token → declaration_at r token ≡ Some d → d.name.text ≡ i.text
        → HasType r (identifier s i) (declared_kind d.written)
    a_global : {s : Span} {i : Identifier} {n : ℕ} {g : GlobalDefinition}
        → named_at r i.site.token ≡ named.Global n → global_at r n ≡ Some g → g.declaration.name.text ≡ i.text
        → HasType r (identifier s i) (global_kind g.form (declared_kind g.declaration.written))
    -- 6.5.1p2: a function designator; no rule below takes one
    a_function : {s : Span} {i : Identifier} {parameters : List Kind} {result : Kind} → Callee r i parameters result
        → HasType r (identifier s i) kinds.function
    a_constant : {s : Span} {c : Constant} → HasType r (constant s c) (constant_kind c)
    in_parentheses : {s : Span} {a : Expression} {k : Kind} → HasType r a k → HasType r (parentheses s a) k
    -- 6.5.2.1
    element_of_pointer : {s : Span} {a i : Expression} {b : Base} {n : ℕ} {k : Kind} → HasType r a (object b (n + 1))
        → HasType r i k → IsInteger k → HasType r (index s a i) (object b n)
    element_of_array : {s : Span} {a i : Expression} {b : Base} {n : ℕ} {k : Kind} → HasType r a (array b n)
        → HasType r i k → IsInteger k → HasType r (index s a i) (object b n)
    -- 6.5.2.2
    a_call : {s : Span} {f : Identifier} {all : Arguments} {parameters : List Kind} {result : Kind}
        → Callee r f parameters result → HaveTypes r all parameters → HasType r (call s f all) result
    -- 6.5.2.3
    a_field : {s : Span} {a : Expression} {x : List ℕ} {name : Identifier} {d : Declaration}
        → HasType r a (object (base.Struct x) 0) → IsMemberOf r x name.text d → named_at r name.site.token
        ≡ named.Field d.name.site.token → HasType r (field s a Dot name) (declared_kind d.written)
    a_field_behind : {s : Span} {a : Expression} {x : List ℕ} {name : Identifier} {d : Declaration}
        → HasType r a (object (base.Struct x) 1) → IsMemberOf r x name.text d → named_at r name.site.token
        ≡ named.Field d.name.site.token → HasType r (field s a Arrow name) (declared_kind d.written)
    -- 6.5.3
    negated : {s : Span} {a : Expression} {k t : Kind} → HasType r a k → IsInteger k → Common k int t
        → HasType r (unary s Negate a) t
    complemented : {s : Span} {a : Expression} {k t : Kind} → HasType r a k → IsInteger k → Common k int t
        → HasType r (unary s Complement a) t
    denied : {s : Span} {a : Expression} {k : Kind} → HasType r a k → IsScalar k → HasType r (unary s Not a) int
    pointed_to : {s : Span} {a : Expression} {b : Base} {n : ℕ} → HasType r a (object b (n + 1))
        → HasType r (unary s Dereference a) (object b n)
    -- 6.5.5, 6.5.6, 6.5.10 to 6.5.12
    arithmetic : {s : Span} {o : BinaryOperator} {at : Site} {a b : Expression} {j k t : Kind}
        → class_of o ≡ Arithmetic → HasType r a j → HasType r b k → IsInteger j → IsInteger k → Common j k t
        → HasType r (binary s o at a b) t
    -- 6.5.7
    shifted : {s : Span} {o : BinaryOperator} {at : Site} {a b : Expression} {j k t : Kind}
        → class_of o ≡ Shift → HasType r a j → HasType r b k → IsInteger j → IsInteger k → Common j int t
        → HasType r (binary s o at a b) t
    -- 6.5.8
    related : {s : Span} {o : BinaryOperator} {at : Site} {a b : Expression} {j k : Kind}
        → class_of o ≡ Relation → HasType r a j → HasType r b k → IsInteger j → IsInteger k
        → HasType r (binary s o at a b) int
    -- 6.5.9
    equated : {s : Span} {o : BinaryOperator} {at : Site} {a b : Expression} {j k : Kind}
        → class_of o ≡ Equality → HasType r a j → HasType r b k → Comparable j k → HasType r (binary s o at a b) int
    -- 6.5.13 and 6.5.14
    joined : {s : Span} {o : BinaryOperator} {at : Site} {a b : Expression} {j k : Kind}
        → class_of o ≡ Logical → HasType r a j → HasType r b k → IsScalar j → IsScalar k
        → HasType r (binary s o at a b) int
    -- own: threads, mutexes, printing, sharing casts
    spawned : {s : Span} {f : Identifier} {a : Expression} {parameter : Kind} → Callee r f (parameter ∷ []) void
        → HaveTypes r (argument a no_arguments) (parameter ∷ []) → HasType r (spawn s f a) int
    printed_or_joined : {s : Span} {w : ValueCall} {a : Expression} {k : Kind} → HasType r a k → IsInteger k
        → HasType r (on_value s w a) void
    locked : {s : Span} {a : Expression} → IsTrue (is_lvalue a) → HasType r a mutex → HasType r (on_place s Lock a) void
    unlocked : {s : Span} {a : Expression} → IsTrue (is_lvalue a) → HasType r a mutex
        → HasType r (on_place s Unlock a) void
    freed : {s : Span} {a : Expression} {k : Kind} → IsTrue (is_lvalue a) → HasType r a k → IsPointer k
        → HasType r (on_place s Free a) void
    a_cast : {s : Span} {t : WrittenType} {a : Expression} → IsTrue (is_lvalue a) → HasType r a (declared_kind t)
        → IsPointer (declared_kind t) → HasType r (cast s t a) (declared_kind t)

  pub data HaveTypes (r : Resolution) : Arguments → List Kind → Type 0 where
    none_left : HaveTypes r no_arguments []
    one_more : {a : Expression} {rest : Arguments} {parameter k : Kind} {parameters : List Kind}
        → HasType r a k → Assignable parameter k → HaveTypes r rest parameters
        → HaveTypes r (argument a rest) (parameter ∷ parameters)
