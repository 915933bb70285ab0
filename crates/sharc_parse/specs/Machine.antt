-- Reading word by word: what is still open, and what comes next.
use Rattle.std.specs.Prelude.{ℕ, suc, List, [], ◌∷◌, ◌++◌, Option, Some, None, Bool, true, false, nat_le, cond}
use Rattle.sharc_tree.specs.declared.token.Keyword.TheVariants as key
use Rattle.sharc_tree.specs.declared.token.Punctuator.TheVariants.{OpenParenthesis, CloseParenthesis, OpenBrace}
use Rattle.sharc_tree.specs.declared.token.Punctuator.TheVariants.{CloseBrace, OpenBracket, CloseBracket, Semicolon}
use Rattle.sharc_tree.specs.declared.token.Punctuator.TheVariants.{Comma, Dot, Arrow, Assign, Equal, NotEqual, Less}
use Rattle.sharc_tree.specs.declared.token.Punctuator.TheVariants.{Greater, LessOrEqual, GreaterOrEqual, ShiftLeft}
use Rattle.sharc_tree.specs.declared.token.Punctuator.TheVariants.{ShiftRight, Plus, Minus, Star, Slash, Percent}
use Rattle.sharc_tree.specs.declared.token.Punctuator.TheVariants.{Ampersand, AndAnd, Bar, OrOr, Caret, Exclamation}
use Rattle.sharc_tree.specs.declared.token.Punctuator.TheVariants.{Tilde}
use Rattle.sharc_tree.specs.{declared.ctype.Base.Base, declared.tree.expression.BinaryOperator.BinaryOperator}
use Rattle.sharc_tree.specs.declared.tree.expression.UnaryOperator.{UnaryOperator}
use Rattle.sharc_tree.specs.declared.tree.expression.UnaryOperator.TheVariants.{Negate, Not, Complement, Dereference}
use Rattle.sharc_tree.specs.declared.tree.expression.FieldOperator.{FieldOperator}
use Rattle.sharc_tree.specs.declared.tree.expression.Constant.{Constant}
use Rattle.sharc_tree.specs.declared.ctype.Base.TheVariants as base
use Rattle.sharc_tree.specs.declared.tree.expression.BinaryOperator.TheVariants as op
use Rattle.sharc_tree.specs.declared.tree.expression.FieldOperator.TheVariants as access
use Rattle.sharc_tree.specs.declared.tree.expression.ValueCall.TheVariants as value_call
use Rattle.sharc_tree.specs.declared.tree.expression.PlaceCall.TheVariants as place_call
use Rattle.sharc_tree.specs.declared.tree.statement.Jump.TheVariants as jumps
use Rattle.sharc_tree.specs.declared.tree.expression.Constant.TheVariants as constants
use Rattle.sharc_parse.specs.Grammar.{Word, name, keyword, mark, number, character, Sharing, private, readonly, racy}
use Rattle.sharc_parse.specs.Grammar.{dynamic, locked, locked_through, Typing, Declaring, Front, parenthesis, of_spawn}
use Rattle.sharc_parse.specs.Grammar.{of_value, of_place, of_cast, Phrase, identifier, constant, enclosed, call, index}
use Rattle.sharc_parse.specs.Grammar.{field, unary, binary, Phrases, none, more, strength, front_level, Value, value}
use Rattle.sharc_parse.specs.Grammar.{malloc, Doing, assign, invoke, Line, nothing, does, declares, Sentence, line}
use Rattle.sharc_parse.specs.Grammar.{jump, return, block, under, Sentences, no_more, sentence, Opening, if_of, else_of}
use Rattle.sharc_parse.specs.Grammar.{while_of, for_of, is_call, single, array, initially, Part, structure, global}
use Rattle.sharc_parse.specs.Grammar.{function}

-- what is around a statement, from the inside out
pub data Outer : Type 0 where
  body : List Part → Typing → List ℕ → List Declaring → Sentences → Outer
  items : Sentences → Outer → Outer
  inside : Opening → Outer → Outer

pub data LinePlace : Type 0 where
  as_statement : LinePlace
  as_first : LinePlace

pub data DoingPlace : Type 0 where
  in_line : LinePlace → DoingPlace
  as_step : Line → Option Phrase → DoingPlace

-- where a value is on the right of `=`
pub data ValuePlace : Type 0 where
  of_doing : DoingPlace → Phrase → ValuePlace
  of_local : LinePlace → Declaring → ValuePlace

pub data Asked : Type 0 where
  by_if : Asked
  by_while : Asked

-- what a whole expression is in a statement
pub data ExpressionPlace : Type 0 where
  condition : Asked → ExpressionPlace
  returning : ExpressionPlace
  testing : Line → ExpressionPlace
  subject : DoingPlace → ExpressionPlace
  valued : ValuePlace → ExpressionPlace
  counting : ValuePlace → ExpressionPlace

-- what is around an operand, from the inside out
pub data Cont : Type 0 where
  part : ExpressionPlace → Outer → Cont
  beneath : UnaryOperator → Cont → Cont
  right_of : Phrase → BinaryOperator → Cont → Cont
  fronted : Front → Cont → Cont
  indexing : Phrase → Cont → Cont
  arguments : List ℕ → Phrases → Cont → Cont

-- where a type and a name are written
pub data NamePlace : Type 0 where
  on_top : List Part → NamePlace
  field_of : List Part → List ℕ → List Declaring → NamePlace
  parameter_of : List Part → Typing → List ℕ → List Declaring → NamePlace
  local : LinePlace → Outer → NamePlace

pub data TypePlace : Type 0 where
  naming : NamePlace → TypePlace
  casting : Cont → TypePlace
  sizing : ValuePlace → Option Phrase → Outer → TypePlace

pub data ModePlace : Type 0 where
  before_base : TypePlace → ModePlace
  at_level : TypePlace → Bool → Base → List (Option Sharing) → ModePlace

pub data Core : Type 0 where
  Want : Cont → Core
  Have : Phrase → Cont → Core
  Called : List ℕ → Cont → Core
  Dotted : Phrase → FieldOperator → Cont → Core
  Spawning : Cont → Core
  Start : Outer → Core
  Done : Sentence → Outer → Core
  Returning : Outer → Core
  ForOpen : Outer → Core
  ForTest : Line → Outer → Core
  ForStep : Line → Option Phrase → Outer → Core
  Malloced : ValuePlace → Outer → Core
  Valued : ValuePlace → Value → Outer → Core
  TypeWant : TypePlace → Core
  ModeFirst : TypePlace → Sharing → Core
  StructWant : TypePlace → Option Sharing → Core
  Typed : TypePlace → Bool → Base → Option Sharing → List (Option Sharing) → Core
  PathWant : ModePlace → Core
  PathNamed : ModePlace → List ℕ → Core
  PathThrough : ModePlace → List ℕ → Core
  Named : NamePlace → Typing → List ℕ → Core
  Fields : List Part → List ℕ → List Declaring → Core
  ArrayWant : List Part → Declaring → Core
  InitialWant : List Part → Declaring → Core
  InitialNegative : List Part → Declaring → Core
  Top : List Part → Core

-- words that have to come next
pub data Fixed : Type 0 where
  an_open : Fixed
  a_close : Fixed
  a_semicolon : Fixed
  a_comma : Fixed
  a_brace : Fixed
  a_bracket : Fixed
  an_ampersand : Fixed
  a_sizeof : Fixed

pub data State : Type 0 where
  At : List Fixed → Core → State

abbrev pub fixed_word : Fixed → Word
fixed_word an_open = mark OpenParenthesis
fixed_word a_close = mark CloseParenthesis
fixed_word a_semicolon = mark Semicolon
fixed_word a_comma = mark Comma
fixed_word a_brace = mark OpenBrace
fixed_word a_bracket = mark CloseBracket
fixed_word an_ampersand = mark Ampersand
fixed_word a_sizeof = keyword key.Sizeof

abbrev pub fixed_words : List Fixed → List Word → List Word
fixed_words [] y = y
fixed_words (f ∷ fs) y = fixed_word f ∷ fixed_words fs y

abbrev pub is_fixed : Fixed → Word → Bool
is_fixed an_open (mark OpenParenthesis) = true
is_fixed a_close (mark CloseParenthesis) = true
is_fixed a_semicolon (mark Semicolon) = true
is_fixed a_comma (mark Comma) = true
is_fixed a_brace (mark OpenBrace) = true
is_fixed a_bracket (mark CloseBracket) = true
is_fixed an_ampersand (mark Ampersand) = true
is_fixed a_sizeof (keyword key.Sizeof) = true
is_fixed _ _ = false

abbrev pub or_else : Option State → Option State → Option State
or_else (Some s) b = Some s
or_else None b = b

-- that state with nothing that has to come first
abbrev pub to : Core → Option State
to c = Some (At [] c)

-- what a word is after an operand
pub data Role : Type 0 where
  Calling : Role
  Indexing : Role
  Accessing : FieldOperator → Role
  Operating : BinaryOperator → Role
  Ending : Role

abbrev pub role : Word → Role
role (mark OpenParenthesis) = Calling
role (mark OpenBracket) = Indexing
role (mark Dot) = Accessing access.Dot
role (mark Arrow) = Accessing access.Arrow
role (mark OrOr) = Operating op.LogicalOr
role (mark AndAnd) = Operating op.LogicalAnd
role (mark Bar) = Operating op.BitOr
role (mark Caret) = Operating op.BitXor
role (mark Ampersand) = Operating op.BitAnd
role (mark Equal) = Operating op.Equal
role (mark NotEqual) = Operating op.NotEqual
role (mark Less) = Operating op.Less
role (mark Greater) = Operating op.Greater
role (mark LessOrEqual) = Operating op.LessOrEqual
role (mark GreaterOrEqual) = Operating op.GreaterOrEqual
role (mark ShiftLeft) = Operating op.ShiftLeft
role (mark ShiftRight) = Operating op.ShiftRight
role (mark Plus) = Operating op.Add
role (mark Minus) = Operating op.Subtract
role (mark Star) = Operating op.Multiply
role (mark Slash) = Operating op.Divide
role (mark Percent) = Operating op.Remainder
role _ = Ending

-- how tightly a word binds what comes before it
abbrev pub grip_of : Role → ℕ
grip_of (Operating o) = strength o
grip_of Ending = 0
grip_of _ = 12

abbrev pub grip : List Word → ℕ
grip [] = 0
grip (t ∷ y) = grip_of (role t)

abbrev pub joined : Phrases → Phrases → Phrases
joined none b = b
joined (more a rest) b = more a (joined rest b)

abbrev pub with_last : Phrases → Phrase → Phrases
with_last all a = joined all (more a none)

-- how tightly an operand has to hold together
abbrev pub floor : Cont → ℕ
floor (part (subject d) o) = 11
floor (part (counting v) o) = 11
floor (part p o) = 0
floor (beneath u k) = 11
floor (right_of a o k) = suc (strength o)
floor (fronted f k) = front_level f
floor (indexing a k) = 0
floor (arguments f all k) = 0

-- the operators that bind at least as tightly take their operand
abbrev pub settle : ℕ → Phrase → Cont → Phrase × Cont
settle l x (beneath u k) = settle l (unary u x) k
settle l x (right_of a o k) = cond (nat_le l (strength o)) (settle l (binary o a x) k) (x, right_of a o k)
settle l x (part p o) = (x, part p o)
settle l x (fronted f k) = (x, fronted f k)
settle l x (indexing a k) = (x, indexing a k)
settle l x (arguments f all k) = (x, arguments f all k)

abbrev pub mallocs : Cont → Option State
mallocs (part (valued v) o) = Some (At (an_open ∷ []) (Malloced v o))
mallocs _ = None

abbrev pub want : Cont → Word → Option State
want k (name n) = to (Have (identifier n) k)
want k (number n) = to (Have (constant (constants.Number n)) k)
want k (character c) = to (Have (constant (constants.Character c)) k)
want k (keyword key.Null) = to (Have (constant constants.Null) k)
want k (mark Minus) = to (Want (beneath Negate k))
want k (mark Exclamation) = to (Want (beneath Not k))
want k (mark Tilde) = to (Want (beneath Complement k))
want k (mark Star) = to (Want (beneath Dereference k))
want k (mark OpenParenthesis) = to (Want (fronted parenthesis k))
want k (keyword key.Spawn) = Some (At (an_open ∷ []) (Spawning k))
want k (keyword key.Join) = Some (At (an_open ∷ []) (Want (fronted (of_value value_call.Join) k)))
want k (keyword key.Print) = Some (At (an_open ∷ []) (Want (fronted (of_value value_call.Print) k)))
want k (keyword key.Lock) = Some (At (an_open ∷ an_ampersand ∷ []) (Want (fronted (of_place place_call.Lock) k)))
want k (keyword key.Unlock) = Some (At (an_open ∷ an_ampersand ∷ []) (Want (fronted (of_place place_call.Unlock) k)))
want k (keyword key.Free) = Some (At (an_open ∷ []) (Want (fronted (of_place place_call.Free) k)))
want k (keyword key.Scast) = Some (At (an_open ∷ []) (TypeWant (casting k)))
want k (keyword key.Malloc) = mallocs k
want k _ = None

abbrev pub open_call : Phrase → Cont → Option State
open_call (identifier f) k = to (Called f k)
open_call _ k = None

abbrev pub lined : LinePlace → Line → Outer → State
lined as_statement l o = At [] (Done (line l) o)
lined as_first l o = At [] (ForTest l o)

abbrev pub loop : Line → Option Phrase → Option Doing → Opening
loop l test step = for_of (record { first = l; test = test; step = step })

abbrev pub doing_end : DoingPlace → Doing → Outer → Word → Option State
doing_end (in_line p) x o (mark Semicolon) = Some (lined p (does x) o)
doing_end (as_step l test) x o (mark CloseParenthesis) = to (Start (inside (loop l test (Some x)) o))
doing_end _ _ _ _ = None

abbrev pub local_line : Declaring → Option Value → Line
local_line d r = declares (record { declaring = d; initial = r })

abbrev pub local_end : LinePlace → Declaring → Value → Outer → Word → Option State
local_end p d r o (mark Semicolon) = Some (lined p (local_line d (Some r)) o)
local_end p d r o _ = None

abbrev pub value_end : ValuePlace → Value → Outer → Word → Option State
value_end (of_doing d u) r o t = doing_end d (assign u r) o t
value_end (of_local p d) r o t = local_end p d r o t

abbrev pub asked : Asked → Phrase → Opening
asked by_if e = if_of e
asked by_while e = while_of e

-- the end of an expression in a statement
abbrev pub subject_end : DoingPlace → Phrase → Outer → Word → Option State
subject_end d x o (mark Assign) = to (Want (part (valued (of_doing d x)) o))
subject_end d x o t = cond (is_call x) (doing_end d (invoke x) o t) None

abbrev pub condition_end : Asked → Phrase → Outer → Word → Option State
condition_end q x o (mark CloseParenthesis) = to (Start (inside (asked q x) o))
condition_end q x o _ = None

abbrev pub return_end : Phrase → Outer → Word → Option State
return_end x o (mark Semicolon) = to (Done (return (Some x)) o)
return_end x o _ = None

abbrev pub test_end : Line → Phrase → Outer → Word → Option State
test_end l x o (mark Semicolon) = to (ForStep l (Some x) o)
test_end l x o _ = None

abbrev pub leave : ExpressionPlace → Phrase → Outer → Word → Option State
leave (condition q) x o t = condition_end q x o t
leave returning x o t = return_end x o t
leave (testing l) x o t = test_end l x o t
leave (subject d) x o t = subject_end d x o t
leave (valued v) x o t = value_end v (value x) o t
leave (counting v) x o t = None

abbrev pub front_end : Front → Phrase → Cont → Word → Option State
front_end f x k (mark CloseParenthesis) = to (Have (enclosed f x) k)
front_end f x k _ = None

abbrev pub index_end : Phrase → Phrase → Cont → Word → Option State
index_end a x k (mark CloseBracket) = to (Have (index a x) k)
index_end a x k _ = None

abbrev pub argument_end : List ℕ → Phrases → Phrase → Cont → Word → Option State
argument_end f all x k (mark Comma) = to (Want (arguments f (with_last all x) k))
argument_end f all x k (mark CloseParenthesis) = to (Have (call f (with_last all x)) k)
argument_end f all x k _ = None

abbrev pub end_at : Phrase → Cont → Word → Option State
end_at x (fronted f k) t = front_end f x k t
end_at x (indexing a k) t = index_end a x k t
end_at x (arguments f all k) t = argument_end f all x k t
end_at x (part p o) t = leave p x o t
end_at x (beneath u k) t = None
end_at x (right_of a o k) t = None

-- the `*` after the count of a malloc
abbrev pub counted : BinaryOperator → Phrase → Cont → Option State
counted op.Multiply x (part (counting v) o) = Some (At (a_sizeof ∷ an_open ∷ []) (TypeWant (sizing v (Some x) o)))
counted _ _ _ = None

-- an operator, where one may be
abbrev pub shift : BinaryOperator → Phrase → Cont → Option State
shift o x k = cond (nat_le (floor k) (strength o)) (to (Want (right_of x o k))) (counted o x k)

abbrev pub have : Role → Phrase → Cont → Word → Option State
have Calling x k t = open_call x k
have Indexing x k t = to (Want (indexing x k))
have (Accessing a) x k t = to (Dotted x a k)
have (Operating o) x k t = let s = settle (strength o) x k in shift o s.0 s.1
have Ending x k t = let s = settle 0 x k in end_at s.0 s.1 t

abbrev pub dotted : Phrase → FieldOperator → Cont → Word → Option State
dotted x a k (name n) = to (Have (field x a n) k)
dotted x a k _ = None

abbrev pub called : List ℕ → Cont → Word → Option State
called f k (mark CloseParenthesis) = to (Have (call f none) k)
called f k t = want (arguments f none k) t

abbrev pub spawning : Cont → Word → Option State
spawning k (name f) = Some (At (a_comma ∷ []) (Want (fronted (of_spawn f) k)))
spawning k _ = None

-- types

abbrev pub typing_of : Bool → Base → Option Sharing → List (Option Sharing) → Typing
typing_of first b m below = record { mode_first = first; base = b; levels = m ∷ below }

abbrev pub takes_modes : TypePlace → Bool
takes_modes (sizing v n o) = false
takes_modes _ = true

abbrev pub moded : ModePlace → Sharing → Core
moded (before_base p) s = ModeFirst p s
moded (at_level p first b below) s = Typed p first b (Some s) below

abbrev pub mode_step : ModePlace → Word → Option State
mode_step p (keyword key.Private) = to (moded p private)
mode_step p (keyword key.Readonly) = to (moded p readonly)
mode_step p (keyword key.Racy) = to (moded p racy)
mode_step p (keyword key.Dynamic) = to (moded p dynamic)
mode_step p (keyword key.Locked) = Some (At (an_open ∷ []) (PathWant p))
mode_step p _ = None

abbrev pub based : TypePlace → Option Sharing → Base → Core
based p None b = Typed p false b None []
based p (Some s) b = Typed p true b (Some s) []

abbrev pub base_step : TypePlace → Option Sharing → Word → Option State
base_step p m (keyword key.Int) = to (based p m base.Int)
base_step p m (keyword key.Char) = to (based p m base.Char)
base_step p m (keyword key.Long) = to (based p m base.Long)
base_step p m (keyword key.Mutex) = to (based p m base.Mutex)
base_step p m (keyword key.Void) = to (based p m base.Void)
base_step p m (keyword key.Struct) = to (StructWant p m)
base_step p m _ = None

abbrev pub begin_type : TypePlace → Word → Option State
begin_type p t = or_else (cond (takes_modes p) (mode_step (before_base p) t) None) (base_step p None t)

abbrev pub struct_want : TypePlace → Option Sharing → Word → Option State
struct_want p m (name n) = to (based p m (base.Struct n))
struct_want p m _ = None

abbrev pub level_step : TypePlace → Bool → Base → Option Sharing → List (Option Sharing) → Word → Option State
level_step p first b None below t = cond (takes_modes p) (mode_step (at_level p first b below) t) None
level_step p first b (Some s) below t = None

abbrev pub name_step : TypePlace → Typing → List ℕ → Option State
name_step (naming p) ty n = to (Named p ty n)
name_step _ ty n = None

abbrev pub comma_step : TypePlace → Typing → Option State
comma_step (casting k) ty = to (Want (fronted (of_cast ty) k))
comma_step _ ty = None

abbrev pub close_type : TypePlace → Bool → Base → Option Sharing → List (Option Sharing) → Option State
close_type (sizing v n o) first b m below = Some (At (a_close ∷ []) (Valued v (malloc n (typing_of first b m below)) o))
close_type (naming (parameter_of all r f [])) false base.Void None [] =
    Some (At (a_brace ∷ []) (Start (body all r f [] no_more)))
close_type _ _ _ _ _ = None

abbrev pub open_type : TypePlace → Bool → Base → Option Sharing → List (Option Sharing) → Option State
open_type (naming (on_top all)) false (base.Struct n) None [] = to (TypeWant (naming (field_of all n [])))
open_type _ _ _ _ _ = None

abbrev pub typed : TypePlace → Bool → Base → Option Sharing → List (Option Sharing) → Word → Option State
typed p first b m below (mark Star) = to (Typed p first b None (m ∷ below))
typed p first b m below (name n) = name_step p (typing_of first b m below) n
typed p first b m below (mark Comma) = comma_step p (typing_of first b m below)
typed p first b m below (mark CloseParenthesis) = close_type p first b m below
typed p first b m below (mark OpenBrace) = open_type p first b m below
typed p first b m below t = level_step p first b m below t

abbrev pub path_want : ModePlace → Word → Option State
path_want p (name n) = to (PathNamed p n)
path_want p _ = None

abbrev pub path_named : ModePlace → List ℕ → Word → Option State
path_named p n (mark CloseParenthesis) = to (moded p (locked n))
path_named p n (mark Arrow) = to (PathThrough p n)
path_named p n _ = None

abbrev pub path_through : ModePlace → List ℕ → Word → Option State
path_through p x (name m) = Some (At (a_close ∷ []) (moded p (locked_through x m)))
path_through p x _ = None

-- what a type and a name declare

abbrev pub declaring_of : Typing → List ℕ → Declaring
declaring_of ty n = record { typing = ty; named = n }

abbrev pub with_part : List Part → Part → List Part
with_part all p = all ++ p ∷ []

abbrev pub with_declaring : List Declaring → Declaring → List Declaring
with_declaring all d = all ++ d ∷ []

abbrev pub named_top : List Part → Typing → List ℕ → Word → Option State
named_top all ty n (mark Semicolon) = to (Top (with_part all (global (declaring_of ty n) single)))
named_top all ty n (mark OpenBracket) = to (ArrayWant all (declaring_of ty n))
named_top all ty n (mark Assign) = to (InitialWant all (declaring_of ty n))
named_top all ty n (mark OpenParenthesis) = to (TypeWant (naming (parameter_of all ty n [])))
named_top all ty n _ = None

abbrev pub named_field : List Part → List ℕ → List Declaring → Declaring → Word → Option State
named_field all s fields d (mark Semicolon) = to (Fields all s (with_declaring fields d))
named_field all s fields d _ = None

abbrev pub named_parameter : List Part → Typing → List ℕ → List Declaring → Declaring → Word → Option State
named_parameter all r f before d (mark Comma) = to (TypeWant (naming (parameter_of all r f (with_declaring before d))))
named_parameter all r f before d (mark CloseParenthesis) =
    Some (At (a_brace ∷ []) (Start (body all r f (with_declaring before d) no_more)))
named_parameter all r f before d _ = None

abbrev pub named_local : LinePlace → Outer → Declaring → Word → Option State
named_local p o d (mark Semicolon) = Some (lined p (local_line d None) o)
named_local p o d (mark Assign) = to (Want (part (valued (of_local p d)) o))
named_local p o d _ = None

abbrev pub named : NamePlace → Typing → List ℕ → Word → Option State
named (on_top all) ty n t = named_top all ty n t
named (field_of all s fields) ty n t = named_field all s fields (declaring_of ty n) t
named (parameter_of all r f before) ty n t = named_parameter all r f before (declaring_of ty n) t
named (local p o) ty n t = named_local p o (declaring_of ty n) t

abbrev pub fields : List Part → List ℕ → List Declaring → Word → Option State
fields all s done (mark CloseBrace) = Some (At (a_semicolon ∷ []) (Top (with_part all (structure s done))))
fields all s done t = begin_type (naming (field_of all s done)) t

abbrev pub array_want : List Part → Declaring → Word → Option State
array_want all d (number n) = Some (At (a_bracket ∷ a_semicolon ∷ []) (Top (with_part all (global d (array n)))))
array_want all d _ = None

abbrev pub initially_of : List Part → Declaring → Bool → Constant → Option State
initially_of all d negative c = Some (At (a_semicolon ∷ []) (Top (with_part all (global d (initially negative c)))))

abbrev pub initial_negative : List Part → Declaring → Word → Option State
initial_negative all d (number n) = initially_of all d true (constants.Number n)
initial_negative all d (character c) = initially_of all d true (constants.Character c)
initial_negative all d _ = None

abbrev pub initial_want : List Part → Declaring → Word → Option State
initial_want all d (mark Minus) = to (InitialNegative all d)
initial_want all d (number n) = initially_of all d false (constants.Number n)
initial_want all d (character c) = initially_of all d false (constants.Character c)
initial_want all d (keyword key.Null) = initially_of all d false constants.Null
initial_want all d _ = None

-- statements

abbrev pub with_item : Sentences → Sentence → Sentences
with_item no_more s = sentence s no_more
with_item (sentence a rest) s = sentence a (with_item rest s)

abbrev pub function_of : Typing → List ℕ → List Declaring → Sentences → Part
function_of r f given all = function (record { result = r; named = f; parameters = given; body = all })

abbrev pub close_block : Outer → Option State
close_block (items all o) = to (Done (block all) o)
close_block (body before r f given all) = to (Top (with_part before (function_of r f given all)))
close_block (inside w o) = None

abbrev pub holds_items : Outer → Bool
holds_items (inside w o) = false
holds_items _ = true

abbrev pub may_declare : LinePlace → Outer → Bool
may_declare as_first o = true
may_declare as_statement o = holds_items o

abbrev pub line_start : LinePlace → Outer → Word → Option State
line_start p o (mark Semicolon) = Some (lined p nothing o)
line_start p o t =
    or_else (cond (may_declare p o) (begin_type (naming (local p o)) t) None) (want (part (subject (in_line p)) o) t)

abbrev pub start : Outer → Word → Option State
start o (mark CloseBrace) = close_block o
start o (mark OpenBrace) = to (Start (items no_more o))
start o (keyword key.If) = Some (At (an_open ∷ []) (Want (part (condition by_if) o)))
start o (keyword key.While) = Some (At (an_open ∷ []) (Want (part (condition by_while) o)))
start o (keyword key.For) = Some (At (an_open ∷ []) (ForOpen o))
start o (keyword key.Break) = Some (At (a_semicolon ∷ []) (Done (jump jumps.Break) o))
start o (keyword key.Continue) = Some (At (a_semicolon ∷ []) (Done (jump jumps.Continue) o))
start o (keyword key.Return) = to (Returning o)
start o t = line_start as_statement o t

abbrev pub is_else : Word → Bool
is_else (keyword key.Else) = true
is_else _ = false

abbrev pub done : Sentence → Outer → Word → Option State
done s (body before r f given all) t = start (body before r f given (with_item all s)) t
done s (items all o) t = start (items (with_item all s) o) t
done s (inside (if_of e) o) t = cond (is_else t) (to (Start (inside (else_of e s) o))) (done (under (if_of e) s) o t)
done s (inside (else_of e a) o) t = done (under (else_of e a) s) o t
done s (inside (while_of e) o) t = done (under (while_of e) s) o t
done s (inside (for_of h) o) t = done (under (for_of h) s) o t

abbrev pub returned : Outer → Word → Option State
returned o (mark Semicolon) = to (Done (return None) o)
returned o t = want (part returning o) t

abbrev pub for_test : Line → Outer → Word → Option State
for_test l o (mark Semicolon) = to (ForStep l None o)
for_test l o t = want (part (testing l) o) t

abbrev pub for_step : Line → Option Phrase → Outer → Word → Option State
for_step l test o (mark CloseParenthesis) = to (Start (inside (loop l test None) o))
for_step l test o t = want (part (subject (as_step l test)) o) t

abbrev pub malloced : ValuePlace → Outer → Word → Option State
malloced v o (keyword key.Sizeof) = Some (At (an_open ∷ []) (TypeWant (sizing v None o)))
malloced v o t = want (part (counting v) o) t

abbrev pub core_step : Core → Word → Option State
core_step (Want k) t = want k t
core_step (Have x k) t = have (role t) x k t
core_step (Called f k) t = called f k t
core_step (Dotted x a k) t = dotted x a k t
core_step (Spawning k) t = spawning k t
core_step (Start o) t = start o t
core_step (Done s o) t = done s o t
core_step (Returning o) t = returned o t
core_step (ForOpen o) t = line_start as_first o t
core_step (ForTest l o) t = for_test l o t
core_step (ForStep l test o) t = for_step l test o t
core_step (Malloced v o) t = malloced v o t
core_step (Valued v r o) t = value_end v r o t
core_step (TypeWant p) t = begin_type p t
core_step (ModeFirst p s) t = base_step p (Some s) t
core_step (StructWant p m) t = struct_want p m t
core_step (Typed p first b m below) t = typed p first b m below t
core_step (PathWant p) t = path_want p t
core_step (PathNamed p n) t = path_named p n t
core_step (PathThrough p n) t = path_through p n t
core_step (Named p ty n) t = named p ty n t
core_step (Fields all s done) t = fields all s done t
core_step (ArrayWant all d) t = array_want all d t
core_step (InitialWant all d) t = initial_want all d t
core_step (InitialNegative all d) t = initial_negative all d t
core_step (Top all) t = begin_type (naming (on_top all)) t

abbrev pub step : State → Word → Option State
step (At [] c) t = core_step c t
step (At (f ∷ fs) c) t = cond (is_fixed f t) (Some (At fs c)) None

-- the program of all words, or the words from the first on with which none goes on
pub data Outcome : Type 0 where
  Read : List Part → Outcome
  Stuck : List Word → Outcome

abbrev pub core_finish : Core → Outcome
core_finish (Top all) = Read all
core_finish _ = Stuck []

abbrev pub finish : State → Outcome
finish (At [] c) = core_finish c
finish (At (f ∷ fs) c) = Stuck []

abbrev pub then_on : Option State → (State → Outcome) → Outcome → Outcome
then_on (Some s) f d = f s
then_on None f d = d

abbrev pub reads : List Word → State → Outcome
reads [] s = finish s
reads (t ∷ ts) s = then_on (step s t) (λ s. reads ts s) (Stuck (t ∷ ts))

-- the words read from a core on
abbrev pub reads_at : List Word → Core → Outcome
reads_at ts c = reads ts (At [] c)

abbrev pub first_state : State
first_state = At [] (Top [])
