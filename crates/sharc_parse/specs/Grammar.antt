-- The grammar of programs: phrases, and the words of each.
use Rattle.std.specs.Prelude.{◌≡◌, ℕ, Bool, true, false, ◌≤◌, ◌<◌, List, [], ◌∷◌, ◌++◌, Option, Some, None}
use Rattle.sharc_tree.specs.{declared.token.Keyword.Keyword, declared.token.Punctuator.Punctuator}
use Rattle.sharc_tree.specs.declared.token.Punctuator.TheVariants.{OpenParenthesis, CloseParenthesis, OpenBrace}
use Rattle.sharc_tree.specs.declared.token.Punctuator.TheVariants.{CloseBrace, OpenBracket, CloseBracket, Semicolon}
use Rattle.sharc_tree.specs.declared.token.Punctuator.TheVariants.{Comma, Dot, Arrow, Assign, Equal, NotEqual, Less}
use Rattle.sharc_tree.specs.declared.token.Punctuator.TheVariants.{Greater, LessOrEqual, GreaterOrEqual, ShiftLeft}
use Rattle.sharc_tree.specs.declared.token.Punctuator.TheVariants.{ShiftRight, Plus, Minus, Star, Slash, Percent}
use Rattle.sharc_tree.specs.declared.token.Punctuator.TheVariants.{Ampersand, AndAnd, Bar, OrOr, Caret, Exclamation}
use Rattle.sharc_tree.specs.declared.token.Punctuator.TheVariants.{Tilde}
use Rattle.sharc_tree.specs.{declared.token.Number.Number, declared.ctype.Base.Base}
use Rattle.sharc_tree.specs.declared.tree.expression.BinaryOperator.{BinaryOperator}
use Rattle.sharc_tree.specs.declared.tree.expression.UnaryOperator.{UnaryOperator}
use Rattle.sharc_tree.specs.declared.tree.expression.UnaryOperator.TheVariants.{Negate, Not, Complement, Dereference}
use Rattle.sharc_tree.specs.declared.tree.expression.FieldOperator.{FieldOperator}
use Rattle.sharc_tree.specs.{declared.tree.expression.ValueCall.ValueCall, declared.tree.expression.PlaceCall.PlaceCall}
use Rattle.sharc_tree.specs.{declared.tree.statement.Jump.Jump, declared.tree.expression.Constant.Constant}
use Rattle.sharc_tree.specs.declared.token.Keyword.TheVariants as key
use Rattle.sharc_tree.specs.declared.ctype.Base.TheVariants as base
use Rattle.sharc_tree.specs.declared.tree.expression.BinaryOperator.TheVariants as op
use Rattle.sharc_tree.specs.declared.tree.expression.FieldOperator.TheVariants as access
use Rattle.sharc_tree.specs.declared.tree.expression.ValueCall.TheVariants as value_call
use Rattle.sharc_tree.specs.declared.tree.expression.PlaceCall.TheVariants as place_call
use Rattle.sharc_tree.specs.declared.tree.statement.Jump.TheVariants as jumps
use Rattle.sharc_tree.specs.declared.tree.expression.Constant.TheVariants as constants

-- what the grammar sees of a token: of a name its text
pub data Word : Type 0 where
  name : List ℕ → Word
  keyword : Keyword → Word
  mark : Punctuator → Word
  number : Number → Word
  character : ℕ → Word
  left_out : Word

-- Types. A phrase is a tree without the places of its tokens.

pub data Sharing : Type 0 where
  private : Sharing
  readonly : Sharing
  racy : Sharing
  dynamic : Sharing
  locked : List ℕ → Sharing
  locked_through : List ℕ → List ℕ → Sharing

-- the modes from the top down to the base, and whether that of the base comes before it
pub record Typing : Type 0 where
  pub mode_first : Bool
  pub base : Base
  pub levels : List (Option Sharing)

pub record Declaring : Type 0 where
  pub typing : Typing
  pub named : List ℕ

abbrev pub sharing_words : Sharing → List Word → List Word
sharing_words private y = keyword key.Private ∷ y
sharing_words readonly y = keyword key.Readonly ∷ y
sharing_words racy y = keyword key.Racy ∷ y
sharing_words dynamic y = keyword key.Dynamic ∷ y
sharing_words (locked m) y = keyword key.Locked ∷ (mark OpenParenthesis ∷ (name m ∷ (mark CloseParenthesis ∷ y)))
sharing_words (locked_through x m) y =
    keyword key.Locked ∷ (mark OpenParenthesis ∷ (name x ∷ (mark Arrow ∷ (name m ∷ (mark CloseParenthesis ∷ y)))))

abbrev pub level_words : Option Sharing → List Word → List Word
level_words None y = y
level_words (Some s) y = sharing_words s y

abbrev pub base_words : Base → List Word → List Word
base_words base.Int y = keyword key.Int ∷ y
base_words base.Char y = keyword key.Char ∷ y
base_words base.Long y = keyword key.Long ∷ y
base_words base.Mutex y = keyword key.Mutex ∷ y
base_words base.Void y = keyword key.Void ∷ y
base_words (base.Struct n) y = keyword key.Struct ∷ (name n ∷ y)

-- a base with its mode before it or after it
abbrev pub bottom_words : Bool → Base → Option Sharing → List Word → List Word
bottom_words true b m y = level_words m (base_words b y)
bottom_words false b m y = base_words b (level_words m y)

-- a type whose top has the mode m, with the levels below it
abbrev pub levels_words : Bool → Base → Option Sharing → List (Option Sharing) → List Word → List Word
levels_words first b m [] y = bottom_words first b m y
levels_words first b m (n ∷ below) y = levels_words first b n below (mark Star ∷ level_words m y)

abbrev pub list_words : Bool → Base → List (Option Sharing) → List Word → List Word
list_words first b [] y = y
list_words first b (m ∷ below) y = levels_words first b m below y

abbrev pub type_words : Typing → List Word → List Word
type_words t y = list_words t.mode_first t.base t.levels y

abbrev pub declaring_words : Declaring → List Word → List Word
declaring_words d y = type_words d.typing (name d.named ∷ y)

-- the mode that comes before the base is written
abbrev pub FitsBottom : Bool → Option Sharing → Type 0
FitsBottom true None = ⊥
FitsBottom _ _ = Unit {0}

abbrev pub FitsLevels : Bool → Option Sharing → List (Option Sharing) → Type 0
FitsLevels first m [] = FitsBottom first m
FitsLevels first m (n ∷ below) = FitsLevels first n below

abbrev pub FitsList : Bool → List (Option Sharing) → Type 0
FitsList first [] = ⊥
FitsList first (m ∷ below) = FitsLevels first m below

abbrev pub FitsType : Typing → Type 0
FitsType t = FitsList t.mode_first t.levels

-- no mode is written
abbrev pub NoModes : List (Option Sharing) → Type 0
NoModes [] = Unit {0}
NoModes (None ∷ below) = NoModes below
NoModes (Some s ∷ below) = ⊥

abbrev pub IsPlain : Bool → List (Option Sharing) → Type 0
IsPlain first levels = (first ≡ false) × NoModes levels

-- Expressions.

-- what comes before an expression that a `)` ends, as `(`, `spawn ( f ,` or `SCAST ( type ,`
pub data Front : Type 0 where
  parenthesis : Front
  of_spawn : List ℕ → Front
  of_value : ValueCall → Front
  of_place : PlaceCall → Front
  of_cast : Typing → Front

mutual
  pub data Phrase : Type 0 where
    identifier : List ℕ → Phrase
    constant : Constant → Phrase
    enclosed : Front → Phrase → Phrase
    call : List ℕ → Phrases → Phrase
    index : Phrase → Phrase → Phrase
    field : Phrase → FieldOperator → List ℕ → Phrase
    unary : UnaryOperator → Phrase → Phrase
    binary : BinaryOperator → Phrase → Phrase → Phrase

  pub data Phrases : Type 0 where
    none : Phrases
    more : Phrase → Phrases → Phrases

abbrev pub operator_mark : BinaryOperator → Punctuator
operator_mark op.LogicalOr = OrOr
operator_mark op.LogicalAnd = AndAnd
operator_mark op.BitOr = Bar
operator_mark op.BitXor = Caret
operator_mark op.BitAnd = Ampersand
operator_mark op.Equal = Equal
operator_mark op.NotEqual = NotEqual
operator_mark op.Less = Less
operator_mark op.Greater = Greater
operator_mark op.LessOrEqual = LessOrEqual
operator_mark op.GreaterOrEqual = GreaterOrEqual
operator_mark op.ShiftLeft = ShiftLeft
operator_mark op.ShiftRight = ShiftRight
operator_mark op.Add = Plus
operator_mark op.Subtract = Minus
operator_mark op.Multiply = Star
operator_mark op.Divide = Slash
operator_mark op.Remainder = Percent

abbrev pub unary_mark : UnaryOperator → Punctuator
unary_mark Negate = Minus
unary_mark Not = Exclamation
unary_mark Complement = Tilde
unary_mark Dereference = Star

abbrev pub access_mark : FieldOperator → Punctuator
access_mark access.Dot = Dot
access_mark access.Arrow = Arrow

abbrev pub constant_word : Constant → Word
constant_word (constants.Number n) = number n
constant_word (constants.Character c) = character c
constant_word constants.Null = keyword key.Null

-- how tightly an operator binds (C11 6.5.5 to 6.5.14)
abbrev pub strength : BinaryOperator → ℕ
strength op.LogicalOr = 1
strength op.LogicalAnd = 2
strength op.BitOr = 3
strength op.BitXor = 4
strength op.BitAnd = 5
strength op.Equal = 6
strength op.NotEqual = 6
strength op.Less = 7
strength op.Greater = 7
strength op.LessOrEqual = 7
strength op.GreaterOrEqual = 7
strength op.ShiftLeft = 8
strength op.ShiftRight = 8
strength op.Add = 9
strength op.Subtract = 9
strength op.Multiply = 10
strength op.Divide = 10
strength op.Remainder = 10

abbrev pub front_words : Front → List Word → List Word
front_words parenthesis y = mark OpenParenthesis ∷ y
front_words (of_spawn f) y = keyword key.Spawn ∷ (mark OpenParenthesis ∷ (name f ∷ (mark Comma ∷ y)))
front_words (of_value value_call.Join) y = keyword key.Join ∷ (mark OpenParenthesis ∷ y)
front_words (of_value value_call.Print) y = keyword key.Print ∷ (mark OpenParenthesis ∷ y)
front_words (of_place place_call.Lock) y = keyword key.Lock ∷ (mark OpenParenthesis ∷ (mark Ampersand ∷ y))
front_words (of_place place_call.Unlock) y = keyword key.Unlock ∷ (mark OpenParenthesis ∷ (mark Ampersand ∷ y))
front_words (of_place place_call.Free) y = keyword key.Free ∷ (mark OpenParenthesis ∷ y)
front_words (of_cast t) y = keyword key.Scast ∷ (mark OpenParenthesis ∷ type_words t (mark Comma ∷ y))

-- the words of an expression, followed by others
abbrev mutual
  pub words : Phrase → List Word → List Word
  words (identifier n) y = name n ∷ y
  words (constant c) y = constant_word c ∷ y
  words (enclosed f a) y = front_words f (words a (mark CloseParenthesis ∷ y))
  words (call f all) y = name f ∷ (mark OpenParenthesis ∷ words_of_all all (mark CloseParenthesis ∷ y))
  words (index a i) y = words a (mark OpenBracket ∷ words i (mark CloseBracket ∷ y))
  words (field a w n) y = words a (mark (access_mark w) ∷ (name n ∷ y))
  words (unary o a) y = mark (unary_mark o) ∷ words a y
  words (binary o a b) y = words a (mark (operator_mark o) ∷ words b y)

  pub words_of_all : Phrases → List Word → List Word
  words_of_all none y = y
  words_of_all (more a rest) y = words a (words_of_rest rest y)

  pub words_of_rest : Phrases → List Word → List Word
  words_of_rest none y = y
  words_of_rest (more a rest) y = mark Comma ∷ words a (words_of_rest rest y)

-- how tightly an expression holds together: `unary` has 11, `postfix` 12
abbrev pub level : Phrase → ℕ
level (binary o a b) = strength o
level (unary o a) = 11
level _ = 12

-- a `unary` is asked for
abbrev pub front_level : Front → ℕ
front_level (of_place w) = 11
front_level (of_cast t) = 11
front_level _ = 0

abbrev pub FitsFront : Front → Type 0
FitsFront (of_cast t) = FitsType t
FitsFront _ = Unit {0}

-- operands hold together as tightly as the grammar asks; an operator's right operand more tightly than itself
abbrev mutual
  pub Fits : Phrase → Type 0
  Fits (identifier n) = Unit {0}
  Fits (constant c) = Unit {0}
  Fits (enclosed f a) = FitsFront f × (front_level f ≤ level a) × Fits a
  Fits (call f all) = FitAll all
  Fits (index a i) = (12 ≤ level a) × Fits a × Fits i
  Fits (field a w n) = (12 ≤ level a) × Fits a
  Fits (unary o a) = (11 ≤ level a) × Fits a
  Fits (binary o a b) = (strength o ≤ level a) × (strength o < level b) × Fits a × Fits b

  pub FitAll : Phrases → Type 0
  FitAll none = Unit {0}
  FitAll (more a rest) = Fits a × FitAll rest

-- Statements.

-- the right side of `=`
pub data Value : Type 0 where
  value : Phrase → Value
  malloc : Option Phrase → Typing → Value

pub data Doing : Type 0 where
  assign : Phrase → Value → Doing
  invoke : Phrase → Doing

pub record Declared : Type 0 where
  pub declaring : Declaring
  pub initial : Option Value

-- what a `;` ends in a block, and in the head of a `for`
pub data Line : Type 0 where
  nothing : Line
  does : Doing → Line
  declares : Declared → Line

pub record Loop : Type 0 where
  pub first : Line
  pub test : Option Phrase
  pub step : Option Doing

mutual
  pub data Sentence : Type 0 where
    line : Line → Sentence
    jump : Jump → Sentence
    return : Option Phrase → Sentence
    block : Sentences → Sentence
    under : Opening → Sentence → Sentence

  pub data Sentences : Type 0 where
    no_more : Sentences
    sentence : Sentence → Sentences → Sentences

  -- what comes before the last statement of an `if`, a `while` or a `for`
  pub data Opening : Type 0 where
    if_of : Phrase → Opening
    else_of : Phrase → Sentence → Opening
    while_of : Phrase → Opening
    for_of : Loop → Opening

abbrev pub option_words : Option Phrase → List Word → List Word
option_words None y = y
option_words (Some e) y = words e y

abbrev pub count_words : Option Phrase → List Word → List Word
count_words None y = y
count_words (Some e) y = words e (mark Star ∷ y)

abbrev pub value_words : Value → List Word → List Word
value_words (value e) y = words e y
value_words (malloc n t) y = keyword key.Malloc ∷ (mark OpenParenthesis ∷ count_words n (keyword key.Sizeof
    ∷ (mark OpenParenthesis ∷ type_words t (mark CloseParenthesis ∷ (mark CloseParenthesis ∷ y)))))

abbrev pub doing_words : Doing → List Word → List Word
doing_words (assign u r) y = words u (mark Assign ∷ value_words r y)
doing_words (invoke e) y = words e y

abbrev pub initial_words : Option Value → List Word → List Word
initial_words None y = y
initial_words (Some r) y = mark Assign ∷ value_words r y

abbrev pub line_words : Line → List Word → List Word
line_words nothing y = mark Semicolon ∷ y
line_words (does x) y = doing_words x (mark Semicolon ∷ y)
line_words (declares l) y = declaring_words l.declaring (initial_words l.initial (mark Semicolon ∷ y))

abbrev pub step_words : Option Doing → List Word → List Word
step_words None y = y
step_words (Some x) y = doing_words x y

abbrev pub loop_words : Loop → List Word → List Word
loop_words h y = keyword key.For ∷ (mark OpenParenthesis
    ∷ line_words h.first (option_words h.test (mark Semicolon ∷ step_words h.step (mark CloseParenthesis ∷ y))))

abbrev pub jump_word : Jump → Word
jump_word jumps.Break = keyword key.Break
jump_word jumps.Continue = keyword key.Continue

-- the words of a statement, followed by others
abbrev mutual
  pub written : Sentence → List Word → List Word
  written (line l) y = line_words l y
  written (jump j) y = jump_word j ∷ (mark Semicolon ∷ y)
  written (return e) y = keyword key.Return ∷ option_words e (mark Semicolon ∷ y)
  written (block all) y = mark OpenBrace ∷ written_all all (mark CloseBrace ∷ y)
  written (under w s) y = opening_words w (written s y)

  pub written_all : Sentences → List Word → List Word
  written_all no_more y = y
  written_all (sentence s rest) y = written s (written_all rest y)

  pub opening_words : Opening → List Word → List Word
  opening_words (if_of e) y = keyword key.If ∷ (mark OpenParenthesis ∷ words e (mark CloseParenthesis ∷ y))
  opening_words (else_of e s) y =
      keyword key.If ∷ (mark OpenParenthesis ∷ words e (mark CloseParenthesis ∷ written s (keyword key.Else ∷ y)))
  opening_words (while_of e) y = keyword key.While ∷ (mark OpenParenthesis ∷ words e (mark CloseParenthesis ∷ y))
  opening_words (for_of h) y = loop_words h y

abbrev pub is_call : Phrase → Bool
is_call (call f all) = true
is_call (enclosed (of_spawn f) a) = true
is_call (enclosed (of_value w) a) = true
is_call (enclosed (of_place w) a) = true
is_call _ = false

abbrev pub is_declaring : Line → Bool
is_declaring (declares l) = true
is_declaring _ = false

-- a declaration is not a statement: it is in a block, or first in the head of a `for`
abbrev pub is_declaration : Sentence → Bool
is_declaration (line l) = is_declaring l
is_declaration _ = false

-- whether an `else` after the statement would belong to it
abbrev pub takes_else : Sentence → Bool
takes_else (under (if_of e) s) = true
takes_else (under (else_of e a) s) = takes_else s
takes_else (under (while_of e) s) = takes_else s
takes_else (under (for_of h) s) = takes_else s
takes_else _ = false

abbrev pub FitsOption : Option Phrase → Type 0
FitsOption None = Unit {0}
FitsOption (Some e) = Fits e

abbrev pub FitsCount : Option Phrase → Type 0
FitsCount None = Unit {0}
FitsCount (Some e) = (11 ≤ level e) × Fits e

abbrev pub FitsValue : Value → Type 0
FitsValue (value e) = Fits e
FitsValue (malloc n t) = FitsCount n × FitsType t × IsPlain t.mode_first t.levels

abbrev pub FitsDoing : Doing → Type 0
FitsDoing (assign u r) = (11 ≤ level u) × Fits u × FitsValue r
FitsDoing (invoke e) = (is_call e ≡ true) × Fits e

abbrev pub FitsInitial : Option Value → Type 0
FitsInitial None = Unit {0}
FitsInitial (Some r) = FitsValue r

abbrev pub FitsLine : Line → Type 0
FitsLine nothing = Unit {0}
FitsLine (does x) = FitsDoing x
FitsLine (declares l) = FitsType l.declaring.typing × FitsInitial l.initial

abbrev pub FitsStep : Option Doing → Type 0
FitsStep None = Unit {0}
FitsStep (Some x) = FitsDoing x

abbrev mutual
  pub FitsAs : Sentence → Type 0
  FitsAs (line l) = FitsLine l
  FitsAs (jump j) = Unit {0}
  FitsAs (return e) = FitsOption e
  FitsAs (block all) = FitAllAs all
  FitsAs (under w s) = (is_declaration s ≡ false) × FitsOpening w × FitsAs s

  pub FitAllAs : Sentences → Type 0
  FitAllAs no_more = Unit {0}
  FitAllAs (sentence s rest) = FitsAs s × FitAllAs rest

  -- an `else` belongs to the nearest `if`
  pub FitsOpening : Opening → Type 0
  FitsOpening (if_of e) = Fits e
  FitsOpening (else_of e s) = (is_declaration s ≡ false) × (takes_else s ≡ false) × Fits e × FitsAs s
  FitsOpening (while_of e) = Fits e
  FitsOpening (for_of h) = FitsLine h.first × FitsOption h.test × FitsStep h.step

-- Programs.

pub data Form : Type 0 where
  single : Form
  array : Number → Form
  initially : Bool → Constant → Form

pub record Callable : Type 0 where
  pub result : Typing
  pub named : List ℕ
  pub parameters : List Declaring
  pub body : Sentences

pub data Part : Type 0 where
  structure : List ℕ → List Declaring → Part
  global : Declaring → Form → Part
  function : Callable → Part

abbrev pub sign_words : Bool → List Word → List Word
sign_words true y = mark Minus ∷ y
sign_words false y = y

abbrev pub form_words : Form → List Word → List Word
form_words single y = y
form_words (array n) y = mark OpenBracket ∷ (number n ∷ (mark CloseBracket ∷ y))
form_words (initially negative c) y = mark Assign ∷ sign_words negative (constant_word c ∷ y)

abbrev pub fields_words : List Declaring → List Word → List Word
fields_words [] y = y
fields_words (d ∷ rest) y = declaring_words d (mark Semicolon ∷ fields_words rest y)

abbrev pub further_words : List Declaring → List Word → List Word
further_words [] y = y
further_words (d ∷ rest) y = mark Comma ∷ declaring_words d (further_words rest y)

abbrev pub parameters_words : List Declaring → List Word → List Word
parameters_words [] y = keyword key.Void ∷ y
parameters_words (d ∷ rest) y = declaring_words d (further_words rest y)

abbrev pub part_words : Part → List Word → List Word
part_words (structure n fields) y =
    keyword key.Struct ∷ (name n ∷ (mark OpenBrace ∷ fields_words fields (mark CloseBrace ∷ (mark Semicolon ∷ y))))
part_words (global d form) y = declaring_words d (form_words form (mark Semicolon ∷ y))
part_words (function f) y = type_words f.result (name f.named ∷ (mark OpenParenthesis ∷ parameters_words f.parameters
    (mark CloseParenthesis ∷ (mark OpenBrace ∷ written_all f.body (mark CloseBrace ∷ y)))))

abbrev pub program_words : List Part → List Word → List Word
program_words [] y = y
program_words (p ∷ rest) y = part_words p (program_words rest y)

abbrev pub FitAllDeclaring : List Declaring → Type 0
FitAllDeclaring [] = Unit {0}
FitAllDeclaring (d ∷ rest) = FitsType d.typing × FitAllDeclaring rest

abbrev pub FitsForm : Form → Type 0
FitsForm (initially true constants.Null) = ⊥
FitsForm _ = Unit {0}

-- a struct has a field
abbrev pub FitsFields : List Declaring → Type 0
FitsFields [] = ⊥
FitsFields (d ∷ rest) = FitsType d.typing × FitAllDeclaring rest

abbrev pub FitsPart : Part → Type 0
FitsPart (structure n fields) = FitsFields fields
FitsPart (global d form) = FitsType d.typing × FitsForm form
FitsPart (function f) = FitsType f.result × FitAllDeclaring f.parameters × FitAllAs f.body

abbrev pub IsProgram : List Part → Type 0
IsProgram [] = Unit {0}
IsProgram (p ∷ rest) = FitsPart p × IsProgram rest

-- these words begin a program
abbrev pub Begins : List Word → Type 0
Begins before = (p : List Part) × IsProgram p × (rest : List Word) × (program_words p [] ≡ before ++ rest)

-- no program goes on with the first word of the rest, or ends where there is none
abbrev pub EndsAt : List Word → List Word → Type 0
EndsAt before [] = (p : List Part) → IsProgram p → program_words p [] ≡ before → ⊥
EndsAt before (t ∷ rest) = Begins (before ++ t ∷ []) → ⊥

-- the first fault: the words before it begin a program, and with it they begin none
pub record FirstFault (all rest : List Word) : Type 0 where
  pub before : List Word
  pub whole : all ≡ before ++ rest
  pub begins : Begins before
  pub ends : EndsAt before rest
