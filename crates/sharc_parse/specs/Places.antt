-- Where the tokens of a program lie, and the tree of a phrase at its tokens.
use Rattle.std.specs.Prelude.{◌≡◌, ℕ, ◌+◌, ◌-◌, Bool, true, false, List, [], ◌∷◌, map, drop, Option, Some, None}
use Rattle.sharc_tree.specs.Tree as tree
use Rattle.sharc_tree.specs.{declared.token.Site.Site, declared.token.Span.Span, declared.token.Token.Token}
use Rattle.sharc_tree.specs.{declared.token.Tokens.Tokens, declared.token.TokenKind.TokenKind, declared.ctype.Mode.Mode}
use Rattle.sharc_tree.specs.{declared.ctype.Path.TheVariants.{One, Through}, declared.ctype.Base.Base}
use Rattle.sharc_tree.specs.declared.tree.declaration.Identifier.{Identifier}
use Rattle.sharc_tree.specs.declared.tree.declaration.WrittenType.{WrittenType}
use Rattle.sharc_tree.specs.declared.tree.declaration.Declaration.{Declaration}
use Rattle.sharc_tree.specs.declared.tree.item.GlobalForm.{GlobalForm}
use Rattle.sharc_tree.specs.declared.tree.item.GlobalForm.TheVariants.{Plain, Array, Initial}
use Rattle.sharc_tree.specs.declared.token.TokenKind.TheVariants as kind
use Rattle.sharc_tree.specs.declared.ctype.Mode.TheVariants as mode
use Rattle.sharc_tree.specs.declared.ctype.Base.TheVariants as base
use Rattle.sharc_tree.specs.declared.tree.expression.PlaceCall.TheVariants as place_call
use Rattle.sharc_parse.specs.Grammar.{Word, name, keyword, mark, number, character, left_out, Sharing, private}
use Rattle.sharc_parse.specs.Grammar.{readonly, racy, dynamic, locked, locked_through, Typing, Declaring, Front}
use Rattle.sharc_parse.specs.Grammar.{parenthesis, of_spawn, of_value, of_place, of_cast, Phrase, identifier, constant}
use Rattle.sharc_parse.specs.Grammar.{enclosed, call, index, field, unary, binary, Phrases, none, more, Value, value}
use Rattle.sharc_parse.specs.Grammar.{malloc, Doing, assign, invoke, Declared, Line, nothing, does, declares, Loop}
use Rattle.sharc_parse.specs.Grammar.{Sentence, line, jump, return, block, under, Sentences, no_more, sentence, Opening}
use Rattle.sharc_parse.specs.Grammar.{if_of, else_of, while_of, for_of, Form, single, array, initially, Callable, Part}
use Rattle.sharc_parse.specs.Grammar.{structure, global, function, program_words, IsProgram}
use Rattle.sharc_parse.specs.Limits.{LowProgram}

-- the word of a token
abbrev pub kind_word : TokenKind → List ℕ → Word
kind_word (kind.Keyword k) text = keyword k
kind_word kind.Identifier text = name text
kind_word (kind.Number n) text = number n
kind_word (kind.Character c) text = character c
kind_word (kind.Punctuator p) text = mark p
kind_word kind.LeftOut text = left_out

abbrev pub word_of : Token → Word
word_of t = kind_word t.kind t.text

abbrev pub words_of : List Token → List Word
words_of = map word_of

-- the place of a token that comes first in what is left
abbrev pub site_of : List Token → ℕ → Site
site_of [] n = record { file = 0; line = 0; token = n }
site_of (t ∷ rest) n = record { file = t.file; line = t.line; token = n }

-- the place of token number n
abbrev pub site_in : List Token → ℕ → Site
site_in all n = site_of (drop n all) n

-- How many tokens a phrase has.

abbrev pub sharing_size : Sharing → ℕ
sharing_size (locked m) = 4
sharing_size (locked_through x m) = 6
sharing_size _ = 1

abbrev pub level_size : Option Sharing → ℕ
level_size None = 0
level_size (Some s) = sharing_size s

abbrev pub base_size : Base → ℕ
base_size (base.Struct n) = 2
base_size _ = 1

abbrev pub levels_size : Base → List (Option Sharing) → ℕ
levels_size b [] = 0
levels_size b (m ∷ []) = base_size b + level_size m
levels_size b (m ∷ (n ∷ below)) = levels_size b (n ∷ below) + 1 + level_size m

abbrev pub type_size : Typing → ℕ
type_size t = levels_size t.base t.levels

abbrev pub declaring_size : Declaring → ℕ
declaring_size d = type_size d.typing + 1

abbrev pub front_size : Front → ℕ
front_size parenthesis = 1
front_size (of_spawn f) = 4
front_size (of_value w) = 2
front_size (of_place place_call.Lock) = 3
front_size (of_place place_call.Unlock) = 3
front_size (of_place place_call.Free) = 2
front_size (of_cast t) = type_size t + 3

abbrev mutual
  pub size : Phrase → ℕ
  size (identifier n) = 1
  size (constant c) = 1
  size (enclosed f a) = front_size f + size a + 1
  size (call f all) = sizes all + 3
  size (index a i) = size a + size i + 2
  size (field a w n) = size a + 2
  size (unary o a) = size a + 1
  size (binary o a b) = size a + size b + 1

  pub sizes : Phrases → ℕ
  sizes none = 0
  sizes (more a rest) = size a + rest_size rest

  -- with a comma before each
  pub rest_size : Phrases → ℕ
  rest_size none = 0
  rest_size (more a rest) = size a + 1 + rest_size rest

abbrev pub option_size : Option Phrase → ℕ
option_size None = 0
option_size (Some e) = size e

abbrev pub count_size : Option Phrase → ℕ
count_size None = 0
count_size (Some e) = size e + 1

abbrev pub value_size : Value → ℕ
value_size (value e) = size e
value_size (malloc n t) = count_size n + type_size t + 6

abbrev pub doing_size : Doing → ℕ
doing_size (assign u r) = size u + value_size r + 1
doing_size (invoke e) = size e

abbrev pub initial_size : Option Value → ℕ
initial_size None = 0
initial_size (Some r) = value_size r + 1

abbrev pub local_size : Declared → ℕ
local_size l = declaring_size l.declaring + initial_size l.initial

-- with its `;`
abbrev pub line_size : Line → ℕ
line_size nothing = 1
line_size (does x) = doing_size x + 1
line_size (declares l) = local_size l + 1

abbrev pub step_size : Option Doing → ℕ
step_size None = 0
step_size (Some x) = doing_size x

abbrev mutual
  pub sentence_size : Sentence → ℕ
  sentence_size (line l) = line_size l
  sentence_size (jump j) = 2
  sentence_size (return e) = option_size e + 2
  sentence_size (block all) = all_size all + 2
  sentence_size (under w s) = opening_size w + sentence_size s

  pub all_size : Sentences → ℕ
  all_size no_more = 0
  all_size (sentence s rest) = sentence_size s + all_size rest

  pub opening_size : Opening → ℕ
  opening_size (if_of e) = size e + 3
  opening_size (else_of e s) = size e + sentence_size s + 4
  opening_size (while_of e) = size e + 3
  opening_size (for_of l) = line_size l.first + option_size l.test + step_size l.step + 4

-- each with one token after it
abbrev pub fields_size : List Declaring → ℕ
fields_size [] = 0
fields_size (d ∷ rest) = declaring_size d + 1 + fields_size rest

-- `void`, or each with a comma or the `)` after it, but for that
abbrev pub parameters_size : List Declaring → ℕ
parameters_size [] = 1
parameters_size (d ∷ []) = declaring_size d
parameters_size (d ∷ (e ∷ rest)) = declaring_size d + 1 + parameters_size (e ∷ rest)

abbrev pub form_size : Form → ℕ
form_size single = 0
form_size (array n) = 3
form_size (initially true c) = 3
form_size (initially false c) = 2

abbrev pub part_size : Part → ℕ
part_size (structure n fields) = fields_size fields + 5
part_size (global d form) = declaring_size d + form_size form + 1
part_size (function f) = type_size f.result + parameters_size f.parameters + all_size f.body + 5

-- The tree of a phrase whose first token has the number n, where the tokens lie at s.

abbrev pub span_at : (ℕ → Site) → ℕ → ℕ → Span
span_at s n length = record { first = s n; last = s (n + length - 1) }

abbrev pub name_at : (ℕ → Site) → ℕ → List ℕ → Identifier
name_at s n text = record { site = s n; text = text }

-- a lock path has the number of the token of its first name
abbrev pub mode_at : (ℕ → Site) → ℕ → Sharing → Mode
mode_at s n private = mode.Private
mode_at s n readonly = mode.Readonly
mode_at s n racy = mode.Racy
mode_at s n dynamic = mode.Dynamic
mode_at s n (locked m) = mode.Locked (One m (s (n + 2)).token)
mode_at s n (locked_through x m) = mode.Locked (Through x (s (n + 2)).token m)

abbrev pub level_at : (ℕ → Site) → ℕ → Option Sharing → Option Mode
level_at s n None = None
level_at s n (Some m) = Some (mode_at s n m)

abbrev pub bottom_at : (ℕ → Site) → ℕ → Bool → Base → Option Sharing → Option Mode
bottom_at s n true b m = level_at s n m
bottom_at s n false b m = level_at s (n + base_size b) m

abbrev pub levels_at : (ℕ → Site) → ℕ → Bool → Base → List (Option Sharing) → List (Option Mode)
levels_at s n first b [] = []
levels_at s n first b (m ∷ []) = bottom_at s n first b m ∷ []
levels_at s n first b (m ∷ (k ∷ below)) =
    level_at s (n + levels_size b (k ∷ below) + 1) m ∷ levels_at s n first b (k ∷ below)

-- the token that names the base: its keyword, or the name of the struct
abbrev pub base_name : Base → ℕ → ℕ
base_name (base.Struct x) n = n + 1
base_name _ n = n

abbrev pub base_place : Bool → Base → List (Option Sharing) → ℕ → ℕ
base_place first b [] n = base_name b n
base_place true b (m ∷ []) n = base_name b (n + level_size m)
base_place false b (m ∷ []) n = base_name b n
base_place first b (m ∷ (k ∷ below)) n = base_place first b (k ∷ below) n

abbrev pub type_at : (ℕ → Site) → ℕ → Typing → WrittenType
type_at s n t = record {
  span = span_at s n (type_size t);
  mode_first = t.mode_first;
  base = s (base_place t.mode_first t.base t.levels n);
  ctype = record { base = t.base; levels = levels_at s n t.mode_first t.base t.levels };
}

abbrev pub declaration_at : (ℕ → Site) → ℕ → Declaring → Declaration
declaration_at s n d = record {
  span = span_at s n (declaring_size d);
  written = type_at s n d.typing;
  name = name_at s (n + type_size d.typing) d.named;
}

-- the tree of an expression that a `)` ends
abbrev pub front_at : (ℕ → Site) → ℕ → Span → Front → tree.Expression → tree.Expression
front_at s n span parenthesis a = tree.parentheses span a
front_at s n span (of_spawn f) a = tree.spawn span (name_at s (n + 2) f) a
front_at s n span (of_value w) a = tree.on_value span w a
front_at s n span (of_place w) a = tree.on_place span w a
front_at s n span (of_cast t) a = tree.cast span (type_at s (n + 2) t) a

abbrev mutual
  pub expression_at : (ℕ → Site) → ℕ → Phrase → tree.Expression
  expression_at s n (identifier x) = tree.identifier (span_at s n 1) (name_at s n x)
  expression_at s n (constant c) = tree.constant (span_at s n 1) c
  expression_at s n (enclosed f a) =
      front_at s n (span_at s n (size (enclosed f a))) f (expression_at s (n + front_size f) a)
  expression_at s n (call f all) =
      tree.call (span_at s n (size (call f all))) (name_at s n f) (arguments_at s (n + 2) all)
  expression_at s n (index a i) =
      tree.index (span_at s n (size (index a i))) (expression_at s n a) (expression_at s (n + size a + 1) i)
  expression_at s n (field a w x) =
      tree.field (span_at s n (size (field a w x))) (expression_at s n a) w (name_at s (n + size a + 1) x)
  expression_at s n (unary o a) = tree.unary (span_at s n (size (unary o a))) o (expression_at s (n + 1) a)
  expression_at s n (binary o a b) = tree.binary (span_at s n (size (binary o a b))) o (s (n + size a))
      (expression_at s n a) (expression_at s (n + size a + 1) b)

  pub arguments_at : (ℕ → Site) → ℕ → Phrases → tree.Arguments
  arguments_at s n none = tree.no_arguments
  arguments_at s n (more a rest) = tree.argument (expression_at s n a) (arguments_at s (n + size a + 1) rest)

abbrev pub option_at : (ℕ → Site) → ℕ → Option Phrase → Option tree.Expression
option_at s n None = None
option_at s n (Some e) = Some (expression_at s n e)

abbrev pub value_at : (ℕ → Site) → ℕ → Value → tree.Right
value_at s n (value e) = tree.value (expression_at s n e)
value_at s n (malloc c t) =
    tree.malloc (span_at s n (value_size (malloc c t))) (option_at s (n + 2) c) (type_at s (n + count_size c + 4) t)

abbrev pub doing_at : (ℕ → Site) → ℕ → Doing → tree.Simple
doing_at s n (assign u r) =
    tree.assign (span_at s n (doing_size (assign u r))) (expression_at s n u) (value_at s (n + size u + 1) r)
doing_at s n (invoke e) = tree.does_call (expression_at s n e)

abbrev pub initial_at : (ℕ → Site) → ℕ → Option Value → Option tree.Right
initial_at s n None = None
initial_at s n (Some r) = Some (value_at s (n + 1) r)

abbrev pub local_at : (ℕ → Site) → ℕ → Declared → tree.Local
local_at s n l = record {
  span = span_at s n (local_size l);
  declaration = declaration_at s n l.declaring;
  initial = initial_at s (n + declaring_size l.declaring) l.initial;
}

abbrev pub first_at : (ℕ → Site) → ℕ → Line → tree.First
first_at s n nothing = tree.nothing
first_at s n (does x) = tree.does (doing_at s n x)
first_at s n (declares l) = tree.declares (local_at s n l)

abbrev pub step_at : (ℕ → Site) → ℕ → Option Doing → Option tree.Simple
step_at s n None = None
step_at s n (Some x) = Some (doing_at s n x)

abbrev pub head_at : (ℕ → Site) → ℕ → Loop → tree.Head
head_at s n l = record {
  first = first_at s (n + 2) l.first;
  test = option_at s (n + line_size l.first + 2) l.test;
  step = step_at s (n + line_size l.first + option_size l.test + 3) l.step;
}

abbrev pub line_at : (ℕ → Site) → ℕ → Line → tree.Statement
line_at s n nothing = tree.empty (span_at s n 1)
line_at s n (does x) = tree.simple (span_at s n (line_size (does x))) (doing_at s n x)
line_at s n (declares l) = tree.declare (span_at s n (line_size (declares l))) (local_at s n l)

abbrev mutual
  pub statement_at : (ℕ → Site) → ℕ → Sentence → tree.Statement
  statement_at s n (line l) = line_at s n l
  statement_at s n (jump j) = tree.jump (span_at s n 2) j
  statement_at s n (return e) = tree.return (span_at s n (option_size e + 2)) (option_at s (n + 1) e)
  statement_at s n (block all) = tree.block (span_at s n (all_size all + 2)) (statements_at s (n + 1) all)
  statement_at s n (under w a) =
      under_at s n w (span_at s n (opening_size w + sentence_size a)) (statement_at s (n + opening_size w) a)

  pub statements_at : (ℕ → Site) → ℕ → Sentences → tree.Statements
  statements_at s n no_more = tree.no_statements
  statements_at s n (sentence a rest) = tree.statement (statement_at s n a) (statements_at s (n + sentence_size a) rest)

  pub under_at : (ℕ → Site) → ℕ → Opening → Span → tree.Statement → tree.Statement
  under_at s n (if_of e) span a = tree.if_then span (expression_at s (n + 2) e) a
  under_at s n (else_of e b) span a =
      tree.if_then_else span (expression_at s (n + 2) e) (statement_at s (n + size e + 3) b) a
  under_at s n (while_of e) span a = tree.while span (expression_at s (n + 2) e) a
  under_at s n (for_of l) span a = tree.for span (head_at s n l) a

-- each with one token after it
abbrev pub declarations_at : (ℕ → Site) → ℕ → List Declaring → List Declaration
declarations_at s n [] = []
declarations_at s n (d ∷ rest) = declaration_at s n d ∷ declarations_at s (n + declaring_size d + 1) rest

abbrev pub form_at : (ℕ → Site) → ℕ → Form → GlobalForm
form_at s n single = Plain
form_at s n (array k) = Array (s (n + 1)) k
form_at s n (initially true c) = Initial (span_at s (n + 1) 2) true c
form_at s n (initially false c) = Initial (span_at s (n + 1) 1) false c

abbrev pub function_at : (ℕ → Site) → ℕ → Callable → tree.Function
function_at s n f =
    let opens = n + type_size f.result + parameters_size f.parameters + 3 in
    record {
      span = span_at s n (part_size (function f));
      result = type_at s n f.result;
      name = name_at s (n + type_size f.result) f.named;
      parameters = declarations_at s (n + type_size f.result + 2) f.parameters;
      body = span_at s opens (all_size f.body + 2);
      statements = statements_at s (opens + 1) f.body;
    }

abbrev pub item_at : (ℕ → Site) → ℕ → Part → tree.Item
item_at s n (structure x fields) = tree.structure (record {
  span = span_at s n (part_size (structure x fields));
  name = name_at s (n + 1) x;
  fields = declarations_at s (n + 3) fields;
})
item_at s n (global d form) = tree.global (record {
  span = span_at s n (part_size (global d form));
  declaration = declaration_at s n d;
  form = form_at s (n + declaring_size d) form;
})
item_at s n (function f) = tree.function (function_at s n f)

abbrev pub items_at : (ℕ → Site) → ℕ → List Part → List tree.Item
items_at s n [] = []
items_at s n (p ∷ rest) = item_at s n p ∷ items_at s (n + part_size p) rest

-- The program is read from these tokens: its tree is that of phrases of the grammar, within the limits, with just these
-- words, each node at its tokens.
pub record Reads (tokens : Tokens) (p : tree.Program) : Type 0 where
  pub phrases : List Part
  pub is_program : IsProgram phrases
  pub within : LowProgram phrases
  pub spelled : program_words phrases [] ≡ words_of tokens.list
  pub placed : p.items ≡ items_at (site_in tokens.list) 0 phrases
  pub keeps_tokens : p.tokens ≡ tokens
  pub keeps_files : p.files ≡ tokens.files
