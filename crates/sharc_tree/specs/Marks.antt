-- The names and the casts of a tree, in the order in which they are written, and those among the tokens.
use Rattle.std.specs.Prelude.{◌≡◌, ℕ, ◌+◌, ◌<◌, ◌≤◌, Bool, true, false, List, [], ◌∷◌, ◌++◌, length, HoldsAt, Option}
use Rattle.std.specs.Prelude.{Some, None}
use Rattle.sharc_tree.specs.{declared.ctype.Path.Path, declared.ctype.Path.TheVariants.{One, Through}}
use Rattle.sharc_tree.specs.{declared.ctype.Mode.Mode, declared.ctype.Mode.TheVariants.Locked, declared.ctype.Base.Base}
use Rattle.sharc_tree.specs.{declared.ctype.Base.TheVariants.Struct, declared.token.Keyword.Keyword}
use Rattle.sharc_tree.specs.{declared.token.Keyword.TheVariants.Scast, declared.token.Token.Token}
use Rattle.sharc_tree.specs.{declared.token.TokenKind.TokenKind, declared.tree.declaration.Identifier.Identifier}
use Rattle.sharc_tree.specs.declared.tree.declaration.WrittenType.{WrittenType}
use Rattle.sharc_tree.specs.declared.tree.declaration.Declaration.{Declaration}
use Rattle.sharc_tree.specs.Tree.{Expression, identifier, constant, parentheses, call, spawn, on_value, on_place, cast}
use Rattle.sharc_tree.specs.Tree.{index, field, unary, binary, Arguments, no_arguments, argument, Right, value, malloc}
use Rattle.sharc_tree.specs.Tree.{Simple, assign, does_call, Local, First, nothing, declares, does, Head, Statement}
use Rattle.sharc_tree.specs.Tree.{empty, block, declare, simple, jump, return, if_then, if_then_else, while, for}
use Rattle.sharc_tree.specs.Tree.{Statements, no_statements, statement, Item, structure, global, function}
use Rattle.sharc_tree.specs.declared.token.TokenKind.TheVariants as kind

-- a name with its text, or the word SCAST, each with the number of its token
pub data Mark : Type 0 where
  a_name : ℕ → List ℕ → Mark
  a_cast : ℕ → Mark

abbrev pub number_of : Mark → ℕ
number_of (a_name n text) = n
number_of (a_cast n) = n

-- Those among tokens, the first of which has the number n.

abbrev pub keyword_marks : Keyword → ℕ → List Mark
keyword_marks Scast n = a_cast n ∷ []
keyword_marks _ n = []

abbrev pub kind_marks : TokenKind → List ℕ → ℕ → List Mark
kind_marks (kind.Keyword k) text n = keyword_marks k n
kind_marks kind.Identifier text n = a_name n text ∷ []
kind_marks _ text n = []

abbrev pub marks_from : ℕ → List Token → List Mark
marks_from n [] = []
marks_from n (t ∷ rest) = kind_marks t.kind t.text n ++ marks_from (n + 1) rest

-- Those of a tree.

abbrev pub name_marks : Identifier → List Mark
name_marks i = a_name i.site.token i.text ∷ []

-- the second name of a lock path is two tokens after its first
abbrev pub path_marks : Path → List Mark
path_marks (One m n) = a_name n m ∷ []
path_marks (Through x n m) = a_name n x ∷ (a_name (n + 2) m ∷ [])

abbrev pub mode_marks : Mode → List Mark
mode_marks (Locked path) = path_marks path
mode_marks _ = []

abbrev pub level_marks : Option Mode → List Mark
level_marks None = []
level_marks (Some m) = mode_marks m

abbrev pub base_marks : Base → ℕ → List Mark
base_marks (Struct x) n = a_name n x ∷ []
base_marks _ n = []

-- the levels go from the top down, and are written from the base up; the mode of the base comes before it or after it
abbrev pub levels_marks : Bool → List Mark → List (Option Mode) → List Mark
levels_marks first base [] = []
levels_marks true base (m ∷ []) = level_marks m ++ base
levels_marks false base (m ∷ []) = base ++ level_marks m
levels_marks first base (m ∷ (n ∷ below)) = levels_marks first base (n ∷ below) ++ level_marks m

abbrev pub type_marks : WrittenType → List Mark
type_marks t = levels_marks t.mode_first (base_marks t.ctype.base t.base.token) t.ctype.levels

abbrev pub declaration_marks : Declaration → List Mark
declaration_marks d = type_marks d.written ++ name_marks d.name

abbrev pub declarations_marks : List Declaration → List Mark
declarations_marks [] = []
declarations_marks (d ∷ rest) = declaration_marks d ++ declarations_marks rest

abbrev mutual
  pub marks : Expression → List Mark
  marks (identifier s i) = name_marks i
  marks (constant s c) = []
  marks (parentheses s a) = marks a
  marks (call s f all) = name_marks f ++ arguments_marks all
  marks (spawn s f a) = name_marks f ++ marks a
  marks (on_value s w a) = marks a
  marks (on_place s w a) = marks a
  marks (cast s t a) = a_cast s.first.token ∷ (type_marks t ++ marks a)
  marks (index s a i) = marks a ++ marks i
  marks (field s a w n) = marks a ++ name_marks n
  marks (unary s o a) = marks a
  marks (binary s o at a b) = marks a ++ marks b

  pub arguments_marks : Arguments → List Mark
  arguments_marks no_arguments = []
  arguments_marks (argument a rest) = marks a ++ arguments_marks rest

abbrev pub option_marks : {A : Type 0} → (A → List Mark) → Option A → List Mark
option_marks f None = []
option_marks f (Some x) = f x

abbrev pub right_marks : Right → List Mark
right_marks (value e) = marks e
right_marks (malloc s n t) = option_marks marks n ++ type_marks t

abbrev pub simple_marks : Simple → List Mark
simple_marks (assign s u r) = marks u ++ right_marks r
simple_marks (does_call e) = marks e

abbrev pub local_marks : Local → List Mark
local_marks l = declaration_marks l.declaration ++ option_marks right_marks l.initial

abbrev pub first_marks : First → List Mark
first_marks nothing = []
first_marks (declares l) = local_marks l
first_marks (does x) = simple_marks x

abbrev pub head_marks : Head → List Mark
head_marks h = first_marks h.first ++ option_marks marks h.test ++ option_marks simple_marks h.step

abbrev mutual
  pub statement_marks : Statement → List Mark
  statement_marks (empty s) = []
  statement_marks (block s all) = statements_marks all
  statement_marks (declare s l) = local_marks l
  statement_marks (simple s x) = simple_marks x
  statement_marks (jump s j) = []
  statement_marks (return s e) = option_marks marks e
  statement_marks (if_then s e a) = marks e ++ statement_marks a
  statement_marks (if_then_else s e a b) = marks e ++ statement_marks a ++ statement_marks b
  statement_marks (while s e a) = marks e ++ statement_marks a
  statement_marks (for s h a) = head_marks h ++ statement_marks a

  pub statements_marks : Statements → List Mark
  statements_marks no_statements = []
  statements_marks (statement a rest) = statement_marks a ++ statements_marks rest

abbrev pub item_marks : Item → List Mark
item_marks (structure s) = name_marks s.name ++ declarations_marks s.fields
item_marks (global g) = declaration_marks g.declaration
item_marks (function f) =
    type_marks f.result ++ name_marks f.name ++ declarations_marks f.parameters ++ statements_marks f.statements

abbrev pub items_marks : List Item → List Mark
items_marks [] = []
items_marks (i ∷ rest) = item_marks i ++ items_marks rest

-- the token of that number is that word
abbrev pub IsMark : List Token → Mark → Type 0
IsMark all (a_name n text) = (n < length all) × HoldsAt (λ t. (t.kind ≡ kind.Identifier) × (t.text ≡ text)) all n
IsMark all (a_cast n) = (n < length all) × HoldsAt (λ t. t.kind ≡ kind.Keyword Scast) all n

abbrev pub IsName : List Token → Identifier → Type 0
IsName all i = IsMark all (a_name i.site.token i.text)

abbrev pub AreMarks : List Token → List Mark → Type 0
AreMarks all [] = Unit {0}
AreMarks all (m ∷ rest) = IsMark all m × AreMarks all rest

-- each word is there, and their numbers rise, from `from` on: so no two have one token
abbrev pub Stand : List Token → ℕ → List Mark → Type 0
Stand all from [] = Unit {0}
Stand all from (m ∷ rest) = (from ≤ number_of m) × IsMark all m × Stand all (number_of m + 1) rest
