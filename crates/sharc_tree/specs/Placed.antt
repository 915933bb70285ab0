-- A tree that lies at its tokens.
use Rattle.std.specs.Prelude.{◌≡◌, ℕ, ◌+◌, ◌<◌, ◌≤◌, List, [], ◌∷◌, ◌++◌, length, slice_index_or, Option, Some, None}
use Rattle.std.specs.Prelude.{IfSome}
use Rattle.sharc_tree.specs.{declared.token.Site.Site, declared.token.Span.Span, declared.token.Token.Token}
use Rattle.sharc_tree.specs.declared.tree.declaration.WrittenType.{WrittenType}
use Rattle.sharc_tree.specs.declared.tree.declaration.Declaration.{Declaration}
use Rattle.sharc_tree.specs.declared.tree.item.GlobalForm.{GlobalForm}
use Rattle.sharc_tree.specs.declared.tree.item.GlobalForm.TheVariants.{Plain, Array, Initial}
use Rattle.sharc_tree.specs.Tree.{Expression, identifier, constant, parentheses, call, spawn, on_value, on_place, cast}
use Rattle.sharc_tree.specs.Tree.{index, field, unary, binary, Arguments, no_arguments, argument, Right, value, malloc}
use Rattle.sharc_tree.specs.Tree.{Simple, assign, does_call, Local, First, nothing, declares, does, Head, Statement}
use Rattle.sharc_tree.specs.Tree.{empty, block, declare, simple, jump, return, if_then, if_then_else, while, for}
use Rattle.sharc_tree.specs.Tree.{Statements, no_statements, statement, Item, structure, global, function, Program}
use Rattle.sharc_tree.specs.Spans.{span_of, span_of_right, span_of_simple, span_of_statement, span_of_item}
use Rattle.sharc_tree.specs.Marks.{marks_from, type_marks, items_marks, IsName, AreMarks}

-- the place of the token of this number
abbrev pub site_of : Token → ℕ → Site
site_of t number = record { file = t.file; line = t.line; token = number }

-- the place of a token that there is
pub record IsSite (all : List Token) (s : Site) : Type 0 where
  pub below : s.token < length all
  pub there : (t : Token) → s ≡ site_of (slice_index_or all s.token t) s.token

-- from a token to that one or a later one
pub record IsSpan (all : List Token) (s : Span) : Type 0 where
  pub first : IsSite all s.first
  pub last : IsSite all s.last
  pub order : s.first.token ≤ s.last.token

-- spans that follow one another without overlap, from the token number `from` on, below the number `until`
abbrev pub Follow : List Token → ℕ → ℕ → List Span → Type 0
Follow all from until [] = Unit {0}
Follow all from until (s ∷ rest) =
    IsSpan all s × (from ≤ s.first.token) × (s.last.token < until) × Follow all (s.last.token + 1) until rest

-- a span in which those of the parts follow one another
abbrev pub IsWhole : List Token → Span → List Span → Type 0
IsWhole all s parts = IsSpan all s × Follow all s.first.token (s.last.token + 1) parts

-- a part that is one token
abbrev pub point : Site → Span
point s = record { first = s; last = s }

abbrev pub option_spans : {A : Type 0} → (A → Span) → Option A → List Span
option_spans f None = []
option_spans f (Some x) = f x ∷ []

abbrev pub argument_spans : Arguments → List Span
argument_spans no_arguments = []
argument_spans (argument a rest) = span_of a ∷ argument_spans rest

abbrev pub first_spans : First → List Span
first_spans nothing = []
first_spans (declares l) = l.span ∷ []
first_spans (does x) = span_of_simple x ∷ []

abbrev pub head_spans : Head → List Span
head_spans h = first_spans h.first ++ option_spans span_of h.test ++ option_spans span_of_simple h.step

abbrev pub statement_spans : Statements → List Span
statement_spans no_statements = []
statement_spans (statement a rest) = span_of_statement a ∷ statement_spans rest

abbrev pub declaration_spans : List Declaration → List Span
declaration_spans [] = []
declaration_spans (d ∷ rest) = d.span ∷ declaration_spans rest

abbrev pub form_spans : GlobalForm → List Span
form_spans Plain = []
form_spans (Array at n) = point at ∷ []
form_spans (Initial s negative c) = s ∷ []

abbrev pub item_spans : List Item → List Span
item_spans [] = []
item_spans (i ∷ rest) = span_of_item i ∷ item_spans rest

-- Each node is a whole of its parts: the nodes, names and types below it, the operator, and the base of a type. Each
-- name is the name at its token.

abbrev pub PlacedType : List Token → WrittenType → Type 0
PlacedType all t = IsWhole all t.span (point t.base ∷ []) × AreMarks all (type_marks t)

abbrev pub PlacedDeclaration : List Token → Declaration → Type 0
PlacedDeclaration all d =
    IsWhole all d.span (d.written.span ∷ (point d.name.site ∷ [])) × PlacedType all d.written × IsName all d.name

abbrev pub PlacedDeclarations : List Token → List Declaration → Type 0
PlacedDeclarations all [] = Unit {0}
PlacedDeclarations all (d ∷ rest) = PlacedDeclaration all d × PlacedDeclarations all rest

abbrev mutual
  pub Placed : List Token → Expression → Type 0
  Placed all (identifier s i) = IsWhole all s (point i.site ∷ []) × IsName all i
  Placed all (constant s c) = IsWhole all s []
  Placed all (parentheses s a) = IsWhole all s (span_of a ∷ []) × Placed all a
  Placed all (call s f args) = IsWhole all s (point f.site ∷ argument_spans args) × IsName all f × AllPlaced all args
  Placed all (spawn s f a) = IsWhole all s (point f.site ∷ (span_of a ∷ [])) × IsName all f × Placed all a
  Placed all (on_value s w a) = IsWhole all s (span_of a ∷ []) × Placed all a
  Placed all (on_place s w a) = IsWhole all s (span_of a ∷ []) × Placed all a
  Placed all (cast s t a) = IsWhole all s (t.span ∷ (span_of a ∷ [])) × PlacedType all t × Placed all a
  Placed all (index s a i) = IsWhole all s (span_of a ∷ (span_of i ∷ [])) × Placed all a × Placed all i
  Placed all (field s a w n) = IsWhole all s (span_of a ∷ (point n.site ∷ [])) × Placed all a × IsName all n
  Placed all (unary s o a) = IsWhole all s (span_of a ∷ []) × Placed all a
  Placed all (binary s o at a b) =
      IsWhole all s (span_of a ∷ (point at ∷ (span_of b ∷ []))) × Placed all a × Placed all b

  pub AllPlaced : List Token → Arguments → Type 0
  AllPlaced all no_arguments = Unit {0}
  AllPlaced all (argument a rest) = Placed all a × AllPlaced all rest

abbrev pub PlacedRight : List Token → Right → Type 0
PlacedRight all (value e) = Placed all e
PlacedRight all (malloc s n t) =
    IsWhole all s (option_spans span_of n ++ (t.span ∷ [])) × IfSome n (Placed all) × PlacedType all t

abbrev pub PlacedSimple : List Token → Simple → Type 0
PlacedSimple all (assign s u r) = IsWhole all s (span_of u ∷ (span_of_right r ∷ [])) × Placed all u × PlacedRight all r
PlacedSimple all (does_call e) = Placed all e

abbrev pub PlacedLocal : List Token → Local → Type 0
PlacedLocal all l = IsWhole all l.span (l.declaration.span ∷ option_spans span_of_right l.initial)
    × PlacedDeclaration all l.declaration × IfSome l.initial (PlacedRight all)

abbrev pub PlacedFirst : List Token → First → Type 0
PlacedFirst all nothing = Unit {0}
PlacedFirst all (declares l) = PlacedLocal all l
PlacedFirst all (does x) = PlacedSimple all x

abbrev pub PlacedHead : List Token → Head → Type 0
PlacedHead all h = PlacedFirst all h.first × IfSome h.test (Placed all) × IfSome h.step (PlacedSimple all)

abbrev mutual
  pub PlacedStatement : List Token → Statement → Type 0
  PlacedStatement all (empty s) = IsWhole all s []
  PlacedStatement all (block s inner) = IsWhole all s (statement_spans inner) × PlacedStatements all inner
  PlacedStatement all (declare s l) = IsWhole all s (l.span ∷ []) × PlacedLocal all l
  PlacedStatement all (simple s x) = IsWhole all s (span_of_simple x ∷ []) × PlacedSimple all x
  PlacedStatement all (jump s j) = IsWhole all s []
  PlacedStatement all (return s e) = IsWhole all s (option_spans span_of e) × IfSome e (Placed all)
  PlacedStatement all (if_then s e a) =
      IsWhole all s (span_of e ∷ (span_of_statement a ∷ [])) × Placed all e × PlacedStatement all a
  PlacedStatement all (if_then_else s e a b) =
      IsWhole all s (span_of e ∷ (span_of_statement a ∷ (span_of_statement b ∷ []))) × Placed all e
      × PlacedStatement all a × PlacedStatement all b
  PlacedStatement all (while s e a) =
      IsWhole all s (span_of e ∷ (span_of_statement a ∷ [])) × Placed all e × PlacedStatement all a
  PlacedStatement all (for s h a) =
      IsWhole all s (head_spans h ++ (span_of_statement a ∷ [])) × PlacedHead all h × PlacedStatement all a

  pub PlacedStatements : List Token → Statements → Type 0
  PlacedStatements all no_statements = Unit {0}
  PlacedStatements all (statement a rest) = PlacedStatement all a × PlacedStatements all rest

abbrev pub PlacedItem : List Token → Item → Type 0
PlacedItem all (structure s) = IsWhole all s.span (point s.name.site ∷ declaration_spans s.fields) × IsName all s.name
    × PlacedDeclarations all s.fields
PlacedItem all (global g) =
    IsWhole all g.span (g.declaration.span ∷ form_spans g.form) × PlacedDeclaration all g.declaration
PlacedItem all (function f) =
    IsWhole all f.span (f.result.span ∷ (point f.name.site ∷ (declaration_spans f.parameters ++ (f.body ∷ []))))
    × PlacedType all f.result × IsName all f.name × PlacedDeclarations all f.parameters
    × IsWhole all f.body (statement_spans f.statements) × PlacedStatements all f.statements

abbrev pub PlacedItems : List Token → List Item → Type 0
PlacedItems all [] = Unit {0}
PlacedItems all (i ∷ rest) = PlacedItem all i × PlacedItems all rest

-- Each place in the tree is that of a token, and the parts of each whole follow one another in it. The names and the
-- casts of the tree, in the order in which it is written, are those among the tokens: so no two lie at one token, and
-- none is left out. The files are those of the tokens.
pub record IsPlaced (p : Program) : Type 0 where
  pub follow : Follow p.tokens.list 0 (length p.tokens.list) (item_spans p.items)
  pub items : PlacedItems p.tokens.list p.items
  pub marked : items_marks p.items ≡ marks_from 0 p.tokens.list
  pub files : p.files ≡ p.tokens.files
