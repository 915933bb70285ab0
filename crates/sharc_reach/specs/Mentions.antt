-- The names in a function, in the order in which they are written, each with what the function does with it.
use Rattle.std.specs.Prelude.{ℕ, zero, suc, Bool, true, false, List, [], ◌∷◌, ◌++◌, Option, Some, None}
use Rattle.sharc_tree.specs.{declared.ctype.Mode.Mode, declared.tree.declaration.WrittenType.WrittenType}
use Rattle.sharc_tree.specs.Marks.{Mark, a_name, a_cast, level_marks, base_marks, type_marks, name_marks}
use Rattle.sharc_tree.specs.Marks.{declaration_marks, declarations_marks}
use Rattle.sharc_tree.specs.Tree.{Expression, identifier, constant, parentheses, call, spawn, on_value, on_place, cast}
use Rattle.sharc_tree.specs.Tree.{index, field, unary, binary, Arguments, no_arguments, argument, Right, value, malloc}
use Rattle.sharc_tree.specs.Tree.{Simple, assign, does_call, Local, First, nothing, declares, does, Head, Statement}
use Rattle.sharc_tree.specs.Tree.{empty, block, declare, simple, jump, return, if_then, if_then_else, while, for}
use Rattle.sharc_tree.specs.Tree.{Statements, no_statements, statement, Function}
use Rattle.sharc_ctype.specs.Resolved.{Resolution, function_at}
use Rattle.sharc_reach.specs.{declared.mention.Mention.Mention, declared.mention.NameUse.NameUse}
use Rattle.sharc_reach.specs.declared.mention.NameUse.TheVariants.{Named, Called, Spawned}

abbrev pub mention : ℕ → ℕ → NameUse → Mention
mention function token role = record { function = function; token = token; role = role }

-- those that are names alone, by their marks
abbrev pub names : ℕ → List Mark → List Mention
names n [] = []
names n (a_name token text ∷ rest) = mention n token Named ∷ names n rest
names n (a_cast token ∷ rest) = names n rest

-- the base of a type with the mode of the level at it
abbrev pub bottom_marks_by : Bool → List Mark → List Mark → List Mark
bottom_marks_by true level base = level ++ base
bottom_marks_by false level base = base ++ level

abbrev pub bottom_marks : WrittenType → Option Mode → List Mark
bottom_marks t m = bottom_marks_by t.mode_first (level_marks m) (base_marks t.ctype.base t.base.token)

-- those of an expression of the function with number n
abbrev mutual
  pub mentions : ℕ → Expression → List Mention
  mentions n (identifier s i) = mention n i.site.token Named ∷ []
  mentions n (constant s c) = []
  mentions n (parentheses s a) = mentions n a
  mentions n (call s f all) = mention n f.site.token Called ∷ mentions_of_all n all
  mentions n (spawn s f a) = mention n f.site.token Spawned ∷ mentions n a
  mentions n (on_value s w a) = mentions n a
  mentions n (on_place s w a) = mentions n a
  mentions n (cast s t a) = names n (type_marks t) ++ mentions n a
  mentions n (index s a i) = mentions n a ++ mentions n i
  mentions n (field s a w f) = mentions n a ++ mention n f.site.token Named ∷ []
  mentions n (unary s o a) = mentions n a
  mentions n (binary s o at a b) = mentions n a ++ mentions n b

  pub mentions_of_all : ℕ → Arguments → List Mention
  mentions_of_all n no_arguments = []
  mentions_of_all n (argument a rest) = mentions n a ++ mentions_of_all n rest

abbrev pub option_mentions : {A : Type 0} → (A → List Mention) → Option A → List Mention
option_mentions f None = []
option_mentions f (Some x) = f x

abbrev pub right_mentions : ℕ → Right → List Mention
right_mentions n (value e) = mentions n e
right_mentions n (malloc s count t) = option_mentions (mentions n) count ++ names n (type_marks t)

abbrev pub simple_mentions : ℕ → Simple → List Mention
simple_mentions n (assign s u r) = mentions n u ++ right_mentions n r
simple_mentions n (does_call e) = mentions n e

abbrev pub local_mentions : ℕ → Local → List Mention
local_mentions n l = names n (declaration_marks l.declaration) ++ option_mentions (right_mentions n) l.initial

abbrev pub first_mentions : ℕ → First → List Mention
first_mentions n nothing = []
first_mentions n (declares l) = local_mentions n l
first_mentions n (does x) = simple_mentions n x

abbrev pub head_mentions : ℕ → Head → List Mention
head_mentions n h =
    first_mentions n h.first ++ option_mentions (mentions n) h.test ++ option_mentions (simple_mentions n) h.step

abbrev mutual
  pub statement_mentions : ℕ → Statement → List Mention
  statement_mentions n (empty s) = []
  statement_mentions n (block s all) = statements_mentions n all
  statement_mentions n (declare s l) = local_mentions n l
  statement_mentions n (simple s x) = simple_mentions n x
  statement_mentions n (jump s j) = []
  statement_mentions n (return s e) = option_mentions (mentions n) e
  statement_mentions n (if_then s e a) = mentions n e ++ statement_mentions n a
  statement_mentions n (if_then_else s e a b) = mentions n e ++ statement_mentions n a ++ statement_mentions n b
  statement_mentions n (while s e a) = mentions n e ++ statement_mentions n a
  statement_mentions n (for s h a) = head_mentions n h ++ statement_mentions n a

  pub statements_mentions : ℕ → Statements → List Mention
  statements_mentions n no_statements = []
  statements_mentions n (statement a rest) = statement_mentions n a ++ statements_mentions n rest

abbrev pub function_mentions : ℕ → Function → List Mention
function_mentions n f = names n (type_marks f.result) ++ names n (name_marks f.name)
    ++ names n (declarations_marks f.parameters) ++ statements_mentions n f.statements

abbrev pub mentions_in : ℕ → Option Function → List Mention
mentions_in n None = []
mentions_in n (Some f) = function_mentions n f

-- those of this many functions of a program, from the first on
abbrev pub mentions_below : Resolution → ℕ → List Mention
mentions_below r zero = []
mentions_below r (suc n) = mentions_below r n ++ mentions_in n (function_at r n)
