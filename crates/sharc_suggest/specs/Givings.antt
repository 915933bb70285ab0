-- What is given to what: each value that is passed, assigned or returned, or initialises a local, in source order.
use Rattle.std.specs.Prelude.{ℕ, zero, suc, List, [], ◌∷◌, ◌++◌, drop, Option, Some, None}
use Rattle.sharc_tree.specs.declared.tree.declaration.Declaration.{Declaration}
use Rattle.sharc_tree.specs.Tree.{Expression, identifier, constant, parentheses, call, spawn, on_value, on_place, cast}
use Rattle.sharc_tree.specs.Tree.{index, field, unary, binary, Arguments, no_arguments, argument, Right, value, malloc}
use Rattle.sharc_tree.specs.Tree.{Simple, assign, does_call, Local, First, nothing, declares, does, Head, Statement}
use Rattle.sharc_tree.specs.Tree.{Statements, no_statements, statement, Item, structure, global, function}
use Rattle.sharc_tree.specs.Tree as tree
use Rattle.sharc_names.specs.Names.{Entry}
use Rattle.sharc_ctype.specs.{Resolved.named_at, Transfers.parameters_named}
use Rattle.sharc_mode.specs.{Expressions.expected, Moded.Assignment, Rows.{written, declared_row, modes_of, modes_at}}
use Rattle.sharc_mode.specs.Sharings.{Sharing}
use Rattle.sharc_suggest.specs.Repairs.{entry_of}

-- what receives it: a local or the result of a function, given by the token of its name; a left side; or, at a call of
-- the function that a token names, with these arguments, the parameter of this number
pub data Receiver : Type 0 where
  of_declared : ℕ → Receiver
  of_left : Expression → Receiver
  of_parameter : ℕ → Arguments → ℕ → Receiver

-- with the variables that are in scope there
pub record Giving : Type 0 where
  pub scope : List Entry
  pub receiver : Receiver
  pub given : Expression

-- the modes that are expected of it

abbrev pub beyond : ℕ → List Declaration → List Declaration
beyond zero ds = ds
beyond (suc k) ds = drop 1 (beyond k ds)

abbrev pub wanted_of : Assignment → List Declaration → Arguments → ℕ → Option (List Sharing)
wanted_of m ds all k = expected m ds all (beyond k ds)

abbrev pub wanted : Assignment → Receiver → Option (List Sharing)
wanted m (of_declared token) = Some (modes_of m (declared_row m.typed written token))
wanted m (of_left u) = modes_at m u
wanted m (of_parameter token all k) = wanted_of m (parameters_named m.typed (named_at m.typed token)) all k

-- ---- the variables in scope, the last declared first: C11 6.2.1p7, a local is in scope in its own initialiser

-- behind what comes first in the head of a `for`
abbrev pub behind_first : List Entry → First → List Entry
behind_first scope nothing = scope
behind_first scope (declares l) = entry_of l.declaration ∷ scope
behind_first scope (does x) = scope

-- what is in scope after a statement: a declaration adds its variable, and what is in a block ends with it

abbrev pub after : List Entry → Statement → List Entry
after scope (tree.empty s) = scope
after scope (tree.block s all) = scope
after scope (tree.declare s l) = entry_of l.declaration ∷ scope
after scope (tree.simple s x) = scope
after scope (tree.jump s j) = scope
after scope (tree.return s e) = scope
after scope (tree.if_then s e a) = scope
after scope (tree.if_then_else s e a b) = scope
after scope (tree.while s e a) = scope
after scope (tree.for s h a) = scope

abbrev pub after_all : List Entry → Statements → List Entry
after_all scope no_statements = scope
after_all scope (statement a rest) = after_all (after scope a) rest

-- the parameters of a function are in scope in its body
abbrev pub with_parameters : List Entry → List Declaration → List Entry
with_parameters scope [] = scope
with_parameters scope (d ∷ rest) = with_parameters (entry_of d ∷ scope) rest

-- ---- in each production

abbrev pub one_giving : List Entry → Receiver → Expression → List Giving
one_giving scope receiver e = record { scope = scope; receiver = receiver; given = e } ∷ []

abbrev mutual
  pub givings : List Entry → Expression → List Giving
  givings scope (identifier s i) = []
  givings scope (constant s k) = []
  givings scope (parentheses s a) = givings scope a
  givings scope (call s f all) = all_givings scope f.site.token all zero all
  givings scope (spawn s f a) =
      givings scope a ++ one_giving scope (of_parameter f.site.token (argument a no_arguments) zero) a
  givings scope (on_value s w a) = givings scope a
  givings scope (on_place s w a) = givings scope a
  givings scope (cast s t a) = givings scope a
  givings scope (index s a i) = givings scope a ++ givings scope i
  givings scope (field s a w n) = givings scope a
  givings scope (unary s o a) = givings scope a
  givings scope (binary s o at a b) = givings scope a ++ givings scope b

  -- of the arguments that are left, the first of which has this number
  pub all_givings : List Entry → ℕ → Arguments → ℕ → Arguments → List Giving
  all_givings scope f all k no_arguments = []
  all_givings scope f all k (argument a rest) =
      givings scope a ++ one_giving scope (of_parameter f all k) a ++ all_givings scope f all (suc k) rest

abbrev pub option_givings : {A : Type 0} → (A → List Giving) → Option A → List Giving
option_givings f None = []
option_givings f (Some x) = f x

abbrev pub value_givings : List Entry → Receiver → Expression → List Giving
value_givings scope receiver e = givings scope e ++ one_giving scope receiver e

abbrev pub right_givings : List Entry → Receiver → Right → List Giving
right_givings scope receiver (value e) = value_givings scope receiver e
right_givings scope receiver (malloc s n t) = option_givings (givings scope) n

abbrev pub simple_givings : List Entry → Simple → List Giving
simple_givings scope (assign s u x) = givings scope u ++ right_givings scope (of_left u) x
simple_givings scope (does_call e) = givings scope e

abbrev pub local_givings : List Entry → Local → List Giving
local_givings scope l = option_givings
    (right_givings (entry_of l.declaration ∷ scope) (of_declared l.declaration.name.site.token)) l.initial

abbrev pub first_givings : List Entry → First → List Giving
first_givings scope nothing = []
first_givings scope (declares l) = local_givings scope l
first_givings scope (does x) = simple_givings scope x

abbrev pub head_givings : List Entry → Head → List Giving
head_givings scope h = first_givings scope h.first ++ option_givings (givings (behind_first scope h.first)) h.test
    ++ option_givings (simple_givings (behind_first scope h.first)) h.step

-- in the function whose name is this token
abbrev mutual
  pub givings_in : List Entry → ℕ → Statement → List Giving
  givings_in scope f (tree.empty s) = []
  givings_in scope f (tree.block s all) = givings_in_all scope f all
  givings_in scope f (tree.declare s l) = local_givings scope l
  givings_in scope f (tree.simple s x) = simple_givings scope x
  givings_in scope f (tree.jump s j) = []
  givings_in scope f (tree.return s e) = option_givings (value_givings scope (of_declared f)) e
  givings_in scope f (tree.if_then s e a) = givings scope e ++ givings_in scope f a
  givings_in scope f (tree.if_then_else s e a b) = givings scope e ++ givings_in scope f a ++ givings_in scope f b
  givings_in scope f (tree.while s e a) = givings scope e ++ givings_in scope f a
  givings_in scope f (tree.for s h a) = head_givings scope h ++ givings_in (behind_first scope h.first) f a

  pub givings_in_all : List Entry → ℕ → Statements → List Giving
  givings_in_all scope f no_statements = []
  givings_in_all scope f (statement a rest) = givings_in scope f a ++ givings_in_all (after scope a) f rest

abbrev pub item_givings : Item → List Giving
item_givings (structure s) = []
item_givings (global g) = []
item_givings (function f) = givings_in_all (with_parameters [] f.parameters) f.name.site.token f.statements

abbrev pub items_givings : List Item → List Giving
items_givings [] = []
items_givings (i ∷ rest) = item_givings i ++ items_givings rest
