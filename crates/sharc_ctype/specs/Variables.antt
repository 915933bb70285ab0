-- The variables of a program that begin with a value, and those that are assigned, in source order. Each is known by
-- the token that declares it.
use Rattle.std.specs.Prelude.{ℕ, List, [], ◌∷◌, ◌++◌, map, slice_index_or, Option, Some, None, is_some, if◌then◌else◌}
use Rattle.sharc_tree.specs.Forms.{without_parentheses}
use Rattle.sharc_tree.specs.Tree.{Expression, identifier, Simple, assign, does_call, Local, First, nothing, declares}
use Rattle.sharc_tree.specs.Tree.{does, Statement, empty, block, declare, simple, jump, return, if_then, if_then_else}
use Rattle.sharc_tree.specs.Tree.{while, for, Statements, no_statements, statement, Item, structure, global, function}
use Rattle.sharc_names.specs.declared.fault.Named.{Named}
use Rattle.sharc_names.specs.declared.fault.Named.TheVariants as named

-- The parameters, and the locals with an initialiser, begin with a value.

abbrev pub initialised : Local → List ℕ
initialised l = if is_some l.initial then l.declaration.name.site.token ∷ [] else []

abbrev pub initialised_first : First → List ℕ
initialised_first nothing = []
initialised_first (declares l) = initialised l
initialised_first (does x) = []

abbrev mutual
  pub initialised_in : Statement → List ℕ
  initialised_in (empty s) = []
  initialised_in (block s all) = initialised_in_all all
  initialised_in (declare s l) = initialised l
  initialised_in (simple s x) = []
  initialised_in (jump s j) = []
  initialised_in (return s e) = []
  initialised_in (if_then s e a) = initialised_in a
  initialised_in (if_then_else s e a b) = initialised_in a ++ initialised_in b
  initialised_in (while s e a) = initialised_in a
  initialised_in (for s h a) = initialised_first h.first ++ initialised_in a

  pub initialised_in_all : Statements → List ℕ
  initialised_in_all no_statements = []
  initialised_in_all (statement a rest) = initialised_in a ++ initialised_in_all rest

-- `x = ..` assigns `x`, where parentheses around `x` do not count. SCAST and free of a variable are no assignment of
-- it.

abbrev pub variable : Named → List ℕ
variable (named.Struct n) = []
variable (named.Global n) = []
variable (named.Function n) = []
variable (named.Variable token) = token ∷ []
variable (named.Field token) = []
variable named.Known = []

abbrev pub variable_of : List Named → Expression → List ℕ
variable_of names (identifier s i) = variable (slice_index_or names i.site.token named.Known)
variable_of names _ = []

abbrev pub assigned : List Named → Simple → List ℕ
assigned names (assign s u x) = variable_of names (without_parentheses u)
assigned names (does_call e) = []

abbrev pub assigned_first : List Named → First → List ℕ
assigned_first names nothing = []
assigned_first names (declares l) = []
assigned_first names (does x) = assigned names x

abbrev pub assigned_step : List Named → Option Simple → List ℕ
assigned_step names None = []
assigned_step names (Some x) = assigned names x

abbrev mutual
  pub assigned_in : List Named → Statement → List ℕ
  assigned_in names (empty s) = []
  assigned_in names (block s all) = assigned_in_all names all
  assigned_in names (declare s l) = []
  assigned_in names (simple s x) = assigned names x
  assigned_in names (jump s j) = []
  assigned_in names (return s e) = []
  assigned_in names (if_then s e a) = assigned_in names a
  assigned_in names (if_then_else s e a b) = assigned_in names a ++ assigned_in names b
  assigned_in names (while s e a) = assigned_in names a
  assigned_in names (for s h a) = assigned_first names h.first ++ assigned_step names h.step ++ assigned_in names a

  pub assigned_in_all : List Named → Statements → List ℕ
  assigned_in_all names no_statements = []
  assigned_in_all names (statement a rest) = assigned_in names a ++ assigned_in_all names rest

abbrev pub with_value : Item → List ℕ
with_value (structure s) = []
with_value (global g) = []
with_value (function f) = map (λ d. d.name.site.token) f.parameters ++ initialised_in_all f.statements

abbrev pub assigned_by : List Named → Item → List ℕ
assigned_by names (structure s) = []
assigned_by names (global g) = []
assigned_by names (function f) = assigned_in_all names f.statements

abbrev pub all_with_value : List Item → List ℕ
all_with_value [] = []
all_with_value (i ∷ rest) = with_value i ++ all_with_value rest

abbrev pub all_assigned : List Named → List Item → List ℕ
all_assigned names [] = []
all_assigned names (i ∷ rest) = assigned_by names i ++ all_assigned names rest
