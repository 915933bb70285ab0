-- The mutexes to which lock paths lead.
use Rattle.std.specs.{Prelude.{◌≡◌, ℕ, ◌<◌, List, Some}, List.AllByRecursion}
use Rattle.sharc_tree.specs.declared.ctype.Base.TheVariants as base
use Rattle.sharc_tree.specs.{Measures.expressions, Tree.Expression}
use Rattle.sharc_names.specs.Kinds.{object, declared_kind}
use Rattle.sharc_ctype.specs.Resolved.{structs_in}
use Rattle.sharc_ctype_laws.specs.Constraints.{struct_named}
use Rattle.sharc_meaning.specs.Cells.{field_place_behind}
use Rattle.sharc_check.specs.{Constructs.IsExpression, Paths.IsMutexBehind}
use Rattle.sharc_flat.specs.Scope.{Context}
use Rattle.sharc_invariant.specs.Types.{MutexWord, cells_of, field_at}
use Rattle.sharc_accepted_laws.specs.{StaticLaws.IsAccepted, Standing.ExpressionsStand, Static.variable_type}
use Rattle.sharc_accepted_laws.specs.{Targets.targets_of, Joined.PathLeads}

-- in the table, behind the variable's type
pub record IsMutexThere (c : Context) (x : ℕ) (name : List ℕ) : Type 0 where
  pub inside : field_place_behind c.program.typed x name < cells_of (targets_of c.program) (variable_type c x).target
  pub holds :
      (field_at (targets_of c.program) (variable_type c x).target (field_place_behind c.program.typed x name)).holds
      ≡ MutexWord

-- of a path `x->m` that may be written (M4), with `x` a pointer to its struct
abbrev pub MutexesBehind : Type 0
MutexesBehind = (c : Context) → IsAccepted c.program
    → (x : ℕ) (name : List ℕ) (w : IsMutexBehind c.program.typed x name) (s : List ℕ)
    → declared_kind w.variable.written ≡ object (base.Struct s) 1
    → struct_named (structs_in c.program.typed.program.items) s ≡ Some w.struct → IsMutexThere c x name

-- of the path of the type of an element, where the variables of the paths of the types of an expression's parts stand
abbrev pub PathsLead : Type 0
PathsLead = (c : Context) → IsAccepted c.program → (e : Expression)
    → AllByRecursion (IsExpression c.program) (expressions e) → ExpressionsStand c (expressions e) → PathLeads c e
