-- The lock paths of the types of expressions lead to mutexes.
use Rattle.std.specs.{Prelude.{◌≡◌, ℕ, List, Some}, List.AllByRecursion}
use Rattle.sharc_tree.specs.declared.ctype.Base.TheVariants as base
use Rattle.sharc_tree.specs.{Measures.expressions, Tree.Expression}
use Rattle.sharc_names.specs.declared.fault.Named.TheVariants as named
use Rattle.sharc_names.specs.Kinds.{object, mutex, declared_kind}
use Rattle.sharc_ctype.specs.Resolved.{Resolution, named_at, named_kind, structs_in}
use Rattle.sharc_ctype_laws.specs.Constraints.{struct_named}
use Rattle.sharc_mode.specs.{Moded.Assignment, Rows.modes_at, Sharings.{Lock, Sharing, locked}}
use Rattle.sharc_check.specs.{Constructs.IsExpression, Paths.IsMutexBehind}
use Rattle.sharc_accepted_laws.specs.StaticLaws.{IsAccepted}

-- `m`, a global mutex, or `x->m`, a mutex of the struct of this name to which the variable `x` points
pub data LeadsToMutex (r : Resolution) (l : Lock) : Type 0 where
  by_global : (g : ℕ) → named_at r l.first ≡ named.Global g → named_kind r (named.Global g) ≡ mutex → LeadsToMutex r l
  by_variable : (x : ℕ) (name struct : List ℕ) → named_at r l.first ≡ named.Variable x → l.second ≡ Some name
      → (w : IsMutexBehind r x name) → declared_kind w.variable.written ≡ object (base.Struct struct) 1
      → struct_named (structs_in r.program.items) struct ≡ Some w.struct → LeadsToMutex r l

abbrev pub LeadsIfLocked : Resolution → Sharing → Type 0
LeadsIfLocked r s = (l : Lock) → s ≡ locked l → LeadsToMutex r l

abbrev pub AllLead : Assignment → List Sharing → Type 0
AllLead m modes = AllByRecursion (LeadsIfLocked m.typed) modes

-- in the type of an expression of a function
abbrev pub ExpressionsLead : Type 0
ExpressionsLead = (m : Assignment) → IsAccepted m → (e : Expression) (modes : List Sharing)
    → AllByRecursion (IsExpression m) (expressions e) → modes_at m e ≡ Some modes → AllLead m modes
