-- What holds of the types of references in a program that is typed and in which no mode is wrong.
use Rattle.std.specs.Prelude.{◌≡◌, true, List, Some, Contains}
use Rattle.sharc_tree.specs.{Low.IsLow, Placed.IsPlaced, Tree.{Expression, value, Local, Function}}
use Rattle.sharc_names.specs.Kinds.{is_pointer, declared_kind}
use Rattle.sharc_ctype.specs.{Resolved.{IsResolved, kind_at}, Transfers.{result, function_transfers}}
use Rattle.sharc_mode.specs.{Flows.IsLeastAssignment, Moded.Assignment, Rows.modes_at, Sharings.Sharing}
use Rattle.sharc_mode.specs.WellModed.{WellModed}
use Rattle.sharc_check.specs.Constructs.{IsFunction, IsAssigned, locals_in_all}
use Rattle.sharc_flat.specs.Scope.{Context}
use Rattle.sharc_accepted_laws.specs.Static.{static_of, variable_type, result_type, entry_of, GoesTo}

-- a typed program with its least assignment, in which no mode is wrong
pub record IsAccepted (m : Assignment) : Type 0 where
  pub resolved : IsResolved m.typed
  pub placed : IsPlaced m.typed.program
  pub low : IsLow m.typed.program
  pub least : IsLeastAssignment m
  pub well : WellModed m

-- ---- what is given has the type of what it is given to

-- a pointer that is assigned
abbrev pub AssignedGoes : Type 0
AssignedGoes = (c : Context) → IsAccepted c.program
    → (u e : Expression) (modes : List Sharing) → IsAssigned c.program u (value e) → modes_at c.program u ≡ Some modes
    → is_pointer (kind_at c.program.typed u) ≡ true
    → GoesTo (entry_of c e) (static_of c (kind_at c.program.typed u) modes)

-- one with which a local begins
abbrev pub BegunGoes : Type 0
BegunGoes = (c : Context) → IsAccepted c.program → (f : Function) (l : Local) (e : Expression) → IsFunction c.program f
    → Contains (locals_in_all f.statements) l → l.initial ≡ Some (value e)
    → is_pointer (declared_kind l.declaration.written) ≡ true
    → GoesTo (entry_of c e) (variable_type c l.declaration.name.site.token)

-- one that is returned
abbrev pub ReturnedGoes : Type 0
ReturnedGoes = (c : Context) → IsAccepted c.program → (f : Function) (e : Expression) → IsFunction c.program f
    → Contains (function_transfers c.program.typed f) record { receiver = result f.result; source = value e }
    → is_pointer (declared_kind f.result) ≡ true → GoesTo (entry_of c e) (result_type c f)

pub record GivenLaws : Type 0 where
  pub assigned : AssignedGoes
  pub begun : BegunGoes
  pub returned : ReturnedGoes
