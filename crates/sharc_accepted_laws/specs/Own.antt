-- What a function declares and casts to is found by its tokens, with the role that it has.
use Rattle.std.specs.{Prelude.{◌≡◌, ◌++◌}, List.AllByRecursion}
use Rattle.sharc_tree.specs.{declared.tree.declaration.Declaration.Declaration, Low.IsLow, Measures.in_function}
use Rattle.sharc_tree.specs.{Placed.IsPlaced, Tree.{Expression, cast, Function}}
use Rattle.sharc_names.specs.declared.types.Role.{Role}
use Rattle.sharc_ctype.specs.{Entities.{declared, cast_entity}, Resolved.{Resolution, IsResolved, functions_in}}
use Rattle.sharc_ctype.specs.Statements.{locals_in_all}
use Rattle.sharc_ctype_laws.specs.Found.{IsFound}
use Rattle.sharc_mode.specs.declared.place.Place.TheVariants as place
use Rattle.sharc_mode.specs.WellFormed.{place_of}

-- a parameter or a local
pub record IsOwn (r : Resolution) (d : Declaration) : Type 0 where
  pub what : Role
  pub is_local : place_of what ≡ place.Local
  pub found : IsFound r (declared what d)

abbrev pub IsCastFound : Resolution → Expression → Type 0
IsCastFound r (cast s t a) = IsFound r (cast_entity s t)
IsCastFound r _ = Unit {0}

pub record HasOwn (r : Resolution) (f : Function) : Type 0 where
  pub variables : AllByRecursion (IsOwn r) (f.parameters ++ locals_in_all f.statements)
  pub cast_types : AllByRecursion (IsCastFound r) (in_function f)

abbrev pub OwnAreFound : Type 0
OwnAreFound = (r : Resolution) → IsResolved r → IsPlaced r.program → IsLow r.program
    → AllByRecursion (HasOwn r) (functions_in r.program.items)
