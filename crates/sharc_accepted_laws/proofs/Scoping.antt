-- What is wanted of names and scopes.
use Rattle.sharc_accepted_laws.proofs.Imports.{◌≡◌, ℕ, List, [], ◌∷◌, length, Contains, Base, Declaration, Function, object, Entry, file_scope, Resolution, functions_in, declaration_at, variable_kind, TypeStands, fields_behind}
use Rattle.sharc_ctype.specs.Statements.{declared}

-- variables that point to one struct lead to its fields
abbrev pub HasOneStruct : Resolution → Type 0
HasOneStruct r = (x y : ℕ) (struct : List ℕ) → variable_kind (declaration_at r x) ≡ object (Base.Struct struct) 1 → variable_kind (declaration_at r y) ≡ object (Base.Struct struct) 1
    → fields_behind r (declaration_at r x) ≡ fields_behind r (declaration_at r y)

-- the lock paths of a parameter's type lead through parameters before it
abbrev pub ParametersStand : Resolution → ℕ → List Entry → List Declaration → Type 0
ParametersStand r start names [] = Unit {0}
ParametersStand r start names (d ∷ rest) = TypeStands r names d.written × ParametersStand r start (declared start d names) rest

abbrev pub AreParametersClosed : Resolution → Type 0
AreParametersClosed r = (f : Function) → Contains (functions_in r.program.items) f
    → ParametersStand r (length (file_scope r.program.items).names) (file_scope r.program.items).names f.parameters
