-- What the name of a declaration names: itself. And which variables a function names: its own.
use Rattle.std.specs.{Prelude.{◌≡◌, ℕ, List, ◌++◌, map, Some, Contains}, List.AllByRecursion}
use Rattle.sharc_tree.specs.declared.tree.declaration.Declaration.{Declaration}
use Rattle.sharc_tree.specs.declared.tree.item.StructDefinition.{StructDefinition}
use Rattle.sharc_tree.specs.{declared.tree.item.GlobalDefinition.GlobalDefinition, Measures.in_function}
use Rattle.sharc_tree.specs.Tree.{Expression, identifier, Function}
use Rattle.sharc_names.specs.declared.fault.Named.{Named}
use Rattle.sharc_names.specs.declared.fault.Named.TheVariants as named
use Rattle.sharc_ctype.specs.Resolved.{Resolution, structs_in, functions_in, struct_at, global_at, function_at}
use Rattle.sharc_ctype.specs.Resolved.{declaration_at, named_at}
use Rattle.sharc_ctype.specs.Statements.{locals_in_all}

-- and it is found by the token of its name
abbrev pub IsItself : Resolution → (ℕ → Named) → Declaration → Type 0
IsItself r form d =
    (named_at r d.name.site.token ≡ form d.name.site.token) × (declaration_at r d.name.site.token ≡ Some d)

-- structs, globals and functions are given by their numbers; fields, parameters and locals by the tokens of their names
pub record NameThemselves (r : Resolution) : Type 0 where
  pub structs : (n : ℕ) (s : StructDefinition) → struct_at r n ≡ Some s → named_at r s.name.site.token ≡ named.Struct n
  pub globals : (n : ℕ) (g : GlobalDefinition) → global_at r n ≡ Some g
      → named_at r g.declaration.name.site.token ≡ named.Global n
  pub functions : (n : ℕ) (f : Function) → function_at r n ≡ Some f → named_at r f.name.site.token ≡ named.Function n
  pub fields : AllByRecursion (λ s. AllByRecursion (IsItself r named.Field) s.fields) (structs_in r.program.items)
  pub variables :
      AllByRecursion (λ f. AllByRecursion (IsItself r named.Variable) (f.parameters ++ locals_in_all f.statements))
      (functions_in r.program.items)

-- 6.2.1p4: a variable that is named in a function is a parameter or a local of it
abbrev pub NamesOwn : Resolution → List Declaration → Expression → Type 0
NamesOwn r own (identifier s i) = (token : ℕ) → named_at r i.site.token ≡ named.Variable token
    → Contains (map (λ d. d.name.site.token) own) token
NamesOwn r own _ = Unit {0}

abbrev pub NamesOwnVariables : Resolution → Function → Type 0
NamesOwnVariables r f = AllByRecursion (NamesOwn r (f.parameters ++ locals_in_all f.statements)) (in_function f)
