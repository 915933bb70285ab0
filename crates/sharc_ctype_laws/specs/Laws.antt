-- What holds of each typed program.
use Rattle.std.specs.{Prelude.{◌≡◌, ℕ, false, List, ◌∷◌, ◌++◌, Some, Contains}, List.AllByRecursion}
use Rattle.sharc_tree.specs.{Low.IsLow, Marks.items_marks, Measures.in_function, Placed.IsPlaced}
use Rattle.sharc_tree.specs.Tree.{Expression, identifier, spawn, Function, Program}
use Rattle.sharc_names.specs.{declared.fault.Named.Named, Kinds.{Kind, declared_kind}, Names.{Entry, look_up, named_of}}
use Rattle.sharc_names.specs.Notes.{Note, fault, refers, yields, referred}
use Rattle.sharc_names.specs.declared.fault.Named.TheVariants as named
use Rattle.sharc_ctype.specs.{Expressions.type_of, Items.{IsTyped, notes_about, file_scope}}
use Rattle.sharc_ctype.specs.Resolved.{Resolution, IsResolved, globals_in, functions_in, function_at, kind_at, named_at}
use Rattle.sharc_ctype.specs.{Statements.{is_aggregate, locals_in_all}, Transfers.{IsFair, function_transfers}}
use Rattle.sharc_ctype.specs.Reaches.{name_tokens, Spawns, IsReached}
use Rattle.sharc_ctype_laws.specs.{Places.{Placing, places_of_all}, Paths.PathsFound, Constraints.HasType}
use Rattle.sharc_ctype_laws.specs.{Rules.MeetsRules, WrittenTypes.{types_in_items, IsNamedType}}
use Rattle.sharc_ctype_laws.specs.{Declared.{NameThemselves, NamesOwnVariables}, Initials.MeetsGlobal}
use Rattle.sharc_ctype_laws.specs.{Limits.{IsWithinLimits, IsMain}, Callable.{IsCallable, IsThread}}

-- it says of the token what that names
abbrev pub Tells : Note → ℕ → Named → Type 0
Tells (fault place code) token what = ⊥
Tells (refers n named) token what = (n ≡ token) × (named ≡ what)
Tells (yields n named) token what = (n ≡ token) × (named ≡ what)

-- one note refers to a token, and none before it or after it does; the resolved program names what that note says
pub record IsToldOnce (r : Resolution) (token : ℕ) : Type 0 where
  pub what : Named
  pub note : Note
  pub tells : Tells note token what
  pub before : List Note
  pub after : List Note
  pub notes : notes_about r.program ≡ before ++ note ∷ after
  pub not_before : Contains (referred before) token → ⊥
  pub not_after : Contains (referred after) token → ⊥
  pub named : named_at r token ≡ what

-- in a program at its tokens the token of each name is referred to once
abbrev pub EachNameOnce : Type 0
EachNameOnce = (r : Resolution) → IsResolved r → IsPlaced r.program → IsLow r.program
    → (token : ℕ) → Contains (name_tokens (items_marks r.program.items)) token → IsToldOnce r token

-- and no other token is
abbrev pub OnlyNames : Type 0
OnlyNames = (r : Resolution) → IsResolved r → IsPlaced r.program → IsLow r.program → (token : ℕ)
    → Contains (referred (notes_about r.program)) token → Contains (name_tokens (items_marks r.program.items)) token

-- the name of a declaration names that declaration
abbrev pub EachNamesItself : Type 0
EachNamesItself = (r : Resolution) → IsResolved r → IsPlaced r.program → IsLow r.program → NameThemselves r

-- the variables that a function names are its own
abbrev pub EachNamesOwn : Type 0
EachNamesOwn = (r : Resolution) → IsResolved r → IsPlaced r.program → IsLow r.program
    → AllByRecursion (NamesOwnVariables r) (functions_in r.program.items)

-- the type of an expression from what its names name is that of the expression in its scope
abbrev pub SameKinds : Type 0
SameKinds = (r : Resolution) → IsResolved r → IsPlaced r.program → IsLow r.program
    → AllByRecursion (λ p. type_of p.scope p.expression ≡ Some (kind_at r p.expression))
    (places_of_all (file_scope r.program.items) (functions_in r.program.items))

-- and it is the type that C11 gives it
abbrev pub MeetsConstraints : Type 0
MeetsConstraints = (r : Resolution) → IsResolved r → IsPlaced r.program → IsLow r.program → AllByRecursion
    (λ f. AllByRecursion (λ e. HasType r e (kind_at r e)) (in_function f)) (functions_in r.program.items)

-- and they give it no other
abbrev pub OneType : Type 0
OneType = (r : Resolution) → IsResolved r → IsPlaced r.program → IsLow r.program
    → (e : Expression) → (k : Kind) → HasType r e k → kind_at r e ≡ k

-- the names in written types name what they spell: the struct of that name, and what a lock path leads to
abbrev pub NamesInTypes : Type 0
NamesInTypes = (r : Resolution) → IsResolved r → IsPlaced r.program → IsLow r.program
    → AllByRecursion (IsNamedType r) (types_in_items r.program.items)

-- each statement meets the constraints of C11 6.8
abbrev pub MeetsStatements : Type 0
MeetsStatements = (r : Resolution) → IsResolved r → IsPlaced r.program → IsLow r.program
    → AllByRecursion (MeetsRules r) (functions_in r.program.items)

-- what is assigned, initialised, passed and returned agrees with what it is given to
abbrev pub AllFair : Type 0
AllFair = (r : Resolution) → IsResolved r → IsPlaced r.program → IsLow r.program
    → AllByRecursion (λ f. AllByRecursion (IsFair r) (function_transfers r f)) (functions_in r.program.items)

-- the globals of a typed program meet the constraints of C11 6.7
abbrev pub MeetsGlobals : Type 0
MeetsGlobals = (p : Program) → IsTyped p → AllByRecursion MeetsGlobal (globals_in p.items)

-- a typed program is within the limits
abbrev pub WithinLimits : Type 0
WithinLimits = (p : Program) → IsTyped p → IsWithinLimits p

-- and has its `main`
abbrev pub HasMain : Type 0
HasMain = (r : Resolution) → IsResolved r → IsPlaced r.program → IsLow r.program
    → (n : ℕ) × (f : Function) × IsMain r n f

-- and no two functions of one name, so it has one `main`
abbrev pub OneFunctionOfName : Type 0
OneFunctionOfName = (r : Resolution) → IsResolved r → (n k : ℕ) (f g : Function) → function_at r n ≡ Some f
    → function_at r k ≡ Some g → f.name.text ≡ g.name.text → n ≡ k

-- what is spawned anywhere is a void function with one parameter, and what is reached is a function; neither is `main`
abbrev pub SpawnsThreads : Type 0
SpawnsThreads = (r : Resolution) → IsResolved r → IsPlaced r.program → IsLow r.program → (n m : ℕ) → Spawns r n m
    → (f : Function) × IsThread r m f

abbrev pub ReachesFunctions : Type 0
ReachesFunctions = (r : Resolution) → IsResolved r → IsPlaced r.program → IsLow r.program → (m : ℕ) → IsReached r m
    → (f : Function) × IsCallable r m f

-- there is such a program
abbrev pub SomeTyped : Type 0
SomeTyped = (r : Resolution) × IsResolved r × IsPlaced r.program × IsLow r.program

-- a name names what is found of it in its scope: the last declared of that name
abbrev pub NamesFound : Resolution → Placing → Expression → Type 0
NamesFound r p (identifier s i) =
    (e : Entry) × (look_up p.scope.names i.text ≡ Some e) × (named_at r i.site.token ≡ named_of e.meaning)
NamesFound r p _ = Unit {0}

abbrev pub EachNamesFound : Type 0
EachNamesFound = (r : Resolution) → IsResolved r → IsPlaced r.program → IsLow r.program → AllByRecursion
    (λ p. NamesFound r p p.expression) (places_of_all (file_scope r.program.items) (functions_in r.program.items))

-- what the lock paths of types name is in scope where the type is read, and where what has the type is
abbrev pub EachPathFound : Type 0
EachPathFound = (r : Resolution) → IsResolved r → IsPlaced r.program → IsLow r.program → PathsFound r

-- parameters and locals are no structs and no mutexes, and no function gives one
abbrev pub IsPlain : Function → Type 0
IsPlain f =
    AllByRecursion (λ d. is_aggregate (declared_kind d.written) ≡ false) (f.parameters ++ locals_in_all f.statements)
    × (is_aggregate (declared_kind f.result) ≡ false)

abbrev pub ArePlain : Type 0
ArePlain = (r : Resolution) → IsResolved r → IsPlaced r.program → IsLow r.program
    → AllByRecursion IsPlain (functions_in r.program.items)

-- the name in a `spawn` is that of a function of the program
abbrev pub SpawnsByName : Resolution → Expression → Type 0
SpawnsByName r (spawn s f a) = (n : ℕ) × (named_at r f.site.token ≡ named.Function n)
SpawnsByName r _ = Unit {0}

abbrev pub SpawnsNameFunctions : Type 0
SpawnsNameFunctions = (r : Resolution) → IsResolved r → IsPlaced r.program → IsLow r.program
    → AllByRecursion (λ f. AllByRecursion (SpawnsByName r) (in_function f)) (functions_in r.program.items)
