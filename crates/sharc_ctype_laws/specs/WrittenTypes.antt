-- The types that are written in a program, and what their names name.
use Rattle.std.specs.Prelude.{◌≡◌, ◌⊎◌, ℕ, ◌+◌, List, [], ◌∷◌, ◌++◌, map, Option, Some, None, codes}
use Rattle.std.specs.List.{AllByRecursion}
use Rattle.sharc_tree.specs.{declared.ctype.Base.Base, declared.ctype.Mode.Mode}
use Rattle.sharc_tree.specs.declared.ctype.Mode.TheVariants.{Private, Readonly, Locked, Racy, Dynamic}
use Rattle.sharc_tree.specs.{declared.ctype.Path.Path, declared.ctype.Path.TheVariants.{One, Through}}
use Rattle.sharc_tree.specs.declared.tree.declaration.WrittenType.{WrittenType}
use Rattle.sharc_tree.specs.declared.tree.declaration.Declaration.{Declaration}
use Rattle.sharc_tree.specs.declared.tree.item.StructDefinition.{StructDefinition}
use Rattle.sharc_tree.specs.declared.tree.item.GlobalDefinition.{GlobalDefinition}
use Rattle.sharc_tree.specs.Tree.{Expression, identifier, constant, parentheses, call, spawn, on_value, on_place, cast}
use Rattle.sharc_tree.specs.Tree.{index, field, unary, binary, Arguments, no_arguments, argument, Right, value, malloc}
use Rattle.sharc_tree.specs.Tree.{Simple, assign, does_call, Local, First, nothing, declares, does, Head, Statement}
use Rattle.sharc_tree.specs.Tree.{empty, block, declare, simple, jump, return, if_then, if_then_else, while, for}
use Rattle.sharc_tree.specs.Tree.{Statements, no_statements, statement, Function, Item, structure, global, function}
use Rattle.sharc_tree.specs.declared.ctype.Base.TheVariants as base
use Rattle.sharc_names.specs.declared.fault.Named.TheVariants as named
use Rattle.sharc_names.specs.{declared.meaning.ConditionCall.ConditionCall, Kinds.{Kind, object, declared_kind}}
use Rattle.sharc_names.specs.Names.{global_kind}
use Rattle.sharc_names.specs.Kinds as kinds
use Rattle.sharc_ctype.specs.Resolved.{Resolution, structs_in, struct_at, named_at, declaration_at, global_at}
use Rattle.sharc_ctype.specs.Resolved.{function_at}
use Rattle.sharc_ctype_laws.specs.Constraints.{struct_named, IsMemberOf, name_of}

-- in source order

abbrev mutual
  pub types_in : Expression → List WrittenType
  types_in (identifier s i) = []
  types_in (constant s c) = []
  types_in (parentheses s a) = types_in a
  types_in (call s f all) = types_in_arguments all
  types_in (spawn s f a) = types_in a
  types_in (on_value s w a) = types_in a
  types_in (on_place s w a) = types_in a
  types_in (cast s t a) = t ∷ types_in a
  types_in (index s a i) = types_in a ++ types_in i
  types_in (field s a w n) = types_in a
  types_in (unary s o a) = types_in a
  types_in (binary s o at a b) = types_in a ++ types_in b

  pub types_in_arguments : Arguments → List WrittenType
  types_in_arguments no_arguments = []
  types_in_arguments (argument a rest) = types_in a ++ types_in_arguments rest

abbrev pub types_in_option : {A : Type 0} → (A → List WrittenType) → Option A → List WrittenType
types_in_option f None = []
types_in_option f (Some x) = f x

abbrev pub types_in_right : Right → List WrittenType
types_in_right (value e) = types_in e
types_in_right (malloc s n w) = types_in_option types_in n ++ w ∷ []

abbrev pub types_in_simple : Simple → List WrittenType
types_in_simple (assign s u x) = types_in u ++ types_in_right x
types_in_simple (does_call e) = types_in e

abbrev pub types_in_local : Local → List WrittenType
types_in_local l = l.declaration.written ∷ types_in_option types_in_right l.initial

abbrev pub types_in_first : First → List WrittenType
types_in_first nothing = []
types_in_first (declares l) = types_in_local l
types_in_first (does x) = types_in_simple x

abbrev pub types_in_head : Head → List WrittenType
types_in_head h = types_in_first h.first ++ types_in_option types_in h.test ++ types_in_option types_in_simple h.step

abbrev mutual
  pub types_in_statement : Statement → List WrittenType
  types_in_statement (empty s) = []
  types_in_statement (block s all) = types_in_statements all
  types_in_statement (declare s l) = types_in_local l
  types_in_statement (simple s x) = types_in_simple x
  types_in_statement (jump s j) = []
  types_in_statement (return s e) = types_in_option types_in e
  types_in_statement (if_then s e a) = types_in e ++ types_in_statement a
  types_in_statement (if_then_else s e a b) = types_in e ++ types_in_statement a ++ types_in_statement b
  types_in_statement (while s e a) = types_in e ++ types_in_statement a
  types_in_statement (for s h a) = types_in_head h ++ types_in_statement a

  pub types_in_statements : Statements → List WrittenType
  types_in_statements no_statements = []
  types_in_statements (statement a rest) = types_in_statement a ++ types_in_statements rest

abbrev pub types_in_declarations : List Declaration → List WrittenType
types_in_declarations = map (λ d. d.written)

abbrev pub types_in_item : Item → List WrittenType
types_in_item (structure s) = types_in_declarations s.fields
types_in_item (global g) = g.declaration.written ∷ []
types_in_item (function f) = f.result ∷ (types_in_declarations f.parameters ++ types_in_statements f.statements)

abbrev pub types_in_items : List Item → List WrittenType
types_in_items [] = []
types_in_items (i ∷ rest) = types_in_item i ++ types_in_items rest

-- 6.7.2.3: the struct of that name, given by its number, or the known `struct cond`
abbrev pub NamesStruct : Resolution → ℕ → List ℕ → Type 0
NamesStruct r token name = ((n : ℕ) × (s : StructDefinition) × (named_at r token ≡ named.Struct n)
    × (struct_at r n ≡ Some s) × (struct_named (structs_in r.program.items) name ≡ Some s))
    ⊎ ((named_at r token ≡ named.Known) × (name ≡ codes "cond"))

abbrev pub IsNamedBase : Resolution → ℕ → Base → Type 0
IsNamedBase r token base.Int = Unit {0}
IsNamedBase r token base.Char = Unit {0}
IsNamedBase r token base.Long = Unit {0}
IsNamedBase r token base.Mutex = Unit {0}
IsNamedBase r token base.Void = Unit {0}
IsNamedBase r token (base.Struct name) = NamesStruct r token name

-- what the first name of a lock path may be (SharC's own rule), and of which type: something of that name
pub data FirstNames (r : Resolution) (token : ℕ) (text : List ℕ) : Kind → Type 0 where
  a_field : {t : ℕ} {d : Declaration} → named_at r token ≡ named.Field t → declaration_at r t ≡ Some d
      → d.name.text ≡ text → FirstNames r token text (declared_kind d.written)
  a_variable : {t : ℕ} {d : Declaration} → named_at r token ≡ named.Variable t → declaration_at r t ≡ Some d
      → d.name.text ≡ text → FirstNames r token text (declared_kind d.written)
  a_global : {n : ℕ} {g : GlobalDefinition}
      → named_at r token ≡ named.Global n → global_at r n ≡ Some g → g.declaration.name.text ≡ text
      → FirstNames r token text (global_kind g.form (declared_kind g.declaration.written))
  a_function : {n : ℕ} {f : Function} → named_at r token ≡ named.Function n → function_at r n ≡ Some f
      → f.name.text ≡ text → (text ≡ codes "main" → ⊥) → FirstNames r token text kinds.function
  a_known_call : (c : ConditionCall) → named_at r token ≡ named.Known → text ≡ name_of c
      → FirstNames r token text kinds.function

-- the second name is a member of the struct that the first one points to
abbrev pub IsNamedPath : Resolution → Path → Type 0
IsNamedPath r (One m token) = (k : Kind) × FirstNames r token m k
IsNamedPath r (Through x token m) =
    (struct : List ℕ) × (d : Declaration) × FirstNames r token x (object (base.Struct struct) 1)
    × IsMemberOf r struct m d × (named_at r (token + 2) ≡ named.Field d.name.site.token)

abbrev pub IsNamedLevel : Resolution → Option Mode → Type 0
IsNamedLevel r None = Unit {0}
IsNamedLevel r (Some Private) = Unit {0}
IsNamedLevel r (Some Readonly) = Unit {0}
IsNamedLevel r (Some (Locked path)) = IsNamedPath r path
IsNamedLevel r (Some Racy) = Unit {0}
IsNamedLevel r (Some Dynamic) = Unit {0}

pub record IsNamedType (r : Resolution) (w : WrittenType) : Type 0 where
  pub base : IsNamedBase r w.base.token w.ctype.base
  pub levels : AllByRecursion (IsNamedLevel r) w.ctype.levels
