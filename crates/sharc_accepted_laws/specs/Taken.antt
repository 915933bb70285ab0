-- What lock paths name is not taken away: so nothing names the register of a variable whose reference SCAST or `free`
-- takes.
use Rattle.std.specs.{Prelude.{◌≡◌, ℕ, true, List, Some}, List.AllByRecursion}
use Rattle.sharc_tree.specs.{declared.token.Span.Span, declared.tree.declaration.Identifier.Identifier}
use Rattle.sharc_tree.specs.{Forms.without_parentheses, Measures.expressions, Tree.{Expression, identifier}}
use Rattle.sharc_names.specs.declared.fault.Named.TheVariants as named
use Rattle.sharc_names.specs.Kinds.{Kind}
use Rattle.sharc_ctype.specs.Resolved.{named_at}
use Rattle.sharc_mode.specs.{Moded.Assignment, Rows.{written, declared_row, modes_of, modes_at}}
use Rattle.sharc_mode.specs.Sharings.{Lock, Sharing, locked, object_of}
use Rattle.sharc_check.specs.{Constructs.{IsExpression, IsTaken}, Paths.IsNamedByPath}
use Rattle.sharc_flat.specs.Scope.{Context, slot_kind}
use Rattle.sharc_invariant.specs.Types.{Mentions}
use Rattle.sharc_accepted_laws.specs.{Static.{register, static_of}, Scopes.AllStand, StaticLaws.IsAccepted}

-- what the lock path of a mode names, a variable or a global, is one that some lock path of the program names
abbrev pub IsNamed : Assignment → Sharing → Type 0
IsNamed m s = (l : Lock) (x : ℕ) → s ≡ locked l → object_of m.typed l ≡ Some x → IsNamedByPath m x

abbrev pub AllNamed : Assignment → List Sharing → Type 0
AllNamed m modes = AllByRecursion (IsNamed m) modes

-- so are those of the modes that an expression has
abbrev pub ExpressionsAreNamed : Type 0
ExpressionsAreNamed = (m : Assignment) → IsAccepted m → (e : Expression) (modes : List Sharing)
    → AllByRecursion (IsExpression m) (expressions e) → modes_at m e ≡ Some modes → AllNamed m modes

-- and that what a token declares has
abbrev pub DeclaredAreNamed : Type 0
DeclaredAreNamed = (m : Assignment) → IsAccepted m
    → (token : ℕ) → AllNamed m (modes_of m (declared_row m.typed written token))

-- no type with such modes names the register of a variable that is taken
abbrev pub TakenIsFree : Type 0
TakenIsFree = (c : Context) → IsAccepted c.program
    → (a : Expression) (s : Span) (i : Identifier) (x : ℕ) → IsTaken c.program a
    → without_parentheses a ≡ identifier s i → named_at c.program.typed i.site.token ≡ named.Variable x
    → slot_kind c.scope x ≡ Some true → (kind : Kind) (modes : List Sharing) → AllNamed c.program modes
    → AllStand c.program c.scope modes → Mentions (static_of c kind modes) (register c x) → ⊥

pub record TakenLaws : Type 0 where
  pub expressions : ExpressionsAreNamed
  pub declared : DeclaredAreNamed
  pub free : TakenIsFree
