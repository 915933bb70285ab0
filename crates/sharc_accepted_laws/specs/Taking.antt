-- What SCAST and `free` take, and what a cast gives.
use Rattle.std.specs.Prelude.{◌≡◌, ℕ, true, Some, None}
use Rattle.sharc_tree.specs.{declared.token.Span.Span, declared.tree.declaration.Identifier.Identifier}
use Rattle.sharc_tree.specs.{declared.tree.declaration.WrittenType.WrittenType, Forms.without_parentheses}
use Rattle.sharc_tree.specs.Tree.{Expression, identifier, cast}
use Rattle.sharc_names.specs.declared.fault.Named.TheVariants as named
use Rattle.sharc_names.specs.Kinds.{is_pointer}
use Rattle.sharc_code.specs.declared.code.Use.{Use}
use Rattle.sharc_code.specs.declared.code.Use.TheVariants as uses
use Rattle.sharc_ctype.specs.Resolved.{named_at}
use Rattle.sharc_check.specs.Constructs.{IsTaken}
use Rattle.sharc_flat.specs.{Flattened.{kind_of, target_of}, Scope.{Context, slot_kind}}
use Rattle.sharc_accepted_laws.specs.{StaticLaws.IsAccepted, Standing.ExpressionStands, Static.entry_of}
use Rattle.sharc_accepted_laws.specs.{TargetLaws.HasTables, Targets.targets_of, TypableLaws.IsAt, Typing.typing}
use Rattle.sharc_typed_laws.specs.{Stretches.Setting, Typable.{type_by, Takes, CastTyped, FreeTyped}}

-- a variable that is taken is no constant, and has the type of the expression
abbrev pub VariablesAreTaken : Type 0
VariablesAreTaken = (z : Setting) (f : ℕ) (c : Context) (a : Expression) (s : Span) (i : Identifier) (x : ℕ)
    → IsTaken c.program a → without_parentheses a ≡ identifier s i
    → named_at c.program.typed i.site.token ≡ named.Variable x
    → slot_kind c.scope x ≡ Some true
    → (use_made : Use) → Takes z f typing c a use_made (type_by (entry_of c a)) (target_of c a)

-- what is taken is given the type of the cast
abbrev pub CastsAreTyped : Type 0
CastsAreTyped = (z : Setting) (f : ℕ) (c : Context) → IsAccepted c.program → z.targets ≡ targets_of c.program
    → (s : Span) (t : WrittenType) (a : Expression) → IsAt c (cast s t a) → ExpressionStands c a
    → Takes z f typing c a (uses.Cast None) (type_by (entry_of c a)) (target_of c a)
    → CastTyped z f typing c (cast s t a) a

-- or is freed, by its layout
abbrev pub FreesAreTyped : Type 0
FreesAreTyped = (z : Setting) (f : ℕ) (c : Context) → IsAccepted c.program → z.targets ≡ targets_of c.program
    → HasTables c.program z.code → (a : Expression) → IsAt c a → is_pointer (kind_of c a) ≡ true
    → Takes z f typing c a (uses.Free None) (type_by (entry_of c a)) (target_of c a) → FreeTyped z f typing c a

pub record TakingLaws : Type 0 where
  pub variables : VariablesAreTaken
  pub casts : CastsAreTyped
  pub frees : FreesAreTyped
