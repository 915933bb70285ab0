-- Casts: what the cells of an object are and refer to is the same before a cast and after it.
use Rattle.std.specs.Prelude.{◌≡◌, ℕ, Some, List}
use Rattle.sharc_tree.specs.{declared.token.Span.Span, declared.tree.declaration.WrittenType.WrittenType}
use Rattle.sharc_tree.specs.Tree.{Expression, cast}
use Rattle.sharc_names.specs.Kinds.{declared_kind}
use Rattle.sharc_ctype.specs.Resolved.{kind_at}
use Rattle.sharc_mode.specs.{Rows.{cast_row, modes_of, modes_at}, Sharings.Sharing}
use Rattle.sharc_check.specs.Constructs.{IsExpression}
use Rattle.sharc_flat.specs.Scope.{Context}
use Rattle.sharc_invariant.specs.{Labels.Label, Typed.Recasts}
use Rattle.sharc_accepted_laws.specs.{StaticLaws.IsAccepted, Static.static_of, Targets.targets_of}

-- a cast to a type from one that has, from its second target on, the same modes
abbrev pub CastsRecast : Type 0
CastsRecast = (c : Context) → IsAccepted c.program
    → (s : Span) (t : WrittenType) (a : Expression) (found : List Sharing) → IsExpression c.program (cast s t a)
    → IsExpression c.program a → modes_at c.program a ≡ Some found
    → (l : Label) (r : ℕ) → Recasts (targets_of c.program) l r (static_of c (kind_at c.program.typed a) found)
    (static_of c (declared_kind t) (modes_of c.program (cast_row c.program.typed s)))
