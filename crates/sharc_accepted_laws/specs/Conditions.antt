-- Calls of condition variables: where one stands, `struct cond` is the known one.
use Rattle.std.specs.Prelude.{◌≡◌, None, codes}
use Rattle.sharc_tree.specs.{declared.token.Span.Span, declared.tree.declaration.Identifier.Identifier}
use Rattle.sharc_tree.specs.Tree.{call, Arguments}
use Rattle.sharc_names.specs.declared.fault.Named.TheVariants as named
use Rattle.sharc_ctype.specs.Resolved.{named_at, structs_in}
use Rattle.sharc_ctype_laws.specs.Constraints.{struct_named}
use Rattle.sharc_mode.specs.Moded.{Assignment}
use Rattle.sharc_check.specs.Constructs.{IsExpression}
use Rattle.sharc_accepted_laws.specs.StaticLaws.{IsAccepted}

-- the program defines no such struct if it calls what it does not define
abbrev pub KnownCalls : Type 0
KnownCalls = (m : Assignment) → IsAccepted m → (s : Span) (f : Identifier) (all : Arguments)
    → IsExpression m (call s f all) → named_at m.typed f.site.token ≡ named.Known
    → struct_named (structs_in m.typed.program.items) (codes "cond") ≡ None
