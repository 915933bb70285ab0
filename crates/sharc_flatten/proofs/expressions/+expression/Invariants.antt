use Rattle.sharc_flatten.proofs.Imports.{◌≡◌, ◌++◌, drop, view_arguments, declared_kinds, arguments_code, context}
use Rattle.sharc_flatten.proofs.expressions.+expression.Given as goal

abbrev pub invariant-arguments-loop-argument : goal.invariant-arguments-loop-argument
invariant-arguments-loop-argument l =
    l.lines.items ++ arguments_code (context l.source l.scope) l.int l.reference (declared_kinds l.left) (view_arguments (drop l.argument-index l.arguments))
    ≡ l.fn.lines.items ++ arguments_code (context l.source l.scope) l.initial.int l.initial.reference (declared_kinds l.parameters) (view_arguments l.arguments)
