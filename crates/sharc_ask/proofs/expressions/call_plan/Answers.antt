use Rattle.sharc_ask.proofs.{Imports.{view_expr, view_arguments, refl}, Expressing.call_is}
use Rattle.sharc_ask.proofs.expressions.call_plan.Goals as goal

pub returns-clause-means : goal.returns-clause-means
returns-clause-means c = λ on_call s.
    call_is on_call c.args.program.now (view_expr c.args.expr.now) c.args.span c.args.name.now c.named.result
    c.as_slice.result.now (view_arguments c.args.arguments.now) (view_arguments c.args.arguments.now) c.requires.form c.named.ensures c.as_slice.ensures refl s
