use Rattle.sharc_ask.proofs.{Imports.{view_expr, eval, place_of}, Expressing.arrow_begins}
use Rattle.sharc_ask.proofs.expressions.field_plan.Goals as goal

pub returns-in-Arrow-clause-means : goal.returns-in-Arrow-clause-means
returns-in-Arrow-clause-means c = λ on_call m s.
    let a = view_expr c.args.base.now in
    rw c.in-Arrow.is (arrow_begins m.typed c.args.site a c.args.named (place_of on_call m c.args.site a) (eval on_call m a) s)
