use Rattle.sharc_ask.proofs.{Imports.Task, Stating.same_begins}
use Rattle.sharc_ask.proofs.expressions.unary_place_plan.Goals as goal

pub returns-in-Dereference-clause-means : goal.returns-in-Dereference-clause-means
returns-in-Dereference-clause-means c = λ on_call m s. rw c.in-Dereference.is (same_begins on_call m (Task.Pointee c.args.site c.args.operand) s)
