use Rattle.sharc_ask.proofs.{Imports.{ap, ◌∙◌, done_test, Task, view_test, gives, test}, Stating.same_begins}
use Rattle.sharc_ask.proofs.statements.test_plan.Goals as goal

pub returns-in-Some-clause-means : goal.returns-in-Some-clause-means
returns-in-Some-clause-means c = λ on_call m s. ap (λ o. gives test (done_test on_call m (view_test o)) s) c.in-Some.is ∙ same_begins on_call m (Task.Test c.in-Some.e) s
