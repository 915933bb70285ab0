use Rattle.sharc_compile_laws.proofs.Starting.{may_start}
use Rattle.sharc_compile_laws.proofs.laws.threads_may_start.Goals as goal

pub returns : goal.returns
returns c = may_start c.has_main.ensures c.one_function_of_name.ensures c.spawns_threads.ensures
