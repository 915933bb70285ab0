use Rattle.sharc_compile_laws.proofs.Naming.{named, has_main}
use Rattle.sharc_compile_laws.proofs.laws.functions_are_named.Goals as goal

pub returns-clause-named : goal.returns-clause-named
returns-clause-named c = named

pub returns-clause-main : goal.returns-clause-main
returns-clause-main c = has_main
