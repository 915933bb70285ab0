use Rattle.sharc_compile.proofs.OnRuns.{path_in}
use Rattle.sharc_compile.proofs.generated_laws.run_paths_law.Goals as goal

pub returns : goal.returns
returns c = λ code s t run checked. path_in code s c.run_laws.ensures t run checked
