use Rattle.sharc_wants_laws.proofs.SoleTelling.{placed}
use Rattle.sharc_wants_laws.proofs.sole.thread_holds.Goals as goal

pub returns : goal.returns
returns c = λ m p flat flattens fits code is s run checked consistent thread. placed c.own_are_told.ensures c.run_paths_law.ensures m code (c.path_holds.ensures m p flat flattens fits code is) s run checked consistent thread
