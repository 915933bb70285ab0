use Rattle.sharc_wants_laws.proofs.{Imports.{turns_of, elements_before, founds_of, IsWhere}, Telling.placed}
use Rattle.sharc_wants_laws.proofs.wants.thread_wants.Goals as goal

pub returns : goal.returns
returns c = λ m p flat flattens fits code is s run checked consistent. placed c.own_are_told.ensures c.run_paths_law.ensures m code s run checked (λ t at f argument told. IsWhere m code t f argument told at) (λ t at f argument told h. (h.fuel, h.events))
    (λ t. c.path_wants.ensures m p flat flattens fits code is s t (elements_before code s t run) (founds_of (turns_of t run)) (c.run_paths_law.ensures code s t run checked).path (consistent t))
