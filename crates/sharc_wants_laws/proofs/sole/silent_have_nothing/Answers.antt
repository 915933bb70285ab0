use Rattle.sharc_wants_laws.proofs.{Imports.{sym, ◌∙◌, subst, turns_of, elements_before, founds_of, HasNothing}, Coming.is_guarded, Silent.nothing_there, SoleTelling.events_are}
use Rattle.sharc_wants_laws.proofs.sole.silent_have_nothing.Goals as goal

pub returns : goal.returns
returns c = λ m p flat flattens fits code is s run checked consistent thread none.
    let good = is_guarded c.typed_is_framed.ensures c.framed_law.ensures m p.typed flat flattens fits code is in
    let holds = c.path_holds.ensures m p flat flattens fits code is in
    subst (HasNothing code) (sym (c.run_paths_law.ensures code s thread run checked).machine)
    (nothing_there is.g code is.generated good s thread (elements_before code s thread run) (founds_of (turns_of thread run)) (sym (events_are c.own_are_told.ensures c.run_paths_law.ensures m code holds s run checked consistent thread) ∙ none))
