use Rattle.sharc_reply_laws.proofs.{Imports.{reverse, said_by, Erase, place_after, told_in, history_of, lowered_of, counted_turns}, Telling.tells}
use Rattle.sharc_reply_laws.proofs.laws.threads_tell.Goals as goal

pub returns : goal.returns
returns c = λ m typed flat flattens fits code is x s ls wt shape few run checked thread.
    tells m code (c.functions_are_one_by_name.ensures m.typed typed.resolved typed.placed typed.low) (history_of code s run) thread ((place_after code s run).threads thread)
    (reverse (told_in (said_by thread (Erase code s run)))) (lowered_of code s run thread) (counted_turns code s run thread)
    (c.turns_tell_own.ensures code s run thread)
    (c.threads_have_begun.ensures m typed flat flattens fits code is x s ls wt shape few run checked thread)
    (c.typed_paths_tell.ensures.threads m typed flat flattens fits code is s thread run checked (c.paths_law.ensures x code s ls wt shape few run checked thread))
