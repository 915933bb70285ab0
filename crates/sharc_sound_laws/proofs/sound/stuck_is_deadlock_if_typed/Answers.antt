use Rattle.sharc_sound_laws.proofs.{Deadlocked.deadlocked, Starts.first_is}
use Rattle.sharc_sound_laws.proofs.sound.stuck_is_deadlock_if_typed.Goals as goal

pub returns : goal.returns
returns c = λ m p flat flattens fits code is x ls wt s shape few run checked stuck e running whole.
    deadlocked c.ask_laws.ensures m (c.functions_are_one_by_name.ensures m.typed p.typed.resolved p.typed.placed p.typed.low) code (first_is flat code is) s run
    (c.threads_law.ensures x code s ls wt shape few run checked)
    (λ t. c.threads_stand_if_typed.ensures m p flat flattens fits code is x ls wt s shape few run checked t)
    (λ t on waits e own act. c.stuck_law.ensures x code s ls wt shape few (c.waits_law.ensures m flat flattens code is) m.typed (c.made_code_begins.ensures m p.typed.resolved p.unsigned flat flattens code is) run checked t on waits e own act)
    stuck e whole running
