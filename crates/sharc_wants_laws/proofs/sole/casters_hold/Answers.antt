use Rattle.sharc_wants_laws.proofs.{Imports.{reverse, Erase, place_after, told_in, lowered_of}, Seeing.seen_twice}
use Rattle.sharc_wants_laws.proofs.sole.casters_hold.Goals as goal

pub returns : goal.returns
returns c = λ m p flat flattens fits code is s run checked consistent thread b may register site tests i k n apart first second some.
    seen_twice m (c.each_names_itself.ensures m.typed p.typed.resolved p.typed.placed p.typed.low) code (reverse (told_in (Erase code s run))) thread ((place_after code s run).threads thread) (lowered_of code s run thread) b may c.ask_laws.ensures
    (c.thread_holds.ensures m p flat flattens fits code is s run checked consistent thread) register site tests i k n apart first second some
