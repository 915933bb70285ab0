use Rattle.sharc_flat.proofs.{Imports.flat_of, MadeFramed.made_is_flattened}
use Rattle.sharc_flat.proofs.Threads as threads
use Rattle.sharc_flat.proofs.laws.made_asks_the_same.Goals as goal

pub returns : goal.returns
returns c = λ m suits code is. threads.asks_the_same m suits c.ask_laws.ensures.spent_is_none (flat_of code) (made_is_flattened m code is)
