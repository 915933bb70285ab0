use Rattle.sharc_flat.proofs.Threads as threads
use Rattle.sharc_flat.proofs.laws.asks_the_same.Goals as goal

pub returns : goal.returns
returns c = λ m suits flat is. threads.asks_the_same m suits c.ask_laws.ensures.spent_is_none flat is
