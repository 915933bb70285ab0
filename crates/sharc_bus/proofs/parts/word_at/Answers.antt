use Rattle.sharc_bus.proofs.{Imports.{sym, slots_items}, Closing.index_at}
use Rattle.sharc_bus.proofs.parts.word_at.Goals as goal

pub returns : goal.returns
returns g c = sym (index_at (slots_items c.args.closed.now.words) c.args.i c.word.result 0 c.word.ensures)
