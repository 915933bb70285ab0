use Rattle.sharc_meaning.proofs.Legal.{stores_grow, prefixes_legal}
use Rattle.sharc_meaning.proofs.laws.store_laws.Goals as goal

pub returns : goal.returns
returns c = record { prefixes = prefixes_legal; grow = stores_grow }
