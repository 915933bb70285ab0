use Rattle.sharc_rounds.proofs.{Running.{made_none, quanta_made}, Rounding.{fits_at, without_room}}
use Rattle.sharc_rounds.proofs.laws.quantum_laws.Goals as goal

pub returns : goal.returns
returns c = record { idle = made_none; made = quanta_made c.place_laws.ensures; may = fits_at; without_room = without_room }
