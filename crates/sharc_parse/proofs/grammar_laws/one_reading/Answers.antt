use Rattle.sharc_parse.proofs.Readings as readings
use Rattle.sharc_parse.proofs.grammar_laws.one_reading.Goals as goal

pub returns : goal.returns
returns c = readings.one_reading
