use Rattle.sharc_traced.proofs.Matching.{lines_are}
use Rattle.sharc_traced.proofs.file_laws.lines_are_of_sources.Goals as goal

pub returns : goal.returns
returns c = lines_are
