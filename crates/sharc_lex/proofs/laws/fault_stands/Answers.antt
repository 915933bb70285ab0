use Rattle.sharc_lex.proofs.TokensLemmas as lemmas
use Rattle.sharc_lex.proofs.laws.fault_stands.Goals as goal

pub returns : goal.returns
returns c = lemmas.fault_is
