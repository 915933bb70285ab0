use Rattle.sharc_lex.proofs.TokensLemmas as lemmas
use Rattle.sharc_lex.proofs.laws.tokens_stand.Goals as goal

pub returns : goal.returns
returns c = lemmas.tokens_are
