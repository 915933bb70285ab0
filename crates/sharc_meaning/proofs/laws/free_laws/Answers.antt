use Rattle.sharc_meaning.proofs.Freeing as freeing
use Rattle.sharc_meaning.proofs.laws.free_laws.Goals as goal

pub returns-clause-follow : goal.returns-clause-follow
returns-clause-follow c = freeing.frees_follow

pub returns-clause-emptied : goal.returns-clause-emptied
returns-clause-emptied c = freeing.emptied_were_taken
