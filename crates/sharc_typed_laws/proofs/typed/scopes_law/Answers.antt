use Rattle.sharc_typed_laws.proofs.Scoping.{scoped}
use Rattle.sharc_typed_laws.proofs.typed.scopes_law.Goals as goal

pub returns : goal.returns
returns c = scoped
