use Rattle.sharc_accepted_laws.proofs.StaticRegisters as registers
use Rattle.sharc_accepted_laws.proofs.references.scope_laws.Goals as goal

pub returns : goal.returns
returns c = registers.scope_laws
