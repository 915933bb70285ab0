use Rattle.std.proofs.Common.{subst}
use Rattle.std.specs.Option.{option_copied}
use Rattle.sharc_seq.specs.Walk.{IsThreadThere}
use Rattle.sharc_history.proofs.last.halt_at.Goals as goal

pub returns-in-Some : goal.returns-in-Some
returns-in-Some c = λ s turns stands.
    c.halt_of.ensures s turns stands
    (subst (λ o. IsThreadThere c.args.code.now s turns c.args.number (option_copied o)) c.in-Some.is (c.thread.ensures c.args.code.now s turns stands))
