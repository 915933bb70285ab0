use Rattle.std.proofs.Common.{sym, ◌∙◌}
use Rattle.sharc_rounds.proofs.Running.{stays, same_room_at}
use Rattle.sharc_rounds.proofs.worker.run_at.Goals as goal

pub returns-then-not-goes_on-clause-ran : goal.returns-then-not-goes_on-clause-ran
returns-then-not-goes_on-clause-ran g c = stays c.args.lent.now.code.now c.args.lent.now.shape.now c.args.lent.now.limit c.args.lent.now.shared.now c.args.stint.turns c.args.hand.now c.requires.may (sym c.goes_on.ensures ∙ c.if-not-goes_on.true)

pub returns-then-not-goes_on-clause-room : goal.returns-then-not-goes_on-clause-room
returns-then-not-goes_on-clause-room g c = same_room_at c.args.stint.turns c.args.hand.now
