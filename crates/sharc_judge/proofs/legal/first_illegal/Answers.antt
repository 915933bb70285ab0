use Rattle.std.proofs.Common.{[], ◌∷◌}
use Rattle.sharc_meaning.specs.Store.{LegalStore}
use Rattle.sharc_judge.proofs.Lists.{legal_next}
use Rattle.sharc_judge.proofs.legal.first_illegal.Goals as goal

pub loop-i-init : goal.loop-i-init
loop-i-init c = nothing
  where
    nothing : LegalStore c.args.typed.now []
    nothing [] e after is = absurd (cc)
    nothing (d ∷ before) e after is = absurd (cc)

pub loop-i-preserved : goal.loop-i-preserved
loop-i-preserved c = legal_next c.args.typed.now c.args.events.now c.loop-i.i _ c.store_laws.ensures.grow c.loop-i-test.true c.loop-i.invariant (c.may_come.ensures.0 c.if-not-may_come.false)
