use Rattle.sharc_ctype.proofs.{Imports.is_among, ConstantLemmas.one_more}
use Rattle.sharc_ctype.proofs.constants.set_of.Goals as goal

pub loop-token-preserved : goal.loop-token-preserved
loop-token-preserved c = λ q.
    one_more c.args.tokens.now c.loop-token.token-index q (is_among q c.loop-token.set.keys) (is_among q c.insert.new.self.keys) (is_among q c.args.tokens.now) c.loop-token-test.true
    (c.in_ok-insert.ensures.updates.0 q) (c.loop-token.invariant q)
