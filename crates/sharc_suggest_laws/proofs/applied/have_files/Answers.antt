use Rattle.sharc_suggest_laws.proofs.Imports.{◌<◌, sym, subst, arith, take_all, All-more, All-same, Token}
use Rattle.sharc_suggest_laws.proofs.applied.have_files.Goals as goal

pub loop-token-preserved : goal.loop-token-preserved
loop-token-preserved c =
    All-more (λ (t : Token). t.file < c.args.files) c.args.tokens.now c.loop-token.token-index c.token-item.result c.loop-token-test.true c.loop-token.invariant (subst (λ (t : Token). t.file < c.args.files) c.token-item.is (omega arith))

pub returns : goal.returns
returns c = λ _. All-same (λ (t : Token). t.file < c.args.files) c.args.tokens.now _ (sym (take_all c.loop-token.token-index c.args.tokens.now c.loop-token-test.false)) c.loop-token.invariant
