use Rattle.sharc_parse.proofs.{Imports.{rules, ◌≡◌, sym, subst, Err, Vec, Global, mark, from, Past, ReadsParameters, Comma, CloseParenthesis, Declaration}, ParameterSteps.{given_wrong, given_stand}}
use Rattle.sharc_parse.proofs.parameter.parameters.Goals as goal

pub returns-in_err-parameter-2-clause-reads : goal.returns-in_err-parameter-2-clause-reads
returns-in_err-parameter-2-clause-reads c =
    let is : c.from_residual-in_err-parameter-2.result ≡ Err c.in_err-parameter-2.field-0.0 = search rules in
    let comma : Past (mark Comma) c.args.tokens.now c.loop-alloc.at c.take.new.at = search rules in
    subst (λ r. ReadsParameters (λ (v : Vec Declaration Global). v.items) r (from c.args.tokens.now c.args.at.now) (from c.args.tokens.now c.declaration.new.at)) (sym is)
    (given_wrong (λ (v : Vec Declaration Global). v.items) c.in_err-parameter-2.field-0.0 c.args.tokens.now c.args.at.now c.loop-alloc.at c.take.new.at c.declaration.new.at c.loop-alloc.list.items c.loop-alloc.invariant.so_far comma c.in_err-parameter-2.ensures.reads)

pub returns-clause-placed : goal.returns-clause-placed
returns-clause-placed c =
    let stays : c.take.new.at ≡ c.loop-alloc.at = search rules in
    let closes : Past (mark CloseParenthesis) c.args.tokens.now c.take.new.at c.expect.new.at = search rules in
    given_stand (λ (v : Vec Declaration Global). v.items) c.loop-alloc.list c.args.tokens.now c.args.at.now c.loop-alloc.at c.expect.new.at c.loop-alloc.invariant.so_far (subst (λ n. Past (mark CloseParenthesis) c.args.tokens.now n c.expect.new.at) stays closes)
