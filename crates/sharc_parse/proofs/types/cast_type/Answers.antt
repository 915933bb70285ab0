use Rattle.sharc_parse.proofs.{Imports.{rules, ◌≡◌, sym, subst, Err, mark, Wrong, from, Past, NotAt, ReadsCast, OpenParenthesis, Comma}, TypeSteps.cast_missed}
use Rattle.sharc_parse.proofs.types.cast_type.Goals as goal

pub returns-in_err-written-2-clause-reads : goal.returns-in_err-written-2-clause-reads
returns-in_err-written-2-clause-reads c =
    let is : c.from_residual-in_err-written-2.result ≡ Err Wrong = search rules in
    let opens : Past (mark OpenParenthesis) c.args.tokens.now c.args.at.now c.expect.new.at = search rules in
    let stays : c.expect_behind.new.at ≡ c.written_type.new.at = search rules in
    let missing : NotAt (mark Comma) (from c.args.tokens.now c.expect_behind.new.at) = search rules in
    subst (λ r. ReadsCast r (from c.args.tokens.now c.args.at.now) (from c.args.tokens.now c.expect_behind.new.at)) (sym is)
    (cast_missed c.args.tokens.now c.args.at.now c.expect.new.at c.written_type.new.at c.expect_behind.new.at c.in_ok-written.written opens c.in_ok-written.ensures.reads c.in_ok-written.ensures.ends stays missing)
