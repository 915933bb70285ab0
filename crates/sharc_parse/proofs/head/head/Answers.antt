use Rattle.sharc_parse.proofs.{Imports.{rules, ◌≡◌, sym, subst, Result, Ok, Err, Option, true, false, Expr, ForFirst, Simple, OpenParenthesis, mark, ReadingFault, from, Past, ReadsLine, IsLinePlaced, ReadsTail, IsTailPlaced, ReadsStep, IsStepPlaced, ReadsHead}, HeadSteps.{head_test_wrong, head_step_wrong, head_done, head_placed}}
use Rattle.sharc_parse.proofs.head.head.Goals as goal

pub returns-in_err-first-2-clause-reads : goal.returns-in_err-first-2-clause-reads
returns-in_err-first-2-clause-reads c =
    let x = c.in_err-first-2.field-0.0 in
    let is : c.from_residual-in_err-first-2.result ≡ Err x = search rules in
    let read : c.tail.result ≡ Err x = search rules in
    let opens : Past (mark OpenParenthesis) c.args.tokens.now c.args.at.now c.expect.new.at = search rules in
    subst (λ r. ReadsHead r (from c.args.tokens.now c.args.at.now) (from c.args.tokens.now c.tail.new.at)) (sym is)
    (head_test_wrong x c.args.tokens.now c.args.at.now c.expect.new.at c.line.new.at c.tail.new.at c.in_ok-first.first opens c.in_ok-first.ensures.reads
    (subst (λ (r : Result (Option Expr) ReadingFault). ReadsTail r (from c.args.tokens.now c.line.new.at) (from c.args.tokens.now c.tail.new.at)) read c.tail.ensures.reads))

pub returns-in_err-first-3-clause-reads : goal.returns-in_err-first-3-clause-reads
returns-in_err-first-3-clause-reads c =
    let x = c.in_err-first-3.field-0.0 in
    let is : c.from_residual-in_err-first-3.result ≡ Err x = search rules in
    let test : c.tail.result ≡ Ok c.in_ok-first-2.test = search rules in
    let read : c.step.result ≡ Err x = search rules in
    let opens : Past (mark OpenParenthesis) c.args.tokens.now c.args.at.now c.expect.new.at = search rules in
    subst (λ r. ReadsHead r (from c.args.tokens.now c.args.at.now) (from c.args.tokens.now c.step.new.at)) (sym is)
    (head_step_wrong x c.args.tokens.now c.args.at.now c.expect.new.at c.line.new.at c.tail.new.at c.step.new.at c.in_ok-first.first c.in_ok-first-2.test opens c.in_ok-first.ensures.reads
    (subst (λ (r : Result (Option Expr) ReadingFault). ReadsTail r (from c.args.tokens.now c.line.new.at) (from c.args.tokens.now c.tail.new.at)) test c.tail.ensures.reads)
    (subst (λ (r : Result (Option Simple) ReadingFault). ReadsStep r (from c.args.tokens.now c.tail.new.at) (from c.args.tokens.now c.step.new.at)) read c.step.ensures.reads))

pub returns-clause-reads : goal.returns-clause-reads
returns-clause-reads c =
    let all = c.in_ok-first-3 in
    let first : c.in_ok-first.first ≡ all.first = search rules in
    let test : c.tail.result ≡ Ok all.test = search rules in
    let step : c.step.result ≡ Ok all.step = search rules in
    let opens : Past (mark OpenParenthesis) c.args.tokens.now c.args.at.now c.expect.new.at = search rules in
    head_done c.args.tokens.now c.args.at.now c.expect.new.at c.line.new.at c.tail.new.at c.step.new.at all.first all.test all.step opens
    (subst (λ (f : ForFirst). ReadsLine true false (Ok f) (from c.args.tokens.now c.expect.new.at) (from c.args.tokens.now c.line.new.at)) first c.in_ok-first.ensures.reads)
    (subst (λ (r : Result (Option Expr) ReadingFault). ReadsTail r (from c.args.tokens.now c.line.new.at) (from c.args.tokens.now c.tail.new.at)) test c.tail.ensures.reads)
    (subst (λ (r : Result (Option Simple) ReadingFault). ReadsStep r (from c.args.tokens.now c.tail.new.at) (from c.args.tokens.now c.step.new.at)) step c.step.ensures.reads)

pub returns-clause-placed : goal.returns-clause-placed
returns-clause-placed c =
    let all = c.in_ok-first-3 in
    let first : c.in_ok-first.first ≡ all.first = search rules in
    let test : c.tail.result ≡ Ok all.test = search rules in
    let step : c.step.result ≡ Ok all.step = search rules in
    let opens : Past (mark OpenParenthesis) c.args.tokens.now c.args.at.now c.expect.new.at = search rules in
    head_placed c.args.tokens.now c.args.at.now c.expect.new.at c.line.new.at c.tail.new.at c.step.new.at all.first all.test all.step opens
    (subst (λ (f : ForFirst). IsLinePlaced (Ok f) c.args.tokens.now c.expect.new.at c.line.new.at) first c.in_ok-first.ensures.placed)
    (subst (λ (r : Result (Option Expr) ReadingFault). IsTailPlaced r c.args.tokens.now c.line.new.at c.tail.new.at) test c.tail.ensures.placed)
    (subst (λ (r : Result (Option Simple) ReadingFault). IsStepPlaced r c.args.tokens.now c.tail.new.at c.step.new.at) step c.step.ensures.placed)
