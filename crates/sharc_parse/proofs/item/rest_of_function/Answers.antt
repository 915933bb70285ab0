use Rattle.sharc_parse.proofs.{Imports.{rules, ◌≡◌, sym, subst, Result, Ok, Err, Vec, Global, OpenBrace, Declaration, Stmt, mark, ReadingFault, bare_type, from, Past, ReadsStatements, ReadsParameters, ReadsFunction}, ItemSteps.{function_wrong, function_read}}
use Rattle.sharc_parse.proofs.item.rest_of_function.Goals as goal

pub returns-in_err-result-clause-reads : goal.returns-in_err-result-clause-reads
returns-in_err-result-clause-reads c =
    let x = c.in_err-result.field-0.0 in
    let given = c.in_ok-named.parameters in
    let is : c.from_residual-in_err-result.result ≡ Err x = search rules in
    let read : c.parameters.result ≡ Ok given = search rules in
    let wrong : c.statements.result ≡ Err x = search rules in
    let opens : Past (mark OpenBrace) c.args.tokens.now c.parameters.new.at c.expect_behind.new.at = search rules in
    subst (λ r. ReadsFunction (bare_type c.args.given) c.args.name.text r (from c.args.tokens.now c.args.at.now) (from c.args.tokens.now c.statements.new.at)) (sym is)
    (function_wrong (λ (v : Vec Declaration Global). v.items) (λ (v : Vec Stmt Global). v.items) given x (bare_type c.args.given) c.args.name.text c.args.tokens.now c.args.at.now c.parameters.new.at c.expect_behind.new.at c.statements.new.at
    (subst (λ (r : Result (Vec Declaration Global) ReadingFault). ReadsParameters (λ v. v.items) r (from c.args.tokens.now c.args.at.now) (from c.args.tokens.now c.parameters.new.at)) read c.parameters.ensures.reads)
    opens
    (subst (λ (r : Result (Vec Stmt Global) ReadingFault). ReadsStatements (λ v. v.items) 63 r (from c.args.tokens.now c.expect_behind.new.at) (from c.args.tokens.now c.statements.new.at)) wrong c.statements.ensures.reads))

pub returns-clause-reads : goal.returns-clause-reads
returns-clause-reads c =
    let all = c.in_ok-result in
    let result : c.args.given ≡ all.result = search rules in
    let name : c.args.name ≡ all.name = search rules in
    let given : c.parameters.result ≡ Ok all.parameters = search rules in
    let read : c.statements.result ≡ Ok all.statements = search rules in
    let opens : Past (mark OpenBrace) c.args.tokens.now c.parameters.new.at c.expect_behind.new.at = search rules in
    let same : c.of.result ≡ all.parameters.items = search rules in
    rw (result, name)
    (function_read (λ (v : Vec Declaration Global). v.items) (λ (v : Vec Stmt Global). v.items) all.parameters all.statements c.of.result (bare_type all.result) all.name.text c.args.tokens.now c.args.at.now c.parameters.new.at c.expect_behind.new.at c.statements.new.at same
    (subst (λ (r : Result (Vec Declaration Global) ReadingFault). ReadsParameters (λ v. v.items) r (from c.args.tokens.now c.args.at.now) (from c.args.tokens.now c.parameters.new.at)) given c.parameters.ensures.reads)
    opens
    (subst (λ (r : Result (Vec Stmt Global) ReadingFault). ReadsStatements (λ v. v.items) 63 r (from c.args.tokens.now c.expect_behind.new.at) (from c.args.tokens.now c.statements.new.at)) read c.statements.ensures.reads))
