use Rattle.sharc_live.proofs.{Imports.{◌≡◌, ◌++◌, ap, sym, ◌∙◌, OnOk, subst, rules, [], ◌∷◌, view_block, view_head, view_stmt, view_statements, Head, Caught, listing, statement_flow, statements_flow}, TurnLemmas.for_whole}
use Rattle.sharc_live.proofs.statement.+statement.Goals as goal

pub statement-returns-in-Block : goal.statement-returns-in-Block
statement-returns-in-Block t c =
    let r = c.args.typed.now in
    let same : listing (statements_flow r (view_statements c.as_slice.result.now)) ≡ listing (statement_flow r (view_stmt c.args.stmt.now)) =
    ap (λ l. listing (statements_flow r (view_statements l))) c.as_slice.ensures.value ∙ ap (λ a. listing (statement_flow r a)) (sym (view_block c.args.stmt.now c.in-Block.field-0 c.in-Block.all c.in-Block.is)) in
    subst (λ l. OnOk c.statements.result (c.statements.new.steps.items ≡ c.args.steps.now.items ++ l)) same c.statements.ensures

pub for_loop-returns : goal.for_loop-returns
for_loop-returns t c =
    let r = c.args.typed.now in
    let pushed : c.push.new.self.items ≡ c.first.new.steps.items ++ Head ∷ [] = search rules in
    let caught : c.push-2.new.self.items ≡ c.statement.new.steps.items ++ Caught ∷ [] = search rules in
    for_whole r (view_head c.args.head.now) (statement_flow r (view_stmt c.args.body.now)) c.args.steps.now.items c.first.new.steps.items c.push.new.self.items c.begins_turn.new.steps.items c.statement.new.steps.items c.push-2.new.self.items c.step.new.steps.items c.ends_turn.new.steps.items
    c.in_ok-first.ensures pushed c.in_ok-begins_turn.ensures c.in_ok-statement.ensures caught c.in_ok-step.ensures c.in_ok-ends_turn.ensures
