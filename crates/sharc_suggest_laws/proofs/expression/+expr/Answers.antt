use Rattle.sharc_suggest_laws.proofs.{Imports.view_call, WriteLemmas.argument_written}
use Rattle.sharc_suggest_laws.proofs.expression.+expr.Goals as goal

pub arguments-loop-expr-preserved : goal.arguments-loop-expr-preserved
arguments-loop-expr-preserved t c =
    argument_written c.args.c.now c.loop-expr.written.items c.push.new.self.items c.args.list.now c.loop-expr.expr-index c.in_ok-value.field-0 c.expr-item.result c.loop-expr-test.true c.in_ok-push.ensures.items c.expr-item.is c.in_ok-value.ensures c.loop-expr.invariant

pub expression-returns-in_ok-arguments-in-Call : goal.expression-returns-in_ok-arguments-in-Call
expression-returns-in_ok-arguments-in-Call t c =
    rw (view_call c.args.expr.now c.in-Call.span c.in-Call.name c.in-Call.list c.in-Call.is, ← c.deref-in-Call.ensures.value, ← c.in_ok-arguments-in-Call.ensures) c.call_of.ensures
