use Rattle.sharc_ctype.proofs.{Imports.{refl, ap, sym, ◌∙◌, ◌+◌, ◌&&◌, length, drop, fold, is_some, call, view_expr, view_arguments, view_call, Value, look_up, met, agreed, unagreed, noted, view_kinds, view_bounds, view_wanted, call_kind, type_of, are_fine, notes_at, notes_of_all}, CallLemmas.{call_typed, call_noted, one_fine, one_noted}}
use Rattle.sharc_ctype.proofs.expr.+expr.Goals as goal

pub expression-returns-in-Call-clause-kind : goal.expression-returns-in-Call-clause-kind
expression-returns-in-Call-clause-kind t c =
    let w = c.in-Call in
    let list = c.deref-in-Call.result.now in
    c.call.ensures.kind ∙ sym (ap (type_of c.args.scope.now)
    (view_call c.args.expr.now w.span w.name w.all w.is ∙ ap (λ l. call w.span w.name (view_arguments l)) (sym c.deref-in-Call.ensures.value)))

pub expression-returns-in-Call-clause-found : goal.expression-returns-in-Call-clause-found
expression-returns-in-Call-clause-found t c =
    let w = c.in-Call in
    c.call.ensures.found ∙ sym (ap (λ e. fold noted c.args.found.now (notes_at c.args.standing c.args.scope.now e))
    (view_call c.args.expr.now w.span w.name w.all w.is ∙ ap (λ l. call w.span w.name (view_arguments l)) (sym c.deref-in-Call.ensures.value)))

pub call-returns-clause-kind : goal.call-returns-clause-kind
call-returns-clause-kind t c =
    let list = c.args.list.now in
    let f = c.args.name.now in
    call_typed c.args.scope.now (call c.args.span f (view_arguments list)) c.args.span f list (length list)
    (view_bounds c.find-bound.result) (view_wanted c.wanted.result) _ c.arguments-fine.result refl refl
    (c.find-bound.ensures ∙ ap (look_up c.args.scope.now.names) c.as_slice.ensures) c.wanted.ensures c.arguments-fine.ensures.fine
    (c.call_kind.ensures ∙ ap (λ k. call_kind k c.arguments-fine.result) c.call_result.ensures)

pub call-returns-clause-found : goal.call-returns-clause-found
call-returns-clause-found t c =
    let list = c.args.list.now in
    let f = c.args.name.now in
    call_noted c.args.standing c.args.scope.now (call c.args.span f (view_arguments list)) c.args.span f list (length list)
    (view_bounds c.find-bound.result) (view_wanted c.wanted.result) c.args.found.now c.callee.new.found c.arguments-fine.new.found
    refl refl (c.find-bound.ensures ∙ ap (look_up c.args.scope.now.names) c.as_slice.ensures)
    c.wanted.ensures c.callee.ensures c.arguments-fine.ensures.found

pub arguments-loop-expr-preserved : goal.arguments-loop-expr-preserved
arguments-loop-expr-preserved t c =
    let scope = c.args.scope.now in
    let list = c.args.list.now in
    let i = c.loop-expr.expr-index in
    let left = view_wanted c.loop-expr.left in
    let e = c.expr-item.result in
    let kind = view_kinds c.meet-kind.result in
    let kind_is = c.meet-kind.ensures.kind ∙ ap (met Value) c.expression-kind.ensures.kind in
    let rest = view_arguments (drop (i + 1) list) in
    record {
      fine =
          ap (λ b. b && are_fine scope (view_wanted c.rest_wanted-left.result) rest) c.still_fine-fine.ensures
          ∙ ap (λ d. (c.loop-expr.fine && (is_some kind && c.agree-agreed.result)) && are_fine scope d rest) c.rest_wanted-left.ensures
          ∙ sym (one_fine scope left list i e c.loop-expr.fine kind c.agree-agreed.result c.loop-expr-test.true c.expr-item.is kind_is (c.agree-agreed.ensures.agreed ∙ ap (λ w. agreed w kind) c.first_wanted.ensures))
          ∙ c.loop-expr.invariant.fine;
      found =
          ap (λ d. fold noted c.agree-agreed.new.found (notes_of_all scope d rest)) c.rest_wanted-left.ensures
          ∙ sym (one_noted scope left list i e (view_kinds c.expression-kind.result) kind c.loop-expr.found c.expression-kind.new.found c.meet-kind.new.found c.agree-agreed.new.found
          c.loop-expr-test.true c.expr-item.is c.expression-kind.ensures.kind kind_is c.expression-kind.ensures.found c.meet-kind.ensures.found
          (c.agree-agreed.ensures.found ∙ ap (λ w. fold noted c.meet-kind.new.found (unagreed w (view_expr e) kind)) c.first_wanted.ensures))
          ∙ c.loop-expr.invariant.found;
    }
