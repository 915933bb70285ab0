use Rattle.sharc_flatten.proofs.{Imports.{◌≡◌, ◌+◌, ◌++◌, ◌∷◌, [], length, ap, ◌∙◌, arith, on_ok_weaker, view_call, index, binary, view_expr, view_arguments, named_at, parameters_named, Op, expression_code, truth_code, called_code, lvalue_code, binary_code, context, holds_references}, ExpressionLemmas.{call_at, index_at, binary_at}, WalkLemmas.{decided as decided_lines}}
use Rattle.sharc_flatten.proofs.expressions.+expression.Goals as goal

pub decided-returns : goal.decided-returns
decided-returns t c =
    let con = context c.args.source.now c.args.scope.now in
    let i = c.args.at.int in
    let r = c.args.at.reference in
    let old = c.args.lines.now.items in
    let l5 = c.emit-2.new.lines.items in
    let l6 = c.emit-3.new.lines.items in
    let at : c.len.result ≡ length old = omega (arith, c.len.ensures, c.args.lines.now.ok.0) in
    on_ok_weaker c.emit-3.result
    (λ (e6 : l6 ≡ l5 ++ Op.IsFalse i i ∷ []).
    decided_lines old (expression_code con i r (view_expr c.args.right.now)) (truth_code (holds_references c.bank.result) i r) c.skip_if_zero.new.lines.items c.emit.new.lines.items c.expression.new.lines.items c.truth.new.lines.items l5 l6 i c.args.more c.len.result
    at c.in_ok-emit.ensures c.in_ok-expression.ensures c.in_ok-truth.ensures c.in_ok-skip_if_zero.ensures c.in_ok-emit-2.ensures e6
    ∙ ap (λ b. old ++ (Op.SkipIfZero i (length (expression_code con i r (view_expr c.args.right.now) ++ truth_code b i r) + c.args.more)
    ∷ ((expression_code con i r (view_expr c.args.right.now) ++ truth_code b i r) ++ (Op.IsFalse i i ∷ Op.IsFalse i i ∷ [])))) c.bank.ensures)
    c.emit-3.ensures

pub expression-returns-in_ok-arguments-in-Call : goal.expression-returns-in_ok-arguments-in-Call
expression-returns-in_ok-arguments-in-Call t c =
    let con = context c.args.source.now c.args.scope.now in
    let i = c.args.at.int in
    let r = c.args.at.reference in
    let f = c.in-Call.of in
    let l2 = c.arguments.new.lines.items in
    let l3 = c.called.new.lines.items in
    let typed : c.typed.result.now ≡ c.args.source.now.m.now.typed = c.typed.ensures in
    let named : c.named-named.result ≡ named_at c.args.source.now.m.now.typed f.site.token = c.named-named.ensures ∙ ap (λ x. named_at x f.site.token) typed in
    on_ok_weaker c.called.result
    (λ (e3 : l3 ≡ l2 ++ called_code i r c.at_site.result c.named-named.result f.text (view_arguments c.as_slice-in-Call.result.now)).
    call_at con i r c.in-Call.span f (view_expr c.args.expr.now) (view_arguments c.in-Call.all.items) (view_arguments c.as_slice.result.now) (view_arguments c.as_slice-in-Call.result.now) c.parameters_named-parameters.result.now c.named-named.result
    c.at_site.result c.args.lines.now.items c.emit.new.lines.items l2 l3
    (view_call c.args.expr.now c.in-Call.span f c.in-Call.all c.in-Call.is) (ap view_arguments c.as_slice.ensures.value) (ap view_arguments c.as_slice-in-Call.ensures.value)
    (c.parameters_named-parameters.ensures ∙ ap (λ x. parameters_named x c.named-named.result) c.typed-in-Call.ensures ∙ ap (parameters_named c.args.source.now.m.now.typed) named)
    named c.at_site.ensures c.in_ok-emit.ensures c.in_ok-arguments-in-Call.ensures e3)
    c.called.ensures

pub operation-returns-in_ok-element-in-Index : goal.operation-returns-in_ok-element-in-Index
operation-returns-in_ok-element-in-Index t c =
    let con = context c.args.source.now c.args.scope.now in
    let i = c.args.at.int in
    let r = c.args.at.reference in
    let e = view_expr c.args.expr.now in
    let l4 = c.element.new.lines.items in
    let l5 = c.lvalue.new.lines.items in
    let form : e ≡ index c.in-Index.span (view_expr c.in-Index.base.value) (view_expr c.in-Index.number.value) = ap view_expr c.in-Index.is in
    on_ok_weaker c.lvalue.result
    (λ (e5 : l5 ≡ l4 ++ lvalue_code con i r e).
    index_at con i r c.in_ok-next-in-Index.next.int c.in_ok-next-in-Index.next.reference c.in-Index.span e (view_expr c.in-Index.base.value) (view_expr c.deref.result.now) (view_expr c.deref-in-Index-2.result.now)
    (view_expr c.in-Index.number.value) (view_expr c.deref-in-Index.result.now) c.guard_of-guard.result c.args.lines.now.items c.indexed.new.lines.items c.expression.new.lines.items l4 l5
    form (ap view_expr c.deref.ensures) (ap view_expr c.deref-in-Index-2.ensures) (ap view_expr c.deref-in-Index.ensures) c.guard_of-guard.ensures
    c.in_ok-next-in-Index.ensures.code c.in_ok-next-in-Index.ensures.int c.in_ok-next-in-Index.ensures.reference c.in_ok-expression-in-Index.ensures c.in_ok-element-in-Index.ensures e5)
    c.lvalue.ensures

pub operation-returns-in_ok-expression-in-Binary : goal.operation-returns-in_ok-expression-in-Binary
operation-returns-in_ok-expression-in-Binary t c =
    let con = context c.args.source.now c.args.scope.now in
    let i = c.args.at.int in
    let r = c.args.at.reference in
    let o = c.in-Binary.operator in
    let at = c.in-Binary.site in
    let l2 = c.expression-in-Binary.new.lines.items in
    let l3 = c.binary.new.lines.items in
    let right = view_expr c.deref-in-Binary-2.result.now in
    let again = view_expr c.deref-in-Binary-3.result.now in
    let form : (view_expr c.args.expr.now) ≡ binary c.in-Binary.span o at (view_expr c.in-Binary.left.value) (view_expr c.in-Binary.right.value) = ap view_expr c.in-Binary.is in
    on_ok_weaker c.binary.result
    (λ (e3 : l3 ≡ l2 ++ binary_code con i r at o again right [] (λ j q. expression_code con j q right)).
    binary_at con i r c.in-Binary.span o at (view_expr c.args.expr.now) (view_expr c.in-Binary.left.value) (view_expr c.deref-in-Binary.result.now) again (view_expr c.in-Binary.right.value) right c.args.lines.now.items l2 l3
    form (ap view_expr c.deref-in-Binary.ensures) (ap view_expr c.deref-in-Binary-3.ensures) (ap view_expr c.deref-in-Binary-2.ensures)
    c.in_ok-expression-in-Binary.ensures e3)
    c.binary.ensures
