use Rattle.sharc_flatten.proofs.{Imports.{◌≡◌, ◌∙◌, ◌++◌, ◌∷◌, [], ap, sym, on_ok_weaker, span_of, view_expr, view_option, Op, width_code, expression_code, return_code, context, around_of, holds_references, innermost}, BodyLemmas.{returned_nothing, returned_value}, ScopeLemmas.innermost_all}
use Rattle.sharc_flatten.proofs.bodies.returned.Goals as goal

pub returns-in_ok-zero-in-None : goal.returns-in_ok-zero-in-None
returns-in_ok-zero-in-None c =
    let con = context c.args.source.now c.args.scope.now in
    let a = around_of c.args.around c.args.marks.now in
    let l2 = c.zero.new.lines.items in
    let l3 = c.emit.new.lines.items in
    on_ok_weaker c.emit.result
    (λ (e3 : l3 ≡ l2 ++ Op.Return c.at_site.result ∷ []).
    returned_nothing con a c.args.site c.at_site.result (innermost 0 c.args.marks.now) (holds_references c.bank_of-bank.result) c.args.lines.now.items c.leave.new.lines.items l2 l3
    (innermost_all c.args.around.outer c.args.marks.now) c.bank_of-bank.ensures c.at_site.ensures c.in_ok-leave-in-None.ensures c.in_ok-zero-in-None.ensures e3
    ∙ ap (λ v. c.args.lines.now.items ++ return_code con a c.args.site (view_option (λ b. view_expr b.value) v)) (sym c.in-None.is))
    c.emit.ensures

pub returns-in_ok-give-in-Some : goal.returns-in_ok-give-in-Some
returns-in_ok-give-in-Some c =
    let con = context c.args.source.now c.args.scope.now in
    let a = around_of c.args.around c.args.marks.now in
    let old = c.args.lines.now.items in
    let i = c.in_ok-at-in-Some.at.int in
    let l1 = c.expression.new.lines.items in
    let l4 = c.give.new.lines.items in
    let l5 = c.emit-in-Some.new.lines.items in
    on_ok_weaker c.emit-in-Some.result
    (λ (e5 : l5 ≡ l4 ++ Op.Return c.at_site-in-Some.result ∷ []).
    returned_value con a (view_expr c.in-Some.expr.value) c.args.site c.at_site-in-Some.result (innermost 0 c.args.marks.now) (holds_references c.bank_of-bank.result) i c.in_ok-at-in-Some.at.reference old l1 c.narrow.new.lines.items c.leave-in-Some.new.lines.items l4 l5
    (innermost_all c.args.around.outer c.args.marks.now) c.bank_of-bank.ensures c.at_site-in-Some.ensures c.in_ok-at-in-Some.ensures.int c.in_ok-at-in-Some.ensures.reference
    (c.in_ok-expression-in-Some.ensures ∙ ap (λ x. old ++ expression_code con i c.in_ok-at-in-Some.at.reference (view_expr x)) c.deref.ensures)
    (c.in_ok-narrow-in-Some.ensures ∙ ap (λ x. l1 ++ width_code i a.result x.first) c.span.ensures ∙ ap (λ x. l1 ++ width_code i a.result (span_of (view_expr x)).first) c.deref-in-Some.ensures)
    c.in_ok-leave-in-Some.ensures c.in_ok-give-in-Some.ensures e5
    ∙ ap (λ v. old ++ return_code con a c.args.site (view_option (λ b. view_expr b.value) v)) (sym c.in-Some.is))
    c.emit-in-Some.ensures
