use Rattle.sharc_infer.proofs.{Imports.{◌≡◌, ◌++◌, ap, sym, ◌∙◌, OnOk, subst, view_call, view_arguments, named_at, parameters_named, passed, transfers, argument_transfers, given}, LinkLemmas.given_added}
use Rattle.sharc_infer.proofs.transfers.+expression.Goals as goal

pub expression-returns-in_ok-pass_all-in-Call : goal.expression-returns-in_ok-pass_all-in-Call
expression-returns-in_ok-pass_all-in-Call t c =
    let r = c.args.typed.now in
    let f = c.args.function in
    let old = c.args.links.now.items in
    let mid = c.pass_all.new.links.items in
    let new = c.arguments.new.links.items in
    let answer = c.arguments.result in
    let all = c.in-Call.all.items in
    let parameters = parameters_named r (named_at r c.in-Call.name.site.token) in
    let are : c.parameters_named-parameters.result.now ≡ parameters = c.parameters_named-parameters.ensures ∙ ap (parameters_named r) c.named.ensures in
    let first : mid ≡ old ++ given r f (passed parameters (view_arguments all)) =
    c.in_ok-pass_all-in-Call.ensures
    ∙ ap (λ ds. old ++ given r f (passed ds (view_arguments c.as_slice.result.now))) are
    ∙ ap (λ l. old ++ given r f (passed parameters (view_arguments l))) c.as_slice.ensures.value in
    let behind = subst (λ l. OnOk answer (new ≡ mid ++ given r f (argument_transfers r (view_arguments l)))) c.as_slice-in-Call.ensures.value c.arguments.ensures in
    let both = given_added r f answer old mid new (passed parameters (view_arguments all)) (argument_transfers r (view_arguments all)) first behind in
    subst (λ e. OnOk answer (new ≡ old ++ given r f (transfers r e))) (sym (view_call c.args.expr.now c.in-Call.field-0 c.in-Call.name c.in-Call.all c.in-Call.is)) both
