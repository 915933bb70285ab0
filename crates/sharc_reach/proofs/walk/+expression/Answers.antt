use Rattle.sharc_reach.proofs.Imports.{◌≡◌, [], ◌∷◌, ◌++◌, ap, sym, ◌∙◌, OnOk, subst, append_assoc, view_call, view_expr, view_arguments, Called, mention, mentions, mentions_of_all}
use Rattle.sharc_reach.proofs.walk.+expression.Goals as goal

pub expression-returns-in_ok-add-in-Call : goal.expression-returns-in_ok-add-in-Call
expression-returns-in_ok-add-in-Call t c =
    let n = c.args.function in
    let old = c.args.list.now.items in
    let mid = c.add-in-Call.new.list.items in
    let new = c.arguments.new.list.items in
    let slice = c.as_slice.result.now in
    let name = mention n c.in-Call.name.site.token Called in
    let same : mid ++ mentions_of_all n (view_arguments slice) ≡ old ++ mentions n (view_expr c.args.expr.now) =
    ap (λ l. l ++ mentions_of_all n (view_arguments slice)) c.in_ok-add-in-Call.ensures
    ∙ append_assoc old (name ∷ []) (mentions_of_all n (view_arguments slice))
    ∙ ap (λ l. old ++ (name ∷ mentions_of_all n (view_arguments l))) c.as_slice.ensures.value
    ∙ ap (λ x. old ++ mentions n x) (sym (view_call c.args.expr.now c.in-Call.field-0 c.in-Call.name c.in-Call.all c.in-Call.is)) in
    subst (λ l. OnOk c.arguments.result (new ≡ l)) same c.arguments.ensures
