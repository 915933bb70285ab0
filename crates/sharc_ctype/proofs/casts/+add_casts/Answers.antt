use Rattle.sharc_ctype.proofs.{Imports.{◌≡◌, ◌++◌, ap, sym, ◌∙◌, ◌+◌, drop, OnOk, subst, view_call, expressions, in_arguments, view_expr, view_arguments, casts, first_of_rest}, CastLemmas.{both_added, first_added}}
use Rattle.sharc_ctype.proofs.casts.+add_casts.Goals as goal

pub add_casts-returns-in-Call : goal.add_casts-returns-in-Call
add_casts-returns-in-Call t c =
    let old = c.args.entities.now in
    let new = c.add_arguments.new.entities in
    let same : casts (in_arguments (view_arguments c.as_slice.result.now)) ≡ casts (expressions (view_expr c.args.expr.now)) =
    ap (λ l. casts (in_arguments (view_arguments l))) c.as_slice.ensures.value ∙ ap (λ e. casts (expressions e)) (sym (view_call c.args.expr.now c.in-Call.field-0 c.in-Call.field-1 c.in-Call.arguments c.in-Call.is)) in
    subst (λ l. OnOk c.add_arguments.result (new ≡ old ++ l)) same c.add_arguments.ensures

pub add_casts-returns-in_ok-add_casts-in-Index : goal.add_casts-returns-in_ok-add_casts-in-Index
add_casts-returns-in_ok-add_casts-in-Index t c =
    let r = c.add_casts-in-Index-2.result in
    let old = c.args.entities.now in
    let mid = c.add_casts-in-Index.new.entities in
    let new = c.add_casts-in-Index-2.new.entities in
    let first = subst (λ e. mid ≡ old ++ casts (expressions (view_expr e))) c.deref-in-Index.ensures c.in_ok-add_casts-in-Index.ensures in
    let behind = subst (λ e. OnOk r (new ≡ mid ++ casts (expressions (view_expr e)))) c.deref-in-Index-2.ensures c.add_casts-in-Index-2.ensures in
    let both = both_added r old mid new (expressions (view_expr c.in-Index.base.value)) (expressions (view_expr c.in-Index.index.value)) first behind in
    subst (λ e. OnOk r (new ≡ old ++ casts (expressions (view_expr e)))) (sym c.in-Index.is) both

pub add_casts-returns-in_ok-add_casts-in-Binary : goal.add_casts-returns-in_ok-add_casts-in-Binary
add_casts-returns-in_ok-add_casts-in-Binary t c =
    let r = c.add_casts-in-Binary-2.result in
    let old = c.args.entities.now in
    let mid = c.add_casts-in-Binary.new.entities in
    let new = c.add_casts-in-Binary-2.new.entities in
    let first = subst (λ e. mid ≡ old ++ casts (expressions (view_expr e))) c.deref-in-Binary.ensures c.in_ok-add_casts-in-Binary.ensures in
    let behind = subst (λ e. OnOk r (new ≡ mid ++ casts (expressions (view_expr e)))) c.deref-in-Binary-2.ensures c.add_casts-in-Binary-2.ensures in
    let both = both_added r old mid new (expressions (view_expr c.in-Binary.left.value)) (expressions (view_expr c.in-Binary.right.value)) first behind in
    subst (λ e. OnOk r (new ≡ old ++ casts (expressions (view_expr e)))) (sym c.in-Binary.is) both

pub add_arguments-loop-argument-preserved : goal.add_arguments-loop-argument-preserved
add_arguments-loop-argument-preserved t c =
    let list = c.args.arguments.now in
    let i = c.loop-argument.argument-index in
    let e = c.argument-item.result in
    let old = c.loop-argument.entities in
    let next = ap (λ l. old ++ casts (in_arguments (view_arguments l))) (sym (first_of_rest list i e c.loop-argument-test.true c.argument-item.is)) in
    first_added old c.add_casts.new.entities _ (expressions (view_expr e)) (in_arguments (view_arguments (drop (i + 1) list))) c.in_ok-add_casts.ensures (next ∙ c.loop-argument.invariant)
