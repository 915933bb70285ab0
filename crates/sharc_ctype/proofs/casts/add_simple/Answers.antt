use Rattle.sharc_ctype.proofs.{Imports.{◌≡◌, ◌++◌, sym, OnOk, subst, expressions, in_right, in_simple, view_expr, view_right, view_simple, casts}, CastLemmas.both_added}
use Rattle.sharc_ctype.proofs.casts.add_simple.Goals as goal

pub returns-in_ok-add_casts-in-Assign : goal.returns-in_ok-add_casts-in-Assign
returns-in_ok-add_casts-in-Assign c =
    let r = c.add_right.result in
    let old = c.args.entities.now in
    let new = c.add_right.new.entities in
    let both = both_added r old c.add_casts.new.entities new (expressions (view_expr c.in-Assign.left)) (in_right (view_right c.in-Assign.right)) c.in_ok-add_casts-in-Assign.ensures c.add_right.ensures in
    subst (λ s. OnOk r (new ≡ old ++ casts (in_simple (view_simple s)))) (sym c.in-Assign.is) both
