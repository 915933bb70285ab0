use Rattle.sharc_ask.proofs.{Imports.{to_z-of_z, arith, ℤ, view_expr, kind_at, eval, ◌>>=◌, give, holds, view_state, value_bits, number, number_in, gives, ends_above, step_then, left_with, joined_with}, Outs.same_plans, Resuming.left_goes}
use Rattle.sharc_ask.proofs.rests.by_left.Goals as goal

pub returns-clause-means : goal.returns-clause-means
returns-clause-means c = λ on_call.
    let m = c.args.program.now in
    let e = view_expr c.args.expr.now in
    let x = c.args.x in
    let fits = c.ranges.x in
    let b = view_expr c.args.right.now in
    let o = c.args.operation in
    let bits = value_bits o.width in
    let rest = λ (v : ℤ). gives number (ends_above o.mark (joined_with m.typed bits o.site o.operator b x (give v))) in
    same_plans on_call m (view_state c.args.st.now) (view_state c.held.new.st) c.then.result
    (gives number (ends_above o.mark (left_with m.typed bits o.site o.operator e b (eval on_call m b) x)))
    (step_then (holds (kind_at m.typed e) x) (gives number (eval on_call m b) >>= (λ v. rest (number_in v))))
    (λ s is. left_goes m.typed bits o.site o.operator e b (eval on_call m b) x o.mark s)
    (simp to_z-of_z at (c.then.ensures.means on_call m (view_state c.args.st.now) (view_state c.held.new.st) (holds (kind_at m.typed e) x) (simp to_z-of_z at c.held.ensures.does)))

pub returns-clause-fits : goal.returns-clause-fits
returns-clause-fits c = c.then.ensures.fits 2 (record { within = omega arith })
