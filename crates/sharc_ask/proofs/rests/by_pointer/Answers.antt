use Rattle.sharc_ask.proofs.{Imports.{to_z-of_z, arith, view_expr, kind_at, eval, based, ◌>>=◌, view_state, number, place, number_in, gives, step_then, element_behind, behind_pointer}, Outs.same_plans, Resuming.pointer_goes}
use Rattle.sharc_ask.proofs.rests.by_pointer.Goals as goal

pub returns-clause-means : goal.returns-clause-means
returns-clause-means c = λ on_call.
    let m = c.args.program.now in
    let e = view_expr c.args.expr.now in
    let x = c.args.x in
    let fits = c.ranges.x in
    let site = c.args.site in
    let i = eval on_call m (view_expr c.args.index.now) in
    same_plans on_call m (view_state c.args.st.now) (view_state c.based.new.st) c.then.result (gives place (behind_pointer m.typed site e x i))
    (step_then (based site (kind_at m.typed e) x)
    (gives number i >>= (λ v. gives place (element_behind m.typed site e x (number_in v)))))
    (λ s is. pointer_goes m.typed site e i x s)
    (simp to_z-of_z at (c.then.ensures.means on_call m (view_state c.args.st.now) (view_state c.based.new.st) (based site (kind_at m.typed e) x) (simp to_z-of_z at c.based.ensures.does)))

pub returns-clause-fits : goal.returns-clause-fits
returns-clause-fits c = c.then.ensures.fits 2 (record { within = omega arith })
