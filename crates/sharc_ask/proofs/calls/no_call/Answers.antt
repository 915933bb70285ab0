use Rattle.sharc_ask.proofs.{Imports.{◌≡◌, Ok, Err, refl, sym, subst, rules, ℤ, pos, calls, Run, give, view_state, Does, number, gives, ends_above, Moves}, Stacking.{plan_moves, plan_ends}}
use Rattle.sharc_ask.proofs.calls.no_call.Goals as goal

pub returns-clause-moves : goal.returns-clause-moves
returns-clause-moves c = λ m stack.
    let k = view_state c.args.st.now in
    let none : Run ℤ = give (pos 0) in
    let run : Run ℤ = ends_above c.args.mark none in
    plan_moves m c.args.frames k (view_state c.end_above.new.st) c.in_ok-plan.plan stack (gives number run) (c.in_ok-plan.ensures.means (calls m c.args.frames) m k (view_state c.end_above.new.st) run (c.end_above.ensures.does k none (λ s is. record { state = s; is = refl; looks = is })))

pub returns-in_err-plan-clause-moves : goal.returns-in_err-plan-clause-moves
returns-in_err-plan-clause-moves c = λ m stack.
    let k = view_state c.args.st.now in
    let k1 = view_state c.end_above.new.st in
    let none : Run ℤ = give (pos 0) in
    let run : Run ℤ = ends_above c.args.mark none in
    let end = c.in_err-plan.field-0.0 in
    let over : c.from_residual.result ≡ Err end = search rules in
    subst (λ r. Moves m k stack r k1 stack (gives number run)) (sym over)
    (plan_ends (calls m c.args.frames) m k k1 end stack stack (gives number run) (c.in_err-plan.ensures.means (calls m c.args.frames) m k k1 run (c.end_above.ensures.does k none (λ s is. record { state = s; is = refl; looks = is }))))
