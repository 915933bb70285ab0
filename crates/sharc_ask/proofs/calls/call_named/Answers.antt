use Rattle.sharc_ask.proofs.{Imports.{◌≡◌, Ok, Err, sym, ap, ◌∙◌, subst, rules, ℤ, pos, Named, called, calls, Run, condition_call, view_state, number, gives, ends_above, zero_behind, stack_of, Moves}, Stacking.{plan_moves, plan_ends}}
use Rattle.sharc_ask.proofs.calls.call_named.Goals as goal

pub returns-in-Function-clause-moves : goal.returns-in-Function-clause-moves
returns-in-Function-clause-moves c =
    let on_call = calls c.args.program.now c.args.frames in
    subst (λ (z : Named). Moves c.args.program.now (view_state c.args.st.now) (stack_of c.args.stack.now) c.call_function.result (view_state c.call_function.new.st) (stack_of c.call_function.new.stack) (gives number (ends_above c.args.mark (called on_call c.args.call.site z c.args.call.name.now c.args.values.now)))) (sym c.in-Function.is) c.call_function.ensures.moves

pub returns-in_ok-plan-in-Known-clause-moves : goal.returns-in_ok-plan-in-Known-clause-moves
returns-in_ok-plan-in-Known-clause-moves c =
    let m = c.args.program.now in
    let n = c.args.frames in
    let on_call = calls m n in
    let call = c.args.call in
    let values = c.args.values.now in
    let k = view_state c.args.st.now in
    let k1 = view_state c.end_above.new.st in
    let waits : Run ℤ = zero_behind (condition_call call.site call.name.now values) in
    let run : Run ℤ = ends_above c.args.mark waits in
    let stack = stack_of c.args.stack.now in
    let means = c.in_ok-plan-in-Known.ensures.means on_call m k k1 run (c.end_above.ensures.does k waits (c.zero_behind-waits.ensures.does k _ (condition_call call.site call.name.now values) c.condition_call.ensures.does)) in
    subst (λ (z : Named). Moves m k stack (Ok (record { frames = n; plan = c.in_ok-plan-in-Known.plan })) k1 stack (gives number (ends_above c.args.mark (called on_call call.site z call.name.now values)))) (sym c.in-Known.is)
    (plan_moves m n k k1 c.in_ok-plan-in-Known.plan stack (gives number run) means)

pub returns-in_err-plan-in-Known-clause-moves : goal.returns-in_err-plan-in-Known-clause-moves
returns-in_err-plan-in-Known-clause-moves c =
    let m = c.args.program.now in
    let on_call = calls m c.args.frames in
    let call = c.args.call in
    let values = c.args.values.now in
    let mark = c.args.mark in
    let k = view_state c.args.st.now in
    let k1 = view_state c.end_above.new.st in
    let waits : Run ℤ = zero_behind (condition_call call.site call.name.now values) in
    let run : Run ℤ = ends_above mark waits in
    let stack = stack_of c.args.stack.now in
    let end = c.in_err-plan-in-Known.field-0.0 in
    let over : c.from_residual.result ≡ Err end = search rules in
    let means = c.in_err-plan-in-Known.ensures.means on_call m k k1 run (c.end_above.ensures.does k waits (c.zero_behind-waits.ensures.does k _ (condition_call call.site call.name.now values) c.condition_call.ensures.does)) in
    subst (λ r. Moves m k stack r k1 stack (gives number (ends_above mark (called on_call call.site call.named call.name.now values)))) (sym over)
    (subst (λ (z : Named). Moves m k stack (Err end) k1 stack (gives number (ends_above mark (called on_call call.site z call.name.now values)))) (sym c.in-Known.is)
    (plan_ends on_call m k k1 end stack stack (gives number run) means))
