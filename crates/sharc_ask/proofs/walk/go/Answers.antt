use Rattle.sharc_ask.proofs.{Imports.{◌≡◌, Ok, Err, sym, subst, rules, calls, view_state, plan_means, stack_of, Moves, Plan}, Stacking.{task_moves, task_ends}}
use Rattle.sharc_ask.proofs.walk.go.Goals as goal

pub returns-clause-moves : goal.returns-clause-moves
returns-clause-moves c =
    let m = c.args.program.now in
    let n = c.args.frames in
    let run = plan_means (calls m n) m (Plan.Goes c.args.task c.args.rest) in
    subst (λ z. Moves m (view_state c.args.st.now) (stack_of c.args.stack.now) (Ok (record { frames = n; plan = c.in_ok-plan.plan })) (view_state c.begin.new.st) z run) (sym c.in_ok-push_rest.ensures.pushed) (task_moves m n (view_state c.args.st.now) (view_state c.begin.new.st) c.args.task c.args.rest c.in_ok-plan.plan (stack_of c.args.stack.now) (c.in_ok-plan.ensures.means (calls m n)))

pub returns-in_err-plan-clause-moves : goal.returns-in_err-plan-clause-moves
returns-in_err-plan-clause-moves c =
    let m = c.args.program.now in
    let n = c.args.frames in
    let end = c.in_err-plan.field-0.0 in
    let over : c.from_residual-in_err-plan.result ≡ Err end = search rules in
    let stack1 = stack_of c.push_rest.new.stack in
    subst (λ r. Moves m (view_state c.args.st.now) (stack_of c.args.stack.now) r (view_state c.begin.new.st) stack1 (plan_means (calls m n) m (Plan.Goes c.args.task c.args.rest))) (sym over)
    (task_ends m n (view_state c.args.st.now) (view_state c.begin.new.st) c.args.task c.args.rest end (stack_of c.args.stack.now) stack1 (c.in_err-plan.ensures.means (calls m n)))
