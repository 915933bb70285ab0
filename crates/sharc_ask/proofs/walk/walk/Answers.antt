use Rattle.sharc_ask.proofs.{Imports.{◌≡◌, Ok, Err, sym, subst, rules, view_state, stack_of, at_means, Steps, Comes, Stepped}, Stacking.{step_on, comes_whole, comes_over}}
use Rattle.sharc_ask.proofs.walk.walk.Goals as goal

pub returns-in-Whole : goal.returns-in-Whole
returns-in-Whole c =
    let m = c.args.program.now in
    let now = c.loop-stack in
    let k = view_state now.st in
    let k1 = view_state c.step.new.st in
    let stack = stack_of now.stack in
    let stack1 = stack_of c.step.new.stack in
    let went : Steps m k stack (Ok (Stepped.Whole c.in-Whole.value)) k1 stack1 (at_means m now.at) = subst (λ z. Steps m k stack (Ok z) k1 stack1 (at_means m now.at)) c.in-Whole.is c.in_ok-value.ensures.steps in
    now.invariant.so_far (Ok c.in-Whole.value) k1 (comes_whole m now.at k k1 stack stack1 c.in-Whole.value went)

pub returns-in_err-value : goal.returns-in_err-value
returns-in_err-value c =
    let now = c.loop-stack in
    let k = view_state now.st in
    let k1 = view_state c.step.new.st in
    let stack = stack_of now.stack in
    let stack1 = stack_of c.step.new.stack in
    let end = c.in_err-value.field-0.0 in
    let over : c.from_residual.result ≡ Err end = search rules in
    subst (λ r. Comes c.args.program.now c.args.begun (stack_of c.args.left) (view_state c.args.st.now) r k1) (sym over) (now.invariant.so_far (Err end) k1 (comes_over c.args.program.now now.at k k1 stack stack1 end c.in_err-value.ensures.steps))

pub loop-stack-preserved : goal.loop-stack-preserved
loop-stack-preserved c =
    let m = c.args.program.now in
    let now = c.loop-stack in
    let k = view_state now.st in
    let k1 = view_state c.step.new.st in
    let stack = stack_of now.stack in
    let stack1 = stack_of c.step.new.stack in
    let went : Steps m k stack (Ok (Stepped.Goes c.in-Goes.next)) k1 stack1 (at_means m now.at) = subst (λ z. Steps m k stack (Ok z) k1 stack1 (at_means m now.at)) c.in-Goes.is c.in_ok-value.ensures.steps in
    record { so_far = λ r after later. now.invariant.so_far r after (step_on m now.at c.in-Goes.next k k1 after stack stack1 r went later) }
