use Rattle.sharc_ask.proofs.{Imports.{◌≡◌, List, [], ◌∷◌, ◌++◌, sym, ap, ◌∙◌, subst, reverse, calls, view_state, Left, plan_means, stack_of, Steps, at_means}, Stacking.{on_top, popped_moves}}
use Rattle.sharc_ask.proofs.walk.step.Goals as goal

pub returns-in-Goes-clause-steps : goal.returns-in-Goes-clause-steps
returns-in-Goes-clause-steps c =
    let m = c.args.program.now in
    subst (λ z. Steps m (view_state c.args.st.now) (stack_of c.args.stack.now) c.further-in-Goes.result (view_state c.go.new.st) (stack_of c.go.new.stack) (plan_means (calls m c.args.at.frames) m z)) (sym c.in-Goes.is)
    (c.further-in-Goes.ensures.steps m (view_state c.args.st.now) (view_state c.go.new.st) (stack_of c.args.stack.now) (stack_of c.go.new.stack) _ c.go.ensures.moves)

pub returns-in-Calls-clause-steps : goal.returns-in-Calls-clause-steps
returns-in-Calls-clause-steps c =
    let m = c.args.program.now in
    subst (λ z. Steps m (view_state c.args.st.now) (stack_of c.args.stack.now) c.further-in-Calls.result (view_state c.begin_call.new.st) (stack_of c.begin_call.new.stack) (plan_means (calls m c.args.at.frames) m z)) (sym c.in-Calls.is)
    (c.further-in-Calls.ensures.steps m (view_state c.args.st.now) (view_state c.begin_call.new.st) (stack_of c.args.stack.now) (stack_of c.begin_call.new.stack) _ c.begin_call.ensures.moves)

pub returns-in-Some-clause-steps : goal.returns-in-Some-clause-steps
returns-in-Some-clause-steps c =
    let m = c.args.program.now in
    let stack0 = stack_of c.args.stack.now in
    let stack = stack_of c.pop.new.self in
    let stack1 = stack_of c.go_on.new.stack in
    let top : stack0 ≡ c.in-Some.left ∷ stack = ap reverse c.in-Some.ensures.items ∙ on_top c.in-Some.left c.pop.new.self.items in
    c.further.ensures.steps m (view_state c.args.st.now) (view_state c.go_on.new.st) stack0 stack1 (at_means m c.args.at) (popped_moves m c.args.at c.in-Some.left c.in-Done.value (view_state c.args.st.now) (view_state c.go_on.new.st) stack0 stack stack1 c.go_on.result c.in-Done.is top c.go_on.ensures.moves)
