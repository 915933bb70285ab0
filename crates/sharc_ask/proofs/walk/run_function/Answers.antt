use Rattle.sharc_ask.proofs.{Imports.{◌≡◌, [], Ok, Err, sym, subst, rules, reverse, view_function, calls, run_function, view_state, Does, as_left, gives, stack_of, Moves}, Returning.left_over, Stacking.whole_does}
use Rattle.sharc_ask.proofs.walk.run_function.Goals as goal

pub returns : goal.returns
returns c =
    let m = c.args.program.now in
    let k = view_state c.args.st.now in
    let k1 = view_state c.enter_function.new.st in
    let stack1 = stack_of c.enter_function.new.stack in
    let run = run_function (calls m c.args.frames) m (view_function c.args.function.now) c.args.values.now in
    let moves : Moves m k [] (Ok c.in_ok-at.at) k1 stack1 (gives as_left run) = subst (λ z. Moves m k (reverse z) (Ok c.in_ok-at.at) k1 stack1 (gives as_left run)) c.new-stack.ensures.items (c.in_ok-at.ensures.moves m) in
    c.left_behind.ensures.does k (view_state c.walk.new.st) run (whole_does m c.in_ok-at.at k k1 (view_state c.walk.new.st) stack1 c.walk.result (gives as_left run) moves c.walk.ensures)

pub returns-in_err-at : goal.returns-in_err-at
returns-in_err-at c =
    let m = c.args.program.now in
    let k = view_state c.args.st.now in
    let k1 = view_state c.enter_function.new.st in
    let stack1 = stack_of c.enter_function.new.stack in
    let run = run_function (calls m c.args.frames) m (view_function c.args.function.now) c.args.values.now in
    let end = c.in_err-at.field-0.0 in
    let over : c.from_residual.result ≡ Err end = search rules in
    let moves : Moves m k [] (Err end) k1 stack1 (gives as_left run) = subst (λ z. Moves m k (reverse z) (Err end) k1 stack1 (gives as_left run)) c.new-stack.ensures.items (c.in_err-at.ensures.moves m) in
    subst (λ r. Does k r k1 run) (sym over) (left_over m k k1 stack1 end run moves)
