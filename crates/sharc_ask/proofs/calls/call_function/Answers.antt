use Rattle.sharc_ask.proofs.{Imports.{◌≡◌, None, Some, sym, ap, ◌∙◌, subst, option_map, ℤ, view_function, function_at, calls, Run, view_state, number, gives, ends_above, stack_of, Moves}, Calling.{call_moves, call_none_is, call_stops_moves}}
use Rattle.sharc_ask.proofs.calls.call_function.Goals as goal

pub returns-then-frames-eq0-clause-moves : goal.returns-then-frames-eq0-clause-moves
returns-then-frames-eq0-clause-moves c = call_stops_moves c.args.program.now c.args.frames c.args.called c.args.site c.args.values.now c.args.mark (view_state c.args.st.now) (stack_of c.args.stack.now) (stack_of c.args.stack.now) c.if-frames-eq0.true

pub returns-in-None-clause-moves : goal.returns-in-None-clause-moves
returns-in-None-clause-moves c =
    let m = c.args.program.now in
    let none : function_at m.typed c.args.called ≡ None = sym (c.function_at.ensures ∙ ap (λ z. function_at z c.args.called) c.typed.ensures) ∙ ap (λ o. option_map (λ f. view_function f.now) o) c.in-None.is in
    subst (λ (z : Run ℤ). Moves m (view_state c.args.st.now) (stack_of c.args.stack.now) c.no_call.result (view_state c.no_call.new.st) (stack_of c.args.stack.now) (gives number (ends_above c.args.mark z))) (sym (call_none_is m c.args.frames c.args.called c.args.site c.args.values.now c.if-frames-eq0.false none))
    (c.no_call.ensures.moves m (stack_of c.args.stack.now))

pub returns-in_ok-push-in-Some-clause-moves : goal.returns-in_ok-push-in-Some-clause-moves
returns-in_ok-push-in-Some-clause-moves c =
    let m = c.args.program.now in
    let g = view_function c.in-Some.function.now in
    let there : function_at m.typed c.args.called ≡ Some g = sym (c.function_at.ensures ∙ ap (λ z. function_at z c.args.called) c.typed.ensures) ∙ ap (λ o. option_map (λ f. view_function f.now) o) c.in-Some.is in
    call_moves m c.args.frames c.args.called c.args.site c.args.values.now c.args.mark g (view_state c.args.st.now) (view_state c.enter_function.new.st) (stack_of c.args.stack.now) (stack_of c.push.new.stack) (stack_of c.enter_function.new.stack) c.enter_function.result
    c.if-frames-eq0.false there c.in_ok-push-in-Some.ensures.pushed (c.enter_function.ensures.moves m)
