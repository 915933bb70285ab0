use Rattle.sharc_ask.proofs.Imports.{◌≡◌, length, arith, sym, ap, ◌∙◌, subst, List, [], ℤ, Declaration, view_arguments, parameters_named, declared_kinds, calls, then_on, Known, view_state, all_behind, stack_of, awaits, Moves, Reached}
use Rattle.sharc_ask.proofs.calls.begin_call.Goals as goal

pub returns-clause-moves : goal.returns-clause-moves
returns-clause-moves c =
    let m = c.args.program.now in
    let on_call = calls m c.args.frames in
    let call = c.args.call in
    let k = view_state c.args.st.now in
    let k1 = view_state c.pass.new.st in
    let stack1 = stack_of c.pass.new.stack in
    let all = view_arguments call.arguments.now in
    let many : c.len.result ≡ length k.temporaries = omega (arith, c.len.ensures) in
    let h : Moves m k (stack_of c.args.stack.now) c.pass.result k1 stack1 (awaits on_call m call c.len.result (declared_kinds c.parameters_named.result.now) all []) = subst (λ (z : List ℤ). Moves m k (stack_of c.args.stack.now) c.pass.result k1 stack1 (awaits on_call m call c.len.result (declared_kinds c.parameters_named.result.now) all z)) c.new.ensures.items c.pass.ensures.moves in
    λ s behind is stands.
    subst (λ z. Reached m c.pass.result stack1 k1 (then_on (awaits on_call m call z (declared_kinds (parameters_named m.typed call.named)) all [] s) (all_behind behind))) (many ∙ sym (ap (λ (z : Known). length z.temporaries) is))
    (subst (λ (z : List Declaration). Reached m c.pass.result stack1 k1 (then_on (awaits on_call m call c.len.result (declared_kinds z) all [] s) (all_behind behind))) c.parameters_named.ensures (h s behind is stands))
