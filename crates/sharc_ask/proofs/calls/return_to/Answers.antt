use Rattle.sharc_ask.proofs.{Imports.{◌≡◌, sym, ap, ◌∙◌, refl, to_z, of_z, w64, rules, ℤ, view_function, returned, go, Known, view_state, view_flow, flow}, Calling.comes_back_moves}
use Rattle.sharc_ask.proofs.calls.return_to.Goals as goal

pub returns-clause-moves : goal.returns-clause-moves
returns-clause-moves c = λ m stack f v is_caller value_is.
    let kept = c.args.caller.kept in
    let left = c.left_at-left.result in
    let whole : to_z w64 (of_z w64 left.1) ≡ left.1 = search rules in
    comes_back_moves m c.args.frames c.args.caller (view_flow c.args.flow) left (view_state c.args.st.now) _ stack f v _ is_caller value_is c.left_at-left.ensures
    (ap (λ (z : Known). record z { variables = kept.frame.variables.items; temporaries = kept.frame.temporaries.items; below = kept.below.items }) c.in-Ok.ensures.ended)
    (λ s. ap (λ (z : ℤ). go (flow (returned left.0 z)) s) whole)
