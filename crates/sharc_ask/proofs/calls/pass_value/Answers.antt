use Rattle.sharc_ask.proofs.Imports.{◌≡◌, ◌++◌, ◌∷◌, [], ap, ◌∙◌, subst, to_z, of_z, w64, rules, ℤ, List, view_arguments, declared_kinds, calls, view_state, stack_of, awaits, Moves}
use Rattle.sharc_ask.proofs.calls.pass_value.Goals as goal

pub returns-clause-moves : goal.returns-clause-moves
returns-clause-moves c =
    let m = c.args.program.now in
    let p = c.args.passing in
    let on_call = calls m c.args.frames in
    let whole : to_z w64 (of_z w64 c.args.value) ≡ c.args.value = search rules in
    let values : c.push.new.self.items ≡ p.values.items ++ c.args.value ∷ [] = c.in-Ok.ensures.items ∙ ap (λ (z : ℤ). p.values.items ++ z ∷ []) whole in
    subst (λ (z : List ℤ). Moves m (view_state c.args.st.now) (stack_of c.args.stack.now) c.pass.result (view_state c.pass.new.st) (stack_of c.pass.new.stack) (awaits on_call m p.call p.mark (declared_kinds p.parameters.now) (view_arguments p.arguments.now) z)) values c.pass.ensures.moves
