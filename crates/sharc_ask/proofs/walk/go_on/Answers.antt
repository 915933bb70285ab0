use Rattle.sharc_ask.proofs.{Imports.{◌≡◌, ◌++◌, ◌∷◌, [], Ok, Err, sym, ap, ◌∙◌, subst, to_z, of_z, w64, rules, ℤ, view_arguments, declared_kinds, calls, view_state, Value, number_in, view_value, rest_means, Behind, stack_of, awaits, IsBehind, IsCaller, Moves}, Stacking.{resumed_moves, resumed_ends}}
use Rattle.sharc_ask.proofs.walk.go_on.Goals as goal

pub returns-in_ok-plan-in-Rest-clause-moves : goal.returns-in_ok-plan-in-Rest-clause-moves
returns-in_ok-plan-in-Rest-clause-moves c = λ f stands.
    let m = c.args.program.now in
    let n = c.args.left.frames in
    let w = c.in-Rest in
    let same : f ≡ rest_means (calls m n) m w.rest = subst (λ z. IsBehind m n z f) w.is stands in
    resumed_moves m n (view_state c.args.st.now) (view_state c.resume.new.st) w.rest (view_value c.args.value) c.in_ok-plan-in-Rest.plan (stack_of c.args.stack.now) f same (c.in_ok-plan-in-Rest.ensures.means (calls m n))

pub returns-in_err-plan-in-Rest-clause-moves : goal.returns-in_err-plan-in-Rest-clause-moves
returns-in_err-plan-in-Rest-clause-moves c = λ f stands.
    let m = c.args.program.now in
    let n = c.args.left.frames in
    let w = c.in-Rest in
    let stack = stack_of c.args.stack.now in
    let end = c.in_err-plan-in-Rest.field-0.0 in
    let over : c.from_residual.result ≡ Err end = search rules in
    let same : f ≡ rest_means (calls m n) m w.rest = subst (λ z. IsBehind m n z f) w.is stands in
    subst (λ r. Moves m (view_state c.args.st.now) stack r (view_state c.resume.new.st) stack (f (view_value c.args.value))) (sym over) (resumed_ends m n (view_state c.args.st.now) (view_state c.resume.new.st) w.rest (view_value c.args.value) end stack f same (c.in_err-plan-in-Rest.ensures.means (calls m n)))

pub returns-in-Passes-clause-moves : goal.returns-in-Passes-clause-moves
returns-in-Passes-clause-moves c = λ f stands.
    let m = c.args.program.now in
    let n = c.args.left.frames in
    let w = c.in-Passes in
    let p = w.passing in
    let v = view_value c.args.value in
    let stack = stack_of c.args.stack.now in
    let stack1 = stack_of c.pass_value.new.stack in
    let g : Behind = λ z. awaits (calls m n) m p.call p.mark (declared_kinds p.parameters.now) (view_arguments p.arguments.now) (p.values.items ++ number_in z ∷ []) in
    let same : f ≡ g = subst (λ z. IsBehind m n z f) w.is stands in
    let whole : to_z w64 (of_z w64 c.number_in.result) ≡ number_in v = search rules in
    subst (λ (z : Behind). Moves m (view_state c.args.st.now) stack c.pass_value.result (view_state c.pass_value.new.st) stack1 (z v)) (sym same)
    (subst (λ (z : ℤ). Moves m (view_state c.args.st.now) stack c.pass_value.result (view_state c.pass_value.new.st) stack1 (awaits (calls m n) m p.call p.mark (declared_kinds p.parameters.now) (view_arguments p.arguments.now) (p.values.items ++ z ∷ []))) whole (rw w.is at c.pass_value.ensures.moves))

pub returns-in-Returns-clause-moves : goal.returns-in-Returns-clause-moves
returns-in-Returns-clause-moves c = λ f stands.
    let w = c.in-Returns in
    let is_caller : IsCaller w.caller f = subst (λ z. IsBehind c.args.program.now c.args.left.frames z f) w.is stands in
    c.return_to.ensures.moves c.args.program.now (stack_of c.args.stack.now) f (view_value c.args.value) (rw w.is is_caller) (sym c.flow_in.ensures)
