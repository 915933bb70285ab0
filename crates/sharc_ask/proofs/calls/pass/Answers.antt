use Rattle.sharc_ask.proofs.{Imports.{◌≡◌, ◌<◌, ◌+◌, arith, ◌-◌, List, [], ◌∷◌, length, take, Ok, Err, refl, sym, ap, ◌∙◌, subst, rules, ℤ, drop, Expr, view_expr, view_arguments, declared_kinds, called, calls, view_state, number, gives, ends_above, stack_of, awaits, Moves}, Calling.{empty_is, none_await, more_moves, more_ends}, Flowing.first_and_rest}
use Rattle.sharc_ask.proofs.calls.pass.Goals as goal

pub returns-clause-moves : goal.returns-clause-moves
returns-clause-moves c =
    let m = c.args.program.now in
    let n = c.args.frames in
    let p = c.args.passing in
    let list = p.arguments.now in
    let more = take (length list - 1) (drop 1 list) in
    let same : list ≡ c.first-item.result ∷ more = first_and_rest list c.first-item.result c.in-len1-up.len_at_least c.first-item.is in
    let stack = stack_of c.args.stack.now in
    subst (λ (l : List Expr). Moves m (view_state c.args.st.now) stack (Ok (record { frames = n; plan = c.in_ok-plan-in-len1-up.plan })) (view_state c.begin_eval.new.st) (stack_of c.push-in-len1-up.new.stack) (awaits (calls m n) m p.call p.mark (declared_kinds p.parameters.now) (view_arguments l) p.values.items)) (sym same)
    (more_moves m n p.call p.mark p.parameters c.rest_of.result _ _ (view_state c.args.st.now) (view_state c.begin_eval.new.st) stack (stack_of c.push.new.stack) (stack_of c.push-in-len1-up.new.stack) c.in_ok-plan-in-len1-up.plan c.rest_of.ensures refl refl refl c.in_ok-push-in-len1-up.ensures.pushed c.in_ok-push-in-len1-up-2.ensures.pushed (c.in_ok-plan-in-len1-up.ensures.means (calls m n)))

pub returns-in-empty-clause-moves : goal.returns-in-empty-clause-moves
returns-in-empty-clause-moves c =
    let m = c.args.program.now in
    let on_call = calls m c.args.frames in
    let p = c.args.passing in
    let k = view_state c.args.st.now in
    let k1 = view_state c.call_named.new.st in
    let stack = stack_of c.args.stack.now in
    let stack1 = stack_of c.call_named.new.stack in
    let kinds = declared_kinds p.parameters.now in
    let none : p.arguments.now ≡ [] = empty_is p.arguments.now (omega (arith, c.in-empty.len_below)) in
    let moves : Moves m k stack c.call_named.result k1 stack1 (gives number (ends_above p.mark (called on_call p.call.site p.call.named p.call.name.now p.values.items))) =
    subst (λ (z : List ℤ). Moves m k stack c.call_named.result k1 stack1 (gives number (ends_above p.mark (called on_call p.call.site p.call.named p.call.name.now z)))) c.as_slice-values.ensures.value c.call_named.ensures.moves in
    subst (λ (l : List Expr). Moves m k stack c.call_named.result k1 stack1 (awaits on_call m p.call p.mark kinds (view_arguments l) p.values.items)) (sym none)
    (subst (Moves m k stack c.call_named.result k1 stack1) (sym (none_await on_call m p.call p.mark kinds p.values.items)) moves)

pub returns-in_err-plan-in-len1-up-clause-moves : goal.returns-in_err-plan-in-len1-up-clause-moves
returns-in_err-plan-in-len1-up-clause-moves c =
    let m = c.args.program.now in
    let n = c.args.frames in
    let p = c.args.passing in
    let list = p.arguments.now in
    let first = c.first-item.result in
    let more = take (length list - 1) (drop 1 list) in
    let same : list ≡ first ∷ more = first_and_rest list first c.in-len1-up.len_at_least c.first-item.is in
    let k = view_state c.args.st.now in
    let k1 = view_state c.begin_eval.new.st in
    let stack = stack_of c.args.stack.now in
    let kinds = declared_kinds p.parameters.now in
    let end = c.in_err-plan-in-len1-up.field-0.0 in
    let over : c.from_residual.result ≡ Err end = search rules in
    subst (λ r. Moves m k stack r k1 stack (awaits (calls m n) m p.call p.mark kinds (view_arguments list) p.values.items)) (sym over)
    (subst (λ (l : List Expr). Moves m k stack (Err end) k1 stack (awaits (calls m n) m p.call p.mark kinds (view_arguments l) p.values.items)) (sym same)
    (more_ends m n p.call p.mark kinds (view_expr first) (view_arguments more) p.values.items k k1 stack stack end (c.in_err-plan-in-len1-up.ensures.means (calls m n))))
