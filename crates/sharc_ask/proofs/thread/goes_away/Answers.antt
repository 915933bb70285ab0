use Rattle.sharc_ask.proofs.{Imports.{◌≡◌, length, Err, sym, subst, rules, ◌==◌, Trap, unless_stop, goes_away, view_state, Does, leaves}, Steps.over_then, Telling.goes_when_free, OwnSteps.does_then}
use Rattle.sharc_ask.proofs.thread.goes_away.Goals as goal

pub returns : goal.returns
returns c =
    let k = view_state c.args.st.now in
    let free = c.is_empty-free.result in
    let none : free ≡ (length k.held == 0) = search rules in
    goes_when_free k (view_state c.leaves.new.st) c.args.name c.args.site free c.leaves.result none (does_then k k (view_state c.leaves.new.st) c.in_ok-unless.field-0 c.leaves.result (unless_stop free Trap.ReturnWithLockHeld c.args.site) (λ x. leaves c.args.name) c.in_ok-unless.ensures c.leaves.ensures)

pub returns-in_err-unless : goal.returns-in_err-unless
returns-in_err-unless c =
    let k = view_state c.args.st.now in
    let free = c.is_empty-free.result in
    let none : free ≡ (length k.held == 0) = search rules in
    let is : c.from_residual.result ≡ Err c.in_err-unless.field-0.0 = search rules in
    subst (λ r. Does k r k (goes_away c.args.name c.args.site)) (sym is)
    (goes_when_free k k c.args.name c.args.site free (Err c.in_err-unless.field-0.0) none (over_then k k c.in_err-unless.field-0.0 (unless_stop free Trap.ReturnWithLockHeld c.args.site) (λ x. leaves c.args.name) c.in_err-unless.ensures))
