use Rattle.sharc_ask.proofs.{Imports.{to_z, of_z, w64, to_z-of_z, err_from_is_err_and, view_state}, Waits.{wait_goes, wait_not_held, wait_of_null_mutex}}
use Rattle.sharc_ask.proofs.waiting.wait_call.Goals as goal

pub returns-in_err-unless-2-clause-does : goal.returns-in_err-unless-2-clause-does
returns-in_err-unless-2-clause-does c =
    let p = err_from_is_err_and c.from_residual-in_err-unless-2.result c.from_residual-in_err-unless-2.ensures.1 in
    rw (p.1, p.2) (wait_of_null_mutex (view_state c.args.st.now) c.args.site c.args.condition c.args.mutex (to_z w64 (of_z w64 c.args.condition)) (to_z w64 (of_z w64 c.args.mutex)) c.is_zero.result c.is_zero-2.result _ _
    (to_z-of_z c.ranges.condition) (to_z-of_z c.ranges.mutex) c.is_zero.ensures c.is_zero-2.ensures c.in_ok-unless.ensures c.in_err-unless-2.ensures)

pub returns-in_err-unless_held-clause-does : goal.returns-in_err-unless_held-clause-does
returns-in_err-unless_held-clause-does c =
    let p = err_from_is_err_and c.from_residual-in_err-unless_held.result c.from_residual-in_err-unless_held.ensures.1 in
    rw (p.1, p.2) (wait_not_held (view_state c.args.st.now) c.args.site c.args.condition c.args.mutex (to_z w64 (of_z w64 c.args.condition)) (to_z w64 (of_z w64 c.args.mutex)) c.is_zero.result c.is_zero-2.result c.first_cell.result _ _ _
    (to_z-of_z c.ranges.condition) (to_z-of_z c.ranges.mutex) c.is_zero.ensures c.is_zero-2.ensures c.first_cell.ensures c.in_ok-unless.ensures c.in_ok-unless-2.ensures c.in_err-unless_held.ensures)

pub returns-clause-does : goal.returns-clause-does
returns-clause-does c =
    wait_goes (view_state c.args.st.now) (view_state c.waits.new.st) c.args.site c.args.condition c.args.mutex (to_z w64 (of_z w64 c.args.condition)) (to_z w64 (of_z w64 c.args.mutex)) c.is_zero.result c.is_zero-2.result c.first_cell.result _ _ _ c.waits.result
    (to_z-of_z c.ranges.condition) (to_z-of_z c.ranges.mutex) c.is_zero.ensures c.is_zero-2.ensures c.first_cell.ensures c.in_ok-unless.ensures c.in_ok-unless-2.ensures c.in_ok-unless_held.ensures c.waits.ensures.does
