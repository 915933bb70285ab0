use Rattle.sharc_ask.proofs.{Imports.{◌≡◌, length, arith, err_from_is_err_and, view_state, view_place}, Locks.{lock_of_too_many, lock_not_done, lock_goes}}
use Rattle.sharc_ask.proofs.locking.lock_call.Goals as goal

pub returns-in_err-unless-clause-does : goal.returns-in_err-unless-clause-does
returns-in_err-unless-clause-does c =
    let all : c.len.result ≡ length c.args.st.now.held.items = omega (arith, c.len.ensures) in
    let p = err_from_is_err_and c.from_residual-in_err-unless.result c.from_residual-in_err-unless.ensures.1 in
    rw (p.1, p.2) (lock_of_too_many (view_state c.args.st.now) c.args.site (view_place c.args.place) c.cell_at_place-cell.result c.len.result _ _ c.cell_at_place-cell.ensures all c.in_ok-unless_held_already.ensures c.in_err-unless.ensures)

pub returns-in_err-perform-clause-does : goal.returns-in_err-perform-clause-does
returns-in_err-perform-clause-does c =
    let all : c.len.result ≡ length c.args.st.now.held.items = omega (arith, c.len.ensures) in
    let p = err_from_is_err_and c.from_residual-in_err-perform.result c.from_residual-in_err-perform.ensures.1 in
    rw (p.1, p.2) (lock_not_done (view_state c.args.st.now) (view_state c.perform.new.st) c.args.site (view_place c.args.place) c.cell_at_place-cell.result c.len.result _ _ _
    c.cell_at_place-cell.ensures all c.in_ok-unless_held_already.ensures c.in_ok-unless.ensures c.in_err-perform.ensures.does)

pub returns-clause-does : goal.returns-clause-does
returns-clause-does c =
    let all : c.len.result ≡ length c.args.st.now.held.items = omega (arith, c.len.ensures) in
    lock_goes (view_state c.args.st.now) (view_state c.perform.new.st) (view_state c.moves_base.new.st) c.args.site (view_place c.args.place) c.cell_at_place-cell.result c.len.result _ _ _ c.moves_base.result
    c.cell_at_place-cell.ensures all c.in_ok-unless_held_already.ensures c.in_ok-unless.ensures c.in_ok-perform.ensures.does c.moves_base.ensures.does
