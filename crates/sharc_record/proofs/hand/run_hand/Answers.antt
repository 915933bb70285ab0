use Rattle.sharc_record.proofs.{Imports.{sym, subst, Seat, MayTurnAt, QUANTUM, HasRun}, Running.nobody}
use Rattle.sharc_record.proofs.hand.run_hand.Goals as goal

pub run_thread-requires-clause-may : goal.run_thread-requires-clause-may
run_thread-requires-clause-may g c = subst (λ (x : Seat). MayTurnAt c.args.lent.now.code.now c.args.lent.now.shape.now c.args.lent.now.limit QUANTUM x c.args.hand.port.number) c.in-Some.is c.requires.may.may

pub returns-in-None : goal.returns-in-None
returns-in-None g c = nobody c.args.lent.now.code.now c.args.lent.now.shape.now c.args.lent.now.limit c.args.hand.seat c.args.hand.port c.in-None.is

pub returns-in-Some : goal.returns-in-Some
returns-in-Some g c = subst (λ (x : Seat). HasRun c.args.lent.now.code.now c.args.lent.now.shape.now c.args.lent.now.limit record { seat = x; port = c.args.hand.port } c.run_thread.result) (sym c.in-Some.is) c.run_thread.ensures
