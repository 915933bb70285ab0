use Rattle.std.proofs.Common.{◌≡◌, true, sym, subst}
use Rattle.sharc_rounds.specs.Round.{Seat, MayTurnAt, HasRun, KeepsRoom, is_on}
use Rattle.sharc_rounds.proofs.Running.{nobody, no_room}
use Rattle.sharc_rounds.proofs.hand.Hand+BusSeat.go.Goals as goal

pub run_thread-requires-clause-on : goal.run_thread-requires-clause-on
run_thread-requires-clause-on g c = subst (λ (x : Seat). is_on x ≡ true) c.in-Some.is c.requires.on

pub run_thread-requires-clause-may : goal.run_thread-requires-clause-may
run_thread-requires-clause-may g c = subst (λ (x : Seat). MayTurnAt c.args.lent.now.code.now c.args.lent.now.shape.now c.args.lent.now.limit c.args.stint.turns x c.args.self.port.number) c.in-Some.is c.requires.may.may

pub returns-in-None-clause-ran : goal.returns-in-None-clause-ran
returns-in-None-clause-ran g c = nobody c.args.lent.now.code.now c.args.lent.now.shape.now c.args.lent.now.limit c.args.self.seat c.args.self.port c.in-None.is

pub returns-in-Some-clause-ran : goal.returns-in-Some-clause-ran
returns-in-Some-clause-ran g c = subst (λ (x : Seat). HasRun c.args.lent.now.code.now c.args.lent.now.shape.now c.args.lent.now.limit record { seat = x; port = c.args.self.port } c.run_thread.result) (sym c.in-Some.is) c.run_thread.ensures.ran

pub returns-in-None-clause-room : goal.returns-in-None-clause-room
returns-in-None-clause-room g c = no_room c.args.stint.turns c.args.self.seat _ c.in-None.is

pub returns-in-Some-clause-room : goal.returns-in-Some-clause-room
returns-in-Some-clause-room g c = subst (λ (x : Seat). KeepsRoom c.args.stint.turns x c.run_thread.result.seat) (sym c.in-Some.is) c.run_thread.ensures.room
